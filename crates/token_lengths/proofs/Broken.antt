-- `broken_length` is what `broken_note` does to a note's value and dots.
use Prim.Native.Nat.{ℕ, ◌<◌}
use mathlib.Core.Path.{◌≡◌, sym, ap, ◌∙◌}
use mathlib.Core.Bool.{Bool, true, false}
use native.Mathlib.Omega.{arith}
use borrow.Author.Tests.{eq-eqb, ne_eqb}
use Rattle.standard.specs.Lengths.{Fraction, Value, dotted, halved}
use Rattle.reader.specs.Lengths.{written_as}
use Rattle.reader.specs.State.{Note}
use Rattle.reader.specs.Part.{value_in, written_on, halved_note, broken_note}
use Rattle.reader.proofs.ValueLaws.{written_range}
use Rattle.token_lengths.specs.declared.Length.{Length}
use Rattle.token_lengths.specs.declared.Length.TheVariants.{Written, WholeBar}
use Rattle.token_lengths.specs.Values.{as_value, length_as, broken_length}

-- a written value is one of the ten
abbrev pub Proper : Length → Type 0
Proper (Written v d) = v < 10
Proper (WholeBar d) = Unit {0}

-- `abc_note_value` gives one
pub written_proper : (f : Fraction) → Proper (length_as (written_as f))
written_proper f = (written_range f).0

-- `apply_abc_broken_rhythm` keeps it one
pub broken_proper : (up : Bool) (n : ℕ) (l : Length) → Proper l → Proper (broken_length up n l)
unfolding broken_length dotted halved
broken_proper true n (Written v d) p = p
broken_proper true n (WholeBar d) p = tt
broken_proper false n (Written v d) p = omega arith
broken_proper false n (WholeBar d) p = tt

-- a written value is no whole bar
abbrev pub NoBar : Length → Type 0
NoBar (Written v d) = v ≡ 10 → ⊥
NoBar (WholeBar d) = Unit {0}

-- one note of a broken pair, in the length and in the note
pub broken_note_lem : (up : Bool) (n : ℕ) (l : Length) (x : Note) → NoBar l → value_in x ≡ as_value l
    → broken_note (record { up = up; times = n }) x ≡ written_on (as_value (broken_length up n l)) x
unfolding broken_note halved_note broken_length dotted halved
broken_note_lem true n (Written v d) x p e = ap (λ (w : Value). written_on (dotted n w) x) e
broken_note_lem true n (WholeBar d) x p e = ap (λ (w : Value). written_on (dotted n w) x) e
broken_note_lem false n (Written v d) x p e =
    let k : x.value ≡ v = ap (λ (w : Value). w.value) e in
    rw (ne_eqb x.value 10 (λ z. p (sym k ∙ z)), halved_note) (ap (λ (w : Value). written_on (halved n w) x) e)
broken_note_lem false n (WholeBar d) x p e =
    let k : x.value ≡ 10 = ap (λ (w : Value). w.value) e in
    rw (eq-eqb x.value 10 k, halved_note) (ap (λ (w : Value). written_on w x) e)
