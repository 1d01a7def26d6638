-- A text written piece by piece.
use Prim.Native.Nat.{ℕ, ◌+◌, ◌≤◌}
use mathlib.Core.Path.{◌≡◌, refl, ap, subst, ◌∙◌}
use mathlib.Core.List.{List, ◌++◌}
use native.Mathlib.Omega.{arith}
use lib.ListN.{length, length-append}
use Rattle.laws.specs.Bytes.{part, splice}
use Rattle.laws.proofs.Parts.{part_all}
use Rattle.laws.proofs.Splices.{length_spliced, spliced_next}
use Rattle.standard.specs.Bytes.{ascii}
use Rattle.reader.specs.Tally.{Counts}
use Rattle.tally_text.specs.Printed.{decimal, field, line, Adds}
use Rattle.tally_text.proofs.Digits.{decimal_most}

-- the bytes of a slice
pub copied : (d src e : List ℕ) (at : ℕ) → at + length src ≤ length d → e ≡ splice d at (part src 0 (length src)) → Adds d at src e (at + length src)
copied d src e at h q = record { ends = refl; fits = h; store = q ∙ ap (splice d at) (part_all src (length src) (omega arith)) }

-- the same bytes, called otherwise
pub called : {d e : List ℕ} {at r : ℕ} (a b : List ℕ) → Adds d at a e r → a ≡ b → Adds d at b e r
called {d} {e} {at} {r} a b h q = subst (λ (l : List ℕ). Adds d at l e r) q h

-- one piece behind the other
pub then : {d e f : List ℕ} {at m n : ℕ} (a b : List ℕ) → Adds d at a e m → Adds e m b f n → Adds d at (a ++ b) f n
then {d} {e} {f} {at} {m} {n} a b x y =
    record {
      ends = omega (arith, x.ends, y.ends, length-append a b);
      fits = omega (arith, y.fits, length_spliced d e at a x.store);
      store = spliced_next d e f at m a b x.store y.store x.ends;
    }

-- a field is as long as its word, and 20 digits at most
pub field_most : (w : List ℕ) (n : ℕ) → length (field w n) ≤ length w + 20
unfolding field
field_most w n = omega (arith, length-append w (decimal n), decimal_most n)

-- a line is 143 bytes at most
pub line_most : (i : ℕ) (c : Counts) → length (line i c) ≤ 143
unfolding line
line_most i c =
    let a = field (ascii "part ") i in
    let b = field (ascii " measures ") c.measures in
    let d = field (ascii " sounded ") c.sounded in
    let e = field (ascii " rests ") c.rests in
    let f = field (ascii " syllables ") c.syllables in
    omega (
      arith,
      length-append (a ++ b ++ d ++ e ++ f) (ascii "\n"),
      length-append (a ++ b ++ d ++ e) f,
      length-append (a ++ b ++ d) e,
      length-append (a ++ b) d,
      length-append a b,
      field_most (ascii "part ") i,
      field_most (ascii " measures ") c.measures,
      field_most (ascii " sounded ") c.sounded,
      field_most (ascii " rests ") c.rests,
      field_most (ascii " syllables ") c.syllables,
    )
