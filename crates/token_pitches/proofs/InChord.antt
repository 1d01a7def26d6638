-- Signs and letters in a chord, by position.
use Prim.Native.Nat.{ℕ, suc, ◌+◌}
use mathlib.Core.Path.{◌≡◌, refl, sym, ap, ◌∙◌}
use mathlib.Core.Bool.{Bool}
use mathlib.Core.Option.{none, some}
use mathlib.Core.List.{List}
use native.Mathlib.Omega.{arith}
use lib.ListN.{get_or, drop}
use borrow.Author.Tests.{eq-eqb, ne_eqb}
use Rattle.laws.proofs.Bools.{by_test}
use Rattle.laws.proofs.Lists.{first_at}
use Rattle.standard.specs.Pitches.{step_of}
use Rattle.reader.specs.Pitches.{added, is_quarter, moved, octave_from, octave_of}
use Rattle.token_pitches.specs.Pitches.{note_char, quarter_for, before_for, octave_for, octave_at, sign_for, sign_of}
use Rattle.token_pitches.specs.Chords.{sign_in, letter_met, met_for}
use Rattle.std.specs.Prelude.{Err}
use Rattle.refusals.specs.declared.Refusal.{Refusal}
use Rattle.text_bytes.specs.declared.Read.{Read}
use Rattle.token_pitches.specs.declared.Sign.{Sign}
use Rattle.token_pitches.specs.declared.Sign.TheVariants as sign
use Rattle.token_pitches.specs.declared.Met.TheVariants as met-as
use Rattle.token_pitches.specs.declared.NoteChar.{NoteChar}
use Rattle.token_pitches.proofs.Octaves.{fine, refused}
use Rattle.token_pitches.proofs.Walk.{sign_quarter, sign_plain, letter_fine, letter_out}

-- SIGNS
module _ (line : List ℕ) (at : ℕ) (up : Bool) (waits : Sign) where
  pub sign_first_quarter : waits ≡ sign.Nothing → get_or line (at + 1) 0 ≡ 47
      → record { value = quarter_for up; next = at + 2 } ≡ before_for at (sign_in up (sign_of waits) (drop (at + 1) line))
  unfolding is_quarter
  sign_first_quarter w e =
      rw w (rw (sign_quarter up none (drop (at + 1) line) (eq-eqb _ 47 (first_at line (at + 1) ∙ e))))

  pub sign_first : waits ≡ sign.Nothing → (get_or line (at + 1) 0 ≡ 47 → ⊥) → (m : ℕ) → m ≡ moved up 1 128
      → record { value = sign.Written m 128; next = at + 1 } ≡ before_for at (sign_in up (sign_of waits) (drop (at + 1) line))
  unfolding is_quarter added
  sign_first w n m e =
      rw (w, e) (rw (sign_plain up none (drop (at + 1) line) (ne_eqb _ 47 (λ k. n (sym (first_at line (at + 1)) ∙ k)))))

  pub sign_next : (alter cents : ℕ) → waits ≡ sign.Written alter cents → (m : ℕ) → m ≡ moved up 1 alter
      → record { value = sign.Written m 128; next = at + 1 } ≡ before_for at (sign_in up (sign_of waits) (drop (at + 1) line))
  unfolding is_quarter added
  sign_next alter cents w m e = rw (w, e) (rw (sign_plain up (some (record { alter = alter; cents = cents })) (drop (at + 1) line) refl))

-- LETTERS
pub mark_forth : (m : Sign) → sign_for (sign_of m) ≡ m
mark_forth sign.Nothing = refl
mark_forth (sign.Written a c) = refl

module _ (line : List ℕ) (at : ℕ) (waits : Sign) (l : NoteChar) (e : l ≡ note_char (get_or line at 0)) where
  marks : octave_from l.octave (drop (at + 1) line) ≡ octave_of (get_or line at 0) (drop (at + 1) line)
  unfolding octave_of
  marks = rw e

  pub letter_refused : (x : Refusal) → octave_for (at + 1) (octave_from l.octave (drop (at + 1) line)) ≡ Err x
      → met-as.Out ≡ met_for at (letter_met (get_or line at 0) (sign_of waits) (octave_of (get_or line at 0) (drop (at + 1) line)))
  unfolding met_for
  letter_refused x r =
      let o = octave_of (get_or line at 0) (drop (at + 1) line) in
      let q : octave_for (at + 1) o ≡ Err x = ap (octave_for (at + 1)) (sym marks) ∙ r in
      by_test o.fine
      (λ f. let k = fine (at + 1) o f in let z : ◌≡◌ {A = ℕ} 0 1 = cc in absurd (omega arith))
      (λ f. ap (met_for at) (sym (letter_out (get_or line at 0) (sign_of waits) o f)))

  pub letter_read : (octave next : ℕ) → octave_for (at + 1) (octave_from l.octave (drop (at + 1) line)) ≡ octave_at octave next
      → met-as.Pitch (record { step = l.step; octave = octave; sign = waits }) next ≡ met_for at (letter_met (get_or line at 0) (sign_of waits) (octave_of (get_or line at 0) (drop (at + 1) line)))
  unfolding met_for
  letter_read octave next r =
      let o = octave_of (get_or line at 0) (drop (at + 1) line) in
      let q : octave_for (at + 1) o ≡ octave_at octave next = ap (octave_for (at + 1)) (sym marks) ∙ r in
      by_test o.fine
      (λ f. let k : octave_at o.octave (at + 1 + o.used) ≡ octave_at octave next = sym (fine (at + 1) o f) ∙ q in
      let r : ◌≡◌ {A = Read ℕ} (record { value = o.octave; next = at + 1 + o.used }) (record { value = octave; next = next }) = cc in
      let a : octave ≡ o.octave = sym (ap (λ (x : Read ℕ). x.value) r) in
      let b : at + 1 + o.used ≡ next = ap (λ (x : Read ℕ). x.next) r in
      let n : next ≡ at + suc o.used = omega arith in
      let s : l.step ≡ step_of (get_or line at 0) = ap (λ (x : NoteChar). x.step) e in
      let w : waits ≡ sign_for (sign_of waits) = sym (mark_forth waits) in
      (λ j. met-as.Pitch (record { step = s j; octave = a j; sign = w j }) (n j)) ∙ ap (met_for at) (sym (letter_fine (get_or line at 0) (sign_of waits) o f)))
      (λ f. let k = refused (at + 1) o f in let z : ◌≡◌ {A = ℕ} 0 1 = cc in absurd (omega arith))
