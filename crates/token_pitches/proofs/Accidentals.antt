-- Accidentals before a note, by position.
use Prim.Native.Nat.{ℕ, ◌+◌, ◌-◌}
use mathlib.Core.Path.{◌≡◌, sym, ap, ◌∙◌}
use mathlib.Core.Bool.{Bool, true, false, ◌&&◌}
use mathlib.Core.Option.{none, some}
use mathlib.Core.List.{List}
use native.Mathlib.Omega.{arith}
use lib.Dec.{eqb}
use lib.ListN.{get_or, drop}
use borrow.Author.Tests.{eq-eqb, ne_eqb}
use Rattle.laws.specs.Lists.{count_while}
use Rattle.laws.specs.Spans.{end_of}
use Rattle.laws.proofs.Bools.{and_no_left, and_no_right}
use Rattle.laws.proofs.Lists.{first_at, first_on}
use Rattle.standard.specs.Bytes.{is, first}
use Rattle.reader.specs.Pitches.{natural, quarter_tone, moved, signs, accidental_of}
use Rattle.token_pitches.specs.Pitches.{before_for, quarter_for}
use Rattle.token_pitches.specs.declared.Sign.TheVariants as sign

-- A RUN OF SIGNS
quarter : (up : Bool) (n : ℕ) (s : List ℕ) → n ≡ 1 → first (drop n s) ≡ 47 → signs up n s ≡ record { sign = some (quarter_tone up); used = 2 }
unfolding signs
quarter up n s h k = rw (eq-eqb n 1 h, eq-eqb _ 47 k, signs)

plain : (up : Bool) (n : ℕ) (s : List ℕ) → (eqb n 1 && is "/" (first (drop n s))) ≡ false
    → signs up n s ≡ record { sign = some (record { alter = moved up n 128; cents = 128 }); used = n }
unfolding signs
plain up n s e = rw (e, signs)

module _ (line : List ℕ) (at : ℕ) (up : Bool) (b end : ℕ) (e : end ≡ end_of (λ c. eqb c b) line at) where
  count : end - at ≡ count_while (λ c. eqb c b) (drop at line)
  count = omega (arith, e)

  -- the byte behind the run
  behind : get_or line end 0 ≡ first (drop (count_while (λ c. eqb c b) (drop at line)) (drop at line))
  behind = ap (λ k. get_or line k 0) e ∙ sym (first_on line at (count_while (λ c. eqb c b) (drop at line)))

  pub signs_quarter : end - at ≡ 1 → get_or line end 0 ≡ 47
      → record { value = quarter_for up; next = end + 1 } ≡ before_for at (signs up (count_while (λ c. eqb c b) (drop at line)) (drop at line))
  signs_quarter h k =
      let n : end + 1 ≡ at + 2 = omega (arith, e) in
      rw (quarter up (count_while (λ c. eqb c b) (drop at line)) (drop at line) (sym count ∙ h) (sym behind ∙ k), n)

  signs_other : (eqb (count_while (λ c. eqb c b) (drop at line)) 1 && is "/" (first (drop (count_while (λ c. eqb c b) (drop at line)) (drop at line)))) ≡ false
      → record { value = sign.Written (moved up (end - at) 128) 128; next = end } ≡ before_for at (signs up (count_while (λ c. eqb c b) (drop at line)) (drop at line))
  signs_other f =
      let n : at + (end - at) ≡ end = omega (arith, e) in
      rw (plain up (count_while (λ c. eqb c b) (drop at line)) (drop at line) f, ← count, n)

  pub signs_many : (end - at ≡ 1 → ⊥) → record { value = sign.Written (moved up (end - at) 128) 128; next = end } ≡ before_for at (signs up (count_while (λ c. eqb c b) (drop at line)) (drop at line))
  signs_many h = signs_other (and_no_left _ _ (ne_eqb _ 1 (λ k. h (count ∙ k))))

  pub signs_plain : (get_or line end 0 ≡ 47 → ⊥) → record { value = sign.Written (moved up (end - at) 128) 128; next = end } ≡ before_for at (signs up (count_while (λ c. eqb c b) (drop at line)) (drop at line))
  signs_plain h = signs_other (and_no_right (eqb (count_while (λ c. eqb c b) (drop at line)) 1) _ (ne_eqb _ 47 (λ k. h (behind ∙ k))))

-- THE FIRST BYTE TELLS
module _ (line : List ℕ) (at : ℕ) where
  there : {b : ℕ} → get_or line at 0 ≡ b → first (drop at line) ≡ b
  there e = first_at line at ∙ e

  back : {b : ℕ} → first (drop at line) ≡ b → get_or line at 0 ≡ b
  back e = sym (first_at line at) ∙ e

  pub before_up : get_or line at 0 ≡ 94 → accidental_of (drop at line) ≡ signs true (count_while (λ c. eqb c 94) (drop at line)) (drop at line)
  unfolding accidental_of
  before_up e = rw (there e, accidental_of)

  pub before_down : get_or line at 0 ≡ 95 → accidental_of (drop at line) ≡ signs false (count_while (λ c. eqb c 95) (drop at line)) (drop at line)
  unfolding accidental_of
  before_down e = rw (there e, accidental_of) (rw (there e))

  pub before_natural : get_or line at 0 ≡ 61 → accidental_of (drop at line) ≡ record { sign = some natural; used = 1 }
  unfolding accidental_of
  before_natural e = rw (there e, accidental_of) (rw (there e) (rw (there e)))

  pub before_none : (get_or line at 0 ≡ 94 → ⊥) → (get_or line at 0 ≡ 95 → ⊥) → (get_or line at 0 ≡ 61 → ⊥) → accidental_of (drop at line) ≡ record { sign = none; used = 0 }
  unfolding accidental_of
  before_none u d n =
      rw (ne_eqb (first (drop at line)) 94 (λ e. u (back e)), accidental_of)
      (rw (ne_eqb (first (drop at line)) 95 (λ e. d (back e))) (rw (ne_eqb (first (drop at line)) 61 (λ e. n (back e)))))
