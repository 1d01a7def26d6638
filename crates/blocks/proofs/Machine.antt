-- A machine that a line feed brings to its start, or to a state that it does not leave: it accepts lines one after the other just if it accepts each.
-- With it: UTF-8 and blank texts, line by line. Assumes nothing.
use Prim.Native.Nat.{ℕ}
use mathlib.Core.Path.{◌≡◌, refl, sym, ap, ◌∙◌}
use mathlib.Core.Logic.{◌⊎◌, inl, inr, ⊎_elim, ◌↔◌}
use mathlib.Core.Bool.{true, false≢true}
use mathlib.Core.List.{List, [], ◌∷◌, ◌++◌}
use lib.Dec.{eqb}
use borrow.Author.Tests.{eqb-true}
use Rattle.laws.specs.Lists.{foldl}
use Rattle.laws.proofs.Bools.{by_test}
use Rattle.laws.proofs.Lists.{foldl_append, is_nil_true}
use Rattle.reader.specs.Text.{Utf8, between, one, two, three, after_e0, after_ed, after_f0, after_f4, invalid, utf8_step, is_between, White, white, in_c2, in_e1, in_e19a, in_e2, in_e280, in_e281, in_e3, in_e380, other, white_step, is_all_white}
use Rattle.blocks.specs.Blocks.{closed}

module _ {Q : Type 0} (d : Q → ℕ → Q) (q0 dead : Q) (differ : dead ≡ q0 → ⊥) (lf : (q : Q) → (d q 10 ≡ q0) ⊎ (d q 10 ≡ dead)) (stuck : (c : ℕ) → d dead c ≡ dead) where
  pub stays_dead : (t : List ℕ) → foldl d dead t ≡ dead
  stays_dead [] = refl
  stays_dead (c ∷ t) = ap (λ (q : Q). foldl d q t) (stuck c) ∙ stays_dead t

  after_line : (q : Q) (r : List ℕ) → closed r ≡ true → (foldl d q r ≡ q0) ⊎ (foldl d q r ≡ dead)
  after_line q [] h = absurd (false≢true h)
  after_line q (c ∷ r) h =
      let rest : closed r ≡ true → (foldl d (d q c) r ≡ q0) ⊎ (foldl d (d q c) r ≡ dead) = after_line (d q c) r in
      by_test (eqb c 10)
      (λ e.
      let z : r ≡ [] = is_nil_true r (rw e at h) in
      let k : d q c ≡ d q 10 = ap (d q) (eqb-true c 10 e) in
      ⊎_elim (λ x. inl (ap (foldl d (d q c)) z ∙ k ∙ x)) (λ x. inr (ap (foldl d (d q c)) z ∙ k ∙ x)) (lf q))
      (λ e. rest (rw e at h))

  pub accept_line : (r t : List ℕ) → closed r ≡ true → (foldl d q0 (r ++ t) ≡ q0) ↔ ((foldl d q0 r ≡ q0) × (foldl d q0 t ≡ q0))
  accept_line r t h = (
    λ a.
        ⊎_elim
        (λ x. (x, sym (ap (λ (q : Q). foldl d q t) x) ∙ sym (foldl_append d q0 r t) ∙ a))
        (λ x. absurd (differ (sym (stays_dead t) ∙ sym (ap (λ (q : Q). foldl d q t) x) ∙ sym (foldl_append d q0 r t) ∙ a)))
        (after_line q0 r h),
    λ a. foldl_append d q0 r t ∙ ap (λ (q : Q). foldl d q t) a.0 ∙ a.1,
  )

-- WHITE SPACE
abbrev pub Blank : List ℕ → Type 0
Blank t = foldl white_step white t ≡ white

other_white : other ≡ white → ⊥
other_white e = false≢true (ap is_all_white e)

white_lf : (q : White) → (white_step q 10 ≡ white) ⊎ (white_step q 10 ≡ other)
unfolding white_step
white_lf white = inl refl
white_lf in_c2 = inr refl
white_lf in_e1 = inr refl
white_lf in_e19a = inr refl
white_lf in_e2 = inr refl
white_lf in_e280 = inr refl
white_lf in_e281 = inr refl
white_lf in_e3 = inr refl
white_lf in_e380 = inr refl
white_lf other = inr refl

other_stuck : (c : ℕ) → white_step other c ≡ other
unfolding white_step
other_stuck c = refl

pub blank_line : (r t : List ℕ) → closed r ≡ true → Blank (r ++ t) ↔ (Blank r × Blank t)
blank_line = accept_line white_step white other other_white white_lf other_stuck

-- UTF-8
abbrev pub IsUtf8 : List ℕ → Type 0
IsUtf8 t = foldl utf8_step between t ≡ between

invalid_between : invalid ≡ between → ⊥
invalid_between e = false≢true (ap is_between e)

utf8_lf : (q : Utf8) → (utf8_step q 10 ≡ between) ⊎ (utf8_step q 10 ≡ invalid)
unfolding utf8_step
utf8_lf between = inl refl
utf8_lf one = inr refl
utf8_lf two = inr refl
utf8_lf three = inr refl
utf8_lf after_e0 = inr refl
utf8_lf after_ed = inr refl
utf8_lf after_f0 = inr refl
utf8_lf after_f4 = inr refl
utf8_lf invalid = inr refl

invalid_stuck : (c : ℕ) → utf8_step invalid c ≡ invalid
unfolding utf8_step
invalid_stuck c = refl

pub utf8_line : (r t : List ℕ) → closed r ≡ true → IsUtf8 (r ++ t) ↔ (IsUtf8 r × IsUtf8 t)
utf8_line = accept_line utf8_step between invalid invalid_between utf8_lf invalid_stuck
