-- Whether a bracket is a field, by position.
use Prim.Native.Nat.{ℕ, suc, ◌+◌, ◌-◌, ◌≤◌, ◌<◌}
use mathlib.Core.Path.{◌≡◌, refl, sym, ap, ◌∙◌}
use mathlib.Core.Bool.{Bool, true, false, not}
use mathlib.Core.List.{List, [], ◌∷◌}
use native.Mathlib.Omega.{arith}
use lib.Dec.{ltb, eqb}
use lib.ListN.{length, get_or, drop, length-drop}
use borrow.Author.Tests.{lt-ltb, le-ltb, ltb-true, ltb-false, ne_eqb}
use Rattle.laws.specs.Lists.{count_while, any}
use Rattle.laws.specs.Bytes.{between, part}
use Rattle.laws.specs.Spans.{end_of, end_in}
use Rattle.laws.proofs.Bools.{by_test}
use Rattle.laws.proofs.Spans.{count_while_yes, count_while_no}
use Rattle.laws.proofs.Parts.{length_between}
use Rattle.laws.proofs.Lists.{first_at}
use Rattle.standard.specs.Bytes.{is, first}
use Rattle.reader.specs.Inline.{is_inline}

-- some byte passes where the run of those that fail ends before the end
any_count_while : (p : ℕ → Bool) (t : List ℕ) → any p t ≡ ltb (count_while (λ c. not (p c)) t) (length t)
any_count_while p [] = refl
any_count_while p (c ∷ s) =
    by_test (p c)
    (λ e. rw (e, count_while_no (λ x. not (p x)) c s (ap not e)) (sym (lt-ltb 0 (suc (length s)) (omega arith))))
    (λ e. rw (e, count_while_yes (λ x. not (p x)) c s (ap not e)) (any_count_while p s ∙ up (count_while (λ x. not (p x)) s) (length s)))
  where
    up : (m n : ℕ) → ltb m n ≡ ltb (suc m) (suc n)
    up m n = by_test (ltb m n) (λ l. l ∙ sym (lt-ltb (suc m) (suc n) (omega (arith, ltb-true m n l)))) (λ l. l ∙ sym (le-ltb (suc m) (suc n) (omega (arith, ltb-false m n l))))

module _ (line : List ℕ) (from close : ℕ) (h : from ≤ length line) (k : close ≡ end_of (λ c. not (eqb c 93)) line from) where
  inside : close ≡ from + count_while (λ c. not (eqb c 93)) (drop from line)
  inside = k

  -- no `]`
  pub no_close : length line ≤ close → false ≡ is_inline (drop from line)
  unfolding is_inline
  no_close l =
      let q : length (drop from line) ≤ count_while (λ c. not (eqb c 93)) (drop from line) = omega (arith, inside, length-drop from line) in
      rw (le-ltb _ _ q)

  module _ (l : close < length line) where
    closes : ltb (count_while (λ c. not (eqb c 93)) (drop from line)) (length (drop from line)) ≡ true
    closes = let q : count_while (λ c. not (eqb c 93)) (drop from line) < length (drop from line) = omega (arith, inside, length-drop from line) in lt-ltb _ _ q

    -- a quote
    pub quote_first : get_or line from 0 ≡ 34 → false ≡ is_inline (drop from line)
    unfolding is_inline
    quote_first e = rw (closes, first_at line from ∙ e)

    -- a colon, or none
    pub colon_inside : (get_or line from 0 ≡ 34 → ⊥) → (i : ℕ) → i ≡ end_in (λ c. not (eqb c 58)) line from close → ltb i close ≡ is_inline (drop from line)
    unfolding is_inline part
    colon_inside n i e =
        let q : is "\"" (first (drop from line)) ≡ false = ne_eqb _ 34 (λ x. n (sym (first_at line from) ∙ x)) in
        let d : close - from ≡ count_while (λ c. not (eqb c 93)) (drop from line) = omega (arith, inside) in
        let t = between line from close in
        let m : length t ≡ close - from = length_between line from close (omega arith) in
        let a : any (is ":") t ≡ ltb i close =
        any_count_while (is ":") t
        ∙ by_test (ltb (count_while (λ c. not (eqb c 58)) t) (length t))
        (λ y. y ∙ sym (lt-ltb i close (omega (arith, e, m, ltb-true (count_while (λ c. not (eqb c 58)) t) (length t) y, inside))))
        (λ y. y ∙ sym (le-ltb i close (omega (arith, e, m, ltb-false (count_while (λ c. not (eqb c 58)) t) (length t) y, inside)))) in
        rw (closes, q) (sym (rw d at a))
