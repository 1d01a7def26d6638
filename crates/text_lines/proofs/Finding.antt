-- A byte found 16 bytes at a time: those of one kind from a position on, in blocks.
use Prim.Native.Nat.{ℕ, ◌+◌, ◌<◌, ◌≤◌}
use mathlib.Core.Path.{◌≡◌, refl, sym, ap, ◌∙◌}
use mathlib.Core.Bool.{Bool, true, false, ◌&&◌}
use mathlib.Core.List.{List, [], ◌∷◌, ◌++◌}
use native.Mathlib.Omega.{arith}
use lib.ListN.{length, get_or}
use Rattle.laws.specs.Lists.{all, count_while}
use Rattle.laws.specs.Bytes.{between}
use Rattle.laws.specs.Spans.{end_in}
use Rattle.laws.proofs.Bools.{and_true, and_left, and_right}
use Rattle.laws.proofs.Spans.{count_while_yes}
use Rattle.laws.proofs.Parts.{between_first, between_none, between_cut, length_between}

-- A BLOCK, of which j bytes are read: n says of those that each is of the kind
pub block_next : (p : ℕ → Bool) (text : List ℕ) (at j e : ℕ) (n m : Bool) → at + j < e → e ≤ length text → m ≡ (n && p (get_or text (at + j) 0))
    → (m && all p (between text (at + (j + 1)) e)) ≡ (n && all p (between text (at + j) e))
block_next p text at j e n m h k y =
    let x = p (get_or text (at + j) 0) in
    let next : at + (j + 1) ≡ at + j + 1 = omega arith in
    ap (λ (b : Bool). b && all p (between text (at + (j + 1)) e)) y
    ∙ three n x (all p (between text (at + (j + 1)) e))
    ∙ ap (λ (i : ℕ). n && (x && all p (between text i e))) next
    ∙ ap (λ (s : List ℕ). n && all p s) (sym (between_first text (at + j) e h k))
  where
    three : (a b c : Bool) → ((a && b) && c) ≡ (a && (b && c))
    three true b c = refl
    three false b c = refl

pub block_end : (p : ℕ → Bool) (text : List ℕ) (i e : ℕ) (n : Bool) → e ≤ i → n ≡ (n && all p (between text i e))
block_end p text i e n h = sym (ap (λ (s : List ℕ). n && all p s) (between_none text i e h) ∙ and_true n)

-- BLOCK BY BLOCK
count_while_both : (p : ℕ → Bool) (s t : List ℕ) → all p s ≡ true → count_while p (s ++ t) ≡ length s + count_while p t
count_while_both p [] t e = omega arith
count_while_both p (c ∷ s) t e = rw (count_while_yes p c (s ++ t) (and_left (p c) (all p s) e)) (omega (arith, count_while_both p s t (and_right (p c) (all p s) e)))

-- past a block of the kind the end is the same
pub end_behind : (p : ℕ → Bool) (text : List ℕ) (i k e : ℕ) → i ≤ k → k ≤ e → e ≤ length text → all p (between text i k) ≡ true → end_in p text k e ≡ end_in p text i e
end_behind p text i k e h l f y =
    let s : count_while p (between text i e) ≡ length (between text i k) + count_while p (between text k e) = ap (count_while p) (between_cut text i e k h l) ∙ count_while_both p (between text i k) (between text k e) y in
    omega (arith, s, length_between text i k (omega arith))
