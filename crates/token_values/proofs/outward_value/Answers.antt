-- `token_values::outward_value` meets its contract: the ten values as the definition has them, and 0 behind them.
use Prim.Native.Nat.{ℕ, ◌≤◌}
use mathlib.Core.Path.{◌≡◌, sym}
use native.Mathlib.Omega.{arith}
use lib.Dec.{eqb}
use lib.ListN.{get_or, get_or-eq_default}
use borrow.Author.Tests.{eqb-true, eqb-false}
use Rattle.laws.proofs.Bools.{by_test}
use Rattle.reader.specs.Search.{outward}
use Rattle.token_values.proofs.outward_value.Goals as goal

-- the longa is the last, and nothing stands behind it
last : (k : ℕ) → 9 ≤ k → 0 ≡ get_or outward k 0
last k h = by_test (eqb k 9) (λ e. rw (eqb-true k 9 e)) (λ e. let n = eqb-false k 9 e in sym (get_or-eq_default outward 0 {n = k} (omega arith)))

-- none of the first nine, told in two steps
not_first : (k : ℕ) → (k ≡ 0 → ⊥) → (k ≡ 1 → ⊥) → (k ≡ 2 → ⊥) → (k ≡ 3 → ⊥) → (k ≡ 4 → ⊥) → 5 ≤ k
not_first k a b c d e = omega arith

not_nine : (k : ℕ) → 5 ≤ k → (k ≡ 5 → ⊥) → (k ≡ 6 → ⊥) → (k ≡ 7 → ⊥) → (k ≡ 8 → ⊥) → 9 ≤ k
not_nine k h a b c d = omega arith

pub returns-in_default : goal.returns-in_default
returns-in_default c =
    let (((((((((_, n0), n1), n2), n3), n4), n5), n6), n7), n8) = c.in_default.in_default-own.rest in
    last c.args.k (not_nine _ (not_first _ n0 n1 n2 n3 n4) n5 n6 n7 n8)
