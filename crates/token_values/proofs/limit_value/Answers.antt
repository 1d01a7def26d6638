-- `token_values::limit_value` meets its contract.
use Prim.Native.Nat.{ℕ, zero, suc}
use mathlib.Core.Path.{◌≡◌, refl, ap}
use mathlib.Core.Option.{none, some}
use native.Mathlib.Omega.{arith}
use Rattle.reader.specs.Search.{limit_of}
use Rattle.token_lengths.specs.Values.{written}
use Rattle.token_values.specs.Found.{fraction, found_as}
use Rattle.token_values.proofs.limit_value.Goals as goal

-- no parts, and no length either
neither : (num parts : ℕ) → parts ≡ 0 → num ≡ 0 → some (written 0 0) ≡ limit_of (fraction num parts)
unfolding limit_of
neither zero zero p n = refl
neither (suc k) parts p n = absurd (omega arith)
neither zero (suc j) p n = absurd (omega arith)

no_parts : (num parts : ℕ) → parts ≡ 0 → (num ≡ 0 → ⊥) → some (written 0 3) ≡ limit_of (fraction num parts)
unfolding limit_of
no_parts zero parts p n = absurd (n refl)
no_parts (suc k) zero p n = refl
no_parts (suc k) (suc j) p n = absurd (omega arith)

no_length : (num parts : ℕ) → (parts ≡ 0 → ⊥) → num ≡ 0 → some (written 4 0) ≡ limit_of (fraction num parts)
unfolding limit_of
no_length num zero p n = absurd (p refl)
no_length zero (suc j) p n = refl
no_length (suc k) (suc j) p n = absurd (omega arith)

some_of_both : (num parts : ℕ) → (parts ≡ 0 → ⊥) → (num ≡ 0 → ⊥) → none ≡ limit_of (fraction num parts)
unfolding limit_of
some_of_both num zero p n = absurd (p refl)
some_of_both zero (suc j) p n = absurd (n refl)
some_of_both (suc k) (suc j) p n = refl

pub returns-in-0-eq0 : goal.returns-in-0-eq0
returns-in-0-eq0 c = let h = c.in-0-eq0 in ap found_as (neither _ _ h.is-1 h.is-0)

pub returns-in-0-default : goal.returns-in-0-default
returns-in-0-default c = let h = c.in-0-default in ap found_as (no_length _ _ h.is-1.1 h.is-0)

pub returns-in_default-eq0 : goal.returns-in_default-eq0
returns-in_default-eq0 c = let h = c.in_default-eq0 in ap found_as (no_parts _ _ h.is-1 h.is-0.1)

pub returns-in_default : goal.returns-in_default
returns-in_default c = let h = c.in_default in ap found_as (some_of_both _ _ h.is-1.1 h.is-0.1)
