-- `token_values::frequent_value` meets its contract: a test that fails leaves the values behind it.
use mathlib.Core.Path.{◌≡◌, refl, ap, ◌∙◌}
use Prim.Native.Nat.{ℕ, ◌*◌}
use lib.ListN.{drop}
use Rattle.standard.specs.Lengths.{ticks}
use Rattle.token_lengths.specs.Values.{written}
use Rattle.token_values.specs.Found.{fraction, found_as, first_exact, frequent, frequent_of}
use Rattle.token_values.proofs.Frequent.{exact_first, exact_later}
use Rattle.token_values.proofs.frequent_value.Goals as goal

-- none of the first k has the length
abbrev Left : ℕ → ℕ → ℕ → Type 0
Left k num parts = first_exact (drop k frequent) (num * 1024) parts ≡ frequent_of (fraction num parts)

begin : (num parts : ℕ) → Left 0 num parts
unfolding frequent_of
begin num parts = refl

left_1 : (num parts : ℕ) → (128 * parts ≡ num * 1024 → ⊥) → Left 1 num parts
unfolding ticks
left_1 num parts n = exact_later (written 5 0) _ _ _ n ∙ begin num parts

left_2 : (num parts : ℕ) → Left 1 num parts → (256 * parts ≡ num * 1024 → ⊥) → Left 2 num parts
unfolding ticks
left_2 num parts l n = exact_later (written 4 0) _ _ _ n ∙ l

left_3 : (num parts : ℕ) → Left 2 num parts → (64 * parts ≡ num * 1024 → ⊥) → Left 3 num parts
unfolding ticks
left_3 num parts l n = exact_later (written 6 0) _ _ _ n ∙ l

left_4 : (num parts : ℕ) → Left 3 num parts → (512 * parts ≡ num * 1024 → ⊥) → Left 4 num parts
unfolding ticks
left_4 num parts l n = exact_later (written 3 0) _ _ _ n ∙ l

left_5 : (num parts : ℕ) → Left 4 num parts → (192 * parts ≡ num * 1024 → ⊥) → Left 5 num parts
unfolding ticks
left_5 num parts l n = exact_later (written 5 1) _ _ _ n ∙ l

left_6 : (num parts : ℕ) → Left 5 num parts → (384 * parts ≡ num * 1024 → ⊥) → Left 6 num parts
unfolding ticks
left_6 num parts l n = exact_later (written 4 1) _ _ _ n ∙ l

pub returns-then-parts-length : goal.returns-then-parts-length
unfolding ticks
returns-then-parts-length c = ap found_as (exact_first (written 5 0) _ _ _ c.if-parts-length.true ∙ begin _ _)

pub returns-then-parts-length-2 : goal.returns-then-parts-length-2
unfolding ticks
returns-then-parts-length-2 c = ap found_as (exact_first (written 4 0) _ _ _ c.if-parts-length-2.true ∙ left_1 c.args.num c.args.parts c.if-parts-length.false)

pub returns-then-parts-length-3 : goal.returns-then-parts-length-3
unfolding ticks
returns-then-parts-length-3 c = ap found_as (exact_first (written 6 0) _ _ _ c.if-parts-length-3.true ∙ left_2 c.args.num c.args.parts (left_1 c.args.num c.args.parts c.if-parts-length.false) c.if-parts-length-2.false)

pub returns-then-parts-length-4 : goal.returns-then-parts-length-4
unfolding ticks
returns-then-parts-length-4 c = ap found_as (exact_first (written 3 0) _ _ _ c.if-parts-length-4.true ∙ left_3 c.args.num c.args.parts (left_2 c.args.num c.args.parts (left_1 c.args.num c.args.parts c.if-parts-length.false) c.if-parts-length-2.false) c.if-parts-length-3.false)

pub returns-then-parts-length-5 : goal.returns-then-parts-length-5
unfolding ticks
returns-then-parts-length-5 c = ap found_as (exact_first (written 5 1) _ _ _ c.if-parts-length-5.true ∙ left_4 c.args.num c.args.parts (left_3 c.args.num c.args.parts (left_2 c.args.num c.args.parts (left_1 c.args.num c.args.parts c.if-parts-length.false) c.if-parts-length-2.false) c.if-parts-length-3.false) c.if-parts-length-4.false)

pub returns-then-parts-length-6 : goal.returns-then-parts-length-6
unfolding ticks
returns-then-parts-length-6 c = ap found_as (exact_first (written 4 1) _ _ _ c.if-parts-length-6.true ∙ left_5 c.args.num c.args.parts (left_4 c.args.num c.args.parts (left_3 c.args.num c.args.parts (left_2 c.args.num c.args.parts (left_1 c.args.num c.args.parts c.if-parts-length.false) c.if-parts-length-2.false) c.if-parts-length-3.false) c.if-parts-length-4.false) c.if-parts-length-5.false)

pub returns : goal.returns
unfolding first_exact
returns c = ap found_as (left_6 c.args.num c.args.parts (left_5 c.args.num c.args.parts (left_4 c.args.num c.args.parts (left_3 c.args.num c.args.parts (left_2 c.args.num c.args.parts (left_1 c.args.num c.args.parts c.if-parts-length.false) c.if-parts-length-2.false) c.if-parts-length-3.false) c.if-parts-length-4.false) c.if-parts-length-5.false) c.if-parts-length-6.false)
