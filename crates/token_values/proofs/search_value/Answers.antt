-- `token_values::search_value` meets its contract. Within both loops nothing has met the length, and the count is `Counting`, at 4 × k and at 4 × k + dots.
use mathlib.Core.Path.{◌≡◌, refl, sym, ap, ◌∙◌}
use Prim.Native.Nat.{ℕ, ◌+◌, ◌-◌, ◌*◌, ◌≤◌, ◌<◌}
use native.Mathlib.Nat.{add-zero, mul-le-mul}
use native.Mathlib.Omega.{arith}
use lib.ListN.{get_or}
use Rattle.standard.specs.Lengths.{forty}
use Rattle.reader.specs.Lengths.{quarter_note, written_as}
use Rattle.reader.specs.Search.{search_in, outward}
use Rattle.reader.proofs.ValueLaws.{written_met}
use Rattle.reader.proofs.Searches.{outward_as_written}
use Rattle.token_lengths.specs.Values.{length_as}
use Rattle.token_lengths.specs.declared.Length.{Length}
use Rattle.std.specs.Prelude as code
use Rattle.token_values.specs.Found.{fraction}
use Rattle.token_values.proofs.Searches.{nth_lt, counting_start, count_le, count_over, count_below, count_above, written_count}
use Rattle.token_values.proofs.Sizes.{size_le}
use Rattle.token_values.proofs.search_value.Goals as goal
use Rattle.token_values.proofs.search_value.Goals.{then-scaled-length-2, else-scaled-length-2, else-search-test, then-search-test+then-loop-dots-test+then-scaled-length}

-- WHAT THE SEARCH LEAVES: a value that meets the length, or how many are below it
abbrev Ended : ℕ → ℕ → code.Option Length → ℕ → Type 0
Ended num parts code.None n = (n ≤ 40) × (written_as (fraction num parts) ≡ get_or forty (40 - n) quarter_note)
Ended num parts (code.Some l) n = length_as (written_as (fraction num parts)) ≡ l

pub search-init : goal.search-init
search-init c = (omega arith, refl, counting_start _ _)

pub loop-dots-init : goal.loop-dots-init
loop-dots-init c = let i = c.search.invariant in (omega arith, i.1, rw add-zero i.2)

pub size-requires : goal.size-requires
size-requires c =
    let dots_lt : c.loop-dots.dots < 4 = omega arith in
    let k_lt : c.search.k < 10 = omega arith in
    let value_lt : c.outward_value-value.result < 10 = rw c.outward_value-value.ensures (nth_lt _ k_lt) in
    (value_lt, dots_lt)

pub overflow_mul-scaled : goal.overflow_mul-scaled
overflow_mul-scaled c =
    let dots_lt : c.loop-dots.dots < 4 = omega arith in
    let k_lt : c.search.k < 10 = omega arith in
    let value_lt : c.outward_value-value.result < 10 = rw c.outward_value-value.ensures (nth_lt _ k_lt) in
    let fit : c.size.result ≤ 7680 = rw c.size.ensures (size_le _ _ value_lt dots_lt) in
    omega (arith, mul-le-mul fit c.requires.1)

pub overflow_add-below : goal.overflow_add-below
overflow_add-below c = omega (arith, count_le _ _ _ _ c.loop-dots.invariant.2)

pub loop-dots-preserved : goal.loop-dots-preserved
loop-dots-preserved c =
    let k_lt : c.search.k < 10 = omega arith in
    let dots_lt : c.loop-dots.dots < 4 = omega arith in
    let hk = k_lt in
    let hd = dots_lt in
    let a = c.args in
    let v = c.outward_value-value in
    let i = c.loop-dots.invariant in (
      omega arith,
      i.1,
      elim c.if-scaled-length-2.branch [
        | then-scaled-length-2 w ↦ let p : c.size.result * a.parts < a.num * 1024 = omega (arith, w.if-scaled-length-2.true) in
            rw w.below-is (count_below _ _ _ _ _ i.2 hk hd (rw (c.size.ensures, v.ensures) at p))
        | else-scaled-length-2 w ↦ let p : a.num * 1024 < c.size.result * a.parts = omega (arith, w.if-scaled-length-2.false, c.if-scaled-length.false) in
            rw w.below-is (count_above _ _ _ _ _ i.2 hk hd (rw (c.size.ensures, v.ensures) at p))
      ],
    )

pub search-preserved : goal.search-preserved
search-preserved c =
    let i = c.loop-dots.invariant in
    let e : 4 * (c.search.k + 1) ≡ 4 * c.search.k + c.loop-dots.dots = omega arith in
    (omega arith, i.1, rw e i.2)

-- what the search left: by its end, or by the value that it met
pub longest_of-requires : goal.longest_of-requires
longest_of-requires c =
    let left : Ended c.args.num c.args.parts c.search-test.met c.search-test.below =
    elim c.search-test.branch [
      | else-search-test w ↦ let e : 4 * c.search.k ≡ 40 = omega (arith, w.search-test.false, c.search.invariant.0) in
          rw (w.met-is, w.below-is, c.search.invariant.1) (count_le _ _ _ _ c.search.invariant.2, written_count c.args.num c.args.parts _ c.requires.0 (count_over _ _ _ _ c.search.invariant.2 e))
      | then-search-test+then-loop-dots-test+then-scaled-length w ↦ let hk : c.search.k < 10 = omega (arith, w.search-test.true) in
          let hd : w.loop-dots.dots < 4 = omega (arith, w.loop-dots-test.true) in
          let hv : w.outward_value-value.result < 10 = rw w.outward_value-value.ensures (nth_lt _ hk) in
          rw w.met-is (ap length_as (written_met (fraction c.args.num c.args.parts) _ _ c.requires.0 hv hd (rw w.size.ensures at w.if-scaled-length.true)))
    ] in
    let none_met : Ended c.args.num c.args.parts code.None c.search-test.below = rw c.in_default.is at left in
    none_met.0

pub returns-in_default : goal.returns-in_default
returns-in_default c =
    let answers : search_in outward (fraction c.args.num c.args.parts) ≡ written_as (fraction c.args.num c.args.parts) = outward_as_written (fraction c.args.num c.args.parts) (omega (arith, c.requires.0)) in
    let left : Ended c.args.num c.args.parts c.search-test.met c.search-test.below =
    elim c.search-test.branch [
      | else-search-test w ↦ let e : 4 * c.search.k ≡ 40 = omega (arith, w.search-test.false, c.search.invariant.0) in
          rw (w.met-is, w.below-is, c.search.invariant.1) (count_le _ _ _ _ c.search.invariant.2, written_count c.args.num c.args.parts _ c.requires.0 (count_over _ _ _ _ c.search.invariant.2 e))
      | then-search-test+then-loop-dots-test+then-scaled-length w ↦ let hk : c.search.k < 10 = omega (arith, w.search-test.true) in
          let hd : w.loop-dots.dots < 4 = omega (arith, w.loop-dots-test.true) in
          let hv : w.outward_value-value.result < 10 = rw w.outward_value-value.ensures (nth_lt _ hk) in
          rw w.met-is (ap length_as (written_met (fraction c.args.num c.args.parts) _ _ c.requires.0 hv hd (rw w.size.ensures at w.if-scaled-length.true)))
    ] in
    let none_met : Ended c.args.num c.args.parts code.None c.search-test.below = rw c.in_default.is at left in
    c.longest_of.ensures ∙ ap length_as (sym none_met.1 ∙ sym answers)

pub returns : goal.returns
returns c =
    let left : Ended c.args.num c.args.parts c.search-test.met c.search-test.below =
    elim c.search-test.branch [
      | else-search-test w ↦ let e : 4 * c.search.k ≡ 40 = omega (arith, w.search-test.false, c.search.invariant.0) in
          rw (w.met-is, w.below-is, c.search.invariant.1) (count_le _ _ _ _ c.search.invariant.2, written_count c.args.num c.args.parts _ c.requires.0 (count_over _ _ _ _ c.search.invariant.2 e))
      | then-search-test+then-loop-dots-test+then-scaled-length w ↦ let hk : c.search.k < 10 = omega (arith, w.search-test.true) in
          let hd : w.loop-dots.dots < 4 = omega (arith, w.loop-dots-test.true) in
          let hv : w.outward_value-value.result < 10 = rw w.outward_value-value.ensures (nth_lt _ hk) in
          rw w.met-is (ap length_as (written_met (fraction c.args.num c.args.parts) _ _ c.requires.0 hv hd (rw w.size.ensures at w.if-scaled-length.true)))
    ] in
    let answers : search_in outward (fraction c.args.num c.args.parts) ≡ written_as (fraction c.args.num c.args.parts) = outward_as_written (fraction c.args.num c.args.parts) (omega (arith, c.requires.0)) in
    sym (rw c.in-Some.is at left) ∙ ap length_as (sym answers)
