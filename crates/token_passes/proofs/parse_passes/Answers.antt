-- `token_passes::parse_passes` meets its contract. The loop's invariant is `Passing`; the measure is what is left of the line.
use Prim.Native.Nat.{◌<◌}
use mathlib.Core.Path.{◌≡◌, refl, sym, ◌∙◌}
use native.Mathlib.Omega.{arith}
use lib.Dec.{eqb}
use lib.ListN.{length, get_or}
use borrow.Author.Tests.{eq-eqb}
use Rattle.laws.proofs.Spans.{run_within}
use Rattle.token_passes.proofs.Items.{took, nothing_none}
use Rattle.token_passes.proofs.Reading.{passing_start, passing_none, passing_fits, passing_last, passing_on}
use Rattle.token_passes.proofs.parse_passes.Goals as goal

pub loop-item-init : goal.loop-item-init
loop-item-init c = passing_start _ _

pub returns-in_err-item : goal.returns-in_err-item
returns-in_err-item c =
    rw c.from_residual.ensures (passing_none _ _ _ _ _ _ c.loop-item.invariant _ (nothing_none _ _ (sym c.pass_item.ensures ∙ c.in_err-item.was)))

pub range_bits-bits-requires : goal.range_bits-bits-requires
range_bits-bits-requires c =
    let t = (took _ _ _ _ _ _ _ (sym c.pass_item.ensures ∙ c.in_ok-item.was)).1 in
    let a = t.above in
    (omega arith, t.order, t.top)

pub overflow_add-bits : goal.overflow_add-bits
overflow_add-bits c =
    let item = took _ _ _ _ _ _ _ (sym c.pass_item.ensures ∙ c.in_ok-item.was) in
    record { fits = rw c.range_bits-bits.ensures (omega (arith, passing_fits _ _ _ _ _ _ c.loop-item.invariant _ _ _ item.0 item.1)) }

pub overflow_cast-result : goal.overflow_cast-result
overflow_cast-result c =
    let item = took _ _ _ _ _ _ _ (sym c.pass_item.ensures ∙ c.in_ok-item.was) in
    record { fits = rw c.range_bits-bits.ensures (omega (arith, passing_fits _ _ _ _ _ _ c.loop-item.invariant _ _ _ item.0 item.1)) }

pub returns-then-not-goes_on : goal.returns-then-not-goes_on
returns-then-not-goes_on c =
    let item = took _ _ _ _ _ _ _ (sym c.pass_item.ensures ∙ c.in_ok-item.was) in
    passing_last _ _ _ _ _ _ c.loop-item.invariant _ _ _ item.0 item.1 (λ k. c.if-not-goes_on.true (c.byte_at-goes_on.ensures ∙ k)) _ _ c.first_of-first.ensures c.range_bits-bits.ensures

pub overflow_add-i : goal.overflow_add-i
overflow_add-i c =
    let comma : get_or c.args.line.now c.in_ok-item.item.next 0 ≡ 44 = sym c.byte_at-goes_on.ensures ∙ c.if-not-goes_on.false in
    let within : c.in_ok-item.item.next < length c.args.line.now = run_within (λ x. eqb x 44) refl c.args.line.now _ (eq-eqb _ _ comma) in
    omega (arith, within)

pub loop-item-smaller : goal.loop-item-smaller
loop-item-smaller c =
    let item = took _ _ _ _ _ _ _ (sym c.pass_item.ensures ∙ c.in_ok-item.was) in
    let comma : get_or c.args.line.now c.in_ok-item.item.next 0 ≡ 44 = sym c.byte_at-goes_on.ensures ∙ c.if-not-goes_on.false in
    let within : c.in_ok-item.item.next < length c.args.line.now = run_within (λ x. eqb x 44) refl c.args.line.now _ (eq-eqb _ _ comma) in
    omega (arith, within, item.0)

pub loop-item-preserved : goal.loop-item-preserved
loop-item-preserved c =
    let item = took _ _ _ _ _ _ _ (sym c.pass_item.ensures ∙ c.in_ok-item.was) in
    let comma : get_or c.args.line.now c.in_ok-item.item.next 0 ≡ 44 = sym c.byte_at-goes_on.ensures ∙ c.if-not-goes_on.false in
    passing_on _ _ _ _ _ _ c.loop-item.invariant _ _ _ item.0 item.1 comma _ _ c.first_of-first.ensures c.range_bits-bits.ensures
