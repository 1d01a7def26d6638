-- `token_passes::list_fault` meets its contract. The loop's invariant is `Faulting`; the measure is what is left of the line.
use Prim.Native.Nat.{◌<◌}
use mathlib.Core.Path.{◌≡◌, refl, sym, ap, ◌∙◌}
use mathlib.Core.Bool.{◌&&◌}
use mathlib.Core.Option.{some}
use mathlib.Core.List.{[], ◌∷◌}
use native.Mathlib.Omega.{arith}
use lib.Dec.{eqb}
use lib.ListN.{length, get_or}
use borrow.Author.Tests.{eq-eqb}
use Rattle.laws.specs.Lists.{all}
use Rattle.laws.specs.Spans.{end_of}
use Rattle.laws.proofs.Spans.{run_within}
use Rattle.standard.specs.Passes.{Item}
use Rattle.reader.specs.PassLists.{numbers_in, is_pass}
use Rattle.token_passes.specs.Passes.{is_item_byte}
use Rattle.token_passes.specs.Faults.{list_item_at}
use Rattle.token_passes.proofs.Shapes.{item_none, item_some, faulting_start, faulting_none, faulting_last, faulting_on}
use Rattle.token_passes.proofs.list_fault.Goals as goal

pub loop-shape-init : goal.loop-shape-init
loop-shape-init c = faulting_start _ _

pub returns-in_default : goal.returns-in_default
returns-in_default c =
    faulting_none _ _ _ _ c.loop-shape.invariant (item_none _ _ (sym c.item_shape.ensures ∙ c.in_default.is))

pub returns-then-byte_at-ne44 : goal.returns-then-byte_at-ne44
returns-then-byte_at-ne44 c =
    let item : (x : Item) × (list_item_at c.args.line.now c.loop-shape.i ≡ some x) × (c.in-Some.shape.value ≡ all is_pass (numbers_in (x ∷ []))) × (c.in-Some.shape.next ≡ end_of is_item_byte c.args.line.now c.loop-shape.i) = item_some _ _ _ _ (sym c.item_shape.ensures ∙ c.in-Some.is) in
    let q = item in
    c.range_or_order.ensures
    ∙ faulting_last _ _ _ _ c.loop-shape.invariant q.0 q.1 _ q.3 _ (c.both-in_range.ensures ∙ ap (λ b. c.loop-shape.in_range && b) q.2) (λ k. c.if-byte_at-ne44.true (c.byte_at.ensures ∙ k))

pub overflow_add-i : goal.overflow_add-i
overflow_add-i c =
    let comma : get_or c.args.line.now c.in-Some.shape.next 0 ≡ 44 = sym c.byte_at.ensures ∙ c.if-byte_at-ne44.false in
    let within : c.in-Some.shape.next < length c.args.line.now = run_within (λ x. eqb x 44) refl c.args.line.now _ (eq-eqb _ _ comma) in
    omega (arith, within)

pub loop-shape-smaller : goal.loop-shape-smaller
loop-shape-smaller c =
    let item : (x : Item) × (list_item_at c.args.line.now c.loop-shape.i ≡ some x) × (c.in-Some.shape.value ≡ all is_pass (numbers_in (x ∷ []))) × (c.in-Some.shape.next ≡ end_of is_item_byte c.args.line.now c.loop-shape.i) = item_some _ _ _ _ (sym c.item_shape.ensures ∙ c.in-Some.is) in
    let comma : get_or c.args.line.now c.in-Some.shape.next 0 ≡ 44 = sym c.byte_at.ensures ∙ c.if-byte_at-ne44.false in
    let within : c.in-Some.shape.next < length c.args.line.now = run_within (λ x. eqb x 44) refl c.args.line.now _ (eq-eqb _ _ comma) in
    omega (arith, within, item.3)

pub loop-shape-preserved : goal.loop-shape-preserved
loop-shape-preserved c =
    let item : (x : Item) × (list_item_at c.args.line.now c.loop-shape.i ≡ some x) × (c.in-Some.shape.value ≡ all is_pass (numbers_in (x ∷ []))) × (c.in-Some.shape.next ≡ end_of is_item_byte c.args.line.now c.loop-shape.i) = item_some _ _ _ _ (sym c.item_shape.ensures ∙ c.in-Some.is) in
    let comma : get_or c.args.line.now c.in-Some.shape.next 0 ≡ 44 = sym c.byte_at.ensures ∙ c.if-byte_at-ne44.false in
    let q = item in
    faulting_on _ _ _ _ c.loop-shape.invariant q.0 q.1 _ q.3 _ (c.both-in_range.ensures ∙ ap (λ b. c.loop-shape.in_range && b) q.2) comma
