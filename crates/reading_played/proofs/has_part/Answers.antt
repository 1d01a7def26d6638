-- `reading_played::has_part` meets its contract.
use mathlib.Core.Path.{◌≡◌, sym, ap, ◌∙◌}
use native.Mathlib.Omega.{arith}
use lib.Dec.{leb}
use borrow.Author.Tests.{lt-leb}
use Rattle.reading_whole.proofs.Parts.{whole_room}
use Rattle.reading_played.proofs.Calls.{part_broken, part_zero, part_there}
use Rattle.reading_played.proofs.has_part.Goals as goal

pub returns-then-not-is_whole : goal.returns-then-not-is_whole
returns-then-not-is_whole c = part_broken _ _ (sym c.is_whole.ensures ∙ c.if-not-is_whole.true)

pub returns-else-part-ge1 : goal.returns-else-part-ge1
returns-else-part-ge1 c = lt-leb 1 c.args.part c.if-part-ge1.false ∙ part_zero _ _ (omega (arith, c.if-part-ge1.false))

pub get_u32-requires : goal.get_u32-requires
get_u32-requires c = omega (arith, whole_room _ (sym c.is_whole.ensures ∙ c.if-not-is_whole.false))

pub returns-then-part-ge1 : goal.returns-then-part-ge1
returns-then-part-ge1 c =
    let h : c.args.part ≡ 0 → ⊥ = λ e. omega (arith, e, c.if-part-ge1.true) in
    ap (leb _) c.get_u32.ensures ∙ part_there _ _ (sym c.is_whole.ensures ∙ c.if-not-is_whole.false) h
