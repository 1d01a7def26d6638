-- `reading_played::part_at` meets its contract: part i begins at `at`.
use mathlib.Core.Path.{◌≡◌, sym, ap, ◌∙◌}
use native.Mathlib.Omega.{arith}
use Rattle.reading_records.specs.Widths.{first_part}
use Rattle.reading_sections.specs.Sections.{part_at, part_end}
use Rattle.reading_whole.proofs.Parts.{whole_part_inside}
use Rattle.reading_played.proofs.Parts.{part_first, part_more}
use Rattle.reading_played.proofs.part_at.Goals as goal

pub loop-i-init : goal.loop-i-init
loop-i-init c = part_first _ first_part

pub part_end-at-requires : goal.part_end-at-requires
part_end-at-requires c =
    let p = c.requires in
    let l = c.loop-i in
    rw l.invariant (whole_part_inside _ l.i p.0 (omega (arith, p.1, c.loop-i-test.true)))

pub loop-i-preserved : goal.loop-i-preserved
loop-i-preserved c = let l = c.loop-i in c.part_end-at.ensures ∙ ap (part_end _) l.invariant ∙ sym (part_more _ first_part l.i)

pub returns : goal.returns
returns c =
    let l = c.loop-i in
    let e : l.i ≡ c.args.q = omega (arith, c.loop-i-test.false) in
    l.invariant ∙ ap (part_at _ first_part) e
