-- `scan::step_line` meets its contract.
use Prim.Native.Nat.{◌-◌}
use mathlib.Core.Path.{ap, ◌∙◌}
use Rattle.laws.specs.Bytes.{between}
use Rattle.laws.proofs.Parts.{part_cut}
use Rattle.text_lines.specs.Lines.{class_of}
use Rattle.scan.proofs.Loop.{too_many_lines, too_long, by_class}
use borrow.Author.Rules.{rules}
use Rattle.scan.proofs.step_line.Goals as goal

pub returns-then-st-ge10000 : goal.returns-then-st-ge10000
returns-then-st-ge10000 c =
    let a = c.args in
    rw c.refuse.ensures (too_many_lines _ a.text.now a.scratch.now a.st (between a.text.now a.from a.to) _ c.if-st-ge10000.true)

pub returns-then-end-from-gt1048576 : goal.returns-then-end-from-gt1048576
returns-then-end-from-gt1048576 c =
    let a = c.args in
    rw c.refuse-then-end-from-gt1048576.ensures (too_long _ a.text.now a.scratch.now a.st a.from a.to _ c.clean_end-end.ensures (search rules) c.if-st-ge10000.false _ c.if-end-from-gt1048576.true)

pub act_line-requires : goal.act_line-requires
act_line-requires c =
    let a = c.args in
    let e = c.clean_end-end.ensures in
    record {
      ready = search rules;
      place = search rules;
      its_class = c.line_class-class.ensures ∙ ap class_of (part_cut a.text.now a.from (c.clean_end-end.result - a.from));
    }

pub returns : goal.returns
returns c =
    let a = c.args in
    by_class _ a.text.now a.scratch.now a.st a.from a.to _ c.clean_end-end.ensures (search rules) c.if-st-ge10000.false _ _ _ c.if-end-from-gt1048576.false
    (c.line_class-class.ensures ∙ ap class_of (part_cut a.text.now a.from (c.clean_end-end.result - a.from))) c.act_line.ensures
