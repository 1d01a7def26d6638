-- `reading_whole::is_whole` meets its contract: the parts from i on say what the reading says.
use Prim.Native.Nat.{◌-◌, ◌≤◌}
use mathlib.Core.Path.{sym, ap, ◌∙◌}
use native.Mathlib.Omega.{arith}
use lib.ListN.{length, drop, length-drop}
use lib.Seq.{take_all}
use borrow.Author.Rules.{rules}
use Rattle.reading_whole.specs.Whole.{is_zeros}
use Rattle.reading_whole.proofs.InTurn.{whole_short, whole_start, whole_next, whole_broken, whole_end}
use Rattle.reading_whole.proofs.is_whole.Goals as goal

pub returns-then-reading-lt-FIRST_PART : goal.returns-then-reading-lt-FIRST_PART
returns-then-reading-lt-FIRST_PART c = whole_short _ c.if-reading-lt-FIRST_PART.true

pub loop-i-init : goal.loop-i-init
loop-i-init c = (search rules, whole_start _ _ c.get_u32-i-end.ensures c.if-reading-lt-FIRST_PART.false)

pub returns-in_default : goal.returns-in_default
returns-in_default c =
    let l = c.loop-i in
    whole_broken _ _ _ _ c.loop-i-test.true (sym c.part_if_whole.ensures ∙ c.in_default.is) ∙ l.invariant.1

pub loop-i-preserved : goal.loop-i-preserved
loop-i-preserved c =
    let l = c.loop-i in
    let n = whole_next _ _ _ _ _ c.loop-i-test.true (sym c.part_if_whole.ensures ∙ c.in-Some.is) in
    (n.0, n.1 ∙ l.invariant.1)

pub returns : goal.returns
returns c =
    let l = c.loop-i in
    let rest : length (drop l.at c.args.reading.now) ≤ length c.args.reading.now - l.at = omega (arith, length-drop l.at c.args.reading.now) in
    c.is_zeros.ensures ∙ ap is_zeros (take_all (length c.args.reading.now - l.at) (drop l.at c.args.reading.now) rest) ∙ whole_end _ _ _ _ c.loop-i-test.false ∙ l.invariant.1
