-- `scan::scan_lines` meets its contract. The invariant: the items in scratch, before what is still to come of the rows, are the whole scan; and there
-- is room for the next line.
use borrow.Author.Rules.{rules}
use Rattle.std.proofs.lemmas.Result.{err_from_is_err_and}
use Rattle.scan.proofs.Loop.{head_start, head_open, head_refused, head_turn, head_done}
use Rattle.scan.proofs.scan_lines.Goals as goal

pub loop-at-init : goal.loop-at-init
loop-at-init c =
    let b = c.begin_state-st.ensures in
    head_start _ c.args.text.now c.args.scratch.now _ b.0 b.1 b.2

pub line_end-to-requires : goal.line_end-to-requires
line_end-to-requires c = c.loop-at-test.true

pub step_line-requires : goal.step_line-requires
step_line-requires c =
    let a = c.args in
    let l = c.loop-at in
    let e = c.line_end-to.ensures in
    record { opened = head_open _ a.text.now a.scratch.now _ l.st l.at l.invariant c.requires.1; place = search rules }

pub returns-in_err-st : goal.returns-in_err-st
returns-in_err-st c =
    let a = c.args in
    let l = c.loop-at in
    let p = err_from_is_err_and c.from_residual.result c.from_residual.ensures.1 in
    rw (p.1, p.2) (head_refused _ a.text.now a.scratch.now _ l.st l.at l.invariant _ _ _ _ c.line_end-to.ensures c.step_line.ensures c.in_err-st.was)

pub loop-at-smaller : goal.loop-at-smaller
loop-at-smaller c =
    let e = c.line_end-to.ensures in
    search rules

pub loop-at-preserved : goal.loop-at-preserved
loop-at-preserved c =
    let a = c.args in
    let l = c.loop-at in
    head_turn _ a.text.now a.scratch.now _ l.st l.at l.invariant _ _ _ _ c.line_end-to.ensures c.step_line.ensures c.in_ok-st.was (search rules)

pub shape_of-scratch : goal.shape_of-scratch
shape_of-scratch c = c.loop-at.invariant.kept

pub returns : goal.returns
returns c =
    let a = c.args in
    let l = c.loop-at in
    head_done _ a.text.now a.scratch.now _ l.st l.at l.invariant c.loop-at-test.false
