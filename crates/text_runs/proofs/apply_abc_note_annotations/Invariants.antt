-- `text_runs::apply_abc_note_annotations` meets its contract. The loop's invariant is `Marking`.
use Rattle.text_runs.proofs.Behinds.{Marking}
use Rattle.text_runs.proofs.apply_abc_note_annotations.Given as goal

abbrev pub invariant-loop-cursor : goal.invariant-loop-cursor
invariant-loop-cursor l = Marking l.line l.at l.tie l.slur l.cursor
