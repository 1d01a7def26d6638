-- `text_runs::apply_abc_note_annotations` meets its contract. The loop's invariant is `Marking`.
use Rattle.text_runs.proofs.Behinds.{marking_tie, marking_slur}
use Rattle.text_runs.proofs.apply_abc_note_annotations.Goals as goal
use Rattle.text_runs.proofs.apply_abc_note_annotations.Goals.{in-45, in-41}

pub loop-cursor-preserved : goal.loop-cursor-preserved
loop-cursor-preserved c =
    let m = c.loop-cursor.invariant in
    let h = c.loop-cursor-test.true in
    elim c.match-line-cursor.branch [
      | in-45 w ↦ rw (w.tie-is, w.slur-is) (marking_tie _ _ _ _ _ m h w.in-45.is)
      | in-41 w ↦ rw (w.tie-is, w.slur-is) (marking_slur _ _ _ _ _ m h w.in-41.is)
    ]
