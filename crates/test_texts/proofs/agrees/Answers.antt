-- `test_texts::agrees` is safe and ends.
use mathlib.Core.Path.{sym}
use borrow.Author.Rules.{rules}
use lib.Seq.{length-take-le}
use Rattle.test_texts.proofs.agrees.Goals as goal

pub slice_bounds-answers-end-4 : goal.slice_bounds-answers-end-4
slice_bounds-answers-end-4 c = sym (length-take-le _ _ c.if-reading-room.false)
