-- `scan_voices::with_unnamed` meets its contract.
use borrow.Author.Rules.{rules}
use Rattle.scan_voices.proofs.Voices.{unnamed_none, unnamed_some, unnamed_one}
use Rattle.scan_voices.proofs.with_unnamed.Goals as goal
use Rattle.scan_voices.proofs.with_unnamed.Goals.{else-st-eq0-via-then-st-eq0+else-st, else-st-eq0-via-else-st-eq0}

pub returns-then-st : goal.returns-then-st
returns-then-st c =
    let a = c.args in
    λ text. unnamed_one text a.scratch.now a.st _ c.push_voice.ensures c.if-st-eq0.true c.if-st.true (search rules)

pub returns : goal.returns
returns c =
    let a = c.args in
    λ text. elim c.else-st-eq0.branch [
      | else-st-eq0-via-then-st-eq0+else-st w ↦ unnamed_none text a.scratch.now a.st w.if-st-eq0.true w.if-st.false
      | else-st-eq0-via-else-st-eq0 w ↦ unnamed_some text a.scratch.now a.st c.requires.voices_fit w.if-st-eq0.false
    ]
