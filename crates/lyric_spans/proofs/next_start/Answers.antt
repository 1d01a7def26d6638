-- `lyric_spans::next_start` meets its contract: behind a space where a plain byte stands, else as `word_start` has it.
use mathlib.Core.Path.{sym, ap, ◌∙◌}
use native.Mathlib.Omega.{arith}
use Rattle.reader.specs.Text.{is_space}
use Rattle.lyric_spans.proofs.Whites.{space_past, start_here}
use Rattle.lyric_spans.proofs.Plain.{no_white}
use Rattle.lyric_spans.proofs.next_start.Goals as goal

pub returns-then-is_plain : goal.returns-then-is_plain
returns-then-is_plain c =
    let a = c.args in
    let p = c.requires in
    start_here a.text.now a.at a.end _ (omega arith) (omega arith)
    (space_past a.text.now a.at a.end (omega arith) p.1 (ap is_space c.if-text-at-eq32.true))
    (λ h. no_white a.text.now a.end p.1 _ h (sym c.is_plain.ensures ∙ c.if-is_plain.true))
