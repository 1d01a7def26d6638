-- `scan_music::music_line` meets its contract.
use mathlib.Core.Path.{refl, sym, ap, ◌∙◌}
use mathlib.Core.Bool.{Bool}
use native.Mathlib.Omega.{arith}
use Rattle.laws.specs.Bytes.{between}
use Rattle.reader.specs.Lines.{Kind}
use Rattle.reader.specs.Steps.{first}
use Rattle.reader.specs.Scan.{act}
use Rattle.text_lines.specs.declared.Class.TheVariants as C
use Rattle.text_lines.specs.Lines.{kind_as}
use Rattle.scan_table.specs.Rows.{items_in}
use Rattle.scan_states.specs.States.{state_in}
use Rattle.scan_states.proofs.Items.{stays}
use Rattle.scan_music.proofs.MusicLines.{line_high, lent_line, line_refused, line_counted, count_of}
use Rattle.scan_music.proofs.music_line.Goals as goal

pub returns-then-st : goal.returns-then-st
unfolding act
returns-then-st c =
    let a = c.args in
    let kind : Kind = kind_as a.edition (between a.text.now a.from a.end) C.Music in
    rw c.next_line.ensures
    (record {
      is = stays _ _ ∙ sym (ap (λ (b : Bool). first (items_in a.text.now a.scratch.now a.st.items) (act (state_in a.text.now a.scratch.now a.st) kind b)) c.if-st.true);
      follows = (refl, (omega arith, (omega arith, omega arith)));
    })

pub returns-then-is_high : goal.returns-then-is_high
returns-then-is_high c =
    let a = c.args in
    rw c.refuse.ensures (line_high _ a.text.now a.scratch.now _ a.st a.from a.end c.if-st.false (sym c.is_high.ensures ∙ c.if-is_high.true))

pub returns-in-Ok : goal.returns-in-Ok
returns-in-Ok c =
    let a = c.args in
    line_counted _ a.text.now a.scratch.now a.st a.from a.end c.if-st.false (sym c.is_high.ensures ∙ c.if-is_high.false) _ _ _
    (lent_line _ a.text.now a.from a.end (count_of a.st) _ _ c.in-Ok.is c.count_line.ensures) c.requires.ready.voices_fit c.requires.ready.part_fits c.add_music_line.ensures.state (c.add_music_line.ensures.items a.text.now)

pub returns-in-Err : goal.returns-in-Err
returns-in-Err c =
    let a = c.args in
    rw c.refuse-in-Err.ensures
    (line_refused _ a.text.now a.scratch.now a.st a.from a.end c.if-st.false (sym c.is_high.ensures ∙ c.if-is_high.false) _ _
    (lent_line _ a.text.now a.from a.end (count_of a.st) _ _ c.in-Err.is c.count_line.ensures))
