-- `part_body::on_token` meets its contract: an arm for each token.
use Rattle.part_sounds.proofs.Deferring.{once_appended_none, once_appended_rest}
use Rattle.part_body.specs.Body.{Ready, SimulatesToken}
use Rattle.part_body.proofs.Tokens.{simulates_nothing}
use Rattle.part_body.proofs.on_token.Goals as goal

pub on_broken-requires : goal.on_broken-requires
unfolding Ready
on_broken-requires c = rw c.in-Broken.is at c.requires

pub on_barline-requires : goal.on_barline-requires
unfolding Ready
on_barline-requires c = rw c.in-Barline.is at c.requires

pub on_volta-requires : goal.on_volta-requires
unfolding Ready
on_volta-requires c = rw c.in-Volta.is at c.requires

pub on_meter-requires : goal.on_meter-requires
unfolding Ready
on_meter-requires c = rw c.in-Meter.is at c.requires

pub on_key-requires : goal.on_key-requires
unfolding Ready
on_key-requires c = rw c.in-Key.is at c.requires

pub append_abc_chord_note-requires : goal.append_abc_chord_note-requires
unfolding Ready
append_abc_chord_note-requires c = rw c.in-Chord.is at c.requires

pub append_abc_pitched_note-requires : goal.append_abc_pitched_note-requires
unfolding Ready
append_abc_pitched_note-requires c = rw c.in-Note.is at c.requires

pub on_nothing-requires : goal.on_nothing-requires
unfolding Ready
on_nothing-requires c = rw c.in-Nothing.is at c.requires

pub returns-in-Space : goal.returns-in-Space
unfolding SimulatesToken
returns-in-Space c = rw c.in-Space.is (once_appended_none c.defer_nothing.ensures (c.on_space.ensures c.args.t c.args.store.now))

pub returns-in-Overlay : goal.returns-in-Overlay
unfolding SimulatesToken
returns-in-Overlay c = rw c.in-Overlay.is (once_appended_none c.defer_nothing-in-Overlay.ensures (c.on_overlay.ensures c.args.t c.args.store.now))

pub returns-in-Quoted : goal.returns-in-Quoted
unfolding SimulatesToken
returns-in-Quoted c = rw c.in-Quoted.is (once_appended_none c.defer_nothing-in-Quoted.ensures (simulates_nothing c.args.t c.args.store.now c.args.r))

pub returns-in-Broken : goal.returns-in-Broken
unfolding SimulatesToken
returns-in-Broken c = rw c.in-Broken.is (once_appended_none c.defer_nothing-in-Broken.ensures c.on_broken.ensures)

pub returns-in-Tuplet : goal.returns-in-Tuplet
unfolding SimulatesToken
returns-in-Tuplet c = rw c.in-Tuplet.is (once_appended_none c.defer_nothing-in-Tuplet.ensures (c.on_tuplet.ensures c.args.t c.args.store.now))

pub returns-in-Slur : goal.returns-in-Slur
unfolding SimulatesToken
returns-in-Slur c = rw c.in-Slur.is (once_appended_none c.defer_nothing-in-Slur.ensures (c.on_slur.ensures c.args.t c.args.store.now))

pub returns-in-GraceOpen : goal.returns-in-GraceOpen
unfolding SimulatesToken
returns-in-GraceOpen c = rw c.in-GraceOpen.is (once_appended_none c.defer_nothing-in-GraceOpen.ensures (c.on_grace_open.ensures c.args.t c.args.store.now))

pub returns-in-GraceClose : goal.returns-in-GraceClose
unfolding SimulatesToken
returns-in-GraceClose c = rw c.in-GraceClose.is (once_appended_none c.defer_nothing-in-GraceClose.ensures (c.on_grace_close.ensures c.args.t c.args.store.now))

pub returns-in-Decoration : goal.returns-in-Decoration
unfolding SimulatesToken
returns-in-Decoration c = rw c.in-Decoration.is (once_appended_none c.defer_nothing-in-Decoration.ensures (simulates_nothing c.args.t c.args.store.now c.args.r))

pub returns-in-Barline : goal.returns-in-Barline
unfolding SimulatesToken
returns-in-Barline c = rw c.in-Barline.is (once_appended_none c.defer_nothing-in-Barline.ensures c.on_barline.ensures)

pub returns-in-Volta : goal.returns-in-Volta
unfolding SimulatesToken
returns-in-Volta c = rw c.in-Volta.is (once_appended_none c.defer_nothing-in-Volta.ensures c.on_volta.ensures)

pub returns-in-Unit : goal.returns-in-Unit
unfolding SimulatesToken
returns-in-Unit c = rw c.in-Unit.is (once_appended_none c.defer_nothing-in-Unit.ensures (c.on_unit.ensures c.args.t c.args.store.now))

pub returns-in-Meter : goal.returns-in-Meter
unfolding SimulatesToken
returns-in-Meter c = rw c.in-Meter.is (once_appended_none c.defer_nothing-in-Meter.ensures c.on_meter.ensures)

pub returns-in-Key : goal.returns-in-Key
unfolding SimulatesToken
returns-in-Key c = rw c.in-Key.is (once_appended_none c.defer_nothing-in-Key.ensures c.on_key.ensures)

pub returns-in-Field : goal.returns-in-Field
unfolding SimulatesToken
returns-in-Field c = rw c.in-Field.is (once_appended_none c.defer_nothing-in-Field.ensures (simulates_nothing c.args.t c.args.store.now c.args.r))

pub returns-in-Chord : goal.returns-in-Chord
unfolding SimulatesToken
returns-in-Chord c = rw c.in-Chord.is c.append_abc_chord_note.ensures

pub returns-in-Rest : goal.returns-in-Rest
unfolding Ready SimulatesToken
returns-in-Rest c =
    let e = c.in-Rest.is in
    let ready = rw e at c.requires in
    rw e (once_appended_rest c.append_abc_rest_note.ensures ready.0 ready.1)

pub returns-in-Note : goal.returns-in-Note
unfolding SimulatesToken
returns-in-Note c = rw c.in-Note.is c.append_abc_pitched_note.ensures

pub returns-in-Nothing : goal.returns-in-Nothing
unfolding SimulatesToken
returns-in-Nothing c = rw c.in-Nothing.is (once_appended_none c.defer_nothing-in-Nothing.ensures c.on_nothing.ensures)

pub returns-in-Skipped : goal.returns-in-Skipped
unfolding SimulatesToken
returns-in-Skipped c = rw c.in-Skipped.is (once_appended_none c.defer_nothing-in-Skipped.ensures (simulates_nothing c.args.t c.args.store.now c.args.r))

pub returns-in-Refused : goal.returns-in-Refused
unfolding SimulatesToken
returns-in-Refused c = rw c.in-Refused.is (once_appended_none c.defer_nothing-in-Refused.ensures (simulates_nothing c.args.t c.args.store.now c.args.r))
