-- `part_chords::append_abc_chord_note` meets its contract.
use native.Mathlib.Omega.{arith}
use Rattle.part_chords.proofs.Pushing.{pitches_room, once_appended_chord}
use Rattle.part_chords.proofs.append_abc_chord_note.Goals as goal

pub push_pitches-x-requires : goal.push_pitches-x-requires
push_pitches-x-requires c = let pre = c.requires in (pitches_room pre.0, pre.1, pre.2)

pub overflow_cast-count : goal.overflow_cast-count
overflow_cast-count c = let pre = c.requires in omega (arith, pre.2.count_is, pre.0.for_pitches, pre.0.for_scopes, pre.0.small)

pub returns : goal.returns
returns c =
    let pre = c.requires in
    once_appended_chord c.push_pitches-x.ensures c.append_sound.ensures pre.2.count_is pre.0 pre.1
