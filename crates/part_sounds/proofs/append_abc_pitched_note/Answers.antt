-- `part_sounds::append_abc_pitched_note` meets its contract.
use Rattle.part_sounds.proofs.Deferring.{once_appended_note}
use Rattle.part_sounds.proofs.append_abc_pitched_note.Goals as goal

pub returns : goal.returns
returns c =
    let pre = c.requires in
    once_appended_note c.push_pitch-x.ensures c.append_sound.ensures pre.0 pre.1
