-- `part_sounds::push_pitch` meets its contract.
use Rattle.part_sounds.proofs.Sounding.{push_overlay, pushes}
use native.Mathlib.Omega.{arith}
use Rattle.part_sounds.proofs.push_pitch.Goals as goal

pub resolve_abc_pitch-p-requires : goal.resolve_abc_pitch-p-requires
resolve_abc_pitch-p-requires c =
    let a = c.args in
    let room = c.requires.0 in
    let able = c.requires.1 in
    (push_overlay a.t a.store.now a.r a.pitch room able, c.requires.2, omega (arith, room), omega (arith, room))

pub overflow_add-pitches : goal.overflow_add-pitches
overflow_add-pitches c = let room = c.requires.0 in omega (arith, room)

pub returns : goal.returns
returns c =
    let a = c.args in
    pushes a.t a.store.now a.r a.pitch c.requires.0 _ _ _ c.resolve_abc_pitch-p.ensures c.put_pitch.ensures c.requires.1
