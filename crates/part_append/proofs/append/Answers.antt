-- `part_append::append` meets its contract.
use Rattle.part_invariant.proofs.Appending.{append_overlay, append_place, append_some, append_head}
use Rattle.part_append.proofs.Appending.{counts_on, appends_on}
use native.Mathlib.Omega.{arith}
use Rattle.part_append.proofs.append.Goals as goal

pub bounds-places-voice : goal.bounds-places-voice
bounds-places-voice c = append_overlay c.requires.0 c.requires.1

pub beam_before-requires : goal.beam_before-requires
beam_before-requires c =
    let room = c.requires.0 in
    let able = c.requires.1 in
    (append_some room able, omega (arith, room, append_place room able))

pub put_note-requires : goal.put_note-requires
put_note-requires c =
    let room = c.requires.0 in
    let able = c.requires.1 in
    omega (arith, room)

pub overflow_sub-heads : goal.overflow_sub-heads
overflow_sub-heads c =
    let room = c.requires.0 in
    let able = c.requires.1 in
    omega (arith, append_head room able)

pub count_note-requires : goal.count_note-requires
count_note-requires c =
    let room = c.requires.0 in
    let able = c.requires.1 in (
      omega (arith, room, append_head room able),
      append_overlay room able,
      counts_on room able _ _ c.apply_abc_tuplet-g.ensures c.as_written-m.ensures _ _ c.beam_before.ensures c.put_note.ensures,
    )

pub after_note-requires : goal.after_note-requires
after_note-requires c =
    let room = c.requires.0 in
    let able = c.requires.1 in
    (append_overlay room able, omega (arith, room), able.represents.sounded_most)

pub shape_of-store : goal.shape_of-store
shape_of-store c =
    let room = c.requires.0 in
    let able = c.requires.1 in
    (appends_on room able _ _ c.apply_abc_tuplet-g.ensures c.as_written-m.ensures _ _ c.beam_before.ensures c.put_note.ensures _ c.count_note.ensures _ c.after_note.ensures).only.same_length

pub returns : goal.returns
returns c =
    let room = c.requires.0 in
    let able = c.requires.1 in
    appends_on room able _ _ c.apply_abc_tuplet-g.ensures c.as_written-m.ensures _ _ c.beam_before.ensures c.put_note.ensures _ c.count_note.ensures _ c.after_note.ensures
