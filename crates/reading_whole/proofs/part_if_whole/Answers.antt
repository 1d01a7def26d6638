-- `reading_whole::part_if_whole` meets its contract.
use mathlib.Core.Path.{sym, ◌∙◌}
use Rattle.reading_whole.proofs.Places.{layout_is, part_whole, part_broken, part_beyond, measures_room, notes_room, pitches_room, lyrics_room, end_is, part_is}
use Rattle.reading_whole.proofs.part_if_whole.Goals as goal

pub returns-in_err-layout : goal.returns-in_err-layout
returns-in_err-layout c = c.from_residual.ensures ∙ part_beyond _ _ (sym c.in_err-layout.ensures)

pub are_measures-requires : goal.are_measures-requires
are_measures-requires c = measures_room (layout_is _ _ _ (sym c.in_ok-layout.ensures))

pub are_notes-requires : goal.are_notes-requires
are_notes-requires c = notes_room (layout_is _ _ _ (sym c.in_ok-layout.ensures))

pub are_pitches-requires : goal.are_pitches-requires
are_pitches-requires c = pitches_room (layout_is _ _ _ (sym c.in_ok-layout.ensures))

pub are_lyrics-requires : goal.are_lyrics-requires
are_lyrics-requires c = lyrics_room (layout_is _ _ _ (sym c.in_ok-layout.ensures))

pub returns-then-fine : goal.returns-then-fine
returns-then-fine c =
    let p = layout_is _ _ _ (sym c.in_ok-layout.ensures) in
    let t = part_is p c.are_measures.ensures c.are_notes.ensures c.are_pitches.ensures c.are_lyrics.ensures in
    part_whole _ _ _ (end_is p) (sym t ∙ c.if-fine.true)

pub returns-else-fine : goal.returns-else-fine
returns-else-fine c =
    let p = layout_is _ _ _ (sym c.in_ok-layout.ensures) in
    let t = part_is p c.are_measures.ensures c.are_notes.ensures c.are_pitches.ensures c.are_lyrics.ensures in
    part_broken _ _ (sym t ∙ c.if-fine.false)
