-- `tally_counts::count_part` meets its contract: section after section.
use native.Mathlib.Omega.{arith}
use Rattle.reading_sections.proofs.Inside.{inside}
use Rattle.tally_counts.proofs.Bytes.{notes_room, part_counted}
use Rattle.tally_counts.proofs.count_part.Goals as goal

pub section_at-measures-requires : goal.section_at-measures-requires
section_at-measures-requires c = (inside _ _ c.requires).notes

pub section_at-notes-requires : goal.section_at-notes-requires
section_at-notes-requires c = rw c.section_at-measures.ensures.1 (inside _ _ c.requires).pitches

pub section_at-pitches-requires : goal.section_at-pitches-requires
section_at-pitches-requires c = rw (c.section_at-notes.ensures.1, c.section_at-measures.ensures.1) (inside _ _ c.requires).lyrics

pub section_at-lyrics-requires : goal.section_at-lyrics-requires
section_at-lyrics-requires c = rw (c.section_at-pitches.ensures.1, c.section_at-notes.ensures.1, c.section_at-measures.ensures.1) (inside _ _ c.requires).text

pub section_at-text-requires : goal.section_at-text-requires
section_at-text-requires c =
    rw (c.section_at-lyrics.ensures.1, c.section_at-pitches.ensures.1, c.section_at-notes.ensures.1, c.section_at-measures.ensures.1) (inside _ _ c.requires).end

pub overflow_add-measures : goal.overflow_add-measures
overflow_add-measures c =
    let p = notes_room _ _ (inside _ _ c.requires).pitches in
    rw c.section_at-measures.ensures.1 (omega (arith, p, c.well_formed))

pub count_sounded-sounded-requires : goal.count_sounded-sounded-requires
count_sounded-sounded-requires c = rw (c.section_at-notes.ensures.0, c.section_at-measures.ensures.1) (notes_room _ _ (inside _ _ c.requires).pitches)

pub returns : goal.returns
returns c =
    let a = c.args in
    let e =
    part_counted a.reading.now a.at _ _ _ _ _ _ _ _ _ c.section_at-measures.ensures.0 c.section_at-measures.ensures.1 c.section_at-notes.ensures.0 c.section_at-notes.ensures.1
    c.section_at-pitches.ensures.1 c.section_at-lyrics.ensures.0 c.section_at-lyrics.ensures.1 c.section_at-text.ensures.1 c.count_sounded-sounded.ensures.value in
    record { syllables_value = e.0; end_value = e.1 }
