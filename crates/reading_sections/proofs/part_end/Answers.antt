-- `reading_sections::part_end` meets its contract: section after section.
use mathlib.Core.Path.{refl}
use Rattle.reading_sections.specs.Sections.{part_end}
use Rattle.reading_sections.proofs.Inside.{inside}
use Rattle.reading_sections.proofs.part_end.Goals as goal

pub section_at-measures-requires : goal.section_at-measures-requires
section_at-measures-requires c = (inside _ _ c.requires).notes

pub section_at-notes-requires : goal.section_at-notes-requires
section_at-notes-requires c = rw c.section_at-measures.ensures.1 (inside _ _ c.requires).pitches

pub section_at-pitches-requires : goal.section_at-pitches-requires
section_at-pitches-requires c = rw (c.section_at-notes.ensures.1, c.section_at-measures.ensures.1) (inside _ _ c.requires).lyrics

pub section_at-lyrics-requires : goal.section_at-lyrics-requires
section_at-lyrics-requires c = rw (c.section_at-pitches.ensures.1, c.section_at-notes.ensures.1, c.section_at-measures.ensures.1) (inside _ _ c.requires).text

pub section_at-text-requires : goal.section_at-text-requires
section_at-text-requires c =
    rw (c.section_at-lyrics.ensures.1, c.section_at-pitches.ensures.1, c.section_at-notes.ensures.1, c.section_at-measures.ensures.1) (inside _ _ c.requires).end

pub returns : goal.returns
unfolding part_end
returns c =
    rw (c.section_at-text.ensures.1, c.section_at-lyrics.ensures.1, c.section_at-pitches.ensures.1, c.section_at-notes.ensures.1, c.section_at-measures.ensures.1) refl
