-- `reading_whole::sections_if_inside` meets its contract: section after section.
use mathlib.Core.Path.{sym, ◌∙◌}
use borrow.Author.Rules.{rules}
use Rattle.reader.specs.Records.{measure_width, note_width, pitch_width, lyric_width}
use Rattle.reading_sections.proofs.Inside.{inside}
use Rattle.reading_whole.proofs.Places.{SectionIs, section_is, section_is_not, pitches_at_lem, lyrics_at_lem, text_at_lem, layout_inside, layout_beyond}
use Rattle.reading_whole.proofs.sections_if_inside.Goals as goal

pub returns-in_err-measures : goal.returns-in_err-measures
returns-in_err-measures c =
    c.from_residual.ensures ∙ layout_beyond _ _ (λ h. section_is_not _ _ _ (sym c.in_err-measures.ensures) (inside _ _ h).notes)

pub section_if_inside-requires-2 : goal.section_if_inside-requires-2
section_if_inside-requires-2 c =
    let m : SectionIs c.args.reading.now measure_width c.args.at c.in_ok-measures.measures = section_is _ _ _ _ (sym c.in_ok-measures.ensures) in
    (m.fits, search rules)

pub returns-in_err-notes : goal.returns-in_err-notes
returns-in_err-notes c =
    let m : SectionIs c.args.reading.now measure_width c.args.at c.in_ok-measures.measures = section_is _ _ _ _ (sym c.in_ok-measures.ensures) in
    c.from_residual-in_err-notes.ensures ∙ layout_beyond _ _ (λ h. section_is_not _ _ _ (sym c.in_err-notes.ensures) (rw m.end (inside _ _ h).pitches))

pub section_if_inside-requires-3 : goal.section_if_inside-requires-3
section_if_inside-requires-3 c =
    let m : SectionIs c.args.reading.now measure_width c.args.at c.in_ok-measures.measures = section_is _ _ _ _ (sym c.in_ok-measures.ensures) in
    let n : SectionIs c.args.reading.now note_width c.in_ok-measures.measures.end c.in_ok-notes.notes = section_is _ _ _ _ (sym c.in_ok-notes.ensures) in
    (n.fits, search rules)

pub returns-in_err-pitches : goal.returns-in_err-pitches
returns-in_err-pitches c =
    let m : SectionIs c.args.reading.now measure_width c.args.at c.in_ok-measures.measures = section_is _ _ _ _ (sym c.in_ok-measures.ensures) in
    let n : SectionIs c.args.reading.now note_width c.in_ok-measures.measures.end c.in_ok-notes.notes = section_is _ _ _ _ (sym c.in_ok-notes.ensures) in
    c.from_residual-in_err-pitches.ensures ∙ layout_beyond _ _ (λ h. section_is_not _ _ _ (sym c.in_err-pitches.ensures) (rw (pitches_at_lem m n) (inside _ _ h).lyrics))

pub section_if_inside-requires-4 : goal.section_if_inside-requires-4
section_if_inside-requires-4 c =
    let m : SectionIs c.args.reading.now measure_width c.args.at c.in_ok-measures.measures = section_is _ _ _ _ (sym c.in_ok-measures.ensures) in
    let n : SectionIs c.args.reading.now note_width c.in_ok-measures.measures.end c.in_ok-notes.notes = section_is _ _ _ _ (sym c.in_ok-notes.ensures) in
    let p : SectionIs c.args.reading.now pitch_width c.in_ok-notes.notes.end c.in_ok-pitches.pitches = section_is _ _ _ _ (sym c.in_ok-pitches.ensures) in
    (p.fits, search rules)

pub returns-in_err-lyrics : goal.returns-in_err-lyrics
returns-in_err-lyrics c =
    let m : SectionIs c.args.reading.now measure_width c.args.at c.in_ok-measures.measures = section_is _ _ _ _ (sym c.in_ok-measures.ensures) in
    let n : SectionIs c.args.reading.now note_width c.in_ok-measures.measures.end c.in_ok-notes.notes = section_is _ _ _ _ (sym c.in_ok-notes.ensures) in
    let p : SectionIs c.args.reading.now pitch_width c.in_ok-notes.notes.end c.in_ok-pitches.pitches = section_is _ _ _ _ (sym c.in_ok-pitches.ensures) in
    c.from_residual-in_err-lyrics.ensures ∙ layout_beyond _ _ (λ h. section_is_not _ _ _ (sym c.in_err-lyrics.ensures) (rw (lyrics_at_lem m n p) (inside _ _ h).text))

pub section_if_inside-requires-5 : goal.section_if_inside-requires-5
section_if_inside-requires-5 c =
    let m : SectionIs c.args.reading.now measure_width c.args.at c.in_ok-measures.measures = section_is _ _ _ _ (sym c.in_ok-measures.ensures) in
    let n : SectionIs c.args.reading.now note_width c.in_ok-measures.measures.end c.in_ok-notes.notes = section_is _ _ _ _ (sym c.in_ok-notes.ensures) in
    let p : SectionIs c.args.reading.now pitch_width c.in_ok-notes.notes.end c.in_ok-pitches.pitches = section_is _ _ _ _ (sym c.in_ok-pitches.ensures) in
    let l : SectionIs c.args.reading.now lyric_width c.in_ok-pitches.pitches.end c.in_ok-lyrics.lyrics = section_is _ _ _ _ (sym c.in_ok-lyrics.ensures) in
    (l.fits, search rules)

pub returns-in_err-text : goal.returns-in_err-text
returns-in_err-text c =
    let m : SectionIs c.args.reading.now measure_width c.args.at c.in_ok-measures.measures = section_is _ _ _ _ (sym c.in_ok-measures.ensures) in
    let n : SectionIs c.args.reading.now note_width c.in_ok-measures.measures.end c.in_ok-notes.notes = section_is _ _ _ _ (sym c.in_ok-notes.ensures) in
    let p : SectionIs c.args.reading.now pitch_width c.in_ok-notes.notes.end c.in_ok-pitches.pitches = section_is _ _ _ _ (sym c.in_ok-pitches.ensures) in
    let l : SectionIs c.args.reading.now lyric_width c.in_ok-pitches.pitches.end c.in_ok-lyrics.lyrics = section_is _ _ _ _ (sym c.in_ok-lyrics.ensures) in
    c.from_residual-in_err-text.ensures ∙ layout_beyond _ _ (λ h. section_is_not _ _ _ (sym c.in_err-text.ensures) (rw (text_at_lem m n p l) (inside _ _ h).end))

pub returns : goal.returns
returns c =
    let m : SectionIs c.args.reading.now measure_width c.args.at c.in_ok-measures.measures = section_is _ _ _ _ (sym c.in_ok-measures.ensures) in
    let n : SectionIs c.args.reading.now note_width c.in_ok-measures.measures.end c.in_ok-notes.notes = section_is _ _ _ _ (sym c.in_ok-notes.ensures) in
    let p : SectionIs c.args.reading.now pitch_width c.in_ok-notes.notes.end c.in_ok-pitches.pitches = section_is _ _ _ _ (sym c.in_ok-pitches.ensures) in
    let l : SectionIs c.args.reading.now lyric_width c.in_ok-pitches.pitches.end c.in_ok-lyrics.lyrics = section_is _ _ _ _ (sym c.in_ok-lyrics.ensures) in
    let t : SectionIs c.args.reading.now 1 c.in_ok-lyrics.lyrics.end c.in_ok-text.text = section_is _ _ _ _ (sym c.in_ok-text.ensures) in
    layout_inside m n p l t
