-- `write_part::write_tables` meets its contract: section after section, each where the last one ended.
use mathlib.Core.List.{[]}
use native.Mathlib.Omega.{arith}
use Rattle.store_sections.proofs.Writes.{in_store, next_to, next_none, none}
use Rattle.lyrics.specs.Sheet.{syllables_in}
use Rattle.write_part.proofs.Sections.{sections_say}
use Rattle.write_part.proofs.write_tables.Goals as goal

-- no room for the measures
pub returns-in_err-measures : goal.returns-in_err-measures
returns-in_err-measures c =
    let w = c.args.words.now in
    let p = c.args.part.now in
    rw c.from_residual.ensures
    (sections_say p.store.now p.tables (syllables_in w.text.now w.store.now w.sheet) (none (none (none c.in_err-measures.ensures.bytes_of_store _ {z = []}) _ {z = []}) _))

pub slice_bounds-write_notes-count : goal.slice_bounds-write_notes-count
slice_bounds-write_notes-count c =
    let w1 = c.in_ok-measures.ensures.bytes_of_store in
    (in_store w1).0

pub slice_bounds-write_notes-start : goal.slice_bounds-write_notes-start
slice_bounds-write_notes-start c =
    let w1 = c.in_ok-measures.ensures.bytes_of_store in
    (in_store w1).0

-- no room for the notes
pub returns-in_err-notes : goal.returns-in_err-notes
returns-in_err-notes c =
    let w1 = c.in_ok-measures.ensures.bytes_of_store in
    let w = c.args.words.now in
    let p = c.args.part.now in
    rw c.from_residual-in_err-notes.ensures
    (sections_say p.store.now p.tables (syllables_in w.text.now w.store.now w.sheet) (none (none (next_none w1 c.in_err-notes.ensures.bytes_of_store {z = []}) _ {z = []}) _))

pub overflow_add-b : goal.overflow_add-b
overflow_add-b c =
    let w1 = c.in_ok-measures.ensures.bytes_of_store in
    let w2 = next_to w1 c.in_ok-notes.ensures.bytes_of_store in
    omega (arith, w2.says.1, c.well_formed)

pub slice_bounds-write_pitches-count : goal.slice_bounds-write_pitches-count
slice_bounds-write_pitches-count c =
    let w1 = c.in_ok-measures.ensures.bytes_of_store in
    let w2 = next_to w1 c.in_ok-notes.ensures.bytes_of_store in
    (in_store w2).0

pub slice_bounds-write_pitches-start : goal.slice_bounds-write_pitches-start
slice_bounds-write_pitches-start c =
    let w1 = c.in_ok-measures.ensures.bytes_of_store in
    let w2 = next_to w1 c.in_ok-notes.ensures.bytes_of_store in
    (in_store w2).0

-- no room for the pitches
pub returns-in_err-pitches : goal.returns-in_err-pitches
returns-in_err-pitches c =
    let w1 = c.in_ok-measures.ensures.bytes_of_store in
    let w2 = next_to w1 c.in_ok-notes.ensures.bytes_of_store in
    let w = c.args.words.now in
    let p = c.args.part.now in
    rw c.from_residual-in_err-pitches.ensures
    (sections_say p.store.now p.tables (syllables_in w.text.now w.store.now w.sheet) (none (next_none w2 c.in_err-pitches.ensures.bytes_of_store {z = []}) _))

pub overflow_add-c : goal.overflow_add-c
overflow_add-c c =
    let w1 = c.in_ok-measures.ensures.bytes_of_store in
    let w2 = next_to w1 c.in_ok-notes.ensures.bytes_of_store in
    let w3 = next_to w2 c.in_ok-pitches.ensures.bytes_of_store in
    omega (arith, w3.says.1, c.well_formed)

pub slice_bounds-write_lyrics-count : goal.slice_bounds-write_lyrics-count
slice_bounds-write_lyrics-count c =
    let w1 = c.in_ok-measures.ensures.bytes_of_store in
    let w2 = next_to w1 c.in_ok-notes.ensures.bytes_of_store in
    let w3 = next_to w2 c.in_ok-pitches.ensures.bytes_of_store in
    (in_store w3).0

pub slice_bounds-write_lyrics-start : goal.slice_bounds-write_lyrics-start
slice_bounds-write_lyrics-start c =
    let w1 = c.in_ok-measures.ensures.bytes_of_store in
    let w2 = next_to w1 c.in_ok-notes.ensures.bytes_of_store in
    let w3 = next_to w2 c.in_ok-pitches.ensures.bytes_of_store in
    (in_store w3).0

-- no room for the lyrics and their text
pub returns-in_err-lyrics : goal.returns-in_err-lyrics
returns-in_err-lyrics c =
    let w1 = c.in_ok-measures.ensures.bytes_of_store in
    let w2 = next_to w1 c.in_ok-notes.ensures.bytes_of_store in
    let w3 = next_to w2 c.in_ok-pitches.ensures.bytes_of_store in
    let w = c.args.words.now in
    let p = c.args.part.now in
    rw c.from_residual-in_err-lyrics.ensures
    (sections_say p.store.now p.tables (syllables_in w.text.now w.store.now w.sheet) (next_none w3 c.in_err-lyrics.ensures))

pub overflow_add-result : goal.overflow_add-result
overflow_add-result c =
    let w1 = c.in_ok-measures.ensures.bytes_of_store in
    let w2 = next_to w1 c.in_ok-notes.ensures.bytes_of_store in
    let w3 = next_to w2 c.in_ok-pitches.ensures.bytes_of_store in
    let w4 = next_to w3 c.in_ok-lyrics.ensures in
    omega (arith, w4.says.1, c.well_formed)

-- all are written
pub returns : goal.returns
returns c =
    let w1 = c.in_ok-measures.ensures.bytes_of_store in
    let w2 = next_to w1 c.in_ok-notes.ensures.bytes_of_store in
    let w3 = next_to w2 c.in_ok-pitches.ensures.bytes_of_store in
    let w4 = next_to w3 c.in_ok-lyrics.ensures in
    let w = c.args.words.now in
    let p = c.args.part.now in
    sections_say p.store.now p.tables (syllables_in w.text.now w.store.now w.sheet) w4
