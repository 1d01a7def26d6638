-- `write_lyrics::write_sung` meets its contract: the texts of as many notes as the records passed.
use native.Mathlib.Omega.{arith}
use Rattle.store_sections.proofs.Writes.{in_store, next_to, next_none, none}
use Rattle.lyrics.specs.Sheet.{syllables_in}
use Rattle.write_notes.proofs.Out.{wrote_as_lem}
use Rattle.write_lyrics.proofs.Texts.{section_texts}
use Rattle.write_lyrics.proofs.write_sung.Goals as goal

pub returns-in_err-passed : goal.returns-in_err-passed
returns-in_err-passed c = rw c.from_residual.ensures (none c.in_err-passed.ensures.says _)

pub slice_bounds-write_text-count : goal.slice_bounds-write_text-count
slice_bounds-write_text-count c = omega (arith, (in_store c.in_ok-passed.ensures.says.0).0)

pub slice_bounds-write_text-start : goal.slice_bounds-write_text-start
slice_bounds-write_text-start c = omega (arith, (in_store c.in_ok-passed.ensures.says.0).0)

pub returns-in_err-m : goal.returns-in_err-m
returns-in_err-m c =
    let a = c.args in
    let (w, e) = c.in_ok-passed.ensures.says in
    rw c.from_residual-in_err-m.ensures (next_none w (wrote_as_lem c.in_err-m.ensures (section_texts (syllables_in a.words.now.text.now a.words.now.store.now a.words.now.sheet) a.part.now.store.now a.part.now.tables _ e)))

pub overflow_add-result : goal.overflow_add-result
overflow_add-result c =
    let (w, e) = c.in_ok-passed.ensures.says in
    omega (arith, (next_to w c.in_ok-m.ensures).says.1, c.well_formed)

pub returns : goal.returns
returns c =
    let a = c.args in
    let (w, e) = c.in_ok-passed.ensures.says in
    next_to w (wrote_as_lem c.in_ok-m.ensures (section_texts (syllables_in a.words.now.text.now a.words.now.store.now a.words.now.sheet) a.part.now.store.now a.part.now.tables _ e))
