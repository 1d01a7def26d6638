-- `write_syllables::write_place` meets its contract.
use mathlib.Core.Path.{sym}
use Rattle.store_sections.proofs.Writes.{start}
use Rattle.write_notes.proofs.Out.{wrote_as_lem}
use Rattle.write_syllables.proofs.Pieces.{place_none, place_one}
use Rattle.write_syllables.proofs.write_place.Goals as goal

pub returns-then-place-eq0 : goal.returns-then-place-eq0
returns-then-place-eq0 c =
    let a = c.args in
    wrote_as_lem (start _) (sym (place_none a.texts a.note a.text.now a.store.now a.log a.place a.held c.if-place-eq0.true))

pub write_piece-requires : goal.write_piece-requires
write_piece-requires c = (c.syllable_at-f.ensures.cut.order, c.syllable_at-f.ensures.cut.high)

pub returns : goal.returns
returns c =
    let a = c.args in
    wrote_as_lem c.write_piece.ensures (sym (place_one a.texts a.note a.text.now a.store.now a.log a.place a.held c.if-place-eq0.false _ c.syllable_at-f.ensures))
