-- `write_syllables::write_record` meets its contract: three writes, each where the last ended.
use native.Mathlib.Omega.{arith}
use Rattle.reader.specs.Codes.{bit}
use Rattle.write_syllables.proofs.Pieces.{record_none, record_wrote}
use Rattle.write_syllables.proofs.write_record.Goals as goal

pub returns-then-to-lt-LYRIC : goal.returns-then-to-lt-LYRIC
returns-then-to-lt-LYRIC c text h = record_none text _ _ c.if-to-lt-LYRIC.true

pub returns : goal.returns
unfolding bit
returns c text h =
    record_wrote text _ _ _ _ _ _ c.low32-index.ensures c.low32-len.ensures c.from-code.ensures c.one_if-extend.ensures.0 c.put_u32.ensures c.put_3.ensures c.put_u32-2.ensures
    (omega (arith, c.if-to-lt-LYRIC.false))
    h
