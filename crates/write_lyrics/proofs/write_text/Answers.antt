-- `write_lyrics::write_text` meets its contract: the texts, and before them their count.
use mathlib.Core.Path.{refl}
use mathlib.Core.Bool.{true}
use native.Mathlib.Omega.{arith}
use Rattle.write_lyrics.proofs.Out.{counted_short, counted_none, counted_fits, counted_wrote}
use Rattle.write_lyrics.proofs.write_text.Goals as goal

pub returns-then-to-lt-COUNT : goal.returns-then-to-lt-COUNT
returns-then-to-lt-COUNT c = counted_short true _ c.if-to-lt-COUNT.true

pub returns-in_err-len : goal.returns-in_err-len
returns-in_err-len c = rw c.from_residual.ensures (counted_none true _ c.args.to.now c.if-to-lt-COUNT.false c.in_err-len.ensures)

pub overflow_add-result : goal.overflow_add-result
overflow_add-result c =
    omega (arith, counted_fits true _ c.args.to.now c.if-to-lt-COUNT.false c.in_ok-len.ensures, c.well_formed)

pub returns : goal.returns
returns c =
    counted_wrote true _ c.args.to.now _ _ _ c.if-to-lt-COUNT.false c.in_ok-len.ensures c.low32-low.ensures refl c.put_u32.ensures
