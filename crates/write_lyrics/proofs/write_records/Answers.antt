-- `write_lyrics::write_records` meets its contract: the records, and before them their count.
use mathlib.Core.Path.{refl}
use mathlib.Core.Bool.{false}
use native.Mathlib.Omega.{arith}
use Rattle.write_lyrics.proofs.Out.{counted_short, counted_none, counted_fits, counted_wrote}
use Rattle.write_lyrics.proofs.write_records.Goals as goal

pub returns-then-to-lt-COUNT : goal.returns-then-to-lt-COUNT
returns-then-to-lt-COUNT c = record { says = counted_short false _ c.if-to-lt-COUNT.true }

pub returns-in_err-passed : goal.returns-in_err-passed
returns-in_err-passed c = rw c.from_residual.ensures (record { says = counted_none false _ c.args.to.now c.if-to-lt-COUNT.false c.in_err-passed.ensures.says })

pub overflow_add-result : goal.overflow_add-result
overflow_add-result c =
    omega (arith, counted_fits false _ c.args.to.now c.if-to-lt-COUNT.false c.in_ok-passed.ensures.says.0, c.well_formed)

pub returns : goal.returns
returns c =
    let (w, e) = c.in_ok-passed.ensures.says in
    record { says = (counted_wrote false _ c.args.to.now _ _ _ c.if-to-lt-COUNT.false w c.low32-low.ensures refl c.put_u32.ensures, e) }
