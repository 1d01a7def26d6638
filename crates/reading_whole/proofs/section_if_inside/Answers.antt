-- `reading_whole::section_if_inside` meets its contract.
use mathlib.Core.Path.{refl}
use native.Mathlib.Omega.{arith}
use Rattle.laws.proofs.Numbers.{mul_le_left}
use Rattle.reader.specs.Records.{measure_width}
use Rattle.reading_whole.proofs.Places.{section_inside, section_beyond}
use Rattle.reading_whole.proofs.section_if_inside.Goals as goal

pub returns-then-room-lt-COUNT : goal.returns-then-room-lt-COUNT
returns-then-room-lt-COUNT c = section_beyond _ _ _ _ refl (omega arith)

pub overflow_mul-width : goal.overflow_mul-width
overflow_mul-width c = omega (arith, mul_le_left c.args.width measure_width c.get_u32-count.result c.requires.1)

pub returns-then-room-width : goal.returns-then-room-width
returns-then-room-width c = section_beyond _ _ _ _ c.get_u32-count.ensures (omega (arith, c.if-room-width.true))

pub returns : goal.returns
returns c = section_inside _ _ _ _ c.get_u32-count.ensures (omega (arith, c.if-room-width.false, c.if-room-lt-COUNT.false))
