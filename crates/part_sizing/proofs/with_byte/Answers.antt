-- `part_sizing::with_byte` meets its contract.
use Rattle.part_sizing.proofs.Counting.{byte_more}
use Rattle.part_sizing.proofs.with_byte.Goals as goal

pub returns : goal.returns
returns c = rw (c.from-4.ensures, c.is_sign.ensures, c.from-3.ensures, c.is_rest.ensures, c.from-2.ensures, c.is_letter.ensures, c.from.ensures, c.is_bar.ensures) (byte_more _ _)
