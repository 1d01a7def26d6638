-- `write_syllables::low32` meets its contract.
use Rattle.write_syllables.proofs.Pieces.{low_bytes}
use Rattle.write_syllables.proofs.low32.Goals as goal

pub returns : goal.returns
returns c = low_bytes c.args.v
