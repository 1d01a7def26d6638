-- `reading_whole::is_zeros` meets its contract: what is passed and what is still to come is all.
use mathlib.Core.Path.{refl, ◌∙◌}
use Rattle.reading_whole.proofs.Bytes.{zeros_more, zeros_end}
use Rattle.reading_whole.proofs.is_zeros.Goals as goal

pub loop-byte-init : goal.loop-byte-init
loop-byte-init c = refl

pub loop-byte-preserved : goal.loop-byte-preserved
loop-byte-preserved c = zeros_more c.args.bytes.now c.loop-byte.byte-index c.loop-byte.zero c.loop-byte-test.true ∙ c.loop-byte.invariant

pub returns : goal.returns
returns c = zeros_end _ _ _ c.loop-byte-test.false ∙ c.loop-byte.invariant
