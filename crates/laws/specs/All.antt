-- For examples: `unfolding all` opens every definition of this crate and of those below it. Written by tools/bundle.
use Rattle.std.specs.Prelude.{ℕ}
use Rattle.laws.specs.Loops.{turns}
use Rattle.laws.specs.Bytes.{part, over, splice, zeros, little, little_at, rows, map_to, enc_all}

unfoldable pub all : ℕ
unfolding turns part over splice zeros little little_at rows map_to enc_all
all = 0
