-- The states of the reading of white space, as the code has them.
use Rattle.std.specs.Prelude.{ℕ, Bool, true, false, ◌||◌, eqb}
use Rattle.reader.specs.Text.{within, White, white, in_c2, in_e1, in_e19a, in_e2, in_e280, in_e281, in_e3, in_e380, other}
use Rattle.text_white.specs.declared.White as code
use Rattle.text_white.specs.declared.White.TheVariants as W

abbrev pub as_white : code.White → White
as_white W.White = white
as_white W.InC2 = in_c2
as_white W.InE1 = in_e1
as_white W.InE19A = in_e19a
as_white W.InE2 = in_e2
as_white W.InE280 = in_e280
as_white W.InE281 = in_e281
as_white W.InE3 = in_e3
as_white W.InE380 = in_e380
as_white W.Other = other

abbrev pub is_other : White → Bool
is_other white = false
is_other in_c2 = false
is_other in_e1 = false
is_other in_e19a = false
is_other in_e2 = false
is_other in_e280 = false
is_other in_e281 = false
is_other in_e3 = false
is_other in_e380 = false
is_other other = true

-- the tests of `white_step` behind C2 and behind E2 80
abbrev pub ends_c2 : ℕ → Bool
ends_c2 c = eqb c 0x85 || eqb c 0xa0

abbrev pub ends_e280 : ℕ → Bool
ends_e280 c = within 0x80 0x8a c || eqb c 0xa8 || eqb c 0xa9 || eqb c 0xaf
