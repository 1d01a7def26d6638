-- A token takes at least a byte: the position after it is further on.
use Prim.Native.Nat.{ℕ, suc, ◌+◌, ◌<◌}
use mathlib.Core.List.{List}
use native.Mathlib.Omega.{arith}
use lib.ListN.{length, get_or, drop}
use lib.Seq.{drop-cons}
use Rattle.editions.specs.declared.Edition.{Edition}
use Rattle.reader.specs.Tokens.{token_of}
use Rattle.reader.proofs.TokenLaws.{takes_a_byte}

pub token_past : (ed : Edition) (line : List ℕ) (at : ℕ) → at < length line → at < at + (token_of ed (drop at line)).used
token_past ed line at h = let u : 0 < (token_of ed (drop at line)).used = rw (drop-cons line at 0) (takes_a_byte ed (get_or line at 0) (drop (suc at) line)) in omega arith
