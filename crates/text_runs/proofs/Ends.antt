-- Where the bytes of one kind end that reach the end of their part.
use Prim.Native.Nat.{ℕ, max, ◌-◌, ◌≤◌, ◌<◌}
use mathlib.Core.Path.{◌≡◌}
use mathlib.Core.Bool.{Bool}
use mathlib.Core.List.{List}
use native.Mathlib.Decide.{dec_lt}
use native.Mathlib.Omega.{arith}
use lib.ListN.{length, drop, length-drop}
use lib.Seq.{take_all}
use Rattle.laws.specs.Bytes.{part}
use Rattle.laws.specs.Spans.{end_of, end_in}
use Rattle.laws.proofs.Parts.{end_in_le, end_in_over}

pub end_in_most : (p : ℕ → Bool) (s : List ℕ) (i b : ℕ) → b ≤ end_in p s i b → end_in p s i b ≡ max i b
end_in_most p s i b h = go (dec_lt b i)
  where
    go : Dec (b < i) → end_in p s i b ≡ max i b
    go (yes l) = omega (arith, end_in_over p s i b (omega arith))
    go (no l) = omega (arith, end_in_le p s i b (omega arith))

-- of a part that reaches the line's end
pub end_in_line : (p : ℕ → Bool) (s : List ℕ) (i : ℕ) → end_in p s i (length s) ≡ end_of p s i
unfolding part
end_in_line p s i = rw (take_all (length s - i) (drop i s) (simp length-drop (omega arith)))
