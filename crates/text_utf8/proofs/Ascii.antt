-- ASCII is UTF-8.
use Prim.Native.Nat.{ℕ}
use mathlib.Core.Path.{◌≡◌, refl, ap, ◌∙◌}
use mathlib.Core.Bool.{true, false}
use mathlib.Core.List.{List, [], ◌∷◌}
use borrow.Author.Tests.{ltb-false, le-leb}
use lib.Dec.{ltb}
use Rattle.laws.specs.Lists.{foldl}
use Rattle.laws.proofs.Bools.{or_no_left, or_no_right}
use Rattle.reader.specs.Text.{Utf8, between, utf8_step, is_between, is_utf8, has_high}

stays : (c : ℕ) → ltb 127 c ≡ false → utf8_step between c ≡ between
unfolding utf8_step
stays c e = rw (le-leb c 0x7f (ltb-false 127 c e))

ascii : (l : List ℕ) → has_high l ≡ false → foldl utf8_step between l ≡ between
unfolding has_high
ascii [] h = refl
ascii (c ∷ l) h = ap (λ (q : Utf8). foldl utf8_step q l) (stays c (or_no_left (ltb 127 c) (has_high l) h)) ∙ ascii l (or_no_right (ltb 127 c) (has_high l) h)

pub ascii_is_utf8 : (l : List ℕ) → has_high l ≡ false → is_utf8 l ≡ true
unfolding is_utf8
ascii_is_utf8 l h = ap is_between (ascii l h)
