-- What is found tells what the definition gives.
use mathlib.Core.Path.{◌≡◌, refl, sym}
use mathlib.Core.Option.{Option, none, some}
use Prim.Native.Nat.{ℕ}
use native.Mathlib.Omega.{arith}
use Rattle.standard.specs.Lengths.{Value}
use Rattle.token_lengths.specs.declared.Length.{Length}
use Rattle.token_lengths.specs.Values.{length_as}
use Rattle.std.specs.Prelude as code
use Rattle.token_values.specs.Found.{found_as}

pub found_none : (x : Option Value) → found_as x ≡ code.None → x ≡ none
found_none none e = refl
found_none (some w) e = let no : ◌≡◌ {A = ℕ} 0 1 = cc in absurd (omega arith)

-- what is found is the definition's, as a length
pub found_length : (x : Option Value) (l : Length) (w : Value) → found_as x ≡ code.Some l → ((v : Value) → x ≡ some v → w ≡ v) → l ≡ length_as w
found_length none l w e f = let no : ◌≡◌ {A = ℕ} 0 1 = cc in absurd (omega arith)
found_length (some v) l w e f = let p : length_as v ≡ l = cc in rw (f v refl) (sym p)
