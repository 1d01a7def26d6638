-- PASS LISTS of endings (ABC 2.1, 4.9, 4.10): `[1`, `[2`, `[1,3`, `[1-3`: numbers and ranges, with commas between.
use Rattle.std.specs.Prelude.{ℕ, zero, suc, ◌-◌, List, [], ◌∷◌}

-- n numbers from a on
unfoldable pub rising : ℕ → ℕ → List ℕ
rising a zero = []
rising a (suc n) = a ∷ rising (suc a) n

-- an item of a list: a pass, or the passes from one to a later one
pub data Item : Type 0 where
  pass : ℕ → Item
  passes : ℕ → ℕ → Item

-- the passes that an item names
unfoldable pub passes_of : Item → List ℕ
passes_of (pass a) = a ∷ []
passes_of (passes a b) = rising a (suc (b - a))
