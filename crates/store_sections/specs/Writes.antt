-- What a writer that is lent a store answers of it.
use Rattle.std.specs.Prelude.{ℕ, ◌-◌, ◌≤◌, ◌<◌, ◌≡◌, cond, List, ◌++◌, Option, Some, None, leb, length}
use Rattle.laws.specs.Bytes.{splice, zeros}

-- bs was to be written from the start of the store d, which is left as e: all of bs was, and it ends at n; or it has no room in d
abbrev pub Says : List ℕ → List ℕ → List ℕ → Option ℕ → Type 0
Says d bs e (Some n) = (n ≡ length bs) × (n ≤ length d) × (e ≡ splice d 0 bs)
Says d bs e None = length d < length bs

-- the same as a record, so that its laws find d, bs, e and r
pub record WroteIs (d bs e : List ℕ) (r : Option ℕ) : Type 0 where
  pub says : Says d bs e r

-- where what was written ends: at the start, where there was no room
abbrev pub reached : Option ℕ → ℕ
reached (Some n) = n
reached None = 0

-- the one answer to bs in a store of n bytes, and how the store is left: bs and then zeros, or, where bs has no room, zeros
pub record Filled (bs : List ℕ) (n : ℕ) (r : Option ℕ) (e : List ℕ) : Type 0 where
  pub answer : r ≡ cond (leb (length bs) n) (Some (length bs)) None
  pub store : e ≡ cond (leb (length bs) n) (bs ++ zeros (n - length bs)) (zeros n)
