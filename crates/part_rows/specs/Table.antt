-- A TABLE in a store of bytes: rows of one width, one after the other, that hold a list.
use Rattle.std.specs.Prelude.{ℕ, ◌*◌, ◌≡◌, List, length, take, drop}
use Rattle.laws.specs.Bytes.{part, enc_all}

-- the rows of w bytes from place `at` on are the list xs, each as enc writes it
pub record Table {R : Type 0} (enc : R → List ℕ) (w : ℕ) (s : List ℕ) (at : ℕ) (xs : List R) : Type 0 where
  pub holds : part s at (w * length xs) ≡ enc_all enc xs

-- s' differs from s between two places only
pub record Only (lo hi : ℕ) (s s' : List ℕ) : Type 0 where
  pub same_length : length s' ≡ length s
  pub front : take lo s' ≡ take lo s
  pub back : drop hi s' ≡ drop hi s
