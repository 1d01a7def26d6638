-- The measures of a part, in a reading's bytes.
use Rattle.std.specs.Prelude.{ℕ, ◌≤◌, ◌<◌, ◌^◌, ◌≡◌, List, length}
use Rattle.laws.specs.Bytes.{u32_at}
use Rattle.reading_sections.specs.Sections.{notes_at}

-- A PART OF n MEASURES at `at`, which lies within the reading
pub record Here (s : List ℕ) (at n : ℕ) : Type 0 where
  pub inside : notes_at s at ≤ length s
  pub count_is : n ≡ u32_at s at
  pub few : n < 2 ^ 32
