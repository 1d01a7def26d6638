-- WHAT THE TALLY READS OFF A READING'S BYTES: from section to section by their counts.
use Rattle.std.specs.Prelude.{ℕ, zero, suc, ◌+◌, ◌-◌, ◌*◌, cond, List, [], ◌∷◌, eqb, get_or}
use Rattle.laws.specs.Bytes.{u32_at}
use Rattle.reading_records.specs.Widths.{count_width}
use Rattle.reader.specs.Records.{note_width}
use Rattle.reader.specs.Tally.{Counts}
use Rattle.reading_sections.specs.Sections.{notes_at, lyrics_at, part_end}

-- of n notes from `at` on, those of kind 0
unfoldable pub sounded_in : List ℕ → ℕ → ℕ → ℕ
sounded_in s at zero = 0
sounded_in s at (suc n) = sounded_in s at n + cond (eqb (get_or s (at + note_width * n) 0) 0) 1 0

-- the counts of a part
unfoldable pub counts_in : List ℕ → ℕ → Counts
counts_in s at =
    record {
      measures = u32_at s at;
      sounded = sounded_in s (notes_at s at + count_width) (u32_at s (notes_at s at));
      rests = u32_at s (notes_at s at) - sounded_in s (notes_at s at + count_width) (u32_at s (notes_at s at));
      syllables = u32_at s (lyrics_at s at);
    }

-- of n parts from `at` on
unfoldable pub counts_from : List ℕ → ℕ → ℕ → List Counts
counts_from s at zero = []
counts_from s at (suc n) = counts_in s at ∷ counts_from s (part_end s at) n
