-- THE KINDS OF STOPS that a part's notes are, as the bytes of its tables give them.
use Rattle.std.specs.Prelude.{ℕ, zero, suc, ◌+◌, ◌*◌, Bool, true, false, cond, not, ◌&&◌, ◌||◌, List, [], ◌∷◌, ◌++◌}
use Rattle.reader.specs.Records.{measure_width}
use Rattle.lyric_stops.specs.declared.Kind.{Kind}
use Rattle.part_rows.specs.Encoded.{note_row_width}
use Rattle.part_rows.specs.Read.{grace_at, sung_row}
use Rattle.part_measures.specs.Heads.{note_count}

-- the row at p, if its note is sung; `begun`: a note of its measure before it takes a syllable
unfoldable pub mark_at : List ℕ → Bool → ℕ → List Kind
mark_at s begun p = elim (sung_row s p) [ true ↦ cond (grace_at s p) Kind.Passed (cond begun Kind.Later Kind.First) ∷ [] | false ↦ [] ]

-- a note up to it does
unfoldable pub begun_after : List ℕ → Bool → ℕ → Bool
begun_after s begun p = begun || (sung_row s p && not (grace_at s p))

-- the k rows of a measure from p on
unfoldable pub marks_in : List ℕ → Bool → ℕ → ℕ → List Kind
marks_in s begun p zero = []
marks_in s begun p (suc k) = mark_at s begun p ++ marks_in s (begun_after s begun p) (p + note_row_width) k

-- the rows of the n measures from h on, which begin at p
unfoldable pub marks_of : List ℕ → ℕ → ℕ → ℕ → List Kind
marks_of s h p zero = []
marks_of s h p (suc n) = marks_in s false p (note_count s h) ++ marks_of s (h + measure_width) (p + note_row_width * note_count s h) n
