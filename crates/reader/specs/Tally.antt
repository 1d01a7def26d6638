-- THE TALLY (document 01): what the program `tally` counts in each part of a reading.
use Rattle.std.specs.Prelude.{ℕ, Bool, not, ◌&&◌, List, map, length}
use Rattle.laws.specs.Lists.{filter}
use Rattle.standard.specs.Notes.{is_sounded}
use Rattle.reader.specs.State.{Note}
use Rattle.reader.specs.Part.{Part}
use Rattle.reader.specs.Records.{notes_of, lyrics}

-- "its measures, its notes that are no rests, its rests, its lyric records"
pub record Counts : Type 0 where
  pub measures : ℕ
  pub sounded : ℕ
  pub rests : ℕ
  pub syllables : ℕ

unfoldable pub counts_of : Part → Counts
counts_of p =
    record {
      measures = length p.measures;
      sounded = length (filter (λ (x : ℕ × Note). is_sounded x.1.kind) (notes_of p));
      rests = length (filter (λ (x : ℕ × Note). not (is_sounded x.1.kind)) (notes_of p));
      syllables = length (lyrics p);
    }

-- one line of the tally for each part, in order
unfoldable pub tally : List Part → List Counts
tally ps = map counts_of ps

-- BEGUN, not yet what the tally counts (T-07): of the notes that are no rests, those to be counted and those to be left out
unfoldable pub is_billed : Note → Bool
is_billed n = is_sounded n.kind && not n.flags.tie_end

unfoldable pub is_held : Note → Bool
is_held n = is_sounded n.kind && n.flags.tie_end

-- how many notes of a part pass a test
abbrev pub notes_that : (Note → Bool) → Part → ℕ
notes_that t p = length (filter (λ (x : ℕ × Note). t x.1) (notes_of p))

-- T-07: "the notes left out" of a part, and its "notes that are no rests"
unfoldable pub left_out : Part → ℕ
left_out p = notes_that is_held p

unfoldable pub no_rests : Part → ℕ
no_rests p = notes_that (λ n. is_sounded n.kind) p
