-- THE SYLLABLES OF A PART IN SCRATCH, as a function of its bytes: a chain of rows for each note that sounds, the newest first.
use Rattle.std.specs.Prelude.{ℕ, zero, suc, ◌+◌, ◌*◌, ◌^◌, ◌≤◌, ◌<◌, ◌≡◌, cond, true, false, List, [], ◌∷◌, ◌++◌, map, eqb, length, get_or, take, drop, Option, Some, None}
use Rattle.laws.specs.Lists.{All, alter_at}
use Rattle.laws.specs.Bytes.{part, between, rows, le32, u32_at}
use Rattle.standard.specs.Lyrics.{syllable_text}
use Rattle.reader.specs.Lyrics.{Syllable, put, held}
use Rattle.bounds.specs.Weights as bounds
use Rattle.reader.specs.Codes.{syllabic_code}
use Rattle.lyric_words.specs.declared.Syllabic as code
use Rattle.lyric_words.specs.declared.Syllabic.TheVariants as S
use Rattle.lyric_words.specs.Words.{as_syllabic}
use Rattle.lyrics.specs.declared.Sheet.{Sheet}
use Rattle.lyrics.specs.declared.Row.{Row}

abbrev pub with_count : Sheet → ℕ → Sheet
with_count h n = record { heads = h.heads; sounded = h.sounded; log = h.log; count = n }

-- THE WIDTHS of a note's head, of its stop (crate lyric_stops) and of a row
abbrev pub lyric_head_width : ℕ
lyric_head_width = bounds.lyric_head_width

abbrev pub lyric_stop_width : ℕ
lyric_stop_width = bounds.lyric_stop_width

abbrev pub lyric_row_width : ℕ
lyric_row_width = bounds.lyric_row_width

-- WHERE THE FIELDS OF A ROW STAND
abbrev pub verse_at : ℕ
verse_at = 0

abbrev pub code_at : ℕ
code_at = 1

abbrev pub start_at : ℕ
start_at = 4

abbrev pub end_at : ℕ
end_at = 8

abbrev pub next_at : ℕ
next_at = 12

-- the number of a hold, where a syllable has its syllabic's
abbrev pub hold_code : ℕ
hold_code = 4

-- the byte of a row for its syllabic, which a hold has not; and the syllabic for which a byte stands
abbrev pub code_of : Option code.Syllabic → ℕ
code_of (Some c) = syllabic_code (as_syllabic c)
code_of None = hold_code

abbrev pub syllabic_in : ℕ → Option code.Syllabic
syllabic_in n =
    cond (eqb n 0) (Some S.Single)
    (cond (eqb n 1) (Some S.Begins)
    (cond (eqb n 2) (Some S.Ends)
    (cond (eqb n hold_code) None (Some S.Middle))))

-- A ROW: verse, number, two zeros, the text's place, and the place, from 1, of the row before it in its chain
unfoldable pub row_bytes : Row → ℕ → List ℕ
row_bytes r next = r.verse ∷ r.code ∷ 0 ∷ 0 ∷ (le32 r.at ++ (le32 r.end ++ le32 next))

-- a row as it is read: the syllabic for which its number stands
pub record RowRead : Type 0 where
  pub verse : ℕ
  pub syllabic : Option code.Syllabic
  pub at : ℕ
  pub end : ℕ

abbrev pub row_read : Row → RowRead
row_read r = record { verse = r.verse; syllabic = syllabic_in r.code; at = r.at; end = r.end }

unfoldable pub row_of : List ℕ → RowRead
row_of b = record { verse = get_or b verse_at 0; syllabic = syllabic_in (get_or b code_at 0); at = u32_at b start_at; end = u32_at b end_at }

unfoldable pub next_of : List ℕ → ℕ
next_of b = u32_at b next_at

-- row m of the log
abbrev pub row_at : List ℕ → ℕ → ℕ → List ℕ
row_at s log m = part s (log + lyric_row_width * m) lyric_row_width

-- the syllable of a row that is no hold
unfoldable pub syllable_of : List ℕ → RowRead → code.Syllabic → Syllable
syllable_of text r c = record { verse = r.verse; syllabic = as_syllabic c; extend = false; text = syllable_text (between text r.at r.end) }

-- what a row does to what was sung to its note before
unfoldable pub apply_as : Option code.Syllabic → List ℕ → RowRead → List Syllable → List Syllable
apply_as None text r ys = map (held r.verse) ys
apply_as (Some c) text r ys = put (syllable_of text r c) ys

abbrev pub apply_row : List ℕ → RowRead → List Syllable → List Syllable
apply_row text r ys = apply_as r.syllabic text r ys

-- what the chain from row k on (from 1; 0 for none) says, if k is among the first n rows: a chain goes down
unfoldable pub sung_from : List ℕ → List ℕ → ℕ → ℕ → ℕ → List Syllable
sung_from text s log zero k = []
sung_from text s log (suc m) k =
    elim (eqb k (suc m)) [
      | true ↦ apply_row text (row_of (row_at s log m)) (sung_from text s log m (next_of (row_at s log m)))
      | false ↦ sung_from text s log m k
    ]

-- the heads of the notes
unfoldable pub head_of : List ℕ → ℕ
head_of b = u32_at b 0

unfoldable pub heads_in : List ℕ → ℕ → ℕ → List ℕ
heads_in s heads n = rows head_of lyric_head_width s heads n

-- FOR EACH NOTE ITS SYLLABLES
unfoldable pub syllables_in : List ℕ → List ℕ → Sheet → List (List Syllable)
syllables_in text s h = map (sung_from text s h.log h.count) (heads_in s h.heads h.sounded)

-- the stops of the notes stand behind the heads
abbrev pub stops_from : Sheet → ℕ
stops_from h = h.heads + lyric_head_width * h.sounded

-- the tables lie apart, with room for the stops, and within scratch, and each head is the place of a row that is written
pub record Kept (s : List ℕ) (h : Sheet) : Type 0 where
  pub apart : stops_from h + lyric_stop_width * h.sounded ≤ h.log
  pub inside : h.log + lyric_row_width * h.count ≤ length s
  pub firsts : All (λ k. k ≤ h.count) (heads_in s h.heads h.sounded)

-- there is room for one row more
pub record Room (s : List ℕ) (h : Sheet) : Type 0 where
  pub kept : Kept s h
  pub inside : h.log + lyric_row_width * h.count + lyric_row_width ≤ length s
  pub few : h.count + 1 < 2 ^ 32

-- nothing was written but between two places
pub record Outside (s t : List ℕ) (lo hi : ℕ) : Type 0 where
  pub same_length : length t ≡ length s
  pub low : take lo t ≡ take lo s
  pub high : drop hi t ≡ drop hi s

-- a row was added to the chain of note `note`, if there is such a note; n rows are now written
pub record RowAppended (s t : List ℕ) (h : Sheet) (note : ℕ) (r : Row) (n : ℕ) : Type 0 where
  pub kept : Kept t (with_count h n)
  pub sung : (text : List ℕ) → syllables_in text t (with_count h n) ≡ alter_at note (apply_row text (row_read r)) (syllables_in text s h)
  pub more : h.count ≤ n
  pub one : n ≤ h.count + 1
  pub stops : part t (stops_from h) (lyric_stop_width * h.sounded) ≡ part s (stops_from h) (lyric_stop_width * h.sounded)
  pub outside : Outside s t h.heads (h.log + lyric_row_width * n)
