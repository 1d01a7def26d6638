-- LYRIC LINES as the code has them, in either edition.
use Rattle.std.specs.Prelude.{ℕ, ◌+◌, ◌-◌, ◌*◌, ◌≤◌, ◌≡◌, List, [], ◌∷◌, ◌++◌}
use Rattle.laws.specs.Bytes.{between}
use Rattle.editions.specs.declared.Edition.{Edition}
use Rattle.editions.specs.declared.Edition.TheVariants.{First, Second}
use Rattle.standard.specs.Lyrics.{Word}
use Rattle.reader.specs.State as reader
use Rattle.reader.specs.Lyrics.{held_at, sung_in}
use Rattle.lyric_words.specs.declared.Token.{Token}
use Rattle.lyric_words.specs.Words.{said}
use Rattle.lyric_stops.specs.declared.Stops.{Stops}
use Rattle.lyric_stops.specs.Stops.{farthest, note_at, StopsAre}
use Rattle.lyrics.specs.declared.Sheet.{Sheet}
use Rattle.lyrics.specs.declared.Line.{Line}
use Rattle.lyrics.specs.Sheet.{lyric_row_width, with_count, Kept, Outside, syllables_in}
use Rattle.lyrics.specs.Lines.{rows_for}
use Rattle.lyric_lines.specs.declared.Place.{Place}
use Rattle.lyric_lines.specs.declared.Sung.{Sung}
use Rattle.lyric_lines.specs.Stands.{stops_of, stops_by}
use Rattle.lyric_lines.specs.Places.{StandsIn, Hinted, sing_at}

-- a hold of the syllable of verse v on the note at a place, if there is one; n rows are now written
pub record Held (s t : List ℕ) (h : Sheet) (v place n : ℕ) : Type 0 where
  pub kept : Kept t (with_count h n)
  pub sung : (text : List ℕ) → syllables_in text t (with_count h n) ≡ held_at v (note_at place) (syllables_in text s h)
  pub more : h.count ≤ n
  pub one : n ≤ h.count + 1
  pub stops : stops_by t h ≡ stops_by s h
  pub outside : Outside s t h.heads (h.log + lyric_row_width * n)

-- a token was sung from where the line stands; its place goes up by 1, but for notes that are passed over
pub record WordSung (ed : Edition) (s t : List ℕ) (h : Sheet) (v : ℕ) (p : Place) (w : Token) (r : Sung) : Type 0 where
  pub kept : Kept t (with_count h r.count)
  pub stands : (start : ℕ) → StandsIn ed start (stops_by s h) p → StandsIn ed start (stops_by s h) r.place
  pub sung : (start : ℕ) → Hinted ed (stops_by s h) → StandsIn ed start (stops_by s h) p → (text : List ℕ) (ws : List Word)
      → sing_at ed start v (stops_by s h) r.place ws (syllables_in text t (with_count h r.count)) ≡ sing_at ed start v (stops_by s h) p (said text w ++ ws) (syllables_in text s h)
  pub near : (b : ℕ) → p.note ≤ b → p.reached ≤ b → h.sounded + farthest ≤ b → (r.place.note ≤ b + 1) × (r.place.reached ≤ b + 1)
  pub more : h.count ≤ r.count
  pub one : r.count ≤ h.count + 1
  pub stops : stops_by t h ≡ stops_by s h
  pub outside : Outside s t h.heads (h.log + lyric_row_width * r.count)

-- measures, each by its notes that take a syllable: the first edition asks for none; the second for those whose stops the table is
abbrev pub Known : Edition → List ℕ → Stops → List (List ℕ) → Type 0
Known First s t ms = Unit {0}
Known Second s t ms = StopsAre s t ms

-- a line as the reader has it
abbrev pub as_line : List ℕ → Line → reader.Sung
as_line text l = record { start = l.start; verse = l.verse; text = between text l.at l.end }

-- a line was sung; n rows are now written
pub record LineSung (ed : Edition) (text s t : List ℕ) (h : Sheet) (l : Line) (n : ℕ) : Type 0 where
  pub kept : Kept t (with_count h n)
  pub stops : stops_by t h ≡ stops_by s h
  pub sung : (ms : List (List ℕ)) → Known ed s (stops_of h) ms → syllables_in text t (with_count h n) ≡ sung_in ed ms (as_line text l ∷ []) (syllables_in text s h)
  pub more : h.count ≤ n
  pub room : n ≤ h.count + rows_for (l.end - l.at)
  pub outside : Outside s t h.heads (h.log + lyric_row_width * n)
