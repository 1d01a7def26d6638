-- WHERE A LYRIC LINE OF THE SECOND EDITION STANDS among the notes of its part, given by their stops.
use Rattle.std.specs.Prelude.{ℕ, ◌+◌, ◌≡◌, cond, List, [], ◌∷◌, ◌++◌, ltb, length}
use Rattle.std.proofs.Math.Option.{Option, none, some}
use Rattle.standard.specs.Lyrics.{Word, bar, SungBar}
use Rattle.reader.specs.Lyrics.{Syllable, sing_on, sing_bars, bar_of}
use Rattle.lyric_stops.specs.declared.Kind.{Kind}
use Rattle.lyric_stops.specs.declared.Stop.{Stop}
use Rattle.lyric_stops.specs.declared.Stops.{Stops}
use Rattle.lyric_stops.specs.Stops.{kind_at, Left, left_from, note_at, Hints, stops_in}
use Rattle.lyrics.specs.declared.Sheet.{Sheet}
use Rattle.lyrics.specs.Sheet.{stops_from}

-- on a note that it reached and that no word has taken yet, with the note before it by its place from 1, 0 for none; behind a note that a word took; or nowhere: its
-- notes are over, or its rest lapsed
pub data Stand : Type 0 where
  On : ℕ → ℕ → Stand
  Taken : ℕ → Stand
  Over : Stand

-- the stops of a sheet's notes
abbrev pub stops_of : Sheet → Stops
stops_of h = record { at = stops_from h; count = h.sounded }

abbrev pub stops_by : List ℕ → Sheet → List Stop
stops_by s h = stops_in s (stops_of h)

-- the note before the next one
unfoldable pub before_of : Stand → Option ℕ
before_of (On note place) = note_at place
before_of (Taken note) = some note
before_of Over = none

-- what is left of the measure last reached, and the measures behind it
unfoldable pub left_of : List Stop → Stand → Left
left_of xs (On note place) = (note ∷ (left_from xs (note + 1)).0, (left_from xs (note + 1)).1)
left_of xs (Taken note) = left_from xs (note + 1)
left_of xs Over = ([], [])

-- the note last reached takes a syllable
abbrev pub Reached : List Stop → Stand → Type 0
Reached xs (On note place) = kind_at xs note ≡ Kind.Passed → ⊥
Reached xs (Taken note) = kind_at xs note ≡ Kind.Passed → ⊥
Reached xs Over = Unit {0}

-- words from there on
abbrev pub sing_from : ℕ → List Stop → Stand → List Word → List (List Syllable) → List (List Syllable)
sing_from v xs st ws notes = sing_on v (before_of st) ws (left_of xs st).0 (left_of xs st).1 notes

-- THE NEXT NOTE, and what is left behind it: of the measure last reached, or of the next one
unfoldable pub next_in : List ℕ → List SungBar → Option (ℕ × Left)
next_in [] [] = none
next_in [] ((i, h) ∷ bs) = some (i, (h, bs))
next_in (i ∷ g) bs = some (i, (g, bs))

-- note j, if there is one
unfoldable pub next_at : List Stop → ℕ → Option (ℕ × Left)
next_at xs j = cond (ltb j (length xs)) (some (j, left_from xs (j + 1))) none

-- where the line stands when a word took note j, if there is one
unfoldable pub taken_at : ℕ → ℕ → Stand
taken_at n j = cond (ltb j n) (Taken j) Over

-- j is the next note, or there is none
pub record NextNote (xs : List Stop) (st : Stand) (j : ℕ) : Type 0 where
  pub next : Hints xs → next_in (left_of xs st).0 (left_of xs st).1 ≡ next_at xs j
  pub here : Reached xs st → kind_at xs j ≡ Kind.Passed → ⊥

-- A LINE BEGINS at note `start` or behind it
pub record Begun (xs : List Stop) (start : ℕ) (st : Stand) : Type 0 where
  pub reached : Reached xs st
  pub sung : Hints xs → (v : ℕ) (ws : List Word) (notes : List (List Syllable))
      → sing_from v xs st ws notes ≡ sing_bars v ws (bar_of (left_from xs start).0 ++ (left_from xs start).1) notes

-- A BAR moves on from st to r
pub record Moved (xs : List Stop) (st r : Stand) : Type 0 where
  pub reached : Reached xs r
  pub sung : Hints xs → Reached xs st → (v : ℕ) (ws : List Word) (notes : List (List Syllable)) → sing_from v xs r ws notes ≡ sing_from v xs st (bar ∷ ws) notes
