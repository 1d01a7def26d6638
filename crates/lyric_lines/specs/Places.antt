-- WHERE A LYRIC LINE STANDS, as the code has it: a place, by the edition.
use Rattle.std.specs.Prelude.{ℕ, ◌+◌, ◌-◌, ◌≤◌, ◌<◌, ◌^◌, ◌≡◌, cond, List, ◌++◌, eqb, ltb, length}
use Rattle.editions.specs.declared.Edition.{Edition}
use Rattle.editions.specs.declared.Edition.TheVariants.{First, Second}
use Rattle.standard.specs.Lyrics.{Word}
use Rattle.reader.specs.Lyrics.{Syllable, held_at, sing, sing_bars, bar_of}
use Rattle.lyric_stops.specs.declared.Stop.{Stop}
use Rattle.lyric_stops.specs.Stops.{left_from, note_at, Hints}
use Rattle.lyric_stops.specs.Walks.{TakerFrom}
use Rattle.lyric_lines.specs.declared.Place.{Place}
use Rattle.lyric_lines.specs.Stands.{Stand, On, Taken, Over, before_of, Reached, sing_from, taken_at, NextNote, Moved}

-- THE FIRST NOTE FROM `from` ON that takes a syllable
abbrev pub Sought : Edition → List Stop → ℕ → ℕ → Type 0
Sought First xs from r = r ≡ from
Sought Second xs from r = TakerFrom xs from r

-- where a line begins
pub record FirstPlace (ed : Edition) (xs : List Stop) (start : ℕ) (p : Place) : Type 0 where
  pub note : Sought ed xs start p.note
  pub before : p.before ≡ 0
  pub reached : p.reached ≡ p.note

-- where it stands when a word took note j
pub record TakenPlace (ed : Edition) (xs : List Stop) (j : ℕ) (p : Place) : Type 0 where
  pub note : Sought ed xs (j + 1) p.note
  pub before : p.before ≡ j + 1
  pub reached : p.reached ≡ j

-- WHAT A PLACE SAYS among n notes in the second edition
unfoldable pub stand_of : ℕ → Place → Stand
stand_of n p = cond (ltb p.reached n) (cond (eqb p.note p.reached) (On p.note p.before) (Taken p.reached)) Over

-- its notes are those of where it stands
pub record StandsAt (xs : List Stop) (p : Place) : Type 0 where
  pub reached : Reached xs (stand_of (length xs) p)
  pub next : NextNote xs (stand_of (length xs) p) p.note
  pub before : (v : ℕ) (notes : List (List Syllable)) → length notes ≡ length xs → held_at v (note_at p.before) notes ≡ held_at v (before_of (stand_of (length xs) p)) notes

-- in the first edition the next note is the one after the note before, from the line's first on
abbrev pub StandsIn : Edition → ℕ → List Stop → Place → Type 0
StandsIn First start xs p = (start ≤ p.note) × (p.before ≡ cond (eqb p.note start) 0 p.note)
StandsIn Second start xs p = StandsAt xs p

-- what the stops must be: the first edition asks for none
abbrev pub Hinted : Edition → List Stop → Type 0
Hinted First xs = Unit {0}
Hinted Second xs = Hints xs

-- WORDS of verse v from there on,
abbrev pub sing_at : Edition → ℕ → ℕ → List Stop → Place → List Word → List (List Syllable) → List (List Syllable)
sing_at First start v xs p ws notes = sing start v (p.note - start) ws notes
sing_at Second start v xs p ws notes = sing_from v xs (stand_of (length xs) p) ws notes

-- and from note `start` on
abbrev pub sing_line : Edition → ℕ → ℕ → List Stop → List Word → List (List Syllable) → List (List Syllable)
sing_line First start v xs ws notes = sing start v 0 ws notes
sing_line Second start v xs ws notes = sing_bars v ws (bar_of (left_from xs start).0 ++ (left_from xs start).1) notes

-- A BAR of the second edition, where note j was reached last
pub record MovedPlace (xs : List Stop) (j : ℕ) (p : Place) : Type 0 where
  pub stands : StandsAt xs p
  pub moved : Moved xs (taken_at (length xs) j) (stand_of (length xs) p)
  pub note_near : p.note ≤ length xs
  pub reached_near : p.reached ≤ length xs

-- in either
abbrev pub BarSung : Edition → List Stop → Place → Place → Type 0
BarSung First xs p r = r ≡ p
BarSung Second xs p r = MovedPlace xs p.reached r

-- the next numbers are numbers of a machine word
abbrev pub Near : Place → Type 0
Near p = (p.note + 1 < 2 ^ 64) × (p.reached + 1 < 2 ^ 64)
