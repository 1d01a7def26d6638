-- LYRICS (ABC 2.1, 5.1): `-` splits a word into syllables, `_` holds the last one, `*` skips a note, `|` goes to the next bar, `~` is a space; no syllable on a
-- grace note; several lines are verses.
use Rattle.std.specs.Prelude.{ℕ, suc, min, Bool, true, cond, List, [], ◌∷◌, map}
use Rattle.std.proofs.Math.Option.{Option, none, some}
use Rattle.standard.specs.Bytes.{is}
use Rattle.standard.specs.Notes.{Flags}

pub data Syllabic : Type 0 where
  single begins ends middle : Syllabic

-- what takes a note: one that is skipped, one that holds the syllable before it, a syllable; and what goes to the next bar
pub data Word : Type 0 where
  skip hold bar : Word
  syllable : Syllabic → List ℕ → Word

-- a hyphen before it, one behind it
unfoldable pub syllabic_of : Bool → Bool → Syllabic
syllabic_of before behind = cond before (cond behind middle ends) (cond behind begins single)

-- `~` is a space in a syllable
unfoldable pub syllable_text : List ℕ → List ℕ
syllable_text s = map (λ c. cond (is "~" c) 32 c) s

-- the pieces of a word between its hyphens, each a syllable; a hyphen before the word, one behind it
unfoldable pub syllables : Bool → Bool → List (List ℕ) → List Word
syllables b a [] = []
syllables b a (p ∷ []) = syllable (syllabic_of b a) (syllable_text p) ∷ []
syllables b a (p ∷ q ∷ ps) = syllable (syllabic_of b true) (syllable_text p) ∷ syllables true a (q ∷ ps)

-- the next line is the next verse; 32 at most (document 01)
unfoldable pub next_verse : ℕ → ℕ
next_verse v = min 32 (suc v)

-- "no syllable on a grace note"
abbrev pub takes_none : Flags → Bool
takes_none f = f.grace

-- WHERE THE WORDS OF A LINE GO. A bar by its notes that take a syllable, one at least: the first and the others
abbrev pub SungBar : Type 0
SungBar = ℕ × List ℕ

-- the last of these notes, else the one before them
unfoldable pub last_or : Option ℕ → List ℕ → Option ℕ
last_or before [] = before
last_or before (i ∷ g) = last_or (some i) g

-- a word, the note that it takes and the note before that one, where there are such notes
pub record Placed : Type 0 where
  pub word : Word
  pub note : Option ℕ
  pub before : Option ℕ

abbrev on : Word → Option ℕ → Option ℕ → Placed
on word note before = record { word = word; note = note; before = before }

-- on what is left of the bar last reached, g, and the bars behind it: `|` goes to the next one, where there is one; any other word takes the next note
unfoldable pub placed : Option ℕ → List Word → List ℕ → List SungBar → List Placed
placed before [] g bs = []
placed before (bar ∷ ws) g [] = []
placed before (bar ∷ ws) g ((i, h) ∷ bs) = placed (last_or before g) ws (i ∷ h) bs
placed before (skip ∷ ws) (i ∷ g) bs = on skip (some i) before ∷ placed (some i) ws g bs
placed before (skip ∷ ws) [] ((i, h) ∷ bs) = on skip (some i) before ∷ placed (some i) ws h bs
placed before (skip ∷ ws) [] [] = on skip none before ∷ placed none ws [] []
placed before (hold ∷ ws) (i ∷ g) bs = on hold (some i) before ∷ placed (some i) ws g bs
placed before (hold ∷ ws) [] ((i, h) ∷ bs) = on hold (some i) before ∷ placed (some i) ws h bs
placed before (hold ∷ ws) [] [] = on hold none before ∷ placed none ws [] []
placed before (syllable c t ∷ ws) (i ∷ g) bs = on (syllable c t) (some i) before ∷ placed (some i) ws g bs
placed before (syllable c t ∷ ws) [] ((i, h) ∷ bs) = on (syllable c t) (some i) before ∷ placed (some i) ws h bs
placed before (syllable c t ∷ ws) [] [] = on (syllable c t) none before ∷ placed none ws [] []
