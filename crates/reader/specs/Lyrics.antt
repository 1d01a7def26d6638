-- LYRIC LINES (ABC 2.1, 5.1; 000, apply_abc_lyrics): "Lyrics go to voice 0 notes that are no rests, grace notes included; `|` is passed over." In the second
-- edition (document 02, T-03) grace notes take no syllable, and `|` goes to the next bar.
use Rattle.std.specs.Prelude.{ℕ, zero, suc, ◌+◌, Bool, true, false, cond, List, [], ◌∷◌, ◌++◌, map, leb, ltb, eqb}
use Rattle.std.proofs.Math.Option.{Option, none, some}
use Rattle.laws.specs.Lists.{eq_text, alter_at, filter, concat}
use Rattle.standard.specs.Bytes.{ascii, is, first, last}
use Rattle.standard.specs.Lyrics.{Syllabic, Word, skip, hold, bar, syllable, syllables, SungBar, Placed, placed}
use Rattle.editions.specs.declared.Edition.{Edition}
use Rattle.editions.specs.declared.Edition.TheVariants.{First, Second}
use Rattle.reader.specs.Pieces.{words, separator, white_at}
use Rattle.reader.specs.State.{Sung}

-- document 01, Lyric
pub record Syllable : Type 0 where
  pub verse : ℕ
  pub syllabic : Syllabic
  pub extend : Bool
  pub text : List ℕ

-- a word of hyphens alone takes a note and writes nothing
unfoldable pub or_skip : List Word → List Word
or_skip [] = skip ∷ []
or_skip (w ∷ ws) = w ∷ ws

-- a word of the line; `|`, `*` and `_` only as words of their own
unfoldable pub word_of : List ℕ → List Word
word_of w =
    elim (eq_text w (ascii "|")) [
      | true ↦ bar ∷ []
      | false ↦ elim (eq_text w (ascii "*")) [
        | true ↦ skip ∷ []
        | false ↦ elim (eq_text w (ascii "_")) [
          | true ↦ hold ∷ []
          | false ↦ or_skip (syllables (is "-" (first w)) (is "-" (last w)) (words (separator (is "-")) w))
        ]
      ]
    ]

-- the words of a line in order
unfoldable pub words_of : List (List ℕ) → List Word
words_of [] = []
words_of (w ∷ ws) = word_of w ++ words_of ws

-- what a lyric line's text says, word by word
unfoldable pub lyric_words : List ℕ → List Word
lyric_words text = words_of (words white_at text)

-- a note's syllables by verse; a later one of the same verse replaces
unfoldable pub put : Syllable → List Syllable → List Syllable
put x [] = x ∷ []
put x (y ∷ ys) =
    elim (ltb y.verse x.verse) [ true ↦ y ∷ put x ys | false ↦ cond (eqb y.verse x.verse) (x ∷ ys) (x ∷ y ∷ ys) ]

-- a syllable of verse v that a later note holds
unfoldable pub held : ℕ → Syllable → Syllable
held v y = cond (eqb y.verse v) (record { verse = y.verse; syllabic = y.syllabic; extend = true; text = y.text }) y

-- THE FIRST EDITION: the words of a line on the notes from its first on, of which i are taken. A note is taken by any word; past the last note nothing is written
unfoldable pub sing : ℕ → ℕ → ℕ → List Word → List (List Syllable) → List (List Syllable)
sing start v i [] notes = notes
sing start v i (bar ∷ ws) notes = sing start v i ws notes
sing start v i (skip ∷ ws) notes = sing start v (suc i) ws notes
sing start v zero (hold ∷ ws) notes = sing start v 1 ws notes
sing start v (suc i) (hold ∷ ws) notes = sing start v (suc (suc i)) ws (alter_at (start + i) (map (held v)) notes)
sing start v i (syllable c t ∷ ws) notes =
    sing start v (suc i) ws (alter_at (start + i) (put (record { verse = v; syllabic = c; extend = false; text = t })) notes)

-- the lyric lines in order, on notes without any
unfoldable pub sung_by : List Sung → List (List Syllable) → List (List Syllable)
sung_by [] notes = notes
sung_by (l ∷ ls) notes = sung_by ls (sing l.start l.verse 0 (lyric_words l.text) notes)

-- THE SECOND EDITION: words go where the standard has them (`placed`).
-- the syllable of verse v on the note before, if there is one, is held
unfoldable pub held_at : ℕ → Option ℕ → List (List Syllable) → List (List Syllable)
held_at v none notes = notes
held_at v (some i) notes = alter_at i (map (held v)) notes

-- a syllable of verse v on a note
unfoldable pub sung_at : ℕ → Syllabic → List ℕ → ℕ → List (List Syllable) → List (List Syllable)
sung_at v c t i notes = alter_at i (put (record { verse = v; syllabic = c; extend = false; text = t })) notes

-- what a word does at its note; past the last note a syllable is not written
unfoldable pub sung_word : ℕ → Word → Option ℕ → Option ℕ → List (List Syllable) → List (List Syllable)
sung_word v skip at before notes = notes
sung_word v bar at before notes = notes
sung_word v hold at before notes = held_at v before notes
sung_word v (syllable c t) (some i) before notes = sung_at v c t i notes
sung_word v (syllable c t) none before notes = notes

unfoldable pub sung_each : ℕ → List Placed → List (List Syllable) → List (List Syllable)
sung_each v [] notes = notes
sung_each v (p ∷ ps) notes = sung_each v ps (sung_word v p.word p.note p.before notes)

-- the words of a line on what is left of the measure last reached, g, and the measures behind it; `before` is the note before the next one, if the line has passed it.
-- "a lyric `|` moves to the first note in a measure after the one last reached ..; that move, `*` and `_` reach too, and with no such note the line's rest lapses"
abbrev pub sing_on : ℕ → Option ℕ → List Word → List ℕ → List SungBar → List (List Syllable) → List (List Syllable)
sing_on v before ws g bs notes = sung_each v (placed before ws g bs) notes

-- "(at the start, the one of the line's first note)": the measure of the first note is reached before any word
unfoldable pub sing_bars : ℕ → List Word → List SungBar → List (List Syllable) → List (List Syllable)
sing_bars v ws [] notes = notes
sing_bars v ws ((i, h) ∷ bs) notes = sing_on v none ws (i ∷ h) bs notes

-- a measure, if it has a note that takes a syllable
unfoldable pub bar_of : List ℕ → List SungBar
bar_of [] = []
bar_of (i ∷ is) = (i, is) ∷ []

-- the measures of a line, from its first note on; ms: for each measure of the part its notes that take a syllable
unfoldable pub bars_from : ℕ → List (List ℕ) → List SungBar
bars_from start ms = concat (map (λ is. bar_of (filter (leb start) is)) ms)

-- the lyric lines in order
unfoldable pub sung_by_bars : List (List ℕ) → List Sung → List (List Syllable) → List (List Syllable)
sung_by_bars ms [] notes = notes
sung_by_bars ms (l ∷ ls) notes = sung_by_bars ms ls (sing_bars l.verse (lyric_words l.text) (bars_from l.start ms) notes)

-- THE LYRIC LINES OF A PART in an edition
unfoldable pub sung_in : Edition → List (List ℕ) → List Sung → List (List Syllable) → List (List Syllable)
sung_in First ms ls notes = sung_by ls notes
sung_in Second ms ls notes = sung_by_bars ms ls notes
