-- The syllables of a part have verses from 1 to 32, and their text is of bytes.
use Prim.Native.Nat.{ℕ, zero, suc, ◌+◌}
use mathlib.Core.Path.{◌≡◌, refl}
use mathlib.Core.Bool.{Bool, true, false, not}
use mathlib.Core.List.{List, [], ◌∷◌, map, reverse}
use mathlib.Core.Option.{Option, some, none}
use lib.Dec.{ltb, eqb, lit<}
use lib.ListN.{replicate}
use Rattle.laws.specs.Lists.{foldl, All, eq_text, is_nil, alter_at}
use Rattle.laws.proofs.Bools.{by_test}
use Rattle.laws.proofs.Lists.{All-append, All-filter, All-alter_at, All-reverse}
use Rattle.standard.specs.Bytes.{ascii, is, first, last}
use Rattle.standard.specs.Keys.{Key}
use Rattle.standard.specs.Lyrics.{Word, skip, hold, syllable, syllable_text, syllables, Syllabic, bar, SungBar, last_or, placed}
use Rattle.editions.specs.declared.Edition.{Edition}
use Rattle.editions.specs.declared.Edition.TheVariants.{First, Second}
use Rattle.reader.specs.Pieces.{pieces, words, separator, white_at}
use Rattle.reader.specs.Scan.{Item}
use Rattle.reader.specs.State.{Sung, new_part}
use Rattle.reader.specs.Voltas.{close, closed}
use Rattle.reader.specs.Lyrics.{Syllable, or_skip, word_of, words_of, lyric_words, put, held, sing, sung_by, held_at, sung_at, sing_on, sing_bars, sung_by_bars, sung_in, bars_from, sung_word, sung_each}
use Rattle.reader.specs.Part.{on_item, finished, build, empty_part, takers_in, finished_measures}
use Rattle.bounds.specs.Ranges.{Bytes, VerseFits, SungFits, SyllableFits, StateFits, ItemFits, PartFits}
use Rattle.bounds.proofs.PartRanges.{items_state, new_part_fits, finished_fit, finished_voltas}
use Rattle.bounds.proofs.ScanRanges.{push_bytes}

-- the pieces of a text of bytes
module _ (w : List ℕ → ℕ) where
  -- each piece
  pub pieces_bytes : (k : ℕ) (s : List ℕ) → Bytes s → All Bytes (pieces w k s)
  unfolding pieces
  pieces_bytes k [] h = (tt, tt)
  pieces_bytes zero (c ∷ s) h = at (w (c ∷ s)) refl (pieces_bytes zero s h.1) (λ n. pieces_bytes n s h.1)
    where
      at : (n : ℕ) → w (c ∷ s) ≡ n → All Bytes (pieces w zero s) → ((n : ℕ) → All Bytes (pieces w n s)) → All Bytes (pieces w zero (c ∷ s))
      at zero e k g = rw (e, pieces) (push_bytes c (pieces w zero s) h.0 k)
      at (suc n) e k g = rw (e, pieces) (tt, g n)
  pieces_bytes (suc k) (c ∷ s) h = pieces_bytes k s h.1

  pub words_bytes : (s : List ℕ) → Bytes s → All Bytes (words w s)
  unfolding words
  words_bytes s h = All-filter (λ p. not (is_nil p)) Bytes (pieces w 0 s) (pieces_bytes 0 s h)

-- WORDS
unfoldable WordFits : Word → Type 0
WordFits skip = Unit {0}
WordFits hold = Unit {0}
WordFits bar = Unit {0}
WordFits (syllable c t) = Bytes t

text_bytes : (s : List ℕ) → Bytes s → Bytes (syllable_text s)
unfolding syllable_text
text_bytes [] h = tt
text_bytes (c ∷ s) h = by_test (is "~" c) (λ e. rw e (lit< tt, text_bytes s h.1)) (λ e. rw e (h.0, text_bytes s h.1))

syllables_fit : (b a : Bool) (ps : List (List ℕ)) → All Bytes ps → All WordFits (syllables b a ps)
unfolding syllables WordFits
syllables_fit b a [] h = tt
syllables_fit b a (p ∷ []) h = (text_bytes p h.0, tt)
syllables_fit b a (p ∷ q ∷ ps) h = (text_bytes p h.0, syllables_fit true a (q ∷ ps) h.1)

skip_fits : (ws : List Word) → All WordFits ws → All WordFits (or_skip ws)
unfolding or_skip WordFits
skip_fits [] h = (tt, tt)
skip_fits (w ∷ ws) h = h

word_fits : (w : List ℕ) → Bytes w → All WordFits (word_of w)
unfolding word_of WordFits
word_fits w h =
    by_test (eq_text w (ascii "|")) (λ e. rw (e, word_of) (tt, tt))
    (λ e. rw (e, word_of)
    (by_test (eq_text w (ascii "*")) (λ f. rw (f, word_of) (tt, tt))
    (λ f. rw (f, word_of)
    (by_test (eq_text w (ascii "_")) (λ g. rw (g, word_of) (tt, tt))
    (λ g. rw (g, word_of) (skip_fits _ (syllables_fit (is "-" (first w)) (is "-" (last w)) (words (separator (is "-")) w) (words_bytes (separator (is "-")) w h))))))))

all_words_fit : (ws : List (List ℕ)) → All Bytes ws → All WordFits (words_of ws)
unfolding words_of
all_words_fit [] h = tt
all_words_fit (w ∷ ws) h = All-append WordFits (word_of w) (words_of ws) (word_fits w h.0) (all_words_fit ws h.1)

lyric_fits : (t : List ℕ) → Bytes t → All WordFits (lyric_words t)
unfolding lyric_words
lyric_fits t h = all_words_fit (words white_at t) (words_bytes white_at t h)

-- SUNG
put_fits : (x : Syllable) → SyllableFits x → (ys : List Syllable) → All SyllableFits ys → All SyllableFits (put x ys)
unfolding put
put_fits x f [] h = (f, tt)
put_fits x f (y ∷ ys) h =
    by_test (ltb y.verse x.verse) (λ e. rw (e, put) (h.0, put_fits x f ys h.1))
    (λ e. rw (e, put) (by_test (eqb y.verse x.verse) (λ g. rw (g, put) (f, h.1)) (λ g. rw (g, put) (f, (h.0, h.1)))))

held_fits : (v : ℕ) (ys : List Syllable) → All SyllableFits ys → All SyllableFits (map (held v) ys)
unfolding held
held_fits v [] h = tt
held_fits v (y ∷ ys) h =
    by_test (eqb y.verse v) (λ e. rw e (record { verse_fits = h.0.verse_fits; text_fits = h.0.text_fits }, held_fits v ys h.1))
    (λ e. rw e (h.0, held_fits v ys h.1))

sing_fits : (start v i : ℕ) (ws : List Word) (notes : List (List Syllable)) → VerseFits v → All WordFits ws → All (All SyllableFits) notes → All (All SyllableFits) (sing start v i ws notes)
unfolding sing WordFits
sing_fits start v i [] notes l f h = h
sing_fits start v i (bar ∷ ws) notes l f h = sing_fits start v i ws notes l f.1 h
sing_fits start v i (skip ∷ ws) notes l f h = sing_fits start v (suc i) ws notes l f.1 h
sing_fits start v zero (hold ∷ ws) notes l f h = sing_fits start v 1 ws notes l f.1 h
sing_fits start v (suc i) (hold ∷ ws) notes l f h =
    sing_fits start v (suc (suc i)) ws (alter_at (start + i) (map (held v)) notes) l f.1 (All-alter_at (All SyllableFits) (start + i) (map (held v)) (held_fits v) notes h)
sing_fits start v i (syllable c t ∷ ws) notes l f h =
    let y : Syllable = record { verse = v; syllabic = c; extend = false; text = t } in
    sing_fits start v (suc i) ws (alter_at (start + i) (put y) notes) l f.1
    (All-alter_at (All SyllableFits) (start + i) (put y) (put_fits y (record { verse_fits = l; text_fits = f.0 })) notes h)

sung_fits : (ls : List Sung) (notes : List (List Syllable)) → All SungFits ls → All (All SyllableFits) notes → All (All SyllableFits) (sung_by ls notes)
unfolding sung_by
sung_fits [] notes f h = h
sung_fits (l ∷ ls) notes f h = sung_fits ls _ f.1 (sing_fits l.start l.verse 0 (lyric_words l.text) notes f.0.verse_fits (lyric_fits l.text f.0.text_fits) h)

-- in the second edition
held_at_fits : (v : ℕ) (b : Option ℕ) (notes : List (List Syllable)) → All (All SyllableFits) notes → All (All SyllableFits) (held_at v b notes)
unfolding held_at
held_at_fits v none notes h = h
held_at_fits v (some i) notes h = All-alter_at (All SyllableFits) i (map (held v)) (held_fits v) notes h

sung_at_fits : (v : ℕ) (c : Syllabic) (t : List ℕ) (i : ℕ) (notes : List (List Syllable)) → VerseFits v → Bytes t → All (All SyllableFits) notes → All (All SyllableFits) (sung_at v c t i notes)
unfolding sung_at
sung_at_fits v c t i notes l f h =
    let y : Syllable = record { verse = v; syllabic = c; extend = false; text = t } in
    All-alter_at (All SyllableFits) i (put y) (put_fits y (record { verse_fits = l; text_fits = f })) notes h

on_fits : (v : ℕ) (b : Option ℕ) (ws : List Word) (g : List ℕ) (bs : List SungBar) (notes : List (List Syllable)) → VerseFits v → All WordFits ws → All (All SyllableFits) notes
    → All (All SyllableFits) (sing_on v b ws g bs notes)
unfolding placed sung_each sung_word WordFits
on_fits v b [] g bs notes l f h = h
on_fits v b (bar ∷ ws) g [] notes l f h = h
on_fits v b (bar ∷ ws) g ((i, r) ∷ bs) notes l f h = on_fits v (last_or b g) ws (i ∷ r) bs notes l f.1 h
on_fits v b (skip ∷ ws) (i ∷ g) bs notes l f h = on_fits v (some i) ws g bs notes l f.1 h
on_fits v b (skip ∷ ws) [] ((i, r) ∷ bs) notes l f h = on_fits v (some i) ws r bs notes l f.1 h
on_fits v b (skip ∷ ws) [] [] notes l f h = on_fits v none ws [] [] notes l f.1 h
on_fits v b (hold ∷ ws) (i ∷ g) bs notes l f h = on_fits v (some i) ws g bs (held_at v b notes) l f.1 (held_at_fits v b notes h)
on_fits v b (hold ∷ ws) [] ((i, r) ∷ bs) notes l f h = on_fits v (some i) ws r bs (held_at v b notes) l f.1 (held_at_fits v b notes h)
on_fits v b (hold ∷ ws) [] [] notes l f h = on_fits v none ws [] [] (held_at v b notes) l f.1 (held_at_fits v b notes h)
on_fits v b (syllable c t ∷ ws) (i ∷ g) bs notes l f h = on_fits v (some i) ws g bs (sung_at v c t i notes) l f.1 (sung_at_fits v c t i notes l f.0 h)
on_fits v b (syllable c t ∷ ws) [] ((i, r) ∷ bs) notes l f h = on_fits v (some i) ws r bs (sung_at v c t i notes) l f.1 (sung_at_fits v c t i notes l f.0 h)
on_fits v b (syllable c t ∷ ws) [] [] notes l f h = on_fits v none ws [] [] notes l f.1 h

bars_fit : (v : ℕ) (ws : List Word) (bs : List SungBar) (notes : List (List Syllable)) → VerseFits v → All WordFits ws → All (All SyllableFits) notes → All (All SyllableFits) (sing_bars v ws bs notes)
unfolding sing_bars
bars_fit v ws [] notes l f h = h
bars_fit v ws ((i, r) ∷ bs) notes l f h = on_fits v none ws (i ∷ r) bs notes l f h

by_bars_fit : (ms : List (List ℕ)) (ls : List Sung) (notes : List (List Syllable)) → All SungFits ls → All (All SyllableFits) notes → All (All SyllableFits) (sung_by_bars ms ls notes)
unfolding sung_by_bars
by_bars_fit ms [] notes f h = h
by_bars_fit ms (l ∷ ls) notes f h =
    by_bars_fit ms ls _ f.1 (bars_fit l.verse (lyric_words l.text) (bars_from l.start ms) notes f.0.verse_fits (lyric_fits l.text f.0.text_fits) h)

sung_in_fits : (ed : Edition) (ms : List (List ℕ)) (ls : List Sung) (notes : List (List Syllable)) → All SungFits ls → All (All SyllableFits) notes → All (All SyllableFits) (sung_in ed ms ls notes)
unfolding sung_in
sung_in_fits First ms ls notes f h = sung_fits ls notes f h
sung_in_fits Second ms ls notes f h = by_bars_fit ms ls notes f h

none_fits : (n : ℕ) → All (All SyllableFits) (replicate n [])
none_fits zero = tt
none_fits (suc n) = (tt, none_fits n)

-- A FINISHED PART
pub part_fits : (ed : Edition) (header : Key) (is : List Item) → All ItemFits is → PartFits (build ed header is)
unfolding build finished
part_fits ed header is f =
    let s = foldl (on_item ed header) new_part is in
    let h : StateFits s = items_state ed header is new_part f new_part_fits in
    record { measures_fit = finished_fit ed header s h; voltas_fit = finished_voltas ed header s h; words_fit = sung_in_fits ed (takers_in 0 (finished_measures header s)) (reverse s.verses.lines) (replicate s.verses.sounded []) (All-reverse SungFits s.verses.lines h.lines_fit) (none_fits s.verses.sounded) }

-- an empty one
pub empty_fits : PartFits empty_part
unfolding empty_part closed close
empty_fits = record { measures_fit = tt; voltas_fit = record { before = []; opens = tt; same = refl }; words_fit = tt }
