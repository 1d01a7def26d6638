-- The bytes of a part's lyric lines cover its syllables and their text.
use Prim.Native.Nat.{ℕ, zero, suc, ◌+◌, ◌-◌, ◌*◌, ◌≤◌, zero-le}
use mathlib.Core.Path.{◌≡◌, refl, ap, ◌∙◌}
use mathlib.Core.Bool.{Bool, true, false, cond, not, ◌&&◌, false≢true}
use mathlib.Core.List.{List, [], ◌∷◌, map, reverse}
use mathlib.Core.Option.{Option, some, none}
use native.Mathlib.Nat.{mul-add, mul-suc}
use native.Mathlib.Omega.{arith}
use lib.Dec.{ltb, eqb}
use lib.ListN.{length, replicate, length-map}
use Rattle.laws.specs.Lists.{foldl, sum, is_nil, eq_text, All, alter_at}
use Rattle.laws.proofs.Bools.{by_test}
use Rattle.laws.proofs.Lists.{sum_append, sum_map, sum_filter, filter_passes, sum_alter, sum_reverse}
use Rattle.laws.proofs.Numbers.{mul_le_right, mul_le_left}
use Rattle.editions.specs.declared.Edition.{Edition}
use Rattle.reader.proofs.PartLaws.{counted_lines}
use Rattle.standard.specs.Bytes.{ascii, is, first, last}
use Rattle.standard.specs.Keys.{Key}
use Rattle.standard.specs.Notes.{is_sounded}
use Rattle.standard.specs.Lyrics.{Word, skip, hold, syllable, syllable_text, syllables, Syllabic, bar, SungBar, last_or, placed}
use Rattle.editions.specs.declared.Edition.TheVariants.{First, Second}
use Rattle.reader.specs.Text.{push}
use Rattle.reader.specs.Pieces.{pieces, words, separator, white_at}
use Rattle.reader.specs.Token.{Token, space, overlay, quoted, broken, tuplet, slur, grace_open, grace_close, decoration, barline, volta, unit, meter, key, field, chord, rest, note, nothing, skipped, refused}
use Rattle.reader.specs.Tokens.{tokens}
use Rattle.reader.specs.Scan.{Item, voice_declared, reset, key_in_header, key_change, meter_change, lyric_line, music_line}
use Rattle.reader.specs.State.{PartState, Note, Measure, Sung, Verses, voice_now, set_voice, on_open, new_part}
use Rattle.reader.specs.Lyrics.{Syllable, or_skip, word_of, words_of, lyric_words, put, held, sing, sung_by, held_at, sung_at, sing_on, sing_bars, sung_by_bars, sung_in, bars_from, sung_word, sung_each}
use Rattle.reader.specs.Part.{on_broken, on_nothing, counted_in, append, on_sound, on_barline, hears, on_token, line_begins, on_line, on_lyric, on_key, on_item, finished, build, takers_in, finished_measures}
use Rattle.reader.specs.Records.{is_sung, lyrics_of}
use Rattle.bounds.specs.Weights.{Weights, Covered, syllable_weight, words_weight, lyric_bytes}

-- PIECES: together no longer than the text
push_length : (c : ℕ) (ps : List (List ℕ)) → sum length (push c ps) ≡ suc (sum length ps)
push_length c [] = refl
push_length c (p ∷ ps) = omega arith

module _ (w : List ℕ → ℕ) where
  -- by what the mark at the front takes
  pub pieces_length : (k : ℕ) (s : List ℕ) → sum length (pieces w k s) ≤ length s
  unfolding pieces
  pieces_length k [] = zero-le
  pieces_length zero (c ∷ s) = at (w (c ∷ s)) refl (pieces_length zero s) (λ n. pieces_length n s)
    where
      at : (n : ℕ) → w (c ∷ s) ≡ n → sum length (pieces w zero s) ≤ length s → ((n : ℕ) → sum length (pieces w n s) ≤ length s) → sum length (pieces w zero (c ∷ s)) ≤ suc (length s)
      at zero e h g = rw (e, pieces) (omega (arith, push_length c (pieces w zero s)))
      at (suc n) e h g = rw (e, pieces) (omega (arith, g n))
  pieces_length (suc k) (c ∷ s) = omega (arith, pieces_length k s)

  -- words too
  pub words_length : (s : List ℕ) → sum length (words w s) ≤ length s
  unfolding words
  words_length s = omega (arith, sum_filter (λ p. not (is_nil p)) length (pieces w 0 s), pieces_length 0 s)

  -- none is empty
  pub words_some : (s : List ℕ) → All (λ p. not (is_nil p) ≡ true) (words w s)
  unfolding words
  words_some s = filter_passes (λ p. not (is_nil p)) (pieces w 0 s)

module _ (p : Weights) where
  -- A WORD of a lyric line
  unfoldable pub word_weight : Word → ℕ
  word_weight skip = 0
  word_weight hold = 0
  word_weight bar = 0
  word_weight (syllable c t) = p.syllable + p.text * length t

  module _ (enough : Covered p) where
    -- a syllable of a byte at least
    syllable_covered : (x : List ℕ) → not (is_nil x) ≡ true → p.syllable + p.text * length (syllable_text x) ≤ p.byte * length x
    unfolding syllable_text
    syllable_covered [] e = absurd (false≢true e)
    syllable_covered (c ∷ x) e =
        let n = length x in
        let s : suc n ≡ 1 + n = omega arith in
        rw (length-map {B = ℕ} x (λ c. cond (is "~" c) 32 c))
        (omega (arith, mul-suc p.text n, mul-suc p.byte n, mul_le_left p.text p.byte n (omega (arith, enough.syllables)), enough.syllables))

    -- the syllables of a word
    syllables_covered : (b a : Bool) (ps : List (List ℕ)) → All (λ x. not (is_nil x) ≡ true) ps → sum word_weight (syllables b a ps) ≤ p.byte * sum length ps
    unfolding syllables word_weight
    syllables_covered b a [] h = zero-le
    syllables_covered b a (x ∷ []) h = omega (arith, syllable_covered x h.0, mul-add p.byte (length x) 0)
    syllables_covered b a (x ∷ y ∷ ps) h = omega (arith, syllable_covered x h.0, syllables_covered true a (y ∷ ps) h.1, mul-add p.byte (length x) (sum length (y ∷ ps)))

    -- a skip adds nothing
    skip_covered : (ws : List Word) → sum word_weight (or_skip ws) ≡ sum word_weight ws
    unfolding or_skip word_weight
    skip_covered [] = refl
    skip_covered (w ∷ ws) = refl

    -- a word
    word_covered : (w : List ℕ) → sum word_weight (word_of w) ≤ p.byte * length w
    unfolding word_of word_weight
    word_covered w =
        by_test (eq_text w (ascii "|")) (λ e. rw (e, word_of) zero-le)
        (λ e. rw (e, word_of)
        (by_test (eq_text w (ascii "*")) (λ f. rw (f, word_of) zero-le)
        (λ f. rw (f, word_of)
        (by_test (eq_text w (ascii "_")) (λ g. rw (g, word_of) zero-le)
        (λ g. rw (g, word_of)
        (let ps = words (separator (is "-")) w in
        let ws = syllables (is "-" (first w)) (is "-" (last w)) ps in
        omega (arith, skip_covered ws, syllables_covered (is "-" (first w)) (is "-" (last w)) ps (words_some (separator (is "-")) w), mul_le_right p.byte (sum length ps) (length w) (words_length (separator (is "-")) w))))))))

    -- all words
    all_covered : (ws : List (List ℕ)) → sum word_weight (words_of ws) ≤ p.byte * sum length ws
    unfolding words_of
    all_covered [] = zero-le
    all_covered (w ∷ ws) = omega (arith, sum_append word_weight (word_of w) (words_of ws), word_covered w, all_covered ws, mul-add p.byte (length w) (sum length ws))

    -- A LYRIC LINE: its bytes cover its words
    pub lyric_covered : (t : List ℕ) → sum word_weight (lyric_words t) ≤ p.byte * length t
    unfolding lyric_words
    lyric_covered t = omega (arith, all_covered (words white_at t), mul_le_right p.byte (sum length (words white_at t)) (length t) (words_length white_at t))

  -- SUNG: a syllable goes to one note at most
  put_weight : (x : Syllable) (ys : List Syllable) → sum (syllable_weight p) (put x ys) ≤ sum (syllable_weight p) ys + syllable_weight p x
  unfolding put
  put_weight x [] = omega arith
  put_weight x (y ∷ ys) =
      by_test (ltb y.verse x.verse) (λ e. rw (e, put) (omega (arith, put_weight x ys)))
      (λ e. rw (e, put) (by_test (eqb y.verse x.verse) (λ f. rw (f, put) (omega arith)) (λ f. rw (f, put) (omega arith))))

  -- a hold adds nothing
  held_weight : (v : ℕ) (ys : List Syllable) → sum (syllable_weight p) (map (held v) ys) ≤ sum (syllable_weight p) ys + 0
  unfolding held syllable_weight
  held_weight v [] = zero-le
  held_weight v (y ∷ ys) = by_test (eqb y.verse v) (λ e. rw (e, held) (omega (arith, held_weight v ys))) (λ e. rw (e, held) (omega (arith, held_weight v ys)))

  -- the words of a line add what they weigh
  sing_weight : (start v i : ℕ) (ws : List Word) (notes : List (List Syllable)) → words_weight p (sing start v i ws notes) ≤ words_weight p notes + sum word_weight ws
  unfolding sing word_weight syllable_weight
  sing_weight start v i [] notes = omega arith
  sing_weight start v i (bar ∷ ws) notes = omega (arith, sing_weight start v i ws notes)
  sing_weight start v i (skip ∷ ws) notes = omega (arith, sing_weight start v (suc i) ws notes)
  sing_weight start v zero (hold ∷ ws) notes = omega (arith, sing_weight start v 1 ws notes)
  sing_weight start v (suc i) (hold ∷ ws) notes =
      let m = alter_at (start + i) (map (held v)) notes in
      omega (arith, sing_weight start v (suc (suc i)) ws m, sum_alter (sum (syllable_weight p)) (start + i) (map (held v)) 0 (held_weight v) notes)
  sing_weight start v i (syllable c t ∷ ws) notes =
      let y : Syllable = record { verse = v; syllabic = c; extend = false; text = t } in
      let m = alter_at (start + i) (put y) notes in
      omega (arith, sing_weight start v (suc i) ws m, sum_alter (sum (syllable_weight p)) (start + i) (put y) (syllable_weight p y) (put_weight y) notes)

  -- in the second edition
  held_at_weight : (v : ℕ) (b : Option ℕ) (notes : List (List Syllable)) → words_weight p (held_at v b notes) ≤ words_weight p notes
  unfolding held_at
  held_at_weight v none notes = omega arith
  held_at_weight v (some i) notes = omega (arith, sum_alter (sum (syllable_weight p)) i (map (held v)) 0 (held_weight v) notes)

  sung_at_weight : (v : ℕ) (c : Syllabic) (t : List ℕ) (i : ℕ) (notes : List (List Syllable)) → words_weight p (sung_at v c t i notes) ≤ words_weight p notes + (p.syllable + p.text * length t)
  unfolding sung_at syllable_weight
  sung_at_weight v c t i notes =
      let y : Syllable = record { verse = v; syllabic = c; extend = false; text = t } in
      sum_alter (sum (syllable_weight p)) i (put y) (syllable_weight p y) (put_weight y) notes

  on_weight : (v : ℕ) (b : Option ℕ) (ws : List Word) (g : List ℕ) (bs : List SungBar) (notes : List (List Syllable)) → words_weight p (sing_on v b ws g bs notes) ≤ words_weight p notes + sum word_weight ws
  unfolding placed sung_each sung_word word_weight
  on_weight v b [] g bs notes = omega arith
  on_weight v b (bar ∷ ws) g [] notes = omega arith
  on_weight v b (bar ∷ ws) g ((i, h) ∷ bs) notes = omega (arith, on_weight v (last_or b g) ws (i ∷ h) bs notes)
  on_weight v b (skip ∷ ws) (i ∷ g) bs notes = omega (arith, on_weight v (some i) ws g bs notes)
  on_weight v b (skip ∷ ws) [] ((i, h) ∷ bs) notes = omega (arith, on_weight v (some i) ws h bs notes)
  on_weight v b (skip ∷ ws) [] [] notes = omega (arith, on_weight v none ws [] [] notes)
  on_weight v b (hold ∷ ws) (i ∷ g) bs notes = omega (arith, on_weight v (some i) ws g bs (held_at v b notes), held_at_weight v b notes)
  on_weight v b (hold ∷ ws) [] ((i, h) ∷ bs) notes = omega (arith, on_weight v (some i) ws h bs (held_at v b notes), held_at_weight v b notes)
  on_weight v b (hold ∷ ws) [] [] notes = omega (arith, on_weight v none ws [] [] (held_at v b notes), held_at_weight v b notes)
  on_weight v b (syllable c t ∷ ws) (i ∷ g) bs notes = omega (arith, on_weight v (some i) ws g bs (sung_at v c t i notes), sung_at_weight v c t i notes)
  on_weight v b (syllable c t ∷ ws) [] ((i, h) ∷ bs) notes = omega (arith, on_weight v (some i) ws h bs (sung_at v c t i notes), sung_at_weight v c t i notes)
  on_weight v b (syllable c t ∷ ws) [] [] notes = omega (arith, on_weight v none ws [] [] notes)

  bars_weight : (v : ℕ) (ws : List Word) (bs : List SungBar) (notes : List (List Syllable)) → words_weight p (sing_bars v ws bs notes) ≤ words_weight p notes + sum word_weight ws
  unfolding sing_bars
  bars_weight v ws [] notes = omega arith
  bars_weight v ws ((i, h) ∷ bs) notes = on_weight v none ws (i ∷ h) bs notes

  -- all lyric lines
  abbrev sung_bytes : List Sung → ℕ
  sung_bytes ls = sum (λ (l : Sung). length l.text) ls

  -- all lyric lines
  sung_weight : Covered p → (ls : List Sung) (notes : List (List Syllable)) → words_weight p (sung_by ls notes) ≤ words_weight p notes + p.byte * sung_bytes ls
  unfolding sung_by
  sung_weight enough [] notes = omega arith
  sung_weight enough (l ∷ ls) notes =
      let m = sing l.start l.verse 0 (lyric_words l.text) notes in
      omega (arith, sung_weight enough ls m, sing_weight l.start l.verse 0 (lyric_words l.text) notes, lyric_covered enough l.text, mul-add p.byte (length l.text) (sung_bytes ls))

  by_bars_weight : Covered p → (ms : List (List ℕ)) (ls : List Sung) (notes : List (List Syllable)) → words_weight p (sung_by_bars ms ls notes) ≤ words_weight p notes + p.byte * sung_bytes ls
  unfolding sung_by_bars
  by_bars_weight enough ms [] notes = omega arith
  by_bars_weight enough ms (l ∷ ls) notes =
      let bs = bars_from l.start ms in
      let m = sing_bars l.verse (lyric_words l.text) bs notes in
      omega (arith, by_bars_weight enough ms ls m, bars_weight l.verse (lyric_words l.text) bs notes, lyric_covered enough l.text, mul-add p.byte (length l.text) (sung_bytes ls))

  sung_in_weight : Covered p → (e : Edition) (ms : List (List ℕ)) (ls : List Sung) (notes : List (List Syllable)) → words_weight p (sung_in e ms ls notes) ≤ words_weight p notes + p.byte * sung_bytes ls
  unfolding sung_in
  sung_in_weight enough First ms ls notes = sung_weight enough ls notes
  sung_in_weight enough Second ms ls notes = by_bars_weight enough ms ls notes

  -- notes without syllables
  none_weight : (n : ℕ) → words_weight p (replicate n []) ≡ 0
  none_weight zero = refl
  none_weight (suc n) = omega (arith, none_weight n)

-- THE LYRIC LINES OF A PART are those of its items
broken_lines : (up : Bool) (n : ℕ) (v : List Note) (s : PartState) → (on_broken up n v s).verses.lines ≡ s.verses.lines
unfolding on_broken set_voice on_open
broken_lines up n [] s = refl
broken_lines up n (x ∷ xs) s = refl

nothing_lines : (v : List Note) (s : PartState) → (on_nothing v s).verses.lines ≡ s.verses.lines
unfolding on_nothing set_voice on_open
nothing_lines [] s = refl
nothing_lines (x ∷ xs) s = refl

append_lines : (n : Note) (s : PartState) → (append n s).verses.lines ≡ s.verses.lines
unfolding append set_voice on_open
append_lines n s = counted_lines _ _ s.verses

-- no token changes them
pub token_lines : (s : PartState) (t : Token) → (on_token s t).verses.lines ≡ s.verses.lines
unfolding on_token on_barline hears on_sound on_open
token_lines s space = refl
token_lines s overlay = refl
token_lines s quoted = refl
token_lines s (broken up n) = broken_lines up n (voice_now s) s
token_lines s (tuplet t) = refl
token_lines s slur = refl
token_lines s grace_open = refl
token_lines s grace_close = refl
token_lines s decoration = refl
token_lines s (barline b o) = refl
token_lines s (volta ps) = refl
token_lines s (unit u) = refl
token_lines s (meter t) = refl
token_lines s (key k) = refl
token_lines s field = refl
token_lines s (chord ws l b) = append_lines _ _
token_lines s (rest k l) = append_lines _ s
token_lines s (note w l b) = append_lines _ _
token_lines s nothing = nothing_lines (voice_now s) s
token_lines s skipped = refl
token_lines s (refused n) = refl

tokens_lines : (ts : List Token) (s : PartState) → (foldl on_token s ts).verses.lines ≡ s.verses.lines
tokens_lines [] s = refl
tokens_lines (t ∷ ts) s = tokens_lines ts (on_token s t) ∙ token_lines s t

key_lines : (header k : Key) (ms : List Measure) (s : PartState) → (on_key header k ms s).verses.lines ≡ s.verses.lines
unfolding on_key hears on_open
key_lines header k [] s = refl
key_lines header k (m ∷ ms) s = refl

abbrev lines_bytes : PartState → ℕ
lines_bytes s = sum (λ (l : Sung). length l.text) s.verses.lines

same_bytes : (s t : PartState) → t.verses.lines ≡ s.verses.lines → lines_bytes t ≡ lines_bytes s
same_bytes s t e = ap (λ (ls : List Sung). sum (λ (l : Sung). length l.text) ls) e

-- each item adds its own
item_lines : (ed : Edition) (header : Key) (s : PartState) (i : Item) → lines_bytes (on_item ed header s i) ≡ lines_bytes s + lyric_bytes i
unfolding on_item on_lyric on_line on_open line_begins lyric_bytes
item_lines ed header s (voice_declared b) = omega arith
item_lines ed header s reset = omega arith
item_lines ed header s key_in_header = omega arith
item_lines ed header s (key_change k) = omega (arith, same_bytes s (on_key header k s.measures s) (key_lines header k s.measures s))
item_lines ed header s (meter_change t) = omega arith
item_lines ed header s (lyric_line b t) = omega arith
item_lines ed header s (music_line u t l) = omega (arith, same_bytes s (foldl on_token (line_begins u t s) (tokens ed 0 l)) (tokens_lines (tokens ed 0 l) (line_begins u t s)))

items_lines : (ed : Edition) (header : Key) (is : List Item) (s : PartState) → lines_bytes (foldl (on_item ed header) s is) ≡ lines_bytes s + sum lyric_bytes is
items_lines ed header [] s = omega arith
items_lines ed header (i ∷ is) s = omega (arith, items_lines ed header is (on_item ed header s i), item_lines ed header s i)

module _ (ed : Edition) (p : Weights) where
  -- THE SYLLABLES OF A FINISHED PART are covered by its lyric lines' bytes
  pub words_weight_lem : Covered p → (header : Key) (is : List Item) → words_weight p (build ed header is).words ≤ p.byte * sum lyric_bytes is
  unfolding build finished new_part
  words_weight_lem enough header is =
      let s = foldl (on_item ed header) new_part is in
      let e : lines_bytes s ≡ sum lyric_bytes is = omega (arith, items_lines ed header is new_part) in
      let r : sung_bytes p (reverse s.verses.lines) ≡ lines_bytes s = sum_reverse (λ (l : Sung). length l.text) s.verses.lines in
      let n : List (List Syllable) = replicate s.verses.sounded [] in
      omega (arith, sung_in_weight p enough ed (takers_in 0 (finished_measures header s)) (reverse s.verses.lines) n, none_weight p s.verses.sounded, ap (λ (x : ℕ). p.byte * x) (r ∙ e))

  -- they are written with the notes that sing them, no more of them than there are
  pub lyrics_weight : (i : ℕ) (xs : List (ℕ × Note)) (ws : List (List Syllable)) → sum (λ (x : ℕ × Syllable). syllable_weight p x.1) (lyrics_of i xs ws) ≤ words_weight p ws
  unfolding lyrics_of
  lyrics_weight i [] ws = zero-le
  lyrics_weight i (x ∷ xs) [] = zero-le
  lyrics_weight i (x ∷ xs) (w ∷ ws) =
      by_test (is_sung x)
      (λ e. rw (e, lyrics_of)
      (omega (arith, sum_append (λ (x : ℕ × Syllable). syllable_weight p x.1) (map (λ y. (i, y)) w) (lyrics_of (suc i) xs ws), sum_map (λ (y : Syllable). (i, y)) (λ (x : ℕ × Syllable). syllable_weight p x.1) w, lyrics_weight (suc i) xs ws)))
      (λ e. rw (e, lyrics_of) (lyrics_weight (suc i) xs (w ∷ ws)))
