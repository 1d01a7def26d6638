-- HOW THINGS ARE WRITTEN (ABC 2.1), where the definitions of this crate say only what they mean: fields (3.0), meters (3.1.6), unit lengths (3.1.7), note lengths (4.3), rests (4.5),
-- lists of passes (4.10), tuplets (4.13), chords (4.17), words of lyrics (5.1), voices (7.1). s is the text of one; what it says stands behind it.
use Rattle.std.specs.Prelude.{ℕ, ◌^◌, ◌<◌, ◌≤◌, ◌≡◌, Bool, true, false, not, ◌&&◌, ◌||◌, List, [], ◌∷◌, ◌++◌, leb, eqb, length, drop}
use Rattle.std.proofs.Math.Option.{Option, none, some}
use Rattle.laws.specs.Lists.{All, all, starts_with}
use Rattle.standard.specs.Bytes.{ascii, is, is_digit, is_capital, first, decimal}
use Rattle.standard.specs.Notes.{NoteKind, rest, invisible_rest, bar_rest, invisible_bar_rest}
use Rattle.standard.specs.Tuplets.{usual_normal}
use Rattle.standard.specs.Passes.{pass, passes, passes_of}
use Rattle.standard.specs.Lyrics.{Word, skip, hold, syllable, single, syllable_text, syllables}

-- a number in digits
pub record Number (s : List ℕ) (n : ℕ) : Type 0 where
  pub some_digit : 0 < length s
  pub all_digits : all is_digit s ≡ true
  pub says : decimal 0 s ≡ n

-- white space in a field: blanks and tabs (and, in a line, no line feed)
abbrev pub is_blank_byte : ℕ → Bool
is_blank_byte c = (leb 9 c && leb c 13) || eqb c 32

-- 3.0: a field begins with a letter and a colon
unfoldable pub is_field_line : List ℕ → Bool
is_field_line s = (is_capital (first s) || (leb 97 (first s) && leb (first s) 122)) && is ":" (first (drop 1 s))

-- 3.0: the header ends with the first K: line: whether it goes on behind these lines
unfoldable pub still_header : List (List ℕ) → Bool
still_header [] = true
still_header (l ∷ ls) = not (starts_with (ascii "K:") l) && still_header ls

-- 3.1.6: a meter, top and bottom
pub data MeterText (s : List ℕ) : ℕ → ℕ → Type 0 where
  common : s ≡ ascii "C" → MeterText s 4 4
  cut : s ≡ ascii "C|" → MeterText s 2 2
  over : {n m : ℕ} (d e : List ℕ) → s ≡ d ++ (47 ∷ e) → Number d n → Number e m → MeterText s n m

-- 3.1.7: the unit length 1/n
pub data UnitText (s : List ℕ) : ℕ → Type 0 where
  one_over : {n : ℕ} (d : List ℕ) → s ≡ ascii "1/" ++ d → Number d n → UnitText s n

-- 4.3: a note's length, n/m of the unit: a number multiplies, `/m` divides, `/` halves
pub data LengthText (s : List ℕ) : ℕ → ℕ → Type 0 where
  unit : s ≡ [] → LengthText s 1 1
  times : {n : ℕ} → Number s n → LengthText s n 1
  half : s ≡ ascii "/" → LengthText s 1 2
  part : {m : ℕ} (e : List ℕ) → s ≡ 47 ∷ e → Number e m → LengthText s 1 m
  times_half : {n : ℕ} (d : List ℕ) → s ≡ d ++ (47 ∷ []) → Number d n → LengthText s n 2
  times_part : {n m : ℕ} (d e : List ℕ) → s ≡ d ++ (47 ∷ e) → Number d n → Number e m → LengthText s n m

-- 4.3: slashes alone halve once each, so `//` quarters: n/m of the unit with two of them or more (e)
pub data HalvedText (s : List ℕ) : ℕ → ℕ → Type 0 where
  halved : all (is "/") s ≡ true → 2 ≤ length s → HalvedText s 1 (2 ^ length s)
  times_halved : {n : ℕ} (d e : List ℕ) → s ≡ d ++ e → Number d n → all (is "/") e ≡ true → 2 ≤ length e → HalvedText s n (2 ^ length e)

-- 4.5: the letters of the rests
unfoldable pub rest_of : ℕ → Option NoteKind
rest_of c = elim (is "z" c) [
  | true ↦ some rest
  | false ↦ elim (is "x" c) [
    | true ↦ some invisible_rest
    | false ↦ elim (is "Z" c) [ true ↦ some bar_rest | false ↦ elim (is "X" c) [ true ↦ some invisible_bar_rest | false ↦ none ] ]
  ]
]

-- 4.10: numbers and ranges with commas between, and their passes. Document 01: each above those before it (the last of which is `low`), up to 32, without a leading zero
unfoldable pub commaed : List (List ℕ) → List ℕ
commaed [] = []
commaed (x ∷ []) = x
commaed (x ∷ y ∷ xs) = x ++ (44 ∷ commaed (y ∷ xs))

pub data PassesText : ℕ → List (List ℕ) → List ℕ → Type 0 where
  ended : {low : ℕ} → PassesText low [] []
  number : {low n : ℕ} {xs : List (List ℕ)} {qs : List ℕ} (x : List ℕ) → Number x n → is "0" (first x) ≡ false → low < n → n ≤ 32 → PassesText n xs qs → PassesText low (x ∷ xs) (passes_of (pass n) ++ qs)
  range : {low n m : ℕ} {xs : List (List ℕ)} {qs : List ℕ} (x d e : List ℕ) → x ≡ d ++ (45 ∷ e) → Number d n → Number e m → is "0" (first d) ≡ false → is "0" (first e) ≡ false → low < n → n < m → m ≤ 32
      → PassesText m xs qs → PassesText low (x ∷ xs) (passes_of (passes n m) ++ qs)

-- 4.13: `(p`, `(p:q`, `(p:q:r`, behind the `(`: p notes in the time of q for the next r; the default of q for 2, 3 and 4, and r is p
pub data TupletText (s : List ℕ) : ℕ → ℕ → ℕ → Type 0 where
  actual : {a b : ℕ} → Number s a → usual_normal a ≡ some b → TupletText s a b a
  actual_normal : {a b : ℕ} (d e : List ℕ) → s ≡ d ++ (58 ∷ e) → Number d a → Number e b → TupletText s a b a
  actual_normal_count : {a b c : ℕ} (d e f : List ℕ) → s ≡ d ++ (58 ∷ (e ++ (58 ∷ f))) → Number d a → Number e b → Number f c → TupletText s a b c

-- 4.17: a chord behind its `[`: its notes, and the length behind the `]`
pub data ChordText (s : List ℕ) : List ℕ → List ℕ → Type 0 where
  chord : (notes length : List ℕ) → all (λ c. not (is "]" c)) notes ≡ true → s ≡ notes ++ (93 ∷ length) → ChordText s notes length

-- 5.1: the pieces of a word, with one hyphen between each two; a piece is not empty and has no hyphen
unfoldable pub hyphened : List (List ℕ) → List ℕ
hyphened [] = []
hyphened (p ∷ []) = p
hyphened (p ∷ q ∷ ps) = p ++ (45 ∷ hyphened (q ∷ ps))

abbrev pub Piece : List ℕ → Type 0
Piece p = (0 < length p) × (all (λ x. not (is "-" x)) p ≡ true)

-- 5.1: a word of a lyric line, which white space parts from others: `*` skips a note, `_` holds the syllable before it, a hyphen between two letters divides
pub data WordText (s : List ℕ) : List Word → Type 0 where
  star : s ≡ ascii "*" → WordText s (skip ∷ [])
  held : s ≡ ascii "_" → WordText s (hold ∷ [])
  plain : (c : ℕ) (w : List ℕ) → s ≡ c ∷ w → all (λ x. not (is "-" x || is "|" x || is "*" x || is "_" x)) s ≡ true → WordText s (syllable single (syllable_text s) ∷ [])
  divided : (p q : List ℕ) (ps : List (List ℕ)) → s ≡ hyphened (p ∷ q ∷ ps) → All Piece (p ∷ q ∷ ps) → WordText s (syllables false false (p ∷ q ∷ ps))

-- 7.1: a voice's identifier, alone or before white space and properties
pub data VoiceText (s : List ℕ) : List ℕ → Type 0 where
  alone : (c : ℕ) (w : List ℕ) → s ≡ c ∷ w → all (λ b. not (is_blank_byte b)) (c ∷ w) ≡ true → VoiceText s (c ∷ w)
  then : (c : ℕ) (w : List ℕ) (x : ℕ) (t : List ℕ) → s ≡ (c ∷ w) ++ (x ∷ t) → all (λ b. not (is_blank_byte b)) (c ∷ w) ≡ true → is_blank_byte x ≡ true → VoiceText s (c ∷ w)
