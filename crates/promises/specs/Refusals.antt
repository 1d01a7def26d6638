-- EACH REFUSAL UNDER ITS CONDITION (document 01, "Who can be refused", and document 02, T-01, T-03 and T-04): the twenty conditions by their numbers, and the order in which they are met.
use Rattle.std.specs.Prelude.{ℕ, suc, ◌+◌, ◌≤◌, ◌<◌, max, ◌≡◌, Bool, true, false, not, ◌&&◌, ◌||◌, List, ◌∷◌, ◌++◌, map, length, take, drop}
use Rattle.std.proofs.Math.Option.{Option, none, some}
use Rattle.laws.specs.Lists.{elem, is_nil, all, any, sum, count_while, starts_with}
use Rattle.standard.specs.Bytes.{ascii, is, is_digit, first}
use Rattle.standard.specs.Pitches.{Written, is_letter}
use Rattle.standard.specs.Notes.{NoteKind}
use Rattle.editions.specs.declared.Edition.{Edition}
use Rattle.editions.specs.declared.Edition.TheVariants.{First, Second}
use Rattle.reader.specs.Text.{is_utf8, is_blank, text_lines, clean, has_high}
use Rattle.reader.specs.Pieces.{pieces, separator, field_words}
use Rattle.reader.specs.Keys.{is_key_word, is_beyond, key_of}
use Rattle.reader.specs.Fields.{identifier, middle_word}
use Rattle.reader.specs.Lengths.{many_slashes}
use Rattle.reader.specs.Pitches.{octave_of, accidental_of, chord_of}
use Rattle.standard.specs.Passes.{Item}
use Rattle.reader.specs.PassLists.{list_items, numbers_in, is_pass, rise, is_pass_byte}
use Rattle.reader.specs.Inline.{is_inline}
use Rattle.reader.specs.Token.{Token}
use Rattle.reader.specs.Tokens.{counts, effect_of, more, less, bracket, pitched, resting, class_of, token_of, tokens}
use Rattle.reader.specs.Lines.{is_v, is_k, is_l, is_m, is_x, is_lyric, is_field}
use Rattle.reader.specs.Steps.{TextLine, on, run, items_of}
use Rattle.reader.specs.Scan.{Items, ScanState, begin, most_lines, most_voices, most_notes, note_count, voices_before, first_refusal, step, scan}
use Rattle.reader.specs.Part.{Part}
use Rattle.reader.specs.Answer.{most_bytes, scratch_needed, parts, encode, measure_count}

-- THE PARTS that a scan leads to: one for each voice, one at least
abbrev pub parts_after : Edition → ScanState → Items → List Part
parts_after ed t a = parts ed t.env (λ p. items_of p a) (max 1 (length t.env.voices)) 0

-- IN A K FIELD, on its line or inline; v is its value
-- "21 a key beyond seven sharps or flats, in the second edition"
abbrev pub beyond_seven : Edition → List ℕ → Bool
beyond_seven First v = false
beyond_seven Second v = is_beyond (key_of Second v)

-- a `middle=` word
abbrev pub is_middle : List ℕ → Bool
is_middle w = starts_with (ascii "middle=") w

-- "as met in the line": by the words of v from left to right, ws before w and us behind it
pub data KeyMeets (ed : Edition) (v : List ℕ) : ℕ → Type 0 where
  -- "10 a `middle=` word in a K or V field", no word of a key beyond seven before it
  middle : (ws : List (List ℕ)) (w : List ℕ) (us : List (List ℕ)) → field_words v ≡ ws ++ (w ∷ us) → is_middle w ≡ true → (beyond_seven ed v && any is_key_word ws) ≡ false → KeyMeets ed v 10
  -- "21 a key beyond seven sharps or flats, in the second edition", at a word of the key text, no `middle=` word before it
  beyond : (ws : List (List ℕ)) (w : List ℕ) (us : List (List ℕ)) → field_words v ≡ ws ++ (w ∷ us) → is_key_word w ≡ true → beyond_seven ed v ≡ true → any is_middle ws ≡ false → KeyMeets ed v 21

-- IN A MUSIC LINE: s is what stands from a token's first byte on
-- what a bracket holds, up to the next `]`; s stands behind the `[`
abbrev pub bracketed : List ℕ → List ℕ
bracketed s = take (count_while (λ c. not (is "]" c)) s) s

-- what stands behind that `]`
abbrev pub after_bracket : List ℕ → List ℕ
after_bracket s = drop (suc (count_while (λ c. not (is "]" c)) s)) s

-- the digits, commas and hyphens at the front
abbrev pub pass_text : List ℕ → List ℕ
pass_text s = take (count_while is_pass_byte s) s

-- the items of that run, cut at its commas, if all of them are well shaped
abbrev pub pass_items : List ℕ → Option (List Item)
pass_items s = list_items (pieces (separator (is ",")) 0 (pass_text s))

pub data TokenMeets (ed : Edition) (s : List ℕ) : ℕ → Type 0 where
  -- 10 and 21 "also inline K"
  key_inline : {n : ℕ} → class_of (first s) ≡ bracket → is_inline (drop 1 s) ≡ true → is_k (bracketed (drop 1 s)) ≡ true → KeyMeets ed (drop 2 (bracketed (drop 1 s))) n → TokenMeets ed s n
  -- "12 octave marks that leave −128 to 127": of a note c behind its accidental; of a note in a chord (`chord_out` in proofs/Refusals)
  octave_note : (c : ℕ) (t : List ℕ) → class_of (first s) ≡ pitched → drop (accidental_of s).used s ≡ c ∷ t → is_letter c ≡ true → (octave_of c t).fine ≡ false → TokenMeets ed s 12
  octave_chord : class_of (first s) ≡ bracket → is_digit (first (drop 1 s)) ≡ false → is_inline (drop 1 s) ≡ false → chord_of 0 none (drop 1 s) ≡ none → TokenMeets ed s 12
  -- "13 more than 255 equal `>` or `<` together"
  many_more : class_of (first s) ≡ more → 255 < suc (count_while (is ">") (drop 1 s)) → TokenMeets ed s 13
  many_less : class_of (first s) ≡ less → 255 < suc (count_while (is "<") (drop 1 s)) → TokenMeets ed s 13
  -- "14 `[` and a digit whose run of digits, commas and hyphens is no pass list", by its shape: "a leading zero included, keeps 14; a 0 by itself is well shaped"
  list_shape : class_of (first s) ≡ bracket → is_digit (first (drop 1 s)) ≡ true → pass_items (drop 1 s) ≡ none → TokenMeets ed s 14
  -- "17 out of 1 to 32": a well-shaped list with a number 0 or above 32
  list_range : (is : List Item) → class_of (first s) ≡ bracket → is_digit (first (drop 1 s)) ≡ true → pass_items (drop 1 s) ≡ some is → all is_pass (numbers_in is) ≡ false → TokenMeets ed s 17
  -- "18 not rising": a well-shaped list of numbers from 1 to 32 that do not rise
  list_rise : (is : List Item) → class_of (first s) ≡ bracket → is_digit (first (drop 1 s)) ≡ true → pass_items (drop 1 s) ≡ some is → all is_pass (numbers_in is) ≡ true → rise (numbers_in is) ≡ false → TokenMeets ed s 18
  -- "22 a 32nd slash that would halve", where the length begins: behind a note c and its octave marks (12 is met before it); behind the `]` of a chord, be it empty; behind a rest of any kind
  slashes_note : (c : ℕ) (t : List ℕ) → class_of (first s) ≡ pitched → drop (accidental_of s).used s ≡ c ∷ t → is_letter c ≡ true → (octave_of c t).fine ≡ true → many_slashes ed (drop (octave_of c t).used t) ≡ true → TokenMeets ed s 22
  slashes_chord : (ws : List Written) → class_of (first s) ≡ bracket → is_digit (first (drop 1 s)) ≡ false → is_inline (drop 1 s) ≡ false → chord_of 0 none (drop 1 s) ≡ some ws → many_slashes ed (after_bracket (drop 1 s)) ≡ true → TokenMeets ed s 22
  slashes_rest : (k : NoteKind) → class_of (first s) ≡ resting k → many_slashes ed (drop 1 s) ≡ true → TokenMeets ed s 22

-- where a token begins, with m notes before it
pub data Here (ed : Edition) (m : ℕ) (s : List ℕ) : ℕ → Type 0 where
  token : {n : ℕ} → TokenMeets ed s n → Here ed m s n
  -- "11 the 100,001st note, rest or non-empty chord"
  note : effect_of (token_of ed s).token ≡ counts → most_notes ≤ m → Here ed m s 11

-- "as met from left to right": the first place of the line l, which m notes come before, where something is refused; nothing before it is
pub record InMusic (ed : Edition) (m : ℕ) (l : List ℕ) (n : ℕ) : Type 0 where
  pub place : ℕ
  pub before : List Token
  pub are : tokens ed 0 l ≡ before ++ tokens ed 0 (drop place l)
  pub inside : place < length l
  pub fine : first_refusal m (map effect_of before) ≡ none
  pub here : Here ed (m + note_count (map effect_of before)) (drop place l) n

-- "a music line after the first K line": no lyric line and no field
abbrev pub MusicLine : ScanState → List ℕ → Type 0
MusicLine s l = (s.env.in_header ≡ false) × ((is_lyric l ≡ false) × (is_field l ≡ false))

-- OF A LINE l (cut and trimmed) that the state s meets
pub data Why (ed : Edition) (s : ScanState) (l : List ℕ) : ℕ → Type 0 where
  -- "4 a line after the 10,000th"
  many_lines : most_lines ≤ s.lines → Why ed s l 4
  -- "5 a line over 1,048,576 bytes after trimming"
  long_line : 1048576 < length l → Why ed s l 5
  -- "6 a byte above 127 in a K, L, M or V line, or in a music line after the first K line"
  high_field : (is_v l || is_k l || is_l l || is_m l) ≡ true → has_high l ≡ true → Why ed s l 6
  high_music : MusicLine s l → has_high l ≡ true → Why ed s l 6
  -- "7 an X line after the first K line"
  second_tune : s.env.in_header ≡ false → is_x l ≡ true → Why ed s l 7
  -- "8 V without an identifier"
  no_identifier : is_v l ≡ true → is_nil (identifier (drop 2 l)) ≡ true → Why ed s l 8
  -- "9 a 33rd voice (unnamed opening music counts as one)"
  many_voices : is_v l ≡ true → elem (identifier (drop 2 l)) (voices_before s) ≡ false → most_voices ≤ length (voices_before s) → Why ed s l 9
  -- "10 a `middle=` word in a K or V field": of a V line
  middle_V : is_v l ≡ true → middle_word (drop 2 l) ≡ true → Why ed s l 10
  -- 10 and 21 of a K line
  key_line : {n : ℕ} → is_k l ≡ true → KeyMeets ed (drop 2 l) n → Why ed s l n
  -- 10 and 21 inline, 11, 12, 13, 14, 17, 18, 22
  in_music : {n : ℕ} → MusicLine s l → InMusic ed s.notes l n → Why ed s l n

-- "line by line 4, 5, 6 and 7 to 14 ..", 17 and 18 "where 14 stood", 21 and 22 "as met in the line"; "at one place the smaller number comes first": the line has the
-- condition of n, and of no smaller number
abbrev pub Smallest : Edition → ScanState → List ℕ → ℕ → Type 0
Smallest ed s l n = Why ed s l n × ((m : ℕ) → m < n → Why ed s l m → ⊥)

-- a line of a text: those before it go through, and lead to the state that meets it; k is its number, from 1
pub record At (ed : Edition) (s : ScanState) (rs : List TextLine) (n k : ℕ) : Type 0 where
  pub before : List TextLine
  pub row : TextLine
  pub behind : List TextLine
  pub state : ScanState
  pub items : Items
  pub are : rs ≡ before ++ (row ∷ behind)
  pub pass : run (step ed) s before ≡ on state items
  pub why : Smallest ed state (clean row) n
  pub line : k ≡ suc (s.lines + length before)

-- OF A CALL with a text, a reading store of rl bytes and a scratch store of sl. "Order: 2, 3, blank 1, 15"; nothing of these
pub record Begins (text : List ℕ) (sl : ℕ) : Type 0 where
  pub short : length text ≤ most_bytes
  pub utf8 : is_utf8 text ≡ true
  pub not_blank : is_blank text ≡ false
  pub scratch : scratch_needed (length text) ≤ sl

-- THE TWENTY REFUSALS, each with its line
pub data Reason (ed : Edition) (text : List ℕ) (rl sl : ℕ) : ℕ → ℕ → Type 0 where
  -- "2 over 67,108,864 bytes"
  long_text : most_bytes < length text → Reason ed text rl sl 2 0
  -- "3 not UTF-8"
  not_utf8 : length text ≤ most_bytes → is_utf8 text ≡ false → Reason ed text rl sl 3 0
  -- "1 blank text"
  blank_text : length text ≤ most_bytes → is_utf8 text ≡ true → is_blank text ≡ true → Reason ed text rl sl 1 0
  -- "15 scratch below 32 × (text length + 256) bytes"
  short_scratch : length text ≤ most_bytes → is_utf8 text ≡ true → is_blank text ≡ false → sl < scratch_needed (length text) → Reason ed text rl sl 15 0
  -- 4 to 14, 17, 18, 21 and 22
  at_line : {n k : ℕ} → Begins text sl → At ed begin (text_lines text) n k → Reason ed text rl sl n k
  -- "or no measure at the end"
  no_measure : (t : ScanState) (a : Items) → Begins text sl → scan ed (text_lines text) ≡ on t a → sum measure_count (parts_after ed t a) ≡ 0 → Reason ed text rl sl 1 0
  -- "16 reading store shorter than the reading"
  short_reading : (t : ScanState) (a : Items) → Begins text sl → scan ed (text_lines text) ≡ on t a → 1 ≤ sum measure_count (parts_after ed t a) → rl < length (encode (parts_after ed t a)) → Reason ed text rl sl 16 0
