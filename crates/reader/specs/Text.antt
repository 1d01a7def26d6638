-- A TEXT AS BYTES: UTF-8, Unicode's white space, lines, and a line cut at its comment and trimmed.
use Rattle.std.specs.Prelude.{ℕ, Bool, true, false, cond, ◌&&◌, ◌||◌, List, [], ◌∷◌, eqb, leb, ltb}
use Rattle.laws.specs.Lists.{foldl}

-- from a to b
abbrev pub within : ℕ → ℕ → ℕ → Bool
within a b c = leb a c && leb c b

-- UTF-8 (The Unicode Standard, table 3-7), read byte by byte: between two characters; 1, 2, 3 bytes of one to come; after the first bytes
-- E0, ED, F0, F4, whose second byte has a narrower range; or no UTF-8
pub data Utf8 : Type 0 where
  between one two three after_e0 after_ed after_f0 after_f4 invalid : Utf8

unfoldable pub utf8_step : Utf8 → ℕ → Utf8
utf8_step between c =
    cond (leb c 0x7f) between
    (cond (within 0xc2 0xdf c) one
    (cond (eqb c 0xe0) after_e0
    (cond (eqb c 0xed) after_ed
    (cond (within 0xe1 0xef c) two (cond (eqb c 0xf0) after_f0 (cond (eqb c 0xf4) after_f4 (cond (within 0xf1 0xf3 c) three invalid)))))))
utf8_step one c = cond (within 0x80 0xbf c) between invalid
utf8_step two c = cond (within 0x80 0xbf c) one invalid
utf8_step three c = cond (within 0x80 0xbf c) two invalid
utf8_step after_e0 c = cond (within 0xa0 0xbf c) one invalid
utf8_step after_ed c = cond (within 0x80 0x9f c) one invalid
utf8_step after_f0 c = cond (within 0x90 0xbf c) two invalid
utf8_step after_f4 c = cond (within 0x80 0x8f c) two invalid
utf8_step invalid c = invalid

abbrev pub is_between : Utf8 → Bool
is_between between = true
is_between one = false
is_between two = false
is_between three = false
is_between after_e0 = false
is_between after_ed = false
is_between after_f0 = false
is_between after_f4 = false
is_between invalid = false

-- refusal 3: not UTF-8
unfoldable pub is_utf8 : List ℕ → Bool
is_utf8 s = is_between (foldl utf8_step between s)

-- ASCII's white space: 9 to 13 and 32
abbrev pub is_space : ℕ → Bool
is_space c = within 9 13 c || eqb c 32

-- UNICODE'S WHITE SPACE, read byte by byte: after whole white characters; inside one, by the bytes of it; or something else. Beside ASCII's:
-- U+0085, U+00A0, U+1680, U+2000 to U+200A, U+2028, U+2029, U+202F, U+205F, U+3000
pub data White : Type 0 where
  white in_c2 in_e1 in_e19a in_e2 in_e280 in_e281 in_e3 in_e380 other : White

unfoldable pub white_step : White → ℕ → White
white_step white c =
    cond (is_space c) white (cond (eqb c 0xc2) in_c2 (cond (eqb c 0xe1) in_e1 (cond (eqb c 0xe2) in_e2 (cond (eqb c 0xe3) in_e3 other))))
white_step in_c2 c = cond (eqb c 0x85 || eqb c 0xa0) white other
white_step in_e1 c = cond (eqb c 0x9a) in_e19a other
white_step in_e19a c = cond (eqb c 0x80) white other
white_step in_e2 c = cond (eqb c 0x80) in_e280 (cond (eqb c 0x81) in_e281 other)
white_step in_e280 c = cond (within 0x80 0x8a c || eqb c 0xa8 || eqb c 0xa9 || eqb c 0xaf) white other
white_step in_e281 c = cond (eqb c 0x9f) white other
white_step in_e3 c = cond (eqb c 0x80) in_e380 other
white_step in_e380 c = cond (eqb c 0x80) white other
white_step other c = other

abbrev pub is_all_white : White → Bool
is_all_white white = true
is_all_white in_c2 = false
is_all_white in_e1 = false
is_all_white in_e19a = false
is_all_white in_e2 = false
is_all_white in_e280 = false
is_all_white in_e281 = false
is_all_white in_e3 = false
is_all_white in_e380 = false
is_all_white other = false

-- nothing but white space (of a text: refusal 1, blank)
unfoldable pub is_blank : List ℕ → Bool
is_blank s = is_all_white (foldl white_step white s)

-- THE LINES OF A TEXT, each with its line feed; the last may have none. `push` puts a byte before the first line, `text_lines` cuts a text after each line feed
abbrev pub push : ℕ → List (List ℕ) → List (List ℕ)
push c [] = (c ∷ []) ∷ []
push c (r ∷ rs) = (c ∷ r) ∷ rs

unfoldable pub text_lines : List ℕ → List (List ℕ)
text_lines [] = []
text_lines (c ∷ cs) = cond (eqb c 10) ((c ∷ []) ∷ text_lines cs) (push c (text_lines cs))

-- "cut at the first `%`, even in quotes"
unfoldable pub cut : List ℕ → List ℕ
cut [] = []
cut (c ∷ cs) = cond (eqb c 37) [] (c ∷ cut cs)

-- "trim white space (Unicode's, here and in lyrics) at the end": a line's line feed, and a carriage return before it, go with it
unfoldable pub trim : List ℕ → List ℕ
trim [] = []
trim (c ∷ cs) = cond (is_blank (c ∷ cs)) [] (c ∷ trim cs)

-- a line, cut and trimmed
unfoldable pub clean : List ℕ → List ℕ
clean r = trim (cut r)

-- a byte above 127 (refusal 6)
unfoldable pub has_high : List ℕ → Bool
has_high [] = false
has_high (c ∷ cs) = ltb 127 c || has_high cs
