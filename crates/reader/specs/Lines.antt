-- THE KINDS OF LINES: a line, cut and trimmed, is a lyric line, a field or music ("A letter and `:` at the start is a field").
use Rattle.std.specs.Prelude.{ℕ, Bool, false, cond, ◌&&◌, ◌||◌, List, [], ◌∷◌, eqb, ltb, length, drop}
use Rattle.std.proofs.Math.Option.{Option, none, some}
use Rattle.laws.specs.Lists.{is_nil}
use Rattle.standard.specs.Keys.{Key}
use Rattle.standard.specs.Fields.{Meter}
use Rattle.editions.specs.declared.Edition.{Edition}
use Rattle.reader.specs.Text.{within, clean, has_high}
use Rattle.reader.specs.Keys.{key_of}
use Rattle.reader.specs.Fields.{meter_of, unit_of, middle_word, key_refusal, identifier}
use Rattle.reader.specs.Tokens.{Effect, effects}

-- the first two bytes
abbrev pub begins : ℕ → ℕ → List ℕ → Bool
begins a b [] = false
begins a b (x ∷ []) = false
begins a b (x ∷ (y ∷ r)) = eqb x a && eqb y b

-- `V:`, `K:`, `L:`, `M:`, `X:`, `w:`
abbrev pub is_v : List ℕ → Bool
is_v r = begins 86 58 r

abbrev pub is_k : List ℕ → Bool
is_k r = begins 75 58 r

abbrev pub is_l : List ℕ → Bool
is_l r = begins 76 58 r

abbrev pub is_m : List ℕ → Bool
is_m r = begins 77 58 r

abbrev pub is_x : List ℕ → Bool
is_x r = begins 88 58 r

abbrev pub is_lyric : List ℕ → Bool
is_lyric r = begins 119 58 r

-- a letter and a colon (ABC 2.1, 3.0)
abbrev pub is_field : List ℕ → Bool
is_field [] = false
is_field (a ∷ []) = false
is_field (a ∷ (b ∷ r)) = (within 65 90 a || within 97 122 a) && eqb b 58

pub data Kind : Type 0 where
  blank : Kind
  -- refused wherever it stands, by this number
  refused : ℕ → Kind
  lyric : List ℕ → Kind
  -- a V line: its identifier, and whether it has a `middle=` word
  voice : List ℕ → Bool → Kind
  key : Key → Kind
  meter : Meter → Kind
  -- an L line: what it sets, if it does
  unit : Option ℕ → Kind
  -- an X line; any other field
  tune other : Kind
  -- music: whether it has a byte above 127; what its tokens do; the line
  music : Bool → List Effect → List ℕ → Kind

-- refusals 8 and 10
unfoldable pub voice_kind : List ℕ → Kind
voice_kind value = cond (is_nil (identifier value)) (refused 8) (voice (identifier value) (middle_word value))

-- a key, unless it is refused
unfoldable pub kind_unless : Key → Option ℕ → Kind
kind_unless k none = key k
kind_unless k (some n) = refused n

-- refusals 10 and 21
unfoldable pub key_kind : Edition → List ℕ → Kind
key_kind ed value = kind_unless (key_of ed value) (key_refusal ed value)

-- refusal 6: "a byte above 127 in a K, L, M or V line"
unfoldable pub field_kind : Edition → List ℕ → Kind
field_kind ed l =
    cond (is_v l) (cond (has_high l) (refused 6) (voice_kind (drop 2 l)))
    (cond (is_k l) (cond (has_high l) (refused 6) (key_kind ed (drop 2 l)))
    (cond (is_l l) (cond (has_high l) (refused 6) (unit (unit_of (drop 2 l))))
    (cond (is_m l) (cond (has_high l) (refused 6) (meter (meter_of (drop 2 l)))) (cond (is_x l) tune other))))

-- refusal 5: "a line over 1,048,576 bytes after trimming"
unfoldable pub line_kind : Edition → List ℕ → Kind
line_kind ed l =
    cond (is_nil l) blank
    (cond (ltb 1048576 (length l)) (refused 5)
    (cond (is_lyric l) (lyric (drop 2 l)) (cond (is_field l) (field_kind ed l) (music (has_high l) (effects ed l) l))))

-- the kind of a line of the text
unfoldable pub kind_of : Edition → List ℕ → Kind
kind_of ed r = line_kind ed (clean r)
