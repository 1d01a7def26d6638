-- WHAT COSTS NOTHING: lines, and signs of a music line, that change no record of a reading.
use Rattle.std.specs.Prelude.{ℕ, ◌≡◌, true, false}
use Rattle.laws.specs.Lists.{is_nil}
use Rattle.editions.specs.declared.Edition.{Edition}
use Rattle.reader.specs.Text.{clean, has_high}
use Rattle.reader.specs.Token.{Token, quoted, decoration}
use Rattle.reader.specs.Tokens.{effects}
use Rattle.reader.specs.Lines.{is_v, is_k, is_l, is_m, is_x, is_lyric, is_field, music, kind_of}
use Rattle.reader.specs.Steps.{TextLine}

-- a line that, cut and trimmed, is empty, or a field with another letter than V, K, L, M, X and w (a title, a composer, a tempo)
pub data Silent (r : TextLine) : Type 0 where
  empty : is_nil (clean r) ≡ true → Silent r
  other_field : is_field (clean r) ≡ true → is_v (clean r) ≡ false → is_k (clean r) ≡ false → is_l (clean r) ≡ false → is_m (clean r) ≡ false → is_x (clean r) ≡ false → is_lyric (clean r) ≡ false → Silent r

-- a music line
abbrev pub IsMusicRow : Edition → TextLine → Type 0
IsMusicRow ed r = kind_of ed r ≡ music (has_high (clean r)) (effects ed (clean r)) (clean r)

-- a sign that opens and closes a token: `"` a quoted text, `!` and `+` a decoration
pub data Sign : ℕ → Token → Type 0 where
  quote : Sign 34 quoted
  bang : Sign 33 decoration
  plus : Sign 43 decoration
