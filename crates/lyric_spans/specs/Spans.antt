-- Spans of a lyric line: words between white space, and the bytes of which a plain word is made.
use Rattle.std.specs.Prelude.{ℕ, ◌<◌, ◌≤◌, ◌≡◌, Bool, not, ◌&&◌, ◌||◌, List, ◌∷◌, eqb}
use Rattle.laws.specs.Bytes.{between}
use Rattle.standard.specs.Bytes.{is}
use Rattle.reader.specs.Text.{within, is_space}
use Rattle.reader.specs.Pieces.{words, white_at}

abbrev pub is_hyphen : ℕ → Bool
is_hyphen c = is "-" c

abbrev pub no_hyphen : ℕ → Bool
no_hyphen c = not (is_hyphen c)

-- a byte with which a white character may begin
abbrev pub may_be_white : ℕ → Bool
may_be_white c = is_space c || (eqb c 0xc2 || (eqb c 0xe1 || (eqb c 0xe2 || eqb c 0xe3)))

-- a byte of a word, and no hyphen, whatever stands behind it: ASCII from `!` to `~`
abbrev pub is_plain : ℕ → Bool
is_plain c = no_hyphen c && within 33 126 c

-- r is where the next word begins: white space before it is passed over
pub record WordStart (text : List ℕ) (at end r : ℕ) : Type 0 where
  pub low : at ≤ r
  pub high : r ≤ end
  pub same : words white_at (between text at end) ≡ words white_at (between text r end)
  pub starts : r < end → white_at (between text r end) ≡ 0

-- a word ends at `word`: behind it is white space, or nothing
pub record Closed (text : List ℕ) (word end : ℕ) : Type 0 where
  pub high : word ≤ end
  pub ends : word < end → 0 < white_at (between text word end)

-- r is the end of the word at `at`
pub record WordEnd (text : List ℕ) (at end r : ℕ) : Type 0 where
  pub past : at < r
  pub word : words white_at (between text at end) ≡ between text at r ∷ words white_at (between text r end)
  pub closed : Closed text r end
