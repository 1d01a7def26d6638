-- A SYLLABLE IN THE TEXT; a chain of one row.
use Prim.Native.Nat.{ℕ, ◌+◌, ◌-◌, ◌≤◌, ◌<◌}
use mathlib.Core.Path.{◌≡◌, refl, sym, ap, ◌∙◌}
use mathlib.Core.Bool.{false}
use mathlib.Core.List.{List, [], ◌∷◌, ◌++◌, map}
use lib.ListN.{length, get_or, length-map}
use Rattle.laws.specs.Bytes.{part, between}
use Rattle.laws.proofs.Lists.{map_append}
use Rattle.laws.proofs.Parts.{length_between, part_suc}
use Rattle.standard.specs.Lyrics.{syllable_text}
use Rattle.reader.specs.Lyrics.{Syllable, put}
use Rattle.std.specs.Prelude.{Some, None}
use Rattle.lyric_words.specs.declared.Syllabic.{Syllabic}
use Rattle.lyrics.specs.Sheet.{syllable_of, apply_as, apply_row}
use Rattle.lyric_walk.specs.declared.Found.{Found}
use Rattle.lyric_walk.specs.declared.Sole.TheVariants as S
use Rattle.lyric_walk.specs.declared.Link.{Link}
use Rattle.lyric_walk.specs.Walks.{chain, row_of_link, LinkIs, found_of, syllable_is, InText, SoleIs, sung_byte}
use Rattle.lyric_walk.proofs.Chains.{chain_none}

-- A SYLLABLE IN THE TEXT
pub same_syllable : (text : List ℕ) (f r : Found) → InText (length text) f r → syllable_is text r ≡ syllable_is text f
unfolding syllable_is
same_syllable text f r i = ap (syllable_is text) i.same ∙ (λ j. record { verse = f.verse; syllabic = (syllable_is text f).syllabic; extend = f.extend; text = syllable_text (i.cut.same text refl j) })

-- A CHAIN OF ONE ROW, or of none
pub sole_none : (text s : List ℕ) (log k : ℕ) → k ≡ 0 → SoleIs text s log k S.Nothing
sole_none text s log k e = record { says = ap (chain text s log) e ∙ chain_none text s log }

module _ (text s : List ℕ) (log k : ℕ) (r : Link) (is : LinkIs s log k r) (last : r.next ≡ 0) where
  alone : chain text s log k ≡ apply_row text (row_of_link r) []
  alone = is.sung text ∙ ap (apply_row text (row_of_link r)) (ap (chain text s log) last ∙ chain_none text s log)

  pub sole_hold : r.syllabic ≡ None → SoleIs text s log k S.Nothing
  unfolding apply_as
  sole_hold e = record { says = alone ∙ rw (e, apply_as) }

  pub sole_one : (c : Syllabic) → r.syllabic ≡ Some c → (f : Found) → InText (length text) (found_of (row_of_link r) false) f → SoleIs text s log k (S.One f)
  unfolding apply_as put syllable_of syllable_is
  sole_one c e f i =
      let one : apply_row text (row_of_link r) [] ≡ syllable_is text (found_of (row_of_link r) false) ∷ [] = rw (e, apply_as) in
      record { says = (alone ∙ one ∙ ap (λ (y : Syllable). y ∷ []) (sym (same_syllable text (found_of (row_of_link r) false) f i)), i.cut.order, i.cut.high) }

-- ITS TEXT
pub text_length : (text : List ℕ) (f : Found) → f.end ≤ length text → length (syllable_is text f).text ≡ f.end - f.at
unfolding syllable_is syllable_text
text_length text f h = length-map (between text f.at f.end) sung_byte ∙ length_between text f.at f.end h

-- byte by byte
pub text_more : (text : List ℕ) (at j : ℕ) → at + j < length text → syllable_text (part text at (j + 1)) ≡ syllable_text (part text at j) ++ (sung_byte (get_or text (at + j) 0) ∷ [])
unfolding syllable_text
text_more text at j h = ap (map sung_byte) (part_suc text at j h) ∙ map_append sung_byte (part text at j) (get_or text (at + j) 0 ∷ [])
