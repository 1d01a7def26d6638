-- Syllables between hyphens, by position.
use Prim.Native.Nat.{ℕ, suc, ◌+◌, ◌≤◌, ◌<◌}
use mathlib.Core.Path.{◌≡◌, refl, sym, ap, ◌∙◌}
use mathlib.Core.Bool.{Bool, true, false}
use mathlib.Core.List.{List, [], ◌∷◌}
use native.Mathlib.Omega.{arith}
use lib.ListN.{length, get_or, take, drop}
use Rattle.laws.specs.Lists.{count_while}
use Rattle.laws.specs.Spans.{end_in}
use Rattle.laws.specs.Bytes.{between}
use Rattle.laws.proofs.Bools.{by_test}
use Rattle.laws.proofs.Spans.{count_while_yes, count_while_no}
use Rattle.laws.proofs.Parts.{between_first, run_between, behind_between}
use Rattle.standard.specs.Lyrics.{syllabic_of, syllable, syllables, syllable_text}
use Rattle.reader.specs.Pieces.{pieces, words, separator}
use Rattle.reader.specs.Lyrics.{or_skip}
use Rattle.reader.proofs.WordLaws.{stretch, words_separator, words_word}
use Rattle.lyric_spans.specs.Spans.{is_hyphen, no_hyphen}

-- no words in nothing
pub words_none : (w : List ℕ → ℕ) → words w [] ≡ []
unfolding words pieces
words_none w = refl

-- hyphens at the front are passed over
pub words_hyphens : (s : List ℕ) → words (separator is_hyphen) s ≡ words (separator is_hyphen) (drop (count_while is_hyphen s) s)
words_hyphens [] = refl
words_hyphens (c ∷ s) =
    by_test (is_hyphen c)
    (λ e. let one : separator is_hyphen (c ∷ s) ≡ 1 = rw e in
    words_separator (separator is_hyphen) c s 0 one ∙ words_hyphens s ∙ ap (λ (k : ℕ). words (separator is_hyphen) (drop k (c ∷ s))) (sym (count_while_yes is_hyphen c s e)))
    (λ e. ap (λ (k : ℕ). words (separator is_hyphen) (drop k (c ∷ s))) (sym (count_while_no is_hyphen c s e)))

-- a piece goes up to the next hyphen
stretch_count_while : (s : List ℕ) → stretch (separator is_hyphen) s ≡ count_while no_hyphen s
unfolding stretch
stretch_count_while [] = refl
stretch_count_while (c ∷ s) =
    by_test (is_hyphen c) (λ e. rw (e, stretch, count_while)) (λ e. rw (e, stretch, count_while) (ap suc (stretch_count_while s)))

module _ (text : List ℕ) (at end : ℕ) where
  -- hyphens at the front of a word are passed over
  pub hyphens_past : words (separator is_hyphen) (between text at end) ≡ words (separator is_hyphen) (between text (end_in is_hyphen text at end) end)
  hyphens_past = words_hyphens (between text at end) ∙ ap (words (separator is_hyphen)) (behind_between is_hyphen text at end)

  -- a piece, and those behind it
  pub piece_first : at < end → end ≤ length text → is_hyphen (get_or text at 0) ≡ false
      → words (separator is_hyphen) (between text at end) ≡ between text at (end_in no_hyphen text at end) ∷ words (separator is_hyphen) (between text (end_in no_hyphen text at end) end)
  piece_first h l e =
      let here = between_first text at end h l in
      let none : separator is_hyphen (get_or text at 0 ∷ between text (at + 1) end) ≡ 0 = rw e in
      ap (words (separator is_hyphen)) here
      ∙ words_word (separator is_hyphen) (get_or text at 0) (between text (at + 1) end) none
      ∙ ap (λ (s : List ℕ). take (stretch (separator is_hyphen) s) s ∷ words (separator is_hyphen) (drop (stretch (separator is_hyphen) s) s)) (sym here)
      ∙ ap (λ (k : ℕ). take k (between text at end) ∷ words (separator is_hyphen) (drop k (between text at end))) (stretch_count_while (between text at end))
      ∙ (λ j. run_between no_hyphen text at end (omega arith) j ∷ words (separator is_hyphen) (behind_between no_hyphen text at end j))

-- SYLLABLES
-- the last piece of a word
pub last_syllable : (b a : Bool) (p : List ℕ) → syllables b a (p ∷ []) ≡ syllable (syllabic_of b a) (syllable_text p) ∷ []
unfolding syllables
last_syllable b a p = refl

-- one that another follows
pub next_syllable : (b a : Bool) (p q : List ℕ) (ps : List (List ℕ)) → syllables b a (p ∷ q ∷ ps) ≡ syllable (syllabic_of b true) (syllable_text p) ∷ syllables true a (q ∷ ps)
unfolding syllables
next_syllable b a p q ps = refl

-- a word with a syllable
pub or_skip_some : (b a : Bool) (p : List ℕ) (ps : List (List ℕ)) → or_skip (syllables b a (p ∷ ps)) ≡ syllables b a (p ∷ ps)
unfolding or_skip syllables
or_skip_some b a p [] = refl
or_skip_some b a p (q ∷ ps) = refl
