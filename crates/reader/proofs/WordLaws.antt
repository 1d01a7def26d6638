-- The words of a text, from left to right: a separator is passed over, a word is taken up to the next separator. For loops over words by position.
use Prim.Native.Nat.{ℕ, zero, suc, pred}
use mathlib.Core.Path.{◌≡◌, refl, sym, ap, ◌∙◌}
use mathlib.Core.Bool.{not}
use mathlib.Core.List.{List, [], ◌∷◌}
use native.Mathlib.Omega.{arith}
use lib.ListN.{take, drop}
use Rattle.laws.specs.Lists.{filter, is_nil}
use Rattle.reader.specs.Text.{push}
use Rattle.reader.specs.Pieces.{pieces, words}

module _ (w : List ℕ → ℕ) where
  -- how many bytes stand before the first separator
  unfoldable pub stretch : List ℕ → ℕ
  stretch [] = 0
  stretch (c ∷ s) = elim (w (c ∷ s)) as (λ _. ℕ) [ zero ↦ suc (stretch s) | suc n ↦ 0 ]

  -- bytes of a separator still to pass are dropped
  pub pieces_drop : (k : ℕ) (s : List ℕ) → pieces w k s ≡ pieces w 0 (drop k s)
  unfolding pieces
  pieces_drop zero s = refl
  pieces_drop (suc k) [] = refl
  pieces_drop (suc k) (c ∷ s) = pieces_drop k s

  -- the pieces behind the first one
  unfoldable pub behind : List ℕ → List (List ℕ)
  behind [] = []
  behind (c ∷ s) = pieces w 0 (drop (pred (w (c ∷ s))) s)

  -- the first piece, by what the separator at the front takes
  first_piece_at : (c : ℕ) (s : List ℕ) (n : ℕ) → w (c ∷ s) ≡ n → pieces w 0 s ≡ take (stretch s) s ∷ behind (drop (stretch s) s) →
      pieces w 0 (c ∷ s) ≡ take (stretch (c ∷ s)) (c ∷ s) ∷ behind (drop (stretch (c ∷ s)) (c ∷ s))
  unfolding pieces stretch behind
  first_piece_at c s zero e h = rw (e, pieces, stretch) (ap (push c) h)
  first_piece_at c s (suc n) e h = rw (e, pieces, stretch, behind) (ap ([] ∷◌) (pieces_drop n s ∙ ap (λ k. pieces w 0 (drop (pred k) s)) (sym e)))

  -- the first piece, and those behind it
  pub first_piece : (s : List ℕ) → pieces w 0 s ≡ take (stretch s) s ∷ behind (drop (stretch s) s)
  unfolding pieces stretch behind
  first_piece [] = refl
  first_piece (c ∷ s) = first_piece_at c s (w (c ∷ s)) refl (first_piece s)

  -- WORDS
  -- a separator is passed over
  pub words_separator : (c : ℕ) (s : List ℕ) (n : ℕ) → w (c ∷ s) ≡ suc n → words w (c ∷ s) ≡ words w (drop n s)
  unfolding words pieces
  words_separator c s n e = rw (e, pieces) (ap (filter (λ p. not (is_nil p))) (pieces_drop n s))

  -- what is left behind the first piece, by what the separator at the front takes
  behind_at : (c : ℕ) (s : List ℕ) (n : ℕ) → w (c ∷ s) ≡ n → stretch (c ∷ s) ≡ 0 → filter (λ p. not (is_nil p)) (behind (c ∷ s)) ≡ words w (c ∷ s)
  unfolding words behind stretch
  behind_at c s zero q e = let z : suc (stretch s) ≡ 0 = rw (q, stretch) at e in absurd (omega (arith, z))
  behind_at c s (suc n) q e = ap (λ k. filter (λ p. not (is_nil p)) (pieces w 0 (drop (pred k) s))) q ∙ sym (words_separator c s n q)

  -- where no word stands, what is left behind the first piece is the words
  behind_words : (s : List ℕ) → stretch s ≡ 0 → filter (λ p. not (is_nil p)) (behind s) ≡ words w s
  unfolding words behind pieces
  behind_words [] e = refl
  behind_words (c ∷ s) e = behind_at c s (w (c ∷ s)) refl e

  -- the end of a stretch, by what the separator at the front takes
  stops_at_lem : (c : ℕ) (s : List ℕ) (n : ℕ) → w (c ∷ s) ≡ n → stretch (drop (stretch s) s) ≡ 0 → stretch (drop (stretch (c ∷ s)) (c ∷ s)) ≡ 0
  unfolding stretch
  stops_at_lem c s zero q h = rw (q, stretch) h
  stops_at_lem c s (suc n) q h = rw (q, stretch) (rw (q, stretch))

  -- behind a word stands a separator, or nothing
  pub stops : (s : List ℕ) → stretch (drop (stretch s) s) ≡ 0
  unfolding stretch
  stops [] = refl
  stops (c ∷ s) = stops_at_lem c s (w (c ∷ s)) refl (stops s)

  -- a byte that begins no separator
  one_more : (c : ℕ) (s : List ℕ) → w (c ∷ s) ≡ 0 → stretch (c ∷ s) ≡ suc (stretch s)
  unfolding stretch
  one_more c s e = rw (e, stretch)

  -- a word is taken
  pub words_word : (c : ℕ) (s : List ℕ) → w (c ∷ s) ≡ 0 → words w (c ∷ s) ≡ take (stretch (c ∷ s)) (c ∷ s) ∷ words w (drop (stretch (c ∷ s)) (c ∷ s))
  unfolding words
  words_word c s e =
      ap (filter (λ p. not (is_nil p))) (first_piece (c ∷ s))
      ∙ rw (one_more c s e) (ap ((c ∷ take (stretch s) s) ∷◌) (behind_words (drop (stretch s) s) (stops s)))
