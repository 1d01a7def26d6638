-- The words of a text from left to right.
use Prim.Native.Nat.{ℕ, suc}
use mathlib.Core.Path.{◌≡◌, refl, sym, ap, ◌∙◌}
use mathlib.Core.Bool.{true, false, not}
use mathlib.Core.List.{List, [], ◌∷◌, ◌++◌}
use native.Mathlib.Omega.{arith}
use lib.ListN.{length, take, drop, length-take, length-drop, take-append-drop}
use Rattle.laws.specs.Lists.{count_while, filter, is_nil}
use Rattle.laws.specs.Spans.{run}
use Rattle.laws.proofs.Bools.{by_test}
use Rattle.laws.proofs.Spans.{run_yes, count_while_behind, count_while_yes}
use Rattle.reader.specs.Text.{is_space, push}
use Rattle.reader.specs.Pieces.{pieces, words, separator, field_words, trim_start}
use Rattle.text_words.specs.Words.{not_space, FirstWord}
use Rattle.text_words.proofs.Trims.{trim_start_drop}

-- the pieces behind the first one
rest : List ℕ → List (List ℕ)
rest [] = []
rest (c ∷ s) = pieces (separator is_space) 0 s

pieces_first : (t : List ℕ) → pieces (separator is_space) 0 t ≡ run not_space t ∷ rest (drop (count_while not_space t) t)
unfolding pieces rest
pieces_first [] = refl
pieces_first (c ∷ t) =
    by_test (is_space c) (λ e. rw (e, pieces, count_while))
    (λ e. rw (e, pieces, count_while) (ap (push c) (pieces_first t)))

-- no words
words_none : field_words [] ≡ []
unfolding field_words words pieces
words_none = refl

-- white space at the front is passed over
words_space : (c : ℕ) (t : List ℕ) → is_space c ≡ true → field_words (c ∷ t) ≡ field_words t
unfolding field_words words pieces
words_space c t e = rw (e, pieces)

words_start : (t : List ℕ) → field_words t ≡ field_words (drop (count_while is_space t) t)
words_start [] = refl
words_start (c ∷ t) = by_test (is_space c) (λ e. words_space c t e ∙ words_start t ∙ rw (e, count_while)) (λ e. rw (e, count_while))

-- what stands behind the first piece, if that is empty, is all
rest_words : (t : List ℕ) → count_while not_space t ≡ 0 → filter (λ p. not (is_nil p)) (rest t) ≡ field_words t
unfolding field_words words pieces rest
rest_words [] e = refl
rest_words (c ∷ t) e = by_test (is_space c) (λ q. rw (q, pieces)) (λ q. absurd (some_more q e))
  where
    some_more : is_space c ≡ false → count_while not_space (c ∷ t) ≡ 0 → ⊥
    some_more q z = let k : suc (count_while not_space t) ≡ 0 = rw (q, count_while) at z in omega (arith, k)

-- a word at the front is taken
words_word : (c : ℕ) (t : List ℕ) → is_space c ≡ false → field_words (c ∷ t) ≡ run not_space (c ∷ t) ∷ field_words (drop (count_while not_space (c ∷ t)) (c ∷ t))
unfolding field_words words
words_word c t e =
    let y : not_space c ≡ true = ap not e in
    ap (filter (λ p. not (is_nil p))) (pieces_first (c ∷ t))
    ∙ rw (run_yes not_space c t y) (ap (λ (l : List (List ℕ)). (c ∷ run not_space t) ∷ l) (rest_words (drop (count_while not_space (c ∷ t)) (c ∷ t)) (count_while_behind not_space (c ∷ t))))

-- THE FIRST WORD, by what is left without white space at the front
pub no_word : (t words : List ℕ) → words ≡ trim_start t → length words ≡ 0 → field_words t ≡ []
no_word t [] e h = words_start t ∙ ap field_words (sym (trim_start_drop t) ∙ sym e) ∙ words_none
no_word t (c ∷ s) e h = absurd (omega (arith, h))

head_word : (t s : List ℕ) (c : ℕ) → c ∷ s ≡ trim_start t → is_space c ≡ false
head_word t s c e = by_test (is_space c) (λ q. absurd (none q)) (λ q. q)
  where
    none : is_space c ≡ true → ⊥
    none q =
        let z = ap (count_while is_space) (e ∙ trim_start_drop t) ∙ count_while_behind is_space t in
        let y = count_while_yes is_space c s q in
        omega arith

pub first_word : (t words : List ℕ) → words ≡ trim_start t → (length words ≡ 0 → ⊥) → (n : ℕ) → n ≡ count_while not_space words → FirstWord t (take n words) (drop n words)
first_word t [] e h n q = absurd (h refl)
first_word t (c ∷ s) e h n q =
    let k = count_while is_space t in
    let dropped = e ∙ trim_start_drop t in
    let one = count_while_yes not_space c s (ap not (head_word t s c e)) in
    let long = ap length dropped ∙ length-drop k t in
    record {
      bytes = omega (arith, length-take n (c ∷ s));
      shorter = omega (arith, length-drop n (c ∷ s));
      place = (take k t, sym (ap (λ l. take k t ++ l) (take-append-drop n (c ∷ s) ∙ dropped) ∙ take-append-drop k t));
      words = words_start t ∙ ap field_words (sym dropped) ∙ words_word c s (head_word t s c e) ∙ rw q;
    }
