-- A chain, row by row.
use Prim.Native.Nat.{ℕ, zero, suc, ◌+◌, ◌-◌, ◌*◌, ◌≤◌, ◌<◌}
use mathlib.Core.Path.{◌≡◌, refl, sym, ap, subst, ◌∙◌}
use mathlib.Core.Bool.{cond}
use mathlib.Core.List.{List, [], ◌∷◌, map}
use native.Mathlib.Nat.{not-suc-le-zero, le_of_suc-le-suc}
use native.Mathlib.Decide.{dec_lt}
use native.Mathlib.Omega.{arith}
use lib.Dec.{eqb, ltb}
use lib.ListN.{length, get_or}
use borrow.Author.Tests.{eq-eqb, ne_eqb, eqb-true, eqb-false, lt-ltb, le-ltb}
use Rattle.laws.specs.Lists.{All}
use Rattle.laws.specs.Bytes.{part, rows, u32_at}
use Rattle.laws.proofs.Bools.{by_test}
use Rattle.laws.proofs.Parts.{get_d_part}
use Rattle.laws.proofs.Numbers.{little_at_own, little_at_part}
use Rattle.laws.proofs.Rows.{rows_get, length_rows}
use Rattle.reader.specs.Lyrics.{Syllable, put, held}
use Rattle.std.specs.Prelude.{Option}
use Rattle.lyric_words.specs.declared.Syllabic.{Syllabic}
use Rattle.lyrics.specs.declared.Sheet.{Sheet}
use Rattle.lyrics.specs.Sheet.{lyric_head_width, lyric_row_width, verse_at, code_at, start_at, end_at, next_at, syllabic_in, RowRead, row_of, next_of, row_at, syllable_of, apply_as, apply_row, sung_from, head_of, heads_in, syllables_in}
use Rattle.lyric_walk.specs.Walks.{chain, HeadIs, LinkIs}
use Rattle.lyric_walk.proofs.Verses.{held_verse, by_syllabic}

module _ (text s : List ℕ) (log : ℕ) where
  -- a chain that begins among the first n rows is the same among more
  pub chain_in : (n k : ℕ) → k ≤ n → sung_from text s log n k ≡ chain text s log k
  unfolding sung_from
  chain_in zero k h =
      let e : k ≡ 0 = omega arith in
      ap (λ (j : ℕ). sung_from text s log 0 0) e ∙ ap (λ (j : ℕ). sung_from text s log j j) (sym e)
  chain_in (suc n) k h =
      by_test (eqb k (suc n)) (λ e. ap (λ (j : ℕ). sung_from text s log j k) (sym (eqb-true k (suc n) e)))
      (λ e. rw (e, sung_from) (chain_in n k (below (eqb-false k (suc n) e))))
    where
      below : (k ≡ suc n → ⊥) → k ≤ n
      below d = go (dec_lt k (suc n))
        where
          go : Dec (k < suc n) → k ≤ n
          go (yes l) = omega arith
          go (no l) = absurd (d (omega arith))

  -- one that does not is none
  pub chain_out : (n k : ℕ) → n < k → sung_from text s log n k ≡ []
  unfolding sung_from
  chain_out zero k h = refl
  chain_out (suc n) k h =
      let d : k ≡ suc n → ⊥ = λ e. absurd (omega (arith, e)) in
      rw (ne_eqb k (suc n) d, sung_from) (chain_out n k (omega arith))

  -- no row
  pub chain_none : chain text s log 0 ≡ []
  unfolding sung_from
  chain_none = refl

  -- the first n rows from a place that may be any
  pub chain_any : (n k j : ℕ) → j ≡ cond (ltb k (n + 1)) k 0 → sung_from text s log n k ≡ chain text s log j
  chain_any n k j e = go (dec_lt k (n + 1))
    where
      go : Dec (k < n + 1) → sung_from text s log n k ≡ chain text s log j
      go (yes l) = chain_in n k (omega arith) ∙ ap (λ (x : ℕ). chain text s log x) (sym (e ∙ rw (lt-ltb k (n + 1) l)))
      go (no l) = chain_out n k (omega arith) ∙ sym chain_none ∙ ap (λ (x : ℕ). chain text s log x) (sym (e ∙ rw (le-ltb k (n + 1) (omega arith))))

  -- the newest row, and those below it
  newest : (m : ℕ) → chain text s log (suc m) ≡ apply_row text (row_of (row_at s log m)) (sung_from text s log m (next_of (row_at s log m)))
  unfolding sung_from
  newest m = rw (eq-eqb (suc m) (suc m) refl, sung_from)

  pub chain_row : (m k j : ℕ) → k ≡ m + 1 → j ≡ cond (ltb (next_of (row_at s log m)) (m + 1)) (next_of (row_at s log m)) 0
      → chain text s log k ≡ apply_row text (row_of (row_at s log m)) (chain text s log j)
  chain_row m k j e f =
      let one : k ≡ suc m = omega arith in
      ap (λ (x : ℕ). chain text s log x) one ∙ newest m ∙ ap (apply_row text (row_of (row_at s log m))) (chain_any m (next_of (row_at s log m)) j f)

-- a place that is capped
pub capped : (k x r : ℕ) → r ≡ cond (ltb x k) x 0 → 0 < k → r < k
capped k x r e h = go (dec_lt x k)
  where
    go : Dec (x < k) → r < k
    go (yes l) =
        let f : cond (ltb x k) x 0 ≡ x = rw (lt-ltb x k l) in
        let g : r ≡ x = e ∙ f in
        omega arith
    go (no l) =
        let f : cond (ltb x k) x 0 ≡ 0 = rw (le-ltb x k (omega arith)) in
        let g : r ≡ 0 = e ∙ f in
        omega arith

-- ROW k, from 1, by its bytes
row_is : (s : List ℕ) (p : ℕ) (o : Option Syllabic) (at end : ℕ) → o ≡ syllabic_in (get_or s (p + code_at) 0) → at ≡ u32_at s (p + start_at) → end ≡ u32_at s (p + end_at) → row_of (part s p lyric_row_width) ≡ record { verse = get_or s p 0; syllabic = o; at = at; end = end }
unfolding row_of
row_is s p o at end c a e =
    let z : p + verse_at ≡ p = omega arith in
    let v : get_or (part s p lyric_row_width) verse_at 0 ≡ get_or s p 0 = get_d_part s p lyric_row_width verse_at (omega arith) ∙ ap (λ (x : ℕ). get_or s x 0) z in
    let w : syllabic_in (get_or (part s p lyric_row_width) code_at 0) ≡ o = ap syllabic_in (get_d_part s p lyric_row_width code_at (omega arith)) ∙ sym c in
    let x : u32_at (part s p lyric_row_width) start_at ≡ at = little_at_part 4 s p lyric_row_width start_at (omega arith) ∙ sym a in
    let y : u32_at (part s p lyric_row_width) end_at ≡ end = little_at_part 4 s p lyric_row_width end_at (omega arith) ∙ sym e in
    λ i. record { verse = v i; syllabic = w i; at = x i; end = y i }

next_is : (s : List ℕ) (p : ℕ) → next_of (part s p lyric_row_width) ≡ u32_at s (p + next_at)
unfolding next_of
next_is s p = little_at_part 4 s p lyric_row_width next_at (omega arith)

pub link_is : (s : List ℕ) (log k : ℕ) → 1 ≤ k → (o : Option Syllabic) (at end place next : ℕ) → o ≡ syllabic_in (get_or s (log + lyric_row_width * (k - 1) + code_at) 0) → at ≡ u32_at s (log + lyric_row_width * (k - 1) + start_at) → end ≡ u32_at s (log + lyric_row_width * (k - 1) + end_at)
    → place ≡ u32_at s (log + lyric_row_width * (k - 1) + next_at) → next ≡ cond (ltb place k) place 0
    → LinkIs s log k (record { verse = get_or s (log + lyric_row_width * (k - 1)) 0; syllabic = o; at = at; end = end; next = next })
link_is s log k low o at end place next b a e p n =
    let one : k ≡ k - 1 + 1 = omega arith in
    let q : place ≡ next_of (row_at s log (k - 1)) = p ∙ sym (next_is s (log + lyric_row_width * (k - 1))) in
    let c : next ≡ cond (ltb (next_of (row_at s log (k - 1))) (k - 1 + 1)) (next_of (row_at s log (k - 1))) 0 = n ∙ (λ i. cond (ltb (q i) (one i)) (q i) 0) in
    record {
      low = capped k place next n (omega arith);
      row = sym (row_is s (log + lyric_row_width * (k - 1)) o at end b a e);
      sung = λ text. chain_row text s log (k - 1) k next one c ∙ ap (λ (r : RowRead). apply_row text r (chain text s log next)) (row_is s (log + lyric_row_width * (k - 1)) o at end b a e);
    }

-- THE HEAD of a note
get_or_map_in : {B : Type 0} (f : ℕ → B) (xs : List ℕ) (i : ℕ) (d : B) → i < length xs → get_or (map f xs) i d ≡ f (get_or xs i 0)
get_or_map_in f [] i d h = absurd (not-suc-le-zero h)
get_or_map_in f (x ∷ xs) zero d h = refl
get_or_map_in f (x ∷ xs) (suc i) d h = get_or_map_in f xs i d (le_of_suc-le-suc h)

pub head_is : (s : List ℕ) (h : Sheet) (note place k : ℕ) → note < h.sounded → place ≡ u32_at s (h.heads + lyric_head_width * note) → k ≡ cond (ltb place (h.count + 1)) place 0 → HeadIs s h note k
unfolding syllables_in heads_in head_of
head_is s h note place k l e c =
    let n : length (rows head_of lyric_head_width s h.heads h.sounded) ≡ h.sounded = length_rows head_of lyric_head_width s h.heads h.sounded in
    let at : get_or (rows head_of lyric_head_width s h.heads h.sounded) note 0 ≡ place = rows_get head_of lyric_head_width s h.heads h.sounded note 0 l ∙ sym (little_at_own 4 s (h.heads + lyric_head_width * note)) ∙ sym e in
    let low : k < h.count + 1 = capped (h.count + 1) place k c (omega arith) in
    record {
      low = omega arith;
      sung = λ text.
          get_or_map_in (sung_from text s h.log h.count) (rows head_of lyric_head_width s h.heads h.sounded) note [] (rw n l)
          ∙ ap (sung_from text s h.log h.count) at
          ∙ chain_any text s h.log h.count place k c;
    }

-- WHAT HOLDS OF EVERY VERSE
module _ (P : Syllable → Type 0) where
  put_all : (x : Syllable) (ys : List Syllable) → P x → All P ys → All P (put x ys)
  unfolding put
  put_all x [] p a = (p, tt)
  put_all x (y ∷ ys) p a =
      by_test (ltb y.verse x.verse) (λ e. rw (e, put) (a.0, put_all x ys p a.1))
      (λ e. by_test (eqb y.verse x.verse) (λ f. rw (e, f, put) (p, a.1)) (λ f. rw (e, f, put) (p, a)))

module _ (Q : ℕ → Type 0) where
  held_all : (v : ℕ) (ys : List Syllable) → All (λ (y : Syllable). Q y.verse) ys → All (λ (y : Syllable). Q y.verse) (map (held v) ys)
  held_all v [] a = tt
  held_all v (y ∷ ys) a = (subst Q (sym (held_verse v y)) a.0, held_all v ys a.1)

  pub row_all : (text : List ℕ) (r : RowRead) (ys : List Syllable) → Q r.verse → All (λ (y : Syllable). Q y.verse) ys → All (λ (y : Syllable). Q y.verse) (apply_row text r ys)
  unfolding apply_as syllable_of
  row_all text r ys h a =
      by_syllabic r.syllabic (λ e. rw (e, apply_as) (held_all r.verse ys a)) (λ c e. rw (e, apply_as) (put_all (λ (y : Syllable). Q y.verse) (syllable_of text r c) ys h a))

-- verses are bytes
pub verses_small : (text s : List ℕ) (log n k : ℕ) → ((i : ℕ) → get_or s i 0 < 256) → All (λ (y : Syllable). y.verse < 256) (sung_from text s log n k)
unfolding sung_from row_of
verses_small text s log zero k b = tt
verses_small text s log (suc n) k b =
    by_test (eqb k (suc n))
    (λ e. rw (e, sung_from)
    (row_all (λ (v : ℕ). v < 256) text (row_of (row_at s log n)) (sung_from text s log n (next_of (row_at s log n))) (rw (get_d_part s (log + lyric_row_width * n) lyric_row_width verse_at (omega arith)) (b (log + lyric_row_width * n + verse_at))) (verses_small text s log n (next_of (row_at s log n)) b)))
    (λ e. rw (e, sung_from) (verses_small text s log n k b))
