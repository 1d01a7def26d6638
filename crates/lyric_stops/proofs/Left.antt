-- WHAT IS LEFT FROM A NOTE ON, as walks go; and the measures of a line, from its first note on.
use Prim.Native.Nat.{ℕ, zero, suc, ◌+◌, ◌≤◌, ◌<◌}
use mathlib.Core.Path.{◌≡◌, refl, sym, ap, ◌∙◌}
use mathlib.Core.Bool.{true}
use mathlib.Core.List.{List, [], ◌∷◌, ◌++◌, map}
use native.Mathlib.Decide.{dec_lt}
use native.Mathlib.Nat.{add-zero}
use native.Mathlib.Numerals.{add-one}
use native.Mathlib.Omega.{arith}
use lib.Dec.{leb}
use lib.ListN.{length, drop, drop_of_length-le, get_or-eq_default}
use borrow.Author.Tests.{le-leb, lt-leb}
use Rattle.laws.specs.Lists.{All, filter, concat}
use Rattle.laws.proofs.Lists.{drop_next, filter_yes, filter_no, filter_whole}
use Rattle.standard.specs.Lyrics.{SungBar, last_or}
use Rattle.reader.specs.Lyrics.{bar_of, bars_from}
use Rattle.lyric_stops.specs.declared.Kind.{Kind}
use Rattle.lyric_stops.specs.declared.Stop.{Stop}
use Rattle.lyric_stops.specs.Stops.{no_stop, kind_at, kinds_of, Left, with_note, left_by, left_from, passed_place, back_of, note_at}
use Rattle.lyric_stops.proofs.Walks.{by_passed, by_first, apart, not_passed, back_here, back_passed}

-- ONE NOTE
module _ (j : ℕ) (l : Left) where
  pub with_passed : (k : Kind) → k ≡ Kind.Passed → with_note k j l ≡ l
  unfolding with_note
  with_passed k e = rw e

  pub with_first : (k : Kind) → k ≡ Kind.First → with_note k j l ≡ ([], (j, l.0) ∷ l.1)
  unfolding with_note
  with_first k e = rw e

  pub with_later : (k : Kind) → (k ≡ Kind.Passed → ⊥) → (k ≡ Kind.First → ⊥) → with_note k j l ≡ (j ∷ l.0, l.1)
  unfolding with_note
  with_later Kind.Passed n m = absurd (n refl)
  with_later Kind.Later n m = refl
  with_later Kind.First n m = absurd (m refl)

module _ (xs : List Stop) where
  -- a note that is no first is there
  pub within : (j : ℕ) → (kind_at xs j ≡ Kind.First → ⊥) → j < length xs
  within j n = go (dec_lt j (length xs))
    where
      go : Dec (j < length xs) → j < length xs
      go (yes h) = h
      go (no h) =
          let out : length xs ≤ j = omega arith in
          absurd (n (ap (λ (x : Stop). x.kind) (get_or-eq_default xs no_stop out)))

  pub left_here : (j : ℕ) → j < length xs → left_from xs j ≡ with_note (kind_at xs j) j (left_from xs (j + 1))
  unfolding left_by
  left_here j h = ap (λ (ys : List Stop). left_by j (kinds_of ys)) (drop_next xs j no_stop h) ∙ ap (λ (i : ℕ). with_note (kind_at xs j) j (left_by i (kinds_of (drop (j + 1) xs)))) (sym (add-one j))

  pub left_over : (j : ℕ) → length xs ≤ j → left_from xs j ≡ ([], [])
  unfolding left_by
  left_over j h = ap (λ (ys : List Stop). left_by j (kinds_of ys)) (drop_of_length-le xs h)

  -- at the first note of a measure, or behind the last note, nothing is left of the measure before
  pub left_first : (j : ℕ) → kind_at xs j ≡ Kind.First → (left_from xs j).0 ≡ []
  left_first j e = go (dec_lt j (length xs))
    where
      go : Dec (j < length xs) → (left_from xs j).0 ≡ []
      go (yes h) = ap (λ (l : Left). l.0) (left_here j h ∙ with_first j (left_from xs (j + 1)) (kind_at xs j) e)
      go (no h) = ap (λ (l : Left). l.0) (left_over j (omega arith))

  -- NOTES THAT TAKE NO SYLLABLE
  pub left_passed : (i n : ℕ) → ((k : ℕ) → i ≤ k → k < i + n → kind_at xs k ≡ Kind.Passed) → left_from xs i ≡ left_from xs (i + n)
  left_passed i zero h = ap (left_from xs) (sym (add-zero i))
  left_passed i (suc n) h =
      let e : kind_at xs i ≡ Kind.Passed = h i (omega arith) (omega arith) in
      let j : i + 1 + n ≡ i + suc n = omega arith in
      left_here i (within i (apart (kind_at xs i) e)) ∙ with_passed i (left_from xs (i + 1)) (kind_at xs i) e
      ∙ left_passed (i + 1) n (λ k l m. h k (omega arith) (omega arith)) ∙ ap (left_from xs) j

  -- NOTES OF WHICH NONE IS A FIRST
  module _ (i : ℕ) (n : kind_at xs i ≡ Kind.First → ⊥) where
    behind_same : (left_from xs i).1 ≡ (left_from xs (i + 1)).1
    behind_same =
        by_passed (kind_at xs i)
        (λ e. ap (λ (l : Left). l.1) (left_here i (within i n) ∙ with_passed i (left_from xs (i + 1)) (kind_at xs i) e))
        (λ e. ap (λ (l : Left). l.1) (left_here i (within i n) ∙ with_later i (left_from xs (i + 1)) (kind_at xs i) e n))

  -- the measures behind them are the same
  pub left_moved : (i n : ℕ) → ((k : ℕ) → i ≤ k → k < i + n → kind_at xs k ≡ Kind.First → ⊥) → (left_from xs i).1 ≡ (left_from xs (i + n)).1
  left_moved i zero h = ap (λ (k : ℕ). (left_from xs k).1) (sym (add-zero i))
  left_moved i (suc n) h =
      let j : i + 1 + n ≡ i + suc n = omega arith in
      behind_same i (h i (omega arith) (omega arith)) ∙ left_moved (i + 1) n (λ k l m. h k (omega arith) (omega arith)) ∙ ap (λ (k : ℕ). (left_from xs k).1) j

  -- the last of them that takes a syllable, or the note before them
  pub back_taker : (i : ℕ) → (kind_at xs i ≡ Kind.Passed → ⊥) → back_of xs (i + 1) ≡ suc i
  unfolding passed_place
  back_taker i n = back_here xs (i + 1) (rw (add-one i) (not_passed (kind_at xs i) n)) ∙ add-one i

  back_other : (i : ℕ) → kind_at xs i ≡ Kind.Passed → back_of xs (i + 1) ≡ back_of xs i
  back_other i e = back_passed xs i 1 (λ k l m. let f : k ≡ i = omega arith in ap (kind_at xs) f ∙ e)

  module _ (i : ℕ) (n : kind_at xs i ≡ Kind.First → ⊥) where
    last_same : last_or (note_at (back_of xs i)) (left_from xs i).0 ≡ last_or (note_at (back_of xs (i + 1))) (left_from xs (i + 1)).0
    unfolding last_or note_at
    last_same =
        by_passed (kind_at xs i)
        (λ e.
        let k : kind_at xs i ≡ Kind.Passed = e in
        let l = left_here i (within i n) ∙ with_passed i (left_from xs (i + 1)) (kind_at xs i) k in
        λ m. last_or (note_at (sym (back_other i k) m)) (l m).0)
        (λ e.
        let k : kind_at xs i ≡ Kind.Passed → ⊥ = e in
        let l = left_here i (within i n) ∙ with_later i (left_from xs (i + 1)) (kind_at xs i) k n in
        ap (λ (r : Left). last_or (note_at (back_of xs i)) r.0) l ∙ ap (λ (p : ℕ). last_or (note_at p) (left_from xs (i + 1)).0) (sym (back_taker i k)))

  pub left_last : (i n : ℕ) → ((k : ℕ) → i ≤ k → k < i + n → kind_at xs k ≡ Kind.First → ⊥) → kind_at xs (i + n) ≡ Kind.First
      → last_or (note_at (back_of xs i)) (left_from xs i).0 ≡ note_at (back_of xs (i + n))
  unfolding last_or
  left_last i zero h e =
      let j : i + 0 ≡ i = add-zero i in
      ap (last_or (note_at (back_of xs i))) (left_first i (ap (kind_at xs) (sym j) ∙ e)) ∙ ap (λ (k : ℕ). note_at (back_of xs k)) (sym j)
  left_last i (suc n) h e =
      let j : i + 1 + n ≡ i + suc n = omega arith in
      last_same i (h i (omega arith) (omega arith)) ∙ left_last (i + 1) n (λ k l m. h k (omega arith) (omega arith)) (ap (kind_at xs) j ∙ e) ∙ ap (λ (k : ℕ). note_at (back_of xs k)) j

-- THE MEASURES OF A LINE, from its first note on
-- of measures that are given whole
later : ℕ → List SungBar → List SungBar
later start bs = concat (map (λ (b : SungBar). bar_of (filter (leb start) (b.0 ∷ b.1))) bs)

-- of what is left
later_left : ℕ → Left → List SungBar
later_left start l = bar_of (filter (leb start) l.0) ++ later start l.1

all_from_0 : (is : List ℕ) → All (λ i. leb 0 i ≡ true) is
all_from_0 [] = tt
all_from_0 (i ∷ is) = (le-leb 0 i (omega arith), all_from_0 is)

pub whole : (is : List ℕ) → filter (leb 0) is ≡ is
whole is = filter_whole (leb 0) is (all_from_0 is)

from_later : (start : ℕ) (ms : List (List ℕ)) → bars_from start ms ≡ later start (bars_from 0 ms)
unfolding bars_from later bar_of
from_later start [] = refl
from_later start ([] ∷ ms) = from_later start ms
from_later start ((i ∷ is) ∷ ms) =
    let e : filter (leb 0) (i ∷ is) ≡ i ∷ is = whole (i ∷ is) in
    ap (λ (bs : List SungBar). bar_of (filter (leb start) (i ∷ is)) ++ bs) (from_later start ms) ∙ ap (λ (ks : List ℕ). later start (bar_of ks ++ bars_from 0 ms)) (sym e)

-- a note before the first is left out
skip_note : (start j : ℕ) (k : Kind) (l : Left) → j < start → later_left start (with_note k j l) ≡ later_left start l
unfolding later_left later bar_of
skip_note start j k l h =
    let out : filter (leb start) (j ∷ l.0) ≡ filter (leb start) l.0 = filter_no (leb start) j l.0 (lt-leb start j h) in
    by_passed k (λ e. ap (later_left start) (with_passed j l k e))
    (λ e. by_first k
    (λ f. ap (later_left start) (with_first j l k f) ∙ ap (λ (is : List ℕ). bar_of is ++ later start l.1) out)
    (λ f. ap (later_left start) (with_later j l k e f) ∙ ap (λ (is : List ℕ). bar_of is ++ later start l.1) out))

skip_notes : (xs : List Stop) (start n : ℕ) → n ≤ start → n ≤ length xs → later_left start (left_from xs 0) ≡ later_left start (left_from xs n)
skip_notes xs start zero h l = refl
skip_notes xs start (suc n) h l =
    skip_notes xs start n (omega arith) (omega arith)
    ∙ ap (later_left start) (left_here xs n (omega arith)) ∙ skip_note start n (kind_at xs n) (left_from xs (n + 1)) (omega arith)
    ∙ ap (λ (k : ℕ). later_left start (left_from xs k)) (add-one n)

-- and no other
keep_notes : (start j : ℕ) (ks : List Kind) → start ≤ j → (filter (leb start) (left_by j ks).0 ≡ (left_by j ks).0) × (later start (left_by j ks).1 ≡ (left_by j ks).1)
unfolding left_by later bar_of
keep_notes start j [] h = (refl, refl)
keep_notes start j (k ∷ ks) h =
    let l = left_by (suc j) ks in
    let r = keep_notes start (suc j) ks (omega arith) in
    let own : filter (leb start) (j ∷ l.0) ≡ j ∷ l.0 = filter_yes (leb start) j l.0 (le-leb start j h) ∙ ap (λ (is : List ℕ). j ∷ is) r.0 in
    by_passed k (λ e. rw (with_passed j l k e) r)
    (λ e. by_first k
    (λ f. rw (with_first j l k f) (refl, λ i. bar_of (own i) ++ r.1 i))
    (λ f. rw (with_later j l k e f) (own, r.1)))

-- so they are what is left from it on
pub line_bars : (xs : List Stop) (start : ℕ) (ms : List (List ℕ)) → left_from xs 0 ≡ ([], bars_from 0 ms) → bars_from start ms ≡ bar_of (left_from xs start).0 ++ (left_from xs start).1
unfolding later_left bar_of later
line_bars xs start ms e = from_later start ms ∙ ap (later_left start) (sym e) ∙ go (dec_lt (length xs) start)
  where
    go : Dec (length xs < start) → later_left start (left_from xs 0) ≡ bar_of (left_from xs start).0 ++ (left_from xs start).1
    go (yes h) =
        skip_notes xs start (length xs) (omega arith) (omega arith) ∙ ap (later_left start) (left_over xs (length xs) (omega arith))
        ∙ ap (λ (l : Left). bar_of l.0 ++ l.1) (sym (left_over xs start (omega arith)))
    go (no h) =
        let k = keep_notes start start (kinds_of (drop start xs)) (omega arith) in
        skip_notes xs start start (omega arith) (omega arith) ∙ (λ i. bar_of (k.0 i) ++ k.1 i)
