-- Syllables by verse.
use Prim.Native.Nat.{ℕ, zero, suc, ◌+◌, ◌≤◌, ◌<◌, max}
use mathlib.Core.Path.{◌≡◌, refl, sym, ap, ◌∙◌}
use mathlib.Core.Bool.{Bool, true, false, cond, ◌&&◌}
use mathlib.Core.List.{List, [], ◌∷◌, ◌++◌, map}
use native.Mathlib.Decide.{dec_lt}
use native.Mathlib.Omega.{arith}
use lib.Dec.{eqb, leb, ltb}
use borrow.Author.Tests.{eq-eqb, ne_eqb, eqb-true, eqb-false, le-leb, lt-leb, lt-ltb, le-ltb, ltb-true, ltb-false}
use Rattle.laws.specs.Lists.{All}
use Rattle.laws.proofs.Bools.{by_test}
use Rattle.reader.specs.Lyrics.{Syllable, put, held}
use Rattle.std.specs.Prelude.{Option, Some, None}
use Rattle.lyric_words.specs.declared.Syllabic.{Syllabic}
use Rattle.lyrics.specs.Sheet.{syllable_of, apply_as, apply_row, sung_from, RowRead, row_of, row_at, next_of}
use Rattle.lyric_walk.specs.Walks.{of_verse, within, InSpan}

-- RISING VERSES
abbrev pub Rising : ℕ → List Syllable → Type 0
Rising low [] = Unit {0}
Rising low (y ∷ ys) = (low ≤ y.verse) × Rising (suc y.verse) ys

rising_put : (low : ℕ) (x : Syllable) (ys : List Syllable) → low ≤ x.verse → Rising low ys → Rising low (put x ys)
unfolding put
rising_put low x [] h r = (h, tt)
rising_put low x (y ∷ ys) h r =
    by_test (ltb y.verse x.verse) (λ e. rw (e, put) (r.0, rising_put (suc y.verse) x ys (ltb-true y.verse x.verse e) r.1))
    (λ e. by_test (eqb y.verse x.verse) (λ f. rw (e, f, put) (h, rw (eqb-true y.verse x.verse f) at r.1))
    (λ f. rw (e, f, put) (h, (above (ltb-false y.verse x.verse e) (eqb-false y.verse x.verse f), r.1))))
  where
    above : x.verse ≤ y.verse → (y.verse ≡ x.verse → ⊥) → suc x.verse ≤ y.verse
    above a b = omega arith

pub held_verse : (v : ℕ) (y : Syllable) → (held v y).verse ≡ y.verse
unfolding held
held_verse v y = by_test (eqb y.verse v) (λ e. rw (e, held)) (λ e. rw (e, held))

rising_held : (low v : ℕ) (ys : List Syllable) → Rising low ys → Rising low (map (held v) ys)
rising_held low v [] r = tt
rising_held low v (y ∷ ys) r = rw (held_verse v y) (r.0, rising_held (suc y.verse) v ys r.1)

-- a row by its syllabic: a hold has none
pub by_syllabic : {P : Type 0} (o : Option Syllabic) → (o ≡ None → P) → ((c : Syllabic) → o ≡ Some c → P) → P
by_syllabic None f g = f refl
by_syllabic (Some c) f g = g c refl

pub rising_row : (text : List ℕ) (r : RowRead) (ys : List Syllable) → Rising 0 ys → Rising 0 (apply_row text r ys)
unfolding apply_as syllable_of
rising_row text r ys h = by_syllabic r.syllabic (λ e. rw (e, apply_as) (rising_held 0 r.verse ys h)) (λ c e. rw (e, apply_as) (rising_put 0 (syllable_of text r c) ys (omega arith) h))

pub rising_chain : (text s : List ℕ) (log n k : ℕ) → Rising 0 (sung_from text s log n k)
unfolding sung_from
rising_chain text s log zero k = tt
rising_chain text s log (suc n) k =
    by_test (eqb k (suc n)) (λ e. rw (e, sung_from) (rising_row text (row_of (row_at s log n)) (sung_from text s log n (next_of (row_at s log n))) (rising_chain text s log n (next_of (row_at s log n)))))
    (λ e. rw (e, sung_from) (rising_chain text s log n k))

-- ONE VERSE
of_yes : (v : ℕ) (y : Syllable) (ys : List Syllable) → y.verse ≡ v → of_verse v (y ∷ ys) ≡ y ∷ of_verse v ys
of_yes v y ys e = rw (eq-eqb y.verse v e)

of_no : (v : ℕ) (y : Syllable) (ys : List Syllable) → (y.verse ≡ v → ⊥) → of_verse v (y ∷ ys) ≡ of_verse v ys
of_no v y ys d = rw (ne_eqb y.verse v d)

-- none among greater ones
of_above : (v low : ℕ) (ys : List Syllable) → v < low → Rising low ys → of_verse v ys ≡ []
of_above v low [] h r = refl
of_above v low (y ∷ ys) h r = of_no v y ys (λ e. absurd (omega (arith, e, r.0))) ∙ of_above v (suc y.verse) ys (omega (arith, r.0)) r.1

-- another verse sung
of_put_other : (v : ℕ) (x : Syllable) (ys : List Syllable) → (x.verse ≡ v → ⊥) → of_verse v (put x ys) ≡ of_verse v ys
unfolding put
of_put_other v x [] d = of_no v x [] d
of_put_other v x (y ∷ ys) d =
    by_test (ltb y.verse x.verse)
    (λ e. rw (e, put) (by_test (eqb y.verse v) (λ f. rw f (ap (λ (r : List Syllable). y ∷ r) (of_put_other v x ys d))) (λ f. rw f (of_put_other v x ys d))))
    (λ e. by_test (eqb y.verse x.verse)
    (λ f. rw (e, f, put) (of_no v x ys d ∙ sym (of_no v y ys (λ g. d (sym (eqb-true y.verse x.verse f) ∙ g)))))
    (λ f. rw (e, f, put) (of_no v x (y ∷ ys) d)))

-- this verse sung: it replaces
of_put_same : (v low : ℕ) (x : Syllable) (ys : List Syllable) → x.verse ≡ v → Rising low ys → of_verse v (put x ys) ≡ x ∷ []
unfolding put
of_put_same v low x [] e r = of_yes v x [] e
of_put_same v low x (y ∷ ys) e r =
    by_test (ltb y.verse x.verse)
    (λ f. rw (f, put) (of_no v y (put x ys) (λ g. absurd (omega (arith, g, ltb-true y.verse x.verse f))) ∙ of_put_same v (suc y.verse) x ys e r.1))
    (λ f. by_test (eqb y.verse x.verse)
    (λ g. rw (f, g, put) (of_yes v x ys e ∙ ap (λ (l : List Syllable). x ∷ l) (of_above v (suc y.verse) ys (omega (arith, eqb-true y.verse x.verse g)) r.1)))
    (λ g. rw (f, g, put) (of_yes v x (y ∷ ys) e ∙ ap (λ (l : List Syllable). x ∷ l) (of_above v y.verse (y ∷ ys) (above (ltb-false y.verse x.verse f) (eqb-false y.verse x.verse g)) (omega arith, r.1)))))
  where
    above : x.verse ≤ y.verse → (y.verse ≡ x.verse → ⊥) → v < y.verse
    above a b = omega arith

of_held : (v u : ℕ) (ys : List Syllable) → of_verse v (map (held u) ys) ≡ map (held u) (of_verse v ys)
of_held v u [] = refl
of_held v u (y ∷ ys) =
    let e = held_verse u y in
    by_test (eqb y.verse v)
    (λ f. of_yes v (held u y) (map (held u) ys) (e ∙ eqb-true y.verse v f) ∙ ap (λ (l : List Syllable). held u y ∷ l) (of_held v u ys) ∙ ap (map (held u)) (sym (of_yes v y ys (eqb-true y.verse v f))))
    (λ f. let d = eqb-false y.verse v f in
    of_no v (held u y) (map (held u) ys) (λ g. d (sym e ∙ g)) ∙ of_held v u ys ∙ ap (map (held u)) (sym (of_no v y ys d)))

-- HOLDS
-- held, or not
abbrev pub held_by : ℕ → Bool → List Syllable → List Syllable
held_by v true ys = map (held v) ys
held_by v false ys = ys

held_other_one : (v u : ℕ) (y : Syllable) → (y.verse ≡ u → ⊥) → held u y ≡ y
unfolding held
held_other_one v u y d = rw (ne_eqb y.verse u d, held)

-- a hold of another verse
held_other : (v u : ℕ) (ys : List Syllable) → (u ≡ v → ⊥) → map (held u) (of_verse v ys) ≡ of_verse v ys
held_other v u [] d = refl
held_other v u (y ∷ ys) d =
    by_test (eqb y.verse v)
    (λ f. let e = eqb-true y.verse v f in
    ap (map (held u)) (of_yes v y ys e) ∙ (λ i. held_other_one v u y (λ g. d (sym g ∙ e)) i ∷ held_other v u ys d i) ∙ sym (of_yes v y ys e))
    (λ f. let n = eqb-false y.verse v f in
    ap (map (held u)) (of_no v y ys n) ∙ held_other v u ys d ∙ sym (of_no v y ys n))

held_again_one : (v : ℕ) (y : Syllable) → held v (held v y) ≡ held v y
unfolding held
held_again_one v y = by_test (eqb y.verse v) (λ e. rw (e, held) (rw (e, held))) (λ e. rw (e, held) (rw (e, held)))

held_again : (v : ℕ) (ys : List Syllable) → map (held v) (map (held v) ys) ≡ map (held v) ys
held_again v [] = refl
held_again v (y ∷ ys) = λ i. held_again_one v y i ∷ held_again v ys i

held_by_lem : (v : ℕ) (x : Bool) (ys : List Syllable) → held_by v x (map (held v) ys) ≡ held_by v true ys
held_by_lem v true ys = held_again v ys
held_by_lem v false ys = refl

-- A ROW of another verse; a hold of this verse; its syllable
module _ (text : List ℕ) (r : RowRead) (v : ℕ) (ys : List Syllable) where
  pub of_other : (r.verse ≡ v → ⊥) → of_verse v (apply_row text r ys) ≡ of_verse v ys
  unfolding apply_as syllable_of
  of_other d =
      by_syllabic r.syllabic (λ e. rw (e, apply_as) (of_held v r.verse ys ∙ held_other v r.verse ys d))
      (λ c e. rw (e, apply_as) (of_put_other v (syllable_of text r c) ys d))

  pub of_hold : (x : Bool) → r.verse ≡ v → r.syllabic ≡ None → held_by v x (of_verse v (apply_row text r ys)) ≡ held_by v true (of_verse v ys)
  unfolding apply_as
  of_hold x d e =
      rw (e, apply_as) (ap (held_by v x) (of_held v r.verse ys) ∙ ap (λ (u : ℕ). held_by v x (map (held u) (of_verse v ys))) d ∙ held_by_lem v x (of_verse v ys))

  pub of_found : (c : Syllabic) → r.verse ≡ v → r.syllabic ≡ Some c → Rising 0 ys → of_verse v (apply_row text r ys) ≡ syllable_of text r c ∷ []
  unfolding apply_as syllable_of
  of_found c d e rising = rw (e, apply_as) (of_put_same v 0 (syllable_of text r c) ys d rising)

-- VERSES FROM ONE ON, BELOW ANOTHER
module _ (a b : ℕ) (y : Syllable) (ys : List Syllable) where
  in_yes : a ≤ y.verse → y.verse < b → within a b (y ∷ ys) ≡ y ∷ within a b ys
  in_yes h l = rw (le-leb a y.verse h, lt-ltb y.verse b l)

  in_below : y.verse < a → within a b (y ∷ ys) ≡ within a b ys
  in_below h = rw (lt-leb a y.verse h)

  in_above : b ≤ y.verse → within a b (y ∷ ys) ≡ within a b ys
  in_above h = by_test (leb a y.verse) (λ e. rw (e, le-ltb y.verse b h)) (λ e. rw e)

-- none among greater ones
within_above : (a b low : ℕ) (ys : List Syllable) → b ≤ low → Rising low ys → within a b ys ≡ []
within_above a b low [] h r = refl
within_above a b low (y ∷ ys) h r = in_above a b y ys (omega (arith, r.0)) ∙ within_above a b (suc y.verse) ys (omega (arith, r.0)) r.1

-- in two parts
pub within_split : (a b c low : ℕ) (ys : List Syllable) → a ≤ b → b ≤ c → Rising low ys → within a c ys ≡ within a b ys ++ within b c ys
within_split a b c low [] h l r = refl
within_split a b c low (y ∷ ys) h l r = go (within_split a b c (suc y.verse) ys h l r.1) (dec_lt y.verse a) (dec_lt y.verse b) (dec_lt y.verse c)
  where
    go : within a c ys ≡ within a b ys ++ within b c ys → Dec (y.verse < a) → Dec (y.verse < b) → Dec (y.verse < c) → within a c (y ∷ ys) ≡ within a b (y ∷ ys) ++ within b c (y ∷ ys)
    go ih (yes p) q t = in_below a c y ys p ∙ ih ∙ sym (λ i. in_below a b y ys p i ++ in_below b c y ys (omega arith) i)
    go ih (no p) (yes q) t =
        in_yes a c y ys (omega arith) (omega arith) ∙ ap (λ (l : List Syllable). y ∷ l) ih
        ∙ sym (λ i. in_yes a b y ys (omega arith) q i ++ in_below b c y ys q i)
    go ih (no p) (no q) (yes t) =
        let none : within a b ys ≡ [] = within_above a b (suc y.verse) ys (omega arith) r.1 in
        in_yes a c y ys (omega arith) t ∙ ap (λ (l : List Syllable). y ∷ l) (ih ∙ ap (λ (l : List Syllable). l ++ within b c ys) none)
        ∙ sym (λ i. (in_above a b y ys (omega arith) ∙ none) i ++ in_yes b c y ys (omega arith) t i)
    go ih (no p) (no q) (no t) =
        in_above a c y ys (omega arith) ∙ ih ∙ sym (λ i. in_above a b y ys (omega arith) i ++ in_above b c y ys (omega arith) i)

-- one verse
one_verse : (x v : ℕ) → (leb v x && ltb x (v + 1)) ≡ eqb x v
one_verse x v = go (dec_lt x v) (dec_lt v x)
  where
    go : Dec (x < v) → Dec (v < x) → (leb v x && ltb x (v + 1)) ≡ eqb x v
    go (yes p) q = rw (lt-leb v x p, ne_eqb x v (λ e. absurd (omega (arith, e))))
    go (no p) (yes q) = rw (le-leb v x (omega arith), le-ltb x (v + 1) (omega arith), ne_eqb x v (λ e. absurd (omega (arith, e))))
    go (no p) (no q) = rw (le-leb v x (omega arith), lt-ltb x (v + 1) (omega arith), eq-eqb x v (omega arith))

within_one : (v : ℕ) (ys : List Syllable) → within v (v + 1) ys ≡ of_verse v ys
within_one v [] = refl
within_one v (y ∷ ys) = λ i. cond (one_verse y.verse v i) (y ∷ within_one v ys i) (within_one v ys i)

-- verse by verse
pub within_next : (v b : ℕ) (ys : List Syllable) → v < b → Rising 0 ys → within v b ys ≡ of_verse v ys ++ within (v + 1) b ys
within_next v b ys h r = within_split v (v + 1) b 0 ys (omega arith) (omega arith) r ∙ ap (λ (l : List Syllable). l ++ within (v + 1) b ys) (within_one v ys)

-- all of them
pub within_all : (b : ℕ) (ys : List Syllable) → All (λ (y : Syllable). y.verse < b) ys → within 0 b ys ≡ ys
within_all b [] a = refl
within_all b (y ∷ ys) a = in_yes 0 b y ys (omega arith) a.0 ∙ ap (λ (l : List Syllable). y ∷ l) (within_all b ys a.1)

-- from the least verse on
pub within_start : (a b least most : ℕ) (ys : List Syllable) → All (InSpan least most) ys → within a b ys ≡ within (max least a) b ys
within_start a b least most [] h = refl
within_start a b least most (y ∷ ys) h =
    λ i. cond (same i && ltb y.verse b) (y ∷ within_start a b least most ys h.1 i) (within_start a b least most ys h.1 i)
  where
    same : leb a y.verse ≡ leb (max least a) y.verse
    same = go (dec_lt y.verse a)
      where
        go : Dec (y.verse < a) → leb a y.verse ≡ leb (max least a) y.verse
        go (yes p) = rw (lt-leb a y.verse p, lt-leb (max least a) y.verse (omega arith))
        go (no p) = rw (le-leb a y.verse (omega arith), le-leb (max least a) y.verse (omega (arith, h.0.0)))

-- none past the greatest
pub within_past : (a b least most : ℕ) (ys : List Syllable) → All (InSpan least most) ys → most < a → within a b ys ≡ []
within_past a b least most [] h l = refl
within_past a b least most (y ∷ ys) h l = in_below a b y ys (omega (arith, h.0.1)) ∙ within_past a b least most ys h.1 l

pub within_none : (a b : ℕ) (ys : List Syllable) → b ≤ a → within a b ys ≡ []
within_none a b [] h = refl
within_none a b (y ∷ ys) h = go (dec_lt y.verse a) ∙ within_none a b ys h
  where
    go : Dec (y.verse < a) → within a b (y ∷ ys) ≡ within a b ys
    go (yes p) = in_below a b y ys p
    go (no p) = in_above a b y ys (omega arith)
