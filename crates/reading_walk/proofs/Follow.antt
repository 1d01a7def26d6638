-- A PASS LISTS AGAIN what the same pass listed of an earlier section, from the later start on. Assumes nothing.
use Prim.Native.Nat.{ℕ, zero, suc, ◌≤◌, ◌<◌}
use mathlib.Core.Path.{◌≡◌, refl, sym, ap, subst, ◌∙◌}
use mathlib.Core.Bool.{Bool, true, false, ◌&&◌}
use mathlib.Core.Option.{some}
use mathlib.Core.List.{List, [], ◌∷◌, ◌++◌, append_assoc}
use native.Mathlib.Omega.{arith}
use lib.Dec.{ltb}
use lib.ListN.{drop, get_elem?}
use borrow.Author.Tests.{ltb-true, ltb-false, lt-ltb}
use Rattle.laws.specs.Lists.{All}
use Rattle.laws.proofs.Bools.{by_test, and_no_right}
use Rattle.reading_walk.specs.Walk.{Bar, opens, closes, is_skipped}
use Rattle.reading_list.specs.Numbers.{above}
use Rattle.reading_list.proofs.Above.{above_both, above_none, above_yes}
use Rattle.reading_walk.specs.Passes.{played_at, played_past, segment, Follows, Closes, Walking, Listing, Closed}
use Rattle.reading_walk.proofs.Passes.{played_skip, played_stay, played_open, past_on, past_close}

-- LISTS: a number more
pub seg_more : (all : List ℕ) (from c x : ℕ) (l : List ℕ) → from ≤ c → drop c all ≡ x ∷ l → segment all from (suc c) ≡ segment all from c ++ (x ∷ [])
unfolding segment
seg_more [] from zero x l h e = let z : ◌≡◌ {A = ℕ} 0 1 = cc in absurd (omega arith)
seg_more [] from (suc c) x l h e = let z : ◌≡◌ {A = ℕ} 0 1 = cc in absurd (omega arith)
seg_more (y ∷ ys) zero zero x l h e = ap (λ (n : ℕ). n ∷ []) (heads y x ys l e)
  where
    heads : (a b : ℕ) (k m : List ℕ) → a ∷ k ≡ b ∷ m → a ≡ b
    heads a b k m q = cc
seg_more (y ∷ ys) (suc from) zero x l h e = absurd (omega (arith, h))
seg_more (y ∷ ys) zero (suc c) x l h e = ap (λ (k : List ℕ). y ∷ k) (seg_more ys zero c x l (omega arith) e)
seg_more (y ∷ ys) (suc from) (suc c) x l h e = seg_more ys from c x l (omega (arith, h)) e

pub drop_next : (all : List ℕ) (c x : ℕ) (l : List ℕ) → drop c all ≡ x ∷ l → drop (suc c) all ≡ l
drop_next [] zero x l e = let z : ◌≡◌ {A = ℕ} 0 1 = cc in absurd (omega arith)
drop_next [] (suc c) x l e = let z : ◌≡◌ {A = ℕ} 0 1 = cc in absurd (omega arith)
drop_next (y ∷ ys) zero x l e = tails y x ys l e
  where
    tails : (a b : ℕ) (k m : List ℕ) → a ∷ k ≡ b ∷ m → k ≡ m
    tails a b k m q = cc
drop_next (y ∷ ys) (suc c) x l e = drop_next ys c x l e

pub seg_none : (all : List ℕ) (c : ℕ) → segment all c c ≡ []
unfolding segment
seg_none [] zero = refl
seg_none [] (suc c) = refl
seg_none (y ∷ ys) zero = refl
seg_none (y ∷ ys) (suc c) = seg_none ys c

-- the numbers above t, one more
above_one : (t m : ℕ) (xs : List ℕ) → t ≤ m → above t (xs ++ (suc m ∷ [])) ≡ above t xs ++ (suc m ∷ [])
above_one t m xs h = above_both t xs (suc m ∷ []) ∙ ap (λ (l : List ℕ). above t xs ++ l) (above_yes t (suc m) (omega (arith, h)))

higher : (m : ℕ) (xs : List ℕ) → All (λ x. x ≤ m) xs → All (λ x. x ≤ suc m) xs
higher m [] h = tt
higher m (x ∷ xs) h = (omega (arith, h.0), higher m xs h.1)

one_more : (m : ℕ) (xs : List ℕ) → All (λ x. x ≤ m) xs → All (λ x. x ≤ suc m) (xs ++ (suc m ∷ []))
one_more m [] h = (omega arith, tt)
one_more m (x ∷ xs) h = (omega (arith, h.0), one_more m xs h.1)

-- from the measure behind those listed nothing is listed again
last_one : (bars : List Bar) (p m t u : ℕ) (ns : List ℕ) → t ≡ suc m → All (λ x. x ≤ suc m) ns → played_at bars t u p ≡ above t ns ++ played_at bars (suc m) u p
last_one bars p m t u ns q a =
    ap (λ (i : ℕ). played_at bars i u p) q ∙ ap (λ (z : List ℕ). z ++ played_at bars (suc m) u p) (sym (above_none t ns (subst (λ (i : ℕ). All (λ x. x ≤ i) ns) (sym q) a)))

module _ (bars : List Bar) (all : List ℕ) where
  -- A PASS BEGINS at its section start or at the measure behind it
  pub walking_start : (m s p c : ℕ) → m ≤ suc s → drop c all ≡ played_at bars m s p → Walking bars all m s p c c
  unfolding Follows above
  walking_start m s p c l e =
      record {
        order = omega arith;
        rest = e;
        follows =
            λ t u h k j.
            let q : t ≡ m = omega (arith, h, k, l) in
            ap (λ (i : ℕ). played_at bars i u p) q ∙ ap (λ (z : List ℕ). above t z ++ played_at bars m u p) (sym (seg_none all c));
        below = subst (All (λ x. x ≤ m)) (sym (seg_none all c)) tt;
      }

  -- a measure is left out
  pub walking_skip : (m s p from c : ℕ) (b : Bar) → Walking bars all m s p from c → s ≤ m → p ≤ 32 → get_elem? bars m ≡ some b → is_skipped b.span p ≡ true
      → Walking bars all (suc m) s p from c
  unfolding Follows
  walking_skip m s p from c b w h k g e =
      record {
        order = w.order;
        rest = w.rest ∙ played_skip bars m s p b h k g e;
        follows =
            λ t u l v j.
            by_test (ltb m t) (λ q. last_one bars p m t u (segment all from c) (omega (arith, ltb-true m t q, v)) (higher m (segment all from c) w.below))
            (λ q. w.follows t u l (ltb-false m t q) j ∙ ap (λ (z : List ℕ). above t (segment all from c) ++ z) (played_skip bars m u p b (omega (arith, j, ltb-false m t q)) k g e));
        below = higher m (segment all from c) w.below;
      }

  -- a measure is played that opens no section, or one where he stands
  pub walking_stay : (m s p from c : ℕ) (b : Bar) → Walking bars all m s p from c → s ≤ m → p ≤ 32 → get_elem? bars m ≡ some b → is_skipped b.span p ≡ false
      → (ltb s m && opens b.left) ≡ false → Listing bars all m s p from c b
  walking_stay m s p from c b w h k g e o =
      record {
        order = w.order;
        rest = w.rest ∙ played_stay bars m s p b h k g e o;
        follows = w.follows;
        below = w.below;
        closed_to = λ l. ap (λ (c : Bool). c && opens b.left) (sym (lt-ltb s m l)) ∙ o;
        plays = λ l. e;
      }

  -- or opens a section
  pub walking_open : (m s p from c : ℕ) (b : Bar) → Walking bars all m s p from c → s ≤ m → p ≤ 32 → get_elem? bars m ≡ some b → is_skipped b.span p ≡ false
      → (ltb s m && opens b.left) ≡ true → Listing bars all m m 1 c c b
  unfolding Follows
  walking_open m s p from c b w h k g e o =
      record {
        order = omega arith;
        rest = w.rest ∙ played_open bars m s p b h k g e o;
        follows = λ t u x y j. absurd (omega (arith, x, y));
        below = subst (All (λ x. x ≤ m)) (sym (seg_none all c)) tt;
        closed_to = λ l. absurd (omega (arith, l));
        plays = λ l. absurd (omega (arith, l));
      }

  module _ (m s p from c : ℕ) (b : Bar) (w : Listing bars all m s p from c b) where
    -- from a later measure up to m
    listed_again : (t u : ℕ) → s < t → t ≤ m → u ≤ t → p ≤ 32 → get_elem? bars m ≡ some b → played_at bars t u p ≡ above t (segment all from c) ++ (suc m ∷ played_past bars m u p b)
    unfolding Follows
    listed_again t u l v j k g =
        let q : s < m = omega (arith, l, v) in
        w.follows t u l v j
        ∙ ap (λ (z : List ℕ). above t (segment all from c) ++ z) (played_stay bars m u p b (omega (arith, j, v)) k g (w.plays q) (and_no_right (ltb u m) (opens b.left) (w.closed_to q)))

    -- with m's number
    seg_listed : segment all from (suc c) ≡ segment all from c ++ (suc m ∷ [])
    seg_listed = seg_more all from c (suc m) (played_past bars m s p b) w.order w.rest

    moved : (t : ℕ) (z : List ℕ) → t ≤ m → above t (segment all from c) ++ (suc m ∷ z) ≡ above t (segment all from (suc c)) ++ z
    moved t z u =
        sym (append_assoc (above t (segment all from c)) (suc m ∷ []) z)
        ∙ ap (λ (y : List ℕ). y ++ z) (sym (above_one t m (segment all from c) u) ∙ ap (above t) (sym seg_listed))

    -- he goes on
    pub listing_on : s ≤ m → p ≤ 32 → get_elem? bars m ≡ some b → closes b.right ≡ false → Walking bars all (suc m) s p from (suc c)
    unfolding Follows
    listing_on h k g e =
        let below' : All (λ x. x ≤ suc m) (segment all from (suc c)) = subst (All (λ x. x ≤ suc m)) (sym seg_listed) (one_more m (segment all from c) w.below) in
        record {
          order = omega (arith, w.order);
          rest = drop_next all c (suc m) (played_past bars m s p b) w.rest ∙ past_on bars m s p b h e;
          follows =
              λ t u l v j.
              by_test (ltb m t) (λ q. last_one bars p m t u (segment all from (suc c)) (omega (arith, ltb-true m t q, v)) below')
              (λ q.
              listed_again t u l (ltb-false m t q) j k g
              ∙ moved t (played_past bars m u p b) (ltb-false m t q)
              ∙ ap (λ (z : List ℕ). above t (segment all from (suc c)) ++ z) (past_on bars m u p b (omega (arith, j, ltb-false m t q)) e));
          below = below';
        }

    -- or the pass is closed
    pub listing_close : 1 ≤ p → p ≤ 32 → get_elem? bars m ≡ some b → closes b.right ≡ true → Closed bars all m s p from (suc c)
    unfolding Closes
    listing_close h k g e =
        record {
          order = omega (arith, w.order);
          rest = drop_next all c (suc m) (played_past bars m s p b) w.rest ∙ past_close bars m s p b h e;
          again =
              λ t u l v j.
              listed_again t u l v j k g
              ∙ moved t (played_past bars m u p b) v
              ∙ ap (λ (z : List ℕ). above t (segment all from (suc c)) ++ z) (past_close bars m u p b h e);
        }
