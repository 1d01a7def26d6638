-- THE RULES BY MEASURE, SECTION AND PASS ALONE. Assumes nothing.
use Prim.Native.Nat.{ℕ, suc, ◌≤◌}
use mathlib.Core.Path.{◌≡◌, refl, sym, ap, subst, ◌∙◌}
use mathlib.Core.Bool.{Bool, true, false, cond, ◌&&◌, false≢true}
use mathlib.Core.Option.{none, some}
use mathlib.Core.List.{List, [], ◌∷◌, ◌++◌}
use native.Mathlib.Omega.{arith}
use lib.Dec.{eqb, ltb}
use lib.ListN.{get_elem?}
use borrow.Author.Tests.{ltb-true, ltb-false, lt-ltb, le-ltb, eqb-true, ne_eqb}
use Rattle.laws.proofs.Bools.{by_test}
use Rattle.reading_walk.specs.Walk.{Bar, Place, opens, closes, limit, is_skipped, ahead, begin, again, entered, left_behind, next, listed, played_from}
use Rattle.reading_walk.specs.Passes.{standing, played_at, played_on, played_past}
use Rattle.reading_walk.proofs.Ends.{Stands, rule_end, rule_step}
use Rattle.reading_walk.proofs.Forward.{forward_behind}

-- A PLAYER STANDS so
fresh_one : (m s p : ℕ) → cond (eqb p 1) true (ltb s m) ≡ true → m ≡ s → p ≡ 1
fresh_one m s p f e =
    by_test (eqb p 1) (λ q. eqb-true p 1 q)
    (λ q. absurd (omega (arith, e, ltb-true s m (subst (λ (c : Bool). cond c true (ltb s m) ≡ true) q f))))

back_start : (m s p : ℕ) → s ≤ m → cond (eqb p 1) true (ltb s m) ≡ false → m ≡ s
back_start m s p h f =
    by_test (eqb p 1) (λ q. absurd (false≢true (sym f ∙ ap (λ (c : Bool). cond c true (ltb s m)) q)))
    (λ q. omega (arith, h, ltb-false s m (subst (λ (c : Bool). cond c true (ltb s m) ≡ false) q f)))

pub stands : (m s p : ℕ) → s ≤ m → p ≤ 32 → Stands (standing m s p)
unfolding standing
stands m s p h k = record { behind = h; passes = k; fresh = fresh_one m s p; back = back_start m s p h }

-- the next measure; the section again
ahead_standing : (m s p : ℕ) → s ≤ m → ahead (standing m s p) ≡ standing (suc m) s p
unfolding standing ahead
ahead_standing m s p h =
    let f : true ≡ cond (eqb p 1) true (ltb s (suc m)) = by_test (eqb p 1) (λ q. rw q refl) (λ q. rw (q, lt-ltb s (suc m) (omega (arith, h))) refl) in
    λ i. record { at = suc m; section = s; pass = p; forward = f i }

again_standing : (m s p : ℕ) → 1 ≤ p → again (standing m s p) ≡ standing s s (suc p)
unfolding standing again
again_standing m s p h =
    let f : false ≡ cond (eqb (suc p) 1) true (ltb s s) = rw (ne_eqb (suc p) 1 (λ e. absurd (omega (arith, e, h))), le-ltb s s (omega arith)) refl in
    λ i. record { at = s; section = s; pass = suc p; forward = f i }

-- THE RULES: the walk ends
pub played_end : (bars : List Bar) (m s p : ℕ) → get_elem? bars m ≡ none → played_at bars m s p ≡ []
unfolding played_at standing
played_end bars m s p e = rule_end bars (standing m s p) e

-- a measure is left out
pub played_skip : (bars : List Bar) (m s p : ℕ) (b : Bar) → s ≤ m → p ≤ 32 → get_elem? bars m ≡ some b → is_skipped b.span p ≡ true → played_at bars m s p ≡ played_at bars (suc m) s p
unfolding played_at listed next standing
played_skip bars m s p b h k g e =
    rule_step bars (standing m s p) b (stands m s p h k) g
    ∙ ap (λ (c : Bool). cond c [] (suc m ∷ []) ++ played_from bars (cond c (ahead (standing m s p)) (left_behind bars (entered (standing m s p) b) b))) e
    ∙ ap (played_from bars) (ahead_standing m s p h)

-- a measure is played
played_listed : (bars : List Bar) (m s p : ℕ) (b : Bar) → s ≤ m → p ≤ 32 → get_elem? bars m ≡ some b → is_skipped b.span p ≡ false
    → played_at bars m s p ≡ suc m ∷ played_from bars (left_behind bars (entered (standing m s p) b) b)
unfolding played_at listed next standing
played_listed bars m s p b h k g e =
    rule_step bars (standing m s p) b (stands m s p h k) g
    ∙ ap (λ (c : Bool). cond c [] (suc m ∷ []) ++ played_from bars (cond c (ahead (standing m s p)) (left_behind bars (entered (standing m s p) b) b))) e

-- it opens no section, or one where he stands
pub played_stay : (bars : List Bar) (m s p : ℕ) (b : Bar) → s ≤ m → p ≤ 32 → get_elem? bars m ≡ some b → is_skipped b.span p ≡ false → (ltb s m && opens b.left) ≡ false
    → played_at bars m s p ≡ suc m ∷ played_past bars m s p b
unfolding played_past standing
played_stay bars m s p b h k g e o =
    played_listed bars m s p b h k g e
    ∙ ap (λ (w : Place). suc m ∷ played_from bars (left_behind bars w b))
    (forward_behind (standing m s p) b (stands m s p h k) ∙ ap (λ (c : Bool). cond c (begin m) (standing m s p)) o)

pub played_open : (bars : List Bar) (m s p : ℕ) (b : Bar) → s ≤ m → p ≤ 32 → get_elem? bars m ≡ some b → is_skipped b.span p ≡ false → (ltb s m && opens b.left) ≡ true
    → played_at bars m s p ≡ suc m ∷ played_past bars m m 1 b
unfolding played_past standing begin
played_open bars m s p b h k g e o =
    played_listed bars m s p b h k g e
    ∙ ap (λ (w : Place). suc m ∷ played_from bars (left_behind bars w b))
    (forward_behind (standing m s p) b (stands m s p h k) ∙ ap (λ (c : Bool). cond c (begin m) (standing m s p)) o)

-- and then goes on
pub past_on : (bars : List Bar) (m s p : ℕ) (b : Bar) → s ≤ m → closes b.right ≡ false → played_past bars m s p b ≡ played_at bars (suc m) s p
unfolding played_past played_at left_behind
past_on bars m s p b h e = rw e (ap (played_from bars) (ahead_standing m s p h))

-- or closes the pass
pub past_close : (bars : List Bar) (m s p : ℕ) (b : Bar) → 1 ≤ p → closes b.right ≡ true → played_past bars m s p b ≡ played_on bars m s p
unfolding played_past played_at played_on left_behind standing begin
past_close bars m s p b h e =
    rw e
    (by_test (ltb p (limit bars s)) (λ l. rw l (ap (played_from bars) (again_standing m s p h))) (λ l. rw l refl))
