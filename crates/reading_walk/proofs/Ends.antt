-- THE WALK ENDS, whatever the measures are: each step lowers the rank. So the list obeys the rules step by step, and nothing is cut off. Assumes nothing.
use Prim.Native.Nat.{ℕ, zero, suc, ◌+◌, ◌-◌, ◌*◌, ◌≤◌, ◌<◌, zero-le}
use mathlib.Core.Path.{◌≡◌, refl, sym, ap, ◌∙◌}
use mathlib.Core.Bool.{true, false, ◌&&◌, false≢true}
use mathlib.Core.Option.{Option, none, some}
use mathlib.Core.List.{List, [], ◌∷◌, ◌++◌}
use native.Mathlib.Nat.{suc-mul, add-zero, add-suc}
use native.Mathlib.Omega.{arith}
use lib.Dec.{eqb, ltb, lit≤}
use lib.ListN.{length, drop, get_elem?}
use borrow.Author.Tests.{ltb-true, eqb-true, eqb-false}
use Rattle.laws.proofs.Bools.{by_test, and_left}
use Rattle.reading_walk.specs.Walk.{Bar, Place, opens, closes, has_pass, greatest, top_of, top_before, limit_of, limit, is_skipped, ahead, begin, again, entered, left_behind, next, listed, walk, later, rank, played_from}

-- THE LIMIT is at most 32
greatest_most : (k ps : ℕ) → greatest k ps ≤ k
unfolding greatest
greatest_most zero ps = zero-le
greatest_most (suc k) ps = by_test (has_pass ps (suc k)) (λ e. rw e (omega arith)) (λ e. rw e (omega (arith, greatest_most k ps)))

top_most : (s : Option ℕ) → top_of s ≤ 32
unfolding top_of
top_most none = zero-le
top_most (some ps) = greatest_most 32 ps

before_most : (bs : List Bar) → top_before bs ≤ 32
unfolding top_before
before_most [] = zero-le
before_most (b ∷ bs) = by_test (opens b.left) (λ e. rw e zero-le) (λ e. rw e (omega (arith, top_most b.span, before_most bs)))

of_most : (bs : List Bar) → limit_of bs ≤ 32
unfolding limit_of
of_most [] = lit≤ tt
of_most (b ∷ bs) = omega (arith, top_most b.span, before_most bs)

pub limit_most : (bars : List Bar) (s : ℕ) → limit bars s ≤ 32
unfolding limit
limit_most bars s = of_most (drop s bars)

-- and 2 at least
of_least : (bs : List Bar) → 2 ≤ limit_of bs
unfolding limit_of
of_least [] = omega arith
of_least (b ∷ bs) = omega arith

pub limit_least : (bars : List Bar) (s : ℕ) → 2 ≤ limit bars s
unfolding limit
limit_least bars s = of_least (drop s bars)

-- WHERE A PLAYER STANDS: at the section start or behind it, with a pass up to 32; who has gone forward to a section start begins it; who has not gone forward is back at one
pub record Stands (w : Place) : Type 0 where
  pub behind : w.section ≤ w.at
  pub passes : w.pass ≤ 32
  pub fresh : w.forward ≡ true → w.at ≡ w.section → w.pass ≡ 1
  pub back : w.forward ≡ false → w.at ≡ w.section

pub begin_stands : (s : ℕ) → Stands (begin s)
unfolding begin
begin_stands s = record { behind = omega arith; passes = lit≤ tt; fresh = λ f e. refl; back = λ f. refl }

ahead_stands : (w : Place) → Stands w → Stands (ahead w)
unfolding ahead
ahead_stands w h = record { behind = omega (arith, h.behind); passes = h.passes; fresh = λ f e. absurd (omega (arith, h.behind, e)); back = λ f. absurd (false≢true (sym f)) }

again_stands : (w : Place) → w.pass < 32 → Stands (again w)
unfolding again
again_stands w p = record { behind = omega arith; passes = omega (arith, p); fresh = λ f e. absurd (false≢true f); back = λ f. refl }

-- THE RANK: a section that starts later has fewer passes and measures left than the later sections of an earlier one
later_grows : (d e : ℕ) → later d ≤ later (d + e)
unfolding later
later_grows d zero = omega (arith, ap later (add-zero d))
later_grows d (suc e) = omega (arith, later_grows d e, ap later (add-suc d e))

pub later_more : (d e : ℕ) → d < e → later d + 32 * d ≤ later e
unfolding later
later_more d e h =
    let z : suc d + (e - suc d) ≡ e = omega (arith, h) in
    omega (arith, later_grows (suc d) (e - suc d), ap later z)

-- a section begun behind this one's start; the section again; the next measure
rank_section : (bars : List Bar) (w : Place) (t : ℕ) → w.section < t → t ≤ suc w.at → w.at < length bars → rank bars (begin t) < rank bars w
unfolding rank begin
rank_section bars w t s u i =
    omega (arith, later_more (length bars - t) (length bars - w.section) (omega (arith, s, u, i)), i)

rank_again : (bars : List Bar) (w : Place) → w.pass < 32 → w.at < length bars → rank bars (again w) < rank bars w
unfolding rank again
rank_again bars w p i =
    let z : 32 - w.pass ≡ suc (32 - suc w.pass) = omega (arith, p) in
    omega (arith, suc-mul (32 - suc w.pass) (length bars - w.section), ap (λ (k : ℕ). k * (length bars - w.section)) z, i)

rank_ahead : (bars : List Bar) (w : Place) → w.at < length bars → rank bars (ahead w) < rank bars w
unfolding rank ahead
rank_ahead bars w i = omega (arith, i)

-- A STEP from where a player stands: he stands again, and the rank is lower
abbrev Less : List Bar → Place → Place → Type 0
Less bars w v = Stands v × (rank bars v < rank bars w)

-- leaving a measure that was played
leave : (bars : List Bar) (w : Place) (b : Bar) → Stands w → w.at < length bars → Less bars w (left_behind bars w b)
unfolding left_behind again begin
leave bars w b h i =
    by_test (closes b.right)
    (λ c. rw c
    (by_test (ltb w.pass (limit bars w.section))
    (λ l. rw l (back (ltb-true w.pass (limit bars w.section) l)))
    (λ l. rw l over)))
    (λ c. rw c (ahead_stands w h, rank_ahead bars w i))
  where
    back : w.pass < limit bars w.section → Less bars w (again w)
    back l =
        let p : w.pass < 32 = omega (arith, l, limit_most bars w.section) in
        (again_stands w p, rank_again bars w p i)

    over : Less bars w (begin (suc w.at))
    over = (begin_stands (suc w.at), rank_section bars w (suc w.at) (omega (arith, h.behind)) (omega arith) i)

-- a section that begins where it stands with pass 1 is the same
rank_same : (bars : List Bar) (w : Place) → w.section ≡ w.at → w.pass ≡ 1 → rank bars w ≡ rank bars (begin w.at)
unfolding rank begin
rank_same bars w s p = λ i. later (length bars - s i) + (32 - p i) * (length bars - s i) + (length bars - w.at)

-- entering it: the same place, or a section begun here
rank_entered : (bars : List Bar) (w : Place) → Stands w → w.at < length bars → w.forward ≡ true → rank bars (begin w.at) ≤ rank bars w
unfolding begin
rank_entered bars w h i f =
    by_test (eqb w.section w.at)
    (λ e. let s : w.section ≡ w.at = eqb-true w.section w.at e in omega (arith, rank_same bars w s (h.fresh f (sym s))))
    (λ e. omega (arith, rank_section bars w w.at (omega (arith, h.behind, eqb-false w.section w.at e)) (omega arith) i))

enter : (bars : List Bar) (w : Place) (b : Bar) → Stands w → w.at < length bars
    → Stands (entered w b) × (((entered w b).at ≡ w.at) × (rank bars (entered w b) ≤ rank bars w))
unfolding entered begin
enter bars w b h i =
    by_test (w.forward && opens b.left)
    (λ e. rw e (begin_stands w.at, (refl, rank_entered bars w h i (and_left w.forward (opens b.left) e))))
    (λ e. rw e (h, (refl, omega arith)))

-- ONE MEASURE
pub step : (bars : List Bar) (w : Place) (b : Bar) → Stands w → w.at < length bars → Less bars w (next bars w b)
unfolding next
step bars w b h i =
    by_test (is_skipped b.span w.pass) (λ e. rw e (ahead_stands w h, rank_ahead bars w i))
    (λ e. rw e
    (let x = enter bars w b h i in
    let y = leave bars (entered w b) b x.0 (omega (arith, x.1.0, i)) in
    (y.0, omega (arith, y.1, x.1.1))))

-- a measure that is there has a place among them
none≢some : (b : Bar) → none ≡ some b → ⊥
none≢some b e = let z : ◌≡◌ {A = ℕ} 0 1 = cc in omega arith

pub there : (bars : List Bar) (i : ℕ) (b : Bar) → get_elem? bars i ≡ some b → i < length bars
there [] i b e = absurd (none≢some b e)
there (x ∷ bars) zero b e = omega arith
there (x ∷ bars) (suc i) b e = omega (arith, there bars i b e)

-- AS MANY STEPS AS THE RANK SAYS ARE ENOUGH: more change nothing
unfoldable pub after : List Bar → ℕ → Place → Option Bar → List ℕ
after bars k w none = []
after bars k w (some b) = listed w b ++ walk bars k (next bars w b)

pub walk_after : (bars : List Bar) (k : ℕ) (w : Place) → walk bars (suc k) w ≡ after bars k w (get_elem? bars w.at)
unfolding walk after
walk_after bars k w = go (get_elem? bars w.at)
  where
    go : (o : Option Bar) → elim o [ none ↦ [] | some b ↦ listed w b ++ walk bars k (next bars w b) ] ≡ after bars k w o
    go none = refl
    go (some b) = refl

same_walk : (bars : List Bar) (k j : ℕ) (w : Place) → Stands w → rank bars w < k → rank bars w < j → walk bars k w ≡ walk bars j w
unfolding after
same_walk bars zero j w h r q = absurd (omega (arith, r))
same_walk bars (suc k) zero w h r q = absurd (omega (arith, q))
same_walk bars (suc k) (suc j) w h r q =
    walk_after bars k w ∙ go (get_elem? bars w.at) refl (λ v s x y. same_walk bars k j v s x y) ∙ sym (walk_after bars j w)
  where
    go : (o : Option Bar) → get_elem? bars w.at ≡ o
        → ((v : Place) → Stands v → rank bars v < k → rank bars v < j → walk bars k v ≡ walk bars j v) → after bars k w o ≡ after bars j w o
    go none e ih = refl
    go (some b) e ih =
        let d = step bars w b h (there bars w.at b e) in
        ap (λ (l : List ℕ). listed w b ++ l) (ih (next bars w b) d.0 (omega (arith, d.1, r)) (omega (arith, d.1, q)))

pub enough : (bars : List Bar) (k : ℕ) (w : Place) → Stands w → rank bars w < k → walk bars k w ≡ played_from bars w
unfolding played_from
enough bars k w h r = same_walk bars k (suc (rank bars w)) w h r (omega arith)

-- THE RULES, as equations of the list. Behind the last measure it ends
pub rule_end : (bars : List Bar) (w : Place) → get_elem? bars w.at ≡ none → played_from bars w ≡ []
unfolding played_from after
rule_end bars w e = walk_after bars (rank bars w) w ∙ ap (after bars (rank bars w) w) e

-- else it is what the measure lists, and the list from where the player then stands
pub rule_step : (bars : List Bar) (w : Place) (b : Bar) → Stands w → get_elem? bars w.at ≡ some b → played_from bars w ≡ listed w b ++ played_from bars (next bars w b)
unfolding played_from after
rule_step bars w b h e =
    let d = step bars w b h (there bars w.at b e) in
    walk_after bars (rank bars w) w ∙ ap (after bars (rank bars w) w) e ∙ ap (λ (l : List ℕ). listed w b ++ l) (enough bars (rank bars w) (next bars w b) d.0 d.1)
