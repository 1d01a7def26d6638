-- THE DEFAULTS OF TUPLETS in both editions: no greater than a byte; in the first edition never left to the meter, in the second those of 5, 7 and 9 alone.
use Prim.Native.Nat.{ℕ, zero, suc, ◌+◌, ◌≤◌, ◌<◌}
use mathlib.Core.Path.{◌≡◌, refl, sym, subst}
use mathlib.Core.Bool.{false, ◌||◌}
use mathlib.Core.Option.{Option, none, some}
use mathlib.Core.List.{List}
use native.Mathlib.Omega.{arith}
use lib.Dec.{eqb, ltb, lit≤, lit<}
use lib.ListN.{drop}
use borrow.Author.Tests.{eqb-false, ltb-false}
use Rattle.laws.specs.Lists.{count_while}
use Rattle.laws.proofs.Bools.{by_test, some≢none}
use Rattle.standard.specs.Bytes.{is, is_digit, first}
use Rattle.standard.specs.Tuplets.{Tuplet, usual_normal, waits_for_meter, default_normal, normal_in}
use Rattle.standard.specs.Fields.{Meter}
use Rattle.editions.specs.declared.Edition.{Edition}
use Rattle.editions.specs.declared.Edition.TheVariants.{First, Second}
use Rattle.reader.specs.Token.{tuplet, Taken, taken}
use Rattle.reader.specs.Tuplets.{not_zero, positive, or_one_less, normal_for, counted, with_count, with_normal, with_actual, tuplet_of, tuplet_token, part_or}
use Rattle.reader.specs.Part.{in_meter}

-- a number of at most n, if there is one
abbrev pub AtMost : ℕ → Option ℕ → Type 0
AtMost n none = Unit {0}
AtMost n (some v) = v ≤ n

usual_most : (p : ℕ) → AtMost 255 (usual_normal p)
unfolding usual_normal
usual_most p =
    by_test (eqb p 2 || eqb p 4) (λ e. rw (e, usual_normal) (lit≤ tt)) (λ e. rw (e, usual_normal) (by_test (eqb p 3) (λ f. rw f (lit≤ tt)) (λ f. rw f tt)))

default_most : (p : ℕ) → AtMost 255 (default_normal p)
unfolding default_normal
default_most p =
    by_test (waits_for_meter p) (λ e. rw (e, default_normal) (lit≤ tt))
    (λ e. rw (e, default_normal)
    (by_test (eqb p 6) (λ f. rw (f, default_normal) (lit≤ tt)) (λ f. rw (f, default_normal) (by_test (eqb p 8) (λ g. rw g (lit≤ tt)) (λ g. rw g (usual_most p))))))

less_most : (p : ℕ) (o : Option ℕ) → p ≤ 255 → AtMost 255 o → or_one_less p o ≤ 255
unfolding or_one_less
less_most p none h k = omega arith
less_most p (some q) h k = k

-- any default
pub normal_most : (ed : Edition) (p : ℕ) → p ≤ 255 → normal_for ed p ≤ 255
unfolding normal_for
normal_most First p h = less_most p (usual_normal p) h (usual_most p)
normal_most Second p h = less_most p (default_normal p) h (default_most p)

-- WHICH DEFAULTS WAIT FOR THE METER, with a normal of 0: in the first edition none, in the second those of 5, 7 and 9 alone
abbrev Decided : Edition → ℕ → ℕ → Type 0
Decided First p q = 0 < q
Decided Second p q = waits_for_meter p ≡ false → 0 < q

decided : (ed : Edition) (p q : ℕ) → 0 < q → Decided ed p q
decided First p q h = h
decided Second p q h = λ w. h

usual_some : (p : ℕ) (o : Option ℕ) → usual_normal p ≡ o → 2 ≤ p → 0 < or_one_less p o
unfolding usual_normal or_one_less
usual_some p none e h = omega arith
usual_some p (some q) e h =
    by_test (eqb p 2 || eqb p 4) (λ f. let k : some 3 ≡ some q = rw (f, usual_normal) at e in let z : 3 ≡ q = cc in omega arith)
    (λ f. by_test (eqb p 3) (λ g. let k : some 2 ≡ some q = rw (f, g, usual_normal) at e in let z : 2 ≡ q = cc in omega arith) (λ g. absurd (some≢none q (sym (rw (f, g, usual_normal) at e)))))

default_decided : (ed : Edition) (p : ℕ) → 2 ≤ p → Decided ed p (normal_for ed p)
unfolding normal_for default_normal or_one_less
default_decided First p h = usual_some p (usual_normal p) refl h
default_decided Second p h =
    λ w.
    rw (w, default_normal)
    (by_test (eqb p 6) (λ e. rw (e, default_normal) (lit< tt)) (λ e. rw (e, default_normal) (by_test (eqb p 8) (λ f. rw f (lit< tt)) (λ f. rw f (usual_some p (usual_normal p) refl h)))))

-- of a part that is there
abbrev PartDecided : Edition → ℕ → Option ℕ → Type 0
PartDecided ed p none = Unit {0}
PartDecided ed p (some q) = Decided ed p q

positive_decided : (ed : Edition) (p : ℕ) (o : Option ℕ) → PartDecided ed p (not_zero o)
unfolding not_zero
positive_decided ed p none = tt
positive_decided ed p (some v) = by_test (eqb v 0) (λ e. rw e tt) (λ e. rw e (let n : v ≡ 0 → ⊥ = eqb-false v 0 e in decided ed p v (omega arith)))

part_decided : (ed : Edition) (p top : ℕ) (s : List ℕ) → 2 ≤ p → PartDecided ed p (part_or ed (normal_for ed p) top s)
unfolding part_or positive
part_decided First p top s h = positive_decided First p _
part_decided Second p top s h = by_test (is_digit (first s)) (λ e. rw (e, part_or) (positive_decided Second p _)) (λ e. rw (e, part_or) (default_decided Second p h))

-- of what is taken for a tuplet
unfoldable TakenDecided : Edition → Option Taken → Type 0
TakenDecided ed none = Unit {0}
TakenDecided ed (some t) = (x : Tuplet) → t.token ≡ tuplet x → Decided ed x.actual x.normal

token_decided : (ed : Edition) (p q r n : ℕ) → Decided ed p q → TakenDecided ed (tuplet_token p q r n)
unfolding TakenDecided
token_decided ed p q r n h x e =
    let y : Tuplet = record { actual = p; normal = q; count = r } in
    let z : y ≡ x = cc in
    subst (λ (t : Tuplet). Decided ed t.actual t.normal) z h

counted_decided : (ed : Edition) (p q n : ℕ) (o : Option ℕ) → Decided ed p q → TakenDecided ed (counted p q n o)
unfolding counted TakenDecided
counted_decided ed p q n none h = tt
counted_decided ed p q n (some r) h = token_decided ed p q r n h

count_decided : (ed : Edition) (p q n : ℕ) (s : List ℕ) → Decided ed p q → TakenDecided ed (with_count ed p q n s)
unfolding with_count
count_decided ed p q n s h = by_test (is ":" (first s)) (λ e. rw (e, with_count) (counted_decided ed p q _ _ h)) (λ e. rw (e, with_count) (token_decided ed p q p n h))

normal_decided : (ed : Edition) (p n : ℕ) (s : List ℕ) (o : Option ℕ) → PartDecided ed p o → TakenDecided ed (with_normal ed p n s o)
unfolding with_normal TakenDecided
normal_decided ed p n s none h = tt
normal_decided ed p n s (some q) h = count_decided ed p q _ _ h

actual_decided : (ed : Edition) (n : ℕ) (s : List ℕ) (o : Option ℕ) → TakenDecided ed (with_actual ed n s o)
unfolding with_actual TakenDecided
actual_decided ed n s none = tt
actual_decided ed n s (some p) =
    by_test (ltb p 2) (λ e. rw (e, with_actual) tt)
    (λ e. rw (e, with_actual)
    (by_test (is ":" (first s)) (λ f. rw (f, with_actual) (normal_decided ed p n s _ (part_decided ed p 255 (drop 1 s) (ltb-false p 2 e))))
    (λ f. rw (f, with_actual) (token_decided ed p (normal_for ed p) p n (default_decided ed p (ltb-false p 2 e))))))

-- of a tuplet that is read
tuplet_decided : (ed : Edition) (s : List ℕ) (x : Tuplet) (n : ℕ) → tuplet_of ed s ≡ some (taken (tuplet x) n) → Decided ed x.actual x.normal
unfolding tuplet_of TakenDecided
tuplet_decided ed s x n e =
    let h : TakenDecided ed (some (taken (tuplet x) n)) = subst (TakenDecided ed) e (actual_decided ed (1 + count_while is_digit s) (drop (count_while is_digit s) s) (positive 255 s)) in
    h x refl

-- a normal that is set stays in any meter
pub meter_stays : (m : Meter) (q : ℕ) → 0 < q → normal_in m q ≡ q
unfolding normal_in
meter_stays m zero h = absurd (omega arith)
meter_stays m (suc q) h = refl

tuplet_stays : (m : Meter) (x : Tuplet) → 0 < x.normal → in_meter m x ≡ x
unfolding in_meter
tuplet_stays m x h = λ i. record { actual = x.actual; normal = meter_stays m x.normal h i; count = x.count }

-- THE FIRST EDITION: the meter decides nothing of a tuplet
pub first_normal : (m : Meter) (s : List ℕ) (x : Tuplet) (n : ℕ) → tuplet_of First s ≡ some (taken (tuplet x) n) → in_meter m x ≡ x
first_normal m s x n e = tuplet_stays m x (tuplet_decided First s x n e)

-- THE SECOND: of no tuplet but those of 5, 7 and 9
pub second_normal : (m : Meter) (s : List ℕ) (x : Tuplet) (n : ℕ) → tuplet_of Second s ≡ some (taken (tuplet x) n) → waits_for_meter x.actual ≡ false → in_meter m x ≡ x
second_normal m s x n e w = tuplet_stays m x (tuplet_decided Second s x n e w)
