-- WALKS ALONG THE STOPS, as their loops go.
use Prim.Native.Nat.{ℕ, zero, suc, ◌+◌, ◌-◌, ◌≤◌, ◌<◌}
use mathlib.Core.Path.{◌≡◌, refl, sym, ap, ◌∙◌}
use mathlib.Core.Bool.{Bool, true, false, not, false≢true}
use mathlib.Core.List.{List}
use native.Mathlib.Decide.{dec_lt}
use native.Mathlib.Nat.{add-zero}
use native.Mathlib.Omega.{arith}
use lib.ListN.{length, get_or, get_or-eq_default}
use denote.Enum.Bare.{sameb}
use Rattle.laws.proofs.Bools.{by_test}
use Rattle.lyric_stops.specs.contracts.Kind.{the_type}
use Rattle.lyric_stops.specs.declared.Kind.{Kind}
use Rattle.lyric_stops.specs.declared.Stop.{Stop}
use Rattle.lyric_stops.specs.declared.Stops.{Stops}
use Rattle.lyric_stops.specs.Stops.{farthest, is_passed, is_first, stops_in, no_stop, kind_at, passed_place, back_of, Hints}
use Rattle.lyric_stops.specs.Walks.{TakerFrom, FirstFrom}
use Rattle.lyric_stops.proofs.Table.{stop_over}

-- KINDS: passed or not, a first or not
pub by_passed : {P : Type 0} (k : Kind) → (k ≡ Kind.Passed → P) → ((k ≡ Kind.Passed → ⊥) → P) → P
by_passed Kind.Passed y n = y refl
by_passed Kind.Later y n = n (λ e. cc)
by_passed Kind.First y n = n (λ e. cc)

pub by_first : {P : Type 0} (k : Kind) → (k ≡ Kind.First → P) → ((k ≡ Kind.First → ⊥) → P) → P
by_first Kind.Passed y n = n (λ e. cc)
by_first Kind.Later y n = n (λ e. cc)
by_first Kind.First y n = y refl

pub apart : (k : Kind) → k ≡ Kind.Passed → k ≡ Kind.First → ⊥
apart k e f = cc

-- by the tests
pub passed_is : (k : Kind) → is_passed k ≡ true → k ≡ Kind.Passed
passed_is Kind.Passed e = refl
passed_is Kind.Later e = absurd (false≢true e)
passed_is Kind.First e = absurd (false≢true e)

pub not_passed : (k : Kind) → (k ≡ Kind.Passed → ⊥) → is_passed k ≡ false
not_passed Kind.Passed n = absurd (n refl)
not_passed Kind.Later n = refl
not_passed Kind.First n = refl

-- and by the code's, which compare
pub told_passed : (k : Kind) → sameb the_type k Kind.Passed ≡ is_passed k
told_passed Kind.Passed = refl
told_passed Kind.Later = refl
told_passed Kind.First = refl

told_first : (k : Kind) → sameb the_type k Kind.First ≡ is_first k
told_first Kind.Passed = refl
told_first Kind.Later = refl
told_first Kind.First = refl

module _ (k : Kind) (b : Bool) where
  pub is_passed_by : b ≡ sameb the_type k Kind.Passed → b ≡ true → k ≡ Kind.Passed
  is_passed_by e f = passed_is k (sym (e ∙ told_passed k) ∙ f)

  pub no_passed_by : b ≡ sameb the_type k Kind.Passed → b ≡ false → k ≡ Kind.Passed → ⊥
  no_passed_by e f g = false≢true (sym f ∙ e ∙ told_passed k ∙ ap is_passed g)

  pub is_first_by : b ≡ not (sameb the_type k Kind.First) → b ≡ false → k ≡ Kind.First
  is_first_by e f = by_first k (λ g. g) (λ n. absurd (false≢true (sym f ∙ e ∙ ap not (told_first k ∙ other n))))
    where
      other : (k ≡ Kind.First → ⊥) → is_first k ≡ false
      other n = by_first k (λ g. absurd (n g)) (λ m. go k m)
        where
          go : (j : Kind) → (j ≡ Kind.First → ⊥) → is_first j ≡ false
          go Kind.Passed m = refl
          go Kind.Later m = refl
          go Kind.First m = absurd (m refl)

  pub no_first_by : b ≡ not (sameb the_type k Kind.First) → b ≡ true → k ≡ Kind.First → ⊥
  no_first_by e f g = false≢true (sym (e ∙ ap not (told_first k ∙ ap is_first g)) ∙ f)

-- behind the last note none is passed over
pub kind_over : (xs : List Stop) (j : ℕ) → length xs ≤ j → kind_at xs j ≡ Kind.Passed → ⊥
kind_over xs j h e = apart (kind_at xs j) e (ap (λ (x : Stop). x.kind) (get_or-eq_default xs no_stop h))

-- a note that is no first is there
note_in : (s : List ℕ) (t : Stops) (j : ℕ) → (kind_at (stops_in s t) j ≡ Kind.First → ⊥) → j < t.count
note_in s t j n = go (dec_lt j t.count)
  where
    go : Dec (j < t.count) → j < t.count
    go (yes h) = h
    go (no h) =
        let out : t.count ≤ j = omega arith in
        absurd (n (ap (λ (x : Stop). x.kind) (stop_over s t j out)))

-- a walk forward from `from`, at j, where x stands
pub record Seeking (xs : List Stop) (from j : ℕ) (x : Stop) : Type 0 where
  pub is : x ≡ get_or xs j no_stop
  pub one : 1 ≤ x.distance
  pub near : x.distance ≤ farthest
  pub low : from ≤ j

-- to a note that takes a syllable
pub record ToTaker (xs : List Stop) (from j : ℕ) (x : Stop) : Type 0 where
  pub at : Seeking xs from j x
  pub high : (b : ℕ) → from ≤ b → length xs + farthest ≤ b → j ≤ b
  pub passed : Hints xs → (k : ℕ) → from ≤ k → k < j → kind_at xs k ≡ Kind.Passed

-- there is a note to go on from
pub taker_in : (s : List ℕ) (t : Stops) (from j : ℕ) (x : Stop) → ToTaker (stops_in s t) from j x → x.kind ≡ Kind.Passed → j < t.count
taker_in s t from j x v e = note_in s t j (λ f. apart x.kind e (ap (λ (z : Stop). z.kind) v.at.is ∙ f))

module _ (xs : List Stop) (from : ℕ) where
  pub taker_start : (x : Stop) → (x ≡ get_or xs from no_stop) × (1 ≤ x.distance) × (x.distance ≤ farthest) → ToTaker xs from from x
  taker_start x e = record { at = record { is = e.0; one = e.1; near = e.2; low = omega arith }; high = λ b l m. l; passed = λ h k l m. absurd (omega arith) }

  module _ (j : ℕ) (x : Stop) (v : ToTaker xs from j x) where
    pub taker_on : x.kind ≡ Kind.Passed → (y : Stop) → (y ≡ get_or xs (j + x.distance) no_stop) × (1 ≤ y.distance) × (y.distance ≤ farthest) → ToTaker xs from (j + x.distance) y
    taker_on e y f =
        record {
          at = record { is = f.0; one = f.1; near = f.2; low = omega (arith, v.at.low) };
          high = λ b l m. omega (arith, m, inside, v.at.near);
          passed = λ h k l m. go h k l m (dec_lt k j);
        }
      where
        here : kind_at xs j ≡ Kind.Passed
        here = ap (λ (z : Stop). z.kind) (sym v.at.is) ∙ e

        inside : j < length xs
        inside = in_table_lem (dec_lt j (length xs))
          where
            in_table_lem : Dec (j < length xs) → j < length xs
            in_table_lem (yes b) = b
            in_table_lem (no b) = let out : length xs ≤ j = omega arith in absurd (kind_over xs j out here)

        step : x.distance ≡ (get_or xs j no_stop).distance
        step = ap (λ (z : Stop). z.distance) v.at.is

        go : (h : Hints xs) (k : ℕ) → from ≤ k → k < j + x.distance → Dec (k < j) → kind_at xs k ≡ Kind.Passed
        go h k l m (yes b) = v.passed h k l b
        go h k l m (no b) = h.over_passed j k here (omega arith) (omega (arith, step))

    pub taker_end : (x.kind ≡ Kind.Passed → ⊥) → TakerFrom xs from j
    taker_end n = record { low = v.at.low; here = λ e. n (ap (λ (z : Stop). z.kind) v.at.is ∙ e); passed = v.passed; near = v.high }

-- to the first note of a measure
pub record ToFirst (xs : List Stop) (from j : ℕ) (x : Stop) : Type 0 where
  pub at : Seeking xs from j x
  pub passed : Hints xs → (k : ℕ) → from ≤ k → k < j → kind_at xs k ≡ Kind.First → ⊥

pub first_in : (s : List ℕ) (t : Stops) (from j : ℕ) (x : Stop) → ToFirst (stops_in s t) from j x → (x.kind ≡ Kind.First → ⊥) → j < t.count
first_in s t from j x v n = note_in s t j (λ e. n (ap (λ (z : Stop). z.kind) v.at.is ∙ e))

module _ (xs : List Stop) (from : ℕ) where
  pub first_start : (x : Stop) → (x ≡ get_or xs from no_stop) × (1 ≤ x.distance) × (x.distance ≤ farthest) → ToFirst xs from from x
  first_start x e = record { at = record { is = e.0; one = e.1; near = e.2; low = omega arith }; passed = λ h k l m. absurd (omega arith) }

  module _ (j : ℕ) (x : Stop) (v : ToFirst xs from j x) where
    pub first_on : (x.kind ≡ Kind.First → ⊥) → (y : Stop) → (y ≡ get_or xs (j + x.distance) no_stop) × (1 ≤ y.distance) × (y.distance ≤ farthest) → ToFirst xs from (j + x.distance) y
    first_on n y f =
        record {
          at = record { is = f.0; one = f.1; near = f.2; low = omega (arith, v.at.low) };
          passed = λ h k l m. go h k l m (dec_lt k j);
        }
      where
        here : kind_at xs j ≡ Kind.First → ⊥
        here e = n (ap (λ (z : Stop). z.kind) v.at.is ∙ e)

        step : x.distance ≡ (get_or xs j no_stop).distance
        step = ap (λ (z : Stop). z.distance) v.at.is

        go : (h : Hints xs) (k : ℕ) → from ≤ k → k < j + x.distance → Dec (k < j) → kind_at xs k ≡ Kind.First → ⊥
        go h k l m (yes b) = v.passed h k l b
        go h k l m (no b) = h.over_later j k here (omega arith) (omega (arith, step))

    pub first_end : x.kind ≡ Kind.First → FirstFrom xs from j
    first_end e = record { low = v.at.low; here = ap (λ (z : Stop). z.kind) (sym v.at.is) ∙ e; passed = v.passed }

-- A WALK BACK
-- no note stands at place 0
pub place_none : (xs : List Stop) (p : ℕ) → p ≡ 0 → false ≡ passed_place xs p
unfolding passed_place
place_none xs p e = rw e

pub place_note : (xs : List Stop) (p : ℕ) → (p ≡ 0 → ⊥) → is_passed (kind_at xs (p - 1)) ≡ passed_place xs p
unfolding passed_place
place_note xs zero n = absurd (n refl)
place_note xs (suc j) n = let e : suc j - 1 ≡ j = omega arith in rw e

-- one that is passed over is there
pub place_in : (xs : List Stop) (p : ℕ) → passed_place xs p ≡ true → 0 < p
unfolding passed_place
place_in xs zero e = absurd (false≢true e)
place_in xs (suc j) e = omega arith

pub back_on : (xs : List Stop) (p : ℕ) → passed_place xs p ≡ true → back_of xs p ≡ back_of xs (p - 1)
unfolding back_of
back_on xs zero e = refl
back_on xs (suc j) e = let f : suc j - 1 ≡ j = omega arith in rw f (rw (e, back_of))

pub back_here : (xs : List Stop) (p : ℕ) → passed_place xs p ≡ false → back_of xs p ≡ p
unfolding back_of
back_here xs zero e = refl
back_here xs (suc j) e = rw (e, back_of)

-- notes that are passed over
pub back_passed : (xs : List Stop) (i n : ℕ) → ((k : ℕ) → i ≤ k → k < i + n → kind_at xs k ≡ Kind.Passed) → back_of xs (i + n) ≡ back_of xs i
unfolding back_of passed_place
back_passed xs i zero h = rw (add-zero i)
back_passed xs i (suc n) h =
    let e : i + suc n ≡ suc (i + n) = omega arith in
    let f : passed_place xs (suc (i + n)) ≡ true = ap is_passed (h (i + n) (omega arith) (omega arith)) in
    rw (e, back_of) (rw f (back_passed xs i n (λ k l m. h k l (omega arith))))

-- by a distance
pub back_hint : (xs : List Stop) (h d : ℕ) → 1 ≤ d → d ≡ (get_or xs h no_stop).distance → Hints xs → kind_at xs h ≡ Kind.First → back_of xs (h + 1 - d) ≡ back_of xs h
back_hint xs h d one e hints f =
    let n = h - (h + 1 - d) in
    let whole : h + 1 - d + n ≡ h = omega arith in
    sym (back_passed xs (h + 1 - d) n (λ k l m. hints.over_back h k f (omega (arith, e)) (omega arith))) ∙ ap (back_of xs) whole

-- it is before the note
pub back_le : (xs : List Stop) (j : ℕ) → back_of xs j ≤ j
unfolding back_of
back_le xs zero = omega arith
back_le xs (suc j) = by_test (passed_place xs (suc j)) (λ e. rw (e, back_of) (omega (arith, back_le xs j))) (λ e. rw (e, back_of) (omega arith))

-- and those between them are passed over
pub back_gap : (xs : List Stop) (j k : ℕ) → back_of xs j ≤ k → k < j → kind_at xs k ≡ Kind.Passed
unfolding passed_place
back_gap xs zero k h l = absurd (omega arith)
back_gap xs (suc j) k h l = by_test (passed_place xs (suc j)) (λ e. passed e (back_gap xs j k) (dec_lt k j)) (λ e. absurd (omega (arith, back_here xs (suc j) e)))
  where
    on : passed_place xs (suc j) ≡ true → back_of xs (suc j) ≡ back_of xs j
    on e = let f : suc j - 1 ≡ j = omega arith in back_on xs (suc j) e ∙ ap (back_of xs) f

    passed : passed_place xs (suc j) ≡ true → (back_of xs j ≤ k → k < j → kind_at xs k ≡ Kind.Passed) → Dec (k < j) → kind_at xs k ≡ Kind.Passed
    passed e r (yes b) = r (omega (arith, on e)) b
    passed e r (no b) = let f : k ≡ j = omega arith in ap (kind_at xs) f ∙ passed_is (kind_at xs j) e

-- it goes by the kinds before the note
pub back_agree : (xs ys : List Stop) (j : ℕ) → ((k : ℕ) → k < j → kind_at ys k ≡ kind_at xs k) → back_of ys j ≡ back_of xs j
unfolding back_of passed_place
back_agree xs ys zero h = refl
back_agree xs ys (suc j) h =
    let same : passed_place ys (suc j) ≡ passed_place xs (suc j) = ap is_passed (h j (omega arith)) in
    let r = back_agree xs ys j (λ k l. h k (omega arith)) in
    by_test (passed_place xs (suc j)) (λ e. rw (e, same ∙ e, back_of) r) (λ e. rw (e, same ∙ e, back_of))
