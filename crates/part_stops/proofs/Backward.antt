-- BACKWARD: distances forward.
use Prim.Native.Nat.{ℕ, zero, suc, ◌+◌, ◌-◌, ◌*◌, ◌≤◌, ◌<◌, min}
use mathlib.Core.Path.{◌≡◌, refl, sym, ap, subst, ◌∙◌}
use mathlib.Core.List.{List, [], ◌∷◌}
use native.Mathlib.Decide.{dec_lt}
use native.Mathlib.Nat.{not-suc-le-zero, le_of_suc-le-suc}
use native.Mathlib.Omega.{arith}
use lib.ListN.{length, get_or, set, get_or-eq_default}
use lib.Seq.{get_or-set_same, get_or-set_other}
use Rattle.laws.specs.Bytes.{splice}
use Rattle.lyric_stops.specs.declared.Stop.{Stop}
use Rattle.lyric_stops.specs.declared.Stops.{Stops}
use Rattle.lyric_stops.specs.declared.Kind.{Kind}
use Rattle.lyric_stops.specs.Stops.{lyric_stop_width, farthest, stop_bytes, Inside, stops_in, no_stop, kind_at, distance_at, kinds_of}
use Rattle.lyric_stops.proofs.Walks.{apart}
use Rattle.lyric_stops.proofs.Table.{how_many, length_stop, written, stops_put}
use Rattle.part_rows.proofs.Tables.{only_none, only_splice, only_then}
use Rattle.part_stops.specs.declared.Ahead.{Ahead}
use Rattle.part_stops.specs.Stops.{InTable, OverBack, AheadOf, HintsFrom, Aimed, AllAimed}

abbrev kind : Stop → Kind
kind x = x.kind

-- A STOP IN PLACE OF ANOTHER OF ITS KIND
kinds_set : (xs : List Stop) (j : ℕ) (v : Stop) → j < length xs → v.kind ≡ kind_at xs j → kinds_of (set xs j v) ≡ kinds_of xs
kinds_set [] j v h e = absurd (not-suc-le-zero h)
kinds_set (x ∷ xs) zero v h e = ap (λ (k : Kind). k ∷ kinds_of xs) e
kinds_set (x ∷ xs) (suc j) v h e = ap (λ (ks : List Kind). x.kind ∷ ks) (kinds_set xs j v (le_of_suc-le-suc h) e)

module _ (xs : List Stop) (j : ℕ) (v : Stop) (h : j < length xs) (same : v.kind ≡ kind_at xs j) where
  abbrev ys : List Stop
  ys = set xs j v

  here : get_or ys j no_stop ≡ v
  here = get_or-set_same xs j v no_stop h

  other : (i : ℕ) → (i ≡ j → ⊥) → get_or ys i no_stop ≡ get_or xs i no_stop
  other i n = get_or-set_other xs j i v no_stop n

  kind_same : (i : ℕ) → kind_at ys i ≡ kind_at xs i
  kind_same i = go (dec_lt i j) (dec_lt j i)
    where
      go : Dec (i < j) → Dec (j < i) → kind_at ys i ≡ kind_at xs i
      go (yes a) b = ap kind (other i (λ e. absurd (omega (arith, a, e))))
      go (no a) (yes b) = ap kind (other i (λ e. absurd (omega (arith, b, e))))
      go (no a) (no b) =
          let e : i ≡ j = omega arith in
          ap (kind_at ys) e ∙ ap kind here ∙ same ∙ ap (kind_at xs) (sym e)

  -- distances forward: those behind it, and its own
  put_hints : HintsFrom xs (j + 1) → (kind_at xs j ≡ Kind.Passed → (k : ℕ) → j ≤ k → k < j + v.distance → kind_at xs k ≡ Kind.Passed)
      → ((kind_at xs j ≡ Kind.First → ⊥) → (k : ℕ) → j ≤ k → k < j + v.distance → kind_at xs k ≡ Kind.First → ⊥) → HintsFrom ys j
  put_hints o passed later =
      record {
        over_passed = λ i k l e a b. kind_same k ∙ over i k l (sym (kind_same i) ∙ e) a b (dec_lt j i);
        over_later = λ i k l n a b f. over_first i k l (λ e. n (kind_same i ∙ e)) a b (sym (kind_same k) ∙ f) (dec_lt j i);
      }
    where
      own : (i k : ℕ) → j ≤ i → (j < i → ⊥) → k < i + distance_at ys i → k < j + v.distance
      own i k l n b =
          let e : i ≡ j = omega (arith, l, n) in
          omega (arith, b, e, ap (λ (m : ℕ). distance_at ys m) e, ap (λ (x : Stop). x.distance) here)

      old : (i k : ℕ) → j < i → k < i + distance_at ys i → k < i + distance_at xs i
      old i k l b = omega (arith, b, ap (λ (x : Stop). x.distance) (other i (λ e. absurd (omega (arith, l, e)))))

      over : (i k : ℕ) → j ≤ i → kind_at xs i ≡ Kind.Passed → i ≤ k → k < i + distance_at ys i → Dec (j < i) → kind_at xs k ≡ Kind.Passed
      over i k l e a b (yes m) = o.over_passed i k (omega arith) e a (old i k m b)
      over i k l e a b (no m) =
          let f : i ≡ j = omega arith in
          passed (ap (kind_at xs) (sym f) ∙ e) k (omega arith) (own i k l m b)

      over_first : (i k : ℕ) → j ≤ i → (kind_at xs i ≡ Kind.First → ⊥) → i ≤ k → k < i + distance_at ys i → kind_at xs k ≡ Kind.First → Dec (j < i) → ⊥
      over_first i k l n a b e (yes m) = o.over_later i k (omega arith) n a (old i k m b) e
      over_first i k l n a b e (no m) =
          let f : i ≡ j = omega arith in
          later (λ g. n (ap (kind_at xs) f ∙ g)) k (omega arith) (own i k l m b) e

  -- distances back, where it is no first
  put_back : (kind_at xs j ≡ Kind.First → ⊥) → OverBack xs → OverBack ys
  put_back n o i k e b l =
      let apart : i ≡ j → ⊥ = λ f. n (ap (kind_at xs) (sym f) ∙ sym (kind_same i) ∙ e) in
      kind_same k ∙ o i k (sym (kind_same i) ∙ e) (omega (arith, b, ap (λ (x : Stop). x.distance) (other i apart))) l

  put_ahead : (a : Ahead) → AheadOf xs j a → AheadOf ys j a
  put_ahead a p =
      record {
        taker_low = p.taker_low;
        taker_here = λ e. p.taker_here (sym (kind_same a.taker) ∙ e);
        taker_passed = λ k l m. kind_same k ∙ p.taker_passed k l m;
        first_low = p.first_low;
        first_here = kind_same a.first ∙ p.first_here;
        first_passed = λ k l m e. p.first_passed k l m (sym (kind_same k) ∙ e);
      }

-- WHAT IS AHEAD OF NOTE j, by its kind
module _ (xs : List Stop) (j : ℕ) (a : Ahead) (p : AheadOf xs (j + 1) a) where
  abbrev from : ℕ → ℕ → Ahead
  from taker first = record { taker = taker; first = first }

  ahead_first : kind_at xs j ≡ Kind.First → AheadOf xs j (from j j)
  ahead_first e =
      record {
        taker_low = omega arith;
        taker_here = λ f. apart (kind_at xs j) f e;
        taker_passed = λ k l m. absurd (omega arith);
        first_low = omega arith;
        first_here = e;
        first_passed = λ k l m f. absurd (omega arith);
      }

  passed_from : kind_at xs j ≡ Kind.Passed → (k : ℕ) → j ≤ k → k < a.taker → kind_at xs k ≡ Kind.Passed
  passed_from e k l m = go (dec_lt j k)
    where
      go : Dec (j < k) → kind_at xs k ≡ Kind.Passed
      go (yes b) = p.taker_passed k (omega arith) m
      go (no b) = let f : k ≡ j = omega arith in ap (kind_at xs) f ∙ e

  no_first_from : (kind_at xs j ≡ Kind.First → ⊥) → (k : ℕ) → j ≤ k → k < a.first → kind_at xs k ≡ Kind.First → ⊥
  no_first_from n k l m e = go (dec_lt j k)
    where
      go : Dec (j < k) → ⊥
      go (yes b) = p.first_passed k (omega arith) m e
      go (no b) = let f : k ≡ j = omega arith in n (ap (kind_at xs) (sym f) ∙ e)

  ahead_passed : kind_at xs j ≡ Kind.Passed → AheadOf xs j a
  ahead_passed e =
      record {
        taker_low = omega (arith, p.taker_low);
        taker_here = p.taker_here;
        taker_passed = passed_from e;
        first_low = omega (arith, p.first_low);
        first_here = p.first_here;
        first_passed = no_first_from (apart (kind_at xs j) e);
      }

  ahead_later : (kind_at xs j ≡ Kind.First → ⊥) → (kind_at xs j ≡ Kind.Passed → ⊥) → AheadOf xs j (from j a.first)
  ahead_later n m =
      record {
        taker_low = omega arith;
        taker_here = m;
        taker_passed = λ k l x. absurd (omega arith);
        first_low = omega (arith, p.first_low);
        first_here = p.first_here;
        first_passed = no_first_from n;
      }

-- a first keeps its distance back
keep_hints : (xs : List Stop) (j : ℕ) → kind_at xs j ≡ Kind.First → HintsFrom xs (j + 1) → HintsFrom xs j
keep_hints xs j e o =
    record {
      over_passed = λ i k l f a b. passed i k l f a b (dec_lt j i);
      over_later = λ i k l n a b f. later i k l n a b f (dec_lt j i);
    }
  where
    passed : (i k : ℕ) → j ≤ i → kind_at xs i ≡ Kind.Passed → i ≤ k → k < i + distance_at xs i → Dec (j < i) → kind_at xs k ≡ Kind.Passed
    passed i k l f a b (yes m) = o.over_passed i k (omega arith) f a b
    passed i k l f a b (no m) =
        let g : i ≡ j = omega arith in
        absurd (apart (kind_at xs j) (sym (ap (kind_at xs) g) ∙ f) e)

    later : (i k : ℕ) → j ≤ i → (kind_at xs i ≡ Kind.First → ⊥) → i ≤ k → k < i + distance_at xs i → kind_at xs k ≡ Kind.First → Dec (j < i) → ⊥
    later i k l n a b f (yes m) = o.over_later i k (omega arith) n a b f
    later i k l n a b f (no m) =
        let g : i ≡ j = omega arith in
        n (ap (kind_at xs) g ∙ e)

-- A STOP IS GIVEN ITS DISTANCE
module _ (s : List ℕ) (t : Stops) (j : ℕ) (a : Ahead) (inside : Inside s t) (h : j < t.count) (o : HintsFrom (stops_in s t) (j + 1)) (p : AheadOf (stops_in s t) (j + 1) a) where
  abbrev xs₀ : List Stop
  xs₀ = stops_in s t

  pub aimed_first : kind_at xs₀ j ≡ Kind.First → Aimed s s t j (record { taker = j; first = j })
  aimed_first e =
      record { only = only_none t.at (t.at + lyric_stop_width * t.count) s; kinds = refl; back = λ b. b; hints = keep_hints xs₀ j e o; ahead = ahead_first xs₀ j a p e }

  module _ (s' : List ℕ) (k : Kind) (d : ℕ) (e : s' ≡ splice s (t.at + lyric_stop_width * j) (stop_bytes k (min d farthest))) (same : k ≡ kind_at xs₀ j) (n : kind_at xs₀ j ≡ Kind.First → ⊥) where
    put : stops_in s' t ≡ set xs₀ j (written k d)
    put = stops_put s s' t.at j k d e t.count h inside

    there : j < length xs₀
    there = omega (arith, how_many s t, h)

    aim : (r : Ahead) → HintsFrom (set xs₀ j (written k d)) j → AheadOf xs₀ j r → Aimed s s' t j r
    aim r q ahead =
        record {
          only = only_splice t.at (t.at + lyric_stop_width * t.count) s s' (t.at + lyric_stop_width * j) (stop_bytes k (min d farthest)) e (omega arith) (omega (arith, length_stop k (min d farthest)));
          kinds = ap kinds_of put ∙ kinds_set xs₀ j (written k d) there same;
          back = λ b. subst OverBack (sym put) (put_back xs₀ j (written k d) there same n b);
          hints = subst (λ (ys : List Stop). HintsFrom ys j) (sym put) q;
          ahead = subst (λ (ys : List Stop). AheadOf ys j r) (sym put) (put_ahead xs₀ j (written k d) there same r ahead);
        }

    pub aimed_passed : kind_at xs₀ j ≡ Kind.Passed → d ≡ a.taker - j → Aimed s s' t j a
    aimed_passed f g =
        let passed : (i : ℕ) → j ≤ i → i < j + (written k d).distance → kind_at xs₀ i ≡ Kind.Passed = λ i l m. passed_from xs₀ j a p f i l (omega (arith, g, p.taker_low)) in
        aim a (put_hints xs₀ j (written k d) there same o (λ _. passed) (λ _ i l m z. apart (kind_at xs₀ i) (passed i l m) z)) (ahead_passed xs₀ j a p f)

    pub aimed_later : (kind_at xs₀ j ≡ Kind.Passed → ⊥) → d ≡ a.first - j → Aimed s s' t j (record { taker = j; first = a.first })
    aimed_later f g =
        aim (record { taker = j; first = a.first })
        (put_hints xs₀ j (written k d) there same o (λ z. absurd (f z)) (λ m i l b. no_first_from xs₀ j a p m i l (omega (arith, g, p.first_low))))
        (ahead_later xs₀ j a p n f)

-- ALL STOPS: the invariant of the loop over them
pub record Aiming (s₀ : List ℕ) (t : Stops) (s : List ℕ) (a : Ahead) (j : ℕ) : Type 0 where
  pub only : InTable t s₀ s
  pub kinds : kinds_of (stops_in s t) ≡ kinds_of (stops_in s₀ t)
  pub back : OverBack (stops_in s₀ t) → OverBack (stops_in s t)
  pub hints : HintsFrom (stops_in s t) j
  pub ahead : AheadOf (stops_in s t) j a
  pub low : j ≤ t.count

behind : (s : List ℕ) (t : Stops) (i : ℕ) → t.count ≤ i → kind_at (stops_in s t) i ≡ Kind.First
behind s t i h = ap kind (get_or-eq_default (stops_in s t) no_stop (omega (arith, how_many s t)))

pub aiming_start : (s : List ℕ) (t : Stops) → Aiming s t s (record { taker = t.count; first = t.count }) t.count
aiming_start s t =
    record {
      only = only_none t.at (t.at + lyric_stop_width * t.count) s;
      kinds = refl;
      back = λ b. b;
      hints = record { over_passed = λ i k l e a b. absurd (apart (kind_at (stops_in s t) i) e (behind s t i l)); over_later = λ i k l n a b f. n (behind s t i l) };
      ahead =
          record {
            taker_low = omega arith;
            taker_here = λ e. apart (kind_at (stops_in s t) t.count) e (behind s t t.count (omega arith));
            taker_passed = λ k l m. absurd (omega arith);
            first_low = omega arith;
            first_here = behind s t t.count (omega arith);
            first_passed = λ k l m e. absurd (omega arith);
          };
      low = omega arith;
    }

module _ (s₀ : List ℕ) (t : Stops) (s : List ℕ) (a : Ahead) (j : ℕ) (v : Aiming s₀ t s a j) where
  -- one note before it
  pub aiming_on : 0 < j → HintsFrom (stops_in s t) (j - 1 + 1) × AheadOf (stops_in s t) (j - 1 + 1) a
  aiming_on h = let e : j ≡ j - 1 + 1 = omega arith in (subst (HintsFrom (stops_in s t)) e v.hints, subst (λ (i : ℕ). AheadOf (stops_in s t) i a) e v.ahead)

  pub aiming_next : (s' : List ℕ) (r : Ahead) → Aimed s s' t (j - 1) r → Aiming s₀ t s' r (j - 1)
  aiming_next s' r x =
      record { only = only_then v.only x.only; kinds = x.kinds ∙ v.kinds; back = λ b. x.back (v.back b); hints = x.hints; ahead = x.ahead; low = omega (arith, v.low) }

  pub aiming_end : j ≡ 0 → AllAimed s₀ s t
  aiming_end e =
      record {
        only = v.only;
        kinds = v.kinds;
        hints = λ b.
            record {
              over_passed = λ i k f x y. v.hints.over_passed i k (omega (arith, e)) f x y;
              over_later = λ i k n x y f. v.hints.over_later i k (omega (arith, e)) n x y f;
              over_back = v.back b;
            };
      }
