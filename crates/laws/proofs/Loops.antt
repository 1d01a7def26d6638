-- Laws of loops as definitions: of a reader that goes through a list, and of turns of a state.
use Prim.Native.Nat.{ℕ, zero, suc, ◌+◌, pred, ◌≤◌, ◌<◌}
use mathlib.Core.Path.{◌≡◌, refl, sym, ap, ◌∙◌}
use mathlib.Core.Bool.{Bool, true, false, cond}
use mathlib.Core.List.{List, [], ◌∷◌}
use native.Mathlib.Nat.{not-suc-le-zero}
use native.Mathlib.Omega.{arith}
use lib.ListN.{length, get_or, drop, drop_of_length-le}
use lib.Seq.{drop-cons, drop-drop}
use Rattle.laws.specs.Loops.{scan, turns, Ahead}
use Rattle.laws.proofs.Bools.{by_test}

-- A READER
module _ {ℓ} {S : Type ℓ} (step : S → List ℕ → S) (width : S → List ℕ → ℕ) where
  -- bytes still to pass are dropped
  pub scan_drop : (k : ℕ) (t : S) (s : List ℕ) → scan step width k t s ≡ scan step width 0 t (drop k s)
  scan_drop zero t s = refl
  scan_drop (suc k) t [] = refl
  scan_drop (suc k) t (c ∷ s) = scan_drop k t s

  -- past the end the state stays
  pub scan_end : (t : S) (s : List ℕ) (i : ℕ) → length s ≤ i → scan step width 0 t (drop i s) ≡ t
  scan_end t s i h = rw (drop_of_length-le s h)

  module _ (pos : (t : S) (s : List ℕ) → 0 < width t s) where
    drop_pred : (n c : ℕ) (s : List ℕ) → 0 < n → drop (pred n) s ≡ drop n (c ∷ s)
    drop_pred zero c s h = absurd (not-suc-le-zero h)
    drop_pred (suc n) c s h = refl

    -- one step at the front
    pub scan_cons : (t : S) (c : ℕ) (s : List ℕ) → scan step width 0 t (c ∷ s) ≡ scan step width 0 (step t (c ∷ s)) (drop (width t (c ∷ s)) (c ∷ s))
    scan_cons t c s =
        scan_drop (pred (width t (c ∷ s))) (step t (c ∷ s)) s
        ∙ ap (λ r. scan step width 0 (step t (c ∷ s)) r) (drop_pred (width t (c ∷ s)) c s (pos t (c ∷ s)))

    -- one turn of a loop at position i
    pub scan_at : (t : S) (s : List ℕ) (i : ℕ) → i < length s
        → scan step width 0 t (drop i s) ≡ scan step width 0 (step t (drop i s)) (drop (i + width t (drop i s)) s)
    scan_at t s i h =
        rw (← drop-drop (width t (drop i s)) i s) (rw (drop-cons s i 0) (scan_cons t (get_or s i 0) (drop (suc i) s)))

-- TURNS
-- The invariant of a loop is `Ahead`: what is still to come gives the answer. Three laws serve it: at the start, after a turn, at the end.
module _ {A : Type 0} (go : A → Bool) (f : A → A) where
  -- at the start: any number of turns that is enough
  pub ahead_start : (n : ℕ) {left : ℕ} {a : A} → left ≤ n → Ahead go f left a (turns go f n a)
  ahead_start n h = record { fuel = n; enough = h; gives = refl }

  -- a state at which the test fails stays
  pub turns_done : (n : ℕ) (a : A) → go a ≡ false → turns go f n a ≡ a
  unfolding turns
  turns_done zero a e = refl
  turns_done (suc n) a e = rw e

  -- at the end: the state is the answer
  pub ahead_done : {left : ℕ} {a r : A} → Ahead go f left a r → go a ≡ false → a ≡ r
  ahead_done {left} {a} {r} h e = sym (turns_done h.fuel a e) ∙ h.gives

  turn : (n left left' : ℕ) (a r : A) → left ≤ n → turns go f n a ≡ r → go a ≡ true → left' < left → Ahead go f left' (f a) r
  unfolding turns
  turn zero left left' a r l g e d = absurd (none l d)
    where
      none : left ≤ 0 → left' < left → ⊥
      none p q = omega arith
  turn (suc n) left left' a r l g e d = record { fuel = n; enough = omega arith; gives = rw e at g }

  -- after a turn, with fewer left
  pub ahead_turn : {left : ℕ} {a r : A} (left' : ℕ) → Ahead go f left a r → go a ≡ true → left' < left → Ahead go f left' (f a) r
  ahead_turn {left} {a} {r} left' h e d = turn h.fuel left left' a r h.enough h.gives e d

  module _ (m : A → ℕ) (low : (a : A) → go a ≡ true → m (f a) < m a) where
    stopped : (a : A) → m a ≤ 0 → go a ≡ false
    stopped a h = by_test (go a) (λ e. absurd (no (low a e))) (λ e. e)
      where
        no : m (f a) < m a → ⊥
        no l = omega arith

    -- turns past what is enough change nothing: m is a measure that each turn lowers
    pub turns_enough : (n k : ℕ) (a : A) → m a ≤ n → m a ≤ k → turns go f n a ≡ turns go f k a
    unfolding turns
    turns_enough zero zero a p q = refl
    turns_enough zero (suc k) a p q = sym (turns_done (suc k) a (stopped a p))
    turns_enough (suc n) zero a p q = turns_done (suc n) a (stopped a q)
    turns_enough (suc n) (suc k) a p q = on (go a) refl (λ e. turns_enough n k (f a) (less n p e) (less k q e))
      where
        less : (j : ℕ) → m a ≤ suc j → go a ≡ true → m (f a) ≤ j
        less j h e = omega (arith, low a e)

        on : (b : Bool) → go a ≡ b → (go a ≡ true → turns go f n (f a) ≡ turns go f k (f a)) → cond (go a) (turns go f n (f a)) a ≡ cond (go a) (turns go f k (f a)) a
        on true e ih = rw e (ih e)
        on false e ih = rw e refl
