-- Loops as definitions: a reader each step of which takes some bytes, and turns of a state for as long as a test says so.
use Rattle.std.specs.Prelude.{ℕ, zero, suc, pred, ◌≤◌, ◌≡◌, Bool, cond, List, [], ◌∷◌}

module _ {ℓ} {S : Type ℓ} (step : S → List ℕ → S) (width : S → List ℕ → ℕ) where
  -- the state after the bytes s, of which the first k belong to a token that was read
  abbrev pub scan : ℕ → S → List ℕ → S
  scan k t [] = t
  scan zero t (c ∷ s) = scan (pred (width t (c ∷ s))) (step t (c ∷ s)) s
  scan (suc k) t (c ∷ s) = scan k t s

-- turns of f as long as the test passes, n of them at most; the `let` lets the turns past the last one wait
unfoldable pub turns : {A : Type 0} → (A → Bool) → (A → A) → ℕ → A → A
turns go f zero a = a
turns go f (suc n) a = let r = turns go f n (f a) in cond (go a) r a

-- what is still to come of the loop from a gives r: `left` turns are enough
pub record Ahead {A : Type 0} (go : A → Bool) (f : A → A) (left : ℕ) (a r : A) : Type 0 where
  pub fuel : ℕ
  pub enough : left ≤ fuel
  pub gives : turns go f fuel a ≡ r
