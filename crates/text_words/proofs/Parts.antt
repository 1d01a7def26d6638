-- The parts of a text around a byte, by the place where it stands first.
use Prim.Native.Nat.{ℕ, zero, suc, ◌+◌, ◌<◌}
use mathlib.Core.Path.{◌≡◌, refl, ap}
use mathlib.Core.List.{List, [], ◌∷◌}
use native.Mathlib.Nat.{suc-add}
use native.Mathlib.Omega.{arith}
use lib.ListN.{length, get_or, take, drop}
use borrow.Author.Tests.{eq-eqb, ne_eqb}
use Rattle.reader.specs.Pieces.{before, after}
use Rattle.text_words.specs.Words.{Unsplit, SplitAround}

-- it stands at k
pub split_at : (x : ℕ) (t : List ℕ) (k : ℕ) → k < length t → get_or t k 0 ≡ x → ((i : ℕ) → i < k → get_or t i 0 ≡ x → ⊥)
    → SplitAround x t (take k t) (drop (k + 1) t)
unfolding before after
split_at x [] k h e n = absurd (omega arith)
split_at x (c ∷ t) zero h e n = record { before = rw (eq-eqb c x e, before); after = rw (eq-eqb c x e, after) }
split_at x (c ∷ t) (suc k) h e n =
    let r = split_at x t k (omega arith) e (λ i m. n (suc i) (omega arith)) in
    let other = ne_eqb c x (n 0 (omega arith)) in
    record { before = rw (other, before) (ap (λ (l : List ℕ). c ∷ l) r.before); after = rw (other, after, suc-add k 1) r.after }

-- it does not stand in the text
pub unsplit : (x : ℕ) (t : List ℕ) → ((i : ℕ) → i < length t → get_or t i 0 ≡ x → ⊥) → Unsplit x t
unfolding before after
unsplit x [] n = record { before = refl; after = refl }
unsplit x (c ∷ t) n =
    let r = unsplit x t (λ i m. n (suc i) (omega arith)) in
    let other = ne_eqb c x (n 0 (omega arith)) in
    record { before = rw (other, before) (ap (λ (l : List ℕ). c ∷ l) r.before); after = rw (other, after) r.after }
