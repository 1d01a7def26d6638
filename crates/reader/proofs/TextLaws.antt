-- Laws of white space: a byte of no white character ends it, whatever follows.
use Prim.Native.Nat.{ℕ}
use mathlib.Core.Path.{◌≡◌, refl, ap, ◌∙◌}
use mathlib.Core.Bool.{Bool, false, cond}
use mathlib.Core.List.{List, [], ◌∷◌}
use Rattle.laws.specs.Lists.{foldl}
use Rattle.reader.specs.Text.{White, white, other, white_step, is_all_white, is_blank, trim}

-- something else stays something else
pub other_stays : (l : List ℕ) → foldl white_step other l ≡ other
unfolding white_step
other_stays [] = refl
other_stays (c ∷ l) = other_stays l

-- a text that begins with something else is not blank
pub not_blank : (c : ℕ) (l : List ℕ) → white_step white c ≡ other → is_blank (c ∷ l) ≡ false
unfolding is_blank
not_blank c l h = ap (λ (q : White). is_all_white (foldl white_step q l)) h ∙ ap is_all_white (other_stays l)

-- and is not trimmed away
pub trim_keep : (c : ℕ) (l : List ℕ) → white_step white c ≡ other → trim (c ∷ l) ≡ c ∷ trim l
unfolding trim
trim_keep c l h = ap (λ (b : Bool). cond b [] (c ∷ trim l)) (not_blank c l h)
