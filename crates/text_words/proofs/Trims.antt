-- Laws of trimming: what goes at either end of a text, and what is left at its front.
use Prim.Native.Nat.{ℕ}
use mathlib.Core.Path.{◌≡◌, refl, ap, ◌∙◌}
use mathlib.Core.Bool.{true, false}
use mathlib.Core.List.{List, [], ◌∷◌, ◌++◌}
use native.Mathlib.Omega.{arith}
use lib.ListN.{length, drop}
use Rattle.laws.specs.Lists.{count_while}
use Rattle.laws.proofs.Bools.{by_test}
use Rattle.reader.specs.Text.{is_space}
use Rattle.reader.specs.Pieces.{trim_start, cons_trim, trim_end}

-- AT THE FRONT white space goes, a byte of a word stays
pub trim_start_space : (c : ℕ) (t : List ℕ) → is_space c ≡ true → trim_start (c ∷ t) ≡ trim_start t
unfolding trim_start
trim_start_space c t e = rw (e, trim_start)

pub trim_start_word : (c : ℕ) (t : List ℕ) → is_space c ≡ false → trim_start (c ∷ t) ≡ c ∷ t
unfolding trim_start
trim_start_word c t e = rw (e, trim_start)

pub trim_start_drop : (t : List ℕ) → trim_start t ≡ drop (count_while is_space t) t
unfolding trim_start
trim_start_drop [] = refl
trim_start_drop (c ∷ t) = by_test (is_space c) (λ e. rw (e, trim_start, count_while) (trim_start_drop t)) (λ e. rw (e, trim_start, count_while))

-- a byte of a word stays, whatever is left behind it
pub cons_trim_word : (c : ℕ) (t : List ℕ) → is_space c ≡ false → cons_trim c t ≡ c ∷ t
unfolding cons_trim
cons_trim_word c [] e = rw e
cons_trim_word c (d ∷ t) e = refl

-- AT THE END white space goes
pub trim_end_space : (t : List ℕ) (x : ℕ) → is_space x ≡ true → trim_end (t ++ (x ∷ [])) ≡ trim_end t
unfolding trim_end cons_trim
trim_end_space [] x e = rw e
trim_end_space (c ∷ t) x e = ap (cons_trim c) (trim_end_space t x e)

cons_trim_last : (c : ℕ) (t : List ℕ) (x : ℕ) → cons_trim c (t ++ (x ∷ [])) ≡ c ∷ (t ++ (x ∷ []))
unfolding cons_trim
cons_trim_last c [] x = refl
cons_trim_last c (d ∷ t) x = refl

-- a byte of a word stays
pub trim_end_word : (t : List ℕ) (x : ℕ) → is_space x ≡ false → trim_end (t ++ (x ∷ [])) ≡ t ++ (x ∷ [])
unfolding trim_end cons_trim
trim_end_word [] x e = rw e
trim_end_word (c ∷ t) x e = ap (cons_trim c) (trim_end_word t x e) ∙ cons_trim_last c t x

-- nothing is left
pub trim_start_over : (t r : List ℕ) → length t ≡ 0 → trim_start t ≡ r → t ≡ r
unfolding trim_start
trim_start_over [] r e h = h
trim_start_over (c ∷ t) r e h = absurd (omega (arith, e))

pub trim_end_over : (t r : List ℕ) → length t ≡ 0 → trim_end t ≡ r → t ≡ r
unfolding trim_end
trim_end_over [] r e h = h
trim_end_over (c ∷ t) r e h = absurd (omega (arith, e))
