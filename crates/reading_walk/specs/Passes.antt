-- THE WALK PASS BY PASS: where a player stands by his measure, section and pass alone, and what a pass of a section lists.
use Rattle.std.specs.Prelude.{ℕ, suc, ◌≤◌, ◌<◌, ◌≡◌, true, false, cond, List, ◌∷◌, ◌++◌, eqb, ltb, take, drop}
use Rattle.laws.specs.Lists.{All}
use Rattle.reading_list.specs.Numbers.{above}
use Rattle.reading_walk.specs.Walk.{Bar, Place, opens, limit, is_skipped, left_behind, played_from}

-- before measure m in pass p of the section that starts at s: behind its start, or at it with pass 1, he came forward
unfoldable pub standing : ℕ → ℕ → ℕ → Place
standing m s p = record { at = m; section = s; pass = p; forward = cond (eqb p 1) true (ltb s m) }

-- what is played from there
unfoldable pub played_at : List Bar → ℕ → ℕ → ℕ → List ℕ
played_at bars m s p = played_from bars (standing m s p)

-- what is played once measure m has closed a pass: the section again with the next pass, or from the next measure
unfoldable pub played_on : List Bar → ℕ → ℕ → ℕ → List ℕ
played_on bars m s p = cond (ltb p (limit bars s)) (played_at bars s s (suc p)) (played_at bars (suc m) (suc m) 1)

-- ns are what pass p listed from behind a section start s up to measure m: from every later measure t up to m the same pass lists those above t, in whatever section
unfoldable pub Follows : List Bar → ℕ → ℕ → ℕ → List ℕ → Type 0
Follows bars p s m ns = (t u : ℕ) → s < t → t ≤ m → u ≤ t → played_at bars t u p ≡ above t ns ++ played_at bars m u p

-- and where measure m closed it
unfoldable pub Closes : List Bar → ℕ → ℕ → ℕ → List ℕ → Type 0
Closes bars p s m ns = (t u : ℕ) → s < t → t ≤ m → u ≤ t → played_at bars t u p ≡ above t ns ++ played_on bars m u p

-- what is played once measure m, b, has been listed
unfoldable pub played_past : List Bar → ℕ → ℕ → ℕ → Bar → List ℕ
played_past bars m s p b = played_from bars (left_behind bars (standing m s p) b)

-- the numbers of a list from index `from` up to index `to`
unfoldable pub segment : List ℕ → ℕ → ℕ → List ℕ
segment ns from to = drop from (take to ns)

-- HOW FAR A PASS HAS COME in the list `all`: before measure m with c numbers listed, those of this pass from number `from` on
pub record Walking (bars : List Bar) (all : List ℕ) (m s p from c : ℕ) : Type 0 where
  pub order : from ≤ c
  pub rest : drop c all ≡ played_at bars m s p
  pub follows : Follows bars p s m (segment all from c)
  pub below : All (λ x. x ≤ m) (segment all from c)

-- at measure m, b, which is played: the section and pass are those that he enters it with
pub record Listing (bars : List Bar) (all : List ℕ) (m s p from c : ℕ) (b : Bar) : Type 0 where
  pub order : from ≤ c
  pub rest : drop c all ≡ suc m ∷ played_past bars m s p b
  pub follows : Follows bars p s m (segment all from c)
  pub below : All (λ x. x ≤ m) (segment all from c)
  pub closed_to : s < m → opens b.left ≡ false
  pub plays : s < m → is_skipped b.span p ≡ false

-- closed by measure m
pub record Closed (bars : List Bar) (all : List ℕ) (m s p from c : ℕ) : Type 0 where
  pub order : from ≤ c
  pub rest : drop c all ≡ played_on bars m s p
  pub again : Closes bars p s m (segment all from c)
