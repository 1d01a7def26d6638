-- THE CALL, BY EXAMPLE (T-02): answers and stores for one tune, whose list has four numbers, with stores of several lengths; and both refusals.
use Prim.Native.Nat.{ℕ}
use mathlib.Core.Path.{◌≡◌, refl}
use mathlib.Core.List.{List, [], ◌∷◌, ◌++◌}
use Rattle.laws.specs.Bytes.{zeros, splice}
use Rattle.reader.specs.Answer.{read, refused}
use Rattle.reading_walk.specs.Played.{played_measures}
use Rattle.reading_examples.specs.Opened.{opened}
use Rattle.reading_examples.specs.Readings.{store_of}

abbrev tune : List ℕ
tune = (store_of "K:C\n|:A|[1B:|[2c|]\n").reading

-- a count, then the numbers, four bytes each
abbrev bytes : List ℕ
bytes = 4 ∷ 0 ∷ 0 ∷ 0 ∷ 1 ∷ 0 ∷ 0 ∷ 0 ∷ 2 ∷ 0 ∷ 0 ∷ 0 ∷ 1 ∷ 0 ∷ 0 ∷ 0 ∷ 3 ∷ 0 ∷ 0 ∷ 0 ∷ []

-- A STORE just large enough; a longer one; one byte less, and none
pub fits : played_measures tune 1 20 ≡ record { answer = read 20; store = bytes }
unfolding opened
fits = refl

pub longer : played_measures tune 1 25 ≡ record { answer = read 20; store = bytes ++ zeros 5 }
unfolding opened
longer = refl

pub one_less : played_measures tune 1 19 ≡ record { answer = refused 20 0; store = zeros 19 }
unfolding opened
one_less = refl

pub no_store : played_measures tune 1 0 ≡ record { answer = refused 20 0; store = [] }
unfolding opened
no_store = refl

-- NO SUCH PART: numbers are from 1; also where the store is short
pub part_0 : played_measures tune 0 20 ≡ record { answer = refused 19 0; store = zeros 20 }
unfolding opened
part_0 = refl

pub part_2 : played_measures tune 2 3 ≡ record { answer = refused 19 0; store = zeros 3 }
unfolding opened
part_2 = refl

-- NO WHOLE READING: something behind it; and what a refusal leaves has no part
pub not_whole : played_measures (splice tune 399 (1 ∷ [])) 1 20 ≡ record { answer = refused 19 0; store = zeros 20 }
unfolding opened
not_whole = refl

pub of_a_refusal : played_measures (store_of "K:C\n[0A\n").reading 1 20 ≡ record { answer = refused 19 0; store = zeros 20 }
unfolding opened
of_a_refusal = refl

-- A PART WITH NO MEASURE: the empty list takes four bytes
abbrev empty : List ℕ
empty = (store_of "V:1\nV:2\nK:C\nV:2\nA\n").reading

pub nothing : played_measures empty 1 4 ≡ record { answer = read 4; store = zeros 4 }
unfolding opened
nothing = refl

pub nothing_short : played_measures empty 1 3 ≡ record { answer = refused 20 0; store = zeros 3 }
unfolding opened
nothing_short = refl
