-- Functions on lists that the definitions are written with and that the kit's libraries lack or keep shut.
use Rattle.std.specs.Prelude.{ℕ, zero, suc, ◌+◌, Bool, true, false, cond, ◌&&◌, ◌||◌, List, [], ◌∷◌, ◌++◌, eqb}

-- a left fold: the state after each element in turn
abbrev pub foldl {ℓ κ} : {A : Type ℓ} {B : Type κ} → (B → A → B) → B → List A → B
foldl f b [] = b
foldl f b (x ∷ xs) = foldl f (f b x) xs

-- the test passes at each element
abbrev pub all {ℓ} : {A : Type ℓ} → (A → Bool) → List A → Bool
all p [] = true
all p (x ∷ xs) = p x && all p xs

-- the test passes at some element
abbrev pub any {ℓ} : {A : Type ℓ} → (A → Bool) → List A → Bool
any p [] = false
any p (x ∷ xs) = p x || any p xs

-- every element has the property
abbrev pub All {ℓ} : {A : Type ℓ} → (A → Type 0) → List A → Type 0
All P [] = Unit {0}
All P (x ∷ xs) = P x × All P xs

-- the elements that pass a test, in order
abbrev pub filter {ℓ} : {A : Type ℓ} → (A → Bool) → List A → List A
filter p [] = []
filter p (x ∷ xs) = cond (p x) (x ∷ filter p xs) (filter p xs)

-- the lists, one after the other
abbrev pub concat {ℓ} : {A : Type ℓ} → List (List A) → List A
concat [] = []
concat (x ∷ xs) = x ++ concat xs

-- the sum of a number for each element
abbrev pub sum {ℓ} : {A : Type ℓ} → (A → ℕ) → List A → ℕ
sum f [] = 0
sum f (x ∷ xs) = f x + sum f xs

-- how many elements at the front pass
abbrev pub count_while {ℓ} : {A : Type ℓ} → (A → Bool) → List A → ℕ
count_while p [] = 0
count_while p (c ∷ s) = elim (p c) [ true ↦ suc (count_while p s) | false ↦ 0 ]

-- the element at place k changed; nothing past the end
abbrev pub alter_at {ℓ} : {A : Type ℓ} → ℕ → (A → A) → List A → List A
alter_at k f [] = []
alter_at zero f (x ∷ xs) = f x ∷ xs
alter_at (suc k) f (x ∷ xs) = x ∷ alter_at k f xs

-- the first element changed, if there is one
abbrev pub on_first {ℓ} : {A : Type ℓ} → (A → A) → List A → List A
on_first f [] = []
on_first f (x ∷ xs) = f x ∷ xs

-- a list without elements
abbrev pub is_nil {ℓ} : {A : Type ℓ} → List A → Bool
is_nil [] = true
is_nil (c ∷ cs) = false

-- two texts are the same
abbrev pub eq_text : List ℕ → List ℕ → Bool
eq_text [] [] = true
eq_text [] (y ∷ ys) = false
eq_text (x ∷ xs) [] = false
eq_text (x ∷ xs) (y ∷ ys) = eqb x y && eq_text xs ys

-- the second text begins with the first
abbrev pub starts_with : List ℕ → List ℕ → Bool
starts_with [] s = true
starts_with (p ∷ ps) [] = false
starts_with (p ∷ ps) (c ∷ s) = eqb p c && starts_with ps s

-- the text v stands in the list
abbrev pub elem : List ℕ → List (List ℕ) → Bool
elem v [] = false
elem v (w ∷ ws) = eq_text w v || elem v ws

-- where the text v stands first in the list; the list's length if it does not
abbrev pub index_of : List ℕ → List (List ℕ) → ℕ
index_of v [] = 0
index_of v (w ∷ ws) = cond (eq_text w v) 0 (suc (index_of v ws))

-- the test passes at each number below n
abbrev pub all_below : ℕ → (ℕ → Bool) → Bool
all_below zero p = true
all_below (suc n) p = elim (p n) [ true ↦ all_below n p | false ↦ false ]
