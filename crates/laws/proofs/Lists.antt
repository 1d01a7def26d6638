-- Laws of the functions on lists of specs/Lists.antt, and of `map`.
use Prim.Native.Nat.{ℕ, zero, suc, ◌+◌, ◌*◌, ◌≤◌, ◌<◌, zero-le, suc-le-suc}
use mathlib.Core.Path.{◌≡◌, refl, sym, ap, ap₂, subst, ◌∙◌}
use mathlib.Core.Bool.{Bool, true, false, cond, not, ◌&&◌, ◌||◌, false≢true}
use mathlib.Core.List.{List, [], ◌∷◌, ◌++◌, map, reverse, reverse_aux, append-nil, append_assoc}
use native.Mathlib.Nat.{not-suc-le-zero, le_of_suc-le-suc, add-zero, mul-add, mul-suc}
use native.Mathlib.Numerals.{add-one}
use native.Mathlib.Omega.{arith}
use lib.Dec.{eqb}
use lib.ListN.{length, get_or, take, drop, set, length-append, drop_of_length-le}
use lib.Seq.{drop-cons, get_or-drop}
use borrow.Author.Tests.{eqb-true}
use Rattle.laws.specs.Lists.{foldl, all, any, All, filter, concat, sum, alter_at, on_first, is_nil, eq_text, starts_with, elem, index_of}
use Rattle.laws.proofs.Bools.{by_test, and_left, and_right, and_both, or_left, or_right, or_no_left, or_no_right, eqb_same, same_test}

-- what is left from i on: the element there, and what is left from i + 1 on. So a function by recursion on the list goes on in a loop by position
pub drop_next {ℓ} : {A : Type ℓ} (xs : List A) (i : ℕ) (d : A) → i < length xs → drop i xs ≡ get_or xs i d ∷ drop (i + 1) xs
drop_next xs i d h = rw (add-one i) (drop-cons xs i d h)

-- the first byte of what is left from i on
pub first_at : (s : List ℕ) (i : ℕ) → get_or (drop i s) 0 0 ≡ get_or s i 0
first_at s i = get_or-drop i s 0 0 ∙ ap (λ k. get_or s k 0) (add-zero i)

-- and n bytes further on
pub first_on : (s : List ℕ) (i n : ℕ) → get_or (drop n (drop i s)) 0 0 ≡ get_or s (i + n) 0
first_on s i n = first_at (drop i s) n ∙ get_or-drop i s n 0

-- FOLDS
module _ {ℓ κ} {A : Type ℓ} {B : Type κ} where
  -- a fold goes on where the first list ends
  pub foldl_append : (f : B → A → B) (b : B) (xs ys : List A) → foldl f b (xs ++ ys) ≡ foldl f (foldl f b xs) ys
  foldl_append f b [] ys = refl
  foldl_append f b (x ∷ xs) ys = foldl_append f (f b x) xs ys

  -- one element more, at the end
  pub foldl_snoc : (f : B → A → B) (b : B) (xs : List A) (x : A) → foldl f b (xs ++ (x ∷ [])) ≡ f (foldl f b xs) x
  foldl_snoc f b xs x = foldl_append f b xs (x ∷ [])

  -- a fold whose steps keep a property keeps it
  pub foldl_holds {μ} : (P : B → Type μ) (f : B → A → B) → ((b : B) (x : A) → P b → P (f b x)) → (b : B) (xs : List A) → P b → P (foldl f b xs)
  foldl_holds P f h b [] p = p
  foldl_holds P f h b (x ∷ xs) p = foldl_holds P f h (f b x) xs (h b x p)

  -- by position, for a loop: one step
  pub foldl_at : (f : B → A → B) (b : B) (xs : List A) (i : ℕ) (d : A) → i < length xs → foldl f b (drop i xs) ≡ foldl f (f b (get_or xs i d)) (drop (i + 1) xs)
  foldl_at f b xs i d h = rw (drop_next xs i d h)

  -- past the end the state stays
  pub foldl_end : (f : B → A → B) (b : B) (xs : List A) (i : ℕ) → length xs ≤ i → foldl f b (drop i xs) ≡ b
  foldl_end f b xs i h = rw (drop_of_length-le xs h)

-- a fold seen through a map of states, where each step of f is a step of g on what v shows
pub foldl_view {ℓ κ μ} : {A : Type ℓ} {B : Type κ} {C : Type μ} (v : B → C) (f : B → A → B) (g : C → A → C)
    → ((b : B) (x : A) → v (f b x) ≡ g (v b) x) → (b : B) (xs : List A) → v (foldl f b xs) ≡ foldl g (v b) xs
foldl_view v f g h b [] = refl
foldl_view v f g h b (x ∷ xs) = foldl_view v f g h (f b x) xs ∙ ap (λ c. foldl g c xs) (h b x)

-- a view that sees only the elements that pass p shows the fold of those; with an invariant P of the states and a test q that each element passes
pub foldl_kept_in {ℓ κ μ ν} : {A : Type ℓ} {B : Type κ} {C : Type μ} (P : B → Type ν) (q p : A → Bool) (v : B → C) (f : B → A → B) (g : C → A → C)
    → ((b : B) (x : A) → P b → q x ≡ true → P (f b x))
    → ((b : B) (x : A) → P b → q x ≡ true → p x ≡ true → v (f b x) ≡ g (v b) x)
    → ((b : B) (x : A) → P b → q x ≡ true → p x ≡ false → v (f b x) ≡ v b)
    → (b : B) (xs : List A) → P b → all q xs ≡ true → v (foldl f b xs) ≡ foldl g (v b) (filter p xs)
foldl_kept_in P q p v f g stays seen unseen b [] h a = refl
foldl_kept_in P q p v f g stays seen unseen b (x ∷ xs) h a =
    let qx : q x ≡ true = and_left (q x) (all q xs) a in
    let ih = foldl_kept_in P q p v f g stays seen unseen (f b x) xs (stays b x h qx) (and_right (q x) (all q xs) a) in
    by_test (p x) (λ e. rw e (ih ∙ ap (λ c. foldl g c (filter p xs)) (seen b x h qx e)))
    (λ e. rw e (ih ∙ ap (λ c. foldl g c (filter p xs)) (unseen b x h qx e)))

-- MAP
module _ {ℓ κ} {A : Type ℓ} {B : Type κ} where
  -- a map of two lists, one after the other
  pub map_append : (f : A → B) (xs ys : List A) → map f (xs ++ ys) ≡ map f xs ++ map f ys
  map_append f [] ys = refl
  map_append f (x ∷ xs) ys = ap {B = List B} (λ r. f x ∷ r) (map_append f xs ys)

  -- a map of a list with one element changed
  pub map_set : (f : A → B) (xs : List A) (i : ℕ) (y : A) → map f (set xs i y) ≡ set (map f xs) i (f y)
  map_set f [] i y = refl
  map_set f (x ∷ xs) zero y = refl
  map_set f (x ∷ xs) (suc i) y = ap {B = List B} (λ r. f x ∷ r) (map_set f xs i y)

  -- two functions that agree on the list
  pub map_agree : (f g : A → B) (xs : List A) → ((x : A) → f x ≡ g x) → map f xs ≡ map g xs
  map_agree f g [] h = refl
  map_agree f g (x ∷ xs) h = λ i. h x i ∷ map_agree f g xs h i

-- a map of a map
pub map_map {ℓ κ μ} : {A : Type ℓ} {B : Type κ} {C : Type μ} (f : A → B) (g : B → C) (xs : List A) → map g (map f xs) ≡ map (λ x. g (f x)) xs
map_map f g [] = refl
map_map {C = C} f g (x ∷ xs) = ap {B = List C} (λ r. g (f x) ∷ r) (map_map f g xs)

-- TESTS OF EACH ELEMENT
module _ {ℓ} {A : Type ℓ} (p : A → Bool) where
  -- what passes at each element passes at a position
  pub all_get_d : (xs : List A) → all p xs ≡ true → (i : ℕ) (d : A) → i < length xs → p (get_or xs i d) ≡ true
  all_get_d [] e i d h = absurd (not-suc-le-zero h)
  all_get_d (x ∷ xs) e zero d h = and_left (p x) (all p xs) e
  all_get_d (x ∷ xs) e (suc i) d h = all_get_d xs (and_right (p x) (all p xs) e) i d (le_of_suc-le-suc h)

  -- by position, for a loop: by the element there, and the rest
  pub all_at : (xs : List A) (i : ℕ) (d : A) → i < length xs → all p (drop i xs) ≡ (p (get_or xs i d) && all p (drop (i + 1) xs))
  all_at xs i d h = rw (drop_next xs i d h)

  -- past the end each passes
  pub all_end : (xs : List A) (i : ℕ) → length xs ≤ i → all p (drop i xs) ≡ true
  all_end xs i h = rw (drop_of_length-le xs h)

  -- of two lists, one after the other
  pub all_append : (xs ys : List A) → all p (xs ++ ys) ≡ (all p xs && all p ys)
  all_append [] ys = refl
  all_append (x ∷ xs) ys = by_test (p x) (λ e. rw e (all_append xs ys)) (λ e. rw e)

  -- of the elements that another test keeps
  pub all_filter : (t : A → Bool) (xs : List A) → all p xs ≡ true → all p (filter t xs) ≡ true
  all_filter t [] a = refl
  all_filter t (x ∷ xs) a =
      let r = all_filter t xs (and_right (p x) (all p xs) a) in
      by_test (t x) (λ e. rw e (and_both (p x) (all p (filter t xs)) (and_left (p x) (all p xs) a) r)) (λ e. rw e r)

  -- the test as a property of each element
  pub all_All : (xs : List A) → all p xs ≡ true → All (λ x. p x ≡ true) xs
  all_All [] e = tt
  all_All (x ∷ xs) e = (and_left (p x) (all p xs) e, all_All xs (and_right (p x) (all p xs) e))

  -- and back
  pub All-all : (xs : List A) → All (λ x. p x ≡ true) xs → all p xs ≡ true
  All-all [] h = refl
  All-all (x ∷ xs) h = and_both (p x) (all p xs) h.0 (All-all xs h.1)

  -- some element, by position: by the element there, and the rest
  pub any_at : (xs : List A) (i : ℕ) (d : A) → i < length xs → any p (drop i xs) ≡ (p (get_or xs i d) || any p (drop (i + 1) xs))
  any_at xs i d h = rw (drop_next xs i d h)

  -- past the end none passes
  pub any_end : (xs : List A) (i : ℕ) → length xs ≤ i → any p (drop i xs) ≡ false
  any_end xs i h = rw (drop_of_length-le xs h)

  -- some element of two lists, one after the other
  pub any_append : (xs ys : List A) → any p (xs ++ ys) ≡ (any p xs || any p ys)
  any_append [] ys = refl
  any_append (x ∷ xs) ys = by_test (p x) (λ e. rw e) (λ e. rw e (any_append xs ys))

  -- no element passes: each fails
  pub any_none : (xs : List A) → any p xs ≡ false → All (λ x. p x ≡ false) xs
  any_none [] e = tt
  any_none (x ∷ xs) e = (or_no_left (p x) (any p xs) e, any_none xs (or_no_right (p x) (any p xs) e))

  -- each fails: no element passes
  pub none_any : (xs : List A) → All (λ x. p x ≡ false) xs → any p xs ≡ false
  none_any [] h = refl
  none_any (x ∷ xs) h = rw h.0 (none_any xs h.1)

-- A PROPERTY OF EACH ELEMENT
module _ {ℓ} {A : Type ℓ} where
  -- of two lists, one after the other
  pub All-append : (P : A → Type 0) (xs ys : List A) → All P xs → All P ys → All P (xs ++ ys)
  All-append P [] ys p q = q
  All-append P (x ∷ xs) ys p q = (p.0, All-append P xs ys p.1 q)

  -- of the first of two
  pub All-left : (P : A → Type 0) (xs ys : List A) → All P (xs ++ ys) → All P xs
  All-left P [] ys p = tt
  All-left P (x ∷ xs) ys p = (p.0, All-left P xs ys p.1)

  -- of the second of two
  pub All-right : (P : A → Type 0) (xs ys : List A) → All P (xs ++ ys) → All P ys
  All-right P [] ys p = p
  All-right P (x ∷ xs) ys p = All-right P xs ys p.1

  -- of each list: of all, one after the other
  pub All-concat : (P : A → Type 0) (xs : List (List A)) → All (All P) xs → All P (concat xs)
  All-concat P [] p = tt
  All-concat P (x ∷ xs) p = All-append P x (concat xs) p.0 (All-concat P xs p.1)

  -- and back
  pub All-uncat : (P : A → Type 0) (xs : List (List A)) → All P (concat xs) → All (All P) xs
  All-uncat P [] p = tt
  All-uncat P (x ∷ xs) p = (All-left P x (concat xs) p, All-uncat P xs (All-right P x (concat xs) p))

  -- what follows from it holds of each too
  pub All-map : (P Q : A → Type 0) → ((x : A) → P x → Q x) → (xs : List A) → All P xs → All Q xs
  All-map P Q f [] p = tt
  All-map P Q f (x ∷ xs) p = (f x p.0, All-map P Q f xs p.1)

  -- what holds of everything holds of each
  pub All-every : (P : A → Type 0) → ((x : A) → P x) → (xs : List A) → All P xs
  All-every P f [] = tt
  All-every P f (x ∷ xs) = (f x, All-every P f xs)

  -- at a position
  pub All-get_or : (P : A → Type 0) (xs : List A) → All P xs → (i : ℕ) (d : A) → i < length xs → P (get_or xs i d)
  All-get_or P [] p i d h = absurd (not-suc-le-zero h)
  All-get_or P (x ∷ xs) p zero d h = p.0
  All-get_or P (x ∷ xs) p (suc i) d h = All-get_or P xs p.1 i d (le_of_suc-le-suc h)

  -- what holds of each holds of the list turned around
  All-back : (P : A → Type 0) (xs ys : List A) → All P xs → All P ys → All P (reverse_aux xs ys)
  All-back P [] ys p q = q
  All-back P (x ∷ xs) ys p q = All-back P xs (x ∷ ys) p.1 (p.0, q)

  -- of the whole list
  pub All-reverse : (P : A → Type 0) (xs : List A) → All P xs → All P (reverse xs)
  All-reverse P xs p = All-back P xs [] p tt

  -- at any place, where it holds of what stands past the end
  pub All-here : (P : A → Type 0) (xs : List A) → All P xs → (i : ℕ) (d : A) → P d → P (get_or xs i d)
  All-here P [] p i d q = q
  All-here P (x ∷ xs) p zero d q = p.0
  All-here P (x ∷ xs) p (suc i) d q = All-here P xs p.1 i d q

-- ELEMENTS KEPT
module _ {ℓ} {A : Type ℓ} (t : A → Bool) where
  -- an element at the front that passes
  pub filter_yes : (x : A) (xs : List A) → t x ≡ true → filter t (x ∷ xs) ≡ x ∷ filter t xs
  filter_yes x xs e = rw e

  -- an element at the front that does not
  pub filter_no : (x : A) (xs : List A) → t x ≡ false → filter t (x ∷ xs) ≡ filter t xs
  filter_no x xs e = rw e

  -- of two lists, one after the other
  pub filter_append : (xs ys : List A) → filter t (xs ++ ys) ≡ filter t xs ++ filter t ys
  filter_append [] ys = refl
  filter_append (x ∷ xs) ys = by_test (t x) (λ e. rw e (ap {B = List A} (λ r. x ∷ r) (filter_append xs ys))) (λ e. rw e (filter_append xs ys))

  -- one element more at the end, that passes
  pub filter_snoc_yes : (xs : List A) (x : A) → t x ≡ true → filter t (xs ++ (x ∷ [])) ≡ filter t xs ++ (x ∷ [])
  filter_snoc_yes xs x e = filter_append xs (x ∷ []) ∙ ap (λ l. filter t xs ++ l) (filter_yes x [] e)

  -- one element more at the end, that does not
  pub filter_snoc_no : (xs : List A) (x : A) → t x ≡ false → filter t (xs ++ (x ∷ [])) ≡ filter t xs
  filter_snoc_no xs x e = filter_append xs (x ∷ []) ∙ ap (λ l. filter t xs ++ l) (filter_no x [] e) ∙ append-nil (filter t xs)

  -- to keep twice is to keep once
  pub filter_filter : (xs : List A) → filter t (filter t xs) ≡ filter t xs
  filter_filter [] = refl
  filter_filter (x ∷ xs) = by_test (t x) (λ e. rw e (rw e (ap {B = List A} (λ r. x ∷ r) (filter_filter xs)))) (λ e. rw e (filter_filter xs))

  -- what holds of each holds of what is kept
  pub All-filter : (P : A → Type 0) (xs : List A) → All P xs → All P (filter t xs)
  All-filter P [] p = tt
  All-filter P (x ∷ xs) p = by_test (t x) (λ e. rw e (p.0, All-filter P xs p.1)) (λ e. rw e (All-filter P xs p.1))

  -- what is kept passes
  pub filter_passes : (xs : List A) → All (λ x. t x ≡ true) (filter t xs)
  filter_passes [] = tt
  filter_passes (x ∷ xs) =
      by_test (t x) (λ e. subst (All (λ y. t y ≡ true)) (sym (filter_yes x xs e)) (e, filter_passes xs))
      (λ e. subst (All (λ y. t y ≡ true)) (sym (filter_no x xs e)) (filter_passes xs))

  -- where each passes all are kept
  pub filter_whole : (xs : List A) → All (λ x. t x ≡ true) xs → filter t xs ≡ xs
  filter_whole [] p = refl
  filter_whole (x ∷ xs) p = filter_yes x xs p.0 ∙ ap {B = List A} (λ r. x ∷ r) (filter_whole xs p.1)

  -- where none passes nothing is kept
  pub filter_none : (xs : List A) → All (λ x. t x ≡ false) xs → filter t xs ≡ []
  filter_none [] p = refl
  filter_none (x ∷ xs) p = filter_no x xs p.0 ∙ filter_none xs p.1

  -- no more are kept than there are
  pub filter_le : (xs : List A) → length (filter t xs) ≤ length xs
  filter_le [] = zero-le
  filter_le (x ∷ xs) = by_test (t x) (λ e. rw e (suc-le-suc (filter_le xs))) (λ e. rw e (omega (arith, filter_le xs)))

  -- what is kept weighs no more
  pub sum_filter : (f : A → ℕ) (xs : List A) → sum f (filter t xs) ≤ sum f xs
  sum_filter f [] = zero-le
  sum_filter f (x ∷ xs) = by_test (t x) (λ e. rw e (omega (arith, sum_filter f xs))) (λ e. rw e (omega (arith, sum_filter f xs)))

  -- how many are kept, one by one
  pub length_filter : (xs : List A) → length (filter t xs) ≡ sum (λ x. cond (t x) 1 0) xs
  length_filter [] = refl
  length_filter (x ∷ xs) = by_test (t x) (λ e. rw e (omega (arith, length_filter xs))) (λ e. rw e (omega (arith, length_filter xs)))

-- of those that pass one test, those that fail another and those that pass it
pub filter_split {ℓ} : {A : Type ℓ} (s t : A → Bool) (xs : List A) → length (filter s xs) ≡ length (filter (λ x. s x && not (t x)) xs) + length (filter (λ x. s x && t x) xs)
filter_split s t [] = refl
filter_split s t (x ∷ xs) =
    by_test (s x) (λ e. by_test (t x) (λ f. rw (e, f) (omega (arith, filter_split s t xs))) (λ f. rw (e, f) (omega (arith, filter_split s t xs)))) (λ e. rw e (filter_split s t xs))

-- two tests that agree on the list keep the same
pub filter_agree {ℓ} : {A : Type ℓ} (s t : A → Bool) (xs : List A) → All (λ x. s x ≡ t x) xs → filter s xs ≡ filter t xs
filter_agree s t [] p = refl
filter_agree s t (x ∷ xs) p = λ i. cond (p.0 i) (x ∷ filter_agree s t xs p.1 i) (filter_agree s t xs p.1 i)

-- a view that sees only the elements that pass p shows the fold of those
pub foldl_kept {ℓ κ μ} : {A : Type ℓ} {B : Type κ} {C : Type μ} (v : B → C) (f : B → A → B) (g : C → A → C) (p : A → Bool)
    → ((b : B) (x : A) → p x ≡ true → v (f b x) ≡ g (v b) x)
    → ((b : B) (x : A) → p x ≡ false → v (f b x) ≡ v b)
    → (b : B) (xs : List A) → v (foldl f b xs) ≡ foldl g (v b) (filter p xs)
foldl_kept {A = A} v f g p seen unseen b xs =
    foldl_kept_in (λ _. Unit {0}) (λ _. true) p v f g (λ _ _ _ _. tt) (λ b x _ _. seen b x) (λ b x _ _. unseen b x) b xs tt
    (All-all {A = A} (λ _. true) xs (All-every (λ _. true ≡ true) (λ _. refl) xs))

-- LISTS OF LISTS, AND SUMS
module _ {ℓ} {A : Type ℓ} where
  -- of two lists of lists, one after the other
  pub concat_append : (xs ys : List (List A)) → concat (xs ++ ys) ≡ concat xs ++ concat ys
  concat_append [] ys = refl
  concat_append (x ∷ xs) ys = ap (λ (l : List A). x ++ l) (concat_append xs ys) ∙ sym (append_assoc x (concat xs) (concat ys))

  -- one list more, at the end
  pub concat_snoc : (xs : List (List A)) (x : List A) → concat (xs ++ (x ∷ [])) ≡ concat xs ++ x
  concat_snoc xs x = concat_append xs (x ∷ []) ∙ ap (λ (l : List A). concat xs ++ l) (append-nil x)

  -- of lists of one element each
  pub concat_singles : (xs : List A) → concat (map (λ x. x ∷ []) xs) ≡ xs
  concat_singles [] = refl
  concat_singles (x ∷ xs) = ap {B = List A} (λ r. x ∷ r) (concat_singles xs)

  -- its length is the sum of the lengths
  pub length_concat : (xs : List (List A)) → length (concat xs) ≡ sum length xs
  length_concat [] = refl
  length_concat (x ∷ xs) = length-append x (concat xs) ∙ ap (λ (n : ℕ). length x + n) (length_concat xs)

  -- the sum over two lists, one after the other
  pub sum_append : (f : A → ℕ) (xs ys : List A) → sum f (xs ++ ys) ≡ sum f xs + sum f ys
  sum_append f [] ys = omega arith
  sum_append f (x ∷ xs) ys = omega (arith, sum_append f xs ys)

  -- the sum over lists, one after the other
  pub sum_concat : (f : A → ℕ) (xs : List (List A)) → sum f (concat xs) ≡ sum (sum f) xs
  sum_concat f [] = refl
  sum_concat f (x ∷ xs) = sum_append f x (concat xs) ∙ ap (λ (n : ℕ). sum f x + n) (sum_concat f xs)

  -- the sum of smaller numbers is smaller
  pub sum_le : (f g : A → ℕ) (xs : List A) → All (λ x. f x ≤ g x) xs → sum f xs ≤ sum g xs
  sum_le f g [] h = zero-le
  sum_le f g (x ∷ xs) h = omega (arith, h.0, sum_le f g xs h.1)

  -- of a list turned around
  sum_back : (f : A → ℕ) (xs ys : List A) → sum f (reverse_aux xs ys) ≡ sum f xs + sum f ys
  sum_back f [] ys = omega arith
  sum_back f (x ∷ xs) ys = omega (arith, sum_back f xs (x ∷ ys))

  -- the sum does not see the order
  pub sum_reverse : (f : A → ℕ) (xs : List A) → sum f (reverse xs) ≡ sum f xs
  sum_reverse f xs = omega (arith, sum_back f xs [])

  -- one element put in the place of another: the sum grows by what the element grows
  pub sum_put : (f : A → ℕ) (k : ℕ) (v : A) (xs : List A) (e : A) (d : ℕ) → f v ≤ f (get_or xs k e) + d → sum f (alter_at k (λ old. v) xs) ≤ sum f xs + d
  sum_put f k v [] e d h = omega arith
  sum_put f zero v (x ∷ xs) e d h = omega arith
  sum_put f (suc k) v (x ∷ xs) e d h = omega (arith, sum_put f k v xs e d h)

  -- by d more, just so much
  pub sum_put_more : (f : A → ℕ) (k : ℕ) (v : A) (xs : List A) (e : A) (d : ℕ) → k < length xs → f v ≡ f (get_or xs k e) + d → sum f (alter_at k (λ old. v) xs) ≡ sum f xs + d
  sum_put_more f k v [] e d l h = absurd (not-suc-le-zero l)
  sum_put_more f zero v (x ∷ xs) e d l h = omega (arith, h)
  sum_put_more f (suc k) v (x ∷ xs) e d l h = omega (arith, sum_put_more f k v xs e d (le_of_suc-le-suc l) h)

  -- one element changed, where a change adds d at most
  pub sum_alter : (f : A → ℕ) (k : ℕ) (g : A → A) (d : ℕ) → ((x : A) → f (g x) ≤ f x + d) → (xs : List A) → sum f (alter_at k g xs) ≤ sum f xs + d
  sum_alter f k g d h [] = omega arith
  sum_alter f zero g d h (x ∷ xs) = omega (arith, h x)
  sum_alter f (suc k) g d h (x ∷ xs) = omega (arith, sum_alter f k g d h xs)

  -- equal numbers have equal sums
  pub sum_same : (f g : A → ℕ) → ((x : A) → f x ≡ g x) → (xs : List A) → sum f xs ≡ sum g xs
  sum_same f g h [] = refl
  sum_same f g h (x ∷ xs) = omega (arith, h x, sum_same f g h xs)

  -- two sums at once
  pub sum_both : (f g : A → ℕ) (xs : List A) → sum (λ x. f x + g x) xs ≡ sum f xs + sum g xs
  sum_both f g [] = refl
  sum_both f g (x ∷ xs) = omega (arith, sum_both f g xs)

  -- so many times each
  pub sum_mul : (n : ℕ) (f : A → ℕ) (xs : List A) → sum (λ x. n * f x) xs ≡ n * sum f xs
  sum_mul n f [] = omega arith
  sum_mul n f (x ∷ xs) = omega (arith, sum_mul n f xs, mul-add n (f x) (sum f xs))

  -- of what is left of a list
  pub sum_drop : (f : A → ℕ) (n : ℕ) (l : List A) → sum f (drop n l) ≤ sum f l
  sum_drop f zero l = omega arith
  sum_drop f (suc n) [] = zero-le
  sum_drop f (suc n) (x ∷ l) = omega (arith, sum_drop f n l)

  -- of more elements of its front
  pub sum_more : (f : A → ℕ) (m n : ℕ) (l : List A) → m ≤ n → sum f (take m l) ≤ sum f (take n l)
  sum_more f zero n l h = zero-le
  sum_more f (suc m) zero l h = absurd (not-suc-le-zero h)
  sum_more f (suc m) (suc n) [] h = zero-le
  sum_more f (suc m) (suc n) (x ∷ l) h = omega (arith, sum_more f m n l (omega arith))

  -- lists of one length, one after the other
  pub concat_length {κ} : {B : Type κ} (P : A → Type 0) (f : A → List B) (n : ℕ) → ((x : A) → P x → length (f x) ≡ n) → (xs : List A) → All P xs → length (concat (map f xs)) ≡ n * length xs
  concat_length P f n h [] p = omega arith
  concat_length P f n h (x ∷ xs) p =
      omega (arith, length-append (f x) (concat (map f xs)), h x p.0, concat_length P f n h xs p.1, mul-suc n (length xs))

-- a number of a list is at most all of them
pub get_or_sum : (ns : List ℕ) (i : ℕ) → get_or ns i 0 ≤ sum (λ n. n) ns
get_or_sum [] i = zero-le
get_or_sum (n ∷ ns) zero = omega arith
get_or_sum (n ∷ ns) (suc i) = omega (arith, get_or_sum ns i)

-- the sum over a map
pub sum_map {ℓ κ} : {A : Type ℓ} {B : Type κ} (f : A → B) (g : B → ℕ) (xs : List A) → sum g (map f xs) ≡ sum (λ x. g (f x)) xs
sum_map f g [] = refl
sum_map f g (x ∷ xs) = ap (λ (n : ℕ). g (f x) + n) (sum_map f g xs)

-- ONE ELEMENT CHANGED
module _ {ℓ} {A : Type ℓ} where
  -- the length stays
  pub length_alter_at : (k : ℕ) (f : A → A) (xs : List A) → length (alter_at k f xs) ≡ length xs
  length_alter_at k f [] = refl
  length_alter_at zero f (x ∷ xs) = refl
  length_alter_at (suc k) f (x ∷ xs) = ap suc (length_alter_at k f xs)

  -- as a store at the place
  pub alter_at_set : (k : ℕ) (f : A → A) (xs : List A) (d : A) → alter_at k f xs ≡ set xs k (f (get_or xs k d))
  alter_at_set k f [] d = refl
  alter_at_set zero f (x ∷ xs) d = refl
  alter_at_set (suc k) f (x ∷ xs) d = ap {B = List A} (λ r. x ∷ r) (alter_at_set k f xs d)

  -- the element that was changed
  pub get_or_alter_at : (k : ℕ) (f : A → A) (xs : List A) (d : A) → k < length xs → get_or (alter_at k f xs) k d ≡ f (get_or xs k d)
  get_or_alter_at k f [] d h = absurd (not-suc-le-zero h)
  get_or_alter_at zero f (x ∷ xs) d h = refl
  get_or_alter_at (suc k) f (x ∷ xs) d h = get_or_alter_at k f xs d (le_of_suc-le-suc h)

  -- any other element
  pub get_or_alter_at_other : (k j : ℕ) (f : A → A) (xs : List A) (d : A) → (j ≡ k → ⊥) → get_or (alter_at k f xs) j d ≡ get_or xs j d
  get_or_alter_at_other k j f [] d h = refl
  get_or_alter_at_other zero zero f (x ∷ xs) d h = absurd (h refl)
  get_or_alter_at_other zero (suc j) f (x ∷ xs) d h = refl
  get_or_alter_at_other (suc k) zero f (x ∷ xs) d h = refl
  get_or_alter_at_other (suc k) (suc j) f (x ∷ xs) d h = get_or_alter_at_other k j f xs d (λ e. h (ap suc e))

  -- to change twice is to change once
  pub alter_at_alter_at : (k : ℕ) (f g : A → A) (xs : List A) → alter_at k g (alter_at k f xs) ≡ alter_at k (λ x. g (f x)) xs
  alter_at_alter_at k f g [] = refl
  alter_at_alter_at zero f g (x ∷ xs) = refl
  alter_at_alter_at (suc k) f g (x ∷ xs) = ap {B = List A} (λ r. x ∷ r) (alter_at_alter_at k f g xs)

  -- a property that the change keeps
  pub All-alter_at : (P : A → Type 0) (k : ℕ) (f : A → A) → ((x : A) → P x → P (f x)) → (xs : List A) → All P xs → All P (alter_at k f xs)
  All-alter_at P k f h [] p = tt
  All-alter_at P zero f h (x ∷ xs) p = (h x p.0, p.1)
  All-alter_at P (suc k) f h (x ∷ xs) p = (p.0, All-alter_at P k f h xs p.1)

  -- the first element changed is the one at place 0
  pub on_first_alter_at : (f : A → A) (xs : List A) → on_first f xs ≡ alter_at 0 f xs
  on_first_alter_at f [] = refl
  on_first_alter_at f (x ∷ xs) = refl

  -- its length stays
  pub length_on_first : (f : A → A) (xs : List A) → length (on_first f xs) ≡ length xs
  length_on_first f [] = refl
  length_on_first f (x ∷ xs) = refl

  -- a property that its change keeps
  pub All-on_first : (P : A → Type 0) (f : A → A) → ((x : A) → P x → P (f x)) → (xs : List A) → All P xs → All P (on_first f xs)
  All-on_first P f h [] p = tt
  All-on_first P f h (x ∷ xs) p = (h x p.0, p.1)

  -- a list without elements
  pub is_nil_true : (xs : List A) → is_nil xs ≡ true → xs ≡ []
  is_nil_true [] h = refl
  is_nil_true (x ∷ xs) h = absurd (false≢true h)

-- the test of a list without elements, by its length
pub is_nil_length {ℓ} : {A : Type ℓ} (xs : List A) → is_nil xs ≡ eqb (length xs) 0
is_nil_length [] = refl
is_nil_length (x ∷ xs) = same_test false (eqb (suc (length xs)) 0) (λ e. absurd (false≢true e)) (λ e. absurd (no (eqb-true (suc (length xs)) 0 e)))
  where
    no : suc (length xs) ≡ 0 → ⊥
    no e = omega arith

-- TEXTS
-- texts that the test takes for the same are the same
pub eq_text_true : (xs ys : List ℕ) → eq_text xs ys ≡ true → xs ≡ ys
eq_text_true [] [] e = refl
eq_text_true [] (y ∷ ys) e = absurd (false≢true e)
eq_text_true (x ∷ xs) [] e = absurd (false≢true e)
eq_text_true (x ∷ xs) (y ∷ ys) e =
    ap₂ (λ (a : ℕ) (l : List ℕ). a ∷ l) (eqb-true x y (and_left _ (eq_text xs ys) e)) (eq_text_true xs ys (and_right (eqb x y) _ e))

-- a text is the same as itself
pub eq_text_same : (xs : List ℕ) → eq_text xs xs ≡ true
eq_text_same [] = refl
eq_text_same (x ∷ xs) = and_both _ _ (eqb_same x) (eq_text_same xs)

-- texts that differ fail the test
pub ne_eq_text : (xs ys : List ℕ) → (xs ≡ ys → ⊥) → eq_text xs ys ≡ false
ne_eq_text xs ys n = by_test (eq_text xs ys) (λ e. absurd (n (eq_text_true xs ys e))) (λ e. e)

-- the test does not see the order of the two
pub eq_text_sym : (xs ys : List ℕ) → eq_text xs ys ≡ eq_text ys xs
eq_text_sym xs ys =
    same_test (eq_text xs ys) (eq_text ys xs) (λ e. rw (eq_text_true xs ys e) (eq_text_same ys)) (λ e. rw (eq_text_true ys xs e) (eq_text_same xs))

-- texts of two lengths differ
pub eq_text_length : (xs ys : List ℕ) → (length xs ≡ length ys → ⊥) → eq_text xs ys ≡ false
eq_text_length xs ys n = ne_eq_text xs ys (λ e. n (ap length e))

-- the test at a position, for a loop: by the two bytes there, and the rest
pub eq_text_at : (xs ys : List ℕ) (i : ℕ) → i < length xs → i < length ys
    → eq_text (drop i xs) (drop i ys) ≡ (eqb (get_or xs i 0) (get_or ys i 0) && eq_text (drop (i + 1) xs) (drop (i + 1) ys))
eq_text_at xs ys i h k = rw (drop_next xs i 0 h, drop_next ys i 0 k)

-- and at the end
pub eq_text_end : (xs ys : List ℕ) (i : ℕ) → length xs ≤ i → length ys ≤ i → eq_text (drop i xs) (drop i ys) ≡ true
eq_text_end xs ys i h k = rw (drop_of_length-le xs h, drop_of_length-le ys k)

-- what a text begins with is its front
pub starts_with_take : (p s : List ℕ) → starts_with p s ≡ true → take (length p) s ≡ p
starts_with_take [] s e = refl
starts_with_take (p ∷ ps) [] e = absurd (false≢true e)
starts_with_take (p ∷ ps) (c ∷ s) e =
    ap₂ (λ (a : ℕ) (l : List ℕ). a ∷ l) (sym (eqb-true p c (and_left _ (starts_with ps s) e))) (starts_with_take ps s (and_right (eqb p c) _ e))

-- a text begins with what stands at its front
pub starts_with_append : (p s : List ℕ) → starts_with p (p ++ s) ≡ true
starts_with_append [] s = refl
starts_with_append (p ∷ ps) s = and_both _ _ (eqb_same p) (starts_with_append ps s)

-- it is as long as that, or longer
pub starts_with_length : (p s : List ℕ) → starts_with p s ≡ true → length p ≤ length s
starts_with_length [] s e = zero-le
starts_with_length (p ∷ ps) [] e = absurd (false≢true e)
starts_with_length (p ∷ ps) (c ∷ s) e = suc-le-suc (starts_with_length ps s (and_right (eqb p c) _ e))

-- the test at a position, for a loop: by the two bytes there, and the rest
pub starts_with_at : (p s : List ℕ) (i : ℕ) → i < length p → i < length s
    → starts_with (drop i p) (drop i s) ≡ (eqb (get_or p i 0) (get_or s i 0) && starts_with (drop (i + 1) p) (drop (i + 1) s))
starts_with_at p s i h k = rw (drop_next p i 0 h, drop_next s i 0 k)

-- where the prefix is over it passes
pub starts_with_end : (p s : List ℕ) (i : ℕ) → length p ≤ i → starts_with (drop i p) (drop i s) ≡ true
starts_with_end p s i h = rw (drop_of_length-le p h)

-- where the text is over and the prefix is not it fails
pub starts_with_short : (p s : List ℕ) (i : ℕ) → i < length p → length s ≤ i → starts_with (drop i p) (drop i s) ≡ false
starts_with_short p s i h k = rw (drop_next p i 0 h, drop_of_length-le s k)

-- TEXTS IN A LIST
-- a text of the first list stands in both, one after the other
pub elem_left : (v : List ℕ) (xs ys : List (List ℕ)) → elem v xs ≡ true → elem v (xs ++ ys) ≡ true
elem_left v [] ys h = absurd (false≢true h)
elem_left v (x ∷ xs) ys h =
    by_test (eq_text x v) (λ e. or_left (eq_text x v) (elem v (xs ++ ys)) e)
    (λ e. or_right (eq_text x v) (elem v (xs ++ ys)) (elem_left v xs ys (rw e at h)))

-- a text of the second too
pub elem_right : (v : List ℕ) (xs ys : List (List ℕ)) → elem v ys ≡ true → elem v (xs ++ ys) ≡ true
elem_right v [] ys h = h
elem_right v (x ∷ xs) ys h = or_right (eq_text x v) (elem v (xs ++ ys)) (elem_right v xs ys h)

-- a text stands in a list that ends with it
pub has_last : (v : List ℕ) (xs : List (List ℕ)) → elem v (xs ++ (v ∷ [])) ≡ true
has_last v xs = elem_right v xs (v ∷ []) (or_left (eq_text v v) false (eq_text_same v))

-- a text that stands in neither does not stand in both
pub has_none : (v : List ℕ) (xs ys : List (List ℕ)) → elem v xs ≡ false → elem v ys ≡ false → elem v (xs ++ ys) ≡ false
has_none v [] ys h k = k
has_none v (x ∷ xs) ys h k = rw (or_no_left (eq_text x v) (elem v xs) h) (has_none v xs ys (or_no_right (eq_text x v) (elem v xs) h) k)

-- the first of the list
pub index_zero : (v w : List ℕ) (ws : List (List ℕ)) → eq_text w v ≡ true → index_of v (w ∷ ws) ≡ 0
index_zero v w ws e = rw e

-- not the first of the list
pub index_suc : (v w : List ℕ) (ws : List (List ℕ)) → eq_text w v ≡ false → index_of v (w ∷ ws) ≡ suc (index_of v ws)
index_suc v w ws e = rw e

-- a text of the list stands within it
pub index_lt : (v : List ℕ) (ws : List (List ℕ)) → elem v ws ≡ true → index_of v ws < length ws
index_lt v [] h = absurd (false≢true h)
index_lt v (w ∷ ws) h =
    by_test (eq_text w v) (λ e. rw e (suc-le-suc zero-le)) (λ e. rw e (suc-le-suc (index_lt v ws (rw e at h))))

-- a text that is not in the list has its length for a place
pub index_none : (v : List ℕ) (ws : List (List ℕ)) → elem v ws ≡ false → index_of v ws ≡ length ws
index_none v [] h = refl
index_none v (w ∷ ws) h = rw (or_no_left (eq_text w v) (elem v ws) h) (ap suc (index_none v ws (or_no_right (eq_text w v) (elem v ws) h)))

-- the text at a text's place is that text
pub index_get_or : (v : List ℕ) (ws : List (List ℕ)) (d : List ℕ) → elem v ws ≡ true → get_or ws (index_of v ws) d ≡ v
index_get_or v [] d h = absurd (false≢true h)
index_get_or v (w ∷ ws) d h = by_test (eq_text w v) (λ e. rw e (eq_text_true w v e)) (λ e. rw e (index_get_or v ws d (rw e at h)))

-- further texts at the end do not move it
pub index_append : (v : List ℕ) (xs ys : List (List ℕ)) → elem v xs ≡ true → index_of v (xs ++ ys) ≡ index_of v xs
index_append v [] ys h = absurd (false≢true h)
index_append v (x ∷ xs) ys h = by_test (eq_text x v) (λ e. rw e) (λ e. rw e (ap suc (index_append v xs ys (rw e at h))))

-- two texts of the list that stand at one place are one
pub index_inj : (a b : List ℕ) (ws : List (List ℕ)) → elem a ws ≡ true → elem b ws ≡ true → index_of a ws ≡ index_of b ws → a ≡ b
index_inj a b ws p q h = sym (index_get_or a ws [] p) ∙ ap (λ (k : ℕ). get_or ws k []) h ∙ index_get_or b ws [] q
