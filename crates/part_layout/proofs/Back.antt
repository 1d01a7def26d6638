-- Laws of lists: one that is kept with the newest first, put in the order written behind an older one; a change at a place; four of something.
use Prim.Native.Nat.{ℕ, zero, suc, ◌+◌, ◌<◌}
use mathlib.Core.Path.{◌≡◌, refl, sym, ap, ◌∙◌}
use mathlib.Core.Bool.{false}
use mathlib.Core.List.{List, [], ◌∷◌, ◌++◌, map, reverse, reverse_aux, append_assoc}
use native.Mathlib.Nat.{not-suc-le-zero, le_of_suc-le-suc}
use native.Mathlib.Omega.{arith}
use lib.Dec.{eqb}
use lib.ListN.{length, get_or, length-append}
use Rattle.laws.specs.Lists.{alter_at, on_first, All}
use Rattle.laws.proofs.Lists.{map_append, All-append}
use Rattle.part_layout.specs.Lines.{four}

-- `xs`, newest first, in the order written behind `older`
abbrev pub back {ℓ} : {A : Type ℓ} → List A → List A → List A
back older [] = older
back older (x ∷ xs) = back older xs ++ (x ∷ [])

module _ {ℓ} {A : Type ℓ} where
  -- its length
  pub length_back : (older xs : List A) → length (back older xs) ≡ length older + length xs
  length_back older [] = omega arith
  length_back older (x ∷ xs) = omega (arith, length-append (back older xs) (x ∷ []), length_back older xs)

  -- the older list stands in front
  pub back_append : (older xs : List A) → back older xs ≡ older ++ back [] xs
  back_append older [] = sym (append_nil older)
    where
      append_nil : (l : List A) → l ++ [] ≡ l
      append_nil [] = refl
      append_nil (x ∷ l) = ap (λ (r : List A). x ∷ r) (append_nil l)
  back_append older (x ∷ xs) = ap (λ (l : List A). l ++ (x ∷ [])) (back_append older xs) ∙ append_assoc older (back [] xs) (x ∷ [])

  -- a property of each
  pub All-back : (P : A → Type 0) (older xs : List A) → All P older → All P xs → All P (back older xs)
  All-back P older [] p q = p
  All-back P older (x ∷ xs) p q = All-append P (back older xs) (x ∷ []) (All-back P older xs p q.1) (q.0, tt)

  -- a list in the other order, in front of another
  back_aux : (xs r : List A) → reverse_aux xs r ≡ back [] xs ++ r
  back_aux [] r = refl
  back_aux (x ∷ xs) r = back_aux xs (x ∷ r) ∙ sym (append_assoc (back [] xs) (x ∷ []) r)

  -- a list in the other order
  pub reverse_back : (xs : List A) → reverse xs ≡ back [] xs
  reverse_back [] = refl
  reverse_back (x ∷ xs) = back_aux xs (x ∷ [])

  -- it is as long
  pub length_reverse : (xs : List A) → length (reverse xs) ≡ length xs
  length_reverse xs = ap length (reverse_back xs) ∙ length_back [] xs ∙ omega arith

  -- A CHANGE AT A PLACE of the first of two lists
  pub alter_at_left : (i : ℕ) (f : A → A) (a b : List A) → i < length a → alter_at i f (a ++ b) ≡ alter_at i f a ++ b
  alter_at_left i f [] b h = absurd (not-suc-le-zero h)
  alter_at_left zero f (x ∷ a) b h = refl
  alter_at_left (suc i) f (x ∷ a) b h = ap (λ (l : List A). x ∷ l) (alter_at_left i f a b (le_of_suc-le-suc h))

  -- of the last element
  pub alter_at_last : (f : A → A) (a : List A) (x : A) → alter_at (length a) f (a ++ (x ∷ [])) ≡ a ++ (f x ∷ [])
  alter_at_last f [] x = refl
  alter_at_last f (y ∷ a) x = ap (λ (l : List A). y ∷ l) (alter_at_last f a x)

  -- nothing done to the first element
  pub on_first_same : (f : A → A) → ((x : A) → f x ≡ x) → (xs : List A) → on_first f xs ≡ xs
  on_first_same f h [] = refl
  on_first_same f h (x ∷ xs) = ap (λ (y : A). y ∷ xs) (h x)

  -- two functions that agree, on the first element
  pub on_first_agree : (f g : A → A) → ((x : A) → f x ≡ g x) → (xs : List A) → on_first f xs ≡ on_first g xs
  on_first_agree f g h [] = refl
  on_first_agree f g h (x ∷ xs) = ap (λ (y : A). y ∷ xs) (h x)

-- a map of it
pub map_back {ℓ κ} : {A : Type ℓ} {B : Type κ} (f : A → B) (xs : List A) → map f (back [] xs) ≡ back [] (map f xs)
map_back f [] = refl
map_back {B = B} f (x ∷ xs) = map_append f (back [] xs) (x ∷ []) ∙ ap (λ (l : List B). l ++ (f x ∷ [])) (map_back f xs)

-- FOUR: one for each overlay voice
module _ {ℓ} {A : Type ℓ} where
  -- one of them
  pub get_or_four : (f : ℕ → A) (o : ℕ) (d : A) → o < 4 → get_or (four f) o d ≡ f o
  get_or_four f zero d h = refl
  get_or_four f (suc zero) d h = refl
  get_or_four f (suc (suc zero)) d h = refl
  get_or_four f (suc (suc (suc zero))) d h = refl
  get_or_four f (suc (suc (suc (suc o)))) d h = absurd (omega (arith, h))

  -- one of them changed, the others as they are
  pub alter_four : (o : ℕ) (g : A → A) (f f' : ℕ → A) → o < 4 → g (f o) ≡ f' o → ((w : ℕ) → eqb o w ≡ false → f w ≡ f' w) → alter_at o g (four f) ≡ four f'
  alter_four zero g f f' h e k = λ i. e i ∷ k 1 refl i ∷ k 2 refl i ∷ k 3 refl i ∷ []
  alter_four (suc zero) g f f' h e k = λ i. k 0 refl i ∷ e i ∷ k 2 refl i ∷ k 3 refl i ∷ []
  alter_four (suc (suc zero)) g f f' h e k = λ i. k 0 refl i ∷ k 1 refl i ∷ e i ∷ k 3 refl i ∷ []
  alter_four (suc (suc (suc zero))) g f f' h e k = λ i. k 0 refl i ∷ k 1 refl i ∷ k 2 refl i ∷ e i ∷ []
  alter_four (suc (suc (suc (suc o)))) g f f' h e k = absurd (omega (arith, h))

  -- the same for each
  pub same_four : (f f' : ℕ → A) → ((w : ℕ) → f w ≡ f' w) → four f ≡ four f'
  same_four f f' k = λ i. k 0 i ∷ k 1 i ∷ k 2 i ∷ k 3 i ∷ []
