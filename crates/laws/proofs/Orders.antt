-- Laws of lists in another order. Each element has an owner; where each owner's own elements stand in the same order in two lists, one list is the
-- other in another order, and what is folded for each owner is the same.
use Prim.Native.Nat.{ℕ, suc, ◌+◌}
use mathlib.Core.Path.{◌≡◌, refl, sym, ap, subst, ◌∙◌}
use mathlib.Core.Bool.{Bool, true, false, cond}
use mathlib.Core.Logic.{◌⊎◌, inl, inr, ⊎_elim}
use mathlib.Core.List.{List, [], ◌∷◌, nil≢cons, head-eq_of_cons-eq, tail-eq_of_cons-eq}
use native.Mathlib.Omega.{arith}
use lib.Dec.{eqb, ltb}
use lib.ListN.{length, get_or, length-set}
use lib.Seq.{get_or-set_same, get_or-set_other, ext_get_or}
use borrow.Author.Tests.{eqb-true, eqb-false, ltb-true}
use Rattle.laws.specs.Lists.{foldl, all, All, filter, sum, eq_text, elem, index_of}
use Rattle.laws.proofs.Bools.{by_test, same_test}
use Rattle.laws.proofs.Lists.{All-map, all_filter, filter_yes, filter_no, filter_filter, filter_none, filter_agree, foldl_kept, foldl_kept_in, eq_text_true, eq_text_same, index_inj}
pub use Rattle.laws.specs.Orders.{Ins, here, there, Perm, nothing, more, at_owner}

-- AN ELEMENT PUT IN, AND ANOTHER ORDER
module _ {A : Type 0} where
  -- what holds of an element and of each of a list holds of each of the list with the element put in
  pub All-ins : (P : A → Type 0) {a : A} {xs ys : List A} → Ins a xs ys → P a → All P xs → All P ys
  All-ins P here p q = (p, q)
  All-ins P (there i) p q = (q.0, All-ins P i p q.1)

  -- and back
  pub All-ins-back : (P : A → Type 0) {a : A} {xs ys : List A} → Ins a xs ys → All P ys → P a × All P xs
  All-ins-back P here q = q
  All-ins-back P (there i) q = let r = All-ins-back P i q.1 in (r.0, (q.0, r.1))

  -- what holds of each holds of each in another order
  pub All-perm : (P : A → Type 0) {xs ys : List A} → Perm xs ys → All P xs → All P ys
  All-perm P nothing q = q
  All-perm P (more p i) q = All-ins P i q.0 (All-perm P p q.1)

  -- and back
  pub All-perm-back : (P : A → Type 0) {xs ys : List A} → Perm xs ys → All P ys → All P xs
  All-perm-back P nothing q = q
  All-perm-back P (more p i) q = let r = All-ins-back P i q in (r.0, All-perm-back P p r.1)

  -- the sum grows by the element put in
  pub sum_ins : (f : A → ℕ) {a : A} {xs ys : List A} → Ins a xs ys → sum f ys ≡ f a + sum f xs
  sum_ins f here = refl
  sum_ins f (there i) = omega (arith, sum_ins f i)

  -- the sum is the same in another order
  pub sum_perm : (f : A → ℕ) {xs ys : List A} → Perm xs ys → sum f ys ≡ sum f xs
  sum_perm f nothing = refl
  sum_perm f (more p i) = omega (arith, sum_ins f i, sum_perm f p)

  -- a list with an element put in has one more
  pub length_ins : {a : A} {xs ys : List A} → Ins a xs ys → length ys ≡ suc (length xs)
  length_ins here = refl
  length_ins (there i) = ap suc (length_ins i)

  -- in another order there are as many
  pub length_perm : {xs ys : List A} → Perm xs ys → length ys ≡ length xs
  length_perm nothing = refl
  length_perm (more p i) = length_ins i ∙ ap suc (length_perm p)

  -- no element has one order
  pub perm_nil : {ys : List A} → Perm [] ys → ys ≡ []
  perm_nil nothing = refl

  -- the order as it is
  pub perm_refl : (xs : List A) → Perm xs xs
  perm_refl [] = nothing
  perm_refl (x ∷ xs) = more (perm_refl xs) here

-- EACH OWNER'S OWN IN ORDER
module _ {A W : Type 0} (eq : W → W → Bool) (sound : (a b : W) → eq a b ≡ true → a ≡ b) (same : (a : W) → eq a a ≡ true) (o : A → W) where
  -- those of the owner v, in order
  abbrev own : W → List A → List A
  own v xs = filter (λ x. eq (o x) v) xs

  -- the first element of x's owner taken out
  find : (x : A) (t ys : List A) → own (o x) ys ≡ x ∷ t
      → (zs : List A) × Ins x zs ys × (own (o x) zs ≡ t) × ((w : W) → eq (o x) w ≡ false → own w zs ≡ own w ys)
  find x t [] h = absurd (nil≢cons h)
  find x t (y ∷ ys) h =
      let r : own (o x) ys ≡ x ∷ t → (zs : List A) × Ins x zs ys × (own (o x) zs ≡ t) × ((w : W) → eq (o x) w ≡ false → own w zs ≡ own w ys)
      = find x t ys in
      by_test
      (eq (o y) (o x))
      (λ e.
      let k : Path (List A) (y ∷ own (o x) ys) (x ∷ t) = sym (filter_yes (λ z. eq (o z) (o x)) y ys e) ∙ h in
      let yx : y ≡ x = head-eq_of_cons-eq k in (
        ys,
        subst (λ (a : A). Ins x ys (a ∷ ys)) (sym yx) here,
        tail-eq_of_cons-eq k,
        λ w n. sym (filter_no (λ z. eq (o z) w) y ys (ap (λ (a : A). eq (o a) w) yx ∙ n)),
      ))
      (λ e.
      let q : (zs : List A) × Ins x zs ys × (own (o x) zs ≡ t) × ((w : W) → eq (o x) w ≡ false → own w zs ≡ own w ys)
      = r (sym (filter_no (λ z. eq (o z) (o x)) y ys e) ∙ h) in (
        y ∷ q.0,
        there q.1,
        filter_no (λ z. eq (o z) (o x)) y q.0 e ∙ q.2,
        λ w n. λ i. cond (eq (o y) w) (y ∷ q.3 w n i) (q.3 w n i),
      ))

  -- two lists in which each owner's own elements are the same list are one another in another order
  pub moved_perm : (xs ys : List A) → ((v : W) → own v ys ≡ own v xs) → Perm xs ys
  moved_perm [] [] h = nothing
  moved_perm [] (y ∷ ys) h = absurd (nil≢cons (sym (h (o y)) ∙ filter_yes (λ z. eq (o z) (o y)) y ys (same (o y))))
  moved_perm (x ∷ xs) ys h =
      let q : (zs : List A) × Ins x zs ys × (own (o x) zs ≡ own (o x) xs) × ((w : W) → eq (o x) w ≡ false → own w zs ≡ own w ys)
      = find x (own (o x) xs) ys (h (o x) ∙ filter_yes (λ z. eq (o z) (o x)) x xs (same (o x))) in
      more
      (moved_perm xs q.0
      (λ v.
      by_test
      (eq (o x) v)
      (λ e. subst (λ (w : W). own w q.0 ≡ own w xs) (sound (o x) v e) q.2)
      (λ e. q.3 v e ∙ h v ∙ filter_no (λ z. eq (o z) v) x xs e)))
      q.1

-- OWNERS BY NAME AND BY NUMBER
module _ {A : Type 0} (o : A → List ℕ) (ids : List (List ℕ)) where
  -- x's owner has the number p
  abbrev at : ℕ → A → Bool
  at p x = eqb (index_of (o x) ids) p

  -- x's owner has a number
  abbrev Known : A → Type 0
  Known x = elem (o x) ids ≡ true

  first_at : (p : ℕ) (xs : List A) → All Known xs → ((x : A) × Known x × (at p x ≡ true)) ⊎ All (λ x. at p x ≡ false) xs
  first_at p [] k = inr tt
  first_at p (x ∷ xs) k =
      let rest : ((x : A) × Known x × (at p x ≡ true)) ⊎ All (λ x. at p x ≡ false) xs = first_at p xs k.1 in
      by_test (at p x) (λ e. inl (x, k.0, e)) (λ e. ⊎_elim (λ q. inl q) (λ q. inr (e, q)) rest)

  -- of two known elements, one of which has the number p: the other has it where they have one owner
  pub number_name : (p : ℕ) (x z : A) → Known x → at p x ≡ true → Known z → at p z ≡ eq_text (o z) (o x)
  number_name p x z kx e kz =
      same_test (at p z) (eq_text (o z) (o x))
      (λ ez. rw (index_inj (o z) (o x) ids kz kx (eqb-true (index_of (o z) ids) p ez ∙ sym (eqb-true (index_of (o x) ids) p e))) (eq_text_same (o x)))
      (λ t. rw (eq_text_true (o z) (o x) t) e)

  -- where the elements that each name owns are the same list in both, so are those that each number owns
  pub moved_index : (xs ys : List A) → All Known xs → ((v : List ℕ) → filter (λ x. eq_text (o x) v) ys ≡ filter (λ x. eq_text (o x) v) xs) → (p : ℕ) → filter (at p) ys ≡ filter (at p) xs
  moved_index xs ys k h p =
      let pm : Perm xs ys = moved_perm eq_text eq_text_true eq_text_same o xs ys h in
      ⊎_elim
      (λ q.
      let x : A = q.0 in
      filter_agree (at p) (λ z. eq_text (o z) (o x)) ys (All-map Known (λ z. at p z ≡ eq_text (o z) (o x)) (λ z kz. number_name p x z q.1 q.2 kz) ys (All-perm Known pm k))
      ∙ h (o x)
      ∙ sym (filter_agree (at p) (λ z. eq_text (o z) (o x)) xs (All-map Known (λ z. at p z ≡ eq_text (o z) (o x)) (λ z kz. number_name p x z q.1 q.2 kz) xs k)))
      (λ q. filter_none (at p) ys (All-perm (λ x. at p x ≡ false) pm q) ∙ sym (filter_none (at p) xs q))
      (first_at p xs k)

-- FOLDS WITH OWNERS
-- each step changes what its owner's view shows and no other's: two lists in which each owner's elements stand in the same order leave each view the same
pub any_order {ℓ κ μ} : {A : Type ℓ} {B : Type κ} {C : Type μ} (view : ℕ → B → C) (f : B → A → B) (g : C → A → C) (owner : A → ℕ)
    → ((v : ℕ) (b : B) (x : A) → eqb (owner x) v ≡ true → view v (f b x) ≡ g (view v b) x)
    → ((v : ℕ) (b : B) (x : A) → eqb (owner x) v ≡ false → view v (f b x) ≡ view v b)
    → (xs ys : List A) → ((v : ℕ) → filter (λ x. eqb (owner x) v) xs ≡ filter (λ x. eqb (owner x) v) ys)
    → (b : B) (v : ℕ) → view v (foldl f b xs) ≡ view v (foldl f b ys)
any_order view f g owner seen unseen xs ys same b v =
    foldl_kept (view v) f g (λ x. eqb (owner x) v) (seen v) (unseen v) b xs
    ∙ ap (λ l. foldl g (view v b) l) (same v)
    ∙ sym (foldl_kept (view v) f g (λ x. eqb (owner x) v) (seen v) (unseen v) b ys)

module _ {ℓ κ} {A : Type ℓ} {C : Type κ} (owner : A → ℕ) (g : C → A → C) (d : C) (n : ℕ) where
  -- in a list with a place for each owner: a place is the fold of its owner's elements alone
  pub place : (b : List C) (xs : List A) (v : ℕ) → length b ≡ n → all (λ x. ltb (owner x) n) xs ≡ true
      → get_or (foldl (at_owner owner g d) b xs) v d ≡ foldl g (get_or b v d) (filter (λ x. eqb (owner x) v) xs)
  place b xs v h a =
      foldl_kept_in (λ (c : List C). length c ≡ n) (λ x. ltb (owner x) n) (λ x. eqb (owner x) v) (λ c. get_or c v d) (at_owner owner g d) g
      (λ c x e q. length-set c (owner x) _ ∙ e)
      (λ c x e q s. let o = ltb-true (owner x) n q in rw (← eqb-true (owner x) v s) (get_or-set_same c (owner x) _ d (omega arith)))
      (λ c x e q s. get_or-set_other c (owner x) v _ d (λ w. eqb-false (owner x) v s (sym w)))
      b xs h a

  -- there are as many places as before
  pub fold_length : (b : List C) (xs : List A) → length (foldl (at_owner owner g d) b xs) ≡ length b
  fold_length b [] = refl
  fold_length b (x ∷ xs) = fold_length (at_owner owner g d b x) xs ∙ length-set b (owner x) _

  -- the order of different owners' elements changes nothing
  pub in_any_order : (b : List C) (xs ys : List A) → length b ≡ n → all (λ x. ltb (owner x) n) xs ≡ true → all (λ x. ltb (owner x) n) ys ≡ true
      → ((v : ℕ) → filter (λ x. eqb (owner x) v) xs ≡ filter (λ x. eqb (owner x) v) ys)
      → foldl (at_owner owner g d) b xs ≡ foldl (at_owner owner g d) b ys
  in_any_order b xs ys h a a' same =
      ext_get_or d _ _ (fold_length b xs ∙ sym (fold_length b ys))
      (λ v _. place b xs v h a ∙ ap (λ l. foldl g (get_or b v d) l) (same v) ∙ sym (place b ys v h a'))

  -- an owner's place is the one with all others' elements removed
  pub alone : (b : List C) (xs : List A) (v : ℕ) → length b ≡ n → all (λ x. ltb (owner x) n) xs ≡ true
      → get_or (foldl (at_owner owner g d) b xs) v d ≡ get_or (foldl (at_owner owner g d) b (filter (λ x. eqb (owner x) v) xs)) v d
  alone b xs v h a =
      place b xs v h a ∙ ap (λ l. foldl g (get_or b v d) l) (sym (filter_filter (λ x. eqb (owner x) v) xs))
      ∙ sym (place b (filter (λ x. eqb (owner x) v) xs) v h (all_filter (λ x. ltb (owner x) n) (λ x. eqb (owner x) v) xs a))
