-- THE WORD "MOVED": it is a rearrangement, and just what exchanges of neighbours of different voices lead to. For every reader. Assumes nothing.
use Prim.Native.Nat.{ℕ}
use mathlib.Core.Path.{◌≡◌, refl, sym, ap, subst, ◌∙◌}
use mathlib.Core.Bool.{Bool, true, false, cond, true≢false}
use mathlib.Core.List.{List, [], ◌∷◌, ◌++◌, nil≢cons, head-eq_of_cons-eq, tail-eq_of_cons-eq}
use Rattle.laws.specs.Lists.{All, filter, eq_text}
use Rattle.laws.specs.Orders.{Perm}
use Rattle.laws.proofs.Bools.{by_test}
use Rattle.laws.proofs.Lists.{filter_yes, filter_no, eq_text_true, eq_text_same}
use Rattle.laws.proofs.Orders.{moved_perm}
use Rattle.reader.specs.Steps.{TextLine}
use Rattle.blocks.specs.Frame.{Reader, ident_of, Moved}

module _ (R : Reader) where
  pub moved_is_perm : (old new : List (List TextLine)) → Moved R old new → Perm old new
  moved_is_perm old new h = moved_perm eq_text eq_text_true eq_text_same (ident_of R) old new h

  pub moved_refl : (bs : List (List TextLine)) → Moved R bs bs
  moved_refl bs v = refl

  pub moved_trans : (xs ys zs : List (List TextLine)) → Moved R xs ys → Moved R ys zs → Moved R xs zs
  moved_trans xs ys zs f g v = g v ∙ f v

  pub moved_sym : (xs ys : List (List TextLine)) → Moved R xs ys → Moved R ys xs
  moved_sym xs ys f v = sym (f v)

  pub moved_swap : (xs ys : List (List TextLine)) (b c : List TextLine) → eq_text (ident_of R b) (ident_of R c) ≡ false → Moved R (xs ++ (b ∷ (c ∷ ys))) (xs ++ (c ∷ (b ∷ ys)))
  moved_swap [] ys b c d v =
      go (eq_text (ident_of R b) v) refl (eq_text (ident_of R c) v) refl
    where
      k : List (List TextLine)
      k = filter (λ x. eq_text (ident_of R x) v) ys

      go : (x : Bool) → eq_text (ident_of R b) v ≡ x → (y : Bool) → eq_text (ident_of R c) v ≡ y →
          cond y (c ∷ cond x (b ∷ k) k) (cond x (b ∷ k) k) ≡ cond x (b ∷ cond y (c ∷ k) k) (cond y (c ∷ k) k)
      go true ex true ey =
          absurd
          (true≢false
          (sym (ap (λ (z : List ℕ). eq_text z (ident_of R c)) (eq_text_true (ident_of R b) v ex ∙ sym (eq_text_true (ident_of R c) v ey)) ∙ eq_text_same (ident_of R c))
          ∙ d))
      go true ex false ey = refl
      go false ex true ey = refl
      go false ex false ey = refl
  moved_swap (x ∷ xs) ys b c d v = λ i. cond (eq_text (ident_of R x) v) (x ∷ moved_swap xs ys b c d v i) (moved_swap xs ys b c d v i)

  -- and it is just what such exchanges lead to: nothing else is moved, added or dropped
  pub data Swaps : List (List TextLine) → List (List TextLine) → Type 0 where
    stay : {xs : List (List TextLine)} → Swaps xs xs
    swap : {b c : List TextLine} {xs : List (List TextLine)} → eq_text (ident_of R b) (ident_of R c) ≡ false → Swaps (b ∷ (c ∷ xs)) (c ∷ (b ∷ xs))
    later : {x : List TextLine} {xs ys : List (List TextLine)} → Swaps xs ys → Swaps (x ∷ xs) (x ∷ ys)
    twice : {xs ys zs : List (List TextLine)} → Swaps xs ys → Swaps ys zs → Swaps xs zs

  pub swaps_moved : {xs ys : List (List TextLine)} → Swaps xs ys → Moved R xs ys
  swaps_moved stay = λ v. refl
  swaps_moved (swap {b = b} {c = c} {xs = xs} d) = moved_swap [] xs b c d
  swaps_moved (later {x = x} {xs = xs} {ys = ys} s) = λ v. λ i. cond (eq_text (ident_of R x) v) (x ∷ swaps_moved s v i) (swaps_moved s v i)
  swaps_moved (twice {xs = xs} {ys = ys} {zs = zs} s t) = moved_trans xs ys zs (swaps_moved s) (swaps_moved t)

  -- a block brought behind blocks of other voices
  behind : (x : List TextLine) (xs ys : List (List TextLine)) → All (λ b. eq_text (ident_of R x) (ident_of R b) ≡ false) xs → Swaps (x ∷ (xs ++ ys)) (xs ++ (x ∷ ys))
  behind x [] ys h = stay
  behind x (b ∷ xs) ys h = twice (swap h.0) (later (behind x xs ys h.1))

  -- where the first block of x's voice stands
  abbrev First : List TextLine → List (List TextLine) → Type 0
  First x ys = (front : List (List TextLine)) × (back : List (List TextLine)) × (ys ≡ front ++ (x ∷ back)) × All (λ b. eq_text (ident_of R x) (ident_of R b) ≡ false) front

  differ : (x y : List TextLine) → eq_text (ident_of R y) (ident_of R x) ≡ false → eq_text (ident_of R x) (ident_of R y) ≡ false
  differ x y e =
      by_test
      (eq_text (ident_of R x) (ident_of R y))
      (λ u. absurd (true≢false (sym (ap (λ (v : List ℕ). eq_text v (ident_of R x)) (sym (eq_text_true (ident_of R x) (ident_of R y) u)) ∙ eq_text_same (ident_of R x)) ∙ e)))
      (λ u. u)

  further : (x y : List TextLine) (ys : List (List TextLine)) → eq_text (ident_of R x) (ident_of R y) ≡ false → First x ys → First x (y ∷ ys)
  further x y ys d q = (y ∷ q.0, q.1, (λ i. y ∷ q.2 i), (d, q.3))

  where_first : (x : List TextLine) (t ys : List (List TextLine)) → filter (λ b. eq_text (ident_of R b) (ident_of R x)) ys ≡ x ∷ t → First x ys
  where_first x t [] h = absurd (nil≢cons h)
  where_first x t (y ∷ ys) h =
      let rest : filter (λ b. eq_text (ident_of R b) (ident_of R x)) ys ≡ x ∷ t → First x ys = where_first x t ys in
      by_test
      (eq_text (ident_of R y) (ident_of R x))
      (λ e.
      let k : Path (List (List TextLine)) (y ∷ filter (λ b. eq_text (ident_of R b) (ident_of R x)) ys) (x ∷ t) = sym (filter_yes (λ b. eq_text (ident_of R b) (ident_of R x)) y ys e) ∙ h in
      let yx : y ≡ x = head-eq_of_cons-eq k in
      ([], ys, (λ i. yx i ∷ ys), tt))
      (λ e. further x y ys (differ x y e) (rest (sym (filter_no (λ b. eq_text (ident_of R b) (ident_of R x)) y ys e) ∙ h)))

  moved_tail : (x : List TextLine) (xs zs : List (List TextLine)) → Moved R (x ∷ xs) (x ∷ zs) → Moved R xs zs
  moved_tail x xs zs h v = go (eq_text (ident_of R x) v) (h v)
    where
      go : (b : Bool) → cond b (x ∷ filter (λ y. eq_text (ident_of R y) v) zs) (filter (λ y. eq_text (ident_of R y) v) zs) ≡ cond b (x ∷ filter (λ y. eq_text (ident_of R y) v) xs) (filter (λ y. eq_text (ident_of R y) v) xs) →
          filter (λ y. eq_text (ident_of R y) v) zs ≡ filter (λ y. eq_text (ident_of R y) v) xs
      go true e = tail-eq_of_cons-eq e
      go false e = e

  pub moved_swaps : (old new : List (List TextLine)) → Moved R old new → Swaps old new
  moved_swaps [] [] h = stay
  moved_swaps [] (y ∷ ys) h = absurd (nil≢cons (sym (h (ident_of R y)) ∙ filter_yes (λ b. eq_text (ident_of R b) (ident_of R y)) y ys (eq_text_same (ident_of R y))))
  moved_swaps (x ∷ xs) ys h =
      let rec : (zs : List (List TextLine)) → Moved R xs zs → Swaps xs zs = moved_swaps xs in
      go rec (where_first x (filter (λ b. eq_text (ident_of R b) (ident_of R x)) xs) ys (h (ident_of R x) ∙ filter_yes (λ b. eq_text (ident_of R b) (ident_of R x)) x xs (eq_text_same (ident_of R x))))
    where
      go : ((zs : List (List TextLine)) → Moved R xs zs → Swaps xs zs) → First x ys → Swaps (x ∷ xs) ys
      go rec q =
          let s : Swaps (x ∷ (q.0 ++ q.1)) (q.0 ++ (x ∷ q.1)) = behind x q.0 q.1 q.3 in
          let k : Moved R (x ∷ xs) (x ∷ (q.0 ++ q.1))
          = moved_trans (x ∷ xs) ys (x ∷ (q.0 ++ q.1)) h
          (subst (λ (l : List (List TextLine)). Moved R l (x ∷ (q.0 ++ q.1))) (sym q.2) (moved_sym (x ∷ (q.0 ++ q.1)) (q.0 ++ (x ∷ q.1)) (swaps_moved s))) in
          subst (Swaps (x ∷ xs)) (sym q.2) (twice (later (rec (q.0 ++ q.1) (moved_tail x xs (q.0 ++ q.1) k))) s)
