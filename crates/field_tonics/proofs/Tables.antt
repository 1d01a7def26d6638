-- The two tables are the line of fifths: at every name of one byte or two they give the fifths of its tonic in the mode.
use Rattle.std.specs.Prelude.{Some, None}
use Prim.Native.Nat.{ℕ, ◌+◌, ◌<◌, ◌≤◌}
use mathlib.Core.Path.{◌≡◌, refl, sym, ap, ◌∙◌}
use mathlib.Core.Bool.{Bool, true, false, not, ◌&&◌}
use mathlib.Core.Option.{none}
use mathlib.Core.List.{List, [], ◌∷◌}
use native.Mathlib.Numerals.{add-one}
use lib.Dec.{eqb, leb}
use lib.ListN.{length, get_or, drop, drop_of_length-le}
use lib.Seq.{drop-cons}
use borrow.Author.Tests.{eqb-true}
use Rattle.laws.specs.Lists.{all}
use Rattle.laws.proofs.Bools.{by_test, not_true, and_left, and_right, and_no_right, eqb_sym}
use Rattle.laws.proofs.Finite.{below}
use Rattle.standard.specs.Pitches.{step_of}
use Rattle.standard.specs.Keys.{place, tonic, in_mode}
use Rattle.reader.specs.Keys.{in_table, fifths_of}
use Rattle.field_tonics.specs.declared.Name.{Name}
use Rattle.field_tonics.specs.declared.Name.TheVariants.{Empty, One, Gap, Two, Long}
use Rattle.field_tonics.specs.declared.KeyName.{KeyName}
use Rattle.field_tonics.specs.Names.{same_name, majors, minors, lookup_in, looked_up}

-- A SEARCH at a place of a table: found there, further on, or at the end
pub lookup_end : (ks : List KeyName) (n : Name) (i : ℕ) → length ks ≤ i → lookup_in (drop i ks) n ≡ None
unfolding lookup_in
lookup_end ks n i h = rw (drop_of_length-le ks h)

module _ (ks : List KeyName) (n : Name) (i : ℕ) (d : KeyName) (h : i < length ks) where
  pub lookup_here : same_name (get_or ks i d).name n ≡ true → lookup_in (drop i ks) n ≡ Some (get_or ks i d).fifths
  unfolding lookup_in
  lookup_here e = rw (drop-cons ks i d h, e)

  pub lookup_on : same_name (get_or ks i d).name n ≡ false → lookup_in (drop i ks) n ≡ lookup_in (drop (i + 1) ks) n
  unfolding lookup_in
  lookup_on e = rw (add-one, drop-cons ks i d h, e)

-- another name than those of one byte, or of two with the second byte s
abbrev other_than : ℕ → Name → Bool
other_than s (One g) = true
other_than s (Two g t) = not (eqb t s)
other_than s n = false

-- no second byte of the table: no name of it
other : (ks : List KeyName) (f s : ℕ) → all (λ (k : KeyName). other_than s k.name) ks ≡ true → lookup_in ks (Two f s) ≡ None
unfolding lookup_in same_name
other [] f s e = refl
other (k ∷ ks) f s e =
    rw (apart k.name (and_left (other_than s k.name) _ e)) (other ks f s (and_right (other_than s k.name) _ e))
  where
    apart : (n : Name) → other_than s n ≡ true → same_name n (Two f s) ≡ false
    apart Empty h = refl
    apart (One g) h = refl
    apart (Gap g) h = refl
    apart (Two g t) h = and_no_right (eqb g f) (eqb t s) (not_true (eqb t s) h)
    apart (Long g) h = refl

-- a second byte that is neither a sharp nor a flat makes no tonic
no_tonic : (f s : ℕ) → eqb s 35 ≡ false → eqb s 98 ≡ false → tonic (f ∷ s ∷ []) ≡ none
unfolding tonic
no_tonic f s p q = by_test (leb 65 f && leb f 71) (λ e. rw (e, tonic, p, q)) (λ e. rw (e, tonic))

-- ONE BYTE
pub one_byte : (m : Bool) (f : ℕ) → f < 256 → looked_up m (One f) ≡ fifths_of m (tonic (f ∷ []))
unfolding looked_up lookup_in same_name tonic place step_of in_mode in_table fifths_of
one_byte true f h = eqb-true _ _ (below 256 (λ x. eqb (looked_up true (One x)) (fifths_of true (tonic (x ∷ [])))) refl f h)
one_byte false f h = eqb-true _ _ (below 256 (λ x. eqb (looked_up false (One x)) (fifths_of false (tonic (x ∷ [])))) refl f h)

-- TWO BYTES
signed : (m : Bool) (f : ℕ) → f < 256 → (looked_up m (Two f 35) ≡ fifths_of m (tonic (f ∷ 35 ∷ []))) × (looked_up m (Two f 98) ≡ fifths_of m (tonic (f ∷ 98 ∷ [])))
unfolding looked_up lookup_in same_name tonic place step_of in_mode in_table fifths_of
signed true f h = (
  eqb-true _ _ (below 256 (λ x. eqb (looked_up true (Two x 35)) (fifths_of true (tonic (x ∷ 35 ∷ [])))) refl f h),
  eqb-true _ _ (below 256 (λ x. eqb (looked_up true (Two x 98)) (fifths_of true (tonic (x ∷ 98 ∷ [])))) refl f h),
)
signed false f h = (
  eqb-true _ _ (below 256 (λ x. eqb (looked_up false (Two x 35)) (fifths_of false (tonic (x ∷ 35 ∷ [])))) refl f h),
  eqb-true _ _ (below 256 (λ x. eqb (looked_up false (Two x 98)) (fifths_of false (tonic (x ∷ 98 ∷ [])))) refl f h),
)

unsigned : (m : Bool) (f s : ℕ) → eqb 35 s ≡ false → eqb 98 s ≡ false → looked_up m (Two f s) ≡ 128
unfolding looked_up
unsigned true f s p q = rw (other minors f s (rw (p, q)))
unsigned false f s p q = rw (other majors f s (rw (p, q)))

pub two_bytes : (m : Bool) (f s : ℕ) → f < 256 → looked_up m (Two f s) ≡ fifths_of m (tonic (f ∷ s ∷ []))
unfolding fifths_of
two_bytes m f s h =
    by_test (eqb s 35) (λ e. rw (eqb-true s 35 e) (signed m f h).0)
    (λ p. by_test (eqb s 98) (λ e. rw (eqb-true s 98 e) (signed m f h).1) (λ q. none_of p q))
  where
    none_of : eqb s 35 ≡ false → eqb s 98 ≡ false → looked_up m (Two f s) ≡ fifths_of m (tonic (f ∷ s ∷ []))
    none_of p q = unsigned m f s (eqb_sym 35 s ∙ p) (eqb_sym 98 s ∙ q) ∙ sym (ap (fifths_of m) (no_tonic f s p q))
