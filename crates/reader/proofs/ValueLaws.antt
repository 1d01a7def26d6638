-- The written value of a length: what is given fits, no other of the forty that fits is longer, and a length that is one of the forty gets that one.
use Prim.Native.Nat.{ℕ, suc, ◌+◌, ◌*◌, ◌≤◌, ◌<◌}
use mathlib.Core.Path.{◌≡◌, refl, sym, ap, ◌∙◌}
use mathlib.Core.Bool.{Bool, true, false, ◌&&◌, false≢true}
use mathlib.Core.List.{List, [], ◌∷◌}
use native.Mathlib.Nat.{mul_comm, mul_assoc, mul_right_comm, mul-le-mul_right, mul-lt-mul_of_pos_right, eq_of_mul-eq-mul_right}
use native.Mathlib.Omega.{arith}
use lib.Dec.{leb, ltb, eqb}
use lib.Pow.{pow_pos}
use borrow.Author.Tests.{leb-true, ltb-true, eqb-true, le-leb, lt-leb, ne_eqb}
use Rattle.laws.specs.Lists.{all, any, all_below}
use Rattle.laws.proofs.Bools.{by_test, both_true, and_left, and_right, and_no_left, and_no_right}
use Rattle.laws.proofs.Finite.{below₂}
use Rattle.standard.specs.Lengths.{Fraction, length_fraction, Value, value_fraction, ticks, ten_values, with_dots, forty}
use Rattle.reader.specs.Lengths.{Length, quarter_note, longa, not_above, written_as, value_of}

-- a value and its dots
abbrev pub written : ℕ → ℕ → Value
written v d = record { value = v; dots = d }

-- one of the forty
abbrev pub is_one : Value → Bool
is_one w = ltb w.value 10 && ltb w.dots 4

pub one_range : (w : Value) → is_one w ≡ true → (w.value < 10) × (w.dots < 4)
one_range w e = (ltb-true _ _ (and_left (ltb w.value 10) (ltb w.dots 4) e), ltb-true _ _ (and_right (ltb w.value 10) (ltb w.dots 4) e))

-- the value w is v with d dots
abbrev pub is_written : ℕ → ℕ → Value → Bool
is_written v d w = eqb w.value v && eqb w.dots d

-- the test says what it is
pub is_written_lem : (v d : ℕ) (w : Value) → is_written v d w ≡ true → w ≡ written v d
is_written_lem v d w e =
    let p = eqb-true w.value v (and_left (eqb w.value v) (eqb w.dots d) e) in
    let q = eqb-true w.dots d (and_right (eqb w.value v) (eqb w.dots d) e) in
    λ i. record { value = p i; dots = q i }

-- computed at each
forty_all : all_below 10 (λ v. all_below 4 (λ d. any (is_written v d) forty)) ≡ true
unfolding forty ten_values with_dots
forty_all = refl

-- the forty are the ten values with 0 to 3 dots
pub in_forty : (v d : ℕ) → v < 10 → d < 4 → any (is_written v d) forty ≡ true
in_forty v d p q = below₂ 10 4 (λ v d. any (is_written v d) forty) forty_all v d p q

-- each is longer than all behind it
unfoldable pub falling : List Value → Bool
falling [] = true
falling (w ∷ ws) = all (λ x. ltb (ticks x) (ticks w)) ws && falling ws

-- so are the forty
pub forty_falling : falling forty ≡ true
unfolding falling forty ten_values with_dots ticks
forty_falling = refl

-- what each passes, one of them passes
each_one : (p : Value → Bool) (v d : ℕ) (ws : List Value) → all p ws ≡ true → any (is_written v d) ws ≡ true → p (written v d) ≡ true
each_one p v d [] a e = absurd (false≢true e)
each_one p v d (w ∷ ws) a e =
    by_test (is_written v d w) (λ f. rw (is_written_lem v d w f) at (and_left (p w) (all p ws) a))
    (λ f. each_one p v d ws (and_right (p w) (all p ws) a) (rw f at e))

-- OF ANY VALUES, the longest first: one that fits is found, so what is given fits and is as long as any that does
longest_fits : (ws : List Value) (a b v d : ℕ) → falling ws ≡ true → any (is_written v d) ws ≡ true → leb (ticks (written v d) * b) a ≡ true
    → (ticks (not_above ws a b) * b ≤ a) × (ticks (written v d) ≤ ticks (not_above ws a b))
unfolding not_above falling
longest_fits [] a b v d f e h = absurd (false≢true e)
longest_fits (w ∷ ws) a b v d f e h =
    let longer = and_left (all (λ x. ltb (ticks x) (ticks w)) ws) (falling ws) f in
    let more = and_right (all (λ x. ltb (ticks x) (ticks w)) ws) (falling ws) f in
    by_test (leb (ticks w * b) a)
    (λ q. rw (q, not_above) (
      leb-true _ _ q,
      by_test (is_written v d w)
          (λ r. rw (is_written_lem v d w r) (omega arith))
          (λ r. let l = ltb-true (ticks (written v d)) (ticks w) (each_one (λ x. ltb (ticks x) (ticks w)) v d ws longer (rw r at e)) in omega arith),
    ))
    (λ q. rw (q, not_above) (by_test (is_written v d w)
    (λ r. absurd (both_true _ h (rw (is_written_lem v d w r) at q)))
    (λ r. longest_fits ws a b v d more (rw r at e) h)))

-- and a length that one of them has gets that one
exactly : (ws : List Value) (b v d : ℕ) → 0 < b → falling ws ≡ true → any (is_written v d) ws ≡ true → not_above ws (ticks (written v d) * b) b ≡ written v d
unfolding not_above falling
exactly [] b v d h f e = absurd (false≢true e)
exactly (w ∷ ws) b v d h f e =
    let longer = and_left (all (λ x. ltb (ticks x) (ticks w)) ws) (falling ws) f in
    let more = and_right (all (λ x. ltb (ticks x) (ticks w)) ws) (falling ws) f in
    by_test (is_written v d w)
    (λ r. rw (le-leb (ticks w * b) (ticks (written v d) * b) (rw (is_written_lem v d w r) (omega arith)), not_above) (is_written_lem v d w r))
    (λ r. let l = ltb-true (ticks (written v d)) (ticks w) (each_one (λ x. ltb (ticks x) (ticks w)) v d ws longer (rw r at e)) in
    rw (lt-leb (ticks w * b) (ticks (written v d) * b) (mul-lt-mul_of_pos_right l h), not_above) (exactly ws b v d h more (rw r at e)))

-- where none fits a plain quarter is given
none_fits : (ws : List Value) (a b : ℕ) → all (λ w. leb 8 (ticks w)) ws ≡ true → a < 8 * b → not_above ws a b ≡ quarter_note
unfolding not_above
none_fits [] a b l h = refl
none_fits (w ∷ ws) a b l h =
    let p : 8 * b ≤ ticks w * b = mul-le-mul_right b (leb-true 8 (ticks w) (and_left (leb 8 (ticks w)) _ l)) in
    rw (lt-leb (ticks w * b) a (omega arith), not_above) (none_fits ws a b (and_right (leb 8 (ticks w)) _ l) h)

-- what holds of each and of a plain quarter holds of what is given
given_holds : (p : Value → Bool) (ws : List Value) (a b : ℕ) → all p ws ≡ true → p quarter_note ≡ true → p (not_above ws a b) ≡ true
unfolding not_above
given_holds p [] a b l q = q
given_holds p (w ∷ ws) a b l q =
    by_test (leb (ticks w * b) a) (λ e. rw (e, not_above) (and_left (p w) (all p ws) l)) (λ e. rw (e, not_above) (given_holds p ws a b (and_right (p w) (all p ws) l) q))

-- THE WRITTEN VALUE OF A FRACTION
-- a fraction that is not 0/0
not_both : (f : Fraction) → 0 < f.over + f.under → (eqb f.over 0 && eqb f.under 0) ≡ false
not_both f h =
    by_test (eqb f.over 0) (λ e. and_no_right (eqb f.over 0) (eqb f.under 0) (ne_eqb f.under 0 (λ z. absurd (two e z))))
    (λ e. and_no_left (eqb f.over 0) (eqb f.under 0) e)
  where
    two : eqb f.over 0 ≡ true → f.under ≡ 0 → ⊥
    two e z = let y = eqb-true f.over 0 e in omega arith

-- if one of the forty fits, what is given fits, and none of the forty that fits is longer; b and a are in 1024ths
pub written_fits : (f : Fraction) (v d : ℕ) → 0 < f.over + f.under → v < 10 → d < 4 → ticks (written v d) * f.under ≤ f.over * 1024
    → (ticks (written_as f) * f.under ≤ f.over * 1024) × (ticks (written v d) ≤ ticks (written_as f))
unfolding written_as
written_fits f v d z p q h =
    rw (not_both f z, written_as) (longest_fits forty (f.over * 1024) f.under v d forty_falling (in_forty v d p q) (le-leb _ _ h))

-- computed at each
fraction_all : all_below 10 (λ v. all_below 4 (λ d. eqb (ticks (written v d) * (value_fraction (written v d)).under) (1024 * (value_fraction (written v d)).over))) ≡ true
unfolding ticks value_fraction
fraction_all = refl

-- in 1024ths, each of the forty is the part of a whole note that its dots say
pub ticks_fraction : (v d : ℕ) → v < 10 → d < 4 → ticks (written v d) * (value_fraction (written v d)).under ≡ 1024 * (value_fraction (written v d)).over
ticks_fraction v d p q = eqb-true _ _ (below₂ 10 4 (λ v d. eqb (ticks (written v d) * (value_fraction (written v d)).under) (1024 * (value_fraction (written v d)).over)) fraction_all v d p q)

-- equal fractions have equal 1024ths
same_ticks : (over under t o u : ℕ) → 0 < u → t * u ≡ 1024 * o → over * u ≡ o * under → over * 1024 ≡ t * under
same_ticks over under t o u h p e =
    eq_of_mul-eq-mul_right u h (over * 1024) (t * under)
    (mul_right_comm over 1024 u ∙ ap (λ (x : ℕ). x * 1024) e ∙ mul_comm (o * under) 1024 ∙ sym (mul_assoc 1024 o under) ∙ ap (λ (x : ℕ). x * under) (sym p) ∙ mul_right_comm t u under)

-- a length that one of the forty has, in 1024ths, gets that one
pub written_met : (f : Fraction) (v d : ℕ) → 0 < f.under → v < 10 → d < 4 → ticks (written v d) * f.under ≡ f.over * 1024 → written_as f ≡ written v d
unfolding written_as
written_met f v d h p q e =
    rw (not_both f (omega arith), written_as) (ap (λ (a : ℕ). not_above forty a f.under) (sym e) ∙ exactly forty f.under v d h forty_falling (in_forty v d p q))

-- two of the forty that are as long are one
pub one_size : (v d x y : ℕ) → v < 10 → d < 4 → x < 10 → y < 4 → ticks (written v d) ≡ ticks (written x y) → written v d ≡ written x y
one_size v d x y p q r s e =
    let f : Fraction = record { over = ticks (written v d); under = 1024 } in
    sym (written_met f v d (omega arith) p q refl) ∙ written_met f x y (omega arith) r s (ap (λ (n : ℕ). n * 1024) (sym e))

-- a length that is one of the forty, as any fraction equal to it, gets exactly that one
pub written_exactly : (f : Fraction) (v d : ℕ) → 0 < f.under → v < 10 → d < 4
    → f.over * (value_fraction (written v d)).under ≡ (value_fraction (written v d)).over * f.under → written_as f ≡ written v d
unfolding value_fraction
written_exactly f v d h p q e =
    let w = written v d in
    written_met f v d h p q (sym (same_ticks f.over f.under (ticks w) (value_fraction w).over (value_fraction w).under (pow_pos (v + d)) (ticks_fraction v d p q) e))

-- computed at each
forty_8 : all (λ w. leb 8 (ticks w)) forty ≡ true
unfolding forty ten_values with_dots ticks
forty_8 = refl

-- a length below a 128th gets a plain quarter
pub written_short : (f : Fraction) → f.over * 1024 < 8 * f.under → written_as f ≡ quarter_note
unfolding written_as
written_short f h = rw (not_both f (omega arith), written_as) (none_fits forty (f.over * 1024) f.under forty_8 h)

-- denominator 0: a longa with 3 dots
pub written_zero : (n : ℕ) → written_as (record { over = suc n; under = 0 }) ≡ written 0 3
unfolding written_as forty ten_values with_dots not_above
written_zero n =
    rw (ne_eqb (suc n) 0 (λ e. absurd (omega (arith, e))), written_as)
    (rw (le-leb (ticks (written 0 3) * 0) (suc n * 1024) (omega arith), not_above))

-- 0/0: a plain longa
pub written_nothing : written_as (record { over = 0; under = 0 }) ≡ longa
unfolding written_as
written_nothing = refl

-- computed at each
forty_range : all is_one forty ≡ true
unfolding forty ten_values with_dots
forty_range = refl

-- what is given is one of the ten values, with 3 dots at most
pub written_range : (f : Fraction) → ((written_as f).value < 10) × ((written_as f).dots < 4)
unfolding written_as
written_range f =
    by_test (eqb f.over 0 && eqb f.under 0) (λ e. rw (e, written_as) (omega arith, omega arith))
    (λ e. rw (e, written_as) (one_range (not_above forty (f.over * 1024) f.under) (given_holds is_one forty (f.over * 1024) f.under forty_range refl)))

-- THE SAME OF A NOTE'S LENGTH, for the unit in force
abbrev pub fraction_of : ℕ → Length → Fraction
fraction_of u l = length_fraction u l.num l.den

-- what is given fits, and none of the forty that fits is longer
pub value_fits : (u : ℕ) (l : Length) (v d : ℕ) → 0 < (fraction_of u l).over + (fraction_of u l).under → v < 10 → d < 4
    → ticks (written v d) * (fraction_of u l).under ≤ (fraction_of u l).over * 1024
    → (ticks (value_of u l) * (fraction_of u l).under ≤ (fraction_of u l).over * 1024) × (ticks (written v d) ≤ ticks (value_of u l))
unfolding value_of
value_fits u l v d = written_fits (fraction_of u l) v d

-- a length that is one of the forty gets exactly that one
pub value_exactly : (u : ℕ) (l : Length) (v d : ℕ) → 0 < (fraction_of u l).under → v < 10 → d < 4
    → (fraction_of u l).over * (value_fraction (written v d)).under ≡ (value_fraction (written v d)).over * (fraction_of u l).under → value_of u l ≡ written v d
unfolding value_of
value_exactly u l v d = written_exactly (fraction_of u l) v d

-- one of the ten values, with 3 dots at most
pub value_range : (u : ℕ) (l : Length) → ((value_of u l).value < 10) × ((value_of u l).dots < 4)
unfolding value_of
value_range u l = written_range (fraction_of u l)
