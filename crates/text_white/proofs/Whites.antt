-- White space at a position.
use Prim.Native.Nat.{ℕ, ◌+◌, ◌≤◌, ◌<◌}
use mathlib.Core.Path.{◌≡◌, refl, sym, ap, ◌∙◌}
use mathlib.Core.Bool.{Bool, true, false, cond, false≢true}
use mathlib.Core.List.{List, [], ◌∷◌}
use native.Mathlib.Omega.{arith}
use borrow.Author.Tests.{ne_eqb}
use mir.Val.{bool_byte}
use lib.Dec.{eqb}
use lib.ListN.{length, get_or, drop}
use Rattle.laws.specs.Lists.{foldl}
use Rattle.laws.proofs.Bools.{by_test}
use Rattle.laws.proofs.Lists.{foldl_at}
use Rattle.reader.proofs.TextLaws.{other_stays}
use Rattle.reader.specs.Text.{is_space, White, white, in_c2, in_e1, in_e19a, in_e2, in_e280, in_e281, in_e3, in_e380, other, white_step, is_all_white, is_blank}
use Rattle.reader.specs.Pieces.{white_at}
use Rattle.text_white.specs.States.{is_other}

-- 0 is no byte of white space
zero_is_other : (q : White) → white_step q 0 ≡ other
unfolding white_step
zero_is_other white = refl
zero_is_other in_c2 = refl
zero_is_other in_e1 = refl
zero_is_other in_e19a = refl
zero_is_other in_e2 = refl
zero_is_other in_e280 = refl
zero_is_other in_e281 = refl
zero_is_other in_e3 = refl
zero_is_other in_e380 = refl
zero_is_other other = refl

-- nor is ASCII that is no space
pub plain_is_other : (c : ℕ) → c ≤ 127 → is_space c ≡ false → white_step white c ≡ other
unfolding white_step
plain_is_other c h e =
    let far : (n : ℕ) → 128 ≤ n → eqb c n ≡ false = λ n k. ne_eqb c n (λ x. omega arith) in
    rw (e, far 0xc2 (omega arith), far 0xe1 (omega arith), far 0xe2 (omega arith), far 0xe3 (omega arith))

-- the test for something else
pub other_of : (q : White) → is_other q ≡ true → q ≡ other
other_of white h = absurd (false≢true h)
other_of in_c2 h = absurd (false≢true h)
other_of in_e1 h = absurd (false≢true h)
other_of in_e19a h = absurd (false≢true h)
other_of in_e2 h = absurd (false≢true h)
other_of in_e280 h = absurd (false≢true h)
other_of in_e281 h = absurd (false≢true h)
other_of in_e3 h = absurd (false≢true h)
other_of in_e380 h = absurd (false≢true h)
other_of other h = refl

-- a text in which the reading comes to something else is not blank
pub other_is_not_blank : (t : List ℕ) (i : ℕ) (q : White) → i < length t → foldl white_step q (drop i t) ≡ foldl white_step white t
    → is_other (white_step q (get_or t i 0)) ≡ true → false ≡ is_blank t
unfolding is_blank
other_is_not_blank t i q h e o =
    ap is_all_white
    (sym (other_stays (drop (i + 1) t))
    ∙ ap (λ (p : White). foldl white_step p (drop (i + 1) t)) (sym (other_of (white_step q (get_or t i 0)) o))
    ∙ sym (foldl_at white_step q t i 0 h)
    ∙ e)

-- A WHITE CHARACTER at the front, by the first three bytes, 0 past the end
abbrev pub after1 : List ℕ → White
after1 s = white_step white (get_or s 0 0)

abbrev pub after2 : List ℕ → White
after2 s = white_step (after1 s) (get_or s 1 0)

abbrev pub after3 : List ℕ → White
after3 s = white_step (after2 s) (get_or s 2 0)

-- by the answers of the three tests
abbrev pub width_by : Bool → Bool → Bool → ℕ
width_by a b c = elim a [ true ↦ 1 | false ↦ elim b [ true ↦ 2 | false ↦ cond c 3 0 ] ]

short : (q : White) → is_all_white (white_step q 0) ≡ false
short q = ap is_all_white (zero_is_other q)

pub white_width : (s : List ℕ) → 0 < length s → white_at s ≡ width_by (is_all_white (after1 s)) (is_all_white (after2 s)) (is_all_white (after3 s))
unfolding white_at is_blank
white_width [] h = absurd (omega arith)
white_width (a ∷ []) h = alone (is_all_white (white_step white a)) (short (white_step white a)) (short (white_step (white_step white a) 0))
  where
    alone : (x : Bool) {y z : Bool} → y ≡ false → z ≡ false → width_by x x x ≡ width_by x y z
    alone true p q = refl
    alone false p q = rw (p, q)
white_width (a ∷ b ∷ []) h = pair (is_all_white (white_step white a)) (is_all_white (white_step (white_step white a) b)) (short (white_step (white_step white a) b))
  where
    pair : (x y : Bool) {z : Bool} → z ≡ false → width_by x y y ≡ width_by x y z
    pair true y p = refl
    pair false true p = refl
    pair false false p = rw p
white_width (a ∷ b ∷ c ∷ s) h = refl

-- white at once, and not at all
module _ (s : List ℕ) (h : 0 < length s) where
  width_one : is_all_white (after1 s) ≡ true → 1 ≡ white_at s
  width_one a = sym (white_width s h ∙ rw a)

  width_none : is_all_white (after1 s) ≡ false → is_all_white (after2 s) ≡ false → is_all_white (after3 s) ≡ false → 0 ≡ white_at s
  width_none a b c = sym (white_width s h ∙ rw (a, b, c))

-- ASCII at the front: a space is white, and nothing else is
pub width_space : (c : ℕ) (s : List ℕ) → is_space c ≡ true → 1 ≡ white_at (c ∷ s)
unfolding white_step
width_space c s e = width_one (c ∷ s) (omega arith) (rw e)

pub width_plain : (c : ℕ) (s : List ℕ) → c ≤ 127 → is_space c ≡ false → 0 ≡ white_at (c ∷ s)
unfolding white_step
width_plain c s h e =
    let one : after1 (c ∷ s) ≡ other = plain_is_other c h e in
    let two : after2 (c ∷ s) ≡ other = ap (λ (q : White). white_step q (get_or s 0 0)) one in
    let three : after3 (c ∷ s) ≡ other = ap (λ (q : White). white_step q (get_or s 1 0)) two in
    width_none (c ∷ s) (omega arith) (ap is_all_white one) (ap is_all_white two) (ap is_all_white three)

pub width_ascii : (c : ℕ) (s : List ℕ) → c ≤ 127 → bool_byte (is_space c) ≡ white_at (c ∷ s)
width_ascii c s h = by_test (is_space c) (λ e. rw e (width_space c s e)) (λ e. rw e (width_plain c s h e))
