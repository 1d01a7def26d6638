-- A letter alone, and one with a length of one byte: where a plain byte or the line's end stands behind it, no octave mark, no length, no tie and no slur end does.
use Prim.Native.Nat.{ℕ, suc, ◌+◌, ◌≤◌, ◌<◌}
use mathlib.Core.Path.{◌≡◌, refl, ap, ◌∙◌}
use mathlib.Core.Bool.{true, false}
use mathlib.Core.Logic.{◌⊎◌, inl, inr}
use mathlib.Core.List.{List, [], ◌∷◌}
use native.Mathlib.Omega.{arith}
use lib.Dec.{ltb, leb, eqb}
use lib.ListN.{length, drop}
use borrow.Author.Tests.{ltb-true, leb-true, le-leb, lt-leb, eqb-true, eqb-false, ne_eqb}
use Rattle.laws.specs.Lists.{count_while}
use Rattle.laws.proofs.Bools.{by_test, both_true, and_left, and_right, and_both, and_no_left, and_no_right, or_either}
use Rattle.laws.proofs.Spans.{count_while_yes, count_while_no, count_while_off}
use Rattle.standard.specs.Bytes.{is_digit, first}
use Rattle.standard.specs.Pitches.{step_of, letter_octave}
use Rattle.reader.specs.Text.{within}
use Rattle.editions.specs.declared.Edition.{Edition}
use Rattle.reader.specs.Lengths.{Length, number, slashes, length_over, length_of, many_slashes}
use Rattle.reader.specs.Pitches.{Octave, octave_from, octave_of, Before}
use Rattle.reader.specs.Sounds.{behind, note_as}
use Rattle.reader.specs.Token.{note, taken}
use Rattle.reader.proofs.LengthLaws.{no_slash, lone_slash, length_by, many_by, with_few}
use Rattle.token_lexemes.specs.Lexemes.{is_plain}

-- a plain byte is no byte that is not plain
module _ (c : ℕ) (h : is_plain c ≡ true) where
  no_sign : (x : ℕ) → is_plain x ≡ false → eqb c x ≡ false
  no_sign x k = by_test (eqb c x) (λ e. absurd (both_true (is_plain c) h (ap is_plain (eqb-true c x e) ∙ k))) (λ e. e)

  no_digit : is_digit c ≡ false
  no_digit = go (or_either (ltb c 39) (ltb 57 c) h)
    where
      go : (ltb c 39 ≡ true) ⊎ (ltb 57 c ≡ true) → is_digit c ≡ false
      go (inl e) = and_no_left (leb 48 c) (leb c 57) (lt-leb 48 c (omega (arith, ltb-true c 39 e)))
      go (inr e) = and_no_right (leb 48 c) (leb c 57) (lt-leb c 57 (ltb-true 57 c e))

-- neither a comma nor an apostrophe at the front
marks_none : (s : List ℕ) → count_while (λ c. eqb c 44) s ≡ 0 → count_while (λ c. eqb c 39) s ≡ 0 → (c : ℕ) → octave_of c s ≡ record { octave = letter_octave c; used = 0; fine = true }
unfolding octave_of octave_from letter_octave
marks_none s m n c = by_test (ltb c 97) (λ e. rw (e, m, n)) (λ e. rw (e, m, n))

-- what stands from the plain byte on
module _ (s : List ℕ) (h : is_plain (first s) ≡ true) where
  no_run : (x : ℕ) → eqb 0 x ≡ false → is_plain x ≡ false → count_while (λ c. eqb c x) s ≡ 0
  no_run x z k = count_while_off (λ c. eqb c x) z s 0 (no_sign (first s) h x k)

  no_marks : (c : ℕ) → octave_of c s ≡ record { octave = letter_octave c; used = 0; fine = true }
  no_marks c = marks_none s (no_run 44 refl refl) (no_run 39 refl refl) c

  no_digits : count_while is_digit s ≡ 0
  no_digits = count_while_off is_digit refl s 0 (no_digit (first s) h)

  none_counts : (ed : Edition) → slashes ed (drop (count_while is_digit s) s) ≡ 0
  none_counts ed = rw no_digits (no_slash ed s (no_sign (first s) h 47 refl))

  no_length : (ed : Edition) → length_of ed s ≡ record { num = 1; den = 1; used = 0 }
  unfolding length_over number
  no_length ed = length_by ed s 0 (none_counts ed) ∙ ap (λ (n : ℕ). length_over (number 1 n s) n 0 (drop (n + 0) s)) no_digits

  few : (ed : Edition) → many_slashes ed s ≡ false
  few ed = many_by ed s 0 (none_counts ed)

no_behind : (s : List ℕ) → is_plain (first s) ≡ true → behind s ≡ record { tie = false; slur = false; used = 0 }
unfolding behind
no_behind [] h = refl
no_behind (c ∷ s) h = rw (no_sign c h 45 refl, behind) (rw (no_sign c h 41 refl))

pub plain_note : (ed : Edition) (a : Before) (c : ℕ) (s : List ℕ) → is_plain (first s) ≡ true
    → note_as ed a c s ≡ taken (note (record { step = step_of c; octave = letter_octave c; sign = a.sign }) (record { num = 1; den = 1; used = 0 }) (record { tie = false; slur = false; used = 0 })) (a.used + 1)
unfolding note_as
plain_note ed a c s h =
    let f : (octave_of c s).fine ≡ true = ap (λ (o : Octave). o.fine) (no_marks s h c) in
    let n : a.used + 1 + 0 + 0 + 0 ≡ a.used + 1 = omega arith in
    rw (f, note_as) (rw (no_marks s h c) (with_few ed (a.used + 1 + length s) s _ (few s h ed) ∙ rw (no_length s h ed, no_behind s h, n)))

-- A LENGTH OF ONE BYTE, a slash or a digit, with a plain byte behind it
module _ (d : ℕ) (t : List ℕ) (h : within 47 57 d ≡ true) (p : is_plain (first t) ≡ true) where
  low : 47 ≤ d
  low = leb-true 47 d (and_left (leb 47 d) (leb d 57) h)

  not_mark : (x : ℕ) → x < 47 → count_while (λ c. eqb c x) (d ∷ t) ≡ 0
  not_mark x l = count_while_no (λ c. eqb c x) d t (ne_eqb d x (λ e. omega (arith, e, low)))

  rest_none : count_while is_digit t ≡ 0
  rest_none = count_while_off is_digit refl t 0 (no_digit (first t) p)

  -- how many digits, and how many slashes count
  is_slash : eqb d 47 ≡ true → (ed : Edition) → (count_while is_digit (d ∷ t) ≡ 0) × (slashes ed (d ∷ t) ≡ 1)
  is_slash e ed = (
    count_while_no is_digit d t (and_no_left (leb 48 d) (leb d 57) (lt-leb 48 d (omega (arith, eqb-true d 47 e)))),
    lone_slash ed (d ∷ t) e (no_sign (first t) p 47 refl),
  )

  is_number : eqb d 47 ≡ false → (ed : Edition) → (count_while is_digit (d ∷ t) ≡ 1) × (slashes ed t ≡ 0)
  is_number e ed =
      let k : 48 ≤ d = omega (arith, low, eqb-false d 47 e) in (
        count_while_yes is_digit d t (and_both (leb 48 d) (leb d 57) (le-leb 48 d k) (and_right (leb 47 d) (leb d 57) h)) ∙ ap suc rest_none,
        no_slash ed t (no_sign (first t) p 47 refl),
      )

  one_used : (ed : Edition) → (length_of ed (d ∷ t)).used ≡ 1
  unfolding length_over
  one_used ed =
      by_test (eqb d 47)
      (λ e. let q = is_slash e ed in
      let z : 0 + 1 + count_while is_digit t ≡ 1 = omega (arith, rest_none) in
      ap (λ (l : Length). l.used) (length_by ed (d ∷ t) 1 (rw q.0 q.1) ∙ ap (λ (n : ℕ). length_over (number 1 n (d ∷ t)) n 1 (drop (n + 1) (d ∷ t))) q.0) ∙ z)
      (λ e. let q = is_number e ed in ap (λ (l : Length). l.used) (length_by ed (d ∷ t) 0 (rw q.0 q.1)) ∙ q.0)

  few_here : (ed : Edition) → many_slashes ed (d ∷ t) ≡ false
  few_here ed =
      by_test (eqb d 47) (λ e. let q = is_slash e ed in many_by ed (d ∷ t) 1 (rw q.0 q.1)) (λ e. let q = is_number e ed in many_by ed (d ∷ t) 0 (rw q.0 q.1))

  pub short_note : (ed : Edition) (a : Before) (c : ℕ)
      → note_as ed a c (d ∷ t) ≡ taken (note (record { step = step_of c; octave = letter_octave c; sign = a.sign }) (length_of ed (d ∷ t)) (record { tie = false; slur = false; used = 0 })) (a.used + 2)
  unfolding note_as
  short_note ed a c =
      let m = marks_none (d ∷ t) (not_mark 44 (omega arith)) (not_mark 39 (omega arith)) c in
      let f : (octave_of c (d ∷ t)).fine ≡ true = ap (λ (o : Octave). o.fine) m in
      let n : a.used + 1 + 0 + 1 + 0 ≡ a.used + 2 = omega arith in
      rw (f, note_as) (rw m (with_few ed (a.used + 1 + length (d ∷ t)) (d ∷ t) _ (few_here ed) ∙ rw (one_used ed) (rw (no_behind t p, n))))
