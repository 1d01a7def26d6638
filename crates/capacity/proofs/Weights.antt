-- WHAT EACH BYTE COVERS: where a letter covers a note and a pitch, a rest's byte a note, a barline's a measure and a sign an accidental, the bytes
-- that a token takes cover what it makes.
use Prim.Native.Nat.{ℕ, zero, suc, ◌+◌, ◌*◌, ◌≤◌, ◌<◌, zero-le}
use mathlib.Core.Path.{◌≡◌, refl, ap, ◌∙◌}
use mathlib.Core.Bool.{Bool, true, false, cond, ◌&&◌, ◌||◌}
use mathlib.Core.Option.{Option, none, some}
use mathlib.Core.List.{List, [], ◌∷◌}
use native.Mathlib.Nat.{not-suc-le-zero, mul-add, mul-suc}
use native.Mathlib.Omega.{arith}
use lib.Dec.{ltb, eqb}
use lib.ListN.{length, take, drop}
use lib.Seq.{take-add}
use borrow.Author.Tests.{eqb-true}
use Rattle.laws.specs.Lists.{count_while, sum, All}
use Rattle.laws.proofs.Bools.{by_test, or_left, or_right}
use Rattle.laws.proofs.Lists.{sum_append, sum_drop, sum_more}
use Rattle.laws.proofs.Spans.{count_while_yes, count_while_no}
use Rattle.standard.specs.Bytes.{is, is_digit, first}
use Rattle.standard.specs.Bars.{Symbol, bar_symbols, symbol_at}
use Rattle.standard.specs.Pitches.{Accidental, Written, is_letter}
use Rattle.editions.specs.declared.Edition.{Edition}
use Rattle.reader.specs.Lengths.{length_of}
use Rattle.reader.specs.Pitches.{Octave, octave_of, Before, signs, accidental_of, natural, quarter_tone, added, is_quarter, cons_pitch, chord_of}
use Rattle.reader.specs.Token.{quoted, decoration, skipped, Taken, taken}
use Rattle.reader.specs.Barlines.{barline_as, barline_of}
use Rattle.reader.specs.PassLists.{is_pass_byte, list_of, volta_as, volta_of}
use Rattle.reader.specs.Inline.{is_inline, inline_at}
use Rattle.reader.specs.Sounds.{behind, chord_taken, chord_at, rest_as, note_as, note_after, note_of}
use Rattle.reader.specs.Tokens.{bracket_of, Class, white, ampersand, quote, more, less, paren, brace_open, brace_close, bang, plus, bars, bracket, pitched, none-of-these, resting, classes, class_in, class_of, token_as, token_of}
use Rattle.reader.proofs.LengthLaws.{with_length_lem}
use Rattle.reader.proofs.TokenLaws.{as_takes}
use Rattle.reader.proofs.TokenBounds.{in_chord, octave_in_chord, quarter_in_chord}
use Rattle.capacity.specs.Sizes.{is_bar, is_rest, is_sign}
use Rattle.capacity.specs.Covers.{sign_count, signs_in, Rows, makes}
use Rattle.capacity.proofs.Free.{Makes-nothing, closed_free, broken_free, tuplet_free, volta_free, field_free}

-- CLASSES: a barline's byte is `|` or `:`, a rest's one of four
abbrev Begins : Class → ℕ → Type 0
Begins white c = Unit {0}
Begins ampersand c = Unit {0}
Begins quote c = Unit {0}
Begins more c = Unit {0}
Begins less c = Unit {0}
Begins paren c = Unit {0}
Begins brace_open c = Unit {0}
Begins brace_close c = Unit {0}
Begins bang c = Unit {0}
Begins plus c = Unit {0}
Begins bars c = is_bar c ≡ true
Begins bracket c = Unit {0}
Begins pitched c = Unit {0}
Begins none-of-these c = Unit {0}
Begins (resting k) c = is_rest c ≡ true

begins_in : (es : List ((ℕ → Bool) × Class)) → All (λ (e : (ℕ → Bool) × Class). (c : ℕ) → e.0 c ≡ true → Begins e.1 c) es → (c : ℕ) → Begins (class_in es c) c
unfolding class_in
begins_in [] h c = tt
begins_in (e ∷ es) h c = by_test (e.0 c) (λ y. rw (y, class_in) (h.0 c y)) (λ n. rw (n, class_in) (begins_in es h.1 c))

class_begins : (c : ℕ) → Begins (class_of c) c
unfolding class_of classes
class_begins c =
    begins_in classes (λ c e. tt, (λ c e. tt, (λ c e. tt, (λ c e. tt, (λ c e. tt, (λ c e. tt, (λ c e. tt, (λ c e. tt, (λ c e. tt, (λ c e. tt, (λ c e. tt, (λ c e. tt, (λ c e. tt, (λ c e. tt, (λ c e. rw (eqb-true c 124 e), (λ c e. rw (eqb-true c 58 e), (λ c e. tt, (λ c e. rw (eqb-true c 122 e), (λ c e. rw (eqb-true c 120 e), (λ c e. rw (eqb-true c 90 e), (λ c e. rw (eqb-true c 88 e), tt))))))))))))))))))))) c

-- THE WEIGHTS of the rows, and the budget of each byte
pub record Weights : Type 0 where
  pub measure : ℕ
  pub note : ℕ
  pub pitch : ℕ
  pub accidental : ℕ
  pub byte : ℕ → ℕ

pub record Covered (p : Weights) : Type 0 where
  pub letters : (c : ℕ) → is_letter c ≡ true → p.note + p.pitch ≤ p.byte c
  pub rests : (c : ℕ) → is_rest c ≡ true → p.note ≤ p.byte c
  pub bars : (c : ℕ) → is_bar c ≡ true → p.measure ≤ p.byte c
  pub signs : (c : ℕ) → is_sign c ≡ true → p.accidental ≤ p.byte c

module _ (ed : Edition) (p : Weights) (enough : Covered p) where
  -- what a token's rows weigh
  unfoldable pub weight : Rows → ℕ
  weight r = p.measure * r.heads + p.note * r.notes + p.pitch * r.pitches + p.accidental * r.scopes

  -- the budget of bytes
  abbrev pub budget : List ℕ → ℕ
  budget l = sum p.byte l

  -- the bytes of a token cover it
  abbrev CoveredBy : Taken → List ℕ → Type 0
  CoveredBy t s = weight (makes t.token) ≤ budget (take t.used s)

  free : (t : Taken) (s : List ℕ) → Makes-nothing t → CoveredBy t s
  unfolding weight
  free t s e = rw e (omega arith)

  -- a first byte, of a token
  first_byte : (c : ℕ) (s : List ℕ) (n : ℕ) → 1 ≤ n → p.byte c ≤ budget (take n (c ∷ s))
  first_byte c s n h = omega (arith, sum_more p.byte 1 n (c ∷ s) h)

  -- A CHORD'S PITCHES, if none is refused: each as a note with its accidental
  unfoldable WeightWithin : ℕ → Option (List Written) → Type 0
  WeightWithin n none = Unit {0}
  WeightWithin n (some ws) = p.note * length ws + p.pitch * length ws + p.accidental * signs_in ws ≤ n

  abbrev mark_weight_lem : Option Accidental → ℕ
  mark_weight_lem a = p.accidental * sign_count a

  weights_more : (m n : ℕ) (o : Option (List Written)) → m ≤ n → WeightWithin m o → WeightWithin n o
  unfolding WeightWithin
  weights_more m n none h k = tt
  weights_more m n (some ws) h k = omega arith

  -- one pitch before the others
  weights_cons : (c : ℕ) (a : Option Accidental) (o : Octave) (n : ℕ) (r : Option (List Written)) → WeightWithin n r → WeightWithin (p.note + p.pitch + mark_weight_lem a + n) (cons_pitch c a o r)
  unfolding WeightWithin cons_pitch
  weights_cons c a o n none h = tt
  weights_cons c a o n (some ws) h =
      by_test o.fine
      (λ e. rw (e, cons_pitch)
      (omega (arith, mul-suc p.note (length ws), mul-suc p.pitch (length ws), mul-add p.accidental (sign_count a) (signs_in ws))))
      (λ e. rw (e, cons_pitch) tt)

  -- a sign covers an accidental
  mark_covered : (c : ℕ) (a : Option Accidental) → is_sign c ≡ true → mark_weight_lem a ≤ p.byte c
  mark_covered c none e = omega arith
  mark_covered c (some a) e = omega (arith, enough.signs c e)

  -- the bytes up to the chord's end
  abbrev inside : List ℕ → List ℕ
  inside s = take (count_while in_chord s) s

  -- their budget when k of them are passed, and the weight of the accidental that waits
  abbrev bound : ℕ → Option Accidental → List ℕ → ℕ
  bound k a s = budget (drop k (inside s)) + mark_weight_lem a

  sign_bound : (k c : ℕ) (a b : Option Accidental) (s : List ℕ) → is_sign c ≡ true → bound k b s ≤ p.byte c + budget (inside s) + mark_weight_lem a
  sign_bound k c a b s e = omega (arith, mark_covered c b e, sum_drop p.byte k (inside s))

  letter_bound : (k c : ℕ) (a : Option Accidental) (s : List ℕ) → is_letter c ≡ true
      → p.note + p.pitch + mark_weight_lem a + bound k none s ≤ p.byte c + budget (inside s) + mark_weight_lem a
  letter_bound k c a s e = omega (arith, enough.letters c e, sum_drop p.byte k (inside s))

  -- the pitches up to the chord's end are covered by the bytes up to it
  chord_covered : (k : ℕ) (a : Option Accidental) (s : List ℕ) → k ≤ count_while in_chord s → WeightWithin (bound k a s) (chord_of k a s)
  unfolding WeightWithin chord_of
  chord_covered k a [] h = omega arith
  chord_covered zero a (c ∷ s) h =
      by_test (is "]" c) (λ e. rw (e, chord_of) (omega arith))
      (λ e. rw (count_while_yes in_chord c s (rw e), e, chord_of)
      (let most = p.byte c + budget (inside s) + mark_weight_lem a in
      by_test (is "^" c || is "_" c)
      (λ f. rw (f, chord_of)
      (let y : is_sign c ≡ true = or_left (is "^" c || is "_" c) (is "=" c) f in
      by_test (is_quarter a s)
      (λ g. rw (g, chord_of)
      (let b = some (quarter_tone (is "^" c)) in
      weights_more (bound 1 b s) most (chord_of 1 b s) (sign_bound 1 c a b s y) (chord_covered 1 b s (quarter_in_chord a s g))))
      (λ g. rw (g, chord_of)
      (let b = some (added (is "^" c) a) in
      weights_more (bound 0 b s) most (chord_of 0 b s) (sign_bound 0 c a b s y) (chord_covered 0 b s zero-le)))))
      (λ f. rw (f, chord_of)
      (by_test (is "=" c)
      (λ g. rw (g, chord_of)
      (let b = some natural in
      weights_more (bound 0 b s) most (chord_of 0 b s) (sign_bound 0 c a b s (or_right (is "^" c || is "_" c) (is "=" c) g)) (chord_covered 0 b s zero-le)))
      (λ g. rw (g, chord_of)
      (by_test (is_letter c)
      (λ i. rw (i, chord_of)
      (let o = octave_of c s in
      weights_more (p.note + p.pitch + mark_weight_lem a + bound o.used none s) most (cons_pitch c a o (chord_of o.used none s)) (letter_bound o.used c a s i)
      (weights_cons c a o (bound o.used none s) (chord_of o.used none s) (chord_covered o.used none s (octave_in_chord c s)))))
      (λ i. rw (i, chord_of) (weights_more (bound 0 a s) most (chord_of 0 a s) (omega arith) (chord_covered 0 a s zero-le)))))))))
  chord_covered (suc k) a (c ∷ s) h =
      by_test (in_chord c)
      (λ e.
      let q = count_while_yes in_chord c s e in
      let l : suc k ≤ suc (count_while in_chord s) = rw q at h in
      rw q (chord_covered k a s (omega arith)))
      (λ e. absurd (not-suc-le-zero (rw (count_while_no in_chord c s e) at h)))

  -- A CHORD; its first byte is the `[`, and n bytes behind it reach to its end
  sounds_covered : (u : ℕ) (r : List ℕ) (c : ℕ) (s : List ℕ) (n : ℕ) (o : Option (List Written)) → n < u → WeightWithin (budget (take n s)) o → CoveredBy (chord_taken ed u r o) (c ∷ s)
  unfolding WeightWithin chord_taken weight
  sounds_covered u r c s n none h k = omega arith
  sounds_covered u r c s n (some []) h k = with_length_lem (λ t. CoveredBy t (c ∷ s)) ed _ r _ (λ m. omega arith) (λ m. omega arith)
  sounds_covered u r c s n (some (w ∷ ws)) h k =
      let l = length_of ed r in
      with_length_lem (λ t. CoveredBy t (c ∷ s)) ed _ r _ (λ m. omega arith)
      (λ m. omega (arith, sum_more p.byte (suc n) (u + l.used + (behind (drop l.used r)).used) (c ∷ s) (omega arith), mul-suc p.note (length ws)))

  chord_at_covered : (c : ℕ) (s : List ℕ) → CoveredBy (chord_at ed s) (c ∷ s)
  unfolding chord_at
  chord_at_covered c s =
      let n = count_while in_chord s in
      sounds_covered (cond (ltb n (length s)) (2 + n) (1 + n)) (drop (suc n) s) c s n (chord_of 0 none s) (longer (ltb n (length s)) n)
      (weights_more (bound 0 none s) (budget (take n s)) (chord_of 0 none s) (omega arith) (chord_covered 0 none s zero-le))
    where
      longer : (b : Bool) (n : ℕ) → n < cond b (2 + n) (1 + n)
      longer true n = omega arith
      longer false n = omega arith

  -- A NOTE'S ACCIDENTAL is covered by its sign
  signs_covered : (up : Bool) (n c : ℕ) (s : List ℕ) → is_sign c ≡ true → 1 ≤ n → mark_weight_lem (signs up n (c ∷ s)).sign ≤ budget (take (signs up n (c ∷ s)).used (c ∷ s))
  unfolding signs
  signs_covered up n c s y h =
      by_test (eqb n 1 && is "/" (first (drop n (c ∷ s))))
      (λ e. rw (e, signs) (omega (arith, enough.signs c y, first_byte c s 2 (omega arith))))
      (λ e. rw (e, signs) (omega (arith, enough.signs c y, first_byte c s n h)))

  some_signs : (x : ℕ → Bool) (c : ℕ) (s : List ℕ) → x c ≡ true → 1 ≤ count_while x (c ∷ s)
  some_signs x c s e = rw (count_while_yes x c s e) (omega arith)

  accidental_covered : (c : ℕ) (s : List ℕ) → mark_weight_lem (accidental_of (c ∷ s)).sign ≤ budget (take (accidental_of (c ∷ s)).used (c ∷ s))
  unfolding accidental_of
  accidental_covered c s =
      by_test (is "^" c)
      (λ e. rw (e, accidental_of)
      (signs_covered true (count_while (is "^") (c ∷ s)) c s (or_left (is "^" c || is "_" c) (is "=" c) (or_left (is "^" c) (is "_" c) e)) (some_signs (is "^") c s e)))
      (λ e. rw (e, accidental_of)
      (by_test (is "_" c)
      (λ f. rw (f, accidental_of)
      (signs_covered false (count_while (is "_") (c ∷ s)) c s (or_left (is "^" c || is "_" c) (is "=" c) (or_right (is "^" c) (is "_" c) f)) (some_signs (is "_") c s f)))
      (λ f. rw (f, accidental_of)
      (by_test (is "=" c)
      (λ g. rw (g, accidental_of) (omega (arith, enough.signs c (or_right (is "^" c || is "_" c) (is "=" c) g))))
      (λ g. rw (g, accidental_of) (omega arith))))))

  -- A NOTE: the letter c stands behind n bytes of l
  letter_byte : (n m c : ℕ) (s l : List ℕ) → drop n l ≡ c ∷ s → n < m → budget (take n l) + p.byte c ≤ budget (take m l)
  letter_byte n m c s l e h =
      let q : budget (take (n + 1) l) ≡ budget (take n l) + budget (take 1 (drop n l)) = ap budget (take-add n 1 l) ∙ sum_append p.byte (take n l) (take 1 (drop n l)) in
      omega (arith, q, ap (λ (x : List ℕ). budget (take 1 x)) e, sum_more p.byte (n + 1) m l (omega arith))

  note_as_covered : (a : Before) (c : ℕ) (s l : List ℕ) → drop a.used l ≡ c ∷ s → is_letter c ≡ true → mark_weight_lem a.sign ≤ budget (take a.used l) → CoveredBy (note_as ed a c s) l
  unfolding note_as weight
  note_as_covered a c s l d i h =
      let o = octave_of c s in
      let n = length_of ed (drop o.used s) in
      let b = behind (drop (o.used + n.used) s) in
      by_test o.fine
      (λ e. rw (e, note_as) (with_length_lem (λ t. CoveredBy t l) ed _ (drop o.used s) _ (λ m. omega arith)
      (λ m. omega (arith, enough.letters c i, letter_byte a.used (a.used + 1 + o.used + n.used + b.used) c s l d (omega arith)))))
      (λ e. rw (e, note_as) (omega arith))

  note_after_covered : (a : Before) (r l : List ℕ) → drop a.used l ≡ r → mark_weight_lem a.sign ≤ budget (take a.used l) → CoveredBy (note_after ed a r) l
  unfolding note_after weight
  note_after_covered a [] l d h = omega arith
  note_after_covered a (c ∷ r) l d h = by_test (is_letter c) (λ e. rw (e, note_after) (note_as_covered a c r l d e h)) (λ e. rw (e, note_after) (omega arith))

  note_covered : (c : ℕ) (s : List ℕ) → CoveredBy (note_of ed (c ∷ s)) (c ∷ s)
  unfolding note_of
  note_covered c s = let a = accidental_of (c ∷ s) in note_after_covered a (drop a.used (c ∷ s)) (c ∷ s) refl (accidental_covered c s)

  -- A BARLINE
  barline_as_covered : (c : ℕ) (s : List ℕ) (o : Option Symbol) → is_bar c ≡ true → 0 < (barline_as (c ∷ s) o).used → CoveredBy (barline_as (c ∷ s) o) (c ∷ s)
  unfolding barline_as weight
  barline_as_covered c s none y h = omega arith
  barline_as_covered c s (some x) y h = omega (arith, enough.bars c y, first_byte c s (length x.text) h)

  barline_covered : (c : ℕ) (s : List ℕ) → is_bar c ≡ true → 0 < (barline_of (c ∷ s)).used → CoveredBy (barline_of (c ∷ s)) (c ∷ s)
  unfolding barline_of
  barline_covered c s y h = barline_as_covered c s (symbol_at bar_symbols (c ∷ s)) y h

  -- what a `[` begins
  bracket_covered : (c : ℕ) (s : List ℕ) → CoveredBy (bracket_of ed s) (c ∷ s)
  unfolding bracket_of volta_of inline_at
  bracket_covered c s =
      let n = count_while is_pass_byte s in
      let ps = list_of (take n s) in
      by_test (is_digit (first s))
      (λ e. rw (e, bracket_of) (free (volta_as n s ps) (c ∷ s) (volta_free n s ps)))
      (λ e. rw (e, bracket_of)
      (by_test (is_inline s) (λ f. rw (f, bracket_of) (free (inline_at ed s) (c ∷ s) (field_free ed (inside s)))) (λ f. rw (f, bracket_of) (chord_at_covered c s))))

  -- A REST
  rest_covered : (c : ℕ) (s : List ℕ) (n : ℕ) → is_rest c ≡ true → p.note ≤ budget (take (suc n) (c ∷ s))
  rest_covered c s n y = omega (arith, enough.rests c y)

  -- A TOKEN of any class
  as_covered : (k : Class) (c : ℕ) (s : List ℕ) → Begins k c → CoveredBy (token_as ed k (c ∷ s)) (c ∷ s)
  unfolding token_as rest_as weight
  as_covered white c s y = omega arith
  as_covered ampersand c s y = omega arith
  as_covered quote c s y = free (token_as ed quote (c ∷ s)) (c ∷ s) (closed_free (is "\"") quoted s (taken quoted (suc (length s))) refl refl)
  as_covered more c s y = free (token_as ed more (c ∷ s)) (c ∷ s) (broken_free true (suc (count_while (is ">") s)) (c ∷ s))
  as_covered less c s y = free (token_as ed less (c ∷ s)) (c ∷ s) (broken_free false (suc (count_while (is "<") s)) (c ∷ s))
  as_covered paren c s y = free (token_as ed paren (c ∷ s)) (c ∷ s) (tuplet_free ed s)
  as_covered brace_open c s y = omega arith
  as_covered brace_close c s y = omega arith
  as_covered bang c s y = free (token_as ed bang (c ∷ s)) (c ∷ s) (closed_free (is "!") decoration s (taken skipped 1) refl refl)
  as_covered plus c s y = free (token_as ed plus (c ∷ s)) (c ∷ s) (closed_free (is "+") decoration s (taken skipped 1) refl refl)
  as_covered bars c s y = barline_covered c s y (as_takes ed bars c s)
  as_covered bracket c s y = bracket_covered c s
  as_covered pitched c s y = note_covered c s
  as_covered none-of-these c s y = omega arith
  as_covered (resting k) c s y = with_length_lem (λ t. CoveredBy t (c ∷ s)) ed _ s _ (λ m. omega arith) (λ m. omega (arith, enough.rests c y))

  -- the bytes of a token cover it
  pub token_covered : (c : ℕ) (s : List ℕ) → weight (makes (token_of ed (c ∷ s)).token) ≤ budget (take (token_of ed (c ∷ s)).used (c ∷ s))
  unfolding token_of
  token_covered c s = as_covered (class_of c) c s (class_begins c)
