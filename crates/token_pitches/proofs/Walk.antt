-- Walking through a chord, pitch by pitch, gives the definition's list.
use Prim.Native.Nat.{ℕ, zero, suc, ◌+◌, ◌≤◌, ◌<◌}
use mathlib.Core.Path.{◌≡◌, refl, sym, ap, ◌∙◌}
use mathlib.Core.Bool.{Bool, true, false, ◌||◌}
use mathlib.Core.Option.{Option, none, some}
use mathlib.Core.List.{List, [], ◌∷◌}
use native.Mathlib.Nat.{add_assoc, add-zero, zero-add}
use native.Mathlib.Decide.{dec_le}
use native.Mathlib.Omega.{arith}
use lib.ListN.{length, get_or, drop, drop_of_length-le}
use lib.Seq.{drop-drop}
use borrow.Author.Tests.{ne_eqb}
use Rattle.laws.proofs.Bools.{by_test}
use Rattle.laws.proofs.Lists.{drop_next}
use Rattle.standard.specs.Bytes.{is}
use Rattle.standard.specs.Pitches.{Accidental, Written, is_letter, step_of}
use Rattle.reader.specs.Pitches.{natural, quarter_tone, added, is_quarter, Octave, octave_of, cons_pitch, chord_of}
use Rattle.token_pitches.specs.Pitches.{sign_for, sign_of, pitch_for}
use Rattle.token_pitches.specs.Chords.{Met, over, out, met, further, sign_in, letter_met, pitch_met, met_for, chord_read, chord_for}
use Rattle.token_pitches.specs.declared.Pitch.{Pitch}
use Rattle.token_pitches.specs.declared.Met.TheVariants as met-as
use Rattle.std.specs.Prelude.{Result, Err}
use Rattle.refusals.specs.declared.Refusal.{Refusal}
use Rattle.text_bytes.specs.declared.Read.{Read}

-- a pitch before the others, unless one of them is refused
unfoldable pub before : Written → Option (List Written) → Option (List Written)
before w none = none
before w (some ps) = some (w ∷ ps)

-- the pitches that are met, and those behind them in s
unfoldable pub walked : Met → List ℕ → Option (List Written)
walked over s = some []
walked out s = none
walked (met w n) s = before w (chord_of 0 none (drop n s))

-- bytes to pass are dropped
pub chord_drop : (k : ℕ) (a : Option Accidental) (s : List ℕ) → chord_of k a s ≡ chord_of 0 a (drop k s)
unfolding chord_of
chord_drop zero a s = refl
chord_drop (suc k) a [] = refl
chord_drop (suc k) a (c ∷ s) = chord_drop k a s

walked_on : (m : Met) (c : ℕ) (s : List ℕ) → walked (further 1 m) (c ∷ s) ≡ walked m s
unfolding walked further
walked_on over c s = refl
walked_on out c s = refl
walked_on (met w n) c s = let e : 1 + n ≡ suc n = omega arith in rw e

cons_fine : (c : ℕ) (a : Option Accidental) (o : Octave) (r : Option (List Written)) → o.fine ≡ true → cons_pitch c a o r ≡ before (record { step = step_of c; octave = o.octave; sign = a }) r
unfolding cons_pitch before
cons_fine c a o none f = refl
cons_fine c a o (some ps) f = rw (f, cons_pitch)

cons_out : (c : ℕ) (a : Option Accidental) (o : Octave) (r : Option (List Written)) → o.fine ≡ false → cons_pitch c a o r ≡ none
unfolding cons_pitch
cons_out c a o none f = refl
cons_out c a o (some ps) f = rw (f, cons_pitch)

pub letter_fine : (c : ℕ) (a : Option Accidental) (o : Octave) → o.fine ≡ true → letter_met c a o ≡ met (record { step = step_of c; octave = o.octave; sign = a }) (suc o.used)
unfolding letter_met
letter_fine c a o f = rw (f, letter_met)

pub letter_out : (c : ℕ) (a : Option Accidental) (o : Octave) → o.fine ≡ false → letter_met c a o ≡ out
unfolding letter_met
letter_out c a o f = rw (f, letter_met)

letter_walk : (c : ℕ) (a : Option Accidental) (o : Octave) (s : List ℕ) → cons_pitch c a o (chord_of o.used none s) ≡ walked (letter_met c a o) (c ∷ s)
unfolding walked
letter_walk c a o s =
    by_test o.fine
    (λ f. cons_fine c a o (chord_of o.used none s) f ∙ ap (before (record { step = step_of c; octave = o.octave; sign = a })) (chord_drop o.used none s)
    ∙ ap (λ m. walked m (c ∷ s)) (sym (letter_fine c a o f)))
    (λ f. cons_out c a o (chord_of o.used none s) f ∙ ap (λ m. walked m (c ∷ s)) (sym (letter_out c a o f)))

-- THE LAW: what is met first, and the chord behind it
pub chord_walk : (k : ℕ) (a : Option Accidental) (s : List ℕ) → chord_of k a s ≡ walked (pitch_met k a s) s
unfolding chord_of pitch_met walked
chord_walk k a [] = refl
chord_walk zero a (c ∷ s) =
    by_test (is "]" c)
    (λ e. rw (e, chord_of, pitch_met))
    (λ e. rw (e, chord_of, pitch_met)
    (by_test (is "^" c || is "_" c)
    (λ f. rw f
    (by_test (is_quarter a s)
    (λ g. rw g (chord_walk 1 (some (quarter_tone (is "^" c))) s ∙ sym (walked_on (pitch_met 1 (some (quarter_tone (is "^" c))) s) c s)))
    (λ g. rw g (chord_walk 0 (some (added (is "^" c) a)) s ∙ sym (walked_on (pitch_met 0 (some (added (is "^" c) a)) s) c s)))))
    (λ f. rw f
    (by_test (is "=" c)
    (λ g. rw g (chord_walk 0 (some natural) s ∙ sym (walked_on (pitch_met 0 (some natural) s) c s)))
    (λ g. rw g
    (by_test (is_letter c)
    (λ h. rw h (letter_walk c a (octave_of c s) s))
    (λ h. rw h (chord_walk 0 a s ∙ sym (walked_on (pitch_met 0 a s) c s)))))))))
chord_walk (suc k) a (c ∷ s) = chord_walk k a s ∙ sym (walked_on (pitch_met k a s) c s)

-- THE NEXT PITCH, BY POSITION
-- an accidental in the code's type, and back
pub mark_back : (a : Option Accidental) → sign_of (sign_for a) ≡ a
mark_back none = refl
mark_back (some a) = refl

further_zero : (m : Met) → further 0 m ≡ m
unfolding further
further_zero over = refl
further_zero out = refl
further_zero (met w n) = rw (zero-add n)

further_further : (j k : ℕ) (m : Met) → further j (further k m) ≡ further (j + k) m
unfolding further
further_further j k over = refl
further_further j k out = refl
further_further j k (met w n) = ap (met w) (sym (add_assoc j k n))

further_at : (i n : ℕ) (m : Met) → met_for i (further n m) ≡ met_for (i + n) m
unfolding further met_for
further_at i n over = refl
further_at i n out = refl
further_at i n (met w k) = ap (met-as.Pitch (pitch_for w)) (sym (add_assoc i n k))

pitch_drop : (k : ℕ) (a : Option Accidental) (s : List ℕ) → pitch_met k a s ≡ further k (pitch_met 0 a (drop k s))
unfolding pitch_met further
pitch_drop zero a s = sym (further_zero (pitch_met 0 a s))
pitch_drop (suc k) a [] = refl
pitch_drop (suc k) a (c ∷ s) =
    let e : 1 + k ≡ suc k = omega arith in
    ap (further 1) (pitch_drop k a s) ∙ further_further 1 k (pitch_met 0 a (drop k s)) ∙ ap (λ n. further n (pitch_met 0 a (drop k s))) e

pub sign_quarter : (up : Bool) (a : Option Accidental) (s : List ℕ) → is_quarter a s ≡ true → sign_in up a s ≡ record { sign = some (quarter_tone up); used = 2 }
unfolding sign_in
sign_quarter up a s e = rw (e, sign_in)

pub sign_plain : (up : Bool) (a : Option Accidental) (s : List ℕ) → is_quarter a s ≡ false → sign_in up a s ≡ record { sign = some (added up a); used = 1 }
unfolding sign_in
sign_plain up a s e = rw (e, sign_in)

-- a sign takes a byte at least
pub sign_takes : (up : Bool) (a : Option Accidental) (s : List ℕ) → 0 < (sign_in up a s).used
sign_takes up a s = by_test (is_quarter a s) (λ e. rw (sign_quarter up a s e) (omega arith)) (λ e. rw (sign_plain up a s e) (omega arith))

sign_step : (up : Bool) (c : ℕ) (a : Option Accidental) (s : List ℕ) → is "]" c ≡ false → (is "^" c || is "_" c) ≡ true → is "^" c ≡ up
    → pitch_met 0 a (c ∷ s) ≡ further (sign_in up a s).used (pitch_met 0 (sign_in up a s).sign (drop (sign_in up a s).used (c ∷ s)))
unfolding pitch_met
sign_step up c a s e f u =
    by_test (is_quarter a s)
    (λ g. rw (sign_quarter up a s g, e, pitch_met) (rw f (rw (g, u) (ap (further 1) (pitch_drop 1 (some (quarter_tone up)) s) ∙ further_further 1 1 (pitch_met 0 (some (quarter_tone up)) (drop 1 s))))))
    (λ g. rw (sign_plain up a s g, e, pitch_met) (rw f (rw (g, u))))

module _ (line : List ℕ) (i : ℕ) (a : Option Accidental) where
  -- the chord is closed
  pub met_close : i < length line → get_or line i 0 ≡ 93 → met_for i (pitch_met 0 a (drop i line)) ≡ met-as.Over
  unfolding pitch_met met_for
  met_close h e = rw (drop_next line i 0 h, e)

  -- the line is over
  pub met_end : length line ≤ i → met_for i (pitch_met 0 a (drop i line)) ≡ met-as.Over
  unfolding pitch_met met_for
  met_end h = rw (drop_of_length-le line h)

  -- a sign
  module _ (up : Bool) (h : i < length line) (e : is "]" (get_or line i 0) ≡ false) (f : (is "^" (get_or line i 0) || is "_" (get_or line i 0)) ≡ true) (u : is "^" (get_or line i 0) ≡ up) where
    met_sign : met_for i (pitch_met 0 a (drop i line))
        ≡ met_for (i + (sign_in up a (drop (i + 1) line)).used) (pitch_met 0 (sign_in up a (drop (i + 1) line)).sign (drop (i + (sign_in up a (drop (i + 1) line)).used) line))
    met_sign =
        let b = sign_in up a (drop (i + 1) line) in
        ap (λ s. met_for i (pitch_met 0 a s)) (drop_next line i 0 h)
        ∙ ap (met_for i) (sign_step up (get_or line i 0) a (drop (i + 1) line) e f u)
        ∙ further_at i b.used (pitch_met 0 b.sign (drop b.used (get_or line i 0 ∷ drop (i + 1) line)))
        ∙ ap (λ s. met_for (i + b.used) (pitch_met 0 b.sign (drop b.used s))) (sym (drop_next line i 0 h))
        ∙ ap (λ s. met_for (i + b.used) (pitch_met 0 b.sign s)) (drop-drop b.used i line)

  pub met_up : i < length line → get_or line i 0 ≡ 94 → met_for i (pitch_met 0 a (drop i line))
      ≡ met_for (i + (sign_in true a (drop (i + 1) line)).used) (pitch_met 0 (sign_in true a (drop (i + 1) line)).sign (drop (i + (sign_in true a (drop (i + 1) line)).used) line))
  met_up h e = met_sign true h (rw e) (rw e) (rw e)

  pub met_down : i < length line → get_or line i 0 ≡ 95 → met_for i (pitch_met 0 a (drop i line))
      ≡ met_for (i + (sign_in false a (drop (i + 1) line)).used) (pitch_met 0 (sign_in false a (drop (i + 1) line)).sign (drop (i + (sign_in false a (drop (i + 1) line)).used) line))
  met_down h e = met_sign false h (rw e) (rw e) (rw e)

  -- a natural
  pub met_natural : i < length line → get_or line i 0 ≡ 61 → met_for i (pitch_met 0 a (drop i line)) ≡ met_for (i + 1) (pitch_met 0 (some natural) (drop (i + 1) line))
  unfolding pitch_met
  met_natural h e = rw (drop_next line i 0 h, e) (further_at i 1 (pitch_met 0 (some natural) (drop (i + 1) line)))

  -- neither `]` nor a sign
  module _ (h : i < length line) (n1 : get_or line i 0 ≡ 93 → ⊥) (n2 : get_or line i 0 ≡ 94 → ⊥) (n3 : get_or line i 0 ≡ 95 → ⊥) (n4 : get_or line i 0 ≡ 61 → ⊥) where
    pub met_letter : is_letter (get_or line i 0) ≡ true → met_for i (pitch_met 0 a (drop i line)) ≡ met_for i (letter_met (get_or line i 0) a (octave_of (get_or line i 0) (drop (i + 1) line)))
    unfolding pitch_met
    met_letter e =
        rw (drop_next line i 0 h)
        (rw (ne_eqb (get_or line i 0) 93 n1, pitch_met) (rw (ne_eqb (get_or line i 0) 94 n2, ne_eqb (get_or line i 0) 95 n3) (rw (ne_eqb (get_or line i 0) 61 n4) (rw e))))

    pub met_other : is_letter (get_or line i 0) ≡ false → met_for i (pitch_met 0 a (drop i line)) ≡ met_for (i + 1) (pitch_met 0 a (drop (i + 1) line))
    unfolding pitch_met
    met_other e =
        rw (drop_next line i 0 h)
        (rw (ne_eqb (get_or line i 0) 93 n1, pitch_met) (rw (ne_eqb (get_or line i 0) 94 n2, ne_eqb (get_or line i 0) 95 n3) (rw (ne_eqb (get_or line i 0) 61 n4) (rw e (further_at i 1 (pitch_met 0 a (drop (i + 1) line)))))))

-- THE COUNT
-- how many pitches there are, n before them
unfoldable pub plus : ℕ → Option (List Written) → Option ℕ
plus n none = none
plus n (some ps) = some (n + length ps)

plus_before : (n : ℕ) (w : Written) (o : Option (List Written)) → plus n (before w o) ≡ plus (n + 1) o
unfolding plus before
plus_before n w none = refl
plus_before n w (some ps) = let e : n + suc (length ps) ≡ n + 1 + length ps = omega arith in ap some e

-- a pitch takes a byte at least
unfoldable Takes : Met → Type 0
Takes over = Unit {0}
Takes out = Unit {0}
Takes (met w n) = 0 < n

further_takes : (m : Met) → Takes (further 1 m)
unfolding further Takes
further_takes over = tt
further_takes out = tt
further_takes (met w n) = omega arith

letter_takes : (c : ℕ) (a : Option Accidental) (o : Octave) → Takes (letter_met c a o)
unfolding Takes
letter_takes c a o = by_test o.fine (λ f. rw (letter_fine c a o f) (omega arith)) (λ f. rw (letter_out c a o f) tt)

takes : (a : Option Accidental) (s : List ℕ) → Takes (pitch_met 0 a s)
unfolding pitch_met Takes
takes a [] = tt
takes a (c ∷ s) =
    by_test (is "]" c)
    (λ e. rw (e, pitch_met) tt)
    (λ e. rw (e, pitch_met)
    (by_test (is "^" c || is "_" c)
    (λ f. rw f (by_test (is_quarter a s) (λ g. rw g (further_takes (pitch_met 1 (some (quarter_tone (is "^" c))) s))) (λ g. rw g (further_takes (pitch_met 0 (some (added (is "^" c) a)) s)))))
    (λ f. rw f
    (by_test (is "=" c)
    (λ g. rw g (further_takes (pitch_met 0 (some natural) s)))
    (λ g. rw g (by_test (is_letter c) (λ h. rw h (letter_takes c a (octave_of c s))) (λ h. rw h (further_takes (pitch_met 0 a s)))))))))

-- FOR A READER OF THE PITCHES: what `next_chord_pitch` answers at i, where the chord's pitches from i on are known
pub record Next (line : List ℕ) (i : ℕ) (p : Written) (ps : List Written) : Type 0 where
  pub next : ℕ
  pub answer : met_for i (pitch_met 0 none (drop i line)) ≡ met-as.Pitch (pitch_for p) next
  pub past : i < next
  pub rest : chord_of 0 none (drop next line) ≡ some ps

before_some : (w : Written) (o : Option (List Written)) (p : Written) (ps : List Written) → before w o ≡ some (p ∷ ps) → (w ≡ p) × (o ≡ some ps)
unfolding before
before_some w none p ps e = let z : ◌≡◌ {A = ℕ} 0 1 = cc in absurd (omega arith)
before_some w (some qs) p ps e = let a : w ≡ p = cc in let b : qs ≡ ps = cc in (a, ap some b)

next_by : (line : List ℕ) (i : ℕ) (p : Written) (ps : List Written) (m : Met) → pitch_met 0 none (drop i line) ≡ m → Takes m → walked m (drop i line) ≡ some (p ∷ ps) → Next line i p ps
unfolding walked met_for Takes
next_by line i p ps over e t k = let z : ◌≡◌ {A = ℕ} 0 1 = cc in absurd (omega arith)
next_by line i p ps out e t k = let z : ◌≡◌ {A = ℕ} 0 1 = cc in absurd (omega arith)
next_by line i p ps (met w n) e t k =
    let q = before_some w (chord_of 0 none (drop n (drop i line))) p ps k in
    record {
      next = i + n;
      answer = ap (met_for i) e ∙ ap (λ x. met-as.Pitch (pitch_for x) (i + n)) q.0;
      past = omega arith;
      rest = ap (chord_of 0 none) (sym (drop-drop n i line)) ∙ q.1;
    }

-- a pitch and others behind it
pub next_pitch : (line : List ℕ) (i : ℕ) (p : Written) (ps : List Written) → chord_of 0 none (drop i line) ≡ some (p ∷ ps) → Next line i p ps
next_pitch line i p ps e = next_by line i p ps (pitch_met 0 none (drop i line)) refl (takes none (drop i line)) (sym (chord_walk 0 none (drop i line)) ∙ e)

over_by_list : (line : List ℕ) (i : ℕ) (m : Met) → walked m (drop i line) ≡ some [] → met_for i m ≡ met-as.Over
unfolding walked met_for before
over_by_list line i over k = refl
over_by_list line i out k = let z : ◌≡◌ {A = ℕ} 0 1 = cc in absurd (omega arith)
over_by_list line i (met w n) k = no (chord_of 0 none (drop n (drop i line))) k
  where
    no : (o : Option (List Written)) → before w o ≡ some [] → met_for i (met w n) ≡ met-as.Over
    no none q = let z : ◌≡◌ {A = ℕ} 0 1 = cc in absurd (omega arith)
    no (some qs) q = let z : ◌≡◌ {A = ℕ} 0 1 = cc in absurd (omega arith)

-- none
pub no_pitch : (line : List ℕ) (i : ℕ) → chord_of 0 none (drop i line) ≡ some [] → met_for i (pitch_met 0 none (drop i line)) ≡ met-as.Over
no_pitch line i e = over_by_list line i (pitch_met 0 none (drop i line)) (sym (chord_walk 0 none (drop i line)) ∙ e)

-- the loop of `parse_abc_chord` at i, with `count` so far: each took a byte, and with those from i on they are the chord's
pub record Counting (line : List ℕ) (at count i : ℕ) : Type 0 where
  pub few : count ≤ i
  pub all : plus count (chord_of 0 none (drop i line)) ≡ plus 0 (chord_of 0 none (drop at line))

-- the answer, by the count
unfoldable read : ℕ → Option ℕ → Result (Read ℕ) Refusal
read next none = Err Refusal.Octave
read next (some n) = chord_read n next

read_plus : (next : ℕ) (o : Option (List Written)) → read next (plus 0 o) ≡ chord_for next o
unfolding read plus chord_for
read_plus next none = refl
read_plus next (some ps) = ap (λ n. chord_read n next) (zero-add (length ps))

pub counting_start : (line : List ℕ) (at : ℕ) → Counting line at 0 at
counting_start line at = record { few = omega arith; all = refl }

module _ (line : List ℕ) (at count i : ℕ) (r : Counting line at count i) where
  met_here : (m : Met) → pitch_met 0 none (drop i line) ≡ m → plus count (walked m (drop i line)) ≡ plus 0 (chord_of 0 none (drop at line))
  met_here m e = ap (λ x. plus count (walked x (drop i line))) (sym e) ∙ ap (plus count) (sym (chord_walk 0 none (drop i line))) ∙ r.all

  -- it is over
  over_by : (next : ℕ) (m : Met) → pitch_met 0 none (drop i line) ≡ m → met_for i m ≡ met-as.Over → chord_read count next ≡ chord_for next (chord_of 0 none (drop at line))
  unfolding walked plus read met_for
  over_by next over e k = ap (λ n. chord_read n next) (sym (add-zero count)) ∙ ap (read next) (met_here over e) ∙ read_plus next (chord_of 0 none (drop at line))
  over_by next out e k = let z : ◌≡◌ {A = ℕ} 0 1 = cc in absurd (omega arith)
  over_by next (met w n) e k = let z : ◌≡◌ {A = ℕ} 0 1 = cc in absurd (omega arith)

  pub counting_over : (next : ℕ) → met_for i (pitch_met 0 none (drop i line)) ≡ met-as.Over → chord_read count next ≡ chord_for next (chord_of 0 none (drop at line))
  counting_over next k = over_by next (pitch_met 0 none (drop i line)) refl k

  -- a pitch is refused
  out_by : (next : ℕ) (m : Met) → pitch_met 0 none (drop i line) ≡ m → met_for i m ≡ met-as.Out → ◌≡◌ {A = Result (Read ℕ) Refusal} (Err Refusal.Octave) (chord_for next (chord_of 0 none (drop at line)))
  unfolding walked plus read met_for
  out_by next over e k = let z : ◌≡◌ {A = ℕ} 0 1 = cc in absurd (omega arith)
  out_by next out e k = ap (read next) (met_here out e) ∙ read_plus next (chord_of 0 none (drop at line))
  out_by next (met w n) e k = let z : ◌≡◌ {A = ℕ} 0 1 = cc in absurd (omega arith)

  pub counting_out : (next : ℕ) → met_for i (pitch_met 0 none (drop i line)) ≡ met-as.Out → ◌≡◌ {A = Result (Read ℕ) Refusal} (Err Refusal.Octave) (chord_for next (chord_of 0 none (drop at line)))
  counting_out next k = out_by next (pitch_met 0 none (drop i line)) refl k

  -- a pitch
  one_by : (p : Pitch) (next : ℕ) (m : Met) → pitch_met 0 none (drop i line) ≡ m → Takes m → met_for i m ≡ met-as.Pitch p next → (i < next) × Counting line at (count + 1) next
  unfolding walked met_for Takes
  one_by p next over e t k = let z : ◌≡◌ {A = ℕ} 0 1 = cc in absurd (omega arith)
  one_by p next out e t k = let z : ◌≡◌ {A = ℕ} 0 1 = cc in absurd (omega arith)
  one_by p next (met w n) e t k =
      let q : i + n ≡ next = cc in
      let f = r.few in (
        omega arith,
        record {
          few = omega arith;
          all = ap (λ s. plus (count + 1) (chord_of 0 none (drop s line))) (sym q) ∙ ap (λ s. plus (count + 1) (chord_of 0 none s)) (sym (drop-drop n i line))
              ∙ sym (plus_before count w (chord_of 0 none (drop n (drop i line)))) ∙ met_here (met w n) e;
        },
      )

  pub counting_one : (p : Pitch) (next : ℕ) → met_for i (pitch_met 0 none (drop i line)) ≡ met-as.Pitch p next → (i < next) × Counting line at (count + 1) next
  counting_one p next k = one_by p next (pitch_met 0 none (drop i line)) refl (takes none (drop i line)) k

  -- it stands in the line
  pub counting_within : (p : Pitch) (next : ℕ) → met_for i (pitch_met 0 none (drop i line)) ≡ met-as.Pitch p next → i < length line
  counting_within p next k = go (dec_le (length line) i)
    where
      go : Dec (length line ≤ i) → i < length line
      go (yes h) = let e = met_end line i none h in let z : ◌≡◌ {A = ℕ} 0 1 = cc in absurd (omega arith)
      go (no h) = omega arith
