-- A token lies within its line: it takes no more bytes than there are.
use Prim.Native.Nat.{ℕ, suc, ◌+◌, ◌-◌, ◌^◌, ◌≤◌, ◌<◌}
use mathlib.Core.Path.{◌≡◌}
use mathlib.Core.Bool.{Bool, true, false, not, ◌&&◌, false≢true}
use mathlib.Core.Option.{Option, none, some}
use mathlib.Core.List.{List, [], ◌∷◌}
use native.Mathlib.Omega.{arith}
use lib.Dec.{ltb, eqb}
use lib.ListN.{length, get_or, take, drop, length-drop}
use lib.Seq.{drop-cons}
use borrow.Author.Tests.{eqb-true, ltb-true}
use Rattle.laws.specs.Lists.{count_while, any, starts_with}
use Rattle.laws.proofs.Bools.{by_test, and_left, and_right}
use Rattle.laws.proofs.Spans.{count_while_yes, count_while_le, spans_wider}
use Rattle.laws.proofs.Lists.{starts_with_length}
use Rattle.standard.specs.Bytes.{is, is_digit, first}
use Rattle.standard.specs.Bars.{Symbol, bar_symbols, symbol_at}
use Rattle.standard.specs.Pitches.{Accidental, Written, is_letter}
use Rattle.editions.specs.declared.Edition.{Edition}
use Rattle.reader.specs.Lengths.{length_of}
use Rattle.reader.specs.Pitches.{octave_from, octave_of, Before, signs, accidental_of, is_quarter, chord_of}
use Rattle.reader.specs.Token.{Token, Taken}
use Rattle.reader.specs.Tuplets.{positive, normal_for, part_or, counted, with_count, with_normal, with_actual, tuplet_of, or_slur}
use Rattle.reader.specs.Barlines.{barline_as, barline_of}
use Rattle.reader.specs.PassLists.{Listed, listed, faulty, is_pass_byte, list_of, volta_as, volta_of}
use Rattle.reader.specs.Inline.{is_inline, inline_at}
use Rattle.reader.specs.Sounds.{behind, chord_taken, chord_at, rest_as, note_as, note_after, note_of}
use Rattle.reader.specs.Tokens.{closed_by, broken_of, bracket_of, Class, white, ampersand, quote, more, less, paren, brace_open, brace_close, bang, plus, bars, bracket, pitched, none-of-these, resting, class_of, token_as, token_of}
use Rattle.reader.proofs.LengthLaws.{length_in_lem, with_length_lem}

-- a first byte that is not 0 is there
there : (s : List ℕ) (k : ℕ) → eqb (first s) (suc k) ≡ true → 0 < length s
there [] k e = let z : ◌≡◌ {A = ℕ} 0 (suc k) = eqb-true 0 (suc k) e in omega arith
there (c ∷ s) k e = omega arith

-- ties and slur ends
pub behind_in : (s : List ℕ) → (behind s).used ≤ length s
unfolding behind
behind_in [] = omega arith
behind_in (c ∷ s) =
    let h : (behind s).used ≤ length s = behind_in s in
    by_test (is "-" c) (λ e. rw (e, behind) (omega arith)) (λ e. rw (e, behind) (by_test (is ")" c) (λ f. rw (f, behind) (omega arith)) (λ f. rw (f, behind) (omega arith))))

-- octave marks
pub octave_in : (c : ℕ) (s : List ℕ) → (octave_of c s).used ≤ length s
unfolding octave_of octave_from
octave_in c s = let down = count_while (is ",") s in omega (arith, count_while_le (is ",") s, count_while_le (is "'") (drop down s), length-drop down s)

-- a byte that does not end a chord
abbrev pub in_chord : ℕ → Bool
in_chord c = not (is "]" c)

-- a comma does not
comma_in : (c : ℕ) → is "," c ≡ true → in_chord c ≡ true
comma_in c e = rw (eqb-true c 44 e)

-- nor does an apostrophe
apostrophe_in : (c : ℕ) → is "'" c ≡ true → in_chord c ≡ true
apostrophe_in c e = rw (eqb-true c 39 e)

-- octave marks do not reach past a chord's end
pub octave_in_chord : (c : ℕ) (s : List ℕ) → (octave_of c s).used ≤ count_while in_chord s
unfolding octave_of octave_from
octave_in_chord c s = spans_wider (is ",") (is "'") in_chord comma_in apostrophe_in s

-- nor does the slash of a quarter tone
pub quarter_in_chord : (a : Option Accidental) (s : List ℕ) → is_quarter a s ≡ true → 1 ≤ count_while in_chord s
unfolding is_quarter
quarter_in_chord none [] e = absurd (false≢true e)
quarter_in_chord none (c ∷ s) e = rw (count_while_yes in_chord c s (rw (eqb-true c 47 e))) (omega arith)
quarter_in_chord (some a) s e = absurd (false≢true e)

-- a run of signs
signs_in_lem : (up : Bool) (n : ℕ) (s : List ℕ) → n ≤ length s → (signs up n s).used ≤ length s
unfolding signs
signs_in_lem up n s h =
    by_test (eqb n 1 && is "/" (first (drop n s)))
    (λ e. rw (e, signs) (omega (arith, eqb-true n 1 (and_left (eqb n 1) (is "/" (first (drop n s))) e), there (drop n s) 46 (and_right (eqb n 1) (is "/" (first (drop n s))) e), length-drop n s)))
    (λ e. rw (e, signs) h)

-- an accidental
pub accidental_in : (c : ℕ) (s : List ℕ) → (accidental_of (c ∷ s)).used ≤ length (c ∷ s)
unfolding accidental_of
accidental_in c s =
    by_test (is "^" c)
    (λ e. rw (e, accidental_of) (signs_in_lem true (count_while (is "^") (c ∷ s)) (c ∷ s) (count_while_le (is "^") (c ∷ s))))
    (λ e. rw (e, accidental_of) (by_test (is "_" c)
    (λ f. rw (f, accidental_of) (signs_in_lem false (count_while (is "_") (c ∷ s)) (c ∷ s) (count_while_le (is "_") (c ∷ s))))
    (λ f. rw (f, accidental_of) (by_test (is "=" c) (λ g. rw (g, accidental_of) (omega arith)) (λ g. rw (g, accidental_of) (omega arith))))))

-- a note from its letter on
note_as_in : (ed : Edition) (a : Before) (c : ℕ) (s : List ℕ) → (note_as ed a c s).used ≤ a.used + suc (length s)
unfolding note_as
note_as_in ed a c s =
    let o = (octave_of c s).used in
    let l = (length_of ed (drop o s)).used in
    by_test (octave_of c s).fine
    (λ e. rw (e, note_as) (with_length_lem (λ t. t.used ≤ a.used + suc (length s)) ed _ (drop o s) _ (λ m. omega arith)
    (λ m. omega (arith, octave_in c s, length_in_lem ed (drop o s), length-drop o s, behind_in (drop (o + l) s), length-drop (o + l) s))))
    (λ e. rw (e, note_as) (omega arith))

-- a note behind its accidental
note_after_in : (ed : Edition) (a : Before) (r : List ℕ) → (note_after ed a r).used ≤ a.used + length r
unfolding note_after
note_after_in ed a [] = omega arith
note_after_in ed a (c ∷ r) = by_test (is_letter c) (λ e. rw (e, note_after) (note_as_in ed a c r)) (λ e. rw (e, note_after) (omega arith))

-- a note
note_in : (ed : Edition) (c : ℕ) (s : List ℕ) → (note_of ed (c ∷ s)).used ≤ suc (length s)
unfolding note_of
note_in ed c s =
    let a = accidental_of (c ∷ s) in
    omega (arith, note_after_in ed a (drop a.used (c ∷ s)), length-drop a.used (c ∷ s), accidental_in c s)

-- tuplets: n bytes are read, s is left
unfoldable Within : ℕ → Option Taken → Type 0
Within m none = Unit {0}
Within m (some t) = t.used ≤ m

-- a tuplet with its count
counted_in_lem : (p q n m : ℕ) (o : Option ℕ) → n ≤ m → Within m (counted p q n o)
unfolding counted Within
counted_in_lem p q n m none h = tt
counted_in_lem p q n m (some r) h = h

-- a tuplet up to its count
count_in : (ed : Edition) (p q n m : ℕ) (s : List ℕ) → n + length s ≤ m → Within m (with_count ed p q n s)
unfolding with_count Within
count_in ed p q n m s h =
    by_test (is ":" (first s))
    (λ e. rw (e, with_count) (counted_in_lem p q (n + 1 + count_while is_digit (drop 1 s)) m (part_or ed p (2 ^ 64 - 1) (drop 1 s)) (omega (arith, there s 57 e, count_while_le is_digit (drop 1 s), length-drop 1 s))))
    (λ e. rw (e, with_count) (omega arith))

-- a tuplet up to its normal
normal_in_lem : (ed : Edition) (p n m : ℕ) (s : List ℕ) (o : Option ℕ) → 0 < length s → n + length s ≤ m → Within m (with_normal ed p n s o)
unfolding with_normal Within
normal_in_lem ed p n m s none k h = tt
normal_in_lem ed p n m s (some q) k h =
    let d = count_while is_digit (drop 1 s) in
    count_in ed p q (n + 1 + d) m (drop (1 + d) s) (omega (arith, count_while_le is_digit (drop 1 s), length-drop 1 s, length-drop (1 + d) s))

-- a tuplet up to its actual
actual_in : (ed : Edition) (n m : ℕ) (s : List ℕ) (o : Option ℕ) → n + length s ≤ m → Within m (with_actual ed n s o)
unfolding with_actual Within
actual_in ed n m s none h = tt
actual_in ed n m s (some p) h =
    by_test (ltb p 2)
    (λ e. rw (e, with_actual) tt)
    (λ e. rw (e, with_actual)
    (by_test (is ":" (first s))
    (λ f. rw (f, with_actual) (normal_in_lem ed p n m s (part_or ed (normal_for ed p) 255 (drop 1 s)) (there s 57 f) h))
    (λ f. rw (f, with_actual) (omega arith))))

-- a slur start instead
slur_in : (m : ℕ) (o : Option Taken) → 0 < m → Within m o → (or_slur o).used ≤ m
unfolding or_slur Within
slur_in m none k h = omega arith
slur_in m (some t) k h = h

-- a tuplet
tuplet_in_lem : (ed : Edition) (s : List ℕ) → (or_slur (tuplet_of ed s)).used ≤ suc (length s)
unfolding tuplet_of
tuplet_in_lem ed s =
    let d = count_while is_digit s in
    slur_in (suc (length s)) (tuplet_of ed s) (omega arith) (actual_in ed (1 + d) (suc (length s)) (drop d s) (positive 255 s) (omega (arith, count_while_le is_digit s, length-drop d s)))

-- a symbol of the table lies within the text that begins with it
unfoldable Fits : List ℕ → Option Symbol → Type 0
Fits s none = Unit {0}
Fits s (some x) = length x.text ≤ length s

-- the symbol that is found
symbol_in : (xs : List Symbol) (s : List ℕ) → Fits s (symbol_at xs s)
unfolding symbol_at Fits
symbol_in [] s = tt
symbol_in (x ∷ xs) s = by_test (starts_with x.text s) (λ e. rw (e, symbol_at) (starts_with_length x.text s e)) (λ e. rw (e, symbol_at) (symbol_in xs s))

-- a barline by its symbol
barline_as_in : (c : ℕ) (s : List ℕ) (o : Option Symbol) → Fits (c ∷ s) o → (barline_as (c ∷ s) o).used ≤ suc (length s)
unfolding barline_as Fits
barline_as_in c s none h = omega arith
barline_as_in c s (some x) h = h

-- a barline
barline_in : (c : ℕ) (s : List ℕ) → (barline_of (c ∷ s)).used ≤ suc (length s)
unfolding barline_of
barline_in c s = barline_as_in c s (symbol_at bar_symbols (c ∷ s)) (symbol_in bar_symbols (c ∷ s))

-- an ending
volta_in : (n : ℕ) (s : List ℕ) (o : Listed) → n ≤ length s → (volta_as n s o).used ≤ suc (length s)
unfolding volta_as
volta_in n s (faulty k) h = omega arith
volta_in n s (listed ps) h = omega arith

-- a chord by its pitches
chord_in_lem : (ed : Edition) (n : ℕ) (s : List ℕ) (o : Option (List Written)) → (chord_taken ed n s o).used ≤ n + length s
unfolding chord_taken
chord_in_lem ed n s none = omega arith
chord_in_lem ed n s (some []) = with_length_lem (λ t. t.used ≤ n + length s) ed _ s _ (λ m. omega arith) (λ m. omega (arith, length_in_lem ed s))
chord_in_lem ed n s (some (p ∷ ps)) =
    with_length_lem (λ t. t.used ≤ n + length s) ed _ s _ (λ m. omega arith) (λ m. omega (arith, length_in_lem ed s, behind_in (drop (length_of ed s).used s), length-drop (length_of ed s).used s))

-- a chord
chord_at_in : (ed : Edition) (s : List ℕ) → (chord_at ed s).used ≤ suc (length s)
unfolding chord_at
chord_at_in ed s =
    let n = count_while (λ c. not (is "]" c)) s in
    by_test (ltb n (length s))
    (λ e. rw (e, chord_at) (omega (arith, chord_in_lem ed (2 + n) (drop (suc n) s) (chord_of 0 none s), length-drop (suc n) s, ltb-true n (length s) e)))
    (λ e. rw (e, chord_at) (omega (arith, chord_in_lem ed (1 + n) (drop (suc n) s) (chord_of 0 none s), length-drop (suc n) s, count_while_le (λ c. not (is "]" c)) s)))

-- an inline field has its `]`
inline_in : (s : List ℕ) → is_inline s ≡ true → ltb (count_while (λ c. not (is "]" c)) s) (length s) ≡ true
unfolding is_inline
inline_in s e =
    let n = count_while (λ c. not (is "]" c)) s in
    and_left (ltb n (length s)) (not (is "\"" (first s))) (and_left (ltb n (length s) && not (is "\"" (first s))) (any (is ":") (take n s)) e)

-- what a `[` begins
bracket_in : (ed : Edition) (s : List ℕ) → (bracket_of ed s).used ≤ suc (length s)
unfolding bracket_of volta_of inline_at
bracket_in ed s =
    let n = count_while (λ c. not (is "]" c)) s in
    by_test (is_digit (first s))
    (λ e. rw (e, bracket_of) (volta_in (count_while is_pass_byte s) s (list_of (take (count_while is_pass_byte s) s)) (count_while_le is_pass_byte s)))
    (λ e. rw (e, bracket_of) (by_test (is_inline s)
    (λ f. rw (f, bracket_of) (omega (arith, ltb-true n (length s) (inline_in s f))))
    (λ f. rw (f, bracket_of) (chord_at_in ed s))))

-- a quote or decoration
closed_in : (p : ℕ → Bool) (t : Token) (s : List ℕ) (other : Taken) → other.used ≤ suc (length s) → (closed_by p t s other).used ≤ suc (length s)
unfolding closed_by
closed_in p t s other h =
    let n = count_while (λ c. not (p c)) s in
    by_test (ltb n (length s)) (λ e. rw (e, closed_by) (omega (arith, ltb-true n (length s) e))) (λ e. rw (e, closed_by) h)

-- a broken rhythm
broken_in_lem : (up : Bool) (n : ℕ) (c : ℕ) (s : List ℕ) → n ≤ length s → (broken_of up (suc n) (c ∷ s)).used ≤ suc (length s)
unfolding broken_of
broken_in_lem up n c s h = by_test (ltb 255 (suc n)) (λ e. rw (e, broken_of) (omega arith)) (λ e. rw (e, broken_of) (omega arith))

-- a token of any class
pub as_in : (ed : Edition) (k : Class) (c : ℕ) (s : List ℕ) → (token_as ed k (c ∷ s)).used ≤ suc (length s)
unfolding token_as rest_as
as_in ed white c s = omega arith
as_in ed ampersand c s = omega arith
as_in ed quote c s = closed_in (is "\"") _ s _ (omega arith)
as_in ed more c s = broken_in_lem true (count_while (is ">") s) c s (count_while_le (is ">") s)
as_in ed less c s = broken_in_lem false (count_while (is "<") s) c s (count_while_le (is "<") s)
as_in ed paren c s = tuplet_in_lem ed s
as_in ed brace_open c s = omega arith
as_in ed brace_close c s = omega arith
as_in ed bang c s = closed_in (is "!") _ s _ (omega arith)
as_in ed plus c s = closed_in (is "+") _ s _ (omega arith)
as_in ed bars c s = barline_in c s
as_in ed bracket c s = bracket_in ed s
as_in ed pitched c s = note_in ed c s
as_in ed none-of-these c s = omega arith
as_in ed (resting k) c s = with_length_lem (λ t. t.used ≤ suc (length s)) ed _ s _ (λ m. omega arith) (λ m. omega (arith, length_in_lem ed s))

-- a token takes at most the bytes that are there
pub takes_what_is_there : (ed : Edition) (c : ℕ) (s : List ℕ) → (token_of ed (c ∷ s)).used ≤ length (c ∷ s)
unfolding token_of
takes_what_is_there ed c s = as_in ed (class_of c) c s

-- the same at a position of a line
pub token_within : (ed : Edition) (s : List ℕ) (i : ℕ) → i < length s → i + (token_of ed (drop i s)).used ≤ length s
token_within ed s i h =
    let k : (token_of ed (drop i s)).used ≤ length (drop i s) = rw (drop-cons s i 0 h) (takes_what_is_there ed (get_or s i 0) (drop (suc i) s)) in
    omega (arith, length-drop i s)
