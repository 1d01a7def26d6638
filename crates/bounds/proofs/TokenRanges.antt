-- The numbers of each token are in their ranges.
use Prim.Native.Nat.{ℕ, zero, suc, ◌+◌, ◌-◌, ◌^◌, ◌≤◌, ◌<◌}
use mathlib.Core.Path.{◌≡◌, subst}
use mathlib.Core.Bool.{Bool, true, false, cond, not, ◌&&◌, ◌||◌}
use mathlib.Core.Option.{Option, none, some}
use mathlib.Core.List.{List, [], ◌∷◌, ◌++◌}
use native.Mathlib.Nat.{add-zero}
use native.Mathlib.Omega.{arith}
use lib.Dec.{ltb, leb, eqb, lit<, lit≤}
use lib.ListN.{length, take, drop}
use borrow.Author.Tests.{ltb-true, ltb-false, leb-true}
use Rattle.laws.specs.Lists.{count_while, all, is_nil, eq_text, All, starts_with}
use Rattle.laws.proofs.Bools.{by_test, and_left, and_right}
use Rattle.standard.specs.Bytes.{ascii, is, is_digit, first, decimal, digits}
use Rattle.standard.specs.Fields.{Meter, named_meter}
use Rattle.standard.specs.Passes.{Item, pass, passes, rising, passes_of}
use Rattle.standard.specs.Bars.{Symbol, bar_symbols, symbol_at}
use Rattle.standard.specs.Tuplets.{usual_normal, default_normal}
use Rattle.standard.specs.Pitches.{Accidental, Written, is_letter, step_of, letter_octave}
use Rattle.standard.specs.Keys.{Key}
use Rattle.editions.specs.declared.Edition.{Edition}
use Rattle.editions.specs.declared.Edition.TheVariants.{First, Second}
use Rattle.reader.specs.Pieces.{numeral, before, after, pieces, separator, trimmed, field_words}
use Rattle.reader.specs.Fields.{or_four, meter_number, meter_bottom, meter_or, meter_text, meter_of, unit_inline, middle_word, first_met, key_refusal}
use Rattle.reader.specs.Pitches.{octave_from, octave_of, Before, signs, accidental_of, natural, quarter_tone, moved, added, is_quarter, cons_pitch, chord_of}
use Rattle.reader.specs.Token.{Token, quoted, decoration, skipped, Taken, taken, key}
use Rattle.reader.specs.Tuplets.{not_zero, positive, or_one_less, normal_for, counted, with_count, with_normal, with_actual, tuplet_of, or_slur, part_or}
use Rattle.reader.specs.Barlines.{barline_as, barline_of}
use Rattle.reader.specs.PassLists.{list_items, numbers_in, is_pass, Listed, listed, faulty, tested, is_pass_byte, volta_as, volta_of}
use Rattle.reader.specs.PassesInTurn.{pass_number, single, range, item_of, last_pass, in_turn, pass_list, list_fault, or_faulty}
use Rattle.reader.proofs.LengthLaws.{with_length_lem}
use Rattle.reader.proofs.PassTests.{tests_in_turn}
use Rattle.reader.specs.Inline.{unit_token, key_token, field_token, is_inline, inline_at, token_unless}
use Rattle.reader.specs.Sounds.{chord_taken, chord_at, rest_as, note_as, note_after, note_of}
use Rattle.reader.specs.Tokens.{closed_by, broken_of, bracket_of, Class, white, ampersand, quote, more, less, paren, brace_open, brace_close, bang, plus, bars, bracket, pitched, none-of-these, resting, class_of, token_as, token_of, tokens}
use Rattle.reader.specs.Keys.{key_of, is_beyond, is_key_word}
use Rattle.bounds.specs.Ranges.{MeterFits, PassesFit, SignFits, WrittenFits, LineRefusal, TokenFits}
use Rattle.reader.proofs.Tuplets.{normal_most}

-- NUMBERS
-- a number that is read is at most what may be read
unfoldable pub Most : ℕ → Option ℕ → Type 0
Most top none = Unit {0}
Most top (some v) = v ≤ top

-- in digits
pub digits_most : (top : ℕ) (s : List ℕ) → Most top (digits top s)
unfolding digits Most
digits_most top s =
    by_test (not (is_nil s) && all is_digit s && leb (decimal 0 s) top)
    (λ e. rw (e, digits) (leb-true (decimal 0 s) top (and_right (not (is_nil s) && all is_digit s) (leb (decimal 0 s) top) e)))
    (λ e. rw (e, digits) tt)

-- with a plus sign
pub numeral_most : (top : ℕ) (s : List ℕ) → Most top (numeral top s)
unfolding numeral
numeral_most top s = by_test (is "+" (first s)) (λ e. rw (e, numeral) (digits_most top (drop 1 s))) (λ e. rw (e, numeral) (digits_most top s))

-- METERS
four_most : (o : Option ℕ) → Most 255 o → or_four o < 256
unfolding or_four Most
four_most none h = lit< tt
four_most (some v) h = omega arith

-- top or bottom
number_most : (s : List ℕ) → meter_number s < 256
unfolding meter_number
number_most s = four_most (numeral 255 (trimmed s)) (numeral_most 255 (trimmed s))

-- the bottom
bottom_most : (o : Option (List ℕ)) → meter_bottom o < 256
unfolding meter_bottom
bottom_most none = lit< tt
bottom_most (some s) = number_most s

-- a named meter, if it is one
unfoldable NamedFits : Option Meter → Type 0
NamedFits none = Unit {0}
NamedFits (some m) = MeterFits m

-- so it is
named_fits : (m : List ℕ) → NamedFits (named_meter m)
unfolding named_meter NamedFits
named_fits m =
    by_test (eq_text m (ascii "C")) (λ e. rw (e, named_meter) (lit< tt, lit< tt))
    (λ e. rw (e, named_meter) (by_test (eq_text m (ascii "C|")) (λ f. rw f (lit< tt, lit< tt)) (λ f. rw f tt)))

-- any meter
or_fits : (m : List ℕ) (o : Option Meter) → NamedFits o → MeterFits (meter_or m o)
unfolding meter_or NamedFits
or_fits m (some t) h = h
or_fits m none h =
    by_test (eq_text m (ascii "c|")) (λ e. rw (e, meter_or) (lit< tt, lit< tt))
    (λ e. rw (e, meter_or) (number_most (before (is "/") m), bottom_most (after (is "/") m)))

-- top and bottom of an M field are below 256
pub meter_fits : (s : List ℕ) → MeterFits (meter_of s)
unfolding meter_of meter_text
meter_fits s = or_fits (trimmed s) (named_meter (trimmed s)) (named_fits (trimmed s))

-- PASS LISTS
pass_most : (s : List ℕ) → Most 32 (pass_number s)
unfolding pass_number Most
pass_most s = by_test (is "0" (first s)) (λ e. rw e tt) (λ e. rw e (digits_most 32 s))

-- an item lies above `low`, and its last pass is at most 32
unfoldable ItemAbove : ℕ → Option Item → Type 0
ItemAbove low none = Unit {0}
ItemAbove low (some (pass a)) = (low < a) × (a ≤ 32)
ItemAbove low (some (passes a b)) = (low < a) × ((a < b) × (b ≤ 32))

-- a pass
single_above : (low : ℕ) (o : Option ℕ) → Most 32 o → ItemAbove low (single low o)
unfolding single Most ItemAbove
single_above low none h = tt
single_above low (some a) h = by_test (ltb low a) (λ e. rw e (ltb-true low a e, h)) (λ e. rw e tt)

-- a range
range_above : (low : ℕ) (o q : Option ℕ) → Most 32 q → ItemAbove low (range low o q)
unfolding range Most ItemAbove
range_above low none q h = tt
range_above low (some a) none h = tt
range_above low (some a) (some b) h =
    by_test (ltb low a && ltb a b)
    (λ e. rw e (ltb-true low a (and_left (ltb low a) (ltb a b) e), (ltb-true a b (and_right (ltb low a) (ltb a b) e), h)))
    (λ e. rw e tt)

-- any item
item_above : (low : ℕ) (ps : List (List ℕ)) → ItemAbove low (item_of low ps)
unfolding item_of ItemAbove
item_above low [] = tt
item_above low (a ∷ []) = single_above low (pass_number a) (pass_most a)
item_above low (a ∷ b ∷ []) = range_above low (pass_number a) (pass_number b) (pass_most b)
item_above low (a ∷ b ∷ c ∷ s) = tt

-- the passes from a on, n + 1 of them, before others
rising_fits : (low a n : ℕ) (qs : List ℕ) → low < a → a + n ≤ 32 → PassesFit (a + n) qs → PassesFit low (rising a (suc n) ++ qs)
unfolding rising PassesFit
rising_fits low a zero qs h l f = (h, (omega arith, rw (add-zero a) at f))
rising_fits low a (suc n) qs h l f =
    let e : suc a + n ≡ a + suc n = omega arith in
    (h, (omega arith, rising_fits a (suc a) n qs (omega arith) (omega arith) (rw e f)))

-- a list, if it is one
unfoldable ListFits : ℕ → Option (List ℕ) → Type 0
ListFits low none = Unit {0}
ListFits low (some ps) = PassesFit low ps

-- an item before the others
turn_fits : (low : ℕ) (i : Option Item) (o : Option (List ℕ)) → ItemAbove low i → ListFits (last_pass low i) o → ListFits low (in_turn i o)
unfolding in_turn ItemAbove ListFits last_pass passes_of PassesFit
turn_fits low none o h f = tt
turn_fits low (some (pass a)) none h f = tt
turn_fits low (some (passes a b)) none h f = tt
turn_fits low (some (pass a)) (some qs) h f = (h.0, (h.1, f))
turn_fits low (some (passes a b)) (some qs) h f =
    let e : a + (b - a) ≡ b = omega (arith, h.1.0) in
    rising_fits low a (b - a) qs h.0 (omega (arith, h.1.0, h.1.1)) (rw e f)

-- any list
list_fits : (low : ℕ) (xs : List (List ℕ)) → ListFits low (pass_list low xs)
unfolding pass_list ListFits PassesFit
list_fits low [] = tt
list_fits low (x ∷ xs) =
    let i = item_of low (pieces (separator (is "-")) 0 x) in
    turn_fits low i (pass_list (last_pass low i) xs) (item_above low (pieces (separator (is "-")) 0 x)) (list_fits (last_pass low i) xs)

-- a list that is read, or the number of its refusal
unfoldable ListedFits : Listed → Type 0
ListedFits (listed ps) = PassesFit 0 ps
ListedFits (faulty k) = LineRefusal k

listed_by : (o : Option (List ℕ)) (k : ℕ) → ListFits 0 o → LineRefusal k → ListedFits (or_faulty o k)
unfolding or_faulty ListFits ListedFits
listed_by none k h f = f
listed_by (some ps) k h f = h

fault_fits : (os : Option (List Item)) → LineRefusal (list_fault os)
unfolding list_fault
fault_fits none = tt
fault_fits (some ts) = by_test (all is_pass (numbers_in ts)) (λ h. rw h tt) (λ h. rw h tt)

listed_fits : (xs : List (List ℕ)) → ListedFits (tested (list_items xs))
listed_fits xs = rw (tests_in_turn xs) (listed_by (pass_list 0 xs) (list_fault (list_items xs)) (list_fits 0 xs) (fault_fits (list_items xs)))

-- TUPLETS
zero_most : (top : ℕ) (o : Option ℕ) → Most top o → Most top (not_zero o)
unfolding not_zero Most
zero_most top none h = tt
zero_most top (some v) h = by_test (eqb v 0) (λ e. rw e tt) (λ e. rw e h)

-- a number that is not 0
pub positive_most : (top : ℕ) (s : List ℕ) → Most top (positive top s)
unfolding positive
positive_most top s = zero_most top (digits top (take (count_while is_digit s) s)) (digits_most top (take (count_while is_digit s) s))

-- a part behind its `:`
part_most : (ed : Edition) (default top : ℕ) (s : List ℕ) → default ≤ top → Most top (part_or ed default top s)
unfolding part_or Most
part_most First default top s h = positive_most top s
part_most Second default top s h = by_test (is_digit (first s)) (λ e. rw (e, part_or) (positive_most top s)) (λ e. rw (e, part_or) h)

-- a tuplet's answer, if it is one
unfoldable TakenFits : Option Taken → Type 0
TakenFits none = Unit {0}
TakenFits (some t) = TokenFits t.token

-- with its count
counted_fits : (p q n : ℕ) (o : Option ℕ) → p ≤ 255 → q ≤ 255 → TakenFits (counted p q n o)
unfolding counted TakenFits TokenFits
counted_fits p q n none h k = tt
counted_fits p q n (some r) h k = (omega arith, omega arith)

-- up to its count
count_fits : (ed : Edition) (p q n : ℕ) (s : List ℕ) → p ≤ 255 → q ≤ 255 → TakenFits (with_count ed p q n s)
unfolding with_count TakenFits TokenFits
count_fits ed p q n s h k =
    by_test (is ":" (first s))
    (λ e. rw (e, with_count) (counted_fits p q (n + 1 + count_while is_digit (drop 1 s)) (part_or ed p (2 ^ 64 - 1) (drop 1 s)) h k))
    (λ e. rw (e, with_count) (omega arith, omega arith))

-- up to its normal
normal_fits : (ed : Edition) (p n : ℕ) (s : List ℕ) (o : Option ℕ) → p ≤ 255 → Most 255 o → TakenFits (with_normal ed p n s o)
unfolding with_normal TakenFits Most
normal_fits ed p n s none h k = tt
normal_fits ed p n s (some q) h k = count_fits ed p q (n + 1 + count_while is_digit (drop 1 s)) (drop (1 + count_while is_digit (drop 1 s)) s) h k

-- up to its actual
actual_fits : (ed : Edition) (n : ℕ) (s : List ℕ) (o : Option ℕ) → Most 255 o → TakenFits (with_actual ed n s o)
unfolding with_actual TakenFits TokenFits Most
actual_fits ed n s none h = tt
actual_fits ed n s (some p) h =
    by_test (ltb p 2)
    (λ e. rw (e, with_actual) tt)
    (λ e. rw (e, with_actual)
    (by_test (is ":" (first s)) (λ f. rw (f, with_actual) (normal_fits ed p n s (part_or ed (normal_for ed p) 255 (drop 1 s)) h (part_most ed (normal_for ed p) 255 (drop 1 s) (normal_most ed p h))))
    (λ f. rw (f, with_actual) (omega arith, omega (arith, normal_most ed p h)))))

-- a slur start instead
slur_fits : (o : Option Taken) → TakenFits o → TokenFits (or_slur o).token
unfolding or_slur TakenFits TokenFits
slur_fits none h = tt
slur_fits (some t) h = h

-- a tuplet
tuplet_fits : (ed : Edition) (s : List ℕ) → TokenFits (or_slur (tuplet_of ed s)).token
unfolding tuplet_of
tuplet_fits ed s = slur_fits (tuplet_of ed s) (actual_fits ed (1 + count_while is_digit s) (drop (count_while is_digit s) s) (positive 255 s) (positive_most 255 s))

-- PITCHES
-- a step is one of seven
step_small : (c : ℕ) → step_of c < 7
unfolding step_of
step_small c = omega arith

-- an octave that is not refused
octave_small : (c : ℕ) (s : List ℕ) → (octave_of c s).fine ≡ true → (octave_of c s).octave < 256
unfolding octave_of octave_from
octave_small c s e =
    let start = letter_octave c in
    let down = count_while (is ",") s in
    let up = count_while (is "'") (drop down s) in
    omega (arith, leb-true (start - down + up) 255 (and_right (leb down start) (leb (start - down + up) 255) e))

-- a sign more
moved_small : (up : Bool) (n a : ℕ) → a < 256 → moved up n a < 256
moved_small true n a h = omega arith
moved_small false n a h = omega arith

-- a quarter tone
quarter_fits : (up : Bool) → SignFits (some (quarter_tone up))
unfolding SignFits
quarter_fits true = (lit< tt, lit< tt)
quarter_fits false = (lit< tt, lit< tt)

-- a run of signs
signs_fit : (up : Bool) (n : ℕ) (s : List ℕ) → SignFits (signs up n s).sign
unfolding signs SignFits
signs_fit up n s =
    by_test (eqb n 1 && is "/" (first (drop n s))) (λ e. rw (e, signs) (quarter_fits up)) (λ e. rw (e, signs) (moved_small up n 128 (lit< tt), lit< tt))

-- an accidental before a note
accidental_fits : (s : List ℕ) → SignFits (accidental_of s).sign
unfolding accidental_of SignFits
accidental_fits s =
    by_test (is "^" (first s)) (λ e. rw (e, accidental_of) (signs_fit true (count_while (is "^") s) s))
    (λ e. rw (e, accidental_of)
    (by_test (is "_" (first s)) (λ f. rw (f, accidental_of) (signs_fit false (count_while (is "_") s) s))
    (λ f. rw (f, accidental_of) (by_test (is "=" (first s)) (λ g. rw g (lit< tt, lit< tt)) (λ g. rw g tt)))))

-- signs that add up in a chord
added_fits : (up : Bool) (a : Option Accidental) → SignFits a → SignFits (some (added up a))
unfolding added SignFits
added_fits up none h = (moved_small up 1 128 (lit< tt), lit< tt)
added_fits up (some a) h = (moved_small up 1 a.alter h.0, lit< tt)

-- a chord's pitches, unless one is refused
unfoldable ChordFits : Option (List Written) → Type 0
ChordFits none = Unit {0}
ChordFits (some ws) = All WrittenFits ws

-- one pitch before the others
cons_fits : (c : ℕ) (a : Option Accidental) (s : List ℕ) (r : Option (List Written)) → SignFits a → ChordFits r → ChordFits (cons_pitch c a (octave_of c s) r)
unfolding cons_pitch ChordFits
cons_fits c a s none h k = tt
cons_fits c a s (some ws) h k =
    by_test (octave_of c s).fine
    (λ e. rw (e, cons_pitch) (record { step_fits = step_small c; octave_fits = octave_small c s e; mark_fits = h }, k))
    (λ e. rw (e, cons_pitch) tt)

-- no accidental
no_mark : SignFits none
unfolding SignFits
no_mark = tt

-- a natural
natural_fits : SignFits (some natural)
unfolding SignFits
natural_fits = (lit< tt, lit< tt)

-- all of them
chord_fits : (k : ℕ) (a : Option Accidental) (s : List ℕ) → SignFits a → ChordFits (chord_of k a s)
unfolding chord_of ChordFits
chord_fits k a [] h = tt
chord_fits zero a (c ∷ s) h =
    by_test (is "]" c) (λ e. rw (e, chord_of) tt)
    (λ e. rw (e, chord_of)
    (by_test (is "^" c || is "_" c)
    (λ f. rw (f, chord_of)
    (by_test (is_quarter a s) (λ g. rw (g, chord_of) (chord_fits 1 (some (quarter_tone (is "^" c))) s (quarter_fits (is "^" c))))
    (λ g. rw (g, chord_of) (chord_fits 0 (some (added (is "^" c) a)) s (added_fits (is "^" c) a h)))))
    (λ f. rw (f, chord_of)
    (by_test (is "=" c) (λ g. rw (g, chord_of) (chord_fits 0 (some natural) s natural_fits))
    (λ g. rw (g, chord_of)
    (by_test (is_letter c)
    (λ i. rw (i, chord_of) (cons_fits c a s (chord_of (octave_of c s).used none s) h (chord_fits (octave_of c s).used none s no_mark)))
    (λ i. rw (i, chord_of) (chord_fits 0 a s h))))))))
chord_fits (suc k) a (c ∷ s) h = chord_fits k a s h

-- those of a chord that is read
pub pitches_fit : (s : List ℕ) (ws : List Written) → chord_of 0 none s ≡ some ws → All WrittenFits ws
unfolding ChordFits
pitches_fit s ws e = subst ChordFits e (chord_fits 0 none s no_mark)

-- TOKENS
taken_fits : (ed : Edition) (n : ℕ) (s : List ℕ) (o : Option (List Written)) → ChordFits o → TokenFits (chord_taken ed n s o).token
unfolding chord_taken ChordFits TokenFits
taken_fits ed n s none h = tt
taken_fits ed n s (some []) h = with_length_lem (λ t. TokenFits t.token) ed _ s _ (λ m. tt) (λ m. tt)
taken_fits ed n s (some (w ∷ ws)) h = with_length_lem (λ t. TokenFits t.token) ed _ s _ (λ m. tt) (λ m. h)

-- the same from its bracket on
chord_at_fits : (ed : Edition) (s : List ℕ) → TokenFits (chord_at ed s).token
unfolding chord_at
chord_at_fits ed s = let n = count_while (λ c. not (is "]" c)) s in taken_fits ed (cond (ltb n (length s)) (2 + n) (1 + n)) (drop (suc n) s) (chord_of 0 none s) (chord_fits 0 none s no_mark)

-- a note from its letter on
note_as_fits : (ed : Edition) (a : Before) (c : ℕ) (s : List ℕ) → SignFits a.sign → TokenFits (note_as ed a c s).token
unfolding note_as TokenFits
note_as_fits ed a c s h =
    by_test (octave_of c s).fine
    (λ e. rw (e, note_as) (with_length_lem (λ t. TokenFits t.token) ed _ (drop (octave_of c s).used s) _ (λ m. tt) (λ m. record { step_fits = step_small c; octave_fits = octave_small c s e; mark_fits = h })))
    (λ e. rw (e, note_as) tt)

-- a note behind its accidental
note_after_fits : (ed : Edition) (a : Before) (r : List ℕ) → SignFits a.sign → TokenFits (note_after ed a r).token
unfolding note_after TokenFits
note_after_fits ed a [] h = tt
note_after_fits ed a (c ∷ r) h = by_test (is_letter c) (λ e. rw (e, note_after) (note_as_fits ed a c r h)) (λ e. rw (e, note_after) tt)

-- a note
note_fits : (ed : Edition) (s : List ℕ) → TokenFits (note_of ed s).token
unfolding note_of
note_fits ed s = let a = accidental_of s in note_after_fits ed a (drop a.used s) (accidental_fits s)

-- a quote or decoration
closed_fits : (x : ℕ → Bool) (t : Token) (s : List ℕ) (other : Taken) → TokenFits t → TokenFits other.token → TokenFits (closed_by x t s other).token
unfolding closed_by
closed_fits x t s other g h = by_test (ltb (count_while (λ c. not (x c)) s) (length s)) (λ e. rw (e, closed_by) g) (λ e. rw (e, closed_by) h)

-- a broken rhythm
broken_fits : (up : Bool) (n : ℕ) (s : List ℕ) → TokenFits (broken_of up n s).token
unfolding broken_of TokenFits
broken_fits up n s = by_test (ltb 255 n) (λ e. rw (e, broken_of) tt) (λ e. rw (e, broken_of) (omega (arith, ltb-false 255 n e)))

-- a barline
barline_fits : (s : List ℕ) (o : Option Symbol) → TokenFits (barline_as s o).token
unfolding barline_as TokenFits
barline_fits s none = tt
barline_fits s (some x) = tt

-- an ending
volta_fits : (n : ℕ) (s : List ℕ) (o : Listed) → ListedFits o → TokenFits (volta_as n s o).token
unfolding volta_as ListedFits TokenFits
volta_fits n s (faulty k) h = h
volta_fits n s (listed ps) h = h

-- the refusal of a K field, if it has one
unfoldable pub RefusalFits : Option ℕ → Type 0
RefusalFits none = Unit {0}
RefusalFits (some n) = LineRefusal n

met_refusal : (b : Bool) (ws : List (List ℕ)) → RefusalFits (first_met b ws)
unfolding first_met RefusalFits
met_refusal b [] = tt
met_refusal b (w ∷ ws) =
    by_test (starts_with (ascii "middle=") w) (λ e. rw (e, first_met) tt)
    (λ e. rw (e, first_met) (by_test (b && is_key_word w) (λ f. rw f tt) (λ f. rw f (met_refusal b ws))))

pub key_refusal_lem : (ed : Edition) (s : List ℕ) → RefusalFits (key_refusal ed s)
unfolding key_refusal RefusalFits
key_refusal_lem First s = by_test (middle_word s) (λ e. rw (e, key_refusal) tt) (λ e. rw (e, key_refusal) tt)
key_refusal_lem Second s = met_refusal (is_beyond (key_of Second s)) (field_words s)

-- an inline L
unit_fits : (o : Option ℕ) → TokenFits (unit_token o)
unfolding unit_token TokenFits
unit_fits none = tt
unit_fits (some u) = tt

-- an inline K
unless_fits : (k : Key) (o : Option ℕ) → RefusalFits o → TokenFits (token_unless k o)
unfolding token_unless TokenFits RefusalFits
unless_fits k none h = tt
unless_fits k (some n) h = h

key_fits : (ed : Edition) (s : List ℕ) → TokenFits (key_token ed s)
unfolding key_token
key_fits ed s = unless_fits (key_of ed s) (key_refusal ed s) (key_refusal_lem ed s)

-- an inline field
field_fits : (ed : Edition) (s : List ℕ) → TokenFits (field_token ed s)
unfolding field_token TokenFits
field_fits ed s =
    by_test (is ":" (first (drop 1 s)))
    (λ e. rw (e, field_token)
    (by_test (is "L" (first s)) (λ f. rw (f, field_token) (unit_fits (unit_inline (drop 2 s))))
    (λ f. rw (f, field_token)
    (by_test (is "M" (first s)) (λ g. rw (g, field_token) (meter_fits (drop 2 s)))
    (λ g. rw (g, field_token) (by_test (is "K" (first s)) (λ k. rw (k, field_token) (key_fits ed (drop 2 s))) (λ k. rw (k, field_token) tt)))))))
    (λ e. rw (e, field_token) tt)

-- what a `[` begins
bracket_fits : (ed : Edition) (s : List ℕ) → TokenFits (bracket_of ed s).token
unfolding bracket_of volta_of inline_at
bracket_fits ed s =
    let n = count_while is_pass_byte s in
    let xs = pieces (separator (is ",")) 0 (take n s) in
    by_test (is_digit (first s))
    (λ e. rw (e, bracket_of) (volta_fits n s (tested (list_items xs)) (listed_fits xs)))
    (λ e. rw (e, bracket_of)
    (by_test (is_inline s) (λ f. rw (f, bracket_of) (field_fits ed (take (count_while (λ c. not (is "]" c)) s) s))) (λ f. rw (f, bracket_of) (chord_at_fits ed s))))

-- of any class
as_fits : (ed : Edition) (k : Class) (s : List ℕ) → TokenFits (token_as ed k s).token
unfolding token_as rest_as barline_of TokenFits
as_fits ed white s = tt
as_fits ed ampersand s = tt
as_fits ed quote s = closed_fits (is "\"") quoted (drop 1 s) (taken quoted (length s)) tt tt
as_fits ed more s = broken_fits true (suc (count_while (is ">") (drop 1 s))) s
as_fits ed less s = broken_fits false (suc (count_while (is "<") (drop 1 s))) s
as_fits ed paren s = tuplet_fits ed (drop 1 s)
as_fits ed brace_open s = tt
as_fits ed brace_close s = tt
as_fits ed bang s = closed_fits (is "!") decoration (drop 1 s) (taken skipped 1) tt tt
as_fits ed plus s = closed_fits (is "+") decoration (drop 1 s) (taken skipped 1) tt tt
as_fits ed bars s = barline_fits s (symbol_at bar_symbols s)
as_fits ed bracket s = bracket_fits ed (drop 1 s)
as_fits ed pitched s = note_fits ed s
as_fits ed none-of-these s = tt
as_fits ed (resting k) s = with_length_lem (λ t. TokenFits t.token) ed _ (drop 1 s) _ (λ m. tt) (λ m. tt)

-- every token at the front of any text fits
pub token_fits_lem : (ed : Edition) (s : List ℕ) → TokenFits (token_of ed s).token
unfolding token_of
token_fits_lem ed s = as_fits ed (class_of (first s)) s

-- so do all tokens of a line
pub tokens_fit : (ed : Edition) (k : ℕ) (s : List ℕ) → All TokenFits (tokens ed k s)
unfolding tokens
tokens_fit ed k [] = tt
tokens_fit ed zero (c ∷ s) = (token_fits_lem ed (c ∷ s), tokens_fit ed _ s)
tokens_fit ed (suc k) (c ∷ s) = tokens_fit ed k s
