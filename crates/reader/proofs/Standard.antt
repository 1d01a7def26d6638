-- WHERE THE READER AND THE STANDARD AGREE: on the inputs that each law states, the reader's definition gives what `standard` says.
-- That ticks are 1024ths of a whole note is `ticks_fraction` (ValueLaws).
use Prim.Native.Nat.{ℕ, zero, suc, ◌+◌, ◌-◌, ◌*◌, ◌^◌, ◌≤◌, ◌<◌, min}
use mathlib.Core.Path.{◌≡◌, refl, sym, ap, subst, ◌∙◌}
use mathlib.Core.Bool.{Bool, true, false, not, ◌||◌}
use mathlib.Core.Option.{Option, none, some}
use mathlib.Core.List.{List, [], ◌∷◌, ◌++◌, map, reverse, reverse_aux, append-nil, nil≢cons, tail-eq_of_cons-eq}
use native.Mathlib.Nat.{add-zero, not-suc-le-zero}
use native.Mathlib.Omega.{arith}
use lib.Dec.{eqb, ltb}
use lib.ListN.{length, drop, replicate, length-replicate}
use lib.Seq.{take-append_seam, drop_at}
use borrow.Author.Tests.{eqb-true, le-leb, le-ltb, lt-ltb, ne_eqb}
use Rattle.laws.specs.Lists.{foldl, All, all, all_below, count_while, eq_text}
use Rattle.laws.proofs.Bools.{by_test, both_true, and_left, and_right, and_both, eqb_sym, some≢none}
use Rattle.laws.proofs.Finite.{below, below₂}
use Rattle.laws.proofs.Lists.{eq_text_true, foldl_append}
use Rattle.laws.proofs.Spans.{count_while_no}
use Rattle.standard.specs.Bytes.{ascii, is, is_digit, first, decimal}
use Rattle.standard.specs.Pitches.{is_letter, octave_mark, octave_by, alter_of, step_of}
use Rattle.standard.specs.Keys.{key_alter}
use Rattle.standard.specs.Bars.{normal, repeat_start, repeat_end, repeat_both, double, final, symbol_at}
use Rattle.standard.specs.Tuplets.{usual_normal, default_normal}
use Rattle.standard.specs.Passes.{pass, passes, passes_of}
use Rattle.standard.specs.Lengths.{ticks, dotted, halved}
use Rattle.standard.specs.Notes
use Rattle.standard.specs.Notes.{Beam, beams}
use Rattle.standard.specs.Fields.{named_meter}
use Rattle.editions.specs.declared.Edition.{Edition}
use Rattle.editions.specs.declared.Edition.TheVariants.{First, Second}
use Rattle.reader.specs.Text.{is_space}
use Rattle.reader.specs.Pieces.{pieces, separator, after}
use Rattle.reader.specs.Fields.{meter_of, meter_text, meter_or, meter_number, meter_bottom, or_four, unit_of, unit_inline, unit_text, unit_number, line_unit, inline_unit, or_eight}
use Rattle.reader.specs.Pitches.{octave_from, Before, accidental_of, signs}
use Rattle.reader.specs.Token.{taken, barline, tuplet, volta}
use Rattle.reader.specs.Tuplets.{not_zero, positive, normal_for, or_one_less, part_or, counted, with_count, with_normal, with_actual, tuplet_of}
use Rattle.reader.specs.Barlines.{barline_of}
use Rattle.reader.specs.PassLists.{is_pass_byte, volta_as, volta_of}
use Rattle.reader.specs.PassesInTurn.{pass_number, item_of, single, range, in_turn, pass_list}
use Rattle.reader.specs.State.{Note}
use Rattle.reader.specs.Part.{can_beam, beamed, run_after}
use Rattle.reader.specs.All.{all as everything}
use Rattle.reader.proofs.PassTests.{still_read}
use Rattle.reader.proofs.ValueLaws.{written}
use Rattle.reader.proofs.Digits.{digit_not, digit_solid, count_while_front, digits_some, numeral_some, solid_trimmed, digits_solid, before_digits, before_all, after_digits, pieces_digits, pieces_two}

-- OCTAVES: commas, then apostrophes, then neither
marks_down : (m o : ℕ) → octave_by o (replicate m 44) ≡ o - m
unfolding octave_by octave_mark
marks_down zero o = omega arith
marks_down (suc m) o = omega (arith, marks_down m (o - 1))

-- apostrophes go up
marks_up : (n o : ℕ) → octave_by o (replicate n 39) ≡ o + n
unfolding octave_by octave_mark
marks_up zero o = omega arith
marks_up (suc n) o = omega (arith, marks_up n (o + 1))

-- commas, then apostrophes
marks_both : (m n o : ℕ) → octave_by o (replicate m 44 ++ replicate n 39) ≡ o - m + n
unfolding octave_by
marks_both m n o = foldl_append octave_mark o (replicate m 44) (replicate n 39) ∙ ap (λ (x : ℕ). octave_by x (replicate n 39)) (marks_down m o) ∙ marks_up n (o - m)

-- equal bytes pass together
all_same : (p : ℕ → Bool) (x n : ℕ) → p x ≡ true → all p (replicate n x) ≡ true
all_same p x zero h = refl
all_same p x (suc n) h = and_both (p x) (all p (replicate n x)) h (all_same p x n h)

-- apostrophes are no commas
ups_stop : (n : ℕ) (s : List ℕ) → count_while (is ",") s ≡ 0 → count_while (is ",") (replicate n 39 ++ s) ≡ 0
ups_stop zero s h = h
ups_stop (suc n) s h = refl

-- within the range of a byte the octave is the one that the marks say, and they are all read
pub octave_meets : (start m n : ℕ) (s : List ℕ) → m ≤ start → start - m + n ≤ 255 → count_while (is ",") s ≡ 0 → count_while (is "'") s ≡ 0
    → octave_from start (replicate m 44 ++ (replicate n 39 ++ s)) ≡ record { octave = octave_by start (replicate m 44 ++ replicate n 39); used = m + n; fine = true }
unfolding octave_from
octave_meets start m n s low high c a =
    let t = replicate n 39 ++ s in
    let d : count_while (is ",") (replicate m 44 ++ t) ≡ m = count_while_front (is ",") (replicate m 44) t (all_same (is ",") 44 m refl) (ups_stop n s c) ∙ length-replicate m 44 in
    let r : drop m (replicate m 44 ++ t) ≡ t = drop_at (replicate m 44) t m (length-replicate m 44) in
    let u : count_while (is "'") t ≡ n = count_while_front (is "'") (replicate n 39) s (all_same (is "'") 39 n refl) a ∙ length-replicate n 39 in
    rw (d, octave_from) (rw (r, u, marks_both m n start, le-leb m start low, le-leb (start - m + n) 255 high))

-- ACCIDENTALS
letter_not : (c x : ℕ) → is_letter c ≡ true → is_letter x ≡ false → eqb c x ≡ false
letter_not c x d n = by_test (eqb c x) (λ e. absurd (both_true (is_letter x) (rw (eqb-true c x e) at d) n)) (λ e. e)

-- an answer is what it holds
some_same : (x y : ℕ) → some x ≡ some y → x ≡ y
some_same x y e = ap (λ (o : Option ℕ). elim o as (λ _. ℕ) [ none ↦ 0 | some v ↦ v ]) e

-- `^`
sharp_meets : (c : ℕ) (s : List ℕ) → is_letter c ≡ true → accidental_of (94 ∷ c ∷ s) ≡ record { sign = some (record { alter = 129; cents = 128 }); used = 1 }
unfolding accidental_of signs
sharp_meets c s l = rw (count_while_no (is "^") c s (letter_not c 94 l refl)) (rw (letter_not c 47 l refl, signs))

-- `^^`
double_sharp_meets : (c : ℕ) (s : List ℕ) → is_letter c ≡ true → accidental_of (94 ∷ 94 ∷ c ∷ s) ≡ record { sign = some (record { alter = 130; cents = 128 }); used = 2 }
unfolding accidental_of signs
double_sharp_meets c s l = rw (count_while_no (is "^") c s (letter_not c 94 l refl)) refl

-- `_`
flat_meets : (c : ℕ) (s : List ℕ) → is_letter c ≡ true → accidental_of (95 ∷ c ∷ s) ≡ record { sign = some (record { alter = 127; cents = 128 }); used = 1 }
unfolding accidental_of signs
flat_meets c s l = rw (count_while_no (is "_") c s (letter_not c 95 l refl)) (rw (letter_not c 47 l refl, signs))

-- `__`
double_flat_meets : (c : ℕ) (s : List ℕ) → is_letter c ≡ true → accidental_of (95 ∷ 95 ∷ c ∷ s) ≡ record { sign = some (record { alter = 126; cents = 128 }); used = 2 }
unfolding accidental_of signs
double_flat_meets c s l = rw (count_while_no (is "_") c s (letter_not c 95 l refl)) refl

-- `=`
natural_meets : (c : ℕ) (s : List ℕ) → accidental_of (61 ∷ c ∷ s) ≡ record { sign = some (record { alter = 128; cents = 128 }); used = 1 }
unfolding accidental_of
natural_meets c s = refl

-- the accidental of n half tones with 128 added, in so many bytes
abbrev sounds : ℕ → ℕ → Before
sounds a n = record { sign = some (record { alter = a; cents = 128 }); used = n }

-- a sign that is the given one
this_sign : (given sign : List ℕ) (v a : ℕ) (t : List ℕ) → alter_of given ≡ some v → accidental_of (given ++ t) ≡ sounds v (length given) → sign ≡ given → alter_of sign ≡ some a → accidental_of (sign ++ t) ≡ sounds a (length sign)
this_sign given sign v a t k m e h =
    let q : v ≡ a = some_same v a (sym k ∙ ap alter_of (sym e) ∙ h) in
    rw (e, ← q) m

-- no other sign has an alteration
no_sign : (sign : List ℕ) → eq_text sign (ascii "=") ≡ false → eq_text sign (ascii "^") ≡ false → eq_text sign (ascii "^^") ≡ false → eq_text sign (ascii "_") ≡ false → eq_text sign (ascii "__") ≡ false → alter_of sign ≡ none
unfolding alter_of
no_sign sign a b c d e = rw (a, alter_of) (rw (b, alter_of) (rw (c, alter_of) (rw (d, alter_of) (rw e))))

-- nothing is no answer
none_some : (a : ℕ) → none ≡ some a → ⊥
none_some a e = absurd (let z : ◌≡◌ {A = ℕ} 0 1 = ap (λ (o : Option ℕ). elim o as (λ _. ℕ) [ none ↦ 0 | some v ↦ 1 ]) e in omega (arith, z))

-- a sign that the standard knows, before a note's letter, alters by what the standard says
pub accidental_meets : (sign : List ℕ) (a c : ℕ) (s : List ℕ) → alter_of sign ≡ some a → is_letter c ≡ true → accidental_of (sign ++ (c ∷ s)) ≡ sounds a (length sign)
unfolding alter_of
accidental_meets sign a c s h l =
    let t = c ∷ s in
    by_test (eq_text sign (ascii "=")) (λ e. this_sign (ascii "=") sign 128 a t refl (natural_meets c s) (eq_text_true sign (ascii "=") e) h)
    (λ e. by_test (eq_text sign (ascii "^")) (λ f. this_sign (ascii "^") sign 129 a t refl (sharp_meets c s l) (eq_text_true sign (ascii "^") f) h)
    (λ f. by_test (eq_text sign (ascii "^^")) (λ g. this_sign (ascii "^^") sign 130 a t refl (double_sharp_meets c s l) (eq_text_true sign (ascii "^^") g) h)
    (λ g. by_test (eq_text sign (ascii "_")) (λ k. this_sign (ascii "_") sign 127 a t refl (flat_meets c s l) (eq_text_true sign (ascii "_") k) h)
    (λ k. by_test (eq_text sign (ascii "__")) (λ m. this_sign (ascii "__") sign 126 a t refl (double_flat_meets c s l) (eq_text_true sign (ascii "__") m) h)
    (λ m. absurd (none_some a (sym (no_sign sign e f g k m) ∙ h)))))))

-- BAR SYMBOLS
pub repeat_start_meets : (s : List ℕ) → barline_of (ascii "|:" ++ s) ≡ taken (barline repeat_start (not (is "]" (first s)))) 2
unfolding everything
repeat_start_meets s = refl

-- `||`
pub double_meets : (s : List ℕ) → barline_of (ascii "||" ++ s) ≡ taken (barline double (not (is "]" (first s)))) 2
unfolding everything
double_meets s = refl

-- `|]`
pub final_meets : (s : List ℕ) → barline_of (ascii "|]" ++ s) ≡ taken (barline final (not (is "]" (first s)))) 2
unfolding everything
final_meets s = refl

-- `:|`
pub repeat_end_meets : (s : List ℕ) → barline_of (ascii ":|" ++ s) ≡ taken (barline repeat_end (not (is "]" (first s)))) 2
unfolding everything
repeat_end_meets s = refl

-- `::`
pub repeat_both_meets : (s : List ℕ) → barline_of (ascii "::" ++ s) ≡ taken (barline repeat_both (not (is "]" (first s)))) 2
unfolding everything
repeat_both_meets s = refl

-- a single bar, before what does not make it a longer symbol
pub bar_meets : (s : List ℕ) → is ":" (first s) ≡ false → is "|" (first s) ≡ false → is "]" (first s) ≡ false → barline_of (ascii "|" ++ s) ≡ taken (barline normal true) 1
unfolding everything
bar_meets [] a b d = refl
bar_meets (c ∷ s) a b d =
    let x : eqb 58 c ≡ false = eqb_sym 58 c ∙ a in
    let y : eqb 124 c ≡ false = eqb_sym 124 c ∙ b in
    let z : eqb 93 c ≡ false = eqb_sym 93 c ∙ d in
    rw (x, symbol_at) (rw (y, symbol_at) (rw (z, symbol_at) (rw d)))

-- TUPLETS
-- the usual normals
pub normal_meets : (ed : Edition) (p q : ℕ) → usual_normal p ≡ some q → normal_for ed p ≡ q
unfolding normal_for or_one_less usual_normal default_normal
normal_meets First p q h = rw h
normal_meets Second p q h =
    by_test (eqb p 2) (λ e. at 2 (eqb-true p 2 e) (λ k. cc))
    (λ a. by_test (eqb p 4) (λ e. at 4 (eqb-true p 4 e) (λ k. cc))
    (λ b. by_test (eqb p 3) (λ e. at 3 (eqb-true p 3 e) (λ k. cc)) (λ c. absurd (some≢none q (sym (rw (a, b, c, usual_normal) at h))))))
  where
    at : (n : ℕ) → p ≡ n → (usual_normal n ≡ some q → normal_for Second n ≡ q) → normal_for Second p ≡ q
    at n e f = subst (λ (x : ℕ). usual_normal x ≡ some q → normal_for Second x ≡ q) (sym e) f h

-- a number of digits before what is no digit
pub positive_meets : (top : ℕ) (d t : List ℕ) → 0 < length d → all is_digit d ≡ true → 1 ≤ decimal 0 d → decimal 0 d ≤ top → count_while is_digit t ≡ 0 → positive top (d ++ t) ≡ some (decimal 0 d)
unfolding positive not_zero
positive_meets top d t n a low high s =
    rw (count_while_front is_digit d t a s, take-append_seam d t, digits_some top d n a high, ne_eqb (decimal 0 d) 0 (λ e. absurd (omega (arith, e, low))))

-- the same as a part behind its `:`, which is not empty
pub part_meets : (ed : Edition) (default top : ℕ) (d t : List ℕ) → 0 < length d → all is_digit d ≡ true → 1 ≤ decimal 0 d → decimal 0 d ≤ top → count_while is_digit t ≡ 0
    → part_or ed default top (d ++ t) ≡ some (decimal 0 d)
unfolding part_or
part_meets First default top d t n a low high s = positive_meets top d t n a low high s
part_meets Second default top [] t n a low high s = absurd (omega arith)
part_meets Second default top (c ∷ d) t n a low high s = rw (and_left (is_digit c) (all is_digit d) a, part_or) (positive_meets top (c ∷ d) t n a low high s)

-- `(p:q:r` in digits, with what is no digit behind it: p notes in the time of q for the next r
pub tuplet_meets : (ed : Edition) (a b c s : List ℕ) → 0 < length a → 0 < length b → 0 < length c → all is_digit a ≡ true → all is_digit b ≡ true → all is_digit c ≡ true
    → 2 ≤ decimal 0 a → decimal 0 a ≤ 255 → 1 ≤ decimal 0 b → decimal 0 b ≤ 255 → 1 ≤ decimal 0 c → decimal 0 c ≤ 2 ^ 64 - 1 → count_while is_digit s ≡ 0
    → tuplet_of ed (a ++ (58 ∷ (b ++ (58 ∷ (c ++ s))))) ≡ some (taken (tuplet (record { actual = decimal 0 a; normal = decimal 0 b; count = decimal 0 c })) (1 + length a + 1 + length b + 1 + length c))
unfolding tuplet_of with_actual with_normal with_count counted
tuplet_meets ed a b c s na nb nc da db dc lp hp lq hq lr hr z =
    let t : List ℕ = 58 ∷ (b ++ (58 ∷ (c ++ s))) in
    let u : List ℕ = 58 ∷ (c ++ s) in
    let k : 1 + length b ≡ suc (length b) = omega arith in
    rw (positive_meets 255 a t na da (omega arith) hp refl, count_while_front is_digit a t da refl, drop_at a t (length a) refl)
    (rw (le-ltb (decimal 0 a) 2 lp, with_actual)
    (rw (part_meets ed (normal_for ed (decimal 0 a)) 255 b u nb db lq hq refl, count_while_front is_digit b u db refl, k, drop_at b u (length b) refl)
    (rw (part_meets ed (decimal 0 a) (2 ^ 64 - 1) c s nc dc lr hr z, count_while_front is_digit c s dc z))))

-- PASS LISTS
-- a number of one or two digits, from 1 to 32, that does not begin with 0
pass_meets : (d : List ℕ) → 0 < length d → all is_digit d ≡ true → is "0" (first d) ≡ false → decimal 0 d ≤ 32 → pass_number d ≡ some (decimal 0 d)
unfolding pass_number
pass_meets d n a z h = rw z (digits_some 32 d n a h)

-- one pass
pub single_meets : (d : List ℕ) → 0 < length d → all is_digit d ≡ true → is "0" (first d) ≡ false → 1 ≤ decimal 0 d → decimal 0 d ≤ 32
    → pass_list 0 (d ∷ []) ≡ some (passes_of (pass (decimal 0 d)))
unfolding pass_list item_of single in_turn passes_of
single_meets d n a z low high = rw (pieces_digits 45 refl d a, pass_meets d n a z high, lt-ltb 0 (decimal 0 d) low)

-- the passes from one to a later one
pub range_meets : (d e : List ℕ) → 0 < length d → 0 < length e → all is_digit d ≡ true → all is_digit e ≡ true → is "0" (first d) ≡ false → is "0" (first e) ≡ false
    → 1 ≤ decimal 0 d → decimal 0 d < decimal 0 e → decimal 0 e ≤ 32
    → pass_list 0 ((d ++ (45 ∷ e)) ∷ []) ≡ some (passes_of (passes (decimal 0 d) (decimal 0 e)))
unfolding pass_list item_of range in_turn
range_meets d e nd ne ad ae zd ze low less high =
    rw (pieces_two 45 refl d e ad, pieces_digits 45 refl e ae, pass_meets d nd ad zd (omega arith), pass_meets e ne ae ze high, lt-ltb 0 (decimal 0 d) low, lt-ltb (decimal 0 d) (decimal 0 e) less)
    (ap some (append-nil (passes_of (passes (decimal 0 d) (decimal 0 e)))))

-- a digit is a pass byte
digit_pass : (d : List ℕ) → all is_digit d ≡ true → all is_pass_byte d ≡ true
digit_pass [] a = refl
digit_pass (c ∷ d) a = rw (and_left (is_digit c) (all is_digit d) a) (digit_pass d (and_right (is_digit c) (all is_digit d) a))

-- in a music line: `[` and a number, before what is no pass byte
pub ending_meets : (d s : List ℕ) → 0 < length d → all is_digit d ≡ true → is "0" (first d) ≡ false → 1 ≤ decimal 0 d → decimal 0 d ≤ 32 → count_while is_pass_byte s ≡ 0
    → volta_of (d ++ s) ≡ taken (volta (passes_of (pass (decimal 0 d)))) (suc (length d))
unfolding volta_of volta_as
ending_meets d s n a z low high r =
    rw (count_while_front is_pass_byte d s (digit_pass d a) r, take-append_seam d s, pieces_digits 44 refl d a, still_read (d ∷ []) _ (single_meets d n a z low high))

-- so are two numbers and a hyphen
range_bytes : (d e : List ℕ) → all is_digit d ≡ true → all is_digit e ≡ true → all is_pass_byte (d ++ (45 ∷ e)) ≡ true
range_bytes [] e a b = digit_pass e b
range_bytes (c ∷ d) e a b = rw (and_left (is_digit c) (all is_digit d) a) (range_bytes d e (and_right (is_digit c) (all is_digit d) a) b)

-- and they are one piece
range_piece : (d e : List ℕ) → all is_digit d ≡ true → all is_digit e ≡ true → pieces (separator (is ",")) 0 (d ++ (45 ∷ e)) ≡ (d ++ (45 ∷ e)) ∷ []
unfolding pieces
range_piece [] e a b = rw (pieces_digits 44 refl e b)
range_piece (c ∷ d) e a b = rw (digit_not c 44 (and_left (is_digit c) (all is_digit d) a) refl, pieces) (rw (range_piece d e (and_right (is_digit c) (all is_digit d) a) b))

-- `[` and two numbers around a hyphen
pub endings_meet : (d e s : List ℕ) → 0 < length d → 0 < length e → all is_digit d ≡ true → all is_digit e ≡ true → is "0" (first d) ≡ false → is "0" (first e) ≡ false
    → 1 ≤ decimal 0 d → decimal 0 d < decimal 0 e → decimal 0 e ≤ 32 → count_while is_pass_byte s ≡ 0
    → volta_of ((d ++ (45 ∷ e)) ++ s) ≡ taken (volta (passes_of (passes (decimal 0 d) (decimal 0 e)))) (suc (length (d ++ (45 ∷ e))))
unfolding volta_of volta_as
endings_meet d e s nd ne ad ae zd ze low less high r =
    let t : List ℕ = d ++ (45 ∷ e) in
    rw (count_while_front is_pass_byte t s (range_bytes d e ad ae) r, take-append_seam t s, range_piece d e ad ae, still_read (t ∷ []) _ (range_meets d e nd ne ad ae zd ze low less high))

-- BROKEN RHYTHM: two notes of equal length without dots keep their sum, where neither dots nor halving come to their end
sums : ℕ → ℕ → Bool
sums v n = ltb 9 (v + n) || eqb (ticks (dotted n (written v 0)) + ticks (halved n (written v 0))) (2 * ticks (written v 0))

-- computed at each value and each number of dots
sums_all : all_below 10 (λ v. all_below 4 (sums v)) ≡ true
unfolding sums ticks dotted halved
sums_all = refl

-- the dotted note and the halved one are as long as the two were
pub broken_sum : (v n : ℕ) → n ≤ 3 → v + n ≤ 9 → ticks (dotted n (written v 0)) + ticks (halved n (written v 0)) ≡ 2 * ticks (written v 0)
unfolding sums
broken_sum v n h l =
    let t = below₂ 10 4 sums sums_all v n (omega arith) (omega arith) in
    eqb-true _ _ (rw (le-ltb 9 (v + n) l) at t)

-- the same in values and dots
pub broken_ticks : (v n : ℕ) → n ≤ 3 → v + n ≤ 9 → ticks (written v n) + ticks (written (v + n) 0) ≡ 2 * ticks (written v 0)
unfolding dotted halved
broken_ticks v n h l =
    let d : min 3 (0 + n) ≡ n = omega arith in
    let k : min 9 (v + n) ≡ v + n = omega arith in
    rw (d, k) at (broken_sum v n h l)

-- KEYS: the letters in the order in which sharps come, and in that of flats
abbrev pub sharp_order : List ℕ
sharp_order = map step_of (ascii "FCGDAEB")

-- that of flats
abbrev pub flat_order : List ℕ
flat_order = map step_of (ascii "BEADGCF")

-- computed at each number of sharps
sharps_all : (m : Bool) → all_below 8 (λ f. eq_text (map (key_alter (record { fifths = 128 + f; minor = m })) sharp_order) (replicate f 129 ++ replicate (7 - f) 128)) ≡ true
unfolding everything
sharps_all m = refl

-- computed at each number of flats
flats_all : (m : Bool) → all_below 8 (λ f. eq_text (map (key_alter (record { fifths = 128 - f; minor = m })) flat_order) (replicate f 127 ++ replicate (7 - f) 128)) ≡ true
unfolding everything
flats_all m = refl

-- f sharps raise exactly the first f of F C G D A E B
pub sharps_meet : (f : ℕ) (m : Bool) → f ≤ 7 → map (key_alter (record { fifths = 128 + f; minor = m })) sharp_order ≡ replicate f 129 ++ replicate (7 - f) 128
sharps_meet f m h = eq_text_true _ _ (below 8 (λ f. eq_text (map (key_alter (record { fifths = 128 + f; minor = m })) sharp_order) (replicate f 129 ++ replicate (7 - f) 128)) (sharps_all m) f (omega arith))

-- f flats lower exactly the first f of B E A D G C F
pub flats_meet : (f : ℕ) (m : Bool) → f ≤ 7 → map (key_alter (record { fifths = 128 - f; minor = m })) flat_order ≡ replicate f 127 ++ replicate (7 - f) 128
flats_meet f m h = eq_text_true _ _ (below 8 (λ f. eq_text (map (key_alter (record { fifths = 128 - f; minor = m })) flat_order) (replicate f 127 ++ replicate (7 - f) 128)) (flats_all m) f (omega arith))

-- BEAMS: a run of notes that can be beamed, each put behind the others as `append` does
-- a voice, the last note first, and the length of its run
abbrev Beaming : Type 0
Beaming = ℕ × List Note

-- one note more
abbrev pub beam_on : Beaming → Note → Beaming
beam_on r n = (run_after r.0 n, beamed r.0 n r.1)

-- what the beams of n notes are, the last one first
unfoldable last_first : ℕ → List Beam
last_first zero = []
last_first (suc zero) = Notes.unbeamed ∷ []
last_first (suc (suc n)) = Notes.ends ∷ (replicate n Notes.continues ++ (Notes.begins ∷ []))

-- a note that can be beamed and has no beam yet
abbrev pub New : Note → Type 0
New n = (can_beam n ≡ true) × (n.beam ≡ Notes.unbeamed)

-- the beams of the notes
abbrev beams_of : List Note → List Beam
beams_of ns = map (λ (n : Note). n.beam) ns

-- one note more
next_beam : (r : ℕ) (ns : List Note) (x : Note) → New x → beams_of ns ≡ last_first r → beams_of (beamed r x ns) ≡ last_first (suc r)
unfolding beamed last_first
next_beam zero [] x h e = ap (λ (b : Beam). b ∷ []) h.1
next_beam zero (n ∷ ns) x h e = absurd (nil≢cons (sym e))
next_beam (suc zero) [] x h e = absurd (nil≢cons e)
next_beam (suc (suc r)) [] x h e = absurd (nil≢cons e)
next_beam (suc zero) (n ∷ ns) x h e = rw (h.0, beamed) (ap (λ (t : List Beam). Notes.ends ∷ (Notes.begins ∷ t)) (tail-eq_of_cons-eq e))
next_beam (suc (suc r)) (n ∷ ns) x h e =
    rw (h.0, beamed) (rw (ne_eqb (suc r) 0 (λ z. absurd (omega (arith, z)))) (ap (λ (t : List Beam). Notes.ends ∷ (Notes.continues ∷ t)) (tail-eq_of_cons-eq e)))

-- the run is one longer
next_run : (r : ℕ) (x : Note) → New x → run_after r x ≡ suc r
unfolding run_after
next_run r x h = rw h.0

-- the notes of a run, after r of them
run_beams : (xs : List Note) → All New xs → (r : ℕ) (ns : List Note) → beams_of ns ≡ last_first r → beams_of (foldl beam_on (r, ns) xs).1 ≡ last_first (r + length xs)
run_beams [] h r ns e = rw (add-zero r) e
run_beams (x ∷ xs) h r ns e =
    let k : suc r + length xs ≡ r + suc (length xs) = omega arith in
    ap (λ (i : ℕ). beams_of (foldl beam_on (i, beamed r x ns) xs).1) (next_run r x h.0) ∙ run_beams xs h.1 (suc r) (beamed r x ns) (next_beam r ns x h.0 e)
    ∙ ap last_first k

-- turned around they are the standard's
standard_beams : (n : ℕ) → beams (suc (suc n)) ≡ Notes.begins ∷ (replicate n Notes.continues ++ (Notes.ends ∷ []))
unfolding beams
standard_beams zero = refl
standard_beams (suc n) = ap (λ (t : List Beam). Notes.begins ∷ (Notes.continues ∷ t)) (tail-eq_of_cons-eq (standard_beams n))

-- a list of equals is the same from behind
back_same : (n : ℕ) (c a : Beam) (t : List Beam) → reverse_aux (replicate n c ++ (a ∷ [])) t ≡ a ∷ (replicate n c ++ t)
back_same zero c a t = refl
back_same (suc n) c a t = back_same n c a (c ∷ t) ∙ ap (λ (l : List Beam). a ∷ l) (one_over n c t)
  where
    one_over : (n : ℕ) (c : Beam) (t : List Beam) → replicate n c ++ (c ∷ t) ≡ c ∷ (replicate n c ++ t)
    one_over zero c t = refl
    one_over (suc n) c t = ap (λ (l : List Beam). c ∷ l) (one_over n c t)

back_beams : (n : ℕ) → reverse (last_first n) ≡ beams n
unfolding last_first beams
back_beams zero = refl
back_beams (suc zero) = refl
back_beams (suc (suc n)) = back_same n Notes.continues Notes.begins (Notes.ends ∷ []) ∙ sym (standard_beams n)

map_back : (ns ms : List Note) → beams_of (reverse_aux ns ms) ≡ reverse_aux (beams_of ns) (beams_of ms)
map_back [] ms = refl
map_back (n ∷ ns) ms = map_back ns (n ∷ ms)

-- n new notes that can be beamed, one after the other, have the standard's beams of n
pub beams_meet : (xs : List Note) → All New xs → beams_of (reverse (foldl beam_on (0, []) xs).1) ≡ beams (length xs)
unfolding last_first
beams_meet xs h =
    let z : 0 + length xs ≡ length xs = omega arith in
    map_back (foldl beam_on (0, []) xs).1 [] ∙ ap reverse (run_beams xs h 0 [] refl ∙ ap last_first z) ∙ back_beams (length xs)

-- FIELDS
-- an L field `1/d` in digits below 2^32
pub unit_meets : (d : List ℕ) → 0 < length d → all is_digit d ≡ true → decimal 0 d < 2 ^ 32 → unit_of (ascii "1/" ++ d) ≡ some (decimal 0 d)
unfolding unit_of unit_text unit_number line_unit or_eight after
unit_meets d n a h =
    rw (solid_trimmed (49 ∷ 47 ∷ d) (digits_solid d a))
    (rw (before_all 47 refl d a, numeral_some (2 ^ 32 - 1) d n a (omega arith)))

pub unit_inline_meets : (d : List ℕ) → 0 < length d → all is_digit d ≡ true → decimal 0 d < 2 ^ 32 → unit_inline (ascii "1/" ++ d) ≡ some (decimal 0 d)
unfolding unit_inline unit_text unit_number inline_unit after
unit_inline_meets d n a h =
    rw (solid_trimmed (49 ∷ 47 ∷ d) (digits_solid d a))
    (rw (before_all 47 refl d a, numeral_some (2 ^ 32 - 1) d n a (omega arith)))

-- an M field `n/d` in digits up to 255
number_meets : (d : List ℕ) → 0 < length d → all is_digit d ≡ true → decimal 0 d ≤ 255 → meter_number d ≡ decimal 0 d
unfolding meter_number or_four
number_meets d n a h = rw (solid_trimmed d (digits_solid d a), numeral_some 255 d n a h)

solid_both : (d e : List ℕ) → all is_digit d ≡ true → all is_digit e ≡ true → all (λ c. not (is_space c)) (d ++ (47 ∷ e)) ≡ true
solid_both [] e a b = digits_solid e b
solid_both (c ∷ d) e a b = rw (digit_solid c (and_left (is_digit c) (all is_digit d) a)) (solid_both d e (and_right (is_digit c) (all is_digit d) a) b)

-- a text that begins with a digit has no name
not_named : (c : ℕ) (s : List ℕ) → is_digit c ≡ true → (named_meter (c ∷ s) ≡ none) × (eq_text (c ∷ s) (ascii "c|") ≡ false)
unfolding named_meter
not_named c s d =
    (rw (digit_not c 67 d refl, named_meter) (rw (digit_not c 67 d refl)), rw (digit_not c 99 d refl))

pub meter_meets : (d e : List ℕ) → 0 < length d → 0 < length e → all is_digit d ≡ true → all is_digit e ≡ true → decimal 0 d ≤ 255 → decimal 0 e ≤ 255
    → meter_of (d ++ (47 ∷ e)) ≡ (decimal 0 d, decimal 0 e)
unfolding meter_of meter_text meter_or meter_bottom
meter_meets [] e nd ne ad ae hd he = absurd (not-suc-le-zero nd)
meter_meets (c ∷ d) e nd ne ad ae hd he =
    let x = not_named c (d ++ (47 ∷ e)) (and_left (is_digit c) (all is_digit d) ad) in
    rw (solid_trimmed ((c ∷ d) ++ (47 ∷ e)) (solid_both (c ∷ d) e ad ae))
    (rw x.0
    (rw (x.1, meter_or)
    (rw (before_digits 47 refl (c ∷ d) e ad, after_digits 47 refl (c ∷ d) e ad)
    (rw (number_meets (c ∷ d) nd ad hd, number_meets e ne ae he)))))
