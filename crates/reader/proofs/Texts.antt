-- WHAT IS WRITTEN AS THE STANDARD SAYS IS READ AS IT SAYS: the laws for `Texts` of crate standard, in the ranges that each one names.
use Prim.Native.Nat.{ℕ, suc, ◌+◌, ◌-◌, ◌^◌, ◌≤◌, ◌<◌}
use mathlib.Core.Path.{◌≡◌, refl, sym, ap, ◌∙◌}
use mathlib.Core.Bool.{Bool, true, false, not, ◌&&◌, ◌||◌}
use mathlib.Core.Option.{Option, none, some}
use mathlib.Core.List.{List, [], ◌∷◌, ◌++◌, append_assoc}
use native.Mathlib.Nat.{not-suc-le-zero}
use native.Mathlib.Omega.{arith}
use lib.Dec.{eqb, leb}
use lib.ListN.{length, length-append, get_or}
use borrow.Author.Tests.{eqb-true}
use Rattle.laws.specs.Lists.{All, all, count_while, eq_text, filter, is_nil}
use Rattle.laws.proofs.Bools.{by_test, and_left, and_right, and_both, and_no_right, or_no_left, or_no_right, not_true}
use Rattle.standard.specs.Bytes.{is, is_digit, is_capital, first, last}
use Rattle.standard.specs.Tuplets.{Tuplet, default_normal, normal_in}
use Rattle.standard.specs.Notes as notes
use Rattle.standard.specs.Notes.{NoteKind}
use Rattle.standard.specs.Lyrics as lyric_words_lem
use Rattle.standard.specs.Lyrics.{Word, skip, hold, syllable, syllable_text, syllables, syllabic_of}
use Rattle.standard.specs.Texts.{Number, is_field_line, MeterText, common, cut, over, UnitText, one_over, LengthText, times, half, times_half, times_part, HalvedText, halved, times_halved, rest_of, TupletText, actual, actual_normal, actual_normal_count, ChordText, WordText, hyphened, Piece, star, held, plain, divided, VoiceText, alone, then}
use Rattle.standard.specs.Texts as texts
use Rattle.editions.specs.declared.Edition.{Edition}
use Rattle.editions.specs.declared.Edition.TheVariants.{Second}
use Rattle.reader.specs.Pieces.{words, separator}
use Rattle.reader.specs.Fields.{meter_of, unit_of, unit_inline, identifier}
use Rattle.reader.specs.Lengths.{Length, length_of}
use Rattle.reader.specs.Pitches.{chord_of}
use Rattle.reader.specs.Token.{Taken, taken, tuplet}
use Rattle.reader.specs.Tuplets.{or_one_less, normal_for, tuplet_of}
use Rattle.reader.specs.Sounds.{chord_taken, chord_at, rest_as}
use Rattle.reader.specs.Tokens.{token_of}
use Rattle.reader.specs.Lines.{is_field}
use Rattle.reader.specs.Lyrics.{word_of, or_skip}
use Rattle.reader.specs.State.{PartState}
use Rattle.reader.specs.Part.{in_meter, on_token}
use Rattle.reader.specs.All.{all as everything}
use Rattle.reader.proofs.Digits.{digit_not}
use Rattle.reader.proofs.Standard.{meter_meets, unit_meets, unit_inline_meets, normal_meets, tuplet_meets}
use Rattle.reader.proofs.MoreStandard.{numerator_of, denominator_of, length_meets, length_over_meets, length_halved_meets, tuplet_p_meets, tuplet_pq_meets, word_meets, pieces_one, pieces_first, identifier_meets, identifier_alone}
use Rattle.reader.proofs.InLine.{chord_meets}

-- FIELDS (3.0)
pub field_meets : (l : List ℕ) → is_field l ≡ is_field_line l
unfolding is_field_line
field_meets [] = refl
field_meets (a ∷ []) = sym (and_no_right (is_capital a || (leb 97 a && leb a 122)) false refl)
field_meets (a ∷ (b ∷ r)) = refl

-- METERS (3.1.6), with numbers of 8 bits
pub meter_text_meets : (s : List ℕ) (n m : ℕ) → MeterText s n m → n ≤ 255 → m ≤ 255 → meter_of s ≡ (n, m)
unfolding everything
meter_text_meets s n m (common e) h k = ap meter_of e
meter_text_meets s n m (cut e) h k = ap meter_of e
meter_text_meets s n m (over d e q x y) h k =
    ap meter_of q ∙ meter_meets d e x.some_digit y.some_digit x.all_digits y.all_digits (omega (arith, h, x.says)) (omega (arith, k, y.says))
    ∙ (λ i. (x.says i, y.says i))

-- UNIT LENGTHS (3.1.7) below 2^32, on a line and inline
pub unit_text_meets : (s : List ℕ) (n : ℕ) → UnitText s n → n < 2 ^ 32 → (unit_of s ≡ some n) × (unit_inline s ≡ some n)
unit_text_meets s n (one_over d q x) h = (
  ap unit_of q ∙ unit_meets d x.some_digit x.all_digits (omega (arith, h, x.says)) ∙ ap some x.says,
  ap unit_inline q ∙ unit_inline_meets d x.some_digit x.all_digits (omega (arith, h, x.says)) ∙ ap some x.says,
)

-- NOTE LENGTHS (4.3) below 2^32, before what is no digit and no slash
numerator_is : (d : List ℕ) (n : ℕ) → Number d n → numerator_of d ≡ n
numerator_is [] n x = absurd (not-suc-le-zero x.some_digit)
numerator_is (c ∷ d) n x = x.says

denominator_is : (d : List ℕ) (n : ℕ) → Number d n → denominator_of d ≡ n
denominator_is [] n x = absurd (not-suc-le-zero x.some_digit)
denominator_is (c ∷ d) n x = x.says

abbrev length_as : ℕ → ℕ → ℕ → Length
length_as n m k = record { num = n; den = m; used = k }

-- with a slash: n is what d says, m what e says
slashed : (ed : Edition) (d e s t : List ℕ) (n m : ℕ) → t ≡ d ++ (47 ∷ e) → all is_digit d ≡ true → all is_digit e ≡ true → numerator_of d ≡ n → denominator_of e ≡ m → n < 2 ^ 32 → m < 2 ^ 32 → count_while is_digit s ≡ 0
    → is "/" (first (e ++ s)) ≡ false → length_of ed (t ++ s) ≡ length_as n m (length t)
slashed ed d e s t n m q a b x y h k z w =
    let c : length d + 1 + length e ≡ length (d ++ (47 ∷ e)) = sym (length-append d (47 ∷ e) ∙ (let w : length d + suc (length e) ≡ length d + 1 + length e = omega arith in w)) in
    ap (λ (l : List ℕ). length_of ed (l ++ s)) q
    ∙ ap (length_of ed) (append_assoc d (47 ∷ e) s)
    ∙ length_over_meets ed d e s a b (omega (arith, h, x)) (omega (arith, k, y)) z w
    ∙ (λ i. length_as (x i) (y i) (c i))
    ∙ ap (λ (l : List ℕ). length_as n m (length l)) (sym q)

-- no slash begins a number
number_first : (e s : List ℕ) (m : ℕ) → Number e m → is "/" (first (e ++ s)) ≡ false
number_first [] s m y = absurd (not-suc-le-zero y.some_digit)
number_first (c ∷ e) s m y = digit_not c 47 (and_left (is_digit c) (all is_digit e) y.all_digits) refl

pub length_text_meets : (ed : Edition) (t s : List ℕ) (n m : ℕ) → LengthText t n m → n < 2 ^ 32 → m < 2 ^ 32 → count_while is_digit s ≡ 0 → is "/" (first s) ≡ false → length_of ed (t ++ s) ≡ length_as n m (length t)
length_text_meets ed t s n m (texts.unit q) h k z w = ap (λ (l : List ℕ). length_of ed (l ++ s)) q ∙ length_meets ed [] s refl (omega arith) z w ∙ ap (λ (l : List ℕ). length_as 1 1 (length l)) (sym q)
length_text_meets ed t s n m (times x) h k z w =
    length_meets ed t s x.all_digits (omega (arith, h, numerator_is t n x)) z w ∙ ap (λ (i : ℕ). length_as i 1 (length t)) (numerator_is t n x)
length_text_meets ed t s n m (half q) h k z w = slashed ed [] [] s t 1 2 q refl refl refl refl h k z w
length_text_meets ed t s n m (texts.part e q y) h k z w = slashed ed [] e s t 1 m q refl y.all_digits refl (denominator_is e m y) h k z (number_first e s m y)
length_text_meets ed t s n m (times_half d q x) h k z w = slashed ed d [] s t n 2 q x.all_digits refl (numerator_is d n x) refl h k z w
length_text_meets ed t s n m (times_part d e q x y) h k z w = slashed ed d e s t n m q x.all_digits y.all_digits (numerator_is d n x) (denominator_is e m y) h k z (number_first e s m y)

-- SLASHES ALONE (4.3), two or more, in the second edition: before what is no slash
halves : (d e s t : List ℕ) (n : ℕ) → t ≡ d ++ e → all is_digit d ≡ true → numerator_of d ≡ n → all (is "/") e ≡ true → 2 ≤ length e → n < 2 ^ 32 → count_while (is "/") s ≡ 0
    → length_of Second (t ++ s) ≡ length_as n (2 ^ length e) (length t)
halves d e s t n q a x b k h z =
    ap (λ (l : List ℕ). length_of Second (l ++ s)) q
    ∙ ap (length_of Second) (append_assoc d e s)
    ∙ length_halved_meets d e s a b k (omega (arith, h, x)) z
    ∙ (λ i. length_as (x i) (2 ^ length e) (sym (length-append d e) i))
    ∙ ap (λ (l : List ℕ). length_as n (2 ^ length e) (length l)) (sym q)

pub halved_text_meets : (t s : List ℕ) (n m : ℕ) → HalvedText t n m → n < 2 ^ 32 → count_while (is "/") s ≡ 0 → length_of Second (t ++ s) ≡ length_as n m (length t)
halved_text_meets t s n m (halved b k) h z = halves [] t s t 1 refl refl refl b k h z
halved_text_meets t s n m (times_halved d e q x b k) h z = halves d e s t n q x.all_digits (numerator_is d n x) b k h z

-- RESTS (4.5), each with the length behind it
at_z : (ed : Edition) (s : List ℕ) → token_of ed (122 ∷ s) ≡ rest_as ed notes.rest s
unfolding everything
at_z ed s = refl

at_x : (ed : Edition) (s : List ℕ) → token_of ed (120 ∷ s) ≡ rest_as ed notes.invisible_rest s
unfolding everything
at_x ed s = refl

at_Z : (ed : Edition) (s : List ℕ) → token_of ed (90 ∷ s) ≡ rest_as ed notes.bar_rest s
unfolding everything
at_Z ed s = refl

at_X : (ed : Edition) (s : List ℕ) → token_of ed (88 ∷ s) ≡ rest_as ed notes.invisible_bar_rest s
unfolding everything
at_X ed s = refl

pub rest_meets : (ed : Edition) (c : ℕ) (s : List ℕ) (k : NoteKind) → rest_of c ≡ some k → token_of ed (c ∷ s) ≡ rest_as ed k s
unfolding rest_of
rest_meets ed c s k h =
    by_test (is "z" c) (λ e. this 122 (eqb-true c 122 e) notes.rest refl (at_z ed s))
    (λ e. by_test (is "x" c) (λ f. this 120 (eqb-true c 120 f) notes.invisible_rest refl (at_x ed s))
    (λ f. by_test (is "Z" c) (λ g. this 90 (eqb-true c 90 g) notes.bar_rest refl (at_Z ed s))
    (λ g. by_test (is "X" c) (λ i. this 88 (eqb-true c 88 i) notes.invisible_bar_rest refl (at_X ed s))
    (λ i. absurd (no_kind (rw (e, f, g, i, rest_of) at h))))))
  where
    kind_of_lem : Option NoteKind → NoteKind
    kind_of_lem none = notes.sounded
    kind_of_lem (some x) = x

    no_kind : none ≡ some k → ⊥
    no_kind e = let z : ◌≡◌ {A = ℕ} 0 1 = cc in omega (arith, z)

    this : (b : ℕ) → c ≡ b → (j : NoteKind) → rest_of b ≡ some j → token_of ed (b ∷ s) ≡ rest_as ed j s → token_of ed (c ∷ s) ≡ rest_as ed k s
    this b e j r q = ap (λ (x : ℕ). token_of ed (x ∷ s)) e ∙ q ∙ ap (λ (x : NoteKind). rest_as ed x s) (ap kind_of_lem (sym r ∙ ap rest_of (sym e) ∙ h))

-- TUPLETS (4.13): 2 to 255 in the time of 1 to 255, for 1 to 2^64 - 1 notes, before what is no digit and no colon
abbrev tuplet_as : ℕ → ℕ → ℕ → ℕ → Option Taken
tuplet_as a b c k = some (taken (tuplet (record { actual = a; normal = b; count = c })) (1 + k))

pub tuplet_text_meets : (ed : Edition) (t s : List ℕ) (a b c : ℕ) → TupletText t a b c → 2 ≤ a → a ≤ 255 → 1 ≤ b → b ≤ 255 → 1 ≤ c → c ≤ 2 ^ 64 - 1 → count_while is_digit s ≡ 0 → is ":" (first s) ≡ false
    → tuplet_of ed (t ++ s) ≡ tuplet_as a b c (length t)
tuplet_text_meets ed t s a b c (actual x u) la ha lb hb lc hc z w =
    tuplet_p_meets ed t s x.some_digit x.all_digits (omega (arith, la, x.says)) (omega (arith, ha, x.says)) z w
    ∙ (λ i. tuplet_as (x.says i) (normal_for ed (x.says i)) (x.says i) (length t))
    ∙ ap (λ (k : ℕ). tuplet_as a k a (length t)) (normal_meets ed a b u)
tuplet_text_meets ed t s a b c (actual_normal d e q x y) la ha lb hb lc hc z w =
    let k : length d + 1 + length e ≡ length t = sym (ap length q ∙ length-append d (58 ∷ e) ∙ (let v : length d + suc (length e) ≡ length d + 1 + length e = omega arith in v)) in
    let j : 1 + length d + 1 + length e ≡ 1 + length t = omega (arith, k) in
    ap (λ (l : List ℕ). tuplet_of ed (l ++ s)) q
    ∙ ap (tuplet_of ed) (append_assoc d (58 ∷ e) s)
    ∙ tuplet_pq_meets ed d e s x.some_digit y.some_digit x.all_digits y.all_digits (omega (arith, la, x.says)) (omega (arith, ha, x.says)) (omega (arith, lb, y.says)) (omega (arith, hb, y.says)) z w
    ∙ (λ i. some (taken (tuplet (record { actual = x.says i; normal = y.says i; count = x.says i })) (j i)))
tuplet_text_meets ed t s a b c (actual_normal_count d e f q x y v) la ha lb hb lc hc z w =
    let g : (d ++ (58 ∷ (e ++ (58 ∷ f)))) ++ s ≡ d ++ (58 ∷ (e ++ (58 ∷ (f ++ s)))) = append_assoc d (58 ∷ (e ++ (58 ∷ f))) s ∙ ap (λ (l : List ℕ). d ++ (58 ∷ l)) (append_assoc e (58 ∷ f) s) in
    let k : length (d ++ (58 ∷ (e ++ (58 ∷ f)))) ≡ length d + suc (length (e ++ (58 ∷ f))) = length-append d (58 ∷ (e ++ (58 ∷ f))) in
    let m : length (e ++ (58 ∷ f)) ≡ length e + suc (length f) = length-append e (58 ∷ f) in
    let n : 1 + length d + 1 + length e + 1 + length f ≡ 1 + length t = omega (arith, k, m, ap length q) in
    ap (λ (l : List ℕ). tuplet_of ed (l ++ s)) q
    ∙ ap (tuplet_of ed) g
    ∙ tuplet_meets ed d e f s x.some_digit y.some_digit v.some_digit x.all_digits y.all_digits v.all_digits (omega (arith, la, x.says)) (omega (arith, ha, x.says)) (omega (arith, lb, y.says)) (omega (arith, hb, y.says)) (omega (arith, lc, v.says)) (omega (arith, hc, v.says)) z
    ∙ (λ i. some (taken (tuplet (record { actual = x.says i; normal = y.says i; count = v.says i })) (n i)))

-- the second edition: `(p` with no q, for p from 2 to 9, starts p notes in the time of the standard's default, under the meter in force in whatever part
pub default_text_meets : (t s : List ℕ) (p q : ℕ) → Number t p → 2 ≤ p → p ≤ 9 → default_normal p ≡ some q → count_while is_digit s ≡ 0 → is ":" (first s) ≡ false
    → (x : Tuplet) × ((tuplet_of Second (t ++ s) ≡ some (taken (tuplet x) (1 + length t)))
    × ((l : PartState) → (on_token l (tuplet x)).line.tuplet ≡ some (record { tuplet = record { actual = p; normal = normal_in l.line.meter q; count = p }; remaining = p })))
unfolding normal_for or_one_less on_token in_meter
default_text_meets t s p q x low high d z w = (
  record { actual = p; normal = q; count = p },
  (
    tuplet_p_meets Second t s x.some_digit x.all_digits (omega (arith, low, x.says)) (omega (arith, high, x.says)) z w
        ∙ (λ i. tuplet_as (x.says i) (normal_for Second (x.says i)) (x.says i) (length t))
        ∙ ap (λ (k : ℕ). tuplet_as p k p (length t)) (let e : normal_for Second p ≡ q = rw d in e),
    λ l. refl,
  ),
)

-- CHORDS (4.17): one note with the length behind the `]`
pub chord_text_meets : (ed : Edition) (s inside behind : List ℕ) → ChordText s inside behind → chord_at ed s ≡ chord_taken ed (2 + length inside) behind (chord_of 0 none s)
chord_text_meets ed s inside behind (texts.chord i b h q) = ap (chord_at ed) q ∙ chord_meets ed i b h ∙ ap (λ (l : List ℕ). chord_taken ed (2 + length i) b (chord_of 0 none l)) (sym q)

-- WORDS OF LYRICS (5.1)
last_next : (x y : ℕ) (t : List ℕ) → last (x ∷ (y ∷ t)) ≡ last (y ∷ t)
last_next x y t =
    let a : suc (suc (length t)) - 1 ≡ suc (length t) = omega arith in
    let b : length t ≡ suc (length t) - 1 = omega arith in
    ap (λ (i : ℕ). get_or (x ∷ (y ∷ t)) i 0) a ∙ ap (λ (i : ℕ). get_or (y ∷ t) i 0) b

last_of : (xs : List ℕ) (y : ℕ) (t : List ℕ) → last (xs ++ (y ∷ t)) ≡ last (y ∷ t)
last_of [] y t = refl
last_of (x ∷ []) y t = last_next x y t
last_of (x ∷ (z ∷ xs)) y t = last_next x z (xs ++ (y ∷ t)) ∙ last_of (z ∷ xs) y t

last_all : (q : ℕ → Bool) (y : ℕ) (t : List ℕ) → all q (y ∷ t) ≡ true → q (last (y ∷ t)) ≡ true
last_all q y [] h = and_left (q y) true h
last_all q y (z ∷ t) h = ap q (last_next y z t) ∙ last_all q z t (and_right (q y) (all q (z ∷ t)) h)

-- what is no hyphen and no sign
weaker : (s : List ℕ) → all (λ x. not (is "-" x || is "|" x || is "*" x || is "_" x)) s ≡ true → all (λ x. not (is "-" x)) s ≡ true
weaker [] h = refl
weaker (x ∷ s) h =
    and_both (not (is "-" x)) (all (λ x. not (is "-" x)) s)
    (ap not (or_no_left (is "-" x) (is "|" x) (or_no_left (is "-" x || is "|" x) (is "*" x) (or_no_left (is "-" x || is "|" x || is "*" x) (is "_" x) (not_true _ (and_left _ (all (λ x. not (is "-" x || is "|" x || is "*" x || is "_" x)) s) h))))))
    (weaker s (and_right (not (is "-" x || is "|" x || is "*" x || is "_" x)) (all (λ x. not (is "-" x || is "|" x || is "*" x || is "_" x)) s) h))

-- a word of one byte or more, none of them the sign z, is not the sign
not_sign : (z c : ℕ) (w : List ℕ) → eqb c z ≡ false → eq_text (c ∷ w) (z ∷ []) ≡ false
not_sign z c w h = ap (λ (b : Bool). b && eq_text w []) h

-- the pieces between the hyphens are those that were written
abbrev pieced : List ℕ → List (List ℕ)
pieced s = words (separator (is "-")) s

one_piece : (w : List ℕ) → Piece w → pieced w ≡ w ∷ []
unfolding words
one_piece [] h = absurd (not-suc-le-zero h.0)
one_piece (c ∷ w) h = ap (filter (λ (x : List ℕ). not (is_nil x))) (pieces_one (is "-") (c ∷ w) h.1)

next_piece : (w s : List ℕ) (l : List (List ℕ)) → Piece w → pieced s ≡ l → pieced (w ++ (45 ∷ s)) ≡ w ∷ l
unfolding words
next_piece [] s l h e = absurd (not-suc-le-zero h.0)
next_piece (c ∷ w) s l h e = ap (filter (λ (x : List ℕ). not (is_nil x))) (pieces_first (is "-") (c ∷ w) 45 s h.1 refl) ∙ ap (λ (l : List (List ℕ)). (c ∷ w) ∷ l) e

words_meet : (ps : List (List ℕ)) (w : List ℕ) → All Piece (w ∷ ps) → pieced (hyphened (w ∷ ps)) ≡ w ∷ ps
unfolding hyphened
words_meet [] w h = one_piece w h.0
words_meet (q ∷ ps) w h = next_piece w (hyphened (q ∷ ps)) (q ∷ ps) h.0 (words_meet ps q h.1)

-- such a word begins and ends with no hyphen, and is longer than a sign
first_solid : (p q : List ℕ) (ps : List (List ℕ)) → All Piece (p ∷ q ∷ ps) → (is "-" (first (hyphened (p ∷ q ∷ ps))) ≡ false) × ((z : ℕ) → eq_text (hyphened (p ∷ q ∷ ps)) (z ∷ []) ≡ false)
unfolding hyphened
first_solid [] q ps h = absurd (not-suc-le-zero h.0.0)
first_solid (c ∷ []) q ps h = (not_true (is "-" c) (and_left (not (is "-" c)) true h.0.1), λ z. and_no_right (eqb c z) false refl)
first_solid (c ∷ (d ∷ w)) q ps h = (not_true (is "-" c) (and_left (not (is "-" c)) (all (λ x. not (is "-" x)) (d ∷ w)) h.0.1), λ z. and_no_right (eqb c z) false refl)

last_one : (w : List ℕ) → Piece w → is "-" (last w) ≡ false
last_one [] h = absurd (not-suc-le-zero h.0)
last_one (c ∷ w) h = not_true (is "-" (last (c ∷ w))) (last_all (λ x. not (is "-" x)) c w h.1)

-- behind a hyphen stands a piece
behind_hyphen : (q : List ℕ) (ps : List (List ℕ)) → Piece q → last (45 ∷ hyphened (q ∷ ps)) ≡ last (hyphened (q ∷ ps))
unfolding hyphened
behind_hyphen [] ps h = absurd (not-suc-le-zero h.0)
behind_hyphen (d ∷ v) [] h = last_next 45 d v
behind_hyphen (d ∷ v) (r ∷ ps) h = last_next 45 d (v ++ (45 ∷ hyphened (r ∷ ps)))

last_solid : (ps : List (List ℕ)) (w : List ℕ) → All Piece (w ∷ ps) → is "-" (last (hyphened (w ∷ ps))) ≡ false
unfolding hyphened
last_solid [] w h = last_one w h.0
last_solid (q ∷ ps) w h = ap (is "-") (last_of w 45 (hyphened (q ∷ ps)) ∙ behind_hyphen q ps h.1.0) ∙ last_solid ps q h.1

divided_meets : (p q : List ℕ) (ps : List (List ℕ)) → All Piece (p ∷ q ∷ ps) → word_of (hyphened (p ∷ q ∷ ps)) ≡ syllables false false (p ∷ q ∷ ps)
unfolding word_of or_skip syllables
divided_meets p q ps h =
    let f = first_solid p q ps h in
    rw (f.1 124, word_of) (rw (f.1 42, word_of) (rw (f.1 95, word_of) (rw (f.0, last_solid (q ∷ ps) p h, words_meet (q ∷ ps) p h))))

pub word_text_meets : (s : List ℕ) (ws : List Word) → WordText s ws → word_of s ≡ ws
unfolding everything
word_text_meets s ws (star e) = ap word_of e
word_text_meets s ws (held e) = ap word_of e
word_text_meets s ws (plain c w e h) =
    ap word_of e
    ∙ word_meets c w (weaker (c ∷ w) k) (not_sign 124 c w (or_no_right (is "-" c) (is "|" c) (or_no_left (is "-" c || is "|" c) (is "*" c) u))) (not_sign 42 c w (or_no_right (is "-" c || is "|" c) (is "*" c) u)) (not_sign 95 c w v) (not_true (is "-" (last (c ∷ w))) (last_all (λ x. not (is "-" x)) c w (weaker (c ∷ w) k)))
    ∙ ap (λ (l : List ℕ). syllable lyric_words_lem.single (syllable_text l) ∷ []) (sym e)
  where
    k : all (λ x. not (is "-" x || is "|" x || is "*" x || is "_" x)) (c ∷ w) ≡ true
    k = ap (all (λ x. not (is "-" x || is "|" x || is "*" x || is "_" x))) (sym e) ∙ h

    none_of : (is "-" c || is "|" c || is "*" c || is "_" c) ≡ false
    none_of = not_true _ (and_left (not (is "-" c || is "|" c || is "*" c || is "_" c)) (all (λ x. not (is "-" x || is "|" x || is "*" x || is "_" x)) w) k)

    u : (is "-" c || is "|" c || is "*" c) ≡ false
    u = or_no_left (is "-" c || is "|" c || is "*" c) (is "_" c) none_of

    v : is "_" c ≡ false
    v = or_no_right (is "-" c || is "|" c || is "*" c) (is "_" c) none_of
word_text_meets s ws (divided p q ps e h) = ap word_of e ∙ divided_meets p q ps h

-- VOICES (7.1)
pub voice_text_meets : (s v : List ℕ) → VoiceText s v → identifier s ≡ v
voice_text_meets s v (alone c w e h) = ap identifier e ∙ identifier_alone c w h
voice_text_meets s v (then c w x t e h b) = ap identifier e ∙ identifier_meets c w x t h b
