-- MORE PLACES WHERE THE READER AND THE STANDARD AGREE: note lengths as written (4.3), `(p` and `(p:q` (4.13), accidentals to the bar's end (4.2), lists of passes (4.10), words of lyrics (5.1), identifiers (7.1).
use Prim.Native.Nat.{ℕ, suc, ◌+◌, ◌^◌, ◌≤◌, ◌<◌}
use mathlib.Core.Path.{◌≡◌, refl, ap, ◌∙◌}
use mathlib.Core.Bool.{Bool, true, false, not, ◌&&◌, false≢true}
use mathlib.Core.Option.{Option, none, some}
use mathlib.Core.List.{List, [], ◌∷◌, ◌++◌}
use native.Mathlib.Omega.{arith}
use lib.Dec.{eqb}
use lib.ListN.{length, drop}
use lib.Seq.{take-append_seam, drop_at}
use borrow.Author.Tests.{eqb-true, le-ltb, lt-ltb}
use Rattle.laws.specs.Lists.{all, count_while, eq_text}
use Rattle.laws.proofs.Bools.{by_test, and_left, and_right, eqb_same}
use Rattle.standard.specs.Bytes.{ascii, is, is_digit, first, last, decimal}
use Rattle.standard.specs.Pitches.{Accidental, Written, altered}
use Rattle.standard.specs.Keys.{Key, key_alter}
use Rattle.standard.specs.Passes.{pass, passes_of}
use Rattle.standard.specs.Lyrics.{syllable, single, syllable_text, syllables, syllabic_of}
use Rattle.editions.specs.declared.Edition.{Edition}
use Rattle.editions.specs.declared.Edition.TheVariants.{Second}
use Rattle.reader.specs.Text.{is_space}
use Rattle.reader.specs.Pieces.{pieces, words, separator, field_words}
use Rattle.reader.specs.Fields.{first_word, identifier}
use Rattle.reader.specs.Lengths.{Length, number, slashes, length_over, length_of}
use Rattle.reader.specs.Pitches.{Scope, remembered, or_key, sound_by, sound_of, scope_by, scope_after}
use Rattle.reader.specs.Token.{taken, tuplet}
use Rattle.reader.specs.Tuplets.{normal_for, with_count, with_normal, with_actual, tuplet_of}
use Rattle.reader.specs.PassesInTurn.{pass_number, item_of, last_pass, in_turn, pass_list}
use Rattle.reader.specs.PassesInTurn as lists
use Rattle.reader.specs.Lyrics.{word_of, or_skip}
use Rattle.reader.proofs.Digits.{count_while_front, drop_behind, digits_some, pieces_digits}
use Rattle.reader.proofs.LengthLaws.{no_slash, lone_slash, length_by, over_many}
use Rattle.reader.proofs.Standard.{positive_meets, part_meets}

-- LENGTHS (4.3). A length is written as a numerator or none, and a slash with a denominator or none behind it, or no slash: `A` is A1, `A/` is A/2
abbrev pub numerator_of : List ℕ → ℕ
numerator_of [] = 1
numerator_of (c ∷ d) = decimal 0 (c ∷ d)

abbrev pub denominator_of : List ℕ → ℕ
denominator_of [] = 2
denominator_of (c ∷ d) = decimal 0 (c ∷ d)

-- digits before what is no digit, in 32 bits
number_meets : (k c : ℕ) (d t : List ℕ) → decimal 0 (c ∷ d) < 2 ^ 32 → number k (length (c ∷ d)) ((c ∷ d) ++ t) ≡ decimal 0 (c ∷ d)
unfolding number
number_meets k c d t h = rw (take-append_seam (c ∷ d) t, lt-ltb (decimal 0 (c ∷ d)) (2 ^ 32) h)

numerator_meets : (d t : List ℕ) → numerator_of d < 2 ^ 32 → number 1 (length d) (d ++ t) ≡ numerator_of d
unfolding number
numerator_meets [] t h = refl
numerator_meets (c ∷ d) t h = number_meets 1 c d t h

denominator_meets : (d t : List ℕ) → denominator_of d < 2 ^ 32 → number 2 (length d) (d ++ t) ≡ denominator_of d
unfolding number
denominator_meets [] t h = refl
denominator_meets (c ∷ d) t h = number_meets 2 c d t h

-- digits d, and t behind them with k slashes that count
length_at : (ed : Edition) (d t : List ℕ) (k : ℕ) → all is_digit d ≡ true → count_while is_digit t ≡ 0 → slashes ed t ≡ k
    → length_of ed (d ++ t) ≡ length_over (number 1 (length d) (d ++ t)) (length d) k (drop (length d + k) (d ++ t))
length_at ed d t k a z e =
    let n : count_while is_digit (d ++ t) ≡ length d = count_while_front is_digit d t a z in
    let r : drop (count_while is_digit (d ++ t)) (d ++ t) ≡ t = ap (λ (m : ℕ). drop m (d ++ t)) n ∙ drop_at d t (length d) refl in
    length_by ed (d ++ t) k (ap (slashes ed) r ∙ e) ∙ ap (λ (m : ℕ). length_over (number 1 m (d ++ t)) m k (drop (m + k) (d ++ t))) n

-- without a slash
pub length_meets : (ed : Edition) (d s : List ℕ) → all is_digit d ≡ true → numerator_of d < 2 ^ 32 → count_while is_digit s ≡ 0 → is "/" (first s) ≡ false
    → length_of ed (d ++ s) ≡ record { num = numerator_of d; den = 1; used = length d }
unfolding length_over
length_meets ed d s a h z n =
    length_at ed d s 0 a z (no_slash ed s n) ∙ ap {B = Length} (λ (m : ℕ). record { num = m; den = 1; used = length d }) (numerator_meets d s h)

-- with one
pub length_over_meets : (ed : Edition) (d e s : List ℕ) → all is_digit d ≡ true → all is_digit e ≡ true → numerator_of d < 2 ^ 32 → denominator_of e < 2 ^ 32 → count_while is_digit s ≡ 0 → is "/" (first (e ++ s)) ≡ false
    → length_of ed (d ++ (47 ∷ (e ++ s))) ≡ record { num = numerator_of d; den = denominator_of e; used = length d + 1 + length e }
unfolding length_over
length_over_meets ed d e s a b h k z w =
    let t : List ℕ = 47 ∷ (e ++ s) in
    let j : length d + 1 ≡ suc (length d) = omega arith in
    length_at ed d t 1 a refl (lone_slash ed t refl w)
    ∙ ap (λ (m : ℕ). length_over m (length d) 1 (drop (length d + 1) (d ++ t))) (numerator_meets d t h)
    ∙ ap (λ (r : List ℕ). length_over (numerator_of d) (length d) 1 r) (ap (λ (m : ℕ). drop m (d ++ t)) j ∙ drop_behind d 47 (e ++ s))
    ∙ ap {B = Length} (λ (n : ℕ). record { num = numerator_of d; den = number 2 n (e ++ s); used = length d + 1 + n }) (count_while_front is_digit e s b z)
    ∙ ap {B = Length} (λ (m : ℕ). record { num = numerator_of d; den = m; used = length d + 1 + length e }) (denominator_meets e s k)

-- with two or more, in the second edition; whatever stands behind them but another slash
slash_front : (e s : List ℕ) → all (is "/") e ≡ true → 0 < length e → count_while is_digit (e ++ s) ≡ 0
slash_front [] s a h = absurd (omega (arith, h))
slash_front (c ∷ e) s a h = let q : c ≡ 47 = eqb-true c 47 (and_left (is "/" c) (all (is "/") e) a) in ap (λ (x : ℕ). count_while is_digit (x ∷ (e ++ s))) q

pub length_halved_meets : (d e s : List ℕ) → all is_digit d ≡ true → all (is "/") e ≡ true → 2 ≤ length e → numerator_of d < 2 ^ 32 → count_while (is "/") s ≡ 0
    → length_of Second (d ++ (e ++ s)) ≡ record { num = numerator_of d; den = 2 ^ length e; used = length d + length e }
unfolding slashes
length_halved_meets d e s a b k h z =
    length_at Second d (e ++ s) (length e) a (slash_front e s b (omega (arith, k))) (count_while_front (is "/") e s b z)
    ∙ over_many (number 1 (length d) (d ++ (e ++ s))) (length d) (length e) (drop (length d + length e) (d ++ (e ++ s))) k
    ∙ ap {B = Length} (λ (m : ℕ). record { num = m; den = 2 ^ length e; used = length d + length e }) (numerator_meets d (e ++ s) h)

-- TUPLETS (4.13): `(p` has the default q, and r is p; `(p:q` has r = p
pub tuplet_p_meets : (ed : Edition) (a s : List ℕ) → 0 < length a → all is_digit a ≡ true → 2 ≤ decimal 0 a → decimal 0 a ≤ 255 → count_while is_digit s ≡ 0 → is ":" (first s) ≡ false
    → tuplet_of ed (a ++ s) ≡ some (taken (tuplet (record { actual = decimal 0 a; normal = normal_for ed (decimal 0 a); count = decimal 0 a })) (1 + length a))
unfolding tuplet_of with_actual
tuplet_p_meets ed a s na da lp hp z n =
    rw (positive_meets 255 a s na da (omega arith) hp z, count_while_front is_digit a s da z, drop_at a s (length a) refl)
    (rw (le-ltb (decimal 0 a) 2 lp, with_actual) (rw (n, with_actual)))

pub tuplet_pq_meets : (ed : Edition) (a b s : List ℕ) → 0 < length a → 0 < length b → all is_digit a ≡ true → all is_digit b ≡ true → 2 ≤ decimal 0 a → decimal 0 a ≤ 255 → 1 ≤ decimal 0 b → decimal 0 b ≤ 255
    → count_while is_digit s ≡ 0 → is ":" (first s) ≡ false
    → tuplet_of ed (a ++ (58 ∷ (b ++ s))) ≡ some (taken (tuplet (record { actual = decimal 0 a; normal = decimal 0 b; count = decimal 0 a })) (1 + length a + 1 + length b))
unfolding tuplet_of with_actual with_normal with_count
tuplet_pq_meets ed a b s na nb da db lp hp lq hq z n =
    let t : List ℕ = 58 ∷ (b ++ s) in
    let k : 1 + length b ≡ suc (length b) = omega arith in
    rw (positive_meets 255 a t na da (omega arith) hp refl, count_while_front is_digit a t da refl, drop_at a t (length a) refl)
    (rw (le-ltb (decimal 0 a) 2 lp, with_actual)
    (rw (part_meets ed (normal_for ed (decimal 0 a)) 255 b s nb db lq hq z, count_while_front is_digit b s db z, k, drop_at b s (length b) refl) (rw (n, with_count))))

-- ACCIDENTALS hold to the bar's end (4.2; for notes of the same octave)
pub accidental_holds : (k : Key) (sc : Scope) (w v : Written) (a : Accidental) → w.sign ≡ some a → v.sign ≡ none → v.step ≡ w.step → v.octave ≡ w.octave
    → sound_of k (scope_after sc w) v ≡ altered w a
unfolding sound_of sound_by scope_after scope_by remembered or_key altered
accidental_holds k sc w v a m n s o =
    ap (λ (x : Option Accidental). sound_by k (scope_after sc w) v x) n ∙ ap (λ (x : Option Accidental). sound_by k (scope_by sc w x) v none) m ∙ rw (same, remembered)
  where
    same : (eqb w.step v.step && eqb w.octave v.octave) ≡ true
    same = rw (s, o, eqb_same w.step, eqb_same w.octave)

-- and for no other
pub accidental_elsewhere : (k : Key) (sc : Scope) (w v : Written) → (eqb w.step v.step && eqb w.octave v.octave) ≡ false → sound_of k (scope_after sc w) v ≡ sound_of k sc v
unfolding sound_of sound_by scope_after scope_by remembered or_key altered
accidental_elsewhere k sc w v h = go w.sign v.sign
  where
    go : (m n : Option Accidental) → sound_by k (scope_by sc w m) v n ≡ sound_by k sc v n
    go none n = refl
    go (some a) (some b) = refl
    go (some a) none = rw (h, remembered)

-- where none is in force a note is as the key says: so it is behind a barline, which empties the scopes (`on_barline`)
pub key_holds : (k : Key) (v : Written) → v.sign ≡ none → sound_of k [] v ≡ record { step = v.step; octave = v.octave; alter = key_alter k v.step; cents = 128 }
unfolding sound_of sound_by remembered or_key
key_holds k v n = rw n

-- LISTS OF PASSES (4.10): a number above those before it, and then the rest of the list
pub list_meets : (low : ℕ) (d : List ℕ) (xs : List (List ℕ)) (qs : List ℕ) → 0 < length d → all is_digit d ≡ true → is "0" (first d) ≡ false → low < decimal 0 d → decimal 0 d ≤ 32
    → pass_list (decimal 0 d) xs ≡ some qs → pass_list low (d ∷ xs) ≡ some (passes_of (pass (decimal 0 d)) ++ qs)
unfolding pass_list item_of lists.single last_pass in_turn passes_of pass_number
list_meets low d xs qs n a z l h r = rw (item, pass_list) (rw r)
  where
    number : pass_number d ≡ some (decimal 0 d)
    number = rw z (digits_some 32 d n a h)

    item : item_of low (pieces (separator (is "-")) 0 d) ≡ some (pass (decimal 0 d))
    item = rw (pieces_digits 45 refl d a, number, lt-ltb low (decimal 0 d) l)

-- LYRICS (5.1): a word without hyphens, none of `|`, `*`, `_`, is one syllable
pub pieces_one : (p : ℕ → Bool) (w : List ℕ) → all (λ c. not (p c)) w ≡ true → pieces (separator p) 0 w ≡ w ∷ []
unfolding pieces
pieces_one p [] h = refl
pieces_one p (c ∷ w) h =
    by_test (p c) (λ e. absurd (false≢true (rw e at (and_left (not (p c)) (all (λ c. not (p c)) w) h))))
    (λ e. rw (e, pieces) (rw (pieces_one p w (and_right (not (p c)) (all (λ c. not (p c)) w) h))))

pub word_meets : (c : ℕ) (w : List ℕ) → all (λ x. not (is "-" x)) (c ∷ w) ≡ true → eq_text (c ∷ w) (ascii "|") ≡ false → eq_text (c ∷ w) (ascii "*") ≡ false → eq_text (c ∷ w) (ascii "_") ≡ false
    → is "-" (last (c ∷ w)) ≡ false → word_of (c ∷ w) ≡ syllable single (syllable_text (c ∷ w)) ∷ []
unfolding word_of words or_skip syllables syllabic_of
word_meets c w h a b d l =
    rw (a, word_of) (rw (b, word_of) (rw (d, word_of) (rw (head, l, pieces_one (is "-") (c ∷ w) h))))
  where
    head : is "-" c ≡ false
    head = by_test (is "-" c) (λ e. absurd (false≢true (rw e at (and_left (not (is "-" c)) (all (λ x. not (is "-" x)) w) h)))) (λ e. e)

-- IDENTIFIERS (7.1): the first word of a V field, before white space
pub pieces_first : (p : ℕ → Bool) (w : List ℕ) (x : ℕ) (t : List ℕ) → all (λ c. not (p c)) w ≡ true → p x ≡ true → pieces (separator p) 0 (w ++ (x ∷ t)) ≡ w ∷ pieces (separator p) 0 t
unfolding pieces
pieces_first p [] x t h e = rw (e, pieces)
pieces_first p (c ∷ w) x t h e =
    by_test (p c) (λ f. absurd (false≢true (rw f at (and_left (not (p c)) (all (λ c. not (p c)) w) h))))
    (λ f. rw (f, pieces) (rw (pieces_first p w x t (and_right (not (p c)) (all (λ c. not (p c)) w) h) e)))

pub identifier_meets : (c : ℕ) (w : List ℕ) (x : ℕ) (t : List ℕ) → all (λ b. not (is_space b)) (c ∷ w) ≡ true → is_space x ≡ true → identifier ((c ∷ w) ++ (x ∷ t)) ≡ c ∷ w
unfolding identifier field_words words first_word
identifier_meets c w x t h e = rw (pieces_first is_space (c ∷ w) x t h e)

pub identifier_alone : (c : ℕ) (w : List ℕ) → all (λ b. not (is_space b)) (c ∷ w) ≡ true → identifier (c ∷ w) ≡ c ∷ w
unfolding identifier field_words words first_word
identifier_alone c w h = rw (pieces_one is_space (c ∷ w) h)
