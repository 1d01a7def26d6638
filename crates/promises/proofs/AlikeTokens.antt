-- KEYS AND TOKENS THAT BOTH EDITIONS READ ALIKE: K lines and music lines that pass the tests of specs/Alike.
use Prim.Native.Nat.{ℕ, zero, suc, ◌+◌, pred}
use mathlib.Core.Path.{◌≡◌, refl, sym, ap, ◌∙◌}
use mathlib.Core.Bool.{Bool, true, false, cond, not, ◌&&◌}
use mathlib.Core.Option.{Option, none, some}
use mathlib.Core.List.{List, [], ◌∷◌}
use lib.Dec.{eqb, leb, ltb}
use lib.ListN.{drop}
use borrow.Author.Tests.{eqb-true, le-leb}
use Rattle.laws.specs.Lists.{count_while}
use Rattle.laws.proofs.Bools.{by_test, both_true, never_true, not_true, and_left, and_right, and_both}
use Rattle.standard.specs.Bytes.{is, is_digit, first}
use Rattle.standard.specs.Keys.{Key}
use Rattle.standard.specs.Pitches.{Written, is_letter}
use Rattle.standard.specs.Tuplets.{default_normal}
use Rattle.editions.specs.declared.Edition.TheVariants.{First, Second}
use Rattle.reader.specs.Text.{within}
use Rattle.reader.specs.Pieces.{field_words}
use Rattle.reader.specs.Keys.{is_beyond, key_of}
use Rattle.reader.specs.Fields.{first_met, key_refusal}
use Rattle.reader.specs.Pitches.{Before, octave_of, accidental_of, chord_of}
use Rattle.reader.specs.Token.{Token, Taken, taken}
use Rattle.reader.specs.Tuplets.{positive, normal_for, part_or, tuplet_token, counted, with_count, with_normal, with_actual, tuplet_of, or_slur}
use Rattle.reader.specs.Inline.{token_unless, key_token, field_token, is_inline, inline_at}
use Rattle.reader.specs.Sounds.{chord_taken, chord_at, rest_as, note_as, note_after, note_of}
use Rattle.reader.specs.Tokens.{bracket_of, Class, white, ampersand, quote, more, less, paren, brace_open, brace_close, bang, plus, bars, bracket, pitched, none-of-these, resting, class_of, token_as, token_of, tokens}
use Rattle.reader.specs.Lines.{kind_unless, key_kind}
use Rattle.reader.proofs.LengthLaws.{with_same_length}
use Rattle.promises.specs.KeyRange.{InSeven}
use Rattle.promises.specs.Refusals.{bracketed, after_bracket}
use Rattle.promises.specs.Alike.{eq_key, same_key, key_alike, not_empty, spelled, tuplet_alike, length_alike, note_alike, bracket_alike, class_alike, tokens_alike}
use Rattle.promises.proofs.KeyFields.{as_met, first_in_seven}
use Rattle.promises.proofs.TokenRefusals.{k_here}

-- KEYS
same_bool : (a b : Bool) → cond a b (not b) ≡ true → a ≡ b
same_bool true b h = sym h
same_bool false b h = sym (not_true b h)

pub eq_key_lem : (k l : Key) → eq_key k l ≡ true → k ≡ l
eq_key_lem k l h =
    let p = eqb-true k.fifths l.fifths (and_left (eqb k.fifths l.fifths) (cond k.minor l.minor (not l.minor)) h) in
    let q = same_bool k.minor l.minor (and_right (eqb k.fifths l.fifths) (cond k.minor l.minor (not l.minor)) h) in
    λ i. record { fifths = p i; minor = q i }

in_not_beyond : (k : Key) → InSeven k → is_beyond k ≡ false
unfolding is_beyond
in_not_beyond k h = ap not (and_both (leb 121 k.fifths) (leb k.fifths 135) (le-leb 121 k.fifths h.0) (le-leb k.fifths 135 h.1))

same_refusal : (v : List ℕ) → key_of First v ≡ key_of Second v → key_refusal First v ≡ key_refusal Second v
unfolding key_refusal
same_refusal v e = as_met First v ∙ ap (λ (b : Bool). first_met b (field_words v)) (sym (ap is_beyond (sym e) ∙ in_not_beyond (key_of First v) (first_in_seven v)))

pub same_key_kind : (v : List ℕ) → same_key v ≡ true → key_kind First v ≡ key_kind Second v
unfolding key_kind
same_key_kind v h = let e = eq_key_lem (key_of First v) (key_of Second v) h in λ i. kind_unless (e i) (same_refusal v e i)

same_key_token : (v : List ℕ) → same_key v ≡ true → key_token First v ≡ key_token Second v
unfolding key_token
same_key_token v h = let e = eq_key_lem (key_of First v) (key_of Second v) h in λ i. token_unless (e i) (same_refusal v e i)

-- INLINE FIELDS
field_alike : (f : List ℕ) → key_alike f ≡ true → field_token First f ≡ field_token Second f
unfolding field_token
field_alike f h =
    by_test (is ":" (first (drop 1 f)))
    (λ e. by_test (is "L" (first f)) (λ a. rw (e, a, field_token))
    (λ a. by_test (is "M" (first f)) (λ b. rw (e, a, b, field_token))
    (λ b. by_test (is "K" (first f)) (λ k. rw (e, a, b, k, field_token) (same_key_token (drop 2 f) (rw (k_here f e k) at h))) (λ k. rw (e, a, b, k, field_token)))))
    (λ e. rw (e, field_token))

-- LENGTHS behind notes and chords
note_alike_lem : (a : Before) (s : List ℕ) → note_alike s ≡ true → note_after First a s ≡ note_after Second a s
unfolding note_after note_as
note_alike_lem a [] h = refl
note_alike_lem a (c ∷ s) h =
    by_test (is_letter c)
    (λ l. by_test (octave_of c s).fine (λ o. rw (l, o, note_after, note_as) (with_same_length _ (drop (octave_of c s).used s) _ (not_true _ (rw (l, o) at h)))) (λ o. rw (l, o, note_after, note_as)))
    (λ l. rw (l, note_after))

chord_alike : (n : ℕ) (s : List ℕ) (o : Option (List Written)) → length_alike s ≡ true → chord_taken First n s o ≡ chord_taken Second n s o
unfolding chord_taken
chord_alike n s none h = refl
chord_alike n s (some []) h = with_same_length _ s _ (not_true _ h)
chord_alike n s (some (w ∷ ws)) h = with_same_length _ s _ (not_true _ h)

-- what a `[` begins
bracket_alike_lem : (s : List ℕ) → bracket_alike s ≡ true → bracket_of First s ≡ bracket_of Second s
unfolding bracket_of inline_at chord_at
bracket_alike_lem s h =
    by_test (is_digit (first s)) (λ d. rw (d, bracket_of))
    (λ d. by_test (is_inline s) (λ e. rw (d, e, bracket_of) (ap (λ (t : Token). taken t (2 + count_while (λ c. not (is "]" c)) s)) (field_alike (bracketed s) (rw (d, e) at h))))
    (λ e. rw (d, e, bracket_of) (chord_alike _ (after_bracket s) (chord_of 0 none s) (rw (d, e) at h))))

-- TUPLETS
not_in : (p n : ℕ) → within 5 9 p ≡ false → within 5 9 n ≡ true → eqb p n ≡ false
not_in p n f t = never_true (eqb p n) (λ e. both_true (within 5 9 p) (ap (within 5 9) (eqb-true p n e) ∙ t) f)

same_normal : (p : ℕ) → within 5 9 p ≡ false → normal_for First p ≡ normal_for Second p
unfolding normal_for default_normal
same_normal p f = rw (not_in p 5 f refl, not_in p 7 f refl, not_in p 9 f refl, default_normal) (rw (not_in p 6 f refl, default_normal) (rw (not_in p 8 f refl)))

same_part : (d e top : ℕ) (s : List ℕ) → is_digit (first s) ≡ true → part_or First d top s ≡ part_or Second e top s
unfolding part_or
same_part d e top s h = rw (h, part_or)

count_alike : (p q n : ℕ) (s : List ℕ) → not_empty s ≡ true → with_count First p q n s ≡ with_count Second p q n s
unfolding with_count
count_alike p q n s h =
    by_test (is ":" (first s)) (λ e. rw (e, with_count) (ap (counted p q (n + 1 + count_while is_digit (drop 1 s))) (same_part p p _ (drop 1 s) (rw e at h)))) (λ e. rw (e, with_count))

normal_alike : (p n : ℕ) (s : List ℕ) (o : Option ℕ) → not_empty (drop (1 + count_while is_digit (drop 1 s)) s) ≡ true → with_normal First p n s o ≡ with_normal Second p n s o
unfolding with_normal
normal_alike p n s none h = refl
normal_alike p n s (some q) h = count_alike p q _ _ h

-- behind a p that is a number of notes
parts_alike : (p n : ℕ) (s : List ℕ) → ltb p 2 ≡ false → spelled p s ≡ true → with_actual First n s (some p) ≡ with_actual Second n s (some p)
unfolding with_actual
parts_alike p n s l h =
    let g : cond (is ":" (first s)) (not_empty s && not_empty (drop (1 + count_while is_digit (drop 1 s)) s)) (not (within 5 9 p)) ≡ true = rw l at h in
    by_test (is ":" (first s))
    (λ e. let k : (is_digit (first (drop 1 s)) && not_empty (drop (1 + count_while is_digit (drop 1 s)) s)) ≡ true = rw e at g in
    let d = and_left (is_digit (first (drop 1 s))) (not_empty (drop (1 + count_while is_digit (drop 1 s)) s)) k in
    let m = and_right (is_digit (first (drop 1 s))) (not_empty (drop (1 + count_while is_digit (drop 1 s)) s)) k in
    rw (l, e, with_actual) (ap (with_normal First p n s) (same_part (normal_for First p) (normal_for Second p) 255 (drop 1 s) d) ∙ normal_alike p n s _ m))
    (λ e. rw (l, e, with_actual) (ap (λ (q : ℕ). tuplet_token p q p n) (same_normal p (not_true (within 5 9 p) (rw e at g)))))

actual_alike : (n : ℕ) (s : List ℕ) (o : Option ℕ) → (elim o as (λ _. Bool) [ none ↦ true | some p ↦ spelled p s ]) ≡ true → with_actual First n s o ≡ with_actual Second n s o
unfolding with_actual
actual_alike n s none h = refl
actual_alike n s (some p) h = by_test (ltb p 2) (λ l. rw (l, with_actual)) (λ l. parts_alike p n s l h)

tuplet_alike_lem : (s : List ℕ) → tuplet_alike s ≡ true → tuplet_of First s ≡ tuplet_of Second s
unfolding tuplet_of
tuplet_alike_lem s h = actual_alike (1 + count_while is_digit s) (drop (count_while is_digit s) s) (positive 255 s) h

-- TOKENS
class_alike_lem : (k : Class) (s : List ℕ) → class_alike k s ≡ true → token_as First k s ≡ token_as Second k s
unfolding token_as rest_as note_of class_alike
class_alike_lem white s h = refl
class_alike_lem ampersand s h = refl
class_alike_lem quote s h = refl
class_alike_lem more s h = refl
class_alike_lem less s h = refl
class_alike_lem paren s h = ap or_slur (tuplet_alike_lem (drop 1 s) h)
class_alike_lem brace_open s h = refl
class_alike_lem brace_close s h = refl
class_alike_lem bang s h = refl
class_alike_lem plus s h = refl
class_alike_lem bars s h = refl
class_alike_lem bracket s h = bracket_alike_lem (drop 1 s) h
class_alike_lem pitched s h = note_alike_lem (accidental_of s) (drop (accidental_of s).used s) h
class_alike_lem none-of-these s h = refl
class_alike_lem (resting k) s h = with_same_length _ (drop 1 s) _ (not_true _ h)

-- a line that passes the test has the same tokens in both editions
pub tokens_alike_lem : (k : ℕ) (l : List ℕ) → tokens_alike k l ≡ true → tokens First k l ≡ tokens Second k l
unfolding tokens tokens_alike token_of
tokens_alike_lem k [] h = refl
tokens_alike_lem zero (c ∷ s) h =
    let e : token_of First (c ∷ s) ≡ token_of Second (c ∷ s) = class_alike_lem (class_of c) (c ∷ s) (and_left (class_alike (class_of c) (c ∷ s)) _ h) in
    ap (λ (ts : List Token). (token_of First (c ∷ s)).token ∷ ts) (tokens_alike_lem (pred (token_of First (c ∷ s)).used) s (and_right (class_alike (class_of c) (c ∷ s)) _ h))
    ∙ ap (λ (t : Taken). t.token ∷ tokens Second (pred t.used) s) e
tokens_alike_lem (suc k) (c ∷ s) h = tokens_alike_lem k s h
