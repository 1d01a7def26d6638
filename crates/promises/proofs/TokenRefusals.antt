-- WHAT A MUSIC LINE IS REFUSED FOR: a token is refused by a number just where it meets that number's condition, and a line by the first that is met.
use Prim.Native.Nat.{ℕ, zero, suc, ◌+◌, ◌≤◌, ◌<◌, pred}
use mathlib.Core.Path.{◌≡◌, refl, sym, ap, subst, ◌∙◌}
use mathlib.Core.Bool.{Bool, true, false, cond, not, ◌||◌, false≢true}
use mathlib.Core.Option.{Option, none, some}
use mathlib.Core.List.{List, [], ◌∷◌, ◌++◌, map}
use native.Mathlib.Omega.{arith}
use native.Mathlib.Nat.{add-zero}
use lib.Dec.{eqb, ltb}
use lib.ListN.{length, take, drop}
use borrow.Author.Tests.{eqb-true, ltb-true, ltb-false, lt-ltb, le-ltb}
use Rattle.laws.specs.Lists.{count_while, all, any}
use Rattle.laws.proofs.Bools.{by_test, and_left, and_right, and_both}
use Rattle.laws.proofs.Lists.{map_append}
use Rattle.laws.proofs.Spans.{count_while_no, count_while_yes}
use Rattle.standard.specs.Bytes.{is, is_digit, first}
use Rattle.standard.specs.Pitches.{Written, Accidental, is_letter}
use Rattle.standard.specs.Passes.{Item}
use Rattle.standard.specs.Bars.{Symbol, bar_symbols, symbol_at}
use Rattle.standard.specs.Keys.{Key}
use Rattle.editions.specs.declared.Edition.{Edition}
use Rattle.reader.specs.Fields.{unit_inline, key_refusal}
use Rattle.reader.specs.Lengths.{Length, many_slashes}
use Rattle.reader.specs.Pitches.{Before, octave_of, accidental_of, is_quarter, quarter_tone, added, natural, cons_pitch, chord_of}
use Rattle.reader.specs.Token.{Token, space, overlay, quoted, broken, tuplet, slur, grace_open, grace_close, decoration, barline, volta, unit, meter, key, field, chord, rest, nothing, skipped, refused, Taken, taken}
use Rattle.reader.specs.Tuplets.{positive, normal_for, counted, with_count, with_normal, with_actual, tuplet_of, or_slur, part_or}
use Rattle.reader.specs.Barlines.{barline_as, barline_of}
use Rattle.reader.specs.PassLists.{numbers_in, is_pass, rise, tested, is_pass_byte, volta_as, volta_of}
use Rattle.reader.specs.Inline.{unit_token, key_token, field_token, is_inline, inline_at, token_unless}
use Rattle.reader.specs.Sounds.{with_length, chord_taken, chord_at, rest_as, note_as, note_after, note_of}
use Rattle.reader.specs.Tokens.{closed_by, broken_of, bracket_of, Class, white, ampersand, quote, more, less, paren, brace_open, brace_close, bang, plus, bars, bracket, pitched, none-of-these, resting, class_of, token_as, token_of, tokens, Effect, counts, refuses, sets_unit, sets_meter, no_effect, effect_of, effects}
use Rattle.reader.specs.Lines.{is_k, key}
use Rattle.reader.specs.Scan.{most_notes, note_count, first_refusal}
use Rattle.reader.proofs.LengthLaws.{with_many, with_length_lem}
use Rattle.reader.proofs.TokenLaws.{tokens_at}
use Rattle.reader.specs.Keys.{key_of}
use Rattle.promises.specs.KeyRange.{InSeven}
use Rattle.promises.specs.Refusals.{bracketed, after_bracket, pass_items, TokenMeets, key_inline, octave_note, octave_chord, many_more, many_less, list_shape, list_range, list_rise, slashes_note, slashes_chord, slashes_rest, Here, token, note, InMusic, KeyMeets, middle, beyond}
use Rattle.promises.proofs.KeyFields.{key_range, key_field_meets, key_field_why}

-- A TOKEN THAT IS REFUSED MEETS ITS NUMBER'S CONDITION
-- what is known of a token at the front of s: of a refusal, that its condition is met; of a key, that it is within seven sharps or flats
unfoldable Told : Edition → List ℕ → Token → Type 0
Told ed s space = Unit {0}
Told ed s overlay = Unit {0}
Told ed s quoted = Unit {0}
Told ed s (broken up n) = Unit {0}
Told ed s (tuplet t) = Unit {0}
Told ed s slur = Unit {0}
Told ed s grace_open = Unit {0}
Told ed s grace_close = Unit {0}
Told ed s decoration = Unit {0}
Told ed s (barline b o) = Unit {0}
Told ed s (volta ps) = Unit {0}
Told ed s (unit u) = Unit {0}
Told ed s (meter m) = Unit {0}
Told ed s (key k) = InSeven k
Told ed s field = Unit {0}
Told ed s (chord ws l b) = Unit {0}
Told ed s (rest k l) = Unit {0}
Told ed s (Token.note w l b) = Unit {0}
Told ed s nothing = Unit {0}
Told ed s skipped = Unit {0}
Told ed s (refused n) = TokenMeets ed s n

-- of its effect
unfoldable Said : Edition → List ℕ → Effect → Type 0
Said ed s counts = Unit {0}
Said ed s (refuses n) = TokenMeets ed s n
Said ed s (sets_unit u) = Unit {0}
Said ed s (sets_meter m) = Unit {0}
Said ed s no_effect = Unit {0}

said : (ed : Edition) (s : List ℕ) (t : Token) → Told ed s t → Said ed s (effect_of t)
unfolding Told Said effect_of
said ed s space h = tt
said ed s overlay h = tt
said ed s quoted h = tt
said ed s (broken up n) h = tt
said ed s (tuplet t) h = tt
said ed s slur h = tt
said ed s grace_open h = tt
said ed s grace_close h = tt
said ed s decoration h = tt
said ed s (barline b o) h = tt
said ed s (volta ps) h = tt
said ed s (unit u) h = tt
said ed s (meter m) h = tt
said ed s (key k) h = tt
said ed s field h = tt
said ed s (chord ws l b) h = tt
said ed s (rest k l) h = tt
said ed s (Token.note w l b) h = tt
said ed s nothing h = tt
said ed s skipped h = tt
said ed s (refused n) h = h

-- quotes and decorations
closed_told : (ed : Edition) (s : List ℕ) (p : ℕ → Bool) (t : Token) (r : List ℕ) (other : Taken) → Told ed s t → Told ed s other.token → Told ed s (closed_by p t r other).token
unfolding closed_by
closed_told ed s p t r other g h = by_test (ltb (count_while (λ c. not (p c)) r) (length r)) (λ e. rw (e, closed_by) g) (λ e. rw (e, closed_by) h)

-- broken rhythm
broken_told : (ed : Edition) (s : List ℕ) (up : Bool) (n : ℕ) (r : List ℕ) → (255 < n → TokenMeets ed s 13) → Told ed s (broken_of up n r).token
unfolding broken_of Told
broken_told ed s up n r h = by_test (ltb 255 n) (λ e. rw (e, broken_of) (h (ltb-true 255 n e))) (λ e. rw (e, broken_of) tt)

-- a tuplet or a slur start
unfoldable TupletTold : Edition → List ℕ → Option Taken → Type 0
TupletTold ed s none = Unit {0}
TupletTold ed s (some t) = Told ed s t.token

counted_told : (ed : Edition) (s : List ℕ) (p q n : ℕ) (o : Option ℕ) → TupletTold ed s (counted p q n o)
unfolding counted TupletTold Told
counted_told ed s p q n none = tt
counted_told ed s p q n (some r) = tt

count_told : (ed : Edition) (s : List ℕ) (p q n : ℕ) (r : List ℕ) → TupletTold ed s (with_count ed p q n r)
unfolding with_count TupletTold Told
count_told ed s p q n r =
    by_test (is ":" (first r)) (λ e. rw (e, with_count) (counted_told ed s p q _ _)) (λ e. rw (e, with_count) tt)

normal_told : (ed : Edition) (s : List ℕ) (p n : ℕ) (r : List ℕ) (o : Option ℕ) → TupletTold ed s (with_normal ed p n r o)
unfolding with_normal TupletTold
normal_told ed s p n r none = tt
normal_told ed s p n r (some q) = count_told ed s p q _ _

actual_told : (ed : Edition) (s : List ℕ) (n : ℕ) (r : List ℕ) (o : Option ℕ) → TupletTold ed s (with_actual ed n r o)
unfolding with_actual TupletTold Told
actual_told ed s n r none = tt
actual_told ed s n r (some p) =
    by_test (ltb p 2) (λ e. rw (e, with_actual) tt)
    (λ e. rw (e, with_actual)
    (by_test (is ":" (first r)) (λ f. rw (f, with_actual) (normal_told ed s p n r (part_or ed (normal_for ed p) 255 (drop 1 r)))) (λ f. rw (f, with_actual) tt)))

slur_told : (ed : Edition) (s : List ℕ) (o : Option Taken) → TupletTold ed s o → Told ed s (or_slur o).token
unfolding or_slur TupletTold Told
slur_told ed s none h = tt
slur_told ed s (some t) h = h

tuplet_told : (ed : Edition) (s r : List ℕ) → Told ed s (or_slur (tuplet_of ed r)).token
unfolding tuplet_of
tuplet_told ed s r = slur_told ed s (tuplet_of ed r) (actual_told ed s _ _ (positive 255 r))

-- a barline
bar_told : (ed : Edition) (s r : List ℕ) (o : Option Symbol) → Told ed s (barline_as r o).token
unfolding barline_as Told
bar_told ed s r none = tt
bar_told ed s r (some x) = tt

-- a note behind its accidental
note_as_told : (ed : Edition) (s : List ℕ) (a : Before) (c : ℕ) (t : List ℕ) → ((octave_of c t).fine ≡ false → TokenMeets ed s 12)
    → ((octave_of c t).fine ≡ true → many_slashes ed (drop (octave_of c t).used t) ≡ true → TokenMeets ed s 22) → Told ed s (note_as ed a c t).token
unfolding note_as Told
note_as_told ed s a c t h g =
    by_test (octave_of c t).fine (λ e. rw (e, note_as) (with_length_lem (λ x. Told ed s x.token) ed _ (drop (octave_of c t).used t) _ (g e) (λ m. tt))) (λ e. rw (e, note_as) (h e))

note_told : (ed : Edition) (s : List ℕ) (a : Before) (r : List ℕ) → ((c : ℕ) (t : List ℕ) → r ≡ c ∷ t → is_letter c ≡ true → (octave_of c t).fine ≡ false → TokenMeets ed s 12)
    → ((c : ℕ) (t : List ℕ) → r ≡ c ∷ t → is_letter c ≡ true → (octave_of c t).fine ≡ true → many_slashes ed (drop (octave_of c t).used t) ≡ true → TokenMeets ed s 22) → Told ed s (note_after ed a r).token
unfolding note_after Told
note_told ed s a [] h g = tt
note_told ed s a (c ∷ t) h g = by_test (is_letter c) (λ e. rw (e, note_after) (note_as_told ed s a c t (h c t refl e) (g c t refl e))) (λ e. rw (e, note_after) tt)

-- an inline field f
unless_told : (ed : Edition) (s : List ℕ) (k : Key) (o : Option ℕ) → (o ≡ none → InSeven k) → ((n : ℕ) → o ≡ some n → TokenMeets ed s n) → Told ed s (token_unless k o)
unfolding token_unless Told
unless_told ed s k none g h = g refl
unless_told ed s k (some n) g h = h n refl

key_told : (ed : Edition) (s v : List ℕ) → ((n : ℕ) → KeyMeets ed v n → TokenMeets ed s n) → Told ed s (key_token ed v)
unfolding key_token
key_told ed s v h = unless_told ed s (key_of ed v) (key_refusal ed v) (key_range ed v) (λ n e. h n (key_field_why ed v n e))

unit_told : (ed : Edition) (s : List ℕ) (o : Option ℕ) → Told ed s (unit_token o)
unfolding unit_token Told
unit_told ed s none = tt
unit_told ed s (some u) = tt

-- `K:` at the front, byte by byte
pub k_here : (f : List ℕ) → is ":" (first (drop 1 f)) ≡ true → is "K" (first f) ≡ true → is_k f ≡ true
k_here [] e k = absurd (false≢true e)
k_here (x ∷ []) e k = absurd (false≢true e)
k_here (x ∷ (y ∷ r)) e k = and_both (eqb x 75) (eqb y 58) k e

field_told : (ed : Edition) (s f : List ℕ) → (is_k f ≡ true → (n : ℕ) → KeyMeets ed (drop 2 f) n → TokenMeets ed s n) → Told ed s (field_token ed f)
unfolding field_token Told
field_told ed s f h =
    by_test (is ":" (first (drop 1 f)))
    (λ e. rw (e, field_token)
    (by_test (is "L" (first f)) (λ a. rw (a, field_token) (unit_told ed s (unit_inline (drop 2 f))))
    (λ a. rw (a, field_token)
    (by_test (is "M" (first f)) (λ b. rw (b, field_token) tt)
    (λ b. rw (b, field_token) (by_test (is "K" (first f)) (λ k. rw (k, field_token) (key_told ed s (drop 2 f) (h (k_here f e k)))) (λ k. rw (k, field_token) tt)))))))
    (λ e. rw (e, field_token) tt)

-- a chord
chord_told : (ed : Edition) (s : List ℕ) (n : ℕ) (r : List ℕ) (o : Option (List Written)) → (o ≡ none → TokenMeets ed s 12)
    → ((ws : List Written) → o ≡ some ws → many_slashes ed r ≡ true → TokenMeets ed s 22) → Told ed s (chord_taken ed n r o).token
unfolding chord_taken Told
chord_told ed s n r none h g = h refl
chord_told ed s n r (some []) h g = with_length_lem (λ x. Told ed s x.token) ed _ r _ (g [] refl) (λ m. tt)
chord_told ed s n r (some (w ∷ ws)) h g = with_length_lem (λ x. Told ed s x.token) ed _ r _ (g (w ∷ ws) refl) (λ m. tt)

-- an ending
list_told : (ed : Edition) (s : List ℕ) (n : ℕ) (r : List ℕ) (o : Option (List Item)) → (o ≡ none → TokenMeets ed s 14)
    → ((is : List Item) → o ≡ some is → all is_pass (numbers_in is) ≡ false → TokenMeets ed s 17)
    → ((is : List Item) → o ≡ some is → all is_pass (numbers_in is) ≡ true → rise (numbers_in is) ≡ false → TokenMeets ed s 18) → Told ed s (volta_as n r (tested o)).token
unfolding tested volta_as Told
list_told ed s n r none h g f = h refl
list_told ed s n r (some is) h g f =
    by_test (all is_pass (numbers_in is)) (λ a. rw (a, tested) (by_test (rise (numbers_in is)) (λ b. rw (b, tested) tt) (λ b. rw (b, tested) (f is refl a b))))
    (λ a. rw (a, tested) (g is refl a))

-- what a `[` begins; r stands behind it
bracket_told : (ed : Edition) (s : List ℕ) → class_of (first s) ≡ bracket → Told ed s (bracket_of ed (drop 1 s)).token
unfolding bracket_of volta_of inline_at chord_at
bracket_told ed s k =
    by_test (is_digit (first (drop 1 s)))
    (λ e. rw (e, bracket_of) (list_told ed s (count_while is_pass_byte (drop 1 s)) (drop 1 s) (pass_items (drop 1 s)) (list_shape k e) (λ ts. list_range ts k e) (λ ts. list_rise ts k e)))
    (λ e. rw (e, bracket_of)
    (by_test (is_inline (drop 1 s)) (λ f. rw (f, bracket_of) (field_told ed s (bracketed (drop 1 s)) (λ i n. key_inline k f i)))
    (λ f. rw (f, bracket_of)
    (let n = count_while (λ c. not (is "]" c)) (drop 1 s) in
    chord_told ed s (cond (ltb n (length (drop 1 s))) (2 + n) (1 + n)) (after_bracket (drop 1 s)) (chord_of 0 none (drop 1 s)) (octave_chord k e f) (λ ws. slashes_chord ws k e f)))))

as_told : (ed : Edition) (k : Class) (s : List ℕ) → class_of (first s) ≡ k → Told ed s (token_as ed k s).token
unfolding token_as rest_as barline_of note_of Told
as_told ed white s e = tt
as_told ed ampersand s e = tt
as_told ed quote s e = closed_told ed s (is "\"") quoted (drop 1 s) (taken quoted (length s)) tt tt
as_told ed more s e = broken_told ed s true (suc (count_while (is ">") (drop 1 s))) s (many_more e)
as_told ed less s e = broken_told ed s false (suc (count_while (is "<") (drop 1 s))) s (many_less e)
as_told ed paren s e = tuplet_told ed s (drop 1 s)
as_told ed brace_open s e = tt
as_told ed brace_close s e = tt
as_told ed bang s e = closed_told ed s (is "!") decoration (drop 1 s) (taken skipped 1) tt tt
as_told ed plus s e = closed_told ed s (is "+") decoration (drop 1 s) (taken skipped 1) tt tt
as_told ed bars s e = bar_told ed s s (symbol_at bar_symbols s)
as_told ed bracket s e = bracket_told ed s e
as_told ed pitched s e = note_told ed s (accidental_of s) (drop (accidental_of s).used s) (λ c t. octave_note c t e) (λ c t. slashes_note c t e)
as_told ed none-of-these s e = tt
as_told ed (resting k) s e = with_length_lem (λ x. Told ed s x.token) ed _ (drop 1 s) _ (slashes_rest k e) (λ m. tt)

told : (ed : Edition) (s : List ℕ) → Told ed s (token_of ed s).token
unfolding token_of
told ed s = as_told ed (class_of (first s)) s refl

-- the token at the front of s is refused by n: s meets the condition of n
pub token_why : (ed : Edition) (s : List ℕ) (n : ℕ) → effect_of (token_of ed s).token ≡ refuses n → TokenMeets ed s n
unfolding Said
token_why ed s n e = subst (Said ed s) e (said ed s (token_of ed s).token (told ed s))

-- a key at the front of s is within seven sharps or flats
pub token_key : (ed : Edition) (s : List ℕ) (k : Key) → (token_of ed s).token ≡ key k → InSeven k
unfolding Told
token_key ed s k e = subst (Told ed s) e (told ed s)

-- A TOKEN THAT MEETS A CONDITION IS REFUSED BY ITS NUMBER
k_first : (c : ℕ) (u : List ℕ) → is_k (c ∷ u) ≡ true → eqb c 75 ≡ true
k_first c [] e = absurd (false≢true e)
k_first c (d ∷ u) e = and_left (eqb c 75) (eqb d 58) e

-- behind `[K:` stands no digit
no_digit : (r : List ℕ) → is_k (bracketed r) ≡ true → is_digit (first r) ≡ false
no_digit [] e = absurd (false≢true e)
no_digit (c ∷ t) e =
    by_test (is "]" c) (λ f. absurd (false≢true (subst (λ (x : List ℕ). is_k x ≡ true) (at_end f) e)))
    (λ f. ap is_digit (eqb-true c 75 (k_first c (bracketed t) (subst (λ (x : List ℕ). is_k x ≡ true) (inside f) e))))
  where
    at_end : is "]" c ≡ true → bracketed (c ∷ t) ≡ []
    at_end f = ap (λ (n : ℕ). take n (c ∷ t)) (count_while_no (λ c. not (is "]" c)) c t (ap not f))

    inside : is "]" c ≡ false → bracketed (c ∷ t) ≡ c ∷ bracketed t
    inside f = ap (λ (n : ℕ). take n (c ∷ t)) (count_while_yes (λ c. not (is "]" c)) c t (ap not f))

field_refused : (ed : Edition) (f : List ℕ) (n : ℕ) → is_k f ≡ true → KeyMeets ed (drop 2 f) n → field_token ed f ≡ refused n
unfolding field_token key_token token_unless
field_refused ed [] n k m = absurd (false≢true k)
field_refused ed (x ∷ []) n k m = absurd (false≢true k)
field_refused ed (x ∷ (y ∷ r)) n k m =
    let e : x ≡ 75 = eqb-true x 75 (and_left (eqb x 75) (eqb y 58) k) in
    let g : y ≡ 58 = eqb-true y 58 (and_right (eqb x 75) (eqb y 58) k) in
    rw (e, g) (rw (key_field_meets ed r n m, token_unless))

-- a length of too many slashes
many_refused : (ed : Edition) (end : ℕ) (s : List ℕ) (f : Length → Taken) → many_slashes ed s ≡ true → (with_length ed end s f).token ≡ refused 22
many_refused ed end s f m = ap (λ (x : Taken). x.token) (with_many ed end s f m)

chord_many : (ed : Edition) (n : ℕ) (r : List ℕ) (ws : List Written) → many_slashes ed r ≡ true → (chord_taken ed n r (some ws)).token ≡ refused 22
unfolding chord_taken
chord_many ed n r [] m = many_refused ed _ r _ m
chord_many ed n r (w ∷ ws) m = many_refused ed _ r _ m

pub token_meets : (ed : Edition) (s : List ℕ) (n : ℕ) → TokenMeets ed s n → effect_of (token_of ed s).token ≡ refuses n
unfolding token_of token_as bracket_of inline_at chord_at chord_taken rest_as note_of note_after note_as broken_of volta_of volta_as tested effect_of
token_meets ed s n (key_inline k f i m) =
    rw (k, token_as) (rw (no_digit (drop 1 s) i, bracket_of) (rw (f, bracket_of) (rw (field_refused ed (bracketed (drop 1 s)) n i m))))
token_meets ed s n (octave_note c t k d l o) = rw (k, token_as) (rw (d, note_after) (rw (l, note_after) (rw (o, note_as))))
token_meets ed s n (octave_chord k d i e) = rw (k, token_as) (rw (d, bracket_of) (rw (i, bracket_of) (rw (e, chord_taken))))
token_meets ed s n (many_more k h) = rw (k, token_as) (rw (lt-ltb 255 (suc (count_while (is ">") (drop 1 s))) h, broken_of))
token_meets ed s n (many_less k h) = rw (k, token_as) (rw (lt-ltb 255 (suc (count_while (is "<") (drop 1 s))) h, broken_of))
token_meets ed s n (list_shape k d e) = rw (k, token_as) (rw (d, bracket_of) (rw (e, volta_as)))
token_meets ed s n (list_range ts k d e a) = rw (k, token_as) (rw (d, bracket_of) (rw (e, volta_as) (rw (a, tested))))
token_meets ed s n (list_rise ts k d e a b) = rw (k, token_as) (rw (d, bracket_of) (rw (e, volta_as) (rw (a, tested) (rw (b, tested)))))
token_meets ed s n (slashes_note c t k d l o m) = rw (k, token_as) (rw (d, note_after) (rw (l, note_after) (rw (o, note_as) (ap effect_of (many_refused ed _ (drop (octave_of c t).used t) _ m)))))
token_meets ed s n (slashes_chord ws k d i e m) = rw (k, token_as) (rw (d, bracket_of) (rw (i, bracket_of) (rw e (ap effect_of (chord_many ed _ (after_bracket (drop 1 s)) ws m)))))
token_meets ed s n (slashes_rest k e m) = rw (e, token_as) (ap effect_of (many_refused ed _ (drop 1 s) _ m))

-- of a chord, in document 01's words: a letter of it whose octave marks leave the range
abbrev pub Out : List ℕ → Type 0
Out s = (i : ℕ) × (c : ℕ) × (t : List ℕ) × ((drop i s ≡ c ∷ t) × ((is_letter c ≡ true) × ((octave_of c t).fine ≡ false)))

later : (c : ℕ) (s : List ℕ) → Out s → Out (c ∷ s)
later c s q = (suc q.0, q.1, q.2, q.3)

some_not : {A : Type 0} (x : A) → some x ≡ none → ⊥
some_not x e = let z : ◌≡◌ {A = ℕ} 0 1 = cc in omega (arith, z)

cons_out : (c : ℕ) (a : Option Accidental) (s : List ℕ) (o : Option (List Written)) → (o ≡ none → Out s) → is_letter c ≡ true → cons_pitch c a (octave_of c s) o ≡ none → Out (c ∷ s)
unfolding cons_pitch
cons_out c a s none h l e = later c s (h refl)
cons_out c a s (some ps) h l e =
    by_test (octave_of c s).fine (λ f. absurd (some_not _ (rw (f, cons_pitch) at e))) (λ f. (0, c, s, (refl, (l, f))))

chord_step : (c : ℕ) (a : Option Accidental) (s : List ℕ) → ((k : ℕ) (b : Option Accidental) → chord_of k b s ≡ none → Out s) → chord_of 0 a (c ∷ s) ≡ none → Out (c ∷ s)
unfolding chord_of
chord_step c a s rec e =
    by_test (is "]" c) (λ b. absurd (some_not _ (rw (b, chord_of) at e)))
    (λ b. by_test (is "^" c || is "_" c)
    (λ f. by_test (is_quarter a s) (λ g. later c s (rec 1 (some (quarter_tone (is "^" c))) (rw (b, f, g, chord_of) at e)))
    (λ g. later c s (rec 0 (some (added (is "^" c) a)) (rw (b, f, g, chord_of) at e))))
    (λ f. by_test (is "=" c) (λ g. later c s (rec 0 (some natural) (rw (b, f, g, chord_of) at e)))
    (λ g. by_test (is_letter c) (λ l. cons_out c a s (chord_of (octave_of c s).used none s) (rec (octave_of c s).used none) l (rw (b, f, g, l, chord_of) at e))
    (λ l. later c s (rec 0 a (rw (b, f, g, l, chord_of) at e))))))

pub chord_out : (k : ℕ) (a : Option Accidental) (s : List ℕ) → chord_of k a s ≡ none → Out s
unfolding chord_of
chord_out k a [] e = absurd (some_not _ e)
chord_out (suc k) a (c ∷ s) e = later c s (chord_out k a s e)
chord_out zero a (c ∷ s) e = chord_step c a s (λ k b. chord_out k b s) e

-- A LINE, with m notes before it
-- the refusals behind what has none
first_append : (m : ℕ) (xs ys : List Effect) → first_refusal m xs ≡ none → first_refusal m (xs ++ ys) ≡ first_refusal (m + note_count xs) ys
unfolding first_refusal note_count
first_append m [] ys h = ap (λ (k : ℕ). first_refusal k ys) (sym (add-zero m))
first_append m (counts ∷ xs) ys h =
    by_test (ltb m most_notes)
    (λ e. let k : suc m + note_count xs ≡ m + suc (note_count xs) = omega arith in rw e (first_append (suc m) xs ys (rw e at h) ∙ ap (λ (i : ℕ). first_refusal i ys) k))
    (λ e. absurd (some_not 11 (rw e at h)))
first_append m (refuses n ∷ xs) ys h = absurd (some_not n h)
first_append m (sets_unit u ∷ xs) ys h = first_append m xs ys h
first_append m (sets_meter t ∷ xs) ys h = first_append m xs ys h
first_append m (no_effect ∷ xs) ys h = first_append m xs ys h

here_first : (ed : Edition) (m n : ℕ) (s : List ℕ) (es : List Effect) → Here ed m s n → first_refusal m (effect_of (token_of ed s).token ∷ es) ≡ some n
unfolding first_refusal
here_first ed m n s es (token t) = ap (λ (x : Effect). first_refusal m (x ∷ es)) (token_meets ed s n t)
here_first ed m n s es (note c h) =
    ap (λ (x : Effect). first_refusal m (x ∷ es)) c ∙ ap (λ (b : Bool). cond b (first_refusal (suc m) es) (some 11)) (le-ltb m most_notes h)

-- a music line that meets a condition is refused by its number
pub music_meets : (ed : Edition) (m n : ℕ) (l : List ℕ) → InMusic ed m l n → first_refusal m (effects ed l) ≡ some n
unfolding effects
music_meets ed m n l q =
    let i = q.place in
    let xs = map effect_of q.before in
    ap (λ (ts : List Token). first_refusal m (map effect_of ts)) (q.are ∙ ap (λ (ts : List Token). q.before ++ ts) (tokens_at ed l i q.inside))
    ∙ ap (first_refusal m) (map_append effect_of q.before _)
    ∙ first_append m xs _ q.fine
    ∙ here_first ed (m + note_count xs) n (drop i l) _ q.here

-- the same for the tokens behind k bytes of one
pub record Found (ed : Edition) (m k : ℕ) (s : List ℕ) (n : ℕ) : Type 0 where
  pub place : ℕ
  pub before : List Token
  pub are : tokens ed k s ≡ before ++ tokens ed 0 (drop place s)
  pub inside : place < length s
  pub fine : first_refusal m (map effect_of before) ≡ none
  pub here : Here ed (m + note_count (map effect_of before)) (drop place s) n

-- a token passed over that counts nothing and refuses nothing; one that counts a note
found_behind : (ed : Edition) (m k n : ℕ) (c : ℕ) (s : List ℕ) (t : Token) → ((b : List Effect) → first_refusal m (effect_of t ∷ b) ≡ first_refusal m b) → ((b : List Effect) → note_count (effect_of t ∷ b) ≡ note_count b)
    → tokens ed 0 (c ∷ s) ≡ t ∷ tokens ed k s → Found ed m k s n → Found ed m 0 (c ∷ s) n
found_behind ed m k n c s t f g e q =
    record {
      place = suc q.place;
      before = t ∷ q.before;
      are = e ∙ ap (λ (ts : List Token). t ∷ ts) q.are;
      inside = omega (arith, q.inside);
      fine = f (map effect_of q.before) ∙ q.fine;
      here = subst (λ (i : ℕ). Here ed (m + i) (drop q.place s) n) (sym (g (map effect_of q.before))) q.here;
    }

found_note : (ed : Edition) (m k n : ℕ) (c : ℕ) (s : List ℕ) (t : Token) → effect_of t ≡ counts → ltb m most_notes ≡ true → tokens ed 0 (c ∷ s) ≡ t ∷ tokens ed k s → Found ed (suc m) k s n → Found ed m 0 (c ∷ s) n
unfolding first_refusal note_count
found_note ed m k n c s t h l e q =
    let xs = map effect_of q.before in
    let j : suc m + note_count xs ≡ m + suc (note_count xs) = omega arith in
    record {
      place = suc q.place;
      before = t ∷ q.before;
      are = e ∙ ap (λ (ts : List Token). t ∷ ts) q.are;
      inside = omega (arith, q.inside);
      fine = ap (λ (x : Effect). first_refusal m (x ∷ xs)) h ∙ ap (λ (b : Bool). cond b (first_refusal (suc m) xs) (some 11)) l ∙ q.fine;
      here = subst (λ (i : ℕ). Here ed i (drop q.place s) n) (j ∙ ap (λ (x : Effect). m + note_count (x ∷ xs)) (sym h)) q.here;
    }

the_number : Option ℕ → ℕ
the_number none = 0
the_number (some n) = n

-- the token at the front is the first refused
found_here : (ed : Edition) (m n : ℕ) (c : ℕ) (s : List ℕ) → Here ed m (c ∷ s) n → Found ed m 0 (c ∷ s) n
unfolding first_refusal note_count
found_here ed m n c s h =
    record { place = 0; before = []; are = refl; inside = omega arith; fine = refl; here = subst (λ (i : ℕ). Here ed i (c ∷ s) n) (sym (add-zero m)) h }

-- by what the first token does
found_by : (ed : Edition) (m n : ℕ) (c : ℕ) (s : List ℕ) (k : ℕ) → tokens ed 0 (c ∷ s) ≡ (token_of ed (c ∷ s)).token ∷ tokens ed k s
    → ((i : ℕ) → first_refusal i (map effect_of (tokens ed k s)) ≡ some n → Found ed i k s n)
    → (x : Effect) → effect_of (token_of ed (c ∷ s)).token ≡ x → first_refusal m (x ∷ map effect_of (tokens ed k s)) ≡ some n → Found ed m 0 (c ∷ s) n
unfolding first_refusal note_count the_number
found_by ed m n c s k e rec counts h f =
    by_test (ltb m most_notes) (λ l. found_note ed m k n c s _ h l e (rec (suc m) (rw l at f)))
    (λ l. subst (λ (j : ℕ). Found ed m 0 (c ∷ s) j) (ap the_number (subst (λ (b : Bool). cond b (first_refusal (suc m) (map effect_of (tokens ed k s))) (some 11) ≡ some n) l f))
    (found_here ed m 11 c s (note h (ltb-false m most_notes l))))
found_by ed m n c s k e rec (refuses j) h f =
    subst (λ (i : ℕ). Found ed m 0 (c ∷ s) i) (ap the_number f) (found_here ed m j c s (token (token_why ed (c ∷ s) j h)))
found_by ed m n c s k e rec (sets_unit u) h f = found_behind ed m k n c s _ (λ b. ap (λ (x : Effect). first_refusal m (x ∷ b)) h) (λ b. ap (λ (x : Effect). note_count (x ∷ b)) h) e (rec m f)
found_by ed m n c s k e rec (sets_meter t) h f = found_behind ed m k n c s _ (λ b. ap (λ (x : Effect). first_refusal m (x ∷ b)) h) (λ b. ap (λ (x : Effect). note_count (x ∷ b)) h) e (rec m f)
found_by ed m n c s k e rec no_effect h f = found_behind ed m k n c s _ (λ b. ap (λ (x : Effect). first_refusal m (x ∷ b)) h) (λ b. ap (λ (x : Effect). note_count (x ∷ b)) h) e (rec m f)

found : (ed : Edition) (k : ℕ) (s : List ℕ) (m n : ℕ) → first_refusal m (map effect_of (tokens ed k s)) ≡ some n → Found ed m k s n
unfolding tokens first_refusal
found ed k [] m n e = absurd (let z : ◌≡◌ {A = ℕ} 0 1 = cc in omega (arith, z))
found ed (suc k) (c ∷ s) m n e =
    let q = found ed k s m n e in record { place = suc q.place; before = q.before; are = q.are; inside = omega (arith, q.inside); fine = q.fine; here = q.here }
found ed zero (c ∷ s) m n e =
    let k = pred (token_of ed (c ∷ s)).used in
    found_by ed m n c s k refl (λ i. found ed k s i n) (effect_of (token_of ed (c ∷ s)).token) refl e

-- a music line that is refused by n meets the condition of n, at the first place where one is met
pub first_why : (ed : Edition) (m n : ℕ) (l : List ℕ) → first_refusal m (effects ed l) ≡ some n → InMusic ed m l n
unfolding effects
first_why ed m n l e =
    let q = found ed 0 l m n e in record { place = q.place; before = q.before; are = q.are; inside = q.inside; fine = q.fine; here = q.here }

-- THE NUMBERS of a line's refusals: 4 to 14, 17, 18, 21, 22
abbrev pub LineNumber : ℕ → Type 0
LineNumber n = any (eqb n) (4 ∷ 5 ∷ 6 ∷ 7 ∷ 8 ∷ 9 ∷ 10 ∷ 11 ∷ 12 ∷ 13 ∷ 14 ∷ 17 ∷ 18 ∷ 21 ∷ 22 ∷ []) ≡ true

-- those of a K field and of music are 10 and above
pub key_field_range : (ed : Edition) (v : List ℕ) (n : ℕ) → KeyMeets ed v n → (10 ≤ n) × LineNumber n
key_field_range ed v n (middle ws w us e m k) = (omega arith, refl)
key_field_range ed v n (beyond ws w us e k f m) = (omega arith, refl)

here_range : (ed : Edition) (m n : ℕ) (s : List ℕ) → Here ed m s n → (10 ≤ n) × LineNumber n
here_range ed m n s (token (key_inline k f i h)) = key_field_range ed (drop 2 (bracketed (drop 1 s))) n h
here_range ed m n s (token (octave_note c t k d l o)) = (omega arith, refl)
here_range ed m n s (token (octave_chord k d i e)) = (omega arith, refl)
here_range ed m n s (token (many_more k h)) = (omega arith, refl)
here_range ed m n s (token (many_less k h)) = (omega arith, refl)
here_range ed m n s (token (list_shape k d e)) = (omega arith, refl)
here_range ed m n s (token (list_range ts k d e a)) = (omega arith, refl)
here_range ed m n s (token (list_rise ts k d e a b)) = (omega arith, refl)
here_range ed m n s (token (slashes_note c t k d l o h)) = (omega arith, refl)
here_range ed m n s (token (slashes_chord ws k d i e h)) = (omega arith, refl)
here_range ed m n s (token (slashes_rest k e h)) = (omega arith, refl)
here_range ed m n s (note c h) = (omega arith, refl)

pub music_range : (ed : Edition) (m n : ℕ) (l : List ℕ) → InMusic ed m l n → (10 ≤ n) × LineNumber n
music_range ed m n l q = here_range ed (m + note_count (map effect_of q.before)) n (drop q.place l) q.here
