-- The pitches of a chord token are those that `next_chord_pitch` reads behind its `[`, one by one (`next_pitch` in token_pitches).
use Prim.Native.Nat.{ℕ, suc, ◌+◌}
use mathlib.Core.Path.{◌≡◌, refl, sym, ap, ◌∙◌}
use mathlib.Core.Bool.{Bool, true, false, not}
use mathlib.Core.Option.{Option, none, some}
use mathlib.Core.List.{List, [], ◌∷◌}
use native.Mathlib.Omega.{arith}
use lib.Dec.{ltb}
use lib.ListN.{length, take, drop}
use lib.Seq.{drop-drop}
use Rattle.laws.specs.Lists.{count_while}
use Rattle.laws.proofs.Bools.{by_test}
use Rattle.standard.specs.Bytes.{is, is_digit, first}
use Rattle.standard.specs.Bars.{Symbol, bar_symbols, symbol_at}
use Rattle.standard.specs.Pitches.{Written, is_letter}
use Rattle.editions.specs.declared.Edition.{Edition}
use Rattle.reader.specs.Lengths.{Length}
use Rattle.reader.specs.Fields.{unit_inline, key_refusal}
use Rattle.reader.specs.Pitches.{Before, octave_of, accidental_of, chord_of}
use Rattle.reader.specs.Token.{Token, space, overlay, quoted, broken, tuplet, slur, grace_open, grace_close, decoration, barline, volta, unit, meter, key, field, chord, rest, note, nothing, skipped, refused, Taken, taken}
use Rattle.reader.specs.Tuplets.{tuplet_of, or_slur}
use Rattle.reader.specs.Barlines.{barline_as, barline_of}
use Rattle.reader.specs.PassLists.{Listed, listed, faulty, is_pass_byte, list_of, volta_as, volta_of}
use Rattle.reader.specs.Inline.{unit_token, key_token, field_token, is_inline, inline_at, token_unless}
use Rattle.reader.specs.Sounds.{chord_taken, chord_at, rest_as, note_as, note_after, note_of}
use Rattle.reader.specs.Tokens.{closed_by, broken_of, bracket_of, Class, white, ampersand, quote, more, less, paren, brace_open, brace_close, bang, plus, bars, bracket, pitched, none-of-these, resting, class_of, token_as, token_of}
use Rattle.reader.specs.Keys.{key_of}
use Rattle.reader.proofs.LengthLaws.{with_length_lem}
use Rattle.token_lexemes.proofs.Ratio.{Form, form}
use Rattle.standard.specs.Notes.{Behind}
use Rattle.standard.specs.Keys.{Key}

-- a chord's pitches
unfoldable pitches_in : Token → Option (List Written)
pitches_in space = none
pitches_in overlay = none
pitches_in quoted = none
pitches_in (broken up n) = none
pitches_in (tuplet t) = none
pitches_in slur = none
pitches_in grace_open = none
pitches_in grace_close = none
pitches_in decoration = none
pitches_in (barline b o) = none
pitches_in (volta ps) = none
pitches_in (unit u) = none
pitches_in (meter m) = none
pitches_in (key k) = none
pitches_in field = none
pitches_in (chord ps l b) = some ps
pitches_in (rest k l) = none
pitches_in (note p l b) = none
pitches_in nothing = none
pitches_in skipped = none
pitches_in (refused n) = none

-- no other token is a chord
closed_none : (p : ℕ → Bool) (t : Token) (s : List ℕ) (o : Taken) → pitches_in t ≡ none → pitches_in o.token ≡ none → pitches_in (closed_by p t s o).token ≡ none
unfolding closed_by
closed_none p t s o a b = by_test (ltb (count_while (λ c. not (p c)) s) (length s)) (λ e. rw (e, closed_by) a) (λ e. rw (e, closed_by) b)

broken_none : (up : Bool) (n : ℕ) (s : List ℕ) → pitches_in (broken_of up n s).token ≡ none
unfolding broken_of pitches_in
broken_none up n s = by_test (ltb 255 n) (λ e. rw (e, broken_of)) (λ e. rw (e, broken_of))

slur_none : (o : Option Taken) → Form o → pitches_in (or_slur o).token ≡ none
unfolding or_slur Form pitches_in
slur_none none f = refl
slur_none (some t) f = ap pitches_in f.is_it

bar_none : (s : List ℕ) (o : Option Symbol) → pitches_in (barline_as s o).token ≡ none
unfolding barline_as pitches_in
bar_none s none = refl
bar_none s (some x) = refl

volta_none : (n : ℕ) (s : List ℕ) (o : Listed) → pitches_in (volta_as n s o).token ≡ none
unfolding volta_as pitches_in
volta_none n s (faulty k) = refl
volta_none n s (listed ps) = refl

unit_none : (o : Option ℕ) → pitches_in (unit_token o) ≡ none
unfolding unit_token pitches_in
unit_none none = refl
unit_none (some u) = refl

unless_none : (k : Key) (o : Option ℕ) → pitches_in (token_unless k o) ≡ none
unfolding token_unless pitches_in
unless_none k none = refl
unless_none k (some n) = refl

field_none : (ed : Edition) (s : List ℕ) → pitches_in (field_token ed s) ≡ none
unfolding field_token key_token pitches_in
field_none ed s =
    by_test (is ":" (first (drop 1 s)))
    (λ e. rw (e, field_token)
    (by_test (is "L" (first s))
    (λ f. rw f (unit_none (unit_inline (drop 2 s))))
    (λ f. rw f (by_test (is "M" (first s)) (λ g. rw g) (λ g. rw g (by_test (is "K" (first s)) (λ h. rw h (unless_none (key_of ed (drop 2 s)) (key_refusal ed (drop 2 s)))) (λ h. rw h)))))))
    (λ e. rw (e, field_token))

note_none : (ed : Edition) (a : Before) (s : List ℕ) → pitches_in (note_after ed a s).token ≡ none
unfolding note_after note_as pitches_in
note_none ed a [] = refl
note_none ed a (c ∷ s) =
    by_test (is_letter c)
    (λ e. rw (e, note_after) (by_test (octave_of c s).fine
    (λ f. rw (f, note_as) (with_length_lem (λ t. pitches_in t.token ≡ none) ed (a.used + 1 + length s) (drop (octave_of c s).used s) _ (λ m. refl) (λ m. refl)))
    (λ f. rw (f, note_as))))
    (λ e. rw (e, note_after))

-- none is not some
never : {P : Type 0} (t : Token) (ps : List Written) → pitches_in t ≡ none → pitches_in t ≡ some ps → P
never t ps a b = let z : ◌≡◌ {A = ℕ} 0 1 = cc in absurd (omega arith)

chord_some : (ed : Edition) (n : ℕ) (s : List ℕ) (o : Option (List Written)) (ps : List Written) → pitches_in (chord_taken ed n s o).token ≡ some ps → o ≡ some ps
unfolding chord_taken pitches_in
chord_some ed n s none ps e = e
chord_some ed n s (some []) ps e =
    with_length_lem (λ t. pitches_in t.token ≡ some ps → some [] ≡ some ps) ed (n + length s) s _ (λ m. never (refused 22) ps refl) (λ m. never nothing ps refl) e
chord_some ed n s (some (p ∷ qs)) ps e =
    with_length_lem (λ t. pitches_in t.token ≡ some ps → some (p ∷ qs) ≡ some ps) ed (n + length s) s _ (λ m. never (refused 22) ps refl) (λ m q. q) e

of_bracket : (ed : Edition) (s : List ℕ) (ps : List Written) → pitches_in (bracket_of ed s).token ≡ some ps → chord_of 0 none s ≡ some ps
unfolding bracket_of volta_of inline_at chord_at
of_bracket ed s ps e =
    by_test (is_digit (first s))
    (λ d. never (volta_of s).token ps (volta_none (count_while is_pass_byte s) s (list_of (take (count_while is_pass_byte s) s))) (rw (d, bracket_of) at e))
    (λ d. by_test (is_inline s)
    (λ i. never (inline_at ed s).token ps (field_none ed (take (count_while (λ c. not (is "]" c)) s) s)) (rw i at (rw (d, bracket_of) at e)))
    (λ i. chord_some ed _ _ (chord_of 0 none s) ps (rw i at (rw (d, bracket_of) at e))))

of_class : (ed : Edition) (x : Class) (s : List ℕ) (ps : List Written) → pitches_in (token_as ed x s).token ≡ some ps → chord_of 0 none (drop 1 s) ≡ some ps
unfolding token_as barline_of note_of rest_as pitches_in
of_class ed white s ps e = never space ps refl e
of_class ed ampersand s ps e = never overlay ps refl e
of_class ed quote s ps e = never (closed_by (is "\"") quoted (drop 1 s) (taken quoted (length s))).token ps (closed_none (is "\"") quoted (drop 1 s) (taken quoted (length s)) refl refl) e
of_class ed more s ps e = never (broken_of true (suc (count_while (is ">") (drop 1 s))) s).token ps (broken_none true (suc (count_while (is ">") (drop 1 s))) s) e
of_class ed less s ps e = never (broken_of false (suc (count_while (is "<") (drop 1 s))) s).token ps (broken_none false (suc (count_while (is "<") (drop 1 s))) s) e
of_class ed paren s ps e = never (or_slur (tuplet_of ed (drop 1 s))).token ps (slur_none (tuplet_of ed (drop 1 s)) (form ed (drop 1 s))) e
of_class ed brace_open s ps e = never grace_open ps refl e
of_class ed brace_close s ps e = never grace_close ps refl e
of_class ed bang s ps e = never (closed_by (is "!") decoration (drop 1 s) (taken skipped 1)).token ps (closed_none (is "!") decoration (drop 1 s) (taken skipped 1) refl refl) e
of_class ed plus s ps e = never (closed_by (is "+") decoration (drop 1 s) (taken skipped 1)).token ps (closed_none (is "+") decoration (drop 1 s) (taken skipped 1) refl refl) e
of_class ed bars s ps e = never (barline_as s (symbol_at bar_symbols s)).token ps (bar_none s (symbol_at bar_symbols s)) e
of_class ed bracket s ps e = of_bracket ed (drop 1 s) ps e
of_class ed pitched s ps e = never (note_after ed (accidental_of s) (drop (accidental_of s).used s)).token ps (note_none ed (accidental_of s) (drop (accidental_of s).used s)) e
of_class ed none-of-these s ps e = never skipped ps refl e
of_class ed (resting k) s ps e =
    never (rest_as ed k (drop 1 s)).token ps (with_length_lem (λ t. pitches_in t.token ≡ none) ed (suc (length (drop 1 s))) (drop 1 s) _ (λ m. refl) (λ m. refl)) e

-- THE LAW
pub chord_pitches : (ed : Edition) (line : List ℕ) (at : ℕ) (ps : List Written) (l : Length) (b : Behind) → (token_of ed (drop at line)).token ≡ chord ps l b → chord_of 0 none (drop (at + 1) line) ≡ some ps
unfolding token_of pitches_in
chord_pitches ed line at ps l b e = ap (chord_of 0 none) (sym (drop-drop 1 at line)) ∙ of_class ed (class_of (first (drop at line))) (drop at line) ps (ap pitches_in e)
