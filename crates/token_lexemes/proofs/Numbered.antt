-- A token that is refused is refused by the number of one of the refusals: broken rhythm, endings, notes, and what a `[` begins with.
use Prim.Native.Nat.{ℕ}
use mathlib.Core.Path.{◌≡◌, refl, subst}
use mathlib.Core.Bool.{Bool, ◌&&◌}
use mathlib.Core.Option.{Option, none, some}
use mathlib.Core.List.{List, [], ◌∷◌}
use native.Mathlib.Omega.{arith}
use lib.Dec.{ltb}
use lib.ListN.{drop}
use Rattle.laws.specs.Lists.{all, starts_with}
use Rattle.laws.proofs.Bools.{by_test}
use Rattle.standard.specs.Bytes.{ascii, is, first, is_digit}
use Rattle.standard.specs.Keys.{Key}
use Rattle.standard.specs.Passes.{Item}
use Rattle.standard.specs.Pitches.{Written, is_letter}
use Rattle.editions.specs.declared.Edition.{Edition}
use Rattle.editions.specs.declared.Edition.TheVariants.{First, Second}
use Rattle.reader.specs.Keys.{is_key_word, key_of}
use Rattle.reader.specs.Fields.{unit_inline, middle_word, first_met, key_refusal}
use Rattle.reader.specs.Inline.{is_inline, unit_token, token_unless, key_token, field_token, inline_at}
use Rattle.reader.specs.PassLists.{Listed, listed, faulty, is_pass, numbers_in, rise, tested, volta_as, volta_of}
use Rattle.reader.specs.Pitches.{Before, octave_of, accidental_of}
use Rattle.reader.specs.Sounds.{chord_taken, chord_at, note_as, note_after, note_of}
use Rattle.reader.specs.Token.{refused, Taken}
use Rattle.reader.specs.Tokens.{broken_of, bracket, bracket_of, token_as}
use Rattle.reader.proofs.LengthLaws.{with_length_lem}
use Rattle.refusals.specs.Numbers.{number_of}
use Rattle.token_lexemes.specs.Lexemes.{IsNumbered, refusal_with}

-- the number of a refusal
abbrev Known : ℕ → Type 0
Known n = number_of (refusal_with n) ≡ n

by_number : (k : ℕ) → Known k → IsNumbered (refused k)
by_number k h n e = let z : k ≡ n = cc in subst Known z h

-- BROKEN RHYTHM
pub broken_numbered : (up : Bool) (n : ℕ) (s : List ℕ) → IsNumbered (broken_of up n s).token
unfolding broken_of
broken_numbered up n s =
    by_test (ltb 255 n) (λ e. rw (e, broken_of) (by_number 13 refl))
    (λ e. rw (e, broken_of) (λ m q. let z : ◌≡◌ {A = ℕ} 0 1 = cc in absurd (omega arith)))

-- ENDINGS
abbrev FaultKnown : Listed → Type 0
FaultKnown l = (k : ℕ) → l ≡ faulty k → Known k

fault_by : (j : ℕ) → Known j → FaultKnown (faulty j)
fault_by j h k e = let z : j ≡ k = cc in subst Known z h

tested_known : (o : Option (List Item)) → FaultKnown (tested o)
unfolding tested
tested_known none = fault_by 14 refl
tested_known (some items) =
    by_test (all is_pass (numbers_in items))
    (λ a. rw (a, tested)
    (by_test (rise (numbers_in items)) (λ b. rw b (λ k e. let z : ◌≡◌ {A = ℕ} 0 1 = cc in absurd (omega arith)))
    (λ b. rw b (fault_by 18 refl))))
    (λ a. rw (a, tested) (fault_by 17 refl))

listed_numbered : (n : ℕ) (s : List ℕ) (l : Listed) → FaultKnown l → IsNumbered (volta_as n s l).token
unfolding volta_as
listed_numbered n s (faulty k) h = by_number k (h k refl)
listed_numbered n s (listed ps) h = λ m q. let z : ◌≡◌ {A = ℕ} 0 1 = cc in absurd (omega arith)

pub volta_numbered : (s : List ℕ) → IsNumbered (volta_of s).token
unfolding volta_of
volta_numbered s = listed_numbered _ s _ (tested_known _)

-- NOTES
as_numbered : (ed : Edition) (a : Before) (c : ℕ) (s : List ℕ) → IsNumbered (note_as ed a c s).token
unfolding note_as
as_numbered ed a c s =
    by_test (octave_of c s).fine
    (λ f. rw (f, note_as)
    (with_length_lem (λ (x : Taken). IsNumbered x.token) ed _ _ _ (λ m. by_number 22 refl) (λ m n q. let z : ◌≡◌ {A = ℕ} 0 1 = cc in absurd (omega arith))))
    (λ f. rw (f, note_as) (by_number 12 refl))

after_numbered : (ed : Edition) (a : Before) (s : List ℕ) → IsNumbered (note_after ed a s).token
unfolding note_after
after_numbered ed a [] = λ n q. let z : ◌≡◌ {A = ℕ} 0 1 = cc in absurd (omega arith)
after_numbered ed a (c ∷ s) =
    by_test (is_letter c) (λ e. rw (e, note_after) (as_numbered ed a c s))
    (λ e. rw (e, note_after) (λ n q. let z : ◌≡◌ {A = ℕ} 0 1 = cc in absurd (omega arith)))

pub note_numbered : (ed : Edition) (s : List ℕ) → IsNumbered (note_of ed s).token
unfolding note_of
note_numbered ed s = after_numbered ed (accidental_of s) (drop (accidental_of s).used s)

-- CHORDS
taken_numbered : (ed : Edition) (n : ℕ) (s : List ℕ) (o : Option (List Written)) → IsNumbered (chord_taken ed n s o).token
unfolding chord_taken
taken_numbered ed n s none = by_number 12 refl
taken_numbered ed n s (some []) = with_length_lem (λ (x : Taken). IsNumbered x.token) ed _ s _ (λ m. by_number 22 refl) (λ m k q. let z : ◌≡◌ {A = ℕ} 0 1 = cc in absurd (omega arith))
taken_numbered ed n s (some (p ∷ ps)) = with_length_lem (λ (x : Taken). IsNumbered x.token) ed _ s _ (λ m. by_number 22 refl) (λ m k q. let z : ◌≡◌ {A = ℕ} 0 1 = cc in absurd (omega arith))

chord_numbered : (ed : Edition) (s : List ℕ) → IsNumbered (chord_at ed s).token
unfolding chord_at
chord_numbered ed s = taken_numbered ed _ _ _

-- FIELDS
abbrev KeyKnown : Option ℕ → Type 0
KeyKnown o = (n : ℕ) → o ≡ some n → Known n

key_by : (j : ℕ) → Known j → KeyKnown (some j)
key_by j h n e = let z : j ≡ n = cc in subst Known z h

no_key : KeyKnown none
no_key n e = let z : ◌≡◌ {A = ℕ} 0 1 = cc in absurd (omega arith)

met_known : (b : Bool) (ws : List (List ℕ)) → KeyKnown (first_met b ws)
unfolding first_met
met_known b [] = no_key
met_known b (w ∷ ws) =
    by_test (starts_with (ascii "middle=") w) (λ e. rw (e, first_met) (key_by 10 refl))
    (λ e. rw (e, first_met) (by_test (b && is_key_word w) (λ f. rw f (key_by 21 refl)) (λ f. rw f (met_known b ws))))

refusal_known : (ed : Edition) (v : List ℕ) → KeyKnown (key_refusal ed v)
unfolding key_refusal
refusal_known First v = by_test (middle_word v) (λ e. rw e (key_by 10 refl)) (λ e. rw e no_key)
refusal_known Second v = met_known _ _

unless_numbered : (k : Key) (o : Option ℕ) → KeyKnown o → IsNumbered (token_unless k o)
unfolding token_unless
unless_numbered k none h = λ n q. let z : ◌≡◌ {A = ℕ} 0 1 = cc in absurd (omega arith)
unless_numbered k (some j) h = by_number j (h j refl)

unit_numbered : (o : Option ℕ) → IsNumbered (unit_token o)
unfolding unit_token
unit_numbered none = λ n q. let z : ◌≡◌ {A = ℕ} 0 1 = cc in absurd (omega arith)
unit_numbered (some u) = λ n q. let z : ◌≡◌ {A = ℕ} 0 1 = cc in absurd (omega arith)

field_numbered : (ed : Edition) (s : List ℕ) → IsNumbered (field_token ed s)
unfolding field_token key_token
field_numbered ed s =
    by_test (is ":" (first (drop 1 s)))
    (λ a. rw (a, field_token)
    (by_test (is "L" (first s)) (λ b. rw b (unit_numbered (unit_inline (drop 2 s))))
    (λ b. rw b
    (by_test (is "M" (first s)) (λ d. rw d (λ n q. let z : ◌≡◌ {A = ℕ} 0 1 = cc in absurd (omega arith)))
    (λ d. rw d
    (by_test (is "K" (first s)) (λ f. rw f (unless_numbered (key_of ed (drop 2 s)) (key_refusal ed (drop 2 s)) (refusal_known ed (drop 2 s))))
    (λ f. rw f (λ n q. let z : ◌≡◌ {A = ℕ} 0 1 = cc in absurd (omega arith)))))))))
    (λ a. rw (a, field_token) (λ n q. let z : ◌≡◌ {A = ℕ} 0 1 = cc in absurd (omega arith)))

-- WHAT A `[` BEGINS WITH
pub bracket_numbered : (ed : Edition) (s : List ℕ) → IsNumbered (token_as ed bracket s).token
unfolding token_as bracket_of inline_at
bracket_numbered ed s =
    by_test (is_digit (first (drop 1 s))) (λ a. rw (a, bracket_of) (volta_numbered (drop 1 s)))
    (λ a. rw (a, bracket_of) (by_test (is_inline (drop 1 s)) (λ b. rw b (field_numbered ed _)) (λ b. rw b (chord_numbered ed (drop 1 s)))))
