-- Laws of the tokens for a loop over a line: each token takes a byte at least, so the tokens from position i on are the one there and those behind it.
use Prim.Native.Nat.{ℕ, zero, suc, ◌+◌, ◌-◌, ◌^◌, pred, ◌≤◌, ◌<◌}
use mathlib.Core.Path.{◌≡◌, refl, ap, ◌∙◌}
use mathlib.Core.Bool.{Bool, true, false, cond, not}
use mathlib.Core.Option.{Option, none, some}
use mathlib.Core.List.{List, [], ◌∷◌}
use native.Mathlib.Nat.{not-suc-le-zero}
use native.Mathlib.Omega.{arith}
use lib.Dec.{ltb, lit<}
use lib.ListN.{length, get_or, take, drop, length-drop, drop_of_length-le}
use lib.Seq.{drop-cons, drop-drop}
use Rattle.laws.specs.Lists.{count_while, foldl, All, starts_with}
use Rattle.laws.proofs.Bools.{by_test}
use Rattle.standard.specs.Bytes.{is, is_digit, first}
use Rattle.standard.specs.Bars.{Symbol, bar_symbols, symbol_at}
use Rattle.standard.specs.Pitches.{Written, is_letter}
use Rattle.editions.specs.declared.Edition.{Edition}
use Rattle.reader.specs.Pitches.{octave_of, Before, accidental_of, chord_of}
use Rattle.reader.specs.Token.{Token, Taken}
use Rattle.reader.specs.Tuplets.{positive, normal_for, part_or, counted, with_count, with_normal, with_actual, tuplet_of, or_slur}
use Rattle.reader.specs.Barlines.{barline_as, barline_of}
use Rattle.reader.specs.PassLists.{Listed, listed, faulty, is_pass_byte, list_of, volta_as, volta_of}
use Rattle.reader.specs.Inline.{is_inline, inline_at}
use Rattle.reader.specs.Sounds.{chord_taken, chord_at, rest_as, note_as, note_after, note_of}
use Rattle.reader.specs.Tokens.{closed_by, broken_of, bracket_of, Class, white, ampersand, quote, more, less, paren, brace_open, brace_close, bang, plus, bars, bracket, pitched, none-of-these, resting, class_of, token_as, token_of, tokens}
use Rattle.reader.proofs.LengthLaws.{with_length_lem}

-- A TOKEN TAKES A BYTE AT LEAST
-- a quote or decoration
closed_takes : (p : ℕ → Bool) (t : Token) (s : List ℕ) (other : Taken) → 0 < other.used → 0 < (closed_by p t s other).used
unfolding closed_by
closed_takes p t s other h = by_test (ltb (count_while (λ c. not (p c)) s) (length s)) (λ e. rw (e, closed_by) (omega arith)) (λ e. rw (e, closed_by) h)

-- a broken rhythm
broken_takes : (up : Bool) (n : ℕ) (c : ℕ) (s : List ℕ) → 0 < (broken_of up (suc n) (c ∷ s)).used
unfolding broken_of
broken_takes up n c s = by_test (ltb 255 (suc n)) (λ e. rw (e, broken_of) (omega arith)) (λ e. rw (e, broken_of) (omega arith))

-- a tuplet's answer, if it is one, takes a byte at least
unfoldable Takes : Option Taken → Type 0
Takes none = Unit {0}
Takes (some t) = 0 < t.used

-- a tuplet with its count
counted_takes : (p q n : ℕ) (o : Option ℕ) → 0 < n → Takes (counted p q n o)
unfolding counted Takes
counted_takes p q n none h = tt
counted_takes p q n (some r) h = h

-- a tuplet up to its count
count_takes : (ed : Edition) (p q n : ℕ) (s : List ℕ) → 0 < n → Takes (with_count ed p q n s)
unfolding with_count Takes
count_takes ed p q n s h =
    by_test (is ":" (first s))
    (λ e. rw (e, with_count) (counted_takes p q (n + 1 + count_while is_digit (drop 1 s)) (part_or ed p (2 ^ 64 - 1) (drop 1 s)) (omega arith)))
    (λ e. rw (e, with_count) h)

-- a tuplet up to its normal
normal_takes : (ed : Edition) (p n : ℕ) (s : List ℕ) (o : Option ℕ) → 0 < n → Takes (with_normal ed p n s o)
unfolding with_normal Takes
normal_takes ed p n s none h = tt
normal_takes ed p n s (some q) h = count_takes ed p q (n + 1 + count_while is_digit (drop 1 s)) (drop (1 + count_while is_digit (drop 1 s)) s) (omega arith)

-- a tuplet up to its actual
actual_takes : (ed : Edition) (n : ℕ) (s : List ℕ) (o : Option ℕ) → 0 < n → Takes (with_actual ed n s o)
unfolding with_actual Takes
actual_takes ed n s none h = tt
actual_takes ed n s (some p) h =
    by_test (ltb p 2)
    (λ e. rw (e, with_actual) tt)
    (λ e. rw (e, with_actual)
    (by_test (is ":" (first s))
    (λ f. rw (f, with_actual) (normal_takes ed p n s (part_or ed (normal_for ed p) 255 (drop 1 s)) h))
    (λ f. rw (f, with_actual) h)))

-- a slur start instead
slur_takes : (o : Option Taken) → Takes o → 0 < (or_slur o).used
unfolding or_slur Takes
slur_takes none h = omega arith
slur_takes (some t) h = h

-- a tuplet
tuplet_takes : (ed : Edition) (s : List ℕ) → 0 < (or_slur (tuplet_of ed s)).used
unfolding tuplet_of
tuplet_takes ed s = slur_takes (tuplet_of ed s) (actual_takes ed (1 + count_while is_digit s) (drop (count_while is_digit s) s) (positive 255 s) (omega arith))

-- a symbol of the table, if the text begins with one, takes a byte at least
unfoldable Long : Option Symbol → Type 0
Long none = Unit {0}
Long (some x) = 0 < length x.text

-- the symbol that is found
symbol_long : (xs : List Symbol) → All (λ x. 0 < length x.text) xs → (s : List ℕ) → Long (symbol_at xs s)
unfolding symbol_at Long
symbol_long [] h s = tt
symbol_long (x ∷ xs) h s = by_test (starts_with x.text s) (λ e. rw (e, symbol_at) h.0) (λ e. rw (e, symbol_at) (symbol_long xs h.1 s))

-- each bar symbol has a byte
symbols_long : All (λ x. 0 < length x.text) bar_symbols
unfolding bar_symbols
symbols_long = (lit< tt, (lit< tt, (lit< tt, (lit< tt, (lit< tt, (lit< tt, tt))))))

-- a barline by its symbol
barline_as_takes : (s : List ℕ) (o : Option Symbol) → Long o → 0 < (barline_as s o).used
unfolding barline_as Long
barline_as_takes s none h = omega arith
barline_as_takes s (some x) h = h

-- a barline
barline_takes : (s : List ℕ) → 0 < (barline_of s).used
unfolding barline_of
barline_takes s = barline_as_takes s (symbol_at bar_symbols s) (symbol_long bar_symbols symbols_long s)

-- an ending
volta_takes : (n : ℕ) (s : List ℕ) (o : Listed) → 0 < (volta_as n s o).used
unfolding volta_as
volta_takes n s (faulty k) = omega arith
volta_takes n s (listed ps) = omega arith

-- a chord by its pitches
chord_takes : (ed : Edition) (n : ℕ) (s : List ℕ) (o : Option (List Written)) → 0 < n → 0 < (chord_taken ed n s o).used
unfolding chord_taken
chord_takes ed n s none h = omega arith
chord_takes ed n s (some []) h = with_length_lem (λ t. 0 < t.used) ed _ s _ (λ m. omega arith) (λ m. omega arith)
chord_takes ed n s (some (p ∷ ps)) h = with_length_lem (λ t. 0 < t.used) ed _ s _ (λ m. omega arith) (λ m. omega arith)

-- its brackets
one_or_two : (b : Bool) (n : ℕ) → 0 < cond b (2 + n) (1 + n)
one_or_two true n = omega arith
one_or_two false n = omega arith

-- a chord
chord_at_takes : (ed : Edition) (s : List ℕ) → 0 < (chord_at ed s).used
unfolding chord_at
chord_at_takes ed s =
    let n = count_while (λ c. not (is "]" c)) s in
    chord_takes ed (cond (ltb n (length s)) (2 + n) (1 + n)) (drop (suc n) s) (chord_of 0 none s) (one_or_two (ltb n (length s)) n)

-- what a `[` begins
bracket_takes : (ed : Edition) (s : List ℕ) → 0 < (bracket_of ed s).used
unfolding bracket_of volta_of inline_at
bracket_takes ed s =
    by_test (is_digit (first s))
    (λ e. rw (e, bracket_of) (volta_takes (count_while is_pass_byte s) s (list_of (take (count_while is_pass_byte s) s))))
    (λ e. rw (e, bracket_of) (by_test (is_inline s) (λ f. rw (f, bracket_of) (omega arith)) (λ f. rw (f, bracket_of) (chord_at_takes ed s))))

-- a note from its letter on
note_as_takes : (ed : Edition) (a : Before) (c : ℕ) (s : List ℕ) → 0 < (note_as ed a c s).used
unfolding note_as
note_as_takes ed a c s =
    by_test (octave_of c s).fine (λ e. rw (e, note_as) (with_length_lem (λ t. 0 < t.used) ed _ (drop (octave_of c s).used s) _ (λ m. omega arith) (λ m. omega arith)))
    (λ e. rw (e, note_as) (omega arith))

-- a note behind its accidental
note_after_takes : (ed : Edition) (a : Before) (c : ℕ) (s : List ℕ) → 0 < (note_after ed a (c ∷ s)).used
unfolding note_after
note_after_takes ed a c s = by_test (is_letter c) (λ e. rw (e, note_after) (note_as_takes ed a c s)) (λ e. rw (e, note_after) (omega arith))

-- the same, where that may be nothing
note_takes_at : (ed : Edition) (a : Before) (s : List ℕ) (r : List ℕ) → drop a.used s ≡ r → 0 < length s → 0 < (note_after ed a r).used
unfolding note_after
note_takes_at ed a s [] e h = omega (arith, ap length e, length-drop a.used s)
note_takes_at ed a s (c ∷ r) e h = note_after_takes ed a c r

-- a note
note_takes : (ed : Edition) (c : ℕ) (s : List ℕ) → 0 < (note_of ed (c ∷ s)).used
unfolding note_of
note_takes ed c s = note_takes_at ed (accidental_of (c ∷ s)) (c ∷ s) (drop (accidental_of (c ∷ s)).used (c ∷ s)) refl (omega arith)

-- a token of any class
pub as_takes : (ed : Edition) (k : Class) (c : ℕ) (s : List ℕ) → 0 < (token_as ed k (c ∷ s)).used
unfolding token_as rest_as
as_takes ed white c s = omega arith
as_takes ed ampersand c s = omega arith
as_takes ed quote c s = closed_takes (is "\"") _ s _ (omega arith)
as_takes ed more c s = broken_takes true (count_while (is ">") s) c s
as_takes ed less c s = broken_takes false (count_while (is "<") s) c s
as_takes ed paren c s = tuplet_takes ed s
as_takes ed brace_open c s = omega arith
as_takes ed brace_close c s = omega arith
as_takes ed bang c s = closed_takes (is "!") _ s _ (omega arith)
as_takes ed plus c s = closed_takes (is "+") _ s _ (omega arith)
as_takes ed bars c s = barline_takes (c ∷ s)
as_takes ed bracket c s = bracket_takes ed s
as_takes ed pitched c s = note_takes ed c s
as_takes ed none-of-these c s = omega arith
as_takes ed (resting k) c s = with_length_lem (λ t. 0 < t.used) ed _ s _ (λ m. omega arith) (λ m. omega arith)

-- every token takes at least a byte
pub takes_a_byte : (ed : Edition) (c : ℕ) (s : List ℕ) → 0 < (token_of ed (c ∷ s)).used
unfolding token_of
takes_a_byte ed c s = as_takes ed (class_of c) c s

-- THE TOKENS FROM A POSITION ON
-- bytes still to pass are dropped
pub tokens_drop : (ed : Edition) (k : ℕ) (s : List ℕ) → tokens ed k s ≡ tokens ed 0 (drop k s)
unfolding tokens
tokens_drop ed zero s = refl
tokens_drop ed (suc k) [] = refl
tokens_drop ed (suc k) (c ∷ s) = tokens_drop ed k s

-- a byte fewer of a list without its first
drop_pred : (n : ℕ) (c : ℕ) (s : List ℕ) → 0 < n → drop (pred n) s ≡ drop n (c ∷ s)
drop_pred zero c s h = absurd (not-suc-le-zero h)
drop_pred (suc n) c s h = refl

-- the token at the front, and those behind it
pub tokens_cons : (ed : Edition) (c : ℕ) (s : List ℕ) → tokens ed 0 (c ∷ s) ≡ (token_of ed (c ∷ s)).token ∷ tokens ed 0 (drop (token_of ed (c ∷ s)).used (c ∷ s))
unfolding tokens
tokens_cons ed c s =
    ap (λ r. (token_of ed (c ∷ s)).token ∷ r) (tokens_drop ed (pred (token_of ed (c ∷ s)).used) s ∙ ap (tokens ed 0) (drop_pred (token_of ed (c ∷ s)).used c s (takes_a_byte ed c s)))

-- one turn of a loop at position i
pub tokens_at : (ed : Edition) (s : List ℕ) (i : ℕ) → i < length s → tokens ed 0 (drop i s) ≡ (token_of ed (drop i s)).token ∷ tokens ed 0 (drop (i + (token_of ed (drop i s)).used) s)
tokens_at ed s i h = rw (← drop-drop (token_of ed (drop i s)).used i s) (rw (drop-cons s i 0) (tokens_cons ed (get_or s i 0) (drop (suc i) s)))

-- past the end there are none
pub tokens_end : (ed : Edition) (s : List ℕ) (i : ℕ) → length s ≤ i → tokens ed 0 (drop i s) ≡ []
unfolding tokens
tokens_end ed s i h = rw (drop_of_length-le s h)

-- the same of a fold over them, for any state: what is left to do at i is one step and what is left behind the token
pub fold_at {ℓ} : (ed : Edition) {S : Type ℓ} (f : S → Token → S) (t : S) (s : List ℕ) (i : ℕ) → i < length s → foldl f t (tokens ed 0 (drop i s)) ≡ foldl f (f t (token_of ed (drop i s)).token) (tokens ed 0 (drop (i + (token_of ed (drop i s)).used) s))
fold_at ed f t s i h = ap (foldl f t) (tokens_at ed s i h)

-- and at the end nothing is left
pub fold_end {ℓ} : (ed : Edition) {S : Type ℓ} (f : S → Token → S) (t : S) (s : List ℕ) (i : ℕ) → length s ≤ i → foldl f t (tokens ed 0 (drop i s)) ≡ t
fold_end ed f t s i h = ap (foldl f t) (tokens_end ed s i h)
