-- The readers by class, and the two views of a token.
use Prim.Native.Nat.{ℕ, suc, ◌+◌, ◌<◌}
use mathlib.Core.Path.{◌≡◌, refl, sym, ap, ◌∙◌}
use mathlib.Core.Bool.{Bool, true, false, false≢true}
use mathlib.Core.Option.{Option}
use mathlib.Core.List.{List}
use lib.ListN.{length, get_or, drop}
use lib.Seq.{drop-drop}
use Rattle.laws.proofs.Bools.{by_test}
use Rattle.laws.proofs.Finite.{below}
use Rattle.laws.proofs.Lists.{first_at}
use Rattle.standard.specs.Notes as Notes
use Rattle.standard.specs.Pitches.{Accidental}
use Rattle.editions.specs.declared.Edition.{Edition}
use Rattle.reader.specs.Lengths.{many_slashes, value_of}
use Rattle.reader.specs.Codes.{kind_code}
use Rattle.reader.specs.Pitches.{octave_of}
use Rattle.reader.specs.Sounds.{rest_as, note_as}
use Rattle.reader.specs.Token.{Token, space, overlay, quoted, broken, tuplet, slur, grace_open, grace_close, decoration, barline, volta, unit, meter, key, field, chord, rest, note, nothing, skipped, refused, Taken, taken}
use Rattle.reader.specs.Tokens.{Class, white, ampersand, quote, more, less, paren, brace_open, brace_close, bang, plus, bars, bracket, pitched, none-of-these, resting, classes, class_in, class_of, token_as, token_of, effect_of}
use Rattle.reader.proofs.LengthLaws.{with_many, with_few}
use Rattle.token_symbols.specs.declared.Class as code
use Rattle.token_symbols.specs.declared.Class.TheVariants as class
use Rattle.token_symbols.specs.Classes.{class_for}
use Rattle.token_lexemes.specs.Lexemes.{lexeme_for, cut_for, rest_for}
use Rattle.refusals.specs.declared.Refusal.{Refusal}
use Rattle.token_suffixes.specs.declared.Fraction.{Fraction}
use Rattle.token_pitches.specs.declared.Pitch.{Pitch}
use Rattle.token_lexemes.specs.declared.Token as lexemes
use Rattle.token_lexemes.specs.declared.Token.TheVariants as lexeme
use Rattle.tokens.specs.declared.Effect.TheVariants as effect
use Rattle.tokens.specs.Tokens.{rest_length, token_for, tokenised_for, valued_for, tokenised_in, effect_for, effected_for, effect_in, effected_in}

-- BY CLASS
-- the token of the class in the code's type
unfoldable pub by_class : Edition → code.Class → List ℕ → Taken
by_class ed class.Skip s = taken skipped 1
by_class ed class.White s = token_as ed white s
by_class ed class.Ampersand s = token_as ed ampersand s
by_class ed class.Quote s = token_as ed quote s
by_class ed class.More s = token_as ed more s
by_class ed class.Less s = token_as ed less s
by_class ed class.Paren s = token_as ed paren s
by_class ed class.BraceOpen s = token_as ed brace_open s
by_class ed class.BraceClose s = token_as ed brace_close s
by_class ed class.Bang s = token_as ed bang s
by_class ed class.Plus s = token_as ed plus s
by_class ed class.Bars s = token_as ed bars s
by_class ed class.Bracket s = token_as ed bracket s
by_class ed class.Rest s = token_as ed (resting Notes.rest) s
by_class ed class.InvisibleRest s = token_as ed (resting Notes.invisible_rest) s
by_class ed class.BarRest s = token_as ed (resting Notes.bar_rest) s
by_class ed class.InvisibleBarRest s = token_as ed (resting Notes.invisible_bar_rest) s
by_class ed class.Pitched s = token_as ed pitched s

-- no letter rests by a sounded note
is_read : Class → Bool
is_read white = true
is_read ampersand = true
is_read quote = true
is_read more = true
is_read less = true
is_read paren = true
is_read brace_open = true
is_read brace_close = true
is_read bang = true
is_read plus = true
is_read bars = true
is_read bracket = true
is_read (resting Notes.rest) = true
is_read (resting Notes.invisible_rest) = true
is_read (resting Notes.bar_rest) = true
is_read (resting Notes.invisible_bar_rest) = true
is_read pitched = true
is_read none-of-these = true
is_read (resting Notes.sounded) = false

read_by_class : (ed : Edition) (x : Class) (s : List ℕ) → is_read x ≡ true → token_as ed x s ≡ by_class ed (class_for x) s
unfolding by_class class_for is_read token_as
read_by_class ed white s e = refl
read_by_class ed ampersand s e = refl
read_by_class ed quote s e = refl
read_by_class ed more s e = refl
read_by_class ed less s e = refl
read_by_class ed paren s e = refl
read_by_class ed brace_open s e = refl
read_by_class ed brace_close s e = refl
read_by_class ed bang s e = refl
read_by_class ed plus s e = refl
read_by_class ed bars s e = refl
read_by_class ed bracket s e = refl
read_by_class ed (resting Notes.rest) s e = refl
read_by_class ed (resting Notes.invisible_rest) s e = refl
read_by_class ed (resting Notes.bar_rest) s e = refl
read_by_class ed (resting Notes.invisible_bar_rest) s e = refl
read_by_class ed pitched s e = refl
read_by_class ed none-of-these s e = refl
read_by_class ed (resting Notes.sounded) s e = absurd (false≢true e)

unread : ℕ → Bool
unread b = is_read (class_of b)

seen : (b : ℕ) → b < 256 → is_read (class_of b) ≡ true
unfolding unread is_read class_of class_in classes
seen b h = below 256 unread refl b h

-- the token at a position, by the class of its first byte
pub classed : (ed : Edition) (line : List ℕ) (at : ℕ) (k n : code.Class) → get_or line at 0 < 256 → k ≡ class_for (class_of (get_or line at 0)) → k ≡ n → token_of ed (drop at line) ≡ by_class ed n (drop at line)
unfolding token_of
classed ed line at k n h e f =
    ap (λ c. token_as ed (class_of c) (drop at line)) (first_at line at) ∙ read_by_class ed (class_of (get_or line at 0)) (drop at line) (seen (get_or line at 0) h) ∙ ap (λ m. by_class ed m (drop at line)) (sym e ∙ f)

-- a rest
pub rest_cut : (ed : Edition) (line : List ℕ) (at : ℕ) (k : Notes.NoteKind) → rest_for ed at (kind_code k) (drop (at + 1) line) ≡ cut_for at (rest_as ed k (drop 1 (drop at line)))
unfolding rest_for rest_as lexeme_for
rest_cut ed line at k =
    let s = drop (at + 1) line in
    let r : cut_for at (rest_as ed k s) ≡ cut_for at (rest_as ed k (drop 1 (drop at line))) = rw (drop-drop 1 at line) in
    by_test (many_slashes ed s) (λ m. rw (m, rest_for) (ap (cut_for at) (sym (with_many ed (suc (length s)) s _ m))))
    (λ m. rw (m, rest_for) (ap (cut_for at) (sym (with_few ed (suc (length s)) s _ m)))) ∙ r

-- THE TWO VIEWS
pub valued_token : (at u : ℕ) (t : Token) → valued_for u (lexeme_for at t) ≡ token_for at u t
unfolding valued_for lexeme_for token_for rest_length value_of kind_code
valued_token at u space = refl
valued_token at u overlay = refl
valued_token at u quoted = refl
valued_token at u (broken up n) = refl
valued_token at u (tuplet t) = refl
valued_token at u slur = refl
valued_token at u grace_open = refl
valued_token at u grace_close = refl
valued_token at u decoration = refl
valued_token at u (barline b o) = refl
valued_token at u (volta ps) = refl
valued_token at u (unit d) = refl
valued_token at u (meter m) = refl
valued_token at u (key k) = refl
valued_token at u field = refl
valued_token at u (chord ps l b) = refl
valued_token at u (note w l b) = refl
valued_token at u nothing = refl
valued_token at u skipped = refl
valued_token at u (refused n) = refl
valued_token at u (rest Notes.rest l) = refl
valued_token at u (rest Notes.invisible_rest l) = refl
valued_token at u (rest Notes.bar_rest l) = refl
valued_token at u (rest Notes.invisible_bar_rest l) = refl
valued_token at u (rest Notes.sounded l) = refl

pub effect_token : (at : ℕ) (t : Token) → effect_in (lexeme_for at t) ≡ effect_for (effect_of t)
unfolding effect_in lexeme_for effect_for effect_of
effect_token at space = refl
effect_token at overlay = refl
effect_token at quoted = refl
effect_token at (broken up n) = refl
effect_token at (tuplet t) = refl
effect_token at slur = refl
effect_token at grace_open = refl
effect_token at grace_close = refl
effect_token at decoration = refl
effect_token at (barline b o) = refl
effect_token at (volta ps) = refl
effect_token at (unit u) = refl
effect_token at (meter m) = refl
effect_token at (key k) = refl
effect_token at field = refl
effect_token at (chord ps l b) = refl
effect_token at (rest k l) = refl
effect_token at (note w l b) = refl
effect_token at nothing = refl
effect_token at skipped = refl
effect_token at (refused n) = refl

-- with the position after the token
pub valued_cut : (at u : ℕ) (t : Taken) → tokenised_in u (cut_for at t) ≡ tokenised_for at u t
valued_cut at u t = ap (λ x. record { value = x; next = at + t.used }) (valued_token at u t.token)

pub effected : (at : ℕ) (t : Taken) → effected_in (cut_for at t) ≡ effected_for at t
effected at t = ap (λ x. record { value = x; next = at + t.used }) (effect_token at t.token)

-- the scan does not see a note's accidental
pub marked : (ed : Edition) (at : ℕ) (a b : Option Accidental) (c : ℕ) (s : List ℕ) → effected_for at (note_as ed (record { sign = a; used = 0 }) c s) ≡ effected_for at (note_as ed (record { sign = b; used = 0 }) c s)
unfolding note_as effect_of effect_for
marked ed at a b c s =
    let r = drop (octave_of c s).used s in
    by_test (octave_of c s).fine
    (λ f. rw (f, note_as)
    (by_test (many_slashes ed r) (λ m. ap (effected_for at) (with_many ed (0 + 1 + length s) r _ m ∙ sym (with_many ed (0 + 1 + length s) r _ m)))
    (λ m. ap (effected_for at) (with_few ed (0 + 1 + length s) r _ m) ∙ ap (effected_for at) (sym (with_few ed (0 + 1 + length s) r _ m)))))
    (λ f. rw (f, note_as))

-- a token that is none of those that have an effect
pub no_effect : (t : lexemes.Token Fraction) → ((d : ℕ) → t ≡ lexeme.Unit d → ⊥) → ((x y : ℕ) → t ≡ lexeme.Meter x y → ⊥) → ((p n : ℕ) (l : Fraction) (a b : Bool) → t ≡ lexeme.Chord p n l a b → ⊥)
    → ((k : ℕ) (l : Fraction) → t ≡ lexeme.Rest k l → ⊥) → ((p : Pitch) (l : Fraction) (a b : Bool) → t ≡ lexeme.Note p l a b → ⊥) → ((r : Refusal) → t ≡ lexeme.Refused r → ⊥) → effect.NoEffect ≡ effect_in t
unfolding effect_in
no_effect lexeme.Space u m c r n f = refl
no_effect lexeme.Overlay u m c r n f = refl
no_effect lexeme.Quoted u m c r n f = refl
no_effect (lexeme.Broken x0 x1) u m c r n f = refl
no_effect (lexeme.Tuplet x0 x1 x2) u m c r n f = refl
no_effect lexeme.Slur u m c r n f = refl
no_effect lexeme.GraceOpen u m c r n f = refl
no_effect lexeme.GraceClose u m c r n f = refl
no_effect lexeme.Decoration u m c r n f = refl
no_effect (lexeme.Barline x0 x1 x2) u m c r n f = refl
no_effect (lexeme.Volta x0 x1) u m c r n f = refl
no_effect (lexeme.Key x0 x1) u m c r n f = refl
no_effect lexeme.Field u m c r n f = refl
no_effect lexeme.Nothing u m c r n f = refl
no_effect lexeme.Skipped u m c r n f = refl
no_effect (lexeme.Unit d) u m c r n f = absurd (u d refl)
no_effect (lexeme.Meter x y) u m c r n f = absurd (m x y refl)
no_effect (lexeme.Chord p q l a b) u m c r n f = absurd (c p q l a b refl)
no_effect (lexeme.Rest k l) u m c r n f = absurd (r k l refl)
no_effect (lexeme.Note p l a b) u m c r n f = absurd (n p l a b refl)
no_effect (lexeme.Refused x) u m c r n f = absurd (f x refl)
