-- The definitions' tokens as the code has them.
use Rattle.std.specs.Prelude.{ℕ, suc, ◌+◌, ◌≡◌, Bool, true, false, ◌&&◌, ◌||◌, List, [], ◌∷◌, ltb, length, get_or}
use Rattle.reader.specs.Text.{within}
use Rattle.editions.specs.declared.Edition.{Edition}
use Rattle.reader.specs.Lengths.{length_of, many_slashes}
use Rattle.reader.specs.Token.{Token, space, overlay, quoted, broken, tuplet, slur, grace_open, grace_close, decoration, barline, volta, unit, meter, key, field, chord, rest, note, nothing, skipped, refused, Taken}
use Rattle.reader.specs.Barlines.{left_of}
use Rattle.reader.specs.Codes.{kind_code}
use Rattle.standard.specs.Notes as Notes
use Rattle.standard.specs.Notes.{NoteKind, sounded, invisible_rest, bar_rest, invisible_bar_rest}
use Rattle.refusals.specs.declared.Refusal.{Refusal}
use Rattle.refusals.specs.Numbers.{number_of}
use Rattle.reader.specs.Records.{pass_bits}
use Rattle.token_symbols.specs.Bars.{barline_for}
use Rattle.token_pitches.specs.Pitches.{pitch_for}
use Rattle.text_bytes.specs.declared.Read.{Read}
use Rattle.token_suffixes.specs.declared.Fraction.{Fraction}
use Rattle.token_lexemes.specs.declared.NoteKind as kinds
use Rattle.token_lexemes.specs.declared.NoteKind.TheVariants as kind
use Rattle.token_lexemes.specs.declared.Token as code
use Rattle.token_lexemes.specs.declared.Token.TheVariants.{Space, Overlay, Quoted, Broken, Tuplet, Slur, GraceOpen, GraceClose, Decoration, Barline, Volta, Unit, Meter, Key, Field, Chord, Rest, Note, Nothing, Skipped, Refused}

-- the kind of a note, for the code's
abbrev pub as_kind : kinds.NoteKind → NoteKind
as_kind kind.Sounded = sounded
as_kind kind.Rest = Notes.rest
as_kind kind.InvisibleRest = invisible_rest
as_kind kind.BarRest = bar_rest
as_kind kind.InvisibleBarRest = invisible_bar_rest

-- the refusals by their numbers
abbrev pub numbered : List Refusal
numbered =
    Refusal.NoMusic ∷ Refusal.NoMusic ∷ Refusal.TooLong ∷ Refusal.NotUtf8 ∷ Refusal.TooManyLines ∷ Refusal.LineTooLong ∷ Refusal.NotAscii ∷ Refusal.SecondTune ∷ Refusal.NoVoiceId
    ∷ Refusal.TooManyVoices ∷ Refusal.Middle ∷ Refusal.TooManyNotes ∷ Refusal.Octave ∷ Refusal.BrokenRhythm ∷ Refusal.Passes ∷ Refusal.ScratchShort ∷ Refusal.ReadingShort
    ∷ Refusal.PassRange ∷ Refusal.PassOrder ∷ Refusal.NoSuchPart ∷ Refusal.ListShort ∷ Refusal.KeyBeyond ∷ Refusal.ManySlashes ∷ []

-- the refusal of a number from 1 to 22: of the number that `number_of` gives a refusal it is that refusal (`refusal_back`); no token is refused by another number
abbrev pub refusal_with : ℕ → Refusal
refusal_with n = get_or numbered n Refusal.NoMusic

-- a token that is refused is refused by the number of one of the refusals
abbrev pub IsNumbered : Token → Type 0
IsNumbered t = (n : ℕ) → t ≡ refused n → number_of (refusal_with n) ≡ n

-- a length as written
abbrev pub fraction : ℕ → ℕ → Fraction
fraction num den = record { num = num; den = den }

-- right behind a note's letter: neither an octave mark nor a length nor a tie nor a slur end begins with this byte
abbrev pub is_plain : ℕ → Bool
is_plain c = ltb c 39 || ltb 57 c

-- right behind a note's letter: a length of one byte, a slash or a digit, with a plain byte behind it
abbrev pub is_short : ℕ → ℕ → Bool
is_short b c = within 47 57 b && is_plain c

-- the token whose first byte stands at a position
unfoldable pub lexeme_for : ℕ → Token → code.Token Fraction
lexeme_for at space = Space
lexeme_for at overlay = Overlay
lexeme_for at quoted = Quoted
lexeme_for at (broken up n) = Broken up n
lexeme_for at (tuplet t) = Tuplet t.actual t.normal t.count
lexeme_for at slur = Slur
lexeme_for at grace_open = GraceOpen
lexeme_for at grace_close = GraceClose
lexeme_for at decoration = Decoration
lexeme_for at (barline b o) = Barline (barline_for b) (barline_for (left_of b)) o
lexeme_for at (volta ps) = Volta (get_or ps 0 0) (pass_bits ps)
lexeme_for at (unit u) = Unit u
lexeme_for at (meter m) = Meter m.0 m.1
lexeme_for at (key k) = Key k.fifths k.minor
lexeme_for at field = Field
lexeme_for at (chord ps l b) = Chord (at + 1) (length ps) (fraction l.num l.den) b.tie b.slur
lexeme_for at (rest k l) = Rest (kind_code k) (fraction l.num l.den)
lexeme_for at (note w l b) = Note (pitch_for w) (fraction l.num l.den) b.tie b.slur
lexeme_for at nothing = Nothing
lexeme_for at skipped = Skipped
lexeme_for at (refused n) = Refused (refusal_with n)

-- with the position after it
abbrev pub cut_for : ℕ → Taken → Read (code.Token Fraction)
cut_for at t = record { value = lexeme_for at t.token; next = at + t.used }

-- a rest by the number of its kind, with the length at the front of s; or refusal 22
unfoldable pub rest_for : Edition → ℕ → ℕ → List ℕ → Read (code.Token Fraction)
rest_for ed at kind s =
    elim (many_slashes ed s) [
      | true ↦ record { value = Refused Refusal.ManySlashes; next = at + suc (length s) }
      | false ↦ record { value = Rest kind (fraction (length_of ed s).num (length_of ed s).den); next = at + suc (length_of ed s).used }
    ]
