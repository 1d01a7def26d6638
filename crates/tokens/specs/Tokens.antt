-- The definitions' tokens, with their written values, and effects, as the code has them.
use Rattle.std.specs.Prelude.{ℕ, ◌+◌, cond, ltb, length, get_or}
use Rattle.standard.specs.Lengths.{length_fraction}
use Rattle.standard.specs.Notes as Notes
use Rattle.reader.specs.Lengths.{Length, written_as, value_of}
use Rattle.reader.specs.Token.{Token, space, overlay, quoted, broken, tuplet, slur, grace_open, grace_close, decoration, barline, volta, unit, meter, key, field, chord, rest, note, nothing, skipped, refused, Taken}
use Rattle.reader.specs.Tokens as tokens
use Rattle.reader.specs.Tokens.{effect_of}
use Rattle.reader.specs.Barlines.{left_of}
use Rattle.reader.specs.Codes.{kind_code}
use Rattle.reader.specs.Records.{pass_bits}
use Rattle.token_lengths.specs.declared.Length as lengths
use Rattle.token_lengths.specs.declared.Length.TheVariants.{WholeBar}
use Rattle.token_lengths.specs.Values.{length_as}
use Rattle.token_symbols.specs.Bars.{barline_for}
use Rattle.token_pitches.specs.Pitches.{pitch_for}
use Rattle.refusals.specs.Numbers.{number_of}
use Rattle.text_bytes.specs.declared.Read.{Read}
use Rattle.token_suffixes.specs.declared.Fraction.{Fraction}
use Rattle.token_lexemes.specs.declared.Token as code
use Rattle.token_lexemes.specs.declared.Token.TheVariants as as-token
use Rattle.token_lexemes.specs.Lexemes.{refusal_with}
use Rattle.tokens.specs.declared.Effect.{Effect}
use Rattle.tokens.specs.declared.Effect.TheVariants as effect

-- Z and X are a whole bar; a note has no rest's length
unfoldable pub rest_length : ℕ → Notes.NoteKind → Length → lengths.Length
rest_length unit_length Notes.sounded l = length_as (value_of unit_length l)
rest_length unit_length Notes.rest l = length_as (value_of unit_length l)
rest_length unit_length Notes.invisible_rest l = length_as (value_of unit_length l)
rest_length unit_length Notes.bar_rest l = WholeBar 0
rest_length unit_length Notes.invisible_bar_rest l = WholeBar 0

-- the token whose first byte stands at a position, under a unit; a chord by the place and number of its pitches, an ending by its first pass and bits
unfoldable pub token_for : ℕ → ℕ → Token → code.Token lengths.Length
token_for at unit_length space = as-token.Space
token_for at unit_length overlay = as-token.Overlay
token_for at unit_length quoted = as-token.Quoted
token_for at unit_length (broken up n) = as-token.Broken up n
token_for at unit_length (tuplet t) = as-token.Tuplet t.actual t.normal t.count
token_for at unit_length slur = as-token.Slur
token_for at unit_length grace_open = as-token.GraceOpen
token_for at unit_length grace_close = as-token.GraceClose
token_for at unit_length decoration = as-token.Decoration
token_for at unit_length (barline b o) = as-token.Barline (barline_for b) (barline_for (left_of b)) o
token_for at unit_length (volta ps) = as-token.Volta (get_or ps 0 0) (pass_bits ps)
token_for at unit_length (unit u) = as-token.Unit u
token_for at unit_length (meter m) = as-token.Meter m.0 m.1
token_for at unit_length (key k) = as-token.Key k.fifths k.minor
token_for at unit_length field = as-token.Field
token_for at unit_length (chord ps l b) = as-token.Chord (at + 1) (length ps) (length_as (value_of unit_length l)) b.tie b.slur
token_for at unit_length (rest k l) = as-token.Rest (kind_code k) (rest_length unit_length k l)
token_for at unit_length (note w l b) = as-token.Note (pitch_for w) (length_as (value_of unit_length l)) b.tie b.slur
token_for at unit_length nothing = as-token.Nothing
token_for at unit_length skipped = as-token.Skipped
token_for at unit_length (refused n) = as-token.Refused (refusal_with n)

-- with the position after it
abbrev pub tokenised_for : ℕ → ℕ → Taken → Read (code.Token lengths.Length)
tokenised_for at unit_length t = record { value = token_for at unit_length t.token; next = at + t.used }

-- what the scan wants, and back
unfoldable pub effect_for : tokens.Effect → Effect
effect_for tokens.counts = effect.Counts
effect_for (tokens.refuses n) = effect.Refuses (refusal_with n)
effect_for (tokens.sets_unit u) = effect.SetsUnit u
effect_for (tokens.sets_meter m) = effect.SetsMeter m.0 m.1
effect_for tokens.no_effect = effect.NoEffect

unfoldable pub effect_as : Effect → tokens.Effect
effect_as effect.Counts = tokens.counts
effect_as (effect.Refuses r) = tokens.refuses (number_of r)
effect_as (effect.SetsUnit u) = tokens.sets_unit u
effect_as (effect.SetsMeter t b) = tokens.sets_meter (t, b)
effect_as effect.NoEffect = tokens.no_effect

abbrev pub effected_for : ℕ → Taken → Read Effect
effected_for at t = record { value = effect_for (effect_of t.token); next = at + t.used }

-- FROM A TOKEN AS IT STANDS (`valued_token`, `effect_token`: the same)
abbrev pub value_for : ℕ → Fraction → lengths.Length
value_for unit_length l = length_as (written_as (length_fraction unit_length l.num l.den))

-- the length of a rest by the number of its kind: Z and X, 3 and 4, are a whole bar
abbrev pub kind_length : ℕ → ℕ → Fraction → lengths.Length
kind_length unit_length kind l = cond (ltb kind 3) (value_for unit_length l) (WholeBar 0)

unfoldable pub valued_for : ℕ → code.Token Fraction → code.Token lengths.Length
valued_for unit_length as-token.Space = as-token.Space
valued_for unit_length as-token.Overlay = as-token.Overlay
valued_for unit_length as-token.Quoted = as-token.Quoted
valued_for unit_length (as-token.Broken x0 x1) = as-token.Broken x0 x1
valued_for unit_length (as-token.Tuplet x0 x1 x2) = as-token.Tuplet x0 x1 x2
valued_for unit_length as-token.Slur = as-token.Slur
valued_for unit_length as-token.GraceOpen = as-token.GraceOpen
valued_for unit_length as-token.GraceClose = as-token.GraceClose
valued_for unit_length as-token.Decoration = as-token.Decoration
valued_for unit_length (as-token.Barline x0 x1 x2) = as-token.Barline x0 x1 x2
valued_for unit_length (as-token.Volta x0 x1) = as-token.Volta x0 x1
valued_for unit_length (as-token.Unit x) = as-token.Unit x
valued_for unit_length (as-token.Meter x0 x1) = as-token.Meter x0 x1
valued_for unit_length (as-token.Key x0 x1) = as-token.Key x0 x1
valued_for unit_length as-token.Field = as-token.Field
valued_for unit_length (as-token.Chord place count l tied slurred) = as-token.Chord place count (value_for unit_length l) tied slurred
valued_for unit_length (as-token.Rest kind l) = as-token.Rest kind (kind_length unit_length kind l)
valued_for unit_length (as-token.Note pitch l tied slurred) = as-token.Note pitch (value_for unit_length l) tied slurred
valued_for unit_length as-token.Nothing = as-token.Nothing
valued_for unit_length as-token.Skipped = as-token.Skipped
valued_for unit_length (as-token.Refused x) = as-token.Refused x

abbrev pub tokenised_in : ℕ → Read (code.Token Fraction) → Read (code.Token lengths.Length)
tokenised_in unit_length r = record { value = valued_for unit_length r.value; next = r.next }

unfoldable pub effect_in : code.Token Fraction → Effect
effect_in as-token.Space = effect.NoEffect
effect_in as-token.Overlay = effect.NoEffect
effect_in as-token.Quoted = effect.NoEffect
effect_in (as-token.Broken x0 x1) = effect.NoEffect
effect_in (as-token.Tuplet x0 x1 x2) = effect.NoEffect
effect_in as-token.Slur = effect.NoEffect
effect_in as-token.GraceOpen = effect.NoEffect
effect_in as-token.GraceClose = effect.NoEffect
effect_in as-token.Decoration = effect.NoEffect
effect_in (as-token.Barline x0 x1 x2) = effect.NoEffect
effect_in (as-token.Volta x0 x1) = effect.NoEffect
effect_in (as-token.Unit x) = effect.SetsUnit x
effect_in (as-token.Meter x0 x1) = effect.SetsMeter x0 x1
effect_in (as-token.Key x0 x1) = effect.NoEffect
effect_in as-token.Field = effect.NoEffect
effect_in (as-token.Chord place count l tied slurred) = effect.Counts
effect_in (as-token.Rest k l) = effect.Counts
effect_in (as-token.Note pitch l tied slurred) = effect.Counts
effect_in as-token.Nothing = effect.NoEffect
effect_in as-token.Skipped = effect.NoEffect
effect_in (as-token.Refused x) = effect.Refuses x

abbrev pub effected_in : Read (code.Token Fraction) → Read Effect
effected_in r = record { value = effect_in r.value; next = r.next }
