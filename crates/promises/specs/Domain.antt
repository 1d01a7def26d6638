-- THE DOMAIN OF EQUALITY (document 01): "accepted texts in which no length has denominator times unit above 2^57". Of the first edition: "The Rust is compared with that one
-- only" (document 02, T-03).
use Rattle.std.specs.Prelude.{ℕ, ◌*◌, ◌^◌, Bool, true, false, ◌&&◌, List, [], ◌∷◌, leb}
use Rattle.laws.specs.Lists.{all}
use Rattle.editions.specs.declared.Edition.TheVariants.{First}
use Rattle.reader.specs.Text.{text_lines}
use Rattle.reader.specs.Lengths.{Length}
use Rattle.reader.specs.Token.{Token, space, overlay, quoted, broken, tuplet, slur, grace_open, grace_close, decoration, barline, volta, unit, meter, key, field, chord, rest, note, nothing, skipped, refused}
use Rattle.reader.specs.Tokens.{tokens}
use Rattle.reader.specs.Steps.{refuse, on}
use Rattle.reader.specs.Scan.{Item, voice_declared, reset, key_in_header, key_change, meter_change, lyric_line, music_line, Out, scan}
use Rattle.reader.specs.Answer.{Verdict, refusal, reading, parse_abc}

-- a length, with the unit in force
abbrev pub fits : ℕ → Length → Bool
fits u l = leb (l.den * u) (2 ^ 57)

-- the unit behind a token
abbrev pub unit_behind : ℕ → Token → ℕ
unit_behind u space = u
unit_behind u overlay = u
unit_behind u quoted = u
unit_behind u (broken up n) = u
unit_behind u (tuplet t) = u
unit_behind u slur = u
unit_behind u grace_open = u
unit_behind u grace_close = u
unit_behind u decoration = u
unit_behind u (barline b o) = u
unit_behind u (volta ps) = u
unit_behind u (unit v) = v
unit_behind u (meter m) = u
unit_behind u (key k) = u
unit_behind u field = u
unit_behind u (chord ws l b) = u
unit_behind u (rest k l) = u
unit_behind u (note w l b) = u
unit_behind u nothing = u
unit_behind u skipped = u
unit_behind u (refused n) = u

-- the length of a chord, a rest or a note
abbrev pub token_fits : ℕ → Token → Bool
token_fits u space = true
token_fits u overlay = true
token_fits u quoted = true
token_fits u (broken up n) = true
token_fits u (tuplet t) = true
token_fits u slur = true
token_fits u grace_open = true
token_fits u grace_close = true
token_fits u decoration = true
token_fits u (barline b o) = true
token_fits u (volta ps) = true
token_fits u (unit v) = true
token_fits u (meter m) = true
token_fits u (key k) = true
token_fits u field = true
token_fits u (chord ws l b) = fits u l
token_fits u (rest k l) = fits u l
token_fits u (note w l b) = fits u l
token_fits u nothing = true
token_fits u skipped = true
token_fits u (refused n) = true

-- every length of a music line, which begins with the unit u in force
abbrev pub line_fits : ℕ → List Token → Bool
line_fits u [] = true
line_fits u (t ∷ ts) = token_fits u t && line_fits (unit_behind u t) ts

abbrev pub item_fits : Item → Bool
item_fits (voice_declared b) = true
item_fits reset = true
item_fits key_in_header = true
item_fits (key_change k) = true
item_fits (meter_change m) = true
item_fits (lyric_line b t) = true
item_fits (music_line u m l) = line_fits u (tokens First 0 l)

abbrev pub items_fit : Out → Bool
items_fit (refuse n l) = false
items_fit (on s a) = all (λ (x : ℕ × Item). item_fits x.1) a

abbrev pub is_accepted : Verdict → Bool
is_accepted (refusal n l) = false
is_accepted (reading ps) = true

-- of a text and the lengths of both stores
abbrev pub in_domain : List ℕ → ℕ → ℕ → Bool
in_domain text rl sl = is_accepted (parse_abc First text rl sl).verdict && items_fit (scan First (text_lines text))
