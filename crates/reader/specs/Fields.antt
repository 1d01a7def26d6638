-- THE VALUES OF M, L, K AND V FIELDS (ABC 2.1, 3.1.6 M, 3.1.7 L, 4.6 clefs, 7.1 voices).
use Rattle.std.specs.Prelude.{ℕ, ◌^◌, ◌-◌, Bool, true, false, cond, ◌&&◌, List, [], ◌∷◌}
use Rattle.std.proofs.Math.Option.{Option, none, some}
use Rattle.laws.specs.Lists.{any, eq_text, starts_with}
use Rattle.standard.specs.Bytes.{ascii, is}
use Rattle.standard.specs.Fields.{Meter, named_meter}
use Rattle.editions.specs.declared.Edition.{Edition}
use Rattle.editions.specs.declared.Edition.TheVariants.{First, Second}
use Rattle.reader.specs.Pieces.{numeral, before, after, field_words, trimmed}
use Rattle.reader.specs.Keys.{is_key_word, is_beyond, key_of}

-- a number of 8 bits, else 4
unfoldable pub or_four : Option ℕ → ℕ
or_four none = 4
or_four (some n) = n

-- a meter's top or bottom: white space around it goes
unfoldable pub meter_number : List ℕ → ℕ
meter_number s = or_four (numeral 255 (trimmed s))

-- without a slash the bottom is 4
unfoldable pub meter_bottom : Option (List ℕ) → ℕ
meter_bottom none = 4
meter_bottom (some s) = meter_number s

-- `C`, `C|` (3.1.6), `c|` too; else top and bottom each by itself (000, parse_meter)
unfoldable pub meter_or : List ℕ → Option Meter → Meter
meter_or m (some t) = t
meter_or m none = elim (eq_text m (ascii "c|")) [ true ↦ (2, 2) | false ↦ (meter_number (before (is "/") m), meter_bottom (after (is "/") m)) ]

unfoldable pub meter_text : List ℕ → Meter
meter_text m = meter_or m (named_meter m)

-- an M field's meter, top and bottom
unfoldable pub meter_of : List ℕ → Meter
meter_of value = meter_text (trimmed value)

-- what stands between the first slash and the second, if there is a slash
unfoldable pub unit_text : Option (List ℕ) → Option (List ℕ)
unit_text none = none
unit_text (some s) = some (before (is "/") s)

-- a unit of 32 bits
unfoldable pub unit_number : List ℕ → Option ℕ
unit_number s = numeral (2 ^ 32 - 1) s

-- a unit that is no number is 8
unfoldable pub or_eight : Option ℕ → ℕ
or_eight none = 8
or_eight (some n) = n

-- an L line: without a slash it sets nothing; what is no number sets 8 (000, parse_abc)
unfoldable pub line_unit : Option (List ℕ) → Option ℕ
line_unit none = none
line_unit (some s) = some (or_eight (unit_number s))

unfoldable pub unit_of : List ℕ → Option ℕ
unit_of value = line_unit (unit_text (after (is "/") (trimmed value)))

-- an inline L: what is no number sets nothing (000, parse_body_line)
unfoldable pub inline_unit : Option (List ℕ) → Option ℕ
inline_unit none = none
inline_unit (some s) = unit_number s

unfoldable pub unit_inline : List ℕ → Option ℕ
unit_inline value = inline_unit (unit_text (after (is "/") (trimmed value)))

-- refusal 10: "a `middle=` word in a K or V field"
unfoldable pub middle_word : List ℕ → Bool
middle_word value = any (starts_with (ascii "middle=")) (field_words value)

-- refusals 10 and 21 "as met in the line": 10 at a `middle=` word, 21 at the first word of the key text, where the key stands, if it is beyond
unfoldable pub first_met : Bool → List (List ℕ) → Option ℕ
first_met beyond [] = none
first_met beyond (w ∷ ws) =
    elim (starts_with (ascii "middle=") w) [ true ↦ some 10 | false ↦ cond (beyond && is_key_word w) (some 21) (first_met beyond ws) ]

-- the refusal of a K field, if it has one; 21 "in the second edition"
unfoldable pub key_refusal : Edition → List ℕ → Option ℕ
key_refusal First value = cond (middle_word value) (some 10) none
key_refusal Second value = first_met (is_beyond (key_of Second value)) (field_words value)

-- the first of the words, nothing if there is none
unfoldable pub first_word : List (List ℕ) → List ℕ
first_word [] = []
first_word (w ∷ ws) = w

-- the identifier that a V line names: its first word; none is refusal 8
unfoldable pub identifier : List ℕ → List ℕ
identifier value = first_word (field_words value)
