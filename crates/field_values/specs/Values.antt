-- What the answers stand for among the definitions.
use Rattle.std.specs.Prelude.{ℕ, ◌≤◌, ◌≡◌, List, length, Result, Ok, Err}
use Rattle.laws.specs.Bytes.{between}
use Rattle.standard.specs.Bytes.{is}
use Rattle.standard.specs.Fields.{Meter as StandardMeter}
use Rattle.reader.specs.Pieces.{before, after}
use Rattle.reader.specs.Fields.{meter_number, meter_bottom, identifier}
use Rattle.reader.specs.Token.{Token, unit, meter, key, field, refused}
use Rattle.refusals.specs.declared.Refusal.{Refusal}
use Rattle.refusals.specs.Numbers.{number_of}
use Rattle.text_words.specs.declared.Part.{Part}
use Rattle.field_keys.specs.Passed.{key_as}
use Rattle.field_values.specs.declared.Meter.{Meter}
use Rattle.field_values.specs.declared.Field.{Field}
use Rattle.field_values.specs.declared.Field.TheVariants as the_field

-- top and bottom
abbrev pub meter_as : Meter → StandardMeter
meter_as m = (m.top, m.bottom)

-- top and bottom of a meter that has no name
unfoldable pub meter_parts : List ℕ → StandardMeter
meter_parts m = (meter_number (before (is "/") m), meter_bottom (after (is "/") m))

-- r is where the identifier of the value stands in it
pub record Identifier (value : List ℕ) (r : Part) : Type 0 where
  pub order : r.start ≤ r.end
  pub high : r.end ≤ length value
  pub text : between value r.start r.end ≡ identifier value

-- the token that an inline field is
abbrev pub token_as : Result Field Refusal → Token
token_as (Ok (the_field.Unit u)) = unit u
token_as (Ok (the_field.Meter m)) = meter (meter_as m)
token_as (Ok (the_field.Key k)) = key (key_as k)
token_as (Ok the_field.Other) = field
token_as (Err refusal) = refused (number_of refusal)
