-- `field_values::voice_identifier` meets its contract: the first word stands between the two positions.
use Rattle.field_values.proofs.FieldLaws.{identifier_part, identifier_none}
use Rattle.field_values.proofs.voice_identifier.Goals as goal

pub returns-in-Some : goal.returns-in-Some
returns-in-Some c = identifier_part _ _ _ c.in-Some.ensures

pub returns-in-None : goal.returns-in-None
returns-in-None c = identifier_none _ c.in-None.ensures
