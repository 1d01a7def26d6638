-- What stands right behind a note, as the code has it.
use Rattle.std.specs.Prelude.{ℕ, ◌+◌}
use Rattle.standard.specs.Notes as standard
use Rattle.text_runs.specs.declared.Behind.{Behind}

-- at a position: with the position after it
abbrev pub behind_for : ℕ → standard.Behind → Behind
behind_for at b = record { tie = b.tie; slur = b.slur; next = at + b.used }
