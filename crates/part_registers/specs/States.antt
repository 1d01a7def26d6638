-- WHAT IS KEPT OUTSIDE SCRATCH, as the definition has it.
use Rattle.std.specs.Prelude.{min, None, Some}
use Rattle.std.specs.Prelude as code
use Rattle.std.proofs.Math.Option.{Option, none, some}
use Rattle.standard.specs.Keys.{Key}
use Rattle.standard.specs.Notes as Notes
use Rattle.reader.specs.State as State
use Rattle.part_accidentals.specs.declared.AbcPartParseState.{AbcPartParseState}
use Rattle.part_registers.specs.declared.Pending.{Pending}
use Rattle.part_registers.specs.declared.Line.{Line}
use Rattle.part_registers.specs.declared.Half.{Half}
use Rattle.part_registers.specs.declared.Running.{Running}
use Rattle.part_registers.specs.declared.Running.TheVariants as running

abbrev pub pending_for : Notes.Pending → Pending
pending_for p = record { tie = p.tie; slur = p.slur; grace = p.grace }

abbrev pub half_for : Option State.Half → code.Option Half
half_for none = None
half_for (some h) = Some (record { up = h.up; times = h.times })

abbrev pub running_for : Option State.Running → Running
running_for none = running.Nothing
running_for (some t) = running.Tuplet t.tuplet.actual t.tuplet.normal t.tuplet.count t.remaining

-- a run of more than two notes counts as two
abbrev pub line_for : State.Line → Line
line_for l = record { unit = l.unit; top = l.meter.0; bottom = l.meter.1; overlay = l.overlay; run = min 2 l.run }

abbrev pub key_in : AbcPartParseState → Key
key_in k = record { fifths = k.fifths; minor = k.minor }
