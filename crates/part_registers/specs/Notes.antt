-- WHAT A NOTE GETS, by the code's values.
use Rattle.std.specs.Prelude.{ℕ, ◌+◌, ◌-◌, Bool, cond, ◌&&◌, leb, eqb, Option, None, Some}
use Rattle.standard.specs.Lengths.{Value}
use Rattle.token_lengths.specs.declared.Length.{Length}
use Rattle.token_lengths.specs.declared.Length.TheVariants.{Written, WholeBar}
use Rattle.token_lengths.specs.Values.{as_value, broken_length}
use Rattle.part_rows.specs.declared.NoteRow.{NoteRow}
use Rattle.part_registers.specs.declared.Pending.{Pending}
use Rattle.part_registers.specs.declared.Half.{Half}
use Rattle.part_registers.specs.declared.Running.{Running}
use Rattle.part_registers.specs.declared.Running.TheVariants as running

unfoldable pub beams : ℕ → ℕ → Bool
beams kind value = eqb kind 0 && (leb 5 value && leb value 9)

unfoldable pub bit_of : Bool → ℕ → ℕ
bit_of b n = cond b n 0

unfoldable pub flags_in : Pending → Bool → Bool → ℕ
flags_in p tie slur = bit_of tie 1 + bit_of p.tie 2 + bit_of p.slur 4 + bit_of slur 8 + bit_of p.grace 16

unfoldable pub length_in : ℕ → ℕ → Length
length_in value dots = cond (eqb value 10) (WholeBar dots) (Written value dots)

unfoldable pub boundary_of : Bool → Bool → ℕ
boundary_of starts stops = bit_of starts 1 + bit_of stops 2

abbrev pub with_beam : ℕ → NoteRow → NoteRow
with_beam b n = record { kind = n.kind; value = n.value; dots = n.dots; flags = n.flags; beam = b; actual = n.actual; normal = n.normal; boundary = n.boundary; pitches = n.pitches }

abbrev pub with_value : Value → NoteRow → NoteRow
with_value w n = record { kind = n.kind; value = w.value; dots = w.dots; flags = n.flags; beam = n.beam; actual = n.actual; normal = n.normal; boundary = n.boundary; pitches = n.pitches }

abbrev pub with_group : ℕ → ℕ → ℕ → NoteRow → NoteRow
with_group a b c n = record { kind = n.kind; value = n.value; dots = n.dots; flags = n.flags; beam = n.beam; actual = a; normal = b; boundary = c; pitches = n.pitches }

unfoldable pub grouped_row : Running → NoteRow → NoteRow
grouped_row running.Nothing n = n
grouped_row (running.Tuplet actual normal count remaining) n = with_group actual normal (boundary_of (eqb remaining count) (eqb remaining 1)) n

unfoldable pub fewer : Running → Running
fewer running.Nothing = running.Nothing
fewer (running.Tuplet actual normal count remaining) = cond (leb remaining 1) running.Nothing (running.Tuplet actual normal count (remaining - 1))

unfoldable pub broken_row : Bool → ℕ → NoteRow → NoteRow
broken_row up times n = with_value (as_value (broken_length up times (length_in n.value n.dots))) n

unfoldable pub halved_row : Option Half → NoteRow → NoteRow
halved_row None n = n
halved_row (Some h) n = broken_row h.up h.times n

unfoldable pub run_again : ℕ → ℕ → ℕ → ℕ
run_again run kind value = cond (beams kind value) (cond (eqb run 0) 1 2) 0

unfoldable pub beamed_row : ℕ → NoteRow → NoteRow
beamed_row run n = cond (eqb run 0) n (cond (beams n.kind n.value) (with_beam 3 n) n)
