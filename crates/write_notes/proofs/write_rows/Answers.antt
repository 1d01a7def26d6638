-- `write_notes::write_rows` meets its contract: what is left of the rows gives what is left of the records, for which there is room.
use Prim.Native.Nat.{◌+◌, ◌*◌}
use mathlib.Core.Path.{◌≡◌, refl}
use native.Mathlib.Omega.{arith}
use borrow.Author.Rules.{rules}
use Rattle.reader.specs.Records.{note_width}
use Rattle.part_rows.specs.Encoded.{note_row_width}
use Rattle.write_notes.specs.Out.{records_out}
use Rattle.write_notes.proofs.Written.{begin_rows, written_in, written_on_lem, written_at, written_all}
use Rattle.write_notes.proofs.Leads.{records_step, records_none, length_records}
use Rattle.write_notes.proofs.write_rows.Goals as goal

pub returns-then-to-k : goal.returns-then-to-k
returns-then-to-k c =
    let a = c.args in
    record { says = omega (arith, length_records a.store.now a.place a.k (omega arith)) }

pub loop-row-init : goal.loop-row-init
loop-row-init c = (search rules, refl, begin_rows _ (records_out c.args.store.now) note_row_width c.args.place c.args.k)

pub loop-row-preserved : goal.loop-row-preserved
loop-row-preserved c =
    let l = c.loop-row in
    let w = written_on_lem l.invariant.2 c.put_record.ensures (records_step _ _ _ _ c.loop-row-test.true) in
    let e : note_width * l.row + note_width ≡ note_width * (l.row + 1) = omega arith in
    (omega (arith, l.invariant.0, (written_in w).1), (written_in w).1, written_at w e)

pub returns : goal.returns
returns c =
    let l = c.loop-row in
    let e : note_width * l.row ≡ note_width * c.args.k = omega (arith, c.loop-row-test.false) in
    written_all (written_at l.invariant.2 e) (records_none _ _ _ _ c.loop-row-test.false)
