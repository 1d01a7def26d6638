-- `tally_counts::count_sounded` meets its contract: so far the notes below i are counted.
use Prim.Native.Nat.{◌+◌, ◌*◌}
use lib.Dec.{eqb}
use lib.ListN.{get_or}
use mathlib.Core.Path.{◌≡◌, sym, ◌∙◌}
use native.Mathlib.Omega.{arith}
use borrow.Author.Rules.{rules}
use Rattle.laws.proofs.Bools.{cond_le}
use Rattle.reader.specs.Records.{note_width}
use Rattle.tally_counts.proofs.Bytes.{byte_is, sounded_none, sounded_more}
use Rattle.tally_counts.proofs.count_sounded.Goals as goal

pub loop-i-init : goal.loop-i-init
loop-i-init c = (search rules, sym (sounded_none _ _))

pub overflow_add-sounded : goal.overflow_add-sounded
overflow_add-sounded c =
    let l = c.loop-i in
    let a = c.args in
    let e = c.from-sounded.ensures ∙ byte_is (eqb (get_or a.reading.now (a.at + note_width * l.i) 0) 0) in
    omega (arith, e, cond_le (eqb (get_or a.reading.now (a.at + note_width * l.i) 0) 0) 1, c.loop-i.invariant, c.requires, c.well_formed)

pub loop-i-preserved : goal.loop-i-preserved
loop-i-preserved c =
    let l = c.loop-i in
    let a = c.args in
    let e = c.from-sounded.ensures ∙ byte_is (eqb (get_or a.reading.now (a.at + note_width * l.i) 0) 0) in (
      omega (arith, e, cond_le (eqb (get_or a.reading.now (a.at + note_width * l.i) 0) 0) 1, l.invariant),
      (λ j. l.invariant.1 j + e j) ∙ sym (sounded_more a.reading.now a.at l.i),
    )

pub returns : goal.returns
returns c =
    let l = c.loop-i in
    let e : l.i ≡ c.args.n = omega (arith, c.loop-i-test.false) in
    record { value = rw e at l.invariant.1; upper_bound = rw e at l.invariant.0 }
