-- `write_pitches::write_run` meets its contract.
use native.Mathlib.Omega.{arith}
use Rattle.write_pitches.proofs.Out.{run_wrote, run_none}
use Rattle.write_pitches.proofs.write_run.Goals as goal

pub returns-then-to-len : goal.returns-then-to-len
returns-then-to-len c =
    let a = c.args in
    run_none a.store.now a.from a.len (omega arith) (omega arith)

pub returns : goal.returns
returns c =
    let a = c.args in
    run_wrote a.store.now a.from a.len c.copy.ensures (omega arith) (omega arith)
