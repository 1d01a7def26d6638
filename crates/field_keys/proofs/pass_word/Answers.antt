-- `field_keys::pass_word` meets its contract, byte by byte.
use Prim.Native.Nat.{◌≤◌}
use mathlib.Core.Path.{sym, ◌∙◌}
use native.Mathlib.Omega.{arith}
use lib.ListN.{length}
use Rattle.std.proofs.lemmas.List.{take_rest}
use Rattle.field_keys.specs.Passed.{pass_word}
use Rattle.field_keys.proofs.Walks.{pass_on, pass_over}
use Rattle.field_keys.proofs.pass_word.Goals as goal

pub loop-k-init : goal.loop-k-init
unfolding pass_word
loop-k-init c = rw c.pass_byte-passed.ensures

pub loop-k-preserved : goal.loop-k-preserved
loop-k-preserved c =
    rw (c.pass_byte-passed-in-loop-k.ensures, c.says-maj.ensures, c.says-min.ensures, take_rest)
    (sym (pass_on c.loop-k.passed c.args.word.now c.loop-k.k c.loop-k-test.true) ∙ c.loop-k.invariant)

pub returns : goal.returns
returns c =
    let over : length c.args.word.now ≤ c.loop-k.k = omega arith in
    sym (pass_over _ _ _ over) ∙ c.loop-k.invariant
