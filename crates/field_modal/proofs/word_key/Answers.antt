-- `field_modal::word_key` meets its contract: no tonic, or the key on it in its mode.
use Prim.Native.Nat.{◌<◌}
use mathlib.Core.Path.{◌≡◌}
use native.Mathlib.Omega.{arith}
use borrow.Author.Rules.{rules}
use Rattle.standard.specs.Keys.{plain_key}
use Rattle.reader.specs.Keys.{is_minor}
use Rattle.field_modes.specs.Modes.{mode_as}
use Rattle.field_modal.proofs.Texts.{below_seven, key_unnamed, key_named}
use Rattle.field_modal.proofs.word_key.Goals as goal

pub overflow_sub-result : goal.overflow_sub-result
overflow_sub-result c =
    let small : c.flatter.result < 7 = rw c.flatter.ensures (below_seven _) in
    omega (arith, small, c.in-Some.ensures.low)

pub returns-in-None : goal.returns-in-None
unfolding plain_key
returns-in-None c = key_unnamed _ _ c.in-None.ensures

pub returns-in-Some : goal.returns-in-Some
unfolding is_minor
returns-in-Some c =
    let same : c.eq.result ≡ is_minor (mode_as c.mode_from-mode.result) = search rules in
    rw (c.flatter.ensures, same, c.mode_from-mode.ensures) (key_named _ _ _ _ c.in-Some.ensures)
