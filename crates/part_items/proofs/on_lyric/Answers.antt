-- `part_items::on_lyric` meets its contract.
use Prim.Native.Nat.{ℕ}
use mathlib.Core.Path.{ap}
use Rattle.part_items.specs.Items.{with_verse}
use native.Mathlib.Omega.{arith}
use Rattle.part_items.proofs.on_lyric.Goals as goal

pub returns : goal.returns
returns c =
    let a = c.args in record { value = (ap (λ (v : ℕ). with_verse a.r v) c.next_verse-verse.ensures, omega arith); store_after = c.set_lyric.ensures }
