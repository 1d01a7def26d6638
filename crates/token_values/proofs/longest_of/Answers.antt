-- `token_values::longest_of` meets its contract: the forty stand four by four.
use Prim.Native.Nat.{ℕ, ◌-◌, ◌/◌, ◌%◌, ◌<◌}
use mathlib.Core.Path.{◌≡◌, refl, sym, ap}
use mathlib.Core.Bool.{Bool, true}
use native.Mathlib.Omega.{arith}
use lib.ListN.{get_or}
use Rattle.laws.proofs.Finite.{below}
use Rattle.standard.specs.Lengths.{ten_values, with_dots, forty}
use Rattle.reader.specs.Lengths.{quarter_note}
use Rattle.reader.proofs.ValueLaws.{is_written, is_written_lem}
use Rattle.token_lengths.specs.Values.{written, length_as}
use Rattle.token_values.proofs.longest_of.Goals as goal

stands : ℕ → Bool
stands m = is_written (m / 4) (3 - m % 4) (get_or forty m quarter_note)

all_stand : (m : ℕ) → m < 40 → stands m ≡ true
unfolding stands forty ten_values with_dots
all_stand m h = below 40 stands refl m h

standing : (m : ℕ) → m < 40 → get_or forty m quarter_note ≡ written (m / 4) (3 - m % 4)
unfolding stands
standing m h = is_written_lem (m / 4) (3 - m % 4) (get_or forty m quarter_note) (all_stand m h)

pub returns-then-count-eq0 : goal.returns-then-count-eq0
unfolding forty ten_values with_dots
returns-then-count-eq0 c = rw c.if-count-eq0.true

pub returns : goal.returns
returns c = ap length_as (sym (standing (40 - c.args.count) (omega arith)))
