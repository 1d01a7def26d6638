-- `store_sections::write_u32` meets its contract: all four bytes, or no room for them.
use mathlib.Core.Path.{sym}
use native.Mathlib.Omega.{arith}
use Rattle.laws.proofs.Numbers.{length_little}
use Rattle.store_sections.proofs.write_u32.Goals as goal

pub returns-then-to-lt4 : goal.returns-then-to-lt4
returns-then-to-lt4 c = record { says = omega (arith, length_little 4 c.args.v) }

pub returns : goal.returns
returns c =
    record {
      says = (
        sym (length_little 4 c.args.v),
        omega arith,
        c.put_u32.ensures,
      );
    }
