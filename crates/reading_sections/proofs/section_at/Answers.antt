-- `reading_sections::section_at` meets its contract.
use mathlib.Core.Path.{ap}
use native.Mathlib.Omega.{arith}
use Prim.Native.Nat.{ℕ, ◌+◌, ◌*◌}
use Rattle.reading_sections.specs.Sections.{behind}
use Rattle.reading_sections.proofs.section_at.Goals as goal

pub get_u32-count-requires : goal.get_u32-count-requires
unfolding behind
get_u32-count-requires c = omega (arith, c.requires)

pub overflow_add-result : goal.overflow_add-result
unfolding behind
overflow_add-result c = omega (arith, c.requires, c.well_formed)

pub overflow_mul-result : goal.overflow_mul-result
unfolding behind
overflow_mul-result c = rw c.get_u32-count.ensures (omega (arith, c.requires, c.well_formed))

pub overflow_add-result-2 : goal.overflow_add-result-2
unfolding behind
overflow_add-result-2 c = rw c.get_u32-count.ensures (omega (arith, c.requires, c.well_formed))

pub returns : goal.returns
unfolding behind
returns c =
    let a = c.args in
    (c.get_u32-count.ensures, ap (λ (n : ℕ). a.at + 4 + a.width * n) c.get_u32-count.ensures)
