-- `scan_table::set_lyric` meets its contract: two writes.
use Prim.Native.Nat.{ℕ, ◌+◌}
use mathlib.Core.Path.{ap, ◌∙◌}
use mathlib.Core.List.{List}
use Rattle.laws.specs.Bytes.{splice, le32}
use Rattle.scan_table.specs.Rows.{row_from, unit_at}
use Rattle.scan_table.proofs.set_lyric.Goals as goal

pub returns : goal.returns
returns c =
    let a = c.args in
    c.put_u32.ensures ∙ ap (λ (s : List ℕ). splice s (row_from a.i + unit_at) (le32 a.first)) c.put_u8.ensures
