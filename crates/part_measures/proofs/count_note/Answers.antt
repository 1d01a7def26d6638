-- `part_measures::count_note` meets its contract: the count read, and written one greater.
use Prim.Native.Nat.{ℕ, suc, ◌+◌, ◌*◌}
use mathlib.Core.Path.{ap, ◌∙◌}
use native.Mathlib.Numerals.{add-one}
use Rattle.laws.specs.Bytes.{splice, le32}
use Rattle.reader.specs.Records.{measure_width}
use Rattle.part_measures.proofs.count_note.Goals as goal

pub returns : goal.returns
returns c =
    let a = c.args in
    let place = a.at + measure_width * a.i + 4 * a.voice in
    c.put_u32.ensures ∙ ap (λ (n : ℕ). splice a.store.now place (le32 n)) (add-one _ ∙ ap suc c.get_u32-n.ensures)
