-- `part_measures::set_key_mark` meets its contract: two writes, the second where the first ended.
use Prim.Native.Nat.{◌+◌, ◌*◌}
use mathlib.Core.Path.{refl, ◌∙◌}
use mathlib.Core.List.{[], ◌∷◌}
use Rattle.laws.specs.Bytes.{splice}
use Rattle.laws.proofs.Splices.{spliced_next}
use Rattle.reader.specs.Records.{measure_width}
use Rattle.part_measures.specs.Heads.{key_mark_at}
use Rattle.part_measures.proofs.set_key_mark.Goals as goal

pub returns : goal.returns
returns c =
    let a = c.args in
    let m = c.mode_code-mode.ensures in
    let f = c.signed-fifths.ensures in
    spliced_next _ _ _ _ _ _ _ c.put_u8.ensures c.put_u8-2.ensures refl ∙ (λ j. splice a.store.now (a.at + measure_width * a.i + key_mark_at) (m j ∷ f j ∷ []))
