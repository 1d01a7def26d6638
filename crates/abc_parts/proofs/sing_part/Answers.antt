-- `abc_parts::sing_part` meets its contract.
use mathlib.Core.Path.{refl}
use Rattle.editions.specs.declared.Edition.TheVariants.{First, Second}
use Rattle.abc_parts.proofs.Singing.{put_first, put_second, put_fits, part_sung}
use Rattle.abc_parts.specs.Parts.{stops_at}
use Rattle.abc_parts.proofs.sing_part.Goals as goal

pub apply_abc_lyrics-count-requires-in-Second : goal.apply_abc_lyrics-count-requires-in-Second
apply_abc_lyrics-count-requires-in-Second c =
    let a = c.args in
    put_fits Second a.text.now a.scratch.now a.n a.part a.t a.d c.requires.0 _
    (put_second a.scratch.now _ a.d.tables (stops_at a.t a.d.sounded) c.write_stops.ensures)

pub returns-in-First : goal.returns-in-First
returns-in-First c =
    let a = c.args in
    rw c.in-First.is (
      refl,
      part_sung First a.text.now a.scratch.now a.n a.part a.t a.d c.requires.0 a.scratch.now
          (put_first a.scratch.now a.d.tables (stops_at a.t a.d.sounded)) _ _ c.apply_abc_lyrics-count.ensures,
    )

pub returns-in-Second : goal.returns-in-Second
returns-in-Second c =
    let a = c.args in
    rw c.in-Second.is (
      refl,
      part_sung Second a.text.now a.scratch.now a.n a.part a.t a.d c.requires.0 _
          (put_second a.scratch.now _ a.d.tables (stops_at a.t a.d.sounded) c.write_stops.ensures) _ _ c.apply_abc_lyrics-count-in-Second.ensures,
    )
