-- `lyric_items::sing_items` meets its contract.
use Rattle.lyrics.specs.Sheet.{with_count, syllables_in}
use Rattle.lyric_items.proofs.Applying.{Applying}
use Rattle.lyric_items.proofs.sing_items.Given as goal

abbrev pub invariant-loop-i : goal.invariant-loop-i
invariant-loop-i l = Applying l.edition l.text l.initial.scratch l.n l.part l.sheet (syllables_in l.text l.initial.scratch (with_count l.sheet 0)) l.scratch l.count l.i
