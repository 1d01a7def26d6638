-- `lyric_items::apply_abc_lyrics` meets its contract.
use native.Mathlib.Omega.{arith}
use Rattle.lyric_items.proofs.Applying.{cleared_kept, cleared_fits, cleared_sung}
use Rattle.lyric_items.proofs.apply_abc_lyrics.Goals as goal

pub overflow_mul-sheet : goal.overflow_mul-sheet
overflow_mul-sheet c = omega (arith, c.requires.apart, c.requires.inside, c.well_formed.1.0.0)

pub overflow_add-sheet : goal.overflow_add-sheet
overflow_add-sheet c = omega (arith, c.requires.apart, c.requires.inside, c.well_formed.1.0.0)

pub clear_between-requires : goal.clear_between-requires
clear_between-requires c = (omega arith, omega (arith, c.requires.apart, c.requires.inside))

pub sing_items-requires : goal.sing_items-requires
sing_items-requires c =
    let a = c.args in
    let e = c.clear_between.ensures in
    (cleared_fits a.edition a.text.now a.scratch.now a.n a.part a.sheet c.requires _ e, cleared_kept a.edition a.text.now a.scratch.now a.n a.part a.sheet c.requires _ e)

pub returns : goal.returns
returns c =
    let a = c.args in
    cleared_sung a.edition a.text.now a.scratch.now a.n a.part a.sheet c.requires _ c.clear_between.ensures _ _ c.sing_items.ensures
