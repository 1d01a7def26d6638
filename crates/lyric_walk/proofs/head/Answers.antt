-- `lyric_walk::head` meets its contract.
use Rattle.lyric_walk.proofs.Chains.{head_is}
use Rattle.lyric_walk.proofs.head.Goals as goal

pub returns : goal.returns
returns c =
    let a = c.args in
    head_is a.scratch.now a.sheet a.note _ _ c.requires.1 c.get_u32-place.ensures c.below.ensures
