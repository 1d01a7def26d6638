-- `lyric_walk::get_link` meets its contract.
use Rattle.lyric_walk.proofs.Chains.{link_is}
use Rattle.lyric_walk.proofs.get_link.Goals as goal

pub returns : goal.returns
returns c =
    let a = c.args in
    link_is a.scratch.now a.log a.k c.requires.0 _ _ _ _ _ c.syllabic_in.ensures c.get_u32-at.ensures c.get_u32-end.ensures c.get_u32-place.ensures c.below-next.ensures
