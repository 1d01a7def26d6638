-- `lyric_items::sing_items` meets its contract.
use Rattle.lyric_items.proofs.Applying.{applying_start, item_fits_lem, applying_next, applying_end}
use Rattle.lyric_items.proofs.sing_items.Goals as goal

pub loop-i-init : goal.loop-i-init
loop-i-init c =
    let a = c.args in
    applying_start a.edition a.text.now a.scratch.now a.n a.part a.sheet c.requires.1

pub sing_item-count-requires : goal.sing_item-count-requires
sing_item-count-requires c =
    let a = c.args in
    let l = c.loop-i in
    item_fits_lem a.edition a.text.now a.scratch.now a.n a.part a.sheet _ c.requires.0 l.scratch l.count l.i l.invariant c.loop-i-test.true

pub loop-i-preserved : goal.loop-i-preserved
loop-i-preserved c =
    let a = c.args in
    let l = c.loop-i in
    applying_next a.edition a.text.now a.scratch.now a.n a.part a.sheet _ c.requires.0 l.scratch l.count l.i l.invariant c.loop-i-test.true _ _ c.sing_item-count.ensures

pub shape_of-scratch : goal.shape_of-scratch
shape_of-scratch c = c.loop-i.invariant.outside.same_length

pub returns : goal.returns
returns c =
    let a = c.args in
    let l = c.loop-i in
    applying_end a.edition a.text.now a.scratch.now a.n a.part a.sheet _ l.scratch l.count l.i l.invariant c.loop-i-test.false
