-- `lyric_items::sing_item` meets its contract.
use borrow.Author.Rules.{rules}
use denote.Enum.Bare.{same_true, sameb}
use mathlib.Core.Bool.{Bool, false, not, false≢true}
use mathlib.Core.Path.{◌≡◌, sym, ◌∙◌}
use native.Mathlib.Omega.{arith}
use Rattle.laws.proofs.Bools.{not_false}
use Rattle.scan_table.specs.contracts.Kind.{the_type}
use Rattle.scan_table.specs.declared.Kind.{Kind}
use Rattle.scan_table.specs.declared.Kind.TheVariants as K
use Rattle.lyric_items.proofs.Applying.{other_kind, other_part, line_fits_lem, line_item}
use Rattle.lyric_items.proofs.sing_item.Goals as goal

-- an item that is not told apart from a lyric line is one
lyric_line_lem : (k : Kind) (b : Bool) → b ≡ not (sameb the_type k K.LyricLine) → b ≡ false → k ≡ K.LyricLine
lyric_line_lem k b e f = same_true the_type (search rules) _ _ (not_false _ (sym e ∙ f))

pub get_item-item-requires : goal.get_item-item-requires
get_item-item-requires c =
    let p = c.requires in
    omega (arith, p.before_heads, p.kept.apart, p.kept.inside)

pub returns-then-ne : goal.returns-then-ne
returns-then-ne c =
    let a = c.args in
    other_kind a.edition a.text.now a.scratch.now a.part a.i a.sheet _ c.get_item-item.ensures c.requires.kept (λ e. let f = rw e at c.ne.ensures in absurd (false≢true (sym f ∙ c.if-ne.true)))

pub returns-then-item-part : goal.returns-then-item-part
returns-then-item-part c =
    let a = c.args in
    other_part a.edition a.text.now a.scratch.now a.part a.i a.sheet _ c.get_item-item.ensures c.requires.kept c.if-item-part.true

pub sing_line-requires : goal.sing_line-requires
sing_line-requires c =
    let a = c.args in
    line_fits_lem a.edition a.text.now a.scratch.now a.part a.i a.sheet c.get_item-item.result c.get_item-item.ensures (lyric_line_lem _ _ c.ne.ensures c.if-ne.false) c.if-item-part.false c.line_of.result c.line_of.ensures c.requires

pub returns : goal.returns
returns c =
    let a = c.args in
    line_item a.edition a.text.now a.scratch.now a.part a.i a.sheet c.get_item-item.result c.get_item-item.ensures (lyric_line_lem _ _ c.ne.ensures c.if-ne.false) c.if-item-part.false c.line_of.result c.line_of.ensures _ _ c.sing_line.ensures
