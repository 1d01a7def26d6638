-- `reading_passes::walk_pass` meets its contract: measure by measure, as proofs/Walks has it.
use Prim.Native.Nat.{ℕ}
use mathlib.Core.Path.{sym, ap, ◌∙◌}
use native.Mathlib.Numerals.{add-one}
use native.Mathlib.Omega.{arith}
use borrow.Author.Rules.{rules}
use Rattle.laws.specs.Bytes.{le32, splice}
use Rattle.reading_list.specs.Numbers.{number_at}
use Rattle.reading_passes.proofs.Walks.{seen, going_start, going_skip, going_enter, plays_full, plays_on, plays_close, plays_open, going_end}
use Rattle.reading_passes.proofs.walk_pass.Goals as goal
use Rattle.reading_passes.proofs.walk_pass.Goals.{then-not-is_skipped+else-count-room+else-closes+else-start-p, else-not-is_skipped}

pub loop-at-init : goal.loop-at-init
loop-at-init c = going_start _ _ _ _ _ _ c.requires.1

pub is_skipped-requires : goal.is_skipped-requires
is_skipped-requires c = let o = c.requires.1.stands in (o.pass_least, o.pass_most)

pub shape_of-list-then-count-room : goal.shape_of-list-then-count-room
shape_of-list-then-count-room c = search (rules, c.loop-at.invariant.listed.long)

pub returns-then-count-room : goal.returns-then-count-room
returns-then-count-room c =
    let l = c.loop-at in
    let p = c.requires in
    let h = c.loop-at-test.true in
    let sn = seen _ _ _ _ _ l.invariant.listed.span_is c.bar_at-bar.ensures in
    let g = going_enter _ _ _ _ _ _ c.args.part.now.here p.1 _ _ _ _ _ _ h l.invariant sn (sym c.is_skipped.ensures ∙ c.if-not-is_skipped.true) c.enter-p.ensures in
    plays_full _ _ _ _ _ _ c.args.part.now.here p.1 _ _ _ _ _ g c.if-count-room.true

pub put_number-requires : goal.put_number-requires
put_number-requires c =
    let o = c.loop-at.invariant.listed in
    let p = c.requires in
    (omega (arith, o.long, o.roomy, p.0.fits, c.if-count-room.false), omega (arith, c.args.part.now.here.few, c.loop-at-test.true))

pub shape_of-list-then-closes : goal.shape_of-list-then-closes
shape_of-list-then-closes c = search (rules, c.loop-at.invariant.listed.long)

pub returns-then-closes : goal.returns-then-closes
returns-then-closes c =
    let l = c.loop-at in
    let p = c.requires in
    let h = c.loop-at-test.true in
    let sn = seen _ _ _ _ _ l.invariant.listed.span_is c.bar_at-bar.ensures in
    let g = going_enter _ _ _ _ _ _ c.args.part.now.here p.1 _ _ _ _ _ _ h l.invariant sn (sym c.is_skipped.ensures ∙ c.if-not-is_skipped.true) c.enter-p.ensures in
    plays_close _ _ _ _ _ _ c.args.part.now.here p.1 _ _ _ _ _ g _ _ sn c.if-count-room.false (c.put_number.ensures ∙ ap (λ (x : ℕ). splice l.list (number_at l.count) (le32 x)) (add-one l.at)) _ (add-one l.count) (sym c.closes.ensures ∙ c.if-closes.true)

pub overflow_add-result : goal.overflow_add-result
overflow_add-result c = omega (arith, c.args.part.now.here.few, c.loop-at-test.true)

pub shape_of-list-then-start-p : goal.shape_of-list-then-start-p
shape_of-list-then-start-p c = search (rules, c.loop-at.invariant.listed.long)

pub returns-then-start-p : goal.returns-then-start-p
returns-then-start-p c =
    let l = c.loop-at in
    let p = c.requires in
    let h = c.loop-at-test.true in
    let sn = seen _ _ _ _ _ l.invariant.listed.span_is c.bar_at-bar.ensures in
    let g = going_enter _ _ _ _ _ _ c.args.part.now.here p.1 _ _ _ _ _ _ h l.invariant sn (sym c.is_skipped.ensures ∙ c.if-not-is_skipped.true) c.enter-p.ensures in
    plays_open _ _ _ _ _ _ c.args.part.now.here p.1 _ _ _ _ _ g _ _ sn c.if-count-room.false (c.put_number.ensures ∙ ap (λ (x : ℕ). splice l.list (number_at l.count) (le32 x)) (add-one l.at)) _ _ _ (add-one l.count) (add-one l.at) (sym c.closes.ensures ∙ c.if-closes.false) c.if-start-p.true

pub loop-at-preserved : goal.loop-at-preserved
loop-at-preserved c =
    let l = c.loop-at in
    let p = c.requires in
    let h = c.loop-at-test.true in
    let sn = seen _ _ _ _ _ l.invariant.listed.span_is c.bar_at-bar.ensures in
    elim c.if-not-is_skipped.branch [
      | then-not-is_skipped+else-count-room+else-closes+else-start-p w ↦
          let g = going_enter _ _ _ _ _ _ c.args.part.now.here p.1 _ _ _ _ _ _ h l.invariant sn (sym c.is_skipped.ensures ∙ w.if-not-is_skipped.true) w.enter-p.ensures in
          rw (w.list-is, w.count-is)
          (plays_on _ _ _ _ _ _ c.args.part.now.here p.1 _ _ _ _ _ g _ _ sn w.if-count-room.false (w.put_number.ensures ∙ ap (λ (x : ℕ). splice l.list (number_at l.count) (le32 x)) (add-one l.at)) _ _ (add-one l.count) (add-one l.at) (sym w.closes.ensures ∙ w.if-closes.false) w.if-start-p.false)
      | else-not-is_skipped w ↦ rw (w.list-is, w.count-is) (going_skip _ _ _ _ _ _ c.args.part.now.here p.1 _ _ _ _ _ _ (add-one l.at) h l.invariant sn (sym c.is_skipped.ensures ∙ w.if-not-is_skipped.false))
    ]

pub shape_of-list : goal.shape_of-list
shape_of-list c = search (rules, c.loop-at.invariant.listed.long)

pub returns : goal.returns
returns c = let p = c.requires in going_end _ _ _ _ _ _ c.args.part.now.here p.1 _ _ _ _ c.loop-at-test.false c.loop-at.invariant
