-- `reading_list::repeat_numbers` meets its contract: so far those above `least` of the numbers up to i are written.
use Prim.Native.Nat.{ℕ}
use mathlib.Core.Path.{ap, ◌∙◌}
use native.Mathlib.Omega.{arith}
use borrow.Author.Rules.{rules}
use Rattle.laws.specs.Bytes.{le32, splice}
use Rattle.reading_list.specs.Numbers.{number_at}
use Rattle.reading_list.proofs.Copying.{copying_start, copying_keep, copying_leave, copying_full, copying_end}
use Rattle.reading_list.proofs.repeat_numbers.Goals as goal
use Rattle.reading_list.proofs.repeat_numbers.Goals.{then-least-number+else-count-room, else-least-number}

pub loop-i-init : goal.loop-i-init
loop-i-init c = copying_start _ _ _ _ _ _ c.requires.1 c.requires.3

pub number_at-number-requires : goal.number_at-number-requires
number_at-number-requires c =
    let l = c.loop-i in
    let p = c.requires in
    omega (arith, l.invariant.same, p.0.fits, p.2, p.3, c.loop-i-test.true)

pub shape_of-list-then-count-room : goal.shape_of-list-then-count-room
shape_of-list-then-count-room c = search (rules, c.loop-i.invariant.same)

pub returns-then-count-room : goal.returns-then-count-room
returns-then-count-room c =
    let b = c in
    let p = b.requires in
    copying_full _ _ _ _ _ _ _ _ _ b.loop-i.invariant c.loop-i-test.true p.2 (omega (arith, c.number_at-number.ensures.0, c.if-least-number.true)) c.if-count-room.true

pub put_number-requires : goal.put_number-requires
put_number-requires c =
    let b = c in
    let p = b.requires in
    (omega (arith, b.loop-i.invariant.same, b.loop-i.invariant.fits, p.0.fits, c.if-count-room.false), c.number_at-number.ensures.1)

pub loop-i-preserved : goal.loop-i-preserved
loop-i-preserved c =
    let b = c in
    let p = b.requires in
    let x = c.number_at-number.ensures.0 in
    let h = c.loop-i-test.true in
    elim c.if-least-number.branch [
      | then-least-number+else-count-room w ↦
          rw (w.list-is, w.count-is) (copying_keep _ _ _ _ _ _ _ _ _ b.loop-i.invariant _ h p.2 (omega (arith, x, w.if-least-number.true)) w.if-count-room.false (w.put_number.ensures ∙ ap (λ (n : ℕ). splice b.loop-i.list (number_at b.loop-i.count) (le32 n)) x))
      | else-least-number w ↦ rw (w.list-is, w.count-is) (copying_leave _ _ _ _ _ _ _ _ _ b.loop-i.invariant h p.2 (omega (arith, x, w.if-least-number.false)))
    ]

pub shape_of-list : goal.shape_of-list
shape_of-list c = search (rules, c.loop-i.invariant.same)

pub returns : goal.returns
returns c = copying_end _ _ _ _ _ _ _ _ _ c.loop-i.invariant c.loop-i-test.false
