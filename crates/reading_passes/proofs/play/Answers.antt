-- `reading_passes::play` meets its contract: pass after pass, as proofs/Playing has it.
use mathlib.Core.Path.{refl}
use native.Mathlib.Omega.{arith}
use lib.ListN.{get_or-replicate}
use borrow.Author.Rules.{rules}
use Rattle.reading_passes.proofs.Playing.{rank_less, went_in, playing_start, playing_lists, playing_starts, playing_end, playing_on, room_same}
use Rattle.reading_passes.proofs.play.Goals as goal

pub loop-x-init : goal.loop-x-init
loop-x-init c = playing_start _ _ _ _ _ _ refl (λ d q h. get_or-replicate 33 q _ d h)

pub offset_bounds-kept-pass : goal.offset_bounds-kept-pass
offset_bounds-kept-pass c = omega (arith, c.loop-x.invariant.stands.pass_most)

pub bounds-kept-pass : goal.bounds-kept-pass
bounds-kept-pass c = let o = c.loop-x.invariant.stands.pass_most in omega (arith, o)

pub one_pass-requires : goal.one_pass-requires
one_pass-requires c =
    let l = c.loop-x in
    let p = c.requires in
    record {
      stands = (room_same _ _ _ p l.invariant.long, playing_starts _ _ _ _ _ _ _ _ _ c.args.part.now.here p l.invariant c.loop-x-test.true);
      kept_is = (l.invariant.kept _ l.x.pass (omega (arith, l.invariant.stands.pass_most)), playing_lists _ _ _ _ _ _ _ _ _ c.args.part.now.here p l.invariant);
    }

pub returns-in_err-w : goal.returns-in_err-w
returns-in_err-w c = rw c.from_residual.ensures (record { says = c.in_err-w.ensures.says })

pub offset_bounds-kept-q : goal.offset_bounds-kept-q
offset_bounds-kept-q c = omega (arith, (went_in _ _ _ _ _ c.in_ok-w.ensures.says.went_on).0)

pub bounds-kept-q : goal.bounds-kept-q
bounds-kept-q c = omega (arith, (went_in _ _ _ _ _ c.in_ok-w.ensures.says.went_on).0)

pub keep-requires : goal.keep-requires
keep-requires c =
    let x = went_in _ _ _ _ _ c.in_ok-w.ensures.says.went_on in
    let p = c.requires in
    (omega (arith, x.1, c.args.part.now.here.few), omega (arith, x.2, c.args.part.now.here.few))

pub offset_bounds-kept-q-in-loop-x : goal.offset_bounds-kept-q-in-loop-x
offset_bounds-kept-q-in-loop-x c = omega (arith, (went_in _ _ _ _ _ c.in_ok-w.ensures.says.went_on).0)

pub bounds-kept-q-in-loop-x : goal.bounds-kept-q-in-loop-x
bounds-kept-q-in-loop-x c = omega (arith, (went_in _ _ _ _ _ c.in_ok-w.ensures.says.went_on).0)

pub go_on-x-requires : goal.go_on-x-requires
go_on-x-requires c =
    let l = c.loop-x in
    let p = c.requires in
    (c.in_ok-w.ensures.says.went_on, l.invariant.limit_is)

pub loop-x-smaller : goal.loop-x-smaller
loop-x-smaller c = rank_less _ _ _ _ _ _ _ refl refl c.go_on-x.ensures

pub loop-x-preserved : goal.loop-x-preserved
loop-x-preserved c =
    let l = c.loop-x in
    let p = c.requires in
    playing_on _ _ _ _ _ _ _ _ _ c.args.part.now.here p l.invariant _ refl _ _ c.in_ok-w.ensures.says _ _ _ _ c.go_on-x.ensures refl c.keep.ensures

pub shape_of-list : goal.shape_of-list
shape_of-list c = search (rules, c.loop-x.invariant.long)

pub returns : goal.returns
returns c =
    let l = c.loop-x in
    let p = c.requires in
    playing_end _ _ _ _ _ _ _ _ _ c.args.part.now.here p l.invariant c.loop-x-test.false
