-- `part_chords::push_pitches` meets its contract. The loop's invariant is `Pushing`.
use mathlib.Core.Path.{sym, ◌∙◌}
use native.Mathlib.Omega.{arith}
use Rattle.part_chords.proofs.Pushing.{pushing_start, pushing_end, meets, turn, turn_room, turn_able, turn_low, turn_done}
use Rattle.part_chords.proofs.push_pitches.Goals as goal

pub loop-n-init : goal.loop-n-init
loop-n-init c =
    let a = c.args in
    pushing_start a.line.now a.t a.store.now a.r a.place a.count c.requires.2

pub shape_of-store-in_default : goal.shape_of-store-in_default
shape_of-store-in_default c = c.loop-n.invariant.pushed.only.same_length

pub returns-in_default : goal.returns-in_default
returns-in_default c =
    meets c.requires.2 c.loop-n.invariant (omega arith)
    (λ q next e. absurd (c.in_default.not-Pitch q next (c.next_chord_pitch.ensures ∙ e)))

pub push_pitch-x-requires : goal.push_pitch-x-requires
push_pitch-x-requires c =
    let pre = c.requires in
    let p = c.loop-n.invariant in
    let u = turn pre.2 p (omega arith) (sym c.next_chord_pitch.ensures ∙ c.in-Pitch.is) in
    (turn_room pre.2 p u pre.0, turn_able pre.2 p u pre.1, turn_low pre.2 p u)

pub loop-n-preserved : goal.loop-n-preserved
loop-n-preserved c =
    let pre = c.requires in
    let p = c.loop-n.invariant in
    let u = turn pre.2 p (omega arith) (sym c.next_chord_pitch.ensures ∙ c.in-Pitch.is) in
    turn_done pre.2 p u c.push_pitch-x.ensures

pub shape_of-store : goal.shape_of-store
shape_of-store c = c.loop-n.invariant.pushed.only.same_length

pub returns : goal.returns
returns c = pushing_end c.requires.2 c.loop-n.invariant (omega arith)
