-- `token_pitches::parse_abc_chord` meets its contract. The loop's invariant is `Counting`; the measure is what is left of the line.
use mathlib.Core.Path.{sym, ◌∙◌}
use native.Mathlib.Omega.{arith}
use Rattle.token_pitches.proofs.Walk.{counting_start, counting_over, counting_out, counting_one, counting_within}
use Rattle.token_pitches.proofs.parse_abc_chord.Goals as goal

pub loop-next-init : goal.loop-next-init
loop-next-init c = counting_start _ _

pub returns-in-Over : goal.returns-in-Over
returns-in-Over c =
    rw c.past.ensures (counting_over _ _ _ _ c.loop-next.invariant _ (sym c.next_chord_pitch.ensures ∙ c.in-Over.is))

pub returns-in-Out : goal.returns-in-Out
returns-in-Out c =
    counting_out _ _ _ _ c.loop-next.invariant _ (sym c.next_chord_pitch.ensures ∙ c.in-Out.is)

pub overflow_add-count : goal.overflow_add-count
overflow_add-count c =
    omega (arith, c.loop-next.invariant.few, counting_within _ _ _ _ c.loop-next.invariant _ _ (sym c.next_chord_pitch.ensures ∙ c.in-Pitch.is))

pub loop-next-smaller : goal.loop-next-smaller
loop-next-smaller c =
    let met = sym c.next_chord_pitch.ensures ∙ c.in-Pitch.is in
    omega (arith, (counting_one _ _ _ _ c.loop-next.invariant _ _ met).0, counting_within _ _ _ _ c.loop-next.invariant _ _ met)

pub loop-next-preserved : goal.loop-next-preserved
loop-next-preserved c = (counting_one _ _ _ _ c.loop-next.invariant _ _ (sym c.next_chord_pitch.ensures ∙ c.in-Pitch.is)).1
