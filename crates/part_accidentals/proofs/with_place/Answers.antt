-- `part_accidentals::with_place` meets its contract.
use Prim.Native.Nat.{ℕ}
use mathlib.Core.Path.{sym, ap}
use lib.ListN.{set}
use Rattle.part_accidentals.proofs.Places.{four_set}
use Rattle.part_accidentals.proofs.with_place.Goals as goal

pub returns-then-voice-eq0 : goal.returns-then-voice-eq0
returns-then-voice-eq0 c =
    let a = c.args in
    ap (λ (v : ℕ). set a.places v a.place) (sym c.if-voice-eq0.true)

pub returns : goal.returns
returns c =
    let a = c.args in
    four_set a.places a.voice a.place _ _ _ c.requires c.if-voice-eq0.false c.pick.ensures c.pick-2.ensures c.pick-3.ensures
