-- `scan_voices::named_voice` meets its contract: each way out is a case of the definition.
use native.Mathlib.Omega.{arith}
use Rattle.laws.specs.Bytes.{between}
use mathlib.Core.List.{[]}
use Rattle.scan_table.proofs.Rows.{length_voices}
use Rattle.scan_voices.proofs.Voices.{lent_found, known_middle, too_many, new_middle, on_known, on_new}
use Rattle.scan_voices.proofs.named_voice.Goals as goal

pub find_voice-requires : goal.find_voice-requires
find_voice-requires c =
    let h = (c.with_unnamed-n.ensures []).high in
    omega (arith, h, c.requires.ready.room, c.with_unnamed-n.auto.scratch)

pub known_voice-requires-clause-known : goal.known_voice-requires-clause-known
known_voice-requires-clause-known c =
    let t = c.args.text.now in
    let h = (c.with_unnamed-n.ensures []).high in
    let f = rw c.in-Some.is at c.find_voice.ensures in
    (omega (arith, f.0, length_voices t c.with_unnamed-n.new.scratch c.with_unnamed-n.result), h)

pub returns-in-Some : goal.returns-in-Some
returns-in-Some c =
    let a = c.args in
    let t = a.text.now in
    rw (c.refuse.ensures, c.if-middle.true)
    (known_middle t a.scratch.now a.st _ _ (c.with_unnamed-n.ensures t) (between t a.id.at a.id.end) _ (lent_found t a.id.at a.id.end _ _ _ c.in-Some.is c.find_voice.ensures) _)

pub returns-in-Some-2 : goal.returns-in-Some-2
returns-in-Some-2 c =
    let a = c.args in
    let t = a.text.now in
    rw c.if-middle.false
    (on_known t a.scratch.now a.st _ _ (c.with_unnamed-n.ensures t) (between t a.id.at a.id.end) _ (lent_found t a.id.at a.id.end _ _ _ c.in-Some.is c.find_voice.ensures) _ _
    c.known_voice.ensures.moved (c.known_voice.ensures.items t))

pub returns-in-None : goal.returns-in-None
returns-in-None c =
    let a = c.args in
    let t = a.text.now in
    rw c.refuse-in-None.ensures
    (too_many t a.scratch.now a.st _ _ (c.with_unnamed-n.ensures t) (between t a.id.at a.id.end) a.middle (lent_found t a.id.at a.id.end _ _ _ c.in-None.is c.find_voice.ensures) (omega (arith, c.if-n-ge32.true)) _)

pub returns-in-None-2 : goal.returns-in-None-2
returns-in-None-2 c =
    let a = c.args in
    let t = a.text.now in
    rw (c.refuse-in-None-2.ensures, c.if-middle-2.true)
    (new_middle t a.scratch.now a.st _ _ (c.with_unnamed-n.ensures t) (between t a.id.at a.id.end) (lent_found t a.id.at a.id.end _ _ _ c.in-None-2.is c.find_voice.ensures) (omega (arith, c.if-n-ge32.false)) _)

pub returns-in-None-3 : goal.returns-in-None-3
returns-in-None-3 c =
    let a = c.args in
    let t = a.text.now in
    rw c.if-middle-2.false
    (on_new t a.scratch.now a.st _ _ (c.with_unnamed-n.ensures t) (between t a.id.at a.id.end) (lent_found t a.id.at a.id.end _ _ _ c.in-None-3.is c.find_voice.ensures) (omega (arith, c.if-n-ge32.false)) _ _
    c.new_voice.ensures.moved (c.new_voice.ensures.items t))
