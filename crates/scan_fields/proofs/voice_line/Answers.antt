-- `scan_fields::voice_line` meets its contract.
use Rattle.refusals.specs.declared.Refusal.{Refusal}
use Rattle.laws.specs.Bytes.{between}
use Rattle.scan_states.proofs.Items.{by_kind, refused_kind}
use mathlib.Core.Path.{sym, ◌∙◌}
use Rattle.scan_fields.proofs.FieldKinds.{high_voice, no_voice, is_voice_lem}
use native.Mathlib.Omega.{arith}
use Rattle.scan_fields.proofs.voice_line.Goals as goal

pub returns-then-is_high : goal.returns-then-is_high
returns-then-is_high c =
    let a = c.args in
    λ ed. rw c.refuse.ensures (refused_kind _ Refusal.NotAscii _ (high_voice ed (between a.text.now a.from a.end) (sym c.is_high.ensures ∙ c.if-is_high.true)))

pub returns-then-id : goal.returns-then-id
returns-then-id c =
    let a = c.args in
    λ ed. rw c.refuse-then-id.ensures
    (refused_kind _ Refusal.NoVoiceId _
    (no_voice ed a.text.now a.from a.end (sym c.is_high.ensures ∙ c.if-is_high.false) _ c.voice_identifier-id.ensures c.if-id.true))

pub returns : goal.returns
returns c =
    let a = c.args in
    λ ed. by_kind _ _ _
    (is_voice_lem ed a.text.now a.from a.end (sym c.is_high.ensures ∙ c.if-is_high.false) _ c.voice_identifier-id.ensures c.requires.place.0 c.requires.place.1 _ (omega arith) c.has_middle.ensures)
    c.named_voice.ensures
