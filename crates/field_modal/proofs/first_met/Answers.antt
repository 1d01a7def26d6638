-- `field_modal::first_met` meets its contract, word by word.
use mathlib.Core.Path.{◌≡◌, sym, ap, ◌∙◌}
use mathlib.Core.Bool.{false, ◌&&◌}
use Rattle.reader.specs.Keys.{is_key_word}
use Rattle.reader.specs.Fields.{first_met}
use Rattle.field_modal.proofs.Refusing.{met_middle, met_beyond, met_on}
use Rattle.field_modal.proofs.first_met.Goals as goal
use Rattle.field_modal.proofs.first_met.Goals.{else-beyond-via-then-beyond+else-is_key_word, else-beyond-via-else-beyond}

pub returns-then-starts_with : goal.returns-then-starts_with
returns-then-starts_with c = sym c.loop-word.invariant ∙ met_middle _ _ _ _ c.in-Some.ensures (sym c.starts_with.ensures ∙ c.if-starts_with.true)

pub returns-then-is_key_word : goal.returns-then-is_key_word
returns-then-is_key_word c =
    sym c.loop-word.invariant
    ∙ met_beyond _ _ _ _ c.in-Some.ensures (sym c.starts_with.ensures ∙ c.if-starts_with.false) (rw (c.if-beyond.true, sym c.is_key_word.ensures ∙ c.if-is_key_word.true))

pub loop-word-preserved : goal.loop-word-preserved
loop-word-preserved c =
    let none : (c.args.beyond && is_key_word c.in-Some.word.now) ≡ false
    = elim c.else-beyond.branch [
      | else-beyond-via-then-beyond+else-is_key_word w ↦ rw (w.if-beyond.true, sym w.is_key_word.ensures ∙ w.if-is_key_word.false)
      | else-beyond-via-else-beyond w ↦ rw w.if-beyond.false
    ] in
    sym (met_on _ _ _ _ c.in-Some.ensures (sym c.starts_with.ensures ∙ c.if-starts_with.false) none) ∙ c.loop-word.invariant

pub returns : goal.returns
unfolding first_met
returns c = sym c.loop-word.invariant ∙ ap (first_met c.args.beyond) c.in_default.ensures
