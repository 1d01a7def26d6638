-- `tokens::effect_at` meets its contract.
use mathlib.Core.Path.{◌≡◌, sym, ap, ◌∙◌}
use lib.ListN.{drop}
use Rattle.reader.specs.Tokens.{token_as, token_of, effect_of}
use Prim.Native.Nat.{◌+◌}
use Rattle.text_bytes.specs.declared.Read.{Read}
use Rattle.tokens.specs.declared.Effect.{Effect}
use Rattle.tokens.specs.declared.Effect.TheVariants as effect
use Rattle.tokens.specs.Tokens.{effect_for, effected_for}
use Rattle.tokens.proofs.Dispatch.{by_class, classed, effect_token}
use Rattle.tokens.proofs.Numbers.{told, told_next}
use Rattle.tokens.proofs.effect_at.Goals as goal

-- the answers by the token, with the position after it
pub returns-in-Pitched-clause-effect : goal.returns-in-Pitched-clause-effect
unfolding by_class token_as
returns-in-Pitched-clause-effect c =
    let a = c.args in
    told _ _ _ _ (c.note_effect.ensures ∙ ap (effected_for a.at) (sym (classed _ a.line.now a.at _ _ (c.type_inv.line a.at).fits c.class_of-class.ensures c.in-Pitched.is)))

pub returns-in-Pitched-clause-next : goal.returns-in-Pitched-clause-next
unfolding by_class token_as
returns-in-Pitched-clause-next c =
    let a = c.args in
    told_next _ _ _ _ (c.note_effect.ensures ∙ ap (effected_for a.at) (sym (classed _ a.line.now a.at _ _ (c.type_inv.line a.at).fits c.class_of-class.ensures c.in-Pitched.is)))

pub returns-in-White-clause-effect : goal.returns-in-White-clause-effect
unfolding by_class token_as effect_of effect_for
returns-in-White-clause-effect c =
    let a = c.args in
    told _ a.line.now a.at (record { value = effect.NoEffect; next = a.at + 1 }) (ap (effected_for a.at) (sym (classed _ a.line.now a.at _ _ (c.type_inv.line a.at).fits c.class_of-class.ensures c.in-White.is)))

pub returns-in-White-clause-next : goal.returns-in-White-clause-next
unfolding by_class token_as effect_of effect_for
returns-in-White-clause-next c =
    let a = c.args in
    told_next _ a.line.now a.at (record { value = effect.NoEffect; next = a.at + 1 }) (ap (effected_for a.at) (sym (classed _ a.line.now a.at _ _ (c.type_inv.line a.at).fits c.class_of-class.ensures c.in-White.is)))

pub returns-in-Skip-clause-effect : goal.returns-in-Skip-clause-effect
unfolding by_class token_as effect_of effect_for
returns-in-Skip-clause-effect c =
    let a = c.args in
    told _ a.line.now a.at (record { value = effect.NoEffect; next = a.at + 1 }) (ap (effected_for a.at) (sym (classed _ a.line.now a.at _ _ (c.type_inv.line a.at).fits c.class_of-class.ensures c.in-Skip.is)))

pub returns-in-Skip-clause-next : goal.returns-in-Skip-clause-next
unfolding by_class token_as effect_of effect_for
returns-in-Skip-clause-next c =
    let a = c.args in
    told_next _ a.line.now a.at (record { value = effect.NoEffect; next = a.at + 1 }) (ap (effected_for a.at) (sym (classed _ a.line.now a.at _ _ (c.type_inv.line a.at).fits c.class_of-class.ensures c.in-Skip.is)))

pub returns : goal.returns
returns c =
    let a = c.args in
    let t = (token_of a.edition (drop a.at a.line.now)).token in
    let r : Read Effect = record { value = c.effect_of.result; next = c.lexeme_at-read.result.next } in
    let e : r ≡ effected_for a.at (token_of a.edition (drop a.at a.line.now)) = rw (c.effect_of.ensures, c.lexeme_at-read.ensures, effect_token a.at t) in
    record { effect = told _ _ _ _ e; next = told_next _ _ _ _ e }
