-- `field_values::parse_inline_field` meets its contract: the colon, then the name.
use mathlib.Core.Path.{◌≡◌, sym, ap, ◌∙◌}
use native.Mathlib.Omega.{arith}
use Rattle.std.proofs.lemmas.List.{take_rest}
use Rattle.standard.specs.Bytes.{first}
use Rattle.reader.specs.Token.{meter}
use Rattle.reader.specs.Inline.{unit_token, key_token, token_unless}
use Rattle.field_values.proofs.FieldLaws.{field_no_colon, field_unit, field_meter, field_key, field_other, key_refused}
use Rattle.field_values.proofs.parse_inline_field.Goals as goal

pub returns-then-byte_at-ne58 : goal.returns-then-byte_at-ne58
returns-then-byte_at-ne58 c = sym (field_no_colon _ _ (λ e. c.if-byte_at-ne58.true (c.byte_at.ensures ∙ e)))

pub returns-in-Some : goal.returns-in-Some
unfolding unit_token
returns-in-Some c =
    let colon = sym c.byte_at.ensures ∙ c.if-byte_at-ne58.false in
    ap unit_token (rw take_rest at c.in-Some.ensures) ∙ sym (field_unit c.args.edition c.args.field.now colon c.in-76.is)

pub returns-in-None : goal.returns-in-None
unfolding unit_token
returns-in-None c =
    let colon = sym c.byte_at.ensures ∙ c.if-byte_at-ne58.false in
    ap unit_token (rw take_rest at c.in-None.ensures) ∙ sym (field_unit c.args.edition c.args.field.now colon c.in-76.is)

pub returns-in-77 : goal.returns-in-77
returns-in-77 c =
    let colon = sym c.byte_at.ensures ∙ c.if-byte_at-ne58.false in
    ap meter (rw take_rest at c.parse_meter.ensures) ∙ sym (field_meter c.args.edition c.args.field.now colon c.in-77.is)

pub returns-in_err-inline_key-in-75 : goal.returns-in_err-inline_key-in-75
returns-in_err-inline_key-in-75 c =
    let colon = sym c.byte_at.ensures ∙ c.if-byte_at-ne58.false in
    key_refused _ _ _ _ c.from_residual.ensures (rw take_rest at c.in_err-inline_key-in-75.ensures) ∙ sym (field_key c.args.edition c.args.field.now colon c.in-75.is)

pub returns-in_ok-inline_key-in-75 : goal.returns-in_ok-inline_key-in-75
unfolding key_token token_unless
returns-in_ok-inline_key-in-75 c =
    let colon = sym c.byte_at.ensures ∙ c.if-byte_at-ne58.false in
    let k = rw take_rest at c.in_ok-inline_key-in-75.ensures in
    rw (field_key c.args.edition c.args.field.now colon c.in-75.is, key_token, k.0, k.1)

pub returns-in_default : goal.returns-in_default
returns-in_default c =
    let colon = sym c.byte_at.ensures ∙ c.if-byte_at-ne58.false in
    let no_unit : first c.args.field.now ≡ 76 → ⊥ = λ e. omega (arith, e) in
    let no_meter : first c.args.field.now ≡ 77 → ⊥ = λ e. omega (arith, e) in
    let no_key : first c.args.field.now ≡ 75 → ⊥ = λ e. omega (arith, e) in
    sym (field_other c.args.edition c.args.field.now colon no_unit no_meter no_key)
