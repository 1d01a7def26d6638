-- `token_suffixes::number_or` meets its contract.
use mathlib.Core.Path.{◌≡◌, refl, sym, ap, ◌∙◌}
use mathlib.Core.Bool.{true}
use Prim.Native.Nat.{◌-◌, ◌≤◌, ◌<◌, ◌^◌}
use native.Mathlib.Omega.{arith}
use lib.ListN.{length, get_or}
use Rattle.laws.proofs.Spans.{run_within}
use Rattle.standard.specs.Bytes.{is_digit}
use Rattle.reader.proofs.Digits.{digit_low}
use Rattle.token_suffixes.proofs.Suffixes.{number_none, number_one, number_at_lem, number_small}
use Rattle.token_suffixes.proofs.number_or.Goals as goal

-- no digit
pub returns-then-not-is_digit : goal.returns-then-not-is_digit
returns-then-not-is_digit c =
    let a = c.args in
    number_none a.other a.line.now a.at (sym (rw c.byte_at-first.ensures at c.is_digit.ensures) ∙ c.if-not-is_digit.true)

pub overflow_add-at : goal.overflow_add-at
overflow_add-at c =
    let digit : is_digit (get_or c.args.line.now c.args.at 0) ≡ true = sym (rw c.byte_at-first.ensures at c.is_digit.ensures) ∙ c.if-not-is_digit.false in
    let within : c.args.at < length c.args.line.now = run_within is_digit refl c.args.line.now _ digit in
    omega (arith, within)

pub overflow_sub-result : goal.overflow_sub-result
overflow_sub-result c =
    let digit : is_digit (get_or c.args.line.now c.args.at 0) ≡ true = sym (rw c.byte_at-first.ensures at c.is_digit.ensures) ∙ c.if-not-is_digit.false in
    let low : 48 ≤ c.byte_at-first.result = rw c.byte_at-first.ensures (digit_low _ digit) in
    omega arith

pub overflow_add-result : goal.overflow_add-result
overflow_add-result c =
    let digit : is_digit (get_or c.args.line.now c.args.at 0) ≡ true = sym (rw c.byte_at-first.ensures at c.is_digit.ensures) ∙ c.if-not-is_digit.false in
    let within : c.args.at < length c.args.line.now = run_within is_digit refl c.args.line.now _ digit in
    omega (arith, within)

-- one digit
pub returns-then-not-is_digit-2 : goal.returns-then-not-is_digit-2
returns-then-not-is_digit-2 c =
    let digit : is_digit (get_or c.args.line.now c.args.at 0) ≡ true = sym (rw c.byte_at-first.ensures at c.is_digit.ensures) ∙ c.if-not-is_digit.false in
    let a = c.args in
    let last = sym (rw c.byte_at.ensures at c.is_digit-2.ensures) ∙ c.if-not-is_digit-2.true in
    rw c.byte_at-first.ensures (number_one a.other a.line.now a.at digit last)

pub overflow_cast-result-in-Ok : goal.overflow_cast-result-in-Ok
overflow_cast-result-in-Ok c =
    let small : c.in-Ok.v ≤ 2 ^ 32 - 1 = number_small c.args.line.now c.args.at _ (ap (λ x. x.value) (sym c.read_number-read.ensures) ∙ c.in-Ok.is) in
    omega (arith, small)

pub returns-in-Ok : goal.returns-in-Ok
returns-in-Ok c = number_at_lem _ _ _ _ c.read_number-read.ensures _ c.in-Ok.is

pub returns-in-Err : goal.returns-in-Err
returns-in-Err c = number_at_lem _ _ _ _ c.read_number-read.ensures _ c.in-Err.is
