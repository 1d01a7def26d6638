-- `token_passes::pass_number` meets its contract.
use Prim.Native.Nat.{ℕ}
use mathlib.Core.Path.{◌≡◌, sym, ap, ◌∙◌}
use mathlib.Core.List.{List}
use native.Mathlib.Omega.{arith}
use lib.ListN.{drop}
use Rattle.std.specs.Prelude.{Result}
use Rattle.laws.specs.Spans.{run}
use Rattle.standard.specs.Bytes.{is_digit}
use Rattle.text_bytes.specs.declared.Read.{Read}
use Rattle.text_numbers.specs.Digits.{number_at, written}
use Rattle.text_numbers.specs.declared.NumberError.{NumberError}
use Rattle.text_numbers.proofs.Numbers.{value_le}
use Rattle.token_passes.specs.Passes.{pass_for}
use Rattle.token_passes.proofs.Items.{zero_leads, number_by, no_number}
use Rattle.token_passes.proofs.pass_number.Goals as goal

-- what the digits write is what was read
told : (line : List ℕ) (at top : ℕ) (r : Read (Result ℕ NumberError)) → r ≡ number_at top line at → written top (run is_digit (drop at line)) ≡ r.value
unfolding number_at
told line at top r e = sym (ap (λ (x : Read (Result ℕ NumberError)). x.value) e)

pub returns-then-byte_at-eq48 : goal.returns-then-byte_at-eq48
unfolding pass_for
returns-then-byte_at-eq48 c =
    let a = c.args in
    rw (zero_leads a.line.now a.at (sym c.byte_at.ensures ∙ c.if-byte_at-eq48.true))

pub overflow_cast-result : goal.overflow_cast-result
overflow_cast-result c =
    let a = c.args in
    omega (arith, value_le 32 (run is_digit (drop a.at a.line.now)) c.in-Ok.value (told _ _ _ _ c.read_number-read.ensures ∙ c.in-Ok.is))

pub returns-in_default : goal.returns-in_default
unfolding pass_for
returns-in_default c =
    let a = c.args in
    rw (no_number a.line.now a.at (λ k. c.if-byte_at-eq48.false (c.byte_at.ensures ∙ k)) _ (told _ _ _ _ c.read_number-read.ensures) (λ v k. c.in_default.not-Ok v k))

pub returns : goal.returns
unfolding pass_for number_at
returns c =
    let a = c.args in
    rw (number_by a.line.now a.at (λ k. c.if-byte_at-eq48.false (c.byte_at.ensures ∙ k)) _ (told _ _ _ _ c.read_number-read.ensures), c.in-Ok.is, c.read_number-read.ensures)
