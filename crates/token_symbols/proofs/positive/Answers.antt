-- `token_symbols::positive` meets its contract.
use mathlib.Core.Path.{◌≡◌, sym, ap}
use mathlib.Core.List.{List}
use lib.ListN.{drop}
use Prim.Native.Nat.{ℕ}
use Rattle.std.specs.Prelude.{Result}
use Rattle.text_bytes.specs.declared.Read.{Read}
use Rattle.text_numbers.specs.declared.NumberError.{NumberError}
use Rattle.text_numbers.specs.Digits.{number_at, written}
use Rattle.laws.specs.Spans.{run}
use Rattle.standard.specs.Bytes.{is_digit}
use Rattle.token_symbols.specs.Tuplets.{number_for}
use Rattle.token_symbols.proofs.Ratios.{no_value, is_zero, is_value}
use Rattle.token_symbols.proofs.positive.Goals as goal

-- what the digits write is what was read
told : (line : List ℕ) (at top : ℕ) (r : Read (Result ℕ NumberError)) → r ≡ number_at top line at → written top (run is_digit (drop at line)) ≡ r.value
unfolding number_at
told line at top r e = sym (ap (λ (x : Read (Result ℕ NumberError)). x.value) e)

pub returns-then-value-eq0 : goal.returns-then-value-eq0
unfolding number_for
returns-then-value-eq0 c =
    rw (is_zero _ _ _ (told _ _ _ _ c.read_number-read.ensures) _ c.in-Ok.is c.if-value-eq0.true)

pub returns-in_default : goal.returns-in_default
unfolding number_for
returns-in_default c =
    rw (no_value _ _ _ (told _ _ _ _ c.read_number-read.ensures) (λ v k. c.in_default.not-Ok v k))

pub returns : goal.returns
unfolding number_for number_at
returns c =
    rw (is_value _ _ _ (told _ _ _ _ c.read_number-read.ensures) _ c.in-Ok.is c.if-value-eq0.false, c.read_number-read.ensures)
