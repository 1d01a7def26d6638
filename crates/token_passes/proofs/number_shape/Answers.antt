-- `token_passes::number_shape` meets its contract.
use Prim.Native.Nat.{ℕ}
use mathlib.Core.Path.{◌≡◌, sym, ap, ◌∙◌}
use mathlib.Core.Bool.{true, false}
use mathlib.Core.List.{List}
use native.Mathlib.Omega.{arith}
use lib.ListN.{drop}
use borrow.Author.Tests.{eq-eqb, ne_eqb}
use Rattle.laws.specs.Spans.{run, end_of}
use Rattle.laws.proofs.Spans.{length_run, run_passes}
use Rattle.laws.proofs.Lists.{first_at}
use Rattle.standard.specs.Bytes.{is, is_digit, first}
use Rattle.text_numbers.specs.Digits.{number_at, written}
use Rattle.std.specs.Prelude.{Result, Err}
use Rattle.text_bytes.specs.declared.Read.{Read}
use Rattle.text_numbers.specs.declared.NumberError.{NumberError}
use Rattle.reader.specs.PassLists.{list_number}
use Rattle.token_passes.specs.Faults.{number_shape}
use Rattle.token_passes.specs.Faults.{shape_read}
use Rattle.token_passes.proofs.Items.{zero_first}
use Rattle.token_passes.proofs.Shapes.{by_digits, plain_number, lone_zero, leading_zero}
use Rattle.token_passes.proofs.number_shape.Goals as goal

pub overflow_sub-next : goal.overflow_sub-next
unfolding number_at
overflow_sub-next c =
    let text : List ℕ = c.args.line.now in
    let place : ℕ = c.args.at in
    let ends : c.read_number-number.result.next ≡ end_of is_digit text place = ap (λ (r : Read (Result ℕ NumberError)). r.next) c.read_number-number.ensures in
    omega (arith, ends)

pub returns-then-next-at-gt1 : goal.returns-then-next-at-gt1
unfolding number_at
returns-then-next-at-gt1 c =
    let text : List ℕ = c.args.line.now in
    let place : ℕ = c.args.at in
    let digits_at : List ℕ = run is_digit (drop place text) in
    let ends : c.read_number-number.result.next ≡ end_of is_digit text place = ap (λ (r : Read (Result ℕ NumberError)). r.next) c.read_number-number.ensures in
    let zero : is "0" (first digits_at) ≡ true =
    zero_first (drop place text) ∙ eq-eqb _ 48 (first_at text place ∙ sym c.byte_at.ensures ∙ c.if-byte_at-eq48.true) in
    leading_zero _ digits_at zero (omega (arith, c.if-next-at-gt1.true, ends, length_run is_digit (drop place text)))

pub returns-then-byte_at-eq48 : goal.returns-then-byte_at-eq48
unfolding number_at
returns-then-byte_at-eq48 c =
    let text : List ℕ = c.args.line.now in
    let place : ℕ = c.args.at in
    let digits_at : List ℕ = run is_digit (drop place text) in
    let ends : c.read_number-number.result.next ≡ end_of is_digit text place = ap (λ (r : Read (Result ℕ NumberError)). r.next) c.read_number-number.ensures in
    let zero : is "0" (first digits_at) ≡ true =
    zero_first (drop place text) ∙ eq-eqb _ 48 (first_at text place ∙ sym c.byte_at.ensures ∙ c.if-byte_at-eq48.true) in
    ap (shape_read false) ends ∙ lone_zero _ digits_at zero (omega (arith, c.if-next-at-gt1.false, ends, length_run is_digit (drop place text)))

pub returns-in-Empty : goal.returns-in-Empty
unfolding by_digits number_at
returns-in-Empty c =
    let text : List ℕ = c.args.line.now in
    let place : ℕ = c.args.at in
    let digits_at : List ℕ = run is_digit (drop place text) in
    let told : written 32 digits_at ≡ c.read_number-number.result.value = sym (ap (λ (r : Read (Result ℕ NumberError)). r.value) c.read_number-number.ensures) in
    let plain : by_digits (end_of is_digit text place) c.read_number-number.result.value ≡ number_shape (end_of is_digit text place) (list_number digits_at) =
    let z : is "0" (first digits_at) ≡ false =
    zero_first (drop place text) ∙ ne_eqb _ 48 (λ k. c.if-byte_at-eq48.false (c.byte_at.ensures ∙ sym (first_at text place) ∙ k)) in
    ap (by_digits _) (sym told) ∙ plain_number _ digits_at (run_passes is_digit (drop place text)) z in
    ap (by_digits _) (sym (c.in-Err.is ∙ ap Err c.in-Empty.is)) ∙ plain

pub returns-in-TooLarge : goal.returns-in-TooLarge
unfolding by_digits number_at
returns-in-TooLarge c =
    let text : List ℕ = c.args.line.now in
    let place : ℕ = c.args.at in
    let ends : c.read_number-number.result.next ≡ end_of is_digit text place = ap (λ (r : Read (Result ℕ NumberError)). r.next) c.read_number-number.ensures in
    let digits_at : List ℕ = run is_digit (drop place text) in
    let told : written 32 digits_at ≡ c.read_number-number.result.value = sym (ap (λ (r : Read (Result ℕ NumberError)). r.value) c.read_number-number.ensures) in
    let plain : by_digits (end_of is_digit text place) c.read_number-number.result.value ≡ number_shape (end_of is_digit text place) (list_number digits_at) =
    let z : is "0" (first digits_at) ≡ false =
    zero_first (drop place text) ∙ ne_eqb _ 48 (λ k. c.if-byte_at-eq48.false (c.byte_at.ensures ∙ sym (first_at text place) ∙ k)) in
    ap (by_digits _) (sym told) ∙ plain_number _ digits_at (run_passes is_digit (drop place text)) z in
    ap (shape_read false) ends ∙ ap (by_digits _) (sym (c.in-Err.is ∙ ap Err c.in-TooLarge.is)) ∙ plain

pub returns-in-Ok : goal.returns-in-Ok
unfolding by_digits number_at
returns-in-Ok c =
    let text : List ℕ = c.args.line.now in
    let place : ℕ = c.args.at in
    let ends : c.read_number-number.result.next ≡ end_of is_digit text place = ap (λ (r : Read (Result ℕ NumberError)). r.next) c.read_number-number.ensures in
    let digits_at : List ℕ = run is_digit (drop place text) in
    let told : written 32 digits_at ≡ c.read_number-number.result.value = sym (ap (λ (r : Read (Result ℕ NumberError)). r.value) c.read_number-number.ensures) in
    let plain : by_digits (end_of is_digit text place) c.read_number-number.result.value ≡ number_shape (end_of is_digit text place) (list_number digits_at) =
    let z : is "0" (first digits_at) ≡ false =
    zero_first (drop place text) ∙ ne_eqb _ 48 (λ k. c.if-byte_at-eq48.false (c.byte_at.ensures ∙ sym (first_at text place) ∙ k)) in
    ap (by_digits _) (sym told) ∙ plain_number _ digits_at (run_passes is_digit (drop place text)) z in
    ap (shape_read true) ends ∙ ap (by_digits _) (sym c.in-Ok.is) ∙ plain
