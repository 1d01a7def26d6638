-- `token_passes::pass_item` meets its contract.
use Prim.Native.Nat.{ℕ, ◌+◌, ◌≤◌}
use mathlib.Core.Path.{◌≡◌, refl, sym, ◌∙◌}
use mathlib.Core.Option.{some}
use mathlib.Core.List.{List}
use native.Mathlib.Omega.{arith}
use lib.Dec.{eqb}
use lib.ListN.{get_or, drop}
use borrow.Author.Tests.{eq-eqb}
use Rattle.laws.specs.Spans.{run, end_of}
use Rattle.laws.proofs.Spans.{run_within}
use Rattle.standard.specs.Bytes.{is_digit}
use Rattle.reader.specs.PassesInTurn.{pass_number}
use Rattle.token_passes.proofs.Items.{pass_none, pass_some, no_first, low_first, one_pass, no_second, low_second, a_third, two_passes}
use Rattle.token_passes.proofs.pass_item.Goals as goal

pub returns-in_err-first : goal.returns-in_err-first
returns-in_err-first c =
    let a = c.args in
    rw c.from_residual.ensures (no_first a.line.now a.at a.low _ refl _ (pass_none _ _ (sym c.pass_number.ensures ∙ c.in_err-first.was)))

pub returns-then-from-low : goal.returns-then-from-low
returns-then-from-low c =
    let text : List ℕ = c.args.line.now in
    let place : ℕ = c.args.at in
    let bound : ℕ = c.args.low in
    let first : (pass_number (run is_digit (drop place text)) ≡ some c.in_ok-first.first.value) × (c.in_ok-first.first.next ≡ end_of is_digit text place) = pass_some _ _ _ _ (sym c.pass_number.ensures ∙ c.in_ok-first.was) in
    low_first text place bound _ first.1 _ first.0 _ c.if-from-low.true

pub returns-then-byte_at-ne45 : goal.returns-then-byte_at-ne45
returns-then-byte_at-ne45 c =
    let text : List ℕ = c.args.line.now in
    let place : ℕ = c.args.at in
    let bound : ℕ = c.args.low in
    let first : (pass_number (run is_digit (drop place text)) ≡ some c.in_ok-first.first.value) × (c.in_ok-first.first.next ≡ end_of is_digit text place) = pass_some _ _ _ _ (sym c.pass_number.ensures ∙ c.in_ok-first.was) in
    one_pass text place bound _ first.1 _ first.0 c.if-from-low.false (λ k. c.if-byte_at-ne45.true (c.byte_at.ensures ∙ k))

pub overflow_add-first : goal.overflow_add-first
overflow_add-first c =
    let text : List ℕ = c.args.line.now in
    let hyphen : get_or text c.in_ok-first.first.next 0 ≡ 45 = sym c.byte_at.ensures ∙ c.if-byte_at-ne45.false in
    omega (arith, run_within (λ x. eqb x 45) refl text c.in_ok-first.first.next (eq-eqb _ _ hyphen))

pub returns-in_err-last : goal.returns-in_err-last
returns-in_err-last c =
    let text : List ℕ = c.args.line.now in
    let place : ℕ = c.args.at in
    let bound : ℕ = c.args.low in
    let first : (pass_number (run is_digit (drop place text)) ≡ some c.in_ok-first.first.value) × (c.in_ok-first.first.next ≡ end_of is_digit text place) = pass_some _ _ _ _ (sym c.pass_number.ensures ∙ c.in_ok-first.was) in
    let hyphen : get_or text c.in_ok-first.first.next 0 ≡ 45 = sym c.byte_at.ensures ∙ c.if-byte_at-ne45.false in
    rw c.from_residual-in_err-last.ensures (no_second text place bound _ first.1 _ first.0 c.if-from-low.false hyphen _ refl _ (pass_none _ _ (sym c.pass_number-2.ensures ∙ c.in_err-last.was)))

pub returns-then-to-from : goal.returns-then-to-from
returns-then-to-from c =
    let text : List ℕ = c.args.line.now in
    let place : ℕ = c.args.at in
    let bound : ℕ = c.args.low in
    let first : (pass_number (run is_digit (drop place text)) ≡ some c.in_ok-first.first.value) × (c.in_ok-first.first.next ≡ end_of is_digit text place) = pass_some _ _ _ _ (sym c.pass_number.ensures ∙ c.in_ok-first.was) in
    let second : (pass_number (run is_digit (drop (c.in_ok-first.first.next + 1) text)) ≡ some c.in_ok-last.last.value) × (c.in_ok-last.last.next ≡ end_of is_digit text (c.in_ok-first.first.next + 1)) = pass_some _ _ _ _ (sym c.pass_number-2.ensures ∙ c.in_ok-last.was) in
    let hyphen : get_or text c.in_ok-first.first.next 0 ≡ 45 = sym c.byte_at.ensures ∙ c.if-byte_at-ne45.false in
    let l : c.in_ok-last.last.value ≤ c.in_ok-first.first.value = omega (arith, c.if-to-from.true) in
    low_second text place bound _ first.1 _ first.0 c.if-from-low.false hyphen _ second.1 _ second.0 _ l

pub returns-then-byte_at-eq45 : goal.returns-then-byte_at-eq45
returns-then-byte_at-eq45 c =
    let text : List ℕ = c.args.line.now in
    let place : ℕ = c.args.at in
    let bound : ℕ = c.args.low in
    let first : (pass_number (run is_digit (drop place text)) ≡ some c.in_ok-first.first.value) × (c.in_ok-first.first.next ≡ end_of is_digit text place) = pass_some _ _ _ _ (sym c.pass_number.ensures ∙ c.in_ok-first.was) in
    let second : (pass_number (run is_digit (drop (c.in_ok-first.first.next + 1) text)) ≡ some c.in_ok-last.last.value) × (c.in_ok-last.last.next ≡ end_of is_digit text (c.in_ok-first.first.next + 1)) = pass_some _ _ _ _ (sym c.pass_number-2.ensures ∙ c.in_ok-last.was) in
    let hyphen : get_or text c.in_ok-first.first.next 0 ≡ 45 = sym c.byte_at.ensures ∙ c.if-byte_at-ne45.false in
    a_third text place bound _ first.1 _ first.0 c.if-from-low.false hyphen _ second.1 _ second.0 _ (sym c.byte_at-2.ensures ∙ c.if-byte_at-eq45.true)

pub returns : goal.returns
returns c =
    let text : List ℕ = c.args.line.now in
    let place : ℕ = c.args.at in
    let bound : ℕ = c.args.low in
    let first : (pass_number (run is_digit (drop place text)) ≡ some c.in_ok-first.first.value) × (c.in_ok-first.first.next ≡ end_of is_digit text place) = pass_some _ _ _ _ (sym c.pass_number.ensures ∙ c.in_ok-first.was) in
    let second : (pass_number (run is_digit (drop (c.in_ok-first.first.next + 1) text)) ≡ some c.in_ok-last.last.value) × (c.in_ok-last.last.next ≡ end_of is_digit text (c.in_ok-first.first.next + 1)) = pass_some _ _ _ _ (sym c.pass_number-2.ensures ∙ c.in_ok-last.was) in
    let hyphen : get_or text c.in_ok-first.first.next 0 ≡ 45 = sym c.byte_at.ensures ∙ c.if-byte_at-ne45.false in
    two_passes text place bound _ first.1 _ first.0 c.if-from-low.false hyphen _ second.1 _ second.0 c.if-to-from.false (λ k. c.if-byte_at-eq45.false (c.byte_at-2.ensures ∙ k))
