-- `token_passes::item_shape` meets its contract.
use Prim.Native.Nat.{ℕ, ◌+◌}
use mathlib.Core.Path.{◌≡◌, refl, sym, ap₂, ◌∙◌}
use mathlib.Core.Bool.{◌&&◌}
use mathlib.Core.Option.{some}
use mathlib.Core.List.{List}
use native.Mathlib.Omega.{arith}
use lib.Dec.{eqb}
use lib.ListN.{get_or, drop}
use borrow.Author.Tests.{eq-eqb}
use Rattle.laws.specs.Spans.{run, end_of}
use Rattle.laws.proofs.Spans.{run_within}
use Rattle.standard.specs.Bytes.{is_digit}
use Rattle.reader.specs.PassLists.{list_number, is_pass}
use Rattle.token_passes.proofs.Shapes.{number_none, number_some, shaped_not_first, shaped_one, shaped_not_second, shaped_no_third, shaped_two}
use Rattle.token_passes.proofs.item_shape.Goals as goal

pub returns-in_err-first : goal.returns-in_err-first
returns-in_err-first c =
    let a = c.args in
    rw c.from_residual.ensures (shaped_not_first a.line.now a.at _ refl _ (number_none _ _ (sym c.number_shape.ensures ∙ c.in_err-first.was)))

pub returns-then-byte_at-ne45 : goal.returns-then-byte_at-ne45
returns-then-byte_at-ne45 c =
    let text : List ℕ = c.args.line.now in
    let place : ℕ = c.args.at in
    let end : ℕ = c.in_ok-first.first.next in
    let first : (v : ℕ) × (list_number (run is_digit (drop place text)) ≡ some v) × (c.in_ok-first.first.value ≡ is_pass v) × (end ≡ end_of is_digit text place) = number_some _ _ _ _ (sym c.number_shape.ensures ∙ c.in_ok-first.was) in
    let q = first in
    shaped_one text place _ q.3 _ q.1 _ q.2 (λ k. c.if-byte_at-ne45.true (c.byte_at.ensures ∙ k))

pub overflow_add-first : goal.overflow_add-first
overflow_add-first c =
    let text : List ℕ = c.args.line.now in
    let end : ℕ = c.in_ok-first.first.next in
    let hyphen : get_or text end 0 ≡ 45 = sym c.byte_at.ensures ∙ c.if-byte_at-ne45.false in
    omega (arith, run_within (λ x. eqb x 45) refl text end (eq-eqb _ _ hyphen))

pub returns-in_err-second : goal.returns-in_err-second
returns-in_err-second c =
    let text : List ℕ = c.args.line.now in
    let place : ℕ = c.args.at in
    let end : ℕ = c.in_ok-first.first.next in
    let first : (v : ℕ) × (list_number (run is_digit (drop place text)) ≡ some v) × (c.in_ok-first.first.value ≡ is_pass v) × (end ≡ end_of is_digit text place) = number_some _ _ _ _ (sym c.number_shape.ensures ∙ c.in_ok-first.was) in
    let hyphen : get_or text end 0 ≡ 45 = sym c.byte_at.ensures ∙ c.if-byte_at-ne45.false in
    let q = first in
    rw c.from_residual-in_err-second.ensures (shaped_not_second text place _ q.3 _ q.1 hyphen _ refl _ (number_none _ _ (sym c.number_shape-2.ensures ∙ c.in_err-second.was)))

pub returns-then-byte_at-eq45 : goal.returns-then-byte_at-eq45
returns-then-byte_at-eq45 c =
    let text : List ℕ = c.args.line.now in
    let place : ℕ = c.args.at in
    let end : ℕ = c.in_ok-first.first.next in
    let first : (v : ℕ) × (list_number (run is_digit (drop place text)) ≡ some v) × (c.in_ok-first.first.value ≡ is_pass v) × (end ≡ end_of is_digit text place) = number_some _ _ _ _ (sym c.number_shape.ensures ∙ c.in_ok-first.was) in
    let second : (v : ℕ) × (list_number (run is_digit (drop (end + 1) text)) ≡ some v) × (c.in_ok-second.second.value ≡ is_pass v) × (c.in_ok-second.second.next ≡ end_of is_digit text (end + 1)) = number_some _ _ _ _ (sym c.number_shape-2.ensures ∙ c.in_ok-second.was) in
    let hyphen : get_or text end 0 ≡ 45 = sym c.byte_at.ensures ∙ c.if-byte_at-ne45.false in
    let q = first in
    shaped_no_third text place _ q.3 _ q.1 hyphen _ second.3 _ (sym c.byte_at-2.ensures ∙ c.if-byte_at-eq45.true)

pub returns : goal.returns
returns c =
    let text : List ℕ = c.args.line.now in
    let place : ℕ = c.args.at in
    let end : ℕ = c.in_ok-first.first.next in
    let first : (v : ℕ) × (list_number (run is_digit (drop place text)) ≡ some v) × (c.in_ok-first.first.value ≡ is_pass v) × (end ≡ end_of is_digit text place) = number_some _ _ _ _ (sym c.number_shape.ensures ∙ c.in_ok-first.was) in
    let second : (v : ℕ) × (list_number (run is_digit (drop (end + 1) text)) ≡ some v) × (c.in_ok-second.second.value ≡ is_pass v) × (c.in_ok-second.second.next ≡ end_of is_digit text (end + 1)) = number_some _ _ _ _ (sym c.number_shape-2.ensures ∙ c.in_ok-second.was) in
    let hyphen : get_or text end 0 ≡ 45 = sym c.byte_at.ensures ∙ c.if-byte_at-ne45.false in
    let q = first in
    let w = second in
    shaped_two text place _ q.3 _ q.1 hyphen _ w.3 _ w.1 _ (c.both.ensures ∙ ap₂ ◌&&◌ q.2 w.2) (λ k. c.if-byte_at-eq45.false (c.byte_at-2.ensures ∙ k))
