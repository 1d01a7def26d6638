-- `field_modal::split_tonic` meets its contract, by the letter and what stands behind it.
use Prim.Native.Nat.{◌≤◌}
use mathlib.Core.Path.{◌≡◌, sym, ◌∙◌}
use native.Mathlib.Omega.{arith}
use Rattle.standard.specs.Bytes.{first}
use Rattle.std.proofs.lemmas.List.{take_rest}
use Rattle.field_modal.proofs.Texts.{empty_tonic, other_tonic, word_sharp, word_flat, word_plain, letter_small}
use Rattle.field_modal.proofs.split_tonic.Goals as goal

pub returns-in_err-letter : goal.returns-in_err-letter
returns-in_err-letter c = rw c.from_residual.ensures (empty_tonic _ c.in_err-letter.ensures.cases)

pub returns-in_err-fifths : goal.returns-in_err-fifths
returns-in_err-fifths c = rw c.from_residual-in_err-fifths.ensures (other_tonic _ _ _ c.in_ok-letter.ensures.cases.0 c.in_err-fifths.ensures)

pub overflow_add-result : goal.overflow_add-result
overflow_add-result c =
    let small : c.in_ok-fifths.fifths ≤ 133 = letter_small _ _ c.in_ok-fifths.ensures.1 in
    omega (arith, small)

pub returns-in-35 : goal.returns-in-35
returns-in-35 c =
    rw take_rest
    (word_sharp _ _ _ _ c.in_ok-letter.ensures.cases.0 c.in_ok-fifths.ensures.0 c.in_ok-fifths.ensures.1 (sym c.byte_at.ensures ∙ c.in-35.is))

pub returns-in-98 : goal.returns-in-98
returns-in-98 c =
    rw take_rest
    (word_flat _ _ _ _ c.in_ok-letter.ensures.cases.0 c.in_ok-fifths.ensures.0 c.in_ok-fifths.ensures.1 (sym c.byte_at.ensures ∙ c.in-98.is))

pub returns-in_default : goal.returns-in_default
returns-in_default c =
    let b = c.byte_at.ensures in
    let no_sharp : first c.in_ok-letter.behind.now ≡ 35 → ⊥ = λ e. omega (arith, b, e) in
    let no_flat : first c.in_ok-letter.behind.now ≡ 98 → ⊥ = λ e. omega (arith, b, e) in
    word_plain _ _ _ _ c.in_ok-letter.ensures.cases.0 c.in_ok-fifths.ensures.0 c.in_ok-fifths.ensures.1 no_sharp no_flat
