-- `abc::pack` meets its contract, case by case.
use Prim.Native.Nat.{ℕ, ◌+◌, ◌*◌, ◌<◌}
use mathlib.Core.Path.{◌≡◌, sym, ap, subst, ◌∙◌}
use native.Mathlib.Omega.{arith}
use borrow.Author.Rules.{rules}
use Rattle.std.specs.Prelude.{Result}
use Rattle.refusals.specs.declared.Refused.{Refused}
use Rattle.refusals.specs.Numbers.{number_of}
use Rattle.reader.specs.Answer.{refused}
use Rattle.reading_answers.specs.Answers.{answer_as}
use Rattle.abc.specs.Packed.{refused_bit, number_unit, packed, Short}
use Rattle.abc.proofs.Packs.{read_back, refused_back}
use Rattle.abc.proofs.pack.Goals as goal

pub returns-in-Ok : goal.returns-in-Ok
unfolding packed
returns-in-Ok c =
    let e = c.in-Ok.is in
    record {
      value = sym (ap (λ (a : Result ℕ Refused). packed (answer_as a)) e);
      result_value = read_back _ (subst (λ (a : Result ℕ Refused). Short (answer_as a)) e c.requires) ∙ sym (ap answer_as e);
    }

pub returns-in-Err : goal.returns-in-Err
unfolding packed
returns-in-Err c =
    let e = c.in-Err.is in
    let n : c.from-number.result ≡ number_of c.in-Err.refused.refusal = c.from-number.ensures ∙ c.from.ensures in
    let l : c.from-in-Err.result ≡ c.in-Err.refused.line = c.from-in-Err.ensures in
    let small : c.from-number.result < 256 = search (rules, c.from-number.ensures) in
    let short : c.from-in-Err.result < number_unit = search rules in
    record {
      value = (λ i. refused_bit + n i * number_unit + l i) ∙ sym (ap (λ (a : Result ℕ Refused). packed (answer_as a)) e);
      result_value = refused_back _ _ small short ∙ (λ i. refused (n i) (l i)) ∙ sym (ap answer_as e);
    }
