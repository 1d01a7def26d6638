-- `text_words::word_end` meets its contract: each byte before the end is one of the word, and white space stands there, or nothing.
use Prim.Native.Nat.{ℕ, ◌<◌}
use mathlib.Core.Path.{◌≡◌, ap}
use mathlib.Core.Bool.{true, false, not}
use native.Mathlib.Omega.{arith}
use borrow.Author.Rules.{rules}
use lib.ListN.{length, get_or}
use Rattle.laws.proofs.Spans.{count_while_is}
use Rattle.reader.specs.Text.{is_space}
use Rattle.text_words.specs.Words.{not_space}
use Rattle.text_words.proofs.word_end.Goals as goal

pub returns-in-Some-clause-end : goal.returns-in-Some-clause-end
returns-in-Some-clause-end c =
    let t = c.args.text.now in
    let at : is_space (get_or t c.in-Some.end 0) ≡ true = search rules in
    let before : (i : ℕ) → i < c.in-Some.end → is_space (get_or t i 0) ≡ false = search rules in
    omega (arith, count_while_is not_space t c.in-Some.end 0 (search rules) (λ i h. ap not (before i h)) (λ h. ap not at))

pub returns-in-None-clause-end : goal.returns-in-None-clause-end
returns-in-None-clause-end c =
    let t = c.args.text.now in
    let none : (i : ℕ) → i < length t → is_space (get_or t i 0) ≡ false = search rules in
    omega (arith, count_while_is not_space t (length t) 0 (omega arith) (λ i h. ap not (none i h)) (λ h. absurd (omega arith)))
