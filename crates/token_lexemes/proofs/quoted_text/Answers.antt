-- `token_lexemes::quoted_text` meets its contract.
use mathlib.Core.Path.{◌≡◌}
use native.Mathlib.Omega.{arith}
use Prim.Native.Nat.{◌+◌}
use lib.ListN.{length, drop, length-drop}
use Rattle.reader.specs.Token.{quoted, taken}
use Rattle.token_lexemes.specs.Lexemes.{lexeme_for}
use Rattle.token_lexemes.proofs.Closed.{closed, unclosed}
use Rattle.token_lexemes.proofs.quoted_text.Goals as goal

pub returns-then-close-line : goal.returns-then-close-line
unfolding lexeme_for
returns-then-close-line c =
    let a = c.args in
    closed a.line.now a.at 34 c.find-close.result c.requires c.find-close.ensures quoted (taken quoted (length (drop a.at a.line.now))) c.if-close-line.true

pub returns : goal.returns
unfolding lexeme_for
returns c =
    let a = c.args in
    let n : length a.line.now ≡ a.at + length (drop a.at a.line.now) = rw (length-drop a.at a.line.now) (omega (arith, c.requires)) in
    rw n (unclosed a.line.now a.at 34 c.find-close.result c.requires c.find-close.ensures quoted (taken quoted (length (drop a.at a.line.now))) c.if-close-line.false)
