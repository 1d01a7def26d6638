-- `text_lines::trim_end` meets its contract.
use Prim.Native.Nat.{◌+◌, ◌-◌}
use mathlib.Core.Path.{◌≡◌, refl, sym, ap, ◌∙◌}
use borrow.Author.Rules.{rules}
use native.Mathlib.Omega.{arith}
use Rattle.laws.specs.Bytes.{between}
use Rattle.laws.proofs.Parts.{between_none}
use Rattle.reader.specs.Text.{trim}
use Rattle.text_lines.proofs.Cleaning.{end_space, end_whole, end_before, end_here, trim_nothing}
use Rattle.text_lines.proofs.trim_end.Goals as goal

pub loop-i-init : goal.loop-i-init
loop-i-init c = refl

pub returns-then-b-gt127 : goal.returns-then-b-gt127
returns-then-b-gt127 c =
    let a = c.args in
    let l = c.loop-i in
    let e : l.i - 1 + 1 ≡ l.i = omega arith in
    end_before a.text.now a.from a.to l.i _ (search rules) l.invariant (rw e at c.trim_bytes.ensures)

pub returns-then-not-is_space : goal.returns-then-not-is_space
returns-then-not-is_space c =
    let a = c.args in
    let l = c.loop-i in
    let e : l.i - 1 + 1 ≡ l.i = omega arith in
    rw e
    (end_before a.text.now a.from a.to l.i _ (search rules) l.invariant
    (end_here a.text.now a.from l.i (search rules) (end_whole a.text.now a.from l.i (search rules) (search rules) (search rules) (sym c.is_space.ensures ∙ c.if-not-is_space.true))))

pub loop-i-preserved : goal.loop-i-preserved
loop-i-preserved c =
    let a = c.args in
    let l = c.loop-i in
    end_space a.text.now a.from l.i (search rules) (search rules) (search rules) (sym c.is_space.ensures ∙ c.if-not-is_space.false) ∙ l.invariant

pub returns : goal.returns
returns c =
    let a = c.args in
    let l = c.loop-i in
    let e : trim (between a.text.now a.from a.from) ≡ trim (between a.text.now a.from a.to) = ap trim (between_none a.text.now a.from a.from (omega arith) ∙ sym (between_none a.text.now a.from l.i c.loop-i-test.false)) ∙ l.invariant in
    end_before a.text.now a.from a.to a.from _ c.requires.0 e (end_here a.text.now a.from a.from (omega arith) (trim_nothing a.text.now a.from a.from (omega arith)))
