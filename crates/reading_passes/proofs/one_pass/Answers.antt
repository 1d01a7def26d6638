-- `reading_passes::one_pass` meets its contract.
use mathlib.Core.Path.{◌≡◌, sym, ◌∙◌}
use mathlib.Core.Bool.{true, ◌&&◌}
use native.Mathlib.Omega.{arith}
use lib.Dec.{leb, ltb}
use borrow.Author.Tests.{leb-true, ltb-true}
use Rattle.laws.proofs.Bools.{and_left, and_right}
use Rattle.reading_passes.proofs.Again.{listed_again, listed_short}
use Rattle.reading_passes.proofs.one_pass.Goals as goal

pub overflow_sub-result : goal.overflow_sub-result
overflow_sub-result c =
    let a = c.args in
    let k : (leb a.kept.least a.start.at && ltb a.start.at a.kept.end) ≡ true = sym c.is_kept.ensures ∙ c.if-not-is_kept.false in
    omega (arith, ltb-true a.start.at a.kept.end (and_right (leb a.kept.least a.start.at) (ltb a.start.at a.kept.end) k))

pub returns-in_err-count : goal.returns-in_err-count
returns-in_err-count c =
    let p = c.requires in
    let a = c.args in
    let k : (leb a.kept.least a.start.at && ltb a.start.at a.kept.end) ≡ true = sym c.is_kept.ensures ∙ c.if-not-is_kept.false in
    rw c.from_residual.ensures
    (listed_short _ _ _ _ _ _ _ _ p.stands.1 p.kept_is.0 p.kept_is.1 (leb-true _ _ (and_left (leb a.kept.least a.start.at) (ltb a.start.at a.kept.end) k)) (ltb-true _ _ (and_right (leb a.kept.least a.start.at) (ltb a.start.at a.kept.end) k)) c.in_err-count.ensures)

pub returns : goal.returns
returns c =
    let p = c.requires in
    let a = c.args in
    let k : (leb a.kept.least a.start.at && ltb a.start.at a.kept.end) ≡ true = sym c.is_kept.ensures ∙ c.if-not-is_kept.false in
    listed_again _ _ _ _ _ _ _ _ p.stands.1 p.kept_is.0 p.kept_is.1 _ (leb-true _ _ (and_left (leb a.kept.least a.start.at) (ltb a.start.at a.kept.end) k)) (ltb-true _ _ (and_right (leb a.kept.least a.start.at) (ltb a.start.at a.kept.end) k)) c.in_ok-count.ensures
