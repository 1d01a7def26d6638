-- `field_tonics::fifths_of` meets its contract: the tables are the line of fifths (`one_byte`, `two_bytes`).
use Prim.Native.Nat.{◌<◌}
use mathlib.Core.Path.{◌∙◌}
use mathlib.Core.Logic.{inl, inr}
use native.Mathlib.Omega.{arith}
use borrow.Author.Rules.{rules}
use Rattle.reader.specs.Keys.{fifths_of}
use Rattle.field_tonics.specs.Names.{tonic_in}
use Rattle.field_tonics.proofs.Tables.{one_byte, two_bytes}
use Rattle.field_tonics.proofs.fifths_of.Goals as goal

pub returns-in-One : goal.returns-in-One
unfolding tonic_in
returns-in-One c =
    let h : c.in-One.first < 256 = omega arith in
    rw c.in-One.is (c.looked_up.ensures ∙ one_byte _ _ h)

pub returns-in-Gap : goal.returns-in-Gap
unfolding tonic_in
returns-in-Gap c =
    let h : c.in-Gap.first < 256 = omega arith in
    rw c.in-Gap.is (c.looked_up-in-Gap.ensures ∙ one_byte _ _ h)

pub returns-in-Two : goal.returns-in-Two
unfolding tonic_in
returns-in-Two c =
    let h : c.in-Two.first < 256 = omega arith in
    rw c.in-Two.is (search rules ∙ two_bytes c.args.minor c.in-Two.first c.in-Two.second h)

pub returns-in-Empty : goal.returns-in-Empty
unfolding tonic_in fifths_of
returns-in-Empty c = elim c.in-Empty.is [ inl e ↦ rw e | inr e ↦ rw e.1 ]
