-- `field_tonics::looked_up` meets its contract, by its test.
use Rattle.std.specs.Prelude.{ℕ, Option, cond, List}
use Rattle.std.proofs.Common.{unwrap_or}
use mathlib.Core.Path.{◌≡◌, ap, ◌∙◌}
use Rattle.field_tonics.specs.declared.KeyName.{KeyName}
use Rattle.field_tonics.specs.Names.{majors, minors, lookup_in, looked_up}
use Rattle.field_tonics.proofs.looked_up.Goals as goal
use Rattle.field_tonics.proofs.looked_up.Goals.{then-minor, else-minor}

pub returns : goal.returns
unfolding looked_up
returns c =
    let table : c.if-minor.fifths_in ≡ cond c.args.minor minors majors
    = elim c.if-minor.branch [ then-minor w ↦ rw (w.fifths_in-is, w.if-minor.true) | else-minor w ↦ rw (w.fifths_in-is, w.if-minor.false) ] in
    c.unwrap_or.ensures ∙ ap (λ (o : Option ℕ). unwrap_or o 128) (c.fifths_in.ensures ∙ ap (λ (ks : List KeyName). lookup_in ks c.args.name) table)
