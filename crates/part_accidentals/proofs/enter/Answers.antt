-- `part_accidentals::enter` meets its contract.
use Rattle.part_accidentals.proofs.enter.Goals as goal

pub returns : goal.returns
returns c =
    let state = c.args.state in
    λ i. record { fifths = state.fifths; minor = state.minor; scopes = c.with_place-scopes.ensures i }
