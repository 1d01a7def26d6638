-- `tokens::effect_of` meets its contract.
use Rattle.tokens.proofs.Dispatch.{no_effect}
use Rattle.tokens.proofs.effect_of.Goals as goal

pub returns-in_default : goal.returns-in_default
returns-in_default c =
    let d = c.in_default in
    no_effect c.args.token (λ x. d.not-Unit x) (λ x y. d.not-Meter x y) (λ p n l a b. d.not-Chord p n l a b) (λ k l. d.not-Rest k l) (λ p l a b. d.not-Note p l a b) (λ r. d.not-Refused r)
