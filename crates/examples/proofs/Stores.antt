-- Both stores after the call, on one text (document 01, "Who can be refused"): a reading store of the right length, longer, one byte less; a scratch store that is too short.
use Prim.Native.Nat.{ℕ}
use mathlib.Core.Path.{◌≡◌, refl}
use mathlib.Core.List.{List, [], ◌∷◌, ◌++◌}
use Rattle.laws.specs.Bytes.{zeros}
use Rattle.standard.specs.Bytes.{ascii}
use Rattle.editions.specs.declared.Edition.TheVariants.{First}
use Rattle.reader.specs.Answer.{refusal, parse_abc}
use Rattle.reader.specs.All.{all}
use Rattle.examples.specs.Shown.{hex}

-- 11 bytes, so the scratch store has 8544 at least
abbrev text : List ℕ
text = ascii "L:1/8\nK:C\nA"

-- its reading, 69 bytes
abbrev bytes : List ℕ
bytes = hex "010000000100000001000000000000000000000000000000000004040100000000000000010000000005002000000000010000000100000005040000000000000000000000"

pub fits : (parse_abc First text 69 8544).reading ≡ bytes
unfolding all
fits = refl

pub longer : (parse_abc First text 72 8544).reading ≡ bytes ++ zeros 3
unfolding all
longer = refl

pub one_less : parse_abc First text 68 8544 ≡ record { verdict = refusal 16 0; reading = zeros 68; scratch = zeros 8544 }
unfolding all
one_less = refl

pub scratch_short : parse_abc First text 69 8543 ≡ record { verdict = refusal 15 0; reading = zeros 69; scratch = zeros 8543 }
unfolding all
scratch_short = refl
