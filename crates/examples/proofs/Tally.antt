-- THE TALLY'S EXAMPLE (document 01): `part 1 measures 2 sounded 6 rests 1 syllables 3`.
use mathlib.Core.Path.{◌≡◌, refl}
use mathlib.Core.List.{List, [], ◌∷◌}
use Rattle.standard.specs.Bytes.{ascii}
use Rattle.editions.specs.declared.Edition.TheVariants.{First}
use Rattle.reader.specs.Answer.{parse_abc}
use Rattle.reader.specs.Tally.{Counts, tally}
use Rattle.reader.specs.All.{all}
use Rattle.examples.specs.Shown.{parts_in}

pub tally-example
    : tally (parts_in (parse_abc First (ascii "X:1\nL:1/8\nK:G\nFA (3GAB|c2 z2|]\nw: one two-three\n") 65536 65536).verdict)
    ≡ record { measures = 2; sounded = 6; rests = 1; syllables = 3 } ∷ []
unfolding all
tally-example = refl
