-- Document 01's example: "it prints exactly".
use mathlib.Core.Path.{◌≡◌, refl}
use Rattle.standard.specs.Bytes.{ascii}
use Rattle.reader.specs.All.{all}
use Rattle.tally_text.specs.Printed.{digits_of, decimal, field, line, lines, parts_text, refused_text, verdict_text, printed}

pub example
    : printed (ascii "X:1\nL:1/8\nK:G\nFA (3GAB|c2 z2|]\nw: one two-three\n")
    ≡ ascii "parts 1\npart 1 measures 2 sounded 6 rests 1 syllables 3\n"
unfolding all digits_of decimal field line lines parts_text verdict_text printed
example = refl

-- a part without measures has its line, a number its digits
pub two_parts : printed (ascii "V:1\nV:2\nK:C\nABABABABABABz\n") ≡ ascii "parts 2\npart 1 measures 0 sounded 0 rests 0 syllables 0\npart 2 measures 1 sounded 12 rests 1 syllables 0\n"
unfolding all digits_of decimal field line lines parts_text verdict_text printed
two_parts = refl

-- no input
pub nothing : printed (ascii "") ≡ ascii "refused 1 0\n"
unfolding all digits_of decimal field refused_text verdict_text printed
nothing = refl
