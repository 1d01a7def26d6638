-- THE NUMBERS THAT DOCUMENT 01 GIVES TO EACH CASE ("The reading").
use Rattle.std.specs.Prelude.{ℕ, Bool, cond}
use Rattle.standard.specs.Bars.{Barline, normal, repeat_start, repeat_end, repeat_both, double, final}
use Rattle.standard.specs.Notes.{NoteKind, sounded, rest, invisible_rest, bar_rest, invisible_bar_rest, Beam, unbeamed, begins, continues, ends}
use Rattle.standard.specs.Lyrics
use Rattle.standard.specs.Lyrics.{Syllabic}
use Rattle.reader.specs.State.{Volta, no_volta, volta_begins, volta_ends, volta_alone}

-- "0 normal, 1 repeat start, 2 repeat end, 3 both, 4 double, 5 final"
abbrev pub barline_code : Barline → ℕ
barline_code normal = 0
barline_code repeat_start = 1
barline_code repeat_end = 2
barline_code repeat_both = 3
barline_code double = 4
barline_code final = 5

-- "volta (0 none, 1 begin, 2 end, 3 begin and end)"
unfoldable pub volta_code : Volta → ℕ
volta_code no_volta = 0
volta_code volta_begins = 1
volta_code volta_ends = 2
volta_code volta_alone = 3

-- "key mark (0 none, 1 major, 2 minor)"
unfoldable pub mode_code : Bool → ℕ
mode_code minor = cond minor 2 1

-- "kind (0 note, 1 z, 2 x, 3 Z, 4 X)"
unfoldable pub kind_code : NoteKind → ℕ
kind_code sounded = 0
kind_code rest = 1
kind_code invisible_rest = 2
kind_code bar_rest = 3
kind_code invisible_bar_rest = 4

-- "beam (0 none, 1 begin, 2 continue, 3 end)"
unfoldable pub beam_code : Beam → ℕ
beam_code unbeamed = 0
beam_code begins = 1
beam_code continues = 2
beam_code ends = 3

-- "syllabic (0 single, 1 begin, 2 end, 3 middle)"
unfoldable pub syllabic_code : Syllabic → ℕ
syllabic_code Lyrics.single = 0
syllabic_code Lyrics.begins = 1
syllabic_code Lyrics.ends = 2
syllabic_code Lyrics.middle = 3

-- "flags (1 tie start, 2 tie end, 4 slur start, 8 slur end, 16 grace, 32 unbeamed)", "extend 0 or 1"
unfoldable pub bit : Bool → ℕ → ℕ
bit b n = cond b n 0
