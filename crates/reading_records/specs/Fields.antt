-- WHERE A FIELD STANDS IN ITS RECORD (document 01, "The reading").
use Rattle.std.specs.Prelude.{ℕ}

-- of a measure; the note counts of its four voices come first
abbrev pub left_field : ℕ
left_field = 16

abbrev pub right_field : ℕ
right_field = 17

abbrev pub key_mark_field : ℕ
key_mark_field = 20

abbrev pub volta_field : ℕ
volta_field = 22

abbrev pub passes_field : ℕ
passes_field = 24

-- of a note
abbrev pub kind_field : ℕ
kind_field = 0

abbrev pub value_field : ℕ
value_field = 1

abbrev pub dots_field : ℕ
dots_field = 2

abbrev pub flags_field : ℕ
flags_field = 3

abbrev pub beam_field : ℕ
beam_field = 4

abbrev pub boundary_field : ℕ
boundary_field = 7

abbrev pub pitches_field : ℕ
pitches_field = 8

-- of a pitch
abbrev pub step_field : ℕ
step_field = 0

-- of a lyric; its note's index comes first
abbrev pub verse_field : ℕ
verse_field = 4

abbrev pub syllabic_field : ℕ
syllabic_field = 5

abbrev pub extend_field : ℕ
extend_field = 6

abbrev pub text_field : ℕ
text_field = 7
