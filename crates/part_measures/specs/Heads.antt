-- THE HEAD OF A MEASURE as a row, as wide as the measure record: part_layout's head_bytes.
use Rattle.std.specs.Prelude.{ℕ, zero, suc, ◌+◌, Bool, true, ◌&&◌, List, [], ◌∷◌, ◌++◌, eqb, get_or}
use Rattle.laws.specs.Bytes.{le32, u32_at}
use Rattle.reader.specs.Codes.{barline_code, volta_code}
use Rattle.reader.specs.Records.{measure_width, key_mark_bytes, pass_bits}
use Rattle.part_layout.specs.Log.{Head}

-- WHERE THE FIELDS OF A MEASURE'S ROW STAND, as in the measure record: four counts of four bytes first
abbrev pub left_at : ℕ
left_at = 16

abbrev pub right_at : ℕ
right_at = 17

abbrev pub meter_at : ℕ
meter_at = 18

abbrev pub key_mark_at : ℕ
key_mark_at = 20

abbrev pub volta_at : ℕ
volta_at = 22

abbrev pub first_pass_at : ℕ
first_pass_at = 23

abbrev pub passes_at : ℕ
passes_at = 24

-- a measure without its notes: measure_width bytes whatever the counts; with four, head_bytes (`head_row_lem`)
unfoldable pub head_row : Head → List ℕ
head_row m =
    (le32 (get_or m.counts 0 0) ++ le32 (get_or m.counts 1 0) ++ le32 (get_or m.counts 2 0) ++ le32 (get_or m.counts 3 0))
    ++ (barline_code m.left ∷ barline_code m.right ∷ m.meter.0 ∷ m.meter.1 ∷ [])
    ++ key_mark_bytes m.key
    ++ (volta_code m.volta ∷ get_or m.passes 0 0 ∷ le32 (pass_bits m.passes))

-- a new measure: its left barline by number, its meter
unfoldable pub new_row : ℕ → ℕ → ℕ → List ℕ
new_row left top bottom =
    (0 ∷ 0 ∷ 0 ∷ 0 ∷ [])
    ++ (0 ∷ 0 ∷ 0 ∷ 0 ∷ [])
    ++ (0 ∷ 0 ∷ 0 ∷ 0 ∷ [])
    ++ (0 ∷ 0 ∷ 0 ∷ 0 ∷ [])
    ++ (left ∷ 0 ∷ top ∷ bottom ∷ [])
    ++ (0 ∷ 0 ∷ 0 ∷ 0 ∷ [])
    ++ (0 ∷ 0 ∷ 0 ∷ 0 ∷ [])

-- the four counts at a place are 0
unfoldable pub no_notes : List ℕ → ℕ → Bool
no_notes s at = eqb 0 (u32_at s at) && (eqb 0 (u32_at s (at + 4)) && (eqb 0 (u32_at s (at + 8)) && (eqb 0 (u32_at s (at + 12)) && true)))

-- READ BY THE WRITERS: how many notes the four counts at a place make
unfoldable pub note_count : List ℕ → ℕ → ℕ
note_count s at = u32_at s at + u32_at s (at + 4) + u32_at s (at + 8) + u32_at s (at + 12)

-- and those of the n rows from h on
unfoldable pub total : List ℕ → ℕ → ℕ → ℕ
total s h zero = 0
total s h (suc n) = note_count s h + total s (h + measure_width) n
