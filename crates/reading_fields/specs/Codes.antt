-- THE CODES OF A READING'S RECORDS (document 02, T-02): "the codes for barlines, key mark, volta, kind, value, dots (to 3), flags (below 64), beam, boundary, step, verse, syllabic and
-- extend in their ranges, anything in fields not named here, lyric indices inside their part". Of the record that begins at r in the bytes s.
use Rattle.std.specs.Prelude.{ℕ, Bool, true, false, cond, ◌&&◌, List, leb, ltb, eqb}
use Rattle.std.proofs.Math.Option.{Option, none, some}
use Rattle.laws.specs.Bytes.{u32_at}
use Rattle.reading_records.specs.Fields.{kind_field, value_field, dots_field, flags_field, beam_field, boundary_field, step_field, verse_field, syllabic_field, extend_field}
use Rattle.reading_sections.specs.Sections.{byte_at, left_of, right_of, key_mark_of, volta_of}

-- A MEASURE: barlines 0 to 5, key mark 0 to 2, volta 0 to 3
unfoldable pub is_measure : List ℕ → ℕ → Bool
is_measure s r = leb (left_of s r) 5 && leb (right_of s r) 5 && leb (key_mark_of s r) 2 && leb (volta_of s r) 3

-- A NOTE: kind 0 to 4, value 0 to 10, dots 0 to 3, flags below 64, beam 0 to 3, boundary 0 to 3
unfoldable pub is_note : List ℕ → ℕ → Bool
is_note s r =
    leb (byte_at s r kind_field) 4
    && leb (byte_at s r value_field) 10
    && leb (byte_at s r dots_field) 3
    && ltb (byte_at s r flags_field) 64
    && leb (byte_at s r beam_field) 3
    && leb (byte_at s r boundary_field) 3

-- A PITCH: step 0 to 6
unfoldable pub is_pitch : List ℕ → ℕ → Bool
is_pitch s r = leb (byte_at s r step_field) 6

-- A LYRIC of a part with n notes: an index among them, verse 1 to 32, syllabic 0 to 3, extend 0 or 1
unfoldable pub is_lyric : List ℕ → ℕ → ℕ → Bool
is_lyric s n r =
    ltb (u32_at s r) n
    && leb 1 (byte_at s r verse_field)
    && leb (byte_at s r verse_field) 32
    && leb (byte_at s r syllabic_field) 3
    && leb (byte_at s r extend_field) 1

-- THE VOLTAS ("for each volta 1 a 2 before the next 1 or 3, with no other 2"): what one volta makes of those before it. `some true`: a 1 waits for its 2; `some false`: none does;
-- `none`: one was wrong, a 2 without its 1, or a 1 or 3 before the 2 of an earlier 1
unfoldable pub volta_step : Option Bool → ℕ → Option Bool
volta_step none v = none
volta_step (some true) v = cond (eqb v 0) (some true) (cond (eqb v 2) (some false) none)
volta_step (some false) v = cond (eqb v 1) (some true) (cond (eqb v 2) none (some false))

-- at the end none was wrong, and no 1 waits for its 2
unfoldable pub is_closed : Option Bool → Bool
is_closed none = false
is_closed (some true) = false
is_closed (some false) = true
