-- WHAT THE WRITERS READ of the row of a note that stands at p.
use Rattle.std.specs.Prelude.{ℕ, ◌+◌, ◌%◌, Bool, ◌&&◌, List, eqb, leb, get_or}
use Rattle.laws.specs.Bytes.{part, u32_at}
use Rattle.part_rows.specs.Encoded.{value_at, dots_at, flags_at, beam_at, pitch_count_at, voice_at}
use Rattle.part_rows.specs.declared.NoteStart.{NoteStart}

-- kind, value, dots, flags and beam
abbrev pub start_at : List ℕ → ℕ → NoteStart
start_at s p = record { kind = get_or s p 0; value = get_or s (p + value_at) 0; dots = get_or s (p + dots_at) 0; flags = get_or s (p + flags_at) 0; beam = get_or s (p + beam_at) 0 }

-- the rest of the note record, from the beam on
abbrev pub rest_at : List ℕ → ℕ → List ℕ
rest_at s p = part s (p + beam_at) 8

-- it is no rest
abbrev pub sounds_at : List ℕ → ℕ → Bool
sounds_at s p = eqb (get_or s p 0) 0

-- it is of voice v
abbrev pub of_voice_at : List ℕ → ℕ → ℕ → Bool
of_voice_at s v p = eqb (get_or s (p + voice_at) 0) v

-- it is a grace note: flag 16
abbrev pub grace_at : List ℕ → ℕ → Bool
grace_at s p = leb 16 (get_or s (p + flags_at) 0 % 32)

-- it is of voice 0
unfoldable pub lead_row : List ℕ → ℕ → Bool
lead_row s p = of_voice_at s 0 p

-- and no rest
unfoldable pub sung_row : List ℕ → ℕ → Bool
sung_row s p = lead_row s p && sounds_at s p

-- how many pitches it has
abbrev pub pitch_count : List ℕ → ℕ → ℕ
pitch_count s p = u32_at s (p + pitch_count_at)
