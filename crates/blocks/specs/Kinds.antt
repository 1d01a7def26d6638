-- WHAT A LINE AFTER THE FIRST K: LINE IS TO THE SUPPOSITIONS OF DEMAND 3, by its kind: music or not, and what it makes of L and of M.
-- That the scan does just this with a line: `unit_after_lem`, `meter_after_lem`, `place_made` in proofs/Scan.
use Rattle.std.specs.Prelude.{ℕ, Bool, true, false}
use Rattle.std.proofs.Math.Option.{Option, none, some}
use Rattle.standard.specs.Fields.{Meter}
use Rattle.reader.specs.Lines.{Kind, blank, refused, lyric, voice, key, meter, unit, tune, other, music}
use Rattle.reader.specs.Scan.{last_unit, last_meter}

-- "a music line is one that 000 gives to `parse_body_line`"
abbrev pub is_music_line : Kind → Bool
is_music_line blank = false
is_music_line (refused n) = false
is_music_line (lyric t) = false
is_music_line (voice v mid) = false
is_music_line (key k) = false
is_music_line (meter m) = false
is_music_line (unit u) = false
is_music_line tune = false
is_music_line other = false
is_music_line (music hi es l) = true

-- L after an L: line: what it sets, if it does
abbrev pub or_as_found : Option ℕ → ℕ → ℕ
or_as_found none u = u
or_as_found (some v) u = v

-- L after a line that finds u; inline fields of a music line are in it
abbrev pub unit_after : Kind → ℕ → ℕ
unit_after blank u = u
unit_after (refused n) u = u
unit_after (lyric t) u = u
unit_after (voice v mid) u = u
unit_after (key k) u = u
unit_after (meter m) u = u
unit_after (unit x) u = or_as_found x u
unit_after tune u = u
unit_after other u = u
unit_after (music hi es l) u = last_unit es u

-- M after a line that finds m
abbrev pub meter_after : Kind → Meter → Meter
meter_after blank m = m
meter_after (refused n) m = m
meter_after (lyric t) m = m
meter_after (voice v mid) m = m
meter_after (key k) m = m
meter_after (meter n) m = n
meter_after (unit x) m = m
meter_after tune m = m
meter_after other m = m
meter_after (music hi es l) m = last_meter es m
