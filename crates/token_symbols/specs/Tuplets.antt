-- Tuplets as the code has them.
use Rattle.std.specs.Prelude.{ℕ, ◌+◌}
use Rattle.std.proofs.Math.Option.{Option, none, some}
use Rattle.reader.specs.Token.{Token, space, overlay, quoted, broken, tuplet, slur, grace_open, grace_close, decoration, barline, volta, unit, meter, key, field, chord, rest, note, nothing, skipped, refused, Taken}
use Rattle.std.specs.Prelude as code
use Rattle.text_bytes.specs.declared.Read.{Read}
use Rattle.token_symbols.specs.declared.Tuplet.{Tuplet}

-- a number, with the position after its digits
unfoldable pub number_for : ℕ → Option ℕ → code.Option (Read ℕ)
number_for next none = code.None
number_for next (some v) = code.Some (record { value = v; next = next })

-- a tuplet that is read, with the position after it
abbrev pub tuplet_read : ℕ → ℕ → ℕ → ℕ → code.Option (Read Tuplet)
tuplet_read actual normal count next = code.Some (record { value = record { actual = actual; normal = normal; count = count }; next = next })

-- a tuplet's token, with the position after it; other tokens do not occur
unfoldable pub tuplet_in : ℕ → Token → code.Option (Read Tuplet)
tuplet_in next (tuplet t) = tuplet_read t.actual t.normal t.count next
tuplet_in next space = code.None
tuplet_in next overlay = code.None
tuplet_in next quoted = code.None
tuplet_in next (broken up n) = code.None
tuplet_in next slur = code.None
tuplet_in next grace_open = code.None
tuplet_in next grace_close = code.None
tuplet_in next decoration = code.None
tuplet_in next (barline b o) = code.None
tuplet_in next (volta ps) = code.None
tuplet_in next (unit u) = code.None
tuplet_in next (meter m) = code.None
tuplet_in next (key k) = code.None
tuplet_in next field = code.None
tuplet_in next (chord ps l b) = code.None
tuplet_in next (rest k l) = code.None
tuplet_in next (note p l b) = code.None
tuplet_in next nothing = code.None
tuplet_in next skipped = code.None
tuplet_in next (refused n) = code.None

-- the tuplet whose `(` stands at a position, if it is one
unfoldable pub tuplet_for : ℕ → Option Taken → code.Option (Read Tuplet)
tuplet_for at none = code.None
tuplet_for at (some t) = tuplet_in (at + t.used) t.token
