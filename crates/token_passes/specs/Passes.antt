-- Pass lists as the code has them.
use Rattle.std.specs.Prelude.{ℕ, Bool, cond, ◌||◌, List, eqb, get_or, drop}
use Rattle.std.proofs.Math.Option.{Option, none, some}
use Rattle.laws.specs.Spans.{run}
use Rattle.standard.specs.Bytes.{is, is_digit}
use Rattle.standard.specs.Passes as standard
use Rattle.standard.specs.Passes.{pass, passes}
use Rattle.reader.specs.Pieces.{pieces, separator}
use Rattle.reader.specs.PassLists.{is_pass_byte}
use Rattle.reader.specs.PassesInTurn.{item_of, pass_list}
use Rattle.reader.specs.Records.{pass_bits}
use Rattle.std.specs.Prelude as code
use Rattle.text_bytes.specs.declared.Read.{Read}
use Rattle.token_passes.specs.declared.Item as item
use Rattle.token_passes.specs.declared.Passes.{Passes}

-- a number, with the position after its digits
unfoldable pub pass_for : ℕ → Option ℕ → code.Option (Read ℕ)
pass_for next none = code.None
pass_for next (some v) = code.Some (record { value = v; next = next })

-- a byte of an item: digits and hyphens
abbrev pub is_item_byte : ℕ → Bool
is_item_byte c = is_digit c || is "-" c

-- the item at a position, above `low`
unfoldable pub item_at : ℕ → List ℕ → ℕ → Option standard.Item
item_at low line at = item_of low (pieces (separator (is "-")) 0 (run is_item_byte (drop at line)))

-- an item, with the position after it
abbrev pub item_read : ℕ → ℕ → ℕ → code.Option (Read item.Item)
item_read from to next = code.Some (record { value = record { from = from; to = to }; next = next })

unfoldable pub item_for : ℕ → Option standard.Item → code.Option (Read item.Item)
item_for next none = code.None
item_for next (some (pass a)) = item_read a a next
item_for next (some (passes a b)) = item_read a b next

-- the passes at a position, above `low`
unfoldable pub passes_at : ℕ → List ℕ → ℕ → Option (List ℕ)
passes_at low line at = pass_list low (pieces (separator (is ",")) 0 (run is_pass_byte (drop at line)))

-- passes, by the first one and their bits, with the position after the list
abbrev pub passes_read : ℕ → ℕ → ℕ → code.Option (Read Passes)
passes_read first bits next = code.Some (record { value = record { first = first; bits = bits }; next = next })

unfoldable pub passes_for : ℕ → Option (List ℕ) → code.Option (Read Passes)
passes_for next none = code.None
passes_for next (some ps) = passes_read (get_or ps 0 0) (pass_bits ps) next

-- the first pass, 0 where none was met before
abbrev pub first_for : ℕ → ℕ → ℕ
first_for first from = cond (eqb first 0) from first
