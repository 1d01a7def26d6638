-- What is well shaped, and a list's refusal, as the code has them.
use Rattle.std.specs.Prelude.{ℕ, Bool, List, [], ◌∷◌, drop}
use Rattle.std.proofs.Math.Option.{Option, none, some}
use Rattle.laws.specs.Lists.{all}
use Rattle.laws.specs.Spans.{run}
use Rattle.standard.specs.Bytes.{is}
use Rattle.standard.specs.Passes.{Item}
use Rattle.reader.specs.Pieces.{pieces, separator}
use Rattle.reader.specs.PassLists.{list_item, list_items, numbers_in, is_pass, is_pass_byte}
use Rattle.token_passes.specs.Passes.{is_item_byte}
use Rattle.std.specs.Prelude as code
use Rattle.text_bytes.specs.declared.Read.{Read}

-- well shaped: whether the numbers are passes, with the position after them
abbrev pub shape_read : Bool → ℕ → code.Option (Read Bool)
shape_read in_range next = code.Some (record { value = in_range; next = next })

-- a number, with the position after its digits
unfoldable pub number_shape : ℕ → Option ℕ → code.Option (Read Bool)
number_shape next none = code.None
number_shape next (some n) = shape_read (is_pass n) next

-- the item at a position
unfoldable pub list_item_at : List ℕ → ℕ → Option Item
list_item_at line at = list_item (pieces (separator (is "-")) 0 (run is_item_byte (drop at line)))

-- an item, with the position after it
unfoldable pub item_shape : ℕ → Option Item → code.Option (Read Bool)
item_shape next none = code.None
item_shape next (some i) = shape_read (all is_pass (numbers_in (i ∷ []))) next

-- the list at a position
unfoldable pub list_items_at : List ℕ → ℕ → Option (List Item)
list_items_at line at = list_items (pieces (separator (is ",")) 0 (run is_pass_byte (drop at line)))
