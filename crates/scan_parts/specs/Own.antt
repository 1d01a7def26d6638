-- A part's own items in a line table of their own, which begins where the line table of all ends.
use Rattle.std.specs.Prelude.{ℕ, ◌+◌, ◌-◌, ◌≤◌, ◌≡◌, List, ◌++◌, map, length, take, drop}
use Rattle.laws.specs.Bytes.{rows}
use Rattle.reader.specs.Scan.{Items}
use Rattle.reader.specs.Steps.{items_of}
use Rattle.scan_table.specs.Rows.{items_from, item_row_width, table_end, dec_item, item_in, items_in}
use Rattle.scan_parts.specs.declared.Own.{Own}

-- the first m items of the line table that begins in s at a place
unfoldable pub items_from_place : List ℕ → List ℕ → ℕ → ℕ → Items
items_from_place text s at m = map (item_in text) (rows dec_item item_row_width s (at + items_from) m)

-- THE ITEMS ARE GATHERED behind the line table of n items: m of them, with no item of the part left out, and the n items are as they were
pub record Gathered (text s : List ℕ) (n part : ℕ) (s' : List ℕ) (m : ℕ) : Type 0 where
  pub few : m ≤ n
  pub same_length : length s' ≡ length s
  pub same_items : items_in text s' n ≡ items_in text s n
  pub own : items_of part (items_from_place text s' (table_end n) m) ≡ items_of part (items_in text s n)

-- A PART'S LINE TABLE, lent as the rest of scratch from its beginning on
abbrev pub lent : List ℕ → ℕ → List ℕ
lent s at = take (length s - at) (drop at s)

-- scratch with what came back
abbrev pub back : List ℕ → ℕ → List ℕ → List ℕ
back s at t = take at s ++ (t ++ drop (length s - at) (drop at s))

-- it has the part's items, within the room of two line tables; and who leaves its items as they were leaves all n
pub record OwnItems (text s : List ℕ) (n part : ℕ) (s' : List ℕ) (r : Own) : Type 0 where
  pub same_length : length s' ≡ length s
  pub inside : r.at ≤ length s
  pub room : r.at + table_end r.count ≤ table_end n + table_end n
  pub own : items_of part (items_in text (lent s' r.at) r.count) ≡ items_of part (items_in text s n)
  pub kept : (t : List ℕ) → length t ≡ length (lent s' r.at) → items_in text t r.count ≡ items_in text (lent s' r.at) r.count → items_in text (back s' r.at t) n ≡ items_in text s n
