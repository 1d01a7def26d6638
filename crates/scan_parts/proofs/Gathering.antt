-- A part's items gathered one by one, and the line table that they are lent in.
use Prim.Native.Nat.{ℕ, ◌+◌, ◌-◌, ◌*◌, ◌^◌, ◌≤◌, ◌<◌}
use mathlib.Core.Path.{◌≡◌, refl, sym, ap, ◌∙◌}
use mathlib.Core.List.{List, [], ◌∷◌, ◌++◌, map, append-nil}
use native.Mathlib.Omega.{arith}
use lib.Dec.{eqb}
use lib.ListN.{length, take, drop, length-take, drop_of_length-le}
use lib.Seq.{take_all, take_at}
use borrow.Author.Tests.{ne_eqb}
use Rattle.laws.specs.Bytes.{splice, rows}
use Rattle.laws.proofs.Bools.{cond_false}
use Rattle.laws.proofs.Lists.{map_append}
use Rattle.laws.proofs.Parts.{part_cut}
use Rattle.laws.proofs.Rows.{rows_none, rows_push, rows_part}
use Rattle.laws.proofs.Splices.{length_splice}
use Rattle.reader.specs.Scan.{Item}
use Rattle.reader.specs.Steps.{items_of}
use Rattle.blocks.proofs.Runs.{mine_append}
use Rattle.scan_table.specs.declared.Row.{Row}
use Rattle.scan_table.specs.Rows.{items_from, item_row_width, row_from, table_end, dec_item, enc_item, item_at, item_in, items_in, RowIs}
use Rattle.scan_table.proofs.Rows.{length_item, item_back, items_none, items_more, items_front, items_below}
use Rattle.scan_parts.specs.Own.{items_from_place, Gathered, lent, back, OwnItems}

-- ITEM BY ITEM: of the first i items, those of the part are gathered; m rows are written
pub record Gathering (text s₀ : List ℕ) (n part : ℕ) (s : List ℕ) (i m : ℕ) : Type 0 where
  pub few : m ≤ i
  pub low : i ≤ n
  pub same_length : length s ≡ length s₀
  pub same_items : items_in text s n ≡ items_in text s₀ n
  pub own : items_of part (items_from_place text s (table_end n) m) ≡ items_of part (items_in text s i)

pub gathering_start : (text s : List ℕ) (n part : ℕ) → Gathering text s n part s 0 0
unfolding items_from_place
gathering_start text s n part =
    record {
      few = omega arith;
      low = omega arith;
      same_length = refl;
      same_items = refl;
      own = ap (λ (rs : List Row). items_of part (map (item_in text) rs)) (rows_none dec_item item_row_width s (table_end n + items_from)) ∙ sym (ap (items_of part) (items_none text s));
    }

-- an item of another part is none of it
not_own : (text : List ℕ) (part : ℕ) (q : Row) → (q.part ≡ part → ⊥) → items_of part (item_in text q ∷ []) ≡ []
unfolding item_in
not_own text part q h = cond_false (eqb q.part part) _ _ (ne_eqb q.part part h)

-- one row more in the part's line table
row_pushed : (text s : List ℕ) (at m k : ℕ) (r : Row) → k ≡ at + items_from + item_row_width * m → r.at < 2 ^ 32 → r.end < 2 ^ 32 → r.unit < 2 ^ 32 → k + item_row_width ≤ length s
    → items_from_place text (splice s k (enc_item r)) at (m + 1) ≡ items_from_place text s at m ++ (item_in text r ∷ [])
unfolding items_from_place
row_pushed text s at m k r e h j l room =
    ap (λ (b : ℕ). map (item_in text) (rows dec_item item_row_width (splice s b (enc_item r)) (at + items_from) (m + 1))) e
    ∙ ap (map (item_in text)) (rows_push dec_item item_row_width s (at + items_from) m (enc_item r) (length_item r) (omega (arith, e, room)))
    ∙ map_append (item_in text) (rows dec_item item_row_width s (at + items_from) m) (dec_item (enc_item r) ∷ [])
    ∙ ap (λ (q : Row). map (item_in text) (rows dec_item item_row_width s (at + items_from) m) ++ (item_in text q ∷ [])) (item_back r h j l)

module _ (text s₀ : List ℕ) (n part : ℕ) (fits : table_end n + table_end n ≤ length s₀) (short : length text ≤ 67108864) (s : List ℕ) (i m : ℕ) (g : Gathering text s₀ n part s i m) (l : i < n) where
  -- where the next row goes, there is room
  pub row_inside : row_from (n + 16 + m) + item_row_width ≤ length s
  row_inside = omega (arith, g.few, g.same_length, fits, l)

  pub item_inside : row_from i + item_row_width ≤ length s
  item_inside = omega (arith, g.same_length, fits, l)

  -- an item of the part
  module _ (r : Row) (read : RowIs text (item_at s i) r) where
    pub at_fits : r.at < 2 ^ 32
    at_fits = omega (arith, read.order, read.high, short)

    pub end_fits : r.end < 2 ^ 32
    end_fits = omega (arith, read.high, short)

    pub gathering_own : r.unit < 2 ^ 32 → (s' : List ℕ) → s' ≡ splice s (row_from (n + 16 + m)) (enc_item r) → Gathering text s₀ n part s' (i + 1) (m + 1)
    gathering_own u s' e =
        let k = row_from (n + 16 + m) in
        let place : k ≡ table_end n + items_from + item_row_width * m = omega arith in
        let next : items_in text s' (i + 1) ≡ items_in text s i ++ (item_in text (item_at s i) ∷ []) =
        ap (λ (x : List ℕ). items_in text x (i + 1)) e ∙ items_below text s (i + 1) k (enc_item r) (omega (arith, l)) ∙ items_more text s i in
        record {
          few = omega (arith, g.few);
          low = omega (arith, l);
          same_length = ap length e ∙ length_splice s k (enc_item r) ∙ g.same_length;
          same_items = ap (λ (x : List ℕ). items_in text x n) e ∙ items_below text s n k (enc_item r) (omega arith) ∙ g.same_items;
          own =
              ap (λ (x : List ℕ). items_of part (items_from_place text x (table_end n) (m + 1))) e
              ∙ ap (items_of part) (row_pushed text s (table_end n) m k r place at_fits end_fits u row_inside)
              ∙ mine_append part (items_from_place text s (table_end n) m) (item_in text r ∷ [])
              ∙ (λ j. g.own j ++ items_of part (read.item j ∷ []))
              ∙ sym (mine_append part (items_in text s i) (item_in text (item_at s i) ∷ []))
              ∙ sym (ap (items_of part) next);
        }

  -- an item of another part
  pub gathering_other : ((item_at s i).part ≡ part → ⊥) → Gathering text s₀ n part s (i + 1) m
  gathering_other h =
      record {
        few = omega (arith, g.few);
        low = omega (arith, l);
        same_length = g.same_length;
        same_items = g.same_items;
        own =
            g.own
            ∙ sym (append-nil (items_of part (items_in text s i)))
            ∙ ap (λ (xs : List Item). items_of part (items_in text s i) ++ xs) (sym (not_own text part (item_at s i) h))
            ∙ sym (mine_append part (items_in text s i) (item_in text (item_at s i) ∷ []))
            ∙ sym (ap (items_of part) (items_more text s i));
      }

-- all are gathered
pub gathered : (text s₀ : List ℕ) (n part : ℕ) (s : List ℕ) (i m : ℕ) → Gathering text s₀ n part s i m → n ≤ i → Gathered text s₀ n part s m
gathered text s₀ n part s i m g h =
    let e : i ≡ n = omega (arith, g.low, h) in
    record {
      few = omega (arith, g.few, e);
      same_length = g.same_length;
      same_items = g.same_items;
      own = g.own ∙ ap (λ (k : ℕ). items_of part (items_in text s k)) e ∙ ap (items_of part) g.same_items;
    }

-- THE LINE TABLE that is lent
lent_items : (text s : List ℕ) (at m : ℕ) → at + table_end m ≤ length s → items_in text (lent s at) m ≡ items_from_place text s at m
unfolding items_in items_from_place
lent_items text s at m h =
    ap (λ (x : List ℕ). map (item_in text) (rows dec_item item_row_width x items_from m)) (part_cut s at (length s - at))
    ∙ ap (map (item_in text)) (rows_part dec_item item_row_width s at (length s - at) items_from m (omega (arith, h)))

-- behind that of all items
pub own_behind : (text s : List ℕ) (n part : ℕ) (s' : List ℕ) (at m : ℕ) → at ≡ table_end n → table_end n + table_end n ≤ length s → Gathered text s n part s' m → OwnItems text s n part s' (record { at = at; count = m })
own_behind text s n part s' at m e fits g =
    record {
      same_length = g.same_length;
      inside = omega (arith, e, fits);
      room = omega (arith, e, g.few);
      own = ap (items_of part) (lent_items text s' at m (omega (arith, e, fits, g.few, g.same_length)) ∙ ap (λ (k : ℕ). items_from_place text s' k m) e) ∙ g.own;
      kept = λ t _ _.
          items_front text s' (back s' at t) n at
          (take_at (take at s') (t ++ drop (length s' - at) (drop at s')) at (simp length-take (omega (arith, e, fits, g.same_length))))
          (omega (arith, e))
          ∙ g.same_items;
    }

-- or that of all items itself
pub own_all : (text s : List ℕ) (n part : ℕ) → table_end n + table_end n ≤ length s → OwnItems text s n part s (record { at = 0; count = n })
own_all text s n part fits =
    let whole : lent s 0 ≡ s = take_all (length s - 0) s (omega arith) in
    record {
      same_length = refl;
      inside = omega arith;
      room = omega arith;
      own = ap (λ (x : List ℕ). items_of part (items_in text x n)) whole;
      kept = λ t _ e.
          ap (λ (x : List ℕ). items_in text (t ++ x) n) (drop_of_length-le s {i = length s - 0} (omega arith))
          ∙ ap (λ (x : List ℕ). items_in text x n) (append-nil t)
          ∙ e
          ∙ ap (λ (x : List ℕ). items_in text x n) whole;
    }
