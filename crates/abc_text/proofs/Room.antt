-- Room for each part's tables, and the parts one behind the other.
use Prim.Native.Nat.{ℕ, zero, suc, ◌+◌, ◌-◌, ◌≤◌, ◌<◌}
use mathlib.Core.Path.{◌≡◌, refl, ap, ◌∙◌}
use mathlib.Core.List.{List, [], ◌++◌}
use native.Mathlib.Numerals.{add-one}
use native.Mathlib.Omega.{arith}
use lib.ListN.{length, take, drop, length-append, length-take, length-drop}
use Rattle.standard.specs.Keys.{Key}
use Rattle.editions.specs.declared.Edition.{Edition}
use Rattle.reader.specs.Steps.{items_of}
use Rattle.reader.specs.Scan.{Item, Items}
use Rattle.reader.specs.Part.{build}
use Rattle.reader.specs.Records.{sections}
use Rattle.reader.specs.Answer.{scratch_needed}
use Rattle.bounds.proofs.Tables.{part_room}
use Rattle.std.specs.Prelude.{Some, None}
use Rattle.store_sections.specs.Writes.{WroteIs}
use Rattle.store_sections.proofs.Writes.{next_to, next_none, none_more}
use Rattle.scan_table.specs.Rows.{items_in, table_end}
use Rattle.scan_table.proofs.Rows.{length_items}
use Rattle.scan.specs.declared.Shared.{Shared}
use Rattle.scan.specs.Scanned.{Done}
use Rattle.abc_answers.specs.Parts.{parts_of}
use Rattle.part_sizing.specs.Room.{PartRoom}
use Rattle.scan_parts.specs.declared.Own.{Own}
use Rattle.scan_parts.specs.Own.{lent, back, OwnItems}
use Rattle.abc_text.specs.Answers.{Rooms}

-- what the parts' tables need, the scan has left
pub rooms_left : (ed : Edition) (text s : List ℕ) (h : Shared) → Done ed text s h → length text ≤ 67108864 → scratch_needed (length text) ≤ length s → Rooms text s h.items
unfolding scratch_needed
rooms_left ed text s h d short fits =
    let n = length_items text s h.items in
    record {
      fits = λ q. omega (arith, part_room ed text d.state (items_in text s h.items) q d.scanned, n, fits);
      small = λ q. omega (arith, part_room ed text d.state (items_in text s h.items) q d.scanned, n, short);
      short = short;
    }

-- A PART'S OWN ITEMS: the items are still those that the scan left
module _ (text s₀ : List ℕ) (n : ℕ) (h : Rooms text s₀ n) (s : List ℕ) (e : items_in text s n ≡ items_in text s₀ n) (l : length s ≡ length s₀) where
  -- a second line table has room
  pub second_fits : table_end n + table_end n ≤ length s
  second_fits = omega (arith, h.fits 0, l)

  module _ (q : ℕ) (s' : List ℕ) (own : Own) (o : OwnItems text s n q s' own) where
    pub own_inside : own.at ≤ length s'
    own_inside = omega (arith, o.inside, o.same_length)

    -- the part's items
    pub own_items : items_of q (items_in text (lent s' own.at) own.count) ≡ items_of q (items_in text s₀ n)
    own_items = o.own ∙ ap (items_of q) e

    lent_length : length (lent s' own.at) ≡ length s₀ - own.at
    lent_length = simp (length-take, length-drop) (omega (arith, o.same_length, l))

    -- its tables have room
    pub own_room : PartRoom text (lent s' own.at) own.count q
    own_room =
        record {
          fits = rw own_items (omega (arith, h.fits q, o.room, lent_length));
          small = rw own_items (omega (arith, h.small q, o.room));
          short = h.short;
        }

    -- once it is written, scratch is as long and has the items that it had
    pub own_kept : (t : List ℕ) → items_in text t own.count ≡ items_in text (lent s' own.at) own.count → length t ≡ length (lent s' own.at)
        → (length (back s' own.at t) ≡ length s₀) × (items_in text (back s' own.at t) n ≡ items_in text s₀ n)
    own_kept t i k =
        (simp (length-append, length-take, length-drop) (omega (arith, k, lent_length, o.same_length, o.inside, l)), o.kept t k i ∙ e)

-- THE PARTS so far
pub parts_none : (ed : Edition) (k : Key) (a : Items) → parts_of ed k a 0 ≡ []
unfolding parts_of
parts_none ed k a = refl

pub parts_more : (ed : Edition) (k : Key) (a : Items) (n : ℕ) → parts_of ed k a (n + 1) ≡ parts_of ed k a n ++ sections (build ed k (items_of n a))
unfolding parts_of
parts_more ed k a n = rw (add-one n)

-- more parts are no shorter
pub parts_mono : (ed : Edition) (k : Key) (a : Items) (m n : ℕ) → length (parts_of ed k a m) ≤ length (parts_of ed k a (m + n))
parts_mono ed k a m zero = let z : m + 0 ≡ m = omega arith in rw z (omega arith)
parts_mono ed k a m (suc n) =
    let z : m + suc n ≡ (m + n) + 1 = omega arith in
    rw z (omega (arith, parts_mono ed k a m n, ap length (parts_more ed k a (m + n)), length-append (parts_of ed k a (m + n)) (sections (build ed k (items_of (m + n) a)))))

-- a part more behind those that are written
pub one_part : (ed : Edition) {d e f : List ℕ} {at m : ℕ} (k : Key) (a : Items) (is : List Item) (part : ℕ) → WroteIs d (parts_of ed k a part) e (Some at) → is ≡ items_of part a
    → WroteIs (take (length e - at) (drop at e)) (sections (build ed k is)) f (Some m)
    → WroteIs d (parts_of ed k a (part + 1)) (take at e ++ (f ++ drop (length e - at) (drop at e))) (Some (at + m))
one_part ed k a is part h q g = rw (parts_more ed k a part) (next_to h (rw q at g))

-- or no room for it: none for all
pub no_part : (ed : Edition) {d e f : List ℕ} {at : ℕ} (k : Key) (a : Items) (is : List Item) (part count : ℕ) → part < count → WroteIs d (parts_of ed k a part) e (Some at) → is ≡ items_of part a
    → WroteIs (take (length e - at) (drop at e)) (sections (build ed k is)) f None → {z : List ℕ} → WroteIs d (parts_of ed k a count) z None
no_part ed k a is part count l h q g =
    let n : part + 1 + (count - (part + 1)) ≡ count = omega arith in
    none_more (next_none h (rw q at g) {z = []}) (parts_of ed k a count)
    (rw (← parts_more ed k a part) (rw n at (parts_mono ed k a (part + 1) (count - (part + 1)))))
