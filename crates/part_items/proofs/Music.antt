-- THE ROOM FOR MUSIC that is to come, item by item.
use Prim.Native.Nat.{ℕ}
use mathlib.Core.Path.{◌≡◌, ap, ◌∙◌}
use mathlib.Core.List.{List, ◌++◌, map}
use native.Mathlib.Omega.{arith}
use Rattle.laws.specs.Lists.{concat}
use Rattle.laws.proofs.Lists.{map_append, concat_append}
use Rattle.reader.specs.Scan.{Item}
use Rattle.capacity.specs.Music.{music_in, music_of}
use Rattle.capacity.proofs.Tokens.{bars_both, letters_both, rests_both, signs_both}
use Rattle.part_registers.specs.declared.Tables.{Tables}
use Rattle.part_registers.specs.declared.Counts.{Counts}
use Rattle.part_invariant.specs.Invariant.{Room}
use Rattle.part_invariant.specs.Lines.{RoomForBytes, GrowsBy}

-- the music of two lists of items
pub music_append : (xs ys : List Item) → music_of (xs ++ ys) ≡ music_of xs ++ music_of ys
music_append xs ys = ap concat (map_append music_in xs ys) ∙ concat_append (map music_in xs) (map music_in ys)

-- ROOM
module _ {t : Tables} {c : Counts} {size : ℕ} (a b : List ℕ) (r : RoomForBytes t c size (a ++ b)) where
  -- for the first of two runs
  pub rest_first : RoomForBytes t c size a
  rest_first =
      record {
        for_heads = omega (arith, r.for_heads, bars_both a b);
        for_notes = omega (arith, r.for_notes, letters_both a b, rests_both a b);
        for_pitches = omega (arith, r.for_pitches, letters_both a b);
        for_scopes = omega (arith, r.for_scopes, signs_both a b);
        ends = r.ends;
        small = r.small;
      }

  -- for the second, once the first was read
  pub rest_then : (c' : Counts) (size' : ℕ) → size' ≡ size → GrowsBy c c' a → RoomForBytes t c' size' b
  rest_then c' size' e g =
      record {
        for_heads = omega (arith, r.for_heads, bars_both a b, g.more_heads);
        for_notes = omega (arith, r.for_notes, letters_both a b, rests_both a b, g.more_notes);
        for_pitches = omega (arith, r.for_pitches, letters_both a b, g.more_pitches);
        for_scopes = omega (arith, r.for_scopes, signs_both a b, g.more_scopes);
        ends = omega (arith, r.ends, e);
        small = r.small;
      }

-- a run by another name
pub rest_as_lem : {t : Tables} {c : Counts} {size : ℕ} {a b : List ℕ} → a ≡ b → RoomForBytes t c size a → RoomForBytes t c size b
rest_as_lem e r = rw e at r

-- in each table, for no row more
pub rest_room : {t : Tables} {c : Counts} {size : ℕ} {a : List ℕ} → RoomForBytes t c size a → Room t c size 0 0 0 0
rest_room r =
    record {
      for_heads = omega (arith, r.for_heads);
      for_notes = omega (arith, r.for_notes);
      for_pitches = omega (arith, r.for_pitches);
      for_scopes = omega (arith, r.for_scopes);
      ends = r.ends;
      small = r.small;
    }

-- nothing grows
pub grows_none : (c : Counts) (a : List ℕ) → GrowsBy c c a
grows_none c a = record { more_heads = omega arith; more_notes = omega arith; more_pitches = omega arith; more_scopes = omega arith }
