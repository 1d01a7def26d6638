-- A LYRIC LINE'S ROW: with its verse and first note it is the same item still, and a part stays represented.
use Prim.Native.Nat.{ℕ, ◌+◌, ◌≤◌}
use mathlib.Core.Path.{◌≡◌, refl}
use mathlib.Core.List.{List, [], ◌∷◌}
use native.Mathlib.Omega.{arith}
use lib.ListN.{length}
use Rattle.laws.specs.Bytes.{splice, le32}
use Rattle.laws.proofs.Numbers.{length_little}
use Rattle.scan_table.specs.Rows.{row_from, item_row_width, b_at, unit_at, with_lyric}
use Rattle.part_layout.specs.Log.{LogState}
use Rattle.part_rows.specs.Table.{Only}
use Rattle.part_rows.proofs.Tables.{table_behind, only_splice, only_then}
use Rattle.part_scopes.proofs.Scopes.{scoped_behind}
use Rattle.part_registers.specs.declared.Tables.{Tables}
use Rattle.part_registers.specs.declared.Registers.{Registers}
use Rattle.part_invariant.specs.Invariant.{Room, Represents}

-- no other byte changed
pub only_lyric : (s : List ℕ) (i verse start : ℕ) → Only (row_from i) (row_from i + item_row_width) s (with_lyric s i verse start)
only_lyric s i verse start =
    let m = splice s (row_from i + b_at) (verse ∷ []) in
    only_then (only_splice (row_from i) (row_from i + item_row_width) s m (row_from i + b_at) (verse ∷ []) refl (omega arith) (omega arith))
    (only_splice (row_from i) (row_from i + item_row_width) m (with_lyric s i verse start) (row_from i + unit_at) (le32 start) refl (omega arith) (omega (arith, length_little 4 start)))

-- A WRITE BEFORE THE TABLES: a part stays represented
module _ {t : Tables} {s : List ℕ} {r : Registers} (room : Room t r.counts (length s) 0 0 0 0) (s' : List ℕ) (k : ℕ) (bs : List ℕ) (e : s' ≡ splice s k bs) (q : k + length bs ≤ t.heads) where
  pub represented_behind : (l : LogState) → Represents t s r [] l → Represents t s' r [] l
  represented_behind l h =
      record {
        stored =
            record {
              heads_table = table_behind h.stored.heads_table s' k bs e q;
              notes_table = table_behind h.stored.notes_table s' k bs e (omega (arith, q, room.for_heads));
              pitches_table = table_behind h.stored.pitches_table s' k bs e (omega (arith, q, room.for_heads, room.for_notes));
              heads_are = h.stored.heads_are;
              notes_are = h.stored.notes_are;
              pitches_are = h.stored.pitches_are;
            };
        scoped = scoped_behind h.scoped s' k bs e (omega (arith, q, room.for_heads, room.for_notes, room.for_pitches));
        key_is = h.key_is;
        last_is = h.last_is;
        pending_is = h.pending_is;
        line_is = h.line_is;
        half_is = h.half_is;
        running_is = h.running_is;
        sounded_is = h.sounded_is;
        sounded_most = h.sounded_most;
        start_is = h.start_is;
        verse_is = h.verse_is;
      }
