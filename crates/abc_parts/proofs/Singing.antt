-- A PART'S LYRICS SUNG, the stops of its notes before them where the edition asks for them.
use Prim.Native.Nat.{ℕ, ◌+◌, ◌*◌}
use mathlib.Core.Path.{◌≡◌, ap, ◌∙◌}
use mathlib.Core.List.{List, []}
use native.Mathlib.Omega.{arith}
use lib.ListN.{replicate}
use Rattle.editions.specs.declared.Edition.{Edition}
use Rattle.editions.specs.declared.Edition.TheVariants.{First, Second}
use Rattle.reader.specs.State as reader
use Rattle.reader.specs.State.{Note}
use Rattle.part_layout.specs.Log.{Head}
use Rattle.reader.specs.Lyrics.{sung_in}
use Rattle.part_layout.specs.Ends.{takers_in}
use Rattle.part_rows.specs.Table.{Only}
use Rattle.part_rows.proofs.Tables.{only_none, only_wider, only_then}
use Rattle.part_registers.specs.declared.Tables.{Tables}
use Rattle.part_stops.specs.Stops.{InTable, Stopped}
use Rattle.lyrics.specs.Sheet.{lyric_stop_width, lyric_row_width}
use Rattle.lyrics.specs.Items.{lines_in, rows_of, Fits}
use Rattle.lyrics.proofs.Items.{lines_front}
use Rattle.lyric_stops.specs.declared.Stops.{Stops}
use Rattle.lyric_lines.specs.Lines.{Known}
use Rattle.lyric_items.specs.Items.{AllSung}
use Rattle.write_notes.specs.declared.PartTables.{PartTables}
use Rattle.abc_parts.specs.declared.Ended.{Ended}
use Rattle.abc_parts.specs.Parts.{sheet_at, stops_at, HoldsNotes, PartSung}

-- THE STOPS OF ITS NOTES ARE WRITTEN, where the edition asks for them
pub record StopsPut (ed : Edition) (s s' : List ℕ) (d : PartTables) (t : Stops) : Type 0 where
  pub only : InTable t s s'
  pub known : (ms : List Head) (log : List (ℕ × Note)) → HoldsNotes s d ms log → Known ed s' t (takers_in 0 ms log)

-- none in the first edition
pub put_first : (s : List ℕ) (d : PartTables) (t : Stops) → StopsPut First s s d t
put_first s d t = record { only = only_none t.at (t.at + lyric_stop_width * t.count) s; known = λ ms log x. tt }

pub put_second : (s s' : List ℕ) (d : PartTables) (t : Stops) → Stopped s s' d.measures.at d.measures.count d.notes.at t → StopsPut Second s s' d t
put_second s s' d t x = record { only = x.only; known = x.stops }

module _ (ed : Edition) (text s : List ℕ) (n p : ℕ) (t : Tables) (d : Ended) (f : Fits text s n p (sheet_at t d.sounded 0)) (s₁ : List ℕ) (x : StopsPut ed s s₁ d.tables (stops_at t d.sounded)) where
  -- the lines are as they were
  same_lines : lines_in text s₁ p n ≡ lines_in text s p n
  same_lines = lines_front text s s₁ p n (stops_at t d.sounded).at x.only.front (omega (arith, f.before_heads))

  pub put_fits : Fits text s₁ n p (sheet_at t d.sounded 0)
  put_fits =
      record {
        before_heads = f.before_heads;
        apart = f.apart;
        short = f.short;
        inside = omega (arith, f.inside, ap rows_of same_lines, x.only.same_length);
        few = omega (arith, f.few, ap rows_of same_lines);
      }

  pub part_sung : (s' : List ℕ) (c : ℕ) → AllSung ed text s₁ s' n p (sheet_at t d.sounded 0) (replicate d.sounded []) c → PartSung ed text s s' n p t d c
  part_sung s' c u =
      let h = sheet_at t d.sounded c in
      let o : Only t.scopes (h.log + lyric_row_width * c) s s' =
      only_then (only_wider x.only t.scopes (h.log + lyric_row_width * c) (omega arith) (omega arith)) (record { same_length = u.outside.same_length; front = u.outside.low; back = u.outside.high }) in
      record {
        kept = u.kept;
        sung = λ ms log z. u.sung (takers_in 0 ms log) (x.known ms log z) ∙ ap (λ (ls : List reader.Sung). sung_in ed (takers_in 0 ms log) ls (replicate d.sounded [])) same_lines;
        room = omega (arith, u.room, ap rows_of same_lines);
        outside = record { same_length = o.same_length; low = o.front; high = o.back };
      }
