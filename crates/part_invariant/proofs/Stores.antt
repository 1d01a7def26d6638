-- WRITES INTO ONE TABLE leave the others: one law for each kind of write, over heads, notes, pitches and scopes.
use Prim.Native.Nat.{ℕ, ◌+◌, ◌*◌, ◌≤◌, ◌<◌}
use mathlib.Core.Path.{◌≡◌, sym, ap, ◌∙◌}
use mathlib.Core.List.{List, [], ◌∷◌, ◌++◌}
use native.Mathlib.Omega.{arith}
use lib.ListN.{length, get_or, length-append}
use Rattle.laws.specs.Bytes.{splice}
use Rattle.laws.specs.Lists.{alter_at}
use Rattle.laws.proofs.Lists.{length_alter_at}
use Rattle.standard.specs.Pitches.{Pitch}
use Rattle.reader.specs.State.{Note}
use Rattle.reader.specs.Records.{pitch_bytes, measure_width}
use Rattle.part_layout.specs.Log.{Head}
use Rattle.part_rows.specs.Table.{Only}
use Rattle.part_rows.specs.Encoded.{note_row, note_row_width, pitch_row_width}
use Rattle.part_rows.proofs.Bytes.{length_note, length_pitch}
use Rattle.part_rows.proofs.Tables.{table_before, table_behind, table_push, table_alter, only_splice}
use Rattle.part_measures.specs.Heads.{head_row}
use Rattle.part_measures.proofs.Heads.{length_head}
use Rattle.part_registers.specs.declared.Tables.{Tables}
use Rattle.part_registers.specs.declared.Counts.{Counts}
use Rattle.part_invariant.specs.Invariant.{Room, Stored}

-- other counts
abbrev pub with_heads : Counts → ℕ → Counts
with_heads c n = record { heads = n; notes = c.notes; pitches = c.pitches; scopes = c.scopes }

abbrev pub with_notes : Counts → ℕ → Counts
with_notes c n = record { heads = c.heads; notes = n; pitches = c.pitches; scopes = c.scopes }

abbrev pub with_pitches : Counts → ℕ → Counts
with_pitches c n = record { heads = c.heads; notes = c.notes; pitches = n; scopes = c.scopes }

module _ {t : Tables} {c : Counts} {s : List ℕ} {heads : List Head} {log : List (ℕ × Note)} {ps : List Pitch} (h : Stored t c s heads log ps) (s' : List ℕ) where
  -- HEADS
  module _ {n p a : ℕ} (room : Room t c (length s) 0 n p a) (i f : ℕ) (bs : List ℕ) (g : Head → Head) (d : Head) (e : s' ≡ splice s (t.heads + measure_width * i + f) bs) (l : i < length heads) (k : f + length bs ≤ measure_width)
      (q : splice (head_row (get_or heads i d)) f bs ≡ head_row (g (get_or heads i d))) where
    pub head_altered : Stored t c s' (alter_at i g heads) log ps
    head_altered =
        let e' : t.heads + measure_width * i + f ≡ t.heads + (measure_width * i + f) = omega arith in
        record {
          heads_table = table_alter head_row measure_width length_head h.heads_table s' i f bs g d (e ∙ ap (λ (m : ℕ). splice s m bs) e') l k q;
          notes_table = table_behind h.notes_table s' _ bs e (omega (arith, room.for_heads, h.heads_are));
          pitches_table = table_behind h.pitches_table s' _ bs e (omega (arith, room.for_heads, room.for_notes, h.heads_are));
          heads_are = h.heads_are ∙ sym (length_alter_at i g heads);
          notes_are = h.notes_are;
          pitches_are = h.pitches_are;
        }

    pub head_only : Only t.heads t.end s s'
    head_only = only_splice t.heads t.end s s' _ bs e (omega arith) (omega (arith, room.for_heads, room.for_notes, room.for_pitches, room.for_scopes, h.heads_are))

  module _ {n p a : ℕ} (room : Room t c (length s) 1 n p a) (m : Head) (bs : List ℕ) (b : bs ≡ head_row m) (e : s' ≡ splice s (t.heads + measure_width * c.heads) bs) where
    pub head_pushed : Stored t (with_heads c (c.heads + 1)) s' (heads ++ (m ∷ [])) log ps
    head_pushed =
        let w : length bs ≡ measure_width = ap length b ∙ length_head m in
        record {
          heads_table =
              table_push head_row measure_width length_head h.heads_table s' m (e ∙ ap (λ (k : ℕ). splice s (t.heads + measure_width * k) bs) h.heads_are ∙ ap (splice s (t.heads + measure_width * length heads)) b)
              (omega (arith, room.for_heads, room.for_notes, room.for_pitches, room.for_scopes, room.ends, h.heads_are));
          notes_table = table_behind h.notes_table s' _ bs e (omega (arith, room.for_heads, w));
          pitches_table = table_behind h.pitches_table s' _ bs e (omega (arith, room.for_heads, room.for_notes, w));
          heads_are = omega (arith, h.heads_are, length-append heads (m ∷ []));
          notes_are = h.notes_are;
          pitches_are = h.pitches_are;
        }

    pub head_pushed_only : Only t.heads t.end s s'
    head_pushed_only =
        only_splice t.heads t.end s s' _ bs e (omega arith) (omega (arith, room.for_heads, room.for_notes, room.for_pitches, room.for_scopes, ap length b, length_head m))

  -- NOTES
  module _ {m p a : ℕ} (room : Room t c (length s) m 0 p a) (i f : ℕ) (bs : List ℕ) (g : ℕ × Note → ℕ × Note) (d : ℕ × Note) (e : s' ≡ splice s (t.notes + note_row_width * i + f) bs) (l : i < length log)
      (k : f + length bs ≤ note_row_width) (q : splice (note_row (get_or log i d)) f bs ≡ note_row (g (get_or log i d))) where
    pub note_altered : Stored t c s' heads (alter_at i g log) ps
    note_altered =
        let e' : t.notes + note_row_width * i + f ≡ t.notes + (note_row_width * i + f) = omega arith in
        record {
          heads_table = table_before h.heads_table s' _ bs e (omega (arith, room.for_heads, h.heads_are));
          notes_table = table_alter note_row note_row_width length_note h.notes_table s' i f bs g d (e ∙ ap (λ (j : ℕ). splice s j bs) e') l k q;
          pitches_table = table_behind h.pitches_table s' _ bs e (omega (arith, room.for_notes, h.notes_are));
          heads_are = h.heads_are;
          notes_are = h.notes_are ∙ sym (length_alter_at i g log);
          pitches_are = h.pitches_are;
        }

    pub note_only : Only t.heads t.end s s'
    note_only =
        only_splice t.heads t.end s s' _ bs e (omega (arith, room.for_heads)) (omega (arith, room.for_notes, room.for_pitches, room.for_scopes, h.notes_are))

  module _ {m p a : ℕ} (room : Room t c (length s) m 1 p a) (x : ℕ × Note) (bs : List ℕ) (b : bs ≡ note_row x) (e : s' ≡ splice s (t.notes + note_row_width * c.notes) bs) where
    pub note_pushed : Stored t (with_notes c (c.notes + 1)) s' heads (log ++ (x ∷ [])) ps
    note_pushed =
        let w : length bs ≡ note_row_width = ap length b ∙ length_note x in
        record {
          heads_table = table_before h.heads_table s' _ bs e (omega (arith, room.for_heads, h.heads_are));
          notes_table =
              table_push note_row note_row_width length_note h.notes_table s' x (e ∙ ap (λ (k : ℕ). splice s (t.notes + note_row_width * k) bs) h.notes_are ∙ ap (splice s (t.notes + note_row_width * length log)) b)
              (omega (arith, room.for_notes, room.for_pitches, room.for_scopes, room.ends, h.notes_are));
          pitches_table = table_behind h.pitches_table s' _ bs e (omega (arith, room.for_notes, w));
          heads_are = h.heads_are;
          notes_are = omega (arith, h.notes_are, length-append log (x ∷ []));
          pitches_are = h.pitches_are;
        }

    pub note_pushed_only : Only t.heads t.end s s'
    note_pushed_only =
        only_splice t.heads t.end s s' _ bs e (omega (arith, room.for_heads)) (omega (arith, room.for_notes, room.for_pitches, room.for_scopes, ap length b, length_note x))

  -- PITCHES
  module _ {m n a : ℕ} (room : Room t c (length s) m n 1 a) (x : Pitch) (bs : List ℕ) (b : bs ≡ pitch_bytes x) (e : s' ≡ splice s (t.pitches + pitch_row_width * c.pitches) bs) where
    pub pitch_pushed : Stored t (with_pitches c (c.pitches + 1)) s' heads log (ps ++ (x ∷ []))
    pitch_pushed =
        record {
          heads_table = table_before h.heads_table s' _ bs e (omega (arith, room.for_heads, room.for_notes, h.heads_are));
          notes_table = table_before h.notes_table s' _ bs e (omega (arith, room.for_notes, h.notes_are));
          pitches_table =
              table_push pitch_bytes pitch_row_width length_pitch h.pitches_table s' x (e ∙ ap (λ (k : ℕ). splice s (t.pitches + pitch_row_width * k) bs) h.pitches_are ∙ ap (splice s (t.pitches + pitch_row_width * length ps)) b)
              (omega (arith, room.for_pitches, room.for_scopes, room.ends, h.pitches_are));
          heads_are = h.heads_are;
          notes_are = h.notes_are;
          pitches_are = omega (arith, h.pitches_are, length-append ps (x ∷ []));
        }

    pub pitch_pushed_only : Only t.heads t.end s s'
    pitch_pushed_only =
        only_splice t.heads t.end s s' _ bs e (omega (arith, room.for_heads, room.for_notes)) (omega (arith, room.for_pitches, room.for_scopes, ap length b, length_pitch x))
