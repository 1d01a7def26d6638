-- A NOTE APPENDED, from the writes of the code to the definition's `append`.
use Prim.Native.Nat.{ℕ, zero, suc, ◌+◌, ◌-◌, ◌*◌, ◌^◌, ◌≤◌, ◌<◌, min}
use mathlib.Core.Path.{◌≡◌, refl, sym, ap, subst, ◌∙◌}
use mathlib.Core.Bool.{Bool, true, false, cond, ◌&&◌}
use mathlib.Core.List.{List, [], ◌∷◌, ◌++◌, append-nil}
use native.Mathlib.Numerals.{add-one}
use native.Mathlib.Omega.{arith}
use lib.Dec.{eqb}
use borrow.Author.Tests.{ne_eqb}
use lib.ListN.{length, get_or, set, length-append}
use Rattle.laws.specs.Bytes.{splice, le32, little, u32_at}
use Rattle.laws.specs.Lists.{alter_at}
use Rattle.laws.proofs.Bools.{by_test}
use Rattle.laws.proofs.Lists.{alter_at_set}
use Rattle.laws.proofs.Splices.{length_spliced, splice_nil}
use Rattle.standard.specs.Pitches.{Pitch}
use Rattle.standard.specs.Bars.{normal}
use Rattle.standard.specs.Notes as Notes
use Rattle.standard.specs.Notes.{NoteKind, is_sounded}
use Rattle.reader.specs.Codes.{kind_code, beam_code}
use Rattle.reader.specs.State.{Note, Verses, with_beam}
use Rattle.reader.specs.Part.{can_beam, grouped, after_half, counted_in, rest_with}
use Rattle.reader.specs.Records.{measure_width}
use Rattle.part_layout.specs.Log.{Head, LogState, new_head, with_counts, on_last_head, on_open, last_place, at_place, beamed_new, beamed_before, append}
use Rattle.part_layout.specs.Lines.{Standing}
use Rattle.part_rows.specs.declared.NoteRow.{NoteRow}
use Rattle.part_rows.specs.Table.{Only}
use Rattle.part_rows.specs.Encoded.{row_for, row_bytes, note_row, note_row_width, beam_at}
use Rattle.part_rows.proofs.Bytes.{length_note, note_set_beam}
use Rattle.part_rows.proofs.Tables.{table_u32, only_splice, only_then}
use Rattle.part_measures.specs.Heads.{head_row}
use Rattle.part_measures.proofs.Heads.{length_head, head_count, head_counted}
use Rattle.part_scopes.proofs.Scopes.{scoped_behind}
use Rattle.part_registers.specs.declared.Tables.{Tables}
use Rattle.part_registers.specs.declared.Counts.{Counts}
use Rattle.part_registers.specs.declared.Line.{Line}
use Rattle.part_registers.specs.declared.Registers.{Registers}
use Rattle.part_registers.specs.Notes.{run_again, fewer, grouped_row, beamed_row, halved_row}
use Rattle.part_registers.specs.States.{half_for, line_for}
use Rattle.part_registers.proofs.Notes.{beams_is, run_is, fewer_is, grouped_is, beamed_is, half_is}
use Rattle.part_invariant.specs.Invariant.{Room, Stored, pitches_in, Represents, Appendable, Appends}
use Rattle.part_invariant.specs.Appended.{before_store, ran_on, sounded_on, appended}
use Rattle.part_invariant.proofs.Stores.{with_notes, head_altered, note_altered, note_pushed, note_pushed_only}
use Rattle.part_invariant.proofs.Logs.{last_head, count_most, counts_4, place_same, place_at, place_pitches, more_pitches, before_pitches, final_pitches}

abbrev pub some_note : ℕ × Note
some_note = (0, rest_with Notes.rest 0 0)

abbrev pub some_head : Head
some_head = new_head (4, 4) normal

-- the same room in a store of the same length
pub room_same : {t : Tables} {c : Counts} {n m h k p a : ℕ} → m ≡ n → Room t c n h k p a → Room t c m h k p a
room_same {t} {c} {n} {m} {h} {k} {p} {a} e r = subst (λ (x : ℕ). Room t c x h k p a) (sym e) r

-- the same pitches by another name
pub stored_pitches : {t : Tables} {c : Counts} {s : List ℕ} {hs : List Head} {log : List (ℕ × Note)} {ps qs : List Pitch} → Stored t c s hs log ps → ps ≡ qs → Stored t c s hs log qs
stored_pitches {t} {c} {s} {hs} {log} h e = subst (λ (q : List Pitch). Stored t c s hs log q) e h

-- THE BEAM OF THE LAST NOTE: a write into the notes, or none
pub record Before (t : Tables) (c : Counts) (s s' : List ℕ) (heads : List Head) (log : List (ℕ × Note)) (ps : List Pitch) : Type 0 where
  pub place : ℕ
  pub bytes : List ℕ
  pub is : s' ≡ splice s place bytes
  pub low : t.notes ≤ place
  pub high : place + length bytes ≤ t.pitches
  pub stored : Stored t c s' heads log ps

module _ {t : Tables} {c : Counts} {s : List ℕ} {heads : List Head} {log : List (ℕ × Note)} {ps : List Pitch} {m n p a : ℕ} (h : Stored t c s heads log ps) (room : Room t c (length s) m n p a) where
  nothing_written : (place : ℕ) (f : Note → Note) → ((x : Note) → f x ≡ x) → Before t c s s heads (at_place place f log) ps
  nothing_written place f e =
      record {
        place = t.notes;
        bytes = [];
        is = sym (splice_nil s t.notes);
        low = omega arith;
        high = omega (arith, room.for_notes);
        stored = subst (λ (l : List (ℕ × Note)). Stored t c s heads l ps) (sym (place_same place f e log)) h;
      }

  beam_written : (place : ℕ) (b : Notes.Beam) (f : Note → Note) → ((x : Note) → with_beam b x ≡ f x) → 0 < place → place ≤ length log
      → Before t c s (splice s (t.notes + note_row_width * (place - 1) + beam_at) (beam_code b ∷ [])) heads (at_place place f log) ps
  beam_written place b f e l k =
      let g : ℕ × Note → ℕ × Note = λ x. (x.0, f x.1) in
      let s' = splice s (t.notes + note_row_width * (place - 1) + beam_at) (beam_code b ∷ []) in
      let x = get_or log (place - 1) some_note in
      let room' : Room t c (length s) m 0 p a =
      record { for_heads = room.for_heads; for_notes = omega (arith, room.for_notes); for_pitches = room.for_pitches; for_scopes = room.for_scopes; ends = room.ends; small = room.small } in
      record {
        place = t.notes + note_row_width * (place - 1) + beam_at;
        bytes = beam_code b ∷ [];
        is = refl;
        low = omega arith;
        high = omega (arith, room.for_notes, h.notes_are);
        stored =
            subst (λ (q : List (ℕ × Note)). Stored t c s' heads q ps) (sym (place_at place f log l))
            (note_altered h s' room' (place - 1) beam_at (beam_code b ∷ []) g some_note refl (omega arith) (omega arith) (note_set_beam x b ∙ ap (λ (y : Note). note_row (x.0, y)) (e x.1)));
      }

  run_code : (r : ℕ) → cond (eqb (min 2 (suc r)) 1) 1 2 ≡ beam_code (cond (eqb r 0) Notes.begins Notes.continues)
  unfolding beam_code
  run_code zero = refl
  run_code (suc r) = rw (ne_eqb (min 2 (suc (suc r))) 1 (λ e. omega arith), ne_eqb (suc r) 0 (λ e. omega arith))

  pub before_written : (place r : ℕ) (g : Note) → (0 < r → 0 < place) → place ≤ length log
      → Before t c s (before_store s t.notes place (min 2 r) (kind_code g.kind) g.value) heads (at_place place (beamed_before r g) log) ps
  unfolding before_store beamed_before
  before_written place zero g l k = nothing_written place (beamed_before zero g) (λ x. refl)
  before_written place (suc r) g l k =
      rw (ne_eqb (min 2 (suc r)) 0 (λ e. omega arith), beams_is g.kind g.value, run_code r)
      (by_test (can_beam g)
      (λ y. rw y (beam_written place (cond (eqb r 0) Notes.begins Notes.continues) (beamed_before (suc r) g) (λ x. rw y) (l (omega arith)) k))
      (λ z. rw z (nothing_written place (beamed_before (suc r) g) (λ x. rw z))))

-- THE COUNT OF SOUNDED NOTES
counted_is : (o n : ℕ) (k : NoteKind) (v : Verses) → n ≡ v.sounded → cond (eqb o 0 && eqb (kind_code k) 0) (n + 1) n ≡ cond (eqb o 0 && is_sounded k) (suc v.sounded) v.sounded
unfolding kind_code is_sounded
counted_is o n Notes.sounded v e = by_test (eqb o 0) (λ f. rw f (add-one n ∙ ap suc e)) (λ f. rw f e)
counted_is o n Notes.rest v e = by_test (eqb o 0) (λ f. rw f e) (λ f. rw f e)
counted_is o n Notes.invisible_rest v e = by_test (eqb o 0) (λ f. rw f e) (λ f. rw f e)
counted_is o n Notes.bar_rest v e = by_test (eqb o 0) (λ f. rw f e) (λ f. rw f e)
counted_is o n Notes.invisible_bar_rest v e = by_test (eqb o 0) (λ f. rw f e) (λ f. rw f e)

counted_fields : (o : ℕ) (g : Note) (v : Verses) → ((counted_in o g v).sounded ≡ cond (eqb o 0 && is_sounded g.kind) (suc v.sounded) v.sounded) × ((counted_in o g v).start ≡ v.start) × ((counted_in o g v).verse ≡ v.verse)
unfolding counted_in
counted_fields o g v = by_test (eqb o 0 && is_sounded g.kind) (λ e. rw e (refl, refl, refl)) (λ e. rw e (refl, refl, refl))

sounded_le : (b : Bool) (n : ℕ) → cond b (n + 1) n ≤ n + 1
sounded_le true n = omega arith
sounded_le false n = omega arith

-- APPENDED
module _ {t : Tables} {s : List ℕ} {r : Registers} (room : Room t r.counts (length s) 0 1 0 0) (l : LogState) (n : Note) (st : Standing l) (h : Represents t s r n.pitches l) where
  -- where the voice's last note stands
  pub place_is : get_or r.last r.line.overlay 0 ≡ last_place l
  unfolding last_place
  place_is = ap (λ (ps : List ℕ). get_or ps r.line.overlay 0) h.last_is ∙ ap (λ (x : _). get_or l.last x.overlay 0) h.line_is

  pub place_most : last_place l ≤ length l.log
  unfolding last_place
  place_most = (st.places l.line.overlay st.overlay_4).inside

  pub heads_some : 0 < length l.heads
  heads_some = omega (arith, ap length st.heads_are, length-append st.older (st.open_head ∷ []))

  -- the beam
  pub beam_before : Before t r.counts s (before_store s t.notes (last_place l) (min 2 l.line.run) (kind_code (grouped l.line.tuplet n).kind) (grouped l.line.tuplet n).value)
      l.heads (at_place (last_place l) (beamed_before l.line.run (grouped l.line.tuplet n)) l.log) (pitches_in l.log ++ n.pitches)
  beam_before = before_written h.stored room (last_place l) l.line.run (grouped l.line.tuplet n) st.run_has_note place_most

  -- the pitches of the log after it
  pitches_after : pitches_in l.log ++ n.pitches
      ≡ pitches_in (at_place (last_place l) (beamed_before l.line.run (grouped l.line.tuplet n)) l.log ++ ((l.line.overlay, after_half l.line.half (beamed_new l.line.run (grouped l.line.tuplet n))) ∷ [])) ++ []
  pitches_after =
      let before = at_place (last_place l) (beamed_before l.line.run (grouped l.line.tuplet n)) l.log in
      let x : ℕ × Note = (l.line.overlay, after_half l.line.half (beamed_new l.line.run (grouped l.line.tuplet n))) in
      sym (append-nil (pitches_in (before ++ (x ∷ []))) ∙ more_pitches before x
      ∙ ap (λ (q : List Pitch). q ++ x.1.pitches) (place_pitches (last_place l) (beamed_before l.line.run (grouped l.line.tuplet n)) (before_pitches l.line.run (grouped l.line.tuplet n)) l.log)
      ∙ ap (λ (q : List Pitch). pitches_in l.log ++ q) (final_pitches l.line.tuplet l.line.run l.line.half n))

  module _ (s₁ s₂ : List ℕ) (e₁ : s₁ ≡ before_store s t.notes (last_place l) (min 2 l.line.run) (kind_code (grouped l.line.tuplet n).kind) (grouped l.line.tuplet n).value) (row : NoteRow)
      (row_is : row ≡ row_for (after_half l.line.half (beamed_new l.line.run (grouped l.line.tuplet n)))) (e₂ : s₂ ≡ splice s₁ (t.notes + note_row_width * r.counts.notes) (row_bytes row l.line.overlay)) where
    B : Before t r.counts s s₁ l.heads (at_place (last_place l) (beamed_before l.line.run (grouped l.line.tuplet n)) l.log) (pitches_in l.log ++ n.pitches)
    B = subst (λ (q : List ℕ). Before t r.counts s q l.heads (at_place (last_place l) (beamed_before l.line.run (grouped l.line.tuplet n)) l.log) (pitches_in l.log ++ n.pitches)) (sym e₁) beam_before

    length₁ : length s₁ ≡ length s
    length₁ = length_spliced s s₁ _ _ B.is

    length₂ : length s₂ ≡ length s
    length₂ = length_spliced s₁ s₂ _ _ e₂ ∙ length₁

    written₂ : Stored t (with_notes r.counts (r.counts.notes + 1)) s₂ l.heads
        (at_place (last_place l) (beamed_before l.line.run (grouped l.line.tuplet n)) l.log ++ ((l.line.overlay, after_half l.line.half (beamed_new l.line.run (grouped l.line.tuplet n))) ∷ []))
        (pitches_in l.log ++ n.pitches)
    written₂ = note_pushed B.stored s₂ (room_same length₁ room) _ (row_bytes row l.line.overlay) (ap (λ (q : NoteRow). row_bytes q l.line.overlay) row_is) e₂

    room₂ : Room t (with_notes r.counts (r.counts.notes + 1)) (length s₂) 0 0 0 0
    room₂ =
        record {
          for_heads = room.for_heads;
          for_notes = omega (arith, room.for_notes);
          for_pitches = room.for_pitches;
          for_scopes = room.for_scopes;
          ends = omega (arith, room.ends, length₂);
          small = room.small;
        }

    i_in : r.counts.heads - 1 < length l.heads
    i_in = omega (arith, heads_some, h.stored.heads_are)

    count_is : u32_at s₂ (t.heads + measure_width * (r.counts.heads - 1) + 4 * l.line.overlay) ≡ get_or (get_or l.heads (r.counts.heads - 1) some_head).counts l.line.overlay 0
    count_is =
        table_u32 head_row measure_width length_head written₂.heads_table (r.counts.heads - 1) (4 * l.line.overlay) some_head i_in (omega (arith, st.overlay_4))
        ∙ head_count (get_or l.heads (r.counts.heads - 1) some_head) l.line.overlay st.overlay_4
        (omega (arith, count_most l st (r.counts.heads - 1) l.line.overlay some_head i_in, h.stored.notes_are, room.for_notes, room.for_pitches, room.for_scopes, room.small))

    pub count_small : u32_at s₂ (t.heads + measure_width * (r.counts.heads - 1) + 4 * l.line.overlay) + 1 < 2 ^ 32
    count_small =
        omega (arith, count_is, count_most l st (r.counts.heads - 1) l.line.overlay some_head i_in, h.stored.notes_are, room.for_notes, room.for_pitches, room.for_scopes, room.small)

    bytes_4 : (v : ℕ) → length (le32 v) ≡ 4
    unfolding little
    bytes_4 v = refl

    module _ (s₃ : List ℕ)
        (e₃ : s₃ ≡ splice s₂ (t.heads + measure_width * (r.counts.heads - 1) + 4 * l.line.overlay) (le32 (suc (u32_at s₂ (t.heads + measure_width * (r.counts.heads - 1) + 4 * l.line.overlay))))) where
      written₃ : Stored t (with_notes r.counts (r.counts.notes + 1)) s₃ (on_last_head (λ m. with_counts (alter_at l.line.overlay suc m.counts) m) l.heads)
          (at_place (last_place l) (beamed_before l.line.run (grouped l.line.tuplet n)) l.log ++ ((l.line.overlay, after_half l.line.half (beamed_new l.line.run (grouped l.line.tuplet n))) ∷ []))
          (pitches_in l.log ++ n.pitches)
      written₃ =
          let f : Head → Head = λ m. with_counts (alter_at l.line.overlay suc m.counts) m in
          let k : r.counts.heads - 1 ≡ length l.heads - 1 = omega (arith, h.stored.heads_are) in
          let y = get_or l.heads (r.counts.heads - 1) some_head in
          let bs = le32 (suc (u32_at s₂ (t.heads + measure_width * (r.counts.heads - 1) + 4 * l.line.overlay))) in
          subst
          (λ (hs : List Head).
          Stored t (with_notes r.counts (r.counts.notes + 1)) s₃ hs
          (at_place (last_place l) (beamed_before l.line.run (grouped l.line.tuplet n)) l.log ++ ((l.line.overlay, after_half l.line.half (beamed_new l.line.run (grouped l.line.tuplet n))) ∷ []))
          (pitches_in l.log ++ n.pitches))
          (ap (λ (j : ℕ). alter_at j f l.heads) k ∙ sym (last_head f l.heads heads_some))
          (head_altered written₂ s₃ room₂ (r.counts.heads - 1) (4 * l.line.overlay) bs f some_head e₃ i_in (omega (arith, st.overlay_4, bytes_4 (suc (u32_at s₂ (t.heads + measure_width * (r.counts.heads - 1) + 4 * l.line.overlay)))))
          (ap (λ (v : ℕ). splice (head_row y) (4 * l.line.overlay) (le32 (suc v))) count_is ∙ head_counted y l.line.overlay st.overlay_4 (counts_4 l st (r.counts.heads - 1) some_head i_in)))

      pub append_only : Only t.heads t.end s s₃
      append_only =
          only_then (only_splice t.heads t.end s s₁ _ _ B.is (omega (arith, B.low, room.for_heads)) (omega (arith, B.high, room.for_pitches, room.for_scopes)))
          (only_then (note_pushed_only B.stored s₂ (room_same length₁ room) (l.line.overlay, after_half l.line.half (beamed_new l.line.run (grouped l.line.tuplet n))) (row_bytes row l.line.overlay) (ap (λ (q : NoteRow). row_bytes q l.line.overlay) row_is) e₂)
          (only_splice t.heads t.end s₂ s₃ _ _ e₃ (omega arith) (omega (arith, i_in, h.stored.heads_are, st.overlay_4, bytes_4 (suc (u32_at s₂ (t.heads + measure_width * (r.counts.heads - 1) + 4 * l.line.overlay))), room.for_heads, room.for_notes, room.for_pitches, room.for_scopes))))

      pub append_represented : Represents t s₃ (appended r (kind_code (grouped l.line.tuplet n).kind) (grouped l.line.tuplet n).value) [] (append n l)
      unfolding append on_open sounded_on
      append_represented =
          let v = counted_fields l.line.overlay (grouped l.line.tuplet n) l.verses in
          let ov : r.line.overlay ≡ l.line.overlay = ap (λ (y : _). y.overlay) h.line_is in
          record {
            stored = stored_pitches written₃ pitches_after;
            scoped =
                scoped_behind
                (scoped_behind (scoped_behind h.scoped s₁ _ _ B.is (omega (arith, B.high, room.for_pitches))) s₂ _ _ e₂
                (omega (arith, room.for_notes, room.for_pitches, ap (λ (q : NoteRow). length (row_bytes q l.line.overlay)) row_is, length_note (l.line.overlay, after_half l.line.half (beamed_new l.line.run (grouped l.line.tuplet n))))))
                s₃ _ _ e₃ (omega (arith, i_in, h.stored.heads_are, st.overlay_4, bytes_4 (suc (u32_at s₂ (t.heads + measure_width * (r.counts.heads - 1) + 4 * l.line.overlay))), room.for_heads, room.for_notes, room.for_pitches));
            key_is = h.key_is;
            last_is =
                ap (λ (ps : List ℕ). set ps r.line.overlay (r.counts.notes + 1)) h.last_is ∙ ap (λ (k : ℕ). set l.last k (r.counts.notes + 1)) ov
                ∙ ap (λ (k : ℕ). set l.last l.line.overlay k) (add-one r.counts.notes ∙ ap suc h.stored.notes_are) ∙ sym (alter_at_set l.line.overlay (λ old. suc (length l.log)) l.last 0);
            pending_is = h.pending_is;
            line_is =
                ap (λ (y : Line). ran_on y (run_again y.run (kind_code (grouped l.line.tuplet n).kind) (grouped l.line.tuplet n).value)) h.line_is
                ∙ ap (ran_on (line_for l.line)) (run_is l.line.run (grouped l.line.tuplet n));
            half_is = refl;
            running_is = ap fewer h.running_is ∙ fewer_is l.line.tuplet;
            sounded_is =
                ap (λ (k : ℕ). cond (eqb k 0 && eqb (kind_code (grouped l.line.tuplet n).kind) 0) (r.verses.sounded + 1) r.verses.sounded) ov
                ∙ counted_is l.line.overlay r.verses.sounded (grouped l.line.tuplet n).kind l.verses h.sounded_is ∙ sym v.0;
            sounded_most =
                omega (arith, h.sounded_most, sounded_le (eqb r.line.overlay 0 && eqb (kind_code (grouped l.line.tuplet n).kind) 0) r.verses.sounded);
            start_is = h.start_is ∙ sym v.1;
            verse_is = h.verse_is ∙ sym v.2;
          }

-- FROM THE CODE'S VALUES
-- the note in its tuplet, and as it is written
abbrev pub in_tuplet : Registers → NoteRow → NoteRow
in_tuplet r n = grouped_row r.tuplet n

abbrev pub as_written : Registers → NoteRow → NoteRow
as_written r n = halved_row r.half (beamed_row r.line.run (in_tuplet r n))

module _ {t : Tables} {s : List ℕ} {r : Registers} {n : NoteRow} (l : LogState) (m : Note) (e : n ≡ row_for m) (h : Represents t s r m.pitches l) where
  tuplet_row : in_tuplet r n ≡ row_for (grouped l.line.tuplet m)
  tuplet_row = (λ i. grouped_row (h.running_is i) (e i)) ∙ grouped_is l.line.tuplet m

  run_row : r.line.run ≡ min 2 l.line.run
  run_row = ap (λ (x : Line). x.run) h.line_is

  overlay_row : r.line.overlay ≡ l.line.overlay
  overlay_row = ap (λ (x : Line). x.overlay) h.line_is

  written_row : as_written r n ≡ row_for (after_half l.line.half (beamed_new l.line.run (grouped l.line.tuplet m)))
  written_row =
      (λ i. halved_row (h.half_is i) (beamed_row (run_row i) (tuplet_row i)))
      ∙ ap (halved_row (half_for l.line.half)) (beamed_is l.line.run (grouped l.line.tuplet m))
      ∙ half_is l.line.half (beamed_new l.line.run (grouped l.line.tuplet m))

module _ {t : Tables} {s : List ℕ} {r : Registers} {n : NoteRow} (room : Room t r.counts (length s) 0 1 0 0) where
  module _ (a : Appendable t s r n) where
    -- what the code asks on the way
    pub append_overlay : r.line.overlay < 4
    append_overlay = omega (arith, a.standing.overlay_4, overlay_row a.state a.note a.row_is a.represents)

    pub append_place : get_or r.last r.line.overlay 0 ≤ r.counts.notes
    append_place = omega (arith, place_is room a.state a.note a.standing a.represents, place_most room a.state a.note a.standing a.represents, a.represents.stored.notes_are)

    pub append_some : 0 < r.line.run → 0 < get_or r.last r.line.overlay 0
    append_some u =
        let k : 0 < a.state.line.run = omega (arith, run_row a.state a.note a.row_is a.represents) in
        omega (arith, place_is room a.state a.note a.standing a.represents, a.standing.run_has_note k)

    pub append_head : 0 < r.counts.heads
    append_head = omega (arith, heads_some room a.state a.note a.standing a.represents, a.represents.stored.heads_are)

  module _ (s₁ s₂ : List ℕ) (e₁ : s₁ ≡ before_store s t.notes (get_or r.last r.line.overlay 0) r.line.run (in_tuplet r n).kind (in_tuplet r n).value)
      (e₂ : s₂ ≡ splice s₁ (t.notes + note_row_width * r.counts.notes) (row_bytes (as_written r n) r.line.overlay)) where
    to₁ : (l : LogState) (m : Note) → Standing l → n ≡ row_for m → Represents t s r m.pitches l
        → s₁ ≡ before_store s t.notes (last_place l) (min 2 l.line.run) (kind_code (grouped l.line.tuplet m).kind) (grouped l.line.tuplet m).value
    to₁ l m st e h =
        e₁ ∙ (λ i. before_store s t.notes (place_is room l m st h i) (run_row l m e h i) (tuplet_row l m e h i).kind (tuplet_row l m e h i).value)

    to₂ : (l : LogState) (m : Note) → n ≡ row_for m → Represents t s r m.pitches l → s₂ ≡ splice s₁ (t.notes + note_row_width * r.counts.notes) (row_bytes (as_written r n) l.line.overlay)
    to₂ l m e h = e₂ ∙ ap (λ (k : ℕ). splice s₁ (t.notes + note_row_width * r.counts.notes) (row_bytes (as_written r n) k)) (overlay_row l m e h)

    pub append_small : Appendable t s r n → u32_at s₂ (t.heads + measure_width * (r.counts.heads - 1) + 4 * r.line.overlay) + 1 < 2 ^ 32
    append_small a =
        subst (λ (k : ℕ). u32_at s₂ (t.heads + measure_width * (r.counts.heads - 1) + 4 * k) + 1 < 2 ^ 32) (sym (overlay_row a.state a.note a.row_is a.represents))
        (count_small room a.state a.note a.standing a.represents s₁ s₂ (to₁ a.state a.note a.standing a.row_is a.represents) (as_written r n) (written_row a.state a.note a.row_is a.represents)
        (to₂ a.state a.note a.row_is a.represents))

    module _ (s₃ : List ℕ)
        (e₃ : s₃ ≡ splice s₂ (t.heads + measure_width * (r.counts.heads - 1) + 4 * r.line.overlay) (le32 (suc (u32_at s₂ (t.heads + measure_width * (r.counts.heads - 1) + 4 * r.line.overlay))))) where
      to₃ : (l : LogState) (m : Note) → n ≡ row_for m → Represents t s r m.pitches l
          → s₃ ≡ splice s₂ (t.heads + measure_width * (r.counts.heads - 1) + 4 * l.line.overlay) (le32 (suc (u32_at s₂ (t.heads + measure_width * (r.counts.heads - 1) + 4 * l.line.overlay))))
      to₃ l m e h =
          e₃ ∙ ap (λ (k : ℕ). splice s₂ (t.heads + measure_width * (r.counts.heads - 1) + 4 * k) (le32 (suc (u32_at s₂ (t.heads + measure_width * (r.counts.heads - 1) + 4 * k))))) (overlay_row l m e h)

      pub appends : Appendable t s r n → (r' : Registers) → r' ≡ appended r (in_tuplet r n).kind (in_tuplet r n).value → Appends t s r s₃ r' n
      appends a r' d =
          record {
            only =
                append_only room a.state a.note a.standing a.represents s₁ s₂ (to₁ a.state a.note a.standing a.row_is a.represents) (as_written r n)
                (written_row a.state a.note a.row_is a.represents) (to₂ a.state a.note a.row_is a.represents) s₃ (to₃ a.state a.note a.row_is a.represents);
            grows =
                record {
                  more_heads = omega (arith, ap (λ (x : Registers). x.counts.heads) d);
                  more_notes = omega (arith, ap (λ (x : Registers). x.counts.notes) d);
                  more_pitches = omega (arith, ap (λ (x : Registers). x.counts.pitches) d);
                  more_scopes = omega (arith, ap (λ (x : Registers). x.counts.scopes) d);
                };
            holds =
                λ l m st e h. subst (λ (x : Registers). Represents t s₃ x [] (append m l)) (sym (d ∙ (λ i. appended r (tuplet_row l m e h i).kind (tuplet_row l m e h i).value)))
                (append_represented room l m st h s₁ s₂ (to₁ l m st e h) (as_written r n) (written_row l m e h) (to₂ l m e h) s₃ (to₃ l m e h));
          }
