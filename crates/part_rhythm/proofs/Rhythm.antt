-- THE VOICE'S LAST NOTE CHANGED, from the code's writes to the definition's `on_broken` and `on_nothing`.
use Rattle.std.specs.Prelude as code
use Rattle.std.specs.Prelude.{None, Some, is_some, is_none, unwrap_or}
use Prim.Native.Nat.{ℕ, zero, suc, ◌+◌, ◌-◌, ◌*◌, ◌≤◌, ◌<◌, min}
use mathlib.Core.Path.{◌≡◌, refl, sym, ap, subst, ◌∙◌}
use mathlib.Core.Bool.{Bool, true, false, not}
use mathlib.Core.Option.{Option, none, some}
use mathlib.Core.List.{List, [], ◌∷◌, ◌++◌}
use native.Mathlib.Nat.{add-zero, not-suc-le-zero, le_of_suc-le-suc}
use native.Mathlib.Omega.{arith}
use lib.Dec.{eqb}
use borrow.Author.Tests.{eq-eqb, ne_eqb, eqb-true, eqb-false}
use lib.ListN.{length, get_or}
use Rattle.laws.specs.Bytes.{splice}
use Rattle.laws.specs.Lists.{alter_at}
use Rattle.laws.proofs.Bools.{both_true, by_test, cond_false, cond_true}
use Rattle.laws.proofs.Splices.{splice_nil}
use Rattle.standard.specs.Pitches.{Pitch}
use Rattle.standard.specs.Notes as Notes
use Rattle.reader.specs.Codes.{kind_code, beam_code}
use Rattle.reader.specs.Token as token
use Rattle.reader.specs.State.{Note, with_half, with_run}
use Rattle.reader.specs.Part.{can_beam, broken_note, beamed_again, run_after}
use Rattle.part_layout.specs.Log.{LogState, set_line, set_log, last_place, at_place, note_at, on_broken, on_nothing, on_token}
use Rattle.part_layout.specs.Lines.{Standing}
use Rattle.part_rows.specs.declared.NoteRow.{NoteRow}
use Rattle.part_rows.specs.declared.Written.{Written}
use Rattle.part_rows.specs.Table.{Only}
use Rattle.part_rows.specs.Encoded.{row_bytes, note_row, note_row_width, kind_at, value_at, dots_at, beam_at}
use Rattle.part_rows.proofs.Bytes.{length_note, note_kind, note_value, note_dots, note_set_value, note_set_beam}
use Rattle.part_rows.proofs.Tables.{table_byte, only_none, only_splice}
use Rattle.part_scopes.proofs.Scopes.{scoped_behind}
use Rattle.part_registers.specs.declared.Tables.{Tables}
use Rattle.part_registers.specs.declared.Counts.{Counts}
use Rattle.part_registers.specs.declared.Line.{Line}
use Rattle.part_registers.specs.declared.Registers.{Registers}
use Rattle.token_lengths.specs.declared.Length.{Length}
use Rattle.token_lengths.specs.Values.{as_value, broken_length}
use Rattle.part_registers.specs.Notes.{beams, broken_row, length_in, run_again}
use Rattle.part_registers.proofs.Notes.{beams_is, run_is, broken_is}
use Rattle.part_invariant.specs.Invariant.{Room, Stored, Represents, RepresentedInLine, pitches_in, Grows, Simulates}
use Rattle.part_invariant.proofs.Stores.{note_altered}
use Rattle.part_invariant.proofs.Logs.{place_at, place_pitches, broken_pitches}
use Rattle.part_invariant.proofs.Appending.{some_note, stored_pitches}
use Rattle.part_rhythm.specs.Rhythm.{place_of, broken_value, value_bytes, broken_store, broken_in, half_after, again_beam, again_store, again_in, again_run, again_at, run_at, row_of, half_waits, runs}

-- the counts as they are
same_counts : (c : Counts) → Grows c c 0 0 0 0
same_counts c = record { more_heads = omega arith; more_notes = omega arith; more_pitches = omega arith; more_scopes = omega arith }

-- THE PLACE of the last note
module _ {t : Tables} {s : List ℕ} {r : Registers} (l : LogState) (st : Standing l) (h : Represents t s r [] l) where
  place_is : place_of r ≡ last_place l
  unfolding last_place
  place_is = (λ i. get_or (h.last_is i) (h.line_is i).overlay 0)

  place_most : place_of r ≤ length l.log
  unfolding last_place
  place_most = omega (arith, place_is, (st.places l.line.overlay st.overlay_4).inside)

pub overlay_small : {t : Tables} {s : List ℕ} {r : Registers} → RepresentedInLine t s r → r.line.overlay < 4
overlay_small a = omega (arith, a.standing.overlay_4, ap (λ (x : Line). x.overlay) a.represents.line_is)

pub place_small : {t : Tables} {s : List ℕ} {r : Registers} → RepresentedInLine t s r → place_of r ≤ r.counts.notes
place_small a = omega (arith, place_most a.state a.standing a.represents, a.represents.stored.notes_are)

-- the note at a place of the log
note_at_lem : (p : ℕ) (log : List (ℕ × Note)) (d : ℕ × Note) → 0 < p → p ≤ length log → note_at p log ≡ some (get_or log (p - 1) d).1
unfolding note_at
note_at_lem zero log d h k = absurd (not-suc-le-zero h)
note_at_lem (suc i) [] d h k = absurd (not-suc-le-zero k)
note_at_lem (suc zero) (x ∷ xs) d h k = refl
note_at_lem (suc (suc i)) (x ∷ xs) d h k =
    let j : suc (suc i) - 1 ≡ suc (suc i - 1) = omega arith in
    note_at_lem (suc i) xs d (omega arith) (le_of_suc-le-suc k) ∙ ap (λ (m : ℕ). some (get_or (x ∷ xs) m d).1) (sym j)

-- A WRITE INTO THE LAST NOTE'S ROW
module _ {t : Tables} {s : List ℕ} {r : Registers} (room : Room t r.counts (length s) 0 0 0 0) (s' : List ℕ) (f : ℕ) (bs : List ℕ) (e : s' ≡ splice s (t.notes + note_row_width * (place_of r - 1) + f) bs) (k : f + length bs ≤ note_row_width)
    (some : 0 < place_of r) (l : LogState) (st : Standing l) (h : Represents t s r [] l) where
  in_log : place_of r - 1 < length l.log
  in_log = omega (arith, some, place_most l st h)

  pub last_only : Only t.heads t.end s s'
  last_only = only_splice t.heads t.end s s' _ bs e (omega (arith, room.for_heads)) (omega (arith, in_log, h.stored.notes_are, room.for_notes, room.for_pitches, room.for_scopes))

  pub last_represented : (g : Note → Note) → ((x : Note) → (g x).pitches ≡ x.pitches) → splice (note_row (get_or l.log (place_of r - 1) some_note)) f bs ≡ note_row ((get_or l.log (place_of r - 1) some_note).0, g (get_or l.log (place_of r - 1) some_note).1)
      → Represents t s' r [] (set_log (at_place (last_place l) g l.log) l)
  last_represented g p q =
      let to : alter_at (place_of r - 1) (λ (x : ℕ × Note). (x.0, g x.1)) l.log ≡ at_place (last_place l) g l.log =
      sym (place_at (place_of r) g l.log some) ∙ ap (λ (j : ℕ). at_place j g l.log) (place_is l st h) in
      let stored : Stored t r.counts s' l.heads (at_place (last_place l) g l.log) (pitches_in l.log ++ []) =
      subst (λ (q : List (ℕ × Note)). Stored t r.counts s' l.heads q (pitches_in l.log ++ [])) to
      (note_altered h.stored s' room (place_of r - 1) f bs (λ (x : ℕ × Note). (x.0, g x.1)) some_note e in_log k q) in
      record {
        stored = stored_pitches stored (ap (λ (ps : List Pitch). ps ++ []) (sym (place_pitches (last_place l) g p l.log)));
        scoped = scoped_behind h.scoped s' _ bs e (omega (arith, in_log, h.stored.notes_are, room.for_notes, room.for_pitches));
        key_is = h.key_is;
        last_is = h.last_is;
        pending_is = h.pending_is;
        line_is = h.line_is;
        half_is = h.half_is;
        running_is = h.running_is;
        sounded_is = h.sounded_is;
        sounded_most = h.sounded_most;
        start_is = h.start_is;
        verse_is = h.verse_is;
      }

-- THE LAST NOTE READ
module _ {t : Tables} {s : List ℕ} {r : Registers} (some : 0 < place_of r) (l : LogState) (st : Standing l) (h : Represents t s r [] l) where
  byte_is : (k : ℕ) → k < note_row_width → get_or s (t.notes + note_row_width * (place_of r - 1) + k) 0 ≡ get_or (note_row (get_or l.log (place_of r - 1) some_note)) k 0
  byte_is k j = table_byte note_row note_row_width length_note h.stored.notes_table (place_of r - 1) k some_note (omega (arith, some, place_most l st h)) j

  kind_is : get_or s (t.notes + note_row_width * (place_of r - 1)) 0 ≡ kind_code (get_or l.log (place_of r - 1) some_note).1.kind
  kind_is =
      ap (λ (k : ℕ). get_or s k 0) (sym (add-zero (t.notes + note_row_width * (place_of r - 1)))) ∙ byte_is kind_at (omega arith) ∙ note_kind (get_or l.log (place_of r - 1) some_note)

  value_is : get_or s (t.notes + note_row_width * (place_of r - 1) + value_at) 0 ≡ (get_or l.log (place_of r - 1) some_note).1.value
  value_is = byte_is value_at (omega arith) ∙ note_value (get_or l.log (place_of r - 1) some_note)

  dots_is : get_or s (t.notes + note_row_width * (place_of r - 1) + dots_at) 0 ≡ (get_or l.log (place_of r - 1) some_note).1.dots
  dots_is = byte_is dots_at (omega arith) ∙ note_dots (get_or l.log (place_of r - 1) some_note)

-- BROKEN RHYTHM
broken_row_lem : (up : Bool) (times : ℕ) (x : ℕ × Note)
    → splice (note_row x) value_at (value_bytes (broken_value up times x.1.value x.1.dots)) ≡ note_row (x.0, broken_note (record { up = up; times = times }) x.1)
unfolding broken_row
broken_row_lem up times x =
    note_set_value x (broken_value up times x.1.value x.1.dots).value (broken_value up times x.1.value x.1.dots).dots
    ∙ ap (λ (q : NoteRow). row_bytes q x.0) (broken_is up times x.1)

-- by the code's writes
pub broken_written : (s : List ℕ) (place : ℕ) (up : Bool) (times : ℕ) (w : Written) → w ≡ record { kind = get_or s place 0; value = get_or s (place + value_at) 0; dots = get_or s (place + dots_at) 0 } → (n : Length)
    → n ≡ broken_length up times (length_in w.value w.dots) → (value dots : ℕ) → value ≡ (as_value n).value → dots ≡ (as_value n).dots
    → (s' : List ℕ) → s' ≡ splice s (place + value_at) (value ∷ dots ∷ []) → s' ≡ broken_store s place up times
broken_written s place up times w dw n dn value dots ev ed s' e =
    e ∙ (λ i. splice s (place + value_at) (ev i ∷ ed i ∷ [])) ∙ (λ i. splice s (place + value_at) (value_bytes (as_value (dn i)))) ∙ (λ i. splice s (place + value_at) (value_bytes (broken_value up times (dw i).value (dw i).dots)))

broken_at : (up : Bool) (times p : ℕ) (l : LogState) → 0 < p
    → set_line (with_half (some (record { up = not up; times = times })) l.line) (set_log (at_place p (broken_note (record { up = up; times = times })) l.log) l) ≡ on_broken up times p l
unfolding on_broken
broken_at up times zero l h = absurd (not-suc-le-zero h)
broken_at up times (suc i) l h = refl

waits_represented : {t : Tables} {s : List ℕ} {r : Registers} (up : Bool) (times : ℕ) (l : LogState) → Represents t s r [] l
    → Represents t s (half_waits r (Some (record { up = up; times = times }))) [] (set_line (with_half (some (record { up = up; times = times })) l.line) l)
waits_represented up times l h =
    record {
      stored = h.stored;
      scoped = h.scoped;
      key_is = h.key_is;
      last_is = h.last_is;
      pending_is = h.pending_is;
      line_is = h.line_is;
      half_is = refl;
      running_is = h.running_is;
      sounded_is = h.sounded_is;
      sounded_most = h.sounded_most;
      start_is = h.start_is;
      verse_is = h.verse_is;
    }

module _ {t : Tables} {s : List ℕ} {r : Registers} (room : Room t r.counts (length s) 0 0 0 0) (a : RepresentedInLine t s r) (up : Bool) (times : ℕ) where
  -- no last note
  pub broken_none : place_of r ≡ 0 → Simulates t s r s r 0 0 0 0 (λ l. on_token l (token.broken up times))
  unfolding on_token on_broken
  broken_none z =
      record {
        only = only_none t.heads t.end s;
        grows = same_counts r.counts;
        holds = λ l st h. subst (λ (p : ℕ). Represents t s r [] (on_broken up times p l)) (sym z ∙ place_is l st h) h;
      }

  pub broken_simulates : 0 < place_of r → (s' : List ℕ) → s' ≡ broken_store s (t.notes + note_row_width * (place_of r - 1)) up times
      → Simulates t s r s' (half_waits r (Some (record { up = (not up); times = times }))) 0 0 0 0 (λ l. on_token l (token.broken up times))
  unfolding on_token
  broken_simulates is s' e =
      let place = t.notes + note_row_width * (place_of r - 1) in
      let bytes = value_bytes (broken_value up times (get_or s (place + value_at) 0) (get_or s (place + dots_at) 0)) in
      record {
        only = last_only room s' value_at bytes e (omega arith) is a.state a.standing a.represents;
        grows = same_counts r.counts;
        holds =
            λ l st h.
            let x = get_or l.log (place_of r - 1) some_note in
            subst (Represents t s' (half_waits r (Some (record { up = (not up); times = times }))) []) (broken_at up times (last_place l) l (omega (arith, is, place_is l st h)))
            (waits_represented (not up) times (set_log (at_place (last_place l) (broken_note (record { up = up; times = times })) l.log) l)
            (last_represented room s' value_at bytes e (omega arith) is l st h (broken_note (record { up = up; times = times })) (broken_pitches (record { up = up; times = times }))
            ((λ i. splice (note_row x) value_at (value_bytes (broken_value up times (value_is is l st h i) (dots_is is l st h i)))) ∙ broken_row_lem up times x)));
      }

-- THE BEAM STEP ONCE MORE
again_short : (run kind value : ℕ) → length (again_beam run kind value) ≤ 1
unfolding again_beam
again_short run kind value =
    by_test (beams kind value) (λ y. rw y (by_test (eqb run 0) (λ z. rw z (omega arith)) (λ n. rw n (omega arith)))) (λ n. rw n (omega arith))

-- by the code's tests
module _ (s : List ℕ) (place run kind value : ℕ) (b : Bool) (e : b ≡ beams kind value) where
  pub again_first : b ≡ true → run ≡ 0 → s ≡ again_store s place run kind value
  unfolding again_beam
  again_first y z = rw (← e, y, eq-eqb run 0 z) (sym (splice_nil s (place + beam_at)))

  pub again_ends : b ≡ true → (run ≡ 0 → ⊥) → (s' : List ℕ) → s' ≡ splice s (place + beam_at) (3 ∷ []) → s' ≡ again_store s place run kind value
  unfolding again_beam
  again_ends y n s' d = rw (← e, y, ne_eqb run 0 n) d

  pub again_plain : b ≡ false → (s' : List ℕ) → s' ≡ splice s (place + beam_at) (0 ∷ []) → s' ≡ again_store s place run kind value
  unfolding again_beam
  again_plain n s' d = rw (← e, n) d

again_row : (run : ℕ) (x : ℕ × Note) → splice (note_row x) beam_at (again_beam (min 2 run) (kind_code x.1.kind) x.1.value) ≡ note_row (x.0, beamed_again run x.1)
unfolding again_beam beamed_again beam_code
again_row zero x =
    rw (beams_is x.1.kind x.1.value) (by_test (can_beam x.1) (λ y. rw y (splice_nil (note_row x) beam_at)) (λ n. rw n (note_set_beam x Notes.unbeamed)))
again_row (suc run) x =
    rw (ne_eqb (min 2 (suc run)) 0 (λ e. omega arith), beams_is x.1.kind x.1.value)
    (by_test (can_beam x.1) (λ y. rw y (note_set_beam x Notes.ends)) (λ n. rw n (note_set_beam x Notes.unbeamed)))

again_pitches : (run : ℕ) (x : Note) → (beamed_again run x).pitches ≡ x.pitches
unfolding beamed_again
again_pitches zero x = by_test (can_beam x) (λ y. rw y) (λ n. rw n)
again_pitches (suc run) x = refl

runs_represented : {t : Tables} {s : List ℕ} {r : Registers} (run n : ℕ) → run ≡ min 2 n → (l : LogState) → Represents t s r [] l → Represents t s (runs r run) [] (set_line (with_run n l.line) l)
runs_represented run n e l h =
    record {
      stored = h.stored;
      scoped = h.scoped;
      key_is = h.key_is;
      last_is = h.last_is;
      pending_is = h.pending_is;
      line_is = λ i. record { unit = (h.line_is i).unit; top = (h.line_is i).top; bottom = (h.line_is i).bottom; overlay = (h.line_is i).overlay; run = e i };
      half_is = h.half_is;
      running_is = h.running_is;
      sounded_is = h.sounded_is;
      sounded_most = h.sounded_most;
      start_is = h.start_is;
      verse_is = h.verse_is;
    }

none_at : (log : List (ℕ × Note)) → note_at 0 log ≡ none
unfolding note_at
none_at log = refl

module _ {t : Tables} {s : List ℕ} {r : Registers} (room : Room t r.counts (length s) 0 0 0 0) (a : RepresentedInLine t s r) where
  -- no last note
  pub nothing_none : place_of r ≡ 0 → Simulates t s r s (runs r 0) 0 0 0 0 (λ l. on_token l token.nothing)
  unfolding on_token on_nothing
  nothing_none z =
      record {
        only = only_none t.heads t.end s;
        grows = same_counts r.counts;
        holds =
            λ l st h.
            subst (λ (n : Option Note). Represents t s (runs r 0) [] (on_nothing (last_place l) n l)) (sym (none_at l.log) ∙ ap (λ (p : ℕ). note_at p l.log) (sym z ∙ place_is l st h))
            (runs_represented 0 0 refl l h);
      }

  pub nothing_simulates : 0 < place_of r → (kind value : ℕ) → kind ≡ get_or s (t.notes + note_row_width * (place_of r - 1)) 0 → value ≡ get_or s (t.notes + note_row_width * (place_of r - 1) + value_at) 0
      → (s' : List ℕ) → s' ≡ again_store s (t.notes + note_row_width * (place_of r - 1)) r.line.run kind value
      → Simulates t s r s' (runs r (run_again r.line.run kind value)) 0 0 0 0 (λ l. on_token l token.nothing)
  unfolding on_token on_nothing
  nothing_simulates is kind value ek ev s' e =
      let bytes = again_beam r.line.run kind value in
      let short : beam_at + length bytes ≤ note_row_width = omega (arith, again_short r.line.run kind value) in
      record {
        only = last_only room s' beam_at bytes e short is a.state a.standing a.represents;
        grows = same_counts r.counts;
        holds =
            λ l st h.
            let x = get_or l.log (place_of r - 1) some_note in
            let run : r.line.run ≡ min 2 l.line.run = ap (λ (y : Line). y.run) h.line_is in
            let k = ek ∙ kind_is is l st h in
            let v = ev ∙ value_is is l st h in
            let at : note_at (last_place l) l.log ≡ some x.1 =
            ap (λ (p : ℕ). note_at p l.log) (sym (place_is l st h)) ∙ note_at_lem (place_of r) l.log some_note is (place_most l st h) in
            subst (λ (n : Option Note). Represents t s' (runs r (run_again r.line.run kind value)) [] (on_nothing (last_place l) n l)) (sym at)
            (runs_represented (run_again r.line.run kind value) (run_after l.line.run x.1) ((λ i. run_again (run i) (k i) (v i)) ∙ run_is l.line.run x.1)
            (set_log (at_place (last_place l) (beamed_again l.line.run) l.log) l)
            (last_represented room s' beam_at bytes e short is l st h (beamed_again l.line.run) (again_pitches l.line.run)
            ((λ i. splice (note_row x) beam_at (again_beam (run i) (k i) (v i))) ∙ again_row l.line.run x)));
      }

-- FROM THE CODE'S VALUES: the row read
module _ (r : Registers) where
  pub row_none : None ≡ row_of r → place_of r ≡ 0
  unfolding row_of
  row_none e = by_test (eqb (place_of r) 0) (λ y. eqb-true (place_of r) 0 y) (λ n. absurd (both_true true refl (ap is_none (e ∙ cond_false _ _ _ n))))

  pub row_some : (i : ℕ) → Some i ≡ row_of r → (0 < place_of r) × (i ≡ place_of r - 1)
  unfolding row_of
  row_some i e =
      by_test (eqb (place_of r) 0) (λ y. absurd (both_true true refl (ap is_some (e ∙ cond_true _ _ _ y))))
      (λ n. let f : Some i ≡ Some (place_of r - 1) = e ∙ cond_false _ _ _ n in (omega (arith, eqb-false (place_of r) 0 n), ap (λ (o : code.Option ℕ). unwrap_or o 0) f))

module _ {t : Tables} {s : List ℕ} {r : Registers} (room : Room t r.counts (length s) 0 0 0 0) (a : RepresentedInLine t s r) (i : ℕ) (e : Some i ≡ row_of r) where
  -- there is room for it
  pub row_inside : t.notes + note_row_width * i + note_row_width ≤ length s
  row_inside = let q = row_some r i e in omega (arith, q.0, q.1, place_small a, room.for_notes, room.for_pitches, room.for_scopes, room.ends)

  -- of the registers given back
  given : {s' : List ℕ} {x₀ x : Registers} (f : LogState → LogState) → x ≡ x₀ → Simulates t s r s' x₀ 0 0 0 0 f → Simulates t s r s' x 0 0 0 0 f
  given {s'} f ex h = subst (λ (y : Registers). Simulates t s r s' y 0 0 0 0 f) (sym ex) h

  place : ℕ → ℕ
  place j = t.notes + note_row_width * j

  pub broken_by : (up : Bool) (times : ℕ) (s' : List ℕ) → s' ≡ broken_store s (t.notes + note_row_width * i) up times → (x : Registers) → x ≡ half_waits r (Some (record { up = not up; times = times }))
      → Simulates t s r s' x 0 0 0 0 (λ l. on_token l (token.broken up times))
  unfolding place
  broken_by up times s' d x ex =
      let q = row_some r i e in
      given (λ l. on_token l (token.broken up times)) ex (broken_simulates room a up times q.0 s' (d ∙ ap (λ (j : ℕ). broken_store s (place j) up times) q.1))

  pub nothing_by : (s' : List ℕ) → s' ≡ again_in s (t.notes + note_row_width * i) r.line.run → (run : ℕ) → run ≡ again_run s (t.notes + note_row_width * i) r.line.run → (x : Registers) → x ≡ runs r run
      → Simulates t s r s' x 0 0 0 0 (λ l. on_token l token.nothing)
  unfolding place
  nothing_by s' d run er x ex =
      let q = row_some r i e in
      given (λ l. on_token l token.nothing) (ex ∙ ap (runs r) er)
      (nothing_simulates room a q.0 _ _ (ap (λ (j : ℕ). get_or s (place j) 0) q.1) (ap (λ (j : ℕ). get_or s (place j + value_at) 0) q.1) s'
      (d ∙ ap (λ (j : ℕ). again_store s (place j) r.line.run (get_or s (place i) 0) (get_or s (place i + value_at) 0)) q.1))

-- where no row is, no beam runs
pub no_run : {t : Tables} {s : List ℕ} {r : Registers} → Room t r.counts (length s) 0 0 0 0 → RepresentedInLine t s r → None ≡ row_of r → (x : Registers) → x ≡ runs r 0
    → Simulates t s r s x 0 0 0 0 (λ l. on_token l token.nothing)
no_run {t} {s} {r} room a e x ex = subst (λ (y : Registers). Simulates t s r s y 0 0 0 0 (λ l. on_token l token.nothing)) (sym ex) (nothing_none room a (row_none r e))

-- of the row that there may be
module _ {t : Tables} {s : List ℕ} {r : Registers} (room : Room t r.counts (length s) 0 0 0 0) (a : RepresentedInLine t s r) where
  -- there is room for it
  pub inside : (row : code.Option ℕ) → row ≡ row_of r → (i : ℕ) → row ≡ Some i → t.notes + note_row_width * i + note_row_width ≤ length s
  inside row e i d = row_inside room a i (sym d ∙ e)

  pub broken_either : (row : code.Option ℕ) → row ≡ row_of r → (up : Bool) (times : ℕ) (s' : List ℕ) → s' ≡ broken_in s t.notes row up times → (x : Registers)
      → x ≡ half_waits r (half_after r.half row (record { up = not up; times = times })) → Simulates t s r s' x 0 0 0 0 (λ l. on_token l (token.broken up times))
  unfolding broken_in half_after
  broken_either None e up times s' d x ex =
      subst (λ (y : Registers). Simulates t s r s' y 0 0 0 0 (λ l. on_token l (token.broken up times))) (sym ex)
      (subst (λ (q : List ℕ). Simulates t s r q r 0 0 0 0 (λ l. on_token l (token.broken up times))) (sym d) (broken_none room a up times (row_none r e)))
  broken_either (Some i) e up times s' d x ex = broken_by room a i e up times s' d x ex

  pub nothing_either : (row : code.Option ℕ) → row ≡ row_of r → (s' : List ℕ) → s' ≡ again_at s t.notes row r.line.run → (run : ℕ) → run ≡ run_at s t.notes row r.line.run → (x : Registers) → x ≡ runs r run
      → Simulates t s r s' x 0 0 0 0 (λ l. on_token l token.nothing)
  unfolding again_at run_at
  nothing_either None e s' d run er x ex =
      subst (λ (q : List ℕ). Simulates t s r q x 0 0 0 0 (λ l. on_token l token.nothing)) (sym d) (no_run room a e x (ex ∙ ap (runs r) er))
  nothing_either (Some i) e s' d run er x ex = nothing_by room a i e s' d run er x ex
