-- Notes and rests, from what the code calls to what the definition does.
use Prim.Native.Nat.{ℕ, ◌+◌, ◌*◌, ◌<◌}
use mathlib.Core.Path.{◌≡◌, refl, sym, ap, subst, ◌∙◌}
use mathlib.Core.Bool.{Bool, false}
use mathlib.Core.List.{List, [], ◌∷◌, ◌++◌, append_assoc}
use native.Mathlib.Omega.{arith}
use lib.ListN.{length, get_or}
use Rattle.laws.specs.Lists.{alter_at}
use Rattle.laws.specs.Bytes.{splice}
use Rattle.laws.proofs.Lists.{alter_at_set, length_alter_at}
use Rattle.standard.specs.Keys.{Key}
use Rattle.standard.specs.Pitches as standard
use Rattle.standard.specs.Pitches.{Written}
use Rattle.standard.specs.Lengths.{Value}
use Rattle.standard.specs.Notes as Notes
use Rattle.standard.specs.Notes.{Behind, pending_after}
use Rattle.reader.specs.Pitches.{Scope, sound_of, sounds_of, scope_after, scope_after_all}
use Rattle.reader.specs.Codes.{kind_code, beam_code}
use Rattle.reader.specs.Records.{pitch_bytes}
use Rattle.reader.specs.Part.{sound_note}
use Rattle.part_layout.specs.Log.{LogState, last_place, set_scopes, set_pending, append, on_sound}
use Rattle.part_layout.specs.Lines.{Standing}
use Rattle.token_lengths.specs.declared.Length.{Length}
use Rattle.token_lengths.specs.Values.{as_value}
use Rattle.token_pitches.specs.declared.Pitch.{Pitch}
use Rattle.part_rows.specs.Table.{Only}
use Rattle.part_rows.specs.Encoded.{row_for, pitch_for, pitch_row, pitch_row_width}
use Rattle.part_rows.proofs.Bytes.{pitch_row_lem, length_pitch_row}
use Rattle.part_rows.proofs.Tables.{table_front, only_then, only_wider}
use Rattle.part_scopes.specs.Scopes.{Scoped}
use Rattle.part_accidentals.specs.declared.Resolved.{Resolved}
use Rattle.part_accidentals.specs.Resolving.{signs, written_of, ResolvedAs}
use Rattle.part_scopes.proofs.Scopes.{scoped_behind}
use Rattle.part_registers.specs.declared.Line.{Line}
use Rattle.part_registers.specs.declared.Counts.{Counts}
use Rattle.part_registers.specs.declared.Tables.{Tables}
use Rattle.part_registers.specs.declared.Registers.{Registers}
use Rattle.part_registers.specs.Notes.{flags_in}
use Rattle.part_registers.specs.States.{pending_for}
use Rattle.part_registers.proofs.Notes.{note_flags_is}
use Rattle.part_invariant.specs.Invariant.{Room, Stored, Represents, RepresentedInLine, pitches_in, Appendable, Appends}
use Rattle.part_invariant.proofs.Stores.{with_pitches, pitch_pushed, pitch_pushed_only}
use Rattle.part_invariant.proofs.Appending.{room_same, stored_pitches}
use Rattle.part_sounds.specs.Sounds.{rest_row, sound_row, with_pending, Restable, SimulatesRest, Pushable, SimulatesPitch, Soundable, SimulatesSound, SimulatesNote}

-- A REST
pub rest_able : {t : Tables} {s : List ℕ} {r : Registers} {kind : ℕ} {l : Length} → Restable t s r kind l → Appendable t s r (rest_row kind l)
rest_able {t} {s} {r} h =
    record {
      state = h.state;
      note = h.note;
      standing = h.standing;
      row_is = h.row_is;
      represents = subst (λ (ps : List standard.Pitch). Represents t s r ps h.state) (sym h.no_pitch) h.represents;
    }

pub rests_as : {t : Tables} {s s' : List ℕ} {r r' : Registers} {kind : ℕ} {w : Length} → Appends t s r s' r' (rest_row kind w) → SimulatesRest t s r s' r' kind w
rests_as {t} {s} {s'} {r} a =
    record {
      only = a.only;
      grows = a.grows;
      holds = λ l m st e z h. a.holds l m st e (subst (λ (ps : List standard.Pitch). Represents t s r ps l) (sym z) h);
    }

-- OTHER PENDING MARKS AND OTHER SCOPES leave what stands
pub standing_pending : (l : LogState) (p : Notes.Pending) → Standing l → Standing (set_pending p l)
unfolding last_place
standing_pending l p h =
    record {
      older = h.older;
      open_head = h.open_head;
      heads_are = h.heads_are;
      overlay_4 = h.overlay_4;
      scopes_4 = h.scopes_4;
      last_4 = h.last_4;
      fits = h.fits;
      places = h.places;
      run_has_note = h.run_has_note;
    }

pub standing_scopes : (l : LogState) (c : List Scope) → length c ≡ 4 → Standing l → Standing (set_scopes c l)
unfolding last_place
standing_scopes l c e h =
    record {
      older = h.older;
      open_head = h.open_head;
      heads_are = h.heads_are;
      overlay_4 = h.overlay_4;
      scopes_4 = e;
      last_4 = h.last_4;
      fits = h.fits;
      places = h.places;
      run_has_note = h.run_has_note;
    }

-- A PITCH PUSHED
abbrev pub pushed_on : Registers → Resolved → Registers
pushed_on r q =
    record {
      counts = record { heads = r.counts.heads; notes = r.counts.notes; pitches = r.counts.pitches + 1; scopes = q.count };
      key = q.state;
      last = r.last;
      pending = r.pending;
      line = r.line;
      half = r.half;
      tuplet = r.tuplet;
      verses = r.verses;
    }

module _ (t : Tables) (s : List ℕ) (r : Registers) (p : Pitch) (room : Room t r.counts (length s) 0 0 1 (signs p.sign)) where
  pub push_overlay : Pushable t s r → r.line.overlay < 4
  push_overlay a = omega (arith, a.overlay_4, ap (λ (x : Line). x.overlay) a.represents.line_is)

  module _ (s₁ s₂ : List ℕ) (q : Resolved) (res : ResolvedAs s t.scopes r.counts.scopes r.key r.line.overlay p s₁ q)
      (e : s₂ ≡ splice s₁ (t.pitches + pitch_row_width * r.counts.pitches) (pitch_row q.sounded)) where
    length₁ : length s₁ ≡ length s
    length₁ = res.only.same_length

    module _ (l : LogState) (extra : List standard.Pitch) (in_four : l.line.overlay < 4) (h : Represents t s r extra l) where
      o_is : r.line.overlay ≡ l.line.overlay
      o_is = ap (λ (x : Line). x.overlay) h.line_is

      sound_is : q.sounded ≡ pitch_for (sound_of l.key (get_or l.scopes l.line.overlay []) (written_of p))
      sound_is =
          res.sounds l.key l.scopes (ap (λ (k : Key). k.fifths) (sym h.key_is)) h.scoped
          ∙ ap (λ (k : ℕ). pitch_for (sound_of l.key (get_or l.scopes k []) (written_of p))) o_is

      stored₁ : Stored t r.counts s₁ l.heads l.log (pitches_in l.log ++ extra)
      stored₁ =
          let a = h.stored in
          record {
            heads_table = table_front a.heads_table res.only (omega (arith, room.for_heads, room.for_notes, room.for_pitches, a.heads_are));
            notes_table = table_front a.notes_table res.only (omega (arith, room.for_notes, room.for_pitches, a.notes_are));
            pitches_table = table_front a.pitches_table res.only (omega (arith, room.for_pitches, a.pitches_are));
            heads_are = a.heads_are;
            notes_are = a.notes_are;
            pitches_are = a.pitches_are;
          }

      bytes_are : pitch_row q.sounded ≡ pitch_bytes (sound_of l.key (get_or l.scopes l.line.overlay []) (written_of p))
      bytes_are = ap pitch_row sound_is ∙ pitch_row_lem (sound_of l.key (get_or l.scopes l.line.overlay []) (written_of p))

      stored₂ : Stored t (with_pitches r.counts (r.counts.pitches + 1)) s₂ l.heads l.log
          ((pitches_in l.log ++ extra) ++ (sound_of l.key (get_or l.scopes l.line.overlay []) (written_of p) ∷ []))
      stored₂ = pitch_pushed stored₁ s₂ (room_same length₁ room) _ (pitch_row q.sounded) bytes_are e

      only₂ : Only t.heads t.end s₁ s₂
      only₂ = pitch_pushed_only stored₁ s₂ (room_same length₁ room) _ (pitch_row q.sounded) bytes_are e

      pub push_represented : Represents t s₂ (pushed_on r q) (extra ++ (sound_of l.key (get_or l.scopes l.line.overlay []) (written_of p) ∷ []))
          (set_scopes (alter_at l.line.overlay (λ old. scope_after old (written_of p)) l.scopes) l)
      push_represented =
          let b = stored_pitches stored₂ (append_assoc (pitches_in l.log) extra (sound_of l.key (get_or l.scopes l.line.overlay []) (written_of p) ∷ [])) in
          record {
            stored =
                record {
                  heads_table = b.heads_table;
                  notes_table = b.notes_table;
                  pitches_table = b.pitches_table;
                  heads_are = b.heads_are;
                  notes_are = b.notes_are;
                  pitches_are = b.pitches_are;
                };
            scoped =
                scoped_behind
                (subst (λ (k : ℕ). Scoped s₁ t.scopes q.count q.state.scopes (alter_at k (λ old. scope_after old (written_of p)) l.scopes)) o_is (res.keeps l.scopes h.scoped)) s₂ _ _ e
                (omega (arith, room.for_pitches, length_pitch_row q.sounded));
            key_is = (λ i. record { fifths = res.same_fifths i; minor = res.same_minor i }) ∙ h.key_is;
            last_is = h.last_is;
            pending_is = h.pending_is;
            line_is = h.line_is;
            half_is = h.half_is;
            running_is = h.running_is;
            sounded_is = h.sounded_is;
            sounded_most = h.sounded_most;
            start_is = h.start_is;
            verse_is = h.verse_is;
          }

    pub pushes : Pushable t s r → SimulatesPitch t s r s₂ (pushed_on r q) p
    pushes a =
        record {
          only =
              only_then (only_wider res.only t.heads t.end (omega (arith, room.for_heads, room.for_notes, room.for_pitches)) (omega (arith, room.for_scopes)))
              (only₂ a.state a.extra a.overlay_4 a.represents);
          grows = record { more_heads = omega arith; more_notes = omega arith; more_pitches = omega arith; more_scopes = res.rows_most };
          holds = λ l extra k h. push_represented l extra k h;
        }

-- A NOTE OR CHORD
pub sound_row_is : (w : Length) (p : Notes.Pending) (b : Behind) (ps : List standard.Pitch) → sound_row w (flags_in (pending_for p) b.tie b.slur) (length ps) ≡ row_for (sound_note (as_value w) p b ps)
unfolding sound_note kind_code beam_code
sound_row_is w p b ps = ap (λ (k : ℕ). sound_row w k (length ps)) (note_flags_is p b)

module _ {t : Tables} {s : List ℕ} {r : Registers} (w : Length) (tie slur : Bool) (count : ℕ) where
  module _ (l : LogState) (b : Behind) (ps : List standard.Pitch) (e : b.tie ≡ tie) (f : b.slur ≡ slur) (k : count ≡ length ps) (h : Represents t s r ps l) where
    row_for_lem : sound_row w (flags_in r.pending tie slur) count ≡ row_for (sound_note (as_value w) l.pending b ps)
    row_for_lem = (λ i. sound_row w (flags_in (h.pending_is i) (sym e i) (sym f i)) (k i)) ∙ sound_row_is w l.pending b ps

    waits_represented : Represents t s (with_pending r tie) ps (set_pending (pending_after l.pending b) l)
    unfolding pending_after
    waits_represented =
        record {
          stored = h.stored;
          scoped = h.scoped;
          key_is = h.key_is;
          last_is = h.last_is;
          pending_is = λ i. record { tie = sym e i; slur = false; grace = (h.pending_is i).grace };
          line_is = h.line_is;
          half_is = h.half_is;
          running_is = h.running_is;
          sounded_is = h.sounded_is;
          sounded_most = h.sounded_most;
          start_is = h.start_is;
          verse_is = h.verse_is;
        }

  pub sound_able : Soundable t s r count → Appendable t s (with_pending r tie) (sound_row w (flags_in r.pending tie slur) count)
  unfolding sound_note
  sound_able a =
      let b : Behind = record { tie = tie; slur = slur; used = 0 } in
      record {
        state = set_pending (pending_after a.state.pending b) a.state;
        note = sound_note (as_value w) a.state.pending b a.pitches;
        standing = standing_pending a.state (pending_after a.state.pending b) a.standing;
        row_is = row_for_lem a.state b a.pitches refl refl a.count_is a.represents;
        represents = waits_represented a.state b a.pitches refl refl a.count_is a.represents;
      }

  pub sounds_as : {s' : List ℕ} {r' : Registers} → Appends t s (with_pending r tie) s' r' (sound_row w (flags_in r.pending tie slur) count) → SimulatesSound t s r s' r' w tie slur count
  unfolding sound_note
  sounds_as a =
      record {
        only = a.only;
        grows = a.grows;
        holds =
            λ l b ps st e f k h. a.holds (set_pending (pending_after l.pending b) l) (sound_note (as_value w) l.pending b ps) (standing_pending l (pending_after l.pending b) st) (row_for_lem l b ps e f k h)
            (waits_represented l b ps e f k h);
      }

-- A NOTE
-- room for the pitch of a note
pub pitch_room : (t : Tables) (c : Counts) (n k : ℕ) → Room t c n 0 1 1 k → Room t c n 0 0 1 k
pitch_room t c n k room =
    record { for_heads = room.for_heads; for_notes = omega (arith, room.for_notes); for_pitches = room.for_pitches; for_scopes = room.for_scopes; ends = room.ends; small = room.small }

-- the scopes after one pitch
scope_one : (scopes : List Scope) (o : ℕ) (w : Written) → alter_at o (λ old. scope_after old w) scopes ≡ alter_at o (λ old. scope_after_all (get_or scopes o []) (w ∷ [])) scopes
unfolding scope_after_all
scope_one scopes o w = alter_at_set o (λ old. scope_after old w) scopes [] ∙ sym (alter_at_set o (λ old. scope_after (get_or scopes o []) w) scopes [])

module _ {t : Tables} {s s₁ : List ℕ} {r r₁ : Registers} {p : Pitch} (a : SimulatesPitch t s r s₁ r₁ p) where
  -- room after the pitch
  pub note_room : Room t r.counts (length s) 0 1 1 (signs p.sign) → Room t r₁.counts (length s₁) 0 1 0 0
  note_room room =
      let g = a.grows in
      record {
        for_heads = omega (arith, room.for_heads, g);
        for_notes = omega (arith, room.for_notes, g);
        for_pitches = omega (arith, room.for_pitches, g);
        for_scopes = omega (arith, room.for_scopes, g);
        ends = omega (arith, room.ends, a.only.same_length);
        small = room.small;
      }

  pub note_able : RepresentedInLine t s r → Soundable t s₁ r₁ 1
  note_able h =
      let l = h.state in
      record {
        state = set_scopes (alter_at l.line.overlay (λ old. scope_after old (written_of p)) l.scopes) l;
        pitches = sound_of l.key (get_or l.scopes l.line.overlay []) (written_of p) ∷ [];
        standing = standing_scopes l (alter_at l.line.overlay (λ old. scope_after old (written_of p)) l.scopes) (length_alter_at l.line.overlay (λ old. scope_after old (written_of p)) l.scopes ∙ h.standing.scopes_4) h.standing;
        count_is = refl;
        represents = a.holds l [] h.standing.overlay_4 h.represents;
      }

  pub notes_as : {s₂ : List ℕ} {r₂ : Registers} {w : Length} {tie slur : Bool} → SimulatesSound t s₁ r₁ s₂ r₂ w tie slur 1 → SimulatesNote t s r s₂ r₂ p w tie slur
  unfolding on_sound sounds_of
  notes_as {s₂} {r₂} {w} b =
      record {
        only = only_then a.only b.only;
        grows =
            let f = a.grows in
            let g = b.grows in
            record { more_heads = omega (arith, f, g); more_notes = omega (arith, f, g); more_pitches = omega (arith, f, g); more_scopes = omega (arith, f, g) };
        holds =
            λ l e len st i j v h.
            let o = l.line.overlay in
            let x = sound_of l.key (get_or l.scopes o []) (written_of p) in
            let c = alter_at o (λ old. scope_after old (written_of p)) l.scopes in
            let l₁ = set_scopes c l in
            let st₁ = standing_scopes l c (length_alter_at o (λ old. scope_after old (written_of p)) l.scopes ∙ st.scopes_4) st in
            let q = b.holds l₁ e (x ∷ []) st₁ i j refl (a.holds l [] st.overlay_4 h) in
            subst (λ (u : Value). Represents t s₂ r₂ [] (append (sound_note u l.pending e (x ∷ [])) (set_scopes (alter_at o (λ old. scope_after_all (get_or l.scopes o []) (written_of p ∷ [])) l.scopes) (set_pending (pending_after l.pending e) l)))) v
            (subst (λ (y : List Scope). Represents t s₂ r₂ [] (append (sound_note (as_value w) l.pending e (x ∷ [])) (set_scopes y (set_pending (pending_after l.pending e) l)))) (scope_one l.scopes o (written_of p)) q);
      }
