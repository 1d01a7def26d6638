-- A chord's pitches, one by one, and its row.
use Prim.Native.Nat.{ℕ, zero, suc, ◌+◌, ◌≤◌, ◌<◌}
use mathlib.Core.Path.{◌≡◌, refl, sym, ap, subst, ◌∙◌}
use mathlib.Core.Bool.{Bool}
use mathlib.Core.Option.{Option, none, some}
use mathlib.Core.List.{List, [], ◌∷◌, ◌++◌, append_assoc, append-nil}
use native.Mathlib.Omega.{arith}
use lib.ListN.{length, get_or, drop, length-append}
use Rattle.laws.specs.Lists.{alter_at}
use Rattle.laws.proofs.Lists.{alter_at_alter_at, get_or_alter_at, length_alter_at}
use Rattle.standard.specs.Pitches as standard
use Rattle.standard.specs.Pitches.{Written}
use Rattle.standard.specs.Lengths.{Value}
use Rattle.standard.specs.Notes.{pending_after}
use Rattle.reader.specs.Pitches.{chord_of, Scope, sound_of, scope_after, sounds_of, scope_after_all}
use Rattle.reader.specs.Part.{sound_note}
use Rattle.bounds.proofs.TokenRanges.{pitches_fit}
use Rattle.part_layout.specs.Log.{LogState, set_scopes, set_pending, append, on_sound}
use Rattle.part_layout.specs.Lines.{Standing}
use Rattle.token_lengths.specs.declared.Length.{Length}
use Rattle.token_pitches.specs.declared.Pitch.{Pitch}
use Rattle.token_pitches.specs.declared.Met.TheVariants as met-as
use Rattle.token_pitches.specs.Pitches.{sign_for, pitch_for}
use Rattle.token_pitches.specs.Chords.{pitch_met, met_for}
use Rattle.token_pitches.proofs.Walk.{mark_back, next_pitch}
use Rattle.part_rows.proofs.Tables.{only_none, only_then}
use Rattle.part_accidentals.specs.Resolving.{signs, written_of}
use Rattle.part_registers.specs.declared.Counts.{Counts}
use Rattle.part_registers.specs.declared.Tables.{Tables}
use Rattle.part_registers.specs.declared.Registers.{Registers}
use Rattle.part_invariant.specs.Invariant.{Room, Represents, RepresentedInLine}
use Rattle.part_sounds.specs.Sounds.{deferred_sound, OnceAppended, Pushable, SimulatesPitch, Soundable, SimulatesSound}
use Rattle.part_sounds.specs.declared.Deferred.{Deferred}
use Rattle.part_sounds.proofs.Sounding.{standing_scopes}
use Rattle.part_sounds.proofs.Deferring.{once_appended_sound}
use Rattle.capacity.specs.Covers.{sign_count, signs_in}
use Rattle.part_chords.specs.Chords.{chord_in, ChordAt, SimulatesPitches, SimulatesChord}
use Rattle.part_chords.proofs.Pitches.{sounds_more, scope_more, marked_both, length_sounds}

-- A PITCH in the code's type, and back
pub written_back : (w : Written) → written_of (pitch_for w) ≡ w
written_back w = λ i. record { step = w.step; octave = w.octave; sign = mark_back w.sign i }

pub signs_are : (w : Written) → signs (sign_for w.sign) ≡ sign_count w.sign
signs_are w = by w.sign
  where
    by : (a : Option standard.Accidental) → signs (sign_for a) ≡ sign_count a
    by none = refl
    by (some a) = refl

-- SCOPES after some pitches
abbrev scopes_after : LogState → List Written → List Scope
scopes_after l ws = alter_at l.line.overlay (λ old. scope_after_all (get_or l.scopes l.line.overlay []) ws) l.scopes

alter_none : (o : ℕ) (scopes : List Scope) → alter_at o (λ old. get_or scopes o []) scopes ≡ scopes
alter_none o [] = refl
alter_none zero (x ∷ xs) = refl
alter_none (suc o) (x ∷ xs) = ap (λ (r : List Scope). x ∷ r) (alter_none o xs)

standing_after : (l : LogState) (ws : List Written) → Standing l → Standing (set_scopes (scopes_after l ws) l)
standing_after l ws st =
    let o = l.line.overlay in
    standing_scopes l (scopes_after l ws) (length_alter_at o (λ old. scope_after_all (get_or l.scopes o []) ws) l.scopes ∙ st.scopes_4) st

-- NONE YET
pub pushed_none : (t : Tables) (s : List ℕ) (r : Registers) → SimulatesPitches t s r s r []
unfolding sounds_of scope_after_all
pushed_none t s r =
    record {
      only = only_none t.heads t.end s;
      grows = record { more_heads = omega arith; more_notes = omega arith; more_pitches = omega arith; more_scopes = omega arith };
      holds = λ l st h. subst (λ (c : List Scope). Represents t s r [] (set_scopes c l)) (sym (alter_none l.line.overlay l.scopes)) h;
    }

-- ONE MORE
module _ {t : Tables} {s s₁ s₂ : List ℕ} {r r₁ r₂ : Registers} {ws : List Written} (w : Written) (a : SimulatesPitches t s r s₁ r₁ ws) (b : SimulatesPitch t s₁ r₁ s₂ r₂ (pitch_for w)) where
  module _ (l : LogState) (st : Standing l) (h : Represents t s r [] l) where
    there : get_or (scopes_after l ws) l.line.overlay [] ≡ scope_after_all (get_or l.scopes l.line.overlay []) ws
    there =
        get_or_alter_at l.line.overlay (λ old. scope_after_all (get_or l.scopes l.line.overlay []) ws) l.scopes [] (omega (arith, st.overlay_4, st.scopes_4))

    extra_is : sounds_of l.key (get_or l.scopes l.line.overlay []) ws ++ (sound_of l.key (get_or (scopes_after l ws) l.line.overlay []) (written_of (pitch_for w)) ∷ [])
        ≡ sounds_of l.key (get_or l.scopes l.line.overlay []) (ws ++ (w ∷ []))
    extra_is =
        (λ i. sounds_of l.key (get_or l.scopes l.line.overlay []) ws ++ (sound_of l.key (there i) (written_back w i) ∷ []))
        ∙ sym (sounds_more l.key (get_or l.scopes l.line.overlay []) ws w)

    scopes_are : alter_at l.line.overlay (λ old. scope_after old (written_of (pitch_for w))) (scopes_after l ws) ≡ scopes_after l (ws ++ (w ∷ []))
    scopes_are =
        alter_at_alter_at l.line.overlay (λ old. scope_after_all (get_or l.scopes l.line.overlay []) ws) (λ old. scope_after old (written_of (pitch_for w))) l.scopes
        ∙ (λ i. alter_at l.line.overlay (λ old. scope_after (scope_after_all (get_or l.scopes l.line.overlay []) ws) (written_back w i)) l.scopes)
        ∙ ap (λ (x : Scope). alter_at l.line.overlay (λ old. x) l.scopes) (sym (scope_more (get_or l.scopes l.line.overlay []) ws w))

    more_represented : Represents t s₂ r₂ (sounds_of l.key (get_or l.scopes l.line.overlay []) (ws ++ (w ∷ []))) (set_scopes (scopes_after l (ws ++ (w ∷ []))) l)
    more_represented =
        subst (λ (c : List Scope). Represents t s₂ r₂ (sounds_of l.key (get_or l.scopes l.line.overlay []) (ws ++ (w ∷ []))) (set_scopes c l)) scopes_are
        (subst (λ (ps : List standard.Pitch). Represents t s₂ r₂ ps (set_scopes (alter_at l.line.overlay (λ old. scope_after old (written_of (pitch_for w))) (scopes_after l ws)) l)) extra_is
        (b.holds (set_scopes (scopes_after l ws) l) (sounds_of l.key (get_or l.scopes l.line.overlay []) ws) st.overlay_4 (a.holds l st h)))

  pub pushed_more : SimulatesPitches t s r s₂ r₂ (ws ++ (w ∷ []))
  pushed_more =
      let f = a.grows in
      let g = b.grows in
      let n = length-append ws (w ∷ []) in
      let m = marked_both ws (w ∷ []) in
      let k = signs_are w in
      record {
        only = only_then a.only b.only;
        grows = record { more_heads = omega (arith, f, g); more_notes = omega (arith, f, g); more_pitches = omega (arith, f, g, n); more_scopes = omega (arith, f, g, m, k) };
        holds = more_represented;
      }

-- THE LOOP at i with n pitches pushed: those before i are, those from i on are still to come
pub record Pushing (line : List ℕ) (t : Tables) (s : List ℕ) (r : Registers) (place : ℕ) (s' : List ℕ) (r' : Registers) (i n : ℕ) : Type 0 where
  pub done : List Written
  pub rest : List Written
  pub all_are : chord_in line place ≡ done ++ rest
  pub count_is : n ≡ length done
  pub to_come : chord_of 0 none (drop i line) ≡ some rest
  pub pushed : SimulatesPitches t s r s' r' done

pub pushing_start : (line : List ℕ) (t : Tables) (s : List ℕ) (r : Registers) (place count : ℕ) → ChordAt line place count → Pushing line t s r place s r place 0
pushing_start line t s r place count c = record { done = []; rest = chord_in line place; all_are = refl; count_is = refl; to_come = c.fine; pushed = pushed_none t s r }

-- the next pitch, as the code has it, and those behind it
pub record Turn (line : List ℕ) (rest : List Written) (p : Pitch) (next : ℕ) : Type 0 where
  pub first : Written
  pub behind : List Written
  pub rest_is : rest ≡ first ∷ behind
  pub pitch_is : p ≡ pitch_for first
  pub low : first.step < 7
  pub to_come : chord_of 0 none (drop next line) ≡ some behind

module _ {line : List ℕ} {t : Tables} {s s' : List ℕ} {r r' : Registers} {place count i n : ℕ} (c : ChordAt line place count) (p : Pushing line t s r place s' r' i n) where
  left_are : count ≡ n + length p.rest
  left_are = c.count_is ∙ ap length p.all_are ∙ length-append p.done p.rest ∙ ap (λ (k : ℕ). k + length p.rest) (sym p.count_is)

  -- all are pushed
  pub pushing_end : count ≤ n → SimulatesPitches t s r s' r' (chord_in line place)
  pushing_end h = all_by p.rest left_are p.all_are
    where
      all_by : (rest : List Written) → count ≡ n + length rest → chord_in line place ≡ p.done ++ rest → SimulatesPitches t s r s' r' (chord_in line place)
      all_by [] k e = subst (λ (ws : List Written). SimulatesPitches t s r s' r' ws) (sym (e ∙ append-nil p.done)) p.pushed
      all_by (w ∷ ws) k e = absurd (omega (arith, h, k))

  module _ (h : n < count) where
    -- one is still to come
    some_left : {P : Type 0} → ((w : Written) (ws : List Written) → p.rest ≡ w ∷ ws → P) → P
    some_left {P} f = by p.rest refl left_are
      where
        by : (rest : List Written) → p.rest ≡ rest → count ≡ n + length rest → P
        by [] e k = absurd (omega (arith, h, k))
        by (w ∷ ws) e k = f w ws e

    -- the code meets a pitch
    pub meets : {P : Type 0} → ((q : Pitch) (next : ℕ) → met_for i (pitch_met 0 none (drop i line)) ≡ met-as.Pitch q next → P) → P
    meets f = some_left (λ w ws e. let x = next_pitch line i w ws (p.to_come ∙ ap some e) in f (pitch_for w) x.next x.answer)

    -- it is the chord's next one
    pub turn : {q : Pitch} {next : ℕ} → met_for i (pitch_met 0 none (drop i line)) ≡ met-as.Pitch q next → Turn line p.rest q next
    turn {q} {next} m = some_left by
      where
        by : (w : Written) (ws : List Written) → p.rest ≡ w ∷ ws → Turn line p.rest q next
        by w ws e =
            let x = next_pitch line i w ws (p.to_come ∙ ap some e) in
            let y : met-as.Pitch q next ≡ met-as.Pitch (pitch_for w) x.next = sym m ∙ x.answer in
            let z : q ≡ pitch_for w = cc in
            let n' : next ≡ x.next = cc in
            record {
              first = w;
              behind = ws;
              rest_is = e;
              pitch_is = z;
              low = (pitches_fit (drop i line) (w ∷ ws) (p.to_come ∙ ap some e)).0.step_fits;
              to_come = ap (λ (k : ℕ). chord_of 0 none (drop k line)) n' ∙ x.rest;
            }

  module _ {q : Pitch} {next : ℕ} (u : Turn line p.rest q next) where
    whole : chord_in line place ≡ p.done ++ (u.first ∷ u.behind)
    whole = p.all_are ∙ ap (λ (ws : List Written). p.done ++ ws) u.rest_is

    -- there is room for it
    pub turn_room : Room t r.counts (length s) 0 0 (length (chord_in line place)) (signs_in (chord_in line place)) → Room t r'.counts (length s') 0 0 1 (signs q.sign)
    turn_room room =
        let g = p.pushed.grows in
        let a : length (chord_in line place) ≡ length p.done + suc (length u.behind) = ap length whole ∙ length-append p.done (u.first ∷ u.behind) in
        let b : signs_in (chord_in line place) ≡ signs_in p.done + (sign_count u.first.sign + signs_in u.behind) = ap signs_in whole ∙ marked_both p.done (u.first ∷ u.behind) in
        let d : signs q.sign ≡ sign_count u.first.sign = ap (λ (x : Pitch). signs x.sign) u.pitch_is ∙ signs_are u.first in
        record {
          for_heads = omega (arith, room.for_heads, g);
          for_notes = omega (arith, room.for_notes, g);
          for_pitches = omega (arith, room.for_pitches, g, a);
          for_scopes = omega (arith, room.for_scopes, g, b, d);
          ends = omega (arith, room.ends, p.pushed.only.same_length);
          small = room.small;
        }

    pub turn_able : RepresentedInLine t s r → Pushable t s' r'
    turn_able h =
        let l = h.state in
        record {
          state = set_scopes (scopes_after l p.done) l;
          extra = sounds_of l.key (get_or l.scopes l.line.overlay []) p.done;
          overlay_4 = h.standing.overlay_4;
          represents = p.pushed.holds l h.standing h.represents;
        }

    pub turn_low : q.step < 7
    turn_low = subst (λ (x : Pitch). x.step < 7) (sym u.pitch_is) u.low

    -- it is pushed
    pub turn_done : {s₂ : List ℕ} {r₂ : Registers} → SimulatesPitch t s' r' s₂ r₂ q → Pushing line t s r place s₂ r₂ next (n + 1)
    turn_done {s₂} {r₂} b =
        record {
          done = p.done ++ (u.first ∷ []);
          rest = u.behind;
          all_are = whole ∙ sym (append_assoc p.done (u.first ∷ []) u.behind);
          count_is = ap (λ (k : ℕ). k + 1) p.count_is ∙ sym (length-append p.done (u.first ∷ []));
          to_come = u.to_come;
          pushed = pushed_more u.first p.pushed (subst (λ (x : Pitch). SimulatesPitch t s' r' s₂ r₂ x) u.pitch_is b);
        }

-- THE CHORD'S ROW
-- room for the pitches
pub pitches_room : {t : Tables} {c : Counts} {n k m : ℕ} → Room t c n 0 1 k m → Room t c n 0 0 k m
pitches_room room =
    record { for_heads = room.for_heads; for_notes = omega (arith, room.for_notes); for_pitches = room.for_pitches; for_scopes = room.for_scopes; ends = room.ends; small = room.small }

module _ {t : Tables} {s s₁ : List ℕ} {r r₁ : Registers} {ws : List Written} (a : SimulatesPitches t s r s₁ r₁ ws) where
  -- room for the row
  chord_room : Room t r.counts (length s) 0 1 (length ws) (signs_in ws) → Room t r₁.counts (length s₁) 0 1 0 0
  chord_room room =
      let g = a.grows in
      record {
        for_heads = omega (arith, room.for_heads, g);
        for_notes = omega (arith, room.for_notes, g);
        for_pitches = omega (arith, room.for_pitches, g);
        for_scopes = omega (arith, room.for_scopes, g);
        ends = omega (arith, room.ends, a.only.same_length);
        small = room.small;
      }

  chord_able : {count : ℕ} → count ≡ length ws → RepresentedInLine t s r → Soundable t s₁ r₁ count
  chord_able e h =
      let l = h.state in
      let sc = get_or l.scopes l.line.overlay [] in
      record {
        state = set_scopes (scopes_after l ws) l;
        pitches = sounds_of l.key sc ws;
        standing = standing_after l ws h.standing;
        count_is = e ∙ sym (length_sounds l.key sc ws);
        represents = a.holds l h.standing h.represents;
      }

  chords_as : {s₂ : List ℕ} {r₂ : Registers} {w : Length} {tie slur : Bool} {count : ℕ} → count ≡ length ws → SimulatesSound t s₁ r₁ s₂ r₂ w tie slur count → SimulatesChord t s r s₂ r₂ ws w tie slur
  unfolding on_sound
  chords_as {s₂} {r₂} k b =
      record {
        only = only_then a.only b.only;
        grows =
            let f = a.grows in
            let g = b.grows in
            record { more_heads = omega (arith, f, g); more_notes = omega (arith, f, g); more_pitches = omega (arith, f, g); more_scopes = omega (arith, f, g) };
        holds =
            λ l e len st i j v h.
            let sc = get_or l.scopes l.line.overlay [] in
            let ps = sounds_of l.key sc ws in
            subst (λ (u : Value). Represents t s₂ r₂ [] (append (sound_note u l.pending e ps) (set_scopes (scopes_after l ws) (set_pending (pending_after l.pending e) l)))) v
            (b.holds (set_scopes (scopes_after l ws) l) e ps (standing_after l ws st) i j (k ∙ sym (length_sounds l.key sc ws)) (a.holds l st h));
      }

  pub once_appended_chord : {left : Deferred} {w : Length} {tie slur : Bool} {count : ℕ} → left ≡ deferred_sound r₁ w tie slur count → count ≡ length ws
      → Room t r.counts (length s) 0 1 (length ws) (signs_in ws) → RepresentedInLine t s r → OnceAppended t s₁ left (λ s₂ r₂. SimulatesChord t s r s₂ r₂ ws w tie slur)
  once_appended_chord e k room h =
      let b = once_appended_sound e (chord_room room) (chord_able k h) in
      record { able = b.able; done = λ s₂ r₂ f. chords_as k (b.done s₂ r₂ f) }
