-- ONE TOKEN: what the code does for the definition's token is what that token does to a part.
use Prim.Native.Nat.{ℕ, ◌+◌}
use mathlib.Core.Path.{◌≡◌, refl, sym, ap, subst, ◌∙◌}
use mathlib.Core.Option.{none, some}
use mathlib.Core.List.{List, [], ◌∷◌}
use native.Mathlib.Omega.{arith}
use lib.ListN.{length, drop}
use Rattle.standard.specs.Pitches.{Written}
use Rattle.standard.specs.Lengths.{Value}
use Rattle.standard.specs.Notes as Notes
use Rattle.standard.specs.Notes.{Behind}
use Rattle.reader.specs.Lengths.{Length, value_of}
use Rattle.reader.specs.Codes.{kind_code, beam_code, bit}
use Rattle.reader.specs.Pitches.{chord_of}
use Rattle.reader.specs.Part.{rest_note}
use Rattle.reader.specs.Token.{Token, space, overlay, quoted, broken, tuplet, slur, grace_open, grace_close, decoration, barline, volta, unit, meter, key, field, chord, rest, note, nothing, skipped, refused}
use Rattle.part_layout.specs.Log.{LogState, on_token, on_sound}
use Rattle.bounds.specs.Ranges.{TokenFits}
use Rattle.capacity.specs.Covers.{signs_in, makes}
use Rattle.token_lengths.specs.Values.{length_as}
use Rattle.part_rows.specs.Encoded.{flags_byte, row_for}
use Rattle.part_rows.proofs.Tables.{only_none}
use Rattle.part_registers.specs.declared.Line as declared
use Rattle.part_registers.specs.declared.Tables.{Tables}
use Rattle.part_registers.specs.declared.Registers.{Registers}
use Rattle.part_invariant.specs.Invariant.{Room, Represents, RepresentedInLine, Grows, Simulates}
use Rattle.part_sounds.specs.Sounds.{rest_row}
use Rattle.tokens.specs.Tokens.{rest_length, token_for}
use Rattle.part_chords.specs.Chords.{pitches_or, chord_in, SimulatesChord}
use Rattle.part_chords.proofs.Pushing.{written_back, signs_are}
use Rattle.part_body.specs.Body.{Ready, SimulatesToken}

-- A TOKEN THAT DOES NOTHING
pub simulates_nothing : (t : Tables) (s : List ℕ) (r : Registers) → Simulates t s r s r 0 0 0 0 (λ l. l)
simulates_nothing t s r =
    record {
      only = only_none t.heads t.end s;
      grows = record { more_heads = omega arith; more_notes = omega arith; more_pitches = omega arith; more_scopes = omega arith };
      holds = λ l st h. h;
    }

-- THE UNIT in force is the part's
unit_is : {t : Tables} {s : List ℕ} {r : Registers} (l : LogState) → Represents t s r [] l → r.line.unit ≡ l.line.unit
unit_is l h = ap (λ (x : declared.Line). x.unit) h.line_is

-- a chord stands there
abbrev pub ChordStands : List ℕ → ℕ → Token → Type 0
ChordStands line at tok = (ws : List Written) (l : Length) (b : Behind) → tok ≡ chord ws l b → chord_of 0 none (drop (at + 1) line) ≡ some ws

-- A REST has the row of the definition's
rest_row_is : (k : Notes.NoteKind) (u : ℕ) (l : Length) → rest_row (kind_code k) (rest_length u k l) ≡ row_for (rest_note k (value_of u l))
unfolding rest_length rest_note flags_byte beam_code bit
rest_row_is Notes.sounded u l = refl
rest_row_is Notes.rest u l = refl
rest_row_is Notes.invisible_rest u l = refl
rest_row_is Notes.bar_rest u l = refl
rest_row_is Notes.invisible_bar_rest u l = refl

no_pitch : (k : Notes.NoteKind) (w : Value) → (rest_note k w).pitches ≡ []
unfolding rest_note
no_pitch Notes.sounded w = refl
no_pitch Notes.rest w = refl
no_pitch Notes.invisible_rest w = refl
no_pitch Notes.bar_rest w = refl
no_pitch Notes.invisible_bar_rest w = refl

-- A CHORD stands there
chord_is : (line : List ℕ) (at : ℕ) (ws : List Written) → chord_of 0 none (drop (at + 1) line) ≡ some ws → chord_in line (at + 1) ≡ ws
unfolding pitches_or
chord_is line at ws e = ap pitches_or e

module _ (line : List ℕ) (at : ℕ) {t : Tables} {s : List ℕ} {r : Registers} where
  -- what the code's token asks for
  pub token_ready : (tok : Token) → ChordStands line at tok → TokenFits tok
      → Room t r.counts (length s) (makes tok).heads (makes tok).notes (makes tok).pitches (makes tok).scopes → RepresentedInLine t s r → Ready line t s r (token_for at r.line.unit tok)
  unfolding token_for Ready TokenFits
  token_ready space c f room h = (room, h)
  token_ready overlay c f room h = (room, h)
  token_ready quoted c f room h = (room, h)
  token_ready (broken up n) c f room h = (room, h)
  token_ready (tuplet x) c f room h = (room, h)
  token_ready slur c f room h = (room, h)
  token_ready grace_open c f room h = (room, h)
  token_ready grace_close c f room h = (room, h)
  token_ready decoration c f room h = (room, h)
  token_ready (barline b o) c f room h = (room, h)
  token_ready (volta ps) c f room h = (room, h)
  token_ready (unit u) c f room h = (room, h)
  token_ready (meter m) c f room h = (room, h)
  token_ready (key k) c f room h = (room, h)
  token_ready field c f room h = (room, h)
  token_ready (chord ws l b) c f room h =
      let e = c ws l b refl in
      let w = chord_is line at ws e in (
        subst (λ (x : List Written). Room t r.counts (length s) 0 1 (length x) (signs_in x)) (sym w) room,
        h,
        record { fine = e ∙ ap some (sym w); count_is = ap length (sym w) },
      )
  token_ready (rest k l) c f room h = (
    room,
    record {
      state = h.state;
      note = rest_note k (value_of r.line.unit l);
      standing = h.standing;
      row_is = rest_row_is k r.line.unit l;
      no_pitch = no_pitch k (value_of r.line.unit l);
      represents = h.represents;
    },
  )
  token_ready (note w l b) c f room h =
      (subst (λ (n : ℕ). Room t r.counts (length s) 0 1 1 n) (sym (signs_are w)) room, h, f.step_fits)
  token_ready nothing c f room h = (room, h)
  token_ready skipped c f room h = (room, h)
  token_ready (refused n) c f room h = (room, h)

  -- what it does is what the definition's token does
  pub token_simulates : {s' : List ℕ} {r' : Registers} (tok : Token) → ChordStands line at tok → SimulatesToken line t s r s' r' (token_for at r.line.unit tok)
      → Simulates t s r s' r' (makes tok).heads (makes tok).notes (makes tok).pitches (makes tok).scopes (λ l. on_token l tok)
  unfolding token_for SimulatesToken on_token
  token_simulates space c a = a
  token_simulates overlay c a = a
  token_simulates quoted c a = a
  token_simulates (broken up n) c a = a
  token_simulates (tuplet x) c a = a
  token_simulates slur c a = a
  token_simulates grace_open c a = a
  token_simulates grace_close c a = a
  token_simulates decoration c a = a
  token_simulates (barline b o) c a = a b refl refl
  token_simulates (volta ps) c a = a ps refl refl
  token_simulates (unit u) c a = a
  token_simulates (meter m) c a = a
  token_simulates (key k) c a = a
  token_simulates field c a = a
  token_simulates {s'} {r'} (chord ws l b) c a =
      let d = subst (λ (x : List Written). SimulatesChord t s r s' r' x (length_as (value_of r.line.unit l)) b.tie b.slur) (chord_is line at ws (c ws l b refl)) a in
      record { only = d.only; grows = d.grows; holds = λ x st h. d.holds x b l st refl refl (ap (λ (u : ℕ). value_of u l) (unit_is x h)) h }
  token_simulates {s'} {r'} (rest k l) c a =
      record {
        only = a.only;
        grows = a.grows;
        holds =
            λ x st h. a.holds x (rest_note k (value_of x.line.unit l)) st
            (rest_row_is k r.line.unit l ∙ ap (λ (u : ℕ). row_for (rest_note k (value_of u l))) (unit_is x h)) (no_pitch k (value_of x.line.unit l)) h;
      }
  token_simulates {s'} {r'} (note w l b) c a =
      record {
        only = a.only;
        grows = subst (λ (n : ℕ). Grows r.counts r'.counts 0 1 1 n) (signs_are w) a.grows;
        holds =
            λ x st h. subst (λ (v : Written). Represents t s' r' [] (on_sound (v ∷ []) l b x)) (written_back w)
            (a.holds x b l st refl refl (ap (λ (u : ℕ). value_of u l) (unit_is x h)) h);
      }
  token_simulates nothing c a = a
  token_simulates skipped c a = a
  token_simulates (refused n) c a = a
