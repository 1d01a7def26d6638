-- DEFERRED ROWS: what holds once a token's row, if there is one, is appended.
use Prim.Native.Nat.{ℕ}
use mathlib.Core.Path.{◌≡◌, refl, sym, ap, subst, ◌∙◌}
use mathlib.Core.Bool.{Bool, false}
use mathlib.Core.List.{List}
use lib.ListN.{length}
use Rattle.std.specs.Prelude.{Option, None, Some, is_some, unwrap_or}
use Rattle.laws.proofs.Bools.{both_true}
use Rattle.token_lengths.specs.declared.Length.{Length}
use Rattle.token_pitches.specs.declared.Pitch.{Pitch}
use Rattle.part_accidentals.specs.Resolving.{signs}
use Rattle.part_registers.specs.declared.Tables.{Tables}
use Rattle.part_registers.specs.declared.Registers.{Registers}
use Rattle.part_invariant.specs.Invariant.{Room, RepresentedInLine, Appendable}
use Rattle.part_rows.specs.declared.NoteRow.{NoteRow}
use Rattle.part_sounds.specs.declared.Deferred.{Deferred}
use Rattle.part_sounds.specs.Sounds.{deferred_nothing, deferred_rest, deferred_sound, DeferredFits, OnceAppended, Restable, SimulatesRest, SimulatesPitch, Soundable, SimulatesSound, SimulatesNote}
use Rattle.part_sounds.proofs.Sounding.{rest_able, rests_as, sound_able, sounds_as, note_room, note_able, notes_as}

-- a row is there or not
pub not_both : {o : Option NoteRow} {n : NoteRow} → o ≡ None → o ≡ Some n → ⊥
not_both e f = both_true false (ap is_some (sym e ∙ f)) refl

-- and if so it is one
pub the_row : {o : Option NoteRow} {n m : NoteRow} → o ≡ Some n → o ≡ Some m → n ≡ m
the_row {o} {n} {m} e f = ap (λ (x : Option NoteRow). unwrap_or x n) (sym e ∙ f)

-- NO ROW: the registers as they are
pub once_appended_none : {t : Tables} {s : List ℕ} {left : Deferred} {r : Registers} {P : List ℕ → Registers → Type 0} → left ≡ deferred_nothing r → P s r → OnceAppended t s left P
once_appended_none {t} {s} {left} {r} {P} e p = subst (λ (x : Deferred). OnceAppended t s x P) (sym e) leaves
  where
    leaves : OnceAppended t s (deferred_nothing r) P
    leaves =
        record {
          able = record { room = λ n y. absurd (not_both refl y); able = λ n y. absurd (not_both refl y) };
          done = λ s' r' f. subst (λ (x : List ℕ). P x r') (sym (f.same_store refl)) (subst (λ (x : Registers). P s x) (sym (f.same_registers refl)) p);
        }

-- A ROW
row_able : {t : Tables} {s : List ℕ} (left : Deferred) {n : NoteRow} → left.row ≡ Some n → Room t left.registers.counts (length s) 0 1 0 0 → Appendable t s left.registers n → DeferredFits t s left
row_able {t} {s} left e room a = record { room = λ m y. room; able = λ m y. subst (Appendable t s left.registers) (the_row e y) a }

-- a rest
pub once_appended_rest : {t : Tables} {s : List ℕ} {left : Deferred} {r : Registers} {kind : ℕ} {w : Length} → left ≡ deferred_rest r kind w → Room t r.counts (length s) 0 1 0 0 → Restable t s r kind w
    → OnceAppended t s left (λ s' r'. SimulatesRest t s r s' r' kind w)
once_appended_rest {t} {s} {left} {r} {kind} {w} e room h =
    subst (λ (x : Deferred). OnceAppended t s x (λ s' r'. SimulatesRest t s r s' r' kind w)) (sym e)
    (record { able = row_able (deferred_rest r kind w) refl room (rest_able h); done = λ s' r' f. rests_as (f.appended _ refl) })

-- a note or chord whose pitches are there
pub once_appended_sound : {t : Tables} {s : List ℕ} {left : Deferred} {r : Registers} {w : Length} {tie slur : Bool} {count : ℕ} → left ≡ deferred_sound r w tie slur count
    → Room t r.counts (length s) 0 1 0 0 → Soundable t s r count → OnceAppended t s left (λ s' r'. SimulatesSound t s r s' r' w tie slur count)
once_appended_sound {t} {s} {left} {r} {w} {tie} {slur} {count} e room h =
    subst (λ (x : Deferred). OnceAppended t s x (λ s' r'. SimulatesSound t s r s' r' w tie slur count)) (sym e)
    (record { able = row_able (deferred_sound r w tie slur count) refl room (sound_able w tie slur count h); done = λ s' r' f. sounds_as w tie slur count (f.appended _ refl) })

-- a note
pub once_appended_note : {t : Tables} {s s₁ : List ℕ} {left : Deferred} {r r₁ : Registers} {p : Pitch} {w : Length} {tie slur : Bool} → SimulatesPitch t s r s₁ r₁ p → left ≡ deferred_sound r₁ w tie slur 1
    → Room t r.counts (length s) 0 1 1 (signs p.sign) → RepresentedInLine t s r → OnceAppended t s₁ left (λ s₂ r₂. SimulatesNote t s r s₂ r₂ p w tie slur)
once_appended_note a e room h =
    let b = once_appended_sound e (note_room a room) (note_able a h) in
    record { able = b.able; done = λ s₂ r₂ f. notes_as a (b.done s₂ r₂ f) }
