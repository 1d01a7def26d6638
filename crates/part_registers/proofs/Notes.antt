-- What a note gets by the code's values is what the definition gives it.
use Prim.Native.Nat.{ℕ, zero, suc, min}
use mathlib.Core.Path.{◌≡◌, refl, sym, ap}
use mathlib.Core.Bool.{Bool}
use mathlib.Core.Option.{Option, none, some}
use native.Mathlib.Omega.{arith}
use lib.Dec.{leb, eqb}
use borrow.Author.Tests.{ne_eqb, eqb-true, eqb-false}
use Rattle.laws.proofs.Bools.{by_test}
use Rattle.standard.specs.Tuplets.{boundary}
use Rattle.standard.specs.Notes as Notes
use Rattle.standard.specs.Notes.{NoteKind, is_sounded, beamable, flags_of, Behind}
use Rattle.reader.specs.State as State
use Rattle.reader.specs.State.{Note}
use Rattle.reader.specs.Codes.{kind_code, beam_code, bit}
use Rattle.reader.specs.Part.{run_after, group_in, grouped, one_fewer, broken_note, after_half}
use Rattle.part_layout.specs.Log.{beamed_new}
use Rattle.token_lengths.specs.Values.{as_value, written}
use Rattle.token_lengths.proofs.Broken.{NoBar, broken_note_lem}
use Rattle.part_rows.specs.Encoded.{flags_byte, row_for}
use Rattle.part_registers.specs.Notes.{beams, bit_of, flags_in, length_in, boundary_of, grouped_row, fewer, broken_row, halved_row, run_again, beamed_row}
use Rattle.part_registers.specs.States.{pending_for, half_for, running_for}

pub beams_is : (k : NoteKind) (v : ℕ) → beams (kind_code k) v ≡ beamable k v
unfolding beams kind_code beamable is_sounded
beams_is Notes.sounded v = refl
beams_is Notes.rest v = refl
beams_is Notes.invisible_rest v = refl
beams_is Notes.bar_rest v = refl
beams_is Notes.invisible_bar_rest v = refl

pub note_flags_is : (p : Notes.Pending) (b : Behind) → flags_in (pending_for p) b.tie b.slur ≡ flags_byte (flags_of p b)
unfolding flags_in bit_of flags_byte bit flags_of
note_flags_is p b = refl

pub grouped_is : (t : Option State.Running) (m : Note) → grouped_row (running_for t) (row_for m) ≡ row_for (grouped t m)
unfolding grouped_row grouped group_in boundary boundary_of bit_of
grouped_is none m = refl
grouped_is (some t) m = refl

pub fewer_is : (t : Option State.Running) → fewer (running_for t) ≡ running_for (one_fewer t)
unfolding fewer one_fewer
fewer_is none = refl
fewer_is (some t) = by_test (leb t.remaining 1) (λ e. rw e) (λ e. rw e)

-- a length by its value and dots
length_proper : (v d : ℕ) → NoBar (length_in v d)
unfolding length_in
length_proper v d = by_test (eqb v 10) (λ e. rw e tt) (λ e. rw e (eqb-false v 10 e))

length_value : (v d : ℕ) → as_value (length_in v d) ≡ written v d
unfolding length_in
length_value v d = by_test (eqb v 10) (λ e. rw e (ap (λ (n : ℕ). written n d) (sym (eqb-true v 10 e)))) (λ e. rw e)

pub broken_is : (up : Bool) (n : ℕ) (m : Note) → broken_row up n (row_for m) ≡ row_for (broken_note (record { up = up; times = n }) m)
unfolding broken_row
broken_is up n m =
    sym (ap row_for (broken_note_lem up n (length_in m.value m.dots) m (length_proper m.value m.dots) (sym (length_value m.value m.dots))))

pub half_is : (h : Option State.Half) (m : Note) → halved_row (half_for h) (row_for m) ≡ row_for (after_half h m)
unfolding halved_row after_half
half_is none m = refl
half_is (some h) m = broken_is h.up h.times m

pub beamed_is : (r : ℕ) (m : Note) → beamed_row (min 2 r) (row_for m) ≡ row_for (beamed_new r m)
unfolding beamed_row beamed_new beam_code
beamed_is zero m = refl
beamed_is (suc r) m =
    rw (ne_eqb (min 2 (suc r)) 0 (λ e. omega arith), beams_is m.kind m.value) (by_test (beamable m.kind m.value) (λ e. rw e) (λ e. rw e))

pub run_is : (r : ℕ) (m : Note) → run_again (min 2 r) (kind_code m.kind) m.value ≡ min 2 (run_after r m)
unfolding run_again run_after
run_is zero m = rw (beams_is m.kind m.value) (by_test (beamable m.kind m.value) (λ e. rw e) (λ e. rw e))
run_is (suc r) m =
    rw (ne_eqb (min 2 (suc r)) 0 (λ e. omega arith), beams_is m.kind m.value)
    (by_test (beamable m.kind m.value) (λ e. rw e (omega arith)) (λ e. rw e))
