-- THE ROW OF A NOTE in a store, byte by byte, and what is asked of it.
use Prim.Native.Nat.{ℕ, ◌+◌, ◌%◌, ◌≤◌, ◌<◌}
use mathlib.Core.Path.{◌≡◌, sym, ap, ◌∙◌}
use mathlib.Core.Bool.{Bool, true, false, ◌&&◌}
use mathlib.Core.List.{List}
use native.Mathlib.Nat.{add-zero}
use native.Mathlib.Omega.{arith}
use lib.Dec.{eqb, leb}
use lib.ListN.{get_or}
use borrow.Author.Tests.{le-leb, lt-leb}
use Rattle.laws.specs.Bytes.{part, little}
use Rattle.laws.proofs.Bools.{by_test, and_both, and_no_left, and_no_right}
use Rattle.laws.proofs.Parts.{get_d_part}
use Rattle.standard.specs.Notes.{Flags}
use Rattle.reader.specs.State.{Note}
use Rattle.reader.specs.Codes.{kind_code, bit}
use Rattle.reader.specs.Records.{is_sung}
use Rattle.reader.proofs.CodeLaws.{kind_sounded, bit_le}
use Rattle.part_rows.specs.Encoded.{flags_byte, row_bytes, note_row, note_row_width, voice_at, flags_at}
use Rattle.part_rows.specs.Read.{sounds_at, of_voice_at, grace_at, lead_row, sung_row}

-- AS THE CODE ASKS
module _ (s : List ℕ) (p : ℕ) where
  pub row_other : of_voice_at s 0 p ≡ false → sung_row s p ≡ false
  unfolding sung_row lead_row
  row_other h = and_no_left _ _ h

  pub row_rest : sounds_at s p ≡ false → sung_row s p ≡ false
  unfolding sung_row
  row_rest h = and_no_right (lead_row s p) _ h

  pub row_sung : of_voice_at s 0 p ≡ true → sounds_at s p ≡ true → sung_row s p ≡ true
  unfolding sung_row lead_row
  row_sung h g = and_both _ _ h g

-- flags but the last are below 32
pub marks_small : (f : Flags) → flags_byte f % 32 ≡ flags_byte f
unfolding flags_byte
marks_small f = omega (arith, bit_le f.tie_start 1, bit_le f.tie_end 2, bit_le f.slur_start 4, bit_le f.slur_end 8, bit_le f.grace 16)

-- and 16 or more for a grace note
grace_flag : (f : Flags) → leb 16 (flags_byte f) ≡ f.grace
unfolding flags_byte bit
grace_flag f =
    let low = bit f.tie_start 1 + bit f.tie_end 2 + bit f.slur_start 4 + bit f.slur_end 8 in
    let few : low ≤ 15 = omega (arith, bit_le f.tie_start 1, bit_le f.tie_end 2, bit_le f.slur_start 4, bit_le f.slur_end 8) in
    by_test f.grace (λ e. rw e (le-leb 16 (low + 16) (omega arith))) (λ e. rw e (lt-leb 16 (low + 0) (omega (arith, few))))

-- THE ROW OF A NOTE AND ITS VOICE
module _ (s : List ℕ) (p : ℕ) (x : ℕ × Note) (e : part s p note_row_width ≡ note_row x) where
  pub byte : (k : ℕ) → k < note_row_width → get_or s (p + k) 0 ≡ get_or (note_row x) k 0
  byte k h = sym (get_d_part s p note_row_width k h) ∙ ap (λ (l : List ℕ). get_or l k 0) e

  pub byte_kind : get_or s p 0 ≡ kind_code x.1.kind
  unfolding row_bytes
  byte_kind = ap (λ (k : ℕ). get_or s k 0) (sym (add-zero p)) ∙ byte 0 (omega arith)

  pub byte_voice : get_or s (p + voice_at) 0 ≡ x.0
  unfolding row_bytes little
  byte_voice = byte voice_at (omega arith)

  pub lead_is : lead_row s p ≡ eqb x.0 0
  unfolding lead_row
  lead_is = ap (λ (k : ℕ). eqb k 0) byte_voice

  pub sung_is : sung_row s p ≡ is_sung x
  unfolding sung_row is_sung
  sung_is = (λ i. lead_is i && eqb (byte_kind i) 0) ∙ ap (λ (c : Bool). eqb x.0 0 && c) (kind_sounded x.1.kind)

  pub grace_is : grace_at s p ≡ x.1.flags.grace
  unfolding row_bytes
  grace_is = ap (λ (k : ℕ). leb 16 (k % 32)) (byte flags_at (omega arith)) ∙ ap (leb 16) (marks_small x.1.flags) ∙ grace_flag x.1.flags
