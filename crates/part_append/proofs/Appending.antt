-- The code's steps, one after the other, are the definition's `append`.
use Prim.Native.Nat.{ℕ, suc, ◌+◌, ◌-◌, ◌*◌, ◌^◌, ◌<◌}
use mathlib.Core.Path.{◌≡◌, ap, ◌∙◌}
use mathlib.Core.Bool.{Bool, true, false}
use mathlib.Core.List.{List, [], ◌∷◌}
use borrow.Author.Tests.{eq-eqb, ne_eqb}
use lib.ListN.{length, get_or}
use Rattle.laws.specs.Bytes.{splice, le32, u32_at}
use Rattle.part_rows.specs.declared.NoteRow.{NoteRow}
use Rattle.part_rows.specs.Encoded.{row_bytes, note_row_width, beam_at}
use Rattle.part_registers.specs.declared.Tables.{Tables}
use Rattle.part_registers.specs.declared.Registers.{Registers}
use Rattle.part_registers.specs.Notes.{beams, grouped_row, beamed_row, halved_row}
use Rattle.part_invariant.specs.Invariant.{Room, Appendable, Appends}
use Rattle.part_invariant.specs.Appended.{before_store, appended}
use Rattle.part_invariant.proofs.Appending.{append_small, appends}
use Rattle.reader.specs.Records.{measure_width}

-- THE BEAM OF THE NOTE BEFORE, by the code's tests
module _ (s : List ℕ) (at place run kind value : ℕ) where
  pub before_none : run ≡ 0 → s ≡ before_store s at place run kind value
  unfolding before_store
  before_none z = rw (eq-eqb run 0 z)

  module _ (n : run ≡ 0 → ⊥) (b : Bool) (e : b ≡ beams kind value) where
    pub before_plain : b ≡ false → s ≡ before_store s at place run kind value
    unfolding before_store
    before_plain f = rw (ne_eqb run 0 n, ← e, f)

    pub before_first : b ≡ true → run ≡ 1 → (s' : List ℕ) → s' ≡ splice s (at + note_row_width * (place - 1) + beam_at) (1 ∷ []) → s' ≡ before_store s at place run kind value
    unfolding before_store
    before_first y o s' d = rw (ne_eqb run 0 n, ← e, y, eq-eqb run 1 o) d

    pub before_later : b ≡ true → (run ≡ 1 → ⊥) → (s' : List ℕ) → s' ≡ splice s (at + note_row_width * (place - 1) + beam_at) (2 ∷ []) → s' ≡ before_store s at place run kind value
    unfolding before_store
    before_later y o s' d = rw (ne_eqb run 0 n, ← e, y, ne_eqb run 1 o) d

-- A NOTE APPENDED
module _ {t : Tables} {s : List ℕ} {r : Registers} {n : NoteRow} (room : Room t r.counts (length s) 0 1 0 0) (a : Appendable t s r n) (g m : NoteRow) (dg : g ≡ grouped_row r.tuplet n)
    (dm : m ≡ halved_row r.half (beamed_row r.line.run g)) (s₁ s₂ : List ℕ)
    (b₁ : s₁ ≡ before_store s t.notes (get_or r.last r.line.overlay 0) r.line.run g.kind g.value)
    (b₂ : s₂ ≡ splice s₁ (t.notes + note_row_width * r.counts.notes) (row_bytes m r.line.overlay)) where
  e₁ : s₁ ≡ before_store s t.notes (get_or r.last r.line.overlay 0) r.line.run (grouped_row r.tuplet n).kind (grouped_row r.tuplet n).value
  e₁ = b₁ ∙ (λ i. before_store s t.notes (get_or r.last r.line.overlay 0) r.line.run (dg i).kind (dg i).value)

  e₂ : s₂ ≡ splice s₁ (t.notes + note_row_width * r.counts.notes) (row_bytes (halved_row r.half (beamed_row r.line.run (grouped_row r.tuplet n))) r.line.overlay)
  e₂ =
      b₂
      ∙ ap (λ (q : NoteRow). splice s₁ (t.notes + note_row_width * r.counts.notes) (row_bytes q r.line.overlay)) (dm ∙ ap (λ (q : NoteRow). halved_row r.half (beamed_row r.line.run q)) dg)

  pub counts_on : u32_at s₂ (t.heads + measure_width * (r.counts.heads - 1) + 4 * r.line.overlay) + 1 < 2 ^ 32
  counts_on = append_small room s₁ s₂ e₁ e₂ a

  pub appends_on : (s₃ : List ℕ) → s₃ ≡ splice s₂ (t.heads + measure_width * (r.counts.heads - 1) + 4 * r.line.overlay) (le32 (suc (u32_at s₂ (t.heads + measure_width * (r.counts.heads - 1) + 4 * r.line.overlay))))
      → (r' : Registers) → r' ≡ appended r g.kind g.value → Appends t s r s₃ r' n
  appends_on s₃ e₃ r' d = appends room s₁ s₂ e₁ e₂ s₃ e₃ a r' (d ∙ (λ i. appended r (dg i).kind (dg i).value))
