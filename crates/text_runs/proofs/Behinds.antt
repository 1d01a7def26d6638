-- The loop of `note_annotations`: what was met so far, and what stands from here on, are what stands from the start on.
use Prim.Native.Nat.{ℕ, suc, max, ◌+◌, ◌≤◌, ◌<◌}
use mathlib.Core.Path.{◌≡◌, refl, sym, ◌∙◌}
use mathlib.Core.Bool.{Bool, true, false, ◌||◌}
use mathlib.Core.List.{List}
use native.Mathlib.Decide.{dec_lt}
use native.Mathlib.Omega.{arith}
use lib.ListN.{length, get_or, drop, drop_of_length-le}
use borrow.Author.Tests.{ne_eqb}
use Rattle.laws.proofs.Bools.{or_true, or_false}
use Rattle.laws.proofs.Lists.{drop_next}
use Rattle.reader.specs.Sounds.{behind}
use Rattle.text_runs.specs.Behind.{behind_for}

-- WHAT STANDS AT A POSITION
module _ (line : List ℕ) (i : ℕ) where
  behind_tie : i < length line → get_or line i 0 ≡ 45
      → behind (drop i line) ≡ record { tie = true; slur = (behind (drop (i + 1) line)).slur; used = suc (behind (drop (i + 1) line)).used }
  unfolding behind
  behind_tie h e = rw (drop_next line i 0 h, e)

  behind_slur : i < length line → get_or line i 0 ≡ 41
      → behind (drop i line) ≡ record { tie = (behind (drop (i + 1) line)).tie; slur = true; used = suc (behind (drop (i + 1) line)).used }
  unfolding behind
  behind_slur h e = rw (drop_next line i 0 h, e)

  behind_other : i < length line → (get_or line i 0 ≡ 45 → ⊥) → (get_or line i 0 ≡ 41 → ⊥) → behind (drop i line) ≡ record { tie = false; slur = false; used = 0 }
  unfolding behind
  behind_other h m n = rw (drop_next line i 0 h, ne_eqb _ _ m, ne_eqb _ _ n, behind)

  behind_end : length line ≤ i → behind (drop i line) ≡ record { tie = false; slur = false; used = 0 }
  unfolding behind
  behind_end h = rw (drop_of_length-le line h)

-- THE LOOP
pub record Marking (line : List ℕ) (at : ℕ) (tie slur : Bool) (i : ℕ) : Type 0 where
  pub ties : (tie || (behind (drop i line)).tie) ≡ (behind (drop at line)).tie
  pub slurs : (slur || (behind (drop i line)).slur) ≡ (behind (drop at line)).slur
  pub ends : i + (behind (drop i line)).used ≡ at + (behind (drop at line)).used

pub marking_start : (line : List ℕ) (at : ℕ) → Marking line at false false at
marking_start line at = record { ties = refl; slurs = refl; ends = refl }

module _ (line : List ℕ) (at : ℕ) (tie slur : Bool) (i : ℕ) (r : Marking line at tie slur i) where
  -- a tie
  pub marking_tie : i < length line → get_or line i 0 ≡ 45 → Marking line at true slur (i + 1)
  marking_tie h e =
      let d = behind_tie line i h e in
      record {
        ties = sym (or_true tie) ∙ (rw d at r.ties);
        slurs = rw d at r.slurs;
        ends = omega (arith, rw d at r.ends);
      }

  -- a slur's end
  pub marking_slur : i < length line → get_or line i 0 ≡ 41 → Marking line at tie true (i + 1)
  marking_slur h e =
      let d = behind_slur line i h e in
      record {
        ties = rw d at r.ties;
        slurs = sym (or_true slur) ∙ (rw d at r.slurs);
        ends = omega (arith, rw d at r.ends);
      }

  -- neither is left
  marking_over : behind (drop i line) ≡ record { tie = false; slur = false; used = 0 } → record { tie = tie; slur = slur; next = i } ≡ behind_for at (behind (drop at line))
  marking_over d =
      let p : tie ≡ (behind (drop at line)).tie = sym (or_false tie) ∙ (rw d at r.ties) in
      let q : slur ≡ (behind (drop at line)).slur = sym (or_false slur) ∙ (rw d at r.slurs) in
      let n : i ≡ at + (behind (drop at line)).used = omega (arith, rw d at r.ends) in
      λ k. record { tie = p k; slur = q k; next = n k }

  -- another byte
  pub marking_other : i < length line → (get_or line i 0 ≡ 45 → ⊥) → (get_or line i 0 ≡ 41 → ⊥) → record { tie = tie; slur = slur; next = i } ≡ behind_for at (behind (drop at line))
  marking_other h m n = marking_over (behind_other line i h m n)

  -- the line's end, or a position past it
  pub marking_end : length line ≤ i → (at ≤ length line → i ≤ length line) → record { tie = tie; slur = slur; next = max at (length line) } ≡ behind_for at (behind (drop at line))
  marking_end h k = rw (last (dec_lt (length line) at)) (marking_over (behind_end line i h))
    where
      last : Dec (length line < at) → max at (length line) ≡ i
      last (yes l) = omega (arith, rw (behind_end line i h, behind_end line at (omega arith)) at r.ends)
      last (no l) = omega (arith, k (omega arith))
