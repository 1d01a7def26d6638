-- THE KINDS OF STOPS, row by row, and what a write behind the measures and notes leaves of them.
use Prim.Native.Nat.{ℕ, zero, suc, ◌+◌, ◌-◌, ◌*◌, ◌%◌, ◌≤◌, ◌<◌}
use mathlib.Core.Path.{◌≡◌, refl, sym, ap, ap₂, ◌∙◌}
use mathlib.Core.Bool.{Bool, true, false, cond, not, ◌&&◌, ◌||◌}
use mathlib.Core.List.{List, [], ◌∷◌, ◌++◌}
use native.Mathlib.Omega.{arith}
use lib.Dec.{eqb, leb}
use lib.ListN.{take, get_or}
use Rattle.laws.specs.Bytes.{u32_at}
use Rattle.laws.proofs.Bools.{or_true, or_false}
use Rattle.laws.proofs.Splices.{byte_own}
use Rattle.laws.proofs.Numbers.{little_at_own}
use Rattle.laws.proofs.Parts.{part_front}
use Rattle.reader.specs.Records.{measure_width}
use Rattle.lyric_stops.specs.declared.Kind.{Kind}
use Rattle.part_rows.specs.Encoded.{note_row_width, flags_at, voice_at}
use Rattle.part_rows.specs.Read.{grace_at, lead_row, sung_row}
use Rattle.part_measures.specs.Heads.{note_count}
use Rattle.part_stops.specs.Marks.{mark_at, begun_after, marks_in, marks_of}

-- A ROW: of a note that is not sung, a grace note, another
module _ (s : List ℕ) (b : Bool) (p : ℕ) where
  pub mark_quiet : sung_row s p ≡ false → (mark_at s b p ≡ []) × (begun_after s b p ≡ b)
  unfolding mark_at begun_after
  mark_quiet e = (rw (e, mark_at), rw e (or_false b))

  pub mark_grace : sung_row s p ≡ true → grace_at s p ≡ true → (mark_at s b p ≡ Kind.Passed ∷ []) × (begun_after s b p ≡ b)
  unfolding mark_at begun_after
  mark_grace e f = (rw (e, mark_at) (rw f), rw (e, f) (or_false b))

  pub mark_other : sung_row s p ≡ true → grace_at s p ≡ false → (mark_at s b p ≡ cond b Kind.Later Kind.First ∷ []) × (begun_after s b p ≡ true)
  unfolding mark_at begun_after
  mark_other e f = (rw (e, mark_at) (rw f), rw (e, f) (or_true b))

-- WRITES BEHIND
module _ (s t : List ℕ) (lo : ℕ) (e : take lo t ≡ take lo s) where
  byte_front : (k : ℕ) → k < lo → get_or t k 0 ≡ get_or s k 0
  byte_front k h = byte_own t k ∙ ap (λ (b : List ℕ). get_or b 0 0) (part_front t s lo k 1 e (omega arith)) ∙ sym (byte_own s k)

  word_front : (k : ℕ) → k + 4 ≤ lo → u32_at t k ≡ u32_at s k
  word_front k h = little_at_own 4 t k ∙ ap (λ (b : List ℕ). u32_at b 0) (part_front t s lo k 4 e h) ∙ sym (little_at_own 4 s k)

  -- a note's row
  sung_front : (p : ℕ) → p + note_row_width ≤ lo → sung_row t p ≡ sung_row s p
  unfolding sung_row lead_row
  sung_front p h = λ i. eqb (byte_front (p + voice_at) (omega arith) i) 0 && eqb (byte_front p (omega arith) i) 0

  grace_front : (p : ℕ) → p + note_row_width ≤ lo → grace_at t p ≡ grace_at s p
  grace_front p h = ap (λ (k : ℕ). leb 16 (k % 32)) (byte_front (p + flags_at) (omega arith))

  pub mark_front : (b : Bool) (p : ℕ) → p + note_row_width ≤ lo → mark_at t b p ≡ mark_at s b p
  unfolding mark_at
  mark_front b p h = λ i. elim (sung_front p h i) [ true ↦ cond (grace_front p h i) Kind.Passed (cond b Kind.Later Kind.First) ∷ [] | false ↦ [] ]

  pub begun_front : (b : Bool) (p : ℕ) → p + note_row_width ≤ lo → begun_after t b p ≡ begun_after s b p
  unfolding begun_after
  begun_front b p h = λ i. b || (sung_front p h i && not (grace_front p h i))

  -- the rows of a measure
  pub marks_front : (b : Bool) (p k : ℕ) → p + note_row_width * k ≤ lo → marks_in t b p k ≡ marks_in s b p k
  unfolding marks_in
  marks_front b p zero h = refl
  marks_front b p (suc k) h =
      ap₂ (λ (m : List Kind) (c : Bool). m ++ marks_in t c (p + note_row_width) k) (mark_front b p (omega arith)) (begun_front b p (omega arith))
      ∙ ap (λ (l : List Kind). mark_at s b p ++ l) (marks_front (begun_after s b p) (p + note_row_width) k (omega arith))

  -- a measure's row
  pub count_front : (h : ℕ) → h + measure_width ≤ lo → note_count t h ≡ note_count s h
  unfolding note_count
  count_front h l = λ i. word_front h (omega arith) i + word_front (h + 4) (omega arith) i + word_front (h + 8) (omega arith) i + word_front (h + 12) (omega arith) i

-- STEPS, as the loops take them
pub marks_step : (s : List ℕ) (b : Bool) (p k : ℕ) → 0 < k → marks_in s b p k ≡ mark_at s b p ++ marks_in s (begun_after s b p) (p + note_row_width) (k - 1)
unfolding marks_in
marks_step s b p zero h = absurd (omega arith)
marks_step s b p (suc k) h = let e : suc k - 1 ≡ k = omega arith in rw e

pub marks_none : (s : List ℕ) (b : Bool) (p k : ℕ) → k ≡ 0 → marks_in s b p k ≡ []
unfolding marks_in
marks_none s b p k e = rw e

pub all_step : (s : List ℕ) (h p n k : ℕ) → 0 < n → k ≡ note_count s h
    → marks_of s h p n ≡ marks_in s false p k ++ marks_of s (h + measure_width) (p + note_row_width * k) (n - 1)
unfolding marks_of
all_step s h p zero k l e = absurd (omega arith)
all_step s h p (suc n) k l e = let f : suc n - 1 ≡ n = omega arith in rw (f, e)

pub all_none : (s : List ℕ) (h p n : ℕ) → n ≡ 0 → marks_of s h p n ≡ []
unfolding marks_of
all_none s h p n e = rw e
