-- The sections of a part lie inside it.
use Prim.Native.Nat.{ℕ, ◌+◌, ◌≤◌}
use mathlib.Core.List.{List}
use native.Mathlib.Omega.{arith}
use lib.ListN.{length}
use Rattle.reading_sections.specs.Sections.{behind, part_end, notes_at, pitches_at, lyrics_at, text_at}

-- a section ends behind its count
pub behind_past : (s : List ℕ) (w at : ℕ) → at + 4 ≤ behind s w at
unfolding behind
behind_past s w at = omega arith

-- the sections of a part end within it
pub record Inside (s : List ℕ) (at : ℕ) : Type 0 where
  pub notes : notes_at s at ≤ length s
  pub pitches : pitches_at s at ≤ length s
  pub lyrics : lyrics_at s at ≤ length s
  pub text : text_at s at ≤ length s
  pub end : behind s 1 (text_at s at) ≤ length s

pub inside : (s : List ℕ) (at : ℕ) → part_end s at ≤ length s → Inside s at
unfolding part_end
inside s at h =
    let a = behind_past s 12 (notes_at s at) in
    let b = behind_past s 5 (pitches_at s at) in
    let c = behind_past s 11 (lyrics_at s at) in
    let d = behind_past s 1 (text_at s at) in
    record { notes = omega (arith, a, b, c, d, h); pitches = omega (arith, b, c, d, h); lyrics = omega (arith, c, d, h); text = omega (arith, d, h); end = h }
