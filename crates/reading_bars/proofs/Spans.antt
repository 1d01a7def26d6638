-- Spans as numbers; a measure that the code reads lies within the reading, and is the one of its index.
use Prim.Native.Nat.{ℕ, zero, suc, ◌+◌, ◌-◌, ◌*◌, ◌≤◌, ◌<◌}
use mathlib.Core.Path.{◌≡◌, refl, sym, ap, ◌∙◌}
use mathlib.Core.Bool.{Bool}
use mathlib.Core.Option.{Option, none, some}
use mathlib.Core.List.{List}
use native.Mathlib.Omega.{arith}
use lib.ListN.{length}
use Rattle.reader.specs.Records.{measure_width}
use Rattle.reading_sections.specs.Sections.{behind, record_at, volta_of, passes_of}
use Rattle.reading_walk.specs.Walk.{opens}
use Rattle.reading_walk.specs.Spans.{span_at, span_after, open_before, bar_at}
use Rattle.reading_bars.specs.Bars.{span_of, BarIs}
use Rattle.reading_bars.specs.Parts.{Here}
use Rattle.reading_bars.specs.declared.Bar.{Bar}

-- a span's number
pub span_some : (ps : ℕ) → span_of (ps + 1) ≡ some ps
unfolding span_of
span_some ps = let e : ps + 1 ≡ suc ps = omega arith in rw e

pub span_none : (n : ℕ) → n ≡ 0 → span_of n ≡ none
unfolding span_of
span_none n e = rw e

pub span_there : (n : ℕ) → (n ≡ 0 → ⊥) → span_of n ≡ some (n - 1)
unfolding span_of
span_there zero h = absurd (h refl)
span_there (suc n) h = ap some (omega arith)

-- its record lies within the reading
pub record_in : (s : List ℕ) (at n i : ℕ) → Here s at n → i < n → at + 4 + measure_width * i + measure_width ≤ length s
unfolding behind
record_in s at n i h l = omega (arith, h.inside, h.count_is, l)

-- measure i, before which the code keeps the span that is open there
module _ (s : List ℕ) (at i before : ℕ) (b : Bar) (h : BarIs s (record_at measure_width at i) before b) (e : span_of before ≡ open_before s at i) where
  pub bar_left_lem : b.left ≡ (bar_at s at i).left
  unfolding bar_at
  bar_left_lem = h.left_is

  -- a test of its left barline that came out as v
  pub bar_opens : {r v : Bool} → r ≡ opens b.left → r ≡ v → opens (bar_at s at i).left ≡ v
  bar_opens t e = ap opens (sym bar_left_lem) ∙ sym t ∙ e

  pub bar_right_lem : b.right ≡ (bar_at s at i).right
  unfolding bar_at
  bar_right_lem = h.right_is

  pub bar_span : span_of b.span ≡ (bar_at s at i).span
  unfolding bar_at
  bar_span = let r = record_at measure_width at i in h.span_is ∙ ap (λ (o : Option ℕ). span_at o (volta_of s r) (passes_of s r)) e

  pub bar_after : span_of b.after ≡ open_before s at (suc i)
  unfolding open_before
  bar_after = let r = record_at measure_width at i in h.after_is ∙ ap (λ (o : Option ℕ). span_after o (volta_of s r) (passes_of s r)) e
