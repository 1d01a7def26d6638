-- Octave marks, by position.
use Prim.Native.Nat.{ℕ, ◌+◌, ◌-◌, ◌≤◌, ◌<◌}
use mathlib.Core.Path.{◌≡◌, refl, sym, ap, ◌∙◌}
use mathlib.Core.Bool.{true, false, ◌&&◌}
use mathlib.Core.List.{List}
use native.Mathlib.Omega.{arith}
use lib.Dec.{eqb, leb}
use lib.ListN.{drop, get_or}
use lib.Seq.{drop-drop}
use borrow.Author.Tests.{le-leb, lt-leb, ne_eqb}
use Rattle.laws.specs.Lists.{count_while}
use Rattle.laws.specs.Spans.{end_of}
use Rattle.laws.proofs.Bools.{and_no_left, and_no_right, and_both}
use Rattle.laws.proofs.Spans.{end_off}
use Rattle.reader.specs.Pitches.{Octave, octave_from}
use Rattle.token_pitches.specs.Pitches.{octave_for, octave_at, octave_out}

pub fine : (at : ℕ) (o : Octave) → o.fine ≡ true → octave_for at o ≡ octave_at o.octave (at + o.used)
unfolding octave_for
fine at o e = rw (e, octave_for)

pub refused : (at : ℕ) (o : Octave) → o.fine ≡ false → octave_for at o ≡ octave_out
unfolding octave_for
refused at o e = rw (e, octave_for)

module _ (line : List ℕ) (at start down up : ℕ) (e : down ≡ end_of (λ c. eqb c 44) line at) (f : up ≡ end_of (λ c. eqb c 39) line down) where
  -- commas, and apostrophes behind them
  commas : down - at ≡ count_while (λ c. eqb c 44) (drop at line)
  commas = omega (arith, e)

  rises : up - down ≡ count_while (λ c. eqb c 39) (drop (count_while (λ c. eqb c 44) (drop at line)) (drop at line))
  rises =
      let q : drop (count_while (λ c. eqb c 44) (drop at line)) (drop at line) ≡ drop down line = drop-drop (count_while (λ c. eqb c 44) (drop at line)) at line ∙ ap (λ k. drop k line) (sym e) in
      let n : up - down ≡ count_while (λ c. eqb c 39) (drop down line) = omega (arith, f) in
      n ∙ ap (count_while (λ c. eqb c 39)) (sym q)

  -- the octave is fine where no mark leaves the bounds
  fine_by : (octave_from start (drop at line)).fine ≡ (leb (down - at) start && leb (start - (down - at) + (up - down)) 255)
  unfolding octave_from
  fine_by = rw (rises, commas)

  -- too low
  pub marks_low : start < down - at → octave_out ≡ octave_for at (octave_from start (drop at line))
  marks_low h = sym (refused at (octave_from start (drop at line)) (fine_by ∙ and_no_left _ _ (lt-leb _ _ h)))

  -- too high
  pub marks_high : down - at ≤ start → 255 - (start - (down - at)) < up - down → start ≤ 255 → octave_out ≡ octave_for at (octave_from start (drop at line))
  marks_high h k l =
      let m : 255 < start - (down - at) + (up - down) = omega arith in
      sym (refused at (octave_from start (drop at line)) (fine_by ∙ and_no_right (leb (down - at) start) _ (lt-leb _ _ m)))

  -- what is read
  read_as_lem : octave_at (octave_from start (drop at line)).octave (at + (octave_from start (drop at line)).used) ≡ octave_at (start - (down - at) + (up - down)) (at + (down - at + (up - down)))
  unfolding octave_from
  read_as_lem = rw (rises, commas)

  -- within
  pub marks_at : down - at ≤ start → up - down ≤ 255 - (start - (down - at)) → start ≤ 255 → octave_at (start - (down - at) + (up - down)) up ≡ octave_for at (octave_from start (drop at line))
  marks_at h k l =
      let n : at + (down - at + (up - down)) ≡ up = omega (arith, e, f) in
      let m : start - (down - at) + (up - down) ≤ 255 = omega arith in
      sym (fine at (octave_from start (drop at line)) (fine_by ∙ and_both _ _ (le-leb _ _ h) (le-leb _ _ m)) ∙ read_as_lem ∙ ap (octave_at (start - (down - at) + (up - down))) n)

-- a byte above the comma: no mark
pub marks_none : (line : List ℕ) (at start : ℕ) → 44 < get_or line at 0 → start ≤ 255 → octave_at start at ≡ octave_for at (octave_from start (drop at line))
marks_none line at start h l =
    let b = get_or line at 0 in
    let no : (m : ℕ) → m ≤ 44 → eqb b m ≡ false = λ m k. ne_eqb b m (λ e. omega arith) in
    let z : start - (at - at) + (at - at) ≡ start = omega arith in
    rw z at (marks_at line at start at at (sym (end_off (λ c. eqb c 44) refl line at (no 44 (omega arith)))) (sym (end_off (λ c. eqb c 39) refl line at (no 39 (omega arith)))) (omega arith) (omega arith) l)
