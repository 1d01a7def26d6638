-- `lyric_spans::word_end` meets its contract.
use mathlib.Core.Path.{◌≡◌, sym, ap, ◌∙◌}
use Prim.Native.Nat.{ℕ, ◌+◌, ◌<◌}
use native.Mathlib.Omega.{arith}
use Rattle.laws.specs.Bytes.{between}
use Rattle.reader.specs.Pieces.{white_at}
use Rattle.lyric_spans.proofs.Whites.{no_white_here, stretch_on, stretch_off, stretch_over, end_here}
use Rattle.lyric_spans.proofs.word_end.Goals as goal
use Rattle.lyric_spans.proofs.word_end.Goals.{else-may_be_white-via-then-may_be_white+else-white_at-gt0, else-may_be_white-via-else-may_be_white}

-- white space
pub returns-then-white_at-gt0 : goal.returns-then-white_at-gt0
returns-then-white_at-gt0 c =
    let a = c.args in
    let p = c.requires in
    let l = c.loop-i in
    let s = a.text.now in
    let some : 0 < white_at (between s l.i a.end) = omega (arith, c.white_at.ensures, c.if-white_at-gt0.true) in
    let z = stretch_off s l.i a.end c.loop-i-test.true p.1 some in
    end_here s a.at a.end l.i p.0 p.1 p.2 (ap (λ (k : ℕ). l.i + k) (sym z) ∙ l.invariant) (omega arith) (λ h. some)

-- none: a byte with which no white character begins, or none of it
pub loop-i-preserved : goal.loop-i-preserved
loop-i-preserved c =
    let a = c.args in
    let l = c.loop-i in
    let s = a.text.now in
    let more = c.loop-i-test.true in
    let none : white_at (between s l.i a.end) ≡ 0 = elim c.else-may_be_white.branch [
      | else-may_be_white-via-then-may_be_white+else-white_at-gt0 w ↦ omega (arith, w.white_at.ensures, w.if-white_at-gt0.false)
      | else-may_be_white-via-else-may_be_white w ↦ no_white_here s l.i a.end more c.requires.1 (sym c.may_be_white.ensures ∙ w.if-may_be_white.false)
    ] in
    omega (arith, stretch_on s l.i a.end more c.requires.1 none, l.invariant)

pub returns : goal.returns
returns c =
    let a = c.args in
    let p = c.requires in
    let l = c.loop-i in
    let over = stretch_over a.text.now l.i a.end c.loop-i-test.false in
    end_here a.text.now a.at a.end a.end p.0 p.1 p.2 (omega (arith, over, l.invariant)) (omega arith) (λ h. absurd (omega arith))
