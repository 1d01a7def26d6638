-- `write_syllables::write_text` meets its contract: byte after byte.
use Prim.Native.Nat.{ℕ, ◌-◌}
use mathlib.Core.Path.{◌≡◌, refl, ap, ◌∙◌}
use native.Mathlib.Omega.{arith}
use Rattle.laws.specs.Bytes.{part, splice}
use Rattle.laws.proofs.Splices.{length_spliced}
use Rattle.standard.specs.Lyrics.{syllable_text}
use Rattle.write_syllables.proofs.Pieces.{text_none, text_wrote, text_start, text_on}
use Rattle.write_syllables.proofs.write_text.Goals as goal

pub returns-then-to-len : goal.returns-then-to-len
returns-then-to-len c =
    let a = c.args in
    text_none a.text.now a.at a.end (omega arith) c.if-to-len.true

pub loop-j-init : goal.loop-j-init
loop-j-init c = (refl, text_start _ _ _)

pub loop-j-preserved : goal.loop-j-preserved
loop-j-preserved c =
    let p = text_on _ _ _ _ _ _ c.loop-j.invariant.1 c.sung_byte.ensures (omega arith) in
    (length_spliced _ _ _ _ p, p)

pub returns : goal.returns
returns c =
    let a = c.args in
    let e : c.loop-j.j ≡ a.end - a.at = omega (arith, c.loop-j-test.false) in
    text_wrote a.text.now a.at a.end (omega arith) (omega arith) (c.loop-j.invariant.1 ∙ ap (λ (k : ℕ). splice a.to.now 0 (syllable_text (part a.text.now a.at k))) e)
