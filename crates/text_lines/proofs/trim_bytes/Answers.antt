-- `text_lines::trim_bytes` meets its contract. The loop's invariant is `Trimming`.
use mathlib.Core.Path.{◌≡◌, ap, ◌∙◌}
use mathlib.Core.List.{[]}
use Prim.Native.Nat.{ℕ}
use native.Mathlib.Omega.{arith}
use Rattle.text_white.specs.States.{as_white}
use Rattle.text_lines.specs.Lines.{trim_from}
use Rattle.text_lines.proofs.Cleaning.{trimming_end}
use Rattle.text_lines.proofs.trim_bytes.Goals as goal

pub returns : goal.returns
returns c =
    let l = c.loop-i in
    let e : c.args.to ≡ l.i = omega (arith, l.auto.i-end c.requires.0) in
    trimming_end _ _ _ _ _ _ l.invariant c.loop-i-test.false _ (c.trim_done.ensures ∙ ap (λ (k : ℕ). trim_from (as_white l.t.q) l.t.end k []) e)
