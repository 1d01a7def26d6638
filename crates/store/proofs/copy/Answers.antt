-- `store::copy` meets its contract: so far i bytes are copied.
use mathlib.Core.Path.{◌≡◌, ap, ◌∙◌}
use Prim.Native.Nat.{ℕ}
use native.Mathlib.Omega.{arith}
use Rattle.laws.specs.Bytes.{splice, part}
use Rattle.laws.proofs.Splices.{length_spliced, copy_none, copy_more}
use Rattle.store.proofs.copy.Goals as goal

pub loop-i-init : goal.loop-i-init
loop-i-init c = copy_none _ _ _ _

pub bounds-dst-at : goal.bounds-dst-at
bounds-dst-at c = omega (arith, length_spliced _ _ _ _ c.loop-i.invariant)

pub loop-i-preserved : goal.loop-i-preserved
loop-i-preserved c = copy_more _ _ _ _ _ _ c.loop-i.invariant (omega arith)

pub shape_of-dst : goal.shape_of-dst
shape_of-dst c = length_spliced _ _ _ _ c.loop-i.invariant

pub returns : goal.returns
returns c =
    let a = c.args in
    let e : c.loop-i.i ≡ a.n = omega arith in
    c.loop-i.invariant ∙ ap (λ (k : ℕ). splice a.dst.now a.at (part a.src.now a.from k)) e
