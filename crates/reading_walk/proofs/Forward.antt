-- THE CODE KEEPS NO MARK OF GOING FORWARD: to be behind the section start is enough. Assumes nothing.
use mathlib.Core.Path.{◌≡◌, sym, ap, ◌∙◌}
use mathlib.Core.Bool.{Bool, true, false, cond, ◌&&◌}
use native.Mathlib.Omega.{arith}
use lib.Dec.{ltb}
use borrow.Author.Tests.{ltb-true, ltb-false}
use Rattle.laws.proofs.Bools.{by_test}
use Rattle.reading_walk.specs.Walk.{Bar, Place, opens, begin, entered}
use Rattle.reading_walk.proofs.Ends.{Stands}

-- a place at its section start that begins the section
at_start : (w : Place) → w.forward ≡ true → w.at ≡ w.section → w.pass ≡ 1 → begin w.at ≡ w
unfolding begin
at_start w f e p = λ i. record { at = w.at; section = e i; pass = sym p i; forward = sym f i }

-- entering, by a test
abbrev entered_if : Place → Bar → Bool → Place
entered_if w b c = cond (c && opens b.left) (begin w.at) w

went : (w : Place) (b : Bar) → Stands w → w.forward ≡ true → entered_if w b true ≡ entered_if w b (ltb w.section w.at)
went w b h f =
    by_test (ltb w.section w.at) (λ l. ap (entered_if w b) (sym l))
    (λ l.
    let e : w.at ≡ w.section = omega (arith, h.behind, ltb-false w.section w.at l) in
    by_test (opens b.left) (λ o. ap (λ (c : Bool). cond c (begin w.at) w) o ∙ at_start w f e (h.fresh f e)) (λ o. ap (λ (c : Bool). cond c (begin w.at) w) o)
    ∙ ap (entered_if w b) (sym l))

stood : (w : Place) (b : Bar) → Stands w → w.forward ≡ false → entered_if w b false ≡ entered_if w b (ltb w.section w.at)
stood w b h f =
    by_test (ltb w.section w.at) (λ l. absurd (omega (arith, ltb-true w.section w.at l, h.back f))) (λ l. ap (entered_if w b) (sym l))

pub forward_behind : (w : Place) (b : Bar) → Stands w → entered w b ≡ cond (ltb w.section w.at && opens b.left) (begin w.at) w
unfolding entered
forward_behind w b h =
    by_test w.forward (λ f. ap (entered_if w b) f ∙ went w b h f) (λ f. ap (entered_if w b) f ∙ stood w b h f)
