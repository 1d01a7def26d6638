-- A TEXT WHOSE LINES ARE THE SAME ONCE CUT AND TRIMMED IS READ, TOO, where it passes the four tests before the first line and its reading store is no shorter. Assumes nothing.
use Prim.Native.Nat.{ℕ, ◌≤◌}
use mathlib.Core.Path.{◌≡◌, refl, sym, ap, subst, ◌∙◌}
use mathlib.Core.Option.{Option, none, some}
use mathlib.Core.List.{List, map}
use native.Mathlib.Omega.{arith}
use lib.Dec.{leb}
use lib.ListN.{length}
use borrow.Author.Tests.{leb-true, le-leb}
use Rattle.laws.specs.Lists.{sum}
use Rattle.laws.proofs.Bools.{by_test}
use Rattle.editions.specs.declared.Edition.{Edition}
use Rattle.reader.specs.Text.{text_lines, clean}
use Rattle.reader.specs.Steps.{refuse, on}
use Rattle.reader.specs.Scan.{Items, Out, ScanState, scan}
use Rattle.reader.specs.Part.{Part}
use Rattle.reader.specs.Answer.{Outcome, early, encode, measure_count, written, ended, finish, scanned, unless, parse_abc}
use Rattle.blocks.specs.Demand.{Accepted}
use Rattle.blocks.proofs.End.{Not, early_not, late_no}
use Rattle.promises.specs.Refusals.{parts_after, Begins}
use Rattle.promises.proofs.Refusals.{after_tests}
use Rattle.promises.proofs.Free.{same_scan, same_lines}

-- an end that is a reading has a measure, and its store is long enough
ended_fits : (ps : List Part) (rl sl : ℕ) → Accepted (ended ps rl sl) → (1 ≤ sum measure_count ps) × (length (encode ps) ≤ rl)
unfolding ended
ended_fits ps rl sl =
    by_test (leb 1 (sum measure_count ps))
    (λ m. rw m
    (by_test (leb (length (encode ps)) rl) (λ k. rw k (λ h. (leb-true 1 (sum measure_count ps) m, leb-true (length (encode ps)) rl k))) (λ k. rw k (λ h. absurd (late_no 16 0 rl sl h)))))
    (λ m. rw m (λ h. absurd (late_no 1 0 rl sl h)))

fits_ended : (ps : List Part) (rl sl : ℕ) → 1 ≤ sum measure_count ps → length (encode ps) ≤ rl → Accepted (ended ps rl sl)
unfolding ended written
fits_ended ps rl sl m k = rw (le-leb 1 (sum measure_count ps) m) (rw (le-leb (length (encode ps)) rl k) tt)

-- an accepted text was scanned to such an end
abbrev Ended : Edition → List ℕ → ℕ → ℕ → Type 0
Ended ed text rl sl = (u : ScanState) × (c : Items) × ((scan ed (text_lines text) ≡ on u c) × Accepted (ended (parts_after ed u c) rl sl))

after_scan : (ed : Edition) (text : List ℕ) (rl sl : ℕ) (y : Out) → scan ed (text_lines text) ≡ y → Accepted (scanned ed rl sl y) → Ended ed text rl sl
unfolding scanned finish
after_scan ed text rl sl (refuse n l) e h = absurd (late_no n l rl sl h)
after_scan ed text rl sl (on u c) e h = (u, c, (e, h))

unless_ended : (ed : Edition) (text : List ℕ) (rl sl : ℕ) (x : Option Outcome) → Not x → Accepted (unless ed text rl sl x) → Ended ed text rl sl
unfolding unless
unless_ended ed text rl sl (some w) n h = absurd (n h)
unless_ended ed text rl sl none n h = after_scan ed text rl sl (scan ed (text_lines text)) refl h

accepted_ended : (ed : Edition) (text : List ℕ) (rl sl : ℕ) → Accepted (parse_abc ed text rl sl) → Ended ed text rl sl
unfolding parse_abc
accepted_ended ed text rl sl h = unless_ended ed text rl sl (early text rl sl) (early_not text rl sl) h

pub still_read : (ed : Edition) (text text' : List ℕ) (rl sl rl' sl' : ℕ) → map clean (text_lines text) ≡ map clean (text_lines text') → Accepted (parse_abc ed text rl sl) → Begins text' sl' → rl ≤ rl'
    → Accepted (parse_abc ed text' rl' sl') × ((parse_abc ed text rl sl).verdict ≡ (parse_abc ed text' rl' sl').verdict)
unfolding scanned finish
still_read ed text text' rl sl rl' sl' e h b le = go (accepted_ended ed text rl sl h)
  where
    go : Ended ed text rl sl → Accepted (parse_abc ed text' rl' sl') × ((parse_abc ed text rl sl).verdict ≡ (parse_abc ed text' rl' sl').verdict)
    go (u, c, (f, k)) =
        let q = ended_fits (parts_after ed u c) rl sl k in
        let x : parse_abc ed text' rl' sl' ≡ ended (parts_after ed u c) rl' sl' = after_tests ed text' rl' sl' b ∙ ap (scanned ed rl' sl') (sym (same_scan ed (text_lines text) (text_lines text') e) ∙ f) in
        let a : Accepted (parse_abc ed text' rl' sl') = subst Accepted (sym x) (fits_ended (parts_after ed u c) rl' sl' q.0 (omega (arith, q.1, le))) in
        (a, same_lines ed text text' rl sl rl' sl' e h a)
