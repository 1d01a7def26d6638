-- The program's stores are long enough: no input up to 1,792 bytes is refused with 15 or 16, the calling program's numbers.
use Prim.Native.Nat.{ℕ, ◌≤◌}
use mathlib.Core.Path.{◌≡◌, refl, subst}
use mathlib.Core.List.{List}
use native.Mathlib.Omega.{arith}
use borrow.Author.Tests.{le-leb}
use lib.Dec.{leb}
use lib.ListN.{length}
use Rattle.laws.specs.Lists.{sum}
use Rattle.laws.proofs.Bools.{by_test}
use Rattle.editions.specs.declared.Edition.TheVariants.{First}
use Rattle.reader.specs.Text.{is_utf8, is_blank, text_lines}
use Rattle.reader.specs.Steps.{refuse, on}
use Rattle.reader.specs.Scan.{Out, scan}
use Rattle.reader.specs.Answer.{Verdict, refusal, reading, most_bytes, scratch_needed, refused_with, early, encode, measure_count, written, ended, finish, scanned, unless, parse_abc}
use Rattle.bounds.proofs.ScanRanges.{not_15, OutFits, scan_out}
use Rattle.bounds.proofs.Reading.{parts_after, utf8_bytes, never_16}
use Rattle.tally_text.specs.Printed.{most_input, reading_bytes, scratch_bytes}

-- no refusal of 15
abbrev Not15 : Verdict → Type 0
Not15 (refusal n l) = n ≡ 15 → ⊥
Not15 (reading ps) = Unit {0}

scanned_15 : (rl sl : ℕ) (o : Out) → OutFits o → Not15 (scanned First rl sl o).verdict
unfolding scanned finish ended written refused_with OutFits
scanned_15 rl sl (refuse n l) f = not_15 n f
scanned_15 rl sl (on t a) f =
    let ps = parts_after First t a in
    by_test (leb 1 (sum measure_count ps))
    (λ m. rw m (by_test (leb (length (encode ps)) rl) (λ k. rw k tt) (λ k. rw k (λ e. absurd (omega (arith, e))))))
    (λ m. rw m (λ e. absurd (omega (arith, e))))

early_15 : (text : List ℕ) (rl sl : ℕ) → scratch_needed (length text) ≤ sl → Not15 (parse_abc First text rl sl).verdict
unfolding parse_abc early unless refused_with
early_15 text rl sl h =
    by_test (leb (length text) most_bytes)
    (λ a. rw a
    (by_test (is_utf8 text)
    (λ b. rw b
    (by_test (is_blank text) (λ c. rw c (λ e. absurd (omega (arith, e))))
    (λ c. rw (c, le-leb (scratch_needed (length text)) sl h) (scanned_15 rl sl (scan First (text_lines text)) (scan_out First text (utf8_bytes text b))))))
    (λ b. rw b (λ e. absurd (omega (arith, e))))))
    (λ a. rw a (λ e. absurd (omega (arith, e))))

module _ (input : List ℕ) (h : length input ≤ most_input) where
  pub never_15 : (l : ℕ) → (parse_abc First input reading_bytes scratch_bytes).verdict ≡ refusal 15 l → ⊥
  unfolding scratch_needed
  never_15 l e = subst Not15 e (early_15 input reading_bytes scratch_bytes (omega (arith, h))) refl

  pub never_short : (l : ℕ) → (parse_abc First input reading_bytes scratch_bytes).verdict ≡ refusal 16 l → ⊥
  never_short l e = never_16 First input reading_bytes scratch_bytes l (omega (arith, h)) e
