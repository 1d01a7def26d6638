-- The table of letter classes has the definition's class at each entry; the bytes above are skipped.
use Prim.Native.Nat.{ℕ, zero, suc, ◌+◌, ◌≤◌, ◌<◌}
use mathlib.Core.Path.{◌≡◌, refl, sym, ap, ◌∙◌}
use mathlib.Core.Bool.{Bool, true, false, ◌||◌, false≢true}
use native.Mathlib.Nat.{add-zero, zero-add, add-suc, suc-add, le_of_suc-le-suc, not-suc-le-zero}
use lib.Dec.{ltb}
use lib.ListN.{get_or}
use borrow.Author.Tests.{le-ltb}
use Rattle.laws.proofs.Finite.{below}
use Rattle.reader.specs.Tokens as reader
use Rattle.reader.specs.Tokens.{white, ampersand, quote, more, less, paren, brace_open, brace_close, bang, plus, bars, bracket, pitched, none-of-these, resting, class_of, class_in, classes}
use Rattle.token_symbols.specs.declared.Class.TheVariants.{Skip}
use Rattle.token_symbols.specs.Classes.{class_for, classes_from, class_table}

-- an entry of the list of classes from i on
from_at : (i n k : ℕ) → k < n → get_or (classes_from i n) k Skip ≡ class_for (class_of (i + k))
unfolding classes_from
from_at i zero k h = absurd (not-suc-le-zero h)
from_at i (suc n) zero h = ap (λ (j : ℕ). class_for (class_of j)) (sym (add-zero i))
from_at i (suc n) (suc k) h = from_at (suc i) n k (le_of_suc-le-suc h) ∙ ap (λ (j : ℕ). class_for (class_of j)) (suc-add i k ∙ sym (add-suc i k))

pub table_at : (k : ℕ) → k < 128 → get_or class_table k Skip ≡ class_for (class_of k)
unfolding class_table
table_at k h = from_at 0 128 k h ∙ ap (λ (j : ℕ). class_for (class_of j)) (zero-add k)

-- computed at each byte
skipped : reader.Class → Bool
skipped none-of-these = true
skipped white = false
skipped ampersand = false
skipped quote = false
skipped more = false
skipped less = false
skipped paren = false
skipped brace_open = false
skipped brace_close = false
skipped bang = false
skipped plus = false
skipped bars = false
skipped bracket = false
skipped (resting k) = false
skipped pitched = false

skipped_class : (c : reader.Class) → skipped c ≡ true → class_for c ≡ Skip
unfolding skipped class_for
skipped_class none-of-these e = refl
skipped_class white e = absurd (false≢true e)
skipped_class ampersand e = absurd (false≢true e)
skipped_class quote e = absurd (false≢true e)
skipped_class more e = absurd (false≢true e)
skipped_class less e = absurd (false≢true e)
skipped_class paren e = absurd (false≢true e)
skipped_class brace_open e = absurd (false≢true e)
skipped_class brace_close e = absurd (false≢true e)
skipped_class bang e = absurd (false≢true e)
skipped_class plus e = absurd (false≢true e)
skipped_class bars e = absurd (false≢true e)
skipped_class bracket e = absurd (false≢true e)
skipped_class (resting k) e = absurd (false≢true e)
skipped_class pitched e = absurd (false≢true e)

high : ℕ → Bool
high b = ltb b 128 || skipped (class_of b)

pub high_skipped : (b : ℕ) → 128 ≤ b → b < 256 → class_for (class_of b) ≡ Skip
unfolding high skipped class_of class_in classes
high_skipped b h l = skipped_class (class_of b) (rw (le-ltb b 128 h) at (below 256 high refl b l))
