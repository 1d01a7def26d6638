-- The tests before the first line, each with its answer; and a refusal, which leaves nothing in either store.
use Prim.Native.Nat.{ℕ, ◌-◌, ◌≤◌, ◌<◌}
use mathlib.Core.Path.{◌≡◌, refl, ap, subst, ◌∙◌}
use mathlib.Core.Bool.{true, false}
use mathlib.Core.List.{List}
use lib.ListN.{length}
use borrow.Author.Tests.{le-leb, lt-leb}
use Rattle.std.specs.Prelude.{Result, Ok, Err}
use Rattle.refusals.specs.declared.Refusal.{Refusal}
use Rattle.refusals.specs.declared.Refused.{Refused}
use Rattle.refusals.specs.Numbers.{number_of}
use Rattle.laws.specs.Bytes.{splice, zeros}
use Rattle.laws.proofs.Splices.{zeros_whole}
use Rattle.editions.specs.declared.Edition.{Edition}
use Rattle.reader.specs.Text.{is_utf8, is_blank, text_lines}
use Rattle.reader.specs.Steps.{refuse}
use Rattle.reader.specs.Scan.{scan}
use Rattle.reader.specs.Answer.{Outcome, most_bytes, scratch_needed, refused_with, early, scanned, unless, parse_abc, answer_of}
use Rattle.blocks.proofs.End.{early_iff}
use Rattle.reading_answers.specs.Answers.{answer_as}
use Rattle.abc_text.specs.Answers.{Parsed, EarlyIs}

-- THE TESTS
module _ (text : List ℕ) (sl : ℕ) where
  pub too_long : most_bytes < length text → EarlyIs text sl (Err Refusal.TooLong)
  unfolding early
  too_long h = record { is = λ rl. rw (lt-leb (length text) most_bytes h) }

  module _ (short : length text ≤ most_bytes) where
    pub not_utf8 : is_utf8 text ≡ false → EarlyIs text sl (Err Refusal.NotUtf8)
    unfolding early
    not_utf8 u = record { is = λ rl. rw (le-leb (length text) most_bytes short, u) }

    module _ (u : is_utf8 text ≡ true) where
      pub all_blank : is_blank text ≡ true → EarlyIs text sl (Err Refusal.NoMusic)
      unfolding early
      all_blank b = record { is = λ rl. rw (le-leb (length text) most_bytes short, u, b) }

      pub no_scratch : is_blank text ≡ false → sl < scratch_needed (length text) → EarlyIs text sl (Err Refusal.ScratchShort)
      unfolding early
      no_scratch b h = record { is = λ rl. rw (le-leb (length text) most_bytes short, u, b, lt-leb (scratch_needed (length text)) sl h) }

      pub passes : is_blank text ≡ false → scratch_needed (length text) ≤ sl → EarlyIs text sl (Ok tt)
      unfolding early
      passes b h = record { is = λ rl. rw (le-leb (length text) most_bytes short, u, b, le-leb (scratch_needed (length text)) sl h) }

-- a text that passes them
pub passed : (text : List ℕ) (sl : ℕ) {u : Unit {0}} → EarlyIs text sl (Ok u) → (length text ≤ most_bytes) × (scratch_needed (length text) ≤ sl)
passed text sl h = ((early_iff text 0 sl).0 (h.is 0)).0

-- A REFUSAL
pub refused_parsed : (r₀ s₀ r s : List ℕ) (x : Refused) → r ≡ splice r₀ 0 (zeros (length r₀ - 0)) → s ≡ splice s₀ 0 (zeros (length s₀ - 0))
    → Parsed (refused_with (number_of x.refusal) x.line (length r₀) (length s₀)) (Err x) r s
unfolding refused_with answer_of
refused_parsed r₀ s₀ r s x e f = record { answer = refl; reading_is = e ∙ zeros_whole r₀; scratch_is = f ∙ zeros_whole s₀ }

-- THE CALL
module _ (ed : Edition) (text : List ℕ) (rl sl : ℕ) (r : Result ℕ Refused) (reading scratch : List ℕ) where
  -- refused before the first line
  pub call_early : (e : Refusal) → EarlyIs text sl (Err e) → Parsed (refused_with (number_of e) 0 rl sl) r reading scratch → Parsed (parse_abc ed text rl sl) r reading scratch
  unfolding parse_abc unless
  call_early e h p = rw (h.is rl) p

  -- or scanned
  pub call_scanned : {u : Unit {0}} → EarlyIs text sl (Ok u) → Parsed (scanned ed rl sl (scan ed (text_lines text))) r reading scratch → Parsed (parse_abc ed text rl sl) r reading scratch
  unfolding parse_abc unless
  call_scanned h p = rw (h.is rl) p

-- refused by it; the scratch store is as long as it was
pub refused_scanned : (ed : Edition) (text : List ℕ) (rl sl sl' n l : ℕ) {r : Result ℕ Refused} {reading scratch : List ℕ} → scan ed (text_lines text) ≡ refuse n l → sl' ≡ sl
    → Parsed (refused_with n l rl sl') r reading scratch → Parsed (scanned ed rl sl (scan ed (text_lines text))) r reading scratch
unfolding scanned
refused_scanned ed text rl sl sl' n l e k p = rw e (rw k at p)

-- finished
pub finished : (ed : Edition) (text : List ℕ) (rl sl sl' : ℕ) {r : Result ℕ Refused} {reading scratch : List ℕ} → sl' ≡ sl
    → Parsed (scanned ed rl sl' (scan ed (text_lines text))) r reading scratch → Parsed (scanned ed rl sl (scan ed (text_lines text))) r reading scratch
finished ed text rl sl sl' {r} {reading} {scratch} k p = subst (λ (n : ℕ). Parsed (scanned ed rl n (scan ed (text_lines text))) r reading scratch) k p

-- what a call promises, one by one
pub called : {w : Outcome} {r : Result ℕ Refused} {reading scratch : List ℕ} → Parsed w r reading scratch
    → (answer_as r ≡ answer_of w.verdict) × ((reading ≡ w.reading) × (scratch ≡ w.scratch))
called p = (p.answer, (p.reading_is, p.scratch_is))

-- a store that was cleared, as long as it was
pub cleared : (s s' : List ℕ) (n : ℕ) → s' ≡ splice s 0 (zeros (length s - 0)) → length s ≡ n → s' ≡ zeros n
cleared s s' n e l = e ∙ zeros_whole s ∙ ap zeros l
