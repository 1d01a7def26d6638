-- Room: each row of the text gives one item at most, and one more where it names a new voice, of which there are 32; and each row has a byte. So
-- the line table ends within scratch, whatever the text.
use Prim.Native.Nat.{ℕ, suc, ◌+◌, ◌-◌, ◌*◌, ◌≤◌}
use mathlib.Core.Path.{◌≡◌, refl, subst}
use mathlib.Core.Bool.{Bool, true, false}
use mathlib.Core.Option.{Option, none, some}
use mathlib.Core.List.{List, [], ◌∷◌, ◌++◌}
use native.Mathlib.Omega.{arith}
use lib.Dec.{eqb, ltb, leb}
use lib.ListN.{length, length-append}
use borrow.Author.Tests.{leb-false}
use Rattle.laws.specs.Lists.{elem}
use Rattle.laws.proofs.Bools.{by_test}
use Rattle.editions.specs.declared.Edition.{Edition}
use Rattle.reader.specs.Text.{push, text_lines}
use Rattle.reader.specs.Tokens.{Effect}
use Rattle.reader.specs.Lines.{Kind, blank, refused, lyric, voice, key, meter, unit, tune, other, music, kind_of}
use Rattle.reader.specs.Steps.{TextLine, refuse, on, first, run}
use Rattle.reader.specs.Scan.{Items, ScanState, Out, begin, most_voices, most_lines, first_refusal, with_unnamed, voices_before, play_on, voice_on, unit_on, act, step, scan}
use Rattle.reader.specs.Answer.{scratch_needed}
use Rattle.scan_table.specs.Rows.{item_row_width, table_end}

abbrev count : ScanState → ℕ
count s = length s.env.voices

-- n rows from s on
abbrev Grows : ℕ → ScanState → Out → Type 0
Grows n s (refuse k l) = Unit {0}
Grows n s (on t a) = (count s ≤ 32 → count t ≤ 32) × (length a + count s ≤ n + count t)

same : (s : ScanState) (n : ℕ) → (count s ≤ 32 → count s ≤ 32) × (n + count s ≤ n + count s)
same s n = (λ h. h, omega arith)

less : (s : ScanState) → (count s ≤ 32 → count s ≤ 32) × (0 + count s ≤ 1 + count s)
less s = (λ h. h, omega arith)

-- the voices that a V line finds
found : (o : Bool) (vs : List (List ℕ)) → (length vs ≤ length (with_unnamed o vs)) × (length vs ≤ 32 → length (with_unnamed o vs) ≤ 32)
unfolding with_unnamed
found true [] = (omega arith, λ h. omega arith)
found false [] = (omega arith, λ h. omega arith)
found o (v ∷ vs) = (omega arith, λ h. h)

play_grows : (s : ScanState) (es : List Effect) (l : List ℕ) (o : Option ℕ) → Grows 1 s (play_on s es l o)
unfolding play_on
play_grows s es l (some k) = tt
play_grows s es l none = same s 1

unit_grows : (s : ScanState) (u : Option ℕ) → Grows 1 s (unit_on s u)
unfolding unit_on
unit_grows s none = less s
unit_grows s (some u) = less s

voice_grows : (s : ScanState) (v : List ℕ) (vs : List (List ℕ)) → count s ≤ length vs → (count s ≤ 32 → length vs ≤ 32) → (known full mid : Bool) → leb most_voices (length vs) ≡ full
    → Grows 1 s (voice_on s v vs known full mid)
unfolding voice_on
voice_grows s v vs l f true full true e = tt
voice_grows s v vs l f true full false e = (f, omega arith)
voice_grows s v vs l f false true mid e = tt
voice_grows s v vs l f false false true e = tt
voice_grows s v vs l f false false false e =
    let n : length (vs ++ (v ∷ [])) ≡ length vs + 1 = length-append vs (v ∷ []) in
    (λ h. omega (arith, leb-false most_voices (length vs) e), omega arith)

act_grows : (s : ScanState) (k : Kind) (h : Bool) → Grows 1 s (act s k h)
unfolding act voices_before
act_grows s blank h = less s
act_grows s (refused k) h = tt
act_grows s (lyric t) true = less s
act_grows s (lyric t) false = same s 1
act_grows s (voice v mid) h =
    let vs = voices_before s in
    let f = found s.opened s.env.voices in
    voice_grows s v vs f.0 f.1 (elem v vs) (leb most_voices (length vs)) mid refl
act_grows s (key k) true = same s 1
act_grows s (key k) false = same s 1
act_grows s (meter m) true = less s
act_grows s (meter m) false = same s 1
act_grows s (unit u) h = unit_grows s u
act_grows s tune true = less s
act_grows s tune false = tt
act_grows s other h = less s
act_grows s (music hi es l) true = less s
act_grows s (music true es l) false = tt
act_grows s (music false es l) false = play_grows s es l (first_refusal s.notes es)

step_grows : (ed : Edition) (s : ScanState) (r : TextLine) → Grows 1 s (step ed s r)
unfolding step
step_grows ed s r = by_test (ltb s.lines most_lines) (λ e. rw e (act_grows s (kind_of ed r) s.env.in_header)) (λ e. rw e tt)

first_grows : (n : ℕ) (s t : ScanState) (a : Items) → (count s ≤ 32 → count t ≤ 32) → length a + count s ≤ 1 + count t → (o : Out) → Grows n t o → Grows (suc n) s (first a o)
first_grows n s t a f e (refuse k l) h = tt
first_grows n s t a f e (on u b) h = (λ x. h.0 (f x), omega (arith, e, h.1, length-append a b))

run_grows : (ed : Edition) (rs : List TextLine) (s : ScanState) → Grows (length rs) s (run (step ed) s rs)
run_grows ed [] s = same s 0
run_grows ed (r ∷ rs) s = go (step ed s r) refl (step_grows ed s r) (λ t. run_grows ed rs t)
  where
    go : (o : Out) → step ed s r ≡ o → Grows 1 s o → ((t : ScanState) → Grows (length rs) t (run (step ed) t rs)) → Grows (suc (length rs)) s (run (step ed) s (r ∷ rs))
    go (refuse n l) e k f = rw (e, run) tt
    go (on t a) e k f = rw (e, run) (first_grows (length rs) s t a k.0 k.1 (run (step ed) t rs) (f t))

-- each row has a byte
push_few : (c : ℕ) (rs : List TextLine) → length (push c rs) ≤ suc (length rs)
push_few c [] = omega arith
push_few c (r ∷ rs) = omega arith

pub few_rows : (t : List ℕ) → length (text_lines t) ≤ length t
unfolding text_lines
few_rows [] = omega arith
few_rows (c ∷ t) =
    let h = few_rows t in
    by_test (eqb c 10) (λ e. rw e (omega arith)) (λ e. rw e (omega (arith, push_few c (text_lines t))))

module _ (ed : Edition) (text : List ℕ) (t : ScanState) (a : Items) (e : scan ed (text_lines text) ≡ on t a) where
  grown : (0 ≤ 32 → count t ≤ 32) × (length a + 0 ≤ length (text_lines text) + count t)
  unfolding scan begin
  grown = subst (Grows (length (text_lines text)) begin) e (run_grows ed (text_lines text) begin)

  -- 32 voices, and items for each row and each voice
  pub few_voices : length t.env.voices ≤ 32
  few_voices = grown.0 (omega arith)

  pub few_items : length a ≤ length text + 32
  few_items = omega (arith, grown.1, few_voices, few_rows text)

  -- where the line table ends, and what scratch has left behind it
  pub table_ends : table_end (length a) ≤ table_end (length text + 32)
  table_ends = omega (arith, few_items)

  pub table_fits : table_end (length a) + ((32 - item_row_width) * length text + (8192 - table_end 32)) ≤ scratch_needed (length text)
  unfolding scratch_needed
  table_fits = omega (arith, few_items)
