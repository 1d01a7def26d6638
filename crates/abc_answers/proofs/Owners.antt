-- EVERY ITEM IS OF A PART THAT THERE IS: its number is below the number of voices, or 0 where none is named.
use Prim.Native.Nat.{ℕ, ◌+◌, ◌≤◌, ◌<◌, max}
use mathlib.Core.Path.{◌≡◌, refl, subst}
use mathlib.Core.Bool.{Bool, true, false}
use mathlib.Core.Option.{Option, none, some}
use mathlib.Core.List.{List, [], ◌∷◌, ◌++◌}
use native.Mathlib.Nat.{le_refl}
use native.Mathlib.Omega.{arith}
use lib.Dec.{ltb, leb}
use lib.ListN.{length, length-append}
use Rattle.laws.specs.Lists.{All, elem}
use Rattle.laws.proofs.Bools.{by_test}
use Rattle.laws.proofs.Lists.{All-append, All-map, index_lt}
use Rattle.editions.specs.declared.Edition.{Edition}
use Rattle.reader.specs.Tokens.{Effect}
use Rattle.reader.specs.Lines.{Kind, blank, refused, lyric, voice, key, meter, unit, tune, other, music, kind_of}
use Rattle.reader.specs.Steps.{TextLine, on, run}
use Rattle.reader.specs.Scan.{Item, Items, ScanState, begin, most_voices, most_lines, first_refusal, voices_before, play_on, voice_on, unit_on, act, step, scan}
use Rattle.bounds.proofs.ScanWeights.{Holds, holds_run, voice_count, before_count}

-- the items of n parts
abbrev pub Below : ℕ → Items → Type 0
Below n a = All (λ (x : ℕ × Item). x.0 < n) a

-- from a state whose part is there: parts only come, the part being read is there, and so is each item's
pub record Owned (s t : ScanState) (a : Items) : Type 0 where
  pub grows : voice_count s ≤ voice_count t
  pub part_in_lem : t.part < voice_count t
  pub below : Below (voice_count t) a

-- a line that names no voice: with one item for the part being read, or none
same_none : (s t : ScanState) → t.env.voices ≡ s.env.voices → t.part ≡ s.part → s.part < voice_count s → Owned s t []
same_none s t e p h = record { grows = rw e (le_refl _); part_in_lem = rw (e, p) h; below = tt }

same_one : (s t : ScanState) (i : Item) → t.env.voices ≡ s.env.voices → t.part ≡ s.part → s.part < voice_count s → Owned s t ((s.part, i) ∷ [])
same_one s t i e p h = record { grows = rw e (le_refl _); part_in_lem = rw (e, p) h; below = (rw e h, tt) }

play_owned : (s : ScanState) (es : List Effect) (l : List ℕ) (o : Option ℕ) → s.part < voice_count s → Holds (Owned s) (play_on s es l o)
unfolding play_on Holds
play_owned s es l (some k) h = tt
play_owned s es l none h = same_one s _ _ refl refl h

unit_owned : (s : ScanState) (u : Option ℕ) → s.part < voice_count s → Holds (Owned s) (unit_on s u)
unfolding unit_on Holds
unit_owned s none h = same_none s _ refl refl h
unit_owned s (some u) h = same_none s _ refl refl h

voice_owned : (s : ScanState) (v : List ℕ) (vs : List (List ℕ)) (known full mid : Bool) → max 1 (length vs) ≡ voice_count s → elem v vs ≡ known → Holds (Owned s) (voice_on s v vs known full mid)
unfolding voice_on Holds
voice_owned s v vs true full true c e = tt
voice_owned s v vs true full false c e =
    let i = index_lt v vs e in
    record { grows = omega (arith, c); part_in_lem = omega (arith, i); below = (omega (arith, i), tt) }
voice_owned s v vs false true mid c e = tt
voice_owned s v vs false false true c e = tt
voice_owned s v vs false false false c e =
    let n : length (vs ++ (v ∷ [])) ≡ length vs + 1 = length-append vs (v ∷ []) in
    record { grows = omega (arith, c, n); part_in_lem = omega (arith, n); below = (omega (arith, n), (omega (arith, n), tt)) }

act_owned : (s : ScanState) (k : Kind) (h : Bool) → s.part < voice_count s → Holds (Owned s) (act s k h)
unfolding act Holds
act_owned s blank h p = same_none s _ refl refl p
act_owned s (refused n) h p = tt
act_owned s (lyric t) true p = same_none s _ refl refl p
act_owned s (lyric t) false p = same_one s _ _ refl refl p
act_owned s (voice v mid) h p = voice_owned s v (voices_before s) (elem v (voices_before s)) (leb most_voices (length (voices_before s))) mid (before_count s) refl
act_owned s (key k) true p = same_one s _ _ refl refl p
act_owned s (key k) false p = same_one s _ _ refl refl p
act_owned s (meter m) true p = same_none s _ refl refl p
act_owned s (meter m) false p = same_one s _ _ refl refl p
act_owned s (unit u) h p = unit_owned s u p
act_owned s tune true p = record { grows = le_refl _; part_in_lem = omega arith; below = tt }
act_owned s tune false p = tt
act_owned s other h p = same_none s _ refl refl p
act_owned s (music hi es l) true p = same_none s _ refl refl p
act_owned s (music true es l) false p = tt
act_owned s (music false es l) false p = play_owned s es l (first_refusal s.notes es) p

step_owned : (ed : Edition) (s : ScanState) (r : TextLine) → s.part < voice_count s → Holds (Owned s) (step ed s r)
unfolding step Holds
step_owned ed s r p = by_test (ltb s.lines most_lines) (λ e. rw e (act_owned s (kind_of ed r) s.env.in_header p)) (λ e. rw e tt)

join : (s t u : ScanState) (a b : Items) → Owned s t a → Owned t u b → Owned s u (a ++ b)
join s t u a b f g =
    record {
      grows = omega (arith, f.grows, g.grows);
      part_in_lem = g.part_in_lem;
      below = All-append _ a b (All-map _ _ (λ x h. omega (arith, h, g.grows)) a f.below) g.below;
    }

run_owned : (ed : Edition) (rs : List TextLine) (s : ScanState) → s.part < voice_count s → Holds (Owned s) (run (step ed) s rs)
unfolding Holds
run_owned ed [] s p = same_none s s refl refl p
run_owned ed (r ∷ rs) s p =
    holds_run ed (Owned s) (Owned s) (λ t a u b. Owned t u b) s r rs (step_owned ed s r p) (λ t a h. run_owned ed rs t h.part_in_lem) (λ t a u b f g. join s t u a b f g)

-- the items of a text
pub items_owned : (ed : Edition) (rs : List TextLine) (t : ScanState) (a : Items) → scan ed rs ≡ on t a → Below (voice_count t) a
unfolding scan begin Holds
items_owned ed rs t a e = (subst (Holds (Owned begin)) e (run_owned ed rs begin (omega arith))).below
