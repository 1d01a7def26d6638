-- Some part has a place for verses exactly if there is a music line among the items.
use Prim.Native.Nat.{ℕ, suc, max}
use mathlib.Core.Path.{◌≡◌, refl, sym, ap, subst, ◌∙◌}
use mathlib.Core.Bool.{Bool, true, false, ◌||◌}
use mathlib.Core.Option.{Option, none, some}
use mathlib.Core.List.{List, [], ◌∷◌}
use native.Mathlib.Omega.{arith}
use lib.Dec.{ltb, leb}
use lib.ListN.{length}
use borrow.Author.Tests.{lt-ltb}
use Rattle.laws.specs.Lists.{elem}
use Rattle.laws.proofs.Bools.{by_test, or_assoc}
use Rattle.laws.proofs.Lists.{any_append}
use Rattle.editions.specs.declared.Edition.{Edition}
use Rattle.reader.specs.Tokens.{Effect}
use Rattle.reader.specs.Lines.{Kind, blank, refused, lyric, voice, key, meter, unit, tune, other, music, kind_of}
use Rattle.reader.specs.Steps.{TextLine, refuse, on, first, run}
use Rattle.reader.specs.Scan.{Item, Items, ScanState, Out, begin, most_voices, most_lines, first_refusal, voices_before, play_on, voice_on, unit_on, act, step, scan}
use Rattle.reader.specs.Answer.{is_music}
use Rattle.scan.specs.Scanned.{has_music}

-- what comes to t with the items a
abbrev Tells : ScanState → Out → Type 0
Tells s (refuse n l) = Unit {0}
Tells s (on t a) = ltb 0 t.places ≡ (ltb 0 s.places || has_music a)

nothing_more : (b : Bool) → b ≡ (b || false)
nothing_more true = refl
nothing_more false = refl

with_more : (b : Bool) → true ≡ (b || true)
with_more true = refl
with_more false = refl

play_tells : (s : ScanState) (es : List Effect) (l : List ℕ) (o : Option ℕ) → Tells s (play_on s es l o)
unfolding play_on is_music
play_tells s es l (some k) = tt
play_tells s es l none = lt-ltb 0 (max s.places (suc s.part)) (omega arith) ∙ with_more (ltb 0 s.places)

voice_tells : (s : ScanState) (v : List ℕ) (vs : List (List ℕ)) (known full mid : Bool) → Tells s (voice_on s v vs known full mid)
unfolding voice_on is_music
voice_tells s v vs true full true = tt
voice_tells s v vs true full false = nothing_more _
voice_tells s v vs false true mid = tt
voice_tells s v vs false false true = tt
voice_tells s v vs false false false = nothing_more _

unit_tells : (s : ScanState) (u : Option ℕ) → Tells s (unit_on s u)
unfolding unit_on
unit_tells s none = nothing_more _
unit_tells s (some u) = nothing_more _

act_tells : (s : ScanState) (k : Kind) (h : Bool) → Tells s (act s k h)
unfolding act is_music
act_tells s blank h = nothing_more _
act_tells s (refused k) h = tt
act_tells s (lyric t) true = nothing_more _
act_tells s (lyric t) false = nothing_more _
act_tells s (voice v mid) h = voice_tells s v (voices_before s) (elem v (voices_before s)) (leb most_voices (length (voices_before s))) mid
act_tells s (key k) true = nothing_more _
act_tells s (key k) false = nothing_more _
act_tells s (meter m) true = nothing_more _
act_tells s (meter m) false = nothing_more _
act_tells s (unit u) h = unit_tells s u
act_tells s tune true = nothing_more _
act_tells s tune false = tt
act_tells s other h = nothing_more _
act_tells s (music hi es l) true = nothing_more _
act_tells s (music true es l) false = tt
act_tells s (music false es l) false = play_tells s es l (first_refusal s.notes es)

step_tells : (ed : Edition) (s : ScanState) (r : TextLine) → Tells s (step ed s r)
unfolding step
step_tells ed s r = by_test (ltb s.lines most_lines) (λ e. rw e (act_tells s (kind_of ed r) s.env.in_header)) (λ e. rw e tt)

first_tells : (s t : ScanState) (a : Items) → ltb 0 t.places ≡ (ltb 0 s.places || has_music a) → (o : Out) → Tells t o → Tells s (first a o)
first_tells s t a e (refuse n l) h = tt
first_tells s t a e (on u b) h =
    h ∙ ap (λ (x : Bool). x || has_music b) e ∙ or_assoc (ltb 0 s.places) (has_music a) (has_music b)
    ∙ ap (λ (x : Bool). ltb 0 s.places || x) (sym (any_append (λ (x : ℕ × Item). is_music x.1) a b))

run_tells : (ed : Edition) (rs : List TextLine) (s : ScanState) → Tells s (run (step ed) s rs)
run_tells ed [] s = nothing_more _
run_tells ed (r ∷ rs) s = go (step ed s r) refl (step_tells ed s r) (λ t. run_tells ed rs t)
  where
    go : (o : Out) → step ed s r ≡ o → Tells s o → ((t : ScanState) → Tells t (run (step ed) t rs)) → Tells s (run (step ed) s (r ∷ rs))
    go (refuse n l) e k f = rw (e, run) tt
    go (on t a) e k f = rw (e, run) (first_tells s t a k (run (step ed) t rs) (f t))

pub music_told : (ed : Edition) (rs : List TextLine) (t : ScanState) (a : Items) → scan ed rs ≡ on t a → ltb 0 t.places ≡ has_music a
unfolding scan begin
music_told ed rs t a e = subst (Tells begin) e (run_tells ed rs begin)
