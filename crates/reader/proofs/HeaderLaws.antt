-- THE HEADER (ABC 2.1, 3.0) ends with the first K: line: behind any lines that are read, the scan is in the header just where none of them, cut and trimmed, is one.
use Prim.Native.Nat.{ℕ}
use mathlib.Core.Path.{◌≡◌, refl, sym, ap, subst, ◌∙◌}
use mathlib.Core.Bool.{Bool, true, false, cond, not, ◌&&◌, false≢true}
use mathlib.Core.Option.{Option, none, some}
use mathlib.Core.List.{List, [], ◌∷◌, map}
use lib.Dec.{eqb, leb, ltb}
use lib.ListN.{length, drop}
use borrow.Author.Tests.{eqb-true}
use Rattle.laws.specs.Lists.{elem, starts_with, is_nil}
use Rattle.laws.proofs.Bools.{by_test, and_left, and_right, and_true, and_no_right, eqb_sym}
use Rattle.standard.specs.Bytes.{ascii}
use Rattle.standard.specs.Texts.{still_header}
use Rattle.standard.specs.Keys.{Key}
use Rattle.editions.specs.declared.Edition.{Edition}
use Rattle.reader.specs.Text.{clean, has_high}
use Rattle.reader.specs.Tokens.{Effect}
use Rattle.reader.specs.Keys.{key_of}
use Rattle.reader.specs.Fields.{identifier, key_refusal}
use Rattle.reader.specs.Lines.{begins, is_v, is_k, is_l, is_m, is_x, is_lyric, is_field, Kind, blank, refused, lyric, voice, key, meter, unit, tune, other, music, voice_kind, kind_unless, key_kind, field_kind, line_kind, kind_of}
use Rattle.reader.specs.Steps.{TextLine, refuse, on, first, run}
use Rattle.reader.specs.Scan.{Items, Out, ScanState, begin, most_lines, most_voices, voices_before, first_refusal, play_on, voice_on, unit_on, act, step, scan}

-- a kind of line that is, or is not, a K: line; a refused one says nothing
unfoldable Keyed : Bool → Kind → Type 0
Keyed b blank = b ≡ false
Keyed b (refused n) = Unit {0}
Keyed b (lyric t) = b ≡ false
Keyed b (voice v m) = b ≡ false
Keyed b (key k) = b ≡ true
Keyed b (meter m) = b ≡ false
Keyed b (unit u) = b ≡ false
Keyed b tune = b ≡ false
Keyed b other = b ≡ false
Keyed b (music hi es l) = b ≡ false

keyed_by : (b c : Bool) (x y : Kind) → (c ≡ true → Keyed b x) → (c ≡ false → Keyed b y) → Keyed b (cond c x y)
keyed_by b true x y f g = f refl
keyed_by b false x y f g = g refl

-- two letters are not one
other_letter : (a c : ℕ) (l : List ℕ) → eqb a c ≡ false → begins a 58 l ≡ true → begins c 58 l ≡ false
other_letter a c [] h e = refl
other_letter a c (x ∷ []) h e = refl
other_letter a c (x ∷ (y ∷ r)) h e = ap (λ (b : Bool). b && eqb y 58) (ap (λ (z : ℕ). eqb z c) (eqb-true x a (and_left (eqb x a) (eqb y 58) e)) ∙ h)

-- `K:` is a field
no_field : (l : List ℕ) → is_field l ≡ false → is_k l ≡ false
no_field [] f = refl
no_field (x ∷ []) f = refl
no_field (x ∷ (y ∷ r)) f = by_test (is_k (x ∷ (y ∷ r))) (λ e. absurd (false≢true (sym f ∙ yes e))) (λ e. e)
  where
    yes : is_k (x ∷ (y ∷ r)) ≡ true → is_field (x ∷ (y ∷ r)) ≡ true
    yes e = let a = eqb-true x 75 (and_left (eqb x 75) (eqb y 58) e) in let b = eqb-true y 58 (and_right (eqb x 75) (eqb y 58) e) in λ i. is_field (a i ∷ (b i ∷ r))

voice_keyed : (b : Bool) (v : List ℕ) → b ≡ false → Keyed b (voice_kind v)
unfolding voice_kind Keyed
voice_keyed b v e = keyed_by b (is_nil (identifier v)) _ _ (λ _. tt) (λ _. e)

unless_keyed : (b : Bool) (k : Key) (o : Option ℕ) → b ≡ true → Keyed b (kind_unless k o)
unfolding kind_unless Keyed
unless_keyed b k none e = e
unless_keyed b k (some n) e = tt

key_keyed : (ed : Edition) (b : Bool) (v : List ℕ) → b ≡ true → Keyed b (key_kind ed v)
unfolding key_kind
key_keyed ed b v e = unless_keyed b (key_of ed v) (key_refusal ed v) e

field_keyed : (ed : Edition) (l : List ℕ) → Keyed (is_k l) (field_kind ed l)
unfolding field_kind Keyed
field_keyed ed l =
    keyed_by (is_k l) (is_v l) _ _ (λ v. keyed_by (is_k l) (has_high l) _ _ (λ _. tt) (λ _. voice_keyed (is_k l) (drop 2 l) (other_letter 86 75 l refl v)))
    (λ _. keyed_by (is_k l) (is_k l) _ _ (λ k. keyed_by (is_k l) (has_high l) _ _ (λ _. tt) (λ _. key_keyed ed (is_k l) (drop 2 l) k))
    (λ k. keyed_by (is_k l) (is_l l) _ _ (λ _. keyed_by (is_k l) (has_high l) _ _ (λ _. tt) (λ _. k))
    (λ _. keyed_by (is_k l) (is_m l) _ _ (λ _. keyed_by (is_k l) (has_high l) _ _ (λ _. tt) (λ _. k)) (λ _. keyed_by (is_k l) (is_x l) _ _ (λ _. k) (λ _. k)))))

line_keyed : (ed : Edition) (l : List ℕ) → Keyed (is_k l) (line_kind ed l)
unfolding line_kind Keyed
line_keyed ed l =
    keyed_by (is_k l) (is_nil l) _ _ (nil l)
    (λ _. keyed_by (is_k l) (ltb 1048576 (length l)) _ _ (λ _. tt)
    (λ _. keyed_by (is_k l) (is_lyric l) _ _ (λ y. other_letter 119 75 l refl y) (λ _. keyed_by (is_k l) (is_field l) _ _ (λ _. field_keyed ed l) (λ f. no_field l f))))
  where
    nil : (l : List ℕ) → is_nil l ≡ true → is_k l ≡ false
    nil [] e = refl
    nil (c ∷ l) e = absurd (false≢true e)

-- what a line does to the header
unfoldable After : Bool → Out → Type 0
After h (refuse n l) = Unit {0}
After h (on t a) = t.env.in_header ≡ h

voice_after : (s : ScanState) (v : List ℕ) (vs : List (List ℕ)) (a b c : Bool) → After s.env.in_header (voice_on s v vs a b c)
unfolding voice_on After
voice_after s v vs true b true = tt
voice_after s v vs true b false = refl
voice_after s v vs false true c = tt
voice_after s v vs false false true = tt
voice_after s v vs false false false = refl

unit_after_lem : (s : ScanState) (u : Option ℕ) → After s.env.in_header (unit_on s u)
unfolding unit_on After
unit_after_lem s none = refl
unit_after_lem s (some u) = refl

play_after : (s : ScanState) (es : List Effect) (l : List ℕ) (o : Option ℕ) → After s.env.in_header (play_on s es l o)
unfolding play_on After
play_after s es l none = refl
play_after s es l (some n) = tt

-- the header goes on, unless the line is a K: line
same : (s : ScanState) (b : Bool) (o : Out) → b ≡ false → After s.env.in_header o → After (s.env.in_header && not b) o
same s b o e h = subst (λ (x : Bool). After x o) (sym (ap (λ (c : Bool). s.env.in_header && not c) e ∙ and_true s.env.in_header)) h

act_after : (s : ScanState) (k : Kind) (b : Bool) → Keyed b k → (h : Bool) → s.env.in_header ≡ h → After (s.env.in_header && not b) (act s k h)
unfolding act Keyed After
act_after s blank b e h i = same s b (act s blank h) e refl
act_after s (refused n) b e h i = tt
act_after s (lyric t) b e true i = same s b (act s (lyric t) true) e refl
act_after s (lyric t) b e false i = same s b (act s (lyric t) false) e refl
act_after s (voice v m) b e h i = same s b (act s (voice v m) h) e (voice_after s v (voices_before s) (elem v (voices_before s)) (leb most_voices (length (voices_before s))) m)
act_after s (key k) b e true i = sym (ap (λ (c : Bool). s.env.in_header && not c) e ∙ and_no_right s.env.in_header false refl)
act_after s (key k) b e false i = i ∙ sym (ap (λ (c : Bool). c && not b) i)
act_after s (meter m) b e true i = same s b (act s (meter m) true) e refl
act_after s (meter m) b e false i = same s b (act s (meter m) false) e refl
act_after s (unit u) b e h i = same s b (act s (unit u) h) e (unit_after_lem s u)
act_after s tune b e true i = same s b (act s tune true) e refl
act_after s tune b e false i = tt
act_after s other b e h i = same s b (act s other h) e refl
act_after s (music hi es l) b e true i = same s b (act s (music hi es l) true) e refl
act_after s (music true es l) b e false i = tt
act_after s (music false es l) b e false i = same s b (act s (music false es l) false) e (play_after s es l (first_refusal s.notes es))

step_after : (ed : Edition) (s : ScanState) (r : TextLine) → After (s.env.in_header && not (is_k (clean r))) (step ed s r)
unfolding step kind_of After
step_after ed s r =
    by_test (ltb s.lines most_lines) (λ t. rw t (act_after s (kind_of ed r) (is_k (clean r)) (line_keyed ed (clean r)) s.env.in_header refl)) (λ t. rw t tt)

-- `K:` at the front
k_starts : (l : List ℕ) → is_k l ≡ starts_with (ascii "K:") l
k_starts [] = refl
k_starts (x ∷ []) = sym (and_no_right (eqb 75 x) false refl)
k_starts (x ∷ (y ∷ r)) = (λ i. eqb_sym x 75 i && eqb_sym y 58 i) ∙ ap (λ (b : Bool). eqb 75 x && b) (sym (and_true (eqb 58 y)))

rows_after : (ed : Edition) (rs : List TextLine) (s : ScanState) → After (s.env.in_header && still_header (map clean rs)) (run (step ed) s rs)
unfolding still_header After
rows_after ed [] s = sym (and_true s.env.in_header)
rows_after ed (r ∷ rs) s = go (λ t. rows_after ed rs t) (step ed s r) (step_after ed s r)
  where
    later : (h : Bool) (a : Items) (o : Out) → After h o → After h (first a o)
    later h a (refuse n l) e = tt
    later h a (on t b) e = e

    both : (a b c : Bool) → ((a && not b) && c) ≡ (a && (not b && c))
    both true true c = refl
    both true false c = refl
    both false b c = refl

    go : ((t : ScanState) → After (t.env.in_header && still_header (map clean rs)) (run (step ed) t rs)) → (x : Out) → After (s.env.in_header && not (is_k (clean r))) x
        → After (s.env.in_header && (not (starts_with (ascii "K:") (clean r)) && still_header (map clean rs))) (elim x as (λ _. Out) [ refuse n l ↦ refuse n l | on t a ↦ first a (run (step ed) t rs) ])
    go rec (refuse n l) e = tt
    go rec (on t a) e =
        later _ a (run (step ed) t rs)
        (subst (λ (b : Bool). After b (run (step ed) t rs))
        (ap (λ (b : Bool). b && still_header (map clean rs)) e ∙ ap (λ (b : Bool). (s.env.in_header && not b) && still_header (map clean rs)) (k_starts (clean r)) ∙ both s.env.in_header (starts_with (ascii "K:") (clean r)) (still_header (map clean rs))) (rec t))

pub header_meets : (ed : Edition) (rs : List TextLine) (t : ScanState) (a : Items) → scan ed rs ≡ on t a → t.env.in_header ≡ still_header (map clean rs)
unfolding scan begin After
header_meets ed rs t a e = subst (After (still_header (map clean rs))) e (rows_after ed rs begin)
