-- WHAT CHANGES NO RECORD, of any text: what follows a `%`, white space at a line's end, an empty line, a field of another letter. Where both texts are accepted the whole reading is the same.
-- In a music line: a quoted text and a decoration, from where they begin as tokens. Assumes nothing.
use Prim.Native.Nat.{ℕ, suc, ◌+◌, ◌<◌}
use mathlib.Core.Path.{◌≡◌, refl, sym, ap, subst, ◌∙◌}
use mathlib.Core.Bool.{Bool, true, false, cond, not, false≢true}
use mathlib.Core.List.{List, [], ◌∷◌, ◌++◌, map}
use native.Mathlib.Omega.{arith}
use lib.Dec.{eqb, ltb}
use lib.ListN.{length, drop}
use borrow.Author.Tests.{lt-ltb}
use Rattle.laws.specs.Lists.{foldl, all, All, is_nil, count_while}
use Rattle.laws.proofs.Bools.{by_test, eqb_same}
use Rattle.laws.proofs.Spans.{count_while_no}
use Rattle.laws.proofs.Lists.{map_append}
use Rattle.editions.specs.declared.Edition.{Edition}
use Rattle.reader.specs.Text.{text_lines, cut, trim, clean}
use Rattle.reader.specs.Token.{Token, quoted, decoration, Taken, taken}
use Rattle.reader.specs.Tokens.{token_of, tokens, effect_of, no_effect, closed_by}
use Rattle.reader.specs.Lines.{is_v, is_k, is_l, is_m, is_x, is_lyric, is_field, Kind, blank, refused, other, line_kind, field_kind, kind_of}
use Rattle.reader.specs.Steps.{TextLine, refuse, on, first, run, items_of}
use Rattle.reader.specs.Scan.{Item, Items, Out, ScanState, begin, most_lines, act, step, scan}
use Rattle.reader.specs.State.{PartState}
use Rattle.reader.specs.Part.{Part, on_token}
use Rattle.reader.specs.Answer.{Verdict, refusal, reading, parse_abc}
use Rattle.reader.specs.All.{all as everything}
use Rattle.reader.proofs.Digits.{count_while_front}
use Rattle.reader.proofs.TokenLaws.{tokens_cons}
use Rattle.blocks.specs.Demand.{IsReading, Accepted}
use Rattle.blocks.proofs.Instance.{reader}
use Rattle.blocks.proofs.Words.{clean_lf}
use Rattle.blocks.proofs.Runs.{Run, then, run_run, run_of, run_cut, run_join}
use Rattle.promises.specs.Free.{Silent, empty, other_field}
use Rattle.promises.proofs.SameTally.{Scanned, accepted_scan, with_lines, fewer, went, not_on}
use Rattle.promises.specs.Refusals.{parts_after}

-- THE PARTS OF A SCAN: an accepted text's reading is they
abbrev pub parts_of : Edition → Out → List Part
parts_of ed (refuse n l) = []
parts_of ed (on t a) = parts_after ed t a

pub verdict_is : (ed : Edition) (text : List ℕ) (rl sl : ℕ) → Accepted (parse_abc ed text rl sl) → (parse_abc ed text rl sl).verdict ≡ reading (parts_of ed (scan ed (text_lines text)))
verdict_is ed text rl sl h = go (accepted_scan ed text rl sl h)
  where
    go : Scanned ed text (parse_abc ed text rl sl).verdict → (parse_abc ed text rl sl).verdict ≡ reading (parts_of ed (scan ed (text_lines text)))
    go (u, c, (e, w)) = w ∙ ap (λ (o : Out). reading (parts_of ed o)) (sym e)

-- what holds of every part of the scan holds of every part of the reading
read_parts : Verdict → List Part
read_parts (refusal n l) = []
read_parts (reading ps) = ps

pub of_reading : (ed : Edition) (P : Part → Type 0) (text : List ℕ) (rl sl : ℕ) (ps : List Part) → All P (parts_of ed (scan ed (text_lines text))) → (parse_abc ed text rl sl).verdict ≡ reading ps → All P ps
unfolding read_parts
of_reading ed P text rl sl ps h e = subst (All P) (ap read_parts (sym (verdict_is ed text rl sl (subst IsReading (sym e) tt)) ∙ e)) h

-- what holds of every item holds of a part's own
pub own_all : (P : Item → Type 0) (p : ℕ) (a : Items) → All (λ (x : ℕ × Item). P x.1) a → All P (items_of p a)
own_all P p [] h = tt
own_all P p (x ∷ a) h = by_test (eqb x.0 p) (λ e. rw e (h.0, own_all P p a h.1)) (λ e. rw e (own_all P p a h.1))

-- LINES THAT ARE THE SAME ONCE CUT AND TRIMMED
-- a line, cut and trimmed, in a state
abbrev step_clean : Edition → ScanState → List ℕ → Out
step_clean ed s l = cond (ltb s.lines most_lines) (act s (line_kind ed l) s.env.in_header) (refuse 4 (suc s.lines))

run_clean : (ed : Edition) (rs : List TextLine) (s : ScanState) → run (step ed) s rs ≡ run (step_clean ed) s (map clean rs)
unfolding step kind_of
run_clean ed [] s = refl
run_clean ed (r ∷ rs) s = go (λ t. run_clean ed rs t) (step_clean ed s (clean r))
  where
    go : ((t : ScanState) → run (step ed) t rs ≡ run (step_clean ed) t (map clean rs)) → (x : Out)
        → ◌≡◌ {A = Out} (elim x as (λ _. Out) [ refuse n l ↦ refuse n l | on t a ↦ first a (run (step ed) t rs) ]) (elim x as (λ _. Out) [ refuse n l ↦ refuse n l | on t a ↦ first a (run (step_clean ed) t (map clean rs)) ])
    go rec (refuse n l) = refl
    go rec (on t a) = ap (first a) (rec t)

-- the scan sees a line only so: it refuses both texts alike, or gives the same items
pub same_scan : (ed : Edition) (rs rs' : List TextLine) → map clean rs ≡ map clean rs' → scan ed rs ≡ scan ed rs'
unfolding scan
same_scan ed rs rs' e = run_clean ed rs begin ∙ ap (run (step_clean ed) begin) e ∙ sym (run_clean ed rs' begin)

-- two texts whose lines are the same once cut and trimmed have one reading
pub same_lines : (ed : Edition) (text text' : List ℕ) (rl sl rl' sl' : ℕ) → map clean (text_lines text) ≡ map clean (text_lines text') → Accepted (parse_abc ed text rl sl) → Accepted (parse_abc ed text' rl' sl')
    → (parse_abc ed text rl sl).verdict ≡ (parse_abc ed text' rl' sl').verdict
same_lines ed text text' rl sl rl' sl' e h h' =
    verdict_is ed text rl sl h ∙ ap (λ (o : Out). reading (parts_of ed o)) (same_scan ed (text_lines text) (text_lines text') e) ∙ sym (verdict_is ed text' rl' sl' h')

-- WHAT FOLLOWS A `%`, its line feed too
cut_comment : (a c : List ℕ) → cut (a ++ (37 ∷ c)) ≡ cut a
unfolding cut
cut_comment [] c = refl
cut_comment (x ∷ a) c = ap (λ (l : List ℕ). cond (eqb x 37) [] (x ∷ l)) (cut_comment a c)

pub clean_comment : (a c : List ℕ) → clean (a ++ (37 ∷ c)) ≡ clean a
unfolding clean
clean_comment a c = ap trim (cut_comment a c)

-- one comment for another, in any line
pub comment_free : (ed : Edition) (text text' : List ℕ) (rl sl rl' sl' : ℕ) (xs bs : List TextLine) (a c c' : List ℕ) → text_lines text ≡ xs ++ ((a ++ (37 ∷ c)) ∷ bs) → text_lines text' ≡ xs ++ ((a ++ (37 ∷ c')) ∷ bs)
    → Accepted (parse_abc ed text rl sl) → Accepted (parse_abc ed text' rl' sl') → (parse_abc ed text rl sl).verdict ≡ (parse_abc ed text' rl' sl').verdict
comment_free ed text text' rl sl rl' sl' xs bs a c c' e e' =
    same_lines ed text text' rl sl rl' sl'
    (ap (map clean) e ∙ map_append clean xs _ ∙ ap (λ (l : List ℕ). map clean xs ++ (l ∷ map clean bs)) (clean_comment a c ∙ sym (clean_comment a c')) ∙ sym (map_append clean xs _) ∙ ap (map clean) (sym e'))

-- and none for one: the line without it
pub comment_left_out : (ed : Edition) (text text' : List ℕ) (rl sl rl' sl' : ℕ) (xs bs : List TextLine) (a c : List ℕ) → text_lines text ≡ xs ++ ((a ++ (37 ∷ c)) ∷ bs) → text_lines text' ≡ xs ++ ((a ++ (10 ∷ [])) ∷ bs)
    → Accepted (parse_abc ed text rl sl) → Accepted (parse_abc ed text' rl' sl') → (parse_abc ed text rl sl).verdict ≡ (parse_abc ed text' rl' sl').verdict
comment_left_out ed text text' rl sl rl' sl' xs bs a c e e' =
    same_lines ed text text' rl sl rl' sl'
    (ap (map clean) e ∙ map_append clean xs _ ∙ ap (λ (l : List ℕ). map clean xs ++ (l ∷ map clean bs)) (clean_comment a c ∙ sym (clean_lf a)) ∙ sym (map_append clean xs _) ∙ ap (map clean) (sym e'))

-- A LINE OF NO CONSEQUENCE LEFT OUT
kind_other : (ed : Edition) (l : List ℕ) → is_nil l ≡ false → is_lyric l ≡ false → is_field l ≡ true → is_v l ≡ false → is_k l ≡ false → is_l l ≡ false → is_m l ≡ false → is_x l ≡ false
    → line_kind ed l ≡ cond (ltb 1048576 (length l)) (refused 5) other
unfolding line_kind field_kind
kind_other ed l n y f v k u m x = rw (n, y, f, v, k, u, m, x)

abbrev Unmoved : ScanState → ScanState → Items → Type 0
Unmoved s t a = (t ≡ with_lines s (suc s.lines)) × (a ≡ [])

blank_unmoved : (s t : ScanState) (a : Items) (h : Bool) → act s blank h ≡ on t a → Unmoved s t a
unfolding act
blank_unmoved s t a h e = (sym cc, sym cc)

other_unmoved : (s t : ScanState) (a : Items) (h b : Bool) → act s (cond b (refused 5) other) h ≡ on t a → Unmoved s t a
unfolding act
other_unmoved s t a h true e = absurd (not_on 5 (suc s.lines) t a e)
other_unmoved s t a h false e = (sym cc, sym cc)

kind_blank : (ed : Edition) (l : List ℕ) → is_nil l ≡ true → line_kind ed l ≡ blank
unfolding line_kind
kind_blank ed l e = rw e

field_not_nil : (l : List ℕ) → is_field l ≡ true → is_nil l ≡ false
field_not_nil [] h = absurd (false≢true h)
field_not_nil (c ∷ l) h = refl

silent_step : (ed : Edition) (s t : ScanState) (r : TextLine) (a : Items) → Silent r → step ed s r ≡ on t a → Unmoved s t a
unfolding kind_of
silent_step ed s t r a (empty n) e = blank_unmoved s t a s.env.in_header (sym (ap (λ (k : Kind). act s k s.env.in_header) (kind_blank ed (clean r) n)) ∙ (went ed s t r a e).1)
silent_step ed s t r a (other_field f v k u m x y) e =
    other_unmoved s t a s.env.in_header (ltb 1048576 (length (clean r)))
    (sym (ap (λ (z : Kind). act s z s.env.in_header) (kind_other ed (clean r) (field_not_nil (clean r) f) y f v k u m x)) ∙ (went ed s t r a e).1)

-- without it the lines behind it do the same
silent_out : (ed : Edition) (xs bs : List TextLine) (r : TextLine) (s u : ScanState) (a b : Items) → Silent r → Run (reader ed) begin xs s a → Run (reader ed) s (r ∷ bs) u b → (j : ℕ) × Run (reader ed) begin (xs ++ bs) (with_lines u j) (a ++ b)
silent_out ed xs bs r s u a b q d (then {t = t} {a = x} {b = y} e f) =
    let w : Unmoved s t x = silent_step ed s t r x q e in
    let g : Run (reader ed) (with_lines s (suc s.lines)) bs u y = subst (λ (z : ScanState). Run (reader ed) z bs u y) w.0 f in
    let m = fewer ed g s.lines (omega arith) in
    (m.0, subst (λ (z : Items). Run (reader ed) begin (xs ++ bs) (with_lines u m.0) (a ++ (z ++ y))) (sym w.1) (run_join (reader ed) d m.1))

pub silent_free : (ed : Edition) (text text' : List ℕ) (rl sl rl' sl' : ℕ) (xs bs : List TextLine) (r : TextLine) → Silent r → text_lines text ≡ xs ++ (r ∷ bs) → text_lines text' ≡ xs ++ bs
    → Accepted (parse_abc ed text rl sl) → Accepted (parse_abc ed text' rl' sl') → (parse_abc ed text rl sl).verdict ≡ (parse_abc ed text' rl' sl').verdict
unfolding scan
silent_free ed text text' rl sl rl' sl' xs bs r q e e' h h' = go (accepted_scan ed text rl sl h)
  where
    go : Scanned ed text (parse_abc ed text rl sl).verdict → (parse_abc ed text rl sl).verdict ≡ (parse_abc ed text' rl' sl').verdict
    go (u, c, (f, w)) =
        let d : Run (reader ed) begin (xs ++ (r ∷ bs)) u c = run_of (reader ed) (xs ++ (r ∷ bs)) begin u c (subst (λ (z : List TextLine). run (step ed) begin z ≡ on u c) e f) in
        let t = run_cut (reader ed) xs d in
        let m = silent_out ed xs bs r t.0 u t.1 t.2 q t.3 t.4 in
        let k : run (step ed) begin (text_lines text') ≡ on (with_lines u m.0) (t.1 ++ t.2) = ap (run (step ed) begin) e' ∙ run_run (reader ed) m.1 in
        w ∙ ap (λ (z : Items). reading (parts_after ed u z)) t.5
        ∙ ap (λ (o : Out). reading (parts_of ed o)) (sym k)
        ∙ sym (verdict_is ed text' rl' sl' h')

-- IN A MUSIC LINE, from where it begins as a token
-- a quoted text q, and a decoration between two `!` or two `+`: the line does from here what it does from behind it
drop_closed : (x : ℕ) (q s : List ℕ) → drop (2 + length q) (x ∷ (q ++ (x ∷ s))) ≡ s
drop_closed x q s = ap (λ (n : ℕ). drop n (x ∷ (q ++ (x ∷ s)))) (let k : 2 + length q ≡ suc (suc (length q)) = omega arith in k) ∙ go q
  where
    go : (q : List ℕ) → drop (suc (length q)) (q ++ (x ∷ s)) ≡ s
    go [] = refl
    go (c ∷ q) = go q

within : (q : List ℕ) (x : ℕ) (s : List ℕ) → length q < length (q ++ (x ∷ s))
within [] x s = omega arith
within (c ∷ q) x s = omega (arith, within q x s)

-- to the n-th byte, if there is one
abbrev up_to : Token → Taken → Bool → ℕ → Taken
up_to t o b n = elim b as (λ _. Taken) [ true ↦ taken t (2 + n) | false ↦ o ]

closed_is : (p : ℕ → Bool) (t : Token) (s : List ℕ) (o : Taken) → closed_by p t s o ≡ up_to t o (ltb (count_while (λ c. not (p c)) s) (length s)) (count_while (λ c. not (p c)) s)
unfolding closed_by
closed_is p t s o = refl

closed_token : (x : ℕ) (t : Token) (q s : List ℕ) → all (λ c. not (eqb c x)) q ≡ true → (o : Taken) → closed_by (λ c. eqb c x) t (q ++ (x ∷ s)) o ≡ taken t (2 + length q)
closed_token x t q s h o =
    let n : count_while (λ c. not (eqb c x)) (q ++ (x ∷ s)) ≡ length q = count_while_front (λ c. not (eqb c x)) q (x ∷ s) h (count_while_no (λ c. not (eqb c x)) x s (ap not (eqb_same x))) in
    closed_is (λ c. eqb c x) t (q ++ (x ∷ s)) o
    ∙ ap (λ (k : ℕ). up_to t o (ltb k (length (q ++ (x ∷ s)))) k) n
    ∙ ap (λ (b : Bool). up_to t o b (length q)) (lt-ltb (length q) (length (q ++ (x ∷ s))) (within q x s))

tokens_behind : (ed : Edition) (x : ℕ) (t : Token) (q s : List ℕ) → token_of ed (x ∷ (q ++ (x ∷ s))) ≡ taken t (2 + length q) → tokens ed 0 (x ∷ (q ++ (x ∷ s))) ≡ t ∷ tokens ed 0 s
tokens_behind ed x t q s e =
    tokens_cons ed x (q ++ (x ∷ s)) ∙ ap (λ (z : Taken). z.token ∷ tokens ed 0 (drop z.used (x ∷ (q ++ (x ∷ s))))) e ∙ ap (λ (l : List ℕ). t ∷ tokens ed 0 l) (drop_closed x q s)

pub quoted_token : (ed : Edition) (q s : List ℕ) → all (λ c. not (eqb c 34)) q ≡ true → tokens ed 0 (34 ∷ (q ++ (34 ∷ s))) ≡ quoted ∷ tokens ed 0 s
unfolding everything
quoted_token ed q s h = tokens_behind ed 34 quoted q s (closed_token 34 quoted q s h _)

pub bang_token : (ed : Edition) (q s : List ℕ) → all (λ c. not (eqb c 33)) q ≡ true → tokens ed 0 (33 ∷ (q ++ (33 ∷ s))) ≡ decoration ∷ tokens ed 0 s
unfolding everything
bang_token ed q s h = tokens_behind ed 33 decoration q s (closed_token 33 decoration q s h _)

pub plus_token : (ed : Edition) (q s : List ℕ) → all (λ c. not (eqb c 43)) q ≡ true → tokens ed 0 (43 ∷ (q ++ (43 ∷ s))) ≡ decoration ∷ tokens ed 0 s
unfolding everything
plus_token ed q s h = tokens_behind ed 43 decoration q s (closed_token 43 decoration q s h _)

-- such a token does nothing to a part, and nothing to the scan
pub token_free : (s : PartState) → (on_token s quoted ≡ s) × (on_token s decoration ≡ s)
unfolding on_token
token_free s = (refl, refl)

pub effect_free : (effect_of quoted ≡ no_effect) × (effect_of decoration ≡ no_effect)
unfolding effect_of
effect_free = (refl, refl)

-- so the state of the part after the line is that without it
pub quoted_free : (ed : Edition) (t : PartState) (q s : List ℕ) → all (λ c. not (eqb c 34)) q ≡ true → foldl on_token t (tokens ed 0 (34 ∷ (q ++ (34 ∷ s)))) ≡ foldl on_token t (tokens ed 0 s)
unfolding on_token
quoted_free ed t q s h = ap (foldl on_token t) (quoted_token ed q s h)

pub bang_free : (ed : Edition) (t : PartState) (q s : List ℕ) → all (λ c. not (eqb c 33)) q ≡ true → foldl on_token t (tokens ed 0 (33 ∷ (q ++ (33 ∷ s)))) ≡ foldl on_token t (tokens ed 0 s)
unfolding on_token
bang_free ed t q s h = ap (foldl on_token t) (bang_token ed q s h)

pub plus_free : (ed : Edition) (t : PartState) (q s : List ℕ) → all (λ c. not (eqb c 43)) q ≡ true → foldl on_token t (tokens ed 0 (43 ∷ (q ++ (43 ∷ s)))) ≡ foldl on_token t (tokens ed 0 s)
unfolding on_token
plus_free ed t q s h = ap (foldl on_token t) (plus_token ed q s h)
