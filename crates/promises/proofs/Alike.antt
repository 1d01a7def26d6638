-- A TEXT THAT PASSES THE TESTS OF specs/Alike HAS ONE OUTCOME IN BOTH EDITIONS, whatever the stores: the same refusal, or the same reading, so the same tally. Assumes nothing.
use Prim.Native.Nat.{ℕ, zero, suc, ◌+◌, ◌<◌, max}
use mathlib.Core.Path.{◌≡◌, refl, sym, ap, subst, ◌∙◌}
use mathlib.Core.Logic.{◌↔◌}
use mathlib.Core.Bool.{Bool, true, false, cond, ◌||◌, true≢false}
use mathlib.Core.Option.{Option, none, some}
use mathlib.Core.List.{List, [], ◌∷◌, map}
use native.Mathlib.Omega.{arith}
use lib.Dec.{leb, ltb}
use lib.ListN.{length, drop}
use Rattle.laws.specs.Lists.{All, all, elem, is_nil}
use Rattle.laws.proofs.Bools.{by_test, and_left, and_right, cond_both}
use Rattle.laws.proofs.Lists.{All-append}
use Rattle.laws.proofs.Finite.{below}
use Rattle.standard.specs.Keys.{Key}
use Rattle.editions.specs.declared.Edition.{Edition}
use Rattle.editions.specs.declared.Edition.TheVariants.{First, Second}
use Rattle.reader.specs.Text.{text_lines, clean, has_high}
use Rattle.reader.specs.Fields.{identifier}
use Rattle.reader.specs.Token.{Token}
use Rattle.reader.specs.Tokens.{tokens, Effect, effect_of, effects}
use Rattle.reader.specs.Lines as lines
use Rattle.reader.specs.Lines.{Kind, is_v, is_k, is_l, is_m, is_x, is_lyric, is_field, voice_kind, kind_unless, key_kind, field_kind, line_kind, kind_of}
use Rattle.reader.specs.Steps.{TextLine, refuse, on, first, run, items_of}
use Rattle.reader.specs.Scan.{Item, Items, Out, Env, ScanState, begin, most_lines, most_voices, voices_before, first_refusal, play_on, voice_on, unit_on, act, step, scan}
use Rattle.reader.specs.Part.{Part}
use Rattle.reader.specs.Answer.{Outcome, refused_with, early, built, parts, ended, finish, scanned, unless, parse_abc}
use Rattle.promises.specs.Arrangement.{tally_of}
use Rattle.promises.specs.Refusals.{Reason}
use Rattle.promises.specs.Alike.{key_alike, tokens_alike, music_alike, body, sung_alike, header_alike, each_part, Alike}
use Rattle.promises.proofs.Refusals.{only_under_its_condition, under_its_condition}
use Rattle.promises.proofs.Free.{own_all}
use Rattle.promises.proofs.AlikeTokens.{same_key_kind, tokens_alike_lem}
use Rattle.promises.proofs.AlikeParts.{ItemAlike, built_alike}

-- A LINE, cut and trimmed
field_alike : (l : List ℕ) → key_alike l ≡ true → field_kind First l ≡ field_kind Second l
unfolding field_kind
field_alike l h =
    by_test (is_v l) (λ v. rw v)
    (λ v. by_test (is_k l) (λ k. rw (v, k) (ap (cond (has_high l) (lines.refused 6)) (same_key_kind (drop 2 l) (rw k at h)))) (λ k. rw (v, k)))

-- a music line after the first K line
music_tokens : (l : List ℕ) → is_lyric l ≡ false → is_field l ≡ false → music_alike l ≡ true → tokens First 0 l ≡ tokens Second 0 l
music_tokens l y f h = tokens_alike_lem 0 l (subst (λ (b : Bool). cond b true (tokens_alike 0 l) ≡ true) (λ i. y i || f i) h)

music_act : (s : ScanState) (l : List ℕ) (hi h : Bool) → (h ≡ false → tokens First 0 l ≡ tokens Second 0 l) → act s (lines.music hi (effects First l) l) h ≡ act s (lines.music hi (effects Second l) l) h
unfolding act effects
music_act s l hi true e = refl
music_act s l hi false e = ap (λ (ts : List Token). act s (lines.music hi (map effect_of ts) l) false) (e refl)

-- does the same in both editions
line_act : (s : ScanState) (l : List ℕ) (h : Bool) → key_alike l ≡ true → (h ≡ false → music_alike l ≡ true) → act s (line_kind First l) h ≡ act s (line_kind Second l) h
unfolding line_kind
line_act s l h k m =
    by_test (is_nil l) (λ a. rw a)
    (λ a. by_test (ltb 1048576 (length l)) (λ b. rw (a, b))
    (λ b. by_test (is_lyric l) (λ y. rw (a, b, y))
    (λ y. by_test (is_field l) (λ f. rw (a, b, y, f) (ap (λ (z : Kind). act s z h) (field_alike l k))) (λ f. rw (a, b, y, f) (music_act s l (has_high l) h (λ e. music_tokens l y f (m e)))))))

-- THE ITEMS OF A LINE; h: before the first K line
abbrev KindAlike : Bool → Kind → Type 0
KindAlike h lines.blank = Unit {0}
KindAlike h (lines.refused n) = Unit {0}
KindAlike h (lines.lyric t) = Unit {0}
KindAlike h (lines.voice v mid) = Unit {0}
KindAlike h (lines.key k) = Unit {0}
KindAlike h (lines.meter m) = Unit {0}
KindAlike h (lines.unit u) = Unit {0}
KindAlike h lines.tune = Unit {0}
KindAlike h lines.other = Unit {0}
KindAlike h (lines.music hi es l) = h ≡ false → tokens First 0 l ≡ tokens Second 0 l

unless_alike : (h : Bool) (k : Key) (o : Option ℕ) → KindAlike h (kind_unless k o)
unfolding kind_unless
unless_alike h k none = tt
unless_alike h k (some n) = tt

field_items : (h : Bool) (l : List ℕ) → KindAlike h (field_kind First l)
unfolding field_kind voice_kind key_kind
field_items h l =
    both (is_v l) _ _ (both (has_high l) (lines.refused 6) _ tt (both (is_nil (identifier (drop 2 l))) (lines.refused 8) (lines.voice _ _) tt tt))
    (both (is_k l) _ _ (both (has_high l) (lines.refused 6) _ tt (unless_alike h _ _))
    (both (is_l l) _ _ (both (has_high l) (lines.refused 6) (lines.unit _) tt tt)
    (both (is_m l) _ _ (both (has_high l) (lines.refused 6) (lines.meter _) tt tt) (both (is_x l) lines.tune lines.other tt tt))))
  where
    both : (b : Bool) (x y : Kind) → KindAlike h x → KindAlike h y → KindAlike h (cond b x y)
    both b x y p q = cond_both (KindAlike h) b x y p q

line_kind_lem : (h : Bool) (l : List ℕ) → (h ≡ false → music_alike l ≡ true) → KindAlike h (line_kind First l)
unfolding line_kind
line_kind_lem h l m =
    by_test (is_nil l) (λ a. rw a tt)
    (λ a. by_test (ltb 1048576 (length l)) (λ b. rw (a, b) tt)
    (λ b. by_test (is_lyric l) (λ y. rw (a, b, y) tt) (λ y. by_test (is_field l) (λ f. rw (a, b, y, f) (field_items h l)) (λ f. rw (a, b, y, f) (λ e. music_tokens l y f (m e))))))

abbrev OutAlike : Out → Type 0
OutAlike (refuse n l) = Unit {0}
OutAlike (on t a) = All (λ (x : ℕ × Item). ItemAlike x.1) a

voice_items : (s : ScanState) (v : List ℕ) (vs : List (List ℕ)) (a b c : Bool) → OutAlike (voice_on s v vs a b c)
unfolding voice_on
voice_items s v vs true b true = tt
voice_items s v vs true b false = (tt, tt)
voice_items s v vs false true c = tt
voice_items s v vs false false true = tt
voice_items s v vs false false false = (tt, (tt, tt))

unit_items : (s : ScanState) (u : Option ℕ) → OutAlike (unit_on s u)
unfolding unit_on
unit_items s none = tt
unit_items s (some u) = tt

play_items : (s : ScanState) (es : List Effect) (l : List ℕ) (o : Option ℕ) → tokens First 0 l ≡ tokens Second 0 l → OutAlike (play_on s es l o)
unfolding play_on
play_items s es l none e = (e, tt)
play_items s es l (some n) e = tt

act_items : (s : ScanState) (k : Kind) (h : Bool) → KindAlike h k → OutAlike (act s k h)
unfolding act
act_items s lines.blank h q = tt
act_items s (lines.refused n) h q = tt
act_items s (lines.lyric t) true q = tt
act_items s (lines.lyric t) false q = (tt, tt)
act_items s (lines.voice v mid) h q = voice_items s v (voices_before s) (elem v (voices_before s)) (leb most_voices (length (voices_before s))) mid
act_items s (lines.key k) true q = (tt, tt)
act_items s (lines.key k) false q = (tt, tt)
act_items s (lines.meter m) true q = tt
act_items s (lines.meter m) false q = (tt, tt)
act_items s (lines.unit u) h q = unit_items s u
act_items s lines.tune true q = tt
act_items s lines.tune false q = tt
act_items s lines.other h q = tt
act_items s (lines.music hi es l) true q = tt
act_items s (lines.music true es l) false q = tt
act_items s (lines.music false es l) false q = play_items s es l (first_refusal s.notes es) (q refl)

-- THE HEADER ends with a K line only
abbrev NoKey : Kind → Type 0
NoKey lines.blank = Unit {0}
NoKey (lines.refused n) = Unit {0}
NoKey (lines.lyric t) = Unit {0}
NoKey (lines.voice v mid) = Unit {0}
NoKey (lines.key k) = ⊥
NoKey (lines.meter m) = Unit {0}
NoKey (lines.unit u) = Unit {0}
NoKey lines.tune = Unit {0}
NoKey lines.other = Unit {0}
NoKey (lines.music hi es l) = Unit {0}

no_key : (b : Bool) (x y : Kind) → NoKey x → NoKey y → NoKey (cond b x y)
no_key b x y p q = cond_both NoKey b x y p q

field_no_key : (l : List ℕ) → is_k l ≡ false → NoKey (field_kind First l)
unfolding field_kind voice_kind
field_no_key l k =
    rw k
    (no_key (is_v l) _ _ (no_key (has_high l) (lines.refused 6) _ tt (no_key (is_nil (identifier (drop 2 l))) (lines.refused 8) (lines.voice _ _) tt tt))
    (no_key (is_l l) _ _ (no_key (has_high l) (lines.refused 6) (lines.unit _) tt tt) (no_key (is_m l) _ _ (no_key (has_high l) (lines.refused 6) (lines.meter _) tt tt) (no_key (is_x l) lines.tune lines.other tt tt))))

line_no_key : (l : List ℕ) → is_k l ≡ false → NoKey (line_kind First l)
unfolding line_kind
line_no_key l k =
    no_key (is_nil l) lines.blank _ tt
    (no_key (ltb 1048576 (length l)) (lines.refused 5) _ tt (no_key (is_lyric l) (lines.lyric _) _ tt (no_key (is_field l) (field_kind First l) (lines.music _ _ _) (field_no_key l k) tt)))

abbrev Still : Out → Type 0
Still (refuse n l) = Unit {0}
Still (on t a) = t.env.in_header ≡ true

voice_still : (s : ScanState) (v : List ℕ) (vs : List (List ℕ)) (a b c : Bool) → s.env.in_header ≡ true → Still (voice_on s v vs a b c)
unfolding voice_on
voice_still s v vs true b true e = tt
voice_still s v vs true b false e = e
voice_still s v vs false true c e = tt
voice_still s v vs false false true e = tt
voice_still s v vs false false false e = e

unit_still : (s : ScanState) (u : Option ℕ) → s.env.in_header ≡ true → Still (unit_on s u)
unfolding unit_on
unit_still s none e = e
unit_still s (some u) e = e

act_still : (s : ScanState) (k : Kind) → NoKey k → s.env.in_header ≡ true → Still (act s k true)
unfolding act
act_still s lines.blank n e = e
act_still s (lines.refused m) n e = tt
act_still s (lines.lyric t) n e = e
act_still s (lines.voice v mid) n e = voice_still s v (voices_before s) (elem v (voices_before s)) (leb most_voices (length (voices_before s))) mid e
act_still s (lines.key k) n e = absurd n
act_still s (lines.meter m) n e = e
act_still s (lines.unit u) n e = unit_still s u e
act_still s lines.tune n e = e
act_still s lines.other n e = e
act_still s (lines.music hi es l) n e = e

-- THE LINES IN ORDER: what is tested of the lines to come, by whether the first K line is still to come
abbrev Music : Bool → List (List ℕ) → Type 0
Music true ls = all music_alike (body ls) ≡ true
Music false ls = all music_alike ls ≡ true

-- of lines all of which pass, those after a K line do
all_body : (ls : List (List ℕ)) → all music_alike ls ≡ true → all music_alike (body ls) ≡ true
unfolding body
all_body [] h = refl
all_body (l ∷ ls) h = let r = and_right (music_alike l) (all music_alike ls) h in by_test (is_k l) (λ k. rw k r) (λ k. rw k (all_body ls r))

all_music : (b : Bool) (ls : List (List ℕ)) → all music_alike ls ≡ true → Music b ls
all_music true ls h = all_body ls h
all_music false ls h = h

here_music : (b : Bool) (l : List ℕ) (ls : List (List ℕ)) → Music b (l ∷ ls) → b ≡ false → music_alike l ≡ true
here_music true l ls m e = absurd (true≢false e)
here_music false l ls m e = and_left (music_alike l) (all music_alike ls) m

-- behind a line l, where the header ended with it only if it is a K line
later_music : (b c : Bool) (l : List ℕ) (ls : List (List ℕ)) → Music b (l ∷ ls) → (b ≡ true → is_k l ≡ false → c ≡ true) → Music c ls
unfolding body
later_music false c l ls m f = all_music c ls (and_right (music_alike l) (all music_alike ls) m)
later_music true c l ls m f =
    by_test (is_k l) (λ k. all_music c ls (rw k at m)) (λ k. subst (λ (z : Bool). Music z ls) (sym (f refl k)) (rw k at m))

step_act : (ed : Edition) (s : ScanState) (r : TextLine) → step ed s r ≡ cond (ltb s.lines most_lines) (act s (line_kind ed (clean r)) s.env.in_header) (refuse 4 (suc s.lines))
unfolding step kind_of
step_act ed s r = refl

step_alike : (s : ScanState) (r : TextLine) → key_alike (clean r) ≡ true → (s.env.in_header ≡ false → music_alike (clean r) ≡ true) → step First s r ≡ step Second s r
step_alike s r k m =
    step_act First s r ∙ ap (λ (o : Out). cond (ltb s.lines most_lines) o (refuse 4 (suc s.lines))) (line_act s (clean r) s.env.in_header k m) ∙ sym (step_act Second s r)

step_items : (s : ScanState) (r : TextLine) → (s.env.in_header ≡ false → music_alike (clean r) ≡ true) → OutAlike (step First s r)
step_items s r m =
    subst OutAlike (sym (step_act First s r)) (cond_both OutAlike (ltb s.lines most_lines) _ (refuse 4 (suc s.lines)) (act_items s (line_kind First (clean r)) s.env.in_header (line_kind_lem s.env.in_header (clean r) m)) tt)

step_still : (s : ScanState) (r : TextLine) → s.env.in_header ≡ true → is_k (clean r) ≡ false → Still (step First s r)
step_still s r h k =
    subst Still (sym (step_act First s r))
    (cond_both Still (ltb s.lines most_lines) _ (refuse 4 (suc s.lines)) (subst (λ (b : Bool). Still (act s (line_kind First (clean r)) b)) (sym h) (act_still s (line_kind First (clean r)) (line_no_key (clean r) k) h)) tt)

-- what the rows behind one come to
abbrev onward : Edition → List TextLine → Out → Out
onward ed rs o = elim o as (λ _. Out) [ refuse n l ↦ refuse n l | on t a ↦ first a (run (step ed) t rs) ]

first_items : (a : Items) (o : Out) → All (λ (x : ℕ × Item). ItemAlike x.1) a → OutAlike o → OutAlike (first a o)
first_items a (refuse n l) h q = tt
first_items a (on t b) h q = All-append _ a b h q

run_alike : (rs : List TextLine) (s : ScanState) → all key_alike (map clean rs) ≡ true → Music s.env.in_header (map clean rs) → (run (step First) s rs ≡ run (step Second) s rs) × OutAlike (run (step First) s rs)
run_alike [] s k m = (refl, tt)
run_alike (r ∷ rs) s k m = go (step First s r) refl (step_items s r here) (λ t. run_alike rs t (and_right (key_alike (clean r)) (all key_alike (map clean rs)) k))
  where
    here : s.env.in_header ≡ false → music_alike (clean r) ≡ true
    here = here_music s.env.in_header (clean r) (map clean rs) m

    same : step First s r ≡ step Second s r
    same = step_alike s r (and_left (key_alike (clean r)) (all key_alike (map clean rs)) k) here

    go : (o : Out) → step First s r ≡ o → OutAlike o → ((t : ScanState) → Music t.env.in_header (map clean rs) → (run (step First) t rs ≡ run (step Second) t rs) × OutAlike (run (step First) t rs))
        → (run (step First) s (r ∷ rs) ≡ run (step Second) s (r ∷ rs)) × OutAlike (run (step First) s (r ∷ rs))
    go (refuse n l) e q rec = (ap (onward First rs) e ∙ sym (ap (onward Second rs) (sym same ∙ e)), subst (λ (o : Out). OutAlike (onward First rs o)) (sym e) tt)
    go (on t a) e q rec =
        let w = rec t (later_music s.env.in_header t.env.in_header (clean r) (map clean rs) m (λ h f. subst Still e (step_still s r h f))) in
        (ap (onward First rs) e ∙ ap (first a) w.0 ∙ sym (ap (onward Second rs) (sym same ∙ e)), subst (λ (o : Out). OutAlike (onward First rs o)) (sym e) (first_items a (run (step First) t rs) q w.1))

-- THE PARTS
parts_alike : (e : Env) (f : ℕ → List Item) (n q : ℕ) → ((p : ℕ) → p < q + n → built First e (f p) ≡ built Second e (f p)) → parts First e f n q ≡ parts Second e f n q
unfolding parts
parts_alike e f zero q h = refl
parts_alike e f (suc n) q h = λ i. h q (omega arith) i ∷ parts_alike e f n (suc q) (λ p l. h p (omega (arith, l))) i

-- a scan that goes through
finish_alike : (s : ScanState) (a : Items) (rl sl : ℕ) → OutAlike (on s a) → each_part (λ header is. sung_alike is) (on s a) ≡ true → each_part header_alike (on s a) ≡ true
    → finish First s.env (λ p. items_of p a) rl sl ≡ finish Second s.env (λ p. items_of p a) rl sl
unfolding finish
finish_alike s a rl sl q w h =
    let n = max 1 (length s.env.voices) in
    ap (λ (ps : List Part). ended ps rl sl)
    (parts_alike s.env (λ p. items_of p a) n 0
    (λ p l. let k : p < n = omega (arith, l) in
    built_alike s.env (items_of p a) (own_all ItemAlike p a q) (below n (λ p. sung_alike (items_of p a)) w p k) (below n (λ p. header_alike s.env.header_key (items_of p a)) h p k)))

scanned_alike : (o : Out) (rl sl : ℕ) → OutAlike o → each_part (λ header is. sung_alike is) o ≡ true → each_part header_alike o ≡ true → scanned First rl sl o ≡ scanned Second rl sl o
unfolding scanned
scanned_alike (refuse n l) rl sl q w h = refl
scanned_alike (on s a) rl sl q w h = finish_alike s a rl sl q w h

-- THE TEXT: the same verdict, the same bytes in both stores
pub same_reading : (text : List ℕ) (rl sl : ℕ) → Alike text → parse_abc First text rl sl ≡ parse_abc Second text rl sl
unfolding parse_abc unless scan begin
same_reading text rl sl h = go (early text rl sl)
  where
    rows : List TextLine
    rows = text_lines text

    go : (o : Option Outcome) → unless First text rl sl o ≡ unless Second text rl sl o
    go (some w) = refl
    go none =
        let r = run_alike rows begin h.keys h.music in
        scanned_alike (scan First rows) rl sl r.1 h.sung h.header ∙ ap (scanned Second rl sl) r.0

-- so the same refusals
pub same_refusals : (text : List ℕ) (rl sl n l : ℕ) → Alike text → Reason First text rl sl n l ↔ Reason Second text rl sl n l
unfolding refused_with
same_refusals text rl sl n l h =
    let e = same_reading text rl sl h in (
      (λ r. only_under_its_condition Second text rl sl n l (ap (λ (w : Outcome). w.verdict) (sym e ∙ under_its_condition First text rl sl n l r))),
      (λ r. only_under_its_condition First text rl sl n l (ap (λ (w : Outcome). w.verdict) (e ∙ under_its_condition Second text rl sl n l r))),
    )

-- and the same tally
pub same_tallies : (text : List ℕ) (rl sl : ℕ) → Alike text → tally_of (parse_abc First text rl sl).verdict ≡ tally_of (parse_abc Second text rl sl).verdict
same_tallies text rl sl h = ap (λ (w : Outcome). tally_of w.verdict) (same_reading text rl sl h)
