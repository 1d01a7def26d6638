-- EACH REFUSAL IS GIVEN UNDER ITS CONDITION ONLY, and always where it is met first: `only_under_its_condition`, `under_its_condition`, `not_refused`. Assumes nothing.
use Prim.Native.Nat.{ℕ, suc, ◌+◌, ◌≤◌}
use mathlib.Core.Path.{◌≡◌, refl, sym, ap, subst, ◌∙◌}
use mathlib.Core.Logic.{◌⊎◌, inl, inr, ⊎_elim}
use mathlib.Core.Bool.{Bool, true, false, cond, ◌||◌, false≢true}
use mathlib.Core.Option.{Option, none, some}
use mathlib.Core.List.{List, [], ◌∷◌, ◌++◌, map}
use native.Mathlib.Omega.{arith}
use lib.Dec.{eqb, leb, ltb}
use lib.ListN.{length, drop}
use borrow.Author.Tests.{eqb-true, ltb-true, ltb-false, leb-true, leb-false, lt-ltb, le-leb, lt-leb}
use Rattle.laws.specs.Lists.{any, elem, is_nil, sum}
use Rattle.laws.proofs.Bools.{by_test, both_true, and_left, and_right, or_either}
use Rattle.standard.specs.Keys.{Key}
use Rattle.standard.specs.Fields.{Meter}
use Rattle.editions.specs.declared.Edition.{Edition}
use Rattle.editions.specs.declared.Edition.TheVariants.{First}
use Rattle.reader.specs.Text.{is_utf8, is_blank, text_lines, clean, has_high}
use Rattle.reader.specs.Keys.{key_of}
use Rattle.reader.specs.Fields.{meter_of, unit_of, identifier, middle_word, key_refusal}
use Rattle.reader.specs.Lengths.{many_slashes}
use Rattle.reader.specs.Pitches.{octave_of}
use Rattle.reader.specs.Tokens.{Effect, effect_of, effects}
use Rattle.reader.specs.Lines.{is_v, is_k, is_l, is_m, is_x, is_lyric, is_field, begins, Kind, blank, refused, lyric, voice, key, meter, unit, tune, other, music, voice_kind, key_kind, field_kind, line_kind, kind_of, kind_unless}
use Rattle.reader.specs.Steps.{TextLine, refuse, on, first, run}
use Rattle.reader.specs.Scan.{Items, Out, ScanState, begin, most_lines, most_voices, note_count, voices_before, first_refusal, play_on, voice_on, unit_on, act, step, scan}
use Rattle.reader.specs.Answer.{Verdict, refusal, reading, Outcome, most_bytes, scratch_needed, refused_with, early, encode, measure_count, written, ended, finish, scanned, unless, parse_abc}
use Rattle.reader.proofs.LengthLaws.{never_many}
use Rattle.blocks.proofs.Keeps.{laws}
use Rattle.blocks.proofs.Instance.{reader}
use Rattle.blocks.proofs.Runs.{run_of, run_lines}
use Rattle.blocks.specs.Demand.{IsReading}
use Rattle.promises.specs.Refusals.{bracketed, after_bracket, key_inline, octave_note, octave_chord, many_more, many_less, list_shape, list_range, list_rise, slashes_note, slashes_chord, slashes_rest, Here, token, note, parts_after, Why, many_lines, long_line, high_field, high_music, second_tune, no_identifier, many_voices, middle_V, key_line, in_music, Smallest, At, KeyMeets, Begins, Reason, long_text, not_utf8, blank_text, short_scratch, at_line, no_measure, short_reading}
use Rattle.promises.proofs.TokenRefusals.{first_why, music_meets, LineNumber, key_field_range, music_range}
use Rattle.promises.proofs.KeyFields.{key_field_why, key_field_meets, first_key_field}

-- a refusal is told by its number and line
number_of : Out → ℕ
number_of (refuse n l) = n
number_of (on s a) = 0

line_of : Out → ℕ
line_of (refuse n l) = l
line_of (on s a) = 0

is_on : Out → ℕ
is_on (refuse n l) = 0
is_on (on s a) = 1

-- what a refusal n at line k of a row comes to
abbrev Refused : Edition → ScanState → List ℕ → ℕ → ℕ → Type 0
Refused ed s l n k = Why ed s l n × (k ≡ suc s.lines)

this : (ed : Edition) (s : ScanState) (l : List ℕ) (a n k : ℕ) → Why ed s l a → ◌≡◌ {A = Out} (refuse a (suc s.lines)) (refuse n k) → Refused ed s l n k
unfolding number_of line_of
this ed s l a n k w e = (subst (λ (x : ℕ). Why ed s l x) (ap number_of e) w, sym (ap line_of e))

never : (t : ScanState) (a : Items) (n k : ℕ) → ◌≡◌ {A = Out} (on t a) (refuse n k) → ⊥
unfolding is_on
never t a n k e = let z : ◌≡◌ {A = ℕ} 1 0 = ap is_on e in absurd (omega (arith, z))

-- V LINES
voice_why : (ed : Edition) (s : ScanState) (l : List ℕ) (n k : ℕ) → is_v l ≡ true → act s (voice_kind (drop 2 l)) s.env.in_header ≡ refuse n k → Refused ed s l n k
unfolding act voice_kind voice_on
voice_why ed s l n k v e =
    by_test (is_nil (identifier (drop 2 l))) (λ i. this ed s l 8 n k (no_identifier v i) (rw (i, voice_kind) at e))
    (λ i. named (elem (identifier (drop 2 l)) (voices_before s)) refl (leb most_voices (length (voices_before s))) refl (middle_word (drop 2 l)) refl (rw (i, voice_kind) at e))
  where
    named : (h : Bool) → elem (identifier (drop 2 l)) (voices_before s) ≡ h → (f : Bool) → leb most_voices (length (voices_before s)) ≡ f → (m : Bool) → middle_word (drop 2 l) ≡ m
        → voice_on s (identifier (drop 2 l)) (voices_before s) h f m ≡ refuse n k → Refused ed s l n k
    named true eh f ef true em e = this ed s l 10 n k (middle_V v em) e
    named true eh f ef false em e = absurd (never _ _ n k e)
    named false eh true ef m em e = this ed s l 9 n k (many_voices v eh (leb-true most_voices (length (voices_before s)) ef)) e
    named false eh false ef true em e = this ed s l 10 n k (middle_V v em) e
    named false eh false ef false em e = absurd (never _ _ n k e)

-- what no line of its kind is refused for
unit_never : (s : ScanState) (u : Option ℕ) (h : Bool) (n k : ℕ) → act s (unit u) h ≡ refuse n k → ⊥
unfolding act unit_on
unit_never s none h n k e = never _ _ n k e
unit_never s (some u) h n k e = never _ _ n k e

meter_never : (s : ScanState) (m : Meter) (h : Bool) (n k : ℕ) → act s (meter m) h ≡ refuse n k → ⊥
unfolding act
meter_never s m true n k e = never _ _ n k e
meter_never s m false n k e = never _ _ n k e

key_never : (s : ScanState) (x : Key) (h : Bool) (n k : ℕ) → act s (key x) h ≡ refuse n k → ⊥
unfolding act
key_never s x true n k e = never _ _ n k e
key_never s x false n k e = never _ _ n k e

lyric_never : (s : ScanState) (t : List ℕ) (h : Bool) (n k : ℕ) → act s (lyric t) h ≡ refuse n k → ⊥
unfolding act
lyric_never s t true n k e = never _ _ n k e
lyric_never s t false n k e = never _ _ n k e

-- K LINES
key_why : (ed : Edition) (s : ScanState) (l : List ℕ) (n k : ℕ) → is_k l ≡ true → act s (key_kind ed (drop 2 l)) s.env.in_header ≡ refuse n k → Refused ed s l n k
unfolding act key_kind kind_unless
key_why ed s l n k v e = go (key_refusal ed (drop 2 l)) refl e
  where
    go : (o : Option ℕ) → key_refusal ed (drop 2 l) ≡ o → act s (kind_unless (key_of ed (drop 2 l)) o) s.env.in_header ≡ refuse n k → Refused ed s l n k
    go none o e = absurd (key_never s (key_of ed (drop 2 l)) s.env.in_header n k e)
    go (some m) o e = this ed s l m n k (key_line v (key_field_why ed (drop 2 l) m o)) e

-- X LINES
tune_why : (ed : Edition) (s : ScanState) (l : List ℕ) (n k : ℕ) → is_x l ≡ true → (h : Bool) → s.env.in_header ≡ h → act s tune h ≡ refuse n k → Refused ed s l n k
unfolding act
tune_why ed s l n k v true b e = absurd (never _ _ n k e)
tune_why ed s l n k v false b e = this ed s l 7 n k (second_tune b v) e

-- FIELDS
four : (a b c d : Bool) → (a ≡ true) ⊎ ((b ≡ true) ⊎ ((c ≡ true) ⊎ (d ≡ true))) → (a || b || c || d) ≡ true
four true b c d h = refl
four false true c d h = refl
four false false true d h = refl
four false false false true h = refl
four false false false false h = absurd (⊎_elim (λ e. false≢true e) (λ h. ⊎_elim (λ e. false≢true e) (λ h. ⊎_elim (λ e. false≢true e) (λ e. false≢true e) h) h) h)

-- by a test: what is known of both of its kinds
module _ (s : ScanState) (n k : ℕ) (P : Type 0) where
  abbrev Comes : Kind → Type 0
  Comes x = act s x s.env.in_header ≡ refuse n k → P

  either : (b : Bool) (x y : Kind) → (b ≡ true → Comes x) → (b ≡ false → Comes y) → Comes (cond b x y)
  either true x y f g = f refl
  either false x y f g = g refl

field_why : (ed : Edition) (s : ScanState) (l : List ℕ) (n k : ℕ) → act s (field_kind ed l) s.env.in_header ≡ refuse n k → Refused ed s l n k
unfolding field_kind act
field_why ed s l n k =
    by (is_v l) _ _ (λ v. high (inl v) (voice_kind (drop 2 l)) (voice_why ed s l n k v))
    (λ _. by (is_k l) _ _ (λ v. high (inr (inl v)) (key_kind ed (drop 2 l)) (key_why ed s l n k v))
    (λ _. by (is_l l) _ _ (λ v. high (inr (inr (inl v))) (unit (unit_of (drop 2 l))) (λ e. absurd (unit_never s (unit_of (drop 2 l)) s.env.in_header n k e)))
    (λ _. by (is_m l) _ _ (λ v. high (inr (inr (inr v))) (meter (meter_of (drop 2 l))) (λ e. absurd (meter_never s (meter_of (drop 2 l)) s.env.in_header n k e)))
    (λ _. by (is_x l) tune other (λ v. tune_why ed s l n k v s.env.in_header refl) (λ _ e. absurd (never _ _ n k e))))))
  where
    by : (b : Bool) (x y : Kind) → (b ≡ true → Comes s n k (Refused ed s l n k) x) → (b ≡ false → Comes s n k (Refused ed s l n k) y) → Comes s n k (Refused ed s l n k) (cond b x y)
    by = either s n k (Refused ed s l n k)

    high : (is_v l ≡ true) ⊎ ((is_k l ≡ true) ⊎ ((is_l l ≡ true) ⊎ (is_m l ≡ true))) → (x : Kind) → Comes s n k (Refused ed s l n k) x → Comes s n k (Refused ed s l n k) (cond (has_high l) (refused 6) x)
    high o x f = by (has_high l) (refused 6) x (λ h e. this ed s l 6 n k (high_field (four (is_v l) (is_k l) (is_l l) (is_m l) o) h) e) (λ _. f)

-- MUSIC LINES
play_why : (ed : Edition) (s : ScanState) (l : List ℕ) (n k : ℕ) → s.env.in_header ≡ false → is_lyric l ≡ false → is_field l ≡ false → has_high l ≡ false
    → (o : Option ℕ) → first_refusal s.notes (effects ed l) ≡ o → play_on s (effects ed l) l o ≡ refuse n k → Refused ed s l n k
unfolding play_on
play_why ed s l n k b y f h none o e = absurd (never _ _ n k e)
play_why ed s l n k b y f h (some m) o e = this ed s l m n k (in_music (b, (y, f)) (first_why ed s.notes m l o)) e

music_why : (ed : Edition) (s : ScanState) (l : List ℕ) (n k : ℕ) → is_lyric l ≡ false → is_field l ≡ false → (b : Bool) → s.env.in_header ≡ b → (h : Bool) → has_high l ≡ h
    → act s (music h (effects ed l) l) b ≡ refuse n k → Refused ed s l n k
unfolding act
music_why ed s l n k y f true b h i e = absurd (never _ _ n k e)
music_why ed s l n k y f false b true i e = this ed s l 6 n k (high_music (b, (y, f)) i) e
music_why ed s l n k y f false b false i e = play_why ed s l n k b y f i (first_refusal s.notes (effects ed l)) refl e

-- LINES
line_why : (ed : Edition) (s : ScanState) (l : List ℕ) (n k : ℕ) → act s (line_kind ed l) s.env.in_header ≡ refuse n k → Refused ed s l n k
unfolding line_kind act
line_why ed s l n k =
    by (is_nil l) blank _ (λ _ e. absurd (never _ _ n k e))
    (λ _. by (ltb 1048576 (length l)) (refused 5) _ (λ h e. this ed s l 5 n k (long_line (ltb-true 1048576 (length l) h)) e)
    (λ _. by (is_lyric l) (lyric (drop 2 l)) _ (λ _ e. absurd (lyric_never s (drop 2 l) s.env.in_header n k e))
    (λ y. by (is_field l) (field_kind ed l) (music (has_high l) (effects ed l) l) (λ _. field_why ed s l n k)
    (λ f. music_why ed s l n k y f s.env.in_header refl (has_high l) refl))))
  where
    by : (b : Bool) (x y : Kind) → (b ≡ true → Comes s n k (Refused ed s l n k) x) → (b ≡ false → Comes s n k (Refused ed s l n k) y) → Comes s n k (Refused ed s l n k) (cond b x y)
    by = either s n k (Refused ed s l n k)

-- A ROW THAT IS REFUSED has the condition of the refusal's number, and the next line's number
pub row_why : (ed : Edition) (s : ScanState) (r : TextLine) (n k : ℕ) → step ed s r ≡ refuse n k → Refused ed s (clean r) n k
unfolding step kind_of
row_why ed s r n k e =
    by_test (ltb s.lines most_lines)
    (λ h. line_why ed s (clean r) n k (subst (λ (b : Bool). cond b (act s (kind_of ed r) s.env.in_header) (refuse 4 (suc s.lines)) ≡ refuse n k) h e))
    (λ h. this ed s (clean r) 4 n k (many_lines (ltb-false s.lines most_lines h))
    (subst (λ (b : Bool). cond b (act s (kind_of ed r) s.env.in_header) (refuse 4 (suc s.lines)) ≡ refuse n k) h e))

-- A LINE THAT HAS A CONDITION IS REFUSED: by the number of the condition, or by a smaller one
abbrev Sooner : ScanState → Kind → ℕ → Type 0
Sooner s k n = (m : ℕ) × ((m ≤ n) × (act s k s.env.in_header ≡ refuse m (suc s.lines)))

-- the first two bytes
two : (a b : ℕ) (l : List ℕ) → begins a b l ≡ true → (r : List ℕ) × (l ≡ a ∷ (b ∷ r))
two a b [] h = absurd (false≢true h)
two a b (x ∷ []) h = absurd (false≢true h)
two a b (x ∷ (y ∷ r)) h =
    let e = eqb-true x a (and_left (eqb x a) (eqb y b) h) in
    let f = eqb-true y b (and_right (eqb x a) (eqb y b) h) in (r, λ i. e i ∷ (f i ∷ r))

-- the kinds of the four fields, and of an X line
abbrev NotLong : List ℕ → Type 0
NotLong l = ltb 1048576 (length l) ≡ false

kind_V : (ed : Edition) (r : List ℕ) → NotLong (86 ∷ (58 ∷ r)) → line_kind ed (86 ∷ (58 ∷ r)) ≡ cond (has_high r) (refused 6) (voice_kind r)
unfolding line_kind field_kind has_high
kind_V ed r t = rw t

kind_K : (ed : Edition) (r : List ℕ) → NotLong (75 ∷ (58 ∷ r)) → line_kind ed (75 ∷ (58 ∷ r)) ≡ cond (has_high r) (refused 6) (key_kind ed r)
unfolding line_kind field_kind has_high
kind_K ed r t = rw t

kind_L : (ed : Edition) (r : List ℕ) → NotLong (76 ∷ (58 ∷ r)) → line_kind ed (76 ∷ (58 ∷ r)) ≡ cond (has_high r) (refused 6) (unit (unit_of r))
unfolding line_kind field_kind has_high
kind_L ed r t = rw t

kind_M : (ed : Edition) (r : List ℕ) → NotLong (77 ∷ (58 ∷ r)) → line_kind ed (77 ∷ (58 ∷ r)) ≡ cond (has_high r) (refused 6) (meter (meter_of r))
unfolding line_kind field_kind has_high
kind_M ed r t = rw t

kind_X : (ed : Edition) (r : List ℕ) → NotLong (88 ∷ (58 ∷ r)) → line_kind ed (88 ∷ (58 ∷ r)) ≡ tune
unfolding line_kind field_kind
kind_X ed r t = rw t

-- a line that is no lyric line and no field is music
kind_music : (ed : Edition) (c : ℕ) (l : List ℕ) → NotLong (c ∷ l) → is_lyric (c ∷ l) ≡ false → is_field (c ∷ l) ≡ false → line_kind ed (c ∷ l) ≡ music (has_high (c ∷ l)) (effects ed (c ∷ l)) (c ∷ l)
unfolding line_kind
kind_music ed c l t y f = rw t (rw y (rw f))

-- refusal 6 of such a line, and what comes behind it
six : (s : ScanState) (n : ℕ) (k : Kind) (h : Bool) (x : Kind) → 6 ≤ n → k ≡ cond h (refused 6) x → (h ≡ false → Sooner s x n) → Sooner s k n
unfolding act
six s n k true x r e f = (6, (r, ap (λ (z : Kind). act s z s.env.in_header) e))
six s n k false x r e f = subst (λ (z : Kind). Sooner s z n) (sym e) (f refl)

high_six : (s : ScanState) (k x : Kind) (h : Bool) → k ≡ cond h (refused 6) x → h ≡ true → Sooner s k 6
unfolding act
high_six s k x h e i = (6, (omega arith, ap (λ (z : Kind). act s z s.env.in_header) (e ∙ ap (λ (b : Bool). cond b (refused 6) x) i)))

-- V lines: 8, 9, 10
voice_kind_lem : (v : List ℕ) → is_nil (identifier v) ≡ false → voice_kind v ≡ voice (identifier v) (middle_word v)
unfolding voice_kind
voice_kind_lem v e = rw e

eight : (s : ScanState) (v : List ℕ) (n : ℕ) → 8 ≤ n → (is_nil (identifier v) ≡ false → Sooner s (voice (identifier v) (middle_word v)) n) → Sooner s (voice_kind v) n
unfolding voice_kind act
eight s v n r f = by_test (is_nil (identifier v)) (λ e. (8, (r, rw (e, voice_kind)))) (λ e. subst (λ (z : Kind). Sooner s z n) (sym (voice_kind_lem v e)) (f e))

nine : (s : ScanState) (w : List ℕ) (b : Bool) → elem w (voices_before s) ≡ false → most_voices ≤ length (voices_before s) → Sooner s (voice w b) 9
unfolding act voice_on
nine s w b e h = (9, (omega arith, rw e (rw (le-leb most_voices (length (voices_before s)) h))))

ten : (s : ScanState) (w : List ℕ) (b : Bool) → b ≡ true → Sooner s (voice w b) 10
unfolding act voice_on
ten s w b m =
    by_test (elem w (voices_before s)) (λ e. (10, (omega arith, rw (e, m))))
    (λ e. by_test (leb most_voices (length (voices_before s))) (λ f. (9, (omega arith, rw (e, f)))) (λ f. (10, (omega arith, rw (e, f, m)))))

-- K lines: 10 or 21
key_refused : (ed : Edition) (s : ScanState) (v : List ℕ) (n : ℕ) → KeyMeets ed v n → Sooner s (key_kind ed v) n
unfolding key_kind kind_unless act
key_refused ed s v n m = (n, (omega arith, rw (key_field_meets ed v n m, kind_unless)))

seven : (s : ScanState) → s.env.in_header ≡ false → Sooner s tune 7
unfolding act
seven s b = (7, (omega arith, rw b))

-- music lines: 6, then the first that is met
music_six : (s : ScanState) (es : List Effect) (l : List ℕ) (n : ℕ) (h : Bool) → 6 ≤ n → s.env.in_header ≡ false → h ≡ true → Sooner s (music h es l) n
unfolding act
music_six s es l n h r b e = (6, (r, rw (e, b)))

music_first : (s : ScanState) (es : List Effect) (l : List ℕ) (n : ℕ) (h : Bool) → s.env.in_header ≡ false → h ≡ false → first_refusal s.notes es ≡ some n → Sooner s (music h es l) n
unfolding act play_on
music_first s es l n h b e f = (n, (omega arith, rw (e, b, f)))

-- no condition but that of 4 is below 5
above_four : (ed : Edition) (s : ScanState) (l : List ℕ) (n : ℕ) → ltb s.lines most_lines ≡ true → Why ed s l n → 5 ≤ n
above_four ed s l n t (many_lines h) = absurd (omega (arith, h, ltb-true s.lines most_lines t))
above_four ed s l n t (long_line h) = omega arith
above_four ed s l n t (high_field f h) = omega arith
above_four ed s l n t (high_music f h) = omega arith
above_four ed s l n t (second_tune b x) = omega arith
above_four ed s l n t (no_identifier v i) = omega arith
above_four ed s l n t (many_voices v e h) = omega arith
above_four ed s l n t (middle_V v m) = omega arith
above_four ed s l n t (key_line v m) = omega (arith, (key_field_range ed (drop 2 l) n m).0)
above_four ed s l n t (in_music f q) = omega (arith, (music_range ed s.notes n l q).0)

-- an empty line has no other
none_empty : (ed : Edition) (s : ScanState) (n : ℕ) → ltb s.lines most_lines ≡ true → Why ed s [] n → ⊥
unfolding has_high
none_empty ed s n t (many_lines h) = absurd (omega (arith, h, ltb-true s.lines most_lines t))
none_empty ed s n t (long_line h) = absurd (omega (arith, h))
none_empty ed s n t (high_field f h) = false≢true h
none_empty ed s n t (high_music f h) = false≢true h
none_empty ed s n t (second_tune b x) = false≢true x
none_empty ed s n t (no_identifier v i) = false≢true v
none_empty ed s n t (many_voices v e h) = false≢true v
none_empty ed s n t (middle_V v m) = false≢true v
none_empty ed s n t (key_line v m) = false≢true v
none_empty ed s n t (in_music f q) = omega (arith, q.inside)

-- where the letter and the colon are known
module _ (ed : Edition) (s : ScanState) (n : ℕ) (l : List ℕ) where
  abbrev Line : Type 0
  Line = Sooner s (line_kind ed l) n

  from_two : (a : ℕ) → begins a 58 l ≡ true → NotLong l → ((r : List ℕ) → l ≡ a ∷ (58 ∷ r) → NotLong (a ∷ (58 ∷ r)) → Sooner s (line_kind ed (a ∷ (58 ∷ r))) n) → Line
  from_two a h t f =
      let q = two a 58 l h in
      subst (λ (z : List ℕ). Sooner s (line_kind ed z) n) (sym q.1) (f q.0 q.1 (subst NotLong q.1 t))

high_field_line : (ed : Edition) (s : ScanState) (l : List ℕ) → NotLong l → has_high l ≡ true → (is_v l || is_k l || is_l l || is_m l) ≡ true → Sooner s (line_kind ed l) 6
unfolding has_high
high_field_line ed s l t h f =
    ⊎_elim
    (λ f. ⊎_elim
    (λ f. ⊎_elim (λ v. from_two ed s 6 l 86 v t (λ r e u. high_six s _ _ (has_high r) (kind_V ed r u) (subst (λ (z : List ℕ). has_high z ≡ true) e h)))
    (λ v. from_two ed s 6 l 75 v t (λ r e u. high_six s _ _ (has_high r) (kind_K ed r u) (subst (λ (z : List ℕ). has_high z ≡ true) e h))) (or_either (is_v l) (is_k l) f))
    (λ v. from_two ed s 6 l 76 v t (λ r e u. high_six s _ _ (has_high r) (kind_L ed r u) (subst (λ (z : List ℕ). has_high z ≡ true) e h))) (or_either (is_v l || is_k l) (is_l l) f))
    (λ v. from_two ed s 6 l 77 v t (λ r e u. high_six s _ _ (has_high r) (kind_M ed r u) (subst (λ (z : List ℕ). has_high z ≡ true) e h))) (or_either (is_v l || is_k l || is_l l) (is_m l) f)

-- by its condition, in a line that is not too long
by_condition : (ed : Edition) (s : ScanState) (c : ℕ) (l : List ℕ) (n : ℕ) → ltb s.lines most_lines ≡ true → NotLong (c ∷ l) → Why ed s (c ∷ l) n → Sooner s (line_kind ed (c ∷ l)) n
by_condition ed s c l n t u (many_lines h) = absurd (omega (arith, h, ltb-true s.lines most_lines t))
by_condition ed s c l n t u (long_line h) = absurd (both_true (ltb 1048576 (length (c ∷ l))) (lt-ltb 1048576 (length (c ∷ l)) h) u)
by_condition ed s c l n t u (high_field f h) = high_field_line ed s (c ∷ l) u h f
by_condition ed s c l n t u (high_music (b, (y, f)) h) = subst (λ (z : Kind). Sooner s z 6) (sym (kind_music ed c l u y f)) (music_six s _ _ 6 (has_high (c ∷ l)) (omega arith) b h)
by_condition ed s c l n t u (second_tune b x) = from_two ed s 7 (c ∷ l) 88 x u (λ r e w. subst (λ (z : Kind). Sooner s z 7) (sym (kind_X ed r w)) (seven s b))
by_condition ed s c l n t u (no_identifier v i) =
    from_two ed s 8 (c ∷ l) 86 v u
    (λ r e w. six s 8 _ (has_high r) _ (omega arith) (kind_V ed r w)
    (λ h. eight s r 8 (omega arith) (λ j. absurd (both_true (is_nil (identifier r)) (subst (λ (z : List ℕ). is_nil (identifier (drop 2 z)) ≡ true) e i) j))))
by_condition ed s c l n t u (many_voices v i m) =
    from_two ed s 9 (c ∷ l) 86 v u
    (λ r e w. six s 9 _ (has_high r) _ (omega arith) (kind_V ed r w)
    (λ h. eight s r 9 (omega arith) (λ j. nine s (identifier r) (middle_word r) (subst (λ (z : List ℕ). elem (identifier (drop 2 z)) (voices_before s) ≡ false) e i) m)))
by_condition ed s c l n t u (middle_V v m) =
    from_two ed s 10 (c ∷ l) 86 v u
    (λ r e w. six s 10 _ (has_high r) _ (omega arith) (kind_V ed r w)
    (λ h. eight s r 10 (omega arith) (λ j. ten s (identifier r) (middle_word r) (subst (λ (z : List ℕ). middle_word (drop 2 z) ≡ true) e m))))
by_condition ed s c l n t u (key_line v m) =
    from_two ed s n (c ∷ l) 75 v u
    (λ r e w. six s n _ (has_high r) _ (omega (arith, (key_field_range ed (drop 2 (c ∷ l)) n m).0)) (kind_K ed r w) (λ h. key_refused ed s r n (subst (λ (z : List ℕ). KeyMeets ed (drop 2 z) n) e m)))
by_condition ed s c l n t u (in_music (b, (y, f)) q) =
    subst (λ (z : Kind). Sooner s z n) (sym (kind_music ed c l u y f))
    (by_test (has_high (c ∷ l)) (λ h. music_six s _ _ n (has_high (c ∷ l)) (omega (arith, (music_range ed s.notes n (c ∷ l) q).0)) b h)
    (λ h. music_first s _ _ n (has_high (c ∷ l)) b h (music_meets ed s.notes n (c ∷ l) q)))

line_meets : (ed : Edition) (s : ScanState) (l : List ℕ) (n : ℕ) → ltb s.lines most_lines ≡ true → Why ed s l n → Sooner s (line_kind ed l) n
unfolding line_kind act
line_meets ed s [] n t w = absurd (none_empty ed s n t w)
line_meets ed s (c ∷ l) n t w =
    by_test (ltb 1048576 (length (c ∷ l))) (λ h. five h) (λ h. by_condition ed s c l n t h w)
  where
    five : ltb 1048576 (length (c ∷ l)) ≡ true → Sooner s (line_kind ed (c ∷ l)) n
    five h = (5, (above_four ed s (c ∷ l) n t w, rw (h, line_kind)))

-- a row that has a condition is refused, by the number of the first of them
pub row_meets : (ed : Edition) (s : ScanState) (r : TextLine) (n : ℕ) → Why ed s (clean r) n → (m : ℕ) × ((m ≤ n) × (step ed s r ≡ refuse m (suc s.lines)))
unfolding step kind_of
row_meets ed s r n w =
    by_test (ltb s.lines most_lines)
    (λ t. let q = line_meets ed s (clean r) n t w in (q.0, (q.1.0, ap (λ (b : Bool). cond b (act s (kind_of ed r) s.env.in_header) (refuse 4 (suc s.lines))) t ∙ q.1.1)))
    (λ t. (4, (four_least s (clean r) n w, ap (λ (b : Bool). cond b (act s (kind_of ed r) s.env.in_header) (refuse 4 (suc s.lines))) t)))
  where
    four_least : (s : ScanState) (l : List ℕ) (n : ℕ) → Why ed s l n → 4 ≤ n
    four_least s l n (many_lines h) = omega arith
    four_least s l n (long_line h) = omega arith
    four_least s l n (high_field f h) = omega arith
    four_least s l n (high_music f h) = omega arith
    four_least s l n (second_tune b x) = omega arith
    four_least s l n (no_identifier v i) = omega arith
    four_least s l n (many_voices v e h) = omega arith
    four_least s l n (middle_V v m) = omega arith
    four_least s l n (key_line v m) = omega (arith, (key_field_range ed (drop 2 l) n m).0)
    four_least s l n (in_music f q) = omega (arith, (music_range ed s.notes n l q).0)

same_number : (a b k l : ℕ) → ◌≡◌ {A = Out} (refuse a k) (refuse b l) → a ≡ b
unfolding number_of
same_number a b k l e = ap number_of e

-- A ROW IS REFUSED BY n just where n is the first number whose condition it has
pub row_first : (ed : Edition) (s : ScanState) (r : TextLine) (n k : ℕ) → step ed s r ≡ refuse n k → Smallest ed s (clean r) n × (k ≡ suc s.lines)
row_first ed s r n k e =
    let w = row_why ed s r n k e in
    ((w.0, λ m less u. let q = row_meets ed s r m u in absurd (omega (arith, less, q.1.0, same_number n q.0 k (suc s.lines) (sym e ∙ q.1.1)))), w.1)

pub first_row : (ed : Edition) (s : ScanState) (r : TextLine) (n : ℕ) → Smallest ed s (clean r) n → step ed s r ≡ refuse n (suc s.lines)
first_row ed s r n (w, least) = go (row_meets ed s r n w)
  where
    go : (m : ℕ) × ((m ≤ n) × (step ed s r ≡ refuse m (suc s.lines))) → step ed s r ≡ refuse n (suc s.lines)
    go (m, (le, e)) =
        by_test (ltb m n) (λ h. absurd (least m (ltb-true m n h) (row_why ed s r m (suc s.lines) e).0))
        (λ h. let q : m ≡ n = omega (arith, le, ltb-false m n h) in e ∙ ap (λ (x : ℕ). refuse x (suc s.lines)) q)

after_first : (a : Items) (o : Out) (n k : ℕ) → first a o ≡ refuse n k → o ≡ refuse n k
after_first a (refuse m l) n k e = e
after_first a (on t b) n k e = absurd (never t (a ++ b) n k e)

-- what the rows behind one come to
abbrev onward : Edition → List TextLine → Out → Out
onward ed rs (refuse n l) = refuse n l
onward ed rs (on t a) = first a (run (step ed) t rs)

cons_is : (ed : Edition) (x : Out) (rs : List TextLine) → ◌≡◌ {A = Out} (elim x as (λ _. Out) [ refuse n l ↦ refuse n l | on t a ↦ first a (run (step ed) t rs) ]) (onward ed rs x)
cons_is ed (refuse n l) rs = refl
cons_is ed (on t a) rs = refl

run_cons : (ed : Edition) (s : ScanState) (r : TextLine) (rs : List TextLine) → run (step ed) s (r ∷ rs) ≡ onward ed rs (step ed s r)
run_cons ed s r rs = cons_is ed (step ed s r) rs

rows_why : (ed : Edition) (rs : List TextLine) (s : ScanState) (n k : ℕ) → run (step ed) s rs ≡ refuse n k → At ed s rs n k
rows_why ed [] s n k e = absurd (never s [] n k e)
rows_why ed (r ∷ rs) s n k e = go (λ t. rows_why ed rs t n k) (step ed s r) refl (sym (run_cons ed s r rs) ∙ e)
  where
    go : ((t : ScanState) → run (step ed) t rs ≡ refuse n k → At ed t rs n k) → (x : Out) → step ed s r ≡ x → onward ed rs x ≡ refuse n k → At ed s (r ∷ rs) n k
    go later (refuse m l) x e =
        let w = row_first ed s r n k (x ∙ e) in
        record { before = []; row = r; behind = rs; state = s; items = []; are = refl; pass = refl; why = w.0; line = omega (arith, w.1) }
    go later (on t a) x e =
        let q : At ed t rs n k = later t (after_first a (run (step ed) t rs) n k e) in
        let l : t.lines ≡ suc s.lines = (laws ed).line s t r a x in
        record {
          before = r ∷ q.before;
          row = q.row;
          behind = q.behind;
          state = q.state;
          items = a ++ q.items;
          are = ap (λ (z : List TextLine). r ∷ z) q.are;
          pass = run_cons ed s r q.before ∙ ap (onward ed q.before) x ∙ ap (first a) q.pass;
          why = q.why;
          line = omega (arith, q.line, l);
        }

-- and back: rows that go through, then one that is refused
state_of_lem : Out → ScanState
state_of_lem (refuse n l) = begin
state_of_lem (on s a) = s

refused_behind : (ed : Edition) (xs : List TextLine) (r : TextLine) (bs : List TextLine) (s t : ScanState) (a : Items) (n k : ℕ) → run (step ed) s xs ≡ on t a → step ed t r ≡ refuse n k → run (step ed) s (xs ++ (r ∷ bs)) ≡ refuse n k
unfolding state_of_lem is_on
refused_behind ed [] r bs s t a n k p e =
    let q : s ≡ t = ap state_of_lem p in
    run_cons ed s r bs ∙ ap (onward ed bs) (ap (λ (z : ScanState). step ed z r) q ∙ e)
refused_behind ed (x ∷ xs) r bs s t a n k p e = go (λ u. refused_behind ed xs r bs u t) (step ed s x) refl (sym (run_cons ed s x xs) ∙ p)
  where
    not_on : (m l : ℕ) → ◌≡◌ {A = Out} (refuse m l) (on t a) → ⊥
    not_on m l e = let z : ◌≡◌ {A = ℕ} 0 1 = ap is_on e in absurd (omega (arith, z))

    state : (b : Items) (o : Out) → first b o ≡ on t a → (c : Items) × (o ≡ on t c)
    state b (refuse m l) e = absurd (not_on m l e)
    state b (on u c) e = (c, ap (λ (z : ScanState). on z c) (ap state_of_lem e))

    go : ((u : ScanState) (a : Items) (n k : ℕ) → run (step ed) u xs ≡ on t a → step ed t r ≡ refuse n k → run (step ed) u (xs ++ (r ∷ bs)) ≡ refuse n k)
        → (o : Out) → step ed s x ≡ o → onward ed xs o ≡ on t a → run (step ed) s (x ∷ (xs ++ (r ∷ bs))) ≡ refuse n k
    go later (refuse m l) o p = absurd (not_on m l p)
    go later (on u b) o p =
        let q = state b (run (step ed) u xs) p in
        run_cons ed s x (xs ++ (r ∷ bs)) ∙ ap (onward ed (xs ++ (r ∷ bs))) o ∙ ap (first b) (later u q.0 n k q.1 e)

lines_after : (ed : Edition) (xs : List TextLine) (s t : ScanState) (a : Items) → run (step ed) s xs ≡ on t a → t.lines ≡ s.lines + length xs
lines_after ed xs s t a e = run_lines (reader ed) (laws ed) (run_of (reader ed) xs s t a e)

rows_meet : (ed : Edition) (rs : List TextLine) (s : ScanState) (n k : ℕ) → At ed s rs n k → run (step ed) s rs ≡ refuse n k
rows_meet ed rs s n k q =
    let l = lines_after ed q.before s q.state q.items q.pass in
    let j : suc q.state.lines ≡ k = omega (arith, l, q.line) in
    ap (run (step ed) s) q.are
    ∙ refused_behind ed q.before q.row q.behind s q.state q.items n k q.pass (first_row ed q.state q.row n q.why ∙ ap (λ (i : ℕ). refuse n i) j)

-- a refusal's number and line
number_in : Verdict → ℕ
number_in (refusal n l) = n
number_in (reading ps) = 0

line_in_lem : Verdict → ℕ
line_in_lem (refusal n l) = l
line_in_lem (reading ps) = 0

read_in_lem : Verdict → ℕ
read_in_lem (refusal n l) = 0
read_in_lem (reading ps) = 1

module _ (ed : Edition) (text : List ℕ) (rl sl : ℕ) where
  abbrev Justified : Outcome → Type 0
  Justified w = (n l : ℕ) → w.verdict ≡ refusal n l → Reason ed text rl sl n l

  so : (a b : ℕ) → Reason ed text rl sl a b → Justified (refused_with a b rl sl)
  unfolding refused_with number_in line_in_lem
  so a b r n l e = subst (λ (x : ℕ). Reason ed text rl sl n x) (ap line_in_lem e) (subst (λ (x : ℕ). Reason ed text rl sl x b) (ap number_in e) r)

  scan_so : Begins text sl → (o : Out) → scan ed (text_lines text) ≡ o → Justified (scanned ed rl sl o)
  unfolding scanned finish ended written read_in_lem scan
  scan_so b (refuse m k) e = so m k (at_line b (rows_why ed (text_lines text) begin m k e))
  scan_so b (on t a) e =
      by_test (leb 1 (sum measure_count (parts_after ed t a)))
      (λ m. rw m
      (by_test (leb (length (encode (parts_after ed t a))) rl) (λ k. rw k (λ n l h. absurd (let z : ◌≡◌ {A = ℕ} 1 0 = ap read_in_lem h in omega (arith, z))))
      (λ k. rw k (so 16 0 (short_reading t a b e (leb-true 1 (sum measure_count (parts_after ed t a)) m) (leb-false (length (encode (parts_after ed t a))) rl k))))))
      (λ m. rw m (so 1 0 (no_measure t a b e (omega (arith, leb-false 1 (sum measure_count (parts_after ed t a)) m)))))

  justified : Justified (parse_abc ed text rl sl)
  unfolding parse_abc early unless
  justified =
      by_test (leb (length text) most_bytes)
      (λ a. rw a
      (by_test (is_utf8 text)
      (λ b. rw b
      (by_test (is_blank text) (λ c. rw c (so 1 0 (blank_text (leb-true (length text) most_bytes a) b c)))
      (λ c. rw c
      (by_test (leb (scratch_needed (length text)) sl)
      (λ d. rw d (scan_so (record { short = leb-true (length text) most_bytes a; utf8 = b; not_blank = c; scratch = leb-true (scratch_needed (length text)) sl d }) (scan ed (text_lines text)) refl))
      (λ d. rw d (so 15 0 (short_scratch (leb-true (length text) most_bytes a) b c (leb-false (scratch_needed (length text)) sl d))))))))
      (λ b. rw b (so 3 0 (not_utf8 (leb-true (length text) most_bytes a) b)))))
      (λ a. rw a (so 2 0 (long_text (leb-false (length text) most_bytes a))))

  -- what follows where the four tests before the first line are passed
  pub after_tests : Begins text sl → parse_abc ed text rl sl ≡ scanned ed rl sl (scan ed (text_lines text))
  unfolding parse_abc early unless
  after_tests b = rw (le-leb (length text) most_bytes b.short) (rw b.utf8 (rw b.not_blank (rw (le-leb (scratch_needed (length text)) sl b.scratch))))

  meets : (n l : ℕ) → Reason ed text rl sl n l → parse_abc ed text rl sl ≡ refused_with n l rl sl
  unfolding parse_abc early unless scanned finish ended scan
  meets n l (long_text h) = rw (lt-leb (length text) most_bytes h)
  meets n l (not_utf8 a b) = rw (le-leb (length text) most_bytes a) (rw b)
  meets n l (blank_text a b c) = rw (le-leb (length text) most_bytes a) (rw b (rw c))
  meets n l (short_scratch a b c d) = rw (le-leb (length text) most_bytes a) (rw b (rw c (rw (lt-leb (scratch_needed (length text)) sl d))))
  meets n l (at_line b q) = after_tests b ∙ ap (scanned ed rl sl) (rows_meet ed (text_lines text) begin n l q)
  meets n l (no_measure t a b e m) = after_tests b ∙ ap (scanned ed rl sl) e ∙ rw m
  meets n l (short_reading t a b e m h) = after_tests b ∙ ap (scanned ed rl sl) e ∙ rw (le-leb 1 (sum measure_count (parts_after ed t a)) m) (rw (lt-leb (length (encode (parts_after ed t a))) rl h))

-- "Each refusal is given under its condition only, and answers its number and a line from 1"
pub only_under_its_condition : (ed : Edition) (text : List ℕ) (rl sl n l : ℕ) → (parse_abc ed text rl sl).verdict ≡ refusal n l → Reason ed text rl sl n l
only_under_its_condition ed text rl sl n l e = justified ed text rl sl n l e

-- and always under it: the answer is that number and line, and both stores are zeros
pub under_its_condition : (ed : Edition) (text : List ℕ) (rl sl n l : ℕ) → Reason ed text rl sl n l → parse_abc ed text rl sl ≡ refused_with n l rl sl
under_its_condition ed text rl sl n l r = meets ed text rl sl n l r

-- a text that meets no condition is not refused: it is read
pub not_refused : (ed : Edition) (text : List ℕ) (rl sl : ℕ) → ((n l : ℕ) → Reason ed text rl sl n l → ⊥) → IsReading (parse_abc ed text rl sl).verdict
not_refused ed text rl sl h = go (parse_abc ed text rl sl).verdict refl
  where
    go : (w : Verdict) → (parse_abc ed text rl sl).verdict ≡ w → IsReading w
    go (refusal n l) e = h n l (only_under_its_condition ed text rl sl n l e)
    go (reading ps) e = tt

-- and one that is read meets none
pub read_meets_none : (ed : Edition) (text : List ℕ) (rl sl : ℕ) → IsReading (parse_abc ed text rl sl).verdict → (n l : ℕ) → Reason ed text rl sl n l → ⊥
unfolding refused_with
read_meets_none ed text rl sl h n l r = subst (λ (w : Outcome). IsReading w.verdict) (under_its_condition ed text rl sl n l r) h

-- "a line from 1 (0 for 1, 2, 3, 15, 16 ..)": 4 to 14, 17, 18, 21 and 22 have a line, the others none; and there is no other number
condition_range : (ed : Edition) (s : ScanState) (l : List ℕ) (n : ℕ) → Why ed s l n → LineNumber n
condition_range ed s l n (many_lines h) = refl
condition_range ed s l n (long_line h) = refl
condition_range ed s l n (high_field f h) = refl
condition_range ed s l n (high_music f h) = refl
condition_range ed s l n (second_tune b x) = refl
condition_range ed s l n (no_identifier v i) = refl
condition_range ed s l n (many_voices v e h) = refl
condition_range ed s l n (middle_V v m) = refl
condition_range ed s l n (key_line v m) = (key_field_range ed (drop 2 l) n m).1
condition_range ed s l n (in_music f q) = (music_range ed s.notes n l q).1

abbrev pub NumberAndLine : ℕ → ℕ → Type 0
NumberAndLine n l = (LineNumber n × (1 ≤ l)) ⊎ ((any (eqb n) (1 ∷ 2 ∷ 3 ∷ 15 ∷ 16 ∷ []) ≡ true) × (l ≡ 0))

reason_line : (ed : Edition) (text : List ℕ) (rl sl n l : ℕ) → Reason ed text rl sl n l → NumberAndLine n l
reason_line ed text rl sl n l (long_text h) = inr (refl, refl)
reason_line ed text rl sl n l (not_utf8 a b) = inr (refl, refl)
reason_line ed text rl sl n l (blank_text a b c) = inr (refl, refl)
reason_line ed text rl sl n l (short_scratch a b c d) = inr (refl, refl)
reason_line ed text rl sl n l (at_line b q) = inl (condition_range ed q.state (clean q.row) n q.why.0, omega (arith, q.line))
reason_line ed text rl sl n l (no_measure t a b e m) = inr (refl, refl)
reason_line ed text rl sl n l (short_reading t a b e m h) = inr (refl, refl)

pub number_and_line : (ed : Edition) (text : List ℕ) (rl sl n l : ℕ) → (parse_abc ed text rl sl).verdict ≡ refusal n l → NumberAndLine n l
number_and_line ed text rl sl n l e = reason_line ed text rl sl n l (only_under_its_condition ed text rl sl n l e)

-- THE NUMBERS OF THE FIRST EDITION are 1 to 18
few_slashes : (s : List ℕ) → many_slashes First s ≡ true → ⊥
few_slashes s h = both_true (many_slashes First s) h (never_many s)

here_numbers : (m n : ℕ) (s : List ℕ) → Here First m s n → n ≤ 18
here_numbers m n s (token (key_inline k f i q)) = omega (arith, first_key_field (drop 2 (bracketed (drop 1 s))) n q)
here_numbers m n s (token (octave_note c t k d l o)) = omega arith
here_numbers m n s (token (octave_chord k d i o)) = omega arith
here_numbers m n s (token (many_more k h)) = omega arith
here_numbers m n s (token (many_less k h)) = omega arith
here_numbers m n s (token (list_shape k d o)) = omega arith
here_numbers m n s (token (list_range ts k d o a)) = omega arith
here_numbers m n s (token (list_rise ts k d o a b)) = omega arith
here_numbers m n s (token (slashes_note c t k d l o h)) = absurd (few_slashes (drop (octave_of c t).used t) h)
here_numbers m n s (token (slashes_chord ws k d i o h)) = absurd (few_slashes (after_bracket (drop 1 s)) h)
here_numbers m n s (token (slashes_rest k e h)) = absurd (few_slashes (drop 1 s) h)
here_numbers m n s (note c h) = omega arith

line_numbers : (s : ScanState) (l : List ℕ) (n : ℕ) → Why First s l n → n ≤ 18
line_numbers s l n (many_lines h) = omega arith
line_numbers s l n (long_line h) = omega arith
line_numbers s l n (high_field f h) = omega arith
line_numbers s l n (high_music f h) = omega arith
line_numbers s l n (second_tune b x) = omega arith
line_numbers s l n (no_identifier v i) = omega arith
line_numbers s l n (many_voices v i h) = omega arith
line_numbers s l n (middle_V v m) = omega arith
line_numbers s l n (key_line v q) = omega (arith, first_key_field (drop 2 l) n q)
line_numbers s l n (in_music f q) = here_numbers (s.notes + note_count (map effect_of q.before)) n (drop q.place l) q.here

reason_numbers : (text : List ℕ) (rl sl n l : ℕ) → Reason First text rl sl n l → n ≤ 18
reason_numbers text rl sl n l (long_text h) = omega arith
reason_numbers text rl sl n l (not_utf8 a b) = omega arith
reason_numbers text rl sl n l (blank_text a b c) = omega arith
reason_numbers text rl sl n l (short_scratch a b c d) = omega arith
reason_numbers text rl sl n l (at_line b q) = line_numbers q.state (clean q.row) n q.why.0
reason_numbers text rl sl n l (no_measure t a b x m) = omega arith
reason_numbers text rl sl n l (short_reading t a b x m h) = omega arith

pub first_numbers : (text : List ℕ) (rl sl n l : ℕ) → (parse_abc First text rl sl).verdict ≡ refusal n l → n ≤ 18
first_numbers text rl sl n l e = reason_numbers text rl sl n l (only_under_its_condition First text rl sl n l e)

-- so 21 and 22 are given "in the second edition" only
pub never_21 : (text : List ℕ) (rl sl l : ℕ) → (parse_abc First text rl sl).verdict ≡ refusal 21 l → ⊥
never_21 text rl sl l e = omega (arith, first_numbers text rl sl 21 l e)

pub never_22 : (text : List ℕ) (rl sl l : ℕ) → (parse_abc First text rl sl).verdict ≡ refusal 22 l → ⊥
never_22 text rl sl l e = omega (arith, first_numbers text rl sl 22 l e)
