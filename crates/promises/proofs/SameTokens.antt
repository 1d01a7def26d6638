-- ONE QUOTED TEXT OR DECORATION FOR ANOTHER changes no record: a music line goes into a reading by its tokens alone. Assumes nothing.
use Prim.Native.Nat.{ℕ, zero, suc, max}
use mathlib.Core.Path.{◌≡◌, refl, sym, ap, subst, ◌∙◌}
use mathlib.Core.Bool.{Bool, true, false, cond, not, ◌||◌}
use mathlib.Core.Option.{Option, none, some}
use mathlib.Core.List.{List, [], ◌∷◌, ◌++◌, map}
use lib.Dec.{eqb}
use lib.ListN.{length}
use Rattle.laws.specs.Lists.{foldl, all, any}
use Rattle.laws.proofs.Lists.{foldl_append}
use Rattle.standard.specs.Keys.{Key}
use Rattle.standard.specs.Fields.{Meter}
use Rattle.editions.specs.declared.Edition.{Edition}
use Rattle.reader.specs.Text.{text_lines, clean, has_high}
use Rattle.reader.specs.Token.{Token}
use Rattle.reader.specs.Tokens.{Effect, tokens, effects, effect_of}
use Rattle.reader.specs.Lines.{Kind, music}
use Rattle.reader.specs.Steps.{TextLine, refuse, on, run, items_of}
use Rattle.reader.specs.Scan.{Item, music_line, Items, Out, Env, ScanState, begin, first_refusal, play_on, act, step, scan}
use Rattle.reader.specs.State.{PartState, new_part}
use Rattle.reader.specs.Part.{on_token, line_begins, on_line, on_item, finished, build, empty_part}
use Rattle.reader.specs.Answer.{reading, is_music, built, parts, parse_abc}
use Rattle.blocks.specs.Demand.{Accepted}
use Rattle.blocks.proofs.Instance.{reader}
use Rattle.blocks.proofs.Runs.{mine_append, Run, then, run_of, run_cut, run_one}
use Rattle.promises.specs.Free.{IsMusicRow, Sign, quote, bang, plus}
use Rattle.promises.proofs.SameTally.{Scanned, accepted_scan, went, not_on}
use Rattle.promises.proofs.Free.{quoted_token, bang_token, plus_token}
use Rattle.promises.specs.Refusals.{parts_after}

-- A PART from items that differ in a music line with the same tokens
line_same : (ed : Edition) (u : ℕ) (m : Meter) (l k : List ℕ) → tokens ed 0 l ≡ tokens ed 0 k → (s : PartState) → on_line ed u m l s ≡ on_line ed u m k s
unfolding on_line
line_same ed u m l k e s = ap (foldl on_token (line_begins u m s)) e

build_same : (ed : Edition) (h : Key) (is js : List Item) (u : ℕ) (m : Meter) (l k : List ℕ) → tokens ed 0 l ≡ tokens ed 0 k → build ed h (is ++ (music_line u m l ∷ js)) ≡ build ed h (is ++ (music_line u m k ∷ js))
unfolding build on_item
build_same ed h is js u m l k e =
    ap (finished ed h)
    (foldl_append (on_item ed h) new_part is (music_line u m l ∷ js) ∙ ap (λ (s : PartState). foldl (on_item ed h) s js) (line_same ed u m l k e (foldl (on_item ed h) new_part is)) ∙ sym (foldl_append (on_item ed h) new_part is (music_line u m k ∷ js)))

any_same : (is js : List Item) (u : ℕ) (m : Meter) (l k : List ℕ) → any is_music (is ++ (music_line u m l ∷ js)) ≡ any is_music (is ++ (music_line u m k ∷ js))
unfolding is_music
any_same [] js u m l k = refl
any_same (i ∷ is) js u m l k = ap (λ (b : Bool). is_music i || b) (any_same is js u m l k)

built_same : (ed : Edition) (e : Env) (is js : List Item) (u : ℕ) (m : Meter) (l k : List ℕ) → tokens ed 0 l ≡ tokens ed 0 k → built ed e (is ++ (music_line u m l ∷ js)) ≡ built ed e (is ++ (music_line u m k ∷ js))
unfolding built
built_same ed e is js u m l k q = λ i. cond (any_same is js u m l k i) (build_same ed e.header_key is js u m l k q i) empty_part

part_same : (ed : Edition) (e : Env) (q p : ℕ) (u : ℕ) (m : Meter) (l k : List ℕ) → tokens ed 0 l ≡ tokens ed 0 k → (a c : Items) → built ed e (items_of p (a ++ ((q, music_line u m l) ∷ c))) ≡ built ed e (items_of p (a ++ ((q, music_line u m k) ∷ c)))
part_same ed e q p u m l k w a c =
    ap (built ed e) (mine_append p a ((q, music_line u m l) ∷ c)) ∙ go (eqb q p) ∙ sym (ap (built ed e) (mine_append p a ((q, music_line u m k) ∷ c)))
  where
    go : (b : Bool) → built ed e (items_of p a ++ cond b (music_line u m l ∷ items_of p c) (items_of p c)) ≡ built ed e (items_of p a ++ cond b (music_line u m k ∷ items_of p c) (items_of p c))
    go true = built_same ed e (items_of p a) (items_of p c) u m l k w
    go false = refl

parts_same : (ed : Edition) (e : Env) (f g : ℕ → List Item) → ((p : ℕ) → built ed e (f p) ≡ built ed e (g p)) → (n q : ℕ) → parts ed e f n q ≡ parts ed e g n q
unfolding parts
parts_same ed e f g h zero q = refl
parts_same ed e f g h (suc n) q = λ i. h q i ∷ parts_same ed e f g h n (suc q) i

-- THE SCAN of two music lines with the same tokens: the same state, and items alike
pub data Alike (l k : List ℕ) : Items → Items → Type 0 where
  none_given : Alike l k [] []
  one_given : (p u : ℕ) (m : Meter) → Alike l k ((p, music_line u m l) ∷ []) ((p, music_line u m k) ∷ [])

abbrev Both : List ℕ → List ℕ → ScanState → ScanState → Items → Items → Type 0
Both l k t t' a a' = (t ≡ t') × Alike l k a a'

-- states and items by constructor
by_outs : (l k : List ℕ) (x : ScanState) (b b' : Items) (t t' : ScanState) (a a' : Items) → Alike l k b b' → ◌≡◌ {A = Out} (on x b) (on t a) → ◌≡◌ {A = Out} (on x b') (on t' a') → Both l k t t' a a'
by_outs l k x b b' t t' a a' q e e' =
    (ap state (sym e) ∙ ap state e', subst (λ (z : Items). Alike l k a z) (ap items e') (subst (λ (z : Items). Alike l k z b') (ap items e) q))
  where
    state : Out → ScanState
    state (refuse n l) = x
    state (on s c) = s

    items : Out → Items
    items (refuse n l) = []
    items (on s c) = c

play_both : (s t t' : ScanState) (es : List Effect) (l k : List ℕ) (a a' : Items) (o : Option ℕ) → play_on s es l o ≡ on t a → play_on s es k o ≡ on t' a' → Both l k t t' a a'
unfolding play_on
play_both s t t' es l k a a' (some n) e e' = absurd (not_on n (suc s.lines) t a e)
play_both s t t' es l k a a' none e e' = by_outs l k _ _ _ t t' a a' (one_given s.part s.unit s.meter) e e'

music_both : (s t t' : ScanState) (h h' : Bool) (es : List Effect) (l k : List ℕ) (a a' : Items) (b : Bool) → act s (music h es l) b ≡ on t a → act s (music h' es k) b ≡ on t' a' → Both l k t t' a a'
unfolding act
music_both s t t' h h' es l k a a' true e e' = by_outs l k _ _ _ t t' a a' none_given e e'
music_both s t t' true h' es l k a a' false e e' = absurd (not_on 6 (suc s.lines) t a e)
music_both s t t' false true es l k a a' false e e' = absurd (not_on 6 (suc s.lines) t' a' e')
music_both s t t' false false es l k a a' false e e' = play_both s t t' es l k a a' (first_refusal s.notes es) e e'

row_both : (ed : Edition) (s t t' : ScanState) (r r' : TextLine) (a a' : Items) → IsMusicRow ed r → IsMusicRow ed r' → tokens ed 0 (clean r) ≡ tokens ed 0 (clean r') → step ed s r ≡ on t a → step ed s r' ≡ on t' a' → Both (clean r) (clean r') t t' a a'
unfolding effects
row_both ed s t t' r r' a a' m m' q e e' =
    music_both s t t' (has_high (clean r)) (has_high (clean r')) (effects ed (clean r)) (clean r) (clean r') a a' s.env.in_header
    (sym (ap (λ (k : Kind). act s k s.env.in_header) m) ∙ (went ed s t r a e).1)
    (ap (λ (es : List Effect). act s (music (has_high (clean r')) es (clean r')) s.env.in_header) (ap (map effect_of) q) ∙ sym (ap (λ (k : Kind). act s k s.env.in_header) m') ∙ (went ed s t' r' a' e').1)

-- the parts of items that are alike in one place
ends_same : (ed : Edition) (u : ScanState) (l k : List ℕ) (a x x' y : Items) → tokens ed 0 l ≡ tokens ed 0 k → Alike l k x x' → parts_after ed u (a ++ (x ++ y)) ≡ parts_after ed u (a ++ (x' ++ y))
ends_same ed u l k a x x' y q none_given = refl
ends_same ed u l k a x x' y q (one_given p v m) =
    parts_same ed u.env (λ n. items_of n (a ++ ((p, music_line v m l) ∷ y))) (λ n. items_of n (a ++ ((p, music_line v m k) ∷ y))) (λ n. part_same ed u.env p n v m l k q a y) (max 1 (length u.env.voices)) 0

-- a run of the rows behind xs, cut behind the row r
abbrev Split : Edition → List TextLine → TextLine → ScanState → Items → ScanState → Items → Type 0
Split ed bs r s a u c = (t : ScanState) × (x : Items) × (y : Items) × ((step ed s r ≡ on t x) × (Run (reader ed) t bs u y × (c ≡ a ++ (x ++ y))))

split : (ed : Edition) (bs : List TextLine) (r : TextLine) (s u : ScanState) (a b c : Items) → Run (reader ed) s (r ∷ bs) u b → c ≡ a ++ b → Split ed bs r s a u c
split ed bs r s u a b c (then {t = t} {a = x} {b = y} e f) q = (t, x, y, (e, (f, q)))

halves : (ed : Edition) (xs bs : List TextLine) (r : TextLine) (u : ScanState) (c : Items) → run (step ed) begin (xs ++ (r ∷ bs)) ≡ on u c → (s : ScanState) × (a : Items) × (Run (reader ed) begin xs s a × Split ed bs r s a u c)
halves ed xs bs r u c e = go (run_cut (reader ed) xs (run_of (reader ed) (xs ++ (r ∷ bs)) begin u c e))
  where
    go : (s : ScanState) × (a : Items) × (b : Items) × Run (reader ed) begin xs s a × Run (reader ed) s (r ∷ bs) u b × (c ≡ a ++ b) → (s : ScanState) × (a : Items) × (Run (reader ed) begin xs s a × Split ed bs r s a u c)
    go (s, a, b, d, f, q) = (s, a, (d, split ed bs r s u a b c f q))

behind_row : (ed : Edition) (bs : List TextLine) (r r' : TextLine) (s u u' : ScanState) (a c c' : Items) → IsMusicRow ed r → IsMusicRow ed r' → tokens ed 0 (clean r) ≡ tokens ed 0 (clean r') → Split ed bs r s a u c → Split ed bs r' s a u' c'
    → parts_after ed u c ≡ parts_after ed u' c'
behind_row ed bs r r' s u u' a c c' m m' q (t, x, y, (e, (f, w))) (t', x', y', (e', (f', w'))) = go (row_both ed s t t' r r' x x' m m' q e e')
  where
    last : (u ≡ u') × (y ≡ y') → parts_after ed u (a ++ (x' ++ y)) ≡ parts_after ed u' (a ++ (x' ++ y'))
    last n i = parts_after ed (n.0 i) (a ++ (x' ++ n.1 i))

    go : Both (clean r) (clean r') t t' x x' → parts_after ed u c ≡ parts_after ed u' c'
    go (b, alike) =
        ap (parts_after ed u) w ∙ ends_same ed u (clean r) (clean r') a x x' y q alike
        ∙ last (run_one (reader ed) f (subst (λ (z : ScanState). Run (reader ed) z bs u' y') (sym b) f'))
        ∙ ap (parts_after ed u') (sym w')

same_start : (ed : Edition) (xs bs : List TextLine) (r r' : TextLine) (u u' : ScanState) (c c' : Items) → IsMusicRow ed r → IsMusicRow ed r' → tokens ed 0 (clean r) ≡ tokens ed 0 (clean r')
    → run (step ed) begin (xs ++ (r ∷ bs)) ≡ on u c → run (step ed) begin (xs ++ (r' ∷ bs)) ≡ on u' c' → parts_after ed u c ≡ parts_after ed u' c'
same_start ed xs bs r r' u u' c c' m m' q e e' = go (halves ed xs bs r u c e) (halves ed xs bs r' u' c' e')
  where
    go : (s : ScanState) × (a : Items) × (Run (reader ed) begin xs s a × Split ed bs r s a u c) → (s : ScanState) × (a : Items) × (Run (reader ed) begin xs s a × Split ed bs r' s a u' c') → parts_after ed u c ≡ parts_after ed u' c'
    go (s, a, (d, k)) (s', a', (d', k')) = behind_row ed bs r r' s u u' a c c' m m' q k (here (run_one (reader ed) d d') k')
      where
        here : (s ≡ s') × (a ≡ a') → Split ed bs r' s' a' u' c' → Split ed bs r' s a u' c'
        here o k = subst (λ (z : ScanState). Split ed bs r' z a u' c') (sym o.0) (subst (λ (z : Items). Split ed bs r' s' z u' c') (sym o.1) k)

-- TWO TEXTS THAT DIFFER IN ONE MUSIC LINE, with the same tokens, have one reading
pub same_tokens : (ed : Edition) (text text' : List ℕ) (rl sl rl' sl' : ℕ) (xs bs : List TextLine) (r r' : TextLine) → text_lines text ≡ xs ++ (r ∷ bs) → text_lines text' ≡ xs ++ (r' ∷ bs) → IsMusicRow ed r → IsMusicRow ed r'
    → tokens ed 0 (clean r) ≡ tokens ed 0 (clean r') → Accepted (parse_abc ed text rl sl) → Accepted (parse_abc ed text' rl' sl') → (parse_abc ed text rl sl).verdict ≡ (parse_abc ed text' rl' sl').verdict
unfolding scan
same_tokens ed text text' rl sl rl' sl' xs bs r r' e e' m m' q h h' = go (accepted_scan ed text rl sl h) (accepted_scan ed text' rl' sl' h')
  where
    go : Scanned ed text (parse_abc ed text rl sl).verdict → Scanned ed text' (parse_abc ed text' rl' sl').verdict → (parse_abc ed text rl sl).verdict ≡ (parse_abc ed text' rl' sl').verdict
    go (u, c, (f, w)) (u', c', (f', w')) =
        w
        ∙ ap reading
        (same_start ed xs bs r r' u u' c c' m m' q (subst (λ (z : List TextLine). run (step ed) begin z ≡ on u c) e f) (subst (λ (z : List TextLine). run (step ed) begin z ≡ on u' c') e' f'))
        ∙ sym w'

-- ONE QUOTED TEXT OR DECORATION FOR ANOTHER: where it begins as a token of both lines, behind the same tokens
sign_tokens : (ed : Edition) (c : ℕ) (t : Token) → Sign c t → (q s : List ℕ) → all (λ x. not (eqb x c)) q ≡ true → tokens ed 0 (c ∷ (q ++ (c ∷ s))) ≡ t ∷ tokens ed 0 s
sign_tokens ed c t quote q s h = quoted_token ed q s h
sign_tokens ed c t bang q s h = bang_token ed q s h
sign_tokens ed c t plus q s h = plus_token ed q s h

pub marked_for_marked : (ed : Edition) (text text' : List ℕ) (rl sl rl' sl' : ℕ) (xs bs : List TextLine) (r r' : TextLine) → text_lines text ≡ xs ++ (r ∷ bs) → text_lines text' ≡ xs ++ (r' ∷ bs) → IsMusicRow ed r → IsMusicRow ed r'
    → (c : ℕ) (t : Token) → Sign c t → (before : List Token) (q q' s : List ℕ) → all (λ x. not (eqb x c)) q ≡ true → all (λ x. not (eqb x c)) q' ≡ true
    → tokens ed 0 (clean r) ≡ before ++ tokens ed 0 (c ∷ (q ++ (c ∷ s))) → tokens ed 0 (clean r') ≡ before ++ tokens ed 0 (c ∷ (q' ++ (c ∷ s)))
    → Accepted (parse_abc ed text rl sl) → Accepted (parse_abc ed text' rl' sl') → (parse_abc ed text rl sl).verdict ≡ (parse_abc ed text' rl' sl').verdict
marked_for_marked ed text text' rl sl rl' sl' xs bs r r' e e' m m' c t g before q q' s h h' k k' =
    same_tokens ed text text' rl sl rl' sl' xs bs r r' e e' m m' (k ∙ ap (λ (ts : List Token). before ++ ts) (sign_tokens ed c t g q s h ∙ sym (sign_tokens ed c t g q' s h')) ∙ sym k')
