-- RUNS: a line after the other, without a refusal, and what a run keeps, for every reader that keeps the laws. Assumes nothing.
use Prim.Native.Nat.{ℕ, ◌+◌}
use mathlib.Core.Path.{◌≡◌, refl, sym, ap, subst, ◌∙◌}
use mathlib.Core.Logic.{◌⊎◌, inl, inr, ⊎_elim}
use mathlib.Core.Bool.{Bool, true, false, cond, ◌&&◌, true≢false, false≢true}
use mathlib.Core.List.{List, [], ◌∷◌, ◌++◌, append_assoc}
use native.Mathlib.Omega.{arith}
use lib.Dec.{eqb}
use lib.ListN.{length}
use Rattle.laws.specs.Lists.{All, sum, eq_text, elem}
use Rattle.laws.proofs.Bools.{by_test, and_left, and_right, or_either}
use Rattle.laws.proofs.Lists.{All-append, eq_text_true}
use Rattle.reader.specs.Lines.{is_v}
use Rattle.reader.specs.Steps.{TextLine, Step, refuse, on, first, run, items_of, tag}
use Rattle.blocks.specs.Frame.{Reader, named, Music, LyricsAfterMusic, NoMusic, WithinLimits, Laws}
use Rattle.blocks.proofs.TextLines.{Plain}

-- items of a part
module _ {I : Type 0} where
  pub mine_append : (p : ℕ) (xs ys : List (ℕ × I)) → items_of p (xs ++ ys) ≡ items_of p xs ++ items_of p ys
  mine_append p [] ys = refl
  mine_append p (x ∷ xs) ys =
      let rest : items_of p (xs ++ ys) ≡ items_of p xs ++ items_of p ys = mine_append p xs ys in
      by_test
      (eqb x.0 p)
      (λ e.
      ap (λ (b : Bool). cond b (x.1 ∷ items_of p (xs ++ ys)) (items_of p (xs ++ ys))) e
      ∙ ap {B = List I} (λ l. x.1 ∷ l) rest
      ∙ sym (ap (λ (b : Bool). cond b (x.1 ∷ items_of p xs) (items_of p xs) ++ items_of p ys) e))
      (λ e.
      ap (λ (b : Bool). cond b (x.1 ∷ items_of p (xs ++ ys)) (items_of p (xs ++ ys))) e
      ∙ rest
      ∙ sym (ap (λ (b : Bool). cond b (x.1 ∷ items_of p xs) (items_of p xs) ++ items_of p ys) e))

  pub mine_own : (q p : ℕ) (xs : List I) → eqb q p ≡ true → items_of p (tag q xs) ≡ xs
  mine_own q p [] e = refl
  mine_own q p (x ∷ xs) e = ap (λ (b : Bool). cond b (x ∷ items_of p (tag q xs)) (items_of p (tag q xs))) e ∙ ap {B = List I} (λ l. x ∷ l) (mine_own q p xs e)

  pub mine_other : (q p : ℕ) (xs : List I) → eqb q p ≡ false → items_of p (tag q xs) ≡ []
  mine_other q p [] e = refl
  mine_other q p (x ∷ xs) e = ap (λ (b : Bool). cond b (x ∷ items_of p (tag q xs)) (items_of p (tag q xs))) e ∙ mine_other q p xs e

  pub tag_append : (p : ℕ) (xs ys : List I) → tag p (xs ++ ys) ≡ tag p xs ++ tag p ys
  tag_append p [] ys = refl
  tag_append p (x ∷ xs) ys = ap {B = List (ℕ × I)} (λ l. (p, x) ∷ l) (tag_append p xs ys)

module _ (R : Reader) where
  -- the lines rs take s to t and give the items a
  pub data Run : R.State → List TextLine → R.State → List (ℕ × R.Item) → Type 0 where
    stop : {s : R.State} → Run s [] s []
    then : {s t u : R.State} {r : TextLine} {rs : List TextLine} {a b : List (ℕ × R.Item)} → R.step s r ≡ on t a → Run t rs u b → Run s (r ∷ rs) u (a ++ b)

  pub run_run : {s t : R.State} {rs : List TextLine} {a : List (ℕ × R.Item)} → Run s rs t a → run R.step s rs ≡ on t a
  run_run stop = refl
  run_run (then {t = t} {rs = rs} {a = a} e d) =
      ap (λ (x : Step R.State R.Item). elim x as (λ y. Step R.State R.Item) [ refuse n l ↦ refuse n l | on u c ↦ first c (run R.step u rs) ]) e
      ∙ ap (first a) (run_run d)

  abbrev pub Items : Type 0
  Items = List (ℕ × R.Item)

  abbrev pub Out : Type 0
  Out = Step R.State R.Item

  abbrev go_on : List TextLine → Out → Out
  go_on rs (refuse n l) = refuse n l
  go_on rs (on u c) = first c (run R.step u rs)

  pub not_on : (n l : ℕ) (t : R.State) (a : List (ℕ × R.Item)) → ◌≡◌ {A = Out} (refuse n l) (on t a) → ⊥
  not_on n l t a h = let z : ◌≡◌ {A = ℕ} 0 1 = cc in omega arith

  -- the rest of a run, taken apart
  first_on : (a : List (ℕ × R.Item)) (x : Out) (t : R.State) (c : List (ℕ × R.Item)) → first a x ≡ on t c →
      (b : List (ℕ × R.Item)) × (x ≡ on t b) × (a ++ b ≡ c)
  first_on a (refuse n l) t c h = absurd (not_on n l t c h)
  first_on a (on u b) t c h =
      let e : u ≡ t = cc in
      let k : a ++ b ≡ c = cc in
      (b, ap (λ (v : R.State). on v b) e, k)

  run_step : (r : TextLine) (rs : List TextLine) (s : R.State) → run R.step s (r ∷ rs) ≡ go_on rs (R.step s r)
  run_step r rs s = go (R.step s r)
    where
      go : (x : Out) → (elim x as (λ y. Out) [ refuse n l ↦ refuse n l | on u c ↦ first c (run R.step u rs) ]) ≡ go_on rs x
      go (refuse n l) = refl
      go (on u c) = refl

  pub run_of : (rs : List TextLine) (s t : R.State) (a : List (ℕ × R.Item)) → run R.step s rs ≡ on t a → Run s rs t a
  run_of [] s t a h =
      let e : s ≡ t = cc in
      let k : [] ≡ a = cc in
      subst (λ (b : List (ℕ × R.Item)). Run s [] t b) k (subst (λ (u : R.State). Run s [] u []) e stop)
  run_of (r ∷ rs) s t a h = go (run_of rs) (R.step s r) refl (sym (run_step r rs s) ∙ h)
    where
      go : ((s t : R.State) (a : List (ℕ × R.Item)) → run R.step s rs ≡ on t a → Run s rs t a) →
          (x : Out) → R.step s r ≡ x → go_on rs x ≡ on t a → Run s (r ∷ rs) t a
      go rec (refuse n l) e k = absurd (not_on n l t a k)
      go rec (on u c) e k =
          let q : (b : List (ℕ × R.Item)) × (run R.step u rs ≡ on t b) × (c ++ b ≡ a) = first_on c (run R.step u rs) t a k in
          subst (λ (d : List (ℕ × R.Item)). Run s (r ∷ rs) t d) q.2 (then e (rec u t q.0 q.1))

  -- a run is cut in two, and put together
  pub run_cut : (xs : List TextLine) {ys : List TextLine} {s u : R.State} {c : List (ℕ × R.Item)} → Run s (xs ++ ys) u c →
      (t : R.State) × (a : List (ℕ × R.Item)) × (b : List (ℕ × R.Item)) × Run s xs t a × Run t ys u b × (c ≡ a ++ b)
  run_cut [] {s = s} {c = c} d = (s, [], c, stop, d, refl)
  run_cut (x ∷ xs) {ys} {s} {u} (then {t = t} {a = a} {b = b} e d) =
      let q : (t' : R.State) × (a' : List (ℕ × R.Item)) × (b' : List (ℕ × R.Item)) × Run t xs t' a' × Run t' ys u b' × (b ≡ a' ++ b') = run_cut xs d in
      (q.0, a ++ q.1, q.2, then e q.3, q.4, ap (λ (l : List (ℕ × R.Item)). a ++ l) q.5 ∙ sym (append_assoc a q.1 q.2))

  pub run_join : {xs ys : List TextLine} {s t u : R.State} {a b : List (ℕ × R.Item)} → Run s xs t a → Run t ys u b → Run s (xs ++ ys) u (a ++ b)
  run_join stop f = f
  run_join {ys = ys} {s = s} {u = u} {b = b} (then {r = r} {rs = rs} {a = c} {b = d} e k) f =
      subst (λ (l : List (ℕ × R.Item)). Run s (r ∷ (rs ++ ys)) u l) (sym (append_assoc c d b)) (then e (run_join k f))

  -- two runs of the same lines from one state end alike
  pub run_one : {s t t' : R.State} {rs : List TextLine} {a a' : List (ℕ × R.Item)} → Run s rs t a → Run s rs t' a' → (t ≡ t') × (a ≡ a')
  run_one {t = t} {t' = t'} {a = a} {a' = a'} d f =
      let k : ◌≡◌ {A = Out} (on t a) (on t' a') = sym (run_run d) ∙ run_run f in
      (cc, cc)

  -- L and M after lines
  abbrev pub end_l : List TextLine → ℕ → ℕ
  end_l [] u = u
  end_l (r ∷ rs) u = end_l rs (R.after_l r u)

  abbrev pub end_m : List TextLine → R.Meter → R.Meter
  end_m [] m = m
  end_m (r ∷ rs) m = end_m rs (R.after_m r m)

  -- the items of lines that all find a place for verses, with L and M in force before them; and of blocks that each find the same L and M
  abbrev pub emits : R.Env → ℕ → R.Meter → List TextLine → List R.Item
  emits e u m [] = []
  emits e u m (r ∷ rs) = R.line_items e u m true r ++ emits e (R.after_l r u) (R.after_m r m) rs

  abbrev pub gathers : R.Env → ℕ → R.Meter → List (List TextLine) → List R.Item
  gathers e u m [] = []
  gathers e u m (b ∷ bs) = emits e u m b ++ gathers e u m bs

  -- a line that is no music
  abbrev pub Mute : TextLine → Type 0
  Mute r = R.is_music r ≡ false

  pub music_or : (rs : List TextLine) → Music R rs ⊎ All Mute rs
  music_or [] = inr tt
  music_or (r ∷ rs) =
      let rest : Music R rs ⊎ All Mute rs = music_or rs in
      by_test (R.is_music r) (λ e. inl (inl e)) (λ e. ⊎_elim (λ x. inl (inr x)) (λ x. inr (e, x)) rest)

  pub music_left : (xs ys : List TextLine) → Music R xs → Music R (xs ++ ys)
  music_left [] ys m = absurd m
  music_left (x ∷ xs) ys m = ⊎_elim (λ e. inl e) (λ k. inr (music_left xs ys k)) m

  pub music_right : (xs ys : List TextLine) → Music R ys → Music R (xs ++ ys)
  music_right [] ys m = m
  music_right (x ∷ xs) ys m = inr (music_right xs ys m)

  -- where P holds nothing is asked
  pub sung_yes : (P : Type 0) → P → (rs : List TextLine) → LyricsAfterMusic R P rs
  sung_yes P p [] = tt
  sung_yes P p (r ∷ rs) = (λ e. p, sung_yes (P ⊎ (R.is_music r ≡ true)) (inl p) rs)

  pub sung_map : (P Q : Type 0) → (P → Q) → (rs : List TextLine) → LyricsAfterMusic R P rs → LyricsAfterMusic R Q rs
  sung_map P Q f [] h = tt
  sung_map P Q f (r ∷ rs) h =
      (λ e. f (h.0 e), sung_map (P ⊎ (R.is_music r ≡ true)) (Q ⊎ (R.is_music r ≡ true)) (⊎_elim (λ p. inl (f p)) (λ m. inr m)) rs h.1)

  pub sung_left : (P : Type 0) (xs ys : List TextLine) → LyricsAfterMusic R P (xs ++ ys) → LyricsAfterMusic R P xs
  sung_left P [] ys h = tt
  sung_left P (x ∷ xs) ys h = (h.0, sung_left (P ⊎ (R.is_music x ≡ true)) xs ys h.1)

  pub sung_right : (P : Type 0) (xs ys : List TextLine) → LyricsAfterMusic R P (xs ++ ys) → LyricsAfterMusic R (P ⊎ Music R xs) ys
  sung_right P [] ys h = sung_map P (P ⊎ ⊥) (λ p. inl p) ys h
  sung_right P (x ∷ xs) ys h =
      sung_map
      ((P ⊎ (R.is_music x ≡ true)) ⊎ Music R xs)
      (P ⊎ ((R.is_music x ≡ true) ⊎ Music R xs))
      (⊎_elim (⊎_elim (λ p. inl p) (λ m. inr (inl m))) (λ m. inr (inr m)))
      ys
      (sung_right (P ⊎ (R.is_music x ≡ true)) xs ys h.1)

module _ (R : Reader) (L : Laws R) where
  -- what a run keeps
  pub run_low : {s t : R.State} {rs : List TextLine} {a : List (ℕ × R.Item)} → Run R s rs t a → WithinLimits R s → WithinLimits R t
  run_low stop h = h
  run_low (then e d) h = run_low d (L.stays_within _ _ _ _ h e)

  pub run_lines : {s t : R.State} {rs : List TextLine} {a : List (ℕ × R.Item)} → Run R s rs t a → R.lines t ≡ R.lines s + length rs
  run_lines stop = omega arith
  run_lines (then e d) = omega (arith, run_lines d, L.line _ _ _ _ e)

  pub run_body : {s t : R.State} {rs : List TextLine} {a : List (ℕ × R.Item)} → Run R s rs t a → R.Body (R.env s) → R.Body (R.env t)
  run_body stop h = h
  run_body (then e d) h = run_body d (L.body _ _ _ _ e h)

  pub run_notes : {s t : R.State} {rs : List TextLine} {a : List (ℕ × R.Item)} → Run R s rs t a → R.Body (R.env s) → R.notes t ≡ R.notes s + sum R.note_count rs
  run_notes stop h = omega arith
  run_notes (then e d) h = omega (arith, run_notes d (L.body _ _ _ _ e h), L.note _ _ _ _ h e)

  pub run_fine : {s t : R.State} {rs : List TextLine} {a : List (ℕ × R.Item)} → Run R s rs t a → R.Body (R.env s) → All R.NotRefused rs
  run_fine stop h = tt
  run_fine (then e d) h = (L.fine _ _ _ _ h e, run_fine d (L.body _ _ _ _ e h))

  pub run_keeps : {s t : R.State} {rs : List TextLine} {a : List (ℕ × R.Item)} → Run R s rs t a → (v : List ℕ) → elem v (R.ids (R.env s)) ≡ true → elem v (R.ids (R.env t)) ≡ true
  run_keeps stop v h = h
  run_keeps (then e d) v h = run_keeps d v (L.keeps _ _ _ _ e v h)

  pub run_slots : {s t : R.State} {rs : List TextLine} {a : List (ℕ × R.Item)} → Run R s rs t a → (p : ℕ) → R.verse_place s p ≡ true → R.verse_place t p ≡ true
  run_slots stop p h = h
  run_slots (then e d) p h = run_slots d p (L.verse_place_stays _ _ _ _ e p h)

  -- a part that has no place for verses afterwards got no item of a music line
  pub run_no_music : {s t : R.State} {rs : List TextLine} {a : List (ℕ × R.Item)} → Run R s rs t a → (p : ℕ) → R.verse_place t p ≡ false → NoMusic R (items_of p a)
  run_no_music stop p h = tt
  run_no_music {t = t} (then {t = m} {a = a} {b = b} e d) p h =
      subst (NoMusic R) (sym (mine_append p a b))
      (All-append (λ i. R.is_music_item i ≡ false) (items_of p a) (items_of p b)
      (by_test (R.verse_place m p) (λ x. absurd (true≢false (sym (run_slots d p x) ∙ h))) (λ x. L.placed _ _ _ _ e p x))
      (run_no_music d p h))

  -- in lines that are no V: lines the part stays, and music makes its place for verses
  pub run_stays : {s t : R.State} {rs : List TextLine} {a : List (ℕ × R.Item)} → Run R s rs t a → R.Body (R.env s) → All Plain rs → R.cur t ≡ R.cur s
  run_stays stop h v = refl
  run_stays (then e d) h v = run_stays d (L.body _ _ _ _ e h) v.1 ∙ L.stays _ _ _ _ h v.0 e

  pub run_music : {s t : R.State} {rs : List TextLine} {a : List (ℕ × R.Item)} → Run R s rs t a → R.Body (R.env s) → All Plain rs → Music R rs → R.verse_place t (R.cur s) ≡ true
  run_music stop h v m = absurd m
  run_music {t = t} (then e d) h v m =
      ⊎_elim
      (λ x. run_slots d _ (L.verse_place_music _ _ _ _ h x e))
      (λ x. subst (λ (c : ℕ). R.verse_place t c ≡ true) (L.stays _ _ _ _ h v.0 e) (run_music d (L.body _ _ _ _ e h) v.1 x))
      m

  -- each identifier of a V: line is known afterwards
  pub run_named : {s t : R.State} {rs : List TextLine} {a : List (ℕ × R.Item)} → Run R s rs t a → (v : List ℕ) → named R v rs ≡ true → elem v (R.ids (R.env t)) ≡ true
  run_named stop v h = absurd (false≢true h)
  run_named {t = t} (then {t = m} {r = r} {rs = rs} e d) v h =
      ⊎_elim
      (λ x.
      let y : (is_v r ≡ true) × (eq_text (R.ident r) v ≡ true) = (and_left (is_v r) (eq_text (R.ident r) v) x, and_right (is_v r) (eq_text (R.ident r) v) x) in
      run_keeps d v (subst (λ (w : List ℕ). elem w (R.ids (R.env m)) ≡ true) (eq_text_true (R.ident r) v y.1) (L.names _ _ _ _ e y.0)))
      (λ x. run_named d v x)
      (or_either (is_v r && eq_text (R.ident r) v) (named R v rs) h)
