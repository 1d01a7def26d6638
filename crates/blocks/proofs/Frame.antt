-- THE CORE: the blocks, in any order, from any state with the same shared facts, give each part the items that its own blocks give. By induction on the list
-- of blocks; no exchange of neighbours. For every reader that keeps the laws. Assumes nothing.
use Prim.Native.Nat.{ℕ, ◌+◌, ◌≤◌}
use mathlib.Core.Path.{◌≡◌, refl, sym, ap, subst, ◌∙◌}
use mathlib.Core.Logic.{◌⊎◌, inl, inr, ⊎_elim}
use mathlib.Core.Bool.{Bool, true, false, cond, true≢false}
use mathlib.Core.List.{List, [], ◌∷◌, ◌++◌, cons≢nil}
use native.Mathlib.Omega.{arith}
use lib.Dec.{eqb}
use lib.ListN.{length}
use borrow.Author.Tests.{eqb-true}
use Rattle.laws.specs.Lists.{All, filter, concat, sum, elem, index_of}
use Rattle.laws.proofs.Bools.{by_test}
use Rattle.laws.proofs.Lists.{All-append, All-left, All-right, filter_yes, filter_no}
use Rattle.reader.specs.Lines.{is_v, is_k, is_lyric}
use Rattle.reader.specs.Steps.{TextLine, on, items_of, tag}
use Rattle.blocks.specs.Blocks.{up_to_k, after_k}
use Rattle.blocks.specs.Frame.{Reader, ident_of, is_part, SetsNeither, Brings, Music, LyricsAfterMusic, GoesThrough, NoMusic, Laws}
use Rattle.blocks.proofs.TextLines.{Plain, Shape}
use Rattle.blocks.proofs.Runs.{mine_append, mine_own, mine_other, tag_append, Items, Run, stop, then, run_join, end_l, end_m, emits, gathers, Mute, sung_map, sung_left, sung_right, run_body, run_lines, run_notes, run_slots, run_music}

-- Under `env` e: a block that goes through, its part's number, and the blocks of part p.
module _ (R : Reader) (e : R.Env) where
  abbrev pub Good : List TextLine → Type 0
  Good [] = ⊥
  Good (r ∷ rs) = (is_v r ≡ true) × (elem (R.ident r) (R.ids e) ≡ true) × All Plain rs × All R.NotRefused (r ∷ rs)

  abbrev pub number_of : List TextLine → ℕ
  number_of b = index_of (ident_of R b) (R.ids e)

  abbrev pub part : ℕ → List (List TextLine) → List (List TextLine)
  part p bs = filter (is_part R (R.ids e) p) bs

  -- what the lines of one part give to it: the items with a place for verses if each lyric line has one; no music line's if none is music
  abbrev pub Gives : Type 0 → ℕ → R.Meter → List TextLine → List R.Item → Type 0
  Gives P u m rs is = (LyricsAfterMusic R P rs → is ≡ emits R e u m rs) × (All (Mute R) rs → NoMusic R is)

  abbrev pub RowsDone : R.State → ℕ → List TextLine → Type 0
  RowsDone s p rs =
      (t : R.State) × (is : List R.Item) × Run R s rs t (tag p is) × (R.env t ≡ e) × Gives (R.verse_place s p ≡ true) (R.unit_in s) (R.meter_in s) rs is ×
      (R.unit_in t ≡ end_l R rs (R.unit_in s)) × (R.meter_in t ≡ end_m R rs (R.meter_in s))

  abbrev pub BlockDone : R.State → ℕ → List TextLine → Type 0
  BlockDone s p b = RowsDone s p b

  -- I: what is kept of L and M from block to block. A block that finds it keeps it, and gives the items that it gives with u and m
  abbrev pub Steady : (ℕ → R.Meter → Type 0) → ℕ → R.Meter → List TextLine → Type 0
  Steady I u m b = (w : ℕ) (n : R.Meter) → I w n → (emits R e w n b ≡ emits R e u m b) × I (end_l R b w) (end_m R b n)

  -- what the blocks give to part p
  abbrev pub Tells : ℕ → R.Meter → R.State → List (List TextLine) → Items R → ℕ → Type 0
  Tells u m s bs a p =
      (LyricsAfterMusic R (R.verse_place s p ≡ true) (concat (part p bs)) → items_of p a ≡ gathers R e u m (part p bs)) × (All (Mute R) (concat (part p bs)) → NoMusic R (items_of p a))

  abbrev pub BlocksDone : ℕ → R.Meter → R.State → List (List TextLine) → Type 0
  BlocksDone u m s bs = (t : R.State) × (a : Items R) × Run R s (concat bs) t a × (R.env t ≡ e) × ((p : ℕ) → Tells u m s bs a p)

-- The blocks, in any order, from any state whose `env` is e.
module _ (R : Reader) (L : Laws R) (e : R.Env) (body : R.Body e) where
  -- a line's items are those with a place for verses, if it has one or is no lyric line
  bit : (u : ℕ) (m : R.Meter) (b : Bool) (r : TextLine) → (is_lyric r ≡ true → b ≡ true) → R.line_items e u m b r ≡ R.line_items e u m true r
  bit u m b r h = by_test (is_lyric r) (λ x. ap (λ (c : Bool). R.line_items e u m c r) (h x)) (λ x. L.verse_place_unseen e u m b r x)

  gives_more : (u : ℕ) (m : R.Meter) (b : Bool) (r : TextLine) (rs : List TextLine) (Q : Type 0) (is : List R.Item) → ((b ≡ true) ⊎ (R.is_music r ≡ true) → Q) →
      Gives R e Q (R.after_l r u) (R.after_m r m) rs is → Gives R e (b ≡ true) u m (r ∷ rs) (R.line_items e u m b r ++ is)
  gives_more u m b r rs Q is f g = (
    λ h. λ i. bit u m b r h.0 i ++ g.0 (sung_map R ((b ≡ true) ⊎ (R.is_music r ≡ true)) Q f rs h.1) i,
    λ h. All-append (λ x. R.is_music_item x ≡ false) (R.line_items e u m b r) is (L.no_music e u m b r h.0) (g.1 h.1),
  )

  -- a line, and a run of the lines after it
  one_more : (is js : List R.Item) (r : TextLine) (rs : List TextLine) (s t u : R.State) (p : ℕ) → R.step s r ≡ on t (tag p is) → Run R t rs u (tag p js) → Run R s (r ∷ rs) u (tag p (is ++ js))
  one_more is js r rs s t u p k d = subst (λ (a : Items R). Run R s (r ∷ rs) u a) (sym (tag_append p is js)) (then k d)

  lines_done : (r : TextLine) (rs : List TextLine) (s t : R.State) (p : ℕ) → R.step s r ≡ on t (tag p (R.line_items e (R.unit_in s) (R.meter_in s) (R.verse_place s p) r)) →
      R.unit_in t ≡ R.after_l r (R.unit_in s) → R.meter_in t ≡ R.after_m r (R.meter_in s) →
      ((R.verse_place s p ≡ true) ⊎ (R.is_music r ≡ true) → R.verse_place t p ≡ true) → RowsDone R e t p rs → RowsDone R e s p (r ∷ rs)
  lines_done r rs s t p k hl hm f q = (
    q.0,
    R.line_items e (R.unit_in s) (R.meter_in s) (R.verse_place s p) r ++ q.1,
    one_more (R.line_items e (R.unit_in s) (R.meter_in s) (R.verse_place s p) r) q.1 r rs s t q.0 p k q.2,
    q.3,
    gives_more (R.unit_in s) (R.meter_in s) (R.verse_place s p) r rs (R.verse_place t p ≡ true) q.1 f
        (subst (λ (n : R.Meter). Gives R e (R.verse_place t p ≡ true) (R.after_l r (R.unit_in s)) n rs q.1) hm
        (subst (λ (u : ℕ). Gives R e (R.verse_place t p ≡ true) u (R.meter_in t) rs q.1) hl q.4)),
    q.5 ∙ ap (end_l R rs) hl,
    q.6 ∙ ap (end_m R rs) hm,
  )

  -- lines of a part, none a V: line
  pub go_lines : (rs : List TextLine) (s : R.State) (p : ℕ) → R.env s ≡ e → R.cur s ≡ p → All Plain rs → All R.NotRefused rs →
      R.notes s + sum R.note_count rs ≤ R.max_notes → R.lines s + length rs ≤ R.max_lines → RowsDone R e s p rs
  go_lines [] s p he hc v f n l = (s, [], stop, he, (λ h. refl, λ h. tt), refl, refl)
  go_lines (r ∷ rs) s p he hc v f n l =
      let bs : R.Body (R.env s) = subst R.Body (sym he) body in
      let g : GoesThrough R s r (R.cur s) = L.goes s r bs v.0 f.0 (omega arith) (omega arith) in
      let t : R.State = g.0 in
      let k : R.step s r ≡ on t (tag p (R.line_items e (R.unit_in s) (R.meter_in s) (R.verse_place s p) r))
      = g.1 ∙ (λ i. on t (tag (hc i) (R.line_items (he i) (R.unit_in s) (R.meter_in s) (R.verse_place s (hc i)) r))) in
      let rec : RowsDone R e t p rs
      = go_lines rs t p (g.2 ∙ he) (g.3 ∙ hc) v.1 f.1
      (omega (arith, L.note _ _ _ _ bs k))
      (omega (arith, L.line _ _ _ _ k)) in
      lines_done r rs s t p k g.4 g.5
      (⊎_elim (λ x. L.verse_place_stays _ _ _ _ k p x) (λ x. subst (λ (c : ℕ). R.verse_place t c ≡ true) hc (L.verse_place_music _ _ _ _ bs x k)))
      rec

  abbrev pub Placed : R.State → ℕ → List TextLine → Type 0
  Placed s p b = (w : BlockDone R e s p b) × (Music R b → R.verse_place w.0 p ≡ true)

  block_done : (r : TextLine) (rs : List TextLine) (s t : R.State) (p : ℕ) → R.step s r ≡ on t (tag p (R.line_items e (R.unit_in s) (R.meter_in s) (R.verse_place s p) r)) →
      R.unit_in t ≡ R.after_l r (R.unit_in s) → R.meter_in t ≡ R.after_m r (R.meter_in s) → R.cur t ≡ p → R.env t ≡ e → is_v r ≡ true → All Plain rs →
      RowsDone R e t p rs → Placed s p (r ∷ rs)
  unfolding lines_done
  block_done r rs s t p k hl hm c et v pl q = (
    lines_done r rs s t p k hl hm (⊎_elim (λ x. L.verse_place_stays _ _ _ _ k p x) (λ x. absurd (true≢false (sym v ∙ L.music_V r x)))) q,
    ⊎_elim
        (λ x. absurd (true≢false (sym v ∙ L.music_V r x)))
        (λ x. subst (λ (d : ℕ). R.verse_place q.0 d ≡ true) c (run_music R L q.2 (subst R.Body (sym et) body) pl x)),
  )

  pub go_block : (b : List TextLine) (s : R.State) → R.env s ≡ e → Good R e b →
      R.notes s + sum R.note_count b ≤ R.max_notes → R.lines s + length b ≤ R.max_lines → Placed s (number_of R e b) b
  go_block [] s he g n l = absurd g
  go_block (r ∷ rs) s he g n l =
      let bs : R.Body (R.env s) = subst R.Body (sym he) body in
      let p : ℕ = index_of (R.ident r) (R.ids e) in
      let w : GoesThrough R s r (index_of (R.ident r) (R.ids (R.env s)))
      = L.goes_V s r bs g.0 (subst (λ (x : R.Env). elem (R.ident r) (R.ids x) ≡ true) (sym he) g.1) g.3.0 (omega arith) (omega arith) in
      let t : R.State = w.0 in
      let k : R.step s r ≡ on t (tag p (R.line_items e (R.unit_in s) (R.meter_in s) (R.verse_place s p) r))
      = w.1 ∙ (λ i. on t (tag (index_of (R.ident r) (R.ids (he i))) (R.line_items (he i) (R.unit_in s) (R.meter_in s) (R.verse_place s (index_of (R.ident r) (R.ids (he i)))) r))) in
      let c : R.cur t ≡ p = w.3 ∙ (λ i. index_of (R.ident r) (R.ids (he i))) in
      let et : R.env t ≡ e = w.2 ∙ he in
      let rec : RowsDone R e t p rs
      = go_lines rs t p et c g.2 g.3.1
      (omega (arith, L.note _ _ _ _ bs k))
      (omega (arith, L.line _ _ _ _ k)) in
      block_done r rs s t p k w.4 w.5 c et g.0 g.2 rec

  module _ (I : ℕ → R.Meter → Type 0) (u : ℕ) (m : R.Meter) where
    -- a block of part p, then others; a block of another part, then others
    tells_own : (b : List TextLine) (bs : List (List TextLine)) (s t : R.State) (is : List R.Item) (a : Items R) (p : ℕ) → eqb (number_of R e b) p ≡ true →
        Gives R e (R.verse_place s p ≡ true) (R.unit_in s) (R.meter_in s) b is → emits R e (R.unit_in s) (R.meter_in s) b ≡ emits R e u m b →
        ((R.verse_place s p ≡ true) ⊎ Music R b → R.verse_place t p ≡ true) → Tells R e u m t bs a p → Tells R e u m s (b ∷ bs) (tag (number_of R e b) is ++ a) p
    tells_own b bs s t is a p x g eb f h = (
      λ y.
          let z : LyricsAfterMusic R (R.verse_place s p ≡ true) (b ++ rest) = subst (λ (l : List (List TextLine)). LyricsAfterMusic R (R.verse_place s p ≡ true) (concat l)) kept y in
          items
          ∙ (λ i.
          (g.0 (sung_left R (R.verse_place s p ≡ true) b rest z) ∙ eb) i
          ++ h.0 (sung_map R ((R.verse_place s p ≡ true) ⊎ Music R b) (R.verse_place t p ≡ true) f rest (sung_right R (R.verse_place s p ≡ true) b rest z)) i)
          ∙ sym (ap (gathers R e u m) kept),
      λ y.
          let z : All (Mute R) (b ++ rest) = subst (λ (l : List (List TextLine)). All (Mute R) (concat l)) kept y in
          subst (NoMusic R) (sym items)
          (All-append (λ i. R.is_music_item i ≡ false) is (items_of p a) (g.1 (All-left (Mute R) b rest z)) (h.1 (All-right (Mute R) b rest z))),
    )
      where
        rest : List TextLine
        rest = concat (part R e p bs)

        kept : part R e p (b ∷ bs) ≡ b ∷ part R e p bs
        kept = filter_yes (is_part R (R.ids e) p) b bs x

        items : items_of p (tag (number_of R e b) is ++ a) ≡ is ++ items_of p a
        items = mine_append p (tag (number_of R e b) is) a ∙ (λ i. mine_own (number_of R e b) p is x i ++ items_of p a)

    tells_other : (b : List TextLine) (bs : List (List TextLine)) (s t : R.State) (is : List R.Item) (a : Items R) (p : ℕ) → eqb (number_of R e b) p ≡ false →
        (R.verse_place s p ≡ true → R.verse_place t p ≡ true) → Tells R e u m t bs a p → Tells R e u m s (b ∷ bs) (tag (number_of R e b) is ++ a) p
    tells_other b bs s t is a p x f h = (
      λ y.
          items
          ∙ h.0 (sung_map R (R.verse_place s p ≡ true) (R.verse_place t p ≡ true) f (concat (part R e p bs)) (subst (λ (l : List (List TextLine)). LyricsAfterMusic R (R.verse_place s p ≡ true) (concat l)) kept y))
          ∙ sym (ap (gathers R e u m) kept),
      λ y. subst (NoMusic R) (sym items) (h.1 (subst (λ (l : List (List TextLine)). All (Mute R) (concat l)) kept y)),
    )
      where
        kept : part R e p (b ∷ bs) ≡ part R e p bs
        kept = filter_no (is_part R (R.ids e) p) b bs x

        items : items_of p (tag (number_of R e b) is ++ a) ≡ items_of p a
        items = mine_append p (tag (number_of R e b) is) a ∙ (λ i. mine_other (number_of R e b) p is x i ++ items_of p a)

    blocks_done : (b : List TextLine) (bs : List (List TextLine)) (s : R.State) (w : BlockDone R e s (number_of R e b) b) → (Music R b → R.verse_place w.0 (number_of R e b) ≡ true) →
        emits R e (R.unit_in s) (R.meter_in s) b ≡ emits R e u m b → BlocksDone R e u m w.0 bs → BlocksDone R e u m s (b ∷ bs)
    blocks_done b bs s w wm eb q = (
      q.0,
      tag k w.1 ++ q.1,
      run_join R w.2 q.2,
      q.3,
      λ p.
          by_test
          (eqb k p)
          (λ x.
          tells_own b bs s w.0 w.1 q.1 p x
          (subst (λ (n : ℕ). Gives R e (R.verse_place s n ≡ true) (R.unit_in s) (R.meter_in s) b w.1) (eqb-true k p x) w.4)
          eb
          (⊎_elim
          (λ y. run_slots R L w.2 p y)
          (λ y. subst (λ (c : ℕ). R.verse_place w.0 c ≡ true) (eqb-true k p x) (wm y)))
          (q.4 p))
          (λ x. tells_other b bs s w.0 w.1 q.1 p x (λ y. run_slots R L w.2 p y) (q.4 p)),
    )
      where
        k : ℕ
        k = number_of R e b

    pub go_blocks : (bs : List (List TextLine)) (s : R.State) → R.env s ≡ e → I (R.unit_in s) (R.meter_in s) → All (Steady R e I u m) bs → All (Good R e) bs →
        R.notes s + sum (sum R.note_count) bs ≤ R.max_notes → R.lines s + sum length bs ≤ R.max_lines → BlocksDone R e u m s bs
    go_blocks [] s he hi st g n l = (s, [], stop, he, λ p. (λ h. refl, λ h. tt))
    go_blocks (b ∷ bs) s he hi st g n l =
        let w : Placed s (number_of R e b) b = go_block b s he g.0 (omega arith) (omega arith) in
        let d : Run R s b w.0.0 (tag (number_of R e b) w.0.1) = w.0.2 in
        let j : (emits R e (R.unit_in s) (R.meter_in s) b ≡ emits R e u m b) × I (end_l R b (R.unit_in s)) (end_m R b (R.meter_in s)) = st.0 (R.unit_in s) (R.meter_in s) hi in
        let rec : BlocksDone R e u m w.0.0 bs
        = go_blocks bs w.0.0 w.0.3 (λ-in w.0.5 w.0.6 j.1) st.1 g.1
        (omega (arith, run_notes R L d (subst R.Body (sym he) body)))
        (omega (arith, run_lines R L d)) in
        blocks_done b bs s w.0 w.1 j.0 rec
      where
        λ-in : {a b : ℕ} {c d : R.Meter} → a ≡ b → c ≡ d → I b d → I a c
        λ-in {a} {b} {c} {d} p q i = subst (λ (x : ℕ). I x c) (sym p) (subst (λ (y : R.Meter). I b y) (sym q) i)

-- the same where there may be no block, and no K: line
module _ (R : Reader) (L : Laws R) (e : R.Env) where
  -- lines without music give no music line's items
  emits_no_music : (u : ℕ) (m : R.Meter) (rs : List TextLine) → All (Mute R) rs → NoMusic R (emits R e u m rs)
  emits_no_music u m [] h = tt
  emits_no_music u m (r ∷ rs) h = All-append (λ i. R.is_music_item i ≡ false) (R.line_items e u m true r) (emits R e (R.after_l r u) (R.after_m r m) rs) (L.no_music e u m true r h.0) (emits_no_music (R.after_l r u) (R.after_m r m) rs h.1)

  pub gathers_no_music : (u : ℕ) (m : R.Meter) (bs : List (List TextLine)) → All (Mute R) (concat bs) → NoMusic R (gathers R e u m bs)
  gathers_no_music u m [] h = tt
  gathers_no_music u m (b ∷ bs) h =
      All-append (λ i. R.is_music_item i ≡ false) (emits R e u m b) (gathers R e u m bs) (emits_no_music u m b (All-left (Mute R) b (concat bs) h)) (gathers_no_music u m bs (All-right (Mute R) b (concat bs) h))

  pub go_any : (I : ℕ → R.Meter → Type 0) (u : ℕ) (m : R.Meter) (bs : List (List TextLine)) (s : R.State) → (bs ≡ []) ⊎ R.Body e → R.env s ≡ e →
      I (R.unit_in s) (R.meter_in s) → All (Steady R e I u m) bs → All (Good R e) bs →
      R.notes s + sum (sum R.note_count) bs ≤ R.max_notes → R.lines s + sum length bs ≤ R.max_lines → BlocksDone R e u m s bs
  go_any I u m [] s z he hi st g n l = (s, [], stop, he, λ p. (λ h. refl, λ h. tt))
  go_any I u m (b ∷ bs) s (inl z) he hi st g n l = absurd (cons≢nil z)
  go_any I u m (b ∷ bs) s (inr z) he hi st g n l = go_blocks R L e z I u m (b ∷ bs) s he hi st g n l

  -- BLOCKS THAT KEEP THE ITEMS: no line sets L or M, and u and m are in force; or each block brings its own
  pub steady_sets_neither : (u : ℕ) (m : R.Meter) (b : List TextLine) → All (SetsNeither R) b → Steady R e (λ w n. (w ≡ u) × (n ≡ m)) u m b
  steady_sets_neither u m b q w n i = ((λ j. emits R e (i.0 j) (i.1 j) b), (keep_l b q w ∙ i.0, keep_m b q n ∙ i.1))
    where
      keep_l : (rs : List TextLine) → All (SetsNeither R) rs → (w : ℕ) → end_l R rs w ≡ w
      keep_l [] q w = refl
      keep_l (r ∷ rs) q w = keep_l rs q.1 (R.after_l r w) ∙ q.0.0 w

      keep_m : (rs : List TextLine) → All (SetsNeither R) rs → (n : R.Meter) → end_m R rs n ≡ n
      keep_m [] q n = refl
      keep_m (r ∷ rs) q n = keep_m rs q.1 (R.after_m r n) ∙ q.0.1 n

  pub steady_brings : (u : ℕ) (m : R.Meter) (b : List TextLine) → Shape b → Brings R b → Steady R e (λ w n. Unit {0}) u m b
  steady_brings u m [] s h = absurd h
  steady_brings u m (v ∷ []) s h = absurd h
  steady_brings u m (v ∷ (l ∷ [])) s h = absurd h
  steady_brings u m (v ∷ (l ∷ (k ∷ rs))) s h = λ w n i. (
    λ j.
        L.unit_meter_unseen e w u n m true v no_v j
        ++ (L.unit_meter_unseen e (R.after_l v w) (R.after_l v u) (R.after_m v n) (R.after_m v m) true l (L.music_L l h.0) j
        ++ (L.unit_meter_unseen e (R.after_l l (R.after_l v w)) (R.after_l l (R.after_l v u)) (R.after_m l (R.after_m v n)) (R.after_m l (R.after_m v m)) true k (L.music_M k h.1) j
        ++ emits R e (R.after_l k (h.2 (R.after_l v w) (R.after_l v u) j)) (h.3 (R.after_m l (R.after_m v n)) (R.after_m l (R.after_m v m)) j) rs)),
    tt,
  )
    where
      no_v : R.is_music v ≡ false
      no_v = by_test (R.is_music v) (λ x. absurd (true≢false (sym s.0 ∙ L.music_V v x))) (λ x. x)

  -- after the first K: line the header is over
  pub body_head : (rs : List TextLine) {s t : R.State} {a : List (ℕ × R.Item)} → Run R s (up_to_k rs) t a → (after_k rs ≡ []) ⊎ R.Body (R.env t)
  body_head [] d = inl refl
  body_head (r ∷ rs) {t = t} (then {t = m} {b = b} k d) =
      let rec : Run R m (up_to_k rs) t b → (after_k rs ≡ []) ⊎ R.Body (R.env t) = λ f. body_head rs f in
      by_test
      (is_k r)
      (λ x. inr (run_body R L d (L.body_K _ _ _ _ k x)))
      (λ x.
      ⊎_elim
      (λ z. inl (ap (λ (c : Bool). cond c rs (after_k rs)) x ∙ z))
      (λ z. inr z)
      (rec (subst (λ (y : List TextLine). Run R m y t b) (ap (λ (c : Bool). cond c [] (up_to_k rs)) x) d)))
