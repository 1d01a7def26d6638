-- DEMAND 3 FOR EVERY READER THAT KEEPS THE LAWS. Each answer, of the text, of the moved text and of the text of one voice, is the end of the same shared facts
-- and of each part's items as its own blocks give them. Assumes nothing.
use Prim.Native.Nat.{ℕ, ◌+◌, ◌≤◌}
use mathlib.Core.Path.{◌≡◌, refl, sym, ap, subst, ◌∙◌}
use mathlib.Core.Logic.{◌⊎◌, inl, inr, ⊎_elim, ◌↔◌}
use mathlib.Core.Bool.{Bool, true, false, cond}
use mathlib.Core.Option.{Option, none, some}
use mathlib.Core.List.{List, [], ◌∷◌, ◌++◌, append_assoc}
use native.Mathlib.Omega.{arith}
use lib.Dec.{eqb}
use lib.ListN.{length}
use borrow.Author.Tests.{eqb-true}
use Rattle.laws.specs.Lists.{All, filter, concat, sum, eq_text, elem, index_of}
use Rattle.laws.specs.Orders.{Perm}
use Rattle.laws.proofs.Bools.{by_test}
use Rattle.laws.proofs.Lists.{All-append, All-left, All-right, All-concat, All-uncat, All-map, All-filter, filter_filter, filter_passes, filter_none, sum_filter, sum_append, sum_concat, length_concat, eq_text_true, eq_text_same}
use Rattle.laws.proofs.Orders.{All-perm, All-perm-back, sum_perm, perm_nil, moved_perm, moved_index}
use Rattle.reader.specs.Text.{text_lines}
use Rattle.reader.specs.Steps.{TextLine, Step, refuse, on, run, items_of}
use Rattle.blocks.specs.Blocks.{closed, after_k, until_v, blocks_of, header, opening, blocks, rebuilt}
use Rattle.blocks.specs.Frame.{Reader, result, answered, answer, ident_of, Moved, named, SetsNeither, Brings, state_of, before, is_part, blocks_at, Music, LyricsAfterMusic, only_part, voices, Hypotheses, Conclusion, Claim, NoMusic, WithinLimits, Laws}
use Rattle.blocks.proofs.Lists.{numbered_named}
use Rattle.blocks.proofs.TextLines.{lines_concat, lines_closed, Closed, lines_all, rebuilt_self, Shape, until_plain, blocks_shape}
use Rattle.blocks.proofs.Runs.{mine_append, Run, run_run, run_of, run_cut, run_join, gathers, Mute, music_or, music_right, sung_yes, sung_map, sung_right, run_no_music, run_low, run_lines, run_body, run_notes, run_fine, run_stays, run_music, run_named, run_keeps}
use Rattle.blocks.proofs.Frame.{gathers_no_music, Steady, steady_sets_neither, steady_brings, BlocksDone, Tells, Good, part, go_any, body_head}

-- a test that goes line by line
module _ (P : List ℕ → Type 0) (nil : P []) (row : (r t : List ℕ) → closed r ≡ true → P (r ++ t) ↔ (P r × P t)) where
  lines_to : (rs : List (List ℕ)) → All Closed rs → P (concat rs) → All P rs
  lines_to [] c p = tt
  lines_to (r ∷ rs) c p = let q : P r × P (concat rs) = (row r (concat rs) c.0).0 p in (q.0, lines_to rs c.1 q.1)

  lines_from : (rs : List (List ℕ)) → All Closed rs → All P rs → P (concat rs)
  lines_from [] c p = nil
  lines_from (r ∷ rs) c p = (row r (concat rs) c.0).1 (p.0, lines_from rs c.1 p.1)

module _ (R : Reader) (L : Laws R) where
  -- an accepted answer: nothing early, and a run to the end
  open_early : (text : List ℕ) (rl sl : ℕ) (x : Option R.Ans) → R.early text rl sl ≡ x → R.Accepted (answered R text rl sl x) →
      (R.early text rl sl ≡ none) × R.Accepted (result R rl sl (run R.step R.start (text_lines text)))
  open_early text rl sl none e h = (e, h)
  open_early text rl sl (some a) e h = absurd (L.early_no text rl sl a e h)

  open_run : (rl sl : ℕ) (x : Step R.State R.Item) → R.Accepted (result R rl sl x) → (s : R.State) × (a : List (ℕ × R.Item)) × (x ≡ on s a)
  open_run rl sl (refuse n l) h = absurd (L.late_no n l rl sl h)
  open_run rl sl (on s a) h = (s, a, refl)

  -- where nothing is early the answer is the run's
  answer_run : (text : List ℕ) (rl sl : ℕ) → R.early text rl sl ≡ none → answer R text rl sl ≡ result R rl sl (run R.step R.start (text_lines text))
  answer_run text rl sl e = ap (answered R text rl sl) e

  -- the blocks of an accepted text
  good : (e : R.Env) (known : List TextLine → Type 0) → ((b : List TextLine) → known b → elem (ident_of R b) (R.ids e) ≡ true) →
      (bs : List (List TextLine)) → All Shape bs → All known bs → All (All R.NotRefused) bs → All (Good R e) bs
  good e known f [] s k h = tt
  good e known f ([] ∷ bs) s k h = absurd s.0
  good e known f ((r ∷ rs) ∷ bs) s k h =
      ((s.0.0, f (r ∷ rs) k.0, s.0.1, h.0), good e known f bs s.1 k.1 h.1)

  -- of the blocks of part p, those of part q are all or none
  part_same : (e : R.Env) (p q : ℕ) (bs : List (List TextLine)) → eqb p q ≡ true → part R e q (part R e p bs) ≡ part R e q bs
  part_same e p q bs x =
      subst (λ (k : ℕ). part R e k (part R e p bs) ≡ part R e k bs) (eqb-true p q x) (filter_filter (is_part R (R.ids e) p) bs)

  part_other : (e : R.Env) (p q : ℕ) (bs : List (List TextLine)) → eqb p q ≡ false → part R e q (part R e p bs) ≡ []
  part_other e p q bs x =
      filter_none
      (is_part R (R.ids e) q)
      (part R e p bs)
      (All-map
      (λ b. is_part R (R.ids e) p b ≡ true)
      (λ b. is_part R (R.ids e) q b ≡ false)
      (λ b h. ap (λ (k : ℕ). eqb k q) (eqb-true (index_of (ident_of R b) (R.ids e)) p h) ∙ x)
      (part R e p bs)
      (filter_passes (is_part R (R.ids e) p) bs))

-- An accepted text that ends in a line feed, with its run cut where the first block begins.
module _
    (R : Reader)
    (L : Laws R)
    (text : List ℕ)
    (rl sl : ℕ)
    (m : Hypotheses R text rl sl)
    (sK s0 s1 : R.State)
    (iK iM i0 i1 : List (ℕ × R.Item))
    (dK : Run R R.start (header text) sK iK)
    (dM : Run R sK (opening text) s0 iM)
    (d0 : Run R R.start (header text ++ opening text) s0 i0)
    (d1 : Run R s0 (concat (blocks text)) s1 i1)
    (none_early : R.early text rl sl ≡ none)
  where
    abbrev e : R.Env
    e = R.env s0

    abbrev bs : List (List TextLine)
    bs = blocks text

    -- L and M where the first block begins; what is kept of them from block to block
    abbrev u0 : ℕ
    u0 = R.unit_in s0

    abbrev m0 : R.Meter
    m0 = R.meter_in s0

    abbrev Kept : All (All (SetsNeither R)) bs ⊎ All (Brings R) bs → ℕ → R.Meter → Type 0
    Kept (inl q) w n = (w ≡ u0) × (n ≡ m0)
    Kept (inr q) w n = Unit {0}

    abbrev I : ℕ → R.Meter → Type 0
    I = Kept m.sets_neither

    kept_0 : (x : All (All (SetsNeither R)) bs ⊎ All (Brings R) bs) → Kept x u0 m0
    kept_0 (inl q) = (refl, refl)
    kept_0 (inr q) = tt

    steady_0 : (x : All (All (SetsNeither R)) bs ⊎ All (Brings R) bs) → All (Steady R e (Kept x) u0 m0) bs
    steady_0 (inl q) = All-map (All (SetsNeither R)) (Steady R e (λ w n. (w ≡ u0) × (n ≡ m0)) u0 m0) (λ b h. steady_sets_neither R L e u0 m0 b h) bs q
    steady_0 (inr q) = brings bs (blocks_shape (after_k (text_lines text))) q
      where
        brings : (cs : List (List TextLine)) → All Shape cs → All (Brings R) cs → All (Steady R e (λ w n. Unit {0}) u0 m0) cs
        brings [] s h = tt
        brings (c ∷ cs) s h = (steady_brings R L e u0 m0 c s.0 h.0, brings cs s.1 h.1)

    before_s0 : before R text ≡ s0
    before_s0 = ap (state_of R) (run_run R d0)

    body_K : (after_k (text_lines text) ≡ []) ⊎ R.Body (R.env sK)
    body_K = body_head R L e (text_lines text) dK

    body_0 : (bs ≡ []) ⊎ R.Body e
    body_0 = ⊎_elim (λ z. inl (ap blocks_of z)) (λ b. inr (run_body R L dM b)) body_K

    music_0 : Music R (opening text) → R.verse_place s0 (R.cur s0) ≡ true
    music_0 mu =
        ⊎_elim
        (λ z. absurd (subst (Music R) (ap until_v z) mu))
        (λ b.
        subst
        (λ (c : ℕ). R.verse_place s0 c ≡ true)
        (sym (run_stays R L dM b (until_plain (after_k (text_lines text)))))
        (run_music R L dM b (until_plain (after_k (text_lines text))) mu))
        body_K

    -- each part's lyric lines find a place for verses; or the part has no place before its blocks and no music in them
    abbrev Told : List (List TextLine) → ℕ → Type 0
    Told cs p = LyricsAfterMusic R (R.verse_place s0 p ≡ true) (concat (part R e p cs)) ⊎ ((R.verse_place s0 p ≡ false) × All (Mute R) (concat (part R e p cs)))

    sung_0 : (p : ℕ) → Music R (concat (part R e p bs)) → LyricsAfterMusic R (R.verse_place s0 p ≡ true) (concat (part R e p bs))
    sung_0 p mp =
        let h : LyricsAfterMusic R ⊥ (cond (eqb (R.cur s0) p) (opening text) [] ++ concat (part R e p bs))
        = subst
        (λ (s : R.State).
        Music R (cond (eqb (R.cur s) p) (opening text) [] ++ concat (part R (R.env s) p bs)) →
        LyricsAfterMusic R ⊥ (cond (eqb (R.cur s) p) (opening text) [] ++ concat (part R (R.env s) p bs)))
        before_s0
        (m.sung p)
        (music_right R (cond (eqb (R.cur s0) p) (opening text) []) (concat (part R e p bs)) mp) in
        by_test
        (eqb (R.cur s0) p)
        (λ x.
        sung_map R (⊥ ⊎ Music R (opening text)) (R.verse_place s0 p ≡ true)
        (⊎_elim (λ z. absurd z) (λ mu. subst (λ (c : ℕ). R.verse_place s0 c ≡ true) (eqb-true (R.cur s0) p x) (music_0 mu)))
        (concat (part R e p bs))
        (sung_right R ⊥ (opening text) (concat (part R e p bs))
        (subst (λ (c : Bool). LyricsAfterMusic R ⊥ (cond c (opening text) [] ++ concat (part R e p bs))) x h)))
        (λ x.
        sung_map R ⊥ (R.verse_place s0 p ≡ true) (λ z. absurd z) (concat (part R e p bs))
        (subst (λ (c : Bool). LyricsAfterMusic R ⊥ (cond c (opening text) [] ++ concat (part R e p bs))) x h))

    told_0 : (p : ℕ) → Told bs p
    told_0 p =
        by_test
        (R.verse_place s0 p)
        (λ x. inl (sung_yes R (R.verse_place s0 p ≡ true) x (concat (part R e p bs))))
        (λ x. ⊎_elim (λ mp. inl (sung_0 p mp)) (λ q. inr (x, q)) (music_or R (concat (part R e p bs))))

    fine_0 : All (All R.NotRefused) bs
    fine_0 = ⊎_elim (λ z. subst (All (All R.NotRefused)) (sym z) tt) (λ b. All-uncat R.NotRefused bs (run_fine R L d1 b)) body_0

    known_0 : All (λ b. elem (ident_of R b) (R.ids e) ≡ true) bs
    known_0 =
        All-map
        (λ b. named R (ident_of R b) (header text) ≡ true)
        (λ b. elem (ident_of R b) (R.ids e) ≡ true)
        (λ b k. run_keeps R L dM (ident_of R b) (run_named R L dK (ident_of R b) k))
        bs
        m.known

    good_0 : All (Good R e) bs
    good_0 = good R L e (λ b. elem (ident_of R b) (R.ids e) ≡ true) (λ b k. k) bs (blocks_shape (after_k (text_lines text))) known_0 fine_0

    within_0 : WithinLimits R s0
    within_0 = run_low R L d0 L.start_within

    within_1 : WithinLimits R s1
    within_1 = run_low R L d1 within_0

    notes_0 : R.notes s0 + sum (sum R.note_count) bs ≤ R.max_notes
    notes_0 =
        ⊎_elim
        (λ z. omega (arith, within_0.0, ap (sum (sum R.note_count)) z))
        (λ b. omega (arith, within_1.0, run_notes R L d1 b, sum_concat R.note_count bs))
        body_0

    lines_0 : R.lines s0 + sum length bs ≤ R.max_lines
    lines_0 = omega (arith, within_1.1, run_lines R L d1, length_concat bs)

    closed_all : All Closed (header text ++ (opening text ++ concat bs))
    closed_all = subst (All Closed) (sym (lines_all text)) (lines_closed text m.ended)

    closed_header : All Closed (header text)
    closed_header = All-left Closed (header text) (opening text ++ concat bs) closed_all

    closed_opening : All Closed (opening text)
    closed_opening = All-left Closed (opening text) (concat bs) (All-right Closed (header text) (opening text ++ concat bs) closed_all)

    closed_blocks : All (All Closed) bs
    closed_blocks = All-uncat Closed bs (All-right Closed (opening text) (concat bs) (All-right Closed (header text) (opening text ++ concat bs) closed_all))

    closed_lines : (cs : List (List TextLine)) → All (All Closed) cs → All Closed (header text ++ (opening text ++ concat cs))
    closed_lines cs c =
        All-append Closed (header text) (opening text ++ concat cs) closed_header
        (All-append Closed (opening text) (concat cs) closed_opening (All-concat Closed cs c))

    -- part p's items, where the blocks are cs and all lyric lines find a place
    abbrev F : List (List TextLine) → ℕ → List R.Item
    F cs p = items_of p i0 ++ gathers R e u0 m0 (part R e p cs)

    items_of_lem : (cs : List (List TextLine)) (a : List (ℕ × R.Item)) (p : ℕ) → Told cs p → Tells R e u0 m0 s0 cs a p →
        (items_of p (i0 ++ a) ≡ F cs p) ⊎ (NoMusic R (items_of p (i0 ++ a)) × NoMusic R (F cs p))
    items_of_lem cs a p w h =
        ⊎_elim
        (λ x. inl (mine_append p i0 a ∙ ap (λ (l : List R.Item). items_of p i0 ++ l) (h.0 x)))
        (λ x.
        let q : NoMusic R (items_of p i0) = run_no_music R L d0 p x.0 in
        inr (
          subst (NoMusic R) (sym (mine_append p i0 a)) (All-append (λ i. R.is_music_item i ≡ false) (items_of p i0) (items_of p a) q (h.1 x.1)),
          All-append (λ i. R.is_music_item i ≡ false) (items_of p i0) (gathers R e u0 m0 (part R e p cs)) q (gathers_no_music R L e u0 m0 (part R e p cs) x.1),
        ))
        w

    -- the lines of the text with the blocks cs, and a run of them
    lines_of : (cs : List (List TextLine)) → All (All Closed) cs → text_lines (rebuilt text cs) ≡ (header text ++ opening text) ++ concat cs
    lines_of cs c = lines_concat (header text ++ (opening text ++ concat cs)) (closed_lines cs c) ∙ sym (append_assoc (header text) (opening text) (concat cs))

    run_of_lines : (cs : List (List TextLine)) → All (All Closed) cs → (t : R.State) (a : List (ℕ × R.Item)) → Run R s0 (concat cs) t a → run R.step R.start (text_lines (rebuilt text cs)) ≡ on t (i0 ++ a)
    run_of_lines cs c t a d = ap (run R.step R.start) (lines_of cs c) ∙ run_run R (run_join R d0 d)

    -- blocks that may stand where the text's own stand
    record Fit (cs : List (List TextLine)) : Type 0 where
      shut : All (All Closed) cs
      late : (cs ≡ []) ⊎ R.Body e
      well : All (Good R e) cs
      even : All (Steady R e I u0 m0) cs
      few : R.notes s0 + sum (sum R.note_count) cs ≤ R.max_notes
      short : R.lines s0 + sum length cs ≤ R.max_lines
      verse_place_unseen : (p : ℕ) → Told cs p

    done : (cs : List (List TextLine)) → Fit cs → BlocksDone R e u0 m0 s0 cs
    done cs f = go_any R L e I u0 m0 cs s0 f.late refl (kept_0 m.sets_neither) f.even f.well f.few f.short

    value : (cs : List (List TextLine)) (rl' sl' : ℕ) → Fit cs → result R rl' sl' (run R.step R.start (text_lines (rebuilt text cs))) ≡ R.finish e (F cs) rl' sl'
    value cs rl' sl' f = go (done cs f)
      where
        go : BlocksDone R e u0 m0 s0 cs → result R rl' sl' (run R.step R.start (text_lines (rebuilt text cs))) ≡ R.finish e (F cs) rl' sl'
        go q =
            ap (result R rl' sl') (run_of_lines cs f.shut q.0 q.1 q.2)
            ∙ (λ i. R.finish (q.3 i) (λ p. items_of p (i0 ++ q.1)) rl' sl')
            ∙ L.alike e (λ p. items_of p (i0 ++ q.1)) (F cs) rl' sl' (λ p. items_of_lem cs q.1 p (f.verse_place_unseen p) (q.4 p))

    voices_of_lem : (cs : List (List TextLine)) → Fit cs → voices R (rebuilt text cs) ≡ R.ids e
    voices_of_lem cs f = go (done cs f)
      where
        go : BlocksDone R e u0 m0 s0 cs → voices R (rebuilt text cs) ≡ R.ids e
        go q = ap (λ (x : Step R.State R.Item). R.ids (R.env (state_of R x))) (run_of_lines cs f.shut q.0 q.1 q.2) ∙ ap R.ids q.3

    -- the text itself
    fit_self : Fit bs
    fit_self = record { shut = closed_blocks; late = body_0; well = good_0; even = steady_0 m.sets_neither; few = notes_0; short = lines_0; verse_place_unseen = told_0 }

    value_self : (rl' sl' : ℕ) → result R rl' sl' (run R.step R.start (text_lines text)) ≡ R.finish e (F bs) rl' sl'
    value_self rl' sl' =
        ap (λ (t : List ℕ). result R rl' sl' (run R.step R.start (text_lines t))) (sym (rebuilt_self text))
        ∙ value bs rl' sl' fit_self

    answer_self : answer R text rl sl ≡ R.finish e (F bs) rl sl
    answer_self = answer_run R L text rl sl none_early ∙ value_self rl sl

    -- the blocks in another order
    lines_sum : (cs : List (List TextLine)) → sum length (header text ++ (opening text ++ concat cs)) ≡ sum length (header text) + (sum length (opening text) + sum (sum length) cs)
    lines_sum cs =
        omega (arith, sum_append length (header text) (opening text ++ concat cs), sum_append length (opening text) (concat cs), sum_concat {A = TextLine} length cs)

    module _ (cs : List (List TextLine)) (pm : Perm bs cs) where
      lines_moved : (P : TextLine → Type 0) → All P (header text ++ (opening text ++ concat bs)) → All P (header text ++ (opening text ++ concat cs))
      lines_moved P h =
          let k : All P (opening text ++ concat bs) = All-right P (header text) (opening text ++ concat bs) h in
          All-append P (header text) (opening text ++ concat cs) (All-left P (header text) (opening text ++ concat bs) h)
          (All-append P (opening text) (concat cs) (All-left P (opening text) (concat bs) k)
          (All-concat P cs (All-perm (All P) pm (All-uncat P bs (All-right P (opening text) (concat bs) k)))))

      lines_back : (P : TextLine → Type 0) → All P (header text ++ (opening text ++ concat cs)) → All P (header text ++ (opening text ++ concat bs))
      lines_back P h =
          let k : All P (opening text ++ concat cs) = All-right P (header text) (opening text ++ concat cs) h in
          All-append P (header text) (opening text ++ concat bs) (All-left P (header text) (opening text ++ concat cs) h)
          (All-append P (opening text) (concat bs) (All-left P (opening text) (concat cs) k)
          (All-concat P bs (All-perm-back (All P) pm (All-uncat P cs (All-right P (opening text) (concat cs) k)))))

      closed_cs : All (All Closed) cs
      closed_cs = All-perm (All Closed) pm closed_blocks

      length_moved : length (rebuilt text cs) ≡ length (rebuilt text bs)
      length_moved =
          omega (
            arith,
            length_concat (header text ++ (opening text ++ concat cs)),
            length_concat (header text ++ (opening text ++ concat bs)),
            lines_sum cs,
            lines_sum bs,
            sum_perm (sum length) pm,
          )

      early_moved : R.early (rebuilt text cs) rl sl ≡ none
      early_moved =
          let o : R.Fits (length (rebuilt text bs)) sl × R.Utf8 (rebuilt text bs) × (R.Blank (rebuilt text bs) → ⊥)
          = (L.early_iff (rebuilt text bs) rl sl).0 (subst (λ (t : List ℕ). R.early t rl sl ≡ none) (sym (rebuilt_self text)) none_early) in
          (L.early_iff (rebuilt text cs) rl sl).1 (
            subst (λ (n : ℕ). R.Fits n sl) (sym length_moved) o.0,
            lines_from R.Utf8 L.utf8_nil L.utf8_line (header text ++ (opening text ++ concat cs)) (closed_lines cs closed_cs)
                (lines_moved R.Utf8 (lines_to R.Utf8 L.utf8_nil L.utf8_line (header text ++ (opening text ++ concat bs)) closed_all o.1)),
            λ b.
                o.2
                (lines_from R.Blank L.blank_nil L.blank_line (header text ++ (opening text ++ concat bs)) closed_all
                (lines_back R.Blank (lines_to R.Blank L.blank_nil L.blank_line (header text ++ (opening text ++ concat cs)) (closed_lines cs closed_cs) b))),
          )

      fit_moved : ((p : ℕ) → part R e p cs ≡ part R e p bs) → Fit cs
      fit_moved h =
          record {
            shut = closed_cs;
            late = ⊎_elim (λ z. inl (perm_nil (subst (λ (l : List (List TextLine)). Perm l cs) z pm))) (λ b. inr b) body_0;
            well = All-perm (Good R e) pm good_0;
            even = All-perm (Steady R e I u0 m0) pm (steady_0 m.sets_neither);
            few = omega (arith, notes_0, sum_perm (sum R.note_count) pm);
            short = omega (arith, lines_0, sum_perm {A = List TextLine} length pm);
            verse_place_unseen =
                λ p.
                subst (λ (l : List (List TextLine)). LyricsAfterMusic R (R.verse_place s0 p ≡ true) (concat l) ⊎ ((R.verse_place s0 p ≡ false) × All (Mute R) (concat l))) (sym (h p)) (told_0 p);
          }

      answer_moved : ((p : ℕ) → part R e p cs ≡ part R e p bs) → answer R (rebuilt text cs) rl sl ≡ answer R text rl sl
      answer_moved h =
          answer_run R L (rebuilt text cs) rl sl early_moved
          ∙ value cs rl sl (fit_moved h)
          ∙ (λ i. R.finish e (λ p. items_of p i0 ++ gathers R e u0 m0 (h p i)) rl sl)
          ∙ sym answer_self

    moved : (cs : List (List TextLine)) → Moved R bs cs → answer R (rebuilt text cs) rl sl ≡ answer R text rl sl
    moved cs h = answer_moved cs (moved_perm eq_text eq_text_true eq_text_same (ident_of R) bs cs h) (λ p. moved_index (ident_of R) (R.ids e) bs cs known_0 h p)

    -- a part by itself
    blocks_at_lem : (p : ℕ) → blocks_at R text p ≡ part R e p bs
    blocks_at_lem p = ap (λ (s : R.State). part R (R.env s) p bs) before_s0

    fit_alone : (p : ℕ) → Fit (part R e p bs)
    fit_alone p =
        record {
          shut = All-filter (is_part R (R.ids e) p) (All Closed) bs closed_blocks;
          late = ⊎_elim (λ z. inl (ap (part R e p) z)) (λ b. inr b) body_0;
          well = All-filter (is_part R (R.ids e) p) (Good R e) bs good_0;
          even = All-filter (is_part R (R.ids e) p) (Steady R e I u0 m0) bs (steady_0 m.sets_neither);
          few = omega (arith, notes_0, sum_filter (is_part R (R.ids e) p) (sum R.note_count) bs);
          short = omega (arith, lines_0, sum_filter {A = List TextLine} (is_part R (R.ids e) p) length bs);
          verse_place_unseen =
              λ q.
              by_test
              (eqb p q)
              (λ x. subst (λ (l : List (List TextLine)). LyricsAfterMusic R (R.verse_place s0 q ≡ true) (concat l) ⊎ ((R.verse_place s0 q ≡ false) × All (Mute R) (concat l))) (sym (part_same R L e p q bs x)) (told_0 q))
              (λ x. inl (subst (λ (l : List (List TextLine)). LyricsAfterMusic R (R.verse_place s0 q ≡ true) (concat l)) (sym (part_other R L e p q bs x)) tt));
        }

    value_alone : (p rl' sl' : ℕ) → result R rl' sl' (run R.step R.start (text_lines (rebuilt text (part R e p bs)))) ≡ R.finish e (F (part R e p bs)) rl' sl'
    value_alone p rl' sl' = value (part R e p bs) rl' sl' (fit_alone p)

    apart' : (p rl' sl' : ℕ) → R.Accepted (answer R (rebuilt text (part R e p bs)) rl' sl') → R.part_of (answer R text rl sl) p ≡ R.part_of (answer R (rebuilt text (part R e p bs)) rl' sl') p
    apart' p rl' sl' acc =
        let o : (R.early (rebuilt text (part R e p bs)) rl' sl' ≡ none) × R.Accepted (result R rl' sl' (run R.step R.start (text_lines (rebuilt text (part R e p bs)))))
        = open_early R L (rebuilt text (part R e p bs)) rl' sl' (R.early (rebuilt text (part R e p bs)) rl' sl') refl acc in
        let v : answer R (rebuilt text (part R e p bs)) rl' sl' ≡ R.finish e (F (part R e p bs)) rl' sl'
        = answer_run R L (rebuilt text (part R e p bs)) rl' sl' o.0 ∙ value_alone p rl' sl' in
        ap (λ (a : R.Ans). R.part_of a p) answer_self
        ∙ L.part e (F bs) (F (part R e p bs)) rl sl rl' sl' p
        (subst R.Accepted answer_self m.accepted)
        (subst R.Accepted v acc)
        (ap (λ (l : List (List TextLine)). items_of p i0 ++ gathers R e u0 m0 l) (sym (filter_filter (is_part R (R.ids e) p) bs)))
        ∙ sym (ap (λ (a : R.Ans). R.part_of a p) v)

    apart : (p rl' sl' : ℕ) → R.Accepted (answer R (only_part R text p) rl' sl') → R.part_of (answer R text rl sl) p ≡ R.part_of (answer R (only_part R text p) rl' sl') p
    apart p rl' sl' =
        subst
        (λ (l : List (List TextLine)). R.Accepted (answer R (rebuilt text l) rl' sl') → R.part_of (answer R text rl sl) p ≡ R.part_of (answer R (rebuilt text l) rl' sl') p)
        (sym (blocks_at_lem p))
        (apart' p rl' sl')

    voices_self : voices R text ≡ R.ids e
    voices_self = ap (voices R) (sym (rebuilt_self text)) ∙ voices_of_lem bs fit_self

    -- the voices bear the same numbers
    numbers : (p : ℕ) → voices R (only_part R text p) ≡ voices R text
    numbers p =
        ap (λ (l : List (List TextLine)). voices R (rebuilt text l)) (blocks_at_lem p)
        ∙ voices_of_lem (part R e p bs) (fit_alone p)
        ∙ sym voices_self

    -- the blocks of a voice's part are those that name it
    names : (v : List ℕ) → elem v (voices R text) ≡ true → blocks_at R text (index_of v (voices R text)) ≡ filter (λ b. eq_text (ident_of R b) v) bs
    names v h =
        blocks_at_lem (index_of v (voices R text))
        ∙ ap (λ (is : List (List ℕ)). part R e (index_of v is) bs) voices_self
        ∙ numbered_named (ident_of R) (R.ids e) v (subst (λ (is : List (List ℕ)). elem v is ≡ true) voices_self h) bs known_0

    owned : All (λ b. elem (ident_of R b) (R.ids (R.env (before R text))) ≡ true) bs
    owned = subst (λ (s : R.State). All (λ b. elem (ident_of R b) (R.ids (R.env s)) ≡ true) bs) (sym before_s0) known_0

    same : Conclusion R text rl sl
    same = record { moved = moved; apart = apart; numbers = numbers; names = names; owned = owned }

-- DEMAND 3
module _ (R : Reader) (L : Laws R) where
  pub claim : Claim R
  claim text rl sl m = go (open_run R L rl sl (run R.step R.start (text_lines text)) early.1)
    where
      early : (R.early text rl sl ≡ none) × R.Accepted (result R rl sl (run R.step R.start (text_lines text)))
      early = open_early R L text rl sl (R.early text rl sl) refl m.accepted

      cut : {s t : R.State} {a b : List (ℕ × R.Item)} → Run R R.start (header text ++ opening text) s a → Run R s (concat (blocks text)) t b → Conclusion R text rl sl
      cut {s} {t} {a} {b} d0 d1 = last (run_cut R (header text) d0)
        where
          last : (u : R.State) × (x : List (ℕ × R.Item)) × (y : List (ℕ × R.Item)) × Run R R.start (header text) u x × Run R u (opening text) s y × (a ≡ x ++ y) → Conclusion R text rl sl
          last q = same R L text rl sl m q.0 s t q.1 q.2 a b q.3 q.4 d0 d1 early.0

      go : (s : R.State) × (a : List (ℕ × R.Item)) × (run R.step R.start (text_lines text) ≡ on s a) → Conclusion R text rl sl
      go q = two (run_cut R (header text ++ opening text) (subst (λ (rs : List TextLine). Run R R.start rs q.0 q.1) (sym (append_assoc (header text) (opening text) (concat (blocks text)) ∙ lines_all text)) (run_of R (text_lines text) R.start q.0 q.1 q.2)))
        where
          two : (u : R.State) × (x : List (ℕ × R.Item)) × (y : List (ℕ × R.Item)) × Run R R.start (header text ++ opening text) u x × Run R u (concat (blocks text)) q.0 y × (q.1 ≡ x ++ y) → Conclusion R text rl sl
          two w = cut w.3 w.4

-- THE ANSWER of a text that meets the hypotheses: the end of what holds where the first block begins, and of each part's items there and from its own blocks
module _ (R : Reader) where
  -- the items of a run
  abbrev pub items_in : Step R.State R.Item → List (ℕ × R.Item)
  items_in (refuse n l) = []
  items_in (on s a) = a

  -- part p's items, where its blocks begin in the state s after the items a
  abbrev pub from_blocks : R.State → List (ℕ × R.Item) → List (List TextLine) → ℕ → List R.Item
  from_blocks s a bs p = items_of p a ++ gathers R (R.env s) (R.unit_in s) (R.meter_in s) (part R (R.env s) p bs)

  abbrev pub at_blocks : List TextLine → Step R.State R.Item
  at_blocks rs = run R.step R.start rs

module _ (R : Reader) (L : Laws R) where
  abbrev pub Settled : List ℕ → ℕ → ℕ → Type 0
  Settled text rl sl =
      let x = at_blocks R (header text ++ opening text) in
      answer R text rl sl ≡ R.finish (R.env (state_of R x)) (from_blocks R (state_of R x) (items_in R x) (blocks text)) rl sl

  pub settled : (text : List ℕ) (rl sl : ℕ) → Hypotheses R text rl sl → Settled text rl sl
  settled text rl sl m = go (open_run R L rl sl (run R.step R.start (text_lines text)) early.1)
    where
      early : (R.early text rl sl ≡ none) × R.Accepted (result R rl sl (run R.step R.start (text_lines text)))
      early = open_early R L text rl sl (R.early text rl sl) refl m.accepted

      cut : {s t : R.State} {a b : List (ℕ × R.Item)} → Run R R.start (header text ++ opening text) s a → Run R s (concat (blocks text)) t b → Settled text rl sl
      cut {s} {t} {a} {b} d0 d1 = last (run_cut R (header text) d0)
        where
          last : (u : R.State) × (x : List (ℕ × R.Item)) × (y : List (ℕ × R.Item)) × Run R R.start (header text) u x × Run R u (opening text) s y × (a ≡ x ++ y) → Settled text rl sl
          last q =
              answer_self R L text rl sl m q.0 s t q.1 q.2 a b q.3 q.4 d0 d1 early.0
              ∙ ap (λ (x : Step R.State R.Item). R.finish (R.env (state_of R x)) (from_blocks R (state_of R x) (items_in R x) (blocks text)) rl sl) (sym (run_run R d0))

      go : (s : R.State) × (a : List (ℕ × R.Item)) × (run R.step R.start (text_lines text) ≡ on s a) → Settled text rl sl
      go q = two (run_cut R (header text ++ opening text) (subst (λ (rs : List TextLine). Run R R.start rs q.0 q.1) (sym (append_assoc (header text) (opening text) (concat (blocks text)) ∙ lines_all text)) (run_of R (text_lines text) R.start q.0 q.1 q.2)))
        where
          two : (u : R.State) × (x : List (ℕ × R.Item)) × (y : List (ℕ × R.Item)) × Run R R.start (header text ++ opening text) u x × Run R u (concat (blocks text)) q.0 y × (q.1 ≡ x ++ y) → Settled text rl sl
          two w = cut w.3 w.4
