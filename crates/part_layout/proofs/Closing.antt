-- THE END OF A PART: both definitions drop the same measure, close the same voltas and mark the same key.
use Prim.Native.Nat.{ℕ, zero, suc, ◌<◌}
use mathlib.Core.Path.{◌≡◌, refl, sym, ap, subst, ◌∙◌}
use mathlib.Core.Bool.{Bool, true, false, cond, ◌||◌}
use mathlib.Core.Option.{Option, none, some}
use mathlib.Core.List.{List, [], ◌∷◌, ◌++◌, map, reverse}
use native.Mathlib.Omega.{arith}
use Rattle.laws.specs.Lists.{All, concat, is_nil}
use Rattle.laws.proofs.Bools.{by_test, and_no_right, cond_ap, both_true}
use Rattle.laws.proofs.Lists.{map_append, map_map, concat_snoc}
use Rattle.standard.specs.Keys.{Key}
use Rattle.editions.specs.declared.Edition.{Edition}
use Rattle.reader.specs.State
use Rattle.reader.specs.State.{Note, Measure, PartState, is_empty, volta_ends, volta_alone}
use Rattle.reader.specs.Voltas
use Rattle.reader.specs.Voltas.{ends_ending, is_start, closed}
use Rattle.reader.specs.Part
use Rattle.reader.specs.Part.{in_order}
use Rattle.part_layout.specs.Log
use Rattle.part_layout.specs.Log.{Head, LogState, is_empty_head}
use Rattle.part_layout.specs.Ends
use Rattle.part_layout.proofs.Back.{back, back_append, All-back, reverse_back, map_back}
use Rattle.part_layout.proofs.Voices.{voice}
use Rattle.part_layout.proofs.Bars.{Bar, BarState, bar_notes, bar_mark, bar_volta, head_of, heads_of, log_of, laid, measure_of, measures_of, plain, Below, Full, Older, Inv, Sim}
use Rattle.part_layout.proofs.Measures.{empty_head}

-- AN EMPTY MEASURE AT THE END
-- a head in front is passed over
dropped_cons : (x y : Head) (hs : List Head) (h : Head) → Ends.dropped (x ∷ y ∷ (hs ++ (h ∷ []))) ≡ x ∷ Ends.dropped (y ∷ (hs ++ (h ∷ [])))
unfolding Ends.dropped
dropped_cons x y [] h = refl
dropped_cons x y (z ∷ hs) h = refl

-- the last head goes if it is empty and another one stands before it
dropped_snoc : (x : Head) (hs : List Head) (h : Head) → Ends.dropped (x ∷ (hs ++ (h ∷ []))) ≡ cond (is_empty_head h) (x ∷ hs) (x ∷ (hs ++ (h ∷ [])))
unfolding Ends.dropped
dropped_snoc x [] h = refl
dropped_snoc x (y ∷ hs) h =
    dropped_cons x y hs h ∙ ap (λ (l : List Head). x ∷ l) (dropped_snoc y hs h)
    ∙ cond_ap (λ (l : List Head). x ∷ l) (is_empty_head h) (y ∷ hs) (y ∷ (hs ++ (h ∷ [])))

-- of the two last heads
dropped_two : (hs : List Head) (g h : Head) → Ends.dropped ((hs ++ (g ∷ [])) ++ (h ∷ [])) ≡ cond (is_empty_head h) (hs ++ (g ∷ [])) ((hs ++ (g ∷ [])) ++ (h ∷ []))
dropped_two [] g h = dropped_snoc g [] h
dropped_two (x ∷ hs) g h = dropped_snoc x (hs ++ (g ∷ [])) h

-- the measures without it
abbrev pub drop_bars : List Bar → List Bar
drop_bars [] = []
drop_bars (b ∷ []) = b ∷ []
drop_bars (b ∷ c ∷ bs) = cond (is_empty (measure_of b)) (c ∷ bs) (b ∷ c ∷ bs)

-- as the heads have it
drop_heads : (bars : List Bar) → Ends.dropped (heads_of bars) ≡ heads_of (drop_bars bars)
unfolding Ends.dropped
drop_heads [] = refl
drop_heads (b ∷ []) = refl
drop_heads (b ∷ c ∷ bs) =
    dropped_two (heads_of bs) (head_of c) (head_of b)
    ∙ ap (λ (t : Bool). cond t (heads_of (c ∷ bs)) (heads_of (b ∷ c ∷ bs))) (empty_head b)
    ∙ sym (cond_ap heads_of (is_empty (measure_of b)) (c ∷ bs) (b ∷ c ∷ bs))

-- the plain definition would drop more, but only the newest measure can be empty
full_stays : (c : Bar) (bs : List Bar) → Full c → Part.dropped (measures_of (c ∷ bs)) ≡ measures_of (c ∷ bs)
unfolding Part.dropped
full_stays c [] e = refl
full_stays c (d ∷ bs) e = rw (e, Part.dropped)

-- as the plain measures have it
drop_measures : (bars : List Bar) → Older bars → Part.dropped (measures_of bars) ≡ measures_of (drop_bars bars)
unfolding Part.dropped
drop_measures [] h = refl
drop_measures (b ∷ []) h = refl
drop_measures (b ∷ c ∷ bs) h =
    let q : Part.dropped (measures_of (c ∷ bs)) ≡ measures_of (c ∷ bs) = full_stays c bs h.0 in
    by_test (is_empty (measure_of b)) (λ e. rw (e, Part.dropped) q) (λ e. rw (e, Part.dropped))

-- a measure with a note of one of four voices is not empty
note_full : (b : Bar) (x : ℕ × Note) (xs : List (ℕ × Note)) → x.0 < 4 → Full (bar_notes (x ∷ xs) b)
note_full b (zero, n) xs h = refl
note_full b (suc zero, n) xs h = and_no_right (is_nil (voice 0 xs)) _ refl
note_full b (suc (suc zero), n) xs h = and_no_right (is_nil (voice 0 xs)) _ (and_no_right (is_nil (voice 1 xs)) _ refl)
note_full b (suc (suc (suc zero)), n) xs h =
    and_no_right (is_nil (voice 0 xs)) _ (and_no_right (is_nil (voice 1 xs)) _ (and_no_right (is_nil (voice 2 xs)) _ refl))
note_full b (suc (suc (suc (suc m))), n) xs h = absurd (omega (arith, h))

-- an empty measure has no notes
empty_notes : (b : Bar) (xs : List (ℕ × Note)) → All (λ (x : ℕ × Note). x.0 < 4) xs → is_empty (measure_of (bar_notes xs b)) ≡ true → xs ≡ []
empty_notes b [] h e = refl
empty_notes b (x ∷ xs) h e = absurd (both_true _ e (note_full b x xs h.0))

-- so the log stays
drop_log : (bars : List Bar) → All Below bars → log_of (drop_bars bars) ≡ log_of bars
drop_log [] h = refl
drop_log (b ∷ []) h = refl
drop_log (b ∷ c ∷ bs) h =
    by_test (is_empty (measure_of b)) (λ e. rw e (ap (back (log_of (c ∷ bs))) (sym (empty_notes b b.notes h.0 e)))) (λ e. rw e)

-- and all voices are below four
drop_below : (bars : List Bar) → All Below bars → All Below (drop_bars bars)
drop_below [] h = h
drop_below (b ∷ []) h = h
drop_below (b ∷ c ∷ bs) h = by_test (is_empty (measure_of b)) (λ e. rw e h.1) (λ e. rw e h)

-- IN ORDER: the oldest measure first
-- a measure's notes as they stand in the log
abbrev pub chunk : Bar → List (ℕ × Note)
chunk b = back [] b.notes

-- a measure with its four lists in the order written
abbrev pub final_of : Bar → Measure
final_of b = in_order (measure_of b)

-- the log is the notes of the measures, one after the other
pub log_chunks : (bars : List Bar) → log_of bars ≡ concat (map chunk (back [] bars))
log_chunks [] = refl
log_chunks (b ∷ bs) =
    back_append (log_of bs) b.notes ∙ ap (λ (l : List (ℕ × Note)). l ++ chunk b) (log_chunks bs) ∙ sym (concat_snoc (map chunk (back [] bs)) (chunk b))
    ∙ ap concat (sym (map_append chunk (back [] bs) (b ∷ [])))

-- the plain measures in order
order_measures : (bars : List Bar) → map in_order (reverse (measures_of bars)) ≡ map final_of (back [] bars)
order_measures bars =
    ap (map in_order) (reverse_back (measures_of bars) ∙ sym (map_back measure_of bars)) ∙ map_map measure_of in_order (back [] bars)

-- MEASURES, HEADS AND NOTES of the same bars
pub record AsBars (hs : List Head) (ms : List Measure) (ns : List (List (ℕ × Note))) : Type 0 where
  pub bars : List Bar
  pub heads_are : map head_of bars ≡ hs
  pub measures_are : map final_of bars ≡ ms
  pub notes_are : map (λ (b : Bar). b.notes) bars ≡ ns

-- one more in front
front : (b : Bar) (hs : List Head) (ms : List Measure) (ns : List (List (ℕ × Note))) → AsBars hs ms ns → AsBars (head_of b ∷ hs) (final_of b ∷ ms) (b.notes ∷ ns)
front b hs ms ns a =
    record {
      bars = b ∷ a.bars;
      heads_are = ap (λ (l : List Head). head_of b ∷ l) a.heads_are;
      measures_are = ap (λ (l : List Measure). final_of b ∷ l) a.measures_are;
      notes_are = ap (λ (l : List (List (ℕ × Note))). b.notes ∷ l) a.notes_are;
    }

-- VOLTAS
-- the span ends here
abbrev ends : Bar → List Bar → Bool
ends b [] = ends_ending b.right || true
ends b (c ∷ bs) = ends_ending b.right || is_start c.volta

-- as the heads have it
ends_head : (b : Bar) (bs : List Bar) → Ends.ends_at (head_of b) (map head_of bs) ≡ ends b bs
unfolding Ends.ends_at Ends.last_there Ends.starts
ends_head b [] = refl
ends_head b (c ∷ bs) = refl

-- as the plain measures have it
ends_measure : (b : Bar) (bs : List Bar) → Voltas.ends_at (final_of b) (map final_of bs) ≡ ends b bs
unfolding Voltas.ends_at Voltas.last_there Voltas.starts in_order
ends_measure b [] = refl
ends_measure b (c ∷ bs) = refl

-- a volta starts here, as the heads have it
starts_head : (b : Bar) → Ends.starts (head_of b) ≡ is_start b.volta
unfolding Ends.starts
starts_head b = refl

-- as the plain measures have it
starts_measure : (b : Bar) → Voltas.starts (final_of b) ≡ is_start b.volta
unfolding Voltas.starts in_order
starts_measure b = refl

-- one step over heads: one measure alone
heads_alone : (m : Head) (ms : List Head) → Ends.starts m ≡ true → Ends.ends_at m ms ≡ true → Log.with_volta volta_alone m.passes m ∷ Ends.close none ms ≡ Ends.close none (m ∷ ms)
unfolding Ends.close
heads_alone m ms e f = rw (e, f, Ends.close)

-- a start whose span goes on
heads_begins : (m : Head) (ms : List Head) → Ends.starts m ≡ true → Ends.ends_at m ms ≡ false → m ∷ Ends.close (some m.passes) ms ≡ Ends.close none (m ∷ ms)
unfolding Ends.close
heads_begins m ms e f = rw (e, f, Ends.close)

-- no start
heads_none : (m : Head) (ms : List Head) → Ends.starts m ≡ false → m ∷ Ends.close none ms ≡ Ends.close none (m ∷ ms)
unfolding Ends.close
heads_none m ms e = rw (e, Ends.close)

-- the end of a span
heads_ends : (ps : List ℕ) (m : Head) (ms : List Head) → Ends.ends_at m ms ≡ true → Log.with_volta volta_ends ps m ∷ Ends.close none ms ≡ Ends.close (some ps) (m ∷ ms)
unfolding Ends.close
heads_ends ps m ms f = rw (f, Ends.close)

-- the middle of a span
heads_goes_on : (ps : List ℕ) (m : Head) (ms : List Head) → Ends.ends_at m ms ≡ false → m ∷ Ends.close (some ps) ms ≡ Ends.close (some ps) (m ∷ ms)
unfolding Ends.close
heads_goes_on ps m ms f = rw (f, Ends.close)

-- one step over plain measures: one measure alone
measures_alone : (m : Measure) (ms : List Measure) → Voltas.starts m ≡ true → Voltas.ends_at m ms ≡ true → State.with_volta volta_alone m.passes m ∷ Voltas.close none ms ≡ Voltas.close none (m ∷ ms)
unfolding Voltas.close
measures_alone m ms e f = rw (e, f, Voltas.close)

-- a start whose span goes on
measures_begins : (m : Measure) (ms : List Measure) → Voltas.starts m ≡ true → Voltas.ends_at m ms ≡ false → m ∷ Voltas.close (some m.passes) ms ≡ Voltas.close none (m ∷ ms)
unfolding Voltas.close
measures_begins m ms e f = rw (e, f, Voltas.close)

-- no start
measures_none : (m : Measure) (ms : List Measure) → Voltas.starts m ≡ false → m ∷ Voltas.close none ms ≡ Voltas.close none (m ∷ ms)
unfolding Voltas.close
measures_none m ms e = rw (e, Voltas.close)

-- the end of a span
measures_ends : (ps : List ℕ) (m : Measure) (ms : List Measure) → Voltas.ends_at m ms ≡ true → State.with_volta volta_ends ps m ∷ Voltas.close none ms ≡ Voltas.close (some ps) (m ∷ ms)
unfolding Voltas.close
measures_ends ps m ms f = rw (f, Voltas.close)

-- the middle of a span
measures_goes_on : (ps : List ℕ) (m : Measure) (ms : List Measure) → Voltas.ends_at m ms ≡ false → m ∷ Voltas.close (some ps) ms ≡ Voltas.close (some ps) (m ∷ ms)
unfolding Voltas.close
measures_goes_on ps m ms f = rw (f, Voltas.close)

-- the measures, with one more in front that the steps give
stepped : (b : Bar) (hs hs' : List Head) (ms ms' : List Measure) (ns : List (List (ℕ × Note))) → AsBars hs ms ns → head_of b ∷ hs ≡ hs' → final_of b ∷ ms ≡ ms' → AsBars hs' ms' (b.notes ∷ ns)
stepped b hs hs' ms ms' ns a p q =
    let f = front b hs ms ns a in
    record { bars = f.bars; heads_are = f.heads_are ∙ p; measures_are = f.measures_are ∙ q; notes_are = f.notes_are }

-- voltas closed
close_bars : (o : Option (List ℕ)) (cs : List Bar) → AsBars (Ends.close o (map head_of cs)) (Voltas.close o (map final_of cs)) (map (λ (b : Bar). b.notes) cs)
unfolding Ends.close Voltas.close in_order
close_bars o [] = record { bars = []; heads_are = refl; measures_are = refl; notes_are = refl }
close_bars none (b ∷ bs) =
    let k = close_bars none bs in
    let q = close_bars (some b.passes) bs in
    let h = map head_of bs in
    let m = map final_of bs in
    by_test (is_start b.volta)
    (λ e. by_test (ends b bs)
    (λ f. stepped (bar_volta volta_alone b.passes b) _ _ _ _ _ k (heads_alone (head_of b) h (starts_head b ∙ e) (ends_head b bs ∙ f)) (measures_alone (final_of b) m (starts_measure b ∙ e) (ends_measure b bs ∙ f)))
    (λ f. stepped b _ _ _ _ _ q (heads_begins (head_of b) h (starts_head b ∙ e) (ends_head b bs ∙ f)) (measures_begins (final_of b) m (starts_measure b ∙ e) (ends_measure b bs ∙ f))))
    (λ e. stepped b _ _ _ _ _ k (heads_none (head_of b) h (starts_head b ∙ e)) (measures_none (final_of b) m (starts_measure b ∙ e)))
close_bars (some ps) (b ∷ bs) =
    let k = close_bars none bs in
    let q = close_bars (some ps) bs in
    let h = map head_of bs in
    let m = map final_of bs in
    by_test (ends b bs)
    (λ f. stepped (bar_volta volta_ends ps b) _ _ _ _ _ k (heads_ends ps (head_of b) h (ends_head b bs ∙ f)) (measures_ends ps (final_of b) m (ends_measure b bs ∙ f)))
    (λ f. stepped b _ _ _ _ _ q (heads_goes_on ps (head_of b) h (ends_head b bs ∙ f)) (measures_goes_on ps (final_of b) m (ends_measure b bs ∙ f)))

-- THE FIRST KEY MARK, by the mark that is there
marked_by_lem : (header : Key) (b : Bar) (hs : List Head) (ms : List Measure) (ns : List (List (ℕ × Note))) → AsBars hs ms ns → (k : Option Key)
    → AsBars (Ends.marked_by header (head_of b) k ∷ hs) (Part.marked_by header (final_of b) k ∷ ms) (b.notes ∷ ns)
unfolding Ends.marked_by Part.marked_by in_order
marked_by_lem header b hs ms ns a none = front (bar_mark header b) hs ms ns a
marked_by_lem header b hs ms ns a (some k) = front b hs ms ns a

-- on the first measure, if there is one
marked_bars : (header : Key) (cs : List Bar) → AsBars (Ends.marked header (map head_of cs)) (Part.marked header (map final_of cs)) (map (λ (b : Bar). b.notes) cs)
unfolding Ends.marked Part.marked in_order
marked_bars header [] = record { bars = []; heads_are = refl; measures_are = refl; notes_are = refl }
marked_bars header (b ∷ bs) =
    marked_by_lem header b (map head_of bs) (map final_of bs) (map (λ (c : Bar). c.notes) bs) (record { bars = bs; heads_are = refl; measures_are = refl; notes_are = refl }) b.key

-- A FINISHED PART: its heads, its plain measures and its log are those of the same bars, the oldest first
pub record Final (header : Key) (l : LogState) (p : PartState) : Type 0 where
  pub bars : List Bar
  pub heads_are : map head_of bars ≡ Ends.finished_heads header l
  pub measures_are : map final_of bars ≡ Part.finished_measures header p
  pub log_is : concat (map chunk bars) ≡ l.log
  pub voices_below : All Below bars

-- a property of what f gives of each
over : {A B : Type 0} (P : B → Type 0) (f : A → B) (xs : List A) → All (λ (x : A). P (f x)) xs → All P (map f xs)
over P f [] h = tt
over P f (x ∷ xs) h = (h.0, over P f xs h.1)

-- and back
under : {A B : Type 0} (P : B → Type 0) (f : A → B) (xs : List A) → All P (map f xs) → All (λ (x : A). P (f x)) xs
under P f [] h = tt
under P f (x ∷ xs) h = (h.0, under P f xs h.1)

-- the end of a state of both
final_of_lem : (header : Key) (s : BarState) → Inv s → Final header (laid s) (plain s)
unfolding Ends.finished_heads Part.finished_measures closed
final_of_lem header s g =
    let ds = drop_bars s.bars in
    let cs = back [] ds in
    let notes_in : Bar → List (ℕ × Note) = λ b. b.notes in
    let c = close_bars none cs in
    let m = marked_bars header c.bars in
    let notes_are : map notes_in m.bars ≡ map notes_in cs = m.notes_are ∙ c.notes_are in
    record {
      bars = m.bars;
      heads_are =
          m.heads_are ∙ ap (Ends.marked header) c.heads_are
          ∙ ap (λ (hs : List Head). Ends.marked header (Ends.close none hs)) (map_back head_of ds ∙ sym (drop_heads s.bars));
      measures_are =
          m.measures_are ∙ ap (Part.marked header) c.measures_are
          ∙ ap (λ (ms : List Measure). Part.marked header (Voltas.close none ms))
          (sym (ap (λ (ms : List Measure). map in_order (reverse ms)) (drop_measures s.bars g.older) ∙ order_measures ds));
      log_is =
          ap concat (sym (map_map notes_in (back []) m.bars)) ∙ ap (λ (ns : List (List (ℕ × Note))). concat (map (back []) ns)) notes_are
          ∙ ap concat (map_map notes_in (back []) cs) ∙ sym (log_chunks ds) ∙ drop_log s.bars g.below;
      voices_below =
          under (All (λ (x : ℕ × Note). x.0 < 4)) notes_in m.bars
          (subst (All (All (λ (x : ℕ × Note). x.0 < 4))) (sym notes_are) (over (All (λ (x : ℕ × Note). x.0 < 4)) notes_in cs (All-back Below [] ds tt (drop_below s.bars g.below))));
    }

-- the end of two states side by side
pub sim_final : (header : Key) (l : LogState) (p : PartState) → Sim Inv l p → Final header l p
sim_final header l p s = at_laid s.laid_is (at_plain s.plain_is (final_of_lem header s.state s.holds))
  where
    at_laid : laid s.state ≡ l → Final header (laid s.state) p → Final header l p
    at_laid e f = subst (λ (x : LogState). Final header x p) e f

    at_plain : plain s.state ≡ p → Final header (laid s.state) (plain s.state) → Final header (laid s.state) p
    at_plain e f = subst (λ (x : PartState). Final header (laid s.state) x) e f
