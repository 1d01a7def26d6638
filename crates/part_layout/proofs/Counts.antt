-- THE COUNTS OF THE HEADS: each head counts, voice by voice, the notes that stand for it in the log, and the log holds no others. There are as many heads as
-- the plain part has measures.
use Prim.Native.Nat.{ℕ, ◌<◌}
use mathlib.Core.Path.{◌≡◌, refl, sym, ap, subst, ◌∙◌}
use mathlib.Core.List.{List, [], ◌∷◌, map}
use native.Mathlib.Omega.{arith}
use lib.ListN.{length, take, drop, length-map, length-append}
use lib.Seq.{take_at, drop_at}
use Rattle.laws.specs.Lists.{foldl, All, concat, sum}
use Rattle.laws.proofs.Lists.{All-append}
use Rattle.standard.specs.Keys.{Key}
use Rattle.editions.specs.declared.Edition.{Edition}
use Rattle.reader.specs.Scan.{Item}
use Rattle.reader.specs.State.{Note, PartState, new_part}
use Rattle.reader.specs.Part
use Rattle.reader.specs.Records.{tagged}
use Rattle.part_layout.specs.Log.{Head, LogState, new_log, notes_in}
use Rattle.part_layout.specs.Ends
use Rattle.part_layout.specs.Sections.{of_voice}
use Rattle.part_layout.specs.Lines.{four, Counted, Fits}
use Rattle.part_layout.proofs.Back.{back, length_back, All-back, map_back}
use Rattle.part_layout.proofs.Voices.{voice}
use Rattle.part_layout.proofs.Bars.{Bar, head_of, heads_of, log_of, measure_of, Below, Inv, Sim}
use Rattle.part_layout.proofs.Closing.{chunk, final_of, log_chunks, sim_final}
use Rattle.part_layout.proofs.Same.{count_chunk, voice_order}
use Rattle.part_layout.proofs.Reading.{sim_items}

-- OF BARS, the oldest first
-- a voice's notes in the log are as many as in the measure
voice_count_lem : (v : ℕ) (xs : List (ℕ × Note)) → length (voice v xs) ≡ length (of_voice v (back [] xs))
unfolding tagged
voice_count_lem v xs =
    sym (ap length (voice_order v xs) ∙ length-map (back [] (voice v xs)) (λ n. (v, n)) ∙ length_back [] (voice v xs) ∙ omega arith)

-- each head counts the notes that stand for it
counted_bars : (bars : List Bar) → All Below bars → Counted (map head_of bars) (concat (map chunk bars))
counted_bars [] h = refl
counted_bars (b ∷ bs) h =
    let r = concat (map chunk bs) in
    let n = notes_in (head_of b) in
    let e : length (chunk b) ≡ n = count_chunk b h.0 in
    let count : List (ℕ × Note) → List ℕ = λ l. four (λ v. length (of_voice v l)) in (
      (λ i. voice_count_lem 0 b.notes i ∷ voice_count_lem 1 b.notes i ∷ voice_count_lem 2 b.notes i ∷ voice_count_lem 3 b.notes i ∷ []) ∙ ap count (sym (take_at (chunk b) r n e)),
      subst (Counted (map head_of bs)) (sym (drop_at (chunk b) r n e)) (counted_bars bs h.1),
    )

-- four counts each
four_bars : (bars : List Bar) → All (λ (m : Head). length m.counts ≡ 4) (map head_of bars)
four_bars [] = tt
four_bars (b ∷ bs) = (refl, four_bars bs)

-- together they count the whole log
all_bars : (bars : List Bar) → All Below bars → sum notes_in (map head_of bars) ≡ length (concat (map chunk bars))
all_bars [] h = refl
all_bars (b ∷ bs) h = omega (arith, all_bars bs h.1, count_chunk b h.0, length-append (chunk b) (concat (map chunk bs)))

-- all voices are below four
below_bars : (bars : List Bar) → All Below bars → All (λ (x : ℕ × Note). x.0 < 4) (concat (map chunk bars))
below_bars [] h = tt
below_bars (b ∷ bs) h = All-append _ (chunk b) (concat (map chunk bs)) (All-back _ [] b.notes tt h.0) (below_bars bs h.1)

-- so the heads fit the log
pub fits_bars : (bars : List Bar) → All Below bars → Fits (map head_of bars) (concat (map chunk bars))
fits_bars bars h = record { four_counts = four_bars bars; counted = counted_bars bars h; all_notes_lem = all_bars bars h; voices_below = below_bars bars h }

-- heads and log that are those of bars
fits_as : (bars : List Bar) (heads : List Head) (log : List (ℕ × Note)) → All Below bars → map head_of bars ≡ heads → concat (map chunk bars) ≡ log → Fits heads log
fits_as bars heads log h p q = subst (λ l. Fits heads l) q (subst (λ (hs : List Head). Fits hs (concat (map chunk bars))) p (fits_bars bars h))

-- WHILE A PART IS READ
-- its bars, the newest first
pub fits_list : (bars : List Bar) → All Below bars → Fits (heads_of bars) (log_of bars)
fits_list bars h =
    fits_as (back [] bars) (heads_of bars) (log_of bars) (All-back Below [] bars tt h) (map_back head_of bars) (sym (log_chunks bars))

-- two states side by side
pub sim_fits : (l : LogState) (p : PartState) → Sim Inv l p → Fits l.heads l.log
sim_fits l p s = subst (λ (x : LogState). Fits x.heads x.log) s.laid_is (fits_list s.state.bars s.holds.below)

-- have as many heads as measures
pub sim_measures : (l : LogState) (p : PartState) → Sim Inv l p → length l.heads ≡ length p.measures
sim_measures l p s =
    let bars = s.state.bars in
    ap (λ (x : LogState). length x.heads) (sym s.laid_is) ∙ length_back [] (map head_of bars) ∙ omega (arith, length-map bars head_of, length-map bars measure_of)
    ∙ ap (λ (x : PartState). length x.measures) s.plain_is

-- EVERY PART
pub items_fit_lem : (ed : Edition) (header : Key) (items : List Item) → Fits (foldl (Ends.on_item ed header) new_log items).heads (foldl (Ends.on_item ed header) new_log items).log
items_fit_lem ed header items = sim_fits _ _ (sim_items ed header items)

-- once it is ended
pub build_fits : (ed : Edition) (header : Key) (items : List Item) → Fits (Ends.build ed header items).heads (Ends.build ed header items).log
unfolding Ends.build Ends.finished
build_fits ed header items =
    let l = foldl (Ends.on_item ed header) new_log items in
    let p = foldl (Part.on_item ed header) new_part items in
    let f = sim_final header l p (sim_items ed header items) in
    fits_as f.bars (Ends.finished_heads header l) l.log f.voices_below f.heads_are f.log_is

-- and as many heads as measures
pub build_measures : (ed : Edition) (header : Key) (items : List Item) → length (Ends.build ed header items).heads ≡ length (Part.build ed header items).measures
unfolding Ends.build Part.build Ends.finished Part.finished
build_measures ed header items =
    let l = foldl (Ends.on_item ed header) new_log items in
    let p = foldl (Part.on_item ed header) new_part items in
    let f = sim_final header l p (sim_items ed header items) in
    ap length (sym f.heads_are) ∙ length-map f.bars head_of ∙ sym (length-map f.bars final_of) ∙ ap length f.measures_are
