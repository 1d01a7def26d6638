-- WHILE A LINE IS READ, as the code keeps it, the state is Standing: every line of a part begins so, and every token keeps it.
use Prim.Native.Nat.{ℕ, zero, suc, ◌-◌, ◌≤◌, ◌<◌}
use mathlib.Core.Path.{◌≡◌, refl, sym, ap, subst, ◌∙◌}
use mathlib.Core.List.{List, [], ◌∷◌, ◌++◌}
use native.Mathlib.Nat.{not-suc-le-zero}
use native.Mathlib.Omega.{arith}
use lib.ListN.{length, get_or, length-append}
use Rattle.laws.specs.Lists.{foldl, sum}
use Rattle.laws.proofs.Lists.{foldl_holds}
use Rattle.standard.specs.Keys.{Key, plain_key}
use Rattle.standard.specs.Fields.{Meter}
use Rattle.editions.specs.declared.Edition.{Edition}
use Rattle.reader.specs.Token.{Token}
use Rattle.reader.specs.Scan.{Item}
use Rattle.reader.specs.State.{Note, PartState, new_part, voice_in, voice_now}
use Rattle.reader.specs.Part
use Rattle.reader.proofs.LineLaws.{Ready, ready_token, ready_begins, Kept, kept_item, kept_after_lem}
use Rattle.part_layout.specs.Log
use Rattle.part_layout.specs.Log.{Head, LogState, new_log, last_place, notes_in}
use Rattle.part_layout.specs.Ends
use Rattle.part_layout.specs.Lines.{Place, Standing, Between}
use Rattle.part_layout.proofs.Back.{length_back, get_or_four}
use Rattle.part_layout.proofs.Voices.{voice, last_of, last_of_le, last_of_open, last_of_voice, last_of_none, none_last_of}
use Rattle.part_layout.proofs.Bars.{Bar, BarState, set_bars, head_of, heads_of, log_of, lasts_of, laid, measure_of, plain, Reads, Inv, Reading, Sim, sim_step}
use Rattle.part_layout.proofs.Measures.{sim_begins}
use Rattle.part_layout.proofs.Reading.{sim_token, sim_between, sim_item, sim_items}
use Rattle.part_layout.proofs.Counts.{fits_list}

-- the place of a voice's last note
last_is : (v : ℕ) (b : Bar) (bs : List Bar) → Place (log_of (b ∷ bs)) (length (log_of bs)) (length (voice v b.notes)) v (last_of v (length (log_of bs)) b.notes)
last_is v b bs =
    let k = length (log_of bs) in
    record {
      inside = omega (arith, last_of_le v k b.notes, length_back (log_of bs) b.notes);
      behind = last_of_open v k b.notes;
      of_voice_lem = last_of_voice v (log_of bs) b.notes;
      none = last_of_none v k b.notes;
      only_none = none_last_of v k b.notes;
    }

-- by other names for the same numbers
place_as : (log : List (ℕ × Note)) (v n n' c c' p p' : ℕ) → n ≡ n' → c ≡ c' → p ≡ p' → Place log n c v p → Place log n' c' v p'
place_as log v n n' c c' p p' e f g h =
    subst (λ (x : ℕ). Place log n' c' v x) g (subst (λ (x : ℕ). Place log n' x v p) f (subst (λ (x : ℕ). Place log x c v p) e h))

-- a number that is not 0
above_zero : (n : ℕ) → (n ≡ 0 → ⊥) → 0 < n
above_zero zero h = absurd (h refl)
above_zero (suc n) h = omega arith

-- of a state with its measures
standing_open : (s : BarState) (bars : List Bar) → Reads s.line.overlay bars → Ready (plain (set_bars bars s)) → Standing (laid (set_bars bars s))
unfolding last_place voice_now voice_in
standing_open s [] r q = absurd (not-suc-le-zero r.is_open)
standing_open s (b ∷ bs) r q =
    let o = s.line.overlay in
    let k = length (log_of bs) in
    let before : k ≡ sum notes_in (heads_of bs) = sym (fits_list bs r.good.below.1).all_notes_lem in
    let at : (v : ℕ) → v < 4 → get_or (lasts_of (b ∷ bs)) v 0 ≡ last_of v k b.notes = λ v h. get_or_four (λ w. last_of w k b.notes) v 0 h in
    let sings : get_or (measure_of b).voices o [] ≡ voice o b.notes = get_or_four (λ w. voice w b.notes) o [] r.good.place in
    record {
      older = heads_of bs;
      open_head = head_of b;
      heads_are = refl;
      overlay_4 = r.good.place;
      scopes_4 = q.scopes_4;
      last_4 = refl;
      fits = fits_list (b ∷ bs) r.good.below;
      places =
          λ v h. place_as (log_of (b ∷ bs)) v k (sum notes_in (heads_of bs)) (length (voice v b.notes)) (get_or (head_of b).counts v 0) (last_of v k b.notes) (get_or (lasts_of (b ∷ bs)) v 0) before
          (sym (get_or_four (λ w. length (voice w b.notes)) v 0 h)) (sym (at v h)) (last_is v b bs);
      run_has_note =
          λ u. above_zero (get_or (lasts_of (b ∷ bs)) o 0)
          (λ e. let z = last_of_none o k b.notes (sym (at o r.good.place) ∙ e) in omega (arith, q.seen u, ap length sings, z));
    }

-- A PART BETWEEN LINES AND IN A LINE: a plain state beside the code's, made from the same one
pub record KeptBetween (l : LogState) : Type 0 where
  pub part : PartState
  pub sim : Sim Inv l part
  pub kept : Kept part

pub record InLine (l : LogState) : Type 0 where
  pub part : PartState
  pub sim : Sim Reading l part
  pub ready : Ready part

-- so a part begins
kept_new : Edition → KeptBetween new_log
kept_new ed = record { part = new_part; sim = sim_items ed plain_key []; kept = kept_after_lem ed plain_key [] }

-- each item keeps it
kept_by_item : (ed : Edition) (header : Key) (l : LogState) (i : Item) → KeptBetween l → KeptBetween (Ends.on_item ed header l i)
kept_by_item ed header l i b =
    record {
      part = Part.on_item ed header b.part i;
      sim = sim_step Inv Inv (λ x. Ends.on_item ed header x i) (λ x. Part.on_item ed header x i) (λ s k. sim_item ed header s i k) l b.part b.sim;
      kept = kept_item ed header b.part i b.kept;
    }

-- so any items
kept_between : (l : LogState) → Between l → KeptBetween l
kept_between l b = subst KeptBetween b.made (foldl_holds KeptBetween (Ends.on_item b.edition b.header) (kept_by_item b.edition b.header) new_log b.items (kept_new b.edition))

-- a line begins
pub in_line_begins : (u : ℕ) (t : Meter) (l : LogState) → Between l → InLine (Log.line_begins u t l)
in_line_begins u t l b =
    let k = kept_between l b in
    record {
      part = Part.line_begins u t k.part;
      sim = sim_step Inv Reading (Log.line_begins u t) (Part.line_begins u t) (sim_begins u t) l k.part k.sim;
      ready = ready_begins u t k.part k.kept.voices_kept k.kept.scopes_kept;
    }

-- each token keeps it
pub in_line_token : (l : LogState) (t : Token) → InLine l → InLine (Log.on_token l t)
in_line_token l t b =
    record {
      part = Part.on_token b.part t;
      sim = sim_step Reading Reading (λ x. Log.on_token x t) (λ x. Part.on_token x t) (λ s k. sim_token s t k) l b.part b.sim;
      ready = ready_token b.part t b.ready;
    }

-- what it says
pub standing : (l : LogState) → InLine l → Standing l
standing l b =
    let s = b.sim in
    let q : Ready (plain s.state) = subst Ready (sym s.plain_is) b.ready in
    subst Standing s.laid_is (standing_open s.state s.state.bars s.holds q)

-- a head at least
pub heads_some : (l : LogState) → InLine l → 0 < length l.heads
heads_some l b =
    let s = standing l b in
    omega (arith, ap length s.heads_are, length-append s.older (s.open_head ∷ []))

-- the place of the voice being written is 0 or in the log
pub last_inside : (l : LogState) → InLine l → last_place l ≤ length l.log
unfolding last_place
last_inside l b = let s = standing l b in (s.places l.line.overlay s.overlay_4).inside

-- and holds a note of that voice
pub last_voice : (l : LogState) → InLine l → (d : ℕ × Note) → 0 < last_place l → (get_or l.log (last_place l - 1) d).0 ≡ l.line.overlay
unfolding last_place
last_voice l b = let s = standing l b in (s.places l.line.overlay s.overlay_4).of_voice_lem

-- AFTER ANY ITEMS a part is between lines
pub between_items : (ed : Edition) (header : Key) (items : List Item) → Between (foldl (Ends.on_item ed header) new_log items)
between_items ed header items = record { edition = ed; header = header; items = items; made = refl }

-- AFTER ANY TOKENS of a line that began so it is in a line
pub in_line_tokens : (u : ℕ) (t : Meter) (ts : List Token) (l : LogState) → Between l → InLine (foldl Log.on_token (Log.line_begins u t l) ts)
in_line_tokens u t ts l b = foldl_holds InLine Log.on_token in_line_token (Log.line_begins u t l) ts (in_line_begins u t l b)
