-- Measures: a change of the open one, a barline, the first one of a part. Both definitions do the same.
use Prim.Native.Nat.{ℕ}
use mathlib.Core.Path.{◌≡◌, refl, sym, ap, ◌∙◌}
use mathlib.Core.Bool.{Bool, true, false, cond, ◌&&◌}
use mathlib.Core.List.{List, [], ◌∷◌, ◌++◌}
use native.Mathlib.Nat.{not-suc-le-zero}
use native.Mathlib.Omega.{arith}
use lib.Dec.{eqb}
use lib.ListN.{length}
use Rattle.laws.specs.Lists.{on_first, is_nil}
use Rattle.laws.proofs.Bools.{by_test, eqb_sym}
use Rattle.laws.proofs.Lists.{is_nil_length}
use Rattle.standard.specs.Bars.{Barline, normal, repeat_start, repeat_end, repeat_both, double, final}
use Rattle.standard.specs.Fields.{Meter}
use Rattle.reader.specs.Barlines.{left_of}
use Rattle.reader.specs.State
use Rattle.reader.specs.State.{Note, Measure, Verses, is_empty, new_measure, new_line, with_overlay, no_scopes}
use Rattle.reader.specs.Part
use Rattle.reader.specs.Part.{ended}
use Rattle.part_layout.specs.Log
use Rattle.part_layout.specs.Log.{Head, no_counts, on_last_head, is_empty_head, open_is_empty, new_head, ended_heads, ended_last}
use Rattle.part_layout.specs.Lines.{four}
use Rattle.part_layout.proofs.Back.{back}
use Rattle.part_layout.proofs.Voices.{voice, last_of}
use Rattle.part_layout.proofs.Bars.{Bar, BarState, bar_left, bar_right, new_bar, set_bars, head_of, heads_of, log_of, lasts_of, laid, measure_of, measures_of, plain, Good, Reads, Inv, Reading, Sim}
use Rattle.part_layout.proofs.Writing.{on_last_head_snoc}

-- A CHANGE OF THE OPEN MEASURE but for its notes
module _ (f : Bar → Bar) (h : Head → Head) (m : Measure → Measure) (hf : (b : Bar) → head_of (f b) ≡ h (head_of b)) (mf : (b : Bar) → measure_of (f b) ≡ m (measure_of b))
    (nf : (b : Bar) → (f b).notes ≡ b.notes) where
  -- the log stays
  pub open_log : (bars : List Bar) → log_of (on_first f bars) ≡ log_of bars
  open_log [] = refl
  open_log (b ∷ bs) = ap (back (log_of bs)) (nf b)

  -- the last places stay
  pub open_lasts : (bars : List Bar) → lasts_of (on_first f bars) ≡ lasts_of bars
  open_lasts [] = refl
  open_lasts (b ∷ bs) = ap (λ (n : List (ℕ × Note)). four (λ v. last_of v (length (log_of bs)) n)) (nf b)

  -- the last head is changed
  pub open_heads : (bars : List Bar) → heads_of (on_first f bars) ≡ on_last_head h (heads_of bars)
  unfolding on_last_head
  open_heads [] = refl
  open_heads (b ∷ bs) = ap (λ (x : Head). heads_of bs ++ (x ∷ [])) (hf b) ∙ sym (on_last_head_snoc h (heads_of bs) (head_of b))

  -- the newest measure is changed
  pub open_measures : (bars : List Bar) → measures_of (on_first f bars) ≡ on_first m (measures_of bars)
  open_measures [] = refl
  open_measures (b ∷ bs) = ap (λ (x : Measure). x ∷ measures_of bs) (mf b)

  -- what holds between lines
  pub open_good : (o : ℕ) (bars : List Bar) → Good o bars → Good o (on_first f bars)
  open_good o [] g = record { place = g.place; below = tt; older = tt }
  open_good o (b ∷ bs) g = record { place = g.place; below = (rw (nf b) g.below.0, g.below.1); older = g.older }

  -- and while a line is read
  pub open_reads : (o : ℕ) (bars : List Bar) → Reads o bars → Reads o (on_first f bars)
  open_reads o [] r = absurd (not-suc-le-zero r.is_open)
  open_reads o (b ∷ bs) r = record { good = open_good o (b ∷ bs) r.good; is_open = omega arith }

  -- the state as the code keeps it
  pub open_laid : (s : BarState) → laid (set_bars (on_first f s.bars) s) ≡ Log.on_open h (laid s)
  unfolding Log.on_open
  open_laid s =
      λ i. record {
        key = s.key;
        scopes = s.scopes;
        log = open_log s.bars i;
        heads = open_heads s.bars i;
        last = open_lasts s.bars i;
        pending = s.pending;
        verses = s.verses;
        line = s.line;
      }

  -- the plain one
  pub open_plain : (s : BarState) → plain (set_bars (on_first f s.bars) s) ≡ State.on_open m (plain s)
  unfolding State.on_open
  open_plain s = ap (λ (ms : List Measure). State.set_measures ms (plain s)) (open_measures s.bars)

  -- so between lines
  pub sim_open : (s : BarState) → Inv s → Sim Inv (Log.on_open h (laid s)) (State.on_open m (plain s))
  sim_open s g = record { state = set_bars (on_first f s.bars) s; holds = open_good s.line.overlay s.bars g; laid_is = open_laid s; plain_is = open_plain s }

  -- and while a line is read
  pub sim_open_line : (s : BarState) → Reading s → Sim Reading (Log.on_open h (laid s)) (State.on_open m (plain s))
  sim_open_line s g = record { state = set_bars (on_first f s.bars) s; holds = open_reads s.line.overlay s.bars g; laid_is = open_laid s; plain_is = open_plain s }

-- A MEASURE WITHOUT NOTES
-- no notes of a voice, by their count
nil_count : (v : List Note) → eqb 0 (length v) ≡ is_nil v
nil_count v = eqb_sym 0 (length v) ∙ sym (is_nil_length v)

-- by the four counts, or by the four lists
pub empty_head : (b : Bar) → is_empty_head (head_of b) ≡ is_empty (measure_of b)
empty_head b =
    λ i. nil_count (voice 0 b.notes) i && (nil_count (voice 1 b.notes) i && (nil_count (voice 2 b.notes) i && (nil_count (voice 3 b.notes) i && true)))

-- the last head's
open_snoc : (hs : List Head) (h : Head) → open_is_empty (hs ++ (h ∷ [])) ≡ is_empty_head h
unfolding open_is_empty
open_snoc [] h = refl
open_snoc (x ∷ []) h = refl
open_snoc (x ∷ y ∷ hs) h = open_snoc (y ∷ hs) h

-- BARLINES
-- the left barline set
left_bar : Barline → Bar → Bar
left_bar normal b = b
left_bar repeat_start b = bar_left repeat_start b
left_bar repeat_end b = b
left_bar repeat_both b = bar_left repeat_both b
left_bar double b = bar_left double b
left_bar final b = b

-- as the heads have it
left_head : (l : Barline) (b : Bar) → head_of (left_bar l b) ≡ Log.left_set l (head_of b)
unfolding left_bar Log.left_set
left_head normal b = refl
left_head repeat_start b = refl
left_head repeat_end b = refl
left_head repeat_both b = refl
left_head double b = refl
left_head final b = refl

-- as the plain measures have it
left_measure : (l : Barline) (b : Bar) → measure_of (left_bar l b) ≡ Part.left_set l (measure_of b)
unfolding left_bar Part.left_set
left_measure normal b = refl
left_measure repeat_start b = refl
left_measure repeat_end b = refl
left_measure repeat_both b = refl
left_measure double b = refl
left_measure final b = refl

-- the notes stay
left_notes : (l : Barline) (b : Bar) → (left_bar l b).notes ≡ b.notes
unfolding left_bar
left_notes normal b = refl
left_notes repeat_start b = refl
left_notes repeat_end b = refl
left_notes repeat_both b = refl
left_notes double b = refl
left_notes final b = refl

-- the heads after a barline on a measure without notes
heads_empty : (l : Barline) (opens : Bool) (t : Meter) (hs : List Head) → open_is_empty hs ≡ true → ended_heads l opens t hs ≡ on_last_head (Log.left_set l) hs
unfolding ended_heads
heads_empty l opens t hs e = rw (e, ended_heads)

-- behind notes
heads_full : (l : Barline) (opens : Bool) (t : Meter) (hs : List Head) → open_is_empty hs ≡ false
    → ended_heads l opens t hs ≡ cond opens (on_last_head (Log.with_right l) hs ++ (new_head t (left_of l) ∷ [])) (on_last_head (Log.with_right l) hs)
unfolding ended_heads
heads_full l opens t hs e = rw (e, ended_heads)

-- the last places after a barline on a measure without notes
lasts_empty : (opens : Bool) (hs : List Head) (last : List ℕ) → open_is_empty hs ≡ true → ended_last opens hs last ≡ last
unfolding ended_last
lasts_empty opens hs last e = rw e

-- behind notes
lasts_full : (opens : Bool) (hs : List Head) (last : List ℕ) → open_is_empty hs ≡ false → ended_last opens hs last ≡ cond opens no_counts last
unfolding ended_last
lasts_full opens hs last e = rw e

-- the plain measures after a barline on a measure without notes
ended_empty : (l : Barline) (opens : Bool) (t : Meter) (m : Measure) (ms : List Measure) → is_empty m ≡ true → ended l opens t (m ∷ ms) ≡ Part.left_set l m ∷ ms
unfolding ended
ended_empty l opens t m ms e = rw (e, ended)

-- behind notes
ended_full : (l : Barline) (opens : Bool) (t : Meter) (m : Measure) (ms : List Measure) → is_empty m ≡ false
    → ended l opens t (m ∷ ms) ≡ cond opens (new_measure t (left_of l) ∷ State.with_right l m ∷ ms) (State.with_right l m ∷ ms)
unfolding ended
ended_full l opens t m ms e = rw (e, ended)

module _ (l : Barline) (s : BarState) (b : Bar) (bs : List Bar) where
  -- a barline that leaves these measures
  leaves : (opens : Bool) (bars : List Bar) → log_of bars ≡ log_of (b ∷ bs) → heads_of bars ≡ ended_heads l opens s.line.meter (heads_of (b ∷ bs))
      → lasts_of bars ≡ ended_last opens (heads_of (b ∷ bs)) (lasts_of (b ∷ bs)) → measures_of bars ≡ ended l opens s.line.meter (measures_of (b ∷ bs)) → Reads 0 bars
      → Sim Reading (Log.on_barline l opens (laid (set_bars (b ∷ bs) s))) (Part.on_barline l opens (plain (set_bars (b ∷ bs) s)))
  unfolding Log.on_barline Part.on_barline
  leaves opens bars p q r m h =
      record {
        state = record { key = s.key; scopes = no_scopes; bars = bars; pending = s.pending; verses = s.verses; line = with_overlay 0 s.line };
        holds = h;
        laid_is =
            λ i. record { key = s.key; scopes = no_scopes; log = p i; heads = q i; last = r i; pending = s.pending; verses = s.verses; line = with_overlay 0 s.line };
        plain_is = λ i. record { key = s.key; scopes = no_scopes; measures = m i; pending = s.pending; verses = s.verses; line = with_overlay 0 s.line };
      }

  -- on a measure without notes
  barline_empty : (opens : Bool) → is_empty (measure_of b) ≡ true → Reads s.line.overlay (b ∷ bs)
      → Sim Reading (Log.on_barline l opens (laid (set_bars (b ∷ bs) s))) (Part.on_barline l opens (plain (set_bars (b ∷ bs) s)))
  barline_empty opens e r =
      let he : open_is_empty (heads_of (b ∷ bs)) ≡ true = open_snoc (heads_of bs) (head_of b) ∙ empty_head b ∙ e in
      leaves opens (left_bar l b ∷ bs) (ap (back (log_of bs)) (left_notes l b))
      (ap (λ (x : Head). heads_of bs ++ (x ∷ [])) (left_head l b) ∙ sym (on_last_head_snoc (Log.left_set l) (heads_of bs) (head_of b))
      ∙ sym (heads_empty l opens s.line.meter (heads_of (b ∷ bs)) he))
      (ap (λ (n : List (ℕ × Note)). four (λ v. last_of v (length (log_of bs)) n)) (left_notes l b) ∙ sym (lasts_empty opens (heads_of (b ∷ bs)) (lasts_of (b ∷ bs)) he))
      (ap (λ (x : Measure). x ∷ measures_of bs) (left_measure l b) ∙ sym (ended_empty l opens s.line.meter (measure_of b) (measures_of bs) e))
      (record {
        good = record { place = omega arith; below = (rw (left_notes l b) r.good.below.0, r.good.below.1); older = r.good.older };
        is_open = omega arith;
      })

  -- behind notes
  barline_full : (opens : Bool) → is_empty (measure_of b) ≡ false → Reads s.line.overlay (b ∷ bs)
      → Sim Reading (Log.on_barline l opens (laid (set_bars (b ∷ bs) s))) (Part.on_barline l opens (plain (set_bars (b ∷ bs) s)))
  unfolding new_head new_measure
  barline_full true e r =
      let he : open_is_empty (heads_of (b ∷ bs)) ≡ false = open_snoc (heads_of bs) (head_of b) ∙ empty_head b ∙ e in
      leaves true (new_bar s.line.meter (left_of l) ∷ bar_right l b ∷ bs) refl
      (ap (λ (x : List Head). x ++ (new_head s.line.meter (left_of l) ∷ [])) (sym (on_last_head_snoc (Log.with_right l) (heads_of bs) (head_of b)))
      ∙ sym (heads_full l true s.line.meter (heads_of (b ∷ bs)) he))
      (sym (lasts_full true (heads_of (b ∷ bs)) (lasts_of (b ∷ bs)) he))
      (sym (ended_full l true s.line.meter (measure_of b) (measures_of bs) e))
      (record {
        good = record { place = omega arith; below = (tt, (r.good.below.0, r.good.below.1)); older = (e, r.good.older) };
        is_open = omega arith;
      })
  barline_full false e r =
      let he : open_is_empty (heads_of (b ∷ bs)) ≡ false = open_snoc (heads_of bs) (head_of b) ∙ empty_head b ∙ e in
      leaves false (bar_right l b ∷ bs) refl
      (sym (on_last_head_snoc (Log.with_right l) (heads_of bs) (head_of b)) ∙ sym (heads_full l false s.line.meter (heads_of (b ∷ bs)) he))
      (sym (lasts_full false (heads_of (b ∷ bs)) (lasts_of (b ∷ bs)) he))
      (sym (ended_full l false s.line.meter (measure_of b) (measures_of bs) e))
      (record { good = record { place = omega arith; below = r.good.below; older = r.good.older }; is_open = omega arith })

-- by the measures
barline_open : (l : Barline) (opens : Bool) (s : BarState) (bars : List Bar) → Reads s.line.overlay bars
    → Sim Reading (Log.on_barline l opens (laid (set_bars bars s))) (Part.on_barline l opens (plain (set_bars bars s)))
barline_open l opens s [] r = absurd (not-suc-le-zero r.is_open)
barline_open l opens s (b ∷ bs) r = by_test (is_empty (measure_of b)) (λ e. barline_empty l s b bs opens e r) (λ e. barline_full l s b bs opens e r)

-- a barline
pub sim_barline : (l : Barline) (opens : Bool) (s : BarState) → Reading s → Sim Reading (Log.on_barline l opens (laid s)) (Part.on_barline l opens (plain s))
sim_barline l opens s r = barline_open l opens s s.bars r

-- A LINE BEGINS
-- with a measure open
heads_some : (t : Meter) (hs : List Head) (h : Head) → Log.opened t (hs ++ (h ∷ [])) ≡ hs ++ (h ∷ [])
unfolding Log.opened
heads_some t [] h = refl
heads_some t (x ∷ hs) h = refl

-- by the measures
begins_open : (u : ℕ) (t : Meter) (s : BarState) (bars : List Bar) → Good s.line.overlay bars
    → Sim Reading (Log.line_begins u t (laid (set_bars bars s))) (Part.line_begins u t (plain (set_bars bars s)))
unfolding Log.line_begins Part.line_begins Log.opened Part.opened new_line new_head new_measure
begins_open u t s [] g =
    record {
      state =
          record {
            key = s.key;
            scopes = s.scopes;
            bars = new_bar t normal ∷ [];
            pending = s.pending;
            verses = record { sounded = s.verses.sounded; start = s.verses.sounded; verse = 1; lines = s.verses.lines };
            line = new_line u t;
          };
      holds = record { good = record { place = omega arith; below = (tt, tt); older = tt }; is_open = omega arith };
      laid_is = refl;
      plain_is = refl;
    }
begins_open u t s (b ∷ bs) g =
    let v : Verses = record { sounded = s.verses.sounded; start = s.verses.sounded; verse = 1; lines = s.verses.lines } in
    record {
      state = record { key = s.key; scopes = s.scopes; bars = b ∷ bs; pending = s.pending; verses = v; line = new_line u t };
      holds = record { good = record { place = omega arith; below = g.below; older = g.older }; is_open = omega arith };
      laid_is =
          λ i. record {
            key = s.key;
            scopes = s.scopes;
            log = log_of (b ∷ bs);
            heads = sym (heads_some t (heads_of bs) (head_of b)) i;
            last = lasts_of (b ∷ bs);
            pending = s.pending;
            verses = v;
            line = new_line u t;
          };
      plain_is = refl;
    }

-- any line's beginning
pub sim_begins : (u : ℕ) (t : Meter) (s : BarState) → Inv s → Sim Reading (Log.line_begins u t (laid s)) (Part.line_begins u t (plain s))
sim_begins u t s g = begins_open u t s s.bars g
