-- Notes: a note more, a broken rhythm, an empty chord. Both definitions do the same to the notes of the open measure.
use Prim.Native.Nat.{ℕ, zero, suc, ◌<◌}
use mathlib.Core.Path.{◌≡◌, refl, sym, ap, ◌∙◌}
use mathlib.Core.Bool.{Bool, true, false, cond, not}
use mathlib.Core.Option.{Option, none, some}
use mathlib.Core.List.{List, [], ◌∷◌, ◌++◌}
use native.Mathlib.Nat.{not-suc-le-zero}
use native.Mathlib.Omega.{arith}
use lib.Dec.{eqb}
use lib.ListN.{length, get_or}
use Rattle.laws.specs.Lists.{alter_at, on_first}
use Rattle.laws.proofs.Bools.{by_test}
use Rattle.standard.specs.Notes
use Rattle.reader.specs.State
use Rattle.reader.specs.State.{Note, with_beam, with_half, with_run, with_tuplet, voice_in, voice_now, set_voice}
use Rattle.reader.specs.Part
use Rattle.reader.specs.Part.{broken_note, after_half, can_beam, beamed, run_after, beamed_again, grouped, one_fewer, counted_in}
use Rattle.part_layout.specs.Log
use Rattle.part_layout.specs.Log.{Head, with_counts, on_last_head, last_place, at_place, note_at, beamed_new, beamed_before}
use Rattle.part_layout.proofs.Back.{length_back, on_first_same, on_first_agree, get_or_four, alter_four, same_four}
use Rattle.part_layout.proofs.Voices.{voice, last_of, on_voice, first_of, All-on_voice, voice_on_voice, other_on_voice, last_of_on_voice, count_on_voice, at_place_last_of, note_at_last_of, Found, no_note, last_note, found, voice_new, other_new, last_of_new, last_of_other}
use Rattle.part_layout.proofs.Bars.{Bar, BarState, bar_notes, set_bars, head_of, heads_of, log_of, lasts_of, laid, measure_of, measures_of, plain, Reads, Reading, Sim}

-- the last head changed
pub on_last_head_snoc : (f : Head → Head) (hs : List Head) (h : Head) → on_last_head f (hs ++ (h ∷ [])) ≡ hs ++ (f h ∷ [])
unfolding on_last_head
on_last_head_snoc f [] h = refl
on_last_head_snoc f (x ∷ []) h = refl
on_last_head_snoc f (x ∷ y ∷ hs) h = ap (λ (l : List Head). x ∷ l) (on_last_head_snoc f (y ∷ hs) h)

-- BEAMS: a note n behind the others of its voice, where the run has r notes. What it does to the one before it, if it can have a beam
before_yes : (r : ℕ) (n x : Note) → can_beam n ≡ true → with_beam (cond (eqb r 0) Notes.begins Notes.continues) x ≡ beamed_before (suc r) n x
unfolding beamed_before
before_yes r n x e = rw e

-- nothing, if it can have none
before_no : (r : ℕ) (n x : Note) → can_beam n ≡ false → beamed_before (suc r) n x ≡ x
unfolding beamed_before
before_no r n x e = rw e

-- both changes in one list, and apart
beamed_apart : (h : Note → Note) (r : ℕ) (n : Note) (ns : List Note) → on_first h (beamed r n ns) ≡ h (beamed_new r n) ∷ on_first (beamed_before r n) ns
unfolding beamed beamed_new beamed_before
beamed_apart h zero n ns = ap (λ (l : List Note). h n ∷ l) (sym (on_first_same (beamed_before zero n) (λ x. refl) ns))
beamed_apart h (suc r) n ns =
    by_test (can_beam n)
    (λ e. rw (e, beamed) (ap (λ (l : List Note). h (with_beam Notes.ends n) ∷ l) (on_first_agree (with_beam (cond (eqb r 0) Notes.begins Notes.continues)) (beamed_before (suc r) n) (λ x. before_yes r n x e) ns)))
    (λ e. rw (e, beamed) (ap (λ (l : List Note). h n ∷ l) (sym (on_first_same (beamed_before (suc r) n) (λ x. before_no r n x e) ns))))

-- A NOTE MORE
module _ (o : ℕ) (f : Note → Note) (n : Note) (b : Bar) (bs : List Bar) (place : o < 4) where
  -- the open measure with it
  abbrev wider : Bar
  wider = bar_notes ((o, n) ∷ on_voice o f b.notes) b

  -- the log
  more_log : log_of (wider ∷ bs) ≡ at_place (get_or (lasts_of (b ∷ bs)) o 0) f (log_of (b ∷ bs)) ++ ((o, n) ∷ [])
  more_log =
      ap (λ (l : List (ℕ × Note)). l ++ ((o, n) ∷ []))
      (sym (ap (λ (i : ℕ). at_place i f (log_of (b ∷ bs))) (get_or_four (λ v. last_of v (length (log_of bs)) b.notes) o 0 place) ∙ at_place_last_of o f (log_of bs) b.notes))

  -- the counts
  more_counts : alter_at o suc (head_of b).counts ≡ (head_of wider).counts
  more_counts =
      alter_four o suc (λ v. length (voice v b.notes)) (λ v. length (voice v wider.notes)) place
      (sym (ap length (voice_new o n f b.notes) ∙ ap suc (same_length (voice o b.notes))))
      (λ w e. sym (ap length (other_new o w n f b.notes e)))
    where
      same_length : (l : List Note) → length (on_first f l) ≡ length l
      same_length [] = refl
      same_length (x ∷ l) = refl

  -- the heads
  more_heads : heads_of (wider ∷ bs) ≡ on_last_head (λ m. with_counts (alter_at o suc m.counts) m) (heads_of (b ∷ bs))
  more_heads =
      sym (on_last_head_snoc (λ m. with_counts (alter_at o suc m.counts) m) (heads_of bs) (head_of b)
      ∙ ap (λ (c : List ℕ). heads_of bs ++ (with_counts c (head_of b) ∷ [])) more_counts)

  -- the last places
  more_lasts : lasts_of (wider ∷ bs) ≡ alter_at o (λ old. suc (length (log_of (b ∷ bs)))) (lasts_of (b ∷ bs))
  more_lasts =
      let k = length (log_of bs) in
      sym (alter_four o (λ old. suc (length (log_of (b ∷ bs)))) (λ v. last_of v k b.notes) (λ v. last_of v k wider.notes) place
      (ap suc (length_back (log_of bs) b.notes) ∙ sym (last_of_new o k n f b.notes))
      (λ w e. sym (last_of_other o w k n f b.notes e)))

  -- the four lists
  more_voices : (v : List Note) → v ≡ n ∷ on_first f (voice o b.notes) → alter_at o (λ old. v) (measure_of b).voices ≡ (measure_of wider).voices
  more_voices v h =
      alter_four o (λ old. v) (λ w. voice w b.notes) (λ w. voice w wider.notes) place (h ∙ sym (voice_new o n f b.notes))
      (λ w e. sym (other_new o w n f b.notes e))

-- by the measures
append_open : (n : Note) (s : BarState) (bars : List Bar) → Reads s.line.overlay bars → Sim Reading (Log.append n (laid (set_bars bars s))) (Part.append n (plain (set_bars bars s)))
unfolding Log.append Part.append Log.on_open last_place set_voice State.on_open voice_now voice_in
append_open n s [] r = absurd (not-suc-le-zero r.is_open)
append_open n s (b ∷ bs) r =
    let l = s.line in
    let o = l.overlay in
    let g = grouped l.tuplet n in
    let f = beamed_before l.run g in
    let x = after_half l.half (beamed_new l.run g) in
    let place = r.good.place in
    let voice_is : get_or (measure_of b).voices o [] ≡ voice o b.notes = get_or_four (λ w. voice w b.notes) o [] place in
    record {
      state =
          record {
            key = s.key;
            scopes = s.scopes;
            bars = wider o f x b bs place ∷ bs;
            pending = s.pending;
            verses = counted_in o g s.verses;
            line = with_tuplet (one_fewer l.tuplet) (with_half none (with_run (run_after l.run g) l));
          };
      holds =
          record {
            good =
                record {
                  place = place;
                  below = ((place, All-on_voice (λ v. v < 4) o f b.notes r.good.below.0), r.good.below.1);
                  older = r.good.older;
                };
            is_open = omega arith;
          };
      laid_is =
          λ i. record {
            key = s.key;
            scopes = s.scopes;
            log = more_log o f x b bs place i;
            heads = more_heads o f x b bs place i;
            last = more_lasts o f x b bs place i;
            pending = s.pending;
            verses = counted_in o g s.verses;
            line = with_tuplet (one_fewer l.tuplet) (with_half none (with_run (run_after l.run g) l));
          };
      plain_is =
          let e =
          more_voices o f x b bs place (on_first (after_half l.half) (beamed l.run g (get_or (measure_of b).voices o [])))
          (ap (λ (v : List Note). on_first (after_half l.half) (beamed l.run g v)) voice_is ∙ beamed_apart (after_half l.half) l.run g (voice o b.notes))
          in
          λ i. record {
            key = s.key;
            scopes = s.scopes;
            measures = State.with_voices (sym e i) (measure_of b) ∷ measures_of bs;
            pending = s.pending;
            verses = counted_in o g s.verses;
            line = with_tuplet (one_fewer l.tuplet) (with_half none (with_run (run_after l.run g) l));
          };
    }

-- a note, rest or chord
pub sim_append : (n : Note) (s : BarState) → Reading s → Sim Reading (Log.append n (laid s)) (Part.append n (plain s))
sim_append n s r = append_open n s s.bars r

-- THE LAST NOTE CHANGED
module _ (o : ℕ) (f : Note → Note) (b : Bar) (bs : List Bar) (place : o < 4) where
  -- the open measure with it
  abbrev retouched : Bar
  retouched = bar_notes (on_voice o f b.notes) b

  -- the log
  last_log : (i : ℕ) → i ≡ last_of o (length (log_of bs)) b.notes → log_of (retouched ∷ bs) ≡ at_place i f (log_of (b ∷ bs))
  last_log i e = sym (ap (λ (j : ℕ). at_place j f (log_of (b ∷ bs))) e ∙ at_place_last_of o f (log_of bs) b.notes)

  -- the heads stay
  last_heads : heads_of (retouched ∷ bs) ≡ heads_of (b ∷ bs)
  last_heads =
      ap (λ (c : List ℕ). heads_of bs ++ (with_counts c (head_of b) ∷ []))
      (same_four (λ v. length (voice v retouched.notes)) (λ v. length (voice v b.notes)) (λ w. count_on_voice o w f b.notes))

  -- the last places stay
  last_lasts : lasts_of (retouched ∷ bs) ≡ lasts_of (b ∷ bs)
  last_lasts =
      let k = length (log_of bs) in
      same_four (λ v. last_of v k retouched.notes) (λ v. last_of v k b.notes) (λ w. last_of_on_voice o w k f b.notes)

  -- the four lists
  last_voices : (x : Note) (xs : List Note) → x ∷ xs ≡ voice o b.notes → (measure_of retouched).voices ≡ alter_at o (λ old. f x ∷ xs) (measure_of b).voices
  last_voices x xs h =
      sym (alter_four o (λ old. f x ∷ xs) (λ w. voice w b.notes) (λ w. voice w retouched.notes) place
      (ap (on_first f) h ∙ sym (voice_on_voice o f b.notes))
      (λ w e. sym (other_on_voice o w f b.notes e)))

  -- a measure is open, and its notes are in the four voices, as before
  last_reads : Reads o (b ∷ bs) → Reads o (retouched ∷ bs)
  last_reads r =
      record {
        good = record { place = place; below = (All-on_voice (λ v. v < 4) o f b.notes r.good.below.0, r.good.below.1); older = r.good.older };
        is_open = omega arith;
      }

-- a broken rhythm, by the place of the last note and the notes of the voice
broken_found : (up : Bool) (n : ℕ) (s : BarState) (b : Bar) (bs : List Bar) → Reads s.line.overlay (b ∷ bs) → (i : ℕ) (v : List Note)
    → i ≡ last_of s.line.overlay (length (log_of bs)) b.notes → v ≡ voice s.line.overlay b.notes → Found i v
    → Sim Reading (Log.on_broken up n i (laid (set_bars (b ∷ bs) s))) (Part.on_broken up n v (plain (set_bars (b ∷ bs) s)))
unfolding Log.on_broken Part.on_broken set_voice State.on_open
broken_found up n s b bs r i v p q (no_note z e) = rw (z, e) (record { state = set_bars (b ∷ bs) s; holds = r; laid_is = refl; plain_is = refl })
broken_found up n s b bs r i v p q (last_note j x xs z e) =
    let o = s.line.overlay in
    let f = broken_note (record { up = up; times = n }) in
    let l = with_half (some (record { up = not up; times = n })) s.line in
    let place = r.good.place in
    rw (z, e)
    (record {
      state = record { key = s.key; scopes = s.scopes; bars = retouched o f b bs place ∷ bs; pending = s.pending; verses = s.verses; line = l };
      holds = last_reads o f b bs place r;
      laid_is =
          λ k. record {
            key = s.key;
            scopes = s.scopes;
            log = last_log o f b bs place (suc j) (sym z ∙ p) k;
            heads = last_heads o f b bs place k;
            last = last_lasts o f b bs place k;
            pending = s.pending;
            verses = s.verses;
            line = l;
          };
      plain_is =
          λ k. record {
            key = s.key;
            scopes = s.scopes;
            measures = State.with_voices (last_voices o f b bs place x xs (sym e ∙ q) k) (measure_of b) ∷ measures_of bs;
            pending = s.pending;
            verses = s.verses;
            line = l;
          };
    })

-- by the measures
broken_open : (up : Bool) (n : ℕ) (s : BarState) (bars : List Bar) → Reads s.line.overlay bars
    → Sim Reading (Log.on_broken up n (last_place (laid (set_bars bars s))) (laid (set_bars bars s))) (Part.on_broken up n (voice_now (plain (set_bars bars s))) (plain (set_bars bars s)))
unfolding last_place voice_now voice_in
broken_open up n s [] r = absurd (not-suc-le-zero r.is_open)
broken_open up n s (b ∷ bs) r =
    let o = s.line.overlay in
    let k = length (log_of bs) in
    let p : get_or (lasts_of (b ∷ bs)) o 0 ≡ last_of o k b.notes = get_or_four (λ v. last_of v k b.notes) o 0 r.good.place in
    let q : get_or (measure_of b).voices o [] ≡ voice o b.notes = get_or_four (λ w. voice w b.notes) o [] r.good.place in
    broken_found up n s b bs r (get_or (lasts_of (b ∷ bs)) o 0) (get_or (measure_of b).voices o []) p q (rw (p, q) (found o k b.notes))

-- a broken rhythm
pub sim_broken : (up : Bool) (n : ℕ) (s : BarState) → Reading s
    → Sim Reading (Log.on_broken up n (last_place (laid s)) (laid s)) (Part.on_broken up n (voice_now (plain s)) (plain s))
sim_broken up n s r = broken_open up n s s.bars r

-- an empty chord, by the place of the last note, that note, and the notes of the voice
nothing_found : (s : BarState) (b : Bar) (bs : List Bar) → Reads s.line.overlay (b ∷ bs) → (i : ℕ) (m : Option Note) (v : List Note)
    → i ≡ last_of s.line.overlay (length (log_of bs)) b.notes → m ≡ first_of v → v ≡ voice s.line.overlay b.notes
    → Sim Reading (Log.on_nothing i m (laid (set_bars (b ∷ bs) s))) (Part.on_nothing v (plain (set_bars (b ∷ bs) s)))
unfolding Log.on_nothing Part.on_nothing set_voice State.on_open
nothing_found s b bs r i m [] p e q =
    rw e
    (record {
      state = record { key = s.key; scopes = s.scopes; bars = b ∷ bs; pending = s.pending; verses = s.verses; line = with_run 0 s.line };
      holds = r;
      laid_is = refl;
      plain_is = refl;
    })
nothing_found s b bs r i m (x ∷ xs) p e q =
    let o = s.line.overlay in
    let f = beamed_again s.line.run in
    let l = with_run (run_after s.line.run x) s.line in
    let place = r.good.place in
    rw e
    (record {
      state = record { key = s.key; scopes = s.scopes; bars = retouched o f b bs place ∷ bs; pending = s.pending; verses = s.verses; line = l };
      holds = last_reads o f b bs place r;
      laid_is =
          λ k. record {
            key = s.key;
            scopes = s.scopes;
            log = last_log o f b bs place i p k;
            heads = last_heads o f b bs place k;
            last = last_lasts o f b bs place k;
            pending = s.pending;
            verses = s.verses;
            line = l;
          };
      plain_is =
          λ k. record {
            key = s.key;
            scopes = s.scopes;
            measures = State.with_voices (last_voices o f b bs place x xs q k) (measure_of b) ∷ measures_of bs;
            pending = s.pending;
            verses = s.verses;
            line = l;
          };
    })

-- by the measures
nothing_open : (s : BarState) (bars : List Bar) → Reads s.line.overlay bars
    → Sim Reading (Log.on_nothing (last_place (laid (set_bars bars s))) (note_at (last_place (laid (set_bars bars s))) (log_of bars)) (laid (set_bars bars s)))
    (Part.on_nothing (voice_now (plain (set_bars bars s))) (plain (set_bars bars s)))
unfolding last_place voice_now voice_in
nothing_open s [] r = absurd (not-suc-le-zero r.is_open)
nothing_open s (b ∷ bs) r =
    let o = s.line.overlay in
    let k = length (log_of bs) in
    let i = get_or (lasts_of (b ∷ bs)) o 0 in
    let v = get_or (measure_of b).voices o [] in
    let p : i ≡ last_of o k b.notes = get_or_four (λ v. last_of v k b.notes) o 0 r.good.place in
    let q : v ≡ voice o b.notes = get_or_four (λ w. voice w b.notes) o [] r.good.place in
    let e : note_at i (log_of (b ∷ bs)) ≡ first_of v = ap (λ (j : ℕ). note_at j (log_of (b ∷ bs))) p ∙ note_at_last_of o (log_of bs) b.notes ∙ ap first_of (sym q) in
    nothing_found s b bs r i (note_at i (log_of (b ∷ bs))) v p e q

-- an empty chord
pub sim_nothing : (s : BarState) → Reading s
    → Sim Reading (Log.on_nothing (last_place (laid s)) (note_at (last_place (laid s)) (laid s).log) (laid s)) (Part.on_nothing (voice_now (plain s)) (plain s))
sim_nothing s r = nothing_open s s.bars r
