-- What each token and item adds to a part, and what the part weighs when it is finished.
use Prim.Native.Nat.{ℕ, zero, suc, ◌+◌, ◌-◌, ◌*◌, ◌≤◌, ◌<◌, zero-le}
use mathlib.Core.Path.{◌≡◌, refl, ap, ◌∙◌}
use mathlib.Core.Bool.{Bool, true, false, cond}
use mathlib.Core.Option.{Option, none, some}
use mathlib.Core.List.{List, [], ◌∷◌, map, reverse, nil≢cons}
use native.Mathlib.Nat.{mul-add, mul-suc, not-suc-le-zero}
use native.Mathlib.Omega.{arith}
use lib.Dec.{eqb}
use lib.ListN.{length, get_or}
use Rattle.laws.specs.Lists.{foldl, all, sum, alter_at, on_first, is_nil}
use Rattle.laws.proofs.Bools.{by_test, and_no_right}
use Rattle.laws.proofs.Lists.{sum_map, sum_put, sum_reverse, sum_same}
use Rattle.editions.specs.declared.Edition.{Edition}
use Rattle.reader.proofs.PartLaws.{length_sounds}
use Rattle.standard.specs.Keys.{Key}
use Rattle.standard.specs.Fields.{Meter}
use Rattle.standard.specs.Bars.{Barline, normal, repeat_start, repeat_end, repeat_both, double, final}
use Rattle.standard.specs.Lengths.{Value}
use Rattle.standard.specs.Pitches.{Accidental, Written}
use Rattle.standard.specs.Notes
use Rattle.standard.specs.Notes.{NoteKind, Behind, pending_after}
use Rattle.reader.specs.Lengths.{Length, value_of}
use Rattle.reader.specs.Pitches.{Scope, scope_by, scope_after, sounds_of, scope_after_all}
use Rattle.reader.specs.Token.{Token, space, overlay, quoted, broken, tuplet, slur, grace_open, grace_close, decoration, barline, volta, unit, meter, key, field, chord, rest, note, nothing, skipped, refused}
use Rattle.reader.specs.Tokens.{tokens}
use Rattle.reader.specs.Barlines.{left_of}
use Rattle.reader.specs.Scan.{Item, voice_declared, reset, key_in_header, key_change, meter_change, lyric_line, music_line}
use Rattle.reader.specs.State.{PartState, Note, Measure, Half, Running, with_beam, with_voices, with_right, with_meter, with_key_mark, with_volta, volta_begins, on_open, is_empty, voice_in, voice_now, set_voice, set_scopes, set_pending, new_measure, new_part, no_scopes}
use Rattle.reader.specs.Voltas.{starts, ends_at, close, closed}
use Rattle.reader.specs.Part.{halved_note, broken_note, on_broken, after_half, can_beam, beamed, beamed_again, on_nothing, grouped, append, rest_note, sound_note, on_sound, left_set, ended, on_barline, hears, on_token, opened, line_begins, on_line, on_lyric, on_key, on_item, dropped, in_order, marked_by, marked, finished, build, finished_measures}
use Rattle.reader.proofs.LineLaws.{Kept, kept_item, ready_begins, ready_after}
use Rattle.bounds.specs.Weights.{Weights, Covered, note_weight, voice_weight, measure_weight, measures_weight, kept_back, scopes_weight, state_weight, mark_weight, written_weight, token_weight, music_bytes}
use Rattle.bounds.proofs.TokenWeights.{line_covered}

module _ (ed : Edition) (p : Weights) where
  -- NOTES: what changes a note leaves its pitches
  broken_weight : (h : Half) (n : Note) → note_weight p (broken_note h n) ≡ note_weight p n
  unfolding broken_note halved_note note_weight
  broken_weight h n =
      by_test h.up (λ e. rw (e, broken_note)) (λ e. rw (e, broken_note) (by_test (eqb n.value 10) (λ f. rw (f, halved_note)) (λ f. rw (f, halved_note))))

  -- the half of a broken rhythm
  half_weight : (h : Option Half) (n : Note) → note_weight p (after_half h n) ≡ note_weight p n
  unfolding after_half
  half_weight none n = refl
  half_weight (some h) n = broken_weight h n

  -- the beam step once more
  again_weight : (r : ℕ) (n : Note) → note_weight p (beamed_again r n) ≡ note_weight p n
  unfolding beamed_again note_weight
  again_weight zero n = by_test (can_beam n) (λ e. rw (e, beamed_again)) (λ e. rw (e, beamed_again))
  again_weight (suc r) n = refl

  -- a tuplet
  group_weight : (t : Option Running) (n : Note) → note_weight p (grouped t n) ≡ note_weight p n
  unfolding grouped note_weight
  group_weight none n = refl
  group_weight (some t) n = refl

  -- the first note of a voice changed
  first_weight_lem : (f : Note → Note) → ((n : Note) → note_weight p (f n) ≡ note_weight p n) → (ns : List Note) → voice_weight p (on_first f ns) ≡ voice_weight p ns
  first_weight_lem f h [] = refl
  first_weight_lem f h (n ∷ ns) = ap (λ (x : ℕ). x + voice_weight p ns) (h n)

  -- a note more
  beamed_weight : (r : ℕ) (n : Note) (ns : List Note) → voice_weight p (beamed r n ns) ≡ note_weight p n + voice_weight p ns
  unfolding beamed note_weight
  beamed_weight zero n ns = refl
  beamed_weight (suc r) n ns =
      by_test (can_beam n)
      (λ e. rw (e, beamed) (ap (λ (x : ℕ). note_weight p n + x) (first_weight_lem (with_beam (cond (eqb r 0) Notes.begins Notes.continues)) (λ m. refl) ns)))
      (λ e. rw (e, beamed))

  -- THE OPEN MEASURE
  -- its voice o with other notes, which weigh d more at most
  voice_weight_lem : (o : ℕ) (v : List Note) (d : ℕ) (m : Measure) → voice_weight p v ≤ voice_weight p (get_or m.voices o []) + d
      → measure_weight p (with_voices (alter_at o (λ old. v) m.voices) m) ≤ measure_weight p m + d
  unfolding measure_weight
  voice_weight_lem o v d m h = omega (arith, sum_put (voice_weight p) o v m.voices [] d h)

  -- a measure with notes in a voice is not empty
  not_empty_lem : (o : ℕ) (vs : List (List Note)) (x : Note) (xs : List Note) → get_or vs o [] ≡ x ∷ xs → all is_nil vs ≡ false
  not_empty_lem o [] x xs e = absurd (nil≢cons e)
  not_empty_lem zero (v ∷ vs) x xs e = rw e refl
  not_empty_lem (suc o) (v ∷ vs) x xs e = and_no_right (is_nil v) (all is_nil vs) (not_empty_lem o vs x xs e)

  -- what is kept back is its weight at most
  back_most : (ms : List Measure) → kept_back p ms ≤ p.kept
  unfolding kept_back
  back_most [] = zero-le
  back_most (m ∷ ms) = by_test (is_empty m) (λ e. rw (e, kept_back) zero-le) (λ e. rw (e, kept_back) (omega arith))

  -- and that weight, where the voice has a note
  back_full : (o : ℕ) (ms : List Measure) (x : Note) (xs : List Note) → voice_in o ms ≡ x ∷ xs → kept_back p ms ≡ p.kept
  unfolding kept_back voice_in
  back_full o [] x xs e = absurd (nil≢cons e)
  back_full o (m ∷ ms) x xs e = rw (not_empty_lem o m.voices x xs e, kept_back)

  -- the measures with their kept back
  abbrev pub open_weight : List Measure → ℕ
  open_weight ms = measures_weight p ms + kept_back p ms

  -- the voice being written with other notes, d heavier at most
  set_weight : (v : List Note) (d : ℕ) (s : PartState) → voice_weight p v ≤ voice_weight p (voice_now s) + d → measures_weight p (set_voice v s).measures ≤ measures_weight p s.measures + d
  unfolding set_voice on_open voice_now voice_in
  set_weight v d s h = at s.line.overlay s.measures h
    where
      at : (o : ℕ) (ms : List Measure) → voice_weight p v ≤ voice_weight p (voice_in o ms) + d → measures_weight p (on_first (λ m. with_voices (alter_at o (λ old. v) m.voices) m) ms) ≤ measures_weight p ms + d
      at o [] h = zero-le
      at o (m ∷ ms) h = omega (arith, voice_weight_lem o v d m h)

  -- a change of the open measure that leaves its voices
  leaves_weight : (f : Measure → Measure) → ((m : Measure) → (f m).voices ≡ m.voices) → (ms : List Measure) → open_weight (on_first f ms) ≡ open_weight ms
  unfolding measure_weight kept_back
  leaves_weight f h [] = refl
  leaves_weight f h (m ∷ ms) = rw (h m)

  -- STEPS: a voice with no note more
  same_weight : (v : List Note) (x : Note) (xs : List Note) (s : PartState) → voice_now s ≡ x ∷ xs → voice_weight p v ≤ voice_weight p (x ∷ xs) → open_weight (set_voice v s).measures ≤ open_weight s.measures
  unfolding voice_now
  same_weight v x xs s e h =
      omega (arith, set_weight v 0 s (rw e (omega arith)), back_most (set_voice v s).measures, back_full s.line.overlay s.measures x xs e)

  -- a voice with one note more
  more_weight : (v : List Note) (d : ℕ) (s : PartState) → voice_weight p v ≤ voice_weight p (voice_now s) + d → open_weight (set_voice v s).measures ≤ open_weight s.measures + d + p.kept
  more_weight v d s h = omega (arith, set_weight v d s h, back_most (set_voice v s).measures)

  broken_step : (up : Bool) (n : ℕ) (v : List Note) (s : PartState) → voice_now s ≡ v → state_weight p (on_broken up n v s) ≤ state_weight p s
  unfolding on_broken state_weight set_voice on_open
  broken_step up n [] s e = omega arith
  broken_step up n (x ∷ xs) s e =
      let h : Half = record { up = up; times = n } in
      omega (arith, same_weight (broken_note h x ∷ xs) x xs s e (omega (arith, broken_weight h x)))

  nothing_step : (v : List Note) (s : PartState) → voice_now s ≡ v → state_weight p (on_nothing v s) ≤ state_weight p s
  unfolding on_nothing state_weight set_voice on_open
  nothing_step [] s e = omega arith
  nothing_step (x ∷ xs) s e =
      let r = s.line.run in
      omega (arith, same_weight (beamed_again r x ∷ xs) x xs s e (omega (arith, again_weight r x)))

  append_step : (n : Note) (s : PartState) → state_weight p (append n s) ≤ state_weight p s + (note_weight p n + p.kept)
  unfolding append state_weight set_voice on_open
  append_step n s =
      let l = s.line in
      let g = grouped l.tuplet n in
      let v = beamed l.run g (voice_now s) in
      omega (arith, more_weight (on_first (after_half l.half) v) (note_weight p n) s (omega (arith, first_weight_lem (after_half l.half) (half_weight l.half) v, beamed_weight l.run g (voice_now s), group_weight l.tuplet n)))

  -- PITCHES AND SCOPES
  -- the accidentals that are written
  abbrev marks_weight : List Written → ℕ
  marks_weight ws = sum (λ (w : Written). mark_weight p w.sign) ws

  by_weight : (sc : Scope) (w : Written) (a : Option Accidental) → p.accidental * length (scope_by sc w a) ≡ p.accidental * length sc + mark_weight p a
  unfolding scope_by mark_weight
  by_weight sc w none = omega arith
  by_weight sc w (some a) = mul-suc p.accidental (length sc)

  scope_weight : (sc : Scope) (ws : List Written) → p.accidental * length (scope_after_all sc ws) ≡ p.accidental * length sc + marks_weight ws
  unfolding scope_after_all scope_after
  scope_weight sc [] = omega arith
  scope_weight sc (w ∷ ws) = omega (arith, scope_weight (scope_by sc w w.sign) ws, by_weight sc w w.sign)

  written_weight_lem : (ws : List Written) → sum (written_weight p) ws ≡ p.pitch * length ws + marks_weight ws
  unfolding written_weight
  written_weight_lem [] = omega arith
  written_weight_lem (w ∷ ws) = omega (arith, written_weight_lem ws, mul-suc p.pitch (length ws))

  sound_step : (ws : List Written) (l : Length) (b : Behind) (s : PartState) → state_weight p (on_sound ws l b s) ≤ state_weight p s + (p.note + p.kept + sum (written_weight p) ws)
  unfolding on_sound state_weight scopes_weight sound_note note_weight
  sound_step ws l b s =
      let o = s.line.overlay in
      let sc = get_or s.scopes o [] in
      let n = sound_note (value_of s.line.unit l) s.pending b (sounds_of s.key sc ws) in
      let t = set_scopes (alter_at o (λ old. scope_after_all sc ws) s.scopes) (set_pending (pending_after s.pending b) s) in
      omega (arith, append_step n t, sum_put (λ (x : Scope). p.accidental * length x) o (scope_after_all sc ws) s.scopes [] (marks_weight ws) (omega (arith, scope_weight sc ws)), written_weight_lem ws, times_same p (length_sounds s.key sc ws))
    where
      times_same : (q : Weights) {a b : ℕ} → a ≡ b → q.pitch * a ≡ q.pitch * b
      times_same q e = ap (λ (x : ℕ). q.pitch * x) e

  rest_note_weight : (k : NoteKind) (w : Value) → note_weight p (rest_note k w) ≡ p.note
  unfolding rest_note note_weight
  rest_note_weight Notes.sounded w = omega arith
  rest_note_weight Notes.rest w = omega arith
  rest_note_weight Notes.invisible_rest w = omega arith
  rest_note_weight Notes.bar_rest w = omega arith
  rest_note_weight Notes.invisible_bar_rest w = omega arith

  -- BARLINES
  left_voices : (b : Barline) (m : Measure) → (left_set b m).voices ≡ m.voices
  unfolding left_set
  left_voices normal m = refl
  left_voices repeat_start m = refl
  left_voices repeat_end m = refl
  left_voices repeat_both m = refl
  left_voices double m = refl
  left_voices final m = refl

  no_scopes_lem : scopes_weight p no_scopes ≡ 0
  unfolding scopes_weight
  no_scopes_lem = omega arith

  -- BEFORE THE FIRST LINE of a part: the weight of the measure that it will open
  unfoldable pub first_weight : List Measure → ℕ
  first_weight [] = p.measure
  first_weight (m ∷ ms) = 0

  open_first : (ms : List Measure) → 0 < length ms → first_weight ms ≡ 0
  unfolding first_weight
  open_first [] h = absurd (not-suc-le-zero h)
  open_first (m ∷ ms) h = refl

  -- a part with its first measure
  abbrev paid_for : PartState → ℕ
  paid_for s = state_weight p s + first_weight s.measures

  -- a change of the open measure leaves it
  first_leaves : (f : Measure → Measure) (ms : List Measure) → first_weight (on_first f ms) ≡ first_weight ms
  unfolding first_weight
  first_leaves f [] = refl
  first_leaves f (m ∷ ms) = refl

  module _ (enough : Covered p) where
    -- a measure that opens is covered by the barline and what the notes before it kept back
    opens_weight : (o : Bool) (b : Barline) (t : Meter) (m : Measure) (ms : List Measure) → is_empty m ≡ false
        → open_weight (cond o (new_measure t (left_of b) ∷ with_right b m ∷ ms) (with_right b m ∷ ms)) ≤ open_weight (m ∷ ms) + p.byte
    unfolding measure_weight kept_back new_measure
    opens_weight true b t m ms e = rw (e, kept_back) (omega (arith, enough.measures))
    opens_weight false b t m ms e = omega arith

    -- any barline
    ended_weight : (b : Barline) (o : Bool) (t : Meter) (ms : List Measure) → open_weight (ended b o t ms) ≤ open_weight ms + p.byte
    unfolding ended
    ended_weight b o t [] = omega arith
    ended_weight b o t (m ∷ ms) =
        by_test (is_empty m) (λ e. rw (e, ended) (omega (arith, leaves_weight (left_set b) (left_voices b) (m ∷ ms)))) (λ e. rw (e, ended) (opens_weight o b t m ms e))

    -- ANY TOKEN
    pub token_step : (s : PartState) (t : Token) → state_weight p (on_token s t) ≤ state_weight p s + token_weight p t
    unfolding on_token on_barline hears on_open state_weight token_weight
    token_step s space = omega arith
    token_step s overlay = omega arith
    token_step s quoted = omega arith
    token_step s (broken up n) = omega (arith, broken_step up n (voice_now s) s refl)
    token_step s (tuplet t) = omega arith
    token_step s slur = omega arith
    token_step s grace_open = omega arith
    token_step s grace_close = omega arith
    token_step s decoration = omega arith
    token_step s (barline b o) = omega (arith, ended_weight b o s.line.meter s.measures, no_scopes_lem)
    token_step s (volta ps) = omega (arith, leaves_weight (with_volta volta_begins ps) (λ m. refl) s.measures)
    token_step s (unit u) = omega arith
    token_step s (meter t) = omega (arith, leaves_weight (with_meter t) (λ m. refl) s.measures)
    token_step s (key k) = omega (arith, leaves_weight (with_key_mark k) (λ m. refl) s.measures, no_scopes_lem)
    token_step s field = omega arith
    token_step s (chord ws l b) = omega (arith, sound_step ws l b s)
    token_step s (rest k l) = omega (arith, append_step (rest_note k (value_of s.line.unit l)) s, rest_note_weight k (value_of s.line.unit l))
    token_step s (note w l b) = omega (arith, sound_step (w ∷ []) l b s)
    token_step s nothing = omega (arith, nothing_step (voice_now s) s refl)
    token_step s skipped = omega arith
    token_step s (refused n) = omega arith

    -- any tokens
    pub tokens_step : (ts : List Token) (s : PartState) → state_weight p (foldl on_token s ts) ≤ state_weight p s + sum (token_weight p) ts
    tokens_step [] s = omega arith
    tokens_step (t ∷ ts) s = omega (arith, token_step s t, tokens_step ts (on_token s t))

    -- A MUSIC LINE: its bytes cover it, but for the part's first measure
    opened_weight : (t : Meter) (ms : List Measure) → open_weight (opened t ms) ≤ open_weight ms + first_weight ms
    unfolding opened measure_weight kept_back new_measure first_weight
    opened_weight t [] = omega arith
    opened_weight t (m ∷ ms) = omega arith

    -- a line begins
    pub begins_step : (u : ℕ) (t : Meter) (s : PartState) → state_weight p (line_begins u t s) ≤ state_weight p s + first_weight s.measures
    unfolding line_begins state_weight
    begins_step u t s = omega (arith, opened_weight t s.measures)

    -- a whole line
    line_step : (u : ℕ) (t : Meter) (l : List ℕ) (s : PartState) → Kept s → paid_for (on_line ed u t l s) ≤ paid_for s + p.byte * length l
    unfolding on_line
    line_step u t l s k =
        let b = line_begins u t s in
        let e = foldl on_token b (tokens ed 0 l) in
        omega (arith, begins_step u t s, tokens_step (tokens ed 0 l) b, line_covered ed p enough l, open_first e.measures (ready_after b (tokens ed 0 l) (ready_begins u t s k.voices_kept k.scopes_kept)).is_open)

    -- A K LINE
    key_step : (header k : Key) (ms : List Measure) (s : PartState) → paid_for (on_key header k ms s) ≤ paid_for s
    unfolding on_key hears on_open state_weight
    key_step header k [] s = omega (arith, no_scopes_lem)
    key_step header k (m ∷ ms) s = omega (arith, leaves_weight (with_key_mark k) (λ m. refl) s.measures, first_leaves (with_key_mark k) s.measures, no_scopes_lem)

    -- ANY ITEM
    pub item_step : (header : Key) (s : PartState) (i : Item) → Kept s → paid_for (on_item ed header s i) ≤ paid_for s + p.byte * music_bytes i
    unfolding on_item on_lyric on_open state_weight music_bytes
    item_step header s (voice_declared b) k = omega arith
    item_step header s reset k = omega arith
    item_step header s key_in_header k = omega arith
    item_step header s (key_change q) k = omega (arith, key_step header q s.measures s)
    item_step header s (meter_change t) k = omega (arith, leaves_weight (with_meter t) (λ m. refl) s.measures, first_leaves (with_meter t) s.measures)
    item_step header s (lyric_line b t) k = omega arith
    item_step header s (music_line u t l) k = line_step u t l s k

    -- any items
    items_step : (header : Key) (is : List Item) (s : PartState) → Kept s → paid_for (foldl (on_item ed header) s is) ≤ paid_for s + p.byte * sum music_bytes is
    items_step header [] s k = omega arith
    items_step header (i ∷ is) s k =
        omega (arith, item_step header s i k, items_step header is (on_item ed header s i) (kept_item ed header s i k), mul-add p.byte (music_bytes i) (sum music_bytes is))

    -- a part while it is read, with its first measure
    pub items_covered : (header : Key) (is : List Item) → paid_for (foldl (on_item ed header) new_part is) ≤ p.measure + p.byte * sum music_bytes is
    unfolding new_part state_weight kept_back scopes_weight first_weight
    items_covered header is = omega (arith, items_step header is new_part (record { scopes_kept = refl; voices_kept = tt }))

    -- a part while it is read, after any of its items
    pub reading_weight : (header : Key) (is : List Item) → state_weight p (foldl (on_item ed header) new_part is) ≤ p.measure + p.byte * sum music_bytes is
    reading_weight header is = omega (arith, items_covered header is)

  -- THE END OF A PART adds nothing
  dropped_weight : (ms : List Measure) → measures_weight p (dropped ms) ≤ measures_weight p ms
  unfolding dropped
  dropped_weight [] = zero-le
  dropped_weight (m ∷ []) = omega arith
  dropped_weight (m ∷ n ∷ ms) = by_test (is_empty m) (λ e. rw (e, dropped) (omega (arith, dropped_weight (n ∷ ms)))) (λ e. rw (e, dropped) (omega arith))

  order_weight : (m : Measure) → measure_weight p (in_order m) ≡ measure_weight p m
  unfolding in_order measure_weight
  order_weight m = ap (λ (x : ℕ). p.measure + x) (sum_map reverse (voice_weight p) m.voices ∙ sum_same _ _ (λ ns. sum_reverse (note_weight p) ns) m.voices)

  close_weight : (o : Option (List ℕ)) (ms : List Measure) → measures_weight p (close o ms) ≡ measures_weight p ms
  unfolding close measure_weight
  close_weight o [] = refl
  close_weight none (m ∷ ms) =
      by_test (starts m)
      (λ e. rw (e, close)
      (by_test (ends_at m ms) (λ f. rw (f, close) (omega (arith, close_weight none ms))) (λ f. rw (f, close) (omega (arith, close_weight (some m.passes) ms)))))
      (λ e. rw (e, close) (omega (arith, close_weight none ms)))
  close_weight (some ps) (m ∷ ms) =
      by_test (ends_at m ms) (λ f. rw (f, close) (omega (arith, close_weight none ms))) (λ f. rw (f, close) (omega (arith, close_weight (some ps) ms)))

  mark_weight_lem : (h : Key) (m : Measure) (k : Option Key) → measure_weight p (marked_by h m k) ≡ measure_weight p m
  unfolding marked_by measure_weight
  mark_weight_lem h m none = refl
  mark_weight_lem h m (some k) = refl

  marked_weight : (h : Key) (ms : List Measure) → measures_weight p (marked h ms) ≡ measures_weight p ms
  unfolding marked
  marked_weight h [] = refl
  marked_weight h (m ∷ ms) = ap (λ (x : ℕ). x + measures_weight p ms) (mark_weight_lem h m m.key)

  -- THE MEASURES OF A FINISHED PART: its first, and what its lines' bytes cover
  pub part_weight : Covered p → (header : Key) (is : List Item) → measures_weight p (build ed header is).measures ≤ p.measure + p.byte * sum music_bytes is
  unfolding build finished finished_measures closed state_weight
  part_weight enough header is =
      let s = foldl (on_item ed header) new_part is in
      let r = reverse (dropped s.measures) in
      omega (arith, reading_weight enough header is, marked_weight header (close none (map in_order r)), close_weight none (map in_order r), sum_map in_order (measure_weight p) r, sum_same (λ m. measure_weight p (in_order m)) (measure_weight p) order_weight r, sum_reverse (measure_weight p) (dropped s.measures), dropped_weight s.measures)
