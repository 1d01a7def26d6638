-- A PART WITH A MUSIC LINE has a measure: the line opens one, nothing takes the only one away.
use Prim.Native.Nat.{ℕ, suc, ◌≤◌, ◌<◌}
use mathlib.Core.Path.{◌≡◌, refl, sym, ap, ◌∙◌}
use mathlib.Core.Bool.{true, false≢true}
use mathlib.Core.Option.{Option, none, some}
use mathlib.Core.List.{List, [], ◌∷◌, map, reverse}
use native.Mathlib.Omega.{arith}
use lib.ListN.{length, length-map}
use Rattle.laws.specs.Lists.{foldl, any, sum}
use Rattle.laws.proofs.Bools.{by_test}
use Rattle.laws.proofs.Lists.{length_on_first, sum_reverse}
use Rattle.standard.specs.Keys.{Key}
use Rattle.editions.specs.declared.Edition.{Edition}
use Rattle.reader.specs.Tokens.{tokens}
use Rattle.reader.specs.Scan.{Item, voice_declared, reset, key_in_header, key_change, meter_change, lyric_line, music_line, Env}
use Rattle.reader.specs.State.{PartState, Measure, is_empty, on_open, new_part}
use Rattle.reader.specs.Part.{hears, on_lyric, on_key, on_item, on_line, line_begins, dropped, in_order, marked, finished, build, finished_measures}
use Rattle.reader.specs.Voltas.{starts, ends_at, close, closed}
use Rattle.reader.specs.Answer.{is_music, built, measure_count}
use Rattle.reader.proofs.LineLaws.{Kept, kept_item, ready_begins, ready_after}

-- a measure there stays
open_some : (f : Measure → Measure) (s : PartState) → 0 < length s.measures → 0 < length (on_open f s).measures
unfolding on_open
open_some f s h = omega (arith, length_on_first f s.measures, h)

key_some : (header k : Key) (ms : List Measure) (s : PartState) → 0 < length s.measures → 0 < length (on_key header k ms s).measures
unfolding on_key hears
key_some header k [] s h = h
key_some header k (m ∷ ms) s h = open_some _ _ h

-- a music line opens one
line_some : (ed : Edition) (header : Key) (s : PartState) (u : ℕ) (t : ℕ × ℕ) (l : List ℕ) → Kept s → 0 < length (on_item ed header s (music_line u t l)).measures
unfolding on_item on_line
line_some ed header s u t l k = (ready_after (line_begins u t s) (tokens ed 0 l) (ready_begins u t s k.voices_kept k.scopes_kept)).is_open

item_some : (ed : Edition) (header : Key) (s : PartState) (i : Item) → Kept s → 0 < length s.measures → 0 < length (on_item ed header s i).measures
unfolding on_item on_lyric
item_some ed header s (voice_declared b) k h = h
item_some ed header s reset k h = h
item_some ed header s key_in_header k h = h
item_some ed header s (key_change q) k h = key_some header q s.measures s h
item_some ed header s (meter_change t) k h = open_some _ s h
item_some ed header s (lyric_line b t) k h = h
item_some ed header s (music_line u t l) k h = line_some ed header s u t l k

items_some : (ed : Edition) (header : Key) (is : List Item) (s : PartState) → Kept s → 0 < length s.measures → 0 < length (foldl (on_item ed header) s is).measures
items_some ed header [] s k h = h
items_some ed header (i ∷ is) s k h = items_some ed header is (on_item ed header s i) (kept_item ed header s i k) (item_some ed header s i k h)

-- the first music line
music_some : (ed : Edition) (header : Key) (s : PartState) (i : Item) → Kept s → is_music i ≡ true → 0 < length (on_item ed header s i).measures
unfolding is_music
music_some ed header s (voice_declared b) k e = absurd (false≢true e)
music_some ed header s reset k e = absurd (false≢true e)
music_some ed header s key_in_header k e = absurd (false≢true e)
music_some ed header s (key_change q) k e = absurd (false≢true e)
music_some ed header s (meter_change t) k e = absurd (false≢true e)
music_some ed header s (lyric_line b t) k e = absurd (false≢true e)
music_some ed header s (music_line u t l) k e = line_some ed header s u t l k

played_some : (ed : Edition) (header : Key) (is : List Item) (s : PartState) → Kept s → any is_music is ≡ true → 0 < length (foldl (on_item ed header) s is).measures
played_some ed header [] s k e = absurd (false≢true e)
played_some ed header (i ∷ is) s k e =
    by_test (is_music i) (λ m. items_some ed header is (on_item ed header s i) (kept_item ed header s i k) (music_some ed header s i k m))
    (λ m. played_some ed header is (on_item ed header s i) (kept_item ed header s i k) (rw m at e))

-- THE END keeps one
dropped_some : (ms : List Measure) → 0 < length ms → 0 < length (dropped ms)
unfolding dropped
dropped_some [] h = h
dropped_some (m ∷ []) h = h
dropped_some (m ∷ n ∷ ms) h = by_test (is_empty m) (λ e. rw (e, dropped) (dropped_some (n ∷ ms) (omega arith))) (λ e. rw (e, dropped) h)

length_close : (o : Option (List ℕ)) (ms : List Measure) → length (close o ms) ≡ length ms
unfolding close
length_close o [] = refl
length_close none (m ∷ ms) =
    let h : length (close none ms) ≡ length ms = length_close none ms in
    let k : length (close (some m.passes) ms) ≡ length ms = length_close (some m.passes) ms in
    by_test (starts m) (λ e. rw (e, close) (by_test (ends_at m ms) (λ f. rw (f, close) (ap suc h)) (λ f. rw (f, close) (ap suc k)))) (λ e. rw (e, close) (ap suc h))
length_close (some ps) (m ∷ ms) =
    let h : length (close none ms) ≡ length ms = length_close none ms in
    let k : length (close (some ps) ms) ≡ length ms = length_close (some ps) ms in
    by_test (ends_at m ms) (λ f. rw (f, close) (ap suc h)) (λ f. rw (f, close) (ap suc k))

length_marked : (header : Key) (ms : List Measure) → length (marked header ms) ≡ length ms
unfolding marked
length_marked header [] = refl
length_marked header (m ∷ ms) = refl

-- a list in the other order is as long
count_sum : (ms : List Measure) → sum (λ m. 1) ms ≡ length ms
count_sum [] = refl
count_sum (m ∷ ms) = omega (arith, count_sum ms)

length_back : (ms : List Measure) → length (reverse ms) ≡ length ms
length_back ms = sym (count_sum (reverse ms)) ∙ sum_reverse (λ m. 1) ms ∙ count_sum ms

finished_some : (ed : Edition) (header : Key) (s : PartState) → 0 < length s.measures → 0 < length (finished ed header s).measures
unfolding finished finished_measures closed
finished_some ed header s h =
    let d = dropped s.measures in
    omega (
      arith,
      length_marked header (close none (map in_order (reverse d))),
      length_close none (map in_order (reverse d)),
      length-map (reverse d) in_order,
      length_back d,
      dropped_some s.measures h,
    )

-- a part that is played
pub build_some : (ed : Edition) (header : Key) (is : List Item) → any is_music is ≡ true → 0 < length (build ed header is).measures
unfolding build new_part
build_some ed header is e = finished_some ed header (foldl (on_item ed header) new_part is) (played_some ed header is new_part (record { scopes_kept = refl; voices_kept = tt }) e)

pub built_some : (ed : Edition) (e : Env) (is : List Item) → any is_music is ≡ true → 1 ≤ measure_count (built ed e is)
unfolding built measure_count
built_some ed e is m = rw m (build_some ed e.header_key is m)
