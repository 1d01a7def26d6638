-- THE NOTES THAT THE TALLY LEAVES OUT ARE THOSE THAT TAKE A TIE: in every part as many as its tokens say (`left-out-is`), since a note or chord that is read while a tie is pending
-- bears the tie end flag, and nothing else changes that flag. So what a V: line does to them is told from the tokens alone. Assumes nothing.
use Prim.Native.Nat.{ℕ, zero, suc, ◌+◌, ◌<◌}
use mathlib.Core.Path.{◌≡◌, refl, sym, ap, ◌∙◌}
use mathlib.Core.Bool.{Bool, true, false, cond, ◌&&◌, false≢true}
use mathlib.Core.Option.{none}
use mathlib.Core.List.{List, [], ◌∷◌, map, reverse}
use native.Mathlib.Nat.{not-suc-le-zero, zero-add}
use native.Mathlib.Omega.{arith}
use lib.Dec.{eqb}
use lib.ListN.{length}
use Rattle.laws.specs.Lists.{foldl, all, sum, alter_at, on_first, is_nil}
use Rattle.laws.proofs.Bools.{by_test}
use Rattle.laws.proofs.Lists.{foldl_view, length_filter, sum_append, sum_map, sum_put_more, sum_reverse, sum_same}
use Rattle.standard.specs.Keys.{Key}
use Rattle.standard.specs.Fields.{Meter}
use Rattle.standard.specs.Lengths.{Value}
use Rattle.standard.specs.Pitches.{Written}
use Rattle.standard.specs.Bars.{Barline}
use Rattle.standard.specs.Notes as notes
use Rattle.standard.specs.Notes.{NoteKind, is_sounded, Behind, flags_of, pending_after, slur_opens, grace_opens, grace_closes}
use Rattle.editions.specs.declared.Edition.{Edition}
use Rattle.reader.specs.Lengths.{Length, value_of}
use Rattle.reader.specs.Token.{Token, space, overlay, quoted, broken, tuplet, slur, grace_open, grace_close, decoration, barline, volta, unit, meter, key, field, chord, rest, note, nothing, skipped, refused}
use Rattle.reader.specs.Tokens.{tokens}
use Rattle.reader.specs.Barlines.{left_of}
use Rattle.reader.specs.Scan.{Item, voice_declared, reset, key_in_header, key_change, meter_change, lyric_line, music_line}
use Rattle.reader.specs.State.{Note, volta_begins, Measure, PartState, with_beam, with_voices, with_right, with_meter, with_key_mark, with_volta, on_open, is_empty, voice_in, voice_now, set_voice, new_measure, new_part}
use Rattle.reader.specs.Voltas.{close, closed}
use Rattle.reader.specs.Part.{Part, broken_note, on_broken, after_half, can_beam, beamed, beamed_again, on_nothing, grouped, append, rest_note, sound_note, on_sound, left_set, ended, on_barline, hears, on_token, opened, line_begins, on_line, on_lyric, on_key, on_item, dropped, in_order, marked, finished_measures, finished, build}
use Rattle.reader.specs.Records.{tagged, by_voice, all_notes, notes_of}
use Rattle.reader.specs.Answer.{is_music}
use Rattle.reader.specs.Tally.{is_held, left_out}
use Rattle.reader.proofs.Sizes.{Fours}
use Rattle.reader.proofs.LineLaws as lines
use Rattle.reader.proofs.LineLaws.{Ready, ready_token, ready_begins, kept_item}
use Rattle.promises.specs.Ties.{tie_behind, takes_tie, ties_taken, tokens_of, tie_after, tie_pending, held_by}
use Rattle.promises.proofs.NoteLaws.{Kept, broken_kept, half_kept, again_kept, grouped_kept, left_voices, voices_of, close_voices, marked_voices}

-- HELD NOTES, of a voice, of a measure's voices, of measures
abbrev one : Note → ℕ
one n = cond (is_held n) 1 0

abbrev in_voice : List Note → ℕ
in_voice ns = sum one ns

abbrev in_voices : List (List Note) → ℕ
in_voices vs = sum in_voice vs

abbrev held : List Measure → ℕ
held ms = sum (λ (m : Measure). in_voices m.voices) ms

-- a note whose kind and flags stay
one_kept : (f : Note → Note) → Kept f → (x : Note) → one (f x) ≡ one x
unfolding is_held
one_kept f k x = λ i. cond (is_sounded ((k x).0 i) && ((k x).1 i).tie_end) 1 0

first_held : (f : Note → Note) → Kept f → (xs : List Note) → in_voice (on_first f xs) ≡ in_voice xs
first_held f k [] = refl
first_held f k (x ∷ xs) = ap (λ (n : ℕ). n + in_voice xs) (one_kept f k x)

beamed_held : (r : ℕ) (n : Note) (ns : List Note) → in_voice (beamed r n ns) ≡ one n + in_voice ns
unfolding beamed is_held
beamed_held zero n ns = refl
beamed_held (suc r) n ns =
    by_test (can_beam n) (λ e. rw (e, beamed) (ap (λ (k : ℕ). one n + k) (first_held (with_beam (cond (eqb r 0) notes.begins notes.continues)) (λ x. (refl, refl)) ns))) (λ e. rw (e, beamed))

-- THE OPEN MEASURE, with a voice to write
abbrev Room : PartState → Type 0
Room s = (0 < length s.measures) × ((s.line.overlay < 4) × Fours s.measures)

room : (s : PartState) → Ready s → Room s
room s r = (r.is_open, (r.place, r.voices_4))

-- that voice with other notes, d more of them held
set_held : (v : List Note) (d : ℕ) (s : PartState) → Room s → in_voice v ≡ in_voice (voice_now s) + d → held (set_voice v s).measures ≡ held s.measures + d
unfolding set_voice on_open voice_now voice_in
set_held v d s (h, (k, q)) e = at s.line.overlay s.measures h k q e
  where
    at : (o : ℕ) (ms : List Measure) → 0 < length ms → o < 4 → Fours ms → in_voice v ≡ in_voice (voice_in o ms) + d → held (on_first (λ m. with_voices (alter_at o (λ old. v) m.voices) m) ms) ≡ held ms + d
    at o [] h k q e = absurd (not-suc-le-zero h)
    at o (m ∷ ms) h k q e = omega (arith, sum_put_more in_voice o v m.voices [] d (omega (arith, k, q.0)) e)

-- its last note changed
last_held : (f : Note → Note) → Kept f → (x : Note) (xs : List Note) (s : PartState) → voice_now s ≡ x ∷ xs → Room s → held (set_voice (f x ∷ xs) s).measures ≡ held s.measures
last_held f k x xs s e h = set_held (f x ∷ xs) 0 s h (omega (arith, one_kept f k x, ap in_voice e)) ∙ omega arith

-- a note more
append_held : (n : Note) (s : PartState) → Room s → held (append n s).measures ≡ held s.measures + one n
unfolding append set_voice on_open
append_held n s h =
    let l = s.line in
    let g = grouped l.tuplet n in
    let v = beamed l.run g (voice_now s) in
    set_held (on_first (after_half l.half) v) (one n) s h
    (omega (arith, first_held (after_half l.half) (half_kept l.half) v, beamed_held l.run g (voice_now s), one_kept (grouped l.tuplet) (grouped_kept l.tuplet) n))

-- a note or chord takes the tie that is pending
sound_held : (ws : List Written) (l : Length) (b : Behind) (s : PartState) → Room s → held (on_sound ws l b s).measures ≡ held s.measures + cond s.pending.tie 1 0
unfolding on_sound sound_note is_held is_sounded flags_of
sound_held ws l b s h = append_held _ _ h

rest_held : (k : NoteKind) (w : Value) → one (rest_note k w) ≡ 0
unfolding rest_note is_held
rest_held notes.sounded w = by_test (is_sounded notes.sounded) (λ e. rw e) (λ e. rw e)
rest_held notes.rest w = by_test (is_sounded notes.rest) (λ e. rw e) (λ e. rw e)
rest_held notes.invisible_rest w = by_test (is_sounded notes.invisible_rest) (λ e. rw e) (λ e. rw e)
rest_held notes.bar_rest w = by_test (is_sounded notes.bar_rest) (λ e. rw e) (λ e. rw e)
rest_held notes.invisible_bar_rest w = by_test (is_sounded notes.invisible_bar_rest) (λ e. rw e) (λ e. rw e)

broken_held : (up : Bool) (n : ℕ) (v : List Note) (s : PartState) → voice_now s ≡ v → Room s → held (on_broken up n v s).measures ≡ held s.measures
unfolding on_broken set_voice on_open
broken_held up n [] s e h = refl
broken_held up n (x ∷ xs) s e h = last_held (broken_note (record { up = up; times = n })) (broken_kept _) x xs s e h

nothing_held : (v : List Note) (s : PartState) → voice_now s ≡ v → Room s → held (on_nothing v s).measures ≡ held s.measures
unfolding on_nothing set_voice on_open
nothing_held [] s e h = refl
nothing_held (x ∷ xs) s e h = last_held (beamed_again s.line.run) (again_kept _) x xs s e h

-- a change of the open measure that leaves its notes
open_held : (f : Measure → Measure) → ((m : Measure) → (f m).voices ≡ m.voices) → (ms : List Measure) → held (on_first f ms) ≡ held ms
open_held f k [] = refl
open_held f k (m ∷ ms) = ap (λ (vs : List (List Note)). in_voices vs + held ms) (k m)

ended_held : (b : Barline) (o : Bool) (t : Meter) (ms : List Measure) → held (ended b o t ms) ≡ held ms
unfolding ended new_measure
ended_held b o t [] = refl
ended_held b o t (m ∷ ms) = by_test (is_empty m) (λ e. rw (e, ended) (open_held (left_set b) (left_voices b) (m ∷ ms))) (λ e. rw (e, ended) (go o))
  where
    go : (o : Bool) → held (cond o (new_measure t (left_of b) ∷ with_right b m ∷ ms) (with_right b m ∷ ms)) ≡ held (m ∷ ms)
    go true = zero-add _
    go false = refl

-- ANY TOKEN
token_held : (s : PartState) (t : Token) → Ready s → held (on_token s t).measures ≡ held s.measures + takes_tie s.pending.tie t
unfolding on_token on_barline hears on_open
token_held s space r = omega arith
token_held s overlay r = omega arith
token_held s quoted r = omega arith
token_held s (broken up n) r = omega (arith, broken_held up n (voice_now s) s refl (room s r))
token_held s (tuplet t) r = omega arith
token_held s slur r = omega arith
token_held s grace_open r = omega arith
token_held s grace_close r = omega arith
token_held s decoration r = omega arith
token_held s (barline b o) r = omega (arith, ended_held b o s.line.meter s.measures)
token_held s (volta ps) r = omega (arith, open_held (with_volta volta_begins ps) (λ m. refl) s.measures)
token_held s (unit u) r = omega arith
token_held s (meter t) r = omega (arith, open_held (with_meter t) (λ m. refl) s.measures)
token_held s (key k) r = omega (arith, open_held (with_key_mark k) (λ m. refl) s.measures)
token_held s field r = omega arith
token_held s (chord ws l b) r = sound_held ws l b s (room s r)
token_held s (rest k l) r = omega (arith, append_held (rest_note k (value_of s.line.unit l)) s (room s r), rest_held k (value_of s.line.unit l))
token_held s (note w l b) r = sound_held (w ∷ []) l b s (room s r)
token_held s nothing r = omega (arith, nothing_held (voice_now s) s refl (room s r))
token_held s skipped r = omega arith
token_held s (refused n) r = omega arith

-- the tie that is pending behind it
append_pending : (n : Note) (s : PartState) → (append n s).pending.tie ≡ s.pending.tie
unfolding append set_voice on_open
append_pending n s = refl

broken_pending : (up : Bool) (n : ℕ) (v : List Note) (s : PartState) → (on_broken up n v s).pending.tie ≡ s.pending.tie
unfolding on_broken set_voice on_open
broken_pending up n [] s = refl
broken_pending up n (x ∷ xs) s = refl

nothing_pending_lem : (v : List Note) (s : PartState) → (on_nothing v s).pending.tie ≡ s.pending.tie
unfolding on_nothing set_voice on_open
nothing_pending_lem [] s = refl
nothing_pending_lem (x ∷ xs) s = refl

token_pending : (s : PartState) (t : Token) → (on_token s t).pending.tie ≡ tie_behind s.pending.tie t
unfolding on_token on_barline hears on_open on_sound slur_opens grace_opens grace_closes pending_after
token_pending s space = refl
token_pending s overlay = refl
token_pending s quoted = refl
token_pending s (broken up n) = broken_pending up n (voice_now s) s
token_pending s (tuplet t) = refl
token_pending s slur = refl
token_pending s grace_open = refl
token_pending s grace_close = refl
token_pending s decoration = refl
token_pending s (barline b o) = refl
token_pending s (volta ps) = refl
token_pending s (unit u) = refl
token_pending s (meter t) = refl
token_pending s (key k) = refl
token_pending s field = refl
token_pending s (chord ws l b) = append_pending _ _
token_pending s (rest k l) = append_pending _ _
token_pending s (note w l b) = append_pending _ _
token_pending s nothing = nothing_pending_lem (voice_now s) s
token_pending s skipped = refl
token_pending s (refused n) = refl

-- ANY TOKENS
tokens_held : (ts : List Token) (s : PartState) → Ready s → held (foldl on_token s ts).measures ≡ held s.measures + ties_taken s.pending.tie ts
tokens_held [] s r = omega arith
tokens_held (t ∷ ts) s r =
    omega (arith, tokens_held ts (on_token s t) (ready_token s t r), token_held s t r, ap (λ (b : Bool). ties_taken b ts) (token_pending s t))

tokens_pending : (ts : List Token) (s : PartState) → (foldl on_token s ts).pending.tie ≡ foldl tie_behind s.pending.tie ts
tokens_pending ts s = foldl_view (λ (s : PartState). s.pending.tie) on_token tie_behind token_pending s ts

-- A MUSIC LINE
opened_held : (t : Meter) (ms : List Measure) → held (opened t ms) ≡ held ms
unfolding opened new_measure
opened_held t [] = refl
opened_held t (m ∷ ms) = refl

line_held : (ed : Edition) (u : ℕ) (t : Meter) (l : List ℕ) (s : PartState) → lines.Kept s → held (on_line ed u t l s).measures ≡ held s.measures + ties_taken s.pending.tie (tokens ed 0 l)
unfolding on_line line_begins
line_held ed u t l s k = tokens_held (tokens ed 0 l) (line_begins u t s) (ready_begins u t s k.voices_kept k.scopes_kept) ∙ ap (λ (n : ℕ). n + ties_taken s.pending.tie (tokens ed 0 l)) (opened_held t s.measures)

line_pending : (ed : Edition) (u : ℕ) (t : Meter) (l : List ℕ) (s : PartState) → (on_line ed u t l s).pending.tie ≡ foldl tie_behind s.pending.tie (tokens ed 0 l)
unfolding on_line line_begins
line_pending ed u t l s = tokens_pending (tokens ed 0 l) (line_begins u t s)

-- ANY ITEM
key_held : (h k : Key) (ms : List Measure) (s : PartState) → held (on_key h k ms s).measures ≡ held s.measures
unfolding on_key hears on_open
key_held h k [] s = refl
key_held h k (m ∷ ms) s = open_held (with_key_mark k) (λ m. refl) s.measures

key_pending : (h k : Key) (ms : List Measure) (s : PartState) → (on_key h k ms s).pending.tie ≡ s.pending.tie
unfolding on_key hears on_open
key_pending h k [] s = refl
key_pending h k (m ∷ ms) s = refl

item_held : (ed : Edition) (h : Key) (s : PartState) (i : Item) → lines.Kept s → held (on_item ed h s i).measures ≡ held s.measures + ties_taken s.pending.tie (tokens_of ed i)
unfolding on_item on_lyric on_open
item_held ed h s (voice_declared b) k = omega arith
item_held ed h s reset k = omega arith
item_held ed h s key_in_header k = omega arith
item_held ed h s (key_change q) k = omega (arith, key_held h q s.measures s)
item_held ed h s (meter_change t) k = omega (arith, open_held (with_meter t) (λ m. refl) s.measures)
item_held ed h s (lyric_line b t) k = omega arith
item_held ed h s (music_line u t l) k = line_held ed u t l s k

item_pending : (ed : Edition) (h : Key) (s : PartState) (i : Item) → (on_item ed h s i).pending.tie ≡ tie_after ed s.pending.tie i
unfolding on_item on_lyric on_open
item_pending ed h s (voice_declared b) = refl
item_pending ed h s reset = refl
item_pending ed h s key_in_header = refl
item_pending ed h s (key_change q) = key_pending h q s.measures s
item_pending ed h s (meter_change t) = refl
item_pending ed h s (lyric_line b t) = refl
item_pending ed h s (music_line u t l) = line_pending ed u t l s

items_held : (ed : Edition) (h : Key) (is : List Item) (s : PartState) → lines.Kept s → held (foldl (on_item ed h) s is).measures ≡ held s.measures + held_by ed s.pending.tie is
items_held ed h [] s k = omega arith
items_held ed h (i ∷ is) s k =
    omega (arith, items_held ed h is (on_item ed h s i) (kept_item ed h s i k), item_held ed h s i k, ap (λ (b : Bool). held_by ed b is) (item_pending ed h s i))

-- a tie is pending by its tokens just where the part has one pending
pub pending_is : (ed : Edition) (h : Key) (is : List Item) → (foldl (on_item ed h) new_part is).pending.tie ≡ tie_pending ed is
unfolding new_part
pending_is ed h is = foldl_view (λ (s : PartState). s.pending.tie) (on_item ed h) (tie_after ed) (item_pending ed h) new_part is

-- THE END OF A PART
empty_held : (vs : List (List Note)) → all is_nil vs ≡ true → in_voices vs ≡ 0
empty_held [] h = refl
empty_held ([] ∷ vs) h = zero-add _ ∙ empty_held vs h
empty_held ((x ∷ xs) ∷ vs) h = absurd (false≢true h)

dropped_held : (ms : List Measure) → held (dropped ms) ≡ held ms
unfolding dropped
dropped_held [] = refl
dropped_held (m ∷ []) = refl
dropped_held (m ∷ n ∷ ms) = by_test (is_empty m) (λ e. rw (e, dropped) (omega (arith, dropped_held (n ∷ ms), empty_held m.voices e))) (λ e. rw (e, dropped))

order_held : (m : Measure) → in_voices (in_order m).voices ≡ in_voices m.voices
unfolding in_order
order_held m = sum_map reverse in_voice m.voices ∙ sum_same _ _ (λ (ns : List Note). sum_reverse one ns) m.voices

-- by the voices alone
by_voices : (ms : List Measure) → held ms ≡ sum in_voices (voices_of ms)
by_voices ms = sym (sum_map (λ (m : Measure). m.voices) in_voices ms)

finished_held : (h : Key) (s : PartState) → held (finished_measures h s) ≡ held s.measures
unfolding finished_measures closed
finished_held h s =
    let r = reverse (dropped s.measures) in
    by_voices (marked h (close none (map in_order r)))
    ∙ ap (sum in_voices) (marked_voices h (close none (map in_order r)) ∙ close_voices none (map in_order r))
    ∙ sym (by_voices (map in_order r))
    ∙ sum_map in_order (λ (m : Measure). in_voices m.voices) r
    ∙ sum_same _ _ order_held r
    ∙ sum_reverse (λ (m : Measure). in_voices m.voices) (dropped s.measures)
    ∙ dropped_held s.measures

-- counted in the part's notes
abbrev one_of : ℕ × Note → ℕ
one_of x = one x.1

tagged_held : (v : ℕ) (ns : List Note) → sum one_of (tagged v ns) ≡ in_voice ns
unfolding tagged
tagged_held v ns = sum_map (λ (n : Note). (v, n)) one_of ns

voices_held : (v : ℕ) (vs : List (List Note)) → sum one_of (by_voice v vs) ≡ in_voices vs
unfolding by_voice
voices_held v [] = refl
voices_held v (ns ∷ vs) = sum_append one_of (tagged v ns) (by_voice (suc v) vs) ∙ (λ i. tagged_held v ns i + voices_held (suc v) vs i)

notes_held : (ms : List Measure) → sum one_of (all_notes ms) ≡ held ms
unfolding all_notes
notes_held [] = refl
notes_held (m ∷ ms) = sum_append one_of (by_voice 0 m.voices) (all_notes ms) ∙ (λ i. voices_held 0 m.voices i + notes_held ms i)

part_held : (p : Part) → left_out p ≡ held p.measures
unfolding left_out notes_of
part_held p = length_filter (λ (x : ℕ × Note). is_held x.1) (all_notes p.measures) ∙ notes_held p.measures

-- THE NOTES LEFT OUT ARE THOSE THAT TAKE A TIE
build_held : (ed : Edition) (h : Key) (is : List Item) → left_out (build ed h is) ≡ held_by ed false is
unfolding build finished new_part
build_held ed h is =
    let s = foldl (on_item ed h) new_part is in
    part_held (finished ed h s) ∙ finished_held h s ∙ items_held ed h is new_part (record { scopes_kept = refl; voices_kept = tt }) ∙ omega arith

-- a part without music has none
mute_tie : (ed : Edition) (t : Bool) (i : Item) → is_music i ≡ false → tokens_of ed i ≡ []
unfolding is_music
mute_tie ed t (voice_declared b) h = refl
mute_tie ed t reset h = refl
mute_tie ed t key_in_header h = refl
mute_tie ed t (key_change k) h = refl
mute_tie ed t (meter_change m) h = refl
mute_tie ed t (lyric_line b x) h = refl
mute_tie ed t (music_line u m l) h = absurd (false≢true (sym h))
