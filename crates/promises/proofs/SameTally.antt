-- A V: LINE FOR THE VOICE BEING READ COSTS NOTHING: it ends a pending tie, slur start and grace brace, so it changes notes' flags, and nothing else of a part: not its measures, its notes, their kinds or, in the
-- first edition, its syllables. So a voice's blocks may be joined by leaving out the second V: line, and the tally of the part stays. In the second edition, where a grace note takes no syllable, the tally
-- stays but for its syllables (ArrangementExample has the text).
use Prim.Native.Nat.{ℕ, zero, suc, ◌≤◌, max}
use mathlib.Core.Path.{◌≡◌, refl, sym, ap, subst, ◌∙◌}
use mathlib.Core.Bool.{Bool, true, false, cond, not, ◌||◌, false≢true}
use mathlib.Core.Option.{Option, none, some}
use mathlib.Core.List.{List, [], ◌∷◌, ◌++◌, map, reverse, reverse_aux}
use native.Mathlib.Omega.{arith}
use lib.Dec.{eqb, leb, ltb}
use borrow.Author.Tests.{ltb-true, lt-ltb}
use lib.ListN.{length, get_or, length-map}
use Rattle.laws.specs.Lists.{foldl, all, is_nil, alter_at, on_first, filter, any, elem, index_of}
use Rattle.laws.proofs.Bools.{by_test}
use Rattle.laws.proofs.Lists.{foldl_append, map_append}
use Rattle.standard.specs.Keys.{Key}
use Rattle.standard.specs.Fields.{Meter}
use Rattle.standard.specs.Lengths.{Value}
use Rattle.standard.specs.Pitches.{Written}
use Rattle.standard.specs.Bars.{Barline, normal, repeat_start, repeat_end, repeat_both, double, final}
use Rattle.standard.specs.Notes as notes
use Rattle.standard.specs.Notes.{NoteKind, is_sounded, Behind, Pending, nothing_pending}
use Rattle.editions.specs.declared.Edition.{Edition}
use Rattle.editions.specs.declared.Edition.TheVariants.{First}
use Rattle.reader.specs.Lengths.{Length, value_of}
use Rattle.reader.specs.Pitches.{sounds_of, scope_after_all}
use Rattle.reader.specs.Token.{Token, space, overlay, quoted, broken, tuplet, slur, grace_open, grace_close, decoration, barline, volta, unit, meter, key, field, chord, rest, note, nothing, skipped, refused}
use Rattle.reader.specs.Tokens.{tokens}
use Rattle.reader.specs.Text.{text_lines}
use Rattle.reader.specs.Lines as lines
use Rattle.reader.specs.Lines.{is_v, Kind, kind_of}
use Rattle.reader.specs.Tokens.{Effect}
use Rattle.reader.specs.Steps.{TextLine, refuse, on, run, items_of}
use Rattle.reader.specs.Scan.{Item, voice_declared, reset, key_in_header, key_change, meter_change, lyric_line, music_line, Env, ScanState, begin, most_lines, most_voices, with_unnamed, voices_before, with_voices, at, first_refusal, play_on, voice_on, unit_on, act, step, scan, Items, Out}
use Rattle.reader.specs.Answer.{Verdict, reading, Outcome, early, is_music, built, parts, finish, scanned, unless, parse_abc}
use Rattle.blocks.specs.Demand.{Accepted, identifier}
use Rattle.blocks.proofs.LineKinds.{Names, voice_begins}
use Rattle.blocks.proofs.Instance.{reader}
use Rattle.blocks.proofs.Keeps.{laws}
use Rattle.blocks.proofs.Runs.{mine_append, Run, stop, then, run_of, run_cut, run_join, run_one}
use Rattle.blocks.proofs.End.{Not, early_not, late_no, ended_reading}
use Rattle.reader.specs.State.{Note, Measure, volta_alone, volta_ends, Half, Running, Line, Verses, PartState, with_beam, with_right, with_meter, with_key_mark, with_volta, set_scopes, set_measures, set_verses, set_line, with_run, with_overlay, with_half, with_tuplet, with_time, no_scopes, new_measure, new_line, new_part, on_open, is_empty, voice_in, voice_now, set_voice}
use Rattle.reader.specs.Part as part
use Rattle.reader.specs.Part.{Part, no_flags, halved_note, broken_note, on_broken, after_half, can_beam, beamed, run_after, beamed_again, on_nothing, grouped, one_fewer, counted_in, append, rest_note, sound_note, on_sound, left_set, on_barline, hears, on_token, opened, line_begins, on_line, on_lyric, on_key, first_key, on_item, dropped, in_order, marked_by, marked, finished_measures, finished, build, empty_part}
use Rattle.reader.specs.Lyrics.{Syllable, sung_in}
use Rattle.reader.specs.Barlines.{left_of}
use Rattle.reader.specs.Voltas.{starts, last_there, ends_at, close, closed}
use Rattle.reader.specs.Records.{tagged, by_voice, all_notes, is_sung, lyrics_of, notes_of, lyrics}
use Rattle.reader.specs.Tally.{Counts, counts_of, tally}
use Rattle.promises.specs.Arrangement.{tally_of, notes_only}
use Rattle.promises.specs.Refusals.{parts_after}

-- WITHOUT FLAGS: a note, a measure, a part (and nothing pending)
abbrev plain : Note → Note
plain n = record { kind = n.kind; value = n.value; dots = n.dots; flags = no_flags; beam = n.beam; group = n.group; pitches = n.pitches }

abbrev plains : List Note → List Note
plains ns = map plain ns

abbrev plain_m : Measure → Measure
plain_m m = record { voices = map plains m.voices; left = m.left; right = m.right; meter = m.meter; key = m.key; volta = m.volta; passes = m.passes }

abbrev plain_ms : List Measure → List Measure
plain_ms ms = map plain_m ms

abbrev bare : PartState → PartState
bare s = record { key = s.key; scopes = s.scopes; measures = plain_ms s.measures; pending = nothing_pending; verses = s.verses; line = s.line }

-- the state that is bare but for its measures
abbrev bare_with : PartState → List Measure → PartState
bare_with s ms = record { key = s.key; scopes = s.scopes; measures = ms; pending = nothing_pending; verses = s.verses; line = s.line }

-- VOICES
voice_get_or : (vs : List (List Note)) (o : ℕ) → get_or (map plains vs) o [] ≡ plains (get_or vs o [])
voice_get_or [] o = refl
voice_get_or (v ∷ vs) zero = refl
voice_get_or (v ∷ vs) (suc o) = voice_get_or vs o

voice_in_lem : (o : ℕ) (ms : List Measure) → voice_in o (plain_ms ms) ≡ plains (voice_in o ms)
unfolding voice_in
voice_in_lem o [] = refl
voice_in_lem o (m ∷ ms) = voice_get_or m.voices o

voice_now_lem : (s : PartState) → voice_now (bare s) ≡ plains (voice_now s)
unfolding voice_now
voice_now_lem s = voice_in_lem s.line.overlay s.measures

voice_alter : (o : ℕ) (v : List Note) (vs : List (List Note)) → map plains (alter_at o (λ old. v) vs) ≡ alter_at o (λ old. plains v) (map plains vs)
voice_alter o v [] = refl
voice_alter zero v (w ∷ vs) = refl
voice_alter (suc o) v (w ∷ vs) = ap (λ (z : List (List Note)). plains w ∷ z) (voice_alter o v vs)

-- a change of the open measure that does not see flags
open_bare : (f g : Measure → Measure) → ((m : Measure) → plain_m (f m) ≡ g (plain_m m)) → (ms : List Measure) → plain_ms (on_first f ms) ≡ on_first g (plain_ms ms)
open_bare f g h [] = refl
open_bare f g h (m ∷ ms) = ap (λ (z : Measure). z ∷ plain_ms ms) (h m)

set_voice_lem : (v : List Note) (s : PartState) → bare (set_voice v s) ≡ set_voice (plains v) (bare s)
unfolding set_voice on_open
set_voice_lem v s =
    ap (bare_with s)
    (open_bare _ _ (λ m. ap (λ (z : List (List Note)). record { voices = z; left = m.left; right = m.right; meter = m.meter; key = m.key; volta = m.volta; passes = m.passes })
    (voice_alter s.line.overlay v m.voices)) s.measures)

on_open_lem : (f : Measure → Measure) → ((m : Measure) → plain_m (f m) ≡ f (plain_m m)) → (s : PartState) → bare (on_open f s) ≡ on_open f (bare s)
unfolding on_open
on_open_lem f h s = ap (bare_with s) (open_bare f f h s.measures)

-- NOTES
halved_plain : (n : ℕ) (x : Note) → plain (halved_note n x) ≡ halved_note n (plain x)
unfolding halved_note
halved_plain n x = by_test (eqb x.value 10) (λ e. rw (e, halved_note)) (λ e. rw (e, halved_note))

broken_plain : (h : Half) (x : Note) → plain (broken_note h x) ≡ broken_note h (plain x)
unfolding broken_note
broken_plain h x = by_test h.up (λ e. rw (e, broken_note)) (λ e. rw (e, broken_note) (halved_plain h.times x))

half_plain : (o : Option Half) (x : Note) → plain (after_half o x) ≡ after_half o (plain x)
unfolding after_half
half_plain none x = refl
half_plain (some h) x = broken_plain h x

first_plain : (f : Note → Note) → ((x : Note) → plain (f x) ≡ f (plain x)) → (ns : List Note) → plains (on_first f ns) ≡ on_first f (plains ns)
first_plain f h [] = refl
first_plain f h (x ∷ ns) = ap (λ (z : Note). z ∷ plains ns) (h x)

beamed_plain : (r : ℕ) (n : Note) (ns : List Note) → plains (beamed r n ns) ≡ beamed r (plain n) (plains ns)
unfolding beamed
beamed_plain zero n ns = refl
beamed_plain (suc r) n ns =
    by_test (can_beam n)
    (λ e. rw (e, beamed) (ap (λ (z : List Note). with_beam notes.ends (plain n) ∷ z) (first_plain (with_beam (cond (eqb r 0) notes.begins notes.continues)) (λ x. refl) ns)))
    (λ e. rw (e, beamed))

again_plain : (r : ℕ) (n : Note) → plain (beamed_again r n) ≡ beamed_again r (plain n)
unfolding beamed_again
again_plain zero n = by_test (can_beam n) (λ e. rw (e, beamed_again)) (λ e. rw (e, beamed_again))
again_plain (suc r) n = refl

grouped_plain : (o : Option Running) (n : Note) → plain (grouped o n) ≡ grouped o (plain n)
unfolding grouped
grouped_plain none n = refl
grouped_plain (some t) n = refl

-- A NOTE APPENDED
abbrev into : PartState → Note → List Note → PartState
into s g v =
    set_line (with_tuplet (one_fewer s.line.tuplet) (with_half none (with_run (run_after s.line.run g) s.line)))
    (set_verses (counted_in s.line.overlay g s.verses) (set_voice (on_first (after_half s.line.half) (beamed s.line.run g v)) s))

append_is : (n : Note) (s : PartState) → append n s ≡ into s (grouped s.line.tuplet n) (voice_now s)
unfolding append
append_is n s = refl

into_bare : (s : PartState) (g : Note) (v : List Note) → bare (into s g v) ≡ into (bare s) (plain g) (plains v)
unfolding run_after counted_in
into_bare s g v =
    let l : Line = with_tuplet (one_fewer s.line.tuplet) (with_half none (with_run (run_after s.line.run g) s.line)) in
    let c : Verses = counted_in s.line.overlay g s.verses in
    ap (λ (z : PartState). set_line l (set_verses c z)) (set_voice_lem (on_first (after_half s.line.half) (beamed s.line.run g v)) s)
    ∙ ap (λ (z : List Note). set_line l (set_verses c (set_voice z (bare s))))
    (first_plain (after_half s.line.half) (half_plain s.line.half) (beamed s.line.run g v)
    ∙ ap (on_first (after_half s.line.half)) (beamed_plain s.line.run g v))

append_bare : (n : Note) (s : PartState) → bare (append n s) ≡ append (plain n) (bare s)
append_bare n s =
    ap bare (append_is n s) ∙ into_bare s (grouped s.line.tuplet n) (voice_now s)
    ∙ ap (λ (z : Note). into (bare s) z (plains (voice_now s))) (grouped_plain s.line.tuplet n)
    ∙ ap (into (bare s) (grouped s.line.tuplet (plain n))) (sym (voice_now_lem s))
    ∙ sym (append_is (plain n) (bare s))

-- TOKENS on a bare part: what opens or takes a tie, slur or grace does nothing
abbrev silent : Behind
silent = record { tie = false; slur = false; used = 0 }

bare_sound : List Written → Length → PartState → PartState
bare_sound ws l u =
    append (plain (sound_note (value_of u.line.unit l) nothing_pending silent (sounds_of u.key (get_or u.scopes u.line.overlay []) ws)))
    (set_scopes (alter_at u.line.overlay (λ old. scope_after_all (get_or u.scopes u.line.overlay []) ws) u.scopes) u)

bare_token : PartState → Token → PartState
bare_token u space = on_token u space
bare_token u overlay = on_token u overlay
bare_token u quoted = u
bare_token u (broken up n) = on_token u (broken up n)
bare_token u (tuplet t) = on_token u (tuplet t)
bare_token u slur = u
bare_token u grace_open = u
bare_token u grace_close = u
bare_token u decoration = u
bare_token u (barline b o) = on_token u (barline b o)
bare_token u (volta ps) = on_token u (volta ps)
bare_token u (unit x) = on_token u (unit x)
bare_token u (meter t) = on_token u (meter t)
bare_token u (key k) = on_token u (key k)
bare_token u field = u
bare_token u (chord ws l b) = bare_sound ws l u
bare_token u (rest k l) = on_token u (rest k l)
bare_token u (note w l b) = bare_sound (w ∷ []) l u
bare_token u nothing = on_token u nothing
bare_token u skipped = u
bare_token u (refused n) = u

broken_bare : (up : Bool) (n : ℕ) (v : List Note) (s : PartState) → bare (on_broken up n v s) ≡ on_broken up n (plains v) (bare s)
unfolding on_broken
broken_bare up n [] s = refl
broken_bare up n (x ∷ xs) s =
    let l : Line = with_half (some (record { up = not up; times = n })) s.line in
    ap (set_line l) (set_voice_lem (broken_note (record { up = up; times = n }) x ∷ xs) s)
    ∙ ap (λ (z : Note). set_line l (set_voice (z ∷ plains xs) (bare s))) (broken_plain (record { up = up; times = n }) x)

nothing_bare : (v : List Note) (s : PartState) → bare (on_nothing v s) ≡ on_nothing (plains v) (bare s)
unfolding on_nothing run_after
nothing_bare [] s = refl
nothing_bare (x ∷ xs) s =
    let l : Line = with_run (run_after s.line.run x) s.line in
    ap (set_line l) (set_voice_lem (beamed_again s.line.run x ∷ xs) s)
    ∙ ap (λ (z : Note). set_line l (set_voice (z ∷ plains xs) (bare s))) (again_plain s.line.run x)

empty_plain : (vs : List (List Note)) → all is_nil (map plains vs) ≡ all is_nil vs
empty_plain [] = refl
empty_plain ([] ∷ vs) = empty_plain vs
empty_plain ((n ∷ ns) ∷ vs) = refl

left_plain : (b : Barline) (m : Measure) → plain_m (left_set b m) ≡ left_set b (plain_m m)
unfolding left_set
left_plain normal m = refl
left_plain repeat_start m = refl
left_plain repeat_end m = refl
left_plain repeat_both m = refl
left_plain double m = refl
left_plain final m = refl

ended_plain : (b : Barline) (o : Bool) (t : Meter) (ms : List Measure) → plain_ms (part.ended b o t ms) ≡ part.ended b o t (plain_ms ms)
unfolding part.ended new_measure
ended_plain b o t [] = refl
ended_plain b o t (m ∷ ms) =
    by_test (is_empty m) (λ e. rw (e, part.ended) (rw (empty_plain m.voices ∙ e, part.ended) (ap (λ (z : Measure). z ∷ plain_ms ms) (left_plain b m))))
    (λ e. rw (e, part.ended) (rw (empty_plain m.voices ∙ e, part.ended) (go o)))
  where
    go : (o : Bool) → plain_ms (cond o (new_measure t (left_of b) ∷ with_right b m ∷ ms) (with_right b m ∷ ms)) ≡ cond o (new_measure t (left_of b) ∷ with_right b (plain_m m) ∷ plain_ms ms) (with_right b (plain_m m) ∷ plain_ms ms)
    go true = refl
    go false = refl

rest_plain : (k : NoteKind) (w : Value) → plain (rest_note k w) ≡ rest_note k w
unfolding rest_note
rest_plain notes.sounded w = refl
rest_plain notes.rest w = refl
rest_plain notes.invisible_rest w = refl
rest_plain notes.bar_rest w = refl
rest_plain notes.invisible_bar_rest w = refl

sound_bare : (ws : List Written) (l : Length) (b : Behind) (s : PartState) → bare (on_sound ws l b s) ≡ bare_sound ws l (bare s)
unfolding on_sound bare_sound sound_note
sound_bare ws l b s = append_bare _ _

token_bare : (s : PartState) (t : Token) → bare (on_token s t) ≡ bare_token (bare s) t
unfolding on_token bare_token on_barline hears
token_bare s space = refl
token_bare s overlay = refl
token_bare s quoted = refl
token_bare s (broken up n) = broken_bare up n (voice_now s) s ∙ ap (λ (v : List Note). on_broken up n v (bare s)) (sym (voice_now_lem s))
token_bare s (tuplet t) = refl
token_bare s slur = refl
token_bare s grace_open = refl
token_bare s grace_close = refl
token_bare s decoration = refl
token_bare s (barline b o) = ap (λ (z : List Measure). set_scopes no_scopes (set_line (with_overlay 0 s.line) (set_measures z (bare s)))) (ended_plain b o s.line.meter s.measures)
token_bare s (volta ps) = on_open_lem _ (λ m. refl) s
token_bare s (unit u) = refl
token_bare s (meter t) = on_open_lem (with_meter t) (λ m. refl) (set_line (with_time t s.line) s)
token_bare s (key k) = on_open_lem (with_key_mark k) (λ m. refl) (hears k s)
token_bare s field = refl
token_bare s (chord ws l b) = sound_bare ws l b s
token_bare s (rest k l) = append_bare (rest_note k (value_of s.line.unit l)) s ∙ ap (λ (z : Note). append z (bare s)) (rest_plain k (value_of s.line.unit l))
token_bare s (note w l b) = sound_bare (w ∷ []) l b s
token_bare s nothing = nothing_bare (voice_now s) s ∙ ap (λ (v : List Note). on_nothing v (bare s)) (sym (voice_now_lem s))
token_bare s skipped = refl
token_bare s (refused n) = refl

tokens_bare : (ts : List Token) (s : PartState) → bare (foldl on_token s ts) ≡ foldl bare_token (bare s) ts
tokens_bare [] s = refl
tokens_bare (t ∷ ts) s = tokens_bare ts (on_token s t) ∙ ap (λ (z : PartState). foldl bare_token z ts) (token_bare s t)

-- ITEMS on a bare part: a V: line does nothing
bare_item : Edition → Key → PartState → Item → PartState
bare_item ed h u (voice_declared b) = on_item ed h u (voice_declared b)
bare_item ed h u reset = u
bare_item ed h u key_in_header = on_item ed h u key_in_header
bare_item ed h u (key_change k) = on_item ed h u (key_change k)
bare_item ed h u (meter_change t) = on_item ed h u (meter_change t)
bare_item ed h u (lyric_line b t) = on_item ed h u (lyric_line b t)
bare_item ed h u (music_line x t l) = foldl bare_token (line_begins x t u) (tokens ed 0 l)

key_bare : (h k : Key) (ms : List Measure) (s : PartState) → bare (on_key h k ms s) ≡ on_key h k (plain_ms ms) (bare s)
unfolding on_key hears
key_bare h k [] s = refl
key_bare h k (m ∷ ms) s = on_open_lem (with_key_mark k) (λ m. refl) (hears k s)

opened_plain : (t : Meter) (ms : List Measure) → plain_ms (opened t ms) ≡ opened t (plain_ms ms)
unfolding opened new_measure
opened_plain t [] = refl
opened_plain t (m ∷ ms) = refl

begins_bare : (u : ℕ) (t : Meter) (s : PartState) → bare (line_begins u t s) ≡ line_begins u t (bare s)
unfolding line_begins
begins_bare u t s =
    ap (λ (z : List Measure). set_verses (record { sounded = s.verses.sounded; start = s.verses.sounded; verse = 1; lines = s.verses.lines }) (set_line (new_line u t) (set_measures z (bare s))))
    (opened_plain t s.measures)

item_bare : (ed : Edition) (h : Key) (s : PartState) (i : Item) → bare (on_item ed h s i) ≡ bare_item ed h (bare s) i
unfolding on_item bare_item on_line on_lyric
item_bare ed h s (voice_declared b) = refl
item_bare ed h s reset = refl
item_bare ed h s key_in_header = refl
item_bare ed h s (key_change k) = key_bare h k s.measures s
item_bare ed h s (meter_change t) = on_open_lem (with_meter t) (λ m. refl) s
item_bare ed h s (lyric_line b t) = refl
item_bare ed h s (music_line u t l) = tokens_bare (tokens ed 0 l) (line_begins u t s) ∙ ap (λ (z : PartState). foldl bare_token z (tokens ed 0 l)) (begins_bare u t s)

items_bare : (ed : Edition) (h : Key) (is : List Item) (s : PartState) → bare (foldl (on_item ed h) s is) ≡ foldl (bare_item ed h) (bare s) is
items_bare ed h [] s = refl
items_bare ed h (i ∷ is) s = items_bare ed h is (on_item ed h s i) ∙ ap (λ (z : PartState). foldl (bare_item ed h) z is) (item_bare ed h s i)

-- THE END: measures without flags are as many, with as many notes of each kind
reverse_map : {A B : Type 0} (f : A → B) (xs ys : List A) → map f (reverse_aux xs ys) ≡ reverse_aux (map f xs) (map f ys)
reverse_map f [] ys = refl
reverse_map f (x ∷ xs) ys = reverse_map f xs (x ∷ ys)

dropped_plain : (ms : List Measure) → plain_ms (dropped ms) ≡ dropped (plain_ms ms)
unfolding dropped
dropped_plain [] = refl
dropped_plain (m ∷ []) = refl
dropped_plain (m ∷ n ∷ ms) =
    by_test (is_empty m) (λ e. rw (e, dropped) (rw (empty_plain m.voices ∙ e, dropped) (dropped_plain (n ∷ ms))))
    (λ e. rw (e, dropped) (rw (empty_plain m.voices ∙ e, dropped)))

orders_plain : (vs : List (List Note)) → map plains (map reverse vs) ≡ map reverse (map plains vs)
orders_plain [] = refl
orders_plain (v ∷ vs) = λ i. reverse_map plain v [] i ∷ orders_plain vs i

order_plain : (m : Measure) → plain_m (in_order m) ≡ in_order (plain_m m)
unfolding in_order
order_plain m = ap (λ (z : List (List Note)). record { voices = z; left = m.left; right = m.right; meter = m.meter; key = m.key; volta = m.volta; passes = m.passes }) (orders_plain m.voices)

in_order_plain : (ms : List Measure) → plain_ms (map in_order ms) ≡ map in_order (plain_ms ms)
in_order_plain [] = refl
in_order_plain (m ∷ ms) = λ i. order_plain m i ∷ in_order_plain ms i

last_plain : (ms : List Measure) → last_there (plain_ms ms) ≡ last_there ms
unfolding last_there starts
last_plain [] = refl
last_plain (m ∷ ms) = refl

ends_plain : (m : Measure) (ms : List Measure) → ends_at (plain_m m) (plain_ms ms) ≡ ends_at m ms
unfolding ends_at
ends_plain m ms = rw (last_plain ms)

close_plain : (ms : List Measure) (o : Option (List ℕ)) → plain_ms (close o ms) ≡ close o (plain_ms ms)
unfolding close starts
close_plain [] none = refl
close_plain [] (some ps) = refl
close_plain (m ∷ ms) none =
    by_test (starts m)
    (λ a. by_test (ends_at m ms)
    (λ e. rw (a, close) (rw (e, close) (rw (ends_plain m ms ∙ e, close) (ap (λ (z : List Measure). plain_m (with_volta volta_alone m.passes m) ∷ z) (close_plain ms none)))))
    (λ e. rw (a, close) (rw (e, close) (rw (ends_plain m ms ∙ e, close) (ap (λ (z : List Measure). plain_m m ∷ z) (close_plain ms (some m.passes)))))))
    (λ a. rw (a, close) (ap (λ (z : List Measure). plain_m m ∷ z) (close_plain ms none)))
close_plain (m ∷ ms) (some ps) =
    by_test (ends_at m ms)
    (λ e. rw (e, close) (rw (ends_plain m ms ∙ e, close) (ap (λ (z : List Measure). plain_m (with_volta volta_ends ps m) ∷ z) (close_plain ms none))))
    (λ e. rw (e, close) (rw (ends_plain m ms ∙ e, close) (ap (λ (z : List Measure). plain_m m ∷ z) (close_plain ms (some ps)))))

mark_plain : (h : Key) (m : Measure) (o : Option Key) → plain_m (marked_by h m o) ≡ marked_by h (plain_m m) o
unfolding marked_by
mark_plain h m none = refl
mark_plain h m (some k) = refl

marked_plain : (h : Key) (ms : List Measure) → plain_ms (marked h ms) ≡ marked h (plain_ms ms)
unfolding marked
marked_plain h [] = refl
marked_plain h (m ∷ ms) = ap (λ (z : Measure). z ∷ plain_ms ms) (mark_plain h m m.key)

measures_plain : (h : Key) (s : PartState) → plain_ms (finished_measures h s) ≡ finished_measures h (bare s)
unfolding finished_measures closed
measures_plain h s =
    marked_plain h (close none (map in_order (reverse (dropped s.measures))))
    ∙ ap (marked h) (close_plain (map in_order (reverse (dropped s.measures))) none
    ∙ ap (close none) (in_order_plain (reverse (dropped s.measures))
    ∙ ap (map in_order) (reverse_map plain_m (dropped s.measures) [] ∙ ap reverse (dropped_plain s.measures))))

-- a part without flags
abbrev plain_part : Part → Part
plain_part p = record { measures = plain_ms p.measures; words = p.words }

-- THE COUNTS do not see flags
abbrev plain_x : ℕ × Note → ℕ × Note
plain_x x = (x.0, plain x.1)

tagged_plain : (v : ℕ) (ns : List Note) → tagged v (plains ns) ≡ map plain_x (tagged v ns)
unfolding tagged
tagged_plain v [] = refl
tagged_plain v (n ∷ ns) = ap (λ (z : List (ℕ × Note)). (v, plain n) ∷ z) (tagged_plain v ns)

voice_plain : (v : ℕ) (vs : List (List Note)) → by_voice v (map plains vs) ≡ map plain_x (by_voice v vs)
unfolding by_voice
voice_plain v [] = refl
voice_plain v (ns ∷ vs) = (λ i. tagged_plain v ns i ++ voice_plain (suc v) vs i) ∙ sym (map_append plain_x (tagged v ns) (by_voice (suc v) vs))

notes_plain : (ms : List Measure) → all_notes (plain_ms ms) ≡ map plain_x (all_notes ms)
unfolding all_notes
notes_plain [] = refl
notes_plain (m ∷ ms) = (λ i. voice_plain 0 m.voices i ++ notes_plain ms i) ∙ sym (map_append plain_x (by_voice 0 m.voices) (all_notes ms))

keep_plain : (p : ℕ × Note → Bool) → ((x : ℕ × Note) → p (plain_x x) ≡ p x) → (xs : List (ℕ × Note)) → length (filter p (map plain_x xs)) ≡ length (filter p xs)
keep_plain p h [] = refl
keep_plain p h (x ∷ xs) =
    by_test (p x) (λ e. rw (e, h x ∙ e) (ap suc (keep_plain p h xs))) (λ e. rw (e, h x ∙ e) (keep_plain p h xs))

lyrics_plain : (i : ℕ) (xs : List (ℕ × Note)) (ws : List (List _)) → lyrics_of i (map plain_x xs) ws ≡ lyrics_of i xs ws
unfolding lyrics_of is_sung
lyrics_plain i [] ws = refl
lyrics_plain i (x ∷ xs) [] = refl
lyrics_plain i (x ∷ xs) (w ∷ ws) =
    by_test (is_sung x) (λ e. rw (e, lyrics_of) (ap (λ z. map (λ y. (i, y)) w ++ z) (lyrics_plain (suc i) xs ws))) (λ e. rw (e, lyrics_of) (lyrics_plain (suc i) xs (w ∷ ws)))

counts_plain : (p : Part) → counts_of (plain_part p) ≡ counts_of p
unfolding counts_of notes_of lyrics
counts_plain p =
    let e : all_notes (plain_ms p.measures) ≡ map plain_x (all_notes p.measures) = notes_plain p.measures in
    λ i. record {
      measures = length-map p.measures plain_m i;
      sounded = (ap (λ (z : List (ℕ × Note)). length (filter (λ (x : ℕ × Note). is_sounded x.1.kind) z)) e ∙ keep_plain (λ x. is_sounded x.1.kind) (λ x. refl) (all_notes p.measures)) i;
      rests = (ap (λ (z : List (ℕ × Note)). length (filter (λ (x : ℕ × Note). not (is_sounded x.1.kind)) z)) e ∙ keep_plain (λ x. not (is_sounded x.1.kind)) (λ x. refl) (all_notes p.measures)) i;
      syllables = (ap (λ (z : List (ℕ × Note)). length (lyrics_of 0 z p.words)) e ∙ ap length (lyrics_plain 0 (all_notes p.measures) p.words)) i;
    }

-- WHAT OF A PART'S COUNTS IS READ OFF ITS BARE STATE
abbrev pub Unflagged : (ed : Edition) {X : Type 0} → (Counts → X) → Type 0
Unflagged ed f = (h : Key) (s : PartState) → f (counts_of (finished ed h s)) ≡ f (counts_of (finished ed h (bare s)))

-- in the first edition all of them
first_plain_part : (h : Key) (s : PartState) → plain_part (finished First h s) ≡ finished First h (bare s)
unfolding finished sung_in
first_plain_part h s = ap {B = Part} (λ (z : List Measure). record { measures = z; words = (finished First h s).words }) (measures_plain h s)

pub all_counts : Unflagged First (λ c. c)
all_counts h s = sym (counts_plain (finished First h s)) ∙ ap counts_of (first_plain_part h s)

-- in every edition all but the syllables
by_measures : (ms : List Measure) (ws vs : List (List Syllable)) → notes_only (counts_of (record { measures = ms; words = ws })) ≡ notes_only (counts_of (record { measures = ms; words = vs }))
unfolding counts_of notes_of
by_measures ms ws vs = refl

pub note_counts_lem : (ed : Edition) → Unflagged ed notes_only
unfolding finished
note_counts_lem ed h s =
    ap notes_only (sym (counts_plain (finished ed h s)))
    ∙ ap (λ (z : List Measure). notes_only (counts_of (record { measures = z; words = (finished ed h s).words }))) (measures_plain h s)
    ∙ by_measures (finished_measures h (bare s)) (finished ed h s).words (finished ed h (bare s)).words

-- A LINE FEWER BEFORE IT changes nothing of what a row does
abbrev pub with_lines : ScanState → ℕ → ScanState
with_lines s k = record { env = s.env; unit = s.unit; meter = s.meter; part = s.part; notes = s.notes; lines = k; places = s.places; opened = s.opened }

abbrev relined : ℕ → Out → Out
relined k (refuse n l) = refuse n (suc k)
relined k (on t b) = on (with_lines t (suc k)) b

voice_beginss : (s : ScanState) (k : ℕ) (v : List ℕ) (vs : List (List ℕ)) (a b c : Bool) → voice_on (with_lines s k) v vs a b c ≡ relined k (voice_on s v vs a b c)
unfolding voice_on
voice_beginss s k v vs true b true = refl
voice_beginss s k v vs true b false = refl
voice_beginss s k v vs false true c = refl
voice_beginss s k v vs false false true = refl
voice_beginss s k v vs false false false = refl

unit_lines : (s : ScanState) (k : ℕ) (u : Option ℕ) → unit_on (with_lines s k) u ≡ relined k (unit_on s u)
unfolding unit_on
unit_lines s k none = refl
unit_lines s k (some u) = refl

play_lines : (s : ScanState) (k : ℕ) (es : List Effect) (l : List ℕ) (o : Option ℕ) → play_on (with_lines s k) es l o ≡ relined k (play_on s es l o)
unfolding play_on
play_lines s k es l none = refl
play_lines s k es l (some n) = refl

act_lines : (s : ScanState) (k : ℕ) (x : Kind) (h : Bool) → act (with_lines s k) x h ≡ relined k (act s x h)
unfolding act voices_before
act_lines s k lines.blank h = refl
act_lines s k (lines.refused n) h = refl
act_lines s k (lines.lyric t) true = refl
act_lines s k (lines.lyric t) false = refl
act_lines s k (lines.voice v mid) h = voice_beginss s k v (voices_before s) (elem v (voices_before s)) (leb most_voices (length (voices_before s))) mid
act_lines s k (lines.key x) true = refl
act_lines s k (lines.key x) false = refl
act_lines s k (lines.meter m) true = refl
act_lines s k (lines.meter m) false = refl
act_lines s k (lines.unit u) h = unit_lines s k u
act_lines s k lines.tune true = refl
act_lines s k lines.tune false = refl
act_lines s k lines.other h = refl
act_lines s k (lines.music hi es l) true = refl
act_lines s k (lines.music true es l) false = refl
act_lines s k (lines.music false es l) false = play_lines s k es l (first_refusal s.notes es)

pub not_on : (n l : ℕ) (t : ScanState) (a : Items) → ◌≡◌ {A = Out} (refuse n l) (on t a) → ⊥
not_on n l t a h = let z : ◌≡◌ {A = ℕ} 0 1 = cc in omega (arith, z)

-- a row that goes through is within the lines that there may be
pub went : (ed : Edition) (s t : ScanState) (r : TextLine) (b : Items) → step ed s r ≡ on t b → (ltb s.lines most_lines ≡ true) × (act s (kind_of ed r) s.env.in_header ≡ on t b)
unfolding step
went ed s t r b e =
    by_test (ltb s.lines most_lines)
    (λ h. (h, subst (λ (x : Bool). cond x (act s (kind_of ed r) s.env.in_header) (refuse 4 (suc s.lines)) ≡ on t b) h e))
    (λ h. absurd (not_on 4 (suc s.lines) t b (subst (λ (x : Bool). cond x (act s (kind_of ed r) s.env.in_header) (refuse 4 (suc s.lines)) ≡ on t b) h e)))

step_lines : (ed : Edition) (s t : ScanState) (r : TextLine) (b : Items) (k : ℕ) → k ≤ s.lines → step ed s r ≡ on t b → step ed (with_lines s k) r ≡ on (with_lines t (suc k)) b
unfolding step
step_lines ed s t r b k le e =
    let q = went ed s t r b e in
    let h : ltb k most_lines ≡ true = lt-ltb k most_lines (omega (arith, le, ltb-true s.lines most_lines q.0)) in
    ap (λ (x : Bool). cond x (act (with_lines s k) (kind_of ed r) s.env.in_header) (refuse 4 (suc k))) h
    ∙ act_lines s k (kind_of ed r) s.env.in_header ∙ ap (relined k) q.1

pub fewer : (ed : Edition) {s u : ScanState} {rs : List TextLine} {c : Items} → Run (reader ed) s rs u c → (k : ℕ) → k ≤ s.lines → (j : ℕ) × Run (reader ed) (with_lines s k) rs (with_lines u j) c
fewer ed stop k le = (k, stop)
fewer ed (then {s = s} {t = t} {r = r} {a = a} e d) k le =
    let l : t.lines ≡ suc s.lines = (laws ed).line s t r a e in
    let q = fewer ed d (suc k) (omega (arith, le, l)) in
    (q.0, then (step_lines ed s t r a k le e) q.1)

-- A V: LINE THAT NAMES THE VOICE BEING READ gives that part a reset, and changes nothing else
unnamed_not : (o : Bool) (v : List ℕ) (vs : List (List ℕ)) → elem v vs ≡ true → with_unnamed o vs ≡ vs
unfolding with_unnamed
unnamed_not o v [] h = absurd (false≢true h)
unnamed_not o v (w ∷ vs) h = refl

abbrev Resets : ScanState → ScanState → Items → Type 0
Resets s t b = (t ≡ with_lines s (suc s.lines)) × (b ≡ (s.part, reset) ∷ [])

voice_resets : (s t : ScanState) (b : Items) (v : List ℕ) (vs : List (List ℕ)) → vs ≡ s.env.voices → index_of v s.env.voices ≡ s.part → (full mid : Bool)
    → voice_on s v vs true full mid ≡ on t b → Resets s t b
unfolding voice_on
voice_resets s t b v vs e i full true h = absurd (not_on 10 (suc s.lines) t b h)
voice_resets s t b v vs e i full false h =
    let k : ◌≡◌ {A = Out} (on (with_lines s (suc s.lines)) ((s.part, reset) ∷ [])) (on t b) =
    sym (ap (λ (p : ℕ). on (at s s.env p) ((p, reset) ∷ [])) i) ∙ sym (ap (λ (w : List (List ℕ)). on (at s (with_voices s.env w) (index_of v w)) ((index_of v w, reset) ∷ [])) e) ∙ h
    in (sym cc, sym cc)

kind_resets : (s t : ScanState) (b : Items) (v : List ℕ) → elem v s.env.voices ≡ true → index_of v s.env.voices ≡ s.part → (h : Bool) (x : Kind) → Names v x → act s x h ≡ on t b → Resets s t b
unfolding act voices_before
kind_resets s t b v k i h lines.blank n e = absurd n
kind_resets s t b v k i h (lines.refused m) n e = absurd (not_on m (suc s.lines) t b e)
kind_resets s t b v k i h (lines.lyric x) n e = absurd n
kind_resets s t b v k i h (lines.voice w mid) n e =
    let u : voices_before s ≡ s.env.voices = unnamed_not s.opened v s.env.voices k in
    let full : Bool = leb most_voices (length (voices_before s)) in
    let f : voice_on s v (voices_before s) (elem v (voices_before s)) full mid ≡ on t b = subst (λ (z : List ℕ). voice_on s z (voices_before s) (elem z (voices_before s)) full mid ≡ on t b) n e in
    let g : elem v (voices_before s) ≡ true = ap (elem v) u ∙ k in
    voice_resets s t b v (voices_before s) u i full mid (subst (λ (z : Bool). voice_on s v (voices_before s) z full mid ≡ on t b) g f)
kind_resets s t b v k i h (lines.key x) n e = absurd n
kind_resets s t b v k i h (lines.meter m) n e = absurd n
kind_resets s t b v k i h (lines.unit u) n e = absurd n
kind_resets s t b v k i h lines.tune n e = absurd n
kind_resets s t b v k i h lines.other n e = absurd n
kind_resets s t b v k i h (lines.music hi es l) n e = absurd n

row_resets : (ed : Edition) (s t : ScanState) (r : TextLine) (b : Items) → is_v r ≡ true → elem (identifier r) s.env.voices ≡ true → index_of (identifier r) s.env.voices ≡ s.part → step ed s r ≡ on t b → Resets s t b
row_resets ed s t r b v k i e = kind_resets s t b (identifier r) k i s.env.in_header (kind_of ed r) (voice_begins ed r v) (went ed s t r b e).1

-- WITHOUT THAT LINE the rows behind it do the same
abbrev Left-out : Edition → List TextLine → List TextLine → ScanState → Items → ScanState → Items → Type 0
Left-out ed xs bs s a u c = (c₂ : Items) × (j : ℕ) × ((c ≡ a ++ ((s.part, reset) ∷ c₂)) × Run (reader ed) begin (xs ++ bs) (with_lines u j) (a ++ c₂))

left_out_lem : (ed : Edition) (xs bs : List TextLine) (r : TextLine) (s u : ScanState) (a b c : Items) → is_v r ≡ true → elem (identifier r) s.env.voices ≡ true → index_of (identifier r) s.env.voices ≡ s.part
    → Run (reader ed) begin xs s a → Run (reader ed) s (r ∷ bs) u b → c ≡ a ++ b → Left-out ed xs bs s a u c
left_out_lem ed xs bs r s u a b c v k i d (then {t = t} {a = x} {b = y} e f) q =
    let w : Resets s t x = row_resets ed s t r x v k i e in
    let g : Run (reader ed) (with_lines s (suc s.lines)) bs u y = subst (λ (z : ScanState). Run (reader ed) z bs u y) w.0 f in
    let m = fewer ed g s.lines (omega arith) in
    (y, m.0, (q ∙ ap (λ (z : Items). a ++ (z ++ y)) w.1, run_join (reader ed) d m.1))

-- THE TALLY
any_reset : (is js : List Item) → any is_music (is ++ (reset ∷ js)) ≡ any is_music (is ++ js)
unfolding is_music
any_reset [] js = refl
any_reset (i ∷ is) js = ap (λ (b : Bool). is_music i || b) (any_reset is js)

-- f: what of the counts is looked at
module _ (ed : Edition) {X : Type 0} (f : Counts → X) (free : Unflagged ed f) where
  seen_items : (h : Key) (is : List Item) → f (counts_of (build ed h is)) ≡ f (counts_of (finished ed h (foldl (bare_item ed h) (bare new_part) is)))
  unfolding build
  seen_items h is = free h (foldl (on_item ed h) new_part is) ∙ ap (λ (z : PartState). f (counts_of (finished ed h z))) (items_bare ed h is new_part)

  -- A V: LINE OF THE PART LEFT OUT: the tally of the part is the same
  pub reset_free : (h : Key) (is js : List Item) → f (counts_of (build ed h (is ++ (reset ∷ js)))) ≡ f (counts_of (build ed h (is ++ js)))
  unfolding bare_item
  reset_free h is js =
      seen_items h (is ++ (reset ∷ js))
      ∙ ap (λ (z : PartState). f (counts_of (finished ed h z))) (foldl_append (bare_item ed h) (bare new_part) is (reset ∷ js) ∙ sym (foldl_append (bare_item ed h) (bare new_part) is js))
      ∙ sym (seen_items h (is ++ js))

  pub built_reset : (e : Env) (is js : List Item) → f (counts_of (built ed e (is ++ (reset ∷ js)))) ≡ f (counts_of (built ed e (is ++ js)))
  unfolding built
  built_reset e is js = ap (λ (b : Bool). f (counts_of (cond b (build ed e.header_key (is ++ (reset ∷ js))) empty_part))) (any_reset is js) ∙ go (any is_music (is ++ js))
    where
      go : (b : Bool) → f (counts_of (cond b (build ed e.header_key (is ++ (reset ∷ js))) empty_part)) ≡ f (counts_of (cond b (build ed e.header_key (is ++ js)) empty_part))
      go true = reset_free e.header_key is js
      go false = refl

  part_reset : (e : Env) (q p : ℕ) (a c : Items) → f (counts_of (built ed e (items_of p (a ++ ((q, reset) ∷ c))))) ≡ f (counts_of (built ed e (items_of p (a ++ c))))
  part_reset e q p a c =
      ap (λ (l : List Item). f (counts_of (built ed e l))) (mine_append p a ((q, reset) ∷ c)) ∙ go (eqb q p)
      ∙ sym (ap (λ (l : List Item). f (counts_of (built ed e l))) (mine_append p a c))
    where
      go : (b : Bool) → f (counts_of (built ed e (items_of p a ++ cond b (reset ∷ items_of p c) (items_of p c)))) ≡ f (counts_of (built ed e (items_of p a ++ items_of p c)))
      go true = built_reset e (items_of p a) (items_of p c)
      go false = refl

pub tallies : (ed : Edition) {X : Type 0} (f : Counts → X) (e : Env) (a b : ℕ → List Item) → ((p : ℕ) → f (counts_of (built ed e (a p))) ≡ f (counts_of (built ed e (b p)))) → (n q : ℕ)
    → map f (tally (parts ed e a n q)) ≡ map f (tally (parts ed e b n q))
unfolding parts tally
tallies ed f e a b h zero q = refl
tallies ed f e a b h (suc n) q = λ i. h q i ∷ tallies ed f e a b h n (suc q) i

-- what an accepted text was scanned to
abbrev pub Scanned : Edition → List ℕ → Verdict → Type 0
Scanned ed text w = (u : ScanState) × (c : Items) × ((scan ed (text_lines text) ≡ on u c) × (w ≡ reading (parts_after ed u c)))

after_scan : (ed : Edition) (text : List ℕ) (rl sl : ℕ) (y : Out) → scan ed (text_lines text) ≡ y → Accepted (scanned ed rl sl y) → Scanned ed text (scanned ed rl sl y).verdict
unfolding scanned finish
after_scan ed text rl sl (refuse n l) e h = absurd (late_no n l rl sl h)
after_scan ed text rl sl (on u c) e h = (u, c, (e, ended_reading (parts_after ed u c) rl sl h))

unless_scan : (ed : Edition) (text : List ℕ) (rl sl : ℕ) (x : Option Outcome) → Not x → Accepted (unless ed text rl sl x) → Scanned ed text (unless ed text rl sl x).verdict
unfolding unless
unless_scan ed text rl sl (some w) n h = absurd (n h)
unless_scan ed text rl sl none n h = after_scan ed text rl sl (scan ed (text_lines text)) refl h

pub accepted_scan : (ed : Edition) (text : List ℕ) (rl sl : ℕ) → Accepted (parse_abc ed text rl sl) → Scanned ed text (parse_abc ed text rl sl).verdict
unfolding parse_abc
accepted_scan ed text rl sl h = unless_scan ed text rl sl (early text rl sl) (early_not text rl sl) h

-- A TEXT AND THE SAME WITHOUT A V: LINE THAT NAMES THE VOICE BEING READ, both accepted, with stores of any lengths
abbrev pub Without-V : Edition → {X : Type 0} → (Counts → X) → Type 0
Without-V ed f =
    (text text' : List ℕ) (rl sl rl' sl' : ℕ) (xs bs : List TextLine) (r : TextLine) (s : ScanState) (a : Items) → text_lines text ≡ xs ++ (r ∷ bs) → text_lines text' ≡ xs ++ bs → scan ed xs ≡ on s a
    → is_v r ≡ true → elem (identifier r) s.env.voices ≡ true → index_of (identifier r) s.env.voices ≡ s.part
    → Accepted (parse_abc ed text rl sl) → Accepted (parse_abc ed text' rl' sl') → map f (tally_of (parse_abc ed text rl sl).verdict) ≡ map f (tally_of (parse_abc ed text' rl' sl').verdict)

without_V : (ed : Edition) {X : Type 0} (f : Counts → X) → Unflagged ed f → Without-V ed f
unfolding scan
without_V ed f free text text' rl sl rl' sl' xs bs r s a e e' es v k i h h' = go (accepted_scan ed text rl sl h) (accepted_scan ed text' rl' sl' h')
  where
    go : Scanned ed text (parse_abc ed text rl sl).verdict → Scanned ed text' (parse_abc ed text' rl' sl').verdict → map f (tally_of (parse_abc ed text rl sl).verdict) ≡ map f (tally_of (parse_abc ed text' rl' sl').verdict)
    go (u, c, (g, w)) (u', c', (g', w')) =
        let d : Run (reader ed) begin (xs ++ (r ∷ bs)) u c = run_of (reader ed) (xs ++ (r ∷ bs)) begin u c (subst (λ (z : List TextLine). run (step ed) begin z ≡ on u c) e g) in
        let d' : Run (reader ed) begin (xs ++ bs) u' c' = run_of (reader ed) (xs ++ bs) begin u' c' (subst (λ (z : List TextLine). run (step ed) begin z ≡ on u' c') e' g') in
        let p : Run (reader ed) begin xs s a = run_of (reader ed) xs begin s a es in
        let t = run_cut (reader ed) xs d in
        let o = run_one (reader ed) t.3 p in
        let m : Left-out ed xs bs s a u c =
        left_out_lem ed xs bs r s u a t.2 c v k i p (subst (λ (z : ScanState). Run (reader ed) z (r ∷ bs) u t.2) o.0 t.4) (t.5 ∙ ap (λ (z : Items). z ++ t.2) o.1)
        in
        let n = run_one (reader ed) m.2.1 d' in
        ap (λ (z : Verdict). map f (tally_of z)) w
        ∙ ap (λ (z : Items). map f (tally (parts_after ed u z))) m.2.0
        ∙ tallies ed f u.env (λ p. items_of p (a ++ ((s.part, reset) ∷ m.0))) (λ p. items_of p (a ++ m.0)) (λ p. part_reset ed f free u.env s.part p a m.0) (max 1 (length u.env.voices)) 0
        ∙ (λ j. map f (tally (parts_after ed (n.0 j) (n.1 j))))
        ∙ sym (ap (λ (z : Verdict). map f (tally_of z)) w')

pub map_same : (cs : List Counts) → map (λ c. c) cs ≡ cs
map_same [] = refl
map_same (c ∷ cs) = ap (λ (z : List Counts). c ∷ z) (map_same cs)

-- in the first edition: one tally
pub same_tally : (text text' : List ℕ) (rl sl rl' sl' : ℕ) (xs bs : List TextLine) (r : TextLine) (s : ScanState) (a : Items) → text_lines text ≡ xs ++ (r ∷ bs) → text_lines text' ≡ xs ++ bs → scan First xs ≡ on s a
    → is_v r ≡ true → elem (identifier r) s.env.voices ≡ true → index_of (identifier r) s.env.voices ≡ s.part
    → Accepted (parse_abc First text rl sl) → Accepted (parse_abc First text' rl' sl') → tally_of (parse_abc First text rl sl).verdict ≡ tally_of (parse_abc First text' rl' sl').verdict
same_tally text text' rl sl rl' sl' xs bs r s a e e' es v k i h h' =
    sym (map_same (tally_of (parse_abc First text rl sl).verdict))
    ∙ without_V First (λ c. c) all_counts text text' rl sl rl' sl' xs bs r s a e e' es v k i h h'
    ∙ map_same (tally_of (parse_abc First text' rl' sl').verdict)

-- in every edition: the same measures, notes that are no rests, and rests
pub same_notes : (ed : Edition) → Without-V ed notes_only
same_notes ed = without_V ed notes_only (note_counts_lem ed)
