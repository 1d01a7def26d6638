-- The numbers of a part are in their ranges, while it is read and when it is finished.
use Prim.Native.Nat.{ℕ, zero, suc, ◌+◌, ◌<◌}
use mathlib.Core.Path.{◌≡◌, refl, ap}
use mathlib.Core.Bool.{Bool, true, false, cond, ◌&&◌}
use mathlib.Core.Option.{Option, none, some}
use mathlib.Core.List.{List, [], ◌∷◌, map, reverse}
use native.Mathlib.Omega.{arith}
use lib.Dec.{ltb, leb, eqb, lit<, lit≤}
use lib.ListN.{get_or}
use Rattle.laws.specs.Lists.{foldl, All, on_first}
use Rattle.laws.proofs.Bools.{by_test}
use Rattle.laws.proofs.Lists.{All-alter_at, All-on_first, All-map, All-reverse, All-here}
use Rattle.standard.specs.Keys.{Key, key_alter, place}
use Rattle.standard.specs.Fields.{Meter}
use Rattle.standard.specs.Bars.{Barline, normal, repeat_start, repeat_end, repeat_both, double, final}
use Rattle.standard.specs.Lengths.{dotted, halved}
use Rattle.standard.specs.Pitches.{Accidental, Written, Pitch, altered}
use Rattle.standard.specs.Tuplets.{compound, normal_in, boundary}
use Rattle.standard.specs.Notes
use Rattle.standard.specs.Notes.{NoteKind, Beam, Behind, is_sounded}
use Rattle.standard.specs.Lyrics.{next_verse}
use Rattle.editions.specs.declared.Edition.{Edition}
use Rattle.reader.specs.Lengths.{Length, value_of}
use Rattle.reader.specs.Pitches.{Scope, remembered, or_key, sound_by, sound_of, scope_by, scope_after, sounds_of, scope_after_all}
use Rattle.reader.specs.Token.{Token, space, overlay, quoted, broken, tuplet, slur, grace_open, grace_close, decoration, barline, volta, unit, meter, key, field, chord, rest, note, nothing, skipped, refused}
use Rattle.reader.specs.Tokens.{tokens}
use Rattle.reader.specs.Barlines.{left_of}
use Rattle.reader.specs.Scan.{Item, voice_declared, reset, key_in_header, key_change, meter_change, lyric_line, music_line}
use Rattle.reader.specs.State.{PartState, Note, Measure, Half, Running, Verses, with_beam, with_voices, with_right, with_left, with_meter, with_key_mark, with_volta, Volta, volta_begins, on_open, is_empty, voice_in, voice_now, set_voice, new_measure, new_part, new_line, no_scopes}
use Rattle.reader.specs.Voltas.{starts, ends_at, close, closed}
use Rattle.reader.specs.Part.{halved_note, broken_note, on_broken, after_half, can_beam, beamed, beamed_again, on_nothing, group_in, grouped, one_fewer, counted_in, append, rest_note, sound_note, on_sound, left_set, ended, on_barline, hears, on_token, opened, line_begins, on_line, on_lyric, on_key, on_item, dropped, in_order, marked_by, marked, finished, in_meter, finished_measures}
use Rattle.reader.proofs.ValueLaws.{value_range}
use Rattle.bounds.specs.Ranges.{MeterFits, PassesFit, SignFits, WrittenFits, PitchFits, TokenFits, NoteFits, MeasureFits, VoltaOpen, OpenFits, RunningFits, VerseFits, StateFits, ItemFits, VoltasClosed}
use Rattle.bounds.proofs.TokenRanges.{tokens_fit}

-- NOTES
beam_fits : (b : Beam) (n : Note) → NoteFits n → NoteFits (with_beam b n)
beam_fits b n h = record { value_fits = h.value_fits; dots_fit = h.dots_fit; actual_fits = h.actual_fits; normal_fits = h.normal_fits; boundary_fits = h.boundary_fits; pitches_fit = h.pitches_fit }

-- halved
halved_fits : (k : ℕ) (n : Note) → NoteFits n → NoteFits (halved_note k n)
unfolding halved_note halved
halved_fits k n h =
    by_test (eqb n.value 10) (λ e. rw (e, halved_note) h)
    (λ e. rw (e, halved_note) (record { value_fits = omega arith; dots_fit = h.dots_fit; actual_fits = h.actual_fits; normal_fits = h.normal_fits; boundary_fits = h.boundary_fits; pitches_fit = h.pitches_fit }))

-- after a broken rhythm
broken_fits : (x : Half) (n : Note) → NoteFits n → NoteFits (broken_note x n)
unfolding broken_note dotted
broken_fits x n h =
    by_test x.up
    (λ e. rw (e, broken_note) (record { value_fits = h.value_fits; dots_fit = omega arith; actual_fits = h.actual_fits; normal_fits = h.normal_fits; boundary_fits = h.boundary_fits; pitches_fit = h.pitches_fit }))
    (λ e. rw (e, broken_note) (halved_fits x.times n h))

-- after the half that waited
half_fits : (x : Option Half) (n : Note) → NoteFits n → NoteFits (after_half x n)
unfolding after_half
half_fits none n h = h
half_fits (some x) n h = broken_fits x n h

-- a voice with a note more
beamed_fits : (r : ℕ) (n : Note) (ns : List Note) → NoteFits n → All NoteFits ns → All NoteFits (beamed r n ns)
unfolding beamed
beamed_fits zero n ns h k = (h, k)
beamed_fits (suc r) n ns h k =
    by_test (can_beam n)
    (λ e. rw (e, beamed) (beam_fits Notes.ends n h, All-on_first NoteFits _ (beam_fits (cond (eqb r 0) Notes.begins Notes.continues)) ns k))
    (λ e. rw (e, beamed) (h, k))

-- after the beam step once more
again_fits : (r : ℕ) (n : Note) → NoteFits n → NoteFits (beamed_again r n)
unfolding beamed_again
again_fits zero n h = by_test (can_beam n) (λ e. rw e h) (λ e. rw e (beam_fits Notes.unbeamed n h))
again_fits (suc r) n h = beam_fits (cond (can_beam n) Notes.ends Notes.unbeamed) n h

-- a boundary is 0 to 3
boundary_small : (a b : Bool) → boundary a b < 4
unfolding boundary
boundary_small true true = lit< tt
boundary_small true false = lit< tt
boundary_small false true = lit< tt
boundary_small false false = lit< tt

-- in a tuplet
grouped_fits : (t : Option Running) (n : Note) → RunningFits t → NoteFits n → NoteFits (grouped t n)
unfolding grouped group_in RunningFits
grouped_fits none n r h = h
grouped_fits (some t) n r h =
    record { value_fits = h.value_fits; dots_fit = h.dots_fit; actual_fits = r.0; normal_fits = r.1; boundary_fits = boundary_small (eqb t.remaining t.tuplet.count) (eqb t.remaining 1); pitches_fit = h.pitches_fit }

-- the tuplet after it
fewer_fits : (t : Option Running) → RunningFits t → RunningFits (one_fewer t)
unfolding one_fewer RunningFits
fewer_fits none r = tt
fewer_fits (some t) r = by_test (leb t.remaining 1) (λ e. rw e tt) (λ e. rw e r)

-- a rest
rest_fits : (k : NoteKind) (u : ℕ) (l : Length) → NoteFits (rest_note k (value_of u l))
unfolding rest_note
rest_fits Notes.sounded u l = record { value_fits = omega (arith, (value_range u l).0); dots_fit = omega (arith, (value_range u l).1); actual_fits = lit< tt; normal_fits = lit< tt; boundary_fits = lit< tt; pitches_fit = tt }
rest_fits Notes.rest u l = record { value_fits = omega (arith, (value_range u l).0); dots_fit = omega (arith, (value_range u l).1); actual_fits = lit< tt; normal_fits = lit< tt; boundary_fits = lit< tt; pitches_fit = tt }
rest_fits Notes.invisible_rest u l = record { value_fits = omega (arith, (value_range u l).0); dots_fit = omega (arith, (value_range u l).1); actual_fits = lit< tt; normal_fits = lit< tt; boundary_fits = lit< tt; pitches_fit = tt }
rest_fits Notes.bar_rest u l = record { value_fits = lit≤ tt; dots_fit = lit≤ tt; actual_fits = lit< tt; normal_fits = lit< tt; boundary_fits = lit< tt; pitches_fit = tt }
rest_fits Notes.invisible_bar_rest u l = record { value_fits = lit≤ tt; dots_fit = lit≤ tt; actual_fits = lit< tt; normal_fits = lit< tt; boundary_fits = lit< tt; pitches_fit = tt }

-- PITCHES
altered_fits : (w : Written) (a : Accidental) → WrittenFits w → SignFits (some a) → PitchFits (altered w a)
unfolding altered SignFits
altered_fits w a h m = record { step_fits = h.step_fits; octave_fits = h.octave_fits; alter_fits = m.0; cents_fits = m.1 }

-- a key alters by one at most
key_alter_small : (k : Key) (step : ℕ) → key_alter k step < 256
unfolding key_alter
key_alter_small k step =
    by_test (ltb (place step + 128) k.fifths) (λ e. rw (e, key_alter) (lit< tt))
    (λ e. rw (e, key_alter) (by_test (leb k.fifths (place step + 121)) (λ f. rw f (lit< tt)) (λ f. rw f (lit< tt))))

-- a pitch that is remembered, if one is
unfoldable Known : Option Pitch → Type 0
Known none = Unit {0}
Known (some p) = PitchFits p

-- what is remembered
remembered_fits : (sc : Scope) (w : Written) → All PitchFits sc → Known (remembered sc w)
unfolding remembered Known
remembered_fits [] w h = tt
remembered_fits (p ∷ ps) w h =
    by_test (eqb p.step w.step && eqb p.octave w.octave) (λ e. rw (e, remembered) h.0) (λ e. rw (e, remembered) (remembered_fits ps w h.1))

-- what is remembered, else as the key says
or_key_fits : (k : Key) (w : Written) (o : Option Pitch) → WrittenFits w → Known o → PitchFits (or_key k w o)
unfolding or_key Known
or_key_fits k w none h m = record { step_fits = h.step_fits; octave_fits = h.octave_fits; alter_fits = key_alter_small k w.step; cents_fits = lit< tt }
or_key_fits k w (some p) h m = m

-- as it sounds
sound_by_fits : (k : Key) (sc : Scope) (w : Written) (a : Option Accidental) → All PitchFits sc → WrittenFits w → SignFits a → PitchFits (sound_by k sc w a)
unfolding sound_by
sound_by_fits k sc w none h v m = or_key_fits k w (remembered sc w) v (remembered_fits sc w h)
sound_by_fits k sc w (some a) h v m = altered_fits w a v m

-- the scope after it
scope_by_fits : (sc : Scope) (w : Written) (a : Option Accidental) → All PitchFits sc → WrittenFits w → SignFits a → All PitchFits (scope_by sc w a)
unfolding scope_by
scope_by_fits sc w none h v m = h
scope_by_fits sc w (some a) h v m = (altered_fits w a v m, h)

-- all pitches of a chord
sounds_fit : (k : Key) (sc : Scope) (ws : List Written) → All PitchFits sc → All WrittenFits ws → All PitchFits (sounds_of k sc ws)
unfolding sounds_of sound_of scope_after
sounds_fit k sc [] h v = tt
sounds_fit k sc (w ∷ ws) h v =
    (sound_by_fits k sc w w.sign h v.0 v.0.mark_fits, sounds_fit k (scope_by sc w w.sign) ws (scope_by_fits sc w w.sign h v.0 v.0.mark_fits) v.1)

-- the scope after them
scopes_after_fit : (sc : Scope) (ws : List Written) → All PitchFits sc → All WrittenFits ws → All PitchFits (scope_after_all sc ws)
unfolding scope_after_all scope_after
scopes_after_fit sc [] h v = h
scopes_after_fit sc (w ∷ ws) h v = scopes_after_fit (scope_by sc w w.sign) ws (scope_by_fits sc w w.sign h v.0 v.0.mark_fits) v.1

-- MEASURES: while they are read, and a key mark and a volta in a finished part too
voices_measure : (vs : List (List Note)) (m : Measure) → All (All NoteFits) vs → OpenFits m → OpenFits (with_voices vs m)
voices_measure vs m v h = record { fits = record { voices_fit = v; meter_fits = h.fits.meter_fits; passes_fit = h.fits.passes_fit }; volta_open = h.volta_open }

-- another right barline
right_measure : (b : Barline) (m : Measure) → OpenFits m → OpenFits (with_right b m)
right_measure b m h = record { fits = record { voices_fit = h.fits.voices_fit; meter_fits = h.fits.meter_fits; passes_fit = h.fits.passes_fit }; volta_open = h.volta_open }

-- another left one
left_measure : (b : Barline) (m : Measure) → OpenFits m → OpenFits (with_left b m)
left_measure b m h = record { fits = record { voices_fit = h.fits.voices_fit; meter_fits = h.fits.meter_fits; passes_fit = h.fits.passes_fit }; volta_open = h.volta_open }

-- another meter
meter_measure : (t : Meter) → MeterFits t → (m : Measure) → OpenFits m → OpenFits (with_meter t m)
meter_measure t f m h = record { fits = record { voices_fit = h.fits.voices_fit; meter_fits = f; passes_fit = h.fits.passes_fit }; volta_open = h.volta_open }

-- a key mark
mark_measure : (k : Key) (m : Measure) → MeasureFits m → MeasureFits (with_key_mark k m)
mark_measure k m h = record { voices_fit = h.voices_fit; meter_fits = h.meter_fits; passes_fit = h.passes_fit }

mark_open : (k : Key) (m : Measure) → OpenFits m → OpenFits (with_key_mark k m)
mark_open k m h = record { fits = mark_measure k m h.fits; volta_open = h.volta_open }

-- a volta with its passes
volta_measure : (v : Volta) (ps : List ℕ) → PassesFit 0 ps → (m : Measure) → MeasureFits m → MeasureFits (with_volta v ps m)
volta_measure v ps f m h = record { voices_fit = h.voices_fit; meter_fits = h.meter_fits; passes_fit = f }

volta_begins_lem : (ps : List ℕ) → PassesFit 0 ps → (m : Measure) → OpenFits m → OpenFits (with_volta volta_begins ps m)
unfolding VoltaOpen
volta_begins_lem ps f m h = record { fits = volta_measure volta_begins ps f m h.fits; volta_open = tt }

-- a new one
new_measure_lem : (t : Meter) (b : Barline) → MeterFits t → OpenFits (new_measure t b)
unfolding new_measure PassesFit VoltaOpen
new_measure_lem t b f = record { fits = record { voices_fit = (tt, (tt, (tt, (tt, tt)))); meter_fits = f; passes_fit = tt }; volta_open = tt }

-- a barline without notes before it
left_set_lem : (b : Barline) (m : Measure) → OpenFits m → OpenFits (left_set b m)
unfolding left_set
left_set_lem normal m h = h
left_set_lem repeat_start m h = left_measure repeat_start m h
left_set_lem repeat_end m h = h
left_set_lem repeat_both m h = left_measure repeat_both m h
left_set_lem double m h = left_measure double m h
left_set_lem final m h = h

-- any barline
ended_fit : (b : Barline) (o : Bool) (t : Meter) (ms : List Measure) → MeterFits t → All OpenFits ms → All OpenFits (ended b o t ms)
unfolding ended
ended_fit b o t [] f h = tt
ended_fit b o t (m ∷ ms) f h =
    by_test (is_empty m) (λ e. rw (e, ended) (left_set_lem b m h.0, h.1)) (λ e. rw (e, ended) (opens o))
  where
    opens : (o : Bool) → All OpenFits (cond o (new_measure t (left_of b) ∷ with_right b m ∷ ms) (with_right b m ∷ ms))
    opens true = (new_measure_lem t (left_of b) f, (right_measure b m h.0, h.1))
    opens false = (right_measure b m h.0, h.1)

-- the voice being written
voice_fits : (o : ℕ) (ms : List Measure) → All OpenFits ms → All NoteFits (voice_in o ms)
unfolding voice_in
voice_fits o [] h = tt
voice_fits o (m ∷ ms) h = All-here (All NoteFits) m.voices h.0.fits.voices_fit o [] tt

now_fits : (s : PartState) → StateFits s → All NoteFits (voice_now s)
unfolding voice_now
now_fits s h = voice_fits s.line.overlay s.measures h.measures_fit

-- A STATE WITH OTHER MEASURES
measures_state : (s t : PartState) → StateFits s → All OpenFits t.measures → t.scopes ≡ s.scopes → t.line.meter ≡ s.line.meter → RunningFits t.line.tuplet → t.verses.verse ≡ s.verses.verse → t.verses.lines ≡ s.verses.lines → StateFits t
measures_state s t h m sc me ru ve li =
    record { measures_fit = m; scopes_fit = rw sc h.scopes_fit; meter_fits = rw me h.meter_fits; tuplet_fits = ru; verse_fits = rw ve h.verse_fits; lines_fit = rw li h.lines_fit }

set_voice_lem : (v : List Note) (s : PartState) → StateFits s → All NoteFits v → All OpenFits (set_voice v s).measures
unfolding set_voice on_open
set_voice_lem v s h k =
    All-on_first OpenFits _ (λ m f. voices_measure _ m (All-alter_at (All NoteFits) s.line.overlay (λ old. v) (λ x p. k) m.voices f.fits.voices_fit) f) s.measures h.measures_fit

open_state : (f : Measure → Measure) → ((m : Measure) → OpenFits m → OpenFits (f m)) → (s : PartState) → StateFits s → StateFits (on_open f s)
unfolding on_open
open_state f g s h =
    record { measures_fit = All-on_first OpenFits f g s.measures h.measures_fit; scopes_fit = h.scopes_fit; meter_fits = h.meter_fits; tuplet_fits = h.tuplet_fits; verse_fits = h.verse_fits; lines_fit = h.lines_fit }

broken_state : (up : Bool) (n : ℕ) (v : List Note) (s : PartState) → All NoteFits v → StateFits s → StateFits (on_broken up n v s)
unfolding on_broken set_voice on_open
broken_state up n [] s k h = h
broken_state up n (x ∷ xs) s k h =
    let b : Half = record { up = up; times = n } in
    measures_state s (on_broken up n (x ∷ xs) s) h (set_voice_lem (broken_note b x ∷ xs) s h (broken_fits b x k.0, k.1)) refl refl h.tuplet_fits refl refl

nothing_state : (v : List Note) (s : PartState) → All NoteFits v → StateFits s → StateFits (on_nothing v s)
unfolding on_nothing set_voice on_open
nothing_state [] s k h = record { measures_fit = h.measures_fit; scopes_fit = h.scopes_fit; meter_fits = h.meter_fits; tuplet_fits = h.tuplet_fits; verse_fits = h.verse_fits; lines_fit = h.lines_fit }
nothing_state (x ∷ xs) s k h =
    measures_state s (on_nothing (x ∷ xs) s) h (set_voice_lem (beamed_again s.line.run x ∷ xs) s h (again_fits s.line.run x k.0, k.1)) refl refl h.tuplet_fits refl refl

counted_verse : (o : ℕ) (n : Note) (v : Verses) → ((counted_in o n v).verse ≡ v.verse) × ((counted_in o n v).lines ≡ v.lines)
unfolding counted_in
counted_verse o n v = by_test (eqb o 0 && is_sounded n.kind) (λ e. rw e (refl, refl)) (λ e. rw e (refl, refl))

append_state : (n : Note) (s : PartState) → NoteFits n → StateFits s → StateFits (append n s)
unfolding append set_voice on_open
append_state n s f h =
    let l = s.line in
    let g = grouped l.tuplet n in
    let gf = grouped_fits l.tuplet n h.tuplet_fits f in
    let v = on_first (after_half l.half) (beamed l.run g (voice_now s)) in
    let vf : All NoteFits v = All-on_first NoteFits _ (half_fits l.half) (beamed l.run g (voice_now s)) (beamed_fits l.run g (voice_now s) gf (now_fits s h)) in
    measures_state s (append n s) h (set_voice_lem v s h vf) refl refl (fewer_fits l.tuplet h.tuplet_fits) (counted_verse l.overlay g s.verses).0 (counted_verse l.overlay g s.verses).1

sound_state : (ws : List Written) (l : Length) (b : Behind) (s : PartState) → All WrittenFits ws → StateFits s → StateFits (on_sound ws l b s)
unfolding on_sound sound_note
sound_state ws l b s f h =
    let o = s.line.overlay in
    let sc = get_or s.scopes o [] in
    let scf : All PitchFits sc = All-here (All PitchFits) s.scopes h.scopes_fit o [] tt in
    append_state _ _
    (record { value_fits = omega (arith, (value_range s.line.unit l).0); dots_fit = omega (arith, (value_range s.line.unit l).1); actual_fits = lit< tt; normal_fits = lit< tt; boundary_fits = lit< tt; pitches_fit = sounds_fit s.key sc ws scf f })
    (record { measures_fit = h.measures_fit; scopes_fit = All-alter_at (All PitchFits) o _ (λ x p. scopes_after_fit sc ws scf f) s.scopes h.scopes_fit; meter_fits = h.meter_fits; tuplet_fits = h.tuplet_fits; verse_fits = h.verse_fits; lines_fit = h.lines_fit })

no_scopes_fit : All (All PitchFits) no_scopes
no_scopes_fit = (tt, (tt, (tt, (tt, tt))))

-- a default that waits for the meter is 3 or 2
normal_in_fits : (m : Meter) (q : ℕ) → q < 256 → normal_in m q < 256
unfolding normal_in
normal_in_fits m zero h = by_test (compound m) (λ e. rw e (lit< tt)) (λ e. rw e (lit< tt))
normal_in_fits m (suc q) h = h

-- ANY TOKEN
pub token_state : (s : PartState) (t : Token) → TokenFits t → StateFits s → StateFits (on_token s t)
unfolding on_token on_barline hears in_meter TokenFits RunningFits
token_state s space f h = record { measures_fit = h.measures_fit; scopes_fit = h.scopes_fit; meter_fits = h.meter_fits; tuplet_fits = h.tuplet_fits; verse_fits = h.verse_fits; lines_fit = h.lines_fit }
token_state s overlay f h = record { measures_fit = h.measures_fit; scopes_fit = h.scopes_fit; meter_fits = h.meter_fits; tuplet_fits = h.tuplet_fits; verse_fits = h.verse_fits; lines_fit = h.lines_fit }
token_state s quoted f h = h
token_state s (broken up n) f h = broken_state up n (voice_now s) s (now_fits s h) h
token_state s (tuplet t) f h = record { measures_fit = h.measures_fit; scopes_fit = h.scopes_fit; meter_fits = h.meter_fits; tuplet_fits = (f.0, normal_in_fits s.line.meter t.normal f.1); verse_fits = h.verse_fits; lines_fit = h.lines_fit }
token_state s slur f h = record { measures_fit = h.measures_fit; scopes_fit = h.scopes_fit; meter_fits = h.meter_fits; tuplet_fits = h.tuplet_fits; verse_fits = h.verse_fits; lines_fit = h.lines_fit }
token_state s grace_open f h = record { measures_fit = h.measures_fit; scopes_fit = h.scopes_fit; meter_fits = h.meter_fits; tuplet_fits = h.tuplet_fits; verse_fits = h.verse_fits; lines_fit = h.lines_fit }
token_state s grace_close f h = record { measures_fit = h.measures_fit; scopes_fit = h.scopes_fit; meter_fits = h.meter_fits; tuplet_fits = h.tuplet_fits; verse_fits = h.verse_fits; lines_fit = h.lines_fit }
token_state s decoration f h = h
token_state s (barline b o) f h =
    record { measures_fit = ended_fit b o s.line.meter s.measures h.meter_fits h.measures_fit; scopes_fit = no_scopes_fit; meter_fits = h.meter_fits; tuplet_fits = h.tuplet_fits; verse_fits = h.verse_fits; lines_fit = h.lines_fit }
token_state s (volta ps) f h = open_state (with_volta volta_begins ps) (volta_begins_lem ps f) s h
token_state s (unit u) f h = record { measures_fit = h.measures_fit; scopes_fit = h.scopes_fit; meter_fits = h.meter_fits; tuplet_fits = h.tuplet_fits; verse_fits = h.verse_fits; lines_fit = h.lines_fit }
token_state s (meter t) f h =
    open_state (with_meter t) (meter_measure t f) _
    (record { measures_fit = h.measures_fit; scopes_fit = h.scopes_fit; meter_fits = f; tuplet_fits = h.tuplet_fits; verse_fits = h.verse_fits; lines_fit = h.lines_fit })
token_state s (key k) f h =
    open_state (with_key_mark k) (mark_open k) _
    (record { measures_fit = h.measures_fit; scopes_fit = no_scopes_fit; meter_fits = h.meter_fits; tuplet_fits = h.tuplet_fits; verse_fits = h.verse_fits; lines_fit = h.lines_fit })
token_state s field f h = h
token_state s (chord ws l b) f h = sound_state ws l b s f h
token_state s (rest k l) f h = append_state _ s (rest_fits k s.line.unit l) h
token_state s (note w l b) f h = sound_state (w ∷ []) l b s (f, tt) h
token_state s nothing f h = nothing_state (voice_now s) s (now_fits s h) h
token_state s skipped f h = h
token_state s (refused n) f h = h

tokens_state : (ts : List Token) (s : PartState) → All TokenFits ts → StateFits s → StateFits (foldl on_token s ts)
tokens_state [] s f h = h
tokens_state (t ∷ ts) s f h = tokens_state ts (on_token s t) f.1 (token_state s t f.0 h)

-- A MUSIC LINE
opened_fit : (t : Meter) (ms : List Measure) → MeterFits t → All OpenFits ms → All OpenFits (opened t ms)
unfolding opened
opened_fit t [] f h = (new_measure_lem t normal f, tt)
opened_fit t (m ∷ ms) f h = h

line_state : (ed : Edition) (u : ℕ) (t : Meter) (l : List ℕ) (s : PartState) → MeterFits t → StateFits s → StateFits (on_line ed u t l s)
unfolding on_line line_begins new_line RunningFits
line_state ed u t l s f h =
    tokens_state (tokens ed 0 l) (line_begins u t s) (tokens_fit ed 0 l)
    (record { measures_fit = opened_fit t s.measures f h.measures_fit; scopes_fit = h.scopes_fit; meter_fits = f; tuplet_fits = tt; verse_fits = (lit≤ tt, lit≤ tt); lines_fit = h.lines_fit })

-- A LYRIC LINE
next_fits : (b : Bool) (v : ℕ) → VerseFits v → VerseFits (cond b (next_verse v) v)
unfolding next_verse
next_fits true v h = (omega arith, omega arith)
next_fits false v h = h

key_state : (header k : Key) (ms : List Measure) (s : PartState) → StateFits s → StateFits (on_key header k ms s)
unfolding on_key hears
key_state header k [] s h = record { measures_fit = h.measures_fit; scopes_fit = no_scopes_fit; meter_fits = h.meter_fits; tuplet_fits = h.tuplet_fits; verse_fits = h.verse_fits; lines_fit = h.lines_fit }
key_state header k (m ∷ ms) s h =
    open_state (with_key_mark k) (mark_open k) _
    (record { measures_fit = h.measures_fit; scopes_fit = no_scopes_fit; meter_fits = h.meter_fits; tuplet_fits = h.tuplet_fits; verse_fits = h.verse_fits; lines_fit = h.lines_fit })

-- ANY ITEM
pub item_state : (ed : Edition) (header : Key) (s : PartState) (i : Item) → ItemFits i → StateFits s → StateFits (on_item ed header s i)
unfolding on_item on_lyric ItemFits
item_state ed header s (voice_declared b) f h = record { measures_fit = h.measures_fit; scopes_fit = h.scopes_fit; meter_fits = h.meter_fits; tuplet_fits = h.tuplet_fits; verse_fits = h.verse_fits; lines_fit = h.lines_fit }
item_state ed header s reset f h = record { measures_fit = h.measures_fit; scopes_fit = h.scopes_fit; meter_fits = h.meter_fits; tuplet_fits = h.tuplet_fits; verse_fits = h.verse_fits; lines_fit = h.lines_fit }
item_state ed header s key_in_header f h = record { measures_fit = h.measures_fit; scopes_fit = h.scopes_fit; meter_fits = h.meter_fits; tuplet_fits = h.tuplet_fits; verse_fits = h.verse_fits; lines_fit = h.lines_fit }
item_state ed header s (key_change k) f h = key_state header k s.measures s h
item_state ed header s (meter_change t) f h = open_state (with_meter t) (meter_measure t f) s h
item_state ed header s (lyric_line b t) f h =
    record { measures_fit = h.measures_fit; scopes_fit = h.scopes_fit; meter_fits = h.meter_fits; tuplet_fits = h.tuplet_fits; verse_fits = next_fits b s.verses.verse h.verse_fits; lines_fit = (record { verse_fits = h.verse_fits; text_fits = f }, h.lines_fit) }
item_state ed header s (music_line u t l) f h = line_state ed u t l s f h

pub items_state : (ed : Edition) (header : Key) (is : List Item) (s : PartState) → All ItemFits is → StateFits s → StateFits (foldl (on_item ed header) s is)
items_state ed header [] s f h = h
items_state ed header (i ∷ is) s f h = items_state ed header is (on_item ed header s i) f.1 (item_state ed header s i f.0 h)

-- a part begins so
pub new_part_fits : StateFits new_part
unfolding new_part new_line RunningFits
new_part_fits = record { measures_fit = tt; scopes_fit = no_scopes_fit; meter_fits = (lit< tt, lit< tt); tuplet_fits = tt; verse_fits = (lit≤ tt, lit≤ tt); lines_fit = tt }

-- THE END OF A PART
dropped_fit : (ms : List Measure) → All OpenFits ms → All OpenFits (dropped ms)
unfolding dropped
dropped_fit [] h = tt
dropped_fit (m ∷ []) h = h
dropped_fit (m ∷ n ∷ ms) h =
    let k : All OpenFits (dropped (n ∷ ms)) = dropped_fit (n ∷ ms) h.1 in
    by_test (is_empty m) (λ e. rw (e, dropped) k) (λ e. rw (e, dropped) h)

reversed_fit : (vs : List (List Note)) → All (All NoteFits) vs → All (All NoteFits) (map reverse vs)
reversed_fit [] h = tt
reversed_fit (v ∷ vs) h = (All-reverse NoteFits v h.0, reversed_fit vs h.1)

order_fit : (ms : List Measure) → All OpenFits ms → All OpenFits (map in_order ms)
unfolding in_order
order_fit [] h = tt
order_fit (m ∷ ms) h =
    let f = h.0.fits in
    (record { fits = record { voices_fit = reversed_fit m.voices f.voices_fit; meter_fits = f.meter_fits; passes_fit = f.passes_fit }; volta_open = h.0.volta_open }, order_fit ms h.1)

unfoldable SpanFits : Option (List ℕ) → Type 0
SpanFits none = Unit {0}
SpanFits (some ps) = PassesFit 0 ps

close_fit : (o : Option (List ℕ)) (ms : List Measure) → SpanFits o → All MeasureFits ms → All MeasureFits (close o ms)
unfolding close SpanFits
close_fit o [] f h = tt
close_fit none (m ∷ ms) f h =
    let k : All MeasureFits (close none ms) = close_fit none ms tt h.1 in
    let l : All MeasureFits (close (some m.passes) ms) = close_fit (some m.passes) ms h.0.passes_fit h.1 in
    by_test (starts m)
    (λ e. rw (e, close) (by_test (ends_at m ms) (λ g. rw (g, close) (volta_measure _ m.passes h.0.passes_fit m h.0, k)) (λ g. rw (g, close) (h.0, l))))
    (λ e. rw (e, close) (h.0, k))
close_fit (some ps) (m ∷ ms) f h =
    let k : All MeasureFits (close none ms) = close_fit none ms tt h.1 in
    let l : All MeasureFits (close (some ps) ms) = close_fit (some ps) ms f h.1 in
    by_test (ends_at m ms) (λ g. rw (g, close) (volta_measure _ ps f m h.0, k)) (λ g. rw (g, close) (h.0, l))

marked_by_fit : (header : Key) (m : Measure) (k : Option Key) → MeasureFits m → MeasureFits (marked_by header m k)
unfolding marked_by
marked_by_fit header m none h = mark_measure header m h
marked_by_fit header m (some k) h = h

marked_fit : (header : Key) (ms : List Measure) → All MeasureFits ms → All MeasureFits (marked header ms)
unfolding marked
marked_fit header [] h = tt
marked_fit header (m ∷ ms) h = (marked_by_fit header m m.key h.0, h.1)

-- the first key mark changes no volta
mark_volta : (header : Key) (m : Measure) (k : Option Key) → (marked_by header m k).volta ≡ m.volta
unfolding marked_by
mark_volta header m none = refl
mark_volta header m (some k) = refl

marked_voltas : (header : Key) (ms : List Measure) → map (λ (m : Measure). m.volta) (marked header ms) ≡ map (λ (m : Measure). m.volta) ms
unfolding marked
marked_voltas header [] = refl
marked_voltas header (m ∷ ms) = ap (λ (v : Volta). v ∷ map (λ (m : Measure). m.volta) ms) (mark_volta header m m.key)

-- the measures of a part in order, before their voltas are closed
abbrev ordered : PartState → List Measure
ordered s = map in_order (reverse (dropped s.measures))

ordered_fit : (s : PartState) → StateFits s → All OpenFits (ordered s)
ordered_fit s h = order_fit (reverse (dropped s.measures)) (All-reverse OpenFits (dropped s.measures) (dropped_fit s.measures h.measures_fit))

-- the measures of a finished part
pub finished_fit : (ed : Edition) (header : Key) (s : PartState) → StateFits s → All MeasureFits (finished ed header s).measures
unfolding finished finished_measures closed SpanFits
finished_fit ed header s h = marked_fit header (close none (ordered s)) (close_fit none (ordered s) tt (All-map OpenFits MeasureFits (λ m f. f.fits) (ordered s) (ordered_fit s h)))

-- their voltas
pub finished_voltas : (ed : Edition) (header : Key) (s : PartState) → StateFits s → VoltasClosed (finished ed header s).measures
unfolding finished finished_measures
finished_voltas ed header s h =
    record { before = ordered s; opens = All-map OpenFits (λ (m : Measure). VoltaOpen m.volta) (λ m f. f.volta_open) (ordered s) (ordered_fit s h); same = marked_voltas header (closed (ordered s)) }
