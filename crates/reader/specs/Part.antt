-- ONE PART FROM ITS OWN ITEMS: the fold of tokens and items into measures (document 01, "Rules behind the records"; 000, parse_body_line).
use Rattle.std.specs.Prelude.{ℕ, zero, suc, ◌+◌, ◌-◌, Bool, true, false, cond, not, ◌&&◌, List, [], ◌∷◌, map, reverse, leb, eqb, get_or, replicate}
use Rattle.std.proofs.Math.Option.{Option, none, some}
use Rattle.laws.specs.Lists.{foldl, alter_at, on_first}
use Rattle.standard.specs.Lengths.{Value, dotted, halved}
use Rattle.standard.specs.Keys.{Key, plain_key, voice_key}
use Rattle.standard.specs.Pitches.{Written, Pitch}
use Rattle.standard.specs.Tuplets.{Tuplet, normal_in, boundary}
use Rattle.standard.specs.Bars.{Barline, normal, repeat_start, repeat_end, repeat_both, double, final}
use Rattle.standard.specs.Notes
use Rattle.standard.specs.Notes.{NoteKind, is_sounded, Beam, beamable, Flags, Behind, Pending, nothing_pending, flags_of, pending_after, slur_opens, grace_opens, grace_closes, next_voice}
use Rattle.standard.specs.Lyrics.{next_verse, takes_none}
use Rattle.standard.specs.Fields.{Meter}
use Rattle.editions.specs.declared.Edition.{Edition}
use Rattle.editions.specs.declared.Edition.TheVariants.{First, Second}
use Rattle.reader.specs.Lengths.{Length, value_of}
use Rattle.reader.specs.Pitches.{sounds_of, scope_after_all}
use Rattle.reader.specs.Token.{Token, space, overlay, quoted, broken, tuplet, slur, grace_open, grace_close, decoration, barline, volta, unit, meter, key, field, chord, rest, note, nothing, skipped, refused}
use Rattle.reader.specs.Barlines.{left_of}
use Rattle.reader.specs.Tokens.{tokens}
use Rattle.reader.specs.Scan.{Item, voice_declared, reset, key_in_header, key_change, meter_change, lyric_line, music_line}
use Rattle.reader.specs.State.{Group, Note, volta_begins, Measure, Half, Running, Verses, PartState, with_beam, with_value, with_group, with_left, with_right, with_meter, with_key_mark, with_volta, set_key, set_scopes, set_measures, set_pending, set_verses, set_line, with_run, with_overlay, with_half, with_tuplet, with_unit, with_time, no_scopes, new_measure, new_line, new_part, on_open, is_empty, voice_now, set_voice}
use Rattle.reader.specs.Voltas.{closed}
use Rattle.reader.specs.Lyrics.{Syllable, sung_in}

-- BROKEN RHYTHM (ABC 2.1, 4.4; 000, apply_abc_broken_rhythm): "n `>` add n dots to the last note (at most 3) and halve the next n times,
-- stopping at the 128th". A note's value and dots after n dots, or after n halvings
abbrev pub value_in : Note → Value
value_in n = record { value = n.value; dots = n.dots }

abbrev pub written_on : Value → Note → Note
written_on w n = with_value w.value w.dots n

-- "A whole bar keeps value 10"
unfoldable pub halved_note : ℕ → Note → Note
halved_note n x = elim (eqb x.value 10) [ true ↦ x | false ↦ written_on (halved n (value_in x)) x ]

unfoldable pub broken_note : Half → Note → Note
broken_note h x = elim h.up [ true ↦ written_on (dotted h.times (value_in x)) x | false ↦ halved_note h.times x ]

-- "No last note in the voice and measure: nothing"
unfoldable pub on_broken : Bool → ℕ → List Note → PartState → PartState
on_broken up n [] s = s
on_broken up n (x ∷ xs) s =
    set_line (with_half (some (record { up = not up; times = n })) s.line) (set_voice (broken_note (record { up = up; times = n }) x ∷ xs) s)

-- the half that waited for this note
unfoldable pub after_half : Option Half → Note → Note
after_half none n = n
after_half (some h) n = broken_note h n

-- BEAMS (ABC 2.1, 4.7; 000, update_abc_beam_run)
abbrev pub can_beam : Note → Bool
can_beam n = beamable n.kind n.value

-- a new note n behind the others of its voice, where the run has r notes: it ends the beam, and the one before it begins or continues it
unfoldable pub beamed : ℕ → Note → List Note → List Note
beamed zero n ns = n ∷ ns
beamed (suc r) n ns =
    elim (can_beam n) [ true ↦ with_beam Notes.ends n ∷ on_first (with_beam (cond (eqb r 0) Notes.begins Notes.continues)) ns | false ↦ n ∷ ns ]

-- the run after a note: one longer, or over ("A rest has neither beam nor flag 32, and ends a beam")
unfoldable pub run_after : ℕ → Note → ℕ
run_after r n = cond (can_beam n) (suc r) 0

-- the step taken once more on the last note, after an empty chord or an accidental without a note ("`A[]`: A's beam is 3")
unfoldable pub beamed_again : ℕ → Note → Note
beamed_again zero n = cond (can_beam n) n (with_beam Notes.unbeamed n)
beamed_again (suc r) n = with_beam (cond (can_beam n) Notes.ends Notes.unbeamed) n

-- an empty chord or an accidental without a note: the beam step on the voice's last note, if there is one
unfoldable pub on_nothing : List Note → PartState → PartState
on_nothing [] s = set_line (with_run 0 s.line) s
on_nothing (n ∷ ns) s = set_line (with_run (run_after s.line.run n) s.line) (set_voice (beamed_again s.line.run n ∷ ns) s)

-- TUPLETS (ABC 2.1, 4.13; 000, apply_abc_tuplet). A tuplet under the meter in force where it is written
unfoldable pub in_meter : Meter → Tuplet → Tuplet
in_meter m t = record { actual = t.actual; normal = normal_in m t.normal; count = t.count }

-- a note in the tuplet that is being read
unfoldable pub group_in : Running → Group
group_in t =
    record {
      actual = t.tuplet.actual;
      normal = t.tuplet.normal;
      boundary = boundary (eqb t.remaining t.tuplet.count) (eqb t.remaining 1);
    }

unfoldable pub grouped : Option Running → Note → Note
grouped none n = n
grouped (some t) n = with_group (group_in t) n

-- the tuplet after a note: over when its count is used up
unfoldable pub one_fewer : Option Running → Option Running
one_fewer none = none
one_fewer (some t) = cond (leb t.remaining 1) none (some (record { tuplet = t.tuplet; remaining = t.remaining - 1 }))

-- A NOTE, REST OR CHORD goes to the end of its voice; a voice 0 note that is no rest is counted for the lyrics
unfoldable pub counted_in : ℕ → Note → Verses → Verses
counted_in o n v =
    cond (eqb o 0 && is_sounded n.kind) (record { sounded = suc v.sounded; start = v.start; verse = v.verse; lines = v.lines }) v

-- "Beams use the length before the next-note half of broken rhythm"
unfoldable pub append : Note → PartState → PartState
append n s =
    let l = s.line in
    let g = grouped l.tuplet n in
    let l' = with_tuplet (one_fewer l.tuplet) (with_half none (with_run (run_after l.run g) l)) in
    set_line l' (set_verses (counted_in l.overlay g s.verses) (set_voice (on_first (after_half l.half) (beamed l.run g (voice_now s))) s))

-- no flag
abbrev pub no_flags : Flags
no_flags = record { tie_start = false; tie_end = false; slur_start = false; slur_end = false; grace = false }

-- "tuplet actual, normal (0, 0 if none)"
abbrev pub no_group : Group
no_group = record { actual = 0; normal = 0; boundary = 0 }

-- a rest with its value
abbrev pub rest_with : NoteKind → ℕ → ℕ → Note
rest_with k v d = record { kind = k; value = v; dots = d; flags = no_flags; beam = Notes.unbeamed; group = no_group; pitches = [] }

-- z and x have a written value; Z and X are a whole bar, value 10
unfoldable pub rest_note : NoteKind → Value → Note
rest_note Notes.sounded w = rest_with Notes.sounded w.value w.dots
rest_note Notes.rest w = rest_with Notes.rest w.value w.dots
rest_note Notes.invisible_rest w = rest_with Notes.invisible_rest w.value w.dots
rest_note Notes.bar_rest w = rest_with Notes.bar_rest 10 0
rest_note Notes.invisible_bar_rest w = rest_with Notes.invisible_bar_rest 10 0

-- a note or chord with its flags: the pending tie end, slur start and grace, and what stands behind it (ABC 2.1, 4.11, 4.12)
unfoldable pub sound_note : Value → Pending → Behind → List Pitch → Note
sound_note w p b ps =
    record { kind = Notes.sounded; value = w.value; dots = w.dots; flags = flags_of p b; beam = Notes.unbeamed; group = no_group; pitches = ps }

-- a note or chord: its pitches by key and scope, which it changes; it takes the pending tie end and slur start
unfoldable pub on_sound : List Written → Length → Behind → PartState → PartState
on_sound ws l b s =
    let o = s.line.overlay in
    let sc = get_or s.scopes o [] in
    let n = sound_note (value_of s.line.unit l) s.pending b (sounds_of s.key sc ws) in
    append n (set_scopes (alter_at o (λ old. scope_after_all sc ws) s.scopes) (set_pending (pending_after s.pending b) s))

-- BARLINES: "A barline on a measure without notes only sets its left barline, and that only to 1, 3 or 4; any other leaves it unchanged"
unfoldable pub left_set : Barline → Measure → Measure
left_set normal m = m
left_set repeat_start m = with_left repeat_start m
left_set repeat_end m = m
left_set repeat_both m = with_left repeat_both m
left_set double m = with_left double m
left_set final m = m

-- "No new measure opens if `]` follows"
unfoldable pub ended : Barline → Bool → Meter → List Measure → List Measure
ended b opens t [] = []
ended b opens t (m ∷ ms) =
    elim (is_empty m) [ true ↦ left_set b m ∷ ms | false ↦ cond opens (new_measure t (left_of b) ∷ with_right b m ∷ ms) (with_right b m ∷ ms) ]

-- "a barline or line end goes back" to voice 0; the accidentals' scopes end
unfoldable pub on_barline : Barline → Bool → PartState → PartState
on_barline b opens s = set_scopes no_scopes (set_line (with_overlay 0 s.line) (set_measures (ended b opens s.line.meter s.measures) s))

-- A KEY HEARD clears the scopes
unfoldable pub hears : Key → PartState → PartState
hears k s = set_scopes no_scopes (set_key k s)

-- WHAT A TOKEN DOES
unfoldable pub on_token : PartState → Token → PartState
on_token s space = set_line (with_run 0 s.line) s
on_token s overlay = set_line (with_overlay (next_voice s.line.overlay) s.line) s
on_token s quoted = s
on_token s (broken up n) = on_broken up n (voice_now s) s
on_token s (tuplet t) = set_line (with_tuplet (some (record { tuplet = in_meter s.line.meter t; remaining = t.count })) s.line) s
on_token s slur = set_pending (slur_opens s.pending) s
on_token s grace_open = set_pending (grace_opens s.pending) s
on_token s grace_close = set_pending (grace_closes s.pending) s
on_token s decoration = s
on_token s (barline b o) = on_barline b o s
on_token s (volta ps) = on_open (with_volta volta_begins ps) s
on_token s (unit u) = set_line (with_unit u s.line) s
on_token s (meter t) = on_open (with_meter t) (set_line (with_time t s.line) s)
on_token s (key k) = on_open (with_key_mark k) (hears k s)
on_token s field = s
on_token s (chord ws l b) = on_sound ws l b s
on_token s (rest k l) = append (rest_note k (value_of s.line.unit l)) s
on_token s (note w l b) = on_sound (w ∷ []) l b s
on_token s nothing = on_nothing (voice_now s) s
on_token s skipped = s
on_token s (refused n) = s

-- A MUSIC LINE opens the part's first measure, and a new place for verses
unfoldable pub opened : Meter → List Measure → List Measure
opened t [] = new_measure t normal ∷ []
opened t (m ∷ ms) = m ∷ ms

-- the line's start: its first note is the next one; verses begin at 1 again
unfoldable pub line_begins : ℕ → Meter → PartState → PartState
line_begins u t s =
    set_verses (record { sounded = s.verses.sounded; start = s.verses.sounded; verse = 1; lines = s.verses.lines })
    (set_line (new_line u t) (set_measures (opened t s.measures) s))

-- a music line: its tokens from left to right
unfoldable pub on_line : Edition → ℕ → Meter → List ℕ → PartState → PartState
on_line ed u t l s = foldl on_token (line_begins u t s) (tokens ed 0 l)

-- A LYRIC LINE is kept for the end; the next one is the next verse, "verse 1 to 32". Without a place for verses none is counted (000)
unfoldable pub on_lyric : Bool → List ℕ → PartState → PartState
on_lyric placed t s =
    let v = s.verses in
    set_verses
    (record { sounded = v.sounded; start = v.start; verse = cond placed (next_verse v.verse) v.verse; lines = record { start = v.start; verse = v.verse; text = t } ∷ v.lines })
    s

-- A BODY K LINE: "in a voice with no measure yet falls back to the header's key"
unfoldable pub on_key : Key → Key → List Measure → PartState → PartState
on_key header k [] s = hears header s
on_key header k (m ∷ ms) s = on_open (with_key_mark k) (hears k s)

-- WHICH VOICES HEAR THE HEADER'S KEY ("of those only the current one hears it; voices first named later start with it"): the one place where
-- its reach is decided. A part first named in the header starts with C major. In the second edition "the header key holds for every voice" (ABC 2.1, 7.1)
unfoldable pub first_key : Edition → Key → Bool → Key
first_key First header in_header = cond in_header plain_key header
first_key Second header in_header = voice_key header

-- WHAT AN ITEM DOES
unfoldable pub on_item : Edition → Key → PartState → Item → PartState
on_item ed header s (voice_declared in_header) = set_key (first_key ed header in_header) s
on_item ed header s reset = set_pending nothing_pending s
on_item ed header s key_in_header = set_key header s
on_item ed header s (key_change k) = on_key header k s.measures s
on_item ed header s (meter_change t) = on_open (with_meter t) s
on_item ed header s (lyric_line placed t) = on_lyric placed t s
on_item ed header s (music_line u t l) = on_line ed u t l s

-- THE END OF A PART
-- its measures and, for each note of voice 0 that is no rest, its syllables
pub record Part : Type 0 where
  pub measures : List Measure
  pub words : List (List Syllable)

-- a part without a music line: no measure, so no note and no syllable
unfoldable pub empty_part : Part
empty_part = record { measures = []; words = [] }

-- empty measures at the end go, but not the only one (newest first)
unfoldable pub dropped : List Measure → List Measure
dropped [] = []
dropped (m ∷ []) = m ∷ []
dropped (m ∷ n ∷ ms) = elim (is_empty m) [ true ↦ dropped (n ∷ ms) | false ↦ m ∷ n ∷ ms ]

-- notes as written
unfoldable pub in_order : Measure → Measure
in_order m =
    record { voices = map reverse m.voices; left = m.left; right = m.right; meter = m.meter; key = m.key; volta = m.volta; passes = m.passes }

-- "The first measure always has a key mark"
unfoldable pub marked_by : Key → Measure → Option Key → Measure
marked_by header m none = with_key_mark header m
marked_by header m (some k) = m

unfoldable pub marked : Key → List Measure → List Measure
marked header [] = []
marked header (m ∷ ms) = marked_by header m m.key ∷ ms

-- THE NOTES THAT TAKE A SYLLABLE in the second edition ("grace notes take no syllable"), of a voice 0 in which n notes that are no rests stand before these
unfoldable pub takers : ℕ → List Note → List ℕ
takers n [] = []
takers n (x ∷ xs) =
    elim (is_sounded x.kind) [
      | true ↦ elim (takes_none x.flags) [ true ↦ takers (suc n) xs | false ↦ n ∷ takers (suc n) xs ]
      | false ↦ takers n xs
    ]

-- how many notes are no rests
unfoldable pub sounded_in : List Note → ℕ
sounded_in [] = 0
sounded_in (x ∷ xs) = elim (is_sounded x.kind) [ true ↦ suc (sounded_in xs) | false ↦ sounded_in xs ]

-- measure by measure
unfoldable pub takers_in : ℕ → List Measure → List (List ℕ)
takers_in n [] = []
takers_in n (m ∷ ms) = let v = get_or m.voices 0 [] in takers n v ∷ takers_in (n + sounded_in v) ms

-- the measures at the end: in order, voltas closed, first key mark
unfoldable pub finished_measures : Key → PartState → List Measure
finished_measures header s = marked header (closed (map in_order (reverse (dropped s.measures))))

-- the part when its last item is read: its measures, and its lyrics
unfoldable pub finished : Edition → Key → PartState → Part
finished ed header s =
    let ms = finished_measures header s in
    record { measures = ms; words = sung_in ed (takers_in 0 ms) (reverse s.verses.lines) (replicate s.verses.sounded []) }

-- ONE PART from the header's key and its own items
unfoldable pub build : Edition → Key → List Item → Part
build ed header items = finished ed header (foldl (on_item ed header) new_part items)
