-- A PART AS THE CODE KEEPS IT, and what tokens and items do to it. The plain definition (reader/specs/Part) keeps four lists of notes in each measure; here
-- all notes of the part stand in one log in the order written, each with its overlay voice, and a measure is a head that counts the notes of its four
-- voices. Both give the same sections (`same_sections` in proofs/): a signer reads the plain one, the code is proved against this one.
use Rattle.std.specs.Prelude.{ℕ, zero, suc, ◌+◌, Bool, true, false, cond, not, ◌&&◌, List, [], ◌∷◌, ◌++◌, eqb, length, get_or}
use Rattle.std.proofs.Math.Option.{Option, none, some}
use Rattle.laws.specs.Lists.{foldl, all, alter_at, sum}
use Rattle.standard.specs.Pitches.{Written}
use Rattle.standard.specs.Keys.{Key, plain_key}
use Rattle.standard.specs.Bars.{Barline, normal, repeat_start, repeat_end, repeat_both, double, final}
use Rattle.standard.specs.Notes
use Rattle.standard.specs.Notes.{Behind, Pending, nothing_pending, pending_after, slur_opens, grace_opens, grace_closes, next_voice}
use Rattle.standard.specs.Fields.{Meter}
use Rattle.editions.specs.declared.Edition.{Edition}
use Rattle.reader.specs.Lengths.{Length, value_of}
use Rattle.reader.specs.Pitches.{Scope, sounds_of, scope_after_all}
use Rattle.reader.specs.Token.{Token, space, overlay, quoted, broken, tuplet, slur, grace_open, grace_close, decoration, barline, volta, unit, meter, key, field, chord, rest, note, nothing, skipped, refused}
use Rattle.reader.specs.Barlines.{left_of}
use Rattle.reader.specs.Tokens.{tokens}
use Rattle.reader.specs.Scan.{Item, voice_declared, reset, key_in_header, key_change, meter_change, lyric_line, music_line}
use Rattle.reader.specs.State.{Note, Volta, no_volta, volta_begins, Half, Line, Verses, with_beam, with_run, with_overlay, with_half, with_tuplet, with_unit, with_time, no_scopes, new_line}
use Rattle.reader.specs.Part.{broken_note, after_half, can_beam, run_after, beamed_again, in_meter, grouped, one_fewer, counted_in, rest_note, sound_note, first_key}

-- a measure without its notes: how many each of its four voices has
pub record Head : Type 0 where
  pub counts : List ℕ
  pub left : Barline
  pub right : Barline
  pub meter : Meter
  pub key : Option Key
  pub volta : Volta
  pub passes : List ℕ

-- a part: its notes in the order written, each with its voice; its measures, the first one first; for each voice the place of its last note in the
-- open measure, counted from 1, 0 if it has none
pub record LogState : Type 0 where
  pub key : Key
  pub scopes : List Scope
  pub log : List (ℕ × Note)
  pub heads : List Head
  pub last : List ℕ
  pub pending : Pending
  pub verses : Verses
  pub line : Line

-- how many notes a measure has
unfoldable pub notes_in : Head → ℕ
notes_in m = sum (λ n. n) m.counts

-- CHANGING ONE THING
abbrev pub with_counts : List ℕ → Head → Head
with_counts c m = record { counts = c; left = m.left; right = m.right; meter = m.meter; key = m.key; volta = m.volta; passes = m.passes }

abbrev pub with_left : Barline → Head → Head
with_left l m = record { counts = m.counts; left = l; right = m.right; meter = m.meter; key = m.key; volta = m.volta; passes = m.passes }

abbrev pub with_right : Barline → Head → Head
with_right r m = record { counts = m.counts; left = m.left; right = r; meter = m.meter; key = m.key; volta = m.volta; passes = m.passes }

abbrev pub with_meter : Meter → Head → Head
with_meter t m = record { counts = m.counts; left = m.left; right = m.right; meter = t; key = m.key; volta = m.volta; passes = m.passes }

abbrev pub with_key_mark : Key → Head → Head
with_key_mark k m = record { counts = m.counts; left = m.left; right = m.right; meter = m.meter; key = some k; volta = m.volta; passes = m.passes }

abbrev pub with_volta : Volta → List ℕ → Head → Head
with_volta v ps m = record { counts = m.counts; left = m.left; right = m.right; meter = m.meter; key = m.key; volta = v; passes = ps }

abbrev pub set_key : Key → LogState → LogState
set_key k s = record { key = k; scopes = s.scopes; log = s.log; heads = s.heads; last = s.last; pending = s.pending; verses = s.verses; line = s.line }

abbrev pub set_scopes : List Scope → LogState → LogState
set_scopes c s = record { key = s.key; scopes = c; log = s.log; heads = s.heads; last = s.last; pending = s.pending; verses = s.verses; line = s.line }

abbrev pub set_log : List (ℕ × Note) → LogState → LogState
set_log l s = record { key = s.key; scopes = s.scopes; log = l; heads = s.heads; last = s.last; pending = s.pending; verses = s.verses; line = s.line }

abbrev pub set_heads : List Head → LogState → LogState
set_heads h s = record { key = s.key; scopes = s.scopes; log = s.log; heads = h; last = s.last; pending = s.pending; verses = s.verses; line = s.line }

abbrev pub set_last : List ℕ → LogState → LogState
set_last l s = record { key = s.key; scopes = s.scopes; log = s.log; heads = s.heads; last = l; pending = s.pending; verses = s.verses; line = s.line }

abbrev pub set_pending : Pending → LogState → LogState
set_pending p s = record { key = s.key; scopes = s.scopes; log = s.log; heads = s.heads; last = s.last; pending = p; verses = s.verses; line = s.line }

abbrev pub set_verses : Verses → LogState → LogState
set_verses v s = record { key = s.key; scopes = s.scopes; log = s.log; heads = s.heads; last = s.last; pending = s.pending; verses = v; line = s.line }

abbrev pub set_line : Line → LogState → LogState
set_line l s = record { key = s.key; scopes = s.scopes; log = s.log; heads = s.heads; last = s.last; pending = s.pending; verses = s.verses; line = l }

-- THE BEGINNING
abbrev pub no_counts : List ℕ
no_counts = 0 ∷ 0 ∷ 0 ∷ 0 ∷ []

unfoldable pub new_head : Meter → Barline → Head
new_head t left = record { counts = no_counts; left = left; right = normal; meter = t; key = none; volta = no_volta; passes = [] }

unfoldable pub new_log : LogState
new_log =
    record {
      key = plain_key;
      scopes = no_scopes;
      log = [];
      heads = [];
      last = no_counts;
      pending = nothing_pending;
      verses = record { sounded = 0; start = 0; verse = 1; lines = [] };
      line = new_line 8 (4, 4);
    }

-- THE OPEN MEASURE is the last head
unfoldable pub on_last_head : (Head → Head) → List Head → List Head
on_last_head f [] = []
on_last_head f (m ∷ []) = f m ∷ []
on_last_head f (m ∷ n ∷ ms) = m ∷ on_last_head f (n ∷ ms)

unfoldable pub on_open : (Head → Head) → LogState → LogState
on_open f s = set_heads (on_last_head f s.heads) s

-- no voice has a note
abbrev pub is_empty_head : Head → Bool
is_empty_head m = all (eqb 0) m.counts

-- the last head is empty; there is one
unfoldable pub open_is_empty : List Head → Bool
open_is_empty [] = true
open_is_empty (m ∷ []) = is_empty_head m
open_is_empty (m ∷ n ∷ ms) = open_is_empty (n ∷ ms)

-- THE VOICE BEING WRITTEN: the place of its last note, from 1
unfoldable pub last_place : LogState → ℕ
last_place s = get_or s.last s.line.overlay 0

-- the note at a place changed; nothing at place 0
unfoldable pub at_place : ℕ → (Note → Note) → List (ℕ × Note) → List (ℕ × Note)
at_place zero f log = log
at_place (suc i) f log = alter_at i (λ (x : ℕ × Note). (x.0, f x.1)) log

-- BROKEN RHYTHM
unfoldable pub on_broken : Bool → ℕ → ℕ → LogState → LogState
on_broken up n zero s = s
on_broken up n (suc i) s =
    set_line (with_half (some (record { up = not up; times = n })) s.line)
    (set_log (at_place (suc i) (broken_note (record { up = up; times = n })) s.log) s)

-- BEAMS: a new note, where the run has r notes; and the voice's last note before it
unfoldable pub beamed_new : ℕ → Note → Note
beamed_new zero n = n
beamed_new (suc r) n = cond (can_beam n) (with_beam Notes.ends n) n

unfoldable pub beamed_before : ℕ → Note → Note → Note
beamed_before zero n x = x
beamed_before (suc r) n x = cond (can_beam n) (with_beam (cond (eqb r 0) Notes.begins Notes.continues) x) x

-- the note at a place, taken once more for the beam
unfoldable pub note_at : ℕ → List (ℕ × Note) → Option Note
note_at zero log = none
note_at (suc i) [] = none
note_at (suc zero) (x ∷ xs) = some x.1
note_at (suc (suc i)) (x ∷ xs) = note_at (suc i) xs

unfoldable pub on_nothing : ℕ → Option Note → LogState → LogState
on_nothing i none s = set_line (with_run 0 s.line) s
on_nothing i (some n) s =
    set_line (with_run (run_after s.line.run n) s.line) (set_log (at_place i (beamed_again s.line.run) s.log) s)

-- A NOTE, REST OR CHORD
unfoldable pub append : Note → LogState → LogState
append n s =
    let l = s.line in
    let o = l.overlay in
    let g = grouped l.tuplet n in
    let l' = with_tuplet (one_fewer l.tuplet) (with_half none (with_run (run_after l.run g) l)) in
    let before = at_place (last_place s) (beamed_before l.run g) s.log in
    set_line l'
    (set_verses (counted_in o g s.verses)
    (set_last (alter_at o (λ old. suc (length s.log)) s.last)
    (on_open (λ m. with_counts (alter_at o suc m.counts) m)
    (set_log (before ++ ((o, after_half l.half (beamed_new l.run g)) ∷ [])) s))))

unfoldable pub on_sound : List Written → Length → Behind → LogState → LogState
on_sound ws l b s =
    let o = s.line.overlay in
    let sc = get_or s.scopes o [] in
    let n = sound_note (value_of s.line.unit l) s.pending b (sounds_of s.key sc ws) in
    append n (set_scopes (alter_at o (λ old. scope_after_all sc ws) s.scopes) (set_pending (pending_after s.pending b) s))

-- BARLINES
unfoldable pub left_set : Barline → Head → Head
left_set normal m = m
left_set repeat_start m = with_left repeat_start m
left_set repeat_end m = m
left_set repeat_both m = with_left repeat_both m
left_set double m = with_left double m
left_set final m = m

-- the measures after a barline, and the places of the last notes: a new measure has none
unfoldable pub ended_heads : Barline → Bool → Meter → List Head → List Head
ended_heads b opens t ms =
    elim (open_is_empty ms) [
      | true ↦ on_last_head (left_set b) ms
      | false ↦ cond opens (on_last_head (with_right b) ms ++ (new_head t (left_of b) ∷ [])) (on_last_head (with_right b) ms)
    ]

unfoldable pub ended_last : Bool → List Head → List ℕ → List ℕ
ended_last opens ms last = cond (open_is_empty ms) last (cond opens no_counts last)

unfoldable pub on_barline : Barline → Bool → LogState → LogState
on_barline b opens s =
    set_scopes no_scopes
    (set_line (with_overlay 0 s.line)
    (set_last (ended_last opens s.heads s.last) (set_heads (ended_heads b opens s.line.meter s.heads) s)))

unfoldable pub hears : Key → LogState → LogState
hears k s = set_scopes no_scopes (set_key k s)

-- WHAT A TOKEN DOES
unfoldable pub on_token : LogState → Token → LogState
on_token s space = set_line (with_run 0 s.line) s
on_token s overlay = set_line (with_overlay (next_voice s.line.overlay) s.line) s
on_token s quoted = s
on_token s (broken up n) = on_broken up n (last_place s) s
on_token s (tuplet t) = set_line (with_tuplet (some (record { tuplet = in_meter s.line.meter t; remaining = t.count })) s.line) s
on_token s slur = set_pending (slur_opens s.pending) s
on_token s grace_open = set_pending (grace_opens s.pending) s
on_token s grace_close = set_pending (grace_closes s.pending) s
on_token s decoration = s
on_token s (barline b o) = on_barline b o s
on_token s (volta ps) = on_open (with_volta volta_begins ps) s
on_token s (unit u) = set_line (with_unit u s.line) s
on_token s (meter t) = on_open (with_meter t) (set_line (with_time t s.line) s)
on_token s (key k) = on_open (with_key_mark k) (hears k s)
on_token s field = s
on_token s (chord ws l b) = on_sound ws l b s
on_token s (rest k l) = append (rest_note k (value_of s.line.unit l)) s
on_token s (note w l b) = on_sound (w ∷ []) l b s
on_token s nothing = on_nothing (last_place s) (note_at (last_place s) s.log) s
on_token s skipped = s
on_token s (refused n) = s

-- A MUSIC LINE
unfoldable pub opened : Meter → List Head → List Head
opened t [] = new_head t normal ∷ []
opened t (m ∷ ms) = m ∷ ms

unfoldable pub line_begins : ℕ → Meter → LogState → LogState
line_begins u t s =
    set_verses (record { sounded = s.verses.sounded; start = s.verses.sounded; verse = 1; lines = s.verses.lines })
    (set_line (new_line u t) (set_heads (opened t s.heads) s))

unfoldable pub on_line : Edition → ℕ → Meter → List ℕ → LogState → LogState
on_line ed u t l s = foldl on_token (line_begins u t s) (tokens ed 0 l)
