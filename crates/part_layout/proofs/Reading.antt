-- EACH TOKEN AND EACH ITEM keeps both definitions side by side.
use Prim.Native.Nat.{ℕ, ◌<◌}
use mathlib.Core.Path.{◌≡◌, refl}
use mathlib.Core.Bool.{cond}
use mathlib.Core.List.{List, [], ◌∷◌, ◌++◌}
use native.Mathlib.Omega.{arith}
use lib.ListN.{get_or}
use Rattle.laws.specs.Lists.{foldl, alter_at}
use Rattle.standard.specs.Keys.{Key}
use Rattle.standard.specs.Fields.{Meter}
use Rattle.standard.specs.Notes.{nothing_pending, pending_after, slur_opens, grace_opens, grace_closes, next_voice, Behind}
use Rattle.standard.specs.Pitches.{Written}
use Rattle.standard.specs.Lyrics.{next_verse}
use Rattle.editions.specs.declared.Edition.{Edition}
use Rattle.reader.specs.Lengths.{Length, value_of}
use Rattle.reader.specs.Pitches.{sounds_of, scope_after_all}
use Rattle.reader.specs.Token.{Token, space, overlay, quoted, broken, tuplet, slur, grace_open, grace_close, decoration, barline, volta, unit, meter, key, field, chord, rest, note, nothing, skipped, refused}
use Rattle.reader.specs.Tokens.{tokens}
use Rattle.reader.specs.Scan.{Item, voice_declared, reset, key_in_header, key_change, meter_change, lyric_line, music_line}
use Rattle.reader.specs.State
use Rattle.reader.specs.State.{volta_begins, PartState, with_run, with_overlay, with_tuplet, with_unit, with_time, no_scopes, new_part, new_line}
use Rattle.reader.specs.Part
use Rattle.reader.specs.Part.{first_key, rest_note, sound_note}
use Rattle.part_layout.specs.Log
use Rattle.part_layout.specs.Log.{Head, LogState, new_log}
use Rattle.part_layout.specs.Ends
use Rattle.part_layout.proofs.Bars.{Bar, BarState, bar_meter, bar_mark, bar_volta, set_bars, set_line, set_key, set_scopes, set_pending, set_verses, head_of, heads_of, laid, measures_of, plain, Good, Inv, Reading, Sim, sim_step, sim_fold}
use Rattle.part_layout.proofs.Writing.{sim_append, sim_broken, sim_nothing}
use Rattle.part_layout.proofs.Measures.{sim_open, sim_open_line, sim_barline, sim_begins}

-- a note or chord
sim_sound : (ws : List Written) (l : Length) (b : Behind) (s : BarState) → Reading s → Sim Reading (Log.on_sound ws l b (laid s)) (Part.on_sound ws l b (plain s))
unfolding Log.on_sound Part.on_sound
sim_sound ws l b s r =
    let o = s.line.overlay in
    let sc = get_or s.scopes o [] in
    sim_append (sound_note (value_of s.line.unit l) s.pending b (sounds_of s.key sc ws))
    (set_scopes (alter_at o (λ old. scope_after_all sc ws) s.scopes) (set_pending (pending_after s.pending b) s)) r

-- the overlay's next voice is one of four
pub next_below : (o : ℕ) → next_voice o < 4
unfolding next_voice
next_below o = omega arith

-- WHAT A TOKEN DOES
pub sim_token : (s : BarState) (t : Token) → Reading s → Sim Reading (Log.on_token (laid s) t) (Part.on_token (plain s) t)
unfolding Log.on_token Part.on_token Log.hears Part.hears
sim_token s space r = record { state = set_line (with_run 0 s.line) s; holds = r; laid_is = refl; plain_is = refl }
sim_token s overlay r =
    record {
      state = set_line (with_overlay (next_voice s.line.overlay) s.line) s;
      holds = record { good = record { place = next_below s.line.overlay; below = r.good.below; older = r.good.older }; is_open = r.is_open };
      laid_is = refl;
      plain_is = refl;
    }
sim_token s quoted r = record { state = s; holds = r; laid_is = refl; plain_is = refl }
sim_token s (broken up n) r = sim_broken up n s r
sim_token s (tuplet t) r =
    record { state = set_line (with_tuplet _ s.line) s; holds = r; laid_is = refl; plain_is = refl }
sim_token s slur r = record { state = set_pending (slur_opens s.pending) s; holds = r; laid_is = refl; plain_is = refl }
sim_token s grace_open r = record { state = set_pending (grace_opens s.pending) s; holds = r; laid_is = refl; plain_is = refl }
sim_token s grace_close r = record { state = set_pending (grace_closes s.pending) s; holds = r; laid_is = refl; plain_is = refl }
sim_token s decoration r = record { state = s; holds = r; laid_is = refl; plain_is = refl }
sim_token s (barline b o) r = sim_barline b o s r
sim_token s (volta ps) r = sim_open_line (bar_volta volta_begins ps) (Log.with_volta volta_begins ps) (State.with_volta volta_begins ps) (λ b. refl) (λ b. refl) (λ b. refl) s r
sim_token s (unit u) r = record { state = set_line (with_unit u s.line) s; holds = r; laid_is = refl; plain_is = refl }
sim_token s (meter t) r =
    sim_open_line (bar_meter t) (Log.with_meter t) (State.with_meter t) (λ b. refl) (λ b. refl) (λ b. refl) (set_line (with_time t s.line) s) r
sim_token s (key k) r =
    sim_open_line (bar_mark k) (Log.with_key_mark k) (State.with_key_mark k) (λ b. refl) (λ b. refl) (λ b. refl) (set_scopes no_scopes (set_key k s)) r
sim_token s field r = record { state = s; holds = r; laid_is = refl; plain_is = refl }
sim_token s (chord ws l b) r = sim_sound ws l b s r
sim_token s (rest k l) r = sim_append (rest_note k (value_of s.line.unit l)) s r
sim_token s (note w l b) r = sim_sound (w ∷ []) l b s r
sim_token s nothing r = sim_nothing s r
sim_token s skipped r = record { state = s; holds = r; laid_is = refl; plain_is = refl }
sim_token s (refused n) r = record { state = s; holds = r; laid_is = refl; plain_is = refl }

-- while a line is read, after any tokens of it
pub sim_tokens : (u : ℕ) (t : Meter) (ts : List Token) (l : LogState) (p : PartState) → Sim Inv l p
    → Sim Reading (foldl Log.on_token (Log.line_begins u t l) ts) (foldl Part.on_token (Part.line_begins u t p) ts)
sim_tokens u t ts l p s =
    sim_fold Reading Log.on_token Part.on_token sim_token (Log.line_begins u t l) (Part.line_begins u t p) ts
    (sim_step Inv Reading (Log.line_begins u t) (Part.line_begins u t) (sim_begins u t) l p s)

-- what holds while a line is read holds after it
pub sim_between : (l : LogState) (p : PartState) → Sim Reading l p → Sim Inv l p
sim_between l p s = record { state = s.state; holds = s.holds.good; laid_is = s.laid_is; plain_is = s.plain_is }

-- a music line
sim_line : (ed : Edition) (u : ℕ) (t : Meter) (x : List ℕ) (s : BarState) → Inv s → Sim Inv (Log.on_line ed u t x (laid s)) (Part.on_line ed u t x (plain s))
unfolding Log.on_line Part.on_line
sim_line ed u t x s g =
    sim_between (Log.on_line ed u t x (laid s)) (Part.on_line ed u t x (plain s))
    (sim_tokens u t (tokens ed 0 x) (laid s) (plain s) (record { state = s; holds = g; laid_is = refl; plain_is = refl }))

-- a body K line, where a measure is open
key_some : (header k : Key) (hs : List Head) (h : Head) (l : LogState) → Ends.on_key header k (hs ++ (h ∷ [])) l ≡ Log.on_open (Log.with_key_mark k) (Log.hears k l)
unfolding Ends.on_key
key_some header k [] h l = refl
key_some header k (x ∷ hs) h l = refl

-- a body K line
key_open : (header k : Key) (s : BarState) (bars : List Bar) → Good s.line.overlay bars
    → Sim Inv (Ends.on_key header k (heads_of bars) (laid (set_bars bars s))) (Part.on_key header k (measures_of bars) (plain (set_bars bars s)))
unfolding Ends.on_key Part.on_key Log.hears Part.hears
key_open header k s [] g = record { state = set_scopes no_scopes (set_key header (set_bars [] s)); holds = g; laid_is = refl; plain_is = refl }
key_open header k s (b ∷ bs) g =
    rw (key_some header k (heads_of bs) (head_of b) (laid (set_bars (b ∷ bs) s)))
    (sim_open (bar_mark k) (Log.with_key_mark k) (State.with_key_mark k) (λ b. refl) (λ b. refl) (λ b. refl) (set_scopes no_scopes (set_key k (set_bars (b ∷ bs) s))) g)

-- WHAT AN ITEM DOES
pub sim_item : (ed : Edition) (header : Key) (s : BarState) (i : Item) → Inv s → Sim Inv (Ends.on_item ed header (laid s) i) (Part.on_item ed header (plain s) i)
unfolding Ends.on_item Part.on_item Ends.on_lyric Part.on_lyric
sim_item ed header s (voice_declared in_header) g = record { state = set_key (first_key ed header in_header) s; holds = g; laid_is = refl; plain_is = refl }
sim_item ed header s reset g = record { state = set_pending nothing_pending s; holds = g; laid_is = refl; plain_is = refl }
sim_item ed header s key_in_header g = record { state = set_key header s; holds = g; laid_is = refl; plain_is = refl }
sim_item ed header s (key_change k) g = key_open header k s s.bars g
sim_item ed header s (meter_change t) g = sim_open (bar_meter t) (Log.with_meter t) (State.with_meter t) (λ b. refl) (λ b. refl) (λ b. refl) s g
sim_item ed header s (lyric_line placed t) g =
    let v = s.verses in
    record {
      state = set_verses (record { sounded = v.sounded; start = v.start; verse = cond placed (next_verse v.verse) v.verse; lines = record { start = v.start; verse = v.verse; text = t } ∷ v.lines }) s;
      holds = g;
      laid_is = refl;
      plain_is = refl;
    }
sim_item ed header s (music_line u t l) g = sim_line ed u t l s g

-- A PART AFTER ANY ITEMS
pub sim_items : (ed : Edition) (header : Key) (items : List Item) → Sim Inv (foldl (Ends.on_item ed header) new_log items) (foldl (Part.on_item ed header) new_part items)
unfolding new_log new_part new_line
sim_items ed header items =
    sim_fold Inv (Ends.on_item ed header) (Part.on_item ed header) (sim_item ed header) new_log new_part items
    (record {
      state =
          record {
            key = new_part.key;
            scopes = no_scopes;
            bars = [];
            pending = nothing_pending;
            verses = new_part.verses;
            line = new_part.line;
          };
      holds = record { place = omega arith; below = tt; older = tt };
      laid_is = refl;
      plain_is = refl;
    })
