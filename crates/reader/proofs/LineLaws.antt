-- While a line is read: a measure is open, the overlay is one of four voices with a scope each, and where a beam runs the voice has a note.
use Prim.Native.Nat.{ℕ, zero, suc, ◌<◌}
use mathlib.Core.Path.{◌≡◌, refl, ap, ◌∙◌}
use mathlib.Core.Bool.{Bool, true, false, cond}
use mathlib.Core.List.{List, [], ◌∷◌}
use native.Mathlib.Nat.{not-suc-le-zero}
use native.Mathlib.Omega.{arith}
use lib.ListN.{length, get_or}
use Rattle.laws.specs.Lists.{foldl, alter_at, on_first}
use Rattle.laws.proofs.Bools.{by_test}
use Rattle.laws.proofs.Lists.{foldl_holds, length_alter_at, get_or_alter_at, length_on_first}
use Rattle.standard.specs.Keys.{Key}
use Rattle.standard.specs.Fields.{Meter}
use Rattle.standard.specs.Bars.{Barline}
use Rattle.standard.specs.Notes.{next_voice}
use Rattle.editions.specs.declared.Edition.{Edition}
use Rattle.reader.specs.Token.{Token, space, overlay, quoted, broken, tuplet, slur, grace_open, grace_close, decoration, barline, volta, unit, meter, key, field, chord, rest, note, nothing, skipped, refused}
use Rattle.reader.specs.Tokens.{tokens}
use Rattle.reader.specs.Barlines.{left_of}
use Rattle.reader.specs.Scan.{Item, voice_declared, reset, key_in_header, key_change, meter_change, lyric_line, music_line}
use Rattle.reader.specs.State.{PartState, Note, Measure, volta_begins, with_meter, with_key_mark, with_volta, set_line, with_time, on_open, voice_in, voice_now, set_voice, with_voices, is_empty, new_line, new_measure, new_part, with_right}
use Rattle.reader.specs.Part.{on_broken, broken_note, grouped, beamed_again, beamed, can_beam, after_half, on_nothing, append, on_sound, ended, on_barline, hears, on_token, opened, line_begins, on_line, on_lyric, on_key, on_item}
use Rattle.reader.proofs.Sizes.{Fours, token_four, opened_four, open_four, voice_four, item_four}

-- a part while a line is read
pub record Ready (s : PartState) : Type 0 where
  pub is_open : 0 < length s.measures
  pub place : s.line.overlay < 4
  pub scopes_4 : length s.scopes ≡ 4
  pub voices_4 : Fours s.measures
  pub seen : 0 < s.line.run → 0 < length (voice_now s)

-- THE VOICE BEING WRITTEN
-- the voice that was written, by its measure
set_at : (o : ℕ) (v : List Note) (ms : List Measure) → 0 < length ms → o < 4 → Fours ms → voice_in o (on_first (λ m. with_voices (alter_at o (λ old. v) m.voices) m) ms) ≡ v
unfolding voice_in
set_at o v [] h k p = absurd (not-suc-le-zero h)
set_at o v (m ∷ ms) h k p = get_or_alter_at o (λ old. v) m.voices [] (omega (arith, p.0))

-- what is written is there
pub voice_set : (v : List Note) (s : PartState) → Ready s → voice_now (set_voice v s) ≡ v
unfolding voice_now set_voice on_open
voice_set v s r = set_at s.line.overlay v s.measures r.is_open r.place r.voices_4

-- a change of the open measure that leaves its voices leaves the voice being written
kept_at : (o : ℕ) (f : Measure → Measure) → ((m : Measure) → (f m).voices ≡ m.voices) → (ms : List Measure) → voice_in o (on_first f ms) ≡ voice_in o ms
unfolding voice_in
kept_at o f h [] = refl
kept_at o f h (m ∷ ms) = ap (λ (v : List (List Note)). get_or v o []) (h m)

-- a barline behind notes leaves a measure open
opens_length : (b : Bool) (ms : List Measure) (m n : Measure) → 0 < length (cond b (n ∷ m ∷ ms) (m ∷ ms))
opens_length true ms m n = omega arith
opens_length false ms m n = omega arith

-- so does any barline
ended_length : (b : Barline) (o : Bool) (t : Meter) (ms : List Measure) → 0 < length ms → 0 < length (ended b o t ms)
unfolding ended
ended_length b o t [] h = h
ended_length b o t (m ∷ ms) h = by_test (is_empty m) (λ e. rw (e, ended) (omega arith)) (λ e. rw (e, ended) (opens_length o ms (with_right b m) (new_measure t (left_of b))))

-- a voice with a note more has one
beamed_some : (r : ℕ) (n : Note) (ns : List Note) (f : Note → Note) → 0 < length (on_first f (beamed r n ns))
unfolding beamed
beamed_some zero n ns f = omega arith
beamed_some (suc r) n ns f = by_test (can_beam n) (λ e. rw (e, beamed) (omega arith)) (λ e. rw (e, beamed) (omega arith))

-- EACH TOKEN KEEPS IT
-- no run is longer than none
none_runs : {P : Type 0} → 0 < 0 → P
none_runs h = absurd (not-suc-le-zero h)

-- a state whose voice being written is v
written : (v : List Note) (s : PartState) → Ready s → 0 < length v → (t : PartState) → t.measures ≡ (set_voice v s).measures → t.line.overlay ≡ s.line.overlay → length t.scopes ≡ 4 → Ready t
unfolding voice_now set_voice on_open
written v s r h t em eo es =
    record {
      is_open = rw em (omega (arith, length_on_first (λ m. with_voices (alter_at s.line.overlay (λ old. v) m.voices) m) s.measures, r.is_open));
      place = rw eo r.place;
      scopes_4 = es;
      voices_4 = rw em (voice_four v s r.voices_4);
      seen = λ u. rw (em, eo, voice_set v s r) h;
    }

-- a state whose open measure is changed, but for its voices
changed : (f : Measure → Measure) → ((m : Measure) → (f m).voices ≡ m.voices) → (s : PartState) → Ready s → Ready (on_open f s)
unfolding on_open voice_now
changed f h s r =
    record {
      is_open = omega (arith, length_on_first f s.measures, r.is_open);
      place = r.place;
      scopes_4 = r.scopes_4;
      voices_4 = open_four f (λ m q. ap length (h m) ∙ q) s r.voices_4;
      seen = λ u. rw (kept_at s.line.overlay f h s.measures) (r.seen u);
    }

-- a broken rhythm
ready_broken : (up : Bool) (n : ℕ) (v : List Note) (s : PartState) → Ready s → Ready (on_broken up n v s)
unfolding on_broken set_voice on_open
ready_broken up n [] s r = r
ready_broken up n (x ∷ xs) s r = written (broken_note (record { up = up; times = n }) x ∷ xs) s r (omega arith) (on_broken up n (x ∷ xs) s) refl refl r.scopes_4

-- an empty chord
ready_nothing : (v : List Note) (s : PartState) → Ready s → Ready (on_nothing v s)
unfolding on_nothing voice_now set_voice on_open
ready_nothing [] s r = record { is_open = r.is_open; place = r.place; scopes_4 = r.scopes_4; voices_4 = r.voices_4; seen = λ h. none_runs h }
ready_nothing (x ∷ xs) s r = written (beamed_again s.line.run x ∷ xs) s r (omega arith) (on_nothing (x ∷ xs) s) refl refl r.scopes_4

-- a note more
ready_append : (n : Note) (s : PartState) → Ready s → Ready (append n s)
unfolding append set_voice on_open
ready_append n s r =
    let l = s.line in
    let g = grouped l.tuplet n in
    written (on_first (after_half l.half) (beamed l.run g (voice_now s))) s r (beamed_some l.run g (voice_now s) (after_half l.half)) (append n s) refl refl r.scopes_4

-- any token
pub ready_token : (s : PartState) (t : Token) → Ready s → Ready (on_token s t)
unfolding on_token on_barline hears on_sound voice_now next_voice
ready_token s space r = record { is_open = r.is_open; place = r.place; scopes_4 = r.scopes_4; voices_4 = r.voices_4; seen = λ h. none_runs h }
ready_token s overlay r = record { is_open = r.is_open; place = omega arith; scopes_4 = r.scopes_4; voices_4 = r.voices_4; seen = λ h. none_runs h }
ready_token s quoted r = r
ready_token s (broken up n) r = ready_broken up n (voice_now s) s r
ready_token s (tuplet t) r = record { is_open = r.is_open; place = r.place; scopes_4 = r.scopes_4; voices_4 = r.voices_4; seen = r.seen }
ready_token s slur r = record { is_open = r.is_open; place = r.place; scopes_4 = r.scopes_4; voices_4 = r.voices_4; seen = r.seen }
ready_token s grace_open r = record { is_open = r.is_open; place = r.place; scopes_4 = r.scopes_4; voices_4 = r.voices_4; seen = r.seen }
ready_token s grace_close r = record { is_open = r.is_open; place = r.place; scopes_4 = r.scopes_4; voices_4 = r.voices_4; seen = r.seen }
ready_token s decoration r = r
ready_token s (barline b o) r = record { is_open = ended_length b o s.line.meter s.measures r.is_open; place = omega arith; scopes_4 = refl; voices_4 = token_four s (barline b o) r.voices_4; seen = λ h. none_runs h }
ready_token s (volta ps) r = changed (with_volta volta_begins ps) (λ m. refl) s r
ready_token s (unit u) r = record { is_open = r.is_open; place = r.place; scopes_4 = r.scopes_4; voices_4 = r.voices_4; seen = r.seen }
ready_token s (meter t) r = changed (with_meter t) (λ m. refl) (set_line (with_time t s.line) s) (record { is_open = r.is_open; place = r.place; scopes_4 = r.scopes_4; voices_4 = r.voices_4; seen = r.seen })
ready_token s (key k) r = changed (with_key_mark k) (λ m. refl) (hears k s) (record { is_open = r.is_open; place = r.place; scopes_4 = refl; voices_4 = r.voices_4; seen = r.seen })
ready_token s field r = r
ready_token s (chord ws l b) r = ready_append _ _ (record { is_open = r.is_open; place = r.place; scopes_4 = length_alter_at s.line.overlay _ s.scopes ∙ r.scopes_4; voices_4 = r.voices_4; seen = r.seen })
ready_token s (rest k l) r = ready_append _ s r
ready_token s (note w l b) r = ready_append _ _ (record { is_open = r.is_open; place = r.place; scopes_4 = length_alter_at s.line.overlay _ s.scopes ∙ r.scopes_4; voices_4 = r.voices_4; seen = r.seen })
ready_token s nothing r = ready_nothing (voice_now s) s r
ready_token s skipped r = r
ready_token s (refused n) r = r

-- a line opens a measure
opened_some : (t : Meter) (ms : List Measure) → 0 < length (opened t ms)
unfolding opened
opened_some t [] = omega arith
opened_some t (m ∷ ms) = omega arith

-- a line begins so
pub ready_begins : (u : ℕ) (t : Meter) (s : PartState) → Fours s.measures → length s.scopes ≡ 4 → Ready (line_begins u t s)
unfolding line_begins new_line
ready_begins u t s p q = record { is_open = opened_some t s.measures; place = omega arith; scopes_4 = q; voices_4 = opened_four t s.measures p; seen = λ h. none_runs h }

-- so it is after any tokens
pub ready_after : (s : PartState) (ts : List Token) → Ready s → Ready (foldl on_token s ts)
ready_after s ts r = foldl_holds Ready on_token ready_token s ts r

-- BETWEEN LINES the scopes are four too, so every line of a part begins ready
pub record Kept (s : PartState) : Type 0 where
  pub scopes_kept : length s.scopes ≡ 4
  pub voices_kept : Fours s.measures

-- a K line keeps four scopes
kept_key : (header k : Key) (ms : List Measure) (s : PartState) → length s.scopes ≡ 4 → length (on_key header k ms s).scopes ≡ 4
unfolding on_key hears on_open
kept_key header k [] s p = refl
kept_key header k (m ∷ ms) s p = refl

-- each item keeps it
pub kept_item : (ed : Edition) (header : Key) (s : PartState) (i : Item) → Kept s → Kept (on_item ed header s i)
unfolding on_item on_lyric on_open on_line
kept_item ed header s (voice_declared b) k = record { scopes_kept = k.scopes_kept; voices_kept = k.voices_kept }
kept_item ed header s reset k = record { scopes_kept = k.scopes_kept; voices_kept = k.voices_kept }
kept_item ed header s key_in_header k = record { scopes_kept = k.scopes_kept; voices_kept = k.voices_kept }
kept_item ed header s (key_change q) k = record { scopes_kept = kept_key header q s.measures s k.scopes_kept; voices_kept = item_four ed header s (key_change q) k.voices_kept }
kept_item ed header s (meter_change t) k = record { scopes_kept = k.scopes_kept; voices_kept = item_four ed header s (meter_change t) k.voices_kept }
kept_item ed header s (lyric_line b t) k = record { scopes_kept = k.scopes_kept; voices_kept = k.voices_kept }
kept_item ed header s (music_line u t l) k =
    let r = ready_after (line_begins u t s) (tokens ed 0 l) (ready_begins u t s k.voices_kept k.scopes_kept) in
    record { scopes_kept = r.scopes_4; voices_kept = r.voices_4 }

-- so it is after any items of a part
pub kept_after_lem : (ed : Edition) (header : Key) (is : List Item) → Kept (foldl (on_item ed header) new_part is)
unfolding new_part
kept_after_lem ed header is = foldl_holds Kept (on_item ed header) (kept_item ed header) new_part is (record { scopes_kept = refl; voices_kept = tt })
