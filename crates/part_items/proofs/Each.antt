-- WHAT EACH KIND OF ITEM DOES, from the code's registers and writes to the definition.
use Prim.Native.Nat.{ℕ, zero, suc, ◌+◌, ◌-◌, ◌*◌, ◌≤◌, ◌<◌}
use mathlib.Core.Path.{◌≡◌, refl, sym, ap, subst, ◌∙◌}
use mathlib.Core.Bool.{Bool, false}
use mathlib.Core.Option.{Option, none, some}
use mathlib.Core.List.{List, [], ◌∷◌, ◌++◌}
use native.Mathlib.Nat.{not-suc-le-zero}
use native.Mathlib.Omega.{arith}
use lib.ListN.{length, get_or}
use Rattle.laws.specs.Bytes.{splice}
use Rattle.laws.specs.Lists.{foldl}
use Rattle.standard.specs.Keys.{Key, plain_key}
use Rattle.editions.specs.declared.Edition.{Edition}
use Rattle.reader.specs.Codes.{mode_code}
use Rattle.reader.specs.Records.{signed8, measure_width}
use Rattle.reader.specs.Scan.{Item, voice_declared, reset, key_in_header, key_change, meter_change, lyric_line, music_line}
use Rattle.reader.specs.Part.{first_key}
use Rattle.reader.specs.State.{Note, Sung, new_line}
use Rattle.reader.specs.Token.{Token, space, overlay, quoted, broken, tuplet, slur, grace_open, grace_close, decoration, barline, volta, unit, meter, key, field, chord, rest, note, nothing, skipped, refused}
use Rattle.reader.specs.Tokens.{tokens}
use Rattle.reader.proofs.PartLaws.{counted_lines}
use Rattle.part_layout.specs.Log.{Head, LogState, set_key, set_heads, with_key_mark, with_meter, new_log, on_last_head, on_open, hears, last_place, note_at, on_broken, on_nothing, append, on_sound, on_barline, on_token, line_begins, on_line}
use Rattle.part_layout.specs.Ends.{on_lyric, on_key, on_item}
use Rattle.part_rows.specs.Encoded.{note_row, note_row_width, pitch_row_width}
use Rattle.reader.specs.Records.{pitch_bytes}
use Rattle.part_rows.proofs.Tables.{table_none, only_none}
use Rattle.part_measures.specs.Heads.{head_row, meter_at, key_mark_at}
use Rattle.part_measures.proofs.Heads.{head_mark, head_meter}
use Rattle.part_registers.specs.declared.Tables.{Tables}
use Rattle.part_registers.specs.declared.Registers.{Registers}
use Rattle.part_invariant.specs.Invariant.{Represents}
use Rattle.part_invariant.specs.Lines.{RoomForBytes, RepresentedBetween, GrowsBy, SimulatesItem}
use Rattle.part_invariant.proofs.Appending.{some_head}
use Rattle.part_bars.proofs.Heads.{open_represented, open_only, no_scopes_lem, stored_as}
use Rattle.part_steps.specs.Steps.{hearing}
use Rattle.part_items.specs.Items.{begun, keyed_as}
use Rattle.part_items.proofs.Music.{grows_none, rest_room}

-- THE BEGINNING
pub begun_represented : (t : Tables) (s : List ℕ) → Represents t s begun [] new_log
unfolding new_log plain_key new_line
begun_represented t s =
    record {
      stored =
          record {
            heads_table = table_none head_row measure_width s t.heads;
            notes_table = table_none note_row note_row_width s t.notes;
            pitches_table = table_none pitch_bytes pitch_row_width s t.pitches;
            heads_are = refl;
            notes_are = refl;
            pitches_are = refl;
          };
      scoped = no_scopes_lem s t.scopes;
      key_is = refl;
      last_is = refl;
      pending_is = refl;
      line_is = refl;
      half_is = refl;
      running_is = refl;
      sounded_is = refl;
      sounded_most = omega arith;
      start_is = refl;
      verse_is = refl;
    }

-- registers by another name
pub simulates_item_as : {t : Tables} {s s' : List ℕ} {r r' r'' : Registers} {bs : List ℕ} {f : LogState → LogState} → r' ≡ r'' → SimulatesItem t s r s' r'' bs f → SimulatesItem t s r s' r' bs f
simulates_item_as {t} {s} {s'} {r} {r'} {r''} {bs} {f} e d = subst (λ (x : Registers). SimulatesItem t s r s' x bs f) (sym e) d

-- nothing is written
simulates_item_alone : {t : Tables} {s : List ℕ} {r r' : Registers} {f : LogState → LogState} → r'.counts ≡ r.counts → ((l : LogState) → Represents t s r [] l → Represents t s r' [] (f l)) → SimulatesItem t s r s r' [] f
simulates_item_alone {t} {s} {r} e h = record { only = only_none t.heads t.end s; grows = rw e (grows_none r.counts []); holds = λ l b. h l }

-- A KEY, whose accidentals stay
keyed_represented : {t : Tables} {s : List ℕ} {r : Registers} (k : Key) (l : LogState) → Represents t s r [] l → Represents t s (keyed_as r k) [] (set_key k l)
keyed_represented k l h =
    record {
      stored = h.stored;
      scoped = h.scoped;
      key_is = refl;
      last_is = h.last_is;
      pending_is = h.pending_is;
      line_is = h.line_is;
      half_is = h.half_is;
      running_is = h.running_is;
      sounded_is = h.sounded_is;
      sounded_most = h.sounded_most;
      start_is = h.start_is;
      verse_is = h.verse_is;
    }

module _ (ed : Edition) {t : Tables} {s : List ℕ} {r : Registers} (header : Key) where
  pub declared_simulates : (b : Bool) → SimulatesItem t s r s (keyed_as r (first_key ed header b)) [] (λ l. on_item ed header l (voice_declared b))
  unfolding on_item
  declared_simulates b = simulates_item_alone refl (λ l h. keyed_represented (first_key ed header b) l h)

  pub key_in_header_simulates : SimulatesItem t s r s (keyed_as r header) [] (λ l. on_item ed header l key_in_header)
  unfolding on_item
  key_in_header_simulates = simulates_item_alone refl (λ l h. keyed_represented header l h)

-- NOTHING WAITS
abbrev pub unpending : Registers → Registers
unpending r =
    record {
      counts = r.counts;
      key = r.key;
      last = r.last;
      pending = record { tie = false; slur = false; grace = false };
      line = r.line;
      half = r.half;
      tuplet = r.tuplet;
      verses = r.verses;
    }

pub reset_simulates : (ed : Edition) {t : Tables} {s : List ℕ} {r : Registers} (header : Key) → SimulatesItem t s r s (unpending r) [] (λ l. on_item ed header l reset)
unfolding on_item
reset_simulates ed header =
    simulates_item_alone refl
    (λ l h. record {
      stored = h.stored;
      scoped = h.scoped;
      key_is = h.key_is;
      last_is = h.last_is;
      pending_is = refl;
      line_is = h.line_is;
      half_is = h.half_is;
      running_is = h.running_is;
      sounded_is = h.sounded_is;
      sounded_most = h.sounded_most;
      start_is = h.start_is;
      verse_is = h.verse_is;
    })

-- A K LINE: a key is heard
hears_represented : {t : Tables} {s : List ℕ} {r : Registers} (k : Key) (l : LogState) → Represents t s r [] l → Represents t s (hearing r k) [] (hears k l)
unfolding hears
hears_represented {t} {s} k l h =
    record {
      stored = stored_as h.stored refl refl refl;
      scoped = no_scopes_lem s t.scopes;
      key_is = refl;
      last_is = h.last_is;
      pending_is = h.pending_is;
      line_is = h.line_is;
      half_is = h.half_is;
      running_is = h.running_is;
      sounded_is = h.sounded_is;
      sounded_most = h.sounded_most;
      start_is = h.start_is;
      verse_is = h.verse_is;
    }

key_unmeasured : (header k : Key) (hs : List Head) (l : LogState) → length hs ≡ 0 → hears header l ≡ on_key header k hs l
unfolding on_key
key_unmeasured header k [] l e = refl
key_unmeasured header k (m ∷ ms) l e = absurd (omega (arith, e))

key_measured : (header k : Key) (hs : List Head) (l : LogState) → 0 < length hs → hears k (on_open (with_key_mark k) l) ≡ on_key header k hs l
unfolding on_key hears on_open
key_measured header k [] l h = absurd (not-suc-le-zero h)
key_measured header k (m ∷ ms) l h = refl

hearing_grows : (r : Registers) (k : Key) → GrowsBy r.counts (hearing r k).counts []
hearing_grows r k = record { more_heads = omega arith; more_notes = omega arith; more_pitches = omega arith; more_scopes = omega arith }

module _ (ed : Edition) {t : Tables} {s : List ℕ} {r : Registers} (room : RoomForBytes t r.counts (length s) []) (header k : Key) where
  -- where there is no measure
  pub key_none : r.counts.heads ≡ 0 → SimulatesItem t s r s (hearing r header) [] (λ l. on_item ed header l (key_change k))
  unfolding on_item
  key_none e =
      record {
        only = only_none t.heads t.end s;
        grows = hearing_grows r header;
        holds =
            λ l b h. subst (λ (x : LogState). Represents t s (hearing r header) [] x) (key_unmeasured header k l.heads l (sym h.stored.heads_are ∙ e)) (hears_represented header l h);
      }

  module _ (some : 0 < r.counts.heads) (w : RepresentedBetween t s r) (s' : List ℕ) where
    -- a write into the open head
    open_simulates_item : (f : ℕ) (bs : List ℕ) → s' ≡ splice s (t.heads + measure_width * (r.counts.heads - 1) + f) bs → f + length bs ≤ measure_width → (g : Head → Head) → ((m : Head) → splice (head_row m) f bs ≡ head_row (g m)) → SimulatesItem t s r s' r [] (on_open g)
    open_simulates_item f bs e q g m =
        let there : (l : LogState) → Represents t s r [] l → 0 < length l.heads = λ l h. omega (arith, some, h.stored.heads_are) in
        record {
          only = open_only (rest_room room) s' f bs e q w.state (there w.state w.represents) w.represents;
          grows = grows_none r.counts [];
          holds = λ l b h. open_represented (rest_room room) s' f bs e q l (there l h) h g (m (get_or l.heads (r.counts.heads - 1) some_head));
        }

    -- where there is one
    pub key_some : s' ≡ splice s (t.heads + measure_width * (r.counts.heads - 1) + key_mark_at) (mode_code k.minor ∷ signed8 k.fifths ∷ [])
        → SimulatesItem t s r s' (hearing r k) [] (λ l. on_item ed header l (key_change k))
    unfolding on_item
    key_some e =
        let o = open_simulates_item key_mark_at (mode_code k.minor ∷ signed8 k.fifths ∷ []) e (omega arith) (with_key_mark k) (λ m. head_mark m k) in
        record {
          only = o.only;
          grows = hearing_grows r k;
          holds =
              λ l b h. subst (λ (x : LogState). Represents t s' (hearing r k) [] x) (key_measured header k l.heads l (omega (arith, some, h.stored.heads_are)))
              (hears_represented k (on_open (with_key_mark k) l) (o.holds l b h));
        }

    -- AN M LINE on the open measure
    pub meter_some : (top bottom : ℕ) → s' ≡ splice s (t.heads + measure_width * (r.counts.heads - 1) + meter_at) (top ∷ bottom ∷ []) → SimulatesItem t s r s' r [] (λ l. on_item ed header l (meter_change (top, bottom)))
    unfolding on_item
    meter_some top bottom e = open_simulates_item meter_at (top ∷ bottom ∷ []) e (omega arith) (with_meter (top, bottom)) (λ m. head_meter m (top, bottom))

-- or on none
none_changed : (g : Head → Head) (hs : List Head) → length hs ≡ 0 → hs ≡ on_last_head g hs
unfolding on_last_head
none_changed g [] e = refl
none_changed g (m ∷ ms) e = absurd (omega (arith, e))

open_none : (g : Head → Head) (l : LogState) → length l.heads ≡ 0 → l ≡ on_open g l
unfolding on_open
open_none g l e = ap (λ (hs : List Head). set_heads hs l) (none_changed g l.heads e)

pub meter_none : (ed : Edition) {t : Tables} {s : List ℕ} {r : Registers} (header : Key) (top bottom : ℕ) → r.counts.heads ≡ 0 → SimulatesItem t s r s r [] (λ l. on_item ed header l (meter_change (top, bottom)))
unfolding on_item
meter_none ed {t} {s} {r} header top bottom e =
    simulates_item_alone refl (λ l h. subst (λ (x : LogState). Represents t s r [] x) (open_none (with_meter (top, bottom)) l (sym h.stored.heads_are ∙ e)) h)

-- LINES: only a lyric line adds one
broken_lines : (up : Bool) (n i : ℕ) (l : LogState) → (on_broken up n i l).verses.lines ≡ l.verses.lines
unfolding on_broken
broken_lines up n zero l = refl
broken_lines up n (suc i) l = refl

nothing_lines : (i : ℕ) (o : Option Note) (l : LogState) → (on_nothing i o l).verses.lines ≡ l.verses.lines
unfolding on_nothing
nothing_lines i none l = refl
nothing_lines i (some n) l = refl

append_lines : (n : Note) (l : LogState) → (append n l).verses.lines ≡ l.verses.lines
unfolding append on_open
append_lines n l = counted_lines _ _ l.verses

token_lines : (l : LogState) (t : Token) → (on_token l t).verses.lines ≡ l.verses.lines
unfolding on_token on_barline hears on_sound on_open
token_lines l space = refl
token_lines l overlay = refl
token_lines l quoted = refl
token_lines l (broken up n) = broken_lines up n (last_place l) l
token_lines l (tuplet t) = refl
token_lines l slur = refl
token_lines l grace_open = refl
token_lines l grace_close = refl
token_lines l decoration = refl
token_lines l (barline b o) = refl
token_lines l (volta ps) = refl
token_lines l (unit u) = refl
token_lines l (meter t) = refl
token_lines l (key k) = refl
token_lines l field = refl
token_lines l (chord ws n b) = append_lines _ _
token_lines l (rest k n) = append_lines _ l
token_lines l (note w n b) = append_lines _ _
token_lines l nothing = nothing_lines (last_place l) (note_at (last_place l) l.log) l
token_lines l skipped = refl
token_lines l (refused n) = refl

tokens_lines : (ts : List Token) (l : LogState) → (foldl on_token l ts).verses.lines ≡ l.verses.lines
tokens_lines [] l = refl
tokens_lines (t ∷ ts) l = tokens_lines ts (on_token l t) ∙ token_lines l t

key_lines : (header k : Key) (hs : List Head) (l : LogState) → (on_key header k hs l).verses.lines ≡ l.verses.lines
unfolding on_key hears on_open
key_lines header k [] l = refl
key_lines header k (m ∷ ms) l = refl

-- an item adds these
unfoldable pub added_by : LogState → Item → List Sung
added_by l (voice_declared b) = []
added_by l reset = []
added_by l key_in_header = []
added_by l (key_change k) = []
added_by l (meter_change t) = []
added_by l (lyric_line p t) = record { start = l.verses.start; verse = l.verses.verse; text = t } ∷ []
added_by l (music_line u t b) = []

pub item_lines : (ed : Edition) (header : Key) (l : LogState) (x : Item) → (on_item ed header l x).verses.lines ≡ added_by l x ++ l.verses.lines
unfolding on_item added_by on_lyric on_line on_open line_begins
item_lines ed header l (voice_declared b) = refl
item_lines ed header l reset = refl
item_lines ed header l key_in_header = refl
item_lines ed header l (key_change k) = key_lines header k l.heads l
item_lines ed header l (meter_change t) = refl
item_lines ed header l (lyric_line p t) = refl
item_lines ed header l (music_line u t b) = tokens_lines (tokens ed 0 b) (line_begins u t l)
