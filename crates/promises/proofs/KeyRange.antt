-- EVERY KEY MARK OF EVERY READING is within seven sharps or flats, in either edition. Assumes nothing.
use Prim.Native.Nat.{ℕ, zero, suc, pred, max}
use mathlib.Core.Path.{◌≡◌, refl}
use mathlib.Core.Bool.{Bool, true, false, cond}
use mathlib.Core.Option.{Option, none, some}
use mathlib.Core.List.{List, [], ◌∷◌, map, reverse}
use lib.Dec.{leb, ltb, lit≤}
use lib.ListN.{length, drop}
use Rattle.laws.specs.Lists.{foldl, All, any, elem, is_nil}
use Rattle.laws.proofs.Bools.{by_test, cond_both}
use Rattle.laws.proofs.Lists.{All-append, All-on_first, All-reverse}
use Rattle.standard.specs.Keys.{Key, plain_key}
use Rattle.standard.specs.Fields.{Meter}
use Rattle.standard.specs.Bars.{Barline, normal, repeat_start, repeat_end, repeat_both, double, final}
use Rattle.standard.specs.Pitches.{Written}
use Rattle.standard.specs.Notes.{Behind}
use Rattle.editions.specs.declared.Edition.{Edition}
use Rattle.reader.specs.Text.{text_lines, clean, has_high}
use Rattle.reader.specs.Lengths.{Length}
use Rattle.reader.specs.Keys.{key_of}
use Rattle.reader.specs.Fields.{key_refusal, identifier}
use Rattle.reader.specs.Token.{Token, space, overlay, quoted, broken, tuplet, slur, grace_open, grace_close, decoration, barline, volta, unit, meter, key, field, chord, rest, note, nothing, skipped, refused}
use Rattle.reader.specs.Tokens.{token_of, tokens, Effect}
use Rattle.reader.specs.Barlines.{left_of}
use Rattle.reader.specs.Lines as lines
use Rattle.reader.specs.Lines.{Kind, is_v, is_k, is_l, is_m, is_x, is_lyric, is_field, voice_kind, kind_unless, key_kind, field_kind, line_kind, kind_of}
use Rattle.reader.specs.Steps.{TextLine, refuse, on, first, run, items_of}
use Rattle.reader.specs.Scan.{Item, voice_declared, reset, key_in_header, key_change, meter_change, lyric_line, music_line, Items, Out, Env, ScanState, begin, most_lines, most_voices, voices_before, first_refusal, play_on, voice_on, unit_on, act, step, scan}
use Rattle.reader.specs.State.{Note, Measure, PartState, with_right, with_key_mark, on_open, is_empty, voice_now, set_voice, new_measure, new_part}
use Rattle.reader.specs.Voltas.{starts, ends_at, close, closed}
use Rattle.reader.specs.Part.{Part, on_broken, on_nothing, append, on_sound, left_set, ended, on_barline, hears, on_token, opened, line_begins, on_line, on_lyric, on_key, on_item, dropped, in_order, marked_by, marked, finished_measures, finished, build, empty_part}
use Rattle.reader.specs.Answer.{reading, is_music, built, parts, parse_abc}
use Rattle.promises.specs.KeyRange.{InSeven, MarkInSeven, MarksInSeven}
use Rattle.promises.proofs.KeyFields.{key_range}
use Rattle.promises.proofs.TokenRefusals.{token_key}
use Rattle.promises.proofs.Free.{parts_of, of_reading, own_all}

-- TOKENS
unfoldable KeyIn : Token → Type 0
KeyIn space = Unit {0}
KeyIn overlay = Unit {0}
KeyIn quoted = Unit {0}
KeyIn (broken up n) = Unit {0}
KeyIn (tuplet t) = Unit {0}
KeyIn slur = Unit {0}
KeyIn grace_open = Unit {0}
KeyIn grace_close = Unit {0}
KeyIn decoration = Unit {0}
KeyIn (barline b o) = Unit {0}
KeyIn (volta ps) = Unit {0}
KeyIn (unit u) = Unit {0}
KeyIn (meter m) = Unit {0}
KeyIn (key k) = InSeven k
KeyIn field = Unit {0}
KeyIn (chord ws l b) = Unit {0}
KeyIn (rest k l) = Unit {0}
KeyIn (note w l b) = Unit {0}
KeyIn nothing = Unit {0}
KeyIn skipped = Unit {0}
KeyIn (refused n) = Unit {0}

key_in_lem : (t : Token) → ((k : Key) → t ≡ key k → InSeven k) → KeyIn t
unfolding KeyIn
key_in_lem space h = tt
key_in_lem overlay h = tt
key_in_lem quoted h = tt
key_in_lem (broken up n) h = tt
key_in_lem (tuplet t) h = tt
key_in_lem slur h = tt
key_in_lem grace_open h = tt
key_in_lem grace_close h = tt
key_in_lem decoration h = tt
key_in_lem (barline b o) h = tt
key_in_lem (volta ps) h = tt
key_in_lem (unit u) h = tt
key_in_lem (meter m) h = tt
key_in_lem (key k) h = h k refl
key_in_lem field h = tt
key_in_lem (chord ws l b) h = tt
key_in_lem (rest k l) h = tt
key_in_lem (note w l b) h = tt
key_in_lem nothing h = tt
key_in_lem skipped h = tt
key_in_lem (refused n) h = tt

tokens_in : (ed : Edition) (k : ℕ) (l : List ℕ) → All KeyIn (tokens ed k l)
unfolding tokens
tokens_in ed k [] = tt
tokens_in ed zero (c ∷ l) = (key_in_lem (token_of ed (c ∷ l)).token (token_key ed (c ∷ l)), tokens_in ed (pred (token_of ed (c ∷ l)).used) l)
tokens_in ed (suc k) (c ∷ l) = tokens_in ed k l

-- MEASURES while they are read
abbrev Marks : List Measure → Type 0
Marks ms = All (λ (m : Measure). MarkInSeven m.key) ms

open_marks : (f : Measure → Measure) → ((m : Measure) → MarkInSeven m.key → MarkInSeven (f m).key) → (s : PartState) → Marks s.measures → Marks (on_open f s).measures
unfolding on_open
open_marks f g s h = All-on_first (λ (m : Measure). MarkInSeven m.key) f g s.measures h

voice_marks : (v : List Note) (s : PartState) → Marks s.measures → Marks (set_voice v s).measures
unfolding set_voice
voice_marks v s h = open_marks _ (λ m k. k) s h

broken_marks : (up : Bool) (n : ℕ) (v : List Note) (s : PartState) → Marks s.measures → Marks (on_broken up n v s).measures
unfolding on_broken
broken_marks up n [] s h = h
broken_marks up n (x ∷ xs) s h = voice_marks _ s h

nothing_marks : (v : List Note) (s : PartState) → Marks s.measures → Marks (on_nothing v s).measures
unfolding on_nothing
nothing_marks [] s h = h
nothing_marks (x ∷ xs) s h = voice_marks _ s h

append_marks : (n : Note) (s : PartState) → Marks s.measures → Marks (append n s).measures
unfolding append
append_marks n s h = voice_marks _ s h

sound_marks : (ws : List Written) (l : Length) (b : Behind) (s : PartState) → Marks s.measures → Marks (on_sound ws l b s).measures
unfolding on_sound
sound_marks ws l b s h = append_marks _ _ h

left_mark : (b : Barline) (m : Measure) → MarkInSeven m.key → MarkInSeven (left_set b m).key
unfolding left_set
left_mark normal m h = h
left_mark repeat_start m h = h
left_mark repeat_end m h = h
left_mark repeat_both m h = h
left_mark double m h = h
left_mark final m h = h

ended_marks : (b : Barline) (o : Bool) (t : Meter) (ms : List Measure) → Marks ms → Marks (ended b o t ms)
unfolding ended new_measure
ended_marks b o t [] h = tt
ended_marks b o t (m ∷ ms) h =
    by_test (is_empty m) (λ e. rw (e, ended) (left_mark b m h.0, h.1))
    (λ e. rw (e, ended) (cond_both Marks o (new_measure t (left_of b) ∷ with_right b m ∷ ms) (with_right b m ∷ ms) (tt, h) h))

token_marks : (s : PartState) (t : Token) → KeyIn t → Marks s.measures → Marks (on_token s t).measures
unfolding on_token on_barline hears KeyIn
token_marks s space k h = h
token_marks s overlay k h = h
token_marks s quoted k h = h
token_marks s (broken up n) k h = broken_marks up n (voice_now s) s h
token_marks s (tuplet t) k h = h
token_marks s slur k h = h
token_marks s grace_open k h = h
token_marks s grace_close k h = h
token_marks s decoration k h = h
token_marks s (barline b o) k h = ended_marks b o s.line.meter s.measures h
token_marks s (volta ps) k h = open_marks _ (λ m q. q) s h
token_marks s (unit u) k h = h
token_marks s (meter t) k h = open_marks _ (λ m q. q) _ h
token_marks s (key x) k h = open_marks (with_key_mark x) (λ m q. k) _ h
token_marks s field k h = h
token_marks s (chord ws l b) k h = sound_marks ws l b s h
token_marks s (rest x l) k h = append_marks _ s h
token_marks s (note w l b) k h = sound_marks (w ∷ []) l b s h
token_marks s nothing k h = nothing_marks (voice_now s) s h
token_marks s skipped k h = h
token_marks s (refused n) k h = h

line_marks : (ts : List Token) (s : PartState) → All KeyIn ts → Marks s.measures → Marks (foldl on_token s ts).measures
line_marks [] s k h = h
line_marks (t ∷ ts) s k h = line_marks ts (on_token s t) k.1 (token_marks s t k.0 h)

-- ITEMS
abbrev ItemIn : Item → Type 0
ItemIn (voice_declared b) = Unit {0}
ItemIn reset = Unit {0}
ItemIn key_in_header = Unit {0}
ItemIn (key_change k) = InSeven k
ItemIn (meter_change m) = Unit {0}
ItemIn (lyric_line b t) = Unit {0}
ItemIn (music_line u m l) = Unit {0}

key_marks_lem : (h k : Key) (ms : List Measure) (s : PartState) → InSeven k → Marks s.measures → Marks (on_key h k ms s).measures
unfolding on_key hears
key_marks_lem h k [] s q m = m
key_marks_lem h k (x ∷ ms) s q m = open_marks (with_key_mark k) (λ m _. q) _ m

opened_marks : (t : Meter) (ms : List Measure) → Marks ms → Marks (opened t ms)
unfolding opened new_measure
opened_marks t [] h = (tt, tt)
opened_marks t (m ∷ ms) h = h

item_marks : (ed : Edition) (h : Key) (s : PartState) (i : Item) → ItemIn i → Marks s.measures → Marks (on_item ed h s i).measures
unfolding on_item on_line line_begins on_lyric
item_marks ed h s (voice_declared b) q m = m
item_marks ed h s reset q m = m
item_marks ed h s key_in_header q m = m
item_marks ed h s (key_change k) q m = key_marks_lem h k s.measures s q m
item_marks ed h s (meter_change t) q m = open_marks _ (λ x k. k) s m
item_marks ed h s (lyric_line b t) q m = m
item_marks ed h s (music_line u t l) q m = line_marks (tokens ed 0 l) (line_begins u t s) (tokens_in ed 0 l) (opened_marks t s.measures m)

items_marks : (ed : Edition) (h : Key) (is : List Item) (s : PartState) → All ItemIn is → Marks s.measures → Marks (foldl (on_item ed h) s is).measures
items_marks ed h [] s q m = m
items_marks ed h (i ∷ is) s q m = items_marks ed h is (on_item ed h s i) q.1 (item_marks ed h s i q.0 m)

-- THE END OF A PART
dropped_marks : (ms : List Measure) → Marks ms → Marks (dropped ms)
unfolding dropped
dropped_marks [] h = tt
dropped_marks (m ∷ []) h = h
dropped_marks (m ∷ n ∷ ms) h = by_test (is_empty m) (λ e. rw (e, dropped) (dropped_marks (n ∷ ms) h.1)) (λ e. rw (e, dropped) h)

order_marks : (ms : List Measure) → Marks ms → Marks (map in_order ms)
unfolding in_order
order_marks [] h = tt
order_marks (m ∷ ms) h = (h.0, order_marks ms h.1)

close_marks : (o : Option (List ℕ)) (ms : List Measure) → Marks ms → Marks (close o ms)
unfolding close
close_marks o [] h = tt
close_marks none (m ∷ ms) h =
    by_test (starts m)
    (λ a. rw (a, close) (by_test (ends_at m ms) (λ e. rw (e, close) (h.0, close_marks none ms h.1)) (λ e. rw (e, close) (h.0, close_marks (some m.passes) ms h.1))))
    (λ a. rw (a, close) (h.0, close_marks none ms h.1))
close_marks (some ps) (m ∷ ms) h =
    by_test (ends_at m ms) (λ e. rw (e, close) (h.0, close_marks none ms h.1)) (λ e. rw (e, close) (h.0, close_marks (some ps) ms h.1))

mark_in : (h : Key) (m : Measure) (o : Option Key) → m.key ≡ o → InSeven h → MarkInSeven m.key → MarkInSeven (marked_by h m o).key
unfolding marked_by
mark_in h m none e q k = q
mark_in h m (some x) e q k = k

marked_marks : (h : Key) (ms : List Measure) → InSeven h → Marks ms → Marks (marked h ms)
unfolding marked
marked_marks h [] q k = tt
marked_marks h (m ∷ ms) q k = (mark_in h m m.key refl q k.0, k.1)

finished_marks : (h : Key) (s : PartState) → InSeven h → Marks s.measures → Marks (finished_measures h s)
unfolding finished_measures closed
finished_marks h s q k =
    marked_marks h _ q (close_marks none _ (order_marks (reverse (dropped s.measures)) (All-reverse (λ (m : Measure). MarkInSeven m.key) (dropped s.measures) (dropped_marks s.measures k))))

built_marks : (ed : Edition) (e : Env) (is : List Item) → InSeven e.header_key → All ItemIn is → MarksInSeven (built ed e is)
unfolding built build finished new_part empty_part
built_marks ed e is q k = by_test (any is_music is) (λ m. rw m (finished_marks e.header_key _ q (items_marks ed e.header_key is new_part k tt))) (λ m. rw m tt)

-- THE SCAN
abbrev KindIn : Kind → Type 0
KindIn lines.blank = Unit {0}
KindIn (lines.refused n) = Unit {0}
KindIn (lines.lyric t) = Unit {0}
KindIn (lines.voice v mid) = Unit {0}
KindIn (lines.key k) = InSeven k
KindIn (lines.meter m) = Unit {0}
KindIn (lines.unit u) = Unit {0}
KindIn lines.tune = Unit {0}
KindIn lines.other = Unit {0}
KindIn (lines.music hi es l) = Unit {0}

either : (b : Bool) (x y : Kind) → KindIn x → KindIn y → KindIn (cond b x y)
either b x y p q = cond_both KindIn b x y p q

unless_in : (k : Key) (o : Option ℕ) → (o ≡ none → InSeven k) → KindIn (kind_unless k o)
unfolding kind_unless
unless_in k none h = h refl
unless_in k (some n) h = tt

field_in : (ed : Edition) (l : List ℕ) → KindIn (field_kind ed l)
unfolding field_kind voice_kind key_kind
field_in ed l =
    either (is_v l) _ _ (either (has_high l) (lines.refused 6) _ tt (either (is_nil (identifier (drop 2 l))) (lines.refused 8) (lines.voice _ _) tt tt))
    (either (is_k l) _ _ (either (has_high l) (lines.refused 6) _ tt (unless_in (key_of ed (drop 2 l)) (key_refusal ed (drop 2 l)) (key_range ed (drop 2 l))))
    (either (is_l l) _ _ (either (has_high l) (lines.refused 6) (lines.unit _) tt tt)
    (either (is_m l) _ _ (either (has_high l) (lines.refused 6) (lines.meter _) tt tt) (either (is_x l) lines.tune lines.other tt tt))))

kind_in : (ed : Edition) (r : TextLine) → KindIn (kind_of ed r)
unfolding kind_of line_kind
kind_in ed r =
    let l = clean r in
    either (is_nil l) lines.blank _ tt
    (either (ltb 1048576 (length l)) (lines.refused 5) _ tt (either (is_lyric l) (lines.lyric _) _ tt (either (is_field l) (field_kind ed l) (lines.music _ _ _) (field_in ed l) tt)))

abbrev OutIn : Out → Type 0
OutIn (refuse n l) = Unit {0}
OutIn (on t a) = InSeven t.env.header_key × All (λ (x : ℕ × Item). ItemIn x.1) a

voice_in_lem : (s : ScanState) (v : List ℕ) (vs : List (List ℕ)) (a b c : Bool) → InSeven s.env.header_key → OutIn (voice_on s v vs a b c)
unfolding voice_on
voice_in_lem s v vs true b true h = tt
voice_in_lem s v vs true b false h = (h, (tt, tt))
voice_in_lem s v vs false true c h = tt
voice_in_lem s v vs false false true h = tt
voice_in_lem s v vs false false false h = (h, (tt, (tt, tt)))

unit_in_lem : (s : ScanState) (u : Option ℕ) → InSeven s.env.header_key → OutIn (unit_on s u)
unfolding unit_on
unit_in_lem s none h = (h, tt)
unit_in_lem s (some u) h = (h, tt)

play_in : (s : ScanState) (es : List Effect) (l : List ℕ) (o : Option ℕ) → InSeven s.env.header_key → OutIn (play_on s es l o)
unfolding play_on
play_in s es l none h = (h, (tt, tt))
play_in s es l (some n) h = tt

act_in : (s : ScanState) (k : Kind) (b : Bool) → InSeven s.env.header_key → KindIn k → OutIn (act s k b)
unfolding act
act_in s lines.blank b h q = (h, tt)
act_in s (lines.refused n) b h q = tt
act_in s (lines.lyric t) true h q = (h, tt)
act_in s (lines.lyric t) false h q = (h, (tt, tt))
act_in s (lines.voice v mid) b h q = voice_in_lem s v (voices_before s) (elem v (voices_before s)) (leb most_voices (length (voices_before s))) mid h
act_in s (lines.key k) true h q = (q, (tt, tt))
act_in s (lines.key k) false h q = (h, (q, tt))
act_in s (lines.meter m) true h q = (h, tt)
act_in s (lines.meter m) false h q = (h, (tt, tt))
act_in s (lines.unit u) b h q = unit_in_lem s u h
act_in s lines.tune true h q = (h, tt)
act_in s lines.tune false h q = tt
act_in s lines.other b h q = (h, tt)
act_in s (lines.music hi es l) true h q = (h, tt)
act_in s (lines.music true es l) false h q = tt
act_in s (lines.music false es l) false h q = play_in s es l (first_refusal s.notes es) h

step_in : (ed : Edition) (s : ScanState) (r : TextLine) → InSeven s.env.header_key → OutIn (step ed s r)
unfolding step
step_in ed s r h = cond_both OutIn (ltb s.lines most_lines) (act s (kind_of ed r) s.env.in_header) (refuse 4 (suc s.lines)) (act_in s (kind_of ed r) s.env.in_header h (kind_in ed r)) tt

first_in : (a : Items) (o : Out) → All (λ (x : ℕ × Item). ItemIn x.1) a → OutIn o → OutIn (first a o)
first_in a (refuse n l) h q = tt
first_in a (on t b) h q = (q.0, All-append _ a b h q.1)

run_in : (ed : Edition) (rs : List TextLine) (s : ScanState) → InSeven s.env.header_key → OutIn (run (step ed) s rs)
run_in ed [] s h = (h, tt)
run_in ed (r ∷ rs) s h = go (step ed s r) (step_in ed s r h) (λ t. run_in ed rs t)
  where
    go : (o : Out) → OutIn o → ((t : ScanState) → InSeven t.env.header_key → OutIn (run (step ed) t rs)) → OutIn (elim o as (λ _. Out) [ refuse n l ↦ refuse n l | on t a ↦ first a (run (step ed) t rs) ])
    go (refuse n l) q ih = tt
    go (on t a) q ih = first_in a (run (step ed) t rs) q.1 (ih t q.0)

-- EVERY READING
parts_marks : (ed : Edition) (e : Env) (a : Items) (n q : ℕ) → InSeven e.header_key → All (λ (x : ℕ × Item). ItemIn x.1) a → All MarksInSeven (parts ed e (λ p. items_of p a) n q)
unfolding parts
parts_marks ed e a zero q h k = tt
parts_marks ed e a (suc n) q h k = (built_marks ed e (items_of q a) h (own_all ItemIn q a k), parts_marks ed e a n (suc q) h k)

scanned_marks : (ed : Edition) (o : Out) → OutIn o → All MarksInSeven (parts_of ed o)
scanned_marks ed (refuse n l) h = tt
scanned_marks ed (on t a) h = parts_marks ed t.env a (max 1 (length t.env.voices)) 0 h.0 h.1

pub marks_in_seven : (ed : Edition) (text : List ℕ) (rl sl : ℕ) (ps : List Part) → (parse_abc ed text rl sl).verdict ≡ reading ps → All MarksInSeven ps
unfolding scan begin plain_key
marks_in_seven ed text rl sl ps e = of_reading ed MarksInSeven text rl sl ps (scanned_marks ed (scan ed (text_lines text)) (run_in ed (text_lines text) begin (lit≤ tt, lit≤ tt))) e
