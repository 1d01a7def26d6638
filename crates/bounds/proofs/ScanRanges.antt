-- The scan: its items are in their ranges, there are 32 voices at most, and it refuses with numbers of lines' refusals.
use Prim.Native.Nat.{ℕ, zero, suc, ◌≤◌, ◌<◌}
use mathlib.Core.Path.{◌≡◌, refl, subst}
use mathlib.Core.Bool.{Bool, true, false}
use mathlib.Core.Option.{Option, none, some}
use mathlib.Core.List.{List, [], ◌∷◌, map}
use native.Mathlib.Omega.{arith}
use lib.Dec.{eqb, leb, ltb, lit<, lit≤}
use lib.ListN.{length, drop, length-append}
use borrow.Author.Tests.{leb-false, ltb-true}
use Rattle.laws.specs.Lists.{All, elem, is_nil}
use Rattle.laws.proofs.Bools.{by_test, T→true, and_left}
use Rattle.laws.proofs.Lists.{All-append}
use Rattle.standard.specs.Fields.{Meter}
use Rattle.standard.specs.Keys.{Key}
use Rattle.editions.specs.declared.Edition.{Edition}
use Rattle.reader.specs.Text.{is_blank, push, text_lines, cut, trim, clean, has_high}
use Rattle.reader.specs.Fields.{middle_word, identifier, key_refusal}
use Rattle.reader.specs.Token.{Token, space, overlay, quoted, broken, tuplet, slur, grace_open, grace_close, decoration, barline, volta, chord, rest, note, nothing, skipped}
use Rattle.reader.specs.Token
use Rattle.reader.specs.Tokens.{tokens, Effect, counts, refuses, sets_unit, sets_meter, no_effect, effect_of, effects}
use Rattle.reader.specs.Lines.{is_v, is_k, is_l, is_m, is_x, is_lyric, is_field, Kind, blank, refused, lyric, voice, key, meter, unit, tune, other, music, voice_kind, key_kind, field_kind, line_kind, kind_of, kind_unless}
use Rattle.reader.specs.Steps.{TextLine, refuse, on, run, first}
use Rattle.reader.specs.Scan.{Item, ScanState, begin, most_notes, most_voices, most_lines, last_meter, first_refusal, voices_before, play_on, voice_on, unit_on, act, step, scan, Out, Items}
use Rattle.reader.specs.Keys.{key_of}
use Rattle.bounds.specs.Ranges.{Bytes, MeterFits, is_line_refusal, LineRefusal, TokenFits, ItemFits}
use Rattle.bounds.proofs.TokenRanges.{tokens_fit, meter_fits, RefusalFits, key_refusal_lem}
use Rattle.bounds.proofs.ScanWeights.{before_count}

-- THE NUMBER of a line's refusal is a byte
pub refusal_byte : (n : ℕ) → LineRefusal n → n < 256
refusal_byte n h = ltb-true n 256 (and_left _ _ (and_left _ _ (T→true (is_line_refusal n) h)))

-- and neither 15
pub not_15 : (n : ℕ) → LineRefusal n → n ≡ 15 → ⊥
not_15 n h e = subst LineRefusal e h

-- nor 16
pub not_16 : (n : ℕ) → LineRefusal n → n ≡ 16 → ⊥
not_16 n h e = subst LineRefusal e h

-- LINES of bytes
pub push_bytes : (c : ℕ) (ps : List (List ℕ)) → c < 256 → All Bytes ps → All Bytes (push c ps)
push_bytes c [] h k = ((h, tt), tt)
push_bytes c (p ∷ ps) h k = ((h, k.0), k.1)

-- each line of a text
pub rows_bytes : (t : List ℕ) → Bytes t → All Bytes (text_lines t)
unfolding text_lines
rows_bytes [] h = tt
rows_bytes (c ∷ t) h = by_test (eqb c 10) (λ e. rw e ((h.0, tt), rows_bytes t h.1)) (λ e. rw e (push_bytes c (text_lines t) h.0 (rows_bytes t h.1)))

-- cut
cut_bytes : (r : List ℕ) → Bytes r → Bytes (cut r)
unfolding cut
cut_bytes [] h = tt
cut_bytes (c ∷ r) h = by_test (eqb c 37) (λ e. rw e tt) (λ e. rw e (h.0, cut_bytes r h.1))

-- trimmed
trim_bytes : (r : List ℕ) → Bytes r → Bytes (trim r)
unfolding trim
trim_bytes [] h = tt
trim_bytes (c ∷ r) h = by_test (is_blank (c ∷ r)) (λ e. rw e tt) (λ e. rw e (h.0, trim_bytes r h.1))

-- both
clean_bytes : (r : List ℕ) → Bytes r → Bytes (clean r)
unfolding clean
clean_bytes r h = trim_bytes (cut r) (cut_bytes r h)

-- without its first bytes
drop_bytes : (n : ℕ) (s : List ℕ) → Bytes s → Bytes (drop n s)
drop_bytes zero s h = h
drop_bytes (suc n) [] h = tt
drop_bytes (suc n) (c ∷ s) h = drop_bytes n s h.1

-- EFFECTS
unfoldable EffectFits : Effect → Type 0
EffectFits counts = Unit {0}
EffectFits (refuses n) = LineRefusal n
EffectFits (sets_unit u) = Unit {0}
EffectFits (sets_meter m) = MeterFits m
EffectFits no_effect = Unit {0}

-- of a token
effect_fits : (t : Token) → TokenFits t → EffectFits (effect_of t)
unfolding effect_of TokenFits EffectFits
effect_fits space h = tt
effect_fits overlay h = tt
effect_fits quoted h = tt
effect_fits (broken up n) h = tt
effect_fits (tuplet t) h = tt
effect_fits slur h = tt
effect_fits grace_open h = tt
effect_fits grace_close h = tt
effect_fits decoration h = tt
effect_fits (barline b o) h = tt
effect_fits (volta ps) h = tt
effect_fits (Token.unit u) h = tt
effect_fits (Token.meter m) h = h
effect_fits (Token.key k) h = tt
effect_fits Token.field h = tt
effect_fits (chord ws l b) h = tt
effect_fits (rest k l) h = tt
effect_fits (note w l b) h = tt
effect_fits nothing h = tt
effect_fits skipped h = tt
effect_fits (Token.refused n) h = h

-- of tokens
effects_map : (ts : List Token) → All TokenFits ts → All EffectFits (map effect_of ts)
effects_map [] h = tt
effects_map (t ∷ ts) h = (effect_fits t h.0, effects_map ts h.1)

-- of a line
effects_fit : (ed : Edition) (l : List ℕ) → All EffectFits (effects ed l)
unfolding effects
effects_fit ed l = effects_map (tokens ed 0 l) (tokens_fit ed 0 l)

-- the meter after them
last_fits : (es : List Effect) (m : Meter) → All EffectFits es → MeterFits m → MeterFits (last_meter es m)
unfolding last_meter EffectFits
last_fits [] m f h = h
last_fits (counts ∷ es) m f h = last_fits es m f.1 h
last_fits (refuses k ∷ es) m f h = last_fits es m f.1 h
last_fits (sets_unit u ∷ es) m f h = last_fits es m f.1 h
last_fits (sets_meter n ∷ es) m f h = last_fits es n f.1 f.0
last_fits (no_effect ∷ es) m f h = last_fits es m f.1 h

-- the first refusal among them
unfoldable Refusal : Option ℕ → Type 0
Refusal none = Unit {0}
Refusal (some n) = LineRefusal n

-- it is a line's
first_fits : (n : ℕ) (es : List Effect) → All EffectFits es → Refusal (first_refusal n es)
unfolding first_refusal EffectFits Refusal
first_fits n [] f = tt
first_fits n (counts ∷ es) f = by_test (ltb n most_notes) (λ e. rw e (first_fits (suc n) es f.1)) (λ e. rw e tt)
first_fits n (refuses k ∷ es) f = f.0
first_fits n (sets_unit u ∷ es) f = first_fits n es f.1
first_fits n (sets_meter m ∷ es) f = first_fits n es f.1
first_fits n (no_effect ∷ es) f = first_fits n es f.1

-- KINDS
unfoldable KindRange : Kind → Type 0
KindRange blank = Unit {0}
KindRange (refused n) = LineRefusal n
KindRange (lyric t) = Bytes t
KindRange (voice v mid) = Unit {0}
KindRange (key k) = Unit {0}
KindRange (meter m) = MeterFits m
KindRange (unit u) = Unit {0}
KindRange tune = Unit {0}
KindRange other = Unit {0}
KindRange (music hi es l) = All EffectFits es

-- a key, unless it is refused
unless_range : (k : Key) (o : Option ℕ) → RefusalFits o → KindRange (kind_unless k o)
unfolding kind_unless KindRange RefusalFits
unless_range k none h = tt
unless_range k (some n) h = h

-- a field
field_range : (ed : Edition) (l : List ℕ) → KindRange (field_kind ed l)
unfolding field_kind voice_kind key_kind KindRange
field_range ed l =
    by_test (is_v l)
    (λ e. rw e (by_test (has_high l) (λ f. rw f tt) (λ f. rw f (by_test (is_nil (identifier (drop 2 l))) (λ g. rw g tt) (λ g. rw g tt)))))
    (λ e. rw e
    (by_test (is_k l) (λ f. rw f (by_test (has_high l) (λ g. rw g tt) (λ g. rw g (unless_range (key_of ed (drop 2 l)) (key_refusal ed (drop 2 l)) (key_refusal_lem ed (drop 2 l))))))
    (λ f. rw f
    (by_test (is_l l) (λ g. rw g (by_test (has_high l) (λ k. rw k tt) (λ k. rw k tt)))
    (λ g. rw g
    (by_test (is_m l) (λ k. rw k (by_test (has_high l) (λ m. rw m tt) (λ m. rw m (meter_fits (drop 2 l)))))
    (λ k. rw k (by_test (is_x l) (λ m. rw m tt) (λ m. rw m tt)))))))))

-- any line
kind_range : (ed : Edition) (l : List ℕ) → Bytes l → KindRange (line_kind ed l)
unfolding line_kind KindRange
kind_range ed l h =
    by_test (is_nil l) (λ e. rw e tt)
    (λ e. rw e
    (by_test (ltb 1048576 (length l)) (λ f. rw f tt)
    (λ f. rw f
    (by_test (is_lyric l) (λ g. rw g (drop_bytes 2 l h)) (λ g. rw g (by_test (is_field l) (λ k. rw k (field_range ed l)) (λ k. rw k (effects_fit ed l))))))))

-- A STATE OF THE SCAN
pub record ScanFits (s : ScanState) : Type 0 where
  pub meter_in_lem : MeterFits s.meter
  pub voices_in_lem : length s.env.voices ≤ most_voices

-- items in their ranges
abbrev pub ItemsFit : Items → Type 0
ItemsFit a = All (λ (x : ℕ × Item). ItemFits x.1) a

-- a step: refused with a line's number, or a state and items in their ranges
unfoldable pub OutFits : Out → Type 0
OutFits (refuse n l) = LineRefusal n
OutFits (on t a) = ScanFits t × ItemsFit a

-- no more voices than 32 are known at a V line either
before_most : (s : ScanState) → ScanFits s → length (voices_before s) ≤ most_voices
before_most s h = omega (arith, before_count s, h.voices_in_lem)

-- a V line
voice_out_lem : (s : ScanState) (v : List ℕ) (vs : List (List ℕ)) → ScanFits s → length vs ≤ most_voices → (known full mid : Bool) → (full ≡ false → length vs < most_voices) → OutFits (voice_on s v vs known full mid)
unfolding voice_on OutFits ItemFits
voice_out_lem s v vs h l true full true f = tt
voice_out_lem s v vs h l true full false f = (record { meter_in_lem = h.meter_in_lem; voices_in_lem = l }, (tt, tt))
voice_out_lem s v vs h l false true mid f = tt
voice_out_lem s v vs h l false false true f = tt
voice_out_lem s v vs h l false false false f = (record { meter_in_lem = h.meter_in_lem; voices_in_lem = omega (arith, length-append vs (v ∷ []), f refl) }, (tt, (tt, tt)))

-- a music line
play_out : (s : ScanState) (es : List Effect) (l : List ℕ) (o : Option ℕ) → ScanFits s → All EffectFits es → Refusal o → OutFits (play_on s es l o)
unfolding play_on OutFits ItemFits Refusal
play_out s es l (some k) h f r = r
play_out s es l none h f r = (record { meter_in_lem = last_fits es s.meter f h.meter_in_lem; voices_in_lem = h.voices_in_lem }, (h.meter_in_lem, tt))

-- an L line
unit_out : (s : ScanState) (u : Option ℕ) → ScanFits s → OutFits (unit_on s u)
unfolding unit_on OutFits
unit_out s none h = (record { meter_in_lem = h.meter_in_lem; voices_in_lem = h.voices_in_lem }, tt)
unit_out s (some u) h = (record { meter_in_lem = h.meter_in_lem; voices_in_lem = h.voices_in_lem }, tt)

-- any line
act_out : (s : ScanState) (k : Kind) (b : Bool) → ScanFits s → KindRange k → OutFits (act s k b)
unfolding act OutFits KindRange ItemFits
act_out s blank b h f = (record { meter_in_lem = h.meter_in_lem; voices_in_lem = h.voices_in_lem }, tt)
act_out s (refused n) b h f = f
act_out s (lyric t) true h f = (record { meter_in_lem = h.meter_in_lem; voices_in_lem = h.voices_in_lem }, tt)
act_out s (lyric t) false h f = (record { meter_in_lem = h.meter_in_lem; voices_in_lem = h.voices_in_lem }, (f, tt))
act_out s (voice v mid) b h f =
    let vs = voices_before s in
    voice_out_lem s v vs h (before_most s h) (elem v vs) (leb most_voices (length vs)) mid (λ e. leb-false most_voices (length vs) e)
act_out s (key k) true h f = (record { meter_in_lem = h.meter_in_lem; voices_in_lem = h.voices_in_lem }, (tt, tt))
act_out s (key k) false h f = (record { meter_in_lem = h.meter_in_lem; voices_in_lem = h.voices_in_lem }, (tt, tt))
act_out s (meter m) true h f = (record { meter_in_lem = f; voices_in_lem = h.voices_in_lem }, tt)
act_out s (meter m) false h f = (record { meter_in_lem = f; voices_in_lem = h.voices_in_lem }, (f, tt))
act_out s (unit u) b h f = unit_out s u h
act_out s tune true h f = (record { meter_in_lem = h.meter_in_lem; voices_in_lem = h.voices_in_lem }, tt)
act_out s tune false h f = tt
act_out s other b h f = (record { meter_in_lem = h.meter_in_lem; voices_in_lem = h.voices_in_lem }, tt)
act_out s (music hi es l) true h f = (record { meter_in_lem = h.meter_in_lem; voices_in_lem = h.voices_in_lem }, tt)
act_out s (music true es l) false h f = tt
act_out s (music false es l) false h f = play_out s es l (first_refusal s.notes es) h f (first_fits s.notes es f)

-- a line of the text
step_out : (ed : Edition) (s : ScanState) (r : TextLine) → ScanFits s → Bytes r → OutFits (step ed s r)
unfolding step kind_of OutFits
step_out ed s r h b =
    by_test (ltb s.lines most_lines) (λ e. rw e (act_out s (line_kind ed (clean r)) s.env.in_header h (kind_range ed (clean r) (clean_bytes r b)))) (λ e. rw e tt)

-- THE LINES OF A TEXT
first_out : (a : Items) (o : Out) → ItemsFit a → OutFits o → OutFits (first a o)
unfolding OutFits
first_out a (refuse n l) h f = f
first_out a (on t b) h f = (f.0, All-append _ a b h f.1)

-- any lines
run_out : (ed : Edition) (rs : List TextLine) (s : ScanState) → ScanFits s → All Bytes rs → OutFits (run (step ed) s rs)
unfolding OutFits
run_out ed [] s h b = (h, tt)
run_out ed (r ∷ rs) s h b = go (step ed s r) refl (step_out ed s r h b.0) (λ t k. run_out ed rs t k b.1)
  where
    go : (o : Out) → step ed s r ≡ o → OutFits o → ((t : ScanState) → ScanFits t → OutFits (run (step ed) t rs)) → OutFits (run (step ed) s (r ∷ rs))
    go (refuse n l) e f ih = rw (e, run) f
    go (on t a) e f ih = rw (e, run) (first_out a (run (step ed) t rs) f.1 (ih t f.0))

-- THE SCAN OF A TEXT of bytes
pub scan_out : (ed : Edition) (text : List ℕ) → Bytes text → OutFits (scan ed (text_lines text))
unfolding scan begin
scan_out ed text h = run_out ed (text_lines text) begin (record { meter_in_lem = (lit< tt, lit< tt); voices_in_lem = lit≤ tt }) (rows_bytes text h)
