-- THE READING OF EVERY TEXT: its bytes are bytes, it is at most 23 times as long as the text, and a store that long is never too short.
use Prim.Native.Nat.{ℕ, zero, suc, ◌+◌, ◌-◌, ◌*◌, ◌≤◌, ◌<◌}
use mathlib.Core.Path.{◌≡◌, refl, sym, ap, subst, ◌∙◌}
use mathlib.Core.Bool.{true, false, false≢true}
use mathlib.Core.Logic.{◌⊎◌, inl, inr}
use mathlib.Core.List.{List, [], ◌∷◌}
use native.Mathlib.Omega.{arith}
use lib.Dec.{eqb, leb, ltb, lit<}
use lib.ListN.{length}
use borrow.Author.Tests.{leb-true, leb-false, ltb-true, ltb-false, lt-leb, ne_eqb}
use Rattle.laws.specs.Lists.{foldl, sum, any, All}
use Rattle.laws.specs.Bytes.{le32, zeros}
use Rattle.laws.proofs.Bools.{by_test, and_no_right}
use Rattle.laws.proofs.Numbers.{little_bytes}
use Rattle.editions.specs.declared.Edition.{Edition}
use Rattle.reader.proofs.PartLaws.{parts_count}
use Rattle.reader.specs.Text.{within, Utf8, between, one, two, three, after_e0, after_ed, after_f0, after_f4, invalid, utf8_step, is_between, is_utf8, is_blank, text_lines}
use Rattle.reader.specs.Steps.{refuse, on, items_of}
use Rattle.reader.specs.Scan.{Item, Env, ScanState, scan, Items, Out, most_voices}
use Rattle.reader.specs.Part.{Part}
use Rattle.reader.specs.Records.{sections}
use Rattle.reader.specs.Answer.{Verdict, refusal, reading, Outcome, most_bytes, scratch_needed, refused_with, early, is_music, built, parts, part_bytes, encode, measure_count, written, ended, finish, scanned, unless, parse_abc}
use Rattle.bounds.specs.Weights.{item_bytes}
use Rattle.bounds.specs.Ranges.{Bytes, ItemFits, PartFits}
use Rattle.bounds.proofs.ScanWeights.{Holds, Silent, voice_count}
use Rattle.bounds.proofs.ScanRanges.{refusal_byte, not_16, ItemsFit, OutFits, ScanFits, scan_out}
use Rattle.bounds.proofs.LyricRanges.{part_fits, empty_fits}
use Rattle.bounds.proofs.RecordBytes.{both, sections_bytes}
use Rattle.bounds.proofs.Length.{encode_bound, silent_parts, scan_bound}

-- UTF-8 IS OF BYTES
not_within : (a b c : ℕ) → b < c → within a b c ≡ false
not_within a b c h = and_no_right (leb a c) (leb c b) (lt-leb c b h)

-- a byte that is higher is another
not_eq : (c n : ℕ) → n < c → eqb c n ≡ false
not_eq c n h = ne_eqb c n (λ e. absurd (omega (arith, e)))

-- what is no byte ends it
big_invalid : (u : Utf8) (c : ℕ) → 256 ≤ c → utf8_step u c ≡ invalid
unfolding utf8_step
big_invalid between c h =
    rw (lt-leb c 0x7f (omega arith), not_within 0xc2 0xdf c (omega arith), not_eq c 0xe0 (omega arith), not_eq c 0xed (omega arith), not_within 0xe1 0xef c (omega arith), not_eq c 0xf0 (omega arith), not_eq c 0xf4 (omega arith), not_within 0xf1 0xf3 c (omega arith))
big_invalid one c h = rw (not_within 0x80 0xbf c (omega arith))
big_invalid two c h = rw (not_within 0x80 0xbf c (omega arith))
big_invalid three c h = rw (not_within 0x80 0xbf c (omega arith))
big_invalid after_e0 c h = rw (not_within 0xa0 0xbf c (omega arith))
big_invalid after_ed c h = rw (not_within 0x80 0x9f c (omega arith))
big_invalid after_f0 c h = rw (not_within 0x90 0xbf c (omega arith))
big_invalid after_f4 c h = rw (not_within 0x80 0x8f c (omega arith))
big_invalid invalid c h = refl

-- and it stays so
stays_invalid : (s : List ℕ) → is_between (foldl utf8_step invalid s) ≡ false
unfolding utf8_step
stays_invalid [] = refl
stays_invalid (c ∷ s) = stays_invalid s

-- from any state
valid_bytes : (s : List ℕ) (u : Utf8) → is_between (foldl utf8_step u s) ≡ true → Bytes s
valid_bytes [] u h = tt
valid_bytes (c ∷ s) u h =
    by_test (ltb c 256) (λ e. (ltb-true c 256 e, valid_bytes s (utf8_step u c) h))
    (λ e. absurd (false≢true (sym (ap (λ (v : Utf8). is_between (foldl utf8_step v s)) (big_invalid u c (ltb-false c 256 e)) ∙ stays_invalid s) ∙ h)))

-- a text that is UTF-8 is of bytes
pub utf8_bytes : (s : List ℕ) → is_utf8 s ≡ true → Bytes s
unfolding is_utf8
utf8_bytes s h = valid_bytes s between h

-- THE CALL: refused before the first line with 1, 2, 3 or 15, or scanned, a text of bytes up to the most
pub call_cases : (ed : Edition) (P : Outcome → Type 0) (text : List ℕ) (rl sl : ℕ)
    → P (refused_with 1 0 rl sl) → P (refused_with 2 0 rl sl) → P (refused_with 3 0 rl sl) → P (refused_with 15 0 rl sl)
    → (length text ≤ most_bytes → Bytes text → P (scanned ed rl sl (scan ed (text_lines text)))) → P (parse_abc ed text rl sl)
unfolding parse_abc early unless
call_cases ed P text rl sl p1 p2 p3 p15 f =
    by_test (leb (length text) most_bytes)
    (λ a. rw a
    (by_test (is_utf8 text)
    (λ b. rw b
    (by_test (is_blank text) (λ c. rw c p1)
    (λ c. rw c (by_test (leb (scratch_needed (length text)) sl) (λ d. rw d (f (leb-true (length text) most_bytes a) (utf8_bytes text b))) (λ d. rw d p15)))))
    (λ b. rw b p3)))
    (λ a. rw a p2)

-- EVERY BYTE
zero_bytes : (n : ℕ) → Bytes (zeros n)
unfolding zeros
zero_bytes zero = tt
zero_bytes (suc n) = (lit< tt, zero_bytes n)

-- the items of a part
mine_fit : (q : ℕ) (a : Items) → ItemsFit a → All ItemFits (items_of q a)
mine_fit q [] h = tt
mine_fit q (x ∷ a) h = by_test (eqb x.0 q) (λ e. rw e (h.0, mine_fit q a h.1)) (λ e. rw e (mine_fit q a h.1))

-- a part
built_fits : (ed : Edition) (e : Env) (is : List Item) → All ItemFits is → PartFits (built ed e is)
unfolding built
built_fits ed e is h = by_test (any is_music is) (λ m. rw m (part_fits ed e.header_key is h)) (λ m. rw m empty_fits)

-- the parts of a reading are in their ranges
pub parts_fit : (ed : Edition) (e : Env) (a : Items) (n q : ℕ) → ItemsFit a → All PartFits (parts ed e (λ p. items_of p a) n q)
unfolding parts
parts_fit ed e a zero q h = tt
parts_fit ed e a (suc n) q h = (built_fits ed e (items_of q a) (mine_fit q a h), parts_fit ed e a n (suc q) h)

-- their sections
parts_bytes : (ps : List Part) → All PartFits ps → Bytes (part_bytes ps)
unfolding part_bytes
parts_bytes [] h = tt
parts_bytes (p ∷ ps) h = both (sections p) (part_bytes ps) (sections_bytes p h.0) (parts_bytes ps h.1)

-- with the count of parts
pub encode_bytes : (ps : List Part) → All PartFits ps → Bytes (encode ps)
unfolding encode
encode_bytes ps h = both (le32 (length ps)) (part_bytes ps) (little_bytes 4 (length ps)) (parts_bytes ps h)

-- THE PARTS that a scan leads to
abbrev pub parts_after : Edition → ScanState → Items → List Part
parts_after ed t a = parts ed t.env (λ p. items_of p a) (voice_count t) 0

-- they are 32 at most
pub parts_most : (ed : Edition) (t : ScanState) (a : Items) → ScanFits t → length (parts_after ed t a) ≤ most_voices
parts_most ed t a h = omega (arith, parts_count ed t.env (λ p. items_of p a) (voice_count t) 0, h.voices_in_lem)

-- where there is a measure, 23 bytes for each byte of the text are enough
enough : (ed : Edition) (text : List ℕ) (t : ScanState) (a : Items) → Silent a ⊎ (4 + 48 * voice_count t + 23 * sum (λ (x : ℕ × Item). item_bytes x.1) a ≤ 23 * length text)
    → leb 1 (sum measure_count (parts_after ed t a)) ≡ true → length (encode (parts_after ed t a)) ≤ 23 * length text
enough ed text t a (inl s) m = absurd (omega (arith, leb-true 1 (sum measure_count (parts_after ed t a)) m, silent_parts ed t.env a (voice_count t) 0 s))
enough ed text t a (inr h) m = omega (arith, h, encode_bound ed t.env a (voice_count t))

-- EVERY OUTCOME of a call: a refusal other than 16; refusal 16, of a store that is shorter than 23 bytes for each byte of the text; or a reading
pub outcome_cases : (ed : Edition) (P : Outcome → Type 0) (text : List ℕ) (rl sl : ℕ)
    → ((n l : ℕ) → (n < 256) × (n ≡ 16 → ⊥) → P (refused_with n l rl sl))
    → (rl < 23 * length text → P (refused_with 16 0 rl sl))
    → ((t : ScanState) (a : Items) → ScanFits t → ItemsFit a → length text ≤ most_bytes → length (encode (parts_after ed t a)) ≤ 23 * length text → P (written (parts_after ed t a) rl sl))
    → P (parse_abc ed text rl sl)
unfolding scanned finish ended OutFits Holds
outcome_cases ed P text rl sl refused short read =
    call_cases ed P text rl sl (refused 1 0 (refusal_byte 1 tt, not_16 1 tt)) (refused 2 0 (refusal_byte 2 tt, not_16 2 tt)) (refused 3 0 (refusal_byte 3 tt, not_16 3 tt)) (refused 15 0 (lit< tt, λ e. absurd (omega (arith, e))))
    (λ len bytes. go len (scan ed (text_lines text)) (scan_out ed text bytes) (scan_bound ed text))
  where
    go : length text ≤ most_bytes → (o : Out) → OutFits o → Holds (λ t a. Silent a ⊎ (4 + 48 * voice_count t + 23 * sum (λ (x : ℕ × Item). item_bytes x.1) a ≤ 23 * length text)) o → P (scanned ed rl sl o)
    go len (refuse n l) f b = refused n l (refusal_byte n f, not_16 n f)
    go len (on t a) f b =
        let ps = parts_after ed t a in
        by_test (leb 1 (sum measure_count ps))
        (λ m. rw m
        (by_test (leb (length (encode ps)) rl) (λ k. rw k (read t a f.0 f.1 len (enough ed text t a b m)))
        (λ k. rw k (short (omega (arith, leb-false (length (encode ps)) rl k, enough ed text t a b m))))))
        (λ m. rw m (refused 1 0 (refusal_byte 1 tt, not_16 1 tt)))

-- EVERY BYTE OF THE READING STORE is below 256, for every text and both store lengths
pub reading_bytes_lem : (ed : Edition) (text : List ℕ) (rl sl : ℕ) → Bytes (parse_abc ed text rl sl).reading
unfolding refused_with written
reading_bytes_lem ed text rl sl =
    outcome_cases ed (λ o. Bytes o.reading) text rl sl (λ n l h. zero_bytes rl) (λ h. zero_bytes rl)
    (λ t a h f len short. both (encode (parts_after ed t a)) (zeros (rl - length (encode (parts_after ed t a)))) (encode_bytes (parts_after ed t a) (parts_fit ed t.env a (voice_count t) 0 f)) (zero_bytes (rl - length (encode (parts_after ed t a)))))

-- EVERY PART OF A READING is in its ranges
unfoldable Ranged : Verdict → Type 0
Ranged (refusal n l) = Unit {0}
Ranged (reading ps) = All PartFits ps

verdict_ranged : (ed : Edition) (text : List ℕ) (rl sl : ℕ) → Ranged (parse_abc ed text rl sl).verdict
unfolding refused_with written Ranged
verdict_ranged ed text rl sl = outcome_cases ed (λ o. Ranged o.verdict) text rl sl (λ n l h. tt) (λ h. tt) (λ t a h f len short. parts_fit ed t.env a (voice_count t) 0 f)

pub reading_fits : (ed : Edition) (text : List ℕ) (rl sl : ℕ) (ps : List Part) → (parse_abc ed text rl sl).verdict ≡ reading ps → All PartFits ps
unfolding Ranged
reading_fits ed text rl sl ps e = subst Ranged e (verdict_ranged ed text rl sl)

-- THE LENGTH LAW
unfoldable Short : ℕ → Verdict → Type 0
Short n (refusal k l) = Unit {0}
Short n (reading ps) = length (encode ps) ≤ n

verdict_short : (ed : Edition) (text : List ℕ) (rl sl : ℕ) → Short (23 * length text) (parse_abc ed text rl sl).verdict
unfolding refused_with written Short
verdict_short ed text rl sl = outcome_cases ed (λ o. Short (23 * length text) o.verdict) text rl sl (λ n l h. tt) (λ h. tt) (λ t a h f len short. short)

-- a reading is at most 23 times as long as its text
pub reading_length : (ed : Edition) (text : List ℕ) (rl sl : ℕ) (ps : List Part) → (parse_abc ed text rl sl).verdict ≡ reading ps → length (encode ps) ≤ 23 * length text
unfolding Short
reading_length ed text rl sl ps e = subst (Short (23 * length text)) e (verdict_short ed text rl sl)

-- the scratch that a call asks for is more than that
pub reading_below_scratch : (ed : Edition) (text : List ℕ) (rl sl : ℕ) (ps : List Part) → (parse_abc ed text rl sl).verdict ≡ reading ps → length (encode ps) ≤ scratch_needed (length text)
unfolding scratch_needed
reading_below_scratch ed text rl sl ps e = omega (arith, reading_length ed text rl sl ps e)

-- REFUSAL 16 is never given to a store of 23 bytes for each byte of the text
unfoldable NotShort : ℕ → ℕ → Verdict → Type 0
NotShort need rl (refusal n l) = n ≡ 16 → rl < need
NotShort need rl (reading ps) = Unit {0}

verdict_16 : (ed : Edition) (text : List ℕ) (rl sl : ℕ) → NotShort (23 * length text) rl (parse_abc ed text rl sl).verdict
unfolding refused_with written NotShort
verdict_16 ed text rl sl =
    outcome_cases ed (λ o. NotShort (23 * length text) rl o.verdict) text rl sl (λ n l h e. absurd (h.1 e)) (λ h e. h) (λ t a h f len short. tt)

pub never_16 : (ed : Edition) (text : List ℕ) (rl sl l : ℕ) → 23 * length text ≤ rl → (parse_abc ed text rl sl).verdict ≡ refusal 16 l → ⊥
unfolding NotShort
never_16 ed text rl sl l h e = absurd (omega (arith, h, subst (NotShort (23 * length text) rl) e (verdict_16 ed text rl sl) refl))

-- nor to one as long as the scratch that is asked for
pub never_16_scratch : (ed : Edition) (text : List ℕ) (rl sl l : ℕ) → scratch_needed (length text) ≤ rl → (parse_abc ed text rl sl).verdict ≡ refusal 16 l → ⊥
unfolding scratch_needed
never_16_scratch ed text rl sl l h e = never_16 ed text rl sl l (omega (arith, h)) e
