-- What is written for syllables, as the writers go through them.
use Prim.Native.Nat.{ℕ, ◌+◌, ◌-◌, ◌*◌, ◌/◌, ◌%◌, ◌≤◌, ◌<◌, min, max}
use mathlib.Core.Path.{◌≡◌, refl, sym, ap, subst, ◌∙◌}
use mathlib.Core.Bool.{Bool, false}
use mathlib.Core.List.{List, [], ◌∷◌, ◌++◌, append_assoc, append-nil}
use native.Mathlib.Decide.{dec_lt}
use native.Mathlib.Omega.{arith}
use borrow.Author.Tests.{eq-eqb, ne_eqb}
use lib.ListN.{length, get_or, set, length-append, length-map, get_or-eq_default}
use Rattle.laws.specs.Bytes.{part, between, splice, le32}
use Rattle.laws.proofs.Parts.{length_part, length_between, part_none}
use Rattle.laws.proofs.Splices.{splice_nil, splice_snoc, spliced_next}
use Rattle.laws.proofs.Numbers.{length_little, le32_bytes}
use Rattle.laws.proofs.Lists.{All-map}
use Rattle.laws.proofs.Rows.{enc_all_none, enc_all_cons, enc_all_append}
use Rattle.standard.specs.Lyrics.{syllable_text}
use Rattle.reader.specs.Codes.{syllabic_code, bit}
use Rattle.reader.specs.Lyrics.{Syllable}
use Rattle.reader.specs.Records.{lyric_bytes}
use Rattle.lyric_words.specs.Words.{as_syllabic}
use Rattle.lyric_walk.specs.declared.Found.{Found}
use Rattle.lyric_walk.specs.declared.Span.{Span}
use Rattle.lyric_walk.specs.declared.Sole.{Sole}
use Rattle.lyric_walk.specs.declared.Sole.TheVariants as S
use Rattle.lyric_walk.specs.Walks.{chain, syllable_is, of_verse, within, found_at, sung_at, window, Gathered, InText, Says, SoleIs, sung_byte}
use Rattle.lyric_walk.proofs.Chains.{verses_small}
use Rattle.lyric_walk.proofs.Verses.{rising_chain, within_split, within_next, within_all, within_start, within_past, within_none}
use Rattle.lyric_walk.proofs.Walk.{same_syllable, text_length, text_more}
use Rattle.std.specs.Prelude.{Some, None}
use Rattle.store_sections.specs.Writes.{WroteIs}
use Rattle.write_syllables.specs.Pieces.{piece, pieces}

-- NUMBERS
pub low_bytes : (v : ℕ) → le32 (v % 4294967296) ≡ le32 v
low_bytes v =
    let w = v % 4294967296 in
    let q = v / 4294967296 in
    let whole : v ≡ q * 4294967296 + w = omega arith in
    let a : w % 256 ≡ v % 256 = omega arith in
    let b : v / 256 ≡ q * 16777216 + w / 256 = omega arith in
    let c : v / 65536 ≡ q * 65536 + w / 65536 = omega arith in
    let d : v / 16777216 ≡ q * 256 + w / 16777216 = omega arith in
    le32_bytes w
    ∙ (λ i. a i ∷ low (q * 65536) (w / 256) (v / 256) (omega (arith, b)) i ∷ low (q * 256) (w / 65536) (v / 65536) (omega (arith, c)) i ∷ low q (w / 16777216) (v / 16777216) (omega (arith, d)) i ∷ [])
    ∙ sym (le32_bytes v)
  where
    low : (a x y : ℕ) → y ≡ a * 256 + x → x % 256 ≡ y % 256
    low a x y e = omega arith

-- A RECORD
pub length_record : (i : ℕ) (y : Syllable) → length (lyric_bytes i y) ≡ 11
unfolding lyric_bytes
length_record i y = length-append (le32 i) _ ∙ omega (arith, length_little 4 i, length_little 4 (length y.text))

module _ (text : List ℕ) (i : ℕ) (f : Found) where
  pub record_none : {d e : List ℕ} → length d < 11 → WroteIs d (lyric_bytes i (syllable_is text f)) e None
  record_none h = record { says = omega (arith, length_record i (syllable_is text f)) }

  record_is : f.end ≤ length text → lyric_bytes i (syllable_is text f) ≡ le32 i ++ (f.verse ∷ syllabic_code (as_syllabic f.syllabic) ∷ bit f.extend 1 ∷ le32 (f.end - f.at))
  unfolding lyric_bytes syllable_is
  record_is h = ap (λ (n : ℕ). le32 i ++ (f.verse ∷ syllabic_code (as_syllabic f.syllabic) ∷ bit f.extend 1 ∷ le32 n)) (text_length text f h)

  pub record_wrote : {d t u e : List ℕ} (x n c b : ℕ) → le32 x ≡ le32 i → le32 n ≡ le32 (f.end - f.at) → c ≡ syllabic_code (as_syllabic f.syllabic) → b ≡ bit f.extend 1
      → t ≡ splice d 0 (le32 x) → u ≡ splice t 4 (f.verse ∷ c ∷ b ∷ []) → e ≡ splice u 7 (le32 n) → 11 ≤ length d → f.end ≤ length text
      → WroteIs d (lyric_bytes i (syllable_is text f)) e (Some 11)
  record_wrote {d} {t} {u} {e} x n c b xs ns cs bs p q r room h =
      let four : length (le32 x) ≡ 4 = length_little 4 x in
      let two = spliced_next d t u 0 4 _ _ p q (omega arith) in
      let seven : 7 ≡ 0 + length (le32 x ++ (f.verse ∷ c ∷ b ∷ [])) = omega (arith, length-append (le32 x) (f.verse ∷ c ∷ b ∷ []), four) in
      let all = spliced_next d u e 0 7 _ _ two r seven in
      let shape : (le32 x ++ (f.verse ∷ c ∷ b ∷ [])) ++ le32 n ≡ lyric_bytes i (syllable_is text f) =
      append_assoc (le32 x) (f.verse ∷ c ∷ b ∷ []) (le32 n) ∙ (λ j. xs j ++ (f.verse ∷ cs j ∷ bs j ∷ ns j)) ∙ sym (record_is h) in
      record { says = (sym (length_record i (syllable_is text f)), room, all ∙ ap (splice d 0) shape) }

-- A TEXT
pub text_none : {d e : List ℕ} (text : List ℕ) (at end : ℕ) → end ≤ length text → length d < end - at → WroteIs d (syllable_text (between text at end)) e None
unfolding syllable_text
text_none text at end h l = record { says = omega (arith, length-map (between text at end) sung_byte ∙ length_between text at end h) }

pub text_wrote : {d e : List ℕ} (text : List ℕ) (at end : ℕ) → end ≤ length text → end - at ≤ length d → e ≡ splice d 0 (syllable_text (between text at end)) → WroteIs d (syllable_text (between text at end)) e (Some (end - at))
unfolding syllable_text
text_wrote text at end h l p = record { says = (sym (length-map (between text at end) sung_byte ∙ length_between text at end h), l, p) }

-- the loop over its bytes
pub text_start : (d text : List ℕ) (at : ℕ) → d ≡ splice d 0 (syllable_text (part text at 0))
unfolding syllable_text
text_start d text at = sym (ap (λ (l : List ℕ). splice d 0 (syllable_text l)) (part_none text at) ∙ splice_nil d 0)

pub text_on : (d e text : List ℕ) (at j b : ℕ) → e ≡ splice d 0 (syllable_text (part text at j)) → b ≡ sung_byte (get_or text (at + j) 0) → at + j < length text
    → set e j b ≡ splice d 0 (syllable_text (part text at (j + 1)))
unfolding syllable_text
text_on d e text at j b p q h =
    let n : length (syllable_text (part text at j)) ≡ j = length-map (part text at j) sung_byte ∙ length_part text at j (omega arith) in
    ap (λ (l : List ℕ). set l j b) p ∙ splice_snoc d 0 (syllable_text (part text at j)) j b (omega arith)
    ∙ ap (splice d 0) (ap (λ (x : ℕ). syllable_text (part text at j) ++ (x ∷ [])) q ∙ sym (text_more text at j h))

-- where a syllable stands
pub sole_in : (text s : List ℕ) (log k : ℕ) (r : Sole) (f : Found) → SoleIs text s log k r → r ≡ S.One f → (f.at ≤ f.end) × (f.end ≤ length text)
sole_in text s log k r f n e = let (g, a, b) = subst (Says text s log k) e n.says in (a, b)

-- SYLLABLE BY SYLLABLE
module _ (b : Bool) (i : ℕ) where
  pub pieces_cons : {ys zs : List Syllable} {y : Syllable} → ys ≡ y ∷ zs → pieces b i ys ≡ piece b i y ++ pieces b i zs
  unfolding pieces
  pieces_cons {ys} {zs} {y} e = ap (pieces b i) e ∙ enc_all_cons (piece b i) y zs

  pub pieces_none : {ys : List Syllable} → ys ≡ [] → pieces b i ys ≡ []
  unfolding pieces
  pieces_none e = ap (pieces b i) e ∙ enc_all_none (piece b i)

  pieces_append : {ys : List Syllable} (xs zs : List Syllable) → ys ≡ xs ++ zs → pieces b i ys ≡ pieces b i xs ++ pieces b i zs
  unfolding pieces
  pieces_append {ys} xs zs e = ap (pieces b i) e ∙ enc_all_append (piece b i) xs zs

  -- a row of the log as a syllable; none for 0
  module _ (text s : List ℕ) (log p : ℕ) (x : Bool) where
    pub place_none : p ≡ 0 → pieces b i (sung_at text s log p x) ≡ []
    place_none e = pieces_none (rw (eq-eqb p 0 e))

    pub place_one : (p ≡ 0 → ⊥) → (f : Found) → InText (length text) (found_at s log p x) f → pieces b i (sung_at text s log p x) ≡ piece b i (syllable_is text f)
    place_one n f t =
        pieces_cons (rw (ne_eqb p 0 n) (ap (λ (y : Syllable). y ∷ []) (sym (same_syllable text (found_at s log p x) f t))))
        ∙ ap (λ (l : List ℕ). piece b i (syllable_is text f) ++ l) (pieces_none refl) ∙ append-nil (piece b i (syllable_is text f))

  module _ (text s : List ℕ) (log k : ℕ) where
    -- the verses of a window, one by one
    module _ (from : ℕ) (places : List ℕ) (held : List Bool) (r : Span) (g : Gathered s log k from places held r) where
      pub window_start : pieces b i (within from (from + window) (chain text s log k)) ≡ pieces b i (within (max r.least from) (from + window) (chain text s log k))
      window_start = ap (pieces b i) (within_start from (from + window) r.least r.most (chain text s log k) (g.span text))

      pub window_next : (v : ℕ) → from ≤ v → v < from + window
          → pieces b i (within v (from + window) (chain text s log k))
          ≡ pieces b i (sung_at text s log (get_or places (v - from) 0) (get_or held (v - from) false)) ++ pieces b i (within (v + 1) (from + window) (chain text s log k))
      window_next v h l =
          let at : from + (v - from) ≡ v = omega arith in
          pieces_append (of_verse v (chain text s log k)) (within (v + 1) (from + window) (chain text s log k)) (within_next v (from + window) (chain text s log k) l (rising_chain text s log k k))
          ∙ ap (λ (zs : List Syllable). pieces b i zs ++ pieces b i (within (v + 1) (from + window) (chain text s log k)))
          (ap (λ (u : ℕ). of_verse u (chain text s log k)) (sym at) ∙ g.each (v - from) (omega arith) text)

      pub window_end : (v : ℕ) → min (r.most + 1) (from + window) ≤ v → pieces b i (within v (from + window) (chain text s log k)) ≡ []
      window_end v h = pieces_none (go (dec_lt v (from + window)))
        where
          go : Dec (v < from + window) → within v (from + window) (chain text s log k) ≡ []
          go (yes l) = within_past v (from + window) r.least r.most (chain text s log k) (g.span text) (omega arith)
          go (no l) = within_none v (from + window) (chain text s log k) (omega arith)

      -- no verse is above it
      pub verses_end : (a c : ℕ) → r.most < a → pieces b i (within a c (chain text s log k)) ≡ []
      verses_end a c h = pieces_none (within_past a c r.least r.most (chain text s log k) (g.span text) h)

    -- the chain, window by window
    pub chain_start : (c : ℕ) → 256 ≤ c → ((j : ℕ) → get_or s j 0 < 256) → pieces b i (chain text s log k) ≡ pieces b i (within 0 c (chain text s log k))
    chain_start c h bytes =
        ap (pieces b i) (sym (within_all c (chain text s log k) (All-map (λ (y : Syllable). y.verse < 256) (λ (y : Syllable). y.verse < c) (λ y l. omega arith) (chain text s log k) (verses_small text s log k k bytes))))

    pub chain_next : (a m c : ℕ) → a ≤ m → m ≤ c → pieces b i (within a c (chain text s log k)) ≡ pieces b i (within a m (chain text s log k)) ++ pieces b i (within m c (chain text s log k))
    chain_next a m c h l = pieces_append (within a m (chain text s log k)) (within m c (chain text s log k)) (within_split a m c 0 (chain text s log k) h l (rising_chain text s log k k))

    pub chain_end : (a c : ℕ) → c ≤ a → pieces b i (within a c (chain text s log k)) ≡ []
    chain_end a c h = pieces_none (within_none a c (chain text s log k) h)

    -- its one syllable, or none
    pub sole_none : (r : Sole) → SoleIs text s log k r → r ≡ S.Nothing → pieces b i (chain text s log k) ≡ []
    sole_none r n e = pieces_none (subst (Says text s log k) e n.says)

    pub sole_one : (r : Sole) (f : Found) → SoleIs text s log k r → r ≡ S.One f → pieces b i (chain text s log k) ≡ piece b i (syllable_is text f)
    sole_one r f n e =
        pieces_cons (subst (Says text s log k) e n.says).0 ∙ ap (λ (l : List ℕ). piece b i (syllable_is text f) ++ l) (pieces_none refl) ∙ append-nil (piece b i (syllable_is text f))

  -- a note past the last has none
  pub pieces_past : (ws : List (List Syllable)) (j : ℕ) → length ws ≤ j → pieces b i (get_or ws j []) ≡ []
  pieces_past ws j h = pieces_none (get_or-eq_default ws [] {n = j} h)
