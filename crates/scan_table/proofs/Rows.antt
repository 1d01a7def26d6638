-- Laws of the voices and of the line table: a row is read back, one more is written, and neither table disturbs the other.
use Prim.Native.Nat.{ℕ, suc, ◌+◌, ◌-◌, ◌*◌, ◌^◌, ◌≤◌, ◌<◌, min}
use mathlib.Core.Path.{◌≡◌, refl, sym, ap, ◌∙◌}
use mathlib.Core.Bool.{Bool, true, false, ◌&&◌}
use mathlib.Core.List.{List, [], ◌∷◌, ◌++◌, map}
use native.Mathlib.Nat.{add-zero, zero-add}
use native.Mathlib.Omega.{arith}
use Rattle.std.specs.Prelude.{Some, None}
use native.Mathlib.Decide.{dec_le}
use lib.Dec.{eqb}
use Rattle.std.specs.Cmp.Lexicographic.{pointwise}
use lib.ListN.{length, take, drop, get_or, length-map, drop_of_length-le, get_or-map}
use Rattle.laws.specs.Lists.{index_of, eq_text}
use Rattle.laws.specs.Bytes.{part, between, splice, little, little_at, le32, u32_at, rows}
use Rattle.laws.proofs.Lists.{drop_next, map_append, index_zero, index_suc}
use Rattle.laws.proofs.Numbers.{little_at_little, little_at_part, little_at_same, little_at_below, little_at_above}
use Rattle.laws.proofs.Parts.{length_part, get_d_part, part_past, part_rest, between_none}
use Rattle.laws.proofs.Splices.{length_splice, byte_below, byte_same, part_around}
use Rattle.laws.proofs.Rows.{length_rows, rows_none, rows_more, rows_push, rows_get, rows_below, rows_above, rows_front}
use Rattle.reader.specs.Scan.{Item, voice_declared, key_change, meter_change, lyric_line, music_line}
use Rattle.scan_table.specs.declared.Kind.{Kind}
use Rattle.scan_table.specs.declared.Kind.TheVariants as K
use Rattle.scan_table.specs.declared.Place.{Place}
use Rattle.scan_table.specs.declared.Row.{Row}
use Rattle.scan_table.specs.Rows.{voice_row_width, items_from, item_row_width, row_from, table_end, voice_start_at, voice_end_at, kind_at, part_at, a_at, b_at, start_at, end_at, unit_at, byte_of, kind_of, FoundVoice, dec_voice, voice_in, voices_in, dec_item, enc_item, item_at, item_as, item_in, items_in, lyric_row, with_lyric, Cut, RowIs}

-- READ BACK
pub length_voice : (a b : ℕ) → length (le32 a ++ le32 b) ≡ voice_row_width
unfolding little
length_voice a b = refl

pub voice_back : (a b : ℕ) → a < 2 ^ 32 → b < 2 ^ 32 → dec_voice (le32 a ++ le32 b) ≡ record { at = a; end = b }
unfolding dec_voice little little_at
voice_back a b h k =
    let x = little_at_little 4 a h in
    let y = little_at_little 4 b k in
    λ i. record { at = x i; end = y i }

pub length_item : (r : Row) → length (enc_item r) ≡ item_row_width
unfolding enc_item little
length_item r = refl

kind_back : (k : Kind) → kind_of (byte_of k) ≡ k
kind_back K.VoiceDeclared = refl
kind_back K.Reset = refl
kind_back K.KeyInHeader = refl
kind_back K.KeyChange = refl
kind_back K.MeterChange = refl
kind_back K.LyricLine = refl
kind_back K.MusicLine = refl

pub item_back : (r : Row) → r.at < 2 ^ 32 → r.end < 2 ^ 32 → r.unit < 2 ^ 32 → dec_item (enc_item r) ≡ r
unfolding dec_item enc_item little little_at
item_back r h k l =
    let w = kind_back r.kind in
    let x = little_at_little 4 r.at h in
    let y = little_at_little 4 r.end k in
    let z = little_at_little 4 r.unit l in
    λ i. record { kind = w i; part = r.part; a = r.a; b = r.b; at = x i; end = y i; unit = z i }

-- a lyric line's row with its verse and its first note
bytes_lyric : (c : List ℕ) (verse first : ℕ) → length c ≡ item_row_width → first < 2 ^ 32 → dec_item (splice (splice c b_at (verse ∷ [])) unit_at (le32 first)) ≡ lyric_row (dec_item c) verse first
unfolding dec_item
bytes_lyric c verse first n h =
    let d = splice c b_at (verse ∷ []) in
    let m : length d ≡ item_row_width = length_splice c b_at (verse ∷ []) ∙ n in
    let low : (k : ℕ) → k < b_at → get_or (splice d unit_at (le32 first)) k 0 ≡ get_or c k 0 = λ k l. byte_below d unit_at (le32 first) k (omega arith) ∙ byte_below c b_at (verse ∷ []) k l in
    let place : (k : ℕ) → start_at ≤ k → k + 4 ≤ unit_at → u32_at (splice d unit_at (le32 first)) k ≡ u32_at c k = λ k l u. little_at_below 4 d unit_at (le32 first) k u ∙ little_at_above 4 c b_at (verse ∷ []) k l in
    let v : get_or (splice d unit_at (le32 first)) b_at 0 ≡ verse = byte_below d unit_at (le32 first) b_at (omega arith) ∙ byte_same c b_at (verse ∷ []) 0 (omega (arith, n)) (omega arith) in
    let u : u32_at (splice d unit_at (le32 first)) unit_at ≡ first = little_at_same 4 d unit_at first (omega (arith, m)) h in
    let k0 = low kind_at (omega arith) in
    let k1 = low part_at (omega arith) in
    let k2 = low a_at (omega arith) in
    let from = place start_at (omega arith) (omega arith) in
    let to = place end_at (omega arith) (omega arith) in
    λ i. record { kind = kind_of (k0 i); part = k1 i; a = k2 i; b = v i; at = from i; end = to i; unit = u i }

pub lyric_back : (s : List ℕ) (i verse first : ℕ) → row_from i + item_row_width ≤ length s → first < 2 ^ 32 → item_at (with_lyric s i verse first) i ≡ lyric_row (item_at s i) verse first
lyric_back s i verse first h l =
    ap dec_item
    (part_around (splice s (row_from i + b_at) (verse ∷ [])) (row_from i) item_row_width unit_at (le32 first)
    ∙ ap (λ (c : List ℕ). splice c unit_at (le32 first)) (part_around s (row_from i) item_row_width b_at (verse ∷ [])))
    ∙ bytes_lyric (part s (row_from i) item_row_width) verse first (length_part s (row_from i) item_row_width h) l

-- WHAT IS READ
-- a place in a text, cut at its end
pub cut_past : (n at end : ℕ) → min end n ≤ at → Cut n at end (record { at = 0; end = 0 })
cut_past n at end h = record { order = omega arith; high = omega arith; same = λ t e. between_none t 0 0 (omega arith) ∙ sym (none t e (dec_le end at)) }
  where
    none : (t : List ℕ) → length t ≡ n → Dec (end ≤ at) → between t at end ≡ []
    none t e (yes k) = between_none t at end k
    none t e (no k) = part_past t at (end - at) (omega arith)

pub cut_short : (n at end : ℕ) → at < min end n → Cut n at end (record { at = at; end = min end n })
cut_short n at end h = record { order = omega arith; high = omega arith; same = λ t e. here t e (dec_le end n) }
  where
    here : (t : List ℕ) → length t ≡ n → Dec (end ≤ n) → between t at (min end n) ≡ between t at end
    here t e (yes k) = let m : min end n ≡ end = omega arith in ap (between t at) m
    here t e (no k) = part_rest t at (min end n - at) (omega arith) ∙ sym (part_rest t at (end - at) (omega arith))

-- an item by the fields of its row
same_item : (k : Kind) (text : List ℕ) (q r : Row) → r.a ≡ q.a → r.b ≡ q.b → r.unit ≡ q.unit → between text r.at r.end ≡ between text q.at q.end
    → item_as k text r ≡ item_as k text q
unfolding item_as
same_item K.VoiceDeclared text q r a b u p = λ i. voice_declared (eqb (a i) 1)
same_item K.Reset text q r a b u p = refl
same_item K.KeyInHeader text q r a b u p = refl
same_item K.KeyChange text q r a b u p = λ i. key_change (record { fifths = a i; minor = eqb (b i) 1 })
same_item K.MeterChange text q r a b u p = λ i. meter_change (a i, b i)
same_item K.LyricLine text q r a b u p = λ i. lyric_line (eqb (a i) 1) (p i)
same_item K.MusicLine text q r a b u p = λ i. music_line (u i) (a i, b i) (p i)

pub row_read : (text s : List ℕ) (from : ℕ) (r : Row) → r.kind ≡ kind_of (get_or s from 0) → r.part ≡ get_or s (from + part_at) 0 → r.a ≡ get_or s (from + a_at) 0
    → r.b ≡ get_or s (from + b_at) 0 → r.unit ≡ u32_at s (from + unit_at) → Cut (length text) (u32_at s (from + start_at)) (u32_at s (from + end_at)) (record { at = r.at; end = r.end })
    → RowIs text (dec_item (part s from item_row_width)) r
unfolding item_in dec_item
row_read text s from r ek ep ea eb eu h =
    let q = dec_item (part s from item_row_width) in
    let zero-at : get_or s from 0 ≡ get_or (part s from item_row_width) kind_at 0 = ap (λ (k : ℕ). get_or s k 0) (sym (add-zero from)) ∙ sym (get_d_part s from item_row_width kind_at (omega arith)) in
    let k : r.kind ≡ q.kind = ek ∙ ap kind_of zero-at in
    let p : r.part ≡ q.part = ep ∙ sym (get_d_part s from item_row_width part_at (omega arith)) in
    let a : r.a ≡ q.a = ea ∙ sym (get_d_part s from item_row_width a_at (omega arith)) in
    let b : r.b ≡ q.b = eb ∙ sym (get_d_part s from item_row_width b_at (omega arith)) in
    let u : r.unit ≡ q.unit = eu ∙ sym (little_at_part 4 s from item_row_width unit_at (omega arith)) in
    let x : u32_at s (from + start_at) ≡ q.at = sym (little_at_part 4 s from item_row_width start_at (omega arith)) in
    let y : u32_at s (from + end_at) ≡ q.end = sym (little_at_part 4 s from item_row_width end_at (omega arith)) in
    let m : between text r.at r.end ≡ between text q.at q.end = h.same text refl ∙ (λ i. between text (x i) (y i)) in
    record {
      order = h.order;
      high = h.high;
      kind = k;
      b = b;
      unit = u;
      item = (λ i. (p i, item_as (k i) text r)) ∙ ap (λ (j : Item). (q.part, j)) (same_item q.kind text q r a b u m);
    }

pub voice_read : (text s : List ℕ) (from : ℕ) (r : Place) → Cut (length text) (u32_at s from) (u32_at s (from + voice_end_at)) r
    → voice_in text r ≡ voice_in text (dec_voice (part s from voice_row_width))
unfolding dec_voice
voice_read text s from r h =
    let q = dec_voice (part s from voice_row_width) in
    let x : u32_at s from ≡ q.at = ap (λ (k : ℕ). u32_at s k) (sym (add-zero from)) ∙ sym (little_at_part 4 s from voice_row_width voice_start_at (omega arith)) in
    let y : u32_at s (from + voice_end_at) ≡ q.end = sym (little_at_part 4 s from voice_row_width voice_end_at (omega arith)) in
    h.same text refl ∙ (λ i. between text (x i) (y i))

-- the part of an item's row
pub part_read : (s : List ℕ) (i b : ℕ) → b ≡ get_or s (row_from i + part_at) 0 → b ≡ (item_at s i).part
unfolding dec_item
part_read s i b e = e ∙ sym (get_d_part s (row_from i) item_row_width part_at (omega arith))

-- VOICES
pub length_voices : (text s : List ℕ) (n : ℕ) → length (voices_in text s n) ≡ n
unfolding voices_in
length_voices text s n = length-map (rows dec_voice voice_row_width s 0 n) (voice_in text) ∙ length_rows dec_voice voice_row_width s 0 n

pub voices_none : (text s : List ℕ) → voices_in text s 0 ≡ []
unfolding voices_in
voices_none text s = ap (map (voice_in text)) (rows_none dec_voice voice_row_width s 0)

-- one voice more
pub voices_push : (text s : List ℕ) (n a b : ℕ) → a < 2 ^ 32 → b < 2 ^ 32 → voice_row_width * n + voice_row_width ≤ length s
    → voices_in text (splice s (voice_row_width * n) (le32 a ++ le32 b)) (n + 1) ≡ voices_in text s n ++ (between text a b ∷ [])
unfolding voices_in
voices_push text s n a b h k room =
    ap (λ (m : ℕ). map (voice_in text) (rows dec_voice voice_row_width (splice s m (le32 a ++ le32 b)) 0 (n + 1))) (sym (zero-add (voice_row_width * n)))
    ∙ ap (map (voice_in text)) (rows_push dec_voice voice_row_width s 0 n (le32 a ++ le32 b) (length_voice a b) (omega arith))
    ∙ map_append (voice_in text) (rows dec_voice voice_row_width s 0 n) (dec_voice (le32 a ++ le32 b) ∷ [])
    ∙ ap (λ (p : Place). map (voice_in text) (rows dec_voice voice_row_width s 0 n) ++ (voice_in text p ∷ [])) (voice_back a b h k)

-- a write past them leaves the voices alone
pub voices_below : (text s : List ℕ) (n at : ℕ) (bs : List ℕ) → voice_row_width * n ≤ at → voices_in text (splice s at bs) n ≡ voices_in text s n
unfolding voices_in
voices_below text s n at bs h = ap (map (voice_in text)) (rows_below dec_voice voice_row_width s 0 n at bs (omega arith))

-- voice i, and those behind it
pub voices_next : (text s : List ℕ) (n i : ℕ) → i < n → drop i (voices_in text s n) ≡ voice_in text (dec_voice (part s (voice_row_width * i) voice_row_width)) ∷ drop (i + 1) (voices_in text s n)
unfolding voices_in
voices_next text s n i h =
    let d : Place = record { at = 0; end = 0 } in
    let vs = rows dec_voice voice_row_width s 0 n in
    drop_next (map (voice_in text) vs) i (voice_in text d) (rw (length-map, length_rows) h)
    ∙ ap (λ (w : List ℕ). w ∷ drop (i + 1) (map (voice_in text) vs))
    (get_or-map (voice_in text) vs i d ∙ ap (voice_in text) (rows_get dec_voice voice_row_width s 0 n i d h ∙ ap (λ (k : ℕ). dec_voice (part s k voice_row_width)) (zero-add (voice_row_width * i))))

-- an identifier compared with other bytes
same_text : (v w : List ℕ) → eq_text v w ≡ pointwise eqb v w
same_text [] [] = refl
same_text [] (y ∷ w) = refl
same_text (x ∷ v) [] = refl
same_text (x ∷ v) (y ∷ w) = ap (λ (b : Bool). eqb x y && b) (same_text v w)

pub same_voice : (v w u : List ℕ) (x t : Bool) → u ≡ v → x ≡ pointwise eqb u w → x ≡ t → eq_text v w ≡ t
same_voice v w u x t e p k = ap (λ (z : List ℕ). eq_text z w) (sym e) ∙ same_text u w ∙ sym p ∙ k

-- THE SEARCH for a voice, which has come to the i-th
module _ (text s : List ℕ) (n : ℕ) (v : List ℕ) where
  pub search_start : 0 + index_of v (drop 0 (voices_in text s n)) ≡ index_of v (voices_in text s n)
  search_start = zero-add (index_of v (voices_in text s n))

  module _ (i : ℕ) (so_far : i + index_of v (drop i (voices_in text s n)) ≡ index_of v (voices_in text s n)) where
    pub search_found : i < n → eq_text (voice_in text (dec_voice (part s (voice_row_width * i) voice_row_width))) v ≡ true → FoundVoice v (voices_in text s n) (Some i)
    search_found h e =
        let z : index_of v (drop i (voices_in text s n)) ≡ 0 = ap (index_of v) (voices_next text s n i h) ∙ index_zero v (voice_in text (dec_voice (part s (voice_row_width * i) voice_row_width))) (drop (i + 1) (voices_in text s n)) e in
        (rw length_voices h, omega (arith, so_far))

    pub search_on : i < n → eq_text (voice_in text (dec_voice (part s (voice_row_width * i) voice_row_width))) v ≡ false → i + 1 + index_of v (drop (i + 1) (voices_in text s n)) ≡ index_of v (voices_in text s n)
    search_on h e =
        let z : index_of v (drop i (voices_in text s n)) ≡ suc (index_of v (drop (i + 1) (voices_in text s n))) = ap (index_of v) (voices_next text s n i h) ∙ index_suc v (voice_in text (dec_voice (part s (voice_row_width * i) voice_row_width))) (drop (i + 1) (voices_in text s n)) e in
        omega (arith, so_far)

    pub search_end : i ≤ n → n ≤ i → FoundVoice v (voices_in text s n) None
    search_end l h =
        let z : index_of v (drop i (voices_in text s n)) ≡ 0 = ap (index_of v) (drop_of_length-le (voices_in text s n) {i = i} (rw length_voices h)) in
        omega (arith, so_far, length_voices text s n)

-- ITEMS
pub items_none : (text s : List ℕ) → items_in text s 0 ≡ []
unfolding items_in
items_none text s = ap (map (item_in text)) (rows_none dec_item item_row_width s items_from)

-- one item more
pub items_push : (text s : List ℕ) (n : ℕ) (r : Row) → r.at < 2 ^ 32 → r.end < 2 ^ 32 → r.unit < 2 ^ 32 → row_from n + item_row_width ≤ length s
    → items_in text (splice s (row_from n) (enc_item r)) (n + 1) ≡ items_in text s n ++ (item_in text r ∷ [])
unfolding items_in
items_push text s n r h k l room =
    ap (map (item_in text)) (rows_push dec_item item_row_width s items_from n (enc_item r) (length_item r) room)
    ∙ map_append (item_in text) (rows dec_item item_row_width s items_from n) (dec_item (enc_item r) ∷ [])
    ∙ ap (λ (q : Row). map (item_in text) (rows dec_item item_row_width s items_from n) ++ (item_in text q ∷ [])) (item_back r h k l)

-- one item more, which stands there
pub items_more : (text s : List ℕ) (i : ℕ) → items_in text s (i + 1) ≡ items_in text s i ++ (item_in text (item_at s i) ∷ [])
unfolding items_in
items_more text s i = ap (map (item_in text)) (rows_more dec_item item_row_width s items_from i) ∙ map_append (item_in text) (rows dec_item item_row_width s items_from i) (item_at s i ∷ [])

-- the items stay as they were where the front of scratch does
pub items_front : (text s s' : List ℕ) (n m : ℕ) → take m s' ≡ take m s → table_end n ≤ m → items_in text s' n ≡ items_in text s n
unfolding items_in
items_front text s s' n m e h = ap (map (item_in text)) (rows_front dec_item item_row_width s s' m items_from n e h)

-- a write past them leaves the items alone
pub items_below : (text s : List ℕ) (n at : ℕ) (bs : List ℕ) → row_from n ≤ at → items_in text (splice s at bs) n ≡ items_in text s n
unfolding items_in
items_below text s n at bs h = ap (map (item_in text)) (rows_below dec_item item_row_width s items_from n at bs h)

-- a write before them too
pub items_above : (text s : List ℕ) (n at : ℕ) (bs : List ℕ) → at + length bs ≤ items_from → items_in text (splice s at bs) n ≡ items_in text s n
unfolding items_in
items_above text s n at bs h = ap (map (item_in text)) (rows_above dec_item item_row_width s items_from n at bs h)

-- item i
pub items_get : (text s : List ℕ) (n i : ℕ) (d : Row) → i < n → get_or (items_in text s n) i (item_in text d) ≡ item_in text (item_at s i)
unfolding items_in
items_get text s n i d h = get_or-map (item_in text) (rows dec_item item_row_width s items_from n) i d ∙ ap (item_in text) (rows_get dec_item item_row_width s items_from n i d h)

pub length_items : (text s : List ℕ) (n : ℕ) → length (items_in text s n) ≡ n
unfolding items_in
length_items text s n = length-map (rows dec_item item_row_width s items_from n) (item_in text) ∙ length_rows dec_item item_row_width s items_from n
