-- LYRIC LINES AMONG THE ITEMS: the words of an item, one item more, and what a write behind the items leaves.
use Prim.Native.Nat.{ℕ, ◌+◌, ◌*◌, ◌≤◌}
use mathlib.Core.Bool.{true, false, false≢true}
use mathlib.Core.Path.{◌≡◌, refl, sym, ap, ◌∙◌}
use mathlib.Core.List.{List, [], ◌∷◌, ◌++◌, map}
use lib.ListN.{take}
use Rattle.laws.specs.Lists.{filter}
use Rattle.laws.specs.Bytes.{between, rows}
use Rattle.laws.proofs.Lists.{map_append, filter_append}
use Rattle.laws.proofs.Rows.{rows_more, rows_front}
use Rattle.reader.specs.Scan.{Item, voice_declared, reset, key_in_header, key_change, meter_change, lyric_line, music_line}
use Rattle.scan_table.specs.declared.Kind.{Kind}
use Rattle.scan_table.specs.declared.Kind.TheVariants as K
use Rattle.scan_table.specs.declared.Row as items
use Rattle.scan_table.specs.Rows.{items_from, item_row_width, dec_item, item_at, item_as, item_in, RowIs}
use Rattle.lyrics.specs.Items.{is_lyric, is_line, line_in, line_of, lines_in}

-- the kind of a lyric line, and any other
pub lyric_kind : (k : Kind) → is_lyric k ≡ true → k ≡ K.LyricLine
lyric_kind K.LyricLine e = refl
lyric_kind K.VoiceDeclared e = absurd (false≢true e)
lyric_kind K.Reset e = absurd (false≢true e)
lyric_kind K.KeyInHeader e = absurd (false≢true e)
lyric_kind K.KeyChange e = absurd (false≢true e)
lyric_kind K.MeterChange e = absurd (false≢true e)
lyric_kind K.MusicLine e = absurd (false≢true e)

pub no_lyric_kind : (k : Kind) → (k ≡ K.LyricLine → ⊥) → is_lyric k ≡ false
no_lyric_kind K.LyricLine n = absurd (n refl)
no_lyric_kind K.VoiceDeclared n = refl
no_lyric_kind K.Reset n = refl
no_lyric_kind K.KeyInHeader n = refl
no_lyric_kind K.KeyChange n = refl
no_lyric_kind K.MeterChange n = refl
no_lyric_kind K.MusicLine n = refl

-- the words of a lyric item
words_of_item : Item → List ℕ
words_of_item (voice_declared h) = []
words_of_item reset = []
words_of_item key_in_header = []
words_of_item (key_change k) = []
words_of_item (meter_change t) = []
words_of_item (lyric_line p t) = t
words_of_item (music_line u t l) = []

lyric_words_lem : (text : List ℕ) (r : items.Row) (k : Kind) → k ≡ K.LyricLine → words_of_item (item_as k text r) ≡ between text r.at r.end
unfolding item_as words_of_item
lyric_words_lem text r k e = ap (λ (j : Kind). words_of_item (item_as j text r)) e

-- the place that was read of a lyric item has its words
pub item_words : (text : List ℕ) (q r : items.Row) → RowIs text q r → r.kind ≡ K.LyricLine → between text r.at r.end ≡ between text q.at q.end
unfolding item_in
item_words text q r i e =
    sym (lyric_words_lem text r r.kind e) ∙ ap (λ (x : ℕ × Item). words_of_item x.1) i.item ∙ lyric_words_lem text q q.kind (sym i.kind ∙ e)

-- and its part
pub item_part : (text : List ℕ) (q r : items.Row) → RowIs text q r → r.part ≡ q.part
unfolding item_in
item_part text q r i = ap (λ (x : ℕ × Item). x.0) i.item

-- one item more
pub lines_more : (text s : List ℕ) (p i : ℕ) → lines_in text s p (i + 1) ≡ lines_in text s p i ++ line_of text p (item_at s i)
unfolding lines_in line_of
lines_more text s p i =
    ap (λ (rs : List items.Row). map (line_in text) (filter (is_line p) rs)) (rows_more dec_item item_row_width s items_from i)
    ∙ ap (map (line_in text)) (filter_append (is_line p) (rows dec_item item_row_width s items_from i) (item_at s i ∷ []))
    ∙ map_append (line_in text) (filter (is_line p) (rows dec_item item_row_width s items_from i)) (filter (is_line p) (item_at s i ∷ []))

-- the lines are those that stand before the tables
pub lines_front : (text s t : List ℕ) (p n lo : ℕ) → take lo t ≡ take lo s → items_from + item_row_width * n ≤ lo → lines_in text t p n ≡ lines_in text s p n
unfolding lines_in
lines_front text s t p n lo e h = ap (λ (rs : List items.Row). map (line_in text) (filter (is_line p) rs)) (rows_front dec_item item_row_width s t lo items_from n e h)
