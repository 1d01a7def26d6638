-- Counting, byte by byte, line by line and item by item.
use Prim.Native.Nat.{ℕ, ◌+◌, ◌-◌, ◌^◌, ◌≤◌, ◌<◌}
use mathlib.Core.Path.{◌≡◌, refl, sym, ap, ◌∙◌}
use mathlib.Core.Bool.{Bool, true, false}
use mathlib.Core.List.{List, [], ◌∷◌, ◌++◌, append-nil}
use native.Mathlib.Nat.{add-zero, zero-add}
use native.Mathlib.Omega.{arith}
use lib.Dec.{eqb}
use lib.ListN.{length, get_or, take, drop, length-append, drop_of_length-le}
use borrow.Author.Tests.{eq-eqb, ne_eqb}
use Rattle.std.proofs.lemmas.List.{nil_from_length}
use Rattle.std.specs.Int.{from_bool}
use Rattle.laws.specs.Lists.{filter, sum}
use Rattle.laws.specs.Bytes.{part, between}
use Rattle.laws.proofs.Bools.{by_test}
use Rattle.laws.proofs.Lists.{drop_next, filter_le}
use Rattle.standard.specs.Pitches.{is_letter}
use Rattle.reader.specs.Scan.{Item, voice_declared, reset, key_in_header, key_change, meter_change, lyric_line, music_line, Items}
use Rattle.reader.specs.Steps.{items_of}
use Rattle.bounds.specs.Weights.{music_bytes, lyric_bytes, item_bytes}
use Rattle.capacity.specs.Sizes.{is_bar, is_rest, is_sign, bars, letters, rests, signs}
use Rattle.capacity.specs.Music.{music_in, music_of}
use Rattle.capacity.proofs.Tokens.{bars_both, letters_both, rests_both, signs_both}
use Rattle.scan_table.specs.declared.Kind.{Kind}
use Rattle.scan_table.specs.declared.Kind.TheVariants as K
use Rattle.scan_table.specs.declared.Row.{Row}
use Rattle.scan_table.specs.Rows.{item_at, item_as, item_in, items_in, RowIs}
use Rattle.scan_table.proofs.Rows.{items_get, length_items}
use Rattle.part_sizing.specs.declared.Made.{Made}
use Rattle.part_sizing.specs.Counting.{made_of, more, both, Few, Under, Adds}

-- A BYTE
-- what one byte can make
count_one : (p : ℕ → Bool) (c : ℕ) → length (filter p (c ∷ [])) ≡ from_bool (p c)
count_one p c = by_test (p c) (λ e. rw e) (λ e. rw e)

pub byte_more : (m : Made ℕ) (c : ℕ)
    → record { bars = m.bars + from_bool (is_bar c); letters = m.letters + from_bool (is_letter c); rests = m.rests + from_bool (is_rest c); signs = m.signs + from_bool (is_sign c) }
    ≡ more m (c ∷ [])
unfolding bars letters rests signs
byte_more m c =
    let b = count_one is_bar c in
    let l = count_one is_letter c in
    let r = count_one is_rest c in
    let s = count_one is_sign c in
    λ i. record { bars = m.bars + sym b i; letters = m.letters + sym l i; rests = m.rests + sym r i; signs = m.signs + sym s i }

-- MORE BYTES
abbrev none_made : Made ℕ
none_made = record { bars = 0; letters = 0; rests = 0; signs = 0 }

more_both : (m : Made ℕ) (s t : List ℕ) → more (more m s) t ≡ more m (s ++ t)
more_both m s t =
    let b : m.bars + bars s + bars t ≡ m.bars + bars (s ++ t) = omega (arith, bars_both s t) in
    let l : m.letters + letters s + letters t ≡ m.letters + letters (s ++ t) = omega (arith, letters_both s t) in
    let r : m.rests + rests s + rests t ≡ m.rests + rests (s ++ t) = omega (arith, rests_both s t) in
    let g : m.signs + signs s + signs t ≡ m.signs + signs (s ++ t) = omega (arith, signs_both s t) in
    λ i. record { bars = b i; letters = l i; rests = r i; signs = g i }

pub more_none : (m : Made ℕ) → more m [] ≡ m
unfolding bars letters rests signs
more_none m =
    let b = add-zero m.bars in
    let l = add-zero m.letters in
    let r = add-zero m.rests in
    let g = add-zero m.signs in
    λ i. record { bars = b i; letters = l i; rests = r i; signs = g i }

none_more : (l : List ℕ) → more none_made l ≡ made_of l
none_more l =
    let b = zero-add (bars l) in
    let n = zero-add (letters l) in
    let r = zero-add (rests l) in
    let g = zero-add (signs l) in
    λ i. record { bars = b i; letters = n i; rests = r i; signs = g i }

-- no more than there are bytes
bars_most : (l : List ℕ) → bars l ≤ length l
unfolding bars
bars_most l = filter_le is_bar l

letters_most : (l : List ℕ) → letters l ≤ length l
unfolding letters
letters_most l = filter_le is_letter l

rests_most : (l : List ℕ) → rests l ≤ length l
unfolding rests
rests_most l = filter_le is_rest l

signs_most : (l : List ℕ) → signs l ≤ length l
unfolding signs
signs_most l = filter_le is_sign l

-- A BLOCK, of which the bytes before i are counted
pub block_start : (l : List ℕ) → more none_made (drop 0 l) ≡ made_of l
block_start l = none_more l

module _ (l : List ℕ) (q : Made ℕ) (i : ℕ) (left : more q (drop i l) ≡ made_of l) where
  pub block_under : (k : ℕ) → length l < k → Under k q
  block_under k h =
      record {
        bars = omega (arith, bars_most l, ap (λ (x : Made ℕ). x.bars) left);
        letters = omega (arith, letters_most l, ap (λ (x : Made ℕ). x.letters) left);
        rests = omega (arith, rests_most l, ap (λ (x : Made ℕ). x.rests) left);
        signs = omega (arith, signs_most l, ap (λ (x : Made ℕ). x.signs) left);
      }

  pub block_next : (q' : Made ℕ) → i < length l → q' ≡ more q (get_or l i 0 ∷ []) → more q' (drop (i + 1) l) ≡ made_of l
  block_next q' h y = ap (λ (x : Made ℕ). more x (drop (i + 1) l)) y ∙ more_both q (get_or l i 0 ∷ []) (drop (i + 1) l) ∙ ap (more q) (sym (drop_next l i 0 h)) ∙ left

  pub block_over : length l ≤ i → q ≡ made_of l
  block_over h = sym (more_none q) ∙ ap (more q) (sym (drop_of_length-le l {i = i} h)) ∙ left

-- A LINE, of which `rest` is to be counted
module _ (line rest : List ℕ) (m q : Made ℕ) (left : more q rest ≡ more m line) where
  pub line_over : length rest ≡ 0 → q ≡ more m line
  line_over h = sym (more_none q) ∙ ap (more q) (sym (nil_from_length rest h)) ∙ left

  -- a block, and what is left behind it
  module _ (block rest' : List ℕ) (cut : rest ≡ block ++ rest') (b : Made ℕ) (is : b ≡ made_of block) where
    split : more (both q b) rest' ≡ more m line
    split = ap (λ (x : Made ℕ). more (both q x) rest') is ∙ more_both q block rest' ∙ ap (more q) (sym cut) ∙ left

    pub line_adds : Few m (length line + 1) → Adds q b
    line_adds f =
        record {
          bars = omega (arith, f.bars, bars_most line, ap (λ (x : Made ℕ). x.bars) split);
          letters = omega (arith, f.letters, letters_most line, ap (λ (x : Made ℕ). x.letters) split);
          rests = omega (arith, f.rests, rests_most line, ap (λ (x : Made ℕ). x.rests) split);
          signs = omega (arith, f.signs, signs_most line, ap (λ (x : Made ℕ). x.signs) split);
        }

    pub line_next : (q' : Made ℕ) → q' ≡ both q b → more q' rest' ≡ more m line
    line_next q' y = ap (λ (x : Made ℕ). more x rest') y ∙ split

-- AN ITEM
-- of a kind that is no music line
no_music : (k : Kind) (text : List ℕ) (r : Row) → (k ≡ K.MusicLine → ⊥) → music_in (item_as k text r) ≡ []
unfolding item_as music_in
no_music K.VoiceDeclared text r n = refl
no_music K.Reset text r n = refl
no_music K.KeyInHeader text r n = refl
no_music K.KeyChange text r n = refl
no_music K.MeterChange text r n = refl
no_music K.LyricLine text r n = refl
no_music K.MusicLine text r n = absurd (n refl)

-- a music line
line_music : (k : Kind) (text : List ℕ) (r : Row) → k ≡ K.MusicLine → music_in (item_as k text r) ≡ between text r.at r.end
unfolding item_as music_in
line_music k text r e = ap (λ (j : Kind). music_in (item_as j text r)) e

-- the music of an item, if it is the part's
abbrev own_music : ℕ → ℕ × Item → List ℕ
own_music p x = music_of (items_of p (x ∷ []))

own : (p : ℕ) (x : ℕ × Item) → eqb x.0 p ≡ true → own_music p x ≡ music_in x.1
own p x e = rw e (append-nil (music_in x.1))

not_own : (p : ℕ) (x : ℕ × Item) → eqb x.0 p ≡ false → own_music p x ≡ []
not_own p x e = rw e

module _ (text : List ℕ) (q r : Row) (p : ℕ) (m : Made ℕ) (is : RowIs text q r) where
  -- what is counted of the item that was read
  counted : (l : List ℕ) → own_music p (item_in text r) ≡ l → more m l ≡ more m (own_music p (item_in text q))
  counted l e = ap (more m) (sym e ∙ ap (own_music p) is.item)

  pub other_kind : (r.kind ≡ K.MusicLine → ⊥) → m ≡ more m (own_music p (item_in text q))
  unfolding item_in
  other_kind h =
      sym (more_none m)
      ∙ counted []
      (by_test (eqb r.part p)
      (λ e. own p (item_in text r) e ∙ no_music r.kind text r h)
      (λ e. not_own p (item_in text r) e))

  pub other_part : (r.part ≡ p → ⊥) → m ≡ more m (own_music p (item_in text q))
  unfolding item_in
  other_part n = sym (more_none m) ∙ counted [] (not_own p (item_in text r) (ne_eqb r.part p n))

  pub line_counted : r.kind ≡ K.MusicLine → r.part ≡ p → (x : Made ℕ) → x ≡ more m (take (r.end - r.at) (drop r.at text)) → x ≡ more m (own_music p (item_in text q))
  unfolding item_in part
  line_counted h o x e =
      e ∙ counted (take (r.end - r.at) (drop r.at text)) (own p (item_in text r) (eq-eqb r.part p o) ∙ line_music r.kind text r h)

-- THE ITEMS
-- the first and the others
mine_first : (p : ℕ) (x : ℕ × Item) (xs : Items) → music_of (items_of p (x ∷ xs)) ≡ own_music p x ++ music_of (items_of p xs)
mine_first p x xs =
    by_test (eqb x.0 p)
    (λ e. rw e (ap (λ (l : List ℕ). l ++ music_of (items_of p xs)) (sym (append-nil (music_in x.1)))))
    (λ e. rw e)

-- item i and those behind it
items_next : (text s : List ℕ) (n i : ℕ) → i < n → drop i (items_in text s n) ≡ item_in text (item_at s i) ∷ drop (i + 1) (items_in text s n)
items_next text s n i h =
    let d : Row = record { kind = K.Reset; part = 0; a = 0; b = 0; at = 0; end = 0; unit = 0 } in
    drop_next (items_in text s n) i (item_in text d) (rw (length_items text s n) h)
    ∙ ap (λ (x : ℕ × Item). x ∷ drop (i + 1) (items_in text s n)) (items_get text s n i d h)

music_bytes_lem : (x : Item) → length (music_in x) ≡ music_bytes x
unfolding music_in music_bytes
music_bytes_lem (voice_declared b) = refl
music_bytes_lem reset = refl
music_bytes_lem key_in_header = refl
music_bytes_lem (key_change k) = refl
music_bytes_lem (meter_change m) = refl
music_bytes_lem (lyric_line b t) = refl
music_bytes_lem (music_line u m l) = refl

-- a part's bytes: its music and its lyrics
pub bytes_in : (is : List Item) → length (music_of is) + sum lyric_bytes is ≡ sum item_bytes is
unfolding item_bytes
bytes_in [] = refl
bytes_in (x ∷ is) = omega (arith, bytes_in is, length-append (music_in x) (music_of is), music_bytes_lem x)

-- of the n items i are counted
module _ (text s : List ℕ) (n p : ℕ) where
  abbrev items : Items
  items = items_in text s n

  abbrev music : List ℕ
  music = music_of (items_of p items)

  pub items_start : more none_made (music_of (items_of p (drop 0 items))) ≡ made_of music
  items_start = none_more music

  module _ (q : Made ℕ) (i : ℕ) (left : more q (music_of (items_of p (drop i items))) ≡ made_of music) where
    pub items_few : (k : ℕ) → sum item_bytes (items_of p items) + k < 2 ^ 64 → Few q k
    items_few k h =
        let b = bytes_in (items_of p items) in
        record {
          bars = omega (arith, bars_most music, b, ap (λ (x : Made ℕ). x.bars) left);
          letters = omega (arith, letters_most music, b, ap (λ (x : Made ℕ). x.letters) left);
          rests = omega (arith, rests_most music, b, ap (λ (x : Made ℕ). x.rests) left);
          signs = omega (arith, signs_most music, b, ap (λ (x : Made ℕ). x.signs) left);
        }

    pub items_more : (q' : Made ℕ) → i < n → q' ≡ more q (own_music p (item_in text (item_at s i))) → more q' (music_of (items_of p (drop (i + 1) items))) ≡ made_of music
    items_more q' h e =
        let x = item_in text (item_at s i) in
        let rest = drop (i + 1) items in
        ap (λ (m : Made ℕ). more m (music_of (items_of p rest))) e
        ∙ more_both q (own_music p x) (music_of (items_of p rest))
        ∙ ap (more q) (sym (mine_first p x rest) ∙ ap (λ (a : Items). music_of (items_of p a)) (sym (items_next text s n i h)))
        ∙ left

    pub items_over : n ≤ i → q ≡ made_of music
    items_over h =
        sym (more_none q)
        ∙ ap (λ (a : Items). more q (music_of (items_of p a))) (sym (drop_of_length-le items {i = i} (rw (length_items text s n) h)))
        ∙ left
