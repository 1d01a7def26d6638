-- ITEM BY ITEM: an item of each kind taken, and the loop over them.
use Prim.Native.Nat.{ℕ, zero, suc, ◌+◌, ◌*◌, ◌^◌, ◌≤◌, ◌<◌}
use mathlib.Core.Path.{◌≡◌, refl, sym, ap, subst, ◌∙◌}
use mathlib.Core.Bool.{Bool, true, false, cond}
use mathlib.Core.List.{List, [], ◌∷◌, ◌++◌, map, reverse, append-nil}
use native.Mathlib.Nat.{not-suc-le-zero}
use native.Mathlib.Omega.{arith}
use lib.Dec.{eqb}
use lib.ListN.{length, take, drop}
use borrow.Author.Tests.{eq-eqb, ne_eqb, eqb-true, eqb-false}
use Rattle.laws.specs.Lists.{foldl, filter}
use Rattle.laws.specs.Bytes.{between, splice, le32, rows}
use Rattle.laws.proofs.Bools.{by_test, and_no_left, and_no_right, and_both, cond_true, cond_false}
use Rattle.laws.proofs.Lists.{foldl_append, map_append, filter_yes, filter_no, drop_next}
use Rattle.laws.proofs.Parts.{part_front, part_back}
use Rattle.laws.proofs.Rows.{rows_none}
use Rattle.laws.proofs.Splices.{length_splice}
use Rattle.laws.proofs.Numbers.{length_little}
use Rattle.standard.specs.Keys.{Key}
use Rattle.standard.specs.Lyrics.{next_verse}
use Rattle.editions.specs.declared.Edition.{Edition}
use Rattle.reader.specs.State.{Sung}
use Rattle.reader.specs.Scan.{Item, voice_declared, reset, key_in_header, key_change, meter_change, lyric_line, music_line}
use Rattle.reader.specs.Steps.{items_of}
use Rattle.blocks.proofs.Runs.{mine_append}
use Rattle.part_layout.specs.Log.{LogState, new_log, on_line}
use Rattle.part_layout.specs.Ends.{on_lyric, on_item}
use Rattle.part_layout.proofs.Lines.{between_items}
use Rattle.part_layout.proofs.Back.{reverse_back}
use Rattle.scan_table.specs.declared.Row.{Row}
use Rattle.scan_table.specs.declared.Kind.{Kind}
use Rattle.scan_table.specs.declared.Kind.TheVariants as K
use Rattle.scan_table.specs.Rows.{row_from, item_at, byte_of, items_from, item_row_width, dec_item, item_as, item_in, items_in, b_at, unit_at, lyric_row, with_lyric, RowIs}
use Rattle.scan_table.proofs.Rows.{lyric_back, items_none, items_more, items_get, length_items}
use Rattle.lyrics.specs.Items.{is_lyric, is_line, line_in, line_of, lines_in}
use Rattle.lyrics.proofs.Items.{no_lyric_kind, item_words, lines_more, lines_front}
use Rattle.part_rows.specs.Table.{Only}
use Rattle.part_rows.proofs.Tables.{only_none, only_then, only_wider}
use Rattle.part_registers.specs.declared.Tables.{Tables}
use Rattle.part_registers.specs.declared.Registers.{Registers}
use Rattle.part_invariant.specs.Invariant.{Represents}
use Rattle.part_invariant.proofs.Appending.{room_same}
use Rattle.part_invariant.specs.Lines.{RoomForBytes, RepresentedBetween, GrowsBy, SimulatesItem}
use Rattle.capacity.specs.Music.{music_in, music_of}
use Rattle.part_items.specs.Items.{begun, versed, own_at, Ready, Taken, after, Built}
use Rattle.part_items.proofs.Music.{music_append, rest_first, rest_then, rest_as_lem, rest_room, grows_none}
use Rattle.part_items.proofs.Each.{begun_represented, added_by, item_lines}
use Rattle.part_items.proofs.Rows.{only_lyric, represented_behind}

-- ONE ITEM
-- whose it is
own_yes : (p : ℕ) (x : ℕ × Item) → x.0 ≡ p → items_of p (x ∷ []) ≡ x.1 ∷ []
own_yes p x e = cond_true (eqb x.0 p) (x.1 ∷ []) [] (eq-eqb x.0 p e)

own_no : (p : ℕ) (x : ℕ × Item) → (x.0 ≡ p → ⊥) → items_of p (x ∷ []) ≡ []
own_no p x n = cond_false (eqb x.0 p) (x.1 ∷ []) [] (ne_eqb x.0 p n)

music_one : (x : Item) → music_of (x ∷ []) ≡ music_in x
music_one x = append-nil (music_in x)

reverse_one : (x : Sung) (xs : List Sung) → reverse (x ∷ xs) ≡ reverse xs ++ (x ∷ [])
reverse_one x xs = reverse_back (x ∷ xs) ∙ ap (λ (l : List Sung). l ++ (x ∷ [])) (sym (reverse_back xs))

-- its lyric line
no_line : (text : List ℕ) (p : ℕ) (q : Row) → is_line p q ≡ false → line_of text p q ≡ []
unfolding line_of
no_line text p q e = ap (map (line_in text)) (filter_no (is_line p) q [] e)

one_line : (text : List ℕ) (p : ℕ) (q : Row) → is_line p q ≡ true → line_of text p q ≡ line_in text q ∷ []
unfolding line_of
one_line text p q e = ap (map (line_in text)) (filter_yes (is_line p) q [] e)

-- a lyric line with its verse and first note is the same item
same_lyrics : (k : Kind) (text : List ℕ) (q : Row) (verse start : ℕ) → k ≡ K.LyricLine → item_as k text (lyric_row q verse start) ≡ item_as k text q
unfolding item_as
same_lyrics k text q verse start e = ap (λ (j : Kind). item_as j text (lyric_row q verse start)) e ∙ sym (ap (λ (j : Kind). item_as j text q) e)

-- WHAT A LYRIC LINE NEEDS of a part that is represented: the next verse
versed_represented : (ed : Edition) {t : Tables} {s : List ℕ} {r : Registers} (header : Key) (placed : Bool) (words : List ℕ) (l : LogState) → Represents t s r [] l → Represents t s (versed r placed) [] (on_item ed header l (lyric_line placed words))
unfolding on_item on_lyric
versed_represented ed header placed words l h =
    record {
      stored = h.stored;
      scoped = h.scoped;
      key_is = h.key_is;
      last_is = h.last_is;
      pending_is = h.pending_is;
      line_is = h.line_is;
      half_is = h.half_is;
      running_is = h.running_is;
      sounded_is = h.sounded_is;
      sounded_most = h.sounded_most;
      start_is = h.start_is;
      verse_is = ap (λ (v : ℕ). cond placed (next_verse v) v) h.verse_is;
    }

-- the part by another name
pub taken_as : (ed : Edition) {text : List ℕ} {t : Tables} {header : Key} {p q i : ℕ} {s : List ℕ} {r : Registers} {s' : List ℕ} {r' : Registers} → q ≡ p → Taken ed text t header q i s r s' r' → Taken ed text t header p i s r s' r'
taken_as ed {text} {t} {header} {p} {q} {i} {s} {r} {s'} {r'} e k = subst (λ (m : ℕ). Taken ed text t header m i s r s' r') e k

-- of another part
module _ (ed : Edition) (text : List ℕ) (t : Tables) (header : Key) (p i : ℕ) (s : List ℕ) (r : Registers) (row : Row) (is : RowIs text (item_at s i) row) where
  other_owner : (row.part ≡ p → ⊥) → ((item_in text (item_at s i)).0 ≡ p → ⊥)
  unfolding item_in
  other_owner n e = n (ap (λ (x : ℕ × Item). x.0) is.item ∙ e)

  pub taken_other : (row.part ≡ p → ⊥) → Taken ed text t header p i s r s r
  unfolding is_line item_in
  taken_other n =
      let o : own_at text p s i ≡ [] = own_no p (item_in text (item_at s i)) (other_owner n) in
      record {
        middle = s;
        own_row = only_none (row_from i) (row_from i + item_row_width) s;
        tables = only_none t.heads t.end s;
        same_item = refl;
        grows = grows_none r.counts (music_of (own_at text p s i));
        holds = λ l b h. rw o h;
        lines =
            λ l h. ap (λ (xs : List Item). reverse (foldl (on_item ed header) l xs).verses.lines) o ∙ sym (append-nil (reverse l.verses.lines))
            ∙ ap (λ (ls : List Sung). reverse l.verses.lines ++ ls) (sym (no_line text p (item_at s i) (and_no_right (is_lyric (item_at s i).kind) _ (ne_eqb (item_at s i).part p (other_owner n)))));
      }

-- of the part
module _ (ed : Edition) (text : List ℕ) (t : Tables) (header : Key) (i : ℕ) (s : List ℕ) (r : Registers) (row : Row) (is : RowIs text (item_at s i) row) where
  item_is : (x : Item) → item_as row.kind text row ≡ x → item_in text (item_at s i) ≡ (row.part, x)
  unfolding item_in
  item_is x e = sym is.item ∙ ap (λ (y : Item). (row.part, y)) e

  own_is : (x : Item) → item_as row.kind text row ≡ x → own_at text row.part s i ≡ x ∷ []
  own_is x e =
      let q = item_is x e in
      own_yes row.part (item_in text (item_at s i)) (ap (λ (y : ℕ × Item). y.0) q) ∙ ap (λ (y : ℕ × Item). y.1 ∷ []) q

  own_music_lem : (x : Item) → item_as row.kind text row ≡ x → music_of (own_at text row.part s i) ≡ music_in x
  own_music_lem x e = ap music_of (own_is x e) ∙ music_one x

  represented_lyric : Ready text t row.part i s r → (l : LogState) → Represents t s r [] l → Represents t (with_lyric s i r.verses.verse r.verses.start) r [] l
  represented_lyric ready l h =
      let m = splice s (row_from i + b_at) (r.verses.verse ∷ []) in
      let room = rest_room ready.room in
      represented_behind (room_same (length_splice s (row_from i + b_at) (r.verses.verse ∷ [])) room) _ (row_from i + unit_at) (le32 r.verses.start) refl (omega (arith, ready.before, length_little 4 r.verses.start)) l
      (represented_behind room m (row_from i + b_at) (r.verses.verse ∷ []) refl (omega (arith, ready.before)) l h)

  -- none but a lyric line
  pub taken_plain : (x : Item) → item_as row.kind text row ≡ x → (row.kind ≡ K.LyricLine → ⊥) → ((l : LogState) → added_by l x ≡ []) → {s' : List ℕ} {r' : Registers} {bs : List ℕ} → music_in x ≡ bs → SimulatesItem t s r s' r' bs (λ l. on_item ed header l x)
      → Taken ed text t header row.part i s r s' r'
  unfolding is_line
  taken_plain x e n a {s'} {r'} {bs} m k =
      let o = own_is x e in
      record {
        middle = s;
        own_row = only_none (row_from i) (row_from i + item_row_width) s;
        tables = k.only;
        same_item = refl;
        grows = subst (λ (b : List ℕ). GrowsBy r.counts r'.counts b) (sym (own_music_lem x e ∙ m)) k.grows;
        holds = λ l b h. subst (λ (xs : List Item). Represents t s' r' [] (foldl (on_item ed header) l xs)) (sym o) (k.holds l b h);
        lines =
            λ l h. ap (λ (xs : List Item). reverse (foldl (on_item ed header) l xs).verses.lines) o ∙ ap reverse (item_lines ed header l x ∙ ap (λ (ls : List Sung). ls ++ l.verses.lines) (a l))
            ∙ sym (append-nil (reverse l.verses.lines))
            ∙ ap (λ (ls : List Sung). reverse l.verses.lines ++ ls) (sym (no_line text row.part (item_at s i) (and_no_left _ _ (no_lyric_kind (item_at s i).kind (λ f. n (is.kind ∙ f))))));
      }

  -- each kind of them
  pub taken_voice_declared : {r' : Registers} → row.kind ≡ K.VoiceDeclared → SimulatesItem t s r s r' [] (λ l. on_item ed header l (voice_declared (eqb row.a 1))) → Taken ed text t header row.part i s r s r'
  unfolding item_as added_by music_in
  taken_voice_declared e k = taken_plain (voice_declared (eqb row.a 1)) (ap (λ (j : Kind). item_as j text row) e) (λ f. let z : ◌≡◌ {A = ℕ} 0 5 = ap byte_of (sym e ∙ f) in omega arith) (λ l. refl) refl k

  pub taken_reset : {r' : Registers} → row.kind ≡ K.Reset → SimulatesItem t s r s r' [] (λ l. on_item ed header l reset) → Taken ed text t header row.part i s r s r'
  unfolding item_as added_by music_in
  taken_reset e k = taken_plain reset (ap (λ (j : Kind). item_as j text row) e) (λ f. let z : ◌≡◌ {A = ℕ} 1 5 = ap byte_of (sym e ∙ f) in omega arith) (λ l. refl) refl k

  pub taken_key_in_header : {r' : Registers} → row.kind ≡ K.KeyInHeader → SimulatesItem t s r s r' [] (λ l. on_item ed header l key_in_header) → Taken ed text t header row.part i s r s r'
  unfolding item_as added_by music_in
  taken_key_in_header e k = taken_plain key_in_header (ap (λ (j : Kind). item_as j text row) e) (λ f. let z : ◌≡◌ {A = ℕ} 2 5 = ap byte_of (sym e ∙ f) in omega arith) (λ l. refl) refl k

  pub taken_key_change : {s' : List ℕ} {r' : Registers} → row.kind ≡ K.KeyChange → SimulatesItem t s r s' r' [] (λ l. on_item ed header l (key_change (record { fifths = row.a; minor = eqb row.b 1 }))) → Taken ed text t header row.part i s r s' r'
  unfolding item_as added_by music_in
  taken_key_change e k = taken_plain (key_change (record { fifths = row.a; minor = eqb row.b 1 })) (ap (λ (j : Kind). item_as j text row) e) (λ f. let z : ◌≡◌ {A = ℕ} 3 5 = ap byte_of (sym e ∙ f) in omega arith) (λ l. refl) refl k

  pub taken_meter_change : {s' : List ℕ} {r' : Registers} → row.kind ≡ K.MeterChange → SimulatesItem t s r s' r' [] (λ l. on_item ed header l (meter_change (row.a, row.b))) → Taken ed text t header row.part i s r s' r'
  unfolding item_as added_by music_in
  taken_meter_change e k = taken_plain (meter_change (row.a, row.b)) (ap (λ (j : Kind). item_as j text row) e) (λ f. let z : ◌≡◌ {A = ℕ} 4 5 = ap byte_of (sym e ∙ f) in omega arith) (λ l. refl) refl k

  -- a lyric line
  pub taken_lyric_line : row.kind ≡ K.LyricLine → Ready text t row.part i s r → (s' : List ℕ) (r' : Registers) → r' ≡ versed r (eqb row.a 1) → r.verses.start < 2 ^ 32 → s' ≡ with_lyric s i r.verses.verse r.verses.start
      → Taken ed text t header row.part i s r s' r'
  unfolding item_in is_line line_in added_by item_as music_in
  taken_lyric_line e ready s' r' er small es =
      let words = between text row.at row.end in
      let x : Item = lyric_line (eqb row.a 1) words in
      let a : item_as row.kind text row ≡ x = ap (λ (j : Kind). item_as j text row) e in
      let o = own_is x a in
      let q = item_at s i in
      let m = with_lyric s i r.verses.verse r.verses.start in
      let inside : row_from i + item_row_width ≤ length s = omega (arith, ready.before, ready.room.for_heads, ready.room.for_notes, ready.room.for_pitches, ready.room.for_scopes, ready.room.ends) in
      let now : item_at m i ≡ lyric_row q r.verses.verse r.verses.start = lyric_back s i r.verses.verse r.verses.start inside small in
      let five : q.kind ≡ K.LyricLine = sym is.kind ∙ e in
      let its : q.part ≡ row.part = sym (ap (λ (y : ℕ × Item). y.0) is.item) in
      let line : line_of text row.part (item_at m i) ≡ line_in text (lyric_row q r.verses.verse r.verses.start) ∷ [] =
      ap (line_of text row.part) now
      ∙ one_line text row.part (lyric_row q r.verses.verse r.verses.start) (and_both _ _ (ap is_lyric five) (eq-eqb q.part row.part its)) in
      record {
        middle = m;
        own_row = only_lyric s i r.verses.verse r.verses.start;
        tables = subst (λ (u : List ℕ). Only t.heads t.end m u) (sym es) (only_none t.heads t.end m);
        same_item = ap (item_in text) now ∙ ap (λ (y : Item). (q.part, y)) (same_lyrics q.kind text q r.verses.verse r.verses.start five);
        grows = rw er (grows_none r.counts (music_of (own_at text row.part s i)));
        holds =
            λ l b h.
            let w = represented_lyric ready l h in
            subst (λ (xs : List Item). Represents t s' r' [] (foldl (on_item ed header) l xs)) (sym o) (subst (λ (u : List ℕ). Represents t u r' [] (on_item ed header l x)) (sym es) (subst (λ (u : Registers). Represents t m u [] (on_item ed header l x)) (sym er) (versed_represented ed header (eqb row.a 1) words l w)));
        lines =
            λ l h. ap (λ (xs : List Item). reverse (foldl (on_item ed header) l xs).verses.lines) o ∙ ap reverse (item_lines ed header l x)
            ∙ reverse_one (record { start = l.verses.start; verse = l.verses.verse; text = words }) l.verses.lines
            ∙ (λ j. reverse l.verses.lines ++ (record { start = sym h.start_is j; verse = sym h.verse_is j; text = item_words text q row is e j } ∷ []))
            ∙ ap (λ (ls : List Sung). reverse l.verses.lines ++ ls) (sym line);
      }

  -- a music line
  module _ (e : row.kind ≡ K.MusicLine) where
    is_music_line_lem : item_as row.kind text row ≡ music_line row.unit (row.a, row.b) (between text row.at row.end)
    unfolding item_as
    is_music_line_lem = ap (λ (j : Kind). item_as j text row) e

    no_lyrics : row.kind ≡ K.LyricLine → ⊥
    no_lyrics f = let z : ◌≡◌ {A = ℕ} 6 5 = ap byte_of (sym e ∙ f) in omega arith

    pub music_line_room : Ready text t row.part i s r → (line : List ℕ) → line ≡ between text row.at row.end → RoomForBytes t r.counts (length s) line × RepresentedBetween t s r
    unfolding music_in
    music_line_room ready line h = (rest_as_lem (own_music_lem (music_line row.unit (row.a, row.b) (between text row.at row.end)) is_music_line_lem ∙ sym h) ready.room, ready.waits)

    pub taken_music_line : {s' : List ℕ} {r' : Registers} (line : List ℕ) → line ≡ between text row.at row.end → SimulatesItem t s r s' r' line (on_line ed row.unit (row.a, row.b) line) → Taken ed text t header row.part i s r s' r'
    unfolding added_by music_in on_item
    taken_music_line {s'} {r'} line h k =
        taken_plain (music_line row.unit (row.a, row.b) (between text row.at row.end)) is_music_line_lem no_lyrics (λ l. refl) refl
        (subst (λ (b : List ℕ). SimulatesItem t s r s' r' b (on_line ed row.unit (row.a, row.b) b)) h k)

-- what the other kinds need
pub plain_room : {text : List ℕ} {t : Tables} {p i : ℕ} {s : List ℕ} {r : Registers} → Ready text t p i s r → RoomForBytes t r.counts (length s) [] × RepresentedBetween t s r
plain_room {text} {t} {p} {i} {s} ready = (rest_first [] (music_of (own_at text p s i)) ready.room, ready.waits)

-- THE LOOP over the items: those before i are taken, those from i on are as they were
pub record Going (ed : Edition) (text : List ℕ) (t : Tables) (header : Key) (p n : ℕ) (s₀ s : List ℕ) (r : Registers) (i : ℕ) : Type 0 where
  pub low : i ≤ n
  pub only : Only items_from t.end s₀ s
  pub ahead : (j : ℕ) → i ≤ j → j < n → item_at s j ≡ item_at s₀ j
  pub behind : (j : ℕ) → j < i → item_in text (item_at s j) ≡ item_in text (item_at s₀ j)
  pub lines : lines_in text s p i ≡ reverse (after ed header text s₀ p i).verses.lines
  pub represents : Represents t s r [] (after ed header text s₀ p i)
  pub room : RoomForBytes t r.counts (length s) (music_of (items_of p (drop i (items_in text s₀ n))))

-- items of rows
items_as : (text s s₀ : List ℕ) (n : ℕ) → ((j : ℕ) → j < n → item_in text (item_at s j) ≡ item_in text (item_at s₀ j)) → items_in text s n ≡ items_in text s₀ n
unfolding items_in rows
items_as text s s₀ zero h = refl
items_as text s s₀ (suc n) h =
    map_append (item_in text) (rows dec_item item_row_width s items_from n) (item_at s n ∷ [])
    ∙ (λ i. items_as text s s₀ n (λ j l. h j (omega arith)) i ++ (h n (omega arith) i ∷ []))
    ∙ sym (map_append (item_in text) (rows dec_item item_row_width s₀ items_from n) (item_at s₀ n ∷ []))

-- the part after one item more
after_more : (ed : Edition) (header : Key) (text s : List ℕ) (p i : ℕ) → after ed header text s p (i + 1) ≡ foldl (on_item ed header) (after ed header text s p i) (own_at text p s i)
after_more ed header text s p i =
    ap (λ (xs : List (ℕ × Item)). foldl (on_item ed header) new_log (items_of p xs)) (items_more text s i)
    ∙ ap (foldl (on_item ed header) new_log) (mine_append p (items_in text s i) (item_in text (item_at s i) ∷ []))
    ∙ foldl_append (on_item ed header) new_log (items_of p (items_in text s i)) (own_at text p s i)

module _ (ed : Edition) (text : List ℕ) (t : Tables) (header : Key) (p n : ℕ) (s₀ : List ℕ) (before : items_from + item_row_width * n ≤ t.heads) where
  pub going_start : RoomForBytes t begun.counts (length s₀) (music_of (items_of p (items_in text s₀ n))) → (r : Registers) → r ≡ begun → Going ed text t header p n s₀ s₀ r 0
  unfolding lines_in new_log
  going_start room r e =
      let none = items_none text s₀ in
      record {
        low = omega arith;
        only = only_none items_from t.end s₀;
        ahead = λ j l h. refl;
        behind = λ j l. absurd (not-suc-le-zero l);
        lines =
            ap (λ (rs : List Row). map (line_in text) (filter (is_line p) rs)) (rows_none dec_item item_row_width s₀ items_from)
            ∙ sym (ap (λ (xs : List (ℕ × Item)). reverse (foldl (on_item ed header) new_log (items_of p xs)).verses.lines) none);
        represents = rw (none, e) (begun_represented t s₀);
        room = rw e room;
      }

  module _ (s : List ℕ) (r : Registers) (i : ℕ) (g : Going ed text t header p n s₀ s r i) (l : i < n) where
    same_own : own_at text p s i ≡ own_at text p s₀ i
    same_own = ap (λ (q : Row). items_of p (item_in text q ∷ [])) (g.ahead i (omega arith) l)

    -- the music to come begins with this item's
    music_next : music_of (items_of p (drop i (items_in text s₀ n))) ≡ music_of (own_at text p s i) ++ music_of (items_of p (drop (i + 1) (items_in text s₀ n)))
    music_next =
        let xs = items_in text s₀ n in
        let x = item_in text (item_at s₀ i) in
        ap (λ (ys : List (ℕ × Item)). music_of (items_of p ys))
        (drop_next xs i (item_in text (item_at s₀ i)) (omega (arith, l, length_items text s₀ n)) ∙ ap (λ (y : ℕ × Item). y ∷ drop (i + 1) xs) (items_get text s₀ n i (item_at s₀ i) l))
        ∙ ap music_of (mine_append p (x ∷ []) (drop (i + 1) xs))
        ∙ music_append (own_at text p s₀ i) (items_of p (drop (i + 1) xs))
        ∙ ap (λ (ys : List Item). music_of ys ++ music_of (items_of p (drop (i + 1) xs))) (sym same_own)

    pub going_ready : Ready text t p i s r
    going_ready =
        record {
          room = rest_first (music_of (own_at text p s i)) (music_of (items_of p (drop (i + 1) (items_in text s₀ n)))) (rest_as_lem music_next g.room);
          waits = record { state = after ed header text s₀ p i; between = between_items ed header (items_of p (items_in text s₀ i)); represents = g.represents };
          before = omega (arith, before, l);
        }

    module _ (s' : List ℕ) (r' : Registers) (k : Taken ed text t header p i s r s' r') where
      -- a row before the tables
      row_now : (j : ℕ) → j < n → item_at s' j ≡ item_at k.middle j
      row_now j h = ap dec_item (part_front s' k.middle t.heads (row_from j) item_row_width k.tables.front (omega (arith, before, h)))

      row_before : (j : ℕ) → j < i → item_at s' j ≡ item_at s j
      row_before j h = row_now j (omega (arith, h, l)) ∙ ap dec_item (part_front k.middle s (row_from i) (row_from j) item_row_width k.own_row.front (omega (arith, h)))

      row_behind : (j : ℕ) → i + 1 ≤ j → j < n → item_at s' j ≡ item_at s j
      row_behind j h m = row_now j m ∙ ap dec_item (part_back k.middle s (row_from i + item_row_width) (row_from j) item_row_width k.own_row.back (omega (arith, h)))

      heads_end : t.heads ≤ t.end
      heads_end = omega (arith, g.room.for_heads, g.room.for_notes, g.room.for_pitches, g.room.for_scopes)

      now_only : Only items_from t.end s s'
      now_only =
          only_then (only_wider k.own_row items_from t.end (omega arith) (omega (arith, before, l, heads_end)))
          (only_wider k.tables items_from t.end (omega (arith, before)) (omega arith))

      same_front : take (row_from i) s' ≡ take (row_from i) s
      same_front = (only_wider k.tables (row_from i) t.end (omega (arith, before, l)) (omega arith)).front ∙ k.own_row.front

      -- the items are the same still
      same_behind : (j : ℕ) → j < i + 1 → item_in text (item_at s' j) ≡ item_in text (item_at s₀ j)
      same_behind j h =
          by_test (eqb j i)
          (λ e.
          let f = eqb-true j i e in
          ap (λ (m : ℕ). item_in text (item_at s' m)) f ∙ ap (item_in text) (row_now i l) ∙ k.same_item ∙ ap (item_in text) (g.ahead i (omega arith) l) ∙ ap (λ (m : ℕ). item_in text (item_at s₀ m)) (sym f))
          (λ e. let d = eqb-false j i e in let m : j < i = omega arith in ap (item_in text) (row_before j m) ∙ g.behind j m)

      -- the part after this item
      after_now : foldl (on_item ed header) (after ed header text s₀ p i) (own_at text p s i) ≡ after ed header text s₀ p (i + 1)
      after_now = ap (foldl (on_item ed header) (after ed header text s₀ p i)) same_own ∙ sym (after_more ed header text s₀ p i)

      pub going_next : Going ed text t header p n s₀ s' r' (i + 1)
      going_next =
          record {
            low = omega arith;
            only = only_then g.only now_only;
            ahead = λ j h m. row_behind j h m ∙ g.ahead j (omega (arith, h)) m;
            behind = same_behind;
            lines =
                lines_more text s' p i
                ∙ (λ j. (lines_front text s s' p i (row_from i) same_front (omega arith) ∙ g.lines) j ++ line_of text p (row_now i l j))
                ∙ sym (k.lines (after ed header text s₀ p i) g.represents)
                ∙ ap (λ (x : LogState). reverse x.verses.lines) after_now;
            represents = subst (λ (x : LogState). Represents t s' r' [] x) after_now (k.holds (after ed header text s₀ p i) (between_items ed header (items_of p (items_in text s₀ i))) g.represents);
            room = rest_then (music_of (own_at text p s i)) (music_of (items_of p (drop (i + 1) (items_in text s₀ n)))) (rest_as_lem music_next g.room) r'.counts (length s') now_only.same_length k.grows;
          }

  pub going_end : (s : List ℕ) (r : Registers) (i : ℕ) → Going ed text t header p n s₀ s r i → n ≤ i → Built ed text t header p n s₀ s r
  going_end s r i g h =
      let e : i ≡ n = omega (arith, h, g.low) in
      record {
        represents = subst (λ (k : ℕ). Represents t s r [] (after ed header text s₀ p k)) e g.represents;
        room = rest_first [] (music_of (items_of p (drop i (items_in text s₀ n)))) g.room;
        same_items = items_as text s s₀ n (λ j l. g.behind j (omega (arith, l, h)));
        lines = subst (λ (k : ℕ). lines_in text s p k ≡ reverse (after ed header text s₀ p k).verses.lines) e g.lines;
        only = g.only;
      }
