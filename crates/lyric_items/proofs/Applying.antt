-- The lyric lines of a part, one after the other.
use Prim.Native.Nat.{ℕ, zero, suc, ◌+◌, ◌-◌, ◌*◌, ◌≤◌, ◌<◌}
use mathlib.Core.Path.{◌≡◌, refl, sym, ap, subst, ◌∙◌}
use mathlib.Core.Bool.{true, false}
use mathlib.Core.List.{List, [], ◌∷◌, ◌++◌, map}
use native.Mathlib.Omega.{arith}
use native.Mathlib.Nat.{add-zero}
use lib.ListN.{length, get_or, take, drop, replicate, get_or-replicate}
use borrow.Author.Tests.{eq-eqb, ne_eqb}
use Rattle.laws.specs.Lists.{All, filter}
use Rattle.laws.specs.Bytes.{part, between, splice, zeros, rows}
use Rattle.laws.proofs.Bools.{and_no_left, and_no_right, and_both}
use Rattle.laws.proofs.Lists.{filter_yes, filter_no, sum_append, All-append}
use Rattle.laws.proofs.Parts.{length_between, part_front}
use Rattle.laws.proofs.Splices.{length_splice, length_zeros, take_splice, drop_splice_past, part_above, byte_same}
use Rattle.laws.proofs.Numbers.{little_at_own, u32_sum}
use Rattle.laws.proofs.Rows.{rows_more, rows_none, length_rows}
use Rattle.editions.specs.declared.Edition.{Edition}
use Rattle.editions.specs.declared.Edition.TheVariants.{First, Second}
use Rattle.reader.specs.State as reader
use Rattle.reader.specs.Lyrics.{Syllable, sung_by, sung_by_bars, sung_in}
use Rattle.scan_table.specs.declared.Kind.TheVariants as K
use Rattle.scan_table.specs.declared.Row as items
use Rattle.scan_table.specs.Rows.{items_from, item_row_width, row_from, dec_item, item_at, RowIs}
use Rattle.lyric_stops.specs.declared.Stop.{Stop}
use Rattle.lyric_stops.specs.declared.Stops.{Stops}
use Rattle.lyric_stops.specs.Stops.{stops_in, left_from, Hints}
use Rattle.lyric_stops.proofs.Table.{stops_same}
use Rattle.lyrics.specs.declared.Sheet.{Sheet}
use Rattle.lyrics.specs.declared.Line.{Line}
use Rattle.lyrics.specs.Sheet.{lyric_head_width, lyric_stop_width, lyric_row_width, stops_from, with_count, sung_from, head_of, heads_in, syllables_in, Kept, Outside}
use Rattle.lyrics.specs.Lines.{rows_for, LineFits}
use Rattle.lyrics.specs.Items.{is_lyric, is_line, line_in, line_of, lines_in, rows_of, Fits}
use Rattle.lyrics.proofs.Sheets.{outside_none, outside_next}
use Rattle.lyrics.proofs.Items.{no_lyric_kind, item_words, item_part, lines_more, lines_front}
use Rattle.lyric_lines.specs.Stands.{stops_of}
use Rattle.lyric_lines.specs.Lines.{Known, LineSung}
use Rattle.lyric_items.specs.Items.{LineFrom, ItemFits, ItemSung, AllSung}

-- WHAT IS KNOWN OF MEASURES, where the stops stay
known_same : (ed : Edition) (s t : List ℕ) (q : Stops) → stops_in t q ≡ stops_in s q → (ms : List (List ℕ)) → Known ed s q ms → Known ed t q ms
known_same First s t q e ms k = tt
known_same Second s t q e ms k = record { hints = subst Hints (sym e) k.hints; bars = ap (λ (xs : List Stop). left_from xs 0) e ∙ k.bars }

-- no line, and one after the other
sung_none : (ed : Edition) (ms : List (List ℕ)) (notes : List (List Syllable)) → sung_in ed ms [] notes ≡ notes
unfolding sung_in sung_by sung_by_bars
sung_none First ms notes = refl
sung_none Second ms notes = refl

sung_append : (ed : Edition) (ms : List (List ℕ)) (xs ys : List reader.Sung) (notes : List (List Syllable)) → sung_in ed ms (xs ++ ys) notes ≡ sung_in ed ms ys (sung_in ed ms xs notes)
unfolding sung_in sung_by sung_by_bars
sung_append First ms [] ys notes = refl
sung_append First ms (x ∷ xs) ys notes = sung_append First ms xs ys _
sung_append Second ms [] ys notes = refl
sung_append Second ms (x ∷ xs) ys notes = sung_append Second ms xs ys _

-- AN ITEM
no_line : (text : List ℕ) (p : ℕ) (q : items.Row) → is_line p q ≡ false → line_of text p q ≡ []
unfolding line_of
no_line text p q e = ap (map (line_in text)) (filter_no (is_line p) q [] e)

one_line : (text : List ℕ) (p : ℕ) (q : items.Row) → is_line p q ≡ true → line_of text p q ≡ line_in text q ∷ []
unfolding line_of
one_line text p q e = ap (map (line_in text)) (filter_yes (is_line p) q [] e)

rows_one : (l : reader.Sung) → rows_of (l ∷ []) ≡ rows_for (length l.text)
unfolding rows_of
rows_one l = add-zero (rows_for (length l.text))

-- an item that is no line of the part
skipped : (ed : Edition) (text s : List ℕ) (p i : ℕ) (h : Sheet) → Kept s h → is_line p (item_at s i) ≡ false → ItemSung ed text s s p i h h.count
skipped ed text s p i h kept e =
    record {
      kept = kept;
      known = λ ms k. k;
      sung = λ ms k. sym (ap (λ (ls : List reader.Sung). sung_in ed ms ls (syllables_in text s h)) (no_line text p (item_at s i) e) ∙ sung_none ed ms (syllables_in text s h));
      more = omega arith;
      room = omega arith;
      outside = outside_none s h.heads (h.log + lyric_row_width * h.count);
    }

module _ (ed : Edition) (text s : List ℕ) (p i : ℕ) (h : Sheet) (r : items.Row) (is : RowIs text (item_at s i) r) where
  pub other_kind : Kept s h → (r.kind ≡ K.LyricLine → ⊥) → ItemSung ed text s s p i h h.count
  unfolding is_line
  other_kind kept n = skipped ed text s p i h kept (and_no_left _ _ (no_lyric_kind (item_at s i).kind (λ e. n (is.kind ∙ e))))

  pub other_part : Kept s h → (r.part ≡ p → ⊥) → ItemSung ed text s s p i h h.count
  unfolding is_line
  other_part kept n = skipped ed text s p i h kept (and_no_right (is_lyric (item_at s i).kind) _ (ne_eqb (item_at s i).part p (λ e. n (item_part text (item_at s i) r is ∙ e))))

  module _ (k : r.kind ≡ K.LyricLine) (o : r.part ≡ p) (l : Line) (f : LineFrom r l) where
    yes_line : is_line p (item_at s i) ≡ true
    unfolding is_line
    yes_line = and_both _ _ (ap is_lyric (sym is.kind ∙ k)) (eq-eqb (item_at s i).part p (sym (item_part text (item_at s i) r is) ∙ o))

    -- the line's text
    same_text : between text l.at l.end ≡ between text (item_at s i).at (item_at s i).end
    same_text = (λ j. between text (f.low j) (f.high j)) ∙ item_words text (item_at s i) r is k

    same_length : length (between text (item_at s i).at (item_at s i).end) ≡ l.end - l.at
    same_length = ap length (sym same_text) ∙ length_between text l.at l.end (omega (arith, f.high, is.high))

    needs_rows : rows_of (line_of text p (item_at s i)) ≡ rows_for (l.end - l.at)
    unfolding line_in
    needs_rows = ap rows_of (one_line text p (item_at s i) yes_line) ∙ rows_one (line_in text (item_at s i)) ∙ ap rows_for same_length

    pub line_fits_lem : ItemFits text s p i h → LineFits text s h l
    line_fits_lem x =
        record {
          kept = x.kept;
          order = omega (arith, f.low, f.high, is.order);
          high = omega (arith, f.high, is.high);
          short = x.short;
          near = f.near;
          inside = omega (arith, x.inside, needs_rows);
          few = omega (arith, x.few, needs_rows);
        }

    pub line_item : (t : List ℕ) (n : ℕ) → LineSung ed text s t h l n → ItemSung ed text s t p i h n
    unfolding line_in
    line_item t n x =
        record {
          kept = x.kept;
          known = known_same ed s t (stops_of h) x.stops;
          sung = λ ms k.
              x.sung ms k
              ∙ (λ j. sung_in ed ms (record { start = (f.start ∙ is.unit) j; verse = (f.verse ∙ is.b) j; text = same_text j } ∷ []) (syllables_in text s h))
              ∙ ap (λ (ls : List reader.Sung). sung_in ed ms ls (syllables_in text s h)) (sym (one_line text p (item_at s i) yes_line));
          more = x.more;
          room = omega (arith, x.room, needs_rows);
          outside = x.outside;
        }

-- THE ITEMS IN TURN
rows_append : (xs ys : List reader.Sung) → rows_of (xs ++ ys) ≡ rows_of xs + rows_of ys
unfolding rows_of
rows_append xs ys = sum_append (λ (l : reader.Sung). rows_for (length l.text)) xs ys

more_rows : (text s : List ℕ) (p i : ℕ) → rows_of (lines_in text s p (i + 1)) ≡ rows_of (lines_in text s p i) + rows_of (line_of text p (item_at s i))
more_rows text s p i = ap rows_of (lines_more text s p i) ∙ rows_append (lines_in text s p i) (line_of text p (item_at s i))

rows_grow : (text s : List ℕ) (p i m : ℕ) → rows_of (lines_in text s p i) ≤ rows_of (lines_in text s p (i + m))
rows_grow text s p i zero = rw (add-zero i) (omega arith)
rows_grow text s p i (suc m) =
    let e : i + suc m ≡ i + m + 1 = omega arith in
    rw e (omega (arith, rows_grow text s p i m, more_rows text s p (i + m)))

-- the invariant of the loop over the items
pub record Applying (ed : Edition) (text s₀ : List ℕ) (n p : ℕ) (h : Sheet) (notes : List (List Syllable)) (s : List ℕ) (count i : ℕ) : Type 0 where
  pub kept : Kept s (with_count h count)
  pub known : (ms : List (List ℕ)) → Known ed s₀ (stops_of h) ms → Known ed s (stops_of h) ms
  pub sung : (ms : List (List ℕ)) → Known ed s₀ (stops_of h) ms → syllables_in text s (with_count h count) ≡ sung_in ed ms (lines_in text s₀ p i) notes
  pub room : count ≤ rows_of (lines_in text s₀ p i)
  pub outside : Outside s₀ s h.heads (h.log + lyric_row_width * count)
  pub low : i ≤ n

module _ (ed : Edition) (text s₀ : List ℕ) (n p : ℕ) (h : Sheet) (notes : List (List Syllable)) (fits : Fits text s₀ n p h) (s : List ℕ) (count i : ℕ) (v : Applying ed text s₀ n p h notes s count i) (l : i < n) where
  same_item : item_at s i ≡ item_at s₀ i
  same_item = ap dec_item (part_front s s₀ h.heads (row_from i) item_row_width v.outside.low (omega (arith, fits.before_heads)))

  same_line : line_of text p (item_at s i) ≡ line_of text p (item_at s₀ i)
  same_line = ap (line_of text p) same_item

  all_rows : count + rows_of (line_of text p (item_at s i)) ≤ rows_of (lines_in text s₀ p n)
  all_rows =
      let e : i + 1 + (n - (i + 1)) ≡ n = omega arith in
      let grow : rows_of (lines_in text s₀ p (i + 1)) ≤ rows_of (lines_in text s₀ p n) = rw e at (rows_grow text s₀ p (i + 1) (n - (i + 1))) in
      omega (arith, grow, more_rows text s₀ p i, v.room, ap rows_of same_line)

  pub item_fits_lem : ItemFits text s p i (with_count h count)
  item_fits_lem =
      record {
        kept = v.kept;
        before_heads = omega (arith, fits.before_heads);
        short = fits.short;
        inside = omega (arith, all_rows, fits.inside, v.outside.same_length);
        few = omega (arith, all_rows, fits.few);
      }

  pub applying_next : (t : List ℕ) (c : ℕ) → ItemSung ed text s t p i (with_count h count) c → Applying ed text s₀ n p h notes t c (i + 1)
  applying_next t c x =
      record {
        kept = x.kept;
        known = λ ms k. x.known ms (v.known ms k);
        sung = λ ms k.
            x.sung ms (v.known ms k)
            ∙ (λ j. sung_in ed ms (same_line j) (v.sung ms k j))
            ∙ sym (sung_append ed ms (lines_in text s₀ p i) (line_of text p (item_at s₀ i)) notes)
            ∙ ap (λ (ls : List reader.Sung). sung_in ed ms ls notes) (sym (lines_more text s₀ p i));
        room = omega (arith, x.room, v.room, more_rows text s₀ p i, ap rows_of same_line);
        outside = outside_next s₀ s t h.heads (h.log + lyric_row_width * count) (h.log + lyric_row_width * c) v.outside (omega (arith, x.more)) x.outside;
        low = omega arith;
      }

pub applying_end : (ed : Edition) (text s₀ : List ℕ) (n p : ℕ) (h : Sheet) (notes : List (List Syllable)) (s : List ℕ) (count i : ℕ) → Applying ed text s₀ n p h notes s count i → n ≤ i → AllSung ed text s₀ s n p h notes count
applying_end ed text s₀ n p h notes s count i v l =
    let e : i ≡ n = omega (arith, v.low) in
    record {
      kept = v.kept;
      sung = λ ms k. v.sung ms k ∙ ap (λ (j : ℕ). sung_in ed ms (lines_in text s₀ p j) notes) e;
      room = rw e at v.room;
      outside = v.outside;
    }

no_lines : (text s : List ℕ) (p : ℕ) → lines_in text s p 0 ≡ []
unfolding lines_in
no_lines text s p = ap (λ (rs : List items.Row). map (line_in text) (filter (is_line p) rs)) (rows_none dec_item item_row_width s items_from)

pub applying_start : (ed : Edition) (text s : List ℕ) (n p : ℕ) (h : Sheet) → Kept s (with_count h 0) → Applying ed text s n p h (syllables_in text s (with_count h 0)) s 0 0
applying_start ed text s n p h kept =
    record {
      kept = kept;
      known = λ ms k. k;
      sung = λ ms k. sym (ap (λ (ls : List reader.Sung). sung_in ed ms ls (syllables_in text s (with_count h 0))) (no_lines text s p) ∙ sung_none ed ms (syllables_in text s (with_count h 0)));
      room = omega arith;
      outside = outside_none s h.heads (h.log + lyric_row_width * 0);
      low = omega arith;
    }

-- THE BEGINNING: no note has a row
module _ (s t : List ℕ) (at n : ℕ) (inside : at + lyric_head_width * n ≤ length s) (e : t ≡ splice s at (zeros (at + lyric_head_width * n - at))) where
  zero_byte : (k : ℕ) → k < lyric_head_width * n → get_or t (at + k) 0 ≡ 0
  unfolding zeros
  zero_byte k h =
      let z : length (zeros (at + lyric_head_width * n - at)) ≡ at + lyric_head_width * n - at = length_zeros (at + lyric_head_width * n - at) in
      ap (λ (x : List ℕ). get_or x (at + k) 0) e ∙ byte_same s at (zeros (at + lyric_head_width * n - at)) k (omega (arith, z)) (omega (arith, z)) ∙ get_or-replicate (at + lyric_head_width * n - at) k 0 0 (omega arith)

  zero_head : (i : ℕ) → i < n → head_of (part t (at + lyric_head_width * i) lyric_head_width) ≡ 0
  unfolding head_of
  zero_head i h =
      let a : at + lyric_head_width * i + 1 ≡ at + (lyric_head_width * i + 1) = omega arith in
      let b : at + lyric_head_width * i + 2 ≡ at + (lyric_head_width * i + 2) = omega arith in
      let c : at + lyric_head_width * i + 3 ≡ at + (lyric_head_width * i + 3) = omega arith in
      sym (little_at_own 4 t (at + lyric_head_width * i)) ∙ u32_sum t (at + lyric_head_width * i)
      ∙ rw (a, b, c, zero_byte (lyric_head_width * i) (omega arith), zero_byte (lyric_head_width * i + 1) (omega arith), zero_byte (lyric_head_width * i + 2) (omega arith), zero_byte (lyric_head_width * i + 3) (omega arith))

  zero_heads : (m : ℕ) → m ≤ n → All (λ k. k ≤ 0) (rows head_of lyric_head_width t at m)
  zero_heads zero h = rw (rows_none head_of lyric_head_width t at) tt
  zero_heads (suc m) h =
      let k : suc m ≡ m + 1 = omega arith in
      rw (k, rows_more head_of lyric_head_width t at m) (All-append (λ k. k ≤ 0) (rows head_of lyric_head_width t at m) (head_of (part t (at + lyric_head_width * m) lyric_head_width) ∷ []) (zero_heads m (omega arith)) (omega (arith, zero_head m (omega arith)), tt))

map_none : (text s : List ℕ) (log : ℕ) (ks : List ℕ) → map (sung_from text s log 0) ks ≡ replicate (length ks) []
unfolding sung_from
map_none text s log [] = refl
map_none text s log (k ∷ ks) = ap {B = List (List Syllable)} (λ r. [] ∷ r) (map_none text s log ks)

none_sung : (text s : List ℕ) (h : Sheet) → syllables_in text s (with_count h 0) ≡ replicate h.sounded []
unfolding syllables_in heads_in
none_sung text s h =
    map_none text s h.log (rows head_of lyric_head_width s h.heads h.sounded) ∙ ap (λ (k : ℕ). replicate k []) (length_rows head_of lyric_head_width s h.heads h.sounded)

module _ (ed : Edition) (text s : List ℕ) (n p : ℕ) (h : Sheet) (fits : Fits text s n p h) (t : List ℕ) (e : t ≡ splice s h.heads (zeros (h.heads + lyric_head_width * h.sounded - h.heads))) where
  cleared : Outside s t h.heads (h.log + lyric_row_width * 0)
  cleared =
      let z = length_zeros (h.heads + lyric_head_width * h.sounded - h.heads) in
      record {
        same_length = ap length e ∙ length_splice s h.heads (zeros (h.heads + lyric_head_width * h.sounded - h.heads));
        low = ap (take h.heads) e ∙ take_splice h.heads s h.heads (zeros (h.heads + lyric_head_width * h.sounded - h.heads)) (omega arith);
        high = ap (drop (h.log + lyric_row_width * 0)) e ∙ drop_splice_past (h.log + lyric_row_width * 0) s h.heads (zeros (h.heads + lyric_head_width * h.sounded - h.heads)) (omega (arith, z, fits.apart));
      }

  lines_now : lines_in text t p n ≡ lines_in text s p n
  lines_now = lines_front text s t p n h.heads cleared.low fits.before_heads

  pub cleared_kept : Kept t (with_count h 0)
  unfolding heads_in
  cleared_kept =
      let room : h.heads + lyric_head_width * h.sounded ≤ length s = omega (arith, fits.apart, fits.inside) in
      record { apart = fits.apart; inside = omega (arith, fits.inside, cleared.same_length); firsts = zero_heads s t h.heads h.sounded room e h.sounded (omega arith) }

  pub cleared_fits : Fits text t n p h
  cleared_fits =
      record {
        before_heads = fits.before_heads;
        apart = fits.apart;
        short = fits.short;
        inside = omega (arith, fits.inside, ap rows_of lines_now, cleared.same_length);
        few = omega (arith, fits.few, ap rows_of lines_now);
      }

  -- the stops stay
  cleared_stops : stops_in t (stops_of h) ≡ stops_in s (stops_of h)
  cleared_stops =
      let z = length_zeros (h.heads + lyric_head_width * h.sounded - h.heads) in
      stops_same s t (stops_of h)
      (ap (λ (b : List ℕ). part b (stops_from h) (lyric_stop_width * h.sounded)) e
      ∙ part_above s h.heads (zeros (h.heads + lyric_head_width * h.sounded - h.heads)) (stops_from h) (lyric_stop_width * h.sounded) (omega (arith, z)))

  pub cleared_sung : (u : List ℕ) (c : ℕ) → AllSung ed text t u n p h (syllables_in text t (with_count h 0)) c → AllSung ed text s u n p h (replicate h.sounded []) c
  cleared_sung u c x =
      record {
        kept = x.kept;
        sung = λ ms k. x.sung ms (known_same ed s t (stops_of h) cleared_stops ms k) ∙ (λ j. sung_in ed ms (lines_now j) (none_sung text t h j));
        room = omega (arith, x.room, ap rows_of lines_now);
        outside = outside_next s t u h.heads (h.log + lyric_row_width * 0) (h.log + lyric_row_width * c) cleared (omega arith) x.outside;
      }
