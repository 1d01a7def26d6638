-- THE TABLES FIT: a byte of music brings a measure's bytes and makes a measure, or a note, its pitch, its lyric head and its stop, or a rest and those that it
-- may get, or an accidental; none of these is wider than a measure. A byte of lyrics brings a lyric row.
use Prim.Native.Nat.{ℕ, ◌+◌, ◌*◌, ◌^◌, ◌≤◌, ◌<◌}
use mathlib.Core.Path.{◌≡◌, refl, ap, ◌∙◌}
use mathlib.Core.Bool.{Bool, true, false, cond, ◌&&◌, ◌||◌}
use mathlib.Core.Logic.{◌⊎◌, inl, inr}
use mathlib.Core.List.{List, [], ◌∷◌, map}
use native.Mathlib.Omega.{arith}
use lib.Dec.{eqb}
use lib.ListN.{length}
use borrow.Author.Tests.{eqb-true}
use Rattle.laws.specs.Lists.{filter, sum}
use Rattle.laws.specs.Bytes.{between, rows}
use Rattle.laws.proofs.Bools.{by_test, and_left, and_right, or_either}
use Rattle.standard.specs.Bytes.{is}
use Rattle.standard.specs.Pitches.{is_letter}
use Rattle.reader.specs.Steps.{items_of}
use Rattle.reader.specs.Records.{measure_width}
use Rattle.bounds.specs.Weights.{lyric_bytes}
use Rattle.capacity.specs.Sizes.{is_bar, is_rest, is_sign, bars, letters, rests, signs, tones}
use Rattle.scan_table.specs.declared.Kind.{Kind}
use Rattle.scan_table.specs.declared.Kind.TheVariants as K
use Rattle.scan_table.specs.declared.Row.{Row}
use Rattle.lyrics.proofs.Items.{lyric_kind}
use Rattle.scan_table.specs.Rows.{items_from, item_row_width, dec_item, item_as, item_in, items_in}
use Rattle.lyrics.specs.declared.Sheet.{Sheet}
use Rattle.lyrics.specs.Items.{is_lyric, is_line, line_in, lines_in, rows_of, Fits}
use Rattle.part_rows.specs.Encoded.{note_row_width, pitch_row_width, scope_row_width}
use Rattle.part_registers.specs.declared.Tables.{Tables}
use Rattle.part_sizing.specs.declared.Made.{Made}
use Rattle.part_sizing.specs.Counting.{made_of, tables_at}
use Rattle.lyrics.specs.Sheet.{lyric_head_width, lyric_stop_width}
use Rattle.part_sizing.specs.Room.{PartRoom, music_at, Sized}
use Rattle.part_sizing.proofs.Counting.{bytes_in}

-- A BYTE OF MUSIC
abbrev one : Bool → ℕ
one b = cond b 1 0

-- what a letter and a rest can make
abbrev letter_width : ℕ
letter_width = note_row_width + pitch_row_width + lyric_head_width + lyric_stop_width

abbrev rest_width : ℕ
rest_width = note_row_width + lyric_head_width + lyric_stop_width

abbrev Enough : ℕ → Type 0
Enough c = measure_width * one (is_bar c) + letter_width * one (is_letter c) + rest_width * one (is_rest c) + scope_row_width * one (is_sign c) ≤ measure_width

-- one of these bytes
at_byte : (k c : ℕ) → Enough k → eqb c k ≡ true → Enough c
at_byte k c h e = rw (eqb-true c k e) h

letter_covered : (b : Bool) → letter_width * one b ≤ measure_width
letter_covered true = omega arith
letter_covered false = omega arith

bar_covered : (c : ℕ) → is_bar c ≡ true → Enough c
bar_covered c e = go (or_either (is "|" c) (is ":" c) e)
  where
    go : (is "|" c ≡ true) ⊎ (is ":" c ≡ true) → Enough c
    go (inl h) = at_byte 124 c (omega arith) h
    go (inr h) = at_byte 58 c (omega arith) h

rest_covered : (c : ℕ) → is_rest c ≡ true → Enough c
rest_covered c e = go (or_either (is "z" c || is "x" c || is "Z" c) (is "X" c) e)
  where
    two : (is "z" c ≡ true) ⊎ (is "x" c ≡ true) → Enough c
    two (inl h) = at_byte 122 c (omega arith) h
    two (inr h) = at_byte 120 c (omega arith) h

    three : ((is "z" c || is "x" c) ≡ true) ⊎ (is "Z" c ≡ true) → Enough c
    three (inl h) = two (or_either (is "z" c) (is "x" c) h)
    three (inr h) = at_byte 90 c (omega arith) h

    go : ((is "z" c || is "x" c || is "Z" c) ≡ true) ⊎ (is "X" c ≡ true) → Enough c
    go (inl h) = three (or_either (is "z" c || is "x" c) (is "Z" c) h)
    go (inr h) = at_byte 88 c (omega arith) h

sign_covered : (c : ℕ) → is_sign c ≡ true → Enough c
sign_covered c e = go (or_either (is "^" c || is "_" c) (is "=" c) e)
  where
    two : (is "^" c ≡ true) ⊎ (is "_" c ≡ true) → Enough c
    two (inl h) = at_byte 94 c (omega arith) h
    two (inr h) = at_byte 95 c (omega arith) h

    go : ((is "^" c || is "_" c) ≡ true) ⊎ (is "=" c ≡ true) → Enough c
    go (inl h) = two (or_either (is "^" c) (is "_" c) h)
    go (inr h) = at_byte 61 c (omega arith) h

byte_covered : (c : ℕ) → Enough c
byte_covered c =
    by_test (is_bar c) (bar_covered c)
    (λ a. by_test (is_rest c) (rest_covered c)
    (λ b. by_test (is_sign c) (sign_covered c) (λ d. rw (a, b, d) (omega (arith, letter_covered (is_letter c))))))

-- MUSIC
count_cons : (p : ℕ → Bool) (c : ℕ) (l : List ℕ) → length (filter p (c ∷ l)) ≡ one (p c) + length (filter p l)
count_cons p c l = by_test (p c) (λ e. rw e (omega arith)) (λ e. rw e (omega arith))

music_covered : (l : List ℕ) → measure_width * bars l + letter_width * letters l + rest_width * rests l + scope_row_width * signs l ≤ measure_width * length l
unfolding bars letters rests signs
music_covered [] = omega arith
music_covered (c ∷ l) = omega (arith, music_covered l, byte_covered c, count_cons is_bar c l, count_cons is_letter c l, count_cons is_rest c l, count_cons is_sign c l)

-- LYRICS: the rows that the lyric lines of a part can need
lyric_length : (k : Kind) (text : List ℕ) (r : Row) → k ≡ K.LyricLine → lyric_bytes (item_as k text r) ≡ length (between text r.at r.end)
unfolding item_as lyric_bytes
lyric_length k text r e = ap (λ (j : Kind). lyric_bytes (item_as j text r)) e

lines_rows : (text : List ℕ) (p : ℕ) (rs : List Row) → rows_of (map (line_in text) (filter (is_line p) rs)) ≤ sum lyric_bytes (items_of p (map (item_in text) rs))
unfolding rows_of line_in is_line item_in
lines_rows text p [] = omega arith
lines_rows text p (r ∷ rs) =
    by_test (is_lyric r.kind && eqb r.part p)
    (λ e.
    let k = lyric_kind r.kind (and_left (is_lyric r.kind) (eqb r.part p) e) in
    rw (e, and_right (is_lyric r.kind) (eqb r.part p) e) (omega (arith, lines_rows text p rs, lyric_length r.kind text r k)))
    (λ e. rw e
    (by_test (eqb r.part p) (λ f. rw f (omega (arith, lines_rows text p rs))) (λ f. rw f (lines_rows text p rs))))

pub rows_most : (text s : List ℕ) (p n : ℕ) → rows_of (lines_in text s p n) ≤ sum lyric_bytes (items_of p (items_in text s n))
unfolding lines_in items_in
rows_most text s p n = lines_rows text p (rows dec_item item_row_width s items_from n)

-- A PART
module _ (text s : List ℕ) (n p : ℕ) (room : PartRoom text s n p) where
  abbrev made : Made ℕ
  made = made_of (music_at text s n p)

  -- the tables end early enough
  pub tables_end : (m : Made ℕ) → m ≡ made → (tables_at n m).end < 2 ^ 32
  tables_end m e = rw e (omega (arith, room.small, bytes_in (items_of p (items_in text s n)), music_covered (music_at text s n p)))

  pub tables_fit : (m : Made ℕ) (t : Tables) → m ≡ made → t ≡ tables_at n m → Sized text s n p t
  tables_fit m t e f =
      rw (f ∙ ap (tables_at n) e)
      (let b = bytes_in (items_of p (items_in text s n)) in
      let paid = music_covered (music_at text s n p) in
      record {
        is = refl;
        behind_items = refl;
        rest =
            record {
              for_heads = omega arith;
              for_notes = omega arith;
              for_pitches = omega arith;
              for_scopes = omega arith;
              ends = omega (arith, room.fits, b, paid);
              small = omega (arith, room.small, b, paid);
            };
        sheet = omega (arith, room.fits, b, paid);
        few = omega (arith, room.small, b);
      })

-- THE SHEET of the lyrics, once the part is read: scratch has the same items, and of its notes that sound there are no more than its music can make
pub sheet_fits : (text s : List ℕ) (n p : ℕ) (t : Tables) → Sized text s n p t → length text ≤ 67108864 → (s' : List ℕ) → items_in text s' n ≡ items_in text s n → length s' ≡ length s
    → (h : Sheet) → h.heads ≡ t.scopes → h.log ≡ t.scopes + lyric_head_width * h.sounded + lyric_stop_width * h.sounded → h.sounded ≤ tones (music_at text s n p) → Fits text s' n p h
sheet_fits text s n p t z short s' e l h at log most =
    let few : rows_of (lines_in text s' p n) ≤ sum lyric_bytes (items_of p (items_in text s n)) = rw e at (rows_most text s' p n) in
    record {
      before_heads = omega (arith, at, z.behind_items, z.rest.for_heads, z.rest.for_notes, z.rest.for_pitches);
      apart = omega (arith, at, log);
      short = omega (arith, short);
      inside = omega (arith, log, most, l, few, z.sheet);
      few = omega (arith, few, z.few);
    }
