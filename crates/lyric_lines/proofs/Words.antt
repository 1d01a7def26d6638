-- A WORD SUNG, in either edition.
use Prim.Native.Nat.{ℕ, zero, suc, ◌+◌, ◌-◌, ◌*◌, ◌≤◌}
use mathlib.Core.Path.{◌≡◌, refl, sym, ap, subst, ◌∙◌}
use mathlib.Core.List.{List}
use native.Mathlib.Omega.{arith}
use lib.ListN.{length}
use Rattle.laws.specs.Lists.{alter_at}
use Rattle.laws.specs.Bytes.{between}
use Rattle.editions.specs.declared.Edition.{Edition}
use Rattle.standard.specs.Lyrics.{syllable_text}
use Rattle.reader.specs.Lyrics.{held_at, sung_at}
use Rattle.std.specs.Prelude.{Option, Some, None}
use Rattle.lyric_words.specs.declared.Syllabic as code
use Rattle.lyric_words.specs.declared.Syllable.{Syllable}
use Rattle.lyric_words.specs.declared.Token.TheVariants as T
use Rattle.lyric_words.specs.Words.{as_syllabic, said}
use Rattle.lyric_stops.specs.declared.Stop.{Stop}
use Rattle.lyric_stops.specs.Stops.{Inside, farthest, note_at}
use Rattle.lyric_stops.proofs.Table.{how_many, stops_same}
use Rattle.lyrics.specs.declared.Row.{Row}
use Rattle.lyrics.specs.declared.Sheet.{Sheet}
use Rattle.lyrics.specs.Sheet.{lyric_row_width, code_of, row_read, syllable_of, apply_as, apply_row, syllables_in, Kept, RowAppended}
use Rattle.reader.specs.Lyrics as Lyrics
use Rattle.lyrics.proofs.Rows.{happens_put}
use Rattle.lyrics.proofs.Sheets as sheets
use Rattle.lyrics.proofs.Sheets.{outside_none}
use Rattle.lyric_lines.specs.declared.Place.{Place}
use Rattle.lyric_lines.specs.declared.Sung.{Sung}
use Rattle.lyric_lines.specs.Stands.{stops_of, stops_by}
use Rattle.lyric_lines.specs.Places.{TakenPlace, sing_at, BarSung}
use Rattle.lyric_lines.specs.Lines.{Held, WordSung}
use Rattle.lyric_lines.proofs.Places.{sought_near, stands_next, place_skip, place_hold, place_put, stands_bar, place_bar, bar_near}

abbrev pub sung : Place → ℕ → Sung
sung p n = record { place = p; count = n }

-- the stops are within scratch
pub stops_inside : (s : List ℕ) (h : Sheet) → Kept s h → Inside s (stops_of h)
stops_inside s h k = omega (arith, k.apart, k.inside)

-- as many as notes
many : (s : List ℕ) (h : Sheet) → length (stops_by s h) ≡ h.sounded
many s h = how_many s (stops_of h)

-- A HOLD, of no note and of one
pub held_none : (s : List ℕ) (h : Sheet) (v place : ℕ) → Kept s h → place ≡ 0 → Held s s h v place h.count
unfolding note_at held_at
held_none s h v place k e =
    record {
      kept = k;
      sung = λ text. ap (λ (p : ℕ). held_at v (note_at p) (syllables_in text s h)) (sym e);
      more = omega arith;
      one = omega arith;
      stops = refl;
      outside = outside_none s h.heads (h.log + lyric_row_width * h.count);
    }

abbrev pub row : ℕ → Option code.Syllabic → ℕ → ℕ → Row
row verse syllabic at end = record { verse = verse; code = code_of syllabic; at = at; end = end }

pub held_row : (s t : List ℕ) (h : Sheet) (v place n : ℕ) → (place ≡ 0 → ⊥) → RowAppended s t h (place - 1) (row v None 0 0) n → Held s t h v place n
unfolding note_at held_at apply_as
held_row s t h v zero n some m = absurd (some refl)
held_row s t h v (suc j) n some m =
    let e : suc j - 1 ≡ j = omega arith in
    record {
      kept = m.kept;
      sung = λ text. m.sung text ∙ ap (λ (k : ℕ). alter_at k (apply_row text (row_read (row v None 0 0))) (syllables_in text s h)) e;
      more = m.more;
      one = m.one;
      stops = stops_same s t (stops_of h) m.stops;
      outside = m.outside;
    }

-- A WORD, from place p
module _ (ed : Edition) (s : List ℕ) (h : Sheet) (v : ℕ) (p q : Place) where
  abbrev xs : List Stop
  xs = stops_by s h

  -- as many lists as stops
  lists : (text : List ℕ) → length (syllables_in text s h) ≡ length xs
  lists text = sheets.how_many text s h ∙ sym (many s h)

  pub sung_bar : Kept s h → BarSung ed xs p q → WordSung ed s s h v p T.Bar (sung q h.count)
  unfolding said
  sung_bar k b =
      record {
        kept = k;
        stands = λ start. stands_bar ed start xs p q b;
        sung = λ start hints st text ws. place_bar ed start xs p q v ws b st hints (syllables_in text s h);
        near = λ n l m o.
            let r = bar_near ed 0 xs p q n b l m (omega (arith, o, many s h)) in
            (omega (arith, r.0), omega (arith, r.1));
        more = omega arith;
        one = omega arith;
        stops = refl;
        outside = outside_none s h.heads (h.log + lyric_row_width * h.count);
      }

  -- one that takes the next note
  taken_near : (t : TakenPlace ed xs p.note q) (b : ℕ) → p.note ≤ b → p.reached ≤ b → h.sounded + farthest ≤ b → (q.note ≤ b + 1) × (q.reached ≤ b + 1)
  taken_near t b l m o = (sought_near ed xs (p.note + 1) q.note (b + 1) t.note (omega arith) (omega (arith, o, many s h)), omega (arith, t.reached, l))

  pub sung_skip : Kept s h → TakenPlace ed xs p.note q → WordSung ed s s h v p T.Skip (sung q h.count)
  unfolding said
  sung_skip k t =
      record {
        kept = k;
        stands = λ start. stands_next ed start xs p q t;
        sung = λ start hints st text ws. place_skip ed start xs p q v ws t st hints (syllables_in text s h);
        near = taken_near t;
        more = omega arith;
        one = omega arith;
        stops = refl;
        outside = outside_none s h.heads (h.log + lyric_row_width * h.count);
      }

  pub sung_hold : (u : List ℕ) (n : ℕ) → Held s u h v p.before n → TakenPlace ed (stops_by u h) p.note q → WordSung ed s u h v p T.Hold (sung q n)
  unfolding said
  sung_hold u n m t₁ =
      let t : TakenPlace ed xs p.note q = subst (λ (ys : List Stop). TakenPlace ed ys p.note q) m.stops t₁ in
      record {
        kept = m.kept;
        stands = λ start. stands_next ed start xs p q t;
        sung = λ start hints st text ws.
            ap (sing_at ed start v xs q ws) (m.sung text) ∙ place_hold ed start xs p q v ws t st hints (syllables_in text s h) (lists text);
        near = taken_near t;
        more = m.more;
        one = m.one;
        stops = m.stops;
        outside = m.outside;
      }

  pub sung_syllable : (u : List ℕ) (n : ℕ) (y : Syllable) → RowAppended s u h p.note (row v (Some y.syllabic) y.at y.end) n → TakenPlace ed (stops_by u h) p.note q
      → WordSung ed s u h v p (T.Syllable y) (sung q n)
  unfolding said syllable_of sung_at
  sung_syllable u n y m t₁ =
      let same : stops_by u h ≡ xs = stops_same s u (stops_of h) m.stops in
      let t : TakenPlace ed xs p.note q = subst (λ (ys : List Stop). TakenPlace ed ys p.note q) same t₁ in
      record {
        kept = m.kept;
        stands = λ start. stands_next ed start xs p q t;
        sung = λ start hints st text ws.
            ap (sing_at ed start v xs q ws) (m.sung text ∙ ap (λ (f : List Lyrics.Syllable → List Lyrics.Syllable). alter_at p.note f (syllables_in text s h)) (happens_put text (row_read (row v (Some y.syllabic) y.at y.end)) y.syllabic (sheets.syllabic_back (Some y.syllabic))))
            ∙ place_put ed start xs p q v ws t st hints (as_syllabic y.syllabic) (syllable_text (between text y.at y.end)) (syllables_in text s h) (lists text);
        near = taken_near t;
        more = m.more;
        one = m.one;
        stops = same;
        outside = m.outside;
      }
