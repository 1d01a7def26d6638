-- A lyric line, sung word by word.
use Prim.Native.Nat.{ℕ, ◌+◌, ◌-◌, ◌*◌, ◌≤◌, ◌<◌, ◌^◌}
use mathlib.Core.Path.{◌≡◌, refl, sym, ap, subst, ◌∙◌}
use mathlib.Core.List.{List, [], ◌∷◌}
use native.Mathlib.Omega.{arith}
use lib.ListN.{length}
use Rattle.laws.specs.Bytes.{between}
use Rattle.editions.specs.declared.Edition.{Edition}
use Rattle.editions.specs.declared.Edition.TheVariants.{First, Second}
use Rattle.standard.specs.Lyrics.{Word, SungBar, placed}
use Rattle.reader.specs.Lyrics.{Syllable, sing, sing_bars, lyric_words, sung_by, sung_by_bars, sung_in, sung_word, sung_each}
use Rattle.lyric_words.specs.declared.Cursor.{Cursor}
use Rattle.lyric_words.specs.declared.Read.{Read}
use Rattle.lyric_words.specs.Words as words
use Rattle.lyric_words.specs.Words.{ahead, Ready, TokenRead}
use Rattle.lyric_words.proofs.Tokens.{ahead_over}
use Rattle.lyric_stops.specs.declared.Stop.{Stop}
use Rattle.lyric_stops.specs.Stops.{farthest}
use Rattle.lyric_stops.proofs.Table.{how_many}
use Rattle.lyric_stops.proofs.Left.{line_bars}
use Rattle.lyrics.specs.declared.Sheet.{Sheet}
use Rattle.lyrics.specs.declared.Line.{Line}
use Rattle.lyrics.specs.Sheet.{lyric_row_width, with_count, syllables_in, Kept, Room, Outside}
use Rattle.lyrics.specs.Lines.{rows_for, LineFits}
use Rattle.lyrics.proofs.Sheets.{outside_none, outside_next}
use Rattle.lyric_lines.specs.declared.Place.{Place}
use Rattle.lyric_lines.specs.declared.Sung.{Sung}
use Rattle.lyric_lines.specs.Stands.{stops_of, stops_by}
use Rattle.lyric_lines.specs.Places.{FirstPlace, StandsIn, Hinted, sing_at, sing_line, Near}
use Rattle.lyric_lines.specs.Lines.{WordSung, Known, as_line, LineSung}
use Rattle.lyric_lines.proofs.Places.{sought_near, stands_first, sung_first}

-- what bounds the notes of a line whose cursor stands at `at`
abbrev pub bound : Sheet → Line → ℕ → ℕ
bound h l at = l.start + h.sounded + farthest + at

-- A LINE: the invariant of its loop
pub record Singing (ed : Edition) (text s₀ : List ℕ) (h : Sheet) (l : Line) (s : List ℕ) (c : Cursor) (p : Place) (count : ℕ) : Type 0 where
  pub kept : Kept s (with_count h count)
  pub ready : Ready text l.end c
  pub stands : StandsIn ed l.start (stops_by s₀ h) p
  pub note_near : p.note ≤ bound h l c.at
  pub reached_near : p.reached ≤ bound h l c.at
  pub sung : Hinted ed (stops_by s₀ h) → sing_at ed l.start l.verse (stops_by s₀ h) p (ahead text l.end c) (syllables_in text s (with_count h count))
      ≡ sing_line ed l.start l.verse (stops_by s₀ h) (lyric_words (between text l.at l.end)) (syllables_in text s₀ h)
  pub more : h.count ≤ count
  pub room : count + rows_for (l.end - c.at) ≤ h.count + rows_for (l.end - l.at)
  pub stops : stops_by s h ≡ stops_by s₀ h
  pub outside : Outside s₀ s h.heads (h.log + lyric_row_width * count)

pub singing_start : (ed : Edition) (text s : List ℕ) (h : Sheet) (l : Line) (c : Cursor) (p : Place) → LineFits text s h l → words.First text l.at l.end c
    → FirstPlace ed (stops_by s h) l.start p → Singing ed text s h l s c p h.count
singing_start ed text s h l c p f i b =
    let near : p.note ≤ bound h l c.at = sought_near ed (stops_by s h) l.start p.note (bound h l c.at) b.note (omega arith) (omega (arith, how_many s (stops_of h))) in
    record {
      kept = f.kept;
      ready = i.ready;
      stands = stands_first ed l.start (stops_by s h) p b;
      note_near = near;
      reached_near = omega (arith, b.reached, near);
      sung = λ hints.
          ap (λ (ws : List Word). sing_at ed l.start l.verse (stops_by s h) p ws (syllables_in text s h)) (sym i.line)
          ∙ sung_first ed l.start (stops_by s h) p b hints l.verse (lyric_words (between text l.at l.end)) (syllables_in text s h);
      more = omega arith;
      room = omega (arith, i.low);
      stops = refl;
      outside = outside_none s h.heads (h.log + lyric_row_width * h.count);
    }

-- no word is left
sung_out : (ed : Edition) (start v : ℕ) (xs : List Stop) (p : Place) (notes : List (List Syllable)) → sing_at ed start v xs p [] notes ≡ notes
unfolding sing placed sung_each sung_word
sung_out First start v xs p notes = refl
sung_out Second start v xs p notes = refl

-- what the measures are known by
hinted : (ed : Edition) (s : List ℕ) (h : Sheet) (ms : List (List ℕ)) → Known ed s (stops_of h) ms → Hinted ed (stops_by s h)
hinted First s h ms k = tt
hinted Second s h ms k = k.hints

-- the line as the reader has it
line_sung : (ed : Edition) (text s : List ℕ) (h : Sheet) (l : Line) (ms : List (List ℕ)) → Known ed s (stops_of h) ms → (notes : List (List Syllable))
    → sing_line ed l.start l.verse (stops_by s h) (lyric_words (between text l.at l.end)) notes ≡ sung_in ed ms (as_line text l ∷ []) notes
unfolding sung_in sung_by sung_by_bars
line_sung First text s h l ms k notes = refl
line_sung Second text s h l ms k notes =
    ap (λ (bs : List SungBar). sing_bars l.verse (lyric_words (between text l.at l.end)) bs notes) (sym (line_bars (stops_by s h) l.start ms k.bars))

module _ (ed : Edition) (text s₀ : List ℕ) (h : Sheet) (l : Line) (s : List ℕ) (c : Cursor) (p : Place) (count : ℕ) (v : Singing ed text s₀ h l s c p count) where
  -- it stays in scratch
  pub singing_length : length s ≡ length s₀
  singing_length = v.outside.same_length

  -- there is room for a row
  pub singing_room : LineFits text s₀ h l → c.at < l.end → Room s (with_count h count)
  singing_room f x =
      record { kept = v.kept; inside = omega (arith, v.room, f.inside, singing_length); few = omega (arith, v.room, f.few) }

  -- and the notes are numbers of a machine word
  pub singing_near : LineFits text s₀ h l → c.at < l.end → length s₀ < 2 ^ 64 → Near p
  singing_near f x y =
      let room : 7 * h.sounded ≤ length s₀ = omega (arith, f.kept.apart, f.kept.inside) in
      (omega (arith, v.note_near, f.near, f.high, f.short, room, x, y), omega (arith, v.reached_near, f.near, f.high, f.short, room, x, y))

  pub singing_next : (r : Read) → TokenRead text l.end c r → c.at < l.end → (t : List ℕ) (q : Sung) → WordSung ed s t (with_count h count) l.verse p r.token q
      → Singing ed text s₀ h l t r.cursor q.place q.count
  singing_next r k x t q w =
      let xs₀ = stops_by s₀ h in
      let ws = ahead text l.end r.cursor in
      let notes = syllables_in text s (with_count h count) in
      let stands : StandsIn ed l.start (stops_by s h) p = subst (λ (ys : List Stop). StandsIn ed l.start ys p) (sym v.stops) v.stands in
      let near = w.near (bound h l c.at) v.note_near v.reached_near (omega arith) in
      record {
        kept = w.kept;
        ready = k.ready;
        stands = subst (λ (ys : List Stop). StandsIn ed l.start ys q.place) v.stops (w.stands l.start stands);
        note_near = omega (arith, near.0, k.on);
        reached_near = omega (arith, near.1, k.on);
        sung = λ hints.
            ap (λ (ys : List Stop). sing_at ed l.start l.verse ys q.place ws (syllables_in text t (with_count h q.count))) (sym v.stops)
            ∙ w.sung l.start (subst (Hinted ed) (sym v.stops) hints) stands text ws
            ∙ (λ i. sing_at ed l.start l.verse (v.stops i) p (sym k.says i) notes)
            ∙ v.sung hints;
        more = omega (arith, w.more, v.more);
        room = omega (arith, w.one, v.room, k.far, x);
        stops = w.stops ∙ v.stops;
        outside = outside_next s₀ s t h.heads (h.log + lyric_row_width * count) (h.log + lyric_row_width * q.count) v.outside (omega (arith, w.more)) w.outside;
      }

  pub singing_end : l.end ≤ c.at → LineSung ed text s₀ s h l count
  singing_end x =
      record {
        kept = v.kept;
        stops = v.stops;
        sung = λ ms known.
            sym (sung_out ed l.start l.verse (stops_by s₀ h) p (syllables_in text s (with_count h count)))
            ∙ ap (λ (ws : List Word). sing_at ed l.start l.verse (stops_by s₀ h) p ws (syllables_in text s (with_count h count))) (sym (ahead_over text l.end c v.ready x))
            ∙ v.sung (hinted ed s₀ h ms known)
            ∙ line_sung ed text s₀ h l ms known (syllables_in text s₀ h);
        more = v.more;
        room = omega (arith, v.room);
        outside = v.outside;
      }
