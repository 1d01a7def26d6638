-- A PART READ, ENDED, SUNG AND WRITTEN, from what each step leaves of scratch.
use Prim.Native.Nat.{ℕ, ◌+◌, ◌*◌, ◌^◌, ◌≤◌, ◌<◌}
use mathlib.Core.Path.{◌≡◌, refl, sym, ap, subst, ◌∙◌}
use mathlib.Core.Option.{none}
use mathlib.Core.List.{List, [], append-nil, reverse}
use native.Mathlib.Omega.{arith}
use lib.ListN.{length, replicate}
use Rattle.laws.specs.Lists.{All}
use Rattle.standard.specs.Keys.{Key}
use Rattle.standard.specs.Pitches.{Pitch}
use Rattle.editions.specs.declared.Edition.{Edition}
use Rattle.reader.specs.State.{Note}
use Rattle.reader.specs.Lyrics.{Syllable, sung_in}
use Rattle.reader.specs.Steps.{items_of}
use Rattle.reader.specs.Records as Records
use Rattle.reader.specs.Records.{pitch_bytes, measure_width}
use Rattle.reader.specs.Part as Part
use Rattle.part_layout.specs.Log.{Head, LogState}
use Rattle.part_layout.specs.Ends.{dropped, close, marked, takers_in, finished_heads, finished, build}
use Rattle.part_layout.specs.Sections as layout
use Rattle.part_layout.proofs.Sounded.{items_sounded}
use Rattle.part_layout.proofs.Counts.{items_fit_lem, build_fits}
use Rattle.part_layout.proofs.Same.{same_sections}
use Rattle.part_rows.specs.Table.{Table, Only}
use Rattle.part_rows.specs.Encoded.{note_row, note_row_width, pitch_row_width}
use Rattle.part_rows.proofs.Tables.{table_front, table_back}
use Rattle.part_measures.specs.Heads.{head_row}
use Rattle.part_ends.specs.Spans.{Small}
use Rattle.part_ends.proofs.Closing.{fits_small, length_end}
use Rattle.scan_table.specs.Rows.{items_in, table_end}
use Rattle.scan_table.proofs.Rows.{items_front}
use Rattle.lyrics.specs.declared.Sheet.{Sheet}
use Rattle.lyrics.specs.Sheet.{syllables_in, lyric_row_width}
use Rattle.lyrics.specs.Items.{lines_in}
use Rattle.lyrics.proofs.Items.{lines_front}
use Rattle.part_stops.proofs.Bars.{stops_ready}
use Rattle.std.specs.Prelude.{Option}
use Rattle.store_sections.specs.Writes.{WroteIs}
use Rattle.write_notes.specs.declared.PartTables.{PartTables}
use Rattle.write_notes.specs.Tables.{InStore, Represents}
use Rattle.write_notes.proofs.Out.{notes_total, wrote_as_lem}
use Rattle.write_pitches.proofs.Out.{pitches_total}
use Rattle.write_syllables.specs.Sheets.{SheetIn}
use Rattle.part_registers.specs.declared.Tables.{Tables}
use Rattle.part_registers.specs.declared.Registers.{Registers}
use Rattle.part_invariant.specs.Invariant.{pitches_in}
use Rattle.capacity.specs.Sizes.{tones}
use Rattle.part_sizing.specs.Room.{music_at, Sized}
use Rattle.part_sizing.proofs.Fits.{sheet_fits}
use Rattle.part_items.specs.Items.{after, Built}
use Rattle.abc_parts.specs.declared.Ended.{Ended}
use Rattle.abc_parts.specs.Parts.{laid_of, sheet_at, stops_at, HoldsNotes, StopsReady, PartRead, PartSung}

-- THE ITEMS ARE READ
module _ (ed : Edition) (text s : List ℕ) (n p : ℕ) (header : Key) (t : Tables) (z : Sized text s n p t) (s₁ : List ℕ) (r : Registers) (b : Built ed text t header p n s s₁ r) where
  abbrev state : LogState
  state = after ed header text s p n

  pub heads_inside : t.heads + measure_width * r.counts.heads ≤ length s₁
  heads_inside = omega (arith, b.room.for_heads, b.room.for_notes, b.room.for_pitches, b.room.for_scopes, b.room.ends)

  log_small : length state.log < 2 ^ 32
  log_small = omega (arith, b.represents.stored.notes_are, b.room.for_notes, b.room.for_pitches, b.room.for_scopes, b.room.small)

  heads_small : All Small state.heads
  heads_small = fits_small state.heads state.log (items_fit_lem ed header (items_of p (items_in text s n))) log_small

  -- and the part's end is done
  module _ (short : length text ≤ 67108864) (s₂ : List ℕ) (m : ℕ) (o : Only t.heads (t.heads + measure_width * r.counts.heads) s₁ s₂)
      (e : (heads : List Head) → Table head_row measure_width s₁ t.heads heads → length heads ≡ r.counts.heads → All Small heads → (m ≡ length (dropped heads)) × Table head_row measure_width s₂ t.heads (marked header (close none (dropped heads)))) (most : m ≤ r.counts.heads) where
    ended : (m ≡ length (dropped state.heads)) × Table head_row measure_width s₂ t.heads (marked header (close none (dropped state.heads)))
    ended = e state.heads b.represents.stored.heads_table (sym b.represents.stored.heads_are) heads_small

    abbrev tables_left : PartTables
    tables_left = record { measures = record { at = t.heads; count = m }; notes = record { at = t.notes; count = r.counts.notes }; pitches = record { at = t.pitches; count = r.counts.pitches } }

    abbrev left : Ended
    left = record { tables = tables_left; sounded = r.verses.sounded }

    behind : t.heads + measure_width * r.counts.heads ≤ t.notes
    behind = omega (arith, b.room.for_heads)

    notes_now : Table note_row note_row_width s₂ t.notes state.log
    notes_now = table_back b.represents.stored.notes_table o behind

    pitches_now : Table pitch_bytes pitch_row_width s₂ t.pitches (pitches_in state.log)
    pitches_now = subst (λ (ps : List Pitch). Table pitch_bytes pitch_row_width s₂ t.pitches ps) (append-nil (pitches_in state.log)) (table_back b.represents.stored.pitches_table o (omega (arith, behind, b.room.for_notes)))

    pitches_count : length (pitches_in state.log) ≡ r.counts.pitches
    pitches_count = ap length (sym (append-nil (pitches_in state.log))) ∙ sym b.represents.stored.pitches_are

    music_read : Represents s₂ tables_left (laid_of ed header text s n p).heads (laid_of ed header text s n p).log
    unfolding build finished finished_heads
    music_read =
        record {
          measures_table = ended.1;
          measures_are = length_end header state.heads ∙ sym ended.0;
          notes_table = notes_now;
          notes_are = sym b.represents.stored.notes_are;
          pitches_table = pitches_now;
          pitches_are = pitches_count;
          few_notes = omega (arith, b.represents.stored.notes_are, log_small);
          few_pitches = omega (arith, b.room.for_pitches, b.room.for_scopes, b.room.small);
          fits = build_fits ed header (items_of p (items_in text s n));
        }

    before_heads : table_end n ≤ t.heads
    before_heads = omega (arith, z.behind_items)

    lines_now : lines_in text s₂ p n ≡ reverse state.verses.lines
    lines_now = lines_front text s₁ s₂ p n t.heads o.front before_heads ∙ b.lines

    items_now : items_in text s₂ n ≡ items_in text s n
    items_now = items_front text s₁ s₂ n t.heads o.front before_heads ∙ b.same_items

    length_now : length s₂ ≡ length s
    length_now = o.same_length ∙ b.only.same_length

    -- no more notes are sung to than the music can make
    sounded_most : r.verses.sounded ≤ tones (music_at text s n p)
    sounded_most =
        omega (arith, b.represents.sounded_most, b.room.for_notes, ap (λ (x : Tables). x.notes) z.is, ap (λ (x : Tables). x.pitches) z.is)

    pub part_read : PartRead ed text s n p header t s₂ left
    unfolding build finished
    part_read =
        record {
          music = music_read;
          words = λ i. sung_in ed (takers_in 0 (laid_of ed header text s n p).heads (laid_of ed header text s n p).log) (sym lines_now i) (replicate (sym b.represents.sounded_is i) []);
          sung_notes_lem = items_sounded ed header (items_of p (items_in text s n)) ∙ sym b.represents.sounded_is;
          for_measures = omega (arith, behind, most);
          for_notes = omega (arith, b.room.for_notes);
          for_pitches = omega (arith, b.room.for_pitches);
          small = omega (arith, b.room.for_scopes, b.room.small);
          sheet = sheet_fits text s n p t z short s₂ items_now length_now (sheet_at t r.verses.sounded 0) refl refl sounded_most;
          same_items = items_now;
          same_length = length_now;
        }

-- WHAT THE STOPS ASK FOR
-- the measures and notes are there
holds_part : {s : List ℕ} {d : PartTables} {ms : List Head} {log : List (ℕ × Note)} → Represents s d ms log → HoldsNotes s d ms log
holds_part h =
    record { measures_table = h.measures_table; measures_are = h.measures_are; notes_table = h.notes_table; few_notes = omega (arith, h.notes_are, h.few_notes); fits = h.fits }

-- and there is room behind them
pub stops_room : (ed : Edition) (text s : List ℕ) (n p : ℕ) (header : Key) (t : Tables) (s₂ : List ℕ) (d : Ended) → PartRead ed text s n p header t s₂ d → StopsReady s₂ d.tables (stops_at t d.sounded)
stops_room ed text s n p header t s₂ d q =
    let b = laid_of ed header text s n p in
    stops_ready s₂ d.tables.measures.at d.tables.measures.count d.tables.notes.at b.heads b.log (holds_part q.music) (stops_at t d.sounded) q.sung_notes_lem
    (omega (arith, q.for_measures, q.for_notes, q.for_pitches))
    (omega (arith, q.music.notes_are, q.for_notes, q.for_pitches))
    (omega (arith, q.sheet.apart, q.sheet.inside))

-- ITS LYRICS ARE SUNG
module _ (ed : Edition) (text s : List ℕ) (n p : ℕ) (header : Key) (t : Tables) (s₂ : List ℕ) (d : Ended) (q : PartRead ed text s n p header t s₂ d) (s₃ : List ℕ) (sheet : Sheet) (at : sheet ≡ sheet_at t d.sounded sheet.count)
    (u : PartSung ed text s₂ s₃ n p t d sheet.count) where
  sung_only : Only t.scopes ((sheet_at t d.sounded sheet.count).log + lyric_row_width * sheet.count) s₂ s₃
  sung_only = record { same_length = u.outside.same_length; front = u.outside.low; back = u.outside.high }

  pub sung_items : items_in text s₃ n ≡ items_in text s n
  sung_items = items_front text s₂ s₃ n t.scopes u.outside.low q.sheet.before_heads ∙ q.same_items

  pub sung_length : length s₃ ≡ length s
  sung_length = u.outside.same_length ∙ q.same_length

  music_sung : Represents s₃ d.tables (laid_of ed header text s n p).heads (laid_of ed header text s n p).log
  music_sung =
      let h = q.music in
      record {
        measures_table = table_front h.measures_table sung_only (omega (arith, h.measures_are, q.for_measures, q.for_notes, q.for_pitches));
        measures_are = h.measures_are;
        notes_table = table_front h.notes_table sung_only (omega (arith, h.notes_are, q.for_notes, q.for_pitches));
        notes_are = h.notes_are;
        pitches_table = table_front h.pitches_table sung_only (omega (arith, h.pitches_are, q.for_pitches));
        pitches_are = h.pitches_are;
        few_notes = h.few_notes;
        few_pitches = h.few_pitches;
        fits = h.fits;
      }

  inside : t.scopes ≤ length s₃
  inside = omega (arith, u.kept.apart, u.kept.inside)

  -- the sections can be written
  pub part_stands : InStore s₃ d.tables × SheetIn s₃ sheet
  part_stands =
      let all = notes_total music_sung in
      let sounds = pitches_total music_sung in (
        record {
          measures_in = omega (arith, inside, q.for_measures, q.for_notes, q.for_pitches);
          notes_in_lem = omega (arith, inside, all, q.for_notes, q.for_pitches);
          pitches_in_lem = omega (arith, inside, sounds, q.for_pitches);
          all_notes_lem = all;
          all_pitches = sounds;
          few_measures = omega (arith, q.for_measures, q.for_notes, q.for_pitches, q.small);
          few_notes = q.music.few_notes;
          few_pitches = q.music.few_pitches;
        },
        record {
          tables = rw at (record { heads = omega (arith, u.kept.apart, u.kept.inside); log = u.kept.inside });
          few = omega (arith, u.room, q.sheet.few);
        },
      )

  -- and are the part's
  pub part_wrote : {to to' : List ℕ} {r : Option ℕ} → ((ms : List Head) (log : List (ℕ × Note)) → Represents s₃ d.tables ms log
      → WroteIs to (layout.sections (record { heads = ms; log = log; words = syllables_in text s₃ sheet })) to' r)
      → WroteIs to (Records.sections (Part.build ed header (items_of p (items_in text s n)))) to' r
  part_wrote w =
      let b = laid_of ed header text s n p in
      let words : syllables_in text s₃ sheet ≡ b.words = ap (syllables_in text s₃) at ∙ u.sung b.heads b.log (holds_part q.music) ∙ sym q.words in
      wrote_as_lem (w b.heads b.log music_sung)
      (ap (λ (ws : List (List Syllable)). layout.sections (record { heads = b.heads; log = b.log; words = ws })) words ∙ same_sections ed header (items_of p (items_in text s n)))
