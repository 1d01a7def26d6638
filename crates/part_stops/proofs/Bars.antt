-- THE MEASURES OF STOPS: the kinds of a part's notes give its measures, each by its notes that take a syllable.
use Prim.Native.Nat.{ℕ, suc, ◌+◌, ◌*◌, ◌^◌, ◌≤◌, ◌<◌}
use mathlib.Core.Path.{◌≡◌, refl, sym, ap, subst, ◌∙◌}
use mathlib.Core.Bool.{Bool, true, false, cond}
use mathlib.Core.List.{List, [], ◌∷◌, ◌++◌, append_assoc}
use native.Mathlib.Nat.{add-zero}
use native.Mathlib.Omega.{arith}
use lib.ListN.{length, take, drop, length-append, length-take, length-drop, take-append-drop}
use Rattle.laws.specs.Lists.{All, sum}
use Rattle.laws.specs.Bytes.{part}
use Rattle.laws.proofs.Bools.{by_test}
use Rattle.reader.specs.State.{Note}
use Rattle.standard.specs.Lyrics.{SungBar}
use Rattle.reader.specs.Lyrics.{bar_of, bars_from}
use Rattle.reader.specs.Records.{is_sung, measure_width}
use Rattle.lyric_stops.specs.declared.Stops.{Stops}
use Rattle.lyric_stops.specs.declared.Kind.{Kind}
use Rattle.lyric_stops.specs.Stops.{Inside, stops_in, kinds_of, with_note, left_by, Hints, StopsAre}
use Rattle.lyric_stops.proofs.Left.{whole}
use Rattle.part_layout.specs.Log.{Head, notes_in}
use Rattle.part_layout.specs.Ends.{takers, sung_notes, takers_in}
use Rattle.part_layout.proofs.Sounded.{sung_append}
use Rattle.part_rows.specs.Table.{Table}
use Rattle.part_rows.specs.Encoded.{note_row, note_row_width}
use Rattle.part_rows.specs.Read.{grace_at, sung_row}
use Rattle.part_rows.proofs.Bytes.{length_note}
use Rattle.part_rows.proofs.Tables.{only_then}
use Rattle.part_rows.proofs.Notes.{sung_is, grace_is}
use Rattle.part_rows.proofs.Cuts.{table_rest, table_take, table_drop, table_first}
use Rattle.part_measures.specs.Heads.{head_row, note_count, total}
use Rattle.part_measures.proofs.Heads.{length_head}
use Rattle.part_measures.proofs.Counts.{count_out, total_out}
use Rattle.part_stops.specs.Marks.{mark_at, begun_after, marks_in, marks_of}
use Rattle.part_stops.specs.Stops.{AllMarked, AllAimed, Ready, Holds, Stopped}
use Rattle.part_stops.proofs.Fronts.{mark_quiet, mark_grace, mark_other}

-- A NOTE that is not sung, a grace note, another
note_case {ℓ} : {P : Type ℓ} (x : ℕ × Note) → (is_sung x ≡ false → P) → (is_sung x ≡ true → x.1.flags.grace ≡ true → P) → (is_sung x ≡ true → x.1.flags.grace ≡ false → P) → P
note_case x quiet grace other = by_test (is_sung x) (λ e. by_test x.1.flags.grace (grace e) (other e)) quiet

module _ (x : ℕ × Note) (xs : List (ℕ × Note)) where
  takers_quiet : (j : ℕ) → is_sung x ≡ false → (takers j (x ∷ xs) ≡ takers j xs) × (sung_notes (x ∷ xs) ≡ sung_notes xs)
  unfolding takers sung_notes
  takers_quiet j e = (rw (e, takers), rw (e, sung_notes))

  takers_grace : (j : ℕ) → is_sung x ≡ true → x.1.flags.grace ≡ true → (takers j (x ∷ xs) ≡ takers (suc j) xs) × (sung_notes (x ∷ xs) ≡ suc (sung_notes xs))
  unfolding takers sung_notes
  takers_grace j e g = (rw (e, g, takers), rw (e, sung_notes))

  takers_other : (j : ℕ) → is_sung x ≡ true → x.1.flags.grace ≡ false → (takers j (x ∷ xs) ≡ j ∷ takers (suc j) xs) × (sung_notes (x ∷ xs) ≡ suc (sung_notes xs))
  unfolding takers sung_notes
  takers_other j e g = (rw (e, g, takers), rw (e, sung_notes))

-- ITS ROW
module _ (s : List ℕ) (p : ℕ) (x : ℕ × Note) (xs : List (ℕ × Note)) (t : Table note_row note_row_width s p (x ∷ xs)) where
  row : part s p note_row_width ≡ note_row x
  row = let place : p + note_row_width * 0 ≡ p = omega arith in ap (λ (k : ℕ). part s k note_row_width) (sym place) ∙ table_first note_row note_row_width length_note x xs t

  behind : Table note_row note_row_width s (p + note_row_width) xs
  behind = table_rest note_row note_row_width length_note (x ∷ []) xs (p + note_row_width) (omega arith) t

  sung_row_lem : sung_row s p ≡ is_sung x
  sung_row_lem = sung_is s p x row

  grace_row : grace_at s p ≡ x.1.flags.grace
  grace_row = grace_is s p x row

-- the rows of a measure, the first of which is x
rows_as : (s : List ℕ) (b c : Bool) (p k : ℕ) (m : List Kind) → (mark_at s b p ≡ m) × (begun_after s b p ≡ c) → (rest : List Kind) → marks_in s b p (suc k) ++ rest ≡ m ++ (marks_in s c (p + note_row_width) k ++ rest)
unfolding marks_in
rows_as s b c p k m e rest = (λ i. e.0 i ++ marks_in s (e.1 i) (p + note_row_width) k ++ rest) ∙ append_assoc m (marks_in s c (p + note_row_width) k) rest

-- ONE MEASURE: begun, the notes are of it; else it begins with the first that takes a syllable
rows_left : (s : List ℕ) (p : ℕ) (xs : List (ℕ × Note)) → Table note_row note_row_width s p xs → (j : ℕ) (rest : List Kind) (bs : List SungBar) → left_by (j + sung_notes xs) rest ≡ ([], bs)
    → (left_by j (marks_in s true p (length xs) ++ rest) ≡ (takers j xs, bs)) × (left_by j (marks_in s false p (length xs) ++ rest) ≡ ([], bar_of (takers j xs) ++ bs))
unfolding marks_in left_by with_note bar_of takers sung_notes
rows_left s p [] t j rest bs e = let f : left_by j rest ≡ ([], bs) = ap (λ (k : ℕ). left_by k rest) (sym (add-zero j)) ∙ e in (f, f)
rows_left s p (x ∷ xs) t j rest bs e =
    let k = length xs in
    let ih : (i : ℕ) → left_by (i + sung_notes xs) rest ≡ ([], bs) → (left_by i (marks_in s true (p + note_row_width) k ++ rest) ≡ (takers i xs, bs)) × (left_by i (marks_in s false (p + note_row_width) k ++ rest) ≡ ([], bar_of (takers i xs) ++ bs)) =
    λ i. rows_left s (p + note_row_width) xs (behind s p x xs t) i rest bs in
    let sung = sung_row_lem s p x xs t in
    let grace = grace_row s p x xs t in
    let next : sung_notes (x ∷ xs) ≡ suc (sung_notes xs) → left_by (suc j + sung_notes xs) rest ≡ ([], bs) =
    λ f. let g : suc j + sung_notes xs ≡ j + sung_notes (x ∷ xs) = omega (arith, f) in ap (λ (i : ℕ). left_by i rest) g ∙ e in
    note_case x
    (λ n.
    let f = takers_quiet x xs j n in
    let r = ih j (ap (λ (i : ℕ). left_by (j + i) rest) (sym f.1) ∙ e) in
    let m : (b : Bool) → (mark_at s b p ≡ []) × (begun_after s b p ≡ b) = λ b. mark_quiet s b p (sung ∙ n) in (
      ap (left_by j) (rows_as s true true p k [] (m true) rest) ∙ r.0 ∙ ap (λ (l : List ℕ). (l, bs)) (sym f.0),
      ap (left_by j) (rows_as s false false p k [] (m false) rest) ∙ r.1 ∙ ap (λ (l : List ℕ). ([], bar_of l ++ bs)) (sym f.0),
    ))
    (λ y g.
    let f = takers_grace x xs j y g in
    let r = ih (suc j) (next f.1) in
    let m : (b : Bool) → (mark_at s b p ≡ Kind.Passed ∷ []) × (begun_after s b p ≡ b) = λ b. mark_grace s b p (sung ∙ y) (grace ∙ g) in (
      ap (left_by j) (rows_as s true true p k (Kind.Passed ∷ []) (m true) rest) ∙ r.0 ∙ ap (λ (l : List ℕ). (l, bs)) (sym f.0),
      ap (left_by j) (rows_as s false false p k (Kind.Passed ∷ []) (m false) rest) ∙ r.1 ∙ ap (λ (l : List ℕ). ([], bar_of l ++ bs)) (sym f.0),
    ))
    (λ y g.
    let f = takers_other x xs j y g in
    let r = ih (suc j) (next f.1) in
    let m : (b : Bool) → (mark_at s b p ≡ cond b Kind.Later Kind.First ∷ []) × (begun_after s b p ≡ true) = λ b. mark_other s b p (sung ∙ y) (grace ∙ g) in (
      ap (left_by j) (rows_as s true true p k (Kind.Later ∷ []) (m true) rest) ∙ ap (with_note Kind.Later j) r.0 ∙ ap (λ (l : List ℕ). (l, bs)) (sym f.0),
      ap (left_by j) (rows_as s false true p k (Kind.First ∷ []) (m false) rest) ∙ ap (with_note Kind.First j) r.0 ∙ ap (λ (l : List ℕ). ([], bar_of l ++ bs)) (sym f.0),
    ))

-- a stop for each note that is sung
rows_length : (s : List ℕ) (b : Bool) (p : ℕ) (xs : List (ℕ × Note)) → Table note_row note_row_width s p xs → length (marks_in s b p (length xs)) ≡ sung_notes xs
unfolding marks_in sung_notes
rows_length s b p [] t = refl
rows_length s b p (x ∷ xs) t =
    let sung = sung_row_lem s p x xs t in
    let grace = grace_row s p x xs t in
    let ih : (c : Bool) → length (marks_in s c (p + note_row_width) (length xs)) ≡ sung_notes xs = λ c. rows_length s c (p + note_row_width) xs (behind s p x xs t) in
    note_case x (λ n. let m = mark_quiet s b p (sung ∙ n) in (λ i. length (m.0 i ++ marks_in s (m.1 i) (p + note_row_width) (length xs))) ∙ ih b ∙ sym (takers_quiet x xs 0 n).1)
    (λ y g. let m = mark_grace s b p (sung ∙ y) (grace ∙ g) in (λ i. length (m.0 i ++ marks_in s (m.1 i) (p + note_row_width) (length xs))) ∙ ap suc (ih b) ∙ sym (takers_grace x xs 0 y g).1)
    (λ y g. let m = mark_other s b p (sung ∙ y) (grace ∙ g) in (λ i. length (m.0 i ++ marks_in s (m.1 i) (p + note_row_width) (length xs))) ∙ ap suc (ih true) ∙ sym (takers_other x xs 0 y g).1)

-- ALL MEASURES
bars_cons : (is : List ℕ) (ms : List (List ℕ)) → bars_from 0 (is ∷ ms) ≡ bar_of is ++ bars_from 0 ms
unfolding bars_from
bars_cons is ms = ap (λ (l : List ℕ). bar_of l ++ bars_from 0 ms) (whole is)

module _ (s : List ℕ) where
  measures_left : (n h p : ℕ) (ms : List Head) (log : List (ℕ × Note)) → Table head_row measure_width s h ms → Table note_row note_row_width s p log → All (λ (m : Head). length m.counts ≡ 4) ms
      → sum notes_in ms ≡ length log → length log < 2 ^ 32 → (left_by n (marks_of s h p (length ms)) ≡ ([], bars_from 0 (takers_in n ms log))) × (length (marks_of s h p (length ms)) ≡ sung_notes log)
  unfolding marks_of takers_in left_by bars_from sung_notes
  measures_left n h p [] [] t u four e l = (refl, refl)
  measures_left n h p [] (x ∷ log) t u four e l = absurd (omega arith)
  measures_left n h p (m ∷ ms) log t u four e l =
      let k = notes_in m in
      let a = take k log in
      let z = drop k log in
      let c : note_count s h ≡ k = count_out s h m ms t four.0 (omega arith) in
      let front : length a ≡ k = length-take k log ∙ omega arith in
      let ta = table_take note_row note_row_width length_note k log u in
      let ih =
      measures_left (n + sung_notes a) (h + measure_width) (p + note_row_width * k) ms z (table_rest head_row measure_width length_head (m ∷ []) ms (h + measure_width) (omega arith) t) (table_drop note_row note_row_width length_note k log (p + note_row_width * k) (omega arith) refl u)
      four.1
      (omega (arith, length-drop k log))
      (omega (arith, length-drop k log)) in
      let rest = marks_of s (h + measure_width) (p + note_row_width * k) (length ms) in
      let bytes : marks_in s false p (note_count s h) ++ marks_of s (h + measure_width) (p + note_row_width * note_count s h) (length ms) ≡ marks_in s false p (length a) ++ rest =
      (λ i. marks_in s false p ((c ∙ sym front) i) ++ marks_of s (h + measure_width) (p + note_row_width * c i) (length ms)) in (
        ap (left_by n) bytes ∙ (rows_left s p a ta n rest (bars_from 0 (takers_in (n + sung_notes a) ms z)) ih.0).1
            ∙ ap (λ (bs : List SungBar). ([], bs)) (sym (bars_cons (takers n a) (takers_in (n + sung_notes a) ms z))),
        ap length bytes ∙ length-append (marks_in s false p (length a)) rest ∙ (λ i. rows_length s false p a ta i + ih.1 i) ∙ sym (sung_append a z) ∙ ap sung_notes (take-append-drop k log),
      )

-- THE TABLE
module _ (s : List ℕ) (h n p : ℕ) (ms : List Head) (log : List (ℕ × Note)) (x : Holds s h n p ms log) where
  all : (left_by 0 (marks_of s h p n) ≡ ([], bars_from 0 (takers_in 0 ms log))) × (length (marks_of s h p n) ≡ sung_notes log)
  all = subst (λ (k : ℕ). (left_by 0 (marks_of s h p k) ≡ ([], bars_from 0 (takers_in 0 ms log))) × (length (marks_of s h p k) ≡ sung_notes log)) x.measures_are
      (measures_left s 0 h p ms log x.measures_table x.notes_table x.fits.four_counts x.fits.all_notes_lem x.few_notes)

  pub stops_are : (s' : List ℕ) (t : Stops) → kinds_of (stops_in s' t) ≡ marks_of s h p n → Hints (stops_in s' t) → StopsAre s' t (takers_in 0 ms log)
  stops_are s' t e hints = record { hints = hints; bars = ap (left_by 0) e ∙ all.0 }

  -- there is room for it
  pub stops_ready : (t : Stops) → sung_notes log ≡ t.count → h + measure_width * n ≤ t.at → p + note_row_width * length log ≤ t.at → Inside s t → Ready s h n p t
  stops_ready t count measures notes inside =
      let f = x.fits in
      let few : total s h n ≡ length log = ap (total s h) (sym x.measures_are) ∙ total_out s h ms x.measures_table f.four_counts (omega (arith, f.all_notes_lem, x.few_notes)) ∙ f.all_notes_lem in
      record { measures_before = measures; notes_before = omega (arith, few, notes); inside = inside; all_notes_lem = all.1 ∙ count }

-- marked and aimed
pub stopped : (s s₁ s₂ : List ℕ) (h n p : ℕ) (t : Stops) → AllMarked s s₁ t (marks_of s h p n) → AllAimed s₁ s₂ t → Stopped s s₂ h n p t
stopped s s₁ s₂ h n p t x y =
    record { only = only_then x.only y.only; stops = λ ms log z. stops_are s h n p ms log z s₂ t (y.kinds ∙ x.kinds) (y.hints x.backed.over_back) }
