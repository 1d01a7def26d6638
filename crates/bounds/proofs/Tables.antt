-- WHAT A SCRATCH STORE MUST HOLD: each count of a part by its lines' bytes, and the tables of the line table and any one part by the text's bytes.
-- The weights stand in specs/Weights.
use Prim.Native.Nat.{ℕ, ◌+◌, ◌-◌, ◌*◌, ◌≤◌, zero-le}
use mathlib.Core.Path.{◌≡◌, refl, ap, subst}
use mathlib.Core.List.{List, [], ◌∷◌, ◌++◌}
use native.Mathlib.Nat.{mul-add}
use native.Mathlib.Omega.{arith}
use lib.Dec.{eqb, lit≤}
use lib.ListN.{length}
use Rattle.laws.specs.Lists.{foldl, sum}
use Rattle.laws.proofs.Bools.{by_test}
use Rattle.laws.proofs.Lists.{sum_append, sum_mul}
use Rattle.standard.specs.Keys.{Key}
use Rattle.standard.specs.Fields.{Meter}
use Rattle.editions.specs.declared.Edition.{Edition}
use Rattle.reader.specs.Text.{text_lines}
use Rattle.reader.specs.Token.{Token}
use Rattle.reader.specs.Tokens.{tokens}
use Rattle.reader.specs.Steps.{on, items_of}
use Rattle.reader.specs.Scan.{Item, music_line, ScanState, begin, scan, Items}
use Rattle.reader.specs.State.{new_part}
use Rattle.reader.specs.Part.{on_token, line_begins, on_item, build}
use Rattle.reader.specs.Answer.{scratch_needed}
use Rattle.reader.specs.Records.{notes_of, pitches_of, lyrics, lyric_text}
use Rattle.bounds.specs.Weights.{Weights, Covered, table_weights, item_row_width, item_weight, scope_index_width, scratch_per_byte, scratch_per_line_feed, note_weights, pitch_weights, accidental_weights, measure_weights, syllable_weights, text_weights, state_weight, scopes_weight, token_weight, music_bytes, lyric_bytes, item_bytes}
use Rattle.bounds.proofs.TokenWeights.{line_covered}
use Rattle.bounds.proofs.PartWeights.{tokens_step, begins_step, reading_weight, items_covered}
use Rattle.bounds.proofs.Counts.{music_bound, lyric_bound, bytes_sum}
use Rattle.bounds.proofs.LineWeights.{rows_length, rows_fed}
use Rattle.bounds.proofs.ScanWeights.{Holds, Enough, total, Budget, lines_budget}

-- EACH COUNT OF A PART
-- notes: one for each byte of its music lines
pub notes_most : (ed : Edition) (header : Key) (is : List Item) → length (notes_of (build ed header is)) ≤ sum music_bytes is
notes_most ed header is = omega (arith, music_bound ed note_weights (record { notes = lit≤ tt; measures = lit≤ tt; accidentals = lit≤ tt; syllables = lit≤ tt }) header is)

-- pitches: one for each byte
pub pitches_most : (ed : Edition) (header : Key) (is : List Item) → length (pitches_of (build ed header is)) ≤ sum music_bytes is
pitches_most ed header is = omega (arith, music_bound ed pitch_weights (record { notes = lit≤ tt; measures = lit≤ tt; accidentals = lit≤ tt; syllables = lit≤ tt }) header is)

-- measures: one for each two bytes, and the first
pub measures_most : (ed : Edition) (header : Key) (is : List Item) → 2 * length (build ed header is).measures ≤ 2 + sum music_bytes is
measures_most ed header is = omega (arith, music_bound ed measure_weights (record { notes = lit≤ tt; measures = lit≤ tt; accidentals = lit≤ tt; syllables = lit≤ tt }) header is)

-- syllables: one for each byte of its lyric lines
pub syllables_most : (ed : Edition) (header : Key) (is : List Item) → length (lyrics (build ed header is)) ≤ sum lyric_bytes is
syllables_most ed header is = omega (arith, lyric_bound ed syllable_weights (record { notes = lit≤ tt; measures = lit≤ tt; accidentals = lit≤ tt; syllables = lit≤ tt }) header is)

-- lyric text: a byte for each
pub text_most : (ed : Edition) (header : Key) (is : List Item) → length (lyric_text (build ed header is)) ≤ sum lyric_bytes is
text_most ed header is = omega (arith, lyric_bound ed text_weights (record { notes = lit≤ tt; measures = lit≤ tt; accidentals = lit≤ tt; syllables = lit≤ tt }) header is)

-- accidentals in force, after any items: one for each byte
pub accidentals_most : (ed : Edition) (header : Key) (is : List Item) → sum length (foldl (on_item ed header) new_part is).scopes ≤ sum music_bytes is
unfolding state_weight scopes_weight
accidentals_most ed header is =
    let s = foldl (on_item ed header) new_part is in
    omega (arith, reading_weight ed accidental_weights (record { notes = lit≤ tt; measures = lit≤ tt; accidentals = lit≤ tt; syllables = lit≤ tt }) header is, sum_mul 1 length s.scopes)

-- WHILE A PART IS READ
module _ (ed : Edition) (p : Weights) (enough : Covered p) where
  -- in a line, after any of its tokens: what came before, and the line's bytes
  pub within_line : (header : Key) (is : List Item) (u : ℕ) (m : Meter) (l : List ℕ) (ts us : List Token) → tokens ed 0 l ≡ ts ++ us
      → state_weight p (foldl on_token (line_begins u m (foldl (on_item ed header) new_part is)) ts) ≤ p.measure + p.byte * (sum music_bytes is + length l)
  within_line header is u m l ts us e =
      let s = foldl (on_item ed header) new_part is in
      omega (arith, tokens_step ed p enough ts (line_begins u m s), begins_step ed p enough u m s, items_covered ed p enough header is, line_covered ed p enough l, ap (sum (token_weight p)) e, sum_append (token_weight p) ts us, mul-add p.byte (sum music_bytes is) (length l))

-- ALL ITEMS
item_covered : (ed : Edition) → Enough ed 2 0 1 1 0
item_covered ed = record { bytes = lit≤ tt; lines = lit≤ tt; feed = lit≤ tt; voices = lit≤ tt }

-- two for each item
count_total : (ed : Edition) (a : Items) → total ed 2 0 1 1 0 a ≡ 2 * length a
count_total ed [] = refl
count_total ed (x ∷ a) = omega (arith, count_total ed a)

-- items: one for each two bytes of the text, and one that has no line feed
pub items_most : (ed : Edition) (text : List ℕ) (t : ScanState) (a : Items) → scan ed (text_lines text) ≡ on t a → 2 * length a ≤ length text + 1
unfolding scan Holds
items_most ed text t a e =
    let h : Budget ed 2 0 1 1 0 begin (sum length (text_lines text)) t a = subst (Holds (Budget ed 2 0 1 1 0 begin (sum length (text_lines text)))) e (lines_budget ed 2 0 1 1 0 (item_covered ed) (text_lines text) (rows_fed text) begin) in
    omega (arith, h, count_total ed a, rows_length text)

-- the lines of one part, among all
mine_bytes : (q : ℕ) (a : Items) → sum item_bytes (items_of q a) ≤ sum (λ (x : ℕ × Item). item_bytes x.1) a
mine_bytes q [] = zero-le
mine_bytes q (x ∷ a) = by_test (eqb x.0 q) (λ e. rw e (omega (arith, mine_bytes q a))) (λ e. rw e (omega (arith, mine_bytes q a)))

-- THE LINE TABLES AND THE TABLES OF ANY ONE PART: 32 bytes for each byte of the text, the part's first measure, and one line feed
table_enough : (ed : Edition) → Enough ed item_weight table_weights.byte scratch_per_byte scratch_per_line_feed 0
table_enough ed = record { bytes = lit≤ tt; lines = lit≤ tt; feed = lit≤ tt; voices = lit≤ tt }

-- the tables' weights are covered
table_covered : Covered table_weights
table_covered = record { notes = lit≤ tt; measures = lit≤ tt; accidentals = lit≤ tt; syllables = lit≤ tt }

-- rows, and bytes
table_total : (ed : Edition) (a : Items) → total ed item_weight table_weights.byte scratch_per_byte scratch_per_line_feed 0 a ≡ item_weight * length a + table_weights.byte * sum (λ (x : ℕ × Item). item_bytes x.1) a
table_total ed [] = refl
table_total ed (x ∷ a) = omega (arith, table_total ed a)

-- the rows of both line tables and all lines' bytes at the tables' weight
pub lines_most : (ed : Edition) (text : List ℕ) (t : ScanState) (a : Items) → scan ed (text_lines text) ≡ on t a
    → item_weight * length a + table_weights.byte * sum (λ (x : ℕ × Item). item_bytes x.1) a ≤ scratch_per_byte * length text + scratch_per_line_feed
unfolding scan Holds
lines_most ed text t a e =
    let n = sum length (text_lines text) in
    let h : Budget ed item_weight table_weights.byte scratch_per_byte scratch_per_line_feed 0 begin n t a = subst (Holds (Budget ed item_weight table_weights.byte scratch_per_byte scratch_per_line_feed 0 begin n)) e (lines_budget ed item_weight table_weights.byte scratch_per_byte scratch_per_line_feed 0 (table_enough ed) (text_lines text) (rows_fed text) begin) in
    omega (arith, h, table_total ed a, rows_length text)

-- ROOM for the tables of any one part, behind the line table and the part's own
pub part_room : (ed : Edition) (text : List ℕ) (t : ScanState) (a : Items) (q : ℕ) → scan ed (text_lines text) ≡ on t a
    → (256 + item_row_width * length a) + (256 + item_row_width * length a) + scope_index_width + table_weights.measure + table_weights.byte * sum item_bytes (items_of q a) ≤ scratch_needed (length text)
unfolding scratch_needed
part_room ed text t a q e = omega (arith, lines_most ed text t a e, mine_bytes q a)

-- with a part's tables when it is finished
pub tables_most : (ed : Edition) (text : List ℕ) (t : ScanState) (a : Items) (q : ℕ) (header : Key) → scan ed (text_lines text) ≡ on t a
    → item_weight * length a + table_weights.measure * length (build ed header (items_of q a)).measures + table_weights.note * length (notes_of (build ed header (items_of q a))) + table_weights.pitch * length (pitches_of (build ed header (items_of q a))) + table_weights.syllable * length (lyrics (build ed header (items_of q a)))
    ≤ scratch_per_byte * length text + scratch_per_line_feed + table_weights.measure
tables_most ed text t a q header e =
    let is = items_of q a in
    omega (arith, lines_most ed text t a e, mine_bytes q a, bytes_sum is, music_bound ed table_weights table_covered header is, lyric_bound ed table_weights table_covered header is)

-- and at any token of any line of it: its measures, notes, pitches and accidentals in force, and a row for each syllable to come
pub tables_within : (ed : Edition) (text : List ℕ) (t : ScanState) (a : Items) (q : ℕ) (header : Key) → scan ed (text_lines text) ≡ on t a
    → (is js : List Item) (u : ℕ) (m : Meter) (l : List ℕ) (ts us : List Token) → items_of q a ≡ is ++ (music_line u m l ∷ js) → tokens ed 0 l ≡ ts ++ us
    → item_weight * length a + state_weight table_weights (foldl on_token (line_begins u m (foldl (on_item ed header) new_part is)) ts) + table_weights.syllable * length (lyrics (build ed header (items_of q a)))
    ≤ scratch_per_byte * length text + scratch_per_line_feed + table_weights.measure
unfolding music_bytes
tables_within ed text t a q header e is js u m l ts us f g =
    let b = sum_append music_bytes is (music_line u m l ∷ js) in
    omega (arith, lines_most ed text t a e, mine_bytes q a, bytes_sum (items_of q a), ap (sum music_bytes) f, b, within_line ed table_weights table_covered header is u m l ts us g, lyric_bound ed table_weights table_covered header (items_of q a))
