-- After the scan: what the second half leaves is what the definition has.
use Prim.Native.Nat.{ℕ, max}
use mathlib.Core.Path.{◌≡◌, sym, ap, subst, ◌∙◌}
use mathlib.Core.Bool.{true, false, cond}
use mathlib.Core.List.{List}
use lib.Dec.{leb}
use lib.ListN.{length}
use Rattle.laws.specs.Lists.{sum}
use Rattle.laws.specs.Bytes.{zeros}
use Rattle.laws.proofs.Bools.{by_test}
use Rattle.editions.specs.declared.Edition.{Edition}
use Rattle.reader.specs.Text.{text_lines}
use Rattle.reader.specs.Steps.{items_of}
use Rattle.reader.specs.Scan.{Items, scan}
use Rattle.reader.specs.Part.{Part}
use Rattle.reader.specs.Answer.{refused_with, parts, encode, measure_count, written, ended, finish, scanned, answer_of}
use Rattle.std.specs.Prelude.{Option, Result}
use Rattle.refusals.specs.declared.Refused.{Refused}
use Rattle.store_sections.specs.Writes.{Filled}
use Rattle.scan_table.specs.Rows.{items_in}
use Rattle.scan_table.proofs.Rows.{length_voices}
use Rattle.field_keys.specs.Passed.{key_as}
use Rattle.scan.specs.declared.Shared.{Shared}
use Rattle.scan.specs.Scanned.{Done}
use Rattle.abc_answers.specs.Parts.{bytes_of}
use Rattle.abc_answers.proofs.Owners.{items_owned}
use Rattle.abc_answers.proofs.Whole.{encode_same, measures_told}
use Rattle.reading_answers.specs.Answers.{answer_as}
use Rattle.abc_text.specs.Answers.{wrote_as, Parsed}

-- parts that are written, or have no room
filled_parsed : (ps : List Part) (rl sl : ℕ) (w : Option ℕ) (reading scratch : List ℕ) → Filled (encode ps) rl w reading → scratch ≡ zeros sl
    → Parsed (cond (leb (length (encode ps)) rl) (written ps rl sl) (refused_with 16 0 rl sl)) (wrote_as w) reading scratch
unfolding written refused_with answer_of
filled_parsed ps rl sl w reading scratch f z =
    by_test (leb (length (encode ps)) rl)
    (λ t. rw t (record { answer = ap (λ (v : Option ℕ). answer_as (wrote_as v)) f.answer ∙ rw t; reading_is = f.store ∙ rw t; scratch_is = z }))
    (λ t. rw t (record { answer = ap (λ (v : Option ℕ). answer_as (wrote_as v)) f.answer ∙ rw t; reading_is = f.store ∙ rw t; scratch_is = z }))

-- with a measure, or without
ended_written : (ps : List Part) (rl sl : ℕ) (w : Option ℕ) (reading scratch : List ℕ) → leb 1 (sum measure_count ps) ≡ true → Filled (encode ps) rl w reading → scratch ≡ zeros sl
    → Parsed (ended ps rl sl) (wrote_as w) reading scratch
unfolding ended
ended_written ps rl sl w reading scratch m f z = rw m (filled_parsed ps rl sl w reading scratch f z)

ended_silent : (ps : List Part) (rl sl : ℕ) (r : Result ℕ Refused) (reading scratch : List ℕ) → leb 1 (sum measure_count ps) ≡ false → Parsed (refused_with 1 0 rl sl) r reading scratch
    → Parsed (ended ps rl sl) r reading scratch
unfolding ended
ended_silent ps rl sl r reading scratch m p = rw m p

module _ (ed : Edition) (text s : List ℕ) (h : Shared) (d : Done ed text s h) where
  items : Items
  items = items_in text s h.items

  -- the parts of the definition
  all_parts : List Part
  all_parts = parts ed d.state.env (λ p. items_of p items) (max 1 (length d.state.env.voices)) 0

  after : (rl sl : ℕ) → scanned ed rl sl (scan ed (text_lines text)) ≡ ended all_parts rl sl
  unfolding scanned finish all_parts items
  after rl sl = ap (scanned ed rl sl) d.scanned

  -- whether there is a measure
  measures : leb 1 (sum measure_count all_parts) ≡ h.music
  unfolding all_parts items
  measures =
      measures_told ed d.state.env (items_in text s h.items) (max 1 (length d.state.env.voices)) (items_owned ed (text_lines text) d.state (items_in text s h.items) d.scanned)
      ∙ sym d.music

  -- their bytes
  count : max 1 (length d.state.env.voices) ≡ max 1 h.voices
  count = ap (λ (vs : List (List ℕ)). max 1 (length vs)) d.voices ∙ ap (max 1) (length_voices text s h.voices)

  bytes : encode all_parts ≡ bytes_of ed (key_as h.key) (items_in text s h.items) (max 1 h.voices)
  unfolding all_parts items
  bytes =
      encode_same ed d.state.env (items_in text s h.items) (max 1 (length d.state.env.voices))
      ∙ (λ i. bytes_of ed (d.key i) (items_in text s h.items) (count i))

  -- NO MEASURE
  pub silent_parsed : (rl sl : ℕ) (r : Result ℕ Refused) (reading scratch : List ℕ) → h.music ≡ false → Parsed (refused_with 1 0 rl sl) r reading scratch
      → Parsed (scanned ed rl sl (scan ed (text_lines text))) r reading scratch
  silent_parsed rl sl r reading scratch m p = rw (after rl sl) (ended_silent all_parts rl sl r reading scratch (measures ∙ m) p)

  -- A MEASURE: the parts are written, and the rest is cleared
  pub written_parsed : (rl sl : ℕ) (w : Option ℕ) (reading scratch : List ℕ) → h.music ≡ true
      → Filled (bytes_of ed (key_as h.key) (items_in text s h.items) (max 1 h.voices)) rl w reading → scratch ≡ zeros sl
      → Parsed (scanned ed rl sl (scan ed (text_lines text))) (wrote_as w) reading scratch
  written_parsed rl sl w reading scratch m f z =
      rw (after rl sl) (ended_written all_parts rl sl w reading scratch (measures ∙ m) (subst (λ (bs : List ℕ). Filled bs rl w reading) (sym bytes) f) z)
