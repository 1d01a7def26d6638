-- CLOSING ENDINGS (part_layout's `close`) one measure at a time, and what the code keeps meanwhile.
use Rattle.std.specs.Prelude.{ℕ, ◌+◌, ◌<◌, ◌^◌, ◌≡◌, true, false, List, ◌∷◌, ◌++◌, length, get_or}
use Rattle.std.specs.Prelude as code
use Rattle.std.specs.Prelude.{None, Some}
use Rattle.std.proofs.Math.Option.{Option, none, some}
use Rattle.laws.specs.Bytes.{le32}
use Rattle.reader.specs.State.{volta_ends, volta_alone}
use Rattle.reader.specs.Records.{pass_bits, measure_width}
use Rattle.part_layout.specs.Log.{Head, with_volta}
use Rattle.part_layout.specs.Ends.{starts, ends_at}
use Rattle.part_rows.specs.Table.{Table}
use Rattle.part_measures.specs.Heads.{head_row}
use Rattle.part_ends.specs.declared.Span.{Span}

-- four counts that fit four bytes each
pub record Small (m : Head) : Type 0 where
  pub four : length m.counts ≡ 4
  pub small : (v : ℕ) → v < 4 → get_or m.counts v 0 < 2 ^ 32

-- row i of n is m, behind a and before b
pub record Stands (s : List ℕ) (at n i : ℕ) (a : List Head) (m : Head) (b : List Head) : Type 0 where
  pub table : Table head_row measure_width s at (a ++ (m ∷ b))
  pub here : length a ≡ i
  pub all : length a + (length b + 1) ≡ n

-- the ending that is open before a measure, as the code keeps it
abbrev pub SpanIs : code.Option Span → Option (List ℕ) → Type 0
SpanIs None none = Unit {0}
SpanIs None (some ps) = ⊥
SpanIs (Some r) none = ⊥
SpanIs (Some r) (some ps) = (r.first ≡ get_or ps 0 0) × (le32 r.passes ≡ le32 (pass_bits ps))

-- measure m, before ms, once it is closed
unfoldable pub closed_head : Option (List ℕ) → Head → List Head → Head
closed_head none m ms = elim (starts m) [ true ↦ elim (ends_at m ms) [ true ↦ with_volta volta_alone m.passes m | false ↦ m ] | false ↦ m ]
closed_head (some ps) m ms = elim (ends_at m ms) [ true ↦ with_volta volta_ends ps m | false ↦ m ]

-- the ending that is open behind it
unfoldable pub span_after : Option (List ℕ) → Head → List Head → Option (List ℕ)
span_after none m ms = elim (starts m) [ true ↦ elim (ends_at m ms) [ true ↦ none | false ↦ some m.passes ] | false ↦ none ]
span_after (some ps) m ms = elim (ends_at m ms) [ true ↦ none | false ↦ some ps ]
