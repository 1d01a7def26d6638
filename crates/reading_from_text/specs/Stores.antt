-- EVERY READING OF `parse_abc` IS WHOLE, so that one who asks for a whole reading (document 02, T-02) may be given what the call left, for every text and both store lengths.
use Rattle.std.specs.Prelude.{ℕ, ◌≤◌, ◌≡◌, true, List, ◌++◌, leb}
use Rattle.laws.specs.Bytes.{zeros}
use Rattle.editions.specs.declared.Edition.{Edition}
use Rattle.reader.specs.Part.{Part}
use Rattle.reader.specs.Answer.{reading, encode, parse_abc}
use Rattle.reading_records.specs.Widths.{first_part}
use Rattle.reading_whole.specs.Whole.{is_whole}

-- a reading with k zeros behind it
abbrev pub CutWhole : Edition → Type 0
CutWhole ed = (text : List ℕ) (rl sl : ℕ) (ps : List Part) → (parse_abc ed text rl sl).verdict ≡ reading ps → (k : ℕ) → is_whole (encode ps ++ zeros k) ≡ true

-- so the reading alone
abbrev pub EncodedWhole : Edition → Type 0
EncodedWhole ed = (text : List ℕ) (rl sl : ℕ) (ps : List Part) → (parse_abc ed text rl sl).verdict ≡ reading ps → is_whole (encode ps) ≡ true

-- and as it stands in its store
abbrev pub ReadingWhole : Edition → Type 0
ReadingWhole ed = (text : List ℕ) (rl sl : ℕ) (ps : List Part) → (parse_abc ed text rl sl).verdict ≡ reading ps → is_whole (parse_abc ed text rl sl).reading ≡ true

-- zeros, as a refusal leaves them, are a whole reading of no parts where the count of parts has room
abbrev pub ZerosWhole : Type 0
ZerosWhole = (rl : ℕ) → is_whole (zeros rl) ≡ leb first_part rl

-- so every store where it has
abbrev pub StoreWhole : Edition → Type 0
StoreWhole ed = (text : List ℕ) (rl sl : ℕ) → first_part ≤ rl → is_whole (parse_abc ed text rl sl).reading ≡ true
