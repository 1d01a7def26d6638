-- A READING'S BYTES as they are written: the count of parts, then part after part, each from its own items.
use Rattle.std.specs.Prelude.{ℕ, zero, suc, Bool, List, [], ◌++◌}
use Rattle.laws.specs.Lists.{any}
use Rattle.laws.specs.Bytes.{le32}
use Rattle.standard.specs.Keys.{Key}
use Rattle.editions.specs.declared.Edition.{Edition}
use Rattle.reader.specs.Steps.{items_of}
use Rattle.reader.specs.Scan.{Item, Items}
use Rattle.reader.specs.Part.{build}
use Rattle.reader.specs.Records.{sections}
use Rattle.reader.specs.Answer.{is_music}

-- the sections of the parts 0 up to n of the items a, with the header's key k
unfoldable pub parts_of : Edition → Key → Items → ℕ → List ℕ
parts_of ed k a zero = []
parts_of ed k a (suc n) = parts_of ed k a n ++ sections (build ed k (items_of n a))

-- behind their count
unfoldable pub bytes_of : Edition → Key → Items → ℕ → List ℕ
bytes_of ed k a n = le32 n ++ parts_of ed k a n

-- some item is of a music line
abbrev pub has_music : Items → Bool
has_music a = any (λ (x : ℕ × Item). is_music x.1) a
