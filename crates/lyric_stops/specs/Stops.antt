-- THE STOPS OF A PART, for lyric lines of the second edition: of each note of voice 0 that is no rest three bytes, whether it takes a syllable, and how far a
-- walk goes from it at once. So a word costs a few steps, however many grace notes or notes of a measure it passes over.
use Rattle.std.specs.Prelude.{ℕ, zero, suc, ◌+◌, ◌*◌, ◌/◌, ◌%◌, ◌≤◌, ◌<◌, max, ◌≡◌, Bool, true, false, cond, List, [], ◌∷◌, ◌++◌, map, eqb, length, get_or, drop}
use Rattle.std.proofs.Math.Option.{Option, none, some}
use Rattle.laws.specs.Bytes.{rows, le16, u16_at}
use Rattle.standard.specs.Lyrics.{SungBar}
use Rattle.reader.specs.Lyrics.{bars_from}
use Rattle.bounds.specs.Weights as bounds
use Rattle.lyric_stops.specs.declared.Kind.{Kind}
use Rattle.lyric_stops.specs.declared.Stop.{Stop}
use Rattle.lyric_stops.specs.declared.Stops.{Stops}

-- the bytes of a stop
abbrev pub lyric_stop_width : ℕ
lyric_stop_width = bounds.lyric_stop_width

-- where its last byte stands: the kind, and six bits of the distance
abbrev pub top_at : ℕ
top_at = 2

-- THE TWO BITS OF A KIND; 3, which none has, is read as a later note's
abbrev pub bits_of : Kind → ℕ
bits_of Kind.Passed = 0
bits_of Kind.Later = 1
bits_of Kind.First = 2

abbrev pub kind_of : ℕ → Kind
kind_of n = cond (eqb n 0) Kind.Passed (cond (eqb n 2) Kind.First Kind.Later)

-- a note that takes no syllable; the first of its measure that takes one
abbrev pub is_passed : Kind → Bool
is_passed Kind.Passed = true
is_passed Kind.Later = false
is_passed Kind.First = false

abbrev pub is_first : Kind → Bool
is_first Kind.Passed = false
is_first Kind.Later = false
is_first Kind.First = true

-- a distance has 22 bits; one beyond is kept as the greatest
abbrev pub farthest : ℕ
farthest = 4194303

-- A STOP'S BYTES
unfoldable pub stop_bytes : Kind → ℕ → List ℕ
stop_bytes kind distance = le16 (distance % 65536) ++ ((bits_of kind * 64 + distance / 65536) ∷ [])

-- the stop that they spell; a distance of 0 counts as 1
unfoldable pub stop_of : List ℕ → Stop
stop_of b = record { kind = kind_of (get_or b top_at 0 / 64); distance = max 1 (u16_at b 0 + get_or b top_at 0 % 64 * 65536) }

-- a table of them lies within the store
abbrev pub Inside : List ℕ → Stops → Type 0
Inside s t = t.at + lyric_stop_width * t.count ≤ length s

unfoldable pub stops_in : List ℕ → Stops → List Stop
stops_in s t = rows stop_of lyric_stop_width s t.at t.count

-- what stands behind the last
abbrev pub no_stop : Stop
no_stop = record { kind = Kind.First; distance = 1 }

abbrev pub kind_at : List Stop → ℕ → Kind
kind_at xs j = (get_or xs j no_stop).kind

abbrev pub distance_at : List Stop → ℕ → ℕ
distance_at xs j = (get_or xs j no_stop).distance

abbrev pub kinds_of : List Stop → List Kind
kinds_of xs = map (λ (x : Stop). x.kind) xs

-- WHAT THE KINDS SAY: what is left of a measure, and the measures behind it
abbrev pub Left : Type 0
Left = List ℕ × List SungBar

-- note j before them
unfoldable pub with_note : Kind → ℕ → Left → Left
with_note Kind.Passed j l = l
with_note Kind.Later j l = (j ∷ l.0, l.1)
with_note Kind.First j l = ([], (j, l.0) ∷ l.1)

-- notes from j on, by their kinds
unfoldable pub left_by : ℕ → List Kind → Left
left_by j [] = ([], [])
left_by j (k ∷ ks) = with_note k j (left_by (suc j) ks)

-- all notes from j on
abbrev pub left_from : List Stop → ℕ → Left
left_from xs j = left_by j (kinds_of (drop j xs))

-- the note at a place, from 1, is there and takes no syllable
unfoldable pub passed_place : List Stop → ℕ → Bool
passed_place xs zero = false
passed_place xs (suc j) = is_passed (kind_at xs j)

-- the last note before note j that takes a syllable, by its place from 1; 0 where there is none
unfoldable pub back_of : List Stop → ℕ → ℕ
back_of xs zero = 0
back_of xs (suc j) = elim (passed_place xs (suc j)) [ true ↦ back_of xs j | false ↦ suc j ]

-- the note at a place, from 1; none at 0
unfoldable pub note_at : ℕ → Option ℕ
note_at zero = none
note_at (suc j) = some j

-- WHAT DISTANCES MUST NOT PASS OVER: from a note that takes no syllable forward no note that takes one; from one that is not the first of its measure no first;
-- from a first backward no note that takes one
pub record Hints (xs : List Stop) : Type 0 where
  pub over_passed : (j k : ℕ) → kind_at xs j ≡ Kind.Passed → j ≤ k → k < j + distance_at xs j → kind_at xs k ≡ Kind.Passed
  pub over_later : (j k : ℕ) → (kind_at xs j ≡ Kind.First → ⊥) → j ≤ k → k < j + distance_at xs j → kind_at xs k ≡ Kind.First → ⊥
  pub over_back : (j k : ℕ) → kind_at xs j ≡ Kind.First → j < k + distance_at xs j → k < j → kind_at xs k ≡ Kind.Passed

-- THE TABLE IS THAT OF MEASURES, each given by its notes that take a syllable
pub record StopsAre (s : List ℕ) (t : Stops) (ms : List (List ℕ)) : Type 0 where
  pub hints : Hints (stops_in s t)
  pub bars : left_from (stops_in s t) 0 ≡ ([], bars_from 0 ms)
