-- WHAT LOOKS RIGHT AND IS WRONG (document 01), and what a lazy reader would try: one computed theorem for each, over whole texts.
-- The edits of must-fail/ make these mistakes in the definitions; each is refused here or by a law.
use Prim.Native.Nat.{ℕ}
use Prim.Native.String.{String}
use mathlib.Core.Path.{◌≡◌, refl}
use mathlib.Core.List.{List, [], ◌∷◌, ◌++◌, map}
use lib.ListN.{length, get_or}
use Rattle.laws.specs.Bytes.{zeros}
use Rattle.standard.specs.Bytes.{ascii}
use Rattle.standard.specs.Pitches.{Pitch}
use Rattle.editions.specs.declared.Edition.TheVariants.{First}
use Rattle.reader.specs.State.{Note}
use Rattle.reader.specs.Part.{Part}
use Rattle.reader.specs.Records.{notes_of, pitches_of}
use Rattle.reader.specs.Answer.{Verdict, refusal, reading, Outcome, scratch_needed, parse_abc, encode, measure_count}
use Rattle.reader.specs.Tally.{tally}
use Rattle.reader.specs.All.{all}

-- the call with a reading store of n bytes, and scratch just large enough
abbrev called : String → ℕ → Outcome
called s n = parse_abc First (ascii s) n (scratch_needed (length (ascii s)))

-- the parts that were read, none where the call was refused
abbrev parts_in : Verdict → List Part
parts_in (refusal n l) = []
parts_in (reading ps) = ps

-- a text's parts
abbrev read : String → List Part
read s = parts_in (called s 4096).verdict

-- each note's value and dots, part by part
abbrev values : String → List (List (ℕ × ℕ))
values s = map (λ (p : Part). map (λ (x : ℕ × Note). (x.1.value, x.1.dots)) (notes_of p)) (read s)

-- each pitch's step and alteration (128 is none), part by part
abbrev pitches : String → List (List (ℕ × ℕ))
pitches s = map (λ (p : Part). map (λ (x : Pitch). (x.step, x.alter)) (pitches_of p)) (read s)

-- LOOK RIGHT, ARE WRONG
-- `//` is no quarter of the unit: the second slash is skipped, so A// is as long as A/
pub second_slash : values "L:1/8\nK:C\nA//B" ≡ ((6, 0) ∷ (5, 0) ∷ []) ∷ []
unfolding all
second_slash = refl

-- a pending `>` crosses a barline: B is halved
pub broken_over_bar : values "L:1/8\nK:C\nA>|B" ≡ ((5, 1) ∷ (6, 0) ∷ []) ∷ []
unfolding all
broken_over_bar = refl

-- but not a line's end
pub broken_at_line : values "L:1/8\nK:C\nA>\nB" ≡ ((5, 1) ∷ (5, 0) ∷ []) ∷ []
unfolding all
broken_at_line = refl

-- `[|` is no barline but a chord up to the next `]`: one measure, with the chord of B
pub chord_not_bar : (map measure_count (read "K:C\nA[|B]c") ≡ 1 ∷ []) × (pitches "K:C\nA[|B]c" ≡ ((5, 128) ∷ (6, 128) ∷ (0, 128) ∷ []) ∷ [])
unfolding all
chord_not_bar = (refl, refl)

-- of the voices named before K only the current one hears the header's key; one that is first named later starts with it
pub header_key_lem : pitches "V:1\nV:2\nK:D\nV:1\nF\nV:2\nF\nV:3\nF" ≡ ((3, 128) ∷ []) ∷ ((3, 129) ∷ []) ∷ ((3, 129) ∷ []) ∷ []
unfolding all
header_key_lem = refl

-- WHAT A LAZY READER WOULD TRY
-- each voice has its own part, not a copy of the first
pub own_parts : pitches "V:1\nV:2\nK:C\nV:1\nA\nV:2\nB|c" ≡ ((5, 128) ∷ []) ∷ ((6, 128) ∷ (0, 128) ∷ []) ∷ []
unfolding all
own_parts = refl

-- the tally counts what is there
pub counted : tally (read "K:C\nA z B|[CE]2\nw: la li lo") ≡ record { measures = 2; sounded = 3; rests = 1; syllables = 3 } ∷ []
unfolding all
counted = refl

-- 16 is said of a store that is one byte too short, and of no longer one
pub store_too_short : ((called "K:C\nA" 68).verdict ≡ refusal 16 0) × (map measure_count (parts_in (called "K:C\nA" 69).verdict) ≡ 1 ∷ [])
unfolding all
store_too_short = (refl, refl)

-- two tunes, two readings: the steps A and B
pub two_readings : (get_or (called "K:C\nA" 69).reading 56 0 ≡ 5) × (get_or (called "K:C\nB" 69).reading 56 0 ≡ 6)
unfolding all
two_readings = (refl, refl)

-- a tune is read, and its reading is in the store; what is left of the store, and the scratch store, are zeros
pub stores_after_reading : ((called "K:C\nA" 72).reading ≡ encode (read "K:C\nA") ++ zeros 3) × ((called "K:C\nA" 72).scratch ≡ zeros (scratch_needed 5))
unfolding all
stores_after_reading = (refl, refl)

-- after a refusal both are zeros
pub stores_after_refusal : ((called "K:C\n[0" 72).reading ≡ zeros 72) × ((called "K:C\n[0" 72).scratch ≡ zeros (scratch_needed 6))
unfolding all
stores_after_refusal = (refl, refl)

-- and a tune that nothing in it refuses is not refused
pub not_refused : length (read "X:1\nL:1/8\nK:G\nFA (3GAB|c2 z2|]\nw: one two-three\n") ≡ 1
unfolding all
not_refused = refl
