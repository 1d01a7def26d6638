-- EVERY NOTE IS BILLED OR LEFT OUT, ONCE (document 02, T-07): "The sum of all parts' sounded notes and of the notes left out must be the number of notes that are no rests." Of every
-- list of parts, so of every reading.
use Prim.Native.Nat.{ℕ, ◌+◌}
use mathlib.Core.Path.{◌≡◌, refl, sym}
use mathlib.Core.List.{List, [], ◌∷◌}
use native.Mathlib.Omega.{arith}
use Rattle.laws.specs.Lists.{sum}
use Rattle.laws.proofs.Lists.{filter_split}
use Rattle.standard.specs.Notes.{is_sounded}
use Rattle.reader.specs.State.{Note}
use Rattle.reader.specs.Part.{Part}
use Rattle.reader.specs.Records.{notes_of}
use Rattle.reader.specs.Tally.{is_billed, is_held, notes_that, left_out, no_rests}

-- of a part
pub part_once : (p : Part) → notes_that is_billed p + left_out p ≡ no_rests p
unfolding left_out no_rests is_billed is_held
part_once p = sym (filter_split (λ (x : ℕ × Note). is_sounded x.1.kind) (λ (x : ℕ × Note). x.1.flags.tie_end) (notes_of p))

-- of all parts
pub billed_once : (ps : List Part) → sum (notes_that is_billed) ps + sum left_out ps ≡ sum no_rests ps
billed_once [] = refl
billed_once (p ∷ ps) = omega (arith, part_once p, billed_once ps)
