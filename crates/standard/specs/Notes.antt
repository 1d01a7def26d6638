-- RESTS (ABC 2.1, 4.5), BEAMS (4.7), TIES AND SLURS (4.11), GRACE NOTES (4.12), VOICE OVERLAY (7.4).
use Rattle.std.specs.Prelude.{ℕ, zero, suc, min, Bool, true, false, ◌&&◌, List, [], ◌∷◌, leb}

-- 4.5: a note or chord; `z` a rest, `x` an invisible one; `Z` and `X` the same for a whole bar
pub data NoteKind : Type 0 where
  sounded rest invisible_rest bar_rest invisible_bar_rest : NoteKind

unfoldable pub is_sounded : NoteKind → Bool
is_sounded sounded = true
is_sounded rest = false
is_sounded invisible_rest = false
is_sounded bar_rest = false
is_sounded invisible_bar_rest = false

-- 4.7: notes that stand together are joined by a beam
pub data Beam : Type 0 where
  unbeamed begins continues ends : Beam

-- 4.7: from an eighth (value 5) to a 128th (9) a note can be beamed; a rest cannot
unfoldable pub beamable : NoteKind → ℕ → Bool
beamable k value = is_sounded k && leb 5 value && leb value 9

-- 4.7: the beams of n notes that stand together: a single note has none
unfoldable pub beams : ℕ → List Beam
beams zero = []
beams (suc zero) = unbeamed ∷ []
beams (suc (suc n)) = begins ∷ inside n
  where
    inside : ℕ → List Beam
    inside zero = ends ∷ []
    inside (suc k) = continues ∷ inside k

-- 4.11, 4.12: a note's flags
pub record Flags : Type 0 where
  pub tie_start : Bool
  pub tie_end : Bool
  pub slur_start : Bool
  pub slur_end : Bool
  pub grace : Bool

-- right behind a note: `-` ties it to the next, `)` ends a slur; and the bytes that these take
pub record Behind : Type 0 where
  pub tie : Bool
  pub slur : Bool
  pub used : ℕ

-- what waits for the next note: the end of a tie, a slur opened by `(`; and whether a grace brace is open
pub record Pending : Type 0 where
  pub tie : Bool
  pub slur : Bool
  pub grace : Bool

abbrev pub nothing_pending : Pending
nothing_pending = record { tie = false; slur = false; grace = false }

-- the flags of a note
unfoldable pub flags_of : Pending → Behind → Flags
flags_of p b = record { tie_start = b.tie; tie_end = p.tie; slur_start = p.slur; slur_end = b.slur; grace = p.grace }

-- what waits after it
unfoldable pub pending_after : Pending → Behind → Pending
pending_after p b = record { tie = b.tie; slur = false; grace = p.grace }

-- 4.11: `(`; 4.12: `{` and `}`
unfoldable pub slur_opens : Pending → Pending
slur_opens p = record { tie = p.tie; slur = true; grace = p.grace }

unfoldable pub grace_opens : Pending → Pending
grace_opens p = record { tie = p.tie; slur = p.slur; grace = true }

unfoldable pub grace_closes : Pending → Pending
grace_closes p = record { tie = p.tie; slur = p.slur; grace = false }

-- 7.4: `&` goes to the measure's next voice; four voices at most (document 01)
unfoldable pub next_voice : ℕ → ℕ
next_voice o = min 3 (suc o)
