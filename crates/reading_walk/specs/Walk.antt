-- THE TUNE AS IT IS PLAYED (document 02, T-02): the measures of one part in the order in which a player walks them. Places count from 0, the list's numbers from 1.
use Rattle.std.specs.Prelude.{ℕ, zero, suc, ◌+◌, ◌-◌, ◌*◌, ◌/◌, ◌%◌, ◌^◌, max, Bool, true, false, cond, not, ◌&&◌, ◌||◌, List, [], ◌∷◌, ◌++◌, eqb, ltb, length, drop}
use Rattle.std.proofs.Math.Option.{Option, none, some}
use Rattle.std.proofs.Math.ListN.{get_elem?}

-- a measure as the player sees it: its barlines, and the passes of the volta span that it lies in, if it lies in one
pub record Bar : Type 0 where
  pub left : ℕ
  pub right : ℕ
  pub span : Option ℕ

-- where the player stands: before which measure, in which section and pass, and whether by going forward
pub record Place : Type 0 where
  pub at : ℕ
  pub section : ℕ
  pub pass : ℕ
  pub forward : Bool

-- "left barline 1 or 3", "right barline 2 or 3"
unfoldable pub opens : ℕ → Bool
opens l = eqb l 1 || eqb l 3

unfoldable pub closes : ℕ → Bool
closes r = eqb r 2 || eqb r 3

-- "bit p−1 for pass p"
unfoldable pub has_pass : ℕ → ℕ → Bool
has_pass ps p = eqb (ps / 2 ^ (p - 1) % 2) 1

-- the greatest pass up to k; 0 if there is none
unfoldable pub greatest : ℕ → ℕ → ℕ
greatest zero ps = 0
greatest (suc k) ps = cond (has_pass ps (suc k)) (suc k) (greatest k ps)

unfoldable pub top_of : Option ℕ → ℕ
top_of none = 0
top_of (some ps) = greatest 32 ps

-- "to just before the next measure with left barline 1 or 3": of the measures behind the section start
unfoldable pub top_before : List Bar → ℕ
top_before [] = 0
top_before (b ∷ bs) = cond (opens b.left) 0 (max (top_of b.span) (top_before bs))

-- "the larger of 2 and the greatest pass of any volta span with a measure from the section start" on; of the measures from there
unfoldable pub limit_of : List Bar → ℕ
limit_of [] = 2
limit_of (b ∷ bs) = max 2 (max (top_of b.span) (top_before bs))

unfoldable pub limit : List Bar → ℕ → ℕ
limit bars s = limit_of (drop s bars)

-- "A measure in a volta span .. without the current pass is skipped"
unfoldable pub is_skipped : Option ℕ → ℕ → Bool
is_skipped none p = false
is_skipped (some ps) p = not (has_pass ps p)

-- the next measure
unfoldable pub ahead : Place → Place
ahead w = record { at = suc w.at; section = w.section; pass = w.pass; forward = true }

-- a section that starts at measure s
unfoldable pub begin : ℕ → Place
begin s = record { at = s; section = s; pass = 1; forward = true }

-- back to the section start with the next pass
unfoldable pub again : Place → Place
again w = record { at = w.section; section = w.section; pass = suc w.pass; forward = false }

-- "Going forward into a measure with left barline 1 or 3 makes it the section start, pass 1"
unfoldable pub entered : Place → Bar → Place
entered w b = cond (w.forward && opens b.left) (begin w.at) w

-- "After a played measure with right barline 2 or 3: if the pass is below the section's limit, go back ..; else the next measure is the section start, pass 1"
unfoldable pub left_behind : List Bar → Place → Bar → Place
left_behind bars w b = cond (closes b.right) (cond (ltb w.pass (limit bars w.section)) (again w) (begin (suc w.at))) (ahead w)

-- one measure: where the player stands after it, and what is listed. "skipped, its barlines too; this is tested before entering"
unfoldable pub next : List Bar → Place → Bar → Place
next bars w b = cond (is_skipped b.span w.pass) (ahead w) (left_behind bars (entered w b) b)

unfoldable pub listed : Place → Bar → List ℕ
listed w b = cond (is_skipped b.span w.pass) [] (suc w.at ∷ [])

-- k measures at most
unfoldable pub walk : List Bar → ℕ → Place → List ℕ
walk bars zero w = []
walk bars (suc k) w = elim (get_elem? bars w.at) [ none ↦ [] | some b ↦ listed w b ++ walk bars k (next bars w b) ]

-- where d measures are left: as many as the sections behind the first of them play at the most, 32 passes each
unfoldable pub later : ℕ → ℕ
later zero = 0
later (suc d) = later d + 32 * d

-- as many measures as are ever left (proofs/Ends): those of later sections, of later passes of this section, of this pass
unfoldable pub rank : List Bar → Place → ℕ
rank bars w = let d = length bars - w.section in later d + (32 - w.pass) * d + (length bars - w.at)

-- THE LIST from a place on; and of a part
unfoldable pub played_from : List Bar → Place → List ℕ
played_from bars w = walk bars (suc (rank bars w)) w

-- "The section starts at measure 1, pass 1"
unfoldable pub played : List Bar → List ℕ
played bars = played_from bars (begin 0)
