-- WHAT IS PLAYED, BY CODES (T-02): measures by their barlines, volta and passes, in one table; what no text writes is among them.
use Prim.Native.Nat.{ℕ, zero, suc, ◌^◌}
use mathlib.Core.Path.{◌≡◌, refl}
use mathlib.Core.List.{List, [], ◌∷◌, ◌++◌, map}
use lib.ListN.{length}
use Rattle.reading_walk.specs.Played.{played_of}
use Rattle.reading_examples.specs.Opened.{opened}
use Rattle.reading_examples.specs.Readings.{Codes, from_codes}

-- a measure outside every span, or in the middle of one; with a volta and its passes
abbrev bar : ℕ → ℕ → Codes
bar l r = record { left = l; right = r; volta = 0; passes = 0 }

abbrev at : ℕ → ℕ → ℕ → ℕ → Codes
at l r v ps = record { left = l; right = r; volta = v; passes = ps }

pub record Row : Type 0 where
  pub codes : List Codes
  pub played : List ℕ

abbrev pub rows : List Row
rows =
    -- as texts write them
    record { codes = bar 0 0 ∷ at 0 2 3 1 ∷ at 1 5 3 2 ∷ []; played = 1 ∷ 2 ∷ 1 ∷ 3 ∷ [] }
    ∷ record { codes = bar 0 0 ∷ at 1 5 3 2 ∷ bar 0 2 ∷ []; played = 1 ∷ 3 ∷ 1 ∷ 2 ∷ 3 ∷ 2 ∷ 3 ∷ [] }
    ∷ record { codes = bar 0 0 ∷ at 0 5 3 2 ∷ bar 1 2 ∷ []; played = 1 ∷ 3 ∷ 3 ∷ [] }
    ∷ record { codes = bar 0 1 ∷ bar 1 2 ∷ bar 0 0 ∷ []; played = 1 ∷ 2 ∷ 2 ∷ 3 ∷ [] }
    -- a span's passes are its first measure's
    ∷ record { codes = at 0 0 1 1 ∷ at 0 0 2 2 ∷ []; played = 1 ∷ 2 ∷ [] }
    -- a span without any pass is never played
    ∷ record { codes = at 0 0 3 0 ∷ bar 0 0 ∷ []; played = 2 ∷ [] }
    -- the limit goes by every measure of a span, also where the span begins before the section
    ∷ record { codes = at 0 0 1 4 ∷ bar 0 2 ∷ at 0 0 2 0 ∷ bar 0 2 ∷ []; played = 4 ∷ 4 ∷ 1 ∷ 2 ∷ 4 ∷ 4 ∷ 3 ∷ 4 ∷ [] }
    -- barlines 3 on both sides
    ∷ record { codes = bar 0 3 ∷ bar 3 3 ∷ bar 3 0 ∷ []; played = 1 ∷ 1 ∷ 2 ∷ 2 ∷ 3 ∷ [] } ∷ []

pub table : map (λ (r : Row). played_of (from_codes r.codes) 1) rows ≡ map (λ (r : Row). r.played) rows
unfolding opened
table = refl

-- A LONG WALK: k times a measure and an ending of pass 32, and a repeat behind them
abbrev endings : ℕ → List Codes
endings zero = []
endings (suc k) = bar 0 0 ∷ at 0 2 3 (2 ^ 31) ∷ endings k

-- eleven measures play 632 times, 31 × 5 × 8 / 2 + 2 × 5 + 2: over 32 times eleven
pub long_walk : length (played_of (from_codes (endings 5 ++ (bar 0 2 ∷ []))) 1) ≡ 632
unfolding opened
long_walk = refl
