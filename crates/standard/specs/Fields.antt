-- METER AND UNIT LENGTH FIELDS (ABC 2.1, 3.1.6 and 3.1.7).
use Rattle.std.specs.Prelude.{ℕ, true, false, cond, List}
use Rattle.std.proofs.Math.Option.{Option, none, some}
use Rattle.laws.specs.Lists.{eq_text}
use Rattle.standard.specs.Bytes.{ascii}

-- top and bottom
abbrev pub Meter : Type 0
Meter = ℕ × ℕ

-- 3.1.6: `C` is common time, 4/4; `C|` is cut time, 2/2
unfoldable pub named_meter : List ℕ → Option Meter
named_meter m = elim (eq_text m (ascii "C")) [ true ↦ some (4, 4) | false ↦ cond (eq_text m (ascii "C|")) (some (2, 2)) none ]
