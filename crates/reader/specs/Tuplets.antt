-- TUPLETS `(p`, `(p:q`, `(p:q:r` (ABC 2.1, 4.13; 000, parse_abc_tuplet). Below, n bytes from the `(` on are read and s stands behind them.
use Rattle.std.specs.Prelude.{ℕ, ◌+◌, ◌-◌, ◌^◌, true, false, cond, List, ltb, eqb, take, drop}
use Rattle.std.proofs.Math.Option.{Option, none, some}
use Rattle.laws.specs.Lists.{count_while}
use Rattle.standard.specs.Bytes.{is, is_digit, first, digits}
use Rattle.standard.specs.Tuplets.{usual_normal, default_normal}
use Rattle.editions.specs.declared.Edition.{Edition}
use Rattle.editions.specs.declared.Edition.TheVariants.{First, Second}
use Rattle.reader.specs.Token.{tuplet, slur, Taken, taken}

-- a number that is not 0
unfoldable pub not_zero : Option ℕ → Option ℕ
not_zero none = none
not_zero (some v) = cond (eqb v 0) none (some v)

-- the number of the digits at the front, from 1 to top
unfoldable pub positive : ℕ → List ℕ → Option ℕ
positive top s = not_zero (digits top (take (count_while is_digit s) s))

-- "else actual less 1"
unfoldable pub or_one_less : ℕ → Option ℕ → ℕ
or_one_less p none = p - 1
or_one_less p (some q) = q

-- "default normal 3, 2, 3 for 2, 3, 4, else actual less 1"; in the second edition (document 02, T-03) the standard's up to 9, "others as before". The one place
-- where a default is chosen
unfoldable pub normal_for : Edition → ℕ → ℕ
normal_for First p = or_one_less p (usual_normal p)
normal_for Second p = or_one_less p (default_normal p)

-- a part behind its `:`, where s stands: a number from 1 to top; in the second edition "an empty part after `:` takes its default"
unfoldable pub part_or : Edition → ℕ → ℕ → List ℕ → Option ℕ
part_or First default top s = positive top s
part_or Second default top s = elim (is_digit (first s)) [ true ↦ positive top s | false ↦ some default ]

abbrev pub tuplet_token : ℕ → ℕ → ℕ → ℕ → Option Taken
tuplet_token p q r n = some (taken (tuplet (record { actual = p; normal = q; count = r })) n)

-- "count 0 or past 64 bits .. is a slur start instead"
unfoldable pub counted : ℕ → ℕ → ℕ → Option ℕ → Option Taken
counted p q n none = none
counted p q n (some r) = tuplet_token p q r n

-- the count: as written, else as many as `actual`
unfoldable pub with_count : Edition → ℕ → ℕ → ℕ → List ℕ → Option Taken
with_count ed p q n s =
    elim (is ":" (first s)) [
      | true ↦ counted p q (n + 1 + count_while is_digit (drop 1 s)) (part_or ed p (2 ^ 64 - 1) (drop 1 s))
      | false ↦ tuplet_token p q p n
    ]

-- "normal 0 or above 255 .. or an empty part after `:`" (in the first edition)
unfoldable pub with_normal : Edition → ℕ → ℕ → List ℕ → Option ℕ → Option Taken
with_normal ed p n s none = none
with_normal ed p n s (some q) = with_count ed p q (n + 1 + count_while is_digit (drop 1 s)) (drop (1 + count_while is_digit (drop 1 s)) s)

-- "Actual below 2 or above 255"
unfoldable pub with_actual : Edition → ℕ → List ℕ → Option ℕ → Option Taken
with_actual ed n s none = none
with_actual ed n s (some p) =
    elim (ltb p 2) [
      | true ↦ none
      | false ↦ elim (is ":" (first s)) [ true ↦ with_normal ed p n s (part_or ed (normal_for ed p) 255 (drop 1 s)) | false ↦ tuplet_token p (normal_for ed p) p n ]
    ]

-- s stands behind the `(`
unfoldable pub tuplet_of : Edition → List ℕ → Option Taken
tuplet_of ed s = with_actual ed (1 + count_while is_digit s) (drop (count_while is_digit s) s) (positive 255 s)

-- "is a slur start instead"
unfoldable pub or_slur : Option Taken → Taken
or_slur none = taken slur 1
or_slur (some t) = t
