-- A LENGTH in a music line, and the written value that it gets (document 01, "Length"; document 02, T-04; ABC 2.1, 4.3).
use Rattle.std.specs.Prelude.{ℕ, zero, suc, ◌+◌, ◌*◌, ◌^◌, Bool, true, false, cond, ◌&&◌, List, [], ◌∷◌, ltb, leb, eqb, take, drop}
use Rattle.laws.specs.Lists.{count_while}
use Rattle.standard.specs.Bytes.{is, is_digit, first, decimal}
use Rattle.standard.specs.Lengths.{Fraction, length_fraction, Value, ticks, forty}
use Rattle.editions.specs.declared.Edition.{Edition}
use Rattle.editions.specs.declared.Edition.TheVariants.{First, Second}

-- a length as written: numerator, denominator, and the bytes it takes
pub record Length : Type 0 where
  pub num : ℕ
  pub den : ℕ
  pub used : ℕ

-- n digits at the front; d if there are none, or they are past 32 bits ("A numerator past 32 bits reads 1, a denominator 2")
unfoldable pub number : ℕ → ℕ → List ℕ → ℕ
number d zero s = d
number d (suc n) s = let v = decimal 0 (take (suc n) s) in cond (ltb v (2 ^ 32)) v d

-- THE SLASHES behind the numerator that count (T-04). In the first edition "the later slashes are still skipped"; in the second all "in a row" count
unfoldable pub slashes : Edition → List ℕ → ℕ
slashes First s = cond (is "/" (first s)) 1 0
slashes Second s = count_while (is "/") s

-- a numerator of n bytes with k slashes behind it; s stands behind them. One slash: digits, or nothing, which reads 2 (ABC 2.1, 4.3: A/ is A/2).
-- "two or more slashes in a row halve once each, digits behind them or not" (T-04)
unfoldable pub length_over : ℕ → ℕ → ℕ → List ℕ → Length
length_over num n zero s = record { num = num; den = 1; used = n }
length_over num n (suc zero) s = let m = count_while is_digit s in record { num = num; den = number 2 m s; used = n + 1 + m }
length_over num n (suc (suc k)) s = record { num = num; den = 2 ^ suc (suc k); used = n + suc (suc k) }

-- a length at the front. "All slashes and digits right after" it "are skipped": they are no part of it, and no token but `skipped` begins with one
unfoldable pub length_of : Edition → List ℕ → Length
length_of ed s =
    let n = count_while is_digit s in
    let k = slashes ed (drop n s) in
    length_over (number 1 n s) n k (drop (n + k) s)

-- two slashes in a row behind the numerator: where there are none, both editions read the same length (`same_length`)
abbrev pub two_slashes : List ℕ → Bool
two_slashes s = let r = drop (count_while is_digit s) s in is "/" (first r) && is "/" (first (drop 1 r))

-- "more than 31 give refusal 22"
unfoldable pub many_slashes : Edition → List ℕ → Bool
many_slashes ed s = ltb 31 (slashes ed (drop (count_while is_digit s) s))

-- a plain quarter, a plain longa
abbrev pub quarter_note : Value
quarter_note = record { value = 4; dots = 0 }

abbrev pub longa : Value
longa = record { value = 0; dots = 0 }

-- the first of the values that is not above a / b 1024ths of a whole note; "none gives a plain quarter"
unfoldable pub not_above : List Value → ℕ → ℕ → Value
not_above [] a b = quarter_note
not_above (w ∷ ws) a b = elim (leb (ticks w * b) a) [ true ↦ w | false ↦ not_above ws a b ]

-- "The written value is the greatest of 40 .. not above it"; "Denominator 0 gives longa with 3 dots, 0/0 plain longa"
unfoldable pub written_as : Fraction → Value
written_as f = elim (eqb f.over 0 && eqb f.under 0) [ true ↦ longa | false ↦ not_above forty (f.over * 1024) f.under ]

-- "numerator times 1 over denominator times unit (unit 0 counts as 1)"
unfoldable pub value_of : ℕ → Length → Value
value_of unit l = written_as (length_fraction unit l.num l.den)
