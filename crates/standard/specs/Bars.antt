-- BAR SYMBOLS (ABC 2.1, 4.8) and REPEATS AND ENDINGS (4.9, 4.10).
use Rattle.std.specs.Prelude.{ℕ, Bool, true, false, List, [], ◌∷◌}
use Prim.Native.String.{String}
use Rattle.std.proofs.Math.Option.{Option, none, some}
use Rattle.laws.specs.Lists.{starts_with}
use Rattle.standard.specs.Bytes.{ascii}

pub data Barline : Type 0 where
  normal repeat_start repeat_end repeat_both double final : Barline

pub record Symbol : Type 0 where
  pub text : List ℕ
  pub barline : Barline

abbrev pub symbol : String → Barline → Symbol
symbol s b = record { text = ascii s; barline = b }

-- 4.8, the longer symbols first
unfoldable pub bar_symbols : List Symbol
bar_symbols =
    symbol "|:" repeat_start ∷ symbol "||" double ∷ symbol "|]" final ∷ symbol ":|" repeat_end ∷ symbol "::" repeat_both ∷ symbol "|" normal ∷ []

-- the first of the symbols that the text begins with
unfoldable pub symbol_at : List Symbol → List ℕ → Option Symbol
symbol_at [] s = none
symbol_at (x ∷ xs) s = elim (starts_with x.text s) [ true ↦ some x | false ↦ symbol_at xs s ]

-- 4.9: an ending ends at `||`, `:|` and `|]`; `::` is `:|` and `|:` in one. Document 01's rule, which leaves out `||`, is `ends_ending` of crate reader
unfoldable pub closes_ending : Barline → Bool
closes_ending normal = false
closes_ending repeat_start = false
closes_ending repeat_end = true
closes_ending repeat_both = true
closes_ending double = true
closes_ending final = true
