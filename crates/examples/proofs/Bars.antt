-- DOCUMENT 01, "Bars to try it on": the bars marked ●, in one table, each read as a whole text.
use Prim.Native.Nat.{ℕ}
use Prim.Native.String.{String}
use mathlib.Core.Path.{◌≡◌, refl}
use mathlib.Core.Option.{Option, none, some}
use mathlib.Core.List.{List, [], ◌∷◌, ◌++◌, map}
use Rattle.laws.specs.Lists.{concat}
use Rattle.standard.specs.Bytes.{ascii}
use Rattle.standard.specs.Keys.{Key}
use Rattle.editions.specs.declared.Edition.TheVariants.{First}
use Rattle.reader.specs.State.{Note, Measure}
use Rattle.reader.specs.Part.{Part}
use Rattle.reader.specs.Codes.{beam_code, volta_code}
use Rattle.reader.specs.Records.{notes_of, signed8}
use Rattle.reader.specs.Answer.{parse_abc}
use Rattle.reader.specs.All.{all}
use Rattle.examples.specs.Shown.{parts_in}

-- what a bar is asked for: each note's value and dots; each note's beam; each measure's volta; each marked measure's fifths
pub data Asked : Type 0 where
  values beams voltas fifths : Asked

pub record Bar : Type 0 where
  pub asked : Asked
  pub key : String
  pub bar : String
  pub answer : List ℕ

abbrev pub bars : List Bar
bars =
    record { asked = values; key = "C"; bar = "A"; answer = 5 ∷ 0 ∷ [] }
    ∷ record { asked = values; key = "C"; bar = "A3"; answer = 4 ∷ 1 ∷ [] }
    ∷ record { asked = values; key = "C"; bar = "A5"; answer = 3 ∷ 0 ∷ [] }
    ∷ record { asked = values; key = "C"; bar = "A7"; answer = 3 ∷ 2 ∷ [] }
    ∷ record { asked = values; key = "C"; bar = "A0"; answer = 4 ∷ 0 ∷ [] }
    ∷ record { asked = values; key = "C"; bar = "A/0"; answer = 0 ∷ 3 ∷ [] }
    ∷ record { asked = values; key = "C"; bar = "A/16"; answer = 9 ∷ 0 ∷ [] }
    ∷ record { asked = values; key = "C"; bar = "A/32"; answer = 4 ∷ 0 ∷ [] }
    ∷ record { asked = values; key = "C"; bar = "A>>>>B"; answer = 5 ∷ 3 ∷ 9 ∷ 0 ∷ [] }
    ∷ record { asked = beams; key = "C"; bar = "A[]"; answer = 3 ∷ [] }
    ∷ record { asked = voltas; key = "C"; bar = "[1A|B:|[2c|]"; answer = 1 ∷ 2 ∷ 3 ∷ [] }
    ∷ record { asked = fifths; key = "F#m"; bar = "A"; answer = 3 ∷ [] }
    ∷ record { asked = fifths; key = "Ador"; bar = "A"; answer = 0 ∷ [] }
    ∷ []

-- the bar as a tune
abbrev text_of : Bar → List ℕ
text_of b = ascii "X:1\nL:1/8\nK:" ++ ascii b.key ++ ascii "\n" ++ ascii b.bar ++ ascii "\n"

abbrev marks : Option Key → List ℕ
marks none = []
marks (some k) = signed8 k.fifths ∷ []

abbrev ask : Asked → Part → List ℕ
ask values p = concat (map (λ (x : ℕ × Note). x.1.value ∷ x.1.dots ∷ []) (notes_of p))
ask beams p = map (λ (x : ℕ × Note). beam_code x.1.beam) (notes_of p)
ask voltas p = map (λ (m : Measure). volta_code m.volta) p.measures
ask fifths p = concat (map (λ (m : Measure). marks m.key) p.measures)

abbrev answer : Bar → List ℕ
answer b = concat (map (ask b.asked) (parts_in (parse_abc First (text_of b) 1000 100000).verdict))

-- every bar is answered as document 01 says
pub table : map answer bars ≡ map (λ (b : Bar). b.answer) bars
unfolding all
table = refl
