-- WHAT IS CHARGED, BY EXAMPLE: small tunes with the tally's numbers, in one table, each read as a whole text. Measures, notes that are no rests, rests, lyric records; for each part.
use Prim.Native.Nat.{ℕ}
use Prim.Native.String.{String}
use mathlib.Core.Path.{◌≡◌, refl}
use mathlib.Core.List.{List, [], ◌∷◌, map}
use Rattle.laws.specs.Lists.{concat}
use Rattle.standard.specs.Bytes.{ascii}
use Rattle.editions.specs.declared.Edition.TheVariants.{First}
use Rattle.reader.specs.State.{Note, Measure}
use Rattle.reader.specs.Codes.{volta_code}
use Rattle.reader.specs.Records.{notes_of}
use Rattle.reader.specs.Answer.{parse_abc}
use Rattle.reader.specs.Tally.{Counts, tally}
use Rattle.reader.specs.All.{all}
use Rattle.examples.specs.Shown.{parts_in}

pub record Tune : Type 0 where
  pub text : String
  pub charged : List ℕ

abbrev pub tunes : List Tune
tunes =
    -- a chord is one note
    record { text = "K:C\n[CEG]2\n"; charged = 1 ∷ 1 ∷ 0 ∷ 0 ∷ [] }
    -- an empty chord is none
    ∷ record { text = "K:C\nA[]\n"; charged = 1 ∷ 1 ∷ 0 ∷ 0 ∷ [] }
    -- a grace note is one
    ∷ record { text = "K:C\n{A}B\n"; charged = 1 ∷ 2 ∷ 0 ∷ 0 ∷ [] }
    -- each tied note is one
    ∷ record { text = "K:C\nA-|A\n"; charged = 2 ∷ 2 ∷ 0 ∷ 0 ∷ [] }
    -- each of the four rests is one; Z4 is one rest in one measure
    ∷ record { text = "K:C\nz x|Z|X\n"; charged = 3 ∷ 0 ∷ 4 ∷ 0 ∷ [] }
    ∷ record { text = "K:C\nZ4\n"; charged = 1 ∷ 0 ∷ 1 ∷ 0 ∷ [] }
    -- a repeated section counts once, and so does each ending
    ∷ record { text = "K:C\n|:A|B:|\n"; charged = 2 ∷ 2 ∷ 0 ∷ 0 ∷ [] }
    ∷ record { text = "K:C\n|:A|[1B:|[2c|]\n"; charged = 3 ∷ 3 ∷ 0 ∷ 0 ∷ [] }
    -- an empty last measure does not count; one in the middle cannot be written with barlines alone
    ∷ record { text = "K:C\nA|B|\n"; charged = 2 ∷ 2 ∷ 0 ∷ 0 ∷ [] }
    ∷ record { text = "K:C\nA|||B\n"; charged = 2 ∷ 2 ∷ 0 ∷ 0 ∷ [] }
    -- overlay voices stand in the same measure
    ∷ record { text = "K:C\nAB&c|d\n"; charged = 2 ∷ 4 ∷ 0 ∷ 0 ∷ [] }
    -- a tuplet is as many notes as it has, a broken rhythm two
    ∷ record { text = "K:C\n(5ABcde\n"; charged = 1 ∷ 5 ∷ 0 ∷ 0 ∷ [] }
    ∷ record { text = "K:C\nA>B\n"; charged = 1 ∷ 2 ∷ 0 ∷ 0 ∷ [] }
    -- lyrics: each syllable is one, on notes that are no rests; a hyphen divides, ~ does not, * skips a note, _ holds the one before, a hyphen alone takes a note
    ∷ record { text = "K:C\nAzBc\nw:a b-c\n"; charged = 1 ∷ 3 ∷ 1 ∷ 3 ∷ [] }
    ∷ record { text = "K:C\nAB\nw:a~b\n"; charged = 1 ∷ 2 ∷ 0 ∷ 1 ∷ [] }
    ∷ record { text = "K:C\nABc\nw:a * b\n"; charged = 1 ∷ 3 ∷ 0 ∷ 2 ∷ [] }
    ∷ record { text = "K:C\nABc\nw:a _ b\n"; charged = 1 ∷ 3 ∷ 0 ∷ 2 ∷ [] }
    ∷ record { text = "K:C\nABc\nw:a - b\n"; charged = 1 ∷ 3 ∷ 0 ∷ 2 ∷ [] }
    -- a bar sign in a lyric line is passed over; what goes past the last note is not charged; a second verse is charged again
    ∷ record { text = "K:C\nA|B\nw:a | b\n"; charged = 2 ∷ 2 ∷ 0 ∷ 2 ∷ [] }
    ∷ record { text = "K:C\nA\nw:a b c\n"; charged = 1 ∷ 1 ∷ 0 ∷ 1 ∷ [] }
    ∷ record { text = "K:C\nAB\nw:a b\nw:c d\n"; charged = 1 ∷ 2 ∷ 0 ∷ 4 ∷ [] }
    -- a grace note takes a syllable
    ∷ record { text = "K:C\n{A}B\nw:a b\n"; charged = 1 ∷ 2 ∷ 0 ∷ 2 ∷ [] }
    -- comments, titles, tempo, chord names, decorations and clefs cost nothing
    ∷ record { text = "X:1\nT:AB\n%AB\nQ:1/4=90\nK:C clef=bass\n\"Am\"!trill!A+fermata+B %cd\nN:AB\n"; charged = 1 ∷ 2 ∷ 0 ∷ 0 ∷ [] }
    -- two voices, block about and line about
    ∷ record { text = "V:1\nV:2\nK:C\nV:1\nA|\nw:a\nB|\nV:2\nz|\nc|\n"; charged = 2 ∷ 2 ∷ 0 ∷ 1 ∷ 2 ∷ 1 ∷ 1 ∷ 0 ∷ [] }
    ∷ record { text = "V:1\nV:2\nK:C\nV:1\nA|\nw:a\nV:2\nz|\nV:1\nB|\nV:2\nc|\n"; charged = 2 ∷ 2 ∷ 0 ∷ 1 ∷ 2 ∷ 1 ∷ 1 ∷ 0 ∷ [] }
    -- a voice without music
    ∷ record { text = "V:1\nV:2\nK:C\nV:1\nA\n"; charged = 1 ∷ 1 ∷ 0 ∷ 0 ∷ 0 ∷ 0 ∷ 0 ∷ 0 ∷ [] }
    ∷ []

-- the tally's numbers
abbrev numbers : Counts → List ℕ
numbers c = c.measures ∷ c.sounded ∷ c.rests ∷ c.syllables ∷ []

abbrev pub charged_for : String → List ℕ
charged_for text = concat (map numbers (tally (parts_in (parse_abc First (ascii text) 2000 100000).verdict)))

-- every tune is charged as the table says
pub table : map (λ (t : Tune). charged_for t.text) tunes ≡ map (λ (t : Tune). t.charged) tunes
unfolding all
table = refl

-- A QUINTUPLET: five notes, each with 5 in the time of 4; the first starts it and the fifth stops it
abbrev groups : String → List ℕ
groups text = concat (map (λ p. concat (map (λ (x : ℕ × Note). x.1.group.actual ∷ x.1.group.normal ∷ x.1.group.boundary ∷ []) (notes_of p))) (parts_in (parse_abc First (ascii text) 2000 100000).verdict))

pub quintuplet : groups "K:C\n(5ABcde\n" ≡ 5 ∷ 4 ∷ 1 ∷ 5 ∷ 4 ∷ 0 ∷ 5 ∷ 4 ∷ 0 ∷ 5 ∷ 4 ∷ 0 ∷ 5 ∷ 4 ∷ 2 ∷ []
unfolding all
quintuplet = refl

-- WHERE A SECOND ENDING STOPS (0 none, 1 begins, 2 ends, 3 both): at `:|`, `::` or `|]`; before the next start; else at the last measure; not at `||`
abbrev voltas : String → List ℕ
voltas text = concat (map (λ p. map (λ (m : Measure). volta_code m.volta) p.measures) (parts_in (parse_abc First (ascii text) 2000 100000).verdict))

pub second-ending
    : (voltas "K:C\n|:A|[1B:|[2c|d:|e\n" ≡ 0 ∷ 3 ∷ 1 ∷ 2 ∷ 0 ∷ [])
    × ((voltas "K:C\n|:A|[1B:|[2c|d::e\n" ≡ 0 ∷ 3 ∷ 1 ∷ 2 ∷ 0 ∷ [])
    × ((voltas "K:C\n|:A|[1B:|[2c|d|]e\n" ≡ 0 ∷ 3 ∷ 1 ∷ 2 ∷ 0 ∷ [])
    × ((voltas "K:C\n|:A|[1B:|[2c|d|[3e|f\n" ≡ 0 ∷ 3 ∷ 1 ∷ 2 ∷ 1 ∷ 2 ∷ [])
    × ((voltas "K:C\n|:A|[1B:|[2c|d|e\n" ≡ 0 ∷ 3 ∷ 1 ∷ 0 ∷ 2 ∷ []) × (voltas "K:C\n|:A|[1B:|[2c|d||e\n" ≡ 0 ∷ 3 ∷ 1 ∷ 0 ∷ 2 ∷ [])))))
unfolding all
second-ending = (refl, (refl, (refl, (refl, (refl, refl)))))
