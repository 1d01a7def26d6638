-- THE MODES IN THE SECOND EDITION (ABC 2.1, 3.1.14; document 02, T-03): the standard's table of key signatures, every other name refused (21), the spellings of the nine words; and what the
-- first edition reads instead. Fifths have 128 added.
use Prim.Native.Nat.{ℕ, ◌-◌}
use Prim.Native.String.{String}
use mathlib.Core.Path.{◌≡◌, refl}
use mathlib.Core.Bool.{Bool, true, false}
use mathlib.Core.List.{List, [], ◌∷◌, ◌++◌, map}
use Rattle.standard.specs.Bytes.{ascii}
use Rattle.editions.specs.declared.Edition.{Edition}
use Rattle.editions.specs.declared.Edition.TheVariants.{First, Second}
use Rattle.reader.specs.Lines.{Kind, key, refused, line_kind}
use Rattle.reader.specs.All.{all}

-- a K line
abbrev line_of : Edition → List ℕ → Kind
line_of ed value = line_kind ed (ascii "K:" ++ value)

abbrev lines_of : Edition → List String → List Kind
lines_of ed names = map (λ (x : String). line_of ed (ascii x)) names

abbrev major : ℕ → Kind
major f = key (record { fifths = f; minor = false })

abbrev minor : ℕ → Kind
minor f = key (record { fifths = f; minor = true })

-- THE TABLE, from seven sharps to seven flats: major, minor, mixolydian, dorian, phrygian, lydian, locrian
abbrev signatures : List (ℕ × List String)
signatures =
    (135, "C#" ∷ "A#m" ∷ "G#Mix" ∷ "D#Dor" ∷ "E#Phr" ∷ "F#Lyd" ∷ "B#Loc" ∷ [])
    ∷ (134, "F#" ∷ "D#m" ∷ "C#Mix" ∷ "G#Dor" ∷ "A#Phr" ∷ "BLyd" ∷ "E#Loc" ∷ [])
    ∷ (133, "B" ∷ "G#m" ∷ "F#Mix" ∷ "C#Dor" ∷ "D#Phr" ∷ "ELyd" ∷ "A#Loc" ∷ [])
    ∷ (132, "E" ∷ "C#m" ∷ "BMix" ∷ "F#Dor" ∷ "G#Phr" ∷ "ALyd" ∷ "D#Loc" ∷ [])
    ∷ (131, "A" ∷ "F#m" ∷ "EMix" ∷ "BDor" ∷ "C#Phr" ∷ "DLyd" ∷ "G#Loc" ∷ [])
    ∷ (130, "D" ∷ "Bm" ∷ "AMix" ∷ "EDor" ∷ "F#Phr" ∷ "GLyd" ∷ "C#Loc" ∷ [])
    ∷ (129, "G" ∷ "Em" ∷ "DMix" ∷ "ADor" ∷ "BPhr" ∷ "CLyd" ∷ "F#Loc" ∷ [])
    ∷ (128, "C" ∷ "Am" ∷ "GMix" ∷ "DDor" ∷ "EPhr" ∷ "FLyd" ∷ "BLoc" ∷ [])
    ∷ (127, "F" ∷ "Dm" ∷ "CMix" ∷ "GDor" ∷ "APhr" ∷ "BbLyd" ∷ "ELoc" ∷ [])
    ∷ (126, "Bb" ∷ "Gm" ∷ "FMix" ∷ "CDor" ∷ "DPhr" ∷ "EbLyd" ∷ "ALoc" ∷ [])
    ∷ (125, "Eb" ∷ "Cm" ∷ "BbMix" ∷ "FDor" ∷ "GPhr" ∷ "AbLyd" ∷ "DLoc" ∷ [])
    ∷ (124, "Ab" ∷ "Fm" ∷ "EbMix" ∷ "BbDor" ∷ "CPhr" ∷ "DbLyd" ∷ "GLoc" ∷ [])
    ∷ (123, "Db" ∷ "Bbm" ∷ "AbMix" ∷ "EbDor" ∷ "FPhr" ∷ "GbLyd" ∷ "CLoc" ∷ [])
    ∷ (122, "Gb" ∷ "Ebm" ∷ "DbMix" ∷ "AbDor" ∷ "BbPhr" ∷ "CbLyd" ∷ "FLoc" ∷ [])
    ∷ (121, "Cb" ∷ "Abm" ∷ "GbMix" ∷ "DbDor" ∷ "EbPhr" ∷ "FbLyd" ∷ "BbLoc" ∷ [])
    ∷ []

-- minor alone is marked as such
pub signatures_read : map (λ (x : ℕ × List String). lines_of Second x.1) signatures
    ≡ map (λ (x : ℕ × List String). let f = x.0 in major f ∷ minor f ∷ major f ∷ major f ∷ major f ∷ major f ∷ major f ∷ []) signatures
unfolding all
signatures_read = refl

-- the first edition knows major and minor; the other modes are no names to it, so C major
pub signatures_first : map (λ (x : ℕ × List String). lines_of First x.1) signatures
    ≡ map (λ (x : ℕ × List String). let f = x.0 in major f ∷ minor f ∷ major 128 ∷ major 128 ∷ major 128 ∷ major 128 ∷ major 128 ∷ []) signatures
unfolding all
signatures_first = refl

-- THE OTHERS of the 21 names, six in each mode, are beyond seven sharps or flats: refused here, and C major or minor in the first edition
abbrev beyond_majors : List String
beyond_majors =
    "Fb" ∷ "G#" ∷ "D#" ∷ "A#" ∷ "E#" ∷ "B#"
    ∷ "FbMix" ∷ "CbMix" ∷ "D#Mix" ∷ "A#Mix" ∷ "E#Mix" ∷ "B#Mix"
    ∷ "FbDor" ∷ "CbDor" ∷ "GbDor" ∷ "A#Dor" ∷ "E#Dor" ∷ "B#Dor"
    ∷ "FbPhr" ∷ "CbPhr" ∷ "GbPhr" ∷ "DbPhr" ∷ "AbPhr" ∷ "B#Phr"
    ∷ "C#Lyd" ∷ "G#Lyd" ∷ "D#Lyd" ∷ "A#Lyd" ∷ "E#Lyd" ∷ "B#Lyd"
    ∷ "FbLoc" ∷ "CbLoc" ∷ "GbLoc" ∷ "DbLoc" ∷ "AbLoc" ∷ "EbLoc" ∷ []

abbrev beyond_minors : List String
beyond_minors = "Fbm" ∷ "Cbm" ∷ "Gbm" ∷ "Dbm" ∷ "E#m" ∷ "B#m" ∷ []

pub beyond_refused : lines_of Second (beyond_majors ++ beyond_minors) ≡ map (λ (x : String). refused 21) (beyond_majors ++ beyond_minors)
unfolding all
beyond_refused = refl

pub beyond_first : lines_of First (beyond_majors ++ beyond_minors) ≡ map (λ (x : String). major 128) beyond_majors ++ map (λ (x : String). minor 128) beyond_minors
unfolding all
beyond_first = refl

-- THE NINE WORDS on D, by their first three letters: in small letters or capitals, behind white space or none, with anything behind them
abbrev modes : List (String × Kind)
modes =
    ("maj", major 130)
    ∷ ("ion", major 130)
    ∷ ("min", minor 127)
    ∷ ("aeo", minor 127)
    ∷ ("dor", major 128)
    ∷ ("phr", major 126)
    ∷ ("lyd", major 131)
    ∷ ("mix", major 129)
    ∷ ("loc", major 125)
    ∷ []

abbrev capitals : List ℕ → List ℕ
capitals s = map (λ (c : ℕ). c - 32) s

abbrev written : List ℕ → List (List ℕ)
written w = w ∷ capitals w ∷ (ascii " " ++ w) ∷ (ascii " \t" ++ capitals w) ∷ (w ++ ascii "x") ∷ (ascii " " ++ w ++ ascii "min") ∷ (ascii " " ++ w ++ ascii " exp ^f") ∷ []

pub modes_read : map (λ (x : String × Kind). map (λ (w : List ℕ). line_of Second (ascii "D" ++ w)) (written (ascii x.0))) modes
    ≡ map (λ (x : String × Kind). let k = x.1 in k ∷ k ∷ k ∷ k ∷ k ∷ k ∷ k ∷ []) modes
unfolding all
modes_read = refl

-- m alone: no letter behind it
pub lone_m_lem : lines_of Second ("Dm" ∷ "DM" ∷ "D m" ∷ "D M" ∷ "Dm1" ∷ "Dm exp" ∷ "DM^f" ∷ []) ≡ minor 127 ∷ minor 127 ∷ minor 127 ∷ minor 127 ∷ minor 127 ∷ minor 127 ∷ minor 127 ∷ []
unfolding all
lone_m_lem = refl

-- with one it is none
pub no_mode : lines_of Second ("Dmi" ∷ "Dma" ∷ "DmM" ∷ "D mz" ∷ "Ddo" ∷ "D x min" ∷ []) ≡ major 130 ∷ major 130 ∷ major 130 ∷ major 130 ∷ major 130 ∷ major 130 ∷ []
unfolding all
no_mode = refl
