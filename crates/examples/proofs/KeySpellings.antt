-- THE SPELLINGS OF THE THIRTY KEYS (ABC 2.1, 3.1.14): a K field that names one is read as the line of fifths has it, in each usual spelling of its mode; and a clef word or a property beside it is no part of it.
-- Both editions read them alike (`same_names`).
use Prim.Native.Nat.{ℕ}
use Prim.Native.String.{String}
use mathlib.Core.Path.{◌≡◌, refl, sym, ◌∙◌}
use mathlib.Core.Bool.{Bool, true, false}
use mathlib.Core.List.{List, [], ◌∷◌, ◌++◌, map}
use Rattle.standard.specs.Bytes.{ascii}
use Rattle.standard.specs.Keys.{Key}
use Rattle.editions.specs.declared.Edition.{Edition}
use Rattle.editions.specs.declared.Edition.TheVariants.{First, Second}
use Rattle.reader.specs.Keys.{named, key_of}
use Rattle.reader.specs.Lines as lines
use Rattle.reader.specs.Lines.{Kind, line_kind}
use Rattle.reader.specs.All.{all}

abbrev majors : List String
majors = "Cb" ∷ "Gb" ∷ "Db" ∷ "Ab" ∷ "Eb" ∷ "Bb" ∷ "F" ∷ "C" ∷ "G" ∷ "D" ∷ "A" ∷ "E" ∷ "B" ∷ "F#" ∷ "C#" ∷ []

abbrev minors : List String
minors = "Ab" ∷ "Eb" ∷ "Bb" ∷ "F" ∷ "C" ∷ "G" ∷ "D" ∷ "A" ∷ "E" ∷ "B" ∷ "F#" ∷ "C#" ∷ "G#" ∷ "D#" ∷ "A#" ∷ []

-- the key that a field with this behind the tonic's name is read as
abbrev spelt : String → String → Key
spelt mode name = key_of First (ascii name ++ ascii mode)

abbrev in_major : String → Key
in_major name = named false (ascii name)

abbrev in_minor : String → Key
in_minor name = named true (ascii name)

pub plain_majors : map (spelt "") majors ≡ map in_major majors
unfolding all
plain_majors = refl

pub maj_majors : map (spelt "maj") majors ≡ map in_major majors
unfolding all
maj_majors = refl

pub major_majors : map (spelt " major") majors ≡ map in_major majors
unfolding all
major_majors = refl

pub Major-majors : map (spelt " Major") majors ≡ map in_major majors
unfolding all
Major-majors = refl

pub m_minors : map (spelt "m") minors ≡ map in_minor minors
unfolding all
m_minors = refl

pub min_minors : map (spelt "min") minors ≡ map in_minor minors
unfolding all
min_minors = refl

pub minor_minors : map (spelt " minor") minors ≡ map in_minor minors
unfolding all
minor_minors = refl

pub Minor-minors : map (spelt " Minor") minors ≡ map in_minor minors
unfolding all
Minor-minors = refl

-- clef words and properties
pub with_clef : map (spelt " treble") majors ≡ map in_major majors
unfolding all
with_clef = refl

pub with_property : map (spelt "m clef=bass octave=1") minors ≡ map in_minor minors
unfolding all
with_property = refl

-- IN BOTH EDITIONS: what may stand behind the name
abbrev major_modes : List String
major_modes = "" ∷ "maj" ∷ "Maj" ∷ "major" ∷ "Major" ∷ " maj" ∷ " Maj" ∷ " major" ∷ " Major" ∷ " MAJOR" ∷ []

abbrev minor_modes : List String
minor_modes = "m" ∷ "min" ∷ "Min" ∷ "minor" ∷ "Minor" ∷ " m" ∷ " min" ∷ " Min" ∷ " minor" ∷ " Minor" ∷ " MINOR" ∷ []

-- the K lines of all names in all spellings
abbrev line_of : Edition → String → String → Kind
line_of ed mode name = line_kind ed (ascii "K:" ++ ascii name ++ ascii mode)

abbrev names_read : Edition → List (List Kind)
names_read ed = map (λ (x : String). map (line_of ed x) majors) major_modes ++ map (λ (x : String). map (line_of ed x) minors) minor_modes

-- from seven flats to seven sharps, 128 added
abbrev fifteen : Bool → List Kind
fifteen minor =
    map (λ (f : ℕ). lines.key (record { fifths = f; minor = minor }))
    (121 ∷ 122 ∷ 123 ∷ 124 ∷ 125 ∷ 126 ∷ 127 ∷ 128 ∷ 129 ∷ 130 ∷ 131 ∷ 132 ∷ 133 ∷ 134 ∷ 135 ∷ [])

pub names_read_lem : (ed : Edition) → names_read ed ≡ map (λ (x : String). fifteen false) major_modes ++ map (λ (x : String). fifteen true) minor_modes
unfolding all
names_read_lem First = refl
names_read_lem Second = refl

pub same_names : names_read First ≡ names_read Second
same_names = names_read_lem First ∙ sym (names_read_lem Second)
