-- The name of a key's tonic, read byte by byte, and the two tables of names.
use Rattle.std.specs.Prelude.{ℕ, Bool, true, false, cond, ◌&&◌, List, [], ◌∷◌, eqb, Option, Some, None, unwrap_or}
use Rattle.std.proofs.Math.Option as maths
use Rattle.laws.specs.Lists.{foldl}
use Rattle.standard.specs.Keys.{tonic}
use Rattle.reader.specs.Text.{is_space}
use Rattle.field_tonics.specs.declared.Name.{Name}
use Rattle.field_tonics.specs.declared.Name.TheVariants.{Empty, One, Gap, Two, Long}
use Rattle.field_tonics.specs.declared.KeyName.{KeyName}

-- one byte more
unfoldable pub with_byte : Name → ℕ → Name
with_byte Empty c = cond (is_space c) Empty (One c)
with_byte (One f) c = cond (is_space c) (Gap f) (Two f c)
with_byte (Gap f) c = cond (is_space c) (Gap f) (Long f)
with_byte (Two f s) c = cond (is_space c) (Two f s) (Long f)
with_byte (Long f) c = Long f

-- the name that a text is, without white space around it
abbrev pub name_of : List ℕ → Name
name_of s = foldl with_byte Empty s

-- the tonic that it names, by the line of fifths
unfoldable pub tonic_in : Name → maths.Option ℕ
tonic_in Empty = maths.none
tonic_in (One f) = tonic (f ∷ [])
tonic_in (Gap f) = tonic (f ∷ [])
tonic_in (Two f s) = tonic (f ∷ s ∷ [])
tonic_in (Long f) = maths.none

-- its first byte, 0 if there is none
abbrev pub first_of : Name → ℕ
first_of Empty = 0
first_of (One f) = f
first_of (Gap f) = f
first_of (Two f s) = f
first_of (Long f) = f

-- two names are the same
unfoldable pub same_name : Name → Name → Bool
same_name Empty Empty = true
same_name (One f) (One g) = eqb f g
same_name (Gap f) (Gap g) = eqb f g
same_name (Two f s) (Two g t) = eqb f g && eqb s t
same_name (Long f) (Long g) = eqb f g
same_name m n = false

-- Cb Gb Db Ab Eb Bb F C G D A E B F# C#
abbrev pub majors : List KeyName
majors =
    record { name = Two 67 98; fifths = 121 }
    ∷ record { name = Two 71 98; fifths = 122 }
    ∷ record { name = Two 68 98; fifths = 123 }
    ∷ record { name = Two 65 98; fifths = 124 }
    ∷ record { name = Two 69 98; fifths = 125 }
    ∷ record { name = Two 66 98; fifths = 126 }
    ∷ record { name = One 70; fifths = 127 }
    ∷ record { name = One 67; fifths = 128 }
    ∷ record { name = One 71; fifths = 129 }
    ∷ record { name = One 68; fifths = 130 }
    ∷ record { name = One 65; fifths = 131 }
    ∷ record { name = One 69; fifths = 132 }
    ∷ record { name = One 66; fifths = 133 }
    ∷ record { name = Two 70 35; fifths = 134 }
    ∷ record { name = Two 67 35; fifths = 135 }
    ∷ []

-- Ab Eb Bb F C G D A E B F# C# G# D# A#
abbrev pub minors : List KeyName
minors =
    record { name = Two 65 98; fifths = 121 }
    ∷ record { name = Two 69 98; fifths = 122 }
    ∷ record { name = Two 66 98; fifths = 123 }
    ∷ record { name = One 70; fifths = 124 }
    ∷ record { name = One 67; fifths = 125 }
    ∷ record { name = One 71; fifths = 126 }
    ∷ record { name = One 68; fifths = 127 }
    ∷ record { name = One 65; fifths = 128 }
    ∷ record { name = One 69; fifths = 129 }
    ∷ record { name = One 66; fifths = 130 }
    ∷ record { name = Two 70 35; fifths = 131 }
    ∷ record { name = Two 67 35; fifths = 132 }
    ∷ record { name = Two 71 35; fifths = 133 }
    ∷ record { name = Two 68 35; fifths = 134 }
    ∷ record { name = Two 65 35; fifths = 135 }
    ∷ []

-- the fifths of the first of the table that has the name
unfoldable pub lookup_in : List KeyName → Name → Option ℕ
lookup_in [] name = None
lookup_in (k ∷ ks) name = cond (same_name k.name name) (Some k.fifths) (lookup_in ks name)

-- the fifths of a name in the table of its mode, 128 where it is none of them
unfoldable pub looked_up : Bool → Name → ℕ
looked_up minor name = unwrap_or (lookup_in (cond minor minors majors) name) 128
