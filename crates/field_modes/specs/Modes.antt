-- MODES as the code finds them: by the words of the key text, in the value from left to right.
use Rattle.std.specs.Prelude.{ℕ, ◌<◌, ◌≡◌, Bool, cond, not, ◌&&◌, List, [], ◌∷◌, ◌++◌, length, map, drop, Option, Some, None}
use Rattle.laws.specs.Lists.{filter, starts_with}
use Rattle.standard.specs.Bytes.{is, first, lower}
use Rattle.standard.specs.Keys as standard
use Rattle.standard.specs.Keys.{mode_names, mode_in}
use Rattle.reader.specs.Text.{within}
use Rattle.reader.specs.Pieces.{field_words}
use Rattle.reader.specs.Keys.{is_key_word, or_lone_m}
use Rattle.field_modes.specs.declared.Mode.{Mode}
use Rattle.field_modes.specs.declared.Mode.TheVariants.{Lydian, Ionian, Mixolydian, Dorian, Aeolian, Phrygian, Locrian}
use Rattle.field_modes.specs.declared.ModeName.{ModeName}

-- a mode as the definitions have it
abbrev pub mode_as : Mode → standard.Mode
mode_as Lydian = standard.lydian
mode_as Ionian = standard.ionian
mode_as Mixolydian = standard.mixolydian
mode_as Dorian = standard.dorian
mode_as Aeolian = standard.aeolian
mode_as Phrygian = standard.phrygian
mode_as Locrian = standard.locrian

-- an m or M with no letter behind it at the front of a word
unfoldable pub lone_m : List ℕ → Bool
lone_m w = let t = map lower w in is "m" (first t) && not (within 97 122 (first (drop 1 t)))

-- the mode of the first of the names by which t begins
unfoldable pub named_in : List ModeName → List ℕ → Option Mode
named_in [] t = None
named_in (m ∷ ms) t = cond (starts_with m.name t) (Some m.mode) (named_in ms t)

-- the mode at the front of a word
unfoldable pub mode_at : List ℕ → standard.Mode
mode_at w = let t = map lower w in or_lone_m t (mode_in mode_names t)

-- the words of the key text
abbrev pub key_words : List ℕ → List (List ℕ)
key_words value = filter is_key_word (field_words value)

-- the first word of the key text in v, with a byte at least, and what stands behind it in v
pub record KeyWord (v word behind : List ℕ) : Type 0 where
  pub bytes : 0 < length word
  pub place : (gap : List ℕ) × (v ≡ gap ++ (word ++ behind))
  pub words : key_words v ≡ word ∷ key_words behind

-- the mode behind the name: in what is left of the name's word, else in the next word
unfoldable pub mode_from : List ℕ → List (List ℕ) → standard.Mode
mode_from [] [] = mode_at []
mode_from [] (w ∷ ws) = mode_at w
mode_from (c ∷ s) ws = mode_at (c ∷ s)
