-- A KEY FIELD'S VALUE (ABC 2.1, 3.1.14): in the first edition as 000 reads it (parse_key, split_abc_clef), in the second with its modes (document 02, T-03).
-- `key_of` is the one place where a key is read.
use Rattle.std.specs.Prelude.{ℕ, ◌-◌, Bool, true, false, cond, not, ◌&&◌, ◌||◌, List, [], ◌∷◌, ◌++◌, map, leb, length, take, drop}
use Rattle.std.proofs.Math.Option.{Option, none, some}
use Rattle.laws.specs.Lists.{any, filter, elem, starts_with}
use Rattle.standard.specs.Bytes.{ascii, is, is_capital, lower, first, last}
use Rattle.standard.specs.Keys.{Key, plain_key, tonic, in_mode, Mode, lydian, ionian, mixolydian, dorian, aeolian, phrygian, locrian, fifths_in, mode_names, mode_in}
use Rattle.editions.specs.declared.Edition.{Edition}
use Rattle.editions.specs.declared.Edition.TheVariants.{First, Second}
use Rattle.reader.specs.Text.{within}
use Rattle.reader.specs.Pieces.{field_words, trim_start, trimmed}

-- from seven flats to seven sharps; anything else reads as none
unfoldable pub in_table : ℕ → ℕ
in_table f = cond (leb 121 f && leb f 135) f 128

-- the fifths of a name; of what is no name, none
unfoldable pub fifths_of : Bool → Option ℕ → ℕ
fifths_of minor none = 128
fifths_of minor (some t) = in_table (in_mode minor t)

-- a key by its tonic's name and its mode (document 01: "fifteen major and fifteen minor names with their fifths")
unfoldable pub named : Bool → List ℕ → Key
named minor name = record { fifths = fifths_of minor (tonic name); minor = minor }

-- "clef words still leave the key text": the seven names, in any case, and every word with an equals sign
unfoldable pub clefs : List (List ℕ)
clefs = ascii "treble" ∷ ascii "bass" ∷ ascii "alto" ∷ ascii "tenor" ∷ ascii "soprano" ∷ ascii "mezzosoprano" ∷ ascii "baritone" ∷ []

-- a word of the key text
unfoldable pub is_key_word : List ℕ → Bool
is_key_word w = not (any (is "=") w || elem (map lower w) clefs)

-- words with one space between
unfoldable pub joined : List (List ℕ) → List ℕ
joined [] = []
joined (w ∷ []) = w
joined (w ∷ v ∷ ws) = w ++ (32 ∷ joined (v ∷ ws))

-- the key text: what clef words leave, joined by one space
unfoldable pub key_text : List ℕ → List ℕ
key_text value = joined (filter is_key_word (field_words value))

-- a byte before what was found
unfoldable pub cons_some : ℕ → Option (List ℕ) → Option (List ℕ)
cons_some c none = none
cons_some c (some s) = some (c ∷ s)

-- what stands before the first place where the text says w (three small letters), in any case; none if it does not
unfoldable pub before_word : List ℕ → List ℕ → Option (List ℕ)
before_word w [] = none
before_word w (c ∷ s) = elim (starts_with w (map lower (take 3 (c ∷ s)))) [ true ↦ some [] | false ↦ cons_some c (before_word w s) ]

-- a capital first and `m` last, as in F#m
unfoldable pub ends_in_m : List ℕ → Bool
ends_in_m k = leb 2 (length k) && is "m" (last k) && is_capital (first k)

-- `maj` anywhere, else a major name as it stands
unfoldable pub major_of : List ℕ → Option (List ℕ) → Key
major_of k none = named false k
major_of k (some name) = named false (trimmed name)

-- `min` anywhere; then a final m; then major
unfoldable pub minor_or : List ℕ → Option (List ℕ) → Key
minor_or k (some name) = named true (trimmed name)
minor_or k none = elim (ends_in_m k) [ true ↦ named true (trimmed (take (length k - 1) k)) | false ↦ major_of k (before_word (ascii "maj") k) ]

-- the key of a key text (000, parse_key)
unfoldable pub key_in : List ℕ → Key
key_in k = minor_or k (before_word (ascii "min") k)

-- THE SECOND EDITION
-- "a name is a capital A to G, perhaps # or b": how many bytes at the front are the name, 0 if there is none
unfoldable pub name_length : List ℕ → ℕ
name_length [] = 0
name_length (c ∷ s) = cond (within 65 71 c) (cond (is "#" (first s) || is "b" (first s)) 2 1) 0

-- "an m or M with no letter after it is minor"; s is in small letters
unfoldable pub or_lone_m : List ℕ → Option Mode → Mode
or_lone_m s (some m) = m
or_lone_m s none = cond (is "m" (first s) && not (within 97 122 (first (drop 1 s)))) aeolian ionian

-- "perhaps white space and a mode (else major), and what follows is skipped"; s stands behind the name
unfoldable pub mode_of : List ℕ → Mode
mode_of s = let t = map lower (trim_start s) in or_lone_m t (mode_in mode_names t)

-- "min, aeo and m are marked 2, all others 1"
unfoldable pub is_minor : Mode → Bool
is_minor lydian = false
is_minor ionian = false
is_minor mixolydian = false
is_minor dorian = false
is_minor aeolian = true
is_minor phrygian = false
is_minor locrian = false

-- "a key with no readable name is C major"
unfoldable pub key_on : Option ℕ → Mode → Key
key_on none m = plain_key
key_on (some t) m = record { fifths = fifths_in m t; minor = is_minor m }

-- the key of a key text: its name, and its mode behind that
unfoldable pub modal_key : List ℕ → Key
modal_key k = let n = name_length k in key_on (tonic (take n k)) (mode_of (drop n k))

-- "21 a key beyond seven sharps or flats"
unfoldable pub is_beyond : Key → Bool
is_beyond k = not (within 121 135 k.fifths)

-- THE KEY of a K field's value
unfoldable pub key_of : Edition → List ℕ → Key
key_of First value = key_in (key_text value)
key_of Second value = modal_key (key_text value)
