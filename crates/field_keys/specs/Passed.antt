-- A key text passed byte by byte: what was met in it, and the key that this makes.
use Rattle.std.specs.Prelude.{ℕ, Bool, true, false, cond, List, [], ◌∷◌, map, eqb, Option, Some, None}
use denote.Ref.{Bor}
use Rattle.laws.specs.Lists.{starts_with}
use Rattle.standard.specs.Bytes.{ascii, lower, is_capital}
use Rattle.standard.specs.Keys.{Key as StandardKey}
use Rattle.reader.specs.Keys.{fifths_of, is_key_word}
use Rattle.field_tonics.specs.declared.Name.{Name}
use Rattle.field_tonics.specs.declared.Name.TheVariants.{Empty}
use Rattle.field_tonics.specs.Names.{with_byte, tonic_in, first_of}
use Rattle.field_keys.specs.declared.Key.{Key}
use Rattle.field_keys.specs.declared.Passed.{Passed}

-- a key as the definitions have it
abbrev pub key_as : Key → StandardKey
key_as k = record { fifths = k.fifths; minor = k.minor }

-- the texts that slices hold
abbrev pub texts : List (Bor (List ℕ)) → List (List ℕ)
texts [] = []
texts (b ∷ bs) = b.now ∷ texts bs

-- the first of what was met before and what stands here
unfoldable pub first_found : Option Name → Bool → Name → Option Name
first_found (Some m) here n = Some m
first_found None here n = cond here (Some n) None

-- one byte more
unfoldable pub pass_byte : Passed → ℕ → Bool → Bool → Passed
pass_byte p c min maj = record {
  name = with_byte p.name c;
  ended = first_found None (eqb c 109) p.name;
  minor = first_found p.minor min p.name;
  major = first_found p.major maj p.name;
}

-- all bytes of a text
unfoldable pub pass_text : Passed → List ℕ → Passed
pass_text p [] = p
pass_text p (c ∷ s) = pass_text (pass_byte p c (starts_with (ascii "min") (map lower (c ∷ s))) (starts_with (ascii "maj") (map lower (c ∷ s)))) s

-- a word and the space before it
unfoldable pub pass_word : Passed → List ℕ → Passed
pass_word p w = pass_text (pass_byte p 32 false false) w

-- a word, if it stays in the key text
unfoldable pub pass_kept : Passed → List ℕ → Passed
pass_kept p w = cond (is_key_word w) (pass_word p w) p

-- nothing was passed
abbrev pub unpassed : Passed
unpassed = record { name = Empty; ended = None; minor = None; major = None }

-- the key on a tonic
unfoldable pub key_named : Bool → Name → StandardKey
key_named minor n = record { fifths = fifths_of minor (tonic_in n); minor = minor }

-- before `maj`, else the text's
unfoldable pub major_else : Option Name → Name → StandardKey
major_else (Some n) name = key_named false n
major_else None name = key_named false name

-- before a final m, if a capital stands first; else major
unfoldable pub ended_else : Option Name → Option Name → Name → StandardKey
ended_else (Some n) major name = cond (is_capital (first_of n)) (key_named true n) (major_else major name)
ended_else None major name = major_else major name

-- before `min`, else before a final m, else major
unfoldable pub key_else : Option Name → Option Name → Option Name → Name → StandardKey
key_else (Some n) ended major name = key_named true n
key_else None ended major name = ended_else ended major name

unfoldable pub key_by : Passed → StandardKey
key_by p = key_else p.minor p.ended p.major p.name
