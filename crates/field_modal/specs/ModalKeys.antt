-- THE SECOND EDITION'S KEY as the code finds it: by the words of the key text, in the value from left to right.
use Rattle.std.specs.Prelude.{ℕ, ◌≤◌, ◌≡◌, List, take, drop, Result, Ok, Err}
use Rattle.std.proofs.Math.Option.{none, some}
use Rattle.standard.specs.Keys.{Key, tonic}
use Rattle.editions.specs.declared.Edition.{Edition}
use Rattle.reader.specs.Keys.{name_length, key_on, key_of}
use Rattle.reader.specs.Fields.{key_refusal}
use Rattle.refusals.specs.declared.Refusal.{Refusal}
use Rattle.refusals.specs.Numbers.{number_of}
use Rattle.field_keys.specs.declared.Key.{Key as KeyOfCode}
use Rattle.field_keys.specs.Passed.{key_as}
use Rattle.field_modes.specs.Modes.{mode_from}

-- the key by the words of the key text, of which w is the first
unfoldable pub word_key : List ℕ → List (List ℕ) → Key
word_key w ws = key_on (tonic (take (name_length w) w)) (mode_from (drop (name_length w) w) ws)

-- no name of a tonic at the front of w
abbrev pub NoTonic : List ℕ → Type 0
NoTonic w = tonic (take (name_length w) w) ≡ none

-- a name at the front of w, the fifths of its tonic in major, and what is left of w behind it
pub record TonicIs (w : List ℕ) (fifths : ℕ) (rest : List ℕ) : Type 0 where
  pub named : tonic (take (name_length w) w) ≡ some fifths
  pub left : drop (name_length w) w ≡ rest
  pub low : 120 ≤ fifths
  pub high : fifths ≤ 140

-- what a K field's value comes to in an edition: its key, or the refusal
abbrev pub KeyIs : Edition → List ℕ → Result KeyOfCode Refusal → Type 0
KeyIs ed v (Ok k) = (key_refusal ed v ≡ none) × (key_as k ≡ key_of ed v)
KeyIs ed v (Err refusal) = key_refusal ed v ≡ some (number_of refusal)
