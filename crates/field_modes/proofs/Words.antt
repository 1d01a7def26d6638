-- An m at the front of a word, the word in which the mode stands, and the key text's first word.
use Prim.Native.Nat.{ℕ, ◌+◌}
use mathlib.Core.Path.{◌≡◌, refl, sym, ap, ◌∙◌}
use mathlib.Core.Bool.{true, false, ◌||◌}
use mathlib.Core.List.{List, [], ◌∷◌, ◌++◌, map}
use native.Mathlib.Omega.{arith}
use lib.Dec.{eqb, leb}
use lib.ListN.{length, get_or, drop}
use borrow.Author.Tests.{leb-true, le-leb}
use Rattle.std.proofs.lemmas.List.{append_assoc}
use Rattle.laws.specs.Lists.{filter, starts_with}
use Rattle.laws.proofs.Bools.{by_test, and_true, and_left, eqb_sym, and_right, and_both}
use Rattle.standard.specs.Bytes.{ascii, first, lower, is, is_capital}
use Rattle.reader.specs.Text.{within}
use Rattle.reader.specs.Keys.{is_key_word}
use Rattle.text_words.specs.Words.{FirstWord}
use Rattle.field_modes.specs.Modes.{mode_at, key_words, KeyWord, mode_from}

-- the byte behind the first, in any case
pub second_lower : (w : List ℕ) → first (drop 1 (map lower w)) ≡ lower (get_or w 1 0)
unfolding lower
second_lower [] = refl
second_lower (c ∷ []) = refl
second_lower (c ∷ d ∷ w) = refl

-- a letter, in any case
pub lower_letter : (c : ℕ) → within 97 122 (lower c) ≡ (within 65 90 c || within 97 122 c)
unfolding lower
lower_letter c =
    by_test (is_capital c)
    (λ e. rw e
    (let a = leb-true 65 c (and_left (leb 65 c) (leb c 90) e) in
    let b = leb-true c 90 (and_right (leb 65 c) (leb c 90) e) in
    and_both (leb 97 (c + 32)) (leb (c + 32) 122) (le-leb 97 (c + 32) (omega arith)) (le-leb (c + 32) 122 (omega arith))))
    (λ e. rw e)

-- an m, in any case
pub says_m : (t : List ℕ) → starts_with (ascii "m") t ≡ is "m" (first t)
says_m [] = refl
says_m (c ∷ t) = and_true (eqb 109 c) ∙ eqb_sym 109 c

-- THE MODE behind the name: in what is left of the name's word, or in the next word
pub from_left : (left : List ℕ) (ws : List (List ℕ)) → (length left ≡ 0 → ⊥) → mode_at left ≡ mode_from left ws
unfolding mode_from
from_left [] ws h = absurd (h refl)
from_left (c ∷ left) ws h = refl

pub from_next : (left : List ℕ) (ws : List (List ℕ)) → length left ≡ 0 → mode_from left ws ≡ mode_from [] ws
from_next [] ws h = refl
from_next (c ∷ left) ws h = absurd (omega (arith, h))

-- THE KEY TEXT'S FIRST WORD, found in what is left of v
abbrev pub Seeking : List ℕ → List ℕ → Type 0
Seeking v rest = ((gap : List ℕ) × (v ≡ gap ++ rest)) × (key_words rest ≡ key_words v)

-- where the first word of what is left stands in v
placed : (v rest word behind : List ℕ) → Seeking v rest → FirstWord rest word behind → (gap : List ℕ) × (v ≡ gap ++ (word ++ behind))
placed v rest word behind h f =
    (h.0.0 ++ f.place.0, h.0.1 ∙ ap (λ (l : List ℕ). h.0.0 ++ l) f.place.1 ∙ sym (append_assoc h.0.0 f.place.0 (word ++ behind)))

pub word_here : (v rest word behind : List ℕ) → Seeking v rest → FirstWord rest word behind → is_key_word word ≡ true → KeyWord v word behind
word_here v rest word behind h f e = record {
  bytes = f.bytes;
  place = placed v rest word behind h f;
  words = sym h.1 ∙ ap (filter is_key_word) f.words ∙ rw e;
}

pub word_on : (v rest word behind : List ℕ) → Seeking v rest → FirstWord rest word behind → is_key_word word ≡ false → Seeking v behind
word_on v rest word behind h f e =
    let p = placed v rest word behind h f in
    ((p.0 ++ word, p.1 ∙ sym (append_assoc p.0 word behind)), sym (ap (filter is_key_word) f.words ∙ rw e) ∙ h.1)
