-- A name read byte by byte names the tonic of the text without white space around it, for every text.
use Prim.Native.Nat.{ℕ}
use mathlib.Core.Path.{◌≡◌, refl, sym, ◌∙◌}
use mathlib.Core.Bool.{true, false}
use mathlib.Core.Option.{none}
use mathlib.Core.List.{List, [], ◌∷◌}
use Rattle.laws.specs.Lists.{foldl}
use Rattle.laws.proofs.Bools.{by_test}
use Rattle.standard.specs.Keys.{tonic}
use Rattle.reader.specs.Text.{is_space}
use Rattle.reader.specs.Pieces.{trim_start, cons_trim, trim_end, trimmed}
use Rattle.text_words.proofs.Trims.{cons_trim_word}
use Rattle.field_tonics.specs.declared.Name.TheVariants.{One, Gap, Two, Long}
use Rattle.field_tonics.specs.Names.{with_byte, name_of, tonic_in, first_of}

-- more than any name has stays so
long : (c : ℕ) (s : List ℕ) → foldl with_byte (Long c) s ≡ Long c
unfolding with_byte
long c [] = refl
long c (d ∷ s) = long c s

-- white space before a text that is trimmed to nothing goes, and before any other it makes no name
gap : (c d e : ℕ) (t : List ℕ) → is_space d ≡ true → is_space e ≡ true → tonic (c ∷ cons_trim e t) ≡ tonic (c ∷ cons_trim d (cons_trim e t))
unfolding cons_trim tonic
gap c d e [] p q = rw (q, p)
gap c d e (x ∷ t) p q = refl

three : (c d e : ℕ) (t : List ℕ) → tonic (c ∷ cons_trim d (e ∷ t)) ≡ none
unfolding cons_trim tonic
three c d e t = refl

three_of : (c d e : ℕ) (t : List ℕ) → tonic (c ∷ d ∷ e ∷ t) ≡ none
unfolding tonic
three_of c d e t = refl

after_gap : (c d : ℕ) (s : List ℕ) → is_space d ≡ true → tonic_in (foldl with_byte (Gap c) s) ≡ tonic (c ∷ cons_trim d (trim_end s))
unfolding with_byte tonic_in trim_end cons_trim
after_gap c d [] p = rw p
after_gap c d (e ∷ s) p =
    by_test (is_space e) (λ q. rw q (after_gap c e s q ∙ gap c d e (trim_end s) p q))
    (λ q. rw (q, long c s, cons_trim_word e (trim_end s) q) (sym (three c d e (trim_end s))))

two : (c d e : ℕ) (t : List ℕ) → is_space e ≡ true → tonic (c ∷ d ∷ t) ≡ tonic (c ∷ d ∷ cons_trim e t)
unfolding cons_trim tonic
two c d e [] q = rw q
two c d e (x ∷ t) q = refl

after_two : (c d : ℕ) (s : List ℕ) → tonic_in (foldl with_byte (Two c d) s) ≡ tonic (c ∷ d ∷ trim_end s)
unfolding with_byte tonic_in trim_end
after_two c d [] = refl
after_two c d (e ∷ s) =
    by_test (is_space e) (λ q. rw q (after_two c d s ∙ two c d e (trim_end s) q))
    (λ q. rw (q, long c s, cons_trim_word e (trim_end s) q) (sym (three_of c d e (trim_end s))))

after_one : (c : ℕ) (s : List ℕ) → tonic_in (foldl with_byte (One c) s) ≡ tonic (c ∷ trim_end s)
unfolding with_byte tonic_in trim_end
after_one c [] = refl
after_one c (d ∷ s) = by_test (is_space d) (λ q. rw q (after_gap c d s q)) (λ q. rw (q, cons_trim_word d (trim_end s) q) (after_two c d s))

-- for every text
pub name_tonic : (s : List ℕ) → tonic_in (name_of s) ≡ tonic (trimmed s)
unfolding with_byte tonic_in trimmed trim_start trim_end tonic
name_tonic [] = refl
name_tonic (c ∷ s) =
    by_test (is_space c) (λ q. rw (q, trim_start) (name_tonic s)) (λ q. rw (q, trim_start) (rw (cons_trim_word c (trim_end s) q) (after_one c s)))

-- the first byte stays known
first_long : (c : ℕ) (s : List ℕ) → first_of (foldl with_byte (Long c) s) ≡ c
first_long c s = rw (long c s)

first_two : (c d : ℕ) (s : List ℕ) → first_of (foldl with_byte (Two c d) s) ≡ c
unfolding with_byte
first_two c d [] = refl
first_two c d (e ∷ s) = by_test (is_space e) (λ q. rw q (first_two c d s)) (λ q. rw q (first_long c s))

first_gap : (c : ℕ) (s : List ℕ) → first_of (foldl with_byte (Gap c) s) ≡ c
unfolding with_byte
first_gap c [] = refl
first_gap c (e ∷ s) = by_test (is_space e) (λ q. rw q (first_gap c s)) (λ q. rw q (first_long c s))

first_one : (c : ℕ) (s : List ℕ) → first_of (foldl with_byte (One c) s) ≡ c
unfolding with_byte
first_one c [] = refl
first_one c (e ∷ s) = by_test (is_space e) (λ q. rw q (first_gap c s)) (λ q. rw q (first_two c e s))

pub name_first : (c : ℕ) (s : List ℕ) → is_space c ≡ false → first_of (name_of (c ∷ s)) ≡ c
unfolding with_byte
name_first c s q = rw q (first_one c s)
