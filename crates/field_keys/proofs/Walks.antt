-- The loops of `pass_word` and `parse_key`: what is left, after what was passed, gives what the whole gives.
use Prim.Native.Nat.{ℕ, zero, suc, ◌+◌, ◌≤◌, ◌<◌}
use denote.Ref.{Bor}
use native.Mathlib.Nat.{suc-add}
use native.Mathlib.Omega.{arith}
use mathlib.Core.Path.{◌≡◌, refl, ap}
use mathlib.Core.Bool.{Bool, true, false, ◌||◌}
use Rattle.std.specs.Prelude.{Option, Some, None, unwrap_or}
use Rattle.std.specs.Bool.{then_some}
use Rattle.reader.specs.Pieces.{field_words}
use Rattle.reader.specs.Keys.{is_key_word}
use Rattle.text_words.specs.Words.{FirstWord}
use Rattle.field_tonics.specs.declared.Name.{Name}
use mathlib.Core.List.{List, [], ◌∷◌, map}
use lib.Dec.{eqb}
use Rattle.std.specs.List.{list_any}
use lib.ListN.{length, get_or, drop, drop_of_length-le}
use Rattle.laws.specs.Lists.{starts_with, any, foldl, elem, eq_text}
use Rattle.laws.proofs.Lists.{drop_next}
use Rattle.standard.specs.Bytes.{ascii, lower}
use Rattle.field_keys.specs.declared.Passed.{Passed}
use Rattle.field_keys.specs.Passed.{pass_byte, pass_text, pass_word, pass_kept, texts, first_found, key_named, major_else}

-- A BYTE at k
pub pass_on : (p : Passed) (s : List ℕ) (k : ℕ) → k < length s
    → pass_text p (drop k s)
    ≡ pass_text (pass_byte p (get_or s k 0) (starts_with (ascii "min") (map lower (drop k s))) (starts_with (ascii "maj") (map lower (drop k s)))) (drop (k + 1) s)
unfolding pass_text
pass_on p s k h = rw (drop_next s k 0 h)

pub pass_over : (p : Passed) (s : List ℕ) (k : ℕ) → length s ≤ k → pass_text p (drop k s) ≡ p
unfolding pass_text
pass_over p s k h = rw (drop_of_length-le s h)

-- A BYTE of the text, as the library asks for it
pub any_byte : (x : ℕ) (s : List ℕ) → list_any (λ c. eqb c x) s ≡ any (λ c. eqb c x) s
any_byte x [] = refl
any_byte x (c ∷ s) = ap (λ b. eqb c x || b) (any_byte x s)

-- WHAT IS MET, as the library's options have it
pub first_here : (here : Bool) (n : Name) → then_some here n ≡ first_found None here n
unfolding first_found
first_here true n = refl
first_here false n = refl

pub major_or : (o : Option Name) (n : Name) → key_named false (unwrap_or o n) ≡ major_else o n
unfolding major_else
major_or (Some m) n = refl
major_or None n = refl

-- A WORD, if it stays in the key text
pub kept : (p : Passed) (w : List ℕ) → is_key_word w ≡ true → pass_word p w ≡ pass_kept p w
unfolding pass_kept
kept p w e = rw e

pub left_out : (p : Passed) (w : List ℕ) → is_key_word w ≡ false → p ≡ pass_kept p w
unfolding pass_kept
left_out p w e = rw e

-- the words of a text, of which the first was passed
pub walk_on : (t word behind : List ℕ) (p q r : Passed) → FirstWord t word behind → q ≡ pass_kept p word → foldl pass_kept p (field_words t) ≡ r
    → foldl pass_kept q (field_words behind) ≡ r
walk_on t word behind p q r f e h = rw e (rw f.words at h)

-- A TEXT in a list of slices: found there, further on, or nowhere
pub texts_here : (v : List ℕ) (bs : List (Bor (List ℕ))) (i : ℕ) (d : Bor (List ℕ)) → i < length bs → eq_text (get_or bs i d).now v ≡ true → elem v (drop i (texts bs)) ≡ true
texts_here v [] i d h e = absurd (omega arith)
texts_here v (b ∷ bs) zero d h e = rw e
texts_here v (b ∷ bs) (suc i) d h e = texts_here v bs i d (omega arith) e

pub texts_on : (v : List ℕ) (bs : List (Bor (List ℕ))) (i : ℕ) (d : Bor (List ℕ)) → i < length bs → eq_text (get_or bs i d).now v ≡ false
    → elem v (drop i (texts bs)) ≡ elem v (drop (i + 1) (texts bs))
texts_on v [] i d h e = absurd (omega arith)
texts_on v (b ∷ bs) zero d h e = rw e
texts_on v (b ∷ bs) (suc i) d h e = rw (suc-add i 1) (texts_on v bs i d (omega arith) e)

pub texts_end : (v : List ℕ) (bs : List (Bor (List ℕ))) (i : ℕ) → length bs ≤ i → elem v (drop i (texts bs)) ≡ false
texts_end v [] zero h = refl
texts_end v [] (suc i) h = refl
texts_end v (b ∷ bs) zero h = absurd (omega arith)
texts_end v (b ∷ bs) (suc i) h = texts_end v bs i (omega arith)
