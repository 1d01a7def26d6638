-- The tokens that make nothing.
use Prim.Native.Nat.{ℕ, ◌+◌, ◌-◌, ◌^◌}
use mathlib.Core.Path.{◌≡◌, refl}
use mathlib.Core.Bool.{Bool, not}
use mathlib.Core.Option.{Option, none, some}
use mathlib.Core.List.{List}
use lib.Dec.{ltb}
use lib.ListN.{length, drop}
use Rattle.laws.specs.Lists.{count_while}
use Rattle.laws.proofs.Bools.{by_test}
use Rattle.standard.specs.Bytes.{is, is_digit, first}
use Rattle.standard.specs.Keys.{Key}
use Rattle.editions.specs.declared.Edition.{Edition}
use Rattle.reader.specs.Token.{Token, Taken}
use Rattle.reader.specs.Tuplets.{positive, counted, with_count, with_normal, with_actual, tuplet_of, or_slur, part_or, normal_for}
use Rattle.reader.specs.PassLists.{Listed, listed, faulty, volta_as}
use Rattle.reader.specs.Inline.{unit_token, key_token, field_token, token_unless}
use Rattle.reader.specs.Fields.{unit_inline, key_refusal}
use Rattle.reader.specs.Tokens.{closed_by, broken_of}
use Rattle.reader.specs.Keys.{key_of}
use Rattle.capacity.specs.Covers.{makes, none_made_lem}

abbrev pub Makes-nothing : Taken → Type 0
Makes-nothing t = makes t.token ≡ none_made_lem

-- a quote or decoration
pub closed_free : (x : ℕ → Bool) (t : Token) (s : List ℕ) (other : Taken) → makes t ≡ none_made_lem → Makes-nothing other → Makes-nothing (closed_by x t s other)
unfolding closed_by
closed_free x t s other g h = by_test (ltb (count_while (λ c. not (x c)) s) (length s)) (λ e. rw (e, closed_by) g) (λ e. rw (e, closed_by) h)

-- a broken rhythm
pub broken_free : (up : Bool) (n : ℕ) (s : List ℕ) → Makes-nothing (broken_of up n s)
unfolding broken_of
broken_free up n s = by_test (ltb 255 n) (λ e. rw (e, broken_of)) (λ e. rw (e, broken_of))

-- a tuplet, if there is one
unfoldable Free : Option Taken → Type 0
Free none = Unit {0}
Free (some t) = Makes-nothing t

counted_free : (a q n : ℕ) (o : Option ℕ) → Free (counted a q n o)
unfolding counted Free
counted_free a q n none = tt
counted_free a q n (some r) = refl

count_free : (ed : Edition) (a q n : ℕ) (s : List ℕ) → Free (with_count ed a q n s)
unfolding with_count Free
count_free ed a q n s =
    by_test (is ":" (first s))
    (λ e. rw (e, with_count) (counted_free a q (n + 1 + count_while is_digit (drop 1 s)) (part_or ed a (2 ^ 64 - 1) (drop 1 s))))
    (λ e. rw (e, with_count) refl)

normal_free : (ed : Edition) (a n : ℕ) (s : List ℕ) (o : Option ℕ) → Free (with_normal ed a n s o)
unfolding with_normal Free
normal_free ed a n s none = tt
normal_free ed a n s (some q) = count_free ed a q (n + 1 + count_while is_digit (drop 1 s)) (drop (1 + count_while is_digit (drop 1 s)) s)

actual_free : (ed : Edition) (n : ℕ) (s : List ℕ) (o : Option ℕ) → Free (with_actual ed n s o)
unfolding with_actual Free
actual_free ed n s none = tt
actual_free ed n s (some a) =
    by_test (ltb a 2)
    (λ e. rw (e, with_actual) tt)
    (λ e. rw (e, with_actual)
    (by_test (is ":" (first s)) (λ f. rw (f, with_actual) (normal_free ed a n s (part_or ed (normal_for ed a) 255 (drop 1 s)))) (λ f. rw (f, with_actual) refl)))

slur_free : (o : Option Taken) → Free o → Makes-nothing (or_slur o)
unfolding or_slur Free
slur_free none h = refl
slur_free (some t) h = h

-- a tuplet or a slur
pub tuplet_free : (ed : Edition) (s : List ℕ) → Makes-nothing (or_slur (tuplet_of ed s))
unfolding tuplet_of
tuplet_free ed s = slur_free (tuplet_of ed s) (actual_free ed (1 + count_while is_digit s) (drop (count_while is_digit s) s) (positive 255 s))

-- an ending
pub volta_free : (n : ℕ) (s : List ℕ) (o : Listed) → Makes-nothing (volta_as n s o)
unfolding volta_as
volta_free n s (faulty k) = refl
volta_free n s (listed ps) = refl

unit_free : (o : Option ℕ) → makes (unit_token o) ≡ none_made_lem
unfolding unit_token
unit_free none = refl
unit_free (some u) = refl

unless_free : (k : Key) (o : Option ℕ) → makes (token_unless k o) ≡ none_made_lem
unfolding token_unless
unless_free k none = refl
unless_free k (some n) = refl

key_free : (ed : Edition) (s : List ℕ) → makes (key_token ed s) ≡ none_made_lem
unfolding key_token
key_free ed s = unless_free (key_of ed s) (key_refusal ed s)

-- an inline field
pub field_free : (ed : Edition) (s : List ℕ) → makes (field_token ed s) ≡ none_made_lem
unfolding field_token
field_free ed s =
    by_test (is ":" (first (drop 1 s)))
    (λ e. rw (e, field_token)
    (by_test (is "L" (first s)) (λ f. rw (f, field_token) (unit_free (unit_inline (drop 2 s))))
    (λ f. rw (f, field_token)
    (by_test (is "M" (first s)) (λ g. rw (g, field_token))
    (λ g. rw (g, field_token) (by_test (is "K" (first s)) (λ k. rw (k, field_token) (key_free ed (drop 2 s))) (λ k. rw (k, field_token))))))))
    (λ e. rw (e, field_token))
