-- Each token of a line makes no more rows than the bytes it takes can make: the law of Weights, once for each table.
use Prim.Native.Nat.{ℕ, ◌+◌, ◌≤◌, ◌<◌, zero-le}
use mathlib.Core.Path.{◌≡◌, refl, ap, sym, ◌∙◌}
use mathlib.Core.Bool.{Bool, true, cond}
use mathlib.Core.List.{List, [], ◌∷◌, ◌++◌}
use native.Mathlib.Nat.{not-suc-le-zero}
use native.Mathlib.Omega.{arith}
use lib.ListN.{length, take, drop, take-append-drop, length-append, length-drop}
use lib.Seq.{drop-drop}
use Rattle.laws.specs.Lists.{filter, sum}
use Rattle.laws.proofs.Bools.{by_test}
use Rattle.laws.proofs.Lists.{filter_append}
use Rattle.standard.specs.Pitches.{is_letter}
use Rattle.editions.specs.declared.Edition.{Edition}
use Rattle.reader.specs.Tokens.{token_of}
use Rattle.capacity.specs.Sizes.{is_bar, is_rest, is_sign, bars, letters, rests, signs, tones}
use Rattle.capacity.specs.Covers.{Covers, CoversBoth}
use Rattle.capacity.proofs.Weights.{Weights, Covered, weight, token_covered}

-- HOW MANY PASS A TEST, in both parts of a list
pub count_both : (p : ℕ → Bool) (s t : List ℕ) → length (filter p (s ++ t)) ≡ length (filter p s) + length (filter p t)
count_both p s t = ap length (filter_append p s t) ∙ length-append (filter p s) (filter p t)

pub count_split : (p : ℕ → Bool) (n : ℕ) (s : List ℕ) → length (filter p (take n s)) + length (filter p (drop n s)) ≡ length (filter p s)
count_split p n s = sym (count_both p (take n s) (drop n s)) ∙ ap (λ (l : List ℕ). length (filter p l)) (take-append-drop n s)

-- what two texts can make, one behind the other
pub bars_both : (s t : List ℕ) → bars (s ++ t) ≡ bars s + bars t
unfolding bars
bars_both s t = count_both is_bar s t

pub letters_both : (s t : List ℕ) → letters (s ++ t) ≡ letters s + letters t
unfolding letters
letters_both s t = count_both is_letter s t

pub rests_both : (s t : List ℕ) → rests (s ++ t) ≡ rests s + rests t
unfolding rests
rests_both s t = count_both is_rest s t

pub signs_both : (s t : List ℕ) → signs (s ++ t) ≡ signs s + signs t
unfolding signs
signs_both s t = count_both is_sign s t

pub tones_both : (s t : List ℕ) → tones (s ++ t) ≡ tones s + tones t
tones_both s t = omega (arith, letters_both s t, rests_both s t)

-- what the bytes up to a place and those from it on can make
pub bars_split : (n : ℕ) (s : List ℕ) → bars (take n s) + bars (drop n s) ≡ bars s
unfolding bars
bars_split n s = count_split is_bar n s

pub letters_split : (n : ℕ) (s : List ℕ) → letters (take n s) + letters (drop n s) ≡ letters s
unfolding letters
letters_split n s = count_split is_letter n s

pub rests_split : (n : ℕ) (s : List ℕ) → rests (take n s) + rests (drop n s) ≡ rests s
unfolding rests
rests_split n s = count_split is_rest n s

pub signs_split : (n : ℕ) (s : List ℕ) → signs (take n s) + signs (drop n s) ≡ signs s
unfolding signs
signs_split n s = count_split is_sign n s

pub tones_split : (n : ℕ) (s : List ℕ) → tones (take n s) + tones (drop n s) ≡ tones s
tones_split n s = omega (arith, letters_split n s, rests_split n s)

-- one for each byte that passes
abbrev one : Bool → ℕ
one b = cond b 1 0

one_covered : (b : Bool) → b ≡ true → 1 ≤ one b
one_covered b e = rw e (omega arith)

count_sum : (p : ℕ → Bool) (s : List ℕ) → length (filter p s) ≡ sum (λ c. one (p c)) s
count_sum p [] = refl
count_sum p (c ∷ s) = by_test (p c) (λ e. rw e (omega (arith, count_sum p s))) (λ e. rw e (omega (arith, count_sum p s)))

count_two : (p q : ℕ → Bool) (s : List ℕ) → length (filter p s) + length (filter q s) ≡ sum (λ c. one (p c) + one (q c)) s
count_two p q s = omega (arith, count_sum p s, count_sum q s, both s)
  where
    both : (s : List ℕ) → sum (λ c. one (p c)) s + sum (λ c. one (q c)) s ≡ sum (λ c. one (p c) + one (q c)) s
    both [] = refl
    both (c ∷ s) = omega (arith, both s)

-- THE FOUR TABLES, a byte for a row
abbrev for_heads : Weights
for_heads = record { measure = 1; note = 0; pitch = 0; accidental = 0; byte = λ c. one (is_bar c) }

abbrev for_notes : Weights
for_notes = record { measure = 0; note = 1; pitch = 0; accidental = 0; byte = λ c. one (is_letter c) + one (is_rest c) }

abbrev for_pitches : Weights
for_pitches = record { measure = 0; note = 0; pitch = 1; accidental = 0; byte = λ c. one (is_letter c) }

abbrev for_scopes : Weights
for_scopes = record { measure = 0; note = 0; pitch = 0; accidental = 1; byte = λ c. one (is_sign c) }

heads_covered : Covered for_heads
heads_covered = record { letters = λ c e. zero-le; rests = λ c e. zero-le; bars = λ c e. one_covered (is_bar c) e; signs = λ c e. zero-le }

notes_covered : Covered for_notes
notes_covered =
    record {
      letters = λ c e. omega (arith, one_covered (is_letter c) e);
      rests = λ c e. omega (arith, one_covered (is_rest c) e);
      bars = λ c e. zero-le;
      signs = λ c e. zero-le;
    }

pitches_covered : Covered for_pitches
pitches_covered = record { letters = λ c e. one_covered (is_letter c) e; rests = λ c e. zero-le; bars = λ c e. zero-le; signs = λ c e. zero-le }

scopes_covered : Covered for_scopes
scopes_covered = record { letters = λ c e. zero-le; rests = λ c e. zero-le; bars = λ c e. zero-le; signs = λ c e. one_covered (is_sign c) e }

first_cover : (ed : Edition) (c : ℕ) (s : List ℕ) → Covers (token_of ed (c ∷ s)).token (take (token_of ed (c ∷ s)).used (c ∷ s))
unfolding weight bars letters rests signs
first_cover ed c s =
    let l = take (token_of ed (c ∷ s)).used (c ∷ s) in
    record {
      bars_cover = omega (arith, token_covered ed for_heads heads_covered c s, count_sum is_bar l);
      tones_cover = omega (arith, token_covered ed for_notes notes_covered c s, count_two is_letter is_rest l);
      letters_cover = omega (arith, token_covered ed for_pitches pitches_covered c s, count_sum is_letter l);
      signs_cover = omega (arith, token_covered ed for_scopes scopes_covered c s, count_sum is_sign l);
    }

-- THE BYTES OF A TOKEN cover it
pub token_cover : (ed : Edition) (s : List ℕ) → 0 < length s → Covers (token_of ed s).token (take (token_of ed s).used s)
token_cover ed [] h = absurd (not-suc-le-zero h)
token_cover ed (c ∷ s) h = first_cover ed c s

-- at a position of a line
pub token_cover_at : (ed : Edition) (s : List ℕ) (i : ℕ) → i < length s → CoversBoth (token_of ed (drop i s)).token (drop i s) (drop (i + (token_of ed (drop i s)).used) s)
token_cover_at ed s i h =
    let u = (token_of ed (drop i s)).used in
    let l = drop i s in
    let enough = token_cover ed l (omega (arith, length-drop i s)) in
    rw (← drop-drop u i s)
    (record {
      bars_left = omega (arith, enough.bars_cover, bars_split u l);
      tones_left = omega (arith, enough.tones_cover, tones_split u l);
      letters_left = omega (arith, enough.letters_cover, letters_split u l);
      signs_left = omega (arith, enough.signs_cover, signs_split u l);
    })
