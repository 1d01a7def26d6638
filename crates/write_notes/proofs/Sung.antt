-- THE LYRICS IN THE ORDER OF THE READING, measure by measure: only the notes of voice 0 that are no rests take syllables, and they stand first in a measure.
use Prim.Native.Nat.{ℕ, zero, suc, ◌+◌, ◌<◌}
use mathlib.Core.Path.{◌≡◌, refl, sym, ap, ◌∙◌}
use mathlib.Core.Bool.{true, false}
use mathlib.Core.List.{List, [], ◌∷◌, ◌++◌, map, append-nil, append_assoc}
use native.Mathlib.Omega.{arith}
use lib.Dec.{eqb}
use borrow.Author.Tests.{eqb-true, ne_eqb}
use lib.ListN.{length, drop}
use Rattle.laws.specs.Lists.{All, filter}
use Rattle.laws.proofs.Bools.{by_test, and_no_left}
use Rattle.laws.proofs.Lists.{All-append, All-map, filter_append, filter_none, filter_passes}
use Rattle.reader.specs.State.{Note}
use Rattle.reader.specs.Lyrics.{Syllable}
use Rattle.reader.specs.Records.{is_sung, lyrics_of}
use Rattle.part_layout.specs.Sections.{of_voice, by_voice}
use Rattle.write_notes.proofs.Out.{by_voice_lem, length_by_voice}

-- how many of the notes take syllables
abbrev pub sung_in : List (ℕ × Note) → ℕ
sung_in xs = length (filter is_sung xs)

-- no syllables left
pub lyrics_none : (i : ℕ) (xs : List (ℕ × Note)) → lyrics_of i xs [] ≡ []
unfolding lyrics_of
lyrics_none i [] = refl
lyrics_none i (x ∷ xs) = refl

-- a note that takes none
pub lyrics_passed : (i : ℕ) (x : ℕ × Note) (xs : List (ℕ × Note)) (ws : List (List Syllable)) → is_sung x ≡ false → lyrics_of i (x ∷ xs) ws ≡ lyrics_of (suc i) xs ws
unfolding lyrics_of
lyrics_passed i x xs [] e = sym (lyrics_none (suc i) xs)
lyrics_passed i x xs (w ∷ ws) e = rw (e, lyrics_of)

-- one that takes the next
pub lyrics_taken : (i : ℕ) (x : ℕ × Note) (xs : List (ℕ × Note)) (w : List Syllable) (ws : List (List Syllable)) → is_sung x ≡ true
    → lyrics_of i (x ∷ xs) (w ∷ ws) ≡ map (λ y. (i, y)) w ++ lyrics_of (suc i) xs ws
unfolding lyrics_of
lyrics_taken i x xs w ws e = rw (e, lyrics_of)

drop_none : (n : ℕ) → drop {A = List Syllable} n [] ≡ []
drop_none zero = refl
drop_none (suc n) = refl

-- notes behind others
pub lyrics_append : (i : ℕ) (a b : List (ℕ × Note)) (ws : List (List Syllable)) → lyrics_of i (a ++ b) ws ≡ lyrics_of i a ws ++ lyrics_of (i + length a) b (drop (sung_in a) ws)
unfolding lyrics_of
lyrics_append i a b [] =
    lyrics_none i (a ++ b) ∙ sym (ap (λ (l : List (ℕ × Syllable)). l ++ lyrics_of (i + length a) b (drop (sung_in a) [])) (lyrics_none i a) ∙ ap (lyrics_of (i + length a) b) (drop_none (sung_in a)) ∙ lyrics_none (i + length a) b)
lyrics_append i [] b (w ∷ ws) = let e : i + 0 ≡ i = omega arith in rw e
lyrics_append i (x ∷ a) b (w ∷ ws) =
    let n : i + suc (length a) ≡ suc i + length a = omega arith in
    by_test (is_sung x)
    (λ e. rw (e, lyrics_of) (rw (n, lyrics_append (suc i) a b ws) (sym (append_assoc (map (λ y. (i, y)) w) (lyrics_of (suc i) a ws) (lyrics_of (suc i + length a) b (drop (sung_in a) ws))))))
    (λ e. rw (e, lyrics_of) (rw n (lyrics_append (suc i) a b (w ∷ ws))))

-- notes that take none
pub lyrics_passed_all : (i : ℕ) (xs : List (ℕ × Note)) (ws : List (List Syllable)) → All (λ (x : ℕ × Note). is_sung x ≡ false) xs → lyrics_of i xs ws ≡ []
unfolding lyrics_of
lyrics_passed_all i [] ws h = refl
lyrics_passed_all i (x ∷ xs) ws h = lyrics_passed i x xs ws h.0 ∙ lyrics_passed_all (suc i) xs ws h.1

not_sung : (v : ℕ) (x : ℕ × Note) → eqb x.0 (suc v) ≡ true → is_sung x ≡ false
unfolding is_sung
not_sung v x e = and_no_left _ _ (ne_eqb x.0 0 (λ z. let y = eqb-true x.0 (suc v) e in let q : ◌≡◌ {A = ℕ} 0 (suc v) = sym z ∙ y in absurd (omega arith)))

others : (v : ℕ) (xs : List (ℕ × Note)) → All (λ (x : ℕ × Note). is_sung x ≡ false) (of_voice (suc v) xs)
unfolding of_voice
others v xs = All-map (λ (x : ℕ × Note). eqb x.0 (suc v) ≡ true) (λ (x : ℕ × Note). is_sung x ≡ false) (not_sung v) (filter (λ (x : ℕ × Note). eqb x.0 (suc v)) xs) (filter_passes (λ (x : ℕ × Note). eqb x.0 (suc v)) xs)

-- A MEASURE: the notes xs of voice 0, as written, take the next syllables; the notes behind the measure go on with the others
pub lyrics_measure : (i : ℕ) (xs b : List (ℕ × Note)) (ws : List (List Syllable)) → All (λ (x : ℕ × Note). x.0 < 4) xs
    → lyrics_of i (by_voice xs ++ b) ws ≡ lyrics_of i (of_voice 0 xs) ws ++ lyrics_of (i + length xs) b (drop (sung_in (of_voice 0 xs)) ws)
lyrics_measure i xs b ws h =
    let rest = of_voice 1 xs ++ (of_voice 2 xs ++ of_voice 3 xs) in
    let quiet : All (λ (x : ℕ × Note). is_sung x ≡ false) rest = All-append _ (of_voice 1 xs) (of_voice 2 xs ++ of_voice 3 xs) (others 0 xs) (All-append _ (of_voice 2 xs) (of_voice 3 xs) (others 1 xs) (others 2 xs)) in
    let count : sung_in (by_voice xs) ≡ sung_in (of_voice 0 xs) =
    ap sung_in (by_voice_lem xs) ∙ ap length (filter_append is_sung (of_voice 0 xs) rest) ∙ ap (λ (l : List (ℕ × Note)). length (filter is_sung (of_voice 0 xs) ++ l)) (filter_none is_sung rest quiet)
    ∙ ap length (append-nil (filter is_sung (of_voice 0 xs))) in
    let first : lyrics_of i (by_voice xs) ws ≡ lyrics_of i (of_voice 0 xs) ws =
    ap (λ (l : List (ℕ × Note)). lyrics_of i l ws) (by_voice_lem xs) ∙ lyrics_append i (of_voice 0 xs) rest ws
    ∙ ap (λ (l : List (ℕ × Syllable)). lyrics_of i (of_voice 0 xs) ws ++ l) (lyrics_passed_all (i + length (of_voice 0 xs)) rest (drop (sung_in (of_voice 0 xs)) ws) quiet)
    ∙ append-nil (lyrics_of i (of_voice 0 xs) ws) in
    lyrics_append i (by_voice xs) b ws
    ∙ (λ j. first j ++ lyrics_of (i + length_by_voice xs h j) b (drop (count j) ws))
