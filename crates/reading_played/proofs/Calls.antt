-- THE CALL: its refusals, and a list in its store.
use Prim.Native.Nat.{ℕ, ◌+◌, ◌-◌, ◌*◌, ◌/◌, ◌≤◌, ◌<◌, min}
use mathlib.Core.Path.{◌≡◌, refl, sym, ap, ◌∙◌}
use mathlib.Core.Bool.{Bool, true, false, ◌&&◌}
use mathlib.Core.List.{List, ◌++◌}
use native.Mathlib.Nat.{zero-add}
use native.Mathlib.Omega.{arith}
use lib.Dec.{leb}
use lib.ListN.{length, take, length-append}
use lib.Seq.{take_at}
use borrow.Author.Tests.{leb-true, le-leb, lt-leb}
use Rattle.laws.specs.Bytes.{le32, u32_at, splice, zeros, enc_all}
use Rattle.laws.proofs.Bools.{and_left, and_right, and_no_left}
use Rattle.laws.proofs.Numbers.{length_little}
use Rattle.laws.proofs.Splices.{length_splice, splice_before, splice_eq, splice_zeros}
use Rattle.reader.specs.Answer.{read}
use Rattle.reading_list.specs.Numbers.{number_at, most_numbers, Room}
use Rattle.reading_list.proofs.Numbers.{length_enc}
use Rattle.reading_whole.specs.Whole.{is_whole}
use Rattle.reading_walk.specs.Played.{list_bytes, refused_with, listed_in, played_of, has_part, played_measures}

-- A WHOLE READING WITH SUCH A PART, or not
pub part_broken : (s : List ℕ) (q : ℕ) → is_whole s ≡ false → false ≡ has_part s q
unfolding has_part
part_broken s q e = rw e refl

pub part_zero : (s : List ℕ) (q : ℕ) → q ≡ 0 → false ≡ has_part s q
unfolding has_part
part_zero s q e = sym (ap (λ (k : ℕ). is_whole s && leb 1 k && leb k (u32_at s 0)) e ∙ none (is_whole s))
  where
    none : (b : Bool) → (b && leb 1 0 && leb 0 (u32_at s 0)) ≡ false
    none true = refl
    none false = refl

pub part_there : (s : List ℕ) (q : ℕ) → is_whole s ≡ true → (q ≡ 0 → ⊥) → leb q (u32_at s 0) ≡ has_part s q
unfolding has_part
part_there s q e h = rw (e, le-leb 1 q (omega (arith, h))) refl

-- what it says
pub record PartIs (s : List ℕ) (q : ℕ) : Type 0 where
  pub whole : is_whole s ≡ true
  pub least : 1 ≤ q
  pub most : q ≤ u32_at s 0

pub part_is : (s : List ℕ) (q : ℕ) → has_part s q ≡ true → PartIs s q
unfolding has_part
part_is s q e =
    let f = and_left (is_whole s && leb 1 q) (leb q (u32_at s 0)) e in
    record {
      whole = and_left (is_whole s) (leb 1 q) f;
      least = leb-true 1 q (and_right (is_whole s) (leb 1 q) f);
      most = leb-true q (u32_at s 0) (and_right (is_whole s && leb 1 q) (leb q (u32_at s 0)) e);
    }

-- the call
pub call_refused : (s : List ℕ) (q n : ℕ) → has_part s q ≡ false → refused_with 19 n ≡ played_measures s q n
unfolding played_measures
call_refused s q n e = rw e refl

pub call_listed : (s : List ℕ) (q n : ℕ) → has_part s q ≡ true → listed_in (played_of s q) n ≡ played_measures s q n
unfolding played_measures
call_listed s q n e = rw e refl

-- A LIST of so many bytes
pub length_list : (ns : List ℕ) → length (list_bytes ns) ≡ 4 + 4 * length ns
unfolding list_bytes
length_list ns = omega (arith, length-append (le32 (length ns)) (enc_all le32 ns), length_little 4 (length ns), length_enc ns)

-- has no room
short_by : (ns : List ℕ) (n : ℕ) → (leb (length (list_bytes ns)) n && leb (length ns) most_numbers) ≡ false → refused_with 20 n ≡ listed_in ns n
unfolding listed_in
short_by ns n e = rw e refl

pub list_short : (ns : List ℕ) (n : ℕ) → n < 4 → refused_with 20 n ≡ listed_in ns n
list_short ns n h = short_by ns n (and_no_left (leb (length (list_bytes ns)) n) (leb (length ns) most_numbers) (lt-leb (length (list_bytes ns)) n (omega (arith, h, length_list ns))))

-- the room of a store
pub room_is : (l : List ℕ) (room : ℕ) → 4 ≤ length l → room ≡ min ((length l - 4) / 4) most_numbers → Room l room
room_is l room h e = record { fits = omega (arith, h, e); most = omega (arith, e) }

pub list_full : (ns : List ℕ) (n room : ℕ) → 4 ≤ n → room ≡ min ((n - 4) / 4) most_numbers → room < length ns → refused_with 20 n ≡ listed_in ns n
list_full ns n room h e k =
    short_by ns n (go (leb (length (list_bytes ns)) n) refl)
  where
    go : (b : Bool) → leb (length (list_bytes ns)) n ≡ b → (b && leb (length ns) most_numbers) ≡ false
    go false x = refl
    go true x = lt-leb (length ns) most_numbers (omega (arith, h, e, k, length_list ns, leb-true (length (list_bytes ns)) n x))

-- or stands in its store
pub list_fits : (ns l m k z : List ℕ) (room c end : ℕ) → 4 ≤ length l → room ≡ min ((length l - 4) / 4) most_numbers → c ≡ length ns → c ≤ room → end ≡ 4 + 4 * c
    → m ≡ splice l (number_at 0) (enc_all le32 ns) → k ≡ splice m 0 (le32 c) → z ≡ splice k end (zeros (length k - end))
    → (read end ≡ (listed_in ns (length l)).answer) × (z ≡ (listed_in ns (length l)).store)
unfolding listed_in list_bytes
list_fits ns l m k z room c end h e f i j a b d =
    let bs = le32 (length ns) ++ enc_all le32 ns in
    let n : length bs ≡ end = length_list ns ∙ omega (arith, f, j) in
    let fit : length bs ≤ length l = omega (arith, n, j, h, e, i) in
    let t : (leb (length bs) (length l) && leb (length ns) most_numbers) ≡ true = rw (le-leb (length bs) (length l) fit, le-leb (length ns) most_numbers (omega (arith, e, i, f))) refl in
    let w : k ≡ splice l 0 bs =
    b
    ∙ (λ y. splice (a y) 0 (le32 (f y)))
    ∙ ap (λ (y : ℕ). splice (splice l y (enc_all le32 ns)) 0 (le32 (length ns))) (sym (zero-add 4 ∙ refl) ∙ ap (λ (y : ℕ). 0 + y) (sym (length_little 4 (length ns))))
    ∙ splice_before l 0 (le32 (length ns)) (enc_all le32 ns) in
    let u : length k ≡ length l = ap length w ∙ length_splice l 0 bs in
    let v : take end k ≡ bs = ap (take end) (w ∙ splice_eq l 0 bs (omega (arith, fit))) ∙ take_at bs _ end n in
    rw t
    (ap read (sym n), d ∙ splice_zeros k end (omega (arith, u, n, fit)) ∙ (λ y. v y ++ zeros (u y - sym n y)))
