-- Nothing is lost in the packing.
use Prim.Native.Nat.{ℕ, ◌+◌, ◌-◌, ◌*◌, ◌/◌, ◌%◌, ◌<◌}
use mathlib.Core.Path.{◌≡◌, sym, subst}
use mathlib.Core.Bool.{◌&&◌}
use mathlib.Core.List.{List}
use native.Mathlib.Omega.{arith}
use lib.Dec.{leb}
use borrow.Author.Tests.{lt-ltb, le-ltb, leb-true}
use lib.ListN.{length}
use Rattle.editions.specs.declared.Edition.{Edition}
use Rattle.reader.specs.Answer.{Outcome, Answer, read, refused, refused_with, written, parse_abc, answer_of}
use Rattle.laws.proofs.Bools.{by_test, and_right}
use Rattle.bounds.proofs.Reading.{outcome_cases}
use Rattle.reading_list.specs.Numbers.{most_numbers}
use Rattle.reading_walk.specs.Played as list
use Rattle.reading_walk.specs.Played.{list_bytes, listed_in, played_of, has_part, played_measures}
use Rattle.reading_played.proofs.Calls.{length_list}
use Rattle.abc.specs.Packed.{refused_bit, number_unit, unpacked, Short}

-- a length
pub read_back : (n : ℕ) → n < refused_bit → unpacked n ≡ read n
unfolding unpacked
read_back n h = rw (lt-ltb n refused_bit h)

-- a refusal
pub refused_back : (n l : ℕ) → n < 256 → l < number_unit → unpacked (refused_bit + n * number_unit + l) ≡ refused n l
unfolding unpacked
refused_back n l hn hl =
    let k : ℕ = refused_bit + n * number_unit + l in
    let q : (refused_bit + n * number_unit + l - refused_bit) / number_unit ≡ n = omega arith in
    let r : (refused_bit + n * number_unit + l - refused_bit) % number_unit ≡ l = omega arith in
    rw (le-ltb (refused_bit + n * number_unit + l) refused_bit (omega arith)) (λ i. refused (q i) (r i))

-- a reading is at most 23 times as long as its text, which is no longer than 67,108,864 bytes
pub short_answer : (ed : Edition) (text : List ℕ) (rl sl : ℕ) → Short (answer_of (parse_abc ed text rl sl).verdict)
unfolding refused_with written answer_of
short_answer ed text rl sl =
    outcome_cases ed (λ (w : Outcome). Short (answer_of w.verdict)) text rl sl (λ n l h. tt) (λ h. tt) (λ t a h f len short. omega (arith, len, short))

-- the same of an answer that means it
pub short_as : (ed : Edition) (text : List ℕ) (rl sl : ℕ) (a : Answer) → a ≡ answer_of (parse_abc ed text rl sl).verdict → Short a
short_as ed text rl sl a e = subst Short (sym e) (short_answer ed text rl sl)

-- a list has at most 4,294,967,295 numbers
pub short_list : (s : List ℕ) (q n : ℕ) → Short (played_measures s q n).answer
unfolding played_measures listed_in list.refused_with
short_list s q n =
    by_test (has_part s q) (λ e. rw e (short_listed (played_of s q))) (λ e. rw e tt)
  where
    short_listed : (ns : List ℕ) → Short (listed_in ns n).answer
    short_listed ns =
        by_test (leb (length (list_bytes ns)) n && leb (length ns) most_numbers)
        (λ e. rw e (omega (arith, length_list ns, leb-true (length ns) most_numbers (and_right (leb (length (list_bytes ns)) n) (leb (length ns) most_numbers) e))))
        (λ e. rw e tt)

pub short_list_as : (s : List ℕ) (q n : ℕ) (a : Answer) → a ≡ (played_measures s q n).answer → Short a
short_list_as s q n a e = subst Short (sym e) (short_list s q n)
