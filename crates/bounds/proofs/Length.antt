-- THE LENGTH LAW: a reading is at most 23 times as long as its text.
use Prim.Native.Nat.{ℕ, zero, suc, ◌+◌, ◌-◌, ◌*◌, ◌≤◌, ◌<◌, zero-le}
use mathlib.Core.Path.{◌≡◌, refl, ap}
use mathlib.Core.Bool.{false}
use mathlib.Core.Option.{none}
use mathlib.Core.Logic.{◌⊎◌, inl, inr}
use mathlib.Core.List.{List, [], ◌∷◌}
use native.Mathlib.Omega.{arith}
use lib.Dec.{eqb, lit≤}
use lib.ListN.{length, length-append}
use borrow.Author.Tests.{eqb-true, ne_eqb}
use Rattle.laws.specs.Lists.{sum, any}
use Rattle.laws.proofs.Bools.{by_test}
use Rattle.laws.specs.Bytes.{le32}
use Rattle.laws.proofs.Numbers.{length_little}
use Rattle.editions.specs.declared.Edition.{Edition}
use Rattle.reader.proofs.PartLaws.{parts_count}
use Rattle.reader.specs.Text.{text_lines}
use Rattle.reader.specs.Steps.{items_of}
use Rattle.reader.specs.Scan.{Item, Env, ScanState, begin, scan, Items}
use Rattle.reader.specs.Part.{empty_part}
use Rattle.reader.specs.Records.{sections}
use Rattle.reader.specs.Answer.{is_music, built, parts, part_bytes, encode, measure_count}
use Rattle.bounds.specs.Weights.{item_bytes}
use Rattle.bounds.proofs.Counts.{built_bound}
use Rattle.bounds.proofs.LineWeights.{rows_length, rows_fed}
use Rattle.bounds.proofs.ScanWeights.{Holds, holds_map, Silent, voice_count, Enough, total, Headed, head_budget}

-- EACH ITEM IS OF ONE PART
-- the bytes of a part's own items
abbrev pub share : ℕ → Items → ℕ
share q a = sum item_bytes (items_of q a)

-- those of n parts from number q on
unfoldable pub shares : ℕ → ℕ → Items → ℕ
shares zero q a = 0
shares (suc n) q a = share q a + shares n (suc q) a

-- an item of an earlier part is in none of them
shares_earlier : (n q : ℕ) (x : ℕ × Item) (a : Items) → x.0 < q → shares n q (x ∷ a) ≡ shares n q a
unfolding shares
shares_earlier zero q x a h = refl
shares_earlier (suc n) q x a h = rw (ne_eqb x.0 q (λ e. absurd (omega (arith, e)))) (omega (arith, shares_earlier n (suc q) x a (omega arith)))

-- an item is in one at most
shares_once : (n q : ℕ) (x : ℕ × Item) (a : Items) → shares n q (x ∷ a) ≤ item_bytes x.1 + shares n q a
unfolding shares
shares_once zero q x a = zero-le
shares_once (suc n) q x a =
    by_test (eqb x.0 q) (λ e. rw e (omega (arith, shares_earlier n (suc q) x a (omega (arith, eqb-true x.0 q e)))))
    (λ e. rw e (omega (arith, shares_once n (suc q) x a)))

-- so all parts together have no more than there are
pub shares_all : (n q : ℕ) (a : Items) → shares n q a ≤ sum (λ (x : ℕ × Item). item_bytes x.1) a
unfolding shares
shares_all n q [] = none n q
  where
    none : (n q : ℕ) → shares n q [] ≤ 0
    none zero q = zero-le
    none (suc n) q = omega (arith, none n (suc q))
shares_all n q (x ∷ a) = omega (arith, shares_once n q x a, shares_all n q a)

-- THE PARTS
-- 48 bytes for each, and 23 for each byte of its lines
pub parts_bound : (ed : Edition) (e : Env) (a : Items) (n q : ℕ) → length (part_bytes (parts ed e (λ p. items_of p a) n q)) ≤ 48 * n + 23 * shares n q a
unfolding parts part_bytes shares
parts_bound ed e a zero q = zero-le
parts_bound ed e a (suc n) q =
    let p = built ed e (items_of q a) in
    let ps = parts ed e (λ p. items_of p a) n (suc q) in
    omega (arith, length-append (sections p) (part_bytes ps), built_bound ed e (items_of q a), parts_bound ed e a n (suc q))

pub encode_bound : (ed : Edition) (e : Env) (a : Items) (n : ℕ) → length (encode (parts ed e (λ p. items_of p a) n 0)) ≤ 4 + 48 * n + 23 * sum (λ (x : ℕ × Item). item_bytes x.1) a
unfolding encode
encode_bound ed e a n =
    let ps = parts ed e (λ p. items_of p a) n 0 in
    omega (arith, length-append (le32 (length ps)) (part_bytes ps), length_little 4 (length ps), parts_bound ed e a n 0, shares_all n 0 a)

-- WHERE NOTHING IS PLAYED there is no measure
silent_mine : (q : ℕ) (a : Items) → Silent a → any is_music (items_of q a) ≡ false
silent_mine q [] s = refl
silent_mine q (x ∷ a) s = by_test (eqb x.0 q) (λ e. rw e (rw s.0 (silent_mine q a s.1))) (λ e. rw e (silent_mine q a s.1))

pub silent_parts : (ed : Edition) (e : Env) (a : Items) (n q : ℕ) → Silent a → sum measure_count (parts ed e (λ p. items_of p a) n q) ≡ 0
unfolding parts built measure_count empty_part
silent_parts ed e a zero q s = refl
silent_parts ed e a (suc n) q s = rw (silent_mine q a s) (omega (arith, silent_parts ed e a n (suc q) s))

-- THE SCAN OF A TEXT: nothing is played, or its bytes cover all
total_is : (ed : Edition) (a : Items) → total ed 0 23 23 0 48 a ≡ 23 * sum (λ (x : ℕ × Item). item_bytes x.1) a
total_is ed [] = refl
total_is ed (x ∷ a) = omega (arith, total_is ed a)

section_covered : (ed : Edition) → Enough ed 0 23 23 0 48
section_covered ed = record { bytes = lit≤ tt; lines = lit≤ tt; feed = lit≤ tt; voices = lit≤ tt }

pub scan_bound : (ed : Edition) (text : List ℕ)
    → Holds (λ t a. Silent a ⊎ (4 + 48 * voice_count t + 23 * sum (λ (x : ℕ × Item). item_bytes x.1) a ≤ 23 * length text)) (scan ed (text_lines text))
unfolding scan begin
scan_bound ed text =
    holds_map (Headed ed 0 23 23 0 48 (section_covered ed) 52 (lit≤ tt) begin (sum length (text_lines text))) _ (λ t a h. text_cover t a h) (scan ed (text_lines text))
    (head_budget ed 0 23 23 0 48 (section_covered ed) 52 (lit≤ tt) (text_lines text) (rows_fed text) begin refl)
  where
    text_cover : (t : ScanState) (a : Items) → Headed ed 0 23 23 0 48 (section_covered ed) 52 (lit≤ tt) begin (sum length (text_lines text)) t a
        → Silent a ⊎ (4 + 48 * voice_count t + 23 * sum (λ (x : ℕ × Item). item_bytes x.1) a ≤ 23 * length text)
    text_cover t a (inl h) = inl h
    text_cover t a (inr h) = inr (omega (arith, h, rows_length text, total_is ed a))
