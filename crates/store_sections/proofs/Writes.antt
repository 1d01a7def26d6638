-- Laws of writers that are lent a store, one after the other.
use Prim.Native.Nat.{ℕ, ◌+◌, ◌-◌, ◌<◌, ◌≤◌, zero-le}
use mathlib.Core.Path.{◌≡◌, refl, sym, ap, ◌∙◌, subst}
use mathlib.Core.Bool.{true, false}
use mathlib.Core.List.{List, [], ◌++◌}
use native.Mathlib.Nat.{zero-add, add-zero}
use native.Mathlib.Omega.{arith}
use borrow.Author.Tests.{le-leb, lt-leb}
use lib.Dec.{leb}
use lib.Seq.{take_at}
use lib.ListN.{length, take, drop, length-append, length-take, length-drop}
use Rattle.std.specs.Prelude.{Option, Some, None}
use Rattle.laws.specs.Bytes.{splice, zeros, le32}
use Rattle.laws.proofs.Splices.{length_spliced, spliced_next, splice_next, splice_before, splice_nil, splice_zeros, zeros_whole, lent_back, over_eq}
use Rattle.laws.proofs.Numbers.{length_little}
use Rattle.store_sections.specs.Writes.{WroteIs, Filled, reached}

-- what a writer says where its answer is known
pub told : {d bs e : List ℕ} {r q : Option ℕ} → WroteIs d bs e r → r ≡ q → WroteIs d bs e q
told {d} {bs} {e} h p = subst (λ (x : Option ℕ). WroteIs d bs e x) p h

-- the end of what was written is within the store, which is as long as it was
pub in_store : {d a e : List ℕ} {at : ℕ} → WroteIs d a e (Some at) → (at ≤ length e) × (length e ≡ length d)
in_store h =
    let len = length_spliced _ _ _ _ h.says.2 in
    (omega (arith, len, h.says), len)

-- the store as its parts: what was written, and the rest as it was
pub wrote_eq : {d bs e : List ℕ} {n : ℕ} → WroteIs d bs e (Some n) → e ≡ bs ++ drop n d
unfolding splice
wrote_eq {d} {bs} h =
    let (p, q, r) = h.says in
    r ∙ over_eq d bs (omega arith) ∙ ap (λ (k : ℕ). bs ++ drop k d) (sym p)

-- A SECOND WRITER, lent the store from where the first ended
-- it writes b: the two wrote a ++ b
pub next_to : {d a e : List ℕ} {at : ℕ} → WroteIs d a e (Some at) → {b f : List ℕ} {n : ℕ} → WroteIs (take (length e - at) (drop at e)) b f (Some n)
    → WroteIs d (a ++ b) (take at e ++ (f ++ drop (length e - at) (drop at e))) (Some (at + n))
next_to {d} {a} {e} {at} h {b} {f} {n} g =
    let (p, q, r) = h.says in
    let (p', q', r') = g.says in
    let len = length_spliced _ _ _ _ r in
    let room = simp (length-take, length-drop) at q' in
    record {
      says = (
        rw length-append (omega arith),
        omega arith,
        lent_back e at (length e - at) f 0 b r' (omega arith)
            ∙ ap (λ (k : ℕ). splice e k b) (add-zero at) ∙ ap (λ (l : List ℕ). splice l at b) r
            ∙ ap (λ (k : ℕ). splice (splice d 0 a) k b) (p ∙ sym (zero-add (length a))) ∙ splice_next d 0 a b,
      );
    }

-- it has no room: the two have none
pub next_none : {d a e : List ℕ} {at : ℕ} → WroteIs d a e (Some at) → {b f : List ℕ} → WroteIs (take (length e - at) (drop at e)) b f None → {z : List ℕ} → WroteIs d (a ++ b) z None
next_none h g =
    let len = length_spliced _ _ _ _ h.says.2 in
    let room = simp (length-take, length-drop) at g.says in
    record { says = rw length-append (omega (arith, h.says)) }

-- the first has no room: the two have none
pub none : {d a e : List ℕ} → WroteIs d a e None → (b : List ℕ) {z : List ℕ} → WroteIs d (a ++ b) z None
none h b = record { says = rw length-append (omega (arith, h.says)) }

-- A LOOP, which writes record after record
-- nothing written yet
pub start : (d : List ℕ) → WroteIs d [] d (Some 0)
start d = record { says = (refl, zero-le, sym (splice_nil d 0)) }

-- one more, put where the last ended
pub one_more : {d a e : List ℕ} {at : ℕ} → WroteIs d a e (Some at) → {f : List ℕ} (b : List ℕ) → f ≡ splice e at b → at + length b ≤ length e → WroteIs d (a ++ b) f (Some (at + length b))
one_more {d} {a} {e} {at} h {f} b g room =
    let (p, q, r) = h.says in
    let len = length_spliced _ _ _ _ r in
    record { says = (rw length-append (omega arith), omega arith, spliced_next d e f 0 at a b r g (p ∙ sym (zero-add (length a)))) }

-- no room for one more
pub no_more : {d a e : List ℕ} {at : ℕ} → WroteIs d a e (Some at) → (b : List ℕ) → length e < at + length b → {z : List ℕ} → WroteIs d (a ++ b) z None
no_more h b full =
    let len = length_spliced _ _ _ _ h.says.2 in
    record { says = rw length-append (omega (arith, h.says)) }

-- no room for a part of it is no room for all of it
pub none_more : {d a e : List ℕ} → WroteIs d a e None → (b : List ℕ) → length a ≤ length b → {z : List ℕ} → WroteIs d b z None
none_more h b l = record { says = omega (arith, h.says) }

-- A COUNT THAT IS WRITTEN LAST, before the records that it counts
pub count_last : {d e f : List ℕ} (bs : List ℕ) (n : ℕ) → e ≡ splice d 4 bs → f ≡ splice e 0 (le32 n) → 4 + length bs ≤ length d → WroteIs d (le32 n ++ bs) f (Some (4 + length bs))
count_last {d} bs n p q room =
    let four : length (le32 n) ≡ 4 = length_little 4 n in
    let at : 0 + length (le32 n) ≡ 4 = omega arith in
    record {
      says = (
        rw (length-append, four),
        room,
        q ∙ ap (λ (l : List ℕ). splice l 0 (le32 n)) (p ∙ ap (λ (k : ℕ). splice d k bs) (sym at)) ∙ splice_before d 0 (le32 n) bs,
      );
    }

-- THE WHOLE STORE, once the rest of it is cleared
-- after what was written come zeros
pub filled_to : {d bs e : List ℕ} {n : ℕ} → WroteIs d bs e (Some n) → {f : List ℕ} → f ≡ splice e n (zeros (length e - n)) → Filled bs (length d) (Some n) f
filled_to {d} {bs} {e} {n} h {f} g =
    let (p, q, r) = h.says in
    let len = length_spliced _ _ _ _ r in
    let t : take n e ≡ bs = ap (take n) (wrote_eq h) ∙ take_at bs (drop n d) n (sym p) in
    let fits : leb (length bs) (length d) ≡ true = le-leb (length bs) (length d) (omega arith) in
    record { answer = rw (fits, p); store = rw fits (g ∙ splice_zeros e n (omega arith) ∙ rw (t, len, p)) }

-- or, without room, all is zeros
pub filled_none : {d bs e : List ℕ} → WroteIs d bs e None → {f : List ℕ} (g : List ℕ) → length g ≡ length d → f ≡ splice g 0 (zeros (length g - 0)) → Filled bs (length d) None f
filled_none {d} {bs} h {f} g l e =
    let fits : leb (length bs) (length d) ≡ false = lt-leb (length bs) (length d) h.says in
    record { answer = rw fits; store = rw fits (e ∙ zeros_whole g ∙ ap zeros l) }

-- where a writer got to is within the store
pub reached_in : {d bs e : List ℕ} {r : Option ℕ} → WroteIs d bs e r → length e ≡ length d → reached r ≤ length e
reached_in {d} {bs} {e} {r} h l = go r h
  where
    go : (r : Option ℕ) → WroteIs d bs e r → reached r ≤ length e
    go (Some n) h = omega (arith, h.says)
    go None h = zero-le

-- both at once: the store is lent to a writer and then sealed
pub filled : {d bs e : List ℕ} {r : Option ℕ} → WroteIs d bs e r → {f : List ℕ} → length e ≡ length d → f ≡ splice e (reached r) (zeros (length e - reached r)) → Filled bs (length d) r f
filled {d} {bs} {e} {r} h {f} l g = go r h g
  where
    go : (r : Option ℕ) → WroteIs d bs e r → f ≡ splice e (reached r) (zeros (length e - reached r)) → Filled bs (length d) r f
    go (Some n) h g = filled_to h g
    go None h g = filled_none h e l g
