-- THE READING, WHOLE: the bytes of its parts as they are written one behind the other, and when there is a measure.
use Prim.Native.Nat.{ℕ, zero, suc, ◌+◌, ◌≤◌, ◌<◌}
use mathlib.Core.Path.{◌≡◌, refl, sym, ap, ◌∙◌}
use mathlib.Core.Bool.{true, false, false≢true}
use mathlib.Core.List.{List, [], ◌∷◌, ◌++◌, append-nil, append_assoc}
use native.Mathlib.Nat.{zero-add}
use native.Mathlib.Omega.{arith}
use lib.Dec.{eqb, leb}
use borrow.Author.Tests.{le-leb, lt-leb, eqb-true, eqb-false}
use Rattle.laws.specs.Lists.{any, sum}
use Rattle.laws.specs.Bytes.{le32}
use Rattle.laws.proofs.Bools.{by_test, or_right, eqb_same}
use Rattle.laws.proofs.Lists.{any_none}
use Rattle.editions.specs.declared.Edition.{Edition}
use Rattle.reader.proofs.PartLaws.{parts_count}
use Rattle.reader.specs.Steps.{items_of}
use Rattle.reader.specs.Scan.{Item, Items, Env}
use Rattle.reader.specs.Records.{sections}
use Rattle.reader.specs.Answer.{is_music, built, parts, part_bytes, encode, measure_count}
use Rattle.bounds.proofs.Length.{silent_parts}
use Rattle.abc_answers.specs.Parts.{parts_of, bytes_of, has_music}
use Rattle.abc_answers.proofs.Silent.{built_sections}
use Rattle.abc_answers.proofs.Sounding.{built_some}
use Rattle.abc_answers.proofs.Owners.{Below}

-- THE BYTES
-- a part more at the end
parts_last : (ed : Edition) (e : Env) (f : ℕ → List Item) (n p : ℕ) → part_bytes (parts ed e f (suc n) p) ≡ part_bytes (parts ed e f n p) ++ sections (built ed e (f (p + n)))
unfolding parts part_bytes
parts_last ed e f zero p = append-nil _ ∙ ap (λ (k : ℕ). sections (built ed e (f k))) (let z : p ≡ p + 0 = omega arith in z)
parts_last ed e f (suc n) p =
    let z : suc p + n ≡ p + suc n = omega arith in
    ap (λ (l : List ℕ). sections (built ed e (f p)) ++ l) (parts_last ed e f n (suc p) ∙ ap (λ (k : ℕ). part_bytes (parts ed e f n (suc p)) ++ sections (built ed e (f k))) z)
    ∙ sym (append_assoc (sections (built ed e (f p))) (part_bytes (parts ed e f n (suc p))) (sections (built ed e (f (p + suc n)))))

parts_same : (ed : Edition) (e : Env) (a : Items) (n : ℕ) → part_bytes (parts ed e (λ p. items_of p a) n 0) ≡ parts_of ed e.header_key a n
unfolding parts part_bytes parts_of
parts_same ed e a zero = refl
parts_same ed e a (suc n) =
    parts_last ed e (λ p. items_of p a) n 0
    ∙ ap (λ (k : ℕ). part_bytes (parts ed e (λ p. items_of p a) n 0) ++ sections (built ed e (items_of k a))) (zero-add n)
    ∙ (λ i. parts_same ed e a n i ++ built_sections ed e (items_of n a) i)

-- the definition's bytes are those that are written
pub encode_same : (ed : Edition) (e : Env) (a : Items) (n : ℕ) → encode (parts ed e (λ p. items_of p a) n 0) ≡ bytes_of ed e.header_key a n
unfolding encode bytes_of
encode_same ed e a n = λ i. le32 (parts_count ed e (λ p. items_of p a) n 0 i) ++ parts_same ed e a n i

-- THE MEASURES
-- a part's items have a music line
loud : (n : ℕ) (a : Items) → Below n a → has_music a ≡ true → (p : ℕ) × (p < n) × (any is_music (items_of p a) ≡ true)
loud n [] b h = absurd (false≢true h)
loud n (x ∷ a) b h = by_test (is_music x.1) (λ m. (x.0, b.0, rw (eqb_same x.0) (rw m))) (λ m. behind (loud n a b.1 (rw m at h)))
  where
    behind : ((p : ℕ) × (p < n) × (any is_music (items_of p a) ≡ true)) → (p : ℕ) × (p < n) × (any is_music (items_of p (x ∷ a)) ≡ true)
    behind q = (q.0, q.1, by_test (eqb x.0 q.0) (λ e. rw e (or_right (is_music x.1) (any is_music (items_of q.0 a)) q.2)) (λ e. rw e q.2))

-- one part's measures are among all
one_of : (ed : Edition) (e : Env) (f : ℕ → List Item) (n q p : ℕ) → q ≤ p → p < q + n → measure_count (built ed e (f p)) ≤ sum measure_count (parts ed e f n q)
unfolding parts
one_of ed e f zero q p l h = absurd (omega arith)
one_of ed e f (suc n) q p l h =
    by_test (eqb q p)
    (λ t. rw (← eqb-true q p t) (omega arith))
    (λ t. omega (arith, one_of ed e f n (suc q) p (later t) (omega arith)))
  where
    later : eqb q p ≡ false → suc q ≤ p
    later t = omega (arith, eqb-false q p t)

-- there is a measure where there is a music line
pub measures_told : (ed : Edition) (e : Env) (a : Items) (n : ℕ) → Below n a → leb 1 (sum measure_count (parts ed e (λ p. items_of p a) n 0)) ≡ has_music a
measures_told ed e a n b = by_test (has_music a) (λ h. yes h (loud n a b h)) no
  where
    all : ℕ
    all = sum measure_count (parts ed e (λ p. items_of p a) n 0)

    yes : has_music a ≡ true → ((p : ℕ) × (p < n) × (any is_music (items_of p a) ≡ true)) → leb 1 all ≡ has_music a
    yes h q =
        le-leb 1 (sum measure_count (parts ed e (λ p. items_of p a) n 0)) (omega (arith, one_of ed e (λ p. items_of p a) n 0 q.0 (omega arith) (omega (arith, q.1)), built_some ed e (items_of q.0 a) q.2))
        ∙ sym h

    no : has_music a ≡ false → leb 1 all ≡ has_music a
    no h =
        lt-leb 1 (sum measure_count (parts ed e (λ p. items_of p a) n 0)) (omega (arith, silent_parts ed e a n 0 (any_none (λ (x : ℕ × Item). is_music x.1) a h)))
        ∙ sym h
