-- THE SECOND HALF OF DEMAND 3 BY PARTS: "every voice with a part in the first reading is meant", also of a text without a V: line, whose one voice has no name.
use Prim.Native.Nat.{ℕ, suc, ◌+◌, ◌<◌, max}
use mathlib.Core.Path.{◌≡◌, refl, sym, ap, ◌∙◌}
use mathlib.Core.Option.{Option, none, some}
use mathlib.Core.List.{List, [], ◌∷◌, map}
use native.Mathlib.Omega.{arith}
use native.Mathlib.Nat.{zero-add}
use lib.ListN.{length, get_elem?}
use Rattle.editions.specs.declared.Edition.{Edition}
use Rattle.reader.specs.Part.{Part}
use Rattle.laws.specs.Lists.{sum}
use Rattle.laws.proofs.Lists.{sum_map}
use Rattle.standard.specs.Passes.{rising}
use Rattle.reader.specs.Tally.{Counts, counts_of, tally}
use Rattle.reader.specs.Answer.{Verdict, reading, parse_abc}
use Rattle.blocks.specs.Demand.{Accepted, Hypotheses, voices, only_part, part_in}
use Rattle.blocks.proofs.Demand.{demand_3}
use Rattle.blocks.proofs.Parts.{parts_count}
use Rattle.blocks.proofs.Lists.{get_elem?_some}
use Rattle.promises.specs.Arrangement.{tally_of, counts_at}

pub each_part_lem : (ed : Edition) (text : List ℕ) (rl sl : ℕ) → Hypotheses ed text rl sl → (p : ℕ) → p < max 1 (length (voices ed text)) → (rl' sl' : ℕ) → Accepted (parse_abc ed (only_part ed text p) rl' sl')
    → (x : Part) × ((part_in (parse_abc ed text rl sl).verdict p ≡ some x) × (part_in (parse_abc ed (only_part ed text p) rl' sl').verdict p ≡ some x))
each_part_lem ed text rl sl m p h rl' sl' a = go (parts_count ed text rl sl m.accepted)
  where
    go : (ps : List Part) × ((parse_abc ed text rl sl).verdict ≡ reading ps) × (length ps ≡ max 1 (length (voices ed text)))
        → (x : Part) × ((part_in (parse_abc ed text rl sl).verdict p ≡ some x) × (part_in (parse_abc ed (only_part ed text p) rl' sl').verdict p ≡ some x))
    go q =
        let r : (x : Part) × (get_elem? q.0 p ≡ some x) = get_elem?_some q.0 p (omega (arith, q.2, h)) in
        let e : part_in (parse_abc ed text rl sl).verdict p ≡ some r.0 = ap (λ (w : Verdict). part_in w p) q.1 ∙ r.1 in
        (r.0, (e, sym ((demand_3 ed text rl sl m).apart p rl' sl' a) ∙ e))

-- the numbers of the parts
listed : (ps : List Part) (g : ℕ → Counts) (k : ℕ) → ((p : ℕ) → p < length ps → (x : Part) × ((get_elem? ps p ≡ some x) × (counts_of x ≡ g (k + p)))) → tally ps ≡ map g (rising k (length ps))
unfolding tally rising
listed [] g k h = refl
listed (y ∷ ps) g k h =
    let q = h 0 (omega arith) in
    let z : k + 0 ≡ k = omega arith in
    let c : counts_of y ≡ g k = ap counts_of (same_part y q.0 q.1.0) ∙ q.1.1 ∙ ap g z in
    λ i. c i ∷ listed ps g (suc k) (λ p l. let w = h (suc p) (omega (arith, l)) in let n : k + suc p ≡ suc k + p = omega arith in (w.0, (w.1.0, w.1.1 ∙ ap g n))) i
  where
    same_part : (a b : Part) → some a ≡ some b → a ≡ b
    same_part a b e = ap (λ (o : Option Part). elim o as (λ _. Part) [ none ↦ a | some v ↦ v ]) e

-- THE TALLY OF A TUNE IS THAT OF ITS VOICES READ ALONE: line p is what part p counts in the text with all other voices' blocks removed, where each of these texts is accepted
pub tally_alone : (ed : Edition) (text : List ℕ) (rl sl : ℕ) → Hypotheses ed text rl sl → (rl' sl' : ℕ → ℕ) → ((p : ℕ) → p < max 1 (length (voices ed text)) → Accepted (parse_abc ed (only_part ed text p) (rl' p) (sl' p)))
    → tally_of (parse_abc ed text rl sl).verdict ≡ map (λ p. counts_at (parse_abc ed (only_part ed text p) (rl' p) (sl' p)).verdict p) (rising 0 (max 1 (length (voices ed text))))
tally_alone ed text rl sl m rl' sl' acc = go (parts_count ed text rl sl m.accepted)
  where
    g : ℕ → Counts
    g p = counts_at (parse_abc ed (only_part ed text p) (rl' p) (sl' p)).verdict p

    go : (ps : List Part) × ((parse_abc ed text rl sl).verdict ≡ reading ps) × (length ps ≡ max 1 (length (voices ed text))) → tally_of (parse_abc ed text rl sl).verdict ≡ map g (rising 0 (max 1 (length (voices ed text))))
    go q =
        ap tally_of q.1
        ∙ listed q.0 g 0 (λ p l.
        let h : p < max 1 (length (voices ed text)) = omega (arith, l, q.2) in
        let w = each_part_lem ed text rl sl m p h (rl' p) (sl' p) (acc p h) in
        (w.0, (sym (ap (λ (v : Verdict). part_in v p) q.1) ∙ w.1.0, sym (ap (λ (o : Option Part). elim o as (λ _. Counts) [ none ↦ record { measures = 0; sounded = 0; rests = 0; syllables = 0 } | some x ↦ counts_of x ]) w.1.1) ∙ ap g (sym (zero-add p)))))
        ∙ ap (λ (n : ℕ). map g (rising 0 n)) q.2

-- so each sum over the parts is the sum over the voices read alone
pub sum_alone : (ed : Edition) (f : Counts → ℕ) (text : List ℕ) (rl sl : ℕ) → Hypotheses ed text rl sl → (rl' sl' : ℕ → ℕ) → ((p : ℕ) → p < max 1 (length (voices ed text)) → Accepted (parse_abc ed (only_part ed text p) (rl' p) (sl' p)))
    → sum f (tally_of (parse_abc ed text rl sl).verdict) ≡ sum (λ p. f (counts_at (parse_abc ed (only_part ed text p) (rl' p) (sl' p)).verdict p)) (rising 0 (max 1 (length (voices ed text))))
sum_alone ed f text rl sl m rl' sl' acc = ap (sum f) (tally_alone ed text rl sl m rl' sl' acc) ∙ sum_map (λ p. counts_at (parse_abc ed (only_part ed text p) (rl' p) (sl' p)).verdict p) f (rising 0 (max 1 (length (voices ed text))))
