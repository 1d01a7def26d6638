-- Demand 3 of calls: the theorem of crate blocks, at the contract of `parse_abc`.
use Prim.Native.Nat.{ℕ, ◌-◌, max}
use mathlib.Core.Path.{◌≡◌, refl, sym, ap, ◌∙◌}
use mathlib.Core.Option.{some}
use mathlib.Core.List.{List, ◌++◌}
use native.Mathlib.Omega.{arith}
use lib.ListN.{length, get_elem?}
use Rattle.laws.specs.Lists.{index_of}
use Rattle.laws.specs.Bytes.{zeros}
use Rattle.editions.specs.declared.Edition.{Edition}
use Rattle.reader.specs.Part.{Part}
use Rattle.reader.specs.Answer as answers
use Rattle.reader.specs.Answer.{Verdict, refusal, reading, Outcome, read, refused, encode, refused_with, written, parse_abc, answer_of}
use Rattle.bounds.proofs.Reading.{outcome_cases}
use Rattle.blocks.specs.Blocks.{rebuilt}
use Rattle.blocks.specs.Demand.{IsReading, Accepted, voices, only_part, only_voice, part_in, part_of}
use Rattle.blocks.proofs.Demand.{demand_3, by_name}
use Rattle.blocks.proofs.Lists.{get_elem?_some}
use Rattle.blocks.proofs.Parts.{parts_count, part_there}
use Rattle.std.specs.Prelude.{Result, Ok}
use Rattle.refusals.specs.declared.Refused.{Refused}
use Rattle.reading_answers.specs.Answers.{answer_as}
use Rattle.reading_answers.proofs.Same.{same_answer, read_is}
use Rattle.abc_text.specs.Calls.{In-any-order, Holds, Each-part, Each-alone}

-- an accepted text is read, a text that is read is accepted
accepted_read : (v : Verdict) → IsReading v → (r : Result ℕ Refused) → answer_as r ≡ answer_of v → (n : ℕ) × (r ≡ Ok n)
unfolding answer_of
accepted_read (refusal n l) h r e = absurd h
accepted_read (reading ps) h r e = (length (encode ps), read_is r (length (encode ps)) e)

pub read≢refused : (k n l : ℕ) → read k ≡ refused n l → ⊥
read≢refused k n l e = let z : ◌≡◌ {A = ℕ} 0 1 = cc in omega arith

read_accepted : (v : Verdict) (n : ℕ) → read n ≡ answer_of v → IsReading v
unfolding answer_of
read_accepted (refusal k l) n e = absurd (read≢refused n k l e)
read_accepted (reading ps) n e = tt

-- THE FIRST HALF
pub in_any_order : (ed : Edition) → In-any-order ed
in_any_order ed text rl sl m bs mv r r' d d' s s' c c' =
    let e : parse_abc ed (rebuilt text bs) rl sl ≡ parse_abc ed text rl sl = (demand_3 ed text rl sl m).moved bs mv in (
      accepted_read (parse_abc ed text rl sl).verdict m.accepted r c.0,
      (
        same_answer r' r (c'.0 ∙ ap (λ (w : Outcome). answer_of w.verdict) e ∙ sym c.0),
        (
          c'.1.0 ∙ ap (λ (w : Outcome). w.reading) e ∙ sym c.1.0,
          c'.1.1 ∙ ap (λ (w : Outcome). w.scratch) e ∙ sym c.1.1,
        ),
      ),
    )

-- THE SECOND HALF
-- what is behind a reading's verdict
abbrev Written : ℕ → Outcome → Type 0
Written rl w = IsReading w.verdict → (ps : List Part) × ((w.verdict ≡ answers.reading ps) × (w.reading ≡ encode ps ++ zeros (rl - length (encode ps))))

held : (ed : Edition) (text : List ℕ) (rl sl : ℕ) → Written rl (parse_abc ed text rl sl)
unfolding refused_with written
held ed text rl sl = outcome_cases ed (Written rl) text rl sl (λ n l h a. absurd a) (λ h a. absurd a) (λ t a h f len short _. (_, (refl, refl)))

holds_of : (ed : Edition) (text : List ℕ) (rl sl : ℕ) (store : List ℕ) (p : ℕ) (x : Part) → Accepted (parse_abc ed text rl sl) → store ≡ (parse_abc ed text rl sl).reading → part_in (parse_abc ed text rl sl).verdict p ≡ some x → Holds ed text rl sl store p x
holds_of ed text rl sl store p x a s e = let q = held ed text rl sl a in record { parts = q.0; read_as_lem = q.1.0; holds = s ∙ q.1.1; part = e }

pub each_part_lem : (ed : Edition) → Each-part ed
each_part_lem ed text rl sl m p h rl' sl' n r d d' s s' c c' = go (parts_count ed text rl sl m.accepted)
  where
    a : Accepted (parse_abc ed (only_part ed text p) rl' sl')
    a = read_accepted (parse_abc ed (only_part ed text p) rl' sl').verdict n c'.0

    go : (ps : List Part) × ((parse_abc ed text rl sl).verdict ≡ answers.reading ps) × (length ps ≡ max 1 (length (voices ed text))) → (x : Part) × (Holds ed text rl sl d p x × Holds ed (only_part ed text p) rl' sl' d' p x)
    go q =
        let w : (x : Part) × (get_elem? q.0 p ≡ some x) = get_elem?_some q.0 p (omega (arith, q.2, h)) in
        let e : part_in (parse_abc ed text rl sl).verdict p ≡ some w.0 = ap (λ (v : Verdict). part_in v p) q.1 ∙ w.1 in
        (w.0, (holds_of ed text rl sl d p w.0 m.accepted c.1.0 e, holds_of ed (only_part ed text p) rl' sl' d' p w.0 a c'.1.0 (sym ((demand_3 ed text rl sl m).apart p rl' sl' a) ∙ e)))

pub each_alone : (ed : Edition) → Each-alone ed
each_alone ed text rl sl m v hv rl' sl' n r d d' s s' c c' =
    let a : Accepted (parse_abc ed (only_voice text v) rl' sl') = read_accepted (parse_abc ed (only_voice text v) rl' sl').verdict n c'.0 in
    let q : (x : Part) × (part_of ed text rl sl v ≡ some x) = part_there ed text rl sl m.accepted v hv in (
      q.0,
      (
        holds_of ed text rl sl d (index_of v (voices ed text)) q.0 m.accepted c.1.0 q.1,
        holds_of ed (only_voice text v) rl' sl' d' (index_of v (voices ed (only_voice text v))) q.0 a c'.1.0 (sym (by_name ed text rl sl m v hv rl' sl' a) ∙ q.1),
      ),
    )
