-- AN ACCEPTED TEXT'S READING HAS ONE PART FOR EACH VOICE, so the parts that demand 3 compares are there; and equal parts have equal sections. Assumes nothing.
use Prim.Native.Nat.{ℕ, max}
use mathlib.Core.Path.{◌≡◌, refl, sym, ap, ◌∙◌}
use mathlib.Core.Bool.{true}
use mathlib.Core.Option.{Option, none, some}
use mathlib.Core.List.{List}
use native.Mathlib.Omega.{arith}
use lib.ListN.{length, get_elem?}
use Rattle.laws.specs.Lists.{elem, index_of}
use Rattle.laws.proofs.Lists.{index_lt}
use Rattle.editions.specs.declared.Edition.{Edition}
use Rattle.reader.proofs.PartLaws as laws
use Rattle.reader.specs.Text.{text_lines}
use Rattle.reader.specs.Steps.{refuse, on, items_of}
use Rattle.reader.specs.Scan.{Out, scan}
use Rattle.reader.specs.Part.{Part}
use Rattle.reader.specs.Records.{sections}
use Rattle.reader.specs.Answer.{Verdict, reading, Outcome, early, refused_with, parts, finish, scanned, unless, parse_abc}
use Rattle.blocks.specs.Demand.{Accepted, state_of, voices, only_voice, part_in, part_of, Hypotheses}
use Rattle.blocks.proofs.Lists.{get_elem?_some}
use Rattle.blocks.proofs.Demand.{by_name}
use Rattle.blocks.proofs.End.{Not, early_not, ended_reading}

abbrev Counted : Verdict → List (List ℕ) → Type 0
Counted v is = (ps : List Part) × (v ≡ reading ps) × (length ps ≡ max 1 (length is))

after_scan : (ed : Edition) (rl sl : ℕ) (y : Out) → Accepted (scanned ed rl sl y) → Counted (scanned ed rl sl y).verdict (state_of y).env.voices
unfolding scanned finish refused_with
after_scan ed rl sl (refuse n l) h = absurd h
after_scan ed rl sl (on s a) h =
    let ps : List Part = parts ed s.env (λ p. items_of p a) (max 1 (length s.env.voices)) 0 in
    (ps, ended_reading ps rl sl h, laws.parts_count ed s.env (λ p. items_of p a) (max 1 (length s.env.voices)) 0)

counted : (ed : Edition) (text : List ℕ) (rl sl : ℕ) (x : Option Outcome) → Not x → Accepted (unless ed text rl sl x) → Counted (unless ed text rl sl x).verdict (voices ed text)
unfolding unless
counted ed text rl sl (some w) n h = absurd (n h)
counted ed text rl sl none n h = after_scan ed rl sl (scan ed (text_lines text)) h

-- as many parts as voices, and one if none is named
pub parts_count : (ed : Edition) (text : List ℕ) (rl sl : ℕ) → Accepted (parse_abc ed text rl sl)
    → (ps : List Part) × ((parse_abc ed text rl sl).verdict ≡ reading ps) × (length ps ≡ max 1 (length (voices ed text)))
unfolding parse_abc
parts_count ed text rl sl h = counted ed text rl sl (early text rl sl) (early_not text rl sl) h

-- the part of each voice is there
pub part_there : (ed : Edition) (text : List ℕ) (rl sl : ℕ) → Accepted (parse_abc ed text rl sl) → (v : List ℕ) → elem v (voices ed text) ≡ true → (x : Part) × (part_of ed text rl sl v ≡ some x)
part_there ed text rl sl h v hv = go (parts_count ed text rl sl h)
  where
    p : ℕ
    p = index_of v (voices ed text)

    go : Counted (parse_abc ed text rl sl).verdict (voices ed text) → (x : Part) × (part_of ed text rl sl v ≡ some x)
    go q =
        let r : (x : Part) × (get_elem? q.0 p ≡ some x) = get_elem?_some q.0 p (omega (arith, q.2, index_lt v (voices ed text) hv)) in
        (r.0, ap (λ (w : Verdict). part_in w p) q.1 ∙ r.1)

-- "every voice's part equals, in all five sections, the one read with all other voices' blocks removed": both are there, and their counts and sections are the same bytes
pub same_sections : (ed : Edition) (text : List ℕ) (rl sl : ℕ) → Hypotheses ed text rl sl → (v : List ℕ) → elem v (voices ed text) ≡ true → (rl' sl' : ℕ) → Accepted (parse_abc ed (only_voice text v) rl' sl')
    → (x : Part) × (y : Part) × (part_of ed text rl sl v ≡ some x) × (part_of ed (only_voice text v) rl' sl' v ≡ some y) × (sections x ≡ sections y)
same_sections ed text rl sl m v hv rl' sl' a =
    let q : (x : Part) × (part_of ed text rl sl v ≡ some x) = part_there ed text rl sl m.accepted v hv in
    (q.0, q.0, q.1, sym (by_name ed text rl sl m v hv rl' sl' a) ∙ q.1, refl)
