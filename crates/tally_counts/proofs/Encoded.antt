-- THE BYTES OF A READING GIVE ITS TALLY: what is read off them is what the definition counts in its parts.
use Prim.Native.Nat.{ℕ, zero, suc, ◌+◌, ◌-◌, ◌*◌, ◌≤◌}
use mathlib.Core.Path.{◌≡◌, refl, sym, ap, subst, ◌∙◌}
use mathlib.Core.Bool.{Bool, true, false, cond, not}
use mathlib.Core.List.{List, [], ◌∷◌, ◌++◌, map, append_assoc}
use native.Mathlib.Nat.{add-zero, zero-add}
use native.Mathlib.Omega.{arith}
use lib.Dec.{eqb}
use lib.Seq.{get_or-drop}
use lib.ListN.{length, get_or}
use Rattle.laws.specs.Lists.{All, filter, concat}
use Rattle.laws.specs.Bytes.{le32, u32_at}
use Rattle.laws.proofs.Bools.{by_test}
use Rattle.laws.proofs.Numbers.{length_little}
use Rattle.standard.specs.Notes.{is_sounded}
use Rattle.editions.specs.declared.Edition.TheVariants.{First}
use Rattle.reader.specs.Codes.{kind_code}
use Rattle.reader.specs.State.{Note}
use Rattle.reader.specs.Part.{Part}
use Rattle.reader.specs.Records.{note_width, sections, notes_of, note_bytes}
use Rattle.reader.specs.Answer.{reading, part_bytes, encode, parse_abc}
use Rattle.reader.specs.Tally.{counts_of, tally}
use Rattle.reader.proofs.CodeLaws.{kind_sounded}
use Rattle.reader.proofs.Sizes.{Fours, note_bytes_lem}
use Rattle.bounds.specs.Ranges.{CountsFit}
use Rattle.bounds.proofs.FourBytes.{reading_counts}
use Rattle.reading_sections.specs.Sections.{notes_at, part_end, PartsWithin}
use Rattle.reading_sections.proofs.Encoded.{Here, past, number_here, after_notes, part_sections, holds}
use Rattle.tally_counts.specs.Counted.{sounded_in, counts_in, counts_from}

-- counted from the front
sounded_front : (s : List ℕ) (at n : ℕ) → sounded_in s at (suc n) ≡ cond (eqb (get_or s at 0) 0) 1 0 + sounded_in s (at + note_width) n
unfolding sounded_in
sounded_front s at zero = let z : at + note_width * 0 ≡ at = omega arith in rw z (omega arith)
sounded_front s at (suc n) =
    let z : at + note_width * suc n ≡ at + note_width + note_width * n = omega arith in
    let h : sounded_in s at n + cond (eqb (get_or s (at + note_width * n) 0) 0) 1 0 ≡ cond (eqb (get_or s at 0) 0) 1 0 + sounded_in s (at + note_width) n = sounded_front s at n in
    rw z (omega (arith, h))

one_note : (b : Bool) (x : ℕ × Note) (xs : List (ℕ × Note)) → cond b 1 0 + length xs ≡ length (cond b (x ∷ xs) xs)
one_note true x xs = omega arith
one_note false x xs = omega arith

sounded_notes : {s : List ℕ} {at : ℕ} (xs : List (ℕ × Note)) (rest : List ℕ) → Here s at (concat (map (λ (x : ℕ × Note). note_bytes x.1) xs) ++ rest)
    → sounded_in s at (length xs) ≡ length (filter (λ (x : ℕ × Note). is_sounded x.1.kind) xs)
unfolding note_bytes sounded_in
sounded_notes [] rest h = refl
sounded_notes {s} {at} (x ∷ xs) rest h =
    let b = note_bytes x.1 in
    let recs = concat (map (λ (x : ℕ × Note). note_bytes x.1) xs) in
    let y : Here s at (b ++ (recs ++ rest)) = subst (Here s at) (append_assoc b recs rest) h in
    let k : get_or s at 0 ≡ kind_code x.1.kind = ap (λ (i : ℕ). get_or s i 0) (sym (add-zero at)) ∙ sym (get_or-drop at s 0 0) ∙ ap (λ (l : List ℕ). get_or l 0 0) y.is in
    let t : eqb (get_or s at 0) 0 ≡ is_sounded x.1.kind = ap (λ (i : ℕ). eqb i 0) k ∙ kind_sounded x.1.kind in
    sounded_front s at (length xs)
    ∙ (λ i. cond (t i) 1 0 + sounded_notes {s = s} {at = at + 12} xs rest (past b (recs ++ rest) 12 (note_bytes_lem x tt) y) i)
    ∙ one_note (is_sounded x.1.kind) x (filter (λ (x : ℕ × Note). is_sounded x.1.kind) xs)

-- those that are rests are the others
others {ℓ} : {A : Type ℓ} (p : A → Bool) (xs : List A) → length xs ≡ length (filter p xs) + length (filter (λ x. not (p x)) xs)
others p [] = refl
others p (x ∷ xs) = by_test (p x) (λ e. rw e (omega (arith, others p xs))) (λ e. rw e (omega (arith, others p xs)))

-- A PART
pub part_here : {s : List ℕ} {at : ℕ} (p : Part) → Fours p.measures → CountsFit p → (rest : List ℕ) → Here s at (sections p ++ rest)
    → (counts_in s at ≡ counts_of p) × Here s (part_end s at) rest
unfolding counts_in counts_of part_end
part_here {s} {at} p f c rest h =
    let x = part_sections p f c rest h in
    let n = x.notes in
    let k : sounded_in s (notes_at s at + 4) (u32_at s (notes_at s at)) ≡ length (filter (λ (x : ℕ × Note). is_sounded x.1.kind) (notes_of p)) =
    ap (sounded_in s (notes_at s at + 4)) n.count ∙ sounded_notes (notes_of p) (after_notes p rest) n.records in
    let r : u32_at s (notes_at s at) - sounded_in s (notes_at s at + 4) (u32_at s (notes_at s at)) ≡ length (filter (λ (x : ℕ × Note). not (is_sounded x.1.kind)) (notes_of p)) =
    omega (arith, k, n.count, others (λ (x : ℕ × Note). is_sounded x.1.kind) (notes_of p)) in
    ((λ i. record { measures = x.measures.count i; sounded = k i; rests = r i; syllables = x.lyrics_are.count i }), x.text.after)

-- THE PARTS
pub parts_here : {s : List ℕ} {at : ℕ} (ps : List Part) → All (λ (p : Part). Fours p.measures) ps → All CountsFit ps → (rest : List ℕ) → Here s at (part_bytes ps ++ rest)
    → (counts_from s at (length ps) ≡ tally ps) × PartsWithin s at (length ps)
unfolding part_bytes counts_from tally PartsWithin
parts_here [] f c rest h = (refl, omega (arith, h.fits))
parts_here {s} {at} (p ∷ ps) f c rest h =
    let x = part_here p f.0 c.0 (part_bytes ps ++ rest) (subst (Here s at) (append_assoc (sections p) (part_bytes ps) rest) h) in
    let y = parts_here {s = s} {at = part_end s at} ps f.1 c.1 rest x.1 in
    ((λ i. x.0 i ∷ y.0 i), (omega (arith, x.1.fits), y.1))

-- A READING, and whatever stands behind it
pub record Read (s : List ℕ) (ps : List Part) : Type 0 where
  pub room : 4 ≤ length s
  pub count : u32_at s 0 ≡ length ps
  pub counts : counts_from s 4 (length ps) ≡ tally ps
  pub within : PartsWithin s 4 (length ps)

pub reading_here : (s : List ℕ) (ps : List Part) → All (λ (p : Part). Fours p.measures) ps → All CountsFit ps → length ps ≤ 32 → (rest : List ℕ) → s ≡ encode ps ++ rest → Read s ps
unfolding encode
reading_here s ps f c few rest e =
    let h : Here s 0 (le32 (length ps) ++ (part_bytes ps ++ rest)) = record { is = e ∙ append_assoc (le32 (length ps)) (part_bytes ps) rest; fits = zero-add _ ∙ ap length (sym (e ∙ append_assoc (le32 (length ps)) (part_bytes ps) rest)) } in
    let g : Here s 4 (part_bytes ps ++ rest) = past (le32 (length ps)) (part_bytes ps ++ rest) 4 (length_little 4 (length ps)) h in
    let y = parts_here ps f c rest g in
    record { room = omega (arith, g.fits); count = number_here (length ps) (part_bytes ps ++ rest) (omega (arith, few)) h; counts = y.0; within = y.1 }

-- THE STORE AFTER A CALL that read a text
pub told_tally : (text : List ℕ) (rl sl : ℕ) (ps : List Part) → (parse_abc First text rl sl).verdict ≡ reading ps → Read (parse_abc First text rl sl).reading ps × (length ps ≤ 32)
told_tally text rl sl ps e =
    let x = holds First text rl sl ps e in
    let y = reading_counts First text rl sl ps e in
    (reading_here (parse_abc First text rl sl).reading ps x.0 y.1 y.0 _ x.1, y.0)
