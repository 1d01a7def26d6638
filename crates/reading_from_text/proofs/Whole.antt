-- EVERY STORE THAT `parse_abc` LEAVES IS A WHOLE READING: a reading with its zeros behind it, the reading cut at its length, and what a refusal leaves, where a count of parts fits.
use Prim.Native.Nat.{ℕ, zero, suc, ◌+◌, ◌-◌}
use mathlib.Core.Path.{◌≡◌, refl, sym, ap, subst, ◌∙◌}
use mathlib.Core.Bool.{true}
use mathlib.Core.List.{List, [], ◌∷◌, ◌++◌, append_assoc, append-nil}
use native.Mathlib.Nat.{zero-add}
use native.Mathlib.Omega.{arith}
use lib.Dec.{leb}
use lib.ListN.{length}
use borrow.Author.Tests.{le-leb, leb-true}
use Rattle.laws.specs.Lists.{All}
use Rattle.laws.specs.Bytes.{little, le32, u32_at, zeros}
use Rattle.laws.proofs.Bools.{by_test, and_both, and_no_left}
use Rattle.laws.proofs.Numbers.{length_little}
use Rattle.laws.proofs.Splices.{length_zeros, zeros_add}
use Rattle.editions.specs.declared.Edition.{Edition}
use Rattle.reader.specs.Part.{Part}
use Rattle.reader.specs.Records.{sections}
use Rattle.reader.specs.Answer.{Verdict, refusal, reading, part_bytes, encode, parse_abc}
use Rattle.reader.proofs.Sizes.{Fours}
use Rattle.bounds.specs.Ranges.{PartFits, FourBytes, CountsFit}
use Rattle.bounds.proofs.Reading.{reading_fits}
use Rattle.bounds.proofs.FourBytes.{reading_counts}
use Rattle.reading_records.specs.Widths.{first_part}
use Rattle.reading_sections.specs.Sections.{part_end}
use Rattle.reading_sections.proofs.Encoded.{Here, past, number_here, part_sections, holds, cleared}
use Rattle.reading_whole.specs.Whole.{is_zeros, whole_from, is_whole}
use Rattle.reading_from_text.specs.Stores.{CutWhole, EncodedWhole, ReadingWhole, ZerosWhole, StoreWhole}
use Rattle.reading_from_text.proofs.Parts.{part_whole}

zeros_zeros : (k : ℕ) → is_zeros (zeros k) ≡ true
unfolding is_zeros zeros
zeros_zeros zero = refl
zeros_zeros (suc k) = zeros_zeros k

-- PARTS with zeros behind them
parts_whole : {s : List ℕ} {at : ℕ} (ps : List Part) → All (λ (p : Part). Fours p.measures) ps → All PartFits ps → All CountsFit ps → (k : ℕ) → Here s at (part_bytes ps ++ zeros k) → whole_from s at (length ps) ≡ true
unfolding part_bytes whole_from part_end
parts_whole [] four fits counts k h = ap is_zeros h.is ∙ zeros_zeros k
parts_whole {s} {at} (p ∷ ps) four fits counts k h =
    let rest = part_bytes ps ++ zeros k in
    let x = part_sections p four.0 counts.0 rest (subst (Here s at) (append_assoc (sections p) (part_bytes ps) (zeros k)) h) in
    and_both _ _ (part_whole p four.0 fits.0 counts.0 rest x) (parts_whole {s = s} {at = part_end s at} ps four.1 fits.1 counts.1 k x.text.after)

-- with their count
encode_whole : (ps : List Part) → FourBytes (length ps) → All (λ (p : Part). Fours p.measures) ps → All PartFits ps → All CountsFit ps → (k : ℕ) → is_whole (encode ps ++ zeros k) ≡ true
unfolding encode is_whole
encode_whole ps few four fits counts k =
    let s = encode ps ++ zeros k in
    let rest = part_bytes ps ++ zeros k in
    let e : s ≡ le32 (length ps) ++ rest = append_assoc (le32 (length ps)) (part_bytes ps) (zeros k) in
    let h : Here s 0 (le32 (length ps) ++ rest) = record { is = e; fits = zero-add _ ∙ ap length (sym e) } in
    let g : Here s first_part rest = past (le32 (length ps)) rest first_part (length_little 4 (length ps)) h in
    let n : u32_at s 0 ≡ length ps = number_here (length ps) rest few h in
    and_both _ _ (le-leb first_part (length s) (omega (arith, g.fits))) (ap (whole_from s first_part) n ∙ parts_whole ps four fits counts k g)

-- A READING with k zeros behind it
pub cut_whole : (ed : Edition) → CutWhole ed
cut_whole ed text rl sl ps e k =
    let c = reading_counts ed text rl sl ps e in
    encode_whole ps (omega (arith, c.0)) (holds ed text rl sl ps e).0 (reading_fits ed text rl sl ps e) c.1 k

-- cut at its length
pub encoded_whole : (ed : Edition) → EncodedWhole ed
unfolding zeros
encoded_whole ed text rl sl ps e = ap is_whole (sym (append-nil (encode ps))) ∙ cut_whole ed text rl sl ps e 0

-- in its store
pub reading_whole : (ed : Edition) → ReadingWhole ed
reading_whole ed text rl sl ps e = ap is_whole (holds ed text rl sl ps e).1 ∙ cut_whole ed text rl sl ps e (rl - length (encode ps))

-- ZEROS are a whole reading of no parts
no_parts : encode [] ≡ zeros first_part
unfolding encode part_bytes little zeros
no_parts = refl

pub zeros_whole : ZerosWhole
unfolding is_whole
zeros_whole rl =
    by_test (leb first_part rl)
    (λ e.
    let n : first_part + (rl - first_part) ≡ rl = omega (arith, leb-true first_part rl e) in
    let z : zeros rl ≡ encode [] ++ zeros (rl - first_part) = sym (ap (λ (l : List ℕ). l ++ zeros (rl - first_part)) no_parts ∙ zeros_add first_part (rl - first_part) ∙ ap zeros n) in
    ap is_whole z ∙ encode_whole [] (omega arith) tt tt tt (rl - first_part) ∙ sym e)
    (λ e. and_no_left (leb first_part (length (zeros rl))) _ (ap (leb first_part) (length_zeros rl) ∙ e) ∙ sym e)

-- so is what a refusal leaves
pub refused_whole : (ed : Edition) (text : List ℕ) (rl sl n l : ℕ) → (parse_abc ed text rl sl).verdict ≡ refusal n l → is_whole (parse_abc ed text rl sl).reading ≡ leb first_part rl
refused_whole ed text rl sl n l e = ap is_whole (cleared ed text rl sl n l e) ∙ zeros_whole rl

-- EVERY STORE that the count of parts fits in
pub store_whole : (ed : Edition) → StoreWhole ed
store_whole ed text rl sl room = go (parse_abc ed text rl sl).verdict refl
  where
    go : (v : Verdict) → (parse_abc ed text rl sl).verdict ≡ v → is_whole (parse_abc ed text rl sl).reading ≡ true
    go (refusal n l) e = refused_whole ed text rl sl n l e ∙ le-leb first_part rl room
    go (reading ps) e = reading_whole ed text rl sl ps e
