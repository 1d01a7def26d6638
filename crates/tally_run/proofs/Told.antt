-- The text that is put out is the definition's, whatever the answer, and so is what the stores hold behind it.
use Prim.Native.Nat.{ℕ, ◌≤◌, ◌<◌}
use mathlib.Core.Path.{◌≡◌, refl, sym, ap, subst, ◌∙◌}
use mathlib.Core.List.{List, [], ◌∷◌}
use native.Mathlib.Omega.{arith}
use borrow.Author.Tests.{le-leb, lt-leb}
use lib.Seq.{length-take-le}
use lib.ListN.{length, take, drop}
use Rattle.laws.specs.Bytes.{splice, u32_at}
use Rattle.laws.proofs.Parts.{part_cut}
use Rattle.laws.proofs.Splices.{length_spliced, drop_splice_past, part_same}
use Rattle.standard.specs.Bytes.{ascii}
use Rattle.editions.specs.declared.Edition.TheVariants.{First}
use Rattle.reader.specs.Part.{Part}
use Rattle.reader.specs.Answer.{Verdict, refusal, reading, Answer, read, refused, answer_of, parse_abc}
use Rattle.reader.specs.Tally.{Counts, tally}
use Rattle.reading_records.specs.Widths.{first_part}
use Rattle.reading_sections.specs.Sections.{PartsWithin}
use Rattle.tally_counts.specs.Counted.{counts_from}
use Rattle.tally_counts.proofs.Encoded.{Read, told_tally}
use Rattle.io.specs.Counts as io
use Rattle.tally_text.specs.Printed.{parts_text, refused_text, verdict_text, most_input, reading_bytes, scratch_bytes, printed, reading_left, scratch_left, Adds}
use Rattle.std.specs.Prelude.{Result, Ok, Err}
use Rattle.refusals.specs.declared.Refused.{Refused}
use Rattle.refusals.specs.Numbers.{number_of}
use Rattle.reading_answers.specs.Answers.{answer_as}
use Rattle.abc_text.proofs.Order.{read≢refused}

-- the store e, which was d: the text p of r bytes, and behind it what was there
pub record Holds (d e p : List ℕ) (r : ℕ) : Type 0 where
  pub counts : io.IsPrefixLen r e
  pub text : take r e ≡ p
  pub rest : drop r e ≡ drop r d

-- a text from the start of the store
pub whole : {d bs e : List ℕ} {r : ℕ} (p : List ℕ) → Adds d 0 bs e r → bs ≡ p → Holds d e p r
whole {d} {bs} {e} {r} p h q =
    let k : r ≡ length bs = omega (arith, h.ends) in
    let m : r ≤ length e = omega (arith, h.fits, length_spliced d e 0 bs h.store) in
    record {
      counts = (m, sym (length-take-le r e m));
      text = (λ i. take (k i) (h.store i)) ∙ part_cut (splice d 0 bs) 0 (length bs) ∙ part_same d 0 bs (omega (arith, h.fits, k)) ∙ q;
      rest = ap (drop r) h.store ∙ drop_splice_past r d 0 bs (omega (arith, k));
    }

-- what is printed
pub short : (input : List ℕ) (rl sl : ℕ) → length input ≤ most_input → rl ≡ reading_bytes → sl ≡ scratch_bytes → verdict_text (parse_abc First input rl sl).verdict ≡ printed input
unfolding printed
short input rl sl h er es = (λ i. verdict_text (parse_abc First input (er i) (es i)).verdict) ∙ sym (rw (le-leb (length input) most_input h))

pub long : (input : List ℕ) → most_input < length input → ascii "too long\n" ≡ printed input
unfolding printed
long input h = rw (lt-leb (length input) most_input h)

-- the other stores: as the answer leaves them
module _ (input d : List ℕ) (rl sl : ℕ) (h : length input ≤ most_input) (er : rl ≡ reading_bytes) (es : sl ≡ scratch_bytes) where
  pub reading_short : (parse_abc First input rl sl).reading ≡ reading_left input d
  unfolding reading_left
  reading_short = (λ i. (parse_abc First input (er i) (es i)).reading) ∙ sym (rw (le-leb (length input) most_input h))

  pub scratch_short : (parse_abc First input rl sl).scratch ≡ scratch_left input d
  unfolding scratch_left
  scratch_short = (λ i. (parse_abc First input (er i) (es i)).scratch) ∙ sym (rw (le-leb (length input) most_input h))

-- or as they were
module _ (input d : List ℕ) (h : most_input < length input) where
  pub reading_long : d ≡ reading_left input d
  unfolding reading_left
  reading_long = rw (lt-leb (length input) most_input h)

  pub scratch_long : d ≡ scratch_left input d
  unfolding scratch_left
  scratch_long = rw (lt-leb (length input) most_input h)

-- a refusal
text_of : Answer → List ℕ
text_of (read n) = []
text_of (refused n l) = refused_text n l

refusal_of : (v : Verdict) (n l : ℕ) → refused n l ≡ answer_of v → refused_text n l ≡ verdict_text v
unfolding answer_of verdict_text text_of
refusal_of (refusal k m) n l e = ap text_of e
refusal_of (reading ps) n l e = absurd (read≢refused _ n l (sym e))

pub refused_text_lem : (v : Verdict) (x : Refused) (n : ℕ) → n ≡ number_of x.refusal → answer_as (Err x) ≡ answer_of v → refused_text n x.line ≡ verdict_text v
refused_text_lem v x n q e = ap (λ (m : ℕ). refused_text m x.line) q ∙ refusal_of v (number_of x.refusal) x.line e

-- a reading
read_of : (v : Verdict) (n : ℕ) → read n ≡ answer_of v → (ps : List Part) × (v ≡ reading ps)
unfolding answer_of
read_of (refusal k m) n e = absurd (read≢refused n k m e)
read_of (reading ps) n e = (ps, refl)

pub record Countable (s : List ℕ) (text : List ℕ) : Type 0 where
  pub room : (first_part ≤ length s) × (u32_at s 0 ≤ 32) × PartsWithin s first_part (u32_at s 0)
  pub is : parts_text (u32_at s 0) (counts_from s first_part (u32_at s 0)) ≡ text

pub read_text : (input : List ℕ) (rl sl : ℕ) (s : List ℕ) (n : ℕ) → answer_as (Ok n) ≡ answer_of (parse_abc First input rl sl).verdict → s ≡ (parse_abc First input rl sl).reading
    → Countable s (verdict_text (parse_abc First input rl sl).verdict)
unfolding verdict_text
read_text input rl sl s n e es =
    let p = read_of (parse_abc First input rl sl).verdict n e in
    let t = told_tally input rl sl p.0 p.1 in
    let x : Read s p.0 = subst (λ (l : List ℕ). Read l p.0) (sym es) t.0 in
    record {
      room = rw x.count (x.room, t.1, x.within);
      is = (λ i. parts_text (x.count i) (counts_from s first_part (x.count i))) ∙ ap (parts_text (length p.0)) x.counts ∙ sym (ap verdict_text p.1);
    }
