-- The loop over the parts: what is written, and what is still to come, are all lines.
use Prim.Native.Nat.{ℕ, suc, ◌+◌, ◌-◌, ◌*◌, ◌≤◌, ◌<◌}
use mathlib.Core.Path.{◌≡◌, refl, sym, ap, subst, ◌∙◌}
use mathlib.Core.List.{List, [], ◌++◌, append_assoc, append-nil}
use native.Mathlib.Omega.{arith}
use lib.ListN.{length}
use Rattle.laws.proofs.Splices.{splice_nil}
use Rattle.reader.specs.Tally.{Counts}
use Rattle.reading_records.specs.Widths.{first_part}
use Rattle.reading_sections.specs.Sections.{part_end, PartsWithin}
use Rattle.tally_counts.specs.Counted.{counts_in, counts_from}
use Rattle.tally_text.specs.Printed.{line, lines, Adds}
use Rattle.tally_text.proofs.Texts.{called, then, line_most}

-- before part i, which begins at `place`
pub record Doing (s : List ℕ) (n : ℕ) (out₀ : List ℕ) (at : ℕ) (out : List ℕ) (end place i : ℕ) : Type 0 where
  pub few : i ≤ n
  pub kept : length out ≡ length out₀
  pub done : List ℕ
  pub added : Adds out₀ at done out end
  pub whole : done ++ lines (suc i) (counts_from s place (n - i)) ≡ lines 1 (counts_from s first_part n)
  pub within : PartsWithin s place (n - i)
  pub room : end + 143 * (n - i) ≤ length out₀

module _ (s : List ℕ) (n : ℕ) (out₀ : List ℕ) (at : ℕ) where
  pub nothing : PartsWithin s first_part n → at + 143 * n ≤ length out₀ → Doing s n out₀ at out₀ at first_part 0
  nothing w r =
      let z : n - 0 ≡ n = omega arith in
      record {
        few = omega arith;
        kept = refl;
        done = [];
        added = record { ends = omega arith; fits = omega arith; store = sym (splice_nil _ _) };
        whole = ap (λ (m : ℕ). lines 1 (counts_from s first_part m)) z;
        within = subst (PartsWithin s first_part) (sym z) w;
        room = omega (arith, r);
      }

  module _ (out : List ℕ) (end place i : ℕ) (h : Doing s n out₀ at out end place i) (l : i < n) where
    one_more : n - i ≡ suc (n - (i + 1))
    one_more = omega arith

    -- there is a part, and room for its line
    pub part_there : part_end s place ≤ length s
    unfolding PartsWithin
    part_there = (subst (PartsWithin s place) one_more h.within).0

    pub line_there : end + 143 ≤ length out
    line_there = omega (arith, h.room, h.kept)

    -- with its line
    pub next : (out' : List ℕ) (end' place' : ℕ) (c : Counts) → c ≡ counts_in s place → place' ≡ part_end s place → length out' ≡ length out → Adds out end (line (i + 1) c) out' end'
        → Doing s n out₀ at out' end' place' (i + 1)
    unfolding PartsWithin counts_from lines
    next out' end' place' c ec ep k a =
        let b : List ℕ = line (suc i) (counts_in s place) in
        let si : i + 1 ≡ suc i = omega arith in
        let a' : Adds out end b out' end' = called _ b a (λ j. line (si j) (ec j)) in
        record {
          few = omega arith;
          kept = k ∙ h.kept;
          done = h.done ++ b;
          added = then h.done b h.added a';
          whole = append_assoc h.done b _ ∙ (λ j. h.done ++ (b ++ lines (suc (si j)) (counts_from s (ep j) (n - (i + 1)))))
              ∙ ap (λ (m : ℕ). h.done ++ lines (suc i) (counts_from s place m)) (sym one_more) ∙ h.whole;
          within = subst (λ (p : ℕ). PartsWithin s p (n - (i + 1))) (sym ep) (subst (PartsWithin s place) one_more h.within).1;
          room = omega (arith, a'.ends, h.room, line_most (suc i) (counts_in s place));
        }

  -- all lines
  pub finished : (out : List ℕ) (end place i : ℕ) → Doing s n out₀ at out end place i → n ≤ i → Adds out₀ at (lines 1 (counts_from s first_part n)) out end
  unfolding counts_from lines
  finished out end place i h l =
      let z : n - i ≡ 0 = omega arith in
      called h.done _ h.added (sym (append-nil h.done) ∙ ap (λ (m : ℕ). h.done ++ lines (suc i) (counts_from s place m)) (sym z) ∙ h.whole)
