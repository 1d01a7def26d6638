-- HOW MANY NOTES measures count, read off their rows.
use Prim.Native.Nat.{ℕ, zero, suc, ◌+◌, ◌-◌, ◌*◌, ◌^◌, ◌≤◌, ◌<◌}
use mathlib.Core.Path.{◌≡◌, refl, sym, ap, ◌∙◌}
use mathlib.Core.List.{List, [], ◌∷◌}
use native.Mathlib.Nat.{add-zero}
use native.Mathlib.Omega.{arith}
use lib.ListN.{length, get_or}
use Rattle.laws.specs.Lists.{All, sum}
use Rattle.laws.specs.Bytes.{part, u32_at}
use Rattle.laws.proofs.Lists.{get_or_sum}
use Rattle.laws.proofs.Numbers.{little_at_part}
use Rattle.reader.specs.Records.{measure_width}
use Rattle.part_layout.specs.Log.{Head, notes_in}
use Rattle.part_rows.specs.Table.{Table}
use Rattle.part_rows.proofs.Cuts.{table_rest, table_first}
use Rattle.part_measures.specs.Heads.{head_row, note_count, total}
use Rattle.part_measures.proofs.Heads.{length_head, head_count}

-- a head's four counts
four_sum : (cs : List ℕ) → length cs ≡ 4 → sum (λ n. n) cs ≡ get_or cs 0 0 + get_or cs 1 0 + get_or cs 2 0 + get_or cs 3 0
four_sum [] h = absurd (omega arith)
four_sum (a ∷ []) h = absurd (omega arith)
four_sum (a ∷ b ∷ []) h = absurd (omega arith)
four_sum (a ∷ b ∷ c ∷ []) h = absurd (omega arith)
four_sum (a ∷ b ∷ c ∷ d ∷ []) h = omega arith
four_sum (a ∷ b ∷ c ∷ d ∷ e ∷ cs) h = absurd (omega arith)

pub count_out : (s : List ℕ) (h : ℕ) (m : Head) (ms : List Head) → Table head_row measure_width s h (m ∷ ms) → length m.counts ≡ 4 → notes_in m < 2 ^ 32 → note_count s h ≡ notes_in m
unfolding note_count notes_in
count_out s h m ms t four small =
    let place : h + measure_width * 0 ≡ h = omega arith in
    let row = ap (λ (k : ℕ). part s k measure_width) (sym place) ∙ table_first head_row measure_width length_head m ms t in
    let at : (v : ℕ) → v < 4 → 4 * v + 4 ≤ measure_width → u32_at s (h + 4 * v) ≡ get_or m.counts v 0 =
    λ v l k. sym (little_at_part 4 s h measure_width (4 * v) k) ∙ ap (λ (r : List ℕ). u32_at r (4 * v)) row ∙ head_count m v l (omega (arith, get_or_sum m.counts v)) in
    let z : u32_at s h ≡ get_or m.counts 0 0 = ap (u32_at s) (sym (add-zero h)) ∙ at 0 (omega arith) (omega arith) in
    rw (z, at 1 (omega arith) (omega arith), at 2 (omega arith) (omega arith), at 3 (omega arith) (omega arith)) (sym (four_sum m.counts four))

pub total_step : (s : List ℕ) (h n : ℕ) → 0 < n → total s h n ≡ note_count s h + total s (h + measure_width) (n - 1)
unfolding total
total_step s h zero l = absurd (omega arith)
total_step s h (suc n) l = let e : suc n - 1 ≡ n = omega arith in rw e

pub total_out : (s : List ℕ) (h : ℕ) (ms : List Head) → Table head_row measure_width s h ms → All (λ (m : Head). length m.counts ≡ 4) ms → sum notes_in ms < 2 ^ 32 → total s h (length ms) ≡ sum notes_in ms
unfolding total
total_out s h [] t four l = refl
total_out s h (m ∷ ms) t four l =
    rw (count_out s h m ms t four.0 (omega arith), total_out s (h + measure_width) ms (table_rest head_row measure_width length_head (m ∷ []) ms (h + measure_width) (omega arith) t) four.1 (omega arith))
