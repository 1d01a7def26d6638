-- THE HEAD OF A MEASURE as a row: its width, its counts read back, and what each write into it makes of it.
use Prim.Native.Nat.{ℕ, zero, suc, ◌+◌, ◌*◌, ◌^◌, ◌<◌, ◌≤◌}
use mathlib.Core.Path.{◌≡◌, refl, sym, ap, ◌∙◌}
use mathlib.Core.Bool.{true, false, ◌&&◌}
use mathlib.Core.Option.{Option, none, some}
use mathlib.Core.List.{List, [], ◌∷◌, ◌++◌}
use native.Mathlib.Nat.{add-zero}
use native.Mathlib.Omega.{arith}
use lib.Dec.{eqb}
use borrow.Author.Tests.{eq-eqb, ne_eqb}
use lib.ListN.{length, get_or}
use Rattle.laws.specs.Lists.{all, alter_at}
use Rattle.laws.specs.Bytes.{part, splice, little, le32, u32_at}
use Rattle.laws.proofs.Bools.{and_true, eqb_sym}
use Rattle.laws.proofs.Numbers.{little_at_part, little_at_little, little_at_own}
use Rattle.standard.specs.Keys.{Key}
use Rattle.standard.specs.Bars.{Barline}
use Rattle.standard.specs.Fields.{Meter}
use Rattle.reader.specs.State.{volta_begins}
use Rattle.reader.specs.Codes.{barline_code, volta_code, mode_code}
use Rattle.reader.specs.Records.{key_mark_bytes, pass_bits, signed8, measure_width}
use Rattle.part_layout.specs.Log.{Head, new_head, with_counts, with_left, with_right, with_meter, with_key_mark, with_volta, is_empty_head}
use Rattle.part_layout.specs.Sections.{head_bytes}
use Rattle.part_measures.specs.Heads.{head_row, new_row, no_notes, left_at, right_at, meter_at, key_mark_at, volta_at}

-- WIDTH
length_by : (m : Head) (k : Option Key) → m.key ≡ k → length (head_row m) ≡ measure_width
unfolding head_row little key_mark_bytes
length_by m none e = rw (e, key_mark_bytes)
length_by m (some k) e = rw (e, key_mark_bytes)

pub length_head : (m : Head) → length (head_row m) ≡ measure_width
length_head m = length_by m m.key refl

-- a new measure
pub new_row_lem : (t : Meter) (left : Barline) → new_row (barline_code left) t.0 t.1 ≡ head_row (new_head t left)
unfolding new_row head_row new_head little key_mark_bytes pass_bits volta_code
new_row_lem t left = refl

pub length_new : (left top bottom : ℕ) → length (new_row left top bottom) ≡ measure_width
unfolding new_row
length_new left top bottom = refl

-- part_layout's bytes
bytes_by : (m : Head) (cs : List ℕ) → m.counts ≡ cs → length cs ≡ 4 → head_row m ≡ head_bytes m
unfolding head_row head_bytes little
bytes_by m [] e h = absurd (omega arith)
bytes_by m (a ∷ []) e h = absurd (omega arith)
bytes_by m (a ∷ b ∷ []) e h = absurd (omega arith)
bytes_by m (a ∷ b ∷ c ∷ []) e h = absurd (omega arith)
bytes_by m (a ∷ b ∷ c ∷ d ∷ []) e h = rw e
bytes_by m (a ∷ b ∷ c ∷ d ∷ f ∷ cs) e h = absurd (omega arith)

pub head_row_lem : (m : Head) → length m.counts ≡ 4 → head_row m ≡ head_bytes m
head_row_lem m h = bytes_by m m.counts refl h

-- WRITES
pub head_left : (m : Head) (b : Barline) → splice (head_row m) left_at (barline_code b ∷ []) ≡ head_row (with_left b m)
unfolding head_row splice little
head_left m b = refl

pub head_right : (m : Head) (b : Barline) → splice (head_row m) right_at (barline_code b ∷ []) ≡ head_row (with_right b m)
unfolding head_row splice little
head_right m b = refl

pub head_meter : (m : Head) (t : Meter) → splice (head_row m) meter_at (t.0 ∷ t.1 ∷ []) ≡ head_row (with_meter t m)
unfolding head_row splice little
head_meter m t = refl

mark_by : (m : Head) (k : Key) (o : Option Key) → m.key ≡ o → splice (head_row m) key_mark_at (mode_code k.minor ∷ signed8 k.fifths ∷ []) ≡ head_row (with_key_mark k m)
unfolding head_row splice little key_mark_bytes
mark_by m k none e = rw (e, key_mark_bytes)
mark_by m k (some j) e = rw (e, key_mark_bytes)

pub head_mark : (m : Head) (k : Key) → splice (head_row m) key_mark_at (mode_code k.minor ∷ signed8 k.fifths ∷ []) ≡ head_row (with_key_mark k m)
head_mark m k = mark_by m k m.key refl

volta_by : (m : Head) (ps : List ℕ) (o : Option Key) → m.key ≡ o → splice (head_row m) volta_at ((1 ∷ get_or ps 0 0 ∷ []) ++ le32 (pass_bits ps)) ≡ head_row (with_volta volta_begins ps m)
unfolding head_row splice little key_mark_bytes volta_code
volta_by m ps none e = rw (e, key_mark_bytes)
volta_by m ps (some j) e = rw (e, key_mark_bytes)

pub head_volta : (m : Head) (ps : List ℕ) → splice (head_row m) volta_at ((1 ∷ get_or ps 0 0 ∷ []) ++ le32 (pass_bits ps)) ≡ head_row (with_volta volta_begins ps m)
head_volta m ps = volta_by m ps m.key refl

-- COUNTS
bytes_0 : (m : Head) → part (head_row m) 0 4 ≡ le32 (get_or m.counts 0 0)
unfolding head_row part little
bytes_0 m = refl

bytes_4 : (m : Head) → part (head_row m) 4 4 ≡ le32 (get_or m.counts 1 0)
unfolding head_row part little
bytes_4 m = refl

bytes_8 : (m : Head) → part (head_row m) 8 4 ≡ le32 (get_or m.counts 2 0)
unfolding head_row part little
bytes_8 m = refl

bytes_12 : (m : Head) → part (head_row m) 12 4 ≡ le32 (get_or m.counts 3 0)
unfolding head_row part little
bytes_12 m = refl

-- a number in a row
number_at_lem : (r : List ℕ) (k n : ℕ) → part r k 4 ≡ le32 n → n < 2 ^ 32 → u32_at r k ≡ n
number_at_lem r k n e l = little_at_own 4 r k ∙ ap (λ (b : List ℕ). u32_at b 0) e ∙ little_at_little 4 n l

-- the count of a voice
pub head_count : (m : Head) (v : ℕ) → v < 4 → get_or m.counts v 0 < 2 ^ 32 → u32_at (head_row m) (4 * v) ≡ get_or m.counts v 0
head_count m zero h l = number_at_lem (head_row m) 0 _ (bytes_0 m) l
head_count m (suc zero) h l = number_at_lem (head_row m) 4 _ (bytes_4 m) l
head_count m (suc (suc zero)) h l = number_at_lem (head_row m) 8 _ (bytes_8 m) l
head_count m (suc (suc (suc zero))) h l = number_at_lem (head_row m) 12 _ (bytes_12 m) l
head_count m (suc (suc (suc (suc v)))) h l = absurd (omega arith)

-- one note more in a voice
counted_by : (m : Head) (v : ℕ) (cs : List ℕ) → m.counts ≡ cs → v < 4 → length cs ≡ 4
    → splice (head_row m) (4 * v) (le32 (suc (get_or m.counts v 0))) ≡ head_row (with_counts (alter_at v suc m.counts) m)
unfolding head_row splice little
counted_by m v [] e h l = absurd (omega arith)
counted_by m v (a ∷ []) e h l = absurd (omega arith)
counted_by m v (a ∷ b ∷ []) e h l = absurd (omega arith)
counted_by m v (a ∷ b ∷ c ∷ []) e h l = absurd (omega arith)
counted_by m zero (a ∷ b ∷ c ∷ d ∷ []) e h l = rw e
counted_by m (suc zero) (a ∷ b ∷ c ∷ d ∷ []) e h l = rw e
counted_by m (suc (suc zero)) (a ∷ b ∷ c ∷ d ∷ []) e h l = rw e
counted_by m (suc (suc (suc zero))) (a ∷ b ∷ c ∷ d ∷ []) e h l = rw e
counted_by m (suc (suc (suc (suc v)))) (a ∷ b ∷ c ∷ d ∷ []) e h l = absurd (omega arith)
counted_by m v (a ∷ b ∷ c ∷ d ∷ f ∷ cs) e h l = absurd (omega arith)

pub head_counted : (m : Head) (v : ℕ) → v < 4 → length m.counts ≡ 4
    → splice (head_row m) (4 * v) (le32 (suc (get_or m.counts v 0))) ≡ head_row (with_counts (alter_at v suc m.counts) m)
head_counted m v h l = counted_by m v m.counts refl h l

-- no note: the head is empty
empty_by : (cs : List ℕ) → length cs ≡ 4 → (eqb 0 (get_or cs 0 0) && (eqb 0 (get_or cs 1 0) && (eqb 0 (get_or cs 2 0) && (eqb 0 (get_or cs 3 0) && true)))) ≡ all (eqb 0) cs
empty_by [] h = absurd (omega arith)
empty_by (a ∷ []) h = absurd (omega arith)
empty_by (a ∷ b ∷ []) h = absurd (omega arith)
empty_by (a ∷ b ∷ c ∷ []) h = absurd (omega arith)
empty_by (a ∷ b ∷ c ∷ d ∷ []) h = refl
empty_by (a ∷ b ∷ c ∷ d ∷ f ∷ cs) h = absurd (omega arith)

-- in a store
pub head_empty : (s : List ℕ) (at : ℕ) (m : Head) → part s at measure_width ≡ head_row m → length m.counts ≡ 4 → ((v : ℕ) → v < 4 → get_or m.counts v 0 < 2 ^ 32) → no_notes s at ≡ is_empty_head m
unfolding no_notes
head_empty s at m e h small =
    let n : (v : ℕ) → v < 4 → 4 * v + 4 ≤ measure_width → u32_at s (at + 4 * v) ≡ get_or m.counts v 0 =
    λ v l k. sym (little_at_part 4 s at measure_width (4 * v) k) ∙ ap (λ (r : List ℕ). u32_at r (4 * v)) e ∙ head_count m v l (small v l) in
    let z : u32_at s at ≡ get_or m.counts 0 0 = ap (u32_at s) (sym (add-zero at)) ∙ n 0 (omega arith) (omega arith) in
    rw (z, n 1 (omega arith) (omega arith), n 2 (omega arith) (omega arith), n 3 (omega arith) (omega arith)) (empty_by m.counts h)

-- as the code asks: the first count that is not 0 decides
module _ (s : List ℕ) (at a : ℕ) (ea : a ≡ u32_at s at) where
  pub has_first : (a ≡ 0 → ⊥) → false ≡ no_notes s at
  unfolding no_notes
  has_first h = simp (ne_eqb 0 (u32_at s at) (λ z. h (ea ∙ sym z)))

  module _ (za : a ≡ 0) (b : ℕ) (eb : b ≡ u32_at s (at + 4)) where
    za' : eqb 0 (u32_at s at) ≡ true
    za' = eq-eqb 0 (u32_at s at) (sym za ∙ ea)

    pub has_second : (b ≡ 0 → ⊥) → false ≡ no_notes s at
    unfolding no_notes
    has_second h = simp (za', ne_eqb 0 (u32_at s (at + 4)) (λ z. h (eb ∙ sym z)))

    module _ (zb : b ≡ 0) (c : ℕ) (ec : c ≡ u32_at s (at + 8)) where
      zb' : eqb 0 (u32_at s (at + 4)) ≡ true
      zb' = eq-eqb 0 (u32_at s (at + 4)) (sym zb ∙ eb)

      pub has_third : (c ≡ 0 → ⊥) → false ≡ no_notes s at
      unfolding no_notes
      has_third h = simp (za', zb', ne_eqb 0 (u32_at s (at + 8)) (λ z. h (ec ∙ sym z)))

      pub last_decides : c ≡ 0 → (d : ℕ) → d ≡ u32_at s (at + 12) → eqb d 0 ≡ no_notes s at
      unfolding no_notes
      last_decides zc d ed = simp (za', zb', eq-eqb 0 (u32_at s (at + 8)) (sym zc ∙ ec)) (eqb_sym d 0 ∙ ap (eqb 0) ed ∙ sym (and_true (eqb 0 (u32_at s (at + 12)))))
