-- ROWS OF VOICE 0: the other voices have none of them.
use Prim.Native.Nat.{ℕ, zero, suc, ◌+◌, ◌-◌, ◌*◌, ◌≤◌, ◌<◌}
use mathlib.Core.Path.{◌≡◌, refl, sym, ap, ◌∙◌}
use mathlib.Core.Bool.{Bool, true, false, cond, ◌&&◌}
use mathlib.Core.List.{List, [], ◌++◌, append-nil, append_assoc}
use native.Mathlib.Omega.{arith}
use borrow.Author.Tests.{eqb-true, ne_eqb}
use lib.ListN.{length, get_or, length-append}
use Rattle.laws.proofs.Bools.{by_test, and_left, and_right, and_both}
use Rattle.reader.specs.Records.{measure_width, note_width}
use Rattle.part_rows.specs.Encoded.{note_row_width, voice_at}
use Rattle.part_rows.specs.Read.{of_voice_at}
use Rattle.std.specs.Prelude.{Some}
use Rattle.store_sections.specs.Writes.{WroteIs}
use Rattle.part_measures.specs.Heads.{note_count, total}
use Rattle.write_notes.specs.Out.{note_out, records_out, voice_out, voices_out, leads, notes_out}
use Rattle.write_notes.proofs.Out.{length_note_out, wrote_as_lem}

-- STEPS, as the loop takes them: row i of k
leads_step : (s : List ℕ) (p k i : ℕ) → i < k → leads s (p + note_row_width * i) (k - i) ≡ (of_voice_at s 0 (p + note_row_width * i) && leads s (p + note_row_width * (i + 1)) (k - (i + 1)))
unfolding leads
leads_step s p k i h =
    let e : k - i ≡ suc (k - (i + 1)) = omega arith in
    let f : p + note_row_width * i + note_row_width ≡ p + note_row_width * (i + 1) = omega arith in
    rw (e, leads, f)

pub leads_no : (s : List ℕ) (p k i : ℕ) → i < k → of_voice_at s 0 (p + note_row_width * i) ≡ false → false ≡ leads s (p + note_row_width * i) (k - i)
leads_no s p k i h n = sym (leads_step s p k i h ∙ rw n)

pub leads_yes : (s : List ℕ) (p k i : ℕ) → i < k → of_voice_at s 0 (p + note_row_width * i) ≡ true → leads s (p + note_row_width * (i + 1)) (k - (i + 1)) ≡ leads s (p + note_row_width * i) (k - i)
leads_yes s p k i h z = sym (leads_step s p k i h ∙ rw z)

pub leads_start : (s : List ℕ) (p k : ℕ) → leads s (p + note_row_width * 0) (k - 0) ≡ leads s p k
leads_start s p k =
    let e : k - 0 ≡ k = omega arith in
    let f : p + note_row_width * 0 ≡ p = omega arith in
    λ i. leads s (f i) (e i)

pub leads_end : (s : List ℕ) (p k i : ℕ) → k ≤ i → true ≡ leads s p (k - i)
unfolding leads
leads_end s p k i h = let e : k - i ≡ 0 = omega arith in rw e

-- the first row, and the others
module _ (s : List ℕ) (p k : ℕ) (e : leads s p (suc k) ≡ true) where
  pub lead_first : of_voice_at s 0 p ≡ true
  unfolding leads
  lead_first = and_left (of_voice_at s 0 p) (leads s (p + note_row_width) k) e

  pub lead_rest : leads s (p + note_row_width) k ≡ true
  unfolding leads
  lead_rest = and_right (of_voice_at s 0 p) (leads s (p + note_row_width) k) e

  pub lead_only : (v : ℕ) → 0 < v → of_voice_at s v p ≡ false
  lead_only v h = ne_eqb (get_or s (p + voice_at) 0) v (λ x. omega (arith, eqb-true (get_or s (p + voice_at) 0) 0 lead_first, x))

-- the first a rows, and the b others
pub leads_cut : (s : List ℕ) (p t a b : ℕ) → t ≡ a + b → leads s p t ≡ true → (leads s p a ≡ true) × (leads s (p + note_row_width * a) b ≡ true)
unfolding leads
leads_cut s p t zero b q e =
    let f : p + note_row_width * 0 ≡ p = omega arith in
    let g : b ≡ t = omega arith in
    (refl, (λ i. leads s (f i) (g i)) ∙ e)
leads_cut s p t (suc a) b q e =
    let g : suc (a + b) ≡ t = omega arith in
    let f : p + note_row_width * suc a ≡ p + note_row_width + note_row_width * a = omega arith in
    let all : leads s p (suc (a + b)) ≡ true = ap (leads s p) g ∙ e in
    let (x, y) = leads_cut s (p + note_row_width) (a + b) a b refl (lead_rest s p (a + b) all) in
    (and_both _ _ (lead_first s p (a + b) all) x, ap (λ (k : ℕ). leads s k b) f ∙ y)

-- RECORDS
lead_other : (s : List ℕ) (v p k : ℕ) → 0 < v → leads s p k ≡ true → voice_out s v p k ≡ []
unfolding voice_out
lead_other s v p zero h e = refl
lead_other s v p (suc k) h e = rw (lead_only s p k e v h) (lead_other s v (p + note_row_width) k h (lead_rest s p k e))

pub lead_voices : (s : List ℕ) (p k : ℕ) → leads s p k ≡ true → voice_out s 0 p k ≡ voices_out s p k 0 4
unfolding voices_out
lead_voices s p k e =
    let none : (v : ℕ) → 0 < v → voice_out s v p k ≡ [] = λ v h. lead_other s v p k h e in
    rw (none 1 (omega arith), none 2 (omega arith), none 3 (omega arith), append-nil)

-- as many records of voice 0 as there are rows: the rows are all of voice 0
length_kept : (s : List ℕ) (p : ℕ) → p + note_row_width ≤ length s → (b : Bool) → length (cond b (note_out s p) []) ≡ cond b note_width 0
length_kept s p h true = length_note_out s p h
length_kept s p h false = refl

voice_length : (s : List ℕ) (v p k : ℕ) → p + note_row_width * suc k ≤ length s → (b : Bool) → of_voice_at s v p ≡ b → length (voice_out s v p (suc k)) ≡ cond b note_width 0 + length (voice_out s v (p + note_row_width) k)
unfolding voice_out
voice_length s v p k h b e =
    rw e (length-append (cond b (note_out s p) []) (voice_out s v (p + note_row_width) k) ∙ ap (λ (n : ℕ). n + length (voice_out s v (p + note_row_width) k)) (length_kept s p (omega arith) b))

voice_most : (s : List ℕ) (v p k : ℕ) → p + note_row_width * k ≤ length s → length (voice_out s v p k) ≤ note_width * k
unfolding voice_out
voice_most s v p zero h = omega arith
voice_most s v p (suc k) h =
    let most = voice_most s v (p + note_row_width) k (omega arith) in
    by_test (of_voice_at s v p) (λ e. omega (arith, most, voice_length s v p k h true e)) (λ e. omega (arith, most, voice_length s v p k h false e))

pub all_lead : (s : List ℕ) (p k : ℕ) → p + note_row_width * k ≤ length s → length (voice_out s 0 p k) ≡ note_width * k → leads s p k ≡ true
unfolding leads
all_lead s p zero h n = refl
all_lead s p (suc k) h n =
    by_test (of_voice_at s 0 p)
    (λ e. rw e (all_lead s (p + note_row_width) k (omega arith) (omega (arith, n, voice_length s 0 p k h true e))))
    (λ e. absurd (omega (arith, n, voice_length s 0 p k h false e, voice_most s 0 (p + note_row_width) k (omega arith))))

-- MEASURES: voice 0, and the others
pub voices_first : (s : List ℕ) (p k : ℕ) → voices_out s p k 0 4 ≡ voice_out s 0 p k ++ voices_out s p k 1 3
unfolding voices_out
voices_first s p k = refl

pub full_measure : {d e : List ℕ} (s : List ℕ) (p k n : ℕ) → WroteIs d (voice_out s 0 p k) e (Some n) → p + note_row_width * k ≤ length s → n ≡ note_width * k → WroteIs d (voices_out s p k 0 4) e (Some n)
full_measure s p k n w h q = wrote_as_lem w (lead_voices s p k (all_lead s p k h (sym w.says.0 ∙ q)))

-- ALL ROWS AT ONCE
pub records_step : (s : List ℕ) (p k i : ℕ) → i < k → records_out s (p + note_row_width * i) (k - i) ≡ note_out s (p + note_row_width * i) ++ records_out s (p + note_row_width * (i + 1)) (k - (i + 1))
unfolding records_out
records_step s p k i h =
    let e : k - i ≡ suc (k - (i + 1)) = omega arith in
    let f : p + note_row_width * i + note_row_width ≡ p + note_row_width * (i + 1) = omega arith in
    rw (e, records_out, f)

pub records_none : (s : List ℕ) (p k i : ℕ) → k ≤ i → records_out s p (k - i) ≡ []
unfolding records_out
records_none s p k i h = let e : k - i ≡ 0 = omega arith in rw e

pub length_records : (s : List ℕ) (p k : ℕ) → p + note_row_width * k ≤ length s → length (records_out s p k) ≡ note_width * k
unfolding records_out
length_records s p zero h = refl
length_records s p (suc k) h =
    length-append (note_out s p) (records_out s (p + note_row_width) k) ∙ omega (arith, length_note_out s p (omega arith), length_records s (p + note_row_width) k (omega arith))

records_cut : (s : List ℕ) (p t a b : ℕ) → t ≡ a + b → records_out s p t ≡ records_out s p a ++ records_out s (p + note_row_width * a) b
unfolding records_out
records_cut s p t zero b q =
    let f : p + note_row_width * 0 ≡ p = omega arith in
    let g : b ≡ t = omega arith in
    rw (f, g)
records_cut s p t (suc a) b q =
    let g : t ≡ suc (a + b) = omega arith in
    let f : p + note_row_width * suc a ≡ p + note_row_width + note_row_width * a = omega arith in
    rw (g, f, records_out) (ap (λ (l : List ℕ). note_out s p ++ l) (records_cut s (p + note_row_width) (a + b) a b refl) ∙ sym (append_assoc (note_out s p) (records_out s (p + note_row_width) a) (records_out s (p + note_row_width + note_row_width * a) b)))

lead_records : (s : List ℕ) (p k : ℕ) → leads s p k ≡ true → records_out s p k ≡ voice_out s 0 p k
unfolding records_out voice_out
lead_records s p zero e = refl
lead_records s p (suc k) e = rw (lead_first s p k e) (ap (λ (l : List ℕ). note_out s p ++ l) (lead_records s (p + note_row_width) k (lead_rest s p k e)))

-- measure by measure, voice 0 before the others, is row by row where all rows are of voice 0
pub lead_measures : (s : List ℕ) (h p n t : ℕ) → t ≡ total s h n → leads s p t ≡ true → records_out s p t ≡ notes_out s h p n
unfolding records_out notes_out total
lead_measures s h p zero t q e = rw q
lead_measures s h p (suc n) t q e =
    let k = note_count s h in
    let r = total s (h + measure_width) n in
    let (x, y) = leads_cut s p t k r q e in
    records_cut s p t k r q ∙ (λ i. (lead_records s p k x ∙ lead_voices s p k x) i ++ lead_measures s (h + measure_width) (p + note_row_width * k) n r refl y i)
