-- PITCHES OF ONE VOICE: they stand one after the other already.
use Prim.Native.Nat.{ℕ, zero, suc, ◌+◌, ◌-◌, ◌*◌, ◌<◌}
use mathlib.Core.Path.{◌≡◌, refl, sym, ap, ◌∙◌}
use mathlib.Core.Bool.{true}
use mathlib.Core.List.{List, [], ◌++◌, append-nil}
use native.Mathlib.Omega.{arith}
use Rattle.laws.specs.Bytes.{part}
use Rattle.laws.proofs.Parts.{part_none, part_add}
use Rattle.part_rows.specs.Encoded.{note_row_width, pitch_row_width}
use Rattle.write_notes.specs.Out.{leads}
use Rattle.write_notes.proofs.Leads.{lead_first, lead_rest, lead_only, leads_cut}
use Rattle.part_rows.specs.Read.{pitch_count}
use Rattle.reader.specs.Records.{measure_width}
use Rattle.part_measures.specs.Heads.{note_count, total}
use Rattle.write_notes.specs.Tables.{pitch_total}
use Rattle.write_pitches.specs.Out.{voice_out, voices_out, pitches_out}
use Rattle.write_pitches.proofs.Out.{pitch_total_split, pitch_total_none}

lead_other : (s : List ℕ) (v p q k : ℕ) → 0 < v → leads s p k ≡ true → voice_out s v p q k ≡ []
unfolding voice_out
lead_other s v p q zero h e = refl
lead_other s v p q (suc k) h e = rw (lead_only s p k e v h) (lead_other s v (p + note_row_width) (q + pitch_row_width * pitch_count s p) k h (lead_rest s p k e))

lead_parts : (s : List ℕ) (p q k : ℕ) → leads s p k ≡ true → voice_out s 0 p q k ≡ part s q (pitch_row_width * pitch_total s p k)
unfolding voice_out pitch_total
lead_parts s p q zero e = sym (part_none s q)
lead_parts s p q (suc k) e =
    let n = pitch_row_width * pitch_count s p in
    let m = pitch_row_width * pitch_total s (p + note_row_width) k in
    let both : n + m ≡ pitch_row_width * (pitch_count s p + pitch_total s (p + note_row_width) k) = omega arith in
    rw (lead_first s p k e)
    (ap (λ (x : List ℕ). part s q n ++ x) (lead_parts s (p + note_row_width) (q + n) k (lead_rest s p k e)) ∙ sym (part_add s q n m) ∙ ap (part s q) both)

pub lead_run : (s : List ℕ) (p q k end : ℕ) → end ≡ q + pitch_row_width * pitch_total s p k → leads s p k ≡ true → part s q (end - q) ≡ voices_out s p q k 0 4
unfolding voices_out
lead_run s p q k end x e =
    let none : (v : ℕ) → 0 < v → voice_out s v p q k ≡ [] = λ v h. lead_other s v p q k h e in
    let long : end - q ≡ pitch_row_width * pitch_total s p k = omega (arith, x) in
    rw (none 1 (omega arith), none 2 (omega arith), none 3 (omega arith), append-nil) (ap (part s q) long ∙ sym (lead_parts s p q k e))

-- measure by measure, voice 0 before the others, is one run where all rows are of voice 0
pub lead_measures : (s : List ℕ) (h p q n t : ℕ) → t ≡ total s h n → leads s p t ≡ true → part s q (pitch_row_width * pitch_total s p t) ≡ pitches_out s h p q n
unfolding pitches_out total
lead_measures s h p q zero t f e = let z : pitch_row_width * pitch_total s p t ≡ 0 = omega (arith, pitch_total_none s p t f) in ap (part s q) z ∙ part_none s q
lead_measures s h p q (suc n) t f e =
    let k = note_count s h in
    let r = total s (h + measure_width) n in
    let (x, y) = leads_cut s p t k r f e in
    let a = pitch_row_width * pitch_total s p k in
    let b = pitch_row_width * pitch_total s (p + note_row_width * k) r in
    let long : pitch_row_width * pitch_total s p t ≡ a + b = omega (arith, pitch_total_split s p t k r f) in
    let end : q + a - q ≡ a = omega arith in
    let first : part s q a ≡ voices_out s p q k 0 4 = ap (part s q) (sym end) ∙ lead_run s p q k (q + a) refl x in
    ap (part s q) long ∙ part_add s q a b ∙ (λ i. first i ++ lead_measures s (h + measure_width) (p + note_row_width * k) (q + a) n r refl y i)
