-- RECORDS OF A SECTION, one law for every width and element: what is read off record after record is what the elements say; so a test that every element's record passes holds of all
-- records, and a field's sum is the sum over the elements.
use Prim.Native.Nat.{ℕ, zero, suc, ◌+◌, ◌*◌}
use mathlib.Core.Path.{◌≡◌, refl, sym, ap, subst, ◌∙◌}
use mathlib.Core.Bool.{Bool, true, false, ◌&&◌}
use mathlib.Core.Option.{Option, some}
use mathlib.Core.List.{List, [], ◌∷◌, ◌++◌, map, append_assoc}
use native.Mathlib.Nat.{mul-suc, mul-zero}
use native.Mathlib.Omega.{arith}
use lib.Seq.{get_or-drop}
use lib.ListN.{length, get_or}
use Rattle.laws.specs.Lists.{foldl, all, All, concat, sum}
use Rattle.laws.specs.Bytes.{u32_at}
use Rattle.laws.proofs.Bools.{and_true}
use Rattle.laws.proofs.Lists.{foldl_append, all_append, sum_append, sum_map}
use Rattle.reader.specs.State.{Measure}
use Rattle.reader.specs.Codes.{volta_code}
use Rattle.reader.specs.Records.{measure_width, measure_bytes}
use Rattle.reading_sections.specs.Sections.{record_at, byte_at, volta_of}
use Rattle.reading_sections.proofs.Encoded.{Here, past, Section}
use Rattle.reading_whole.specs.Whole.{every, total, volta_step, voltas}

-- both properties
pub All-both {ℓ} : {A : Type ℓ} (P Q : A → Type 0) (xs : List A) → All P xs → All Q xs → All (λ x. P x × Q x) xs
All-both P Q [] p q = tt
All-both P Q (x ∷ xs) p q = ((p.0, q.0), All-both P Q xs p.1 q.1)

-- a byte of what stands at r
pub byte_here : {s : List ℕ} {r : ℕ} {bs : List ℕ} (k : ℕ) → Here s r bs → byte_at s r k ≡ get_or bs k 0
byte_here {s} {r} k h = sym (get_or-drop r s k 0) ∙ ap (λ (l : List ℕ). get_or l k 0) h.is

-- f at 0, at 1, .., below n
unfoldable values {ℓ} : {A : Type ℓ} → (ℕ → A) → ℕ → List A
values f zero = []
values f (suc n) = values f n ++ (f n ∷ [])

-- from the front, of what stands w apart
values_front {ℓ} : {A : Type ℓ} (g : ℕ → A) (at w n : ℕ) → values (λ i. g (at + w * i)) (suc n) ≡ g at ∷ values (λ i. g (at + w + w * i)) n
unfolding values
values_front g at w zero = let z : at + w * 0 ≡ at = omega (arith, mul-zero w) in ap (λ (k : ℕ). g k ∷ []) z
values_front g at w (suc n) =
    let z : at + w * suc n ≡ at + w + w * n = omega (arith, mul-suc w n) in
    (λ i. values_front g at w n i ++ (g (z i) ∷ []))

-- `every`, `total` and `voltas` by the values
every_values : (f : ℕ → Bool) (n : ℕ) → every f n ≡ all (λ b. b) (values f n)
unfolding every values
every_values f zero = refl
every_values f (suc n) = (λ i. every_values f n i && sym (and_true (f n)) i) ∙ sym (all_append (λ b. b) (values f n) (f n ∷ []))

total_values : (f : ℕ → ℕ) (n : ℕ) → total f n ≡ sum (λ k. k) (values f n)
unfolding total values
total_values f zero = refl
total_values f (suc n) = omega (arith, total_values f n, sum_append (λ (k : ℕ). k) (values f n) (f n ∷ []))

voltas_values : (s : List ℕ) (at n : ℕ) → voltas s at n ≡ foldl volta_step (some false) (values (λ i. volta_of s (record_at measure_width at i)) n)
unfolding voltas values
voltas_values s at zero = refl
voltas_values s at (suc n) =
    let v = volta_of s (record_at measure_width at n) in
    ap (λ (o : Option Bool). volta_step o v) (voltas_values s at n) ∙ sym (foldl_append volta_step (some false) (values (λ i. volta_of s (record_at measure_width at i)) n) (v ∷ []))

-- a test that each element passes
all_true {ℓ} : {A : Type ℓ} (xs : List A) → all (λ b. b) (map (λ x. true) xs) ≡ true
all_true [] = refl
all_true (x ∷ xs) = all_true xs

-- in a store s, of elements with the property P that f writes: g at an element's record is what h says of the element
abbrev pub Says {κ} : {A : Type 0} {B : Type κ} → (A → Type 0) → (A → List ℕ) → List ℕ → (ℕ → B) → (A → B) → Type κ
Says {A = A} P f s g h = (r : ℕ) (x : A) (b : List ℕ) → P x → Here s r (f x ++ b) → g r ≡ h x

module _ {A : Type 0} (P : A → Type 0) (f : A → List ℕ) (w : ℕ) (wide : (x : A) → P x → length (f x) ≡ w) (s : List ℕ) where
  -- THE RECORDS say what their elements do
  records_read {κ} : {B : Type κ} (g : ℕ → B) (h : A → B) → Says P f s g h → {at : ℕ} (xs : List A) → All P xs → (rest : List ℕ) → Here s at (concat (map f xs) ++ rest) → values (λ i. g (at + w * i)) (length xs) ≡ map h xs
  unfolding values
  records_read g h says [] p rest y = refl
  records_read g h says {at} (x ∷ xs) p rest y =
      let recs = concat (map f xs) in
      let z : Here s at (f x ++ (recs ++ rest)) = subst (Here s at) (append_assoc (f x) recs rest) y in
      let t = records_read g h says {at = at + w} xs p.1 rest (past (f x) (recs ++ rest) w (wide x p.0) z) in
      values_front g at w (length xs) ∙ (λ i. says at x (recs ++ rest) p.0 z i ∷ t i)

  -- A SECTION whose records all pass a test
  pub section_pass : (t : ℕ → Bool) → Says P f s t (λ x. true) → {at : ℕ} {rest : List ℕ} (xs : List A) → All P xs → Section s at w (length xs) (concat (map f xs)) rest → every (λ i. t (record_at w at i)) (u32_at s at) ≡ true
  section_pass t says {at} {rest} xs p x =
      let g : ℕ → Bool = λ i. t (record_at w at i) in
      ap (every g) x.count ∙ every_values g (length xs) ∙ ap (all (λ b. b)) (records_read t (λ x. true) says xs p rest x.records) ∙ all_true xs

  -- the sum of a number in each
  pub section_sum : (g : ℕ → ℕ) (h : A → ℕ) → Says P f s g h → {at : ℕ} {rest : List ℕ} (xs : List A) → All P xs → Section s at w (length xs) (concat (map f xs)) rest → total (λ i. g (record_at w at i)) (u32_at s at) ≡ sum h xs
  section_sum g h says {at} {rest} xs p x =
      let k : ℕ → ℕ = λ i. g (record_at w at i) in
      ap (total k) x.count ∙ total_values k (length xs) ∙ ap (sum (λ k. k)) (records_read g h says xs p rest x.records) ∙ sum_map h (λ k. k) xs

-- the voltas of measures
pub section_voltas : (P : Measure → Type 0) (wide : (m : Measure) → P m → length (measure_bytes m) ≡ measure_width) (s : List ℕ) → Says P measure_bytes s (volta_of s) (λ m. volta_code m.volta)
    → {at : ℕ} {rest : List ℕ} (ms : List Measure) → All P ms → Section s at measure_width (length ms) (concat (map measure_bytes ms)) rest → voltas s at (u32_at s at) ≡ foldl volta_step (some false) (map (λ (m : Measure). volta_code m.volta) ms)
section_voltas P wide s says {at} {rest} ms p x =
    ap (voltas s at) x.count ∙ voltas_values s at (length ms)
    ∙ ap (foldl volta_step (some false)) (records_read P measure_bytes measure_width wide s (volta_of s) (λ m. volta_code m.volta) says ms p rest x.records)
