-- WHAT SETS L, OR M ("A field, on its own line or inline, sets L (or M ..) unless 000 leaves that one as it found it, whatever it was"): a test by the fields of a line, equal
-- to the words; and document 01's cases, computed. Assumes nothing.
use Prim.Native.Nat.{ℕ}
use mathlib.Core.Path.{◌≡◌, refl, sym, ap, ◌∙◌}
use mathlib.Core.Bool.{Bool, true, false, not, ◌&&◌, false≢true}
use mathlib.Core.Option.{Option, none, some}
use mathlib.Core.List.{List, [], ◌∷◌}
use native.Mathlib.Omega.{arith}
use Rattle.laws.specs.Lists.{All, all, any}
use Rattle.laws.proofs.Bools.{not_true, and_left, and_right, and_both, both_true}
use Rattle.laws.proofs.Lists.{all_All, All-map}
use Rattle.standard.specs.Bytes.{ascii}
use Rattle.standard.specs.Fields.{Meter}
use Rattle.editions.specs.declared.Edition.{Edition}
use Rattle.editions.specs.declared.Edition.TheVariants.{First, Second}
use Rattle.reader.specs.Tokens.{Effect, counts, refuses, sets_unit, sets_meter, no_effect}
use Rattle.reader.specs.Lines.{Kind, blank, refused, lyric, voice, key, meter, unit, tune, other, music, kind_of}
use Rattle.reader.specs.Steps.{TextLine}
use Rattle.reader.specs.Scan.{last_unit, last_meter}
use Rattle.reader.specs.All as reader
use Rattle.blocks.specs.Kinds.{unit_after, meter_after}
use Rattle.blocks.specs.Demand.{SetsNeither}

-- L AND M: an effect that sets L, or M; a line that does not, by its kind
abbrev pub sets_l : Effect → Bool
sets_l counts = false
sets_l (refuses k) = false
sets_l (sets_unit u) = true
sets_l (sets_meter m) = false
sets_l no_effect = false

abbrev pub sets_m : Effect → Bool
sets_m counts = false
sets_m (refuses k) = false
sets_m (sets_unit u) = false
sets_m (sets_meter m) = true
sets_m no_effect = false

abbrev is_none : Option ℕ → Bool
is_none none = true
is_none (some u) = false

abbrev pub leaves_l : Kind → Bool
leaves_l blank = true
leaves_l (refused n) = true
leaves_l (lyric t) = true
leaves_l (voice v mid) = true
leaves_l (key k) = true
leaves_l (meter m) = true
leaves_l (unit x) = is_none x
leaves_l tune = true
leaves_l other = true
leaves_l (music hi es l) = not (any sets_l es)

abbrev pub leaves_m : Kind → Bool
leaves_m blank = true
leaves_m (refused n) = true
leaves_m (lyric t) = true
leaves_m (voice v mid) = true
leaves_m (key k) = true
leaves_m (meter m) = false
leaves_m (unit x) = true
leaves_m tune = true
leaves_m other = true
leaves_m (music hi es l) = not (any sets_m es)

effects_L : (es : List Effect) → not (any sets_l es) ≡ true → (u : ℕ) → last_unit es u ≡ u
unfolding last_unit
effects_L [] h u = refl
effects_L (counts ∷ es) h u = effects_L es h u
effects_L (refuses k ∷ es) h u = effects_L es h u
effects_L (sets_unit v ∷ es) h u = absurd (false≢true h)
effects_L (sets_meter v ∷ es) h u = effects_L es h u
effects_L (no_effect ∷ es) h u = effects_L es h u

effects_M : (es : List Effect) → not (any sets_m es) ≡ true → (m : Meter) → last_meter es m ≡ m
unfolding last_meter
effects_M [] h m = refl
effects_M (counts ∷ es) h m = effects_M es h m
effects_M (refuses k ∷ es) h m = effects_M es h m
effects_M (sets_unit v ∷ es) h m = effects_M es h m
effects_M (sets_meter v ∷ es) h m = absurd (false≢true h)
effects_M (no_effect ∷ es) h m = effects_M es h m

pub leaves_L : (k : Kind) → leaves_l k ≡ true → (u : ℕ) → unit_after k u ≡ u
leaves_L blank h u = refl
leaves_L (refused n) h u = refl
leaves_L (lyric t) h u = refl
leaves_L (voice v mid) h u = refl
leaves_L (key x) h u = refl
leaves_L (meter n) h u = refl
leaves_L (unit none) h u = refl
leaves_L (unit (some v)) h u = absurd (false≢true h)
leaves_L tune h u = refl
leaves_L other h u = refl
leaves_L (music hi es l) h u = effects_L es h u

pub leaves_M : (k : Kind) → leaves_m k ≡ true → (m : Meter) → meter_after k m ≡ m
leaves_M blank h m = refl
leaves_M (refused n) h m = refl
leaves_M (lyric t) h m = refl
leaves_M (voice v mid) h m = refl
leaves_M (key x) h m = refl
leaves_M (meter n) h m = absurd (false≢true h)
leaves_M (unit x) h m = refl
leaves_M tune h m = refl
leaves_M other h m = refl
leaves_M (music hi es l) h m = effects_M es h m

-- and back: what sets does not see what it finds, so it does not leave it as it was
zero≢one : ◌≡◌ {A = ℕ} 0 1 → ⊥
zero≢one h = omega (arith, h)

sets_no : (f : ℕ → ℕ) → ((u w : ℕ) → f u ≡ f w) → ((u : ℕ) → f u ≡ u) → ⊥
sets_no f b h = zero≢one (sym (h 0) ∙ b 0 1 ∙ h 1)

sets_no_m : (f : Meter → Meter) → ((m n : Meter) → f m ≡ f n) → ((m : Meter) → f m ≡ m) → ⊥
sets_no_m f b h = zero≢one (ap (λ (m : Meter). m.0) (sym (h (0, 0)) ∙ b (0, 0) (1, 0) ∙ h (1, 0)))

L-effects : (es : List Effect) → ((u : ℕ) → last_unit es u ≡ u) → not (any sets_l es) ≡ true
unfolding last_unit
L-effects [] h = refl
L-effects (counts ∷ es) h = L-effects es h
L-effects (refuses k ∷ es) h = L-effects es h
L-effects (sets_unit v ∷ es) h = absurd (sets_no (λ u. last_unit es v) (λ u w. refl) h)
L-effects (sets_meter v ∷ es) h = L-effects es h
L-effects (no_effect ∷ es) h = L-effects es h

M-effects : (es : List Effect) → ((m : Meter) → last_meter es m ≡ m) → not (any sets_m es) ≡ true
unfolding last_meter
M-effects [] h = refl
M-effects (counts ∷ es) h = M-effects es h
M-effects (refuses k ∷ es) h = M-effects es h
M-effects (sets_unit v ∷ es) h = M-effects es h
M-effects (sets_meter v ∷ es) h = absurd (sets_no_m (λ m. last_meter es v) (λ u w. refl) h)
M-effects (no_effect ∷ es) h = M-effects es h

pub L-leaves : (k : Kind) → ((u : ℕ) → unit_after k u ≡ u) → leaves_l k ≡ true
L-leaves blank h = refl
L-leaves (refused n) h = refl
L-leaves (lyric t) h = refl
L-leaves (voice v mid) h = refl
L-leaves (key x) h = refl
L-leaves (meter n) h = refl
L-leaves (unit none) h = refl
L-leaves (unit (some v)) h = absurd (sets_no (λ u. v) (λ u w. refl) h)
L-leaves tune h = refl
L-leaves other h = refl
L-leaves (music hi es l) h = L-effects es h

pub M-leaves : (k : Kind) → ((m : Meter) → meter_after k m ≡ m) → leaves_m k ≡ true
M-leaves blank h = refl
M-leaves (refused n) h = refl
M-leaves (lyric t) h = refl
M-leaves (voice v mid) h = refl
M-leaves (key x) h = refl
M-leaves (meter n) h = absurd (sets_no_m (λ m. n) (λ u w. refl) h)
M-leaves (unit x) h = refl
M-leaves tune h = refl
M-leaves other h = refl
M-leaves (music hi es l) h = M-effects es h

-- no field of the line, on its own line or inline, sets L or M
abbrev pub no_field : Edition → TextLine → Bool
no_field ed r = leaves_l (kind_of ed r) && leaves_m (kind_of ed r)

pub sets_neither_field : (ed : Edition) (r : TextLine) → SetsNeither ed r → no_field ed r ≡ true
sets_neither_field ed r q = and_both (leaves_l (kind_of ed r)) (leaves_m (kind_of ed r)) (L-leaves (kind_of ed r) q.0) (M-leaves (kind_of ed r) q.1)

pub field_sets_neither : (ed : Edition) (r : TextLine) → no_field ed r ≡ true → SetsNeither ed r
field_sets_neither ed r h =
    (leaves_L (kind_of ed r) (and_left (leaves_l (kind_of ed r)) (leaves_m (kind_of ed r)) h), leaves_M (kind_of ed r) (and_right (leaves_l (kind_of ed r)) (leaves_m (kind_of ed r)) h))

-- DOCUMENT 01'S CASES
-- a field that writes the present value sets it (000 begins with L 1/8 and M 4/4), and one that 000 cannot read but takes for 8 or 4/4 sets it too
abbrev setting : List TextLine
setting =
    ascii "L:1/8\n"
    ∷ ascii "[L:1/8]\n"
    ∷ ascii "A[L:1/8]B\n"
    ∷ ascii "L:1/x\n"
    ∷ ascii "L:1/\n"
    ∷ ascii "L:1/ 4\n"
    ∷ ascii "L:1/4294967296\n"
    ∷ ascii "[L: 1/4 ]\n"
    ∷ ascii "[L:1/4/9]\n"
    ∷ ascii "[L:/4]\n"
    ∷ ascii "[L:1/+4]\n"
    ∷ ascii "M:4/4\n"
    ∷ ascii "M:\n"
    ∷ ascii "M:x\n"
    ∷ ascii "[M:]\n"
    ∷ ascii "[M:4/4]\n"
    ∷ []

-- without a slash nothing is set; inline, what is no number sets nothing; and what is no field of 000 is none
abbrev leaving : List TextLine
leaving =
    ascii "L:1\n"
    ∷ ascii "L:\n"
    ∷ ascii "[L:1]\n"
    ∷ ascii "[L:1/x]\n"
    ∷ ascii "[L:1/]\n"
    ∷ ascii "[L:1/ 4]\n"
    ∷ ascii "[L:1/4294967296]\n"
    ∷ ascii "[ L:1/4]\n"
    ∷ ascii "[L :1/4]\n"
    ∷ ascii "[l:1/4]\n"
    ∷ ascii "l:1/4\n"
    ∷ ascii "m:3/4\n"
    ∷ ascii "\"[L:1/4]\"\n"
    ∷ ascii "\"[M:3/4]\n"
    ∷ ascii "![L:1/4]!\n"
    ∷ ascii "[L:1/4\n"
    ∷ ascii "^[L:1/4]\n"
    ∷ ascii "A%[L:1/4]\n"
    ∷ ascii "K:D\n"
    ∷ ascii "[K:D]\n"
    ∷ ascii "[V:2]\n"
    ∷ ascii "w: [L:1/4]\n"
    ∷ ascii "V:1\n"
    ∷ []

all_set : (ed : Edition) → all (λ r. not (no_field ed r)) setting ≡ true
unfolding reader.all
all_set First = refl
all_set Second = refl

all_leave : (ed : Edition) → all (no_field ed) leaving ≡ true
unfolding reader.all
all_leave First = refl
all_leave Second = refl

sets_what : (ed : Edition) (r : TextLine) → not (no_field ed r) ≡ true → SetsNeither ed r → ⊥
sets_what ed r h q = both_true (no_field ed r) (sets_neither_field ed r q) (not_true (no_field ed r) h)

pub setting_sets : (ed : Edition) → All (λ r. SetsNeither ed r → ⊥) setting
setting_sets ed = All-map (λ r. not (no_field ed r) ≡ true) (λ r. SetsNeither ed r → ⊥) (sets_what ed) setting (all_All (λ r. not (no_field ed r)) setting (all_set ed))

pub leaving_leaves : (ed : Edition) → All (SetsNeither ed) leaving
leaving_leaves ed = All-map (λ r. no_field ed r ≡ true) (SetsNeither ed) (field_sets_neither ed) leaving (all_All (no_field ed) leaving (all_leave ed))
