-- THE ANSWER keeps the frame's last laws: what is looked at before the first line, and parts each made of their own items. Assumes nothing.
use Prim.Native.Nat.{ℕ, zero, suc, ◌+◌, max}
use mathlib.Core.Path.{◌≡◌, refl, sym, ap, subst, ◌∙◌}
use mathlib.Core.Logic.{◌⊎◌, ⊎_elim, ◌↔◌}
use mathlib.Core.Bool.{Bool, true, false, cond, true≢false, false≢true}
use mathlib.Core.Option.{Option, none, some}
use mathlib.Core.List.{List, ◌∷◌}
use native.Mathlib.Omega.{arith}
use lib.Dec.{leb}
use lib.ListN.{length, get_elem?}
use borrow.Author.Tests.{leb-true, le-leb}
use Rattle.laws.specs.Lists.{All, sum, foldl}
use Rattle.laws.proofs.Lists.{none_any}
use Rattle.laws.proofs.Bools.{some≢none}
use Rattle.editions.specs.declared.Edition.{Edition}
use Rattle.reader.specs.Text.{Utf8, between, one, two, three, after_e0, after_ed, after_f0, after_f4, invalid, utf8_step, is_between, is_utf8, White, white, in_c2, in_e1, in_e19a, in_e2, in_e280, in_e281, in_e3, in_e380, other, white_step, is_all_white, is_blank}
use Rattle.reader.specs.Scan.{Item, Env}
use Rattle.reader.specs.Part.{Part, build, empty_part}
use Rattle.reader.specs.Answer.{Verdict, reading, Outcome, most_bytes, scratch_needed, refused_with, early, is_music, built, parts, encode, measure_count, written, ended, finish}
use Rattle.blocks.specs.Demand.{Accepted, part_in}
use Rattle.blocks.proofs.Machine.{Blank, IsUtf8}
use Rattle.blocks.proofs.Instance.{Fits}

-- BEFORE THE FIRST LINE
is_between_lem : (q : Utf8) → is_between q ≡ true → q ≡ between
is_between_lem between h = refl
is_between_lem one h = absurd (false≢true h)
is_between_lem two h = absurd (false≢true h)
is_between_lem three h = absurd (false≢true h)
is_between_lem after_e0 h = absurd (false≢true h)
is_between_lem after_ed h = absurd (false≢true h)
is_between_lem after_f0 h = absurd (false≢true h)
is_between_lem after_f4 h = absurd (false≢true h)
is_between_lem invalid h = absurd (false≢true h)

not_white : (q : White) → (q ≡ white → ⊥) → is_all_white q ≡ false
not_white white h = absurd (h refl)
not_white in_c2 h = refl
not_white in_e1 h = refl
not_white in_e19a h = refl
not_white in_e2 h = refl
not_white in_e280 h = refl
not_white in_e281 h = refl
not_white in_e3 h = refl
not_white in_e380 h = refl
not_white other h = refl

utf8_of : (t : List ℕ) → is_utf8 t ≡ true → IsUtf8 t
unfolding is_utf8
utf8_of t h = is_between_lem (foldl utf8_step between t) h

of_utf8 : (t : List ℕ) → IsUtf8 t → is_utf8 t ≡ true
unfolding is_utf8
of_utf8 t h = ap is_between h

blank_no : (t : List ℕ) → is_blank t ≡ false → Blank t → ⊥
unfolding is_blank
blank_no t h b = true≢false (sym (ap is_all_white b) ∙ h)

no_blank : (t : List ℕ) → (Blank t → ⊥) → is_blank t ≡ false
unfolding is_blank
no_blank t h = not_white (foldl white_step white t) h

-- of two answers that a test chooses from, one that is none
pick : {A C : Type 0} (b : Bool) (x y : Option A) → (b ≡ true → x ≡ none → C) → (b ≡ false → y ≡ none → C) → cond b x y ≡ none → C
pick true x y f g h = f refl h
pick false x y f g h = g refl h

early_none : (text : List ℕ) (rl sl : ℕ) → early text rl sl ≡ none → Fits (length text) sl × IsUtf8 text × (Blank text → ⊥)
unfolding early
early_none text rl sl =
    pick (leb (length text) most_bytes) _ _
    (λ a.
    pick (is_utf8 text) _ _
    (λ b.
    pick (is_blank text) _ _ (λ c h. absurd (some≢none (refused_with 1 0 rl sl) h))
    (λ c.
    pick (leb (scratch_needed (length text)) sl) none (some (refused_with 15 0 rl sl))
    (λ d h. ((leb-true (length text) most_bytes a, leb-true (scratch_needed (length text)) sl d), utf8_of text b, blank_no text c))
    (λ d h. absurd (some≢none (refused_with 15 0 rl sl) h))))
    (λ b h. absurd (some≢none (refused_with 3 0 rl sl) h)))
    (λ a h. absurd (some≢none (refused_with 2 0 rl sl) h))

none_early : (text : List ℕ) (rl sl : ℕ) → Fits (length text) sl × IsUtf8 text × (Blank text → ⊥) → early text rl sl ≡ none
unfolding early
none_early text rl sl h =
    rw (le-leb (length text) most_bytes h.0.0, of_utf8 text h.1, no_blank text h.2, le-leb (scratch_needed (length text)) sl h.0.1, early)

pub early_iff : (text : List ℕ) (rl sl : ℕ) → (early text rl sl ≡ none) ↔ (Fits (length text) sl × IsUtf8 text × (Blank text → ⊥))
early_iff text rl sl = (early_none text rl sl, none_early text rl sl)

-- each early answer is a refusal
abbrev pub Not : Option Outcome → Type 0
Not none = Unit {0}
Not (some w) = Accepted w → ⊥

or_not : (b : Bool) (x y : Option Outcome) → Not x → Not y → Not (cond b x y)
or_not true x y p q = p
or_not false x y p q = q

pub early_not : (text : List ℕ) (rl sl : ℕ) → Not (early text rl sl)
unfolding early refused_with
early_not text rl sl =
    or_not (leb (length text) most_bytes) _ _
    (or_not (is_utf8 text) _ _
    (or_not (is_blank text) _ _ (λ x. x) (or_not (leb (scratch_needed (length text)) sl) none (some (refused_with 15 0 rl sl)) tt (λ x. x)))
    (λ x. x))
    (λ x. x)

pub early_no : (text : List ℕ) (rl sl : ℕ) (w : Outcome) → early text rl sl ≡ some w → Accepted w → ⊥
early_no text rl sl w e h = subst Not e (early_not text rl sl) h

pub late_no : (n l rl sl : ℕ) → Accepted (refused_with n l rl sl) → ⊥
unfolding refused_with
late_no n l rl sl h = h

-- THE PARTS
-- a reading has the parts
pub ended_reading : (ps : List Part) (rl sl : ℕ) → Accepted (ended ps rl sl) → (ended ps rl sl).verdict ≡ reading ps
unfolding ended written refused_with
ended_reading ps rl sl = go (leb 1 (sum measure_count ps)) (leb (length (encode ps)) rl)
  where
    go : (a b : Bool) → Accepted (cond a (cond b (written ps rl sl) (refused_with 16 0 rl sl)) (refused_with 1 0 rl sl))
        → (cond a (cond b (written ps rl sl) (refused_with 16 0 rl sl)) (refused_with 1 0 rl sl)).verdict ≡ reading ps
    go true true h = refl
    go true false h = absurd h
    go false b h = absurd h

ended_part : (ps : List Part) (rl sl p : ℕ) → Accepted (ended ps rl sl) → part_in (ended ps rl sl).verdict p ≡ get_elem? ps p
ended_part ps rl sl p h = ap (λ (v : Verdict). part_in v p) (ended_reading ps rl sl h)

-- a part is made of its own items
parts_at : (ed : Edition) (e : Env) (f g : ℕ → List Item) (n q k : ℕ) → ((j : ℕ) → j ≡ q + k → f j ≡ g j) → get_elem? (parts ed e f n q) k ≡ get_elem? (parts ed e g n q) k
unfolding parts
parts_at ed e f g zero q k h = refl
parts_at ed e f g (suc n) q zero h = ap (λ (l : List Item). some (built ed e l)) (h q (omega arith))
parts_at ed e f g (suc n) q (suc k) h = parts_at ed e f g n (suc q) k (λ j x. h j (omega arith))

-- without music it is empty, whatever its items are
still_built : (ed : Edition) (e : Env) (is : List Item) → All (λ i. is_music i ≡ false) is → built ed e is ≡ empty_part
unfolding built
still_built ed e is h = ap (λ (b : Bool). cond b (build ed e.header_key is) empty_part) (none_any is_music is h)

abbrev Alike : (ℕ → List Item) → (ℕ → List Item) → Type 0
Alike f g = (p : ℕ) → (f p ≡ g p) ⊎ (All (λ i. is_music i ≡ false) (f p) × All (λ i. is_music i ≡ false) (g p))

parts_alike : (ed : Edition) (e : Env) (f g : ℕ → List Item) → Alike f g → (n q : ℕ) → parts ed e f n q ≡ parts ed e g n q
unfolding parts
parts_alike ed e f g h zero q = refl
parts_alike ed e f g h (suc n) q = λ i. one_part i ∷ parts_alike ed e f g h n (suc q) i
  where
    one_part : built ed e (f q) ≡ built ed e (g q)
    one_part = ⊎_elim (λ x. ap (built ed e) x) (λ x. still_built ed e (f q) x.0 ∙ sym (still_built ed e (g q) x.1)) (h q)

pub alike : (ed : Edition) (e : Env) (f g : ℕ → List Item) (rl sl : ℕ) → Alike f g → finish ed e f rl sl ≡ finish ed e g rl sl
unfolding finish
alike ed e f g rl sl h = ap (λ (ps : List Part). ended ps rl sl) (parts_alike ed e f g h (max 1 (length e.voices)) 0)

pub part_own : (ed : Edition) (e : Env) (f g : ℕ → List Item) (rl sl rl' sl' p : ℕ) → Accepted (finish ed e f rl sl) → Accepted (finish ed e g rl' sl') → f p ≡ g p
    → part_in (finish ed e f rl sl).verdict p ≡ part_in (finish ed e g rl' sl').verdict p
unfolding finish
part_own ed e f g rl sl rl' sl' p af ag h =
    ended_part (parts ed e f (max 1 (length e.voices)) 0) rl sl p af
    ∙ parts_at ed e f g (max 1 (length e.voices)) 0 p (λ j x. subst (λ (i : ℕ). f i ≡ g i) (sym (x ∙ z p)) h)
    ∙ sym (ended_part (parts ed e g (max 1 (length e.voices)) 0) rl' sl' p ag)
  where
    z : (p : ℕ) → 0 + p ≡ p
    z p = omega arith
