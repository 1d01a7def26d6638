-- The end of a line that is cut and trimmed, found in one pass: where the reading of white space fails it starts anew.
use Prim.Native.Nat.{ℕ, ◌+◌, ◌-◌, ◌<◌, ◌≤◌}
use mathlib.Core.Path.{◌≡◌, refl, sym, ap, subst, ◌∙◌}
use mathlib.Core.Logic.{◌⊎◌, inl, inr, ⊎_elim}
use mathlib.Core.Bool.{Bool, true, false, cond, not, ◌||◌, false≢true}
use mathlib.Core.List.{List, [], ◌∷◌, ◌++◌}
use native.Mathlib.Omega.{arith}
use borrow.Author.Tests.{le-leb, lt-leb, ne_eqb, eqb-true, leb-true}
use lib.Dec.{eqb, leb}
use lib.ListN.{length, get_or, take}
use Rattle.laws.specs.Lists.{foldl}
use Rattle.laws.specs.Bytes.{part, between}
use Rattle.laws.proofs.Bools.{by_test, and_left, and_right, or_either}
use Rattle.laws.specs.Spans.{run, end_in}
use Rattle.laws.proofs.Lists.{foldl_snoc}
use Rattle.laws.proofs.Spans.{run_yes, run_no}
use Rattle.laws.proofs.Parts.{between_first, between_last, between_none, length_between, take_part, end_in_le, run_between}
use Rattle.reader.proofs.TextLaws.{other_stays, trim_keep}
use Rattle.reader.specs.Text.{within, is_space, White, white, in_c2, in_e1, in_e19a, in_e2, in_e280, in_e281, in_e3, in_e380, other, white_step, is_all_white, is_blank, trim, cut, clean}
use Rattle.text_white.specs.States.{is_other}
use Rattle.text_white.proofs.Whites.{plain_is_other, other_of}
use Rattle.text_lines.specs.Lines.{not_byte, trim_from, TrimEnd, CleanEnd}

-- A BYTE ALONE
-- a byte from 128 to 191 begins no white space
tail : (c : ℕ) → 128 ≤ c → c ≤ 191 → white_step white c ≡ other
unfolding white_step
tail c h k =
    let far : (n : ℕ) → (c ≡ n → ⊥) → eqb c n ≡ false = λ n e. ne_eqb c n e in
    rw (
      le-leb 9 c (omega arith),
      lt-leb c 13 (omega arith),
      far 32 (λ e. omega arith),
      far 0xc2 (λ e. omega arith),
      far 0xe1 (λ e. omega arith),
      far 0xe2 (λ e. omega arith),
      far 0xe3 (λ e. omega arith),
    )

one : (c n : ℕ) → 128 ≤ n → n ≤ 191 → eqb c n ≡ true → white_step white c ≡ other
one c n h k e =
    let x : c ≡ n = eqb-true c n e in
    tail c (omega arith) (omega arith)

choose : {P : Type 0} (b : Bool) (x y : White) → (b ≡ true → P) → (y ≡ other) ⊎ P → (cond b x y ≡ other) ⊎ P
choose true x y f g = inr (f refl)
choose false x y f g = g

-- after whole characters, or the byte fails here, or it begins no white space
alone : (q : White) (c : ℕ) → (q ≡ white) ⊎ ((white_step q c ≡ other) ⊎ (white_step white c ≡ other))
unfolding white_step
alone white c = inl refl
alone in_c2 c =
    inr
    (choose (eqb c 0x85 || eqb c 0xa0) white other
    (λ h. ⊎_elim (one c 0x85 (omega arith) (omega arith)) (one c 0xa0 (omega arith) (omega arith)) (or_either (eqb c 0x85) (eqb c 0xa0) h))
    (inl refl))
alone in_e1 c = inr (choose (eqb c 0x9a) in_e19a other (one c 0x9a (omega arith) (omega arith)) (inl refl))
alone in_e19a c = inr (choose (eqb c 0x80) white other (one c 0x80 (omega arith) (omega arith)) (inl refl))
alone in_e2 c =
    inr
    (choose (eqb c 0x80) in_e280 (cond (eqb c 0x81) in_e281 other) (one c 0x80 (omega arith) (omega arith))
    (choose (eqb c 0x81) in_e281 other (one c 0x81 (omega arith) (omega arith)) (inl refl)))
alone in_e280 c =
    let r : Bool = within 0x80 0x8a c in
    inr
    (choose (r || eqb c 0xa8 || eqb c 0xa9 || eqb c 0xaf) white other
    (λ h.
    ⊎_elim
    (λ h.
    ⊎_elim
    (λ h.
    ⊎_elim
    (λ h.
    let a : 0x80 ≤ c = leb-true 0x80 c (and_left (leb 0x80 c) (leb c 0x8a) h) in
    let b : c ≤ 0x8a = leb-true c 0x8a (and_right (leb 0x80 c) (leb c 0x8a) h) in
    tail c (omega arith) (omega arith))
    (one c 0xa8 (omega arith) (omega arith))
    (or_either r (eqb c 0xa8) h))
    (one c 0xa9 (omega arith) (omega arith))
    (or_either (r || eqb c 0xa8) (eqb c 0xa9) h))
    (one c 0xaf (omega arith) (omega arith))
    (or_either (r || eqb c 0xa8 || eqb c 0xa9) (eqb c 0xaf) h))
    (inl refl))
alone in_e281 c = inr (choose (eqb c 0x9f) white other (one c 0x9f (omega arith) (omega arith)) (inl refl))
alone in_e3 c = inr (choose (eqb c 0x80) in_e380 other (one c 0x80 (omega arith) (omega arith)) (inl refl))
alone in_e380 c = inr (choose (eqb c 0x80) white other (one c 0x80 (omega arith) (omega arith)) (inl refl))
alone other c = inr (inl refl)

-- ASCII that is no space is no byte of white space
far : (c n : ℕ) → c ≤ 127 → 128 ≤ n → eqb c n ≡ false
far c n h k = ne_eqb c n (λ e. omega arith)

plain : (q : White) (c : ℕ) → c ≤ 127 → is_space c ≡ false → white_step q c ≡ other
unfolding white_step
plain white c h e = plain_is_other c h e
plain in_c2 c h e = rw (far c 0x85 h (omega arith), far c 0xa0 h (omega arith))
plain in_e1 c h e = rw (far c 0x9a h (omega arith))
plain in_e19a c h e = rw (far c 0x80 h (omega arith))
plain in_e2 c h e = rw (far c 0x80 h (omega arith), far c 0x81 h (omega arith))
plain in_e280 c h e = rw (lt-leb 0x80 c (omega arith), far c 0xa8 h (omega arith), far c 0xa9 h (omega arith), far c 0xaf h (omega arith))
plain in_e281 c h e = rw (far c 0x9f h (omega arith))
plain in_e3 c h e = rw (far c 0x80 h (omega arith))
plain in_e380 c h e = rw (far c 0x80 h (omega arith))
plain other c h e = refl

dead : (l : List ℕ) → is_all_white (foldl white_step other l) ≡ false
dead l = ap is_all_white (other_stays l)

-- TRIMMING
trim_white : (l : List ℕ) → is_blank l ≡ true → length (trim l) ≡ 0
unfolding trim
trim_white [] h = refl
trim_white (c ∷ l) h = ap (λ (b : Bool). length (cond b [] (c ∷ trim l))) h

-- from a line's start, and where white space starts anew
pub trim_start_lem : (e : ℕ) (l : List ℕ) → trim_from white e e l ≡ e + length (trim l)
unfolding is_blank
trim_start_lem e l =
    by_test (is_blank l) (λ h. ap (λ (b : Bool). cond b e (e + length (trim l))) h ∙ omega (arith, trim_white l h))
    (λ h. ap (λ (b : Bool). cond b e (e + length (trim l))) h)

-- at the line's end: all that was read is white, or not
pub end_white : (q : White) (end at : ℕ) → is_all_white q ≡ true → end ≡ trim_from q end at []
end_white q end at h = sym (ap (λ (b : Bool). cond b end (at + length (trim []))) h)

pub end_other : (q : White) (end at : ℕ) → is_all_white q ≡ false → at ≡ trim_from q end at []
unfolding trim
end_other q end at h =
    let k : cond (is_all_white q) end (at + 0) ≡ at + 0 = ap (λ (b : Bool). cond b end (at + 0)) h in
    omega (arith, k)

module _ (q : White) (end b at : ℕ) (l : List ℕ) where
  abbrev n : ℕ
  n = length (trim l)

  -- the reading goes on
  pub trim_kept : is_other (white_step q b) ≡ false → trim_from (white_step q b) end (at + 1) l ≡ trim_from q end at (b ∷ l)
  unfolding trim is_blank
  trim_kept h =
      ⊎_elim
      (λ e. subst (λ (p : White). trim_from (white_step p b) end (at + 1) l ≡ trim_from p end at (b ∷ l)) (sym e)
      (both (is_all_white (foldl white_step (white_step white b) l))))
      (⊎_elim (λ e. absurd (false≢true (sym h ∙ ap is_other e)))
      (λ e. let k : at + 1 + n ≡ at + length (trim (b ∷ l)) = omega (arith, ap (λ (x : List ℕ). length x) (trim_keep b l e)) in
      ap (λ (m : ℕ). cond (is_all_white (foldl white_step (white_step q b) l)) end m) k))
      (alone q b)
    where
      both : (x : Bool) → cond x end (at + 1 + n) ≡ cond x end (at + length (cond x [] (b ∷ trim l)))
      both true = refl
      both false = omega arith

  fails : is_other (white_step q b) ≡ true → trim_from q end at (b ∷ l) ≡ at + length (trim (b ∷ l))
  fails h =
      ap (λ (x : Bool). cond x end (at + length (trim (b ∷ l))))
      (ap (λ (p : White). is_all_white (foldl white_step p l)) (other_of (white_step q b) h) ∙ dead l)

  -- it fails, and this byte begins white space
  pub trim_new : is_other (white_step q b) ≡ true → trim_from (white_step white b) at (at + 1) l ≡ trim_from q end at (b ∷ l)
  unfolding trim is_blank
  trim_new h = both (is_all_white (foldl white_step (white_step white b) l)) ∙ sym (fails h)
    where
      both : (x : Bool) → cond x at (at + 1 + n) ≡ at + length (cond x [] (b ∷ trim l))
      both true = omega arith
      both false = omega arith

  -- it fails, and this byte begins none
  pub trim_past : is_other (white_step q b) ≡ true → is_other (white_step white b) ≡ true → trim_from white (at + 1) (at + 1) l ≡ trim_from q end at (b ∷ l)
  trim_past h k =
      let e : at + 1 + n ≡ at + length (trim (b ∷ l)) = omega (arith, ap (λ (x : List ℕ). length x) (trim_keep b l (other_of (white_step white b) k))) in
      trim_start_lem (at + 1) l ∙ e ∙ sym (fails h)

  -- the byte is ASCII from `!` on
  pub trim_plain : within 33 127 b ≡ true → trim_from white (at + 1) (at + 1) l ≡ trim_from q end at (b ∷ l)
  trim_plain h =
      let low = leb-true 33 b (and_left (leb 33 b) (leb b 127) h) in
      let high = leb-true b 127 (and_right (leb 33 b) (leb b 127) h) in
      let none : is_space b ≡ false = rw (le-leb 9 b (omega arith), lt-leb b 13 (omega arith), ne_eqb b 32 (λ e. omega arith)) in
      trim_past (ap is_other (plain q b high none)) (ap is_other (plain white b high none))

-- THE LINE CUT AND TRIMMED is its front
abbrev Front : List ℕ → List ℕ → Type 0
Front m l = (length m ≤ length l) × (take (length m) l ≡ m)

front_next : (c : ℕ) (m l : List ℕ) → Front m l → (b : Bool) → Front (cond b [] (c ∷ m)) (c ∷ l)
front_next c m l r true = (omega arith, refl)
front_next c m l r false = (omega (arith, r.0), ap {B = List ℕ} (λ k. c ∷ k) r.1)

trim_front : (l : List ℕ) → Front (trim l) l
unfolding trim
trim_front [] = (omega arith, refl)
trim_front (c ∷ l) = front_next c (trim l) l (trim_front l) (is_blank (c ∷ l))

-- the loop of `trim_bytes` at i: with the reading at q from `end` on, what is left gives the text's end
pub record Trimming (text : List ℕ) (from to : ℕ) (q : White) (end i : ℕ) : Type 0 where
  pub low : from ≤ i
  pub high : i ≤ to
  pub fits : to ≤ length text
  pub same : trim_from q end i (between text i to) ≡ from + length (trim (between text from to))

pub trimming_start : (text : List ℕ) (from to : ℕ) → from ≤ to → to ≤ length text → Trimming text from to white from from
trimming_start text from to h k = record { low = omega arith; high = h; fits = k; same = trim_start_lem from (between text from to) }

module _ (text : List ℕ) (from to : ℕ) (q : White) (end i : ℕ) (r : Trimming text from to q end i) where
  pub trimming_end : to ≤ i → (e : ℕ) → e ≡ trim_from q end i [] → TrimEnd text from to e
  trimming_end z e x =
      let row = between text from to in
      let h : from ≤ to = omega (arith, r.low, r.high) in
      let at : e ≡ from + length (trim row) = x ∙ ap (trim_from q end i) (sym (between_none text i to z)) ∙ r.same in
      let f = trim_front row in
      let few : length (trim row) ≤ to - from = omega (arith, f.0, length_between text from to r.fits) in
      let n : e - from ≡ length (trim row) = omega (arith, at) in
      record {
        low = omega (arith, at);
        high = omega (arith, at, few, h);
        line = ap (part text from) n ∙ sym (take_part text from (to - from) (length (trim row)) few) ∙ f.1;
      }

  pub trimming_on : i < to → (q' : White) (end' : ℕ) → ((l : List ℕ) → trim_from q' end' (i + 1) l ≡ trim_from q end i (get_or text i 0 ∷ l)) → Trimming text from to q' end' (i + 1)
  trimming_on h q' end' step = record {
    low = omega (arith, r.low);
    high = omega arith;
    fits = r.fits;
    same = step (between text (i + 1) to) ∙ ap (trim_from q end i) (sym (between_first text i to h r.fits)) ∙ r.same;
  }

-- FROM THE END
-- a space at the end goes; ASCII that is none stays, and what stands before it
space_keeps : (q : White) (c : ℕ) → is_space c ≡ true → c ≤ 127 → is_all_white (white_step q c) ≡ is_all_white q
unfolding white_step
space_keeps white c e h = rw e
space_keeps in_c2 c e h = rw (far c 0x85 h (omega arith), far c 0xa0 h (omega arith))
space_keeps in_e1 c e h = rw (far c 0x9a h (omega arith))
space_keeps in_e19a c e h = rw (far c 0x80 h (omega arith))
space_keeps in_e2 c e h = rw (far c 0x80 h (omega arith), far c 0x81 h (omega arith))
space_keeps in_e280 c e h = rw (lt-leb 0x80 c (omega arith), far c 0xa8 h (omega arith), far c 0xa9 h (omega arith), far c 0xaf h (omega arith))
space_keeps in_e281 c e h = rw (far c 0x9f h (omega arith))
space_keeps in_e3 c e h = rw (far c 0x80 h (omega arith))
space_keeps in_e380 c e h = rw (far c 0x80 h (omega arith))
space_keeps other c e h = refl

blank_last : (c : ℕ) (l : List ℕ) → is_blank (l ++ (c ∷ [])) ≡ is_all_white (white_step (foldl white_step white l) c)
unfolding is_blank
blank_last c l = ap is_all_white (foldl_snoc white_step white l c)

module _ (c : ℕ) (h : c ≤ 127) where
  ends : is_space c ≡ false → (l : List ℕ) → is_blank (l ++ (c ∷ [])) ≡ false
  ends e l = blank_last c l ∙ ap is_all_white (plain (foldl white_step white l) c h e)

  trim_space : is_space c ≡ true → (l : List ℕ) → trim (l ++ (c ∷ [])) ≡ trim l
  unfolding trim is_blank
  trim_space e [] = ap (λ (b : Bool). cond b [] (c ∷ [])) (blank_last c [] ∙ space_keeps white c e h)
  trim_space e (d ∷ l) =
      (λ i. cond ((blank_last c (d ∷ l) ∙ space_keeps (foldl white_step white (d ∷ l)) c e h) i) [] (d ∷ trim_space e l i))

  trim_whole : is_space c ≡ false → (l : List ℕ) → trim (l ++ (c ∷ [])) ≡ l ++ (c ∷ [])
  unfolding trim
  trim_whole e [] = rw (ends e [])
  trim_whole e (d ∷ l) = rw (ends e (d ∷ l)) (ap {B = List ℕ} (λ k. d ∷ k) (trim_whole e l))

-- by position
module _ (text : List ℕ) (from i : ℕ) (h : from < i) (k : i ≤ length text) (low : get_or text (i - 1) 0 ≤ 127) where
  pub end_space : is_space (get_or text (i - 1) 0) ≡ true → trim (between text from (i - 1)) ≡ trim (between text from i)
  end_space e = sym (ap trim (between_last text from i h k) ∙ trim_space (get_or text (i - 1) 0) low e (between text from (i - 1)))

  pub end_whole : is_space (get_or text (i - 1) 0) ≡ false → trim (between text from i) ≡ between text from i
  end_whole e =
      ap trim (between_last text from i h k) ∙ trim_whole (get_or text (i - 1) 0) low e (between text from (i - 1)) ∙ sym (between_last text from i h k)

-- an end from which on all goes is the end of the whole text
pub end_before : (text : List ℕ) (from to i e : ℕ) → i ≤ to → trim (between text from i) ≡ trim (between text from to) → TrimEnd text from i e → TrimEnd text from to e
end_before text from to i e h same t = record { low = t.low; high = omega (arith, t.high); line = t.line ∙ same }

pub end_here : (text : List ℕ) (from i : ℕ) → from ≤ i → trim (between text from i) ≡ between text from i → TrimEnd text from i i
end_here text from i h e = record { low = h; high = omega arith; line = sym e }

pub trim_nothing : (text : List ℕ) (from i : ℕ) → i ≤ from → trim (between text from i) ≡ between text from i
unfolding trim
trim_nothing text from i h = rw (between_none text from i h)

-- CUT AND TRIMMED
cut_run : (l : List ℕ) → cut l ≡ run (not_byte 37) l
unfolding cut
cut_run [] = refl
cut_run (c ∷ l) =
    by_test (eqb c 37) (λ e. rw (e, run_no (not_byte 37) c l (ap not e))) (λ e. rw (e, run_yes (not_byte 37) c l (ap not e)) (ap {B = List ℕ} (λ k. c ∷ k) (cut_run l)))

pub clean_is : (text : List ℕ) (from to k e : ℕ) → from ≤ to → k ≡ end_in (not_byte 37) text from to → TrimEnd text from k e → CleanEnd text from to e
unfolding clean
clean_is text from to k e h x t =
    record {
      low = t.low;
      high = omega (arith, t.high, x, end_in_le (not_byte 37) text from to h);
      line = t.line ∙ ap (λ (j : ℕ). trim (between text from j)) x ∙ ap trim (sym (run_between (not_byte 37) text from to h) ∙ sym (cut_run (between text from to)));
    }
