-- A line's class by its first two bytes, and its kind by its class.
use Prim.Native.Nat.{ℕ, ◌<◌, ◌≤◌}
use mathlib.Core.Path.{◌≡◌, refl, sym, ap, ◌∙◌}
use mathlib.Core.Bool.{Bool, true, false, cond, ◌&&◌}
use mathlib.Core.List.{List, [], ◌∷◌}
use native.Mathlib.Omega.{arith}
use borrow.Author.Tests.{lt-ltb, le-ltb}
use lib.Dec.{eqb}
use lib.ListN.{length, get_or}
use Rattle.laws.specs.Lists.{is_nil}
use Rattle.laws.specs.Bytes.{between}
use Rattle.editions.specs.declared.Edition.{Edition}
use Rattle.reader.specs.Lines.{is_v, is_k, is_l, is_m, is_x, is_lyric, is_field, Kind, refused, field_kind, line_kind, kind_of}
use Rattle.text_lines.specs.Lines.{CleanEnd, is_letter, colon_class, class_of, kind_as}
use Rattle.text_lines.specs.declared.Class.{Class}
use Rattle.text_lines.specs.declared.Class.TheVariants as C

pub class_blank : (l : List ℕ) → length l ≡ 0 → C.Blank ≡ class_of l
class_blank [] h = refl
class_blank (a ∷ l) h = absurd (omega (arith, h))

pub class_one : (l : List ℕ) → length l ≡ 1 → C.Music ≡ class_of l
class_one [] h = absurd (omega (arith, h))
class_one (a ∷ []) h = refl
class_one (a ∷ b ∷ l) h = absurd (omega (arith, h))

-- tests of the first byte with a colon behind it, and with another byte
colon : (b : Bool) (x y z : Class) → y ≡ z → cond b x y ≡ cond (b && true) x z
colon true x y z e = refl
colon false x y z e = e

in_colon : (b : Bool) (x y z : Class) → x ≡ y → cond b x z ≡ cond (b && true) y z
in_colon true x y z e = e
in_colon false x y z e = refl

none : (b : Bool) (x y : Class) → y ≡ cond (b && false) x y
none true x y = refl
none false x y = refl

pub class_colon : (l : List ℕ) → 2 ≤ length l → get_or l 1 0 ≡ 58 → colon_class (get_or l 0 0) ≡ class_of l
class_colon [] h e = absurd (omega arith)
class_colon (a ∷ []) h e = absurd (omega arith)
class_colon (a ∷ b ∷ l) h e =
    rw e
    (colon (eqb a 119) C.Lyric _ _
    (in_colon (is_letter a) _ _ C.Music
    (colon (eqb a 86) C.Voice _ _
    (colon (eqb a 75) C.Key _ _
    (colon (eqb a 76) C.Unit _ _ (colon (eqb a 77) C.Meter _ _ (colon (eqb a 88) C.Tune C.Other C.Other refl)))))))

pub class_other : (l : List ℕ) → 2 ≤ length l → eqb (get_or l 1 0) 58 ≡ false → C.Music ≡ class_of l
class_other [] h e = absurd (omega arith)
class_other (a ∷ []) h e = absurd (omega arith)
class_other (a ∷ b ∷ l) h e = rw e (none (is_letter a) _ C.Music ∙ none (eqb a 119) C.Lyric _)

-- THE KIND OF A LINE, by its class
pass : (ed : Edition) (l : List ℕ) (b : Bool) (x y : Kind) (s t : Class) → x ≡ kind_as ed l s → y ≡ kind_as ed l t → cond b x y ≡ kind_as ed l (cond b s t)
pass ed l true x y s t p q = p
pass ed l false x y s t p q = q

pub kind_by_class : (ed : Edition) (l : List ℕ) → length l ≤ 1048576 → line_kind ed l ≡ kind_as ed l (class_of l)
unfolding line_kind field_kind
kind_by_class ed l h =
    rw (le-ltb 1048576 (length l) h)
    (pass ed l (is_nil l) _ _ C.Blank _ refl
    (pass ed l (is_lyric l) _ _ C.Lyric _ refl
    (pass ed l (is_field l) _ _ _ C.Music
    (pass ed l (is_v l) _ _ C.Voice _ refl
    (pass ed l (is_k l) _ _ C.Key _ refl
    (pass ed l (is_l l) _ _ C.Unit _ refl (pass ed l (is_m l) _ _ C.Meter _ refl (pass ed l (is_x l) _ _ C.Tune C.Other refl refl)))))
    refl)))

-- refusal 5
pub kind_long : (ed : Edition) (l : List ℕ) → 1048576 < length l → line_kind ed l ≡ refused 5
unfolding line_kind
kind_long ed [] h = absurd (omega arith)
kind_long ed (a ∷ l) h = rw (lt-ltb 1048576 (length (a ∷ l)) h)

-- of the line that `clean_end` found
module _ (ed : Edition) (t : List ℕ) (from to e : ℕ) (c : CleanEnd t from to e) where
  pub row_long : 1048576 < length (between t from e) → kind_of ed (between t from to) ≡ refused 5
  unfolding kind_of
  row_long h = ap (line_kind ed) (sym c.line) ∙ kind_long ed (between t from e) h

  pub row_kind : (k : Class) → k ≡ class_of (between t from e) → length (between t from e) ≤ 1048576 → kind_of ed (between t from to) ≡ kind_as ed (between t from e) k
  unfolding kind_of
  row_kind k x h = ap (line_kind ed) (sym c.line) ∙ kind_by_class ed (between t from e) h ∙ ap (kind_as ed (between t from e)) (sym x)
