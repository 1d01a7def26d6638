-- What is met in a text that is passed is what the definition finds in it; so the key is the definition's, for every trimmed text.
use Prim.Native.Nat.{ℕ, suc, ◌-◌}
use mathlib.Core.Path.{◌≡◌, refl, sym, ap, ◌∙◌}
use mathlib.Core.Bool.{Bool, true, false, cond}
use mathlib.Core.Option.{none, some}
use mathlib.Core.Option as maths
use Rattle.std.specs.Prelude.{Option, Some, None}
use mathlib.Core.List.{List, [], ◌∷◌, map}
use native.Mathlib.Omega.{arith}
use lib.Dec.{eqb, leb}
use lib.ListN.{length, take}
use borrow.Author.Tests.{le-leb}
use Rattle.laws.specs.Lists.{starts_with, foldl}
use Rattle.laws.proofs.Bools.{by_test}
use Rattle.standard.specs.Bytes.{ascii, is, first, last, lower, is_capital}
use Rattle.reader.specs.Text.{is_space}
use Rattle.reader.specs.Pieces.{trimmed}
use Rattle.reader.specs.Keys.{named, cons_some, before_word, ends_in_m, major_of, minor_or, key_in}
use Rattle.field_tonics.specs.declared.Name.{Name}
use Rattle.field_tonics.specs.declared.Name.TheVariants.{Empty}
use Rattle.field_tonics.specs.Names.{with_byte, name_of, first_of}
use Rattle.field_tonics.proofs.NameLaws.{name_tonic, name_first}
use Rattle.field_keys.specs.declared.Passed.{Passed}
use Rattle.field_keys.specs.Passed.{first_found, pass_byte, pass_text, unpassed, key_named, major_else, ended_else, key_else, key_by}

-- `min` and `maj` are three bytes, and no more of the text is asked
three_min : (s : List ℕ) → starts_with (ascii "min") (map lower (take 3 s)) ≡ starts_with (ascii "min") (map lower s)
three_min [] = refl
three_min (a ∷ []) = refl
three_min (a ∷ b ∷ []) = refl
three_min (a ∷ b ∷ c ∷ s) = refl

three_maj : (s : List ℕ) → starts_with (ascii "maj") (map lower (take 3 s)) ≡ starts_with (ascii "maj") (map lower s)
three_maj [] = refl
three_maj (a ∷ []) = refl
three_maj (a ∷ b ∷ []) = refl
three_maj (a ∷ b ∷ c ∷ s) = refl

-- what was met before, or the name m and what the text has before the word
found_in : Option Name → Name → maths.Option (List ℕ) → Option Name
found_in (Some n) m o = Some n
found_in None m none = None
found_in None m (some r) = Some (foldl with_byte m r)

found_none : (x : Option Name) (m : Name) → found_in x m none ≡ x
unfolding found_in
found_none (Some n) m = refl
found_none None m = refl

-- one byte
found_byte : (x : Option Name) (m : Name) (b : Bool) (c : ℕ) (o : maths.Option (List ℕ))
    → found_in (first_found x b m) (with_byte m c) o ≡ found_in x m (elim b [ true ↦ some [] | false ↦ cons_some c o ])
unfolding found_in first_found cons_some
found_byte (Some n) m b c o = refl
found_byte None m true c o = refl
found_byte None m false c none = refl
found_byte None m false c (some r) = refl

-- THE FOUR PARTS of what was met
pass_name : (p : Passed) (s : List ℕ) → (pass_text p s).name ≡ foldl with_byte p.name s
unfolding pass_text pass_byte
pass_name p [] = refl
pass_name p (c ∷ s) = pass_name (pass_byte p c (starts_with (ascii "min") (map lower (c ∷ s))) (starts_with (ascii "maj") (map lower (c ∷ s)))) s

pass_minor : (p : Passed) (s : List ℕ) → (pass_text p s).minor ≡ found_in p.minor p.name (before_word (ascii "min") s)
unfolding pass_text pass_byte before_word
pass_minor p [] = sym (found_none p.minor p.name)
pass_minor p (c ∷ s) =
    pass_minor (pass_byte p c (starts_with (ascii "min") (map lower (c ∷ s))) (starts_with (ascii "maj") (map lower (c ∷ s)))) s ∙ found_byte p.minor p.name (starts_with (ascii "min") (map lower (c ∷ s))) c (before_word (ascii "min") s)
    ∙ ap (λ (b : Bool). found_in p.minor p.name (elim b [ true ↦ some [] | false ↦ cons_some c (before_word (ascii "min") s) ])) (sym (three_min (c ∷ s)))

pass_major : (p : Passed) (s : List ℕ) → (pass_text p s).major ≡ found_in p.major p.name (before_word (ascii "maj") s)
unfolding pass_text pass_byte before_word
pass_major p [] = sym (found_none p.major p.name)
pass_major p (c ∷ s) =
    pass_major (pass_byte p c (starts_with (ascii "min") (map lower (c ∷ s))) (starts_with (ascii "maj") (map lower (c ∷ s)))) s ∙ found_byte p.major p.name (starts_with (ascii "maj") (map lower (c ∷ s))) c (before_word (ascii "maj") s)
    ∙ ap (λ (b : Bool). found_in p.major p.name (elim b [ true ↦ some [] | false ↦ cons_some c (before_word (ascii "maj") s) ])) (sym (three_maj (c ∷ s)))

-- the last byte is an m: the name before it
ended_in : Option Name → Name → List ℕ → Option Name
ended_in x m [] = x
ended_in x m (c ∷ s) = cond (is "m" (last (c ∷ s))) (Some (foldl with_byte m (take (length s) (c ∷ s)))) None

last_cons : (c d : ℕ) (s : List ℕ) → last (c ∷ d ∷ s) ≡ last (d ∷ s)
last_cons c d s =
    let e : suc (suc (length s)) - 1 ≡ suc (length s) = omega arith in
    let f : suc (length s) - 1 ≡ length s = omega arith in
    rw (e, f)

ended_byte : (m : Name) (c : ℕ) (s : List ℕ) → ended_in (first_found None (eqb c 109) m) (with_byte m c) s ≡ ended_in None m (c ∷ s)
unfolding ended_in first_found
ended_byte m c [] = refl
ended_byte m c (d ∷ s) = rw (last_cons c d s)

pass_ended : (p : Passed) (s : List ℕ) → (pass_text p s).ended ≡ ended_in p.ended p.name s
unfolding pass_text pass_byte ended_in
pass_ended p [] = refl
pass_ended p (c ∷ s) = pass_ended (pass_byte p c (starts_with (ascii "min") (map lower (c ∷ s))) (starts_with (ascii "maj") (map lower (c ∷ s)))) s ∙ ended_byte p.name c s

-- THE KEY
-- on the tonic of a name
key_of_name : (m : Bool) (s : List ℕ) → key_named m (name_of s) ≡ named m (trimmed s)
unfolding key_named named
key_of_name m s = rw (name_tonic s)

major_same : (k : List ℕ) (o : maths.Option (List ℕ)) → trimmed k ≡ k → major_else (found_in None Empty o) (name_of k) ≡ major_of k o
unfolding major_else major_of found_in
major_same k (some r) t = key_of_name false r
major_same k none t = key_of_name false k ∙ ap (named false) t

-- a capital first and m last
capital : (c : ℕ) (s : List ℕ) → is_space c ≡ false → is "m" (last (c ∷ s)) ≡ true
    → is_capital (first_of (name_of (take (length s) (c ∷ s)))) ≡ ends_in_m (c ∷ s)
unfolding ends_in_m
capital c [] q e = refl
capital c (d ∷ s) q e =
    let two : leb 2 (length (c ∷ d ∷ s)) ≡ true = le-leb 2 (length (c ∷ d ∷ s)) (omega arith) in
    ap is_capital (name_first c (take (length s) (d ∷ s)) q) ∙ rw (two, e)

no_m : (k : List ℕ) → is "m" (last k) ≡ false → ends_in_m k ≡ false
unfolding ends_in_m
no_m k e = by_test (leb 2 (length k)) (λ a. rw (a, e)) (λ a. rw a)

with_m : (c : ℕ) (s : List ℕ) → is_space c ≡ false → trimmed (c ∷ s) ≡ c ∷ s → is "m" (last (c ∷ s)) ≡ true
    → ended_else (Some (name_of (take (length s) (c ∷ s)))) (found_in None Empty (before_word (ascii "maj") (c ∷ s))) (name_of (c ∷ s)) ≡ minor_or (c ∷ s) none
unfolding ended_else minor_or
with_m c s q t e =
    let one : length (c ∷ s) - 1 ≡ length s = omega arith in
    by_test (ends_in_m (c ∷ s)) (λ z. rw (capital c s q e ∙ z, z, minor_or) (rw one (key_of_name true (take (length s) (c ∷ s)))))
    (λ z. rw (capital c s q e ∙ z, z, minor_or) (major_same (c ∷ s) (before_word (ascii "maj") (c ∷ s)) t))

ended_same : (c : ℕ) (s : List ℕ) → is_space c ≡ false → trimmed (c ∷ s) ≡ c ∷ s
    → ended_else (ended_in None Empty (c ∷ s)) (found_in None Empty (before_word (ascii "maj") (c ∷ s))) (name_of (c ∷ s)) ≡ minor_or (c ∷ s) none
unfolding ended_in ended_else minor_or
ended_same c s q t =
    by_test (is "m" (last (c ∷ s))) (λ e. rw e (with_m c s q t e))
    (λ e. rw (e, no_m (c ∷ s) e, minor_or) (major_same (c ∷ s) (before_word (ascii "maj") (c ∷ s)) t))

minor_same : (k : List ℕ) (o : maths.Option (List ℕ)) → is_space (first k) ≡ false → trimmed k ≡ k
    → key_else (found_in None Empty o) (ended_in None Empty k) (found_in None Empty (before_word (ascii "maj") k)) (name_of k) ≡ minor_or k o
unfolding key_else ended_else minor_or found_in ended_in ends_in_m
minor_same k (some r) q t = key_of_name true r
minor_same [] none q t = major_same [] (before_word (ascii "maj") []) t
minor_same (c ∷ s) none q t = ended_same c s q t

-- of a text that is trimmed
pub key_same : (k : List ℕ) → is_space (first k) ≡ false → trimmed k ≡ k → key_by (pass_text unpassed k) ≡ key_in k
unfolding key_by key_in
key_same k q t =
    rw (pass_minor unpassed k, pass_ended unpassed k, pass_major unpassed k, pass_name unpassed k)
    (minor_same k (before_word (ascii "min") k) q t)
