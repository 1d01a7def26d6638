-- Tuplets, or slur starts instead.
use Prim.Native.Nat.{ℕ, ◌+◌, ◌-◌, ◌^◌}
use mathlib.Core.Path.{◌≡◌, refl, sym, ap, ◌∙◌}
use mathlib.Core.Option.{Option, none, some}
use mathlib.Core.List.{List}
use native.Mathlib.Omega.{arith}
use lib.Dec.{ltb}
use lib.ListN.{drop}
use lib.Seq.{drop-drop}
use Rattle.laws.specs.Lists.{count_while}
use Rattle.laws.proofs.Bools.{by_test}
use Rattle.standard.specs.Bytes.{is, is_digit, first}
use Rattle.standard.specs.Tuplets as standard
use Rattle.editions.specs.declared.Edition.{Edition}
use Rattle.reader.specs.Token.{tuplet, Taken}
use Rattle.reader.specs.Tuplets.{positive, normal_for, counted, with_count, with_normal, with_actual, tuplet_of, or_slur, part_or}
use Rattle.reader.specs.Tokens.{paren, token_as}
use Rattle.std.specs.Prelude as code
use Rattle.text_bytes.specs.declared.Read.{Read}
use Rattle.token_symbols.specs.Tuplets.{tuplet_read, tuplet_in, tuplet_for}
use Rattle.token_symbols.specs.declared.Tuplet.{Tuplet}
use Rattle.token_lexemes.specs.Lexemes.{lexeme_for, cut_for}
use Rattle.token_lexemes.specs.declared.Token.TheVariants as lexeme

-- what is read, if anything is, is a tuplet
pub record IsTuplet (t : Taken) : Type 0 where
  pub of : standard.Tuplet
  pub is_it : t.token ≡ tuplet of

unfoldable pub Form : Option Taken → Type 0
Form none = Unit {0}
Form (some t) = IsTuplet t

counted_form : (p q n : ℕ) (o : Option ℕ) → Form (counted p q n o)
unfolding counted Form
counted_form p q n none = tt
counted_form p q n (some r) = record { of = _; is_it = refl }

count_form : (ed : Edition) (p q n : ℕ) (s : List ℕ) → Form (with_count ed p q n s)
unfolding with_count Form
count_form ed p q n s =
    by_test (is ":" (first s))
    (λ e. rw (e, with_count) (counted_form p q (n + 1 + count_while is_digit (drop 1 s)) (part_or ed p (2 ^ 64 - 1) (drop 1 s))))
    (λ e. rw (e, with_count) (record { of = record { actual = p; normal = q; count = p }; is_it = refl }))

normal_form : (ed : Edition) (p n : ℕ) (s : List ℕ) (o : Option ℕ) → Form (with_normal ed p n s o)
unfolding with_normal Form
normal_form ed p n s none = tt
normal_form ed p n s (some q) = count_form ed p q (n + 1 + count_while is_digit (drop 1 s)) (drop (1 + count_while is_digit (drop 1 s)) s)

actual_form : (ed : Edition) (n : ℕ) (s : List ℕ) (o : Option ℕ) → Form (with_actual ed n s o)
unfolding with_actual Form
actual_form ed n s none = tt
actual_form ed n s (some p) =
    by_test (ltb p 2)
    (λ e. rw (e, with_actual) tt)
    (λ e. rw (e, with_actual)
    (by_test (is ":" (first s))
    (λ f. rw f (normal_form ed p n s (part_or ed (normal_for ed p) 255 (drop 1 s))))
    (λ f. rw f (record { of = record { actual = p; normal = normal_for ed p; count = p }; is_it = refl }))))

pub form : (ed : Edition) (s : List ℕ) → Form (tuplet_of ed s)
unfolding tuplet_of
form ed s = actual_form ed (1 + count_while is_digit s) (drop (count_while is_digit s) s) (positive 255 s)

-- none
none_by : (at : ℕ) (o : Option Taken) → Form o → tuplet_for at o ≡ code.None → record { value = lexeme.Slur; next = at + 1 } ≡ cut_for at (or_slur o)
unfolding Form tuplet_for tuplet_in or_slur lexeme_for
none_by at none f e = refl
none_by at (some t) f e =
    let k : tuplet_in (at + t.used) (tuplet f.of) ≡ code.None = rw f.is_it at e in
    let z : ◌≡◌ {A = ℕ} 0 1 = cc in absurd (omega arith)

-- one
one_by : (at : ℕ) (o : Option Taken) → Form o → (p q r n : ℕ) → tuplet_for at o ≡ tuplet_read p q r n → record { value = lexeme.Tuplet p q r; next = n } ≡ cut_for at (or_slur o)
unfolding Form tuplet_for tuplet_in or_slur lexeme_for
one_by at none f p q r n e = let z : ◌≡◌ {A = ℕ} 0 1 = cc in absurd (omega arith)
one_by at (some t) f p q r n e =
    let k : tuplet_in (at + t.used) (tuplet f.of) ≡ tuplet_read p q r n = rw f.is_it at e in
    let u : ◌≡◌ {A = Read Tuplet} (record { value = record { actual = p; normal = q; count = r }; next = n }) (record { value = record { actual = f.of.actual; normal = f.of.normal; count = f.of.count }; next = at + t.used }) = cc in
    let a : p ≡ f.of.actual = ap (λ (y : Read Tuplet). y.value.actual) u in
    let b : q ≡ f.of.normal = ap (λ (y : Read Tuplet). y.value.normal) u in
    let d : r ≡ f.of.count = ap (λ (y : Read Tuplet). y.value.count) u in
    let m : n ≡ at + t.used = ap (λ (y : Read Tuplet). y.next) u in
    (λ j. record { value = lexeme.Tuplet (a j) (b j) (d j); next = m j }) ∙ ap (λ x. record { value = lexeme_for at x; next = at + t.used }) (sym f.is_it)

module _ (ed : Edition) (line : List ℕ) (at : ℕ) where
  whole : tuplet_of ed (drop (at + 1) line) ≡ tuplet_of ed (drop 1 (drop at line))
  whole = ap (tuplet_of ed) (sym (drop-drop 1 at line))

  pub slur_instead : tuplet_for at (tuplet_of ed (drop (at + 1) line)) ≡ code.None → record { value = lexeme.Slur; next = at + 1 } ≡ cut_for at (token_as ed paren (drop at line))
  unfolding token_as
  slur_instead e = none_by at (tuplet_of ed (drop 1 (drop at line))) (form ed (drop 1 (drop at line))) (ap (tuplet_for at) (sym whole) ∙ e)

  pub tuplet_is_read : (p q r n : ℕ) → tuplet_for at (tuplet_of ed (drop (at + 1) line)) ≡ tuplet_read p q r n → record { value = lexeme.Tuplet p q r; next = n } ≡ cut_for at (token_as ed paren (drop at line))
  unfolding token_as
  tuplet_is_read p q r n e = one_by at (tuplet_of ed (drop 1 (drop at line))) (form ed (drop 1 (drop at line))) p q r n (ap (tuplet_for at) (sym whole) ∙ e)
