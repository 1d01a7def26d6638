-- Laws of the values of fields.
use Rattle.std.specs.Prelude.{Option, Some, None, Result, Ok, Err, IsErr, IsErrAnd, unwrap_or}
use Prim.Native.Nat.{ℕ, ◌+◌, ◌-◌, ◌≤◌}
use mathlib.Core.Path.{◌≡◌, refl, sym, ap, ◌∙◌}
use mathlib.Core.Bool.{true, false, true≢false}
use mathlib.Core.Option as maths
use mathlib.Core.Option.{none, some}
use mathlib.Core.List.{List, [], ◌∷◌, ◌++◌}
use native.Mathlib.Omega.{arith}
use lib.ListN.{length, get_or, take, drop, length-append}
use borrow.Author.Tests.{eq-eqb, ne_eqb}
use Rattle.laws.specs.Lists.{any, eq_text, starts_with}
use Rattle.laws.specs.Bytes.{part}
use Rattle.laws.proofs.Bools.{by_test}
use Rattle.laws.proofs.Lists.{first_at}
use Rattle.standard.specs.Bytes.{ascii, is, first}
use Rattle.standard.specs.Fields.{named_meter}
use Rattle.editions.specs.declared.Edition.{Edition}
use Rattle.reader.specs.Pieces.{numeral, after, field_words}
use Rattle.reader.specs.Fields.{meter_number, meter_bottom, meter_or, meter_text, unit_text, or_eight, middle_word, first_word, identifier, meter_of, unit_inline, key_refusal}
use Rattle.reader.specs.Token.{meter, field}
use Rattle.reader.specs.Inline.{unit_token, token_unless, key_token, field_token}
use Rattle.reader.proofs.Digits.{digits_le}
use Rattle.refusals.specs.declared.Refusal.{Refusal}
use Rattle.refusals.specs.Numbers.{number_of}
use Rattle.text_bytes.specs.Options.{option}
use Rattle.text_words.specs.Words.{FirstWord, Unsplit, SplitAround}
use Rattle.field_values.specs.declared.Field.{Field}
use Rattle.field_values.specs.Values.{meter_parts, token_as, Identifier}
use Rattle.laws.proofs.Parts.{between_none}

-- A NUMBER is at most its bound
pub numeral_le : (top : ℕ) (s : List ℕ) (v : ℕ) → numeral top s ≡ some v → v ≤ top
unfolding numeral
numeral_le top s v e =
    by_test (is "+" (first s)) (λ q. digits_le top (drop 1 s) v (rw (q, numeral) at e)) (λ q. digits_le top s v (rw (q, numeral) at e))

-- METERS by name
module _ (m : List ℕ) where
  pub meter_common : eq_text m (ascii "C") ≡ true → meter_text m ≡ (4, 4)
  unfolding meter_text meter_or named_meter
  meter_common e = rw (e, named_meter)

  pub meter_cut : eq_text m (ascii "C") ≡ false → eq_text m (ascii "C|") ≡ true → meter_text m ≡ (2, 2)
  unfolding meter_text meter_or named_meter
  meter_cut e f = rw (e, f, named_meter)

  pub meter_small : eq_text m (ascii "C") ≡ false → eq_text m (ascii "C|") ≡ false → eq_text m (ascii "c|") ≡ true → meter_text m ≡ (2, 2)
  unfolding meter_text meter_or named_meter
  meter_small e f g = rw (e, f, named_meter) (rw (g, meter_or))

  pub meter_plain : eq_text m (ascii "C") ≡ false → eq_text m (ascii "C|") ≡ false → eq_text m (ascii "c|") ≡ false → meter_text m ≡ meter_parts m
  unfolding meter_text meter_or named_meter meter_parts
  meter_plain e f g = rw (e, f, named_meter) (rw (g, meter_or))

-- top and bottom, by the slash
module _ (m : List ℕ) where
  pub parts_slash : (top bottom : List ℕ) → SplitAround 47 m top bottom → meter_parts m ≡ (meter_number top, meter_number bottom)
  unfolding meter_parts meter_bottom
  parts_slash top bottom p = rw (p.before, p.after)

  pub parts_plain : Unsplit 47 m → meter_parts m ≡ (meter_number m, 4)
  unfolding meter_parts meter_bottom
  parts_plain p = rw (p.before, p.after)

-- UNITS: what stands between two slashes
pub unit_absent : (t : List ℕ) → Unsplit 47 t → unit_text (after (is "/") t) ≡ none
unfolding unit_text
unit_absent t p = rw p.after

pub unit_between : (t front behind text back : List ℕ) → SplitAround 47 t front behind → SplitAround 47 behind text back → unit_text (after (is "/") t) ≡ some text
unfolding unit_text
unit_between t front behind text back p q = rw (p.after, q.before)

pub unit_behind : (t front behind : List ℕ) → SplitAround 47 t front behind → Unsplit 47 behind → unit_text (after (is "/") t) ≡ some behind
unfolding unit_text
unit_behind t front behind p q = rw (p.after, q.before)

-- of a line
pub eight : (o : Option ℕ) (n : maths.Option ℕ) → option o ≡ n → unwrap_or o 8 ≡ or_eight n
unfolding or_eight
eight None n e = rw (← e)
eight (Some x) n e = rw (← e)

-- THE IDENTIFIER
pub first_is : (value word behind : List ℕ) → FirstWord value word behind → word ≡ identifier value
unfolding identifier first_word
first_is value word behind f = sym (ap first_word f.words)

-- A `middle=` WORD
module _ (t word behind : List ℕ) (f : FirstWord t word behind) where
  pub middle_here : starts_with (ascii "middle=") word ≡ true → middle_word t ≡ true
  unfolding middle_word
  middle_here e = ap (any (starts_with (ascii "middle="))) f.words ∙ rw e

  pub middle_on : starts_with (ascii "middle=") word ≡ false → middle_word t ≡ middle_word behind
  unfolding middle_word
  middle_on e = ap (any (starts_with (ascii "middle="))) f.words ∙ rw e

-- AN INLINE FIELD: its name, its colon, its value
module _ (ed : Edition) (s : List ℕ) where
  pub field_no_colon : (get_or s 1 0 ≡ 58 → ⊥) → field_token ed s ≡ field
  unfolding field_token
  field_no_colon n = rw (first_at s 1, ne_eqb (get_or s 1 0) 58 n, field_token)

  module _ (colon : get_or s 1 0 ≡ 58) where
    behind_colon : is ":" (first (drop 1 s)) ≡ true
    behind_colon = ap (is ":") (first_at s 1 ∙ colon)

    pub field_unit : first s ≡ 76 → field_token ed s ≡ unit_token (unit_inline (drop 2 s))
    unfolding field_token
    field_unit e = rw (behind_colon, field_token, eq-eqb (first s) 76 e)

    pub field_meter : first s ≡ 77 → field_token ed s ≡ meter (meter_of (drop 2 s))
    unfolding field_token
    field_meter e = rw (behind_colon, field_token, ne_eqb (first s) 76 (λ p. omega (arith, e, p)), eq-eqb (first s) 77 e)

    pub field_key : first s ≡ 75 → field_token ed s ≡ key_token ed (drop 2 s)
    unfolding field_token
    field_key e = rw (behind_colon, field_token, ne_eqb (first s) 76 (λ p. omega (arith, e, p)), ne_eqb (first s) 77 (λ p. omega (arith, e, p)), eq-eqb (first s) 75 e)

    pub field_other : (first s ≡ 76 → ⊥) → (first s ≡ 77 → ⊥) → (first s ≡ 75 → ⊥) → field_token ed s ≡ field
    unfolding field_token
    field_other l m k = rw (behind_colon, field_token, ne_eqb (first s) 76 l, ne_eqb (first s) 77 m, ne_eqb (first s) 75 k)

-- a key that is refused, or not
pub key_refused : (ed : Edition) (v : List ℕ) (r : Result Field Refusal) (refusal : Refusal) → IsErr r × IsErrAnd r (λ e. e ≡ refusal) → key_refusal ed v ≡ some (number_of refusal)
    → token_as r ≡ key_token ed v
unfolding key_token token_unless
key_refused ed v (Ok f) refusal h e = absurd (true≢false (sym h.0))
key_refused ed v (Err x) refusal h e = rw (h.1, e)

-- where the first word stands
drop_front : (s t : List ℕ) → drop (length s) (s ++ t) ≡ t
drop_front [] t = refl
drop_front (c ∷ s) t = drop_front s t

take_front : (s t : List ℕ) → take (length s) (s ++ t) ≡ s
take_front [] t = refl
take_front (c ∷ s) t = ap (λ (l : List ℕ). c ∷ l) (take_front s t)

pub identifier_part : (value word behind : List ℕ) → FirstWord value word behind
    → Identifier value (record { start = length value - length behind - length word; end = length value - length behind })
unfolding part
identifier_part value word behind f =
    let gap = f.place.0 in
    let long : length value ≡ length gap + (length word + length behind) = ap length f.place.1 ∙ length-append gap (word ++ behind) ∙ ap (λ n. length gap + n) (length-append word behind) in
    let start : length value - length behind - length word ≡ length gap = omega (arith, long) in
    let width : length value - length behind - (length value - length behind - length word) ≡ length word = omega (arith, long) in
    record {
      order = omega arith;
      high = omega arith;
      text = rw (width, start) (ap (λ (v : List ℕ). take (length word) (drop (length gap) v)) f.place.1 ∙ ap (take (length word)) (drop_front gap (word ++ behind)) ∙ take_front word behind ∙ first_is value word behind f);
    }

pub identifier_none : (value : List ℕ) → field_words value ≡ [] → Identifier value (record { start = length value; end = length value })
unfolding identifier first_word
identifier_none value e =
    record {
      order = omega arith;
      high = omega arith;
      text = between_none value (length value) (length value) (omega arith) ∙ sym (ap first_word e);
    }
