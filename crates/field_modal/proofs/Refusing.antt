-- WHAT IS REFUSED AMONG THE WORDS OF A VALUE: by the first word at which something is.
use Prim.Native.Nat.{ℕ}
use Rattle.std.specs.Prelude.{Result, Ok, Err, IsErr, IsErrAnd}
use mathlib.Core.Path.{◌≡◌, sym, ap, ◌∙◌}
use mathlib.Core.Bool.{Bool, true, false, true≢false, ◌&&◌}
use mathlib.Core.Option.{some}
use mathlib.Core.List.{List}
use Rattle.laws.specs.Lists.{starts_with}
use Rattle.standard.specs.Bytes.{ascii}
use Rattle.reader.specs.Pieces.{field_words}
use Rattle.reader.specs.Keys.{is_key_word}
use Rattle.reader.specs.Fields.{first_met, key_refusal}
use Rattle.editions.specs.declared.Edition.TheVariants.{Second}
use Rattle.refusals.specs.declared.Refusal.{Refusal}
use Rattle.refusals.specs.Numbers.{number_of}
use Rattle.text_words.specs.Words.{FirstWord}
use Rattle.field_keys.specs.declared.Key.{Key}
use Rattle.field_modal.specs.ModalKeys.{KeyIs}

module _ (beyond : Bool) (t word behind : List ℕ) (f : FirstWord t word behind) where
  pub met_middle : starts_with (ascii "middle=") word ≡ true → first_met beyond (field_words t) ≡ some 10
  unfolding first_met
  met_middle m = ap (first_met beyond) f.words ∙ rw (m, first_met)

  pub met_beyond : starts_with (ascii "middle=") word ≡ false → (beyond && is_key_word word) ≡ true → first_met beyond (field_words t) ≡ some 21
  unfolding first_met
  met_beyond m k = ap (first_met beyond) f.words ∙ rw (m, first_met) (rw k)

  pub met_on : starts_with (ascii "middle=") word ≡ false → (beyond && is_key_word word) ≡ false → first_met beyond (field_words t) ≡ first_met beyond (field_words behind)
  unfolding first_met
  met_on m k = ap (first_met beyond) f.words ∙ rw (m, first_met) (rw k)

-- a refusal that is passed on
pub passed_on : (v : List ℕ) (r : Result Key Refusal) (refusal : Refusal) → IsErr r × IsErrAnd r (λ e. e ≡ refusal) → key_refusal Second v ≡ some (number_of refusal) → KeyIs Second v r
passed_on v (Ok k) refusal h e = absurd (true≢false (sym h.0))
passed_on v (Err x) refusal h e = e ∙ ap (λ y. some (number_of y)) (sym h.1)
