-- The numbers of the refusals of tokens.
use Prim.Native.Nat.{ℕ, ◌+◌}
use mathlib.Core.Path.{◌≡◌, refl, ap, ◌∙◌}
use mathlib.Core.List.{List}
use lib.ListN.{drop}
use Rattle.editions.specs.declared.Edition.{Edition}
use Rattle.reader.specs.Tokens.{token_of, Effect, counts, refuses, sets_unit, sets_meter, no_effect, effect_of}
use Rattle.promises.specs.Refusals.{KeyMeets, middle, beyond, TokenMeets, key_inline, octave_note, octave_chord, many_more, many_less, list_shape, list_range, list_rise, slashes_note, slashes_chord, slashes_rest}
use Rattle.promises.proofs.TokenRefusals.{token_why}
use Rattle.refusals.specs.Numbers.{number_of}
use Rattle.text_bytes.specs.declared.Read.{Read}
use Rattle.token_lexemes.specs.Lexemes.{IsNumbered, refusal_with}
use Rattle.tokens.specs.declared.Effect as code
use Rattle.tokens.specs.Tokens.{effect_for, effect_as, effected_for}

key_number : (ed : Edition) (s : List ℕ) (n : ℕ) → KeyMeets ed s n → number_of (refusal_with n) ≡ n
key_number ed s n (middle ws w us a b c) = refl
key_number ed s n (beyond ws w us a b c d) = refl

number : (ed : Edition) (s : List ℕ) (n : ℕ) → TokenMeets ed s n → number_of (refusal_with n) ≡ n
number ed s n (key_inline a b c k) = key_number ed _ n k
number ed s n (octave_note c t a b d e) = refl
number ed s n (octave_chord a b c d) = refl
number ed s n (many_more a b) = refl
number ed s n (many_less a b) = refl
number ed s n (list_shape a b c) = refl
number ed s n (list_range x a b c d) = refl
number ed s n (list_rise x a b c d e) = refl
number ed s n (slashes_note c t a b d e f) = refl
number ed s n (slashes_chord ws a b c d e) = refl
number ed s n (slashes_rest k a b) = refl

-- a token is refused by a number of the list
pub numbered : (ed : Edition) (s : List ℕ) → IsNumbered (token_of ed s).token
unfolding effect_of
numbered ed s n e = number ed s n (token_why ed s n (ap effect_of e))

-- so its effect stands for the definition's
back : (ed : Edition) (s : List ℕ) (e : Effect) → effect_of (token_of ed s).token ≡ e → effect_as (effect_for e) ≡ e
unfolding effect_as effect_for
back ed s counts k = refl
back ed s (refuses n) k = ap refuses (number ed s n (token_why ed s n k))
back ed s (sets_unit u) k = refl
back ed s (sets_meter m) k = refl
back ed s no_effect k = refl

pub told : (ed : Edition) (line : List ℕ) (at : ℕ) (r : Read code.Effect) → r ≡ effected_for at (token_of ed (drop at line)) → effect_as r.value ≡ effect_of (token_of ed (drop at line)).token
told ed line at r e = ap (λ (x : Read code.Effect). effect_as x.value) e ∙ back ed (drop at line) (effect_of (token_of ed (drop at line)).token) refl

pub told_next : (ed : Edition) (line : List ℕ) (at : ℕ) (r : Read code.Effect) → r ≡ effected_for at (token_of ed (drop at line)) → r.next ≡ at + (token_of ed (drop at line)).used
told_next ed line at r e = ap (λ (x : Read code.Effect). x.next) e
