-- An answer is told by what it means: no two refusals have one number.
use Prim.Native.Nat.{ℕ}
use mathlib.Core.Path.{◌≡◌, refl, sym, ap, ◌∙◌}
use mathlib.Core.Bool.{cond}
use lib.Dec.{eqb}
use Rattle.std.specs.Prelude.{Result, Ok, Err}
use Rattle.reader.specs.Answer.{Answer, read, refused}
use Rattle.refusals.specs.declared.Refusal.{Refusal}
use Rattle.refusals.specs.declared.Refused.{Refused}
use Rattle.refusals.specs.Numbers.{number_of}
use Rattle.reading_answers.specs.Answers.{answer_as}

-- the refusal of a number
refusal_of : ℕ → Refusal
refusal_of n = cond (eqb n 1) Refusal.NoMusic (cond (eqb n 2) Refusal.TooLong (cond (eqb n 3) Refusal.NotUtf8 (cond (eqb n 4) Refusal.TooManyLines (cond (eqb n 5) Refusal.LineTooLong (cond (eqb n 6) Refusal.NotAscii (cond (eqb n 7) Refusal.SecondTune (cond (eqb n 8) Refusal.NoVoiceId (cond (eqb n 9) Refusal.TooManyVoices (cond (eqb n 10) Refusal.Middle (cond (eqb n 11) Refusal.TooManyNotes (cond (eqb n 12) Refusal.Octave (cond (eqb n 13) Refusal.BrokenRhythm (cond (eqb n 14) Refusal.Passes (cond (eqb n 15) Refusal.ScratchShort (cond (eqb n 16) Refusal.ReadingShort (cond (eqb n 17) Refusal.PassRange (cond (eqb n 18) Refusal.PassOrder (cond (eqb n 19) Refusal.NoSuchPart (cond (eqb n 20) Refusal.ListShort (cond (eqb n 21) Refusal.KeyBeyond (Refusal.ManySlashes)))))))))))))))))))))

refusal_back : (r : Refusal) → refusal_of (number_of r) ≡ r
unfolding refusal_of
refusal_back Refusal.NoMusic = refl
refusal_back Refusal.TooLong = refl
refusal_back Refusal.NotUtf8 = refl
refusal_back Refusal.TooManyLines = refl
refusal_back Refusal.LineTooLong = refl
refusal_back Refusal.NotAscii = refl
refusal_back Refusal.SecondTune = refl
refusal_back Refusal.NoVoiceId = refl
refusal_back Refusal.TooManyVoices = refl
refusal_back Refusal.Middle = refl
refusal_back Refusal.TooManyNotes = refl
refusal_back Refusal.Octave = refl
refusal_back Refusal.BrokenRhythm = refl
refusal_back Refusal.Passes = refl
refusal_back Refusal.ScratchShort = refl
refusal_back Refusal.ReadingShort = refl
refusal_back Refusal.PassRange = refl
refusal_back Refusal.PassOrder = refl
refusal_back Refusal.NoSuchPart = refl
refusal_back Refusal.ListShort = refl
refusal_back Refusal.KeyBeyond = refl
refusal_back Refusal.ManySlashes = refl

-- an answer from its meaning
back : Answer → Result ℕ Refused
back (read n) = Ok n
back (refused n l) = Err (record { refusal = refusal_of n; line = l })

back_as : (r : Result ℕ Refused) → back (answer_as r) ≡ r
unfolding back
back_as (Ok n) = refl
back_as (Err e) = ap (λ (x : Refusal). Err (record { refusal = x; line = e.line })) (refusal_back e.refusal)

pub same_answer : (r s : Result ℕ Refused) → answer_as r ≡ answer_as s → r ≡ s
same_answer r s e = sym (back_as r) ∙ ap back e ∙ back_as s

-- one that means a length is that length
pub read_is : (r : Result ℕ Refused) (n : ℕ) → answer_as r ≡ read n → r ≡ Ok n
unfolding back
read_is r n e = sym (back_as r) ∙ ap back e
