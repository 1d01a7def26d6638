-- The refusals by their numbers.
use mathlib.Core.Path.{◌≡◌, refl}
use Rattle.refusals.specs.declared.Refusal.{Refusal}
use Rattle.refusals.specs.Numbers.{number_of}
use Rattle.token_lexemes.specs.Lexemes.{refusal_with}

pub refusal_back : (x : Refusal) → refusal_with (number_of x) ≡ x
refusal_back Refusal.NoMusic = refl
refusal_back Refusal.TooLong = refl
refusal_back Refusal.NotUtf8 = refl
refusal_back Refusal.TooManyLines = refl
refusal_back Refusal.LineTooLong = refl
refusal_back Refusal.NotAscii = refl
refusal_back Refusal.SecondTune = refl
refusal_back Refusal.NoVoiceId = refl
refusal_back Refusal.TooManyVoices = refl
refusal_back Refusal.Middle = refl
refusal_back Refusal.TooManyNotes = refl
refusal_back Refusal.Octave = refl
refusal_back Refusal.BrokenRhythm = refl
refusal_back Refusal.Passes = refl
refusal_back Refusal.ScratchShort = refl
refusal_back Refusal.ReadingShort = refl
refusal_back Refusal.PassRange = refl
refusal_back Refusal.PassOrder = refl
refusal_back Refusal.NoSuchPart = refl
refusal_back Refusal.ListShort = refl
refusal_back Refusal.KeyBeyond = refl
refusal_back Refusal.ManySlashes = refl
