-- The numbers of the refusals.
use Rattle.std.specs.Prelude.{ℕ}
use Rattle.refusals.specs.declared.Refusal.{Refusal}

abbrev pub number_of : Refusal → ℕ
number_of Refusal.NoMusic = 1
number_of Refusal.TooLong = 2
number_of Refusal.NotUtf8 = 3
number_of Refusal.TooManyLines = 4
number_of Refusal.LineTooLong = 5
number_of Refusal.NotAscii = 6
number_of Refusal.SecondTune = 7
number_of Refusal.NoVoiceId = 8
number_of Refusal.TooManyVoices = 9
number_of Refusal.Middle = 10
number_of Refusal.TooManyNotes = 11
number_of Refusal.Octave = 12
number_of Refusal.BrokenRhythm = 13
number_of Refusal.Passes = 14
number_of Refusal.ScratchShort = 15
number_of Refusal.ReadingShort = 16
number_of Refusal.PassRange = 17
number_of Refusal.PassOrder = 18
number_of Refusal.NoSuchPart = 19
number_of Refusal.ListShort = 20
number_of Refusal.KeyBeyond = 21
number_of Refusal.ManySlashes = 22
