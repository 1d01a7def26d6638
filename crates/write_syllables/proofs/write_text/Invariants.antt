-- `write_syllables::write_text` meets its contract: byte after byte.
use mathlib.Core.Path.{◌≡◌}
use lib.ListN.{length}
use Rattle.laws.specs.Bytes.{part, splice}
use Rattle.standard.specs.Lyrics.{syllable_text}
use Rattle.write_syllables.proofs.write_text.Given as goal

abbrev pub invariant-loop-j : goal.invariant-loop-j
invariant-loop-j l = (length l.to ≡ length l.initial.to) × (l.to ≡ splice l.initial.to 0 (syllable_text (part l.text l.at l.j)))
