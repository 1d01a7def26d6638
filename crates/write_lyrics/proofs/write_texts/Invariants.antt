-- `write_lyrics::write_texts` meets its contract: what is left of the notes that are sung gives what is left of the texts.
use Prim.Native.Nat.{◌-◌}
use mathlib.Core.Path.{◌≡◌}
use lib.ListN.{length}
use Rattle.write_notes.proofs.Written.{Written}
use Rattle.lyrics.specs.Sheet.{syllables_in}
use Rattle.write_lyrics.specs.Out.{texts_out}
use Rattle.write_lyrics.proofs.write_texts.Given as goal

abbrev pub invariant-loop-j : goal.invariant-loop-j
invariant-loop-j l =
    (length l.to ≡ length l.initial.to) × Written l.initial.to (texts_out (syllables_in l.words.text.now l.words.store.now l.words.sheet) 0 l.sung) (texts_out (syllables_in l.words.text.now l.words.store.now l.words.sheet) l.j (l.sung - l.j)) l.to l.at
