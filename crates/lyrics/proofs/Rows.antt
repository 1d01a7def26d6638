-- WHAT A ROW DOES to what was sung to its note.
use Prim.Native.Nat.{ℕ}
use mathlib.Core.Path.{◌≡◌}
use mathlib.Core.List.{List}
use Rattle.std.specs.Prelude.{Some}
use Rattle.reader.specs.Lyrics.{Syllable, put}
use Rattle.lyric_words.specs.declared.Syllabic as code
use Rattle.lyrics.specs.Sheet.{RowRead, syllable_of, apply_as, apply_row}

-- one that is no hold
pub happens_put : (text : List ℕ) (r : RowRead) (c : code.Syllabic) → r.syllabic ≡ Some c → apply_row text r ≡ put (syllable_of text r c)
unfolding apply_as
happens_put text r c e = λ i ys. at ys i
  where
    at : (ys : List Syllable) → apply_row text r ys ≡ put (syllable_of text r c) ys
    at ys = rw (e, apply_as)
