-- THE MUSIC OF ITEMS: the bytes of their music lines, one after the other.
use Rattle.std.specs.Prelude.{ℕ, List, [], map}
use Rattle.laws.specs.Lists.{concat}
use Rattle.reader.specs.Scan.{Item, voice_declared, reset, key_in_header, key_change, meter_change, lyric_line, music_line}

unfoldable pub music_in : Item → List ℕ
music_in (voice_declared b) = []
music_in reset = []
music_in key_in_header = []
music_in (key_change k) = []
music_in (meter_change t) = []
music_in (lyric_line p t) = []
music_in (music_line u t l) = l

abbrev pub music_of : List Item → List ℕ
music_of xs = concat (map music_in xs)
