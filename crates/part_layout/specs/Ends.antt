-- WHAT ITEMS DO to a part as the code keeps it, and the end of a part.
use Rattle.std.specs.Prelude.{ℕ, suc, ◌+◌, Bool, true, false, cond, ◌||◌, List, [], ◌∷◌, ◌++◌, reverse, replicate, take, drop}
use Rattle.std.proofs.Math.Option.{Option, none, some}
use Rattle.laws.specs.Lists.{foldl}
use Rattle.standard.specs.Keys.{Key}
use Rattle.standard.specs.Notes.{nothing_pending}
use Rattle.standard.specs.Lyrics.{next_verse}
use Rattle.editions.specs.declared.Edition.{Edition}
use Rattle.reader.specs.Scan.{Item, voice_declared, reset, key_in_header, key_change, meter_change, lyric_line, music_line}
use Rattle.reader.specs.State.{Note, volta_ends, volta_alone, Sung, Verses}
use Rattle.reader.specs.Voltas.{ends_ending, is_start}
use Rattle.reader.specs.Lyrics.{Syllable, sung_in}
use Rattle.reader.specs.Part.{first_key}
use Rattle.reader.specs.Records.{is_sung}
use Rattle.part_layout.specs.Log.{Head, LogState, notes_in, with_meter, with_key_mark, with_volta, set_key, set_heads, set_pending, set_verses, new_log, on_open, is_empty_head, open_is_empty, hears, on_line}

unfoldable pub on_lyric : Bool → List ℕ → LogState → LogState
on_lyric placed t s =
    let v = s.verses in
    set_verses
    (record { sounded = v.sounded; start = v.start; verse = cond placed (next_verse v.verse) v.verse; lines = record { start = v.start; verse = v.verse; text = t } ∷ v.lines })
    s

unfoldable pub on_key : Key → Key → List Head → LogState → LogState
on_key header k [] s = hears header s
on_key header k (m ∷ ms) s = on_open (with_key_mark k) (hears k s)

unfoldable pub on_item : Edition → Key → LogState → Item → LogState
on_item ed header s (voice_declared in_header) = set_key (first_key ed header in_header) s
on_item ed header s reset = set_pending nothing_pending s
on_item ed header s key_in_header = set_key header s
on_item ed header s (key_change k) = on_key header k s.heads s
on_item ed header s (meter_change t) = on_open (with_meter t) s
on_item ed header s (lyric_line placed t) = on_lyric placed t s
on_item ed header s (music_line u t l) = on_line ed u t l s

-- THE END OF A PART
-- an empty measure at the end goes, but not the only one
unfoldable pub dropped : List Head → List Head
dropped [] = []
dropped (m ∷ []) = m ∷ []
dropped (m ∷ n ∷ []) = cond (is_empty_head n) (m ∷ []) (m ∷ n ∷ [])
dropped (m ∷ n ∷ o ∷ ms) = m ∷ dropped (n ∷ o ∷ ms)

-- voltas closed (reader/specs/Voltas, over heads)
unfoldable pub starts : Head → Bool
starts m = is_start m.volta

unfoldable pub last_there : List Head → Bool
last_there [] = true
last_there (m ∷ ms) = starts m

unfoldable pub ends_at : Head → List Head → Bool
ends_at m ms = ends_ending m.right || last_there ms

unfoldable pub close : Option (List ℕ) → List Head → List Head
close span [] = []
close none (m ∷ ms) =
    elim (starts m) [
      | true ↦ elim (ends_at m ms) [ true ↦ with_volta volta_alone m.passes m ∷ close none ms | false ↦ m ∷ close (some m.passes) ms ]
      | false ↦ m ∷ close none ms
    ]
close (some ps) (m ∷ ms) = elim (ends_at m ms) [ true ↦ with_volta volta_ends ps m ∷ close none ms | false ↦ m ∷ close (some ps) ms ]

-- "The first measure always has a key mark"
unfoldable pub marked_by : Key → Head → Option Key → Head
marked_by header m none = with_key_mark header m
marked_by header m (some k) = m

unfoldable pub marked : Key → List Head → List Head
marked header [] = []
marked header (m ∷ ms) = marked_by header m m.key ∷ ms

-- the notes that take a syllable (reader/specs/Part, over a measure's notes in the order written, each with its voice); n notes that are sung stand before them
unfoldable pub takers : ℕ → List (ℕ × Note) → List ℕ
takers n [] = []
takers n (x ∷ xs) =
    elim (is_sung x) [
      | true ↦ elim x.1.flags.grace [ true ↦ takers (suc n) xs | false ↦ n ∷ takers (suc n) xs ]
      | false ↦ takers n xs
    ]

-- how many notes are sung
unfoldable pub sung_notes : List (ℕ × Note) → ℕ
sung_notes [] = 0
sung_notes (x ∷ xs) = elim (is_sung x) [ true ↦ suc (sung_notes xs) | false ↦ sung_notes xs ]

-- measure by measure, each with as many notes of the log as its head counts
unfoldable pub takers_in : ℕ → List Head → List (ℕ × Note) → List (List ℕ)
takers_in n [] log = []
takers_in n (m ∷ ms) log = let c = take (notes_in m) log in takers n c ∷ takers_in (n + sung_notes c) ms (drop (notes_in m) log)

-- a part as the code leaves it: its heads, its notes in the order written, and for each note of voice 0 that is no rest its syllables
pub record Laid : Type 0 where
  pub heads : List Head
  pub log : List (ℕ × Note)
  pub words : List (List Syllable)

unfoldable pub finished_heads : Key → LogState → List Head
finished_heads header s = marked header (close none (dropped s.heads))

unfoldable pub finished : Edition → Key → LogState → Laid
finished ed header s =
    let hs = finished_heads header s in
    record { heads = hs; log = s.log; words = sung_in ed (takers_in 0 hs s.log) (reverse s.verses.lines) (replicate s.verses.sounded []) }

unfoldable pub build : Edition → Key → List Item → Laid
build ed header items = finished ed header (foldl (on_item ed header) new_log items)
