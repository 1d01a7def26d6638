-- A PART WITHOUT A MUSIC LINE: built from its items it has no measure, so its five sections are those of the empty part.
use mathlib.Core.Path.{◌≡◌, refl, sym, ap}
use mathlib.Core.Bool.{false, true≢false}
use mathlib.Core.List.{List, [], ◌∷◌}
use Rattle.laws.specs.Lists.{foldl, any}
use Rattle.laws.proofs.Bools.{by_test, or_no_left, or_no_right}
use Rattle.standard.specs.Keys.{Key}
use Rattle.editions.specs.declared.Edition.{Edition}
use Rattle.reader.specs.Scan.{Item, voice_declared, reset, key_in_header, key_change, meter_change, lyric_line, music_line, Env}
use Rattle.reader.specs.State.{PartState, Measure, on_open, new_part}
use Rattle.reader.specs.Part.{Part, empty_part, hears, on_lyric, on_key, on_item, dropped, marked, finished, build, finished_measures}
use Rattle.reader.specs.Voltas.{close, closed}
use Rattle.reader.specs.Records.{notes_of, pitches_of, lyrics, lyric_text, all_notes, lyrics_of, sections}
use Rattle.reader.specs.Answer.{is_music, built}

-- an item that is no music line opens no measure
key_none : (header k : Key) (ms : List Measure) (s : PartState) → ms ≡ [] → s.measures ≡ [] → (on_key header k ms s).measures ≡ []
unfolding on_key hears on_open
key_none header k [] s e h = h
key_none header k (m ∷ ms) s e h = rw h

open_none : (f : Measure → Measure) (s : PartState) → s.measures ≡ [] → (on_open f s).measures ≡ []
unfolding on_open
open_none f s h = rw h

item_none : (ed : Edition) (header : Key) (s : PartState) (i : Item) → is_music i ≡ false → s.measures ≡ [] → (on_item ed header s i).measures ≡ []
unfolding on_item on_lyric is_music
item_none ed header s (voice_declared b) e h = h
item_none ed header s reset e h = h
item_none ed header s key_in_header e h = h
item_none ed header s (key_change k) e h = key_none header k s.measures s h h
item_none ed header s (meter_change t) e h = open_none _ s h
item_none ed header s (lyric_line b t) e h = h
item_none ed header s (music_line u t l) e h = absurd (true≢false e)

items_none : (ed : Edition) (header : Key) (is : List Item) (s : PartState) → any is_music is ≡ false → s.measures ≡ [] → (foldl (on_item ed header) s is).measures ≡ []
items_none ed header [] s e h = h
items_none ed header (i ∷ is) s e h =
    items_none ed header is (on_item ed header s i) (or_no_right (is_music i) (any is_music is) e) (item_none ed header s i (or_no_left (is_music i) (any is_music is) e) h)

-- so it has none when it is finished
finished_none : (ed : Edition) (header : Key) (s : PartState) → s.measures ≡ [] → (finished ed header s).measures ≡ []
unfolding finished finished_measures dropped closed close marked
finished_none ed header s h = rw h

build_none : (ed : Edition) (header : Key) (is : List Item) → any is_music is ≡ false → (build ed header is).measures ≡ []
unfolding build new_part
build_none ed header is e = finished_none ed header (foldl (on_item ed header) new_part is) (items_none ed header is new_part e refl)

-- sections without a measure
sections_none : (p : Part) → p.measures ≡ [] → sections p ≡ sections empty_part
unfolding sections notes_of pitches_of lyrics lyric_text all_notes lyrics_of empty_part
sections_none p h = ap (λ (ms : List Measure). sections (record { measures = ms; words = p.words })) h

-- EVERY PART'S SECTIONS are those that are built from its items, with music or without
pub built_sections : (ed : Edition) (e : Env) (is : List Item) → sections (built ed e is) ≡ sections (build ed e.header_key is)
unfolding built
built_sections ed e is =
    by_test (any is_music is) (λ m. rw m) (λ m. rw m (sym (sections_none (build ed e.header_key is) (build_none ed e.header_key is m))))
