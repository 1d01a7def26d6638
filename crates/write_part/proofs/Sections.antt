-- FIVE SECTIONS of whatever the tables represent: layout's.
use Prim.Native.Nat.{ℕ}
use mathlib.Core.Path.{sym, ◌∙◌}
use mathlib.Core.Bool.{true, false}
use mathlib.Core.List.{List, ◌++◌, append_assoc}
use Rattle.reader.specs.State.{Note}
use Rattle.reader.specs.Lyrics.{Syllable}
use Rattle.part_layout.specs.Log.{Head}
use Rattle.part_layout.specs.Sections as layout
use Rattle.std.specs.Prelude.{Option}
use Rattle.store_sections.specs.Writes.{WroteIs}
use Rattle.write_notes.specs.declared.PartTables.{PartTables}
use Rattle.write_notes.specs.Tables.{Represents}
use Rattle.write_notes.specs.Out.{measures_section, notes_section}
use Rattle.write_notes.proofs.Out.{wrote_as_lem, measures_section_lem, notes_section_lem}
use Rattle.write_pitches.specs.Out.{pitches_section}
use Rattle.write_pitches.proofs.Out.{pitches_section_lem}
use Rattle.write_lyrics.specs.Out.{section_out}
use Rattle.write_lyrics.proofs.Out.{lyrics_section, text_section}

pub sections_say : {x y : List ℕ} {r : Option ℕ} (s : List ℕ) (t : PartTables) (ws : List (List Syllable))
    → WroteIs x (measures_section s t ++ notes_section s t ++ pitches_section s t ++ (section_out false ws s t ++ section_out true ws s t)) y r
    → (ms : List Head) (log : List (ℕ × Note)) → Represents s t ms log → WroteIs x (layout.sections (record { heads = ms; log = log; words = ws })) y r
unfolding layout.sections layout.lyrics layout.lyric_text layout.notes_of layout.pitches_of
sections_say s t ws w ms log h =
    wrote_as_lem w
    (sym (append_assoc (measures_section s t ++ notes_section s t ++ pitches_section s t) (section_out false ws s t) (section_out true ws s t))
    ∙ (λ i. measures_section_lem h i ++ notes_section_lem h i ++ pitches_section_lem h i ++ lyrics_section ws h i ++ text_section ws h i))
