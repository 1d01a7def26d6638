-- For examples: `unfolding all` opens every definition of this crate and of those below it. Written by tools/bundle.
use Rattle.std.specs.Prelude.{ℕ}
use Rattle.part_layout.specs.Log.{notes_in, new_head, new_log, on_last_head, on_open, open_is_empty, last_place, at_place, on_broken, beamed_new, beamed_before, note_at, on_nothing, append, on_sound, left_set, ended_heads, ended_last, on_barline, hears, on_token, opened, line_begins, on_line}
use Rattle.part_layout.specs.Ends.{on_lyric, on_key, on_item, dropped, starts, last_there, ends_at, close, marked_by, marked, takers, sung_notes, takers_in, finished_heads, finished, build}
use Rattle.part_layout.specs.Sections.{head_bytes, of_voice, by_voice, in_order, notes_of, pitches_of, lyrics, lyric_text, sections}
use Rattle.laws.specs.All.{all as all-of-laws}
use Rattle.standard.specs.All.{all as all-of-standard}
use Rattle.reader.specs.All.{all as all-of-reader}

unfoldable pub all : ℕ
unfolding notes_in new_head new_log on_last_head on_open open_is_empty last_place at_place on_broken beamed_new beamed_before note_at on_nothing append on_sound left_set ended_heads ended_last on_barline hears on_token opened line_begins on_line on_lyric on_key on_item dropped starts last_there ends_at close marked_by marked takers sung_notes takers_in finished_heads finished build head_bytes of_voice by_voice in_order notes_of pitches_of lyrics lyric_text sections all-of-laws all-of-standard all-of-reader
all = 0
