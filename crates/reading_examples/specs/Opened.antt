-- For examples: `unfolding opened` opens every definition of a whole reading and of the walk, and of the crates below them.
use Rattle.std.specs.Prelude.{ℕ}
use Rattle.laws.specs.All.{all as all-of-laws}
use Rattle.reader.specs.All.{all as all-of-reader}
use Rattle.reading_sections.specs.Sections.{behind, part_end, part_at, notes_in}
use Rattle.reading_whole.specs.Whole.{every, total, is_zeros, is_measure, is_note, is_pitch, is_lyric, volta_step, is_closed, voltas, are_measures, are_notes, are_pitches, are_lyrics, is_part, whole_from, is_whole}
use Rattle.reading_walk.specs.Walk.{opens, closes, has_pass, greatest, top_of, top_before, limit_of, limit, is_skipped, ahead, begin, again, entered, left_behind, next, listed, walk, later, rank, played_from, played}
use Rattle.reading_walk.specs.Spans.{span_at, span_after, open_before, bar_at, first_bars, bars_of}
use Rattle.reading_walk.specs.Played.{list_bytes, refused_with, listed_in, played_of, has_part, played_measures}

unfoldable pub opened : ℕ
unfolding all-of-laws all-of-reader behind part_end part_at notes_in every total is_zeros is_measure is_note is_pitch is_lyric volta_step is_closed voltas are_measures are_notes are_pitches are_lyrics is_part whole_from is_whole opens closes has_pass greatest top_of top_before limit_of limit is_skipped ahead begin again entered left_behind next listed walk later rank played_from played span_at span_after open_before bar_at first_bars bars_of list_bytes refused_with listed_in played_of has_part played_measures
opened = 0
