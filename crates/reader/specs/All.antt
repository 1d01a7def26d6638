-- For examples: `unfolding all` opens every definition of this crate and of those below it. Written by tools/bundle.
use Rattle.std.specs.Prelude.{ℕ}
use Rattle.reader.specs.Text.{utf8_step, is_utf8, white_step, is_blank, text_lines, cut, trim, clean, has_high}
use Rattle.reader.specs.Pieces.{numeral, before, after, pieces, words, white_at, field_words, trim_start, cons_trim, trim_end, trimmed}
use Rattle.reader.specs.Lengths.{number, slashes, length_over, length_of, many_slashes, not_above, written_as, value_of}
use Rattle.reader.specs.Search.{longer, tried, in_order, search_in, from_longa, limit_of, from_eighth}
use Rattle.reader.specs.Keys.{in_table, fifths_of, named, clefs, is_key_word, joined, key_text, cons_some, before_word, ends_in_m, major_of, minor_or, key_in, name_length, or_lone_m, mode_of, is_minor, key_on, modal_key, is_beyond, key_of}
use Rattle.reader.specs.Fields.{or_four, meter_number, meter_bottom, meter_or, meter_text, meter_of, unit_text, unit_number, or_eight, line_unit, unit_of, inline_unit, unit_inline, middle_word, first_met, key_refusal, first_word, identifier}
use Rattle.reader.specs.Pitches.{octave_from, octave_of, signs, accidental_of, added, is_quarter, cons_pitch, chord_of, remembered, or_key, sound_by, sound_of, scope_by, scope_after, sounds_of, scope_after_all}
use Rattle.reader.specs.Tuplets.{not_zero, positive, or_one_less, normal_for, part_or, counted, with_count, with_normal, with_actual, tuplet_of, or_slur}
use Rattle.reader.specs.Barlines.{barline_as, barline_of}
use Rattle.reader.specs.PassLists.{is_number, list_number, one_number, two_numbers, list_item, cons_item, list_items, numbers_in, rise_above, rise, passes_in, tested, volta_as, volta_of}
use Rattle.reader.specs.PassesInTurn.{pass_number, single, range, item_of, last_pass, in_turn, pass_list, list_fault, or_faulty}
use Rattle.reader.specs.Inline.{unit_token, token_unless, key_token, field_token, is_inline, inline_at}
use Rattle.reader.specs.Sounds.{behind, with_length, chord_taken, chord_at, rest_as, note_as, note_after, note_of}
use Rattle.reader.specs.Tokens.{closed_by, broken_of, bracket_of, classes, class_in, class_of, token_as, token_of, tokens, effect_of, effects}
use Rattle.reader.specs.Lines.{voice_kind, kind_unless, key_kind, field_kind, line_kind, kind_of}
use Rattle.reader.specs.Scan.{begin, note_count, last_unit, last_meter, first_refusal, with_unnamed, voices_before, play_on, voice_on, unit_on, act, step, scan}
use Rattle.reader.specs.State.{new_measure, new_line, new_part, on_open, voice_in, voice_now, set_voice}
use Rattle.reader.specs.Voltas.{ends_ending, is_start, starts, last_there, ends_at, close, closed}
use Rattle.reader.specs.Lyrics.{or_skip, word_of, words_of, lyric_words, put, held, sing, sung_by, held_at, sung_at, sung_word, sung_each, sing_bars, bar_of, bars_from, sung_by_bars, sung_in}
use Rattle.reader.specs.Part.{halved_note, broken_note, on_broken, after_half, beamed, run_after, beamed_again, on_nothing, in_meter, group_in, grouped, one_fewer, counted_in, append, rest_note, sound_note, on_sound, left_set, ended, on_barline, hears, on_token, opened, line_begins, on_line, on_lyric, on_key, first_key, on_item, empty_part, dropped, in_order as Part-in_order, marked_by, marked, takers, sounded_in, takers_in, finished_measures, finished, build}
use Rattle.reader.specs.Codes.{volta_code, mode_code, kind_code, beam_code, syllabic_code, bit}
use Rattle.reader.specs.Records.{signed8, signed16, key_mark_bytes, pass_bits, note_counts, measure_bytes, is_unbeamed, flag_byte, note_bytes, pitch_bytes, lyric_bytes, tagged, by_voice, all_notes, is_sung, lyrics_of, section, notes_of, pitches_of, lyrics, lyric_text, sections}
use Rattle.reader.specs.Answer.{scratch_needed, refused_with, early, is_music, built, parts, part_bytes, encode, measure_count, written, ended as Answer-ended, finish, scanned, unless, parse_abc, answer_of}
use Rattle.reader.specs.Tally.{is_billed, is_held, counts_of, tally, left_out, no_rests}
use Rattle.laws.specs.All.{all as all-of-laws}
use Rattle.standard.specs.All.{all as all-of-standard}

unfoldable pub all : ℕ
unfolding utf8_step is_utf8 white_step is_blank text_lines cut trim clean has_high numeral before after pieces words white_at field_words trim_start cons_trim trim_end trimmed number slashes length_over length_of many_slashes not_above written_as value_of longer tried in_order search_in from_longa limit_of from_eighth in_table fifths_of named clefs is_key_word joined key_text cons_some before_word ends_in_m major_of minor_or key_in name_length or_lone_m mode_of is_minor key_on modal_key is_beyond key_of or_four meter_number meter_bottom meter_or meter_text meter_of unit_text unit_number or_eight line_unit unit_of inline_unit unit_inline middle_word first_met key_refusal first_word identifier octave_from octave_of signs accidental_of added is_quarter cons_pitch chord_of remembered or_key sound_by sound_of scope_by scope_after sounds_of scope_after_all not_zero positive or_one_less normal_for part_or counted with_count with_normal with_actual tuplet_of or_slur barline_as barline_of is_number list_number one_number two_numbers list_item cons_item list_items numbers_in rise_above rise passes_in tested volta_as volta_of pass_number single range item_of last_pass in_turn pass_list list_fault or_faulty unit_token token_unless key_token field_token is_inline inline_at behind with_length chord_taken chord_at rest_as note_as note_after note_of closed_by broken_of bracket_of classes class_in class_of token_as token_of tokens effect_of effects voice_kind kind_unless key_kind field_kind line_kind kind_of begin note_count last_unit last_meter first_refusal with_unnamed voices_before play_on voice_on unit_on act step scan new_measure new_line new_part on_open voice_in voice_now set_voice ends_ending is_start starts last_there ends_at close closed or_skip word_of words_of lyric_words put held sing sung_by held_at sung_at sung_word sung_each sing_bars bar_of bars_from sung_by_bars sung_in halved_note broken_note on_broken after_half beamed run_after beamed_again on_nothing in_meter group_in grouped one_fewer counted_in append rest_note sound_note on_sound left_set ended on_barline hears on_token opened line_begins on_line on_lyric on_key first_key on_item empty_part dropped Part-in_order marked_by marked takers sounded_in takers_in finished_measures finished build volta_code mode_code kind_code beam_code syllabic_code bit signed8 signed16 key_mark_bytes pass_bits note_counts measure_bytes is_unbeamed flag_byte note_bytes pitch_bytes lyric_bytes tagged by_voice all_notes is_sung lyrics_of section notes_of pitches_of lyrics lyric_text sections scratch_needed refused_with early is_music built parts part_bytes encode measure_count written Answer-ended finish scanned unless parse_abc answer_of is_billed is_held counts_of tally left_out no_rests all-of-laws all-of-standard
all = 0
