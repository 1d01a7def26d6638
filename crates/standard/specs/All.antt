-- For examples: `unfolding all` opens every definition of this crate and of those below it. Written by tools/bundle.
use Rattle.std.specs.Prelude.{ℕ}
use Rattle.standard.specs.Bytes.{lower, decimal, digits}
use Rattle.standard.specs.Pitches.{step_of, letter_octave, octave_mark, octave_by, alter_of, altered}
use Rattle.standard.specs.Keys.{plain_key, place, tonic, in_mode, flatter, fifths_in, mode_names, mode_in, key_alter}
use Rattle.standard.specs.Lengths.{length_fraction, value_fraction, ticks, ten_values, with_dots, forty, dotted, halved}
use Rattle.standard.specs.Tuplets.{usual_normal, default_normal, compound, normal_in, boundary}
use Rattle.standard.specs.Bars.{bar_symbols, symbol_at, closes_ending}
use Rattle.standard.specs.Passes.{rising, passes_of}
use Rattle.standard.specs.Notes.{is_sounded, beamable, beams, flags_of, pending_after, slur_opens, grace_opens, grace_closes, next_voice}
use Rattle.standard.specs.Lyrics.{syllabic_of, syllable_text, syllables, next_verse, last_or, placed}
use Rattle.standard.specs.Fields.{named_meter}
use Rattle.standard.specs.Texts.{is_field_line, still_header, rest_of, commaed, hyphened}
use Rattle.laws.specs.All.{all as all-of-laws}

unfoldable pub all : ℕ
unfolding lower decimal digits step_of letter_octave octave_mark octave_by alter_of altered plain_key place tonic in_mode flatter fifths_in mode_names mode_in key_alter length_fraction value_fraction ticks ten_values with_dots forty dotted halved usual_normal default_normal compound normal_in boundary bar_symbols symbol_at closes_ending rising passes_of is_sounded beamable beams flags_of pending_after slur_opens grace_opens grace_closes next_voice syllabic_of syllable_text syllables next_verse last_or placed named_meter is_field_line still_header rest_of commaed hyphened all-of-laws
all = 0
