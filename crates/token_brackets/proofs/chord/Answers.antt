-- `token_brackets::chord` meets its contract.
use mathlib.Core.Path.{sym, ◌∙◌}
use mathlib.Core.Bool.{not}
use native.Mathlib.Omega.{arith}
use Prim.Native.Nat.{◌+◌}
use lib.Dec.{eqb}
use Rattle.laws.proofs.Spans.{end_le}
use Rattle.token_brackets.proofs.Chorded.{chord_refused, chord_many, chord_empty, chord_full}
use Rattle.token_brackets.proofs.chord.Goals as goal

pub parse_abc_chord-requires : goal.parse_abc_chord-requires
parse_abc_chord-requires c =
    omega (arith, c.requires.1, end_le (λ x. not (eqb x 93)) c.args.line.now (c.args.at + 1) (omega (arith, c.requires.0)))

pub returns-in_default : goal.returns-in_default
returns-in_default c =
    chord_refused c.args.edition c.args.line.now c.args.at c.args.close c.requires.0 c.requires.1 (λ x e. c.in_default.not-Ok x (c.parse_abc_chord.ensures ∙ e))

pub returns-in_default-parse_duration_suffix : goal.returns-in_default-parse_duration_suffix
returns-in_default-parse_duration_suffix c =
    chord_many c.args.edition c.args.line.now c.args.at c.args.close c.requires.0 c.requires.1 c.in-Ok.pitches.value c.in-Ok.pitches.next (sym c.parse_abc_chord.ensures ∙ c.in-Ok.is)
    (λ x e. c.in_default-parse_duration_suffix.not-Ok x (c.parse_duration_suffix.ensures ∙ e))

pub returns-then-count-eq0 : goal.returns-then-count-eq0
returns-then-count-eq0 c =
    chord_empty c.args.edition c.args.line.now c.args.at c.args.close c.requires.0 c.requires.1 c.in-Ok.pitches.value c.in-Ok.pitches.next _ _ _
    (sym c.parse_duration_suffix.ensures ∙ c.in-Ok-parse_duration_suffix.is) (sym c.parse_abc_chord.ensures ∙ c.in-Ok.is) c.if-count-eq0.true

pub returns : goal.returns
returns c =
    chord_full c.args.edition c.args.line.now c.args.at c.args.close c.requires.0 c.requires.1 c.in-Ok.pitches.value c.in-Ok.pitches.next _ _ _
    (sym c.parse_duration_suffix.ensures ∙ c.in-Ok-parse_duration_suffix.is) c.if-count-eq0.false c.apply_abc_note_annotations-behind.result c.apply_abc_note_annotations-behind.ensures (sym c.parse_abc_chord.ensures ∙ c.in-Ok.is)
