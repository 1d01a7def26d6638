-- `scan::act_line` meets its contract: a case for each class.
use Prim.Native.Nat.{◌-◌}
use mathlib.Core.Path.{refl}
use Rattle.laws.proofs.Parts.{part_cut}
use native.Mathlib.Omega.{arith}
use Rattle.reader.specs.Scan.{act}
use Rattle.scan_states.proofs.Items.{stays}
use Rattle.scan.proofs.Loop.{letter_and_colon, lent_long}
use borrow.Author.Rules.{rules}
use Rattle.scan.proofs.act_line.Goals as goal

pub voice_line-requires : goal.voice_line-requires
voice_line-requires c =
    let a = c.args in
    let h = letter_and_colon a.text.now a.from a.end _ _ (search rules) c.requires.its_class c.in-Voice.is refl in
    search rules

pub key_line-requires-clause-letter_and_colon : goal.key_line-requires-clause-letter_and_colon
key_line-requires-clause-letter_and_colon c =
    let a = c.args in
    lent_long a.text.now a.from a.end (search rules) (letter_and_colon a.text.now a.from a.end _ _ (search rules) c.requires.its_class c.in-Key.is refl)

pub unit_line-requires-clause-letter_and_colon : goal.unit_line-requires-clause-letter_and_colon
unit_line-requires-clause-letter_and_colon c =
    let a = c.args in
    lent_long a.text.now a.from a.end (search rules) (letter_and_colon a.text.now a.from a.end _ _ (search rules) c.requires.its_class c.in-Unit.is refl)

pub meter_line-requires-clause-letter_and_colon : goal.meter_line-requires-clause-letter_and_colon
meter_line-requires-clause-letter_and_colon c =
    let a = c.args in
    lent_long a.text.now a.from a.end (search rules) (letter_and_colon a.text.now a.from a.end _ _ (search rules) c.requires.its_class c.in-Meter.is refl)

pub returns-in-Blank : goal.returns-in-Blank
unfolding act
returns-in-Blank c = rw (c.in-Blank.is, c.next_line.ensures) (record { is = stays _ _; follows = (refl, (omega arith, (omega arith, omega arith))) })

pub returns-in-Lyric : goal.returns-in-Lyric
returns-in-Lyric c = rw c.in-Lyric.is (c.lyric_line.ensures c.args.text.now)

pub returns-in-Voice : goal.returns-in-Voice
returns-in-Voice c = rw c.in-Voice.is (c.voice_line.ensures c.args.edition)

pub returns-in-Key : goal.returns-in-Key
returns-in-Key c = rw (c.in-Key.is, ← part_cut c.args.text.now c.args.from (c.args.end - c.args.from)) (c.key_line.ensures c.args.text.now)

pub returns-in-Unit : goal.returns-in-Unit
returns-in-Unit c = rw (c.in-Unit.is, ← part_cut c.args.text.now c.args.from (c.args.end - c.args.from)) (c.unit_line.ensures c.args.edition c.args.text.now c.args.scratch.now)

pub returns-in-Meter : goal.returns-in-Meter
returns-in-Meter c = rw (c.in-Meter.is, ← part_cut c.args.text.now c.args.from (c.args.end - c.args.from)) (c.meter_line.ensures c.args.edition c.args.text.now)

pub returns-in-Tune : goal.returns-in-Tune
returns-in-Tune c = rw c.in-Tune.is (c.tune_line.ensures c.args.text.now c.args.scratch.now)

pub returns-in-Other : goal.returns-in-Other
unfolding act
returns-in-Other c = rw (c.in-Other.is, c.next_line-in-Other.ensures) (record { is = stays _ _; follows = (refl, (omega arith, (omega arith, omega arith))) })

pub returns-in-Music : goal.returns-in-Music
returns-in-Music c = rw c.in-Music.is c.music_line.ensures
