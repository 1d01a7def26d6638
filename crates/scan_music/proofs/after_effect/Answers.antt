-- `scan_music::after_effect` meets its contract: a case for each effect.
use Rattle.tokens.specs.Tokens.{effect_as}
use Rattle.scan_music.proofs.MusicLines.{note_counts_lem, note_refused, refused_here, unit_set, meter_set, passed}
use Rattle.scan_music.proofs.after_effect.Goals as goal

pub returns-in-Counts : goal.returns-in-Counts
unfolding effect_as
returns-in-Counts c = λ es. rw c.in-Counts.is (note_counts_lem c.args.count es c.if-count-lt100000.true)

pub returns-in-Counts-2 : goal.returns-in-Counts-2
unfolding effect_as
returns-in-Counts-2 c = λ es. rw c.in-Counts-2.is (note_refused c.args.count es c.if-count-lt100000.false)

pub returns-in-Refuses : goal.returns-in-Refuses
unfolding effect_as
returns-in-Refuses c = λ es. rw c.in-Refuses.is (refused_here c.args.count _ es)

pub returns-in-SetsUnit : goal.returns-in-SetsUnit
unfolding effect_as
returns-in-SetsUnit c = λ es. rw c.in-SetsUnit.is (unit_set c.args.count _ es)

pub returns-in-SetsMeter : goal.returns-in-SetsMeter
unfolding effect_as
returns-in-SetsMeter c = λ es. rw c.in-SetsMeter.is (meter_set c.args.count _ _ es)

pub returns-in-NoEffect : goal.returns-in-NoEffect
unfolding effect_as
returns-in-NoEffect c = λ es. rw c.in-NoEffect.is (passed c.args.count es)
