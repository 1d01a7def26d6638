-- `tally_run::tally` meets its contract: too long, read, or refused.
use mathlib.Core.Path.{◌∙◌}
use borrow.Author.Rules.{rules}
use Rattle.tally_run.proofs.Told.{whole, short, long, reading_short, scratch_short, reading_long, scratch_long, refused_text_lem, read_text}
use Rattle.tally_run.proofs.tally.Goals as goal

pub returns-then-input-gt-MOST_INPUT : goal.returns-then-input-gt-MOST_INPUT
returns-then-input-gt-MOST_INPUT c =
    let l = c.if-input-gt-MOST_INPUT.true in
    let h = whole _ c.append_bytes.ensures.adds (long _ l) in
    record { prefix_len = h.counts; out_after = h.text; out_unchanged = h.rest; reading_after = reading_long _ _ l; scratch_after = scratch_long _ _ l }

pub append_reading-requires : goal.append_reading-requires
append_reading-requires c =
    let p = c.in-Ok.ensures in
    record { first_part_in_bounds = (read_text _ _ _ _ _ p.result_value p.reading_after).room; out_bytes_in_bounds = search rules }

pub returns-in-Ok : goal.returns-in-Ok
returns-in-Ok c =
    let p = c.in-Ok.ensures in
    let q = c.requires in
    let l = c.if-input-gt-MOST_INPUT.false in
    let t = (read_text _ _ _ _ _ p.result_value p.reading_after).is in
    let h = whole _ c.append_reading.ensures (t ∙ short _ _ _ l q.0 q.1) in
    record {
      prefix_len = h.counts;
      out_after = h.text;
      out_unchanged = h.rest;
      reading_after = p.reading_after ∙ reading_short _ _ _ _ l q.0 q.1;
      scratch_after = p.scratch_after ∙ scratch_short _ _ _ _ l q.0 q.1;
    }

pub returns-in-Err : goal.returns-in-Err
returns-in-Err c =
    let p = c.in-Err.ensures in
    let q = c.requires in
    let l = c.if-input-gt-MOST_INPUT.false in
    let t = refused_text_lem _ _ _ c.from.ensures p.result_value in
    let h = whole _ c.append_refusal.ensures (t ∙ short _ _ _ l q.0 q.1) in
    record {
      prefix_len = h.counts;
      out_after = h.text;
      out_unchanged = h.rest;
      reading_after = p.reading_after ∙ reading_short _ _ _ _ l q.0 q.1;
      scratch_after = p.scratch_after ∙ scratch_short _ _ _ _ l q.0 q.1;
    }
