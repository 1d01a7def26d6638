-- `abc_text::parse_abc` meets its contract: refused before the first line, by the scan, or finished.
use borrow.Author.Rules.{rules}
use Rattle.abc_text.proofs.Tests.{passed, call_early, call_scanned, called, refused_scanned, finished}
use Rattle.abc_text.proofs.parse_abc.Goals as goal

pub scan_lines-requires : goal.scan_lines-requires
scan_lines-requires c = let a = c.args in passed a.text.now _ c.in-Ok.ensures

pub finish-requires : goal.finish-requires
finish-requires c =
    let a = c.args in
    let p = passed a.text.now _ c.in-Ok.ensures in
    record { done = c.in-Ok-scan_lines.ensures.answered; text_len_bound = (p.0, search rules) }

pub returns-in-Err : goal.returns-in-Err
returns-in-Err c =
    let a = c.args in
    let q = called (call_early _ a.text.now _ _ _ _ _ _ c.in-Err.ensures c.refuse.ensures) in
    record { result_value = q.0; reading_after = q.1.0; scratch_after = q.1.1 }

pub returns-in-Err-scan_lines : goal.returns-in-Err-scan_lines
returns-in-Err-scan_lines c =
    let a = c.args in
    let q =
    called
    (call_scanned _ a.text.now _ _ _ _ _ c.in-Ok.ensures
    (refused_scanned _ a.text.now _ _ _ _ _ c.in-Err-scan_lines.ensures.answered (search rules) c.refuse-in-Err-scan_lines.ensures)) in
    record { result_value = q.0; reading_after = q.1.0; scratch_after = q.1.1 }

pub returns-in-Ok-scan_lines : goal.returns-in-Ok-scan_lines
returns-in-Ok-scan_lines c =
    let a = c.args in
    let q =
    called
    (call_scanned _ a.text.now _ _ _ _ _ c.in-Ok.ensures
    (finished _ a.text.now _ _ _ (search rules) c.finish.ensures)) in
    record { result_value = q.0; reading_after = q.1.0; scratch_after = q.1.1 }
