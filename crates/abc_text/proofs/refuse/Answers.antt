-- `abc_text::refuse` meets its contract: nothing is left in either store.
use Rattle.abc_text.proofs.Tests.{refused_parsed}
use Rattle.abc_text.proofs.refuse.Goals as goal

pub returns : goal.returns
returns c =
    let a = c.args in
    refused_parsed a.reading.now a.scratch.now _ _ a.refused c.clear.ensures c.clear-2.ensures
