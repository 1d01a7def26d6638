-- `text_words::split_once` meets its contract, by the place of the byte.
use Rattle.std.proofs.lemmas.List.{take_rest}
use borrow.Author.Rules.{rules}
use Rattle.text_words.proofs.Parts.{split_at, unsplit}
use Rattle.text_words.proofs.split_once.Goals as goal

pub returns-in-Some : goal.returns-in-Some
returns-in-Some c = rw take_rest (split_at c.args.byte c.args.text.now c.in-Some.at (search rules) (search rules) (search rules))

pub returns-in-None : goal.returns-in-None
returns-in-None c = unsplit c.args.byte c.args.text.now (search rules)
