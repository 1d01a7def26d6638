-- `token_symbols::letter_classes` meets its contract. The rule of all 128 entries is one computation.
use mathlib.Core.Path.{refl}
use Rattle.reader.specs.Tokens.{class_of, class_in, classes}
use Rattle.token_symbols.specs.Classes.{class_for, classes_from, class_table}
use Rattle.token_symbols.proofs.letter_classes.Goals as goal

pub invariant_of-result : goal.invariant_of-result
unfolding class_table classes_from class_for class_of class_in classes
invariant_of-result c = record { is_table = refl }
