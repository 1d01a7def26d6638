-- `abc_text::append_parts` meets its contract: so far the parts below `part` are written, and the items in scratch are what they were.
use mathlib.Core.Path.{◌≡◌}
use lib.ListN.{length}
use Rattle.store_sections.specs.Writes.{WroteIs}
use Rattle.std.specs.Prelude.{Some}
use Rattle.field_keys.specs.Passed.{key_as}
use Rattle.scan_table.specs.Rows.{items_in}
use Rattle.abc_answers.specs.Parts.{parts_of}
use Rattle.abc_text.proofs.append_parts.Given as goal

abbrev pub invariant-loop-part : goal.invariant-loop-part
invariant-loop-part l =
    (length l.to ≡ length l.initial.to) × (length l.scratch ≡ length l.initial.scratch) × (items_in l.text l.scratch l.n ≡ items_in l.text l.initial.scratch l.n)
    × WroteIs l.initial.to (parts_of l.edition (key_as l.key) (items_in l.text l.initial.scratch l.n) l.part) l.to (Some l.at)
