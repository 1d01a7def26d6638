-- `scan_voices::new_voice` meets its contract: its row, and two items more.
use mathlib.Core.Path.{refl, ◌∙◌}
use native.Mathlib.Omega.{arith}
use Rattle.reader.specs.Scan.{voice_declared}
use Rattle.scan_table.specs.Rows.{item_in, item_as}
use Rattle.scan_states.proofs.Items.{flag_is, item_added}
use Rattle.scan_voices.specs.Voices.{moved_to}
use Rattle.scan_voices.proofs.Voices.{new_voice}
use borrow.Author.Rules.{rules}
use Rattle.scan_voices.proofs.new_voice.Goals as goal

pub returns : goal.returns
unfolding item_in item_as
returns c =
    let a = c.args in
    record {
      moved = rw c.add_item.ensures.state (record { lines = refl; voices = refl; part = refl; items = omega arith });
      items = λ text. item_added text _ _ _ _ _ _ (c.add_item.ensures.items text) c.of-2.ensures refl
          ∙ new_voice text a.scratch.now _ _ a.n a.st.items a.id.at a.id.end _ a.st.in_header c.push_voice.ensures (rw c.of.ensures at c.put_item.ensures) (search rules) (search rules) (search rules)
          (search rules) (search rules) (search rules) (λ i. (a.n, voice_declared (flag_is a.st.in_header _ c.from.ensures i))) (search rules) (moved_to a.st a.n) _ refl;
    }
