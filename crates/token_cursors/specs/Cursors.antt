-- A cursor that is moved on.
use Rattle.std.specs.Prelude.{ℕ}
use Rattle.token_cursors.specs.declared.Cursor.{Cursor}

-- the cursor at another place; its end stays
abbrev pub moved_to : Cursor → ℕ → Cursor
moved_to c n = record { at = n; end = c.end }
