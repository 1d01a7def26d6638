-- The registers after an inline key, and where a line begins.
use Rattle.std.specs.Prelude.{None}
use Rattle.std.specs.Prelude.{ℕ}
use Rattle.standard.specs.Keys.{Key}
use Rattle.part_registers.specs.declared.Registers.{Registers}
use Rattle.part_registers.specs.declared.Running.TheVariants.{Nothing}
use Rattle.part_bars.specs.Bars.{nowhere}

abbrev pub hearing : Registers → Key → Registers
hearing r k =
    record {
      counts = record { heads = r.counts.heads; notes = r.counts.notes; pitches = r.counts.pitches; scopes = 0 };
      key = record { fifths = k.fifths; minor = k.minor; scopes = nowhere };
      last = r.last;
      pending = r.pending;
      line = r.line;
      half = r.half;
      tuplet = r.tuplet;
      verses = r.verses;
    }

-- with so many measures
abbrev pub begun : Registers → ℕ → ℕ → ℕ → ℕ → Registers
begun r heads unit top bottom =
    record {
      counts = record { heads = heads; notes = r.counts.notes; pitches = r.counts.pitches; scopes = r.counts.scopes };
      key = r.key;
      last = r.last;
      pending = r.pending;
      line = record { unit = unit; top = top; bottom = bottom; overlay = 0; run = 0 };
      half = None;
      tuplet = Nothing;
      verses = record { sounded = r.verses.sounded; start = r.verses.sounded; verse = 1 };
    }
