-- Barlines by the code's values.
use Rattle.std.specs.Prelude.{ℕ, ◌+◌, List, [], ◌∷◌}
use Rattle.laws.specs.Bytes.{splice}
use Rattle.reader.specs.Codes.{barline_code}
use Rattle.token_symbols.specs.Bars.{as_barline}
use Rattle.token_symbols.specs.declared.Barline.{Barline}
use Rattle.token_symbols.specs.declared.Barline.TheVariants.{Normal, RepeatStart, RepeatEnd, RepeatBoth, Double, Final}
use Rattle.part_accidentals.specs.declared.AbcPartParseState.{AbcPartParseState}
use Rattle.part_registers.specs.declared.Registers.{Registers}

-- the paper's number of a barline
abbrev pub code_of : Barline → ℕ
code_of b = barline_code (as_barline b)

-- the left barline that a measure without notes gets, at its place in a store
abbrev pub left_store : List ℕ → ℕ → Barline → List ℕ
left_store s at Normal = s
left_store s at RepeatStart = splice s at (code_of RepeatStart ∷ [])
left_store s at RepeatEnd = s
left_store s at RepeatBoth = splice s at (code_of RepeatBoth ∷ [])
left_store s at Double = splice s at (code_of Double ∷ [])
left_store s at Final = s

abbrev pub nowhere : List ℕ
nowhere = 0 ∷ 0 ∷ 0 ∷ 0 ∷ []

abbrev pub cleared : AbcPartParseState → AbcPartParseState
cleared k = record { fifths = k.fifths; minor = k.minor; scopes = nowhere }

abbrev pub ended : Registers → Registers
ended r =
    record {
      counts = record { heads = r.counts.heads; notes = r.counts.notes; pitches = r.counts.pitches; scopes = 0 };
      key = cleared r.key;
      last = r.last;
      pending = r.pending;
      line = record { unit = r.line.unit; top = r.line.top; bottom = r.line.bottom; overlay = 0; run = 0 };
      half = r.half;
      tuplet = r.tuplet;
      verses = r.verses;
    }

abbrev pub opened : Registers → Registers
opened r =
    record {
      counts = record { heads = r.counts.heads + 1; notes = r.counts.notes; pitches = r.counts.pitches; scopes = 0 };
      key = cleared r.key;
      last = nowhere;
      pending = r.pending;
      line = record { unit = r.line.unit; top = r.line.top; bottom = r.line.bottom; overlay = 0; run = 0 };
      half = r.half;
      tuplet = r.tuplet;
      verses = r.verses;
    }

abbrev pub timed : Registers → ℕ → ℕ → Registers
timed r top bottom =
    record {
      counts = r.counts;
      key = r.key;
      last = r.last;
      pending = r.pending;
      line = record { unit = r.line.unit; top = top; bottom = bottom; overlay = r.line.overlay; run = r.line.run };
      half = r.half;
      tuplet = r.tuplet;
      verses = r.verses;
    }
