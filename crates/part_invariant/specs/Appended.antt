-- A NOTE APPENDED, by the code's values: the beam of the voice's last note, and the registers after it.
use Rattle.std.specs.Prelude.{ℕ, ◌+◌, ◌-◌, ◌*◌, cond, ◌&&◌, List, [], ◌∷◌, eqb, set, None}
use Rattle.laws.specs.Bytes.{splice}
use Rattle.part_rows.specs.Encoded.{note_row_width, beam_at}
use Rattle.part_registers.specs.declared.Line.{Line}
use Rattle.part_registers.specs.declared.Verses.{Verses}
use Rattle.part_registers.specs.declared.Registers.{Registers}
use Rattle.part_registers.specs.Notes.{beams, fewer, run_again}

-- a note of this kind and value goes on with a run: the voice's last note begins or continues the beam
unfoldable pub before_store : List ℕ → ℕ → ℕ → ℕ → ℕ → ℕ → List ℕ
before_store s at place run kind value = cond (eqb run 0) s (cond (beams kind value) (splice s (at + note_row_width * (place - 1) + beam_at) (cond (eqb run 1) 1 2 ∷ [])) s)

abbrev pub ran_on : Line → ℕ → Line
ran_on l run = record { unit = l.unit; top = l.top; bottom = l.bottom; overlay = l.overlay; run = run }

unfoldable pub sounded_on : Verses → ℕ → ℕ → Verses
sounded_on v overlay kind = record { sounded = cond (eqb overlay 0 && eqb kind 0) (v.sounded + 1) v.sounded; start = v.start; verse = v.verse }

-- the registers after a note
abbrev pub appended : Registers → ℕ → ℕ → Registers
appended r kind value =
    record {
      counts = record { heads = r.counts.heads; notes = r.counts.notes + 1; pitches = r.counts.pitches; scopes = r.counts.scopes };
      key = r.key;
      last = set r.last r.line.overlay (r.counts.notes + 1);
      pending = r.pending;
      line = ran_on r.line (run_again r.line.run kind value);
      half = None;
      tuplet = fewer r.tuplet;
      verses = sounded_on r.verses r.line.overlay kind;
    }
