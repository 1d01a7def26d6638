-- THE KINDS OF TOKENS in a music line (ABC 2.1, 4; 000, parse_body_line).
use Rattle.std.specs.Prelude.{ℕ, Bool, List}
use Rattle.standard.specs.Keys.{Key}
use Rattle.standard.specs.Pitches.{Written}
use Rattle.standard.specs.Tuplets.{Tuplet}
use Rattle.standard.specs.Bars.{Barline}
use Rattle.standard.specs.Notes.{NoteKind, Behind}
use Rattle.standard.specs.Fields.{Meter}
use Rattle.reader.specs.Lengths.{Length}

pub data Token : Type 0 where
  -- white space; `&`; a quoted text (or, unclosed, the rest of the line)
  space overlay quoted : Token
  -- n `>` (true) or `<` (false)
  broken : Bool → ℕ → Token
  tuplet : Tuplet → Token
  slur grace_open grace_close decoration : Token
  -- a barline; whether a measure opens behind it, for no `]` follows
  barline : Barline → Bool → Token
  -- an ending with its passes
  volta : List ℕ → Token
  -- an inline L, M, K field that sets; any other inline field
  unit : ℕ → Token
  meter : Meter → Token
  key : Key → Token
  field : Token
  -- a chord of one pitch at least; a rest; a note
  chord : List Written → Length → Behind → Token
  rest : NoteKind → Length → Token
  note : Written → Length → Behind → Token
  -- an empty chord, or an accidental without a note
  nothing : Token
  -- a byte that means nothing; a refusal by its number
  skipped : Token
  refused : ℕ → Token

-- a token and how many bytes it takes
pub record Taken : Type 0 where
  pub token : Token
  pub used : ℕ

-- a token of n bytes
abbrev pub taken : Token → ℕ → Taken
taken t n = record { token = t; used = n }
