-- RESOLVING A PITCH by the scopes in scratch and the key.
use Rattle.std.specs.Prelude.{ℕ, ◌+◌, ◌*◌, ◌≤◌, ◌≡◌, cond, List, [], eqb, get_or, set}
use Rattle.laws.specs.Lists.{alter_at}
use Rattle.standard.specs.Keys.{Key}
use Rattle.standard.specs.Pitches.{Written}
use Rattle.reader.specs.Pitches.{Scope, sound_of, scope_after}
use Rattle.token_pitches.specs.declared.Sign.{Sign}
use Rattle.token_pitches.specs.declared.Sign.TheVariants as sign
use Rattle.token_pitches.specs.declared.Pitch as code
use Rattle.token_pitches.specs.Pitches.{sign_of}
use Rattle.part_rows.specs.Table.{Only}
use Rattle.part_rows.specs.Encoded.{pitch_for, scope_row_width, scope_index_width}
use Rattle.part_scopes.specs.Scopes.{place_in, with_row, Scoped}
use Rattle.part_accidentals.specs.declared.AbcPartParseState.{AbcPartParseState}
use Rattle.part_accidentals.specs.declared.Row.{Row}
use Rattle.part_accidentals.specs.declared.Resolved.{Resolved}

-- A ROW FOR A STEP AND OCTAVE: the one that there is, else a new one. Scratch then, its place and how many rows there are
unfoldable pub store_with : List ℕ → ℕ → ℕ → ℕ → ℕ → List ℕ
store_with s at count step octave = cond (eqb (place_in s at count step octave) 0) (with_row s at count step octave) s

unfoldable pub row_with : List ℕ → ℕ → ℕ → ℕ → ℕ → Row
row_with s at count step octave = cond (eqb (place_in s at count step octave) 0) (record { place = count + 1; count = count + 1 }) (record { place = place_in s at count step octave; count = count })

-- the rows that an accidental may take
abbrev pub signs : Sign → ℕ
signs sign.Nothing = 0
signs (sign.Written a c) = 1

-- a pitch of the code as the definition's
abbrev pub written_of : code.Pitch → Written
written_of p = record { step = p.step; octave = p.octave; sign = sign_of p.sign }

abbrev pub entered : AbcPartParseState → ℕ → ℕ → AbcPartParseState
entered t voice place = record { fifths = t.fifths; minor = t.minor; scopes = set t.scopes voice place }

-- the pitch is the definition's, and the rows after it hold what its scopes remember
pub record ResolvedAs (s : List ℕ) (at count : ℕ) (state : AbcPartParseState) (voice : ℕ) (p : code.Pitch) (s' : List ℕ) (r : Resolved) : Type 0 where
  pub only : Only at (at + scope_index_width + scope_row_width * (count + signs p.sign)) s s'
  pub same_fifths : r.state.fifths ≡ state.fifths
  pub same_minor : r.state.minor ≡ state.minor
  pub rows_most : r.count ≤ count + signs p.sign
  pub sounds : (k : Key) (scopes : List Scope) → k.fifths ≡ state.fifths → Scoped s at count state.scopes scopes
      → r.sounded ≡ pitch_for (sound_of k (get_or scopes voice []) (written_of p))
  pub keeps : (scopes : List Scope) → Scoped s at count state.scopes scopes
      → Scoped s' at r.count r.state.scopes (alter_at voice (λ old. scope_after old (written_of p)) scopes)
