-- ONE TOKEN OF A MUSIC LINE, by the code's token: what must hold before it, and what it does to every part that is represented.
use Rattle.std.specs.Prelude.{ℕ, ◌<◌, ◌≡◌, List, length, get_or}
use Rattle.standard.specs.Bars as standard
use Rattle.reader.specs.Records.{pass_bits}
use Rattle.reader.specs.Barlines.{left_of}
use Rattle.reader.specs.Token as token
use Rattle.part_layout.specs.Log.{on_barline, on_token}
use Rattle.token_symbols.specs.Bars.{barline_for}
use Rattle.part_accidentals.specs.Resolving.{signs}
use Rattle.token_lengths.specs.declared.Length.{Length}
use Rattle.token_lexemes.specs.declared.Token.{Token}
use Rattle.token_lexemes.specs.declared.Token.TheVariants as as-token
use Rattle.part_registers.specs.declared.Tables.{Tables}
use Rattle.part_registers.specs.declared.Registers.{Registers}
use Rattle.part_invariant.specs.Invariant.{Room, RepresentedInLine, Simulates}
use Rattle.part_sounds.specs.Sounds.{Restable, SimulatesRest, SimulatesNote}
use Rattle.capacity.specs.Covers.{signs_in}
use Rattle.part_chords.specs.Chords.{chord_in, ChordAt, SimulatesChord}

-- a part is represented, with room for so many rows more
abbrev pub RepresentedWith : Tables → List ℕ → Registers → ℕ → ℕ → ℕ → ℕ → Type 0
RepresentedWith t s r heads notes pitches scopes = Room t r.counts (length s) heads notes pitches scopes × RepresentedInLine t s r

unfoldable pub Ready : List ℕ → Tables → List ℕ → Registers → Token Length → Type 0
Ready line t s r as-token.Space = RepresentedWith t s r 0 0 0 0
Ready line t s r as-token.Overlay = RepresentedWith t s r 0 0 0 0
Ready line t s r as-token.Quoted = RepresentedWith t s r 0 0 0 0
Ready line t s r (as-token.Broken up count) = RepresentedWith t s r 0 0 0 0
Ready line t s r (as-token.Tuplet actual normal count) = RepresentedWith t s r 0 0 0 0
Ready line t s r as-token.Slur = RepresentedWith t s r 0 0 0 0
Ready line t s r as-token.GraceOpen = RepresentedWith t s r 0 0 0 0
Ready line t s r as-token.GraceClose = RepresentedWith t s r 0 0 0 0
Ready line t s r as-token.Decoration = RepresentedWith t s r 0 0 0 0
Ready line t s r (as-token.Barline right left opens) = RepresentedWith t s r 1 0 0 0
Ready line t s r (as-token.Volta first passes) = RepresentedWith t s r 0 0 0 0
Ready line t s r (as-token.Unit unit) = RepresentedWith t s r 0 0 0 0
Ready line t s r (as-token.Meter top bottom) = RepresentedWith t s r 0 0 0 0
Ready line t s r (as-token.Key fifths minor) = RepresentedWith t s r 0 0 0 0
Ready line t s r as-token.Field = RepresentedWith t s r 0 0 0 0
Ready line t s r (as-token.Chord place count written tie slur) =
    Room t r.counts (length s) 0 1 (length (chord_in line place)) (signs_in (chord_in line place)) × RepresentedInLine t s r × ChordAt line place count
Ready line t s r (as-token.Rest kind written) = Room t r.counts (length s) 0 1 0 0 × Restable t s r kind written
Ready line t s r (as-token.Note pitch written tie slur) = Room t r.counts (length s) 0 1 1 (signs pitch.sign) × RepresentedInLine t s r × (pitch.step < 7)
Ready line t s r as-token.Nothing = RepresentedWith t s r 0 0 0 0
Ready line t s r as-token.Skipped = RepresentedWith t s r 0 0 0 0
Ready line t s r (as-token.Refused number) = RepresentedWith t s r 0 0 0 0

unfoldable pub SimulatesToken : List ℕ → Tables → List ℕ → Registers → List ℕ → Registers → Token Length → Type 0
SimulatesToken line t s r s' x as-token.Space = Simulates t s r s' x 0 0 0 0 (λ l. on_token l token.space)
SimulatesToken line t s r s' x as-token.Overlay = Simulates t s r s' x 0 0 0 0 (λ l. on_token l token.overlay)
SimulatesToken line t s r s' x as-token.Quoted = Simulates t s r s' x 0 0 0 0 (λ l. l)
SimulatesToken line t s r s' x (as-token.Broken up count) = Simulates t s r s' x 0 0 0 0 (λ l. on_token l (token.broken up count))
SimulatesToken line t s r s' x (as-token.Tuplet actual normal count) = Simulates t s r s' x 0 0 0 0 (λ l. on_token l (token.tuplet (record { actual = actual; normal = normal; count = count })))
SimulatesToken line t s r s' x as-token.Slur = Simulates t s r s' x 0 0 0 0 (λ l. on_token l token.slur)
SimulatesToken line t s r s' x as-token.GraceOpen = Simulates t s r s' x 0 0 0 0 (λ l. on_token l token.grace_open)
SimulatesToken line t s r s' x as-token.GraceClose = Simulates t s r s' x 0 0 0 0 (λ l. on_token l token.grace_close)
SimulatesToken line t s r s' x as-token.Decoration = Simulates t s r s' x 0 0 0 0 (λ l. l)
SimulatesToken line t s r s' x (as-token.Barline right left opens) =
    ((b : standard.Barline) → right ≡ barline_for b → left ≡ barline_for (left_of b) → Simulates t s r s' x 1 0 0 0 (on_barline b opens))
SimulatesToken line t s r s' x (as-token.Volta first passes) =
    ((ps : List ℕ) → first ≡ get_or ps 0 0 → passes ≡ pass_bits ps → Simulates t s r s' x 0 0 0 0 (λ l. on_token l (token.volta ps)))
SimulatesToken line t s r s' x (as-token.Unit unit) = Simulates t s r s' x 0 0 0 0 (λ l. on_token l (token.unit unit))
SimulatesToken line t s r s' x (as-token.Meter top bottom) = Simulates t s r s' x 0 0 0 0 (λ l. on_token l (token.meter (top, bottom)))
SimulatesToken line t s r s' x (as-token.Key fifths minor) = Simulates t s r s' x 0 0 0 0 (λ l. on_token l (token.key (record { fifths = fifths; minor = minor })))
SimulatesToken line t s r s' x as-token.Field = Simulates t s r s' x 0 0 0 0 (λ l. l)
SimulatesToken line t s r s' x (as-token.Chord place count written tie slur) = SimulatesChord t s r s' x (chord_in line place) written tie slur
SimulatesToken line t s r s' x (as-token.Rest kind written) = SimulatesRest t s r s' x kind written
SimulatesToken line t s r s' x (as-token.Note pitch written tie slur) = SimulatesNote t s r s' x pitch written tie slur
SimulatesToken line t s r s' x as-token.Nothing = Simulates t s r s' x 0 0 0 0 (λ l. on_token l token.nothing)
SimulatesToken line t s r s' x as-token.Skipped = Simulates t s r s' x 0 0 0 0 (λ l. l)
SimulatesToken line t s r s' x (as-token.Refused number) = Simulates t s r s' x 0 0 0 0 (λ l. l)
