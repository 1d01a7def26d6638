-- WHAT BOTH DEFINITIONS KEEP: measures, newest first, each with its notes, newest first, and their voices. From it the log and its heads are made, and the
-- plain measures with their four lists.
use Prim.Native.Nat.{ℕ, ◌<◌}
use mathlib.Core.Path.{◌≡◌, ap, ◌∙◌}
use mathlib.Core.Bool.{false}
use mathlib.Core.Option.{Option, none, some}
use mathlib.Core.List.{List, [], ◌∷◌, map}
use lib.ListN.{length}
use Rattle.laws.specs.Lists.{foldl, All}
use Rattle.standard.specs.Keys.{Key}
use Rattle.standard.specs.Bars.{Barline, normal}
use Rattle.standard.specs.Notes.{Pending}
use Rattle.standard.specs.Fields.{Meter}
use Rattle.reader.specs.Pitches.{Scope}
use Rattle.reader.specs.State.{Note, Volta, no_volta, Measure, Line, Verses, PartState, is_empty}
use Rattle.part_layout.specs.Log.{Head, LogState, no_counts}
use Rattle.part_layout.specs.Lines.{four}
use Rattle.part_layout.proofs.Back.{back}
use Rattle.part_layout.proofs.Voices.{voice, last_of}

-- a measure
pub record Bar : Type 0 where
  pub notes : List (ℕ × Note)
  pub left : Barline
  pub right : Barline
  pub meter : Meter
  pub key : Option Key
  pub volta : Volta
  pub passes : List ℕ

-- a part
pub record BarState : Type 0 where
  pub key : Key
  pub scopes : List Scope
  pub bars : List Bar
  pub pending : Pending
  pub verses : Verses
  pub line : Line

-- CHANGING ONE THING
abbrev pub bar_notes : List (ℕ × Note) → Bar → Bar
bar_notes n b = record { notes = n; left = b.left; right = b.right; meter = b.meter; key = b.key; volta = b.volta; passes = b.passes }

abbrev pub bar_left : Barline → Bar → Bar
bar_left l b = record { notes = b.notes; left = l; right = b.right; meter = b.meter; key = b.key; volta = b.volta; passes = b.passes }

abbrev pub bar_right : Barline → Bar → Bar
bar_right r b = record { notes = b.notes; left = b.left; right = r; meter = b.meter; key = b.key; volta = b.volta; passes = b.passes }

abbrev pub bar_meter : Meter → Bar → Bar
bar_meter t b = record { notes = b.notes; left = b.left; right = b.right; meter = t; key = b.key; volta = b.volta; passes = b.passes }

abbrev pub bar_mark : Key → Bar → Bar
bar_mark k b = record { notes = b.notes; left = b.left; right = b.right; meter = b.meter; key = some k; volta = b.volta; passes = b.passes }

abbrev pub bar_volta : Volta → List ℕ → Bar → Bar
bar_volta v ps b = record { notes = b.notes; left = b.left; right = b.right; meter = b.meter; key = b.key; volta = v; passes = ps }

-- a new measure
abbrev pub new_bar : Meter → Barline → Bar
new_bar t l = record { notes = []; left = l; right = normal; meter = t; key = none; volta = no_volta; passes = [] }

abbrev pub set_bars : List Bar → BarState → BarState
set_bars bs s = record { key = s.key; scopes = s.scopes; bars = bs; pending = s.pending; verses = s.verses; line = s.line }

abbrev pub set_line : Line → BarState → BarState
set_line l s = record { key = s.key; scopes = s.scopes; bars = s.bars; pending = s.pending; verses = s.verses; line = l }

abbrev pub set_key : Key → BarState → BarState
set_key k s = record { key = k; scopes = s.scopes; bars = s.bars; pending = s.pending; verses = s.verses; line = s.line }

abbrev pub set_scopes : List Scope → BarState → BarState
set_scopes c s = record { key = s.key; scopes = c; bars = s.bars; pending = s.pending; verses = s.verses; line = s.line }

abbrev pub set_pending : Pending → BarState → BarState
set_pending p s = record { key = s.key; scopes = s.scopes; bars = s.bars; pending = p; verses = s.verses; line = s.line }

abbrev pub set_verses : Verses → BarState → BarState
set_verses v s = record { key = s.key; scopes = s.scopes; bars = s.bars; pending = s.pending; verses = v; line = s.line }

-- AS THE CODE KEEPS IT
-- a measure's head: how many notes each voice has
abbrev pub head_of : Bar → Head
head_of b =
    record { counts = four (λ v. length (voice v b.notes)); left = b.left; right = b.right; meter = b.meter; key = b.key; volta = b.volta; passes = b.passes }

-- the heads, the oldest first
abbrev pub heads_of : List Bar → List Head
heads_of bs = back [] (map head_of bs)

-- all notes in the order written
abbrev pub log_of : List Bar → List (ℕ × Note)
log_of [] = []
log_of (b ∷ bs) = back (log_of bs) b.notes

-- the last places in the open measure
abbrev pub lasts_of : List Bar → List ℕ
lasts_of [] = no_counts
lasts_of (b ∷ bs) = four (λ v. last_of v (length (log_of bs)) b.notes)

-- the state
abbrev pub laid : BarState → LogState
laid s =
    record {
      key = s.key;
      scopes = s.scopes;
      log = log_of s.bars;
      heads = heads_of s.bars;
      last = lasts_of s.bars;
      pending = s.pending;
      verses = s.verses;
      line = s.line;
    }

-- AS THE PLAIN DEFINITION KEEPS IT
-- a measure: the notes of each voice
abbrev pub measure_of : Bar → Measure
measure_of b =
    record { voices = four (λ v. voice v b.notes); left = b.left; right = b.right; meter = b.meter; key = b.key; volta = b.volta; passes = b.passes }

-- the measures, the newest first
abbrev pub measures_of : List Bar → List Measure
measures_of bs = map measure_of bs

-- the state
abbrev pub plain : BarState → PartState
plain s =
    record { key = s.key; scopes = s.scopes; measures = measures_of s.bars; pending = s.pending; verses = s.verses; line = s.line }

-- WHAT HOLDS
-- a measure all of whose notes are in one of four voices
abbrev pub Below : Bar → Type 0
Below b = All (λ (x : ℕ × Note). x.0 < 4) b.notes

-- a measure with a note
abbrev pub Full : Bar → Type 0
Full b = is_empty (measure_of b) ≡ false

-- all measures but the newest have a note
abbrev pub Older : List Bar → Type 0
Older [] = Unit {0}
Older (b ∷ bs) = All Full bs

-- a part between lines, with the overlay voice o
pub record Good (o : ℕ) (bars : List Bar) : Type 0 where
  pub place : o < 4
  pub below : All Below bars
  pub older : Older bars

-- while a line is read
pub record Reads (o : ℕ) (bars : List Bar) : Type 0 where
  pub good : Good o bars
  pub is_open : 0 < length bars

-- of a state between lines
abbrev pub Inv : BarState → Type 0
Inv s = Good s.line.overlay s.bars

-- of a state while a line is read
abbrev pub Reading : BarState → Type 0
Reading s = Reads s.line.overlay s.bars

-- BOTH DEFINITIONS SIDE BY SIDE: a state of each that is made from the same one, of which P holds
pub record Sim (P : BarState → Type 0) (l : LogState) (p : PartState) : Type 0 where
  pub state : BarState
  pub holds : P state
  pub laid_is : laid state ≡ l
  pub plain_is : plain state ≡ p

-- a step that keeps them side by side, from any two states
pub sim_step : (P Q : BarState → Type 0) (f : LogState → LogState) (g : PartState → PartState) → ((s : BarState) → P s → Sim Q (f (laid s)) (g (plain s)))
    → (l : LogState) (p : PartState) → Sim P l p → Sim Q (f l) (g p)
sim_step P Q f g h l p s =
    let t = h s.state s.holds in
    record { state = t.state; holds = t.holds; laid_is = t.laid_is ∙ ap f s.laid_is; plain_is = t.plain_is ∙ ap g s.plain_is }

-- so for the steps of a list
pub sim_fold : {A : Type 0} (P : BarState → Type 0) (f : LogState → A → LogState) (g : PartState → A → PartState)
    → ((s : BarState) (x : A) → P s → Sim P (f (laid s) x) (g (plain s) x))
    → (l : LogState) (p : PartState) (xs : List A) → Sim P l p → Sim P (foldl f l xs) (foldl g p xs)
sim_fold P f g h l p [] s = s
sim_fold P f g h l p (x ∷ xs) s = sim_fold P f g h (f l x) (g p x) xs (sim_step P P (λ m. f m x) (λ q. g q x) (λ t k. h t x k) l p s)
