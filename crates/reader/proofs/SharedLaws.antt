-- What the scan of the whole text keeps for all parts is what a part's own line has at its end: one L and one M for both (000's `unit_den` and `time`).
use Prim.Native.Nat.{ℕ}
use mathlib.Core.Path.{◌≡◌, refl, ap, ◌∙◌}
use mathlib.Core.Bool.{Bool}
use mathlib.Core.List.{List, [], ◌∷◌, map}
use Rattle.laws.specs.Lists.{foldl}
use Rattle.standard.specs.Fields.{Meter}
use Rattle.editions.specs.declared.Edition.{Edition}
use Rattle.reader.specs.Token.{Token, space, overlay, quoted, broken, tuplet, slur, grace_open, grace_close, decoration, barline, volta, unit, meter, key, field, chord, rest, note, nothing, skipped, refused}
use Rattle.reader.specs.Tokens.{Effect, counts, refuses, sets_unit, sets_meter, no_effect, effect_of, effects, tokens}
use Rattle.reader.specs.Scan.{last_unit, last_meter}
use Rattle.reader.specs.State.{PartState, Note, new_line, on_open, set_voice, voice_now}
use Rattle.reader.specs.Part.{on_broken, on_nothing, append, on_sound, on_barline, hears, on_token, line_begins, on_line}

-- a broken rhythm changes neither
broken_line : (up : Bool) (n : ℕ) (v : List Note) (s : PartState) → ((on_broken up n v s).line.unit ≡ s.line.unit) × ((on_broken up n v s).line.meter ≡ s.line.meter)
unfolding on_broken set_voice on_open
broken_line up n [] s = (refl, refl)
broken_line up n (x ∷ xs) s = (refl, refl)

-- nor does an empty chord
nothing_line : (v : List Note) (s : PartState) → ((on_nothing v s).line.unit ≡ s.line.unit) × ((on_nothing v s).line.meter ≡ s.line.meter)
unfolding on_nothing set_voice on_open
nothing_line [] s = (refl, refl)
nothing_line (x ∷ xs) s = (refl, refl)

-- one token
one_line : (t : Token) (s : PartState) → ((on_token s t).line.unit ≡ last_unit (effect_of t ∷ []) s.line.unit) × ((on_token s t).line.meter ≡ last_meter (effect_of t ∷ []) s.line.meter)
unfolding on_token last_unit last_meter effect_of on_open on_barline hears on_sound append set_voice
one_line space s = (refl, refl)
one_line overlay s = (refl, refl)
one_line quoted s = (refl, refl)
one_line (broken up n) s = broken_line up n (voice_now s) s
one_line (tuplet t) s = (refl, refl)
one_line slur s = (refl, refl)
one_line grace_open s = (refl, refl)
one_line grace_close s = (refl, refl)
one_line decoration s = (refl, refl)
one_line (barline b o) s = (refl, refl)
one_line (volta ps) s = (refl, refl)
one_line (unit u) s = (refl, refl)
one_line (meter m) s = (refl, refl)
one_line (key k) s = (refl, refl)
one_line field s = (refl, refl)
one_line (chord ws l b) s = (refl, refl)
one_line (rest k l) s = (refl, refl)
one_line (note w l b) s = (refl, refl)
one_line nothing s = nothing_line (voice_now s) s
one_line skipped s = (refl, refl)
one_line (refused n) s = (refl, refl)

-- the unit after the first effect, and after the others
first_unit : (x : Effect) (xs : List Effect) (u : ℕ) → last_unit xs (last_unit (x ∷ []) u) ≡ last_unit (x ∷ xs) u
unfolding last_unit
first_unit counts xs u = refl
first_unit (refuses k) xs u = refl
first_unit (sets_unit v) xs u = refl
first_unit (sets_meter m) xs u = refl
first_unit no_effect xs u = refl

-- the same for the meter
first_meter : (x : Effect) (xs : List Effect) (m : Meter) → last_meter xs (last_meter (x ∷ []) m) ≡ last_meter (x ∷ xs) m
unfolding last_meter
first_meter counts xs m = refl
first_meter (refuses k) xs m = refl
first_meter (sets_unit v) xs m = refl
first_meter (sets_meter n) xs m = refl
first_meter no_effect xs m = refl

-- the unit after a line's tokens
pub unit_after_lem : (ts : List Token) (s : PartState) → (foldl on_token s ts).line.unit ≡ last_unit (map effect_of ts) s.line.unit
unfolding last_unit
unit_after_lem [] s = refl
unit_after_lem (t ∷ ts) s = unit_after_lem ts (on_token s t) ∙ ap (last_unit (map effect_of ts)) (one_line t s).0 ∙ first_unit (effect_of t) (map effect_of ts) s.line.unit

-- the meter after a line's tokens
pub meter_after_lem : (ts : List Token) (s : PartState) → (foldl on_token s ts).line.meter ≡ last_meter (map effect_of ts) s.line.meter
unfolding last_meter
meter_after_lem [] s = refl
meter_after_lem (t ∷ ts) s = meter_after_lem ts (on_token s t) ∙ ap (last_meter (map effect_of ts)) (one_line t s).1 ∙ first_meter (effect_of t) (map effect_of ts) s.line.meter

-- after a whole line, from the L and M that it began with: the scan's
pub unit_after_line : (ed : Edition) (u : ℕ) (t : Meter) (l : List ℕ) (s : PartState) → (on_line ed u t l s).line.unit ≡ last_unit (effects ed l) u
unfolding on_line effects line_begins new_line
unit_after_line ed u t l s = unit_after_lem (tokens ed 0 l) (line_begins u t s)

-- the same for the meter
pub meter_after_line : (ed : Edition) (u : ℕ) (t : Meter) (l : List ℕ) (s : PartState) → (on_line ed u t l s).line.meter ≡ last_meter (effects ed l) t
unfolding on_line effects line_begins new_line
meter_after_line ed u t l s = meter_after_lem (tokens ed 0 l) (line_begins u t s)
