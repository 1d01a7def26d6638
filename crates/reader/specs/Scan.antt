-- THE SCAN: every line in order, with what all parts share. It makes every refusal but 1, 2, 3, 15 and 16, and hands each body line to one part as an item.
use Rattle.std.specs.Prelude.{ℕ, suc, ◌+◌, max, Bool, true, false, cond, ◌||◌, List, [], ◌∷◌, ◌++◌, eqb, leb, ltb, length}
use Rattle.std.proofs.Math.Option.{Option, none, some}
use Rattle.laws.specs.Lists.{elem, index_of}
use Rattle.standard.specs.Keys.{Key, plain_key}
use Rattle.standard.specs.Fields.{Meter}
use Rattle.editions.specs.declared.Edition.{Edition}
use Rattle.reader.specs.Tokens.{Effect, counts, refuses, sets_unit, sets_meter, no_effect}
use Rattle.reader.specs.Lines.{Kind, blank, refused, lyric, voice, key, meter, unit, tune, other, music, kind_of}
use Rattle.reader.specs.Steps.{TextLine, Step, refuse, on, run}

-- WHAT GOES TO A PART: it is named for the first time (in the header: true); a V line of its; the header's K line, while it is the part
-- being read; a later K field, M field; a lyric line (whether the part has a place for verses); a music line with the L and M in force where it begins
pub data Item : Type 0 where
  voice_declared : Bool → Item
  reset key_in_header : Item
  key_change : Key → Item
  meter_change : Meter → Item
  lyric_line : Bool → List ℕ → Item
  music_line : ℕ → Meter → List ℕ → Item

-- WHAT HOLDS FOR ALL PARTS and no line of a block changes: whether the first K line is still to come, the identifiers of the voices in the
-- order of their parts, the header's key
pub record Env : Type 0 where
  pub in_header : Bool
  pub voices : List (List ℕ)
  pub header_key : Key

-- WHAT CHANGES FROM LINE TO LINE: the L and M in force; the part being read; the notes and lines so far; how many parts have a place for
-- verses (000 makes one for every part up to the highest that has had a music line); whether the first part has had a music line
pub record ScanState : Type 0 where
  pub env : Env
  pub unit : ℕ
  pub meter : Meter
  pub part : ℕ
  pub notes : ℕ
  pub lines : ℕ
  pub places : ℕ
  pub opened : Bool

-- 000: C major, 4/4, unit 1/8
unfoldable pub begin : ScanState
begin =
    record {
      env = record { in_header = true; voices = []; header_key = plain_key };
      unit = 8;
      meter = (4, 4);
      part = 0;
      notes = 0;
      lines = 0;
      places = 0;
      opened = false;
    }

-- "the 100,001st note" is refused; "a line after the 10,000th"; "a 33rd voice"
abbrev pub most_notes : ℕ
most_notes = 100000

abbrev pub most_lines : ℕ
most_lines = 10000

abbrev pub most_voices : ℕ
most_voices = 32

-- THE EFFECTS OF A MUSIC LINE: its notes, the L and M after it, and the first refusal met, with n notes before
unfoldable pub note_count : List Effect → ℕ
note_count [] = 0
note_count (counts ∷ es) = suc (note_count es)
note_count (refuses k ∷ es) = note_count es
note_count (sets_unit u ∷ es) = note_count es
note_count (sets_meter m ∷ es) = note_count es
note_count (no_effect ∷ es) = note_count es

unfoldable pub last_unit : List Effect → ℕ → ℕ
last_unit [] u = u
last_unit (counts ∷ es) u = last_unit es u
last_unit (refuses k ∷ es) u = last_unit es u
last_unit (sets_unit v ∷ es) u = last_unit es v
last_unit (sets_meter m ∷ es) u = last_unit es u
last_unit (no_effect ∷ es) u = last_unit es u

unfoldable pub last_meter : List Effect → Meter → Meter
last_meter [] m = m
last_meter (counts ∷ es) m = last_meter es m
last_meter (refuses k ∷ es) m = last_meter es m
last_meter (sets_unit v ∷ es) m = last_meter es m
last_meter (sets_meter n ∷ es) m = last_meter es n
last_meter (no_effect ∷ es) m = last_meter es m

unfoldable pub first_refusal : ℕ → List Effect → Option ℕ
first_refusal n [] = none
first_refusal n (counts ∷ es) = cond (ltb n most_notes) (first_refusal (suc n) es) (some 11)
first_refusal n (refuses k ∷ es) = some k
first_refusal n (sets_unit v ∷ es) = first_refusal n es
first_refusal n (sets_meter m ∷ es) = first_refusal n es
first_refusal n (no_effect ∷ es) = first_refusal n es

-- ONE LINE FURTHER, with another env, L, M or part
abbrev pub further : ScanState → Env → ℕ → Meter → ℕ → ScanState
further s e u m p = record { env = e; unit = u; meter = m; part = p; notes = s.notes; lines = suc s.lines; places = s.places; opened = s.opened }

abbrev pub at : ScanState → Env → ℕ → ScanState
at s e p = further s e s.unit s.meter p

abbrev pub next_line : ScanState → ScanState
next_line s = at s s.env s.part

-- "unnamed opening music counts as one": the first V line finds it as a voice without a name
unfoldable pub with_unnamed : Bool → List (List ℕ) → List (List ℕ)
with_unnamed o [] = cond o ([] ∷ []) []
with_unnamed o (v ∷ vs) = v ∷ vs

unfoldable pub voices_before : ScanState → List (List ℕ)
voices_before s = with_unnamed s.opened s.env.voices

abbrev pub with_voices : Env → List (List ℕ) → Env
with_voices e vs = record { in_header = e.in_header; voices = vs; header_key = e.header_key }

-- the first K line ends the header
abbrev pub with_header_key : Env → Key → Env
with_header_key e k = record { in_header = false; voices = e.voices; header_key = k }

abbrev pub Items : Type 0
Items = List (ℕ × Item)

abbrev pub Out : Type 0
Out = Step ScanState Item

-- A MUSIC LINE, unless something in it is refused
unfoldable pub play_on : ScanState → List Effect → List ℕ → Option ℕ → Out
play_on s es l (some k) = refuse k (suc s.lines)
play_on s es l none =
    on
    (record { env = s.env; unit = last_unit es s.unit; meter = last_meter es s.meter; part = s.part; notes = s.notes + note_count es; lines = suc s.lines; places = max s.places (suc s.part); opened = s.opened || eqb s.part 0 })
    ((s.part, music_line s.unit s.meter l) ∷ [])

-- A V LINE for the voice v, where vs are known: whether it is one of them, whether there are as many as there may be, whether it has a
-- `middle=` word (refusals 9 and 10)
unfoldable pub voice_on : ScanState → List ℕ → List (List ℕ) → Bool → Bool → Bool → Out
voice_on s v vs true full true = refuse 10 (suc s.lines)
voice_on s v vs true full false = on (at s (with_voices s.env vs) (index_of v vs)) ((index_of v vs, reset) ∷ [])
voice_on s v vs false true mid = refuse 9 (suc s.lines)
voice_on s v vs false false true = refuse 10 (suc s.lines)
voice_on s v vs false false false =
    on (at s (with_voices s.env (vs ++ (v ∷ []))) (length vs)) ((length vs, voice_declared s.env.in_header) ∷ ((length vs, reset) ∷ []))

-- AN L LINE
unfoldable pub unit_on : ScanState → Option ℕ → Out
unit_on s none = on (next_line s) []
unit_on s (some u) = on (further s s.env u s.meter s.part) []

-- WHAT A LINE DOES, by its kind; h: in the header, where music and lyrics are ignored. An X line makes the first part current again
unfoldable pub act : ScanState → Kind → Bool → Out
act s blank h = on (next_line s) []
act s (refused n) h = refuse n (suc s.lines)
act s (lyric t) true = on (next_line s) []
act s (lyric t) false = on (next_line s) ((s.part, lyric_line (ltb s.part s.places) t) ∷ [])
act s (voice v mid) h = voice_on s v (voices_before s) (elem v (voices_before s)) (leb most_voices (length (voices_before s))) mid
act s (key k) true = on (at s (with_header_key s.env k) s.part) ((s.part, key_in_header) ∷ [])
act s (key k) false = on (next_line s) ((s.part, key_change k) ∷ [])
act s (meter m) true = on (further s s.env s.unit m s.part) []
act s (meter m) false = on (further s s.env s.unit m s.part) ((s.part, meter_change m) ∷ [])
act s (unit u) h = unit_on s u
act s tune true = on (at s s.env 0) []
act s tune false = refuse 7 (suc s.lines)
act s other h = on (next_line s) []
act s (music hi es l) true = on (next_line s) []
act s (music true es l) false = refuse 6 (suc s.lines)
act s (music false es l) false = play_on s es l (first_refusal s.notes es)

-- a line of the text; refusal 4 comes before anything in it
unfoldable pub step : Edition → ScanState → TextLine → Out
step ed s r = cond (ltb s.lines most_lines) (act s (kind_of ed r) s.env.in_header) (refuse 4 (suc s.lines))

-- the lines of a text
unfoldable pub scan : Edition → List TextLine → Out
scan ed rs = run (step ed) begin rs
