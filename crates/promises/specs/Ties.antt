-- TIES THAT ARE PENDING, by what a part is given (document 01: "a pending tie end .. lasts on until the next V line"; document 02, T-07). Behind a note or chord with `-` a tie is
-- pending, until the part's next note or chord takes it, of whatever pitch, voice or kind, or a V: line ends it.
use Rattle.std.specs.Prelude.{ℕ, ◌+◌, ◌≡◌, Bool, true, false, cond, not, ◌&&◌, ◌||◌, List, [], ◌∷◌}
use Rattle.std.proofs.Math.Option.{Option, none, some}
use Rattle.laws.specs.Lists.{foldl, any}
use Rattle.standard.specs.Notes.{Behind}
use Rattle.editions.specs.declared.Edition.{Edition}
use Rattle.reader.specs.Text.{text_lines}
use Rattle.reader.specs.Token.{Token, space, overlay, quoted, broken, tuplet, slur, grace_open, grace_close, decoration, barline, volta, unit, meter, key, field, chord, rest, note, nothing, skipped, refused}
use Rattle.reader.specs.Tokens.{tokens}
use Rattle.reader.specs.Scan.{Item, voice_declared, reset, key_in_header, key_change, meter_change, lyric_line, music_line, scan}
use Rattle.promises.specs.Alike.{each_part}

-- TOKENS. What stands right behind a note or chord; any other token is neither
abbrev pub behind_sound : Token → Option Behind
behind_sound space = none
behind_sound overlay = none
behind_sound quoted = none
behind_sound (broken up n) = none
behind_sound (tuplet t) = none
behind_sound slur = none
behind_sound grace_open = none
behind_sound grace_close = none
behind_sound decoration = none
behind_sound (barline b o) = none
behind_sound (volta ps) = none
behind_sound (unit u) = none
behind_sound (meter m) = none
behind_sound (key k) = none
behind_sound field = none
behind_sound (chord ws l b) = some b
behind_sound (rest k l) = none
behind_sound (note w l b) = some b
behind_sound nothing = none
behind_sound skipped = none
behind_sound (refused n) = none

-- a tie is pending behind a token; t: one was before it
abbrev pub tie_behind : Bool → Token → Bool
tie_behind t x = elim (behind_sound x) [ none ↦ t | some b ↦ b.tie ]

-- 1 for a note or chord that takes a tie
abbrev pub takes_tie : Bool → Token → ℕ
takes_tie t x = elim (behind_sound x) [ none ↦ 0 | some b ↦ cond t 1 0 ]

abbrev pub is_sound : Token → Bool
is_sound x = elim (behind_sound x) [ none ↦ false | some b ↦ true ]

-- how many do, in a row of tokens
abbrev pub ties_taken : Bool → List Token → ℕ
ties_taken t [] = 0
ties_taken t (x ∷ xs) = takes_tie t x + ties_taken (tie_behind t x) xs

-- ITEMS. A V: line of the part
abbrev pub is_reset : Item → Bool
is_reset (voice_declared b) = false
is_reset reset = true
is_reset key_in_header = false
is_reset (key_change k) = false
is_reset (meter_change m) = false
is_reset (lyric_line b t) = false
is_reset (music_line u m l) = false

-- the tokens of a music line
abbrev pub tokens_of : Edition → Item → List Token
tokens_of ed (voice_declared b) = []
tokens_of ed reset = []
tokens_of ed key_in_header = []
tokens_of ed (key_change k) = []
tokens_of ed (meter_change m) = []
tokens_of ed (lyric_line b t) = []
tokens_of ed (music_line u m l) = tokens ed 0 l

-- a tie is pending behind an item; t: one was before it
abbrev pub tie_after : Edition → Bool → Item → Bool
tie_after ed t i = cond (is_reset i) false (foldl tie_behind t (tokens_of ed i))

-- a tie is pending behind all that a part was given
abbrev pub tie_pending : Edition → List Item → Bool
tie_pending ed is = foldl (tie_after ed) false is

-- how many notes and chords take a tie: those that the tally leaves out (`left-out-is` in proofs/Ties)
abbrev pub held_by : Edition → Bool → List Item → ℕ
held_by ed t [] = 0
held_by ed t (i ∷ is) = ties_taken t (tokens_of ed i) + held_by ed (tie_after ed t i) is

-- a note or chord comes before the part's next V: line
abbrev pub sound_comes : Edition → List Item → Bool
sound_comes ed [] = false
sound_comes ed (i ∷ is) = not (is_reset i) && (any is_sound (tokens_of ed i) || sound_comes ed is)

-- A V: LINE BETWEEN is AND js ENDS A TIE that a note or chord would take: 1, else 0
abbrev pub tie_ended : Edition → List Item → List Item → ℕ
tie_ended ed is js = cond (tie_pending ed is && sound_comes ed js) 1 0

-- at no V: line of a part a tie is pending; t: one is pending before them
abbrev pub no_tie_ended : Edition → Bool → List Item → Bool
no_tie_ended ed t [] = true
no_tie_ended ed t (i ∷ is) = not (t && is_reset i) && no_tie_ended ed (tie_after ed t i) is

-- OF A TEXT: at no V: line a tie is pending in the voice that it names
abbrev pub NoTieEnded : Edition → List ℕ → Type 0
NoTieEnded ed text = each_part (λ header is. no_tie_ended ed false is) (scan ed (text_lines text)) ≡ true
