-- THE TESTS OF specs/Alike CAN BE MET, AND NONE CAN BE LEFT OUT: texts that pass them all, and for each test texts that fail it alone and whose outcomes differ. Computed, through the
-- whole reader.
use Prim.Native.Nat.{ℕ}
use Prim.Native.String.{String}
use mathlib.Core.Path.{◌≡◌, refl, ap, ◌∙◌}
use mathlib.Core.Bool.{Bool, true, false}
use mathlib.Core.List.{List, [], ◌∷◌, ◌++◌, map}
use Rattle.laws.specs.Lists.{all, eq_text}
use Rattle.laws.proofs.Bools.{both_true}
use Rattle.laws.proofs.Lists.{eq_text_same}
use Rattle.standard.specs.Bytes.{ascii}
use Rattle.editions.specs.declared.Edition.TheVariants.{First, Second}
use Rattle.reader.specs.Text.{text_lines, clean}
use Rattle.reader.specs.Scan.{scan}
use Rattle.reader.specs.Answer.{refusal, Outcome, parse_abc}
use Rattle.reader.specs.All.{all as everything}
use Rattle.promises.specs.Alike.{key_alike, class_alike, tokens_alike, music_alike, body, is_grace, sung_alike, hears_key, header_alike, each_part, Alike}
use Rattle.promises.proofs.Alike.{same_reading}

-- THE FOUR TESTS: keys, music, sung, header
abbrev pub Tests : Type 0
Tests = Bool × Bool × Bool × Bool

abbrev pub tests : List ℕ → Tests
tests text = (
  all key_alike (map clean (text_lines text)),
  all music_alike (body (map clean (text_lines text))),
  each_part (λ header is. sung_alike is) (scan First (text_lines text)),
  each_part header_alike (scan First (text_lines text)),
)

-- what these compute with
unfoldable computed : ℕ
unfolding everything class_alike tokens_alike body is_grace hears_key
computed = 0

pub alike_test : (text : List ℕ) → tests text ≡ (true, true, true, true) → Alike text
alike_test text e = record { keys = ap (λ (t : Tests). t.0) e; music = ap (λ (t : Tests). t.1) e; sung = ap (λ (t : Tests). t.2) e; header = ap (λ (t : Tests). t.3) e }

-- THEY CAN BE MET. One voice named before the first K line; keys with their mode as both editions read it, tuplets with q written or of 2 to 4, words without bars; in another voice a grace, and lengths of one slash
abbrev pub song : List ℕ
song = ascii "V:1\nK:F#m\n(5:4ABcde [K:Dmaj]f|(3abc\nw:one two-three * four _\nV:2\n{A}B/ [ce]3/2 z/|\n"

pub song_alike : Alike song
unfolding computed
song_alike = alike_test song refl

pub song_same : parse_abc First song 2000 20000 ≡ parse_abc Second song 2000 20000
song_same = same_reading song 2000 20000 song_alike

-- two voices named before it, and C major
pub plain_alike : Alike (ascii "V:1\nV:2\nK:C\nV:1\nF\nV:2\nF\n")
unfolding computed
plain_alike = alike_test (ascii "V:1\nV:2\nK:C\nV:1\nF\nV:2\nF\n") refl

-- or G major, and a K line of its own for the voice that is not read there
pub own_alike : Alike (ascii "V:1\nV:2\nK:G\nV:1\nK:D\nF\nV:2\nF\n")
unfolding computed
own_alike = alike_test (ascii "V:1\nV:2\nK:G\nV:1\nK:D\nF\nV:2\nF\n") refl

-- a text that both refuse, by 7 at line 3; its music line before the first K line is not looked at
pub refused_alike : Alike (ascii "(5A\nK:C\nX:2\n")
unfolding computed
refused_alike = alike_test (ascii "(5A\nK:C\nX:2\n") refl

-- and the thirty names of the first edition's keys in all usual spellings pass the test of keys (crates/examples/proofs/KeySpellings.antt says as what keys they are read)
abbrev majors : List String
majors = "Cb" ∷ "Gb" ∷ "Db" ∷ "Ab" ∷ "Eb" ∷ "Bb" ∷ "F" ∷ "C" ∷ "G" ∷ "D" ∷ "A" ∷ "E" ∷ "B" ∷ "F#" ∷ "C#" ∷ []

abbrev minors : List String
minors = "Ab" ∷ "Eb" ∷ "Bb" ∷ "F" ∷ "C" ∷ "G" ∷ "D" ∷ "A" ∷ "E" ∷ "B" ∷ "F#" ∷ "C#" ∷ "G#" ∷ "D#" ∷ "A#" ∷ []

-- every name with every mode behind it
abbrev each_alike : List String → List String → Bool
each_alike modes names = all (λ (m : String). all (λ (n : String). key_alike (ascii "K:" ++ ascii n ++ ascii m)) names) modes

pub names_alike : (each_alike ("" ∷ "maj" ∷ "major" ∷ " maj" ∷ " major" ∷ " Major" ∷ []) majors ≡ true) × (each_alike ("m" ∷ "min" ∷ "minor" ∷ " m" ∷ " min" ∷ " minor" ∷ " Minor" ∷ []) minors ≡ true)
unfolding computed
names_alike = (refl, refl)

-- a capital M alone does not
pub capital_m_unlike : each_alike ("M" ∷ []) ("G" ∷ []) ≡ false
unfolding computed
capital_m_unlike = refl

-- NONE CAN BE LEFT OUT
-- two outcomes of a text that differ; stores of 300 and 12,000 bytes
abbrev pub Differ : List ℕ → Type 0
Differ text = parse_abc First text 300 12000 ≡ parse_abc Second text 300 12000 → ⊥

differ : (text : List ℕ) → eq_text (parse_abc First text 300 12000).reading (parse_abc Second text 300 12000).reading ≡ false → Differ text
differ text h e =
    both_true (eq_text (parse_abc First text 300 12000).reading (parse_abc Second text 300 12000).reading)
    (ap (λ (o : Outcome). eq_text o.reading (parse_abc Second text 300 12000).reading) e ∙ eq_text_same (parse_abc Second text 300 12000).reading) h

-- keys: a mode; a key beyond seven, which the first edition reads as C major
abbrev pub mode : List ℕ
mode = ascii "K:Ador\nA\n"

pub mode_differs : (tests mode ≡ (false, true, true, true)) × Differ mode
unfolding computed
mode_differs = (refl, differ mode refl)

abbrev pub beyond : List ℕ
beyond = ascii "K:G#\nA\n"

pub beyond_differs : (tests beyond ≡ (false, true, true, true)) × (Differ beyond × ((parse_abc Second beyond 300 12000).verdict ≡ refusal 21 1))
unfolding computed
beyond_differs = (refl, (differ beyond refl, refl))

-- music: an inline mode, a default, an empty part; two slashes behind a note, behind its marks and a numerator, behind a chord and a rest
abbrev pub inline_mode : List ℕ
inline_mode = ascii "K:C\n[K:Ador]A\n"

pub inline_differs : (tests inline_mode ≡ (true, false, true, true)) × Differ inline_mode
unfolding computed
inline_differs = (refl, differ inline_mode refl)

abbrev pub default : List ℕ
default = ascii "K:C\n(5A\n"

pub default_differs : (tests default ≡ (true, false, true, true)) × Differ default
unfolding computed
default_differs = (refl, differ default refl)

abbrev pub empty_part_lem : List ℕ
empty_part_lem = ascii "K:C\n(3:A\n"

pub empty_part_differs : (tests empty_part_lem ≡ (true, false, true, true)) × Differ empty_part_lem
unfolding computed
empty_part_differs = (refl, differ empty_part_lem refl)

abbrev pub slashed_note : List ℕ
slashed_note = ascii "K:C\nA//\n"

pub slashed_note_differs : (tests slashed_note ≡ (true, false, true, true)) × Differ slashed_note
unfolding computed
slashed_note_differs = (refl, differ slashed_note refl)

abbrev pub marked_note : List ℕ
marked_note = ascii "K:C\n^A,3//\n"

pub marked_note_differs : (tests marked_note ≡ (true, false, true, true)) × Differ marked_note
unfolding computed
marked_note_differs = (refl, differ marked_note refl)

abbrev pub slashed_chord : List ℕ
slashed_chord = ascii "K:C\n[CE]//\n"

pub slashed_chord_differs : (tests slashed_chord ≡ (true, false, true, true)) × Differ slashed_chord
unfolding computed
slashed_chord_differs = (refl, differ slashed_chord refl)

abbrev pub slashed_rest : List ℕ
slashed_rest = ascii "K:C\nz//\n"

pub slashed_rest_differs : (tests slashed_rest ≡ (true, false, true, true)) × Differ slashed_rest
unfolding computed
slashed_rest_differs = (refl, differ slashed_rest refl)

-- 32 of them, behind a rest whose length counts for nothing
abbrev pub many_slashes_lem : List ℕ
many_slashes_lem = ascii "K:C\nZ////////////////////////////////\n"

pub many_slashes_differ : (tests many_slashes_lem ≡ (true, false, true, true)) × (Differ many_slashes_lem × ((parse_abc Second many_slashes_lem 300 12000).verdict ≡ refusal 22 2))
unfolding computed
many_slashes_differ = (refl, (differ many_slashes_lem refl, refl))

-- sung: a lyric bar, a grace with lyrics
abbrev pub lyric_bar : List ℕ
lyric_bar = ascii "K:C\nAB|c\nw:a | b\n"

pub lyric_bar_differs : (tests lyric_bar ≡ (true, true, false, true)) × Differ lyric_bar
unfolding computed
lyric_bar_differs = (refl, differ lyric_bar refl)

abbrev pub sung_grace : List ℕ
sung_grace = ascii "K:C\n{A}B\nw:a\n"

pub sung_grace_differs : (tests sung_grace ≡ (true, true, false, true)) × Differ sung_grace
unfolding computed
sung_grace_differs = (refl, differ sung_grace refl)

-- header: a voice named before the first K line and not read there
abbrev pub named_early : List ℕ
named_early = ascii "V:1\nV:2\nK:G\nV:1\nF\n"

pub named_early_differs : (tests named_early ≡ (true, true, true, false)) × Differ named_early
unfolding computed
named_early_differs = (refl, differ named_early refl)
