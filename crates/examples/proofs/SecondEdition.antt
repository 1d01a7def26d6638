-- THE SECOND EDITION BESIDE THE FIRST (document 02, T-03 and T-06): keys, tuplets, lyrics and the header key's reach, each in one table of texts with what the first edition reads and what the second does.
use Prim.Native.Nat.{ℕ}
use Prim.Native.String.{String}
use mathlib.Core.Path.{◌≡◌, refl}
use mathlib.Core.Bool.{Bool, true, false}
use mathlib.Core.Option.{Option, none, some}
use mathlib.Core.List.{List, [], ◌∷◌, ◌++◌, map}
use lib.ListN.{length}
use Rattle.laws.specs.Lists.{concat}
use Rattle.standard.specs.Bytes.{ascii}
use Rattle.standard.specs.Keys.{Key}
use Rattle.standard.specs.Pitches.{Pitch}
use Rattle.editions.specs.declared.Edition.{Edition}
use Rattle.editions.specs.declared.Edition.TheVariants.{First, Second}
use Rattle.reader.specs.State.{Note, Measure}
use Rattle.reader.specs.Lyrics.{Syllable}
use Rattle.reader.specs.Part.{Part}
use Rattle.reader.specs.Codes.{mode_code, barline_code, bit}
use Rattle.reader.specs.Records.{by_voice, notes_of, pitches_of, lyrics}
use Rattle.reader.specs.Answer.{Verdict, refusal, reading, scratch_needed, parse_abc}
use Rattle.reader.specs.All.{all}

-- a text, and what each edition reads
pub record Row (A : Type 0) : Type 0 where
  pub text : List ℕ
  pub first : A
  pub second : A

abbrev row : {A : Type 0} → String → A → A → Row A
row t a b = record { text = ascii t; first = a; second = b }

abbrev pub read_in : {A : Type 0} → Edition → Row A → A
read_in First x = x.first
read_in Second x = x.second

-- a text's verdict in an edition
abbrev pub verdict_of : Edition → List ℕ → Verdict
verdict_of ed text = (parse_abc ed text 4096 (scratch_needed (length text))).verdict

-- a refusal: its number and line; of a reading what `f` makes of its parts
abbrev pub told : (List Part → List ℕ) → Verdict → List ℕ
told f (refusal n l) = n ∷ l ∷ []
told f (reading ps) = f ps

-- KEYS: the fifths of each measure that has a key, 128 added, and its key mark
abbrev key_of_measure : Option Key → List ℕ
key_of_measure none = []
key_of_measure (some k) = k.fifths ∷ mode_code k.minor ∷ []

abbrev key_marks : List Part → List ℕ
key_marks ps = concat (map (λ (p : Part). concat (map (λ (m : Measure). key_of_measure m.key) p.measures)) ps)

abbrev key_fields : List (Row (List ℕ))
key_fields =
    row "D bass m" (127 ∷ 2 ∷ []) (127 ∷ 2 ∷ [])
    ∷ row "Ador" (128 ∷ 1 ∷ []) (129 ∷ 1 ∷ [])
    ∷ row "A Dorian" (128 ∷ 1 ∷ []) (129 ∷ 1 ∷ [])
    ∷ row "GM" (128 ∷ 1 ∷ []) (126 ∷ 2 ∷ [])
    ∷ row "Gmi" (128 ∷ 1 ∷ []) (129 ∷ 1 ∷ [])
    ∷ row "Gma" (128 ∷ 1 ∷ []) (129 ∷ 1 ∷ [])
    ∷ row "Emm" (128 ∷ 2 ∷ []) (132 ∷ 1 ∷ [])
    ∷ row "Em1" (128 ∷ 1 ∷ []) (129 ∷ 2 ∷ [])
    ∷ row "D exp _b" (128 ∷ 1 ∷ []) (130 ∷ 1 ∷ [])
    ∷ row "A b" (128 ∷ 1 ∷ []) (131 ∷ 1 ∷ [])
    ∷ row "g" (128 ∷ 1 ∷ []) (128 ∷ 1 ∷ [])
    ∷ row "Hp" (128 ∷ 1 ∷ []) (128 ∷ 1 ∷ [])
    ∷ row "none" (128 ∷ 1 ∷ []) (128 ∷ 1 ∷ [])
    ∷ row "" (128 ∷ 1 ∷ []) (128 ∷ 1 ∷ [])
    ∷ row "exp ^f" (128 ∷ 1 ∷ []) (128 ∷ 1 ∷ [])
    ∷ row "G#" (128 ∷ 1 ∷ []) (21 ∷ 1 ∷ [])
    ∷ row "G#m" (133 ∷ 2 ∷ []) (133 ∷ 2 ∷ [])
    ∷ row "Fb" (128 ∷ 1 ∷ []) (21 ∷ 1 ∷ [])
    ∷ row "Fb lyd" (128 ∷ 1 ∷ []) (121 ∷ 1 ∷ [])
    ∷ row "F#lyd" (128 ∷ 1 ∷ []) (135 ∷ 1 ∷ [])
    ∷ row "C#lyd" (128 ∷ 1 ∷ []) (21 ∷ 1 ∷ [])
    ∷ row "Bbloc" (128 ∷ 1 ∷ []) (121 ∷ 1 ∷ [])
    ∷ row "Ebloc" (128 ∷ 1 ∷ []) (21 ∷ 1 ∷ [])
    ∷ row "Cbmix" (128 ∷ 1 ∷ []) (21 ∷ 1 ∷ [])
    ∷ row "A#m" (135 ∷ 2 ∷ []) (135 ∷ 2 ∷ [])
    ∷ row "C PHRYGIAN" (128 ∷ 1 ∷ []) (124 ∷ 1 ∷ [])
    ∷ row "D Mixolydian" (128 ∷ 1 ∷ []) (129 ∷ 1 ∷ [])
    ∷ row "E aeolian" (128 ∷ 1 ∷ []) (129 ∷ 2 ∷ [])
    ∷ row "F ionian" (128 ∷ 1 ∷ []) (127 ∷ 1 ∷ [])
    ∷ row "B locrian" (128 ∷ 1 ∷ []) (128 ∷ 1 ∷ [])
    ∷ row "Bminx" (130 ∷ 2 ∷ []) (130 ∷ 2 ∷ [])
    ∷ row "G# middle=B" (10 ∷ 1 ∷ []) (21 ∷ 1 ∷ [])
    ∷ row "middle=B G#" (10 ∷ 1 ∷ []) (10 ∷ 1 ∷ [])
    ∷ row "Fb middle=C loc" (10 ∷ 1 ∷ []) (21 ∷ 1 ∷ [])
    ∷ row "G# middle=B min" (10 ∷ 1 ∷ []) (10 ∷ 1 ∷ [])
    ∷ row "bass G#" (128 ∷ 1 ∷ []) (21 ∷ 1 ∷ [])
    ∷ []

pub keys_read : (ed : Edition) → map (λ (x : Row (List ℕ)). told key_marks (verdict_of ed (ascii "K:" ++ x.text ++ ascii "\nA"))) key_fields ≡ map (read_in ed) key_fields
unfolding all
keys_read First = refl
keys_read Second = refl

-- refusal 21 where it is met: in the header, the body, inline; a K line that will be lost; what stands before the first K line is not looked at
abbrev beyond_texts : List (Row (List ℕ))
beyond_texts =
    row "K:G#\nA" (128 ∷ 1 ∷ []) (21 ∷ 1 ∷ [])
    ∷ row "K:C\nA\nK:Fb\nA" (128 ∷ 1 ∷ []) (21 ∷ 3 ∷ [])
    ∷ row "K:C\nK:G#\nF" (128 ∷ 1 ∷ []) (21 ∷ 2 ∷ [])
    ∷ row "K:C\nA[K:C#lyd]B" (128 ∷ 1 ∷ []) (21 ∷ 2 ∷ [])
    ∷ row "V:1\nK:C\nA\nV:2\n[K:Eb loc]A" (128 ∷ 1 ∷ 128 ∷ 1 ∷ []) (21 ∷ 5 ∷ [])
    ∷ row "K:C\nA[K:C#lyd]B[33" (17 ∷ 2 ∷ []) (21 ∷ 2 ∷ [])
    ∷ row "K:C\nA[33B[K:C#lyd]" (17 ∷ 2 ∷ []) (17 ∷ 2 ∷ [])
    ∷ row "K:C\n[K:middle=B Fb]A" (10 ∷ 2 ∷ []) (10 ∷ 2 ∷ [])
    ∷ row "K:C\n[K:Fb middle=C]A" (10 ∷ 2 ∷ []) (21 ∷ 2 ∷ [])
    ∷ row "K:C\n[K:G# middle=B min]A" (10 ∷ 2 ∷ []) (10 ∷ 2 ∷ [])
    ∷ row "[K:Fb]A\nK:C\nA" (128 ∷ 1 ∷ []) (128 ∷ 1 ∷ [])
    ∷ row "K:C\nA|[K:Edor]A|\nK:G#m\nA" (128 ∷ 1 ∷ 128 ∷ 1 ∷ 133 ∷ 2 ∷ []) (128 ∷ 1 ∷ 130 ∷ 1 ∷ 133 ∷ 2 ∷ [])
    ∷ []

pub beyond_met : (ed : Edition) → map (λ (x : Row (List ℕ)). told key_marks (verdict_of ed x.text)) beyond_texts ≡ map (read_in ed) beyond_texts
unfolding all
beyond_met First = refl
beyond_met Second = refl

-- a byte above 127 (6) is told of the whole line before that
pub high_byte_first : (verdict_of Second (ascii "K:G#" ++ (195 ∷ 169 ∷ [])) ≡ refusal 6 1) × (verdict_of Second (ascii "K:C\n[K:G#]A" ++ (195 ∷ 169 ∷ [])) ≡ refusal 6 2)
unfolding all
high_byte_first = (refl, refl)

-- TUPLETS: actual, normal and boundary of each note
abbrev group_of : ℕ × Note → List ℕ
group_of x = x.1.group.actual ∷ x.1.group.normal ∷ x.1.group.boundary ∷ []

abbrev groups : List Part → List ℕ
groups ps = concat (map (λ (p : Part). concat (map group_of (notes_of p))) ps)

abbrev tuplets : List (Row (List ℕ))
tuplets =
    row "M:4/4\nK:C\n(2A" (2 ∷ 3 ∷ 1 ∷ []) (2 ∷ 3 ∷ 1 ∷ [])
    ∷ row "M:4/4\nK:C\n(3A" (3 ∷ 2 ∷ 1 ∷ []) (3 ∷ 2 ∷ 1 ∷ [])
    ∷ row "M:4/4\nK:C\n(4A" (4 ∷ 3 ∷ 1 ∷ []) (4 ∷ 3 ∷ 1 ∷ [])
    ∷ row "M:4/4\nK:C\n(5A" (5 ∷ 4 ∷ 1 ∷ []) (5 ∷ 2 ∷ 1 ∷ [])
    ∷ row "M:4/4\nK:C\n(6A" (6 ∷ 5 ∷ 1 ∷ []) (6 ∷ 2 ∷ 1 ∷ [])
    ∷ row "M:4/4\nK:C\n(7A" (7 ∷ 6 ∷ 1 ∷ []) (7 ∷ 2 ∷ 1 ∷ [])
    ∷ row "M:4/4\nK:C\n(8A" (8 ∷ 7 ∷ 1 ∷ []) (8 ∷ 3 ∷ 1 ∷ [])
    ∷ row "M:4/4\nK:C\n(9A" (9 ∷ 8 ∷ 1 ∷ []) (9 ∷ 2 ∷ 1 ∷ [])
    ∷ row "M:4/4\nK:C\n(10A" (10 ∷ 9 ∷ 1 ∷ []) (10 ∷ 9 ∷ 1 ∷ [])
    ∷ row "M:6/8\nK:C\n(2A" (2 ∷ 3 ∷ 1 ∷ []) (2 ∷ 3 ∷ 1 ∷ [])
    ∷ row "M:6/8\nK:C\n(3A" (3 ∷ 2 ∷ 1 ∷ []) (3 ∷ 2 ∷ 1 ∷ [])
    ∷ row "M:6/8\nK:C\n(4A" (4 ∷ 3 ∷ 1 ∷ []) (4 ∷ 3 ∷ 1 ∷ [])
    ∷ row "M:6/8\nK:C\n(5A" (5 ∷ 4 ∷ 1 ∷ []) (5 ∷ 3 ∷ 1 ∷ [])
    ∷ row "M:6/8\nK:C\n(6A" (6 ∷ 5 ∷ 1 ∷ []) (6 ∷ 2 ∷ 1 ∷ [])
    ∷ row "M:6/8\nK:C\n(7A" (7 ∷ 6 ∷ 1 ∷ []) (7 ∷ 3 ∷ 1 ∷ [])
    ∷ row "M:6/8\nK:C\n(8A" (8 ∷ 7 ∷ 1 ∷ []) (8 ∷ 3 ∷ 1 ∷ [])
    ∷ row "M:6/8\nK:C\n(9A" (9 ∷ 8 ∷ 1 ∷ []) (9 ∷ 3 ∷ 1 ∷ [])
    ∷ row "M:6/8\nK:C\n(10A" (10 ∷ 9 ∷ 1 ∷ []) (10 ∷ 9 ∷ 1 ∷ [])
    ∷ row "M:3/4\nK:C\n(5A" (5 ∷ 4 ∷ 1 ∷ []) (5 ∷ 2 ∷ 1 ∷ [])
    ∷ row "M:0/4\nK:C\n(5A" (5 ∷ 4 ∷ 1 ∷ []) (5 ∷ 2 ∷ 1 ∷ [])
    ∷ row "M:9/8\nK:C\n(7A" (7 ∷ 6 ∷ 1 ∷ []) (7 ∷ 3 ∷ 1 ∷ [])
    ∷ row "M:C|\nK:C\n(9A" (9 ∷ 8 ∷ 1 ∷ []) (9 ∷ 2 ∷ 1 ∷ [])
    ∷ row "M:6/8\nK:C\n[M:2/2](5A" (5 ∷ 4 ∷ 1 ∷ []) (5 ∷ 2 ∷ 1 ∷ [])
    ∷ row "K:C\n(5[M:6/8]AB" (5 ∷ 4 ∷ 1 ∷ 5 ∷ 4 ∷ 0 ∷ []) (5 ∷ 2 ∷ 1 ∷ 5 ∷ 2 ∷ 0 ∷ [])
    ∷ row "K:C\n(5A[M:6/8](5B" (5 ∷ 4 ∷ 1 ∷ 5 ∷ 4 ∷ 1 ∷ []) (5 ∷ 2 ∷ 1 ∷ 5 ∷ 3 ∷ 1 ∷ [])
    ∷ row "V:1\nV:2\nK:C\nV:2\nM:6/8\nA\nV:1\n(5B" (5 ∷ 4 ∷ 1 ∷ 0 ∷ 0 ∷ 0 ∷ []) (5 ∷ 3 ∷ 1 ∷ 0 ∷ 0 ∷ 0 ∷ [])
    ∷ row "K:C\n(3:2:A" (0 ∷ 0 ∷ 0 ∷ []) (3 ∷ 2 ∷ 1 ∷ [])
    ∷ row "K:C\n(3::1A" (0 ∷ 0 ∷ 0 ∷ []) (3 ∷ 2 ∷ 3 ∷ [])
    ∷ row "K:C\n(3:4:A" (0 ∷ 0 ∷ 0 ∷ []) (3 ∷ 4 ∷ 1 ∷ [])
    ∷ row "M:6/8\nK:C\n(9:A" (0 ∷ 0 ∷ 0 ∷ []) (9 ∷ 3 ∷ 1 ∷ [])
    ∷ row "K:C\n(6::2AB" (0 ∷ 0 ∷ 0 ∷ 0 ∷ 0 ∷ 0 ∷ []) (6 ∷ 2 ∷ 1 ∷ 6 ∷ 2 ∷ 2 ∷ [])
    ∷ row "K:C\n(8:A" (0 ∷ 0 ∷ 0 ∷ []) (8 ∷ 3 ∷ 1 ∷ [])
    ∷ row "K:C\n(10::A" (0 ∷ 0 ∷ 0 ∷ []) (10 ∷ 9 ∷ 1 ∷ [])
    ∷ row "K:C\n(2:A" (0 ∷ 0 ∷ 0 ∷ []) (2 ∷ 3 ∷ 1 ∷ [])
    ∷ row "M:6/8\nK:C\n(5::3ABc" (0 ∷ 0 ∷ 0 ∷ 0 ∷ 0 ∷ 0 ∷ 0 ∷ 0 ∷ 0 ∷ []) (5 ∷ 3 ∷ 1 ∷ 5 ∷ 3 ∷ 0 ∷ 5 ∷ 3 ∷ 2 ∷ [])
    ∷ row "M:6/8\nK:C\n(5:4:2AB" (5 ∷ 4 ∷ 1 ∷ 5 ∷ 4 ∷ 2 ∷ []) (5 ∷ 4 ∷ 1 ∷ 5 ∷ 4 ∷ 2 ∷ [])
    ∷ []

pub tuplets_read : (ed : Edition) → map (λ (x : Row (List ℕ)). told groups (verdict_of ed x.text)) tuplets ≡ map (read_in ed) tuplets
unfolding all
tuplets_read First = refl
tuplets_read Second = refl

-- an empty part's colon belongs to the tuplet; a part that is written and bad makes a slur start. Of each measure its barlines, and of each of its notes the flag 4 and the tuplet
abbrev barred : Measure → List ℕ
barred m = barline_code m.left ∷ barline_code m.right ∷ concat (map (λ (x : ℕ × Note). bit x.1.flags.slur_start 4 ∷ group_of x) (by_voice 0 m.voices))

abbrev colons : List (Row (List ℕ))
colons =
    row "K:C\n(3:A" (0 ∷ 0 ∷ 4 ∷ 0 ∷ 0 ∷ 0 ∷ []) (0 ∷ 0 ∷ 0 ∷ 3 ∷ 2 ∷ 1 ∷ [])
    ∷ row "K:C\n(3::A" (3 ∷ 0 ∷ 4 ∷ 0 ∷ 0 ∷ 0 ∷ []) (0 ∷ 0 ∷ 0 ∷ 3 ∷ 2 ∷ 1 ∷ [])
    ∷ row "K:C\n(3:|A" (0 ∷ 0 ∷ 4 ∷ 0 ∷ 0 ∷ 0 ∷ []) (0 ∷ 0 ∷ 0 ∷ 3 ∷ 2 ∷ 1 ∷ [])
    ∷ row "K:C\nc(3::A" (0 ∷ 3 ∷ 0 ∷ 0 ∷ 0 ∷ 0 ∷ 3 ∷ 0 ∷ 4 ∷ 0 ∷ 0 ∷ 0 ∷ []) (0 ∷ 0 ∷ 0 ∷ 0 ∷ 0 ∷ 0 ∷ 0 ∷ 3 ∷ 2 ∷ 1 ∷ [])
    ∷ row "K:C\nc(3:|A" (0 ∷ 2 ∷ 0 ∷ 0 ∷ 0 ∷ 0 ∷ 0 ∷ 0 ∷ 4 ∷ 0 ∷ 0 ∷ 0 ∷ []) (0 ∷ 0 ∷ 0 ∷ 0 ∷ 0 ∷ 0 ∷ 0 ∷ 0 ∷ 0 ∷ 3 ∷ 2 ∷ 1 ∷ [])
    ∷ row "K:C\n(3:0A" (0 ∷ 0 ∷ 4 ∷ 0 ∷ 0 ∷ 0 ∷ []) (0 ∷ 0 ∷ 4 ∷ 0 ∷ 0 ∷ 0 ∷ [])
    ∷ row "K:C\n(1A" (0 ∷ 0 ∷ 4 ∷ 0 ∷ 0 ∷ 0 ∷ []) (0 ∷ 0 ∷ 4 ∷ 0 ∷ 0 ∷ 0 ∷ [])
    ∷ row "K:C\n(256A" (0 ∷ 0 ∷ 4 ∷ 0 ∷ 0 ∷ 0 ∷ []) (0 ∷ 0 ∷ 4 ∷ 0 ∷ 0 ∷ 0 ∷ [])
    ∷ row "K:C\n(:2A" (0 ∷ 0 ∷ 4 ∷ 0 ∷ 0 ∷ 0 ∷ []) (0 ∷ 0 ∷ 4 ∷ 0 ∷ 0 ∷ 0 ∷ [])
    ∷ []

pub colons_read : (ed : Edition) → map (λ (x : Row (List ℕ)). told (λ (ps : List Part). concat (map (λ (p : Part). concat (map barred p.measures)) ps)) (verdict_of ed x.text)) colons ≡ map (read_in ed) colons
unfolding all
colons_read First = refl
colons_read Second = refl

-- LYRICS: each syllable's note, verse, extend and text
abbrev syllable_of : ℕ × Syllable → List ℕ
syllable_of x = x.0 ∷ x.1.verse ∷ elim x.1.extend as (λ _. ℕ) [ true ↦ 1 | false ↦ 0 ] ∷ x.1.text

abbrev sung_texts : List Part → List (List ℕ)
sung_texts ps = concat (map (λ (p : Part). map syllable_of (lyrics p)) ps)

abbrev told_words : Verdict → List (List ℕ)
told_words (refusal n l) = (n ∷ l ∷ []) ∷ []
told_words (reading ps) = sung_texts ps

abbrev on : ℕ → String → List ℕ
on i t = i ∷ 1 ∷ 0 ∷ ascii t

abbrev held_on : ℕ → String → List ℕ
held_on i t = i ∷ 1 ∷ 1 ∷ ascii t

abbrev lyric_texts : List (Row (List (List ℕ)))
lyric_texts =
    row "K:C\nAB|cd|z|e\nw:a | b" (on 0 "a" ∷ on 1 "b" ∷ []) (on 0 "a" ∷ on 2 "b" ∷ [])
    ∷ row "K:C\nAB|cd|z|e\nw:| a" (on 0 "a" ∷ []) (on 2 "a" ∷ [])
    ∷ row "K:C\nAB|cd|z|e\nw:a b | c" (on 0 "a" ∷ on 1 "b" ∷ on 2 "c" ∷ []) (on 0 "a" ∷ on 1 "b" ∷ on 2 "c" ∷ [])
    ∷ row "K:C\nAB|cd|z|e\nw:a b c | d" (on 0 "a" ∷ on 1 "b" ∷ on 2 "c" ∷ on 3 "d" ∷ []) (on 0 "a" ∷ on 1 "b" ∷ on 2 "c" ∷ on 5 "d" ∷ [])
    ∷ row "K:C\nAB|cd|z|e\nw:a | | b" (on 0 "a" ∷ on 1 "b" ∷ []) (on 0 "a" ∷ on 5 "b" ∷ [])
    ∷ row "K:C\nAB|cd|z|e\nw:* * * | x" (on 3 "x" ∷ []) (on 5 "x" ∷ [])
    ∷ row "K:C\nAB|cd|z|e\nw:a | | | b" (on 0 "a" ∷ on 1 "b" ∷ []) (on 0 "a" ∷ [])
    ∷ row "K:C\nAB|cd|z|e\nw:a _ _ | x" (held_on 0 "a" ∷ on 3 "x" ∷ []) (held_on 0 "a" ∷ on 5 "x" ∷ [])
    ∷ row "K:C\nAB|cd|z|e\nw:|a | b" (on 0 "|a" ∷ on 1 "b" ∷ []) (on 0 "|a" ∷ on 2 "b" ∷ [])
    ∷ row "K:C\nAB|cd|z|e\nw:a-| b" (on 0 "a" ∷ on 1 "|" ∷ on 2 "b" ∷ []) (on 0 "a" ∷ on 1 "|" ∷ on 2 "b" ∷ [])
    ∷ row "K:C\nAB|cd|z|e\nw:| _ b" (on 1 "b" ∷ []) (on 3 "b" ∷ [])
    ∷ row "K:C\nAB|c\nw:a|b" (on 0 "a|b" ∷ []) (on 0 "a|b" ∷ [])
    ∷ row "K:C\nAB|c\nw:a | _" (held_on 0 "a" ∷ []) (on 0 "a" ∷ [])
    ∷ row "K:C\nAB|c\nw:a b | _" (on 0 "a" ∷ held_on 1 "b" ∷ []) (on 0 "a" ∷ held_on 1 "b" ∷ [])
    ∷ row "K:C\nA\nw:a _" (held_on 0 "a" ∷ []) (held_on 0 "a" ∷ [])
    ∷ row "K:C\nA\nw:a | _" (held_on 0 "a" ∷ []) (on 0 "a" ∷ [])
    ∷ row "K:C\nA\nw:a b\nB" (on 0 "a" ∷ on 1 "b" ∷ []) (on 0 "a" ∷ on 1 "b" ∷ [])
    ∷ row "K:C\n{A}B\nw:a" (on 0 "a" ∷ []) (on 1 "a" ∷ [])
    ∷ row "K:C\nA|{B}z|c\nw:a | b" (on 0 "a" ∷ on 1 "b" ∷ []) (on 0 "a" ∷ on 3 "b" ∷ [])
    ∷ row "K:C\n{A}|B|c\nw:| a" (on 0 "a" ∷ []) (on 2 "a" ∷ [])
    ∷ row "K:C\nA{B}c|d\nw:a - | e" (on 0 "a" ∷ on 2 "e" ∷ []) (on 0 "a" ∷ on 3 "e" ∷ [])
    ∷ row "K:C\nA{B}c\nw:a _ b" (held_on 0 "a" ∷ on 2 "b" ∷ []) (held_on 0 "a" ∷ [])
    ∷ row "K:C\nA|B\nc|d\nw:| a" (on 2 "a" ∷ []) (on 3 "a" ∷ [])
    ∷ []

pub lyrics_read : (ed : Edition) → map (λ (x : Row (List (List ℕ))). told_words (verdict_of ed x.text)) lyric_texts ≡ map (read_in ed) lyric_texts
unfolding all
lyrics_read First = refl
lyrics_read Second = refl

-- THE HEADER'S KEY: what the notes are altered by, 128 added
abbrev alters_of : List Part → List ℕ
alters_of ps = concat (map (λ (p : Part). map (λ (x : Pitch). x.alter) (pitches_of p)) ps)

abbrev headers : List (Row (List ℕ))
headers =
    row "V:1\nV:2\nK:D\nV:1\nF\nV:2\nF\nV:3\nF" (128 ∷ 129 ∷ 129 ∷ []) (129 ∷ 129 ∷ 129 ∷ [])
    ∷ row "K:C\nK:G\nF" (128 ∷ []) (128 ∷ [])
    ∷ row "V:1\nV:2\nK:D\nV:1\nK:G\nc" (129 ∷ []) (129 ∷ [])
    ∷ row "V:1\nV:2\nK:D\nV:1\nf|\nK:G\nfc" (128 ∷ 129 ∷ 128 ∷ []) (129 ∷ 129 ∷ 128 ∷ [])
    ∷ row "V:1\nV:2\nK:Edor\nV:1\nc" (128 ∷ []) (129 ∷ [])
    ∷ []

pub header_key_lem : (ed : Edition) → map (λ (x : Row (List ℕ)). told alters_of (verdict_of ed x.text)) headers ≡ map (read_in ed) headers
unfolding all
header_key_lem First = refl
header_key_lem Second = refl
