-- THE DEMAND AT WORK on three texts in both editions, through the whole reader: nothing that it asks is beyond reach. The suppositions are computed, both halves are the theorem's.
use Prim.Native.Nat.{ℕ}
use mathlib.Core.Path.{◌≡◌, refl, sym, ap, subst, ◌∙◌}
use mathlib.Core.Logic.{⊎_elim}
use mathlib.Core.Bool.{true, false, false≢true}
use mathlib.Core.Option.{Option, none, some}
use mathlib.Core.List.{List, [], ◌∷◌, map}
use Rattle.laws.specs.Lists.{elem}
use Rattle.standard.specs.Bytes.{ascii}
use Rattle.standard.specs.Pitches.{Pitch}
use Rattle.editions.specs.declared.Edition.{Edition}
use Rattle.editions.specs.declared.Edition.TheVariants.{First, Second}
use Rattle.reader.specs.Text.{text_lines}
use Rattle.reader.specs.Steps.{TextLine, refuse, on, items_of}
use Rattle.reader.specs.Scan.{Item, voice_declared, reset, lyric_line, Out, scan}
use Rattle.reader.specs.State.{Note}
use Rattle.reader.specs.Lyrics.{Syllable}
use Rattle.reader.specs.Part.{Part, empty_part}
use Rattle.reader.specs.Codes.{bit}
use Rattle.reader.specs.Records.{notes_of, pitches_of, lyrics}
use Rattle.reader.specs.Tally.{Counts, counts_of}
use Rattle.reader.specs.Answer.{parse_abc}
use Rattle.reader.specs.All.{all}
use Rattle.blocks.specs.Blocks.{blocks, rebuilt}
use Rattle.blocks.specs.Frame.{LyricsAfterMusic}
use Rattle.blocks.specs.Demand.{Accepted, part_in, only_part, only_voice, lines_at, voices, Moved, Hypotheses, part_of}
use Rattle.blocks.proofs.Instance.{reader}
use Rattle.blocks.proofs.Moves.{Swaps, swap, later}
use Rattle.blocks.proofs.Words.{swaps_moved}
use Rattle.blocks.proofs.Tests.{meant_test}
use Rattle.blocks.proofs.Demand.{demand_3, by_name}

-- the two halves, for a text whose blocks and whose other texts are computed
pub exchange : (ed : Edition) (t : List ℕ) (rl sl : ℕ) → Hypotheses ed t rl sl → (old new : List (List TextLine)) → blocks t ≡ old → Swaps (reader ed) old new → (t' : List ℕ) → rebuilt t new ≡ t'
    → parse_abc ed t' rl sl ≡ parse_abc ed t rl sl
exchange ed t rl sl m old new b s t' e =
    ap (λ (x : List ℕ). parse_abc ed x rl sl) (sym e) ∙ (demand_3 ed t rl sl m).moved new (subst (λ (l : List (List TextLine)). Moved l new) (sym b) (swaps_moved ed s))

pub lone : (ed : Edition) (t : List ℕ) (rl sl : ℕ) → Hypotheses ed t rl sl → (p : ℕ) (t' : List ℕ) → only_part ed t p ≡ t' → (rl' sl' : ℕ) → Accepted (parse_abc ed t' rl' sl')
    → part_in (parse_abc ed t rl sl).verdict p ≡ part_in (parse_abc ed t' rl' sl').verdict p
lone ed t rl sl m p t' e rl' sl' =
    subst (λ (x : List ℕ). Accepted (parse_abc ed x rl' sl') → part_in (parse_abc ed t rl sl).verdict p ≡ part_in (parse_abc ed x rl' sl').verdict p) e ((demand_3 ed t rl sl m).apart p rl' sl')

-- what a part counts in the tally
abbrev counted : Option Part → Option Counts
counted none = none
counted (some x) = some (counts_of x)

-- TWO VOICES WITH LYRICS, and music before the first block, which is voice 2's
abbrev tune : List ℕ
tune = ascii "V:1\nV:2\nL:1/8\nM:3/4\nK:G\nz2|\nV:1\nFA|c2|\nw: one two three\nV:2 % low\nGB d>c|[GB]4|]\nw: oh_ oh\nV:1\nA2 B|]\nw: four five\n"

abbrev one : List TextLine
one = ascii "V:1\n" ∷ ascii "FA|c2|\n" ∷ ascii "w: one two three\n" ∷ []

abbrev two : List TextLine
two = ascii "V:2 % low\n" ∷ ascii "GB d>c|[GB]4|]\n" ∷ ascii "w: oh_ oh\n" ∷ []

abbrev three : List TextLine
three = ascii "V:1\n" ∷ ascii "A2 B|]\n" ∷ ascii "w: four five\n" ∷ []

tune_blocks : blocks tune ≡ one ∷ two ∷ three ∷ []
unfolding all
tune_blocks = refl

-- with a reading store of 600 bytes and a scratch store of 12,000
tune_meant : (ed : Edition) → Hypotheses ed tune 600 12000
unfolding all
tune_meant First = meant_test First 2 tune 600 12000 tt refl refl refl refl refl
tune_meant Second = meant_test Second 2 tune 600 12000 tt refl refl refl refl refl

-- FIRST HALF: voice 2's block first, or last, and the same answer with the same bytes in both stores
two_first : (ed : Edition) → Swaps (reader ed) (one ∷ two ∷ three ∷ []) (two ∷ one ∷ three ∷ [])
unfolding all
two_first ed = swap refl

two_first_text : rebuilt tune (two ∷ one ∷ three ∷ []) ≡ ascii "V:1\nV:2\nL:1/8\nM:3/4\nK:G\nz2|\nV:2 % low\nGB d>c|[GB]4|]\nw: oh_ oh\nV:1\nFA|c2|\nw: one two three\nV:1\nA2 B|]\nw: four five\n"
unfolding all
two_first_text = refl

pub two_first_same :
    (ed : Edition) → parse_abc ed (ascii "V:1\nV:2\nL:1/8\nM:3/4\nK:G\nz2|\nV:2 % low\nGB d>c|[GB]4|]\nw: oh_ oh\nV:1\nFA|c2|\nw: one two three\nV:1\nA2 B|]\nw: four five\n") 600 12000
    ≡ parse_abc ed tune 600 12000
two_first_same ed = exchange ed tune 600 12000 (tune_meant ed) (one ∷ two ∷ three ∷ []) (two ∷ one ∷ three ∷ []) tune_blocks (two_first ed) _ two_first_text

two_last : (ed : Edition) → Swaps (reader ed) (one ∷ two ∷ three ∷ []) (one ∷ three ∷ two ∷ [])
unfolding all
two_last ed = later (swap refl)

two_last_text : rebuilt tune (one ∷ three ∷ two ∷ []) ≡ ascii "V:1\nV:2\nL:1/8\nM:3/4\nK:G\nz2|\nV:1\nFA|c2|\nw: one two three\nV:1\nA2 B|]\nw: four five\nV:2 % low\nGB d>c|[GB]4|]\nw: oh_ oh\n"
unfolding all
two_last_text = refl

pub two_last_same :
    (ed : Edition) → parse_abc ed (ascii "V:1\nV:2\nL:1/8\nM:3/4\nK:G\nz2|\nV:1\nFA|c2|\nw: one two three\nV:1\nA2 B|]\nw: four five\nV:2 % low\nGB d>c|[GB]4|]\nw: oh_ oh\n") 600 12000
    ≡ parse_abc ed tune 600 12000
two_last_same ed = exchange ed tune 600 12000 (tune_meant ed) (one ∷ two ∷ three ∷ []) (one ∷ three ∷ two ∷ []) tune_blocks (two_last ed) _ two_last_text

-- SECOND HALF: each voice's part as it is read without the other's blocks, with stores of other lengths
one_text : (ed : Edition) → only_part ed tune 0 ≡ ascii "V:1\nV:2\nL:1/8\nM:3/4\nK:G\nz2|\nV:1\nFA|c2|\nw: one two three\nV:1\nA2 B|]\nw: four five\n"
unfolding all
one_text First = refl
one_text Second = refl

one_read : (ed : Edition) → Accepted (parse_abc ed (ascii "V:1\nV:2\nL:1/8\nM:3/4\nK:G\nz2|\nV:1\nFA|c2|\nw: one two three\nV:1\nA2 B|]\nw: four five\n") 500 11000)
unfolding all
one_read First = tt
one_read Second = tt

pub one_alone :
    (ed : Edition) → part_in (parse_abc ed tune 600 12000).verdict 0
    ≡ part_in (parse_abc ed (ascii "V:1\nV:2\nL:1/8\nM:3/4\nK:G\nz2|\nV:1\nFA|c2|\nw: one two three\nV:1\nA2 B|]\nw: four five\n") 500 11000).verdict 0
one_alone ed = lone ed tune 600 12000 (tune_meant ed) 0 _ (one_text ed) 500 11000 (one_read ed)

two_text : (ed : Edition) → only_part ed tune 1 ≡ ascii "V:1\nV:2\nL:1/8\nM:3/4\nK:G\nz2|\nV:2 % low\nGB d>c|[GB]4|]\nw: oh_ oh\n"
unfolding all
two_text First = refl
two_text Second = refl

two_read : (ed : Edition) → Accepted (parse_abc ed (ascii "V:1\nV:2\nL:1/8\nM:3/4\nK:G\nz2|\nV:2 % low\nGB d>c|[GB]4|]\nw: oh_ oh\n") 500 11000)
unfolding all
two_read First = tt
two_read Second = tt

pub two_alone :
    (ed : Edition) → part_in (parse_abc ed tune 600 12000).verdict 1
    ≡ part_in (parse_abc ed (ascii "V:1\nV:2\nL:1/8\nM:3/4\nK:G\nz2|\nV:2 % low\nGB d>c|[GB]4|]\nw: oh_ oh\n") 500 11000).verdict 1
two_alone ed = lone ed tune 600 12000 (tune_meant ed) 1 _ (two_text ed) 500 11000 (two_read ed)

-- by name
two_known : (ed : Edition) → elem (ascii "2") (voices ed tune) ≡ true
unfolding all
two_known First = refl
two_known Second = refl

two_only : (ed : Edition) → Accepted (parse_abc ed (only_voice tune (ascii "2")) 500 11000)
unfolding all
two_only First = tt
two_only Second = tt

pub two_by_name : (ed : Edition) → part_of ed tune 600 12000 (ascii "2") ≡ part_of ed (only_voice tune (ascii "2")) 500 11000 (ascii "2")
two_by_name ed = by_name ed tune 600 12000 (tune_meant ed) (ascii "2") (two_known ed) 500 11000 (two_only ed)

-- and what the parts are
tune_parts : (ed : Edition) → map counted (part_in (parse_abc ed tune 600 12000).verdict 0 ∷ part_in (parse_abc ed tune 600 12000).verdict 1 ∷ [])
    ≡ some (record { measures = 3; sounded = 5; rests = 0; syllables = 5 }) ∷ some (record { measures = 3; sounded = 5; rests = 1; syllables = 2 }) ∷ []
unfolding all
tune_parts First = refl
tune_parts Second = refl

-- WHAT THE SECOND EDITION READS OTHERWISE, in blocks that move: a mode in the header, which holds for both voices, and inline; `(5` and `(7` in 9/8, so in the time of 3; slashes; graces; lyric bars
abbrev modal : List ℕ
modal = ascii "V:1\nV:2\nM:9/8\nK:Edor\nV:1\n(5ABcde|{f}g//|a\nw: one | two | three\nV:2 % low\n[K:G mix]{A}B c///|(7DEFGABc|d\nw: oh hm | _ ah\nV:1\nA{B}c|d|]\nw: | last\n"

abbrev high : List TextLine
high = ascii "V:1\n" ∷ ascii "(5ABcde|{f}g//|a\n" ∷ ascii "w: one | two | three\n" ∷ []

abbrev low : List TextLine
low = ascii "V:2 % low\n" ∷ ascii "[K:G mix]{A}B c///|(7DEFGABc|d\n" ∷ ascii "w: oh hm | _ ah\n" ∷ []

abbrev closing : List TextLine
closing = ascii "V:1\n" ∷ ascii "A{B}c|d|]\n" ∷ ascii "w: | last\n" ∷ []

modal_blocks : blocks modal ≡ high ∷ low ∷ closing ∷ []
unfolding all
modal_blocks = refl

-- with a reading store of 1,000 bytes and a scratch store of 14,000
modal_meant : (ed : Edition) → Hypotheses ed modal 1000 14000
unfolding all
modal_meant First = meant_test First 2 modal 1000 14000 tt refl refl refl refl refl
modal_meant Second = meant_test Second 2 modal 1000 14000 tt refl refl refl refl refl

-- voice 2's block first, or last
abbrev modal_low_first : List ℕ
modal_low_first = ascii "V:1\nV:2\nM:9/8\nK:Edor\nV:2 % low\n[K:G mix]{A}B c///|(7DEFGABc|d\nw: oh hm | _ ah\nV:1\n(5ABcde|{f}g//|a\nw: one | two | three\nV:1\nA{B}c|d|]\nw: | last\n"

abbrev modal_low_last : List ℕ
modal_low_last = ascii "V:1\nV:2\nM:9/8\nK:Edor\nV:1\n(5ABcde|{f}g//|a\nw: one | two | three\nV:1\nA{B}c|d|]\nw: | last\nV:2 % low\n[K:G mix]{A}B c///|(7DEFGABc|d\nw: oh hm | _ ah\n"

low_first : (ed : Edition) → Swaps (reader ed) (high ∷ low ∷ closing ∷ []) (low ∷ high ∷ closing ∷ [])
unfolding all
low_first ed = swap refl

low_last : (ed : Edition) → Swaps (reader ed) (high ∷ low ∷ closing ∷ []) (high ∷ closing ∷ low ∷ [])
unfolding all
low_last ed = later (swap refl)

low_first_text : rebuilt modal (low ∷ high ∷ closing ∷ []) ≡ modal_low_first
unfolding all
low_first_text = refl

low_last_text : rebuilt modal (high ∷ closing ∷ low ∷ []) ≡ modal_low_last
unfolding all
low_last_text = refl

pub low_first_same : (ed : Edition) → parse_abc ed modal_low_first 1000 14000 ≡ parse_abc ed modal 1000 14000
low_first_same ed = exchange ed modal 1000 14000 (modal_meant ed) (high ∷ low ∷ closing ∷ []) (low ∷ high ∷ closing ∷ []) modal_blocks (low_first ed) modal_low_first low_first_text

pub low_last_same : (ed : Edition) → parse_abc ed modal_low_last 1000 14000 ≡ parse_abc ed modal 1000 14000
low_last_same ed = exchange ed modal 1000 14000 (modal_meant ed) (high ∷ low ∷ closing ∷ []) (high ∷ closing ∷ low ∷ []) modal_blocks (low_last ed) modal_low_last low_last_text

-- each voice's part without the other's blocks
high_text : (ed : Edition) → only_part ed modal 0 ≡ ascii "V:1\nV:2\nM:9/8\nK:Edor\nV:1\n(5ABcde|{f}g//|a\nw: one | two | three\nV:1\nA{B}c|d|]\nw: | last\n"
unfolding all
high_text First = refl
high_text Second = refl

high_read : (ed : Edition) → Accepted (parse_abc ed (ascii "V:1\nV:2\nM:9/8\nK:Edor\nV:1\n(5ABcde|{f}g//|a\nw: one | two | three\nV:1\nA{B}c|d|]\nw: | last\n") 900 13000)
unfolding all
high_read First = tt
high_read Second = tt

pub high_alone :
    (ed : Edition) → part_in (parse_abc ed modal 1000 14000).verdict 0
    ≡ part_in (parse_abc ed (ascii "V:1\nV:2\nM:9/8\nK:Edor\nV:1\n(5ABcde|{f}g//|a\nw: one | two | three\nV:1\nA{B}c|d|]\nw: | last\n") 900 13000).verdict 0
high_alone ed = lone ed modal 1000 14000 (modal_meant ed) 0 _ (high_text ed) 900 13000 (high_read ed)

low_text : (ed : Edition) → only_part ed modal 1 ≡ ascii "V:1\nV:2\nM:9/8\nK:Edor\nV:2 % low\n[K:G mix]{A}B c///|(7DEFGABc|d\nw: oh hm | _ ah\n"
unfolding all
low_text First = refl
low_text Second = refl

low_read : (ed : Edition) → Accepted (parse_abc ed (ascii "V:1\nV:2\nM:9/8\nK:Edor\nV:2 % low\n[K:G mix]{A}B c///|(7DEFGABc|d\nw: oh hm | _ ah\n") 900 13000)
unfolding all
low_read First = tt
low_read Second = tt

pub low_alone :
    (ed : Edition) → part_in (parse_abc ed modal 1000 14000).verdict 1
    ≡ part_in (parse_abc ed (ascii "V:1\nV:2\nM:9/8\nK:Edor\nV:2 % low\n[K:G mix]{A}B c///|(7DEFGABc|d\nw: oh hm | _ ah\n") 900 13000).verdict 1
low_alone ed = lone ed modal 1000 14000 (modal_meant ed) 1 _ (low_text ed) 900 13000 (low_read ed)

-- what the parts are, each text read by itself: how a pitch is altered (128 added), the normal of each note's tuplet, each note's value, and each syllable with its note and its extend
abbrev syllable_of : ℕ × Syllable → List ℕ
syllable_of x = x.0 ∷ bit x.1.extend 1 ∷ x.1.text

abbrev heard : Option Part → List (List ℕ)
heard none = []
heard (some p) =
    map (λ (x : Pitch). x.alter) (pitches_of p) ∷ map (λ (x : ℕ × Note). x.1.group.normal) (notes_of p) ∷ map (λ (x : ℕ × Note). x.1.value) (notes_of p) ∷ map syllable_of (lyrics p)

abbrev both_heard : Edition → List ℕ → List (List (List ℕ))
both_heard ed text = let v = (parse_abc ed text 1000 14000).verdict in heard (part_in v 0) ∷ heard (part_in v 1) ∷ []

-- in the first edition voice 1 is in C major, `(5` goes in 4 and `(7` in 6, the later slashes are skipped, graces are sung, and bars are passed over
abbrev modal_parts : Edition → List (List (List ℕ))
modal_parts First =
    (
    (128 ∷ 128 ∷ 128 ∷ 128 ∷ 128 ∷ 128 ∷ 128 ∷ 128 ∷ 128 ∷ 128 ∷ 128 ∷ 128 ∷ [])
    ∷ (4 ∷ 4 ∷ 4 ∷ 4 ∷ 4 ∷ 0 ∷ 0 ∷ 0 ∷ 0 ∷ 0 ∷ 0 ∷ 0 ∷ [])
    ∷ (5 ∷ 5 ∷ 5 ∷ 5 ∷ 5 ∷ 5 ∷ 6 ∷ 5 ∷ 5 ∷ 5 ∷ 5 ∷ 5 ∷ [])
    ∷ (0 ∷ 0 ∷ ascii "one")
    ∷ (1 ∷ 0 ∷ ascii "two")
    ∷ (2 ∷ 0 ∷ ascii "three")
    ∷ (8 ∷ 0 ∷ ascii "last")
    ∷ [])
    ∷ (
    (128 ∷ 128 ∷ 128 ∷ 128 ∷ 128 ∷ 128 ∷ 128 ∷ 128 ∷ 128 ∷ 128 ∷ 128 ∷ [])
    ∷ (0 ∷ 0 ∷ 0 ∷ 6 ∷ 6 ∷ 6 ∷ 6 ∷ 6 ∷ 6 ∷ 6 ∷ 0 ∷ [])
    ∷ (5 ∷ 5 ∷ 6 ∷ 5 ∷ 5 ∷ 5 ∷ 5 ∷ 5 ∷ 5 ∷ 5 ∷ 5 ∷ [])
    ∷ (0 ∷ 0 ∷ ascii "oh")
    ∷ (1 ∷ 1 ∷ ascii "hm")
    ∷ (3 ∷ 0 ∷ ascii "ah")
    ∷ [])
    ∷ []
modal_parts Second =
    (
    (128 ∷ 128 ∷ 129 ∷ 128 ∷ 128 ∷ 129 ∷ 128 ∷ 128 ∷ 128 ∷ 128 ∷ 129 ∷ 128 ∷ [])
    ∷ (3 ∷ 3 ∷ 3 ∷ 3 ∷ 3 ∷ 0 ∷ 0 ∷ 0 ∷ 0 ∷ 0 ∷ 0 ∷ 0 ∷ [])
    ∷ (5 ∷ 5 ∷ 5 ∷ 5 ∷ 5 ∷ 5 ∷ 7 ∷ 5 ∷ 5 ∷ 5 ∷ 5 ∷ 5 ∷ [])
    ∷ (0 ∷ 0 ∷ ascii "one")
    ∷ (6 ∷ 0 ∷ ascii "two")
    ∷ (7 ∷ 0 ∷ ascii "three")
    ∷ (11 ∷ 0 ∷ ascii "last")
    ∷ [])
    ∷ (
    (128 ∷ 128 ∷ 128 ∷ 128 ∷ 128 ∷ 128 ∷ 128 ∷ 128 ∷ 128 ∷ 128 ∷ 128 ∷ [])
    ∷ (0 ∷ 0 ∷ 0 ∷ 3 ∷ 3 ∷ 3 ∷ 3 ∷ 3 ∷ 3 ∷ 3 ∷ 0 ∷ [])
    ∷ (5 ∷ 5 ∷ 8 ∷ 5 ∷ 5 ∷ 5 ∷ 5 ∷ 5 ∷ 5 ∷ 5 ∷ 5 ∷ [])
    ∷ (1 ∷ 0 ∷ ascii "oh")
    ∷ (2 ∷ 1 ∷ ascii "hm")
    ∷ (4 ∷ 0 ∷ ascii "ah")
    ∷ [])
    ∷ []

pub modal_parts_lem : (ed : Edition) → map (both_heard ed) (modal ∷ modal_low_first ∷ modal_low_last ∷ []) ≡ modal_parts ed ∷ modal_parts ed ∷ modal_parts ed ∷ []
unfolding all
modal_parts_lem First = refl
modal_parts_lem Second = refl

-- A VOICE WITH A LYRIC LINE AND NO MUSIC LINE: the condition, read literally, asks nothing of it
abbrev pub hymn : List ℕ
hymn = ascii "V:1\nV:2\nK:\nV:1\nw:\nV:2\nA\n"

abbrev words : List TextLine
words = ascii "V:1\n" ∷ ascii "w:\n" ∷ []

abbrev sound : List TextLine
sound = ascii "V:2\n" ∷ ascii "A\n" ∷ []

abbrev pub hymn' : List ℕ
hymn' = ascii "V:1\nV:2\nK:\nV:2\nA\nV:1\nw:\n"

hymn_blocks : blocks hymn ≡ words ∷ sound ∷ []
unfolding all
hymn_blocks = refl

pub hymn_meant : (ed : Edition) → Hypotheses ed hymn 100 10000
unfolding all
hymn_meant First = meant_test First 2 hymn 100 10000 tt refl refl refl refl refl
hymn_meant Second = meant_test Second 2 hymn 100 10000 tt refl refl refl refl refl

sound_first : (ed : Edition) → Swaps (reader ed) (words ∷ sound ∷ []) (sound ∷ words ∷ [])
unfolding all
sound_first ed = swap refl

hymn_text : rebuilt hymn (sound ∷ words ∷ []) ≡ hymn'
unfolding all
hymn_text = refl

pub hymn_same : (ed : Edition) → parse_abc ed hymn' 100 10000 ≡ parse_abc ed hymn 100 10000
hymn_same ed = exchange ed hymn 100 10000 (hymn_meant ed) (words ∷ sound ∷ []) (sound ∷ words ∷ []) hymn_blocks (sound_first ed) hymn' hymn_text

sound_text : (ed : Edition) → only_part ed hymn 1 ≡ ascii "V:1\nV:2\nK:\nV:2\nA\n"
unfolding all
sound_text First = refl
sound_text Second = refl

sound_read : (ed : Edition) → Accepted (parse_abc ed (ascii "V:1\nV:2\nK:\nV:2\nA\n") 90 9900)
unfolding all
sound_read First = tt
sound_read Second = tt

pub sound_alone : (ed : Edition) → part_in (parse_abc ed hymn 100 10000).verdict 1 ≡ part_in (parse_abc ed (ascii "V:1\nV:2\nK:\nV:2\nA\n") 90 9900).verdict 1
sound_alone ed = lone ed hymn 100 10000 (hymn_meant ed) 1 _ (sound_text ed) 90 9900 (sound_read ed)

-- although voice 1's lyric line has no music line before it, so that a condition that asks for one leaves this text out,
pub hymn_not_sung : (ed : Edition) → LyricsAfterMusic (reader ed) ⊥ (lines_at ed hymn 0) → ⊥
unfolding all
hymn_not_sung First h = ⊎_elim (λ x. x) (λ x. false≢true x) (h.1.0 refl)
hymn_not_sung Second h = ⊎_elim (λ x. x) (λ x. false≢true x) (h.1.0 refl)

-- and although its items differ in the flag that says whether the part has a place for verses
abbrev items_for : Out → ℕ → List Item
items_for (refuse n l) p = []
items_for (on s a) p = items_of p a

pub hymn_items : (ed : Edition) → items_for (scan ed (text_lines hymn)) 0 ≡ voice_declared true ∷ reset ∷ reset ∷ lyric_line false [] ∷ []
unfolding all
hymn_items First = refl
hymn_items Second = refl

pub hymn_items_moved : (ed : Edition) → items_for (scan ed (text_lines hymn')) 0 ≡ voice_declared true ∷ reset ∷ reset ∷ lyric_line true [] ∷ []
unfolding all
hymn_items_moved First = refl
hymn_items_moved Second = refl

-- its part is empty either way
pub hymn_part : (ed : Edition) → part_in (parse_abc ed hymn 100 10000).verdict 0 ≡ some empty_part
unfolding all
hymn_part First = refl
hymn_part Second = refl

pub hymn_part_moved : (ed : Edition) → part_in (parse_abc ed hymn' 100 10000).verdict 0 ≡ some empty_part
unfolding all
hymn_part_moved First = refl
hymn_part_moved Second = refl
