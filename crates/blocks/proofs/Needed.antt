-- NONE OF THE SUPPOSITIONS CAN BE LEFT OUT, IN EITHER EDITION: for each a text and an order of its blocks for which all the others hold, and whose answers differ. Computed, through the
-- whole reader, in both editions; where both texts are accepted the Rust answers unlike too.
use Prim.Native.Nat.{ℕ}
use mathlib.Core.Path.{◌≡◌, refl, sym, ap, subst, ◌∙◌}
use mathlib.Core.Bool.{true, false}
use mathlib.Core.Option.{Option, none, some}
use mathlib.Core.List.{List, [], ◌∷◌}
use native.Mathlib.Omega.{arith}
use lib.Dec.{eqb}
use Rattle.laws.specs.Lists.{All, eq_text, index_of}
use Rattle.laws.specs.Orders.{Perm, nothing, more, here, there as further}
use Rattle.laws.proofs.Bools.{both_true}
use Rattle.laws.proofs.Lists.{All-filter, eq_text_same}
use Rattle.standard.specs.Bytes.{ascii}
use Rattle.editions.specs.declared.Edition.{Edition}
use Rattle.editions.specs.declared.Edition.TheVariants.{First, Second}
use Rattle.reader.specs.Lines.{kind_of}
use Rattle.reader.specs.Steps.{TextLine}
use Rattle.reader.specs.Part.{Part}
use Rattle.reader.specs.Answer.{Verdict, refusal, reading, parse_abc}
use Rattle.reader.specs.All.{all}
use Rattle.blocks.specs.Blocks.{blocks, rebuilt, ends_lf}
use Rattle.blocks.specs.Kinds.{unit_after}
use Rattle.blocks.specs.Demand.{Accepted, Moved, voice_of, state_at_blocks, blocks_at, LyricsBehind, part_in, only_part, Hypotheses}
use Rattle.blocks.proofs.Instance.{reader}
use Rattle.blocks.proofs.Moves.{Swaps, swap, later, twice}
use Rattle.blocks.proofs.Words.{swaps_moved, test_lyrics}
use Rattle.blocks.proofs.Tests.{Known, QuietL, QuietM, Behind, known_test, quiet_l_test, quiet_m_test, behind_test, meant_test}
use Rattle.blocks.proofs.Example.{hymn, hymn'}

-- two texts whose readings differ in some byte; stores of 200 and 10,000 bytes
abbrev pub Differ : Edition → List ℕ → List ℕ → Type 0
Differ ed s t = (parse_abc ed s 200 10000).reading ≡ (parse_abc ed t 200 10000).reading → ⊥

differ : (ed : Edition) (s t : List ℕ) → eq_text (parse_abc ed s 200 10000).reading (parse_abc ed t 200 10000).reading ≡ false → Differ ed s t
differ ed s t h e =
    both_true (eq_text (parse_abc ed s 200 10000).reading (parse_abc ed t 200 10000).reading)
    (ap (λ (x : List ℕ). eq_text x (parse_abc ed t 200 10000).reading) e ∙ eq_text_same (parse_abc ed t 200 10000).reading) h

-- an order of a text's blocks
moved_to : (ed : Edition) (t : List ℕ) (old new : List (List TextLine)) → blocks t ≡ old → Swaps (reader ed) old new → Moved (blocks t) new
moved_to ed t old new b s = subst (λ (l : List (List TextLine)). Moved l new) (sym b) (swaps_moved ed s)

-- A LYRIC LINE BEFORE ITS VOICE'S FIRST MUSIC LINE: after voice 2's music line verses 1 and 2, before it verse 1 twice
abbrev pub lyric_first : List ℕ
lyric_first = ascii "V:1\nV:2\nK:\nV:2\n|\nV:1\nw:a\nw:b\nD\n"

abbrev lyric_first_blocks : List (List TextLine)
lyric_first_blocks = (ascii "V:2\n" ∷ ascii "|\n" ∷ []) ∷ (ascii "V:1\n" ∷ ascii "w:a\n" ∷ ascii "w:b\n" ∷ ascii "D\n" ∷ []) ∷ []

abbrev pub lyric_first_moved : List (List TextLine)
lyric_first_moved = (ascii "V:1\n" ∷ ascii "w:a\n" ∷ ascii "w:b\n" ∷ ascii "D\n" ∷ []) ∷ (ascii "V:2\n" ∷ ascii "|\n" ∷ []) ∷ []

lyric_first_are : blocks lyric_first ≡ lyric_first_blocks
unfolding all
lyric_first_are = refl

lyric_first_swaps : (ed : Edition) → Swaps (reader ed) lyric_first_blocks lyric_first_moved
unfolding all
lyric_first_swaps ed = swap refl

pub lyric_first_else : (ed : Edition) → Accepted (parse_abc ed lyric_first 200 10000) × (ends_lf lyric_first ≡ true) × Known lyric_first × QuietL ed lyric_first × QuietM ed lyric_first × Moved (blocks lyric_first) lyric_first_moved
unfolding all
lyric_first_else First = (tt, refl, known_test lyric_first refl, quiet_l_test First lyric_first refl, quiet_m_test First lyric_first refl, moved_to First lyric_first lyric_first_blocks lyric_first_moved lyric_first_are (lyric_first_swaps First))
lyric_first_else Second = (tt, refl, known_test lyric_first refl, quiet_l_test Second lyric_first refl, quiet_m_test Second lyric_first refl, moved_to Second lyric_first lyric_first_blocks lyric_first_moved lyric_first_are (lyric_first_swaps Second))

pub lyrics_needed : (ed : Edition) → Differ ed lyric_first (rebuilt lyric_first lyric_first_moved)
unfolding all
lyrics_needed First = differ First lyric_first (rebuilt lyric_first lyric_first_moved) refl
lyrics_needed Second = differ Second lyric_first (rebuilt lyric_first lyric_first_moved) refl

-- the same where no block by itself has a lyric line before its first music line, but the voice has: the condition must go voice by voice
abbrev pub by_block : List ℕ
by_block = ascii "V:1\nV:2\nK:\nV:1\nw:a\nw:b\nV:1\nA\nV:2\nB\n"

abbrev by_block_blocks : List (List TextLine)
by_block_blocks = (ascii "V:1\n" ∷ ascii "w:a\n" ∷ ascii "w:b\n" ∷ []) ∷ (ascii "V:1\n" ∷ ascii "A\n" ∷ []) ∷ (ascii "V:2\n" ∷ ascii "B\n" ∷ []) ∷ []

abbrev pub by_block_moved : List (List TextLine)
by_block_moved = (ascii "V:2\n" ∷ ascii "B\n" ∷ []) ∷ (ascii "V:1\n" ∷ ascii "w:a\n" ∷ ascii "w:b\n" ∷ []) ∷ (ascii "V:1\n" ∷ ascii "A\n" ∷ []) ∷ []

by_block_are : blocks by_block ≡ by_block_blocks
unfolding all
by_block_are = refl

by_block_swaps : (ed : Edition) → Swaps (reader ed) by_block_blocks by_block_moved
unfolding all
by_block_swaps ed = twice (later (swap refl)) (swap refl)

by_block_each : (ed : Edition) (p : ℕ) → All (LyricsBehind ed) (blocks_at ed by_block p)
unfolding all
by_block_each ed p =
    All-filter (λ b. eqb (index_of (voice_of b) (state_at_blocks ed by_block).env.voices) p) (LyricsBehind ed) by_block_blocks
    (test_lyrics ed _ refl, (test_lyrics ed _ refl, (test_lyrics ed _ refl, tt)))

pub by_block_else : (ed : Edition) → Accepted (parse_abc ed by_block 200 10000) × (ends_lf by_block ≡ true) × Known by_block × QuietL ed by_block × QuietM ed by_block × ((p : ℕ) → All (LyricsBehind ed) (blocks_at ed by_block p)) × Moved (blocks by_block) by_block_moved
unfolding all
by_block_else First = (tt, refl, known_test by_block refl, quiet_l_test First by_block refl, quiet_m_test First by_block refl, by_block_each First, moved_to First by_block by_block_blocks by_block_moved by_block_are (by_block_swaps First))
by_block_else Second = (tt, refl, known_test by_block refl, quiet_l_test Second by_block refl, quiet_m_test Second by_block refl, by_block_each Second, moved_to Second by_block by_block_blocks by_block_moved by_block_are (by_block_swaps Second))

pub by_block_not_enough : (ed : Edition) → Differ ed by_block (rebuilt by_block by_block_moved)
unfolding all
by_block_not_enough First = differ First by_block (rebuilt by_block by_block_moved) refl
by_block_not_enough Second = differ Second by_block (rebuilt by_block by_block_moved) refl

-- A BLOCK THAT SETS L
abbrev pub sets_L : List ℕ
sets_L = ascii "V:1\nV:2\nK:D\nV:1\nF\nV:2\nL:/4\n"

abbrev sets_L_blocks : List (List TextLine)
sets_L_blocks = (ascii "V:1\n" ∷ ascii "F\n" ∷ []) ∷ (ascii "V:2\n" ∷ ascii "L:/4\n" ∷ []) ∷ []

abbrev pub sets_L_moved : List (List TextLine)
sets_L_moved = (ascii "V:2\n" ∷ ascii "L:/4\n" ∷ []) ∷ (ascii "V:1\n" ∷ ascii "F\n" ∷ []) ∷ []

sets_L_are : blocks sets_L ≡ sets_L_blocks
unfolding all
sets_L_are = refl

sets_L_swaps : (ed : Edition) → Swaps (reader ed) sets_L_blocks sets_L_moved
unfolding all
sets_L_swaps ed = swap refl

pub sets_L_else : (ed : Edition) → Accepted (parse_abc ed sets_L 200 10000) × (ends_lf sets_L ≡ true) × Known sets_L × QuietM ed sets_L × Behind ed sets_L × Moved (blocks sets_L) sets_L_moved
unfolding all
sets_L_else First = (tt, refl, known_test sets_L refl, quiet_m_test First sets_L refl, behind_test First 2 sets_L refl, moved_to First sets_L sets_L_blocks sets_L_moved sets_L_are (sets_L_swaps First))
sets_L_else Second = (tt, refl, known_test sets_L refl, quiet_m_test Second sets_L refl, behind_test Second 2 sets_L refl, moved_to Second sets_L sets_L_blocks sets_L_moved sets_L_are (sets_L_swaps Second))

pub L-needed : (ed : Edition) → Differ ed sets_L (rebuilt sets_L sets_L_moved)
unfolding all
L-needed First = differ First sets_L (rebuilt sets_L sets_L_moved) refl
L-needed Second = differ Second sets_L (rebuilt sets_L sets_L_moved) refl

-- inline
abbrev pub sets_inline : List ℕ
sets_inline = ascii "V:1\nV:2\nK:D\nV:1\nF\nV:2\n[L:1/4]\n"

abbrev sets_inline_blocks : List (List TextLine)
sets_inline_blocks = (ascii "V:1\n" ∷ ascii "F\n" ∷ []) ∷ (ascii "V:2\n" ∷ ascii "[L:1/4]\n" ∷ []) ∷ []

abbrev pub sets_inline_moved : List (List TextLine)
sets_inline_moved = (ascii "V:2\n" ∷ ascii "[L:1/4]\n" ∷ []) ∷ (ascii "V:1\n" ∷ ascii "F\n" ∷ []) ∷ []

sets_inline_are : blocks sets_inline ≡ sets_inline_blocks
unfolding all
sets_inline_are = refl

sets_inline_swaps : (ed : Edition) → Swaps (reader ed) sets_inline_blocks sets_inline_moved
unfolding all
sets_inline_swaps ed = swap refl

pub sets_inline_else : (ed : Edition) → Accepted (parse_abc ed sets_inline 200 10000) × (ends_lf sets_inline ≡ true) × Known sets_inline × QuietM ed sets_inline × Behind ed sets_inline × Moved (blocks sets_inline) sets_inline_moved
unfolding all
sets_inline_else First = (tt, refl, known_test sets_inline refl, quiet_m_test First sets_inline refl, behind_test First 2 sets_inline refl, moved_to First sets_inline sets_inline_blocks sets_inline_moved sets_inline_are (sets_inline_swaps First))
sets_inline_else Second = (tt, refl, known_test sets_inline refl, quiet_m_test Second sets_inline refl, behind_test Second 2 sets_inline refl, moved_to Second sets_inline sets_inline_blocks sets_inline_moved sets_inline_are (sets_inline_swaps Second))

pub inline_needed : (ed : Edition) → Differ ed sets_inline (rebuilt sets_inline sets_inline_moved)
unfolding all
inline_needed First = differ First sets_inline (rebuilt sets_inline sets_inline_moved) refl
inline_needed Second = differ Second sets_inline (rebuilt sets_inline sets_inline_moved) refl

-- a field that leaves one value as it found it and not another: `L:1/8`, which leaves 8, where L is 1/4
abbrev pub at_eight : List ℕ
at_eight = ascii "V:1\nV:2\nL:1/4\nK:D\nV:1\nF\nV:2\nL:1/8\n"

abbrev at_eight_blocks : List (List TextLine)
at_eight_blocks = (ascii "V:1\n" ∷ ascii "F\n" ∷ []) ∷ (ascii "V:2\n" ∷ ascii "L:1/8\n" ∷ []) ∷ []

abbrev pub at_eight_moved : List (List TextLine)
at_eight_moved = (ascii "V:2\n" ∷ ascii "L:1/8\n" ∷ []) ∷ (ascii "V:1\n" ∷ ascii "F\n" ∷ []) ∷ []

at_eight_are : blocks at_eight ≡ at_eight_blocks
unfolding all
at_eight_are = refl

at_eight_swaps : (ed : Edition) → Swaps (reader ed) at_eight_blocks at_eight_moved
unfolding all
at_eight_swaps ed = swap refl

pub at_eight_else : (ed : Edition) → Accepted (parse_abc ed at_eight 200 10000) × (ends_lf at_eight ≡ true) × Known at_eight × QuietM ed at_eight × Behind ed at_eight × All (All (λ r. unit_after (kind_of ed r) 8 ≡ 8)) (blocks at_eight) × Moved (blocks at_eight) at_eight_moved
unfolding all
at_eight_else First = (tt, refl, known_test at_eight refl, quiet_m_test First at_eight refl, behind_test First 2 at_eight refl, ((refl, (refl, tt)), ((refl, (refl, tt)), tt)), moved_to First at_eight at_eight_blocks at_eight_moved at_eight_are (at_eight_swaps First))
at_eight_else Second = (tt, refl, known_test at_eight refl, quiet_m_test Second at_eight refl, behind_test Second 2 at_eight refl, ((refl, (refl, tt)), ((refl, (refl, tt)), tt)), moved_to Second at_eight at_eight_blocks at_eight_moved at_eight_are (at_eight_swaps Second))

pub whatever_needed : (ed : Edition) → Differ ed at_eight (rebuilt at_eight at_eight_moved)
unfolding all
whatever_needed First = differ First at_eight (rebuilt at_eight at_eight_moved) refl
whatever_needed Second = differ Second at_eight (rebuilt at_eight at_eight_moved) refl

-- A BLOCK THAT SETS M
abbrev pub sets_M : List ℕ
sets_M = ascii "V:1\nV:2\nK:D\nV:1\nF\nV:2\nM:3/4\n"

abbrev sets_M_blocks : List (List TextLine)
sets_M_blocks = (ascii "V:1\n" ∷ ascii "F\n" ∷ []) ∷ (ascii "V:2\n" ∷ ascii "M:3/4\n" ∷ []) ∷ []

abbrev pub sets_M_moved : List (List TextLine)
sets_M_moved = (ascii "V:2\n" ∷ ascii "M:3/4\n" ∷ []) ∷ (ascii "V:1\n" ∷ ascii "F\n" ∷ []) ∷ []

sets_M_are : blocks sets_M ≡ sets_M_blocks
unfolding all
sets_M_are = refl

sets_M_swaps : (ed : Edition) → Swaps (reader ed) sets_M_blocks sets_M_moved
unfolding all
sets_M_swaps ed = swap refl

pub sets_M_else : (ed : Edition) → Accepted (parse_abc ed sets_M 200 10000) × (ends_lf sets_M ≡ true) × Known sets_M × QuietL ed sets_M × Behind ed sets_M × Moved (blocks sets_M) sets_M_moved
unfolding all
sets_M_else First = (tt, refl, known_test sets_M refl, quiet_l_test First sets_M refl, behind_test First 2 sets_M refl, moved_to First sets_M sets_M_blocks sets_M_moved sets_M_are (sets_M_swaps First))
sets_M_else Second = (tt, refl, known_test sets_M refl, quiet_l_test Second sets_M refl, behind_test Second 2 sets_M refl, moved_to Second sets_M sets_M_blocks sets_M_moved sets_M_are (sets_M_swaps Second))

pub M-needed : (ed : Edition) → Differ ed sets_M (rebuilt sets_M sets_M_moved)
unfolding all
M-needed First = differ First sets_M (rebuilt sets_M sets_M_moved) refl
M-needed Second = differ Second sets_M (rebuilt sets_M sets_M_moved) refl

-- VOICES NOT NAMED BEFORE THE FIRST K: LINE: the parts are numbered by first mention. (The lyric condition, which goes by the voices known where the first block
-- begins, holds of every part: there is no lyric line)
abbrev pub unnamed : List ℕ
unnamed = ascii "K:D\nV:1\nV:2\nF\n"

abbrev unnamed_blocks : List (List TextLine)
unnamed_blocks = (ascii "V:1\n" ∷ []) ∷ (ascii "V:2\n" ∷ ascii "F\n" ∷ []) ∷ []

abbrev pub unnamed_moved : List (List TextLine)
unnamed_moved = (ascii "V:2\n" ∷ ascii "F\n" ∷ []) ∷ (ascii "V:1\n" ∷ []) ∷ []

unnamed_are : blocks unnamed ≡ unnamed_blocks
unfolding all
unnamed_are = refl

unnamed_swaps : (ed : Edition) → Swaps (reader ed) unnamed_blocks unnamed_moved
unfolding all
unnamed_swaps ed = swap refl

pub unnamed_else : (ed : Edition) → Accepted (parse_abc ed unnamed 200 10000) × (ends_lf unnamed ≡ true) × QuietL ed unnamed × QuietM ed unnamed × Behind ed unnamed × Moved (blocks unnamed) unnamed_moved
unfolding all
unnamed_else First = (tt, refl, quiet_l_test First unnamed refl, quiet_m_test First unnamed refl, behind_test First 2 unnamed refl, moved_to First unnamed unnamed_blocks unnamed_moved unnamed_are (unnamed_swaps First))
unnamed_else Second = (tt, refl, quiet_l_test Second unnamed refl, quiet_m_test Second unnamed refl, behind_test Second 2 unnamed refl, moved_to Second unnamed unnamed_blocks unnamed_moved unnamed_are (unnamed_swaps Second))

pub known_needed : (ed : Edition) → Differ ed unnamed (rebuilt unnamed unnamed_moved)
unfolding all
known_needed First = differ First unnamed (rebuilt unnamed unnamed_moved) refl
known_needed Second = differ Second unnamed (rebuilt unnamed unnamed_moved) refl

-- NO LINE FEED AT THE END: the last line and the next block's first become one
abbrev pub open_end : List ℕ
open_end = ascii "V:1\nV:2\nK:\nV:1\nA\nV:2\nB"

abbrev open_end_blocks : List (List TextLine)
open_end_blocks = (ascii "V:1\n" ∷ ascii "A\n" ∷ []) ∷ (ascii "V:2\n" ∷ ascii "B" ∷ []) ∷ []

abbrev pub open_end_moved : List (List TextLine)
open_end_moved = (ascii "V:2\n" ∷ ascii "B" ∷ []) ∷ (ascii "V:1\n" ∷ ascii "A\n" ∷ []) ∷ []

open_end_are : blocks open_end ≡ open_end_blocks
unfolding all
open_end_are = refl

open_end_swaps : (ed : Edition) → Swaps (reader ed) open_end_blocks open_end_moved
unfolding all
open_end_swaps ed = swap refl

pub open_end_else : (ed : Edition) → Accepted (parse_abc ed open_end 200 10000) × Known open_end × QuietL ed open_end × QuietM ed open_end × Behind ed open_end × Moved (blocks open_end) open_end_moved
unfolding all
open_end_else First = (tt, known_test open_end refl, quiet_l_test First open_end refl, quiet_m_test First open_end refl, behind_test First 2 open_end refl, moved_to First open_end open_end_blocks open_end_moved open_end_are (open_end_swaps First))
open_end_else Second = (tt, known_test open_end refl, quiet_l_test Second open_end refl, quiet_m_test Second open_end refl, behind_test Second 2 open_end refl, moved_to Second open_end open_end_blocks open_end_moved open_end_are (open_end_swaps Second))

pub ended_needed : (ed : Edition) → Differ ed open_end (rebuilt open_end open_end_moved)
unfolding all
ended_needed First = differ First open_end (rebuilt open_end open_end_moved) refl
ended_needed Second = differ Second open_end (rebuilt open_end open_end_moved) refl

-- A TEXT THAT IS NOT ACCEPTED: what is refused first, the pass list (17) or the X: line (7), is the order's
abbrev pub refused : List ℕ
refused = ascii "V:1\nV:2\nK:\nV:1\n[0\nV:2\nX:1\n"

abbrev refused_blocks : List (List TextLine)
refused_blocks = (ascii "V:1\n" ∷ ascii "[0\n" ∷ []) ∷ (ascii "V:2\n" ∷ ascii "X:1\n" ∷ []) ∷ []

abbrev pub refused_moved : List (List TextLine)
refused_moved = (ascii "V:2\n" ∷ ascii "X:1\n" ∷ []) ∷ (ascii "V:1\n" ∷ ascii "[0\n" ∷ []) ∷ []

refused_are : blocks refused ≡ refused_blocks
unfolding all
refused_are = refl

refused_swaps : (ed : Edition) → Swaps (reader ed) refused_blocks refused_moved
unfolding all
refused_swaps ed = swap refl

pub refused_else : (ed : Edition) → (ends_lf refused ≡ true) × Known refused × QuietL ed refused × QuietM ed refused × Behind ed refused × Moved (blocks refused) refused_moved
unfolding all
refused_else First = (refl, known_test refused refl, quiet_l_test First refused refl, quiet_m_test First refused refl, behind_test First 2 refused refl, moved_to First refused refused_blocks refused_moved refused_are (refused_swaps First))
refused_else Second = (refl, known_test refused refl, quiet_l_test Second refused refl, quiet_m_test Second refused refl, behind_test Second 2 refused refl, moved_to Second refused refused_blocks refused_moved refused_are (refused_swaps Second))

abbrev number : Verdict → ℕ
number (refusal n l) = n
number (reading ps) = 0

pub accepted_needed : (ed : Edition) → (parse_abc ed refused 200 10000).verdict ≡ (parse_abc ed (rebuilt refused refused_moved) 200 10000).verdict → ⊥
unfolding all
accepted_needed First h = let z : ◌≡◌ {A = ℕ} 17 7 = ap number h in omega (arith, z)
accepted_needed Second h = let z : ◌≡◌ {A = ℕ} 17 7 = ap number h in omega (arith, z)

-- A VOICE'S OWN BLOCKS NOT KEPT IN ORDER: all that is supposed of the text holds, and the new blocks are the old ones in another order
abbrev pub own_order : List ℕ
own_order = ascii "V:1\nK:\nV:1\nA\nV:1\nB\n"

abbrev pub own_order_moved : List (List TextLine)
own_order_moved = (ascii "V:1\n" ∷ ascii "B\n" ∷ []) ∷ (ascii "V:1\n" ∷ ascii "A\n" ∷ []) ∷ []

pub own_order_meant : (ed : Edition) → Hypotheses ed own_order 200 10000
unfolding all
own_order_meant First = meant_test First 1 own_order 200 10000 tt refl refl refl refl refl
own_order_meant Second = meant_test Second 1 own_order 200 10000 tt refl refl refl refl refl

pub own_order_perm : Perm (blocks own_order) own_order_moved
unfolding all
own_order_perm = more (more nothing here) (further here)

pub order_needed : (ed : Edition) → Differ ed own_order (rebuilt own_order own_order_moved)
unfolding all
order_needed First = differ First own_order (rebuilt own_order own_order_moved) refl
order_needed Second = differ Second own_order (rebuilt own_order own_order_moved) refl

-- "GIVEN STORES OF THE SAME LENGTHS": with a shorter reading store the moved text is refused (16)
pub lengths_needed : (ed : Edition) → (parse_abc ed hymn' 20 10000).verdict ≡ (parse_abc ed hymn 100 10000).verdict → ⊥
unfolding all
lengths_needed First h = let z : ◌≡◌ {A = ℕ} 16 0 = ap number h in omega (arith, z)
lengths_needed Second h = let z : ◌≡◌ {A = ℕ} 16 0 = ap number h in omega (arith, z)

-- "IF THAT TEXT IS ACCEPTED": of a text that is meant, the text of a voice without music has no measure, so no part (refusal 1)
pub alone_refused : (ed : Edition) → (parse_abc ed (only_part ed hymn 0) 100 10000).verdict ≡ refusal 1 0
unfolding all
alone_refused First = refl
alone_refused Second = refl

abbrev is_some : Option Part → ℕ
is_some none = 0
is_some (some x) = 1

pub alone_needed : (ed : Edition) → part_in (parse_abc ed hymn 100 10000).verdict 0 ≡ part_in (parse_abc ed (only_part ed hymn 0) 100 10000).verdict 0 → ⊥
unfolding all
alone_needed First h = let z : ◌≡◌ {A = ℕ} 1 0 = ap is_some h in omega (arith, z)
alone_needed Second h = let z : ◌≡◌ {A = ℕ} 1 0 = ap is_some h in omega (arith, z)
