-- ANY ARRANGEMENT AT WORK: two voices block about and line about. A tie that a V: line ends makes the readings differ in a flag; the tally is the same.
use Prim.Native.Nat.{ℕ}
use mathlib.Core.Path.{◌≡◌, refl, sym, ap}
use mathlib.Core.Bool.{Bool, true, false, cond, ◌&&◌, false≢true}
use mathlib.Core.List.{List, [], ◌∷◌, map}
use Rattle.laws.specs.Lists.{concat, eq_text}
use Rattle.laws.proofs.Bools.{by_test}
use Rattle.laws.proofs.Lists.{eq_text_true}
use Rattle.standard.specs.Bytes.{ascii}
use Rattle.editions.specs.declared.Edition.TheVariants.{First, Second}
use Rattle.reader.specs.Steps.{TextLine}
use Rattle.reader.specs.Answer.{parse_abc}
use Rattle.reader.specs.Tally.{Counts}
use Rattle.reader.specs.All.{all}
use Rattle.blocks.specs.Demand.{Hypotheses}
use Rattle.blocks.proofs.Tests.{meant_test}
use Rattle.promises.specs.Arrangement.{body_of, Rearranged, tally_of}
use Rattle.promises.proofs.Arrangement.{any_arrangement}

abbrev block_about : List ℕ
block_about = ascii "V:1\nV:2\nK:C\nV:1\nA-|\nw:a\nA|\nV:2\nz|\nc|\n"

abbrev line_about : List ℕ
line_about = ascii "V:1\nV:2\nK:C\nV:1\nA-|\nw:a\nV:2\nz|\nV:1\nA|\nV:2\nc|\n"

block_meant : Hypotheses First block_about 600 12000
unfolding all
block_meant = meant_test First 2 block_about 600 12000 tt refl refl refl refl refl

line_meant : Hypotheses First line_about 600 12000
unfolding all
line_meant = meant_test First 2 line_about 600 12000 tt refl refl refl refl refl

-- each voice's lines, by whether v is the one or the other
abbrev picked : Bool → List TextLine → List (List TextLine) → List (List TextLine)
picked b x xs = cond b (x ∷ xs) xs

-- no voice is both, so that the lines of one stand together
by_names : (x y : Bool) → (x && y) ≡ false
    → concat (map body_of (picked x (ascii "V:1\n" ∷ ascii "A-|\n" ∷ ascii "w:a\n" ∷ ascii "A|\n" ∷ []) (picked y (ascii "V:2\n" ∷ ascii "z|\n" ∷ ascii "c|\n" ∷ []) [])))
    ≡ concat (map body_of (picked x (ascii "V:1\n" ∷ ascii "A-|\n" ∷ ascii "w:a\n" ∷ []) (picked y (ascii "V:2\n" ∷ ascii "z|\n" ∷ []) (picked x (ascii "V:1\n" ∷ ascii "A|\n" ∷ []) (picked y (ascii "V:2\n" ∷ ascii "c|\n" ∷ []) [])))))
by_names true true h = absurd (false≢true (sym h))
by_names true false h = refl
by_names false true h = refl
by_names false false h = refl

not_both : (v : List ℕ) → (eq_text (ascii "1") v && eq_text (ascii "2") v) ≡ false
not_both v =
    by_test (eq_text (ascii "1") v) (λ e. let q : ascii "1" ≡ v = eq_text_true (ascii "1") v e in ap (λ (w : List ℕ). eq_text (ascii "1") w && eq_text (ascii "2") w) (sym q))
    (λ e. ap (λ (b : Bool). b && eq_text (ascii "2") v) e)

arranged : Rearranged block_about line_about
unfolding all
arranged = record { header_same = refl; opening_same = refl; lines_same = λ v. by_names (eq_text (ascii "1") v) (eq_text (ascii "2") v) (not_both v) }

-- one tally, by the theorem
pub one_tally : tally_of (parse_abc First block_about 600 12000).verdict ≡ tally_of (parse_abc First line_about 600 12000).verdict
one_tally = any_arrangement block_about line_about 600 12000 600 12000 block_meant line_meant arranged

-- and two readings: the tie over the V: line is lost
pub two_readings : eq_text (parse_abc First block_about 600 12000).reading (parse_abc First line_about 600 12000).reading ≡ false
unfolding all
two_readings = refl

-- IN THE SECOND EDITION, where a grace note takes no syllable, a V: line that ends a grace brace changes the syllables: the one text is the other without its last V: line, both meet the
-- hypotheses, and the tallies differ
abbrev pub one_block : List ℕ
one_block = ascii "V:1\nK:C\nV:1\n{\nA\nw:a\n"

abbrev pub two_blocks : List ℕ
two_blocks = ascii "V:1\nK:C\nV:1\n{\nV:1\nA\nw:a\n"

pub both_meant : Hypotheses Second one_block 200 12000 × Hypotheses Second two_blocks 200 12000
unfolding all
both_meant = (meant_test Second 1 one_block 200 12000 tt refl refl refl refl refl, meant_test Second 1 two_blocks 200 12000 tt refl refl refl refl refl)

one_voice : (x : Bool)
    → concat (map body_of (picked x (ascii "V:1\n" ∷ ascii "{\n" ∷ ascii "A\n" ∷ ascii "w:a\n" ∷ []) []))
    ≡ concat (map body_of (picked x (ascii "V:1\n" ∷ ascii "{\n" ∷ []) (picked x (ascii "V:1\n" ∷ ascii "A\n" ∷ ascii "w:a\n" ∷ []) [])))
one_voice true = refl
one_voice false = refl

pub both_arranged : Rearranged one_block two_blocks
unfolding all
both_arranged = record { header_same = refl; opening_same = refl; lines_same = λ v. one_voice (eq_text (ascii "1") v) }

abbrev syllables_of : List Counts → List ℕ
syllables_of cs = map (λ (c : Counts). c.syllables) cs

pub first_counts : (syllables_of (tally_of (parse_abc First one_block 200 12000).verdict) ≡ 1 ∷ []) × (syllables_of (tally_of (parse_abc First two_blocks 200 12000).verdict) ≡ 1 ∷ [])
unfolding all
first_counts = (refl, refl)

pub second_counts : (syllables_of (tally_of (parse_abc Second one_block 200 12000).verdict) ≡ 0 ∷ []) × (syllables_of (tally_of (parse_abc Second two_blocks 200 12000).verdict) ≡ 1 ∷ [])
unfolding all
second_counts = (refl, refl)
