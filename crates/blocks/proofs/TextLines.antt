-- Texts, lines and blocks: a text is its lines, and lines with a line feed each come back from the text that they make. Assumes nothing.
use Prim.Native.Nat.{ℕ}
use mathlib.Core.Path.{◌≡◌, refl, sym, ap, ◌∙◌}
use mathlib.Core.Bool.{true, false, false≢true}
use mathlib.Core.List.{List, [], ◌∷◌, ◌++◌, nil≢cons}
use lib.Dec.{eqb}
use Rattle.laws.specs.Lists.{All, concat}
use Rattle.laws.proofs.Bools.{by_test}
use Rattle.laws.proofs.Lists.{is_nil_true}
use Rattle.reader.specs.Text.{push, text_lines}
use Rattle.reader.specs.Lines.{is_v, is_k}
use Rattle.reader.specs.Steps.{TextLine}
use Rattle.blocks.specs.Blocks.{closed, ends_lf, up_to_k, after_k, until_v, blocks_of, header, opening, blocks, rebuilt}

-- A TEXT is its lines, one after the other
push_concat : (c : ℕ) (rs : List TextLine) → concat (push c rs) ≡ c ∷ concat rs
push_concat c [] = refl
push_concat c (r ∷ rs) = refl

pub concat_lines : (t : List ℕ) → concat (text_lines t) ≡ t
unfolding text_lines
concat_lines [] = refl
concat_lines (c ∷ cs) =
    by_test (eqb c 10) (λ e. rw (e, text_lines) (ap {B = List ℕ} (λ l. c ∷ l) (concat_lines cs)))
    (λ e. rw (e, text_lines) (push_concat c (text_lines cs) ∙ ap {B = List ℕ} (λ l. c ∷ l) (concat_lines cs)))

-- a closed line: what comes of its first byte
closed_lf : (c : ℕ) (cs : List ℕ) → eqb c 10 ≡ true → closed (c ∷ cs) ≡ true → cs ≡ []
closed_lf c cs e h = is_nil_true cs (rw e at h)

-- a line with its line feed is cut off as it is, whatever follows
pub lines_of_line : (r t : List ℕ) → closed r ≡ true → text_lines (r ++ t) ≡ r ∷ text_lines t
unfolding text_lines
lines_of_line [] t h = absurd (false≢true h)
lines_of_line (c ∷ cs) t h =
    by_test (eqb c 10)
    (λ e. let z : cs ≡ [] = closed_lf c cs e h in rw (e, text_lines) (λ i. (c ∷ sym z i) ∷ text_lines (z i ++ t)))
    (λ e. rw (e, text_lines) (ap (push c) (lines_of_line cs t (rw e at h))))

abbrev pub Closed : TextLine → Type 0
Closed r = closed r ≡ true

pub lines_concat : (rs : List TextLine) → All Closed rs → text_lines (concat rs) ≡ rs
unfolding text_lines
lines_concat [] p = refl
lines_concat (r ∷ rs) p = lines_of_line r (concat rs) p.0 ∙ ap {B = List TextLine} (λ l. r ∷ l) (lines_concat rs p.1)

-- of a text that ends in a line feed each line does
push_closed : (c d : ℕ) (t : List ℕ) (rs : List TextLine) → eqb c 10 ≡ false → concat rs ≡ d ∷ t → All Closed rs → All Closed (push c rs)
push_closed c d t [] e h p = absurd (nil≢cons h)
push_closed c d t (r ∷ rs) e h p = (rw e p.0, p.1)

pub lines_closed : (t : List ℕ) → ends_lf t ≡ true → All Closed (text_lines t)
unfolding text_lines
lines_closed [] h = tt
lines_closed (c ∷ []) h = let e : eqb c 10 ≡ true = h in rw (e, text_lines) (rw e refl, tt)
lines_closed (c ∷ (d ∷ t)) h =
    by_test (eqb c 10) (λ e. rw (e, text_lines) (rw e refl, lines_closed (d ∷ t) h))
    (λ e. rw (e, text_lines) (push_closed c d t (text_lines (d ∷ t)) e (concat_lines (d ∷ t)) (lines_closed (d ∷ t) h)))

-- THE LINES are those up to the first K: line, those before the first block, and the blocks'
pub lines_K : (rs : List TextLine) → up_to_k rs ++ after_k rs ≡ rs
lines_K [] = refl
lines_K (r ∷ rs) = by_test (is_k r) (λ e. rw e) (λ e. rw e (ap {B = List TextLine} (λ l. r ∷ l) (lines_K rs)))

pub lines_V : (rs : List TextLine) → until_v rs ++ concat (blocks_of rs) ≡ rs
lines_V [] = refl
lines_V (r ∷ rs) =
    by_test (is_v r) (λ e. rw e (ap {B = List TextLine} (λ l. r ∷ l) (lines_V rs))) (λ e. rw e (ap {B = List TextLine} (λ l. r ∷ l) (lines_V rs)))

pub lines_all : (text : List ℕ) → header text ++ (opening text ++ concat (blocks text)) ≡ text_lines text
lines_all text = ap (λ (l : List TextLine). header text ++ l) (lines_V (after_k (text_lines text))) ∙ lines_K (text_lines text)

-- with its own blocks in their own order the text is itself
pub rebuilt_self : (text : List ℕ) → rebuilt text (blocks text) ≡ text
rebuilt_self text = ap concat (lines_all text) ∙ concat_lines text

-- A BLOCK is a V: line and then lines that are none
abbrev pub Plain : TextLine → Type 0
Plain r = is_v r ≡ false

abbrev pub Shape : List TextLine → Type 0
Shape [] = ⊥
Shape (r ∷ rs) = (is_v r ≡ true) × All Plain rs

pub until_plain : (rs : List TextLine) → All Plain (until_v rs)
until_plain [] = tt
until_plain (r ∷ rs) = by_test (is_v r) (λ e. rw e tt) (λ e. rw e (e, until_plain rs))

pub blocks_shape : (rs : List TextLine) → All Shape (blocks_of rs)
blocks_shape [] = tt
blocks_shape (r ∷ rs) = by_test (is_v r) (λ e. rw e ((e, until_plain rs), blocks_shape rs)) (λ e. rw e (blocks_shape rs))
