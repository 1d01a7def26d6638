-- THE BLOCKS OF A TEXT, read off its bytes (document 01, "Blocks that change places"): "V: lines and K: lines begin with those two characters".
-- A line has its line feed, so a block "moves with all its bytes, comments and line feeds included".
use Rattle.std.specs.Prelude.{ℕ, Bool, false, cond, List, [], ◌∷◌, ◌++◌, eqb}
use Rattle.laws.specs.Lists.{is_nil, concat}
use Rattle.reader.specs.Text.{text_lines}
use Rattle.reader.specs.Lines.{is_v, is_k}
use Rattle.reader.specs.Steps.{TextLine}

-- a line that ends in a line feed: it has one, at its end
abbrev pub closed : TextLine → Bool
closed [] = false
closed (c ∷ cs) = cond (eqb c 10) (is_nil cs) (closed cs)

-- "ends in a line feed"
abbrev pub ends_lf : List ℕ → Bool
ends_lf [] = false
ends_lf (c ∷ cs) = cond (is_nil cs) (eqb c 10) (ends_lf cs)

-- the lines up to "the first K: line", with it; and the lines after it
abbrev pub up_to_k : List TextLine → List TextLine
up_to_k [] = []
up_to_k (r ∷ rs) = r ∷ cond (is_k r) [] (up_to_k rs)

abbrev pub after_k : List TextLine → List TextLine
after_k [] = []
after_k (r ∷ rs) = cond (is_k r) rs (after_k rs)

-- the lines before the first V: line; and the blocks, each "from a V: line .. to just before the next V: line or the text's end"
abbrev pub until_v : List TextLine → List TextLine
until_v [] = []
until_v (r ∷ rs) = cond (is_v r) [] (r ∷ until_v rs)

abbrev pub blocks_of : List TextLine → List (List TextLine)
blocks_of [] = []
blocks_of (r ∷ rs) = cond (is_v r) ((r ∷ until_v rs) ∷ blocks_of rs) (blocks_of rs)

-- OF A TEXT: its lines up to the first K: line; those "between the first K: line and the first block"; and its blocks
abbrev pub header : List ℕ → List TextLine
header text = up_to_k (text_lines text)

abbrev pub opening : List ℕ → List TextLine
opening text = until_v (after_k (text_lines text))

abbrev pub blocks : List ℕ → List (List TextLine)
blocks text = blocks_of (after_k (text_lines text))

-- the text with bs in the place of its blocks: "what stands before the first block stays"
abbrev pub rebuilt : List ℕ → List (List TextLine) → List ℕ
rebuilt text bs = concat (header text ++ (opening text ++ concat bs))
