-- THAT THE WORDS OF THE DEMAND SAY WHAT THEY SHOULD: lines, the moved text's own blocks, the order, the lyric condition. (What sets L or M: proofs/Sets; that each voice
-- has a part: proofs/Parts.) Assumes nothing.
use Prim.Native.Nat.{ℕ}
use mathlib.Core.Path.{◌≡◌, refl, sym, ap, subst, ◌∙◌}
use mathlib.Core.Logic.{◌⊎◌, inl, inr, ⊎_elim}
use mathlib.Core.Bool.{Bool, true, false, cond, false≢true}
use mathlib.Core.List.{List, [], ◌∷◌, ◌++◌, append_assoc, append-nil}
use lib.Dec.{eqb}
use Rattle.laws.specs.Lists.{All, any, concat, foldl}
use Rattle.laws.specs.Orders.{Perm}
use Rattle.laws.proofs.Bools.{by_test, both_true}
use Rattle.laws.proofs.Lists.{All-append, All-left, All-right, All-concat, All-uncat}
use Rattle.laws.proofs.Orders.{All-perm, perm_nil}
use Rattle.editions.specs.declared.Edition.{Edition}
use Rattle.reader.specs.Text as text
use Rattle.reader.specs.Text.{White, white, in_c2, in_e1, in_e19a, in_e2, in_e280, in_e281, in_e3, in_e380, white_step, is_all_white, is_blank, text_lines, cut, trim, clean}
use Rattle.reader.specs.Lines.{is_k}
use Rattle.reader.specs.Steps.{TextLine}
use Rattle.blocks.specs.Blocks.{ends_lf, up_to_k, after_k, until_v, blocks_of, header, opening, blocks, rebuilt}
use Rattle.blocks.specs.Demand.{Moved, LyricsBehind}
use Rattle.blocks.proofs.Instance.{reader}
use Rattle.blocks.proofs.Moves as moves
use Rattle.blocks.proofs.Lyrics.{Between, Stepwise, behind?, literal_stepwise, stepwise_between, between_literal, literal_test, test_literal}
use Rattle.blocks.proofs.Scan.{music_lyric}
use Rattle.blocks.proofs.TextLines.{lines_concat, lines_closed, lines_all, rebuilt_self, Closed, Plain, Shape, until_plain, blocks_shape}

-- LINES: a line's line feed, and a carriage return before it, do not count: cut and trimmed a line is as its line without them
white_lf : (q : White) → is_all_white (white_step q 10) ≡ is_all_white q
unfolding white_step
white_lf white = refl
white_lf in_c2 = refl
white_lf in_e1 = refl
white_lf in_e19a = refl
white_lf in_e2 = refl
white_lf in_e280 = refl
white_lf in_e281 = refl
white_lf in_e3 = refl
white_lf in_e380 = refl
white_lf text.other = refl

white_cr : (q : White) → is_all_white (white_step q 13) ≡ is_all_white q
unfolding white_step
white_cr white = refl
white_cr in_c2 = refl
white_cr in_e1 = refl
white_cr in_e19a = refl
white_cr in_e2 = refl
white_cr in_e280 = refl
white_cr in_e281 = refl
white_cr in_e3 = refl
white_cr in_e380 = refl
white_cr text.other = refl

-- a byte c that is white space at any end
module _ (c : ℕ) (w : (q : White) → is_all_white (white_step q c) ≡ is_all_white q) (p : eqb c 37 ≡ false) where
  white_end : (q : White) (l : List ℕ) → is_all_white (foldl white_step q (l ++ (c ∷ []))) ≡ is_all_white (foldl white_step q l)
  white_end q [] = w q
  white_end q (x ∷ l) = white_end (white_step q x) l

  blank_end : (l : List ℕ) → is_blank (l ++ (c ∷ [])) ≡ is_blank l
  unfolding is_blank
  blank_end l = white_end white l

  trim_end_lem : (l : List ℕ) → trim (l ++ (c ∷ [])) ≡ trim l
  unfolding trim is_blank
  trim_end_lem [] = ap (λ (b : Bool). cond b [] (c ∷ [])) (w white)
  trim_end_lem (x ∷ l) = λ i. cond (blank_end (x ∷ l) i) [] (x ∷ trim_end_lem l i)

  cut_end : (l : List ℕ) → (cut (l ++ (c ∷ [])) ≡ cut l) ⊎ (cut (l ++ (c ∷ [])) ≡ cut l ++ (c ∷ []))
  unfolding cut
  cut_end [] = inr (ap (λ (b : Bool). cond b [] (c ∷ [])) p)
  cut_end (x ∷ l) = go (eqb x 37) (cut_end l)
    where
      go : (b : Bool) → (cut (l ++ (c ∷ [])) ≡ cut l) ⊎ (cut (l ++ (c ∷ [])) ≡ cut l ++ (c ∷ []))
          → (cond b [] (x ∷ cut (l ++ (c ∷ []))) ≡ cond b [] (x ∷ cut l)) ⊎ (cond b [] (x ∷ cut (l ++ (c ∷ []))) ≡ cond b [] (x ∷ cut l) ++ (c ∷ []))
      go true h = inl refl
      go false h = ⊎_elim (λ e. inl (λ i. x ∷ e i)) (λ e. inr (λ i. x ∷ e i)) h

  clean_end : (l : List ℕ) → clean (l ++ (c ∷ [])) ≡ clean l
  unfolding clean
  clean_end l = ⊎_elim (λ e. ap trim e) (λ e. ap trim e ∙ trim_end_lem (cut l)) (cut_end l)

pub clean_lf : (l : List ℕ) → clean (l ++ (10 ∷ [])) ≡ clean l
clean_lf = clean_end 10 white_lf refl

pub clean_crlf : (l : List ℕ) → clean (l ++ (13 ∷ (10 ∷ []))) ≡ clean l
clean_crlf l = ap clean (sym (append_assoc l (13 ∷ []) (10 ∷ []))) ∙ clean_lf (l ++ (13 ∷ [])) ∙ clean_end 13 white_cr refl l

-- THE ORDER: what is moved is all there, as often, and nothing else; and it is just what exchanges of neighbours of different voices lead to
pub moved_is_perm : (ed : Edition) (old new : List (List TextLine)) → Moved old new → Perm old new
moved_is_perm ed = moves.moved_is_perm (reader ed)

pub moved_swaps : (ed : Edition) (old new : List (List TextLine)) → Moved old new → moves.Swaps (reader ed) old new
moved_swaps ed = moves.moved_swaps (reader ed)

pub swaps_moved : (ed : Edition) {old new : List (List TextLine)} → moves.Swaps (reader ed) old new → Moved old new
swaps_moved ed = moves.swaps_moved (reader ed)

-- THE LYRIC CONDITION: as the words have it; or, a lyric line with music after it has music before it; or, if some line is music, each lyric line has a music line before it;
-- or a test. All four are one
pub lyrics_step : (ed : Edition) (rs : List TextLine) → LyricsBehind ed rs → Stepwise (reader ed) rs
lyrics_step ed = literal_stepwise (reader ed) (music_lyric ed)

pub lyrics_between : (ed : Edition) (rs : List TextLine) → LyricsBehind ed rs → Between (reader ed) rs
lyrics_between ed rs h = stepwise_between (reader ed) rs (lyrics_step ed rs h)

pub step_lyrics : (ed : Edition) (rs : List TextLine) → Stepwise (reader ed) rs → LyricsBehind ed rs
step_lyrics ed rs h = between_literal (reader ed) rs (stepwise_between (reader ed) rs h)

pub between_lyrics : (ed : Edition) (rs : List TextLine) → Between (reader ed) rs → LyricsBehind ed rs
between_lyrics ed = between_literal (reader ed)

pub lyrics_test : (ed : Edition) (rs : List TextLine) → LyricsBehind ed rs → behind? (reader ed) rs ≡ true
lyrics_test ed = literal_test (reader ed)

pub test_lyrics : (ed : Edition) (rs : List TextLine) → behind? (reader ed) rs ≡ true → LyricsBehind ed rs
test_lyrics ed = test_literal (reader ed)

-- BLOCKS: the moved text has the same lines before its first block, and its blocks are the moved ones
up_to_again : (rs x : List TextLine) → any is_k rs ≡ true → up_to_k (up_to_k rs ++ x) ≡ up_to_k rs
up_to_again [] x h = absurd (false≢true h)
up_to_again (r ∷ rs) x h = by_test (is_k r) (λ e. rw e) (λ e. rw e (ap {B = List TextLine} (λ l. r ∷ l) (up_to_again rs x (rw e at h))))

after_again : (rs x : List TextLine) → any is_k rs ≡ true → after_k (up_to_k rs ++ x) ≡ x
after_again [] x h = absurd (false≢true h)
after_again (r ∷ rs) x h = by_test (is_k r) (λ e. rw e) (λ e. rw e (after_again rs x (rw e at h)))

until_app : (m y : List TextLine) → All Plain m → until_v (m ++ y) ≡ m ++ until_v y
until_app [] y p = refl
until_app (r ∷ m) y p = rw p.0 (ap {B = List TextLine} (λ l. r ∷ l) (until_app m y p.1))

blocks_app : (m y : List TextLine) → All Plain m → blocks_of (m ++ y) ≡ blocks_of y
blocks_app [] y p = refl
blocks_app (r ∷ m) y p = rw p.0 (blocks_app m y p.1)

until_concat : (cs : List (List TextLine)) → All Shape cs → until_v (concat cs) ≡ []
until_concat [] p = refl
until_concat ([] ∷ cs) p = absurd p.0
until_concat ((r ∷ rs) ∷ cs) p = rw p.0.0

blocks_concat : (cs : List (List TextLine)) → All Shape cs → blocks_of (concat cs) ≡ cs
blocks_concat [] p = refl
blocks_concat ([] ∷ cs) p = absurd p.0
blocks_concat ((r ∷ rs) ∷ cs) p =
    ap (λ (b : Bool). cond b ((r ∷ until_v (rs ++ concat cs)) ∷ blocks_of (rs ++ concat cs)) (blocks_of (rs ++ concat cs))) p.0.0
    ∙ (λ i.
    (r ∷ (until_app rs (concat cs) p.0.1 ∙ ap (λ (l : List TextLine). rs ++ l) (until_concat cs p.1) ∙ append-nil rs) i)
    ∷ (blocks_app rs (concat cs) p.0.1 ∙ blocks_concat cs p.1) i)

-- of any text with a K: line whose lines all end in line feeds, and any blocks in that shape
module _ (text : List ℕ) (hk : any is_k (text_lines text) ≡ true) (cs : List (List TextLine)) (sh : All Shape cs) (cl : All Closed (header text ++ (opening text ++ concat cs))) where
  lines_rebuilt : text_lines (rebuilt text cs) ≡ header text ++ (opening text ++ concat cs)
  lines_rebuilt = lines_concat (header text ++ (opening text ++ concat cs)) cl

  after_rebuilt : after_k (text_lines (rebuilt text cs)) ≡ opening text ++ concat cs
  after_rebuilt = ap after_k lines_rebuilt ∙ after_again (text_lines text) (opening text ++ concat cs) hk

  pub header_rebuilt : header (rebuilt text cs) ≡ header text
  header_rebuilt = ap up_to_k lines_rebuilt ∙ up_to_again (text_lines text) (opening text ++ concat cs) hk

  pub opening_rebuilt : opening (rebuilt text cs) ≡ opening text
  opening_rebuilt =
      ap until_v after_rebuilt
      ∙ until_app (opening text) (concat cs) (until_plain (after_k (text_lines text)))
      ∙ ap (λ (l : List TextLine). opening text ++ l) (until_concat cs sh)
      ∙ append-nil (opening text)

  pub blocks_rebuilt : blocks (rebuilt text cs) ≡ cs
  blocks_rebuilt = ap blocks_of after_rebuilt ∙ blocks_app (opening text) (concat cs) (until_plain (after_k (text_lines text))) ∙ blocks_concat cs sh

-- a text without a K: line has no block
no_K : (rs : List TextLine) → any is_k rs ≡ false → after_k rs ≡ []
no_K [] h = refl
no_K (r ∷ rs) h = by_test (is_k r) (λ e. absurd (both_true (is_k r) e (first e))) (λ e. rw e (no_K rs (rw e at h)))
  where
    first : is_k r ≡ true → is_k r ≡ false
    first e = absurd (both_true (any is_k (r ∷ rs)) (rw e) h)

-- the lines of the moved text all end in line feeds
pub moved_closed : (ed : Edition) (text : List ℕ) → ends_lf text ≡ true → (bs : List (List TextLine)) → Moved (blocks text) bs → All Closed (header text ++ (opening text ++ concat bs))
moved_closed ed text lf bs mv =
    All-append Closed (header text) (opening text ++ concat bs) (All-left Closed (header text) (opening text ++ concat (blocks text)) whole)
    (All-append Closed (opening text) (concat bs) (All-left Closed (opening text) (concat (blocks text)) tail)
    (All-concat Closed bs
    (All-perm (All Closed) (moved_is_perm ed (blocks text) bs mv) (All-uncat Closed (blocks text) (All-right Closed (opening text) (concat (blocks text)) tail)))))
  where
    whole : All Closed (header text ++ (opening text ++ concat (blocks text)))
    whole = subst (All Closed) (sym (lines_all text)) (lines_closed text lf)

    tail : All Closed (opening text ++ concat (blocks text))
    tail = All-right Closed (header text) (opening text ++ concat (blocks text)) whole

-- so it is of every text that ends in a line feed and every order of its blocks: the moved blocks are the moved text's own, and what stands before them is as it was
pub moved_own : (ed : Edition) (text : List ℕ) → ends_lf text ≡ true → (bs : List (List TextLine)) → Moved (blocks text) bs
    → (header (rebuilt text bs) ≡ header text) × (opening (rebuilt text bs) ≡ opening text) × (blocks (rebuilt text bs) ≡ bs)
moved_own ed text lf bs mv = by_test (any is_k (text_lines text)) with_K without_K
  where
    pm : Perm (blocks text) bs
    pm = moved_is_perm ed (blocks text) bs mv

    shut : All Closed (header text ++ (opening text ++ concat bs))
    shut = moved_closed ed text lf bs mv

    shape : All Shape bs
    shape = All-perm Shape pm (blocks_shape (after_k (text_lines text)))

    with_K : any is_k (text_lines text) ≡ true → (header (rebuilt text bs) ≡ header text) × (opening (rebuilt text bs) ≡ opening text) × (blocks (rebuilt text bs) ≡ bs)
    with_K k = (header_rebuilt text k bs shape shut, opening_rebuilt text k bs shape shut, blocks_rebuilt text k bs shape shut)

    without_K : any is_k (text_lines text) ≡ false → (header (rebuilt text bs) ≡ header text) × (opening (rebuilt text bs) ≡ opening text) × (blocks (rebuilt text bs) ≡ bs)
    without_K k =
        let z : blocks text ≡ [] = ap blocks_of (no_K (text_lines text) k) in
        let y : bs ≡ [] = perm_nil (subst (λ (l : List (List TextLine)). Perm l bs) z pm) in
        let t : rebuilt text bs ≡ text = ap (rebuilt text) (y ∙ sym z) ∙ rebuilt_self text in
        (ap header t, ap opening t, ap blocks t ∙ z ∙ sym y)
