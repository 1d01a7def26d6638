-- THE MOVED TEXT MEETS THE SUPPOSITIONS TOO, with the same lines for each part: its blocks may be moved on, and back. Assumes nothing.
use Prim.Native.Nat.{ℕ}
use mathlib.Core.Path.{◌≡◌, refl, sym, ap, subst, ◌∙◌}
use mathlib.Core.Bool.{true, cond, false≢true}
use mathlib.Core.List.{List, [], ◌∷◌, ◌++◌, append-nil}
use lib.Dec.{eqb}
use Rattle.laws.specs.Lists.{All, filter, concat, is_nil, eq_text, elem, index_of}
use Rattle.laws.proofs.Bools.{by_test}
use Rattle.laws.proofs.Lists.{is_nil_true}
use Rattle.laws.proofs.Orders.{All-perm, moved_index}
use Rattle.editions.specs.declared.Edition.{Edition}
use Rattle.reader.specs.Text.{text_lines}
use Rattle.reader.specs.Lines.{is_k}
use Rattle.reader.specs.Steps.{TextLine}
use Rattle.reader.specs.Scan.{scan}
use Rattle.blocks.specs.Blocks.{closed, ends_lf, up_to_k, header, opening, blocks, rebuilt}
use Rattle.blocks.specs.Demand.{voice_of, Moved, named, SetsNeither, state_of, state_at_blocks, lines_at, LyricsBehind, Hypotheses}
use Rattle.blocks.proofs.Lists.{numbered_named}
use Rattle.blocks.proofs.TextLines.{Closed, concat_lines}
use Rattle.blocks.proofs.Words.{moved_is_perm, moved_own, moved_closed}
use Rattle.blocks.proofs.Demand.{again, owned}

-- a text of closed lines, one at least, ends in a line feed
ends_app : (r t : List ℕ) → ends_lf t ≡ true → ends_lf (r ++ t) ≡ true
ends_app [] t h = h
ends_app (c ∷ r) t h =
    by_test (is_nil (r ++ t)) (λ e. absurd (false≢true (sym (ap ends_lf (is_nil_true (r ++ t) e)) ∙ ends_app r t h))) (λ e. rw e (ends_app r t h))

closed_ends : (r : List ℕ) → closed r ≡ true → ends_lf r ≡ true
closed_ends [] h = absurd (false≢true h)
closed_ends (c ∷ r) h =
    by_test (eqb c 10) (λ e. rw (is_nil_true r (rw e at h)) e)
    (λ e.
    let k : closed r ≡ true = rw e at h in
    by_test (is_nil r) (λ n. absurd (false≢true (sym (ap closed (is_nil_true r n)) ∙ k))) (λ n. rw n (closed_ends r k)))

lines_end : (r : TextLine) (rs : List TextLine) → All Closed (r ∷ rs) → ends_lf (concat (r ∷ rs)) ≡ true
lines_end r [] c = subst (λ (l : List ℕ). ends_lf l ≡ true) (sym (append-nil r)) (closed_ends r c.0)
lines_end r (q ∷ rs) c = ends_app r (concat (q ∷ rs)) (lines_end q rs c.1)

-- the first line stays, so the moved text has one
still_ends : (text : List ℕ) (rest : List TextLine) (rs : List TextLine) → text_lines text ≡ rs → ends_lf text ≡ true → All Closed (up_to_k rs ++ rest) → ends_lf (concat (up_to_k rs ++ rest)) ≡ true
still_ends text rest [] e h c = absurd (false≢true (sym (ap ends_lf (sym (concat_lines text) ∙ ap concat e)) ∙ h))
still_ends text rest (r ∷ rs) e h c = lines_end r (cond (is_k r) [] (up_to_k rs) ++ rest) c

-- A VOICE'S LINES BY NAME: the lyric condition goes by the numbers of the parts; the lines of the part that v has are those before the first block, if v is then being read,
-- and those of the blocks that name v
pub lines_named : (ed : Edition) (text : List ℕ) (rl sl : ℕ) → Hypotheses ed text rl sl → (v : List ℕ) → elem v (state_at_blocks ed text).env.voices ≡ true
    → lines_at ed text (index_of v (state_at_blocks ed text).env.voices)
    ≡ cond (eqb (state_at_blocks ed text).part (index_of v (state_at_blocks ed text).env.voices)) (opening text) [] ++ concat (filter (λ b. eq_text (voice_of b) v) (blocks text))
lines_named ed text rl sl m v hv =
    ap (λ (l : List (List TextLine)). cond (eqb (state_at_blocks ed text).part (index_of v (state_at_blocks ed text).env.voices)) (opening text) [] ++ concat l)
    (numbered_named voice_of (state_at_blocks ed text).env.voices v hv (blocks text) (owned ed text rl sl m))

-- THE MOVED TEXT
module _ (ed : Edition) (text : List ℕ) (rl sl : ℕ) (m : Hypotheses ed text rl sl) (bs : List (List TextLine)) (mv : Moved (blocks text) bs) where
  own : (header (rebuilt text bs) ≡ header text) × (opening (rebuilt text bs) ≡ opening text) × (blocks (rebuilt text bs) ≡ bs)
  own = moved_own ed text m.ended bs mv

  there_same : state_at_blocks ed (rebuilt text bs) ≡ state_at_blocks ed text
  there_same = λ i. state_of (scan ed (own.0 i ++ own.1 i))

  -- each part's lines are the same
  pub lines_same : (p : ℕ) → lines_at ed (rebuilt text bs) p ≡ lines_at ed text p
  lines_same p =
      (λ i. cond (eqb (there_same i).part p) (own.1 i) [] ++ concat (filter (λ b. eqb (index_of (voice_of b) (there_same i).env.voices) p) (own.2 i)))
      ∙ ap (λ (l : List (List TextLine)). cond (eqb (state_at_blocks ed text).part p) (opening text) [] ++ concat l)
      (moved_index voice_of (state_at_blocks ed text).env.voices (blocks text) bs (owned ed text rl sl m) mv p)

  pub meant_again : Hypotheses ed (rebuilt text bs) rl sl
  meant_again =
      record {
        accepted = again ed text rl sl m bs mv;
        ended = still_ends text (opening text ++ concat bs) (text_lines text) refl m.ended (moved_closed ed text m.ended bs mv);
        known =
            subst (λ (hs : List TextLine). All (λ b. named (voice_of b) hs ≡ true) (blocks (rebuilt text bs))) (sym own.0)
            (subst (All (λ b. named (voice_of b) (header text) ≡ true)) (sym own.2)
            (All-perm (λ b. named (voice_of b) (header text) ≡ true) (moved_is_perm ed (blocks text) bs mv) m.known));
        sets_neither = subst (All (All (SetsNeither ed))) (sym own.2) (All-perm (All (SetsNeither ed)) (moved_is_perm ed (blocks text) bs mv) m.sets_neither);
        sung = λ p. subst (LyricsBehind ed) (sym (lines_same p)) (m.sung p);
      }
