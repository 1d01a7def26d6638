-- DEMAND 3 of `parse_abc`: the claim of the frame, at the reader that keeps its laws. Assumes nothing.
use Prim.Native.Nat.{ℕ}
use mathlib.Core.Path.{◌≡◌, refl, sym, ap, subst, ◌∙◌}
use mathlib.Core.Logic.{inl}
use mathlib.Core.Bool.{true}
use mathlib.Core.Option.{Option, none, some}
use mathlib.Core.List.{List, ◌++◌}
use Rattle.laws.specs.Lists.{All, elem, index_of}
use Rattle.editions.specs.declared.Edition.{Edition}
use Rattle.reader.specs.Text.{text_lines}
use Rattle.reader.specs.Steps.{TextLine, refuse, on}
use Rattle.reader.specs.Scan.{scan, Out}
use Rattle.reader.specs.Answer.{Outcome, early, parse_abc, finish, unless, scanned}
use Rattle.blocks.specs.Blocks.{header, opening, blocks, rebuilt}
use Rattle.blocks.specs.Frame as frame
use Rattle.blocks.specs.Demand.{Demand-3, Hypotheses, Conclusion, voice_of, state_at_blocks, lines_at, Moved, Accepted, voices, only_part, only_voice, part_in, part_of, By-name}
use Rattle.blocks.proofs.Lyrics.{literal_stepwise}
use Rattle.blocks.proofs.Claim.{claim, items_in, from_blocks, settled as claim-settled}
use Rattle.blocks.proofs.Instance.{reader}
use Rattle.blocks.proofs.Scan.{music_lyric}
use Rattle.blocks.proofs.Keeps.{laws}

-- `parse_abc` IS THE FRAME'S ANSWER at the reader of its edition: after the scan, and for any refusal before it
result_is : (ed : Edition) (rl sl : ℕ) (o : Out) → scanned ed rl sl o ≡ frame.result (reader ed) rl sl o
unfolding scanned
result_is ed rl sl (refuse n l) = refl
result_is ed rl sl (on s a) = refl

answered_is : (ed : Edition) (text : List ℕ) (rl sl : ℕ) (o : Option Outcome) → unless ed text rl sl o ≡ frame.answered (reader ed) text rl sl o
unfolding unless scan
answered_is ed text rl sl none = result_is ed rl sl (scan ed (text_lines text))
answered_is ed text rl sl (some w) = refl

answer_is : (ed : Edition) (text : List ℕ) (rl sl : ℕ) → parse_abc ed text rl sl ≡ frame.answer (reader ed) text rl sl
unfolding parse_abc
answer_is ed text rl sl = answered_is ed text rl sl (early text rl sl)

-- the frame's claim at `parse_abc`
claimed : (ed : Edition) (text : List ℕ) (rl sl : ℕ) → Hypotheses ed text rl sl → frame.Conclusion (reader ed) text rl sl
unfolding scan
claimed ed text rl sl m =
    claim (reader ed) (laws ed) text rl sl
    (record {
      accepted = subst Accepted (answer_is ed text rl sl) m.accepted;
      ended = m.ended;
      known = m.known;
      sets_neither = inl m.sets_neither;
      sung = λ p. literal_stepwise (reader ed) (music_lyric ed) (lines_at ed text p) (m.sung p);
    })

-- THE ORDER OF THE VOICE BLOCKS CHANGES NO BYTE OF THE READING
pub demand_3 : (ed : Edition) → Demand-3 ed
unfolding scan
demand_3 ed text rl sl m = go (claimed ed text rl sl m)
  where
    go : frame.Conclusion (reader ed) text rl sl → Conclusion ed text rl sl
    go s =
        record {
          moved = λ bs h. answer_is ed (rebuilt text bs) rl sl ∙ s.moved bs h ∙ sym (answer_is ed text rl sl);
          apart = λ p rl' sl' a.
              ap (λ w. part_in w.verdict p) (answer_is ed text rl sl) ∙ s.apart p rl' sl' (subst Accepted (answer_is ed (only_part ed text p) rl' sl') a)
              ∙ sym (ap (λ w. part_in w.verdict p) (answer_is ed (only_part ed text p) rl' sl'));
          numbers = s.numbers;
          names = s.names;
        }

-- "accepted again"
pub again : (ed : Edition) (text : List ℕ) (rl sl : ℕ) → Hypotheses ed text rl sl → (bs : List (List TextLine)) → Moved (blocks text) bs → Accepted (parse_abc ed (rebuilt text bs) rl sl)
again ed text rl sl m bs h = subst Accepted (sym ((demand_3 ed text rl sl m).moved bs h)) m.accepted

-- the second half, by name
pub by_name : (ed : Edition) → By-name ed
by_name ed text rl sl m v hv rl' sl' = go (demand_3 ed text rl sl m)
  where
    p : ℕ
    p = index_of v (voices ed text)

    go : Conclusion ed text rl sl → Accepted (parse_abc ed (only_voice text v) rl' sl') → part_of ed text rl sl v ≡ part_of ed (only_voice text v) rl' sl' v
    go s =
        subst
        (λ (t : List ℕ). Accepted (parse_abc ed t rl' sl') → part_of ed text rl sl v ≡ part_of ed t rl' sl' v)
        (ap (rebuilt text) (s.names v hv))
        (λ a. s.apart p rl' sl' a ∙ ap (λ (is : List (List ℕ)). part_in (parse_abc ed (only_part ed text p) rl' sl').verdict (index_of v is)) (sym (s.numbers p)))

-- each block's voice is known where the first block begins
pub owned : (ed : Edition) (text : List ℕ) (rl sl : ℕ) → Hypotheses ed text rl sl → All (λ b. elem (voice_of b) (state_at_blocks ed text).env.voices ≡ true) (blocks text)
unfolding scan
owned ed text rl sl m = (claimed ed text rl sl m).owned

-- the answer by what each part's own blocks give (`settled` of proofs/Claim)
pub settled : (ed : Edition) (text : List ℕ) (rl sl : ℕ) → Hypotheses ed text rl sl
    → parse_abc ed text rl sl ≡ finish ed (state_at_blocks ed text).env (from_blocks (reader ed) (state_at_blocks ed text) (items_in (reader ed) (scan ed (header text ++ opening text))) (blocks text)) rl sl
unfolding scan
settled ed text rl sl m =
    answer_is ed text rl sl ∙ claim-settled (reader ed) (laws ed) text rl sl
    (record {
      accepted = subst Accepted (answer_is ed text rl sl) m.accepted;
      ended = m.ended;
      known = m.known;
      sets_neither = inl m.sets_neither;
      sung = λ p. literal_stepwise (reader ed) (music_lyric ed) (lines_at ed text p) (m.sung p);
    })
