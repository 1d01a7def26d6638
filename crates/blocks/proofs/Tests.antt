-- THE SUPPOSITIONS OF THE DEMAND AS TESTS: where each passes, a text that is accepted is meant. For the examples, and for whoever must decide of a text. Assumes nothing.
use Prim.Native.Nat.{ℕ, ◌<◌, ◌≤◌}
use mathlib.Core.Path.{◌≡◌, ap, ◌∙◌}
use mathlib.Core.Bool.{Bool, true, false, cond, ◌&&◌}
use mathlib.Core.List.{List, [], ◌∷◌, ◌++◌}
use native.Mathlib.Omega.{arith}
use lib.Dec.{eqb, ltb}
use borrow.Author.Tests.{ltb-true, ltb-false, ne_eqb}
use Rattle.laws.specs.Lists.{All, all, concat, index_of, all_below}
use Rattle.laws.proofs.Bools.{by_test, and_left, and_right}
use Rattle.laws.proofs.Lists.{all_All, All-map, filter_none}
use Rattle.laws.proofs.Finite.{below}
use Rattle.standard.specs.Fields.{Meter}
use Rattle.editions.specs.declared.Edition.{Edition}
use Rattle.reader.specs.Lines.{kind_of}
use Rattle.reader.specs.Steps.{TextLine}
use Rattle.reader.specs.Answer.{parse_abc}
use Rattle.blocks.specs.Blocks.{ends_lf, header, opening, blocks}
use Rattle.blocks.specs.Kinds.{unit_after, meter_after}
use Rattle.blocks.specs.Demand.{Accepted, voice_of, named, SetsNeither, state_at_blocks, blocks_at, lines_at, LyricsBehind, Hypotheses}
use Rattle.blocks.proofs.Instance.{reader}
use Rattle.blocks.proofs.Lyrics.{behind?}
use Rattle.blocks.proofs.Sets.{leaves_l, leaves_m, leaves_L, leaves_M}
use Rattle.blocks.proofs.Words.{test_lyrics}

-- THE SUPPOSITIONS, one by one
abbrev pub Known : List ℕ → Type 0
Known t = All (λ b. named (voice_of b) (header t) ≡ true) (blocks t)

abbrev pub QuietL : Edition → List ℕ → Type 0
QuietL ed t = All (All (λ r. (u : ℕ) → unit_after (kind_of ed r) u ≡ u)) (blocks t)

abbrev pub QuietM : Edition → List ℕ → Type 0
QuietM ed t = All (All (λ r. (m : Meter) → meter_after (kind_of ed r) m ≡ m)) (blocks t)

abbrev pub Behind : Edition → List ℕ → Type 0
Behind ed t = (p : ℕ) → LyricsBehind ed (lines_at ed t p)

-- and their tests
abbrev pub known? : List ℕ → Bool
known? t = all (λ b. named (voice_of b) (header t)) (blocks t)

abbrev pub quiet_l? : Edition → List ℕ → Bool
quiet_l? ed t = all (λ b. all (λ r. leaves_l (kind_of ed r)) b) (blocks t)

abbrev pub quiet_m? : Edition → List ℕ → Bool
quiet_m? ed t = all (λ b. all (λ r. leaves_m (kind_of ed r)) b) (blocks t)

-- the lyric condition of the parts below n; no block and no line before the blocks belongs to another
abbrev pub behind_below? : Edition → ℕ → List ℕ → Bool
behind_below? ed n t = ltb (state_at_blocks ed t).part n && all (λ b. ltb (index_of (voice_of b) (state_at_blocks ed t).env.voices) n) (blocks t) && all_below n (λ p. behind? (reader ed) (lines_at ed t p))

pub known_test : (t : List ℕ) → known? t ≡ true → Known t
known_test t h = all_All (λ b. named (voice_of b) (header t)) (blocks t) h

each : {A : Type 0} (p : A → Bool) (P : A → Type 0) → ((x : A) → p x ≡ true → P x) → (xs : List A) → all p xs ≡ true → All P xs
each p P f xs h = All-map (λ x. p x ≡ true) P f xs (all_All p xs h)

pub quiet_l_test : (ed : Edition) (t : List ℕ) → quiet_l? ed t ≡ true → QuietL ed t
quiet_l_test ed t h =
    each (λ b. all (λ r. leaves_l (kind_of ed r)) b) (All (λ r. (u : ℕ) → unit_after (kind_of ed r) u ≡ u))
    (λ b k. each (λ r. leaves_l (kind_of ed r)) (λ r. (u : ℕ) → unit_after (kind_of ed r) u ≡ u) (λ r e. leaves_L (kind_of ed r) e) b k)
    (blocks t) h

pub quiet_m_test : (ed : Edition) (t : List ℕ) → quiet_m? ed t ≡ true → QuietM ed t
quiet_m_test ed t h =
    each (λ b. all (λ r. leaves_m (kind_of ed r)) b) (All (λ r. (m : Meter) → meter_after (kind_of ed r) m ≡ m))
    (λ b k. each (λ r. leaves_m (kind_of ed r)) (λ r. (m : Meter) → meter_after (kind_of ed r) m ≡ m) (λ r e. leaves_M (kind_of ed r) e) b k)
    (blocks t) h

above_no : (k n p : ℕ) → ltb k n ≡ true → ltb p n ≡ false → eqb k p ≡ false
above_no k n p h q = ne_eqb k p (λ e. no (ltb-true k n h) (ltb-false p n q) e)
  where
    no : k < n → n ≤ p → k ≡ p → ⊥
    no a b c = omega (arith, a, b, c)

pub behind_test : (ed : Edition) (n : ℕ) (t : List ℕ) → behind_below? ed n t ≡ true → Behind ed t
behind_test ed n t h p =
    by_test (ltb p n) (λ e. test_lyrics ed (lines_at ed t p) (below n (λ q. behind? (reader ed) (lines_at ed t q)) parts p (ltb-true p n e)))
    (λ e. test_lyrics ed (lines_at ed t p) (ap (behind? (reader ed)) (none_above e)))
  where
    place : ltb (state_at_blocks ed t).part n ≡ true
    place = and_left (ltb (state_at_blocks ed t).part n) _ (and_left _ (all_below n (λ q. behind? (reader ed) (lines_at ed t q))) h)

    owners : all (λ b. ltb (index_of (voice_of b) (state_at_blocks ed t).env.voices) n) (blocks t) ≡ true
    owners = and_right (ltb (state_at_blocks ed t).part n) _ (and_left _ (all_below n (λ q. behind? (reader ed) (lines_at ed t q))) h)

    parts : all_below n (λ q. behind? (reader ed) (lines_at ed t q)) ≡ true
    parts =
        and_right (ltb (state_at_blocks ed t).part n && all (λ b. ltb (index_of (voice_of b) (state_at_blocks ed t).env.voices) n) (blocks t)) _ h

    none_above : ltb p n ≡ false → lines_at ed t p ≡ []
    none_above e =
        (λ i. cond (above_no (state_at_blocks ed t).part n p place e i) (opening t) [] ++ concat (blocks_at ed t p))
        ∙ ap concat
        (filter_none (λ b. eqb (index_of (voice_of b) (state_at_blocks ed t).env.voices) p) (blocks t)
        (each (λ b. ltb (index_of (voice_of b) (state_at_blocks ed t).env.voices) n) (λ b. eqb (index_of (voice_of b) (state_at_blocks ed t).env.voices) p ≡ false)
        (λ b k. above_no (index_of (voice_of b) (state_at_blocks ed t).env.voices) n p k e)
        (blocks t) owners))

-- all of them: what is left to the reader is that the text is accepted
both_set_neither : (ed : Edition) (bs : List (List TextLine)) → All (All (λ r. (u : ℕ) → unit_after (kind_of ed r) u ≡ u)) bs → All (All (λ r. (m : Meter) → meter_after (kind_of ed r) m ≡ m)) bs → All (All (SetsNeither ed)) bs
both_set_neither ed [] l m = tt
both_set_neither ed (b ∷ bs) l m = (lines_set_neither b l.0 m.0, both_set_neither ed bs l.1 m.1)
  where
    lines_set_neither : (rs : List TextLine) → All (λ r. (u : ℕ) → unit_after (kind_of ed r) u ≡ u) rs → All (λ r. (m : Meter) → meter_after (kind_of ed r) m ≡ m) rs → All (SetsNeither ed) rs
    lines_set_neither [] l m = tt
    lines_set_neither (r ∷ rs) l m = ((l.0, m.0), lines_set_neither rs l.1 m.1)

pub meant_test : (ed : Edition) (n : ℕ) (t : List ℕ) (rl sl : ℕ) → Accepted (parse_abc ed t rl sl) → ends_lf t ≡ true → known? t ≡ true → quiet_l? ed t ≡ true → quiet_m? ed t ≡ true → behind_below? ed n t ≡ true → Hypotheses ed t rl sl
meant_test ed n t rl sl a e k l m b =
    record { accepted = a; ended = e; known = known_test t k; sets_neither = both_set_neither ed (blocks t) (quiet_l_test ed t l) (quiet_m_test ed t m); sung = behind_test ed n t b }
