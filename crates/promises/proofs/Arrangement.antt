-- ANY ARRANGEMENT COSTS THE SAME: two texts that meet the hypotheses of demand 3, begin alike and give each voice the same lines, in whatever order and number of
-- blocks, have one tally in the first edition; in the second one but for the syllables. Demand 3 says what each part's items are; the V: lines among them change no such count
-- (SameTally). Assumes nothing.
use Prim.Native.Nat.{ℕ, max}
use mathlib.Core.Path.{◌≡◌, refl, sym, ap, subst, ◌∙◌}
use mathlib.Core.Bool.{Bool, true}
use mathlib.Core.List.{List, [], ◌∷◌, ◌++◌, map, append_assoc}
use lib.Dec.{eqb}
use lib.ListN.{length}
use borrow.Author.Tests.{eqb-true}
use Rattle.laws.specs.Lists.{All, filter, concat, eq_text, elem, index_of}
use Rattle.laws.proofs.Lists.{All-filter, filter_passes}
use Rattle.standard.specs.Fields.{Meter}
use Rattle.editions.specs.declared.Edition.{Edition}
use Rattle.editions.specs.declared.Edition.TheVariants.{First}
use Rattle.reader.specs.Text.{text_lines}
use Rattle.reader.specs.Lines as lines
use Rattle.reader.specs.Lines.{is_v, Kind, kind_of}
use Rattle.reader.specs.Steps.{TextLine, items_of}
use Rattle.reader.specs.Scan.{Item, voice_declared, reset, key_in_header, key_change, meter_change, lyric_line, music_line, Env, ScanState, scan}
use Rattle.reader.specs.Answer.{Outcome, built, parts, finish, parse_abc}
use Rattle.reader.specs.Tally.{Counts, counts_of, tally}
use Rattle.blocks.specs.Blocks.{after_k, header, opening, blocks}
use Rattle.blocks.specs.Demand.{Accepted, voice_of, SetsNeither, Hypotheses, state_of, state_at_blocks}
use Rattle.blocks.proofs.Lists.{numbered_named}
use Rattle.blocks.proofs.TextLines.{Shape, blocks_shape}
use Rattle.blocks.proofs.LineKinds.{Names, voice_begins}
use Rattle.blocks.proofs.Runs.{emits, gathers}
use Rattle.blocks.proofs.Frame.{part}
use Rattle.blocks.proofs.Instance.{kind_items, reader}
use Rattle.blocks.proofs.Claim.{items_in, from_blocks}
use Rattle.blocks.proofs.End.{ended_reading}
use Rattle.blocks.proofs.Demand.{settled, owned}
use Rattle.promises.specs.Arrangement.{body_of, Rearranged, tally_of, notes_only}
use Rattle.promises.proofs.SameTally.{Unflagged, all_counts, note_counts_lem, built_reset, tallies, map_same}

-- ITEMS WITHOUT THE V: LINES
abbrev bare : List Item → List Item
bare [] = []
bare (voice_declared b ∷ is) = voice_declared b ∷ bare is
bare (reset ∷ is) = bare is
bare (key_in_header ∷ is) = key_in_header ∷ bare is
bare (key_change k ∷ is) = key_change k ∷ bare is
bare (meter_change m ∷ is) = meter_change m ∷ bare is
bare (lyric_line b t ∷ is) = lyric_line b t ∷ bare is
bare (music_line u m l ∷ is) = music_line u m l ∷ bare is

bare_append : (is js : List Item) → bare (is ++ js) ≡ bare is ++ bare js
bare_append [] js = refl
bare_append (voice_declared b ∷ is) js = ap (λ (z : List Item). voice_declared b ∷ z) (bare_append is js)
bare_append (reset ∷ is) js = bare_append is js
bare_append (key_in_header ∷ is) js = ap (λ (z : List Item). key_in_header ∷ z) (bare_append is js)
bare_append (key_change k ∷ is) js = ap (λ (z : List Item). key_change k ∷ z) (bare_append is js)
bare_append (meter_change m ∷ is) js = ap (λ (z : List Item). meter_change m ∷ z) (bare_append is js)
bare_append (lyric_line b t ∷ is) js = ap (λ (z : List Item). lyric_line b t ∷ z) (bare_append is js)
bare_append (music_line u m l ∷ is) js = ap (λ (z : List Item). music_line u m l ∷ z) (bare_append is js)

-- they count the same; f: what of the counts is looked at
module _ (ed : Edition) {X : Type 0} (f : Counts → X) (free : Unflagged ed f) (e : Env) where
  abbrev Same : List Item → List Item → Type 0
  Same is js = f (counts_of (built ed e is)) ≡ f (counts_of (built ed e js))

  next : (i : Item) (xs ys zs : List Item) → Same ((xs ++ (i ∷ [])) ++ ys) ((xs ++ (i ∷ [])) ++ zs) → Same (xs ++ (i ∷ ys)) (xs ++ (i ∷ zs))
  next i xs ys zs h =
      ap (λ (l : List Item). f (counts_of (built ed e l))) (sym (append_assoc xs (i ∷ []) ys)) ∙ h ∙ ap (λ (l : List Item). f (counts_of (built ed e l))) (append_assoc xs (i ∷ []) zs)

  bare_counts : (xs ys : List Item) → Same (xs ++ ys) (xs ++ bare ys)
  bare_counts xs [] = refl
  bare_counts xs (voice_declared b ∷ ys) = next (voice_declared b) xs ys (bare ys) (bare_counts (xs ++ (voice_declared b ∷ [])) ys)
  bare_counts xs (reset ∷ ys) = built_reset ed f free e xs ys ∙ bare_counts xs ys
  bare_counts xs (key_in_header ∷ ys) = next key_in_header xs ys (bare ys) (bare_counts (xs ++ (key_in_header ∷ [])) ys)
  bare_counts xs (key_change k ∷ ys) = next (key_change k) xs ys (bare ys) (bare_counts (xs ++ (key_change k ∷ [])) ys)
  bare_counts xs (meter_change m ∷ ys) = next (meter_change m) xs ys (bare ys) (bare_counts (xs ++ (meter_change m ∷ [])) ys)
  bare_counts xs (lyric_line b t ∷ ys) = next (lyric_line b t) xs ys (bare ys) (bare_counts (xs ++ (lyric_line b t ∷ [])) ys)
  bare_counts xs (music_line u m l ∷ ys) = next (music_line u m l) xs ys (bare ys) (bare_counts (xs ++ (music_line u m l ∷ [])) ys)

-- WHAT BLOCKS GIVE, without the V: lines, is what their lines give
module _ (ed : Edition) (e : Env) (u : ℕ) (m : Meter) where
  abbrev given : List TextLine → List Item
  given rs = emits (reader ed) e u m rs

  -- a row that sets neither L nor M
  given_row : (r : TextLine) (rs : List TextLine) → SetsNeither ed r → given (r ∷ rs) ≡ kind_items u m true (kind_of ed r) ++ given rs
  given_row r rs q = λ i. kind_items u m true (kind_of ed r) ++ emits (reader ed) e (q.0 u i) (q.1 m i) rs

  given_append : (xs ys : List TextLine) → All (SetsNeither ed) xs → given (xs ++ ys) ≡ given xs ++ given ys
  given_append [] ys q = refl
  given_append (r ∷ xs) ys q =
      given_row r (xs ++ ys) q.0
      ∙ ap (λ (z : List Item). kind_items u m true (kind_of ed r) ++ z) (given_append xs ys q.1)
      ∙ sym (append_assoc (kind_items u m true (kind_of ed r)) (given xs) (given ys))
      ∙ ap (λ (z : List Item). z ++ given ys) (sym (given_row r xs q.0))

  -- a V: line
  voice_bare : (v : List ℕ) (k : Kind) → Names v k → bare (kind_items u m true k) ≡ []
  voice_bare v lines.blank n = absurd n
  voice_bare v (lines.refused x) n = refl
  voice_bare v (lines.lyric t) n = absurd n
  voice_bare v (lines.voice w mid) n = refl
  voice_bare v (lines.key k) n = absurd n
  voice_bare v (lines.meter t) n = absurd n
  voice_bare v (lines.unit x) n = absurd n
  voice_bare v lines.tune n = absurd n
  voice_bare v lines.other n = absurd n
  voice_bare v (lines.music hi es l) n = absurd n

  block_bare : (b : List TextLine) → Shape b → All (SetsNeither ed) b → bare (given b) ≡ bare (given (body_of b))
  block_bare [] s q = absurd s
  block_bare (r ∷ rs) s q =
      ap bare (given_row r rs q.0)
      ∙ bare_append (kind_items u m true (kind_of ed r)) (given rs)
      ∙ ap (λ (z : List Item). z ++ bare (given rs)) (voice_bare (identifier_of r) (kind_of ed r) (voice_begins ed r s.0))
    where
      identifier_of : TextLine → List ℕ
      identifier_of r = voice_of (r ∷ [])

  body_neither : (b : List TextLine) → All (SetsNeither ed) b → All (SetsNeither ed) (body_of b)
  body_neither [] q = tt
  body_neither (r ∷ rs) q = q.1

  blocks_bare : (bs : List (List TextLine)) → All Shape bs → All (All (SetsNeither ed)) bs → bare (gathers (reader ed) e u m bs) ≡ bare (given (concat (map body_of bs)))
  blocks_bare [] s q = refl
  blocks_bare (b ∷ bs) s q =
      bare_append (given b) (gathers (reader ed) e u m bs)
      ∙ (λ i. block_bare b s.0 q.0 i ++ blocks_bare bs s.1 q.1 i)
      ∙ sym (bare_append (given (body_of b)) (given (concat (map body_of bs))))
      ∙ ap bare (sym (given_append (body_of b) (concat (map body_of bs)) (body_neither b q.0)))

-- THE BLOCKS OF A PART are those of one voice, or none
abbrev Owned : Env → List (List TextLine) → Type 0
Owned e bs = All (λ b. elem (voice_of b) e.voices ≡ true) bs

abbrev named : List ℕ → List (List TextLine) → List (List TextLine)
named v bs = filter (λ b. eq_text (voice_of b) v) bs

abbrev Found : Env → ℕ → List (List TextLine) → Type 0
Found e p [] = Unit {0}
Found e p (b ∷ bs) = (index_of (voice_of b) e.voices ≡ p) × (elem (voice_of b) e.voices ≡ true)

found : (ed : Edition) (e : Env) (p : ℕ) (bs : List (List TextLine)) → Owned e bs → Found e p (part (reader ed) e p bs)
found ed e p bs o = go (part (reader ed) e p bs) (filter_passes (λ b. eqb (index_of (voice_of b) e.voices) p) bs) (All-filter (λ b. eqb (index_of (voice_of b) e.voices) p) (λ b. elem (voice_of b) e.voices ≡ true) bs o)
  where
    go : (cs : List (List TextLine)) → All (λ b. eqb (index_of (voice_of b) e.voices) p ≡ true) cs → Owned e cs → Found e p cs
    go [] h o = tt
    go (b ∷ cs) h o = (eqb-true (index_of (voice_of b) e.voices) p h.0, o.0)

of_voice_lem : (ed : Edition) (e : Env) (v : List ℕ) (bs : List (List TextLine)) → elem v e.voices ≡ true → Owned e bs → part (reader ed) e (index_of v e.voices) bs ≡ named v bs
of_voice_lem ed e v bs h o = numbered_named voice_of e.voices v h bs o

abbrev bodies : List (List TextLine) → List TextLine
bodies bs = concat (map body_of bs)

part_lines : (ed : Edition) (e : Env) (p : ℕ) (bs cs : List (List TextLine)) → Owned e bs → Owned e cs → ((v : List ℕ) → bodies (named v bs) ≡ bodies (named v cs)) → bodies (part (reader ed) e p bs) ≡ bodies (part (reader ed) e p cs)
part_lines ed e p bs cs o q h = go (part (reader ed) e p bs) refl (found ed e p bs o) (part (reader ed) e p cs) refl (found ed e p cs q)
  where
    one : (v : List ℕ) → elem v e.voices ≡ true → index_of v e.voices ≡ p → bodies (part (reader ed) e p bs) ≡ bodies (part (reader ed) e p cs)
    one v k i =
        ap (λ (x : ℕ). bodies (part (reader ed) e x bs)) (sym i) ∙ ap bodies (of_voice_lem ed e v bs k o) ∙ h v ∙ ap bodies (sym (of_voice_lem ed e v cs k q)) ∙ ap (λ (x : ℕ). bodies (part (reader ed) e x cs)) i

    go : (xs : List (List TextLine)) → part (reader ed) e p bs ≡ xs → Found e p xs → (ys : List (List TextLine)) → part (reader ed) e p cs ≡ ys → Found e p ys → bodies (part (reader ed) e p bs) ≡ bodies (part (reader ed) e p cs)
    go [] ex fx [] ey fy = ap bodies (ex ∙ sym ey)
    go [] ex fx (y ∷ ys) ey fy = one (voice_of y) fy.1 fy.0
    go (x ∷ xs) ex fx ys ey fy = one (voice_of x) fx.1 fx.0

-- EACH PART
module _ (ed : Edition) {X : Type 0} (f : Counts → X) (free : Unflagged ed f) (s : ScanState) (a : List (ℕ × Item)) where
  part_counts : (bs cs : List (List TextLine)) → All Shape bs → All Shape cs → All (All (SetsNeither ed)) bs → All (All (SetsNeither ed)) cs → Owned s.env bs → Owned s.env cs
      → ((v : List ℕ) → bodies (named v bs) ≡ bodies (named v cs)) → (p : ℕ) → Same ed f free s.env (from_blocks (reader ed) s a bs p) (from_blocks (reader ed) s a cs p)
  part_counts bs cs sb sc qb qc ob oc h p =
      bare_counts ed f free e (items_of p a) (gathers (reader ed) e u m (part (reader ed) e p bs))
      ∙ ap (λ (l : List Item). f (counts_of (built ed e (items_of p a ++ l))))
      (blocks_bare ed e u m (part (reader ed) e p bs) (All-filter own Shape bs sb) (All-filter own (All (SetsNeither ed)) bs qb)
      ∙ ap (λ (rs : List TextLine). bare (given ed e u m rs)) (part_lines ed e p bs cs ob oc h)
      ∙ sym (blocks_bare ed e u m (part (reader ed) e p cs) (All-filter own Shape cs sc) (All-filter own (All (SetsNeither ed)) cs qc)))
      ∙ sym (bare_counts ed f free e (items_of p a) (gathers (reader ed) e u m (part (reader ed) e p cs)))
    where
      e : Env
      e = s.env

      u : ℕ
      u = s.unit

      m : Meter
      m = s.meter

      own : List TextLine → Bool
      own b = eqb (index_of (voice_of b) s.env.voices) p

-- an accepted end is a reading of its parts
tally_end : (ed : Edition) (e : Env) (f : ℕ → List Item) (rl sl : ℕ) (w : Outcome) → w ≡ finish ed e f rl sl → Accepted w → tally_of w.verdict ≡ tally (parts ed e f (max 1 (length e.voices)) 0)
unfolding finish
tally_end ed e f rl sl w q h =
    ap (λ (o : Outcome). tally_of o.verdict) q ∙ ap tally_of (ended_reading (parts ed e f (max 1 (length e.voices)) 0) rl sl (subst Accepted q h))

abbrev pub Any-arrangement : Edition → {X : Type 0} → (Counts → X) → Type 0
Any-arrangement ed f =
    (text text' : List ℕ) (rl sl rl' sl' : ℕ) → Hypotheses ed text rl sl → Hypotheses ed text' rl' sl' → Rearranged text text'
    → map f (tally_of (parse_abc ed text rl sl).verdict) ≡ map f (tally_of (parse_abc ed text' rl' sl').verdict)

arranged : (ed : Edition) {X : Type 0} (f : Counts → X) → Unflagged ed f → Any-arrangement ed f
arranged ed f free text text' rl sl rl' sl' h h' r =
    ap (map f) (tally_end ed (state_at_blocks ed text).env _ rl sl (parse_abc ed text rl sl) (settled ed text rl sl h) h.accepted)
    ∙ tallies ed f (state_at_blocks ed text).env _ _
    (λ p. part_counts ed f free (state_at_blocks ed text) (items_in (reader ed) (scan ed (header text ++ opening text))) (blocks text) (blocks text')
    (blocks_shape (after_k (text_lines text))) (blocks_shape (after_k (text_lines text'))) h.sets_neither h'.sets_neither
    (owned ed text rl sl h) (subst (λ (t : ScanState). Owned t.env (blocks text')) (sym same) (owned ed text' rl' sl' h')) r.lines_same p)
    (max 1 (length (state_at_blocks ed text).env.voices)) 0
    ∙ (λ i. map f (tally (parts ed (state_of (x i)).env (from_blocks (reader ed) (state_of (x i)) (items_in (reader ed) (x i)) (blocks text')) (max 1 (length (state_of (x i)).env.voices)) 0)))
    ∙ sym (ap (map f) (tally_end ed (state_at_blocks ed text').env _ rl' sl' (parse_abc ed text' rl' sl') (settled ed text' rl' sl' h') h'.accepted))
  where
    x : scan ed (header text ++ opening text) ≡ scan ed (header text' ++ opening text')
    x i = scan ed (r.header_same i ++ r.opening_same i)

    same : state_at_blocks ed text ≡ state_at_blocks ed text'
    same = ap state_of x

-- in the first edition: one tally
pub any_arrangement : (text text' : List ℕ) (rl sl rl' sl' : ℕ) → Hypotheses First text rl sl → Hypotheses First text' rl' sl' → Rearranged text text'
    → tally_of (parse_abc First text rl sl).verdict ≡ tally_of (parse_abc First text' rl' sl').verdict
any_arrangement text text' rl sl rl' sl' h h' r =
    sym (map_same (tally_of (parse_abc First text rl sl).verdict)) ∙ arranged First (λ c. c) all_counts text text' rl sl rl' sl' h h' r ∙ map_same (tally_of (parse_abc First text' rl' sl').verdict)

-- in every edition: the same measures, notes that are no rests, and rests
pub any_arrangement_notes : (ed : Edition) → Any-arrangement ed notes_only
any_arrangement_notes ed = arranged ed notes_only (note_counts_lem ed)
