-- THE FRAME: demand 3 over any reader that goes from line to line. `Reader` holds a reader's definitions and no proofs, `Laws` what they have to
-- satisfy, `Claim` the demand. proofs/Claim proves the claim from the laws; proofs/Scan and proofs/End prove the laws of `parse_abc`.
-- Two editions are two readers: the instance in proofs/Instance takes the edition, and the claim is applied once more.
use Rattle.std.specs.Prelude.{ℕ, suc, ◌+◌, ◌≤◌, ◌<◌, ◌≡◌, ◌⊎◌, ◌↔◌, Bool, true, false, cond, ◌&&◌, ◌||◌, List, [], ◌∷◌, ◌++◌, eqb, length}
use Rattle.std.proofs.Math.Option.{Option, none, some}
use Rattle.laws.specs.Lists.{All, filter, concat, eq_text, elem, index_of}
use Rattle.reader.specs.Text.{text_lines}
use Rattle.reader.specs.Lines.{is_v, is_k, is_l, is_m, is_lyric}
use Rattle.reader.specs.Steps.{TextLine, Step, refuse, on, run, items_of, tag}
use Rattle.blocks.specs.Blocks.{closed, ends_lf, header, opening, blocks, rebuilt}

pub record Reader : Type 1 where
  pub State : Type 0
  pub Env : Type 0
  pub Item : Type 0
  pub Meter : Type 0
  pub Ans : Type 0
  pub Part : Type 0
  -- the scan
  pub start : State
  pub step : State → TextLine → Step State Item
  -- what is read off a state: all that later lines and the end may use and that no line of a block changes; the part being read; the
  -- notes so far; the lines so far; whether part p has a place for its verses
  pub env : State → Env
  pub cur : State → ℕ
  -- L and M in force
  pub unit_in : State → ℕ
  pub meter_in : State → Meter
  pub notes : State → ℕ
  pub lines : State → ℕ
  pub verse_place : State → ℕ → Bool
  -- the header is over; the identifiers named so far, in order
  pub Body : Env → Type 0
  pub ids : Env → List (List ℕ)
  -- what is read off a line: a V: line's identifier; whether it is given to `parse_body_line` (after the first K: line); the notes in it;
  -- that nothing in it alone is refused; what it makes of L and of M; and its items, where its part has a place for verses or has none
  pub ident : TextLine → List ℕ
  pub is_music : TextLine → Bool
  pub note_count : TextLine → ℕ
  pub NotRefused : TextLine → Type 0
  pub after_l : TextLine → ℕ → ℕ
  pub after_m : TextLine → Meter → Meter
  pub line_items : Env → ℕ → Meter → Bool → TextLine → List Item
  -- an item that a music line gives
  pub is_music_item : Item → Bool
  -- the most notes and lines
  pub max_notes : ℕ
  pub max_lines : ℕ
  -- the answer, with what both stores hold: the refusals before the first line (of a text and the stores' lengths), the scan's
  -- (number and line, the stores' lengths), and the end (each part's items, the stores' lengths)
  pub early : List ℕ → ℕ → ℕ → Option Ans
  pub late : ℕ → ℕ → ℕ → ℕ → Ans
  pub finish : Env → (ℕ → List Item) → ℕ → ℕ → Ans
  -- an answer that is a reading, and its part p: five counts and five sections
  pub Accepted : Ans → Type 0
  pub part_of : Ans → ℕ → Part
  -- what `early` looks at: the text's length against the stores', whether it is UTF-8, whether it is blank
  pub Fits : ℕ → ℕ → Type 0
  pub Utf8 : List ℕ → Type 0
  pub Blank : List ℕ → Type 0

module _ (R : Reader) where
  abbrev pub result : ℕ → ℕ → Step R.State R.Item → R.Ans
  result rl sl (refuse n l) = R.late n l rl sl
  result rl sl (on s a) = R.finish (R.env s) (λ p. items_of p a) rl sl

  -- the answer for a text, a reading store of rl bytes and a scratch store of sl
  abbrev pub answered : List ℕ → ℕ → ℕ → Option R.Ans → R.Ans
  answered text rl sl (some a) = a
  answered text rl sl none = result rl sl (run R.step R.start (text_lines text))

  abbrev pub answer : List ℕ → ℕ → ℕ → R.Ans
  answer text rl sl = answered text rl sl (R.early text rl sl)

  -- THE WORDS OF DEMAND 3

  -- the identifier that names a block's voice: its first line's
  abbrev pub ident_of : List TextLine → List ℕ
  ident_of [] = []
  ident_of (r ∷ rs) = R.ident r

  -- `bs` is the blocks in another order, each voice's own kept in order
  abbrev pub Moved : List (List TextLine) → List (List TextLine) → Type 0
  Moved old new = (v : List ℕ) → filter (λ b. eq_text (ident_of b) v) new ≡ filter (λ b. eq_text (ident_of b) v) old

  -- `v` is named by a V: line among the lines
  abbrev pub named : List ℕ → List TextLine → Bool
  named v [] = false
  named v (r ∷ rs) = (is_v r && eq_text (R.ident r) v) || named v rs

  -- a line leaves L and M as it finds them, whatever they are
  abbrev pub SetsNeither : TextLine → Type 0
  SetsNeither r = ((u : ℕ) → R.after_l r u ≡ u) × ((m : R.Meter) → R.after_m r m ≡ m)

  -- a block that brings its own L and M: its V: line, then an L: line and an M: line, and from both a value is taken whatever was in force before.
  -- The demand asks of blocks that they set neither; the claim covers these, too
  abbrev pub Brings : List TextLine → Type 0
  Brings [] = ⊥
  Brings (v ∷ []) = ⊥
  Brings (v ∷ (l ∷ [])) = ⊥
  Brings (v ∷ (l ∷ (m ∷ rs))) =
      (is_l l ≡ true) × (is_m m ≡ true) × ((u w : ℕ) → R.after_l l u ≡ R.after_l l w) × ((x y : R.Meter) → R.after_m m x ≡ R.after_m m y)

  -- the state when the first block begins (or at the text's end), of a text that is accepted
  abbrev pub state_of : Step R.State R.Item → R.State
  state_of (refuse n l) = R.start
  state_of (on s a) = s

  abbrev pub before : List ℕ → R.State
  before text = state_of (run R.step R.start (header text ++ opening text))

  -- the identifiers of a text's voices, in the order of their parts
  abbrev pub voices : List ℕ → List (List ℕ)
  voices text = R.ids (R.env (state_of (run R.step R.start (text_lines text))))

  -- the number of the part whose block this is, and the blocks of part p
  abbrev pub is_part : List (List ℕ) → ℕ → List TextLine → Bool
  is_part is p b = eqb (index_of (ident_of b) is) p

  abbrev pub blocks_at : List ℕ → ℕ → List (List TextLine)
  blocks_at text p = filter (is_part (R.ids (R.env (before text))) p) (blocks text)

  -- the lines of part p after the first K: line
  abbrev pub lines_at : List ℕ → ℕ → List TextLine
  lines_at text p = cond (eqb (R.cur (before text)) p) (opening text) [] ++ concat (blocks_at text p)

  -- some line is music
  abbrev pub Music : List TextLine → Type 0
  Music [] = ⊥
  Music (r ∷ rs) = (R.is_music r ≡ true) ⊎ Music rs

  -- each lyric line has a music line before it, unless P
  abbrev pub LyricsAfterMusic : Type 0 → List TextLine → Type 0
  LyricsAfterMusic P [] = Unit {0}
  LyricsAfterMusic P (r ∷ rs) = (is_lyric r ≡ true → P) × LyricsAfterMusic (P ⊎ (R.is_music r ≡ true)) rs

  -- the text with the blocks of all voices but part p's removed
  abbrev pub only_part : List ℕ → ℕ → List ℕ
  only_part text p = rebuilt text (blocks_at text p)

  pub record Hypotheses (text : List ℕ) (rl sl : ℕ) : Type 0 where
    pub accepted : R.Accepted (answer text rl sl)
    pub ended : ends_lf text ≡ true
    pub known : All (λ b. named (ident_of b) (header text) ≡ true) (blocks text)
    pub sets_neither : All (All SetsNeither) (blocks text) ⊎ All Brings (blocks text)
    -- in a part with music each lyric line has a music line before it
    pub sung : (p : ℕ) → Music (lines_at text p) → LyricsAfterMusic ⊥ (lines_at text p)

  pub record Conclusion (text : List ℕ) (rl sl : ℕ) : Type 0 where
    pub moved : (bs : List (List TextLine)) → Moved (blocks text) bs → answer (rebuilt text bs) rl sl ≡ answer text rl sl
    pub apart : (p rl' sl' : ℕ) → R.Accepted (answer (only_part text p) rl' sl') → R.part_of (answer text rl sl) p ≡ R.part_of (answer (only_part text p) rl' sl') p
    pub numbers : (p : ℕ) → voices (only_part text p) ≡ voices text
    pub names : (v : List ℕ) → elem v (voices text) ≡ true → blocks_at text (index_of v (voices text)) ≡ filter (λ b. eq_text (ident_of b) v) (blocks text)
    -- each block's voice is known where the first block begins
    pub owned : All (λ b. elem (ident_of b) (R.ids (R.env (before text))) ≡ true) (blocks text)

  abbrev pub Claim : Type 0
  Claim = (text : List ℕ) (rl sl : ℕ) → Hypotheses text rl sl → Conclusion text rl sl

  -- WHAT THE DEFINITIONS HAVE TO SATISFY

  -- the line goes through, in any state s with nothing of `env` changed, as a line of part p
  abbrev pub GoesThrough : R.State → TextLine → ℕ → Type 0
  GoesThrough s r p =
      (t : R.State) × (R.step s r ≡ on t (tag p (R.line_items (R.env s) (R.unit_in s) (R.meter_in s) (R.verse_place s p) r))) × (R.env t ≡ R.env s) × (R.cur t ≡ p) ×
      (R.unit_in t ≡ R.after_l r (R.unit_in s)) × (R.meter_in t ≡ R.after_m r (R.meter_in s))

  -- no item of a music line
  abbrev pub NoMusic : List R.Item → Type 0
  NoMusic is = All (λ i. R.is_music_item i ≡ false) is

  -- notes and lines are within the limits
  abbrev pub WithinLimits : R.State → Type 0
  WithinLimits s = (R.notes s ≤ R.max_notes) × (R.lines s ≤ R.max_lines)

  pub record Laws : Type 0 where
    -- counting: a line that goes through adds its line and its notes, and stays within the limits
    pub start_within : WithinLimits R.start
    pub stays_within : (s t : R.State) (r : TextLine) (a : List (ℕ × R.Item)) → WithinLimits s → R.step s r ≡ on t a → WithinLimits t
    pub line : (s t : R.State) (r : TextLine) (a : List (ℕ × R.Item)) → R.step s r ≡ on t a → R.lines t ≡ suc (R.lines s)
    pub note : (s t : R.State) (r : TextLine) (a : List (ℕ × R.Item)) → R.Body (R.env s) → R.step s r ≡ on t a → R.notes t ≡ R.notes s + R.note_count r
    -- the header ends with a K: line and does not come back
    pub body_K : (s t : R.State) (r : TextLine) (a : List (ℕ × R.Item)) → R.step s r ≡ on t a → is_k r ≡ true → R.Body (R.env t)
    pub body : (s t : R.State) (r : TextLine) (a : List (ℕ × R.Item)) → R.step s r ≡ on t a → R.Body (R.env s) → R.Body (R.env t)
    -- a V: line names its voice, and a name is never lost
    pub names : (s t : R.State) (r : TextLine) (a : List (ℕ × R.Item)) → R.step s r ≡ on t a → is_v r ≡ true → elem (R.ident r) (R.ids (R.env t)) ≡ true
    pub keeps : (s t : R.State) (r : TextLine) (a : List (ℕ × R.Item)) → R.step s r ≡ on t a → (v : List ℕ) → elem v (R.ids (R.env s)) ≡ true → elem v (R.ids (R.env t)) ≡ true
    -- after the header only a V: line changes the part that is read
    pub stays : (s t : R.State) (r : TextLine) (a : List (ℕ × R.Item)) → R.Body (R.env s) → is_v r ≡ false → R.step s r ≡ on t a → R.cur t ≡ R.cur s
    -- a music line makes its part's place for verses, and a place is never lost
    pub verse_place_stays : (s t : R.State) (r : TextLine) (a : List (ℕ × R.Item)) → R.step s r ≡ on t a → (p : ℕ) → R.verse_place s p ≡ true → R.verse_place t p ≡ true
    pub verse_place_music : (s t : R.State) (r : TextLine) (a : List (ℕ × R.Item)) → R.Body (R.env s) → R.is_music r ≡ true → R.step s r ≡ on t a → R.verse_place t (R.cur s) ≡ true
    pub music_V : (r : TextLine) → R.is_music r ≡ true → is_v r ≡ false
    pub music_L : (r : TextLine) → is_l r ≡ true → R.is_music r ≡ false
    pub music_M : (r : TextLine) → is_m r ≡ true → R.is_music r ≡ false
    pub music_w : (r : TextLine) → R.is_music r ≡ true → is_lyric r ≡ false
    -- only a lyric line's items tell whether there is a place for verses; only a music line gives a music line's items, and it makes the place
    pub verse_place_unseen : (e : R.Env) (u : ℕ) (m : R.Meter) (b : Bool) (r : TextLine) → is_lyric r ≡ false → R.line_items e u m b r ≡ R.line_items e u m true r
    -- only a music line's items tell L and M
    pub unit_meter_unseen : (e : R.Env) (u w : ℕ) (m n : R.Meter) (b : Bool) (r : TextLine) → R.is_music r ≡ false → R.line_items e u m b r ≡ R.line_items e w n b r
    pub no_music : (e : R.Env) (u : ℕ) (m : R.Meter) (b : Bool) (r : TextLine) → R.is_music r ≡ false → NoMusic (R.line_items e u m b r)
    pub placed : (s t : R.State) (r : TextLine) (a : List (ℕ × R.Item)) → R.step s r ≡ on t a → (p : ℕ) → R.verse_place t p ≡ false → NoMusic (items_of p a)
    -- a line that goes through has nothing in it that is refused; and one that has not goes through anywhere in the blocks, within the limits
    pub fine : (s t : R.State) (r : TextLine) (a : List (ℕ × R.Item)) → R.Body (R.env s) → R.step s r ≡ on t a → R.NotRefused r
    pub goes : (s : R.State) (r : TextLine) → R.Body (R.env s) → is_v r ≡ false → R.NotRefused r → R.notes s + R.note_count r ≤ R.max_notes → R.lines s < R.max_lines → GoesThrough s r (R.cur s)
    pub goes_V : (s : R.State) (r : TextLine) → R.Body (R.env s) → is_v r ≡ true → elem (R.ident r) (R.ids (R.env s)) ≡ true → R.NotRefused r → R.notes s + R.note_count r ≤ R.max_notes → R.lines s < R.max_lines → GoesThrough s r (index_of (R.ident r) (R.ids (R.env s)))
    -- the answer: no refusal is a reading; a part is made of `env`, its number and its own items, and without music its items do not matter
    pub early_no : (text : List ℕ) (rl sl : ℕ) (a : R.Ans) → R.early text rl sl ≡ some a → R.Accepted a → ⊥
    pub late_no : (n l rl sl : ℕ) → R.Accepted (R.late n l rl sl) → ⊥
    pub alike : (e : R.Env) (f g : ℕ → List R.Item) (rl sl : ℕ) → ((p : ℕ) → (f p ≡ g p) ⊎ (NoMusic (f p) × NoMusic (g p))) → R.finish e f rl sl ≡ R.finish e g rl sl
    pub part : (e : R.Env) (f g : ℕ → List R.Item) (rl sl rl' sl' p : ℕ) → R.Accepted (R.finish e f rl sl) → R.Accepted (R.finish e g rl' sl') → f p ≡ g p → R.part_of (R.finish e f rl sl) p ≡ R.part_of (R.finish e g rl' sl') p
    -- before the first line: nothing but the length, and two tests that go line by line
    pub early_iff : (text : List ℕ) (rl sl : ℕ) → (R.early text rl sl ≡ none) ↔ (R.Fits (length text) sl × R.Utf8 text × (R.Blank text → ⊥))
    pub utf8_line : (r t : List ℕ) → closed r ≡ true → R.Utf8 (r ++ t) ↔ (R.Utf8 r × R.Utf8 t)
    pub utf8_nil : R.Utf8 []
    pub blank_line : (r t : List ℕ) → closed r ≡ true → R.Blank (r ++ t) ↔ (R.Blank r × R.Blank t)
    pub blank_nil : R.Blank []
