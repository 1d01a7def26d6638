-- The loop over the lines: what is done, put before the run of what is left, stays the run of the whole.
use Prim.Native.Nat.{ℕ, ◌+◌, ◌-◌, ◌≤◌, ◌<◌}
use mathlib.Core.Path.{◌≡◌, refl, sym, ap, subst, ◌∙◌}
use mathlib.Core.Bool.{Bool, true, false, false≢true}
use mathlib.Core.List.{List, [], ◌∷◌, ◌++◌, append-nil, append_assoc}
use native.Mathlib.Omega.{arith}
use lib.ListN.{length, take, drop}
use borrow.Author.Tests.{lt-ltb, le-ltb}
use Rattle.std.specs.Prelude.{Result, Ok, Err}
use Rattle.laws.specs.Bytes.{between}
use Rattle.laws.proofs.Parts.{part_cut, length_part, length_between}
use Rattle.editions.specs.declared.Edition.{Edition}
use Rattle.reader.specs.Text.{text_lines}
use Rattle.reader.specs.Lines.{kind_of}
use Rattle.reader.specs.Steps.{TextLine, Step, refuse, on, first, run}
use Rattle.reader.specs.Scan.{ScanState, Out, begin, act, step, scan}
use Rattle.reader.specs.Answer.{scratch_needed}
use Rattle.refusals.specs.declared.Refusal.{Refusal}
use Rattle.refusals.specs.declared.Refused.{Refused}
use Rattle.text_lines.specs.Lines.{LineEnd, CleanEnd, kind_as, class_of}
use Rattle.text_lines.specs.declared.Class.{Class}
use Rattle.text_lines.specs.declared.Class.TheVariants as C
use Rattle.text_lines.proofs.LineEnds.{rows_over}
use Rattle.text_lines.proofs.Classes.{row_long, row_kind}
use Rattle.scan_table.specs.Rows.{voices_in, items_in}
use Rattle.scan_table.proofs.Rows.{voices_none, items_none}
use Rattle.scan_states.specs.declared.State.{State}
use Rattle.scan_states.specs.States.{state_with, state_in, out_in, refused_in, Follows, Stepped}
use Rattle.scan_states.proofs.Items.{by_kind, refused_kind}
use Rattle.scan.specs.Scanned.{Open, LinesFit, Line, shared_of, ScanIs}
use Rattle.scan.proofs.Music.{music_told}

-- RUNS
module _ {S I : Type 0} (f : S → TextLine → Step S I) where
  first_first : (a b : List (ℕ × I)) (x : Step S I) → first a (first b x) ≡ first (a ++ b) x
  first_first a b (refuse n l) = refl
  first_first a b (on s c) = ap (λ (d : List (ℕ × I)). on s d) (sym (append_assoc a b c))

  pub first_none : (x : Step S I) → first [] x ≡ x
  first_none (refuse n l) = refl
  first_none (on s b) = refl

  -- the rows behind one that came to x
  abbrev pub onward : List TextLine → Step S I → Step S I
  onward rs (refuse n l) = refuse n l
  onward rs (on t b) = first b (run f t rs)

  run_row : (s : S) (r : TextLine) (rs : List TextLine) → run f s (r ∷ rs) ≡ onward rs (f s r)
  run_row s r rs = go (f s r)
    where
      go : (x : Step S I) → (elim x as (λ y. Step S I) [ refuse n l ↦ refuse n l | on t b ↦ first b (run f t rs) ]) ≡ onward rs x
      go (refuse n l) = refl
      go (on t b) = refl

  first_onward : (a : List (ℕ × I)) (rs : List TextLine) (x : Step S I) → first a (onward rs x) ≡ onward rs (first a x)
  first_onward a rs (refuse n l) = refl
  first_onward a rs (on t b) = first_first a b (run f t rs)

  -- a row more
  pub run_on : (a : List (ℕ × I)) (s : S) (r : TextLine) (rs : List TextLine) → first a (run f s (r ∷ rs)) ≡ onward rs (first a (f s r))
  run_on a s r rs = ap (first a) (run_row s r rs) ∙ first_onward a rs (f s r)

  -- no row more
  pub run_end : (a : List (ℕ × I)) (s : S) → first a (run f s []) ≡ on s a
  run_end a s = ap (λ (d : List (ℕ × I)). on s d) (append-nil a)

-- ONE LINE
module _ (ed : Edition) (text s : List ℕ) (st : State) (row : List ℕ) where
  step_in : st.lines < 10000 → step ed (state_in text s st) row ≡ act (state_in text s st) (kind_of ed row) st.in_header
  unfolding step
  step_in h = rw (lt-ltb st.lines 10000 h)

  -- refusal 4
  pub too_many_lines : (s' : List ℕ) → 10000 ≤ st.lines → Line text s st (step ed (state_in text s st) row) s' (Err (refused_in st Refusal.TooManyLines))
  unfolding step
  too_many_lines s' h = record { stepped = record { is = rw (le-ltb st.lines 10000 h); follows = tt }; lines_fit = tt }

  lines_after : (r : Result State Refused) → Follows st r → st.lines < 10000 → LinesFit r
  lines_after (Ok t) f h = omega (arith, f.0)
  lines_after (Err r) f h = tt

  from_act : (s' : List ℕ) (r : Result State Refused) → st.lines < 10000 → Stepped text s st (act (state_in text s st) (kind_of ed row) st.in_header) s' r → Line text s st (step ed (state_in text s st) row) s' r
  from_act s' r h x =
      record { stepped = subst (λ (o : Out). Stepped text s st o s' r) (sym (step_in h)) x; lines_fit = lines_after r x.follows h }

module _ (ed : Edition) (text s : List ℕ) (st : State) (from to e : ℕ) (c : CleanEnd text from to e) (high : to ≤ length text) (few : st.lines < 10000) (s' : List ℕ) where
  long : length (between text from e) ≡ e - from
  long = length_between text from e (omega (arith, c.high))

  -- refusal 5
  pub too_long : 1048576 < e - from → Line text s st (step ed (state_in text s st) (between text from to)) s' (Err (refused_in st Refusal.LineTooLong))
  too_long h = from_act ed text s st (between text from to) s' _ few (refused_kind _ Refusal.LineTooLong _ (row_long ed text from to e c (rw long h)))

  -- by its class
  pub by_class : (k : Class) (r : Result State Refused) → e - from ≤ 1048576 → k ≡ class_of (between text from e)
      → Stepped text s st (act (state_in text s st) (kind_as ed (between text from e) k) st.in_header) s' r → Line text s st (step ed (state_in text s st) (between text from to)) s' r
  by_class k r h x y = from_act ed text s st (between text from to) s' r few (by_kind _ _ _ (row_kind ed text from to e c k x (rw long h)) y)

-- a line of these classes has its letter and its colon
abbrev has_colon : Class → Bool
has_colon C.Blank = false
has_colon C.Lyric = true
has_colon C.Voice = true
has_colon C.Key = true
has_colon C.Unit = true
has_colon C.Meter = true
has_colon C.Tune = true
has_colon C.Other = true
has_colon C.Music = false

two_bytes : (l : List ℕ) → has_colon (class_of l) ≡ true → 2 ≤ length l
two_bytes [] h = absurd (false≢true h)
two_bytes (x ∷ []) h = absurd (false≢true h)
two_bytes (x ∷ y ∷ l) h = omega arith

pub letter_and_colon : (text : List ℕ) (from end : ℕ) (k v : Class) → end ≤ length text → k ≡ class_of (between text from end) → k ≡ v → has_colon v ≡ true → from + 2 ≤ end
letter_and_colon text from end k v h e q c =
    let two : 2 ≤ length (between text from end) = two_bytes (between text from end) (ap has_colon (sym e ∙ q) ∙ c) in
    omega (arith, length_between text from end h)

-- the line as it is lent
pub lent_long : (text : List ℕ) (from end : ℕ) → end ≤ length text → from + 2 ≤ end → 2 ≤ length (take (end - from) (drop from text))
lent_long text from end h l =
    let n : length (take (end - from) (drop from text)) ≡ end - from = ap length (part_cut text from (end - from)) ∙ length_part text from (end - from) (omega arith) in
    omega (arith, n)

-- THE LOOP
-- before the line at `at`
pub record Head (ed : Edition) (text s₀ s : List ℕ) (st : State) (at : ℕ) : Type 0 where
  pub within : at ≤ length text
  pub kept : length s ≡ length s₀
  pub lines_fit : st.lines ≤ 10000
  pub voices_fit : st.voices ≤ 32
  pub part_fits : st.part < 32
  pub items_fit_lem : st.items ≤ at + st.voices
  pub ahead : first (items_in text s st.items) (run (step ed) (state_in text s st) (text_lines (drop at text))) ≡ scan ed (text_lines text)

module _ (ed : Edition) (text s₀ : List ℕ) where
  pub head_start : (st : State) → state_with [] st ≡ begin → st.voices ≡ 0 → st.items ≡ 0 → Head ed text s₀ s₀ st 0
  unfolding begin scan
  head_start st e v i =
      let l : st.lines ≡ 0 = ap (λ (t : ScanState). t.lines) e in
      let p : st.part ≡ 0 = ap (λ (t : ScanState). t.part) e in
      let h : state_in text s₀ st ≡ begin = ap (λ (n : ℕ). state_with (voices_in text s₀ n) st) v ∙ ap (λ (vs : List (List ℕ)). state_with vs st) (voices_none text s₀) ∙ e in
      let a : items_in text s₀ st.items ≡ [] = ap (items_in text s₀) i ∙ items_none text s₀ in
      record {
        within = omega arith;
        kept = refl;
        lines_fit = omega arith;
        voices_fit = omega arith;
        part_fits = omega arith;
        items_fit_lem = omega arith;
        ahead = (λ j. first (a j) (run (step ed) (h j) (text_lines text))) ∙ first_none (step ed) (run (step ed) begin (text_lines text));
      }

  module _ (s : List ℕ) (st : State) (at : ℕ) (h : Head ed text s₀ s st at) where
    pub head_open : scratch_needed (length text) ≤ length s₀ → Open (length s) st
    unfolding scratch_needed
    head_open room =
        record { lines_fit = h.lines_fit; voices_fit = h.voices_fit; part_fits = h.part_fits; room = omega (arith, h.items_fit_lem, h.voices_fit, h.within, h.kept) }

    -- the run from a line on
    next : (to : ℕ) (s' : List ℕ) (r : Result State Refused) → LineEnd text at to → Line text s st (step ed (state_in text s st) (between text at to)) s' r
        → onward (step ed) (text_lines (drop to text)) (out_in text s' r) ≡ scan ed (text_lines text)
    next to s' r e x =
        ap (onward (step ed) (text_lines (drop to text))) x.stepped.is
        ∙ sym (run_on (step ed) (items_in text s st.items) (state_in text s st) (between text at to) (text_lines (drop to text)))
        ∙ ap (λ (rs : List TextLine). first (items_in text s st.items) (run (step ed) (state_in text s st) rs)) (sym e.rest)
        ∙ h.ahead

    pub head_refused : (to : ℕ) (s' : List ℕ) (r : Result State Refused) (f : Refused) → LineEnd text at to → Line text s st (step ed (state_in text s st) (between text at to)) s' r → r ≡ Err f
        → ScanIs ed text s' (Err f)
    head_refused to s' r f e x q =
        record { answered = sym (subst (λ (t : Result State Refused). onward (step ed) (text_lines (drop to text)) (out_in text s' t) ≡ scan ed (text_lines text)) q (next to s' r e x)) }

    pub head_turn : (to : ℕ) (s' : List ℕ) (r : Result State Refused) (t : State) → LineEnd text at to → Line text s st (step ed (state_in text s st) (between text at to)) s' r → r ≡ Ok t → length s' ≡ length s
        → Head ed text s₀ s' t to
    head_turn to s' r t e x q k =
        let f = subst (Follows st) q x.stepped.follows in
        let m = subst LinesFit q x.lines_fit in
        record {
          within = e.inside;
          kept = k ∙ h.kept;
          lines_fit = m;
          voices_fit = f.1.0;
          part_fits = f.1.1.0;
          items_fit_lem = omega (arith, f.1.1.1, h.items_fit_lem, e.past);
          ahead = subst (λ (y : Result State Refused). onward (step ed) (text_lines (drop to text)) (out_in text s' y) ≡ scan ed (text_lines text)) q (next to s' r e x);
        }

    -- every line was read
    pub head_done : length text ≤ at → ScanIs ed text s (Ok (shared_of st))
    head_done w =
        let run-all : scan ed (text_lines text) ≡ on (state_in text s st) (items_in text s st.items) =
        sym h.ahead ∙ ap (λ (rs : List TextLine). first (items_in text s st.items) (run (step ed) (state_in text s st) rs)) (rows_over text at w) ∙ run_end (step ed) (items_in text s st.items) (state_in text s st) in
        record {
          answered = record {
            state = state_in text s st;
            scanned = run-all;
            voices = refl;
            key = refl;
            music = music_told ed (text_lines text) (state_in text s st) (items_in text s st.items) run-all;
            few_voices = h.voices_fit;
            room = omega (arith, h.items_fit_lem, h.within);
          };
        }
