-- CLOSING: what the code reads of a head and writes into it, and the passes over all heads.
use Prim.Native.Nat.{ℕ, zero, suc, ◌+◌, ◌-◌, ◌*◌, ◌^◌, ◌≤◌, ◌<◌}
use mathlib.Core.Path.{◌≡◌, refl, sym, ap, subst, ◌∙◌}
use mathlib.Core.Bool.{Bool, true, false, not, cond, ◌||◌}
use mathlib.Core.Option.{Option, none, some}
use Rattle.std.specs.Prelude as code
use Rattle.std.specs.Prelude.{None, Some}
use mathlib.Core.List.{List, [], ◌∷◌, ◌++◌, append_assoc}
use native.Mathlib.Nat.{zero-add}
use native.Mathlib.Omega.{arith}
use lib.Dec.{eqb}
use borrow.Author.Tests.{eq-eqb, eqb-true}
use lib.ListN.{length, get_or, length-append}
use Rattle.laws.specs.Lists.{All, sum}
use Rattle.laws.specs.Bytes.{part, splice, little, le32, u32_at}
use Rattle.laws.proofs.Bools.{by_test, both_true, or_right, cond_true, cond_false, cond_ap}
use Rattle.laws.proofs.Lists.{All-right, get_or_sum}
use Rattle.laws.proofs.Numbers.{length_little, little_bytes, little_little_at, little_at_own}
use Rattle.laws.proofs.Parts.{part_all}
use Rattle.standard.specs.Bars.{Barline, normal, repeat_start, repeat_end, repeat_both, double, final}
use Rattle.standard.specs.Keys.{Key}
use Rattle.reader.specs.State.{Note, Volta, no_volta, volta_begins, volta_ends, volta_alone}
use Rattle.reader.specs.Voltas.{ends_ending, is_start}
use Rattle.reader.specs.Codes.{barline_code, volta_code, mode_code}
use Rattle.reader.specs.Records.{key_mark_bytes, pass_bits, signed8, measure_width}
use Rattle.part_layout.specs.Log.{Head, with_volta, with_key_mark, is_empty_head, notes_in}
use Rattle.part_layout.specs.Ends.{dropped, starts, last_there, ends_at, close, marked_by, marked}
use Rattle.part_layout.specs.Lines.{Fits}
use Rattle.part_rows.specs.Table.{Table}
use Rattle.part_measures.specs.Heads.{head_row, no_notes, right_at, key_mark_at, volta_at, first_pass_at, passes_at}
use Rattle.part_measures.proofs.Heads.{length_head, head_mark, head_empty}
use Rattle.part_ends.specs.declared.Span.{Span}
use Rattle.part_ends.specs.Spans.{Small, Stands, SpanIs, closed_head, span_after}
use Rattle.part_rows.proofs.Zipped.{row_here, byte_here, u32_here, set_here, table_front}

-- BYTES OF A HEAD
pub right_byte : (m : Head) → get_or (head_row m) right_at 0 ≡ barline_code m.right
unfolding head_row little
right_byte m = refl

mark_by : (m : Head) (o : Option Key) → m.key ≡ o → get_or (head_row m) key_mark_at 0 ≡ get_or (key_mark_bytes o) 0 0
unfolding head_row little key_mark_bytes
mark_by m none e = rw (e, key_mark_bytes)
mark_by m (some k) e = rw (e, key_mark_bytes)

pub mark_byte_lem : (m : Head) → get_or (head_row m) key_mark_at 0 ≡ get_or (key_mark_bytes m.key) 0 0
mark_byte_lem m = mark_by m m.key refl

volta_by : (m : Head) (o : Option Key) → m.key ≡ o → get_or (head_row m) volta_at 0 ≡ volta_code m.volta
unfolding head_row little key_mark_bytes
volta_by m none e = rw (e, key_mark_bytes)
volta_by m (some k) e = rw (e, key_mark_bytes)

pub volta_byte : (m : Head) → get_or (head_row m) volta_at 0 ≡ volta_code m.volta
volta_byte m = volta_by m m.key refl

first_by : (m : Head) (o : Option Key) → m.key ≡ o → get_or (head_row m) first_pass_at 0 ≡ get_or m.passes 0 0
unfolding head_row little key_mark_bytes
first_by m none e = rw (e, key_mark_bytes)
first_by m (some k) e = rw (e, key_mark_bytes)

pub first_byte : (m : Head) → get_or (head_row m) first_pass_at 0 ≡ get_or m.passes 0 0
first_byte m = first_by m m.key refl

passes_by : (m : Head) (o : Option Key) → m.key ≡ o → part (head_row m) passes_at 4 ≡ le32 (pass_bits m.passes)
unfolding head_row little key_mark_bytes part
passes_by m none e = rw (e, key_mark_bytes)
passes_by m (some k) e = rw (e, key_mark_bytes)

-- bytes, and 0 past them
byte_or : (l : List ℕ) → All (λ b. b < 256) l → (i : ℕ) → get_or l i 0 < 256
byte_or [] h i = omega arith
byte_or (b ∷ l) h zero = h.0
byte_or (b ∷ l) h (suc i) = byte_or l h.1 i

-- a number's own bytes, read and written again
again : (n : ℕ) → le32 (u32_at (le32 n) 0) ≡ le32 n
again n =
    let l = le32 n in
    let four : length l ≡ 4 = length_little 4 n in
    little_little_at l (byte_or l (little_bytes 4 n)) 4 0 (omega arith) ∙ part_all l 4 (omega arith)

pub passes_again : (m : Head) (p : ℕ) → p ≡ u32_at (head_row m) passes_at → le32 p ≡ le32 (pass_bits m.passes)
passes_again m p e = ap le32 (e ∙ little_at_own 4 (head_row m) passes_at ∙ ap (λ (l : List ℕ). u32_at l 0) (passes_by m m.key refl)) ∙ again (pass_bits m.passes)

-- BYTES WRITTEN
alone_by : (m : Head) (o : Option Key) → m.key ≡ o → splice (head_row m) volta_at (3 ∷ []) ≡ head_row (with_volta volta_alone m.passes m)
unfolding head_row splice little key_mark_bytes volta_code
alone_by m none e = rw (e, key_mark_bytes)
alone_by m (some k) e = rw (e, key_mark_bytes)

pub head_alone : (m : Head) → splice (head_row m) volta_at (3 ∷ []) ≡ head_row (with_volta volta_alone m.passes m)
head_alone m = alone_by m m.key refl

ends_by : (m : Head) (ps : List ℕ) (o : Option Key) → m.key ≡ o → splice (head_row m) volta_at ((2 ∷ get_or ps 0 0 ∷ []) ++ le32 (pass_bits ps)) ≡ head_row (with_volta volta_ends ps m)
unfolding head_row splice little key_mark_bytes volta_code
ends_by m ps none e = rw (e, key_mark_bytes)
ends_by m ps (some k) e = rw (e, key_mark_bytes)

pub head_ends : (m : Head) (ps : List ℕ) → splice (head_row m) volta_at ((2 ∷ get_or ps 0 0 ∷ []) ++ le32 (pass_bits ps)) ≡ head_row (with_volta volta_ends ps m)
head_ends m ps = ends_by m ps m.key refl

-- NUMBERS AND CASES
pub ends_code : (b : Barline) (c : ℕ) → c ≡ barline_code b → (eqb c 2 || eqb c 3 || eqb c 5) ≡ ends_ending b
unfolding ends_ending
ends_code normal c e = rw e
ends_code repeat_start c e = rw e
ends_code repeat_end c e = rw e
ends_code repeat_both c e = rw e
ends_code double c e = rw e
ends_code final c e = rw e

starts_by : (v : Volta) (c : ℕ) → c ≡ volta_code v → eqb c 1 ≡ is_start v
unfolding volta_code is_start
starts_by no_volta c e = rw e
starts_by volta_begins c e = rw e
starts_by volta_ends c e = rw e
starts_by volta_alone c e = rw e

pub starts_code : (m : Head) (b : Bool) (c : ℕ) → b ≡ eqb c 1 → c ≡ get_or (head_row m) volta_at 0 → b ≡ starts m
unfolding starts
starts_code m b c t e = t ∙ starts_by m.volta c (e ∙ volta_byte m)

-- WHERE AN ENDING ENDS
pub ends_right : (m : Head) (b : List Head) → ends_ending m.right ≡ true → true ≡ ends_at m b
unfolding ends_at
ends_right m b e = rw e

pub ends_last : (m : Head) (b : List Head) → length b ≡ 0 → true ≡ ends_at m b
unfolding ends_at last_there
ends_last m [] h = sym (or_right (ends_ending m.right) true refl)
ends_last m (x ∷ b) h = absurd (omega arith)

next_by : (s : List ℕ) (at n i : ℕ) (a b : List Head) (m : Head) → Stands s at n i a m b → (i + 1 ≡ n → ⊥) → ends_ending m.right ≡ false → (c : Bool) → c ≡ eqb (get_or s (at + measure_width * (i + 1) + volta_at) 0) 1
    → c ≡ ends_at m b
unfolding ends_at last_there
next_by s at n i a [] m h k e c q = absurd (k (omega (arith, h.here, h.all)))
next_by s at n i a (x ∷ b) m h k e c q =
    let t = subst (λ (l : List Head). Table head_row measure_width s at l) (sym (append_assoc a (m ∷ []) (x ∷ b))) h.table in
    let here : length (a ++ (m ∷ [])) ≡ i + 1 = length-append a (m ∷ []) ∙ omega (arith, h.here) in
    rw e (starts_code x c _ q (byte_here head_row measure_width length_head (a ++ (m ∷ [])) x b t here volta_at (omega arith)))

pub ends_next : (s : List ℕ) (at n i : ℕ) (a b : List Head) (m : Head) → Stands s at n i a m b → (i + 1 ≡ n → ⊥) → ends_ending m.right ≡ false → (c : Bool) → c ≡ eqb (get_or s (at + measure_width * (i + 1) + volta_at) 0) 1
    → c ≡ ends_at m b
ends_next s at n i a b m h k e c q = next_by s at n i a b m h k e c q

-- one measure
pub close_step : (o : Option (List ℕ)) (m : Head) (b : List Head) → close o (m ∷ b) ≡ closed_head o m b ∷ close (span_after o m b) b
unfolding close closed_head span_after
close_step none m b =
    by_test (starts m) (λ e. by_test (ends_at m b) (λ f. rw (e, close, closed_head, span_after) (rw (f, close, closed_head, span_after))) (λ f. rw (e, close, closed_head, span_after) (rw (f, close, closed_head, span_after)))) (λ e. rw (e, close, closed_head, span_after))
close_step (some ps) m b = by_test (ends_at m b) (λ e. rw (e, close, closed_head, span_after)) (λ e. rw (e, close, closed_head, span_after))

pub length_close : (o : Option (List ℕ)) (heads : List Head) → length (close o heads) ≡ length heads
unfolding close
length_close none [] = refl
length_close (some ps) [] = refl
length_close none (m ∷ b) = ap length (close_step none m b) ∙ ap suc (length_close (span_after none m b) b)
length_close (some ps) (m ∷ b) = ap length (close_step (some ps) m b) ∙ ap suc (length_close (span_after (some ps) m b) b)

-- what the step answers: the row closed, and the ending open behind it
abbrev pub Steps : List ℕ → ℕ → List Head → Head → List Head → Option (List ℕ) → code.Option Span → Type 0
Steps t at a m b o r = Table head_row measure_width t at (a ++ (closed_head o m b ∷ b)) × SpanIs r (span_after o m b)

module _ {s : List ℕ} {at n i : ℕ} {a b : List Head} {m : Head} (h : Stands s at n i a m b) where
  -- byte k of the row
  pub byte_of : (k : ℕ) → k < measure_width → get_or s (at + measure_width * i + k) 0 ≡ get_or (head_row m) k 0
  byte_of k l = byte_here head_row measure_width length_head a m b h.table h.here k l

  pub set_of : (t : List ℕ) (f : ℕ) (bs : List ℕ) (y : Head) → t ≡ splice s (at + measure_width * i + f) bs → f + length bs ≤ measure_width → splice (head_row m) f bs ≡ head_row y → Table head_row measure_width t at (a ++ (y ∷ b))
  set_of = set_here head_row measure_width length_head a m b h.table h.here

  -- AN ENDING IS OPEN
  -- and goes on
  pub open_on : (o : Option (List ℕ)) (r : Span) → SpanIs (Some r) o → ends_at m b ≡ false → Steps s at a m b o (Some r)
  unfolding closed_head span_after
  open_on none r q e = absurd q
  open_on (some ps) r q e = rw (e, closed_head, span_after) (h.table, q)

  -- and ends
  pub open_ends : (o : Option (List ℕ)) (r : Span) (t : List ℕ) → SpanIs (Some r) o → ends_at m b ≡ true
      → t ≡ splice s (at + measure_width * i + volta_at) ((2 ∷ r.first ∷ []) ++ le32 r.passes) → Steps t at a m b o None
  unfolding closed_head span_after
  open_ends none r t q e w = absurd q
  open_ends (some ps) r t q e w =
      let bytes : (2 ∷ r.first ∷ []) ++ le32 r.passes ≡ (2 ∷ get_or ps 0 0 ∷ []) ++ le32 (pass_bits ps) = rw (q.0, q.1) in
      rw (e, closed_head, span_after) (set_of t volta_at _ (with_volta volta_ends ps m) (w ∙ ap (splice s (at + measure_width * i + volta_at)) bytes) (omega (arith, length_little 4 (pass_bits ps))) (head_ends m ps), tt)

  -- NONE IS OPEN
  -- and none starts
  pub none_on : (o : Option (List ℕ)) → SpanIs None o → starts m ≡ false → Steps s at a m b o None
  unfolding closed_head span_after
  none_on none q e = rw (e, closed_head, span_after) (h.table, tt)
  none_on (some ps) q e = absurd q

  -- one starts and ends
  pub none_alone : (o : Option (List ℕ)) (t : List ℕ) → SpanIs None o → starts m ≡ true → ends_at m b ≡ true
      → t ≡ splice s (at + measure_width * i + volta_at) (3 ∷ []) → Steps t at a m b o None
  unfolding closed_head span_after
  none_alone none t q e f w = rw (e, closed_head, span_after) (rw (f, closed_head, span_after) (set_of t volta_at (3 ∷ []) (with_volta volta_alone m.passes m) w (omega arith) (head_alone m), tt))
  none_alone (some ps) t q e f w = absurd q

  -- one starts
  pub none_starts : (o : Option (List ℕ)) (r : Span) → SpanIs None o → starts m ≡ true → ends_at m b ≡ false
      → r.first ≡ get_or s (at + measure_width * i + first_pass_at) 0 → r.passes ≡ u32_at s (at + measure_width * i + passes_at) → Steps s at a m b o (Some r)
  unfolding closed_head span_after
  none_starts none r q e f y z =
      rw (e, closed_head, span_after) (rw (f, closed_head, span_after) (
        h.table,
        (y ∙ byte_of first_pass_at (omega arith) ∙ first_byte m, passes_again m r.passes (z ∙ u32_here head_row measure_width length_head a m b h.table h.here passes_at (omega arith))),
      ))
  none_starts (some ps) r q e f y z = absurd q

-- ALL MEASURES: those done, and those to come with the ending that is open before them
pub record Going (s : List ℕ) (at n i : ℕ) (r : code.Option Span) (heads : List Head) : Type 0 where
  pub done : List Head
  pub rest : List Head
  pub span : Option (List ℕ)
  pub table : Table head_row measure_width s at (done ++ rest)
  pub here : length done ≡ i
  pub all : length done + length rest ≡ n
  pub gives : done ++ close span rest ≡ close none heads
  pub kept : SpanIs r span

pub going_start : (s : List ℕ) (at n : ℕ) (heads : List Head) → Table head_row measure_width s at heads → length heads ≡ n → Going s at n 0 None heads
going_start s at n heads t h = record { done = []; rest = heads; span = none; table = t; here = refl; all = zero-add (length heads) ∙ h; gives = refl; kept = tt }

turn_by : {s t : List ℕ} {at n i : ℕ} {r r' : code.Option Span} {heads : List Head} (g : Going s at n i r heads) (rest : List Head) → g.rest ≡ rest → i < n
    → ((a b : List Head) (m : Head) (o : Option (List ℕ)) → Stands s at n i a m b → SpanIs r o → Steps t at a m b o r') → Going t at n (i + 1) r' heads
turn_by g [] e l f = absurd (omega (arith, g.here, g.all, ap length e))
turn_by {s} {t} {at} {n} {i} {r} {r'} {heads} g (m ∷ b) e l f =
    let o = g.span in
    let a = g.done in
    let (tab, sp) = f a b m o (record { table = subst (λ (x : List Head). Table head_row measure_width s at (a ++ x)) e g.table; here = g.here; all = omega (arith, g.all, ap length e) }) g.kept in
    let x = closed_head o m b in
    record {
      done = a ++ (x ∷ []);
      rest = b;
      span = span_after o m b;
      table = rw (append_assoc a (x ∷ []) b) tab;
      here = length-append a (x ∷ []) ∙ omega (arith, g.here);
      all = rw (length-append a (x ∷ [])) (omega (arith, g.all, ap length e));
      gives =
          append_assoc a (x ∷ []) (close (span_after o m b) b) ∙ ap (λ (l : List Head). a ++ l) (sym (close_step o m b)) ∙ ap (λ (l : List Head). a ++ close o l) (sym e) ∙ g.gives;
      kept = sp;
    }

pub going_turn : {s t : List ℕ} {at n i : ℕ} {r r' : code.Option Span} {heads : List Head} → Going s at n i r heads → i < n
    → ((a b : List Head) (m : Head) (o : Option (List ℕ)) → Stands s at n i a m b → SpanIs r o → Steps t at a m b o r') → Going t at n (i + 1) r' heads
going_turn g l f = turn_by g g.rest refl l f

end_by : {s : List ℕ} {at n i : ℕ} {r : code.Option Span} {heads : List Head} (g : Going s at n i r heads) (rest : List Head) → g.rest ≡ rest → n ≤ i → Table head_row measure_width s at (close none heads)
unfolding close
end_by {s} {at} g [] e l =
    subst (λ (x : List Head). Table head_row measure_width s at x) (ap (λ (x : List Head). g.done ++ x) (e ∙ nothing g.span) ∙ ap (λ (x : List Head). g.done ++ close g.span x) (sym e) ∙ g.gives) g.table
  where
    nothing : (o : Option (List ℕ)) → [] ≡ close o []
    nothing none = refl
    nothing (some ps) = refl
end_by g (m ∷ b) e l = absurd (omega (arith, g.here, g.all, ap length e))

pub going_end : {s : List ℕ} {at n i : ℕ} {r : code.Option Span} {heads : List Head} → Going s at n i r heads → n ≤ i → Table head_row measure_width s at (close none heads)
going_end g l = end_by g g.rest refl l

-- THE FIRST MEASURE'S KEY
first_of : {s : List ℕ} {at n : ℕ} (m : Head) (b : List Head) → Table head_row measure_width s at (m ∷ b) → length (m ∷ b) ≡ n → Stands s at n 0 [] m b
first_of m b t h = record { table = t; here = refl; all = omega arith }

has_mark : (o : Option Key) (c : ℕ) → c ≡ get_or (key_mark_bytes o) 0 0 → (c ≡ 0 → ⊥) → (header : Key) (m : Head) → marked_by header m o ≡ m
unfolding key_mark_bytes marked_by
has_mark none c e h header m = absurd (h e)
has_mark (some k) c e h header m = refl

no_mark : (o : Option Key) (c : ℕ) → c ≡ get_or (key_mark_bytes o) 0 0 → c ≡ 0 → (header : Key) (m : Head) → marked_by header m o ≡ with_key_mark header m
unfolding key_mark_bytes marked_by mode_code
no_mark none c e h header m = refl
no_mark (some k) c e h header m = absurd (by_test k.minor (λ q. let z = rw q at e in omega arith) (λ q. let z = rw q at e in omega arith))

-- by the byte of the mark
pub marked_byte : (b : Bool) (c : ℕ) → b ≡ not (eqb c 0) → b ≡ true → c ≡ 0 → ⊥
marked_byte b c e t z = both_true b t (e ∙ ap not (eq-eqb c 0 z))

pub unmarked_byte : (b : Bool) (c : ℕ) → b ≡ not (eqb c 0) → b ≡ false → c ≡ 0
unmarked_byte b c e f = by_test (eqb c 0) (λ t. eqb-true c 0 t) (λ n. absurd (both_true b (e ∙ ap not n) f))

module _ (header : Key) {s : List ℕ} {at n : ℕ} where
  pub marked_nothing : (heads : List Head) → Table head_row measure_width s at heads → length heads ≡ n → n ≡ 0 → Table head_row measure_width s at (marked header heads)
  unfolding marked
  marked_nothing [] t h z = t
  marked_nothing (m ∷ b) t h z = absurd (omega arith)

  pub marked_already : (heads : List Head) → Table head_row measure_width s at heads → length heads ≡ n → (n ≡ 0 → ⊥) → (c : ℕ) → c ≡ get_or s (at + measure_width * 0 + key_mark_at) 0 → (c ≡ 0 → ⊥) → Table head_row measure_width s at (marked header heads)
  unfolding marked
  marked_already [] t h z c e k = absurd (z (sym h))
  marked_already (m ∷ b) t h z c e k =
      rw (has_mark m.key _ (e ∙ byte_of (first_of m b t h) key_mark_at (omega arith) ∙ mark_byte_lem m) k header m) t

  pub marked_now : (heads : List Head) (u : List ℕ) → Table head_row measure_width s at heads → length heads ≡ n → (n ≡ 0 → ⊥) → (c : ℕ) → c ≡ get_or s (at + measure_width * 0 + key_mark_at) 0 → c ≡ 0
      → u ≡ splice s (at + measure_width * 0 + key_mark_at) (mode_code header.minor ∷ signed8 header.fifths ∷ []) → Table head_row measure_width u at (marked header heads)
  unfolding marked
  marked_now [] u t h z c e k w = absurd (z (sym h))
  marked_now (m ∷ b) u t h z c e k w =
      let f = first_of m b t h in
      rw (no_mark m.key _ (e ∙ byte_of f key_mark_at (omega arith) ∙ mark_byte_lem m) k header m)
      (set_of f u key_mark_at (mode_code header.minor ∷ signed8 header.fifths ∷ []) (with_key_mark header m) w (omega arith) (head_mark m header))

-- THE EMPTY MEASURE AT THE END
few : (heads : List Head) → length heads < 2 → dropped heads ≡ heads
unfolding dropped
few [] h = refl
few (m ∷ []) h = refl
few (m ∷ x ∷ []) h = absurd (omega arith)
few (m ∷ x ∷ y ∷ l) h = absurd (omega arith)

dropped_last : (b : List Head) (x : Head) → 0 < length b → dropped (b ++ (x ∷ [])) ≡ cond (is_empty_head x) b (b ++ (x ∷ []))
unfolding dropped
dropped_last [] x h = absurd (omega arith)
dropped_last (m ∷ []) x h = refl
dropped_last (m ∷ y ∷ []) x h = cond_ap (λ (l : List Head). m ∷ l) (is_empty_head x) (y ∷ []) (y ∷ x ∷ [])
dropped_last (m ∷ y ∷ z ∷ b) x h = ap (λ (l : List Head). m ∷ l) (dropped_last (y ∷ z ∷ b) x (omega arith)) ∙ cond_ap (λ (l : List Head). m ∷ l) (is_empty_head x) (y ∷ z ∷ b) (y ∷ z ∷ b ++ (x ∷ []))

-- a list by its last
record Last (heads : List Head) (k : ℕ) : Type 0 where
  pub front : List Head
  pub end : Head
  pub whole : heads ≡ front ++ (end ∷ [])
  pub count : length front ≡ k

last_of : (heads : List Head) (k : ℕ) → length heads ≡ k + 1 → Last heads k
last_of [] k h = absurd (omega arith)
last_of (m ∷ []) k h = record { front = []; end = m; whole = refl; count = omega arith }
last_of (m ∷ x ∷ l) zero h = absurd (omega arith)
last_of (m ∷ x ∷ l) (suc k) h =
    let r = last_of (x ∷ l) k (omega arith) in
    record { front = m ∷ r.front; end = r.end; whole = ap (λ (l : List Head). m ∷ l) r.whole; count = ap suc r.count }

-- what the code answers
abbrev pub Drops : List ℕ → ℕ → List Head → ℕ → Type 0
Drops s at heads r = (r ≡ length (dropped heads)) × Table head_row measure_width s at (dropped heads)

drops_as : (s : List ℕ) (at : ℕ) (heads l : List Head) (r : ℕ) → dropped heads ≡ l → r ≡ length l → Table head_row measure_width s at l → Drops s at heads r
drops_as s at heads l r e h t = rw e (h, t)

module _ {s : List ℕ} {at : ℕ} (n : ℕ) where
  pub drops_few : (heads : List Head) → Table head_row measure_width s at heads → length heads ≡ n → n < 2 → Drops s at heads n
  drops_few heads t h l = drops_as s at heads heads n (few heads (omega arith)) (sym h) t

  empty_end : (heads : List Head) (q : Last heads (n - 1)) → Table head_row measure_width s at heads → All Small heads → no_notes s (at + measure_width * (n - 1)) ≡ is_empty_head q.end
  empty_end heads q t h =
      let u = subst (λ (l : List Head). Table head_row measure_width s at l) q.whole t in
      let z = (All-right Small q.front (q.end ∷ []) (subst (All Small) q.whole h)).0 in
      head_empty s (at + measure_width * (n - 1)) q.end (row_here head_row measure_width length_head q.front q.end [] u q.count) z.four z.small

  pub drops_one : (heads : List Head) → Table head_row measure_width s at heads → length heads ≡ n → All Small heads → (n < 2 → ⊥) → no_notes s (at + measure_width * (n - 1)) ≡ true → Drops s at heads (n - 1)
  drops_one heads t h small k e =
      let q = last_of heads (n - 1) (omega arith) in
      let u = subst (λ (l : List Head). Table head_row measure_width s at l) q.whole t in
      let more : 0 < length q.front = omega (arith, q.count) in
      drops_as s at heads q.front (n - 1) (ap dropped q.whole ∙ dropped_last q.front q.end more ∙ cond_true _ _ _ (sym (empty_end heads q t small) ∙ e)) (sym q.count) (table_front head_row measure_width length_head q.front (q.end ∷ []) u)

  pub drops_none : (heads : List Head) → Table head_row measure_width s at heads → length heads ≡ n → All Small heads → (n < 2 → ⊥) → no_notes s (at + measure_width * (n - 1)) ≡ false → Drops s at heads n
  drops_none heads t h small k e =
      let q = last_of heads (n - 1) (omega arith) in
      let more : 0 < length q.front = omega (arith, q.count) in
      drops_as s at heads heads n (ap dropped q.whole ∙ dropped_last q.front q.end more ∙ cond_false _ _ _ (sym (empty_end heads q t small) ∙ e) ∙ sym q.whole) (sym h) t

-- WHAT CALLERS NEED
small_by : (heads : List Head) → All (λ (m : Head). length m.counts ≡ 4) heads → sum notes_in heads < 2 ^ 32 → All Small heads
unfolding notes_in
small_by [] four h = tt
small_by (m ∷ b) four h = (record { four = four.0; small = λ v l. omega (arith, get_or_sum m.counts v) }, small_by b four.1 (omega arith))

-- the counts of heads that fit a log fit four bytes
pub fits_small : (heads : List Head) (log : List (ℕ × Note)) → Fits heads log → length log < 2 ^ 32 → All Small heads
fits_small heads log f h = small_by heads f.four_counts (omega (arith, f.all_notes_lem))

-- as many heads as there are then
pub length_end : (header : Key) (heads : List Head) → length (marked header (close none (dropped heads))) ≡ length (dropped heads)
unfolding marked
length_end header heads = length_marked (close none (dropped heads)) ∙ length_close none (dropped heads)
  where
    length_marked : (l : List Head) → length (marked header l) ≡ length l
    length_marked [] = refl
    length_marked (m ∷ l) = refl
