-- THE OPEN MEASURE CHANGED, and what a barline does, from the code's writes to the definition.
use Prim.Native.Nat.{ℕ, zero, suc, ◌+◌, ◌-◌, ◌*◌, ◌≤◌, ◌<◌}
use mathlib.Core.Path.{◌≡◌, refl, sym, ap, subst, ◌∙◌}
use mathlib.Core.Bool.{Bool, true, false}
use mathlib.Core.List.{List, [], ◌∷◌, ◌++◌}
use native.Mathlib.Nat.{not-suc-le-zero}
use native.Mathlib.Omega.{arith}
use lib.ListN.{length, get_or, length-append}
use Rattle.laws.specs.Bytes.{splice, le32, little}
use Rattle.laws.specs.Lists.{alter_at}
use Rattle.laws.proofs.Splices.{splice_nil}
use Rattle.standard.specs.Bars as standard
use Rattle.standard.specs.Bars.{normal, repeat_start, repeat_end, repeat_both, double, final}
use Rattle.reader.specs.Barlines.{left_of}
use Rattle.reader.specs.Codes.{barline_code}
use Rattle.reader.specs.Records.{pass_bits, measure_width}
use Rattle.reader.specs.Token as token
use Rattle.reader.specs.State.{volta_begins, no_scopes, with_time}
use Rattle.part_layout.specs.Log.{Head, LogState, with_right, with_meter, with_volta, new_head, on_last_head, on_open, open_is_empty, is_empty_head, left_set, ended_heads, ended_last, on_barline, on_token, set_line}
use Rattle.part_layout.specs.Lines.{Standing}
use Rattle.token_symbols.specs.declared.Barline.{Barline}
use Rattle.token_symbols.specs.Bars.{barline_for}
use Rattle.part_rows.specs.Table.{Only}
use Rattle.part_rows.proofs.Tables.{table_row, only_splice, only_then}
use Rattle.part_measures.specs.Heads.{head_row, new_row, no_notes, left_at, right_at, meter_at, volta_at}
use Rattle.part_measures.proofs.Heads.{length_head, new_row_lem, head_left, head_right, head_meter, head_volta, head_empty}
use Rattle.part_scopes.specs.Scopes.{Scoped}
use Rattle.part_scopes.proofs.Scopes.{scoped_none, scoped_behind}
use Rattle.part_registers.specs.declared.Counts.{Counts}
use Rattle.part_registers.specs.declared.Tables.{Tables}
use Rattle.part_registers.specs.declared.Registers.{Registers}
use Rattle.part_invariant.specs.Invariant.{Room, Stored, Represents, RepresentedInLine, pitches_in, Grows, Simulates}
use Rattle.part_invariant.proofs.Stores.{head_altered, head_pushed, head_pushed_only}
use Rattle.part_invariant.proofs.Logs.{last_head, count_most, counts_4}
use Rattle.part_invariant.proofs.Appending.{some_head, room_same}
use Rattle.part_bars.specs.Bars.{code_of, left_store, nowhere, ended, opened, timed}

-- there is a head
pub some_head_lem : (l : LogState) → Standing l → 0 < length l.heads
some_head_lem l st = omega (arith, ap length st.heads_are, length-append st.older (st.open_head ∷ []))

pub represented_heads : {t : Tables} {s : List ℕ} {r : Registers} → RepresentedInLine t s r → 0 < r.counts.heads
represented_heads h = omega (arith, some_head_lem h.state h.standing, h.represents.stored.heads_are)

-- ROOM FOR LESS
pub room_less : (t : Tables) (c : Counts) (n h : ℕ) → Room t c n h 0 0 0 → Room t c n 0 0 0 0
room_less t c n h room =
    record { for_heads = omega (arith, room.for_heads); for_notes = room.for_notes; for_pitches = room.for_pitches; for_scopes = room.for_scopes; ends = room.ends; small = room.small }

-- A WRITE INTO THE OPEN HEAD
module _ {t : Tables} {s : List ℕ} {r : Registers} (room : Room t r.counts (length s) 0 0 0 0) (s' : List ℕ) (f : ℕ) (bs : List ℕ) (e : s' ≡ splice s (t.heads + measure_width * (r.counts.heads - 1) + f) bs) (k : f + length bs ≤ measure_width)
    (l : LogState) (some : 0 < length l.heads) (h : Represents t s r [] l) where
  at_last : r.counts.heads - 1 < length l.heads
  at_last = omega (arith, some, h.stored.heads_are)

  pub open_stored : (g : Head → Head) → splice (head_row (get_or l.heads (r.counts.heads - 1) some_head)) f bs ≡ head_row (g (get_or l.heads (r.counts.heads - 1) some_head))
      → Stored t r.counts s' (on_last_head g l.heads) l.log (pitches_in l.log ++ [])
  open_stored g q =
      let j : r.counts.heads - 1 ≡ length l.heads - 1 = omega (arith, h.stored.heads_are) in
      subst (λ (hs : List Head). Stored t r.counts s' hs l.log (pitches_in l.log ++ []))
      (ap (λ (i : ℕ). alter_at i g l.heads) j ∙ sym (last_head g l.heads some))
      (head_altered h.stored s' room (r.counts.heads - 1) f bs g some_head e at_last k q)

  pub open_scoped : Scoped s' t.scopes r.counts.scopes r.key.scopes l.scopes
  open_scoped = scoped_behind h.scoped s' _ bs e (omega (arith, at_last, h.stored.heads_are, room.for_heads, room.for_notes, room.for_pitches))

  pub open_represented : (g : Head → Head) → splice (head_row (get_or l.heads (r.counts.heads - 1) some_head)) f bs ≡ head_row (g (get_or l.heads (r.counts.heads - 1) some_head)) → Represents t s' r [] (on_open g l)
  unfolding on_open
  open_represented g q =
      record {
        stored = open_stored g q;
        scoped = open_scoped;
        key_is = h.key_is;
        last_is = h.last_is;
        pending_is = h.pending_is;
        line_is = h.line_is;
        half_is = h.half_is;
        running_is = h.running_is;
        sounded_is = h.sounded_is;
        sounded_most = h.sounded_most;
        start_is = h.start_is;
        verse_is = h.verse_is;
      }

  pub open_only : Only t.heads t.end s s'
  open_only =
      only_splice t.heads t.end s s' _ bs e (omega arith) (omega (arith, at_last, h.stored.heads_are, room.for_heads, room.for_notes, room.for_pitches, room.for_scopes))

-- the counts as they are
pub grows_none : (c : Counts) (h n p a : ℕ) → Grows c c h n p a
grows_none c h n p a = record { more_heads = omega arith; more_notes = omega arith; more_pitches = omega arith; more_scopes = omega arith }

-- registers by another name
pub simulates_as : {t : Tables} {s s' : List ℕ} {r r' r'' : Registers} {h n p a : ℕ} {f : LogState → LogState} → r' ≡ r'' → Simulates t s r s' r'' h n p a f → Simulates t s r s' r' h n p a f
simulates_as {t} {s} {s'} {r} {r'} {r''} {h} {n} {p} {a} {f} e d = subst (λ (x : Registers). Simulates t s r s' x h n p a f) (sym e) d

-- A STEP ON THE OPEN HEAD ALONE
pub open_simulates : {t : Tables} {s : List ℕ} {r : Registers} → Room t r.counts (length s) 0 0 0 0 → RepresentedInLine t s r → (s' : List ℕ) (f : ℕ) (bs : List ℕ) → s' ≡ splice s (t.heads + measure_width * (r.counts.heads - 1) + f) bs
    → f + length bs ≤ measure_width → (g : Head → Head) → ((m : Head) → splice (head_row m) f bs ≡ head_row (g m)) → Simulates t s r s' r 0 0 0 0 (on_open g)
open_simulates {t} {s} {r} room a s' f bs e k g q =
    record {
      only = open_only room s' f bs e k a.state (some_head_lem a.state a.standing) a.represents;
      grows = grows_none r.counts 0 0 0 0;
      holds = λ l st h. open_represented room s' f bs e k l (some_head_lem l st) h g (q (get_or l.heads (r.counts.heads - 1) some_head));
    }

-- AN ENDING
bytes_4 : (v : ℕ) → length (le32 v) ≡ 4
unfolding little
bytes_4 v = refl

pub volta_simulates : {t : Tables} {s : List ℕ} {r : Registers} → Room t r.counts (length s) 0 0 0 0 → RepresentedInLine t s r → (s' : List ℕ) (first passes : ℕ)
    → s' ≡ splice s (t.heads + measure_width * (r.counts.heads - 1) + volta_at) ((1 ∷ first ∷ []) ++ le32 passes) → (ps : List ℕ) → first ≡ get_or ps 0 0 → passes ≡ pass_bits ps
    → Simulates t s r s' r 0 0 0 0 (λ l. on_token l (token.volta ps))
unfolding on_token
volta_simulates {t} {s} {r} room a s' first passes e ps i j =
    open_simulates room a s' volta_at ((1 ∷ first ∷ []) ++ le32 passes) e (omega (arith, bytes_4 passes)) (with_volta volta_begins ps)
    (λ m. (λ x. splice (head_row m) volta_at ((1 ∷ i x ∷ []) ++ le32 (j x))) ∙ head_volta m ps)

-- A METER
module _ {t : Tables} {s : List ℕ} {r : Registers} (top bottom : ℕ) where
  timed_represented : (l : LogState) → Represents t s r [] l → Represents t s (timed r top bottom) [] (set_line (with_time (top, bottom) l.line) l)
  timed_represented l h =
      record {
        stored = h.stored;
        scoped = h.scoped;
        key_is = h.key_is;
        last_is = h.last_is;
        pending_is = h.pending_is;
        line_is = λ i. record { unit = (h.line_is i).unit; top = top; bottom = bottom; overlay = (h.line_is i).overlay; run = (h.line_is i).run };
        half_is = h.half_is;
        running_is = h.running_is;
        sounded_is = h.sounded_is;
        sounded_most = h.sounded_most;
        start_is = h.start_is;
        verse_is = h.verse_is;
      }

  pub meter_simulates : Room t r.counts (length s) 0 0 0 0 → RepresentedInLine t s r → (s' : List ℕ) → s' ≡ splice s (t.heads + measure_width * (r.counts.heads - 1) + meter_at) (top ∷ bottom ∷ [])
      → Simulates t s r s' (timed r top bottom) 0 0 0 0 (λ l. on_token l (token.meter (top, bottom)))
  unfolding on_token
  meter_simulates room a s' e =
      record {
        only = open_only room s' meter_at (top ∷ bottom ∷ []) e (omega arith) a.state (some_head_lem a.state a.standing) a.represents;
        grows = grows_none r.counts 0 0 0 0;
        holds =
            λ l st h. open_represented {r = timed r top bottom} room s' meter_at (top ∷ bottom ∷ []) e (omega arith) (set_line (with_time (top, bottom) l.line) l) (some_head_lem l st) (timed_represented l h) (with_meter (top, bottom))
            (head_meter (get_or l.heads (r.counts.heads - 1) some_head) (top, bottom));
      }

-- BARLINES
-- no accidental is remembered
four_nowhere : (v : ℕ) → v < 4 → get_or nowhere v 0 ≡ 0
four_nowhere zero h = refl
four_nowhere (suc zero) h = refl
four_nowhere (suc (suc zero)) h = refl
four_nowhere (suc (suc (suc zero))) h = refl
four_nowhere (suc (suc (suc (suc v)))) h = absurd (omega arith)

pub no_scopes_lem : (s : List ℕ) (at : ℕ) → Scoped s at 0 nowhere no_scopes
no_scopes_lem s at = scoped_none s at nowhere refl four_nowhere

-- the open head is empty
open_empty : (hs : List Head) (d : Head) → 0 < length hs → open_is_empty hs ≡ is_empty_head (get_or hs (length hs - 1) d)
unfolding open_is_empty
open_empty [] d h = absurd (not-suc-le-zero h)
open_empty (m ∷ []) d h = refl
open_empty (m ∷ n ∷ ms) d h =
    let e : suc (suc (length ms) - 1) ≡ suc (suc (length ms)) - 1 = omega arith in
    open_empty (n ∷ ms) d (omega arith) ∙ ap (λ (k : ℕ). is_empty_head (get_or (m ∷ n ∷ ms) k d)) e

pub empty_is : {t : Tables} {s : List ℕ} {r : Registers} {h k : ℕ} → Room t r.counts (length s) h k 0 0 → (l : LogState) → Standing l → Represents t s r [] l → no_notes s (t.heads + measure_width * (r.counts.heads - 1)) ≡ open_is_empty l.heads
empty_is {t} {s} {r} room l st h =
    let i = r.counts.heads - 1 in
    let at : i < length l.heads = omega (arith, some_head_lem l st, h.stored.heads_are) in
    let j : i ≡ length l.heads - 1 = omega (arith, h.stored.heads_are) in
    head_empty s (t.heads + measure_width * i) (get_or l.heads i some_head) (table_row head_row measure_width length_head h.stored.heads_table i some_head at) (counts_4 l st i some_head at)
    (λ v q. omega (arith, count_most l st i v some_head at, h.stored.notes_are, room.for_notes, room.for_pitches, room.for_scopes, room.small))
    ∙ ap (λ (k : ℕ). is_empty_head (get_or l.heads k some_head)) j ∙ sym (open_empty l.heads some_head (some_head_lem l st))

-- the registers after a barline
abbrev ended_with : Registers → ℕ → List ℕ → Registers
ended_with r n places =
    record {
      counts = record { heads = n; notes = r.counts.notes; pitches = r.counts.pitches; scopes = 0 };
      key = record { fifths = r.key.fifths; minor = r.key.minor; scopes = nowhere };
      last = places;
      pending = r.pending;
      line = record { unit = r.line.unit; top = r.line.top; bottom = r.line.bottom; overlay = 0; run = 0 };
      half = r.half;
      tuplet = r.tuplet;
      verses = r.verses;
    }

ends_represented : {t : Tables} {s s' : List ℕ} {r : Registers} (b : standard.Barline) (opens : Bool) (l : LogState) (n : ℕ) (places : List ℕ) (heads' : List Head) → Represents t s r [] l
    → Stored t (ended_with r n places).counts s' heads' l.log (pitches_in l.log ++ []) → heads' ≡ ended_heads b opens l.line.meter l.heads → places ≡ ended_last opens l.heads l.last
    → Represents t s' (ended_with r n places) [] (on_barline b opens l)
unfolding on_barline
ends_represented {t} {s} {s'} {r} b opens l n places heads' h q e f =
    record {
      stored = subst (λ (hs : List Head). Stored t (ended_with r n places).counts s' hs l.log (pitches_in l.log ++ [])) e q;
      scoped = no_scopes_lem s' t.scopes;
      key_is = h.key_is;
      last_is = f;
      pending_is = h.pending_is;
      line_is = λ i. record { unit = (h.line_is i).unit; top = (h.line_is i).top; bottom = (h.line_is i).bottom; overlay = 0; run = 0 };
      half_is = h.half_is;
      running_is = h.running_is;
      sounded_is = h.sounded_is;
      sounded_most = h.sounded_most;
      start_is = h.start_is;
      verse_is = h.verse_is;
    }

-- other counts of scopes
pub stored_as : {t : Tables} {c c' : Counts} {s : List ℕ} {hs : List Head} {log : _} {ps : _} → Stored t c s hs log ps → c'.heads ≡ c.heads → c'.notes ≡ c.notes → c'.pitches ≡ c.pitches → Stored t c' s hs log ps
stored_as h e f g =
    record {
      heads_table = h.heads_table;
      notes_table = h.notes_table;
      pitches_table = h.pitches_table;
      heads_are = e ∙ h.heads_are;
      notes_are = f ∙ h.notes_are;
      pitches_are = g ∙ h.pitches_are;
    }

-- the left barline of a measure without notes
pub record Left (s : List ℕ) (at : ℕ) (b : standard.Barline) : Type 0 where
  pub bytes : List ℕ
  pub short : length bytes ≤ 1
  pub written : left_store s at (barline_for b) ≡ splice s at bytes
  pub sets : (m : Head) → splice (head_row m) left_at bytes ≡ head_row (left_set b m)

left_is : (s : List ℕ) (at : ℕ) (b : standard.Barline) → Left s at b
unfolding left_set
left_is s at normal = record { bytes = []; short = omega arith; written = sym (splice_nil s at); sets = λ m. splice_nil (head_row m) left_at }
left_is s at repeat_start = record { bytes = 1 ∷ []; short = omega arith; written = refl; sets = λ m. head_left m repeat_start }
left_is s at repeat_end = record { bytes = []; short = omega arith; written = sym (splice_nil s at); sets = λ m. splice_nil (head_row m) left_at }
left_is s at repeat_both = record { bytes = 3 ∷ []; short = omega arith; written = refl; sets = λ m. head_left m repeat_both }
left_is s at double = record { bytes = 4 ∷ []; short = omega arith; written = refl; sets = λ m. head_left m double }
left_is s at final = record { bytes = []; short = omega arith; written = sym (splice_nil s at); sets = λ m. splice_nil (head_row m) left_at }

code_is : (b : standard.Barline) → code_of (barline_for b) ≡ barline_code b
code_is normal = refl
code_is repeat_start = refl
code_is repeat_end = refl
code_is repeat_both = refl
code_is double = refl
code_is final = refl

module _ {t : Tables} {s : List ℕ} {r : Registers} (room : Room t r.counts (length s) 1 0 0 0) (a : RepresentedInLine t s r) (b : standard.Barline) (opens empty : Bool)
    (tested : empty ≡ no_notes s (t.heads + measure_width * (r.counts.heads - 1))) where
  less : Room t r.counts (length s) 0 0 0 0
  less = room_less t r.counts (length s) 1 room

  is_empty_lem : (l : LogState) → Standing l → Represents t s r [] l → empty ≡ open_is_empty l.heads
  is_empty_lem l st h = tested ∙ empty_is room l st h

  -- on a measure without notes
  pub empty_simulates : empty ≡ true → (right : Barline) → right ≡ barline_for b → (s' : List ℕ) → s' ≡ left_store s (t.heads + measure_width * (r.counts.heads - 1) + left_at) right → Simulates t s r s' (ended r) 1 0 0 0 (on_barline b opens)
  unfolding ended_heads ended_last
  empty_simulates y right d s' e =
      let at = t.heads + measure_width * (r.counts.heads - 1) + left_at in
      let w = left_is s at b in
      let e' : s' ≡ splice s at w.bytes = e ∙ ap (left_store s at) d ∙ w.written in
      let o = open_only less s' left_at w.bytes e' (omega (arith, w.short)) a.state (some_head_lem a.state a.standing) a.represents in
      record {
        only = o;
        grows = record { more_heads = omega arith; more_notes = omega arith; more_pitches = omega arith; more_scopes = omega arith };
        holds =
            λ l st h.
            let z : open_is_empty l.heads ≡ true = sym (is_empty_lem l st h) ∙ y in
            ends_represented b opens l r.counts.heads r.last (on_last_head (left_set b) l.heads) h
            (stored_as (open_stored less s' left_at w.bytes e' (omega (arith, w.short)) l (some_head_lem l st) h (left_set b) (w.sets (get_or l.heads (r.counts.heads - 1) some_head))) refl refl refl) (rw (z, ended_heads)) (rw z h.last_is);
      }

  module _ (n : empty ≡ false) (right : Barline) (d : right ≡ barline_for b) (code : ℕ) (ec : code ≡ code_of right) (s₁ : List ℕ) (e₁ : s₁ ≡ splice s (t.heads + measure_width * (r.counts.heads - 1) + right_at) (code ∷ [])) where
    right_set : (m : Head) → splice (head_row m) right_at (code ∷ []) ≡ head_row (with_right b m)
    right_set m = ap (λ (c : ℕ). splice (head_row m) right_at (c ∷ [])) (ec ∙ ap code_of d ∙ code_is b) ∙ head_right m b

    only₁ : Only t.heads t.end s s₁
    only₁ = open_only less s₁ right_at (code ∷ []) e₁ (omega arith) a.state (some_head_lem a.state a.standing) a.represents

    stored₁ : (l : LogState) → Standing l → Represents t s r [] l → Stored t r.counts s₁ (on_last_head (with_right b) l.heads) l.log (pitches_in l.log ++ [])
    stored₁ l st h = open_stored less s₁ right_at (code ∷ []) e₁ (omega arith) l (some_head_lem l st) h (with_right b) (right_set (get_or l.heads (r.counts.heads - 1) some_head))

    -- with `]` behind it
    pub closed_simulates : opens ≡ false → Simulates t s r s₁ (ended r) 1 0 0 0 (on_barline b opens)
    unfolding ended_heads ended_last
    closed_simulates c =
        record {
          only = only₁;
          grows = record { more_heads = omega arith; more_notes = omega arith; more_pitches = omega arith; more_scopes = omega arith };
          holds =
              λ l st h.
              let z : open_is_empty l.heads ≡ false = sym (is_empty_lem l st h) ∙ n in
              ends_represented b opens l r.counts.heads r.last (on_last_head (with_right b) l.heads) h (stored_as (stored₁ l st h) refl refl refl)
              (rw (z, ended_heads) (rw c)) (rw (z, c) h.last_is);
        }

    -- a new measure
    pub opens_simulates : opens ≡ true → (left : Barline) → left ≡ barline_for (left_of b) → (lcode : ℕ) → lcode ≡ code_of left → (s₂ : List ℕ) → s₂ ≡ splice s₁ (t.heads + measure_width * (r.counts.heads - 1 + 1)) (new_row lcode r.line.top r.line.bottom)
        → Simulates t s r s₂ (opened r) 1 0 0 0 (on_barline b opens)
    unfolding ended_heads ended_last
    opens_simulates c left f lcode el s₂ e₂ =
        let one : r.counts.heads - 1 + 1 ≡ r.counts.heads = omega (arith, represented_heads a) in
        let row : (l : LogState) → Represents t s r [] l → new_row lcode r.line.top r.line.bottom ≡ head_row (new_head l.line.meter (left_of b)) =
        λ l h. (λ i. new_row ((el ∙ ap code_of f ∙ code_is (left_of b)) i) (h.line_is i).top (h.line_is i).bottom) ∙ new_row_lem l.line.meter (left_of b) in
        let e₃ = e₂ ∙ ap (λ (k : ℕ). splice s₁ (t.heads + measure_width * k) (new_row lcode r.line.top r.line.bottom)) one in
        let room₁ : Room t r.counts (length s₁) 1 0 0 0 = room_same only₁.same_length room in
        let only₂ = head_pushed_only (stored₁ a.state a.standing a.represents) s₂ room₁ (new_head a.state.line.meter (left_of b)) (new_row lcode r.line.top r.line.bottom) (row a.state a.represents) e₃ in
        record {
          only = only_then only₁ only₂;
          grows = record { more_heads = omega arith; more_notes = omega arith; more_pitches = omega arith; more_scopes = omega arith };
          holds =
              λ l st h.
              let z : open_is_empty l.heads ≡ false = sym (is_empty_lem l st h) ∙ n in
              ends_represented b opens l (r.counts.heads + 1) nowhere (on_last_head (with_right b) l.heads ++ (new_head l.line.meter (left_of b) ∷ [])) h
              (stored_as (head_pushed (stored₁ l st h) s₂ room₁ (new_head l.line.meter (left_of b)) (new_row lcode r.line.top r.line.bottom) (row l h) e₃) refl refl refl) (rw (z, ended_heads) (rw c)) (rw (z, c));
        }
