-- FORWARD: kinds, and distances back.
use Prim.Native.Nat.{ℕ, suc, ◌+◌, ◌-◌, ◌*◌, ◌≤◌, ◌<◌, min}
use mathlib.Core.Path.{◌≡◌, refl, sym, ap, subst, ◌∙◌}
use mathlib.Core.Bool.{Bool, true, false, cond}
use mathlib.Core.List.{List, [], ◌∷◌, ◌++◌, append_assoc, append-nil}
use native.Mathlib.Decide.{dec_lt}
use native.Mathlib.Numerals.{add-one}
use native.Mathlib.Omega.{arith}
use lib.ListN.{length, get_or, length-map, length-append, get_or-append, get_or-eq_default}
use lib.Seq.{get_or_at}
use Rattle.laws.specs.Bytes.{splice}
use Rattle.laws.proofs.Lists.{map_append}
use Rattle.laws.proofs.Rows.{rows_none}
use Rattle.reader.specs.Records.{measure_width}
use Rattle.lyric_stops.specs.declared.Stop.{Stop}
use Rattle.lyric_stops.specs.declared.Stops.{Stops}
use Rattle.lyric_stops.specs.declared.Kind.{Kind}
use Rattle.lyric_stops.specs.Stops.{lyric_stop_width, farthest, is_passed, stop_bytes, stop_of, Inside, stops_in, no_stop, kind_at, kinds_of, passed_place, back_of}
use Rattle.lyric_stops.proofs.Table.{how_many, length_stop, written, stops_push}
use Rattle.lyric_stops.proofs.Walks.{apart, not_passed, back_on, back_here, back_le, back_gap, back_agree}
use Rattle.part_rows.specs.Encoded.{note_row_width}
use Rattle.part_measures.specs.Heads.{note_count, total}
use Rattle.part_measures.proofs.Counts.{total_step}
use Rattle.part_rows.proofs.Tables.{only_none, only_splice, only_then}
use Rattle.part_stops.specs.declared.Marked.{Marked}
use Rattle.part_stops.specs.Marks.{mark_at, begun_after, marks_in, marks_of}
use Rattle.part_stops.specs.Stops.{first_stops, InTable, OverBack, Backed, Marks, Room, AllMarked, Ready}
use Rattle.part_stops.proofs.Fronts.{mark_front, begun_front, marks_front, count_front, marks_step, marks_none, all_step, all_none}

-- A STOP MORE
module _ (xs : List Stop) (x : Stop) where
  abbrev more : List Stop
  more = xs ++ (x ∷ [])

  old : (j : ℕ) → j < length xs → get_or more j no_stop ≡ get_or xs j no_stop
  old j h = get_or-append xs (x ∷ []) no_stop j h

  new : get_or more (length xs) no_stop ≡ x
  new = get_or_at xs x [] no_stop (length xs) refl

  length_more : length more ≡ suc (length xs)
  length_more = length-append xs (x ∷ []) ∙ add-one (length xs)

  behind : (j : ℕ) → length xs < j → get_or more j no_stop ≡ no_stop
  behind j h = get_or-eq_default more no_stop (omega (arith, length_more))

  back_before : back_of more (length xs) ≡ back_of xs (length xs)
  back_before = back_agree xs more (length xs) (λ k h. ap (λ (y : Stop). y.kind) (old k h))

  -- a distance back from it passes over no note that takes a syllable
  over : OverBack xs → (x.kind ≡ Kind.First → (k : ℕ) → length xs < k + x.distance → k < length xs → kind_at xs k ≡ Kind.Passed) → OverBack more
  over o n j k e h l = go (dec_lt j (length xs)) (dec_lt (length xs) j)
    where
      go : Dec (j < length xs) → Dec (length xs < j) → kind_at more k ≡ Kind.Passed
      go (yes a) b =
          let same = old j a in
          ap (λ (y : Stop). y.kind) (old k (omega arith)) ∙ o j k (ap (λ (y : Stop). y.kind) (sym same) ∙ e) (omega (arith, ap (λ (y : Stop). y.distance) same)) l
      go (no a) (yes b) = absurd (omega (arith, ap (λ (y : Stop). y.distance) (behind j b)))
      go (no a) (no b) =
          let at : j ≡ length xs = omega arith in
          let here : get_or more j no_stop ≡ x = ap (λ (i : ℕ). get_or more i no_stop) at ∙ new in
          ap (λ (y : Stop). y.kind) (old k (omega arith))
          ∙ n (ap (λ (y : Stop). y.kind) (sym here) ∙ e) k (omega (arith, ap (λ (y : Stop). y.distance) here)) (omega arith)

  place_new : passed_place more (suc (length xs)) ≡ is_passed x.kind
  unfolding passed_place
  place_new = ap (λ (y : Stop). is_passed y.kind) new

  backed_passed : (last : ℕ) → x.kind ≡ Kind.Passed → Backed xs last → Backed more last
  backed_passed last e b =
      let f : suc (length xs) - 1 ≡ length xs = omega arith in
      record {
        last_is = b.last_is ∙ sym back_before ∙ ap (back_of more) (sym f) ∙ sym (back_on more (suc (length xs)) (place_new ∙ ap is_passed e)) ∙ ap (back_of more) (sym length_more);
        over_back = over b.over_back (λ f. absurd (apart x.kind e f));
      }

  backed_taker : (last : ℕ) → (x.kind ≡ Kind.Passed → ⊥) → (x.kind ≡ Kind.First → x.distance ≤ length xs + 1 - last) → Backed xs last → Backed more (length xs + 1)
  backed_taker last n d b =
      record {
        last_is = add-one (length xs) ∙ sym (back_here more (suc (length xs)) (place_new ∙ not_passed x.kind n)) ∙ ap (back_of more) (sym length_more);
        over_back = over b.over_back (λ e k h l. back_gap xs (length xs) k (omega (arith, d e, b.last_is, back_le xs (length xs))) l);
      }

-- MARKS
module _ (s s' : List ℕ) (t : Stops) (c : ℕ) (k : Kind) (d : ℕ) (e : s' ≡ splice s (t.at + lyric_stop_width * c) (stop_bytes k (min d farthest))) (inside : Inside s t) (h : c < t.count) where
  pushed : first_stops s' t (c + 1) ≡ first_stops s t c ++ (written k d ∷ [])
  pushed = stops_push s s' t.at c k d e (omega (arith, inside))

  in_table_lem : InTable t s s'
  in_table_lem = only_splice t.at (t.at + lyric_stop_width * t.count) s s' (t.at + lyric_stop_width * c) (stop_bytes k (min d farthest)) e (omega arith) (omega (arith, length_stop k (min d farthest)))

  many : length (first_stops s t c) ≡ c
  many = how_many s (record { at = t.at; count = c })

  -- a stop that is written behind those that are marked
  mark : (m r : Marked) → m.count ≡ c → r.count ≡ c + 1 → r.last ≤ r.count → (Backed (first_stops s t c) m.last → Backed (first_stops s t c ++ (written k d ∷ [])) r.last) → Marks s s' t m r (k ∷ [])
  mark m r a b low back =
      let was : first_stops s t m.count ≡ first_stops s t c = ap (first_stops s t) a in
      let now : first_stops s' t r.count ≡ first_stops s t c ++ (written k d ∷ []) = ap (first_stops s' t) b ∙ pushed in
      record {
        only = in_table_lem;
        kinds = ap kinds_of now ∙ map_append (λ (x : Stop). x.kind) (first_stops s t c) (written k d ∷ []) ∙ ap (λ (xs : List Stop). kinds_of xs ++ (k ∷ [])) (sym was);
        backed = λ x. subst (λ (xs : List Stop). Backed xs r.last) (sym now) (back (subst (λ (xs : List Stop). Backed xs m.last) was x));
        low = low;
      }

-- a grace note
pub mark_passed : (s s' : List ℕ) (t : Stops) (m r : Marked) → s' ≡ splice s (t.at + lyric_stop_width * m.count) (stop_bytes Kind.Passed (min 1 farthest)) → Room s t m (Kind.Passed ∷ [])
    → r.count ≡ m.count + 1 → r.last ≡ m.last → Marks s s' t m r (Kind.Passed ∷ [])
mark_passed s s' t m r e room a b =
    mark s s' t m.count Kind.Passed 1 e room.inside (omega (arith, room.room)) m r refl a (omega (arith, room.low))
    (λ x. subst (Backed (first_stops s t m.count ++ (written Kind.Passed 1 ∷ []))) (sym b) (backed_passed (first_stops s t m.count) (written Kind.Passed 1) m.last refl x))

-- a note that takes a syllable
module _ (s s' : List ℕ) (t : Stops) (m r : Marked) (k : Kind) (d : ℕ) (e : s' ≡ splice s (t.at + lyric_stop_width * m.count) (stop_bytes k (min d farthest))) (room : Room s t m (k ∷ []))
    (a : r.count ≡ m.count + 1) (b : r.last ≡ m.count + 1) (n : k ≡ Kind.Passed → ⊥) (near : k ≡ Kind.First → d ≤ m.count + 1 - m.last) where
  taker_marked : Marks s s' t m r (k ∷ [])
  taker_marked =
      let xs = first_stops s t m.count in
      let many : length xs ≡ m.count = how_many s (record { at = t.at; count = m.count }) in
      let last : length xs + 1 ≡ r.last = omega (arith, many, b) in
      mark s s' t m.count k d e room.inside (omega (arith, room.room)) m r refl a (omega arith)
      (λ x. subst (Backed (xs ++ (written k d ∷ []))) last (backed_taker xs (written k d) m.last n (λ f. omega (arith, near f, many, room.low)) x))

-- not the first of its measure, and the first
pub later_apart : Kind.Later ≡ Kind.Passed → ⊥
later_apart e = cc

pub later_first : Kind.Later ≡ Kind.First → ⊥
later_first e = cc

abbrev own : Bool → List Kind
own b = cond b Kind.Later Kind.First ∷ []

module _ (s s' : List ℕ) (t : Stops) (m r : Marked) (room : Room s t m (own m.begun)) (a : r.count ≡ m.count + 1) (b : r.last ≡ m.count + 1) where
  pub mark_later : m.begun ≡ true → s' ≡ splice s (t.at + lyric_stop_width * m.count) (stop_bytes Kind.Later (min 1 farthest)) → Marks s s' t m r (own m.begun)
  mark_later e f =
      subst (λ (x : Bool). Marks s s' t m r (own x)) (sym e)
      (taker_marked s s' t m r Kind.Later 1 f (subst (λ (x : Bool). Room s t m (own x)) e room) a b (λ g. absurd (later_apart g)) (λ g. absurd (later_first g)))

  pub mark_first : m.begun ≡ false → s' ≡ splice s (t.at + lyric_stop_width * m.count) (stop_bytes Kind.First (min (m.count + 1 - m.last) farthest)) → Marks s s' t m r (own m.begun)
  mark_first e f =
      subst (λ (x : Bool). Marks s s' t m r (own x)) (sym e)
      (taker_marked s s' t m r Kind.First (m.count + 1 - m.last) f (subst (λ (x : Bool). Room s t m (own x)) e room) a b (λ g. absurd (apart Kind.First g refl)) (λ g. omega arith))

-- nothing
pub mark_none : (s : List ℕ) (t : Stops) (m : Marked) → m.last ≤ m.count → Marks s s t m m []
mark_none s t m low =
    record { only = only_none t.at (t.at + lyric_stop_width * t.count) s; kinds = sym (append-nil (kinds_of (first_stops s t m.count))); backed = λ x. x; low = low }

-- one after the other
pub mark_then : (s s' s'' : List ℕ) (t : Stops) (m q r : Marked) (a b : List Kind) → Marks s s' t m q a → Marks s' s'' t q r b → Marks s s'' t m r (a ++ b)
mark_then s s' s'' t m q r a b x y =
    record {
      only = only_then x.only y.only;
      kinds = y.kinds ∙ ap (λ (ks : List Kind). ks ++ b) x.kinds ∙ append_assoc (kinds_of (first_stops s t m.count)) a b;
      backed = λ z. y.backed (x.backed z);
      low = y.low;
    }

-- how many are marked then
pub mark_count : (s s' : List ℕ) (t : Stops) (m r : Marked) (ks : List Kind) → Marks s s' t m r ks → r.count ≡ m.count + length ks
mark_count s s' t m r ks x =
    let kind : Stop → Kind = λ y. y.kind in
    sym (length-map (first_stops s' t r.count) kind ∙ how_many s' (record { at = t.at; count = r.count })) ∙ ap length x.kinds
    ∙ length-append (kinds_of (first_stops s t m.count)) ks ∙ ap (λ (n : ℕ). n + length ks) (length-map (first_stops s t m.count) kind ∙ how_many s (record { at = t.at; count = m.count }))

-- A MEASURE: the invariant of the loop over its rows
pub record Marking (s₀ : List ℕ) (t : Stops) (p₀ k₀ : ℕ) (m₀ : Marked) (s : List ℕ) (q : Marked) (p left : ℕ) : Type 0 where
  pub done : List Kind
  pub marks : Marks s₀ s t m₀ q done
  pub on : done ++ marks_in s₀ q.begun p left ≡ marks_in s₀ m₀.begun p₀ k₀
  pub before : p + note_row_width * left ≤ t.at

pub marking_start : (s : List ℕ) (t : Stops) (p k : ℕ) (m : Marked) → m.last ≤ m.count → p + note_row_width * k ≤ t.at → Marking s t p k m s m p k
marking_start s t p k m low h = record { done = []; marks = mark_none s t m low; on = refl; before = h }

module _ (s₀ : List ℕ) (t : Stops) (p₀ k₀ : ℕ) (m₀ : Marked) (s : List ℕ) (q : Marked) (p left : ℕ) (v : Marking s₀ t p₀ k₀ m₀ s q p left) where
  pub marking_length : length s ≡ length s₀
  marking_length = v.marks.only.same_length

  module _ (more : 0 < left) where
    -- the row is as it was
    same_mark : mark_at s q.begun p ≡ mark_at s₀ q.begun p
    same_mark = mark_front s₀ s t.at v.marks.only.front q.begun p (omega (arith, v.before))

    step : v.done ++ mark_at s₀ q.begun p ++ marks_in s₀ (begun_after s₀ q.begun p) (p + note_row_width) (left - 1) ≡ marks_in s₀ m₀.begun p₀ k₀
    step = append_assoc v.done (mark_at s₀ q.begun p) _ ∙ ap (λ (l : List Kind). v.done ++ l) (sym (marks_step s₀ q.begun p left more)) ∙ v.on

    pub marking_room : Room s₀ t m₀ (marks_in s₀ m₀.begun p₀ k₀) → Room s t q (mark_at s q.begun p)
    marking_room r =
        let a = mark_at s₀ q.begun p in
        let b = marks_in s₀ (begun_after s₀ q.begun p) (p + note_row_width) (left - 1) in
        record {
          inside = omega (arith, r.inside, marking_length);
          room =
              omega (
                arith,
                r.room,
                mark_count s₀ s t m₀ q v.done v.marks,
                ap length same_mark,
                ap length step,
                length-append (v.done ++ a) b,
                length-append v.done a,
              );
          low = v.marks.low;
        }

    one_more : (s' : List ℕ) (r : Marked) → Marks s s' t q r (mark_at s q.begun p) × (r.begun ≡ begun_after s q.begun p) → Marking s₀ t p₀ k₀ m₀ s' r (p + note_row_width) (left - 1)
    one_more s' r x =
        let same : r.begun ≡ begun_after s₀ q.begun p = x.1 ∙ begun_front s₀ s t.at v.marks.only.front q.begun p (omega (arith, v.before)) in
        record {
          done = v.done ++ mark_at s₀ q.begun p;
          marks = mark_then s₀ s s' t m₀ q r v.done (mark_at s₀ q.begun p) v.marks (subst (Marks s s' t q r) same_mark x.0);
          on = ap (λ (b : Bool). v.done ++ mark_at s₀ q.begun p ++ marks_in s₀ b (p + note_row_width) (left - 1)) same ∙ step;
          before = omega (arith, v.before);
        }

    pub marking_next : (s' : List ℕ) (r : Marked) (p' left' : ℕ) → p' ≡ p + note_row_width → left' ≡ left - 1 → Marks s s' t q r (mark_at s q.begun p) × (r.begun ≡ begun_after s q.begun p) → Marking s₀ t p₀ k₀ m₀ s' r p' left'
    marking_next s' r p' left' ep el x =
        subst (λ (i : ℕ). Marking s₀ t p₀ k₀ m₀ s' r i left') (sym ep) (subst (Marking s₀ t p₀ k₀ m₀ s' r (p + note_row_width)) (sym el) (one_more s' r x))

  pub marking_end : left ≡ 0 → Marks s₀ s t m₀ q (marks_in s₀ m₀.begun p₀ k₀)
  marking_end e =
      subst (Marks s₀ s t m₀ q) (sym (append-nil v.done) ∙ ap (λ (l : List Kind). v.done ++ l) (sym (marks_none s₀ q.begun p left e)) ∙ v.on) v.marks

-- ALL MEASURES: the invariant of the loop over them
pub record AllMarking (s₀ : List ℕ) (t : Stops) (h₀ n p₀ : ℕ) (s : List ℕ) (count last h p left : ℕ) : Type 0 where
  pub done : List Kind
  pub kinds : kinds_of (first_stops s t count) ≡ done
  pub backed : Backed (first_stops s t count) last
  pub only : InTable t s₀ s
  pub low : last ≤ count
  pub on : done ++ marks_of s₀ h p left ≡ marks_of s₀ h₀ p₀ n
  pub measures_before : h + measure_width * left ≤ t.at
  pub notes_before : p + note_row_width * total s₀ h left ≤ t.at

no_stops : (s : List ℕ) (t : Stops) → first_stops s t 0 ≡ []
unfolding stops_in
no_stops s t = rows_none stop_of lyric_stop_width s t.at

none_backed : Backed [] 0
unfolding back_of
none_backed = record { last_is = refl; over_back = λ j k e h l. absurd (omega arith) }

pub all_start : (s : List ℕ) (h n p : ℕ) (t : Stops) → Ready s h n p t → AllMarking s t h n p s 0 0 h p n
all_start s h n p t r =
    record {
      done = [];
      kinds = ap kinds_of (no_stops s t);
      backed = subst (λ (xs : List Stop). Backed xs 0) (sym (no_stops s t)) none_backed;
      only = only_none t.at (t.at + lyric_stop_width * t.count) s;
      low = omega arith;
      on = refl;
      measures_before = r.measures_before;
      notes_before = r.notes_before;
    }

module _ (s₀ : List ℕ) (h₀ n p₀ : ℕ) (t : Stops) (ready : Ready s₀ h₀ n p₀ t) (s : List ℕ) (count last h p left : ℕ) (v : AllMarking s₀ t h₀ n p₀ s count last h p left) where
  pub all_length : length s ≡ length s₀
  all_length = v.only.same_length

  counted : count ≡ length v.done
  counted = sym (length-map (first_stops s t count) (λ (y : Stop). y.kind) ∙ how_many s (record { at = t.at; count = count })) ∙ ap length v.kinds

  module _ (more : 0 < left) (k : ℕ) (e : k ≡ note_count s h) where
    -- the measure and its rows are as they were
    same_count : k ≡ note_count s₀ h
    same_count = e ∙ count_front s₀ s t.at v.only.front h (omega (arith, v.measures_before))

    pub rows_before : p + note_row_width * k ≤ t.at
    rows_before = omega (arith, v.notes_before, total_step s₀ h left more, same_count)

    same_marks : marks_in s false p k ≡ marks_in s₀ false p k
    same_marks = marks_front s₀ s t.at v.only.front false p k rows_before

    all_on : v.done ++ marks_in s₀ false p k ++ marks_of s₀ (h + measure_width) (p + note_row_width * k) (left - 1) ≡ marks_of s₀ h₀ p₀ n
    all_on = append_assoc v.done (marks_in s₀ false p k) _ ∙ ap (λ (l : List Kind). v.done ++ l) (sym (all_step s₀ h p left k more same_count)) ∙ v.on

    abbrev begins : Marked
    begins = record { count = count; last = last; begun = false }

    pub all_room : Room s t begins (marks_in s false p k)
    all_room =
        let a = marks_in s₀ false p k in
        let b = marks_of s₀ (h + measure_width) (p + note_row_width * k) (left - 1) in
        record {
          inside = omega (arith, ready.inside, all_length);
          room = omega (arith, ready.all_notes_lem, counted, ap length same_marks, ap length all_on, length-append (v.done ++ a) b, length-append v.done a);
          low = v.low;
        }

    all_more : (s' : List ℕ) (r : Marked) → Marks s s' t begins r (marks_in s false p k) → AllMarking s₀ t h₀ n p₀ s' r.count r.last (h + measure_width) (p + note_row_width * k) (left - 1)
    all_more s' r x =
        record {
          done = v.done ++ marks_in s₀ false p k;
          kinds = x.kinds ∙ (λ i. v.kinds i ++ same_marks i);
          backed = x.backed v.backed;
          only = only_then v.only x.only;
          low = x.low;
          on = all_on;
          measures_before = omega (arith, v.measures_before);
          notes_before = omega (arith, v.notes_before, total_step s₀ h left more, same_count);
        }

    pub all_next : (s' : List ℕ) (r : Marked) (h' left' : ℕ) → h' ≡ h + measure_width → left' ≡ left - 1 → Marks s s' t begins r (marks_in s false p k) → AllMarking s₀ t h₀ n p₀ s' r.count r.last h' (p + note_row_width * k) left'
    all_next s' r h' left' eh el x =
        subst (λ (i : ℕ). AllMarking s₀ t h₀ n p₀ s' r.count r.last i (p + note_row_width * k) left') (sym eh)
        (subst (AllMarking s₀ t h₀ n p₀ s' r.count r.last (h + measure_width) (p + note_row_width * k)) (sym el) (all_more s' r x))

  pub all_end : left ≡ 0 → AllMarked s₀ s t (marks_of s₀ h₀ p₀ n)
  all_end e =
      let whole : v.done ≡ marks_of s₀ h₀ p₀ n = sym (append-nil v.done) ∙ ap (λ (l : List Kind). v.done ++ l) (sym (all_none s₀ h p left e)) ∙ v.on in
      let full : count ≡ t.count = counted ∙ ap length whole ∙ ready.all_notes_lem in
      record {
        only = v.only;
        kinds = ap (λ (c : ℕ). kinds_of (first_stops s t c)) (sym full) ∙ v.kinds ∙ whole;
        last = last;
        backed = subst (λ (c : ℕ). Backed (first_stops s t c) last) full v.backed;
      }
