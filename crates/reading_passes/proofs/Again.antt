-- A PASS THAT IS LISTED AGAIN, and what is kept of a pass.
use Prim.Native.Nat.{ℕ, suc, ◌+◌, ◌-◌, ◌*◌, ◌≤◌, ◌<◌}
use mathlib.Core.Path.{◌≡◌, refl, sym, ap, ◌∙◌}
use mathlib.Core.Bool.{true, ◌&&◌, false≢true}
use mathlib.Core.List.{List, ◌++◌}
use native.Mathlib.Numerals.{add-one}
use native.Mathlib.Omega.{arith}
use lib.Dec.{leb}
use lib.ListN.{length, take, drop, length-append, length-drop}
use lib.Seq.{take-take, take_at, drop_at, drop-drop}
use Rattle.std.specs.Prelude.{Some, None}
use Rattle.laws.specs.Bytes.{le32, u32_at, splice, rows, enc_all}
use Rattle.laws.proofs.Bools.{by_test, and_left}
use Rattle.laws.proofs.Parts.{take_drop}
use Rattle.laws.proofs.Rows.{rows_take, rows_drop}
use Rattle.reading_records.specs.Widths.{count_width}
use Rattle.reading_list.specs.Numbers.{number_at, numbers_in, above, CopiedIs}
use Rattle.reading_list.proofs.Above.{above_above}
use Rattle.reading_walk.specs.Spans.{open_before, bars_of}
use Rattle.reading_walk.specs.Passes.{played_on, segment, Closes}
use Rattle.reading_passes.specs.declared.Pass.{Pass}
use Rattle.reading_passes.specs.declared.Walked.{Walked}
use Rattle.reading_passes.specs.declared.Kept.{Kept}
use Rattle.reading_passes.specs.Walks.{all_of, Lists, Starts, ClosedIs, WentOn, WalkedIs, KeptIs, kept_after}

-- LISTS: a front of what is left
front_length : (all : List ℕ) (c : ℕ) (xs ys : List ℕ) → c ≤ length all → drop c all ≡ xs ++ ys → c + length xs ≤ length all
front_length all c xs ys h e = omega (arith, h, length-drop c all, ap length e, length-append xs ys)

front_segment : (all : List ℕ) (c : ℕ) (xs ys : List ℕ) → drop c all ≡ xs ++ ys → segment all c (c + length xs) ≡ xs
unfolding segment
front_segment all c xs ys e = sym (take_drop c (length xs) all) ∙ ap (take (length xs)) e ∙ take_at xs ys (length xs) refl

front_rest : (all : List ℕ) (c : ℕ) (xs ys : List ℕ) → drop c all ≡ xs ++ ys → drop (c + length xs) all ≡ ys
front_rest all c xs ys e = sym (drop-drop (length xs) c all) ∙ ap (drop (length xs)) e ∙ drop_at xs ys (length xs) refl

-- the numbers of a stretch of the list, read from its store
pub lists_segment : (s : List ℕ) (at : ℕ) (l : List ℕ) (c from to : ℕ) → Lists s at l c → from ≤ to → to ≤ c → numbers_in l from (to - from) ≡ segment (all_of s at) from to
unfolding numbers_in segment
lists_segment s at l c from to h a b =
    let z : number_at 0 + count_width * from ≡ number_at from = omega arith in
    sym
    (ap (λ (ns : List ℕ). drop from ns)
    (sym (take-take to c (all_of s at) b) ∙ ap (take to) (sym h.are) ∙ rows_take (λ b. u32_at b 0) count_width l (number_at 0) c to b)
    ∙ rows_drop (λ b. u32_at b 0) count_width l (number_at 0) to from a
    ∙ ap (λ (k : ℕ). rows (λ b. u32_at b 0) count_width l k (to - from)) z)

-- A KEPT PASS is listed again
module _ (s : List ℕ) (at n room : ℕ) (p : Pass) (k : Kept) (l m : List ℕ) (h : Starts s at n room p) (kept : KeptIs s at n p.from p.pass k) (i : Lists s at l p.from) where
  listed_front : k.least ≤ p.at → p.at < k.end → drop p.from (all_of s at) ≡ above p.at (segment (all_of s at) k.from k.to) ++ played_on (bars_of s at) (k.end - 1) p.section p.pass
  listed_front a b = h.stands.rest ∙ kept.again p.at p.section a b h.stands.low

  same_numbers : above p.at (numbers_in l k.from (k.to - k.from)) ≡ above p.at (segment (all_of s at) k.from k.to)
  same_numbers = ap (above p.at) (lists_segment s at l p.from k.from k.to i kept.order kept.listed)

  pub listed_short : k.least ≤ p.at → p.at < k.end → CopiedIs room p.from (above p.at (numbers_in l k.from (k.to - k.from))) l m None → WalkedIs s at n room p l m None
  listed_short a b c =
      let f = front_length (all_of s at) p.from (above p.at (segment (all_of s at) k.from k.to)) _ h.listed (listed_front a b) in
      record { says = omega (arith, c.says, ap length same_numbers, f) }

  pub listed_again : (count : ℕ) → k.least ≤ p.at → p.at < k.end → CopiedIs room p.from (above p.at (numbers_in l k.from (k.to - k.from))) l m (Some count)
      → WalkedIs s at n room p l m (Some (record { section = p.section; pass = p.pass; before = p.before; from = p.from; at = k.end - 1; after = k.span; count = count; closed = true }))
  unfolding Closes
  listed_again count a b c =
      let x = h.stands in
      let seg = segment (all_of s at) k.from k.to in
      let xs = above p.at seg in
      let e : above p.at (numbers_in l k.from (k.to - k.from)) ≡ xs = same_numbers in
      let z : suc (k.end - 1) ≡ k.end = omega (arith, b) in
      let d : drop p.from (all_of s at) ≡ xs ++ played_on (bars_of s at) (k.end - 1) p.section p.pass = listed_front a b in
      let f : p.from + length xs ≤ length (all_of s at) = front_length (all_of s at) p.from xs _ h.listed d in
      let (many, roomy, stored) = c.says in
      let j : count ≡ p.from + length xs = many ∙ ap (λ (y : List ℕ). p.from + length y) e in
      record {
        says =
            record {
              listed = (omega (arith, many), roomy, omega (arith, many, ap length e, f));
              store = stored ∙ ap (λ (y : List ℕ). splice l (number_at p.from) (enc_all le32 y)) (e ∙ sym (front_segment (all_of s at) p.from xs _ d) ∙ ap (segment (all_of s at) p.from) (sym j));
              went_on =
                  record {
                    closes =
                        λ v.
                        record {
                          in_part = omega (arith, kept.in_part, b);
                          behind = omega (arith, b, x.low);
                          pass_least = x.pass_least;
                          pass_most = x.pass_most;
                          before_is = x.before_is;
                          after_is = kept.span_is (omega (arith, b)) ∙ ap (open_before s at) (sym z);
                          closed_at_lem =
                              record {
                                order = omega (arith, j);
                                rest = ap (λ (y : ℕ). drop y (all_of s at)) j ∙ front_rest (all_of s at) p.from xs _ d;
                                again =
                                    λ t u g w o.
                                    kept.again t u (omega (arith, a, g, x.high)) (omega (arith, w, b)) o
                                    ∙ ap (λ (y : List ℕ). y ++ played_on (bars_of s at) (k.end - 1) u p.pass)
                                    (sym (above_above p.at t seg (omega (arith, g, x.high)))
                                    ∙ ap (above t) (sym (front_segment (all_of s at) p.from xs _ d) ∙ ap (segment (all_of s at) p.from) (sym j)));
                              };
                          later = omega arith;
                          same = λ y. refl;
                        };
                    opens = λ v. absurd (false≢true (sym v));
                  };
            };
      }

-- WHAT IS KEPT of a pass that was closed
kept_new : (s : List ℕ) (at n : ℕ) (p : Pass) (w : Walked) → ClosedIs s at n p w
    → KeptIs s at n w.count w.pass (record { least = w.section + 1; end = w.at + 1; from = w.from; to = w.count; span = w.after })
unfolding Closes
kept_new s at n p w h =
    let z : w.at + 1 - 1 ≡ w.at = omega arith in
    record {
      order = h.closed_at_lem.order;
      listed = omega arith;
      in_part = omega (arith, h.in_part);
      span_is = λ x. h.after_is ∙ ap (open_before s at) (sym (add-one w.at));
      again =
          λ t u g v o.
          h.closed_at_lem.again t u (omega (arith, g)) (omega (arith, v)) o
          ∙ ap (λ (y : ℕ). above t (segment (all_of s at) w.from w.count) ++ played_on (bars_of s at) y u w.pass) (sym z);
    }

-- it stays so while the list grows
pub kept_later : (s : List ℕ) (at n c d q : ℕ) (k : Kept) → c ≤ d → KeptIs s at n c q k → KeptIs s at n d q k
kept_later s at n c d q k h x = record { order = x.order; listed = omega (arith, h, x.listed); in_part = x.in_part; span_is = x.span_is; again = x.again }

-- nothing is kept at first
pub kept_none : (s : List ℕ) (at n c q : ℕ) → KeptIs s at n c q (record { least = 0; end = 0; from = 0; to = 0; span = 0 })
kept_none s at n c q =
    record { order = omega arith; listed = omega arith; in_part = omega arith; span_is = λ x. absurd (omega (arith, x)); again = λ t u v w o. absurd (omega (arith, w)) }

-- after a pass
pub kept_after_lem : (s : List ℕ) (at n c : ℕ) (p : Pass) (w : Walked) (k : Kept) → c ≤ w.count → WentOn s at n p w → KeptIs s at n c w.pass k → KeptIs s at n w.count w.pass (kept_after k w)
kept_after_lem s at n c p w k h g x =
    by_test (w.closed && leb k.end (w.at + 1))
    (λ e. rw e (kept_new s at n p w (g.closes (and_left w.closed (leb k.end (w.at + 1)) e))))
    (λ e. rw e (kept_later s at n c w.count w.pass k h x))
