-- The loop of `parse_passes`.
use Prim.Native.Nat.{ℕ, suc, ◌+◌, ◌-◌, ◌^◌, ◌≤◌, ◌<◌}
use mathlib.Core.Path.{◌≡◌, refl, sym, ap, ap₂, ◌∙◌}
use mathlib.Core.Bool.{Bool, true, false, ◌||◌}
use mathlib.Core.Option.{Option, none, some}
use mathlib.Core.List.{List, [], ◌++◌}
use native.Mathlib.Nat.{add-zero, zero-add}
use native.Mathlib.Omega.{arith}
use lib.Dec.{eqb}
use lib.ListN.{get_or}
use lib.Pow.{pow_mono}
use borrow.Author.Tests.{eq-eqb, ne_eqb, eqb-true}
use Rattle.laws.specs.Spans.{end_of}
use Rattle.laws.proofs.Bools.{by_test}
use Rattle.standard.specs.Bytes.{is, is_digit}
use Rattle.standard.specs.Passes.{Item, passes_of, rising}
use Rattle.reader.specs.PassLists.{is_pass_byte}
use Rattle.reader.specs.PassesInTurn.{last_pass, in_turn, pass_list}
use Rattle.reader.specs.Records.{pass_bits}
use Rattle.token_passes.specs.Passes.{is_item_byte, item_at, passes_at, passes_read, passes_for, first_for}
use Rattle.std.specs.Prelude as code
use Rattle.text_bytes.specs.declared.Read.{Read}
use Rattle.token_passes.specs.declared.Passes.{Passes}
use Rattle.token_passes.proofs.Cuts.{pieces_on, pieces_last, ends_on, ends_here}
use Rattle.token_passes.proofs.Items.{Took}
use Rattle.token_passes.proofs.Bits.{bits_below, bits_append}

-- CUT AT COMMAS
swapped : (a b d : Bool) → (a || b || d) ≡ ((a || d) || b)
swapped true b d = refl
swapped false true true = refl
swapped false true false = refl
swapped false false true = refl
swapped false false false = refl

pub comma_agree : (c : ℕ) → is_pass_byte c ≡ (is_item_byte c || is "," c)
comma_agree c = swapped (is_digit c) (is "," c) (is "-" c)

pub comma_apart : (c : ℕ) → is "," c ≡ true → is_item_byte c ≡ false
comma_apart c e = rw (eqb-true c 44 e)

module _ (line : List ℕ) (i low e : ℕ) (k : e ≡ end_of is_item_byte line i) where
  -- a comma behind the item
  list_on : is "," (get_or line e 0) ≡ true → passes_at low line i ≡ in_turn (item_at low line i) (passes_at (last_pass low (item_at low line i)) line (e + 1))
  unfolding passes_at item_at pass_list
  list_on m = rw (pieces_on is_pass_byte is_item_byte (is ",") comma_agree comma_apart refl line i e k m)

  pub list_ends_on : is "," (get_or line e 0) ≡ true → end_of is_pass_byte line i ≡ end_of is_pass_byte line (e + 1)
  list_ends_on m = ends_on is_pass_byte is_item_byte (is ",") comma_agree comma_apart refl line i e k m

  -- none
  list_last : is "," (get_or line e 0) ≡ false → passes_at low line i ≡ in_turn (item_at low line i) (some [])
  unfolding passes_at item_at pass_list
  list_last m = rw (pieces_last is_pass_byte is_item_byte (is ",") comma_agree comma_apart refl line i e k m)

  pub list_ends_here : is "," (get_or line e 0) ≡ false → end_of is_pass_byte line i ≡ e
  list_ends_here m = ends_here is_pass_byte is_item_byte (is ",") comma_agree comma_apart refl line i e k m

  -- no item
  no_list : item_at low line i ≡ none → passes_at low line i ≡ none
  unfolding in_turn
  no_list n =
      by_test (is "," (get_or line e 0)) (λ m. list_on m ∙ ap (λ o. in_turn o (passes_at (last_pass low (item_at low line i)) line (e + 1))) n)
      (λ m. list_last m ∙ ap (λ o. in_turn o (some [])) n)

-- WHAT IS READ SO FAR, AND THE REST

-- the first pass, 0 where there is none yet, and the bits; with the passes to come
unfoldable pub joined : ℕ → ℕ → Option (List ℕ) → Option (ℕ × ℕ)
joined first bits none = none
joined first bits (some ps) = some (first_for first (get_or ps 0 0), bits + pass_bits ps)

unfoldable answer : ℕ → Option (ℕ × ℕ) → code.Option (Read Passes)
answer next none = code.None
answer next (some x) = passes_read x.0 x.1 next

answered : (next : ℕ) (o : Option (List ℕ)) → answer next (joined 0 0 o) ≡ passes_for next o
unfolding answer joined passes_for
answered next none = refl
answered next (some ps) = ap (λ b. passes_read (get_or ps 0 0) b next) (zero-add (pass_bits ps))

first_none : (f : ℕ) → f ≡ first_for f 0
first_none f = by_test (eqb f 0) (λ e. rw e (eqb-true f 0 e)) (λ e. rw e)

leads : (n m : ℕ) (qs : List ℕ) → get_or (rising n (suc m) ++ qs) 0 0 ≡ n
unfolding rising
leads n m qs = refl

-- one item joined
join_item : (first bits low : ℕ) (o : Option Item) (from to : ℕ) (r : Option (List ℕ)) → Took low o from to
    → joined first bits (in_turn o r) ≡ joined (first_for first from) (bits + pass_bits (rising from (suc (to - from)))) r
unfolding joined in_turn
join_item first bits low o from to none t = rw t.is_item
join_item first bits low o from to (some qs) t =
    let a = t.above in
    let f : get_or (passes_of t.item ++ qs) 0 0 ≡ from = rw t.runs (leads from (to - from) qs) in
    let b : bits + pass_bits (passes_of t.item ++ qs) ≡ bits + pass_bits (rising from (suc (to - from))) + pass_bits qs = omega (arith, bits_append (passes_of t.item) qs, ap pass_bits t.runs) in
    let g : first_for first from ≡ first_for (first_for first from) (get_or qs 0 0) = by_test (eqb first 0) (λ e. rw (e, ne_eqb from 0 (λ z. absurd (zero_not from a z)))) (λ e. rw (e, e)) in
    ap (λ x. joined first bits (in_turn x (some qs))) t.is_item ∙ (λ j. some (first_for first (f j), b j)) ∙ (λ j. some (g j, bits + pass_bits (rising from (suc (to - from))) + pass_bits qs))
  where
    zero_not : (n : ℕ) → low < n → n ≡ 0 → ⊥
    zero_not n h z = omega arith

pub record Passing (line : List ℕ) (at first bits low i : ℕ) : Type 0 where
  pub few : bits < 2 ^ low
  pub small : low ≤ 32
  pub ends : end_of is_pass_byte line i ≡ end_of is_pass_byte line at
  pub all : joined first bits (passes_at low line i) ≡ joined 0 0 (passes_at 0 line at)

pub passing_start : (line : List ℕ) (at : ℕ) → Passing line at 0 0 0 at
passing_start line at = record { few = omega arith; small = omega arith; ends = refl; all = refl }

module _ (line : List ℕ) (at first bits low i : ℕ) (r : Passing line at first bits low i) where
  -- no item
  pub passing_none : (next : ℕ) → item_at low line i ≡ none → code.None ≡ passes_for next (passes_at 0 line at)
  unfolding answer joined
  passing_none next n =
      ap (λ o. answer next (joined first bits o)) (sym (no_list line i low (end_of is_item_byte line i) refl n)) ∙ ap (answer next) r.all ∙ answered next (passes_at 0 line at)

  module _ (from to next : ℕ) (k : next ≡ end_of is_item_byte line i) (t : Took low (item_at low line i) from to) where
    more : bits + pass_bits (rising from (suc (to - from))) < 2 ^ to
    more = let a = t.above in bits_below from to (omega arith) t.order t.top bits low r.few a

    pub passing_fits : bits + pass_bits (rising from (suc (to - from))) < 2 ^ 32
    passing_fits = let m : 2 ^ to ≤ 2 ^ 32 = pow_mono t.top in omega (arith, more)

    -- the last item
    pub passing_last : (get_or line next 0 ≡ 44 → ⊥) → (f b : ℕ) → f ≡ first_for first from → b ≡ pass_bits (rising from (suc (to - from)))
        → passes_read f (bits + b) next ≡ passes_for (end_of is_pass_byte line at) (passes_at 0 line at)
    unfolding answer joined pass_bits
    passing_last n f b ef eb =
        let m : is "," (get_or line next 0) ≡ false = ne_eqb _ 44 n in
        let e : next ≡ end_of is_pass_byte line at = sym (list_ends_here line i low next k m) ∙ r.ends in
        let j : joined f (bits + b) (some []) ≡ joined 0 0 (passes_at 0 line at) =
        ap₂ (λ x y. joined x (bits + y) (some [])) ef eb ∙ sym (join_item first bits low (item_at low line i) from to (some []) t)
        ∙ ap (joined first bits) (sym (list_last line i low next k m)) ∙ r.all in
        let z : bits + b ≡ bits + b + 0 = sym (add-zero (bits + b)) in
        let g = first_none f in
        (λ q. passes_read (g q) (z q) (e q)) ∙ ap (answer (end_of is_pass_byte line at)) j ∙ answered (end_of is_pass_byte line at) (passes_at 0 line at)

    -- another item
    pub passing_on : get_or line next 0 ≡ 44 → (f b : ℕ) → f ≡ first_for first from → b ≡ pass_bits (rising from (suc (to - from))) → Passing line at f (bits + b) to (next + 1)
    passing_on n f b ef eb =
        let m : is "," (get_or line next 0) ≡ true = eq-eqb _ 44 n in
        record {
          few = rw eb more;
          small = t.top;
          ends = sym (list_ends_on line i low next k m) ∙ r.ends;
          all =
              ap₂ (λ x y. joined x (bits + y) (passes_at to line (next + 1))) ef eb
              ∙ ap (λ l. joined (first_for first from) (bits + pass_bits (rising from (suc (to - from)))) (passes_at l line (next + 1))) (sym t.last)
              ∙ sym (join_item first bits low (item_at low line i) from to (passes_at (last_pass low (item_at low line i)) line (next + 1)) t)
              ∙ ap (joined first bits) (sym (list_on line i low next k m)) ∙ r.all;
        }
