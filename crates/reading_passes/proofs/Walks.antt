-- ONE PASS, measure by measure: how far it has come, and each step of it.
use Prim.Native.Nat.{ℕ, zero, suc, ◌-◌, ◌≤◌, ◌<◌}
use mathlib.Core.Path.{◌≡◌, refl, sym, ap, subst, ◌∙◌}
use mathlib.Core.Bool.{Bool, true, false, cond, ◌&&◌, false≢true}
use mathlib.Core.Option.{Option, some}
use mathlib.Core.List.{List, [], ◌∷◌}
use native.Mathlib.Omega.{arith}
use lib.Dec.{ltb}
use lib.ListN.{length, drop, get_elem?}
use borrow.Author.Tests.{ltb-true}
use Rattle.laws.specs.Bytes.{le32, splice, enc_all}
use Rattle.laws.proofs.Bools.{and_left}
use Rattle.laws.proofs.Splices.{length_spliced}
use Rattle.reader.specs.Records.{measure_width}
use Rattle.reading_sections.specs.Sections.{record_at}
use Rattle.reading_list.specs.Numbers.{number_at}
use Rattle.reading_list.proofs.Numbers.{written_none, written_more}
use Rattle.reading_walk.specs.Walk.{opens, closes, is_skipped}
use Rattle.reading_walk.specs.Spans.{open_before, bar_at, bars_of}
use Rattle.reading_walk.specs.Passes.{played_at, played_past, segment, Walking, Listing, Closed}
use Rattle.reading_walk.proofs.Bars.{bar_get, bar_none}
use Rattle.reading_walk.proofs.Passes.{played_end}
use Rattle.reading_walk.proofs.Follow.{seg_more, seg_none, walking_start, walking_skip, walking_stay, walking_open, listing_on, listing_close}
use Rattle.std.specs.Prelude as rust
use Rattle.reading_bars.specs.Bars.{span_of, BarIs}
use Rattle.reading_bars.specs.Parts.{Here}
use Rattle.reading_bars.proofs.Spans.{bar_left_lem, bar_right_lem, bar_span, bar_after}
use Rattle.reading_bars.specs.declared.Bar as code
use Rattle.reading_passes.specs.declared.Pass.{Pass}
use Rattle.reading_passes.specs.declared.Walked.{Walked}
use Rattle.reading_passes.specs.Walks.{all_of, entered_at, Starts, WentOn, WalkedIs}

-- A MEASURE as the code has it is the definition's
pub record Seen (s : List ℕ) (at i : ℕ) (b : code.Bar) : Type 0 where
  pub left_is : b.left ≡ (bar_at s at i).left
  pub right_is : b.right ≡ (bar_at s at i).right
  pub span_is : span_of b.span ≡ (bar_at s at i).span
  pub after_is : span_of b.after ≡ open_before s at (suc i)

pub seen : (s : List ℕ) (at i : ℕ) (span : ℕ) (b : code.Bar) → span_of span ≡ open_before s at i → BarIs s (record_at measure_width at i) span b → Seen s at i b
seen s at i span b e h = record { left_is = bar_left_lem s at i span b h e; right_is = bar_right_lem s at i span b h e; span_is = bar_span s at i span b h e; after_is = bar_after s at i span b h e }

-- a list that goes on has a number more
pub goes_on_lem : (all : List ℕ) (c x : ℕ) (l : List ℕ) → drop c all ≡ x ∷ l → c < length all
goes_on_lem [] zero x l e = let z : ◌≡◌ {A = ℕ} 0 1 = cc in absurd (omega arith)
goes_on_lem [] (suc c) x l e = let z : ◌≡◌ {A = ℕ} 0 1 = cc in absurd (omega arith)
goes_on_lem (y ∷ ys) zero x l e = omega arith
goes_on_lem (y ∷ ys) (suc c) x l e = omega (arith, goes_on_lem ys c x l e)

-- and one that does not has none
pub ended : (all : List ℕ) (c : ℕ) → drop c all ≡ [] → length all ≤ c
ended [] c e = omega arith
ended (y ∷ ys) zero e = let z : ◌≡◌ {A = ℕ} 0 1 = cc in absurd (omega arith)
ended (y ∷ ys) (suc c) e = omega (arith, ended ys c e)

pub length_segment : (all : List ℕ) (from c : ℕ) → from ≤ c → c ≤ length all → length (segment all from c) ≡ c - from
unfolding segment
length_segment [] zero zero h k = refl
length_segment [] zero (suc c) h k = absurd (omega (arith, k))
length_segment [] (suc from) c h k = absurd (omega (arith, h, k))
length_segment (y ∷ ys) zero zero h k = refl
length_segment (y ∷ ys) (suc from) zero h k = absurd (omega (arith, h))
length_segment (y ∷ ys) zero (suc c) h k = omega (arith, length_segment ys zero c (omega arith) (omega (arith, k)))
length_segment (y ∷ ys) (suc from) (suc c) h k = omega (arith, length_segment ys from c (omega (arith, h)) (omega (arith, k)))

module _ (s : List ℕ) (at n room : ℕ) (start : Pass) (l : List ℕ) where
  -- what is listed so far, before measure i
  pub record Listed (m : List ℕ) (span : ℕ) (count i : ℕ) : Type 0 where
    pub low : start.section ≤ i
    pub high : i ≤ n
    pub span_is : span_of span ≡ open_before s at i
    pub from_least : start.from ≤ count
    pub roomy : count ≤ room
    pub counted : count ≤ length (all_of s at)
    pub long : length m ≡ length l
    pub store : m ≡ splice l (number_at start.from) (enc_all le32 (segment (all_of s at) start.from count))

  -- the player stands before measure i
  pub record Going (m : List ℕ) (span : ℕ) (count i : ℕ) : Type 0 where
    pub listed : Listed m span count i
    pub walking : Walking (bars_of s at) (all_of s at) i start.section start.pass start.from count

  -- he plays measure i, which he entered with the pass p
  pub record Plays (m : List ℕ) (p : Pass) (span : ℕ) (count i : ℕ) : Type 0 where
    pub listed : Listed m span count i
    pub inside : i < n
    pub low : p.section ≤ i
    pub pass_least : 1 ≤ p.pass
    pub pass_most : p.pass ≤ 32
    pub before_is : span_of p.before ≡ open_before s at p.section
    pub later : start.section ≤ p.section
    pub stayed : p.section ≤ start.section → p ≡ start
    pub opened : start.section < p.section → p.section ≡ i
    pub listing : Listing (bars_of s at) (all_of s at) i p.section p.pass p.from count (bar_at s at i)

  pub going_start : Starts s at n room start → Going l start.span start.from start.at
  going_start h =
      let x = h.stands in
      record {
        listed =
            record {
              low = x.low;
              high = x.in_part;
              span_is = x.span_is;
              from_least = omega arith;
              roomy = h.roomy;
              counted = h.listed;
              long = refl;
              store = written_none l start.from (segment (all_of s at) start.from start.from) (seg_none (all_of s at) start.from);
            };
        walking = walking_start (bars_of s at) (all_of s at) start.at start.section start.pass start.from x.high x.rest;
      }

  module _ (here : Here s at n) (h : Starts s at n room start) where
    -- a measure is left out
    pub going_skip : (m : List ℕ) (span : ℕ) (count i j : ℕ) (b : code.Bar) → j ≡ suc i → i < n → Going m span count i → Seen s at i b → is_skipped (span_of b.span) start.pass ≡ true
        → Going m b.after count j
    going_skip m span count i j b q k g e f =
        let o = g.listed in
        subst (Going m b.after count) (sym q)
        (record {
          listed =
              record {
                low = omega (arith, o.low);
                high = omega (arith, k);
                span_is = e.after_is;
                from_least = o.from_least;
                roomy = o.roomy;
                counted = o.counted;
                long = o.long;
                store = o.store;
              };
          walking =
              walking_skip (bars_of s at) (all_of s at) i start.section start.pass start.from count (bar_at s at i) g.walking o.low h.stands.pass_most
              (bar_get s at i (omega (arith, k, here.count_is))) (ap (λ (o : Option ℕ). is_skipped o start.pass) (sym e.span_is) ∙ f);
        })

    -- a measure is entered
    enter_by : (m : List ℕ) (span : ℕ) (count i : ℕ) → i < n → Going m span count i → is_skipped (bar_at s at i).span start.pass ≡ false → (t : Bool) → (ltb start.section i && opens (bar_at s at i).left) ≡ t
        → Plays m (cond t (record { section = i; pass = 1; before = span; at = i; span = span; from = count }) start) span count i
    enter_by m span count i k g f true e =
        let o = g.listed in
        let l : start.section < i = ltb-true start.section i (and_left (ltb start.section i) (opens (bar_at s at i).left) e) in
        record {
          listed = o;
          inside = k;
          low = omega arith;
          pass_least = omega arith;
          pass_most = omega arith;
          before_is = o.span_is;
          later = o.low;
          stayed = λ x. absurd (omega (arith, x, l));
          opened = λ x. refl;
          listing =
              walking_open (bars_of s at) (all_of s at) i start.section start.pass start.from count (bar_at s at i) g.walking o.low h.stands.pass_most
              (bar_get s at i (omega (arith, k, here.count_is))) f e;
        }
    enter_by m span count i k g f false e =
        let o = g.listed in
        record {
          listed = o;
          inside = k;
          low = o.low;
          pass_least = h.stands.pass_least;
          pass_most = h.stands.pass_most;
          before_is = h.stands.before_is;
          later = omega arith;
          stayed = λ x. refl;
          opened = λ x. absurd (omega (arith, x));
          listing =
              walking_stay (bars_of s at) (all_of s at) i start.section start.pass start.from count (bar_at s at i) g.walking o.low h.stands.pass_most
              (bar_get s at i (omega (arith, k, here.count_is))) f e;
        }

    pub going_enter : (m : List ℕ) (p : Pass) (span : ℕ) (count i : ℕ) (b : code.Bar) → i < n → Going m span count i → Seen s at i b → is_skipped (span_of b.span) start.pass ≡ false
        → p ≡ entered_at start i b.left span count → Plays m p span count i
    going_enter m p span count i b k g e f q =
        subst (λ (x : Pass). Plays m x span count i) (sym (q ∙ ap (λ (x : ℕ). entered_at start i x span count) e.left_is))
        (enter_by m span count i k g (ap (λ (o : Option ℕ). is_skipped o start.pass) (sym e.span_is) ∙ f) (ltb start.section i && opens (bar_at s at i).left) refl)

    module _ (m : List ℕ) (p : Pass) (span : ℕ) (count i : ℕ) (g : Plays m p span count i) where
      more_listed : count < length (all_of s at)
      more_listed = goes_on_lem (all_of s at) count (suc i) (played_past (bars_of s at) i p.section p.pass (bar_at s at i)) g.listing.rest

      -- its number has no room
      pub plays_full : count ≡ room → {k : List ℕ} → WalkedIs s at n room start l k rust.None
      plays_full e = record { says = omega (arith, e, more_listed) }

      -- its number is written
      module _ (k : List ℕ) (b : code.Bar) (e : Seen s at i b) (free : count ≡ room → ⊥) (w : k ≡ splice m (number_at count) (le32 (suc i))) where
        written : k ≡ splice l (number_at start.from) (enc_all le32 (segment (all_of s at) start.from (suc count)))
        written =
            let o = g.listed in
            written_more l m k start.from count (segment (all_of s at) start.from count) (suc i) o.store
            (omega (arith, length_segment (all_of s at) start.from count o.from_least o.counted, o.from_least)) w
            ∙ ap (λ (z : List ℕ). splice l (number_at start.from) (enc_all le32 z))
            (sym (seg_more (all_of s at) start.from count (suc i) (played_past (bars_of s at) i p.section p.pass (bar_at s at i)) o.from_least g.listing.rest))

        there : get_elem? (bars_of s at) i ≡ some (bar_at s at i)
        there = bar_get s at i (omega (arith, g.inside, here.count_is))

        on : closes b.right ≡ false → Walking (bars_of s at) (all_of s at) (suc i) p.section p.pass p.from (suc count)
        on f =
            listing_on (bars_of s at) (all_of s at) i p.section p.pass p.from count (bar_at s at i) g.listing g.low g.pass_most there
            (ap closes (sym e.right_is) ∙ f)

        pub plays_on : (c j : ℕ) → c ≡ suc count → j ≡ suc i → closes b.right ≡ false → p.section ≤ start.section → Going k b.after c j
        plays_on c j qc qj f x =
            let o = g.listed in
            subst (λ (y : ℕ). Going k b.after y j) (sym qc)
            (subst (Going k b.after (suc count)) (sym qj)
            (record {
              listed =
                  record {
                    low = omega (arith, o.low);
                    high = omega (arith, g.inside);
                    span_is = e.after_is;
                    from_least = omega (arith, o.from_least);
                    roomy = omega (arith, o.roomy, free);
                    counted = omega (arith, more_listed);
                    long = length_spliced m k (number_at count) (le32 (suc i)) w ∙ o.long;
                    store = written;
                  };
              walking = subst (λ (y : Pass). Walking (bars_of s at) (all_of s at) (suc i) y.section y.pass y.from (suc count)) (g.stayed x) (on f);
            }))

        -- what every way out says
        out : (w : Walked) → w.count ≡ suc count → WentOn s at n start w → WalkedIs s at n room start l k (rust.Some w)
        out w c x =
            let o = g.listed in
            record {
              says =
                  record {
                    listed = (omega (arith, o.from_least, c), omega (arith, o.roomy, free, c), omega (arith, more_listed, c));
                    store = written ∙ ap (λ (z : ℕ). splice l (number_at start.from) (enc_all le32 (segment (all_of s at) start.from z))) (sym c);
                    went_on = x;
                  };
            }

        pub plays_close : (c : ℕ) → c ≡ suc count → closes b.right ≡ true
            → WalkedIs s at n room start l k (rust.Some (record { section = p.section; pass = p.pass; before = p.before; from = p.from; at = i; after = b.after; count = c; closed = true }))
        plays_close c qc f =
            out _ qc
            (record {
              closes =
                  λ y.
                  record {
                    in_part = g.inside;
                    behind = g.low;
                    pass_least = g.pass_least;
                    pass_most = g.pass_most;
                    before_is = g.before_is;
                    after_is = e.after_is;
                    closed_at_lem =
                        subst (Closed (bars_of s at) (all_of s at) i p.section p.pass p.from) (sym qc)
                        (listing_close (bars_of s at) (all_of s at) i p.section p.pass p.from count (bar_at s at i) g.listing g.pass_least g.pass_most there
                        (ap closes (sym e.right_is) ∙ f));
                    later = g.later;
                    same = λ x. ap (λ (y : Pass). y.pass) (g.stayed x);
                  };
              opens = λ y. absurd (false≢true (sym y));
            })

        pub plays_open : (c j from : ℕ) → c ≡ suc count → j ≡ suc i → closes b.right ≡ false → start.section < p.section
            → WalkedIs s at n room start l k (rust.Some (record { section = p.section; pass = p.pass; before = p.before; from = from; at = j; after = b.after; count = c; closed = false }))
        plays_open c j from qc qj f x =
            out _ qc
            (record {
              closes = λ y. absurd (false≢true y);
              opens =
                  λ y.
                  record {
                    stands =
                        record {
                          in_part = omega (arith, g.inside, qj);
                          low = omega (arith, g.low, qj);
                          high = omega (arith, g.opened x, qj);
                          pass_least = g.pass_least;
                          pass_most = g.pass_most;
                          before_is = g.before_is;
                          span_is = e.after_is ∙ ap (open_before s at) (sym qj);
                          rest =
                              ap (λ (z : ℕ). drop z (all_of s at)) qc
                              ∙ (on f).rest
                              ∙ ap (λ (z : ℕ). played_at (bars_of s at) z p.section p.pass) (sym qj);
                        };
                    later = x;
                  };
            })

    -- no measure is left
    pub going_end : (m : List ℕ) (span : ℕ) (count i : ℕ) → n ≤ i → Going m span count i
        → WalkedIs s at n room start l m (rust.Some (record { section = n; pass = 1; before = span; from = count; at = n; after = span; count = count; closed = false }))
    going_end m span count i k g =
        let o = g.listed in
        let q : i ≡ n = omega (arith, k, o.high) in
        let z : span_of span ≡ open_before s at n = o.span_is ∙ ap (open_before s at) q in
        let e : drop count (all_of s at) ≡ [] = g.walking.rest ∙ played_end (bars_of s at) i start.section start.pass (bar_none s at i (omega (arith, k, here.count_is))) in
        record {
          says =
              record {
                listed = (o.from_least, o.roomy, o.counted);
                store = o.store;
                went_on =
                    record {
                      closes = λ x. absurd (false≢true x);
                      opens =
                          λ x.
                          record {
                            stands =
                                record {
                                  in_part = omega arith;
                                  low = omega arith;
                                  high = omega arith;
                                  pass_least = omega arith;
                                  pass_most = omega arith;
                                  before_is = z;
                                  span_is = z;
                                  rest = e ∙ sym (played_end (bars_of s at) n n 1 (bar_none s at n (omega (arith, here.count_is))));
                                };
                            later = omega (arith, h.stands.low, h.inside);
                          };
                    };
              };
        }
