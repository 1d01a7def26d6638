-- THE WHOLE WALK, pass after pass.
use Prim.Native.Nat.{ℕ, zero, suc, ◌+◌, ◌-◌, ◌*◌, ◌≤◌, ◌<◌, ◌^◌}
use mathlib.Core.Path.{◌≡◌, refl, sym, ap, subst, ◌∙◌}
use mathlib.Core.List.{List, [], ◌∷◌, ◌++◌}
use native.Mathlib.Omega.{arith}
use lib.Dec.{eqb}
use lib.ListN.{length, take, get_or, set, length-set}
use lib.Seq.{take_all, length-take-le, get_or-set_same, get_or-set_other}
use borrow.Author.Tests.{eqb-true, eqb-false}
use Rattle.std.specs.Prelude.{Some}
use Rattle.laws.specs.Lists.{All}
use Rattle.laws.specs.Bytes.{le32, splice, enc_all}
use Rattle.laws.proofs.Bools.{by_test}
use Rattle.laws.proofs.Rows.{enc_all_append}
use Rattle.laws.proofs.Splices.{length_spliced, spliced_next}
use Rattle.reading_list.specs.Numbers.{number_at, numbers_in, Room}
use Rattle.reading_list.proofs.Numbers.{length_enc, written_none, numbers_back}
use Rattle.reading_walk.specs.Walk.{begin, played}
use Rattle.reading_walk.specs.Spans.{open_before, bars_of}
use Rattle.reading_walk.specs.Passes.{standing, played_at, segment}
use Rattle.reading_walk.proofs.Bars.{length_bars, bar_none}
use Rattle.reading_walk.proofs.Bound.{played_own}
use Rattle.reading_walk.proofs.Passes.{played_end}
use Rattle.reading_bars.specs.Bars.{span_of, LimitIs}
use Rattle.reading_passes.specs.declared.Pass.{Pass}
use Rattle.reading_passes.specs.declared.Walked.{Walked}
use Rattle.reading_passes.specs.declared.Kept.{Kept}
use Rattle.reading_passes.specs.declared.Next.{Next}
use Rattle.reading_bars.specs.Parts.{Here}
use Rattle.reading_passes.specs.Walks.{all_of, Lists, StandsAt, Starts, WentOn, Went, KeptIs, kept_after, NextIs, PlayedIs}
use Rattle.reading_passes.proofs.Walks.{ended}
use Rattle.reading_passes.proofs.Again.{kept_none, kept_later, kept_after_lem}

-- LISTS: a front and what follows it
take_segment : (all : List ℕ) (c d : ℕ) → c ≤ d → take c all ++ segment all c d ≡ take d all
unfolding segment
take_segment all zero d h = refl
take_segment [] (suc c) zero h = absurd (omega (arith, h))
take_segment [] (suc c) (suc d) h = refl
take_segment (x ∷ all) (suc c) zero h = absurd (omega (arith, h))
take_segment (x ∷ all) (suc c) (suc d) h = ap (λ (l : List ℕ). x ∷ l) (take_segment all c d (omega (arith, h)))

-- no number is too large for four bytes
small_take : (n c : ℕ) (xs : List ℕ) → n < 2 ^ 32 → All (λ x. (1 ≤ x) × (x ≤ n)) xs → All (λ x. x < 2 ^ 32) (take c xs)
small_take n zero xs h a = tt
small_take n (suc c) [] h a = tt
small_take n (suc c) (x ∷ xs) h a = (omega (arith, h, a.0.1), small_take n c xs h a.1)

-- a store of the same length has the same room
pub room_same : (l m : List ℕ) (room : ℕ) → Room l room → length m ≡ length l → Room m room
room_same l m room r e = record { fits = omega (arith, r.fits, e); most = r.most }

-- where a pass led to lies in the part
pub went_in : (s : List ℕ) (at n : ℕ) (p : Pass) (w : Walked) → WentOn s at n p w → (w.pass ≤ 32) × (w.section ≤ n) × (w.at ≤ n)
went_in s at n p w g =
    by_test w.closed
    (λ e. let c = g.closes e in (c.pass_most, omega (arith, c.behind, c.in_part), omega (arith, c.in_part)))
    (λ e. let o = (g.opens e).stands in (o.pass_most, omega (arith, o.low, o.in_part), o.in_part))

-- each pass leads to a later section, or to the next pass of the same
pub rank_of : ℕ → Next → ℕ
rank_of n x = (n - x.section) * 33 + (32 - x.pass)

pub rank_less : (s : List ℕ) (at n c : ℕ) (p : Pass) (x y : Next) → p.section ≡ x.section → p.pass ≡ x.pass → NextIs s at n p c y → rank_of n y < rank_of n x
unfolding rank_of
rank_less s at n c p x y e f h =
    by_test (eqb x.section y.section)
    (λ q.
    let u : x.section ≡ y.section = eqb-true x.section y.section q in
    omega (arith, u, f, h.more (omega (arith, u, e)), h.stands.pass_most))
    (λ q. omega (arith, e, h.later, eqb-false x.section y.section q, h.stands.low, h.stands.in_part, h.stands.pass_least))

module _ (s : List ℕ) (at n room : ℕ) (l : List ℕ) where
  -- how far the walk has come: c numbers are listed, the store is m
  pub record Playing (m : List ℕ) (ks : List Kept) (x : Next) (c : ℕ) : Type 0 where
    pub stands : StandsAt s at n x.at x.span x.section x.pass x.before c
    pub limit_is : LimitIs s at x.section (record { most = x.most; end = x.end })
    pub kept : (d : Kept) (q : ℕ) → q < 33 → KeptIs s at n c q (get_or ks q d)
    pub many : length ks ≡ 33
    pub listed : c ≤ length (all_of s at)
    pub roomy : c ≤ room
    pub long : length m ≡ length l
    pub store : m ≡ splice l (number_at 0) (enc_all le32 (take c (all_of s at)))

  -- at the first measure
  pub playing_start : (ks : List Kept) → length ks ≡ 33 → ((d : Kept) (q : ℕ) → q < 33 → get_or ks q d ≡ record { least = 0; end = 0; from = 0; to = 0; span = 0 })
      → Playing l ks (record { section = 0; pass = 1; before = 0; at = 0; span = 0; most = 2; end = 0 }) 0
  unfolding span_of open_before played_at standing played begin
  playing_start ks e f =
      record {
        stands = record { in_part = omega arith; low = omega arith; high = omega arith; pass_least = omega arith; pass_most = omega arith; before_is = refl; span_is = refl; rest = refl };
        limit_is = record { holds = λ t x y. absurd (omega (arith, y)) };
        kept = λ d q h. subst (KeptIs s at n 0 q) (sym (f d q h)) (kept_none s at n 0 q);
        many = e;
        listed = omega arith;
        roomy = omega arith;
        long = refl;
        store = written_none l 0 (take 0 (all_of s at)) refl;
      }

  module _ (m : List ℕ) (ks : List Kept) (x : Next) (c : ℕ) (here : Here s at n) (room_is : Room l room) (g : Playing m ks x c) where
    -- the store holds what is listed
    pub playing_lists : Lists s at m c
    playing_lists =
        record {
          are =
              ap (λ (k : List ℕ). numbers_in k 0 c) g.store
              ∙ numbers_back l (take c (all_of s at)) c (length-take-le c (all_of s at) g.listed) (omega (arith, room_is.fits, g.roomy))
              (small_take n c (all_of s at) here.few (subst (λ (k : ℕ). All (λ x. (1 ≤ x) × (x ≤ k)) (all_of s at)) (length_bars s at ∙ sym here.count_is) (played_own (bars_of s at))));
        }

    pub playing_starts : x.at < n → Starts s at n room (record { section = x.section; pass = x.pass; before = x.before; at = x.at; span = x.span; from = c })
    playing_starts h = record { stands = g.stands; inside = h; listed = g.listed; roomy = g.roomy }

    -- the list is done
    pub playing_end : n ≤ x.at → PlayedIs s at room l m (Some c)
    playing_end h =
        let e : length (all_of s at) ≤ c = ended (all_of s at) c (g.stands.rest ∙ played_end (bars_of s at) x.at x.section x.pass (bar_none s at x.at (omega (arith, h, here.count_is)))) in
        record { says = (omega (arith, e, g.listed), g.roomy, g.store ∙ ap (λ (y : List ℕ). splice l (number_at 0) (enc_all le32 y)) (take_all c (all_of s at) e)) }

    module _ (p : Pass) (from : p.from ≡ c) (k : List ℕ) (w : Walked) (v : Went s at n room p m k w) where
      -- the next pass
      pub playing_on : (y : Next) (d₀ old new : Kept) → NextIs s at n p w.count y → old ≡ get_or ks w.pass d₀ → new ≡ kept_after old w
          → Playing k (set ks w.pass new) y w.count
      playing_on y d₀ old new z o r =
          let i = v.listed in
          let h : w.pass < 33 = omega (arith, (went_in s at n p w (v.went_on)).0) in
          record {
            stands = z.stands;
            limit_is = z.limit_is;
            kept =
                λ d q j.
                by_test (eqb q w.pass)
                (λ t.
                let u : q ≡ w.pass = eqb-true q w.pass t in
                subst (λ (b : ℕ). KeptIs s at n w.count b (get_or (set ks w.pass new) b d)) (sym u)
                (subst (KeptIs s at n w.count w.pass) (sym (get_or-set_same ks w.pass new d (omega (arith, h, g.many))))
                (subst (KeptIs s at n w.count w.pass) (sym r)
                (kept_after_lem s at n c p w old (omega (arith, i.0, from)) (v.went_on) (subst (KeptIs s at n c w.pass) (sym o) (g.kept d₀ w.pass h))))))
                (λ t.
                subst (KeptIs s at n w.count q) (sym (get_or-set_other ks w.pass q new d (eqb-false q w.pass t)))
                (kept_later s at n c w.count q (get_or ks q d) (omega (arith, i.0, from)) (g.kept d q j)));
            many = length-set ks w.pass new ∙ g.many;
            listed = i.2;
            roomy = i.1;
            long = length_spliced m k (number_at p.from) (enc_all le32 (segment (all_of s at) p.from w.count)) v.store ∙ g.long;
            store =
                spliced_next l m k (number_at 0) (number_at p.from) (enc_all le32 (take c (all_of s at))) (enc_all le32 (segment (all_of s at) p.from w.count)) g.store v.store
                (omega (arith, from, length_enc (take c (all_of s at)), length-take-le c (all_of s at) g.listed))
                ∙ ap (splice l (number_at 0))
                (sym (enc_all_append le32 (take c (all_of s at)) (segment (all_of s at) p.from w.count))
                ∙ ap (enc_all le32) (ap (λ (b : ℕ). take c (all_of s at) ++ segment (all_of s at) b w.count) from ∙ take_segment (all_of s at) c w.count (omega (arith, i.0, from))));
          }
