-- What the code says of a list that is being written: its numbers stand in the store behind the count.
use Rattle.std.specs.Prelude.{ℕ, suc, ◌+◌, ◌-◌, ◌≤◌, ◌<◌, ◌≡◌, true, false, cond, ◌&&◌, List, ◌++◌, Option, Some, None, leb, ltb, length, drop, take}
use Rattle.laws.specs.Bytes.{le32, splice, enc_all}
use Rattle.reading_list.specs.Numbers.{number_at, numbers_in, above}
use Rattle.reading_walk.specs.Walk.{opens, played}
use Rattle.reading_walk.specs.Spans.{open_before, bars_of}
use Rattle.reading_walk.specs.Passes.{played_at, played_on, segment, Closed}
use Rattle.reading_bars.specs.Bars.{span_of, LimitIs}
use Rattle.reading_passes.specs.declared.Pass.{Pass}
use Rattle.reading_passes.specs.declared.Walked.{Walked}
use Rattle.reading_passes.specs.declared.Kept.{Kept}
use Rattle.reading_passes.specs.declared.Next.{Next}

-- all numbers of the part at `at`
abbrev pub all_of : List ℕ → ℕ → List ℕ
all_of s at = played (bars_of s at)

-- its first c numbers stand in the store l
pub record Lists (s : List ℕ) (at : ℕ) (l : List ℕ) (c : ℕ) : Type 0 where
  pub are : numbers_in l 0 c ≡ take c (all_of s at)

-- WHERE A PLAYER STANDS: before measure m, open before which is `span`, in pass p of the section that starts at s, open before which is `before`, with c numbers listed
pub record StandsAt (s : List ℕ) (at n m span section pass before c : ℕ) : Type 0 where
  pub in_part : m ≤ n
  pub low : section ≤ m
  pub high : m ≤ suc section
  pub pass_least : 1 ≤ pass
  pub pass_most : pass ≤ 32
  pub before_is : span_of before ≡ open_before s at section
  pub span_is : span_of span ≡ open_before s at m
  pub rest : drop c (all_of s at) ≡ played_at (bars_of s at) m section pass

-- a pass that starts there with so much room
pub record Starts (s : List ℕ) (at n room : ℕ) (p : Pass) : Type 0 where
  pub stands : StandsAt s at n p.at p.span p.section p.pass p.before p.from
  pub inside : p.at < n
  pub listed : p.from ≤ length (all_of s at)
  pub roomy : p.from ≤ room

-- the pass with which measure m is entered, whose left barline is `left` and before which `span` is open, with c numbers listed
abbrev pub entered_at : Pass → ℕ → ℕ → ℕ → ℕ → Pass
entered_at p m left span c =
    cond (ltb p.section m && opens left) (record { section = m; pass = 1; before = span; at = m; span = span; from = c }) p

-- a pass that measure w .at closed
pub record ClosedIs (s : List ℕ) (at n : ℕ) (p : Pass) (w : Walked) : Type 0 where
  pub in_part : w.at < n
  pub behind : w.section ≤ w.at
  pub pass_least : 1 ≤ w.pass
  pub pass_most : w.pass ≤ 32
  pub before_is : span_of w.before ≡ open_before s at w.section
  pub after_is : span_of w.after ≡ open_before s at (suc w.at)
  pub closed_at_lem : Closed (bars_of s at) (all_of s at) w.at w.section w.pass w.from w.count
  pub later : p.section ≤ w.section
  pub same : w.section ≤ p.section → w.pass ≡ p.pass

-- or in which he opened a section, or came to the part's end
pub record OnIs (s : List ℕ) (at n : ℕ) (p : Pass) (w : Walked) : Type 0 where
  pub stands : StandsAt s at n w.at w.after w.section w.pass w.before w.count
  pub later : p.section < w.section

pub record WentOn (s : List ℕ) (at n : ℕ) (p : Pass) (w : Walked) : Type 0 where
  pub closes : w.closed ≡ true → ClosedIs s at n p w
  pub opens : w.closed ≡ false → OnIs s at n p w

-- the pass p went as w says, in the store l, which is left as m
pub record Went (s : List ℕ) (at n room : ℕ) (p : Pass) (l m : List ℕ) (w : Walked) : Type 0 where
  pub listed : (p.from ≤ w.count) × (w.count ≤ room) × (w.count ≤ length (all_of s at))
  pub store : m ≡ splice l (number_at p.from) (enc_all le32 (segment (all_of s at) p.from w.count))
  pub went_on : WentOn s at n p w

-- or a number had no room
abbrev pub WalkSays : List ℕ → ℕ → ℕ → ℕ → Pass → List ℕ → List ℕ → Option Walked → Type 0
WalkSays s at n room p l m (Some w) = Went s at n room p l m w
WalkSays s at n room p l m None = room < length (all_of s at)

pub record WalkedIs (s : List ℕ) (at n room : ℕ) (p : Pass) (l m : List ℕ) (r : Option Walked) : Type 0 where
  pub says : WalkSays s at n room p l m r

-- THE LAST WALK of pass q that was closed, of c numbers: from every measure from `least` up to below `end` it lists the same again, in whatever section
pub record KeptIs (s : List ℕ) (at n c q : ℕ) (k : Kept) : Type 0 where
  pub order : k.from ≤ k.to
  pub listed : k.to ≤ c
  pub in_part : k.end ≤ n
  pub span_is : 0 < k.end → span_of k.span ≡ open_before s at k.end
  pub again : (t u : ℕ) → k.least ≤ t → t < k.end → u ≤ t
      → played_at (bars_of s at) t u q ≡ above t (segment (all_of s at) k.from k.to) ++ played_on (bars_of s at) (k.end - 1) u q

-- what is kept after a pass: the walk that was closed, unless what was kept before goes further
abbrev pub kept_after : Kept → Walked → Kept
kept_after k w =
    cond (w.closed && leb k.end (w.at + 1)) (record { least = w.section + 1; end = w.at + 1; from = w.from; to = w.count; span = w.after }) k

-- where the player goes on after the pass p, and the limit that is known there
pub record NextIs (s : List ℕ) (at n : ℕ) (p : Pass) (c : ℕ) (x : Next) : Type 0 where
  pub stands : StandsAt s at n x.at x.span x.section x.pass x.before c
  pub limit_is : LimitIs s at x.section (record { most = x.most; end = x.end })
  pub later : p.section ≤ x.section
  pub more : x.section ≤ p.section → x.pass ≡ suc p.pass

-- THE WHOLE LIST in the store l, which is left as m; or a number had no room
abbrev pub PlaySays : List ℕ → ℕ → ℕ → List ℕ → List ℕ → Option ℕ → Type 0
PlaySays s at room l m (Some c) = (c ≡ length (all_of s at)) × (c ≤ room) × (m ≡ splice l (number_at 0) (enc_all le32 (all_of s at)))
PlaySays s at room l m None = room < length (all_of s at)

pub record PlayedIs (s : List ℕ) (at room : ℕ) (l m : List ℕ) (r : Option ℕ) : Type 0 where
  pub says : PlaySays s at room l m r
