-- THE TABLE OF STOPS: a stop read, written and read back.
use Prim.Native.Nat.{ℕ, ◌+◌, ◌*◌, ◌/◌, ◌%◌, ◌≤◌, ◌<◌, max, min}
use mathlib.Core.Path.{◌≡◌, refl, sym, ap, ◌∙◌}
use mathlib.Core.List.{List, [], ◌∷◌, ◌++◌}
use native.Mathlib.Nat.{add-zero}
use native.Mathlib.Omega.{arith}
use lib.ListN.{length, get_or, set, get_or-eq_default, length-append}
use Rattle.laws.specs.Bytes.{part, splice, rows, le16, u16_at, little, little_at}
use Rattle.laws.proofs.Parts.{get_d_part}
use Rattle.laws.proofs.Numbers.{length_little, little_at_part, little_at_little}
use Rattle.laws.proofs.Rows.{length_rows, rows_get, rows_part, rows_push, rows_put}
use Rattle.lyric_stops.specs.declared.Kind.{Kind}
use Rattle.lyric_stops.specs.declared.Stop.{Stop}
use Rattle.lyric_stops.specs.declared.Stops.{Stops}
use Rattle.lyric_stops.specs.Stops.{lyric_stop_width, top_at, farthest, bits_of, kind_of, stop_bytes, stop_of, stops_in, no_stop}

-- READ
module _ (s : List ℕ) (t : Stops) where
  pub how_many : length (stops_in s t) ≡ t.count
  unfolding stops_in
  how_many = length_rows stop_of lyric_stop_width s t.at t.count

  -- behind the last
  pub stop_over : (j : ℕ) → t.count ≤ j → get_or (stops_in s t) j no_stop ≡ no_stop
  stop_over j h = get_or-eq_default (stops_in s t) no_stop (omega (arith, how_many))

  -- by its bytes
  pub stop_here : (j : ℕ) → j < t.count
      → get_or (stops_in s t) j no_stop ≡ record { kind = kind_of (get_or s (t.at + lyric_stop_width * j + top_at) 0 / 64); distance = max 1 (u16_at s (t.at + lyric_stop_width * j) + get_or s (t.at + lyric_stop_width * j + top_at) 0 % 64 * 65536) }
  unfolding stops_in stop_of
  stop_here j h =
      let p = t.at + lyric_stop_width * j in
      let low : u16_at (part s p lyric_stop_width) 0 ≡ u16_at s p = little_at_part 2 s p lyric_stop_width 0 (omega arith) ∙ ap (little_at 2 s) (add-zero p) in
      let top : get_or (part s p lyric_stop_width) top_at 0 ≡ get_or s (p + top_at) 0 = get_d_part s p lyric_stop_width top_at (omega arith) in
      rows_get stop_of lyric_stop_width s t.at t.count j no_stop h ∙ (λ i. record { kind = kind_of (top i / 64); distance = max 1 (low i + top i % 64 * 65536) })

-- a table is what its bytes say
pub stops_same : (s s' : List ℕ) (t : Stops) → part s' t.at (lyric_stop_width * t.count) ≡ part s t.at (lyric_stop_width * t.count) → stops_in s' t ≡ stops_in s t
unfolding stops_in
stops_same s s' t e =
    sym (own s') ∙ ap (λ (b : List ℕ). rows stop_of lyric_stop_width b 0 t.count) e ∙ own s
  where
    own : (u : List ℕ) → rows stop_of lyric_stop_width (part u t.at (lyric_stop_width * t.count)) 0 t.count ≡ rows stop_of lyric_stop_width u t.at t.count
    own u = rows_part stop_of lyric_stop_width u t.at (lyric_stop_width * t.count) 0 t.count (omega arith) ∙ ap (λ (k : ℕ). rows stop_of lyric_stop_width u k t.count) (add-zero t.at)

-- WRITTEN
pub length_stop : (k : Kind) (d : ℕ) → length (stop_bytes k d) ≡ lyric_stop_width
unfolding stop_bytes
length_stop k d = length-append (le16 (d % 65536)) ((bits_of k * 64 + d / 65536) ∷ []) ∙ omega (arith, length_little 2 (d % 65536))

-- it is read back
kind_back : (k : Kind) → kind_of (bits_of k) ≡ k
kind_back Kind.Passed = refl
kind_back Kind.Later = refl
kind_back Kind.First = refl

pub stop_back : (k : Kind) (d : ℕ) → d ≤ farthest → stop_of (stop_bytes k d) ≡ record { kind = k; distance = max 1 d }
unfolding stop_bytes stop_of little little_at
stop_back k d l =
    let low : u16_at (le16 (d % 65536)) 0 ≡ d % 65536 = little_at_little 2 (d % 65536) (omega arith) in
    let b = bits_of k in
    let same : (b * 64 + d / 65536) / 64 ≡ b = omega arith in
    let kind : kind_of ((b * 64 + d / 65536) / 64) ≡ k = ap kind_of same ∙ kind_back k in
    let rest : (b * 64 + d / 65536) % 64 ≡ d / 65536 = omega arith in
    let whole : d % 65536 + d / 65536 * 65536 ≡ d = omega arith in
    (λ i. record { kind = kind i; distance = max 1 (low i + rest i * 65536) }) ∙ ap (λ (n : ℕ). record { kind = k; distance = max 1 n }) whole

-- a stop as it is written: kind and distance
abbrev pub written : Kind → ℕ → Stop
written k d = record { kind = k; distance = max 1 (min d farthest) }

module _ (s s' : List ℕ) (at j : ℕ) (k : Kind) (d : ℕ) (e : s' ≡ splice s (at + lyric_stop_width * j) (stop_bytes k (min d farthest))) where
  back : stop_of (stop_bytes k (min d farthest)) ≡ written k d
  back = stop_back k (min d farthest) (omega arith)

  -- behind the last
  pub stops_push : at + lyric_stop_width * j + lyric_stop_width ≤ length s → stops_in s' (record { at = at; count = j + 1 }) ≡ stops_in s (record { at = at; count = j }) ++ (written k d ∷ [])
  unfolding stops_in
  stops_push room =
      ap (λ (u : List ℕ). rows stop_of lyric_stop_width u at (j + 1)) e
      ∙ rows_push stop_of lyric_stop_width s at j (stop_bytes k (min d farthest)) (length_stop k (min d farthest)) room
      ∙ ap (λ (x : Stop). rows stop_of lyric_stop_width s at j ++ (x ∷ [])) back

  -- in place of another
  pub stops_put : (n : ℕ) → j < n → at + lyric_stop_width * n ≤ length s → stops_in s' (record { at = at; count = n }) ≡ set (stops_in s (record { at = at; count = n })) j (written k d)
  unfolding stops_in
  stops_put n h room =
      ap (λ (u : List ℕ). rows stop_of lyric_stop_width u at n) e
      ∙ rows_put stop_of lyric_stop_width s at n j (stop_bytes k (min d farthest)) h (length_stop k (min d farthest)) room
      ∙ ap (set (rows stop_of lyric_stop_width s at n) j) back
