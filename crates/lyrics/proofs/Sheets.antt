-- A row added to the chain of a note.
use Prim.Native.Nat.{ℕ, zero, suc, ◌+◌, ◌-◌, ◌*◌, ◌≤◌, ◌<◌, ◌^◌}
use mathlib.Core.Path.{◌≡◌, refl, sym, ap, ap₂, ◌∙◌}
use mathlib.Core.List.{List, [], ◌∷◌, map}
use native.Mathlib.Nat.{not-suc-le-zero, le_of_suc-le-suc}
use native.Mathlib.Numerals.{add-one}
use native.Mathlib.Omega.{arith}
use lib.Dec.{eqb}
use lib.ListN.{length, get_or, set, take, drop}
use lib.Seq.{drop-drop}
use borrow.Author.Tests.{eq-eqb, ne_eqb}
use Rattle.laws.specs.Lists.{All, alter_at}
use Rattle.laws.specs.Bytes.{part, splice, rows, le32, little, little_at, u32_at}
use Rattle.laws.proofs.Bools.{by_test}
use Rattle.laws.proofs.Lists.{All-map}
use Rattle.laws.proofs.Splices.{length_splice, take_splice, drop_splice_past, part_same, part_below, part_above}
use Rattle.laws.proofs.Numbers.{length_little, little_at_little, little_at_own}
use Rattle.laws.proofs.Rows.{length_rows, rows_below, rows_put, rows_get}
use Rattle.reader.specs.Lyrics.{Syllable}
use Rattle.std.specs.Prelude.{Option, Some, None}
use Rattle.reader.specs.Codes.{syllabic_code}
use Rattle.lyric_words.specs.declared.Syllabic as code
use Rattle.lyric_words.specs.declared.Syllabic.TheVariants as S
use Rattle.lyrics.specs.declared.Sheet.{Sheet}
use Rattle.lyrics.specs.declared.Row.{Row}
use Rattle.lyrics.specs.Sheet.{lyric_head_width, lyric_stop_width, lyric_row_width, stops_from, with_count, row_bytes, code_of, syllabic_in, RowRead, row_read, row_of, next_of, row_at, apply_row, sung_from, head_of, heads_in, syllables_in, Kept, Room, Outside, RowAppended}

-- A ROW
pub length_row : (r : Row) (next : ℕ) → length (row_bytes r next) ≡ lyric_row_width
unfolding row_bytes little
length_row r next = refl

-- the number of a syllabic is read back
pub syllabic_back : (o : Option code.Syllabic) → syllabic_in (code_of o) ≡ o
unfolding syllabic_code
syllabic_back (Some S.Single) = refl
syllabic_back (Some S.Begins) = refl
syllabic_back (Some S.Ends) = refl
syllabic_back (Some S.Middle) = refl
syllabic_back None = refl

-- and a row
pub row_back : (r : Row) (next : ℕ) → r.at < 2 ^ 32 → r.end < 2 ^ 32 → row_of (row_bytes r next) ≡ row_read r
unfolding row_bytes row_of little little_at
row_back r next h k = λ i. record { verse = r.verse; syllabic = syllabic_in r.code; at = little_at_little 4 r.at h i; end = little_at_little 4 r.end k i }

pub next_back : (r : Row) (next : ℕ) → next < 2 ^ 32 → next_of (row_bytes r next) ≡ next
unfolding row_bytes next_of little little_at
next_back r next h = little_at_little 4 next h

-- A CHAIN
module _ (text : List ℕ) (log : ℕ) where
  -- is what its rows say
  pub chain_same : (s t : List ℕ) (n k : ℕ) → ((m : ℕ) → m < n → row_at t log m ≡ row_at s log m) → sung_from text t log n k ≡ sung_from text s log n k
  unfolding sung_from
  chain_same s t zero k h = refl
  chain_same s t (suc n) k h =
      let e = h n (omega arith) in
      let below : (j : ℕ) → sung_from text t log n j ≡ sung_from text s log n j = λ j. chain_same s t n j (λ m l. h m (omega arith)) in
      by_test (eqb k (suc n))
      (λ y. rw (y, sung_from) (ap₂ (λ (b : List ℕ) (ys : List Syllable). apply_row text (row_of b) ys) e (below (next_of (row_at t log n)) ∙ ap (λ (b : List ℕ). sung_from text s log n (next_of b)) e)))
      (λ y. rw (y, sung_from) (below k))

  -- a row more does not change the chains that do not begin with it
  pub chain_other : (s : List ℕ) (n k : ℕ) → k ≤ n → sung_from text s log (n + 1) k ≡ sung_from text s log n k
  unfolding sung_from
  chain_other s n k h =
      let d : k ≡ suc n → ⊥ = λ e. absurd (omega (arith, e)) in
      rw (add-one n) (rw (ne_eqb k (suc n) d, sung_from))

  -- the chain that begins with it
  pub chain_new : (s : List ℕ) (n : ℕ) → sung_from text s log (n + 1) (n + 1) ≡ apply_row text (row_of (row_at s log n)) (sung_from text s log n (next_of (row_at s log n)))
  unfolding sung_from
  chain_new s n = rw (add-one n) (rw (eq-eqb (suc n) (suc n) refl, sung_from))

-- ONE PLACE OF A LIST CHANGED
module _ {B : Type 0} (f g : ℕ → B) (F : B → B) (n new : ℕ) (same : (k : ℕ) → k ≤ n → g k ≡ f k) where
  pub map_other : (hs : List ℕ) → All (λ k. k ≤ n) hs → map g hs ≡ map f hs
  map_other [] a = refl
  map_other (k ∷ hs) a = λ i. same k a.0 i ∷ map_other hs a.1 i

  pub map_new : (hs : List ℕ) (i : ℕ) → i < length hs → All (λ k. k ≤ n) hs → g new ≡ F (f (get_or hs i 0)) → map g (set hs i new) ≡ alter_at i F (map f hs)
  map_new [] i h a e = absurd (not-suc-le-zero h)
  map_new (k ∷ hs) zero h a e = λ j. e j ∷ map_other hs a.1 j
  map_new (k ∷ hs) (suc i) h a e = λ j. same k a.0 j ∷ map_new hs i (le_of_suc-le-suc h) a.1 e j

-- past the last place nothing changes
pub alter_past : {A : Type 0} (k : ℕ) (f : A → A) (xs : List A) → length xs ≤ k → alter_at k f xs ≡ xs
alter_past k f [] h = refl
alter_past zero f (x ∷ xs) h = absurd (not-suc-le-zero h)
alter_past (suc k) f (x ∷ xs) h = ap (λ r. x ∷ r) (alter_past k f xs (le_of_suc-le-suc h))

All-set : (P : ℕ → Type 0) (hs : List ℕ) (i v : ℕ) → All P hs → P v → All P (set hs i v)
All-set P [] i v a p = tt
All-set P (k ∷ hs) zero v a p = (p, a.1)
All-set P (k ∷ hs) (suc i) v a p = (a.0, All-set P hs i v a.1 p)

map_length : {A B : Type 0} (f : A → B) (xs : List A) → length (map f xs) ≡ length xs
map_length f [] = refl
map_length f (x ∷ xs) = ap suc (map_length f xs)

-- OUTSIDE
pub outside_none : (s : List ℕ) (lo hi : ℕ) → Outside s s lo hi
outside_none s lo hi = record { same_length = refl; low = refl; high = refl }

drop_more : (s t : List ℕ) (m n : ℕ) → drop m t ≡ drop m s → m ≤ n → drop n t ≡ drop n s
drop_more s t m n e h =
    let k : m + (n - m) ≡ n = omega arith in
    ap (λ (j : ℕ). drop j t) (sym k) ∙ sym (drop-drop (n - m) m t) ∙ ap (drop (n - m)) e ∙ drop-drop (n - m) m s ∙ ap (λ (j : ℕ). drop j s) k

pub outside_next : (s t u : List ℕ) (lo m n : ℕ) → Outside s t lo m → m ≤ n → Outside t u lo n → Outside s u lo n
outside_next s t u lo m n a h b =
    record { same_length = b.same_length ∙ a.same_length; low = b.low ∙ a.low; high = b.high ∙ drop_more s t m n a.high h }

-- A ROW MORE
module _ (s t u : List ℕ) (h : Sheet) (note : ℕ) (r : Row) (next : ℕ) (room : Room s h) (l : note < h.sounded)
    (ne : next ≡ u32_at s (h.heads + lyric_head_width * note)) (te : t ≡ splice s (h.log + lyric_row_width * h.count) (row_bytes r next))
    (ue : u ≡ splice t (h.heads + lyric_head_width * note) (le32 (h.count + 1))) (low : r.at < 2 ^ 32) (high : r.end < 2 ^ 32) (few : next < 2 ^ 32) where
  kept : Kept s h
  kept = room.kept

  inside : h.log + lyric_row_width * h.count + lyric_row_width ≤ length s
  inside = room.inside

  small : h.count + 1 < 2 ^ 32
  small = room.few

  head_in : h.heads + lyric_head_width * note + lyric_head_width ≤ h.log
  head_in = omega (arith, kept.apart)

  length_t : length t ≡ length s
  length_t = ap length te ∙ length_splice s (h.log + lyric_row_width * h.count) (row_bytes r next)

  length_u : length u ≡ length s
  length_u = ap length ue ∙ length_splice t (h.heads + lyric_head_width * note) (le32 (h.count + 1)) ∙ length_t

  -- rows are behind the heads
  behind : (m : ℕ) → row_at u h.log m ≡ row_at t h.log m
  behind m =
      let k : length (le32 (h.count + 1)) ≡ lyric_head_width = length_little 4 (h.count + 1) in
      ap (λ (x : List ℕ). row_at x h.log m) ue ∙ part_above t (h.heads + lyric_head_width * note) (le32 (h.count + 1)) (h.log + lyric_row_width * m) lyric_row_width (omega (arith, head_in, k))

  old : (m : ℕ) → m < h.count → row_at u h.log m ≡ row_at s h.log m
  old m x = behind m ∙ ap (λ (x : List ℕ). row_at x h.log m) te ∙ part_below s (h.log + lyric_row_width * h.count) (row_bytes r next) (h.log + lyric_row_width * m) lyric_row_width (omega arith)

  fresh : row_at u h.log h.count ≡ row_bytes r next
  fresh =
      let k = length_row r next in
      behind h.count ∙ ap (λ (x : List ℕ). row_at x h.log h.count) te
      ∙ ap (part (splice s (h.log + lyric_row_width * h.count) (row_bytes r next)) (h.log + lyric_row_width * h.count)) (sym k)
      ∙ part_same s (h.log + lyric_row_width * h.count) (row_bytes r next) (omega (arith, k))

  heads_now : heads_in u h.heads h.sounded ≡ set (heads_in s h.heads h.sounded) note (h.count + 1)
  unfolding heads_in head_of
  heads_now =
      ap (λ (x : List ℕ). rows head_of lyric_head_width x h.heads h.sounded) ue
      ∙ rows_put head_of lyric_head_width t h.heads h.sounded note (le32 (h.count + 1)) l (length_little 4 (h.count + 1)) (omega (arith, kept.apart, length_t))
      ∙ ap (λ (x : List ℕ). set (rows head_of lyric_head_width x h.heads h.sounded) note (head_of (le32 (h.count + 1)))) te
      ∙ ap (λ (x : List ℕ). set x note (head_of (le32 (h.count + 1)))) (rows_below head_of lyric_head_width s h.heads h.sounded (h.log + lyric_row_width * h.count) (row_bytes r next) (omega (arith, kept.apart)))
      ∙ ap (set (rows head_of lyric_head_width s h.heads h.sounded) note) (little_at_little 4 (h.count + 1) small)

  head_then : get_or (heads_in s h.heads h.sounded) note 0 ≡ next
  unfolding heads_in head_of
  head_then = rows_get head_of lyric_head_width s h.heads h.sounded note 0 l ∙ sym (little_at_own 4 s (h.heads + lyric_head_width * note)) ∙ sym ne

  many : length (heads_in s h.heads h.sounded) ≡ h.sounded
  unfolding heads_in
  many = length_rows head_of lyric_head_width s h.heads h.sounded

  row_sung : (text : List ℕ) → syllables_in text u (with_count h (h.count + 1)) ≡ alter_at note (apply_row text (row_read r)) (syllables_in text s h)
  unfolding syllables_in
  row_sung text =
      let f = sung_from text s h.log h.count in
      let g = sung_from text u h.log (h.count + 1) in
      let same : (k : ℕ) → k ≤ h.count → g k ≡ f k = λ k x. chain_other text h.log u h.count k x ∙ chain_same text h.log s u h.count k old in
      let new : g (h.count + 1) ≡ apply_row text (row_read r) (f (get_or (heads_in s h.heads h.sounded) note 0)) =
      chain_new text h.log u h.count
      ∙ ap (λ (b : List ℕ). apply_row text (row_of b) (sung_from text u h.log h.count (next_of b))) fresh
      ∙ ap₂ (λ (x : RowRead) (k : ℕ). apply_row text x (sung_from text u h.log h.count k)) (row_back r next low high) (next_back r next few ∙ sym head_then)
      ∙ ap (apply_row text (row_read r)) (chain_same text h.log s u h.count (get_or (heads_in s h.heads h.sounded) note 0) old) in
      ap (map g) heads_now ∙ map_new f g (apply_row text (row_read r)) h.count (h.count + 1) same (heads_in s h.heads h.sounded) note (rw many l) kept.firsts new

  same_stops : part u (stops_from h) (lyric_stop_width * h.sounded) ≡ part s (stops_from h) (lyric_stop_width * h.sounded)
  same_stops =
      ap (λ (x : List ℕ). part x (stops_from h) (lyric_stop_width * h.sounded)) ue
      ∙ part_above t (h.heads + lyric_head_width * note) (le32 (h.count + 1)) (stops_from h) (lyric_stop_width * h.sounded) (omega (arith, length_little 4 (h.count + 1)))
      ∙ ap (λ (x : List ℕ). part x (stops_from h) (lyric_stop_width * h.sounded)) te
      ∙ part_below s (h.log + lyric_row_width * h.count) (row_bytes r next) (stops_from h) (lyric_stop_width * h.sounded) (omega (arith, kept.apart))

  pub row_appended : RowAppended s u h note r (h.count + 1)
  row_appended =
      let k = length_row r next in
      let j = length_little 4 (h.count + 1) in
      record {
        kept = record {
          apart = kept.apart;
          inside = omega (arith, length_u);
          firsts = rw heads_now (All-set (λ k. k ≤ h.count + 1) (heads_in s h.heads h.sounded) note (h.count + 1) (All-map (λ k. k ≤ h.count) (λ k. k ≤ h.count + 1) (λ k x. omega arith) (heads_in s h.heads h.sounded) kept.firsts) (omega arith));
        };
        sung = row_sung;
        more = omega arith;
        one = omega arith;
        stops = same_stops;
        outside = record {
          same_length = length_u;
          low =
              ap (take h.heads) ue ∙ take_splice h.heads t (h.heads + lyric_head_width * note) (le32 (h.count + 1)) (omega arith)
              ∙ ap (take h.heads) te ∙ take_splice h.heads s (h.log + lyric_row_width * h.count) (row_bytes r next) (omega (arith, kept.apart));
          high =
              ap (drop (h.log + lyric_row_width * (h.count + 1))) ue
              ∙ drop_splice_past (h.log + lyric_row_width * (h.count + 1)) t (h.heads + lyric_head_width * note) (le32 (h.count + 1)) (omega (arith, head_in, j))
              ∙ ap (drop (h.log + lyric_row_width * (h.count + 1))) te
              ∙ drop_splice_past (h.log + lyric_row_width * (h.count + 1)) s (h.log + lyric_row_width * h.count) (row_bytes r next) (omega (arith, k));
        };
      }

-- a list for each note
pub how_many : (text s : List ℕ) (h : Sheet) → length (syllables_in text s h) ≡ h.sounded
unfolding syllables_in heads_in
how_many text s h = map_length (sung_from text s h.log h.count) (rows head_of lyric_head_width s h.heads h.sounded) ∙ length_rows head_of lyric_head_width s h.heads h.sounded

-- past the last note nothing is added
pub none_appended : (s : List ℕ) (h : Sheet) (note : ℕ) (r : Row) → Kept s h → h.sounded ≤ note → RowAppended s s h note r h.count
none_appended s h note r kept l =
    record {
      kept = record { apart = kept.apart; inside = kept.inside; firsts = kept.firsts };
      sung = λ text. sym (alter_past note (apply_row text (row_read r)) (syllables_in text s h) (rw (how_many text s h) l));
      more = omega arith;
      one = omega arith;
      stops = refl;
      outside = outside_none s h.heads (h.log + lyric_row_width * h.count);
    }
