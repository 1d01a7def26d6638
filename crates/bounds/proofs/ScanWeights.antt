-- The scan: each line of the text covers its items and the voice that it names; so many lines, so many items; voices up to 32.
use Prim.Native.Nat.{ℕ, suc, ◌+◌, ◌-◌, ◌*◌, ◌≤◌, ◌<◌, max}
use mathlib.Core.Path.{◌≡◌, refl, sym, ap, subst, ◌∙◌}
use mathlib.Core.Bool.{Bool, true, false}
use mathlib.Core.Option.{Option, none, some}
use mathlib.Core.List.{List, [], ◌∷◌, ◌++◌, append-nil}
use mathlib.Core.Logic.{◌⊎◌, inl, inr}
use native.Mathlib.Nat.{mul-add, mul-suc}
use native.Mathlib.Omega.{arith}
use lib.Dec.{leb, ltb}
use lib.ListN.{length, length-append}
use Rattle.laws.specs.Lists.{sum, All, elem}
use Rattle.laws.proofs.Bools.{by_test}
use Rattle.laws.proofs.Lists.{sum_append, All-append}
use Rattle.laws.proofs.Numbers.{mul_le_right, mul_le_left}
use Rattle.editions.specs.declared.Edition.{Edition}
use Rattle.reader.specs.Text.{clean}
use Rattle.reader.specs.Tokens.{Effect}
use Rattle.reader.specs.Lines.{Kind, blank, refused, lyric, voice, key, meter, unit, tune, other, music, line_kind, kind_of}
use Rattle.reader.specs.Steps.{TextLine, refuse, on, run, first}
use Rattle.reader.specs.Scan.{Item, ScanState, most_voices, most_lines, with_unnamed, voices_before, play_on, voice_on, unit_on, act, step, first_refusal, Out, Items}
use Rattle.reader.specs.Answer.{is_music}
use Rattle.bounds.specs.Weights.{music_bytes, lyric_bytes, item_bytes}
use Rattle.bounds.proofs.LineWeights.{Fed, KindFits, kind_fits, clean_length}

-- WHAT HOLDS OF A STEP that is not refused
unfoldable pub Holds : (ScanState → Items → Type 0) → Out → Type 0
Holds P (refuse n l) = Unit {0}
Holds P (on t a) = P t a

-- what follows from it
pub holds_map : (P Q : ScanState → Items → Type 0) → ((t : ScanState) (a : Items) → P t a → Q t a) → (o : Out) → Holds P o → Holds Q o
unfolding Holds
holds_map P Q f (refuse n l) h = tt
holds_map P Q f (on t a) h = f t a h

-- items of a line before those of the lines behind it
holds_first : (P Q : ScanState → Items → Type 0) (a : Items) → ((t : ScanState) (b : Items) → P t b → Q t (a ++ b)) → (o : Out) → Holds P o → Holds Q (first a o)
unfolding Holds
holds_first P Q a f (refuse n l) h = tt
holds_first P Q a f (on t b) h = f t b h

-- a line, and the lines behind it
pub holds_run : (ed : Edition) (P R : ScanState → Items → Type 0) (Q : ScanState → Items → ScanState → Items → Type 0) (s : ScanState) (r : TextLine) (rs : List TextLine)
    → Holds P (step ed s r) → ((t : ScanState) (a : Items) → P t a → Holds (Q t a) (run (step ed) t rs))
    → ((t : ScanState) (a : Items) (u : ScanState) (b : Items) → P t a → Q t a u b → R u (a ++ b)) → Holds R (run (step ed) s (r ∷ rs))
unfolding Holds
holds_run ed P R Q s r rs h g f = go (step ed s r) refl h
  where
    go : (o : Out) → step ed s r ≡ o → Holds P o → Holds R (run (step ed) s (r ∷ rs))
    go (refuse n l) e k = rw (e, run) tt
    go (on t a) e k = rw (e, run) (holds_first (Q t a) R a (λ u b q. f t a u b k q) (run (step ed) t rs) (g t a k))

-- no item is of a music line
abbrev pub Silent : Items → Type 0
Silent a = All (λ (x : ℕ × Item). is_music x.1 ≡ false) a

-- VOICES: as many parts as there are, one at least
abbrev pub voice_count : ScanState → ℕ
voice_count s = max 1 (length s.env.voices)

-- the unnamed voice of opening music counts as one
unnamed_count : (o : Bool) (vs : List (List ℕ)) → max 1 (length (with_unnamed o vs)) ≡ max 1 (length vs)
unfolding with_unnamed
unnamed_count true [] = refl
unnamed_count false [] = refl
unnamed_count o (v ∷ vs) = refl

pub before_count : (s : ScanState) → max 1 (length (voices_before s)) ≡ voice_count s
unfolding voices_before
before_count s = unnamed_count s.opened s.env.voices

-- THE WEIGHT OF A LINE: an item's, and that of a byte of the item's line; the budget of a byte of the text, and what is left to the line feed; a voice's
module _ (ed : Edition) (item byte per_byte rest voice_weight : ℕ) where
  -- each byte's budget covers these weights
  pub record Enough : Type 0 where
    -- a line of one byte, and its feed
    pub bytes : byte ≤ per_byte
    pub lines : item + byte ≤ per_byte + rest
    pub feed : rest ≤ per_byte
    -- a V line has three bytes, two items and a voice
    pub voices : 2 * item + voice_weight ≤ 3 * per_byte + rest

  -- an item with its line
  abbrev pub weight : Item → ℕ
  weight i = item + byte * item_bytes i

  -- all items
  abbrev pub total : Items → ℕ
  total a = sum (λ (x : ℕ × Item). weight x.1) a

  -- n bytes cover the items and the voices that are new, but for what is left to the line feed
  abbrev pub Budget : ScanState → ℕ → ScanState → Items → Type 0
  Budget s n t a = total a + voice_weight * voice_count t ≤ voice_weight * voice_count s + per_byte * n + rest

  module _ (enough : Enough) where
    -- a line of n bytes, of which m + 1 weigh
    line_weight : (m n : ℕ) → suc m ≤ n → item + byte * suc m ≤ per_byte * n + rest
    line_weight m n h = omega (arith, mul_le_left byte per_byte m enough.bytes, mul-suc byte m, mul-suc per_byte m, mul_le_right per_byte (suc m) n h, enough.lines)

    -- a line of two bytes
    item_weight_lem : (n : ℕ) → 2 ≤ n → item ≤ per_byte * n + rest
    item_weight_lem n h = omega (arith, mul_le_right per_byte 2 n h, enough.lines, enough.bytes)

    -- three bytes
    three : (n : ℕ) → 3 ≤ n → 3 * per_byte ≤ per_byte * n
    three n h = omega (arith, mul_le_right per_byte 3 n h)

    -- as many voices
    same_voices : (m n : ℕ) → m ≡ n → voice_weight * m ≡ voice_weight * n
    same_voices m n e = ap (λ (x : ℕ). voice_weight * x) e

    -- one voice more
    one_more : (n : ℕ) → voice_weight * max 1 (n + 1) ≤ voice_weight * max 1 n + voice_weight
    one_more n = omega (arith, mul_le_right voice_weight (max 1 (n + 1)) (max 1 n + 1) (omega arith), mul-add voice_weight (max 1 n) 1)

    -- a V line of three bytes or more
    voice_budget : (s : ScanState) (v : List ℕ) (vs : List (List ℕ)) (n : ℕ) → max 1 (length vs) ≡ voice_count s → 3 ≤ n → (known full mid : Bool) → Holds (Budget s n) (voice_on s v vs known full mid)
    unfolding voice_on Holds item_bytes music_bytes lyric_bytes
    voice_budget s v vs n e h true full true = tt
    voice_budget s v vs n e h true full false = omega (arith, same_voices (max 1 (length vs)) (voice_count s) e, item_weight_lem n (omega arith))
    voice_budget s v vs n e h false true mid = tt
    voice_budget s v vs n e h false false true = tt
    voice_budget s v vs n e h false false false =
        omega (arith, same_voices (max 1 (length vs)) (voice_count s) e, one_more (length vs), same_voices (max 1 (length (vs ++ (v ∷ [])))) (max 1 (length vs + 1)) (ap (max 1) (length-append vs (v ∷ []))), three n h, enough.voices)

    -- a music line
    play_budget : (s : ScanState) (es : List Effect) (l : List ℕ) (n : ℕ) → 1 ≤ length l → length l ≤ n → (o : Option ℕ) → Holds (Budget s n) (play_on s es l o)
    unfolding play_on Holds item_bytes music_bytes lyric_bytes
    play_budget s es l n g h (some k) = tt
    play_budget s es [] n g h none = absurd (omega (arith, g))
    play_budget s es (c ∷ l) n g h none = omega (arith, line_weight (length l) n h, more_bytes)
      where
        more_bytes : byte * (suc (length l) + 0) ≤ byte * suc (length l)
        more_bytes = mul_le_right byte (suc (length l) + 0) (suc (length l)) (omega arith)

    unit_budget : (s : ScanState) (n : ℕ) (u : Option ℕ) → Holds (Budget s n) (unit_on s u)
    unfolding unit_on Holds
    unit_budget s n none = omega arith
    unit_budget s n (some u) = omega arith

    act_budget : (s : ScanState) (k : Kind) (h : Bool) (n : ℕ) → KindFits n k → Holds (Budget s n) (act s k h)
    unfolding act Holds KindFits item_bytes music_bytes lyric_bytes
    act_budget s blank h n f = omega arith
    act_budget s (refused k) h n f = tt
    act_budget s (lyric t) true n f = omega arith
    act_budget s (lyric t) false n f = omega (arith, line_weight (length t) n (omega arith), mul_le_right byte (0 + length t) (suc (length t)) (omega arith))
    act_budget s (voice v mid) h n f = voice_budget s v (voices_before s) n (before_count s) f (elem v (voices_before s)) (leb most_voices (length (voices_before s))) mid
    act_budget s (key k) true n f = omega (arith, item_weight_lem n f)
    act_budget s (key k) false n f = omega (arith, item_weight_lem n f)
    act_budget s (meter m) true n f = omega arith
    act_budget s (meter m) false n f = omega (arith, item_weight_lem n f)
    act_budget s (unit u) h n f = unit_budget s n u
    act_budget s tune true n f = omega arith
    act_budget s tune false n f = tt
    act_budget s other h n f = omega arith
    act_budget s (music hi es l) true n f = omega arith
    act_budget s (music true es l) false n f = tt
    act_budget s (music false es l) false n f = play_budget s es l n f.0 f.1 (first_refusal s.notes es)

    -- a line of the text, by its line cut and trimmed
    pub line_budget : (s : ScanState) (r : TextLine) → Holds (Budget s (length (clean r))) (step ed s r)
    unfolding step kind_of Holds
    line_budget s r =
        by_test (ltb s.lines most_lines) (λ e. rw e (act_budget s (line_kind ed (clean r)) s.env.in_header (length (clean r)) (kind_fits ed (clean r)))) (λ e. rw e tt)

    -- a line feed covers what is left to it
    fed_row : (m n : ℕ) → m < n → per_byte * m + rest ≤ per_byte * n
    fed_row m n h = omega (arith, mul_le_right per_byte (suc m) n h, mul-suc per_byte m, enough.feed)

    -- THE LINES OF A TEXT
    pub lines_budget : (rs : List TextLine) → Fed rs → (s : ScanState) → Holds (Budget s (sum length rs)) (run (step ed) s rs)
    unfolding Holds Fed
    lines_budget [] f s = omega arith
    lines_budget (r ∷ []) f s =
        holds_run ed (Budget s (length (clean r))) (Budget s (length r + 0)) (λ t a u b. (u ≡ t) × (b ≡ [])) s r [] (line_budget s r) (λ t a h. (refl, refl))
        (λ t a u b h q. omega (arith, h, sum_append (λ (x : ℕ × Item). weight x.1) a b, ap total q.1, ap (λ (x : ScanState). voice_weight * voice_count x) q.0, mul_le_right per_byte (length (clean r)) (length r + 0) (omega (arith, clean_length r))))
    lines_budget (r ∷ q ∷ rs) f s =
        holds_run ed (Budget s (length (clean r))) (Budget s (sum length (r ∷ q ∷ rs))) (λ t a u b. Budget t (sum length (q ∷ rs)) u b) s r (q ∷ rs) (line_budget s r) (λ t a h. lines_budget (q ∷ rs) f.1 t)
        (λ t a u b h k. omega (arith, h, k, sum_append (λ (x : ℕ × Item). weight x.1) a b, fed_row (length (clean r)) (length r) f.0, mul-add per_byte (length r) (sum length (q ∷ rs))))

    -- IN THE HEADER no item is music. A line of it: the header goes on, or this is its K line, of two bytes or more
    record Head (s : ScanState) (n : ℕ) (t : ScanState) (a : Items) : Type 0 where
      pub silent : Silent a
      pub budget : Budget s n t a
      pub line : (t.env.in_header ≡ true) ⊎ ((2 ≤ n) × ((total a ≡ item) × (voice_count t ≡ voice_count s)))

    voice_head : (s : ScanState) (v : List ℕ) (vs : List (List ℕ)) (n : ℕ) → s.env.in_header ≡ true → (known full mid : Bool) → Holds (Budget s n) (voice_on s v vs known full mid) → Holds (Head s n) (voice_on s v vs known full mid)
    unfolding voice_on Holds is_music
    voice_head s v vs n e true full true b = tt
    voice_head s v vs n e true full false b = record { silent = (refl, tt); budget = b; line = inl e }
    voice_head s v vs n e false true mid b = tt
    voice_head s v vs n e false false true b = tt
    voice_head s v vs n e false false false b = record { silent = (refl, (refl, tt)); budget = b; line = inl e }

    unit_head : (s : ScanState) (n : ℕ) → s.env.in_header ≡ true → (u : Option ℕ) → Holds (Budget s n) (unit_on s u) → Holds (Head s n) (unit_on s u)
    unfolding unit_on Holds
    unit_head s n e none b = record { silent = tt; budget = b; line = inl e }
    unit_head s n e (some u) b = record { silent = tt; budget = b; line = inl e }

    act_head : (s : ScanState) (k : Kind) (n : ℕ) → s.env.in_header ≡ true → KindFits n k → Holds (Budget s n) (act s k true) → Holds (Head s n) (act s k true)
    unfolding act Holds KindFits is_music item_bytes music_bytes lyric_bytes
    act_head s blank n e f b = record { silent = tt; budget = b; line = inl e }
    act_head s (refused k) n e f b = tt
    act_head s (lyric t) n e f b = record { silent = tt; budget = b; line = inl e }
    act_head s (voice v mid) n e f b = voice_head s v (voices_before s) n e (elem v (voices_before s)) (leb most_voices (length (voices_before s))) mid b
    act_head s (key k) n e f b = record { silent = (refl, tt); budget = b; line = inr (f, (omega arith, refl)) }
    act_head s (meter m) n e f b = record { silent = tt; budget = b; line = inl e }
    act_head s (unit u) n e f b = unit_head s n e u b
    act_head s tune n e f b = record { silent = tt; budget = b; line = inl e }
    act_head s other n e f b = record { silent = tt; budget = b; line = inl e }
    act_head s (music hi es l) n e f b = record { silent = tt; budget = b; line = inl e }

    row_head : (s : ScanState) (r : TextLine) → s.env.in_header ≡ true → Holds (Head s (length (clean r))) (step ed s r)
    unfolding step kind_of Holds
    row_head s r e =
        by_test (ltb s.lines most_lines)
        (λ q. rw q (subst (λ (h : Bool). Holds (Head s (length (clean r))) (act s (line_kind ed (clean r)) h)) (sym e) (act_head s (line_kind ed (clean r)) (length (clean r)) e (kind_fits ed (clean r)) (act_budget s (line_kind ed (clean r)) true (length (clean r)) (kind_fits ed (clean r))))))
        (λ q. rw q tt)

    -- THE LINES FROM THE HEADER ON: nothing is played, or the K line and its feed cover `extra` too
    module _ (extra : ℕ) (room : item + extra ≤ 3 * per_byte) where
      -- what the lines from the header on come to
      abbrev pub Headed : ScanState → ℕ → ScanState → Items → Type 0
      Headed s n t a = Silent a ⊎ (total a + voice_weight * voice_count t + extra ≤ voice_weight * voice_count s + per_byte * n + rest)

      -- a K line and its feed
      three_bytes : (m n : ℕ) → 2 ≤ m → m < n → item + extra ≤ per_byte * n
      three_bytes m n h l = omega (arith, room, mul_le_right per_byte 3 n (omega arith))

      -- so it is for any lines
      pub head_budget : (rs : List TextLine) → Fed rs → (s : ScanState) → s.env.in_header ≡ true → Holds (Headed s (sum length rs)) (run (step ed) s rs)
      unfolding Holds Fed
      head_budget [] f s e = inl tt
      head_budget (r ∷ []) f s e =
          holds_run ed (Head s (length (clean r))) (Headed s (length r + 0)) (λ t a u b. b ≡ []) s r [] (row_head s r e) (λ t a h. refl)
          (λ t a u b h q. inl (subst Silent (sym (ap (λ (x : Items). a ++ x) q ∙ append-nil a)) h.silent))
      head_budget (r ∷ q ∷ rs) f s e =
          let n = sum length (q ∷ rs) in
          holds_run ed (Head s (length (clean r))) (Headed s (length r + n)) (λ t a u b. Headed t n u b ⊎ (Budget t n u b × Key s (length (clean r)) t a)) s r (q ∷ rs) (row_head s r e)
          (λ t a h. behind (λ u i. head_budget (q ∷ rs) f.1 u i) t a h.line) (λ t a u b h k. both t a u b h k)
        where
          -- this line is the header's K line
          Key : ScanState → ℕ → ScanState → Items → Type 0
          Key s n t a = (2 ≤ n) × ((total a ≡ item) × (voice_count t ≡ voice_count s))

          behind : ((u : ScanState) → u.env.in_header ≡ true → Holds (Headed u (sum length (q ∷ rs))) (run (step ed) u (q ∷ rs))) → (t : ScanState) (a : Items) → (t.env.in_header ≡ true) ⊎ Key s (length (clean r)) t a
              → Holds (λ u b. Headed t (sum length (q ∷ rs)) u b ⊎ (Budget t (sum length (q ∷ rs)) u b × Key s (length (clean r)) t a)) (run (step ed) t (q ∷ rs))
          behind ih t a (inl i) = holds_map (Headed t (sum length (q ∷ rs))) _ (λ u b k. inl k) (run (step ed) t (q ∷ rs)) (ih t i)
          behind ih t a (inr x) = holds_map (Budget t (sum length (q ∷ rs))) _ (λ u b k. inr (k, x)) (run (step ed) t (q ∷ rs)) (lines_budget (q ∷ rs) f.1 t)

          both : (t : ScanState) (a : Items) (u : ScanState) (b : Items) → Head s (length (clean r)) t a
              → Headed t (sum length (q ∷ rs)) u b ⊎ (Budget t (sum length (q ∷ rs)) u b × Key s (length (clean r)) t a) → Headed s (length r + sum length (q ∷ rs)) u (a ++ b)
          both t a u b h (inl (inl k)) = inl (All-append _ a b h.silent k)
          both t a u b h (inl (inr k)) =
              inr (omega (arith, h.budget, k, sum_append (λ (x : ℕ × Item). weight x.1) a b, fed_row (length (clean r)) (length r) f.0, mul-add per_byte (length r) (sum length (q ∷ rs))))
          both t a u b h (inr (k, (two, (one, same)))) =
              inr (omega (arith, k, one, sum_append (λ (x : ℕ × Item). weight x.1) a b, three_bytes (length (clean r)) (length r) two f.0, mul-add per_byte (length r) (sum length (q ∷ rs)), same_voices (voice_count t) (voice_count s) same))
