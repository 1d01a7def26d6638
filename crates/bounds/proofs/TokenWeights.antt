-- The bytes of a token cover what it adds, so a line's bytes cover all its tokens: the law of capacity's Weights, at one budget for every byte.
use Prim.Native.Nat.{ℕ, zero, suc, ◌+◌, ◌-◌, ◌*◌, pred, ◌≤◌, zero-le}
use mathlib.Core.Path.{◌≡◌}
use mathlib.Core.Option.{Option, none, some}
use mathlib.Core.List.{List, [], ◌∷◌}
use native.Mathlib.Nat.{mul-add, mul-suc}
use native.Mathlib.Omega.{arith}
use lib.ListN.{length, take, length-take}
use Rattle.laws.specs.Lists.{sum}
use Rattle.laws.proofs.Numbers.{mul_le_right}
use Rattle.standard.specs.Pitches.{Accidental, Written}
use Rattle.editions.specs.declared.Edition.{Edition}
use Rattle.reader.specs.Token.{Token, space, overlay, quoted, broken, tuplet, slur, grace_open, grace_close, decoration, barline, volta, unit, meter, key, field, chord, rest, note, nothing, skipped, refused}
use Rattle.reader.specs.Tokens.{token_of, tokens}
use Rattle.reader.proofs.TokenLaws.{takes_a_byte}
use Rattle.reader.proofs.TokenBounds.{takes_what_is_there}
use Rattle.capacity.specs.Covers.{sign_count, signs_in, makes}
use Rattle.capacity.proofs.Weights as weights
use Rattle.bounds.specs.Weights.{Weights, Covered, mark_weight, written_weight, token_weight}

-- a sum of one number
same_weight : (b : ℕ) (l : List ℕ) → sum (λ c. b) l ≡ b * length l
same_weight b [] = omega arith
same_weight b (c ∷ l) = omega (arith, same_weight b l, mul-suc b (length l))

module _ (ed : Edition) (p : Weights) (enough : Covered p) where
  -- the same weights by byte: a note keeps back its share, a measure weighs what a byte covers
  abbrev by_byte : weights.Weights
  by_byte = record { measure = p.byte; note = p.note + p.kept; pitch = p.pitch; accidental = p.accidental; byte = λ c. p.byte }

  covered : weights.Covered by_byte
  covered =
      record {
        letters = λ c e. omega (arith, enough.notes);
        rests = λ c e. omega (arith, enough.notes);
        bars = λ c e. omega arith;
        signs = λ c e. enough.accidentals;
      }

  mark_same : (a : Option Accidental) → mark_weight p a ≡ p.accidental * sign_count a
  unfolding mark_weight
  mark_same none = omega arith
  mark_same (some a) = omega arith

  written_same : (ws : List Written) → sum (written_weight p) ws ≡ p.pitch * length ws + p.accidental * signs_in ws
  unfolding written_weight
  written_same [] = omega arith
  written_same (w ∷ ws) =
      omega (arith, mark_same w.sign, written_same ws, mul-suc p.pitch (length ws), mul-add p.accidental (sign_count w.sign) (signs_in ws))

  token_same : (t : Token) → token_weight p t ≤ weights.weight ed by_byte covered (makes t)
  unfolding token_weight written_weight weights.weight
  token_same space = zero-le
  token_same overlay = zero-le
  token_same quoted = zero-le
  token_same (broken up n) = zero-le
  token_same (tuplet t) = zero-le
  token_same slur = zero-le
  token_same grace_open = zero-le
  token_same grace_close = zero-le
  token_same decoration = zero-le
  token_same (barline b o) = omega arith
  token_same (volta ps) = zero-le
  token_same (unit u) = zero-le
  token_same (meter m) = zero-le
  token_same (key k) = zero-le
  token_same field = zero-le
  token_same (chord ws l b) = omega (arith, written_same ws)
  token_same (rest k l) = omega arith
  token_same (note w l b) = omega (arith, mark_same w.sign)
  token_same nothing = zero-le
  token_same skipped = zero-le
  token_same (refused n) = zero-le

  -- the bytes of a token cover it
  pub token_covered : (c : ℕ) (s : List ℕ) → token_weight p (token_of ed (c ∷ s)).token ≤ p.byte * (token_of ed (c ∷ s)).used
  token_covered c s =
      let t = token_of ed (c ∷ s) in
      let l = take t.used (c ∷ s) in
      let n : length l ≤ t.used = simp length-take (omega arith) in
      omega (arith, token_same t.token, weights.token_covered ed by_byte covered c s, same_weight p.byte l, mul_le_right p.byte (length l) t.used n)

  -- THE BYTES OF A LINE COVER ITS TOKENS; k of them belong to a token that is covered
  tokens_covered : (k : ℕ) (s : List ℕ) → sum (token_weight p) (tokens ed k s) ≤ p.byte * (length s - k)
  unfolding tokens
  tokens_covered k [] = zero-le
  tokens_covered zero (c ∷ s) =
      let t = token_of ed (c ∷ s) in
      let u = takes_a_byte ed c s in
      let w = takes_what_is_there ed c s in
      let n = t.used in
      let e : n + (length s - pred n) ≡ suc (length s) - 0 = omega arith in
      rw (← e) (omega (arith, token_covered c s, tokens_covered (pred n) s, mul-add p.byte n (length s - pred n)))
  tokens_covered (suc k) (c ∷ s) =
      let d : suc (length s) - suc k ≡ length s - k = omega arith in
      rw d (tokens_covered k s)

  -- from its first byte on
  pub line_covered : (s : List ℕ) → sum (token_weight p) (tokens ed 0 s) ≤ p.byte * length s
  line_covered s = omega (arith, tokens_covered 0 s, mul_le_right p.byte (length s - 0) (length s) (omega arith))
