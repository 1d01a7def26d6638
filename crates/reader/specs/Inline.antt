-- INLINE FIELDS `[K:..]`, `[L:..]`, `[M:..]` (ABC 2.1, 3.2; 000, parse_body_line): the name is one letter, the value stands behind the colon.
use Rattle.std.specs.Prelude.{ℕ, ◌+◌, Bool, true, false, not, ◌&&◌, List, ltb, length, take, drop}
use Rattle.std.proofs.Math.Option.{Option, none, some}
use Rattle.laws.specs.Lists.{count_while, any}
use Rattle.standard.specs.Bytes.{is, first}
use Rattle.standard.specs.Keys.{Key}
use Rattle.editions.specs.declared.Edition.{Edition}
use Rattle.reader.specs.Keys.{key_of}
use Rattle.reader.specs.Fields.{meter_of, unit_inline, key_refusal}
use Rattle.reader.specs.Token.{Token, unit, meter, key, field, refused, Taken, taken}

-- an L that sets nothing is passed over
unfoldable pub unit_token : Option ℕ → Token
unit_token none = field
unit_token (some u) = unit u

-- a key, unless it is refused
unfoldable pub token_unless : Key → Option ℕ → Token
token_unless k none = key k
token_unless k (some n) = refused n

-- refusals 10 and 21, also here
unfoldable pub key_token : Edition → List ℕ → Token
key_token ed value = token_unless (key_of ed value) (key_refusal ed value)

-- L, M, K; any other name is passed over
unfoldable pub field_token : Edition → List ℕ → Token
field_token ed s =
    elim (is ":" (first (drop 1 s))) [
      | false ↦ field
      | true ↦ elim (is "L" (first s)) [
        | true ↦ unit_token (unit_inline (drop 2 s))
        | false ↦ elim (is "M" (first s)) [
          | true ↦ meter (meter_of (drop 2 s))
          | false ↦ elim (is "K" (first s)) [ true ↦ key_token ed (drop 2 s) | false ↦ field ]
        ]
      ]
    ]

-- a field: a `]` to come, a colon before it, and no quote right behind the `[`; s stands behind the `[`
unfoldable pub is_inline : List ℕ → Bool
is_inline s = let n = count_while (λ c. not (is "]" c)) s in ltb n (length s) && not (is "\"" (first s)) && any (is ":") (take n s)

-- a field takes its brackets too
unfoldable pub inline_at : Edition → List ℕ → Taken
inline_at ed s = let n = count_while (λ c. not (is "]" c)) s in taken (field_token ed (take n s)) (2 + n)
