-- The kind of a field line, by what its readers found.
use Prim.Native.Nat.{ℕ, ◌+◌, ◌-◌, ◌≤◌}
use mathlib.Core.Path.{◌≡◌, refl, sym, ap, ◌∙◌}
use mathlib.Core.Bool.{Bool, true, false}
use mathlib.Core.Option.{Option, some, none}
use mathlib.Core.List.{List, [], ◌∷◌}
use native.Mathlib.Omega.{arith}
use lib.ListN.{length, take, drop, length-drop}
use lib.Seq.{take_all}
use Rattle.laws.specs.Lists.{is_nil}
use Rattle.laws.specs.Bytes.{part, between}
use Rattle.laws.proofs.Parts.{part_cut, part_part, length_part, length_between, between_none}
use Rattle.standard.specs.Keys.{Key}
use Rattle.standard.specs.Fields.{Meter}
use Rattle.editions.specs.declared.Edition.{Edition}
use Rattle.reader.specs.Text.{has_high}
use Rattle.reader.specs.Fields.{meter_of, unit_of, middle_word, identifier, key_refusal}
use Rattle.reader.specs.Keys.{key_of}
use Rattle.reader.specs.Lines.{refused, voice, key, meter, unit, voice_kind, key_kind, kind_unless}
use Rattle.refusals.specs.declared.Refusal.{Refusal}
use Rattle.refusals.specs.Numbers.{number_of}
use Rattle.text_words.specs.declared.Part.{Part}
use Rattle.field_values.specs.Values.{Identifier}
use Rattle.text_lines.specs.declared.Class.TheVariants as C
use Rattle.text_lines.specs.Lines.{kind_as}
use Rattle.scan_states.proofs.Items.{words}

module _ (ed : Edition) (line : List ℕ) where
  -- its value, as it is lent
  abbrev rest : List ℕ
  rest = take (length line - 2) (drop 2 line)

  rest_is : drop 2 line ≡ rest
  rest_is = sym (take_all (length line - 2) (drop 2 line) (omega (arith, length-drop 2 line)))

  module _ (h : has_high line ≡ true) where
    pub high_voice : kind_as ed line C.Voice ≡ refused 6
    high_voice = rw h

    pub high_key : kind_as ed line C.Key ≡ refused 6
    high_key = rw h

    pub high_meter : kind_as ed line C.Meter ≡ refused 6
    high_meter = rw h

    pub high_unit : kind_as ed line C.Unit ≡ refused 6
    high_unit = rw h

  module _ (h : has_high line ≡ false) where
    -- K
    pub refused_key : (r : Refusal) → key_refusal ed rest ≡ some (number_of r) → kind_as ed line C.Key ≡ refused (number_of r)
    unfolding key_kind kind_unless
    refused_key r e = rw (h, rest_is, e)

    pub is_key : (k : Key) → key_refusal ed rest ≡ none → k ≡ key_of ed rest → kind_as ed line C.Key ≡ key k
    unfolding key_kind kind_unless
    is_key k n e = rw (h, rest_is, n) (ap key (sym e))

    -- M
    pub is_meter : (m : Meter) → m ≡ meter_of rest → kind_as ed line C.Meter ≡ meter m
    is_meter m e = rw (h, rest_is) (ap meter (sym e))

    -- L
    pub is_unit : (u : Option ℕ) → u ≡ unit_of rest → kind_as ed line C.Unit ≡ unit u
    is_unit u e = rw (h, rest_is) (ap unit (sym e))

-- V: the line from `from` up to `end` of the text, whose value is lent
module _ (ed : Edition) (text : List ℕ) (from end : ℕ) where
  abbrev line : List ℕ
  line = between text from end

  abbrev value : List ℕ
  value = take (end - (from + 2)) (drop (from + 2) text)

  value_is : drop 2 line ≡ value
  value_is = sym (part_cut text (from + 2) (end - (from + 2)) ∙ words text from end)

  module _ (h : has_high line ≡ false) where
    module _ (id : Part) (i : Identifier value id) where
      empty : (l : List ℕ) → length l ≡ 0 → is_nil l ≡ true
      empty [] e = refl
      empty (c ∷ l) e = absurd (omega arith)

      some_bytes : (l : List ℕ) → 1 ≤ length l → is_nil l ≡ false
      some_bytes [] e = absurd (omega arith)
      some_bytes (c ∷ l) e = refl

      pub no_voice : id.end ≤ id.start → kind_as ed line C.Voice ≡ refused 8
      unfolding voice_kind
      no_voice e =
          let n : is_nil (identifier value) ≡ true = rw (← i.text) (ap is_nil (between_none value id.start id.end e)) in
          rw (h, value_is, n)

      module _ (low : from + 2 ≤ end) (high : end ≤ length text) where
        long : length value ≡ end - (from + 2)
        long = ap length (part_cut text (from + 2) (end - (from + 2))) ∙ length_part text (from + 2) (end - (from + 2)) (omega arith)

        -- it ends in the line
        pub inside : from + 2 + id.end ≤ end
        inside = omega (arith, i.high, long)

        -- where it stands in the text
        stands : between value id.start id.end ≡ between text (from + 2 + id.start) (from + 2 + id.end)
        stands =
            let n = id.end - id.start in
            let m : from + 2 + id.end - (from + 2 + id.start) ≡ n = omega (arith, i.order) in
            ap (λ (l : List ℕ). part l id.start n) (part_cut text (from + 2) (end - (from + 2)))
            ∙ part_part text (from + 2) (end - (from + 2)) id.start n (omega (arith, i.order, inside))
            ∙ ap (part text (from + 2 + id.start)) (sym m)

        pub is_voice_lem : (mid : Bool) → id.start + 1 ≤ id.end → mid ≡ middle_word value → kind_as ed line C.Voice ≡ voice (between text (from + 2 + id.start) (from + 2 + id.end)) mid
        unfolding voice_kind
        is_voice_lem mid e m =
            let n : is_nil (identifier value) ≡ false = rw (← i.text) (some_bytes (between value id.start id.end) (omega (arith, length_between value id.start id.end i.high))) in
            rw (h, value_is, n) (λ j. voice ((sym i.text ∙ stands) j) (sym m j))
