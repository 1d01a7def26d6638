-- Endings.
use Prim.Native.Nat.{ℕ, suc, ◌+◌, ◌<◌}
use mathlib.Core.Path.{◌≡◌, sym, ap, ◌∙◌}
use mathlib.Core.Option.{Option, none, some}
use mathlib.Core.List.{List}
use native.Mathlib.Omega.{arith}
use lib.ListN.{length, get_or, drop, length-drop}
use Rattle.laws.specs.Lists.{count_while}
use Rattle.laws.specs.Spans.{run, end_of}
use Rattle.standard.specs.Bytes.{is}
use Rattle.reader.specs.Pieces.{pieces, separator}
use Rattle.reader.specs.Records.{pass_bits}
use Rattle.reader.specs.PassLists.{is_pass_byte, volta_as, volta_of}
use Rattle.reader.specs.PassesInTurn.{list_fault, or_faulty}
use Rattle.reader.proofs.PassTests.{tests_in_turn}
use Rattle.token_passes.specs.Passes.{passes_at, passes_read, passes_for}
use Rattle.token_passes.specs.Faults.{list_items_at}
use Rattle.std.specs.Prelude as code
use Rattle.refusals.specs.declared.Refusal.{Refusal}
use Rattle.refusals.specs.Numbers.{number_of}
use Rattle.text_bytes.specs.declared.Read.{Read}
use Rattle.token_passes.specs.declared.Passes.{Passes}
use Rattle.token_lexemes.specs.Lexemes.{refusal_with, lexeme_for, cut_for}
use Rattle.token_lexemes.specs.declared.Token.TheVariants.{Volta, Refused}
use Rattle.token_lexemes.proofs.Refusals.{refusal_back}

module _ (line : List ℕ) (at : ℕ) (h : at < length line) where
  -- the definition by what the code reads: the passes in turn, else the refusal
  in_turn_lem : volta_of (drop (at + 1) line) ≡ volta_as (count_while is_pass_byte (drop (at + 1) line)) (drop (at + 1) line) (or_faulty (passes_at 0 line (at + 1)) (list_fault (list_items_at line (at + 1))))
  unfolding volta_of passes_at list_items_at
  in_turn_lem = ap (volta_as (count_while is_pass_byte (drop (at + 1) line)) (drop (at + 1) line)) (tests_in_turn (pieces (separator (is ",")) 0 (run is_pass_byte (drop (at + 1) line))))

  refused_by : (o : Option (List ℕ)) (k : ℕ) → passes_for (end_of is_pass_byte line (at + 1)) o ≡ code.None
      → record { value = Refused (refusal_with k); next = length line } ≡ cut_for at (volta_as (count_while is_pass_byte (drop (at + 1) line)) (drop (at + 1) line) (or_faulty o k))
  unfolding passes_for volta_as or_faulty lexeme_for
  refused_by none k e = let n : length line ≡ at + suc (length (drop (at + 1) line)) = omega (arith, length-drop (at + 1) line) in rw n
  refused_by (some ps) k e = let z : ◌≡◌ {A = ℕ} 0 1 = cc in absurd (omega arith)

  read_by : (o : Option (List ℕ)) (k f b n : ℕ) → passes_for (end_of is_pass_byte line (at + 1)) o ≡ passes_read f b n
      → record { value = Volta f b; next = n } ≡ cut_for at (volta_as (count_while is_pass_byte (drop (at + 1) line)) (drop (at + 1) line) (or_faulty o k))
  unfolding passes_for volta_as or_faulty lexeme_for
  read_by none k f b n e = let z : ◌≡◌ {A = ℕ} 0 1 = cc in absurd (omega arith)
  read_by (some ps) k f b n e =
      let u : ◌≡◌ {A = Read Passes} (record { value = record { first = f; bits = b }; next = n }) (record { value = record { first = get_or ps 0 0; bits = pass_bits ps }; next = end_of is_pass_byte line (at + 1) }) = cc in
      let p : f ≡ get_or ps 0 0 = ap (λ (y : Read Passes). y.value.first) u in
      let q : b ≡ pass_bits ps = ap (λ (y : Read Passes). y.value.bits) u in
      let m : n ≡ end_of is_pass_byte line (at + 1) = ap (λ (y : Read Passes). y.next) u in
      let l : n ≡ at + suc (count_while is_pass_byte (drop (at + 1) line)) = omega arith in
      λ j. record { value = Volta (p j) (q j); next = l j }

  pub no_passes : (x : Refusal) → number_of x ≡ list_fault (list_items_at line (at + 1)) → passes_for (end_of is_pass_byte line (at + 1)) (passes_at 0 line (at + 1)) ≡ code.None
      → record { value = Refused x; next = length line } ≡ cut_for at (volta_of (drop (at + 1) line))
  no_passes x f e =
      (λ i. record { value = Refused ((sym (refusal_back x) ∙ ap refusal_with f) i); next = length line })
      ∙ refused_by (passes_at 0 line (at + 1)) (list_fault (list_items_at line (at + 1))) e ∙ ap (cut_for at) (sym in_turn_lem)

  pub passes_are_read : (f b n : ℕ) → passes_for (end_of is_pass_byte line (at + 1)) (passes_at 0 line (at + 1)) ≡ passes_read f b n → record { value = Volta f b; next = n } ≡ cut_for at (volta_of (drop (at + 1) line))
  passes_are_read f b n e = read_by (passes_at 0 line (at + 1)) (list_fault (list_items_at line (at + 1))) f b n e ∙ ap (cut_for at) (sym in_turn_lem)
