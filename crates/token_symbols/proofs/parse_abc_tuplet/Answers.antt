-- `token_symbols::parse_abc_tuplet` meets its contract.
use Prim.Native.Nat.{ℕ, ◌+◌, ◌≤◌}
use mathlib.Core.Path.{◌≡◌, refl, sym, ◌∙◌}
use mathlib.Core.Option.{some}
use mathlib.Core.List.{List}
use native.Mathlib.Omega.{arith}
use lib.Dec.{eqb}
use lib.ListN.{get_or, drop}
use borrow.Author.Tests.{eq-eqb}
use Rattle.laws.specs.Spans.{end_of}
use Rattle.laws.proofs.Spans.{run_within}
use Rattle.standard.specs.Bytes.{is_digit}
use Rattle.editions.specs.declared.Edition.{Edition}
use Rattle.reader.specs.Tuplets.{positive, normal_for, part_or}
use Rattle.reader.proofs.Tuplets.{normal_most}
use Rattle.std.specs.Prelude as code
use Rattle.text_bytes.specs.declared.Read.{Read}
use Rattle.token_symbols.specs.Tuplets.{number_for}
use Rattle.token_symbols.proofs.Ratios.{positive_le, part_le, number_none, number_some, no_actual, one_note, actual_alone, no_normal, normal_alone, no_count, all_three}
use Rattle.token_symbols.proofs.parse_abc_tuplet.Goals as goal

-- the actual number that was read, and the normal one
actual : (text : List ℕ) (at : ℕ) (r : code.Option (Read ℕ)) (p : Read ℕ) → r ≡ number_for (end_of is_digit text (at + 1)) (positive 255 (drop (at + 1) text)) → r ≡ code.Some p
    → (positive 255 (drop (at + 1) text) ≡ some p.value) × (p.next ≡ end_of is_digit text (at + 1))
actual text at r p e k = number_some _ _ _ _ (sym e ∙ k)

normal : (ed : Edition) (text : List ℕ) (at p d : ℕ) (r : code.Option (Read ℕ)) (q : Read ℕ) → d ≡ normal_for ed p → r ≡ number_for (end_of is_digit text (at + 1)) (part_or ed d 255 (drop (at + 1) text)) → r ≡ code.Some q
    → (part_or ed (normal_for ed p) 255 (drop (at + 1) text) ≡ some q.value) × (q.next ≡ end_of is_digit text (at + 1))
normal ed text at p d r q n e k = number_some _ _ _ _ (sym (rw n at e) ∙ k)

pub returns-in_err-p : goal.returns-in_err-p
returns-in_err-p c =
    let a = c.args in
    rw c.from_residual.ensures (no_actual _ a.line.now a.at _ refl (number_none _ _ (sym c.positive.ensures ∙ c.in_err-p.was)))

pub returns-then-p-lt2 : goal.returns-then-p-lt2
returns-then-p-lt2 c =
    let one = actual _ _ _ _ c.positive.ensures c.in_ok-p.was in
    one_note _ c.args.line.now c.args.at _ one.1 _ one.0 c.if-p-lt2.true

pub overflow_cast-actual : goal.overflow_cast-actual
overflow_cast-actual c =
    let one = actual _ _ _ _ c.positive.ensures c.in_ok-p.was in
    omega (arith, positive_le 255 (drop (c.args.at + 1) c.args.line.now) c.in_ok-p.p.value one.0)

pub default_normal-default-requires : goal.default_normal-default-requires
default_normal-default-requires c = omega arith

pub returns-then-byte_at-ne58 : goal.returns-then-byte_at-ne58
returns-then-byte_at-ne58 c =
    let one = actual _ _ _ _ c.positive.ensures c.in_ok-p.was in
    actual_alone _ c.args.line.now c.args.at _ one.1 _ one.0 c.if-p-lt2.false (λ k. c.if-byte_at-ne58.true (c.byte_at.ensures ∙ k)) _ c.default_normal-default.ensures

pub overflow_add-p : goal.overflow_add-p
overflow_add-p c =
    let colon : get_or c.args.line.now c.in_ok-p.p.next 0 ≡ 58 = sym c.byte_at.ensures ∙ c.if-byte_at-ne58.false in
    omega (arith, run_within (λ x. eqb x 58) refl c.args.line.now c.in_ok-p.p.next (eq-eqb _ _ colon))

pub returns-in_err-q : goal.returns-in_err-q
returns-in_err-q c =
    let one = actual _ _ _ _ c.positive.ensures c.in_ok-p.was in
    let colon : get_or c.args.line.now c.in_ok-p.p.next 0 ≡ 58 = sym c.byte_at.ensures ∙ c.if-byte_at-ne58.false in
    rw c.from_residual-in_err-q.ensures
    (no_normal _ c.args.line.now c.args.at _ one.1 _ one.0 c.if-p-lt2.false colon _ refl (number_none _ _ (sym (rw c.default_normal-default.ensures at c.part_or.ensures) ∙ c.in_err-q.was)))

pub overflow_cast-normal : goal.overflow_cast-normal
overflow_cast-normal c =
    let one = actual _ _ _ _ c.positive.ensures c.in_ok-p.was in
    let two = normal c.args.edition c.args.line.now c.in_ok-p.p.next c.in_ok-p.p.value _ _ _ c.default_normal-default.ensures c.part_or.ensures c.in_ok-q.was in
    let h : c.in_ok-p.p.value ≤ 255 = positive_le 255 (drop (c.args.at + 1) c.args.line.now) c.in_ok-p.p.value one.0 in
    omega (arith, part_le c.args.edition (normal_for c.args.edition c.in_ok-p.p.value) 255 (drop (c.in_ok-p.p.next + 1) c.args.line.now) c.in_ok-q.q.value (normal_most c.args.edition c.in_ok-p.p.value h) two.0)

pub returns-then-byte_at-ne58-2 : goal.returns-then-byte_at-ne58-2
returns-then-byte_at-ne58-2 c =
    let one = actual _ _ _ _ c.positive.ensures c.in_ok-p.was in
    let two = normal c.args.edition c.args.line.now c.in_ok-p.p.next c.in_ok-p.p.value _ _ _ c.default_normal-default.ensures c.part_or.ensures c.in_ok-q.was in
    let colon : get_or c.args.line.now c.in_ok-p.p.next 0 ≡ 58 = sym c.byte_at.ensures ∙ c.if-byte_at-ne58.false in
    normal_alone _ c.args.line.now c.args.at _ one.1 _ one.0 c.if-p-lt2.false colon _ two.1 _ two.0 (λ k. c.if-byte_at-ne58-2.true (c.byte_at-2.ensures ∙ k))

pub overflow_add-q : goal.overflow_add-q
overflow_add-q c =
    let colon : get_or c.args.line.now c.in_ok-q.q.next 0 ≡ 58 = sym c.byte_at-2.ensures ∙ c.if-byte_at-ne58-2.false in
    omega (arith, run_within (λ x. eqb x 58) refl c.args.line.now c.in_ok-q.q.next (eq-eqb _ _ colon), c.well_formed)

pub returns-in_err-r : goal.returns-in_err-r
returns-in_err-r c =
    let one = actual _ _ _ _ c.positive.ensures c.in_ok-p.was in
    let two = normal c.args.edition c.args.line.now c.in_ok-p.p.next c.in_ok-p.p.value _ _ _ c.default_normal-default.ensures c.part_or.ensures c.in_ok-q.was in
    let colon : get_or c.args.line.now c.in_ok-p.p.next 0 ≡ 58 = sym c.byte_at.ensures ∙ c.if-byte_at-ne58.false in
    let behind : get_or c.args.line.now c.in_ok-q.q.next 0 ≡ 58 = sym c.byte_at-2.ensures ∙ c.if-byte_at-ne58-2.false in
    rw c.from_residual-in_err-r.ensures
    (no_count _ c.args.line.now c.args.at _ one.1 _ one.0 c.if-p-lt2.false colon _ two.1 _ two.0 behind _ refl (number_none _ _ (sym c.part_or-2.ensures ∙ c.in_err-r.was)))

pub returns : goal.returns
returns c =
    let one = actual _ _ _ _ c.positive.ensures c.in_ok-p.was in
    let two = normal c.args.edition c.args.line.now c.in_ok-p.p.next c.in_ok-p.p.value _ _ _ c.default_normal-default.ensures c.part_or.ensures c.in_ok-q.was in
    let colon : get_or c.args.line.now c.in_ok-p.p.next 0 ≡ 58 = sym c.byte_at.ensures ∙ c.if-byte_at-ne58.false in
    let behind : get_or c.args.line.now c.in_ok-q.q.next 0 ≡ 58 = sym c.byte_at-2.ensures ∙ c.if-byte_at-ne58-2.false in
    let three = number_some _ _ _ _ (sym c.part_or-2.ensures ∙ c.in_ok-r.was) in
    all_three _ c.args.line.now c.args.at _ one.1 _ one.0 c.if-p-lt2.false colon _ two.1 _ two.0 behind _ three.1 _ three.0
