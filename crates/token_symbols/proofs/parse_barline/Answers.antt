-- `token_symbols::parse_barline` meets its contract.
use Prim.Native.Nat.{◌+◌}
use mathlib.Core.Path.{◌≡◌, refl, sym, ◌∙◌}
use mathlib.Core.List.{◌∷◌}
use lib.ListN.{get_or, drop}
use Rattle.laws.proofs.Lists.{drop_next, first_at}
use Rattle.standard.specs.Bytes.{first}
use Rattle.token_symbols.proofs.Symbols.{start_symbol, double_symbol, final_symbol, normal_symbol, end_symbol, both_symbol, colon_symbol, other_symbol, other_than}
use Rattle.token_symbols.proofs.parse_barline.Goals as goal

pub returns-in-58-second : goal.returns-in-58-second
returns-in-58-second c =
    let second : first (drop (c.args.at + 1) c.args.line.now) ≡ c.byte_at-second.result = first_at c.args.line.now (c.args.at + 1) ∙ sym c.byte_at-second.ensures in
    let here : drop c.args.at c.args.line.now ≡ get_or c.args.line.now c.args.at 0 ∷ drop (c.args.at + 1) c.args.line.now = drop_next c.args.line.now c.args.at 0 c.requires in
    rw (c.read_bar.ensures, here, c.in-124.is, start_symbol (drop (c.args.at + 1) c.args.line.now) (second ∙ c.in-58-second.is))

pub returns-in-124-second : goal.returns-in-124-second
returns-in-124-second c =
    let second : first (drop (c.args.at + 1) c.args.line.now) ≡ c.byte_at-second.result = first_at c.args.line.now (c.args.at + 1) ∙ sym c.byte_at-second.ensures in
    let here : drop c.args.at c.args.line.now ≡ get_or c.args.line.now c.args.at 0 ∷ drop (c.args.at + 1) c.args.line.now = drop_next c.args.line.now c.args.at 0 c.requires in
    rw (c.read_bar-in-124-second.ensures, here, c.in-124.is, double_symbol (drop (c.args.at + 1) c.args.line.now) (other_than _ 124 58 refl (second ∙ c.in-124-second.is)) (second ∙ c.in-124-second.is))

pub returns-in-93 : goal.returns-in-93
returns-in-93 c =
    let second : first (drop (c.args.at + 1) c.args.line.now) ≡ c.byte_at-second.result = first_at c.args.line.now (c.args.at + 1) ∙ sym c.byte_at-second.ensures in
    let here : drop c.args.at c.args.line.now ≡ get_or c.args.line.now c.args.at 0 ∷ drop (c.args.at + 1) c.args.line.now = drop_next c.args.line.now c.args.at 0 c.requires in
    rw (c.read_bar-in-93.ensures, here, c.in-124.is, final_symbol (drop (c.args.at + 1) c.args.line.now) (other_than _ 93 58 refl (second ∙ c.in-93.is)) (other_than _ 93 124 refl (second ∙ c.in-93.is)) (second ∙ c.in-93.is))

pub returns-in_default-second : goal.returns-in_default-second
returns-in_default-second c =
    let second : first (drop (c.args.at + 1) c.args.line.now) ≡ c.byte_at-second.result = first_at c.args.line.now (c.args.at + 1) ∙ sym c.byte_at-second.ensures in
    let here : drop c.args.at c.args.line.now ≡ get_or c.args.line.now c.args.at 0 ∷ drop (c.args.at + 1) c.args.line.now = drop_next c.args.line.now c.args.at 0 c.requires in
    rw (c.read_bar-in_default-second.ensures, here, c.in-124.is, normal_symbol (drop (c.args.at + 1) c.args.line.now) (λ k. c.in_default-second.in_default-second-own.rest.0.0.1 (sym second ∙ k)) (λ k. c.in_default-second.in_default-second-own.rest.0.1 (sym second ∙ k)) (λ k. c.in_default-second.in_default-second-own.rest.1 (sym second ∙ k)))

pub returns-in-124-second-2 : goal.returns-in-124-second-2
returns-in-124-second-2 c =
    let second : first (drop (c.args.at + 1) c.args.line.now) ≡ c.byte_at-second.result = first_at c.args.line.now (c.args.at + 1) ∙ sym c.byte_at-second.ensures in
    let here : drop c.args.at c.args.line.now ≡ get_or c.args.line.now c.args.at 0 ∷ drop (c.args.at + 1) c.args.line.now = drop_next c.args.line.now c.args.at 0 c.requires in
    rw (c.read_bar-in-124-second-2.ensures, here, c.in-58.is, end_symbol (drop (c.args.at + 1) c.args.line.now) (second ∙ c.in-124-second-2.is))

pub returns-in-58-second-2 : goal.returns-in-58-second-2
returns-in-58-second-2 c =
    let second : first (drop (c.args.at + 1) c.args.line.now) ≡ c.byte_at-second.result = first_at c.args.line.now (c.args.at + 1) ∙ sym c.byte_at-second.ensures in
    let here : drop c.args.at c.args.line.now ≡ get_or c.args.line.now c.args.at 0 ∷ drop (c.args.at + 1) c.args.line.now = drop_next c.args.line.now c.args.at 0 c.requires in
    rw (c.read_bar-in-58-second-2.ensures, here, c.in-58.is, both_symbol (drop (c.args.at + 1) c.args.line.now) (other_than _ 58 124 refl (second ∙ c.in-58-second-2.is)) (second ∙ c.in-58-second-2.is))

pub returns-in_default-second-2 : goal.returns-in_default-second-2
returns-in_default-second-2 c =
    let second : first (drop (c.args.at + 1) c.args.line.now) ≡ c.byte_at-second.result = first_at c.args.line.now (c.args.at + 1) ∙ sym c.byte_at-second.ensures in
    let here : drop c.args.at c.args.line.now ≡ get_or c.args.line.now c.args.at 0 ∷ drop (c.args.at + 1) c.args.line.now = drop_next c.args.line.now c.args.at 0 c.requires in
    rw (here, c.in-58.is, colon_symbol (drop (c.args.at + 1) c.args.line.now) (λ k. c.in_default-second-2.in_default-second-2-own.rest.0.1 (sym second ∙ k)) (λ k. c.in_default-second-2.in_default-second-2-own.rest.1 (sym second ∙ k)))

pub returns-in_default : goal.returns-in_default
returns-in_default c =
    let here : drop c.args.at c.args.line.now ≡ get_or c.args.line.now c.args.at 0 ∷ drop (c.args.at + 1) c.args.line.now = drop_next c.args.line.now c.args.at 0 c.requires in
    rw (here, other_symbol (drop (c.args.at + 1) c.args.line.now) (get_or c.args.line.now c.args.at 0) c.in_default.in_default-own.rest.0.1 c.in_default.in_default-own.rest.1)
