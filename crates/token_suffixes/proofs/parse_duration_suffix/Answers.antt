-- `token_suffixes::parse_duration_suffix` meets its contract: the numbers are `number_or`'s, and each `return` has the tests on the slashes.
use mathlib.Core.Path.{◌≡◌, sym, ◌∙◌}
use Prim.Native.Nat.{◌<◌}
use native.Mathlib.Omega.{arith}
use lib.ListN.{length, get_or}
use Rattle.token_suffixes.proofs.Suffixes.{suffix_plain, suffix_slash, suffix_run, slash_within}
use Rattle.token_suffixes.proofs.parse_duration_suffix.Goals as goal

pub returns-then-byte_at-ne47 : goal.returns-then-byte_at-ne47
returns-then-byte_at-ne47 c =
    let h : get_or c.args.line.now c.number_or-num.result.next 0 ≡ 47 → ⊥ = λ e. c.if-byte_at-ne47.true (c.byte_at.ensures ∙ e) in
    rw c.number_or-num.ensures (suffix_plain c.args.edition _ _ (rw c.number_or-num.ensures at h))

pub is_run-requires : goal.is_run-requires
is_run-requires c =
    let slash : get_or c.args.line.now c.number_or-num.result.next 0 ≡ 47 = sym c.byte_at.ensures ∙ c.if-byte_at-ne47.false in
    let within : c.number_or-num.result.next < length c.args.line.now = slash_within c.args.line.now _ slash in
    within

pub returns-then-is_run : goal.returns-then-is_run
returns-then-is_run c =
    let slash : get_or c.args.line.now c.number_or-num.result.next 0 ≡ 47 = sym c.byte_at.ensures ∙ c.if-byte_at-ne47.false in
    let a = c.args in
    let n = c.number_or-num.ensures in
    let r = sym c.is_run.ensures ∙ c.if-is_run.true in
    rw (c.halvings.ensures, n) (suffix_run a.edition _ _ (rw n at slash) (rw n at r))

pub overflow_add-slash : goal.overflow_add-slash
overflow_add-slash c =
    let slash : get_or c.args.line.now c.number_or-num.result.next 0 ≡ 47 = sym c.byte_at.ensures ∙ c.if-byte_at-ne47.false in
    let within : c.number_or-num.result.next < length c.args.line.now = slash_within c.args.line.now _ slash in
    omega (arith, within)

pub returns : goal.returns
returns c =
    let slash : get_or c.args.line.now c.number_or-num.result.next 0 ≡ 47 = sym c.byte_at.ensures ∙ c.if-byte_at-ne47.false in
    let a = c.args in
    let n = c.number_or-num.ensures in
    let r = sym c.is_run.ensures ∙ c.if-is_run.false in
    rw (c.number_or-den.ensures, n) (suffix_slash a.edition _ _ (rw n at slash) (rw n at r))
