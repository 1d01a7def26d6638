-- `part_sounds::append_deferred` meets its contract.
use mathlib.Core.Path.{refl, subst}
use Rattle.part_invariant.specs.Invariant.{Appends}
use Rattle.part_sounds.proofs.Deferring.{not_both, the_row}
use Rattle.part_sounds.proofs.append_deferred.Goals as goal

pub append-requires : goal.append-requires
append-requires c =
    let pre = c.requires in
    (pre.room _ c.in-Some.is, pre.able _ c.in-Some.is)

pub returns-in-None : goal.returns-in-None
returns-in-None c = record { appended = λ n y. absurd (not_both c.in-None.is y); same_store = λ n. refl; same_registers = λ n. refl }

pub returns-in-Some : goal.returns-in-Some
returns-in-Some c =
    let a = c.args in
    record {
      appended = λ n y. subst (Appends a.t a.store.now a.d.registers _ _) (the_row c.in-Some.is y) c.append.ensures;
      same_store = λ e. absurd (not_both e c.in-Some.is);
      same_registers = λ e. absurd (not_both e c.in-Some.is);
    }
