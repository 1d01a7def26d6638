-- A WRITER THAT GOES ON IN A LOOP: what it has written, and what is left of the whole.
use Prim.Native.Nat.{ℕ, ◌+◌, ◌-◌, ◌*◌, ◌≤◌}
use mathlib.Core.Path.{◌≡◌, refl, sym, ap, subst, ◌∙◌}
use mathlib.Core.List.{List, [], ◌++◌, append_assoc, append-nil}
use native.Mathlib.Omega.{arith}
use lib.ListN.{length, take, drop}
use Rattle.std.specs.Prelude.{Some, None}
use Rattle.store_sections.specs.Writes.{WroteIs}
use Rattle.store_sections.proofs.Writes.{start, in_store, next_to, next_none, none}

-- in the store d, now e, all of `whole` is written up to `at` but for `rest`
pub record Written (d whole rest e : List ℕ) (at : ℕ) : Type 0 where
  pub done : List ℕ
  pub wrote : WroteIs d done e (Some at)
  pub splits : whole ≡ done ++ rest

pub begin : (d whole : List ℕ) → Written d whole whole d 0
begin d whole = record { done = []; wrote = start d; splits = refl }

-- the same where it begins with the first of k rows of w bytes, in their place and their number
pub begin_rows : (d : List ℕ) (f : ℕ → ℕ → List ℕ) (w p k : ℕ) → Written d (f p k) (f (p + w * 0) (k - 0)) d 0
begin_rows d f w p k =
    let e : p + w * 0 ≡ p = omega arith in
    let g : k - 0 ≡ k = omega arith in
    record { done = []; wrote = start d; splits = λ i. f (sym e i) (sym g i) }

-- a place within the store
pub written_in : {d whole rest e : List ℕ} {at : ℕ} → Written d whole rest e at → (at ≤ length e) × (length e ≡ length d)
written_in w = in_store w.wrote

-- the same rest in other words
pub written_as_lem : {d whole rest e : List ℕ} {at : ℕ} → Written d whole rest e at → {rest' : List ℕ} → rest ≡ rest' → Written d whole rest' e at
written_as_lem w p = record { done = w.done; wrote = w.wrote; splits = w.splits ∙ ap (λ (l : List ℕ). w.done ++ l) p }

-- the same place in other words
pub written_at : {d whole rest e : List ℕ} {at : ℕ} → Written d whole rest e at → {n : ℕ} → at ≡ n → Written d whole rest e n
written_at {d} {whole} {rest} {e} w p = subst (λ (k : ℕ). Written d whole rest e k) p w

-- a writer that is lent the store from there on writes the next piece
pub written_on_lem : {d whole rest e : List ℕ} {at : ℕ} → Written d whole rest e at → {b f : List ℕ} {n : ℕ} → WroteIs (take (length e - at) (drop at e)) b f (Some n)
    → {rest' : List ℕ} → rest ≡ b ++ rest' → Written d whole rest' (take at e ++ (f ++ drop (length e - at) (drop at e))) (at + n)
written_on_lem w {b} g {rest'} p =
    record { done = w.done ++ b; wrote = next_to w.wrote g; splits = w.splits ∙ ap (λ (l : List ℕ). w.done ++ l) p ∙ sym (append_assoc w.done b rest') }

-- or has no room for it: there is none for the whole
pub written_none : {d whole rest e : List ℕ} {at : ℕ} → Written d whole rest e at → {b f : List ℕ} → WroteIs (take (length e - at) (drop at e)) b f None
    → (rest' : List ℕ) → rest ≡ b ++ rest' → {z : List ℕ} → WroteIs d whole z None
written_none {d} {whole} w {b} g rest' p {z} =
    subst (λ (l : List ℕ). WroteIs d l z None) (append_assoc w.done b rest' ∙ ap (λ (l : List ℕ). w.done ++ l) (sym p) ∙ sym w.splits) (none (next_none w.wrote g {z = []}) rest')

-- nothing is left
pub written_all : {d whole rest e : List ℕ} {at : ℕ} → Written d whole rest e at → rest ≡ [] → WroteIs d whole e (Some at)
written_all {d} {whole} {rest} {e} {at} w p =
    subst (λ (l : List ℕ). WroteIs d l e (Some at)) (sym (w.splits ∙ ap (λ (l : List ℕ). w.done ++ l) p ∙ append-nil w.done)) w.wrote
