-- MODES BY THEIR NAMES: the search of the code's table, which is the standard's.
use Rattle.std.specs.Prelude.{Option, Some, None}
use Prim.Native.Nat.{ℕ, ◌+◌, ◌<◌, ◌≤◌}
use mathlib.Core.Path.{◌≡◌, refl, sym, ap, ◌∙◌}
use mathlib.Core.Bool.{true, false, cond}
use mathlib.Core.Option as maths
use mathlib.Core.List.{List, [], ◌∷◌, map}
use native.Mathlib.Numerals.{add-one}
use lib.ListN.{length, get_or, drop, drop_of_length-le}
use lib.Seq.{drop-cons}
use Rattle.laws.specs.Lists.{starts_with}
use Rattle.laws.proofs.Bools.{by_test}
use Rattle.standard.specs.Bytes.{lower}
use Rattle.standard.specs.Keys as standard
use Rattle.standard.specs.Keys.{mode_names, mode_in}
use Rattle.reader.specs.Keys.{or_lone_m}
use Rattle.field_modes.specs.declared.Mode.{Mode}
use Rattle.field_modes.specs.declared.Mode.TheVariants.{Lydian, Ionian, Mixolydian, Dorian, Aeolian, Phrygian, Locrian}
use Rattle.field_modes.specs.declared.ModeName.{ModeName}
use Rattle.field_modes.specs.Modes.{mode_as, named_in, lone_m, mode_at}

-- A SEARCH at a place of the table: found there, further on, or at the end
pub named_end : (ms : List ModeName) (t : List ℕ) (k : ℕ) → length ms ≤ k → named_in (drop k ms) t ≡ None
unfolding named_in
named_end ms t k h = rw (drop_of_length-le ms h)

module _ (ms : List ModeName) (t : List ℕ) (k : ℕ) (d : ModeName) (h : k < length ms) where
  pub named_here : starts_with (get_or ms k d).name t ≡ true → named_in (drop k ms) t ≡ Some (get_or ms k d).mode
  unfolding named_in
  named_here e = rw (drop-cons ms k d h, e)

  pub named_on : starts_with (get_or ms k d).name t ≡ false → named_in (drop k ms) t ≡ named_in (drop (k + 1) ms) t
  unfolding named_in
  named_on e = rw (add-one, drop-cons ms k d h, e)

-- THE TABLE
abbrev pub modes : List ModeName
modes =
    record { name = 109 ∷ 97 ∷ 106 ∷ []; mode = Ionian }
    ∷ record { name = 105 ∷ 111 ∷ 110 ∷ []; mode = Ionian }
    ∷ record { name = 109 ∷ 105 ∷ 110 ∷ []; mode = Aeolian }
    ∷ record { name = 97 ∷ 101 ∷ 111 ∷ []; mode = Aeolian }
    ∷ record { name = 100 ∷ 111 ∷ 114 ∷ []; mode = Dorian }
    ∷ record { name = 112 ∷ 104 ∷ 114 ∷ []; mode = Phrygian }
    ∷ record { name = 108 ∷ 121 ∷ 100 ∷ []; mode = Lydian }
    ∷ record { name = 109 ∷ 105 ∷ 120 ∷ []; mode = Mixolydian }
    ∷ record { name = 108 ∷ 111 ∷ 99 ∷ []; mode = Locrian }
    ∷ []

-- what is found, as the definitions have it
found_as : Option Mode → maths.Option standard.Mode
found_as None = maths.none
found_as (Some m) = maths.some (mode_as m)

-- entry by entry
abbrev Same : List ModeName → List (List ℕ × standard.Mode) → Type 0
Same [] [] = Unit {0}
Same [] (n ∷ ns) = ⊥
Same (m ∷ ms) [] = ⊥
Same (m ∷ ms) (n ∷ ns) = ((m.name ≡ n.0) × (mode_as m.mode ≡ n.1)) × Same ms ns

same_search : (ms : List ModeName) (ns : List (List ℕ × standard.Mode)) → Same ms ns → (t : List ℕ) → found_as (named_in ms t) ≡ mode_in ns t
unfolding named_in mode_in found_as
same_search [] [] h t = refl
same_search [] (n ∷ ns) h t = absurd h
same_search (m ∷ ms) [] h t = absurd h
same_search (m ∷ ms) (n ∷ ns) h t =
    ap (λ (x : List ℕ). found_as (cond (starts_with x t) (Some m.mode) (named_in ms t))) h.0.0
    ∙ by_test (starts_with n.0 t) (λ e. rw (e, mode_in) (ap maths.some h.0.1)) (λ e. rw (e, mode_in) (same_search ms ns h.1 t))

same_table : Same modes mode_names
unfolding mode_names
same_table = ((refl, refl), ((refl, refl), ((refl, refl), ((refl, refl), ((refl, refl), ((refl, refl), ((refl, refl), ((refl, refl), ((refl, refl), tt)))))))))

-- THE MODE AT THE FRONT OF A WORD: one that is named, or by a lone m
pub mode_named : (w : List ℕ) (m : Mode) → named_in modes (map lower w) ≡ Some m → mode_as m ≡ mode_at w
unfolding mode_at or_lone_m found_as
mode_named w m e = rw (sym (same_search modes mode_names same_table (map lower w)) ∙ ap found_as e)

pub mode_unnamed : (w : List ℕ) → named_in modes (map lower w) ≡ None → cond (lone_m w) standard.aeolian standard.ionian ≡ mode_at w
unfolding mode_at or_lone_m found_as lone_m
mode_unnamed w e = rw (sym (same_search modes mode_names same_table (map lower w)) ∙ ap found_as e)
