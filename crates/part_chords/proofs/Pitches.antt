-- The pitches of a chord, as lists: one more behind others.
use Prim.Native.Nat.{suc, ◌+◌}
use mathlib.Core.Path.{◌≡◌, refl, ap}
use mathlib.Core.List.{List, [], ◌∷◌, ◌++◌}
use native.Mathlib.Omega.{arith}
use lib.ListN.{length}
use Rattle.standard.specs.Keys.{Key}
use Rattle.standard.specs.Pitches.{Written, Pitch}
use Rattle.reader.specs.Pitches.{Scope, sound_of, scope_after, sounds_of, scope_after_all}
use Rattle.capacity.specs.Covers.{signs_in}

-- ONE MORE behind others
pub sounds_more : (k : Key) (sc : Scope) (ws : List Written) (w : Written) → sounds_of k sc (ws ++ (w ∷ [])) ≡ sounds_of k sc ws ++ (sound_of k (scope_after_all sc ws) w ∷ [])
unfolding sounds_of scope_after_all
sounds_more k sc [] w = refl
sounds_more k sc (v ∷ ws) w = ap (λ (ps : List Pitch). sound_of k sc v ∷ ps) (sounds_more k (scope_after sc v) ws w)

pub scope_more : (sc : Scope) (ws : List Written) (w : Written) → scope_after_all sc (ws ++ (w ∷ [])) ≡ scope_after (scope_after_all sc ws) w
unfolding scope_after_all
scope_more sc [] w = refl
scope_more sc (v ∷ ws) w = scope_more (scope_after sc v) ws w

pub marked_both : (vs ws : List Written) → signs_in (vs ++ ws) ≡ signs_in vs + signs_in ws
marked_both [] ws = omega arith
marked_both (v ∷ vs) ws = let e = marked_both vs ws in omega arith

pub length_sounds : (k : Key) (sc : Scope) (ws : List Written) → length (sounds_of k sc ws) ≡ length ws
unfolding sounds_of
length_sounds k sc [] = refl
length_sounds k sc (w ∷ ws) = ap suc (length_sounds k (scope_after sc w) ws)
