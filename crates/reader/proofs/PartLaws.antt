-- Laws of a part's notes and of the parts of a text.
use Prim.Native.Nat.{ℕ, zero, suc}
use mathlib.Core.Path.{◌≡◌, refl, ap}
use mathlib.Core.Bool.{◌&&◌}
use mathlib.Core.List.{List, [], ◌∷◌}
use lib.Dec.{eqb}
use lib.ListN.{length}
use Rattle.laws.proofs.Bools.{by_test}
use Rattle.standard.specs.Keys.{Key}
use Rattle.standard.specs.Pitches.{Written}
use Rattle.standard.specs.Notes.{is_sounded}
use Rattle.editions.specs.declared.Edition.{Edition}
use Rattle.reader.specs.Pitches.{Scope, scope_after, sounds_of}
use Rattle.reader.specs.Scan.{Env, Item}
use Rattle.reader.specs.State.{Note, Verses}
use Rattle.reader.specs.Part.{counted_in}
use Rattle.reader.specs.Answer.{parts}

-- a note more changes no lyric line
pub counted_lines : (o : ℕ) (n : Note) (v : Verses) → (counted_in o n v).lines ≡ v.lines
unfolding counted_in
counted_lines o n v = by_test (eqb o 0 && is_sounded n.kind) (λ e. rw (e, counted_in)) (λ e. rw (e, counted_in))

-- as many pitches sound as are written
pub length_sounds : (k : Key) (sc : Scope) (ws : List Written) → length (sounds_of k sc ws) ≡ length ws
unfolding sounds_of
length_sounds k sc [] = refl
length_sounds k sc (w ∷ ws) = ap suc (length_sounds k (scope_after sc w) ws)

-- as many parts as are asked for
pub parts_count : (ed : Edition) (e : Env) (f : ℕ → List Item) (n q : ℕ) → length (parts ed e f n q) ≡ n
unfolding parts
parts_count ed e f zero q = refl
parts_count ed e f (suc n) q = ap suc (parts_count ed e f n (suc q))
