-- WHAT A NOTE AND A BROKEN RHYTHM DO TO THEIR VOICE, in a line of a part: that `beams_meet` and `broken_sum` speak of what the reader does with tokens.
use Prim.Native.Nat.{ℕ, ◌+◌, ◌<◌}
use mathlib.Core.Path.{◌≡◌, refl, ap, ◌∙◌}
use mathlib.Core.Bool.{Bool, true, not}
use mathlib.Core.Option.{none, some}
use mathlib.Core.List.{List, [], ◌∷◌, ◌++◌}
use lib.ListN.{length}
use borrow.Author.Tests.{lt-ltb}
use native.Mathlib.Omega.{arith}
use Rattle.laws.specs.Lists.{on_first, all, count_while}
use Rattle.standard.specs.Bytes.{is}
use Rattle.reader.specs.Pitches.{chord_of}
use Rattle.editions.specs.declared.Edition.{Edition}
use Rattle.reader.specs.Sounds.{chord_taken, chord_at}
use Rattle.reader.proofs.Digits.{count_while_front, drop_behind}
use Rattle.reader.specs.Token.{broken}
use Rattle.reader.specs.State.{Note, PartState, voice_now, set_voice, on_open}
use Rattle.reader.specs.Part.{append, after_half, beamed, run_after, grouped, broken_note, on_broken, on_token}
use Rattle.reader.proofs.LineLaws.{Ready, voice_set}

-- A NOTE goes to the end of its voice, with the beams of `beamed`; then the half that waited for it
pub voice_after : (n : Note) (s : PartState) → Ready s
    → voice_now (append n s) ≡ on_first (after_half s.line.half) (beamed s.line.run (grouped s.line.tuplet n) (voice_now s))
unfolding append voice_now set_voice on_open
voice_after n s r = voice_set (on_first (after_half s.line.half) (beamed s.line.run (grouped s.line.tuplet n) (voice_now s))) s r

-- the run that the next note finds
pub run_after_lem : (n : Note) (s : PartState) → (append n s).line.run ≡ run_after s.line.run (grouped s.line.tuplet n)
unfolding append
run_after_lem n s = refl

-- BROKEN RHYTHM changes the voice's last note, and leaves the other half for the next
pub broken_voice : (up : Bool) (k : ℕ) (s : PartState) (x : Note) (xs : List Note) → Ready s → voice_now s ≡ x ∷ xs
    → voice_now (on_token s (broken up k)) ≡ broken_note (record { up = up; times = k }) x ∷ xs
unfolding on_token on_broken voice_now set_voice on_open
broken_voice up k s x xs r e =
    ap (λ (v : List Note). voice_now (on_broken up k v s)) e ∙ voice_set (broken_note (record { up = up; times = k }) x ∷ xs) s r

pub broken_half : (up : Bool) (k : ℕ) (s : PartState) (x : Note) (xs : List Note) → voice_now s ≡ x ∷ xs
    → (on_token s (broken up k)).line.half ≡ some (record { up = not up; times = k })
unfolding on_token on_broken
broken_half up k s x xs e = ap (λ (v : List Note). (on_broken up k v s).line.half) e

-- CHORDS (4.17): the length of a chord is the one that stands behind its `]`
shorter : (d : List ℕ) (x : ℕ) (t : List ℕ) → length d < length (d ++ (x ∷ t))
shorter [] x t = omega arith
shorter (c ∷ d) x t = omega (arith, shorter d x t)

pub chord_meets : (ed : Edition) (body t : List ℕ) → all (λ c. not (is "]" c)) body ≡ true → chord_at ed (body ++ (93 ∷ t)) ≡ chord_taken ed (2 + length body) t (chord_of 0 none (body ++ (93 ∷ t)))
unfolding chord_at
chord_meets ed body t h =
    let r : List ℕ = body ++ (93 ∷ t) in
    let n : count_while (λ c. not (is "]" c)) r ≡ length body = count_while_front (λ c. not (is "]" c)) body (93 ∷ t) h refl in
    rw n (rw (lt-ltb (length body) (length r) (shorter body 93 t), drop_behind body 93 t))
