-- Laws of the numbers that document 01 gives to each case.
use Prim.Native.Nat.{ℕ, ◌*◌, ◌/◌, ◌%◌, ◌≤◌}
use mathlib.Core.Path.{◌≡◌, refl, ap, ◌∙◌}
use mathlib.Core.Bool.{Bool, true, false, cond}
use native.Mathlib.Omega.{arith}
use lib.Dec.{eqb}
use Rattle.laws.proofs.Bools.{cond_le}
use Rattle.standard.specs.Notes.{NoteKind, sounded, rest, invisible_rest, bar_rest, invisible_bar_rest, is_sounded}
use Rattle.reader.specs.State.{Note}
use Rattle.reader.specs.Codes.{kind_code, bit}
use Rattle.reader.specs.Records.{is_unbeamed, flag_byte}

-- a note sounds where its kind is 0
pub kind_sounded : (k : NoteKind) → eqb (kind_code k) 0 ≡ is_sounded k
unfolding kind_code is_sounded
kind_sounded sounded = refl
kind_sounded rest = refl
kind_sounded invisible_rest = refl
kind_sounded bar_rest = refl
kind_sounded invisible_bar_rest = refl

-- a flag is at most its bit
pub bit_le : (b : Bool) (n : ℕ) → bit b n ≤ n
unfolding bit
bit_le b n = cond_le b n

-- a flag is its bit times whether it is set
bit_times : (b : Bool) (n : ℕ) → bit b n ≡ n * cond b 1 0
unfolding bit
bit_times true n = omega arith
bit_times false n = omega arith

is_set : (b : Bool) → eqb (cond b 1 0) 1 ≡ b
is_set true = refl
is_set false = refl

-- the tie end flag, 2, is read off the flags' sum
pub tie_end_read : (n : Note) → eqb (flag_byte n / 2 % 2) 1 ≡ n.flags.tie_end
unfolding flag_byte
tie_end_read n =
    let f = n.flags in
    let e : flag_byte n / 2 % 2 ≡ cond f.tie_end 1 0 =
    omega (arith, bit_times f.tie_start 1, bit_times f.tie_end 2, bit_times f.slur_start 4, bit_times f.slur_end 8, bit_times f.grace 16, bit_times (is_unbeamed n) 32, cond_le f.tie_start 1, cond_le f.tie_end 1) in
    ap (λ (k : ℕ). eqb k 1) e ∙ is_set f.tie_end
