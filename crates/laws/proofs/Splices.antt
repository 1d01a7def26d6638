-- Laws of a write into a store of bytes. Few have a condition: `splice` loses what does not fit, so the length stays.
use Prim.Native.Nat.{ℕ, zero, suc, ◌+◌, ◌-◌, ◌≤◌, ◌<◌, zero-le}
use mathlib.Core.Path.{◌≡◌, refl, sym, ap, ◌∙◌}
use mathlib.Core.List.{List, [], ◌∷◌, ◌++◌, append-nil}
use native.Mathlib.Nat.{zero-add, suc-add, add-zero, le_of_suc-le-suc, not-suc-le-zero, sub_self, sub-zero}
use native.Mathlib.Omega.{arith}
use lib.ListN.{length, take, drop, get_or, set, length-take, length-replicate, replicate-append-replicate, drop_of_length-le, take-append-drop}
use lib.Seq.{drop_at, drop-drop, take-append_seam, sets}
use Rattle.laws.specs.Bytes.{part, over, splice, zeros}
use Rattle.laws.proofs.Parts.{take_drop, length_part, get_d_part, part_none, part_cons, part_suc, part_part}

-- LENGTH
-- a write at the front keeps the length
pub length_over_lem : (s bs : List ℕ) → length (over s bs) ≡ length s
unfolding over
length_over_lem s [] = refl
length_over_lem [] (b ∷ bs) = refl
length_over_lem (x ∷ s) (b ∷ bs) = ap suc (length_over_lem s bs)

-- a write keeps the length
pub length_splice : (s : List ℕ) (at : ℕ) (bs : List ℕ) → length (splice s at bs) ≡ length s
unfolding splice
length_splice s zero bs = length_over_lem s bs
length_splice [] (suc at) bs = refl
length_splice (x ∷ s) (suc at) bs = ap suc (length_splice s at bs)

-- so does a call that makes one
pub length_spliced : (s t : List ℕ) (at : ℕ) (bs : List ℕ) → t ≡ splice s at bs → length t ≡ length s
length_spliced s t at bs e = ap length e ∙ length_splice s at bs

-- WRITES, ONE AFTER THE OTHER
-- nothing written
pub splice_nil : (s : List ℕ) (at : ℕ) → splice s at [] ≡ s
unfolding splice over
splice_nil s zero = refl
splice_nil [] (suc at) = refl
splice_nil (x ∷ s) (suc at) = ap (λ (l : List ℕ). x ∷ l) (splice_nil s at)

-- one element stored
pub set_splice : (s : List ℕ) (i v : ℕ) → set s i v ≡ splice s i (v ∷ [])
unfolding splice over
set_splice [] zero v = refl
set_splice [] (suc i) v = refl
set_splice (x ∷ s) zero v = refl
set_splice (x ∷ s) (suc i) v = ap (λ (l : List ℕ). x ∷ l) (set_splice s i v)

-- two writes, the second where the first ends
pub splice_next : (s : List ℕ) (at : ℕ) (a b : List ℕ) → splice (splice s at a) (at + length a) b ≡ splice s at (a ++ b)
unfolding splice over
splice_next s zero [] b = refl
splice_next [] zero (x ∷ a) b = rw (zero-add (suc (length a))) refl
splice_next (y ∷ s) zero (x ∷ a) b = rw (zero-add (suc (length a))) (ap (λ (l : List ℕ). x ∷ l) (rw (zero-add (length a)) at (splice_next s zero a b)))
splice_next [] (suc at) a b = rw (suc-add at (length a)) refl
splice_next (y ∷ s) (suc at) a b = rw (suc-add at (length a)) (ap (λ (l : List ℕ). y ∷ l) (splice_next s at a b))

-- two calls, the second handed what the first left
pub spliced_next : (s t u : List ℕ) (at k : ℕ) (a b : List ℕ) → t ≡ splice s at a → u ≡ splice t k b → k ≡ at + length a → u ≡ splice s at (a ++ b)
spliced_next s t u at k a b p q e = q ∙ ap (λ (l : List ℕ). splice l k b) p ∙ ap (λ (n : ℕ). splice (splice s at a) n b) e ∙ splice_next s at a b

-- one element stored where a write ends: a turn of a loop that goes up
pub splice_snoc : (s : List ℕ) (at : ℕ) (bs : List ℕ) (i v : ℕ) → at + length bs ≡ i → set (splice s at bs) i v ≡ splice s at (bs ++ (v ∷ []))
splice_snoc s at bs i v e = set_splice (splice s at bs) i v ∙ ap (λ (k : ℕ). splice (splice s at bs) k (v ∷ [])) (sym e) ∙ splice_next s at bs (v ∷ [])

-- elements stored one after the other, as straight-line code leaves them
pub sets_splice : (s : List ℕ) (at : ℕ) (bs : List ℕ) → sets s at bs ≡ splice s at bs
sets_splice s at [] = sym (splice_nil s at)
sets_splice s at (b ∷ bs) =
    let e : suc at ≡ at + 1 = omega arith in
    sets_splice (set s at b) (suc at) bs ∙ ap (λ (l : List ℕ). splice l (suc at) bs) (set_splice s at b)
    ∙ ap (λ (k : ℕ). splice (splice s at (b ∷ [])) k bs) e ∙ splice_next s at (b ∷ []) bs

-- two writes, the second just before the first
pub splice_before : (s : List ℕ) (at : ℕ) (a b : List ℕ) → splice (splice s (at + length a) b) at a ≡ splice s at (a ++ b)
unfolding splice over
splice_before s zero [] b = refl
splice_before [] zero (x ∷ a) b = rw (zero-add (suc (length a))) refl
splice_before (y ∷ s) zero (x ∷ a) b = rw (zero-add (suc (length a))) (ap (λ (l : List ℕ). x ∷ l) (rw (zero-add (length a)) at (splice_before s zero a b)))
splice_before [] (suc at) a b = rw (suc-add at (length a)) refl
splice_before (y ∷ s) (suc at) a b = rw (suc-add at (length a)) (ap (λ (l : List ℕ). y ∷ l) (splice_before s at a b))

-- two writes at one place: the first is lost where the second covers it
pub splice_again : (s : List ℕ) (at : ℕ) (a b : List ℕ) → length a ≤ length b → splice (splice s at a) at b ≡ splice s at b
unfolding splice over
splice_again s zero [] b h = refl
splice_again s zero (x ∷ a) [] h = absurd (not-suc-le-zero h)
splice_again [] zero (x ∷ a) (y ∷ b) h = refl
splice_again (z ∷ s) zero (x ∷ a) (y ∷ b) h = ap (λ (l : List ℕ). y ∷ l) (splice_again s zero a b (le_of_suc-le-suc h))
splice_again [] (suc at) a b h = refl
splice_again (z ∷ s) (suc at) a b h = ap (λ (l : List ℕ). z ∷ l) (splice_again s at a b h)

-- two writes apart, in either order
pub splice_swap : (s : List ℕ) (i j : ℕ) (a b : List ℕ) → i + length a ≤ j → splice (splice s i a) j b ≡ splice (splice s j b) i a
unfolding splice over
splice_swap s zero j [] b h = refl
splice_swap s zero zero (x ∷ a) b h = absurd (not-suc-le-zero (rw (zero-add (suc (length a))) at h))
splice_swap [] zero (suc j) (x ∷ a) b h = refl
splice_swap (y ∷ s) zero (suc j) (x ∷ a) b h = ap (λ (l : List ℕ). x ∷ l) (splice_swap s zero j a b (omega arith))
splice_swap s (suc i) zero a b h = absurd (not-suc-le-zero (rw (suc-add i (length a)) at h))
splice_swap [] (suc i) (suc j) a b h = refl
splice_swap (y ∷ s) (suc i) (suc j) a b h = ap (λ (l : List ℕ). y ∷ l) (splice_swap s i j a b (omega arith))

-- WHAT A WRITE LEAVES
-- the front before it
pub take_splice : (n : ℕ) (s : List ℕ) (at : ℕ) (bs : List ℕ) → n ≤ at → take n (splice s at bs) ≡ take n s
unfolding splice
take_splice zero s at bs h = refl
take_splice (suc n) s zero bs h = absurd (not-suc-le-zero h)
take_splice (suc n) [] (suc at) bs h = refl
take_splice (suc n) (x ∷ s) (suc at) bs h = ap (λ (l : List ℕ). x ∷ l) (take_splice n s at bs (le_of_suc-le-suc h))

-- the rest from b on, where it lies in that
pub drop_splice : (b : ℕ) (s : List ℕ) (k : ℕ) (bs : List ℕ) → drop b (splice s (b + k) bs) ≡ splice (drop b s) k bs
unfolding splice over
drop_splice zero s k bs = rw (zero-add k) refl
drop_splice (suc b) [] zero [] = rw (add-zero (suc b)) refl
drop_splice (suc b) [] zero (x ∷ bs) = rw (add-zero (suc b)) refl
drop_splice (suc b) [] (suc k) bs = rw (suc-add b (suc k)) refl
drop_splice (suc b) (x ∷ s) k bs = rw (suc-add b k) (drop_splice b s k bs)

-- the first n, where it lies in those
pub take_splice_in : (n : ℕ) (s : List ℕ) (k : ℕ) (bs : List ℕ) → take n (splice s k bs) ≡ splice (take n s) k bs
unfolding splice over
take_splice_in zero s zero [] = refl
take_splice_in zero s zero (b ∷ bs) = refl
take_splice_in zero s (suc k) bs = refl
take_splice_in (suc n) [] zero [] = refl
take_splice_in (suc n) [] zero (b ∷ bs) = refl
take_splice_in (suc n) [] (suc k) bs = refl
take_splice_in (suc n) (x ∷ s) zero [] = refl
take_splice_in (suc n) (x ∷ s) zero (b ∷ bs) = ap (λ (l : List ℕ). b ∷ l) (take_splice_in n s zero bs)
take_splice_in (suc n) (x ∷ s) (suc k) bs = ap (λ (l : List ℕ). x ∷ l) (take_splice_in n s k bs)

-- the rest past it
pub drop_splice_past : (n : ℕ) (s : List ℕ) (at : ℕ) (bs : List ℕ) → at + length bs ≤ n → drop n (splice s at bs) ≡ drop n s
unfolding splice over
drop_splice_past n s zero [] h = refl
drop_splice_past n [] zero (b ∷ bs) h = refl
drop_splice_past zero (x ∷ s) zero (b ∷ bs) h = absurd (not-suc-le-zero (rw (zero-add (suc (length bs))) at h))
drop_splice_past (suc n) (x ∷ s) zero (b ∷ bs) h = drop_splice_past n s zero bs (rw (zero-add (length bs)) (le_of_suc-le-suc (rw (zero-add (suc (length bs))) at h)))
drop_splice_past n [] (suc at) bs h = refl
drop_splice_past zero (x ∷ s) (suc at) bs h = absurd (not-suc-le-zero (rw (suc-add at (length bs)) at h))
drop_splice_past (suc n) (x ∷ s) (suc at) bs h = drop_splice_past n s at bs (le_of_suc-le-suc (rw (suc-add at (length bs)) at h))

-- a write at the front as a cut and a paste, where it fits
pub over_eq : (s bs : List ℕ) → length bs ≤ length s → over s bs ≡ bs ++ drop (length bs) s
unfolding over
over_eq s [] h = refl
over_eq [] (b ∷ bs) h = absurd (not-suc-le-zero h)
over_eq (x ∷ s) (b ∷ bs) h = ap (λ (l : List ℕ). b ∷ l) (over_eq s bs (le_of_suc-le-suc h))

-- a write as a cut and a paste, where it fits
pub splice_eq : (s : List ℕ) (at : ℕ) (bs : List ℕ) → at + length bs ≤ length s → splice s at bs ≡ take at s ++ (bs ++ drop (at + length bs) s)
unfolding splice
splice_eq s zero bs h = over_eq s bs (omega arith) ∙ ap (λ (k : ℕ). bs ++ drop k s) (sym (zero-add (length bs)))
splice_eq [] (suc at) bs h = absurd (not-suc-le-zero (rw (suc-add at (length bs)) at h))
splice_eq (x ∷ s) (suc at) bs h = rw (suc-add at (length bs)) (ap (λ (l : List ℕ). x ∷ l) (splice_eq s at bs (le_of_suc-le-suc (rw (suc-add at (length bs)) at h))))

-- A PART AFTER A WRITE
-- what was written
pub part_same : (s : List ℕ) (at : ℕ) (bs : List ℕ) → at + length bs ≤ length s → part (splice s at bs) at (length bs) ≡ bs
unfolding part
part_same s at bs h =
    ap (λ (l : List ℕ). take (length bs) (drop at l)) (splice_eq s at bs h)
    ∙ ap (take (length bs)) (drop_at (take at s) (bs ++ drop (at + length bs) s) at (simp length-take (omega arith)))
    ∙ take-append_seam bs (drop (at + length bs) s)

-- what stands before it
pub part_below : (s : List ℕ) (at : ℕ) (bs : List ℕ) (b n : ℕ) → b + n ≤ at → part (splice s at bs) b n ≡ part s b n
unfolding part
part_below s at bs b n h = take_drop b n (splice s at bs) ∙ ap (drop b) (take_splice (b + n) s at bs h) ∙ sym (take_drop b n s)

-- what stands past it
pub part_above : (s : List ℕ) (at : ℕ) (bs : List ℕ) (b n : ℕ) → at + length bs ≤ b → part (splice s at bs) b n ≡ part s b n
unfolding part
part_above s at bs b n h = ap (take n) (drop_splice_past b s at bs h)

-- what stands around it
pub part_around : (s : List ℕ) (b n k : ℕ) (bs : List ℕ) → part (splice s (b + k) bs) b n ≡ splice (part s b n) k bs
unfolding part
part_around s b n k bs = ap (take n) (drop_splice b s k bs) ∙ take_splice_in n (drop b s) k bs

-- what stands within it
pub part_within : (s : List ℕ) (at : ℕ) (bs : List ℕ) (b n : ℕ) → at + length bs ≤ length s → b + n ≤ length bs → part (splice s at bs) (at + b) n ≡ part bs b n
part_within s at bs b n h l =
    sym (part_part (splice s at bs) at (length bs) b n l) ∙ ap (λ (x : List ℕ). part x b n) (part_same s at bs h)

-- A BYTE AFTER A WRITE
-- a byte is the one in its own part
pub byte_own : (s : List ℕ) (k : ℕ) → get_or s k 0 ≡ get_or (part s k 1) 0 0
byte_own s k = ap (λ (j : ℕ). get_or s j 0) (sym (add-zero k)) ∙ sym (get_d_part s k 1 0 (omega arith))

-- one that was written
pub byte_same : (s : List ℕ) (at : ℕ) (bs : List ℕ) (k : ℕ) → at + length bs ≤ length s → k < length bs → get_or (splice s at bs) (at + k) 0 ≡ get_or bs k 0
byte_same s at bs k h l = sym (get_d_part (splice s at bs) at (length bs) k l) ∙ ap (λ (x : List ℕ). get_or x k 0) (part_same s at bs h)

-- one before it
pub byte_below : (s : List ℕ) (at : ℕ) (bs : List ℕ) (k : ℕ) → k < at → get_or (splice s at bs) k 0 ≡ get_or s k 0
byte_below s at bs k h =
    byte_own (splice s at bs) k ∙ ap (λ (l : List ℕ). get_or l 0 0) (part_below s at bs k 1 (omega arith)) ∙ sym (byte_own s k)

-- one past it
pub byte_above : (s : List ℕ) (at : ℕ) (bs : List ℕ) (k : ℕ) → at + length bs ≤ k → get_or (splice s at bs) k 0 ≡ get_or s k 0
byte_above s at bs k h = byte_own (splice s at bs) k ∙ ap (λ (l : List ℕ). get_or l 0 0) (part_above s at bs k 1 h) ∙ sym (byte_own s k)

-- ZEROS
-- n zeros are n
pub length_zeros : (n : ℕ) → length (zeros n) ≡ n
unfolding zeros
length_zeros n = length-replicate n 0

-- zeros after zeros
pub zeros_add : (n m : ℕ) → zeros n ++ zeros m ≡ zeros (n + m)
unfolding zeros
zeros_add n m = replicate-append-replicate n m 0

-- one zero more
pub zeros_snoc : (n : ℕ) → zeros n ++ (0 ∷ []) ≡ zeros (n + 1)
unfolding zeros
zeros_snoc n = zeros_add n 1

-- a loop that writes zeros: none yet
pub zeros_none : (s : List ℕ) (at : ℕ) → s ≡ splice s at (zeros (at - at))
unfolding zeros
zeros_none s at = rw (sub_self at) (sym (splice_nil s at))

-- one more
pub zeros_more : (s t : List ℕ) (at i : ℕ) → t ≡ splice s at (zeros (i - at)) → at ≤ i → set t i 0 ≡ splice s at (zeros (i + 1 - at))
zeros_more s t at i e h =
    let k : i - at + 1 ≡ i + 1 - at = omega arith in
    ap (λ (l : List ℕ). set l i 0) e ∙ splice_snoc s at (zeros (i - at)) i 0 (rw length_zeros (omega arith))
    ∙ ap (splice s at) (zeros_snoc (i - at) ∙ ap zeros k)

-- zeros up to the end
pub splice_zeros : (s : List ℕ) (at : ℕ) → at ≤ length s → splice s at (zeros (length s - at)) ≡ take at s ++ zeros (length s - at)
splice_zeros s at h =
    let n = length s - at in
    splice_eq s at (zeros n) (rw length_zeros (omega arith))
    ∙ ap (λ (l : List ℕ). take at s ++ (zeros n ++ l)) (drop_of_length-le s {i = at + length (zeros n)} (rw length_zeros (omega arith)))
    ∙ ap (λ (l : List ℕ). take at s ++ l) (append-nil (zeros n))

-- zeros all over
pub zeros_whole : (s : List ℕ) → splice s 0 (zeros (length s - 0)) ≡ zeros (length s)
zeros_whole s = splice_zeros s 0 zero-le ∙ ap zeros (sub-zero (length s))

-- A COPY
-- a loop that copies: nothing yet
pub copy_none : (s : List ℕ) (at : ℕ) (t : List ℕ) (from : ℕ) → s ≡ splice s at (part t from 0)
copy_none s at t from = rw (part_none t from) (sym (splice_nil s at))

-- one more
pub copy_more : (s d t : List ℕ) (at from j : ℕ) → d ≡ splice s at (part t from j) → from + j < length t → set d (at + j) (get_or t (from + j) 0) ≡ splice s at (part t from (j + 1))
copy_more s d t at from j e h =
    ap (λ (l : List ℕ). set l (at + j) (get_or t (from + j) 0)) e
    ∙ splice_snoc s at (part t from j) (at + j) (get_or t (from + j) 0) (ap (λ (k : ℕ). at + k) (length_part t from j (omega arith)))
    ∙ ap (splice s at) (sym (part_suc t from j h))

-- a loop that copies within one list towards the front, the lowest first: one more. What it reads is not yet written over
pub move_more : (s d : List ℕ) (at from j : ℕ) → d ≡ splice s at (part s from j) → from + j < length s → at ≤ from
    → set d (at + j) (get_or d (from + j) 0) ≡ splice s at (part s from (j + 1))
move_more s d at from j e h l =
    let n : length (part s from j) ≡ j = length_part s from j (omega arith) in
    let v : get_or d (from + j) 0 ≡ get_or s (from + j) 0 = ap (λ (x : List ℕ). get_or x (from + j) 0) e ∙ byte_above s at (part s from j) (from + j) (omega arith) in
    ap (set d (at + j)) v ∙ copy_more s d s at from j e h

-- towards the back, the highest first: none yet
pub move_none : (s : List ℕ) (at from n : ℕ) → s ≡ splice s (at + n) (part s (from + n) (n - n))
move_none s at from n = rw (sub_self n) (copy_none s (at + n) s (from + n))

-- one more
pub move_less : (s d : List ℕ) (at from n k : ℕ) → d ≡ splice s (at + (k + 1)) (part s (from + (k + 1)) (n - (k + 1))) → k < n → from + k < length s → from ≤ at
    → set d (at + k) (get_or d (from + k) 0) ≡ splice s (at + k) (part s (from + k) (n - k))
move_less s d at from n k e h r l =
    let rest = part s (from + (k + 1)) (n - (k + 1)) in
    let v : get_or d (from + k) 0 ≡ get_or s (from + k) 0 = ap (λ (x : List ℕ). get_or x (from + k) 0) e ∙ byte_below s (at + (k + 1)) rest (from + k) (omega arith) in
    let a : at + (k + 1) ≡ at + k + 1 = omega arith in
    let b : from + k + 1 ≡ from + (k + 1) = omega arith in
    let c : n - (k + 1) + 1 ≡ n - k = omega arith in
    let first : get_or s (from + k) 0 ∷ rest ≡ part s (from + k) (n - k)
    = ap (λ (i : ℕ). get_or s (from + k) 0 ∷ part s i (n - (k + 1))) (sym b) ∙ sym (part_cons s (from + k) (n - (k + 1)) r) ∙ ap (part s (from + k)) c in
    ap (set d (at + k)) v
    ∙ set_splice d (at + k) (get_or s (from + k) 0)
    ∙ ap (λ (x : List ℕ). splice x (at + k) (get_or s (from + k) 0 ∷ [])) e
    ∙ ap (λ (i : ℕ). splice (splice s i rest) (at + k) (get_or s (from + k) 0 ∷ [])) a
    ∙ splice_before s (at + k) (get_or s (from + k) 0 ∷ []) rest
    ∙ ap (splice s (at + k)) first

-- A PART LENT
-- a part lent as `&mut s[a..e]`, k long, that came back as ys with bs written from j on: the same write in s, from a + j on
pub lent_back : (s : List ℕ) (a k : ℕ) (ys : List ℕ) (j : ℕ) (bs : List ℕ) → ys ≡ splice (take k (drop a s)) j bs → j + length bs ≤ k
    → take a s ++ (ys ++ drop k (drop a s)) ≡ splice s (a + j) bs
lent_back s a k ys j bs e h =
    let z = splice (drop a s) j bs in
    ap (λ (l : List ℕ). take a s ++ (l ++ drop k (drop a s))) (e ∙ sym (take_splice_in k (drop a s) j bs))
    ∙ ap (λ (l : List ℕ). take a s ++ (take k z ++ l)) (sym (drop_splice_past k (drop a s) j bs h))
    ∙ ap (λ (l : List ℕ). take a s ++ l) (take-append-drop k z ∙ sym (drop_splice a s j bs))
    ∙ ap (λ (l : List ℕ). l ++ drop a (splice s (a + j) bs)) (sym (take_splice a s (a + j) bs (omega arith)))
    ∙ take-append-drop a (splice s (a + j) bs)

-- a part lent, that came back as ys, whatever was done to it: a write of ys
pub lent_whole : (s : List ℕ) (a k : ℕ) (ys : List ℕ) → length ys ≡ k → a + k ≤ length s → take a s ++ (ys ++ drop k (drop a s)) ≡ splice s a ys
lent_whole s a k ys e h =
    ap (λ (l : List ℕ). take a s ++ (ys ++ l)) (drop-drop k a s ∙ ap (λ (n : ℕ). drop (a + n) s) (sym e))
    ∙ sym (splice_eq s a ys (omega arith))

-- ACROSS A SEAM
-- a write into the first of two lists
pub splice_append_left : (a b : List ℕ) (at : ℕ) (bs : List ℕ) → at + length bs ≤ length a → splice (a ++ b) at bs ≡ splice a at bs ++ b
unfolding splice over
splice_append_left a b zero [] h = refl
splice_append_left [] b zero (x ∷ bs) h = absurd (not-suc-le-zero (rw (zero-add (suc (length bs))) at h))
splice_append_left (y ∷ a) b zero (x ∷ bs) h = ap (λ (l : List ℕ). x ∷ l) (splice_append_left a b zero bs (omega arith))
splice_append_left [] b (suc at) bs h = absurd (not-suc-le-zero (rw (suc-add at (length bs)) at h))
splice_append_left (y ∷ a) b (suc at) bs h = ap (λ (l : List ℕ). y ∷ l) (splice_append_left a b at bs (omega arith))

-- a write into the second
pub splice_append_right : (a b : List ℕ) (k : ℕ) (bs : List ℕ) → splice (a ++ b) (length a + k) bs ≡ a ++ splice b k bs
unfolding splice
splice_append_right [] b k bs = rw (zero-add k)
splice_append_right (x ∷ a) b k bs = rw (suc-add (length a) k) (ap (λ (l : List ℕ). x ∷ l) (splice_append_right a b k bs))
