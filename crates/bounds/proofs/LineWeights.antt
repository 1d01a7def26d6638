-- The lines of a text cover the items that the scan makes of them, and the voices that they name.
use Prim.Native.Nat.{ℕ, suc, ◌+◌, ◌-◌, ◌≤◌, ◌<◌, zero-le}
use mathlib.Core.Path.{◌≡◌, refl, sym, ap, ◌∙◌}
use mathlib.Core.Bool.{true, false, false≢true}
use mathlib.Core.List.{List, [], ◌∷◌}
use mathlib.Core.Option.{Option, some, none}
use native.Mathlib.Omega.{arith}
use lib.Dec.{eqb, ltb}
use lib.ListN.{length, drop, length-drop}
use borrow.Author.Tests.{eqb-true}
use Rattle.laws.specs.Lists.{sum, is_nil}
use Rattle.laws.proofs.Bools.{by_test}
use Rattle.standard.specs.Keys.{Key}
use Rattle.editions.specs.declared.Edition.{Edition}
use Rattle.reader.specs.Text.{is_blank, push, text_lines, cut, trim, clean, has_high}
use Rattle.reader.specs.Fields.{middle_word, identifier, key_refusal}
use Rattle.reader.specs.Lines.{begins, is_v, is_k, is_l, is_m, is_x, is_lyric, is_field, Kind, blank, refused, lyric, voice, key, meter, unit, tune, other, music, voice_kind, key_kind, field_kind, line_kind, kind_unless}
use Rattle.reader.specs.Steps.{TextLine}
use Rattle.reader.specs.Steps
use Rattle.reader.specs.All.{all as everything}
use Rattle.reader.specs.Keys.{key_of}

-- THE LINES OF A TEXT
push_length : (c : ℕ) (rs : List TextLine) → sum length (push c rs) ≡ suc (sum length rs)
push_length c [] = refl
push_length c (r ∷ rs) = omega arith

-- together they are as long as the text
pub rows_length : (t : List ℕ) → sum length (text_lines t) ≡ length t
unfolding text_lines
rows_length [] = refl
rows_length (c ∷ t) = by_test (eqb c 10) (λ e. rw e (omega (arith, rows_length t))) (λ e. rw e (omega (arith, rows_length t, push_length c (text_lines t))))

-- a line, cut and trimmed, is no longer than it was
cut_length : (r : List ℕ) → length (cut r) ≤ length r
unfolding cut
cut_length [] = zero-le
cut_length (c ∷ r) = by_test (eqb c 37) (λ e. rw e zero-le) (λ e. rw e (omega (arith, cut_length r)))

-- trimmed
trim_length : (r : List ℕ) → length (trim r) ≤ length r
unfolding trim
trim_length [] = zero-le
trim_length (c ∷ r) = by_test (is_blank (c ∷ r)) (λ e. rw e zero-le) (λ e. rw e (omega (arith, trim_length r)))

-- both
pub clean_length : (r : List ℕ) → length (clean r) ≤ length r
unfolding clean
clean_length r = omega (arith, cut_length r, trim_length (cut r))

-- a line feed goes, and what stands before it makes no difference
feed_goes : (c : ℕ) → eqb c 10 ≡ true → length (clean (c ∷ [])) < 1
unfolding everything
feed_goes c e = rw (eqb-true c 10 e) (omega arith)

-- a byte before it
more_goes : (c : ℕ) (r : List ℕ) → length (clean r) < length r → length (clean (c ∷ r)) < length (c ∷ r)
unfolding clean cut trim
more_goes c r h =
    by_test (eqb c 37) (λ e. rw e (omega arith))
    (λ e. rw e (by_test (is_blank (c ∷ cut r)) (λ f. rw f (omega arith)) (λ f. rw f (omega arith))))

-- every line but the last has its line feed, so it is shorter once trimmed
unfoldable pub Fed : List TextLine → Type 0
Fed [] = Unit {0}
Fed (r ∷ []) = Unit {0}
Fed (r ∷ s ∷ rs) = (length (clean r) < length r) × Fed (s ∷ rs)

-- a line with its feed before others
fed_cons : (r : TextLine) (rs : List TextLine) → length (clean r) < length r → Fed rs → Fed (r ∷ rs)
unfolding Fed
fed_cons r [] h f = tt
fed_cons r (s ∷ rs) h f = (h, f)

-- a byte more in the first line
fed_push : (c : ℕ) (rs : List TextLine) → Fed rs → Fed (push c rs)
unfolding Fed
fed_push c [] f = tt
fed_push c (r ∷ []) f = tt
fed_push c (r ∷ s ∷ rs) f = (more_goes c r f.0, f.1)

-- so are the lines of any text
pub rows_fed : (t : List ℕ) → Fed (text_lines t)
unfolding text_lines Fed
rows_fed [] = tt
rows_fed (c ∷ t) = by_test (eqb c 10) (λ e. rw e (fed_cons (c ∷ []) (text_lines t) (feed_goes c e) (rows_fed t))) (λ e. rw e (fed_push c (text_lines t) (rows_fed t)))

-- THE KINDS OF LINES: what each is at least as long as, or at most
unfoldable pub KindFits : ℕ → Kind → Type 0
KindFits n blank = Unit {0}
KindFits n (refused k) = Unit {0}
KindFits n (lyric t) = 2 + length t ≤ n
KindFits n (voice v mid) = 3 ≤ n
KindFits n (key k) = 2 ≤ n
KindFits n (meter m) = 2 ≤ n
KindFits n (unit u) = 2 ≤ n
KindFits n tune = Unit {0}
KindFits n other = Unit {0}
KindFits n (music hi es l) = (1 ≤ length l) × (length l ≤ n)

-- a line that begins with two bytes has them
begins_two : (a b : ℕ) (l : List ℕ) → begins a b l ≡ true → 2 ≤ length l
begins_two a b [] e = absurd (false≢true e)
begins_two a b (x ∷ []) e = absurd (false≢true e)
begins_two a b (x ∷ y ∷ r) e = omega arith

-- a line that is not empty
some_bytes : (l : List ℕ) → is_nil l ≡ false → 1 ≤ length l
some_bytes [] e = absurd (false≢true (sym e))
some_bytes (c ∷ l) e = omega arith

-- an identifier needs a byte
no_word : identifier [] ≡ []
unfolding everything
no_word = refl

-- a V line with an identifier
voice_three : (l : List ℕ) → 2 ≤ length l → is_nil (identifier (drop 2 l)) ≡ false → 3 ≤ length l
voice_three [] h e = absurd (omega (arith, h))
voice_three (a ∷ []) h e = absurd (omega (arith, h))
voice_three (a ∷ b ∷ []) h e = absurd (false≢true (sym e ∙ ap is_nil no_word))
voice_three (a ∷ b ∷ c ∷ r) h e = omega arith

-- a V line
voice_fits : (l : List ℕ) → is_v l ≡ true → KindFits (length l) (voice_kind (drop 2 l))
unfolding voice_kind KindFits
voice_fits l v =
    by_test (is_nil (identifier (drop 2 l))) (λ e. rw e tt) (λ e. rw e (voice_three l (begins_two 86 58 l v) e))

-- a K line
unless_fits : (n : ℕ) (k : Key) (o : Option ℕ) → KindFits n (key k) → KindFits n (kind_unless k o)
unfolding kind_unless KindFits
unless_fits n k none h = h
unless_fits n k (some r) h = tt

key_fits : (ed : Edition) (l : List ℕ) → is_k l ≡ true → KindFits (length l) (key_kind ed (drop 2 l))
unfolding key_kind KindFits
key_fits ed l v = unless_fits (length l) (key_of ed (drop 2 l)) (key_refusal ed (drop 2 l)) (begins_two 75 58 l v)

-- a field
field_fits : (ed : Edition) (l : List ℕ) → KindFits (length l) (field_kind ed l)
unfolding field_kind KindFits
field_fits ed l =
    by_test (is_v l) (λ e. rw e (by_test (has_high l) (λ f. rw f tt) (λ f. rw f (voice_fits l e))))
    (λ e. rw e
    (by_test (is_k l) (λ f. rw f (by_test (has_high l) (λ g. rw g tt) (λ g. rw g (key_fits ed l f))))
    (λ f. rw f
    (by_test (is_l l) (λ g. rw g (by_test (has_high l) (λ k. rw k tt) (λ k. rw k (begins_two 76 58 l g))))
    (λ g. rw g
    (by_test (is_m l) (λ k. rw k (by_test (has_high l) (λ m. rw m tt) (λ m. rw m (begins_two 77 58 l k))))
    (λ k. rw k (by_test (is_x l) (λ m. rw m tt) (λ m. rw m tt)))))))))

-- any line
pub kind_fits : (ed : Edition) (l : List ℕ) → KindFits (length l) (line_kind ed l)
unfolding line_kind KindFits
kind_fits ed l =
    by_test (is_nil l) (λ e. rw e tt)
    (λ e. rw e
    (by_test (ltb 1048576 (length l)) (λ f. rw f tt)
    (λ f. rw f
    (by_test (is_lyric l) (λ g. rw g (omega (arith, length-drop 2 l, begins_two 119 58 l g)))
    (λ g. rw g (by_test (is_field l) (λ k. rw k (field_fits ed l)) (λ k. rw k (some_bytes l e, omega arith))))))))
