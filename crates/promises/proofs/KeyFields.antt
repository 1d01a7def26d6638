-- WHAT A K FIELD IS REFUSED FOR: by a number just where it meets that number's condition. One that is not refused has a key from seven flats to seven sharps. Assumes nothing.
use Prim.Native.Nat.{ℕ, ◌≤◌}
use mathlib.Core.Path.{◌≡◌, refl, sym, ap, subst, ◌∙◌}
use mathlib.Core.Bool.{Bool, true, false, cond, ◌&&◌, ◌||◌, false≢true}
use mathlib.Core.Option.{Option, none, some}
use mathlib.Core.List.{List, [], ◌∷◌, ◌++◌, map}
use lib.Dec.{eqb, leb, lit≤}
use borrow.Author.Tests.{eqb-true, leb-true}
use Rattle.laws.specs.Lists.{any, filter, elem, starts_with}
use Rattle.laws.proofs.Bools.{by_test, both_true, never_true, not_true, not_false, and_left, and_right, and_no_right, or_left, or_right, or_none, or_no_left, or_no_right, some≢none}
use Rattle.standard.specs.Bytes.{ascii, is, lower}
use Rattle.standard.specs.Keys.{Key, plain_key, tonic, in_mode}
use Rattle.editions.specs.declared.Edition.{Edition}
use Rattle.editions.specs.declared.Edition.TheVariants.{First, Second}
use Rattle.reader.specs.Text.{within}
use Rattle.reader.specs.Pieces.{field_words, trimmed}
use Rattle.reader.specs.Keys.{in_table, fifths_of, named, clefs, is_key_word, joined, key_text, before_word, ends_in_m, major_of, minor_or, key_in, name_length, key_on, modal_key, is_beyond, key_of}
use Rattle.reader.specs.Fields.{middle_word, first_met, key_refusal}
use Rattle.promises.specs.Refusals.{beyond_seven, is_middle, KeyMeets, middle, beyond}
use Rattle.promises.specs.KeyRange.{InSeven}

-- A REFUSAL, by the words of the value
-- in the first edition no word gives 21
first_middle : (ws : List (List ℕ)) → cond (any is_middle ws) (some 10) none ≡ first_met false ws
unfolding first_met
first_middle [] = refl
first_middle (w ∷ ws) = by_test (is_middle w) (λ e. rw (e, first_met)) (λ e. rw (e, first_met) (first_middle ws))

pub as_met : (ed : Edition) (v : List ℕ) → key_refusal ed v ≡ first_met (beyond_seven ed v) (field_words v)
unfolding key_refusal middle_word
as_met First v = first_middle (field_words v)
as_met Second v = refl

-- the conditions, of words; far: the key is beyond seven
data Met (far : Bool) (words : List (List ℕ)) : ℕ → Type 0 where
  at_middle : (ws : List (List ℕ)) (w : List ℕ) (us : List (List ℕ)) → words ≡ ws ++ (w ∷ us) → is_middle w ≡ true → (far && any is_key_word ws) ≡ false → Met far words 10
  at_key : (ws : List (List ℕ)) (w : List ℕ) (us : List (List ℕ)) → words ≡ ws ++ (w ∷ us) → is_key_word w ≡ true → far ≡ true → any is_middle ws ≡ false → Met far words 21

and_or : (a b c : Bool) → (a && b) ≡ false → (a && c) ≡ false → (a && (b || c)) ≡ false
and_or true b c f g = or_none b c f g
and_or false b c f g = refl

-- behind a word that is neither
met_later : (far : Bool) (x : List ℕ) (words : List (List ℕ)) (n : ℕ) → is_middle x ≡ false → (far && is_key_word x) ≡ false → Met far words n → Met far (x ∷ words) n
met_later far x words n a b (at_middle ws w us e m k) = at_middle (x ∷ ws) w us (ap (λ (l : List (List ℕ)). x ∷ l) e) m (and_or far (is_key_word x) (any is_key_word ws) b k)
met_later far x words n a b (at_key ws w us e k f m) = at_key (x ∷ ws) w us (ap (λ (l : List (List ℕ)). x ∷ l) e) k f (or_none (is_middle x) (any is_middle ws) a m)

same_number : (far : Bool) (words : List (List ℕ)) (m n : ℕ) → some m ≡ some n → Met far words m → Met far words n
same_number far words m n e h = subst (λ (k : ℕ). Met far words k) (cc) h

met_why : (far : Bool) (words : List (List ℕ)) (n : ℕ) → first_met far words ≡ some n → Met far words n
unfolding first_met
met_why far [] n e = absurd (some≢none n (sym e))
met_why far (w ∷ ws) n e =
    let rec = met_why far ws n in
    by_test (is_middle w) (λ m. same_number far (w ∷ ws) 10 n (rw (m, first_met) at e) (at_middle [] w ws refl m (and_no_right far false refl)))
    (λ m. by_test (far && is_key_word w) (λ k. same_number far (w ∷ ws) 21 n (rw (m, k, first_met) at e) (at_key [] w ws refl (and_right far (is_key_word w) k) (and_left far (is_key_word w) k) refl))
    (λ k. met_later far w ws n m k (rec (rw (m, k, first_met) at e))))

-- a `middle=` word has an equals sign, so it is no word of the key text
starts_any : (p : ℕ → Bool) (v w : List ℕ) → starts_with v w ≡ true → any p v ≡ true → any p w ≡ true
starts_any p [] w s h = absurd (false≢true h)
starts_any p (x ∷ v) [] s h = absurd (false≢true s)
starts_any p (x ∷ v) (c ∷ w) s h =
    let e : x ≡ c = eqb-true x c (and_left (eqb x c) (starts_with v w) s) in
    by_test (p x) (λ f. or_left (p c) (any p w) (ap p (sym e) ∙ f))
    (λ f. or_right (p c) (any p w) (starts_any p v w (and_right (eqb x c) (starts_with v w) s) (sym (ap (λ (b : Bool). b || any p v) f) ∙ h)))

key_no_middle : (w : List ℕ) → is_key_word w ≡ true → is_middle w ≡ false
unfolding is_key_word
key_no_middle w k =
    never_true (is_middle w) (λ m. both_true (any (is "=") w) (starts_any (is "=") (ascii "middle=") w m refl) (or_no_left (any (is "=") w) (elem (map lower w) clefs) (not_true _ k)))

met_middle : (far : Bool) (ws : List (List ℕ)) (w : List ℕ) (us : List (List ℕ)) → is_middle w ≡ true → (far && any is_key_word ws) ≡ false → first_met far (ws ++ (w ∷ us)) ≡ some 10
unfolding first_met
met_middle far [] w us m k = rw (m, first_met)
met_middle far (x ∷ ws) w us m k =
    by_test (is_middle x) (λ a. rw (a, first_met))
    (λ a. rw (a, first_met) (rw (no_key far (is_key_word x) (any is_key_word ws) k) (met_middle far ws w us m (no_more far (is_key_word x) (any is_key_word ws) k))))
  where
    no_key : (a b c : Bool) → (a && (b || c)) ≡ false → (a && b) ≡ false
    no_key true b c h = or_no_left b c h
    no_key false b c h = refl

    no_more : (a b c : Bool) → (a && (b || c)) ≡ false → (a && c) ≡ false
    no_more true b c h = or_no_right b c h
    no_more false b c h = refl

met_key : (far : Bool) (ws : List (List ℕ)) (w : List ℕ) (us : List (List ℕ)) → is_key_word w ≡ true → far ≡ true → any is_middle ws ≡ false → first_met far (ws ++ (w ∷ us)) ≡ some 21
unfolding first_met
met_key far [] w us k f m = rw (key_no_middle w k, first_met) (rw (f, k))
met_key far (x ∷ ws) w us k f m =
    rw (or_no_left (is_middle x) (any is_middle ws) m, first_met) (by_test (far && is_key_word x) (λ a. rw a) (λ a. rw a (met_key far ws w us k f (or_no_right (is_middle x) (any is_middle ws) m))))

-- A K FIELD THAT IS REFUSED MEETS ITS NUMBER'S CONDITION
pub key_field_why : (ed : Edition) (v : List ℕ) (n : ℕ) → key_refusal ed v ≡ some n → KeyMeets ed v n
key_field_why ed v n e = go (met_why (beyond_seven ed v) (field_words v) n (sym (as_met ed v) ∙ e))
  where
    go : {n : ℕ} → Met (beyond_seven ed v) (field_words v) n → KeyMeets ed v n
    go (at_middle ws w us e m k) = middle ws w us e m k
    go (at_key ws w us e k f m) = beyond ws w us e k f m

-- AND ONE THAT MEETS A CONDITION IS REFUSED BY ITS NUMBER; so it meets one condition at the most
pub key_field_meets : (ed : Edition) (v : List ℕ) (n : ℕ) → KeyMeets ed v n → key_refusal ed v ≡ some n
key_field_meets ed v n (middle ws w us e m k) = as_met ed v ∙ ap (first_met (beyond_seven ed v)) e ∙ met_middle (beyond_seven ed v) ws w us m k
key_field_meets ed v n (beyond ws w us e k f m) = as_met ed v ∙ ap (first_met (beyond_seven ed v)) e ∙ met_key (beyond_seven ed v) ws w us k f m

-- it is 10 or 21, and in the first edition 10
pub first_key_field : (v : List ℕ) (n : ℕ) → KeyMeets First v n → n ≡ 10
first_key_field v n (middle ws w us e m k) = refl
first_key_field v n (beyond ws w us e k f m) = absurd (false≢true f)

-- THE RANGE of a key that is not refused
in_table_lem : (f : ℕ) → (121 ≤ in_table f) × (in_table f ≤ 135)
unfolding in_table
in_table_lem f =
    by_test (leb 121 f && leb f 135) (λ e. rw e (leb-true 121 f (and_left (leb 121 f) (leb f 135) e), leb-true f 135 (and_right (leb 121 f) (leb f 135) e)))
    (λ e. rw e (lit≤ tt, lit≤ tt))

fifths_in_lem : (b : Bool) (o : Option ℕ) → (121 ≤ fifths_of b o) × (fifths_of b o ≤ 135)
unfolding fifths_of
fifths_in_lem b none = (lit≤ tt, lit≤ tt)
fifths_in_lem b (some t) = in_table_lem (in_mode b t)

named_in : (b : Bool) (name : List ℕ) → InSeven (named b name)
unfolding named
named_in b name = fifths_in_lem b (tonic name)

major_in : (k : List ℕ) (o : Option (List ℕ)) → InSeven (major_of k o)
unfolding major_of
major_in k none = named_in false k
major_in k (some name) = named_in false (trimmed name)

minor_in : (k : List ℕ) (o : Option (List ℕ)) → InSeven (minor_or k o)
unfolding minor_or
minor_in k (some name) = named_in true (trimmed name)
minor_in k none = by_test (ends_in_m k) (λ e. rw (e, minor_or) (named_in true _)) (λ e. rw (e, minor_or) (major_in k (before_word (ascii "maj") k)))

-- of what is not beyond seven
not_beyond : (k : Key) → is_beyond k ≡ false → InSeven k
unfolding is_beyond
not_beyond k h =
    let e = not_false (within 121 135 k.fifths) h in
    (leb-true 121 k.fifths (and_left (leb 121 k.fifths) (leb k.fifths 135) e), leb-true k.fifths 135 (and_right (leb 121 k.fifths) (leb k.fifths 135) e))

-- where a key beyond seven would be refused, and is not, there is no word of the key text
no_words : (ws : List (List ℕ)) → first_met true ws ≡ none → filter is_key_word ws ≡ []
unfolding first_met
no_words [] e = refl
no_words (w ∷ ws) e =
    by_test (is_middle w) (λ m. absurd (some≢none 10 (rw (m, first_met) at e)))
    (λ m. by_test (is_key_word w) (λ k. absurd (some≢none 21 (rw (m, k, first_met) at e))) (λ k. rw k (no_words ws (rw (m, k, first_met) at e))))

-- and C major is read
plain_in : is_beyond (modal_key []) ≡ false
unfolding is_beyond modal_key name_length key_on tonic plain_key
plain_in = refl

second_in : (v : List ℕ) → first_met (is_beyond (key_of Second v)) (field_words v) ≡ none → is_beyond (key_of Second v) ≡ false
unfolding key_of key_text joined
second_in v e =
    by_test (is_beyond (modal_key (key_text v)))
    (λ b. ap (λ (ws : List (List ℕ)). is_beyond (modal_key (joined ws))) (no_words (field_words v) (subst (λ (x : Bool). first_met x (field_words v) ≡ none) b e)) ∙ plain_in)
    (λ b. b)

-- every key of the first edition
pub first_in_seven : (v : List ℕ) → InSeven (key_of First v)
unfolding key_of key_in
first_in_seven v = minor_in (key_text v) (before_word (ascii "min") (key_text v))

pub key_range : (ed : Edition) (v : List ℕ) → key_refusal ed v ≡ none → InSeven (key_of ed v)
unfolding key_refusal
key_range First v e = first_in_seven v
key_range Second v e = not_beyond (key_of Second v) (second_in v e)
