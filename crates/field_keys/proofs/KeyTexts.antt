-- Words passed one after the other are the key text passed; and a key text is trimmed.
use Prim.Native.Nat.{ℕ}
use mathlib.Core.Path.{◌≡◌, refl, sym, ap, ap₂, ◌∙◌}
use mathlib.Core.Bool.{Bool, true, false, not, true≢false}
use mathlib.Core.List.{List, [], ◌∷◌, ◌++◌, map, append-nil}
use Rattle.laws.specs.Lists.{starts_with, foldl, all, All, filter, is_nil}
use Rattle.laws.proofs.Bools.{by_test, not_true, and_left, and_right, and_both}
use Rattle.laws.proofs.Lists.{foldl_kept, All-filter, filter_passes}
use Rattle.standard.specs.Bytes.{ascii, first, lower}
use Rattle.editions.specs.declared.Edition.TheVariants.{First}
use Rattle.reader.specs.Text.{is_space, push}
use Rattle.reader.specs.Pieces.{pieces, words, separator, field_words, trim_start, cons_trim, trim_end, trimmed}
use Rattle.reader.specs.Keys.{is_key_word, joined, key_text, key_of}
use Rattle.text_words.specs.Words.{not_space}
use Rattle.text_words.proofs.Trims.{cons_trim_word}
use Rattle.field_tonics.specs.Names.{with_byte}
use Rattle.field_keys.specs.declared.Passed.{Passed}
use Rattle.field_keys.specs.Passed.{first_found, pass_byte, pass_text, pass_word, pass_kept, unpassed, key_by}
use Rattle.field_keys.proofs.PassLaws.{key_same}

-- neither `min` nor `maj` goes past a space
min_space : (c : ℕ) (w s : List ℕ) → starts_with (ascii "min") (map lower (c ∷ (w ++ (32 ∷ s)))) ≡ starts_with (ascii "min") (map lower (c ∷ w))
unfolding lower
min_space c [] s = refl
min_space c (d ∷ []) s = refl
min_space c (d ∷ e ∷ w) s = refl

maj_space : (c : ℕ) (w s : List ℕ) → starts_with (ascii "maj") (map lower (c ∷ (w ++ (32 ∷ s)))) ≡ starts_with (ascii "maj") (map lower (c ∷ w))
unfolding lower
maj_space c [] s = refl
maj_space c (d ∷ []) s = refl
maj_space c (d ∷ e ∷ w) s = refl

-- a text up to a space, and the rest
pass_append : (p : Passed) (w s : List ℕ) → pass_text p (w ++ (32 ∷ s)) ≡ pass_text (pass_text p w) (32 ∷ s)
unfolding pass_text
pass_append p [] s = refl
pass_append p (c ∷ w) s =
    ap₂ (λ (x y : Bool). pass_text (pass_byte p c x y) (w ++ (32 ∷ s))) (min_space c w s) (maj_space c w s) ∙ pass_append (pass_byte p c (starts_with (ascii "min") (map lower (c ∷ w))) (starts_with (ascii "maj") (map lower (c ∷ w)))) w s

pass_space : (p : Passed) (s : List ℕ) → pass_text p (32 ∷ s) ≡ pass_text (pass_byte p 32 false false) s
unfolding pass_text lower
pass_space p s = refl

-- words one after the other, each with the space before it
pass_joined : (p : Passed) (w : List ℕ) (ws : List (List ℕ)) → foldl pass_word p (w ∷ ws) ≡ pass_text p (32 ∷ joined (w ∷ ws))
unfolding pass_word joined
pass_joined p w [] = sym (pass_space p w)
pass_joined p w (v ∷ ws) =
    pass_joined (pass_word p w) v ws ∙ sym (pass_append (pass_byte p 32 false false) w (joined (v ∷ ws))) ∙ sym (pass_space p (joined (w ∷ v ∷ ws)))

-- the space before the first word changes nothing
unpassed_space : pass_byte unpassed 32 false false ≡ unpassed
unfolding pass_byte with_byte first_found
unpassed_space = refl

pass_words : (ws : List (List ℕ)) → foldl pass_word unpassed ws ≡ pass_text unpassed (joined ws)
unfolding joined pass_text
pass_words [] = refl
pass_words (w ∷ ws) = pass_joined unpassed w ws ∙ pass_space unpassed (joined (w ∷ ws)) ∙ ap (λ (p : Passed). pass_text p (joined (w ∷ ws))) unpassed_space

-- A KEY TEXT IS TRIMMED
-- a word: not empty, and without white space
abbrev pub IsWord : List ℕ → Type 0
IsWord w = (all not_space w ≡ true) × (not (is_nil w) ≡ true)

-- the pieces between white space have none
push_plain : (c : ℕ) (ps : List (List ℕ)) → is_space c ≡ false → All (λ w. all not_space w ≡ true) ps → All (λ w. all not_space w ≡ true) (push c ps)
push_plain c [] q h = (and_both (not_space c) true (ap not q) refl, tt)
push_plain c (r ∷ rs) q h = (and_both (not_space c) (all not_space r) (ap not q) h.0, h.1)

pieces_plain : (s : List ℕ) → All (λ w. all not_space w ≡ true) (pieces (separator is_space) 0 s)
unfolding pieces
pieces_plain [] = (refl, tt)
pieces_plain (c ∷ s) = by_test (is_space c) (λ q. rw (q, pieces) (refl, pieces_plain s)) (λ q. rw (q, pieces) (push_plain c (pieces (separator is_space) 0 s) q (pieces_plain s)))

All-both : (P Q : List ℕ → Type 0) (xs : List (List ℕ)) → All P xs → All Q xs → All (λ x. P x × Q x) xs
All-both P Q [] p q = tt
All-both P Q (x ∷ xs) p q = ((p.0, q.0), All-both P Q xs p.1 q.1)

pub words_are : (s : List ℕ) → All IsWord (field_words s)
unfolding field_words words
words_are s =
    All-both (λ w. all not_space w ≡ true) (λ w. not (is_nil w) ≡ true) (field_words s)
    (All-filter (λ p. not (is_nil p)) (λ w. all not_space w ≡ true) (pieces (separator is_space) 0 s) (pieces_plain s))
    (filter_passes (λ p. not (is_nil p)) (pieces (separator is_space) 0 s))

-- a word stays, whatever is left behind it
trim_end_plain : (w t : List ℕ) → all not_space w ≡ true → trim_end (w ++ t) ≡ w ++ trim_end t
unfolding trim_end
trim_end_plain [] t a = refl
trim_end_plain (c ∷ w) t a =
    ap (cons_trim c) (trim_end_plain w t (and_right (not_space c) (all not_space w) a))
    ∙ cons_trim_word c (w ++ trim_end t) (not_true (is_space c) (and_left (not_space c) (all not_space w) a))

space_before : (v : List ℕ) (ws : List (List ℕ)) → not (is_nil v) ≡ true → cons_trim 32 (joined (v ∷ ws)) ≡ 32 ∷ joined (v ∷ ws)
unfolding cons_trim joined
space_before [] ws q = absurd (true≢false (sym q))
space_before (x ∷ v) [] q = refl
space_before (x ∷ v) (y ∷ ws) q = refl

joined_end : (ws : List (List ℕ)) → All IsWord ws → trim_end (joined ws) ≡ joined ws
unfolding joined trim_end
joined_end [] a = refl
joined_end (w ∷ []) a = ap trim_end (sym (append-nil w)) ∙ trim_end_plain w [] a.0.0 ∙ append-nil w
joined_end (w ∷ v ∷ ws) a =
    trim_end_plain w (32 ∷ joined (v ∷ ws)) a.0.0
    ∙ ap (λ (l : List ℕ). w ++ l) (ap (cons_trim 32) (joined_end (v ∷ ws) a.1) ∙ space_before v ws a.1.0.1)

pub joined_first : (ws : List (List ℕ)) → All IsWord ws → is_space (first (joined ws)) ≡ false
unfolding joined
joined_first [] a = refl
joined_first ([] ∷ ws) a = absurd (true≢false (sym a.0.1))
joined_first ((c ∷ w) ∷ []) a = not_true (is_space c) (and_left (not_space c) (all not_space w) a.0.0)
joined_first ((c ∷ w) ∷ v ∷ ws) a = not_true (is_space c) (and_left (not_space c) (all not_space w) a.0.0)

pub start_stays : (t : List ℕ) → is_space (first t) ≡ false → trim_start t ≡ t
unfolding trim_start
start_stays [] q = refl
start_stays (c ∷ t) q = rw (q, trim_start)

joined_trimmed : (ws : List (List ℕ)) → All IsWord ws → trimmed (joined ws) ≡ joined ws
unfolding trimmed
joined_trimmed ws a = ap trim_end (start_stays (joined ws) (joined_first ws a)) ∙ joined_end ws a

-- THE KEY of a value: its words passed, those that stay in the key text
pub key_of_words : (value : List ℕ) → key_by (foldl pass_kept unpassed (field_words value)) ≡ key_of First value
unfolding key_of key_text pass_kept
key_of_words value =
    let ws = filter is_key_word (field_words value) in
    let a : All IsWord ws = All-filter is_key_word IsWord (field_words value) (words_are value) in
    ap key_by
    (foldl_kept (λ (p : Passed). p) pass_kept pass_word is_key_word (λ p w e. rw e) (λ p w e. rw e) unpassed (field_words value) ∙ pass_words ws)
    ∙ key_same (joined ws) (joined_first ws a) (joined_trimmed ws a)
