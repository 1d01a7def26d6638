-- THE KEY OF A KEY TEXT by its words: the name stands in the first, the mode behind it or in the second.
use Prim.Native.Nat.{ℕ, zero, suc, ◌+◌, ◌-◌, ◌≤◌, ◌<◌}
use mathlib.Core.Path.{◌≡◌, refl, sym, ap, ◌∙◌}
use mathlib.Core.Bool.{Bool, true, false, cond, ◌||◌, true≢false}
use mathlib.Core.Option.{Option, none, some}
use mathlib.Core.List.{List, [], ◌∷◌, ◌++◌, map, append-nil}
use native.Mathlib.Omega.{arith}
use lib.ListN.{length, take, drop}
use lib.Seq.{take-append-le, drop-append-le}
use borrow.Author.Tests.{ne_eqb}
use Rattle.laws.specs.Lists.{all, All}
use Rattle.laws.proofs.Bools.{by_test, and_left, and_right, not_true}
use Rattle.laws.proofs.Lists.{All-filter}
use Rattle.standard.specs.Bytes.{is, first, lower}
use Rattle.standard.specs.Pitches.{step_of}
use Rattle.standard.specs.Keys.{Key, plain_key, place, tonic, Mode, mode_names, mode_in, lydian, ionian, mixolydian, dorian, aeolian, phrygian, locrian, fifths_in, flatter}
use Rattle.editions.specs.declared.Edition.TheVariants.{Second}
use Rattle.reader.specs.Text.{is_space, within}
use Rattle.reader.specs.Pieces.{field_words, trim_start}
use Rattle.reader.specs.Keys.{is_key_word, joined, key_text, name_length, or_lone_m, mode_of, is_minor, key_on, modal_key, key_of}
use Rattle.text_words.specs.Words.{not_space}
use Rattle.field_keys.proofs.KeyTexts.{IsWord, words_are, joined_first, start_stays}
use Rattle.field_modes.specs.Modes.{key_words, mode_at, mode_from, lone_m}
use Rattle.field_modal.specs.ModalKeys.{NoTonic, TonicIs, word_key}

-- what stands behind a word of the key text
abbrev spaced : List (List ℕ) → List ℕ
spaced [] = []
spaced (v ∷ vs) = 32 ∷ joined (v ∷ vs)

joined_spaced : (w : List ℕ) (ws : List (List ℕ)) → joined (w ∷ ws) ≡ w ++ spaced ws
unfolding joined
joined_spaced w [] = sym (append-nil w)
joined_spaced w (v ∷ vs) = refl

-- THE MODE goes past no space
named_space : (w s : List ℕ) → mode_in mode_names (map lower (w ++ (32 ∷ s))) ≡ mode_in mode_names (map lower w)
unfolding mode_in mode_names lower
named_space [] s = refl
named_space (a ∷ []) s = refl
named_space (a ∷ b ∷ []) s = refl
named_space (a ∷ b ∷ c ∷ w) s = refl

lone_space : (w s : List ℕ) → lone_m (w ++ (32 ∷ s)) ≡ lone_m w
unfolding lone_m lower
lone_space [] s = refl
lone_space (a ∷ []) s = refl
lone_space (a ∷ b ∷ w) s = refl

lone_same : (w u : List ℕ) (o : Option Mode) → lone_m w ≡ lone_m u → or_lone_m (map lower w) o ≡ or_lone_m (map lower u) o
unfolding or_lone_m lone_m
lone_same w u none e = ap (λ (b : Bool). cond b aeolian ionian) e
lone_same w u (some m) e = refl

mode_space : (w s : List ℕ) → mode_at (w ++ (32 ∷ s)) ≡ mode_at w
unfolding mode_at
mode_space w s = ap (or_lone_m (map lower (w ++ (32 ∷ s)))) (named_space w s) ∙ lone_same (w ++ (32 ∷ s)) w (mode_in mode_names (map lower w)) (lone_space w s)

mode_spaced : (w : List ℕ) (ws : List (List ℕ)) → mode_at (w ++ spaced ws) ≡ mode_at w
mode_spaced w [] = ap mode_at (append-nil w)
mode_spaced w (v ∷ vs) = mode_space w (joined (v ∷ vs))

-- where no white space stands before it
mode_here : (s : List ℕ) → is_space (first s) ≡ false → mode_of s ≡ mode_at s
unfolding mode_of mode_at
mode_here s e = ap (λ (t : List ℕ). or_lone_m (map lower t) (mode_in mode_names (map lower t))) (start_stays s e)

mode_skip : (t : List ℕ) → mode_of (32 ∷ t) ≡ mode_of t
unfolding mode_of trim_start
mode_skip t = refl

-- behind a name, in its word or in the next
mode_words : (s : List ℕ) (ws : List (List ℕ)) → all not_space s ≡ true → All IsWord ws → mode_of (s ++ spaced ws) ≡ mode_from s ws
unfolding mode_from
mode_words [] [] a h = mode_here [] refl
mode_words [] (v ∷ vs) a h = mode_skip (joined (v ∷ vs)) ∙ mode_here (joined (v ∷ vs)) (joined_first (v ∷ vs) h) ∙ ap mode_at (joined_spaced v vs) ∙ mode_spaced v vs
mode_words (c ∷ s) ws a h =
    mode_here (c ∷ (s ++ spaced ws)) (not_true (is_space c) (and_left (not_space c) (all not_space s) a)) ∙ mode_spaced (c ∷ s) ws

-- THE NAME stands in the first word
name_spaced : (c : ℕ) (w : List ℕ) (ws : List (List ℕ)) → name_length ((c ∷ w) ++ spaced ws) ≡ name_length (c ∷ w)
unfolding name_length
name_spaced c w [] = ap name_length (append-nil (c ∷ w))
name_spaced c [] (v ∷ vs) = refl
name_spaced c (d ∷ w) (v ∷ vs) = refl

name_within : (c : ℕ) (w : List ℕ) → name_length (c ∷ w) ≤ length (c ∷ w)
unfolding name_length
name_within c [] = by_test (within 65 71 c) (λ e. rw e (omega arith)) (λ e. rw e (omega arith))
name_within c (d ∷ w) =
    by_test (within 65 71 c) (λ e. rw e (by_test (is "#" d || is "b" d) (λ f. rw f (omega arith)) (λ f. rw f (omega arith)))) (λ e. rw e (omega arith))

drop_plain : (n : ℕ) (w : List ℕ) → all not_space w ≡ true → all not_space (drop n w) ≡ true
drop_plain zero w a = a
drop_plain (suc n) [] a = a
drop_plain (suc n) (c ∷ w) a = drop_plain n w (and_right (not_space c) (all not_space w) a)

modal_words : (w : List ℕ) (ws : List (List ℕ)) → IsWord w → All IsWord ws → modal_key (joined (w ∷ ws)) ≡ word_key w ws
unfolding modal_key word_key
modal_words [] ws k h = absurd (true≢false (sym k.1))
modal_words (c ∷ w) ws k h =
    let n = name_length (c ∷ w) in
    let l : n ≤ length (c ∷ w) = name_within c w in
    ap modal_key (joined_spaced (c ∷ w) ws)
    ∙ ap (λ (m : ℕ). key_on (tonic (take m ((c ∷ w) ++ spaced ws))) (mode_of (drop m ((c ∷ w) ++ spaced ws)))) (name_spaced c w ws)
    ∙ (λ i. key_on (tonic (take-append-le n (c ∷ w) (spaced ws) l i)) (mode_of (drop-append-le n (c ∷ w) (spaced ws) l i)))
    ∙ ap (key_on (tonic (take n (c ∷ w)))) (mode_words (drop n (c ∷ w)) ws (drop_plain n (c ∷ w) k.0) h)

-- THE KEY OF A VALUE, by the words of its key text
pub modal_value : (v w : List ℕ) (ws : List (List ℕ)) → key_words v ≡ w ∷ ws → key_of Second v ≡ word_key w ws
unfolding key_of key_text
modal_value v w ws e =
    let a : All IsWord (w ∷ ws) = rw e at (All-filter is_key_word IsWord (field_words v) (words_are v)) in
    ap (λ (x : List (List ℕ)). modal_key (joined x)) e ∙ modal_words w ws a.0 a.1

pub modal_none : (v : List ℕ) → key_words v ≡ [] → key_of Second v ≡ plain_key
unfolding key_of key_text modal_key joined name_length key_on tonic
modal_none v e = ap (λ (x : List (List ℕ)). modal_key (joined x)) e

-- THE TONIC of a word
pub empty_tonic : (w : List ℕ) → length w ≡ 0 → NoTonic w
unfolding name_length tonic
empty_tonic [] h = refl
empty_tonic (c ∷ w) h = absurd (omega (arith, h))

pub other_tonic : (w s : List ℕ) (c : ℕ) → w ≡ c ∷ s → within 65 71 c ≡ false → NoTonic w
unfolding name_length tonic
other_tonic w s c q e = rw q (rw e)

place_small : (step : ℕ) → place step < 7
unfolding place
place_small step = omega arith

-- a letter with a sharp, a flat or neither; t: its fifths in major
module _ (c t : ℕ) (s : List ℕ) (e : within 65 71 c ≡ true) (h : t ≡ 127 + place (step_of c)) where
  sharp_tonic : TonicIs (c ∷ 35 ∷ s) (t + 7) s
  unfolding name_length tonic
  sharp_tonic =
      let p = place_small (step_of c) in
      record { named = rw e (rw (e, tonic) (ap (λ n. some (n + 7)) (sym h))); left = rw e; low = omega (arith, h); high = omega (arith, h, p) }

  flat_tonic : TonicIs (c ∷ 98 ∷ s) (t - 7) s
  unfolding name_length tonic
  flat_tonic =
      let p = place_small (step_of c) in
      record { named = rw e (rw (e, tonic) (ap (λ n. some (n - 7)) (sym h))); left = rw e; low = omega (arith, h); high = omega (arith, h, p) }

  plain_tonic : (is "#" (first s) || is "b" (first s)) ≡ false → TonicIs (c ∷ s) t s
  unfolding name_length tonic
  plain_tonic f =
      let p = place_small (step_of c) in
      record { named = rw (e, f) (rw (e, tonic) (ap some (sym h))); left = rw (e, f); low = omega (arith, h); high = omega (arith, h, p) }

-- the same of a word, by the byte behind its letter
module _ (w behind : List ℕ) (c t : ℕ) (q : w ≡ c ∷ behind) (e : within 65 71 c ≡ true) (h : t ≡ 127 + place (step_of c)) where
  pub word_sharp : first behind ≡ 35 → TonicIs w (t + 7) (drop 1 behind)
  word_sharp m = rw q (by_first behind m)
    where
      by_first : (s : List ℕ) → first s ≡ 35 → TonicIs (c ∷ s) (t + 7) (drop 1 s)
      by_first [] m = absurd (omega (arith, m))
      by_first (d ∷ s) m = rw m (sharp_tonic c t s e h)

  pub word_flat : first behind ≡ 98 → TonicIs w (t - 7) (drop 1 behind)
  word_flat m = rw q (by_first behind m)
    where
      by_first : (s : List ℕ) → first s ≡ 98 → TonicIs (c ∷ s) (t - 7) (drop 1 s)
      by_first [] m = absurd (omega (arith, m))
      by_first (d ∷ s) m = rw m (flat_tonic c t s e h)

  pub word_plain : (first behind ≡ 35 → ⊥) → (first behind ≡ 98 → ⊥) → TonicIs w t behind
  word_plain m n = rw q (plain_tonic c t behind e h (rw (ne_eqb _ _ m, ne_eqb _ _ n)))

pub letter_small : (t c : ℕ) → t ≡ 127 + place (step_of c) → t ≤ 133
letter_small t c h = let p = place_small (step_of c) in omega (arith, h, p)

-- THE KEY of a word
pub key_unnamed : (w : List ℕ) (ws : List (List ℕ)) → NoTonic w → plain_key ≡ word_key w ws
unfolding word_key key_on
key_unnamed w ws e = rw e

pub key_named : (w left : List ℕ) (ws : List (List ℕ)) (t : ℕ) → TonicIs w t left
    → ◌≡◌ {A = Key} (record { fifths = t + 1 - flatter (mode_from left ws); minor = is_minor (mode_from left ws) }) (word_key w ws)
unfolding word_key key_on fifths_in
key_named w left ws t n = rw (n.named, n.left)

-- what a mode takes from the fifths is less than what they have
pub below_seven : (m : Mode) → flatter m < 7
unfolding flatter
below_seven lydian = omega arith
below_seven ionian = omega arith
below_seven mixolydian = omega arith
below_seven dorian = omega arith
below_seven aeolian = omega arith
below_seven phrygian = omega arith
below_seven locrian = omega arith
