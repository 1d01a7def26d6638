-- LINES BY THEIR FIRST TWO BYTES AND BY THEIR KIND: the blocks are read off the bytes, the scan goes by the kind of the line cut and trimmed. A line that begins with `V:`,
-- `K:`, `L:`, `M:`, `w:` is of that kind or refused, and no other line is a voice or a lyric line. Assumes nothing.
use Prim.Native.Nat.{ℕ}
use mathlib.Core.Path.{◌≡◌, refl, sym, ap, subst, ◌∙◌}
use mathlib.Core.Bool.{Bool, true, false, cond, false≢true}
use mathlib.Core.List.{List, [], ◌∷◌}
use mathlib.Core.Option.{Option, none, some}
use lib.Dec.{eqb, ltb}
use lib.ListN.{length, drop}
use borrow.Author.Tests.{eqb-true}
use Rattle.laws.specs.Lists.{is_nil}
use Rattle.laws.proofs.Bools.{by_test, and_left, and_right, cond_both, and_both, same_test, eqb_same}
use Rattle.standard.specs.Keys.{Key}
use Rattle.editions.specs.declared.Edition.{Edition}
use Rattle.reader.proofs.TextLaws.{trim_keep}
use Rattle.reader.specs.Text as text
use Rattle.reader.specs.Text.{white_step, white, is_all_white, is_blank, cut, trim, clean, has_high}
use Rattle.reader.specs.Fields as fields
use Rattle.reader.specs.Fields.{unit_of, meter_of, middle_word, key_refusal}
use Rattle.reader.specs.Keys.{key_of}
use Rattle.reader.specs.Lines.{begins, is_v, is_k, is_l, is_m, is_x, is_lyric, is_field, Kind, blank, refused, lyric, voice, key, meter, unit, tune, other, music, voice_kind, key_kind, field_kind, line_kind, kind_of, kind_unless}
use Rattle.blocks.specs.Kinds.{is_music_line}
use Rattle.blocks.specs.Demand.{identifier}

-- LINES AND LINES
begins_shape : (a b : ℕ) (r : List ℕ) → begins a b r ≡ true → (x : List ℕ) × (r ≡ a ∷ (b ∷ x))
begins_shape a b [] h = absurd (false≢true h)
begins_shape a b (c ∷ []) h = absurd (false≢true h)
begins_shape a b (c ∷ (d ∷ x)) h =
    (x, λ i. eqb-true c a (and_left (eqb c a) (eqb d b) h) i ∷ (eqb-true d b (and_right (eqb c a) (eqb d b) h) i ∷ x))

-- a byte that no white space begins with stays
clean_two : (a b : ℕ) (x : List ℕ) → eqb a 37 ≡ false → eqb b 37 ≡ false → white_step white a ≡ text.other → white_step white b ≡ text.other
    → clean (a ∷ (b ∷ x)) ≡ a ∷ (b ∷ trim (cut x))
unfolding clean cut
clean_two a b x pa pb wa wb =
    ap trim ((λ i. cond (pa i) [] (a ∷ cond (eqb b 37) [] (b ∷ cut x))) ∙ (λ i. a ∷ cond (pb i) [] (b ∷ cut x)))
    ∙ trim_keep a (b ∷ cut x) wa
    ∙ ap {B = List ℕ} (λ l. a ∷ l) (trim_keep b (cut x) wb)

-- a cut and trimmed line begins as the line does
cut_begins : (a b : ℕ) (l : List ℕ) → begins a b (cut l) ≡ true → begins a b l ≡ true
unfolding cut
cut_begins a b [] h = h
cut_begins a b (x ∷ []) h = by_test (eqb x 37) (λ e. absurd (false≢true (rw (e, cut) at h))) (λ e. absurd (false≢true (rw (e, cut) at h)))
cut_begins a b (x ∷ (y ∷ l)) h =
    by_test (eqb x 37) (λ e. absurd (false≢true (rw (e, cut) at h)))
    (λ e. by_test (eqb y 37) (λ f. absurd (false≢true (rw (e, f, cut) at h))) (λ f. rw (e, f, cut) at h))

trim_begins : (a b : ℕ) (l : List ℕ) → begins a b (trim l) ≡ true → begins a b l ≡ true
unfolding trim
trim_begins a b [] h = h
trim_begins a b (x ∷ []) h =
    by_test (is_blank (x ∷ [])) (λ e. absurd (false≢true (rw (e, trim) at h))) (λ e. absurd (false≢true (rw (e, trim) at h)))
trim_begins a b (x ∷ (y ∷ l)) h =
    by_test (is_blank (x ∷ (y ∷ l))) (λ e. absurd (false≢true (rw (e, trim) at h)))
    (λ e. by_test (is_blank (y ∷ l)) (λ f. absurd (false≢true (rw (e, f, trim) at h))) (λ f. rw (e, f, trim) at h))

clean_begins : (a b : ℕ) (r : List ℕ) → begins a b (clean r) ≡ true → begins a b r ≡ true
unfolding clean
clean_begins a b r h = cut_begins a b r (trim_begins a b (cut r) h)

-- "V: lines and K: lines begin with those two characters, a lyric line with `w:`": told by the line's bytes and by the line cut and trimmed alike
both_begin : (a b : ℕ) (r : List ℕ) → eqb a 37 ≡ false → eqb b 37 ≡ false → white_step white a ≡ text.other → white_step white b ≡ text.other
    → begins a b (clean r) ≡ begins a b r
both_begin a b r pa pb wa wb = same_test (begins a b (clean r)) (begins a b r) (clean_begins a b r) line_first
  where
    line_first : begins a b r ≡ true → begins a b (clean r) ≡ true
    line_first h =
        let q : (x : List ℕ) × (r ≡ a ∷ (b ∷ x)) = begins_shape a b r h in
        ap (begins a b) (ap clean q.1 ∙ clean_two a b q.0 pa pb wa wb) ∙ and_both (eqb a a) (eqb b b) (eqb_same a) (eqb_same b)

pub clean_V : (r : List ℕ) → is_v (clean r) ≡ is_v r
unfolding white_step
clean_V r = both_begin 86 58 r refl refl refl refl

pub clean_K : (r : List ℕ) → is_k (clean r) ≡ is_k r
unfolding white_step
clean_K r = both_begin 75 58 r refl refl refl refl

pub clean_w : (r : List ℕ) → is_lyric (clean r) ≡ is_lyric r
unfolding white_step
clean_w r = both_begin 119 58 r refl refl refl refl

-- KINDS

abbrev pub is_voice : Kind → Bool
is_voice blank = false
is_voice (refused n) = false
is_voice (lyric t) = false
is_voice (voice v mid) = true
is_voice (key k) = false
is_voice (meter m) = false
is_voice (unit u) = false
is_voice tune = false
is_voice other = false
is_voice (music hi es l) = false

abbrev pub is_sung : Kind → Bool
is_sung blank = false
is_sung (refused n) = false
is_sung (lyric t) = true
is_sung (voice v mid) = false
is_sung (key k) = false
is_sung (meter m) = false
is_sung (unit u) = false
is_sung tune = false
is_sung other = false
is_sung (music hi es l) = false

-- a K: line is refused or a key; a V: line is refused or names its voice
abbrev pub Keyish : Kind → Type 0
Keyish blank = ⊥
Keyish (refused n) = Unit {0}
Keyish (lyric t) = ⊥
Keyish (voice v mid) = ⊥
Keyish (key k) = Unit {0}
Keyish (meter m) = ⊥
Keyish (unit u) = ⊥
Keyish tune = ⊥
Keyish other = ⊥
Keyish (music hi es l) = ⊥

abbrev pub Names : List ℕ → Kind → Type 0
Names w blank = ⊥
Names w (refused n) = Unit {0}
Names w (lyric t) = ⊥
Names w (voice v mid) = v ≡ w
Names w (key k) = ⊥
Names w (meter m) = ⊥
Names w (unit u) = ⊥
Names w tune = ⊥
Names w other = ⊥
Names w (music hi es l) = ⊥

peel : {C : Type 0} (f : Kind → Bool) (b : Bool) (X Y : Kind) → (b ≡ true → f X ≡ true → C) → (b ≡ false → f Y ≡ true → C) → f (cond b X Y) ≡ true → C
peel f true X Y y n h = y refl h
peel f false X Y y n h = n refl h

voice_line : (ed : Edition) (x : List ℕ) → Names (fields.identifier x) (line_kind ed (86 ∷ (58 ∷ x)))
unfolding line_kind field_kind voice_kind has_high
voice_line ed x =
    cond_both (Names (fields.identifier x)) (ltb 1048576 (length (86 ∷ (58 ∷ x)))) (refused 5) (cond (has_high (86 ∷ (58 ∷ x))) (refused 6) (voice_kind x)) tt
    (cond_both (Names (fields.identifier x)) (has_high (86 ∷ (58 ∷ x))) (refused 6) (voice_kind x) tt
    (cond_both (Names (fields.identifier x)) (is_nil (fields.identifier x)) (refused 8) (voice (fields.identifier x) (middle_word x)) tt refl))

-- a key, unless it is refused
keyish_unless : (k : Key) (o : Option ℕ) → Keyish (kind_unless k o)
unfolding kind_unless
keyish_unless k none = tt
keyish_unless k (some n) = tt

voice_unless : (k : Key) (o : Option ℕ) → is_voice (kind_unless k o) ≡ true → ⊥
unfolding kind_unless
voice_unless k none h = false≢true h
voice_unless k (some n) h = false≢true h

sung_unless : (k : Key) (o : Option ℕ) → is_sung (kind_unless k o) ≡ true → ⊥
unfolding kind_unless
sung_unless k none h = false≢true h
sung_unless k (some n) h = false≢true h

key_line : (ed : Edition) (x : List ℕ) → Keyish (line_kind ed (75 ∷ (58 ∷ x)))
unfolding line_kind field_kind key_kind has_high
key_line ed x =
    cond_both Keyish (ltb 1048576 (length (75 ∷ (58 ∷ x)))) (refused 5) (cond (has_high (75 ∷ (58 ∷ x))) (refused 6) (key_kind ed x)) tt
    (cond_both Keyish (has_high (75 ∷ (58 ∷ x))) (refused 6) (key_kind ed x) tt (keyish_unless (key_of ed x) (key_refusal ed x)))

pub voice_begins : (ed : Edition) (r : List ℕ) → is_v r ≡ true → Names (identifier r) (kind_of ed r)
unfolding kind_of line_kind field_kind voice_kind key_kind has_high white_step
voice_begins ed r h =
    let q : (x : List ℕ) × (r ≡ 86 ∷ (58 ∷ x)) = begins_shape 86 58 r h in
    let e : clean r ≡ 86 ∷ (58 ∷ trim (cut q.0)) = ap clean q.1 ∙ clean_two 86 58 q.0 refl refl refl refl in
    subst (λ (l : List ℕ). Names (fields.identifier (drop 2 l)) (line_kind ed l)) (sym e) (voice_line ed (trim (cut q.0)))

pub key_begins : (ed : Edition) (r : List ℕ) → is_k r ≡ true → Keyish (kind_of ed r)
unfolding kind_of line_kind field_kind voice_kind key_kind has_high white_step
key_begins ed r h =
    let q : (x : List ℕ) × (r ≡ 75 ∷ (58 ∷ x)) = begins_shape 75 58 r h in
    let e : clean r ≡ 75 ∷ (58 ∷ trim (cut q.0)) = ap clean q.1 ∙ clean_two 75 58 q.0 refl refl refl refl in
    subst (λ (l : List ℕ). Keyish (line_kind ed l)) (sym e) (key_line ed (trim (cut q.0)))

pub lyric_begins : (ed : Edition) (r : List ℕ) → is_lyric r ≡ true → is_music_line (kind_of ed r) ≡ false
unfolding kind_of line_kind field_kind voice_kind key_kind has_high white_step
lyric_begins ed r h =
    let q : (x : List ℕ) × (r ≡ 119 ∷ (58 ∷ x)) = begins_shape 119 58 r h in
    let e : clean r ≡ 119 ∷ (58 ∷ trim (cut q.0)) = ap clean q.1 ∙ clean_two 119 58 q.0 refl refl refl refl in
    subst (λ (l : List ℕ). is_music_line (line_kind ed l) ≡ false) (sym e) (line (trim (cut q.0)))
  where
    line : (x : List ℕ) → is_music_line (line_kind ed (119 ∷ (58 ∷ x))) ≡ false
    line x = cond_both (λ k. is_music_line k ≡ false) (ltb 1048576 (length (119 ∷ (58 ∷ x)))) (refused 5) (lyric x) refl refl

pub unit_begins : (ed : Edition) (r : List ℕ) → is_l r ≡ true → is_music_line (kind_of ed r) ≡ false
unfolding kind_of line_kind field_kind voice_kind key_kind has_high white_step
unit_begins ed r h =
    let q : (x : List ℕ) × (r ≡ 76 ∷ (58 ∷ x)) = begins_shape 76 58 r h in
    let e : clean r ≡ 76 ∷ (58 ∷ trim (cut q.0)) = ap clean q.1 ∙ clean_two 76 58 q.0 refl refl refl refl in
    subst (λ (l : List ℕ). is_music_line (line_kind ed l) ≡ false) (sym e) (line (trim (cut q.0)))
  where
    line : (x : List ℕ) → is_music_line (line_kind ed (76 ∷ (58 ∷ x))) ≡ false
    line x =
        cond_both (λ k. is_music_line k ≡ false) (ltb 1048576 (length (76 ∷ (58 ∷ x)))) (refused 5) (cond (has_high (76 ∷ (58 ∷ x))) (refused 6) (unit (unit_of x))) refl
        (cond_both (λ k. is_music_line k ≡ false) (has_high (76 ∷ (58 ∷ x))) (refused 6) (unit (unit_of x)) refl refl)

pub meter_begins : (ed : Edition) (r : List ℕ) → is_m r ≡ true → is_music_line (kind_of ed r) ≡ false
unfolding kind_of line_kind field_kind voice_kind key_kind has_high white_step
meter_begins ed r h =
    let q : (x : List ℕ) × (r ≡ 77 ∷ (58 ∷ x)) = begins_shape 77 58 r h in
    let e : clean r ≡ 77 ∷ (58 ∷ trim (cut q.0)) = ap clean q.1 ∙ clean_two 77 58 q.0 refl refl refl refl in
    subst (λ (l : List ℕ). is_music_line (line_kind ed l) ≡ false) (sym e) (line (trim (cut q.0)))
  where
    line : (x : List ℕ) → is_music_line (line_kind ed (77 ∷ (58 ∷ x))) ≡ false
    line x =
        cond_both (λ k. is_music_line k ≡ false) (ltb 1048576 (length (77 ∷ (58 ∷ x)))) (refused 5) (cond (has_high (77 ∷ (58 ∷ x))) (refused 6) (meter (meter_of x))) refl
        (cond_both (λ k. is_music_line k ≡ false) (has_high (77 ∷ (58 ∷ x))) (refused 6) (meter (meter_of x)) refl refl)

-- only a V: line is a voice, only a w: line is sung
voice_field : (ed : Edition) (l : List ℕ) → is_voice (field_kind ed l) ≡ true → is_v l ≡ true
unfolding field_kind voice_kind key_kind
voice_field ed l =
    peel is_voice (is_v l) _ _ (λ e h. e)
    (λ e.
    peel is_voice (is_k l) _ _
    (λ e₁. peel is_voice (has_high l) _ _ (λ e₂ h. absurd (false≢true h)) (λ e₂ h. absurd (voice_unless (key_of ed (drop 2 l)) (key_refusal ed (drop 2 l)) h)))
    (λ e₁.
    peel is_voice (is_l l) _ _ (λ e₂. peel is_voice (has_high l) _ _ (λ e₃ h. absurd (false≢true h)) (λ e₃ h. absurd (false≢true h)))
    (λ e₂.
    peel is_voice (is_m l) _ _ (λ e₃. peel is_voice (has_high l) _ _ (λ e₄ h. absurd (false≢true h)) (λ e₄ h. absurd (false≢true h)))
    (λ e₃. peel is_voice (is_x l) _ _ (λ e₄ h. absurd (false≢true h)) (λ e₄ h. absurd (false≢true h))))))

pub voice_only : (ed : Edition) (r : List ℕ) → is_voice (kind_of ed r) ≡ true → is_v r ≡ true
unfolding kind_of line_kind
voice_only ed r h =
    clean_begins 86 58 r
    (peel is_voice (is_nil (clean r)) _ _ (λ e k. absurd (false≢true k))
    (λ e.
    peel is_voice (ltb 1048576 (length (clean r))) _ _ (λ e₁ k. absurd (false≢true k))
    (λ e₁.
    peel is_voice (is_lyric (clean r)) _ _ (λ e₂ k. absurd (false≢true k))
    (λ e₂. peel is_voice (is_field (clean r)) _ _ (λ e₃ k. voice_field ed (clean r) k) (λ e₃ k. absurd (false≢true k)))))
    h)

sung_field : (ed : Edition) (l : List ℕ) → is_sung (field_kind ed l) ≡ true → ⊥
unfolding field_kind voice_kind key_kind
sung_field ed l =
    peel is_sung (is_v l) _ _
    (λ e. peel is_sung (has_high l) _ _ (λ e₁ h. false≢true h) (λ e₁. peel is_sung (is_nil (fields.identifier (drop 2 l))) _ _ (λ e₂ h. false≢true h) (λ e₂ h. false≢true h)))
    (λ e.
    peel is_sung (is_k l) _ _
    (λ e₁. peel is_sung (has_high l) _ _ (λ e₂ h. false≢true h) (λ e₂ h. sung_unless (key_of ed (drop 2 l)) (key_refusal ed (drop 2 l)) h))
    (λ e₁.
    peel is_sung (is_l l) _ _ (λ e₂. peel is_sung (has_high l) _ _ (λ e₃ h. false≢true h) (λ e₃ h. false≢true h))
    (λ e₂.
    peel is_sung (is_m l) _ _ (λ e₃. peel is_sung (has_high l) _ _ (λ e₄ h. false≢true h) (λ e₄ h. false≢true h))
    (λ e₃. peel is_sung (is_x l) _ _ (λ e₄ h. false≢true h) (λ e₄ h. false≢true h)))))

pub sung_only : (ed : Edition) (r : List ℕ) → is_sung (kind_of ed r) ≡ true → is_lyric r ≡ true
unfolding kind_of line_kind
sung_only ed r h =
    clean_begins 119 58 r
    (peel is_sung (is_nil (clean r)) _ _ (λ e k. absurd (false≢true k))
    (λ e.
    peel is_sung (ltb 1048576 (length (clean r))) _ _ (λ e₁ k. absurd (false≢true k))
    (λ e₁.
    peel is_sung (is_lyric (clean r)) _ _ (λ e₂ k. e₂)
    (λ e₂. peel is_sung (is_field (clean r)) _ _ (λ e₃ k. absurd (sung_field ed (clean r) k)) (λ e₃ k. absurd (false≢true k)))))
    h)
