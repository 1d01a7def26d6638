-- What a V line comes to, from what its steps write.
use Prim.Native.Nat.{ℕ, ◌+◌, ◌-◌, ◌*◌, ◌^◌, ◌≤◌, ◌<◌}
use mathlib.Core.Path.{◌≡◌, refl, sym, ap, subst, ◌∙◌}
use mathlib.Core.Bool.{Bool, true, false}
use mathlib.Core.List.{List, [], ◌∷◌, ◌++◌, append_assoc}
use native.Mathlib.Omega.{arith}
use lib.Dec.{leb}
use lib.ListN.{length, take, drop}
use borrow.Author.Tests.{le-leb, lt-leb}
use Rattle.std.specs.Prelude.{Option, Ok, Err, Some, None}
use Rattle.laws.specs.Lists.{elem, index_of}
use Rattle.laws.specs.Bytes.{between, splice, le32}
use Rattle.laws.proofs.Bools.{by_test}
use Rattle.laws.proofs.Lists.{index_lt, index_none}
use Rattle.laws.proofs.Parts.{part_cut, between_none}
use Rattle.laws.proofs.Splices.{length_splice}
use Rattle.reader.specs.Lines.{voice}
use Rattle.reader.specs.Steps.{on, first}
use Rattle.reader.specs.Scan.{Item, Items, voice_declared, reset, with_unnamed, voices_before, voice_on, act}
use Rattle.refusals.specs.declared.Refusal.TheVariants as Refusal
use Rattle.scan_table.specs.declared.Row.{Row}
use Rattle.scan_table.specs.Rows.{voice_row_width, item_row_width, row_from, voices_in, FoundVoice, item_in, items_in, enc_item}
use Rattle.scan_table.proofs.Rows.{length_voice, length_voices, voices_none, voices_push, voices_below, items_push, items_above}
use Rattle.scan_states.specs.declared.State.{State}
use Rattle.scan_states.specs.States.{state_with, state_in, out_in, refused_in, Stepped}
use Rattle.scan_voices.specs.Voices.{moved_to, Unnamed, Moved}

-- THE UNNAMED VOICE
some_voices : (o : Bool) (vs : List (List ℕ)) → 0 < length vs → with_unnamed o vs ≡ vs
unfolding with_unnamed
some_voices o [] h = absurd (omega arith)
some_voices o (v ∷ vs) h = refl

module _ (text s : List ℕ) (st : State) where
  -- no voice, and no music yet
  pub unnamed_none : st.voices ≡ 0 → st.opened ≡ false → Unnamed text s st s st.voices
  unfolding with_unnamed
  unnamed_none e o =
      let none : voices_in text s st.voices ≡ [] = ap (voices_in text s) e ∙ voices_none text s in
      record { voices = none ∙ sym (λ i. with_unnamed (o i) (none i)); items = refl; low = omega arith; high = omega arith }

  pub unnamed_some : st.voices ≤ 32 → (st.voices ≡ 0 → ⊥) → Unnamed text s st s st.voices
  unnamed_some h e =
      let p : 0 < length (voices_in text s st.voices) = rw length_voices (omega arith) in
      record { voices = sym (some_voices st.opened (voices_in text s st.voices) p); items = refl; low = omega arith; high = h }

  pub unnamed_one : (s' : List ℕ) → s' ≡ splice s (voice_row_width * 0) (le32 0 ++ le32 0) → st.voices ≡ 0 → st.opened ≡ true → voice_row_width ≤ length s → Unnamed text s st s' 1
  unfolding with_unnamed
  unnamed_one s' w e o room =
      record {
        voices = ap (λ (l : List ℕ). voices_in text l 1) w ∙ voices_push text s 0 0 0 (omega arith) (omega arith) (omega arith)
            ∙ (λ i. voices_none text s i ++ (between_none text 0 0 (omega arith) i ∷ []))
            ∙ sym (ap (λ (n : ℕ). with_unnamed st.opened (voices_in text s n)) e ∙ (λ i. with_unnamed (o i) (voices_none text s i)));
        items = ap (λ (l : List ℕ). items_in text l st.items) w ∙ items_above text s st.items (voice_row_width * 0) (le32 0 ++ le32 0) (rw length_voice (omega arith));
        low = omega arith;
        high = omega arith;
      }

-- A NEW VOICE: its row, then two items: it is declared, and a reset
pub new_voice : (text s s₂ s₃ : List ℕ) (n m a b : ℕ) (row : Row) (h : Bool) → s₂ ≡ splice s (voice_row_width * n) (le32 a ++ le32 b) → s₃ ≡ splice s₂ (row_from m) (enc_item row)
    → n < 32 → a < 2 ^ 32 → b < 2 ^ 32 → row.at < 2 ^ 32 → row.end < 2 ^ 32 → row.unit < 2 ^ 32 → item_in text row ≡ (n, voice_declared h) → row_from m + item_row_width ≤ length s → (t : State) (x : ℕ × Item)
    → x ≡ (n, reset)
    → on (state_with (voices_in text s₃ (n + 1)) t) (items_in text s₃ (m + 1) ++ (x ∷ []))
    ≡ on (state_with (voices_in text s n ++ (between text a b ∷ [])) t) (items_in text s m ++ ((n, voice_declared h) ∷ ((n, reset) ∷ [])))
new_voice text s s₂ s₃ n m a b row h e₂ e₃ nh ah bh rh re ru ri room t x ex =
    let l : length s₂ ≡ length s = ap length e₂ ∙ length_splice s (voice_row_width * n) (le32 a ++ le32 b) in
    let vs : voices_in text s₃ (n + 1) ≡ voices_in text s n ++ (between text a b ∷ []) =
    ap (λ (z : List ℕ). voices_in text z (n + 1)) e₃ ∙ voices_below text s₂ (n + 1) (row_from m) (enc_item row) (omega arith)
    ∙ ap (λ (z : List ℕ). voices_in text z (n + 1)) e₂ ∙ voices_push text s n a b ah bh (omega arith) in
    let was : items_in text s₂ m ≡ items_in text s m =
    ap (λ (z : List ℕ). items_in text z m) e₂ ∙ items_above text s m (voice_row_width * n) (le32 a ++ le32 b) (rw length_voice (omega arith)) in
    let is : items_in text s₃ (m + 1) ≡ items_in text s m ++ ((n, voice_declared h) ∷ []) =
    ap (λ (z : List ℕ). items_in text z (m + 1)) e₃ ∙ items_push text s₂ m row rh re ru (omega arith) ∙ (λ i. was i ++ (ri i ∷ [])) in
    (λ i. on (state_with (vs i) t) (is i ++ (ex i ∷ []))) ∙ ap (λ (z : Items). on (state_with (voices_in text s n ++ (between text a b ∷ [])) t) z) (append_assoc (items_in text s m) ((n, voice_declared h) ∷ []) ((n, reset) ∷ []))

-- WHICH CASE OF A V LINE it is
-- the identifier as it was lent
pub lent_found : (text : List ℕ) (a b : ℕ) (vs : List (List ℕ)) (r q : Option ℕ) → r ≡ q → FoundVoice (take (b - a) (drop a text)) vs r → FoundVoice (between text a b) vs q
lent_found text a b vs r q e f = subst (FoundVoice (between text a b) vs) e (subst (λ (v : List ℕ). FoundVoice v vs r) (part_cut text a (b - a)) f)

has_below : (v : List ℕ) (vs : List (List ℕ)) → index_of v vs < length vs → elem v vs ≡ true
has_below v vs h = by_test (elem v vs) (λ e. e) (λ e. absurd (no (index_none v vs e)))
  where
    no : index_of v vs ≡ length vs → ⊥
    no e = omega arith

has_past : (v : List ℕ) (vs : List (List ℕ)) → length vs ≤ index_of v vs → elem v vs ≡ false
has_past v vs h = by_test (elem v vs) (λ e. absurd (no (index_lt v vs e))) (λ e. e)
  where
    no : index_of v vs < length vs → ⊥
    no e = omega arith

module _ (text s : List ℕ) (st : State) (s₁ : List ℕ) (n : ℕ) (u : Unnamed text s st s₁ n) (v : List ℕ) where
  abbrev vs : List (List ℕ)
  vs = voices_in text s₁ n

  -- the V line among the n voices
  line : (known full mid : Bool) → elem v vs ≡ known → leb 32 (length vs) ≡ full → act (state_in text s st) (voice v mid) st.in_header ≡ voice_on (state_in text s st) v vs known full mid
  unfolding act voices_before
  line known full mid k g = ap (λ (ws : List (List ℕ)). voice_on (state_in text s st) v ws (elem v ws) (leb 32 (length ws)) mid) (sym u.voices) ∙ (λ j. voice_on (state_in text s st) v vs (k j) (g j) mid)

  is_known : (i : ℕ) → FoundVoice v vs (Some i) → elem v vs ≡ true
  is_known i f = has_below v vs (omega (arith, f.0, f.1))

  is_new : FoundVoice v vs None → elem v vs ≡ false
  is_new f = has_past v vs (omega (arith, f))

  is_full : 32 ≤ n → leb 32 (length vs) ≡ true
  is_full h = rw length_voices (le-leb 32 n h)

  not_full : n < 32 → leb 32 (length vs) ≡ false
  not_full h = rw length_voices (lt-leb 32 n h)

  -- refusals 10 and 9
  pub known_middle : (i : ℕ) → FoundVoice v vs (Some i) → (s₂ : List ℕ) → Stepped text s st (act (state_in text s st) (voice v true) st.in_header) s₂ (Err (refused_in st Refusal.Middle))
  unfolding voice_on
  known_middle i f s₂ = record { is = sym (ap (first (items_in text s st.items)) (line true _ true (is_known i f) refl)); follows = tt }

  pub too_many : (mid : Bool) → FoundVoice v vs None → 32 ≤ n → (s₂ : List ℕ) → Stepped text s st (act (state_in text s st) (voice v mid) st.in_header) s₂ (Err (refused_in st Refusal.TooManyVoices))
  unfolding voice_on
  too_many mid h k s₂ = record { is = sym (ap (first (items_in text s st.items)) (line false true mid (is_new h) (is_full k))); follows = tt }

  pub new_middle : FoundVoice v vs None → n < 32 → (s₂ : List ℕ) → Stepped text s st (act (state_in text s st) (voice v true) st.in_header) s₂ (Err (refused_in st Refusal.Middle))
  unfolding voice_on
  new_middle h k s₂ = record { is = sym (ap (first (items_in text s st.items)) (line false false true (is_new h) (not_full k))); follows = tt }

  -- a voice that is known
  pub on_known : (i : ℕ) → FoundVoice v vs (Some i) → (s₂ : List ℕ) (r : State) → Moved st n i (st.items + 1) r
      → out_in text s₂ (Ok r) ≡ on (state_with vs (moved_to st i)) (items_in text s₁ st.items ++ ((i, reset) ∷ []))
      → Stepped text s st (act (state_in text s st) (voice v false) st.in_header) s₂ (Ok r)
  unfolding voice_on
  on_known i f s₂ r m e =
      record {
        is = e ∙ (λ j. on (state_with vs (moved_to st (f.1 j))) (u.items j ++ ((f.1 j, reset) ∷ []))) ∙ sym (ap (first (items_in text s st.items)) (line true _ false (is_known i f) refl));
        follows = (m.lines, (omega (arith, m.voices, u.high), (omega (arith, m.part, u.high, f.0, length_voices text s₁ n), omega (arith, m.items, m.voices, u.low))));
      }

  -- a voice that is new
  pub on_new : FoundVoice v vs None → n < 32 → (s₂ : List ℕ) (r : State) → Moved st (n + 1) n (st.items + 2) r
      → out_in text s₂ (Ok r) ≡ on (state_with (vs ++ (v ∷ [])) (moved_to st n)) (items_in text s₁ st.items ++ ((n, voice_declared st.in_header) ∷ ((n, reset) ∷ [])))
      → Stepped text s st (act (state_in text s st) (voice v false) st.in_header) s₂ (Ok r)
  unfolding voice_on
  on_new h k s₂ r m e =
      let c : n ≡ length vs = sym (length_voices text s₁ n) in
      record {
        is = e
            ∙ (λ j. on (state_with (vs ++ (v ∷ [])) (moved_to st (c j))) (u.items j ++ ((c j, voice_declared st.in_header) ∷ ((c j, reset) ∷ []))))
            ∙ sym (ap (first (items_in text s st.items)) (line false false false (is_new h) (not_full k)));
        follows = (m.lines, (omega (arith, m.voices), (omega (arith, m.part), omega (arith, m.items, m.voices, u.low))));
      }
