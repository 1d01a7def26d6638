-- WHAT THE SCAN DOES WITH ONE LINE: all that the frame asks of it, by the line's kind. Assumes nothing.
use Prim.Native.Nat.{ℕ, suc, ◌+◌, ◌≤◌, ◌<◌, max}
use mathlib.Core.Path.{◌≡◌, refl, sym, ap, subst, ◌∙◌}
use mathlib.Core.Bool.{Bool, true, false, cond, ◌||◌, true≢false, false≢true}
use mathlib.Core.Option.{Option, none, some}
use mathlib.Core.List.{List, [], ◌∷◌, ◌++◌}
use native.Mathlib.Omega.{arith}
use lib.Dec.{eqb, leb, ltb}
use lib.ListN.{length}
use borrow.Author.Tests.{eqb-true, ltb-true, lt-ltb}
use Rattle.laws.specs.Lists.{All, elem, index_of}
use Rattle.laws.proofs.Bools.{by_test, never_true, some≢none}
use Rattle.laws.proofs.Lists.{elem_left, has_last}
use Rattle.standard.specs.Fields.{Meter}
use Rattle.editions.specs.declared.Edition.{Edition}
use Rattle.reader.specs.Tokens.{Effect, counts, refuses, sets_unit, sets_meter, no_effect}
use Rattle.reader.specs.Lines.{is_v, is_lyric, Kind, blank, refused, lyric, voice, key, meter, unit, tune, other, music, kind_of}
use Rattle.reader.specs.Steps.{TextLine, refuse, on, tag, items_of}
use Rattle.reader.specs.Scan.{Item, voice_declared, reset, key_in_header, key_change, meter_change, lyric_line, music_line, ScanState, most_notes, most_lines, most_voices, note_count, last_unit, last_meter, first_refusal, further, at, next_line, with_unnamed, voices_before, with_voices, Items, Out, play_on, voice_on, act, step}
use Rattle.reader.specs.Answer.{is_music}
use Rattle.blocks.specs.Kinds.{is_music_line, unit_after, meter_after}
use Rattle.blocks.specs.Frame.{GoesThrough}
use Rattle.blocks.proofs.LineKinds.{is_voice, is_sung, Keyish, Names, lyric_begins, voice_only}
use Rattle.blocks.proofs.Instance.{scanning, Clear, kind_cost, kind_fine, kind_items, reader}

-- an answer is not none
-- THE EFFECTS OF A MUSIC LINE
none_within : (n : ℕ) (es : List Effect) → first_refusal n es ≡ none → n ≤ most_notes → Clear es × (n + note_count es ≤ most_notes)
unfolding scanning
none_within n [] h l = (tt, omega arith)
none_within n (counts ∷ es) h l =
    let rest : first_refusal (suc n) es ≡ none → suc n ≤ most_notes → Clear es × (suc n + note_count es ≤ most_notes) = none_within (suc n) es in
    by_test
    (ltb n most_notes)
    (λ e.
    let q : Clear es × (suc n + note_count es ≤ most_notes) = rest (sym (ap (λ (b : Bool). cond b (first_refusal (suc n) es) (some 11)) e) ∙ h) (ltb-true n most_notes e) in
    (q.0, omega (arith, q.1)))
    (λ e. absurd (some≢none 11 (sym (ap (λ (b : Bool). cond b (first_refusal (suc n) es) (some 11)) e) ∙ h)))
none_within n (refuses k ∷ es) h l = absurd (some≢none k h)
none_within n (sets_unit v ∷ es) h l = none_within n es h l
none_within n (sets_meter m ∷ es) h l = none_within n es h l
none_within n (no_effect ∷ es) h l = none_within n es h l

clear_none : (n : ℕ) (es : List Effect) → Clear es → n + note_count es ≤ most_notes → first_refusal n es ≡ none
unfolding scanning
clear_none n [] c l = refl
clear_none n (counts ∷ es) c l =
    ap (λ (b : Bool). cond b (first_refusal (suc n) es) (some 11)) (lt-ltb n most_notes (omega arith)) ∙ clear_none (suc n) es c (omega arith)
clear_none n (refuses k ∷ es) c l = absurd c
clear_none n (sets_unit v ∷ es) c l = clear_none n es c l
clear_none n (sets_meter m ∷ es) c l = clear_none n es c l
clear_none n (no_effect ∷ es) c l = clear_none n es c l

none_clear : (n : ℕ) (es : List Effect) → first_refusal n es ≡ none → Clear es
unfolding scanning
none_clear n [] h = tt
none_clear n (counts ∷ es) h =
    let rest : first_refusal (suc n) es ≡ none → Clear es = none_clear (suc n) es in
    by_test
    (ltb n most_notes)
    (λ e. rest (sym (ap (λ (b : Bool). cond b (first_refusal (suc n) es) (some 11)) e) ∙ h))
    (λ e. absurd (some≢none 11 (sym (ap (λ (b : Bool). cond b (first_refusal (suc n) es) (some 11)) e) ∙ h)))
none_clear n (refuses k ∷ es) h = absurd (some≢none k h)
none_clear n (sets_unit v ∷ es) h = none_clear n es h
none_clear n (sets_meter m ∷ es) h = none_clear n es h
none_clear n (no_effect ∷ es) h = none_clear n es h

-- NAMES

known_elem : (o : Bool) (v : List ℕ) (is : List (List ℕ)) → elem v is ≡ true → elem v (with_unnamed o is) ≡ true
unfolding scanning
known_elem o v [] h = absurd (false≢true h)
known_elem o v (i ∷ is) h = h

known_same : (o : Bool) (v : List ℕ) (is : List (List ℕ)) → elem v is ≡ true → with_unnamed o is ≡ is
unfolding scanning
known_same o v [] h = absurd (false≢true h)
known_same o v (i ∷ is) h = refl

-- WHAT A LINE DOES, ALL AT ONCE

pub record Facts (s : ScanState) (k : Kind) (h : Bool) (t : ScanState) : Type 0 where
  pub line : t.lines ≡ suc s.lines
  pub counted : h ≡ false → t.notes ≡ s.notes + kind_cost k
  pub stays_within : s.notes ≤ most_notes → t.notes ≤ most_notes
  pub body_K : Keyish k → t.env.in_header ≡ false
  pub body : s.env.in_header ≡ false → t.env.in_header ≡ false
  pub names : (v : List ℕ) → Names v k → elem v t.env.voices ≡ true
  pub keeps : (v : List ℕ) → elem v s.env.voices ≡ true → elem v t.env.voices ≡ true
  pub stays : h ≡ false → is_voice k ≡ false → t.part ≡ s.part
  pub verse_place_stays : s.places ≤ t.places
  pub verse_place : h ≡ false → is_music_line k ≡ true → s.part < t.places
  pub fine : h ≡ false → kind_fine k
  pub units : h ≡ false → t.unit ≡ unit_after k s.unit
  pub meters : h ≡ false → t.meter ≡ meter_after k s.meter

-- a line that changes nothing but L and M
calm : (s : ScanState) (k : Kind) (h : Bool) (u : ℕ) (m : Meter) → kind_cost k ≡ 0 → is_music_line k ≡ false → (Keyish k → s.env.in_header ≡ false) → ((v : List ℕ) → Names v k → ⊥)
    → (h ≡ false → kind_fine k) → u ≡ unit_after k s.unit → m ≡ meter_after k s.meter → Facts s k h (further s s.env u m s.part)
calm s k h u m c p hk nm f hu hm =
    record {
      line = refl;
      counted = λ x. omega (arith, c);
      stays_within = λ x. x;
      body_K = hk;
      body = λ x. x;
      names = λ v x. absurd (nm v x);
      keeps = λ v x. x;
      stays = λ x y. refl;
      verse_place_stays = omega arith;
      verse_place = λ x y. absurd (false≢true (sym p ∙ y));
      fine = f;
      units = λ x. hu;
      meters = λ x. hm;
    }

on_state : (t u : ScanState) (a b : Items) → ◌≡◌ {A = Out} (on t a) (on u b) → t ≡ u
on_state t u a b h = cc

refuse_on : (n l : ℕ) (t : ScanState) (a : Items) → ◌≡◌ {A = Out} (refuse n l) (on t a) → ⊥
refuse_on n l t a h = let z : ◌≡◌ {A = ℕ} 0 1 = cc in omega arith

voice_facts : (s : ScanState) (v : List ℕ) (h : Bool) (mid full known : Bool) → elem v (voices_before s) ≡ known → (t : ScanState) (a : Items) →
    voice_on s v (voices_before s) known full mid ≡ on t a → Facts s (voice v mid) h t
unfolding scanning
voice_facts s v h true full true hk t a e = absurd (refuse_on 10 (suc s.lines) t a e)
voice_facts s v h false full true hk t a e =
    subst (Facts s (voice v false) h) (on_state _ t _ a e)
    (record {
      line = refl;
      counted = λ x. omega arith;
      stays_within = λ x. x;
      body_K = λ x. absurd x;
      body = λ x. x;
      names = λ w x. subst (λ (y : List ℕ). elem y (voices_before s) ≡ true) x hk;
      keeps = λ w x. known_elem s.opened w s.env.voices x;
      stays = λ x y. absurd (true≢false y);
      verse_place_stays = omega arith;
      verse_place = λ x y. absurd (false≢true y);
      fine = λ x. refl;
      units = λ x. refl;
      meters = λ x. refl;
    })
voice_facts s v h mid true false hk t a e = absurd (refuse_on 9 (suc s.lines) t a e)
voice_facts s v h true false false hk t a e = absurd (refuse_on 10 (suc s.lines) t a e)
voice_facts s v h false false false hk t a e =
    subst (Facts s (voice v false) h) (on_state _ t _ a e)
    (record {
      line = refl;
      counted = λ x. omega arith;
      stays_within = λ x. x;
      body_K = λ x. absurd x;
      body = λ x. x;
      names = λ w x. subst (λ (y : List ℕ). elem y (voices_before s ++ (v ∷ [])) ≡ true) x (has_last v (voices_before s));
      keeps = λ w x. elem_left w (voices_before s) (v ∷ []) (known_elem s.opened w s.env.voices x);
      stays = λ x y. absurd (true≢false y);
      verse_place_stays = omega arith;
      verse_place = λ x y. absurd (false≢true y);
      fine = λ x. refl;
      units = λ x. refl;
      meters = λ x. refl;
    })

play_facts : (s : ScanState) (es : List Effect) (l : List ℕ) (o : Option ℕ) → first_refusal s.notes es ≡ o → (t : ScanState) (a : Items) →
    play_on s es l o ≡ on t a → Facts s (music false es l) false t
unfolding scanning
play_facts s es l (some k) eo t a e = absurd (refuse_on k (suc s.lines) t a e)
play_facts s es l none eo t a e =
    subst (Facts s (music false es l) false) (on_state _ t _ a e)
    (record {
      line = refl;
      counted = λ x. refl;
      stays_within = λ x. (none_within s.notes es eo x).1;
      body_K = λ x. absurd x;
      body = λ x. x;
      names = λ w x. absurd x;
      keeps = λ w x. x;
      stays = λ x y. refl;
      verse_place_stays = omega arith;
      verse_place = λ x y. omega arith;
      fine = λ x. (refl, none_clear s.notes es eo);
      units = λ x. refl;
      meters = λ x. refl;
    })

act_facts : (s : ScanState) (k : Kind) (h : Bool) → s.env.in_header ≡ h → (t : ScanState) (a : Items) → act s k h ≡ on t a → Facts s k h t
unfolding scanning
act_facts s blank h eh t a e = subst (Facts s blank h) (on_state _ t _ a e) (calm s blank h s.unit s.meter refl refl (λ x. absurd x) (λ v x. x) (λ x. tt) refl refl)
act_facts s (refused n) h eh t a e = absurd (refuse_on n (suc s.lines) t a e)
act_facts s (lyric w) true eh t a e = subst (Facts s (lyric w) true) (on_state _ t _ a e) (calm s (lyric w) true s.unit s.meter refl refl (λ x. absurd x) (λ v x. x) (λ x. tt) refl refl)
act_facts s (lyric w) false eh t a e = subst (Facts s (lyric w) false) (on_state _ t _ a e) (calm s (lyric w) false s.unit s.meter refl refl (λ x. absurd x) (λ v x. x) (λ x. tt) refl refl)
act_facts s (voice v mid) h eh t a e = voice_facts s v h mid (leb most_voices (length (voices_before s))) (elem v (voices_before s)) refl t a e
act_facts s (key w) true eh t a e =
    subst (Facts s (key w) true) (on_state _ t _ a e)
    (record {
      line = refl;
      counted = λ x. omega arith;
      stays_within = λ x. x;
      body_K = λ x. refl;
      body = λ x. refl;
      names = λ v x. absurd x;
      keeps = λ v x. x;
      stays = λ x y. refl;
      verse_place_stays = omega arith;
      verse_place = λ x y. absurd (false≢true y);
      fine = λ x. tt;
      units = λ x. refl;
      meters = λ x. refl;
    })
act_facts s (key w) false eh t a e = subst (Facts s (key w) false) (on_state _ t _ a e) (calm s (key w) false s.unit s.meter refl refl (λ x. eh) (λ v x. x) (λ x. tt) refl refl)
act_facts s (meter m) true eh t a e = subst (Facts s (meter m) true) (on_state _ t _ a e) (calm s (meter m) true s.unit m refl refl (λ x. absurd x) (λ v x. x) (λ x. tt) refl refl)
act_facts s (meter m) false eh t a e = subst (Facts s (meter m) false) (on_state _ t _ a e) (calm s (meter m) false s.unit m refl refl (λ x. absurd x) (λ v x. x) (λ x. tt) refl refl)
act_facts s (unit none) h eh t a e = subst (Facts s (unit none) h) (on_state _ t _ a e) (calm s (unit none) h s.unit s.meter refl refl (λ x. absurd x) (λ v x. x) (λ x. tt) refl refl)
act_facts s (unit (some u)) h eh t a e = subst (Facts s (unit (some u)) h) (on_state _ t _ a e) (calm s (unit (some u)) h u s.meter refl refl (λ x. absurd x) (λ v x. x) (λ x. tt) refl refl)
act_facts s tune true eh t a e =
    subst (Facts s tune true) (on_state _ t _ a e)
    (record {
      line = refl;
      counted = λ x. omega arith;
      stays_within = λ x. x;
      body_K = λ x. absurd x;
      body = λ x. x;
      names = λ v x. absurd x;
      keeps = λ v x. x;
      stays = λ x y. absurd (true≢false x);
      verse_place_stays = omega arith;
      verse_place = λ x y. absurd (false≢true y);
      fine = λ x. absurd (true≢false x);
      units = λ x. refl;
      meters = λ x. refl;
    })
act_facts s tune false eh t a e = absurd (refuse_on 7 (suc s.lines) t a e)
act_facts s other h eh t a e = subst (Facts s other h) (on_state _ t _ a e) (calm s other h s.unit s.meter refl refl (λ x. absurd x) (λ v x. x) (λ x. tt) refl refl)
act_facts s (music hi es l) true eh t a e =
    subst (Facts s (music hi es l) true) (on_state _ t _ a e)
    (record {
      line = refl;
      counted = λ x. absurd (true≢false x);
      stays_within = λ x. x;
      body_K = λ x. absurd x;
      body = λ x. x;
      names = λ v x. absurd x;
      keeps = λ v x. x;
      stays = λ x y. refl;
      verse_place_stays = omega arith;
      verse_place = λ x y. absurd (true≢false x);
      fine = λ x. absurd (true≢false x);
      units = λ x. absurd (true≢false x);
      meters = λ x. absurd (true≢false x);
    })
act_facts s (music true es l) false eh t a e = absurd (refuse_on 6 (suc s.lines) t a e)
act_facts s (music false es l) false eh t a e = play_facts s es l (first_refusal s.notes es) refl t a e

-- A LINE OF A BLOCK GOES THROUGH

abbrev pub Through : ScanState → Kind → ℕ → Type 0
Through s k p =
    (t : ScanState) × (act s k false ≡ on t (tag p (kind_items s.unit s.meter (ltb p s.places) k))) × (t.env ≡ s.env) × (t.part ≡ p) ×
    (t.unit ≡ unit_after k s.unit) × (t.meter ≡ meter_after k s.meter)

pub through : (s : ScanState) (k : Kind) → is_voice k ≡ false → kind_fine k → s.notes + kind_cost k ≤ most_notes → Through s k s.part
unfolding scanning
through s blank v f n = (next_line s, refl, refl, refl, refl, refl)
through s (refused k) v f n = absurd f
through s (lyric w) v f n = (next_line s, refl, refl, refl, refl, refl)
through s (voice w mid) v f n = absurd (true≢false v)
through s (key w) v f n = (next_line s, refl, refl, refl, refl, refl)
through s (meter m) v f n = (further s s.env s.unit m s.part, refl, refl, refl, refl, refl)
through s (unit none) v f n = (next_line s, refl, refl, refl, refl, refl)
through s (unit (some u)) v f n = (further s s.env u s.meter s.part, refl, refl, refl, refl, refl)
through s tune v f n = absurd f
through s other v f n = (next_line s, refl, refl, refl, refl, refl)
through s (music true es l) v f n = absurd (true≢false f.0)
through s (music false es l) v f n = (
  record { env = s.env; unit = last_unit es s.unit; meter = last_meter es s.meter; part = s.part; notes = s.notes + note_count es; lines = suc s.lines; places = max s.places (suc s.part); opened = s.opened || eqb s.part 0 },
  ap (play_on s es l) (clear_none s.notes es f.1 n),
  refl,
  refl,
  refl,
  refl,
)

-- a V: line of a voice that is named
named_on : (s : ScanState) (v : List ℕ) (is : List (List ℕ)) (full : Bool) → voices_before s ≡ is → s.env.voices ≡ is → elem v is ≡ true →
    (t : ScanState) × (voice_on s v (voices_before s) (elem v (voices_before s)) full false ≡ on t (tag (index_of v is) (reset ∷ []))) × (t.env ≡ s.env) × (t.part ≡ index_of v is) × (t.unit ≡ s.unit) × (t.meter ≡ s.meter)
unfolding scanning
named_on s v is full eh ei hv = (
  at s (with_voices s.env is) (index_of v is),
  (λ i. voice_on s v (eh i) (elem v (eh i)) full false) ∙ ap (λ (b : Bool). voice_on s v is b full false) hv,
  (λ i. with_voices s.env (sym ei i)),
  refl,
  refl,
  refl,
)

pub through_V : (s : ScanState) (k : Kind) (w : List ℕ) → Names w k → elem w s.env.voices ≡ true → kind_fine k → Through s k (index_of w s.env.voices)
unfolding scanning
through_V s blank w nm hw f = absurd nm
through_V s (refused n) w nm hw f = absurd f
through_V s (lyric t) w nm hw f = absurd nm
through_V s (voice v true) w nm hw f = absurd (true≢false f)
through_V s (voice v false) w nm hw f =
    subst
    (λ (x : List ℕ). Through s (voice v false) (index_of x s.env.voices))
    nm
    (named_on s v s.env.voices (leb most_voices (length (voices_before s))) (known_same s.opened v s.env.voices hv) refl hv)
  where
    hv : elem v s.env.voices ≡ true
    hv = subst (λ (x : List ℕ). elem x s.env.voices ≡ true) (sym nm) hw
through_V s (key x) w nm hw f = absurd nm
through_V s (meter m) w nm hw f = absurd nm
through_V s (unit u) w nm hw f = absurd nm
through_V s tune w nm hw f = absurd nm
through_V s other w nm hw f = absurd nm
through_V s (music hi es l) w nm hw f = absurd nm

-- a V: line is no music
pub names_played : (w : List ℕ) (k : Kind) → Names w k → is_music_line k ≡ true → ⊥
names_played w blank nm h = nm
names_played w (refused n) nm h = false≢true h
names_played w (lyric t) nm h = nm
names_played w (voice v mid) nm h = false≢true h
names_played w (key x) nm h = nm
names_played w (meter m) nm h = nm
names_played w (unit u) nm h = nm
names_played w tune nm h = nm
names_played w other nm h = nm
names_played w (music hi es l) nm h = nm

-- WHAT A LINE GIVES

-- only a lyric line tells whether there is a place for verses
pub told_kind : (u : ℕ) (n : Meter) (b : Bool) (k : Kind) → is_sung k ≡ false → kind_items u n b k ≡ kind_items u n true k
told_kind u n b blank h = refl
told_kind u n b (refused k) h = refl
told_kind u n b (lyric t) h = absurd (true≢false h)
told_kind u n b (voice v mid) h = refl
told_kind u n b (key x) h = refl
told_kind u n b (meter m) h = refl
told_kind u n b (unit x) h = refl
told_kind u n b tune h = refl
told_kind u n b other h = refl
told_kind u n b (music hi es l) h = refl

-- only a music line tells L and M
pub blind_kind : (u w : ℕ) (m n : Meter) (b : Bool) (k : Kind) → is_music_line k ≡ false → kind_items u m b k ≡ kind_items w n b k
blind_kind u w m n b blank h = refl
blind_kind u w m n b (refused k) h = refl
blind_kind u w m n b (lyric t) h = refl
blind_kind u w m n b (voice v mid) h = refl
blind_kind u w m n b (key x) h = refl
blind_kind u w m n b (meter x) h = refl
blind_kind u w m n b (unit x) h = refl
blind_kind u w m n b tune h = refl
blind_kind u w m n b other h = refl
blind_kind u w m n b (music hi es l) h = absurd (true≢false h)

-- only a music line gives a music line's item
pub no_music_kind : (u : ℕ) (n : Meter) (b : Bool) (k : Kind) → is_music_line k ≡ false → All (λ i. is_music i ≡ false) (kind_items u n b k)
unfolding is_music
no_music_kind u n b blank h = tt
no_music_kind u n b (refused k) h = tt
no_music_kind u n b (lyric t) h = (refl, tt)
no_music_kind u n b (voice v mid) h = (refl, tt)
no_music_kind u n b (key x) h = (refl, tt)
no_music_kind u n b (meter m) h = (refl, tt)
no_music_kind u n b (unit x) h = tt
no_music_kind u n b tune h = tt
no_music_kind u n b other h = tt
no_music_kind u n b (music hi es l) h = absurd (true≢false h)

-- a line that leaves part p without a place for verses gives it no music line's item
abbrev pub HushOut : ℕ → Out → Type 0
HushOut p (refuse n l) = Unit {0}
HushOut p (on t a) = ltb p t.places ≡ false → All (λ i. is_music i ≡ false) (items_of p a)

no_music_item : (c p : ℕ) (x : Item) (xs : Items) → is_music x ≡ false → All (λ i. is_music i ≡ false) (items_of p xs) → All (λ i. is_music i ≡ false) (items_of p ((c, x) ∷ xs))
no_music_item c p x xs h r = go (eqb c p)
  where
    go : (b : Bool) → All (λ i. is_music i ≡ false) (cond b (x ∷ items_of p xs) (items_of p xs))
    go true = (h, r)
    go false = r

voice_no_music : (s : ScanState) (v : List ℕ) (is : List (List ℕ)) (known full mid : Bool) (p : ℕ) → HushOut p (voice_on s v is known full mid)
unfolding scanning is_music
voice_no_music s v is true full true p = tt
voice_no_music s v is true full false p = λ h. no_music_item (index_of v is) p reset [] refl tt
voice_no_music s v is false true mid p = tt
voice_no_music s v is false false true p = tt
voice_no_music s v is false false false p = λ h. no_music_item (length is) p (voice_declared s.env.in_header) ((length is, reset) ∷ []) refl (no_music_item (length is) p reset [] refl tt)

play_no_music : (s : ScanState) (es : List Effect) (l : List ℕ) (o : Option ℕ) (p : ℕ) → HushOut p (play_on s es l o)
unfolding scanning is_music
play_no_music s es l (some k) p = tt
play_no_music s es l none p =
    λ h.
    by_test
    (eqb s.part p)
    (λ e. absurd (true≢false (sym (lt-ltb p (max s.places (suc s.part)) (omega (arith, eqb-true s.part p e))) ∙ h)))
    (λ e. subst (All (λ i. is_music i ≡ false)) (sym (ap (λ (b : Bool). cond b (music_line s.unit s.meter l ∷ []) []) e)) tt)

pub act_no_music : (s : ScanState) (k : Kind) (h : Bool) (p : ℕ) → HushOut p (act s k h)
unfolding scanning is_music
act_no_music s blank h p = λ x. tt
act_no_music s (refused n) h p = tt
act_no_music s (lyric t) true p = λ x. tt
act_no_music s (lyric t) false p = λ x. no_music_item s.part p (lyric_line (ltb s.part s.places) t) [] refl tt
act_no_music s (voice v mid) h p = voice_no_music s v (voices_before s) (elem v (voices_before s)) (leb most_voices (length (voices_before s))) mid p
act_no_music s (key k) true p = λ x. no_music_item s.part p key_in_header [] refl tt
act_no_music s (key k) false p = λ x. no_music_item s.part p (key_change k) [] refl tt
act_no_music s (meter m) true p = λ x. tt
act_no_music s (meter m) false p = λ x. no_music_item s.part p (meter_change m) [] refl tt
act_no_music s (unit none) h p = λ x. tt
act_no_music s (unit (some u)) h p = λ x. tt
act_no_music s tune true p = λ x. tt
act_no_music s tune false p = tt
act_no_music s other h p = λ x. tt
act_no_music s (music hi es l) true p = λ x. tt
act_no_music s (music true es l) false p = tt
act_no_music s (music false es l) false p = play_no_music s es l (first_refusal s.notes es) p

-- no line is both music and a lyric line
pub music_lyric : (ed : Edition) (r : TextLine) → is_music_line (kind_of ed r) ≡ true → is_lyric r ≡ false
music_lyric ed r h = never_true (is_lyric r) (λ x. true≢false (sym h ∙ lyric_begins ed r x))

-- A LINE

pub step_on : (ed : Edition) (s t : ScanState) (r : List ℕ) (a : Items) → step ed s r ≡ on t a → (s.lines < most_lines) × (act s (kind_of ed r) s.env.in_header ≡ on t a)
unfolding step
step_on ed s t r a e =
    by_test
    (ltb s.lines most_lines)
    (λ x. (ltb-true s.lines most_lines x, sym (ap (λ (b : Bool). cond b (act s (kind_of ed r) s.env.in_header) (refuse 4 (suc s.lines))) x) ∙ e))
    (λ x. absurd (refuse_on 4 (suc s.lines) t a (sym (ap (λ (b : Bool). cond b (act s (kind_of ed r) s.env.in_header) (refuse 4 (suc s.lines))) x) ∙ e)))

pub facts : (ed : Edition) (s t : ScanState) (r : List ℕ) (a : Items) → step ed s r ≡ on t a → Facts s (kind_of ed r) s.env.in_header t
facts ed s t r a e = act_facts s (kind_of ed r) s.env.in_header refl t a (step_on ed s t r a e).1

-- from `act` to `step`
pub step_through : (ed : Edition) (s : ScanState) (r : List ℕ) (p : ℕ) → s.env.in_header ≡ false → s.lines < most_lines → Through s (kind_of ed r) p → GoesThrough (reader ed) s r p
unfolding step
step_through ed s r p hb hl q = (
  q.0,
  ap (λ (b : Bool). cond b (act s (kind_of ed r) s.env.in_header) (refuse 4 (suc s.lines))) (lt-ltb s.lines most_lines hl)
      ∙ ap (act s (kind_of ed r)) hb
      ∙ q.1,
  q.2,
  q.3,
  q.4,
  q.5,
)

-- WHAT THE WORDS OF specs/Kinds SAY OF THE SCAN: a line after the first K: line that goes through leaves L and M as `unit_after` and `meter_after` say
pub unit_after_lem : (ed : Edition) (s t : ScanState) (r : TextLine) (a : Items) → s.env.in_header ≡ false → step ed s r ≡ on t a → t.unit ≡ unit_after (kind_of ed r) s.unit
unit_after_lem ed s t r a b e = (facts ed s t r a e).units b

pub meter_after_lem : (ed : Edition) (s t : ScanState) (r : TextLine) (a : Items) → s.env.in_header ≡ false → step ed s r ≡ on t a → t.meter ≡ meter_after (kind_of ed r) s.meter
meter_after_lem ed s t r a b e = (facts ed s t r a e).meters b

-- and its part has a place for verses if it is music
pub place_made : (ed : Edition) (s t : ScanState) (r : TextLine) (a : Items) → s.env.in_header ≡ false → is_music_line (kind_of ed r) ≡ true → step ed s r ≡ on t a → s.part < t.places
place_made ed s t r a b h e = (facts ed s t r a e).verse_place b h

-- no V: line, no voice
pub no_voice : (ed : Edition) (r : TextLine) → is_v r ≡ false → is_voice (kind_of ed r) ≡ false
no_voice ed r h = never_true (is_voice (kind_of ed r)) (λ x. true≢false (sym (voice_only ed r x) ∙ h))

-- "or, other than by its V: line, the voice, inline included": after the first K: line nothing but a V: line changes the voice that is read
pub only_V : (ed : Edition) (s t : ScanState) (r : TextLine) (a : Items) → s.env.in_header ≡ false → is_v r ≡ false → step ed s r ≡ on t a → t.part ≡ s.part
only_V ed s t r a b h e = (facts ed s t r a e).stays b (no_voice ed r h)
