-- ONE WALK along a chain.
use Prim.Native.Nat.{ℕ, zero, suc, ◌+◌, ◌≤◌, ◌<◌, min, max}
use mathlib.Core.Path.{◌≡◌, refl, sym, ap, subst, ◌∙◌}
use mathlib.Core.Bool.{Bool, true, false, cond}
use mathlib.Core.List.{List, [], ◌∷◌}
use native.Mathlib.Omega.{arith}
use lib.Dec.{eqb}
use lib.ListN.{get_or, set, replicate, length-set, length-replicate}
use lib.Seq.{get_or-set_same, get_or-set_other}
use borrow.Author.Tests.{eq-eqb, ne_eqb, eqb-true, eqb-false}
use Rattle.laws.specs.Lists.{All}
use Rattle.laws.proofs.Bools.{by_test}
use Rattle.reader.specs.Lyrics.{Syllable, held}
use Rattle.std.specs.Prelude.{Option, Some}
use Rattle.lyric_words.specs.declared.Syllabic.{Syllabic}
use Rattle.lyrics.specs.Sheet.{RowRead, syllable_of, apply_row}
use Rattle.lyric_walk.specs.declared.Link.{Link}
use Rattle.lyric_walk.specs.Walks.{chain, row_of_link, LinkIs, of_verse, syllable_is, found_of, found_at, first_place, held_since, window, Wide, Clear, TakesRow, InSpan, Gathered}
use Rattle.lyric_walk.proofs.Chains.{chain_none, row_all}
use Rattle.lyric_walk.proofs.Verses.{by_syllabic, rising_chain, held_by, of_other, of_hold, of_found}

-- A VERSE: what the rows down to `place` say of it, the rest being ahead
abbrev pub SoFar : List ℕ → List ℕ → ℕ → ℕ → ℕ → Bool → ℕ → List Syllable
SoFar text s log v p x place = cond (eqb p 0) (held_by v x (of_verse v (chain text s log place))) (syllable_is text (found_at s log p x) ∷ [])

pub record Noting (s : List ℕ) (log k v p : ℕ) (x : Bool) (place : ℕ) : Type 0 where
  pub low : p ≤ k
  pub ahead : (text : List ℕ) → of_verse v (chain text s log k) ≡ SoFar text s log v p x place

noting_start : (s : List ℕ) (log k v p : ℕ) (x : Bool) → p ≡ 0 → x ≡ false → Noting s log k v p x k
noting_start s log k v p x e f = record { low = omega (arith, e); ahead = λ text. rw (e, f) }

-- the syllable of a row
found_is : (text : List ℕ) (r : RowRead) (c : Syllabic) (v : ℕ) (x : Bool) → r.syllabic ≡ Some c → r.verse ≡ v → held_by v x (syllable_of text r c ∷ []) ≡ syllable_is text (found_of r x) ∷ []
unfolding syllable_of syllable_is held
found_is text r c v true f e = rw (f, eq-eqb r.verse v e)
found_is text r c v false f e = rw f

module _ (s : List ℕ) (log k v p : ℕ) (x : Bool) (place : ℕ) (w : Noting s log k v p x place) (r : Link) (i : LinkIs s log place r) where
  -- a row of another verse
  noting_other : (r.verse ≡ v → ⊥) → Noting s log k v p x r.next
  noting_other d =
      record {
        low = w.low;
        ahead = λ text.
            w.ahead text
            ∙ ap (λ (ys : List Syllable). cond (eqb p 0) (held_by v x ys) (syllable_is text (found_at s log p x) ∷ []))
            (ap (of_verse v) (i.sung text) ∙ of_other text (row_of_link r) v (chain text s log r.next) d);
      }

  -- one of this verse
  noting_here : r.verse ≡ v → 0 < place → place ≤ k → Noting s log k v (first_place p r.syllabic place) (held_since p x r.syllabic) r.next
  noting_here d h l =
      by_test (eqb p 0)
      (λ e. by_syllabic r.syllabic
      (λ f. rw (e, f) (record { low = omega arith; ahead = λ text. here text e ∙ of_hold text (row_of_link r) v (chain text s log r.next) x d f }))
      (λ c f. rw (e, f) (record { low = l; ahead = λ text. here text e ∙ sung text c f })))
      (λ e. rw e (record { low = w.low; ahead = λ text. w.ahead text ∙ rw e }))
    where
      here : (text : List ℕ) → eqb p 0 ≡ true → of_verse v (chain text s log k) ≡ held_by v x (of_verse v (apply_row text (row_of_link r) (chain text s log r.next)))
      here text e = w.ahead text ∙ rw e (ap (λ (ys : List Syllable). held_by v x (of_verse v ys)) (i.sung text))

      sung : (text : List ℕ) (c : Syllabic) → r.syllabic ≡ Some c → held_by v x (of_verse v (apply_row text (row_of_link r) (chain text s log r.next))) ≡ SoFar text s log v place x r.next
      sung text c f =
          ap (held_by v x) (of_found text (row_of_link r) v (chain text s log r.next) c d f (rising_chain text s log r.next r.next))
          ∙ found_is text (row_of_link r) c v x f d
          ∙ ap (λ (q : RowRead). syllable_is text (found_of q x) ∷ []) i.row
          ∙ sym (rw (ne_eqb place 0 (λ z. absurd (omega (arith, z)))))

-- THE LEAST AND THE GREATEST VERSE
pub record Spanning (s : List ℕ) (log k least most place : ℕ) : Type 0 where
  pub low : place ≤ k
  pub small : most < 256
  pub ahead : (text : List ℕ) (a b : ℕ) → a ≤ least → most ≤ b → All (InSpan a b) (chain text s log place) → All (InSpan a b) (chain text s log k)

spanning_start : (s : List ℕ) (log k least : ℕ) → Spanning s log k least 0 k
spanning_start s log k least = record { low = omega arith; small = omega arith; ahead = λ text a b h l p. p }

spanning_next : (s : List ℕ) (log k least most place : ℕ) → Spanning s log k least most place → (r : Link) → LinkIs s log place r → r.verse < 256
    → Spanning s log k (min least r.verse) (max most r.verse) r.next
spanning_next s log k least most place w r i byte =
    record {
      low = omega (arith, w.low, i.low);
      small = omega (arith, w.small);
      ahead = λ text a b h l p.
          w.ahead text a b (omega arith) (omega arith)
          (subst (All (InSpan a b)) (sym (i.sung text)) (row_all (λ (v : ℕ). (a ≤ v) × (v ≤ b)) text (row_of_link r) (chain text s log r.next) (omega arith, omega arith) p));
    }

-- THE WINDOW
pub record Gathering (s : List ℕ) (log k from : ℕ) (places : List ℕ) (held : List Bool) (least most place : ℕ) : Type 0 where
  pub wide : Wide places held
  pub span : Spanning s log k least most place
  pub each : (i : ℕ) → i < window → Noting s log k (from + i) (get_or places i 0) (get_or held i false) place

pub gathering_start : (s : List ℕ) (log k from : ℕ) (places : List ℕ) (held : List Bool) (least : ℕ) → Clear places held → Gathering s log k from places held least 0 k
gathering_start s log k from places held least c =
    record { wide = c.wide; span = spanning_start s log k least; each = λ i h. noting_start s log k (from + i) (get_or places i 0) (get_or held i false) (c.none i h) (c.loose i h) }

pub gathering_next : (s : List ℕ) (log k from : ℕ) (places : List ℕ) (held : List Bool) (least most place : ℕ) → Gathering s log k from places held least most place → 0 < place
    → (r : Link) → LinkIs s log place r → r.verse < 256 → (q : List ℕ) (y : List Bool) → TakesRow from r.verse r.syllabic place places held q y
    → Gathering s log k from q y (min least r.verse) (max most r.verse) r.next
gathering_next s log k from places held least most place g h r i byte q y t =
    record { wide = t.wide; span = spanning_next s log k least most place g.span r i byte; each = λ j l. by_test (eqb (from + j) r.verse) (λ e. go_yes j l (eqb-true (from + j) r.verse e)) (λ e. go_no j l (eqb-false (from + j) r.verse e)) }
  where
    go_yes : (j : ℕ) → j < window → from + j ≡ r.verse → Noting s log k (from + j) (get_or q j 0) (get_or y j false) r.next
    go_yes j l e =
        let (a, b) = t.here j l e in
        rw (a, b) (noting_here s log k (from + j) (get_or places j 0) (get_or held j false) place (g.each j l) r i (sym e) h g.span.low)

    go_no : (j : ℕ) → j < window → (from + j ≡ r.verse → ⊥) → Noting s log k (from + j) (get_or q j 0) (get_or y j false) r.next
    go_no j l d =
        let (a, b) = t.other j l d in
        rw (a, b) (noting_other s log k (from + j) (get_or places j 0) (get_or held j false) place (g.each j l) r i (λ e. d (sym e)))

pub gathering_end : (s : List ℕ) (log k from : ℕ) (places : List ℕ) (held : List Bool) (least most place : ℕ) → Gathering s log k from places held least most place → place ≤ 0
    → Gathered s log k from places held (record { least = least; most = most })
gathering_end s log k from places held least most place g h =
    record {
      low = λ i l. (g.each i l).low;
      each = λ i l text. (g.each i l).ahead text ∙ ap (λ (ys : List Syllable). cond (eqb (get_or places i 0) 0) ys (syllable_is text (found_at s log (get_or places i 0) (get_or held i false)) ∷ [])) (none text (from + i) (get_or held i false));
      span = λ text. g.span.ahead text least most (omega arith) (omega arith) (subst (All (InSpan least most)) (sym (nil text)) tt);
      small = g.span.small;
    }
  where
    nil : (text : List ℕ) → chain text s log place ≡ []
    nil text = ap (chain text s log) (let z : place ≡ 0 = omega arith in z) ∙ chain_none text s log

    no_one : (v : ℕ) (b : Bool) → held_by v b [] ≡ []
    no_one v true = refl
    no_one v false = refl

    none : (text : List ℕ) (v : ℕ) (b : Bool) → held_by v b (of_verse v (chain text s log place)) ≡ []
    none text v b = ap (λ (ys : List Syllable). held_by v b (of_verse v ys)) (nil text) ∙ no_one v b

-- a row outside of the window; one in it
pub takes_none_lem : (from verse : ℕ) (o : Option Syllabic) (place : ℕ) (p : List ℕ) (x : List Bool) → Wide p x → ((i : ℕ) → i < window → from + i ≡ verse → ⊥) → TakesRow from verse o place p x p x
takes_none_lem from verse o place p x w d = record { wide = w; here = λ i h e. absurd (d i h e); other = λ i h e. (refl, refl) }

pub takes_one : (from verse : ℕ) (o : Option Syllabic) (place j : ℕ) (p : List ℕ) (x : List Bool) → Wide p x → j < window → from + j ≡ verse → (a : ℕ) (b : Bool)
    → a ≡ first_place (get_or p j 0) o place → b ≡ held_since (get_or p j 0) (get_or x j false) o → TakesRow from verse o place p x (set p j a) (set x j b)
takes_one from verse o place j p x w h e a b f g =
    record {
      wide = record { places_long = length-set p j a ∙ w.places_long; held_long = length-set x j b ∙ w.held_long };
      here = λ i l t.
          let s : i ≡ j = omega (arith, t, e) in
          subst (λ (i : ℕ). (get_or (set p j a) i 0 ≡ first_place (get_or p i 0) o place) × (get_or (set x j b) i false ≡ held_since (get_or p i 0) (get_or x i false) o)) (sym s)
          (get_or-set_same p j a 0 (omega (arith, w.places_long)) ∙ f, get_or-set_same x j b false (omega (arith, w.held_long)) ∙ g);
      other = λ i l t.
          let d : i ≡ j → ⊥ = λ s. t (omega (arith, s)) in
          (get_or-set_other p j i a 0 d, get_or-set_other x j i b false d);
    }

-- as it begins
same_at : {A : Type 0} (n : ℕ) (a : A) (i : ℕ) → get_or (replicate n a) i a ≡ a
same_at zero a i = refl
same_at (suc n) a zero = refl
same_at (suc n) a (suc i) = same_at n a i

pub clear : Clear (replicate window 0) (replicate window false)
clear =
    record { wide = record { places_long = length-replicate {A = ℕ} window 0; held_long = length-replicate window false }; none = λ i h. same_at {A = ℕ} window 0 i; loose = λ i h. same_at window false i }
