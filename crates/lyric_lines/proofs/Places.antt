-- WHERE A LINE STANDS by its place: at its beginning, after a word and after a bar, in either edition.
use Prim.Native.Nat.{ℕ, zero, suc, ◌+◌, ◌-◌, ◌≤◌, ◌<◌}
use mathlib.Core.Path.{◌≡◌, refl, sym, ap, subst, ◌∙◌}
use mathlib.Core.Bool.{cond}
use mathlib.Core.List.{List, ◌∷◌}
use native.Mathlib.Decide.{dec_lt}
use native.Mathlib.Numerals.{add-one}
use native.Mathlib.Omega.{arith}
use lib.Dec.{eqb}
use lib.ListN.{length}
use borrow.Author.Tests.{eqb-true, eq-eqb, ne_eqb, lt-ltb, le-ltb}
use Rattle.laws.proofs.Bools.{by_test}
use Rattle.editions.specs.declared.Edition.{Edition}
use Rattle.editions.specs.declared.Edition.TheVariants.{First, Second}
use Rattle.standard.specs.Lyrics.{Syllabic, Word, skip, hold, bar, syllable}
use Rattle.reader.specs.Lyrics.{Syllable, held_at, sung_at, sing}
use Rattle.lyrics.proofs.Sheets.{alter_past}
use Rattle.lyric_stops.specs.declared.Stop.{Stop}
use Rattle.lyric_stops.specs.Stops.{farthest, note_at}
use Rattle.lyric_stops.specs.Walks.{FirstFrom, BackFrom}
use Rattle.lyric_lines.specs.declared.Place.{Place}
use Rattle.lyric_lines.specs.Stands.{Stand, On, Taken, Over, before_of, sing_from, taken_at, NextNote, Moved}
use Rattle.lyric_lines.specs.Places.{Sought, FirstPlace, TakenPlace, stand_of, StandsAt, StandsIn, Hinted, sing_at, sing_line, MovedPlace, BarSung}
use Rattle.lyric_lines.proofs.Stands.{word_skip, word_hold, word_put, taken_reached, next_on, next_sought, next_over, begun_on, begun_over, moved_to, moved_over, moved_on, moved_none}

abbrev place : ℕ → ℕ → ℕ → Place
place note before reached = record { note = note; before = before; reached = reached }

-- a note is not beyond a bound
pub sought_near : (ed : Edition) (xs : List Stop) (from r b : ℕ) → Sought ed xs from r → from ≤ b → length xs + farthest ≤ b → r ≤ b
sought_near First xs from r b e l m = omega (arith, e, l)
sought_near Second xs from r b t l m = t.near b l m

-- WHAT A PLACE SAYS
stand_on : (n : ℕ) (p : Place) → p.reached ≡ p.note → p.note < n → stand_of n p ≡ On p.note p.before
unfolding stand_of
stand_on n p e h = rw (lt-ltb p.reached n (omega (arith, e, h)), eq-eqb p.note p.reached (sym e))

stand_over : (n : ℕ) (p : Place) → n ≤ p.reached → stand_of n p ≡ Over
unfolding stand_of
stand_over n p h = rw (le-ltb p.reached n h)

stand_taken : (n j : ℕ) (p : Place) → p.reached ≡ j → j < p.note → stand_of n p ≡ taken_at n j
unfolding stand_of taken_at
stand_taken n j p e h =
    let d : p.note ≡ p.reached → ⊥ = λ f. absurd (omega (arith, e, h, f)) in
    rw (ne_eqb p.note p.reached d) (ap (λ (k : ℕ). taken_at n k) e)

-- A WORD TAKES the next note
module _ (xs : List Stop) (p q : Place) (t : TakenPlace Second xs p.note q) where
  stands_taken : stand_of (length xs) q ≡ taken_at (length xs) p.note
  stands_taken = stand_taken (length xs) p.note q t.reached (omega (arith, t.note.low))

  next_taken : NextNote xs (taken_at (length xs) p.note) q.note
  unfolding taken_at
  next_taken = go (dec_lt p.note (length xs))
    where
      go : Dec (p.note < length xs) → NextNote xs (taken_at (length xs) p.note) q.note
      go (yes h) = rw (lt-ltb p.note (length xs) h) (next_sought xs p.note q.note t.note)
      go (no h) = rw (le-ltb p.note (length xs) (omega arith)) (next_over xs q.note (omega (arith, t.note.low)))

  before_taken : (v : ℕ) (notes : List (List Syllable)) → length notes ≡ length xs
      → held_at v (note_at q.before) notes ≡ held_at v (before_of (taken_at (length xs) p.note)) notes
  unfolding taken_at before_of note_at held_at
  before_taken v notes many = rw (t.before ∙ add-one p.note) (go (dec_lt p.note (length xs)))
    where
      go : Dec (p.note < length xs) → held_at v (note_at (suc p.note)) notes ≡ held_at v (before_of (taken_at (length xs) p.note)) notes
      go (yes h) = rw (lt-ltb p.note (length xs) h)
      go (no h) = rw (le-ltb p.note (length xs) (omega arith)) (alter_past p.note _ notes (omega (arith, many)))

  stands_second : StandsAt xs p → StandsAt xs q
  stands_second s =
      record {
        reached = rw stands_taken (taken_reached xs (length xs) p.note (s.next.here s.reached));
        next = rw stands_taken next_taken;
        before = λ v notes many. before_taken v notes many ∙ ap (λ (st : Stand). held_at v (before_of st) notes) (sym stands_taken);
      }

-- a hold of the first edition, by the notes taken
hold_first : (start v k note before : ℕ) → note ≡ start + k → before ≡ cond (eqb note start) 0 note → (ws : List Word) (notes : List (List Syllable))
    → sing start v (suc k) ws (held_at v (note_at before) notes) ≡ sing start v k (hold ∷ ws) notes
unfolding sing held_at note_at
hold_first start v zero note before e f ws notes =
    let g : before ≡ 0 = f ∙ ap (λ b. cond b 0 note) (eq-eqb note start (omega (arith, e))) in
    rw g
hold_first start v (suc i) note before e f ws notes =
    let d : note ≡ start → ⊥ = λ x. absurd (omega (arith, e, x)) in
    let g : before ≡ suc (start + i) = f ∙ ap (λ b. cond b 0 note) (ne_eqb note start d) ∙ omega (arith, e) in
    rw g

-- in either edition
module _ (ed : Edition) (start : ℕ) (xs : List Stop) (p q : Place) where
  -- the line stands behind the note
  pub stands_next : TakenPlace ed xs p.note q → StandsIn ed start xs p → StandsIn ed start xs q
  stands_next t s = go ed t s
    where
      go : (ed : Edition) → TakenPlace ed xs p.note q → StandsIn ed start xs p → StandsIn ed start xs q
      go First t s =
          let d : q.note ≡ start → ⊥ = λ e. absurd (omega (arith, e, t.note, s.0)) in
          (omega (arith, t.note, s.0), t.before ∙ sym t.note ∙ ap (λ b. cond b 0 q.note) (sym (ne_eqb q.note start d)))
      go Second t s = stands_second xs p q t s

  module _ (v : ℕ) (ws : List Word) where
    pub place_skip : TakenPlace ed xs p.note q → StandsIn ed start xs p → Hinted ed xs → (notes : List (List Syllable))
        → sing_at ed start v xs q ws notes ≡ sing_at ed start v xs p (skip ∷ ws) notes
    unfolding sing
    place_skip t s h notes = go ed t s h
      where
        go : (ed : Edition) → TakenPlace ed xs p.note q → StandsIn ed start xs p → Hinted ed xs → sing_at ed start v xs q ws notes ≡ sing_at ed start v xs p (skip ∷ ws) notes
        go First t s h = let e : q.note - start ≡ suc (p.note - start) = omega (arith, t.note, s.0) in rw e
        go Second t s h = rw (stands_taken xs p q t) (word_skip v ws xs p.note (stand_of (length xs) p) s.next h notes)

    pub place_hold : TakenPlace ed xs p.note q → StandsIn ed start xs p → Hinted ed xs → (notes : List (List Syllable)) → length notes ≡ length xs
        → sing_at ed start v xs q ws (held_at v (note_at p.before) notes) ≡ sing_at ed start v xs p (hold ∷ ws) notes
    place_hold t s h notes many = go ed t s h
      where
        go : (ed : Edition) → TakenPlace ed xs p.note q → StandsIn ed start xs p → Hinted ed xs
            → sing_at ed start v xs q ws (held_at v (note_at p.before) notes) ≡ sing_at ed start v xs p (hold ∷ ws) notes
        go First t s h =
            let e : q.note - start ≡ suc (p.note - start) = omega (arith, t.note, s.0) in
            rw e (hold_first start v (p.note - start) p.note p.before (omega (arith, s.0)) s.1 ws notes)
        go Second t s h =
            rw (stands_taken xs p q t)
            (ap (sing_from v xs (taken_at (length xs) p.note) ws) (s.before v notes many) ∙ word_hold v ws xs p.note (stand_of (length xs) p) s.next h notes)

    pub place_put : TakenPlace ed xs p.note q → StandsIn ed start xs p → Hinted ed xs → (c : Syllabic) (t : List ℕ) (notes : List (List Syllable)) → length notes ≡ length xs
        → sing_at ed start v xs q ws (sung_at v c t p.note notes) ≡ sing_at ed start v xs p (syllable c t ∷ ws) notes
    unfolding sing sung_at
    place_put t s h c b notes many = go ed t s h
      where
        go : (ed : Edition) → TakenPlace ed xs p.note q → StandsIn ed start xs p → Hinted ed xs
            → sing_at ed start v xs q ws (sung_at v c b p.note notes) ≡ sing_at ed start v xs p (syllable c b ∷ ws) notes
        go First t s h =
            let e : q.note - start ≡ suc (p.note - start) = omega (arith, t.note, s.0) in
            let f : start + (p.note - start) ≡ p.note = omega (arith, s.0) in
            rw (e, f)
        go Second t s h = rw (stands_taken xs p q t) (word_put v ws xs p.note (stand_of (length xs) p) s.next h c b notes many)

-- THE BEGINNING
module _ (start : ℕ) (xs : List Stop) (p : Place) where
  begins_second : FirstPlace Second xs start p → StandsAt xs p
  unfolding note_at before_of
  begins_second f = go (dec_lt p.note (length xs))
    where
      go : Dec (p.note < length xs) → StandsAt xs p
      go (yes h) =
          let e = stand_on (length xs) p f.reached h in
          record { reached = rw e f.note.here; next = rw e (next_on xs p.note p.before h); before = λ v notes many. rw e }
      go (no h) =
          let e = stand_over (length xs) p (omega (arith, f.reached)) in
          record { reached = rw e tt; next = rw e (next_over xs p.note (omega arith)); before = λ v notes many. rw (e, f.before) }

  sung_second : FirstPlace Second xs start p → Hinted Second xs → (v : ℕ) (ws : List Word) (notes : List (List Syllable))
      → sing_at Second start v xs p ws notes ≡ sing_line Second start v xs ws notes
  sung_second f hints v ws notes = go (dec_lt p.note (length xs))
    where
      go : Dec (p.note < length xs) → sing_at Second start v xs p ws notes ≡ sing_line Second start v xs ws notes
      go (yes h) = rw (stand_on (length xs) p f.reached h, f.before) ((begun_on xs start p.note f.note h).sung hints v ws notes)
      go (no h) = rw (stand_over (length xs) p (omega (arith, f.reached))) ((begun_over xs start p.note f.note (omega arith)).sung hints v ws notes)

pub stands_first : (ed : Edition) (start : ℕ) (xs : List Stop) (p : Place) → FirstPlace ed xs start p → StandsIn ed start xs p
stands_first First start xs p f = (omega (arith, f.note), f.before ∙ ap (λ b. cond b 0 p.note) (sym (eq-eqb p.note start f.note)))
stands_first Second start xs p f = begins_second start xs p f

pub sung_first : (ed : Edition) (start : ℕ) (xs : List Stop) (p : Place) → FirstPlace ed xs start p → Hinted ed xs → (v : ℕ) (ws : List Word) (notes : List (List Syllable))
    → sing_at ed start v xs p ws notes ≡ sing_line ed start v xs ws notes
sung_first First start xs p f h v ws notes = let e : p.note - start ≡ 0 = omega (arith, f.note) in rw e
sung_first Second start xs p f h v ws notes = sung_second start xs p f h v ws notes

-- A BAR, where note j was reached last
module _ (xs : List Stop) (j first : ℕ) (w : FirstFrom xs (j + 1) first) where
  -- on to a note
  pub bar_to : (before : ℕ) → first < length xs → BackFrom xs first before → MovedPlace xs j (place first before first)
  unfolding taken_at before_of
  bar_to before h b =
      let e = stand_on (length xs) (place first before first) refl h in
      let there : j < length xs = omega (arith, w.low) in
      let m = moved_to xs j first w before h b in
      record {
        stands = record { reached = rw e m.reached; next = rw e (next_on xs first before h); before = λ v notes many. rw e };
        moved = rw (e, lt-ltb j (length xs) there) m;
        note_near = omega arith;
        reached_near = omega arith;
      }

  -- the line's rest lapses
  pub bar_over : (n : ℕ) → n ≡ length xs → length xs ≤ first → MovedPlace xs j (place n 0 n)
  unfolding taken_at before_of note_at
  bar_over n k h =
      let e = stand_over (length xs) (place n 0 n) (omega (arith, k)) in
      record {
        stands = record { reached = rw e tt; next = rw e (next_over xs n (omega (arith, k))); before = λ v notes many. rw e };
        moved = rw e (go (dec_lt j (length xs)));
        note_near = omega (arith, k);
        reached_near = omega (arith, k);
      }
    where
      go : Dec (j < length xs) → Moved xs (taken_at (length xs) j) Over
      go (yes l) = rw (lt-ltb j (length xs) l) (moved_over xs j first w h)
      go (no l) = rw (le-ltb j (length xs) (omega arith)) (moved_none xs)

-- from where the line stands
moved_from : (xs : List Stop) (p : Place) (r : Stand) → Moved xs (taken_at (length xs) p.reached) r → Moved xs (stand_of (length xs) p) r
unfolding stand_of taken_at
moved_from xs p r m = go (dec_lt p.reached (length xs))
  where
    go : Dec (p.reached < length xs) → Moved xs (stand_of (length xs) p) r
    go (yes h) =
        let t : Moved xs (Taken p.reached) r = rw (lt-ltb p.reached (length xs) h) at m in
        by_test (eqb p.note p.reached)
        (λ e. rw (lt-ltb p.reached (length xs) h, e) (rw (eqb-true p.note p.reached e) (moved_on xs p.reached p.before r t)))
        (λ e. rw (lt-ltb p.reached (length xs) h, e) t)
    go (no h) = rw (le-ltb p.reached (length xs) (omega arith)) (rw (le-ltb p.reached (length xs) (omega arith)) at m)

module _ (ed : Edition) (start : ℕ) (xs : List Stop) (p q : Place) where
  pub stands_bar : BarSung ed xs p q → StandsIn ed start xs p → StandsIn ed start xs q
  stands_bar b s = go ed b s
    where
      go : (ed : Edition) → BarSung ed xs p q → StandsIn ed start xs p → StandsIn ed start xs q
      go First b s = subst (StandsIn First start xs) (sym b) s
      go Second b s = b.stands

  pub place_bar : (v : ℕ) (ws : List Word) → BarSung ed xs p q → StandsIn ed start xs p → Hinted ed xs → (notes : List (List Syllable))
      → sing_at ed start v xs q ws notes ≡ sing_at ed start v xs p (bar ∷ ws) notes
  unfolding sing
  place_bar v ws b s h notes = go ed b s h
    where
      go : (ed : Edition) → BarSung ed xs p q → StandsIn ed start xs p → Hinted ed xs → sing_at ed start v xs q ws notes ≡ sing_at ed start v xs p (bar ∷ ws) notes
      go First b s h = ap (λ (r : Place). sing start v (r.note - start) ws notes) b
      go Second b s h = (moved_from xs p (stand_of (length xs) q) b.moved).sung h s.reached v ws notes

  pub bar_near : (b : ℕ) → BarSung ed xs p q → p.note ≤ b → p.reached ≤ b → length xs ≤ b → (q.note ≤ b) × (q.reached ≤ b)
  bar_near b m l k n = go ed m
    where
      go : (ed : Edition) → BarSung ed xs p q → (q.note ≤ b) × (q.reached ≤ b)
      go First m = (omega (arith, l, ap (λ (r : Place). r.note) m), omega (arith, k, ap (λ (r : Place). r.reached) m))
      go Second m = (omega (arith, m.note_near, n), omega (arith, m.reached_near, n))
