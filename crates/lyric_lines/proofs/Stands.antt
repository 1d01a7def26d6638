-- WHERE A LINE STANDS: at its beginning, after a word and after a bar.
use Prim.Native.Nat.{ℕ, ◌+◌, ◌-◌, ◌≤◌, ◌<◌}
use mathlib.Core.Path.{◌≡◌, refl, sym, ap, ◌∙◌}
use mathlib.Core.Option.{Option, none, some}
use mathlib.Core.List.{List, [], ◌∷◌, ◌++◌}
use native.Mathlib.Decide.{dec_lt}
use native.Mathlib.Omega.{arith}
use lib.ListN.{length}
use borrow.Author.Tests.{lt-ltb, le-ltb}
use Rattle.standard.specs.Lyrics.{Syllabic, Word, skip, hold, bar, syllable, SungBar, last_or, placed}
use Rattle.reader.specs.Lyrics.{Syllable, held_at, sung_at, sing_on, sing_bars, bar_of, sung_word, sung_each}
use Rattle.lyrics.proofs.Sheets.{alter_past}
use Rattle.lyric_stops.specs.declared.Kind.{Kind}
use Rattle.lyric_stops.specs.declared.Stop.{Stop}
use Rattle.lyric_stops.specs.Stops.{kind_at, Left, left_from, back_of, note_at, Hints}
use Rattle.lyric_stops.specs.Walks.{TakerFrom, FirstFrom, BackFrom}
use Rattle.lyric_stops.proofs.Left.{with_first, with_later, left_here, left_over, left_passed, left_moved, left_last, back_taker}
use Rattle.lyric_stops.proofs.Walks.{by_first, apart, kind_over}
use Rattle.lyric_lines.specs.Stands.{Stand, On, Taken, Over, before_of, left_of, Reached, sing_from, next_in, next_at, taken_at, NextNote, Begun, Moved}

-- no note is left: words do nothing
pub lapsed : (v : ℕ) (ws : List Word) (notes : List (List Syllable)) → sing_on v none ws [] [] notes ≡ notes
unfolding placed sung_each sung_word held_at
lapsed v [] notes = refl
lapsed v (bar ∷ ws) notes = refl
lapsed v (skip ∷ ws) notes = lapsed v ws notes
lapsed v (hold ∷ ws) notes = lapsed v ws notes
lapsed v (syllable c t ∷ ws) notes = lapsed v ws notes

-- A WORD THAT TAKES A NOTE, by the next one
module _ (v : ℕ) (ws : List Word) where
  after : List (List Syllable) → Option (ℕ × Left) → List (List Syllable)
  after notes none = sing_on v none ws [] [] notes
  after notes (some x) = sing_on v (some x.0) ws x.1.0 x.1.1 notes

  after_put : Syllabic → List ℕ → List (List Syllable) → Option (ℕ × Left) → List (List Syllable)
  after_put c t notes none = sing_on v none ws [] [] notes
  after_put c t notes (some x) = sing_on v (some x.0) ws x.1.0 x.1.1 (sung_at v c t x.0 notes)

  skip_next : (b : Option ℕ) (g : List ℕ) (bs : List SungBar) (notes : List (List Syllable)) → sing_on v b (skip ∷ ws) g bs notes ≡ after notes (next_in g bs)
  unfolding placed sung_each sung_word next_in after
  skip_next b [] [] notes = refl
  skip_next b [] ((i, h) ∷ bs) notes = refl
  skip_next b (i ∷ g) bs notes = refl

  hold_next : (b : Option ℕ) (g : List ℕ) (bs : List SungBar) (notes : List (List Syllable)) → sing_on v b (hold ∷ ws) g bs notes ≡ after (held_at v b notes) (next_in g bs)
  unfolding placed sung_each sung_word next_in after
  hold_next b [] [] notes = refl
  hold_next b [] ((i, h) ∷ bs) notes = refl
  hold_next b (i ∷ g) bs notes = refl

  put_next : (c : Syllabic) (t : List ℕ) (b : Option ℕ) (g : List ℕ) (bs : List SungBar) (notes : List (List Syllable))
      → sing_on v b (syllable c t ∷ ws) g bs notes ≡ after_put c t notes (next_in g bs)
  unfolding placed sung_each sung_word next_in after_put
  put_next c t b [] [] notes = refl
  put_next c t b [] ((i, h) ∷ bs) notes = refl
  put_next c t b (i ∷ g) bs notes = refl

  -- where the line stands then
  module _ (xs : List Stop) (j : ℕ) where
    after_taken : (notes : List (List Syllable)) → sing_from v xs (taken_at (length xs) j) ws notes ≡ after notes (next_at xs j)
    unfolding taken_at next_at after before_of left_of
    after_taken notes = go (dec_lt j (length xs))
      where
        go : Dec (j < length xs) → sing_from v xs (taken_at (length xs) j) ws notes ≡ after notes (next_at xs j)
        go (yes h) = rw (lt-ltb j (length xs) h)
        go (no h) = rw (le-ltb j (length xs) (omega arith))

    put_taken : (c : Syllabic) (t : List ℕ) (notes : List (List Syllable)) → length notes ≡ length xs
        → sing_from v xs (taken_at (length xs) j) ws (sung_at v c t j notes) ≡ after_put c t notes (next_at xs j)
    unfolding taken_at next_at after_put before_of left_of sung_at
    put_taken c t notes many = go (dec_lt j (length xs))
      where
        go : Dec (j < length xs) → sing_from v xs (taken_at (length xs) j) ws (sung_at v c t j notes) ≡ after_put c t notes (next_at xs j)
        go (yes h) = rw (lt-ltb j (length xs) h)
        go (no h) = rw (le-ltb j (length xs) (omega arith)) (ap (sing_on v none ws [] []) (alter_past j _ notes (omega (arith, many))))

    module _ (st : Stand) (n : NextNote xs st j) (hints : Hints xs) where
      pub word_skip : (notes : List (List Syllable)) → sing_from v xs (taken_at (length xs) j) ws notes ≡ sing_from v xs st (skip ∷ ws) notes
      word_skip notes = after_taken notes ∙ ap (after notes) (sym (n.next hints)) ∙ sym (skip_next (before_of st) (left_of xs st).0 (left_of xs st).1 notes)

      pub word_hold : (notes : List (List Syllable)) → sing_from v xs (taken_at (length xs) j) ws (held_at v (before_of st) notes) ≡ sing_from v xs st (hold ∷ ws) notes
      word_hold notes =
          after_taken (held_at v (before_of st) notes) ∙ ap (after (held_at v (before_of st) notes)) (sym (n.next hints))
          ∙ sym (hold_next (before_of st) (left_of xs st).0 (left_of xs st).1 notes)

      pub word_put : (c : Syllabic) (t : List ℕ) (notes : List (List Syllable)) → length notes ≡ length xs
          → sing_from v xs (taken_at (length xs) j) ws (sung_at v c t j notes) ≡ sing_from v xs st (syllable c t ∷ ws) notes
      word_put c t notes many =
          put_taken c t notes many ∙ ap (after_put c t notes) (sym (n.next hints)) ∙ sym (put_next c t (before_of st) (left_of xs st).0 (left_of xs st).1 notes)

-- the note takes a syllable
pub taken_reached : (xs : List Stop) (n j : ℕ) → (kind_at xs j ≡ Kind.Passed → ⊥) → Reached xs (taken_at n j)
unfolding taken_at
taken_reached xs n j k = go (dec_lt j n)
  where
    go : Dec (j < n) → Reached xs (taken_at n j)
    go (yes h) = rw (lt-ltb j n h) k
    go (no h) = rw (le-ltb j n (omega arith)) tt

module _ (xs : List Stop) where
  -- A NOTE THAT TAKES A SYLLABLE
  module _ (j : ℕ) (h : j < length xs) (n : kind_at xs j ≡ Kind.Passed → ⊥) where
    -- what is left from it on
    taker_left : (P : Left → Type 0) → P ([], (j, (left_from xs (j + 1)).0) ∷ (left_from xs (j + 1)).1) → P (j ∷ (left_from xs (j + 1)).0, (left_from xs (j + 1)).1) → P (left_from xs j)
    taker_left P first later =
        by_first (kind_at xs j)
        (λ e. rw (left_here xs j h ∙ with_first j (left_from xs (j + 1)) (kind_at xs j) e) first)
        (λ e. rw (left_here xs j h ∙ with_later j (left_from xs (j + 1)) (kind_at xs j) n e) later)

    next_taker : next_in (left_from xs j).0 (left_from xs j).1 ≡ some (j, left_from xs (j + 1))
    unfolding next_in
    next_taker = taker_left (λ (l : Left). next_in l.0 l.1 ≡ some (j, left_from xs (j + 1))) refl refl

    -- a line begins there
    line_taker : (v : ℕ) (ws : List Word) (notes : List (List Syllable))
        → sing_on v none ws (j ∷ (left_from xs (j + 1)).0) (left_from xs (j + 1)).1 notes ≡ sing_bars v ws (bar_of (left_from xs j).0 ++ (left_from xs j).1) notes
    unfolding sing_bars bar_of
    line_taker v ws notes = taker_left (λ (l : Left). sing_on v none ws (j ∷ (left_from xs (j + 1)).0) (left_from xs (j + 1)).1 notes ≡ sing_bars v ws (bar_of l.0 ++ l.1) notes) refl refl

  -- what is left from where a walk began
  walked : (from r : ℕ) → TakerFrom xs from r → Hints xs → left_from xs from ≡ left_from xs r
  walked from r w hints =
      let e : from + (r - from) ≡ r = omega (arith, w.low) in
      left_passed xs from (r - from) (λ k l m. w.passed hints k l (omega arith)) ∙ ap (left_from xs) e

  -- THE NEXT NOTE
  pub next_on : (note place : ℕ) → note < length xs → NextNote xs (On note place) note
  unfolding left_of next_in next_at
  next_on note place h = record { next = λ hints. rw (lt-ltb note (length xs) h); here = λ r. r }

  pub next_sought : (note r : ℕ) → TakerFrom xs (note + 1) r → NextNote xs (Taken note) r
  unfolding left_of next_in next_at
  next_sought note r w = record { next = λ hints. ap (λ (l : Left). next_in l.0 l.1) (walked (note + 1) r w hints) ∙ go (dec_lt r (length xs)); here = λ _. w.here }
    where
      go : Dec (r < length xs) → next_in (left_from xs r).0 (left_from xs r).1 ≡ next_at xs r
      go (yes h) = rw (lt-ltb r (length xs) h) (next_taker r h w.here)
      go (no h) = rw (le-ltb r (length xs) (omega arith)) (ap (λ (l : Left). next_in l.0 l.1) (left_over xs r (omega arith)))

  pub next_over : (r : ℕ) → length xs ≤ r → NextNote xs Over r
  unfolding left_of next_in next_at
  next_over r h = record { next = λ hints. rw (le-ltb r (length xs) h); here = λ _ f. kind_over xs r h f }

  -- THE BEGINNING
  pub begun_on : (start r : ℕ) → TakerFrom xs start r → r < length xs → Begun xs start (On r 0)
  unfolding before_of left_of note_at
  begun_on start r w h =
      record {
        reached = w.here;
        sung = λ hints v ws notes. line_taker r h w.here v ws notes ∙ ap (λ (l : Left). sing_bars v ws (bar_of l.0 ++ l.1) notes) (sym (walked start r w hints));
      }

  pub begun_over : (start r : ℕ) → TakerFrom xs start r → length xs ≤ r → Begun xs start Over
  unfolding before_of left_of sing_bars bar_of
  begun_over start r w h =
      record {
        reached = tt;
        sung = λ hints v ws notes. lapsed v ws notes ∙ ap (λ (l : Left). sing_bars v ws (bar_of l.0 ++ l.1) notes) (sym (walked start r w hints ∙ left_over xs r h));
      }

  -- A BAR behind a note that was reached
  module _ (note r : ℕ) (w : FirstFrom xs (note + 1) r) where
    abbrev far : ℕ
    far = r - (note + 1)

    there : note + 1 + far ≡ r
    there = omega (arith, w.low)

    passed : Hints xs → (k : ℕ) → note + 1 ≤ k → k < note + 1 + far → kind_at xs k ≡ Kind.First → ⊥
    passed hints k l m = w.passed hints k l (omega (arith, there))

    bars_behind : Hints xs → (left_from xs (note + 1)).1 ≡ (left_from xs r).1
    bars_behind hints = left_moved xs (note + 1) far (passed hints) ∙ ap (λ (k : ℕ). (left_from xs k).1) there

    last_before : Hints xs → (kind_at xs note ≡ Kind.Passed → ⊥) → last_or (some note) (left_from xs (note + 1)).0 ≡ note_at (back_of xs r)
    unfolding note_at
    last_before hints n =
        ap (λ (p : ℕ). last_or (note_at p) (left_from xs (note + 1)).0) (sym (back_taker xs note n))
        ∙ left_last xs (note + 1) far (passed hints) (ap (kind_at xs) there ∙ w.here)
        ∙ ap (λ (k : ℕ). note_at (back_of xs k)) there

    pub moved_to : (place : ℕ) → r < length xs → BackFrom xs r place → Moved xs (Taken note) (On r place)
    unfolding before_of left_of placed sung_each sung_word
    moved_to place h b =
        record {
          reached = λ e. apart (kind_at xs r) e w.here;
          sung = λ hints n v ws notes.
              let l = left_from xs (r + 1) in
              let bars : (left_from xs (note + 1)).1 ≡ (r, l.0) ∷ l.1 =
              bars_behind hints ∙ ap (λ (x : Left). x.1) (left_here xs r h ∙ with_first r l (kind_at xs r) w.here) in
              ap (λ (o : Option ℕ). sing_on v o ws (r ∷ l.0) l.1 notes) (ap note_at (b hints w.here) ∙ sym (last_before hints n))
              ∙ ap (λ (bs : List SungBar). sing_on v (some note) (bar ∷ ws) (left_from xs (note + 1)).0 bs notes) (sym bars);
        }

    pub moved_over : length xs ≤ r → Moved xs (Taken note) Over
    unfolding before_of left_of placed sung_each sung_word
    moved_over h =
        record {
          reached = tt;
          sung = λ hints n v ws notes.
              lapsed v ws notes
              ∙ ap (λ (bs : List SungBar). sing_on v (some note) (bar ∷ ws) (left_from xs (note + 1)).0 bs notes) (sym (bars_behind hints ∙ ap (λ (x : Left). x.1) (left_over xs r h)));
        }

  -- where no word has taken it yet
  bar_same : (v : ℕ) (ws : List Word) (b : Option ℕ) (i : ℕ) (g : List ℕ) (bs : List SungBar) (notes : List (List Syllable))
      → sing_on v (some i) (bar ∷ ws) g bs notes ≡ sing_on v b (bar ∷ ws) (i ∷ g) bs notes
  unfolding placed sung_each sung_word last_or
  bar_same v ws b i g [] notes = refl
  bar_same v ws b i g ((k, h) ∷ bs) notes = refl

  pub moved_on : (note place : ℕ) (r : Stand) → Moved xs (Taken note) r → Moved xs (On note place) r
  unfolding before_of left_of
  moved_on note place r m =
      record {
        reached = m.reached;
        sung = λ hints n v ws notes. m.sung hints n v ws notes ∙ bar_same v ws (note_at place) note (left_from xs (note + 1)).0 (left_from xs (note + 1)).1 notes;
      }

  -- nowhere
  pub moved_none : Moved xs Over Over
  unfolding before_of left_of placed sung_each sung_word
  moved_none = record { reached = tt; sung = λ hints n v ws notes. lapsed v ws notes }
