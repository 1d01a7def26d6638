-- THE LYRIC CONDITION in three readings that say the same, and as a test. For every reader. Assumes nothing.
use mathlib.Core.Path.{◌≡◌, refl, sym, ap, subst, ◌∙◌}
use mathlib.Core.Logic.{◌⊎◌, inl, inr, ⊎_elim}
use mathlib.Core.Bool.{Bool, true, false, cond, true≢false, false≢true}
use mathlib.Core.List.{List, [], ◌∷◌, ◌++◌, append_assoc}
use Rattle.laws.specs.Lists.{All}
use Rattle.laws.proofs.Bools.{by_test}
use Rattle.laws.proofs.Lists.{All-left}
use Rattle.reader.specs.Lines.{is_lyric}
use Rattle.reader.specs.Steps.{TextLine}
use Rattle.blocks.specs.Frame.{Reader, Music, LyricsAfterMusic}
use Rattle.blocks.proofs.Runs.{Mute, music_right, sung_yes, sung_map, sung_right}

module _ (R : Reader) where
  -- Literal: no line before the first music line is a lyric line
  abbrev pub Literal : List TextLine → Type 0
  Literal rs = (xs ys : List TextLine) (r : TextLine) → rs ≡ xs ++ (r ∷ ys) → R.is_music r ≡ true → All (λ x. R.is_music x ≡ false) xs → All (λ x. is_lyric x ≡ false) xs

  -- A lyric line with a music line after it has one before it.
  abbrev pub Between : List TextLine → Type 0
  Between rs = (xs ys : List TextLine) (r : TextLine) → rs ≡ xs ++ (r ∷ ys) → is_lyric r ≡ true → Music R ys → Music R xs

  -- As it is used: if some line is music, each lyric line has a music line before it.
  abbrev pub Stepwise : List TextLine → Type 0
  Stepwise rs = Music R rs → LyricsAfterMusic R ⊥ rs

  first_music : (rs : List TextLine) → Music R rs → (xs : List TextLine) × (ys : List TextLine) × (r : TextLine) × (rs ≡ xs ++ (r ∷ ys)) × (R.is_music r ≡ true) × All (Mute R) xs
  first_music [] m = absurd m
  first_music (r ∷ rs) m =
      let rest : Music R rs → (xs : List TextLine) × (ys : List TextLine) × (q : TextLine) × (rs ≡ xs ++ (q ∷ ys)) × (R.is_music q ≡ true) × All (Mute R) xs = first_music rs in
      by_test
      (R.is_music r)
      (λ e. ([], rs, r, refl, e, tt))
      (λ e. more e (rest (⊎_elim (λ x. absurd (true≢false (sym x ∙ e))) (λ x. x) m)))
    where
      more : R.is_music r ≡ false → (xs : List TextLine) × (ys : List TextLine) × (q : TextLine) × (rs ≡ xs ++ (q ∷ ys)) × (R.is_music q ≡ true) × All (Mute R) xs →
          (xs : List TextLine) × (ys : List TextLine) × (q : TextLine) × (◌≡◌ {A = List TextLine} (r ∷ rs) (xs ++ (q ∷ ys))) × (R.is_music q ≡ true) × All (Mute R) xs
      more e q = (r ∷ q.0, q.1, q.2, (λ i. r ∷ q.3 i), q.4, (e, q.5))

  mute_no : (rs : List TextLine) → All (Mute R) rs → Music R rs → ⊥
  mute_no [] h m = m
  mute_no (r ∷ rs) h m = ⊎_elim (λ x. true≢false (sym x ∙ h.0)) (λ x. mute_no rs h.1 x) m

  -- given that no line is both
  pub literal_stepwise : ((r : TextLine) → R.is_music r ≡ true → is_lyric r ≡ false) → (rs : List TextLine) → Literal rs → Stepwise rs
  literal_stepwise w [] h m = tt
  literal_stepwise w (r ∷ rs) h m =
      let rest : Literal rs → Stepwise rs = literal_stepwise w rs in
      by_test
      (R.is_music r)
      (λ e. (λ l. absurd (true≢false (sym l ∙ w r e)), sung_yes R (⊥ ⊎ (R.is_music r ≡ true)) (inr e) rs))
      (λ e.
      let k : Music R rs = ⊎_elim (λ x. absurd (true≢false (sym x ∙ e))) (λ x. x) m in (
        λ l. absurd (true≢false (sym l ∙ before e (first_music rs k))),
        sung_map R ⊥ (⊥ ⊎ (R.is_music r ≡ true)) (λ x. absurd x) rs (rest (λ xs ys q d x y. (h (r ∷ xs) ys q (λ i. r ∷ d i) x (e, y)).1) k),
      ))
    where
      before : R.is_music r ≡ false → (xs : List TextLine) × (ys : List TextLine) × (q : TextLine) × (rs ≡ xs ++ (q ∷ ys)) × (R.is_music q ≡ true) × All (Mute R) xs → is_lyric r ≡ false
      before e q = (h (r ∷ q.0) q.1 q.2 (λ i. r ∷ q.3 i) q.4 (e, q.5)).0

  pub stepwise_between : (rs : List TextLine) → Stepwise rs → Between rs
  stepwise_between rs h xs ys r e l m =
      ⊎_elim
      (λ x. absurd x)
      (λ x. x)
      ((sung_right R ⊥ xs (r ∷ ys) (subst (LyricsAfterMusic R ⊥) e (h (subst (Music R) (sym e) (music_right R xs (r ∷ ys) (inr m)))))).0 l)

  some_lyric : (xs : List TextLine) → ((front : List TextLine) × (back : List TextLine) × (x : TextLine) × (xs ≡ front ++ (x ∷ back)) × (is_lyric x ≡ true)) ⊎ All (λ x. is_lyric x ≡ false) xs
  some_lyric [] = inr tt
  some_lyric (x ∷ xs) =
      let rest : ((front : List TextLine) × (back : List TextLine) × (y : TextLine) × (xs ≡ front ++ (y ∷ back)) × (is_lyric y ≡ true)) ⊎ All (λ y. is_lyric y ≡ false) xs = some_lyric xs in
      by_test
      (is_lyric x)
      (λ e. inl ([], xs, x, refl, e))
      (λ e. ⊎_elim (λ q. inl (x ∷ q.0, q.1, q.2, (λ i. x ∷ q.3 i), q.4)) (λ q. inr (e, q)) rest)

  pub between_literal : (rs : List TextLine) → Between rs → Literal rs
  between_literal rs h xs ys r e m mu = ⊎_elim (λ q. absurd (no q)) (λ q. q) (some_lyric xs)
    where
      no : (front : List TextLine) × (back : List TextLine) × (x : TextLine) × (xs ≡ front ++ (x ∷ back)) × (is_lyric x ≡ true) → ⊥
      no q =
          mute_no q.0 (All-left (Mute R) q.0 (q.2 ∷ q.1) (subst (All (Mute R)) q.3 mu))
          (h q.0 (q.1 ++ (r ∷ ys)) q.2
          (e ∙ ap (λ (l : List TextLine). l ++ (r ∷ ys)) q.3 ∙ append_assoc q.0 (q.2 ∷ q.1) (r ∷ ys))
          q.4
          (music_right R q.1 (r ∷ ys) (inl m)))

  -- The literal reading as a test, for whoever must decide it.
  abbrev pub any_music : List TextLine → Bool
  any_music [] = false
  any_music (r ∷ rs) = cond (R.is_music r) true (any_music rs)

  abbrev pub behind? : List TextLine → Bool
  behind? [] = true
  behind? (r ∷ rs) = cond (R.is_music r) true (cond (is_lyric r) (cond (any_music rs) false true) (behind? rs))

  any_music_lem : (xs ys : List TextLine) (r : TextLine) → R.is_music r ≡ true → any_music (xs ++ (r ∷ ys)) ≡ true
  any_music_lem [] ys r m = ap (λ (b : Bool). cond b true (any_music ys)) m
  any_music_lem (x ∷ xs) ys r m = go (R.is_music x) (any_music_lem xs ys r m)
    where
      go : (b : Bool) → any_music (xs ++ (r ∷ ys)) ≡ true → cond b true (any_music (xs ++ (r ∷ ys))) ≡ true
      go true h = refl
      go false h = h

  music_any : (rs : List TextLine) → any_music rs ≡ true → Music R rs
  music_any [] h = absurd (false≢true h)
  music_any (r ∷ rs) h =
      let rest : any_music rs ≡ true → Music R rs = music_any rs in
      by_test (R.is_music r) (λ e. inl e) (λ e. inr (rest (sym (ap (λ (b : Bool). cond b true (any_music rs)) e) ∙ h)))

  test_from : (xs ys : List TextLine) (r : TextLine) → behind? (xs ++ (r ∷ ys)) ≡ true → R.is_music r ≡ true → All (Mute R) xs → All (λ x. is_lyric x ≡ false) xs
  test_from [] ys r h m q = tt
  test_from (x ∷ xs) ys r h m q =
      let rest : behind? (xs ++ (r ∷ ys)) ≡ true → All (λ y. is_lyric y ≡ false) xs = λ k. test_from xs ys r k m q.1 in
      let k : cond (is_lyric x) (cond (any_music (xs ++ (r ∷ ys))) false true) (behind? (xs ++ (r ∷ ys))) ≡ true
      = sym (ap (λ (b : Bool). cond b true (cond (is_lyric x) (cond (any_music (xs ++ (r ∷ ys))) false true) (behind? (xs ++ (r ∷ ys))))) q.0) ∙ h in
      by_test
      (is_lyric x)
      (λ e.
      absurd
      (false≢true
      (sym
      ((λ i. cond (e i) (cond (any_music (xs ++ (r ∷ ys))) false true) (behind? (xs ++ (r ∷ ys)))) ∙ ap (λ (b : Bool). cond b false true) (any_music_lem xs ys r m))
      ∙ k)))
      (λ e. (e, rest (sym (ap (λ (b : Bool). cond b (cond (any_music (xs ++ (r ∷ ys))) false true) (behind? (xs ++ (r ∷ ys)))) e) ∙ k)))

  pub test_literal : (rs : List TextLine) → behind? rs ≡ true → Literal rs
  test_literal rs h xs ys r e m q = test_from xs ys r (subst (λ (l : List TextLine). behind? l ≡ true) e h) m q

  pub literal_test : (rs : List TextLine) → Literal rs → behind? rs ≡ true
  literal_test [] h = refl
  literal_test (r ∷ rs) h =
      let rest : Literal rs → behind? rs ≡ true = literal_test rs in
      by_test
      (R.is_music r)
      (λ e. ap (λ (b : Bool). cond b true (cond (is_lyric r) (cond (any_music rs) false true) (behind? rs))) e)
      (λ e.
      ap (λ (b : Bool). cond b true (cond (is_lyric r) (cond (any_music rs) false true) (behind? rs))) e
      ∙ by_test
      (is_lyric r)
      (λ l.
      ap (λ (b : Bool). cond b (cond (any_music rs) false true) (behind? rs)) l
      ∙ by_test
      (any_music rs)
      (λ a. absurd (true≢false (sym l ∙ before e (first_music rs (music_any rs a)))))
      (λ a. ap (λ (b : Bool). cond b false true) a))
      (λ l.
      ap (λ (b : Bool). cond b (cond (any_music rs) false true) (behind? rs)) l
      ∙ rest (λ xs ys q d x y. (h (r ∷ xs) ys q (λ i. r ∷ d i) x (e, y)).1)))
    where
      before : R.is_music r ≡ false → (xs : List TextLine) × (ys : List TextLine) × (q : TextLine) × (rs ≡ xs ++ (q ∷ ys)) × (R.is_music q ≡ true) × All (Mute R) xs → is_lyric r ≡ false
      before e q = (h (r ∷ q.0) q.1 q.2 (λ i. r ∷ q.3 i) q.4 (e, q.5)).0
