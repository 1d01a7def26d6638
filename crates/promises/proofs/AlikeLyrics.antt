-- THE LYRICS OF BOTH EDITIONS ALIKE: words without bars, on notes each of which takes a syllable, go where the first edition puts them.
use Prim.Native.Nat.{ℕ, zero, suc, ◌+◌, ◌-◌, ◌≤◌, ◌<◌}
use mathlib.Core.Path.{◌≡◌, refl, sym, ap, ◌∙◌}
use mathlib.Core.Bool.{Bool, true, false}
use mathlib.Core.Option.{Option, none, some}
use mathlib.Core.List.{List, [], ◌∷◌, ◌++◌, map, append-nil}
use native.Mathlib.Omega.{arith}
use lib.Dec.{leb}
use lib.ListN.{length}
use borrow.Author.Tests.{le-leb, lt-leb, leb-true, leb-false}
use Rattle.laws.specs.Lists.{All, eq_text, elem, alter_at, filter, concat}
use Rattle.laws.proofs.Bools.{by_test, not_true, or_no_left, or_no_right}
use Rattle.laws.proofs.Lists.{All-append, All-map, length_alter_at, filter_append, filter_whole, filter_none}
use Rattle.standard.specs.Bytes.{ascii, is, first, last}
use Rattle.standard.specs.Passes.{rising}
use Rattle.standard.specs.Lyrics.{Word, skip, hold, bar, syllable, syllables, SungBar, placed}
use Rattle.reader.specs.Pieces.{words, separator, white_at}
use Rattle.reader.specs.State.{Sung}
use Rattle.reader.specs.Lyrics.{Syllable, or_skip, word_of, words_of, lyric_words, put, held, sing, sung_by, held_at, sung_at, sing_on, sing_bars, bar_of, bars_from, sung_by_bars, sung_word, sung_each}
use Rattle.promises.specs.Alike.{no_bar}

-- WORDS WITHOUT BARS
abbrev NotBar : Word → Type 0
NotBar skip = Unit {0}
NotBar hold = Unit {0}
NotBar bar = ⊥
NotBar (syllable c t) = Unit {0}

syllables_not : (b a : Bool) (ps : List (List ℕ)) → All NotBar (syllables b a ps)
unfolding syllables
syllables_not b a [] = tt
syllables_not b a (p ∷ []) = (tt, tt)
syllables_not b a (p ∷ q ∷ ps) = (tt, syllables_not true a (q ∷ ps))

skip_not : (ws : List Word) → All NotBar ws → All NotBar (or_skip ws)
unfolding or_skip
skip_not [] h = (tt, tt)
skip_not (w ∷ ws) h = h

word_not : (w : List ℕ) → eq_text w (ascii "|") ≡ false → All NotBar (word_of w)
unfolding word_of
word_not w e =
    rw (e, word_of)
    (by_test (eq_text w (ascii "*")) (λ f. rw (f, word_of) (tt, tt))
    (λ f. rw (f, word_of) (by_test (eq_text w (ascii "_")) (λ g. rw (g, word_of) (tt, tt)) (λ g. rw (g, word_of) (skip_not _ (syllables_not (is "-" (first w)) (is "-" (last w)) (words (separator (is "-")) w)))))))

words_not : (ws : List (List ℕ)) → elem (ascii "|") ws ≡ false → All NotBar (words_of ws)
unfolding words_of
words_not [] h = tt
words_not (w ∷ ws) h =
    All-append NotBar (word_of w) (words_of ws) (word_not w (or_no_left (eq_text w (ascii "|")) (elem (ascii "|") ws) h)) (words_not ws (or_no_right (eq_text w (ascii "|")) (elem (ascii "|") ws) h))

pub no_bar_lem : (t : List ℕ) → no_bar t ≡ true → All NotBar (lyric_words t)
unfolding lyric_words
no_bar_lem t h = words_not (words white_at t) (not_true _ h)

-- THE MEASURES OF A LINE IN ONE ROW
flat : List ℕ → List SungBar → List ℕ
flat g [] = g
flat g ((i, h) ∷ bs) = g ++ flat (i ∷ h) bs

flat_cons : (i : ℕ) (g : List ℕ) (bs : List SungBar) → flat (i ∷ g) bs ≡ i ∷ flat g bs
unfolding flat
flat_cons i g [] = refl
flat_cons i g ((j, h) ∷ bs) = refl

flat_on : (g : List ℕ) (bs : List SungBar) → flat g bs ≡ g ++ flat [] bs
unfolding flat
flat_on g [] = sym (append-nil g)
flat_on g ((j, h) ∷ bs) = refl

-- without bars it does not matter where a measure ends
on_row : (v : ℕ) (before : Option ℕ) (ws : List Word) (g : List ℕ) (bs : List SungBar) (ns : List (List Syllable)) → All NotBar ws → sing_on v before ws g bs ns ≡ sing_on v before ws (flat g bs) [] ns
unfolding placed sung_each sung_word flat
on_row v before [] g bs ns h = refl
on_row v before (bar ∷ ws) g bs ns h = absurd h.0
on_row v before (skip ∷ ws) (i ∷ g) bs ns h = on_row v (some i) ws g bs ns h.1 ∙ sym (ap (λ (l : List ℕ). sing_on v before (skip ∷ ws) l [] ns) (flat_cons i g bs))
on_row v before (skip ∷ ws) [] ((i, k) ∷ bs) ns h = on_row v (some i) ws k bs ns h.1 ∙ sym (ap (λ (l : List ℕ). sing_on v before (skip ∷ ws) l [] ns) (flat_cons i k bs))
on_row v before (skip ∷ ws) [] [] ns h = refl
on_row v before (hold ∷ ws) (i ∷ g) bs ns h = on_row v (some i) ws g bs _ h.1 ∙ sym (ap (λ (l : List ℕ). sing_on v before (hold ∷ ws) l [] ns) (flat_cons i g bs))
on_row v before (hold ∷ ws) [] ((i, k) ∷ bs) ns h = on_row v (some i) ws k bs _ h.1 ∙ sym (ap (λ (l : List ℕ). sing_on v before (hold ∷ ws) l [] ns) (flat_cons i k bs))
on_row v before (hold ∷ ws) [] [] ns h = refl
on_row v before (syllable c t ∷ ws) (i ∷ g) bs ns h = on_row v (some i) ws g bs _ h.1 ∙ sym (ap (λ (l : List ℕ). sing_on v before (syllable c t ∷ ws) l [] ns) (flat_cons i g bs))
on_row v before (syllable c t ∷ ws) [] ((i, k) ∷ bs) ns h = on_row v (some i) ws k bs _ h.1 ∙ sym (ap (λ (l : List ℕ). sing_on v before (syllable c t ∷ ws) l [] ns) (flat_cons i k bs))
on_row v before (syllable c t ∷ ws) [] [] ns h = refl

-- PAST THE LAST NOTE nothing is written
on_past : (v : ℕ) (ws : List Word) (ns : List (List Syllable)) → sing_on v none ws [] [] ns ≡ ns
unfolding placed sung_each sung_word held_at
on_past v [] ns = refl
on_past v (bar ∷ ws) ns = refl
on_past v (skip ∷ ws) ns = on_past v ws ns
on_past v (hold ∷ ws) ns = on_past v ws ns
on_past v (syllable c t ∷ ws) ns = on_past v ws ns

alter_past : (k : ℕ) (f : List Syllable → List Syllable) (ns : List (List Syllable)) → length ns ≤ k → alter_at k f ns ≡ ns
alter_past k f [] h = refl
alter_past zero f (n ∷ ns) h = absurd (omega (arith, h))
alter_past (suc k) f (n ∷ ns) h = ap (λ (l : List (List Syllable)). n ∷ l) (alter_past k f ns (omega (arith, h)))

sing_past : (start v i : ℕ) (ws : List Word) (ns : List (List Syllable)) → length ns ≤ start + i → sing start v (suc i) ws ns ≡ ns
unfolding sing
sing_past start v i [] ns h = refl
sing_past start v i (bar ∷ ws) ns h = sing_past start v i ws ns h
sing_past start v i (skip ∷ ws) ns h = sing_past start v (suc i) ws ns (omega (arith, h))
sing_past start v i (hold ∷ ws) ns h = ap (sing start v (suc (suc i)) ws) (alter_past (start + i) (map (held v)) ns h) ∙ sing_past start v (suc i) ws ns (omega (arith, h))
sing_past start v i (syllable c t ∷ ws) ns h = ap (sing start v (suc (suc i)) ws) (alter_past (start + suc i) _ ns (omega (arith, h))) ∙ sing_past start v (suc i) ws ns (omega (arith, h))

sing_none : (start v : ℕ) (ws : List Word) (ns : List (List Syllable)) → length ns ≤ start → sing start v 0 ws ns ≡ ns
unfolding sing
sing_none start v [] ns h = refl
sing_none start v (bar ∷ ws) ns h = sing_none start v ws ns h
sing_none start v (skip ∷ ws) ns h = sing_past start v 0 ws ns (omega (arith, h))
sing_none start v (hold ∷ ws) ns h = sing_past start v 0 ws ns (omega (arith, h))
sing_none start v (syllable c t ∷ ws) ns h = ap (sing start v 1 ws) (alter_past (start + 0) _ ns (omega (arith, h))) ∙ sing_past start v 0 ws ns (omega (arith, h))

-- ON THE NOTES FROM start ON, in a row, of which i are taken and m are left
passed : ℕ → ℕ → Option ℕ
passed start zero = none
passed start (suc i) = some (start + i)

sing_row : (start v i m : ℕ) (ws : List Word) (ns : List (List Syllable)) → All NotBar ws → length ns ≡ start + i + m → sing_on v (passed start i) ws (rising (start + i) m) [] ns ≡ sing start v i ws ns
unfolding placed sung_each sung_word sing rising passed held_at sung_at
sing_row start v i m [] ns h e = refl
sing_row start v i m (bar ∷ ws) ns h e = absurd h.0
sing_row start v i zero (skip ∷ ws) ns h e = on_past v ws ns ∙ sym (sing_past start v i ws ns (omega (arith, e)))
sing_row start v i (suc m) (skip ∷ ws) ns h e =
    let k : suc (start + i) ≡ start + suc i = omega arith in
    ap (λ (a : ℕ). sing_on v (some (start + i)) ws (rising a m) [] ns) k ∙ sing_row start v (suc i) m ws ns h.1 (omega (arith, e))
sing_row start v zero zero (hold ∷ ws) ns h e = on_past v ws ns ∙ sym (sing_past start v 0 ws ns (omega (arith, e)))
sing_row start v (suc i) zero (hold ∷ ws) ns h e =
    let f = map (held v) in
    on_past v ws (alter_at (start + i) f ns) ∙ sym (sing_past start v (suc i) ws (alter_at (start + i) f ns) (omega (arith, e, length_alter_at (start + i) f ns)))
sing_row start v zero (suc m) (hold ∷ ws) ns h e =
    let k : suc (start + 0) ≡ start + 1 = omega arith in
    ap (λ (a : ℕ). sing_on v (some (start + 0)) ws (rising a m) [] ns) k ∙ sing_row start v 1 m ws ns h.1 (omega (arith, e))
sing_row start v (suc i) (suc m) (hold ∷ ws) ns h e =
    let k : suc (start + suc i) ≡ start + suc (suc i) = omega arith in
    let f = map (held v) in
    ap (λ (a : ℕ). sing_on v (some (start + suc i)) ws (rising a m) [] (alter_at (start + i) f ns)) k
    ∙ sing_row start v (suc (suc i)) m ws (alter_at (start + i) f ns) h.1 (omega (arith, e, length_alter_at (start + i) f ns))
sing_row start v i zero (syllable c t ∷ ws) ns h e =
    let f = put (record { verse = v; syllabic = c; extend = false; text = t }) in
    on_past v ws ns ∙ sym (ap (sing start v (suc i) ws) (alter_past (start + i) f ns (omega (arith, e))) ∙ sing_past start v i ws ns (omega (arith, e)))
sing_row start v i (suc m) (syllable c t ∷ ws) ns h e =
    let k : suc (start + i) ≡ start + suc i = omega arith in
    let f = put (record { verse = v; syllabic = c; extend = false; text = t }) in
    ap (λ (a : ℕ). sing_on v (some (start + i)) ws (rising a m) [] (alter_at (start + i) f ns)) k
    ∙ sing_row start v (suc i) m ws (alter_at (start + i) f ns) h.1 (omega (arith, e, length_alter_at (start + i) f ns))

-- NUMBERS IN A ROW
pub rising_append : (a m n : ℕ) → rising a (m + n) ≡ rising a m ++ rising (a + m) n
unfolding rising
rising_append a zero n = let k : 0 + n ≡ n = omega arith in let j : a ≡ a + 0 = omega arith in λ i. rising (j i) (k i)
rising_append a (suc m) n =
    let k : suc m + n ≡ suc (m + n) = omega arith in
    let j : suc a + m ≡ a + suc m = omega arith in
    ap (rising a) k ∙ ap (λ (l : List ℕ). a ∷ l) (rising_append (suc a) m n ∙ ap (λ (b : ℕ). rising (suc a) m ++ rising b n) j)

rising_range : (a n : ℕ) → All (λ x. (a ≤ x) × (x < a + n)) (rising a n)
unfolding rising
rising_range a zero = tt
rising_range a (suc n) = ((omega arith, omega arith), All-map _ _ (λ x h. (omega (arith, h.0), omega (arith, h.1))) (rising (suc a) n) (rising_range (suc a) n))

-- those from start on
from_start : (start m : ℕ) → filter (leb start) (rising 0 (start + m)) ≡ rising start m
from_start start m =
    ap (filter (leb start)) (rising_append 0 start m)
    ∙ filter_append (leb start) (rising 0 start) (rising (0 + start) m)
    ∙ (λ i. filter_none (leb start) (rising 0 start) (All-map _ _ (λ x h. lt-leb start x (omega (arith, h.1))) (rising 0 start) (rising_range 0 start)) i
    ++ filter_whole (leb start) (rising (0 + start) m) (All-map _ _ (λ x h. le-leb start x (omega (arith, h.0))) (rising (0 + start) m) (rising_range (0 + start) m)) i)
    ∙ ap (λ (a : ℕ). rising a m) (let k : 0 + start ≡ start = omega arith in k)

past_start : (start n : ℕ) → n < start → filter (leb start) (rising 0 n) ≡ []
past_start start n h = filter_none (leb start) (rising 0 n) (All-map _ _ (λ x k. lt-leb start x (omega (arith, h, k.1))) (rising 0 n) (rising_range 0 n))

-- the notes of a line's measures
bar_flat : (is : List ℕ) (bs : List SungBar) → flat [] (bar_of is ++ bs) ≡ is ++ flat [] bs
unfolding flat bar_of
bar_flat [] bs = refl
bar_flat (i ∷ is) bs = flat_on (i ∷ is) bs

bars_flat : (start : ℕ) (ms : List (List ℕ)) → flat [] (bars_from start ms) ≡ filter (leb start) (concat ms)
unfolding bars_from flat
bars_flat start [] = refl
bars_flat start (is ∷ ms) =
    bar_flat (filter (leb start) is) (bars_from start ms) ∙ ap (λ (l : List ℕ). filter (leb start) is ++ l) (bars_flat start ms) ∙ sym (filter_append (leb start) is (concat ms))

bars_row : (v : ℕ) (ws : List Word) (bs : List SungBar) (ns : List (List Syllable)) → All NotBar ws → sing_bars v ws bs ns ≡ sing_on v none ws (flat [] bs) [] ns
unfolding sing_bars flat
bars_row v ws [] ns h = sym (on_past v ws ns)
bars_row v ws ((i, k) ∷ bs) ns h = on_row v none ws (i ∷ k) bs ns h

-- A LINE, where every note takes a syllable
line_alike : (start v : ℕ) (ws : List Word) (ms : List (List ℕ)) (ns : List (List Syllable)) → All NotBar ws → concat ms ≡ rising 0 (length ns) → sing_bars v ws (bars_from start ms) ns ≡ sing start v 0 ws ns
unfolding passed
line_alike start v ws ms ns h e =
    bars_row v ws (bars_from start ms) ns h ∙ ap (λ (l : List ℕ). sing_on v none ws l [] ns) (bars_flat start ms ∙ ap (filter (leb start)) e)
    ∙ by_test (leb start (length ns)) (λ t. inside (leb-true start (length ns) t)) (λ t. outside (leb-false start (length ns) t))
  where
    outside : length ns < start → sing_on v none ws (filter (leb start) (rising 0 (length ns))) [] ns ≡ sing start v 0 ws ns
    outside l = ap (λ (r : List ℕ). sing_on v none ws r [] ns) (past_start start (length ns) l) ∙ on_past v ws ns ∙ sym (sing_none start v ws ns (omega (arith, l)))

    row : (m : ℕ) → length ns ≡ start + m → sing_on v none ws (filter (leb start) (rising 0 (length ns))) [] ns ≡ sing start v 0 ws ns
    row m q =
        let k : start ≡ start + 0 = omega arith in
        ap (λ (n : ℕ). sing_on v none ws (filter (leb start) (rising 0 n)) [] ns) q ∙ ap (λ (r : List ℕ). sing_on v none ws r [] ns) (from_start start m ∙ ap (λ (a : ℕ). rising a m) k)
        ∙ sing_row start v 0 m ws ns h (omega (arith, q))

    inside : start ≤ length ns → sing_on v none ws (filter (leb start) (rising 0 (length ns))) [] ns ≡ sing start v 0 ws ns
    inside l = row (length ns - start) (omega (arith, l))

sing_length : (start v i : ℕ) (ws : List Word) (ns : List (List Syllable)) → length (sing start v i ws ns) ≡ length ns
unfolding sing
sing_length start v i [] ns = refl
sing_length start v i (bar ∷ ws) ns = sing_length start v i ws ns
sing_length start v i (skip ∷ ws) ns = sing_length start v (suc i) ws ns
sing_length start v zero (hold ∷ ws) ns = sing_length start v 1 ws ns
sing_length start v (suc i) (hold ∷ ws) ns = sing_length start v (suc (suc i)) ws _ ∙ length_alter_at (start + i) _ ns
sing_length start v i (syllable c t ∷ ws) ns = sing_length start v (suc i) ws _ ∙ length_alter_at (start + i) _ ns

-- ALL LINES OF A PART
pub lines_alike : (ms : List (List ℕ)) (ls : List Sung) (ns : List (List Syllable)) → All (λ (l : Sung). no_bar l.text ≡ true) ls → concat ms ≡ rising 0 (length ns) → sung_by ls ns ≡ sung_by_bars ms ls ns
unfolding sung_by sung_by_bars
lines_alike ms [] ns h e = refl
lines_alike ms (l ∷ ls) ns h e =
    let ws = lyric_words l.text in
    let q = line_alike l.start l.verse ws ms ns (no_bar_lem l.text h.0) e in
    lines_alike ms ls (sing l.start l.verse 0 ws ns) h.1 (e ∙ ap (rising 0) (sym (sing_length l.start l.verse 0 ws ns))) ∙ ap (sung_by_bars ms ls) (sym q)
