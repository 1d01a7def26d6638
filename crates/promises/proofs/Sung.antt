-- EVERY LYRIC RECORD STANDS ON A NOTE OF VOICE 0 THAT IS NO REST, in the second edition no grace note either, one at most for a note and a verse, in every reading. Assumes nothing.
use Prim.Native.Nat.{ℕ, zero, suc, ◌+◌, ◌<◌, ◌≤◌, max}
use mathlib.Core.Path.{◌≡◌, refl, sym, ap, subst, ◌∙◌}
use mathlib.Core.Logic.{◌⊎◌, inl, inr, ⊎_elim}
use mathlib.Core.Bool.{true, false, not}
use mathlib.Core.Option.{Option, none, some}
use mathlib.Core.List.{List, [], ◌∷◌, ◌++◌, map, reverse, append_assoc, append-nil}
use native.Mathlib.Omega.{arith}
use native.Mathlib.Nat.{zero-add}
use lib.Dec.{eqb, ltb, leb}
use lib.ListN.{length, get_elem?, replicate, length-append, get_or}
use borrow.Author.Tests.{eqb-true, ltb-true, ltb-false, eqb-false, ne_eqb}
use Rattle.laws.specs.Lists.{All, any, alter_at, filter, foldl}
use Rattle.laws.proofs.Bools.{by_test, both_true, eqb_same, and_both, and_no_left}
use Rattle.laws.proofs.Lists.{All-append, All-alter_at, filter_append, get_or_alter_at_other, filter_passes, All-filter, filter_yes, filter_no}
use Rattle.standard.specs.Keys.{Key}
use Rattle.standard.specs.Lyrics.{Word, skip, hold, bar, syllable, SungBar, last_or, placed}
use Rattle.standard.specs.Notes.{is_sounded}
use Rattle.editions.specs.declared.Edition.{Edition}
use Rattle.editions.specs.declared.Edition.TheVariants.{First, Second}
use Rattle.reader.specs.Text.{text_lines}
use Rattle.reader.specs.Steps.{refuse, on, items_of}
use Rattle.reader.specs.Scan.{Item, Env, Out, scan}
use Rattle.reader.specs.State.{Note, Sung, PartState, Measure, new_part}
use Rattle.reader.specs.Lyrics.{Syllable, lyric_words, put, held, sing, sung_by, held_at, sing_on, sing_bars, sung_by_bars, sung_in, bar_of, bars_from, sung_at, sung_word, sung_each}
use Rattle.reader.specs.Part.{Part, empty_part, finished, build, takers, sounded_in, takers_in, finished_measures, on_item}
use Rattle.reader.specs.Records.{is_sung, lyrics_of, notes_of, lyrics, tagged, by_voice, all_notes}
use Rattle.reader.specs.Answer.{reading, is_music, built, parts, parse_abc}
use Rattle.promises.specs.Sung.{takes, OnSungNote, Before, InTurn, WellSung}
use Rattle.promises.proofs.Free.{parts_of, of_reading}

-- A NOTE'S SYLLABLES: verses rise
abbrev Rising : List Syllable → Type 0
Rising [] = Unit {0}
Rising (y ∷ ys) = All (λ z. y.verse < z.verse) ys × Rising ys

put_all : (P : Syllable → Type 0) (x : Syllable) (ys : List Syllable) → P x → All P ys → All P (put x ys)
unfolding put
put_all P x [] h k = (h, tt)
put_all P x (y ∷ ys) h k =
    let rest = put_all P x ys h k.1 in
    by_test (ltb y.verse x.verse) (λ e. rw (e, put) (k.0, rest))
    (λ e. by_test (eqb y.verse x.verse) (λ f. rw (e, f, put) (h, k.1)) (λ f. rw (e, f, put) (h, k)))

above : (a b : ℕ) (ys : List Syllable) → a ≤ b → All (λ z. b < z.verse) ys → All (λ z. a < z.verse) ys
above a b [] h k = tt
above a b (y ∷ ys) h k = (omega (arith, h, k.0), above a b ys h k.1)

not_same : (a b : ℕ) → eqb a b ≡ false → ltb a b ≡ false → b < a
not_same a b e f = by_test (ltb b a) (λ l. ltb-true b a l) (λ l. absurd (both_true (eqb a b) (eq (ltb-false a b f) (ltb-false b a l)) e))
  where
    eq : b ≤ a → a ≤ b → eqb a b ≡ true
    eq h k = let q : a ≡ b = omega (arith, h, k) in ap (λ (x : ℕ). eqb a x) (sym q) ∙ eqb_same a

put_rising : (x : Syllable) (ys : List Syllable) → Rising ys → Rising (put x ys)
unfolding put
put_rising x [] h = (tt, tt)
put_rising x (y ∷ ys) h =
    let rest = put_rising x ys h.1 in
    by_test (ltb y.verse x.verse) (λ e. rw (e, put) (put_all (λ z. y.verse < z.verse) x ys (ltb-true y.verse x.verse e) h.0, rest))
    (λ e. by_test (eqb y.verse x.verse)
    (λ f. rw (e, f, put) (above x.verse y.verse ys (omega (arith, eqb-true y.verse x.verse f)) h.0, h.1))
    (λ f. let l : x.verse < y.verse = not_same y.verse x.verse f e in rw (e, f, put) ((l, above x.verse y.verse ys (omega (arith, l)) h.0), h)))

held_verse : (v : ℕ) (y : Syllable) → (held v y).verse ≡ y.verse
unfolding held
held_verse v y = by_test (eqb y.verse v) (λ e. rw e) (λ e. rw e)

held_above : (v a b : ℕ) (ys : List Syllable) → b ≡ a → All (λ z. a < z.verse) ys → All (λ z. b < z.verse) (map (held v) ys)
held_above v a b [] e h = tt
held_above v a b (y ∷ ys) e h = (omega (arith, e, h.0, held_verse v y), held_above v a b ys e h.1)

held_rising : (v : ℕ) (ys : List Syllable) → Rising ys → Rising (map (held v) ys)
held_rising v [] h = tt
held_rising v (y ∷ ys) h = (held_above v y.verse (held v y).verse ys (held_verse v y) h.0, held_rising v ys h.1)

-- of all notes
abbrev AllRise : List (List Syllable) → Type 0
AllRise ws = All Rising ws

sing_rise : (start v i : ℕ) (ws : List Word) (ns : List (List Syllable)) → AllRise ns → AllRise (sing start v i ws ns)
unfolding sing
sing_rise start v i [] ns h = h
sing_rise start v i (bar ∷ ws) ns h = sing_rise start v i ws ns h
sing_rise start v i (skip ∷ ws) ns h = sing_rise start v (suc i) ws ns h
sing_rise start v zero (hold ∷ ws) ns h = sing_rise start v 1 ws ns h
sing_rise start v (suc i) (hold ∷ ws) ns h = sing_rise start v (suc (suc i)) ws _ (All-alter_at Rising (start + i) (map (held v)) (held_rising v) ns h)
sing_rise start v i (syllable c t ∷ ws) ns h = sing_rise start v (suc i) ws _ (All-alter_at Rising (start + i) _ (put_rising _) ns h)

sung_rise : (ls : List Sung) (ns : List (List Syllable)) → AllRise ns → AllRise (sung_by ls ns)
unfolding sung_by
sung_rise [] ns h = h
sung_rise (l ∷ ls) ns h = sung_rise ls _ (sing_rise l.start l.verse 0 (lyric_words l.text) ns h)

-- in the second edition
held_rise : (v : ℕ) (before : Option ℕ) (ns : List (List Syllable)) → AllRise ns → AllRise (held_at v before ns)
unfolding held_at
held_rise v none ns h = h
held_rise v (some i) ns h = All-alter_at Rising i (map (held v)) (held_rising v) ns h

on_rise : (v : ℕ) (before : Option ℕ) (ws : List Word) (g : List ℕ) (bs : List SungBar) (ns : List (List Syllable)) → AllRise ns → AllRise (sing_on v before ws g bs ns)
unfolding placed sung_each sung_word sung_at
on_rise v before [] g bs ns h = h
on_rise v before (bar ∷ ws) g [] ns h = h
on_rise v before (bar ∷ ws) g ((i, k) ∷ bs) ns h = on_rise v (last_or before g) ws (i ∷ k) bs ns h
on_rise v before (skip ∷ ws) (i ∷ g) bs ns h = on_rise v (some i) ws g bs ns h
on_rise v before (skip ∷ ws) [] ((i, k) ∷ bs) ns h = on_rise v (some i) ws k bs ns h
on_rise v before (skip ∷ ws) [] [] ns h = on_rise v none ws [] [] ns h
on_rise v before (hold ∷ ws) (i ∷ g) bs ns h = on_rise v (some i) ws g bs _ (held_rise v before ns h)
on_rise v before (hold ∷ ws) [] ((i, k) ∷ bs) ns h = on_rise v (some i) ws k bs _ (held_rise v before ns h)
on_rise v before (hold ∷ ws) [] [] ns h = on_rise v none ws [] [] _ (held_rise v before ns h)
on_rise v before (syllable c t ∷ ws) (i ∷ g) bs ns h = on_rise v (some i) ws g bs _ (All-alter_at Rising i _ (put_rising _) ns h)
on_rise v before (syllable c t ∷ ws) [] ((i, k) ∷ bs) ns h = on_rise v (some i) ws k bs _ (All-alter_at Rising i _ (put_rising _) ns h)
on_rise v before (syllable c t ∷ ws) [] [] ns h = on_rise v none ws [] [] ns h

bars_rise : (v : ℕ) (ws : List Word) (bs : List SungBar) (ns : List (List Syllable)) → AllRise ns → AllRise (sing_bars v ws bs ns)
unfolding sing_bars
bars_rise v ws [] ns h = h
bars_rise v ws ((i, k) ∷ bs) ns h = on_rise v none ws (i ∷ k) bs ns h

by_bars_rise : (ms : List (List ℕ)) (ls : List Sung) (ns : List (List Syllable)) → AllRise ns → AllRise (sung_by_bars ms ls ns)
unfolding sung_by_bars
by_bars_rise ms [] ns h = h
by_bars_rise ms (l ∷ ls) ns h = by_bars_rise ms ls _ (bars_rise l.verse (lyric_words l.text) (bars_from l.start ms) ns h)

in_rise : (ed : Edition) (ms : List (List ℕ)) (ls : List Sung) (ns : List (List Syllable)) → AllRise ns → AllRise (sung_in ed ms ls ns)
unfolding sung_in
in_rise First ms ls ns h = sung_rise ls ns h
in_rise Second ms ls ns h = by_bars_rise ms ls ns h

none_rise : (n : ℕ) → AllRise (replicate n [])
none_rise zero = tt
none_rise (suc n) = (tt, none_rise n)

finished_rise : (ed : Edition) (h : Key) (s : PartState) → AllRise (finished ed h s).words
unfolding finished
finished_rise ed h s = in_rise ed _ (reverse s.verses.lines) (replicate s.verses.sounded []) (none_rise s.verses.sounded)

built_rise : (ed : Edition) (e : Env) (is : List Item) → AllRise (built ed e is).words
unfolding built build empty_part
built_rise ed e is = by_test (any is_music is) (λ m. rw m (finished_rise ed e.header_key _)) (λ m. rw m tt)

-- THE NOTES THAT TAKE A SYLLABLE, by their places among the notes of voice 0 that are no rests
-- at place j of these notes stands one that takes a syllable
abbrev Taker : List (ℕ × Note) → ℕ → Type 0
Taker xs j = (x : ℕ × Note) × ((get_elem? xs j ≡ some x) × (takes Second x ≡ true))

get_elem_at : (pre : List (ℕ × Note)) (x : ℕ × Note) (bs : List (ℕ × Note)) (n : ℕ) → length pre ≡ n → get_elem? (pre ++ (x ∷ bs)) n ≡ some x
get_elem_at [] x bs zero e = refl
get_elem_at [] x bs (suc n) e = absurd (omega (arith, e))
get_elem_at (a ∷ pre) x bs zero e = absurd (omega (arith, e))
get_elem_at (a ∷ pre) x bs (suc n) e = get_elem_at pre x bs n (omega (arith, e))

one_more : (pre : List (ℕ × Note)) (x : ℕ × Note) (n : ℕ) → length pre ≡ n → length (pre ++ (x ∷ [])) ≡ suc n
one_more pre x n e = omega (arith, length-append pre (x ∷ []), e)

-- a voice with a note more at the front: a grace note, another one, a rest
pub takers_grace : (n : ℕ) (x : Note) (ns : List Note) → is_sounded x.kind ≡ true → x.flags.grace ≡ true → takers n (x ∷ ns) ≡ takers (suc n) ns
unfolding takers
takers_grace n x ns k g = rw (k, g, takers)

pub takers_note : (n : ℕ) (x : Note) (ns : List Note) → is_sounded x.kind ≡ true → x.flags.grace ≡ false → takers n (x ∷ ns) ≡ n ∷ takers (suc n) ns
unfolding takers
takers_note n x ns k g = rw (k, g, takers)

pub takers_rest : (n : ℕ) (x : Note) (ns : List Note) → is_sounded x.kind ≡ false → takers n (x ∷ ns) ≡ takers n ns
unfolding takers
takers_rest n x ns k = rw (k, takers)

sung_note : (x : Note) (ns : List Note) → is_sounded x.kind ≡ true → filter is_sung (tagged 0 (x ∷ ns)) ≡ (0, x) ∷ filter is_sung (tagged 0 ns)
unfolding tagged is_sung
sung_note x ns k = filter_yes is_sung (0, x) (tagged 0 ns) k

sung_rest : (x : Note) (ns : List Note) → is_sounded x.kind ≡ false → filter is_sung (tagged 0 (x ∷ ns)) ≡ filter is_sung (tagged 0 ns)
unfolding tagged is_sung
sung_rest x ns k = filter_no is_sung (0, x) (tagged 0 ns) k

takes_note : (x : Note) → is_sounded x.kind ≡ true → x.flags.grace ≡ false → takes Second (0, x) ≡ true
unfolding is_sung
takes_note x k g = and_both (is_sounded x.kind) (not x.flags.grace) k (ap not g)

takers_take : (pre post : List (ℕ × Note)) (n : ℕ) (ns : List Note) → length pre ≡ n → All (Taker (pre ++ (filter is_sung (tagged 0 ns) ++ post))) (takers n ns)
unfolding takers
takers_take pre post n [] e = tt
takers_take pre post n (x ∷ ns) e =
    let r = filter is_sung (tagged 0 ns) ++ post in
    let rec : All (Taker (pre ++ ((0, x) ∷ r))) (takers (suc n) ns) =
    subst (λ (l : List (ℕ × Note)). All (Taker l) (takers (suc n) ns)) (append_assoc pre ((0, x) ∷ []) r) (takers_take (pre ++ ((0, x) ∷ [])) post (suc n) ns (one_more pre (0, x) n e))
    in
    by_test (is_sounded x.kind)
    (λ k. by_test x.flags.grace (λ g. to (sung_note x ns k) (takers_grace n x ns k g) rec)
    (λ g. to (sung_note x ns k) (takers_note n x ns k g) (((0, x), (get_elem_at pre (0, x) r n e, takes_note x k g)), rec)))
    (λ k. to (sung_rest x ns k) (takers_rest n x ns k) (takers_take pre post n ns e))
  where
    to : {l : List (ℕ × Note)} {ts : List ℕ} → filter is_sung (tagged 0 (x ∷ ns)) ≡ l → takers n (x ∷ ns) ≡ ts → All (Taker (pre ++ (l ++ post))) ts → All (Taker (pre ++ (filter is_sung (tagged 0 (x ∷ ns)) ++ post))) (takers n (x ∷ ns))
    to {l} p q h = subst (λ (z : List (ℕ × Note)). All (Taker (pre ++ (z ++ post))) (takers n (x ∷ ns))) (sym p) (subst (λ (z : List ℕ). All (Taker (pre ++ (l ++ post))) z) (sym q) h)

-- as many as are counted
sung_count : (ns : List Note) → length (filter is_sung (tagged 0 ns)) ≡ sounded_in ns
unfolding sounded_in tagged is_sung
sung_count [] = refl
sung_count (x ∷ ns) = by_test (is_sounded x.kind) (λ k. rw (k, sounded_in, filter) (ap suc (sung_count ns))) (λ k. rw (k, sounded_in, filter) (sung_count ns))

-- no other voice has one
no_tagged : (v : ℕ) (ns : List Note) → filter is_sung (tagged (suc v) ns) ≡ []
unfolding tagged is_sung
no_tagged v [] = refl
no_tagged v (x ∷ ns) = filter_no is_sung (suc v, x) (tagged (suc v) ns) (and_no_left (eqb (suc v) 0) (is_sounded x.kind) (ne_eqb (suc v) 0 (λ e. absurd (omega (arith, e))))) ∙ no_tagged v ns

no_voice : (v : ℕ) (vs : List (List Note)) → filter is_sung (by_voice (suc v) vs) ≡ []
unfolding by_voice
no_voice v [] = refl
no_voice v (ns ∷ vs) = filter_append is_sung (tagged (suc v) ns) (by_voice (suc (suc v)) vs) ∙ (λ i. no_tagged v ns i ++ no_voice (suc v) vs i)

voice_0 : (vs : List (List Note)) → filter is_sung (by_voice 0 vs) ≡ filter is_sung (tagged 0 (get_or vs 0 []))
unfolding by_voice tagged
voice_0 [] = refl
voice_0 (ns ∷ vs) = filter_append is_sung (tagged 0 ns) (by_voice 1 vs) ∙ ap (λ (l : List (ℕ × Note)). filter is_sung (tagged 0 ns) ++ l) (no_voice 0 vs) ∙ append-nil _

-- of measures
all_take : (pre : List (ℕ × Note)) (n : ℕ) (ms : List Measure) → length pre ≡ n → All (All (Taker (pre ++ filter is_sung (all_notes ms)))) (takers_in n ms)
unfolding takers_in all_notes
all_take pre n [] e = tt
all_take pre n (m ∷ ms) e =
    let v = get_or m.voices 0 [] in
    let t = filter is_sung (tagged 0 v) in
    let r = filter is_sung (all_notes ms) in
    let q : filter is_sung (by_voice 0 m.voices ++ all_notes ms) ≡ t ++ r = filter_append is_sung (by_voice 0 m.voices) (all_notes ms) ∙ ap (λ (l : List (ℕ × Note)). l ++ r) (voice_0 m.voices) in
    subst (λ (l : List (ℕ × Note)). All (All (Taker (pre ++ l))) (takers n v ∷ takers_in (n + sounded_in v) ms)) (sym q) (
      takers_take pre r n v e,
      subst (λ (l : List (ℕ × Note)). All (All (Taker l)) (takers_in (n + sounded_in v) ms)) (append_assoc pre t r)
          (all_take (pre ++ t) (n + sounded_in v) ms (omega (arith, length-append pre t, sung_count v, e))),
    )

-- WORDS OF WHICH ONLY SUCH NOTES HAVE ONE
abbrev Only : List (ℕ × Note) → List (List Syllable) → Type 0
Only xs ws = (j : ℕ) → (get_or ws j [] ≡ []) ⊎ Taker xs j

alter_only : (xs : List (ℕ × Note)) (i : ℕ) (f : List Syllable → List Syllable) (ws : List (List Syllable)) → Taker xs i → Only xs ws → Only xs (alter_at i f ws)
alter_only xs i f ws t h j =
    by_test (eqb j i) (λ e. inr (subst (Taker xs) (sym (eqb-true j i e)) t))
    (λ e. ⊎_elim (λ q. inl (get_or_alter_at_other i j f ws [] (eqb-false j i e) ∙ q)) (λ q. inr q) (h j))

still_none : (v i j : ℕ) (ws : List (List Syllable)) → get_or ws j [] ≡ [] → get_or (alter_at i (map (held v)) ws) j [] ≡ []
still_none v i j [] e = e
still_none v zero zero (w ∷ ws) e = ap (map (held v)) e
still_none v zero (suc j) (w ∷ ws) e = e
still_none v (suc i) zero (w ∷ ws) e = e
still_none v (suc i) (suc j) (w ∷ ws) e = still_none v i j ws e

held_only : (xs : List (ℕ × Note)) (v : ℕ) (before : Option ℕ) (ws : List (List Syllable)) → Only xs ws → Only xs (held_at v before ws)
unfolding held_at
held_only xs v none ws h = h
held_only xs v (some i) ws h = λ j. ⊎_elim (λ e. inl (still_none v i j ws e)) (λ t. inr t) (h j)

abbrev BarTakes : List (ℕ × Note) → SungBar → Type 0
BarTakes xs b = Taker xs b.0 × All (Taker xs) b.1

on_only : (xs : List (ℕ × Note)) (v : ℕ) (before : Option ℕ) (ws : List Word) (g : List ℕ) (bs : List SungBar) (ns : List (List Syllable)) → All (Taker xs) g → All (BarTakes xs) bs → Only xs ns → Only xs (sing_on v before ws g bs ns)
unfolding placed sung_each sung_word sung_at
on_only xs v before [] g bs ns a b h = h
on_only xs v before (bar ∷ ws) g [] ns a b h = h
on_only xs v before (bar ∷ ws) g ((i, k) ∷ bs) ns a b h = on_only xs v (last_or before g) ws (i ∷ k) bs ns b.0 b.1 h
on_only xs v before (skip ∷ ws) (i ∷ g) bs ns a b h = on_only xs v (some i) ws g bs ns a.1 b h
on_only xs v before (skip ∷ ws) [] ((i, k) ∷ bs) ns a b h = on_only xs v (some i) ws k bs ns b.0.1 b.1 h
on_only xs v before (skip ∷ ws) [] [] ns a b h = on_only xs v none ws [] [] ns tt tt h
on_only xs v before (hold ∷ ws) (i ∷ g) bs ns a b h = on_only xs v (some i) ws g bs _ a.1 b (held_only xs v before ns h)
on_only xs v before (hold ∷ ws) [] ((i, k) ∷ bs) ns a b h = on_only xs v (some i) ws k bs _ b.0.1 b.1 (held_only xs v before ns h)
on_only xs v before (hold ∷ ws) [] [] ns a b h = on_only xs v none ws [] [] _ tt tt (held_only xs v before ns h)
on_only xs v before (syllable c t ∷ ws) (i ∷ g) bs ns a b h = on_only xs v (some i) ws g bs _ a.1 b (alter_only xs i _ ns a.0 h)
on_only xs v before (syllable c t ∷ ws) [] ((i, k) ∷ bs) ns a b h = on_only xs v (some i) ws k bs _ b.0.1 b.1 (alter_only xs i _ ns b.0.0 h)
on_only xs v before (syllable c t ∷ ws) [] [] ns a b h = on_only xs v none ws [] [] ns tt tt h

bars_only : (xs : List (ℕ × Note)) (v : ℕ) (ws : List Word) (bs : List SungBar) (ns : List (List Syllable)) → All (BarTakes xs) bs → Only xs ns → Only xs (sing_bars v ws bs ns)
unfolding sing_bars
bars_only xs v ws [] ns b h = h
bars_only xs v ws ((i, k) ∷ bs) ns b h = on_only xs v none ws (i ∷ k) bs ns b.0 b.1 h

bar_takes : (xs : List (ℕ × Note)) (is : List ℕ) → All (Taker xs) is → All (BarTakes xs) (bar_of is)
unfolding bar_of
bar_takes xs [] h = tt
bar_takes xs (i ∷ is) h = (h, tt)

from_takes : (xs : List (ℕ × Note)) (start : ℕ) (ms : List (List ℕ)) → All (All (Taker xs)) ms → All (BarTakes xs) (bars_from start ms)
unfolding bars_from
from_takes xs start [] h = tt
from_takes xs start (is ∷ ms) h =
    All-append (BarTakes xs) (bar_of (filter (leb start) is)) _ (bar_takes xs (filter (leb start) is) (All-filter (leb start) (Taker xs) is h.0)) (from_takes xs start ms h.1)

by_bars_only : (xs : List (ℕ × Note)) (ms : List (List ℕ)) (ls : List Sung) (ns : List (List Syllable)) → All (All (Taker xs)) ms → Only xs ns → Only xs (sung_by_bars ms ls ns)
unfolding sung_by_bars
by_bars_only xs ms [] ns t h = h
by_bars_only xs ms (l ∷ ls) ns t h = by_bars_only xs ms ls _ t (bars_only xs l.verse (lyric_words l.text) (bars_from l.start ms) ns (from_takes xs l.start ms t) h)

none_at : (n j : ℕ) → get_or {A = List Syllable} (replicate n []) j [] ≡ []
none_at zero j = refl
none_at (suc n) zero = refl
none_at (suc n) (suc j) = none_at n j

none_only : (xs : List (ℕ × Note)) (n : ℕ) → Only xs (replicate n [])
none_only xs n j = inl (none_at n j)

-- A NOTE THAT TAKES NO SYLLABLE HAS NONE; xs: the notes of voice 0 that are no rests
abbrev Quiet : Edition → List (ℕ × Note) → List (List Syllable) → Type 0
Quiet ed [] ws = Unit {0}
Quiet ed (x ∷ xs) [] = Unit {0}
Quiet ed (x ∷ xs) (w ∷ ws) = (takes ed x ≡ false → w ≡ []) × Quiet ed xs ws

first_quiet : (xs : List (ℕ × Note)) (ws : List (List Syllable)) → All (λ x. is_sung x ≡ true) xs → Quiet First xs ws
first_quiet [] ws h = tt
first_quiet (x ∷ xs) [] h = tt
first_quiet (x ∷ xs) (w ∷ ws) h = ((λ e. absurd (both_true (is_sung x) h.0 e)), first_quiet xs ws h.1)

second_quiet : (xs : List (ℕ × Note)) (ws : List (List Syllable)) → Only xs ws → Quiet Second xs ws
second_quiet [] ws h = tt
second_quiet (x ∷ xs) [] h = tt
second_quiet (x ∷ xs) (w ∷ ws) h = (⊎_elim (λ e f. e) (λ t f. absurd (both_true (takes Second x) (ap (takes Second) (own t.0 t.1.0) ∙ t.1.1) f)) (h 0), second_quiet xs ws (λ j. h (suc j)))
  where
    own : (y : ℕ × Note) → some x ≡ some y → x ≡ y
    own y e = cc

finished_only : (h : Key) (s : PartState) → Only (filter is_sung (notes_of (finished Second h s))) (finished Second h s).words
unfolding finished sung_in notes_of
finished_only h s =
    let ms = finished_measures h s in
    let xs = filter is_sung (all_notes ms) in
    by_bars_only xs (takers_in 0 ms) (reverse s.verses.lines) (replicate s.verses.sounded []) (all_take [] 0 ms refl) (none_only xs s.verses.sounded)

built_quiet : (ed : Edition) (e : Env) (is : List Item) → Quiet ed (filter is_sung (notes_of (built ed e is))) (built ed e is).words
unfolding built build empty_part
built_quiet First e is = first_quiet (filter is_sung (notes_of (built First e is))) (built First e is).words (filter_passes is_sung (notes_of (built First e is)))
built_quiet Second e is =
    second_quiet (filter is_sung (notes_of (built Second e is))) (built Second e is).words
    (by_test (any is_music is) (λ m. rw m (finished_only e.header_key (foldl (on_item Second e.header_key) new_part is))) (λ m. rw m (λ j. inl refl)))

-- THE RECORDS of the notes from number k on
abbrev Stands : Edition → ℕ → List (ℕ × Note) → ℕ × Syllable → Type 0
Stands ed k xs r = (j : ℕ) × (x : ℕ × Note) × ((r.0 ≡ k + j) × ((get_elem? xs j ≡ some x) × (takes ed x ≡ true)))

own_stand : (ed : Edition) (k : ℕ) (x : ℕ × Note) (xs : List (ℕ × Note)) → takes ed x ≡ true → (w : List Syllable) → All (Stands ed k (x ∷ xs)) (map (λ y. (k, y)) w)
own_stand ed k x xs h [] = tt
own_stand ed k x xs h (y ∷ w) = ((0, x, ((let z : k ≡ k + 0 = omega arith in z), (refl, h))), own_stand ed k x xs h w)

either_stand : (ed : Edition) (k : ℕ) (x : ℕ × Note) (xs : List (ℕ × Note)) (w : List Syllable) → (takes ed x ≡ false → w ≡ []) → All (Stands ed k (x ∷ xs)) (map (λ y. (k, y)) w)
either_stand ed k x xs w h =
    by_test (takes ed x) (λ e. own_stand ed k x xs e w) (λ e. subst (λ (l : List Syllable). All (Stands ed k (x ∷ xs)) (map (λ y. (k, y)) l)) (sym (h e)) tt)

next_stand : (ed : Edition) (k : ℕ) (x : ℕ × Note) (xs : List (ℕ × Note)) (rs : List (ℕ × Syllable)) → All (Stands ed (suc k) xs) rs → All (Stands ed k (x ∷ xs)) rs
next_stand ed k x xs [] h = tt
next_stand ed k x xs (r ∷ rs) h = let q = h.0 in ((suc q.0, q.1, (omega (arith, q.2.0), q.2.1)), next_stand ed k x xs rs h.1)

stand : (ed : Edition) (k : ℕ) (xs : List (ℕ × Note)) (ws : List (List Syllable)) → Quiet ed (filter is_sung xs) ws → All (Stands ed k xs) (lyrics_of k xs ws)
unfolding lyrics_of
stand ed k [] ws q = tt
stand ed k (x ∷ xs) [] q = tt
stand ed k (x ∷ xs) (w ∷ ws) q =
    by_test (is_sung x)
    (λ e. let p : Quiet ed (x ∷ filter is_sung xs) (w ∷ ws) = rw e at q in
    rw (e, lyrics_of) (All-append (Stands ed k (x ∷ xs)) (map (λ y. (k, y)) w) (lyrics_of (suc k) xs ws) (either_stand ed k x xs w p.0) (next_stand ed k x xs (lyrics_of (suc k) xs ws) (stand ed (suc k) xs ws p.1))))
    (λ e. let p : Quiet ed (filter is_sung xs) (w ∷ ws) = rw e at q in rw (e, lyrics_of) (next_stand ed k x xs (lyrics_of (suc k) xs (w ∷ ws)) (stand ed (suc k) xs (w ∷ ws) p)))

-- in turn
later : (ed : Edition) (k : ℕ) (y : Syllable) (xs : List (ℕ × Note)) (rs : List (ℕ × Syllable)) → All (Stands ed (suc k) xs) rs → All (Before (k, y)) rs
later ed k y xs [] h = tt
later ed k y xs (r ∷ rs) h = (inl (omega (arith, h.0.2.0)), later ed k y xs rs h.1)

own_before : (k : ℕ) (y : Syllable) (w : List Syllable) → All (λ z. y.verse < z.verse) w → All (Before (k, y)) (map (λ z. (k, z)) w)
own_before k y [] h = tt
own_before k y (z ∷ w) h = (inr (refl, h.0), own_before k y w h.1)

own_turn : (ed : Edition) (k : ℕ) (xs : List (ℕ × Note)) (w : List Syllable) (rs : List (ℕ × Syllable)) → Rising w → All (Stands ed (suc k) xs) rs → InTurn rs → InTurn (map (λ y. (k, y)) w ++ rs)
own_turn ed k xs [] rs h s t = t
own_turn ed k xs (y ∷ w) rs h s t = (All-append (Before (k, y)) (map (λ z. (k, z)) w) rs (own_before k y w h.0) (later ed k y xs rs s), own_turn ed k xs w rs h.1 s t)

turn : (ed : Edition) (k : ℕ) (xs : List (ℕ × Note)) (ws : List (List Syllable)) → Quiet ed (filter is_sung xs) ws → AllRise ws → InTurn (lyrics_of k xs ws)
unfolding lyrics_of
turn ed k [] ws q h = tt
turn ed k (x ∷ xs) [] q h = tt
turn ed k (x ∷ xs) (w ∷ ws) q h =
    by_test (is_sung x)
    (λ e. let p : Quiet ed (x ∷ filter is_sung xs) (w ∷ ws) = rw e at q in
    rw (e, lyrics_of) (own_turn ed k xs w (lyrics_of (suc k) xs ws) h.0 (stand ed (suc k) xs ws p.1) (turn ed (suc k) xs ws p.1 h.1)))
    (λ e. let p : Quiet ed (filter is_sung xs) (w ∷ ws) = rw e at q in rw (e, lyrics_of) (turn ed (suc k) xs (w ∷ ws) p h))

-- OF A PART
on_notes : (ed : Edition) (p : Part) (rs : List (ℕ × Syllable)) → All (Stands ed 0 (notes_of p)) rs → All (OnSungNote ed p) rs
on_notes ed p [] h = tt
on_notes ed p (r ∷ rs) h =
    let q = h.0 in ((q.1, (ap (get_elem? (notes_of p)) (q.2.0 ∙ zero-add q.0) ∙ q.2.1.0, q.2.1.1)), on_notes ed p rs h.1)

built_sung : (ed : Edition) (e : Env) (is : List Item) → WellSung ed (built ed e is)
unfolding lyrics
built_sung ed e is =
    let p = built ed e is in
    let q = built_quiet ed e is in
    (on_notes ed p (lyrics p) (stand ed 0 (notes_of p) p.words q), turn ed 0 (notes_of p) p.words q (built_rise ed e is))

parts_sung : (ed : Edition) (e : Env) (f : ℕ → List Item) (n q : ℕ) → All (WellSung ed) (parts ed e f n q)
unfolding parts
parts_sung ed e f zero q = tt
parts_sung ed e f (suc n) q = (built_sung ed e (f q), parts_sung ed e f n (suc q))

-- OF A READING
scanned_sung : (ed : Edition) (o : Out) → All (WellSung ed) (parts_of ed o)
scanned_sung ed (refuse n l) = tt
scanned_sung ed (on t a) = parts_sung ed t.env (λ p. items_of p a) (max 1 (length t.env.voices)) 0

pub well_sung : (ed : Edition) (text : List ℕ) (rl sl : ℕ) (ps : List Part) → (parse_abc ed text rl sl).verdict ≡ reading ps → All (WellSung ed) ps
well_sung ed text rl sl ps e = of_reading ed (WellSung ed) text rl sl ps (scanned_sung ed (scan ed (text_lines text))) e
