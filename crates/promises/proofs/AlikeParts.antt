-- PARTS THAT BOTH EDITIONS READ ALIKE, from their items: where a part has no grace, every note of voice 0 that is no rest is counted, and takes a syllable in either edition.
use Prim.Native.Nat.{ℕ, zero, suc, ◌+◌, ◌≤◌}
use mathlib.Core.Path.{◌≡◌, refl, sym, ap, subst, ◌∙◌}
use mathlib.Core.Logic.{◌⊎◌, inl, inr, ⊎_elim}
use mathlib.Core.Bool.{Bool, true, false, cond, not, ◌&&◌, false≢true}
use mathlib.Core.Option.{none}
use mathlib.Core.List.{List, [], ◌∷◌, ◌++◌, map, reverse, reverse_aux}
use native.Mathlib.Omega.{arith}
use lib.Dec.{eqb}
use lib.ListN.{length, get_or, replicate, length-replicate}
use borrow.Author.Tests.{ne_eqb}
use Rattle.laws.specs.Lists.{foldl, all, any, All, sum, concat, alter_at, on_first, is_nil}
use Rattle.laws.proofs.Bools.{by_test, not_true, and_left, and_right, and_no_right, or_either, or_no_left, or_no_right, cond_both}
use Rattle.laws.proofs.Lists.{All-alter_at, All-on_first, All-reverse, All-here, length_alter_at, sum_reverse}
use Rattle.standard.specs.Keys.{Key, plain_key}
use Rattle.standard.specs.Fields.{Meter}
use Rattle.standard.specs.Lengths.{Value}
use Rattle.standard.specs.Passes.{rising}
use Rattle.standard.specs.Pitches.{Written}
use Rattle.standard.specs.Bars.{Barline}
use Rattle.standard.specs.Notes as notes
use Rattle.standard.specs.Notes.{NoteKind, is_sounded, Behind, flags_of, pending_after, slur_opens, grace_closes}
use Rattle.editions.specs.declared.Edition.TheVariants.{First, Second}
use Rattle.reader.specs.Lengths.{Length, value_of}
use Rattle.reader.specs.Token.{Token, space, overlay, quoted, broken, tuplet, slur, grace_open, grace_close, decoration, barline, volta, unit, meter, key, field, chord, rest, note, nothing, skipped, refused}
use Rattle.reader.specs.Tokens.{tokens}
use Rattle.reader.specs.Barlines.{left_of}
use Rattle.reader.specs.Scan.{Item, voice_declared, reset, key_in_header, key_change, meter_change, lyric_line, music_line, Env}
use Rattle.reader.specs.State.{Note, Measure, Sung, Verses, PartState, with_right, with_voices, with_meter, set_key, on_open, is_empty, voice_in, voice_now, set_voice, new_measure, new_part}
use Rattle.reader.specs.Voltas.{close, closed}
use Rattle.reader.specs.Lyrics.{Syllable, sung_by, sung_by_bars, sung_in}
use Rattle.reader.specs.Part.{Part, broken_note, on_broken, after_half, can_beam, beamed, beamed_again, on_nothing, grouped, counted_in, append, rest_note, sound_note, on_sound, ended, on_barline, hears, on_token, opened, line_begins, on_line, on_lyric, on_key, first_key, on_item, dropped, in_order, marked, takers, sounded_in, takers_in, finished_measures, finished, build, empty_part}
use Rattle.reader.specs.Answer.{is_music, built}
use Rattle.promises.specs.Alike.{eq_key, no_bar, is_grace, is_lyric_line, is_plain, sung_alike, hears_key, header_alike}
use Rattle.promises.proofs.NoteLaws.{Kept, broken_kept, half_kept, again_kept, grouped_kept, left_voices, voices_of, close_voices, marked_voices}
use Rattle.promises.proofs.Sung.{takers_note, takers_rest}
use Rattle.promises.proofs.AlikeTokens.{eq_key_lem}
use Rattle.promises.proofs.AlikeLyrics.{rising_append, lines_alike}

-- no grace
abbrev Ungraced : List Note → Type 0
Ungraced ns = All (λ (n : Note). n.flags.grace ≡ false) ns

kept_ungraced : (f : Note → Note) → Kept f → (x : Note) → x.flags.grace ≡ false → (f x).flags.grace ≡ false
kept_ungraced f k x h = ap (λ (g : notes.Flags). g.grace) (k x).1 ∙ h

-- how many are no rests
sounded_cons : (x : Note) (xs : List Note) → sounded_in (x ∷ xs) ≡ cond (is_sounded x.kind) (suc (sounded_in xs)) (sounded_in xs)
unfolding sounded_in
sounded_cons x xs = by_test (is_sounded x.kind) (λ e. rw (e, sounded_in)) (λ e. rw (e, sounded_in))

sounded_kept : (f : Note → Note) → Kept f → (x : Note) (xs : List Note) → sounded_in (f x ∷ xs) ≡ sounded_in (x ∷ xs)
sounded_kept f k x xs = sounded_cons (f x) xs ∙ ap (λ (z : NoteKind). cond (is_sounded z) (suc (sounded_in xs)) (sounded_in xs)) (k x).0 ∙ sym (sounded_cons x xs)

sounded_first : (f : Note → Note) → Kept f → (xs : List Note) → sounded_in (on_first f xs) ≡ sounded_in xs
sounded_first f k [] = refl
sounded_first f k (x ∷ xs) = sounded_kept f k x xs

sounded_beamed : (r : ℕ) (n : Note) (ns : List Note) → sounded_in (beamed r n ns) ≡ sounded_in (n ∷ ns)
unfolding beamed
sounded_beamed zero n ns = refl
sounded_beamed (suc r) n ns =
    by_test (can_beam n)
    (λ e. rw (e, beamed) (sounded_cons _ _ ∙ ap (λ (z : ℕ). cond (is_sounded n.kind) (suc z) z) (sounded_first _ (λ x. (refl, refl)) ns) ∙ sym (sounded_cons n ns)))
    (λ e. rw (e, beamed))

beamed_ungraced : (r : ℕ) (n : Note) (ns : List Note) → n.flags.grace ≡ false → Ungraced ns → Ungraced (beamed r n ns)
unfolding beamed
beamed_ungraced zero n ns h k = (h, k)
beamed_ungraced (suc r) n ns h k = by_test (can_beam n) (λ e. rw (e, beamed) (h, All-on_first _ _ (λ x q. q) ns k)) (λ e. rw (e, beamed) (h, k))

-- MEASURES
-- the notes of voice 0 that are no rests
abbrev heard : List (List Note) → ℕ
heard vs = sounded_in (get_or vs 0 [])

abbrev total : List Measure → ℕ
total ms = sum (λ (m : Measure). heard m.voices) ms

-- some voice, and no grace in any
abbrev Fine : Measure → Type 0
Fine m = (1 ≤ length m.voices) × All Ungraced m.voices

-- the open measure's voice o with other notes
abbrev put : ℕ → List Note → List Measure → List Measure
put o v ms = on_first (λ m. with_voices (alter_at o (λ old. v) m.voices) m) ms

put_fine : (o : ℕ) (v : List Note) (ms : List Measure) → Ungraced v → All Fine ms → All Fine (put o v ms)
put_fine o v ms u h = All-on_first Fine _ (λ m f. (omega (arith, length_alter_at o (λ old. v) m.voices, f.0), All-alter_at Ungraced o (λ old. v) (λ x k. u) m.voices f.1)) ms h

put_same : (o : ℕ) (v : List Note) (ms : List Measure) → sounded_in v ≡ sounded_in (voice_in o ms) → total (put o v ms) ≡ total ms
unfolding voice_in
put_same o v [] e = refl
put_same o v (m ∷ ms) e = ap (λ (n : ℕ). n + total ms) (go o m.voices e)
  where
    go : (o : ℕ) (vs : List (List Note)) → sounded_in v ≡ sounded_in (get_or vs o []) → heard (alter_at o (λ old. v) vs) ≡ heard vs
    go o [] e = refl
    go zero (w ∷ vs) e = e
    go (suc o) (w ∷ vs) e = refl

put_more : (o : ℕ) (v : List Note) (ms : List Measure) → 1 ≤ length ms → All Fine ms → sounded_in v ≡ suc (sounded_in (voice_in o ms)) → total (put o v ms) ≡ cond (eqb o 0) (suc (total ms)) (total ms)
unfolding voice_in
put_more o v [] l f e = absurd (omega (arith, l))
put_more o v (m ∷ ms) l f e = go o m.voices f.0.0 e
  where
    go : (o : ℕ) (vs : List (List Note)) → 1 ≤ length vs → sounded_in v ≡ suc (sounded_in (get_or vs o [])) → heard (alter_at o (λ old. v) vs) + total ms ≡ cond (eqb o 0) (suc (heard vs + total ms)) (heard vs + total ms)
    go o [] l e = absurd (omega (arith, l))
    go zero (w ∷ vs) l e = omega (arith, e)
    go (suc o) (w ∷ vs) l e = rw (ne_eqb (suc o) 0 (λ z. absurd (omega (arith, z))))

voice_ungraced : (o : ℕ) (ms : List Measure) → All Fine ms → Ungraced (voice_in o ms)
unfolding voice_in
voice_ungraced o [] f = tt
voice_ungraced o (m ∷ ms) f = All-here Ungraced m.voices f.0.1 o [] tt

-- A PART WITHOUT GRACES while it is read: its measures, its count of notes for the lyrics, whether a grace brace is open
pub record Even (ms : List Measure) (v : Verses) (grace : Bool) : Type 0 where
  pub counted : total ms ≡ v.sounded
  pub fine : All Fine ms
  pub closed : grace ≡ false

abbrev EvenPart : PartState → Type 0
EvenPart s = Even s.measures s.verses s.pending.grace

abbrev Within : PartState → Type 0
Within s = (1 ≤ length s.measures) × EvenPart s

length_first : {A : Type 0} (f : A → A) (xs : List A) → length (on_first f xs) ≡ length xs
length_first f [] = refl
length_first f (x ∷ xs) = refl

-- other notes, as many, in the voice being written
voice_even : (v : List Note) (s : PartState) → sounded_in v ≡ sounded_in (voice_now s) → Ungraced v → Within s → Within (set_voice v s)
unfolding set_voice on_open voice_now
voice_even v s e u (l, h) =
    let o = s.line.overlay in (
      omega (arith, l, length_first (λ (m : Measure). with_voices (alter_at o (λ old. v) m.voices) m) s.measures),
      record { counted = put_same o v s.measures e ∙ h.counted; fine = put_fine o v s.measures u h.fine; closed = h.closed },
    )

now_ungraced : (s : PartState) → Within s → Ungraced (voice_now s)
unfolding voice_now
now_ungraced s h = voice_ungraced s.line.overlay s.measures h.1.fine

first_even : (f : Note → Note) → Kept f → (x : Note) (xs : List Note) (s : PartState) → voice_now s ≡ x ∷ xs → Within s → Within (set_voice (f x ∷ xs) s)
first_even f k x xs s e h =
    let u : Ungraced (x ∷ xs) = subst Ungraced e (now_ungraced s h) in
    voice_even (f x ∷ xs) s (sounded_kept f k x xs ∙ ap sounded_in (sym e)) (kept_ungraced f k x u.0, u.1) h

broken_even : (up : Bool) (n : ℕ) (v : List Note) (s : PartState) → voice_now s ≡ v → Within s → Within (on_broken up n v s)
unfolding on_broken set_voice on_open
broken_even up n [] s e h = h
broken_even up n (x ∷ xs) s e h = first_even (broken_note (record { up = up; times = n })) (broken_kept _) x xs s e h

nothing_even : (v : List Note) (s : PartState) → voice_now s ≡ v → Within s → Within (on_nothing v s)
unfolding on_nothing set_voice on_open
nothing_even [] s e h = h
nothing_even (x ∷ xs) s e h = first_even (beamed_again s.line.run) (again_kept _) x xs s e h

-- a note more
counted_more : (o : ℕ) (g : Note) (v : Verses) → is_sounded g.kind ≡ true → (counted_in o g v).sounded ≡ cond (eqb o 0) (suc v.sounded) v.sounded
unfolding counted_in
counted_more o g v k = by_test (eqb o 0) (λ e. rw (e, k)) (λ e. rw e)

counted_same : (o : ℕ) (g : Note) (v : Verses) → is_sounded g.kind ≡ false → (counted_in o g v).sounded ≡ v.sounded
unfolding counted_in
counted_same o g v k = rw (and_no_right (eqb o 0) (is_sounded g.kind) k)

append_even : (n : Note) (s : PartState) → n.flags.grace ≡ false → Within s → Within (append n s)
unfolding append set_voice on_open voice_now
append_even n s u (l, h) =
    (omega (arith, l, length_first (λ (m : Measure). with_voices (alter_at o (λ old. v) m.voices) m) s.measures), record { counted = more; fine = put_fine o v s.measures v_ungraced h.fine; closed = h.closed })
  where
    o : ℕ
    o = s.line.overlay

    g : Note
    g = grouped s.line.tuplet n

    old : List Note
    old = voice_in o s.measures

    v : List Note
    v = on_first (after_half s.line.half) (beamed s.line.run g old)

    v_sounded : sounded_in v ≡ cond (is_sounded g.kind) (suc (sounded_in old)) (sounded_in old)
    v_sounded = sounded_first (after_half s.line.half) (half_kept s.line.half) (beamed s.line.run g old) ∙ sounded_beamed s.line.run g old ∙ sounded_cons g old

    v_ungraced : Ungraced v
    v_ungraced =
        All-on_first _ (after_half s.line.half) (kept_ungraced (after_half s.line.half) (half_kept s.line.half)) (beamed s.line.run g old)
        (beamed_ungraced s.line.run g old (kept_ungraced (grouped s.line.tuplet) (grouped_kept s.line.tuplet) n u) (voice_ungraced o s.measures h.fine))

    more : total (put o v s.measures) ≡ (counted_in o g s.verses).sounded
    more =
        by_test (is_sounded g.kind)
        (λ k. put_more o v s.measures l h.fine (v_sounded ∙ ap (λ (b : Bool). cond b (suc (sounded_in old)) (sounded_in old)) k)
        ∙ ap (λ (z : ℕ). cond (eqb o 0) (suc z) z) h.counted
        ∙ sym (counted_more o g s.verses k))
        (λ k. put_same o v s.measures (v_sounded ∙ ap (λ (b : Bool). cond b (suc (sounded_in old)) (sounded_in old)) k) ∙ h.counted ∙ sym (counted_same o g s.verses k))

rest_ungraced : (k : NoteKind) (w : Value) → (rest_note k w).flags.grace ≡ false
unfolding rest_note
rest_ungraced notes.sounded w = refl
rest_ungraced notes.rest w = refl
rest_ungraced notes.invisible_rest w = refl
rest_ungraced notes.bar_rest w = refl
rest_ungraced notes.invisible_bar_rest w = refl

sound_even : (ws : List Written) (l : Length) (b : Behind) (s : PartState) → Within s → Within (on_sound ws l b s)
unfolding on_sound sound_note flags_of pending_after
sound_even ws l b s h = append_even _ _ h.1.closed (h.0, record { counted = h.1.counted; fine = h.1.fine; closed = h.1.closed })

-- a change of the open measure that leaves its notes
open_total : (f : Measure → Measure) → ((m : Measure) → (f m).voices ≡ m.voices) → (ms : List Measure) → total (on_first f ms) ≡ total ms
open_total f k [] = refl
open_total f k (m ∷ ms) = ap (λ (vs : List (List Note)). heard vs + total ms) (k m)

open_fine : (f : Measure → Measure) → ((m : Measure) → (f m).voices ≡ m.voices) → (ms : List Measure) → All Fine ms → All Fine (on_first f ms)
open_fine f k ms h = All-on_first Fine f (λ m q. subst (λ (vs : List (List Note)). (1 ≤ length vs) × All Ungraced vs) (sym (k m)) q) ms h

open_even : (f : Measure → Measure) → ((m : Measure) → (f m).voices ≡ m.voices) → (s : PartState) → EvenPart s → EvenPart (on_open f s)
unfolding on_open
open_even f k s h = record { counted = open_total f k s.measures ∙ h.counted; fine = open_fine f k s.measures h.fine; closed = h.closed }

open_within : (f : Measure → Measure) → ((m : Measure) → (f m).voices ≡ m.voices) → (s : PartState) → Within s → Within (on_open f s)
unfolding on_open
open_within f k s h = (omega (arith, h.0, length_first f s.measures), open_even f k s h.1)

-- A BARLINE: measures that hold the same notes as others
abbrev Holds : List Measure → List Measure → Type 0
Holds ms ns = (1 ≤ length ns) × ((total ns ≡ total ms) × All Fine ns)

ended_holds : (b : Barline) (o : Bool) (t : Meter) (ms : List Measure) → 1 ≤ length ms → All Fine ms → Holds ms (ended b o t ms)
unfolding ended new_measure sounded_in
ended_holds b o t [] l f = absurd (omega (arith, l))
ended_holds b o t (m ∷ ms) l f =
    by_test (is_empty m) (λ e. rw (e, ended) (omega arith, (ap (λ (vs : List (List Note)). heard vs + total ms) (left_voices b m), (subst (λ (vs : List (List Note)). (1 ≤ length vs) × All Ungraced vs) (sym (left_voices b m)) f.0, f.1))))
    (λ e. rw (e, ended)
    (cond_both (Holds (m ∷ ms)) o (new_measure t (left_of b) ∷ with_right b m ∷ ms) (with_right b m ∷ ms) (omega arith, (omega arith, ((omega arith, (tt, (tt, (tt, (tt, tt))))), f))) (omega arith, (refl, f))))

barline_even : (b : Barline) (o : Bool) (s : PartState) → Within s → Within (on_barline b o s)
unfolding on_barline
barline_even b o s (l, h) =
    let q = ended_holds b o s.line.meter s.measures l h.fine in (q.0, record { counted = q.1.0 ∙ h.counted; fine = q.1.1; closed = h.closed })

-- TOKENS other than `{`
token_even : (s : PartState) (t : Token) → is_grace t ≡ false → Within s → Within (on_token s t)
unfolding on_token is_grace hears slur_opens grace_closes
token_even s space g h = h
token_even s overlay g h = h
token_even s quoted g h = h
token_even s (broken up n) g h = broken_even up n (voice_now s) s refl h
token_even s (tuplet t) g h = h
token_even s slur g h = h
token_even s grace_open g h = absurd (false≢true (sym g))
token_even s grace_close g h = (h.0, record { counted = h.1.counted; fine = h.1.fine; closed = refl })
token_even s decoration g h = h
token_even s (barline b o) g h = barline_even b o s h
token_even s (volta ps) g h = open_within _ (λ m. refl) s h
token_even s (unit u) g h = h
token_even s (meter t) g h = open_within _ (λ m. refl) _ h
token_even s (key k) g h = open_within _ (λ m. refl) _ h
token_even s field g h = h
token_even s (chord ws l b) g h = sound_even ws l b s h
token_even s (rest k l) g h = append_even _ s (rest_ungraced k (value_of s.line.unit l)) h
token_even s (note w l b) g h = sound_even (w ∷ []) l b s h
token_even s nothing g h = nothing_even (voice_now s) s refl h
token_even s skipped g h = h
token_even s (refused n) g h = h

line_even : (ts : List Token) (s : PartState) → any is_grace ts ≡ false → Within s → Within (foldl on_token s ts)
line_even [] s g h = h
line_even (t ∷ ts) s g h = line_even ts (on_token s t) (or_no_right (is_grace t) (any is_grace ts) g) (token_even s t (or_no_left (is_grace t) (any is_grace ts) g) h)

-- no token changes the lyric lines
counted_lines : (o : ℕ) (g : Note) (v : Verses) → (counted_in o g v).lines ≡ v.lines
unfolding counted_in
counted_lines o g v = by_test (eqb o 0 && is_sounded g.kind) (λ e. rw e) (λ e. rw e)

append_lines : (n : Note) (s : PartState) → (append n s).verses.lines ≡ s.verses.lines
unfolding append set_voice on_open
append_lines n s = counted_lines s.line.overlay (grouped s.line.tuplet n) s.verses

broken_lines : (up : Bool) (n : ℕ) (v : List Note) (s : PartState) → (on_broken up n v s).verses.lines ≡ s.verses.lines
unfolding on_broken set_voice on_open
broken_lines up n [] s = refl
broken_lines up n (x ∷ xs) s = refl

nothing_lines : (v : List Note) (s : PartState) → (on_nothing v s).verses.lines ≡ s.verses.lines
unfolding on_nothing set_voice on_open
nothing_lines [] s = refl
nothing_lines (x ∷ xs) s = refl

token_lines : (s : PartState) (t : Token) → (on_token s t).verses.lines ≡ s.verses.lines
unfolding on_token on_barline on_open hears on_sound
token_lines s space = refl
token_lines s overlay = refl
token_lines s quoted = refl
token_lines s (broken up n) = broken_lines up n (voice_now s) s
token_lines s (tuplet t) = refl
token_lines s slur = refl
token_lines s grace_open = refl
token_lines s grace_close = refl
token_lines s decoration = refl
token_lines s (barline b o) = refl
token_lines s (volta ps) = refl
token_lines s (unit u) = refl
token_lines s (meter t) = refl
token_lines s (key k) = refl
token_lines s field = refl
token_lines s (chord ws l b) = append_lines _ _
token_lines s (rest k l) = append_lines _ s
token_lines s (note w l b) = append_lines _ _
token_lines s nothing = nothing_lines (voice_now s) s
token_lines s skipped = refl
token_lines s (refused n) = refl

tokens_lines : (ts : List Token) (s : PartState) → (foldl on_token s ts).verses.lines ≡ s.verses.lines
tokens_lines [] s = refl
tokens_lines (t ∷ ts) s = tokens_lines ts (on_token s t) ∙ token_lines s t

-- ITEMS, in the first edition
opened_holds : (t : Meter) (ms : List Measure) → All Fine ms → Holds ms (opened t ms)
unfolding opened new_measure sounded_in
opened_holds t [] f = (omega arith, (refl, ((omega arith, (tt, (tt, (tt, (tt, tt))))), tt)))
opened_holds t (m ∷ ms) f = (omega arith, (refl, f))

begins_even : (u : ℕ) (t : Meter) (s : PartState) → EvenPart s → Within (line_begins u t s)
unfolding line_begins
begins_even u t s h = let q = opened_holds t s.measures h.fine in (q.0, record { counted = q.1.0 ∙ h.counted; fine = q.1.1; closed = h.closed })

key_even : (h k : Key) (ms : List Measure) (s : PartState) → EvenPart s → EvenPart (on_key h k ms s)
unfolding on_key hears
key_even h k [] s e = e
key_even h k (m ∷ ms) s e = open_even _ (λ m. refl) _ e

-- no lyric bars, no graces
abbrev Plain : PartState → Type 0
Plain s = EvenPart s × All (λ (l : Sung). no_bar l.text ≡ true) s.verses.lines

key_lines : (h k : Key) (ms : List Measure) (s : PartState) → (on_key h k ms s).verses.lines ≡ s.verses.lines
unfolding on_key hears on_open
key_lines h k [] s = refl
key_lines h k (m ∷ ms) s = refl

item_plain : (h : Key) (s : PartState) (i : Item) → is_plain i ≡ true → Plain s → Plain (on_item First h s i)
unfolding on_item on_open on_lyric on_line line_begins
item_plain h s (voice_declared b) p q = q
item_plain h s reset p q = (record { counted = q.0.counted; fine = q.0.fine; closed = refl }, q.1)
item_plain h s key_in_header p q = q
item_plain h s (key_change k) p q = (key_even h k s.measures s q.0, subst (All (λ (l : Sung). no_bar l.text ≡ true)) (sym (key_lines h k s.measures s)) q.1)
item_plain h s (meter_change t) p q = (open_even (with_meter t) (λ m. refl) s q.0, q.1)
item_plain h s (lyric_line b t) p q = (record { counted = q.0.counted; fine = q.0.fine; closed = q.0.closed }, (p, q.1))
item_plain h s (music_line u t l) p q = (
  (line_even (tokens First 0 l) (line_begins u t s) (not_true (any is_grace (tokens First 0 l)) p) (begins_even u t s q.0)).1,
  subst (All (λ (l : Sung). no_bar l.text ≡ true)) (sym (tokens_lines (tokens First 0 l) (line_begins u t s))) q.1,
)

items_plain : (h : Key) (is : List Item) (s : PartState) → all is_plain is ≡ true → Plain s → Plain (foldl (on_item First h) s is)
items_plain h [] s p q = q
items_plain h (i ∷ is) s p q = items_plain h is (on_item First h s i) (and_right (is_plain i) (all is_plain is) p) (item_plain h s i (and_left (is_plain i) (all is_plain is) p) q)

-- no lyric line
item_none : (h : Key) (s : PartState) (i : Item) → is_lyric_line i ≡ false → s.verses.lines ≡ [] → (on_item First h s i).verses.lines ≡ []
unfolding on_item on_line line_begins on_open
item_none h s (voice_declared b) p q = q
item_none h s reset p q = q
item_none h s key_in_header p q = q
item_none h s (key_change k) p q = key_lines h k s.measures s ∙ q
item_none h s (meter_change t) p q = q
item_none h s (lyric_line b t) p q = absurd (false≢true (sym p))
item_none h s (music_line u t l) p q = tokens_lines (tokens First 0 l) (line_begins u t s) ∙ q

items_none : (h : Key) (is : List Item) (s : PartState) → any is_lyric_line is ≡ false → s.verses.lines ≡ [] → (foldl (on_item First h) s is).verses.lines ≡ []
items_none h [] s p q = q
items_none h (i ∷ is) s p q = items_none h is (on_item First h s i) (or_no_right (is_lyric_line i) (any is_lyric_line is) p) (item_none h s i (or_no_left (is_lyric_line i) (any is_lyric_line is) p) q)

-- THE END OF A PART
takers_by : ℕ → List (List (List Note)) → List (List ℕ)
takers_by n [] = []
takers_by n (vs ∷ vss) = takers n (get_or vs 0 []) ∷ takers_by (n + heard vs) vss

takers_by_lem : (n : ℕ) (ms : List Measure) → takers_in n ms ≡ takers_by n (voices_of ms)
unfolding takers_in takers_by
takers_by_lem n [] = refl
takers_by_lem n (m ∷ ms) = ap (λ (l : List (List ℕ)). takers n (get_or m.voices 0 []) ∷ l) (takers_by_lem (n + heard m.voices) ms)

-- without graces they are all of them, in a row
takers_row : (n : ℕ) (xs : List Note) → Ungraced xs → takers n xs ≡ rising n (sounded_in xs)
unfolding takers sounded_in rising
takers_row n [] h = refl
takers_row n (x ∷ xs) h =
    by_test (is_sounded x.kind)
    (λ k. takers_note n x xs k h.0 ∙ ap (λ (l : List ℕ). n ∷ l) (takers_row (suc n) xs h.1) ∙ ap (rising n) (sym (sounded_cons x xs ∙ ap (λ (b : Bool). cond b (suc (sounded_in xs)) (sounded_in xs)) k)))
    (λ k. takers_rest n x xs k ∙ takers_row n xs h.1 ∙ ap (rising n) (sym (sounded_cons x xs ∙ ap (λ (b : Bool). cond b (suc (sounded_in xs)) (sounded_in xs)) k)))

by_row : (n : ℕ) (vss : List (List (List Note))) → All (λ vs. Ungraced (get_or vs 0 [])) vss → concat (takers_by n vss) ≡ rising n (sum heard vss)
unfolding takers_by rising
by_row n [] h = refl
by_row n (vs ∷ vss) h = (λ i. takers_row n (get_or vs 0 []) h.0 i ++ by_row (n + heard vs) vss h.1 i) ∙ sym (rising_append n (heard vs) (sum heard vss))

-- empty measures that go have none
empty_none : (vs : List (List Note)) → all is_nil vs ≡ true → heard vs ≡ 0
unfolding sounded_in
empty_none [] h = refl
empty_none ([] ∷ vs) h = refl
empty_none ((x ∷ xs) ∷ vs) h = absurd (false≢true h)

dropped_total : (ms : List Measure) → total (dropped ms) ≡ total ms
unfolding dropped
dropped_total [] = refl
dropped_total (m ∷ []) = refl
dropped_total (m ∷ n ∷ ms) = by_test (is_empty m) (λ e. rw (e, dropped) (dropped_total (n ∷ ms) ∙ omega (arith, empty_none m.voices e))) (λ e. rw (e, dropped))

dropped_fine : (ms : List Measure) → All Fine ms → All Fine (dropped ms)
unfolding dropped
dropped_fine [] h = tt
dropped_fine (m ∷ []) h = h
dropped_fine (m ∷ n ∷ ms) h = by_test (is_empty m) (λ e. rw (e, dropped) (dropped_fine (n ∷ ms) h.1)) (λ e. rw (e, dropped) h)

-- in the order written
sounded_back : (xs ys : List Note) → sounded_in (reverse_aux xs ys) ≡ sounded_in xs + sounded_in ys
unfolding sounded_in
sounded_back [] ys = omega arith
sounded_back (x ∷ xs) ys =
    sounded_back xs (x ∷ ys) ∙ by_test (is_sounded x.kind) (λ k. rw (k, sounded_in) (omega arith)) (λ k. rw (k, sounded_in))

order_heard : (vs : List (List Note)) → heard (map reverse vs) ≡ heard vs
unfolding sounded_in
order_heard [] = refl
order_heard (v ∷ vs) = sounded_back v [] ∙ omega arith

order_total : (ms : List Measure) → sum heard (voices_of (map in_order ms)) ≡ total ms
unfolding in_order
order_total [] = refl
order_total (m ∷ ms) = λ i. order_heard m.voices i + order_total ms i

order_ungraced : (ms : List Measure) → All Fine ms → All (λ vs. Ungraced (get_or vs 0 [])) (voices_of (map in_order ms))
unfolding in_order
order_ungraced [] h = tt
order_ungraced (m ∷ ms) h = (go m.voices h.0.1, order_ungraced ms h.1)
  where
    go : (vs : List (List Note)) → All Ungraced vs → Ungraced (get_or (map reverse vs) 0 [])
    go [] k = tt
    go (v ∷ vs) k = All-reverse (λ (n : Note). n.flags.grace ≡ false) v k.0

-- every note of voice 0 that is no rest takes a syllable
finished_row : (h : Key) (s : PartState) → EvenPart s → concat (takers_in 0 (finished_measures h s)) ≡ rising 0 s.verses.sounded
unfolding finished_measures closed
finished_row h s e =
    let r = reverse (dropped s.measures) in
    let f : All Fine r = All-reverse Fine (dropped s.measures) (dropped_fine s.measures e.fine) in
    let t : sum heard (voices_of (map in_order r)) ≡ s.verses.sounded = order_total r ∙ sum_reverse (λ (m : Measure). heard m.voices) (dropped s.measures) ∙ dropped_total s.measures ∙ e.counted in
    ap concat (takers_by_lem 0 (marked h (close none (map in_order r))) ∙ ap (takers_by 0) (marked_voices h (close none (map in_order r)) ∙ close_voices none (map in_order r)))
    ∙ by_row 0 (voices_of (map in_order r)) (order_ungraced r f) ∙ ap (rising 0) t

-- THE LYRICS of both editions
words_alike : (h : Key) (s : PartState) → (s.verses.lines ≡ []) ⊎ Plain s → finished First h s ≡ finished Second h s
unfolding finished sung_in sung_by sung_by_bars
words_alike h s (inl e) =
    ap (λ (w : List (List Syllable)). record { measures = finished_measures h s; words = w })
    (ap (λ (ls : List Sung). sung_by (reverse ls) (replicate s.verses.sounded [])) e ∙ sym (ap (λ (ls : List Sung). sung_by_bars (takers_in 0 (finished_measures h s)) (reverse ls) (replicate s.verses.sounded [])) e))
words_alike h s (inr (e, b)) =
    ap (λ (w : List (List Syllable)). record { measures = finished_measures h s; words = w })
    (lines_alike (takers_in 0 (finished_measures h s)) (reverse s.verses.lines) (replicate s.verses.sounded []) (All-reverse (λ (l : Sung). no_bar l.text ≡ true) s.verses.lines b)
    (finished_row h s e ∙ ap (rising 0) (sym (length-replicate s.verses.sounded []))))

-- THE ITEMS of both editions
-- a music line has the same tokens in both
abbrev pub ItemAlike : Item → Type 0
ItemAlike (voice_declared b) = Unit {0}
ItemAlike reset = Unit {0}
ItemAlike key_in_header = Unit {0}
ItemAlike (key_change k) = Unit {0}
ItemAlike (meter_change m) = Unit {0}
ItemAlike (lyric_line b t) = Unit {0}
ItemAlike (music_line u m l) = tokens First 0 l ≡ tokens Second 0 l

-- two states that differ in the key alone, if at all
abbrev Apart : Bool → PartState → PartState → Type 0
Apart apart s t = (k : Key) × ((t ≡ set_key k s) × (apart ≡ false → k ≡ s.key))

same_apart : (s t : PartState) → t ≡ s → Apart false s t
same_apart s t e = (s.key, (e, λ _. refl))

key_apart : (h k x : Key) (ms : List Measure) (s : PartState) → on_key h k ms (set_key x s) ≡ on_key h k ms s
unfolding on_key hears on_open
key_apart h k x [] s = refl
key_apart h k x (m ∷ ms) s = refl

line_apart : (u : ℕ) (m : Meter) (l : List ℕ) (s : PartState) → tokens First 0 l ≡ tokens Second 0 l → on_line Second u m l s ≡ on_line First u m l s
unfolding on_line
line_apart u m l s e = ap (foldl on_token (line_begins u m s)) (sym e)

items_apart : (h : Key) (is : List Item) (apart : Bool) (s t : PartState) → Apart apart s t → hears_key apart is ≡ true → All ItemAlike is → (b : Bool) × Apart b (foldl (on_item First h) s is) (foldl (on_item Second h) t is)
unfolding hears_key on_item first_key on_lyric on_open
items_apart h [] apart s t a k q = (apart, a)
items_apart h (voice_declared c ∷ is) apart s t (x, (e, f)) k q =
    items_apart h is c _ _ (h, (ap (set_key h) e, λ z. sym (ap (λ (b : Bool). cond b plain_key h) z))) k q.1
items_apart h (reset ∷ is) apart s t (x, (e, f)) k q = items_apart h is apart _ _ (x, (ap (λ (z : PartState). on_item Second h z reset) e, f)) k q.1
items_apart h (key_in_header ∷ is) apart s t (x, (e, f)) k q = items_apart h is false _ _ (h, (ap (set_key h) e, λ _. refl)) k q.1
items_apart h (key_change y ∷ is) apart s t (x, (e, f)) k q = items_apart h is false _ _ (same_apart _ _ (ap (λ (z : PartState). on_key h y z.measures z) e ∙ key_apart h y x s.measures s)) k q.1
items_apart h (meter_change m ∷ is) apart s t (x, (e, f)) k q = items_apart h is apart _ _ (x, (ap (λ (z : PartState). on_item Second h z (meter_change m)) e, f)) k q.1
items_apart h (lyric_line b w ∷ is) apart s t (x, (e, f)) k q = items_apart h is apart _ _ (x, (ap (λ (z : PartState). on_item Second h z (lyric_line b w)) e, f)) k q.1
items_apart h (music_line u m l ∷ is) apart s t (x, (e, f)) k q =
    let n : apart ≡ false = not_true apart (and_left (not apart) (hears_key apart is) k) in
    let i : t ≡ s = e ∙ ap (λ (z : Key). set_key z s) (f n) in
    items_apart h is apart _ _ ((on_line First u m l s).key, (ap (on_line Second u m l) i ∙ line_apart u m l s q.0, λ _. refl)) (and_right (not apart) (hears_key apart is) k) q.1

-- where the header's key is C major they do not differ at all
item_same : (s : PartState) (i : Item) → ItemAlike i → on_item Second plain_key s i ≡ on_item First plain_key s i
unfolding on_item first_key
item_same s (voice_declared true) q = refl
item_same s (voice_declared false) q = refl
item_same s reset q = refl
item_same s key_in_header q = refl
item_same s (key_change k) q = refl
item_same s (meter_change m) q = refl
item_same s (lyric_line b t) q = refl
item_same s (music_line u m l) q = line_apart u m l s q

items_same : (is : List Item) (s : PartState) → All ItemAlike is → foldl (on_item Second plain_key) s is ≡ foldl (on_item First plain_key) s is
items_same [] s q = refl
items_same (i ∷ is) s q = ap (λ (z : PartState). foldl (on_item Second plain_key) z is) (item_same s i q.0) ∙ items_same is (on_item First plain_key s i) q.1

-- A PART
key_free : (h k : Key) (s : PartState) → finished Second h (set_key k s) ≡ finished Second h s
unfolding finished finished_measures
key_free h k s = refl

states_alike : (h : Key) (is : List Item) → All ItemAlike is → header_alike h is ≡ true → (k : Key) × (foldl (on_item Second h) new_part is ≡ set_key k (foldl (on_item First h) new_part is))
states_alike h is q a =
    ⊎_elim (λ e. plain (eq_key_lem h plain_key e)) (λ e. let r = items_apart h is false new_part new_part (same_apart new_part new_part refl) e q in (r.1.0, r.1.1.0))
    (or_either (eq_key h plain_key) (hears_key false is) a)
  where
    plain : h ≡ plain_key → (k : Key) × (foldl (on_item Second h) new_part is ≡ set_key k (foldl (on_item First h) new_part is))
    plain e = ((foldl (on_item First h) new_part is).key, ap (λ (z : Key). foldl (on_item Second z) new_part is) e ∙ items_same is new_part q ∙ ap (λ (z : Key). foldl (on_item First z) new_part is) (sym e))

pub build_alike : (h : Key) (is : List Item) → All ItemAlike is → sung_alike is ≡ true → header_alike h is ≡ true → build First h is ≡ build Second h is
unfolding build new_part
build_alike h is q w a =
    let s = foldl (on_item First h) new_part is in
    let r = states_alike h is q a in
    words_alike h s
    (⊎_elim (λ e. inl (items_none h is new_part (not_true (any is_lyric_line is) e) refl)) (λ e. inr (items_plain h is new_part e (record { counted = refl; fine = tt; closed = refl }, tt)))
    (or_either (not (any is_lyric_line is)) (all is_plain is) w))
    ∙ sym (ap (finished Second h) r.1 ∙ key_free h r.0 s)

pub built_alike : (e : Env) (is : List Item) → All ItemAlike is → sung_alike is ≡ true → header_alike e.header_key is ≡ true → built First e is ≡ built Second e is
unfolding built
built_alike e is q w a = ap (λ (p : Part). cond (any is_music is) p empty_part) (build_alike e.header_key is q w a)
