-- THE NOTES OF THE LOG THAT ARE SUNG are as many as the part counts for its lyrics.
use Prim.Native.Nat.{ℕ, zero, suc, ◌+◌}
use mathlib.Core.Path.{◌≡◌, refl, sym, ap, ◌∙◌}
use mathlib.Core.Bool.{Bool, cond, ◌&&◌}
use mathlib.Core.Option.{Option, none, some}
use mathlib.Core.List.{List, [], ◌∷◌, ◌++◌}
use native.Mathlib.Omega.{arith}
use lib.Dec.{eqb}
use Rattle.laws.specs.Lists.{foldl, alter_at}
use Rattle.laws.proofs.Bools.{by_test}
use Rattle.laws.proofs.Lists.{foldl_holds}
use Rattle.standard.specs.Keys.{Key}
use Rattle.standard.specs.Fields.{Meter}
use Rattle.standard.specs.Pitches.{Written}
use Rattle.standard.specs.Notes.{is_sounded, Behind}
use Rattle.editions.specs.declared.Edition.{Edition}
use Rattle.reader.specs.Lengths.{Length}
use Rattle.reader.specs.Token.{Token, space, overlay, quoted, broken, tuplet, slur, grace_open, grace_close, decoration, barline, volta, unit, meter, key, field, chord, rest, note, nothing, skipped, refused}
use Rattle.reader.specs.Tokens.{tokens}
use Rattle.reader.specs.Scan.{Item, voice_declared, reset, key_in_header, key_change, meter_change, lyric_line, music_line}
use Rattle.reader.specs.State.{Note, Half, Verses}
use Rattle.reader.specs.Part.{halved_note, broken_note, after_half, can_beam, beamed_again, grouped, counted_in}
use Rattle.reader.specs.Records.{is_sung}
use Rattle.part_layout.specs.Log.{Head, LogState, new_log, at_place, note_at, last_place, on_broken, on_nothing, beamed_new, beamed_before, append, on_sound, on_open, on_barline, hears, on_token, line_begins, on_line}
use Rattle.part_layout.specs.Ends.{on_lyric, on_key, on_item, sung_notes}

-- COUNTING
abbrev one : Bool → ℕ
one b = cond b 1 0

pub sung_cons : (x : ℕ × Note) (xs : List (ℕ × Note)) → sung_notes (x ∷ xs) ≡ one (is_sung x) + sung_notes xs
unfolding sung_notes
sung_cons x xs = by_test (is_sung x) (λ e. rw (e, sung_notes) (omega arith)) (λ e. rw (e, sung_notes) (omega arith))

none_sung : sung_notes [] ≡ 0
unfolding sung_notes
none_sung = refl

pub sung_append : (xs ys : List (ℕ × Note)) → sung_notes (xs ++ ys) ≡ sung_notes xs + sung_notes ys
unfolding sung_notes
sung_append [] ys = omega arith
sung_append (x ∷ xs) ys = omega (arith, sung_cons x (xs ++ ys), sung_cons x xs, sung_append xs ys)

-- a note changed, but for its kind
abbrev KeepsKind : (Note → Note) → Type 0
KeepsKind f = (n : Note) → (f n).kind ≡ n.kind

same_sung : (v : ℕ) (m n : Note) → m.kind ≡ n.kind → is_sung (v, m) ≡ is_sung (v, n)
unfolding is_sung
same_sung v m n e = ap (λ k. eqb v 0 && is_sounded k) e

sung_alter : (i : ℕ) (f : Note → Note) (log : List (ℕ × Note)) → KeepsKind f → sung_notes (alter_at i (λ (x : ℕ × Note). (x.0, f x.1)) log) ≡ sung_notes log
sung_alter i f [] k = refl
sung_alter zero f (x ∷ xs) k =
    sung_cons (x.0, f x.1) xs ∙ ap (λ (b : Bool). one b + sung_notes xs) (same_sung x.0 (f x.1) x.1 (k x.1)) ∙ sym (sung_cons x xs)
sung_alter (suc i) f (x ∷ xs) k =
    sung_cons x (alter_at i (λ (x : ℕ × Note). (x.0, f x.1)) xs) ∙ ap (λ (n : ℕ). one (is_sung x) + n) (sung_alter i f xs k) ∙ sym (sung_cons x xs)

sung_place : (p : ℕ) (f : Note → Note) (log : List (ℕ × Note)) → KeepsKind f → sung_notes (at_place p f log) ≡ sung_notes log
unfolding at_place
sung_place zero f log k = refl
sung_place (suc i) f log k = sung_alter i f log k

-- NO KIND CHANGES
halved_kind : (n : ℕ) → KeepsKind (halved_note n)
unfolding halved_note
halved_kind n x = by_test (eqb x.value 10) (λ e. rw (e, halved_note)) (λ e. rw (e, halved_note))

broken_kind : (h : Half) → KeepsKind (broken_note h)
unfolding broken_note
broken_kind h x = by_test h.up (λ e. rw (e, broken_note)) (λ e. rw (e, broken_note) (halved_kind h.times x))

half_kind : (o : Option Half) → KeepsKind (after_half o)
unfolding after_half
half_kind none n = refl
half_kind (some h) n = broken_kind h n

new_kind : (r : ℕ) → KeepsKind (beamed_new r)
unfolding beamed_new
new_kind zero n = refl
new_kind (suc r) n = by_test (can_beam n) (λ e. rw e) (λ e. rw e)

before_kind : (r : ℕ) (n : Note) → KeepsKind (beamed_before r n)
unfolding beamed_before
before_kind zero n x = refl
before_kind (suc r) n x = by_test (can_beam n) (λ e. rw e) (λ e. rw e)

again_kind : (r : ℕ) → KeepsKind (beamed_again r)
unfolding beamed_again
again_kind zero n = by_test (can_beam n) (λ e. rw e) (λ e. rw e)
again_kind (suc r) n = refl

-- WHILE A PART IS READ
abbrev Counts : LogState → Type 0
Counts l = sung_notes l.log ≡ l.verses.sounded

counted_one : (o : ℕ) (n : Note) (v : Verses) → (counted_in o n v).sounded ≡ one (is_sung (o, n)) + v.sounded
unfolding counted_in is_sung
counted_one o n v = by_test (eqb o 0 && is_sounded n.kind) (λ e. rw e (omega arith)) (λ e. rw e (omega arith))

append_counts : (n : Note) (s : LogState) → Counts s → Counts (append n s)
unfolding append on_open
append_counts n s c =
    let l = s.line in
    let g = grouped l.tuplet n in
    let m = after_half l.half (beamed_new l.run g) in
    let before = at_place (last_place s) (beamed_before l.run g) s.log in
    let kind : m.kind ≡ g.kind = half_kind l.half (beamed_new l.run g) ∙ new_kind l.run g in
    omega (
      arith,
      sung_append before ((l.overlay, m) ∷ []),
      sung_cons (l.overlay, m) [],
      none_sung,
      ap one (same_sung l.overlay m g kind),
      sung_place (last_place s) (beamed_before l.run g) s.log (before_kind l.run g),
      c,
      counted_one l.overlay g s.verses,
    )

sound_counts : (ws : List Written) (l : Length) (b : Behind) (s : LogState) → Counts s → Counts (on_sound ws l b s)
unfolding on_sound
sound_counts ws l b s c = append_counts _ _ c

broken_counts : (up : Bool) (n p : ℕ) (s : LogState) → Counts s → Counts (on_broken up n p s)
unfolding on_broken
broken_counts up n zero s c = c
broken_counts up n (suc i) s c = sung_place (suc i) (broken_note (record { up = up; times = n })) s.log (broken_kind (record { up = up; times = n })) ∙ c

nothing_counts : (p : ℕ) (o : Option Note) (s : LogState) → Counts s → Counts (on_nothing p o s)
unfolding on_nothing
nothing_counts p none s c = c
nothing_counts p (some n) s c = sung_place p (beamed_again s.line.run) s.log (again_kind s.line.run) ∙ c

token_counts : (s : LogState) (t : Token) → Counts s → Counts (on_token s t)
unfolding on_token on_open on_barline hears
token_counts s space c = c
token_counts s overlay c = c
token_counts s quoted c = c
token_counts s (broken up n) c = broken_counts up n (last_place s) s c
token_counts s (tuplet t) c = c
token_counts s slur c = c
token_counts s grace_open c = c
token_counts s grace_close c = c
token_counts s decoration c = c
token_counts s (barline b o) c = c
token_counts s (volta ps) c = c
token_counts s (unit u) c = c
token_counts s (meter t) c = c
token_counts s (key k) c = c
token_counts s field c = c
token_counts s (chord ws l b) c = sound_counts ws l b s c
token_counts s (rest k l) c = append_counts _ s c
token_counts s (note w l b) c = sound_counts (w ∷ []) l b s c
token_counts s nothing c = nothing_counts (last_place s) (note_at (last_place s) s.log) s c
token_counts s skipped c = c
token_counts s (refused n) c = c

line_counts : (ed : Edition) (u : ℕ) (t : Meter) (l : List ℕ) (s : LogState) → Counts s → Counts (on_line ed u t l s)
unfolding on_line line_begins
line_counts ed u t l s c = foldl_holds Counts on_token token_counts (line_begins u t s) (tokens ed 0 l) c

key_counts : (header k : Key) (hs : List Head) (s : LogState) → Counts s → Counts (on_key header k hs s)
unfolding on_key on_open hears
key_counts header k [] s c = c
key_counts header k (m ∷ ms) s c = c

item_counts : (ed : Edition) (header : Key) (s : LogState) (i : Item) → Counts s → Counts (on_item ed header s i)
unfolding on_item on_lyric on_open
item_counts ed header s (voice_declared b) c = c
item_counts ed header s reset c = c
item_counts ed header s key_in_header c = c
item_counts ed header s (key_change k) c = key_counts header k s.heads s c
item_counts ed header s (meter_change t) c = c
item_counts ed header s (lyric_line placed t) c = c
item_counts ed header s (music_line u t l) c = line_counts ed u t l s c

new_counts : Counts new_log
unfolding new_log sung_notes
new_counts = refl

-- EVERY PART
pub items_sounded : (ed : Edition) (header : Key) (items : List Item) → sung_notes (foldl (on_item ed header) new_log items).log ≡ (foldl (on_item ed header) new_log items).verses.sounded
items_sounded ed header items = foldl_holds Counts (on_item ed header) (item_counts ed header) new_log items new_counts
