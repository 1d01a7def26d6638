-- SIGNS BESIDE THE NOTES, as the standard has them: ties, slurs and grace notes (4.11, 4.12), overlay (7.4), spaces between notes (4.7), the end of an ending (4.9), verses (5.1).
use Prim.Native.Nat.{ℕ, zero, suc}
use mathlib.Core.Path.{◌≡◌, refl, ap, ◌∙◌}
use mathlib.Core.Bool.{true, false}
use mathlib.Core.Option.{Option, none, some}
use mathlib.Core.List.{List, [], ◌∷◌}
use lib.Dec.{eqb}
use lib.ListN.{get_or}
use Rattle.laws.specs.Lists.{on_first, count_while, alter_at}
use Rattle.laws.proofs.Bools.{by_test}
use Rattle.laws.proofs.Lists.{length_alter_at}
use Rattle.standard.specs.Bytes.{is_digit}
use Rattle.standard.specs.Pitches.{Written}
use Rattle.standard.specs.Bars.{Barline, normal, repeat_start, repeat_end, repeat_both, double, final, closes_ending}
use Rattle.standard.specs.Notes.{Flags, Pending, Behind, flags_of, pending_after, slur_opens, grace_opens, grace_closes, next_voice}
use Rattle.standard.specs.Lyrics.{next_verse}
use Rattle.editions.specs.declared.Edition.{Edition}
use Rattle.reader.specs.Lengths.{Length}
use Rattle.reader.specs.Pitches.{scope_after_all}
use Rattle.reader.specs.Token.{space, overlay, slur, grace_open, grace_close, note, chord, taken}
use Rattle.reader.specs.Sounds.{behind}
use Rattle.reader.specs.Tokens.{token_of}
use Rattle.reader.specs.State.{Note, Half, Measure, PartState, volta_alone, volta_ends, with_volta, set_scopes, set_pending, voice_now, set_voice, on_open}
use Rattle.reader.specs.Voltas.{ends_ending, starts, ends_at, close}
use Rattle.reader.specs.Part.{can_beam, beamed, halved_note, broken_note, after_half, grouped, append, sound_note, on_sound, on_token, on_lyric}
use Rattle.reader.specs.All.{all as everything}
use Rattle.reader.proofs.LineLaws.{Ready}
use Rattle.reader.proofs.InLine.{voice_after}

-- RIGHT BEHIND A NOTE (4.11): `-` is a tie, `)` ends a slur, in any order; nothing else is either
pub tie_meets : (s : List ℕ) → ((behind (45 ∷ s)).tie ≡ true) × (((behind (45 ∷ s)).slur ≡ (behind s).slur) × ((behind (45 ∷ s)).used ≡ suc (behind s).used))
unfolding behind
tie_meets s = (refl, (refl, refl))

pub slur_end_meets : (s : List ℕ) → ((behind (41 ∷ s)).slur ≡ true) × (((behind (41 ∷ s)).tie ≡ (behind s).tie) × ((behind (41 ∷ s)).used ≡ suc (behind s).used))
unfolding behind
slur_end_meets s = (refl, (refl, refl))

pub no_mark_meets : (c : ℕ) (s : List ℕ) → eqb c 45 ≡ false → eqb c 41 ≡ false → behind (c ∷ s) ≡ record { tie = false; slur = false; used = 0 }
unfolding behind
no_mark_meets c s h k = rw (h, k, behind)

-- `(` before no digit starts a slur (4.11); `{` and `}` open and close grace notes (4.12); `&` is an overlay (7.4)
pub slur_meets : (ed : Edition) (s : List ℕ) → count_while is_digit s ≡ 0 → token_of ed (40 ∷ s) ≡ taken slur 1
unfolding everything
slur_meets ed s h = rw h

pub grace_meets : (ed : Edition) (s : List ℕ) → (token_of ed (123 ∷ s) ≡ taken grace_open 1) × (token_of ed (125 ∷ s) ≡ taken grace_close 1)
unfolding everything
grace_meets ed s = (refl, refl)

pub overlay_meets : (ed : Edition) (s : List ℕ) → token_of ed (38 ∷ s) ≡ taken overlay 1
unfolding everything
overlay_meets ed s = refl

-- what these do to what waits for the next note
pub waits_meet : (s : PartState) → ((on_token s slur).pending ≡ slur_opens s.pending) × (((on_token s grace_open).pending ≡ grace_opens s.pending) × ((on_token s grace_close).pending ≡ grace_closes s.pending))
unfolding on_token
waits_meet s = (refl, (refl, refl))

-- A NOTE'S FLAGS (4.11, 4.12): what waited for it, and what stands right behind it; and what waits after it
abbrev first_flags : List Note → Option Flags
first_flags [] = none
first_flags (n ∷ ns) = some n.flags

half_flags : (o : Option Half) (n : Note) → (after_half o n).flags ≡ n.flags
unfolding after_half broken_note halved_note
half_flags none n = refl
half_flags (some h) n = by_test h.up (λ e. rw (e, broken_note)) (λ e. rw (e, broken_note) (by_test (eqb n.value 10) (λ f. rw (f, halved_note)) (λ f. rw (f, halved_note))))

beamed_flags : (r : ℕ) (n : Note) (ns : List Note) (o : Option Half) → first_flags (on_first (after_half o) (beamed r n ns)) ≡ some n.flags
unfolding beamed
beamed_flags zero n ns o = ap some (half_flags o n)
beamed_flags (suc r) n ns o = by_test (can_beam n) (λ e. rw (e, beamed) (ap some (half_flags o _))) (λ e. rw (e, beamed) (ap some (half_flags o n)))

grouped_flags : (o : Option _) (n : Note) → (grouped o n).flags ≡ n.flags
unfolding grouped
grouped_flags none n = refl
grouped_flags (some t) n = refl

append_flags : (n : Note) (s : PartState) → Ready s → first_flags (voice_now (append n s)) ≡ some n.flags
append_flags n s r = ap first_flags (voice_after n s r) ∙ beamed_flags s.line.run (grouped s.line.tuplet n) (voice_now s) s.line.half ∙ ap some (grouped_flags s.line.tuplet n)

-- the state in which a note is put down
ready_for : (s : PartState) (p : Pending) (ws : List Written) → Ready s → Ready (set_scopes (alter_at s.line.overlay (λ old. scope_after_all (get_or s.scopes s.line.overlay []) ws) s.scopes) (set_pending p s))
unfolding voice_now
ready_for s p ws r =
    record { is_open = r.is_open; place = r.place; scopes_4 = length_alter_at s.line.overlay _ s.scopes ∙ r.scopes_4; voices_4 = r.voices_4; seen = r.seen }

pub sound_flags : (ws : List Written) (l : Length) (b : Behind) (s : PartState) → Ready s → first_flags (voice_now (on_sound ws l b s)) ≡ some (flags_of s.pending b)
unfolding on_sound sound_note
sound_flags ws l b s r = append_flags _ _ (ready_for s (pending_after s.pending b) ws r)

pub note_flags : (w : Written) (l : Length) (b : Behind) (s : PartState) → Ready s → (first_flags (voice_now (on_token s (note w l b))) ≡ some (flags_of s.pending b)) × ((on_token s (note w l b)).pending ≡ pending_after s.pending b)
unfolding on_token on_sound append set_voice on_open
note_flags w l b s r = (sound_flags (w ∷ []) l b s r, refl)

pub chord_flags : (ws : List Written) (l : Length) (b : Behind) (s : PartState) → Ready s → (first_flags (voice_now (on_token s (chord ws l b))) ≡ some (flags_of s.pending b)) × ((on_token s (chord ws l b)).pending ≡ pending_after s.pending b)
unfolding on_token on_sound append set_voice on_open
chord_flags ws l b s r = (sound_flags ws l b s r, refl)

-- OVERLAY (7.4): `&` goes to the measure's next voice, in the same measure
pub overlay_voice : (s : PartState) → ((on_token s overlay).line.overlay ≡ next_voice s.line.overlay) × ((on_token s overlay).measures ≡ s.measures)
unfolding on_token
overlay_voice s = (refl, refl)

-- BEAMS (4.7): a space ends the notes that stand together
pub space_ends : (s : PartState) → (on_token s space).line.run ≡ 0
unfolding on_token
space_ends s = refl

-- VERSES (5.1): the next line is the next verse
pub verse_meets : (t : List ℕ) (s : PartState) → (on_lyric true t s).verses.verse ≡ next_verse s.verses.verse
unfolding on_lyric
verse_meets t s = refl

-- ENDINGS (4.9) end at `:|`, `::` and `|]`, as the standard has it; `||` is where they part
pub ending_agrees : (b : Barline) → (b ≡ double → ⊥) → ends_ending b ≡ closes_ending b
unfolding ends_ending closes_ending
ending_agrees normal h = refl
ending_agrees repeat_start h = refl
ending_agrees repeat_end h = refl
ending_agrees repeat_both h = refl
ending_agrees double h = absurd (h refl)
ending_agrees final h = refl

-- so an ending that starts at m and meets such a barline there is one measure; one that is open ends there
pub alone_ends : (m : Measure) (ms : List Measure) → starts m ≡ true → ends_ending m.right ≡ true → close none (m ∷ ms) ≡ with_volta volta_alone m.passes m ∷ close none ms
unfolding close ends_at
alone_ends m ms h k = rw (h, close) (rw (k, close))

pub open_ends : (ps : List ℕ) (m : Measure) (ms : List Measure) → ends_ending m.right ≡ true → close (some ps) (m ∷ ms) ≡ with_volta volta_ends ps m ∷ close none ms
unfolding close ends_at
open_ends ps m ms k = rw (k, close)
