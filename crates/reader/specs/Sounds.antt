-- NOTES, RESTS AND CHORDS (ABC 2.1, 4.1 to 4.5, 4.11, 4.17; 000, parse_abc_chord and parse_body_line; document 02, T-04).
use Rattle.std.specs.Prelude.{ℕ, suc, ◌+◌, true, false, cond, not, List, [], ◌∷◌, ltb, length, drop}
use Rattle.std.proofs.Math.Option.{Option, none, some}
use Rattle.laws.specs.Lists.{count_while}
use Rattle.standard.specs.Bytes.{is}
use Rattle.standard.specs.Pitches.{Written, is_letter, step_of}
use Rattle.standard.specs.Notes.{NoteKind, Behind}
use Rattle.editions.specs.declared.Edition.{Edition}
use Rattle.reader.specs.Lengths.{Length, length_of, many_slashes}
use Rattle.reader.specs.Pitches.{octave_of, Before, accidental_of, chord_of}
use Rattle.reader.specs.Token.{chord, rest, note, nothing, refused, Taken, taken}

-- ties and slur ends right behind a note (ABC 2.1, 4.11)
unfoldable pub behind : List ℕ → Behind
behind [] = record { tie = false; slur = false; used = 0 }
behind (c ∷ s) =
    elim (is "-" c) [
      | true ↦ record { tie = true; slur = (behind s).slur; used = suc (behind s).used }
      | false ↦ elim (is ")" c) [
        | true ↦ record { tie = (behind s).tie; slur = true; used = suc (behind s).used }
        | false ↦ record { tie = false; slur = false; used = 0 }
      ]
    ]

-- THE LENGTH at the front of s, behind a note, a chord or a rest: "one rule, so all three follow it". Refusal 22 takes what is left of the line, `end` bytes from the token's first on
unfoldable pub with_length : Edition → ℕ → List ℕ → (Length → Taken) → Taken
with_length ed end s f = elim (many_slashes ed s) [ true ↦ taken (refused 22) end | false ↦ f (length_of ed s) ]

-- a chord's pitches, its length and what stands behind; s stands behind its `]`, n bytes from the `[` on. Behind an empty chord a length is read over, no more
unfoldable pub chord_taken : Edition → ℕ → List ℕ → Option (List Written) → Taken
chord_taken ed n s none = taken (refused 12) (n + length s)
chord_taken ed n s (some []) = with_length ed (n + length s) s (λ l. taken nothing (n + l.used))
chord_taken ed n s (some (p ∷ ps)) = with_length ed (n + length s) s (λ l. let b = behind (drop l.used s) in taken (chord (p ∷ ps) l b) (n + l.used + b.used))

-- a chord runs to the next `]`, or to the line's end; s stands behind the `[`
unfoldable pub chord_at : Edition → List ℕ → Taken
chord_at ed s =
    let n = count_while (λ c. not (is "]" c)) s in
    chord_taken ed (cond (ltb n (length s)) (2 + n) (1 + n)) (drop (suc n) s) (chord_of 0 none s)

-- a rest and its length
unfoldable pub rest_as : Edition → NoteKind → List ℕ → Taken
rest_as ed kind s = with_length ed (suc (length s)) s (λ l. taken (rest kind l) (suc l.used))

-- a note from its letter c on, after n bytes of accidentals; refusal 12, before 22
unfoldable pub note_as : Edition → Before → ℕ → List ℕ → Taken
note_as ed a c s =
    let o = octave_of c s in
    elim o.fine [
      | true ↦ with_length ed (a.used + 1 + length s) (drop o.used s) (λ l.
          let b = behind (drop (o.used + l.used) s) in
          taken (note (record { step = step_of c; octave = o.octave; sign = a.sign }) l b) (a.used + 1 + o.used + l.used + b.used))
      | false ↦ taken (refused 12) (a.used + 1 + length s)
    ]

-- an accidental takes the byte behind it even if that is no letter (000)
unfoldable pub note_after : Edition → Before → List ℕ → Taken
note_after ed a [] = taken nothing a.used
note_after ed a (c ∷ s) = elim (is_letter c) [ true ↦ note_as ed a c s | false ↦ taken nothing (suc a.used) ]

-- a note with its accidentals
unfoldable pub note_of : Edition → List ℕ → Taken
note_of ed s = let a = accidental_of s in note_after ed a (drop a.used s)
