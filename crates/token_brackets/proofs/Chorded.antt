-- Chords, by position.
use Prim.Native.Nat.{ℕ, suc, ◌+◌, ◌-◌, ◌≤◌, ◌<◌}
use mathlib.Core.Path.{◌≡◌, refl, sym, ap, subst, ◌∙◌}
use mathlib.Core.Bool.{true, cond, not}
use mathlib.Core.Option.{Option, none, some}
use mathlib.Core.List.{List, [], ◌∷◌}
use native.Mathlib.Omega.{arith}
use lib.Dec.{ltb, eqb}
use lib.ListN.{length, drop, length-drop, drop_of_length-le}
use lib.Seq.{drop-drop}
use borrow.Author.Tests.{lt-ltb, le-ltb, ltb-true, ltb-false}
use Rattle.laws.specs.Lists.{count_while}
use Rattle.laws.specs.Spans.{end_of}
use Rattle.laws.proofs.Bools.{by_test}
use Rattle.laws.proofs.Spans.{count_while_le}
use Rattle.standard.specs.Pitches.{Written}
use Rattle.standard.specs.Notes as standard
use Rattle.editions.specs.declared.Edition.{Edition}
use Rattle.reader.specs.Lengths.{Length, length_of, many_slashes}
use Rattle.reader.specs.Pitches.{chord_of}
use Rattle.reader.specs.Token.{Taken}
use Rattle.reader.specs.Sounds.{behind, with_length, chord_taken, chord_at}
use Rattle.reader.proofs.LengthLaws.{with_many, with_few}
use Rattle.std.specs.Prelude.{Ok}
use Rattle.refusals.specs.declared.Refusal.{Refusal}
use Rattle.text_bytes.specs.declared.Read.{Read}
use Rattle.token_suffixes.specs.declared.Fraction.{Fraction}
use Rattle.token_suffixes.specs.Suffixes.{suffix_read, suffix_at}
use Rattle.token_suffixes.proofs.Suffixes.{was_refused, WasRead, was_read}
use Rattle.text_runs.specs.declared.Behind as runs
use Rattle.text_runs.specs.Behind.{behind_for}
use Rattle.token_pitches.specs.Chords.{closed_at, chord_read, chord_for}
use Rattle.token_lexemes.specs.Lexemes.{fraction, lexeme_for, cut_for}
use Rattle.token_lexemes.specs.declared.Token.TheVariants.{Chord, Nothing, Refused}

module _ (ed : Edition) (line : List ℕ) (at close : ℕ) (h : at < length line) (k : close ≡ end_of (λ c. not (eqb c 93)) line (at + 1)) where
  -- the bytes before the `]`, and those of the chord
  inner : ℕ
  inner = count_while (λ c. not (eqb c 93)) (drop (at + 1) line)

  whole : ℕ
  whole = cond (ltb inner (length (drop (at + 1) line))) (2 + inner) (1 + inner)

  place : close ≡ at + 1 + inner
  unfolding inner
  place = k

  left : length (drop (at + 1) line) ≡ length line - (at + 1)
  left = length-drop (at + 1) line

  bound : inner ≤ length (drop (at + 1) line)
  unfolding inner
  bound = count_while_le (λ c. not (eqb c 93)) (drop (at + 1) line)

  -- the position after it
  after : closed_at line close ≡ at + whole
  unfolding closed_at whole
  after =
      by_test (ltb inner (length (drop (at + 1) line)))
      (λ e. let l : close < length line = omega (arith, ltb-true inner (length (drop (at + 1) line)) e, place, left) in
      let n : close + 1 ≡ at + (2 + inner) = omega (arith, place) in
      rw (e, lt-ltb close (length line) l, n))
      (λ e. let l : length line ≤ close = omega (arith, ltb-false inner (length (drop (at + 1) line)) e, place, left) in
      let n : close ≡ at + (1 + inner) = omega (arith, place) in
      rw (e, le-ltb close (length line) l) n)

  -- and what stands there
  rest : drop (suc inner) (drop (at + 1) line) ≡ drop (closed_at line close) line
  unfolding closed_at
  rest =
      by_test (ltb close (length line))
      (λ e. let n : at + 1 + suc inner ≡ close + 1 = omega (arith, place) in
      rw e (drop-drop (suc inner) (at + 1) line ∙ ap (λ i. drop i line) n))
      (λ e. let l : length line ≤ close = omega (arith, ltb-false close (length line) e) in
      let m : length (drop (at + 1) line) ≤ suc inner = omega (arith, place, left) in
      rw e (drop_of_length-le (drop (at + 1) line) m ∙ sym (drop_of_length-le line l)))

  chord_is : chord_at ed (drop (at + 1) line) ≡ chord_taken ed whole (drop (closed_at line close) line) (chord_of 0 none (drop (at + 1) line))
  unfolding chord_at whole inner
  chord_is = rw rest

  in_line : closed_at line close ≤ length line
  unfolding closed_at
  in_line =
      by_test (ltb close (length line))
      (λ e. rw e (omega (arith, ltb-true close (length line) e)))
      (λ e. rw e (omega (arith, place, left, bound)))

  -- what a refusal takes: what is left of the line
  whole_line : length line ≡ at + (whole + length (drop (closed_at line close) line))
  whole_line = omega (arith, after, length-drop (closed_at line close) line, in_line)

  -- refusal 12
  refused_by : (o : Option (List Written)) → ((x : Read ℕ) → chord_for (closed_at line close) o ≡ Ok x → ⊥)
      → record { value = Refused Refusal.Octave; next = length line } ≡ cut_for at (chord_taken ed whole (drop (closed_at line close) line) o)
  unfolding chord_for chord_taken lexeme_for
  refused_by none e = ap (λ x. record { value = Refused Refusal.Octave; next = x }) whole_line
  refused_by (some ps) e = absurd (e _ refl)

  pub chord_refused : ((x : Read ℕ) → chord_for (closed_at line close) (chord_of 0 none (drop (at + 1) line)) ≡ Ok x → ⊥) → record { value = Refused Refusal.Octave; next = length line } ≡ cut_for at (chord_at ed (drop (at + 1) line))
  chord_refused e = refused_by (chord_of 0 none (drop (at + 1) line)) e ∙ ap (cut_for at) (sym chord_is)

  -- its length begins where the chord ends
  module _ (count next : ℕ) where
    began_by : (o : Option (List Written)) → chord_for (closed_at line close) o ≡ chord_read count next → next ≡ closed_at line close
    unfolding chord_for
    began_by none e = let z : ◌≡◌ {A = ℕ} 0 1 = cc in absurd (omega arith)
    began_by (some ps) e = let r : ◌≡◌ {A = Read ℕ} (record { value = length ps; next = closed_at line close }) (record { value = count; next = next }) = cc in sym (ap (λ (x : Read ℕ). x.next) r)

    -- and the number of its pitches is read
    counted_by : (ps : List Written) → chord_for (closed_at line close) (some ps) ≡ chord_read count next → length ps ≡ count
    unfolding chord_for
    counted_by ps e = let r : ◌≡◌ {A = Read ℕ} (record { value = length ps; next = closed_at line close }) (record { value = count; next = next }) = cc in ap (λ (x : Read ℕ). x.value) r

    -- refusal 22
    many_cut : (f : Length → Taken) → many_slashes ed (drop (closed_at line close) line) ≡ true
        → record { value = Refused Refusal.ManySlashes; next = length line } ≡ cut_for at (with_length ed (whole + length (drop (closed_at line close) line)) (drop (closed_at line close) line) f)
    unfolding lexeme_for
    many_cut f m = ap (λ x. record { value = Refused Refusal.ManySlashes; next = x }) whole_line ∙ ap (cut_for at) (sym (with_many ed (whole + length (drop (closed_at line close) line)) (drop (closed_at line close) line) f m))

    many_by : many_slashes ed (drop (closed_at line close) line) ≡ true → (o : Option (List Written)) → chord_for (closed_at line close) o ≡ chord_read count next
        → record { value = Refused Refusal.ManySlashes; next = length line } ≡ cut_for at (chord_taken ed whole (drop (closed_at line close) line) o)
    unfolding chord_for chord_taken
    many_by m none e = let z : ◌≡◌ {A = ℕ} 0 1 = cc in absurd (omega arith)
    many_by m (some []) e = many_cut _ m
    many_by m (some (p ∷ ps)) e = many_cut _ m

    pub chord_many : chord_for (closed_at line close) (chord_of 0 none (drop (at + 1) line)) ≡ chord_read count next → ((x : Read Fraction) → suffix_at ed line next ≡ Ok x → ⊥)
        → record { value = Refused Refusal.ManySlashes; next = length line } ≡ cut_for at (chord_at ed (drop (at + 1) line))
    chord_many e es =
        let o = chord_of 0 none (drop (at + 1) line) in
        many_by (ap (λ i. many_slashes ed (drop i line)) (sym (began_by o e)) ∙ was_refused ed line next es) o e ∙ ap (cut_for at) (sym chord_is)

    -- the length that was read, from where the chord ends
    module _ (num den end : ℕ) (es : suffix_at ed line next ≡ suffix_read num den end) where
      begun : next ≡ closed_at line close → WasRead ed line (closed_at line close) num den end
      begun m = subst (λ i. WasRead ed line i num den end) m (was_read ed line next num den end es)

      empty_by : (o : Option (List Written)) → chord_for (closed_at line close) o ≡ chord_read count next → count ≡ 0
          → record { value = Nothing; next = end } ≡ cut_for at (chord_taken ed whole (drop (closed_at line close) line) o)
      unfolding chord_for chord_taken lexeme_for
      empty_by none e z = let z : ◌≡◌ {A = ℕ} 0 1 = cc in absurd (omega arith)
      empty_by (some []) e z =
          let s = drop (closed_at line close) line in
          let l = begun (began_by (some []) e) in
          let n : end ≡ at + (whole + (length_of ed s).used) = omega (arith, l.next_is, after) in
          ap (λ x. record { value = Nothing; next = x }) n ∙ ap (cut_for at) (sym (with_few ed (whole + length s) s _ l.few))
      empty_by (some (p ∷ ps)) e z = let y = counted_by (p ∷ ps) e ∙ z in absurd (omega (arith, y))

      pub chord_empty : chord_for (closed_at line close) (chord_of 0 none (drop (at + 1) line)) ≡ chord_read count next → count ≡ 0
          → record { value = Nothing; next = end } ≡ cut_for at (chord_at ed (drop (at + 1) line))
      chord_empty e z = empty_by (chord_of 0 none (drop (at + 1) line)) e z ∙ ap (cut_for at) (sym chord_is)

      module _ (some-count : count ≡ 0 → ⊥) (b : runs.Behind) (eb : b ≡ behind_for end (behind (drop end line))) where
        full_by : (o : Option (List Written)) → chord_for (closed_at line close) o ≡ chord_read count next
            → record { value = Chord (at + 1) count (fraction num den) b.tie b.slur; next = b.next } ≡ cut_for at (chord_taken ed whole (drop (closed_at line close) line) o)
        unfolding chord_for chord_taken lexeme_for
        full_by none e = let z : ◌≡◌ {A = ℕ} 0 1 = cc in absurd (omega arith)
        full_by (some []) e = absurd (some-count (sym (counted_by [] e)))
        full_by (some (p ∷ ps)) e =
            let s = drop (closed_at line close) line in
            let q : count ≡ length (p ∷ ps) = sym (counted_by (p ∷ ps) e) in
            let r = begun (began_by (some (p ∷ ps)) e) in
            let l = length_of ed s in
            let v : drop end line ≡ drop l.used s = ap (λ i. drop i line) r.next_is ∙ sym (drop-drop l.used (closed_at line close) line) in
            let w : behind (drop end line) ≡ behind (drop l.used s) = ap behind v in
            let b-tie : b.tie ≡ (behind (drop l.used s)).tie = ap (λ (x : runs.Behind). x.tie) eb ∙ ap (λ (x : standard.Behind). x.tie) w in
            let b-slur : b.slur ≡ (behind (drop l.used s)).slur = ap (λ (x : runs.Behind). x.slur) eb ∙ ap (λ (x : standard.Behind). x.slur) w in
            let b-next : b.next ≡ end + (behind (drop l.used s)).used = ap (λ (x : runs.Behind). x.next) eb ∙ ap (λ (x : standard.Behind). end + x.used) w in
            let u : b.next ≡ at + (whole + l.used + (behind (drop l.used s)).used) = omega (arith, after, b-next, r.next_is) in
            (λ j. record { value = Chord (at + 1) (q j) (fraction (r.num_is j) (r.den_is j)) (b-tie j) (b-slur j); next = u j })
            ∙ ap (cut_for at) (sym (with_few ed (whole + length s) s _ r.few))

        pub chord_full : chord_for (closed_at line close) (chord_of 0 none (drop (at + 1) line)) ≡ chord_read count next
            → record { value = Chord (at + 1) count (fraction num den) b.tie b.slur; next = b.next } ≡ cut_for at (chord_at ed (drop (at + 1) line))
        chord_full e = full_by (chord_of 0 none (drop (at + 1) line)) e ∙ ap (cut_for at) (sym chord_is)
