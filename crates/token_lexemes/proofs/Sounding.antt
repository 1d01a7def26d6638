-- Notes, by position.
use Prim.Native.Nat.{ℕ, suc, ◌+◌, ◌≤◌, ◌<◌}
use mathlib.Core.Path.{◌≡◌, sym, ap, ◌∙◌}
use mathlib.Core.Bool.{true, false}
use mathlib.Core.List.{List, [], ◌∷◌}
use native.Mathlib.Decide.{dec_lt}
use native.Mathlib.Omega.{arith}
use lib.Dec.{leb}
use lib.ListN.{length, get_or, drop, length-drop, drop_of_length-le, get_or-eq_default}
use lib.Seq.{drop-drop}
use Rattle.laws.proofs.Bools.{by_test, and_left, and_right}
use Rattle.laws.proofs.Lists.{drop_next, first_at}
use borrow.Author.Tests.{leb-true}
use Rattle.standard.specs.Pitches.{is_letter, step_of, letter_octave}
use Rattle.reader.specs.Text.{within}
use Rattle.reader.specs.Token.{note, taken}
use Rattle.standard.specs.Bytes.{first}
use Rattle.standard.specs.Notes as standard
use Rattle.editions.specs.declared.Edition.{Edition}
use Rattle.reader.specs.Lengths.{Length, length_of, many_slashes}
use Rattle.reader.specs.Pitches.{octave_from, octave_of, Before, accidental_of}
use Rattle.reader.specs.Sounds.{behind, note_as, note_after, note_of}
use Rattle.reader.proofs.LengthLaws.{with_many, with_few}
use Rattle.std.specs.Prelude.{Ok}
use Rattle.refusals.specs.declared.Refusal.{Refusal}
use Rattle.text_bytes.specs.declared.Read.{Read}
use Rattle.token_suffixes.specs.declared.Fraction.{Fraction}
use Rattle.token_suffixes.specs.Suffixes.{suffix_read, suffix_at}
use Rattle.token_suffixes.proofs.Suffixes.{was_refused, was_read}
use Rattle.text_runs.specs.declared.Behind as runs
use Rattle.text_runs.specs.Behind.{behind_for}
use Rattle.token_pitches.specs.Pitches.{note_char, sign_for, sign_of, before_for, octave_at, octave_for}
use Rattle.token_pitches.specs.declared.Sign.{Sign}
use Rattle.token_pitches.specs.declared.NoteChar.{NoteChar}
use Rattle.token_pitches.proofs.Octaves.{fine, refused}
use Rattle.token_pitches.proofs.Walk.{mark_back}
use Rattle.token_pitches.proofs.InChord.{mark_forth}
use Rattle.token_lexemes.specs.Lexemes.{fraction, rest_for, is_plain, is_short, lexeme_for, cut_for}
use Rattle.token_lexemes.specs.declared.Token.TheVariants.{Rest, Note, Nothing, Refused}
use Rattle.token_lexemes.proofs.Plain.{plain_note, short_note}

-- a byte that is not 0 stands in the line
inside_line : (line : List ℕ) (i : ℕ) → 47 ≤ get_or line i 0 → i < length line
inside_line line i h = go (dec_lt i (length line))
  where
    go : Dec (i < length line) → i < length line
    go (yes l) = l
    go (no l) = let z : get_or line i 0 ≡ 0 = get_or-eq_default line 0 (omega arith) in absurd (omega (arith, h, z))

-- A REST by the number of its kind
module _ (ed : Edition) (line : List ℕ) (at kind : ℕ) (h : at < length line) where
  pub rest_many : ((x : Read Fraction) → suffix_at ed line (at + 1) ≡ Ok x → ⊥) → record { value = Refused Refusal.ManySlashes; next = length line } ≡ rest_for ed at kind (drop (at + 1) line)
  unfolding rest_for
  rest_many e =
      let n : length line ≡ at + suc (length (drop (at + 1) line)) = omega (arith, h, length-drop (at + 1) line) in
      ap (λ x. record { value = Refused Refusal.ManySlashes; next = x }) n ∙ rw (was_refused ed line (at + 1) e, rest_for)

  pub rest_in : (num den next : ℕ) → suffix_at ed line (at + 1) ≡ suffix_read num den next → record { value = Rest kind (fraction num den); next = next } ≡ rest_for ed at kind (drop (at + 1) line)
  unfolding rest_for
  rest_in num den next e =
      let l = was_read ed line (at + 1) num den next e in
      let n : next ≡ at + suc (length_of ed (drop (at + 1) line)).used = omega (arith, l.next_is) in
      (λ i. record { value = Rest kind (fraction (l.num_is i) (l.den_is i)); next = n i }) ∙ rw (l.few, rest_for)

-- FROM THE LETTER ON
module _ (ed : Edition) (a : Before) (c : ℕ) (s : List ℕ) where
  abbrev after_octave : List ℕ
  after_octave = drop (octave_of c s).used s

  abbrev length_here : Length
  length_here = length_of ed after_octave

  abbrev behind_it : standard.Behind
  behind_it = behind (drop ((octave_of c s).used + length_here.used) s)

  note_out_lem : (octave_of c s).fine ≡ false → (at : ℕ) → record { value = Refused Refusal.Octave; next = at + (a.used + 1 + length s) } ≡ cut_for at (note_as ed a c s)
  unfolding note_as lexeme_for
  note_out_lem f at = rw (f, note_as)

  note_many : (octave_of c s).fine ≡ true → many_slashes ed after_octave ≡ true → (at : ℕ) → record { value = Refused Refusal.ManySlashes; next = at + (a.used + 1 + length s) } ≡ cut_for at (note_as ed a c s)
  unfolding note_as lexeme_for
  note_many f m at = rw (f, note_as) (ap (cut_for at) (sym (with_many ed (a.used + 1 + length s) after_octave _ m)))

  note_fine : (octave_of c s).fine ≡ true → many_slashes ed after_octave ≡ false → (at : ℕ)
      → record {
        value = Note (record { step = step_of c; octave = (octave_of c s).octave; sign = sign_for a.sign }) (fraction length_here.num length_here.den) behind_it.tie behind_it.slur;
        next = at + (a.used + 1 + (octave_of c s).used + length_here.used + behind_it.used);
      }
      ≡ cut_for at (note_as ed a c s)
  unfolding note_as lexeme_for
  note_fine f m at = rw (f, note_as) (ap (cut_for at) (sym (with_few ed (a.used + 1 + length s) after_octave _ m)))

module _ (ed : Edition) (line : List ℕ) (at : ℕ) (h : at < length line) (sign : Sign) (l : NoteChar) (e : l ≡ note_char (get_or line at 0)) where
  marks : octave_from l.octave (drop (at + 1) line) ≡ octave_of (get_or line at 0) (drop (at + 1) line)
  unfolding octave_of
  marks = rw e

  pub letter_out : ((x : Read ℕ) → octave_for (at + 1) (octave_from l.octave (drop (at + 1) line)) ≡ Ok x → ⊥)
      → record { value = Refused Refusal.Octave; next = length line } ≡ cut_for at (note_as ed (record { sign = sign_of sign; used = 0 }) (get_or line at 0) (drop (at + 1) line))
  letter_out r =
      let s = drop (at + 1) line in
      let o = octave_of (get_or line at 0) s in
      let n : length line ≡ at + (0 + 1 + length s) = omega (arith, length-drop (at + 1) line) in
      by_test o.fine
      (λ f. absurd (r _ (ap (octave_for (at + 1)) marks ∙ fine (at + 1) o f)))
      (λ f. ap (λ x. record { value = Refused Refusal.Octave; next = x }) n ∙ note_out_lem ed (record { sign = sign_of sign; used = 0 }) (get_or line at 0) s f at)

  -- a letter alone
  pub letter_plain : is_plain (get_or line (at + 1) 0) ≡ true
      → record { value = Note (record { step = l.step; octave = l.octave; sign = sign }) (fraction 1 1) false false; next = at + 1 } ≡ cut_for at (note_as ed (record { sign = sign_of sign; used = 0 }) (get_or line at 0) (drop (at + 1) line))
  unfolding lexeme_for
  letter_plain p =
      let q : is_plain (first (drop (at + 1) line)) ≡ true = ap is_plain (first_at line (at + 1)) ∙ p in
      let m : sign ≡ sign_for (sign_of sign) = sym (mark_forth sign) in
      (λ j. record { value = Note (record { step = (e j).step; octave = (e j).octave; sign = m j }) (fraction 1 1) false false; next = at + 1 })
      ∙ ap (cut_for at) (sym (plain_note ed (record { sign = sign_of sign; used = 0 }) (get_or line at 0) (drop (at + 1) line) q))

  -- a letter with a length of one byte
  pub letter_short : is_short (get_or line (at + 1) 0) (get_or line (at + 2) 0) ≡ true → (a : Before)
      → note_as ed a (get_or line at 0) (drop (at + 1) line)
      ≡ taken (note (record { step = step_of (get_or line at 0); octave = letter_octave (get_or line at 0); sign = a.sign }) (length_of ed (drop (at + 1) line)) (record { tie = false; slur = false; used = 0 })) (a.used + 2)
  letter_short p a =
      let b = get_or line (at + 1) 0 in
      let k : at + 1 + 1 ≡ at + 2 = omega arith in
      let w : within 47 57 b ≡ true = and_left (within 47 57 b) (is_plain (get_or line (at + 2) 0)) p in
      let there : at + 1 < length line = inside_line line (at + 1) (leb-true 47 b (and_left (leb 47 b) (leb b 57) w)) in
      let s : drop (at + 1) line ≡ b ∷ drop (at + 1 + 1) line = drop_next line (at + 1) 0 there in
      let q : is_plain (first (drop (at + 1 + 1) line)) ≡ true = ap is_plain (first_at line (at + 1 + 1) ∙ ap (λ (i : ℕ). get_or line i 0) k) ∙ and_right (within 47 57 b) (is_plain (get_or line (at + 2) 0)) p in
      rw s (short_note b (drop (at + 1 + 1) line) w q ed a (get_or line at 0))

  -- with octave marks, or without: where they end, and the length begins
  module _ (octave next : ℕ) (r : octave_for (at + 1) (octave_from l.octave (drop (at + 1) line)) ≡ octave_at octave next) where
    record Marked : Type 0 where
      fine_is : (octave_of (get_or line at 0) (drop (at + 1) line)).fine ≡ true
      octave_is : octave ≡ (octave_of (get_or line at 0) (drop (at + 1) line)).octave
      next_is : at + 1 + (octave_of (get_or line at 0) (drop (at + 1) line)).used ≡ next
      rest_is : drop next line ≡ drop (octave_of (get_or line at 0) (drop (at + 1) line)).used (drop (at + 1) line)

    marked : Marked
    marked =
        let s = drop (at + 1) line in
        let o = octave_of (get_or line at 0) s in
        let q : octave_for (at + 1) o ≡ octave_at octave next = ap (octave_for (at + 1)) (sym marks) ∙ r in
        by_test o.fine
        (λ f. let k : octave_at o.octave (at + 1 + o.used) ≡ octave_at octave next = sym (fine (at + 1) o f) ∙ q in
        let u : ◌≡◌ {A = Read ℕ} (record { value = o.octave; next = at + 1 + o.used }) (record { value = octave; next = next }) = cc in
        let n : at + 1 + o.used ≡ next = ap (λ (x : Read ℕ). x.next) u in
        record { fine_is = f; octave_is = sym (ap (λ (x : Read ℕ). x.value) u); next_is = n; rest_is = ap (λ i. drop i line) (sym n) ∙ sym (drop-drop o.used (at + 1) line) })
        (λ f. let k = refused (at + 1) o f in let z : ◌≡◌ {A = ℕ} 0 1 = cc in absurd (omega arith))

    -- too many slashes
    pub letter_many : ((x : Read Fraction) → suffix_at ed line next ≡ Ok x → ⊥)
        → record { value = Refused Refusal.ManySlashes; next = length line } ≡ cut_for at (note_as ed (record { sign = sign_of sign; used = 0 }) (get_or line at 0) (drop (at + 1) line))
    letter_many es =
        let s = drop (at + 1) line in
        let n : length line ≡ at + (0 + 1 + length s) = omega (arith, length-drop (at + 1) line) in
        ap (λ x. record { value = Refused Refusal.ManySlashes; next = x }) n
        ∙ note_many ed (record { sign = sign_of sign; used = 0 }) (get_or line at 0) s marked.fine_is (ap (many_slashes ed) (sym marked.rest_is) ∙ was_refused ed line next es) at

    -- a length, and what stands behind it
    pub letter_in : (num den after : ℕ) → suffix_at ed line next ≡ suffix_read num den after → (b : runs.Behind) → b ≡ behind_for after (behind (drop after line))
        → record { value = Note (record { step = l.step; octave = octave; sign = sign }) (fraction num den) b.tie b.slur; next = b.next }
        ≡ cut_for at (note_as ed (record { sign = sign_of sign; used = 0 }) (get_or line at 0) (drop (at + 1) line))
    letter_in num den after es b eb =
        let s = drop (at + 1) line in
        let o = octave_of (get_or line at 0) s in
        let len = was_read ed line next num den after es in
        let g : length_of ed (drop next line) ≡ length_of ed (drop o.used s) = ap (length_of ed) marked.rest_is in
        let st : l.step ≡ step_of (get_or line at 0) = ap (λ (x : NoteChar). x.step) e in
        let m : sign ≡ sign_for (sign_of sign) = sym (mark_forth sign) in
        let num_is : num ≡ (length_of ed (drop o.used s)).num = len.num_is ∙ ap (λ (x : Length). x.num) g in
        let den_is : den ≡ (length_of ed (drop o.used s)).den = len.den_is ∙ ap (λ (x : Length). x.den) g in
        let after_is : after ≡ next + (length_of ed (drop o.used s)).used = len.next_is ∙ ap (λ (x : Length). next + x.used) g in
        let p : at + 1 + (o.used + (length_of ed (drop o.used s)).used) ≡ after = omega (arith, after_is, marked.next_is) in
        let v : drop after line ≡ drop (o.used + (length_of ed (drop o.used s)).used) s =
        ap (λ i. drop i line) (sym p) ∙ sym (drop-drop (o.used + (length_of ed (drop o.used s)).used) (at + 1) line) in
        let w : behind (drop after line) ≡ behind (drop (o.used + (length_of ed (drop o.used s)).used) s) = ap behind v in
        let b-tie : b.tie ≡ (behind (drop (o.used + (length_of ed (drop o.used s)).used) s)).tie = ap (λ (x : runs.Behind). x.tie) eb ∙ ap (λ (x : standard.Behind). x.tie) w in
        let b-slur : b.slur ≡ (behind (drop (o.used + (length_of ed (drop o.used s)).used) s)).slur = ap (λ (x : runs.Behind). x.slur) eb ∙ ap (λ (x : standard.Behind). x.slur) w in
        let b-next : b.next ≡ after + (behind (drop (o.used + (length_of ed (drop o.used s)).used) s)).used = ap (λ (x : runs.Behind). x.next) eb ∙ ap (λ (x : standard.Behind). after + x.used) w in
        let u : b.next ≡ at + (0 + 1 + o.used + (length_of ed (drop o.used s)).used + (behind (drop (o.used + (length_of ed (drop o.used s)).used) s)).used) = omega (arith, b-next, p) in
        (λ j. record { value = Note (record { step = st j; octave = marked.octave_is j; sign = m j }) (fraction (num_is j) (den_is j)) (b-tie j) (b-slur j); next = u j })
        ∙ note_fine ed (record { sign = sign_of sign; used = 0 }) (get_or line at 0) s marked.fine_is (ap (many_slashes ed) (sym marked.rest_is) ∙ len.few) at

-- WITH WHAT STANDS BEFORE IT
module _ (ed : Edition) (a : Before) where
  shift : (c : ℕ) (s : List ℕ) (at : ℕ) → cut_for (at + a.used) (note_as ed (record { sign = a.sign; used = 0 }) c s) ≡ cut_for at (note_as ed a c s)
  shift c s at =
      let o = octave_of c s in
      let z : Before = record { sign = a.sign; used = 0 } in
      let n : at + a.used + (0 + 1 + length s) ≡ at + (a.used + 1 + length s) = omega arith in
      by_test o.fine
      (λ f. by_test (many_slashes ed (drop o.used s))
      (λ m. sym (note_many ed z c s f m (at + a.used)) ∙ ap (λ x. record { value = Refused Refusal.ManySlashes; next = x }) n ∙ note_many ed a c s f m at)
      (λ m. let l = length_of ed (drop o.used s) in
      let b = behind (drop (o.used + l.used) s) in
      let k : at + a.used + (0 + 1 + o.used + l.used + b.used) ≡ at + (a.used + 1 + o.used + l.used + b.used) = omega arith in
      sym (note_fine ed z c s f m (at + a.used))
      ∙ ap (λ x. record { value = Note (record { step = step_of c; octave = o.octave; sign = sign_for a.sign }) (fraction l.num l.den) b.tie b.slur; next = x }) k
      ∙ note_fine ed a c s f m at))
      (λ f. sym (note_out_lem ed z c s f (at + a.used)) ∙ ap (λ x. record { value = Refused Refusal.Octave; next = x }) n ∙ note_out_lem ed a c s f at)

  after_end : (s : List ℕ) (at : ℕ) → s ≡ [] → record { value = Nothing; next = at + a.used } ≡ cut_for at (note_after ed a s)
  unfolding note_after lexeme_for
  after_end s at e = rw e

  after_other : (s : List ℕ) (at c : ℕ) (t : List ℕ) → s ≡ c ∷ t → is_letter c ≡ false → record { value = Nothing; next = at + a.used + 1 } ≡ cut_for at (note_after ed a s)
  unfolding note_after lexeme_for
  after_other s at c t e f = let n : at + a.used + 1 ≡ at + suc a.used = omega arith in rw (e, f, note_after) (rw n)

  after_letter : (s : List ℕ) (at c : ℕ) (t : List ℕ) → s ≡ c ∷ t → is_letter c ≡ true → cut_for (at + a.used) (note_as ed (record { sign = a.sign; used = 0 }) c t) ≡ cut_for at (note_after ed a s)
  unfolding note_after
  after_letter s at c t e f = rw (e, f, note_after) (shift c t at)

module _ (ed : Edition) (line : List ℕ) (at : ℕ) (b : Read (Sign)) (e : b ≡ before_for at (accidental_of (drop at line))) where
  there : drop (accidental_of (drop at line)).used (drop at line) ≡ drop b.next line
  there = drop-drop (accidental_of (drop at line)).used at line ∙ ap (λ i. drop i line) (sym (ap (λ (x : Read (Sign)). x.next) e))

  place : b.next ≡ at + (accidental_of (drop at line)).used
  place = ap (λ (x : Read (Sign)). x.next) e

  pub note_ends : length line ≤ b.next → record { value = Nothing; next = b.next } ≡ cut_for at (note_of ed (drop at line))
  unfolding note_of
  note_ends h =
      ap (λ x. record { value = Nothing; next = x }) place
      ∙ after_end ed (accidental_of (drop at line)) (drop (accidental_of (drop at line)).used (drop at line)) at (there ∙ drop_of_length-le line h)

  module _ (h : b.next < length line) where
    pub note_other : is_letter (get_or line b.next 0) ≡ false → record { value = Nothing; next = b.next + 1 } ≡ cut_for at (note_of ed (drop at line))
    unfolding note_of
    note_other f =
        ap (λ x. record { value = Nothing; next = x + 1 }) place
        ∙ after_other ed (accidental_of (drop at line)) (drop (accidental_of (drop at line)).used (drop at line)) at (get_or line b.next 0) (drop (b.next + 1) line) (there ∙ drop_next line b.next 0 h) f

    pub note_letter : is_letter (get_or line b.next 0) ≡ true
        → cut_for b.next (note_as ed (record { sign = sign_of b.value; used = 0 }) (get_or line b.next 0) (drop (b.next + 1) line)) ≡ cut_for at (note_of ed (drop at line))
    unfolding note_of
    note_letter f =
        let m : sign_of b.value ≡ (accidental_of (drop at line)).sign = ap (λ (x : Read (Sign)). sign_of x.value) e ∙ mark_back (accidental_of (drop at line)).sign in
        (λ j. cut_for (place j) (note_as ed (record { sign = m j; used = 0 }) (get_or line b.next 0) (drop (b.next + 1) line)))
        ∙ after_letter ed (accidental_of (drop at line)) (drop (accidental_of (drop at line)).used (drop at line)) at (get_or line b.next 0) (drop (b.next + 1) line) (there ∙ drop_next line b.next 0 h) f
