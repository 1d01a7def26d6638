-- A music line token by token, and what the scan makes of it.
use Prim.Native.Nat.{ℕ, suc, ◌+◌, ◌-◌, ◌≤◌, ◌<◌}
use mathlib.Core.Path.{◌≡◌, refl, sym, ap, subst, ◌∙◌}
use mathlib.Core.Bool.{Bool, true, false, not}
use mathlib.Core.Option.{Option, none, some}
use mathlib.Core.List.{List, [], ◌∷◌, ◌++◌, map}
use native.Mathlib.Numerals.{add-one}
use native.Mathlib.Omega.{arith}
use lib.ListN.{length, take, drop}
use borrow.Author.Tests.{lt-ltb, le-ltb}
use Rattle.std.specs.Prelude.{Result, Ok, Err}
use Rattle.laws.specs.Bytes.{between}
use Rattle.laws.proofs.Parts.{part_cut}
use Rattle.editions.specs.declared.Edition.{Edition}
use Rattle.reader.specs.Text.{has_high}
use Rattle.reader.specs.Tokens.{Effect, counts, refuses, sets_unit, sets_meter, no_effect, token_of, effect_of, effects}
use Rattle.reader.specs.Token.{Taken}
use Rattle.reader.specs.Lines.{music}
use Rattle.reader.specs.Steps.{refuse, on, first}
use Rattle.reader.specs.Scan.{music_line, note_count, last_unit, last_meter, first_refusal, play_on, act}
use Rattle.reader.proofs.TokenLaws.{tokens_at, tokens_end}
use Rattle.reader.proofs.TokenBounds.{token_within}
use Rattle.tokens.specs.Tokens.{effect_as}
use Rattle.tokens.specs.declared.Effect as code
use Rattle.tokens.proofs.Past.{token_past}
use Rattle.refusals.specs.declared.Refusal.{Refusal}
use Rattle.refusals.specs.Numbers.{number_of}
use Rattle.text_lines.specs.declared.Class.TheVariants as C
use Rattle.text_lines.specs.Lines.{kind_as}
use Rattle.scan_table.specs.Rows.{items_in}
use Rattle.scan_states.specs.declared.State.{State}
use Rattle.scan_states.specs.States.{state_in, out_in, refused_in, Stepped}
use Rattle.scan_music.specs.declared.Count.{Count}
use Rattle.scan_music.specs.MusicLines.{by_number, counted_as, counted_for, counted_on, state_after}

-- ONE TOKEN
abbrev pub with_notes : Count → ℕ → Count
with_notes p n = record { notes = n; unit = p.unit; top = p.top; bottom = p.bottom }

pub note_counts_lem : (p : Count) (es : List Effect) → p.notes < 100000 → counted_on (Ok (with_notes p (p.notes + 1))) es ≡ counted_for p (counts ∷ es)
unfolding counted_on counted_for first_refusal counted_as note_count last_unit last_meter
note_counts_lem p es h = rw (lt-ltb p.notes 100000 h, add-one p.notes) (go (first_refusal (suc p.notes) es))
  where
    more : suc p.notes + note_count es ≡ p.notes + suc (note_count es)
    more = omega arith

    go : (o : Option ℕ) → counted_as (with_notes p (suc p.notes)) es o ≡ counted_as p (counts ∷ es) o
    go (some k) = refl
    go none = ap (λ (n : ℕ). Ok (record { notes = n; unit = last_unit es p.unit; top = (last_meter es (p.top, p.bottom)).0; bottom = (last_meter es (p.top, p.bottom)).1 })) more

pub note_refused : (p : Count) (es : List Effect) → 100000 ≤ p.notes → counted_on (Err 11) es ≡ counted_for p (counts ∷ es)
unfolding counted_on counted_for counted_as first_refusal
note_refused p es h = rw (le-ltb p.notes 100000 h)

pub refused_here : (p : Count) (k : ℕ) (es : List Effect) → counted_on (Err k) es ≡ counted_for p (refuses k ∷ es)
unfolding counted_on counted_for counted_as first_refusal
refused_here p k es = refl

pub unit_set : (p : Count) (u : ℕ) (es : List Effect) → counted_on (Ok (record { notes = p.notes; unit = u; top = p.top; bottom = p.bottom })) es ≡ counted_for p (sets_unit u ∷ es)
unfolding counted_on counted_for first_refusal counted_as note_count last_unit last_meter
unit_set p u es = go (first_refusal p.notes es)
  where
    go : (o : Option ℕ) → counted_as (record { notes = p.notes; unit = u; top = p.top; bottom = p.bottom }) es o ≡ counted_as p (sets_unit u ∷ es) o
    go (some k) = refl
    go none = refl

pub meter_set : (p : Count) (t b : ℕ) (es : List Effect) → counted_on (Ok (record { notes = p.notes; unit = p.unit; top = t; bottom = b })) es ≡ counted_for p (sets_meter (t, b) ∷ es)
unfolding counted_on counted_for first_refusal counted_as note_count last_unit last_meter
meter_set p t b es = go (first_refusal p.notes es)
  where
    go : (o : Option ℕ) → counted_as (record { notes = p.notes; unit = p.unit; top = t; bottom = b }) es o ≡ counted_as p (sets_meter (t, b) ∷ es) o
    go (some k) = refl
    go none = refl

pub passed : (p : Count) (es : List Effect) → counted_on (Ok p) es ≡ counted_for p (no_effect ∷ es)
unfolding counted_on counted_for first_refusal counted_as note_count last_unit last_meter
passed p es = go (first_refusal p.notes es)
  where
    go : (o : Option ℕ) → counted_as p es o ≡ counted_as p (no_effect ∷ es) o
    go (some k) = refl
    go none = refl

-- THE LOOP over a line
module _ (ed : Edition) (line : List ℕ) (at : ℕ) where
  pub none_left : (p : Count) → length line ≤ at → counted_for p (effects ed (drop at line)) ≡ Ok p
  unfolding counted_for counted_as effects first_refusal note_count last_unit last_meter
  none_left p h = rw (tokens_end ed line at h) (ap (λ (n : ℕ). Ok (with_notes p n)) none)
    where
      none : p.notes + 0 ≡ p.notes
      none = omega arith

  -- the token there, and the position after it
  abbrev pub found : Taken
  found = token_of ed (drop at line)

  abbrev pub next : ℕ
  next = at + found.used

  next_effect : at < length line → effects ed (drop at line) ≡ effect_of found.token ∷ effects ed (drop next line)
  unfolding effects
  next_effect h = ap (map effect_of) (tokens_at ed line at h)

  pub past : at < length line → at < next
  past h = token_past ed line at h

  pub within : at < length line → next ≤ length line
  within h = token_within ed line at h

  -- the rest, after one token
  pub turned : at < length line → (q : Count) (s : Result Count ℕ) (e : code.Effect) → effect_as e ≡ effect_of found.token
      → ((es : List Effect) → counted_on s es ≡ counted_for q (effect_as e ∷ es)) → counted_on s (effects ed (drop next line)) ≡ counted_for q (effects ed (drop at line))
  turned h q s e x f =
      f (effects ed (drop next line)) ∙ ap (λ (y : Effect). counted_for q (y ∷ effects ed (drop next line))) x ∙ ap (counted_for q) (sym (next_effect h))

-- THE WALK: the cursor is at the place `at` of the line, whose end it knows; what is still to come, after the count q so far, gives the answer of the whole line after `start`
pub record Walked (ed : Edition) (line : List ℕ) (start q : Count) (at end : ℕ) : Type 0 where
  pub to_end : end ≡ length line
  pub at_most : at ≤ length line
  pub to_come : counted_for q (effects ed (drop at line)) ≡ counted_for start (effects ed line)

module _ {ed : Edition} {line : List ℕ} {start q : Count} {at end : ℕ} (w : Walked ed line start q at end) where
  -- in a turn a token is there
  pub walked_less : at < end → at < length line
  walked_less h = omega (arith, w.to_end, h)

  -- behind the loop the count so far is the answer
  pub walked_over : end ≤ at → Ok q ≡ counted_for start (effects ed line)
  walked_over h = sym (none_left ed line at q (omega (arith, w.to_end, h))) ∙ w.to_come

  module _ (h : at < end) (s : Result Count ℕ) (x : code.Effect) (is : effect_as x ≡ effect_of (found ed line at).token) (f : (es : List Effect) → counted_on s es ≡ counted_for q (effect_as x ∷ es)) where
    come : counted_on s (effects ed (drop (next ed line at) line)) ≡ counted_for start (effects ed line)
    come = turned ed line at (walked_less h) q s x is f ∙ w.to_come

    -- one token more
    pub walked_on : (c : Count) → s ≡ Ok c → Walked ed line start c (next ed line at) end
    unfolding counted_on
    walked_on c e = record { to_end = w.to_end; at_most = within ed line at (walked_less h); to_come = ap (λ (r : Result Count ℕ). counted_on r (effects ed (drop (next ed line at) line))) (sym e) ∙ come }

    -- a refusal
    pub walked_refused : (k : ℕ) → s ≡ Err k → Err k ≡ counted_for start (effects ed line)
    unfolding counted_on
    walked_refused k e = ap (λ (r : Result Count ℕ). counted_on r (effects ed (drop (next ed line at) line))) (sym e) ∙ come

-- THE LINE in the scan
abbrev pub count_of : State → Count
count_of st = record { notes = st.notes; unit = st.unit; top = st.top; bottom = st.bottom }

-- in the header it is passed over; refusal 6
pub line_high : (ed : Edition) (text s s' : List ℕ) (st : State) (from end : ℕ) → st.in_header ≡ false → has_high (between text from end) ≡ true
    → Stepped text s st (act (state_in text s st) (kind_as ed (between text from end) C.Music) st.in_header) s' (Err (refused_in st Refusal.NotAscii))
unfolding act
line_high ed text s s' st from end body high =
    let l = between text from end in
    record {
      is = sym (ap (first (items_in text s st.items)) (ap (λ (b : Bool). act (state_in text s st) (music (has_high l) (effects ed l) l) b) body ∙ ap (λ (b : Bool). act (state_in text s st) (music b (effects ed l) l) false) high));
      follows = tt;
    }

-- the line as it was lent
pub lent_line : (ed : Edition) (text : List ℕ) (from end : ℕ) (p : Count) (r q : Result Count Refusal) → r ≡ q → by_number r ≡ counted_for p (effects ed (take (end - from) (drop from text)))
    → by_number q ≡ counted_for p (effects ed (between text from end))
lent_line ed text from end p r q e x = ap by_number (sym e) ∙ x ∙ ap (λ (l : List ℕ). counted_for p (effects ed l)) (part_cut text from (end - from))

module _ (ed : Edition) (text s : List ℕ) (st : State) (from end : ℕ) (body : st.in_header ≡ false) (low : has_high (between text from end) ≡ false) where
  abbrev line : List ℕ
  line = between text from end

  abbrev es : List Effect
  es = effects ed line

  music_line_lem : act (state_in text s st) (kind_as ed line C.Music) st.in_header ≡ play_on (state_in text s st) es line (first_refusal st.notes es)
  unfolding act
  music_line_lem = ap (λ (b : Bool). act (state_in text s st) (music (has_high line) es line) b) body ∙ ap (λ (b : Bool). act (state_in text s st) (music b es line) false) low

  pub line_refused : (s' : List ℕ) (r : Refusal) → Err (number_of r) ≡ counted_for (count_of st) es
      → Stepped text s st (act (state_in text s st) (kind_as ed line C.Music) st.in_header) s' (Err (refused_in st r))
  unfolding counted_for counted_as play_on
  line_refused s' r e = record { is = sym (ap (first (items_in text s st.items)) (music_line_lem ∙ go (first_refusal st.notes es) e)); follows = tt }
    where
      go : (o : Option ℕ) → Err (number_of r) ≡ counted_as (count_of st) es o → play_on (state_in text s st) es line o ≡ refuse (number_of r) (suc st.lines)
      go (some j) x = let q : j ≡ number_of r = cc in ap (λ (n : ℕ). refuse n (suc st.lines)) q
      go none x = cc

  pub line_counted : (s' : List ℕ) (q : Count) (r : State) → Ok q ≡ counted_for (count_of st) es → st.voices ≤ 32 → st.part < 32 → r ≡ state_after st q
      → out_in text s' (Ok r) ≡ on (state_in text s (state_after st q)) (items_in text s st.items ++ ((st.part, music_line st.unit (st.top, st.bottom) line) ∷ []))
      → Stepped text s st (act (state_in text s st) (kind_as ed line C.Music) st.in_header) s' (Ok r)
  unfolding counted_for counted_as play_on
  line_counted s' q r e v p f x =
      record {
        is = x ∙ sym (ap (first (items_in text s st.items)) (music_line_lem ∙ go (first_refusal st.notes es) e));
        follows = rw f (refl, (v, (p, omega arith)));
      }
    where
      go : (o : Option ℕ) → Ok q ≡ counted_as (count_of st) es o → play_on (state_in text s st) es line o ≡ on (state_in text s (state_after st q)) ((st.part, music_line st.unit (st.top, st.bottom) line) ∷ [])
      go (some j) x = cc
      go none x =
          let c : Count = record { notes = st.notes + note_count es; unit = last_unit es st.unit; top = (last_meter es (st.top, st.bottom)).0; bottom = (last_meter es (st.top, st.bottom)).1 } in
          let y : c ≡ q = cc in
          ap (λ (d : Count). on (state_in text s (state_after st d)) ((st.part, music_line st.unit (st.top, st.bottom) line) ∷ [])) y
