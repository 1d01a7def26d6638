-- THE LOOP over the tokens of a line: what is still to come of the line does the rest to every part that was represented where it began.
use Prim.Native.Nat.{ℕ, ◌+◌, ◌≤◌, ◌<◌, max}
use mathlib.Core.Path.{◌≡◌, refl, sym, subst, ◌∙◌}
use mathlib.Core.List.{List, []}
use native.Mathlib.Omega.{arith}
use lib.ListN.{length, drop}
use Rattle.laws.specs.Lists.{foldl}
use Rattle.standard.specs.Fields.{Meter}
use Rattle.editions.specs.declared.Edition.{Edition}
use Rattle.reader.specs.Token as token
use Rattle.reader.specs.Tokens.{token_of, tokens}
use Rattle.reader.proofs.TokenLaws.{fold_at, fold_end}
use Rattle.reader.proofs.TokenBounds.{token_within}
use Rattle.part_layout.specs.Log.{LogState, on_token, line_begins, on_line}
use Rattle.part_layout.proofs.Lines.{InLine, in_line_begins, in_line_token, standing}
use Rattle.bounds.proofs.TokenRanges.{token_fits_lem}
use Rattle.capacity.specs.Sizes.{bars, letters, rests, tones, signs}
use Rattle.capacity.specs.Covers.{makes, CoversBoth}
use Rattle.capacity.proofs.Tokens.{token_cover_at}
use Rattle.part_rows.specs.Table.{Only}
use Rattle.part_rows.proofs.Tables.{only_none, only_then}
use Rattle.part_registers.specs.declared.Tables.{Tables}
use Rattle.part_registers.specs.declared.Counts.{Counts}
use Rattle.part_registers.specs.declared.Registers.{Registers}
use Rattle.part_invariant.specs.Invariant.{Room, Represents, RepresentedInLine, Simulates}
use Rattle.part_invariant.specs.Lines.{RepresentedBetween, RoomForBytes, SimulatesItem}
use Rattle.text_bytes.specs.declared.Read.{Read}
use Rattle.token_lengths.specs.declared.Length.{Length}
use Rattle.token_lexemes.specs.declared.Token as code
use Rattle.tokens.specs.Tokens.{tokenised_for}
use Rattle.tokens.proofs.Chords.{chord_pitches}
use Rattle.tokens.proofs.Past.{token_past}
use Rattle.part_body.specs.Body.{Ready, SimulatesToken}
use Rattle.part_body.proofs.Tokens.{token_ready, token_simulates}

-- a part is represented in a line, with room for what these bytes can make
pub record Begun (line : List ℕ) (t : Tables) (s : List ℕ) (r : Registers) : Type 0 where
  pub room : RoomForBytes t r.counts (length s) line
  pub state : LogState
  pub in_line : InLine state
  pub represents : Represents t s r [] state

-- the tokens from a position on lead to this part
pub record Leads (ed : Edition) (line : List ℕ) (t : Tables) (s : List ℕ) (r : Registers) (at : ℕ) (end : LogState) : Type 0 where
  pub state : LogState
  pub in_line : InLine state
  pub represents : Represents t s r [] state
  pub rest : foldl on_token state (tokens ed 0 (drop at line)) ≡ end

-- THE INVARIANT, from scratch and registers where the tokens begin to those at a position
pub record Going (ed : Edition) (line : List ℕ) (t : Tables) (s₀ : List ℕ) (r₀ : Registers) (s : List ℕ) (r : Registers) (at : ℕ) : Type 0 where
  pub within : at ≤ length line
  pub only : Only t.heads t.end s₀ s
  pub heads_left : max 1 r.counts.heads + bars (drop at line) ≤ max 1 r₀.counts.heads + bars line
  pub notes_left : r.counts.notes + tones (drop at line) ≤ r₀.counts.notes + tones line
  pub pitches_left : r.counts.pitches + letters (drop at line) ≤ r₀.counts.pitches + letters line
  pub scopes_left : r.counts.scopes + signs (drop at line) ≤ r₀.counts.scopes + signs line
  pub holds : (l : LogState) → InLine l → Represents t s₀ r₀ [] l → Leads ed line t s r at (foldl on_token l (tokens ed 0 line))

-- BEFORE THE TOKENS
-- less room
pub rest_none : {t : Tables} {c : Counts} {n : ℕ} {line : List ℕ} → RoomForBytes t c n line → RoomForBytes t c n []
unfolding bars letters rests signs
rest_none h =
    record {
      for_heads = omega (arith, h.for_heads);
      for_notes = omega (arith, h.for_notes);
      for_pitches = omega (arith, h.for_pitches);
      for_scopes = omega (arith, h.for_scopes);
      ends = h.ends;
      small = h.small;
    }

module _ {t : Tables} {s s₁ : List ℕ} {r r₁ : Registers} (u : ℕ) (m : Meter) (b : SimulatesItem t s r s₁ r₁ [] (line_begins u m)) where
  pub begun : {line : List ℕ} → RoomForBytes t r.counts (length s) line → RepresentedBetween t s r → Begun line t s₁ r₁
  unfolding bars letters rests signs
  begun h w =
      let g = b.grows in
      record {
        room =
            record {
              for_heads = omega (arith, h.for_heads, g.more_heads);
              for_notes = omega (arith, h.for_notes, g.more_notes);
              for_pitches = omega (arith, h.for_pitches, g.more_pitches);
              for_scopes = omega (arith, h.for_scopes, g.more_scopes);
              ends = omega (arith, h.ends, b.only.same_length);
              small = h.small;
            };
        state = line_begins u m w.state;
        in_line = in_line_begins u m w.state w.between;
        represents = b.holds w.state w.between w.represents;
      }

  -- AFTER THEM the line has done what it does
  pub line_simulates : (ed : Edition) {line s₂ : List ℕ} {r₂ : Registers} {at : ℕ} → Going ed line t s₁ r₁ s₂ r₂ at → length line ≤ at → SimulatesItem t s r s₂ r₂ line (on_line ed u m line)
  unfolding on_line bars letters rests signs
  line_simulates ed {line} {s₂} {r₂} {at} g h =
      let a = b.grows in
      record {
        only = only_then b.only g.only;
        grows =
            record {
              more_heads = omega (arith, a.more_heads, g.heads_left);
              more_notes = omega (arith, a.more_notes, g.notes_left);
              more_pitches = omega (arith, a.more_pitches, g.pitches_left);
              more_scopes = omega (arith, a.more_scopes, g.scopes_left);
            };
        holds =
            λ l w k.
            let e = g.holds (line_begins u m l) (in_line_begins u m l w) (b.holds l w k) in
            subst (λ (x : LogState). Represents t s₂ r₂ [] x) (sym (fold_end ed on_token e.state line at h) ∙ e.rest) e.represents;
      }

-- where they begin
pub going_start : (ed : Edition) (line : List ℕ) (t : Tables) (s : List ℕ) (r : Registers) → Going ed line t s r s r 0
going_start ed line t s r =
    record {
      within = omega arith;
      only = only_none t.heads t.end s;
      heads_left = omega arith;
      notes_left = omega arith;
      pitches_left = omega arith;
      scopes_left = omega arith;
      holds = λ l i h. record { state = l; in_line = i; represents = h; rest = refl };
    }

-- ONE TOKEN
module _ (ed : Edition) {line : List ℕ} {t : Tables} {s₀ s : List ℕ} {r₀ r : Registers} {at : ℕ} (b : Begun line t s₀ r₀) (g : Going ed line t s₀ r₀ s r at) (h : at < length line) (e : Read (code.Token Length))
    (k : e ≡ tokenised_for at r.line.unit (token_of ed (drop at line))) where
  abbrev tok : token.Token
  tok = (token_of ed (drop at line)).token

  abbrev used : ℕ
  used = (token_of ed (drop at line)).used

  covered : CoversBoth tok (drop at line) (drop (at + used) line)
  covered = token_cover_at ed line at h

  room : Room t r.counts (length s) (makes tok).heads (makes tok).notes (makes tok).pitches (makes tok).scopes
  room =
      let a = b.room in
      record {
        for_heads = omega (arith, a.for_heads, g.heads_left, covered.bars_left);
        for_notes = omega (arith, a.for_notes, g.notes_left, covered.tones_left);
        for_pitches = omega (arith, a.for_pitches, g.pitches_left, covered.letters_left);
        for_scopes = omega (arith, a.for_scopes, g.scopes_left, covered.signs_left);
        ends = omega (arith, a.ends, g.only.same_length);
        small = a.small;
      }

  -- some part is represented
  holding : RepresentedInLine t s r
  holding =
      let e = g.holds b.state b.in_line b.represents in
      record { state = e.state; standing = standing e.state e.in_line; represents = e.represents }

  pub going_ready : Ready line t s r e.value
  going_ready =
      subst (λ (x : Read (code.Token Length)). Ready line t s r x.value) (sym k)
      (token_ready line at tok (chord_pitches ed line at) (token_fits_lem ed (drop at line)) room holding)

  pub going_past : at < e.next
  going_past = rw k (token_past ed line at h)

  pub going_turn : (s' : List ℕ) (r' : Registers) → SimulatesToken line t s r s' r' e.value → Going ed line t s₀ r₀ s' r' e.next
  going_turn s' r' a = subst (λ (x : Read (code.Token Length)). Going ed line t s₀ r₀ s' r' x.next) (sym k) turned
    where
      does : Simulates t s r s' r' (makes tok).heads (makes tok).notes (makes tok).pitches (makes tok).scopes (λ l. on_token l tok)
      does = token_simulates line at tok (chord_pitches ed line at) (subst (λ (x : Read (code.Token Length)). SimulatesToken line t s r s' r' x.value) k a)

      turned : Going ed line t s₀ r₀ s' r' (at + used)
      turned =
          let d = does.grows in
          record {
            within = token_within ed line at h;
            only = only_then g.only does.only;
            heads_left = omega (arith, g.heads_left, d.more_heads, covered.bars_left);
            notes_left = omega (arith, g.notes_left, d.more_notes, covered.tones_left);
            pitches_left = omega (arith, g.pitches_left, d.more_pitches, covered.letters_left);
            scopes_left = omega (arith, g.scopes_left, d.more_scopes, covered.signs_left);
            holds =
                λ l i q.
                let p = g.holds l i q in
                record {
                  state = on_token p.state tok;
                  in_line = in_line_token p.state tok p.in_line;
                  represents = does.holds p.state (standing p.state p.in_line) p.represents;
                  rest = sym (fold_at ed on_token p.state line at h) ∙ p.rest;
                };
          }
