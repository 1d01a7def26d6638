-- THE OPEN MEASURE'S KEY, and the first measure of a part.
use Prim.Native.Nat.{ℕ, ◌+◌, ◌-◌, ◌*◌, ◌≤◌, ◌<◌, max}
use mathlib.Core.Path.{◌≡◌, refl, sym, ap, subst, ◌∙◌}
use mathlib.Core.List.{List, [], ◌∷◌, ◌++◌}
use native.Mathlib.Nat.{not-suc-le-zero}
use native.Mathlib.Omega.{arith}
use lib.ListN.{length, get_or}
use Rattle.laws.specs.Bytes.{splice}
use Rattle.standard.specs.Keys.{Key}
use Rattle.standard.specs.Bars.{normal}
use Rattle.standard.specs.Fields.{Meter}
use Rattle.reader.specs.Codes.{mode_code}
use Rattle.reader.specs.Records.{signed8, measure_width}
use Rattle.reader.specs.Token as token
use Rattle.reader.specs.State.{new_line}
use Rattle.part_layout.specs.Log.{Head, LogState, with_key_mark, new_head, on_token, hears, opened, line_begins}
use Rattle.part_rows.proofs.Tables.{only_none}
use Rattle.part_measures.specs.Heads.{new_row, key_mark_at}
use Rattle.part_measures.proofs.Heads.{new_row_lem, length_new, head_mark}
use Rattle.part_scopes.specs.Scopes.{Scoped}
use Rattle.capacity.specs.Sizes.{bars, letters, rests, signs}
use Rattle.part_scopes.proofs.Scopes.{scoped_behind}
use Rattle.part_registers.specs.declared.Counts.{Counts}
use Rattle.part_registers.specs.declared.Tables.{Tables}
use Rattle.part_registers.specs.declared.Registers.{Registers}
use Rattle.part_invariant.specs.Invariant.{Room, Stored, Represents, RepresentedInLine, pitches_in, Simulates}
use Rattle.part_invariant.specs.Lines.{RoomForBytes, RepresentedBetween, GrowsBy, SimulatesItem}
use Rattle.part_invariant.proofs.Stores.{head_pushed, head_pushed_only}
use Rattle.part_invariant.proofs.Appending.{some_head}
use Rattle.part_bars.proofs.Heads.{some_head_lem, open_represented, open_only, no_scopes_lem, stored_as}
use Rattle.part_steps.specs.Steps.{hearing, begun}

-- AN INLINE KEY
module _ {t : Tables} {s : List ℕ} {r : Registers} (k : Key) (room : Room t r.counts (length s) 0 0 0 0) where
  hears_represented : (l : LogState) → Represents t s r [] l → Represents t s (hearing r k) [] (hears k l)
  unfolding hears
  hears_represented l h =
      record {
        stored = stored_as h.stored refl refl refl;
        scoped = no_scopes_lem s t.scopes;
        key_is = refl;
        last_is = h.last_is;
        pending_is = h.pending_is;
        line_is = h.line_is;
        half_is = h.half_is;
        running_is = h.running_is;
        sounded_is = h.sounded_is;
        sounded_most = h.sounded_most;
        start_is = h.start_is;
        verse_is = h.verse_is;
      }

  pub key_simulates : RepresentedInLine t s r → (s' : List ℕ) → s' ≡ splice s (t.heads + measure_width * (r.counts.heads - 1) + key_mark_at) (mode_code k.minor ∷ signed8 k.fifths ∷ [])
      → (x : Registers) → x ≡ hearing r k → Simulates t s r s' x 0 0 0 0 (λ l. on_token l (token.key k))
  unfolding on_token hears
  key_simulates a s' e x d =
      let fewer : Room t (hearing r k).counts (length s) 0 0 0 0 =
      record { for_heads = room.for_heads; for_notes = room.for_notes; for_pitches = room.for_pitches; for_scopes = omega (arith, room.for_scopes); ends = room.ends; small = room.small } in
      subst (λ (y : Registers). Simulates t s r s' y 0 0 0 0 (λ l. on_token l (token.key k))) (sym d)
      (record {
        only = open_only room s' key_mark_at (mode_code k.minor ∷ signed8 k.fifths ∷ []) e (omega arith) a.state (some_head_lem a.state a.standing) a.represents;
        grows = record { more_heads = omega arith; more_notes = omega arith; more_pitches = omega arith; more_scopes = omega arith };
        holds =
            λ l st h. open_represented {r = hearing r k} fewer s' key_mark_at (mode_code k.minor ∷ signed8 k.fifths ∷ []) e (omega arith) (hears k l) (some_head_lem l st) (hears_represented l h) (with_key_mark k)
            (head_mark (get_or l.heads (r.counts.heads - 1) some_head) k);
      })

-- A LINE BEGINS
-- the measures: one, or as they were
opened_none : (m : Meter) (hs : List Head) → length hs ≡ 0 → hs ++ (new_head m normal ∷ []) ≡ opened m hs
unfolding opened
opened_none m [] h = refl
opened_none m (x ∷ hs) h = absurd (omega arith)

opened_some : (m : Meter) (hs : List Head) → 0 < length hs → hs ≡ opened m hs
unfolding opened
opened_some m [] h = absurd (not-suc-le-zero h)
opened_some m (x ∷ hs) h = refl

begins_represented : {t : Tables} {s s' : List ℕ} {r : Registers} (n unit top bottom : ℕ) (l : LogState) (hs : List Head) → hs ≡ opened (top, bottom) l.heads → Represents t s r [] l
    → Stored t (begun r n unit top bottom).counts s' hs l.log (pitches_in l.log ++ []) → Scoped s' t.scopes r.counts.scopes r.key.scopes l.scopes
    → Represents t s' (begun r n unit top bottom) [] (line_begins unit (top, bottom) l)
unfolding line_begins new_line
begins_represented {t} {s} {s'} {r} n unit top bottom l hs e h q c =
    record {
      stored = subst (λ (x : List Head). Stored t (begun r n unit top bottom).counts s' x l.log (pitches_in l.log ++ [])) e q;
      scoped = c;
      key_is = h.key_is;
      last_is = h.last_is;
      pending_is = h.pending_is;
      line_is = refl;
      half_is = refl;
      running_is = refl;
      sounded_is = h.sounded_is;
      sounded_most = h.sounded_most;
      start_is = h.sounded_is;
      verse_is = refl;
    }

-- no byte, no row
none_made_lem : (c c' : Counts) → max 1 c'.heads ≤ max 1 c.heads → c'.notes ≡ c.notes → c'.pitches ≡ c.pitches → c'.scopes ≡ c.scopes → GrowsBy c c' []
none_made_lem c c' e f g k = record { more_heads = omega (arith, e); more_notes = omega (arith, f); more_pitches = omega (arith, g); more_scopes = omega (arith, k) }

module _ {t : Tables} {s : List ℕ} {r : Registers} (unit top bottom : ℕ) where
  -- where there is none
  pub opens_first : RoomForBytes t r.counts (length s) [] → RepresentedBetween t s r → r.counts.heads ≡ 0 → (s' : List ℕ) → s' ≡ splice s (t.heads + measure_width * 0) (new_row 0 top bottom)
      → (x : Registers) → x ≡ begun r 1 unit top bottom → SimulatesItem t s r s' x [] (line_begins unit (top, bottom)) × (1 ≤ x.counts.heads)
  unfolding bars letters rests signs
  opens_first rest a z s' e x d =
      let m : Meter = (top, bottom) in
      let room : Room t r.counts (length s) 1 0 0 0 =
      record { for_heads = omega (arith, rest.for_heads, z); for_notes = omega (arith, rest.for_notes); for_pitches = omega (arith, rest.for_pitches); for_scopes = omega (arith, rest.for_scopes); ends = rest.ends; small = rest.small } in
      let e' : s' ≡ splice s (t.heads + measure_width * r.counts.heads) (new_row 0 top bottom) = e ∙ ap (λ (k : ℕ). splice s (t.heads + measure_width * k) (new_row 0 top bottom)) (sym z) in
      subst (λ (y : Registers). SimulatesItem t s r s' y [] (line_begins unit (top, bottom)) × (1 ≤ y.counts.heads)) (sym d) (
        record {
          only = head_pushed_only a.represents.stored s' room (new_head m normal) (new_row 0 top bottom) (new_row_lem m normal) e';
          grows = none_made_lem r.counts (begun r 1 unit top bottom).counts (omega (arith, z)) refl refl refl;
          holds =
              λ l b h. begins_represented 1 unit top bottom l (l.heads ++ (new_head m normal ∷ [])) (opened_none m l.heads (sym h.stored.heads_are ∙ z)) h
              (stored_as (head_pushed h.stored s' room (new_head m normal) (new_row 0 top bottom) (new_row_lem m normal) e') (omega (arith, z)) refl refl)
              (scoped_behind h.scoped s' _ (new_row 0 top bottom) e (omega (arith, length_new 0 top bottom, room.for_heads, room.for_notes, room.for_pitches, z)));
        },
        omega arith,
      )

  -- where a measure is open
  pub goes_on_lem : (r.counts.heads ≡ 0 → ⊥) → (x : Registers) → x ≡ begun r r.counts.heads unit top bottom → SimulatesItem t s r s x [] (line_begins unit (top, bottom)) × (1 ≤ x.counts.heads)
  goes_on_lem n x d =
      let some : 1 ≤ r.counts.heads = omega (arith, n) in
      subst (λ (y : Registers). SimulatesItem t s r s y [] (line_begins unit (top, bottom)) × (1 ≤ y.counts.heads)) (sym d) (
        record {
          only = only_none t.heads t.end s;
          grows = none_made_lem r.counts r.counts (omega arith) refl refl refl;
          holds =
              λ l b h. begins_represented r.counts.heads unit top bottom l l.heads (opened_some (top, bottom) l.heads (omega (arith, h.stored.heads_are, some))) h (stored_as h.stored refl refl refl) h.scoped;
        },
        some,
      )
