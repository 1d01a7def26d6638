-- STEPS ON REGISTERS ALONE: another line, or something else pending.
use Rattle.std.specs.Prelude.{Option, Some}
use Prim.Native.Nat.{ℕ}
use mathlib.Core.Path.{◌≡◌, refl, ap, ◌∙◌}
use mathlib.Core.Bool.{true, false}
use mathlib.Core.Option.{some}
use mathlib.Core.List.{List}
use Rattle.standard.specs.Tuplets.{normal_in}
use Rattle.standard.specs.Notes as Notes
use Rattle.standard.specs.Notes.{next_voice, slur_opens, grace_opens, grace_closes}
use Rattle.reader.specs.Token as token
use Rattle.reader.specs.State as State
use Rattle.reader.specs.State.{with_run, with_overlay, with_tuplet, with_unit}
use Rattle.part_layout.specs.Log.{on_token, set_line, set_pending}
use Rattle.part_rows.proofs.Tables.{only_none}
use Rattle.part_registers.specs.declared.Line.{Line}
use Rattle.part_registers.specs.declared.Pending.{Pending}
use Rattle.part_registers.specs.declared.Running.{Running}
use Rattle.part_registers.specs.declared.Running.TheVariants.{Tuplet}
use Rattle.part_registers.specs.declared.Tables.{Tables}
use Rattle.part_registers.specs.declared.Registers.{Registers}
use Rattle.part_registers.specs.States.{pending_for, running_for, line_for}
use Rattle.part_invariant.specs.Invariant.{Simulates}
use Rattle.part_bars.proofs.Heads.{grows_none}
use Rattle.reader.specs.Part.{in_meter}

abbrev lined : Registers → Line → Running → Registers
lined r line group =
    record { counts = r.counts; key = r.key; last = r.last; pending = r.pending; line = line; half = r.half; tuplet = group; verses = r.verses }

abbrev pended : Registers → Pending → Registers
pended r p =
    record { counts = r.counts; key = r.key; last = r.last; pending = p; line = r.line; half = r.half; tuplet = r.tuplet; verses = r.verses }

module _ (r : Registers) (t : Tables) (s : List ℕ) where
  -- another line: f leaves its half
  lined_simulates : (line : Line) (group : Running) (f : State.Line → State.Line) → ((n : State.Line) → r.line ≡ line_for n → line ≡ line_for (f n)) → ((n : State.Line) → (f n).half ≡ n.half)
      → ((n : State.Line) → r.line ≡ line_for n → r.tuplet ≡ running_for n.tuplet → group ≡ running_for (f n).tuplet) → Simulates t s r s (lined r line group) 0 0 0 0 (λ l. set_line (f l.line) l)
  lined_simulates line group f a b c =
      record {
        only = only_none t.heads t.end s;
        grows = grows_none r.counts 0 0 0 0;
        holds =
            λ l st h.
            record {
              stored = h.stored;
              scoped = h.scoped;
              key_is = h.key_is;
              last_is = h.last_is;
              pending_is = h.pending_is;
              line_is = a l.line h.line_is;
              half_is = rw (b l.line) h.half_is;
              running_is = c l.line h.line_is h.running_is;
              sounded_is = h.sounded_is;
              sounded_most = h.sounded_most;
              start_is = h.start_is;
              verse_is = h.verse_is;
            };
      }

  -- something else pending
  pended_simulates : (p : Pending) (f : Notes.Pending → Notes.Pending) → ((n : Notes.Pending) → r.pending ≡ pending_for n → p ≡ pending_for (f n)) → Simulates t s r s (pended r p) 0 0 0 0 (λ l. set_pending (f l.pending) l)
  pended_simulates p f a =
      record {
        only = only_none t.heads t.end s;
        grows = grows_none r.counts 0 0 0 0;
        holds =
            λ l st h.
            record {
              stored = h.stored;
              scoped = h.scoped;
              key_is = h.key_is;
              last_is = h.last_is;
              pending_is = a l.pending h.pending_is;
              line_is = h.line_is;
              half_is = h.half_is;
              running_is = h.running_is;
              sounded_is = h.sounded_is;
              sounded_most = h.sounded_most;
              start_is = h.start_is;
              verse_is = h.verse_is;
            };
      }

  pub space_simulates : Simulates t s r s (lined r (record { unit = r.line.unit; top = r.line.top; bottom = r.line.bottom; overlay = r.line.overlay; run = 0 }) r.tuplet) 0 0 0 0 (λ l. on_token l token.space)
  unfolding on_token
  space_simulates =
      lined_simulates _ _ (with_run 0) (λ n e i. record { unit = (e i).unit; top = (e i).top; bottom = (e i).bottom; overlay = (e i).overlay; run = 0 }) (λ n. refl) (λ n e d. d)

  pub overlay_simulates : (voice : ℕ) → voice ≡ next_voice r.line.overlay
      → Simulates t s r s (lined r (record { unit = r.line.unit; top = r.line.top; bottom = r.line.bottom; overlay = voice; run = 0 }) r.tuplet) 0 0 0 0 (λ l. on_token l token.overlay)
  unfolding on_token
  overlay_simulates voice d =
      lined_simulates _ _ (λ n. with_overlay (next_voice n.overlay) n)
      (λ n e. let v : voice ≡ next_voice n.overlay = d ∙ ap (λ (x : Line). next_voice x.overlay) e in λ i. record { unit = (e i).unit; top = (e i).top; bottom = (e i).bottom; overlay = v i; run = 0 })
      (λ n. refl) (λ n e d. d)

  -- the meter of the line decides a default that waits for it
  pub tuplet_simulates : (actual normal count there : ℕ) → there ≡ normal_in (r.line.top, r.line.bottom) normal
      → Simulates t s r s (lined r r.line (Tuplet actual there count count)) 0 0 0 0 (λ l. on_token l (token.tuplet (record { actual = actual; normal = normal; count = count })))
  unfolding on_token in_meter
  tuplet_simulates actual normal count there k =
      lined_simulates _ _ (λ n. with_tuplet (some (record { tuplet = in_meter n.meter (record { actual = actual; normal = normal; count = count }); remaining = count })) n) (λ n e. e) (λ n. refl)
      (λ n e d. ap (λ (q : ℕ). Tuplet actual q count count) (k ∙ ap (λ (x : Line). normal_in (x.top, x.bottom) normal) e))

  pub unit_simulates : (unit : ℕ) → Simulates t s r s (lined r (record { unit = unit; top = r.line.top; bottom = r.line.bottom; overlay = r.line.overlay; run = r.line.run }) r.tuplet) 0 0 0 0 (λ l. on_token l (token.unit unit))
  unfolding on_token
  unit_simulates unit =
      lined_simulates _ _ (with_unit unit) (λ n e i. record { unit = unit; top = (e i).top; bottom = (e i).bottom; overlay = (e i).overlay; run = (e i).run }) (λ n. refl) (λ n e d. d)

  pub slur_simulates : Simulates t s r s (pended r (record { tie = r.pending.tie; slur = true; grace = r.pending.grace })) 0 0 0 0 (λ l. on_token l token.slur)
  unfolding on_token slur_opens
  slur_simulates = pended_simulates _ slur_opens (λ n e i. record { tie = (e i).tie; slur = true; grace = (e i).grace })

  pub grace_open_simulates : Simulates t s r s (pended r (record { tie = r.pending.tie; slur = r.pending.slur; grace = true })) 0 0 0 0 (λ l. on_token l token.grace_open)
  unfolding on_token grace_opens
  grace_open_simulates = pended_simulates _ grace_opens (λ n e i. record { tie = (e i).tie; slur = (e i).slur; grace = true })

  pub grace_close_simulates : Simulates t s r s (pended r (record { tie = r.pending.tie; slur = r.pending.slur; grace = false })) 0 0 0 0 (λ l. on_token l token.grace_close)
  unfolding on_token grace_closes
  grace_close_simulates = pended_simulates _ grace_closes (λ n e i. record { tie = (e i).tie; slur = (e i).slur; grace = false })
