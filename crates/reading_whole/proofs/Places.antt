-- Laws of where a part's sections stand: each is where the one before it ends, and all lie inside the bytes where the last does.
use Prim.Native.Nat.{ℕ, ◌+◌, ◌*◌, ◌≤◌, ◌<◌}
use mathlib.Core.Path.{◌≡◌, ap, sym, ◌∙◌}
use mathlib.Core.Bool.{Bool, true, false, ◌&&◌}
use mathlib.Core.List.{List}
use lib.Dec.{leb}
use lib.ListN.{length}
use borrow.Author.Tests.{leb-true, le-leb, lt-leb}
use Rattle.std.specs.Prelude.{Option, Some, None}
use Rattle.laws.specs.Bytes.{u32_at}
use Rattle.laws.proofs.Bools.{by_test, never_true}
use Rattle.reader.specs.Records.{measure_width, note_width, pitch_width, lyric_width}
use Rattle.reading_sections.specs.Sections.{behind, pitches_at, lyrics_at, text_at, part_end, record_at}
use Rattle.reading_sections.proofs.Inside.{inside}
use Rattle.reading_whole.specs.Whole.{are_measures, are_notes, are_pitches, are_lyrics, is_part}
use Rattle.reading_whole.specs.Given.{measures_fine, notes_fine, pitches_fine, lyrics_fine, section_for, layout_at, layout_for, part_for}
use Rattle.reading_sections.specs.declared.Section.{Section}
use Rattle.reading_whole.specs.declared.Layout.{Layout}

-- A SECTION
pub section_inside : (s : List ℕ) (w at n : ℕ) → n ≡ u32_at s at → at + 4 + w * n ≤ length s → ◌≡◌ {A = Option Section} (Some (record { count = n; end = at + 4 + w * n })) (section_for s w at)
unfolding section_for behind
section_inside s w at n e h = rw (← e, le-leb _ _ h)

pub section_beyond : (s : List ℕ) (w at n : ℕ) → n ≡ u32_at s at → length s < at + 4 + w * n → None ≡ section_for s w at
unfolding section_for behind
section_beyond s w at n e h = rw (← e, lt-leb _ _ h)

-- and back
pub record SectionIs (s : List ℕ) (w at : ℕ) (x : Section) : Type 0 where
  pub count : x.count ≡ u32_at s at
  pub end : x.end ≡ behind s w at
  pub fits : x.end ≤ length s

pub section_is : (s : List ℕ) (w at : ℕ) (x : Section) → section_for s w at ≡ Some x → SectionIs s w at x
unfolding section_for
section_is s w at x h =
    by_test (leb (behind s w at) (length s))
    (λ t.
    let k : ◌≡◌ {A = Option Section} (Some (record { count = u32_at s at; end = behind s w at })) (Some x) = rw t at h in
    let e : ◌≡◌ {A = Section} (record { count = u32_at s at; end = behind s w at }) x = cc in
    let q : x.end ≡ behind s w at = ap (λ (y : Section). y.end) (sym e) in
    record { count = ap (λ (y : Section). y.count) (sym e); end = q; fits = rw q (leb-true (behind s w at) (length s) t) })
    (λ t. let k : ◌≡◌ {A = Option Section} None (Some x) = rw t at h in cc)

pub section_is_not : (s : List ℕ) (w at : ℕ) → section_for s w at ≡ None → behind s w at ≤ length s → ⊥
unfolding section_for
section_is_not s w at h l =
    let k : ◌≡◌ {A = Option Section} (Some (record { count = u32_at s at; end = behind s w at })) None = rw (le-leb (behind s w at) (length s) l) at h in
    cc

-- THE SECTIONS OF A PART, each where the one before it ends
module _ {s : List ℕ} {at : ℕ} {m n : Section} (x₁ : SectionIs s measure_width at m) (x₂ : SectionIs s note_width m.end n) where
  pub pitches_at_lem : n.end ≡ pitches_at s at
  pitches_at_lem = x₂.end ∙ ap (behind s note_width) x₁.end

  module _ {p : Section} (x₃ : SectionIs s pitch_width n.end p) where
    pub lyrics_at_lem : p.end ≡ lyrics_at s at
    lyrics_at_lem = x₃.end ∙ ap (behind s pitch_width) pitches_at_lem

    module _ {l : Section} (x₄ : SectionIs s lyric_width p.end l) where
      pub text_at_lem : l.end ≡ text_at s at
      text_at_lem = x₄.end ∙ ap (behind s lyric_width) lyrics_at_lem

      pub layout_inside : {t : Section} → SectionIs s 1 l.end t → ◌≡◌ {A = Option Layout} (Some (record { measures = m; notes = n; pitches = p; lyrics = l; text = t })) (layout_for s at)
      unfolding layout_for layout_at part_end
      layout_inside {t} x₅ =
          let q : t.end ≡ part_end s at = x₅.end ∙ ap (behind s 1) text_at_lem in
          let f : part_end s at ≤ length s = rw q at x₅.fits in
          rw (le-leb _ _ f)
          (λ i.
          Some (record {
            measures = record { count = x₁.count i; end = x₁.end i };
            notes = record { count = (x₂.count ∙ ap (u32_at s) x₁.end) i; end = pitches_at_lem i };
            pitches = record { count = (x₃.count ∙ ap (u32_at s) pitches_at_lem) i; end = lyrics_at_lem i };
            lyrics = record { count = (x₄.count ∙ ap (u32_at s) lyrics_at_lem) i; end = text_at_lem i };
            text = record { count = (x₅.count ∙ ap (u32_at s) text_at_lem) i; end = q i };
          }))

pub layout_beyond : (s : List ℕ) (at : ℕ) → (part_end s at ≤ length s → ⊥) → None ≡ layout_for s at
unfolding layout_for
layout_beyond s at f = by_test (leb (part_end s at) (length s)) (λ t. absurd (f (leb-true _ _ t))) (λ t. rw t)

-- and back
pub record LayoutIs (s : List ℕ) (at : ℕ) (x : Layout) : Type 0 where
  pub is : x ≡ layout_at s at
  pub fits : part_end s at ≤ length s

pub layout_is : (s : List ℕ) (at : ℕ) (x : Layout) → layout_for s at ≡ Some x → LayoutIs s at x
unfolding layout_for
layout_is s at x h =
    by_test (leb (part_end s at) (length s))
    (λ y. let k : ◌≡◌ {A = Option Layout} (Some (layout_at s at)) (Some x) = rw y at h in record { is = cc; fits = leb-true (part_end s at) (length s) y })
    (λ y. let k : ◌≡◌ {A = Option Layout} None (Some x) = rw y at h in cc)

pub layout_is_not : (s : List ℕ) (at : ℕ) → layout_for s at ≡ None → leb (part_end s at) (length s) ≡ false
unfolding layout_for
layout_is_not s at h =
    never_true (leb (part_end s at) (length s)) (λ y. let k : ◌≡◌ {A = Option Layout} (Some (layout_at s at)) None = rw y at h in cc)

-- THE PART
pub part_whole : (s : List ℕ) (at e : ℕ) → e ≡ part_end s at → is_part s at ≡ true → ◌≡◌ {A = Option ℕ} (Some e) (part_for s at)
unfolding part_for
part_whole s at e q h = rw h (ap Some q)

pub part_broken : (s : List ℕ) (at : ℕ) → is_part s at ≡ false → None ≡ part_for s at
unfolding part_for
part_broken s at h = rw h

-- and back
pub part_ends : (s : List ℕ) (at e : ℕ) → part_for s at ≡ Some e → (is_part s at ≡ true) × (e ≡ part_end s at)
unfolding part_for
part_ends s at e h =
    by_test (is_part s at) (λ y. let k : ◌≡◌ {A = Option ℕ} (Some (part_end s at)) (Some e) = rw y at h in (y, cc)) (λ y. let k : ◌≡◌ {A = Option ℕ} None (Some e) = rw y at h in cc)

pub part_none : (s : List ℕ) (at : ℕ) → part_for s at ≡ None → is_part s at ≡ false
unfolding part_for
part_none s at h = never_true (is_part s at) (λ y. let k : ◌≡◌ {A = Option ℕ} (Some (part_end s at)) None = rw y at h in cc)

-- beyond the bytes it is none
pub part_beyond : (s : List ℕ) (at : ℕ) → layout_for s at ≡ None → None ≡ part_for s at
unfolding is_part
part_beyond s at h = part_broken s at (rw (layout_is_not s at h))

module _ {s : List ℕ} {at : ℕ} {x : Layout} (y : LayoutIs s at x) where
  -- its records lie inside the bytes
  pub measures_room : record_at measure_width at x.measures.count ≤ length s
  unfolding behind layout_at
  measures_room = rw y.is (inside s at y.fits).notes

  pub notes_room : record_at note_width x.measures.end x.notes.count ≤ length s
  unfolding behind layout_at
  notes_room = rw y.is (inside s at y.fits).pitches

  pub pitches_room : record_at pitch_width x.notes.end x.pitches.count ≤ length s
  unfolding behind layout_at
  pitches_room = rw y.is (inside s at y.fits).lyrics

  pub lyrics_room : record_at lyric_width x.pitches.end x.lyrics.count ≤ length s
  unfolding behind layout_at
  lyrics_room = rw y.is (inside s at y.fits).text

  pub end_is : x.text.end ≡ part_end s at
  unfolding layout_at
  end_is = ap (λ (z : Layout). z.text.end) y.is

  -- it is whole where its sections are fine
  pub part_is : {b₁ b₂ b₃ b₄ : Bool} → b₁ ≡ measures_fine s at x.measures.count x.notes.count
      → b₂ ≡ notes_fine s x.measures.end x.notes.count x.pitches.count
      → b₃ ≡ pitches_fine s x.notes.end x.pitches.count
      → b₄ ≡ lyrics_fine s x.pitches.end x.lyrics.count x.notes.count x.text.count
      → (b₁ && b₂ && b₃ && b₄) ≡ is_part s at
  unfolding is_part are_measures are_notes are_pitches are_lyrics measures_fine notes_fine pitches_fine lyrics_fine layout_at
  part_is e₁ e₂ e₃ e₄ =
      rw (le-leb _ _ y.fits)
      (λ i.
      (e₁ ∙ (λ j. measures_fine s at (y.is j).measures.count (y.is j).notes.count)) i
      && (e₂ ∙ (λ j. notes_fine s (y.is j).measures.end (y.is j).notes.count (y.is j).pitches.count)) i
      && (e₃ ∙ (λ j. pitches_fine s (y.is j).notes.end (y.is j).pitches.count)) i
      && (e₄ ∙ (λ j. lyrics_fine s (y.is j).pitches.end (y.is j).lyrics.count (y.is j).notes.count (y.is j).text.count)) i)
