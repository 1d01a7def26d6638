-- WHAT HOLDS OF A PART as the code keeps it: the counts of its heads, its state while a line is read and between lines.
use Rattle.std.specs.Prelude.{ℕ, ◌-◌, ◌≤◌, ◌<◌, ◌≡◌, List, [], ◌∷◌, ◌++◌, length, get_or, take, drop}
use Rattle.laws.specs.Lists.{foldl, All, sum}
use Rattle.standard.specs.Keys.{Key}
use Rattle.editions.specs.declared.Edition.{Edition}
use Rattle.reader.specs.Scan.{Item}
use Rattle.reader.specs.State.{Note}
use Rattle.part_layout.specs.Log.{Head, LogState, new_log, last_place, notes_in}
use Rattle.part_layout.specs.Ends.{on_item}
use Rattle.part_layout.specs.Sections.{of_voice}

-- one for each overlay voice
abbrev pub four {ℓ} : {A : Type ℓ} → (ℕ → A) → List A
four f = f 0 ∷ f 1 ∷ f 2 ∷ f 3 ∷ []

-- each head's counts are those of the notes that stand for it, and there is no other note
abbrev pub Counted : List Head → List (ℕ × Note) → Type 0
Counted [] log = log ≡ []
Counted (m ∷ ms) log = (m.counts ≡ four (λ v. length (of_voice v (take (notes_in m) log)))) × Counted ms (drop (notes_in m) log)

-- a log and its heads, as the code and the section writers need them
pub record Fits (heads : List Head) (log : List (ℕ × Note)) : Type 0 where
  pub four_counts : All (λ (m : Head). length m.counts ≡ 4) heads
  pub counted : Counted heads log
  pub all_notes_lem : sum notes_in heads ≡ length log
  pub voices_below : All (λ (x : ℕ × Note). x.0 < 4) log

-- place p of voice v, which has `count` notes in the open measure, where `before` notes stand before that
pub record Place (log : List (ℕ × Note)) (before count v p : ℕ) : Type 0 where
  pub inside : p ≤ length log
  pub behind : 0 < p → before < p
  pub of_voice_lem : (d : ℕ × Note) → 0 < p → (get_or log (p - 1) d).0 ≡ v
  pub none : p ≡ 0 → count ≡ 0
  pub only_none : count ≡ 0 → p ≡ 0

-- WHILE A LINE IS READ: a measure is open, the overlay is one of four voices, each last place is 0 or holds a note of its voice in the open measure, and where a
-- beam runs there is one
pub record Standing (l : LogState) : Type 0 where
  pub older : List Head
  pub open_head : Head
  pub heads_are : l.heads ≡ older ++ (open_head ∷ [])
  pub overlay_4 : l.line.overlay < 4
  pub scopes_4 : length l.scopes ≡ 4
  pub last_4 : length l.last ≡ 4
  pub fits : Fits l.heads l.log
  pub places : (v : ℕ) → v < 4 → Place l.log (sum notes_in older) (get_or open_head.counts v 0) v (get_or l.last v 0)
  pub run_has_note : 0 < l.line.run → 0 < last_place l

-- BETWEEN LINES: the part is one that items make
pub record Between (l : LogState) : Type 0 where
  pub edition : Edition
  pub header : Key
  pub items : List Item
  pub made : foldl (on_item edition header) new_log items ≡ l
