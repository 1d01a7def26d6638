-- Laws of what is read off the bytes.
use Prim.Native.Nat.{ℕ, ◌+◌, ◌-◌, ◌*◌, ◌≤◌}
use mathlib.Core.Path.{◌≡◌, refl, ap, ◌∙◌}
use mathlib.Core.Bool.{Bool, true, false, cond}
use mathlib.Core.List.{List}
use native.Mathlib.Numerals.{add-one}
use mir.Val.{bool_byte}
use lib.Dec.{eqb}
use lib.ListN.{length, get_or}
use Rattle.laws.specs.Bytes.{u32_at}
use Rattle.reader.specs.Records.{note_width}
use Rattle.reading_sections.specs.Sections.{behind, part_end, notes_at, pitches_at, lyrics_at, text_at}
use Rattle.tally_counts.specs.Counted.{sounded_in, counts_in}

-- a test as a number
pub byte_is : (b : Bool) → bool_byte b ≡ cond {A = ℕ} b 1 0
byte_is true = refl
byte_is false = refl

-- the notes' records within their section
pub notes_room : (s : List ℕ) (at : ℕ) → pitches_at s at ≤ length s → notes_at s at + 4 + note_width * u32_at s (notes_at s at) ≤ length s
unfolding behind
notes_room s at h = h

-- a note more
pub sounded_none : (s : List ℕ) (at : ℕ) → sounded_in s at 0 ≡ 0
unfolding sounded_in
sounded_none s at = refl

pub sounded_more : (s : List ℕ) (at n : ℕ) → sounded_in s at (n + 1) ≡ sounded_in s at n + cond (eqb (get_or s (at + note_width * n) 0) 0) 1 0
unfolding sounded_in
sounded_more s at n = rw (add-one n)

-- a part from its five sections, each where the last ended
pub part_counted : (s : List ℕ) (at m a n b c l d e k : ℕ) → m ≡ u32_at s at → a ≡ behind s 28 at → n ≡ u32_at s a → b ≡ behind s 12 a → c ≡ behind s 5 b → l ≡ u32_at s c → d ≡ behind s 11 c
    → e ≡ behind s 1 d → k ≡ sounded_in s (a + 4) n → (record { measures = m; sounded = k; rests = n - k; syllables = l } ≡ counts_in s at) × (e ≡ part_end s at)
unfolding counts_in part_end
part_counted s at m a n b c l d e k em ea en eb ec el ed ee ek =
    let a₁ : a ≡ notes_at s at = ea in
    let b₁ : b ≡ pitches_at s at = eb ∙ ap (behind s 12) a₁ in
    let c₁ : c ≡ lyrics_at s at = ec ∙ ap (behind s 5) b₁ in
    let d₁ : d ≡ text_at s at = ed ∙ ap (behind s 11) c₁ in
    let n₁ : n ≡ u32_at s (notes_at s at) = en ∙ ap (u32_at s) a₁ in
    let k₁ : k ≡ sounded_in s (notes_at s at + 4) (u32_at s (notes_at s at)) = ek ∙ (λ i. sounded_in s (a₁ i + 4) (n₁ i)) in
    let l₁ : l ≡ u32_at s (lyrics_at s at) = el ∙ ap (u32_at s) c₁ in
    ((λ i. record { measures = em i; sounded = k₁ i; rests = n₁ i - k₁ i; syllables = l₁ i }), ee ∙ ap (behind s 1) d₁)
