-- The line after 100,000 notes: refusal 11, and which refusal is met first there (the Rust's answers), in the second edition 22 too. The state before it stands for the text
-- "K:C" and a line of 100,000 notes; to read that text itself by computation would take too long.
use Prim.Native.Nat.{ℕ}
use Prim.Native.String.{String}
use mathlib.Core.Path.{◌≡◌, refl}
use mathlib.Core.Bool.{Bool, true, false}
use mathlib.Core.List.{List, [], ◌∷◌, ◌++◌, map}
use lib.ListN.{replicate}
use Rattle.standard.specs.Bytes.{ascii}
use Rattle.standard.specs.Keys.{plain_key}
use Rattle.editions.specs.declared.Edition.TheVariants.{First, Second}
use Rattle.reader.specs.Steps.{refuse, on}
use Rattle.reader.specs.Scan.{Env, ScanState, Out, step}
use Rattle.reader.specs.All.{all}

abbrev full : ScanState
full =
    record {
      env = record { in_header = false; voices = []; header_key = plain_key };
      unit = 8;
      meter = (4, 4);
      part = 0;
      notes = 100000;
      lines = 2;
      places = 1;
      opened = true;
    }

-- a refusal's number and line; nothing if the line is accepted
abbrev met : Out → List ℕ
met (refuse n l) = n ∷ l ∷ []
met (on s a) = []

pub record Row : Type 0 where
  pub line : List ℕ
  pub answer : List ℕ

abbrev row : List ℕ → List ℕ → Row
row l a = record { line = l; answer = a }

abbrev rows : List Row
rows =
    row (ascii "A") (11 ∷ 3 ∷ [])
    ∷ row (ascii "z") (11 ∷ 3 ∷ [])
    ∷ row (ascii "[A]") (11 ∷ 3 ∷ [])
    ∷ row (ascii "[]") []
    ∷ row (ascii "[") []
    ∷ row (ascii "\"A\"") []
    ∷ row (ascii "^") []
    ∷ row (ascii "A" ++ replicate 133 44) (12 ∷ 3 ∷ [])
    ∷ row (ascii "[A" ++ replicate 133 44) (12 ∷ 3 ∷ [])
    ∷ row (ascii "A2[0") (11 ∷ 3 ∷ [])
    ∷ row (ascii "A" ++ replicate 256 62) (11 ∷ 3 ∷ [])
    ∷ row (ascii "[01A") (14 ∷ 3 ∷ [])
    ∷ row (ascii "[0A") (17 ∷ 3 ∷ [])
    ∷ row (ascii "[3-1A") (18 ∷ 3 ∷ [])
    ∷ row (ascii "A[K:middle=C]") (11 ∷ 3 ∷ [])
    ∷ row (ascii "[K:middle=C]A") (10 ∷ 3 ∷ [])
    ∷ row (65 ∷ 195 ∷ 169 ∷ []) (6 ∷ 3 ∷ [])
    ∷ row (ascii "[C,][0") (11 ∷ 3 ∷ [])
    ∷ []

pub after_the_last_note : map (λ (r : Row). met (step First full r.line)) rows ≡ map (λ (r : Row). r.answer) rows
unfolding all
after_the_last_note = refl

-- in the second edition a 32nd slash is met before the note counts, and its octave marks before the slashes
abbrev slashed : List Row
slashed =
    row (ascii "A" ++ replicate 31 47) (11 ∷ 3 ∷ [])
    ∷ row (ascii "A" ++ replicate 32 47) (22 ∷ 3 ∷ [])
    ∷ row (ascii "[A]" ++ replicate 32 47) (22 ∷ 3 ∷ [])
    ∷ row (ascii "z" ++ replicate 32 47) (22 ∷ 3 ∷ [])
    ∷ row (ascii "AB" ++ replicate 32 47) (11 ∷ 3 ∷ [])
    ∷ row (ascii "A" ++ replicate 133 44 ++ replicate 32 47) (12 ∷ 3 ∷ [])
    ∷ []

pub slashes_after_the_last_note : map (λ (r : Row). met (step Second full r.line)) slashed ≡ map (λ (r : Row). r.answer) slashed
unfolding all
slashes_after_the_last_note = refl
