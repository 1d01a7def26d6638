-- One line more, with or without an item, and how far the scan has then come.
use Prim.Native.Nat.{ℕ, ◌+◌, ◌^◌, ◌≤◌, ◌<◌}
use mathlib.Core.Path.{◌≡◌, refl, sym, ap, subst, ◌∙◌}
use mathlib.Core.Bool.{Bool, true, false}
use lib.Dec.{eqb}
use Rattle.std.specs.Int.{from_bool}
use mathlib.Core.List.{List, [], ◌∷◌, ◌++◌, append-nil}
use native.Mathlib.Omega.{arith}
use lib.ListN.{length, drop}
use Rattle.std.specs.Prelude.{Result, Ok, Err}
use Rattle.laws.specs.Bytes.{between, splice}
use Rattle.laws.proofs.Parts.{drop_between}
use Rattle.reader.specs.Lines.{Kind, refused}
use Rattle.reader.specs.Steps.{on, first}
use Rattle.reader.specs.Scan.{Item, Items, ScanState, Out, act}
use Rattle.refusals.specs.declared.Refusal.{Refusal}
use Rattle.refusals.specs.declared.Refused.{Refused}
use Rattle.refusals.specs.Numbers.{number_of}
use Rattle.scan_table.specs.declared.Row.{Row}
use Rattle.scan_table.specs.Rows.{item_row_width, row_from, voices_in, item_in, items_in, enc_item}
use Rattle.scan_table.proofs.Rows.{voices_below, items_push}
use Rattle.scan_states.specs.declared.State.{State}
use Rattle.scan_states.specs.States.{state_with, state_in, out_in, refused_in, next_state, added_state, Stepped}

-- 1 for yes, 0 for no
pub flag_is : (b : Bool) (n : ℕ) → n ≡ from_bool b → eqb n 1 ≡ b
flag_is true n e = rw e
flag_is false n e = rw e

-- no item: what came before stays
pub stays : (a : Items) (t : ScanState) → on t a ≡ first a (on t [])
stays a t = ap (λ (l : Items). on t l) (sym (append-nil a))

-- one item, written behind the others
pub added : (text s s' : List ℕ) (st : State) (row : Row) → s' ≡ splice s (row_from st.items) (enc_item row) → row.at < 2 ^ 32 → row.end < 2 ^ 32 → row.unit < 2 ^ 32
    → st.voices ≤ 32 → row_from st.items + item_row_width ≤ length s
    → out_in text s' (Ok (added_state st)) ≡ on (state_in text s (next_state st)) (items_in text s st.items ++ (item_in text row ∷ []))
added text s s' st row e a b u v room =
    let n = st.items in
    let bs = enc_item row in
    let vs : voices_in text s' st.voices ≡ voices_in text s st.voices = ap (λ (l : List ℕ). voices_in text l st.voices) e ∙ voices_below text s st.voices (row_from n) bs (omega arith) in
    let is : items_in text s' (n + 1) ≡ items_in text s n ++ (item_in text row ∷ []) = ap (λ (l : List ℕ). items_in text l (n + 1)) e ∙ items_push text s n row a b u room in
    λ i. on (state_with (vs i) (next_state st)) (is i)

-- the words of a lyric line
pub words : (text : List ℕ) (from end : ℕ) → between text (from + 2) end ≡ drop 2 (between text from end)
words text from end = sym (drop_between text from end 2)

-- which item that is
pub one_item : (a : Items) (t : ScanState) (x y : ℕ × Item) → x ≡ y → on t (a ++ (x ∷ [])) ≡ first a (on t (y ∷ []))
one_item a t x y e = ap (λ (z : ℕ × Item). on t (a ++ (z ∷ []))) e

-- by its row
pub item_added : (text : List ℕ) (a : Items) (o : Out) (t : ScanState) (row q : Row) (y : ℕ × Item) → o ≡ on t (a ++ (item_in text row ∷ [])) → row ≡ q → item_in text q ≡ y → o ≡ on t (a ++ (y ∷ []))
item_added text a o t row q y e f g = e ∙ (λ i. on t (a ++ (item_in text (f i) ∷ []))) ∙ (λ i. on t (a ++ (g i ∷ [])))

-- ONE LINE by its kind
pub by_kind : {text s s' : List ℕ} {st : State} {r : Result State Refused} (k k' : Kind) (h : Bool) → k ≡ k' → Stepped text s st (act (state_in text s st) k' h) s' r → Stepped text s st (act (state_in text s st) k h) s' r
by_kind {text} {s} {s'} {st} {r} k k' h e x = subst (λ (j : Kind). Stepped text s st (act (state_in text s st) j h) s' r) (sym e) x

pub refused_kind : {text s s' : List ℕ} {st : State} (k : Kind) (r : Refusal) (h : Bool) → k ≡ refused (number_of r) → Stepped text s st (act (state_in text s st) k h) s' (Err (refused_in st r))
unfolding act
refused_kind k r h e = by_kind k (refused (number_of r)) h e (record { is = refl; follows = tt })
