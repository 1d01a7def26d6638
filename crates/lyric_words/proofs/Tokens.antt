-- What the code reads is what the definitions say.
use Prim.Native.Nat.{ℕ, ◌+◌, ◌-◌, ◌≤◌, ◌<◌, min}
use mathlib.Core.Path.{◌≡◌, refl, sym, ap, ◌∙◌}
use mathlib.Core.Bool.{Bool, true, false, not}
use mathlib.Core.List.{List, [], ◌∷◌, ◌++◌, append_assoc}
use native.Mathlib.Decide.{dec_lt}
use native.Mathlib.Omega.{arith}
use lib.ListN.{length, get_or}
use borrow.Author.Tests.{ne_eqb}
use Rattle.laws.specs.Lists.{eq_text}
use Rattle.laws.specs.Spans.{end_in}
use Rattle.laws.specs.Bytes.{between}
use Rattle.laws.proofs.Bools.{not_false}
use Rattle.laws.proofs.Lists.{eq_text_length}
use Rattle.laws.proofs.Parts.{length_between, get_d_between, between_none, between_first, end_in_ge, end_in_le, end_in_more, end_in_stops}
use Rattle.standard.specs.Bytes.{ascii, first, last}
use Rattle.standard.specs.Lyrics.{syllabic_of, Word, skip, hold, bar, syllable, syllables, syllable_text}
use Rattle.reader.specs.Pieces.{words, separator, white_at}
use Rattle.reader.specs.Lyrics.{or_skip, word_of, words_of, lyric_words}
use Rattle.lyric_spans.specs.Spans.{is_hyphen, no_hyphen, WordStart, Closed, WordEnd}
use Rattle.lyric_words.specs.declared.Syllabic as code
use Rattle.lyric_words.specs.declared.Token.{Token}
use Rattle.lyric_words.specs.declared.Token.TheVariants as T
use Rattle.lyric_words.specs.declared.Cursor.{Cursor}
use Rattle.lyric_words.specs.declared.Read.{Read}
use Rattle.lyric_words.specs.Words.{as_syllabic, Small, said, in_word, plain_of, ahead, InWord, GoneOn, SyllableRead, PlainRead, WordRead, Ready, Settled, TokenRead, First}
use Rattle.lyric_words.proofs.Hyphens.{words_none, hyphens_past, piece_first, last_syllable, next_syllable, or_skip_some}

abbrev pub cursor : ℕ → ℕ → Bool → Bool → Cursor
cursor at word led trailed = record { at = at; word = word; led = led; trailed = trailed }

abbrev pub read : Token → Cursor → Read
read t c = record { token = t; cursor = c }

abbrev pub syllable_at : ℕ → ℕ → code.Syllabic → Token
syllable_at at end syllabic = T.Syllable (record { at = at; end = end; syllabic = syllabic })

-- a bound that is higher
pub small_more : (a b : ℕ) (t : Token) → a ≤ b → Small a t → Small b t
small_more a b T.Bar h s = tt
small_more a b T.Skip h s = tt
small_more a b T.Hold h s = tt
small_more a b (T.Syllable y) h s = (omega (arith, s.0), omega (arith, s.1))

-- behind the word no syllable is left
pub word_done : (text : List ℕ) (c : Cursor) → c.word ≤ c.at → in_word text c ≡ []
unfolding in_word syllables
word_done text c h = ap (λ (l : List ℕ). syllables c.led c.trailed (words (separator is_hyphen) l)) (between_none text c.at c.word h) ∙ ap (syllables c.led c.trailed) (words_none (separator is_hyphen))

-- A SYLLABLE
module _ (text : List ℕ) (at word : ℕ) (led trailed : Bool) (e q : ℕ) (x : code.Syllabic) (h : at < word) (l : word ≤ length text) (n : is_hyphen (get_or text at 0) ≡ false)
    (ee : e ≡ end_in no_hyphen text at word) (qe : q ≡ end_in is_hyphen text e word) where
  -- the piece, and those behind it
  pieces_at : words (separator is_hyphen) (between text at word) ≡ between text at e ∷ words (separator is_hyphen) (between text q word)
  pieces_at =
      piece_first text at word h l n
      ∙ ap (λ (k : ℕ). between text at k ∷ words (separator is_hyphen) (between text k word)) (sym ee)
      ∙ ap (λ (r : List (List ℕ)). between text at e ∷ r) (hyphens_past text e word ∙ ap (λ (k : ℕ). words (separator is_hyphen) (between text k word)) (sym qe))

  past : at < e
  past = omega (arith, ee, end_in_more no_hyphen text at word h l (ap not n), end_in_ge no_hyphen text (at + 1) word)

  e_in : e ≤ word
  e_in = omega (arith, ee, end_in_le no_hyphen text at word (omega arith))

  q_in : q ≤ word
  q_in = omega (arith, qe, end_in_le is_hyphen text e word e_in)

  q_ge : e ≤ q
  q_ge = omega (arith, qe, end_in_ge is_hyphen text e word)

  -- the next piece begins with no hyphen
  at_piece : q < word → is_hyphen (get_or text q 0) ≡ false
  at_piece r = ap (λ (k : ℕ). is_hyphen (get_or text k 0)) qe ∙ end_in_stops is_hyphen text e word l (omega (arith, qe))

  -- a hyphen stands before it
  far_on : q < word → at + 2 ≤ q
  far_on r =
      let stop : no_hyphen (get_or text e 0) ≡ false = ap (λ (k : ℕ). no_hyphen (get_or text k 0)) ee ∙ end_in_stops no_hyphen text at word l (omega (arith, ee, q_ge)) in
      omega (arith, qe, past, end_in_more is_hyphen text e word (omega (arith, q_ge)) l (not_false _ stop), end_in_ge is_hyphen text (e + 1) word)

  gone : GoneOn text at word (cursor q word true trailed)
  gone = record { stands = record { low = q_in; piece = at_piece }; same = refl; on = omega (arith, past, q_ge); far = far_on }

  -- another follows
  pub syllable_next : q < word → as_syllabic x ≡ syllabic_of led true → SyllableRead text (cursor at word led trailed) (read (syllable_at at e x) (cursor q word true trailed))
  unfolding in_word said
  syllable_next r s =
      let p = between text at e in
      let y = between text q (end_in no_hyphen text q word) in
      let ps = words (separator is_hyphen) (between text (end_in no_hyphen text q word) word) in
      let more : words (separator is_hyphen) (between text q word) ≡ y ∷ ps = piece_first text q word r l (at_piece r) in
      record {
        says =
            ap (syllables led trailed) (pieces_at ∙ ap (λ (ys : List (List ℕ)). p ∷ ys) more)
            ∙ next_syllable led trailed p y ps
            ∙ (λ i. syllable (sym s i) (syllable_text p) ∷ syllables true trailed (sym more i));
        small = (omega arith, omega (arith, e_in));
        gone = gone;
      }

  -- it is the last
  pub syllable_last : (q < word → ⊥) → as_syllabic x ≡ syllabic_of led trailed → SyllableRead text (cursor at word led trailed) (read (syllable_at at e x) (cursor q word true trailed))
  unfolding said in_word
  syllable_last r s =
      let p = between text at e in
      let none : words (separator is_hyphen) (between text q word) ≡ [] = ap (words (separator is_hyphen)) (between_none text q word (omega arith)) ∙ words_none (separator is_hyphen) in
      record {
        says =
            ap (syllables led trailed) (pieces_at ∙ ap (λ (ys : List (List ℕ)). p ∷ ys) none)
            ∙ last_syllable led trailed p
            ∙ (λ i. syllable (sym s i) (syllable_text p) ∷ sym (word_done text (cursor q word true trailed) (omega arith)) i);
        small = (omega arith, omega (arith, e_in));
        gone = gone;
      }

-- A WORD
module _ (text : List ℕ) (at word : ℕ) (h : at < word) (l : word ≤ length text) where
  at_end : GoneOn text at word (cursor word word false false)
  at_end = record { stands = record { low = omega arith; piece = λ r. absurd (omega arith) }; same = refl; on = h; far = λ r. absurd (omega arith) }

  -- nothing but hyphens
  pub plain_skip : (next : ℕ) → next ≡ end_in is_hyphen text at word → next ≡ word → PlainRead text at word (read T.Skip (cursor word word false false))
  unfolding plain_of said or_skip syllables
  plain_skip next e z =
      let w = between text at word in
      let none : words (separator is_hyphen) w ≡ [] = hyphens_past text at word ∙ ap (λ (k : ℕ). words (separator is_hyphen) (between text k word)) (sym e ∙ z) ∙ ap (words (separator is_hyphen)) (between_none text word word (omega arith)) ∙ words_none (separator is_hyphen) in
      record {
        says =
            ap (λ (ps : List (List ℕ)). or_skip (syllables (is_hyphen (first w)) (is_hyphen (last w)) ps)) none
            ∙ ap (λ (ws : List Word). skip ∷ ws) (sym (word_done text (cursor word word false false) (omega arith)));
        small = tt;
        gone = at_end;
      }

  -- a syllable first
  pub plain_first : (next : ℕ) → next ≡ end_in is_hyphen text at word → next < word → (r : Read)
      → SyllableRead text (cursor next word (is_hyphen (get_or text at 0)) (is_hyphen (get_or text (word - 1) 0))) r → PlainRead text at word r
  unfolding plain_of in_word
  plain_first next e z r s =
      let w = between text at word in
      let c = cursor next word (is_hyphen (get_or text at 0)) (is_hyphen (get_or text (word - 1) 0)) in
      let n : length w ≡ word - at = length_between text at word l in
      let nh : is_hyphen (get_or text next 0) ≡ false = ap (λ (k : ℕ). is_hyphen (get_or text k 0)) e ∙ end_in_stops is_hyphen text at word l (omega (arith, e)) in
      let j : at + 0 ≡ at = omega arith in
      let k : at + (word - at - 1) ≡ word - 1 = omega arith in
      let f : first w ≡ get_or text at 0 = get_d_between text at word 0 (omega arith) ∙ ap (λ (x : ℕ). get_or text x 0) j in
      let g : last w ≡ get_or text (word - 1) 0 = ap (λ (x : ℕ). get_or w (x - 1) 0) n ∙ get_d_between text at word (word - at - 1) (omega arith) ∙ ap (λ (x : ℕ). get_or text x 0) k in
      let same : words (separator is_hyphen) w ≡ words (separator is_hyphen) (between text next word) = hyphens_past text at word ∙ ap (λ (x : ℕ). words (separator is_hyphen) (between text x word)) (sym e) in
      let some = piece_first text next word z l nh in
      let b = is_hyphen (get_or text at 0) in
      let a = is_hyphen (get_or text (word - 1) 0) in
      let here : plain_of w ≡ in_word text c =
      (λ i. or_skip (syllables (is_hyphen (f i)) (is_hyphen (g i)) ((same ∙ some) i)))
      ∙ or_skip_some b a (between text next (end_in no_hyphen text next word)) (words (separator is_hyphen) (between text (end_in no_hyphen text next word) word))
      ∙ ap (syllables b a) (sym some) in
      record {
        says = here ∙ s.says;
        small = s.small;
        gone = record {
          stands = s.gone.stands;
          same = s.gone.same;
          on = omega (arith, s.gone.on, e, end_in_ge is_hyphen text at word);
          far = λ x. omega (arith, s.gone.far x, e, end_in_ge is_hyphen text at word);
        };
      }

  -- of one byte
  one : word - at ≡ 1 → between text at word ≡ get_or text at 0 ∷ []
  one e = between_first text at word h l ∙ ap (λ (r : List ℕ). get_or text at 0 ∷ r) (between_none text (at + 1) word (omega arith))

  pub word_bar : word - at ≡ 1 → get_or text at 0 ≡ 124 → WordRead text at word (read T.Bar (cursor word word false false))
  unfolding said word_of
  word_bar e b =
      record { says = ap word_of (one e) ∙ ap (λ (c : ℕ). word_of (c ∷ [])) b ∙ ap (λ (ws : List Word). bar ∷ ws) (sym (word_done text (cursor word word false false) (omega arith))); small = tt; gone = at_end }

  pub word_skip : word - at ≡ 1 → get_or text at 0 ≡ 42 → WordRead text at word (read T.Skip (cursor word word false false))
  unfolding said word_of
  word_skip e b =
      record { says = ap word_of (one e) ∙ ap (λ (c : ℕ). word_of (c ∷ [])) b ∙ ap (λ (ws : List Word). skip ∷ ws) (sym (word_done text (cursor word word false false) (omega arith))); small = tt; gone = at_end }

  pub word_hold : word - at ≡ 1 → get_or text at 0 ≡ 95 → WordRead text at word (read T.Hold (cursor word word false false))
  unfolding said word_of
  word_hold e b =
      record { says = ap word_of (one e) ∙ ap (λ (c : ℕ). word_of (c ∷ [])) b ∙ ap (λ (ws : List Word). hold ∷ ws) (sym (word_done text (cursor word word false false) (omega arith))); small = tt; gone = at_end }

  plain_by : (w : List ℕ) → eq_text w (ascii "|") ≡ false → eq_text w (ascii "*") ≡ false → eq_text w (ascii "_") ≡ false → word_of w ≡ plain_of w
  unfolding word_of plain_of
  plain_by w a b c = rw (a, word_of) (rw (b, word_of) (rw c))

  -- any other
  pub word_plain : (eq_text (between text at word) (ascii "|") ≡ false) → (eq_text (between text at word) (ascii "*") ≡ false) → (eq_text (between text at word) (ascii "_") ≡ false)
      → (r : Read) → PlainRead text at word r → WordRead text at word r
  word_plain a b c r p = record { says = plain_by (between text at word) a b c ∙ p.says; small = p.small; gone = p.gone }

  -- a longer one
  pub word_long : (word - at ≡ 1 → ⊥) → (r : Read) → PlainRead text at word r → WordRead text at word r
  word_long other r p =
      let n : length (between text at word) ≡ word - at = length_between text at word l in
      let d : length (between text at word) ≡ 1 → ⊥ = λ e. other (sym n ∙ e) in
      word_plain (eq_text_length (between text at word) (ascii "|") d) (eq_text_length (between text at word) (ascii "*") d) (eq_text_length (between text at word) (ascii "_") d) r p

  -- of one other byte
  pub word_byte : word - at ≡ 1 → (get_or text at 0 ≡ 124 → ⊥) → (get_or text at 0 ≡ 42 → ⊥) → (get_or text at 0 ≡ 95 → ⊥) → (r : Read) → PlainRead text at word r → WordRead text at word r
  word_byte e a b c r p =
      word_plain (differs 124 a) (differs 42 b) (differs 95 c) r p
    where
      differs : (x : ℕ) → (get_or text at 0 ≡ x → ⊥) → eq_text (between text at word) (x ∷ []) ≡ false
      differs x n = ap (λ (w : List ℕ). eq_text w (x ∷ [])) (one e) ∙ rw (ne_eqb (get_or text at 0) x n)

-- WHITE SPACE BEHIND A WORD
module _ (text : List ℕ) (end : ℕ) where
  -- nothing is left of the word
  pub ahead_done : (c : Cursor) → c.word ≤ c.at → ahead text end c ≡ lyric_words (between text c.word end)
  unfolding ahead
  ahead_done c h = ap (λ (ws : List Word). ws ++ lyric_words (between text c.word end)) (word_done text c h)

  -- nor of the line
  pub ahead_over : (c : Cursor) → Ready text end c → end ≤ c.at → ahead text end c ≡ []
  unfolding lyric_words words_of
  ahead_over c r x =
      ahead_done c (omega (arith, r.within))
      ∙ ap (λ (ws : List ℕ). words_of (words white_at ws)) (between_none text c.word end (omega (arith, r.stands.low)))
      ∙ ap words_of (words_none white_at)

  -- white space says nothing
  same_words : (a b : ℕ) → words white_at (between text a end) ≡ words white_at (between text b end) → lyric_words (between text a end) ≡ lyric_words (between text b end)
  unfolding lyric_words
  same_words a b e = ap words_of e

  -- a word's start
  at_start : (r : ℕ) → r ≤ end → (r < end → white_at (between text r end) ≡ 0) → Ready text end (cursor r r false false)
  at_start r h s =
      record { stands = record { low = omega arith; piece = λ x. absurd (omega arith) }; within = h; starts = λ e x. s x; closes = λ x. absurd (omega arith) }

  pub settle_in : (c : Cursor) → InWord text c → Closed text c.word end → c.at < c.word → Settled text end c c
  settle_in c i k h =
      record {
        ready = record { stands = i; within = k.high; starts = λ e. absurd (omega (arith, e)); closes = λ x. k.ends };
        same = refl;
        low = omega arith;
        past = λ e. absurd (omega (arith, e));
      }

  pub settle_past : (c : Cursor) → InWord text c → Closed text c.word end → (c.at < c.word → ⊥) → (r : ℕ) → WordStart text c.word end r → Settled text end c (cursor r r false false)
  settle_past c i k h r w =
      record {
        ready = at_start r w.high w.starts;
        same = ahead_done c (omega arith) ∙ same_words c.word r w.same ∙ sym (ahead_done (cursor r r false false) (omega arith));
        low = omega (arith, w.low, i.low);
        past = λ e. on (dec_lt c.word r) e;
      }
    where
      on : Dec (c.word < r) → c.at ≡ c.word → min (c.at + 1) end ≤ r
      on (yes l) e = omega arith
      on (no l) e = stay (dec_lt r end)
        where
          stay : Dec (r < end) → min (c.at + 1) end ≤ r
          stay (yes m) =
              let same : r ≡ c.word = omega (arith, w.low) in
              let z : white_at (between text c.word end) ≡ 0 = ap (λ (x : ℕ). white_at (between text x end)) (sym same) ∙ w.starts m in
              absurd (omega (arith, z, k.ends (omega arith)))
          stay (no m) = omega arith

  -- the beginning of a line
  pub first_start : (from r : ℕ) → WordStart text from end r → First text from end (cursor r r false false)
  first_start from r w =
      record { ready = at_start r w.high w.starts; line = same_words from r w.same ∙ sym (ahead_done (cursor r r false false) (omega arith)); low = w.low }

  -- A TOKEN
  -- a cursor behind a word's end that settles
  pub closed_by_lem : (from word : ℕ) (c : Cursor) → GoneOn text from word c → Closed text word end → Closed text c.word end
  closed_by_lem from word c g k = rw g.same k

  far_by : (from word : ℕ) (c r : Cursor) → GoneOn text from word c → word ≤ end → Settled text end c r → min (from + 2) end ≤ r.at
  far_by from word c r g k s = go (dec_lt c.at word)
    where
      go : Dec (c.at < word) → min (from + 2) end ≤ r.at
      go (yes l) = omega (arith, g.far l, s.low)
      go (no l) =
          let e : c.at ≡ c.word = omega (arith, g.same, g.stands.low) in
          omega (arith, s.past e, g.on)

  says_by : (word : ℕ) (c r : Cursor) (a ws : List Word) → c.word ≡ word → Settled text end c r → a ≡ ws ++ in_word text c → a ++ lyric_words (between text word end) ≡ ws ++ ahead text end r
  unfolding ahead
  says_by word c r a ws e s f =
      ap (λ (x : List Word). x ++ lyric_words (between text word end)) f
      ∙ append_assoc ws (in_word text c) (lyric_words (between text word end))
      ∙ ap (λ (k : ℕ). ws ++ (in_word text c ++ lyric_words (between text k end))) (sym e)
      ∙ ap (λ (x : List Word). ws ++ x) s.same

  -- a syllable of the word at the cursor
  pub token_in : (c : Cursor) → Ready text end c → (r : Read) → SyllableRead text c r → (on : Cursor) → Settled text end r.cursor on → TokenRead text end c (read r.token on)
  unfolding ahead
  token_in c i r s on t =
      record {
        says = says_by c.word r.cursor on (in_word text c) (said text r.token) s.gone.same t s.says;
        small = s.small;
        ready = t.ready;
        on = omega (arith, s.gone.on, t.low);
        far = far_by c.at c.word r.cursor on s.gone i.within t;
      }

  -- a word, and those behind it
  line_word : (at word : ℕ) → WordEnd text at end word → lyric_words (between text at end) ≡ word_of (between text at word) ++ lyric_words (between text word end)
  unfolding lyric_words words_of
  line_word at word w = ap words_of w.word

  -- the first token of a word
  pub token_first : (c : Cursor) → Ready text end c → (c.at < c.word → ⊥) → (word : ℕ) → WordEnd text c.at end word → (r : Read) → WordRead text c.at word r
      → (on : Cursor) → Settled text end r.cursor on → TokenRead text end c (read r.token on)
  token_first c i h word w r s on t =
      let e : c.word ≡ c.at = omega (arith, i.stands.low) in
      record {
        says =
            ahead_done c (omega arith) ∙ ap (λ (k : ℕ). lyric_words (between text k end)) e
            ∙ line_word c.at word w
            ∙ says_by word r.cursor on (word_of (between text c.at word)) (said text r.token) s.gone.same t s.says;
        small = s.small;
        ready = t.ready;
        on = omega (arith, s.gone.on, t.low);
        far = far_by c.at word r.cursor on s.gone w.closed.high t;
      }
