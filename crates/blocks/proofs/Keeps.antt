-- `parse_abc` KEEPS THE LAWS of the frame. Assumes nothing.
use mathlib.Core.Path.{refl, sym, subst, ◌∙◌}
use mathlib.Core.Bool.{true≢false}
use native.Mathlib.Omega.{arith}
use borrow.Author.Tests.{ltb-true, lt-ltb}
use Rattle.laws.specs.Lists.{index_of}
use Rattle.laws.proofs.Bools.{never_true}
use Rattle.editions.specs.declared.Edition.{Edition}
use Rattle.reader.specs.Lines.{is_v, kind_of}
use Rattle.reader.specs.Scan.{begin}
use Rattle.blocks.specs.Frame.{Laws}
use Rattle.blocks.specs.Demand.{identifier}
use Rattle.blocks.proofs.Machine.{utf8_line, blank_line}
use Rattle.blocks.proofs.LineKinds.{is_sung, voice_begins, key_begins, unit_begins, meter_begins, sung_only}
use Rattle.blocks.proofs.Instance.{reader}
use Rattle.blocks.proofs.Scan.{step_on, facts, step_through, through, through_V, names_played, told_kind, blind_kind, no_music_kind, HushOut, act_no_music, no_voice, music_lyric}
use Rattle.blocks.proofs.End.{early_iff, early_no, late_no, alike, part_own}

-- the laws of specs/Frame, each from what one line does
pub laws : (ed : Edition) → Laws (reader ed)
unfolding begin
laws ed =
    record {
      start_within = (omega arith, omega arith);
      stays_within = λ s t r a l e. ((facts ed s t r a e).stays_within l.0, omega (arith, (facts ed s t r a e).line, (step_on ed s t r a e).0));
      line = λ s t r a e. (facts ed s t r a e).line;
      note = λ s t r a b e. (facts ed s t r a e).counted b;
      body_K = λ s t r a e h. (facts ed s t r a e).body_K (key_begins ed r h);
      body = λ s t r a e b. (facts ed s t r a e).body b;
      names = λ s t r a e h. (facts ed s t r a e).names (identifier r) (voice_begins ed r h);
      keeps = λ s t r a e v h. (facts ed s t r a e).keeps v h;
      stays = λ s t r a b h e. (facts ed s t r a e).stays b (no_voice ed r h);
      verse_place_stays = λ s t r a e p h. lt-ltb p t.places (omega (arith, (facts ed s t r a e).verse_place_stays, ltb-true p s.places h));
      verse_place_music = λ s t r a b h e. lt-ltb s.part t.places ((facts ed s t r a e).verse_place b h);
      music_V = λ r h. never_true (is_v r) (λ x. names_played (identifier r) (kind_of ed r) (voice_begins ed r x) h);
      music_w = music_lyric ed;
      music_L = λ r h. unit_begins ed r h;
      music_M = λ r h. meter_begins ed r h;
      unit_meter_unseen = λ e u w m n b r h. blind_kind u w m n b (kind_of ed r) h;
      verse_place_unseen = λ e u n b r h. told_kind u n b (kind_of ed r) (never_true (is_sung (kind_of ed r)) (λ x. true≢false (sym (sung_only ed r x) ∙ h)));
      no_music = λ e u n b r h. no_music_kind u n b (kind_of ed r) h;
      placed = λ s t r a e p h. subst (HushOut p) (step_on ed s t r a e).1 (act_no_music s (kind_of ed r) s.env.in_header p) h;
      fine = λ s t r a b e. (facts ed s t r a e).fine b;
      goes =
          λ s r b v f n l.
          step_through ed s r s.part b l
          (through s (kind_of ed r) (no_voice ed r v) f n);
      goes_V = λ s r b v h f n l. step_through ed s r (index_of (identifier r) s.env.voices) b l (through_V s (kind_of ed r) (identifier r) (voice_begins ed r v) h f);
      early_no = early_no;
      late_no = late_no;
      alike = alike ed;
      part = part_own ed;
      early_iff = early_iff;
      utf8_line = utf8_line;
      utf8_nil = refl;
      blank_line = blank_line;
      blank_nil = refl;
    }
