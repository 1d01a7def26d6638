-- `lyric_lines::sing_line` meets its contract.
use native.Mathlib.Omega.{arith}
use lib.ListN.{length}
use Rattle.lyric_words.proofs.Tokens.{small_more}
use Rattle.lyric_lines.proofs.Words.{stops_inside}
use Rattle.lyric_lines.proofs.Singing.{singing_start, singing_length, singing_room, singing_near, singing_next, singing_end}
use Rattle.lyric_lines.proofs.sing_line.Goals as goal

pub first_cursor-cursor-requires : goal.first_cursor-cursor-requires
first_cursor-cursor-requires c = (c.requires.order, c.requires.high)

pub first_place-place-requires : goal.first_place-place-requires
first_place-place-requires c = stops_inside c.args.scratch.now c.args.sheet c.requires.kept

pub loop-cursor-init : goal.loop-cursor-init
loop-cursor-init c =
    let a = c.args in
    singing_start a.edition a.text.now a.scratch.now a.sheet a.line _ _ c.requires c.first_cursor-cursor.ensures c.first_place-place.ensures

pub abc_lyric_token-read-requires : goal.abc_lyric_token-read-requires
abc_lyric_token-read-requires c = (c.loop-cursor.invariant.ready, c.loop-cursor-test.true, c.requires.high)

pub sing_token-sung-requires : goal.sing_token-sung-requires
sing_token-sung-requires c =
    let a = c.args in
    let p = c.requires in
    let l = c.loop-cursor in
    let here = c.loop-cursor-test.true in (
      singing_room a.edition a.text.now a.scratch.now a.sheet a.line l.scratch l.cursor l.place l.count l.invariant p here,
      singing_near a.edition a.text.now a.scratch.now a.sheet a.line l.scratch l.cursor l.place l.count l.invariant p here (omega (arith, c.well_formed.1.1.0)),
      small_more (length a.text.now) 4294967295 c.abc_lyric_token-read.result.token (omega (arith, p.short)) c.abc_lyric_token-read.ensures.small,
    )

pub loop-cursor-smaller : goal.loop-cursor-smaller
loop-cursor-smaller c =
    let h = c.loop-cursor-test.true in
    omega (arith, h, c.abc_lyric_token-read.ensures.on)

pub loop-cursor-preserved : goal.loop-cursor-preserved
loop-cursor-preserved c =
    let a = c.args in
    let l = c.loop-cursor in
    singing_next a.edition a.text.now a.scratch.now a.sheet a.line l.scratch l.cursor l.place l.count l.invariant _ c.abc_lyric_token-read.ensures c.loop-cursor-test.true _ _ c.sing_token-sung.ensures

pub shape_of-scratch : goal.shape_of-scratch
shape_of-scratch c =
    let a = c.args in
    let l = c.loop-cursor in
    singing_length a.edition a.text.now a.scratch.now a.sheet a.line l.scratch l.cursor l.place l.count l.invariant

pub returns : goal.returns
returns c =
    let a = c.args in
    let l = c.loop-cursor in
    singing_end a.edition a.text.now a.scratch.now a.sheet a.line l.scratch l.cursor l.place l.count l.invariant c.loop-cursor-test.false
