-- `part_items::on_item` meets its contract.
use Prim.Native.Nat.{◌-◌}
use Rattle.standard.specs.Keys.{Key}
use Rattle.laws.proofs.Parts.{part_cut}
use Rattle.field_keys.specs.Passed.{key_as}
use Rattle.part_items.proofs.Turns.{plain_room, taken_voice_declared, taken_reset, taken_key_in_header, taken_key_change, taken_meter_change, taken_lyric_line, music_line_room, taken_music_line}
use Rattle.part_items.proofs.on_item.Goals as goal

pub returns-in-VoiceDeclared : goal.returns-in-VoiceDeclared
returns-in-VoiceDeclared c =
    let a = c.args in
    let header : Key = key_as a.header in
    let is = c.requires.1 in
    taken_voice_declared _ a.text.now a.t header a.i a.store.now a.r a.row is c.in-VoiceDeclared.is (c.on_voice_declared.ensures a.t a.store.now)

pub returns-in-Reset : goal.returns-in-Reset
returns-in-Reset c =
    let a = c.args in
    let header : Key = key_as a.header in
    let is = c.requires.1 in
    taken_reset _ a.text.now a.t header a.i a.store.now a.r a.row is c.in-Reset.is (c.on_reset.ensures a.edition a.t a.store.now header)

pub returns-in-KeyInHeader : goal.returns-in-KeyInHeader
returns-in-KeyInHeader c =
    let a = c.args in
    let header : Key = key_as a.header in
    let is = c.requires.1 in
    taken_key_in_header _ a.text.now a.t header a.i a.store.now a.r a.row is c.in-KeyInHeader.is (c.on_header_key.ensures a.edition a.t a.store.now)

pub on_key-requires : goal.on_key-requires
on_key-requires c = plain_room c.requires.0

pub returns-in-KeyChange : goal.returns-in-KeyChange
returns-in-KeyChange c =
    let a = c.args in
    let header : Key = key_as a.header in
    let is = c.requires.1 in
    taken_key_change _ a.text.now a.t header a.i a.store.now a.r a.row is c.in-KeyChange.is (c.on_key.ensures a.edition)

pub on_meter-requires : goal.on_meter-requires
on_meter-requires c = plain_room c.requires.0

pub returns-in-MeterChange : goal.returns-in-MeterChange
returns-in-MeterChange c =
    let a = c.args in
    let header : Key = key_as a.header in
    let is = c.requires.1 in
    taken_meter_change _ a.text.now a.t header a.i a.store.now a.r a.row is c.in-MeterChange.is (c.on_meter.ensures a.edition header)

pub returns-in-LyricLine : goal.returns-in-LyricLine
returns-in-LyricLine c =
    let a = c.args in
    let header : Key = key_as a.header in
    let is = c.requires.1 in
    taken_lyric_line _ a.text.now a.t header a.i a.store.now a.r a.row is c.in-LyricLine.is c.requires.0 _ _ c.on_lyric.ensures.value.0 c.on_lyric.ensures.value.1 c.on_lyric.ensures.store_after

pub parse_body_line-requires : goal.parse_body_line-requires
parse_body_line-requires c =
    let a = c.args in
    let header : Key = key_as a.header in
    let is = c.requires.1 in
    music_line_room a.edition a.text.now a.t header a.i a.store.now a.r a.row is c.in-MusicLine.is c.requires.0 _ (part_cut a.text.now a.row.at (a.row.end - a.row.at))

pub returns-in-MusicLine : goal.returns-in-MusicLine
returns-in-MusicLine c =
    let a = c.args in
    let header : Key = key_as a.header in
    let is = c.requires.1 in
    taken_music_line _ a.text.now a.t header a.i a.store.now a.r a.row is c.in-MusicLine.is _ (part_cut a.text.now a.row.at (a.row.end - a.row.at)) c.parse_body_line.ensures
