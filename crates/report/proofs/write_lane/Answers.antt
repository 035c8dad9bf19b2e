-- `report::write_lane` meets its contract: one piece behind the other. Assumes nothing.
use mathlib.Core.Path.{refl, sym, ap, ◌∙◌}
use mathlib.Core.List.{List, [], ◌∷◌}
use native.Mathlib.Omega.{arith}
use Prim.Native.Nat.{ℕ, ◌+◌, ◌*◌}
use Rattle.expull_walk.specs.Blocks.{lane_bytes}
use Rattle.records.specs.Record.{header_of}
use lib.ListN.{length}
use Rattle.spans.specs.Span.{overwrite}
use Rattle.spans.proofs.Laws.{store-one}
use Rattle.store_look.specs.Look.{lent}
use Rattle.report_text.specs.Text.{newline, len_word, bytes_word, decimal, line, hex}
use Rattle.report_text.proofs.Values.{hex-length}
use Rattle.report_put.proofs.Laws.{line-long}
use Rattle.report_lanes.specs.Lanes.{lane_at}
use Rattle.report.proofs.Written.{put_first, put_next, standing_key, standing-lane, lane_key, name_line}
use Rattle.report.proofs.Written.{lane-own, lane-lines}
use Rattle.report.proofs.write_lane.Goals as goal

pub slice_bounds-put_hex_line-end-2 : goal.slice_bounds-put_hex_line-end-2
slice_bounds-put_hex_line-end-2 c = standing_key c.requires.0 c.requires.1.0

pub put_hex_line-a-requires : goal.put_hex_line-a-requires
put_hex_line-a-requires c = omega (arith, name_line c.requires.0 c.requires.1.0, line-long len_word (decimal c.args.lane.bytes))

pub put_number_line-b-requires : goal.put_number_line-b-requires
put_number_line-b-requires c = (
  omega arith,
  omega (arith, name_line c.requires.0 c.requires.1.0, line-long len_word (decimal c.args.lane.bytes)),
)

pub copy_in-requires : goal.copy_in-requires
copy_in-requires c =
    omega (arith, name_line c.requires.0 c.requires.1.0, line-long len_word (decimal c.args.lane.bytes))

pub overflow_add-d : goal.overflow_add-d
overflow_add-d c =
    omega (arith, name_line c.requires.0 c.requires.1.0, line-long len_word (decimal c.args.lane.bytes))

pub write_bytes-requires : goal.write_bytes-requires
write_bytes-requires c = (
  c.requires.0,
  omega (arith, name_line c.requires.0 c.requires.1.0, line-long len_word (decimal c.args.lane.bytes)),
)

pub overflow_add-e : goal.overflow_add-e
overflow_add-e c =
    omega (arith, name_line c.requires.0 c.requires.1.0, line-long len_word (decimal c.args.lane.bytes))

pub bounds-output-e : goal.bounds-output-e
bounds-output-e c =
    omega (arith, name_line c.requires.0 c.requires.1.0, line-long len_word (decimal c.args.lane.bytes))

pub overflow_add-result : goal.overflow_add-result
overflow_add-result c =
    omega (arith, name_line c.requires.0 c.requires.1.0, line-long len_word (decimal c.args.lane.bytes))

pub returns : goal.returns
returns c =
    let m = lent c.args.table.now c.args.keys.now c.args.lists.now in
    let at = c.args.lane.at in
    let S = c.requires.0 in
    let one = put_first c.args.p c.args.output.now _ _ _ c.put_hex_line-a.ensures.0 c.put_hex_line-a.ensures.1 in
    let two = put_next one _ (line len_word (decimal c.args.lane.bytes)) _ c.put_number_line-b.ensures.0
    c.put_number_line-b.ensures.1 in
    let three = put_next two _ bytes_word _ c.copy_in.ensures refl in
    let long = standing-lane c.args.st m at c.args.lane.bytes S in
    let four = put_next three _ (hex (lane_bytes m.lists (header_of m.keys at)))
    (c.put_number_line-b.result + 6 + 2 * c.args.lane.bytes) c.write_bytes.ensures
    (omega (arith, hex-length (lane_bytes m.lists (header_of m.keys at)), long)) in
    let five = put_next four _ (newline ∷ []) _ refl refl in
    let t = lane-lines (lane_at m at) _ _ c.args.lane.bytes (lane_key m at _ c.requires.1.0)
    (sym long ∙ ap length (lane-own m at)) (lane-own m at) in (
      store-one _ newline _ ∙ five.output ∙ ap (λ (t : List ℕ). overwrite c.args.p t c.args.output.now) t,
      omega (arith, name_line S c.requires.1.0, line-long len_word (decimal c.args.lane.bytes)),
    )
