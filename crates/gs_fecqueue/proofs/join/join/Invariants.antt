use Rattle.std.proofs.Common.{◌≡◌, ◌≤◌, ◌*◌, length, take, vec_capacity}
use Rattle.std.specs.List.{flat_map}
use Rattle.gs_fecqueue.specs.Holding.{data_of_block}
use Rattle.gs_fecqueue.specs.Limits.{most_of_block, most_of_image}
use Rattle.gs_fecqueue.proofs.join.join.Given as goal

-- those before this one stand end to end, within the room that was reserved
abbrev pub invariant-join : goal.invariant-join
invariant-join l = record {
  joined : l.image.items ≡ flat_map (data_of_block l.size) (take l.block-index l.blocks);
  room : most_of_image ≤ vec_capacity l.image;
  few : length l.image.items ≤ l.block-index * most_of_block;
}
