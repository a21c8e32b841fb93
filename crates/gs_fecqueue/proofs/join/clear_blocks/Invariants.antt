use Rattle.std.proofs.Common.{◌≡◌}
use Rattle.std.specs.List.{AllWithin}
use Rattle.gs_fecqueue.proofs.join.clear_blocks.Given as goal

-- those before this one are forgotten
abbrev pub invariant-clear : goal.invariant-clear
invariant-clear l = AllWithin (λ block. block.held ≡ 0) l.blocks 0 l.block-index
