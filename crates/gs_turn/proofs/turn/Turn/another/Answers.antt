use Rattle.std.proofs.Common.{rules}
use Rattle.gs_turn.proofs.Keeping.{outside_is}
use Rattle.gs_turn.proofs.Splitting.{splits}
use Rattle.gs_turn.proofs.turn.Turn.another.Goals as goal

pub split_seat-seat-requires : goal.split_seat-seat-requires
split_seat-seat-requires g c = (
  search rules,
  search rules,
  splits g.S.Turned.steps c.args.self.now.table.shared.key _ _
      (outside_is _ c.args.first.now.outside) c.requires.maker.0 c.requires.maker.1 c.args.first.now.numbered,
)
