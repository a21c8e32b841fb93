-- The sides that a value stands for. It has told every event that arose.
use Rattle.std.specs.Prelude.{◌≡◌, ◌<◌, ℕ, [], slice_index}
use Rattle.gs_enet.specs.Record.{channels, given_count}
use Rattle.gs_enet.specs.Standing.{IsPeerOf}
use Rattle.gs_enet.specs.Steps.{is_open}
use Rattle.gs_enet.specs.World.{Side}
use Rattle.gs_sides.specs.declared.side.ControlSide.{ControlSide}
use Rattle.gs_sides.specs.Known.{HoldsAll}

pub record IsSideOf (s : ControlSide) (x : Side) : Type 0 where
  pub peer : IsPeerOf s.peer x.peer
  pub wrote : HoldsAll s.wrote x.wrote
  pub told : x.peer.waiting ≡ []
  pub up : s.up ≡ is_open x.peer.state
  pub given : (c : ℕ) → c < channels → slice_index s.given c ≡ given_count x.peer c
