-- A client that was given nothing keeps nothing.
use Rattle.std.proofs.Common.{◌≡◌, ◌+◌, ◌-◌, ℕ, [], map, ap, arith}
use Rattle.std.specs.List.{range_with_len}
use Rattle.gs_frames.specs.Settled.{settled}
use Rattle.gs_frames.specs.Handed.{handed_through, handed}
use Rattle.gs_frames.specs.Kept.{kept, kept_frame}
use Rattle.gs_frames.specs.KeptLaws.{nothing_kept, NothingIsKeptAtFirst}

pub nothing_at_first : NothingIsKeptAtFirst
unfolding kept handed handed_through settled
nothing_at_first c =
    let none : 0 - (0 - c.window) ≡ 0 = omega arith in
    ap (λ (n : ℕ). record nothing_kept { open_frames = map (kept_frame c []) (range_with_len ((0 - c.window) + 1) n) }) none
