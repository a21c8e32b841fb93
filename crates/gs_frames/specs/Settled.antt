-- Up to which frame it is settled which frames are complete.
use Rattle.std.specs.Prelude.{ℕ, zero, suc, Bool, ◌&&◌, ◌||◌, List, is_some, ◌==◌, if◌then◌else◌}
use Rattle.gs_frames.specs.Client.{ClientSettings}
use Rattle.gs_frames.specs.Received.{Received, greatest, is_left}
use Rattle.gs_frames.specs.Complete.{complete}

-- a frame that is complete, or can't become so any more
abbrev pub is_done : ClientSettings → List Received → ℕ → Bool
is_done client rs frame = is_some (complete client rs frame) || is_left client.window rs frame

abbrev pub one_further : ℕ → ℕ → Bool → ℕ
one_further n reached done = if reached == n && done then suc n else reached

-- up to which of the first n frames each is done, from frame 1 on
abbrev pub settled_among : ClientSettings → List Received → ℕ → ℕ
settled_among client rs zero = zero
settled_among client rs (suc n) = one_further n (settled_among client rs n) (is_done client rs (suc n))

-- the greatest frame up to which each is complete or left, 0 where frame 1 is neither
unfoldable pub settled : ClientSettings → List Received → ℕ
settled client rs = settled_among client rs (greatest rs)
