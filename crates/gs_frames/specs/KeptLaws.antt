-- What a client keeps before it was given anything, and that it is enough to hand frames on.
use Rattle.std.specs.Prelude.{ℕ, ◌≡◌, ◌<◌, ◌≤◌, ◌+◌, Bool, false, ◌&&◌, ◌||◌, not, List, [], nat_lt, All, AllPairs}
use Rattle.std.specs.Prelude.{◌==◌}
use Rattle.gs_frames.specs.Client.{ClientSettings, Arrival}
use Rattle.gs_frames.specs.Received.{taken}
use Rattle.gs_frames.specs.Settled.{settled}
use Rattle.gs_frames.specs.Handed.{Handed, is_re_entry, settled_at_resets, is_handed}
use Rattle.gs_frames.specs.Kept.{Kept, last_of, waits_for_idr_frame, kept}

abbrev pub nothing_kept : Kept
nothing_kept = record { greatest = 0; open_frames = []; settled = 0; last_handed = 0; waits_for_idr = false }

-- It is nothing.
abbrev pub NothingIsKeptAtFirst : Type 0
NothingIsKeptAtFirst = (client : ClientSettings) → kept client [] ≡ nothing_kept

-- whether a frame of this kind is handed, by the last frame handed, 0 where there is none, and by whether an IDR frame
-- is awaited
abbrev pub is_handed_next : ℕ → Bool → ℕ → ℕ → Bool
is_handed_next last waits frame kind =
    (kind == 2 || not waits) && (is_re_entry kind || (nat_lt 0 last && last + 1 == frame))

-- frames by rising index, from 1 on, all below one
pub record AreBelow (frame : ℕ) (hs : List Handed) : Type 0 where
  pub least : All (λ h. 1 ≤ h.frame) hs
  pub below : All (λ h. h.frame < frame) hs
  pub rise : AllPairs (λ a b. a.frame < b.frame) hs

-- These two tell whether a frame above the settled ones is handed, behind those handed below it.
abbrev pub LastHandedTellsNext : Type 0
LastHandedTellsNext =
    (client : ClientSettings) (came : List Arrival) (hs : List Handed) (frame kind : ℕ)
    → settled client (taken client came) < frame → AreBelow frame hs
    → is_handed (settled_at_resets client came) hs frame kind
    ≡ is_handed_next (last_of hs) (waits_for_idr_frame hs (settled_at_resets client came)) frame kind
