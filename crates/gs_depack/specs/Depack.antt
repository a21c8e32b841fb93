-- What a depack knows of all that its client was given.
use Rattle.std.specs.Prelude.{ℕ, suc, ◌≡◌, ◌+◌, ◌-◌, ◌%◌, ◌<◌, ◌≤◌, ◌⊎◌, List, [], ◌∷◌, ◌++◌, Option, Some, None}
use Rattle.std.specs.Prelude.{slice_index, ◌==◌, if◌then◌else◌}
use Rattle.gs_depack.specs.declared.depack.Depack.{Depack}
use Rattle.gs_fecqueue.specs.declared.moved.Moved.{Moved}
use Rattle.gs_frames.specs.Client.{ClientSettings, Arrival, Datagram, most_window}
use Rattle.gs_frames.specs.Received.{Received, IsReceived, taken, greatest}
use Rattle.gs_frames.specs.Complete.{complete, IsComplete}
use Rattle.gs_frames.specs.Settled.{settled}
use Rattle.gs_frames.specs.SettledLaws.{AreDone}
use Rattle.gs_frames.specs.Handed.{Handed, settled_at_resets, handed_through, handed}
use Rattle.gs_frames.specs.Kept.{kind_if_complete, last_of, waits_for_idr_frame}

-- the kind that is noted of a frame: the greatest has a place of its own, each other one that of its number modulo the
-- greatest window
abbrev pub noted_kind : Depack → ℕ → Option ℕ
noted_kind d f =
    if f == d.greatest then d.newest
    else (if slice_index d.frames (f % most_window) == f then Some (slice_index d.kinds (f % most_window)) else None)

-- no other place has the greatest frame, or one above it
abbrev pub HasNoneAbove : Depack → Type 0
HasNoneAbove d = (i : ℕ) → i < most_window → slice_index d.frames i ≤ d.greatest - 1

-- a frame that became complete and isn't noted yet: it isn't settled, and its place is free
pub record IsUnnoted (d : Depack) (c : ClientSettings) (f : ℕ) : Type 0 where
  pub nothing : noted_kind d f ≡ None
  pub above : d.settled < f
  pub within : f ≤ d.greatest
  pub free : (f ≡ d.greatest) ⊎ (d.greatest ≤ d.passed + c.window)

-- Of what came, the depack has handed these frames, which are those up to `passed`. It has noted the kind of each
-- complete frame above them but for the one that is still to be noted, if any, and it is settled as far as it noted.
pub record Handing (d : Depack) (c : ClientSettings) (came : List Arrival) (unnoted : Option ℕ) (given : List Handed)
    : Type 0 where
  pub window : d.window ≡ c.window
  pub is_greatest : d.greatest ≡ greatest (taken c came)
  pub kinds :
      (f : ℕ) → d.passed < f → f ≤ d.greatest → (unnoted ≡ Some f → ⊥)
      → noted_kind d f ≡ kind_if_complete (complete c (taken c came) f)
  pub is_unnoted : (f : ℕ) → unnoted ≡ Some f → IsUnnoted d c f
  pub none_above : HasNoneAbove d
  pub passed_settled : d.passed ≤ d.settled
  pub settled_greatest : d.settled ≤ d.greatest
  pub are_done : AreDone c (taken c came) d.settled
  pub next_nothing : d.settled < d.greatest → noted_kind d (suc d.settled) ≡ None
  pub next_open : d.greatest < suc d.settled + c.window
  pub are_given : given ≡ handed_through c (taken c came) (settled_at_resets c came) d.passed
  pub last_given : d.last_handed ≡ last_of given
  pub waits : d.waits_for_idr ≡ waits_for_idr_frame given (settled_at_resets c came)
  pub since : List Arrival
  pub same_resets : settled_at_resets c came ≡ settled_at_resets c since
  pub was_settled : settled c (taken c since) ≤ d.passed

-- Between two arrivals all was noted, and each settled frame was handed or passed by.
pub record IsDepackOf (d : Depack) (c : ClientSettings) (came : List Arrival) : Type 0 where
  pub handing : Handing d c came None (handed c came)
  pub all_passed : d.passed ≡ d.settled

-- The next frame to hand was handed behind the others: it is complete.
pub record HandsNext (d : Depack) (c : ClientSettings) (came : List Arrival) (unnoted : Option ℕ) (given : List Handed)
    (frame : ℕ) : Type 0 where
  pub one : Handed
  pub is_frame : one.frame ≡ frame
  pub is_complete : IsComplete c (taken c came) frame (record { kind = one.kind; unit = one.unit })
  pub stands : Handing d c came unnoted (given ++ one ∷ [])

-- No settled frame waits to be handed: each was handed or passed by. Where all was noted, those handed are all.
pub record HandsNone (d : Depack) (c : ClientSettings) (came : List Arrival) (unnoted : Option ℕ) (given : List Handed)
    : Type 0 where
  pub all_passed : d.passed ≡ d.settled
  pub all : unnoted ≡ None → (given ≡ handed c came) × IsDepackOf d c came
  pub stands : Handing d c came unnoted given

-- a datagram of a greater frame than all before it, as a depack is told of it
pub record IsMove (moved : Moved) (c : ClientSettings) (came : List Arrival) (bytes : List ℕ) (r : Received)
    : Type 0 where
  pub is_received : IsReceived c.stream bytes r
  pub from : moved.from ≡ greatest (taken c came)
  pub to : moved.to ≡ r.head.frame
  pub rises : moved.from < moved.to
