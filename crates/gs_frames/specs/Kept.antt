-- What a client keeps of all that it was given: enough for every answer to come.
use Rattle.std.specs.Prelude.{ℕ, ◌≡◌, ◌+◌, ◌-◌, Bool, false, not, List, [], ◌∷◌, map, Option, Some, None}
use Rattle.std.specs.List.{filter, range_with_len}
use Rattle.gs_rs.specs.Shards.{HeldShard}
use Rattle.gs_frames.specs.Client.{ClientSettings, Arrival}
use Rattle.gs_frames.specs.Image.{Frame}
use Rattle.gs_frames.specs.Received.{Received, taken, greatest, oldest, is_of_frame, is_of_block}
use Rattle.gs_frames.specs.Verdict.{counting}
use Rattle.gs_frames.specs.Complete.{held_shard, complete, block_payloads}
use Rattle.gs_frames.specs.Settled.{settled}
use Rattle.gs_frames.specs.Handed.{Handed, settled_at_resets, has_idr_since, handed}

-- what a block holds: the shards that counted, the newest first, or, where it is whole, its payloads
pub data FrameContent : Type 0 where
  Shards : List HeldShard → FrameContent
  Payloads : List ℕ → FrameContent

-- a block of which something counted: its number of data shards, its percentage, and the numbers of the shards that
-- counted, the newest first
pub record KeptBlock : Type 0 where
  pub shards : ℕ
  pub percentage : ℕ
  pub numbers : List ℕ
  pub content : FrameContent

-- an open frame: its last block, where a datagram of it came; each of its blocks up to that one, where something of
-- it counted; its kind, where it is complete
pub record KeptFrame : Type 0 where
  pub frame : ℕ
  pub last_block : Option ℕ
  pub blocks : List (Option KeptBlock)
  pub kind : Option ℕ

-- the greatest frame taken; the open frames, which are the newest, as many as the window, by rising index; up to
-- which frame it is settled; the greatest frame handed; whether a reset still waits for an IDR frame
pub record Kept : Type 0 where
  pub greatest : ℕ
  pub open_frames : List KeptFrame
  pub settled : ℕ
  pub last_handed : ℕ
  pub waits_for_idr : Bool

abbrev pub frame_content : List Received → Option (List ℕ) → FrameContent
frame_content held None = Shards (map held_shard held)
frame_content held (Some payloads) = Payloads payloads

abbrev pub kept_shards : ClientSettings → List Received → Option Received → Option KeptBlock
kept_shards client held None = None
kept_shards client held (Some first) = Some (record {
  shards = first.head.shards;
  percentage = first.head.percentage;
  numbers = map (λ r. r.head.index) held;
  content = frame_content held (block_payloads client.stream held (Some first));
})

abbrev pub kept_block : ClientSettings → List Received → ℕ → ℕ → Option KeptBlock
kept_block client counted frame block =
    kept_shards client (filter (is_of_block frame block) counted) (oldest (is_of_block frame block) counted)

abbrev pub kind_if_complete : Option Frame → Option ℕ
kind_if_complete None = None
kind_if_complete (Some held) = Some held.kind

abbrev pub kept_of_frame : ClientSettings → List Received → ℕ → Option Received → KeptFrame
kept_of_frame client rs frame None = record { frame = frame; last_block = None; blocks = []; kind = None }
kept_of_frame client rs frame (Some first) = record {
  frame = frame;
  last_block = Some first.head.last_block;
  blocks = map (kept_block client (counting client.window rs) frame) (range_with_len 0 (first.head.last_block + 1));
  kind = kind_if_complete (complete client rs frame);
}

abbrev pub kept_frame : ClientSettings → List Received → ℕ → KeptFrame
kept_frame client rs frame = kept_of_frame client rs frame (oldest (is_of_frame frame) rs)

-- those above greatest - window, from 1 on, up to the greatest
abbrev pub open_numbers : ℕ → ℕ → List ℕ
open_numbers window greatest = range_with_len ((greatest - window) + 1) (greatest - (greatest - window))

abbrev pub last_of : List Handed → ℕ
last_of [] = 0
last_of (h ∷ []) = h.frame
last_of (h ∷ g ∷ hs) = last_of (g ∷ hs)

-- a reset came, and no IDR frame was handed behind the last one
abbrev pub waits_for_idr_frame : List Handed → List ℕ → Bool
waits_for_idr_frame frames [] = false
waits_for_idr_frame frames (reset ∷ resets) = not (has_idr_since frames (Some reset))

unfoldable pub kept : ClientSettings → List Arrival → Kept
kept client came = record {
  greatest = greatest (taken client came);
  open_frames = map (kept_frame client (taken client came)) (open_numbers client.window (greatest (taken client came)));
  settled = settled client (taken client came);
  last_handed = last_of (handed client came);
  waits_for_idr = waits_for_idr_frame (handed client came) (settled_at_resets client came);
}

-- what is kept is that of all that the client was given
abbrev pub StandsFor : Kept → ClientSettings → List Arrival → Type 0
StandsFor state client came = state ≡ kept client came
