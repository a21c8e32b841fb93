-- A block of which enough shards came is whole, whichever they are.
use Rattle.std.specs.Prelude.{ℕ, ◌≡◌, ◌≢◌, ◌+◌, ◌<◌, ◌≤◌, true, List, length, All, AllPairs, Contains}
use Rattle.std.specs.List.{filter}
use Rattle.gs_frames.specs.declared.verdict.Shape.{Shape}
use Rattle.gs_frames.specs.Received.{Received, is_of_block}
use Rattle.gs_frames.specs.Verdict.{counting}

-- what came of a block says the same of its frame and of itself
pub record Agree (rs : List Received) (frame block : ℕ) (shape : Shape) : Type 0 where
  pub frames : All (λ r. r.head.frame ≡ frame → r.head.last_block ≡ shape.last_block) rs
  pub blocks :
      All (λ r. is_of_block frame block r ≡ true
      → (r.head.shards ≡ shape.shards) × (r.head.percentage ≡ shape.percentage)) rs

-- A block of which as many distinct shards came as it has data shards, while its frame wasn't left, is whole: that
-- many count.
abbrev pub DistinctShardsFillBlock : Type 0
DistinctShardsFillBlock =
    (window : ℕ) (rs chosen : List Received) (frame block : ℕ) (shape : Shape)
    → Agree rs frame block shape → All (λ r. r.head.frame < frame + window) rs
    → AllPairs (λ r s. r.head.index ≢ s.head.index) chosen → All (λ r. is_of_block frame block r ≡ true) chosen
    → All (Contains rs) chosen → shape.shards ≤ length chosen
    → length (filter (is_of_block frame block) (counting window rs)) ≡ shape.shards
