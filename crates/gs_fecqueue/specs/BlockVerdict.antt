-- Cited by private contracts alone: a block's verdict on a datagram of it, but for what is whole besides it.
use Rattle.std.specs.Prelude.{ℕ, Bool, not, List, ◌∷◌, length, Option, Some, nat_le, ◌==◌, if◌then◌else◌}
use Rattle.std.specs.List.{list_any}
use Rattle.gs_frames.specs.declared.verdict.Added.{Added}
use Rattle.gs_frames.specs.declared.verdict.Added.TheVariants.{Foreign, Repeat, Spare, Added as Held, BlockWhole}
use Rattle.gs_frames.specs.declared.verdict.Why.TheVariants.{Shape as OtherShape}
use Rattle.gs_frames.specs.declared.verdict.Shape.{Shape}
use Rattle.gs_frames.specs.Received.{Received}
use Rattle.gs_frames.specs.Verdict.{shape_came, first_or, is_same_shape, has_all}

-- what was said of a block by the first that counted of it, else by r, where this was said of the last block
abbrev pub shape_in : ℕ → Received → Option Received → Shape
shape_in last r first = record {
  last_block = last;
  shards = (first_or r first).head.shards;
  percentage = (first_or r first).head.percentage;
}

abbrev pub made_block_whole : Bool → Added
made_block_whole whole = if whole then BlockWhole else Held

abbrev pub block_verdict : ℕ → Received → List Received → Option Received → Added
block_verdict last r held first =
    if not (is_same_shape (shape_in last r first) (shape_came r))
    then Foreign (OtherShape (shape_in last r first) (shape_came r))
    else (if list_any (λ c. c.head.index == r.head.index) held then Repeat
    else (if nat_le r.head.shards (length held) then Spare
    else made_block_whole (has_all (r ∷ held) (Some (first_or r first)))))

-- what counts of the block behind r, and which of it was first, where r counts and where it doesn't
abbrev pub held_behind : Bool → Received → List Received → List Received
held_behind counts r held = if counts then r ∷ held else held

abbrev pub first_behind : Bool → Received → Option Received → Option Received
first_behind counts r first = if counts then Some (first_or r first) else first
