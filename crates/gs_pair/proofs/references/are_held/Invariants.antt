use Rattle.std.proofs.Common.{◌≡◌, ◌<◌, ℕ, Some, reverse}
use Rattle.std.specs.Prelude.{slice_index}
use Rattle.gs_refs.specs.History.{reference_of}
use Rattle.gs_pair.specs.References.{StandsBefore}
use Rattle.gs_pair.proofs.references.are_held.Given as goal

abbrev pub invariant-loop-place : goal.invariant-loop-place
invariant-loop-place l =
    (place reference : ℕ) → place < l.place → reference_of (reverse l.entries) (slice_index l.handed place) ≡ Some reference
    → StandsBefore l.handed l.cuts place reference
