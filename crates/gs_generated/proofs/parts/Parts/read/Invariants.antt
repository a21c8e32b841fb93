use Rattle.std.proofs.Common.{◌≡◌, ◌<◌, ◌≤◌, ◌++◌, length, take}
use Rattle.gs_generated.specs.Parting.{IsWithin, parts_left}
use Rattle.gs_generated.proofs.parts.Parts.read.Given as goal

abbrev pub invariant-parts : goal.invariant-parts
invariant-parts l = record {
  within : IsWithin l.self;
  bound : l.count ≤ length l.into;
  moved : parts_left l.fn.self ≡ take l.count l.into ++ parts_left l.self;
  all : l.count < length l.into → length l.self.part ≤ l.self.at;
  long : length l.into ≡ length l.fn.into;
}

abbrev pub decreases-parts : goal.decreases-parts
decreases-parts l = length l.self.more.items
