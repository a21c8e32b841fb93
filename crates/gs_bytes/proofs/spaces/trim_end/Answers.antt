use Rattle.std.proofs.Common.{◌≡◌, ◌∙◌, ◌-◌, ◌++◌, ◌∷◌, [], length, take, arith}
use Rattle.std.proofs.lemmas.Grind.{common_steps}
use Rattle.gs_bytes.proofs.SpaceLemmas.{trim_more}
use Rattle.gs_bytes.proofs.spaces.trim_end.Goals as goal

pub loop-rest-preserved : goal.loop-rest-preserved
loop-rest-preserved c =
    let s = c.loop-rest.rest.now in
    let last : s ≡ take (length s - 1) s ++ 32 ∷ [] = grind (arith, common_steps) in
    trim_more s (take (length s - 1) s) last ∙ c.loop-rest.invariant
