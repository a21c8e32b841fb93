use Rattle.std.proofs.Common.{◌≡◌, rules}
use Rattle.std.specs.Prelude.{nat_lt}
use Rattle.std.proofs.lemmas.List.Sorted.{answers_always}
use Rattle.gs_pair.proofs.Cuts.{rise_is}
use Rattle.gs_pair.proofs.places.rise.Goals as goal

pub returns : goal.returns
returns c = rise_is c.args.frames.now c.is_sorted_by.result (c.is_sorted_by.ensures.cases nat_lt
    (answers_always _ (λ a r. r ≡ nat_lt a.0.now a.1.0.now) _ (λ f a r g k. search rules)))
