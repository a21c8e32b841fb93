use Rattle.std.proofs.lemmas.List.Elements.{filter_from_retain}
use Rattle.std.proofs.Common.{rules}
use Rattle.gs_enet.proofs.timing.keep_answers_to_disconnect.Goals as goal

pub returns-clause-kept : goal.returns-clause-kept
returns-clause-kept c = filter_from_retain _ (λ a. a.to_disconnect) (λ p x b q h. search rules) _ _ _ c.retain.ensures.filtered
