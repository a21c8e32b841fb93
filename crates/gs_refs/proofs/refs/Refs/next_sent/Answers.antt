use Rattle.std.proofs.Common.{ℕ, ap, ◌∙◌}
use Rattle.gs_tape.specs.Tick.{Tick}
use Rattle.gs_refs.specs.Standing.{chosen_sent}
use Rattle.gs_refs.proofs.Standings.{sent-chosen}
use Rattle.gs_refs.proofs.refs.Refs.next_sent.Goals as goal

pub returns : goal.returns
returns c =
    let h = c.args.self.now.history in
    let chosen = c.chosen-chosen.result in
    c.sent_as.ensures
    ∙ ap (λ (n : ℕ). chosen_sent h n chosen) (ap (λ (t : Tick). t.number) c.tick.view_is)
    ∙ sent-chosen h c.args.tick.now chosen c.chosen-chosen.ensures
