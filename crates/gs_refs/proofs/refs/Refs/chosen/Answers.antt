use Rattle.std.proofs.Common.{◌∙◌, Option, sym, ap, subst}
use Rattle.gs_refs.specs.declared.candidate.Candidate.{Candidate}
use Rattle.gs_refs.specs.Answers.{References}
use Rattle.gs_refs.specs.Candidates.{IsGreatestNamed}
use Rattle.gs_refs.specs.Choice.{choice}
use Rattle.gs_refs.specs.History.{frames, idr_is_owed}
use Rattle.gs_refs.proofs.Standings.{chooses-idr, chooses-none, choice-owed, choice-again, owed-first, owed-asked, owed-not}
use Rattle.gs_refs.proofs.refs.Refs.chosen.Goals as goal
use Rattle.gs_refs.proofs.refs.Refs.chosen.Goals.{then-self-eq0-via-then-self-eq0, then-self-eq0-via-else-self-eq0+then-self}

pub returns-then-self-eq0 : goal.returns-then-self-eq0
returns-then-self-eq0 c =
    let h = c.args.self.now.history in
    let t = c.args.tick.now in
    let count = c.self.invariant.count ∙ ap (λ (r : References). frames r.history) c.self.view_is in
    let owes = c.self.invariant.owes ∙ ap (λ (r : References). idr_is_owed r.history) c.self.view_is in
    chooses-idr h (choice h t) (choice-owed h t (elim c.then-self-eq0.branch [
      | then-self-eq0-via-then-self-eq0 w ↦ owed-first h (sym count ∙ w.if-self-eq0.true)
      | then-self-eq0-via-else-self-eq0+then-self w ↦ owed-asked h (sym owes ∙ w.if-self.true)
    ]))

pub returns-in-None : goal.returns-in-None
returns-in-None c =
    let h = c.args.self.now.history in
    let t = c.args.tick.now in
    let count = c.self.invariant.count ∙ ap (λ (r : References). frames r.history) c.self.view_is in
    let owes = c.self.invariant.owes ∙ ap (λ (r : References). idr_is_owed r.history) c.self.view_is in
    let free = owed-not h (λ e. c.if-self-eq0.false (count ∙ e)) (sym owes ∙ c.if-self.false) in
    let lost = sym c.last_is_valid.ensures ∙ c.if-last_is_valid.false in
    chooses-none h t (choice-again h t free lost) (subst (λ (o : Option Candidate). IsGreatestNamed h t o) c.in-None.is c.greatest_named.ensures)
