use Rattle.std.proofs.Common.{◌∙◌, List, Some, reverse, sym, ap, subst}
use Rattle.gs_refs.specs.declared.entry.Entry.{Entry}
use Rattle.gs_refs.specs.Candidates.{KeptCandidates}
use Rattle.gs_refs.specs.Standing.{Stands}
use Rattle.gs_refs.proofs.Standings.{none-from, stands-room}
use Rattle.gs_refs.proofs.refs.Refs.reserve.Goals as goal

pub invariant_of-self-2 : goal.invariant_of-self-2
invariant_of-self-2 c =
    let it = c.self.inside in
    let h : List Entry = reverse it.entries.items in
    let same = ap (λ (l : List Entry). reverse l) c.reserve-2.ensures.items in
    let room = stands-room h it.frames it.last_tick it.idr_is_owed it.has_ended it.candidates c.self.invariant
    (none-from it.candidates (sym c.is_some.ensures ∙ c.if-is_some.false)) in
    subst (λ (l : List Entry). Stands l it.frames it.last_tick it.idr_is_owed it.has_ended (Some c.in_ok-candidates.candidates)) (sym same)
    (subst (λ (k : KeptCandidates). Stands h it.frames it.last_tick it.idr_is_owed it.has_ended (Some k)) (sym c.in_ok-candidates.ensures) room)
