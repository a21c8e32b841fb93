use Rattle.std.proofs.Common.{List, sym, true, subst}
use Rattle.gs_refs.specs.declared.entry.Entry.{Entry}
use Rattle.gs_refs.specs.Standing.{Stands}
use Rattle.gs_refs.proofs.Standings.{pushed-reverse, stands-ended}
use Rattle.gs_refs.proofs.refs.Refs.append_end.Goals as goal

pub invariant_of-self : goal.invariant_of-self
invariant_of-self c =
    let it = c.self.inside in
    let now = pushed-reverse it.entries.items c.push.new.entries.items _ c.push.ensures.items in
    subst (λ (l : List Entry). Stands l it.frames it.last_tick it.idr_is_owed true it.candidates) (sym now)
    (stands-ended _ it.frames it.last_tick it.idr_is_owed it.has_ended it.candidates c.self.invariant _ _)
