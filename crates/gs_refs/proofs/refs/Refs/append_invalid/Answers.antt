use Rattle.std.proofs.Common.{List, reverse, sym, subst}
use Rattle.gs_refs.specs.declared.entry.Entry.{Entry}
use Rattle.gs_refs.specs.declared.entry.Entry.TheVariants as entry
use Rattle.gs_refs.specs.Standing.{Stands}
use Rattle.gs_refs.proofs.Standings.{pushed-reverse, stands-invalid}
use Rattle.gs_refs.proofs.refs.Refs.append_invalid.Goals as goal

pub invariant_of-self : goal.invariant_of-self
invariant_of-self c =
    let it = c.self.inside in
    let h : List Entry = reverse it.entries.items in
    let kept = c.keep_valid.new.candidates in
    let now = pushed-reverse it.entries.items c.push.new.entries.items (entry.Invalid c.args.first c.args.last) c.push.ensures.items in
    subst (λ (l : List Entry). Stands l it.frames it.last_tick it.idr_is_owed it.has_ended kept) (sym now)
    (stands-invalid h it.frames it.last_tick it.idr_is_owed it.has_ended it.candidates c.self.invariant c.args.first c.args.last kept
    (c.keep_valid.ensures.keeps h c.args.last c.self.invariant.kept))
