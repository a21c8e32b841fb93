use Rattle.std.proofs.Common.{◌≡◌, ◌+◌, List, reverse, sym, ap, subst, arith}
use Rattle.gs_refs.specs.declared.entry.Entry.{Entry}
use Rattle.gs_refs.specs.Answers.{References, sent_entry}
use Rattle.gs_refs.specs.History.{frames, last_tick}
use Rattle.gs_refs.specs.Standing.{Stands}
use Rattle.gs_refs.proofs.Standings.{pushed-reverse, stands-sent}
use Rattle.gs_refs.proofs.refs.Refs.append_sent.Goals as goal

pub invariant_of-self : goal.invariant_of-self
invariant_of-self c =
    let it = c.self.inside in
    let s = c.args.sent in
    let h : List Entry = reverse it.entries.items in
    let kept = c.keep_sent.new.candidates in
    let owed = c.is_still_owed-self-inside.result in
    let now = pushed-reverse it.entries.items c.push.new.entries.items (sent_entry s) c.push.ensures.items in
    let sent = ap (λ (r : References). frames r.history) c.self.view_is in
    let last = ap (λ (r : References). last_tick r.history) c.self.view_is in
    let next : s.frame ≡ frames h + 1 = omega (arith, sent, c.requires.frame) in
    subst (λ (l : List Entry). Stands l s.frame s.tick owed it.has_ended kept) (sym now)
    (stands-sent h it.frames it.last_tick it.idr_is_owed it.has_ended it.candidates c.self.invariant s owed kept
    next (omega (arith, last, c.requires.later)) c.is_still_owed-self-inside.ensures (c.keep_sent.ensures.keeps h next c.self.invariant.kept))
