use Rattle.std.proofs.Common.{arith, refl, subst, sym, ◌∙◌, None}
use Rattle.gs_enet.specs.Channels.{AreEmpty}
use Rattle.gs_enet.proofs.Standings.{nothing_from, nothing_to, none_from}
use Rattle.gs_enet.proofs.peer.Peer.holds_nothing.Goals as goal

pub returns-then-is_none : goal.returns-then-is_none
returns-then-is_none c =
    let p = c.args.self.now in (
      λ t. nothing_from p.control p.channels.items (none_from p.control c.if-is_none.ensures)
          (subst AreEmpty c.deref.ensures.value (c.nothing_held.ensures.0 t)),
      λ e. c.nothing_held.ensures.1 (subst AreEmpty (sym c.deref.ensures.value) (nothing_to p.control p.channels.items e).1),
    )
