use Rattle.std.proofs.Common.{sym, ◌∙◌}
use Rattle.gs_enet.proofs.Windows.{lost_at, lost_nowhere}
use Rattle.gs_enet.proofs.channel.Channel.first_lost.Goals as goal

pub returns-in-Some : goal.returns-in-Some
returns-in-Some c = λ k. lost_at c.args.now k c.args.self.now.first c.args.self.now.window.items c.in-Some.place (sym c.in-Some.ensures)

pub returns-in-None : goal.returns-in-None
returns-in-None c = λ k. lost_nowhere c.args.now k c.args.self.now.first c.args.self.now.window.items (sym c.in-None.ensures)
