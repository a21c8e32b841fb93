use Rattle.std.proofs.Common.{◌≡◌, length, get_or, arith}
use Rattle.gs_client_core.proofs.Went.{front-went, front-stays}
use Rattle.gs_client_core.proofs.asker.Asker.send_front.Goals as goal

pub returns-then-went-clause-gone : goal.returns-then-went-clause-gone
returns-then-went-clause-gone c = λ r stands.
    let front = c.in-Some.ensures in
    let view = c.self.view_is in
    let size : length c.args.self.now ≡ length c.self.inside.owed.items = cc in
    let here : c.in-Some.owed.now ≡ get_or c.args.self.now 0 c.in-Some.owed.now = cc in
    front-went r c.in-Some.owed.now c.args.self.now c.send.new.peer c.in_ok-went.went c.if-went.true (omega (arith, size, front.item.3.0)) here
    (c.in_ok-went.ensures r stands)

pub returns-else-went-clause-gone : goal.returns-else-went-clause-gone
returns-else-went-clause-gone c = λ r stands.
    front-stays r c.in-Some.owed.now c.args.self.now c.send.new.peer c.in_ok-went.went c.if-went.false (c.in_ok-went.ensures r stands)
