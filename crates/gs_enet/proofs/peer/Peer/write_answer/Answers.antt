use Rattle.std.proofs.Common.{◌≡◌, ◌≤◌, ◌<◌, ◌+◌, ◌-◌, ◌∷◌, [], ℕ, List, Option, Some, None, length, map, drop, refl, sym, subst, ap, ◌∙◌, arith, inr}
use Rattle.gs_enet.specs.declared.answer.Answer.{Answer}
use Rattle.gs_enet.specs.declared.peer.Peer.{Peer}
use Rattle.gs_enet.specs.Record.{PeerRecord}
use Rattle.gs_enet.specs.Write.{Answers}
use Rattle.gs_enet.specs.Items.{IsTooLong}
use Rattle.gs_enet.proofs.Firsts.{front_is, answer_first, answer_leaves}
use Rattle.gs_enet.proofs.peer.Peer.write_answer.Goals as goal

pub returns-in_default-clause-written : goal.returns-in_default-clause-written
returns-in_default-clause-written c = λ r s.
    let xs : List Answer = c.args.self.now.pending.items in
    let a : Answer = c.index-answer.result.now in
    let no = c.in_default.ensures in (
      inr (record {
        item = Answers a;
        rest = _;
        front = answer_first r a (drop 1 xs) (s.pending ∙ front_is xs a c.requires.some c.index-answer.ensures);
        long = no.0;
        short = omega arith;
      }),
      s,
      no.1,
    )

pub returns-clause-written : goal.returns-clause-written
returns-clause-written c = λ r s.
    let p : Peer = c.args.self.now in
    let a : Answer = c.index-answer.result.now in
    let xs : List Answer = p.pending.items in
    let front : xs ≡ a ∷ drop 1 xs = front_is xs a c.requires.some c.index-answer.ensures in
    let put = c.in-Some.ensures in
    record {
      item = Answers a;
      rest = _;
      front = answer_first r a (drop 1 xs) (s.pending ∙ front);
      fits = put.0;
      put = put.1;
      fit = put.2;
      stands = record {
        state = s.state;
        own = s.own;
        other = s.other;
        connect_id = s.connect_id;
        extra = s.extra;
        now = s.now;
        disconnected = s.disconnected;
        last_control = s.last_control;
        counts = s.counts;
        waiting = s.waiting;
        pending = ap (drop 1) s.pending ∙ sym c.drop_first.ensures;
        unacknowledged = answer_leaves r a (drop 1 xs) (s.pending ∙ front) ∙ s.unacknowledged;
      };
    }
