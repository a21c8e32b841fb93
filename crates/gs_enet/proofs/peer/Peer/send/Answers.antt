use Rattle.std.proofs.Common.{◌≡◌, ◌+◌, ◌∷◌, ◌++◌, [], ℕ, List, true, false, not, refl, sym, subst, ap, ◌∙◌, arith, get_or, length}
use Rattle.std.proofs.lemmas.Bool.{and_from}
use Rattle.gs_enet.specs.Record.{Unacknowledged, Message, fresh}
use Rattle.gs_enet.specs.Steps.{is_open, is_full, can_send, next_number, placed, with_message}
use Rattle.gs_enet.specs.Channels.{next_of, GivesOne}
use Rattle.gs_enet.specs.Standing.{IsPeerOf}
use Rattle.gs_enet.proofs.Standings.{channel_is_full, sends_one, sends_none}
use Rattle.gs_enet.proofs.peer.Peer.send.Goals as goal

pub returns-then-is_full : goal.returns-then-is_full
returns-then-is_full c = λ r s. (
  ap is_open s.state ∙ sym c.if-not-is_open.ensures,
  channel_is_full c.args.self.now r c.args.channel c.from-place.result c.index-2.result.now s c.requires.channel c.from-place.ensures c.index-2.ensures
      ∙ sym c.if-is_full.ensures,
  s,
)

pub returns-in_default : goal.returns-in_default
returns-in_default c = λ r s. (
  and_from (is_open r.state) (not (is_full r c.args.channel)) (ap is_open s.state ∙ sym c.if-not-is_open.ensures)
      (ap not (channel_is_full c.args.self.now r c.args.channel c.from-place.result c.index-2.result.now s c.requires.channel c.from-place.ensures
      c.index-2.ensures ∙ sym c.if-is_full.ensures)),
  s,
)

pub returns-in-Ok-give : goal.returns-in-Ok-give
unfolding with_message
returns-in-Ok-give c = λ r s.
    let p = c.args.self.now in
    let one = sends_one p r c.args.channel c.from-place.result c.args.bytes.now c.index.result.now c.index_mut-channel.result.now c.give.new.self s
    c.requires.channel c.from-place.ensures
    c.index.ensures c.index_mut-channel.ensures.value (subst (λ (bytes : List ℕ). GivesOne bytes c.index_mut-channel.result.now c.give.new.self)
    c.in-Ok.ensures c.in-Ok-give.ensures.given) in (
      and_from (is_open r.state) (not (is_full r c.args.channel)) (ap is_open s.state ∙ sym c.if-not-is_open.ensures)
          (ap not (channel_is_full p r c.args.channel c.from-place.result c.index-2.result.now s c.requires.channel c.from-place.ensures c.index-2.ensures
          ∙ sym c.if-is_full.ensures)),
      c.next-number.ensures ∙ one.0,
      record {
        state = s.state;
        own = s.own;
        other = s.other;
        connect_id = s.connect_id;
        extra = s.extra;
        now = s.now;
        disconnected = s.disconnected;
        last_control = s.last_control;
        counts = one.1;
        waiting = s.waiting;
        pending = s.pending;
        unacknowledged = one.2;
      },
    )

pub returns-in-Err : goal.returns-in-Err
returns-in-Err c = λ r s.
    let p = c.args.self.now in
    let none = sends_none p r c.args.channel c.from-place.result c.index_mut-channel.result.now c.give.new.self s c.requires.channel c.from-place.ensures
    c.index_mut-channel.ensures.value c.in-Err.ensures.err in (
      and_from (is_open r.state) (not (is_full r c.args.channel)) (ap is_open s.state ∙ sym c.if-not-is_open.ensures)
          (ap not (channel_is_full p r c.args.channel c.from-place.result c.index-2.result.now s c.requires.channel c.from-place.ensures c.index-2.ensures
          ∙ sym c.if-is_full.ensures)),
      record {
        state = s.state;
        own = s.own;
        other = s.other;
        connect_id = s.connect_id;
        extra = s.extra;
        now = s.now;
        disconnected = s.disconnected;
        last_control = s.last_control;
        counts = none.0;
        waiting = s.waiting;
        pending = s.pending;
        unacknowledged = none.1;
      },
    )
