use Rattle.std.proofs.Common.{◌+◌, not, ap, subst, ◌∙◌, Option}
use Rattle.gs_client_end.specs.declared.end.ClientEnd.{ClientEnd}
use Rattle.gs_client_end.specs.declared.streaming.Told.{Told}
use Rattle.gs_client_end.specs.Steps.{IsGiven}
use Rattle.gs_client_end.proofs.Streams.{video_refused, video_taken}
use Rattle.gs_client_end.proofs.end.ClientEnd.take_video.Goals as goal

pub returns-in_default : goal.returns-in_default
returns-in_default c = λ session part h.
    video_refused session part c.args.datagram.now (not c.has_made_most-may_ask.result) c.args.self.now c.args.self.now.session c.give_video.new.client
    c.args.reporter.now c.give_video.new.reporter (ap not (c.has_made_most-may_ask.ensures session part h))
    (subst (λ (o : Option Told). IsGiven c.args.self.now.session part.settings part.came part.sound c.args.datagram.now
    (not c.has_made_most-may_ask.result) o c.give_video.new.client c.args.reporter.now c.give_video.new.reporter) c.in_default.is
    (c.in_ok-ask.ensures part.settings part.came part.sound h.client))

pub returns : goal.returns
returns c = λ session part h.
    let told = c.in-Some.field-0 in
    let old = c.args.self.now in
    let owes = c.in_ok-owe.ensures in
    video_taken old _ session part c.args.datagram.now (not c.has_made_most-may_ask.result) told c.give_video.new.client c.args.reporter.now
    c.give_video.new.reporter h (ap not (c.has_made_most-may_ask.ensures session part h))
    (subst (λ (o : Option Told). IsGiven old.session part.settings part.came part.sound c.args.datagram.now
    (not c.has_made_most-may_ask.result) o c.give_video.new.client c.args.reporter.now c.give_video.new.reporter) c.in-Some.is
    (c.in_ok-ask.ensures part.settings part.came part.sound h.client)) (record {
      session = ap (λ (e : ClientEnd). e.session) owes;
      client_is = ap (λ (e : ClientEnd). e.client) owes;
      asker = ap (λ (e : ClientEnd). e.asker) owes;
      owed = ap (λ (e : ClientEnd). e.owed) owes;
      side = ap (λ (e : ClientEnd). e.side) owes;
      handed = c.in_ok-self.ensures ∙ ap (λ (e : ClientEnd). e.sums.handed + told.handed) owes;
      asks = ap (λ (e : ClientEnd). e.sums.asks) owes;
      units = ap (λ (e : ClientEnd). e.sums.units) owes;
    })
