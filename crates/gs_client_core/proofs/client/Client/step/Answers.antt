use Rattle.std.proofs.Common.{◌∷◌, rules}
use Rattle.gs_frames.specs.Client.{Datagram}
use Rattle.gs_frames.specs.Handed.{handed}
use Rattle.gs_client_core.proofs.Hands.{new-few, new-places}
use Rattle.gs_client_core.proofs.client.Client.step.Goals as goal

pub returns-clause-what : goal.returns-clause-what
returns-clause-what c = λ client came sound stands. c.add-moved.ensures.verdict client came stands.queue

pub returns-clause-ask : goal.returns-clause-ask
returns-clause-ask c = λ client came sound stands.
    c.tell_moved-ask.ensures.asks client came c.args.datagram.now stands.has_window stands.depack (c.add-moved.ensures.moved client came stands.queue)

pub returns-clause-frames : goal.returns-clause-frames
returns-clause-frames c = λ client came sound stands.
    let bytes = c.args.datagram.now in
    let moved_is = c.add-moved.ensures.moved client came stands.queue in
    let told = c.tell_moved-ask.ensures.tells client came bytes stands.has_window stands.depack moved_is in
    let handing =
    c.tell_complete.ensures client came c.add-moved.result.moved stands.has_window stands.packet (c.add-moved.ensures.stands client came stands.queue)
    (c.add-moved.ensures.verdict client came stands.queue) told in
    let hands = c.next_frames-frames.ensures client (Datagram bytes ∷ came) (handed client came) handing (new-few client came bytes stands.has_window) in
    new-places c.next_frames-frames.new.depack client came bytes c.next_frames-frames.result (search rules) hands

pub returns-clause-stands : goal.returns-clause-stands
returns-clause-stands c = λ client came sound stands.
    let bytes = c.args.datagram.now in
    let moved_is = c.add-moved.ensures.moved client came stands.queue in
    let told = c.tell_moved-ask.ensures.tells client came bytes stands.has_window stands.depack moved_is in
    let handing =
    c.tell_complete.ensures client came c.add-moved.result.moved stands.has_window stands.packet (c.add-moved.ensures.stands client came stands.queue)
    (c.add-moved.ensures.verdict client came stands.queue) told in
    let hands = c.next_frames-frames.ensures client (Datagram bytes ∷ came) (handed client came) handing (new-few client came bytes stands.has_window) in
    record {
      has_window = stands.has_window;
      packet = stands.packet;
      queue = c.add-moved.ensures.stands client came stands.queue;
      depack = hands.stands;
      audio = stands.audio;
    }
