use Rattle.gs_loopback.proofs.Parts.{ends_are}
use Rattle.gs_loopback.proofs.session.Loopback.ends.Goals as goal

pub returns : goal.returns
returns c = λ scene part h.
    ends_are c.video_count.result c.audio_count.result c.wrote.result c.wrote-2.result scene part
    (c.video_count.ensures scene.session scene.ticks part h.host)
    (c.audio_count.ensures scene.session scene.ticks part h.host)
    (c.wrote.ensures part.client (c.side.ensures scene.session part h.client))
    (c.wrote-2.ensures part.host (c.side-2.ensures scene.session scene.ticks part h.host))
