-- What a client stands for: all that it was given.
use Rattle.std.specs.Prelude.{ℕ, ◌≡◌, List}
use Rattle.gs_frames.specs.Client.{ClientSettings, HasWindow, Arrival}
use Rattle.gs_fecqueue.specs.Standing.{IsQueueOf}
use Rattle.gs_depack.specs.Depack.{IsDepackOf}
use Rattle.gs_audio.specs.Standing.{IsAudioQueueOf}
use Rattle.gs_client_core.specs.declared.client.Client.{Client}

-- Its queue and its depack stand for the video datagrams that came and the resets of its decoder, and its audio queue
-- for the audio datagrams.
pub record IsClientOf (client : Client) (c : ClientSettings) (came : List Arrival) (sound : List (List ℕ))
    : Type 0 where
  pub has_window : HasWindow c
  pub packet : client.settings.packet ≡ c.stream.packet
  pub queue : IsQueueOf client.queue c came
  pub depack : IsDepackOf client.depack c came
  pub audio : IsAudioQueueOf client.audio c.stream sound
