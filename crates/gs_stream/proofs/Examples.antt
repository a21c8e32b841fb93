-- The definitions at small histories, computed.
use Rattle.std.proofs.Common.{ℕ, ◌≡◌, ◌+◌, ◌*◌, List, [], ◌∷◌, codes, map, get_or, Some, refl, sym, ap, ◌∙◌, replicate}
use Rattle.gs_gf256.specs.Field.{product, polynomial_product, remainder, field_sum}
use Rattle.gs_rtp.specs.AudioDatagrams.{numbered}
use Rattle.gs_rtp.specs.Stream.{StreamSettings}
use Rattle.gs_tape.specs.Tick.{Tick}
use Rattle.gs_refs.specs.declared.entry.Entry.{Entry}
use Rattle.gs_refs.specs.declared.entry.Entry.TheVariants.{Sent, Invalid}
use Rattle.gs_refs.specs.History.{reference_of}
use Rattle.gs_frames.specs.Image.{frame_image, frame_of}
use Rattle.gs_frames.specs.Plan.{fec_plan}
use Rattle.gs_frames.specs.Datagrams.{frame_shards, frame_datagrams}
use Rattle.gs_frames.specs.Client.{Arrival, Datagram}
use Rattle.gs_frames.specs.Received.{received}
use Rattle.gs_frames.specs.Verdict.{counting}
use Rattle.gs_frames.specs.Complete.{complete}
use Rattle.gs_frames.specs.Settled.{settled}
use Rattle.gs_frames.specs.Handed.{handed, handed_through}
use Rattle.gs_frames.specs.Asks.{asks, asks_of}
use Rattle.gs_frames.specs.Narrow.{narrow}
use Rattle.gs_stream.specs.Video.{video_stream, unit_of}
use Rattle.gs_stream.specs.Paired.{IsPaired}
use Rattle.gs_stream.specs.Audio.{audio_stream, audio_units}

sounding : StreamSettings
sounding = record { packet = 1024; percentage = 0; minimum = 0; fps = 60; duration = 5; audio = 1; ssrc = 1 }

abbrev first : Tick
first = record { number = 1; time = 0; idr = []; deltas = []; audio = (1 ∷ []) ∷ (0 ∷ []) ∷ (0 ∷ []) ∷ (0 ∷ []) ∷ [] }

abbrev second : Tick
second = record { number = 2; time = 17; idr = codes "I"; deltas = record { named = 1; unit = codes "D" } ∷ []; audio = [] }

abbrev ticks : List Tick
ticks = first ∷ second ∷ []

abbrev history : List Entry
history = Sent 2 1 1 ∷ Sent 1 2 0 ∷ []

first_sound : numbered (audio_stream sounding ticks history) 0 ≡ 0x80 ∷ 0x61 ∷ 0 ∷ 0 ∷ 0 ∷ 0 ∷ 0 ∷ 0 ∷ 0 ∷ 0 ∷ 0 ∷ 1 ∷ 1 ∷ []
unfolding sounding audio_stream audio_units
first_sound = refl

fifth_sound : numbered (audio_stream sounding ticks history) 4 ≡
    0x80 ∷ 0x7F ∷ 0 ∷ 4 ∷ 0 ∷ 0 ∷ 0 ∷ 0 ∷ 0 ∷ 0 ∷ 0 ∷ 1 ∷ 0 ∷ 0x61 ∷ 0 ∷ 0 ∷ 0 ∷ 0 ∷ 0 ∷ 0 ∷ 0 ∷ 0 ∷ 0 ∷ 1 ∷ 0x77 ∷ []
unfolding sounding audio_stream audio_units product polynomial_product remainder field_sum
fifth_sound = refl

units : (unit_of ticks history 1 ≡ []) × (unit_of ticks history 2 ≡ codes "D") × (reference_of history 2 ≡ Some 1)
units = (refl, refl, refl)

-- the second frame's datagram counts on: its sequence number and stream index are those of one before it
second_frame : numbered (video_stream sounding ticks history) 1 ≡
    0x90 ∷ 0 ∷ 0 ∷ 1 ∷ 0 ∷ 0 ∷ 5 ∷ 0xFA ∷ 0 ∷ 0 ∷ 0 ∷ 1 ∷ 0 ∷ 0 ∷ 0 ∷ 0
    ∷ 0 ∷ 1 ∷ 0 ∷ 0 ∷ 2 ∷ 0 ∷ 0 ∷ 0 ∷ 7 ∷ 0 ∷ 0x10 ∷ 0 ∷ 0 ∷ 0 ∷ 0x40 ∷ 0
    ∷ 1 ∷ 0 ∷ 0 ∷ 1 ∷ 9 ∷ 0 ∷ 0 ∷ 0 ∷ 0x44 ∷ replicate 999 0
unfolding sounding video_stream frame_datagrams frame_shards fec_plan frame_image
second_frame = refl

-- A loss and the re-entry behind it: frame 2 is lost, frames 3 and 4 follow it and aren't handed, and frame 5
-- goes out against frame 1 once the host was told.
silent : StreamSettings
silent = record { packet = 1024; percentage = 0; minimum = 0; fps = 60; duration = 5; audio = 0; ssrc = 1 }

abbrev tick : ℕ → List ℕ → Tick
tick n against =
    let deltas = map (λ k. record { named = k; unit = replicate 4 (16 * n + k) }) against in
    record { number = n; time = 0; idr = replicate 5 n; deltas = deltas; audio = [] }

abbrev capture : List Tick
capture = tick 1 [] ∷ tick 2 (1 ∷ []) ∷ tick 3 (1 ∷ 2 ∷ []) ∷ tick 4 (1 ∷ 2 ∷ 3 ∷ []) ∷ tick 5 (1 ∷ 2 ∷ 3 ∷ 4 ∷ []) ∷ []

abbrev four : List Entry
four = Sent 4 1 3 ∷ Sent 3 1 2 ∷ Sent 2 1 1 ∷ Sent 1 2 0 ∷ []

abbrev five : List Entry
five = Sent 5 5 1 ∷ Invalid 2 2 ∷ four

abbrev stream : List (List ℕ)
stream = video_stream silent capture five

-- all but the second datagram, the newest first
abbrev came : List Arrival
came = map (λ k. Datagram (get_or stream k [])) (4 ∷ 3 ∷ 2 ∷ 0 ∷ [])

re_entered : handed (narrow silent) came ≡ record { frame = 1; kind = 2; unit = replicate 5 1 } ∷ record { frame = 5; kind = 5; unit = replicate 4 81 } ∷ []
unfolding silent video_stream frame_datagrams frame_shards fec_plan frame_image handed handed_through settled received counting complete frame_of
re_entered = refl

asked : asks (narrow silent) came ≡ record { first = 2; last = 2 } ∷ []
unfolding silent video_stream frame_datagrams frame_shards fec_plan frame_image asks asks_of received counting complete frame_of
asked = refl

captured : (unit_of capture five 5 ≡ replicate 4 81) × (reference_of five 5 ≡ Some 1)
captured = (refl, refl)

-- a range that the client didn't ask for has no part in it
abbrev unasked : List Entry
unasked = Invalid 3 3 ∷ four

not_paired : (came : List Arrival) → asks (narrow silent) came ≡ record { first = 2; last = 2 } ∷ [] → IsPaired (narrow silent) capture unasked came → ⊥
not_paired came e paired = let front = sym e ∙ paired.asked.1 in let first = ap (λ ranges. map (λ r. r.first) ranges) front in cc first
