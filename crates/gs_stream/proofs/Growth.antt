-- What went out before an entry went out first.
use Rattle.std.proofs.Common.{List, [], ◌∷◌, refl, sym}
use Rattle.std.proofs.lemmas.List.{append-nil}
use Rattle.gs_rtp.specs.Stream.{StreamSettings}
use Rattle.gs_tape.specs.Tick.{Tick}
use Rattle.gs_refs.specs.declared.entry.Entry.{Entry}
use Rattle.gs_refs.specs.declared.entry.Entry.TheVariants.{Sent, Invalid, IdrAsked, Ended}
use Rattle.gs_stream.specs.Video.{video_stream}
use Rattle.gs_stream.specs.Audio.{audio_units}
use Rattle.gs_bytes.specs.Prefix.{IsPrefixOf}
use Rattle.gs_stream.specs.Paired.{invalid_ranges}

pub streams_only_grow : (settings : StreamSettings) (ticks : List Tick) (e : Entry) (h : List Entry)
    → IsPrefixOf (video_stream settings ticks h) (video_stream settings ticks (e ∷ h))
unfolding video_stream
streams_only_grow settings ticks (Sent tick kind reference) h = (_, refl)
streams_only_grow settings ticks (Invalid first last) h = ([], sym (append-nil (video_stream settings ticks h)))
streams_only_grow settings ticks IdrAsked h = ([], sym (append-nil (video_stream settings ticks h)))
streams_only_grow settings ticks (Ended first last) h = ([], sym (append-nil (video_stream settings ticks h)))

pub sounds_only_grow : (ticks : List Tick) (e : Entry) (h : List Entry) → IsPrefixOf (audio_units ticks h) (audio_units ticks (e ∷ h))
unfolding audio_units
sounds_only_grow ticks (Sent tick kind reference) h = (_, refl)
sounds_only_grow ticks (Invalid first last) h = ([], sym (append-nil (audio_units ticks h)))
sounds_only_grow ticks IdrAsked h = ([], sym (append-nil (audio_units ticks h)))
sounds_only_grow ticks (Ended first last) h = ([], sym (append-nil (audio_units ticks h)))

pub ranges_only_grow : (e : Entry) (h : List Entry) → IsPrefixOf (invalid_ranges h) (invalid_ranges (e ∷ h))
ranges_only_grow (Sent tick kind reference) h = ([], sym (append-nil (invalid_ranges h)))
ranges_only_grow (Invalid first last) h = (_, refl)
ranges_only_grow IdrAsked h = ([], sym (append-nil (invalid_ranges h)))
ranges_only_grow (Ended first last) h = ([], sym (append-nil (invalid_ranges h)))
