-- A history's audio: the units that its turns put, and their datagrams.
use Rattle.std.specs.Prelude.{ℕ, ◌-◌, List, [], ◌++◌, ◌∷◌, take, drop, ◌==◌, if◌then◌else◌}
use Rattle.std.specs.List.{flat_map}
use Rattle.gs_rtp.specs.Stream.{StreamSettings}
use Rattle.gs_rtp.specs.AudioDatagrams.{audio_datagrams}
use Rattle.gs_tape.specs.Tick.{Tick}
use Rattle.gs_refs.specs.declared.entry.Entry.{Entry}
use Rattle.gs_refs.specs.declared.entry.Entry.TheVariants.{Sent, Invalid, IdrAsked, Ended}
use Rattle.gs_refs.specs.History.{frames, last_tick}

-- the audio units of the ticks above one number up to another
abbrev pub audio_between : List Tick → ℕ → ℕ → List (List ℕ)
audio_between ticks after last = flat_map (λ t. t.audio) (drop after (take last ticks))

-- A turn puts the audio of the ticks since the last one sent up to its own; the first puts its own alone.
unfoldable pub audio_units : List Tick → List Entry → List (List ℕ)
audio_units ticks [] = []
audio_units ticks (Sent tick kind reference ∷ h) =
    audio_units ticks h ++ audio_between ticks (if frames h == 0 then tick - 1 else last_tick h) tick
audio_units ticks (Invalid first last ∷ h) = audio_units ticks h
audio_units ticks (IdrAsked ∷ h) = audio_units ticks h
audio_units ticks (Ended first last ∷ h) = audio_units ticks h

-- all audio datagrams of a history, in the order in which they went out
unfoldable pub audio_stream : StreamSettings → List Tick → List Entry → List (List ℕ)
audio_stream settings ticks h = audio_datagrams settings (audio_units ticks h)
