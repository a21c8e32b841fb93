-- Cited by private contracts alone: the datagrams that units of audio add behind others.
use Rattle.std.specs.Prelude.{List, [], ◌∷◌, ◌++◌, ℕ}
use Rattle.gs_rtp.specs.Stream.{StreamSettings}
use Rattle.gs_audio.specs.Sending.{last_datagrams}

abbrev pub sound_behind : StreamSettings → List (List ℕ) → List (List ℕ) → List (List ℕ)
sound_behind settings before [] = []
sound_behind settings before (unit ∷ units) =
    last_datagrams settings (before ++ unit ∷ []) ++ sound_behind settings (before ++ unit ∷ []) units
