-- A generated file is read as what was generated.
use Rattle.std.proofs.Common.{◌≡◌, ◌≤◌, ◌++◌, ◌∷◌, [], ℕ, List, None, Ok, length, arith, refl, ap, ◌∙◌, append_assoc}
use Rattle.std.specs.Prelude.{codes}
use Rattle.std.specs.List.{flat_map}
use Rattle.gs_tape.specs.Tick.{Tick}
use Rattle.gs_tape.specs.Capture.{head, tick, file}
use Rattle.gs_tape.specs.Reading.{head_at, text_at, number_at, read_tape, audio_length, audio_duration, audio_of_head, duration_of_head}
use Rattle.gs_tape.specs.Generated.{generated}
use Rattle.gs_tape.proofs.GeneratedWithin.{generated_is_writable}
use Rattle.gs_tape.proofs.WrittenFiles.{files_are_read, magic_read}
use Rattle.gs_tape.proofs.Written.{then_ok, number_read}
use Rattle.byteorder.specs.Endian.{little_bytes}

head_is : (size : ℕ) (rest : List ℕ) → head_at size (head 240 5 ++ rest) ≡ Ok (record { audio = 240; duration = 5 }, rest)
unfolding head_at
head_is size rest =
    let behind : List ℕ = 5 ∷ 0 ∷ rest in
    then_ok (text_at size (codes "GSTAPE01") (head 240 5 ++ rest)) (little_bytes 2 240 ++ behind) _ _ (magic_read size (little_bytes 2 240 ++ behind))
    (then_ok (number_at size 2 (little_bytes 2 240 ++ behind)) (240, behind) _ _ (number_read size 2 240 behind (omega arith))
    (then_ok (number_at size 1 behind) (5, 0 ∷ rest) _ _ (number_read size 1 5 (0 ∷ rest) (omega arith))
    (then_ok (number_at size 1 (0 ∷ rest)) (0, rest) _ _ (number_read size 1 0 rest (omega arith)) refl)))

pub head_found : (ticks : List Tick) (size : ℕ) → head_at size (file 240 5 ticks) ≡ Ok (record { audio = 240; duration = 5 }, flat_map tick ticks ++ 0x45 ∷ [])
head_found ticks size = ap (λ (l : List ℕ). head_at size l) (append_assoc (head 240 5) (flat_map tick ticks) (0x45 ∷ []))
    ∙ head_is size (flat_map tick ticks ++ 0x45 ∷ [])

pub read_again : (number ticks : ℕ) → ticks ≤ 2000 → read_tape (file 240 5 (generated number ticks)) ≡ record { ticks = generated number ticks; fault = None }
read_again number ticks few = files_are_read 240 5 (generated number ticks) (generated_is_writable number ticks few)

pub audio_is : (ticks : List Tick) → audio_length (file 240 5 ticks) ≡ 240
audio_is ticks = ap audio_of_head (head_found ticks (length (file 240 5 ticks)))

pub duration_is : (ticks : List Tick) → audio_duration (file 240 5 ticks) ≡ 5
duration_is ticks = ap duration_of_head (head_found ticks (length (file 240 5 ticks)))
