-- What the steps of a capture file read.
use Rattle.std.proofs.Common.{◌≡◌, not, ◌≤◌, ◌+◌, ◌*◌, ◌<◌, ◌||◌, ℕ, false, Option, Ok, List, length, ap, arith}
use Rattle.std.specs.Prelude.{nat_le, ◌==◌}
use Rattle.std.specs.List.{AllByRecursion, sum_by}
use Rattle.std.proofs.lemmas.Bool.{le-ltb}
use Rattle.gs_tape.specs.Limits.{most_unit, most_bytes}
use Rattle.gs_tape.specs.Tick.{Delta}
use Rattle.gs_tape.proofs.Ticks.{audio_bytes}
use Rattle.gs_tape.specs.Steps.{gives, then_read, number, length_in_tick, unit, named_tick, delta, last}
use Rattle.gs_tape.specs.Streaming.{ReadsStep}
use Rattle.gs_tape.proofs.Streams.{reads_passed, reads_then, reads_made}

pub unit_length_read : (tick held : ℕ) {old new : Option (List ℕ)} {place place' n : ℕ}
    → ReadsStep (number 4) old new place place' (Ok n) → n ≤ most_unit → held + n ≤ most_bytes
    → ReadsStep (length_in_tick tick held) old new place place' (Ok n)
unit_length_read tick held {n = n} h most room =
    reads_passed _ _ (reads_passed _ _ h (le-ltb most_unit n most)) (le-ltb most_bytes (held + n) room)

pub named_read : (tick after : ℕ) {old new : Option (List ℕ)} {place place' n : ℕ}
    → ReadsStep (number 4) old new place place' (Ok n) → (nat_le n after || nat_le tick n) ≡ false
    → ReadsStep (named_tick tick after) old new place place' (Ok n)
named_read tick after h passed = reads_passed _ _ h passed

pub delta_read : (tick after held : ℕ) {old mid new : Option (List ℕ)} {place place' place'' n : ℕ} {u : List ℕ}
    → ReadsStep (named_tick tick after) old mid place place' (Ok n) → ReadsStep (unit tick held) mid new place' place'' (Ok u)
    → ReadsStep (delta tick after held) old new place place'' (Ok (record { named = n; unit = u }))
delta_read tick after held {n = n} first second =
    let made : List ℕ → Delta = λ u. record { named = n; unit = u } in
    reads_then _ first (reads_made made second)

pub head_read : (audio duration : ℕ) {old new : Option (List ℕ)} {place place' n : ℕ}
    → ReadsStep last old new place place' (Ok n)
    → ReadsStep {A = ℕ × ℕ} (then_read last (λ _. gives (audio, duration))) old new place place' (Ok (audio, duration))
head_read audio duration h =
    let made : ℕ → ℕ × ℕ = λ _. (audio, duration) in
    reads_made made h

-- the sum of all units with those of a tick
pub room_kept : (held heard each : ℕ) (idr : List ℕ) (ds : List Delta) (us : List (List ℕ))
    → held + heard * each + length idr + sum_by (λ d. length d.unit) ds ≤ most_bytes
    → length us ≡ heard → AllByRecursion (λ u. length u ≡ each) us
    → held + (length idr + sum_by (λ d. length d.unit) ds + sum_by (λ u. length u) us) ≤ most_bytes
room_kept held heard each idr ds us room many whole =
    let sum : sum_by (λ (u : List ℕ). length u) us ≡ length us * each = audio_bytes each us whole in
    let all : length us * each ≡ heard * each = ap (λ (n : ℕ). n * each) many in
    omega (arith, sum, all, room)

pub is_zero : (n : ℕ) → n ≡ 0 → not (n == 0) ≡ false
is_zero n is = ap (λ (k : ℕ). not (k == 0)) is
