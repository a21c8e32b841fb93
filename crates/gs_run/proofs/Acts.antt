-- What a host does about the messages that a client gives.
use Rattle.std.proofs.Common.{◌≡◌, ◌<◌, ◌≤◌, ◌^◌, ℕ, Bool, true, false, cond, [], ◌++◌, length, pos, refl, sym, ap, subst, ◌∙◌, arith, append_assoc, to_z-of_z}
use Rattle.std.specs.Prelude.{nat_lt, drop, is_none}
use Rattle.std.specs.Int.{w64, cast_signed}
use Rattle.std.proofs.lemmas.Bool.{cond-false}
use Rattle.std.proofs.lemmas.Bool.Decides.{nat_tests}
use Rattle.std.proofs.lemmas.Int.{fits_signed_from_abs}
use Rattle.gs_bytes.specs.Field.{little_bytes, little_from}
use Rattle.gs_bytes.proofs.FieldLemmas.{reads_back}
use Rattle.gs_input.specs.declared.event.Event.{Event}
use Rattle.gs_input.specs.Packet.{event_fault, magic_in, packet_of}
use Rattle.gs_control.specs.declared.message.Message.TheVariants as message
use Rattle.gs_control.specs.Message.{bytes_of, zeros, kind_in}
use Rattle.gs_run.specs.Message.{Act, Invalidate, AskIdr, Input, Nothing, act_of, act_by, acted_event}

-- ---- ranges

-- a number below 2 ^ 63 is the same with a sign
signed_same : (a : ℕ) → a < 2 ^ 63 → cast_signed w64 a ≡ pos a
signed_same a small = to_z-of_z {w = w64} {z = pos a} (fits_signed_from_abs w64 (pos a) small)

first_of : (a b : ℕ) → a < 2 ^ 63 → little_from 0 8 (little_bytes 8 a ++ little_bytes 8 b ++ zeros 8) ≡ a
first_of a b small =
    ap (little_from 0 8) (append_assoc (little_bytes 8 a) (little_bytes 8 b) (zeros 8))
    ∙ (reads_back 8 a [] (little_bytes 8 b ++ zeros 8) (omega (arith, small))).1

last_of : (a b : ℕ) → b < 2 ^ 63 → little_from 8 8 (little_bytes 8 a ++ little_bytes 8 b ++ zeros 8) ≡ b
last_of a b small = (reads_back 8 b (little_bytes 8 a) (zeros 8) (omega (arith, small))).1

pub range_is_told : (a b : ℕ) → a < 2 ^ 63 → b < 2 ^ 63 → act_of (bytes_of (message.Invalidate (pos a) (pos b))) ≡ Invalidate (pos a) (pos b)
unfolding act_of
range_is_told a b first_small last_small =
    rw (first_of a b first_small, last_of a b last_small, signed_same a first_small, signed_same b last_small) refl

-- ---- the others

pub idr_is_told : act_of (bytes_of message.IdrRequest) ≡ AskIdr
unfolding act_of
idr_is_told = refl

-- an act on what a user did, or none
abbrev pub IsOfUser : Act → Type 0
IsOfUser (Input event) = Unit {0}
IsOfUser Nothing = Unit {0}
IsOfUser (Invalidate first last) = ⊥
IsOfUser AskIdr = ⊥

input_by : (b : Bool) (event : Event) → IsOfUser (cond b (Input event) Nothing)
input_by true event = tt
input_by false event = tt

not_short : (n : ℕ) → 2 ≤ n → nat_lt n 2 ≡ false
not_short n long = grind (arith, nat_tests)

pub kind_of_input : (event : Event) → kind_in (bytes_of (message.Input event)) ≡ 0x0206
kind_of_input event =
    cond-false (nat_lt (length (bytes_of (message.Input event))) 2) 0 (little_from 0 2 (bytes_of (message.Input event)))
    (not_short (length (bytes_of (message.Input event))) (omega arith))

pub input_is_of_user : (event : Event) → IsOfUser (act_of (bytes_of (message.Input event)))
unfolding act_of
input_is_of_user event =
    subst (λ (kind : ℕ). IsOfUser (act_by kind (drop 2 (bytes_of (message.Input event))))) (sym (kind_of_input event))
    (input_by (is_none (event_fault (packet_of event))) (acted_event (magic_in (packet_of event)) (packet_of event)))
