-- What a datagram brings.
use Rattle.std.proofs.Common.{◌≡◌, ◌<◌, ◌≤◌, ◌+◌, ◌*◌, ◌/◌, ◌%◌, ℕ, Bool, true, false, ◌&&◌, not, cond, List, ◌∷◌, length, Option, Some, None}
use Rattle.std.proofs.Common.{refl, sym, ap, subst, ◌∙◌, ◌⊎◌, arith, inl, inr}
use Rattle.std.specs.Prelude.{◌==◌, nat_lt, slice_index}
use Rattle.std.specs.List.{cons_option}
use Rattle.std.proofs.lemmas.Bool.{cases_Bool, cond-true, cond-false, eqb-true, ltb-true, and_parts}
use Rattle.byteorder.specs.Endian.{big_from}
use Rattle.gs_rtp.specs.Stream.{StreamSettings}
use Rattle.gs_rtp.specs.declared.audio.AudioHead.{AudioHead}
use Rattle.gs_rtp.specs.Audio.{audio_head, is_unit_datagram, is_parity_datagram, is_time, unit_head, parity_head}
use Rattle.gs_audio.specs.declared.queue.AudioQueue.{AudioQueue}
use Rattle.gs_audio.specs.declared.queue.Plays.{Plays}
use Rattle.gs_audio.specs.declared.queue.Plays.TheVariants.{Nothing}
use Rattle.gs_audio.specs.Received.{AudioShard, shard_number, carried_audio, audio_of_session, received_audio, taken_audio}
use Rattle.gs_audio.specs.Played.{PlayedUnit, played_by_taken, newly_played}
use Rattle.gs_audio.specs.Standing.{IsAudioStanding, IsAudioQueueOf, PlaysUnits}
use Rattle.gs_audio.specs.Steps.{session_head, TakesShard, TakesAudioDatagram}

-- ---- the head of a datagram in the grammar

-- which of two it is
which : (b : Bool) (x y : Option AudioHead) (h : AudioHead) → cond b x y ≡ Some h → ((b ≡ true) × (x ≡ Some h)) ⊎ ((b ≡ false) × (y ≡ Some h))
which true x y h e = inl (refl, e)
which false x y h e = inr (refl, e)

none_is : (h : AudioHead) → (let none : Option AudioHead = None in none ≡ Some h) → ⊥
none_is h e = cc

some_is : (g h : AudioHead) → Some g ≡ Some h → g ≡ h
some_is g h e = cc

-- its place, and the room that its shard has
pub record IsOfBlock (s : StreamSettings) (bytes : List ℕ) (h : AudioHead) : Type 0 where
  pub block : h.block < 4194304
  pub number : shard_number h < 6
  pub room : s.audio ≤ length bytes

in_time : (d units time : ℕ) → (time % (d * units) == 0 && nat_lt (time / d) 16777216) ≡ true → time / d / 4 < 4194304
in_time d units time on =
    let t = time / d in
    let few : t < 16777216 = ltb-true t 16777216 (and_parts (time % (d * units) == 0) (nat_lt t 16777216) on).1 in
    omega arith

unit_place : (s : StreamSettings) (bytes : List ℕ) → is_unit_datagram s bytes ≡ true → IsOfBlock s bytes (unit_head s bytes)
unit_place s bytes on =
    let time = big_from 4 4 bytes in
    let parts = and_parts (slice_index bytes 1 == 97 && length bytes == 12 + s.audio) (is_time s 1 time) on in
    let long = eqb-true (length bytes) (12 + s.audio) (and_parts (slice_index bytes 1 == 97) (length bytes == 12 + s.audio) parts.0).1 in
    let t = time / s.duration in
    record { block = in_time s.duration 1 time parts.1; number = omega arith; room = omega arith }

parity_place : (s : StreamSettings) (bytes : List ℕ) → is_parity_datagram s bytes ≡ true → IsOfBlock s bytes (parity_head s bytes)
parity_place s bytes on =
    let time = big_from 16 4 bytes in
    let few = nat_lt (slice_index bytes 12) 2 in
    let kind = slice_index bytes 1 == 127 && length bytes == 24 + s.audio in
    let parts = and_parts (kind && few) (is_time s 4 time) on in
    let front = and_parts kind few parts.0 in
    let long = eqb-true (length bytes) (24 + s.audio) (and_parts (slice_index bytes 1 == 127) (length bytes == 24 + s.audio) front.0).1 in
    let small = ltb-true (slice_index bytes 12) 2 front.1 in
    record { block = in_time s.duration 4 time parts.1; number = omega arith; room = omega arith }

pub head-place : (s : StreamSettings) (bytes : List ℕ) (h : AudioHead) → audio_head s bytes ≡ Some h → IsOfBlock s bytes h
head-place s bytes h e =
    let begins = not (s.audio == 0) && slice_index bytes 0 / 64 == 2 in
    let parity = cond (is_parity_datagram s bytes) (Some (parity_head s bytes)) None in
    let Of : AudioHead → Type 0 = λ g. IsOfBlock s bytes g in
    elim (which begins (cond (is_unit_datagram s bytes) (Some (unit_head s bytes)) parity) None h e) [
      | inr off ↦ absurd (none_is h off.1)
      | inl on ↦ elim (which (is_unit_datagram s bytes) (Some (unit_head s bytes)) parity h on.1) [
        | inl unit ↦ subst Of (some_is (unit_head s bytes) h unit.1) (unit_place s bytes unit.0)
        | inr other ↦ elim (which (is_parity_datagram s bytes) (Some (parity_head s bytes)) None h other.1) [
          | inl shard ↦ subst Of (some_is (parity_head s bytes) h shard.1) (parity_place s bytes shard.0)
          | inr off ↦ absurd (none_is h off.1)
        ]
      ]
    ]

-- of the session
session-is : (ssrc : ℕ) (o : Option AudioHead) (h : AudioHead) → session_head ssrc o ≡ Some h → o ≡ Some h
session-is ssrc None h e = absurd (none_is h e)
session-is ssrc (Some g) h e = elim (which (g.ssrc == ssrc) (Some g) None h e) [
  | inl on ↦ on.1
  | inr off ↦ absurd (none_is h off.1)
]

pub session-place : (s : StreamSettings) (bytes : List ℕ) (h : AudioHead) → session_head s.ssrc (audio_head s bytes) ≡ Some h → IsOfBlock s bytes h
session-place s bytes h e = head-place s bytes h (session-is s.ssrc (audio_head s bytes) h e)

-- ---- what is received

some_none : (h : AudioHead) → Some h ≡ None → ⊥
some_none h e = cc

none-of : (s : StreamSettings) (bytes : List ℕ) (o : Option AudioHead) → session_head s.ssrc o ≡ None → audio_of_session s bytes o ≡ None
none-of s bytes None e = refl
none-of s bytes (Some g) e = elim (cases_Bool (g.ssrc == s.ssrc)) [
  | inl on ↦ absurd (some_none g (sym (cond-true (g.ssrc == s.ssrc) (Some g) None on) ∙ e))
  | inr off ↦ cond-false (g.ssrc == s.ssrc) (Some (carried_audio s bytes g)) None off
]

some-of : (s : StreamSettings) (bytes : List ℕ) (o : Option AudioHead) (h : AudioHead) → session_head s.ssrc o ≡ Some h
    → audio_of_session s bytes o ≡ Some (carried_audio s bytes h)
some-of s bytes None h e = absurd (none_is h e)
some-of s bytes (Some g) h e = elim (which (g.ssrc == s.ssrc) (Some g) None h e) [
  | inl on ↦
      cond-true (g.ssrc == s.ssrc) (Some (carried_audio s bytes g)) None on.0
      ∙ ap (λ (x : AudioHead). Some (carried_audio s bytes x)) (some_is g h on.1)
  | inr off ↦ absurd (none_is h off.1)
]

received-none : (s : StreamSettings) (bytes : List ℕ) → session_head s.ssrc (audio_head s bytes) ≡ None → received_audio s bytes ≡ None
unfolding received_audio
received-none s bytes e = none-of s bytes (audio_head s bytes) e

received-some : (s : StreamSettings) (bytes : List ℕ) (h : AudioHead) → session_head s.ssrc (audio_head s bytes) ≡ Some h
    → received_audio s bytes ≡ Some (carried_audio s bytes h)
unfolding received_audio
received-some s bytes h e = some-of s bytes (audio_head s bytes) h e

-- ---- a datagram taken

pub newly-by : (s : StreamSettings) (bytes : List ℕ) (came : List (List ℕ)) (o : Option AudioShard) → received_audio s bytes ≡ o
    → newly_played s bytes came ≡ played_by_taken s (taken_audio s came) o
unfolding newly_played
newly-by s bytes came o e = ap (played_by_taken s (taken_audio s came)) e

taken-by : (s : StreamSettings) (bytes : List ℕ) (came : List (List ℕ)) (o : Option AudioShard) → received_audio s bytes ≡ o
    → taken_audio s (bytes ∷ came) ≡ cons_option o (taken_audio s came)
taken-by s bytes came o e = ap (λ (p : Option AudioShard). cons_option p (taken_audio s came)) e

pub take-none : (q : AudioQueue) (s : StreamSettings) (came : List (List ℕ)) (bytes : List ℕ) → IsAudioQueueOf q s came
    → session_head s.ssrc (audio_head s bytes) ≡ None → TakesAudioDatagram q Nothing bytes s came
take-none q s came bytes stands e =
    let none = received-none s bytes e in
    let Stands : List AudioShard → Type 0 = λ rs. IsAudioStanding q s rs in
    (newly-by s bytes came None none, subst Stands (sym (taken-by s bytes came None none)) stands)

pub take-some : (after : AudioQueue) (plays : Plays) (s : StreamSettings) (came : List (List ℕ)) (bytes : List ℕ) (h : AudioHead)
    → session_head s.ssrc (audio_head s bytes) ≡ Some h → TakesShard after plays (carried_audio s bytes h) s (taken_audio s came)
    → TakesAudioDatagram after plays bytes s came
take-some after plays s came bytes h e takes =
    let r = carried_audio s bytes h in
    let some = received-some s bytes h e in
    let Stands : List AudioShard → Type 0 = λ rs. IsAudioStanding after s rs in
    let Plays_ : List PlayedUnit → Type 0 = λ units. PlaysUnits after plays units in
    (subst Plays_ (sym (newly-by s bytes came (Some r) some)) takes.0, subst Stands (sym (taken-by s bytes came (Some r) some)) takes.1)
