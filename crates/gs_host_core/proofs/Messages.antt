-- What a message asks for is what is computed of its bytes.
use Rattle.std.specs.Prelude.{◌==◌, nat_le}
use Rattle.std.proofs.Common.{◌≡◌, ◌≢◌, ◌≤◌, ◌<◌, ◌⊎◌, inl, inr, ℕ, Bool, true, false, List, drop, length, refl, sym, ap, ◌∙◌}
use Rattle.std.proofs.lemmas.Bool.{cases_Bool, cases_eq, cond-true, cond-false, eqb-true, eq-eqb, ne_eqb, leb-true, leb-false, le-leb, lt-ltb, le-ltb}
use Rattle.std.specs.Int.{w64, cast_signed}
use Rattle.gs_bytes.specs.Field.{little_from}
use Rattle.gs_control.specs.declared.message.Message.{Message}
use Rattle.gs_control.specs.declared.message.Message.TheVariants as message
use Rattle.gs_control.specs.Message.{IsMessage, message_kind, kind_in}
use Rattle.gs_host_core.specs.declared.act.Act.{Act}
use Rattle.gs_host_core.specs.declared.act.Act.TheVariants.{Invalidate, AskIdr, Input, Nothing}
use Rattle.gs_host_core.specs.Acts.{IsActOf, act_for}
use Rattle.gs_host_core.specs.ActOf.{input_act, range_act, idr_act, act_by, act_of}
use Rattle.gs_host_core.proofs.Packets.{Packet, of_packet, packet_or_nothing}

kind_is : (bytes : List ℕ) (k : ℕ) → 2 ≤ length bytes → little_from 0 2 bytes ≡ k → kind_in bytes ≡ k
kind_is bytes k whole is = cond-false _ 0 (little_from 0 2 bytes) (le-ltb (length bytes) 2 whole) ∙ is

other_kind : (k : ℕ) (p : List ℕ) → k ≢ 0x0301 → k ≢ 0x0302 → k ≢ 0x0206 → act_by k p ≡ Nothing
other_kind k p a b c =
    cond-false (k == 0x0301) (range_act p) _ (ne_eqb k 0x0301 a)
    ∙ cond-false (k == 0x0302) (idr_act p) _ (ne_eqb k 0x0302 b)
    ∙ cond-false (k == 0x0206) (input_act p) Nothing (ne_eqb k 0x0206 c)

of_message : (bytes : List ℕ) (m : Message) → IsMessage bytes m → act_for m ≡ act_of bytes
unfolding act_of
of_message bytes m h = sym (ap (λ k. act_by k (drop 2 bytes)) (kind_is bytes (message_kind m) h.whole h.kind) ∙ done m h) where
  done : (n : Message) → IsMessage bytes n → act_by (message_kind n) (drop 2 bytes) ≡ act_for n
  done message.StartA i = refl
  done message.StartB i = refl
  done (message.Invalidate first last) i =
      let is = i.payload in
      let p = drop 2 bytes in
      cond-true (length p == 24) (Invalidate (cast_signed w64 (little_from 0 8 p)) (cast_signed w64 (little_from 8 8 p))) Nothing
      (eq-eqb (length p) 24 is.0)
      ∙ ap (λ z. Invalidate z (cast_signed w64 (little_from 8 8 p))) is.1 ∙ ap (λ z. Invalidate first z) is.2
  done message.LossStats i = refl
  done (message.Input event) i = of_packet (drop 2 bytes) event i.payload
  done message.Rumble i = refl
  done (message.Termination code) i = refl
  done message.Ping i = refl
  done message.IdrRequest i = cond-true (nat_le (length (drop 2 bytes)) 64) AskIdr Nothing (le-leb (length (drop 2 bytes)) 64 i.payload)
  done (message.Other kind) i =
      other_kind kind (drop 2 bytes) i.payload.1.1.0 i.payload.1.1.1.1.1.1.1.1.0 i.payload.1.1.1.1.0

abbrev Readable : List ℕ → Type 0
Readable bytes = (m : Message) × IsMessage bytes m

-- nothing is done about bytes that are no message
message_or_nothing : (bytes : List ℕ) → (act_of bytes ≡ Nothing) ⊎ Readable bytes
unfolding act_of
message_or_nothing bytes = elim (cases_Bool (nat_le 2 (length bytes))) [
  | inr short ↦ inl (ap (λ k. act_by k (drop 2 bytes)) (none (leb-false 2 (length bytes) short)))
  | inl whole ↦ by (leb-true 2 (length bytes) whole) (cases_eq (little_from 0 2 bytes) 0x0301) (cases_eq (little_from 0 2 bytes) 0x0302)
      (cases_eq (little_from 0 2 bytes) 0x0206)
] where
  p : List ℕ
  p = drop 2 bytes

  none : length bytes < 2 → kind_in bytes ≡ 0
  none short = cond-true _ 0 (little_from 0 2 bytes) (lt-ltb (length bytes) 2 short)

  at_kind : (k : ℕ) → 2 ≤ length bytes → little_from 0 2 bytes ≡ k → act_by (kind_in bytes) (drop 2 bytes) ≡ act_by k (drop 2 bytes)
  at_kind k whole is = ap (λ n. act_by n (drop 2 bytes)) (kind_is bytes k whole is)

  range : 2 ≤ length bytes → little_from 0 2 bytes ≡ 0x0301 → (b : Bool) → (length (drop 2 bytes) == 24) ≡ b
      → (act_by (kind_in bytes) (drop 2 bytes) ≡ Nothing) ⊎ Readable bytes
  range whole is true e = inr (message.Invalidate _ _, record { whole = whole; kind = is; payload = (eqb-true (length (drop 2 bytes)) 24 e, refl, refl) })
  range whole is false e = inl (at_kind 0x0301 whole is ∙ cond-false (length (drop 2 bytes) == 24) _ Nothing e)

  idr : 2 ≤ length bytes → little_from 0 2 bytes ≡ 0x0302 → (b : Bool) → nat_le (length (drop 2 bytes)) 64 ≡ b
      → (act_by (kind_in bytes) (drop 2 bytes) ≡ Nothing) ⊎ Readable bytes
  idr whole is true e = inr (message.IdrRequest, record { whole = whole; kind = is; payload = leb-true (length (drop 2 bytes)) 64 e })
  idr whole is false e = inl (at_kind 0x0302 whole is ∙ cond-false (nat_le (length (drop 2 bytes)) 64) AskIdr Nothing e)

  input : 2 ≤ length bytes → little_from 0 2 bytes ≡ 0x0206 → (input_act (drop 2 bytes) ≡ Nothing) ⊎ Packet (drop 2 bytes)
      → (act_by (kind_in bytes) (drop 2 bytes) ≡ Nothing) ⊎ Readable bytes
  input whole is (inl none) = inl (at_kind 0x0206 whole is ∙ none)
  input whole is (inr found) = inr (message.Input found.0, record { whole = whole; kind = is; payload = found.1 })

  by : 2 ≤ length bytes → (little_from 0 2 bytes ≡ 0x0301) ⊎ (little_from 0 2 bytes ≢ 0x0301)
      → (little_from 0 2 bytes ≡ 0x0302) ⊎ (little_from 0 2 bytes ≢ 0x0302) → (little_from 0 2 bytes ≡ 0x0206) ⊎ (little_from 0 2 bytes ≢ 0x0206)
      → (act_by (kind_in bytes) (drop 2 bytes) ≡ Nothing) ⊎ Readable bytes
  by whole (inl a) b c = range whole a (length (drop 2 bytes) == 24) refl
  by whole (inr a) (inl b) c = idr whole b (nat_le (length (drop 2 bytes)) 64) refl
  by whole (inr a) (inr b) (inl c) = input whole c (packet_or_nothing (drop 2 bytes))
  by whole (inr a) (inr b) (inr c) =
      inl (at_kind (little_from 0 2 bytes) whole refl ∙ other_kind (little_from 0 2 bytes) (drop 2 bytes) a b c)

-- ---- the act of a message's bytes

-- what isn't Nothing is of a message
some_act : (bytes : List ℕ) (a : Act) → IsActOf bytes a → act_of bytes ≡ Nothing → (a ≡ Nothing → ⊥) → ⊥
some_act bytes a h none is = is (h.other (λ m i. is (h.read m i ∙ of_message bytes m i ∙ none)))

nothing_done : (bytes : List ℕ) (a : Act) → IsActOf bytes a → act_of bytes ≡ Nothing → a ≡ Nothing
nothing_done bytes Nothing h none = refl
nothing_done bytes (Invalidate first last) h none = absurd (some_act bytes (Invalidate first last) h none (λ e. cc e))
nothing_done bytes AskIdr h none = absurd (some_act bytes AskIdr h none (λ e. cc e))
nothing_done bytes (Input event) h none = absurd (some_act bytes (Input event) h none (λ e. cc e))

-- it is the one that is computed of them
pub same_act : (bytes : List ℕ) (a : Act) → IsActOf bytes a → a ≡ act_of bytes
same_act bytes a h = elim (message_or_nothing bytes) [
  | inl none ↦ nothing_done bytes a h none ∙ sym none
  | inr found ↦ h.read found.0 found.1 ∙ of_message bytes found.0 found.1
]
