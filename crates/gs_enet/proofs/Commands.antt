-- What a side does with each command.
use Rattle.std.specs.Prelude.{is_some}
use Rattle.std.proofs.lemmas.List.{length-append}
use Rattle.gs_enet_wire.specs.declared.datagram.Datagram.{Datagram}
use Rattle.gs_enet.specs.declared.peer.Peer.{Peer}
use Rattle.std.proofs.Common.{◌≡◌, ◌≤◌, ◌+◌, ◌++◌, [], ◌∷◌, length, arith, ◌⊎◌, inl, inr, ℕ, Bool, true, List, Option, Some, None, refl, sym, ap, subst, ◌∙◌}
use Rattle.gs_enet_wire.specs.declared.command.Command.{Command}
use Rattle.gs_enet_wire.specs.declared.command.Command.TheVariants as command
use Rattle.gs_enet_wire.specs.Grammar.{command_head, after_first, fields_bytes, header, AreCommands, SpellsDatagram}
use Rattle.gs_enet.specs.declared.answer.Answer.{Answer}
use Rattle.gs_enet.specs.Record.{PeerRecord}
use Rattle.gs_enet.specs.Receive.{command_received, owed_answer, other_came, disconnect_came, verify_came, message_came, all_received, datagram_taken}
use Rattle.gs_enet.specs.Standing.{IsPeerOf}
use Rattle.gs_enet.specs.Outcomes.{PeerTakes}
use Rattle.gs_enet.specs.Rooms.{message_bytes, HasRooms, Grows}

pub command_received-verify : (a : Answer) (cmd : Command) (r : PeerRecord) (channel number : ℕ) (asks : Bool)
    (peer incoming outgoing mtu window most ib ob ti up down connect_id : ℕ)
    → cmd ≡ command.VerifyConnect channel number asks peer incoming outgoing mtu window most ib ob ti up down connect_id
    → a ≡ owed_answer a.sent (command_head cmd).channel (command_head cmd).number
    → command_received a.sent cmd r ≡ verify_came peer connect_id a r
unfolding command_received
command_received-verify a cmd r channel number asks peer incoming outgoing mtu window most ib ob ti up down connect_id is fit =
    ap (λ (x : Command). command_received a.sent x r) is ∙ ap (λ (x : Answer). verify_came peer connect_id x r)
    (sym (fit ∙ ap (λ (x : Command). owed_answer a.sent (command_head x).channel (command_head x).number) is))

pub command_received-disconnect : (a : Answer) (cmd : Command) (r : PeerRecord) (channel number : ℕ) (asks : Bool) (extra : ℕ)
    → cmd ≡ command.Disconnect channel number asks extra → a ≡ owed_answer a.sent (command_head cmd).channel (command_head cmd).number
    → command_received a.sent cmd r ≡ disconnect_came (record a { to_disconnect = true }) r
unfolding command_received
command_received-disconnect a cmd r channel number asks extra is fit =
    ap (λ (x : Command). command_received a.sent x r) is
    ∙ ap (λ (x : Answer). disconnect_came (record x { to_disconnect = true }) r)
    (sym (fit ∙ ap (λ (x : Command). owed_answer a.sent (command_head x).channel (command_head x).number) is))

pub command_received-asking : (a : Answer) (cmd : Command) (r : PeerRecord) (asks : Bool)
    → ((x : ℕ) × (y : ℕ) × (cmd ≡ command.Ping x y asks))
    ⊎ (((x : ℕ) × (y : ℕ) × (z : ℕ) × (w : ℕ) × (cmd ≡ command.Bandwidth x y asks z w))
    ⊎ ((x : ℕ) × (y : ℕ) × (z : ℕ) × (w : ℕ) × (v : ℕ) × (cmd ≡ command.Throttle x y asks z w v)))
    → a ≡ owed_answer a.sent (command_head cmd).channel (command_head cmd).number → command_received a.sent cmd r ≡ other_came asks a r
unfolding command_received
command_received-asking a cmd r asks (inl (x, y, is)) fit =
    ap (λ (k : Command). command_received a.sent k r) is ∙ ap (λ (k : Answer). other_came asks k r)
    (sym (fit ∙ ap (λ (k : Command). owed_answer a.sent (command_head k).channel (command_head k).number) is))
command_received-asking a cmd r asks (inr (inl (x, y, z, w, is))) fit =
    ap (λ (k : Command). command_received a.sent k r) is ∙ ap (λ (k : Answer). other_came asks k r)
    (sym (fit ∙ ap (λ (k : Command). owed_answer a.sent (command_head k).channel (command_head k).number) is))
command_received-asking a cmd r asks (inr (inr (x, y, z, w, v, is))) fit =
    ap (λ (k : Command). command_received a.sent k r) is ∙ ap (λ (k : Answer). other_came asks k r)
    (sym (fit ∙ ap (λ (k : Command). owed_answer a.sent (command_head k).channel (command_head k).number) is))

pub command_received-message : (sent : ℕ) (cmd : Command) (r : PeerRecord) (bytes : List ℕ) → message_bytes cmd ≡ Some bytes
    → command_received sent cmd r
    ≡ message_came (command_head cmd).channel (command_head cmd).number bytes (owed_answer sent (command_head cmd).channel (command_head cmd).number) r
unfolding command_received
command_received-message sent (command.Reliable channel number asks own) r bytes e =
    ap (λ (b : List ℕ). message_came channel number b (owed_answer sent channel number) r) (let same : own ≡ bytes = cc in same)
command_received-message sent (command.Acknowledge channel number asks named named_sent) r bytes e = absurd cc
command_received-message sent (command.Connect k) r bytes e = absurd cc
command_received-message sent (command.VerifyConnect channel number asks peer incoming outgoing mtu window most ib ob ti up down connect_id) r bytes e =
    absurd cc
command_received-message sent (command.Disconnect channel number asks extra) r bytes e = absurd cc
command_received-message sent (command.Ping channel number asks) r bytes e = absurd cc
command_received-message sent (command.Unreliable channel number asks unreliable own) r bytes e = absurd cc
command_received-message sent (command.Fragment channel number asks start count fragment total offset own) r bytes e = absurd cc
command_received-message sent (command.Unsequenced channel number asks group own) r bytes e = absurd cc
command_received-message sent (command.Bandwidth channel number asks incoming outgoing) r bytes e = absurd cc
command_received-message sent (command.Throttle channel number asks interval up down) r bytes e = absurd cc
command_received-message sent (command.UnreliableFragment channel number asks start count fragment total offset own) r bytes e = absurd cc

pub command_received-ignored : (sent : ℕ) (cmd : Command) (r : PeerRecord) → message_bytes cmd ≡ None
    → ((channel number : ℕ) (asks : Bool) (named named_sent : ℕ) → cmd ≡ command.Acknowledge channel number asks named named_sent → ⊥)
    → ((channel number : ℕ) (asks : Bool) (peer incoming outgoing mtu window most ib ob ti up down connect_id : ℕ)
    → cmd ≡ command.VerifyConnect channel number asks peer incoming outgoing mtu window most ib ob ti up down connect_id → ⊥)
    → ((channel number : ℕ) (asks : Bool) (extra : ℕ) → cmd ≡ command.Disconnect channel number asks extra → ⊥)
    → ((channel number : ℕ) (asks : Bool) → cmd ≡ command.Ping channel number asks → ⊥)
    → ((channel number : ℕ) (asks : Bool) (incoming outgoing : ℕ) → cmd ≡ command.Bandwidth channel number asks incoming outgoing → ⊥)
    → ((channel number : ℕ) (asks : Bool) (interval up down : ℕ) → cmd ≡ command.Throttle channel number asks interval up down → ⊥)
    → command_received sent cmd r ≡ r
unfolding command_received
command_received-ignored sent (command.Reliable channel number asks own) r e na nv nd np nb nt = absurd cc
command_received-ignored sent (command.Acknowledge channel number asks named named_sent) r e na nv nd np nb nt =
    absurd (na channel number asks named named_sent refl)
command_received-ignored sent (command.Connect k) r e na nv nd np nb nt = refl
command_received-ignored sent
    (command.VerifyConnect channel number asks peer incoming outgoing mtu window most ib ob ti up down connect_id) r e na nv nd np nb nt =
    absurd (nv channel number asks peer incoming outgoing mtu window most ib ob ti up down connect_id refl)
command_received-ignored sent (command.Disconnect channel number asks extra) r e na nv nd np nb nt = absurd (nd channel number asks extra refl)
command_received-ignored sent (command.Ping channel number asks) r e na nv nd np nb nt = absurd (np channel number asks refl)
command_received-ignored sent (command.Unreliable channel number asks unreliable own) r e na nv nd np nb nt = refl
command_received-ignored sent (command.Fragment channel number asks start count fragment total offset own) r e na nv nd np nb nt = refl
command_received-ignored sent (command.Unsequenced channel number asks group own) r e na nv nd np nb nt = refl
command_received-ignored sent (command.Bandwidth channel number asks incoming outgoing) r e na nv nd np nb nt =
    absurd (nb channel number asks incoming outgoing refl)
command_received-ignored sent (command.Throttle channel number asks interval up down) r e na nv nd np nb nt =
    absurd (nt channel number asks interval up down refl)
command_received-ignored sent (command.UnreliableFragment channel number asks start count fragment total offset own) r e na nv nd np nb nt = refl

-- a datagram has fewer commands than bytes
commands_few : (timed : Bool) (bytes : List ℕ) (cs : List Command) → AreCommands timed bytes cs → length cs ≤ length bytes
commands_few timed bytes [] h = omega arith
commands_few timed bytes (c ∷ cs) (front, rest, parts, is, more) =
    let later : length cs ≤ length rest = commands_few timed rest cs more in
    let size : length bytes ≡ length front + length rest = ap length parts ∙ length-append front rest in
    omega (arith, later, size, ap length is.spelled)

pub few_commands : (bytes : List ℕ) (d : Datagram) → SpellsDatagram bytes d → length d.commands ≤ 4096
few_commands bytes d s =
    let few = commands_few (is_some d.sent) s.body d.commands s.commands in
    let size : length bytes ≡ length (fields_bytes (header d)) + length s.body = ap length s.spelled ∙ length-append (fields_bytes (header d)) s.body in
    let short : length bytes ≤ 4096 = s.short in
    omega (arith, few, size, short)

-- ---- room

pub rooms_after : (n : ℕ) (p q : Peer) → HasRooms n p → Grows 0 0 p q → HasRooms n q
rooms_after n p q h g =
    let a = h.waiting in let b = g.waiting in let c = g.waiting_room in let d = h.pending in let e = g.pending in let f = g.pending_room in
    record { waiting = omega (arith, a, b, c); pending = omega (arith, d, e, f) }

pub rooms_less : (n m : ℕ) (p q : Peer) → m ≡ n + 1 → HasRooms m p → Grows 1 1 p q → HasRooms n q
rooms_less n m p q one h g =
    let a = h.waiting in let b = g.waiting in let c = g.waiting_room in let d = h.pending in let e = g.pending in let f = g.pending_room in
    record { waiting = omega (arith, one, a, b, c); pending = omega (arith, one, d, e, f) }

pub length_front : (xs : List Command) (x : Command) (ys : List Command) → xs ≡ x ∷ ys → length xs ≡ length ys + 1
length_front xs x ys e = omega (arith, ap length e)

pub all_done : (sent : ℕ) (cs : List Command) (r : PeerRecord) → length cs ≡ 0 → all_received sent cs r ≡ r
all_done sent [] r e = refl
all_done sent (c ∷ cs) r e = absurd (omega (arith, e))

-- ---- what is taken between two moments that change no record

pub takes_through : (bytes : List ℕ) (now : ℕ) (old lent taken_by new : Peer) → ((r : PeerRecord) → IsPeerOf old r → IsPeerOf lent r)
    → ((r : PeerRecord) → IsPeerOf taken_by r → IsPeerOf new r) → PeerTakes bytes now lent taken_by → PeerTakes bytes now old new
takes_through bytes now old lent taken_by new first last t = record {
  datagram = t.datagram;
  spelled = t.spelled;
  stands = λ r s. last (datagram_taken t.datagram now r) (t.stands r (first r s));
}
