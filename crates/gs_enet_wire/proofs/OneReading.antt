-- An answer that is right is the only right one.
use Rattle.std.proofs.Common.{◌≡◌, ℕ, ◌-◌, ◌<◌, ◌≤◌, Bool, List, [], length, Result, Ok, Err, ◌⊎◌, inl, inr, refl, ap, subst, arith}
use Rattle.std.specs.Prelude.{IfOk, IfErr, is_some}
use Rattle.gs_enet_wire.specs.declared.command.Command.{Command}
use Rattle.gs_enet_wire.specs.declared.datagram.Datagram.{Datagram}
use Rattle.gs_enet_wire.specs.declared.error.WireError.{WireError}
use Rattle.gs_enet_wire.specs.declared.error.WireError.TheVariants.{BadDatagram, OutOfMemory}
use Rattle.gs_enet_wire.specs.declared.reading.DatagramHeader.{DatagramHeader}
use Rattle.gs_enet_wire.specs.Grammar.{most_on_link, datagram_header_length, with_header, SpellsDatagram, StopsAt, IsFault, IsFaultAt}
use Rattle.gs_enet_wire.specs.ReadingHeader.{TakesHeader, StopsWith}
use Rattle.gs_enet_wire.proofs.Datagrams.{headed, not_both, one_value, one_place}
use Rattle.gs_enet_wire.proofs.Faults.{fault_stops}

pub found_only : (bytes : List ℕ) (r : Result Datagram WireError) → IfOk r (SpellsDatagram bytes) → IfErr r (IsFault bytes)
    → (d : Datagram) → SpellsDatagram bytes d → (r ≡ Ok d) ⊎ (r ≡ Err OutOfMemory)
found_only bytes (Ok e) found fault d s = inl (ap (λ (x : Datagram). Ok x) (one_value bytes e d found s))
found_only bytes (Err (BadDatagram place)) found fault d s = absurd (not_both bytes d place s fault)
found_only bytes (Err OutOfMemory) found fault d s = inr refl

pub fault_only : (bytes : List ℕ) (r : Result Datagram WireError) → IfOk r (SpellsDatagram bytes) → IfErr r (IsFault bytes)
    → (place : ℕ) → IsFaultAt bytes place → (r ≡ Err (BadDatagram place)) ⊎ (r ≡ Err OutOfMemory)
fault_only bytes (Ok e) found fault place f = absurd (not_both bytes e place found f)
fault_only bytes (Err (BadDatagram other)) found fault place f = inl (ap (λ (n : ℕ). Err (BadDatagram n)) (one_place bytes other place fault f))
fault_only bytes (Err OutOfMemory) found fault place f = inr refl

-- the same of what is read into a vector
pub place_only : (bytes : List ℕ) (cs : List Command) (r : Result DatagramHeader WireError) → IfOk r (λ h. SpellsDatagram bytes (with_header h cs))
    → IfErr r (IsFault bytes) → (place : ℕ) → IsFaultAt bytes place → (r ≡ Err (BadDatagram place)) ⊎ (r ≡ Err OutOfMemory)
place_only bytes cs (Ok h) found fault place f = absurd (not_both bytes (with_header h cs) place found f)
place_only bytes cs (Err (BadDatagram other)) found fault place f = inl (ap (λ (n : ℕ). Err (BadDatagram n)) (one_place bytes other place fault f))
place_only bytes cs (Err OutOfMemory) found fault place f = inr refl

-- why the commands were refused is why the bytes are
pub stopped : (bytes body : List ℕ) (h : DatagramHeader) (t : Bool) (start : ℕ) (e : WireError) → length bytes ≤ most_on_link → TakesHeader h bytes body
    → 0 < length body
    → t ≡ is_some h.sent → start ≡ length bytes - length body → StopsWith t start body e → IsFault bytes e
stopped bytes body h t start (BadDatagram place) short taken some timed begins stops =
    let known = headed bytes body (with_header h []) taken.has_header taken.parts in
    let at_header : start ≡ datagram_header_length bytes = omega (arith, known.len) in
    let one : StopsAt (is_some h.sent) start body place = subst (λ (b : Bool). StopsAt b start body place) timed stops in
    let two : StopsAt (is_some h.sent) (datagram_header_length bytes) body place = subst (λ (n : ℕ). StopsAt (is_some h.sent) n body place) at_header one in
    fault_stops bytes body (with_header h []) place short taken.has_header taken.parts some two
stopped bytes body h t start OutOfMemory short taken some timed begins stops = tt
