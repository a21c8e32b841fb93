-- Which bytes have a fault at which place.
use Rattle.std.proofs.Common.{cond, ltb, eqb, le-leb, ◌≡◌, ℕ, ◌/◌, ◌%◌, ◌<◌, ◌≤◌, Bool, true, false, List, ◌++◌, length, drop, refl, sym, ap, subst, arith}
use Rattle.std.specs.Prelude.{is_some, ◌||◌}
use Rattle.std.proofs.lemmas.Bool.{lt-ltb, le-ltb, ne_eqb, or_right}
use Rattle.gs_bytes.specs.Field.{big_from}
use Rattle.gs_enet_wire.specs.declared.datagram.Datagram.{Datagram}
use Rattle.gs_enet_wire.specs.Grammar.{fields_bytes, header, HasHeader, most_on_link, is_compressed, is_timed, datagram_header_length, StopsAt, IsFaultAt}
use Rattle.gs_enet_wire.proofs.Datagrams.{headed}

pub fault_compressed : (bytes : List ℕ) → length bytes ≤ most_on_link → big_from 0 2 bytes / 16384 % 2 ≡ 1 → IsFaultAt bytes 0
fault_compressed bytes short bit =
    let first : ltb most_on_link (length bytes) ≡ false = le-ltb _ _ short in
    let packed : is_compressed bytes ≡ true = rw bit refl in
    let second : (ltb (length bytes) 2 || is_compressed bytes) ≡ true = rw packed (or_right (ltb (length bytes) 2) true refl) in
    rw (first, second) refl

pub fault_time : (bytes : List ℕ) → length bytes ≤ most_on_link → 2 ≤ length bytes → length bytes < 4 → big_from 0 2 bytes / 16384 % 2 ≡ 0
    → 32768 ≤ big_from 0 2 bytes → IsFaultAt bytes 2
fault_time bytes short enough cut bit timed =
    let first : ltb most_on_link (length bytes) ≡ false = le-ltb _ _ short in
    let one : ltb (length bytes) 2 ≡ false = le-ltb _ _ enough in
    let plain : is_compressed bytes ≡ false = rw bit refl in
    let second : (ltb (length bytes) 2 || is_compressed bytes) ≡ false = rw (one, plain) refl in
    let has_time : is_timed bytes ≡ true = le-leb _ _ timed in
    let len : datagram_header_length bytes ≡ 4 = ap (λ (b : Bool). cond b 4 2) has_time in
    let third : ltb (length bytes) (datagram_header_length bytes) ≡ true = rw len (lt-ltb _ _ cut) in
    rw (first, second, third) refl

-- a whole header, and commands up to the place
pub fault_stops : (bytes body : List ℕ) (d : Datagram) (place : ℕ) → length bytes ≤ most_on_link → HasHeader d → bytes ≡ fields_bytes (header d) ++ body
    → 0 < length body
    → StopsAt (is_some d.sent) (datagram_header_length bytes) body place → IsFaultAt bytes place
fault_stops bytes body d place short has_header spelled some stops =
    let h = headed bytes body d has_header spelled in
    let first : ltb most_on_link (length bytes) ≡ false = le-ltb _ _ short in
    let second : (ltb (length bytes) 2 || is_compressed bytes) ≡ false = h.whole in
    let third : ltb (length bytes) (datagram_header_length bytes) ≡ false = h.time in
    let fourth : eqb (length bytes) (datagram_header_length bytes) ≡ false = ne_eqb _ _ (omega arith) in
    let timed : StopsAt (is_timed bytes) (datagram_header_length bytes) body place =
    subst (λ (b : Bool). StopsAt b (datagram_header_length bytes) body place) (sym h.timed) stops in
    let stop : StopsAt (is_timed bytes) (datagram_header_length bytes) (drop (datagram_header_length bytes) bytes) place =
    subst (λ (l : List ℕ). StopsAt (is_timed bytes) (datagram_header_length bytes) l place) (sym h.body_is) timed in
    rw (first, second, third, fourth) stop
