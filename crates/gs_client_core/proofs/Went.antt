-- One thing that is owed: what its message is, and whether it went.
use Rattle.std.proofs.Common.{◌≡◌, ◌≤◌, ℕ, Bool, true, false, ◌&&◌, not, List, [], ◌∷◌, ◌++◌, length, take, drop, refl, sym, ap, ◌∙◌, arith, inr, subst, get_or}
use Rattle.std.specs.Prelude.{Ok, Err}
use Rattle.std.proofs.lemmas.Bool.{and_left}
use Rattle.gs_control.specs.declared.message.Message.{Message}
use Rattle.gs_control.specs.Message.{bytes_of}
use Rattle.gs_enet.specs.declared.peer.Peer.{Peer}
use Rattle.gs_enet.specs.declared.send_error.SendError.{SendError}
use Rattle.gs_enet.specs.declared.send_error.SendError.TheVariants.{NotOpen, WindowFull, OutOfMemory}
use Rattle.gs_enet.specs.Record.{PeerRecord}
use Rattle.gs_enet.specs.Steps.{is_open, is_full, can_send}
use Rattle.gs_enet.specs.Standing.{IsPeerOf}
use Rattle.gs_enet.specs.Outcomes.{Sends}
use Rattle.gs_client_core.specs.declared.asker.Owed.{Owed}
use Rattle.gs_client_core.specs.Owed.{request_channel, message_of, owed_message, all_asked, SendsOne, SendsFront}

front : (bytes rest : List ℕ) → take (length bytes) (bytes ++ rest) ≡ bytes
front [] rest = refl
front (byte ∷ bytes) rest = ap (λ (l : List ℕ). byte ∷ l) (front bytes rest)

-- the bytes that were written are those of its message
pub message_bytes : (owed : Owed) (message : Message) (old new : List ℕ) (n : ℕ) → message ≡ message_of owed → n ≡ length (bytes_of message)
    → new ≡ bytes_of message ++ drop n old → take n new ≡ owed_message owed
message_bytes owed message old new n is size written =
    ap (take n) written
    ∙ ap (λ (k : ℕ). take k (bytes_of message ++ drop n old)) size
    ∙ front (bytes_of message) (drop n old)
    ∙ ap bytes_of is

filled : (a b : Bool) → a ≡ true → b ≡ true → (a && not b) ≡ false
filled true true is full = refl
filled true false is full = cc
filled false b is full = cc

-- the side takes none
pub refused : (r : PeerRecord) (bytes : List ℕ) (e : SendError) (new : Peer) → (e ≡ OutOfMemory → ⊥) → Sends r request_channel bytes (Err e) new
    → (can_send r request_channel ≡ false) × IsPeerOf new r
refused r bytes NotOpen new other sends = (and_left (is_open r.state) (not (is_full r request_channel)) sends.0, sends.1)
refused r bytes WindowFull new other sends = (filled (is_open r.state) (is_full r request_channel) sends.0 sends.1, sends.2)
refused r bytes OutOfMemory new other sends = absurd (other refl)

-- there was no memory for it
pub unsent : (r : PeerRecord) (bytes : List ℕ) (e : SendError) (new : Peer) → e ≡ OutOfMemory → Sends r request_channel bytes (Err e) new
    → (can_send r request_channel ≡ true) × IsPeerOf new r
unsent r bytes OutOfMemory new is sends = sends
unsent r bytes NotOpen new is sends = cc
unsent r bytes WindowFull new is sends = cc

-- ---- the first of all

first-one : (owed : Owed) (old : List Owed) → 1 ≤ length old → owed ≡ get_or old 0 owed → take 1 old ≡ owed ∷ []
first-one owed [] some is = absurd (omega arith)
first-one owed (first ∷ rest) some is = ap (λ (x : Owed). x ∷ []) (sym is)

pub front-went : (r : PeerRecord) (owed : Owed) (old : List Owed) (peer : Peer) (went : Bool) → went ≡ true → 1 ≤ length old → owed ≡ get_or old 0 owed
    → SendsOne r (owed_message owed) (Ok went) peer → SendsFront r old (Ok went) peer
front-went r owed old peer false is some here sends = cc
front-went r owed old peer true is some here sends =
    (sends.0, subst (λ (l : List Owed). IsPeerOf peer (all_asked l r)) (sym (first-one owed old some here)) sends.1)

pub front-stays : (r : PeerRecord) (owed : Owed) (old : List Owed) (peer : Peer) (went : Bool) → went ≡ false
    → SendsOne r (owed_message owed) (Ok went) peer → SendsFront r old (Ok went) peer
front-stays r owed old peer true is sends = cc
front-stays r owed old peer false is sends = (inr sends.0, sends.1)
