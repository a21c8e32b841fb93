-- What every deed keeps of a part, and that its connection's calls keep it.
use Rattle.std.proofs.Common.{◌≡◌, ◌≤◌, ◌+◌, ℕ, zero, suc, Bool, true, false, cond, ◌&&◌, List, [], ◌∷◌, ◌++◌, length, map, refl, sym, ap, subst, ◌∙◌, arith}
use Rattle.std.specs.Prelude.{◌==◌, nat_lt}
use Rattle.std.proofs.lemmas.Bool.{eqb-true, eqb-false, false≢true, and_from}
use Rattle.std.proofs.lemmas.List.{append_assoc, append-nil, length-append, map-append}
use Rattle.gs_tape.specs.Tick.{Tick}
use Rattle.gs_refs.specs.declared.entry.Entry.{Entry}
use Rattle.gs_refs.specs.History.{frames, has_ended}
use Rattle.gs_frames.specs.Client.{ClientSettings, HasWindow, Arrival}
use Rattle.gs_frames.specs.Asks.{asks}
use Rattle.gs_stream.specs.HandedLaws.{IsHostHistory}
use Rattle.gs_stream.specs.Paired.{AreOfHistory, invalid_ranges}
use Rattle.gs_enet.specs.declared.event.PeerEvent.{PeerEvent}
use Rattle.gs_enet.specs.Record.{PeerRecord, GivenMessage, channels, given_on, given_count, heard, messages_on, at_moment}
use Rattle.gs_enet.specs.Steps.{can_send, with_message}
use Rattle.gs_enet.specs.Write.{going_out}
use Rattle.gs_enet.specs.World.{Side, Send, Write, acted, came, sent_if}
use Rattle.gs_enet.proofs.Lists.{Each}
use Rattle.gs_enet.proofs.Kept.{giving, given_on-own, given_on-apart}
use Rattle.gs_enet.proofs.Acts.{act_both}
use Rattle.gs_run.specs.Session.{Part}
use Rattle.gs_client_core.specs.Owed.{request_channel, owed_message}
use Rattle.gs_client_core.specs.declared.asker.Owed.{Owed}
use Rattle.gs_run.specs.Connection.{both_written_out, with_owed, settled_part}
use Rattle.gs_enet.specs.Sides.{writing_within, written_out, all_told}
use Rattle.gs_run.specs.RunLaws.{AreOfSound}
use Rattle.gs_run.proofs.Calm.{IsCalm, calm_same}
use Rattle.gs_run.proofs.TwoSides.{AreBoth, swapped, out_both, told_both}
use Rattle.gs_run.proofs.Uses.{KeepsAll, calm_kept, kept_write}
use Rattle.gs_run.proofs.Heard.{ranges_told, IsFitting}
use Rattle.gs_run.proofs.Asking.{IsOther, lost_of}

pub record IsKept (ticks : List Tick) (settings : ClientSettings) (h : List Entry) (came : List Arrival) (sound : List (List ℕ))
    (client host : Side) (owed : List Owed) : Type 0 where
  -- the streams
  pub window : HasWindow settings
  pub history : IsHostHistory settings.stream ticks h
  pub goes_on : has_ended h ≡ false
  pub sent : AreOfHistory settings ticks h came
  pub sound_sent : AreOfSound settings.stream ticks h sound
  -- the connection
  pub both : AreBoth client host
  pub calm_client : IsCalm client.peer
  pub calm_host : IsCalm host.peer
  -- what was asked for was given on its channel or is owed, and all else that was given is of the user
  pub few : given_count client.peer request_channel + length owed ≤ 30000
  pub asked : List Owed
  pub on_channel : given_on request_channel client.peer.given ≡ map owed_message asked
  pub others : (c : ℕ) → (c ≡ 1 → ⊥) → Each IsOther (given_on c client.peer.given)
  pub lost : lost_of (asked ++ owed) ≡ asks settings came
  pub fitting : Each (IsFitting (frames h)) (asked ++ owed)
  -- what the host took as invalid it was told
  pub acted : invalid_ranges h ≡ ranges_told host.peer.told

abbrev pub IsKeptPart : List Tick → Part → Type 0
IsKeptPart ticks part = IsKept ticks part.settings part.history part.came part.sound part.client part.host part.owed

-- ---- a side moves, and its user's calls stay

pub client_moves : {ticks : List Tick} {settings : ClientSettings} {h : List Entry} {came : List Arrival} {sound : List (List ℕ)} {client host : Side}
    {owed : List Owed}
    → (moved : Side) → AreBoth moved host → IsCalm moved.peer → moved.peer.given ≡ client.peer.given
    → IsKept ticks settings h came sound client host owed → IsKept ticks settings h came sound moved host owed
client_moves {client = client} moved both calm same k = record {
  window = k.window;
  history = k.history;
  goes_on = k.goes_on;
  sent = k.sent;
  sound_sent = k.sound_sent;
  both = both;
  calm_client = calm;
  calm_host = k.calm_host;
  few = (let few = k.few in omega (arith, few, ap (λ (g : List GivenMessage). length (given_on request_channel g)) same));
  asked = k.asked;
  on_channel = ap (given_on request_channel) same ∙ k.on_channel;
  others = λ c apart. subst (λ (g : List GivenMessage). Each IsOther (given_on c g)) (sym same) (k.others c apart);
  lost = k.lost;
  fitting = k.fitting;
  acted = k.acted;
}

pub host_moves : {ticks : List Tick} {settings : ClientSettings} {h : List Entry} {came : List Arrival} {sound : List (List ℕ)} {client host : Side}
    {owed : List Owed}
    → (moved : Side) → AreBoth client moved → IsCalm moved.peer → moved.peer.told ≡ host.peer.told
    → IsKept ticks settings h came sound client host owed → IsKept ticks settings h came sound client moved owed
host_moves moved both calm same k = record {
  window = k.window;
  history = k.history;
  goes_on = k.goes_on;
  sent = k.sent;
  sound_sent = k.sound_sent;
  both = both;
  calm_client = k.calm_client;
  calm_host = calm;
  few = k.few;
  asked = k.asked;
  on_channel = k.on_channel;
  others = k.others;
  lost = k.lost;
  fitting = k.fitting;
  acted = k.acted ∙ ap ranges_told (sym same);
}

-- ---- writing out

kept_trans : (r s t : PeerRecord) → KeepsAll r s → KeepsAll s t → KeepsAll r t
kept_trans r s t a b = record { given = b.given ∙ a.given; told = b.told ∙ a.told; messages = λ c. b.messages c ∙ a.messages c }

kept_within : (n now : ℕ) (s : Side) → KeepsAll s.peer (writing_within n now s).peer
kept_within zero now s = record { given = refl; told = refl; messages = λ c. refl }
kept_within (suc n) now s =
    kept_trans s.peer (acted (Write now) s).peer (writing_within n now (acted (Write now) s)).peer
    (kept_write now s.peer) (kept_within n now (acted (Write now) s))

pub kept_out : (now : ℕ) (s : Side) → KeepsAll s.peer (written_out now s).peer
unfolding written_out
kept_out now s = kept_within (suc (length (going_out (at_moment now s.peer)))) now s

pub written_keeps : (ticks : List Tick) (now : ℕ) (part : Part) → IsKeptPart ticks part → IsKeptPart ticks (both_written_out now part)
written_keeps ticks now part k =
    let client = written_out now part.client in
    let kc = kept_out now part.client in
    let kh = kept_out now part.host in
    let first = client_moves client (out_both now part.client part.host k.both) (calm_kept part.client.peer client.peer kc k.calm_client) kc.given k in
    let host = written_out now part.host in
    let both = swapped host client (out_both now part.host client (swapped client part.host first.both)) in
    host_moves host both (calm_kept part.host.peer host.peer kh k.calm_host) kh.told first

-- ---- telling

pub calm_all_told : (r : PeerRecord) → IsCalm r → IsCalm (all_told r)
calm_all_told r calm = calm_same r (all_told r) refl (λ c. ap (messages_on c) (append-nil (heard r))) calm

pub client_told_keeps : (ticks : List Tick) (part : Part) → IsKeptPart ticks part
    → IsKeptPart ticks (record part { client = record (part.client) { peer = all_told part.client.peer } })
client_told_keeps ticks part k =
    client_moves (record (part.client) { peer = all_told part.client.peer }) (told_both part.client part.host k.both)
    (calm_all_told part.client.peer k.calm_client) refl k

-- ---- sending

-- a message that may be given is given
pub given_more : (c : ℕ) (bytes : List ℕ) (s : Side) → nat_lt c channels ≡ true → can_send s.peer c ≡ true
    → (acted (Send c bytes) s).peer.given ≡ s.peer.given ++ giving c bytes
unfolding with_message
given_more c bytes s below can = by (nat_lt c channels && can_send s.peer c) (and_from (nat_lt c channels) (can_send s.peer c) below can) where
  by : (b : Bool) → b ≡ true → (sent_if b c bytes s.peer).given ≡ s.peer.given ++ giving c bytes
  by true e = refl
  by false e = absurd (false≢true e)

pub heard_same : (c : ℕ) (bytes : List ℕ) (s : Side) → heard (acted (Send c bytes) s).peer ≡ heard s.peer
unfolding with_message
heard_same c bytes s = by (nat_lt c channels && can_send s.peer c) where
  by : (b : Bool) → heard (sent_if b c bytes s.peer) ≡ heard s.peer
  by true = refl
  by false = refl

pub count_more : (c : ℕ) (bytes : List ℕ) (gs : List GivenMessage) → length (given_on c (gs ++ giving c bytes)) ≡ length (given_on c gs) + 1
count_more c bytes gs = ap (λ (l : List (List ℕ)). length l) (given_on-own c bytes gs) ∙ length-append (given_on c gs) (bytes ∷ [])

pub calm_sent : (c : ℕ) (bytes : List ℕ) (r s : PeerRecord) → s.given ≡ r.given ++ giving c bytes → heard s ≡ heard r
    → given_count r c + 1 ≤ 30000 → IsCalm r → IsCalm s
calm_sent c bytes r s more same room calm = record {
  heard_few = λ d. let few = calm.heard_few d in omega (arith, few, ap (λ (l : List PeerEvent). length (messages_on d l)) same);
  given_few = λ d. subst (λ (g : List GivenMessage). length (given_on d g) ≤ 30000) (sym more) (by d (c == d) refl);
} where
  by : (d : ℕ) (b : Bool) → (c == d) ≡ b → length (given_on d (r.given ++ giving c bytes)) ≤ 30000
  by d true e =
      subst (λ (x : ℕ). length (given_on x (r.given ++ giving c bytes)) ≤ 30000) (eqb-true c d e) (omega (arith, count_more c bytes r.given, room))
  by d false e =
      let few = calm.given_few d in
      omega (arith, few, ap (λ (l : List (List ℕ)). length l) (given_on-apart d c bytes r.given (eqb-false c d e)))

-- the first that is owed is given
pub gives_owed : (ticks : List Tick) (part : Part) (first : Owed) (rest : List Owed) → can_send part.client.peer request_channel ≡ true
    → IsKept ticks part.settings part.history part.came part.sound part.client part.host (first ∷ rest)
    → IsKept ticks part.settings part.history part.came part.sound (acted (Send request_channel (owed_message first)) part.client) part.host rest
gives_owed ticks part first rest can k =
    let bytes = owed_message first in
    let moved = acted (Send request_channel bytes) part.client in
    let old = part.client.peer in
    let more : moved.peer.given ≡ old.given ++ giving request_channel bytes = given_more request_channel bytes part.client refl can in
    let few = k.few in
    let same : (k.asked ++ first ∷ []) ++ rest ≡ k.asked ++ first ∷ rest = append_assoc k.asked (first ∷ []) rest in
    record {
      window = k.window;
      history = k.history;
      goes_on = k.goes_on;
      sent = k.sent;
      sound_sent = k.sound_sent;
      both = act_both (Send request_channel bytes) part.client part.host k.both;
      calm_client = calm_sent request_channel bytes old moved.peer more (heard_same request_channel bytes part.client) (omega (arith, few)) k.calm_client;
      calm_host = k.calm_host;
      few = omega (arith, few, ap (λ (g : List GivenMessage). length (given_on request_channel g)) more, count_more request_channel bytes old.given);
      asked = k.asked ++ first ∷ [];
      on_channel = ap (given_on request_channel) more ∙ given_on-own request_channel bytes old.given
          ∙ ap (λ (l : List (List ℕ)). l ++ bytes ∷ []) k.on_channel ∙ sym (map-append owed_message k.asked (first ∷ []));
      others = λ c apart. subst (λ (l : List (List ℕ)). Each IsOther l)
          (sym (ap (given_on c) more ∙ given_on-apart c request_channel bytes old.given (λ e. apart (sym e)))) (k.others c apart);
      lost = ap lost_of same ∙ k.lost;
      fitting = subst (Each (IsFitting (frames part.history))) (sym same) k.fitting;
      acted = k.acted;
    }

pub with_owed_keeps : (ticks : List Tick) (os : List Owed) (part : Part)
    → IsKept ticks part.settings part.history part.came part.sound part.client part.host os → IsKeptPart ticks (with_owed os part)
with_owed_keeps ticks [] part k = k
with_owed_keeps ticks (first ∷ rest) part k =
    by (can_send part.client.peer request_channel) refl
    (λ can. with_owed_keeps ticks rest (record part { client = acted (Send request_channel (owed_message first)) part.client })
    (gives_owed ticks part first rest can k))
  where
    by : (b : Bool) → can_send part.client.peer request_channel ≡ b
        → (can_send part.client.peer request_channel ≡ true
        → IsKeptPart ticks (with_owed rest (record part { client = acted (Send request_channel (owed_message first)) part.client })))
        → IsKeptPart ticks (cond b (with_owed rest (record part { client = acted (Send request_channel (owed_message first)) part.client }))
        (record part { owed = first ∷ rest }))
    by true can given = given can
    by false can given = k

pub settled_keeps : (ticks : List Tick) (now : ℕ) (part : Part) → IsKeptPart ticks part → IsKeptPart ticks (settled_part now part)
unfolding settled_part
settled_keeps ticks now part k = written_keeps ticks now (with_owed part.owed part) (with_owed_keeps ticks part.owed part k)
