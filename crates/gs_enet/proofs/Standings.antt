-- What a peer's parts say of the records that it stands for.
use Rattle.std.proofs.Common.{◌≡◌, ◌≢◌, ◌⊎◌, ◌<◌, ◌≤◌, ◌+◌, ◌-◌, ◌%◌, ◌^◌, ℕ, zero, suc, Bool, true, false, not, cond, List, [], ◌∷◌, ◌++◌, length, map, get_or}
use Rattle.std.proofs.Common.{set, Option, Some, None, refl, sym, ap, subst, ◌∙◌, arith, inl, inr}
use Rattle.std.specs.Prelude.{◌==◌, ◌&&◌, ◌||◌, nat_le, nat_lt, is_some, IsSome}
use Rattle.std.specs.List.{All, AllZip, list_any, find, filter}
use Rattle.std.proofs.lemmas.Bool.{cond-true, cond-false, false≢true, eq-eqb, ne_eqb, cases_eq, cases_Bool, and_from, or_from, or_left, or_right, and_left}
use Rattle.std.proofs.lemmas.Bool.{and_right, lt-leb, le-leb, lt-ltb}
use Rattle.std.proofs.lemmas.List.{append_assoc, append-nil, length-append, get_or-set_same, get_or-set_other, length-set}
use Rattle.std.proofs.lemmas.List.Elements.{All-head, All-tail, All-cons, All-nil, length_all_zip, filter-append}
use Rattle.std.proofs.lemmas.List.Folds.{list_any-append, find-append}
use Rattle.gs_enet.specs.declared.answer.Answer.{Answer}
use Rattle.gs_enet.specs.declared.held.Held.{Held}
use Rattle.gs_enet.specs.declared.channel.Channel.{Channel}
use Rattle.gs_enet.specs.declared.control.Control.{Control}
use Rattle.std.specs.Option.{option_to_list, option_map, option_or}
use Rattle.gs_enet.specs.declared.event.PeerEvent.{PeerEvent}
use Rattle.gs_enet.specs.declared.event.PeerEvent.TheVariants as event
use Rattle.gs_enet.specs.declared.state.PeerState.{PeerState}
use Rattle.gs_enet.specs.declared.state.PeerState.TheVariants as state
use Rattle.gs_enet.specs.Record.{PeerRecord, Unacknowledged, Content, Connect, VerifyConnect, Disconnect, Message, channels, control, last_number, given_on}
use Rattle.gs_enet.specs.Record.{messages_on, heard, heard_count, is_shut, shut, happened, owing, fresh}
use Rattle.gs_enet.specs.Receive.{leave_if, leaving, is_named, acknowledged, acknowledged_if, acknowledge_came, disconnect_if, disconnect_came, connected}
use Rattle.gs_enet.specs.Receive.{takes_messages, expected, distance, is_behind, message_if, taken_if, message_came, is_connect_content, is_connect, verify_if}
use Rattle.gs_enet.specs.Receive.{verified, verify_came}
use Rattle.gs_enet.specs.Steps.{next_number, is_full, is_open, with_message, close_if, closed, placed, first_event, next_event, telling, timed_if, timed_at}
use Rattle.gs_enet.specs.Steps.{name_of, had_last_wait, due_again}
use Rattle.gs_enet.specs.Window.{unacknowledged, in_window, front_is_held}
use Rattle.gs_enet.specs.Channels.{next_of, channel_held, all_held, is_channel_full, AreEmpty, GivesOne, SameHeld, MarksDue, DropsNamed}
use Rattle.gs_enet.specs.Controls.{content_of, unacknowledged_control, control_held, is_closing, is_accepting}
use Rattle.gs_enet.specs.Events.{IsQuiet}
use Rattle.gs_enet.specs.Standing.{HasCounts, IsPeerOf, held_by}
use Rattle.gs_enet.specs.declared.peer.Peer.{Peer}
use Rattle.gs_enet.proofs.Lists.{Each, each_weaker, each_append, each_find}
use Rattle.gs_enet.proofs.Kept.{IsNoMessage, messages_on-other, messages_on-message, messages_on-apart, giving, given_on-own, given_on-apart}
use Rattle.gs_enet.proofs.Flat.{before, behind, split_at, split_set, before-below, behind-from, placed_last, same_counts, all_held-from, all_held-below}
use Rattle.gs_enet.proofs.Flat.{channel_held-on, IsOn, IsMessage, IsBelow, IsFrom}

-- ---- nothing is held

in_window-nil : (c n : ℕ) (xs : List (Option Held)) → length xs ≡ 0 → in_window c n xs ≡ []
in_window-nil c n [] e = refl
in_window-nil c n (x ∷ xs) e = absurd (omega (arith, e))

window_is_nil : (c n : ℕ) (xs : List (Option Held)) → front_is_held xs ≡ true → in_window c n xs ≡ [] → length xs ≡ 0
window_is_nil c n [] front e = refl
window_is_nil c n (None ∷ xs) front e = absurd (false≢true front)
window_is_nil c n (Some h ∷ xs) front e = absurd cc

pub empty_held : (c : ℕ) (chs : List Channel) → AreEmpty chs → all_held c chs ≡ []
empty_held c [] h = refl
empty_held c (ch ∷ chs) h =
    ap (λ (us : List Unacknowledged). us ++ all_held (suc c) chs) (in_window-nil c ch.first ch.window.items
    (All-head (λ (x : Channel). length x.window.items ≡ 0) ch chs h))
    ∙ empty_held (suc c) chs (All-tail (λ (x : Channel). length x.window.items ≡ 0) ch chs h)

append_is_nil : (us vs : List Unacknowledged) → us ++ vs ≡ [] → (us ≡ []) × (vs ≡ [])
append_is_nil [] vs e = (refl, e)
append_is_nil (u ∷ us) vs e = absurd cc

pub held_empty : (c : ℕ) (chs : List Channel) → all_held c chs ≡ [] → AreEmpty chs
held_empty c [] e = All-nil (λ (x : Channel). length x.window.items ≡ 0)
held_empty c (ch ∷ chs) e =
    let parts = append_is_nil (channel_held c ch) (all_held (suc c) chs) e in
    All-cons (λ (x : Channel). length x.window.items ≡ 0) ch chs (window_is_nil c ch.first ch.window.items ch.begins parts.0) (held_empty (suc c) chs parts.1)

pub nothing_from : (k : Option Control) (chs : List Channel) → k ≡ None → AreEmpty chs → control_held k ++ all_held 0 chs ≡ []
nothing_from k chs none h = ap (λ (x : Option Control). control_held x ++ all_held 0 chs) none ∙ empty_held 0 chs h

pub nothing_to : (k : Option Control) (chs : List Channel) → control_held k ++ all_held 0 chs ≡ [] → (k ≡ None) × AreEmpty chs
nothing_to None chs e = (refl, held_empty 0 chs e)
nothing_to (Some x) chs e = absurd cc

-- ---- leaving

leave_if-open : (s : PeerState) (us : List Unacknowledged) (r : PeerRecord) → is_closing s ≡ false → leave_if s us r ≡ r
leave_if-open state.Closing us r e = absurd (false≢true (sym e))
leave_if-open state.Connecting us r e = refl
leave_if-open state.Accepting us r e = refl
leave_if-open state.Connected us r e = refl
leave_if-open state.Shut us r e = refl

leave_if-held : (s : PeerState) (us : List Unacknowledged) (r : PeerRecord) → (us ≡ [] → ⊥) → leave_if s us r ≡ r
leave_if-held state.Closing [] r some = absurd (some refl)
leave_if-held state.Closing (u ∷ us) r some = refl
leave_if-held state.Connecting us r some = refl
leave_if-held state.Accepting us r some = refl
leave_if-held state.Connected us r some = refl
leave_if-held state.Shut us r some = refl

pub leaving-open : (r : PeerRecord) (s : PeerState) → r.state ≡ s → is_closing s ≡ false → leaving r ≡ r
leaving-open r s e no_close = leave_if-open r.state r.unacknowledged r (ap is_closing e ∙ no_close)

pub leaving-held : (r : PeerRecord) (us : List Unacknowledged) → r.unacknowledged ≡ us → (us ≡ [] → ⊥) → leaving r ≡ r
leaving-held r us e some = leave_if-held r.state r.unacknowledged r (λ none. some (sym e ∙ none))

abbrev pub left : PeerRecord → PeerRecord
left r = record r { last_control = r.last_control + 1; unacknowledged = fresh Disconnect control (r.last_control + 1) ∷ [] }

leave_if-left : (s : PeerState) (us : List Unacknowledged) (r : PeerRecord) → is_closing s ≡ true → us ≡ [] → leave_if s us r ≡ left r
leave_if-left state.Closing [] r e none = refl
leave_if-left state.Closing (u ∷ us) r e none = absurd cc
leave_if-left state.Connecting us r e none = absurd (false≢true e)
leave_if-left state.Accepting us r e none = absurd (false≢true e)
leave_if-left state.Connected us r e none = absurd (false≢true e)
leave_if-left state.Shut us r e none = absurd (false≢true e)

pub leaving-left : (r : PeerRecord) (s : PeerState) (us : List Unacknowledged) → r.state ≡ s → is_closing s ≡ true → r.unacknowledged ≡ us → us ≡ []
    → leaving r ≡ left r
leaving-left r s us e closing same none = leave_if-left r.state r.unacknowledged r (ap is_closing e ∙ closing) (same ∙ none)

-- ---- a full window

abbrev fills : ℕ → ℕ → Unacknowledged → Bool
fills c next u = (u.order.channel == c) && nat_le (u.order.number + 256) next

other_fills : (c next : ℕ) (P : Unacknowledged → Type 0) → ((u : Unacknowledged) → P u → u.order.channel ≡ c → ⊥) → (us : List Unacknowledged) → Each P us
    → list_any (fills c next) us ≡ false
other_fills c next P apart [] h = refl
other_fills c next P apart (u ∷ us) h =
    or_from (fills c next u) (list_any (fills c next) us) (and_left (u.order.channel == c) _ (ne_eqb u.order.channel c (apart u h.0)))
    (other_fills c next P apart us h.1)

few_fill : (c n next : ℕ) (xs : List (Option Held)) → next < n + 256 → list_any (fills c next) (in_window c n xs) ≡ false
few_fill c n next [] few = refl
few_fill c n next (None ∷ xs) few = few_fill c (n + 1) next xs (omega arith)
few_fill c n next (Some h ∷ xs) few =
    or_from (fills c next (unacknowledged c n h)) (list_any (fills c next) (in_window c (n + 1) xs)) (and_right (c == c) _ (lt-leb (n + 256) next few))
    (few_fill c (n + 1) next xs (omega arith))

window_fills : (c n : ℕ) (xs : List (Option Held)) → front_is_held xs ≡ true → length xs ≤ 256
    → list_any (fills c (n + length xs)) (in_window c n xs) ≡ (length xs == 256)
window_fills c n [] front most = refl
window_fills c n (None ∷ xs) front most = absurd (false≢true front)
window_fills c n (Some h ∷ xs) front most = elim (cases_eq (length (Some h ∷ xs)) 256) [
  | inl full ↦ (or_left (fills c (n + length (Some h ∷ xs)) (unacknowledged c n h)) _
      (ap (λ (b : Bool). b && nat_le (n + 256) (n + length (Some h ∷ xs))) (eq-eqb c c refl)
      ∙ le-leb (n + 256) (n + length (Some h ∷ xs)) (omega (arith, full)))
      ∙ sym (eq-eqb (length (Some h ∷ xs)) 256 full))
  | inr apart ↦ (few_fill c n (n + length (Some h ∷ xs)) (Some h ∷ xs) (omega (arith, most, apart)) ∙ sym (ne_eqb (length (Some h ∷ xs)) 256 apart))
]

last_is : (next : ℕ) → next < 2 ^ 64 → nat_le last_number next ≡ (next == last_number)
last_is next most = elim (cases_eq next last_number) [
  | inl same ↦ (le-leb last_number next (omega (arith, same)) ∙ sym (eq-eqb next last_number same))
  | inr apart ↦ (lt-leb last_number next (omega (arith, apart, most)) ∙ sym (ne_eqb next last_number apart))
]

control-fills : (c next : ℕ) (k : Option Control) → c < 48 → list_any (fills c next) (control_held k) ≡ false
control-fills c next None lt = refl
control-fills c next (Some k) lt = or_from (fills c next (unacknowledged_control k)) false
    (and_left (control == c) _ (ne_eqb control c (λ e. omega (arith, e, lt)))) refl

pub full_is : (r : PeerRecord) (k : Option Control) (chs : List Channel) (c : ℕ) (d : Channel) → HasCounts r chs
    → r.unacknowledged ≡ control_held k ++ all_held 0 chs
    → c < length chs → c < 48 → is_full r c ≡ is_channel_full (get_or chs c d)
full_is r k chs c d counts held lt below =
    let ch : Channel = get_or chs c d in
    let next : ℕ = next_number r c in
    let same : next_of ch ≡ next = (counts c d lt).0 in
    let others : list_any (fills c next) (before c chs) ≡ false = other_fills c next (IsBelow c) (λ u h e. omega (arith, h.0, e)) (before c chs)
    (before-below c chs lt) in
    let later : list_any (fills c next) (behind c chs) ≡ false = other_fills c next (IsFrom (suc c)) (λ u h e. omega (arith, h.0, e)) (behind c chs)
    (behind-from c chs) in
    let own : list_any (fills c next) (channel_held c ch) ≡ (length ch.window.items == 256) =
    ap (λ (m : ℕ). list_any (fills c m) (channel_held c ch)) (sym same) ∙ window_fills c ch.first ch.window.items ch.begins ch.spans in
    let split : list_any (fills c next) r.unacknowledged ≡ (length ch.window.items == 256) =
    ap (list_any (fills c next)) (held ∙ ap (λ (us : List Unacknowledged). control_held k ++ us) (split_at c chs d lt))
    ∙ list_any-append (fills c next) (control_held k) (before c chs ++ (channel_held c ch ++ behind c chs))
    ∙ ap (λ (b : Bool). b || list_any (fills c next) (before c chs ++ (channel_held c ch ++ behind c chs))) (control-fills c next k below)
    ∙ list_any-append (fills c next) (before c chs) (channel_held c ch ++ behind c chs)
    ∙ ap (λ (b : Bool). b || list_any (fills c next) (channel_held c ch ++ behind c chs)) others
    ∙ list_any-append (fills c next) (channel_held c ch) (behind c chs)
    ∙ ap (λ (b : Bool). list_any (fills c next) (channel_held c ch) || b) later
    ∙ or_false (list_any (fills c next) (channel_held c ch)) ∙ own in
    ap (λ (b : Bool). b || nat_le last_number next) split
    ∙ ap (λ (b : Bool). (length ch.window.items == 256) || b) (last_is next (let fits = ch.numbered in omega (arith, same, fits))
    ∙ ap (λ (m : ℕ). m == last_number) (sym same))
  where
    or_false : (b : Bool) → (b || false) ≡ b
    or_false true = refl
    or_false false = refl

-- ---- a channel that changed

pub counts_set : (r r' : PeerRecord) (chs : List Channel) (c : ℕ) (ch : Channel) → HasCounts r chs
    → (next_of ch ≡ next_number r' c) × (ch.heard ≡ heard_count r' c)
    → ((k : ℕ) → (k ≡ c → ⊥) → (next_number r k ≡ next_number r' k) × (heard_count r k ≡ heard_count r' k))
    → HasCounts r' (set chs c ch)
counts_set r r' chs c ch counts here there k d lt = elim (cases_eq k c) [
  | inl same ↦ subst (λ (x : Channel). (next_of x ≡ next_number r' k) × (x.heard ≡ heard_count r' k))
      (sym (ap (λ (j : ℕ). get_or (set chs c ch) j d) same ∙ get_or-set_same chs c ch d (omega (arith, same, lt, length-set chs c ch))))
      (subst (λ (j : ℕ). (next_of ch ≡ next_number r' j) × (ch.heard ≡ heard_count r' j)) (sym same) here)
  | inr apart ↦ subst (λ (x : Channel). (next_of x ≡ next_number r' k) × (x.heard ≡ heard_count r' k)) (sym (get_or-set_other chs c k ch d apart))
      (let was = counts k d (omega (arith, lt, length-set chs c ch)) in let now = there k apart in (was.0 ∙ now.0, was.1 ∙ now.1))
]

pub held_set_same : (chs : List Channel) (c : ℕ) (d ch : Channel) → c < length chs → channel_held c ch ≡ channel_held c (get_or chs c d)
    → all_held 0 (set chs c ch) ≡ all_held 0 chs
held_set_same chs c d ch lt e =
    split_set c chs ch lt ∙ ap (λ (us : List Unacknowledged). before c chs ++ (us ++ behind c chs)) e ∙ sym (split_at c chs d lt)

pub counts_given : (r : PeerRecord) (chs : List Channel) (c : ℕ) (bytes : List ℕ) (d ch : Channel) → HasCounts r chs → c < length chs
    → next_of ch ≡ next_of (get_or chs c d) + 1 → ch.heard ≡ (get_or chs c d).heard → HasCounts (with_message c bytes r) (set chs c ch)
unfolding with_message
counts_given r chs c bytes d ch counts lt next heard =
    let was = counts c d lt in
    counts_set r (with_message c bytes r) chs c ch counts
    (omega (arith, next, was.0, ap length (given_on-own c bytes r.given), length-append (given_on c r.given) (bytes ∷ [])), heard ∙ was.1)
    (λ k apart. (ap (λ (xs : List (List ℕ)). length xs + 1) (sym (given_on-apart k c bytes r.given (λ e. apart (sym e)))), refl))

open_is : (s : PeerState) → is_open s ≡ true → s ≡ state.Connected
open_is state.Connected e = refl
open_is state.Connecting e = absurd (false≢true e)
open_is state.Accepting e = absurd (false≢true e)
open_is state.Closing e = absurd (false≢true e)
open_is state.Shut e = absurd (false≢true e)

pub closed-open : (r : PeerRecord) (s : PeerState) → r.state ≡ s → is_open s ≡ true → closed r ≡ leaving (record r { state = state.Closing })
unfolding closed
closed-open r s e up = ap (λ (x : PeerState). close_if x r) (e ∙ open_is s up)

close_if-not : (s : PeerState) (r : PeerRecord) → is_open s ≡ false → close_if s r ≡ r
close_if-not state.Connected r e = absurd (false≢true (sym e))
close_if-not state.Connecting r e = refl
close_if-not state.Accepting r e = refl
close_if-not state.Closing r e = refl
close_if-not state.Shut r e = refl

pub closed-not : (r : PeerRecord) (s : PeerState) → r.state ≡ s → is_open s ≡ false → closed r ≡ r
unfolding closed
closed-not r s e down = close_if-not r.state r (ap is_open e ∙ down)

-- ---- the next event

-- all is as before but what was told and what waits
pub record TellsOne (r r' : PeerRecord) (rest : List PeerEvent) : Type 0 where
  pub state : r'.state ≡ r.state
  pub own : r'.own ≡ r.own
  pub other : r'.other ≡ r.other
  pub connect_id : r'.connect_id ≡ r.connect_id
  pub extra : r'.extra ≡ r.extra
  pub now : r'.now ≡ r.now
  pub disconnected : r'.disconnected ≡ r.disconnected
  pub last_control : r'.last_control ≡ r.last_control
  pub counts : (chs : List Channel) → HasCounts r chs → HasCounts r' chs
  pub waiting : r'.waiting ≡ rest
  pub pending : r'.pending ≡ r.pending
  pub unacknowledged : r'.unacknowledged ≡ r.unacknowledged

tells_if : (es : List PeerEvent) (r : PeerRecord) (e : Option PeerEvent) (rest : List PeerEvent) → r.waiting ≡ es → es ≡ option_to_list e ++ rest
    → (e ≡ None → rest ≡ []) → (e ≡ first_event es) × TellsOne r (telling es r) rest
tells_if [] r None rest is parts last = (
  refl,
  record {
    state = refl;
    own = refl;
    other = refl;
    connect_id = refl;
    extra = refl;
    now = refl;
    disconnected = refl;
    last_control = refl;
    counts = λ chs h. h;
    waiting = is ∙ parts;
    pending = refl;
    unacknowledged = refl;
  },
)
tells_if [] r (Some e) rest is parts last = absurd cc
tells_if (x ∷ xs) r None rest is parts last = absurd (let none = last refl in cc)
tells_if (x ∷ xs) r (Some e) rest is parts last =
    let same : x ≡ e = cc in
    let others : xs ≡ rest = cc in
    let heard_is : (r.told ++ x ∷ []) ++ xs ≡ heard r = append_assoc r.told (x ∷ []) xs ∙ ap (λ (es : List PeerEvent). r.told ++ es) (sym is) in (
      ap (λ (y : PeerEvent). Some y) (sym same),
      record {
        state = refl;
        own = refl;
        other = refl;
        connect_id = refl;
        extra = refl;
        now = refl;
        disconnected = refl;
        last_control = refl;
        counts = λ chs h c d lt. ((h c d lt).0, (h c d lt).1 ∙ ap (λ (es : List PeerEvent). length (messages_on c es)) (sym heard_is));
        waiting = others;
        pending = refl;
        unacknowledged = refl;
      },
    )

pub telling-first : (r : PeerRecord) (e : Option PeerEvent) (rest : List PeerEvent) → r.waiting ≡ option_to_list e ++ rest
    → (e ≡ None → rest ≡ []) → (e ≡ next_event r) × TellsOne r (telling r.waiting r) rest
telling-first r e rest parts last = tells_if r.waiting r e rest refl parts last

pub none_from : (k : Option Control) → is_some k ≡ false → k ≡ None
none_from None e = refl
none_from (Some x) e = absurd (false≢true (sym e))

-- what a peer's channel says of its record
pub channel_is_full : (p : Peer) (r : PeerRecord) (c place : ℕ) (ch : Channel) → IsPeerOf p r → c < 48 → place ≡ c → ch ≡ get_or p.channels.items place ch
    → is_full r c ≡ is_channel_full ch
channel_is_full p r c place ch s below at read =
    let chs = p.channels.items in
    let size : length chs ≡ 48 = let all = p.all in let ok = p.channels.ok.0 in omega (arith, all, ok) in
    full_is r p.control chs c ch s.counts s.unacknowledged (omega (arith, size, below)) below
    ∙ ap is_channel_full (sym (read ∙ ap (λ (i : ℕ). get_or chs i ch) at))

pub none_left : (e : Option PeerEvent) (xs ys : List PeerEvent) → xs ≡ option_to_list e ++ ys → (0 < length xs → IsSome e) → e ≡ None → ys ≡ []
none_left None [] ys parts some none = sym parts
none_left None (x ∷ xs) ys parts some none = absurd (false≢true (some (omega arith)))
none_left (Some e) xs ys parts some none = absurd cc

pub control-on : (k : Option Control) → Each (λ (v : Unacknowledged). v.order.channel ≡ 255) (control_held k)
control-on None = tt
control-on (Some k) = (refl, tt)

pub sizes : (p : Peer) → length p.channels.items ≡ 48
sizes p = let all = p.all in let ok = p.channels.ok.0 in omega (arith, all, ok)

-- the channel that is given a message
pub sends_one : (p : Peer) (r : PeerRecord) (c place : ℕ) (bytes : List ℕ) (first old new : Channel) → IsPeerOf p r → c < 48 → place ≡ c
    → first ≡ get_or p.channels.items place first
    → old ≡ get_or p.channels.items place old → GivesOne bytes old new
    → (next_of first ≡ next_number r c) × HasCounts (with_message c bytes r) (set p.channels.items place new)
    × ((with_message c bytes r).unacknowledged ≡ control_held p.control ++ all_held 0 (set p.channels.items place new))
unfolding with_message
sends_one p r c place bytes first old new s below at read was gives =
    let chs : List Channel = p.channels.items in
    let lt : place < length chs = omega (arith, sizes p, at, below) in
    let next : next_of first ≡ next_number r c = ap next_of read ∙ (s.counts place first lt).0 ∙ ap (next_number r) at in
    let old_next : next_of old ≡ next_number r c = ap next_of was ∙ (s.counts place old lt).0 ∙ ap (next_number r) at in (
      next,
      subst (λ (k : ℕ). HasCounts (with_message k bytes r) (set chs place new)) at
          (counts_given r chs place bytes old new s.counts lt (gives.next ∙ ap (λ (ch : Channel). next_of ch + 1) was)
          (gives.heard ∙ ap (λ (ch : Channel). ch.heard) was)),
      ap (placed (fresh (Message bytes) c (next_number r c))) s.unacknowledged
          ∙ placed_last place (fresh (Message bytes) c (next_number r c)) (control_held p.control) chs old new lt (omega (arith, sizes p))
          (control-on p.control) (sym at)
          (sym old_next ∙ ap next_of was)
          (gives.held place ∙ ap (λ (ch : Channel). channel_held place ch ++ fresh (Message bytes) place (next_of old) ∷ []) was
          ∙ ap (λ (n : ℕ). channel_held place (get_or chs place old) ++ fresh (Message bytes) place n ∷ []) old_next
          ∙ ap (λ (k : ℕ). channel_held place (get_or chs place old) ++ fresh (Message bytes) k (next_number r c) ∷ []) at),
    )

pub sends_none : (p : Peer) (r : PeerRecord) (c place : ℕ) (old new : Channel) → IsPeerOf p r → c < 48 → place ≡ c → old ≡ get_or p.channels.items place old
    → SameHeld old new
    → HasCounts r (set p.channels.items place new) × (r.unacknowledged ≡ control_held p.control ++ all_held 0 (set p.channels.items place new))
sends_none p r c place old new s below at was same =
    let chs : List Channel = p.channels.items in
    let lt : place < length chs = omega (arith, sizes p, at, below) in
    let had = s.counts place old lt in (
      counts_set r r chs place new s.counts
          (same.same.next ∙ ap next_of was ∙ had.0, same.same.heard ∙ ap (λ (ch : Channel). ch.heard) was ∙ had.1) (λ k apart. (refl, refl)),
      s.unacknowledged ∙ ap (λ (us : List Unacknowledged). control_held p.control ++ us)
          (sym (held_set_same chs place old new lt (same.held place ∙ ap (channel_held place) was))),
    )
