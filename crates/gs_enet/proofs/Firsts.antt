-- Which item is the first that is to be written, and what a peer stands for once it is.
use Rattle.std.proofs.Common.{◌≡◌, ◌≢◌, ◌⊎◌, ◌<◌, ◌≤◌, ◌+◌, ◌-◌, ◌%◌, ℕ, zero, suc, Bool, true, false, cond, List, [], ◌∷◌, ◌++◌, length, map, take, drop}
use Rattle.std.proofs.Common.{get_or, set, Option, Some, None, refl, sym, ap, subst, ◌∙◌, arith, inl, inr}
use Rattle.std.specs.Prelude.{IsSome}
use Rattle.std.specs.Option.{option_to_list}
use Rattle.std.specs.List.{filter}
use Rattle.std.proofs.lemmas.Bool.{cond-true, cond-false, false≢true}
use Rattle.std.proofs.lemmas.List.Elements.{filter-append}
use Rattle.gs_enet_wire.specs.declared.command.Command.TheVariants as command
use Rattle.gs_enet_wire.specs.Grammar.{command_spelling}
use Rattle.gs_enet.specs.declared.answer.Answer.{Answer}
use Rattle.gs_enet.specs.declared.channel.Channel.{Channel}
use Rattle.gs_enet.specs.declared.control.Control.{Control}
use Rattle.gs_enet.specs.declared.control.ControlKind.{ControlKind}
use Rattle.gs_enet.specs.declared.control.ControlKind.TheVariants as kind
use Rattle.gs_enet.specs.declared.peer.Peer.{Peer}
use Rattle.gs_enet.specs.Record.{PeerRecord, Message, Order, Unacknowledged, is_shut}
use Rattle.gs_enet.specs.Write.{Item, Answers, Orders, item_command, order_command, is_due, due_if, going_out, written_once, first_written, having_written}
use Rattle.gs_enet.specs.Channels.{channel_held, all_held, SameHeld, WritesFirst}
use Rattle.gs_enet.specs.Controls.{content_of, unacknowledged_control, control_held}
use Rattle.gs_enet.specs.Standing.{IsPeerOf, HasCounts, held_by}
use Rattle.gs_enet.specs.Items.{IsFirstDue, WritesMessage, WritesOne, HasControlDue, HasMessageDue, HasNoControlDue, HasNoneDue}
use Rattle.gs_enet.proofs.Flat.{before, behind, split_at, split_set}
use Rattle.gs_enet.proofs.Due.{first_written-past, first_written-within}
use Rattle.gs_enet.proofs.Standings.{counts_set}
use Rattle.gs_enet.proofs.Windows.{first_written-none}

abbrev pub order_items : List Unacknowledged → List Item
order_items us = map (λ (u : Unacknowledged). Orders u.order) us

-- ---- answers

pub front_is : (xs : List Answer) (a : Answer) → xs ≢ [] → a ≡ get_or xs 0 a → xs ≡ a ∷ drop 1 xs
front_is [] a some read = absurd (some refl)
front_is (x ∷ xs) a some read = ap (λ (y : Answer). y ∷ xs) (sym read)

pub popped : (o : Option Answer) (xs ys : List Answer) → xs ≡ option_to_list o ++ ys → xs ≢ [] → (0 < length xs → IsSome o) → ys ≡ drop 1 xs
popped (Some a) xs ys parts some there = sym (ap (drop 1) parts)
popped None [] ys parts some there = absurd (some refl)
popped None (x ∷ xs) ys parts some there = absurd (false≢true (there (omega arith)))

pub answer_first : (r : PeerRecord) (a : Answer) (rest : List Answer) → r.pending ≡ a ∷ rest
    → going_out r ≡ Answers a ∷ (map Answers rest ++ order_items (due_if (is_shut r.state) r.unacknowledged))
answer_first r a rest e = ap (λ (as' : List Answer). map Answers as' ++ order_items (due_if (is_shut r.state) r.unacknowledged)) e

pub answer_leaves : (r : PeerRecord) (a : Answer) (rest : List Answer) → r.pending ≡ a ∷ rest
    → first_written r.now (1 - length r.pending) r.unacknowledged ≡ r.unacknowledged
answer_leaves r a rest e =
    let none : 1 - length r.pending ≡ 0 = omega (arith, ap length e) in
    ap (λ (k : ℕ). first_written r.now k r.unacknowledged) none ∙ first_written-none r.now r.unacknowledged

-- ---- commands

out_of : (as' : List Answer) (over : Bool) (us vs : List Unacknowledged) → as' ≡ [] → over ≡ false → us ≡ vs
    → map Answers as' ++ order_items (due_if over us) ≡ order_items (filter is_due vs)
out_of as' over us vs none up held =
    ap (λ (l : List Answer). map Answers l ++ order_items (due_if over us)) none
    ∙ ap (λ (b : Bool). order_items (due_if b us)) up
    ∙ ap (λ (l : List Unacknowledged). order_items (filter is_due l)) held

pub commands_out : (p : Peer) (r : PeerRecord) → IsPeerOf p r → p.pending.items ≡ [] → is_shut p.state ≡ false
    → going_out r ≡ order_items (filter is_due (held_by p))
commands_out p r s none up =
    out_of r.pending (is_shut r.state) r.unacknowledged (held_by p) (s.pending ∙ none) (ap is_shut s.state ∙ up) s.unacknowledged

pub one_written : (p : Peer) (r : PeerRecord) → IsPeerOf p r → p.pending.items ≡ []
    → first_written r.now (1 - length r.pending) r.unacknowledged ≡ first_written p.moment 1 (held_by p)
one_written p r s none =
    let one : 1 - length r.pending ≡ 1 = omega (arith, ap length (s.pending ∙ none)) in
    ap (λ (k : ℕ). first_written r.now k r.unacknowledged) one
    ∙ ap (λ (k : ℕ). first_written k 1 r.unacknowledged) s.now
    ∙ ap (first_written p.moment 1) s.unacknowledged

pub still_none : (p : Peer) (r : PeerRecord) → IsPeerOf p r → p.pending.items ≡ [] → drop 1 r.pending ≡ p.pending.items
still_none p r s none = ap (drop 1) (s.pending ∙ none) ∙ sym none

pub control_first : (p : Peer) (r : PeerRecord) (k : Control) → IsPeerOf p r → HasControlDue k p
    → going_out r ≡ Orders (unacknowledged_control k).order ∷ order_items (filter is_due (all_held 0 p.channels.items))
control_first p r k s h =
    commands_out p r s h.none h.up
    ∙ ap (λ (o : Option Control). order_items (filter is_due (control_held o ++ all_held 0 p.channels.items))) h.held
    ∙ ap order_items (cond-true k.due (unacknowledged_control k ∷ filter is_due (all_held 0 p.channels.items)) _ h.due)

pub control_leaves : (p : Peer) (r : PeerRecord) (k new : Control) → IsPeerOf p r → HasControlDue k p
    → unacknowledged_control new ≡ written_once p.moment (unacknowledged_control k)
    → first_written r.now (1 - length r.pending) r.unacknowledged ≡ control_held (Some new) ++ all_held 0 p.channels.items
control_leaves p r k new s h wrote =
    let rest : List Unacknowledged = all_held 0 p.channels.items in
    one_written p r s h.none
    ∙ ap (λ (o : Option Control). first_written p.moment 1 (control_held o ++ rest)) h.held
    ∙ cond-true k.due (written_once p.moment (unacknowledged_control k) ∷ first_written p.moment 0 rest) _ h.due
    ∙ ap (λ (us : List Unacknowledged). written_once p.moment (unacknowledged_control k) ∷ us) (first_written-none p.moment rest)
    ∙ ap (λ (u : Unacknowledged). u ∷ rest) (sym wrote)

-- ---- messages

pub none_first : (p : Peer) (r : PeerRecord) → IsPeerOf p r → p.pending.items ≡ [] → is_shut p.state ≡ false → HasNoControlDue p → HasNoneDue p
    → going_out r ≡ []
none_first p r s none up no_control no_message =
    commands_out p r s none up
    ∙ ap order_items (filter-append is_due (control_held p.control) (all_held 0 p.channels.items)
    ∙ ap (λ (us : List Unacknowledged). us ++ filter is_due (all_held 0 p.channels.items)) no_control ∙ no_message)

due_of : (p : Peer) (c : ℕ) (d : Channel) → c < length p.channels.items → HasNoControlDue p → filter is_due (before c p.channels.items) ≡ []
    → filter is_due (held_by p) ≡ filter is_due (channel_held c (get_or p.channels.items c d)) ++ filter is_due (behind c p.channels.items)
due_of p c d lt no_control no_message =
    let chs : List Channel = p.channels.items in
    let own : List Unacknowledged = channel_held c (get_or chs c d) in
    filter-append is_due (control_held p.control) (all_held 0 chs)
    ∙ ap (λ (us : List Unacknowledged). us ++ filter is_due (all_held 0 chs)) no_control
    ∙ ap (filter is_due) (split_at c chs d lt)
    ∙ filter-append is_due (before c chs) (own ++ behind c chs)
    ∙ ap (λ (us : List Unacknowledged). us ++ filter is_due (own ++ behind c chs)) no_message
    ∙ filter-append is_due own (behind c chs)

abbrev pub message_item : ℕ → ℕ → List ℕ → Item
message_item c number bytes = Orders (record { content = Message bytes; channel = c; number = number })

pub message_first : (p : Peer) (r : PeerRecord) (c number : ℕ) (bytes : List ℕ) (old : Channel) → IsPeerOf p r → p.pending.items ≡ [] → is_shut p.state ≡ false
    → HasNoControlDue p → HasMessageDue c p → c < length p.channels.items → old ≡ get_or p.channels.items c old
    → (f : IsFirstDue c number bytes old)
    → going_out r ≡ message_item c number bytes ∷ order_items (f.rest ++ filter is_due (behind c p.channels.items))
message_first p r c number bytes old s none up no_control due lt read f =
    let later : List Unacknowledged = filter is_due (behind c p.channels.items) in
    commands_out p r s none up
    ∙ ap order_items (due_of p c old lt no_control due.before
    ∙ ap (λ (ch : Channel). filter is_due (channel_held c ch) ++ later) (sym read)
    ∙ ap (λ (us : List Unacknowledged). us ++ later) f.front)
    ∙ ap (λ (o : Order). Orders o ∷ order_items (f.rest ++ later)) f.order

pub message_leaves : (p : Peer) (r : PeerRecord) (c number : ℕ) (bytes : List ℕ) (old new : Channel) → IsPeerOf p r → p.pending.items ≡ []
    → HasNoControlDue p → HasMessageDue c p → c < length p.channels.items → old ≡ get_or p.channels.items c old
    → IsFirstDue c number bytes old → WritesFirst p.moment old new
    → first_written r.now (1 - length r.pending) r.unacknowledged ≡ control_held p.control ++ all_held 0 (set p.channels.items c new)
message_leaves p r c number bytes old new s none no_control due lt read f wrote =
    let chs : List Channel = p.channels.items in
    let now : ℕ = p.moment in
    let own : List Unacknowledged = channel_held c old in
    one_written p r s none
    ∙ first_written-past now (control_held p.control) (all_held 0 chs) no_control
    ∙ ap (λ (us : List Unacknowledged). control_held p.control ++ us)
    (ap (first_written now 1) (split_at c chs old lt ∙ ap (λ (ch : Channel). before c chs ++ (channel_held c ch ++ behind c chs)) (sym read))
    ∙ first_written-past now (before c chs) (own ++ behind c chs) due.before
    ∙ ap (λ (us : List Unacknowledged). before c chs ++ us)
    (first_written-within now own (behind c chs) f.u f.rest f.front
    ∙ ap (λ (us : List Unacknowledged). us ++ behind c chs) (sym (wrote.held c)))
    ∙ sym (split_set c chs new lt))

pub message_counts : (p : Peer) (r : PeerRecord) (c now : ℕ) (old new : Channel) → IsPeerOf p r → c < length p.channels.items
    → old ≡ get_or p.channels.items c old → WritesFirst now old new → HasCounts (having_written 1 r) (set p.channels.items c new)
message_counts p r c now old new s lt read wrote =
    let had = s.counts c old lt in
    counts_set r (having_written 1 r) p.channels.items c new s.counts
    (wrote.same.next ∙ ap (λ (ch : Channel). ch.first + length ch.window.items) read ∙ had.0, wrote.same.heard ∙ ap (λ (ch : Channel). ch.heard) read ∙ had.1)
    (λ k apart. (refl, refl))

-- ---- what the writer of one item did

order_short : (kind : ControlKind) (number : ℕ) (r : PeerRecord) → length (command_spelling (order_command (content_of kind) 255 number r)) ≤ 1030
order_short kind.Connect number r = omega arith
order_short kind.VerifyConnect number r = omega arith
order_short kind.Disconnect number r = omega arith

pub control_short : (k : Control) (r : PeerRecord) → length (command_spelling (item_command r (Orders (unacknowledged_control k).order))) ≤ 1030
control_short k r = order_short k.kind k.number r

pub no_control : (o : Option Control) → (o ≡ None) ⊎ ((k : Control) × (o ≡ Some k) × (k.due ≡ false)) → filter is_due (control_held o) ≡ []
no_control o (inl none) = ap (λ (x : Option Control). filter is_due (control_held x)) none
no_control o (inr (k, some, idle)) = ap (λ (x : Option Control). filter is_due (control_held x)) some ∙ cond-false k.due (unacknowledged_control k ∷ []) [] idle

pub message_one : (p q : Peer) (r : PeerRecord) (c place : ℕ) (result : Option ℕ) (old new : Channel) (out after : List ℕ) → IsPeerOf p r
    → p.pending.items ≡ []
    → is_shut p.state ≡ false → HasNoControlDue p → HasMessageDue c p → c < length p.channels.items → old ≡ get_or p.channels.items c old
    → WritesMessage c p.moment place result old new out after → (SameHeld old new → IsPeerOf q r)
    → (HasCounts (having_written 1 r) (set p.channels.items c new)
    → first_written r.now (1 - length r.pending) r.unacknowledged ≡ control_held p.control ++ all_held 0 (set p.channels.items c new)
    → IsPeerOf q (having_written 1 r))
    → WritesOne r place result q out after
message_one p q r c place None old new out after s none up no_ctl due lt read w kept wrote = (
  inr (record {
    item = message_item c w.number w.bytes;
    rest = _;
    front = message_first p r c w.number w.bytes old s none up no_ctl due lt read w.first;
    long = w.then.1.0;
    short = (let short = w.first.short in omega (arith, short));
  }),
  kept w.then.0,
  w.then.1.1,
)
message_one p q r c place (Some end) old new out after s none up no_ctl due lt read w kept wrote =
    record {
      item = message_item c w.number w.bytes;
      rest = _;
      front = message_first p r c w.number w.bytes old s none up no_ctl due lt read w.first;
      fits = w.then.1.0;
      put = w.then.1.1;
      fit = w.then.1.2;
      stands = wrote (message_counts p r c p.moment old new s lt read w.then.0)
          (message_leaves p r c w.number w.bytes old new s none no_ctl due lt read w.first w.then.0);
    }
