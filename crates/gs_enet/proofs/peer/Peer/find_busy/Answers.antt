use Rattle.std.proofs.Common.{◌≡◌, ◌≤◌, ◌<◌, ◌+◌, ◌++◌, ◌∷◌, [], ℕ, List, length, take, get_or, refl, sym, subst, ap, ◌∙◌, arith}
use Rattle.std.specs.List.{filter}
use Rattle.std.proofs.lemmas.List.{with_items_is, take_all}
use Rattle.gs_enet.specs.declared.channel.Channel.{Channel}
use Rattle.gs_enet.specs.declared.peer.Peer.{Peer}
use Rattle.gs_enet.specs.Record.{PeerRecord, Unacknowledged}
use Rattle.gs_enet.specs.Write.{is_due}
use Rattle.gs_enet.specs.Channels.{AreSame, all_held, HasDue}
use Rattle.gs_enet.specs.Busy.{AreIdle}
use Rattle.gs_enet.specs.Controls.{control_held}
use Rattle.gs_enet.specs.Standing.{HasCounts, IsPeerOf}
use Rattle.gs_enet.proofs.Due.{same_held, counts_same, settled_before, all_settled}
use Rattle.gs_enet.proofs.Standings.{sizes}
use Rattle.gs_enet.proofs.peer.Peer.find_busy.Goals as goal

-- no channel may have a message that is to be written
none_due : (n : ℕ) (ys : List Channel) → AreIdle n n ys → filter is_due (all_held 0 ys) ≡ []
none_due n ys idle = all_settled 0 ys (λ i d lt. idle i d lt (λ both. omega (arith, both.0, both.1)))

same_channels : (xs ys zs : List Channel) (read : List Channel) → read ≡ xs → AreSame read ys → zs ≡ ys → length ys ≡ length read
    → (all_held 0 zs ≡ all_held 0 xs) × ((r : PeerRecord) → HasCounts r xs → HasCounts r zs)
same_channels xs ys zs read is same new size =
    let same' : AreSame xs ys = subst (λ (l : List Channel). AreSame l ys) is same in
    let size' : length ys ≡ length xs = size ∙ ap length is in (
      ap (all_held 0) new ∙ same_held 0 xs ys size' same',
      λ r h. subst (HasCounts r) (sym new) (counts_same r xs ys size' same' h),
    )

pub returns-then-self-clause-none : goal.returns-then-self-clause-none
returns-then-self-clause-none c =
    let p : Peer = c.args.self.now in
    let ys : List Channel = c.find_busy-self.new.channels in
    let new = with_items_is p.channels ys (c.find_busy-self.auto.channels ∙ ap length c.deref_mut.ensures.value ∙ sym p.channels.ok.0) in
    ap (λ (l : List Channel). filter is_due (all_held 0 l)) new
    ∙ none_due c.find_busy-self.result ys (subst (λ (n : ℕ). AreIdle c.find_busy-self.result n ys) (sym c.if-self.true) c.find_busy-self.ensures.idle)

pub returns-then-self-clause-same : goal.returns-then-self-clause-same
returns-then-self-clause-same c =
    let p : Peer = c.args.self.now in
    let ys : List Channel = c.find_busy-self.new.channels in
    let new = with_items_is p.channels ys (c.find_busy-self.auto.channels ∙ ap length c.deref_mut.ensures.value ∙ sym p.channels.ok.0) in
    let all = same_channels p.channels.items ys _ c.deref_mut.result.now c.deref_mut.ensures.value c.find_busy-self.ensures.same new
    c.find_busy-self.auto.channels in
    record {
      stands = λ r s. record {
        state = s.state;
        own = s.own;
        other = s.other;
        connect_id = s.connect_id;
        extra = s.extra;
        now = s.now;
        disconnected = s.disconnected;
        last_control = s.last_control;
        counts = all.1 r s.counts;
        waiting = s.waiting;
        pending = s.pending;
        unacknowledged = s.unacknowledged ∙ ap (λ (us : List Unacknowledged). control_held p.control ++ us) (sym all.0);
      };
      state = refl;
      pending = refl;
      control = refl;
    }

pub returns-clause-some : goal.returns-clause-some
returns-clause-some c =
    let p : Peer = c.args.self.now in
    let ys : List Channel = c.find_busy-self.new.channels in
    let new = with_items_is p.channels ys (c.find_busy-self.auto.channels ∙ ap length c.deref_mut.ensures.value ∙ sym p.channels.ok.0) in
    let most = p.busy.within in
    let to = c.find_busy-self.ensures.to in
    let apart = c.if-self.false in
    let below : c.find_busy-self.result < 48 = omega (arith, most, to, apart) in
    let size : length ys ≡ 48 = c.find_busy-self.auto.channels ∙ ap length c.deref_mut.ensures.value ∙ sizes p in
    record {
      below = below;
      before = ap (λ (l : List Channel). filter is_due (all_held 0 (take c.find_busy-self.result l))) new
          ∙ settled_before c.find_busy-self.result p.busy.to ys (omega (arith, size, below)) c.find_busy-self.ensures.idle;
      there = λ d. subst (λ (l : List Channel). HasDue (get_or l c.find_busy-self.result d)) (sym new)
          (c.find_busy-self.ensures.there (omega (arith, to, apart)) d);
    }

pub returns-clause-same : goal.returns-clause-same
returns-clause-same c =
    let p : Peer = c.args.self.now in
    let ys : List Channel = c.find_busy-self.new.channels in
    let new = with_items_is p.channels ys (c.find_busy-self.auto.channels ∙ ap length c.deref_mut.ensures.value ∙ sym p.channels.ok.0) in
    let all = same_channels p.channels.items ys _ c.deref_mut.result.now c.deref_mut.ensures.value c.find_busy-self.ensures.same new
    c.find_busy-self.auto.channels in
    record {
      stands = λ r s. record {
        state = s.state;
        own = s.own;
        other = s.other;
        connect_id = s.connect_id;
        extra = s.extra;
        now = s.now;
        disconnected = s.disconnected;
        last_control = s.last_control;
        counts = all.1 r s.counts;
        waiting = s.waiting;
        pending = s.pending;
        unacknowledged = s.unacknowledged ∙ ap (λ (us : List Unacknowledged). control_held p.control ++ us) (sym all.0);
      };
      state = refl;
      pending = refl;
      control = refl;
    }
