-- Writing one datagram after the other writes all.
use Rattle.std.proofs.Common.{◌≡◌, ◌≢◌, ◌<◌, ◌≤◌, ◌+◌, ◌-◌, ℕ, zero, suc, max, List, [], ◌∷◌, ◌++◌, length, map, take, drop, Some, None, refl, sym, ap, subst}
use Rattle.std.proofs.Common.{◌∙◌, arith, inl, inr}
use Rattle.std.proofs.Math.Seq.{take-append_seam}
use Rattle.std.proofs.lemmas.Bool.{cases_lt}
use Rattle.std.proofs.lemmas.List.{length-map, length-append, append-nil}
use Rattle.gs_enet_wire.specs.declared.datagram.Datagram.{Datagram}
use Rattle.gs_enet_wire.specs.Grammar.{SpellsDatagram, spelling}
use Rattle.gs_enet.specs.declared.answer.Answer.{Answer}
use Rattle.gs_enet.specs.declared.peer.Peer.{Peer}
use Rattle.gs_enet.specs.declared.state.PeerState.{PeerState}
use Rattle.gs_enet.specs.Record.{PeerRecord, Unacknowledged, is_shut, at_moment}
use Rattle.gs_enet.specs.Standing.{IsPeerOf, held_by}
use Rattle.gs_enet.specs.Write.{Item, Answers, Orders, due_if, going_out, fitting, next_items, having_written, wrote_next, items_datagram, datagram_if}
use Rattle.gs_enet.specs.Outcomes.{WritesDatagram}
use Rattle.gs_enet.specs.World.{Written, Side, Write, one_written, acted}
use Rattle.gs_enet.proofs.Outgoing.{having_written-zero}
use Rattle.gs_sides.specs.Known.{datagram_by, IsReadAsItself, HasRecord, IsWrittenBytes}
use Rattle.gs_sides.specs.Steps.{items_due, WritesBytes, WritesSome}
use Rattle.gs_enet.specs.Sides.{writing_within, written_out}
use Rattle.gs_enet.proofs.Repeating.{left_after}

-- how many items a side has to write, and how many it writes next
abbrev left : Side → ℕ
left x = length (going_out x.peer)

abbrev next : ℕ → Side → List Item
next now x = next_items (at_moment now x.peer)

some_out_by : (xs : List Item) (now : ℕ) (r : PeerRecord) → going_out r ≡ xs → next_items (at_moment now r) ≢ [] → 1 ≤ length (going_out r)
unfolding next_items
some_out_by [] now r e some = absurd (some (ap (fitting (at_moment now r) 1388) e))
some_out_by (x ∷ xs) now r e some = omega (arith, ap length e)

-- where something is written there was something to write, and less is left
pub less_left : (now : ℕ) (r : PeerRecord) → next_items (at_moment now r) ≢ []
    → length (going_out (wrote_next now r)) < length (going_out r)
less_left now r some =
    let there : 1 ≤ length (going_out r) = some_out_by (going_out r) now r refl some in
    let less = left_after now r in
    let one : 1 ≤ length (next_items (at_moment now r)) = least (next_items (at_moment now r)) some in
    omega (arith, there, less, one)
  where
    least : (xs : List Item) → xs ≢ [] → 1 ≤ length xs
    least [] not = absurd (not refl)
    least (x ∷ xs) not = omega arith

-- ---- once nothing is written

moment_again : (now : ℕ) (r : PeerRecord) → at_moment now (at_moment now r) ≡ at_moment now r
moment_again now r =
    let e : max (max r.now now) now ≡ max r.now now = omega arith in
    ap (λ (m : ℕ). record r { now = m }) e

nothing_wrote : (now : ℕ) (r : PeerRecord) → next_items (at_moment now r) ≡ [] → wrote_next now r ≡ at_moment now r
unfolding wrote_next
nothing_wrote now r none =
    ap (λ (xs : List Item). having_written (length xs) (at_moment now r)) none ∙ having_written-zero (at_moment now r)

abbrev settled : ℕ → Side → Side
settled now x = record x { peer = at_moment now x.peer }

nothing_acted : (now : ℕ) (x : Side) → next now x ≡ [] → acted (Write now) x ≡ settled now x
nothing_acted now x none =
    ap (λ (r : PeerRecord). record x { peer = r; wrote = x.wrote ++ one_written (at_moment now x.peer) (next now x) })
    (nothing_wrote now x.peer none)
    ∙ ap (λ (xs : List Item). record x { peer = at_moment now x.peer; wrote = x.wrote ++ one_written (at_moment now x.peer) xs }) none
    ∙ ap (λ (ws : List Written). record x { peer = at_moment now x.peer; wrote = ws }) (append-nil x.wrote)

settled_again : (now : ℕ) (x : Side) → next now x ≡ [] → acted (Write now) (settled now x) ≡ settled now x
settled_again now x none =
    nothing_acted now (settled now x) (ap next_items (moment_again now x.peer) ∙ none)
    ∙ ap (λ (r : PeerRecord). record x { peer = r }) (moment_again now x.peer)

stays : (n now : ℕ) (x : Side) → next now x ≡ [] → writing_within n now (settled now x) ≡ settled now x
stays zero now x none = refl
stays (suc n) now x none = ap (writing_within n now) (settled_again now x none) ∙ stays n now x none

-- ---- more writings than there are items write all

cons_not_nil : (i : Item) (is : List Item) → (i ∷ is) ≡ [] → ⊥
cons_not_nil i is e = let l : length (i ∷ is) ≡ 0 = ap length e in omega (arith, l)

enough : (f g now : ℕ) (x : Side) → left x < f → left x < g → writing_within f now x ≡ writing_within g now x
enough zero g now x few few' = absurd (omega (arith, few))
enough (suc f) zero now x few few' = absurd (omega (arith, few'))
enough (suc f) (suc g) now x few few' = step (next now x) refl (enough f g now (acted (Write now) x)) where
  step : (items : List Item) → next now x ≡ items
      → (left (acted (Write now) x) < f → left (acted (Write now) x) < g
      → writing_within f now (acted (Write now) x) ≡ writing_within g now (acted (Write now) x))
      → writing_within f now (acted (Write now) x) ≡ writing_within g now (acted (Write now) x)
  step [] none go =
      ap (writing_within f now) (nothing_acted now x none) ∙ stays f now x none
      ∙ sym (ap (writing_within g now) (nothing_acted now x none) ∙ stays g now x none)
  step (i ∷ is) some go =
      let less = less_left now x.peer (λ none. cons_not_nil i is (sym some ∙ none)) in
      go (omega (arith, less, few)) (omega (arith, less, few'))

-- ---- step by step

pub written_out-step : (now : ℕ) (x : Side) → next_items (at_moment now x.peer) ≢ []
    → written_out now (acted (Write now) x) ≡ written_out now x
unfolding written_out wrote_next
written_out-step now x some =
    enough (suc (left (acted (Write now) x))) (left x) now (acted (Write now) x) (omega arith) (less_left now x.peer some)

pub written_out-last : (now : ℕ) (x : Side) → going_out (at_moment now x.peer) ≡ [] → acted (Write now) x ≡ written_out now x
unfolding written_out
written_out-last now x none = sym (ap (λ (xs : List Item). writing_within (suc (length xs)) now x) none)

-- ---- the next datagram

-- there is one, so something is written, and it is that which the side notes
pub record Notes (r : PeerRecord) (items : List Item) (d : Datagram) : Type 0 where
  pub some : items ≢ []
  pub wrote : Written
  pub noted : one_written r items ≡ wrote ∷ []
  pub is : datagram_by wrote ≡ d

pub notes : (r : PeerRecord) (items : List Item) (d : Datagram) → datagram_if r items ≡ Some d → Notes r items d
notes r [] d e = absurd (none_not_some d e) where
  none_not_some : (d : Datagram) → None ≡ Some d → ⊥
  none_not_some d e = grind arith
notes r (x ∷ xs) d e =
    record {
      some = λ (e : (x ∷ xs) ≡ []). absurd (let l : length (x ∷ xs) ≡ 0 = ap length e in omega (arith, l));
      wrote = record { by = r; items = x ∷ xs };
      noted = refl;
      is = same d e;
    }
  where
    same : (d : Datagram) → Some (items_datagram r (x ∷ xs)) ≡ Some d → items_datagram r (x ∷ xs) ≡ d
    same d e = grind arith

-- how much is left of a peer
pub items_due-is : (p : Peer) (r : PeerRecord) → IsPeerOf p r → items_due p ≡ length (going_out r)
items_due-is p r h =
    ap (λ (as' : List Answer). length as' + length (due_if (is_shut p.state) (held_by p))) (sym h.pending)
    ∙ ap (λ (s : PeerState). length r.pending + length (due_if (is_shut s) (held_by p))) (sym h.state)
    ∙ ap (λ (us : List Unacknowledged). length r.pending + length (due_if (is_shut r.state) us)) (sym h.unacknowledged)
    ∙ sym (
    length-append (map Answers r.pending) (map (λ (u : Unacknowledged). Orders u.order) (due_if (is_shut r.state) r.unacknowledged))
    ∙ ap (λ (n : ℕ). n + length (map (λ (u : Unacknowledged). Orders u.order) (due_if (is_shut r.state) r.unacknowledged))) (length-map r.pending Answers)
    ∙ ap (λ (n : ℕ). length r.pending + n) (length-map (due_if (is_shut r.state) r.unacknowledged) (λ (u : Unacknowledged). Orders u.order))
    )

-- ---- its bytes

-- what was written to the front is the datagram
pub bytes_written : (r : PeerRecord) (now size : ℕ) (new : Peer) (before after bytes : List ℕ)
    → WritesDatagram r now size new before after → bytes ≡ take size after → WritesBytes r now bytes new
bytes_written r now size new before after bytes w front =
    record {
      datagram = w.datagram;
      is_next = w.is_next;
      stands = w.stands;
      bytes_are = front ∙ ap (λ (xs : List ℕ). take size xs) w.written
          ∙ ap (λ (n : ℕ). take n (spelling w.datagram ++ drop size before)) w.sized
          ∙ take-append_seam (spelling w.datagram) (drop size before);
      read_again = w.spelled;
    }

-- whatever was written, the peer stands for a record
pub wrote_known : (now : ℕ) (old new : Peer) → HasRecord old → ((r : PeerRecord) → IsPeerOf old r → IsPeerOf new (wrote_next now r))
    → HasRecord new
wrote_known now old new known next = λ none. known (λ r h. none (wrote_next now r) (next r h))

-- less is left of a peer that wrote something
pub fewer_due : (now : ℕ) (old new : Peer) (bytes : List ℕ) → HasRecord old
    → ((r : PeerRecord) → IsPeerOf old r → WritesSome r now (Some bytes) new) → items_due new < items_due old
fewer_due now old new bytes known next = elim (cases_lt (items_due new) (items_due old)) [
  | inl less ↦ less
  | inr not ↦ absurd (known (λ r h.
      let w = next r h in
      let some = (notes (at_moment now r) (next_items (at_moment now r)) w.datagram w.is_next).some in
      let had = items_due-is old r h in
      let has = items_due-is new (wrote_next now r) w.stands in
      let less = less_left now r some in
      omega (arith, not, had, has, less)))
]

-- and its bytes are those of a datagram that was written
pub was_written : (now : ℕ) (old new : Peer) (bytes : List ℕ) → HasRecord old
    → ((r : PeerRecord) → IsPeerOf old r → WritesBytes r now bytes new) → IsWrittenBytes bytes
was_written now old new bytes known next = λ none. known (λ r h.
    let w = next r h in
    let noted = notes (at_moment now r) (next_items (at_moment now r)) w.datagram w.is_next in
    let again : IsReadAsItself noted.wrote = subst (λ (d : Datagram). SpellsDatagram (spelling d) d) (sym noted.is) w.read_again in
    none noted.wrote (w.bytes_are ∙ ap spelling (sym noted.is)) again)
