-- Repeated writing writes all.
use Rattle.std.proofs.Common.{◌≡◌, ◌≤◌, ◌+◌, ◌-◌, ℕ, zero, suc, List, [], ◌∷◌, length, drop, Option, Some, None, refl, sym, ap, ◌∙◌, arith}
use Rattle.std.proofs.lemmas.List.{length-drop}
use Rattle.gs_enet_wire.specs.declared.datagram.Datagram.{Datagram}
use Rattle.gs_enet.specs.Record.{PeerRecord, at_moment}
use Rattle.gs_enet.specs.Write.{Item, going_out, fitting, next_items, wrote_next, items_datagram, datagram_if, next_datagram, before_rest, written_within}
use Rattle.gs_enet.specs.Write.{written}
use Rattle.gs_enet.specs.WrittenLaw.{WrittenByRepeating}
use Rattle.gs_enet.proofs.Outgoing.{going_out-less}

pub left_after : (now : ℕ) (r : PeerRecord)
    → length (going_out (wrote_next now r)) ≡ length (going_out r) - length (next_items (at_moment now r))
unfolding wrote_next
left_after now r =
    let n : ℕ = length (next_items (at_moment now r)) in
    ap length (going_out-less n (at_moment now r)) ∙ length-drop n (going_out r)

nothing_next : (now : ℕ) (r : PeerRecord) → length (going_out r) ≤ 0 → next_datagram now r ≡ None
unfolding next_items
nothing_next now r few = ap (λ (xs : List Item). datagram_if t (fitting t 1388 xs)) (is_nil (going_out r) few) where
  t : PeerRecord
  t = at_moment now r

  is_nil : (xs : List Item) → length xs ≤ 0 → xs ≡ []
  is_nil [] e = refl
  is_nil (x ∷ xs) e = absurd (omega (arith, e))

-- more datagrams than there are items are never written
enough : (f g now : ℕ) (r : PeerRecord) → length (going_out r) ≤ f → length (going_out r) ≤ g → written_within f now r ≡ written_within g now r
enough zero zero now r few few' = refl
enough zero (suc g) now r few few' =
    sym (ap (λ (d : Option Datagram). before_rest d (written_within g now (wrote_next now r))) (nothing_next now r few))
enough (suc f) zero now r few few' =
    ap (λ (d : Option Datagram). before_rest d (written_within f now (wrote_next now r))) (nothing_next now r few')
enough (suc f) (suc g) now r few few' = step (next_items (at_moment now r)) (left_after now r) (enough f g now (wrote_next now r)) where
  step : (items : List Item) → length (going_out (wrote_next now r)) ≡ length (going_out r) - length items
      → (length (going_out (wrote_next now r)) ≤ f → length (going_out (wrote_next now r)) ≤ g
      → written_within f now (wrote_next now r) ≡ written_within g now (wrote_next now r))
      → before_rest (datagram_if (at_moment now r) items) (written_within f now (wrote_next now r))
      ≡ before_rest (datagram_if (at_moment now r) items) (written_within g now (wrote_next now r))
  step [] less go = refl
  step (x ∷ xs) less go =
      ap (λ (ds : List Datagram). items_datagram (at_moment now r) (x ∷ xs) ∷ ds) (go (omega (arith, less, few)) (omega (arith, less, few')))

pub repeating : WrittenByRepeating
repeating r now =
    let n : ℕ = length (going_out r) in
    let once : written r now ≡ before_rest (next_datagram now r) (written_within n now (wrote_next now r)) =
    enough n (suc n) now r (omega arith) (omega arith) in (
      λ d next. once ∙ ap (λ (o : Option Datagram). before_rest o (written_within n now (wrote_next now r))) next
          ∙ ap (λ (ds : List Datagram). d ∷ ds)
          (enough n (length (going_out (wrote_next now r))) now (wrote_next now r) (omega (arith, left_after now r)) (omega arith)),
      λ none. once ∙ ap (λ (o : Option Datagram). before_rest o (written_within n now (wrote_next now r))) none,
    )
