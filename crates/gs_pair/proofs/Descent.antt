-- A handed frame's reference is handed, and behind the last reset before the frame.
use Rattle.std.proofs.Common.{◌≡◌, ◌≢◌, ◌⊎◌, ◌<◌, ◌≤◌, ◌+◌, ℕ, zero, suc, true, false, not, ◌&&◌, ◌||◌, List, [], ◌∷◌, Some, refl, sym, subst, ◌∙◌, arith, inl}
use Rattle.std.proofs.Common.{inr}
use Rattle.std.specs.Prelude.{◌==◌, nat_lt}
use Rattle.std.specs.List.{Contains, list_any}
use Rattle.std.proofs.lemmas.Bool.{cases_eq, cases_lt, eq-eqb, eqb-true, ne_eqb, ltb-true, and_parts, and_from, or_cases, or_left, or_right, or_from}
use Rattle.std.proofs.lemmas.Bool.{not_from_false, false_from_ne_true, false≢true}
use Rattle.std.proofs.lemmas.List.{append_assoc}
use Rattle.std.proofs.lemmas.List.Folds.{Any-from_list_any, list_any-from_Any}
use Rattle.gs_tape.specs.Tick.{Tick}
use Rattle.gs_refs.specs.declared.entry.Entry.{Entry}
use Rattle.gs_refs.specs.declared.entry.Entry.TheVariants.{Sent, Invalid, IdrAsked, Ended}
use Rattle.gs_refs.specs.History.{frames, frame_kind, reference_of, is_valid, IsValid}
use Rattle.gs_refs.specs.Choice.{IsLegal}
use Rattle.gs_refs.proofs.Choices.{valid_was_sent}
use Rattle.gs_refs.proofs.Lookups.{frame_kind-sent, frame_kind-before, reference_of-sent, reference_of-before, it_refers}
use Rattle.gs_frames.specs.declared.range.Range.{Range}
use Rattle.gs_frames.specs.Client.{ClientSettings, HasWindow, Arrival}
use Rattle.gs_frames.specs.Image.{Frame}
use Rattle.gs_frames.specs.ImageLaws.{IsWrittenKind}
use Rattle.gs_frames.specs.Received.{taken}
use Rattle.gs_frames.specs.Complete.{complete}
use Rattle.gs_frames.specs.Settled.{settled}
use Rattle.gs_frames.specs.Handed.{Handed, is_re_entry, settled_at_resets, is_barred, handed}
use Rattle.gs_frames.specs.Asks.{asks}
use Rattle.gs_frames.specs.HandedLaws.{handed_below, IsToHand}
use Rattle.gs_frames.proofs.HandedGrows.{handed_exactly}
use Rattle.gs_bytes.specs.Prefix.{IsPrefixOf}
use Rattle.gs_stream.specs.Paired.{invalid_ranges}
use Rattle.gs_pair.proofs.Valid.{IsFollower, follower, valid_below, valid_is_apart, none_before_idr}
use Rattle.gs_pair.proofs.Asked.{below_asked}
use Rattle.gs_pair.proofs.Barred.{below_is, is_below, idr_since, barred_is}

-- each frame has a kind that is written, what is complete has the kind that was sent, and what the host took as
-- invalid was asked for first
pub record Agrees (client : ClientSettings) (came : List Arrival) (h : List Entry) : Type 0 where
  pub written : (f : ℕ) → 1 ≤ f → f ≤ frames h → IsWrittenKind (frame_kind h f)
  pub kinds : (f : ℕ) (held : Frame) → 1 ≤ f → f ≤ frames h → complete client (taken client came) f ≡ Some held → held.kind ≡ frame_kind h f
  pub asked : IsPrefixOf (invalid_ranges h) (asks client came)

agrees_before : (client : ClientSettings) (came : List Arrival) (e : Entry) (h : List Entry) → Agrees client came (e ∷ h) → Agrees client came h
agrees_before client came (Sent tick kind reference) h agrees =
    let same : (f : ℕ) → f ≤ frames h → frame_kind (Sent tick kind reference ∷ h) f ≡ frame_kind h f =
    λ f most. frame_kind-before h tick kind reference f (λ last. absurd (omega (arith, last))) in
    record {
      written = λ f least most. subst IsWrittenKind (same f most) (agrees.written f least (omega arith));
      kinds = λ f held least most e. agrees.kinds f held least (omega arith) e ∙ same f most;
      asked = agrees.asked;
    }
agrees_before client came (Invalid first last) h agrees =
    let range : Range = record { first = first; last = last } in
    record {
      written = agrees.written;
      kinds = agrees.kinds;
      asked = (range ∷ agrees.asked.0, agrees.asked.1 ∙ append_assoc (invalid_ranges h) (range ∷ []) agrees.asked.0);
    }
agrees_before client came IdrAsked h agrees = record { written = agrees.written; kinds = agrees.kinds; asked = agrees.asked }
agrees_before client came (Ended first last) h agrees = record { written = agrees.written; kinds = agrees.kinds; asked = agrees.asked }

handed_kind : (client : ClientSettings) (came : List Arrival) (h : List Entry) (g : Handed) → Agrees client came h → IsToHand client came g
    → g.frame ≤ frames h → g.kind ≡ frame_kind h g.frame
handed_kind client came h g agrees is most = agrees.kinds g.frame (record { kind = g.kind; unit = g.unit }) is.least most is.is_complete

-- the frame that goes out behind a history, which is handed and refers to another
pub record IsNext (client : ClientSettings) (came : List Arrival) (h : List Entry) (next : Handed) : Type 0 where
  pub number : next.frame ≡ frames h + 1
  pub to_hand : IsToHand client came next
  pub no_idr : next.kind ≢ 2

-- a handed frame of this number
pub record IsHandedFrame (client : ClientSettings) (came : List Arrival) (v : ℕ) (g : Handed) : Type 0 where
  pub among : Contains (handed client came) g
  pub number : g.frame ≡ v

-- ---- valid frames and resets

-- an IDR frame that was handed before the next frame isn't behind a valid one
idr_not_behind : (client : ClientSettings) (came : List Arrival) (h : List Entry) (next idr : Handed) (v : ℕ) → Agrees client came h
    → IsNext client came h next → IsValid h v → Contains (handed client came) idr → idr.kind ≡ 2 → idr.frame < next.frame → idr.frame ≤ v
idr_not_behind client came h next idr v agrees is valid among two before = elim (cases_lt v idr.frame) [
  | inr upto ↦ upto
  | inl behind ↦
      let number : next.frame ≡ frames h + 1 = is.number in
      let kind_is = handed_kind client came h idr agrees ((handed_exactly client came idr).0 among) (omega arith) in
      absurd (none_before_idr h v idr.frame behind (omega arith) (sym kind_is ∙ two) valid)
]

-- a valid frame is behind each reset before the next frame
valid_since : (client : ClientSettings) (came : List Arrival) (h : List Entry) (next : Handed) (v : ℕ) → Agrees client came h
    → IsNext client came h next → IsValid h v → (s : ℕ) → Contains (settled_at_resets client came) s → s < next.frame → s < v
valid_since client came h next v agrees is valid s reset before =
    let found = idr_since client came next is.to_hand is.no_idr s reset before in
    let between = found.1 in
    let upto = idr_not_behind client came h next found.0 v agrees is valid between.among between.kind between.before in
    let behind : s < found.0.frame = between.behind in
    omega arith

-- a valid frame that is complete isn't barred
valid_not_barred : (client : ClientSettings) (came : List Arrival) (h : List Entry) (next : Handed) (v : ℕ) (held : Frame) → Agrees client came h
    → IsNext client came h next → IsValid h v → complete client (taken client came) v ≡ Some held
    → is_barred (settled_at_resets client came) (handed_below client came v) v held.kind ≡ true → ⊥
valid_not_barred client came h next v held agrees is valid done barred =
    let number : next.frame ≡ frames h + 1 = is.number in
    let sent = valid_was_sent h v valid in
    let by = barred_is client came v held.kind barred in
    let bar = by.1 in
    let reset : ℕ = bar.0 in
    let before : reset < v = bar.1.before in
    let found = idr_since client came next is.to_hand is.no_idr reset bar.1.is_reset (omega (arith, sent.1)) in
    let idr = found.0 in
    let between = found.1 in
    let upto : idr.frame ≤ v = idr_not_behind client came h next idr v agrees is valid between.among between.kind between.before in
    elim (cases_lt idr.frame v) [
      | inl below ↦ bar.1.no_idr idr (record { among = between.among; kind = between.kind; behind = between.behind; before = below })
      | inr not_below ↦
          let same : idr.frame ≡ v = omega arith in
          let whole = ((handed_exactly client came idr).0 between.among).is_complete in
          let Whole : ℕ → Type 0 = λ k. complete client (taken client came) k ≡ Some (record { kind = idr.kind; unit = idr.unit }) in
          let it = sym done ∙ subst Whole same whole in
          let kind_is : held.kind ≡ idr.kind = cc it in
          absurd (by.0 (kind_is ∙ between.kind))
    ]

-- ---- valid frames below a lost range

-- the frame below was handed
follows-from : (client : ClientSettings) (came : List Arrival) (u : ℕ) (g : Handed) → IsHandedFrame client came u g
    → list_any (λ h. h.frame + 1 == suc u) (handed_below client came (suc u)) ≡ true
follows-from client came u g is =
    let number : g.frame ≡ u = is.number in
    let below = is_below client came (suc u) g is.among (omega arith) in
    list_any-from_Any (λ h. h.frame + 1 == suc u) (handed_below client came (suc u))
    (below.0, g, below.1, below.2, eq-eqb (g.frame + 1) (suc u) (omega arith))

-- a complete frame below the next one that isn't barred, and is a re-entry frame or follows a handed one, is handed
hands : (client : ClientSettings) (came : List Arrival) (next : Handed) (v : ℕ) (held : Frame) → IsToHand client came next → 1 ≤ v → v < next.frame
    → complete client (taken client came) v ≡ Some held
    → is_barred (settled_at_resets client came) (handed_below client came v) v held.kind ≡ false
    → (is_re_entry held.kind || list_any (λ h. h.frame + 1 == v) (handed_below client came v)) ≡ true
    → (g : Handed) × IsHandedFrame client came v g
hands client came next v held is least below done free follows =
    let one : Handed = record { frame = v; kind = held.kind; unit = held.unit } in
    let barred = is_barred (settled_at_resets client came) (handed_below client came v) v held.kind in
    let most : next.frame ≤ settled client (taken client came) = is.is_settled in
    let to_hand : IsToHand client came one = record {
      least = least;
      is_settled = omega arith;
      is_complete = done;
      is_to_hand = and_from (not barred) (is_re_entry held.kind || list_any (λ h. h.frame + 1 == v) (handed_below client came v))
          (not_from_false barred free) follows;
    } in
    (one, record { among = (handed_exactly client came one).1 to_hand; number = refl })

-- where a range became invalid, each valid frame below it is handed
valid_is_handed : (client : ClientSettings) (ticks : List Tick) (came : List Arrival) (h : List Entry) (first last v : ℕ) (next : Handed)
    → HasWindow client → IsLegal ticks h → Agrees client came (Invalid first last ∷ h) → IsNext client came h next → IsValid h v → v < first
    → (g : Handed) × IsHandedFrame client came v g
valid_is_handed client ticks came h first last zero next window legal agrees is valid below =
    let sent = valid_was_sent h 0 valid in absurd (omega (arith, sent.0))
valid_is_handed client ticks came h first last (suc u) next window legal agrees is valid below =
    let sent = valid_was_sent h (suc u) valid in
    let range : Range = record { first = first; last = last } in
    let rest = agrees.asked.0 in
    let order = agrees.asked.1 ∙ append_assoc (invalid_ranges h) (range ∷ []) rest in
    let before = agrees_before client came (Invalid first last) h agrees in
    let number : next.frame ≡ frames h + 1 = is.number in
    elim (below_asked client came (invalid_ranges h) rest range (suc u) window order sent.0 below) [
      | inl done ↦
          let kind = done.0.kind in
          let kind_is = before.kinds (suc u) done.0 sent.0 sent.1 done.1 in
          let follows = list_any (λ g. g.frame + 1 == suc u) (handed_below client came (suc u)) in
          let free =
          false_from_ne_true (is_barred (settled_at_resets client came) (handed_below client came (suc u)) (suc u) kind)
          (valid_not_barred client came h next (suc u) done.0 before is valid done.1) in
          hands client came next (suc u) done.0 is.to_hand sent.0 (omega (arith, sent.1)) done.1 free
          (elim (before.written (suc u) sent.0 sent.1) [
            | inl one ↦
                let lower = valid_below ticks h u legal valid one in
                let g = valid_is_handed client ticks came h first last u next window legal agrees is lower (omega arith) in
                or_right (is_re_entry kind) follows (follows-from client came u g.0 g.1)
            | inr (inl two) ↦ or_left (is_re_entry kind) follows (or_left (kind == 2) (kind == 5) (eq-eqb kind 2 (kind_is ∙ two)))
            | inr (inr five) ↦ or_left (is_re_entry kind) follows (or_right (kind == 2) (kind == 5) (eq-eqb kind 5 (kind_is ∙ five)))
          ])
      | inr asked ↦ absurd (valid_is_apart ticks h (suc u) asked.0 legal valid asked.1 asked.2 asked.3)
    ]

-- where the last frame of a history isn't valid, each valid one is handed
older_is_handed : (client : ClientSettings) (ticks : List Tick) (came : List Arrival) (h : List Entry) (v : ℕ) (next : Handed) → HasWindow client
    → IsLegal ticks h → Agrees client came h → IsNext client came h next → is_valid h (frames h) ≡ false → IsValid h v
    → (g : Handed) × IsHandedFrame client came v g
older_is_handed client ticks came [] v next window legal agrees is lost valid = absurd (false≢true valid)
older_is_handed client ticks came (Sent tick kind reference ∷ h) v next window legal agrees is lost valid =
    let last : is_valid (Sent tick kind reference ∷ h) (frames h + 1) ≡ true =
    or_left (frames h + 1 == frames h + 1) (not (kind == 2) && is_valid h (frames h + 1)) (eq-eqb (frames h + 1) (frames h + 1) refl) in
    absurd (false≢true (sym lost ∙ last))
older_is_handed client ticks came (Invalid first last ∷ h) v next window legal agrees is lost valid =
    let parts = and_parts (nat_lt v first) (is_valid h v) valid in
    valid_is_handed client ticks came h first last v next window legal.0 agrees
    (record { number = is.number; to_hand = is.to_hand; no_idr = is.no_idr }) parts.1 (ltb-true v first parts.0)
older_is_handed client ticks came (IdrAsked ∷ h) v next window legal agrees is lost valid =
    older_is_handed client ticks came h v next window legal.0 (agrees_before client came IdrAsked h agrees)
    (record { number = is.number; to_hand = is.to_hand; no_idr = is.no_idr }) lost valid
older_is_handed client ticks came (Ended first last ∷ h) v next window legal agrees is lost valid =
    older_is_handed client ticks came h v next window legal.0 (agrees_before client came (Ended first last) h agrees)
    (record { number = is.number; to_hand = is.to_hand; no_idr = is.no_idr }) lost valid

-- ---- references

-- the reference is handed, is an earlier frame, and is behind each reset before the frame
pub record IsHandedBefore (client : ClientSettings) (came : List Arrival) (f reference : ℕ) : Type 0 where
  pub one : Handed
  pub is : IsHandedFrame client came reference one
  pub earlier : reference < f
  pub since : (s : ℕ) → Contains (settled_at_resets client came) s → s < f → s < reference

one_is_no_re_entry : (kind : ℕ) → kind ≡ 1 → is_re_entry kind ≡ false
one_is_no_re_entry kind one =
    or_from (kind == 2) (kind == 5) (ne_eqb kind 2 (λ e. absurd (omega (arith, e)))) (ne_eqb kind 5 (λ e. absurd (omega (arith, e))))

-- a handed frame of kind 1 follows a handed one
follows-is : (client : ClientSettings) (came : List Arrival) (next : Handed) (v : ℕ) → IsToHand client came next → next.kind ≡ 1 → next.frame ≡ v + 1
    → (g : Handed) × IsHandedFrame client came v g
follows-is client came next v is one number =
    let below = handed_below client came next.frame in
    let follows = list_any (λ h. h.frame + 1 == next.frame) below in
    let barred = is_barred (settled_at_resets client came) below next.frame next.kind in
    let parts = and_parts (not barred) (is_re_entry next.kind || follows) is.is_to_hand in
    elim (or_cases (is_re_entry next.kind) follows parts.1) [
      | inl re ↦ absurd (false≢true (sym (one_is_no_re_entry next.kind one) ∙ re))
      | inr found ↦
          let any = Any-from_list_any (λ h. h.frame + 1 == next.frame) below found in
          let g : Handed = any.1 in
          let at = eqb-true (g.frame + 1) next.frame any.4 in
          (g, record { among = (below_is client came next.frame g (any.0, any.2, any.3)).0; number = omega arith })
    ]

-- of the frame that was sent last
last_reference : (client : ClientSettings) (ticks : List Tick) (came : List Arrival) (h : List Entry) (tick kind reference : ℕ) (next : Handed)
    → HasWindow client → IsLegal ticks (Sent tick kind reference ∷ h) → Agrees client came (Sent tick kind reference ∷ h) → IsToHand client came next
    → next.frame ≡ frames h + 1 → (kind ≡ 1) ⊎ (kind ≡ 5) → IsHandedBefore client came next.frame reference
last_reference client ticks came h tick kind reference next window legal agrees to_hand number known =
    record { one = found.0; is = found.1; earlier = omega (arith, sent.1); since = valid_since client came h next reference before is valid }
  where
    other : kind ≢ 2
    other two = elim known [ inl one ↦ absurd (omega (arith, one, two)) | inr five ↦ absurd (omega (arith, five, two)) ]

    from : IsFollower h kind reference
    from = follower ticks h tick kind reference legal

    before : Agrees client came h
    before = agrees_before client came (Sent tick kind reference) h agrees

    kind_is : next.kind ≡ kind
    kind_is =
        handed_kind client came (Sent tick kind reference ∷ h) next agrees to_hand (omega arith)
        ∙ frame_kind-sent h tick kind reference next.frame number

    is : IsNext client came h next
    is = record { number = number; to_hand = to_hand; no_idr = λ two. other (sym kind_is ∙ two) }

    valid : IsValid h reference
    valid = from.refers_to_valid other

    sent : (1 ≤ reference) × (reference ≤ frames h)
    sent = valid_was_sent h reference valid

    found : (g : Handed) × IsHandedFrame client came reference g
    found = elim known [
      | inl one ↦
          let last : reference ≡ frames h = from.follows_last one in
          follows-is client came next reference to_hand (kind_is ∙ one) (omega arith)
      | inr five ↦ older_is_handed client ticks came h reference next window legal.0 before is (from.last_is_lost five) valid
    ]

-- where a handed frame refers to another, that other is handed before it
pub reference_is_handed : (client : ClientSettings) (ticks : List Tick) (came : List Arrival) (h : List Entry) (next : Handed) (reference : ℕ)
    → HasWindow client → IsLegal ticks h → Agrees client came h → IsToHand client came next → reference_of h next.frame ≡ Some reference
    → IsHandedBefore client came next.frame reference
reference_is_handed client ticks came [] next reference window legal agrees to_hand refers = absurd (cc refers)
reference_is_handed client ticks came (Sent tick kind named ∷ h) next reference window legal agrees to_hand refers =
    elim (cases_eq next.frame (frames h + 1)) [
      | inl last ↦
          let it = it_refers kind named reference (sym (reference_of-sent h tick kind named next.frame last) ∙ refers) in
          let Before : ℕ → Type 0 = IsHandedBefore client came next.frame in
          subst Before it.1 (last_reference client ticks came h tick kind named next window legal agrees to_hand last it.0)
      | inr other ↦
          let before = sym (reference_of-before (Sent tick kind named) h next.frame other) ∙ refers in
          reference_is_handed client ticks came h next reference window legal.0 (agrees_before client came (Sent tick kind named) h agrees) to_hand before
    ]
reference_is_handed client ticks came (Invalid first last ∷ h) next reference window legal agrees to_hand refers =
    reference_is_handed client ticks came h next reference window legal.0 (agrees_before client came (Invalid first last) h agrees) to_hand refers
reference_is_handed client ticks came (IdrAsked ∷ h) next reference window legal agrees to_hand refers =
    reference_is_handed client ticks came h next reference window legal.0 (agrees_before client came IdrAsked h agrees) to_hand refers
reference_is_handed client ticks came (Ended first last ∷ h) next reference window legal agrees to_hand refers =
    reference_is_handed client ticks came h next reference window legal.0 (agrees_before client came (Ended first last) h agrees) to_hand refers
