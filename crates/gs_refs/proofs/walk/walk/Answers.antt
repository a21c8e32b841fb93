use Rattle.std.proofs.Common.{◌≡◌, ◌+◌, ◌-◌, ◌∙◌, ℕ, List, ◌∷◌, length, take, reverse, refl, sym, ap, subst, arith, inl, inr}
use Rattle.std.specs.Prelude.{min}
use Rattle.std.proofs.lemmas.List.{take_all}
use Rattle.gs_refs.specs.declared.entry.Entry.{Entry}
use Rattle.gs_refs.specs.declared.entry.Entry.TheVariants as entry
use Rattle.gs_refs.specs.History.{frames}
use Rattle.gs_refs.proofs.Walking.{Walked, Passes, met, walked-none, walked-all, walked-found, walked-idr, walked-invalid}
use Rattle.gs_refs.proofs.walk.walk.Goals as goal
use Rattle.gs_refs.proofs.walk.walk.Goals.{else-frame-greatest-via-then-frame-greatest+else-names, else-frame-greatest-via-else-frame-greatest}

pub loop-place-init : goal.loop-place-init
loop-place-init c =
    let entries = c.args.entries.now in
    let whole : reverse (take (length entries) entries) ≡ reverse entries =
    ap (λ (l : List Entry). reverse l) (take_all (length entries) entries (omega arith)) in
    record {
      count = c.requires ∙ sym (ap frames whole);
      walked = subst (λ (l : List Entry). Walked (reverse entries) c.args.tick.now l c.args.sent) (sym whole)
          (walked-none (reverse entries) c.args.tick.now c.args.sent c.requires);
    }

pub returns-then-names : goal.returns-then-names
returns-then-names c =
    let entries = c.args.entries.now in
    let h = reverse entries in
    let t = c.args.tick.now in
    let place = c.loop-place.place in
    let at = met entries place _ _ (omega arith) (omega arith) c.in-Sent.is in
    let walked = subst (λ (l : List Entry). Walked h t l c.loop-place.greatest) at c.loop-place.invariant.walked in
    walked-found h t c.in-Sent.number c.in-Sent.kind c.in-Sent.reference (reverse (take (place - 1) entries)) c.loop-place.greatest walked
    (record { frame = c.loop-place.frame; tick = c.in-Sent.number }) (c.loop-place.invariant.count ∙ ap frames at) refl (omega arith)
    (sym c.names.ensures ∙ c.if-names.true)

pub returns-then-kind-eq2 : goal.returns-then-kind-eq2
returns-then-kind-eq2 c =
    let entries = c.args.entries.now in
    let h = reverse entries in
    let t = c.args.tick.now in
    let place = c.loop-place.place in
    let rest = reverse (take (place - 1) entries) in
    let number = c.in-Sent.number in
    let reference = c.in-Sent.reference in
    let greatest = c.loop-place.greatest in
    let at = met entries place _ _ (omega arith) (omega arith) c.in-Sent.is in
    let walked = subst (λ (l : List Entry). Walked h t l greatest) at c.loop-place.invariant.walked in
    let count = c.loop-place.invariant.count ∙ ap frames at in
    let is_idr : c.in-Sent.kind ≡ 2 = omega arith in
    let passes : Passes t number (frames rest + 1) greatest = elim c.else-frame-greatest.branch [
      | else-frame-greatest-via-then-frame-greatest+else-names w ↦ inr (sym w.names.ensures ∙ w.if-names.false)
      | else-frame-greatest-via-else-frame-greatest w ↦ inl (omega (arith, count, w.if-frame-greatest.false))
    ] in
    walked-idr h t number reference rest greatest (subst (λ (k : ℕ). Walked h t (entry.Sent number k reference ∷ rest) greatest) is_idr walked) passes

pub loop-place-preserved-in-Invalid : goal.loop-place-preserved-in-Invalid
loop-place-preserved-in-Invalid c =
    let entries = c.args.entries.now in
    let h = reverse entries in
    let t = c.args.tick.now in
    let place = c.loop-place.place in
    let rest = reverse (take (place - 1) entries) in
    let greatest = c.loop-place.greatest in
    let at = met entries place _ _ (omega arith) (omega arith) c.in-Invalid.is in
    let walked = subst (λ (l : List Entry). Walked h t l greatest) at c.loop-place.invariant.walked in
    let now = c.min-greatest.ensures ∙ ap (min greatest) c.saturating_sub.ensures in
    record {
      count = c.loop-place.invariant.count ∙ ap frames at;
      walked = subst (λ (g : ℕ). Walked h t rest g) (sym now) (walked-invalid h t c.in-Invalid.first c.in-Invalid.last rest greatest walked);
    }

pub returns : goal.returns
returns c =
    let entries = c.args.entries.now in
    let h = reverse entries in
    let t = c.args.tick.now in
    let done : c.loop-place.place ≡ 0 = omega arith in
    walked-all h t c.loop-place.greatest
    (subst (λ (n : ℕ). Walked h t (reverse (take n entries)) c.loop-place.greatest) done c.loop-place.invariant.walked)
