use Rattle.std.proofs.Common.{◌≡◌, ◌∙◌, List, Ok, refl, sym, ap, subst, inl, inr, w64}
use Rattle.std.proofs.lemmas.Int.{to_z-of_z}
use Rattle.std.proofs.lemmas.Result.{err_from_is_err_and}
use Rattle.gs_refs.specs.declared.entry.Entry.{Entry}
use Rattle.gs_refs.specs.Choice.{IsLegal}
use Rattle.gs_refs.specs.Answers.{invalidate_answer}
use Rattle.gs_split.specs.Splitting.{next_count}
use Rattle.gs_host_core.specs.declared.act.Act.{Act}
use Rattle.gs_host_core.specs.declared.act.Act.TheVariants as act
use Rattle.gs_host_core.specs.Acts.{answer_with, history_behind, range_told}
use Rattle.gs_host_core.specs.Hosting.{Hosting, IsHostingSound, StandsOver}
use Rattle.gs_host_core.proofs.Lists.{err-same}
use Rattle.gs_host_core.proofs.Acted.{range-behind, same-act, same-range, sound-quiet, stands-quiet}
use Rattle.gs_host_core.proofs.host.Host.invalidate.Goals as goal

pub invariant_of-self : goal.invariant_of-self
invariant_of-self c =
    subst (λ (h : List Entry). IsHostingSound c.self.inside.splitter.settings h c.self.inside.audio) (sym c.reserve.ensures.history) c.self.invariant

pub returns-in_err-reserve-clause-told : goal.returns-in_err-reserve-clause-told
returns-in_err-reserve-clause-told c =
    let it = c.self.inside in
    let p = err_from_is_err_and c.from_residual.result c.from_residual.ensures.1 in
    let view : List Entry → Hosting =
    λ h. record { settings = it.splitter.settings; history = h; count = next_count it.splitter; audio = it.audio } in
    inr (err-same p.1 p.2, ap view c.reserve.ensures.history ∙ c.self.view_is)

pub returns-in_err-reserve-clause-stands : goal.returns-in_err-reserve-clause-stands
returns-in_err-reserve-clause-stands c = λ ticks stands.
    let it = c.self.inside in
    let view : List Entry → Hosting =
    λ h. record { settings = it.splitter.settings; history = h; count = next_count it.splitter; audio = it.audio } in
    subst (λ (v : Hosting). StandsOver v ticks) (sym (ap view c.reserve.ensures.history ∙ c.self.view_is)) stands

pub returns-in_err-reserve-clause-legal : goal.returns-in_err-reserve-clause-legal
returns-in_err-reserve-clause-legal c = λ ticks legal.
    subst (λ (h : List Entry). IsLegal ticks h) (sym (c.reserve.ensures.history ∙ ap (λ (v : Hosting). v.history) c.self.view_is)) legal

pub invariant_of-self-in_err-invalidate : goal.invariant_of-self-in_err-invalidate
invariant_of-self-in_err-invalidate c =
    let it = c.self.inside in
    let h = c.reserve.new.self.history in
    let now = c.invalidate.new.self.history in
    let behind : now ≡ history_behind h (act.Invalidate c.args.first c.args.last) =
    range-behind h now c.args.first c.args.last (to_z-of_z w64 c.args.first c.ranges.first) (to_z-of_z w64 c.args.last c.ranges.last)
    c.in_err-invalidate.ensures.unchanged c.in_err-invalidate.ensures.named in
    sound-quiet it.splitter.settings h now it.audio (act.Invalidate c.args.first c.args.last) behind
    (subst (λ (x : List Entry). IsHostingSound it.splitter.settings x it.audio) (sym c.reserve.ensures.history) c.self.invariant)

pub returns-in_err-invalidate-clause-told : goal.returns-in_err-invalidate-clause-told
returns-in_err-invalidate-clause-told c =
    let p = err_from_is_err_and c.from_residual-in_err-invalidate.result c.from_residual-in_err-invalidate.ensures.1 in
    let a = act.Invalidate c.args.first c.args.last in
    let h = c.reserve.new.self.history in
    let now = c.invalidate.new.self.history in
    let kept : h ≡ c.args.self.now.history = c.reserve.ensures.history ∙ ap (λ (v : Hosting). v.history) c.self.view_is in
    let behind : now ≡ history_behind h a =
    range-behind h now c.args.first c.args.last (to_z-of_z w64 c.args.first c.ranges.first) (to_z-of_z w64 c.args.last c.ranges.last)
    c.in_err-invalidate.ensures.unchanged c.in_err-invalidate.ensures.named in
    inl (record {
      answer = err-same p.1 p.2
          ∙ ap (λ r. answer_with a (range_told r))
          (c.in_err-invalidate.ensures.answer
          ∙ same-range h c.args.first c.args.last (to_z-of_z w64 c.args.first c.ranges.first) (to_z-of_z w64 c.args.last c.ranges.last)
          ∙ ap (λ (x : List Entry). invalidate_answer x c.args.first c.args.last) kept);
      history = behind ∙ ap (λ (x : List Entry). history_behind x a) kept;
    })

pub returns-in_err-invalidate-clause-stands : goal.returns-in_err-invalidate-clause-stands
returns-in_err-invalidate-clause-stands c = λ ticks stands.
    let it = c.self.inside in
    let a = act.Invalidate c.args.first c.args.last in
    let h = c.reserve.new.self.history in
    let now = c.invalidate.new.self.history in
    let view : List Entry → Hosting =
    λ x. record { settings = it.splitter.settings; history = x; count = next_count it.splitter; audio = it.audio } in
    let behind : now ≡ history_behind h a =
    range-behind h now c.args.first c.args.last (to_z-of_z w64 c.args.first c.ranges.first) (to_z-of_z w64 c.args.last c.ranges.last)
    c.in_err-invalidate.ensures.unchanged c.in_err-invalidate.ensures.named in
    stands-quiet (view h) (view now) a ticks refl refl refl behind
    (subst (λ (v : Hosting). StandsOver v ticks) (sym (ap view c.reserve.ensures.history ∙ c.self.view_is)) stands)

pub returns-in_err-invalidate-clause-legal : goal.returns-in_err-invalidate-clause-legal
returns-in_err-invalidate-clause-legal c = λ ticks legal.
    c.in_err-invalidate.ensures.legal ticks
    (subst (λ (h : List Entry). IsLegal ticks h) (sym (c.reserve.ensures.history ∙ ap (λ (v : Hosting). v.history) c.self.view_is)) legal)

pub invariant_of-self-2 : goal.invariant_of-self-2
invariant_of-self-2 c =
    let it = c.self.inside in
    let h = c.reserve.new.self.history in
    let now = c.invalidate.new.self.history in
    let behind : now ≡ history_behind h (act.Invalidate c.args.first c.args.last) =
    range-behind h now c.args.first c.args.last (to_z-of_z w64 c.args.first c.ranges.first) (to_z-of_z w64 c.args.last c.ranges.last)
    c.invalidate.ensures.unchanged c.invalidate.ensures.named in
    sound-quiet it.splitter.settings h now it.audio (act.Invalidate c.args.first c.args.last) behind
    (subst (λ (x : List Entry). IsHostingSound it.splitter.settings x it.audio) (sym c.reserve.ensures.history) c.self.invariant)

pub returns-clause-told : goal.returns-clause-told
returns-clause-told c =
    let a = act.Invalidate c.args.first c.args.last in
    let h = c.reserve.new.self.history in
    let now = c.invalidate.new.self.history in
    let kept : h ≡ c.args.self.now.history = c.reserve.ensures.history ∙ ap (λ (v : Hosting). v.history) c.self.view_is in
    let behind : now ≡ history_behind h a =
    range-behind h now c.args.first c.args.last (to_z-of_z w64 c.args.first c.ranges.first) (to_z-of_z w64 c.args.last c.ranges.last)
    c.invalidate.ensures.unchanged c.invalidate.ensures.named in
    inl (record {
      answer = ap (λ (x : Act). answer_with x (Ok tt))
          (same-act c.args.first c.args.last (to_z-of_z w64 c.args.first c.ranges.first) (to_z-of_z w64 c.args.last c.ranges.last))
          ∙ ap (λ r. answer_with a (range_told r))
          (c.in_ok-invalidate.ensures.answer
          ∙ same-range h c.args.first c.args.last (to_z-of_z w64 c.args.first c.ranges.first) (to_z-of_z w64 c.args.last c.ranges.last)
          ∙ ap (λ (x : List Entry). invalidate_answer x c.args.first c.args.last) kept);
      history = behind ∙ ap (λ (x : List Entry). history_behind x a) kept;
    })

pub returns-clause-stands : goal.returns-clause-stands
returns-clause-stands c = λ ticks stands.
    let it = c.self.inside in
    let a = act.Invalidate c.args.first c.args.last in
    let h = c.reserve.new.self.history in
    let now = c.invalidate.new.self.history in
    let view : List Entry → Hosting =
    λ x. record { settings = it.splitter.settings; history = x; count = next_count it.splitter; audio = it.audio } in
    let behind : now ≡ history_behind h a =
    range-behind h now c.args.first c.args.last (to_z-of_z w64 c.args.first c.ranges.first) (to_z-of_z w64 c.args.last c.ranges.last)
    c.invalidate.ensures.unchanged c.invalidate.ensures.named in
    stands-quiet (view h) (view now) a ticks refl refl refl behind
    (subst (λ (v : Hosting). StandsOver v ticks) (sym (ap view c.reserve.ensures.history ∙ c.self.view_is)) stands)

pub returns-clause-legal : goal.returns-clause-legal
returns-clause-legal c = λ ticks legal.
    c.invalidate.ensures.legal ticks
    (subst (λ (h : List Entry). IsLegal ticks h) (sym (c.reserve.ensures.history ∙ ap (λ (v : Hosting). v.history) c.self.view_is)) legal)
