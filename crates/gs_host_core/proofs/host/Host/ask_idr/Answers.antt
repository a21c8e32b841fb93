use Rattle.std.proofs.Common.{◌≡◌, ◌∙◌, List, refl, sym, ap, subst, inl, inr}
use Rattle.std.proofs.lemmas.Result.{err_from_is_err_and}
use Rattle.gs_refs.specs.declared.entry.Entry.{Entry}
use Rattle.gs_refs.specs.Choice.{IsLegal}
use Rattle.gs_refs.specs.Answers.{ask_answer}
use Rattle.gs_split.specs.Splitting.{next_count}
use Rattle.gs_host_core.specs.declared.act.Act.TheVariants as act
use Rattle.gs_host_core.specs.Acts.{answer_with, ask_told, history_behind}
use Rattle.gs_host_core.specs.Hosting.{Hosting, IsHostingSound, StandsOver}
use Rattle.gs_host_core.proofs.Lists.{err-same}
use Rattle.gs_host_core.proofs.Acted.{ask-done, ask-refused, asked-behind, ended-behind, sound-quiet, stands-quiet}
use Rattle.gs_host_core.proofs.host.Host.ask_idr.Goals as goal

pub invariant_of-self : goal.invariant_of-self
invariant_of-self c =
    subst (λ (h : List Entry). IsHostingSound c.self.inside.splitter.settings h c.self.inside.audio) (sym c.reserve.ensures.history) c.self.invariant

pub returns-in_err-reserve-clause-told : goal.returns-in_err-reserve-clause-told
returns-in_err-reserve-clause-told c =
    let it = c.self.inside in
    let p = err_from_is_err_and c.from_residual.result c.from_residual.ensures.1 in
    let view : List Entry → Hosting =
    λ h. record { settings = it.splitter.settings; history = h; count = next_count it.splitter; audio = it.audio } in
    inr (err-same p.1 p.2, ap view c.reserve.ensures.history ∙ c.self.view_is)

pub returns-in_err-reserve-clause-stands : goal.returns-in_err-reserve-clause-stands
returns-in_err-reserve-clause-stands c = λ ticks stands.
    let it = c.self.inside in
    let view : List Entry → Hosting =
    λ h. record { settings = it.splitter.settings; history = h; count = next_count it.splitter; audio = it.audio } in
    subst (λ (v : Hosting). StandsOver v ticks) (sym (ap view c.reserve.ensures.history ∙ c.self.view_is)) stands

pub returns-in_err-reserve-clause-legal : goal.returns-in_err-reserve-clause-legal
returns-in_err-reserve-clause-legal c = λ ticks legal.
    subst (λ (h : List Entry). IsLegal ticks h) (sym (c.reserve.ensures.history ∙ ap (λ (v : Hosting). v.history) c.self.view_is)) legal

pub invariant_of-self-in_err-ask_idr : goal.invariant_of-self-in_err-ask_idr
invariant_of-self-in_err-ask_idr c =
    let it = c.self.inside in
    let h = c.reserve.new.self.history in
    let now = c.ask_idr.new.self.history in
    let behind : now ≡ history_behind h act.AskIdr =
    ended-behind h now (ask-refused h c.in_err-ask_idr.field-0.0 c.in_err-ask_idr.ensures.answer) c.in_err-ask_idr.ensures.err in
    sound-quiet it.splitter.settings h now it.audio act.AskIdr behind
    (subst (λ (x : List Entry). IsHostingSound it.splitter.settings x it.audio) (sym c.reserve.ensures.history) c.self.invariant)

pub returns-in_err-ask_idr-clause-told : goal.returns-in_err-ask_idr-clause-told
returns-in_err-ask_idr-clause-told c =
    let p = err_from_is_err_and c.from_residual-in_err-ask_idr.result c.from_residual-in_err-ask_idr.ensures.1 in
    let a = act.AskIdr in
    let h = c.reserve.new.self.history in
    let now = c.ask_idr.new.self.history in
    let kept : h ≡ c.args.self.now.history = c.reserve.ensures.history ∙ ap (λ (v : Hosting). v.history) c.self.view_is in
    let behind : now ≡ history_behind h a =
    ended-behind h now (ask-refused h c.in_err-ask_idr.field-0.0 c.in_err-ask_idr.ensures.answer) c.in_err-ask_idr.ensures.err in
    inl (record {
      answer = err-same p.1 p.2
          ∙ ap (λ r. answer_with a (ask_told r))
          (c.in_err-ask_idr.ensures.answer ∙ ap (λ (x : List Entry). ask_answer x) kept);
      history = behind ∙ ap (λ (x : List Entry). history_behind x a) kept;
    })

pub returns-in_err-ask_idr-clause-stands : goal.returns-in_err-ask_idr-clause-stands
returns-in_err-ask_idr-clause-stands c = λ ticks stands.
    let it = c.self.inside in
    let a = act.AskIdr in
    let h = c.reserve.new.self.history in
    let now = c.ask_idr.new.self.history in
    let view : List Entry → Hosting =
    λ x. record { settings = it.splitter.settings; history = x; count = next_count it.splitter; audio = it.audio } in
    let behind : now ≡ history_behind h a =
    ended-behind h now (ask-refused h c.in_err-ask_idr.field-0.0 c.in_err-ask_idr.ensures.answer) c.in_err-ask_idr.ensures.err in
    stands-quiet (view h) (view now) a ticks refl refl refl behind
    (subst (λ (v : Hosting). StandsOver v ticks) (sym (ap view c.reserve.ensures.history ∙ c.self.view_is)) stands)

pub returns-in_err-ask_idr-clause-legal : goal.returns-in_err-ask_idr-clause-legal
returns-in_err-ask_idr-clause-legal c = λ ticks legal.
    c.in_err-ask_idr.ensures.legal ticks
    (subst (λ (h : List Entry). IsLegal ticks h) (sym (c.reserve.ensures.history ∙ ap (λ (v : Hosting). v.history) c.self.view_is)) legal)

pub invariant_of-self-2 : goal.invariant_of-self-2
invariant_of-self-2 c =
    let it = c.self.inside in
    let h = c.reserve.new.self.history in
    let now = c.ask_idr.new.self.history in
    let behind : now ≡ history_behind h act.AskIdr =
    asked-behind h now (ask-done h c.in_ok-ask_idr.ensures.answer) c.in_ok-ask_idr.ensures.ok in
    sound-quiet it.splitter.settings h now it.audio act.AskIdr behind
    (subst (λ (x : List Entry). IsHostingSound it.splitter.settings x it.audio) (sym c.reserve.ensures.history) c.self.invariant)

pub returns-clause-told : goal.returns-clause-told
returns-clause-told c =
    let a = act.AskIdr in
    let h = c.reserve.new.self.history in
    let now = c.ask_idr.new.self.history in
    let kept : h ≡ c.args.self.now.history = c.reserve.ensures.history ∙ ap (λ (v : Hosting). v.history) c.self.view_is in
    let behind : now ≡ history_behind h a =
    asked-behind h now (ask-done h c.in_ok-ask_idr.ensures.answer) c.in_ok-ask_idr.ensures.ok in
    inl (record {
      answer = ap (λ r. answer_with a (ask_told r))
          (c.in_ok-ask_idr.ensures.answer ∙ ap (λ (x : List Entry). ask_answer x) kept);
      history = behind ∙ ap (λ (x : List Entry). history_behind x a) kept;
    })

pub returns-clause-stands : goal.returns-clause-stands
returns-clause-stands c = λ ticks stands.
    let it = c.self.inside in
    let a = act.AskIdr in
    let h = c.reserve.new.self.history in
    let now = c.ask_idr.new.self.history in
    let view : List Entry → Hosting =
    λ x. record { settings = it.splitter.settings; history = x; count = next_count it.splitter; audio = it.audio } in
    let behind : now ≡ history_behind h a =
    asked-behind h now (ask-done h c.in_ok-ask_idr.ensures.answer) c.in_ok-ask_idr.ensures.ok in
    stands-quiet (view h) (view now) a ticks refl refl refl behind
    (subst (λ (v : Hosting). StandsOver v ticks) (sym (ap view c.reserve.ensures.history ∙ c.self.view_is)) stands)

pub returns-clause-legal : goal.returns-clause-legal
returns-clause-legal c = λ ticks legal.
    c.ask_idr.ensures.legal ticks
    (subst (λ (h : List Entry). IsLegal ticks h) (sym (c.reserve.ensures.history ∙ ap (λ (v : Hosting). v.history) c.self.view_is)) legal)
