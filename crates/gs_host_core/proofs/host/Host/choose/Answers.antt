use Rattle.std.proofs.Common.{◌≡◌, ◌<◌, ◌≤◌, ◌*◌, ◌∙◌, List, ◌∷◌, sym, ap, subst, inl, inr}
use Rattle.std.proofs.lemmas.Result.{err_from_is_err_and}
use Rattle.gs_refs.specs.declared.entry.Entry.{Entry}
use Rattle.gs_refs.specs.declared.sent.Sent.{Sent}
use Rattle.gs_refs.specs.History.{frames, last_tick}
use Rattle.gs_refs.specs.Choice.{IsLegal}
use Rattle.gs_refs.specs.Answers.{choose_answer, next_sent, sent_entry}
use Rattle.gs_split.specs.Splitting.{next_count}
use Rattle.gs_host_core.specs.Errors.{turn_result}
use Rattle.gs_host_core.specs.Hosting.{Hosting, IsHostingSound}
use Rattle.gs_bytes.proofs.Cases.{on_err}
use Rattle.gs_host_core.proofs.Lists.{err-same}
use Rattle.gs_host_core.proofs.Chosen.{chosen-above, sound-sent}
use Rattle.gs_host_core.proofs.host.Host.choose.Goals as goal

pub invariant_of-self : goal.invariant_of-self
invariant_of-self c =
    subst (λ (h : List Entry). IsHostingSound c.self.inside.splitter.settings h c.self.inside.audio) (sym c.reserve.ensures.history) c.self.invariant

pub returns-in_err-reserve-clause-answer : goal.returns-in_err-reserve-clause-answer
returns-in_err-reserve-clause-answer c =
    let p = err_from_is_err_and c.from_residual.result c.from_residual.ensures.1 in
    inr (err-same p.1 p.2)

pub returns-in_err-reserve-clause-legal : goal.returns-in_err-reserve-clause-legal
returns-in_err-reserve-clause-legal c = λ ticks here legal.
    subst (λ (h : List Entry). IsLegal ticks h) (sym (c.reserve.ensures.history ∙ ap (λ (v : Hosting). v.history) c.self.view_is)) legal

pub returns-in_err-reserve-clause-err : goal.returns-in_err-reserve-clause-err
returns-in_err-reserve-clause-err c =
    let it = c.self.inside in
    let view : List Entry → Hosting =
    λ h. record { settings = it.splitter.settings; history = h; count = next_count it.splitter; audio = it.audio } in
    on_err c.from_residual.result (view c.reserve.new.self.history ≡ c.args.self.now) (ap view c.reserve.ensures.history ∙ c.self.view_is)

pub invariant_of-self-in_err-choose : goal.invariant_of-self-in_err-choose
invariant_of-self-in_err-choose c =
    subst (λ (h : List Entry). IsHostingSound c.self.inside.splitter.settings h c.self.inside.audio)
    (sym (c.in_err-choose.ensures.err ∙ c.reserve.ensures.history)) c.self.invariant

pub returns-in_err-choose-clause-answer : goal.returns-in_err-choose-clause-answer
returns-in_err-choose-clause-answer c =
    let p = err_from_is_err_and c.from_residual-in_err-choose.result c.from_residual-in_err-choose.ensures.1 in
    let n = c.args.newest.now in
    let kept : c.reserve.new.self.history ≡ c.args.self.now.history = c.reserve.ensures.history ∙ ap (λ (v : Hosting). v.history) c.self.view_is in
    inl (err-same p.1 p.2
    ∙ ap turn_result (c.in_err-choose.ensures.answer ∙ ap (λ (h : List Entry). choose_answer h n) kept))

pub returns-in_err-choose-clause-legal : goal.returns-in_err-choose-clause-legal
returns-in_err-choose-clause-legal c = λ ticks here legal.
    subst (λ (h : List Entry). IsLegal ticks h)
    (sym (c.in_err-choose.ensures.err ∙ c.reserve.ensures.history ∙ ap (λ (v : Hosting). v.history) c.self.view_is)) legal

pub returns-in_err-choose-clause-err : goal.returns-in_err-choose-clause-err
returns-in_err-choose-clause-err c =
    let it = c.self.inside in
    let view : List Entry → Hosting =
    λ h. record { settings = it.splitter.settings; history = h; count = next_count it.splitter; audio = it.audio } in
    on_err c.from_residual-in_err-choose.result (view c.choose.new.self.history ≡ c.args.self.now)
    (ap view (c.in_err-choose.ensures.err ∙ c.reserve.ensures.history) ∙ c.self.view_is)

pub invariant_of-self-2 : goal.invariant_of-self-2
invariant_of-self-2 c =
    let it = c.self.inside in
    let n = c.args.newest.now in
    let h = it.refs.history in
    let kept : c.reserve.new.self.history ≡ h = c.reserve.ensures.history in
    let sent = c.in_ok-choose.field-0 in
    let above : last_tick h < n.number = chosen-above h n sent (c.in_ok-choose.ensures.answer ∙ ap (λ (x : List Entry). choose_answer x n) kept) in
    let now : c.choose.new.self.history ≡ sent_entry (next_sent h n) ∷ h =
    c.in_ok-choose.ensures.ok
    ∙ ap (λ (s : Sent). sent_entry s ∷ c.reserve.new.self.history) c.in_ok-choose.ensures.sent
    ∙ ap (λ (x : List Entry). sent_entry (next_sent x n) ∷ x) kept in
    subst (λ (x : List Entry). IsHostingSound it.splitter.settings x it.audio) (sym now)
    (sound-sent it.splitter.settings h it.audio n above c.requires c.self.invariant)

pub returns-clause-answer : goal.returns-clause-answer
returns-clause-answer c =
    let n = c.args.newest.now in
    let kept : c.reserve.new.self.history ≡ c.args.self.now.history = c.reserve.ensures.history ∙ ap (λ (v : Hosting). v.history) c.self.view_is in
    inl (ap turn_result (c.in_ok-choose.ensures.answer ∙ ap (λ (h : List Entry). choose_answer h n) kept))

pub returns-clause-sent : goal.returns-clause-sent
returns-clause-sent c =
    let n = c.args.newest.now in
    let kept : c.reserve.new.self.history ≡ c.args.self.now.history = c.reserve.ensures.history ∙ ap (λ (v : Hosting). v.history) c.self.view_is in
    c.in_ok-choose.ensures.sent ∙ ap (λ (h : List Entry). next_sent h n) kept

pub returns-clause-above : goal.returns-clause-above
returns-clause-above c =
    let n = c.args.newest.now in
    let kept : c.reserve.new.self.history ≡ c.args.self.now.history = c.reserve.ensures.history ∙ ap (λ (v : Hosting). v.history) c.self.view_is in
    chosen-above c.args.self.now.history n c.in_ok-choose.field-0
    (c.in_ok-choose.ensures.answer ∙ ap (λ (h : List Entry). choose_answer h n) kept)

pub returns-clause-ok : goal.returns-clause-ok
returns-clause-ok c =
    let it = c.self.inside in
    let sent = c.in_ok-choose.field-0 in
    let view : List Entry → Hosting =
    λ h. record { settings = it.splitter.settings; history = h; count = next_count it.splitter; audio = it.audio } in
    ap view (c.in_ok-choose.ensures.ok ∙ ap (λ (h : List Entry). sent_entry sent ∷ h) c.reserve.ensures.history)
    ∙ ap (λ (v : Hosting). let w : Hosting = record v { history = sent_entry sent ∷ v.history } in w) c.self.view_is

pub returns-clause-legal : goal.returns-clause-legal
returns-clause-legal c = λ ticks here legal.
    let kept : c.reserve.new.self.history ≡ c.args.self.now.history = c.reserve.ensures.history ∙ ap (λ (v : Hosting). v.history) c.self.view_is in
    c.in_ok-choose.ensures.legal ticks here (subst (λ (h : List Entry). IsLegal ticks h) (sym kept) legal)

pub returns-in_err-reserve-clause-frames : goal.returns-in_err-reserve-clause-frames
returns-in_err-reserve-clause-frames c =
    let P : Hosting → Type 0 = λ v. frames v.history ≤ last_tick v.history in subst P c.self.view_is c.self.invariant.few_frames

pub returns-in_err-reserve-clause-units : goal.returns-in_err-reserve-clause-units
returns-in_err-reserve-clause-units c =
    let P : Hosting → Type 0 = λ v. v.audio.pushed ≤ 16 * last_tick v.history in subst P c.self.view_is c.self.invariant.few_units

pub returns-in_err-choose-clause-frames : goal.returns-in_err-choose-clause-frames
returns-in_err-choose-clause-frames c =
    let P : Hosting → Type 0 = λ v. frames v.history ≤ last_tick v.history in subst P c.self.view_is c.self.invariant.few_frames

pub returns-in_err-choose-clause-units : goal.returns-in_err-choose-clause-units
returns-in_err-choose-clause-units c =
    let P : Hosting → Type 0 = λ v. v.audio.pushed ≤ 16 * last_tick v.history in subst P c.self.view_is c.self.invariant.few_units

pub returns-clause-frames : goal.returns-clause-frames
returns-clause-frames c =
    let P : Hosting → Type 0 = λ v. frames v.history ≤ last_tick v.history in subst P c.self.view_is c.self.invariant.few_frames

pub returns-clause-units : goal.returns-clause-units
returns-clause-units c =
    let P : Hosting → Type 0 = λ v. v.audio.pushed ≤ 16 * last_tick v.history in subst P c.self.view_is c.self.invariant.few_units
