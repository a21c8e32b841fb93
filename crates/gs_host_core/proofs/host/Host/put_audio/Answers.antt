use Rattle.std.proofs.Common.{◌≡◌, ◌++◌, ◌∙◌, ℕ, List, ◌∷◌, length, OnOk, OnErr, sym, ap, subst, arith}
use Rattle.std.specs.List.{All, flat_map}
use Rattle.std.specs.Arc.{arc_value}
use Rattle.std.proofs.lemmas.Result.{on_ok_weaker, on_err_weaker}
use Rattle.gs_bytes.specs.Link.{IsCountedLink}
use Rattle.gs_rtp.specs.Stream.{StreamSettings}
use Rattle.gs_tape.specs.Tick.{Tick}
use Rattle.gs_refs.specs.History.{last_tick}
use Rattle.gs_refs.specs.Answers.{next_sent, sent_entry}
use Rattle.gs_audio.specs.Sending.{Sending, HasPushed}
use Rattle.gs_stream.specs.Audio.{audio_units, audio_stream}
use Rattle.gs_host_core.specs.Hosting.{Hosting}
use Rattle.gs_host_core.specs.Puts.{Gains, GainsFront, PutsAll, PutsFront, link_told}
use Rattle.gs_host_core.specs.Sounds.{sound_behind}
use Rattle.gs_bytes.proofs.Cases.{on_err}
use Rattle.gs_host_core.proofs.Turns.{pushed-gain}
use Rattle.gs_host_core.proofs.Gained.{audio-whole, audio-first, audio-last}
use Rattle.gs_host_core.proofs.host.Host.put_audio.Goals as goal

pub put_ticks-requires-clause-sizes : goal.put_ticks-requires-clause-sizes
put_ticks-requires-clause-sizes g c =
    let e : c.args.self.now.settings.audio ≡ c.self.inside.audio.settings.audio =
    sym (ap (λ (h : Hosting). h.settings.audio) c.self.view_is) ∙ sym (ap (λ (s : StreamSettings). s.audio) c.self.invariant.same_settings) in
    subst (λ (n : ℕ). All (λ t. All (λ unit. length unit ≡ n) t.value.audio) c.args.between.now) e c.requires.sizes

pub put_ticks-requires-clause-few : goal.put_ticks-requires-clause-few
put_ticks-requires-clause-few g c =
    let p : c.self.inside.audio.pushed ≡ c.args.self.now.audio.pushed = ap (λ (h : Hosting). h.audio.pushed) c.self.view_is in
    let l : last_tick c.self.inside.refs.history ≡ last_tick c.args.self.now.history = ap (λ (h : Hosting). last_tick h.history) c.self.view_is in
    omega (arith, c.requires.few, p, l, c.self.invariant.few_ticks)

pub invariant_of-self : goal.invariant_of-self
invariant_of-self g c =
    let is = c.self.invariant in
    let p : c.self.inside.audio.pushed ≡ c.args.self.now.audio.pushed = ap (λ (h : Hosting). h.audio.pushed) c.self.view_is in
    let l : last_tick c.self.inside.refs.history ≡ last_tick c.args.self.now.history = ap (λ (h : Hosting). last_tick h.history) c.self.view_is in
    record {
      packet = is.packet;
      same_settings = c.in_err-put_ticks.ensures.settings ∙ is.same_settings;
      few_frames = is.few_frames;
      few_ticks = is.few_ticks;
      few_units = omega (arith, c.in_err-put_ticks.ensures.count, c.requires.few, p, l);
    }

pub returns-in_err-put_ticks-clause-settings : goal.returns-in_err-put_ticks-clause-settings
returns-in_err-put_ticks-clause-settings g c = ap (λ (h : Hosting). h.settings) c.self.view_is

pub returns-in_err-put_ticks-clause-history : goal.returns-in_err-put_ticks-clause-history
returns-in_err-put_ticks-clause-history g c = ap (λ (h : Hosting). h.history) c.self.view_is

pub returns-in_err-put_ticks-clause-count : goal.returns-in_err-put_ticks-clause-count
returns-in_err-put_ticks-clause-count g c = ap (λ (h : Hosting). h.count) c.self.view_is

pub returns-in_err-put_ticks-clause-front : goal.returns-in_err-put_ticks-clause-front
returns-in_err-put_ticks-clause-front g c = λ ticks h turn.
    let n = c.args.newest.now in
    let a = link_told g.L.Link c.args.audio.now in
    let b = link_told g.L.Link c.put_ticks.new.link in
    let P : Hosting → Type 0 = λ v. HasPushed v.audio (audio_units ticks h)
    → OnErr c.from_residual.result (GainsFront a b c.args.to (audio_stream v.settings ticks h)
    (audio_stream v.settings ticks (sent_entry (next_sent h n) ∷ h))) in
    let s = c.self.inside.splitter.settings in
    subst P c.self.view_is
    (λ pushed. on_err c.from_residual.result (GainsFront a b c.args.to (audio_stream s ticks h) (audio_stream s ticks (sent_entry (next_sent h n) ∷ h)))
    (audio-first s ticks h n c.args.between.now arc_value turn a b c.args.to
    (subst (λ (x : StreamSettings). PutsFront a b c.args.to (sound_behind x (audio_units ticks h) (flat_map (λ t. t.value.audio) c.args.between.now)))
    c.self.invariant.same_settings (c.in_err-put_ticks.ensures.front (audio_units ticks h) pushed))))

pub put_units-requires-clause-sizes : goal.put_units-requires-clause-sizes
put_units-requires-clause-sizes g c =
    let e : c.args.self.now.settings.audio ≡ c.put_ticks.new.sender.settings.audio =
    sym (ap (λ (h : Hosting). h.settings.audio) c.self.view_is)
    ∙ sym (ap (λ (s : StreamSettings). s.audio) (c.in_ok-put_ticks.ensures.settings ∙ c.self.invariant.same_settings)) in
    let same : c.as_slice.result.now ≡ c.args.newest.now.audio = c.as_slice.ensures ∙ ap (λ (t : Tick). t.audio) c.newest.view_is in
    subst (λ (n : ℕ). All (λ unit. length unit ≡ n) c.as_slice.result.now) e
    (subst (λ (l : List (List ℕ)). All (λ unit. length unit ≡ c.args.self.now.settings.audio) l) (sym same) c.requires.size)

pub put_units-requires-clause-few : goal.put_units-requires-clause-few
put_units-requires-clause-few g c =
    let p : c.self.inside.audio.pushed ≡ c.args.self.now.audio.pushed = ap (λ (h : Hosting). h.audio.pushed) c.self.view_is in
    let l : last_tick c.self.inside.refs.history ≡ last_tick c.args.self.now.history = ap (λ (h : Hosting). last_tick h.history) c.self.view_is in
    let same : c.as_slice.result.now ≡ c.args.newest.now.audio = c.as_slice.ensures ∙ ap (λ (t : Tick). t.audio) c.newest.view_is in
    omega (arith, c.in_ok-put_ticks.ensures.count, c.requires.few, p, l, ap length same, c.self.invariant.few_ticks)

pub invariant_of-self-2 : goal.invariant_of-self-2
invariant_of-self-2 g c =
    let is = c.self.invariant in
    let p : c.self.inside.audio.pushed ≡ c.args.self.now.audio.pushed = ap (λ (h : Hosting). h.audio.pushed) c.self.view_is in
    let l : last_tick c.self.inside.refs.history ≡ last_tick c.args.self.now.history = ap (λ (h : Hosting). last_tick h.history) c.self.view_is in
    let same : c.as_slice.result.now ≡ c.args.newest.now.audio = c.as_slice.ensures ∙ ap (λ (t : Tick). t.audio) c.newest.view_is in
    record {
      packet = is.packet;
      same_settings = c.put_units.ensures.settings ∙ c.in_ok-put_ticks.ensures.settings ∙ is.same_settings;
      few_frames = is.few_frames;
      few_ticks = is.few_ticks;
      few_units = omega (arith, c.put_units.ensures.count, c.in_ok-put_ticks.ensures.count, c.requires.few, p, l, ap length same);
    }

pub returns-clause-settings : goal.returns-clause-settings
returns-clause-settings g c = ap (λ (h : Hosting). h.settings) c.self.view_is

pub returns-clause-history : goal.returns-clause-history
returns-clause-history g c = ap (λ (h : Hosting). h.history) c.self.view_is

pub returns-clause-count : goal.returns-clause-count
returns-clause-count g c = ap (λ (h : Hosting). h.count) c.self.view_is

pub returns-clause-pushed : goal.returns-clause-pushed
returns-clause-pushed g c = λ ticks h turn pushed.
    let same : c.as_slice.result.now ≡ c.args.newest.now.audio = c.as_slice.ensures ∙ ap (λ (t : Tick). t.audio) c.newest.view_is in
    let before = audio_units ticks h in
    let units = flat_map (λ t. t.value.audio) c.args.between.now in
    let first = subst (λ (x : Sending). HasPushed x before) (sym (ap (λ (v : Hosting). v.audio) c.self.view_is)) pushed in
    on_ok_weaker c.put_units.result
    (λ done. pushed-gain c.put_units.new.sender ticks h c.args.newest.now c.args.between.now arc_value turn
    (subst (λ (l : List (List ℕ)). HasPushed c.put_units.new.sender ((before ++ units) ++ l)) same done))
    (c.put_units.ensures.pushed (before ++ units) (c.in_ok-put_ticks.ensures.pushed before first))

pub returns-clause-whole : goal.returns-clause-whole
returns-clause-whole g c = λ ticks h turn.
    let n = c.args.newest.now in
    let a = link_told g.L.Link c.args.audio.now in
    let b = link_told g.L.Link c.put_ticks.new.link in
    let d = link_told g.L.Link c.put_units.new.link in
    let s = c.self.inside.splitter.settings in
    let before = audio_units ticks h in
    let units = flat_map (λ t. t.value.audio) c.args.between.now in
    let same : c.as_slice.result.now ≡ n.audio = c.as_slice.ensures ∙ ap (λ (t : Tick). t.audio) c.newest.view_is in
    let P : Hosting → Type 0 = λ v. HasPushed v.audio before
    → OnOk c.put_units.result (Gains a d c.args.to (audio_stream v.settings ticks h) (audio_stream v.settings ticks (sent_entry (next_sent h n) ∷ h))) in
    let first : StreamSettings → Type 0 = λ x. PutsAll a b c.args.to (sound_behind x before units) in
    let last : StreamSettings → Type 0 = λ x. PutsAll b d c.args.to (sound_behind x (before ++ units) c.as_slice.result.now) in
    let rest : List (List ℕ) → Type 0 = λ l. PutsAll b d c.args.to (sound_behind s (before ++ units) l) in
    subst P c.self.view_is
    (λ pushed. on_ok_weaker c.put_units.result
    (λ put. audio-whole s ticks h n c.args.between.now arc_value turn a b d c.args.to
    (subst first c.self.invariant.same_settings (c.in_ok-put_ticks.ensures.whole before pushed))
    (subst rest same (subst last (c.in_ok-put_ticks.ensures.settings ∙ c.self.invariant.same_settings) put)))
    (c.put_units.ensures.whole (before ++ units) (c.in_ok-put_ticks.ensures.pushed before pushed)))

pub returns-clause-front : goal.returns-clause-front
returns-clause-front g c = λ ticks h turn.
    let n = c.args.newest.now in
    let a = link_told g.L.Link c.args.audio.now in
    let b = link_told g.L.Link c.put_ticks.new.link in
    let d = link_told g.L.Link c.put_units.new.link in
    let s = c.self.inside.splitter.settings in
    let before = audio_units ticks h in
    let units = flat_map (λ t. t.value.audio) c.args.between.now in
    let same : c.as_slice.result.now ≡ n.audio = c.as_slice.ensures ∙ ap (λ (t : Tick). t.audio) c.newest.view_is in
    let P : Hosting → Type 0 = λ v. HasPushed v.audio before
    → OnErr c.put_units.result (GainsFront a d c.args.to (audio_stream v.settings ticks h) (audio_stream v.settings ticks (sent_entry (next_sent h n) ∷ h))) in
    let first : StreamSettings → Type 0 = λ x. PutsAll a b c.args.to (sound_behind x before units) in
    let last : StreamSettings → Type 0 = λ x. PutsFront b d c.args.to (sound_behind x (before ++ units) c.as_slice.result.now) in
    let rest : List (List ℕ) → Type 0 = λ l. PutsFront b d c.args.to (sound_behind s (before ++ units) l) in
    subst P c.self.view_is
    (λ pushed. on_err_weaker c.put_units.result
    (λ put. audio-last s ticks h n c.args.between.now arc_value turn a b d c.args.to
    (subst first c.self.invariant.same_settings (c.in_ok-put_ticks.ensures.whole before pushed))
    (subst rest same (subst last (c.in_ok-put_ticks.ensures.settings ∙ c.self.invariant.same_settings) put)))
    (c.put_units.ensures.front (before ++ units) (c.in_ok-put_ticks.ensures.pushed before pushed)))

pub returns-clause-counted : goal.returns-clause-counted
returns-clause-counted g c =
    subst (λ (n : ℕ). IsCountedLink n (g.L.Link.faults c.put_units.new.link) c.put_units.result) c.in_ok-put_ticks.ensures.counted
    c.put_units.ensures.counted
