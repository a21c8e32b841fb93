use Rattle.std.proofs.Common.{◌≡◌, ◌∙◌, length, refl, sym, ap, subst, arith, inl, inr}
use Rattle.std.specs.List.{All}
use Rattle.std.specs.Arc.{arc_value}
use Rattle.std.proofs.lemmas.Result.{err_from_is_err_and}
use Rattle.gs_rtp.specs.Stream.{StreamSettings}
use Rattle.gs_refs.specs.History.{frames}
use Rattle.gs_refs.specs.Choice.{IsLegal}
use Rattle.gs_refs.specs.Answers.{choose_answer}
use Rattle.gs_audio.specs.Sending.{Sending}
use Rattle.gs_stream.specs.Video.{video_stream}
use Rattle.gs_stream.specs.Audio.{audio_stream}
use Rattle.gs_host_core.specs.Errors.{IsCountedTurn}
use Rattle.gs_host_core.specs.Hosting.{Hosting, IsSendable, SendsTick}
use Rattle.gs_host_core.specs.Puts.{link_told}
use Rattle.gs_host_core.specs.Turning.{IsSentInPart}
use Rattle.gs_bytes.proofs.Cases.{on_err}
use Rattle.gs_host_core.proofs.Lists.{err-same, if-failed, on-failed}
use Rattle.gs_host_core.proofs.Gained.{audio-none, gains-front, gains-nothing}
use Rattle.gs_host_core.proofs.Failing.{counted-audio, counted-none, counted-video, handed-on, link-answer, refused-no_fault, sent-not_refused}
use Rattle.gs_host_core.proofs.Turned.{agrees, audio-front, audio-gains, few-are, history-is, is-turn, pushes, sizes-are, stands-again, video-front}
use Rattle.gs_host_core.proofs.Turned.{video-gains}
use Rattle.gs_host_core.proofs.host.Host.turn.Goals as goal

pub choose-requires : goal.choose-requires
choose-requires g c = c.requires.newest.few

-- ---- where nothing was sent

pub returns-in_err-sent-clause-answer : goal.returns-in_err-sent-clause-answer
returns-in_err-sent-clause-answer g c =
    let p = err_from_is_err_and c.from_residual.result c.from_residual.ensures.1 in
    let x = choose_answer c.args.self.now.history c.args.newest.now in
    elim (handed-on c.from_residual.result c.in_err-sent.field-0.0 x (err-same p.1 p.2) c.in_err-sent.ensures.answer) [
      | inl answered ↦ inl answered
      | inr none ↦ inr (inr none)
    ]

pub returns-in_err-sent-clause-counted : goal.returns-in_err-sent-clause-counted
returns-in_err-sent-clause-counted g c =
    let p = err_from_is_err_and c.from_residual.result c.from_residual.ensures.1 in
    let x = choose_answer c.args.self.now.history c.args.newest.now in
    counted-none (g.L.Link.faults c.args.video.now) (g.L.Link.faults c.args.audio.now) c.from_residual.result x
    (handed-on c.from_residual.result c.in_err-sent.field-0.0 x (err-same p.1 p.2) c.in_err-sent.ensures.answer)

pub returns-in_err-sent-clause-settings : goal.returns-in_err-sent-clause-settings
returns-in_err-sent-clause-settings g c = ap (λ (v : Hosting). v.settings) c.in_err-sent.ensures.err

pub returns-in_err-sent-clause-refused : goal.returns-in_err-sent-clause-refused
returns-in_err-sent-clause-refused g c = λ e is. (c.in_err-sent.ensures.err, refl, refl)

pub returns-in_err-sent-clause-put : goal.returns-in_err-sent-clause-put
returns-in_err-sent-clause-put g c = λ fault.
    let p = err_from_is_err_and c.from_residual.result c.from_residual.ensures.1 in
    let x = choose_answer c.args.self.now.history c.args.newest.now in
    absurd (refused-no_fault c.from_residual.result x
    (handed-on c.from_residual.result c.in_err-sent.field-0.0 x (err-same p.1 p.2) c.in_err-sent.ensures.answer)
    fault)

pub returns-in_err-sent-clause-memory : goal.returns-in_err-sent-clause-memory
returns-in_err-sent-clause-memory g c = λ none. inl (c.in_err-sent.ensures.err, refl, refl)

pub returns-in_err-sent-clause-legal : goal.returns-in_err-sent-clause-legal
returns-in_err-sent-clause-legal g c = λ ticks here legal. c.in_err-sent.ensures.legal ticks here legal

pub returns-in_err-sent-clause-part : goal.returns-in_err-sent-clause-part
returns-in_err-sent-clause-part g c = λ ticks of stands.
    let s = c.args.self.now.settings in
    let h = c.args.self.now.history in
    let now = c.choose.new.self.history in
    let same : now ≡ h = ap (λ (v : Hosting). v.history) c.in_err-sent.ensures.err in
    let v = link_told g.L.Link c.args.video.now in
    let a = link_told g.L.Link c.args.audio.now in
    on_err c.from_residual.result (IsSentInPart ticks c.args.self.now c.choose.new.self c.args.video_to c.args.audio_to v v a a)
    (record {
      of_video = gains-nothing v c.args.video_to (video_stream s ticks h) (video_stream s ticks now) (ap (video_stream s ticks) same);
      of_audio = gains-nothing a c.args.audio_to (audio_stream s ticks h) (audio_stream s ticks now) (ap (audio_stream s ticks) same);
    })

-- ---- the video

pub put_video-requires-clause-newest : goal.put_video-requires-clause-newest
put_video-requires-clause-newest g c =
    subst (λ (v : Hosting). IsSendable v.settings c.args.newest.now) (sym c.in_ok-sent.ensures.ok) c.requires.newest

pub put_video-requires-clause-sent : goal.put_video-requires-clause-sent
put_video-requires-clause-sent g c = (
  c.args.self.now.history,
  c.in_ok-sent.ensures.sent,
  omega (arith, c.in_ok-sent.ensures.frames, c.in_ok-sent.ensures.above, c.requires.newest.few),
)

pub returns-in_err-put_video-clause-answer : goal.returns-in_err-put_video-clause-answer
returns-in_err-put_video-clause-answer g c =
    let r = c.from_residual-in_err-put_video.result in
    let p = err_from_is_err_and r c.from_residual-in_err-put_video.ensures.1 in
    inr (link-answer r c.in_err-put_video.field-0.0 (err-same p.1 p.2))

pub returns-in_err-put_video-clause-counted : goal.returns-in_err-put_video-clause-counted
returns-in_err-put_video-clause-counted g c =
    let r = c.from_residual-in_err-put_video.result in
    let p = err_from_is_err_and r c.from_residual-in_err-put_video.ensures.1 in
    let before = g.L.Link.faults c.args.video.now in
    let now = g.L.Link.faults c.put_video.new.video in
    let audio = g.L.Link.faults c.args.audio.now in
    subst (IsCountedTurn before now audio audio) (sym (err-same p.1 p.2))
    (counted-video before now audio c.in_err-put_video.field-0.0 c.in_err-put_video.ensures.counted)

pub returns-in_err-put_video-clause-refused : goal.returns-in_err-put_video-clause-refused
returns-in_err-put_video-clause-refused g c = λ e is.
    absurd (sent-not_refused (choose_answer c.args.self.now.history c.args.newest.now) c.in_ok-sent.sent e c.in_ok-sent.ensures.answer is)

pub returns-in_err-put_video-clause-settings : goal.returns-in_err-put_video-clause-settings
returns-in_err-put_video-clause-settings g c = c.put_video.ensures.settings ∙ ap (λ (v : Hosting). v.settings) c.in_ok-sent.ensures.ok

pub returns-in_err-put_video-clause-put : goal.returns-in_err-put_video-clause-put
returns-in_err-put_video-clause-put g c = λ fault.
    history-is c.args.newest.now c.in_ok-sent.sent c.args.self.now c.choose.new.self c.in_ok-sent.ensures.ok c.in_ok-sent.ensures.sent c.put_video.new.self
    c.put_video.ensures.history

pub returns-in_err-put_video-clause-memory : goal.returns-in_err-put_video-clause-memory
returns-in_err-put_video-clause-memory g c = λ none.
    inr (history-is c.args.newest.now c.in_ok-sent.sent c.args.self.now c.choose.new.self c.in_ok-sent.ensures.ok c.in_ok-sent.ensures.sent
    c.put_video.new.self c.put_video.ensures.history)

pub returns-in_err-put_video-clause-legal : goal.returns-in_err-put_video-clause-legal
returns-in_err-put_video-clause-legal g c = λ ticks here legal.
    subst (IsLegal ticks) (sym c.put_video.ensures.history) (c.in_ok-sent.ensures.legal ticks here legal)

pub returns-in_err-put_video-clause-part : goal.returns-in_err-put_video-clause-part
returns-in_err-put_video-clause-part g c = λ ticks of stands.
    let n = c.args.newest.now in
    let sent = c.in_ok-sent.sent in
    let old = c.args.self.now in
    let s1 = c.choose.new.self in
    let s2 = c.put_video.new.self in
    let ok = c.in_ok-sent.ensures.ok in
    let is = c.in_ok-sent.ensures.sent in
    let v = link_told g.L.Link c.args.video.now in
    let w = link_told g.L.Link c.put_video.new.video in
    let a = link_told g.L.Link c.args.audio.now in
    let now = history-is n sent old s1 ok is s2 c.put_video.ensures.history in
    let turn = is-turn ticks old.history n c.args.between.now arc_value of c.requires.numbers c.in_ok-sent.ensures.above in
    on_err c.from_residual-in_err-put_video.result (IsSentInPart ticks old s2 c.args.video_to c.args.audio_to v w a a)
    (record {
      of_video = video-front n sent old s1 ok is ticks s2.history v w c.args.video_to now
          (c.in_err-put_video.ensures.front ticks old.history (record { newest_is = of.newest_is; sent_is = is })
          (agrees n sent old s1 ok is ticks stands));
      of_audio = audio-front n sent old s1 ok is ticks old.settings s2.history a a c.args.audio_to refl now
          (audio-none old.settings ticks old.history n c.args.between.now arc_value turn a c.args.audio_to);
    })

-- ---- the audio

pub put_audio-requires-clause-sizes : goal.put_audio-requires-clause-sizes
put_audio-requires-clause-sizes g c =
    sizes-are c.args.self.now.settings c.put_video.new.self.settings c.args.between.now arc_value
    (c.put_video.ensures.settings ∙ ap (λ (v : Hosting). v.settings) c.in_ok-sent.ensures.ok) c.requires.between

pub put_audio-requires-clause-size : goal.put_audio-requires-clause-size
put_audio-requires-clause-size g c =
    subst (λ (s : StreamSettings). All (λ unit. length unit ≡ s.audio) c.args.newest.now.audio)
    (sym (c.put_video.ensures.settings ∙ ap (λ (v : Hosting). v.settings) c.in_ok-sent.ensures.ok)) c.requires.newest.sizes

pub put_audio-requires-clause-few : goal.put_audio-requires-clause-few
put_audio-requires-clause-few g c =
    let n = c.args.newest.now in
    let old = c.args.self.now in
    let s2 = c.put_video.new.self in
    let same : s2.audio.pushed ≡ old.audio.pushed =
    ap (λ (x : Sending). x.pushed) (c.put_video.ensures.audio ∙ ap (λ (v : Hosting). v.audio) c.in_ok-sent.ensures.ok) in
    few-are old.settings old.history n c.in_ok-sent.sent c.args.between.now arc_value s2.audio.pushed old.audio.pushed s2.history c.requires.newest
    c.requires.between c.requires.numbers c.in_ok-sent.ensures.above c.in_ok-sent.ensures.units same
    (history-is n c.in_ok-sent.sent old c.choose.new.self c.in_ok-sent.ensures.ok c.in_ok-sent.ensures.sent s2 c.put_video.ensures.history)

pub returns-in_err-put_audio-clause-answer : goal.returns-in_err-put_audio-clause-answer
returns-in_err-put_audio-clause-answer g c =
    let r = c.from_residual-in_err-put_audio.result in
    let p = err_from_is_err_and r c.from_residual-in_err-put_audio.ensures.1 in
    inr (link-answer r c.in_err-put_audio.field-0.0 (err-same p.1 p.2))

pub returns-in_err-put_audio-clause-counted : goal.returns-in_err-put_audio-clause-counted
returns-in_err-put_audio-clause-counted g c =
    let r = c.from_residual-in_err-put_audio.result in
    let p = err_from_is_err_and r c.from_residual-in_err-put_audio.ensures.1 in
    let v = g.L.Link.faults c.args.video.now in
    let w = g.L.Link.faults c.put_video.new.video in
    let a = g.L.Link.faults c.args.audio.now in
    let b = g.L.Link.faults c.put_audio.new.audio in
    subst (IsCountedTurn v w a b) (sym (err-same p.1 p.2))
    (counted-audio v w a b c.in_err-put_audio.field-0.0 c.in_ok-put_video.ensures.counted c.in_err-put_audio.ensures.counted)

pub returns-in_err-put_audio-clause-settings : goal.returns-in_err-put_audio-clause-settings
returns-in_err-put_audio-clause-settings g c =
    c.put_audio.ensures.settings ∙ c.put_video.ensures.settings ∙ ap (λ (v : Hosting). v.settings) c.in_ok-sent.ensures.ok

pub returns-in_err-put_audio-clause-refused : goal.returns-in_err-put_audio-clause-refused
returns-in_err-put_audio-clause-refused g c = λ e is.
    absurd (sent-not_refused (choose_answer c.args.self.now.history c.args.newest.now) c.in_ok-sent.sent e c.in_ok-sent.ensures.answer is)

pub returns-in_err-put_audio-clause-put : goal.returns-in_err-put_audio-clause-put
returns-in_err-put_audio-clause-put g c = λ fault.
    history-is c.args.newest.now c.in_ok-sent.sent c.args.self.now c.choose.new.self c.in_ok-sent.ensures.ok c.in_ok-sent.ensures.sent c.put_audio.new.self
    (c.put_audio.ensures.history ∙ c.put_video.ensures.history)

pub returns-in_err-put_audio-clause-memory : goal.returns-in_err-put_audio-clause-memory
returns-in_err-put_audio-clause-memory g c = λ none.
    inr (history-is c.args.newest.now c.in_ok-sent.sent c.args.self.now c.choose.new.self c.in_ok-sent.ensures.ok c.in_ok-sent.ensures.sent
    c.put_audio.new.self (c.put_audio.ensures.history ∙ c.put_video.ensures.history))

pub returns-in_err-put_audio-clause-legal : goal.returns-in_err-put_audio-clause-legal
returns-in_err-put_audio-clause-legal g c = λ ticks here legal.
    subst (IsLegal ticks) (sym (c.put_audio.ensures.history ∙ c.put_video.ensures.history)) (c.in_ok-sent.ensures.legal ticks here legal)

pub returns-in_err-put_audio-clause-part : goal.returns-in_err-put_audio-clause-part
returns-in_err-put_audio-clause-part g c = λ ticks of stands.
    let n = c.args.newest.now in
    let sent = c.in_ok-sent.sent in
    let old = c.args.self.now in
    let s1 = c.choose.new.self in
    let s2 = c.put_video.new.self in
    let s3 = c.put_audio.new.self in
    let ok = c.in_ok-sent.ensures.ok in
    let is = c.in_ok-sent.ensures.sent in
    let v = link_told g.L.Link c.args.video.now in
    let w = link_told g.L.Link c.put_video.new.video in
    let a = link_told g.L.Link c.args.audio.now in
    let b = link_told g.L.Link c.put_audio.new.audio in
    let now = history-is n sent old s1 ok is s3 (c.put_audio.ensures.history ∙ c.put_video.ensures.history) in
    let turn = is-turn ticks old.history n c.args.between.now arc_value of c.requires.numbers c.in_ok-sent.ensures.above in
    let settings : s2.settings ≡ old.settings = c.put_video.ensures.settings ∙ ap (λ (x : Hosting). x.settings) ok in
    on_err c.from_residual-in_err-put_audio.result (IsSentInPart ticks old s3 c.args.video_to c.args.audio_to v w a b)
    (record {
      of_video = gains-front v w c.args.video_to (video_stream old.settings ticks old.history) (video_stream old.settings ticks s3.history)
          (video-gains n sent old s1 ok is ticks s3.history v w c.args.video_to now
          (c.in_ok-put_video.ensures.whole ticks old.history (record { newest_is = of.newest_is; sent_is = is })
          (agrees n sent old s1 ok is ticks stands)));
      of_audio = audio-front n sent old s1 ok is ticks s2.settings s3.history a b c.args.audio_to settings now
          (c.in_err-put_audio.ensures.front ticks old.history turn (pushes n sent old s1 ok is ticks s2 c.put_video.ensures.audio stands));
    })

-- ---- where all went out

pub returns-clause-answer : goal.returns-clause-answer
returns-clause-answer g c = elim c.in_ok-sent.ensures.answer [ inl answered ↦ inl answered | inr none ↦ inr (inr none) ]

pub returns-clause-counted : goal.returns-clause-counted
returns-clause-counted g c = (c.in_ok-put_video.ensures.counted, c.in_ok-put_audio.ensures.counted)

pub returns-clause-settings : goal.returns-clause-settings
returns-clause-settings g c =
    c.put_audio.ensures.settings ∙ c.put_video.ensures.settings ∙ ap (λ (v : Hosting). v.settings) c.in_ok-sent.ensures.ok

pub returns-clause-sent : goal.returns-clause-sent
returns-clause-sent g c = c.in_ok-sent.ensures.sent

pub returns-clause-history : goal.returns-clause-history
returns-clause-history g c =
    c.put_audio.ensures.history ∙ c.put_video.ensures.history ∙ ap (λ (v : Hosting). v.history) c.in_ok-sent.ensures.ok

pub returns-clause-refused : goal.returns-clause-refused
returns-clause-refused g c = λ e is.
    absurd (sent-not_refused (choose_answer c.args.self.now.history c.args.newest.now) c.in_ok-sent.sent e c.in_ok-sent.ensures.answer is)

pub returns-clause-legal : goal.returns-clause-legal
returns-clause-legal g c = λ ticks here legal.
    subst (IsLegal ticks) (sym (c.put_audio.ensures.history ∙ c.put_video.ensures.history)) (c.in_ok-sent.ensures.legal ticks here legal)

pub returns-clause-whole : goal.returns-clause-whole
returns-clause-whole g c = λ ticks of stands.
    let n = c.args.newest.now in
    let sent = c.in_ok-sent.sent in
    let old = c.args.self.now in
    let s1 = c.choose.new.self in
    let s2 = c.put_video.new.self in
    let s3 = c.put_audio.new.self in
    let ok = c.in_ok-sent.ensures.ok in
    let is = c.in_ok-sent.ensures.sent in
    let v = link_told g.L.Link c.args.video.now in
    let w = link_told g.L.Link c.put_video.new.video in
    let a = link_told g.L.Link c.args.audio.now in
    let b = link_told g.L.Link c.put_audio.new.audio in
    let now = history-is n sent old s1 ok is s3 (c.put_audio.ensures.history ∙ c.put_video.ensures.history) in
    let turn = is-turn ticks old.history n c.args.between.now arc_value of c.requires.numbers c.in_ok-sent.ensures.above in
    let settings : s2.settings ≡ old.settings = c.put_video.ensures.settings ∙ ap (λ (x : Hosting). x.settings) ok in
    let sends : SendsTick ticks old.history n sent = record { newest_is = of.newest_is; sent_is = is } in
    let agreed = agrees n sent old s1 ok is ticks stands in
    let pushed = pushes n sent old s1 ok is ticks s2 c.put_video.ensures.audio stands in
    record {
      stands = stands-again n sent old s1 ok is ticks s2 s3 (c.put_audio.ensures.settings ∙ settings) now c.put_audio.ensures.count
          (c.put_video.ensures.count ticks old.history sends agreed) (c.in_ok-put_audio.ensures.pushed ticks old.history turn pushed);
      of_video = video-gains n sent old s1 ok is ticks s3.history v w c.args.video_to now
          (c.in_ok-put_video.ensures.whole ticks old.history sends agreed);
      of_audio = audio-gains n sent old s1 ok is ticks s2.settings s3.history a b c.args.audio_to settings now
          (c.in_ok-put_audio.ensures.whole ticks old.history turn pushed);
    }

-- ---- what nothing is said of

pub returns-in_err-sent-clause-sent : goal.returns-in_err-sent-clause-sent
returns-in_err-sent-clause-sent g c =
    let p = err_from_is_err_and c.from_residual.result c.from_residual.ensures.1 in if-failed c.from_residual.result p.0 _ p.1

pub returns-in_err-sent-clause-history : goal.returns-in_err-sent-clause-history
returns-in_err-sent-clause-history g c =
    let p = err_from_is_err_and c.from_residual.result c.from_residual.ensures.1 in if-failed c.from_residual.result p.0 _ p.1

pub returns-in_err-sent-clause-whole : goal.returns-in_err-sent-clause-whole
returns-in_err-sent-clause-whole g c = λ ticks of stands.
    let p = err_from_is_err_and c.from_residual.result c.from_residual.ensures.1 in on-failed c.from_residual.result p.0 _ p.1

pub returns-in_err-put_video-clause-sent : goal.returns-in_err-put_video-clause-sent
returns-in_err-put_video-clause-sent g c =
    let p = err_from_is_err_and c.from_residual-in_err-put_video.result c.from_residual-in_err-put_video.ensures.1 in
    if-failed c.from_residual-in_err-put_video.result p.0 _ p.1

pub returns-in_err-put_video-clause-history : goal.returns-in_err-put_video-clause-history
returns-in_err-put_video-clause-history g c =
    let p = err_from_is_err_and c.from_residual-in_err-put_video.result c.from_residual-in_err-put_video.ensures.1 in
    if-failed c.from_residual-in_err-put_video.result p.0 _ p.1

pub returns-in_err-put_video-clause-whole : goal.returns-in_err-put_video-clause-whole
returns-in_err-put_video-clause-whole g c = λ ticks of stands.
    let p = err_from_is_err_and c.from_residual-in_err-put_video.result c.from_residual-in_err-put_video.ensures.1 in
    on-failed c.from_residual-in_err-put_video.result p.0 _ p.1

pub returns-in_err-put_audio-clause-sent : goal.returns-in_err-put_audio-clause-sent
returns-in_err-put_audio-clause-sent g c =
    let p = err_from_is_err_and c.from_residual-in_err-put_audio.result c.from_residual-in_err-put_audio.ensures.1 in
    if-failed c.from_residual-in_err-put_audio.result p.0 _ p.1

pub returns-in_err-put_audio-clause-history : goal.returns-in_err-put_audio-clause-history
returns-in_err-put_audio-clause-history g c =
    let p = err_from_is_err_and c.from_residual-in_err-put_audio.result c.from_residual-in_err-put_audio.ensures.1 in
    if-failed c.from_residual-in_err-put_audio.result p.0 _ p.1

pub returns-in_err-put_audio-clause-whole : goal.returns-in_err-put_audio-clause-whole
returns-in_err-put_audio-clause-whole g c = λ ticks of stands.
    let p = err_from_is_err_and c.from_residual-in_err-put_audio.result c.from_residual-in_err-put_audio.ensures.1 in
    on-failed c.from_residual-in_err-put_audio.result p.0 _ p.1

pub returns-clause-put : goal.returns-clause-put
returns-clause-put g c = λ fault. absurd (cc fault)

pub returns-clause-memory : goal.returns-clause-memory
returns-clause-memory g c = λ none. absurd (cc none)
