use Rattle.std.proofs.Common.{◌≡◌, ◌≤◌, ◌+◌, ◌%◌, ◌^◌, ◌∙◌, ℕ, ◌∷◌, length, OnOk, OnErr, sym, ap, subst, refl, arith}
use Rattle.std.specs.Prelude.{IsSome}
use Rattle.std.proofs.lemmas.Result.{on_ok_weaker, on_err_weaker}
use Rattle.gs_rtp.specs.Limits.{most_packet}
use Rattle.gs_rtp.specs.Stream.{StreamSettings}
use Rattle.gs_tape.specs.Tick.{Tick}
use Rattle.gs_refs.specs.declared.sent.Sent.{Sent}
use Rattle.gs_refs.specs.History.{frames}
use Rattle.gs_refs.specs.Answers.{sent_entry}
use Rattle.gs_refs.proofs.Choices.{choice_is_sound}
use Rattle.gs_frames.specs.Datagrams.{frame_datagrams}
use Rattle.gs_frames.specs.ImageLaws.{IsWrittenKind}
use Rattle.gs_split.specs.Splitting.{Splitting, IsLoaded, frame_behind, next_count}
use Rattle.gs_stream.specs.Video.{video_stream}
use Rattle.gs_host_core.specs.Units.{sent_unit_of}
use Rattle.gs_host_core.specs.Hosting.{Hosting, IsHostingSound}
use Rattle.gs_host_core.specs.Puts.{Gains, GainsFront, PutsAll, PutsFront, link_told}
use Rattle.gs_host_core.proofs.Turns.{unit-there, video-gain, count-gain}
use Rattle.gs_host_core.proofs.Gained.{video-whole, video-part, unit-most}
use Rattle.gs_host_core.proofs.host.Host.put_video.Goals as goal

pub unit_of-unit-requires : goal.unit_of-unit-requires
unit_of-unit-requires g c =
    let it = c.requires.sent in
    subst (λ (s : Sent). IsSome (sent_unit_of c.args.newest.now s)) (sym it.1) (unit-there it.0 c.args.newest.now)

pub load-datagrams-requires-clause-frame_least : goal.load-datagrams-requires-clause-frame_least
load-datagrams-requires-clause-frame_least g c =
    let frame : c.args.sent.now.frame ≡ frames c.requires.sent.0 + 1 = ap (λ (s : Sent). s.frame) c.requires.sent.1 in
    omega (arith, frame)

pub load-datagrams-requires-clause-frame_greatest : goal.load-datagrams-requires-clause-frame_greatest
load-datagrams-requires-clause-frame_greatest g c =
    let frame : c.args.sent.now.frame ≡ frames c.requires.sent.0 + 1 = ap (λ (s : Sent). s.frame) c.requires.sent.1 in
    omega (arith, frame, c.requires.sent.2)

pub load-datagrams-requires-clause-written : goal.load-datagrams-requires-clause-written
load-datagrams-requires-clause-written g c =
    let it = c.requires.sent in
    subst (λ (s : Sent). IsWrittenKind s.kind) (sym it.1) (choice_is_sound it.0 c.args.newest.now).known

pub load-datagrams-requires-clause-limit : goal.load-datagrams-requires-clause-limit
load-datagrams-requires-clause-limit g c =
    unit-most c.args.self.now.settings c.args.newest.now c.args.sent.now c.unit_of-unit.result.now c.requires.newest c.unit_of-unit.ensures

pub put_frame-requires-clause-count : goal.put_frame-requires-clause-count
put_frame-requires-clause-count g c = sym c.load-datagrams.ensures.datagrams

pub put_frame-requires-clause-unit : goal.put_frame-requires-clause-unit
put_frame-requires-clause-unit g c = sym c.load-datagrams.ensures.unit_length

pub put_frame-requires-clause-packet : goal.put_frame-requires-clause-packet
put_frame-requires-clause-packet g c =
    let P : StreamSettings → Type 0 = λ s. s.packet ≤ most_packet in
    subst P (sym c.load-datagrams.ensures.settings) c.self.invariant.packet

pub invariant_of-self : goal.invariant_of-self
invariant_of-self g c =
    let same : c.put_frame.new.splitter.settings ≡ c.self.inside.splitter.settings =
    ap (λ (s : Splitting). s.settings) c.put_frame.ensures.kept ∙ c.load-datagrams.ensures.settings in
    subst (λ (s : StreamSettings). IsHostingSound s c.self.inside.refs.history c.self.inside.audio) (sym same) c.self.invariant

pub returns-clause-settings : goal.returns-clause-settings
returns-clause-settings g c =
    ap (λ (s : Splitting). s.settings) c.put_frame.ensures.kept ∙ c.load-datagrams.ensures.settings ∙ ap (λ (h : Hosting). h.settings) c.self.view_is

pub returns-clause-history : goal.returns-clause-history
returns-clause-history g c = ap (λ (h : Hosting). h.history) c.self.view_is

pub returns-clause-audio : goal.returns-clause-audio
returns-clause-audio g c = ap (λ (h : Hosting). h.audio) c.self.view_is

pub returns-clause-counted : goal.returns-clause-counted
returns-clause-counted g c = c.put_frame.ensures.counted

pub returns-clause-count : goal.returns-clause-count
returns-clause-count g c = λ ticks h sends.
    let s = c.self.inside.splitter.settings in
    let sent = c.args.sent.now in
    let n = c.args.newest.now in
    let unit = c.unit_of-unit.result.now in
    let splitter = c.put_frame.new.splitter in
    let old = video_stream s ticks h in
    let new = video_stream s ticks (sent_entry sent ∷ h) in
    let ds = frame_datagrams s (frame_behind (length old) sent.frame sent.kind n.time unit) in
    let P : Hosting → Type 0 = λ v. length (video_stream v.settings ticks h) % 2 ^ 32 ≡ v.count
    → length (video_stream v.settings ticks (sent_entry sent ∷ h)) % 2 ^ 32 ≡ next_count splitter in
    let time : c.newest.inside.time ≡ n.time = ap (λ (t : Tick). t.time) c.newest.view_is in
    let number : splitter.datagrams ≡ length ds =
    ap (λ (x : Splitting). x.datagrams) c.put_frame.ensures.kept
    ∙ c.load-datagrams.ensures.datagrams
    ∙ c.load-datagrams.ensures.number (length old)
    ∙ ap (λ (t : ℕ). length (frame_datagrams s (frame_behind (length old) sent.frame sent.kind t unit))) time in
    let count : splitter.count ≡ next_count c.self.inside.splitter =
    ap (λ (x : Splitting). x.count) c.put_frame.ensures.kept ∙ c.load-datagrams.ensures.count in
    subst P c.self.view_is
    (λ agrees. count-gain old new ds (next_count c.self.inside.splitter) splitter.count splitter.datagrams
    (video-gain s ticks h n sent unit sends c.unit_of-unit.ensures) agrees count number)

pub returns-clause-whole : goal.returns-clause-whole
returns-clause-whole g c = λ ticks h sends.
    let s = c.self.inside.splitter.settings in
    let sent = c.args.sent.now in
    let n = c.args.newest.now in
    let unit = c.unit_of-unit.result.now in
    let a = link_told g.L.Link c.args.video.now in
    let b = link_told g.L.Link c.put_frame.new.link in
    let old = video_stream s ticks h in
    let out = frame_behind (length old) sent.frame sent.kind n.time unit in
    let P : Hosting → Type 0 = λ v. length (video_stream v.settings ticks h) % 2 ^ 32 ≡ v.count
    → OnOk c.put_frame.result (Gains a b c.args.to (video_stream v.settings ticks h) (video_stream v.settings ticks (sent_entry sent ∷ h))) in
    let time : c.newest.inside.time ≡ n.time = ap (λ (t : Tick). t.time) c.newest.view_is in
    subst P c.self.view_is
    (λ agrees.
    let loaded : IsLoaded c.load-datagrams.new.self out =
    subst (λ (t : ℕ). IsLoaded c.load-datagrams.new.self (frame_behind (length old) sent.frame sent.kind t unit)) time
    (c.load-datagrams.ensures.loaded (length old) agrees) in
    on_ok_weaker c.put_frame.result
    (λ put. video-whole a b c.args.to s ticks h n sent unit sends c.unit_of-unit.ensures
    (subst (λ (x : StreamSettings). PutsAll a b c.args.to (frame_datagrams x out)) c.load-datagrams.ensures.settings put))
    (c.put_frame.ensures.whole out loaded refl))

pub returns-clause-front : goal.returns-clause-front
returns-clause-front g c = λ ticks h sends.
    let s = c.self.inside.splitter.settings in
    let sent = c.args.sent.now in
    let n = c.args.newest.now in
    let unit = c.unit_of-unit.result.now in
    let a = link_told g.L.Link c.args.video.now in
    let b = link_told g.L.Link c.put_frame.new.link in
    let old = video_stream s ticks h in
    let out = frame_behind (length old) sent.frame sent.kind n.time unit in
    let P : Hosting → Type 0 = λ v. length (video_stream v.settings ticks h) % 2 ^ 32 ≡ v.count
    → OnErr c.put_frame.result (GainsFront a b c.args.to (video_stream v.settings ticks h) (video_stream v.settings ticks (sent_entry sent ∷ h))) in
    let time : c.newest.inside.time ≡ n.time = ap (λ (t : Tick). t.time) c.newest.view_is in
    subst P c.self.view_is
    (λ agrees.
    let loaded : IsLoaded c.load-datagrams.new.self out =
    subst (λ (t : ℕ). IsLoaded c.load-datagrams.new.self (frame_behind (length old) sent.frame sent.kind t unit)) time
    (c.load-datagrams.ensures.loaded (length old) agrees) in
    on_err_weaker c.put_frame.result
    (λ put. video-part a b c.args.to s ticks h n sent unit sends c.unit_of-unit.ensures
    (subst (λ (x : StreamSettings). PutsFront a b c.args.to (frame_datagrams x out)) c.load-datagrams.ensures.settings put))
    (c.put_frame.ensures.front out loaded refl))
