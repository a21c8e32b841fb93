use Rattle.std.proofs.Common.{◌≡◌, ◌<◌, ◌++◌, ◌∙◌, ap, length, take, arith}
use Rattle.std.specs.List.{flat_map}
use Rattle.gs_tape.specs.Tick.{Tick}
use Rattle.gs_host_core.specs.Puts.{PutsFront, link_told}
use Rattle.gs_host_core.specs.Sounds.{sound_behind}
use Rattle.gs_bytes.proofs.Cases.{on_err}
use Rattle.gs_host_core.proofs.Sounds.{flat-few, flat-length, pushed-ticks, sizes-at, ticks-failed, ticks-put}
use Rattle.gs_host_core.proofs.sound.put_ticks.Goals as goal

pub put_units-requires-clause-sizes : goal.put_units-requires-clause-sizes
put_units-requires-clause-sizes g c =
    let same : c.as_slice.result.now ≡ c.tick-item.result.value.audio =
    c.as_slice.ensures ∙ ap (λ (t : Tick). t.audio) (c.behind-tick.view_is ∙ c.deref.ensures) in
    let h : c.ticks.tick-index < length c.args.ticks.now = omega arith in
    let audio : c.ticks.sender.settings.audio ≡ c.args.sender.now.settings.audio = cc in
    sizes-at c.args.ticks.now (λ t. t.value.audio) c.ticks.tick-index c.tick-item.result c.as_slice.result.now c.ticks.sender.settings.audio
    c.args.sender.now.settings.audio c.tick-item.is h same audio c.requires.sizes

pub put_units-requires-clause-few : goal.put_units-requires-clause-few
put_units-requires-clause-few g c =
    let same : c.as_slice.result.now ≡ c.tick-item.result.value.audio =
    c.as_slice.ensures ∙ ap (λ (t : Tick). t.audio) (c.behind-tick.view_is ∙ c.deref.ensures) in
    let h : c.ticks.tick-index < length c.args.ticks.now = omega arith in
    omega (
      arith,
      flat-few c.args.ticks.now (λ t. t.value.audio) c.ticks.tick-index c.tick-item.result c.as_slice.result.now c.tick-item.is h same,
      c.requires.few,
    )

pub returns-in_err-put_units-clause-count : goal.returns-in_err-put_units-clause-count
returns-in_err-put_units-clause-count g c =
    let same : c.as_slice.result.now ≡ c.tick-item.result.value.audio =
    c.as_slice.ensures ∙ ap (λ (t : Tick). t.audio) (c.behind-tick.view_is ∙ c.deref.ensures) in
    let h : c.ticks.tick-index < length c.args.ticks.now = omega arith in
    omega (
      arith,
      flat-few c.args.ticks.now (λ t. t.value.audio) c.ticks.tick-index c.tick-item.result c.as_slice.result.now c.tick-item.is h same,
      c.in_err-put_units.ensures.count,
    )

pub returns-in_err-put_units-clause-front : goal.returns-in_err-put_units-clause-front
returns-in_err-put_units-clause-front g c = λ before pushed.
    let s = c.args.sender.now.settings in
    let ticks = c.args.ticks.now in
    let i = c.ticks.tick-index in
    let units = c.as_slice.result.now in
    let same : units ≡ c.tick-item.result.value.audio =
    c.as_slice.ensures ∙ ap (λ (t : Tick). t.audio) (c.behind-tick.view_is ∙ c.deref.ensures) in
    let h : i < length ticks = omega arith in
    let a = link_told g.L.Link c.args.link.now in
    let b = link_told g.L.Link c.ticks.link in
    let d = link_told g.L.Link c.put_units.new.link in
    on_err c.from_residual.result (PutsFront a d c.args.to (sound_behind s before (flat_map (λ t. t.value.audio) ticks)))
    (ticks-failed a b d c.args.to s c.ticks.sender.settings before ticks (λ t. t.value.audio) i c.tick-item.result units c.tick-item.is h same
    c.ticks.invariant.settings (c.ticks.invariant.put before pushed)
    (c.in_err-put_units.ensures.front (before ++ flat_map (λ t. t.value.audio) (take i ticks)) (c.ticks.invariant.pushed before pushed)))

pub ticks-preserved : goal.ticks-preserved
ticks-preserved g c =
    let s = c.args.sender.now.settings in
    let ticks = c.args.ticks.now in
    let i = c.ticks.tick-index in
    let units = c.as_slice.result.now in
    let same : units ≡ c.tick-item.result.value.audio =
    c.as_slice.ensures ∙ ap (λ (t : Tick). t.audio) (c.behind-tick.view_is ∙ c.deref.ensures) in
    let h : i < length ticks = omega arith in
    let a = link_told g.L.Link c.args.link.now in
    let b = link_told g.L.Link c.ticks.link in
    let d = link_told g.L.Link c.put_units.new.link in
    record {
      settings = c.in_ok-put_units.ensures.settings ∙ c.ticks.invariant.settings;
      count = omega (
        arith,
        flat-length ticks (λ t. t.value.audio) i c.tick-item.result units c.tick-item.is h same,
        c.in_ok-put_units.ensures.count,
        c.ticks.invariant.count,
      );
      pushed = λ before pushed.
          pushed-ticks c.put_units.new.sender before ticks (λ t. t.value.audio) i c.tick-item.result units c.tick-item.is h same
          (c.in_ok-put_units.ensures.pushed (before ++ flat_map (λ t. t.value.audio) (take i ticks)) (c.ticks.invariant.pushed before pushed));
      put = λ before pushed.
          ticks-put a b d c.args.to s c.ticks.sender.settings before ticks (λ t. t.value.audio) i c.tick-item.result units c.tick-item.is h same
          c.ticks.invariant.settings (c.ticks.invariant.put before pushed)
          (c.in_ok-put_units.ensures.whole (before ++ flat_map (λ t. t.value.audio) (take i ticks)) (c.ticks.invariant.pushed before pushed));
      counted = c.in_ok-put_units.ensures.counted ∙ c.ticks.invariant.counted;
    }
