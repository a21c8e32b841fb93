use Rattle.std.proofs.Common.{◌≡◌, ◌<◌, ◌++◌, ◌∙◌, length, take, get_or, arith}
use Rattle.gs_host_core.specs.Puts.{PutsAll, PutsFront, link_told}
use Rattle.gs_host_core.specs.Sounds.{sound_behind}
use Rattle.gs_bytes.proofs.Cases.{on_err}
use Rattle.gs_host_core.proofs.Sounds.{unit-put, unit-failed, pushed-next, step-last}
use Rattle.gs_host_core.proofs.sound.put_units.Goals as goal

pub returns-in_err-put_ready-clause-front : goal.returns-in_err-put_ready-clause-front
returns-in_err-put_ready-clause-front g c = λ before pushed.
    let s = c.args.sender.now.settings in
    let units = c.args.units.now in
    let i = c.units.unit-index in
    let u = c.as_bytes.result.now in
    let e : u ≡ get_or units i u = cc in
    let h : i < length units = omega arith in
    let a = link_told g.L.Link c.args.link.now in
    let b = link_told g.L.Link c.units.link in
    let d = link_told g.L.Link c.put_ready.new.link in
    on_err c.from_residual.result (PutsFront a d c.args.to (sound_behind s before units))
    (unit-failed a b d c.args.to s before units i u e h (c.units.invariant.put before pushed)
    (step-last s c.units.sender c.push-ready.new.self c.push-ready.result (before ++ take i units) u (PutsFront b d c.args.to) c.units.invariant.settings
    c.push-ready.ensures.settings (c.units.invariant.pushed before pushed) c.push-ready.ensures.pushed c.push-ready.ensures.number
    c.in_err-put_ready.ensures.front))

pub units-preserved : goal.units-preserved
units-preserved g c =
    let s = c.args.sender.now.settings in
    let units = c.args.units.now in
    let i = c.units.unit-index in
    let u = c.as_bytes.result.now in
    let e : u ≡ get_or units i u = cc in
    let h : i < length units = omega arith in
    let a = link_told g.L.Link c.args.link.now in
    let b = link_told g.L.Link c.units.link in
    let d = link_told g.L.Link c.put_ready.new.link in
    record {
      settings = c.push-ready.ensures.settings ∙ c.units.invariant.settings;
      count = omega arith;
      pushed = λ before pushed.
          pushed-next c.push-ready.new.self before units i u e h
          (c.push-ready.ensures.pushed (before ++ take i units) (c.units.invariant.pushed before pushed));
      put = λ before pushed.
          unit-put a b d c.args.to s before units i u e h (c.units.invariant.put before pushed)
          (step-last s c.units.sender c.push-ready.new.self c.push-ready.result (before ++ take i units) u (PutsAll b d c.args.to) c.units.invariant.settings
          c.push-ready.ensures.settings (c.units.invariant.pushed before pushed) c.push-ready.ensures.pushed c.push-ready.ensures.number
          c.in_ok-put_ready.ensures.whole);
      counted = c.in_ok-put_ready.ensures.counted ∙ c.units.invariant.counted;
    }
