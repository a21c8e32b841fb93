use Rattle.std.proofs.Common.{◌<◌, length, get_or, set, refl, sym, subst, arith}
use Rattle.std.proofs.lemmas.List.{get_or-set_same, length-set}
use Rattle.gs_enet.specs.Channels.{HasDue}
use Rattle.gs_enet.proofs.Due.{idle_more, idle_within, same_refl, same_set}
use Rattle.gs_enet.proofs.holding.find_busy.Goals as goal

pub returns-then-find_due : goal.returns-then-find_due
returns-then-find_due c =
    let l = c.channels in
    let below : l.place < length l.channels = omega (arith, c.channels-test.true, c.requires.within, l.auto.channels) in
    record {
      same = same_set c.args.channels.now l.channels l.place c.index-channels-place.result c.find_due.new.self
          l.auto.channels l.invariant.same below c.find_due.ensures.same;
      from = l.invariant.from;
      to = l.invariant.to;
      idle = idle_within l.place c.args.to l.channels l.place c.find_due.new.self l.invariant.idle
          (λ out. out (omega arith, c.channels-test.true));
      there = λ lt d. subst HasDue (sym (get_or-set_same l.channels l.place c.find_due.new.self d below))
          (c.find_due.ensures.found c.if-find_due.true);
    }

pub channels-preserved : goal.channels-preserved
channels-preserved c =
    let l = c.channels in
    let below : l.place < length l.channels = omega (arith, c.channels-test.true, c.requires.within, l.auto.channels) in
    record {
      same = same_set c.args.channels.now l.channels l.place c.index-channels-place.result c.find_due.new.self
          l.auto.channels l.invariant.same below c.find_due.ensures.same;
      from = omega (arith, l.invariant.from);
      to = omega (arith, c.channels-test.true);
      idle = idle_more l.place c.args.to l.channels _ c.index-channels-place.result c.find_due.new.self
          (length-set l.channels l.place c.find_due.new.self) l.invariant.idle (c.find_due.ensures.none c.if-find_due.false) refl;
    }
