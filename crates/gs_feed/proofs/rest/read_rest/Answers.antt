use Rattle.std.proofs.Common.{◌≡◌, true, rules}
use Rattle.std.specs.Prelude.{is_some}
use Rattle.gs_feed.proofs.Cuts.{rests_more, rests_stop}
use Rattle.gs_feed.proofs.rest.read_rest.Goals as goal

pub returns-in_err-next-clause-bytes : goal.returns-in_err-next-clause-bytes
returns-in_err-next-clause-bytes g c =
    rests_stop c.args.tape.now c.ticks.tape c.next.new.self _ _ _ _ _ c.ticks.invariant.rests c.ticks.invariant.stays_open
    c.from_residual.ensures.1 c.in_err-next.ensures.bytes c.in_err-next.ensures.spent

pub ticks-preserved : goal.ticks-preserved
ticks-preserved g c =
    let some : is_some c.in_ok-next.field-0 ≡ true = search rules in
    record {
      passes = search rules;
      rests = rests_more c.args.tape.now c.ticks.tape c.next.new.self _ _ _ c.in_ok-next.field-0 c.ticks.invariant.rests
          c.ticks.invariant.stays_open c.in_ok-next.ensures.bytes some c.in_ok-next.ensures.kept.0;
      stays_open = search rules;
      again = search rules;
      audio = search rules;
      duration = search rules;
      end = search rules;
      written = search rules;
      counted = search rules;
    }
