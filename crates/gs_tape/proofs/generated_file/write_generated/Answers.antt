use Rattle.std.proofs.Common.{◌≡◌, ◌<◌, ◌∷◌, [], List, length, ap, sym, subst, ◌∙◌, arith}
use Rattle.gs_tape.specs.Tick.{Tick}
use Rattle.gs_tape.specs.Capture.{file}
use Rattle.gs_tape.specs.Generated.{generated, ticks_to_come}
use Rattle.gs_tape.proofs.GeneratedWithin.{generated_is_writable}
use Rattle.gs_tape.proofs.GeneratedFile.{AreNext, Written, all_next, first_next, others_next, head_part, same_faults, written_end_part, written_head}
use Rattle.gs_tape.proofs.GeneratedFile.{written_on, written_so_far, written_tick_part, written_whole}
use Rattle.gs_tape.proofs.generated_file.write_generated.Goals as goal

pub put-requires : goal.put-requires
put-requires g c = first_next _ _ _ c.in-Some.tick (rw c.in-Some.is at c.in_ok-tick.ensures.tick) c.ticks.invariant.next

pub ticks-preserved : goal.ticks-preserved
ticks-preserved g c =
    let is : ticks_to_come c.ticks.generator ≡ c.in-Some.tick ∷ ticks_to_come c.next.new.self = rw c.in-Some.is at c.in_ok-tick.ensures.tick in
    record {
      next = others_next _ _ _ _ c.in-Some.tick is c.in_ok-put.ensures.writer c.ticks.invariant.next;
      written = written_on _ _ _ c.in-Some.tick _ _ _ is c.ticks.invariant.written c.in_ok-put.ensures.ok;
      faults = same_faults _ _ _ _ c.in_ok-put.ensures.counted ∙ c.ticks.invariant.faults;
    }

pub ticks-init : goal.ticks-init
ticks-init g c =
    let is = c.new-generator.ensures in
    let ts : List Tick = generated c.args.number c.args.ticks in
    let Next : List Tick → Type 0 = λ l. AreNext c.in_ok-writer.writer l in
    let Done : List Tick → Type 0 = λ l. Written (file 240 5 ts) l (g.K.Outside.written c.args.out.now) (g.K.Outside.written c.open.new.out) in
    record {
      next = subst Next (sym is) (all_next 240 5 ts _ c.in_ok-writer.ensures.writer (generated_is_writable c.args.number c.args.ticks c.requires));
      written = subst Done (sym is) (written_head 240 5 ts c.in_ok-writer.ensures.ok);
      faults = same_faults _ _ _ _ c.in_ok-writer.ensures.counted;
    }

pub returns-clause-ok : goal.returns-clause-ok
returns-clause-ok g c =
    written_whole c.end.result _ (ticks_to_come c.ticks.generator) _ _ _ (rw c.in_default.is at c.in_ok-tick.ensures.none) c.ticks.invariant.written
    c.end.ensures.ok

pub returns-in_err-writer-clause-err : goal.returns-in_err-writer-clause-err
returns-in_err-writer-clause-err g c = head_part _ 240 5 (generated c.args.number c.args.ticks) _ _ c.in_err-writer.ensures.err

pub returns-in_err-tick-clause-err : goal.returns-in_err-tick-clause-err
returns-in_err-tick-clause-err g c = written_so_far _ _ (ticks_to_come c.ticks.generator) _ _ c.ticks.invariant.written

pub returns-in_err-put-clause-err : goal.returns-in_err-put-clause-err
returns-in_err-put-clause-err g c =
    let is : ticks_to_come c.ticks.generator ≡ c.in-Some.tick ∷ ticks_to_come c.next.new.self = rw c.in-Some.is at c.in_ok-tick.ensures.tick in
    written_tick_part _ _ _ _ c.in-Some.tick _ _ _ is c.ticks.invariant.written c.in_err-put.ensures.err

pub returns-clause-err : goal.returns-clause-err
returns-clause-err g c =
    written_end_part c.end.result _ (ticks_to_come c.ticks.generator) _ _ _ (rw c.in_default.is at c.in_ok-tick.ensures.none) c.ticks.invariant.written
    c.end.ensures.err
