use Rattle.std.proofs.Common.{◌≡◌, ◌∙◌, List, ℕ, Option, Ok, Some, ap, arith, rules}
use Rattle.gs_tape.specs.Reading.{read_tape}
use Rattle.gs_tape.specs.Tick.{Tick}
use Rattle.gsbench.proofs.Captures.{adds_no_more, all_read, ended, fewer_left, gave, none_yet, one_more}
use Rattle.gsbench.proofs.tape.read_once.Goals as goal

pub ticks-init : goal.ticks-init
ticks-init c =
    none_yet c.args.file.now _ _ (c.in_ok-tape.ensures.opens.unread_is ∙ ap (λ (bytes : List ℕ). Some (read_tape bytes)) c.in_ok-source.ensures.bytes)
    c.in_ok-copy_of.ensures

pub overflow_add-seen : goal.overflow_add-seen
overflow_add-seen c =
    let given : c.next.result ≡ gave c.in-Some.tick = c.in_ok-tick.was ∙ ap (λ (o : Option Tick). Ok o) c.in-Some.is in
    let most = adds_no_more c.args.file.now c.ticks.seen.last c.ticks.seen.units _ _ c.next.result c.in-Some.tick given c.ticks.invariant
    c.next.ensures.first in
    omega (arith, most, c.unit_bytes.ensures, c.requires)

pub ticks-preserved : goal.ticks-preserved
ticks-preserved c =
    let given : c.next.result ≡ gave c.in-Some.tick = c.in_ok-tick.was ∙ ap (λ (o : Option Tick). Ok o) c.in-Some.is in
    let more = one_more c.args.file.now c.ticks.seen.last c.ticks.seen.units _ _ c.next.result c.in-Some.tick given c.ticks.invariant
    c.next.ensures.first in
    let cloned : c.in_ok-clone.field-0 ≡ c.in-Some.tick.idr = search rules in
    rw (c.unit_bytes.ensures, cloned) more

pub ticks-smaller : goal.ticks-smaller
ticks-smaller c =
    let given : c.next.result ≡ gave c.in-Some.tick = c.in_ok-tick.was ∙ ap (λ (o : Option Tick). Ok o) c.in-Some.is in
    fewer_left c.args.file.now c.ticks.seen.last c.ticks.seen.units _ _ c.next.result c.in-Some.tick given c.ticks.invariant c.next.ensures.first

pub returns-clause-units : goal.returns-clause-units
returns-clause-units c =
    let given : c.next.result ≡ ended = c.in_ok-tick.was ∙ ap (λ (o : Option Tick). Ok o) c.in_default.is in
    (all_read c.args.file.now c.ticks.seen.last c.ticks.seen.units _ _ c.next.result given c.ticks.invariant c.next.ensures.first).0

pub returns-clause-last : goal.returns-clause-last
returns-clause-last c =
    let given : c.next.result ≡ ended = c.in_ok-tick.was ∙ ap (λ (o : Option Tick). Ok o) c.in_default.is in
    (all_read c.args.file.now c.ticks.seen.last c.ticks.seen.units _ _ c.next.result given c.ticks.invariant c.next.ensures.first).1
