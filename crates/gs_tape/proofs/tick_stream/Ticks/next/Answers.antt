use Rattle.std.proofs.Common.{arith, ap, ◌≡◌, ◌+◌, ℕ}
use Rattle.gs_tape.specs.Reading.{Before, before_first}
use Rattle.gs_tape.proofs.Streams.{fails}
use Rattle.gs_tape.proofs.TapeReads.{first_behind, first_cut, first_end, first_failed, first_full, first_handed, first_other, first_tick}
use Rattle.gs_tape.proofs.Cuts.{stops_end, stops_tag, stops_tick, takes_handed, takes_tick}
use Rattle.gs_tape.proofs.tick_stream.Ticks.next.Goals as goal

pub returns-in_err-tag-clause-takes : goal.returns-in_err-tag-clause-takes
returns-in_err-tag-clause-takes g c =
    takes_handed _ _ _ _ _ _ _ _ _ c.from_residual.ensures.1 (stops_tag _ 0 _ _ before_first _ _ _ c.in_err-tag.ensures.stopped)

pub returns-in_err-byte-clause-takes : goal.returns-in_err-byte-clause-takes
returns-in_err-byte-clause-takes g c =
    takes_handed _ _ _ _ _ _ _ _ _ c.from_residual-in_err-byte.ensures.1
    (stops_end _ 0 _ c.in-Some.tag _ before_first _ _ _ _ (rw c.in-Some.is at c.in_ok-tag.ensures.byte) c.if-tag-eq-END_TAG.true c.in_err-byte.ensures.stopped)

pub returns-in_err-tick-clause-takes : goal.returns-in_err-tick-clause-takes
returns-in_err-tick-clause-takes g c =
    takes_handed _ _ _ _ _ _ _ _ _ c.from_residual-in_err-tick.ensures.1
    (stops_tick _ 0 _ c.in-Some.tag _ before_first _ _ _ _ (rw c.in-Some.is at c.in_ok-tag.ensures.byte) c.if-tag-ne-TICK_TAG.false
    c.if-self-gt-MOST_TICKS.false c.in_err-tick.ensures.read.front)

pub returns-clause-takes : goal.returns-clause-takes
returns-clause-takes g c =
    takes_tick _ _ _ _ c.in-Some.tag _ _ _ _ _ _ (rw c.in-Some.is at c.in_ok-tag.ensures.byte) c.if-tag-ne-TICK_TAG.false c.if-self-gt-MOST_TICKS.false
    (rw c.in-Some.is at c.in_ok-tag.ensures.place) c.in_ok-tick.ensures.read c.behind-self.ensures.known

pub returns-in_default-clause-first : goal.returns-in_default-clause-first
returns-in_default-clause-first g c = first_cut _ _ _ _ _ (rw c.in_default.is at c.in_ok-tag.ensures.none)

pub returns-in_default-2-clause-first : goal.returns-in_default-2-clause-first
returns-in_default-2-clause-first g c =
    first_end _ _ c.in-Some.tag _ _ _ _ (rw c.in-Some.is at c.in_ok-tag.ensures.byte) c.if-tag-eq-END_TAG.true
    (rw c.in_default-2.is at c.in_ok-byte.ensures.none)

pub returns-then-tag-eq-END_TAG-clause-first : goal.returns-then-tag-eq-END_TAG-clause-first
returns-then-tag-eq-END_TAG-clause-first g c =
    first_behind _ _ _ c.in-Some.tag _ _ _ _ _ _ (rw c.in-Some.is at c.in_ok-tag.ensures.byte) c.if-tag-eq-END_TAG.true
    (rw c.in-Some-2.is at c.in_ok-byte.ensures.byte) (rw c.in-Some.is at c.in_ok-tag.ensures.place)

pub returns-then-tag-ne-TICK_TAG-clause-first : goal.returns-then-tag-ne-TICK_TAG-clause-first
returns-then-tag-ne-TICK_TAG-clause-first g c =
    first_other _ _ c.in-Some.tag _ _ _ _ (rw c.in-Some.is at c.in_ok-tag.ensures.byte) c.if-tag-eq-END_TAG.false c.if-tag-ne-TICK_TAG.true

pub returns-then-self-gt-MOST_TICKS-clause-first : goal.returns-then-self-gt-MOST_TICKS-clause-first
returns-then-self-gt-MOST_TICKS-clause-first g c =
    first_full _ _ c.in-Some.tag _ _ _ _ (rw c.in-Some.is at c.in_ok-tag.ensures.byte) c.if-tag-ne-TICK_TAG.false c.if-self-gt-MOST_TICKS.true

pub returns-in_err-tick-clause-first : goal.returns-in_err-tick-clause-first
returns-in_err-tick-clause-first g c =
    first_handed _ _ _ _ c.from_residual-in_err-tick.ensures.1
    (first_failed _ _ _ c.in-Some.tag _ _ _ _ _ _ (rw c.in-Some.is at c.in_ok-tag.ensures.byte) c.if-tag-ne-TICK_TAG.false c.if-self-gt-MOST_TICKS.false
    (rw c.in-Some.is at c.in_ok-tag.ensures.place) (fails c.in_err-tick.ensures.read))

pub returns-clause-first : goal.returns-clause-first
returns-clause-first g c =
    first_tick _ _ _ _ c.in-Some.tag _ _ _ _ _ _ (rw c.in-Some.is at c.in_ok-tag.ensures.byte) c.if-tag-ne-TICK_TAG.false c.if-self-gt-MOST_TICKS.false
    (rw c.in-Some.is at c.in_ok-tag.ensures.place) c.in_ok-tick.ensures.read c.behind-self.ensures.known

pub returns-clause-place : goal.returns-clause-place
returns-clause-place g c =
    let number : c.behind-self.result.number ≡ c.args.self.now.known.number + 1 = ap (λ (b : Before). b.number) c.behind-self.ensures.known in
    let here : c.byte.new.self.place ≡ c.args.self.now.cursor.place + 1 = rw c.in-Some.is at c.in_ok-tag.ensures.place in
    omega arith
