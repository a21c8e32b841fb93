use Rattle.std.proofs.Common.{arith, ◌≡◌, ◌+◌, ◌∷◌, ℕ, List, drop, Option, subst, sym}
use Rattle.std.specs.Prelude.{slice_index}
use Rattle.std.proofs.lemmas.List.{drop_all}
use Rattle.gs_tape.proofs.Streams.{fails_read, handed_on, leaves_on}
use Rattle.gs_tape.proofs.ManySteps.{drop_next, text_cut, text_differs, text_done, text_more, text_stops}
use Rattle.gs_tape.proofs.cursor.Cursor.text.Goals as goal

pub returns-in_err-byte-clause-read : goal.returns-in_err-byte-clause-read
returns-in_err-byte-clause-read g c =
    handed_on c.from_residual.ensures.1
    (text_stops _ _ _ (drop_next c.loop-expected.expected-index c.args.bytes.now c.loop-expected-test.true) c.loop-expected.invariant.goes
    c.in_err-byte.ensures.unknown c.in_err-byte.ensures.stopped)

pub returns-in_default-clause-read : goal.returns-in_default-clause-read
returns-in_default-clause-read g c =
    fails_read (text_cut _ _ _ (drop_next c.loop-expected.expected-index c.args.bytes.now c.loop-expected-test.true) c.loop-expected.invariant.goes
    (rw c.in_default.is at c.in_ok-byte.ensures.none))

pub returns-then-byte-expected-clause-read : goal.returns-then-byte-expected-clause-read
returns-then-byte-expected-clause-read g c =
    fails_read (text_differs _ c.in-Some.byte _ _ _ (drop_next c.loop-expected.expected-index c.args.bytes.now c.loop-expected-test.true)
    c.if-byte-expected.true c.loop-expected.invariant.goes (rw c.in-Some.is at c.in_ok-byte.ensures.byte))

pub loop-expected-preserved : goal.loop-expected-preserved
loop-expected-preserved g c =
    let i = c.loop-expected.expected-index in
    let place : c.byte.new.self.place ≡ c.loop-expected.self.place + 1 = rw c.in-Some.is at c.in_ok-byte.ensures.place in
    let Same : ℕ → Type 0 = λ b. drop i c.args.bytes.now ≡ b ∷ drop (i + 1) c.args.bytes.now in
    record {
      goes = text_more c.in-Some.byte _ _ (subst Same (sym c.if-byte-expected.false) (drop_next i c.args.bytes.now c.loop-expected-test.true)) place
          c.loop-expected.invariant.goes (rw c.in-Some.is at c.in_ok-byte.ensures.byte);
      place = omega arith;
      source = leaves_on c.loop-expected.invariant.source (rw c.in-Some.is at c.in_ok-byte.ensures.source);
    }

pub returns-clause-read : goal.returns-clause-read
returns-clause-read g c = text_done _ (drop_all _ c.args.bytes.now (omega arith)) c.loop-expected.invariant.goes
