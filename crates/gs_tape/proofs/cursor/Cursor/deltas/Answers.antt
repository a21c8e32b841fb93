use Rattle.std.proofs.Common.{arith, sym, ◌≤◌, ◌≡◌, ◌+◌, ◌-◌, ◌++◌, ◌∷◌, [], ℕ, suc, List, append-nil, subst, ap, ◌∙◌, length, length-append}
use Rattle.std.specs.List.{sum_by}
use Rattle.gs_tape.specs.Limits.{AreDeltasBetween, most_bytes}
use Rattle.gs_tape.specs.Tick.{Delta}
use Rattle.gs_tape.proofs.Streams.{fails, fails_read, handed_on, leaves_on}
use Rattle.gs_tape.proofs.ManySteps.{between_on, sum_on, deltas_done, deltas_fail, deltas_on}
use Rattle.gs_tape.proofs.cursor.Cursor.deltas.Goals as goal

pub returns-in_err-delta-clause-read : goal.returns-in_err-delta-clause-read
returns-in_err-delta-clause-read g c =
    handed_on c.from_residual-in_err-delta.ensures.1
    (deltas_fail _ (c.args.count - (c.loop.counter + 1)) _ _ _ _ (omega arith) c.loop.invariant.goes (fails c.in_err-delta.ensures.read))

pub loop-preserved : goal.loop-preserved
loop-preserved g c =
    let d = c.in_ok-delta.delta in
    let items = c.in_ok-push.ensures.items in
    let names : c.delta-in-loop.inside.named ≡ d.named = ap (λ (x : Delta). x.named) c.delta-in-loop.view_is in
    let long : c.len.result ≡ length d.unit = c.len.ensures ∙ ap (λ (x : Delta). length x.unit) c.delta-in-loop.view_is in
    let room : c.loop.sum + length d.unit ≤ most_bytes = c.in_ok-delta.ensures.room in
    let sums : c.args.held + sum_by (λ x. length x.unit) c.loop.deltas.items ≡ c.loop.sum = c.loop.invariant.sum_is in
    record {
      goes = deltas_on _ (c.args.count - (c.loop.counter + 1)) _ _ _ _ _ d _ c.push.new.self.items (omega arith) items names (omega arith)
          c.loop.invariant.goes c.in_ok-delta.ensures.read;
      place = omega arith;
      many = ap (λ (l : List Delta). length l) items ∙ omega (arith, length-append {A = Delta});
      few = let R : ℕ → Type 0 = λ k. c.loop.sum + k ≤ most_bytes in subst R (sym long) room;
      sum_is = sum_on _ _ _ d _ c.push.new.self.items items long sums;
      between = between_on _ _ _ d _ c.push.new.self.items items names c.in_ok-delta.ensures.named.0 c.in_ok-delta.ensures.named.1
          c.in_ok-delta.ensures.most c.loop.invariant.between;
      source = leaves_on c.loop.invariant.source c.in_ok-delta.ensures.source;
    }

pub returns-clause-read : goal.returns-clause-read
returns-clause-read g c = rw c.from_vec.ensures (deltas_done _ _ _ _ _ (omega arith) c.loop.invariant.goes)

pub returns-clause-between : goal.returns-clause-between
returns-clause-between g c =
    rw c.from_vec.ensures
    (let Between : List Delta → Type 0 = AreDeltasBetween 0 c.args.tick in subst Between (append-nil c.loop.deltas.items) (c.loop.invariant.between [] tt))
