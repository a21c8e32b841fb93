use Rattle.std.proofs.Common.{arith, ◌≡◌, ◌+◌, ◌-◌, ◌++◌, ◌∷◌, [], ℕ, suc, List, ap, sym, ◌∙◌, length, length-append}
use Rattle.gs_tape.proofs.Streams.{fails, handed_on, leaves_on}
use Rattle.gs_tape.proofs.ManySteps.{sounds_done, sounds_fail, sounds_on, whole_on}
use Rattle.gs_tape.proofs.cursor.Cursor.sounds.Goals as goal

pub returns-in_err-bytes-clause-read : goal.returns-in_err-bytes-clause-read
returns-in_err-bytes-clause-read g c =
    handed_on c.from_residual-in_err-bytes.ensures.1
    (sounds_fail _ (c.args.count - (c.loop.counter + 1)) _ _ (omega arith) c.loop.invariant.goes
    (fails (rw c.from-in-loop.ensures at c.in_err-bytes.ensures.read)))

pub loop-preserved : goal.loop-preserved
loop-preserved g c =
    let u = c.in_ok-bytes.bytes in
    let items : c.push.new.self.items ≡ c.loop.units.items ++ u ∷ [] =
    c.in_ok-push.ensures.items ∙ ap (λ (x : List ℕ). c.loop.units.items ++ x ∷ []) c.from_bytes.ensures in
    record {
      goes = sounds_on _ (c.args.count - (c.loop.counter + 1)) _ u _ c.push.new.self.items (omega arith) items c.loop.invariant.goes
          (rw c.from-in-loop.ensures at c.in_ok-bytes.ensures.read);
      place = omega arith;
      many = ap (λ (l : List (List ℕ)). length l) items ∙ omega (arith, length-append {A = List ℕ});
      whole = whole_on _ u _ c.push.new.self.items items (c.in_ok-bytes.ensures.long ∙ c.from-in-loop.ensures) c.loop.invariant.whole;
      source = leaves_on c.loop.invariant.source c.in_ok-bytes.ensures.source;
    }

pub returns-clause-read : goal.returns-clause-read
returns-clause-read g c = rw c.from_vec.ensures (sounds_done _ _ _ (omega arith) c.loop.invariant.goes)

pub returns-clause-whole : goal.returns-clause-whole
returns-clause-whole g c = rw c.from_vec.ensures c.loop.invariant.whole
