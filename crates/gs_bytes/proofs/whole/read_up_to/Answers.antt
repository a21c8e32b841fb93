use Rattle.std.proofs.Common.{◌++◌, ◌≤◌, arith, length, length-append, length-take, take, ℕ}
use Rattle.std.proofs.KnownBytes.{Appends-trans, Consumes-trans}
use Rattle.gs_bytes.specs.Told.{outside_told, TakesUpTo}
use Rattle.gs_bytes.proofs.Cases.{on_err}
use Rattle.gs_bytes.proofs.whole.read_up_to.Goals as goal

pub returns-in_err-extend_from_slice-clause-err : goal.returns-in_err-extend_from_slice-clause-err
returns-in_err-extend_from_slice-clause-err g c =
    let before = c.reads.invariant in
    let read = c.in_ok-n.ensures in
    let text = c.reads.text.items in
    let last = take c.in_ok-n.n c.read.new.into in
    let room : length c.read.new.into ≤ c.min-room.result = omega (arith, c.read.auto.into, length-take {A = ℕ}) in
    let fits : length (text ++ last) ≤ c.args.most = omega (arith, length-append {A = ℕ}, length-take {A = ℕ}) in
    let part : TakesUpTo c.args.most (outside_told g.S.Outside c.args.source.now) (outside_told g.S.Outside c.read.new.self) =
    (text ++ last, fits, Consumes-trans _ _ _ _ _ before.left read.left.0, Appends-trans _ _ _ _ _ before.taken read.taken) in
    on_err _ _ part
