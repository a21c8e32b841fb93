use Rattle.std.proofs.Common.{Bool, refl, subst, ◌∙◌}
use Rattle.gs_enet.specs.World.{Write, acted}
use Rattle.gs_sides.specs.Outcomes.{SideWritesNext}
use Rattle.gs_sides.specs.Standing.{IsSideOf}
use Rattle.gs_sides.proofs.Writings.{written_out-step, written_out-last}
use Rattle.gs_sides.proofs.side.ControlSide.write_out.Goals as goal

pub datagrams-init : goal.datagrams-init
datagrams-init c = λ x h. (x, h, refl)

pub datagrams-preserved : goal.datagrams-preserved
datagrams-preserved c = λ x h.
    let t = c.datagrams.invariant x h in
    let w = subst (λ (b : Bool). SideWritesNext t.0 c.args.now b c.write_next.new.self) c.if-branch.true (c.in_ok-write_next.ensures.written t.0 t.1) in
    (acted (Write c.args.now) t.0, w.1, written_out-step c.args.now t.0 w.0 ∙ t.2)

pub returns : goal.returns
returns c = λ x h.
    let t = c.datagrams.invariant x h in
    let w = subst (λ (b : Bool). SideWritesNext t.0 c.args.now b c.write_next.new.self) c.if-branch.false (c.in_ok-write_next.ensures.written t.0 t.1) in
    subst (IsSideOf c.write_next.new.self) (written_out-last c.args.now t.0 w.0 ∙ t.2) w.1
