use Rattle.std.proofs.Common.{◌∙◌, arith, length-drop, length-take, subst}
use Rattle.std.specs.Io.KnownBytes.{Appends}
use Rattle.std.proofs.KnownBytes.{Appends-trans, Keeps-trans}
use Rattle.gs_bytes.proofs.StreamLemmas.{KeepsFlag-trans, counts_none, take_more}
use Rattle.gs_bytes.proofs.whole.write_all.Goals as goal

pub loop-at-preserved : goal.loop-at-preserved
loop-at-preserved g c =
    let before = c.loop-at.invariant in
    let after = c.in_ok-n.ensures in
    record {
      within = omega (arith, simp (length-take, length-drop) at after.bound);
      written = subst (Appends _ _) (take_more c.loop-at.at c.in_ok-n.n c.args.bytes.now) (Appends-trans _ _ _ _ _ before.written after.written);
      left = Keeps-trans _ _ _ before.left after.left;
      taken = Keeps-trans _ _ _ before.taken after.taken;
      end = KeepsFlag-trans _ _ _ before.end after.end;
      counted = counts_none _ _ _ after.counted c.if-n-eq0.false ∙ before.counted;
    }
