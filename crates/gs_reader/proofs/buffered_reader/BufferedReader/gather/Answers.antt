use Rattle.std.proofs.Common.{◌∙◌, ℕ, ◌≡◌, ◌+◌, ◌-◌, ◌≤◌, ◌++◌, List, arith, drop, length, min, sym, subst, take, take-append-drop, vec_len}
use Rattle.std.proofs.KnownBytes.{Keeps-trans}
use Rattle.gs_bytes.proofs.StreamLemmas.{KeepsFlag-trans}
use Rattle.gs_reader.specs.Buffered.{HandsOn}
use Rattle.gs_reader.proofs.BufferedLemmas.{hands_on_part}
use Rattle.gs_reader.proofs.buffered_reader.BufferedReader.gather.Goals as goal

pub pieces-preserved : goal.pieces-preserved
pieces-preserved g c =
    let told = g.S.Outside in
    let before = c.pieces.invariant in
    let filled = c.in_ok-fill.ensures in
    let moved = c.in_ok-move_to.ensures.moved in
    let rest = c.in_ok-move_to.ensures.rest in
    record {
      within = omega (arith, c.in_ok-move_to.ensures.len);
      handed = hands_on_part _ _ _ _ _ _ _ _ _ _ _ _ _ before.handed filled.bytes moved rest;
      end = KeepsFlag-trans _ _ _ before.end (filled.not_met c.if-not-branch.false);
      written = Keeps-trans _ _ _ before.written filled.written;
      counted = filled.none_counted ∙ before.counted;
    }
