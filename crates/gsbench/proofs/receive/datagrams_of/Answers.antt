use Rattle.std.proofs.Common.{◌≡◌, ◌+◌, ◌∷◌, [], ◌++◌, length, map, take, ◌∙◌, ap, arith, refl, rules}
use Rattle.std.specs.Vec.{vec_items}
use Rattle.std.proofs.lemmas.List.{length-append, map-append}
use Rattle.gsbench.proofs.Splits.{first_next}
use Rattle.gsbench.proofs.receive.datagrams_of.Goals as goal

pub datagrams-preserved : goal.datagrams-preserved
datagrams-preserved c =
    let sent : c.in_ok-datagram.datagram.items ≡ take c.datagram-length.result c.datagram-length.new.out = search rules in
    let pushed : c.push.new.self.items ≡ c.datagrams.all.items ++ c.in_ok-datagram.datagram ∷ [] = search rules in
    let more : map vec_items c.push.new.self.items ≡ map vec_items c.datagrams.all.items ++ take c.datagram-length.result c.datagram-length.new.out ∷ [] =
    rw (pushed, map-append) (rw sent refl) in
    record {
      stays = c.datagram-length.ensures.kept ∙ c.datagrams.invariant.stays;
      first = first_next _ _ _ _ _ _ _ _ c.datagram-length.ensures.kept more c.datagram-length.ensures.datagram c.datagrams.invariant.first;
      long = ap length pushed ∙ length-append c.datagrams.all.items (c.in_ok-datagram.datagram ∷ []) ∙ ap (λ n. n + 1) c.datagrams.invariant.long;
    }

pub returns-clause-number : goal.returns-clause-number
returns-clause-number c = omega (arith, c.datagrams.invariant.long, c.datagrams-test.false, c.datagrams.auto.k-end)
