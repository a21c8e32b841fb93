use Rattle.std.proofs.Common.{◌≡◌, ◌<◌, ◌++◌, ℕ, length, take, sym, ap, ◌∙◌, arith}
use Rattle.gs_generated.specs.Remaining.{Remaining, pieces_left}
use Rattle.gs_generated.proofs.Ending.{nothing_left}
use Rattle.gs_generated.proofs.generated_file.GeneratedFileSource.read.Goals as goal

pub returns-clause-left : goal.returns-clause-left
returns-clause-left c =
    let first = c.read-count in
    let ready = c.refill.new.self in
    let zero : first.result ≡ 0 = omega (arith, c.if-count-gt0.false) in
    let all = sym (ap (λ (r : Remaining). r.left) c.self.view_is) ∙ first.ensures.moved
    ∙ ap (λ (n : ℕ). take n first.new.into ++ pieces_left first.new.self) zero ∙ sym c.in_ok-refill.ensures.same ∙ c.read.ensures.moved in (
      all,
      λ none some.
          let room : 0 < length first.new.into = omega (arith, some, c.read.ensures.length) in
          nothing_left ready c.read.new.self c.read.new.into c.read.result none (c.read.ensures.none none room) c.read.ensures.parts c.read.ensures.ended
          c.in_ok-refill.ensures.some,
    )
