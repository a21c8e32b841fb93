use Rattle.std.proofs.Common.{◌≡◌, ℕ, suc, ◌+◌, ◌<◌, List, ◌∷◌, length, get_or, drop, None, sym, ap, ◌∙◌, add-one, Option}
use Rattle.std.proofs.Math.Seq.{drop-cons}
use Rattle.std.proofs.lemmas.List.{take_rest}
use Rattle.gs_rtsp.specs.declared.stream.Stream.{Stream}
use Rattle.gs_rtsp.specs.Reply.{stream_at, stream_in, first_of}
use Rattle.gs_rtsp.proofs.stream.Stream.named_in.Goals as goal

-- where no word stands first at a place, the first one is behind it
behind : (target : List ℕ) (i : ℕ) → i < length target → stream_at (drop i target) ≡ None → stream_in (drop (i + 1) target) ≡ stream_in (drop i target)
behind target i h e =
    let parts = drop-cons target i 0 h in
    let none : stream_at (get_or target i 0 ∷ drop (suc i) target) ≡ None = ap stream_at (sym parts) ∙ e in
    ap (λ (n : ℕ). stream_in (drop n target)) (add-one i)
    ∙ sym (ap stream_in parts ∙ ap (λ (o : Option Stream). first_of o (stream_in (drop (suc i) target))) none)

pub loop-i-preserved : goal.loop-i-preserved
loop-i-preserved c =
    let none : stream_at (drop c.loop-i.i c.args.target.now) ≡ None = ap stream_at (sym (take_rest c.args.target.now c.loop-i.i)) ∙ sym c.at.ensures
    ∙ c.in_default.is in
    behind c.args.target.now c.loop-i.i c.loop-i-test.true none ∙ c.loop-i.invariant
