use Rattle.std.proofs.Common.{◌≡◌, ◌<◌, ◌≤◌, ◌+◌, ◌-◌, ◌%◌, ℕ, Bool, true, List, [], ◌∷◌, length, Option, Some, None, refl, sym, ap, ◌∙◌, arith, rules}
use Rattle.std.specs.Prelude.{nat_lt, if◌then◌else◌}
use Rattle.std.specs.List.{slice_get}
use Rattle.std.proofs.lemmas.Bool.{cond-true, lt-ltb}
use Rattle.gs_frames.specs.Received.{greatest}
use Rattle.gs_fecqueue.specs.declared.moved.Moved.{Moved}
use Rattle.gs_fecqueue.specs.Moves.{is_whole_below, moved_to}
use Rattle.gs_fecqueue.specs.QueueSteps.{swapped}
use Rattle.gs_fecqueue.proofs.Places.{swapped-get}
use Rattle.gs_fecqueue.proofs.queue.Queue.advance.Goals as goal

abbrev made : ℕ → ℕ → Bool → Bool → Bool → Bool → Option Moved
made from to a b c d = Some (record { from = from; to = to; whole = a ∷ b ∷ c ∷ d ∷ [] })

made-same : (f g to : ℕ) (a b c d a' b' c' d' : Bool) → f ≡ g → a ≡ a' → b ≡ b' → c ≡ c' → d ≡ d' → made f to a b c d ≡ made g to a' b' c' d'
made-same f g to a b c d a' b' c' d' e ea eb ec ed = cc

pub returns-clause-frames : goal.returns-clause-frames
returns-clause-frames c =
    let q = c.args.self.now in
    let greater : nat_lt q.greatest c.args.to ≡ true = lt-ltb q.greatest c.args.to c.if-to-self.false in
    let place = c.place_of-place.result in
    let last = c.len-last.result - 1 in
    let size : length c.swap.new.self.items ≡ length q.frames.items =
    omega (arith, c.swap.ensures.len, c.swap.new.self.ok.0, q.frames.ok.0) in
    let last_is : last ≡ length q.frames.items - 1 = omega (arith, c.len-last.ensures, q.frames.ok.0) in
    let from : swapped place last ≡ swapped (c.args.to % q.window) (length q.frames.items - 1) =
    ap (λ (n : ℕ). swapped n last) c.place_of-place.ensures.is ∙ ap (swapped (c.args.to % q.window)) last_is in
    record {
      settings = record { packet = refl; ssrc = refl; window = refl; count = size };
      is_greatest = sym (cond-true (nat_lt q.greatest c.args.to) c.args.to q.greatest greater);
      frames = λ k.
          swapped-get q.frames.items c.swap.new.self.items place last k size (omega arith) (omega arith) c.swap.ensures.by_index
          ∙ ap (λ (f : ℕ → ℕ). slice_get q.frames.items (f k)) from
          ∙ sym (ap (slice_get q.frames.items)
          (cond-true (nat_lt q.greatest c.args.to) (swapped (c.args.to % q.window) (length q.frames.items - 1) k) k greater));
    }

pub returns-clause-moved : goal.returns-clause-moved
returns-clause-moved c = λ s before now stands.
    let q = c.args.self.now in
    let e = stands.is_greatest in
    let e0 = c.is_whole_below.ensures s before now stands in
    let e1 = c.is_whole_below-2.ensures s before now stands in
    let e2 = c.is_whole_below-3.ensures s before now stands in
    let e3 = c.is_whole_below-4.ensures s before now stands in
    let less : greatest now < c.args.to = omega (arith, c.if-to-self.false) in
    let greater : nat_lt (greatest now) c.args.to ≡ true = lt-ltb (greatest now) c.args.to less in
    made-same q.greatest (greatest now) c.args.to _ _ _ _ _ _ _ _ e e0 e1 e2 e3
    ∙ sym (cond-true (nat_lt (greatest now) c.args.to) (Some (moved_to s now c.args.to)) None greater)
