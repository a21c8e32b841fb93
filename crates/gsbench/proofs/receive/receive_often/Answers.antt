use Rattle.std.proofs.Common.{◌≡◌, ◌≤◌, ◌+◌, ◌-◌, ◌*◌, ◌^◌, ◌++◌, ◌∷◌, [], ℕ, List, true, false, Vec, Global}
use Rattle.std.proofs.Common.{length, map, get_or, slice_set, subst, sym, ap, ◌∙◌, arith}
use Rattle.std.specs.Vec.{vec_items, with_items}
use Rattle.std.proofs.lemmas.List.{length_push}
use Rattle.gs_fecqueue.specs.Standing.{IsQueueOf}
use Rattle.gs_frames.specs.Client.{Arrival, Datagram}
use Rattle.gs_fecqueue.specs.declared.queue.Queue.{Queue}
use Rattle.gsbench.specs.Sending.{arrivals_of, is_dropped, numbered_bytes, sent_of}
use Rattle.gsbench.proofs.Sendings.{AreSame, newest_first, one_more, same_long, same_set, sent_up_to, whole_frame, written_over}
use Rattle.gsbench.proofs.Sendings.{stands_came, stands_lost}
use Rattle.gsbench.proofs.receive.receive_often.Goals.{then-not-is_lost, else-not-is_lost}
use Rattle.gsbench.proofs.receive.receive_often.Goals as goal

pub returns : goal.returns
returns c = λ d came h.
    let At : ℕ → Type 0 = λ n. IsQueueOf c.frames.queue d (arrivals_of c.args.every n (map vec_items c.args.datagrams.now) ++ came) in
    let all : c.frames.frame - 1 ≡ c.args.count =
    omega (arith, c.frames-test.false, c.frames.auto.frame-end, c.frames.invariant.least) in
    subst At all (c.frames.invariant.stands d came h)

pub datagrams-preserved : goal.datagrams-preserved
datagrams-preserved c =
    let i = c.datagrams.invariant in
    let f = c.frames.frame in
    let old = c.args.datagrams.now in
    let k = c.datagrams.datagram-index in
    let e : Vec ℕ Global = get_or c.datagrams.datagrams k c.datagram-item.result in
    let y : Vec ℕ Global = with_items e c.set_frame.new.datagram in
    let many : e.len ≡ length e.items = sym c.deref_mut.ensures.len ∙ ap length c.deref_mut.ensures.value in
    let set : vec_items y ≡ numbered_bytes f (vec_items e) =
    written_over f e.len e.items c.deref_mut.result.now c.set_frame.new.datagram many c.deref_mut.ensures.value c.set_frame.ensures in
    let more : sent_up_to vec_items f (k + 1) old ≡ sent_up_to vec_items f k old ++ vec_items y ∷ [] =
    one_more vec_items f k old c.datagrams.datagrams y c.datagram-item.result i.same (omega arith) set in
    let same : AreSame vec_items old (slice_set c.datagrams.datagrams k y) =
    same_set vec_items f k old c.datagrams.datagrams y c.datagram-item.result i.same set in
    let few : c.datagrams.sent + 1 ≤ (f - 1) * 2 ^ 32 + (k + 1) = omega (arith, i.few) in
    let xs : List (List ℕ) = sent_up_to vec_items f k old in
    let sent : c.datagrams.sent + 1 ≡ length (sent_up_to vec_items f (k + 1) old) =
    ap (λ (n : ℕ). n + 1) i.sent ∙ sym (length_push xs (vec_items y)) ∙ sym (ap length more) in
    let number : c.datagrams.sent + 1 ≡ length xs + 1 = ap (λ (n : ℕ). n + 1) i.sent in
    elim c.if-not-is_lost.branch [
      | then-not-is_lost w ↦
          record {
            least = i.least;
            same = subst (AreSame vec_items old) (sym w.datagrams-is) same;
            few = few;
            sent = sent;
            stands = λ d came h.
                let At : List Arrival → Type 0 = λ all. IsQueueOf w.receive.new.queue d all in
                let before : List Arrival = newest_first c.args.every xs ++ came in
                let here : Datagram w.deref.result.now ∷ before ≡ Datagram (vec_items y) ∷ before =
                ap (λ (bytes : List ℕ). Datagram bytes ∷ before) w.deref.ensures.value in
                let not_lost : is_dropped c.args.every (c.datagrams.sent + 1) ≡ false = sym c.is_lost.ensures ∙ w.if-not-is_lost.true in
                let stands : IsQueueOf w.receive.new.queue d (newest_first c.args.every (sent_up_to vec_items f (k + 1) old) ++ came) =
                stands_came At c.args.every (c.datagrams.sent + 1) xs _ (vec_items y) came number not_lost more
                (subst At here (w.receive.ensures d before (i.stands d came h))) in
                let Of : Queue → Type 0 = λ q. IsQueueOf q d (newest_first c.args.every (sent_up_to vec_items f (k + 1) old) ++ came) in
                subst Of (sym w.queue-is) stands;
          }
      | else-not-is_lost w ↦
          record {
            least = i.least;
            same = subst (AreSame vec_items old) (sym w.datagrams-is) same;
            few = few;
            sent = sent;
            stands = λ d came h.
                let At : List Arrival → Type 0 = λ all. IsQueueOf c.datagrams.queue d all in
                let lost : is_dropped c.args.every (c.datagrams.sent + 1) ≡ true = sym c.is_lost.ensures ∙ w.if-not-is_lost.false in
                let stands : IsQueueOf c.datagrams.queue d (newest_first c.args.every (sent_up_to vec_items f (k + 1) old) ++ came) =
                stands_lost At c.args.every (c.datagrams.sent + 1) xs _ (vec_items y) came number lost more (i.stands d came h) in
                let Of : Queue → Type 0 = λ q. IsQueueOf q d (newest_first c.args.every (sent_up_to vec_items f (k + 1) old) ++ came) in
                subst Of (sym w.queue-is) stands;
          }
    ]

pub frames-preserved : goal.frames-preserved
frames-preserved c =
    let i = c.datagrams.invariant in
    let f = c.frames.frame in
    let old = c.args.datagrams.now in
    let k = c.datagrams.datagram-index in
    let many = same_long vec_items old c.datagrams.datagrams i.same in
    let whole_k : k ≡ length old = omega (arith, many) in
    let next : f + 1 - 1 ≡ f = omega arith in
    let whole : sent_up_to vec_items f k old ≡ sent_of (f + 1 - 1) (map vec_items old) =
    whole_frame vec_items f k old i.least whole_k ∙ ap (λ (n : ℕ). sent_of n (map vec_items old)) (sym next) in
    record {
      least = omega arith;
      same = i.same;
      few = omega (arith, i.few, whole_k, c.requires.few);
      sent = i.sent ∙ ap length whole;
      stands = λ d came h.
          let At : List (List ℕ) → Type 0 = λ xs. IsQueueOf c.datagrams.queue d (newest_first c.args.every xs ++ came) in
          subst At whole (i.stands d came h);
    }
