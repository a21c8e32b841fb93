-- What a set-up does next is what its replies ask for.
use Rattle.std.proofs.Common.{◌≡◌, ◌⊎◌, suc, ◌+◌, ◌<◌, ltb, List, [], ◌∷◌, length, Option, Some, None, Ok, sym, ap, ◌∙◌, arith, inl, inr}
use Rattle.std.specs.Prelude.{is_some, option_map, slice_get}
use Rattle.std.proofs.lemmas.Bool.Decides.{nat_tests}
use Rattle.gs_bytes.specs.declared.addr.Addr.{Addr}
use Rattle.gs_rtp.specs.declared.settings.Settings.{Settings}
use Rattle.gs_rtp.specs.Stream.{numbers_of}
use Rattle.gs_rtsp_text.specs.declared.message.Response.{Response}
use Rattle.gs_rtsp.specs.declared.setup.Setup.{Setup}
use Rattle.gs_rtsp.specs.declared.step.Step.{Step}
use Rattle.gs_rtsp.specs.declared.step.Step.TheVariants.{Ask, Ready}
use Rattle.gs_rtsp.specs.Asking.{questions, agreed, first_reply_fault, request_for, IsNextAnswer, with_reply}
use Rattle.gs_rtsp.specs.Standing.{Asks, IsStepAfter}

-- as many requests were asked as there are replies, once the last one came
pub asked_is : (setup : Setup) (want : Settings) (host : Addr) (replies : List Response) (reply : Option Response) → is_some reply ≡ ltb 0 setup.asked
    → setup.fault ≡ None → Asks setup want host replies → setup.asked ≡ length (with_reply reply replies)
asked_is setup want host replies None e f a = by_count (a.asked f)
  where
    none : setup.asked ≡ 0
    none = grind (arith, nat_tests, e)

    by_count : (setup.asked ≡ 0 × replies ≡ []) ⊎ (setup.asked ≡ suc (length replies)) → setup.asked ≡ length replies
    by_count (inl h) = h.0 ∙ ap length (sym h.1)
    by_count (inr h) = absurd (omega (arith, none, h))
asked_is setup want host replies (Some r) e f a = by_count (a.asked f)
  where
    some : 0 < setup.asked
    some = grind (arith, nat_tests, e)

    by_count : (setup.asked ≡ 0 × replies ≡ []) ⊎ (setup.asked ≡ suc (length replies)) → setup.asked ≡ length (r ∷ replies)
    by_count (inl h) = absurd (omega (arith, h.0, some))
    by_count (inr h) = h

pub next_is : (setup : Setup) (want : Settings) (host : Addr) (replies : List Response) (s : Settings) (step : Step) → setup.host ≡ host
    → setup.asked ≡ length replies → first_reply_fault want host replies ≡ None → numbers_of s ≡ agreed want replies → IsStepAfter setup.host setup.asked s step
    → IsNextAnswer want host replies (Ok step)
next_is setup want host replies s (Ask request) eh ea f en h =
    let same : option_map (request_for host (agreed want replies) (length replies + 1)) (slice_get questions (length replies)) ≡ Some request =
    rw (← eh, ← ea, ← en) h in
    (f, same)
next_is setup want host replies s (Ready t) eh ea f en h = (f, sym ea ∙ h.0, ap numbers_of h.1 ∙ en)
