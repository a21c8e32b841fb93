use Rattle.std.proofs.Common.{◌≤◌, ◌+◌, ℕ, List, [], ◌∷◌, length, Option, None, arith}
use Rattle.gs_frames.specs.Client.{ClientSettings, Arrival}
use Rattle.gs_frames.specs.Handed.{Handed, handed}
use Rattle.gs_depack.specs.declared.depack.Depack.{Depack}
use Rattle.gs_depack.specs.Depack.{Handing}
use Rattle.gs_client_core.specs.Steps.{HandsRest}
use Rattle.gs_client_core.proofs.Hands.{hands-one, hands-last}
use Rattle.gs_client_core.proofs.hand.next_frames.Goals as goal

-- what the answers in these places, the last ones, hand of what wasn't handed before
abbrev HandsOn : Depack → Depack → ClientSettings → List Arrival → List (Option ℕ) → Type 0
HandsOn before last client came places =
    (given : List Handed) → length (handed client came) ≤ length given + length places
    → Handing before client came None given → HandsRest last client came given places

-- each answer, and then those behind it
pub returns : goal.returns
returns c = λ client came given handing few.
    let last = c.next-5.new.self in
    let fifth : HandsOn c.next-4.new.self last client came [] =
    λ more few handing. hands-last last client came more c.next-5.result (omega (arith, few)) (c.next-5.ensures client came None more handing) in
    let fourth : HandsOn c.next-3.new.self last client came (c.next-4.result ∷ []) =
    λ more few handing.
    hands-one c.next-4.new.self last client came more c.next-4.result [] (omega (arith, few)) (c.next-4.ensures client came None more handing) fifth in
    let third : HandsOn c.next-2.new.self last client came (c.next-3.result ∷ c.next-4.result ∷ []) =
    λ more few handing.
    hands-one c.next-3.new.self last client came more c.next-3.result (c.next-4.result ∷ []) (omega (arith, few))
    (c.next-3.ensures client came None more handing) fourth in
    let second : HandsOn c.next.new.self last client came (c.next-2.result ∷ c.next-3.result ∷ c.next-4.result ∷ []) =
    λ more few handing.
    hands-one c.next-2.new.self last client came more c.next-2.result (c.next-3.result ∷ c.next-4.result ∷ []) (omega (arith, few))
    (c.next-2.ensures client came None more handing) third in
    hands-one c.next.new.self last client came given c.next.result (c.next-2.result ∷ c.next-3.result ∷ c.next-4.result ∷ []) (omega (arith, few))
    (c.next.ensures client came None given handing) second
