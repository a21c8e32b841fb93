-- A datagram is read in one way, and its request says how it is routed.
use Rattle.std.proofs.Common.{◌≡◌, ◌⊎◌, ℕ, Option, Some, None, Result, Ok, Err, sym, subst, ◌∙◌, inl, inr}
use Rattle.gs_bytes.specs.declared.addr.Addr.{Addr}
use Rattle.gs_enet_wire.specs.declared.command.Connect.{Connect}
use Rattle.gs_enet_wire.specs.declared.datagram.Datagram.{Datagram}
use Rattle.gs_enet_wire.specs.declared.error.WireError.{WireError}
use Rattle.gs_enet_wire.specs.declared.error.WireError.TheVariants.{BadDatagram, OutOfMemory}
use Rattle.gs_enet_hub.specs.declared.route_error.RouteError.{RouteError}
use Rattle.gs_enet_hub.specs.Seating.{Seating}
use Rattle.gs_enet_hub.specs.Routing.{request_of, RoutesRequest, RoutesOther, RoutesIf, Routes}

pub same_read : (result : Result Datagram WireError) (found d : Datagram) → result ≡ Ok found → (result ≡ Ok d) ⊎ (result ≡ Err OutOfMemory) → d ≡ found
same_read result found d is (inl e) = cc
same_read result found d is (inr e) = absurd cc

pub no_fault : (result : Result Datagram WireError) (d : Datagram) (error : WireError) (place : ℕ) → result ≡ Err error → error ≡ BadDatagram place
    → (result ≡ Ok d) ⊎ (result ≡ Err OutOfMemory) → ⊥
no_fault result d error place is bad (inl e) = absurd cc
no_fault result d error place is bad (inr e) = absurd cc

pub routes_request : (d found : Datagram) (asked : Option Connect) (c : Connect) (from : Addr) (now : ℕ) (old : Seating) (answer : Result ℕ RouteError)
    (new : Seating)
    → d ≡ found → asked ≡ request_of found → asked ≡ Some c → RoutesRequest c from now old answer new → Routes d from now old answer new
routes_request d found asked c from now old answer new same is some h =
    subst (λ (x : Datagram). Routes x from now old answer new) (sym same)
    (subst (λ (o : Option Connect). RoutesIf o found.peer from now old answer new) (sym some ∙ is) h)

pub routes_other : (d found : Datagram) (asked : Option Connect) (from : Addr) (now : ℕ) (old : Seating) (answer : Result ℕ RouteError) (new : Seating)
    → d ≡ found → asked ≡ request_of found → asked ≡ None → RoutesOther found.peer from old answer new → Routes d from now old answer new
routes_other d found asked from now old answer new same is none h =
    subst (λ (x : Datagram). Routes x from now old answer new) (sym same)
    (subst (λ (o : Option Connect). RoutesIf o found.peer from now old answer new) (sym none ∙ is) h)
