-- A pump, delivery after delivery.
use Rattle.std.proofs.Common.{◌≡◌, ℕ, Bool, true, false, List, [], ◌∷◌, ◌++◌, refl, sym, ap, subst, ◌∙◌}
use Rattle.std.specs.Bool.{MatchBool}
use Rattle.std.proofs.lemmas.List.{append_assoc}
use Rattle.gs_run.specs.Session.{Part}
use Rattle.gs_run.specs.Scene.{Scene}
use Rattle.gs_run.specs.Report.{Report, Acted}
use Rattle.gs_run.specs.Deed.{SessionDeed, TakeVideo, TakeAudio, TakeUp, TakeDown, Mark}
use Rattle.gs_run.specs.Refusal.{is_allowed}
use Rattle.gs_run.specs.Done.{settled_in}
use Rattle.gs_run.specs.Pump.{Pumping, ends_of, next_pumped, moved}
use Rattle.gs_report.specs.Reporting.{Reporting, Did, with_reports}
use Rattle.gs_report.proofs.Reported.{then_more, with_none}
use Rattle.gs_loopback.specs.declared.delivery.Delivery.{Delivery}
use Rattle.gs_loopback.specs.declared.delivery.Delivery.TheVariants as delivery
use Rattle.gs_loopback.specs.declared.session.Loopback.{Loopback}
use Rattle.gs_loopback.specs.Standing.{IsLoopbackOf}
use Rattle.gs_loopback.specs.Running.{run_delivery, RanIn, ran_in, EndsPump, ArePumped, pump_start}
use Rattle.gs_loopback.specs.Outcomes.{RanScene, RanAll, Pumped}
use Rattle.gs_loopback.proofs.Turns.{ran_on, one_allowed, one_stands}

-- these reports, and then what deeds came to
abbrev pub behind : List Report → RanIn → RanIn
behind reports rest = record rest { reports = reports ++ rest.reports }

-- a list of a pump's deeds, from its start, comes to this
pub record FromStart (scene : Scene) (every : ℕ) (first : Part) (whole : RanIn) : Type 0 where
  pub deeds : List SessionDeed
  pub are : ArePumped scene every (pump_start first) first deeds
  pub ran_is : ran_in scene deeds first ≡ whole

-- A pump is so far: what it did yet, and the deeds that it does from here, are what it does from its start.
pub record PumpSoFar (scene : Scene) (every : ℕ) (first : Part) (pumping : Pumping) (before : Reporting) (new : Loopback) (now : Reporting)
    : Type 0 where
  pub part : Part
  pub reports : List Report
  pub stands : IsLoopbackOf new scene.session scene.ticks part
  pub text : now ≡ with_reports before reports
  pub goes_on : (deeds : List SessionDeed) → ArePumped scene every pumping part deeds
      → FromStart scene every first (behind reports (ran_in scene deeds part))

pub pump_begins : (scene : Scene) (every : ℕ) (first : Part) (pumping : Pumping) (before : Reporting) (new : Loopback)
    → pumping ≡ pump_start first → IsLoopbackOf new scene.session scene.ticks first
    → PumpSoFar scene every first pumping before new before
pump_begins scene every first pumping before new e stands = record {
  part = first;
  reports = [];
  stands = stands;
  text = sym (with_none before);
  goes_on = λ deeds are. record {
    deeds = deeds;
    are = subst (λ (p : Pumping). ArePumped scene every p first deeds) e are;
    ran_is = refl;
  };
}

at_true : (b : Bool) (P Q : Type 0) → b ≡ true → P → MatchBool b P Q
at_true true P Q e p = p
at_true false P Q e p = absurd cc

at_false : (b : Bool) (P Q : Type 0) → b ≡ false → Q → MatchBool b P Q
at_false true P Q e q = absurd cc
at_false false P Q e q = q

goes_behind : (scene : Scene) (every : ℕ) (pumping : Pumping) (part : Part) (d : Delivery) (deeds : List SessionDeed)
    (IsRest : Pumping → Part → Type 0) → is_allowed scene (run_delivery d) part ≡ true
    → IsRest (moved (run_delivery d) pumping) (settled_in scene (run_delivery d) part).value
    → EndsPump scene every pumping part (run_delivery d) deeds IsRest
goes_behind scene every pumping part (delivery.Video k) deeds IsRest holds rest =
    at_true (is_allowed scene (TakeVideo k) part) (IsRest (moved (TakeVideo k) pumping) (settled_in scene (TakeVideo k) part).value) (deeds ≡ []) holds rest
goes_behind scene every pumping part (delivery.Audio k) deeds IsRest holds rest =
    at_true (is_allowed scene (TakeAudio k) part) (IsRest (moved (TakeAudio k) pumping) (settled_in scene (TakeAudio k) part).value) (deeds ≡ []) holds rest
goes_behind scene every pumping part (delivery.Up k) deeds IsRest holds rest =
    at_true (is_allowed scene (TakeUp k) part) (IsRest (moved (TakeUp k) pumping) (settled_in scene (TakeUp k) part).value) (deeds ≡ []) holds rest
goes_behind scene every pumping part (delivery.Down k) deeds IsRest holds rest =
    at_true (is_allowed scene (TakeDown k) part) (IsRest (moved (TakeDown k) pumping) (settled_in scene (TakeDown k) part).value) (deeds ≡ []) holds rest

is_last : (scene : Scene) (every : ℕ) (pumping : Pumping) (part : Part) (d : Delivery)
    (IsRest : Pumping → Part → Type 0) → is_allowed scene (run_delivery d) part ≡ false
    → EndsPump scene every pumping part (run_delivery d) [] IsRest
is_last scene every pumping part (delivery.Video k) IsRest isnt =
    at_false (is_allowed scene (TakeVideo k) part) (IsRest (moved (TakeVideo k) pumping) (settled_in scene (TakeVideo k) part).value)
    (◌≡◌ {A = List SessionDeed} [] []) isnt refl
is_last scene every pumping part (delivery.Audio k) IsRest isnt =
    at_false (is_allowed scene (TakeAudio k) part) (IsRest (moved (TakeAudio k) pumping) (settled_in scene (TakeAudio k) part).value)
    (◌≡◌ {A = List SessionDeed} [] []) isnt refl
is_last scene every pumping part (delivery.Up k) IsRest isnt =
    at_false (is_allowed scene (TakeUp k) part) (IsRest (moved (TakeUp k) pumping) (settled_in scene (TakeUp k) part).value)
    (◌≡◌ {A = List SessionDeed} [] []) isnt refl
is_last scene every pumping part (delivery.Down k) IsRest isnt =
    at_false (is_allowed scene (TakeDown k) part) (IsRest (moved (TakeDown k) pumping) (settled_in scene (TakeDown k) part).value)
    (◌≡◌ {A = List SessionDeed} [] []) isnt refl

-- a delivery that was done
pub pump_moves : (scene : Scene) (every : ℕ) (first : Part) (pumping next : Pumping) (before : Reporting) (mid new : Loopback) (now after : Reporting)
    → (far : PumpSoFar scene every first pumping before mid now) → (d : Delivery)
    → run_delivery d ≡ next_pumped every pumping (ends_of scene far.part) → next ≡ moved (run_delivery d) pumping
    → RanAll scene (run_delivery d ∷ []) far.part true new now after
    → PumpSoFar scene every first next before new after
pump_moves scene every first pumping next before mid new now after far d is moves ran =
    let deed : SessionDeed = run_delivery d in
    let did : Acted Part = settled_in scene deed far.part in
    let holds : is_allowed scene deed far.part ≡ true = one_allowed scene deed far.part true new now after ran in
    let done : Did (IsLoopbackOf new scene.session scene.ticks) did now after = one_stands scene deed far.part new now after ran in
    record {
      part = did.value;
      reports = far.reports ++ did.reports;
      stands = done.stands;
      text = then_more before now after far.reports did.reports far.text done.text;
      goes_on = λ deeds are.
          let here : ArePumped scene every (moved deed pumping) did.value deeds =
          subst (λ (p : Pumping). ArePumped scene every p did.value deeds) moves are in
          let same : behind far.reports (ran_in scene (deed ∷ deeds) far.part)
          ≡ behind (far.reports ++ did.reports) (ran_in scene deeds did.value) =
          ap (behind far.reports) (ran_on scene deed deeds far.part holds)
          ∙ ap (λ (l : List Report). record (ran_in scene deeds did.value) { reports = l })
          (sym (append_assoc far.reports did.reports (ran_in scene deeds did.value).reports)) in
          subst (FromStart scene every first) same
          (far.goes_on (deed ∷ deeds)
          (is, goes_behind scene every pumping far.part d deeds (λ p q. ArePumped scene every p q deeds) holds here));
    }

-- ---- the end

ends_with : (scene : Scene) (every : ℕ) (first : Part) (before now after : Reporting) (done : Bool) (new : Loopback) (reports : List Report)
    (deed : SessionDeed) (part : Part) → now ≡ with_reports before reports
    → FromStart scene every first (behind reports (ran_in scene (deed ∷ []) part))
    → RanAll scene (deed ∷ []) part done new now after
    → Pumped scene every first done new before after
ends_with scene every first before now after done new reports deed part text from ran =
    let last : RanIn = ran_in scene (deed ∷ []) part in
    let whole : RanScene scene (behind reports last) done new before after = record {
      done_is = ran.done_is;
      stands = ran.stands;
      text = then_more before now after reports last.reports text ran.text;
    } in
    record {
      deeds = from.deeds;
      are_pumped = from.are;
      ran = subst (λ (r : RanIn). RanScene scene r done new before after) (sym from.ran_is) whole;
    }

pub pump_ends : (scene : Scene) (every : ℕ) (first : Part) (pumping : Pumping) (before : Reporting) (mid new : Loopback) (now after : Reporting)
    → (far : PumpSoFar scene every first pumping before mid now) → Mark ≡ next_pumped every pumping (ends_of scene far.part)
    → RanAll scene (Mark ∷ []) far.part true new now after → Pumped scene every first true new before after
pump_ends scene every first pumping before mid new now after far is ran =
    ends_with scene every first before now after true new far.reports Mark far.part far.text
    (far.goes_on (Mark ∷ []) (is, refl)) ran

pub pump_stops : (scene : Scene) (every : ℕ) (first : Part) (pumping : Pumping) (before : Reporting) (mid new : Loopback) (now after : Reporting)
    → (far : PumpSoFar scene every first pumping before mid now) → (d : Delivery)
    → run_delivery d ≡ next_pumped every pumping (ends_of scene far.part)
    → RanAll scene (run_delivery d ∷ []) far.part false new now after → Pumped scene every first false new before after
pump_stops scene every first pumping before mid new now after far d is ran =
    let isnt = one_allowed scene (run_delivery d) far.part false new now after ran in
    ends_with scene every first before now after false new far.reports (run_delivery d) far.part far.text
    (far.goes_on (run_delivery d ∷ [])
    (is, is_last scene every pumping far.part d (λ p q. ArePumped scene every p q []) isnt)) ran
