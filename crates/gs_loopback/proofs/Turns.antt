-- One deed, and the deeds behind it.
use Rattle.std.proofs.Common.{◌≡◌, ℕ, Bool, true, false, not, cond, List, [], ◌∷◌, ◌++◌, Result, Ok, Err, refl, sym, ap, subst, ◌∙◌}
use Rattle.std.specs.Result.{IfOk, OnOk}
use Rattle.std.proofs.lemmas.List.{append-nil}
use Rattle.gs_tape.specs.Tick.{Tick}
use Rattle.gs_run.specs.Session.{Part}
use Rattle.gs_run.specs.Scene.{Scene}
use Rattle.gs_run.specs.Report.{Report, Acted}
use Rattle.gs_run.specs.Deed.{SessionDeed, Close}
use Rattle.gs_run.specs.Connection.{settled_part}
use Rattle.gs_run.specs.Refusal.{is_allowed}
use Rattle.gs_run.specs.Done.{done_in, settled_in}
use Rattle.gs_report.specs.Reporting.{Reporting, Did, with_reports}
use Rattle.gs_report.proofs.Reported.{with_none}
use Rattle.gs_client_end.specs.Outcomes.{DoneIf}
use Rattle.gs_host_end.specs.Standing.{IsHostEndOf}
use Rattle.gs_loopback.specs.declared.session.Loopback.{Loopback}
use Rattle.gs_loopback.specs.Standing.{IsLoopbackOf, run_marks}
use Rattle.gs_loopback.specs.Running.{RanIn, then_ran_in, ran_in}
use Rattle.gs_loopback.specs.Outcomes.{RanScene, RanAll, Attempts}

-- ---- what deeds come to

abbrev pub refused_at : Part → RanIn
refused_at part = record { part = part; reports = []; refused = true }

pub ran_on : (scene : Scene) (deed : SessionDeed) (deeds : List SessionDeed) (part : Part) → is_allowed scene deed part ≡ true
    → ran_in scene (deed ∷ deeds) part
    ≡ then_ran_in (settled_in scene deed part) (ran_in scene deeds (settled_in scene deed part).value)
unfolding ran_in
ran_on scene deed deeds part holds =
    ap (λ (b : Bool). cond {A = RanIn} b
    (then_ran_in (settled_in scene deed part) (ran_in scene deeds (settled_in scene deed part).value)) (refused_at part)) holds

pub ran_off : (scene : Scene) (deed : SessionDeed) (deeds : List SessionDeed) (part : Part) → is_allowed scene deed part ≡ false
    → ran_in scene (deed ∷ deeds) part ≡ refused_at part
unfolding ran_in
ran_off scene deed deeds part isnt =
    ap (λ (b : Bool). cond {A = RanIn} b
    (then_ran_in (settled_in scene deed part) (ran_in scene deeds (settled_in scene deed part).value)) (refused_at part)) isnt

pub ran_none : (scene : Scene) (part : Part) → ran_in scene [] part ≡ record { part = part; reports = []; refused = false }
unfolding ran_in
ran_none scene part = refl

-- one deed that was done
abbrev pub ran_one : Scene → SessionDeed → Part → RanIn
ran_one scene deed part = record {
  part = settled_part scene.moment (done_in scene deed part).value;
  reports = (done_in scene deed part).reports;
  refused = false;
}

pub ran_one_is : (scene : Scene) (deed : SessionDeed) (part : Part) → is_allowed scene deed part ≡ true
    → ran_in scene (deed ∷ []) part ≡ ran_one scene deed part
ran_one_is scene deed part holds =
    let reports : List Report = (done_in scene deed part).reports in
    ran_on scene deed [] part holds
    ∙ ap (then_ran_in (settled_in scene deed part)) (ran_none scene (settled_in scene deed part).value)
    ∙ ap (λ (l : List Report). record (ran_one scene deed part) { reports = l }) (append-nil (reports ++ []) ∙ append-nil reports)

-- ---- the outcome of a call

pub one_done : (scene : Scene) (deed : SessionDeed) (part : Part) (new : Loopback) (before now : Reporting)
    → is_allowed scene deed part ≡ true
    → IsLoopbackOf new scene.session scene.ticks (settled_part scene.moment (done_in scene deed part).value)
    → now ≡ with_reports before (done_in scene deed part).reports → RanAll scene (deed ∷ []) part true new before now
one_done scene deed part new before now holds stands text =
    subst (λ (r : RanIn). RanScene scene r true new before now) (sym (ran_one_is scene deed part holds))
    (record { done_is = refl; stands = λ _. stands; text = text })

pub one_refused : (scene : Scene) (deed : SessionDeed) (part : Part) (new : Loopback) (before now : Reporting)
    → is_allowed scene deed part ≡ false → now ≡ before → RanAll scene (deed ∷ []) part false new before now
one_refused scene deed part new before now isnt same =
    subst (λ (r : RanIn). RanScene scene r false new before now) (sym (ran_off scene deed [] part isnt))
    (record { done_is = refl; stands = λ e. absurd cc; text = same ∙ sym (with_none before) })

-- an attempt, behind which both sides wrote out where it was done
pub attempt_ran : (scene : Scene) (deed : SessionDeed) (part : Part) (done : Bool) (moment : ℕ) (mid new : Loopback) (before now : Reporting)
    → scene.moment ≡ moment → Attempts scene deed part done mid before now
    → (done ≡ true → (session : ℕ) (ticks : List Tick) (p : Part) → IsLoopbackOf mid session ticks p
    → IsLoopbackOf new session ticks (settled_part moment p))
    → RanAll scene (deed ∷ []) part done new before now
attempt_ran scene deed part true moment mid new before now at did settles =
    one_done scene deed part new before now did.0
    (subst (λ (m : ℕ). IsLoopbackOf new scene.session scene.ticks (settled_part m (done_in scene deed part).value)) (sym at)
    (settles refl scene.session scene.ticks (done_in scene deed part).value did.1.stands))
    did.1.text
attempt_ran scene deed part false moment mid new before now at did settles =
    one_refused scene deed part new before now did.0 did.1

-- both sides write out where the deed was done, which a call tells
pub call_ran : {E : Type 0} (deed : SessionDeed) (done : Bool) (moment : ℕ) (old mid new : Loopback) (before now : Reporting) (r : Result Bool E)
    → ((scene : Scene) (part : Part) → scene.moment ≡ moment → IsLoopbackOf old scene.session scene.ticks part
    → Attempts scene deed part done mid before now)
    → IfOk r (λ told. told ≡ done)
    → OnOk r (done ≡ true → (session : ℕ) (ticks : List Tick) (p : Part) → IsLoopbackOf mid session ticks p
    → IsLoopbackOf new session ticks (settled_part moment p))
    → IfOk r (λ told. (scene : Scene) (part : Part) → scene.moment ≡ moment → IsLoopbackOf old scene.session scene.ticks part
    → RanAll scene (deed ∷ []) part told new before now)
call_ran deed done moment old mid new before now (Ok told) did same settles = λ scene part at h.
    subst (λ (b : Bool). RanAll scene (deed ∷ []) part b new before now) (sym same)
    (attempt_ran scene deed part done moment mid new before now at (did scene part at h) settles)
call_ran deed done moment old mid new before now (Err e) did same settles = tt

-- the same of the client that closes, of which nothing is reported
pub close_ran : {E : Type 0} (done : Bool) (moment : ℕ) (old mid new : Loopback) (r : Result Bool E)
    → ((scene : Scene) (part : Part) (before : Reporting) → IsLoopbackOf old scene.session scene.ticks part
    → Attempts scene Close part done mid before before)
    → IfOk r (λ told. told ≡ done)
    → OnOk r (done ≡ true → (session : ℕ) (ticks : List Tick) (p : Part) → IsLoopbackOf mid session ticks p
    → IsLoopbackOf new session ticks (settled_part moment p))
    → IfOk r (λ told. (scene : Scene) (part : Part) (before : Reporting) → scene.moment ≡ moment
    → IsLoopbackOf old scene.session scene.ticks part → RanAll scene (Close ∷ []) part told new before before)
close_ran done moment old mid new (Ok told) did same settles = λ scene part before at h.
    subst (λ (b : Bool). RanAll scene (Close ∷ []) part b new before before) (sym same)
    (attempt_ran scene Close part done moment mid new before before at (did scene part before h) settles)
close_ran done moment old mid new (Err e) did same settles = tt

-- what the client did, where the host has no part in it
pub client_attempts : (scene : Scene) (deed : SessionDeed) (part : Part) (allowed : Bool) (did : Acted Part) (done : Bool) (new : Loopback)
    (before now : Reporting) → is_allowed scene deed part ≡ allowed → done_in scene deed part ≡ did
    → IsHostEndOf new.host scene.session scene.ticks did.value → run_marks new.marks ≡ did.value.marks
    → DoneIf allowed scene.session did done new.client before now
    → Attempts scene deed part done new before now
client_attempts scene deed part allowed did true new before now a d host marks x = (
  a ∙ x.0,
  subst (λ (y : Acted Part). Did (IsLoopbackOf new scene.session scene.ticks) y before now) (sym d)
      (record { stands = record { host = host; client = x.1.stands; marks = marks }; text = x.1.text }),
)
client_attempts scene deed part allowed did false new before now a d host marks x = (a ∙ x.0, x.1)

-- ---- what the outcome of one deed tells

pub one_allowed : (scene : Scene) (deed : SessionDeed) (part : Part) (done : Bool) (new : Loopback) (before now : Reporting)
    → RanAll scene (deed ∷ []) part done new before now → is_allowed scene deed part ≡ done
one_allowed scene deed part done new before now ran = by (is_allowed scene deed part) refl where
  by : (b : Bool) → is_allowed scene deed part ≡ b → b ≡ done
  by true holds = sym (ran.done_is ∙ ap (λ (r : RanIn). not r.refused) (ran_one_is scene deed part holds))
  by false isnt = sym (ran.done_is ∙ ap (λ (r : RanIn). not r.refused) (ran_off scene deed [] part isnt))

pub one_stands : (scene : Scene) (deed : SessionDeed) (part : Part) (new : Loopback) (before now : Reporting)
    → RanAll scene (deed ∷ []) part true new before now
    → Did (IsLoopbackOf new scene.session scene.ticks) (settled_in scene deed part) before now
one_stands scene deed part new before now ran =
    let e = ran_one_is scene deed part (one_allowed scene deed part true new before now ran) in
    let one : RanScene scene (ran_one scene deed part) true new before now =
    subst (λ (r : RanIn). RanScene scene r true new before now) e ran in
    record {
      stands = one.stands refl;
      text = one.text ∙ ap (with_reports before) (sym (append-nil (done_in scene deed part).reports));
    }

pub one_unchanged : (scene : Scene) (deed : SessionDeed) (part : Part) (new : Loopback) (before now : Reporting)
    → RanAll scene (deed ∷ []) part false new before now → now ≡ before
one_unchanged scene deed part new before now ran =
    let e = ran_off scene deed [] part (one_allowed scene deed part false new before now ran) in
    ran.text ∙ ap (λ (r : RanIn). with_reports before r.reports) e ∙ with_none before
