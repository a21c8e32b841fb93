-- Video datagrams, one after the other.
use Rattle.std.proofs.Common.{◌≡◌, ◌≤◌, ◌+◌, ◌-◌, ℕ, zero, suc, true, false, List, [], ◌∷◌, ◌++◌, map, refl, sym, ap, subst, ◌∙◌, arith}
use Rattle.std.specs.List.{range_with_len}
use Rattle.std.proofs.lemmas.List.{append-nil, append_assoc}
use Rattle.gs_run.specs.Session.{Part}
use Rattle.gs_run.specs.Scene.{Scene}
use Rattle.gs_run.specs.Report.{Report, Acted}
use Rattle.gs_run.specs.Deed.{SessionDeed, TakeVideo}
use Rattle.gs_run.specs.Refusal.{is_allowed}
use Rattle.gs_run.specs.Done.{settled_in}
use Rattle.gs_report.specs.Reporting.{Reporting, Did, with_reports}
use Rattle.gs_report.proofs.Reported.{then_more, with_none}
use Rattle.gs_loopback.specs.declared.session.Loopback.{Loopback}
use Rattle.gs_loopback.specs.Standing.{IsLoopbackOf}
use Rattle.gs_loopback.specs.Running.{RanIn, ran_in, video_deeds}
use Rattle.gs_loopback.specs.Outcomes.{RanScene, RanAll}
use Rattle.gs_loopback.proofs.Turns.{refused_at, ran_on, ran_off, ran_none, one_allowed, one_stands, one_unchanged}
use Rattle.gs_loopback.proofs.Pumps.{behind}

-- so many deeds from a number on
abbrev pub videos_from : ℕ → ℕ → List SessionDeed
videos_from first count = map TakeVideo (range_with_len first count)

-- so many, and then more
from_split : (first m n : ℕ) → videos_from first (m + n) ≡ videos_from first m ++ videos_from (first + m) n
from_split first zero n = ap (λ (k : ℕ). videos_from first k) (omega arith) ∙ ap (λ (k : ℕ). videos_from k n) (omega arith)
from_split first (suc m) n =
    let count : suc m + n ≡ suc (m + n) = omega arith in
    let place : first + 1 + m ≡ first + suc m = omega arith in
    ap (videos_from first) count
    ∙ ap (λ (l : List SessionDeed). TakeVideo first ∷ l) (from_split (first + 1) m n)
    ∙ ap (λ (k : ℕ). videos_from first (suc m) ++ videos_from k n) place

-- What was delivered below a number, and any deeds from here, are what is done from the start.
pub record VideosSoFar (scene : Scene) (first number : ℕ) (start : Part) (before : Reporting) (new : Loopback) (now : Reporting) : Type 0 where
  pub part : Part
  pub reports : List Report
  pub stands : IsLoopbackOf new scene.session scene.ticks part
  pub text : now ≡ with_reports before reports
  pub goes_on : (deeds : List SessionDeed)
      → ran_in scene (videos_from first (number - first) ++ deeds) start ≡ behind reports (ran_in scene deeds part)

pub videos_begin : (scene : Scene) (first : ℕ) (start : Part) (before : Reporting) (new : Loopback)
    → IsLoopbackOf new scene.session scene.ticks start → VideosSoFar scene first first start before new before
videos_begin scene first start before new stands = record {
  part = start;
  reports = [];
  stands = stands;
  text = sym (with_none before);
  goes_on = λ deeds.
      let none : first - first ≡ 0 = omega arith in
      ap (λ (k : ℕ). ran_in scene (videos_from first k ++ deeds) start) none;
}

pub videos_move : (scene : Scene) (first number next : ℕ) (start : Part) (before : Reporting) (mid new : Loopback) (now after : Reporting)
    → first ≤ number → next ≡ number + 1 → (far : VideosSoFar scene first number start before mid now)
    → RanAll scene (TakeVideo number ∷ []) far.part true new now after
    → VideosSoFar scene first next start before new after
videos_move scene first number next start before mid new now after begun moves far ran =
    let deed : SessionDeed = TakeVideo number in
    let did : Acted Part = settled_in scene deed far.part in
    let holds : is_allowed scene deed far.part ≡ true = one_allowed scene deed far.part true new now after ran in
    let done : Did (IsLoopbackOf new scene.session scene.ticks) did now after = one_stands scene deed far.part new now after ran in
    let count : next - first ≡ number - first + 1 = omega (arith, begun, moves) in
    let place : first + (number - first) ≡ number = omega (arith, begun) in
    let one_more : videos_from first (next - first) ≡ videos_from first (number - first) ++ deed ∷ [] =
    ap (videos_from first) count ∙ from_split first (number - first) 1
    ∙ ap (λ (k : ℕ). videos_from first (number - first) ++ videos_from k 1) place in
    record {
      part = did.value;
      reports = far.reports ++ did.reports;
      stands = done.stands;
      text = then_more before now after far.reports did.reports far.text done.text;
      goes_on = λ deeds.
          ap (λ (l : List SessionDeed). ran_in scene (l ++ deeds) start) one_more
          ∙ ap (λ (l : List SessionDeed). ran_in scene l start) (append_assoc (videos_from first (number - first)) (deed ∷ []) deeds)
          ∙ far.goes_on (deed ∷ deeds)
          ∙ ap (behind far.reports) (ran_on scene deed deeds far.part holds)
          ∙ ap (λ (l : List Report). record (ran_in scene deeds did.value) { reports = l })
          (sym (append_assoc far.reports did.reports (ran_in scene deeds did.value).reports));
    }

-- all were delivered
pub videos_end : (scene : Scene) (first last number : ℕ) (start : Part) (before : Reporting) (new : Loopback) (now : Reporting)
    → number - first ≡ last + 1 - first → VideosSoFar scene first number start before new now
    → RanAll scene (video_deeds first last) start true new before now
videos_end scene first last number start before new now all far =
    let deeds : List SessionDeed = videos_from first (number - first) in
    let whole : ran_in scene (video_deeds first last) start ≡ behind far.reports (record { part = far.part; reports = []; refused = false }) =
    ap (λ (k : ℕ). ran_in scene (videos_from first k) start) (sym all)
    ∙ ap (λ (l : List SessionDeed). ran_in scene l start) (sym (append-nil deeds))
    ∙ far.goes_on [] ∙ ap (behind far.reports) (ran_none scene far.part) in
    subst (λ (r : RanIn). RanScene scene r true new before now) (sym whole) (record {
      done_is = refl;
      stands = λ _. far.stands;
      text = far.text ∙ ap (with_reports before) (sym (append-nil far.reports));
    })

-- one was refused
pub videos_stop : (scene : Scene) (first last number : ℕ) (start : Part) (before : Reporting) (mid new : Loopback) (now after : Reporting)
    → first ≤ number → number ≤ last → (far : VideosSoFar scene first number start before mid now)
    → RanAll scene (TakeVideo number ∷ []) far.part false new now after
    → RanAll scene (video_deeds first last) start false new before after
videos_stop scene first last number start before mid new now after begun within far ran =
    let deed : SessionDeed = TakeVideo number in
    let isnt : is_allowed scene deed far.part ≡ false = one_allowed scene deed far.part false new now after ran in
    let same : after ≡ now = one_unchanged scene deed far.part new now after ran in
    let count : last + 1 - first ≡ number - first + suc (last - number) = omega (arith, begun, within) in
    let place : first + (number - first) ≡ number = omega (arith, begun) in
    let rest : List SessionDeed = videos_from (number + 1) (last - number) in
    let deeds : video_deeds first last ≡ videos_from first (number - first) ++ deed ∷ rest =
    ap (videos_from first) count ∙ from_split first (number - first) (suc (last - number))
    ∙ ap (λ (k : ℕ). videos_from first (number - first) ++ videos_from k (suc (last - number))) place in
    let whole : ran_in scene (video_deeds first last) start ≡ behind far.reports (refused_at far.part) =
    ap (λ (l : List SessionDeed). ran_in scene l start) deeds ∙ far.goes_on (deed ∷ rest)
    ∙ ap (behind far.reports) (ran_off scene deed rest far.part isnt) in
    subst (λ (r : RanIn). RanScene scene r false new before after) (sym whole) (record {
      done_is = refl;
      stands = λ e. absurd cc;
      text = same ∙ far.text ∙ ap (with_reports before) (sym (append-nil far.reports));
    })
