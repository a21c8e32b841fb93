-- Behind any deeds the lines of a kind are what the sessions' lists have.
use Rattle.std.proofs.Common.{◌≡◌, ◌<◌, ◌+◌, ◌-◌, ℕ, zero, suc, Bool, true, false, cond, ◌&&◌, List, [], ◌∷◌, ◌++◌, length, Option, Some, None, refl, sym, ap}
use Rattle.std.proofs.Common.{subst, ◌∙◌, arith, inl, inr}
use Rattle.std.specs.Prelude.{◌==◌, slice_get, reverse}
use Rattle.std.specs.List.{filter, flat_map}
use Rattle.std.proofs.lemmas.Bool.{cases_eq, eq-eqb, ne_eqb}
use Rattle.std.proofs.lemmas.List.{append_assoc, append-nil}
use Rattle.std.proofs.lemmas.List.Elements.{filter-append}
use Rattle.gs_enet.proofs.Lists.{Each}
use Rattle.gs_schedule.specs.declared.output.Output.{Output}
use Rattle.gs_run.specs.CaptureFile.{CaptureFile}
use Rattle.gs_run.specs.Session.{Part, RunSession, State, start, session_numbered, replaced, with_session}
use Rattle.gs_run.specs.Report.{Report}
use Rattle.gs_run.specs.Scene.{Scene, scene_of}
use Rattle.gs_run.specs.Deed.{SessionDeed, Deed, Open, Capture, Pass, In}
use Rattle.gs_run.specs.Connection.{settled_part}
use Rattle.gs_run.specs.Hearing.{timed_part}
use Rattle.gs_run.specs.Opening.{client_of, opened_session, opened_part, session_settings}
use Rattle.gs_run.specs.Refusal.{Refusal, refusal}
use Rattle.gs_run.specs.Done.{done_in, settled_in, after_in, all_timed, after, unless_refused, ran_on, ran}
use Rattle.gs_run.specs.ReportLaws.{session_of, reported_lines, over_parts, is_hand, is_ask, is_play, RunsReport, RunsReportHanded, RunsReportAsked}
use Rattle.gs_run.specs.ReportLaws.{RunsReportPlayed}
use Rattle.gs_run.proofs.Reporting.{of_kind}
use Rattle.gs_run.proofs.PartLines.{IsOf, Tells, settled_tells}
use Rattle.gs_run.proofs.StreamLines.{tells_hands, tells_asks, tells_plays}

-- ---- lines by session

names : ℕ → Report → Bool
names n r = session_of r.output == n

lines_in_two : (kind : Output → Bool) (n : ℕ) (rs : List Report) → reported_lines kind n rs ≡ filter (names n) (of_kind kind rs)
unfolding names
lines_in_two kind n [] = refl
lines_in_two kind n (r ∷ rs) = by (kind r.output) (lines_in_two kind n rs) where
  by : (b : Bool) → reported_lines kind n rs ≡ filter (names n) (of_kind kind rs)
      → cond (b && session_of r.output == n) (r ∷ reported_lines kind n rs) (reported_lines kind n rs)
      ≡ filter (names n) (cond b (r ∷ of_kind kind rs) (of_kind kind rs))
  by true rest = ap (λ (l : List Report). cond (session_of r.output == n) (r ∷ l) l) rest
  by false rest = rest

own_kept : (n : ℕ) (rs : List Report) → Each (IsOf n) rs → filter (names n) rs ≡ rs
unfolding names
own_kept n [] all = refl
own_kept n (r ∷ rs) all = by (session_of r.output == n) (eq-eqb (session_of r.output) n all.0) (own_kept n rs all.1) where
  by : (b : Bool) → b ≡ true → filter (names n) rs ≡ rs → cond b (r ∷ filter (names n) rs) (filter (names n) rs) ≡ r ∷ rs
  by true e rest = ap (λ (l : List Report). r ∷ l) rest
  by false e rest = absurd cc

others_dropped : (n m : ℕ) (rs : List Report) → (m ≡ n → ⊥) → Each (IsOf m) rs → filter (names n) rs ≡ []
unfolding names
others_dropped n m [] apart all = refl
others_dropped n m (r ∷ rs) apart all =
    by (session_of r.output == n) (ne_eqb (session_of r.output) n (λ e. apart (sym all.0 ∙ e))) (others_dropped n m rs apart all.1)
  where
    by : (b : Bool) → b ≡ false → filter (names n) rs ≡ [] → cond b (r ∷ filter (names n) rs) (filter (names n) rs) ≡ []
    by true e rest = absurd cc
    by false e rest = rest

reported_lines-append : (kind : Output → Bool) (n : ℕ) (xs ys : List Report)
    → reported_lines kind n (xs ++ ys) ≡ reported_lines kind n xs ++ reported_lines kind n ys
reported_lines-append kind n xs ys = filter-append (λ (r : Report). kind r.output && session_of r.output == n) xs ys

-- ---- sessions by number

pub here_replaced : (sessions : List RunSession) (k : ℕ) (old new : RunSession) → slice_get sessions k ≡ Some old
    → slice_get (replaced sessions k new) k ≡ Some new
here_replaced [] k old new e = absurd cc
here_replaced (s ∷ sessions) zero old new e = refl
here_replaced (s ∷ sessions) (suc k) old new e = here_replaced sessions k old new e

pub others_stay : (sessions : List RunSession) (k j : ℕ) (new : RunSession) → (j ≡ k → ⊥) → slice_get (replaced sessions k new) j ≡ slice_get sessions j
others_stay [] k j new apart = refl
others_stay (s ∷ sessions) zero zero new apart = absurd (apart refl)
others_stay (s ∷ sessions) zero (suc j) new apart = refl
others_stay (s ∷ sessions) (suc k) zero new apart = refl
others_stay (s ∷ sessions) (suc k) (suc j) new apart = others_stay sessions k j new (λ e. apart (ap (λ (x : ℕ). suc x) e))

-- ---- what the lines are

-- what the session of a number gives, if there is one
abbrev pub given_at : (ℕ → Part → List Report) → ℕ → Option RunSession → List Report
given_at give n None = []
given_at give n (Some session) = over_parts (give n) session

-- the lines so far are what the sessions give
abbrev AreLines : (Output → Bool) → (ℕ → Part → List Report) → State → List Report → Type 0
AreLines kind give state reports = (n : ℕ) → reported_lines kind n reports ≡ given_at give n (session_numbered state n)

-- ---- a deed in a session

in_lines : (kind : Output → Bool) (give : ℕ → Part → List Report) → Tells kind give → (scene : Scene) (d : SessionDeed) (part : Part) (n : ℕ)
    → (scene.session ≡ n → ⊥) → reported_lines kind n (settled_in scene d part).reports ≡ []
in_lines kind give tells scene d part n apart =
    let did = done_in scene d part in
    ap (reported_lines kind n) (append-nil did.reports) ∙ lines_in_two kind n did.reports
    ∙ others_dropped n scene.session (of_kind kind did.reports) apart (tells.owned scene d part)

own_lines : (kind : Output → Bool) (give : ℕ → Part → List Report) → Tells kind give → (scene : Scene) (d : SessionDeed) (part : Part)
    → reported_lines kind scene.session (settled_in scene d part).reports ≡ of_kind kind (settled_in scene d part).reports
own_lines kind give tells scene d part =
    let did = done_in scene d part in
    ap (reported_lines kind scene.session) (append-nil did.reports) ∙ lines_in_two kind scene.session did.reports
    ∙ own_kept scene.session (of_kind kind did.reports) (tells.owned scene d part) ∙ ap (of_kind kind) (sym (append-nil did.reports))

-- the session's number is one more than its place
after_in_lines : (kind : Output → Bool) (give : ℕ → Part → List Report) → Tells kind give → (scene : Scene) (d : SessionDeed) (k : ℕ) → scene.session ≡ suc k
    → (o : Option RunSession) (state : State) (reports : List Report) → slice_get state.sessions k ≡ o → AreLines kind give state reports
    → AreLines kind give (after_in scene d o state).value (reports ++ (after_in scene d o state).reports)
after_in_lines kind give tells scene d k is None state reports there are = λ n. ap (reported_lines kind n) (append-nil reports) ∙ are n
after_in_lines kind give tells scene d k is (Some session) state reports there are = λ n. at n where
  place : scene.session - 1 ≡ k
  place = omega (arith, is)

  mine : reported_lines kind scene.session (reports ++ (settled_in scene d session.part).reports)
      ≡ over_parts (give scene.session) (record session { part = (settled_in scene d session.part).value })
  mine =
      let before : reported_lines kind scene.session reports ≡ over_parts (give scene.session) session =
      are scene.session ∙ ap (λ (x : ℕ). given_at give scene.session (session_numbered state x)) is ∙ ap (given_at give scene.session) there in
      reported_lines-append kind scene.session reports (settled_in scene d session.part).reports
      ∙ ap (λ (l : List Report). l ++ reported_lines kind scene.session (settled_in scene d session.part).reports) before
      ∙ ap (λ (l : List Report). over_parts (give scene.session) session ++ l) (own_lines kind give tells scene d session.part)
      ∙ append_assoc (flat_map (give scene.session) (reverse session.earlier)) (give scene.session session.part) (of_kind kind
      (settled_in scene d session.part).reports)
      ∙ ap (λ (l : List Report). flat_map (give scene.session) (reverse session.earlier) ++ l) (sym (settled_tells kind give tells scene d session.part))

  at : (n : ℕ) → reported_lines kind n (reports ++ ((settled_in scene d session.part).reports ++ []))
      ≡ given_at give n (session_numbered (with_session scene.session (record session { part = (settled_in scene d session.part).value }) state) n)
  at zero =
      reported_lines-append kind zero reports ((settled_in scene d session.part).reports ++ [])
      ∙ ap (λ (l : List Report). reported_lines kind zero reports ++ l)
      (ap (reported_lines kind zero) (append-nil (settled_in scene d session.part).reports) ∙ in_lines kind give tells scene d session.part zero
      (λ e. absurd (omega (arith, e, is))))
      ∙ append-nil (reported_lines kind zero reports) ∙ are zero
  at (suc j) = elim (cases_eq j k) [
    | inl same ↦
        let number : scene.session ≡ suc j = is ∙ ap (λ (x : ℕ). suc x) (sym same) in
        ap (λ (l : List Report). reported_lines kind (suc j) (reports ++ l)) (append-nil (settled_in scene d session.part).reports)
        ∙ subst (λ (x : ℕ). reported_lines kind x (reports ++ (settled_in scene d session.part).reports)
        ≡ over_parts (give x) (record session { part = (settled_in scene d session.part).value })) number mine
        ∙ sym (ap (given_at give (suc j)) (subst (λ (x : ℕ). slice_get (replaced state.sessions x (record session {
          part =
              (settled_in scene d session.part).value;
        })) j
        ≡ Some (record session { part = (settled_in scene d session.part).value })) (sym place)
        (subst (λ (x : ℕ). slice_get (replaced state.sessions k (record session { part = (settled_in scene d session.part).value })) x
        ≡ Some (record session { part = (settled_in scene d session.part).value })) (sym same)
        (here_replaced state.sessions k session (record session { part = (settled_in scene d session.part).value }) there))))
    | inr apart ↦
        reported_lines-append kind (suc j) reports ((settled_in scene d session.part).reports ++ [])
        ∙ ap (λ (l : List Report). reported_lines kind (suc j) reports ++ l)
        (ap (reported_lines kind (suc j)) (append-nil (settled_in scene d session.part).reports)
        ∙ in_lines kind give tells scene d session.part (suc j) (λ e. apart (omega (arith, e, is))))
        ∙ append-nil (reported_lines kind (suc j) reports) ∙ are (suc j)
        ∙ sym (ap (given_at give (suc j)) (others_stay state.sessions (scene.session - 1) j (record session {
          part =
              (settled_in scene d session.part).value;
        })
        (λ e. apart (e ∙ place))))
  ]

-- ---- a session is opened

pushed_given : (give : ℕ → Part → List Report) (n j : ℕ) (sessions : List RunSession) (new : RunSession) → given_at give n (Some new) ≡ []
    → given_at give n (slice_get (sessions ++ new ∷ []) j) ≡ given_at give n (slice_get sessions j)
pushed_given give n zero [] new none = none
pushed_given give n (suc j) [] new none = refl
pushed_given give n zero (s ∷ sessions) new none = refl
pushed_given give n (suc j) (s ∷ sessions) new none = pushed_given give n j sessions new none

-- ---- time

-- what a session adds, if there is one
abbrev added : (Output → Bool) → (n now : ℕ) → Option RunSession → List Report
added kind n now None = []
added kind n now (Some session) = of_kind kind (timed_part n now session.part).reports

-- no line names a session before the first of them
below : (kind : Output → Bool) (give : ℕ → Part → List Report) → Tells kind give → (m now : ℕ) (sessions : List RunSession) (n : ℕ) → n < m
    → reported_lines kind n (all_timed m now sessions).reports ≡ []
below kind give tells m now [] n under = refl
below kind give tells m now (session ∷ sessions) n under =
    let first = (timed_part m now session.part).reports in
    let rest = (all_timed (m + 1) now sessions).reports in
    reported_lines-append kind n first (rest ++ [])
    ∙ ap (λ (l : List Report). l ++ reported_lines kind n (rest ++ []))
    (lines_in_two kind n first ∙ others_dropped n m (of_kind kind first) (λ e. absurd (omega (arith, e, under))) (tells.time_owned m now session.part))
    ∙ ap (reported_lines kind n) (append-nil rest) ∙ below kind give tells (m + 1) now sessions n (omega (arith, under))

-- each line names the session that reported it
added_lines : (kind : Output → Bool) (give : ℕ → Part → List Report) → Tells kind give → (m now : ℕ) (sessions : List RunSession) (j n : ℕ) → n ≡ m + j
    → reported_lines kind n (all_timed m now sessions).reports ≡ added kind n now (slice_get sessions j)
added_lines kind give tells m now [] j n is = refl
added_lines kind give tells m now (session ∷ sessions) zero n is =
    let P : ℕ → Type 0 = λ x. reported_lines kind n ((timed_part x now session.part).reports ++ ((all_timed (x + 1) now sessions).reports ++ []))
    ≡ of_kind kind (timed_part n now session.part).reports in
    let first = (timed_part n now session.part).reports in
    let rest = (all_timed (n + 1) now sessions).reports in
    let own : P n =
    reported_lines-append kind n first (rest ++ [])
    ∙ ap (λ (l : List Report). l ++ reported_lines kind n (rest ++ []))
    (lines_in_two kind n first ∙ own_kept n (of_kind kind first) (tells.time_owned n now session.part))
    ∙ ap (λ (l : List Report). of_kind kind first ++ l)
    (ap (reported_lines kind n) (append-nil rest) ∙ below kind give tells (n + 1) now sessions n (omega arith))
    ∙ append-nil (of_kind kind first) in
    subst P (omega (arith, is)) own
added_lines kind give tells m now (session ∷ sessions) (suc j) n is =
    let first = (timed_part m now session.part).reports in
    let rest = (all_timed (m + 1) now sessions).reports in
    reported_lines-append kind n first (rest ++ [])
    ∙ ap (λ (l : List Report). l ++ reported_lines kind n (rest ++ []))
    (lines_in_two kind n first ∙ others_dropped n m (of_kind kind first) (λ e. absurd (omega (arith, e, is))) (tells.time_owned m now session.part))
    ∙ ap (reported_lines kind n) (append-nil rest) ∙ added_lines kind give tells (m + 1) now sessions j n (omega (arith, is))

timed_given : (kind : Output → Bool) (give : ℕ → Part → List Report) → Tells kind give → (m now : ℕ) (sessions : List RunSession) (j n : ℕ) → n ≡ m + j
    → given_at give n (slice_get (all_timed m now sessions).value j) ≡ given_at give n (slice_get sessions j) ++ added kind n now (slice_get sessions j)
timed_given kind give tells m now [] j n is = refl
timed_given kind give tells m now (session ∷ sessions) zero n is =
    let front = flat_map (give n) (reverse session.earlier) in
    let P : ℕ → Type 0 = λ x. front ++ give n (settled_part now (timed_part x now session.part).value)
    ≡ (front ++ give n session.part) ++ of_kind kind (timed_part n now session.part).reports in
    let next = (timed_part n now session.part).value in
    let own : P n =
    ap (λ (l : List Report). front ++ l) (tells.settles n now next ∙ tells.at_time n now session.part)
    ∙ sym (append_assoc front (give n session.part) (of_kind kind (timed_part n now session.part).reports)) in
    subst P (omega (arith, is)) own
timed_given kind give tells m now (session ∷ sessions) (suc j) n is = timed_given kind give tells (m + 1) now sessions j n (omega (arith, is))

-- ---- all deeds

after_lines : (kind : Output → Bool) (give : ℕ → Part → List Report) → Tells kind give
    → (file : CaptureFile) (d : Deed) (state : State) (reports : List Report)
    → AreLines kind give state reports → AreLines kind give (after file d state).value (reports ++ (after file d state).reports)
unfolding after opened_session
after_lines kind give tells file (Open packet percentage minimum window) state reports are = opens where
  opens : (n : ℕ) → reported_lines kind n (reports ++ []) ≡ given_at give n (session_numbered (record state {
    sessions = state.sessions ++ record {
      part = opened_part (length state.sessions + 1) state.moment
          (client_of (session_settings file (length state.sessions + 1) packet percentage minimum) window);
      earlier = [];
    } ∷ [];
  }) n)
  opens zero = ap (reported_lines kind zero) (append-nil reports) ∙ are zero
  opens (suc j) =
      ap (reported_lines kind (suc j)) (append-nil reports) ∙ are (suc j)
      ∙ sym (pushed_given give (suc j) j state.sessions _
      (tells.opens (suc j) (length state.sessions + 1) state.moment
      (client_of (session_settings file (length state.sessions + 1) packet percentage minimum) window)))
after_lines kind give tells file Capture state reports are = λ n. ap (reported_lines kind n) (append-nil reports) ∙ on n where
  on : (n : ℕ) → reported_lines kind n reports ≡ given_at give n (session_numbered (record state { captured = state.captured + 1 }) n)
  on zero = are zero
  on (suc j) = are (suc j)
after_lines kind give tells file (Pass by) state reports are = passes where
  front : (n : ℕ) → reported_lines kind n (reports ++ ((all_timed 1 (state.moment + by) state.sessions).reports ++ []))
      ≡ reported_lines kind n reports ++ reported_lines kind n (all_timed 1 (state.moment + by) state.sessions).reports
  front n = reported_lines-append kind n reports ((all_timed 1 (state.moment + by) state.sessions).reports ++ [])
      ∙ ap (λ (l : List Report). reported_lines kind n reports ++ reported_lines kind n l) (append-nil (all_timed 1 (state.moment + by) state.sessions).reports)

  passes : (n : ℕ) → reported_lines kind n (reports ++ ((all_timed 1 (state.moment + by) state.sessions).reports ++ []))
      ≡ given_at give n (session_numbered
      (record state { moment = state.moment + by; sessions = (all_timed 1 (state.moment + by) state.sessions).value }) n)
  passes zero =
      front zero ∙ ap (λ (l : List Report). reported_lines kind zero reports ++ l)
      (below kind give tells 1 (state.moment + by) state.sessions zero (omega arith)) ∙ append-nil (reported_lines kind zero reports) ∙ are zero
  passes (suc j) =
      front (suc j) ∙ ap (λ (l : List Report). l ++ reported_lines kind (suc j) (all_timed 1 (state.moment + by) state.sessions).reports) (are (suc j))
      ∙ ap (λ (l : List Report). given_at give (suc j) (slice_get state.sessions j) ++ l)
      (added_lines kind give tells 1 (state.moment + by) state.sessions j (suc j) (omega arith))
      ∙ sym (timed_given kind give tells 1 (state.moment + by) state.sessions j (suc j) (omega arith))
after_lines kind give tells file (In zero d) state reports are = λ n. ap (reported_lines kind n) (append-nil reports) ∙ are n
after_lines kind give tells file (In (suc k) d) state reports are =
    after_in_lines kind give tells (scene_of file (suc k) state) d k refl (slice_get state.sessions k) state reports refl are

ran_lines : (kind : Output → Bool) (give : ℕ → Part → List Report) → Tells kind give → (file : CaptureFile) (ds : List Deed) (state : State)
    (reports : List Report)
    → AreLines kind give state reports → AreLines kind give (ran file ds state).state (reports ++ (ran file ds state).reports)
unfolding ran
ran_lines kind give tells file [] state reports are = λ n. ap (reported_lines kind n) (append-nil reports) ∙ are n
ran_lines kind give tells file (d ∷ ds) state reports are =
    by (refusal file d state) (ran_lines kind give tells file ds (after file d state).value (reports ++ (after file d state).reports)
    (after_lines kind give tells file d state reports are))
  where
    by : (o : Option Refusal)
        → AreLines kind give (ran file ds (after file d state).value).state ((reports ++ (after file d state).reports)
        ++ (ran file ds (after file d state).value).reports)
        → AreLines kind give (ran_on (unless_refused o (after file d state)) state (ran file ds)).state
        (reports ++ (ran_on (unless_refused o (after file d state)) state (ran file ds)).reports)
    by (Some why) more = λ n. ap (reported_lines kind n) (append-nil reports) ∙ are n
    by None more = λ n. ap (reported_lines kind n) (sym (append_assoc reports (after file d state).reports (ran file ds
        (after file d state).value).reports)) ∙ more n

-- from the start, for every number
pub all_reports_of : (kind : Output → Bool) (give : ℕ → Part → List Report) → Tells kind give → (file : CaptureFile) (ds : List Deed) (n : ℕ)
    → reported_lines kind n (ran file ds start).reports ≡ given_at give n (session_numbered (ran file ds start).state n)
all_reports_of kind give tells file ds n = ran_lines kind give tells file ds start [] starts n where
  starts : (n : ℕ) → reported_lines kind n [] ≡ given_at give n (session_numbered start n)
  starts zero = refl
  starts (suc j) = refl

pub reports_of : (kind : Output → Bool) (give : ℕ → Part → List Report) → Tells kind give → RunsReport kind give
reports_of kind give tells file ds number session there = all_reports_of kind give tells file ds number ∙ ap (given_at give number) there

pub runs_report_handed : RunsReportHanded
runs_report_handed = reports_of is_hand _ tells_hands

pub runs_report_asked : RunsReportAsked
runs_report_asked = reports_of is_ask _ tells_asks

pub runs_report_played : RunsReportPlayed
runs_report_played = reports_of is_play _ tells_plays
