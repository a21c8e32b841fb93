-- The sums of sessions.
use Rattle.std.proofs.Common.{◌≡◌, ◌+◌, ◌<◌, ◌≤◌, ℕ, zero, suc, List, [], ◌∷◌, ◌++◌, length, take, Some, sym, ap, subst, ◌∙◌, arith}
use Rattle.std.specs.Prelude.{slice_get, slice_index_or}
use Rattle.std.specs.List.{sum_by}
use Rattle.std.proofs.lemmas.List.{take_all}
use Rattle.gs_tape.specs.Tick.{Tick}
use Rattle.gs_refs.specs.History.{frames}
use Rattle.gs_schedule.specs.declared.output.Output.TheVariants as output
use Rattle.gs_loopback.specs.declared.session.Sums.{Sums}
use Rattle.gs_report.specs.Reporting.{Reporting, with_reports}
use Rattle.gs_report.proofs.Reported.{with_more}
use Rattle.gs_loopback.specs.declared.session.Loopback.{Loopback}
use Rattle.gs_loopback.specs.Standing.{AreSums, IsLoopbackOf}
use Rattle.gs_run.specs.Session.{Part, RunSession, handed_of, asked_of, played_of}
use Rattle.gs_run.specs.Report.{Report, plain}
use Rattle.gs_run.specs.Totals.{inputs_of, parts_of, total_of, totals_from}
use Rattle.gs_trial.specs.Standing.{AreSessions, IsSession}
use Rattle.gs_trial.proofs.SessionLists.{session_at, sessions_long}

-- the sum of one part
one : (f : Part → ℕ) (s : RunSession) → s.earlier ≡ [] → sum_by f (parts_of s) ≡ f s.part
one f s none = ap (λ (l : List Part). sum_by f (s.part ∷ l)) none ∙ omega arith

pub total_is : (number : ℕ) (s : RunSession) (sums : Sums) → s.earlier ≡ [] → AreSums sums s.part
    → plain (output.Total number sums.frames sums.handed sums.asks sums.inputs sums.units) ≡ total_of number s
unfolding total_of
total_is number s sums none are =
    let a : sums.frames ≡ sum_by (λ part. frames part.history) (parts_of s) = are.frames ∙ sym (one (λ part. frames part.history) s none) in
    let b : sums.handed ≡ sum_by (λ part. length (handed_of part)) (parts_of s) = are.handed ∙ sym (one (λ part. length (handed_of part)) s none) in
    let c : sums.asks ≡ sum_by (λ part. length (asked_of part)) (parts_of s) = are.asks ∙ sym (one (λ part. length (asked_of part)) s none) in
    let d : sums.inputs ≡ sum_by (λ part. length (inputs_of part)) (parts_of s) = are.inputs ∙ sym (one (λ part. length (inputs_of part)) s none) in
    let e : sums.units ≡ sum_by (λ part. length (played_of part)) (parts_of s) = are.units ∙ sym (one (λ part. length (played_of part)) s none) in
    cc

-- those of the sessions up to one more
totals_suc : (n k : ℕ) (ss : List RunSession) (s : RunSession) → slice_get ss k ≡ Some s
    → totals_from n (take (suc k) ss) ≡ totals_from n (take k ss) ++ total_of (n + k) s ∷ []
totals_suc n k [] s at = absurd cc
totals_suc n zero (t ∷ ss) s at =
    let same : t ≡ s = cc in
    ap (λ (u : RunSession). total_of n u ∷ []) same ∙ ap (λ (m : ℕ). total_of m s ∷ []) (omega arith)
totals_suc n (suc k) (t ∷ ss) s at =
    let there : n + 1 + k ≡ n + suc k = omega arith in
    ap (λ (l : List Report). total_of n t ∷ l)
    (totals_suc (n + 1) k ss s at ∙ ap (λ (m : ℕ). totals_from (n + 1) (take k ss) ++ total_of m s ∷ []) there)

totals_next : (n k : ℕ) (ss : List RunSession) (s : RunSession) → slice_get ss k ≡ Some s
    → totals_from n (take (k + 1) ss) ≡ totals_from n (take k ss) ++ total_of (n + k) s ∷ []
totals_next n k ss s at =
    let one : k + 1 ≡ suc k = omega arith in
    ap (λ (m : ℕ). totals_from n (take m ss)) one ∙ totals_suc n k ss s at

-- a turn of the loop: one more is reported
pub sums_more : (ticks : List Tick) (k : ℕ) (ls : List Loopback) (ss : List RunSession) (was : Loopback) (sums : Sums) (first before after : Reporting)
    → AreSessions ticks 1 ls ss → before ≡ with_reports first (totals_from 1 (take k ss)) → k < length ls → was ≡ slice_index_or ls k was
    → ((session : ℕ) (ticks : List Tick) (part : Part) → IsLoopbackOf was session ticks part → AreSums sums part)
    → after ≡ with_reports before (plain (output.Total (k + 1) sums.frames sums.handed sums.asks sums.inputs sums.units) ∷ [])
    → after ≡ with_reports first (totals_from 1 (take (k + 1) ss))
sums_more ticks k ls ss was sums first before after are text within at told more =
    let f = session_at ticks 1 ls ss k was are within in
    let is : IsSession ticks (1 + k) was f.0 = subst (λ (x : Loopback). IsSession ticks (1 + k) x f.0) (sym at) f.2 in
    let number : k + 1 ≡ 1 + k = omega arith in
    let total : plain (output.Total (k + 1) sums.frames sums.handed sums.asks sums.inputs sums.units) ≡ total_of (1 + k) f.0 =
    ap (λ (m : ℕ). plain (output.Total m sums.frames sums.handed sums.asks sums.inputs sums.units)) number
    ∙ total_is (1 + k) f.0 sums is.earlier (told (1 + k) ticks f.0.part is.part) in
    more ∙ ap (λ (r : Report). with_reports before (r ∷ [])) total
    ∙ ap (λ (r : Reporting). with_reports r (total_of (1 + k) f.0 ∷ [])) text
    ∙ with_more first (totals_from 1 (take k ss)) (total_of (1 + k) f.0 ∷ [])
    ∙ ap (with_reports first) (sym (totals_next 1 k ss f.0 f.1))

-- all, and that all is done
pub sums_all : (ticks : List Tick) (k : ℕ) (ls : List Loopback) (ss : List RunSession) (first before after : Reporting)
    → AreSessions ticks 1 ls ss → before ≡ with_reports first (totals_from 1 (take k ss)) → length ls ≤ k
    → after ≡ with_reports before (plain output.Done ∷ []) → after ≡ with_reports first (totals_from 1 ss ++ plain output.Done ∷ [])
sums_all ticks k ls ss first before after are text past done =
    let all : take k ss ≡ ss = take_all k ss (omega (arith, past, sessions_long ticks 1 ls ss are)) in
    done ∙ ap (λ (r : Reporting). with_reports r (plain output.Done ∷ [])) text
    ∙ with_more first (totals_from 1 (take k ss)) (plain output.Done ∷ [])
    ∙ ap (λ (l : List RunSession). with_reports first (totals_from 1 l ++ plain output.Done ∷ [])) all
