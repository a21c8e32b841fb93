-- The ticks that the sessions of a trial want are kept.
use Rattle.std.proofs.Common.{◌≡◌, ◌<◌, ◌≤◌, ◌⊎◌, ℕ, Bool, true, false, cond, List, length, max, Some, None, refl, sym}
use Rattle.std.proofs.Common.{ap, subst, ◌∙◌, arith, inl, inr}
use Rattle.std.specs.Prelude.{IfSome, slice_index_or, slice_set, ◌==◌}
use Rattle.std.specs.List.{All}
use Rattle.std.proofs.lemmas.Bool.{eqb-true}
use Rattle.std.proofs.lemmas.List.Elements.{All-set}
use Rattle.gs_tape.specs.Limits.{most_audio}
use Rattle.gs_tape.specs.declared.stage.Stage.TheVariants.{Open}
use Rattle.gs_feed.specs.Feeding.{Feeding, forgotten}
use Rattle.gs_host_end.specs.declared.end.HostEnd.{HostEnd}
use Rattle.gs_host_end.specs.Outcomes.{KeepsTicks, SentNothing, tick_sent}
use Rattle.gs_loopback.specs.declared.session.Loopback.{Loopback}
use Rattle.gs_loopback.proofs.Parts.{still_keeps}
use Rattle.gs_trial.specs.declared.trial.Trial.{Trial}
use Rattle.gs_trial.specs.Standing.{IsReady}
use Rattle.gs_trial.specs.Running.{IsSameButText}

-- over another feed, which forgot as much or up to what is wanted
pub keeps_wanted : (old new : Feeding) (wanted : ℕ) (h : HostEnd) → new.tape.audio ≡ old.tape.audio → forgotten new ≤ max (forgotten old) wanted
    → IfSome (tick_sent h) (λ last. wanted ≤ last) → KeepsTicks old h → KeepsTicks new h
keeps_wanted old new wanted h audio less want keeps = record { audio = audio ∙ keeps.audio; kept = by (h.frames == 0) refl want keeps.kept }
  where
    by : (b : Bool) → (h.frames == 0) ≡ b → IfSome (cond b None (Some h.last_tick)) (λ last. wanted ≤ last) → (h.frames ≡ 0) ⊎ (forgotten old ≤ h.last_tick)
        → (h.frames ≡ 0) ⊎ (forgotten new ≤ h.last_tick)
    by true e want kept = inl (eqb-true h.frames 0 e)
    by false e want (inl none) = inl none
    by false e want (inr still) = inr (omega (arith, less, want, still))

pub all_wanted : (old new : Feeding) (wanted : ℕ) (ls : List Loopback) → new.tape.audio ≡ old.tape.audio → forgotten new ≤ max (forgotten old) wanted
    → All (λ l. IfSome (tick_sent l.host) (λ last. wanted ≤ last)) ls → All (λ l. KeepsTicks old l.host) ls → All (λ l. KeepsTicks new l.host) ls
all_wanted old new wanted ls audio less want keep = λ k d within.
    keeps_wanted old new wanted (slice_index_or ls k d).host audio less (want k d within) (keep k d within)

-- ---- a trial that is ready stays it

-- over the same feed and the same sessions
pub ready_kept : (old new : Trial) → new.feed ≡ old.feed → new.sessions.items ≡ old.sessions.items → IsReady old → IsReady new
ready_kept old new feed sessions ready = record {
  stage = subst (λ (f : Feeding). f.tape.stage ≡ Open) (sym feed) ready.stage;
  audio = subst (λ (f : Feeding). f.tape.audio ≤ most_audio) (sym feed) ready.audio;
  duration = subst (λ (f : Feeding). (f.tape.duration ≡ 5) ⊎ (f.tape.duration ≡ 10)) (sym feed) ready.duration;
  keep = subst (λ (ls : List Loopback). All (λ l. KeepsTicks new.feed l.host) ls) (sym sessions)
      (subst (λ (f : Feeding). All (λ l. KeepsTicks f l.host) old.sessions.items) (sym feed) ready.keep);
}

-- with other text that waits
pub ready_still : (old new : Trial) → IsSameButText old new → IsReady old → IsReady new
ready_still old new same ready = ready_kept old new same.feed (ap (λ v. v.items) same.sessions) ready

-- a session in place of another, whose ticks are kept
pub ready_with : (old new : Trial) (place : ℕ) (now : Loopback) → new.feed ≡ old.feed
    → new.sessions.items ≡ slice_set old.sessions.items place now → KeepsTicks old.feed now.host → IsReady old → IsReady new
ready_with old new place now feed sessions keeps ready = record {
  stage = subst (λ (f : Feeding). f.tape.stage ≡ Open) (sym feed) ready.stage;
  audio = subst (λ (f : Feeding). f.tape.audio ≤ most_audio) (sym feed) ready.audio;
  duration = subst (λ (f : Feeding). (f.tape.duration ≡ 5) ⊎ (f.tape.duration ≡ 10)) (sym feed) ready.duration;
  keep =
      let put : All (λ l. KeepsTicks old.feed l.host) (slice_set old.sessions.items place now) =
      All-set (λ l. KeepsTicks old.feed l.host) old.sessions.items place now keeps ready.keep in
      subst (λ (ls : List Loopback). All (λ l. KeepsTicks new.feed l.host) ls) (sym sessions)
      (subst (λ (f : Feeding). All (λ l. KeepsTicks f l.host) (slice_set old.sessions.items place now)) (sym feed) put);
}

-- one whose host sent nothing
pub ready_sent : (old new : Trial) (place : ℕ) (was now : Loopback) → new.feed ≡ old.feed
    → new.sessions.items ≡ slice_set old.sessions.items place now → place < length old.sessions.items
    → was ≡ slice_index_or old.sessions.items place was → SentNothing was.host now.host → IsReady old → IsReady new
ready_sent old new place was now feed sessions within at sent ready =
    let keeps : KeepsTicks old.feed was.host =
    subst (λ (l : Loopback). KeepsTicks old.feed l.host) (sym at) (ready.keep place was within) in
    ready_with old new place now feed sessions (still_keeps old.feed was.host now.host sent keeps) ready
