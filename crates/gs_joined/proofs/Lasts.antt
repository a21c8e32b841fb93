-- The last tick that a host sent, behind what it does.
use Rattle.std.proofs.Common.{◌≡◌, ◌+◌, ◌-◌, ◌∙◌, ◌⊎◌, ℕ, Bool, true, false, List, [], ◌∷◌, Result, Err, refl, ap, sym, arith, inl, inr}
use Rattle.std.specs.Prelude.{◌==◌, if◌then◌else◌}
use Rattle.std.specs.List.{range_with_len}
use Rattle.gs_tape.specs.Tick.{Tick}
use Rattle.gs_refs.specs.declared.entry.Entry.{Entry}
use Rattle.gs_refs.specs.declared.sent.Sent.{Sent}
use Rattle.gs_refs.specs.History.{frames, last_tick}
use Rattle.gs_refs.specs.Answers.{next_sent, sent_entry}
use Rattle.gs_host_core.specs.declared.act.Act.{Act}
use Rattle.gs_host_core.specs.declared.error.ToldError.{ToldError}
use Rattle.gs_host_core.specs.declared.error.ToldError.TheVariants as told_error
use Rattle.gs_host_core.specs.Acts.{IsActTold}
use Rattle.gs_host_core.specs.Hosting.{Hosting, numbers_between}
use Rattle.gs_host_core.proofs.Acted.{quiet}
use Rattle.gs_host_core.proofs.Turns.{last-sent}

-- none lie between it and the next one
pub none_between : (h : List Entry) (n : ℕ) → last_tick h + 1 ≡ n → [] ≡ numbers_between h n
none_between h n next = either (frames h == 0)
  where
    none : n - (last_tick h + 1) ≡ 0
    none = omega (arith, next)

    either : (b : Bool) → [] ≡ (if b then [] else range_with_len (last_tick h + 1) (n - (last_tick h + 1)))
    either true = refl
    either false = sym (ap (range_with_len (last_tick h + 1)) none)

-- the next one was sent
pub last_sent : (h now : List Entry) (newest : Tick) (s : Sent) → s ≡ next_sent h newest → now ≡ sent_entry s ∷ h → last_tick now ≡ newest.number
last_sent h now newest s next is = ap last_tick is ∙ last-sent h s ∙ ap (λ (x : Sent). x.tick) next

-- a message was told
pub last_told : (old new : Hosting) (a : Act) (result : Result Act ToldError)
    → IsActTold old.history new.history a result ⊎ ((result ≡ Err told_error.OutOfMemory) × (new ≡ old)) → last_tick new.history ≡ last_tick old.history
last_told old new a result (inr same) = ap (λ (v : Hosting). last_tick v.history) same.1
last_told old new a result (inl told) =
    ap last_tick told.history ∙ quiet last_tick (λ first last l. refl) (λ l. refl) (λ first last l. refl) old.history a
