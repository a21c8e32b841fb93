-- A session that is opened: the datagrams that open it are there.
use Rattle.std.proofs.Common.{◌≡◌, ◌-◌, ◌%◌, ℕ, Bool, true, false, List, [], ◌∷◌, refl, sym, ap, subst, ◌∙◌}
use Rattle.std.specs.Prelude.{◌==◌}
use Rattle.std.proofs.lemmas.Bool.{eq-eqb}
use Rattle.gs_tape.specs.Tick.{Tick}
use Rattle.gs_frames.specs.Client.{ClientSettings}
use Rattle.gs_store.specs.Named.{is_nameable}
use Rattle.gs_enet.specs.Record.{PeerRecord, VerifyConnect, control, accepting, at_moment}
use Rattle.gs_enet.specs.Receive.{verify_if, owed_answer, command_received}
use Rattle.gs_enet.specs.Write.{Orders, next_items, wrote_next}
use Rattle.gs_enet.specs.World.{Written}
use Rattle.gs_enet.specs.Sides.{all_told, written_out}
use Rattle.gs_run.specs.Session.{Part}
use Rattle.gs_run.specs.Scene.{Scene}
use Rattle.gs_run.specs.Deed.{TakeUp, TakeDown}
use Rattle.gs_run.specs.Connection.{settled_part}
use Rattle.gs_run.specs.Hearing.{up_taken, down_taken}
use Rattle.gs_run.specs.Opening.{new_part, opened_part}
use Rattle.gs_report.specs.Reporting.{Reporting}
use Rattle.gs_loopback.specs.declared.session.Loopback.{Loopback}
use Rattle.gs_loopback.specs.Standing.{IsLoopbackOf}
use Rattle.gs_loopback.specs.Outcomes.{RanAll}
use Rattle.gs_loopback.proofs.Turns.{one_allowed, one_stands}

-- both sides wrote for the first time
abbrev pub first_written : ℕ → ℕ → ClientSettings → Part
first_written session now c = settled_part now (new_part (session - 1) now c)

-- the client took what the host answered
abbrev pub verified : ℕ → ℕ → ClientSettings → Part
verified session now c = settled_part now (down_taken session now 1 (first_written session now c)).value

answer_is_there : (session now : ℕ) (c : ClientSettings) → is_nameable (first_written session now c).host.wrote 1 ≡ true
unfolding settled_part written_out wrote_next next_items
answer_is_there session now c = refl

-- what the host answers
abbrev pub host_answer : ℕ → ℕ → ClientSettings → Written
host_answer session now c = record {
  by = at_moment now (accepting (session - 1) 0 c.stream.ssrc now);
  items = Orders (record { content = VerifyConnect; channel = control; number = 1 }) ∷ [];
}

answer_is : (session now : ℕ) (c : ClientSettings)
    → (first_written session now c).host.wrote ≡ host_answer session now c ∷ []
unfolding settled_part written_out wrote_next next_items
answer_is session now c = refl

-- the client behind it, where the connect id is its own
abbrev pub answered : ℕ → ℕ → ClientSettings → Bool → Part
answered session now c own =
    let first : Part = first_written session now c in
    let by : PeerRecord = (host_answer session now c).by in
    record first {
      client = record (first.client) {
        peer = all_told (verify_if own by.own (owed_answer (by.now % 65536) control 1) (at_moment now first.client.peer));
      };
    }

answered_is : (session now : ℕ) (c : ClientSettings)
    → (down_taken session now 1 (first_written session now c)).value ≡ answered session now c (c.stream.ssrc == c.stream.ssrc)
unfolding settled_part written_out wrote_next next_items down_taken command_received
answered_is session now c = refl

acknowledged : (session now : ℕ) (c : ClientSettings) (own : Bool) → own ≡ true
    → is_nameable (settled_part now (answered session now c own)).client.wrote 2 ≡ true
unfolding settled_part written_out wrote_next next_items
acknowledged session now c true e = refl
acknowledged session now c false e = absurd cc

acknowledgement_is_there : (session now : ℕ) (c : ClientSettings) → is_nameable (verified session now c).client.wrote 2 ≡ true
acknowledgement_is_there session now c =
    ap (λ (p : Part). is_nameable (settled_part now p).client.wrote 2) (answered_is session now c)
    ∙ acknowledged session now c (c.stream.ssrc == c.stream.ssrc) (eq-eqb c.stream.ssrc c.stream.ssrc refl)

-- the part is the one that a run opens
opened_is : (session now : ℕ) (c : ClientSettings)
    → settled_part now (up_taken session now 2 (verified session now c)).value ≡ opened_part session now c
unfolding opened_part settled_part
opened_is session now c = refl

-- what was delivered is what may be
taken_down : (scene : Scene) (part : Part) (done : Bool) (new : Loopback) (before now : Reporting)
    → is_nameable part.host.wrote 1 ≡ true → RanAll scene (TakeDown 1 ∷ []) part done new before now
    → IsLoopbackOf new scene.session scene.ticks (settled_part scene.moment (down_taken scene.session scene.moment 1 part).value)
taken_down scene part done new before now there ran =
    let so : done ≡ true = sym (one_allowed scene (TakeDown 1) part done new before now ran) ∙ there in
    (one_stands scene (TakeDown 1) part new before now
    (subst (λ (b : Bool). RanAll scene (TakeDown 1 ∷ []) part b new before now) so ran)).stands

taken_up : (scene : Scene) (part : Part) (done : Bool) (new : Loopback) (before now : Reporting)
    → is_nameable part.client.wrote 2 ≡ true → RanAll scene (TakeUp 2 ∷ []) part done new before now
    → IsLoopbackOf new scene.session scene.ticks (settled_part scene.moment (up_taken scene.session scene.moment 2 part).value)
taken_up scene part done new before now there ran =
    let so : done ≡ true = sym (one_allowed scene (TakeUp 2) part done new before now ran) ∙ there in
    (one_stands scene (TakeUp 2) part new before now
    (subst (λ (b : Bool). RanAll scene (TakeUp 2 ∷ []) part b new before now) so ran)).stands

pub opens : (session now : ℕ) (ticks : List Tick) (c : ClientSettings) (new written : Loopback) (down up : Bool) (mid last : Loopback)
    (r0 r1 r2 r3 : Reporting) → IsLoopbackOf new session ticks (new_part (session - 1) now c)
    → ((session : ℕ) (ticks : List Tick) (part : Part) → IsLoopbackOf new session ticks part → IsLoopbackOf written session ticks (settled_part now part))
    → ((scene : Scene) (part : Part) → scene.moment ≡ now → IsLoopbackOf written scene.session scene.ticks part
    → RanAll scene (TakeDown 1 ∷ []) part down mid r0 r1)
    → ((scene : Scene) (part : Part) → scene.moment ≡ now → IsLoopbackOf mid scene.session scene.ticks part
    → RanAll scene (TakeUp 2 ∷ []) part up last r2 r3)
    → IsLoopbackOf last session ticks (opened_part session now c)
opens session now ticks c new written down up mid last r0 r1 r2 r3 stands settles takes_down takes_up =
    let scene : Scene = record { ticks = ticks; captured = 0; moment = now; session = session } in
    let first : Part = first_written session now c in
    let second : Part = verified session now c in
    let one : IsLoopbackOf written session ticks first = settles session ticks (new_part (session - 1) now c) stands in
    let two : IsLoopbackOf mid session ticks second =
    taken_down scene first down mid r0 r1 (answer_is_there session now c) (takes_down scene first refl one) in
    subst (IsLoopbackOf last session ticks) (opened_is session now c)
    (taken_up scene second up last r2 r3 (acknowledgement_is_there session now c) (takes_up scene second refl two))
