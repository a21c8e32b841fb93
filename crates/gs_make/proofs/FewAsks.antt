-- A client asks no more often than frames were sent, and no more frames are sent than the file has ticks.
use Rattle.std.proofs.Common.{◌≡◌, ◌<◌, ◌≤◌, ◌+◌, ◌-◌, ℕ, zero, suc, not, List, [], ◌∷◌, length, Option, Some, None, refl, ap, ◌∙◌}
use Rattle.std.proofs.Common.{arith, inl, inr}
use Rattle.std.specs.Prelude.{is_some, slice_get}
use Rattle.std.specs.List.{find, range_with_len}
use Rattle.std.proofs.lemmas.Bool.{cases_lt}
use Rattle.std.proofs.lemmas.List.{length-append}
use Rattle.gs_tape.specs.Tick.{Tick, tick_numbered}
use Rattle.gs_refs.specs.declared.entry.Entry.{Entry}
use Rattle.gs_refs.specs.declared.entry.Entry.TheVariants.{Sent, Invalid, IdrAsked, Ended}
use Rattle.gs_refs.specs.History.{frames, last_tick}
use Rattle.gs_refs.specs.Choice.{IsLegal}
use Rattle.gs_refs.proofs.Lookups.{tick_of-sent}
use Rattle.gs_frames.specs.declared.range.Range.{Range}
use Rattle.gs_frames.specs.Client.{ClientSettings}
use Rattle.gs_frames.specs.Received.{Received, taken, greatest}
use Rattle.gs_frames.specs.Complete.{complete}
use Rattle.gs_frames.specs.Asks.{lost_to, lost_by, as_list, asks_of, asks}
use Rattle.gs_frames.proofs.AsksGrow.{asks_of-empty, asks_of-more, asks-is}
use Rattle.gs_frames.proofs.Counting.{greatest-new, greatest-kept}
use Rattle.gs_stream.proofs.HandedSent.{greatest_was_sent}
use Rattle.gs_stream.proofs.StreamFrames.{taken_were_sent}
use Rattle.gs_run.specs.Session.{Part}
use Rattle.gs_run.specs.RunLaws.{IsPairedPart}

-- ---- asks

-- where no frame is newly left there is no ask
no_lost : (c : ClientSettings) (rs : List Received) (last first n : ℕ) → n ≡ 0
    → length (as_list (lost_to last (find (λ frame. not (is_some (complete c rs frame))) (range_with_len first n)))) ≡ 0
no_lost c rs last first zero e = refl
no_lost c rs last first (suc n) e = absurd (omega (arith, e))

one_at_most : {X : Type 0} (o : Option X) → length (as_list o) ≤ 1
one_at_most None = omega arith
one_at_most (Some x) = omega arith

pub asks_of_few : (c : ClientSettings) (rs : List Received) → length (asks_of c rs) ≤ greatest rs
asks_of_few c [] = omega (arith, ap (λ (l : List Range). length l) (asks_of-empty c))
asks_of_few c (r ∷ rs) =
    let before = asks_of_few c rs in
    let more : length (asks_of c (r ∷ rs)) ≡ length (asks_of c rs) + length (as_list (lost_by c r rs)) =
    ap (λ (l : List Range). length l) (asks_of-more c r rs) ∙ length-append (asks_of c rs) (as_list (lost_by c r rs)) in
    elim (cases_lt (greatest rs) r.head.frame) [
      | inl new ↦ let now = greatest-new r rs new in let one = one_at_most (lost_by c r rs) in omega (arith, before, more, now, one, new)
      | inr old ↦
          let now = greatest-kept r rs old in
          let none = no_lost c rs (r.head.frame - c.window) ((greatest rs - c.window) + 1) ((r.head.frame - c.window) - (greatest rs - c.window))
          (omega (arith, old)) in
          omega (arith, before, more, now, none)
    ]

-- ---- frames

-- a place of a list below which it has so many members
within_length : {X : Type 0} (xs : List X) (n : ℕ) (x : X) → slice_get xs n ≡ Some x → n < length xs
within_length [] n x e = absurd cc
within_length (y ∷ xs) zero x e = omega arith
within_length (y ∷ xs) (suc n) x e = let rest = within_length xs n x e in omega (arith, rest)

numbered_within : (ticks : List Tick) (k : ℕ) (t : Tick) → tick_numbered ticks k ≡ Some t → k ≤ length ticks
numbered_within ticks zero t e = omega arith
numbered_within ticks (suc k) t e = within_length ticks k t e

-- no more frames than ticks up to the last that was sent, which is one of the file's
pub frames_within : (ticks : List Tick) (h : List Entry) → IsLegal ticks h → (frames h ≤ last_tick h) × (last_tick h ≤ length ticks)
frames_within ticks [] legal = (omega arith, omega arith)
frames_within ticks (Sent tick kind reference ∷ h) legal =
    let before = frames_within ticks h legal.0 in
    let last : last_tick (Sent tick kind reference ∷ h) ≡ tick = tick_of-sent h tick kind reference (frames h + 1) refl in
    let newer : last_tick h < tick = legal.2.0 in
    let most = numbered_within ticks tick legal.2.1 legal.2.2 in
    (omega (arith, last, newer, before.0), omega (arith, last, most))
frames_within ticks (Invalid first last ∷ h) legal = frames_within ticks h legal.0
frames_within ticks (IdrAsked ∷ h) legal = frames_within ticks h legal.0
frames_within ticks (Ended first last ∷ h) legal = frames_within ticks h legal.0

-- the asks of a part are no more than the ticks
pub few_asks : (ticks : List Tick) (part : Part) → IsPairedPart ticks part → length (asks part.settings part.came) ≤ length ticks
few_asks ticks part k =
    let c = part.settings in
    let rs = taken c part.came in
    let is = ap (λ (l : List Range). length l) (asks-is c part.came) in
    let few = asks_of_few c rs in
    let sent = greatest_was_sent c.stream ticks part.history rs (taken_were_sent c ticks part.history part.came k.history k.paired.sent) in
    let within = frames_within ticks part.history k.history.legal in
    omega (arith, is, few, sent, within.0, within.1)
