-- Datagrams of another ssrc aren't taken, and change nothing.
use Rattle.std.proofs.Common.{◌≡◌, ℕ, Bool, false, List, [], ◌∷◌, Some, None, refl, sym, ap, ◌∙◌, inl, inr}
use Rattle.std.specs.Prelude.{◌==◌}
use Rattle.std.specs.List.{All, filter, cons_option}
use Rattle.std.proofs.lemmas.Bool.{cases_Bool, cond-true, cond-false, ne_eqb}
use Rattle.std.proofs.lemmas.List.Elements.{All-head, All-tail}
use Rattle.gs_frames.specs.Client.{ClientSettings, Arrival, Datagram, Reset}
use Rattle.gs_frames.specs.Received.{Received, of_session, received, carried_shard, taken_one, taken}
use Rattle.gs_frames.specs.Settled.{settled}
use Rattle.gs_frames.specs.Handed.{settled_at_resets, handed_through}
use Rattle.gs_frames.specs.Asks.{asks_of}
use Rattle.gs_frames.specs.PartLaws.{IsOfOtherSsrc, OtherSsrcChangesNothing}
use Rattle.gs_frames.proofs.Taken.{taken-none}
use Rattle.gs_frames.proofs.HandedGrows.{handed-is}
use Rattle.gs_frames.proofs.AsksGrow.{asks-is}

-- what isn't kept is of another ssrc
abbrev IsOther : ClientSettings → (Arrival → Bool) → Arrival → Type 0
IsOther c keep arrival = keep arrival ≡ false → IsOfOtherSsrc c.stream arrival

other-not_taken : (c : ClientSettings) (arrival : Arrival) → IsOfOtherSsrc c.stream arrival → taken_one c arrival ≡ None
unfolding received
other-not_taken c (Datagram bytes) other =
    ap (of_session c.stream bytes) other.1
    ∙ cond-false (other.0.ssrc == c.stream.ssrc) (Some (record { head = other.0; shard = carried_shard c.stream.packet other.0 bytes })) None
    (ne_eqb other.0.ssrc c.stream.ssrc other.2)
other-not_taken c Reset other = absurd other

-- as much is taken
pub kept-taken : (c : ClientSettings) (keep : Arrival → Bool) (came : List Arrival) → All (IsOther c keep) came
    → taken c (filter keep came) ≡ taken c came
kept-taken c keep [] all = refl
kept-taken c keep (arrival ∷ came) all =
    let rest = kept-taken c keep came (All-tail (IsOther c keep) arrival came all) in
    elim (cases_Bool (keep arrival)) [
      | inl is_kept ↦
          ap (taken c) (cond-true (keep arrival) (arrival ∷ filter keep came) (filter keep came) is_kept)
          ∙ ap (cons_option (taken_one c arrival)) rest
      | inr left_out ↦
          ap (taken c) (cond-false (keep arrival) (arrival ∷ filter keep came) (filter keep came) left_out)
          ∙ rest ∙ sym (taken-none c arrival came (other-not_taken c arrival (All-head (IsOther c keep) arrival came all left_out)))
    ]

-- and as much was settled at each reset
resets-out : (c : ClientSettings) (arrival : Arrival) (came : List Arrival) → IsOfOtherSsrc c.stream arrival
    → settled_at_resets c (arrival ∷ came) ≡ settled_at_resets c came
resets-out c (Datagram bytes) came other = refl
resets-out c Reset came other = absurd other

resets-more : (c : ClientSettings) (arrival : Arrival) (xs ys : List Arrival) → taken c xs ≡ taken c ys → settled_at_resets c xs ≡ settled_at_resets c ys
    → settled_at_resets c (arrival ∷ xs) ≡ settled_at_resets c (arrival ∷ ys)
resets-more c (Datagram bytes) xs ys same rest = rest
resets-more c Reset xs ys same rest =
    ap (λ (rs : List Received). settled c rs ∷ settled_at_resets c xs) same
    ∙ ap (λ (resets : List ℕ). settled c (taken c ys) ∷ resets) rest

pub kept-resets : (c : ClientSettings) (keep : Arrival → Bool) (came : List Arrival) → All (IsOther c keep) came
    → settled_at_resets c (filter keep came) ≡ settled_at_resets c came
kept-resets c keep [] all = refl
kept-resets c keep (arrival ∷ came) all =
    let older = All-tail (IsOther c keep) arrival came all in
    let rest = kept-resets c keep came older in
    elim (cases_Bool (keep arrival)) [
      | inl is_kept ↦
          ap (settled_at_resets c) (cond-true (keep arrival) (arrival ∷ filter keep came) (filter keep came) is_kept)
          ∙ resets-more c arrival (filter keep came) came (kept-taken c keep came older) rest
      | inr left_out ↦
          ap (settled_at_resets c) (cond-false (keep arrival) (arrival ∷ filter keep came) (filter keep came) left_out)
          ∙ rest ∙ sym (resets-out c arrival came (All-head (IsOther c keep) arrival came all left_out))
    ]

-- the law
pub other_changes_nothing : OtherSsrcChangesNothing
other_changes_nothing c keep came all =
    let same = kept-taken c keep came all in
    let resets = kept-resets c keep came all in (
      handed-is c (filter keep came)
          ∙ ap (λ (rs : List Received). handed_through c rs (settled_at_resets c (filter keep came)) (settled c rs)) same
          ∙ ap (λ (l : List ℕ). handed_through c (taken c came) l (settled c (taken c came))) resets ∙ sym (handed-is c came),
      asks-is c (filter keep came) ∙ ap (asks_of c) same ∙ sym (asks-is c came),
    )
