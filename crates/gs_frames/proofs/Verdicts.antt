-- What the verdict says of what counts, and of the frames that become whole.
use Rattle.std.proofs.Common.{◌≡◌, ◌≤◌, ℕ, true, false, List, ◌∷◌, Option, Some, None, refl, sym, ap, subst, ◌∙◌, inl, inr, ◌⊎◌}
use Rattle.std.specs.Prelude.{◌==◌}
use Rattle.std.proofs.lemmas.Bool.{cases_Bool, cond-true, cond-false, both_ways}
use Rattle.gs_rtp.specs.Stream.{StreamSettings}
use Rattle.gs_rtp.specs.declared.video.VideoHead.{VideoHead}
use Rattle.gs_rtp.specs.Video.{video_head}
use Rattle.gs_rtp.proofs.VideoReading.{video_head-some}
use Rattle.gs_frames.specs.declared.verdict.Added.TheVariants.{Foreign}
use Rattle.gs_frames.specs.declared.verdict.Why.{Why}
use Rattle.gs_frames.specs.declared.verdict.Why.TheVariants.{Grammar, Ssrc}
use Rattle.gs_frames.specs.Client.{ClientSettings, Arrival, Datagram}
use Rattle.gs_frames.specs.Received.{Received, carried_shard, of_session, received, taken}
use Rattle.gs_frames.specs.Verdict.{judged, is_counting, counting, judged_bytes, verdict}
use Rattle.gs_frames.specs.VerdictLaws.{VerdictSaysWhatCounts, NoOtherCounts}
use Rattle.gs_frames.proofs.Judged.{judged-counts}
use Rattle.gs_frames.proofs.Taken.{taken-some, taken-none}
use Rattle.gs_frames.proofs.Counting.{counting-not, counting-one}

-- ---- by what is received

-- a datagram that isn't received is foreign
pub record IsNotReceived (c : ClientSettings) (came : List Arrival) (bytes : List ℕ) : Type 0 where
  pub nothing : received c.stream bytes ≡ None
  pub why : Why
  pub foreign : verdict c came bytes ≡ Foreign why

-- another is judged by what was taken before it
pub record IsJudged (c : ClientSettings) (came : List Arrival) (bytes : List ℕ) : Type 0 where
  pub r : Received
  pub is_received : received c.stream bytes ≡ Some r
  pub verdict_is : verdict c came bytes ≡ judged c.window r (taken c came) (counting c.window (taken c came))

by_head : (c : ClientSettings) (came : List Arrival) (bytes : List ℕ) (o : Option VideoHead) → video_head c.stream.packet bytes ≡ o
    → IsNotReceived c came bytes ⊎ IsJudged c came bytes
unfolding received verdict
by_head c came bytes None e =
    inl (record {
      nothing = ap (of_session c.stream bytes) e;
      why = Grammar;
      foreign = ap (judged_bytes c (taken c came) bytes) e;
    })
by_head c came bytes (Some head) e =
    let r : Received = record { head = head; shard = carried_shard c.stream.packet head bytes } in
    let test = head.ssrc == c.stream.ssrc in
    let made = judged c.window r (taken c came) (counting c.window (taken c came)) in
    elim (cases_Bool test) [
      | inl own ↦
          inr (record {
            r = r;
            is_received = ap (of_session c.stream bytes) e ∙ cond-true test (Some r) None own;
            verdict_is = ap (judged_bytes c (taken c came) bytes) e ∙ cond-true test made (Foreign (Ssrc head.ssrc)) own;
          })
      | inr other ↦
          inl (record {
            nothing = ap (of_session c.stream bytes) e ∙ cond-false test (Some r) None other;
            why = Ssrc head.ssrc;
            foreign = ap (judged_bytes c (taken c came) bytes) e ∙ cond-false test made (Foreign (Ssrc head.ssrc)) other;
          })
    ]

pub by_received : (c : ClientSettings) (came : List Arrival) (bytes : List ℕ) → IsNotReceived c came bytes ⊎ IsJudged c came bytes
by_received c came bytes = by_head c came bytes (video_head c.stream.packet bytes) refl

-- what is received of bytes in the grammar is of a block of its frame
pub received-block : (s : StreamSettings) (bytes : List ℕ) (r : Received) → received s bytes ≡ Some r → r.head.block ≤ r.head.last_block
unfolding received
received-block s bytes r e = of_head (video_head s.packet bytes) refl e
  where
    of_head : (o : Option VideoHead) → video_head s.packet bytes ≡ o → of_session s bytes o ≡ Some r → r.head.block ≤ r.head.last_block
    of_head None head_is e = cc
    of_head (Some head) head_is e =
        let grammar = video_head-some s.packet bytes head head_is in
        let test = head.ssrc == s.ssrc in
        let one : Received = record { head = head; shard = carried_shard s.packet head bytes } in
        elim (cases_Bool test) [
          | inr other ↦ let none : None ≡ Some r = sym (cond-false test (Some one) None other) ∙ e in cc
          | inl own ↦
              let same : Some one ≡ Some r = sym (cond-true test (Some one) None own) ∙ e in
              let is : one ≡ r = cc in
              subst (λ (x : Received). x.head.block ≤ x.head.last_block) is
              (subst (λ (h : VideoHead). h.block ≤ h.last_block) grammar.1 grammar.0.head.block)
        ]

-- ---- what counts

pub counted-not : (c : ClientSettings) (r : Received) (rs : List Received) → is_counting (judged c.window r rs (counting c.window rs)) ≡ false
    → counting c.window (r ∷ rs) ≡ counting c.window rs
counted-not c r rs e = counting-not c.window r rs (sym (judged-counts c.window r rs (counting c.window rs)) ∙ e)

pub counted-one : (c : ClientSettings) (r : Received) (rs : List Received) → is_counting (judged c.window r rs (counting c.window rs)) ≡ true
    → counting c.window (r ∷ rs) ≡ r ∷ counting c.window rs
counted-one c r rs e = counting-one c.window r rs (sym (judged-counts c.window r rs (counting c.window rs)) ∙ e)

pub verdict_says : VerdictSaysWhatCounts
verdict_says c came bytes passes = elim (by_received c came bytes) [
  | inl is ↦ absurd (both_ways (is_counting (verdict c came bytes)) (ap is_counting is.foreign) passes)
  | inr is ↦
      record {
        r = is.r;
        is_received = is.is_received;
        counted = ap (counting c.window) (taken-some c (Datagram bytes) came is.r is.is_received)
            ∙ counted-one c is.r (taken c came) (ap is_counting (sym is.verdict_is) ∙ passes);
      }
]

pub no_other_counts : NoOtherCounts
no_other_counts c came bytes fails = elim (by_received c came bytes) [
  | inl is ↦ ap (counting c.window) (taken-none c (Datagram bytes) came is.nothing)
  | inr is ↦
      ap (counting c.window) (taken-some c (Datagram bytes) came is.r is.is_received)
      ∙ counted-not c is.r (taken c came) (ap is_counting (sym is.verdict_is) ∙ fails)
]
