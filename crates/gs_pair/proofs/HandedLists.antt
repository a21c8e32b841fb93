-- At which places the handed frames stand, and where the resets part them.
use Rattle.std.proofs.Common.{◌≡◌, ◌<◌, ◌≤◌, ◌-◌, ℕ, true, List, [], ◌∷◌, ◌++◌, length, map, get_or, refl, sym, ap, subst, ◌∙◌, arith, inl, inr, length-append}
use Rattle.std.specs.Prelude.{nat_lt, AllPairs}
use Rattle.std.specs.List.{All, Contains}
use Rattle.std.specs.List.Sorted.{IsNonDecreasing}
use Rattle.std.proofs.lemmas.Bool.{cases_lt, ltb-true}
use Rattle.std.proofs.lemmas.List.{append-nil, get_or_default, get_or-map, get_or_append_left, get_or-append_right, length-map}
use Rattle.std.proofs.lemmas.List.Elements.{All-nil, All-push, All-weaker, All-contains, Contains-get_or, filter_passes}
use Rattle.std.proofs.lemmas.List.Sorted.{IsNonDecreasingBy-short, IsNonDecreasingBy-push}
use Rattle.gs_frames.specs.Client.{ClientSettings, Arrival, Datagram, Reset}
use Rattle.gs_frames.specs.Received.{taken}
use Rattle.gs_frames.specs.Settled.{settled}
use Rattle.gs_frames.specs.Handed.{Handed, settled_at_resets, handed, newly_handed}
use Rattle.gs_frames.proofs.HandedGrows.{handed_exactly, arrival_hands, reset_hands_nothing}
use Rattle.gs_frames.proofs.HandedNext.{resets-within}
use Rattle.gs_pair.specs.References.{handed_frames, reset_cuts, CutsAreInOrder}
use Rattle.gs_bytes.proofs.Lists.{contains_behind}
use Rattle.gs_pair.proofs.Barred.{in_front}

-- ---- places

abbrev no_frame : Handed
no_frame = record { frame = 0; kind = 0; unit = [] }

-- the frame at a place
abbrev pub at : List Handed → ℕ → Handed
at hs i = get_or hs i no_frame

pub frame_at : (hs : List Handed) (i : ℕ) → i < length hs → get_or (map (λ h. h.frame) hs) i 0 ≡ (at hs i).frame
frame_at hs i within = get_or-map (λ h. h.frame) hs i no_frame 0 within

-- a member stands at a place
pub record StandsAt (hs : List Handed) (g : Handed) (i : ℕ) : Type 0 where
  pub within : i < length hs
  pub is : at hs i ≡ g

pub stands_at : (hs : List Handed) (g : Handed) → Contains hs g → (i : ℕ) × StandsAt hs g i
stands_at hs g found = (found.0, record { within = found.1; is = get_or_default hs found.0 no_frame g found.1 ∙ found.2 })

-- a smaller frame stands before
pub smaller_before : (hs : List Handed) (i j : ℕ) → AllPairs (λ a b. a.frame < b.frame) hs → i < length hs → j < length hs
    → (at hs j).frame < (at hs i).frame → j < i
smaller_before hs i j rise within inside less = elim (cases_lt j i) [
  | inl before ↦ before
  | inr not_before ↦ elim (cases_lt i j) [
    | inl behind ↦ let more = rise i j no_frame behind inside in absurd (omega arith)
    | inr not_behind ↦
        let same : j ≡ i = omega arith in
        let Less : ℕ → Type 0 = λ k. (at hs k).frame < (at hs i).frame in
        let itself : (at hs i).frame < (at hs i).frame = subst Less same less in
        absurd (omega arith)
  ]
]

-- ---- cuts

-- the frames before the cut are at most that one, and those behind it are above
pub record IsCut (hs : List Handed) (reset cut : ℕ) : Type 0 where
  pub within : cut ≤ length hs
  pub before : (i : ℕ) → i < cut → (at hs i).frame ≤ reset
  pub behind : (i : ℕ) → cut ≤ i → i < length hs → reset < (at hs i).frame

cut-more : (hs more : List Handed) (reset cut : ℕ) → IsCut hs reset cut → All (λ h. reset < h.frame) more → IsCut (hs ++ more) reset cut
cut-more hs more reset cut is above =
    let within : cut ≤ length hs = is.within in
    record {
      within = omega (arith, length-append hs more);
      before = λ i less.
          let same : at (hs ++ more) i ≡ at hs i = get_or_append_left hs more no_frame i (omega arith) in
          let Most : Handed → Type 0 = λ h. h.frame ≤ reset in
          subst Most (sym same) (is.before i less);
      behind = λ i from inside. elim (cases_lt i (length hs)) [
        | inl old ↦
            let same : at (hs ++ more) i ≡ at hs i = get_or_append_left hs more no_frame i old in
            let Above : Handed → Type 0 = λ h. reset < h.frame in
            subst Above (sym same) (is.behind i from old)
        | inr new ↦
            let same : at (hs ++ more) i ≡ at more (i - length hs) = get_or-append_right hs more (length hs) i no_frame refl new in
            let Above : Handed → Type 0 = λ h. reset < h.frame in
            subst Above (sym same) (above (i - length hs) no_frame (omega (arith, length-append hs more)))
      ];
    }

-- the cut of one of the resets
pub record IsResetCut (client : ClientSettings) (came : List Arrival) (cut : ℕ) : Type 0 where
  pub reset : ℕ
  pub is_reset : Contains (settled_at_resets client came) reset
  pub is_cut : IsCut (handed client came) reset cut

-- what one more arrival hands is above what was settled
new_above : (client : ClientSettings) (arrival : Arrival) (came : List Arrival) (reset : ℕ) → reset ≤ settled client (taken client came)
    → All (λ h. reset < h.frame) (newly_handed client arrival came)
new_above client arrival came reset most =
    let s = settled client (taken client came) in
    All-weaker (λ h. nat_lt s h.frame ≡ true) (λ h. reset < h.frame) (λ h passes. let above = ltb-true s h.frame passes in omega arith)
    (newly_handed client arrival came) (filter_passes (λ h. nat_lt s h.frame) (handed client (arrival ∷ came)))

cut_stays : (client : ClientSettings) (arrival : Arrival) (came : List Arrival) (cut : ℕ) (is : IsResetCut client came cut)
    → IsCut (handed client (arrival ∷ came)) is.reset cut
cut_stays client arrival came cut is =
    let most = All-contains (λ s. s ≤ settled client (taken client came)) (settled_at_resets client came) is.reset (resets-within client came) is.is_reset in
    let Cut : List Handed → Type 0 = λ hs. IsCut hs is.reset cut in
    subst Cut (sym (arrival_hands client arrival came))
    (cut-more (handed client came) (newly_handed client arrival came) is.reset cut is.is_cut (new_above client arrival came is.reset most))

-- the cut of a reset that comes now
new_cut : (client : ClientSettings) (came : List Arrival)
    → IsCut (handed client (Reset ∷ came)) (settled client (taken client came)) (length (handed client came))
new_cut client came =
    let hs = handed client came in
    let Cut : List Handed → Type 0 = λ l. IsCut l (settled client (taken client came)) (length hs) in
    let same : handed client (Reset ∷ came) ≡ hs =
    arrival_hands client Reset came ∙ ap (λ (l : List Handed). hs ++ l) (reset_hands_nothing client came) ∙ append-nil hs in
    subst Cut (sym same) (record {
      within = omega arith;
      before = λ i less. ((handed_exactly client came (at hs i)).0 (Contains-get_or hs i no_frame less)).is_settled;
      behind = λ i from inside. absurd (omega arith);
    })

pub cuts_are : (client : ClientSettings) (came : List Arrival) → All (IsResetCut client came) (reset_cuts client came)
cuts_are client [] = All-nil (IsResetCut client [])
cuts_are client (Datagram bytes ∷ came) =
    All-weaker (IsResetCut client came) (IsResetCut client (Datagram bytes ∷ came))
    (λ cut is. record { reset = is.reset; is_reset = is.is_reset; is_cut = cut_stays client (Datagram bytes) came cut is })
    (reset_cuts client came) (cuts_are client came)
cuts_are client (Reset ∷ came) =
    let s = settled client (taken client came) in
    let resets = settled_at_resets client came in
    All-push (IsResetCut client (Reset ∷ came)) (reset_cuts client came) (length (handed client came))
    (All-weaker (IsResetCut client came) (IsResetCut client (Reset ∷ came))
    (λ cut is. record { reset = is.reset; is_reset = contains_behind s resets is.reset is.is_reset; is_cut = cut_stays client Reset came cut is })
    (reset_cuts client came) (cuts_are client came))
    (record { reset = s; is_reset = in_front s resets; is_cut = new_cut client came })

-- they rise or stay equal
cuts_rise : (client : ClientSettings) (came : List Arrival) → IsNonDecreasing (reset_cuts client came)
cuts_rise client [] = IsNonDecreasingBy-short (λ x. x) [] (omega arith)
cuts_rise client (Datagram bytes ∷ came) = cuts_rise client came
cuts_rise client (Reset ∷ came) =
    let cuts = reset_cuts client came in
    IsNonDecreasingBy-push (λ x. x) cuts (length (handed client came)) (cuts_rise client came)
    (λ d some. (cuts_are client came (length cuts - 1) d (omega arith)).is_cut.within)

pub cuts_in_order : CutsAreInOrder
cuts_in_order client came =
    let all = length-map (handed client came) (λ (h : Handed). h.frame) in (
      cuts_rise client came,
      All-weaker (IsResetCut client came) (λ cut. cut ≤ length (handed_frames client came))
          (λ cut is. let within : cut ≤ length (handed client came) = is.is_cut.within in omega arith) (reset_cuts client came) (cuts_are client came),
    )
