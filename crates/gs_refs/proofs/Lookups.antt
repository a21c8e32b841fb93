-- What the frames of a history were sent as, once one more entry follows.
use Rattle.std.proofs.Common.{ℕ, ◌≡◌, ◌⊎◌, ◌<◌, ◌≤◌, ◌+◌, List, [], ◌∷◌, Some, None, refl, sym, ap, ◌∙◌, arith, inl, inr}
use Rattle.std.specs.Prelude.{◌==◌}
use Rattle.std.proofs.lemmas.Bool.{cond-true, cond-false, cases_Bool, eq-eqb, ne_eqb, eqb-true, or_cases}
use Rattle.gs_refs.specs.declared.entry.Entry.{Entry}
use Rattle.gs_refs.specs.declared.entry.Entry.TheVariants.{Sent, Invalid, IdrAsked, Ended}
use Rattle.gs_refs.specs.History.{frames, SentFrame, refers, where_it_refers, sent_as, sent_frame, tick_or_zero, tick_of, kind_or_zero, frame_kind}
use Rattle.gs_refs.specs.History.{reference_or_none, reference_of}

-- ---- the frame that was sent last, and those before it

-- what a frame is that goes out behind this history
abbrev pub sent_behind : List Entry → ℕ → ℕ → ℕ → SentFrame
sent_behind h tick kind reference = sent_as tick kind reference (tick_of h reference)

pub sent_frame-sent : (h : List Entry) (tick kind reference v : ℕ) → v ≡ frames h + 1
    → sent_frame (Sent tick kind reference ∷ h) v ≡ Some (sent_behind h tick kind reference)
sent_frame-sent h tick kind reference v e =
    cond-true (v == frames h + 1) (Some (sent_behind h tick kind reference)) (sent_frame h v) (eq-eqb v (frames h + 1) e)

pub sent_frame-before : (h : List Entry) (tick kind reference v : ℕ) → (v ≡ frames h + 1 → ⊥)
    → sent_frame (Sent tick kind reference ∷ h) v ≡ sent_frame h v
sent_frame-before h tick kind reference v other =
    cond-false (v == frames h + 1) (Some (sent_behind h tick kind reference)) (sent_frame h v) (ne_eqb v (frames h + 1) other)

pub tick_of-sent : (h : List Entry) (tick kind reference v : ℕ) → v ≡ frames h + 1 → tick_of (Sent tick kind reference ∷ h) v ≡ tick
tick_of-sent h tick kind reference v e = ap tick_or_zero (sent_frame-sent h tick kind reference v e)

pub tick_of-before : (h : List Entry) (tick kind reference v : ℕ) → v ≤ frames h → tick_of (Sent tick kind reference ∷ h) v ≡ tick_of h v
tick_of-before h tick kind reference v most =
    ap tick_or_zero (sent_frame-before h tick kind reference v (λ e. absurd (omega (arith, e))))

pub frame_kind-sent : (h : List Entry) (tick kind reference v : ℕ) → v ≡ frames h + 1 → frame_kind (Sent tick kind reference ∷ h) v ≡ kind
frame_kind-sent h tick kind reference v e = ap kind_or_zero (sent_frame-sent h tick kind reference v e)

pub frame_kind-before : (h : List Entry) (tick kind reference v : ℕ) → (v ≡ frames h + 1 → ⊥)
    → frame_kind (Sent tick kind reference ∷ h) v ≡ frame_kind h v
frame_kind-before h tick kind reference v other = ap kind_or_zero (sent_frame-before h tick kind reference v other)

pub reference_of-sent : (h : List Entry) (tick kind reference v : ℕ) → v ≡ frames h + 1
    → reference_of (Sent tick kind reference ∷ h) v ≡ where_it_refers kind reference
reference_of-sent h tick kind reference v e = ap reference_or_none (sent_frame-sent h tick kind reference v e)

-- an entry changes no frame but the next
pub reference_of-before : (e : Entry) (h : List Entry) (v : ℕ) → (v ≡ frames h + 1 → ⊥) → reference_of (e ∷ h) v ≡ reference_of h v
reference_of-before (Sent tick kind reference) h v other = ap reference_or_none (sent_frame-before h tick kind reference v other)
reference_of-before (Invalid first last) h v other = refl
reference_of-before IdrAsked h v other = refl
reference_of-before (Ended first last) h v other = refl

-- a frame that refers to another is of kind 1 or 5, and refers to the one that its entry names
pub it_refers : (kind reference r : ℕ) → where_it_refers kind reference ≡ Some r → ((kind ≡ 1) ⊎ (kind ≡ 5)) × (reference ≡ r)
it_refers kind reference r e = elim (cases_Bool (refers kind)) [
  | inl does ↦
      let it : Some reference ≡ Some r = sym (cond-true (refers kind) (Some reference) None does) ∙ e in (
        elim (or_cases (kind == 1) (kind == 5) does) [ inl one ↦ inl (eqb-true kind 1 one) | inr five ↦ inr (eqb-true kind 5 five) ],
        cc it,
      )
  | inr other ↦
      let none : None ≡ Some r = sym (cond-false (refers kind) (Some reference) None other) ∙ e in absurd (cc none)
]

-- a frame that wasn't sent
pub sent_frame-none : (h : List Entry) (v : ℕ) → frames h < v → sent_frame h v ≡ None
sent_frame-none [] v above = refl
sent_frame-none (Sent tick kind reference ∷ h) v above =
    sent_frame-before h tick kind reference v (λ e. absurd (omega (arith, e))) ∙ sent_frame-none h v (omega arith)
sent_frame-none (Invalid first last ∷ h) v above = sent_frame-none h v above
sent_frame-none (IdrAsked ∷ h) v above = sent_frame-none h v above
sent_frame-none (Ended first last ∷ h) v above = sent_frame-none h v above
