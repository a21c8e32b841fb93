-- What a legal history keeps.
use Rattle.std.proofs.Common.{◌≡◌, ◌<◌, ◌≤◌, ◌+◌, ℕ, List, [], ◌∷◌, Some, sym, ap, subst, arith, inl, inr}
use Rattle.std.proofs.lemmas.Bool.{cases_eq, cases_lt}
use Rattle.gs_tape.specs.Tick.{Tick, tick_numbered}
use Rattle.gs_refs.specs.declared.entry.Entry.{Entry}
use Rattle.gs_refs.specs.declared.entry.Entry.TheVariants.{Sent, Invalid, IdrAsked, Ended}
use Rattle.gs_refs.specs.History.{frames, tick_of, last_tick}
use Rattle.gs_refs.specs.Choice.{IsLegal}
use Rattle.gs_refs.proofs.Lookups.{tick_of-sent, tick_of-before}

pub ticks_rise : (ticks : List Tick) (h : List Entry) (v w : ℕ) → IsLegal ticks h → 1 ≤ v → v < w → w ≤ frames h → tick_of h v < tick_of h w
ticks_rise ticks [] v w legal least rises most = absurd (omega arith)
ticks_rise ticks (Sent tick kind reference ∷ h) v w legal least rises most =
    let later : last_tick h < tick = legal.2.0 in
    let before = tick_of-before h tick kind reference v (omega arith) in
    elim (cases_eq w (frames h + 1)) [
      | inl last ↦
          let this = tick_of-sent h tick kind reference w last in
          let up_to : tick_of h v ≤ last_tick h = elim (cases_lt v (frames h)) [
            | inl below ↦ let rise = ticks_rise ticks h v (frames h) legal.0 least below (omega arith) in omega arith
            | inr at_it ↦ let same : v ≡ frames h = omega arith in let e : tick_of h v ≡ last_tick h = ap (tick_of h) same in omega (arith, e)
          ] in
          omega (arith, before, this)
      | inr other ↦
          let this = tick_of-before h tick kind reference w (omega arith) in
          let rise = ticks_rise ticks h v w legal.0 least rises (omega arith) in
          omega (arith, before, this)
    ]
ticks_rise ticks (Invalid first last ∷ h) v w legal least rises most = ticks_rise ticks h v w legal.0 least rises most
ticks_rise ticks (IdrAsked ∷ h) v w legal least rises most = ticks_rise ticks h v w legal.0 least rises most
ticks_rise ticks (Ended first last ∷ h) v w legal least rises most = ticks_rise ticks h v w legal.0 least rises most

abbrev IsThere : List Tick → ℕ → Type 0
IsThere ticks n = (t : Tick) × (tick_numbered ticks n ≡ Some t)

pub frames_are_of_ticks : (ticks : List Tick) (h : List Entry) (v : ℕ) → IsLegal ticks h → 1 ≤ v → v ≤ frames h → IsThere ticks (tick_of h v)
frames_are_of_ticks ticks [] v legal least most = absurd (omega arith)
frames_are_of_ticks ticks (Sent tick kind reference ∷ h) v legal least most =
    let There : ℕ → Type 0 = IsThere ticks in
    let later : last_tick h < tick = legal.2.0 in
    elim (cases_eq v (frames h + 1)) [
      | inl last ↦ subst There (sym (tick_of-sent h tick kind reference v last)) (legal.2.1, legal.2.2)
      | inr other ↦
          let within : v ≤ frames h = omega arith in
          subst There (sym (tick_of-before h tick kind reference v within)) (frames_are_of_ticks ticks h v legal.0 least within)
    ]
frames_are_of_ticks ticks (Invalid first last ∷ h) v legal least most = frames_are_of_ticks ticks h v legal.0 least most
frames_are_of_ticks ticks (IdrAsked ∷ h) v legal least most = frames_are_of_ticks ticks h v legal.0 least most
frames_are_of_ticks ticks (Ended first last ∷ h) v legal least most = frames_are_of_ticks ticks h v legal.0 least most
