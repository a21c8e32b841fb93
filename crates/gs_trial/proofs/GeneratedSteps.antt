-- The steps of a generated schedule, tick after tick.
use Rattle.std.proofs.Common.{◌≡◌, ◌+◌, ◌%◌, ◌<◌, ◌≤◌, ◌-◌, ◌^◌, ◌*◌, ◌++◌, ◌∙◌, ℕ, zero, suc, Bool, true, false, List, [], ◌∷◌, length, length-append, arith}
use Rattle.std.proofs.Common.{refl, sym, ap}
use Rattle.std.specs.Prelude.{◌==◌, cond, pos}
use Rattle.std.specs.List.{All, flat_map, range_with_len}
use Rattle.std.proofs.lemmas.Grind.{flat_map-append}
use Rattle.std.proofs.lemmas.List.Elements.{All-append, All-from_recursion, All-nil}
use Rattle.gs_input.specs.declared.event.Event.TheVariants.{KeyDown, KeyUp}
use Rattle.gs_schedule.specs.declared.step.Step.{Step}
use Rattle.gs_schedule.specs.declared.step.Step.TheVariants.{Session, Input, Pump, Close}
use Rattle.gs_run.specs.Generated.{generated_steps, key_event, tick_steps}
use Rattle.gs_trial.specs.Stepping.{IsStepAllowed}
use Rattle.gs_bytes.proofs.Lists.{range_more}

-- ---- up to a tick

-- what is pushed up to a tick
abbrev pub steps_up_to : ℕ → List Step
steps_up_to tick = Session 1392 20 2 1 ∷ Session 1392 20 2 1 ∷ flat_map tick_steps (range_with_len 1 tick)

pub steps_more : (tick : ℕ) (was now more : List Step) → was ≡ steps_up_to tick → now ≡ was ++ more → more ≡ tick_steps (tick + 1)
    → now ≡ steps_up_to (tick + 1)
steps_more tick was now more before pushed is =
    let whole : flat_map tick_steps (range_with_len 1 (tick + 1)) ≡ flat_map tick_steps (range_with_len 1 tick) ++ tick_steps (tick + 1) =
    ap (flat_map tick_steps) (range_more 1 tick (tick + 1) (omega arith)) ∙ flat_map-append tick_steps (range_with_len 1 tick) ((tick + 1) ∷ []) in
    pushed ∙ ap (λ (l : List Step). l ++ more) before ∙ ap (λ (l : List Step). steps_up_to tick ++ l) is
    ∙ ap (λ (l : List Step). Session 1392 20 2 1 ∷ Session 1392 20 2 1 ∷ l) (sym whole)

pub steps_all : (ticks tick : ℕ) (was now more : List Step) → tick ≡ ticks → was ≡ steps_up_to tick → now ≡ was ++ more
    → more ≡ Close 1 ∷ Pump 1 0 ∷ Close 2 ∷ Pump 2 0 ∷ [] → now ≡ generated_steps ticks
unfolding generated_steps
steps_all ticks tick was now more end before pushed is =
    let last : List Step = Close 1 ∷ Pump 1 0 ∷ Close 2 ∷ Pump 2 0 ∷ [] in
    pushed ∙ ap (λ (l : List Step). l ++ more) before ∙ ap (λ (l : List Step). steps_up_to tick ++ l) is
    ∙ ap (λ (k : ℕ). steps_up_to k ++ last) end

-- ---- each of them can be run

proper_key : (tick : ℕ) → IsStepAllowed (Input 1 (key_event tick))
proper_key tick = by (tick % 2 == 1)
  where
    by : (b : Bool) → IsStepAllowed (Input 1 (cond b (KeyDown (pos 65) 0) (KeyUp (pos 65) 0)))
    by true = (tt, tt)
    by false = (tt, tt)

proper_tick : (tick : ℕ) → All IsStepAllowed (tick_steps tick)
proper_tick tick = All-from_recursion IsStepAllowed (tick_steps tick) (tt, (tt, (tt, (proper_key tick, (tt, (tt, tt))))))

proper_ticks : (a n : ℕ) → All IsStepAllowed (flat_map tick_steps (range_with_len a n))
proper_ticks a zero = All-nil IsStepAllowed
proper_ticks a (suc n) = All-append IsStepAllowed (tick_steps a) (flat_map tick_steps (range_with_len (a + 1) n)) (proper_tick a) (proper_ticks (a + 1) n)

pub proper_steps : (ticks : ℕ) → All IsStepAllowed (generated_steps ticks)
unfolding generated_steps
proper_steps ticks =
    let first : List Step = Session 1392 20 2 1 ∷ Session 1392 20 2 1 ∷ [] in
    let between : List Step = flat_map tick_steps (range_with_len 1 ticks) in
    let last : List Step = Close 1 ∷ Pump 1 0 ∷ Close 2 ∷ Pump 2 0 ∷ [] in
    All-append IsStepAllowed (first ++ between) last
    (All-append IsStepAllowed first between (All-from_recursion IsStepAllowed first (tt, (tt, tt))) (proper_ticks 1 ticks))
    (All-from_recursion IsStepAllowed last (tt, (tt, (tt, (tt, tt)))))

-- ---- they are few

length_ticks : (a n : ℕ) → length (flat_map tick_steps (range_with_len a n)) ≡ 6 * n
length_ticks a zero = refl
length_ticks a (suc n) =
    length-append {A = Step} (tick_steps a) (flat_map tick_steps (range_with_len (a + 1) n)) ∙ omega (arith, length_ticks (a + 1) n)

pub few_steps : (ticks : ℕ) → ticks ≤ 2000 → length (generated_steps ticks) < 2 ^ 32 - 1
unfolding generated_steps
few_steps ticks few =
    let last : List Step = Close 1 ∷ Pump 1 0 ∷ Close 2 ∷ Pump 2 0 ∷ [] in
    let whole : length (steps_up_to ticks ++ last) ≡ length (steps_up_to ticks) + 4 = length-append {A = Step} (steps_up_to ticks) last in
    omega (arith, whole, length_ticks 1 ticks, few)
