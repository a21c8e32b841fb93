-- The choice over small histories, computed. Each tick of the capture has a delta against each of the
-- eight before it.
use Rattle.std.proofs.Common.{ℕ, ◌≡◌, List, [], ◌∷◌, refl, map, pos, arith, true≢false}
use Rattle.gs_tape.specs.Tick.{Tick}
use Rattle.gs_refs.specs.declared.entry.Entry.{Entry}
use Rattle.gs_refs.specs.declared.entry.Entry.TheVariants.{Sent, Invalid, IdrAsked, Ended}
use Rattle.gs_refs.specs.Choice.{choice, idr, IsLegal}

abbrev tick : ℕ → List ℕ → Tick
tick n against = record { number = n; time = 0; idr = []; deltas = map (λ k. record { named = k; unit = [] }) against; audio = [] }

abbrev four : List Entry
four = Sent 4 1 3 ∷ Sent 3 1 2 ∷ Sent 2 1 1 ∷ Sent 1 2 0 ∷ []

-- the first frame; one that follows; one after frames 2 to 2 were lost, against frame 1
first : choice [] (tick 1 []) ≡ idr
first = refl

follows : choice four (tick 5 (1 ∷ 2 ∷ 3 ∷ 4 ∷ [])) ≡ record { kind = 1; reference = 4 }
follows = refl

again : choice (Invalid 2 2 ∷ four) (tick 5 (1 ∷ 2 ∷ 3 ∷ 4 ∷ [])) ≡ record { kind = 5; reference = 1 }
again = refl

-- two losses: what was built on a lost frame is lost too
twice : choice (Invalid 4 4 ∷ Sent 6 5 1 ∷ Invalid 2 2 ∷ Sent 5 1 4 ∷ four) (tick 7 (1 ∷ 2 ∷ 3 ∷ 4 ∷ 5 ∷ 6 ∷ [])) ≡ record { kind = 5; reference = 1 }
twice = refl

-- a tick without a delta against the last frame, which is valid
other : choice (Sent 2 1 1 ∷ Sent 1 2 0 ∷ []) (tick 3 (1 ∷ [])) ≡ idr
other = refl

-- no named tick is valid
none : choice (Invalid 2 2 ∷ four) (tick 5 (3 ∷ 4 ∷ [])) ≡ idr
none = refl

asked : choice (IdrAsked ∷ four) (tick 5 (1 ∷ 2 ∷ 3 ∷ 4 ∷ [])) ≡ idr
asked = refl

answered : choice (Sent 5 2 0 ∷ IdrAsked ∷ four) (tick 6 (5 ∷ [])) ≡ record { kind = 1; reference = 5 }
answered = refl

-- three frames of a capture whose ticks each have a delta against the last one
abbrev capture : List Tick
capture = tick 1 [] ∷ tick 2 (1 ∷ []) ∷ tick 3 (1 ∷ 2 ∷ []) ∷ []

abbrev three : List Entry
three = Sent 3 1 2 ∷ Sent 2 1 1 ∷ Sent 1 2 0 ∷ []

first_legal : IsLegal capture (Sent 1 2 0 ∷ [])
first_legal = (tt, refl, (omega arith, tick 1 [], refl, refl))

three_legal : IsLegal capture three
three_legal = ((first_legal, refl, (omega arith, tick 2 (1 ∷ []), refl, refl)), refl, (omega arith, tick 3 (1 ∷ 2 ∷ []), refl, refl))

-- a range that passes the frames sent ends the history, and nothing follows an end
bad_range : IsLegal capture (Ended (pos 1) (pos 9) ∷ three)
bad_range = (three_legal, refl, λ _ _ last. omega (arith, last))

nothing_follows : (e : Entry) → IsLegal capture (e ∷ Ended (pos 1) (pos 9) ∷ three) → ⊥
nothing_follows e legal = true≢false (legal.1)

-- a range of frames that were sent is no end, and one that begins at 0 is no range
no_end : IsLegal capture (Ended (pos 1) (pos 3) ∷ three) → ⊥
no_end legal = legal.2 (omega arith) (omega arith) (omega arith)

no_range : IsLegal capture (Invalid 0 1 ∷ []) → ⊥
no_range legal = absurd (omega (arith, legal.2.0))

-- nor is a tick sent twice
old_tick : IsLegal capture (Sent 3 2 0 ∷ three) → ⊥
old_tick legal = absurd (omega (arith, legal.2.0))
