-- The capture that a number generates.
use Rattle.std.specs.Prelude.{ℕ, zero, suc, ◌+◌, ◌-◌, ◌*◌, ◌/◌, ◌%◌, ◌^◌, List, [], ◌∷◌, ◌++◌, map, nat_lt, ◌==◌}
use Rattle.std.specs.Prelude.{if◌then◌else◌}
use Rattle.std.specs.List.{range_with_len}
use Rattle.gs_tape.specs.Limits.{generated_audio}
use Rattle.gs_tape.specs.Tick.{Tick, Delta}

-- A draw takes a state modulo 2 ^ 64 to the next one, and gives what stands above its low 33 bits.
abbrev pub next_state : ℕ → ℕ
next_state state = (state * 6364136223846793005 + 1442695040888963407) % 2 ^ 64

abbrev pub draw : ℕ → ℕ
draw state = next_state state / 2 ^ 33

-- what was drawn from a state, and the state then
pub record Drawn (A : Type 0) : Type 0 where
  pub value : A
  pub state : ℕ

-- bytes that count up from a base, modulo 251
abbrev pub pattern : ℕ → ℕ → List ℕ
pattern length base = map (λ i. (base + i) % 251) (range_with_len 0 length)

-- a unit of a length, whose base is drawn
unfoldable pub drawn_unit : ℕ → ℕ → Drawn (List ℕ)
drawn_unit length state = record { value = pattern length (draw state % 251); state = next_state state }

-- a unit whose length is drawn, from `least` on, and then its base
unfoldable pub unit_from : ℕ → ℕ → ℕ → Drawn (List ℕ)
unit_from least span state = drawn_unit (least + draw state % span) (next_state state)

-- one more delta of tick t, against the tick so many before, where there is one
unfoldable pub with_delta : ℕ → ℕ → Drawn (List Delta) → Drawn (List Delta)
with_delta t back so_far =
    if nat_lt back t
    then record {
      value = so_far.value ++ record { named = t - back; unit = (unit_from 41000 2000 so_far.state).value } ∷ [];
      state = (unit_from 41000 2000 so_far.state).state;
    }
    else so_far

abbrev pub deltas : ℕ → ℕ → Drawn (List Delta)
deltas t state =
    with_delta t 1 (with_delta t 2 (with_delta t 4 (with_delta t 8 (record { value = []; state = state }))))

-- one more audio unit
unfoldable pub with_sound : Drawn (List (List ℕ)) → Drawn (List (List ℕ))
with_sound so_far = record {
  value = so_far.value ++ (drawn_unit generated_audio so_far.state).value ∷ [];
  state = (drawn_unit generated_audio so_far.state).state;
}

-- three audio units, four where t is a multiple of 3
abbrev pub three_sounds : ℕ → Drawn (List (List ℕ))
three_sounds state = with_sound (with_sound (with_sound (record { value = []; state = state })))

abbrev pub sounds : ℕ → ℕ → Drawn (List (List ℕ))
sounds t state = if t % 3 == 0 then with_sound (three_sounds state) else three_sounds state

-- tick t, 60 of them in 1,000 ms
unfoldable pub tick : ℕ → ℕ → Drawn Tick
tick t state =
    let idr = unit_from 100000 20000 state in
    let behind = deltas t idr.state in
    let audio = sounds t behind.state in
    record {
      value = record {
        number = t;
        time = (t - 1) * 1000 / 60;
        idr = idr.value;
        deltas = behind.value;
        audio = audio.value;
      };
      state = audio.state;
    }

-- so many ticks, from tick t on
unfoldable pub ticks_from : ℕ → ℕ → ℕ → List Tick
ticks_from zero t state = []
ticks_from (suc n) t state = (tick t state).value ∷ ticks_from n (t + 1) (tick t state).state

abbrev pub generated : ℕ → ℕ → List Tick
generated number ticks = ticks_from ticks 1 number

-- a generator: its state, the next tick, and the last one
pub record Generating : Type 0 where
  pub state : ℕ
  pub next : ℕ
  pub last : ℕ

-- the ticks that it will still give
abbrev pub ticks_to_come : Generating → List Tick
ticks_to_come g = ticks_from (g.last + 1 - g.next) g.next g.state
