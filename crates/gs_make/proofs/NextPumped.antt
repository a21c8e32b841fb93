-- What a pump delivers next: the next datagram of a kind that has one, or nothing.
use Rattle.std.proofs.Common.{◌≡◌, ◌<◌, ◌≤◌, ◌+◌, ◌-◌, ℕ, zero, suc, Bool, true, false, cond, Option, Some, None, refl, arith}
use Rattle.std.specs.Prelude.{nat_lt, unwrap_or}
use Rattle.std.specs.List.{find, range_with_len}
use Rattle.std.specs.Option.{option_map, IfSome}
use Rattle.std.proofs.lemmas.Bool.{ltb-true}
use Rattle.gs_run.specs.Session.{PartMarks}
use Rattle.gs_run.specs.Deed.{SessionDeed, TakeVideo, TakeAudio, TakeUp, TakeDown, Mark}
use Rattle.gs_run.specs.Pump.{Pumping, is_kept, next_kept, next_above, or_else, next_control, next_pumped}

-- what holds of each delivery that may be the next
pub record OfNext (at ends : PartMarks) (P : SessionDeed → Type 0) : Type 0 where
  pub video : (k : ℕ) → at.video < k → k ≤ ends.video → P (TakeVideo k)
  pub audio : (k : ℕ) → at.audio < k → k ≤ ends.audio → P (TakeAudio k)
  pub up : at.up < ends.up → P (TakeUp (at.up + 1))
  pub down : at.down < ends.down → P (TakeDown (at.down + 1))
  pub mark : P Mark

of_kept : (P : SessionDeed → Type 0) (deed : ℕ → SessionDeed) (test : ℕ → Bool) (a n above to : ℕ) → a + n ≤ to + 1 → above < a
    → ((k : ℕ) → above < k → k ≤ to → P (deed k)) → IfSome (option_map deed (find test (range_with_len a n))) P
of_kept P deed test a zero above to within more holds = tt
of_kept P deed test a (suc n) above to within more holds =
    by (test a) (of_kept P deed test (a + 1) n above to (omega (arith, within)) (omega (arith, more)) holds)
  where
    by : (b : Bool) → IfSome (option_map deed (find test (range_with_len (a + 1) n))) P
        → IfSome (option_map deed (cond b (Some a) (find test (range_with_len (a + 1) n)))) P
    by true rest = holds a more (omega (arith, within))
    by false rest = rest

of_above : (P : SessionDeed → Type 0) (deed : ℕ → SessionDeed) (above to : ℕ) → (above < to → P (deed (above + 1)))
    → IfSome (option_map deed (next_above above to)) P
of_above P deed above to holds = by (nat_lt above to) refl where
  by : (b : Bool) → nat_lt above to ≡ b → IfSome (option_map deed (cond b (Some (above + 1)) None)) P
  by true below = holds (ltb-true above to below)
  by false not_below = tt

of_either : (P : SessionDeed → Type 0) (a b : Option SessionDeed) → IfSome a P → IfSome b P → IfSome (or_else a b) P
of_either P None b first second = second
of_either P (Some x) b first second = first

of_whole : (P : SessionDeed → Type 0) (o : Option SessionDeed) → IfSome o P → P Mark → P (unwrap_or o Mark)
of_whole P None some none = none
of_whole P (Some x) some none = some

pub of_next : (every : ℕ) (pumping : Pumping) (ends : PartMarks) (P : SessionDeed → Type 0) → OfNext pumping.at ends P → P (next_pumped every pumping ends)
of_next every pumping ends P k =
    let at : PartMarks = pumping.at in
    let up = of_above P TakeUp at.up ends.up k.up in
    let down = of_above P TakeDown at.down ends.down k.down in
    let a : Option SessionDeed = option_map TakeUp (next_above at.up ends.up) in
    let b : Option SessionDeed = option_map TakeDown (next_above at.down ends.down) in
    of_whole P
    (or_else (option_map TakeVideo (next_kept every at.video ends.video))
    (or_else (option_map TakeAudio (next_kept every at.audio ends.audio)) (next_control pumping ends)))
    (of_either P (option_map TakeVideo (next_kept every at.video ends.video))
    (or_else (option_map TakeAudio (next_kept every at.audio ends.audio)) (next_control pumping ends))
    (kept TakeVideo at.video ends.video k.video)
    (of_either P (option_map TakeAudio (next_kept every at.audio ends.audio)) (next_control pumping ends)
    (kept TakeAudio at.audio ends.audio k.audio)
    (in_turn pumping.down_is_next a b up down)))
    k.mark
  where
    kept : (deed : ℕ → SessionDeed) (above to : ℕ) → ((n : ℕ) → above < n → n ≤ to → P (deed n)) → IfSome (option_map deed (next_kept every above to)) P
    kept deed above to holds = by (to - above) refl where
      by : (n : ℕ) → to - above ≡ n → IfSome (option_map deed (find (is_kept every) (range_with_len (above + 1) n))) P
      by zero none = tt
      by (suc n) some = of_kept P deed (is_kept every) (above + 1) (suc n) above to (omega (arith, some)) (omega arith) holds

    in_turn : (b : Bool) (up down : Option SessionDeed) → IfSome up P → IfSome down P → IfSome (cond b (or_else down up) (or_else up down)) P
    in_turn true up down first second = of_either P down up second first
    in_turn false up down first second = of_either P up down first second
