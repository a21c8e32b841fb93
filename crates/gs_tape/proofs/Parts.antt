-- One step more of lists that loops build, and of what is drawn.
use Rattle.std.proofs.Common.{◌≡◌, ◌<◌, ◌≤◌, ◌-◌, zero, suc, ◌+◌, ◌*◌, ◌/◌, ◌%◌, ℕ, List, [], ◌∷◌, ◌++◌, length, take, refl, sym, ap}
use Rattle.std.proofs.Common.{subst, ◌∙◌, arith, append-nil, append_assoc}
use Rattle.std.specs.Prelude.{get_or, nat_lt}
use Rattle.std.proofs.lemmas.Bool.{cond-false, cond-true, le-ltb, lt-ltb}
use Rattle.std.specs.List.{flat_map}
use Rattle.std.proofs.Math.Nat.{mod-add-div', mul-add-mod_self_right}
use Rattle.std.proofs.lemmas.Grind.{flat_map-append}
use Rattle.std.proofs.lemmas.List.{take_more}
use Rattle.std.proofs.lemmas.List.Elements.{All-nil}
use Rattle.std.proofs.lemmas.List.FromFn.{map-range_with_len_more, take-map-range_with_len}
use Rattle.gs_tape.specs.Tick.{Tick, Delta}
use Rattle.gs_tape.specs.Capture.{delta}
use Rattle.gs_tape.specs.Writer.{IsNextTick, opened_writing}
use Rattle.gs_tape.specs.Generated.{pattern, Drawn, unit_from, with_delta, deltas, sounds, tick, ticks_from, Generating, ticks_to_come}

pub pattern_more : (n base : ℕ) → pattern (n + 1) base ≡ pattern n base ++ ((base + n) % 251) ∷ []
pattern_more n base = map-range_with_len_more (λ (i : ℕ). (base + i) % 251) 0 n n (omega arith)

-- what stands behind whole periods counts up from the base again
again_from : (n m base : ℕ) → (base + (n * 251 + m)) % 251 ≡ (base + m) % 251
again_from n m base =
    let whole : base + (n * 251 + m) ≡ n * 251 + (base + m) = omega arith in
    ap (λ (k : ℕ). k % 251) whole ∙ mul-add-mod_self_right n 251 (base + m)

pub pattern_behind : (n m base : ℕ) → pattern (n * 251 + m) base ≡ pattern (n * 251) base ++ pattern m base
pattern_behind n zero base =
    let none : n * 251 + 0 ≡ n * 251 = omega arith in
    ap (λ (k : ℕ). pattern k base) none ∙ sym (append-nil (pattern (n * 251) base))
pattern_behind n (suc m) base =
    let periods = pattern (n * 251) base in
    let one : n * 251 + suc m ≡ n * 251 + m + 1 = omega arith in
    let more : m + 1 ≡ suc m = omega arith in
    ap (λ (k : ℕ). pattern k base) one ∙ pattern_more (n * 251 + m) base
    ∙ ap (λ (l : List ℕ). l ++ ((base + (n * 251 + m)) % 251) ∷ []) (pattern_behind n m base)
    ∙ append_assoc periods (pattern m base) (((base + (n * 251 + m)) % 251) ∷ [])
    ∙ ap (λ (b : ℕ). periods ++ (pattern m base ++ b ∷ [])) (again_from n m base)
    ∙ ap (λ (l : List ℕ). periods ++ l) (sym (pattern_more m base) ∙ ap (λ (k : ℕ). pattern k base) more)

-- one period more
pub pattern_period : (n base : ℕ) → pattern ((n + 1) * 251) base ≡ pattern (n * 251) base ++ pattern 251 base
pattern_period n base =
    let more : (n + 1) * 251 ≡ n * 251 + 251 = omega arith in
    ap (λ (k : ℕ). pattern k base) more ∙ pattern_behind n 251 base

-- whole periods, and then a part of one
pub pattern_whole : (long base : ℕ) → pattern (long / 251 * 251) base ++ take (long % 251) (pattern 251 base) ≡ pattern long base
pattern_whole long base =
    let rest = long % 251 in
    let whole : long / 251 * 251 + rest ≡ long = omega (arith, mod-add-div' long 251) in
    let part : take rest (pattern 251 base) ≡ pattern rest base =
    take-map-range_with_len (λ (i : ℕ). (base + i) % 251) 0 251 rest (omega arith) in
    ap (λ (l : List ℕ). pattern (long / 251 * 251) base ++ l) part ∙ sym (pattern_behind (long / 251) rest base)
    ∙ ap (λ (k : ℕ). pattern k base) whole

pub deltas_more : (ds : List Delta) (i : ℕ) (d : Delta) → i < length ds → flat_map delta (take (i + 1) ds) ≡ flat_map delta (take i ds) ++ delta (get_or ds i d)
deltas_more ds i d within =
    ap (flat_map delta) (take_more ds i d within) ∙ flat_map-append delta (take i ds) (get_or ds i d ∷ [])
    ∙ ap (λ (l : List ℕ). flat_map delta (take i ds) ++ l) (append-nil (delta (get_or ds i d)))

-- a sum modulo m, of which a part was taken modulo m
pub mod_then_add : (y c m : ℕ) → (y % m + c) % m ≡ (y + c) % m
mod_then_add y c m =
    let whole : y / m * m + (y % m + c) ≡ y + c = omega (arith, mod-add-div' y m) in
    sym (mul-add-mod_self_right (y / m) m (y % m + c)) ∙ ap (λ (k : ℕ). k % m) whole

-- ---- what is drawn

pub delta_none : (t back : ℕ) (x : Drawn (List Delta)) → t ≤ back → with_delta t back x ≡ x
unfolding with_delta
delta_none t back x h = cond-false (nat_lt back t) _ x (le-ltb back t h)

pub delta_some : (t back : ℕ) (x : Drawn (List Delta)) → back < t
    → with_delta t back x ≡ record {
      value = x.value ++ record { named = t - back; unit = (unit_from 41000 2000 x.state).value } ∷ [];
      state = (unit_from 41000 2000 x.state).state;
    }
unfolding with_delta
delta_some t back x h = cond-true (nat_lt back t) _ x (lt-ltb back t h)

-- a tick of its parts, each drawn from the state that the one before left
pub tick_value : (t s s1 s2 : ℕ) (idr : List ℕ) (ds : List Delta) (us : List (List ℕ)) → idr ≡ (unit_from 100000 20000 s).value
    → s1 ≡ (unit_from 100000 20000 s).state
    → ds ≡ (deltas t s1).value → s2 ≡ (deltas t s1).state → us ≡ (sounds t s2).value
    → record { number = t; time = (t - 1) * 1000 / 60; idr = idr; deltas = ds; audio = us } ≡ (tick t s).value
unfolding tick
tick_value t s s1 s2 idr ds us i i' d d' u =
    let first = unit_from 100000 20000 s in
    let state : s2 ≡ (deltas t first.state).state = d' ∙ ap (λ (k : ℕ). (deltas t k).state) i' in
    let time = (t - 1) * 1000 / 60 in
    let make : List ℕ → List Delta → List (List ℕ) → Tick =
    λ (a : List ℕ) (b : List Delta) (c : List (List ℕ)). record { number = t; time = time; idr = a; deltas = b; audio = c } in
    ap (λ (a : List ℕ). make a ds us) i
    ∙ ap (λ (b : List Delta). make first.value b us) (d ∙ ap (λ (k : ℕ). (deltas t k).value) i')
    ∙ ap (λ (c : List (List ℕ)). make first.value (deltas t first.state).value c) (u ∙ ap (λ (k : ℕ). (sounds t k).value) state)

pub tick_state : (t s s1 s2 s3 : ℕ) → s1 ≡ (unit_from 100000 20000 s).state → s2 ≡ (deltas t s1).state → s3 ≡ (sounds t s2).state → s3 ≡ (tick t s).state
unfolding tick
tick_state t s s1 s2 s3 i d u =
    u ∙ ap (λ (k : ℕ). (sounds t k).state) (d ∙ ap (λ (k : ℕ). (deltas t k).state) i)

-- all ticks were given
pub none_to_come : (g : Generating) → g.last < g.next → ticks_to_come g ≡ []
unfolding ticks_from
none_to_come g h = let none : g.last + 1 - g.next ≡ 0 = omega arith in ap (λ (n : ℕ). ticks_from n g.next g.state) none

-- and one more is given
pub one_to_come : (state next last state' : ℕ) (t : Tick) → next ≤ last → t ≡ (tick next state).value → state' ≡ (tick next state).state
    → ticks_to_come (record { state = state; next = next; last = last }) ≡ t ∷ ticks_to_come (record { state = state'; next = next + 1; last = last })
unfolding ticks_from
one_to_come state next last state' t h value after =
    let some : last + 1 - next ≡ suc (last - next) = omega arith in
    let rest : last + 1 - (next + 1) ≡ last - next = omega arith in
    ap (λ (n : ℕ). ticks_from n next state) some
    ∙ ap (λ (x : Tick). x ∷ ticks_from (last - next) (next + 1) (tick next state).state) (sym value)
    ∙ ap (λ (k : ℕ). t ∷ ticks_from (last - next) (next + 1) k) (sym after)
    ∙ ap (λ (n : ℕ). t ∷ ticks_from n (next + 1) state') (sym rest)

-- a small first tick may be written after a head
pub small_is_next : (audio : ℕ) (t : Tick) → t ≡ record { number = 1; time = 0; idr = 65 ∷ 66 ∷ 67 ∷ []; deltas = []; audio = [] }
    → IsNextTick (opened_writing audio) t
small_is_next audio t is =
    let Next : Tick → Type 0 = IsNextTick (opened_writing audio) in
    subst Next (sym is) (record {
      within = record {
        number_is = refl;
        number_most = omega arith;
        not_earlier = omega arith;
        time_fits = omega arith;
        idr_most = omega arith;
        deltas_most = omega arith;
        deltas_between = tt;
        audio_most = omega arith;
        silent = λ none. refl;
        audio_whole = All-nil (λ unit. length unit ≡ audio);
      };
      room = omega arith;
    })
